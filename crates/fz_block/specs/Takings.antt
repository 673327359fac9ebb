-- The headers of a walk over HDUs as takings, each with the same bytes live before it.
use Rattle.std.specs.Prelude.{ℕ, zero, suc, ◌==◌, ◌*◌, Bool, true, false, List, [], ◌∷◌, ◌++◌, length, Result, Ok, Err, if◌then◌else◌}
use Rattle.std.specs.Result.{result_map_both}
use Rattle.fz_base.specs.declared.fault.Fault.{Fault}
use Rattle.fz_base.specs.declared.failure.Stop.{Stop}
use Rattle.fz_block.specs.Checks.{Judge, header_blocks_of, hdu_at}
use Rattle.fz_block.specs.Header.{next_start_of}
use Rattle.fz_block.specs.declared.header.Header.{Header}
use Rattle.fz_block.specs.declared.next.ReadHeader.{ReadHeader}

-- the header of an HDU, if its blocks were found, with so many bytes live
abbrev pub header_taking : ℕ → Result ℕ Fault → List (ℕ × ℕ)
header_taking live (Err x) = []
header_taking live (Ok blocks) = (live, 2880 * blocks) ∷ []

-- what is taken for the HDUs that follow, if the walk goes on
abbrev pub where_going_on : List ℕ → Header → List (ℕ × ℕ) → Result Bool Fault → List (ℕ × ℕ)
where_going_on file h rest (Err x) = []
where_going_on file h rest (Ok true) = []
where_going_on file h rest (Ok false) = if next_start_of h == length file then [] else rest

abbrev pub for_those_after : List ℕ → Judge → (Header → List (ℕ × ℕ)) → Result Header Fault → List (ℕ × ℕ)
for_those_after file judge rest (Err x) = []
for_those_after file judge rest (Ok h) = where_going_on file h (rest h) (judge h)

-- the headers of the HDUs from number k on that a walk looks at, with so many bytes live before each
unfoldable pub walk_takings : Judge → ℕ → ℕ → ℕ → ℕ → List ℕ → List (ℕ × ℕ)
walk_takings judge live zero k start file = []
walk_takings judge live (suc more) k start file =
    header_taking live (header_blocks_of k start file)
    ++ for_those_after file judge (λ h. walk_takings judge live more (suc k) (next_start_of h) file) (hdu_at k start file)

-- the facts of a header that was read
abbrev pub facts_in : Result ReadHeader Stop → Result Header Stop
facts_in answer = result_map_both (λ (r : ReadHeader). r.facts) (λ x. x) answer
