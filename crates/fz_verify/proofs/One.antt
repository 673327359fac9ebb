-- The one buffer that `list` takes after its first look: that of the longest header.
use Rattle.std.proofs.Common.{◌≡◌, ℕ, ◌+◌, ◌≤◌, nat_lt, true, false, List, [], ◌∷◌, sum, sym, ap, ◌∙◌, arith}
use Rattle.std.specs.Prelude.{Option, Some, None, IfSome, Err, if◌then◌else◌}
use Rattle.std.proofs.lemmas.Bool.Decides.{nat_tests}
use Rattle.fz_base.specs.Counts.{Tally}
use Rattle.fz_base.specs.Meter.{Gauge, RefusedFor}
use Rattle.fz_base.specs.Stop.{stop_of_short}
use Rattle.fz_base.specs.Takings.{TellsFirstPast, first_past, piled}
use Rattle.fz_base.specs.declared.failure.Short.{Short}
use Rattle.fz_base.specs.declared.failure.Short.TheVariants.{NoMemory as NoRoom, OverLimit as PastLimit}
use Rattle.fz_job.specs.Workspace.{wanted_buffers}
use Rattle.fz_job.specs.declared.survey.Survey.{Survey}
use Rattle.fz_verify.specs.Printed.{ListsSeen, list_lines}
use Rattle.fz_files.specs.declared.job.Job.TheVariants.{List as ListHdus}
use Rattle.fz_job.specs.Stages.{Works, wants_for}
use Rattle.fz_verify.proofs.Held.{sum_one}
use Rattle.fz_verify.proofs.Outcomes.{always, kept_same}
use Rattle.fz_verify.proofs.Texts.{front_none}

pub sum_of_one : (s : Survey) → sum (wanted_buffers (wants_for ListHdus s) 1) ≡ s.header_len
sum_of_one s = sum_one s.header_len

-- it was given
pub one_given : (meter : Gauge) (n : ℕ) → meter.live + n ≤ meter.limit → first_past meter.limit (piled meter.live (n ∷ [])) ≡ None
one_given meter n room =
    let test : nat_lt meter.limit (meter.live + n) ≡ false = grind (arith, nat_tests, room) in
    ap (λ b. if b then Some (meter.live, n) else None) test

-- it was not given
pub one_short_takes : (X : Type 0) (meter : Gauge) (n : ℕ) (short : Short) → RefusedFor meter n short → TellsFirstPast {X = X} meter.limit (piled meter.live (n ∷ [])) (Err (stop_of_short short))
one_short_takes X meter n NoRoom why = tt
one_short_takes X meter n (PastLimit live asked told) why =
    let test : nat_lt meter.limit (meter.live + n) ≡ true = grind (arith, nat_tests, why.0) in
    ap (λ b. if b then Some (meter.live, n) else None) test ∙ (λ i. Some (sym why.1 i, sym why.2 i))

pub one_works : (X : Type 0) (source text : Tally) (meter : Gauge) (n : ℕ) (short : Short) → RefusedFor meter n short → Works {X = X} source source text text meter.limit (Err (stop_of_short short))
one_works X source text meter n NoRoom why = record { source_kept = kept_same source; sink_kept = kept_same text; ok = tt; stop = tt }
one_works X source text meter n (PastLimit live asked told) why = record {
  source_kept = kept_same source;
  sink_kept = kept_same text;
  ok = tt;
  stop = (why.3, omega (arith, why.0, why.1, why.2));
}

-- and nothing was printed
pub short_listed : (X : Type 0) (held : Option (List ℕ)) (s : Survey) (old : Option (List ℕ)) (short : Short) → IfSome held (λ g. ListsSeen {X = X} g s old old (Err (stop_of_short short)))
short_listed X held s old NoRoom = always held (λ g. ListsSeen {X = X} g s old old (Err (stop_of_short NoRoom))) (λ g hs list. front_none (list_lines g hs) old)
short_listed X held s old (PastLimit live asked told) = always held (λ g. ListsSeen {X = X} g s old old (Err (stop_of_short (PastLimit live asked told)))) (λ g hs list. front_none (list_lines g hs) old)
