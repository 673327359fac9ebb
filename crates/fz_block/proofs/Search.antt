-- The search for END, block by block, in a source that tells its bytes.
use Rattle.std.proofs.Common.{◌≡◌, ℕ, ◌+◌, ◌-◌, ◌*◌, ◌<◌, ◌≤◌, min, nat_lt, Result, Ok, Err, Bool, true, false, List, [], length, take, drop, codes, bytes_eq, Option, Some, None, IfSome, refl, sym, ◌∙◌, ap, arith}
use Rattle.fz_block.proofs.Exits.{found, refused_at_once, refused, further, too_long}
use Rattle.std.proofs.lemmas.Slice.Eq.{bytes_eq-Decides}
use Rattle.std.proofs.lemmas.List.{length-take, length-drop}
use Rattle.std.proofs.lemmas.Bool.Decides.{nat_tests}
use Rattle.fz_base.specs.Source.{HoldsLength, Reads}
use Rattle.fz_base.specs.Stop.{IsDefined}
use Rattle.fz_base.specs.Refusal.{refusal}
use Rattle.fz_base.specs.declared.fault.Fault.{Fault}
use Rattle.fz_base.specs.declared.fault.Place.TheVariants.{Byte}
use Rattle.fz_base.specs.declared.kind.Kind.TheVariants.{Truncated, LongHeader}
use Rattle.fz_base.specs.declared.failure.Stop.TheVariants.{Refused, ReadFault, WriteFault, OverLimit, NoMemory}
use Rattle.fz_base.specs.declared.failure.Stop.{Stop}
use Rattle.fz_block.specs.Cards.{end_among}
use Rattle.fz_block.specs.Checks.{header_blocks_of}
use Rattle.fz_block.specs.Scan.{begin_says, block_at, block_says, next_block_says, Searched}

-- fewer than 8 bytes are left
few_left : (start len : ℕ) (g : List ℕ) → length g ≡ len → len - start < 8 → length (take 8 (drop start g)) < 8
few_left start len g told few =
    let t : length (take 8 (drop start g)) ≡ min 8 (length (drop start g)) = length-take 8 (drop start g) in
    let d : length (drop start g) ≡ length g - start = length-drop start g in
    omega (arith, t, d, told, few)

false_unless : (b : Bool) → ¬ (b ≡ true) → false ≡ b
false_unless true never = absurd (never refl)
false_unless false never = refl

pub no_extension : (held : Option (List ℕ)) (len start : ℕ) → HoldsLength held len → len - start < 8 →
    IfSome held (λ g. false ≡ bytes_eq (take 8 (drop start g)) (codes "XTENSION"))
no_extension None len start told few = tt
no_extension (Some g) len start told few =
    false_unless (bytes_eq (take 8 (drop start g)) (codes "XTENSION")) (λ same.
    let equal : take 8 (drop start g) ≡ codes "XTENSION" = (bytes_eq-Decides (take 8 (drop start g)) (codes "XTENSION")).0 same in
    let eight : length (take 8 (drop start g)) ≡ 8 = ap length equal in
    let less : length (take 8 (drop start g)) < 8 = few_left start len g told few in
    omega (arith, eight, less))

-- a block that passes the end of the file
pub past_end : (held : Option (List ℕ)) (len k start b : ℕ) (fault : Fault) → HoldsLength held len → start + 2880 * b ≤ len →
    len - (start + 2880 * b) < 2880 → fault ≡ refusal k (Byte len) Truncated →
    IfSome held (λ g. IsDefined (next_block_says k start b g) (Err (Refused fault)))
past_end None len k start b fault told within few is = tt
past_end (Some g) len k start b fault told within few is =
    let test : nat_lt (length g) (start + 2880 * (b + 1)) ≡ true = grind (arith, nat_tests) in
    rw (test, is, told) refl

-- a block that was read
pub by_block : (held : Option (List ℕ)) (len k start b : ℕ) (block : List ℕ) (answer : Result Bool Fault) → HoldsLength held len →
    start + 2880 * (b + 1) ≤ len → length block ≡ 2880 → Reads held (start + 2880 * b) block → answer ≡ block_says k b block →
    IfSome held (λ g. next_block_says k start b g ≡ answer)
by_block None len k start b block answer told within whole read is = tt
by_block (Some g) len k start b block answer told within whole read is =
    let test : nat_lt (length g) (start + 2880 * (b + 1)) ≡ false = grind (arith, nat_tests) in
    let same : block ≡ block_at start b g = read ∙ ap (λ n. take n (drop (start + 2880 * b) g)) whole in
    rw test (ap (block_says k b) (sym same) ∙ sym is)

nothing_among : end_among 0 [] ≡ None
unfolding end_among
nothing_among = refl

-- before the first block
pub search_begins : (held : Option (List ℕ)) (len k start : ℕ) → HoldsLength held len → start ≤ len → IfSome held (Searched k start 0)
search_begins None len k start told within = tt
search_begins (Some g) len k start told within =
    let nothing : 0 < 0 → ⊥ = omega arith in
    record {
      within = omega (arith, told, within);
      none = nothing_among;
      simple = λ some. absurd (nothing some);
    }

-- a block stops the search
pub search_stops : (held : Option (List ℕ)) (k start b : ℕ) (stop : Stop) → IfSome held (λ g. begin_says k start g ≡ Ok tt) →
    IfSome held (Searched k start b) → b < 256 → IfSome held (λ g. IsDefined (next_block_says k start b g) (Err stop)) →
    IfSome held (λ g. IsDefined (header_blocks_of k start g) (Err stop))
search_stops None k start b stop begins searched few says = tt
search_stops (Some g) k start b (Refused x) begins searched few says = refused k start b g x begins searched few says
search_stops (Some g) k start b ReadFault begins searched few says = tt
search_stops (Some g) k start b WriteFault begins searched few says = tt
search_stops (Some g) k start b (OverLimit live asked limit) begins searched few says = tt
search_stops (Some g) k start b NoMemory begins searched few says = tt

-- a block has END
pub search_ends : (held : Option (List ℕ)) (k start b : ℕ) (has : Bool) → has ≡ true → IfSome held (λ g. begin_says k start g ≡ Ok tt) →
    IfSome held (Searched k start b) → b < 256 → IfSome held (λ g. next_block_says k start b g ≡ Ok has) →
    IfSome held (λ g. header_blocks_of k start g ≡ Ok (b + 1))
search_ends None k start b has is begins searched few says = tt
search_ends (Some g) k start b has is begins searched few says = found k start b g begins searched few (says ∙ ap Ok is)

-- a block has no END
pub search_goes_on : (held : Option (List ℕ)) (k start b : ℕ) (has : Bool) → has ≡ false → IfSome held (Searched k start b) →
    IfSome held (λ g. next_block_says k start b g ≡ Ok has) → IfSome held (Searched k start (b + 1))
search_goes_on None k start b has is searched says = tt
search_goes_on (Some g) k start b has is searched says = further k start b g searched (says ∙ ap Ok is)

-- no block has END
pub search_fails : (held : Option (List ℕ)) (k start b : ℕ) (fault : Fault) → b ≡ 256 → IfSome held (λ g. begin_says k start g ≡ Ok tt) →
    IfSome held (Searched k start b) → fault ≡ refusal k (Byte start) LongHeader → IfSome held (λ g. header_blocks_of k start g ≡ Err fault)
search_fails None k start b fault all begins searched is = tt
search_fails (Some g) k start b fault all begins searched is = too_long k start b g begins searched all ∙ ap Err (sym is)

-- no header begins there
pub search_never_begins : (held : Option (List ℕ)) (k start : ℕ) (stop : Stop) → IfSome held (λ g. IsDefined (begin_says k start g) (Err stop)) →
    IfSome held (λ g. IsDefined (header_blocks_of k start g) (Err stop))
search_never_begins None k start stop says = tt
search_never_begins (Some g) k start (Refused x) says = refused_at_once k start g x says
search_never_begins (Some g) k start ReadFault says = tt
search_never_begins (Some g) k start WriteFault says = tt
search_never_begins (Some g) k start (OverLimit live asked limit) says = tt
search_never_begins (Some g) k start NoMemory says = tt
