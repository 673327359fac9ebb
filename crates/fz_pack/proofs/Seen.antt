-- A header that was seen at the first look is read once more as it was.
use Rattle.std.proofs.Common.{◌≡◌, ℕ, zero, suc, ◌*◌, ◌≤◌, ◌||◌, nat_lt, Bool, true, false, List, length, take, drop, codes, Option, Some, None, IfSome, Result, Ok, Err, IsErr, refl, sym, subst, ap, ◌∙◌, arith}
use Rattle.std.proofs.lemmas.Bool.Decides.{nat_tests}
use Rattle.std.proofs.lemmas.List.{length-take}
use Rattle.fz_base.specs.Source.{Reads}
use Rattle.fz_base.specs.declared.fault.Fault.{Fault}
use Rattle.fz_base.specs.Stop.{IfRefused, IsDefined}
use Rattle.fz_base.specs.declared.failure.Stop.{Stop}
use Rattle.fz_base.specs.declared.failure.Stop.TheVariants.{NoMemory, OverLimit, ReadFault, Refused, WriteFault}
use Rattle.fz_block.specs.Again.{hdu_again_at}
use Rattle.fz_block.specs.Cards.{card_at}
use Rattle.fz_block.specs.Checks.{hdu_at, is_set}
use Rattle.fz_block.specs.Walk.{hdu_of}
use Rattle.fz_block.specs.declared.header.Header.{Header}
use Rattle.fz_checks.specs.JobChecks.{plan_to_pack}
use Rattle.fz_head.specs.declared.options.PackOptions.{PackOptions}
use Rattle.fz_head.specs.declared.plan.Plan.{Plan}
use Rattle.fz_pack.specs.Again.{ReadsAsSeen, WasSeen, is_larger, largest_of}
use Rattle.fz_pack.specs.declared.again.Again.{Again}

-- what the second reading of a header says
abbrev pub IsReadAgain : ℕ → ℕ → ℕ → Header → List ℕ → Type 0
IsReadAgain k start most h file = hdu_again_at most k start file ≡ Ok h

-- a header for which there is room is read as before
abbrev pub IsReadAlike : Type 0
IsReadAlike = (room k start : ℕ) (file : List ℕ) (h : Header) → hdu_at k start file ≡ Ok h → 2880 * h.blocks ≤ room → hdu_again_at room k start file ≡ Ok h

-- the bytes of the header at the front of the buffer
abbrev pub front : Header → List ℕ → List ℕ
front h buf = take (2880 * h.blocks) buf

small_plan : (tile : ℕ) (plan : Option Plan) → IfSome plan (λ p. largest_of p ≤ tile) → is_larger tile plan ≡ true → ⊥
small_plan tile None small large = cc
small_plan tile (Some p) small large = grind (arith, nat_tests, small, large)

other_start : (n : ℕ) (b : Bool) → (n ≡ 0 → b ≡ true) → (nat_lt 0 n || b) ≡ false → ⊥
other_start zero b simple other = let is = simple refl in grind (arith, nat_tests, is, other)
other_start (suc n) b simple other = grind (arith, nat_tests, other)

module _ (o : PackOptions) (k start most tile : ℕ) where
  -- what was seen is never refused, so all may be said of what is
  pub no_other_answer : (held : Option (List ℕ)) (stop : Stop) (x : Fault) (result : Result Again Stop) → stop ≡ Refused x → IfSome held (λ g. ReadsAsSeen o g k start most tile (Err stop)) → IfSome held (λ g. ReadsAsSeen o g k start most tile result)
  no_other_answer None stop x result is seen = tt
  no_other_answer (Some g) stop x result is seen = λ j w. absurd (subst (λ (s : Stop). IfRefused {X = Again} (Err s) (λ y. ⊥)) is (seen j w).0)

module _ (alike : IsReadAlike) (o : PackOptions) (k start most tile : ℕ) where
  -- it is not refused
  stopped : (held : Option (List ℕ)) (stop : Stop) → IfSome held (λ g. IsDefined {X = Header} (hdu_again_at most k start g) (Err stop)) → IfSome held (λ g. ReadsAsSeen o g k start most tile (Err stop))
  stopped None stop is = tt
  stopped (Some g) (Refused x) is = λ j w. let one = alike most k start g j w.found w.short in absurd cc
  stopped (Some g) ReadFault is = λ j w. (tt, tt)
  stopped (Some g) WriteFault is = λ j w. (tt, tt)
  stopped (Some g) (OverLimit live asked limit) is = λ j w. (tt, tt)
  stopped (Some g) NoMemory is = λ j w. (tt, tt)

  pub no_refusal : (held : Option (List ℕ)) (stop : Stop) (result : Result Again Stop) → result ≡ Err stop → IfSome held (λ g. IsDefined {X = Header} (hdu_again_at most k start g) (Err stop)) → IfSome held (λ g. ReadsAsSeen o g k start most tile result)
  no_refusal held stop result stops is = subst (λ (r : Result Again Stop). IfSome held (λ g. ReadsAsSeen o g k start most tile r)) (sym stops) (stopped held stop is)

module _ (alike : IsReadAlike) (o : PackOptions) (k start most tile : ℕ) (h : Header) (buf : List ℕ) where
  same_header : (g : List ℕ) (j : Header) → WasSeen o g k start most tile j → IsReadAgain k start most h g → h ≡ j
  same_header g j w again = let one = alike most k start g j w.found w.short in cc

  same_bytes : (g : List ℕ) → 2880 * h.blocks ≤ length buf → Reads (Some g) start (front h buf) → h.start ≡ start → front h buf ≡ (hdu_of g h).header
  same_bytes g room read place =
      let long : length (front h buf) ≡ 2880 * h.blocks = omega (arith, room, length-take (2880 * h.blocks) buf) in
      read ∙ ap (λ n. take n (drop start g)) long ∙ ap (λ n. take (2880 * h.blocks) (drop n g)) (sym place)

  same_plan : (g : List ℕ) (j : Header) (w : WasSeen o g k start most tile j) → h ≡ j → front h buf ≡ (hdu_of g h).header → plan_to_pack o h (front h buf) ≡ Ok w.plan
  same_plan g j w one bytes =
      ap (plan_to_pack o h) bytes ∙ ap (λ i. plan_to_pack o i (hdu_of g i).header) one ∙ w.planned

  -- no fault in its plan
  pub no_fault : (held : Option (List ℕ)) (result : Result Again Stop) → IfSome held (IsReadAgain k start most h) → 2880 * h.blocks ≤ length buf → Reads held start (front h buf) → h.start ≡ start →
      IsErr (plan_to_pack o h (front h buf)) → IfSome held (λ g. ReadsAsSeen o g k start most tile result)
  no_fault None result again room read place bad = tt
  no_fault (Some g) result again room read place bad = λ j w.
      let one = same_header g j w again in
      let bytes = same_bytes g room read place in
      let never : ◌≡◌ {A = Bool} false true = subst IsErr (same_plan g j w one bytes) bad in
      absurd cc

  -- no larger tile
  pub no_larger : (held : Option (List ℕ)) (plan : Option Plan) (result : Result Again Stop) → IfSome held (IsReadAgain k start most h) → 2880 * h.blocks ≤ length buf → Reads held start (front h buf) → h.start ≡ start →
      plan_to_pack o h (front h buf) ≡ Ok plan → is_larger tile plan ≡ true → IfSome held (λ g. ReadsAsSeen o g k start most tile result)
  no_larger None plan result again room read place planned large = tt
  no_larger (Some g) plan result again room read place planned large = λ j w.
      let one = same_header g j w again in
      let bytes = same_bytes g room read place in
      let both = sym planned ∙ same_plan g j w one bytes in
      let plans : plan ≡ w.plan = cc in
      absurd (small_plan tile w.plan w.small (subst (λ (p : Option Plan). is_larger tile p ≡ true) plans large))

  -- no other beginning
  pub no_other : (held : Option (List ℕ)) (result : Result Again Stop) → IfSome held (IsReadAgain k start most h) → 2880 * h.blocks ≤ length buf → Reads held start (front h buf) → h.start ≡ start →
      (nat_lt 0 k || is_set (codes "SIMPLE") (card_at (front h buf) 0)) ≡ false → IfSome held (λ g. ReadsAsSeen o g k start most tile result)
  no_other None result again room read place other = tt
  no_other (Some g) result again room read place other = λ j w.
      let one = same_header g j w again in
      let bytes = same_bytes g room read place in
      let header : (hdu_of g j).header ≡ front h buf = ap (λ i. (hdu_of g i).header) (sym one) ∙ sym bytes in
      absurd (other_start k (is_set (codes "SIMPLE") (card_at (front h buf) 0)) (λ first. ap (λ l. is_set (codes "SIMPLE") (card_at l 0)) (sym header) ∙ w.simple first) other)

  -- it is the same
  pub answered : (held : Option (List ℕ)) (a : Again) → IfSome held (IsReadAgain k start most h) → a.header ≡ h → IfSome held (λ g. ReadsAsSeen o g k start most tile (Ok a))
  answered None a again is = tt
  answered (Some g) a again is = λ j w. (tt, is ∙ same_header g j w again)
