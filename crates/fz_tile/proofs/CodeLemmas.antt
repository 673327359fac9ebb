-- What the codecs wrote, as bytes.
use Rattle.std.proofs.Common.{◌≡◌, ℕ, ◌*◌, ◌%◌, ◌<◌, ◌≤◌, ◌↔◌, true, false, ℤ, pos, List, ◌++◌, length, take, drop, replicate, Option, Some, None, Result, Err, inl, inr, refl, sym, subst, ap, ◌∙◌, arith, length-append}
use Rattle.std.specs.List.{All}
use Rattle.std.proofs.lemmas.List.{take_at}
use Rattle.std.proofs.lemmas.Bool.{cases_Bool}
use Rattle.fz_plio.specs.Producer.{InRange, can_hold_all, IsFirstOutside, line_list}
use Rattle.fz_plio.specs.Laws.{TestsRange}
use Rattle.fz_plio.specs.declared.encoder.PlioStop.{PlioStop}
use Rattle.fz_plio.specs.declared.encoder.PlioStop.TheVariants.{Range, Full}
use Rattle.fz_tile.specs.declared.codec.Codec.TheVariants.{Plio}
use Rattle.fz_tile.specs.TileCode.{code_of}

pub same_some : (a b : List ℕ) → ◌≡◌ {A = Option (List ℕ)} (Some a) (Some b) → a ≡ b
same_some a b e = cc

pub rice_written : (code : List ℕ) (len : ℕ) (out : List ℕ) → len ≤ length out → take len out ≡ code →
    (len ≤ length out) × (◌≡◌ {A = Option (List ℕ)} (Some code) (Some (take len out)))
rice_written code len out within is = (within, ap (λ (l : List ℕ). Some l) (sym is))

pub rice_full : (code bytes : List ℕ) (room : ℕ) → room < length code → ◌≡◌ {A = Option (List ℕ)} (Some code) (Some bytes) → room < length bytes
rice_full code bytes room full is = subst (λ (l : List ℕ). room < length l) (same_some code bytes is) full

pub cannot_hold : (xs : List ℤ) → code_of Plio xs ≡ None → (bytes : List ℕ) → code_of Plio xs ≡ Some bytes → ⊥
cannot_hold xs none bytes some = let e : ◌≡◌ {A = Option (List ℕ)} None (Some bytes) = sym none ∙ some in cc

module _ (tests : TestsRange) where
  pub can_hold : (xs : List ℤ) → All InRange xs → code_of Plio xs ≡ Some (line_list xs)
  can_hold xs fits = let is : can_hold_all xs ≡ true = (tests xs).1 fits in rw is refl

  pub line_written : (len : ℕ) (xs : List ℤ) (old out : List ℕ) → All InRange xs → len ≡ length (line_list xs) → out ≡ line_list xs ++ drop len old →
      (len ≤ length out) × (code_of Plio xs ≡ Some (take len out))
  line_written len xs old out fits size is =
      let front : take len out ≡ line_list xs = ap (take len) is ∙ take_at (line_list xs) (drop len old) len (sym size) in
      let whole = ap length is ∙ length-append (line_list xs) (drop len old) in
      (omega (arith, whole, size), can_hold xs fits ∙ ap (λ (l : List ℕ). Some l) (sym front))

  pub line_full : (room : ℕ) (xs : List ℤ) (e : PlioStop) → ((index : ℕ) → (◌≡◌ {A = Result ℕ PlioStop} (Err e) (Err (Range index))) ↔ IsFirstOutside xs index) →
      ((◌≡◌ {A = Result ℕ PlioStop} (Err e) (Err Full)) ↔ (All InRange xs × (room < length (line_list xs)))) →
      (bytes : List ℕ) → code_of Plio xs ≡ Some bytes → room < length bytes
  line_full room xs (Range index) range full bytes is =
      let first = (range index).0 refl in
      absurd (elim (cases_Bool (can_hold_all xs)) [
        | inl holds ↦ first.outside ((tests xs).0 holds index (pos 0) first.within)
        | inr lacks ↦ cannot_hold xs (rw lacks refl) bytes is
      ])
  line_full room xs Full range full bytes is =
      let facts = full.0 refl in
      let same = same_some (line_list xs) bytes (sym (can_hold xs facts.0) ∙ is) in
      omega (arith, facts.1, ap length same)
