-- Bytes of the file at a place, joined of two parts.
use Rattle.std.proofs.Common.{◌≡◌, ℕ, ◌+◌, ◌<◌, ◌≤◌, List, ◌++◌, length, take, drop, refl, sym, ap, ◌∙◌, arith}
use Rattle.std.specs.Prelude.{true, bytes_eq, nat_le}
use Rattle.std.proofs.Math.Seq.{drop-append_seam, take-add}
use Rattle.std.proofs.lemmas.Bool.{le-leb}
use Rattle.std.proofs.lemmas.List.{drop-drop, drop-take, length-append, take-take, take_at}
use Rattle.std.proofs.lemmas.Slice.Eq.{bytes_eq-Decides}
use Rattle.fz_compare.specs.Compared.{has_bytes}
use Rattle.fz_strict.proofs.Pieces.{both, first, second}

-- the bytes stand at a place
abbrev pub IsThere : List ℕ → ℕ → List ℕ → Type 0
IsThere file at bytes = take (length bytes) (drop at file) ≡ bytes

module _ (file : List ℕ) (at end : ℕ) (bytes : List ℕ) where
  pub has_there : has_bytes file at end bytes ≡ true → IsThere file at bytes
  has_there has = (bytes_eq-Decides (take (length bytes) (drop at file)) bytes).0 (second (nat_le (at + length bytes) end) (bytes_eq (take (length bytes) (drop at file)) bytes) has)

  pub has_both : IsThere file at bytes → at + length bytes ≤ end → has_bytes file at end bytes ≡ true
  has_both there within =
      sym (both (nat_le (at + length bytes) end) (bytes_eq (take (length bytes) (drop at file)) bytes) (le-leb (at + length bytes) end within)
      ((bytes_eq-Decides (take (length bytes) (drop at file)) bytes).1 there))

module _ (file : List ℕ) (at end : ℕ) (a b : List ℕ) where
  len : length (a ++ b) ≡ length a + length b
  len = length-append a b

  behind : drop (length a) (drop at file) ≡ drop (at + length a) file
  behind = drop-drop (length a) at file

  pub there_joined : IsThere file at a → IsThere file (at + length a) b → IsThere file at (a ++ b)
  there_joined one two =
      let back : take (length b) (drop (length a) (drop at file)) ≡ b = ap (take (length b)) behind ∙ two in
      ap (λ n. take n (drop at file)) len ∙ take-add (length a) (length b) (drop at file) ∙ (λ i. one i ++ back i)

  pub there_front : IsThere file at (a ++ b) → IsThere file at a
  there_front all =
      let whole : take (length a + length b) (drop at file) ≡ a ++ b = ap (λ n. take n (drop at file)) (sym len) ∙ all in
      sym (take-take (length a) (length a + length b) (drop at file) (omega arith)) ∙ ap (take (length a)) whole ∙ take_at a b (length a) refl

  pub there_back : IsThere file at (a ++ b) → IsThere file (at + length a) b
  there_back all =
      let whole : take (length a + length b) (drop at file) ≡ a ++ b = ap (λ n. take n (drop at file)) (sym len) ∙ all in
      ap (take (length b)) (sym behind) ∙ sym (drop-take (length a) (length b) (drop at file)) ∙ ap (drop (length a)) whole ∙ drop-append_seam a b

-- the bytes of the first i of some parts stand there, and before an end if there are any
pub record HasFirst (i : ℕ) (file : List ℕ) (at end : ℕ) (bytes : List ℕ) : Type 0 where
  pub there : IsThere file at bytes
  pub has : 0 < i → has_bytes file at end bytes ≡ true
