-- The tile that is cut to the axes, axis by axis.
use Rattle.std.proofs.Common.{◌≡◌, ℕ, zero, suc, ◌+◌, ◌<◌, ◌≤◌, min, List, [], ◌∷◌, length, get_or, drop, refl, ap, sym, ◌∙◌, arith, inl, inr}
use Rattle.std.specs.Prelude.{Option, Some, None, slice_get}
use Rattle.std.proofs.lemmas.Bool.{cases_lt}
use Rattle.std.proofs.lemmas.List.{drop_more, drop_all}
use Rattle.fz_head.specs.Along.{cut_length}
use Rattle.fz_head.specs.Planned.{cut_tile}

abbrev rest-of : List ℕ → ℕ → Option ℕ → List ℕ
rest-of asked j None = []
rest-of asked j (Some t) = drop j asked

module _ {X : Type 0} where
  pub get-past : (xs : List X) (i : ℕ) → length xs ≤ i → slice_get xs i ≡ None
  get-past [] i past = refl
  get-past (x ∷ xs) zero past = absurd (omega arith)
  get-past (x ∷ xs) (suc i) past = get-past xs i (omega arith)

  pub get-within : (xs : List X) (i : ℕ) (d : X) → i < length xs → slice_get xs i ≡ Some (get_or xs i d)
  get-within [] i d within = absurd (omega arith)
  get-within (x ∷ xs) zero d within = refl
  get-within (x ∷ xs) (suc i) d within = get-within xs i d (omega arith)

-- one axis more is cut
pub cut-more : (lengths asked : List ℕ) (i j g : ℕ) → i < length lengths → i + 1 ≡ j → g ≡ cut_length (get_or lengths i 0) (slice_get asked i) →
    cut_tile (drop i lengths) (drop i asked) ≡ g ∷ cut_tile (drop j lengths) (drop j asked)
cut-more lengths asked i j g within next is = elim (cases_lt i (length asked)) as (λ _. cut_tile (drop i lengths) (drop i asked) ≡ g ∷ cut_tile (drop j lengths) (drop j asked)) [
  | inl inside ↦
      let front : drop i lengths ≡ get_or lengths i 0 ∷ drop j lengths = drop_more lengths i 0 within ∙ ap (λ k. get_or lengths i 0 ∷ drop k lengths) next in
      let first : drop i asked ≡ get_or asked i 0 ∷ drop j asked = drop_more asked i 0 inside ∙ ap (λ k. get_or asked i 0 ∷ drop k asked) next in
      let value : g ≡ min (get_or asked i 0) (get_or lengths i 0) = is ∙ ap (cut_length (get_or lengths i 0)) (get-within asked i 0 inside) in
      ap (λ l. cut_tile l (drop i asked)) front ∙ (ap (cut_tile (get_or lengths i 0 ∷ drop j lengths)) first ∙ ap (λ k. k ∷ cut_tile (drop j lengths) (drop j asked)) (sym value))
  | inr past ↦
      let front : drop i lengths ≡ get_or lengths i 0 ∷ drop j lengths = drop_more lengths i 0 within ∙ ap (λ k. get_or lengths i 0 ∷ drop k lengths) next in
      let none : drop i asked ≡ [] = drop_all i asked past in
      let later : drop j asked ≡ [] = drop_all j asked (omega arith) in
      let value : g ≡ 1 = is ∙ ap (cut_length (get_or lengths i 0)) (get-past asked i past) in
      ap (λ l. cut_tile l (drop i asked)) front ∙ (ap (cut_tile (get_or lengths i 0 ∷ drop j lengths)) none ∙ (ap (λ k. k ∷ cut_tile (drop j lengths) []) (sym value) ∙ ap (λ l. g ∷ cut_tile (drop j lengths) l) (sym later)))
]
