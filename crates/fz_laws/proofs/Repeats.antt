-- Names that stand twice: as before.
use Rattle.std.specs.Prelude.{⊤}
use Rattle.std.proofs.Common.{◌≡◌, ℕ, zero, suc, ◌&&◌, List, [], ◌∷◌, take, bytes_eq, position, slice_index_or, refl, ap, ◌∙◌}
use Rattle.std.specs.List.{list_any, range_with_len}
use Rattle.fz_card.specs.Layout.{card_name}
use Rattle.fz_card.specs.Naming.{is_in_some}
use Rattle.fz_card.specs.Tables.{Names}
use Rattle.fz_head.specs.Repeats.{first_repeat, repeats}
use Rattle.fz_laws.proofs.Alike.{AreAlike, any_alike, length_alike, naming, same_name}

name_alike : (cs ds : List (List ℕ)) → AreAlike cs ds → (i : ℕ) → card_name (slice_index_or ds i []) ≡ card_name (slice_index_or cs i [])
name_alike [] [] are i = refl
name_alike [] (d ∷ ds) are i = absurd are
name_alike (c ∷ cs) [] are i = absurd are
name_alike (c ∷ cs) (d ∷ ds) are zero = same_name c d are.0
name_alike (c ∷ cs) (d ∷ ds) are (suc i) = name_alike cs ds are.1 i

take_alike : (cs ds : List (List ℕ)) → AreAlike cs ds → (i : ℕ) → AreAlike (take i cs) (take i ds)
take_alike cs ds are zero = tt
take_alike [] [] are (suc i) = tt
take_alike [] (d ∷ ds) are (suc i) = absurd are
take_alike (c ∷ cs) [] are (suc i) = absurd are
take_alike (c ∷ cs) (d ∷ ds) are (suc i) = (are.0, take_alike cs ds are.1 i)

repeats_same : (once : List Names) (as_name : List ℕ → List ℕ) (cs ds : List (List ℕ)) → AreAlike cs ds → (i : ℕ) → repeats once as_name ds i ≡ repeats once as_name cs i
repeats_same once as_name cs ds are i =
    let here = name_alike cs ds are i in
    let name : List ℕ = card_name (slice_index_or cs i []) in
    (λ j. is_in_some once (here j) && list_any (λ earlier. bytes_eq (as_name (card_name earlier)) (as_name (here j))) (take i ds))
    ∙ ap (λ b. is_in_some once name && b)
    (any_alike (λ earlier. bytes_eq (as_name (card_name earlier)) (as_name name)) (naming (λ n. bytes_eq (as_name n) (as_name name))) (take i cs) (take i ds) (take_alike cs ds are i))

pub repeat_same : (once : List Names) (as_name : List ℕ → List ℕ) (cs ds : List (List ℕ)) → AreAlike cs ds → first_repeat once as_name ds ≡ first_repeat once as_name cs
repeat_same once as_name cs ds are = λ j. position (λ i. repeats_same once as_name cs ds are i j) (range_with_len 0 (length_alike cs ds are j))
