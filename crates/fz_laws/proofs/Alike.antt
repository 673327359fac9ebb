-- Lists of cards of which each is the same, or has the same name and is one that a patch may change: what is found in both is the same.
use Rattle.std.specs.Prelude.{⊤}
use Rattle.std.proofs.Common.{◌≡◌, ◌⊎◌, ℕ, zero, suc, ◌+◌, ◌<◌, ◌||◌, not, nat_lt, Bool, false, cond, List, [], ◌∷◌, length, map, bytes_eq, Option, Some, None, unwrap_or, inl, inr, refl, sym, ap, ◌∙◌, subst, arith}
use Rattle.std.specs.List.{cons_option, filter, filter_map, find, list_any, position, position_or_len, range_with_len}
use Rattle.fz_card.specs.Layout.{card_name}
use Rattle.fz_card.specs.CardLists.{first_of_name, has_name}
use Rattle.fz_head.specs.CardLists.{index_of, the_card}
use Rattle.fz_laws.proofs.Loose.{Ignores, IsFree, by_name, is_loose}

abbrev pub IsAlike : List ℕ → List ℕ → Type 0
IsAlike c d = (d ≡ c) ⊎ ((card_name d ≡ card_name c) × IsFree (card_name c))

abbrev pub AreAlike : List (List ℕ) → List (List ℕ) → Type 0
AreAlike [] [] = ⊤
AreAlike [] (d ∷ ds) = ⊥
AreAlike (c ∷ cs) [] = ⊥
AreAlike (c ∷ cs) (d ∷ ds) = IsAlike c d × AreAlike cs ds

pub same_name : (c d : List ℕ) → IsAlike c d → card_name d ≡ card_name c
same_name c d (inl same) = ap card_name same
same_name c d (inr free) = free.0

free_too : (c d : List ℕ) → card_name d ≡ card_name c → IsFree (card_name c) → IsFree (card_name d)
free_too c d same free = subst IsFree (sym same) free

same_test : (has : List ℕ → Bool) → Ignores has → (c d : List ℕ) → IsAlike c d → has d ≡ has c
same_test has ignores c d (inl same) = ap has same
same_test has ignores c d (inr free) = ignores d (free_too c d free.0 free.1) ∙ sym (ignores c free.1)

pub names_alike : (cs ds : List (List ℕ)) → AreAlike cs ds → map card_name ds ≡ map card_name cs
names_alike [] [] are = refl
names_alike [] (d ∷ ds) are = absurd are
names_alike (c ∷ cs) [] are = absurd are
names_alike (c ∷ cs) (d ∷ ds) are = λ j. same_name c d are.0 j ∷ names_alike cs ds are.1 j

pub length_alike : (cs ds : List (List ℕ)) → AreAlike cs ds → length ds ≡ length cs
length_alike [] [] are = refl
length_alike [] (d ∷ ds) are = absurd are
length_alike (c ∷ cs) [] are = absurd are
length_alike (c ∷ cs) (d ∷ ds) are = ap suc (length_alike cs ds are.1)

-- ---- a test that gives the same of cards that are alike

abbrev pub GivesTheSame : (List ℕ → Bool) → Type 0
GivesTheSame has = (c d : List ℕ) → IsAlike c d → has d ≡ has c

pub ignoring : (has : List ℕ → Bool) → Ignores has → GivesTheSame has
ignoring has ignores c d alike = same_test has ignores c d alike

pub naming : (test : List ℕ → Bool) → GivesTheSame (λ c. test (card_name c))
naming test c d alike = ap test (same_name c d alike)

first_alike : (has : List ℕ → Bool) → GivesTheSame has → (cs ds : List (List ℕ)) → AreAlike cs ds → position_or_len has ds ≡ position_or_len has cs
first_alike has same [] [] are = refl
first_alike has same [] (d ∷ ds) are = absurd are
first_alike has same (c ∷ cs) [] are = absurd are
first_alike has same (c ∷ cs) (d ∷ ds) are = λ j. cond (not (same c d are.0 j)) (1 + first_alike has same cs ds are.1 j) 0

pub position_alike : (has : List ℕ → Bool) → GivesTheSame has → (cs ds : List (List ℕ)) → AreAlike cs ds → position has ds ≡ position has cs
position_alike has same cs ds are =
    let at = first_alike has same cs ds are in
    let long = length_alike cs ds are in
    λ j. cond (nat_lt (at j) (long j)) (Some (at j)) None

pub any_alike : (has : List ℕ → Bool) → GivesTheSame has → (cs ds : List (List ℕ)) → AreAlike cs ds → list_any has ds ≡ list_any has cs
any_alike has same [] [] are = refl
any_alike has same [] (d ∷ ds) are = absurd are
any_alike has same (c ∷ cs) [] are = absurd are
any_alike has same (c ∷ cs) (d ∷ ds) are = λ j. same c d are.0 j || any_alike has same cs ds are.1 j

-- ---- a test that ignores the cards that may change: what it finds is the same card

pub find_alike : (has : List ℕ → Bool) → Ignores has → (cs ds : List (List ℕ)) → AreAlike cs ds → find has ds ≡ find has cs
find_alike has ignores [] [] are = refl
find_alike has ignores [] (d ∷ ds) are = absurd are
find_alike has ignores (c ∷ cs) [] are = absurd are
find_alike has ignores (c ∷ cs) (d ∷ ds) are = by_card are.0 (find_alike has ignores cs ds are.1)
  where
    by_card : IsAlike c d → find has ds ≡ find has cs → find has (d ∷ ds) ≡ find has (c ∷ cs)
    by_card (inl same) rest = λ j. cond (has (same j)) (Some (same j)) (rest j)
    by_card (inr free) rest =
        ap (λ b. cond b (Some d) (find has ds)) (ignores d (free_too c d free.0 free.1))
        ∙ (rest ∙ sym (ap (λ b. cond b (Some c) (find has cs)) (ignores c free.1)))

pub filter_alike : (has : List ℕ → Bool) → Ignores has → (cs ds : List (List ℕ)) → AreAlike cs ds → filter has ds ≡ filter has cs
filter_alike has ignores [] [] are = refl
filter_alike has ignores [] (d ∷ ds) are = absurd are
filter_alike has ignores (c ∷ cs) [] are = absurd are
filter_alike has ignores (c ∷ cs) (d ∷ ds) are = by_card are.0 (filter_alike has ignores cs ds are.1)
  where
    by_card : IsAlike c d → filter has ds ≡ filter has cs → filter has (d ∷ ds) ≡ filter has (c ∷ cs)
    by_card (inl same) rest = λ j. cond (has (same j)) (same j ∷ rest j) (rest j)
    by_card (inr free) rest =
        ap (λ b. cond b (d ∷ filter has ds) (filter has ds)) (ignores d (free_too c d free.0 free.1))
        ∙ (rest ∙ sym (ap (λ b. cond b (c ∷ filter has cs) (filter has cs)) (ignores c free.1)))

pub filter_map_alike : {Y : Type 0} (h : List ℕ → Option Y) → ((c : List ℕ) → IsFree (card_name c) → h c ≡ None) → (cs ds : List (List ℕ)) → AreAlike cs ds →
    filter_map h ds ≡ filter_map h cs
filter_map_alike h ignores [] [] are = refl
filter_map_alike h ignores [] (d ∷ ds) are = absurd are
filter_map_alike h ignores (c ∷ cs) [] are = absurd are
filter_map_alike h ignores (c ∷ cs) (d ∷ ds) are = by_card are.0 (filter_map_alike h ignores cs ds are.1)
  where
    by_card : IsAlike c d → filter_map h ds ≡ filter_map h cs → filter_map h (d ∷ ds) ≡ filter_map h (c ∷ cs)
    by_card (inl same) rest = λ j. cons_option (h (same j)) (rest j)
    by_card (inr free) rest =
        ap (λ o. cons_option o (filter_map h ds)) (ignores d (free_too c d free.0 free.1))
        ∙ (rest ∙ sym (ap (λ o. cons_option o (filter_map h cs)) (ignores c free.1)))

-- ---- by a name

pub index_alike : (name : List ℕ) (cs ds : List (List ℕ)) → AreAlike cs ds → index_of name ds ≡ index_of name cs
index_alike name cs ds are = position_alike (has_name name) (naming (λ n. bytes_eq n name)) cs ds are

pub card_alike : (name : List ℕ) → is_loose name ≡ false → (cs ds : List (List ℕ)) → AreAlike cs ds → first_of_name name ds ≡ first_of_name name cs
card_alike name tight cs ds are = find_alike (has_name name) (by_name name tight) cs ds are

pub the_card_alike : (name : List ℕ) → is_loose name ≡ false → (cs ds : List (List ℕ)) → AreAlike cs ds → the_card name ds ≡ the_card name cs
the_card_alike name tight cs ds are = ap (λ o. unwrap_or o []) (card_alike name tight cs ds are)

-- ---- cards of ranges of two headers

pub range_alike : (f g : ℕ → List ℕ) (a n : ℕ) → ((i : ℕ) → i < a + n → IsAlike (f i) (g i)) → AreAlike (map f (range_with_len a n)) (map g (range_with_len a n))
range_alike f g a zero each = tt
range_alike f g a (suc n) each = (each a (omega arith), range_alike f g (a + 1) n (λ i below. each i (omega arith)))
