-- The names of the cards that a patch changes, by their first three letters, and what does not look at such cards.
use Rattle.std.proofs.Common.{◌≡◌, ℕ, ◌≤◌, ◌&&◌, ◌||◌, not, Bool, true, false, cond, List, length, take, codes, bytes_eq, None, is_some, unwrap_or, refl, sym, ap, ◌∙◌, arith, take-take}
use Rattle.std.proofs.lemmas.Slice.Eq.{bytes_eq-Decides}
use Rattle.fz_card.specs.Laws.{NumberedNameLaws}
use Rattle.fz_card.specs.Layout.{card_name, padded}
use Rattle.fz_card.specs.Naming.{is_dropped, number_behind, up_to}
use Rattle.fz_card.specs.CardLists.{has_name}
use Rattle.fz_card.specs.Reading.{has_text, text_of, zero_of}
use Rattle.fz_block.specs.Cards.{is_named}
use Rattle.fz_block.specs.Checks.{is_set}
use Rattle.fz_head.specs.PackChecks.{is_offset}
use Rattle.fz_head.specs.PackedChecks.{is_scaling, names_scaling}
use Rattle.fz_head.specs.PackedPlan.{parameter_in}
use Rattle.fz_head.specs.PlainHeader.{is_front, is_kept, is_table_card, says_what}

abbrev pub loose_front : List ℕ → Bool
loose_front front = bytes_eq front (codes "DAT") || (bytes_eq front (codes "CHE") || (bytes_eq front (codes "PCO") || bytes_eq front (codes "TFO")))

abbrev pub is_loose : List ℕ → Bool
is_loose name = loose_front (take 3 name)

-- a name that a patch may change the card of: it is none that says what the image is, and does not come back with the image
pub record IsFree (name : List ℕ) : Type 0 where
  pub loose : is_loose name ≡ true
  pub dropped : is_dropped name ≡ true

-- a test of cards that all such cards fail
abbrev pub Ignores : (List ℕ → Bool) → Type 0
Ignores has = (c : List ℕ) → IsFree (card_name c) → has c ≡ false

pub other_name : (name n : List ℕ) → is_loose name ≡ true → is_loose n ≡ false → bytes_eq name n ≡ false
other_name name n loose tight = by_test (bytes_eq name n) refl
  where
    by_test : (b : Bool) → bytes_eq name n ≡ b → b ≡ false
    by_test true e =
        let same : name ≡ n = (bytes_eq-Decides name n).0 e in
        let both : true ≡ false = sym loose ∙ (ap is_loose same ∙ tight) in
        absurd cc
    by_test false e = refl

pub other_stem_than : (stem name : List ℕ) → 3 ≤ length stem → loose_front (take 3 stem) ≡ false → is_loose name ≡ true → bytes_eq (take (length stem) name) stem ≡ false
other_stem_than stem name long tight loose = by_test (bytes_eq (take (length stem) name) stem) refl
  where
    by_test : (b : Bool) → bytes_eq (take (length stem) name) stem ≡ b → b ≡ false
    by_test true e =
        let same : take (length stem) name ≡ stem = (bytes_eq-Decides (take (length stem) name) stem).0 e in
        let front : take 3 name ≡ take 3 stem = sym (take-take 3 (length stem) name long) ∙ ap (take 3) same in
        let both : true ≡ false = sym loose ∙ (ap loose_front front ∙ tight) in
        absurd cc
    by_test false e = refl

pub no_number : NumberedNameLaws → (stem name : List ℕ) → 3 ≤ length stem → loose_front (take 3 stem) ≡ false → is_loose name ≡ true → number_behind stem name ≡ None
no_number laws stem name long tight loose = sym (laws.other_stem stem name (other_stem_than stem name long tight loose))

-- ---- tests that ignore them

pub by_name : (name : List ℕ) → is_loose name ≡ false → Ignores (has_name name)
by_name name tight c free = other_name (card_name c) name free.loose tight

and_false : (b : Bool) → (b && false) ≡ false
and_false true = refl
and_false false = refl

pub by_set : (word : List ℕ) → is_loose (padded word) ≡ false → Ignores (is_set word)
by_set word tight c free = false_and (is_named word c) _ (by_name (padded word) tight c free)
  where
    false_and : (a b : Bool) → a ≡ false → (a && b) ≡ false
    false_and a b e = ap (λ t. t && b) e

pub by_scaling : NumberedNameLaws → (columns : ℕ) → Ignores (is_scaling columns)
by_scaling laws columns c free = λ j.
    by_name (padded (codes "ZSCALE")) refl c free j
    || (by_name (padded (codes "ZZERO")) refl c free j
    || (is_some (up_to columns (no_number laws (codes "TTYPE") (card_name c) (omega arith) refl free.loose j)) && names_scaling (text_of c)))

pub by_offset : Ignores is_offset
by_offset c free = ap (λ t. t && not (unwrap_or (zero_of c) true)) (by_name (padded (codes "BZERO")) refl c free)

pub by_what : Ignores says_what
by_what c free = λ j. by_name (padded (codes "ZSIMPLE")) refl c free j || by_name (padded (codes "ZTENSION")) refl c free j

or_left : (a b : Bool) → a ≡ true → (a || b) ≡ true
or_left a b e = ap (λ t. t || b) e

not_and : (a b : Bool) → b ≡ true → (a && not b) ≡ false
not_and a b e = ap (λ t. a && not t) e ∙ and_false a

pub by_kept : (primary : Bool) (n : ℕ) → Ignores (is_kept primary n)
by_kept primary n c free = not_and (not (is_front primary n c)) (is_table_card n c) (or_left (is_dropped (card_name c)) _ free.dropped)

pub no_parameter : NumberedNameLaws → (text c : List ℕ) → IsFree (card_name c) → parameter_in text c ≡ None
no_parameter laws text c free = by_test (has_text text c)
  where
    none : up_to 999 (number_behind (codes "ZNAME") (card_name c)) ≡ None
    none = ap (up_to 999) (no_number laws (codes "ZNAME") (card_name c) (omega arith) refl free.loose)

    by_test : (b : Bool) → cond b (up_to 999 (number_behind (codes "ZNAME") (card_name c))) None ≡ None
    by_test true = none
    by_test false = refl
