-- A sum is told after a patch if it was before, and then it is right.
use Rattle.std.specs.Prelude.{⊤}
use Rattle.std.proofs.Common.{◌≡◌, ◌≢◌, ◌⊎◌, inl, inr, ℕ, zero, suc, ◌+◌, ◌-◌, ◌*◌, ◌/◌, ◌^◌, ◌<◌, ◌≤◌, ◌==◌, nat_lt, Bool, true, false, List, [], ◌∷◌, ◌++◌, length, take, drop, replicate, codes, bytes_eq, Option, Some, None, unwrap_or, if◌then◌else◌, refl, sym, ap, ◌∙◌, subst, arith, append_assoc}
use Rattle.std.specs.Option.{option_and_then}
use Rattle.fz_base.specs.Counts.{Amend}
use Rattle.fz_block.specs.Cards.{card_at, end_of}
use Rattle.fz_block.specs.Hdus.{cards_of, pcount_index}
use Rattle.fz_block.specs.declared.header.Header.{Header}
use Rattle.fz_card.specs.CardLists.{IsFirstOfName, first_of_name}
use Rattle.fz_card.specs.Layout.{card_name, padded}
use Rattle.fz_card.specs.Made.{numbered_name}
use Rattle.fz_card.specs.Reading.{text_of}
use Rattle.fz_sum.specs.Cards.{checksum_name, datasum_name}
use Rattle.fz_sum.specs.Verdicts.{HasSumText, IsChecksumVerdict, IsDatasumVerdict, checksum_verdict, datasum_verdict, is_some_text}
use Rattle.fz_sum.specs.declared.verdicts.Verdict.{Verdict}
use Rattle.fz_sum.specs.declared.verdicts.Verdict.TheVariants.{Absent, Right, Wrong}
use Rattle.fz_tile.specs.TileCode.{TileCode}
use Rattle.fz_head.specs.CardLists.{index_of}
use Rattle.fz_files.specs.Packed.{heap_of}
use Rattle.fz_files.specs.Restored.{header_in, image_table, plan_in}
use Rattle.fz_laws.specs.Patched.{renewed}
use Rattle.fz_laws.specs.Writes.{told_sum}
use Rattle.fz_laws.proofs.SumsWritten.{AreNamedAlike, IsFirst, VerdictLaws, data_absent, first_back, first_is, first_on, hdu_absent, is_first, one_first, told_first, told_none}

-- ---- a sum that is told

-- the card of a sum that is told has a text
told_text : VerdictLaws → (name header : List ℕ) (i : ℕ) → told_sum name header ≡ Some i → HasSumText (card_at header i)
told_text laws name header i e = by_test (is_some_text (option_and_then text_of (first_of_name name (cards_of header)))) refl e
  where
    first : IsFirst name header i
    first = told_first name header i e

    by_text : (card : List ℕ) (t : Option (List ℕ)) → first_of_name name (cards_of header) ≡ Some card → text_of card ≡ t → is_some_text t ≡ true → HasSumText (card_at header i)
    by_text card None found reads some = absurd cc
    by_text card (Some text) found reads some =
        let f : IsFirstOfName name (cards_of header) card = (laws.found name card (cards_of header)).0 found in
        let place = first_is name header card f in
        let here : card ≡ card_at header i = place.1 ∙ ap (card_at header) (one_first name header f.index i place.0 first) in
        subst HasSumText here
        (record { text = text; has = (laws.cards.values.text card text).1 reads; some = λ none. let no : false ≡ true = ap (λ l. nat_lt 0 (length l)) (sym none) ∙ some in absurd cc })

    by_card : (o : Option (List ℕ)) → first_of_name name (cards_of header) ≡ o → is_some_text (option_and_then text_of o) ≡ true → HasSumText (card_at header i)
    by_card None found some = absurd cc
    by_card (Some card) found some = by_text card (text_of card) found refl some

    by_test : (b : Bool) → is_some_text (option_and_then text_of (first_of_name name (cards_of header))) ≡ b → (if b then index_of name (cards_of header) else None) ≡ Some i → HasSumText (card_at header i)
    by_test false test is = absurd cc
    by_test true test is = by_card (first_of_name name (cards_of header)) refl test

-- the verdict on a sum that is right, if it is told
abbrev pub told_verdict : Option ℕ → Verdict
told_verdict None = Absent
told_verdict (Some i) = Right

same_names : (header : List ℕ) → AreNamedAlike header header
same_names header = record { ends = refl; names = λ i below. refl }

pub data_renewed : VerdictLaws → (header payload : List ℕ) → renewed (datasum_verdict (cards_of header) payload) ≡ told_verdict (told_sum datasum_name header)
data_renewed laws header payload = by_told (told_sum datasum_name header) refl
  where
    by_verdict : (i : ℕ) → told_sum datasum_name header ≡ Some i → (v : Verdict) → datasum_verdict (cards_of header) payload ≡ v → renewed v ≡ Right
    by_verdict i e Absent is =
        let none : IsDatasumVerdict (cards_of header) payload Absent = (laws.data_verdict (cards_of header) payload Absent).1 is in
        absurd (none (card_at header i) (is_first datasum_name header i (told_first datasum_name header i e)) (told_text laws datasum_name header i e))
    by_verdict i e Right is = refl
    by_verdict i e Wrong is = refl

    by_told : (o : Option ℕ) → told_sum datasum_name header ≡ o → renewed (datasum_verdict (cards_of header) payload) ≡ told_verdict o
    by_told None e = ap renewed (data_absent laws header header payload (same_names header) e (λ i first. refl))
    by_told (Some i) e = by_verdict i e (datasum_verdict (cards_of header) payload) refl

pub hdu_renewed : VerdictLaws → (header payload : List ℕ) → renewed (checksum_verdict (cards_of header) header payload) ≡ told_verdict (told_sum checksum_name header)
hdu_renewed laws header payload = by_told (told_sum checksum_name header) refl
  where
    by_verdict : (i : ℕ) → told_sum checksum_name header ≡ Some i → (v : Verdict) → checksum_verdict (cards_of header) header payload ≡ v → renewed v ≡ Right
    by_verdict i e Absent is =
        let none : IsChecksumVerdict (cards_of header) header payload Absent = (laws.hdu_verdict (cards_of header) header payload Absent).1 is in
        absurd (none (card_at header i) (is_first checksum_name header i (told_first checksum_name header i e)) (told_text laws checksum_name header i e))
    by_verdict i e Right is = refl
    by_verdict i e Wrong is = refl

    by_told : (o : Option ℕ) → told_sum checksum_name header ≡ o → renewed (checksum_verdict (cards_of header) header payload) ≡ told_verdict o
    by_told None e = ap renewed (hdu_absent laws header header payload (same_names header) e (λ i first. refl))
    by_told (Some i) e = by_verdict i e (checksum_verdict (cards_of header) header payload) refl

-- a sum is told by a header whose cards have the same names exactly if it is by the first, if its card stays
pub told_alike : VerdictLaws → (name old new : List ℕ) → AreNamedAlike old new → ((i : ℕ) → IsFirst name old i → card_at new i ≡ card_at old i) →
    told_verdict (told_sum name new) ≡ told_verdict (told_sum name old)
told_alike laws name old new alike stays = by_both (told_sum name old) (told_sum name new) refl refl
  where
    by_both : (o q : Option ℕ) → told_sum name old ≡ o → told_sum name new ≡ q → told_verdict q ≡ told_verdict o
    by_both None None was is = refl
    by_both (Some i) (Some k) was is = refl
    by_both None (Some k) was is =
        let first : IsFirst name old k = first_back name old new k alike (told_first name new k is) in
        absurd (told_none laws name old k was first (subst HasSumText (stays k first) (told_text laws name new k is)))
    by_both (Some i) None was is =
        let first : IsFirst name old i = told_first name old i was in
        absurd (told_none laws name new i is (first_on name old new i alike first) (subst HasSumText (sym (stays i first)) (told_text laws name old i was)))
