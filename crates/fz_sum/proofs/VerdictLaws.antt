-- The verdicts on the sums of an HDU: there is one, and the functions give it.
use Rattle.std.proofs.Common.{◌≡◌, ◌≢◌, ℕ, Bool, true, false, cond, eqb, List, [], ◌++◌, length, sym, refl, ap, ◌∙◌, subst, arith}
use Rattle.std.specs.Prelude.{◌↔◌, Option, Some, None}
use Rattle.std.specs.Borrow.{Bor}
use Rattle.std.specs.Option.{option_and_then, option_copied, option_map}
use Rattle.std.proofs.lemmas.Bool.Decides.{nat_tests}
use Rattle.std.proofs.lemmas.List.{length-append}
use Rattle.fz_card.specs.declared.card.Card.{Card}
use Rattle.fz_card.specs.Laws.{CardLaws}
use Rattle.fz_card.specs.Layout.{blanks}
use Rattle.fz_card.specs.Reading.{text_of}
use Rattle.fz_card.specs.CardLists.{IsFirstOfName, first_of_name}
use Rattle.fz_sum.specs.declared.verdicts.Verdict.{Verdict}
use Rattle.fz_sum.specs.declared.verdicts.Verdict.TheVariants.{Absent, Right, Wrong}
use Rattle.fz_sum.specs.Sums.{ones_sum}
use Rattle.fz_sum.specs.Cards.{datasum_name, checksum_name}
use Rattle.fz_sum.specs.Texts.{GivesSum, CardGivesSum, sum_of_card}
use Rattle.fz_sum.specs.Verdicts.{HasSumText, IsDatasumVerdict, IsChecksumVerdict, is_some_text, is_sum, verdict_of, datasum_verdict, checksum_verdict}
use Rattle.fz_sum.proofs.SumTexts.{card-gives, gives-card}
use Rattle.fz_sum.proofs.VerdictLemmas.{told-is, told-not}

-- the bytes of a card that was found, and is looked at
pub seen : (read : Option (Bor Card)) (card : Option Card) (found : Option (List ℕ)) → option_copied read ≡ card → option_map (λ (c : Card). c.bytes) card ≡ found → option_map (λ (c : Bor Card). c.now.bytes) read ≡ found
seen None card found e f = ap (option_map (λ (c : Card). c.bytes)) e ∙ f
seen (Some b) card found e f = ap (option_map (λ (c : Card). c.bytes)) e ∙ f

-- a text that gives a sum is not empty
gives-some : (text : List ℕ) (sum : ℕ) → GivesSum text sum → text ≢ []
gives-some text sum gives = λ none. absurd (omega (arith, gives.numeral.0, ap length none, ap length gives.parts, length-append (blanks gives.before) gives.digits))

gives-text : (card : List ℕ) (sum : ℕ) → CardGivesSum card sum → HasSumText card
gives-text card sum gives = record { text = gives.text; has = gives.has; some = gives-some gives.text sum gives.gives }

-- a number that was found is the sum exactly where the test says so
is-sum : (found : Option ℕ) (sum : ℕ) → is_sum found sum ≡ true → found ≡ Some sum
is-sum None sum e = cc
is-sum (Some given) sum e = ap Some (same given sum e)
  where
    same : (a b : ℕ) → eqb a b ≡ true → a ≡ b
    same a b h = grind (arith, nat_tests)

no-sum : (found : Option ℕ) (sum : ℕ) → is_sum found sum ≡ false → ¬ (found ≡ Some sum)
no-sum None sum e f = cc
no-sum (Some given) sum e f = other given sum e (same-some given sum f)
  where
    other : (a b : ℕ) → eqb a b ≡ false → a ≡ b → ⊥
    other a b h g = grind (arith, nat_tests)

    same-some : (a b : ℕ) → Some a ≡ Some b → a ≡ b
    same-some a b g = cc

eqb-same : (a b : ℕ) → eqb a b ≡ true → a ≡ b
eqb-same a b h = grind (arith, nat_tests)

eqb-other : (a b : ℕ) → eqb a b ≡ false → a ≢ b
eqb-other a b h g = grind (arith, nat_tests)

module _ (laws : CardLaws) (firsts : (name card : List ℕ) (cards : List (List ℕ)) → (first_of_name name cards ≡ Some card) ↔ IsFirstOfName name cards card) where
  one-first : (name a b : List ℕ) (cards : List (List ℕ)) → IsFirstOfName name cards a → IsFirstOfName name cards b → a ≡ b
  one-first name a b cards first second =
      let e = (firsts name a cards).1 first in
      let f = (firsts name b cards).1 second in
      cc

  datasum-is : (cards : List (List ℕ)) (payload : List ℕ) → IsDatasumVerdict cards payload (datasum_verdict cards payload)
  unfolding datasum_verdict verdict_of
  datasum-is cards payload = by_card (first_of_name datasum_name cards) refl
    where
      by_tests : (card : List ℕ) (told right : Bool) → first_of_name datasum_name cards ≡ Some card → is_some_text (text_of card) ≡ told → is_sum (sum_of_card card) (ones_sum payload) ≡ right → IsDatasumVerdict cards payload (cond told (cond right Right Wrong) Absent)
      by_tests card false right e t r = λ other first has.
          let same : other ≡ card = one-first datasum_name other card cards first ((firsts datasum_name card cards).0 e) in
          told-not laws.values.text card (text_of card) refl t (subst HasSumText same has)
      by_tests card true true e t r = (card, (firsts datasum_name card cards).0 e, card-gives laws card (ones_sum payload) (is-sum (sum_of_card card) (ones_sum payload) r))
      by_tests card true false e t r = (card, (firsts datasum_name card cards).0 e, told-is laws.values.text card (text_of card) refl t, λ gives. no-sum (sum_of_card card) (ones_sum payload) r (gives-card laws card (ones_sum payload) gives))

      by_card : (card : Option (List ℕ)) → first_of_name datasum_name cards ≡ card → IsDatasumVerdict cards payload (cond (is_some_text (option_and_then text_of card)) (cond (is_sum (option_and_then sum_of_card card) (ones_sum payload)) Right Wrong) Absent)
      by_card None e = λ card first. let f = (firsts datasum_name card cards).1 first in absurd (let g : None ≡ Some card = sym e ∙ f in cc)
      by_card (Some card) e = by_tests card (is_some_text (text_of card)) (is_sum (sum_of_card card) (ones_sum payload)) e refl refl

  datasum-once : (cards : List (List ℕ)) (payload : List ℕ) (v w : Verdict) → IsDatasumVerdict cards payload v → IsDatasumVerdict cards payload w → v ≡ w
  datasum-once cards payload Absent Absent a b = refl
  datasum-once cards payload Absent Right a b = absurd (a b.0 b.1 (gives-text b.0 (ones_sum payload) b.2))
  datasum-once cards payload Absent Wrong a b = absurd (a b.0 b.1 b.2)
  datasum-once cards payload Right Absent a b = absurd (b a.0 a.1 (gives-text a.0 (ones_sum payload) a.2))
  datasum-once cards payload Right Right a b = refl
  datasum-once cards payload Right Wrong a b = absurd (b.3 (subst (λ (c : List ℕ). CardGivesSum c (ones_sum payload)) (one-first datasum_name a.0 b.0 cards a.1 b.1) a.2))
  datasum-once cards payload Wrong Absent a b = absurd (b a.0 a.1 a.2)
  datasum-once cards payload Wrong Right a b = absurd (a.3 (subst (λ (c : List ℕ). CardGivesSum c (ones_sum payload)) (one-first datasum_name b.0 a.0 cards b.1 a.1) b.2))
  datasum-once cards payload Wrong Wrong a b = refl

  pub datasum-law : (cards : List (List ℕ)) (payload : List ℕ) (v : Verdict) → IsDatasumVerdict cards payload v ↔ (datasum_verdict cards payload ≡ v)
  datasum-law cards payload v =
      (λ is. datasum-once cards payload (datasum_verdict cards payload) v (datasum-is cards payload) is, λ e. subst (λ (w : Verdict). IsDatasumVerdict cards payload w) e (datasum-is cards payload))

  checksum-is : (cards : List (List ℕ)) (header payload : List ℕ) → IsChecksumVerdict cards header payload (checksum_verdict cards header payload)
  unfolding checksum_verdict verdict_of
  checksum-is cards header payload = by_card (first_of_name checksum_name cards) refl
    where
      by_tests : (card : List ℕ) (told right : Bool) → first_of_name checksum_name cards ≡ Some card → is_some_text (text_of card) ≡ told → eqb (ones_sum (header ++ payload)) 4294967295 ≡ right → IsChecksumVerdict cards header payload (cond told (cond right Right Wrong) Absent)
      by_tests card false right e t r = λ other first has.
          let same : other ≡ card = one-first checksum_name other card cards first ((firsts checksum_name card cards).0 e) in
          told-not laws.values.text card (text_of card) refl t (subst HasSumText same has)
      by_tests card true true e t r = (card, (firsts checksum_name card cards).0 e, told-is laws.values.text card (text_of card) refl t, eqb-same (ones_sum (header ++ payload)) 4294967295 r)
      by_tests card true false e t r = (card, (firsts checksum_name card cards).0 e, told-is laws.values.text card (text_of card) refl t, eqb-other (ones_sum (header ++ payload)) 4294967295 r)

      by_card : (card : Option (List ℕ)) → first_of_name checksum_name cards ≡ card → IsChecksumVerdict cards header payload (cond (is_some_text (option_and_then text_of card)) (cond (eqb (ones_sum (header ++ payload)) 4294967295) Right Wrong) Absent)
      by_card None e = λ card first. let f = (firsts checksum_name card cards).1 first in absurd (let g : None ≡ Some card = sym e ∙ f in cc)
      by_card (Some card) e = by_tests card (is_some_text (text_of card)) (eqb (ones_sum (header ++ payload)) 4294967295) e refl refl

  checksum-once : (cards : List (List ℕ)) (header payload : List ℕ) (v w : Verdict) → IsChecksumVerdict cards header payload v → IsChecksumVerdict cards header payload w → v ≡ w
  checksum-once cards header payload Absent Absent a b = refl
  checksum-once cards header payload Absent Right a b = absurd (a b.0 b.1 b.2)
  checksum-once cards header payload Absent Wrong a b = absurd (a b.0 b.1 b.2)
  checksum-once cards header payload Right Absent a b = absurd (b a.0 a.1 a.2)
  checksum-once cards header payload Right Right a b = refl
  checksum-once cards header payload Right Wrong a b = absurd (b.3 a.3)
  checksum-once cards header payload Wrong Absent a b = absurd (b a.0 a.1 a.2)
  checksum-once cards header payload Wrong Right a b = absurd (a.3 b.3)
  checksum-once cards header payload Wrong Wrong a b = refl

  pub checksum-law : (cards : List (List ℕ)) (header payload : List ℕ) (v : Verdict) → IsChecksumVerdict cards header payload v ↔ (checksum_verdict cards header payload ≡ v)
  checksum-law cards header payload v =
      (λ is. checksum-once cards header payload (checksum_verdict cards header payload) v (checksum-is cards header payload) is, λ e. subst (λ (w : Verdict). IsChecksumVerdict cards header payload w) e (checksum-is cards header payload))
