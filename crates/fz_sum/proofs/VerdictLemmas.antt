-- The verdict as a function is the verdict.
use Rattle.std.proofs.Common.{◌≡◌, ℕ, ◌<◌, ◌≢◌, Bool, true, false, cond, ltb, List, [], ◌∷◌, length, sym, refl, ◌∙◌, subst, arith}
use Rattle.std.specs.Prelude.{Option, Some, None}
use Rattle.std.proofs.lemmas.Bool.Decides.{nat_tests}
use Rattle.fz_card.specs.Laws.{TextOfLaw}
use Rattle.fz_card.specs.Reading.{text_of}
use Rattle.fz_sum.specs.declared.verdicts.Verdict.{Verdict}
use Rattle.fz_sum.specs.declared.verdicts.Verdict.TheVariants.{Absent, Right, Wrong}
use Rattle.fz_sum.specs.Verdicts.{HasSumText, TellsSum, IsVerdict, is_some_text, verdict_of}

some-test : (text : List ℕ) → ltb 0 (length text) ≡ true → text ≢ []
some-test [] e = λ none. cc
some-test (b ∷ bs) e = λ none. cc

none-test : (text : List ℕ) → ltb 0 (length text) ≡ false → text ≡ []
none-test [] e = refl
none-test (b ∷ bs) e = let positive : 0 < length (b ∷ bs) = omega arith in absurd (grind (arith, nat_tests))

-- a card whose text was found
pub told-is : TextOfLaw → (card : List ℕ) (found : Option (List ℕ)) → text_of card ≡ found → is_some_text found ≡ true → HasSumText card
told-is texts card None e told = cc
told-is texts card (Some text) e told = record { text = text; has = (texts card text).1 e; some = some-test text told }

pub told-not : TextOfLaw → (card : List ℕ) (found : Option (List ℕ)) → text_of card ≡ found → is_some_text found ≡ false → ¬ (HasSumText card)
told-not texts card None e told has = let f = (texts card has.text).0 has.has in cc
told-not texts card (Some text) e told has =
    let f = (texts card has.text).0 has.has in
    let same : text ≡ has.text = some-same text has.text (sym e ∙ f) in
    has.some (sym same ∙ none-test text told)
  where
    some-same : (x y : List ℕ) → Some x ≡ Some y → x ≡ y
    some-same x y e = cc

by-tests : (told right : Bool) (card : Option (List ℕ)) → (told ≡ true → TellsSum card) → (told ≡ false → ¬ (TellsSum card)) → IsVerdict card right (cond told (cond right Right Wrong) Absent)
by-tests true true card is not = (is refl, refl)
by-tests true false card is not = (is refl, λ e. cc)
by-tests false right card is not = not refl

pub verdict-is : TextOfLaw → (card : Option (List ℕ)) (right : Bool) → IsVerdict card right (verdict_of card right)
unfolding verdict_of
verdict-is texts None right = λ told. told
verdict-is texts (Some card) right = by-tests (is_some_text (text_of card)) right (Some card) (told-is texts card (text_of card) refl) (told-not texts card (text_of card) refl)

pub verdict-from : TextOfLaw → (card : Option (List ℕ)) (right : Bool) (v : Verdict) → v ≡ verdict_of card right → IsVerdict card right v
verdict-from texts card right v e = subst (λ (w : Verdict). IsVerdict card right w) (sym e) (verdict-is texts card right)
