-- What is said of a sum that a header has: whether it is there, and right (FITS 4.0, section 4.4.2.7).
use Rattle.std.specs.Prelude.{ℕ, ◌≡◌, ◌≢◌, ◌==◌, Bool, IsTrue, Option, Some, None, if◌then◌else◌, false, nat_lt, List, [], ◌++◌, length}
use Rattle.std.specs.Option.{option_and_then}
use Rattle.fz_card.specs.Value.{TextValue}
use Rattle.fz_card.specs.Reading.{text_of}
use Rattle.fz_card.specs.CardLists.{IsFirstOfName, first_of_name}
use Rattle.fz_sum.specs.Sums.{ones_sum}
use Rattle.fz_sum.specs.Cards.{datasum_name, checksum_name}
use Rattle.fz_sum.specs.Texts.{CardGivesSum, sum_of_card}
use Rattle.fz_sum.specs.declared.verdicts.Verdict.{Verdict}
use Rattle.fz_sum.specs.declared.verdicts.Verdict.TheVariants.{Absent, Right, Wrong}

-- the value of the card is a text that is not empty
pub record HasSumText (card : List ℕ) : Type 0 where
  pub text : List ℕ
  pub has : TextValue card text
  pub some : text ≢ []

-- the verdict on the sum of the data: it is judged by the first of the cards that is named DATASUM, and is right if and only if the
-- text of that card gives the sum of these data
abbrev pub IsDatasumVerdict : List (List ℕ) → List ℕ → Verdict → Type 0
IsDatasumVerdict cards payload Absent = (card : List ℕ) → IsFirstOfName datasum_name cards card → ¬ (HasSumText card)
IsDatasumVerdict cards payload Right = (card : List ℕ) × IsFirstOfName datasum_name cards card × CardGivesSum card (ones_sum payload)
IsDatasumVerdict cards payload Wrong = (card : List ℕ) × IsFirstOfName datasum_name cards card × HasSumText card × ¬ (CardGivesSum card (ones_sum payload))

-- the verdict on the sum of an HDU: the first of the cards that is named CHECKSUM counts, and it is right if and only if the sum of
-- the header and the data is all ones
abbrev pub IsChecksumVerdict : List (List ℕ) → List ℕ → List ℕ → Verdict → Type 0
IsChecksumVerdict cards header payload Absent = (card : List ℕ) → IsFirstOfName checksum_name cards card → ¬ (HasSumText card)
IsChecksumVerdict cards header payload Right =
    (card : List ℕ) × IsFirstOfName checksum_name cards card × HasSumText card × (ones_sum (header ++ payload) ≡ 4294967295)
IsChecksumVerdict cards header payload Wrong =
    (card : List ℕ) × IsFirstOfName checksum_name cards card × HasSumText card × (ones_sum (header ++ payload) ≢ 4294967295)

-- there is a card, and it gives a sum
abbrev pub TellsSum : Option (List ℕ) → Type 0
TellsSum None = ⊥
TellsSum (Some card) = HasSumText card

-- the verdict on a card that may be there, whose sum is right or not
abbrev pub IsVerdict : Option (List ℕ) → Bool → Verdict → Type 0
IsVerdict card right Absent = ¬ (TellsSum card)
IsVerdict card right Right = TellsSum card × IsTrue right
IsVerdict card right Wrong = TellsSum card × ¬ (IsTrue right)

-- whether there is a text and it is not empty
abbrev pub is_some_text : Option (List ℕ) → Bool
is_some_text None = false
is_some_text (Some text) = nat_lt 0 (length text)

-- the verdict as a function
unfoldable pub verdict_of : Option (List ℕ) → Bool → Verdict
verdict_of card right = if is_some_text (option_and_then text_of card) then (if right then Right else Wrong) else Absent

-- whether the number, if there is one, is this sum
abbrev pub is_sum : Option ℕ → ℕ → Bool
is_sum None sum = false
is_sum (Some given) sum = given == sum

-- the verdict on the sum of the data, as a function
unfoldable pub datasum_verdict : List (List ℕ) → List ℕ → Verdict
datasum_verdict cards payload =
    let card = first_of_name datasum_name cards in
    verdict_of card (is_sum (option_and_then sum_of_card card) (ones_sum payload))

-- the verdict on the sum of an HDU, as a function
unfoldable pub checksum_verdict : List (List ℕ) → List ℕ → List ℕ → Verdict
checksum_verdict cards header payload = verdict_of (first_of_name checksum_name cards) (ones_sum (header ++ payload) == 4294967295)
