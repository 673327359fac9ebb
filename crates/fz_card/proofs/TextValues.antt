-- The text value of a card: the function gives it, and a card that is made of a text has it.
use Rattle.std.proofs.Common.{◌≡◌, ℕ, zero, suc, ◌+◌, ◌-◌, Bool, true, false, cond, eqb, List, [], ◌∷◌, ◌++◌, length, take, drop, sym, refl, ap, ◌∙◌, subst, arith}
use Rattle.std.specs.Prelude.{not, IsTrue, Option, Some, None, codes}
use Rattle.std.proofs.lemmas.Bool.Decides.{nat_tests}
use Rattle.std.proofs.lemmas.List.{append_assoc, nil_from_length}
use Rattle.std.proofs.lemmas.Slice.Eq.{bytes_eq-Decides}
use Rattle.fz_card.specs.Layout.{blanks, filled, HasValueIndicator, value_field}
use Rattle.fz_card.specs.Value.{IsComment, SplitsRound, doubled, IsTrimmed, IsQuoted, TextValue}
use Rattle.fz_card.specs.Made.{is_unquoted, IsCardText, text_card_bytes}
use Rattle.fz_card.specs.Plain.{skip_blanks, cut_blanks, plain_text}
use Rattle.fz_card.specs.Quoted.{Closed, quoted, is_blank, closed_text, opened_text, text_in}
use Rattle.fz_card.specs.Reading.{has_value_indicator, text_of}
use Rattle.fz_card.proofs.Lines.{made_value}
use Rattle.fz_card.proofs.QuotedTexts.{BeginsOther, quoted-parts, quoted-doubled, cut_blanks-trimmed, cut_blanks-behind}
use Rattle.fz_card.proofs.Readings.{some-if, inner-if, and-true, none-if}
use Rattle.fz_card.proofs.Texts.{is_unquoted-append}
use Rattle.fz_card.proofs.Splits.{cut_blanks-before, skip_blanks-after, skip_blanks-blanks, splits_round_plain_text, plain_text-split}

eqb-same : (a b : ℕ) → eqb a b ≡ true → a ≡ b
eqb-same a b h = grind (arith, nat_tests)

-- bytes that begin with a quote, with a text that closes and blanks up to a comment
record Opened (bs characters : List ℕ) : Type 0 where
  rest : List ℕ
  first : bs ≡ 39 ∷ rest
  found : closed_text (quoted rest) ≡ Some characters

opened-is : (bs characters : List ℕ) → opened_text bs ≡ Some characters → Opened bs characters
opened-is [] characters e = cc
opened-is (b ∷ bs) characters e =
    let parts = inner-if (eqb b 39) (closed_text (quoted bs)) characters e in
    record { rest = bs; first = ap (λ (c : ℕ). c ∷ bs) (eqb-same b 39 parts.0); found = parts.1 }

-- what was read up to the closing quote, and blanks after it
record Closes (found : Option Closed) (characters : List ℕ) : Type 0 where
  all : List ℕ
  behind : List ℕ
  is : found ≡ Some (all, behind)
  blank : plain_text behind ≡ []
  cut : cut_blanks all ≡ characters

closed-is : (found : Option Closed) (characters : List ℕ) → closed_text found ≡ Some characters → Closes found characters
closed-is None characters e = cc
closed-is (Some f) characters e =
    let parts = some-if (is_blank f.1) (cut_blanks f.0) characters e in
    record { all = f.0; behind = f.1; is = refl; blank = nil_from_length (plain_text f.1) (eqb-same (length (plain_text f.1)) 0 parts.0); cut = parts.1 }

blanks-joined : (m n : ℕ) (rest : List ℕ) → blanks m ++ (blanks n ++ rest) ≡ blanks (m + n) ++ rest
blanks-joined zero n rest = let e : 0 + n ≡ n = omega arith in rw e refl
blanks-joined (suc m) n rest =
    let e : suc m + n ≡ suc (m + n) = omega arith in
    rw e (ap (λ (l : List ℕ). 32 ∷ l) (blanks-joined m n rest))

-- blanks up to a comment
record Blank (bs : List ℕ) : Type 0 where
  count : ℕ
  comment : List ℕ
  parts : bs ≡ blanks count ++ comment
  is_comment : IsComment comment

blank-parts : (bs : List ℕ) → plain_text bs ≡ [] → Blank bs
blank-parts bs none =
    let split = subst (λ (t : List ℕ). SplitsRound t bs) none (splits_round_plain_text bs) in
    record { count = split.before + split.behind; comment = split.comment; parts = split.parts ∙ blanks-joined split.before split.behind split.comment; is_comment = split.is_comment }

quoted_field : (field skipped opened all behind rest : List ℕ) (count : ℕ) → field ≡ blanks count ++ skipped → skipped ≡ 39 ∷ opened → opened ≡ doubled all ++ (39 ∷ behind) → behind ≡ rest → field ≡ blanks count ++ ((39 ∷ (doubled all ++ (39 ∷ []))) ++ rest)
quoted_field field skipped opened all behind rest count e1 e2 e3 e4 =
    e1 ∙ ap (λ (l : List ℕ). blanks count ++ l) (e2 ∙ ap (λ (l : List ℕ). 39 ∷ l) (e3 ∙ (ap (λ (l : List ℕ). doubled all ++ (39 ∷ l)) e4 ∙ sym (append_assoc (doubled all) (39 ∷ []) rest))))

-- the text that was found splits the field
record Splits (field characters : List ℕ) : Type 0 where
  text : List ℕ
  split : SplitsRound text field
  is : IsQuoted text characters

text_in-splits : (field characters : List ℕ) → text_in field ≡ Some characters → Splits field characters
text_in-splits field characters e =
    let opened = opened-is (skip_blanks field) characters e in
    let closes = closed-is (quoted opened.rest) characters opened.found in
    let behind = blank-parts closes.behind closes.blank in
    let before = skip_blanks-after field in
    let trailing = cut_blanks-before closes.all in
    record {
      text = 39 ∷ (doubled closes.all ++ (39 ∷ []));
      split = record {
        before = before.count;
        behind = behind.count;
        comment = behind.comment;
        parts = quoted_field field (skip_blanks field) opened.rest closes.all closes.behind (blanks behind.count ++ behind.comment) before.count before.parts opened.first (quoted-parts opened.rest closes.all closes.behind closes.is) behind.parts;
        is_comment = behind.is_comment;
      };
      is = record {
        trailing = trailing.count;
        parts = ap (λ (l : List ℕ). 39 ∷ (doubled l ++ (39 ∷ []))) (trailing.parts ∙ ap (λ (l : List ℕ). l ++ blanks trailing.count) closes.cut);
        trimmed = subst IsTrimmed closes.cut (cut_blanks-trimmed closes.all);
      };
    }

begins-other : (count : ℕ) (comment : List ℕ) → IsComment comment → BeginsOther (blanks count ++ comment)
begins-other zero [] is = tt
begins-other zero (b ∷ rest) is = λ e. omega arith
begins-other (suc count) comment is = λ e. omega arith

-- blanks up to a comment have no text
blank-found : (count : ℕ) (comment : List ℕ) → IsComment comment → is_blank (blanks count ++ comment) ≡ true
blank-found count comment is =
    let none : plain_text (blanks count ++ comment) ≡ [] = plain_text-split [] (blanks count ++ comment) (record { before = count; behind = 0; comment = comment; parts = refl; is_comment = is }) tt in
    rw none refl

-- a text of which a field is a split is found
splits-text_in : (field characters : List ℕ) → Splits field characters → text_in field ≡ Some characters
splits-text_in field characters value =
    let split = value.split in
    let is = value.is in
    let all = characters ++ blanks is.trailing in
    let rest = blanks split.behind ++ split.comment in
    let front : value.text ++ rest ≡ 39 ∷ (doubled all ++ (39 ∷ rest)) =
    ap (λ (l : List ℕ). l ++ rest) is.parts ∙ ap (λ (l : List ℕ). 39 ∷ l) (append_assoc (doubled all) (39 ∷ []) rest) in
    let skipped : skip_blanks field ≡ 39 ∷ (doubled all ++ (39 ∷ rest)) =
    ap skip_blanks split.parts ∙ (skip_blanks-blanks split.before (value.text ++ rest) ∙ ap skip_blanks front) in
    let found : quoted (doubled all ++ (39 ∷ rest)) ≡ Some (all, rest) = quoted-doubled all rest (begins-other split.behind split.comment split.is_comment) in
    ap opened_text skipped ∙ (ap closed_text found ∙ rw (blank-found split.behind split.comment split.is_comment, cut_blanks-behind characters is.trailing is.trimmed) refl)

-- the function gives the characters exactly where they are the text value
pub text_of-value : (card characters : List ℕ) → text_of card ≡ Some characters → TextValue card characters
unfolding text_of
text_of-value card characters e =
    let parts = inner-if (has_value_indicator card) (text_in (value_field card)) characters e in
    let splits = text_in-splits (value_field card) characters parts.1 in
    record { text = splits.text; has = record { indicator = (bytes_eq-Decides (take 2 (drop 8 card)) (codes "= ")).0 parts.0; field = splits.split }; is = splits.is }

pub value-text_of : (card characters : List ℕ) → TextValue card characters → text_of card ≡ Some characters
unfolding text_of
value-text_of card characters value =
    rw ((bytes_eq-Decides (take 2 (drop 8 card)) (codes "= ")).1 value.has.indicator) (splits-text_in (value_field card) characters (record { text = value.text; split = value.has.field; is = value.is }))

pub text_of-none : (card : List ℕ) → ¬ (HasValueIndicator card) → text_of card ≡ None
unfolding text_of
text_of-none card no_value =
    none-if (has_value_indicator card) (text_in (value_field card)) (λ e. no_value ((bytes_eq-Decides (take 2 (drop 8 card)) (codes "= ")).0 e))

pub text_of-field : (card : List ℕ) → HasValueIndicator card → text_in (value_field card) ≡ text_of card
unfolding text_of
text_of-field card indicator = rw ((bytes_eq-Decides (take 2 (drop 8 card)) (codes "= ")).1 indicator) refl

some_same : {X : Type 0} (x y : X) → Some x ≡ Some y → x ≡ y
some_same x y e = cc

-- a card has at most one text value
pub text_value_once : (card a b : List ℕ) → TextValue card a → TextValue card b → a ≡ b
text_value_once card a b first second = some_same a b (sym (value-text_of card a first) ∙ value-text_of card b second)

-- a text without quotes is written as it is
doubled-step : (test : Bool) (b : ℕ) (bs : List ℕ) → not test ≡ true → cond test (b ∷ b ∷ bs) (b ∷ bs) ≡ b ∷ bs
doubled-step true b bs e = cc
doubled-step false b bs e = refl

doubled-unquoted : (bs : List ℕ) → IsTrue (is_unquoted bs) → doubled bs ≡ bs
doubled-unquoted [] none = refl
doubled-unquoted (b ∷ bs) none =
    let parts = and-true (not (eqb b 39)) (is_unquoted bs) none in
    doubled-step (eqb b 39) b (doubled bs) parts.0 ∙ ap (λ (l : List ℕ). b ∷ l) (doubled-unquoted bs parts.1)

unquoted-blanks : (count : ℕ) → IsTrue (is_unquoted (blanks count))
unquoted-blanks zero = refl
unquoted-blanks (suc count) = unquoted-blanks count

-- a card that is made of a text has that text
pub text_card_value : (name text : List ℕ) → length name ≡ 8 → IsCardText text → TextValue (text_card_bytes name text) text
unfolding text_card_bytes
text_card_value name text eight card =
    let same = doubled-unquoted (filled 8 text) (is_unquoted-append text (blanks (8 - length text)) card.unquoted (unquoted-blanks (8 - length text))) in
    record {
      text = codes "'" ++ (filled 8 text ++ codes "'");
      has = made_value name 0 (codes "'" ++ (filled 8 text ++ codes "'")) eight;
      is = record { trailing = 8 - length text; parts = ap (λ (l : List ℕ). 39 ∷ (l ++ (39 ∷ []))) (sym same); trimmed = card.trimmed };
    }
