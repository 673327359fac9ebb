-- The parts of a card, written one after the other.
use Rattle.std.proofs.Common.{◌≡◌, ℕ, ◌+◌, ◌-◌, ◌^◌, ◌<◌, ◌≤◌, Bool, true, false, List, [], ◌++◌, length, take, drop, sym, ap, ◌∙◌, arith}
use Rattle.std.specs.Prelude.{ℤ, codes}
use Rattle.std.specs.Fmt.{decimal, signed_decimal}
use Rattle.std.proofs.Math.Nat.{pow-le-pow_right}
use Rattle.std.proofs.lemmas.Fmt.{length-decimal-le}
use Rattle.std.proofs.lemmas.List.{append_assoc, append-nil, drop_at, take_at, drop-drop, length-append}
use Rattle.fz_card.specs.Layout.{blanks, filled, card_name, value_field}
use Rattle.fz_card.specs.Value.{IsShort, HasValueText, IntegerValue, LogicalValue, logical_text}
use Rattle.fz_card.specs.Made.{value_card, right_aligned, int_card_bytes, logical_card_bytes, text_card_bytes, FitsName, numbered_name}
use Rattle.fz_card.proofs.Blanks.{length-filled, length-padded, length-blanks}
use Rattle.fz_card.proofs.Integers.{decimal_integer, length-signed_decimal}

length-logical_text : (b : Bool) → length (logical_text b) ≤ 20
length-logical_text true = omega arith
length-logical_text false = omega arith

-- a text between quotes
pub text_line : (name text line quoted front filled_text all : List ℕ) → line ≡ name ++ codes "= " → quoted ≡ line ++ codes "'" → front ≡ quoted ++ text → filled_text ≡ front ++ blanks (8 - length text) → all ≡ filled_text ++ codes "'" → all ≡ name ++ (codes "= " ++ (codes "'" ++ (filled 8 text ++ codes "'")))
text_line name text line quoted front filled_text all e1 e2 e3 e4 e5 = rw (e5, e4, e3, e2, e1) (simp append_assoc)

-- what is after the name of a card that is made
behind_name : (name field : List ℕ) → length name ≡ 8 → drop 8 (value_card name field) ≡ codes "= " ++ (field ++ blanks (80 - length (name ++ (codes "= " ++ field))))
behind_name name field eight =
    let rest = blanks (80 - length (name ++ (codes "= " ++ field))) in
    ap (drop 8) (append_assoc name (codes "= " ++ field) rest) ∙ drop_at name ((codes "= " ++ field) ++ rest) 8 eight

made_field : (name field : List ℕ) → length name ≡ 8 → value_field (value_card name field) ≡ field ++ blanks (80 - length (name ++ (codes "= " ++ field)))
made_field name field eight =
    sym (drop-drop 2 8 (value_card name field)) ∙ ap (drop 2) (behind_name name field eight)

-- a card that is made has the text that was put into it after blanks
pub made_value : (name : List ℕ) (before : ℕ) (text : List ℕ) → length name ≡ 8 → HasValueText (value_card name (blanks before ++ text)) text
made_value name before text eight =
    let count = 80 - length (name ++ (codes "= " ++ (blanks before ++ text))) in
    record {
      indicator = ap (take 2) (behind_name name (blanks before ++ text) eight);
      field = record {
        before = before;
        behind = count;
        comment = [];
        parts = made_field name (blanks before ++ text) eight ∙ (append_assoc (blanks before) text (blanks count) ∙ ap (λ (rest : List ℕ). blanks before ++ (text ++ rest)) (sym (append-nil (blanks count))));
        is_comment = tt;
      };
    }

-- the value of a card that is made of an integer, and of a logical value
pub int_card_value : (name : List ℕ) (v : ℤ) → length name ≡ 8 → IsShort v → IntegerValue (int_card_bytes name v) v
unfolding int_card_bytes
int_card_value name v eight short =
    record { text = signed_decimal v; has = made_value name (20 - length (signed_decimal v)) (signed_decimal v) eight; is = decimal_integer v short }

pub logical_card_value : (name : List ℕ) (b : Bool) → length name ≡ 8 → LogicalValue (logical_card_bytes name b) b
unfolding logical_card_bytes
logical_card_value name b eight = made_value name (20 - length (logical_text b)) (logical_text b) eight

-- a card that is made begins with its name
pub name_of_made : (name field : List ℕ) → length name ≡ 8 → card_name (value_card name field) ≡ name
name_of_made name field eight =
    ap (take 8) (append_assoc name (codes "= " ++ field) (blanks (80 - length (name ++ (codes "= " ++ field))))) ∙ take_at name ((codes "= " ++ field) ++ blanks (80 - length (name ++ (codes "= " ++ field)))) 8 eight

pub card_name-int_card_bytes : (name : List ℕ) (v : ℤ) → length name ≡ 8 → card_name (int_card_bytes name v) ≡ name
unfolding int_card_bytes
card_name-int_card_bytes name v eight = name_of_made name (right_aligned 20 (signed_decimal v)) eight

pub card_name-logical_card_bytes : (name : List ℕ) (b : Bool) → length name ≡ 8 → card_name (logical_card_bytes name b) ≡ name
unfolding logical_card_bytes
card_name-logical_card_bytes name b eight = name_of_made name (right_aligned 20 (logical_text b)) eight

pub card_name-text_card_bytes : (name text : List ℕ) → length name ≡ 8 → card_name (text_card_bytes name text) ≡ name
unfolding text_card_bytes
card_name-text_card_bytes name text eight = name_of_made name (codes "'" ++ (filled 8 text ++ codes "'")) eight

-- each card that is made has 80 bytes
pub length-value_card : (name field : List ℕ) → length name ≡ 8 → length field ≤ 70 → length (value_card name field) ≡ 80
length-value_card name field eight fits =
    length-filled 80 (name ++ (codes "= " ++ field)) (omega (arith, length-append name (codes "= " ++ field), eight))

length-right_aligned : (len : ℕ) (text : List ℕ) → length text ≤ len → length (right_aligned len text) ≡ len
length-right_aligned len text fits = omega (arith, length-append (blanks (len - length text)) text, length-blanks (len - length text))

pub length-int_card_bytes : (name : List ℕ) (v : ℤ) → length name ≡ 8 → IsShort v → length (int_card_bytes name v) ≡ 80
unfolding int_card_bytes
length-int_card_bytes name v eight short =
    let number = length-right_aligned 20 (signed_decimal v) (length-signed_decimal v short) in
    length-value_card name (right_aligned 20 (signed_decimal v)) eight (omega (arith, number))

pub length-logical_card_bytes : (name : List ℕ) (b : Bool) → length name ≡ 8 → length (logical_card_bytes name b) ≡ 80
unfolding logical_card_bytes
length-logical_card_bytes name b eight =
    let letter = length-right_aligned 20 (logical_text b) (length-logical_text b) in
    length-value_card name (right_aligned 20 (logical_text b)) eight (omega (arith, letter))

pub length-text_card_bytes : (name text : List ℕ) → length name ≡ 8 → length text ≤ 68 → length (text_card_bytes name text) ≡ 80
unfolding text_card_bytes
length-text_card_bytes name text eight fits = length-value_card name (codes "'" ++ (filled 8 text ++ codes "'")) eight (omega (arith, length-append (filled 8 text) (codes "'"), length-append text (blanks (8 - length text)), length-blanks (8 - length text)))

-- a stem and the digits that fit after it
pub fits_digits : (stem : List ℕ) (i : ℕ) → FitsName stem i → length stem + length (decimal i) ≤ 8
fits_digits stem i fits =
    let room : 8 - length stem ≤ 8 = omega arith in
    let wide : i < 2 ^ 64 = omega (arith, fits.1, pow-le-pow_right {n = 10} (omega arith) room) in
    omega (arith, fits.0, length-decimal-le (8 - length stem) i (omega (arith, fits.0)) fits.1 wide)

-- a numbered name has 8 bytes
pub length-numbered_name : (stem : List ℕ) (i : ℕ) → FitsName stem i → length (numbered_name stem i) ≡ 8
unfolding numbered_name
length-numbered_name stem i fits =
    length-padded (stem ++ decimal i) (omega (arith, length-append stem (decimal i), fits_digits stem i fits))
