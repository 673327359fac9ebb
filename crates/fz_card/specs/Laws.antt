-- What the definitions of cards and names promise together: the statements of laws.
use Rattle.std.specs.Prelude.{◌≡◌, ℕ, ◌<◌, ◌≤◌, ◌^◌, ◌↔◌, ℤ, Bool, true, false, IsTrue, Option, Some, None, List, ◌++◌, length, take, drop, decimal, bytes_eq}
use Rattle.fz_card.specs.Layout.{blanks, card_name, HasValueIndicator, value_field}
use Rattle.fz_card.specs.Value.{IsShort, IsPlain, HasValueText, IntegerValue, LogicalValue, TextValue, ZeroValue}
use Rattle.fz_card.specs.Plain.{plain_text, skip_blanks}
use Rattle.fz_card.specs.Made.{FitsName, IsCardText, is_unquoted, numbered_name, value_card, int_card_bytes, logical_card_bytes, text_card_bytes}
use Rattle.fz_card.specs.Tables.{Names, IsIn, IsInSome, IsShortLine, AreShortLines, IsRenamed, IsDropped, IsReserved, IsHighAxis}
use Rattle.fz_card.specs.Reading.{integer_of, logical_of, text_of, zero_of}
use Rattle.fz_card.specs.Naming.{number_behind, is_in, is_in_some, packed_name, plain_name, is_dropped, is_reserved}

-- a card that is made of a name and a value begins with the name, has 80 bytes, and has that value
pub record MadeCardLaws : Type 0 where
  pub field_name : (name field : List ℕ) → length name ≡ 8 → card_name (value_card name field) ≡ name
  pub integer_name : (name : List ℕ) (v : ℤ) → length name ≡ 8 → card_name (int_card_bytes name v) ≡ name
  pub logical_name : (name : List ℕ) (b : Bool) → length name ≡ 8 → card_name (logical_card_bytes name b) ≡ name
  pub text_name : (name text : List ℕ) → length name ≡ 8 → card_name (text_card_bytes name text) ≡ name
  pub field_length : (name field : List ℕ) → length name ≡ 8 → length field ≤ 70 → length (value_card name field) ≡ 80
  pub integer_length : (name : List ℕ) (v : ℤ) → length name ≡ 8 → IsShort v → length (int_card_bytes name v) ≡ 80
  pub logical_length : (name : List ℕ) (b : Bool) → length name ≡ 8 → length (logical_card_bytes name b) ≡ 80
  pub text_length : (name text : List ℕ) → length name ≡ 8 → length text ≤ 68 → length (text_card_bytes name text) ≡ 80
  pub integer_value : (name : List ℕ) (v : ℤ) → length name ≡ 8 → IsShort v → IntegerValue (int_card_bytes name v) v
  pub logical_value : (name : List ℕ) (b : Bool) → length name ≡ 8 → LogicalValue (logical_card_bytes name b) b
  pub text_value : (name text : List ℕ) → length name ≡ 8 → IsCardText text → TextValue (text_card_bytes name text) text
  -- the digits of a number can be between quotes
  pub number_unquoted : (n : ℕ) → n < 2 ^ 64 → IsTrue (is_unquoted (decimal n))

-- a card has a value by the split of its field exactly if the function finds it
abbrev pub IntegerOfLaw : Type 0
IntegerOfLaw = (card : List ℕ) (v : ℤ) → IntegerValue card v ↔ (integer_of card ≡ Some v)

abbrev pub LogicalOfLaw : Type 0
LogicalOfLaw = (card : List ℕ) (b : Bool) → LogicalValue card b ↔ (logical_of card ≡ Some b)

abbrev pub TextOfLaw : Type 0
TextOfLaw = (card a : List ℕ) → TextValue card a ↔ (text_of card ≡ Some a)

abbrev pub ZeroOfLaw : Type 0
ZeroOfLaw = (card : List ℕ) (a : Bool) → ZeroValue card a ↔ (zero_of card ≡ Some a)

-- the same for the values of each form
pub record ValueLaws : Type 0 where
  pub integer : IntegerOfLaw
  pub logical : LogicalOfLaw
  pub text : TextOfLaw
  pub zero : ZeroOfLaw

-- the name is made of the stem and the number, which is above 0
pub record HasNumber (stem name : List ℕ) (i : ℕ) : Type 0 where
  pub some : 0 < i
  pub made : name ≡ numbered_name stem i

-- a name has a number after a stem exactly if it is made of both; a stem and a number that fit make a name of 8 bytes
pub record NumberedNameLaws : Type 0 where
  pub eight_bytes : (stem : List ℕ) (i : ℕ) → FitsName stem i → length (numbered_name stem i) ≡ 8
  pub made_number : (stem name : List ℕ) (i : ℕ) → 0 < i → i < 2 ^ 64 → name ≡ numbered_name stem i → number_behind stem name ≡ Some i
  pub number_made : (stem name : List ℕ) (i : ℕ) → number_behind stem name ≡ Some i → HasNumber stem name i
  pub other_stem : (stem name : List ℕ) → bytes_eq (take (length stem) name) stem ≡ false → None ≡ number_behind stem name

-- a is the name in an image of the name b of a packed header, both ways, and b is not dropped
pub record AreBothNames (a b : List ℕ) : Type 0 where
  pub to_packed : packed_name a ≡ Some b
  pub to_plain : plain_name b ≡ Some a
  pub kept : is_dropped b ≡ false

-- the functions of the tables of names give the names that are in the tables; the two ways through the table of both names undo each other
pub record NameTableLaws : Type 0 where
  -- a line of a list, and a list
  pub line_named : (line : Names) (name : List ℕ) → is_in line name ≡ true → IsIn line name
  pub named_line : (line : Names) (name : List ℕ) → IsShortLine line → IsIn line name → is_in line name ≡ true
  pub list_named : (lines : List Names) (name : List ℕ) → is_in_some lines name ≡ true → IsInSome lines name
  pub named_list : (lines : List Names) (name : List ℕ) → AreShortLines lines → IsInSome lines name → is_in_some lines name ≡ true
  -- the table of both names
  pub packed_renamed : (a b : List ℕ) → packed_name a ≡ Some b → IsRenamed a b
  pub plain_renamed : (a b : List ℕ) → plain_name b ≡ Some a → IsRenamed a b
  pub renamed : (a b : List ℕ) → IsRenamed a b → AreBothNames a b
  pub packed_back : (a b : List ℕ) → packed_name a ≡ Some b → plain_name b ≡ Some a
  pub plain_back : (a b : List ℕ) → plain_name b ≡ Some a → packed_name a ≡ Some b
  -- the names that are dropped, and those that are reserved
  pub dropped_named : (name : List ℕ) → is_dropped name ≡ true → IsDropped name
  pub named_dropped : (name : List ℕ) → IsDropped name → is_dropped name ≡ true
  pub reserved_named : (name : List ℕ) → is_reserved name ≡ true → IsReserved name
  pub named_reserved : (name : List ℕ) → IsReserved name → is_reserved name ≡ true
  -- the other name of a name is not dropped; a name that has no other name is neither restored nor dropped, unless it is reserved or an axis above the ninth
  pub renamed_kept : (a b : List ℕ) → packed_name a ≡ Some b → is_dropped b ≡ false
  pub other_kept : (a : List ℕ) → is_reserved a ≡ false → ¬ (IsHighAxis a) → packed_name a ≡ None → (plain_name a ≡ None) × (is_dropped a ≡ false)

-- blanks are before this rest, and nothing else is
pub record IsBehindBlanks (text rest : List ℕ) : Type 0 where
  pub count : ℕ
  pub parts : text ≡ blanks count ++ rest

-- a text without the blanks at its front
pub record BlankLaws : Type 0 where
  pub skipped : (text : List ℕ) → IsBehindBlanks text (skip_blanks text)
  pub behind_blanks : (count : ℕ) (rest : List ℕ) → skip_blanks (blanks count ++ rest) ≡ skip_blanks rest

-- all of these, for callers that want many of them
pub record CardLaws : Type 0 where
  pub made : MadeCardLaws
  pub values : ValueLaws
  pub numbers : NumberedNameLaws
  pub names : NameTableLaws
  pub blanks : BlankLaws

-- a text without blanks and `/` is that of the card's value exactly if it is found from the left
abbrev pub ValueTextLaw : Type 0
ValueTextLaw = (card text : List ℕ) → IsPlain text → HasValueText card text ↔ (HasValueIndicator card × (plain_text (value_field card) ≡ text))

-- two cards have the same values, of each form
pub record HaveSameValues (card other : List ℕ) : Type 0 where
  pub integer : integer_of card ≡ integer_of other
  pub logical : logical_of card ≡ logical_of other
  pub text : text_of card ≡ text_of other
  pub zero : zero_of card ≡ zero_of other

-- with another name in columns 1 to 8 a card has the values that it had
abbrev pub RenamedValueLaw : Type 0
RenamedValueLaw = (name card : List ℕ) → length name ≡ 8 → HaveSameValues (name ++ drop 8 card) card
