-- What each word after the command is: an option, the value of an option, or an operand.
use Rattle.std.specs.Prelude.{ℕ, ◌==◌, ◌++◌, Bool, true, false, List, [], ◌∷◌, map, codes, String, string_bytes, Option, Some, None, if◌then◌else◌}
use Rattle.std.specs.List.{after_first, before_first, filter_map}
use Rattle.std.specs.Str.{bytes_eq}
use Rattle.fz_words.specs.Cut.{before_byte, behind_byte}
use Rattle.fz_words.specs.Table.{has_option, option_name, option_named, takes_value}
use Rattle.fz_words.specs.declared.table.Command.{Command}
use Rattle.fz_words.specs.declared.table.OptionName.{OptionName}

-- what a word is: an option with its value, or the value (an option that has none is given with the empty value); an
-- option whose value is the next word; an operand; or no word of the command
pub data PartIs : Type 0 where
  Given : OptionName → List ℕ → PartIs
  Awaiting : OptionName → PartIs
  Operand : List ℕ → PartIs
  Outside : PartIs

-- the word `--`
abbrev pub is_mark : List ℕ → Bool
is_mark word = bytes_eq word (codes "--")

abbrev pub begins_with_hyphen : List ℕ → Bool
begins_with_hyphen [] = false
begins_with_hyphen (b ∷ bytes) = b == 45

-- a word that begins with `-` and is longer than one character is an option
abbrev pub is_option : List ℕ → Bool
is_option [] = false
is_option (b ∷ []) = false
is_option (b ∷ c ∷ bytes) = b == 45

-- an option that the command does not have is none
abbrev pub had_by : Command → Option OptionName → Option OptionName
had_by command None = None
had_by command (Some option) = if has_option command option then Some option else None

-- The option is written with this after its `=`, or without one: its value is after the `=` or in the next word,
-- and an option that has no value is written without `=`.
abbrev pub spelled : OptionName → Option (List ℕ) → PartIs
spelled option None = if takes_value option then Awaiting option else Given option []
spelled option (Some value) = if takes_value option then Given option value else Outside

abbrev pub spelled_if : Option OptionName → Option (List ℕ) → PartIs
spelled_if None value = Outside
spelled_if (Some option) value = spelled option value

-- what a word is that names an option: its name is what is before the first `=`
abbrev pub spelled_option : Command → List ℕ → PartIs
spelled_option command word = spelled_if (had_by command (option_named (before_byte 61 word))) (behind_byte 61 word)

abbrev pub awaited_by : PartIs → Option OptionName
awaited_by (Given option value) = None
awaited_by (Awaiting option) = Some option
awaited_by (Operand word) = None
awaited_by Outside = None

-- the option whose value is the word after this one
abbrev pub awaited : Command → List ℕ → Option OptionName
awaited command word = awaited_by (spelled_option command word)

-- what a word is after an option that awaits its value, which does not begin with `-`; or after any other word
abbrev pub part_behind : Option OptionName → Command → List ℕ → PartIs
part_behind (Some option) command word = if begins_with_hyphen word then Outside else Given option word
part_behind None command word = if is_option word then spelled_option command word else Operand word

-- what a word is by the word before it
abbrev pub part_of : Command → List ℕ → List ℕ → PartIs
part_of command before word = part_behind (awaited command before) command word

-- an option at the end that awaits its value has none
abbrev pub unanswered : Option OptionName → List PartIs
unanswered None = []
unanswered (Some option) = Outside ∷ []

-- what each word is, of which the first is after this one
abbrev pub parts_behind : Command → List ℕ → List (List ℕ) → List PartIs
parts_behind command before [] = unanswered (awaited command before)
parts_behind command before (word ∷ words) = part_of command before word ∷ parts_behind command word words

-- what each word before the first `--` is
abbrev pub parts_of : Command → List (List ℕ) → List PartIs
parts_of command words = parts_behind command [] (before_first is_mark words)

-- whether a part is a word of the command
abbrev pub is_inside : PartIs → Bool
is_inside (Given option value) = true
is_inside (Awaiting option) = true
is_inside (Operand word) = true
is_inside Outside = false

-- whether two options have the same name
abbrev pub is_same_option : OptionName → OptionName → Bool
is_same_option a b = bytes_eq (option_name a) (option_name b)

-- the value that a part gives an option
abbrev pub value_in : OptionName → PartIs → Option (List ℕ)
value_in option (Given given value) = if is_same_option given option then Some value else None
value_in option (Awaiting given) = None
value_in option (Operand word) = None
value_in option Outside = None

-- the values that an option is given, in the order of the words
abbrev pub values_in : OptionName → List PartIs → List (List ℕ)
values_in option parts = filter_map (value_in option) parts

-- the word that a part is, if it is an operand
abbrev pub operand_in : PartIs → Option (List ℕ)
operand_in (Given option value) = None
operand_in (Awaiting option) = None
operand_in (Operand word) = Some word
operand_in Outside = None

-- the operands among the parts
abbrev pub operands_in : List PartIs → List (List ℕ)
operands_in parts = filter_map operand_in parts

-- the operands: those before the first `--`, and each word after it
abbrev pub operands_of : Command → List (List ℕ) → List (List ℕ)
operands_of command words = operands_in (parts_of command words) ++ after_first is_mark words

-- the bytes of each word
abbrev pub texts_of : {Z : Type 0} → List (String Z) → List (List ℕ)
texts_of words = map string_bytes words
