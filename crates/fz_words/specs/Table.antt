-- The commands and their options, by their names.
use Rattle.std.specs.Prelude.{ℕ, Bool, true, false, List, [], ◌∷◌, codes, Option}
use Rattle.std.specs.List.{find}
use Rattle.std.specs.Str.{bytes_eq}
use Rattle.fz_words.specs.declared.table.Command.{Command}
use Rattle.fz_words.specs.declared.table.Command.TheVariants.{Pack, Unpack, Cut, Verify, List as ListHdus, Drill, Retile, Patch}
use Rattle.fz_words.specs.declared.table.OptionName.{OptionName}
use Rattle.fz_words.specs.declared.table.OptionName.TheVariants.{Codec, Tile, Block, Sums, Workers, Memory, Hdu, Box, Strict, At}

-- the commands of `read_words`: `patch`, whose words change a file in place, is none of them
abbrev pub commands : List Command
commands = Pack ∷ Unpack ∷ Cut ∷ Verify ∷ ListHdus ∷ Drill ∷ Retile ∷ []

-- the word of a command
abbrev pub command_word : Command → List ℕ
command_word Pack = codes "pack"
command_word Unpack = codes "unpack"
command_word Cut = codes "cut"
command_word Verify = codes "verify"
command_word ListHdus = codes "list"
command_word Drill = codes "drill"
command_word Retile = codes "retile"
command_word Patch = codes "patch"

-- the command that is this word
abbrev pub command_named : List ℕ → Option Command
command_named word = find (λ command. bytes_eq word (command_word command)) commands

abbrev pub options : List OptionName
options = Codec ∷ Tile ∷ Block ∷ Sums ∷ Workers ∷ Memory ∷ Hdu ∷ Box ∷ Strict ∷ At ∷ []

-- the name of an option
abbrev pub option_name : OptionName → List ℕ
option_name Codec = codes "--codec"
option_name Tile = codes "--tile"
option_name Block = codes "--block"
option_name Sums = codes "--sums"
option_name Workers = codes "--workers"
option_name Memory = codes "--memory"
option_name Hdu = codes "--hdu"
option_name Box = codes "--box"
option_name Strict = codes "--strict"
option_name At = codes "--at"

-- the option of this name
abbrev pub option_named : List ℕ → Option OptionName
option_named name = find (λ option. bytes_eq name (option_name option)) options

-- whether an option has a value: `--sums` and `--strict` have none
abbrev pub takes_value : OptionName → Bool
takes_value Codec = true
takes_value Tile = true
takes_value Block = true
takes_value Sums = false
takes_value Workers = true
takes_value Memory = true
takes_value Hdu = true
takes_value Box = true
takes_value Strict = false
takes_value At = true

-- whether a command has an option
abbrev pub has_option : Command → OptionName → Bool
has_option Pack Codec = true
has_option Pack Tile = true
has_option Pack Block = true
has_option Pack Sums = true
has_option Pack Workers = true
has_option Pack Memory = true
has_option Pack Hdu = false
has_option Pack Box = false
has_option Pack Strict = false
has_option Pack At = false
has_option Unpack Workers = true
has_option Unpack Memory = true
has_option Unpack other = false
has_option Cut Hdu = true
has_option Cut Box = true
has_option Cut Workers = true
has_option Cut Memory = true
has_option Cut other = false
has_option Verify Memory = true
has_option Verify Strict = true
has_option Verify other = false
has_option ListHdus other = false
has_option Drill other = false
has_option Retile Codec = true
has_option Retile Tile = true
has_option Retile Block = true
has_option Retile Sums = true
has_option Retile Workers = true
has_option Retile Memory = true
has_option Retile Hdu = false
has_option Retile Box = false
has_option Retile Strict = false
has_option Retile At = false
has_option Patch Hdu = true
has_option Patch At = true
has_option Patch Memory = true
has_option Patch other = false
