-- The commands and options that hints name, and that they are those of the command line.
use Rattle.std.specs.Prelude.{ℕ, Bool, true, false, not, List, [], ◌∷◌, codes, Option, unwrap_or, if◌then◌else◌}
use Rattle.std.specs.List.{find}
use Rattle.std.specs.Option.{option_and_then, option_map}
use Rattle.std.specs.Str.{bytes_eq}
use Rattle.fz_hints.specs.declared.command.Command.{Command}
use Rattle.fz_hints.specs.declared.command.Command.TheVariants.{Pack, Unpack, Cut, Verify, List as ListHdus, Drill, Retile, Patch}
use Rattle.fz_hints.specs.declared.setting.Setting.{Setting}
use Rattle.fz_hints.specs.declared.setting.Setting.TheVariants.{Codec, Tile, Block, Sums, Workers, Memory, Hdu, Box, Strict, At}
use Rattle.fz_words.specs.Table.{command_named, has_option, option_named, takes_value}

-- the word of a command
abbrev pub word_of : Command → List ℕ
word_of Pack = codes "pack"
word_of Unpack = codes "unpack"
word_of Cut = codes "cut"
word_of Verify = codes "verify"
word_of ListHdus = codes "list"
word_of Drill = codes "drill"
word_of Retile = codes "retile"
word_of Patch = codes "patch"

-- the commands of `read_words`
abbrev pub readable : List Command
readable = Pack ∷ Unpack ∷ Cut ∷ Verify ∷ ListHdus ∷ Drill ∷ Retile ∷ []

-- the command that is this word
abbrev pub named_command : List ℕ → Option Command
named_command word = find (λ c. bytes_eq word (word_of c)) (Pack ∷ Unpack ∷ Cut ∷ Verify ∷ ListHdus ∷ Drill ∷ Retile ∷ Patch ∷ [])

-- the name of an option
abbrev pub name_of : Setting → List ℕ
name_of Codec = codes "--codec"
name_of Tile = codes "--tile"
name_of Block = codes "--block"
name_of Sums = codes "--sums"
name_of Workers = codes "--workers"
name_of Memory = codes "--memory"
name_of Hdu = codes "--hdu"
name_of Box = codes "--box"
name_of Strict = codes "--strict"
name_of At = codes "--at"

abbrev pub settings : List Setting
settings = Codec ∷ Tile ∷ Block ∷ Sums ∷ Workers ∷ Memory ∷ Hdu ∷ Box ∷ Strict ∷ At ∷ []

-- the option of this name
abbrev pub named_setting : List ℕ → Option Setting
named_setting name = find (λ s. bytes_eq name (name_of s)) settings

-- whether an option has a value
abbrev pub has_value : Setting → Bool
has_value Codec = true
has_value Tile = true
has_value Block = true
has_value Sums = false
has_value Workers = true
has_value Memory = true
has_value Hdu = true
has_value Box = true
has_value Strict = false
has_value At = true

-- whether a command has an option
abbrev pub has : Command → Setting → Bool
has Pack Codec = true
has Pack Tile = true
has Pack Block = true
has Pack Sums = true
has Pack Workers = true
has Pack Memory = true
has Pack Hdu = false
has Pack Box = false
has Pack Strict = false
has Pack At = false
has Unpack Workers = true
has Unpack Memory = true
has Unpack other = false
has Cut Hdu = true
has Cut Box = true
has Cut Workers = true
has Cut Memory = true
has Cut other = false
has Verify Memory = true
has Verify Strict = true
has Verify other = false
has ListHdus other = false
has Drill other = false
has Retile Codec = true
has Retile Tile = true
has Retile Block = true
has Retile Sums = true
has Retile Workers = true
has Retile Memory = true
has Retile Hdu = false
has Retile Box = false
has Retile Strict = false
has Retile At = false
has Patch Hdu = true
has Patch At = true
has Patch Memory = true
has Patch other = false

-- two answers are the same
abbrev pub is_same : Bool → Bool → Bool
is_same a b = if a then b else not b

-- the command line knows the command and the option, and says the same of both
abbrev pub agrees : Command → Setting → Bool
agrees c s =
    unwrap_or (option_and_then (λ v. option_map (λ o. is_same (has c s) (has_option v o)) (option_named (name_of s))) (command_named (word_of c))) false

-- the command line knows the option, and says the same of its value
abbrev pub agrees_on_value : Setting → Bool
agrees_on_value s = unwrap_or (option_map (λ o. is_same (has_value s) (takes_value o)) (option_named (name_of s))) false
