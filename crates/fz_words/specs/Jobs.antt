-- The job that the words of the command line ask for.
use Rattle.std.specs.Prelude.{ℕ, ◌^◌, Bool, true, false, List, [], ◌∷◌, Option, Some, None, if◌then◌else◌}
use Rattle.std.specs.List.{list_all}
use Rattle.std.specs.Option.{option_map}
use Rattle.fz_block.specs.declared.axes.Axes.{Axes}
use Rattle.fz_files.specs.declared.job.Job.{Job}
use Rattle.fz_files.specs.declared.job.Job.TheVariants as job
use Rattle.fz_grid.specs.declared.sieve.Sieve.{Sieve}
use Rattle.fz_head.specs.declared.options.CodecWord.{CodecWord}
use Rattle.fz_head.specs.declared.options.CodecWord.TheVariants as word
use Rattle.fz_head.specs.declared.options.PackOptions.{PackOptions}
use Rattle.fz_words.specs.Parts.{PartIs, is_inside, operands_of, parts_of, values_in}
use Rattle.fz_words.specs.Table.{command_named}
use Rattle.fz_words.specs.Values.{box_in, codec_in, lengths_in, number_in}
use Rattle.fz_words.specs.declared.table.Command.{Command}
use Rattle.fz_words.specs.declared.table.Command.TheVariants.{Pack, Unpack, Cut, Verify, List as ListHdus, Drill, Retile, Patch}
use Rattle.fz_words.specs.declared.table.OptionName.{OptionName}
use Rattle.fz_words.specs.declared.table.OptionName.TheVariants.{Codec, Tile, Block, Sums, Workers, Memory, Hdu, Box, Strict, At}

-- What the words ask for: the job, the number of workers, whether `verify` also compares the file with what `pack` writes, the limit on
-- memory in bytes, and the names of the files; a name is empty if the command has none.
pub record Asked : Type 0 where
  pub job : Job
  pub workers : ℕ
  pub strict : Bool
  pub memory : ℕ
  pub input : List ℕ
  pub output : List ℕ

-- the words after a command: the parts before the first `--`, and the operands
pub record LineIs : Type 0 where
  pub parts : List PartIs
  pub operands : List (List ℕ)

abbrev pub line_of : Command → List (List ℕ) → LineIs
line_of command words = record { parts = parts_of command words; operands = operands_of command words }

-- what a value leads to, if there is one
abbrev pub with_some : {A B : Type 0} → Option A → (A → Option B) → Option B
with_some None f = None
with_some (Some value) f = f value

-- the value of an option that is given at most once: none if it is not given
abbrev pub at_most_once : List (List ℕ) → Option (Option (List ℕ))
at_most_once [] = Some None
at_most_once (value ∷ []) = Some (Some value)
at_most_once (value ∷ again ∷ others) = None

abbrev pub value_of : OptionName → LineIs → Option (Option (List ℕ))
value_of option line = at_most_once (values_in option line.parts)

-- what an option's value says, or what holds if the option is not given
abbrev pub read_or : {A : Type 0} → A → (List ℕ → Option A) → Option (List ℕ) → Option A
read_or otherwise read None = Some otherwise
read_or otherwise read (Some value) = read value

-- rice, if no codec is given
abbrev pub codec_of : LineIs → Option CodecWord
codec_of line = with_some (value_of Codec line) (read_or word.Rice codec_in)

-- the lengths of a tile, if they are given
abbrev pub tile_of : LineIs → Option (Option Axes)
tile_of line = with_some (value_of Tile line) (read_or None (λ text. option_map (λ axes. Some axes) (lengths_in text)))

-- a block is given only with the codec rice
abbrev pub block_in : CodecWord → List ℕ → Option ℕ
block_in word.Rice text = number_in 1 32767 text
block_in word.Plio text = None
block_in word.None text = None

abbrev pub block_of : CodecWord → LineIs → Option ℕ
block_of codec line = with_some (value_of Block line) (read_or 32 (block_in codec))

-- whether sums are asked for
abbrev pub sums_of : LineIs → Option Bool
sums_of line = with_some (value_of Sums line) (read_or false (λ _. Some true))

-- whether a file is to be compared with what `pack` writes
abbrev pub strict_of : LineIs → Option Bool
strict_of line = with_some (value_of Strict line) (read_or false (λ _. Some true))

abbrev pub workers_of : LineIs → Option ℕ
workers_of line = with_some (value_of Workers line) (read_or 1 (number_in 1 64))

abbrev pub memory_of : LineIs → Option ℕ
memory_of line = with_some (value_of Memory line) (read_or (2 ^ 32) (number_in 1 (2 ^ 40)))

-- the number of an HDU, if it is given
abbrev pub hdu_of : LineIs → Option (Option ℕ)
hdu_of line = with_some (value_of Hdu line) (read_or None (λ text. option_map (λ hdu. Some hdu) (number_in 0 65535 text)))

-- a box has to be given
abbrev pub box_given : Option (List ℕ) → Option Sieve
box_given None = None
box_given (Some text) = box_in text

abbrev pub box_of : LineIs → Option Sieve
box_of line = with_some (value_of Box line) box_given

-- a place along each axis has to be given
abbrev pub at_given : Option (List ℕ) → Option Axes
at_given None = None
at_given (Some text) = lengths_in text

abbrev pub at_of : LineIs → Option Axes
at_of line = with_some (value_of At line) at_given

-- a word that is not empty
abbrev pub nonempty : List ℕ → Option (List ℕ)
nonempty [] = None
nonempty (b ∷ bytes) = Some (b ∷ bytes)

-- the one operand
abbrev pub one_operand : List (List ℕ) → Option (List ℕ)
one_operand [] = None
one_operand (word ∷ []) = nonempty word
one_operand (word ∷ more ∷ others) = None

-- two names: IN and OUT, or PATCH and FILE
pub record Names : Type 0 where
  pub input : List ℕ
  pub output : List ℕ

abbrev pub names_in : List (List ℕ) → Option Names
names_in (input ∷ output ∷ []) =
    with_some (nonempty input) (λ i. with_some (nonempty output) (λ o. Some (record { input = i; output = o })))
names_in other = None

abbrev pub pack_options_of : LineIs → Option PackOptions
pack_options_of line =
    with_some (codec_of line) (λ codec.
    with_some (tile_of line) (λ tile.
    with_some (block_of codec line) (λ block.
    with_some (sums_of line) (λ sums.
    with_some (workers_of line) (λ workers.
    Some (record { codec = codec; tile = tile; block = block; sums = sums; workers = workers }))))))

-- what a command asks for that reads IN and writes OUT: this job by so many workers
abbrev pub written_by : Job → ℕ → LineIs → Option Asked
written_by j workers line =
    with_some (memory_of line) (λ memory.
    with_some (names_in line.operands) (λ names.
    Some (record { job = j; workers = workers; strict = false; memory = memory; input = names.input; output = names.output })))

abbrev pub pack_of : LineIs → Option Asked
pack_of line = with_some (pack_options_of line) (λ options. written_by (job.Pack options) options.workers line)

abbrev pub unpack_of : LineIs → Option Asked
unpack_of line = with_some (workers_of line) (λ workers. written_by job.Unpack workers line)

abbrev pub cut_of : LineIs → Option Asked
cut_of line =
    with_some (hdu_of line) (λ hdu.
    with_some (box_of line) (λ sieve.
    with_some (workers_of line) (λ workers.
    written_by (job.Cut hdu sieve) workers line)))

abbrev pub verify_of : LineIs → Option Asked
verify_of line =
    with_some (strict_of line) (λ strict.
    with_some (memory_of line) (λ memory.
    with_some (one_operand line.operands) (λ input.
    Some (record { job = job.Verify; workers = 1; strict = strict; memory = memory; input = input; output = [] }))))

abbrev pub list_of : LineIs → Option Asked
list_of line =
    with_some (one_operand line.operands) (λ input.
    Some (record { job = job.List; workers = 1; strict = false; memory = 2 ^ 32; input = input; output = [] }))

abbrev pub drill_of : LineIs → Option Asked
drill_of line =
    with_some (one_operand line.operands) (λ operand.
    with_some (number_in 1 16384 operand) (λ rows.
    Some (record { job = job.Drill rows; workers = 1; strict = false; memory = 2 ^ 32; input = []; output = [] })))

abbrev pub retile_of : LineIs → Option Asked
retile_of line = with_some (pack_options_of line) (λ options. written_by (job.Retile options) options.workers line)

-- what the words after a command ask for; those of `patch` ask for no job
abbrev pub asked_by : Command → LineIs → Option Asked
asked_by Pack line = pack_of line
asked_by Unpack line = unpack_of line
asked_by Cut line = cut_of line
asked_by Verify line = verify_of line
asked_by ListHdus line = list_of line
asked_by Drill line = drill_of line
asked_by Retile line = retile_of line
asked_by Patch line = None

-- what the words after a command ask for: each is an option of the command, its value or an operand
abbrev pub job_of_line : Command → LineIs → Option Asked
job_of_line command line = if list_all is_inside line.parts then asked_by command line else None

-- what the words ask for, if they do; the first is the command
unfoldable pub job_of : List (List ℕ) → Option Asked
job_of [] = None
job_of (first ∷ words) = with_some (command_named first) (λ command. job_of_line command (line_of command words))
