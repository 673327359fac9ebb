-- What is packed and unpacked in memory (FITS 4.0, section 10.1), and why that fails.
use Rattle.std.specs.Prelude.{ℕ, ◌≡◌, ◌⊎◌, ◌^◌, List, [], ◌∷◌, codes, false, Option, Some, None, ⊤}
use Rattle.fz_base.specs.Counts.{Tally}
use Rattle.fz_base.specs.Takings.{first_past}
use Rattle.fz_base.specs.declared.fault.Fault.{Fault}
use Rattle.fz_files.specs.Buffers.{job_takings}
use Rattle.fz_files.specs.FirstFault.{IsFirstFault}
use Rattle.fz_files.specs.Packed.{IsPackedFile}
use Rattle.fz_files.specs.declared.job.Job.{Job}
use Rattle.fz_files.specs.declared.job.Job.TheVariants.{Pack, Unpack, Cut, Verify, List as ListHdus, Drill, Retile}
use Rattle.fz_head.specs.declared.options.CodecWord.TheVariants as word
use Rattle.fz_head.specs.declared.options.PackOptions.{PackOptions}
use Rattle.fz_words.specs.Jobs.{job_of}
use Rattle.fz_app.specs.Outputs.{IsOutput}
use Rattle.fz_app.specs.declared.status.Status.{Status}
use Rattle.fz_app.specs.declared.status.Status.TheVariants.{Done, Different, Usage, Refused, ReadFault, WriteFault, OverLimit, NoMemory}

-- the words of a command from one file to another, without options
abbrev pub words_for : List ℕ → List (List ℕ)
words_for command = command ∷ codes "IN" ∷ codes "OUT" ∷ []

-- what a file is packed with if no option is given: row tiles by rice in blocks of 32, without sums
abbrev pub default_options : PackOptions
default_options = record { codec = word.Rice; tile = None; block = 32; sums = false; workers = 1 }

-- a job that writes a file of the whole file that it is given
abbrev pub IsWhole : Job → Type 0
IsWhole (Pack options) = ⊤
IsWhole Unpack = ⊤
IsWhole (Cut wanted sieve) = ⊥
IsWhole Verify = ⊥
IsWhole ListHdus = ⊥
IsWhole (Drill rows) = ⊥
IsWhole (Retile o) = ⊥

-- the words ask for such a job, with one worker and within 4 GiB
pub record AsksFor (words : List (List ℕ)) (job : Job) : Type 0 where
  pub asked : job_of words ≡ Some (record { job = job; workers = 1; strict = false; memory = 2 ^ 32; input = codes "IN"; output = codes "OUT" })
  pub whole : IsWhole job

-- the first buffer of the job on the file that would pass 4 GiB: what is in use before, what is asked for, and the limit
pub record IsPast (job : Job) (file : List ℕ) (live asked limit : ℕ) : Type 0 where
  pub first : first_past (2 ^ 32) (job_takings job file 1) ≡ Some (live, asked)
  pub of_all : limit ≡ 2 ^ 32

-- Why a job on a file in memory fails: the file has a first fault, a buffer would pass 4 GiB, or there is no memory. No other error comes.
abbrev pub IsCause : Job → List ℕ → Status → Type 0
IsCause job file Done = ⊥
IsCause job file Different = ⊥
IsCause job file Usage = ⊥
IsCause job file (Refused x) = IsFirstFault job file (Some x)
IsCause job file ReadFault = ⊥
IsCause job file WriteFault = ⊥
IsCause job file (OverLimit live asked limit) = IsPast job file live asked limit
IsCause job file NoMemory = ⊤

-- a buffer would pass 4 GiB while the file is packed, or while a packed file of it is unpacked
abbrev pub IsPastOfBoth : List ℕ → ℕ → ℕ → ℕ → Type 0
IsPastOfBoth file live asked limit =
    IsPast (Pack default_options) file live asked limit
    ⊎ ((packed : List ℕ) × IsPackedFile default_options file packed × IsPast Unpack packed live asked limit)

-- why packing and then unpacking a file fails: only packing finds a fault
abbrev pub IsCauseOfBoth : List ℕ → Status → Type 0
IsCauseOfBoth file Done = ⊥
IsCauseOfBoth file Different = ⊥
IsCauseOfBoth file Usage = ⊥
IsCauseOfBoth file (Refused x) = IsFirstFault (Pack default_options) file (Some x)
IsCauseOfBoth file ReadFault = ⊥
IsCauseOfBoth file WriteFault = ⊥
IsCauseOfBoth file (OverLimit live asked limit) = IsPastOfBoth file live asked limit
IsCauseOfBoth file NoMemory = ⊤

-- what the job makes of a file in which it finds no fault
pub record Makes (job : Job) (file bytes : List ℕ) : Type 0 where
  pub sound : IsFirstFault job file None
  pub output : IsOutput job file bytes

-- the counts of an object none of whose calls has a fault
abbrev pub without_faults : Tally → Tally
without_faults tally = record { faults = 0; wants = tally.wants; names = tally.names; amended = tally.amended }
