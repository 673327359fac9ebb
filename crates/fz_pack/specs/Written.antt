-- The packed file, written whole, or cut short (FITS 4.0, section 4.4.1.1).
use Rattle.std.specs.Prelude.{ℕ, ◌≡◌, ◌⊎◌, List, length, map, Option, IfSome, Result, OnOk, OnErr, IsErrOf}
use Rattle.fz_base.specs.FirstByte.{IsShut}
use Rattle.fz_base.specs.Stop.{IfRefused}
use Rattle.fz_base.specs.declared.failure.Stop.{Stop}
use Rattle.fz_base.specs.declared.failure.Stop.TheVariants.{WriteFault, NoMemory}
use Rattle.fz_block.specs.Walk.{hdu_of}
use Rattle.fz_block.specs.declared.header.Header.{Header}
use Rattle.fz_head.specs.declared.options.PackOptions.{PackOptions}
use Rattle.fz_files.specs.Packed.{packed_file}
use Rattle.fz_job.specs.declared.survey.Survey.{Survey}
use Rattle.fz_pack.specs.Again.{WereSeen}

-- the headers of the file, which were seen at the first look
pub record IsList (o : PackOptions) (file : List ℕ) (s : Survey) (hs : List Header) : Type 0 where
  pub seen : WereSeen o file s.header_len s.tile 0 0 hs
  pub count : length hs ≡ s.hdus

-- shown contents are the packed file
abbrev pub ArePacked : PackOptions → List ℕ → List Header → Option (List ℕ) → Type 0
ArePacked o file hs contents = IfSome contents (λ bytes. bytes ≡ packed_file o (map (hdu_of file) hs))

-- The packed file of a file whose HDUs were seen was written, and no HDU was refused that was seen.
pub record FinishesSeen {X : Type 0} (o : PackOptions) (file : List ℕ) (s : Survey) (now : Option (List ℕ)) (result : Result X Stop) : Type 0 where
  pub packed : (hs : List Header) → IsList o file s hs → OnOk result (ArePacked o file hs now)
  pub as_seen : (hs : List Header) → IsList o file s hs → IfRefused result (λ x. ⊥)

-- after an error the contents are shut, or they are the packed file, of which byte 0 came last
abbrev pub AreShutOrWhole : {X : Type 0} → PackOptions → Survey → Option (List ℕ) → Option (List ℕ) → Result X Stop → Type 0
AreShutOrWhole o s held now result =
    OnErr result (IsShut now
    ⊎ (IfSome held (λ file. (hs : List Header) → IsList o file s hs → ArePacked o file hs now) × (IsErrOf result WriteFault ⊎ IsErrOf result NoMemory)))
