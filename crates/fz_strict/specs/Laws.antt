-- What is promised of strict files.
use Rattle.std.specs.Prelude.{ℕ, ◌≡◌, ◌↔◌, ◌++◌, true, All, List, None}
use Rattle.fz_block.specs.Hdus.{IsHeader}
use Rattle.fz_head.specs.Planned.{AreOptions}
use Rattle.fz_head.specs.declared.options.PackOptions.{PackOptions}
use Rattle.fz_files.specs.FirstFault.{IsFirstFault}
use Rattle.fz_files.specs.Walks.{headers_for}
use Rattle.fz_files.specs.declared.job.Job.TheVariants.{Unpack}
use Rattle.fz_strict.specs.FoundOptions.{found_options, images_agree}
use Rattle.fz_strict.specs.SameHdus.{HasSameHdus, IsDecided, StandsForOne}
use Rattle.fz_strict.specs.Strict.{IsStrict, IsStrictBy}

-- the options that the headers say are ones that `pack` takes
abbrev pub FoundOptionsAreAllowed : Type 0
FoundOptionsAreAllowed = (file : List ℕ) → IsFirstFault Unpack file None → AreOptions (found_options file)

-- no other options need to be tried than those that the headers say
abbrev pub FoundOptionsDo : Type 0
FoundOptionsDo = (file : List ℕ) → IsStrict file ↔ IsStrictBy (found_options file) file

-- and all packed images of a strict file agree on them
abbrev pub StrictImagesAgree : Type 0
StrictImagesAgree = (file : List ℕ) → IsStrict file → images_agree file ≡ true

-- a file is what `pack` writes by some options if and only if every HDU of it is what `pack` makes of what it stands for
abbrev pub StrictIsHduByHdu : Type 0
StrictIsHduByHdu = (o : PackOptions) (file : List ℕ) → IsStrictBy o file ↔ HasSameHdus o file

-- so a file is strict if and only if every HDU is that by the options that the headers say
abbrev pub FoundOptionsDoForEach : Type 0
FoundOptionsDoForEach = (file : List ℕ) → IsStrict file ↔ HasSameHdus (found_options file) file

-- each HDU of a file in which `unpack` finds no fault stands for one HDU only
abbrev pub HdusStandForOne : Type 0
HdusStandForOne = (file : List ℕ) → IsFirstFault Unpack file None → All (StandsForOne file) (headers_for Unpack file)

-- and whether it is what `pack` makes of that is decided by one header, one array and the bytes of one table
abbrev pub HdusAreDecided : Type 0
HdusAreDecided = (o : PackOptions) (file : List ℕ) → IsFirstFault Unpack file None → All (IsDecided o file) (headers_for Unpack file)

-- and bytes are a header and what is after it in one way only
abbrev pub BytesHaveOneHeader : Type 0
BytesHaveOneHeader = (header other behind more : List ℕ) → IsHeader header → IsHeader other → header ++ behind ≡ other ++ more →
    (header ≡ other) × (behind ≡ more)
