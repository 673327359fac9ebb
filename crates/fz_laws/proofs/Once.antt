-- The packed file of a file: there is one where `pack` finds no fault, and no other.
use Rattle.std.proofs.Common.{◌≡◌, ℕ, false, List, map, Ok, refl, sym, ap, ◌∙◌}
use Rattle.fz_block.specs.Checks.{Judge, headers_of, walk_of}
use Rattle.fz_block.specs.Hdus.{AreHdusOf, Hdu}
use Rattle.fz_block.specs.Walk.{hdu_of, stops}
use Rattle.fz_block.specs.declared.header.Header.{Header}
use Rattle.fz_checks.specs.Judges.{pack_judge}
use Rattle.fz_files.specs.Packed.{packed_file}
use Rattle.fz_files.specs.Walks.{header_fault}
use Rattle.fz_files.specs.declared.job.Job.TheVariants.{Pack}
use Rattle.fz_laws.specs.RoundTrip.{HasOnePackedFile, HasPackedFile}
use Rattle.fz_laws.proofs.Sources.{never_stops}
use Rattle.fz_laws.proofs.Way.{no_header_fault, pack_walk}

-- what is taken of the laws of lists of HDUs
pub record ListLaws : Type 0 where
  pub whole : (judge : Judge) (most : ℕ) (file : List ℕ) (hs : List Header) → walk_of judge most file ≡ Ok hs → stops judge hs ≡ false → headers_of most file ≡ Ok hs
  pub walk : (most : ℕ) (file : List ℕ) (hs : List Header) → headers_of most file ≡ Ok hs → AreHdusOf file (map (hdu_of file) hs)
  pub one : (file : List ℕ) (hs ks : List Hdu) → AreHdusOf file hs → AreHdusOf file ks → hs ≡ ks

pub has_packed : ListLaws → HasPackedFile
has_packed laws o file sound =
    let walk = pack_walk o file (no_header_fault (header_fault (Pack o) file) (Pack o) file sound) in
    let whole : headers_of 65535 file ≡ Ok walk.0 = laws.whole (pack_judge o file) 65535 file walk.0 walk.1 (never_stops o file walk.0) in
    let hdus : List Hdu = map (hdu_of file) walk.0 in
    (packed_file o hdus, record { hdus = hdus; parts = laws.walk 65535 file walk.0 whole; packed = refl })

pub packed_once : ListLaws → HasOnePackedFile
packed_once laws o file bytes other first second =
    let same : first.hdus ≡ second.hdus = laws.one file first.hdus second.hdus first.parts second.parts in
    first.packed ∙ ap (packed_file o) same ∙ sym second.packed
