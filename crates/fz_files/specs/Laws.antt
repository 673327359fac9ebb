-- What the definitions promise, for every file.
use Rattle.std.specs.Prelude.{ℕ, suc, ◌≡◌, ◌↔◌, ◌+◌, ◌^◌, ◌<◌, ◌≤◌, true, All, List, [], ◌∷◌, ◌++◌, length, map, codes, Option, None, Ok, Err, if◌then◌else◌}
use Rattle.fz_base.specs.JobBuffers.{buffer_bound}
use Rattle.fz_base.specs.Refusal.{first_refusal, refusal}
use Rattle.fz_base.specs.Takings.{first_past}
use Rattle.fz_base.specs.declared.fault.Fault.{Fault}
use Rattle.fz_base.specs.declared.fault.Place.TheVariants.{Card}
use Rattle.fz_base.specs.declared.kind.Kind.TheVariants.{AlreadyPacked}
use Rattle.fz_block.specs.Cards.{card_at}
use Rattle.fz_block.specs.Checks.{hdu_at, is_set}
use Rattle.fz_block.specs.Facts.{IsHeaderOf, facts_of}
use Rattle.fz_block.specs.Hdus.{Hdu, cards_of, hdu_bytes, header_bytes}
use Rattle.fz_block.specs.Header.{whole_blocks_of}
use Rattle.fz_block.specs.Walk.{PassesAt, hdu_of}
use Rattle.fz_block.specs.declared.header.Header.{Header}
use Rattle.fz_grid.specs.Region.{lengths_of}
use Rattle.fz_grid.specs.declared.sieve.Sieve.{Sieve}
use Rattle.fz_grid.specs.Cutout.{Sifts}
use Rattle.fz_table.specs.Tables.{table_checks}
use Rattle.fz_tile.specs.Plain.{AreBytes}
use Rattle.fz_tile.specs.TileCode.{TileCode}
use Rattle.fz_head.specs.Accepted.{IsAccepted}
use Rattle.fz_checks.specs.JobChecks.{IsImageToPack}
use Rattle.fz_checks.specs.Judges.{pack_judge}
use Rattle.fz_head.specs.EmptyPrimary.{empty_primary}
use Rattle.fz_head.specs.Packable.{is_packable, is_primary}
use Rattle.fz_head.specs.Planned.{pack_plan_of}
use Rattle.fz_head.specs.declared.options.CodecWord.{CodecWord}
use Rattle.fz_head.specs.declared.options.PackOptions.{PackOptions}
use Rattle.fz_head.specs.declared.totals.Totals.{Totals}
use Rattle.fz_files.specs.declared.job.Job.{Job}
use Rattle.fz_files.specs.declared.job.Job.TheVariants.{Pack, Unpack, Cut, Verify, List as ListHdus, Drill}
use Rattle.fz_files.specs.Buffers.{job_bound, job_takings}
use Rattle.fz_files.specs.Cutout.{header_range, ranges_of_row}
use Rattle.fz_files.specs.CutoutBytes.{IsCutout}
use Rattle.fz_files.specs.Drill.{drill_file, drill_options, drill_packed, drill_sieve}
use Rattle.fz_files.specs.FirstFault.{IsFirstFault, image_row}
use Rattle.fz_files.specs.Packed.{array_of, before_table, packed_data, packed_hdu, packed_image, table_header, tile_codes, totals_of, with_sums}
use Rattle.fz_files.specs.Picks.{HasNinePlaces, HasPicks}
use Rattle.fz_files.specs.Restored.{HduStandsFor, header_in, image_table, is_packed_primary, plan_in}
use Rattle.fz_files.specs.StandsFor.{StandsFor}
use Rattle.fz_files.specs.Walks.{Reached, header_fault, headers_for, last_of, reached_by}

-- a file has at most one first fault for a job; it has none, or this one
abbrev pub HasOneFirstFault : Type 0
HasOneFirstFault = (job : Job) (file : List ℕ) (found other : Option Fault) → IsFirstFault job file found → IsFirstFault job file other → found ≡ other

-- `verify` refuses a file for the first fault of `unpack`, and none that `unpack` takes
abbrev pub VerifyRefusesAsUnpack : Type 0
VerifyRefusesAsUnpack = (file : List ℕ) (fault : Option Fault) → IsFirstFault Verify file fault ↔ IsFirstFault Unpack file fault

-- `list` refuses it for the first fault that the headers have for `unpack`, and looks at no row
abbrev pub ListRefusesHeaders : Type 0
ListRefusesHeaders = (file : List ℕ) (fault : Option Fault) → IsFirstFault ListHdus file fault ↔ (fault ≡ header_fault Unpack file)

-- the number of an HDU, and the byte at which it begins
abbrev pub place_of : Header → Reached
place_of h = record { hdu = h.hdu; start = h.start }

-- if no header is refused, the HDUs that the checks of a job come to are those whose headers it looks at, in their order
abbrev pub ReachedAreFound : Type 0
ReachedAreFound = (job : Job) (file : List ℕ) → header_fault job file ≡ None → reached_by job file ≡ map place_of (headers_for job file)

-- what is read of the headers of the HDUs that they come to lies within the file
abbrev pub ReachedLieWithin : Type 0
ReachedLieWithin = (job : Job) (file : List ℕ) → All (λ r. (header_range file r).0 + (header_range file r).1 ≤ length file) (reached_by job file)

-- What is read of a row of a packed image, its descriptors and its record, lies within the file, if no check of every job rejects the HDU
-- and no check of its table does.
abbrev pub RowsLieWithin : Type 0
RowsLieWithin =
    (file : List ℕ) (h : Header) (row : ℕ) → hdu_at h.hdu h.start file ≡ Ok h → first_refusal (table_checks (header_in file h) h) ≡ None →
    row < (image_table file h).rows →
    All (λ range. range.0 + range.1 ≤ length file) (ranges_of_row file (image_row h row))

-- the bound on buffers rises with the longest header, the largest tile and the workers
abbrev pub BoundRises : Type 0
BoundRises = (H H' n n' W W' : ℕ) → H ≤ H' → n ≤ n' → W ≤ W' → buffer_bound H n W ≤ buffer_bound H' n' W'

-- The jobs that `drill` runs on its files for a codec have bounds within its own.
pub record AreWithinDrill (rows : ℕ) (codec : CodecWord) : Type 0 where
  pub packs : job_bound (Pack (drill_options codec)) (drill_file rows) 4 ≤ job_bound (Drill rows) [] 4
  pub unpacks : job_bound Unpack (drill_packed rows codec) 4 ≤ job_bound (Drill rows) [] 4
  pub cuts : job_bound (Cut None (drill_sieve rows)) (drill_packed rows codec) 4 ≤ job_bound (Drill rows) [] 4

-- then every taking of `drill` stays within its bound
abbrev pub DrillIsBounded : Type 0
DrillIsBounded =
    (rows : ℕ) (file : List ℕ) (asked : ℕ) → ((codec : CodecWord) → AreWithinDrill rows codec)
    → first_past (job_bound (Drill rows) file asked) (job_takings (Drill rows) file asked) ≡ None

-- a packed file stands for at most one file
abbrev pub StandsForOneFile : Type 0
StandsForOneFile = (file restored other : List ℕ) → StandsFor file restored → StandsFor file other → restored ≡ other

-- and at most one file is cut from it by a sieve of the image
abbrev pub CutsOutOneFile : Type 0
CutsOutOneFile =
    (wanted : Option ℕ) (sieve : Sieve) (file part other : List ℕ) (h : Header) → last_of (headers_for (Cut wanted sieve) file) ≡ h ∷ [] →
    Sifts (lengths_of (plan_in file h).shape) sieve →
    IsCutout wanted sieve file part → IsCutout wanted sieve file other → part ≡ other

-- the same of every sieve that a cut may be asked for, with no premise on the file
abbrev pub PicksCutOneFile : Type 0
PicksCutOneFile =
    (wanted : Option ℕ) (sieve : Sieve) (file part other : List ℕ) → HasNinePlaces sieve → HasPicks sieve → IsCutout wanted sieve file part
    → IsCutout wanted sieve file other → part ≡ other

-- what is written for the tiles of an image that `pack` takes
abbrev pub codes_from : PackOptions → List ℕ → Header → List TileCode
codes_from o source from = tile_codes (pack_plan_of o from) (array_of (pack_plan_of o from) (hdu_of source from).payload)

-- what the header of its table says, with or without cards of sums
abbrev pub totals_from : PackOptions → List ℕ → Header → Totals
totals_from o source from = record (totals_of (pack_plan_of o from) (codes_from o source from)) { sums = o.sums }

-- the HDU of its table
abbrev pub table_hdu : PackOptions → List ℕ → Header → Hdu
table_hdu o source from =
    let p = pack_plan_of o from in
    let codes = codes_from o source from in
    record {
      header = header_bytes (with_sums o.sums (table_header p (cards_of (hdu_of source from).header) codes) (packed_data p codes));
      payload = packed_data p codes;
    }

-- An image of a file that `pack` takes with these options: in HDU 0 it begins with SIMPLE = T, and its data are in the file.
pub record IsTaken (o : PackOptions) (source : List ℕ) (from : Header) : Type 0 where
  pub image : IsImageToPack o source from
  pub bytes : AreBytes source
  pub simple : from.hdu ≡ 0 → is_set (codes "SIMPLE") (card_at (hdu_of source from).header 0) ≡ true
  pub whole : length (hdu_of source from).payload ≡ whole_blocks_of from.data_len

-- its table passes the checks of every job after the first HDU, wherever it is in a file
abbrev pub TablesPass : Type 0
TablesPass =
    (o : PackOptions) (source : List ℕ) (from : Header) (k start len : ℕ) → IsTaken o source from → suc k < 65536 →
    start + length (hdu_bytes (table_hdu o source from)) ≤ len → len ≤ 2 ^ 62 →
    PassesAt (suc k) start len (table_hdu o source from)

-- it is a packed image after the first HDU, of which no check refuses anything
abbrev pub TablesAreAccepted : Type 0
TablesAreAccepted =
    (o : PackOptions) (source : List ℕ) (from : Header) (k start : ℕ) → IsTaken o source from →
    IsAccepted (pack_plan_of o from) (totals_from o source from) (table_hdu o source from).header (facts_of (suc k) start (table_hdu o source from).header)

-- an HDU of a file, after its first one, is the table of an image of another file
pub record IsTableOf (o : PackOptions) (source : List ℕ) (from : Header) (file : List ℕ) (h : Header) : Type 0 where
  pub taken : IsTaken o source from
  pub behind : 0 < h.hdu
  pub facts : h ≡ facts_of h.hdu h.start (hdu_of file h).header
  pub table : hdu_of file h ≡ table_hdu o source from

-- it stands for the image, and was a primary if the image is one
abbrev pub TablesStandForImages : Type 0
TablesStandForImages =
    (o : PackOptions) (source : List ℕ) (from : Header) (file : List ℕ) (h : Header) → IsTableOf o source from file h
    → HduStandsFor file h (hdu_bytes (hdu_of source from))

abbrev pub TablesWerePrimary : Type 0
TablesWerePrimary =
    (o : PackOptions) (source : List ℕ) (from : Header) (file : List ℕ) (h : Header) → IsTableOf o source from file h
    → is_packed_primary file h ≡ is_primary from.sort

-- `pack` refuses it, whatever the options: it is packed already, as its card 12 says, which is ZIMAGE
abbrev pub TablesAreRefused : Type 0
TablesAreRefused =
    (o again : PackOptions) (source : List ℕ) (from : Header) (file : List ℕ) (h : Header) → IsTableOf o source from file h
    → pack_judge again file h ≡ Err (refusal h.hdu (Card 12) AlreadyPacked)

-- What an HDU becomes in a packed file, by the facts at its own place: the table of an image that can be packed, or its own bytes.
abbrev pub HdusArePacked : Type 0
HdusArePacked = (o : PackOptions) (d : Hdu) (h : Header) → IsHeaderOf d.header h →
    packed_hdu o h.hdu d ≡ (if is_packable h then before_table h.hdu ++ packed_image o.sums (pack_plan_of o h) d else hdu_bytes d)

-- before the table of an image that is the primary is the empty primary, and before others nothing
abbrev pub PrimariesStandFirst : Type 0
PrimariesStandFirst = (o : PackOptions) (header : List ℕ) (h : Header) → IsHeaderOf header h →
    before_table h.hdu ≡ (if (pack_plan_of o h).primary then header_bytes empty_primary else [])

-- the table is the bytes of one HDU
abbrev pub TablesAreHdus : Type 0
TablesAreHdus = (o : PackOptions) (file : List ℕ) (h : Header) → packed_image o.sums (pack_plan_of o h) (hdu_of file h) ≡ hdu_bytes (table_hdu o file h)
