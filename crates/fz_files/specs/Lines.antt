-- The lines that `verify` and `list` print, one for each HDU (FITS 4.0, sections 4.4.1, 4.4.2.7 and 7).
use Rattle.std.specs.Prelude.{ℕ, ◌*◌, ◌||◌, nat_lt, Bool, true, false, List, [], ◌∷◌, ◌++◌, codes, decimal, Option, Some, None, if◌then◌else◌}
use Rattle.std.specs.Fmt.{signed_decimal}
use Rattle.std.specs.List.{filter, flat_map, list_any}
use Rattle.fz_base.specs.declared.fault.Fault.{Fault}
use Rattle.fz_block.specs.Header.{whole_blocks_of}
use Rattle.fz_block.specs.Walk.{hdu_of}
use Rattle.fz_block.specs.Hdus.{cards_of}
use Rattle.fz_block.specs.declared.header.Header.{Header}
use Rattle.fz_block.specs.declared.header.Sort.{Sort}
use Rattle.fz_block.specs.declared.header.Sort.TheVariants.{Primary, Image, BinTable, Other}
use Rattle.fz_grid.specs.Region.{lengths_of}
use Rattle.fz_sum.specs.Verdicts.{datasum_verdict, checksum_verdict}
use Rattle.fz_sum.specs.declared.verdicts.Verdict.{Verdict}
use Rattle.fz_sum.specs.declared.verdicts.Verdict.TheVariants.{Absent, Right, Wrong}
use Rattle.fz_head.specs.declared.plan.Plan.{Plan}
use Rattle.fz_head.specs.PackedHeader.{codec_name}
use Rattle.fz_files.specs.declared.job.Job.{Job}
use Rattle.fz_files.specs.declared.job.Job.TheVariants.{Pack, Unpack, Cut, Verify, List as ListHdus, Drill, Retile}
use Rattle.fz_files.specs.Drill.{drill_lines}
use Rattle.fz_files.specs.Packed.{tiles_in}
use Rattle.fz_files.specs.Restored.{is_image, plan_in}
use Rattle.fz_files.specs.Walks.{header_fault, headers_for}

-- a verdict in a line
abbrev pub verdict_word : Verdict → List ℕ
verdict_word Absent = codes "none"
verdict_word Right = codes "ok"
verdict_word Wrong = codes "wrong"

-- what an HDU is
abbrev pub sort_word : Sort → List ℕ
sort_word Primary = codes "IMAGE"
sort_word Image = codes "IMAGE"
sort_word BinTable = codes "TABLE"
sort_word Other = codes "OTHER"

-- lengths with an x between them
abbrev pub joined_lengths : List ℕ → List ℕ
joined_lengths [] = []
joined_lengths (n ∷ []) = decimal n
joined_lengths (n ∷ m ∷ ns) = decimal n ++ codes "x" ++ joined_lengths (m ∷ ns)

-- the axes of an HDU, which may have none
abbrev pub axes_text : List ℕ → List ℕ
axes_text [] = codes "-"
axes_text (n ∷ ns) = joined_lengths (n ∷ ns)

-- the number of tiles of a packed image
abbrev pub tiles_text : Bool → ℕ → List ℕ
tiles_text packed tiles = if packed then decimal tiles else codes "-"

-- the line of `verify` for an HDU
abbrev pub verify_line : List ℕ → Header → List ℕ
verify_line file h =
    let hdu = hdu_of file h in
    let cards = cards_of hdu.header in
    codes "HDU " ++ decimal h.hdu
    ++ codes " datasum " ++ verdict_word (datasum_verdict cards hdu.payload)
    ++ codes " checksum " ++ verdict_word (checksum_verdict cards hdu.header hdu.payload)
    ++ codes " tiles " ++ tiles_text (is_image file h) (tiles_in (plan_in file h)) ++ codes "\n"

-- a verdict is that the sum is wrong
abbrev pub is_wrong : Verdict → Bool
is_wrong Absent = false
is_wrong Right = false
is_wrong Wrong = true

-- a sum of an HDU is wrong
abbrev pub has_wrong_sum : List ℕ → Header → Bool
has_wrong_sum file h =
    let hdu = hdu_of file h in
    is_wrong (datasum_verdict (cards_of hdu.header) hdu.payload) || is_wrong (checksum_verdict (cards_of hdu.header) hdu.header hdu.payload)

-- some sum of the file is wrong
abbrev pub has_wrong_sums : List ℕ → Bool
has_wrong_sums file = list_any (has_wrong_sum file) (headers_for Verify file)

-- the bytes of the header, and of the data with fill
abbrev pub sizes_text : Header → List ℕ
sizes_text h = codes " header " ++ decimal (2880 * h.blocks) ++ codes " data " ++ decimal (whole_blocks_of h.data_len)

-- what `list` says of an HDU that is not packed
abbrev pub other_text : Header → List ℕ
other_text h = sort_word h.sort ++ codes " " ++ signed_decimal h.bitpix ++ codes " " ++ axes_text (lengths_of h.axes)

-- what it says of a packed image
abbrev pub packed_text : Plan → List ℕ
packed_text p =
    codes "PACKED " ++ codec_name p.codec ++ codes " " ++ signed_decimal p.bitpix ++ codes " " ++ axes_text (lengths_of p.shape)
    ++ codes " tile " ++ axes_text (lengths_of p.tile) ++ codes " rows " ++ decimal (tiles_in p)

-- the line of `list` for an HDU
abbrev pub list_line : List ℕ → Header → List ℕ
list_line file h =
    codes "HDU " ++ decimal h.hdu ++ codes " "
    ++ (if is_image file h then packed_text (plan_in file h) else other_text h)
    ++ sizes_text h ++ codes "\n"

-- the headers before the HDU of a fault; all if there is none
abbrev pub before_fault : Option Fault → List Header → List Header
before_fault None hs = hs
before_fault (Some fault) hs = filter (λ (h : Header). nat_lt h.hdu fault.hdu) hs

-- the lines of a job in a file whose headers have no fault, if this is the first fault of the rows, or none
abbrev pub lines_of : Job → List ℕ → List Header → Option Fault → List ℕ
lines_of (Pack o) file hs fault = []
lines_of Unpack file hs fault = []
lines_of (Cut wanted sieve) file hs fault = []
lines_of Verify file hs fault = flat_map (verify_line file) (before_fault fault hs)
lines_of ListHdus file hs fault = flat_map (list_line file) hs
lines_of (Drill rows) file hs fault = drill_lines rows
lines_of (Retile o) file hs fault = []

-- the lines of a job, if the headers of the file have this fault or none, and this is its first fault or none
abbrev pub lines_behind : Option Fault → Job → List ℕ → Option Fault → List ℕ
lines_behind (Some refused) job file fault = []
lines_behind None job file fault = lines_of job file (headers_for job file) fault

-- the lines that a job prints of a file of which this is the first fault, or none; none if a header is refused
abbrev pub report_lines : Job → List ℕ → Option Fault → List ℕ
report_lines job file fault = lines_behind (header_fault job file) job file fault
