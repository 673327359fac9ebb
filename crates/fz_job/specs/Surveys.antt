-- What the first look of a job learns of a file: it goes over the headers, as far as the job does, and keeps a few numbers.
use Rattle.std.specs.Prelude.{ℕ, zero, suc, ◌*◌, ◌≤◌, ◌<◌, ◌^◌, ◌&&◌, Bool, false, List, [], ◌∷◌, ◌++◌}
use Rattle.std.specs.Prelude.{length, map, Option, Some, None, IfSome, Result, Ok, Err, if◌then◌else◌}
use Rattle.std.specs.Result.{result_map_both}
use Rattle.fz_base.specs.declared.fault.Fault.{Fault}
use Rattle.fz_block.specs.Checks.{header_touched, hdu_at, walk_of, Judge}
use Rattle.fz_block.specs.Hdus.{cards_of}
use Rattle.fz_block.specs.Header.{next_start_of}
use Rattle.fz_block.specs.Takings.{for_those_after, walk_takings}
use Rattle.fz_block.specs.Walk.{hdu_of, is_stop}
use Rattle.fz_block.specs.declared.header.Header.{Header}
use Rattle.fz_grid.specs.declared.region.Region.{Region}
use Rattle.fz_checks.specs.Greatest.{greatest}
use Rattle.fz_checks.specs.JobChecks.{data_end_of, missing_hdu}
use Rattle.fz_checks.specs.Judges.{is_wanted}
use Rattle.fz_head.specs.Packable.{is_packable, is_packed}
use Rattle.fz_head.specs.PackedPlan.{plan_of_cards}
use Rattle.fz_head.specs.Planned.{pack_plan_of}
use Rattle.fz_checks.specs.WorkBuffers.{pixels_of_tile}
use Rattle.fz_files.specs.Buffers.{room_takings}
use Rattle.fz_job.specs.Judges.{judge_of, most_hdus}
use Rattle.fz_job.specs.declared.checks.JobChecks.{JobChecks}
use Rattle.fz_job.specs.declared.checks.JobChecks.TheVariants.{Pack, Unpack, Cut, Amend, Every}
use Rattle.fz_job.specs.declared.survey.Survey.{Survey}

-- the pixels of a tile of the image that is in a table with this header
abbrev pub packed_tile : List ℕ → ℕ
packed_tile header = pixels_of_tile (plan_of_cards (cards_of header))

-- the pixels of a tile of an HDU whose tiles the job works on, or 0
abbrev pub tile_in : JobChecks → List ℕ → Header → ℕ
tile_in (Pack o) header h = if is_packable h then pixels_of_tile (pack_plan_of o h) else 0
tile_in Unpack header h = if is_packed header h then packed_tile header else 0
tile_in (Cut wanted region) header h = if is_wanted wanted header h then packed_tile header else 0
tile_in (Amend wanted) header h = if is_wanted wanted header h then packed_tile header else 0
tile_in Every header h = 0

unfoldable pub tile_pixels : JobChecks → List ℕ → Header → ℕ
tile_pixels checks file h = tile_in checks (hdu_of file h).header h

-- whether an HDU is a packed primary, for a job that makes the checks of `unpack`
abbrev pub primary_in : JobChecks → List ℕ → Header → Bool
primary_in (Pack o) header h = false
primary_in Unpack header h = is_packed header h && (plan_of_cards (cards_of header)).primary
primary_in (Cut wanted region) header h = false
primary_in (Amend wanted) header h = false
primary_in Every header h = false

unfoldable pub is_primary_table : JobChecks → List ℕ → Header → Bool
is_primary_table checks file h = primary_in checks (hdu_of file h).header h

-- the byte at which the first of some HDUs begins that is one; only HDU 1 can be one, by `packed_primary_law`
abbrev pub primary_at : (Header → Bool) → List Header → Option ℕ
primary_at is [] = None
primary_at is (h ∷ hs) = if is h then Some h.start else primary_at is hs

-- the bytes of a header
abbrev pub header_len : Header → ℕ
header_len h = 2880 * h.blocks

-- the first of some headers at which the job stops
abbrev pub stopped_at : Judge → List Header → Option Header
stopped_at judge [] = None
stopped_at judge (h ∷ hs) = if is_stop (judge h) then Some h else stopped_at judge hs

-- what is learnt of a file whose headers are these, as far as the job looks: how many they are, the longest of them, the largest
-- tile that the job works on, where a packed primary begins, and where the job stopped
abbrev pub survey_of : JobChecks → List ℕ → List Header → Survey
survey_of checks file hs = record {
  hdus = length hs;
  header_len = greatest (map header_len hs);
  tile = greatest (map (tile_pixels checks file) hs);
  packed_primary = primary_at (is_primary_table checks file) hs;
  stopped = stopped_at (judge_of checks file) hs;
}

-- the headers that a job looks at, or the first fault among them
abbrev pub headers_seen : JobChecks → List ℕ → Result (List Header) Fault
headers_seen checks file = walk_of (judge_of checks file) (most_hdus checks) file

-- what is learnt of the file, or the first fault of its headers
abbrev pub surveyed : JobChecks → List ℕ → Result Survey Fault
surveyed checks file = result_map_both (survey_of checks file) (λ x. x) (headers_seen checks file)

-- the file ended before the HDU that a part is cut from
abbrev pub by_stop : Option ℕ → List ℕ → Survey → Option Header → Result Survey Fault
by_stop wanted file s None = Err (missing_hdu wanted s.hdus (length file))
by_stop wanted file s (Some h) = Ok s

abbrev pub unless_missing : Option ℕ → List ℕ → Result Survey Fault → Result Survey Fault
unless_missing wanted file (Err x) = Err x
unless_missing wanted file (Ok s) = by_stop wanted file s s.stopped

-- what is learnt of a file that a part is cut from
abbrev pub cut_surveyed : Option ℕ → Region → List ℕ → Result Survey Fault
cut_surveyed wanted region file = unless_missing wanted file (surveyed (Cut wanted region) file)

-- the header of the HDU whose image is changed in place, or the first fault of the headers up to it
abbrev pub stop_or : Option ℕ → List ℕ → Survey → Option Header → Result Header Fault
stop_or wanted file s None = Err (missing_hdu wanted s.hdus (length file))
stop_or wanted file s (Some h) = Ok h

abbrev pub stop_in : Option ℕ → List ℕ → Result Survey Fault → Result Header Fault
stop_in wanted file (Err x) = Err x
stop_in wanted file (Ok s) = stop_or wanted file s s.stopped

abbrev pub amend_surveyed : Option ℕ → List ℕ → Result Header Fault
amend_surveyed wanted file = stop_in wanted file (surveyed (Amend wanted) file)

-- what a survey is, whatever the source shows
pub record IsSurvey (checks : JobChecks) (len : ℕ) (s : Survey) : Type 0 where
  pub some : 0 < s.hdus
  pub few : s.hdus ≤ most_hdus checks
  pub header : (2880 ≤ s.header_len) × (s.header_len ≤ 737280)
  pub tile : s.tile ≤ 2 ^ 26
  pub inside : IfSome s.stopped (λ (h : Header). (next_start_of h ≤ len) × (next_start_of h ≤ 2 ^ 62))

-- ---- what it takes, and what it reads

-- every header of the walk, as a taking with so many bytes live before it
abbrev pub headers_taken : JobChecks → ℕ → List ℕ → List (ℕ × ℕ)
headers_taken checks live file = walk_takings (judge_of checks file) live (most_hdus checks) 0 0 file

-- first the room for them
abbrev pub survey_takings : JobChecks → ℕ → List ℕ → List (ℕ × ℕ)
survey_takings checks live file = room_takings (judge_of checks file) live (most_hdus checks) file

-- whether the fill after the data is looked at: that of an image that is packed is
abbrev pub looks_at_fill : JobChecks → Header → Bool
looks_at_fill (Pack o) h = is_packable h
looks_at_fill Unpack h = false
looks_at_fill (Cut wanted region) h = false
looks_at_fill (Amend wanted) h = false
looks_at_fill Every h = false

-- the first and the last place of the bytes of a file that are looked at after the header of an HDU
abbrev pub fill_places : JobChecks → Header → List (ℕ × ℕ)
fill_places checks h = if looks_at_fill checks h then (data_end_of h, next_start_of h) ∷ [] else []

abbrev pub fill_places_in : JobChecks → Result Header Fault → List (ℕ × ℕ)
fill_places_in checks (Err x) = []
fill_places_in checks (Ok h) = fill_places checks h

-- those of one HDU: its header as far as the search for END looks, and the fill
abbrev pub hdu_places : JobChecks → ℕ → ℕ → List ℕ → List (ℕ × ℕ)
hdu_places checks k start file = (start, header_touched k start file) ∷ fill_places_in checks (hdu_at k start file)

-- those of the HDUs from number k on that the job comes to
unfoldable pub places_from : JobChecks → ℕ → ℕ → ℕ → List ℕ → List (ℕ × ℕ)
places_from checks zero k start file = []
places_from checks (suc more) k start file =
    hdu_places checks k start file
    ++ for_those_after file (judge_of checks file) (λ h. places_from checks more (suc k) (next_start_of h) file) (hdu_at k start file)

-- the places of a file that are looked at
abbrev pub survey_places : JobChecks → List ℕ → List (ℕ × ℕ)
survey_places checks file = places_from checks (most_hdus checks) 0 0 file
