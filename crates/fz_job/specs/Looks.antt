-- What the crate's own functions promise each other: the checks of one HDU.
use Rattle.std.specs.Prelude.{ℕ, ◌+◌, ◌<◌, ◌≤◌, ◌^◌, max, Bool, true, false, List, Option, Some, None, Result, Ok, Err, if◌then◌else◌}
use Rattle.std.specs.Result.{result_map_both}
use Rattle.fz_base.specs.declared.fault.Fault.{Fault}
use Rattle.fz_base.specs.declared.failure.Stop.{Stop}
use Rattle.fz_block.specs.Checks.{hdu_at}
use Rattle.fz_block.specs.Header.{next_start_of}
use Rattle.fz_grid.specs.declared.region.Region.{Region}
use Rattle.fz_block.specs.declared.header.Header.{Header}
use Rattle.fz_checks.specs.JobChecks.{plan_to_pack, image_to_unpack, image_to_cut, image_to_amend}
use Rattle.fz_checks.specs.Judges.{is_wanted}
use Rattle.fz_checks.specs.WorkBuffers.{pixels_of_tile}
use Rattle.fz_checks.specs.declared.job_checks.PackedImage.{PackedImage}
use Rattle.fz_head.specs.declared.options.PackOptions.{PackOptions}
use Rattle.fz_head.specs.declared.plan.Plan.{Plan}
use Rattle.fz_job.specs.Judges.{judge_of}
use Rattle.fz_job.specs.Surveys.{header_len, is_primary_table, tile_pixels}
use Rattle.fz_job.specs.declared.checks.JobChecks.{JobChecks}
use Rattle.fz_job.specs.declared.checks.JobChecks.TheVariants.{Pack, Unpack, Cut, Amend, Every}
use Rattle.fz_job.specs.declared.look.Look.{Look}
use Rattle.fz_job.specs.declared.look.Looked.{Looked}
use Rattle.fz_job.specs.declared.survey.LookedAt.{LookedAt}
use Rattle.fz_job.specs.declared.survey.Survey.{Survey}

-- an HDU with tiles of so many pixels, which is a packed primary or not
abbrev pub seen_as : ℕ → Bool → Bool → Look
seen_as pixels primary stop = record { tile = pixels; primary = primary; stop = stop }

abbrev pub tiled : ℕ → Bool → Look
tiled pixels stop = seen_as pixels false stop

abbrev pub tiled_plan : Option Plan → Look
tiled_plan None = tiled 0 false
tiled_plan (Some p) = tiled (pixels_of_tile p) false

abbrev pub tiled_image : Option PackedImage → Look
tiled_image None = tiled 0 false
tiled_image (Some i) = seen_as (pixels_of_tile i.plan) i.plan.primary false

abbrev pub cut_image : PackedImage → Look
cut_image i = tiled (pixels_of_tile i.plan) true

-- what the checks of each job learn of a header by its bytes
abbrev pub pack_look : PackOptions → Header → List ℕ → Result Look Fault
pack_look o h header = result_map_both tiled_plan (λ x. x) (plan_to_pack o h header)

abbrev pub unpack_look : Header → List ℕ → Bool → Result Look Fault
unpack_look h header after_empty = result_map_both tiled_image (λ x. x) (image_to_unpack h header after_empty)

abbrev pub cut_look : Option ℕ → Region → Header → List ℕ → Bool → Result Look Fault
cut_look wanted region h header after_empty =
    if is_wanted wanted header h then result_map_both cut_image (λ x. x) (image_to_cut h header after_empty region)
    else Ok (tiled 0 false)

abbrev pub amend_look : Option ℕ → Header → List ℕ → Bool → Result Look Fault
amend_look wanted h header after_empty =
    if is_wanted wanted header h then result_map_both cut_image (λ x. x) (image_to_amend h header after_empty)
    else Ok (tiled 0 false)

unfoldable pub look_of : JobChecks → Header → List ℕ → Bool → Result Look Fault
look_of (Pack o) h header after_empty = pack_look o h header
look_of Unpack h header after_empty = unpack_look h header after_empty
look_of (Cut wanted region) h header after_empty = cut_look wanted region h header after_empty
look_of (Amend wanted) h header after_empty = amend_look wanted h header after_empty
look_of Every h header after_empty = Ok (tiled 0 false)

-- what all checks of a job for one HDU learn
abbrev pub hdu_look : JobChecks → List ℕ → Header → Result Look Fault
hdu_look checks file h = result_map_both (seen_as (tile_pixels checks file h) (is_primary_table checks file h)) (λ x. x) (judge_of checks file h)

-- the same with the checks of every job before them
abbrev pub with_header : Header → Look → Looked
with_header h look = record { header = h; look = look }

abbrev pub looked_by : JobChecks → List ℕ → Result Header Fault → Result Looked Fault
looked_by checks file (Err x) = Err x
looked_by checks file (Ok h) = result_map_both (with_header h) (λ x. x) (hdu_look checks file h)

-- a header with its HDU within the file, and a tile that is no larger than one may be
pub record IsLooked (len : ℕ) (x : Looked) : Type 0 where
  pub inside : next_start_of x.header ≤ len
  pub near : next_start_of x.header ≤ 2 ^ 62
  pub some : 0 < x.header.blocks
  pub short : x.header.blocks ≤ 256
  pub small : x.look.tile ≤ 2 ^ 26

-- where a packed primary begins: it is one of the HDUs before, or the next one
abbrev pub first_primary : Option ℕ → Header → Bool → Option ℕ
first_primary (Some start) h primary = Some start
first_primary None h primary = if primary then Some h.start else None

-- what is learnt of some HDUs, at none of which the job stopped, and of the next one
abbrev pub joined : Survey → Looked → Survey
joined s x = record {
  hdus = s.hdus + 1;
  header_len = max s.header_len (header_len x.header);
  tile = max s.tile x.look.tile;
  packed_primary = first_primary s.packed_primary x.header x.look.primary;
  stopped = if x.look.stop then Some x.header else None;
}

abbrev pub looked : JobChecks → ℕ → ℕ → List ℕ → Result Looked Fault
looked checks k start file = looked_by checks file (hdu_at k start file)

-- what was learnt of an HDU, without the room for the next header
abbrev pub found_in : Result LookedAt Stop → Result Looked Stop
found_in answer = result_map_both (λ (x : LookedAt). x.found) (λ x. x) answer
