-- The checks before PATCH is looked at, its header, and its box.
use Rattle.std.proofs.Common.{◌≡◌, ℕ, ◌+◌, ◌<◌, ◌≤◌, List, length, slice_index, Option, Some, None, Result, Ok, Err, refl, sym, ap, ◌∙◌, subst, arith, rules}
use Rattle.fz_base.specs.Refusal.{first_refusal}
use Rattle.fz_base.specs.Stop.{IsDefined, TellsLimit}
use Rattle.fz_base.specs.Takings.{TellsFirstPast}
use Rattle.fz_base.specs.declared.failure.Stop.{Stop}
use Rattle.fz_base.specs.declared.fault.Fault.{Fault}
use Rattle.fz_block.specs.Hdus.{cards_of}
use Rattle.fz_block.specs.declared.header.Header.{Header}
use Rattle.fz_grid.specs.Region.{IsWithin, lengths_of}
use Rattle.fz_grid.specs.Sieve.{sieve_lengths}
use Rattle.fz_grid.specs.declared.region.Region.{Region}
use Rattle.fz_grid.specs.declared.sieve.Sieve.{Sieve}
use Rattle.fz_checks.specs.declared.job_checks.PackedImage.{PackedImage}
use Rattle.fz_laws.specs.PatchChecks.{if_patchable, own_checks}
use Rattle.fz_laws.specs.PatchForm.{has_wide}
use Rattle.fz_laws.specs.Given.{box_region, box_sieve}
use Rattle.fz_target.specs.Targets.{header_of, job_at, placed, region_sieve}
use Rattle.fz_target.specs.declared.target.Target.{Target}
use Rattle.fz_target.proofs.EndsTold.{if_some, some_of}
use Rattle.fz_target.proofs.Found.{ends_here, found_target, given_all, given_stopped, gives_within, limit_stopped, pass_all, past_given, past_none, past_stopped, peak_given, peak_none, stop_ends, stop_own, target_in}
use Rattle.fz_target.proofs.FoundTargets.{box_is, first_step, given_parts, lengths_are, shape_is, sieve_given, within_given}
use Rattle.fz_target.proofs.GivenRead.{begins_here, box_shown, no_header_read, no_own_fault}
use Rattle.fz_target.proofs.Peaks.{reached_after}
use Rattle.fz_target.proofs.find.find_target.Goals as goal

-- ---- refused before PATCH is looked at

pub returns-in-Err-clause-exact : goal.returns-in-Err-clause-exact
returns-in-Err-clause-exact g c = λ file wanted has.
    if_some (g.S.Source.held c.args.patch.now) _ (λ p is. stop_own file p (job_at wanted c.args.asked.now.corner.now) c.args.header.now c.in-Err.fault (c.in-Err.ensures.exact file wanted has))

pub returns-in-Err-clause-first_past : goal.returns-in-Err-clause-first_past
returns-in-Err-clause-first_past g c = λ file wanted has.
    past_none (g.S.Source.held c.args.patch.now) c.args.meter.now.limit c.args.meter.now.live (own_checks file c.args.header.now (job_at wanted c.args.asked.now.corner.now)) Target c.in-Err.fault (c.in-Err.ensures.exact file wanted has)

pub returns-in-Err-clause-peak : goal.returns-in-Err-clause-peak
returns-in-Err-clause-peak g c = λ file wanted has.
    peak_none (g.S.Source.held c.args.patch.now) c.args.meter.now.limit c.args.meter.now.live (own_checks file c.args.header.now (job_at wanted c.args.asked.now.corner.now)) c.args.meter.now.peak c.args.meter.now.peak (omega arith)

-- ---- PATCH is refused, or its header is not read

pub read_given-requires-clause-axes : goal.read_given-requires-clause-axes
read_given-requires-clause-axes g c =
    let own = c.in-Ok.ensures.image in
    (own.is.divided.some, own.is.divided.axes)

pub returns-in_err-given-clause-exact : goal.returns-in_err-given-clause-exact
returns-in_err-given-clause-exact g c = λ file wanted has.
    let stop : Stop = c.in_err-given.field-0.0 in
    let stopped : c.from_residual.result ≡ Err stop = search rules in
    let held : Option (List ℕ) = g.S.Source.held c.args.patch.now in
    if_some held _ (λ p is. subst (λ (r : Result Target Stop). IsDefined (if_patchable file p (job_at wanted c.args.asked.now.corner.now) (Ok c.args.header.now)) (header_of r)) (sym stopped)
    (given_stopped c.args.asked.now.length c.args.asked.now.corner.now c.args.buf.now c.args.header.now c.in-Ok.image c.in-Ok.ensures.image.said file p wanted has (c.in-Ok.ensures.exact file wanted has) stop (some_of held _ p is c.in_err-given.ensures.exact)))

pub returns-in_err-given-clause-first_past : goal.returns-in_err-given-clause-first_past
returns-in_err-given-clause-first_past g c = λ file wanted has.
    let stop : Stop = c.in_err-given.field-0.0 in
    let stopped : c.from_residual.result ≡ Err stop = search rules in
    past_given (g.S.Source.held c.args.patch.now) c.args.meter.now.limit c.args.meter.now.live (own_checks file c.args.header.now (job_at wanted c.args.asked.now.corner.now)) Header Target (Err stop) c.from_residual.result (c.in-Ok.ensures.exact file wanted has)
    (λ ts told. subst (λ (r : Result Target Stop). TellsFirstPast c.args.meter.now.limit ts r) (sym stopped) (past_stopped Header Target c.args.meter.now.limit ts stop told)) c.in_err-given.ensures.first_past

pub returns-in_err-given-clause-peak : goal.returns-in_err-given-clause-peak
returns-in_err-given-clause-peak g c = λ file wanted has.
    peak_given (g.S.Source.held c.args.patch.now) c.args.meter.now.limit c.args.meter.now.live (own_checks file c.args.header.now (job_at wanted c.args.asked.now.corner.now)) c.args.meter.now.peak c.read_given.new.meter.peak (c.in-Ok.ensures.exact file wanted has) c.in_err-given.ensures.peak

pub returns-in_err-given-clause-most : goal.returns-in_err-given-clause-most
returns-in_err-given-clause-most g c =
    let stop : Stop = c.in_err-given.field-0.0 in
    let stopped : c.from_residual.result ≡ Err stop = search rules in
    subst (λ (r : Result Target Stop). TellsLimit c.args.meter.now.limit (c.args.meter.now.live + 737280) r) (sym stopped) (limit_stopped Header Target c.args.meter.now.limit (c.args.meter.now.live + 737280) stop c.in_err-given.ensures.most)

-- ---- the box

pub check_ends-requires-clause-shape : goal.check_ends-requires-clause-shape
check_ends-requires-clause-shape g c = ap (λ (i : PackedImage). i.plan.shape) c.in-Ok.ensures.image.said ∙ shape_is (cards_of c.args.buf.now)

pub region_of-region-requires-clause-axes : goal.region_of-region-requires-clause-axes
region_of-region-requires-clause-axes g c = (given_parts c.in-Ok.image.plan c.in_ok-given.given c.in_ok-given.ensures.given.may).axes ∙ sym c.in-Ok.ensures.image.axes

pub returns-in-Err-check_ends-clause-exact : goal.returns-in-Err-check_ends-clause-exact
returns-in-Err-check_ends-clause-exact g c = λ file wanted has.
    let held : Option (List ℕ) = g.S.Source.held c.args.patch.now in
    let n : ℕ = c.in-Ok.image.plan.shape.n in
    let x : Fault = c.in-Err-check_ends.fault in
    let stops : first_refusal (ends_here c.args.header.now c.args.buf.now (box_region (placed c.args.asked.now.corner.now c.in_ok-given.given.axes)) n) ≡ Some x =
    subst (λ (r : Region). first_refusal (ends_here c.args.header.now c.args.buf.now r n) ≡ Some x) c.region_of-region.ensures c.in-Err-check_ends.ensures.exact
    in
    if_some held _ (λ p is. stop_ends c.args.asked.now.length c.args.asked.now.corner.now c.args.buf.now c.args.header.now c.in-Ok.image c.in-Ok.ensures.image.said file p wanted has (c.in-Ok.ensures.exact file wanted has)
    c.in_ok-given.given x (some_of held _ p is c.in_ok-given.ensures.exact) stops)

pub returns-in-Err-check_ends-clause-first_past : goal.returns-in-Err-check_ends-clause-first_past
returns-in-Err-check_ends-clause-first_past g c = λ file wanted has.
    past_given (g.S.Source.held c.args.patch.now) c.args.meter.now.limit c.args.meter.now.live (own_checks file c.args.header.now (job_at wanted c.args.asked.now.corner.now)) Header Header (Ok c.in_ok-given.given) (Ok c.in_ok-given.given) (c.in-Ok.ensures.exact file wanted has)
    (λ ts told. told) c.in_ok-given.ensures.first_past

pub returns-in-Err-check_ends-clause-peak : goal.returns-in-Err-check_ends-clause-peak
returns-in-Err-check_ends-clause-peak g c = λ file wanted has.
    peak_given (g.S.Source.held c.args.patch.now) c.args.meter.now.limit c.args.meter.now.live (own_checks file c.args.header.now (job_at wanted c.args.asked.now.corner.now)) c.args.meter.now.peak c.read_given.new.meter.peak (c.in-Ok.ensures.exact file wanted has) c.in_ok-given.ensures.peak

pub sieve_of-sieve-requires-clause-region : goal.sieve_of-sieve-requires-clause-region
sieve_of-sieve-requires-clause-region g c =
    let shape = c.in-Ok.image.plan.shape in
    let inside : (k : ℕ) → k < shape.n → slice_index c.region_of-region.result.lo k + slice_index c.region_of-region.result.len k ≤ slice_index shape.len k = search rules in
    subst (IsWithin shape) (sym c.region_of-region.ensures)
    (within_given c.args.asked.now.corner.now c.in-Ok.image.plan c.in_ok-given.given c.region_of-region.result c.in_ok-given.ensures.given c.in-Ok.ensures.image.axes c.region_of-region.ensures inside)

pub cutout_axes-box-requires-clause-shape : goal.cutout_axes-box-requires-clause-shape
cutout_axes-box-requires-clause-shape g c = (c.shape_law.ensures.divided c.in-Ok.image.plan.shape c.in-Ok.image.plan.tile c.in-Ok.ensures.image.is.divided).0

pub cutout_axes-box-requires-clause-sieve : goal.cutout_axes-box-requires-clause-sieve
cutout_axes-box-requires-clause-sieve g c =
    let shape = c.in-Ok.image.plan.shape in
    let inside : (k : ℕ) → k < shape.n → slice_index c.region_of-region.result.lo k + slice_index c.region_of-region.result.len k ≤ slice_index shape.len k = search rules in
    (sieve_given c.args.asked.now.corner.now c.in-Ok.image.plan c.in_ok-given.given c.region_of-region.result c.in_ok-given.ensures.given c.in-Ok.ensures.image.axes c.region_of-region.ensures inside c.sieve_of-sieve.result c.sieve_of-sieve.ensures).1

-- ---- the target

pub returns-clause-exact : goal.returns-clause-exact
returns-clause-exact g c = λ file wanted has.
    let held : Option (List ℕ) = g.S.Source.held c.args.patch.now in
    let n : ℕ = c.in-Ok.image.plan.shape.n in
    let passed : first_refusal (ends_here c.args.header.now c.args.buf.now c.region_of-region.result n) ≡ None = search rules in
    let ends : first_refusal (ends_here c.args.header.now c.args.buf.now (box_region (placed c.args.asked.now.corner.now c.in_ok-given.given.axes)) n) ≡ None =
    subst (λ (r : Region). first_refusal (ends_here c.args.header.now c.args.buf.now r n) ≡ None) c.region_of-region.ensures passed
    in
    if_some held _ (λ p is. pass_all c.args.asked.now.length c.args.asked.now.corner.now c.args.buf.now c.args.header.now c.in-Ok.image c.in-Ok.ensures.image.said file p wanted has (c.in-Ok.ensures.exact file wanted has)
    c.in_ok-given.given (some_of held _ p is c.in_ok-given.ensures.exact) ends)

pub returns-clause-target : goal.returns-clause-target
returns-clause-target g c =
    let q = c.in_ok-given.given in
    let own = c.in-Ok.ensures.image in
    let given = c.in_ok-given.ensures.given in
    let parts = given_parts c.in-Ok.image.plan q given.may in
    let long : length (lengths_of q.axes) ≡ length c.args.asked.now.corner.now = given.axes ∙ (parts.axes ∙ sym own.axes) in
    let shape = c.in-Ok.image.plan.shape in
    let inside : (k : ℕ) → k < shape.n → slice_index c.region_of-region.result.lo k + slice_index c.region_of-region.result.len k ≤ slice_index shape.len k = search rules in
    let sieve = sieve_given c.args.asked.now.corner.now c.in-Ok.image.plan q c.region_of-region.result given own.axes c.region_of-region.ensures inside c.sieve_of-sieve.result c.sieve_of-sieve.ensures in
    let step : slice_index c.sieve_of-sieve.result.step 0 ≡ 1 = ap (λ (s : Sieve). slice_index s.step 0) sieve.0 ∙ first_step c.args.asked.now.corner.now q.axes long c.requires.corner.some in
    (found_target c.form_law.ensures c.args.asked.now.length c.args.asked.now.corner.now c.args.buf.now _ own c.requires.header c.requires.end.1 c.is_wide.ensures sieve.1 step, refl, own.last)

pub returns-clause-own : goal.returns-clause-own
returns-clause-own g c = (c.in-Ok.ensures.image, ap (λ (i : PackedImage). has_wide i.table.coded) (sym c.in-Ok.ensures.image.said) ∙ sym c.is_wide.ensures)

pub returns-clause-said : goal.returns-clause-said
returns-clause-said g c = λ file has. target_in c.args.asked.now.length c.args.asked.now.corner.now c.args.buf.now c.args.header.now c.in-Ok.image c.in-Ok.ensures.image.said file file None has _ refl refl c.is_wide.ensures

pub returns-clause-given : goal.returns-clause-given
returns-clause-given g c =
    let t : Target = record { header = c.args.header.now; image = c.in-Ok.image; wide = c.is_wide.result; sieve = c.sieve_of-sieve.result; pixels_at = c.data_start.result } in
    let q = c.in_ok-given.given in
    let own = c.in-Ok.ensures.image in
    let p = c.in-Ok.image.plan in
    let given = c.in_ok-given.ensures.given in
    let parts = given_parts p q given.may in
    let long : length (lengths_of q.axes) ≡ length c.args.asked.now.corner.now = given.axes ∙ (parts.axes ∙ sym own.axes) in
    let box : c.sieve_of-sieve.result ≡ box_sieve (placed c.args.asked.now.corner.now q.axes) = c.sieve_of-sieve.ensures ∙ (ap region_sieve c.region_of-region.ensures ∙ box_is c.args.asked.now.corner.now q.axes long) in
    let lens : sieve_lengths c.sieve_of-sieve.result ≡ lengths_of q.axes = ap sieve_lengths box ∙ lengths_are c.args.asked.now.corner.now q.axes long parts.some in (
      gives_within t q c.args.asked.now.patch_length (g.S.Source.attached c.args.patch.now) c.requires.attached (g.met.S.Source.near c.args.patch.now c.args.asked.now.patch_length c.requires.attached) c.data_start.ensures lens given.data_is c.in_ok-given.ensures.within.0,
      given_all c.slice_law.ensures.pixels c.plain_law.ensures.stored c.args.asked.now.corner.now q t (g.S.Source.held c.args.patch.now) own.is.readable.size (g.met.S.Source.octets c.args.patch.now) given (parts.axes ∙ sym own.axes) box
          c.cutout_axes-box.ensures.sifts c.data_start.ensures c.in_ok-given.ensures.exact,
    )

pub returns-clause-first_past : goal.returns-clause-first_past
returns-clause-first_past g c = λ file wanted has.
    past_given (g.S.Source.held c.args.patch.now) c.args.meter.now.limit c.args.meter.now.live (own_checks file c.args.header.now (job_at wanted c.args.asked.now.corner.now)) Header Header (Ok c.in_ok-given.given) (Ok c.in_ok-given.given) (c.in-Ok.ensures.exact file wanted has)
    (λ ts told. told) c.in_ok-given.ensures.first_past

pub returns-clause-peak : goal.returns-clause-peak
returns-clause-peak g c = λ file wanted has.
    peak_given (g.S.Source.held c.args.patch.now) c.args.meter.now.limit c.args.meter.now.live (own_checks file c.args.header.now (job_at wanted c.args.asked.now.corner.now)) c.args.meter.now.peak c.read_given.new.meter.peak (c.in-Ok.ensures.exact file wanted has) c.in_ok-given.ensures.peak

pub returns-clause-exact_peak : goal.returns-clause-exact_peak
returns-clause-exact_peak g c = λ file wanted has.
    reached_after (g.S.Source.held c.args.patch.now) c.args.meter.now.live c.args.meter.now.peak c.read_given.new.meter.peak (own_checks file c.args.header.now (job_at wanted c.args.asked.now.corner.now)) (c.in-Ok.ensures.exact file wanted has) c.in_ok-given.ensures.exact_peak

-- ---- what is read of PATCH, and the box

pub returns-in_err-given-clause-alone : goal.returns-in_err-given-clause-alone
returns-in_err-given-clause-alone g c = λ file wanted x has stops. absurd (no_own_fault x (own_checks file c.args.header.now (job_at wanted c.args.asked.now.corner.now)) (c.in-Ok.ensures.exact file wanted has) stops)

pub returns-in-Err-check_ends-clause-alone : goal.returns-in-Err-check_ends-clause-alone
returns-in-Err-check_ends-clause-alone g c = λ file wanted x has stops. absurd (no_own_fault x (own_checks file c.args.header.now (job_at wanted c.args.asked.now.corner.now)) (c.in-Ok.ensures.exact file wanted has) stops)

pub returns-clause-alone : goal.returns-clause-alone
returns-clause-alone g c = λ file wanted x has stops. absurd (no_own_fault x (own_checks file c.args.header.now (job_at wanted c.args.asked.now.corner.now)) (c.in-Ok.ensures.exact file wanted has) stops)

pub returns-in-Err-clause-read : goal.returns-in-Err-clause-read
returns-in-Err-clause-read g c = no_header_read (g.S.Source.held c.args.patch.now) (g.S.Source.ranges c.args.patch.now)

pub returns-clause-box_at : goal.returns-clause-box_at
returns-clause-box_at g c =
    let q = c.in_ok-given.given in
    let own = c.in-Ok.ensures.image in
    let given = c.in_ok-given.ensures.given in
    let parts = given_parts c.in-Ok.image.plan q given.may in
    let long : length (lengths_of q.axes) ≡ length c.args.asked.now.corner.now = given.axes ∙ (parts.axes ∙ sym own.axes) in
    let box : c.sieve_of-sieve.result ≡ box_sieve (placed c.args.asked.now.corner.now q.axes) = c.sieve_of-sieve.ensures ∙ (ap region_sieve c.region_of-region.ensures ∙ box_is c.args.asked.now.corner.now q.axes long) in
    record {
      lengths = lengths_of q.axes;
      sieve = box;
      along = ap sieve_lengths box ∙ lengths_are c.args.asked.now.corner.now q.axes long parts.some;
      shown = box_shown c.in-Ok.image.plan q c.args.asked.now.corner.now (g.S.Source.held c.args.patch.now) c.in_ok-given.ensures.exact;
    }

pub returns-clause-begins : goal.returns-clause-begins
returns-clause-begins g c =
    let t : Target = record { header = c.args.header.now; image = c.in-Ok.image; wide = c.is_wide.result; sieve = c.sieve_of-sieve.result; pixels_at = c.data_start.result } in
    let q = c.in_ok-given.given in
    let own = c.in-Ok.ensures.image in
    let given = c.in_ok-given.ensures.given in
    let parts = given_parts c.in-Ok.image.plan q given.may in
    let long : length (lengths_of q.axes) ≡ length c.args.asked.now.corner.now = given.axes ∙ (parts.axes ∙ sym own.axes) in
    let box : c.sieve_of-sieve.result ≡ box_sieve (placed c.args.asked.now.corner.now q.axes) = c.sieve_of-sieve.ensures ∙ (ap region_sieve c.region_of-region.ensures ∙ box_is c.args.asked.now.corner.now q.axes long) in
    let lens : sieve_lengths c.sieve_of-sieve.result ≡ lengths_of q.axes = ap sieve_lengths box ∙ lengths_are c.args.asked.now.corner.now q.axes long parts.some in
    begins_here t q (g.S.Source.held c.args.patch.now) c.data_start.ensures lens given.data_is c.in_ok-given.ensures.exact

pub returns-clause-passes : goal.returns-clause-passes
returns-clause-passes g c = λ file wanted has. c.in-Ok.ensures.exact file wanted has
