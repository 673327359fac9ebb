-- What each HDU says is what the walk over all says.
use Rattle.std.proofs.Common.{◌≡◌, ◌≢◌, ℕ, ◌+◌, ◌-◌, ◌^◌, ◌<◌, ◌≤◌, ◌==◌, max, false, List, length, Option, None, Result, Ok, Err, IfSome, refl, sym, ap, ◌∙◌, subst, rules, arith, inl, inr}
use Rattle.std.specs.Prelude.{◌||◌}
use Rattle.fz_base.specs.Meter.{Gauge}
use Rattle.fz_base.specs.Refusal.{refusal}
use Rattle.fz_base.specs.Source.{HoldsLength, LogsOnly}
use Rattle.fz_base.specs.Stop.{IsDefined, StoppedTaking, TellsLimit}
use Rattle.fz_base.specs.Takings.{first_past, highest, TellsFirstPast}
use Rattle.fz_base.specs.declared.fault.Place.TheVariants.{Byte}
use Rattle.fz_base.specs.declared.kind.Kind.TheVariants.{Limit}
use Rattle.fz_base.specs.declared.failure.Stop.{Stop}
use Rattle.fz_block.specs.Checks.{header_blocks_of}
use Rattle.fz_block.specs.Hdus.{size_at}
use Rattle.fz_block.specs.Header.{next_start_of}
use Rattle.fz_block.specs.Takings.{header_taking}
use Rattle.fz_job.specs.Judges.{most_hdus}
use Rattle.fz_job.specs.Looks.{looked}
use Rattle.fz_job.specs.SurveyReads.{IsWithinOne}
use Rattle.fz_job.specs.Surveys.{hdu_places, surveyed, headers_taken}
use Rattle.fz_job.specs.declared.look.Looked.{Looked}
use Rattle.fz_job.specs.declared.survey.Survey.{Survey}
use Rattle.fz_job.proofs.Kept.{both_told}
use Rattle.fz_job.proofs.Looked.{limit_told}
use Rattle.fz_job.proofs.Outcomes.{primary_near}
use Rattle.fz_job.proofs.Walking.{Begun, IsAt, walk_begins, touched_more, peak_more, peak_ends, exact_stops, past_stops, exact_ends, past_ends, walk_next, exact_too_long, past_too_long, moved, empty_first, empty_next, not_at_end, not_stopped}
use Rattle.fz_job.proofs.survey.walk_headers.Goals as goal

pub loop-hdu-init : goal.loop-hdu-init
loop-hdu-init g c = record {
  held = refl;
  attached = refl;
  told = λ t. t;
  tally = refl;
  block = c.requires.block;
  live = refl;
  room = c.requires.room;
  limit = refl;
  risen = omega arith;
  most = omega arith;
  within = inr (refl, refl);
  first = λ e. refl;
  empty = empty_first (g.S.Source.held c.args.source.now);
  count = refl;
  header = omega arith;
  tile = omega arith;
  primary = tt;
  stopped = refl;
  walked = walk_begins (g.S.Source.held c.args.source.now) (record { checks = c.args.checks.now; limit = c.args.meter.now.limit; live = (c.args.meter.now.live - length c.args.room); peak = c.args.meter.now.peak; ranges = g.S.Source.ranges c.args.source.now });
}

pub returns-in_err-looked-clause-exact : goal.returns-in_err-looked-clause-exact
returns-in_err-looked-clause-exact g c =
    let held : Option (List ℕ) = g.S.Source.held c.args.source.now in
    let b : Begun = record { checks = c.args.checks.now; limit = c.args.meter.now.limit; live = (c.args.meter.now.live - length c.args.room); peak = c.args.meter.now.peak; ranges = g.S.Source.ranges c.args.source.now } in
    let few : c.loop-hdu.hdu < most_hdus c.args.checks.now = omega (arith, c.most_hdus-most.ensures) in
    let stopped : c.from_residual.result ≡ Err c.in_err-looked.field-0.0 = search rules in
    let says : IfSome held (λ f. IsDefined {X = Looked} (looked c.args.checks.now c.loop-hdu.hdu c.loop-hdu.start f) (Err c.in_err-looked.field-0.0)) =
    subst (λ (h : Option (List ℕ)). IfSome h (λ f. IsDefined {X = Looked} (looked c.args.checks.now c.loop-hdu.hdu c.loop-hdu.start f) (Err c.in_err-looked.field-0.0)))
    c.loop-hdu.invariant.held c.in_err-looked.ensures.exact in
    subst (λ (r : Result Survey Stop). IfSome held (λ f. IsDefined (surveyed c.args.checks.now f) r)) (sym stopped)
    (exact_stops b c.loop-hdu.hdu c.loop-hdu.start c.loop-hdu.meter.peak (g.S.Source.ranges c.loop-hdu.source) c.loop-hdu.seen held c.in_err-looked.field-0.0 c.loop-hdu.invariant.walked few says)

pub returns-in_err-looked-clause-first_past : goal.returns-in_err-looked-clause-first_past
returns-in_err-looked-clause-first_past g c =
    let held : Option (List ℕ) = g.S.Source.held c.args.source.now in
    let b : Begun = record { checks = c.args.checks.now; limit = c.args.meter.now.limit; live = (c.args.meter.now.live - length c.args.room); peak = c.args.meter.now.peak; ranges = g.S.Source.ranges c.args.source.now } in
    let few : c.loop-hdu.hdu < most_hdus c.args.checks.now = omega (arith, c.most_hdus-most.ensures) in
    let stopped : c.from_residual.result ≡ Err c.in_err-looked.field-0.0 = search rules in
    let says : IfSome held (λ f. IsDefined {X = Looked} (looked c.args.checks.now c.loop-hdu.hdu c.loop-hdu.start f) (Err c.in_err-looked.field-0.0)) =
    subst (λ (h : Option (List ℕ)). IfSome h (λ f. IsDefined {X = Looked} (looked c.args.checks.now c.loop-hdu.hdu c.loop-hdu.start f) (Err c.in_err-looked.field-0.0)))
    c.loop-hdu.invariant.held c.in_err-looked.ensures.exact in
    let tells : IfSome held (λ f. TellsFirstPast {X = Looked} c.args.meter.now.limit (header_taking (c.args.meter.now.live - length c.args.room) (header_blocks_of c.loop-hdu.hdu c.loop-hdu.start f)) (Err c.in_err-looked.field-0.0)) =
    moved (λ f limit live. TellsFirstPast {X = Looked} limit (header_taking live (header_blocks_of c.loop-hdu.hdu c.loop-hdu.start f)) (Err c.in_err-looked.field-0.0)) held (g.S.Source.held c.loop-hdu.source)
    c.args.meter.now.limit c.loop-hdu.meter.limit (c.args.meter.now.live - length c.args.room) (c.loop-hdu.meter.live - length c.loop-hdu.room) c.loop-hdu.invariant.held c.loop-hdu.invariant.limit c.loop-hdu.invariant.live c.in_err-looked.ensures.first_past in
    let cause : StoppedTaking (g.S.Source.tally c.loop-hdu.source) (g.S.Source.tally c.look_at.new.source) c.args.meter.now.limit c.in_err-looked.field-0.0 =
    subst (λ (n : ℕ). StoppedTaking (g.S.Source.tally c.loop-hdu.source) (g.S.Source.tally c.look_at.new.source) n c.in_err-looked.field-0.0) c.loop-hdu.invariant.limit c.in_err-looked.ensures.cause.stop in
    subst (λ (r : Result Survey Stop). IfSome held (λ f. TellsFirstPast c.args.meter.now.limit (headers_taken c.args.checks.now (c.args.meter.now.live - length c.args.room) f) r)) (sym stopped)
    (past_stops b c.loop-hdu.hdu c.loop-hdu.start c.loop-hdu.meter.peak (g.S.Source.ranges c.loop-hdu.source) c.loop-hdu.seen c.takings_law.ensures.first c.takings_law.ensures.second held c.in_err-looked.field-0.0 (g.S.Source.tally c.loop-hdu.source) (g.S.Source.tally c.look_at.new.source) c.loop-hdu.invariant.walked few cause says tells)

pub returns-in_err-looked-clause-peak : goal.returns-in_err-looked-clause-peak
returns-in_err-looked-clause-peak g c =
    let held : Option (List ℕ) = g.S.Source.held c.args.source.now in
    let b : Begun = record { checks = c.args.checks.now; limit = c.args.meter.now.limit; live = (c.args.meter.now.live - length c.args.room); peak = c.args.meter.now.peak; ranges = g.S.Source.ranges c.args.source.now } in
    let few : c.loop-hdu.hdu < most_hdus c.args.checks.now = omega (arith, c.most_hdus-most.ensures) in
    let low : IfSome held (λ f. c.look_at.new.meter.peak ≤ max c.loop-hdu.meter.peak (highest (header_taking (c.args.meter.now.live - length c.args.room) (header_blocks_of c.loop-hdu.hdu c.loop-hdu.start f)))) =
    moved (λ f limit live. c.look_at.new.meter.peak ≤ max c.loop-hdu.meter.peak (highest (header_taking live (header_blocks_of c.loop-hdu.hdu c.loop-hdu.start f)))) held (g.S.Source.held c.loop-hdu.source)
    c.args.meter.now.limit c.loop-hdu.meter.limit (c.args.meter.now.live - length c.args.room) (c.loop-hdu.meter.live - length c.loop-hdu.room) c.loop-hdu.invariant.held c.loop-hdu.invariant.limit c.loop-hdu.invariant.live c.look_at.ensures.peak in
    peak_more b c.loop-hdu.hdu c.loop-hdu.start c.loop-hdu.meter.peak (g.S.Source.ranges c.loop-hdu.source) c.loop-hdu.seen held c.look_at.new.meter.peak c.loop-hdu.invariant.walked few low

pub returns-in_err-looked-clause-most : goal.returns-in_err-looked-clause-most
returns-in_err-looked-clause-most g c =
    let limit : ℕ = c.args.meter.now.limit in
    let most : ℕ = (c.args.meter.now.live - length c.args.room) + 737280 in
    let stopped : c.from_residual.result ≡ Err c.in_err-looked.field-0.0 = search rules in
    let there : TellsLimit {X = Looked} c.loop-hdu.meter.limit ((c.loop-hdu.meter.live - length c.loop-hdu.room) + 737280) (Err c.in_err-looked.field-0.0) = c.in_err-looked.ensures.most in
    let here : TellsLimit {X = Looked} limit most (Err c.in_err-looked.field-0.0) =
    subst (λ (n : ℕ). TellsLimit {X = Looked} n most (Err c.in_err-looked.field-0.0)) c.loop-hdu.invariant.limit
    (subst (λ (n : ℕ). TellsLimit {X = Looked} c.loop-hdu.meter.limit (n + 737280) (Err c.in_err-looked.field-0.0)) c.loop-hdu.invariant.live there) in
    subst (λ (r : Result Survey Stop). TellsLimit limit most r) (sym stopped) (limit_told Looked Survey limit most c.in_err-looked.field-0.0 here)

pub returns-in_err-looked-clause-peak_most : goal.returns-in_err-looked-clause-peak_most
returns-in_err-looked-clause-peak_most g c = omega (arith, c.loop-hdu.invariant.most, c.look_at.ensures.peak_most, c.loop-hdu.invariant.live)

pub returns-then-is_last-clause-peak_most : goal.returns-then-is_last-clause-peak_most
returns-then-is_last-clause-peak_most g c =
    let kept : c.give_bytes.new.self.peak ≡ c.look_at.new.meter.peak = ap (λ (m : Gauge). m.peak) c.give_bytes.ensures in
    omega (arith, kept, c.loop-hdu.invariant.most, c.look_at.ensures.peak_most, c.loop-hdu.invariant.live)

pub returns-in_err-looked-clause-touched : goal.returns-in_err-looked-clause-touched
returns-in_err-looked-clause-touched g c =
    let held : Option (List ℕ) = g.S.Source.held c.args.source.now in
    let b : Begun = record { checks = c.args.checks.now; limit = c.args.meter.now.limit; live = (c.args.meter.now.live - length c.args.room); peak = c.args.meter.now.peak; ranges = g.S.Source.ranges c.args.source.now } in
    let few : c.loop-hdu.hdu < most_hdus c.args.checks.now = omega (arith, c.most_hdus-most.ensures) in
    let logs : IfSome held (λ f. LogsOnly (IsWithinOne (hdu_places c.args.checks.now c.loop-hdu.hdu c.loop-hdu.start f)) (g.S.Source.ranges c.loop-hdu.source) (g.S.Source.ranges c.look_at.new.source)) =
    subst (λ (h : Option (List ℕ)). IfSome h (λ f. LogsOnly (IsWithinOne (hdu_places c.args.checks.now c.loop-hdu.hdu c.loop-hdu.start f)) (g.S.Source.ranges c.loop-hdu.source) (g.S.Source.ranges c.look_at.new.source)))
    c.loop-hdu.invariant.held c.look_at.ensures.touched in
    touched_more b c.loop-hdu.hdu c.loop-hdu.start c.loop-hdu.meter.peak (g.S.Source.ranges c.loop-hdu.source) c.loop-hdu.seen held (g.S.Source.ranges c.look_at.new.source) c.loop-hdu.invariant.walked few logs

pub returns-in_err-looked-clause-stays : goal.returns-in_err-looked-clause-stays
returns-in_err-looked-clause-stays g c = (
  record {
    held_is = search rules;
    attached_is = search rules;
    told =
        both_told (g.S.Source.ranges c.args.source.now) (g.S.Source.ranges c.loop-hdu.source) (g.S.Source.ranges c.look_at.new.source) c.loop-hdu.invariant.told c.look_at.ensures.stays.0.told;
  },
  search rules,
  search rules,
)

pub returns-then-is_last-clause-stays : goal.returns-then-is_last-clause-stays
returns-then-is_last-clause-stays g c = (
  record {
    held_is = search rules;
    attached_is = search rules;
    told =
        both_told (g.S.Source.ranges c.args.source.now) (g.S.Source.ranges c.loop-hdu.source) (g.S.Source.ranges c.look_at.new.source) c.loop-hdu.invariant.told c.look_at.ensures.stays.0.told;
  },
  search rules,
  search rules,
)

pub returns-then-is_last-clause-peak : goal.returns-then-is_last-clause-peak
returns-then-is_last-clause-peak g c =
    let held : Option (List ℕ) = g.S.Source.held c.args.source.now in
    let b : Begun = record { checks = c.args.checks.now; limit = c.args.meter.now.limit; live = (c.args.meter.now.live - length c.args.room); peak = c.args.meter.now.peak; ranges = g.S.Source.ranges c.args.source.now } in
    let few : c.loop-hdu.hdu < most_hdus c.args.checks.now = omega (arith, c.most_hdus-most.ensures) in
    let low : IfSome held (λ f. c.look_at.new.meter.peak ≤ max c.loop-hdu.meter.peak (highest (header_taking (c.args.meter.now.live - length c.args.room) (header_blocks_of c.loop-hdu.hdu c.loop-hdu.start f)))) =
    moved (λ f limit live. c.look_at.new.meter.peak ≤ max c.loop-hdu.meter.peak (highest (header_taking live (header_blocks_of c.loop-hdu.hdu c.loop-hdu.start f)))) held (g.S.Source.held c.loop-hdu.source)
    c.args.meter.now.limit c.loop-hdu.meter.limit (c.args.meter.now.live - length c.args.room) (c.loop-hdu.meter.live - length c.loop-hdu.room) c.loop-hdu.invariant.held c.loop-hdu.invariant.limit c.loop-hdu.invariant.live c.look_at.ensures.peak in
    let kept : c.give_bytes.new.self.peak ≡ c.look_at.new.meter.peak = ap (λ (m : Gauge). m.peak) c.give_bytes.ensures in
    subst (λ (n : ℕ). IfSome held (λ f. n ≤ max c.args.meter.now.peak (highest (headers_taken c.args.checks.now (c.args.meter.now.live - length c.args.room) f)))) (sym kept)
    (peak_more b c.loop-hdu.hdu c.loop-hdu.start c.loop-hdu.meter.peak (g.S.Source.ranges c.loop-hdu.source) c.loop-hdu.seen held c.look_at.new.meter.peak c.loop-hdu.invariant.walked few low)

pub returns-then-is_last-clause-touched : goal.returns-then-is_last-clause-touched
returns-then-is_last-clause-touched g c =
    let held : Option (List ℕ) = g.S.Source.held c.args.source.now in
    let b : Begun = record { checks = c.args.checks.now; limit = c.args.meter.now.limit; live = (c.args.meter.now.live - length c.args.room); peak = c.args.meter.now.peak; ranges = g.S.Source.ranges c.args.source.now } in
    let few : c.loop-hdu.hdu < most_hdus c.args.checks.now = omega (arith, c.most_hdus-most.ensures) in
    let logs : IfSome held (λ f. LogsOnly (IsWithinOne (hdu_places c.args.checks.now c.loop-hdu.hdu c.loop-hdu.start f)) (g.S.Source.ranges c.loop-hdu.source) (g.S.Source.ranges c.look_at.new.source)) =
    subst (λ (h : Option (List ℕ)). IfSome h (λ f. LogsOnly (IsWithinOne (hdu_places c.args.checks.now c.loop-hdu.hdu c.loop-hdu.start f)) (g.S.Source.ranges c.loop-hdu.source) (g.S.Source.ranges c.look_at.new.source)))
    c.loop-hdu.invariant.held c.look_at.ensures.touched in
    touched_more b c.loop-hdu.hdu c.loop-hdu.start c.loop-hdu.meter.peak (g.S.Source.ranges c.loop-hdu.source) c.loop-hdu.seen held (g.S.Source.ranges c.look_at.new.source) c.loop-hdu.invariant.walked few logs

pub returns-then-is_last-clause-primary : goal.returns-then-is_last-clause-primary
returns-then-is_last-clause-primary g c =
    subst (λ (s : Survey). IfSome s.packed_primary (λ start. (start < c.args.length) × (start ≤ 2 ^ 62))) (sym c.with_hdu-seen.ensures)
    (primary_near c.args.length c.loop-hdu.seen.packed_primary c.in_ok-looked.looked.found c.loop-hdu.invariant.primary c.in_ok-looked.ensures.found)

pub returns-then-is_last-clause-exact : goal.returns-then-is_last-clause-exact
returns-then-is_last-clause-exact g c =
    let held : Option (List ℕ) = g.S.Source.held c.args.source.now in
    let b : Begun = record { checks = c.args.checks.now; limit = c.args.meter.now.limit; live = (c.args.meter.now.live - length c.args.room); peak = c.args.meter.now.peak; ranges = g.S.Source.ranges c.args.source.now } in
    let few : c.loop-hdu.hdu < most_hdus c.args.checks.now = omega (arith, c.most_hdus-most.ensures) in
    let told : HoldsLength held c.args.length = g.met.S.Source.agrees c.args.source.now c.args.length c.requires.attached in
    let says : IfSome held (λ f. looked c.args.checks.now c.loop-hdu.hdu c.loop-hdu.start f ≡ Ok c.in_ok-looked.looked.found) =
    subst (λ (h : Option (List ℕ)). IfSome h (λ f. looked c.args.checks.now c.loop-hdu.hdu c.loop-hdu.start f ≡ Ok c.in_ok-looked.looked.found)) c.loop-hdu.invariant.held c.in_ok-looked.ensures.exact in
    subst (λ (s : Survey). IfSome held (λ f. surveyed c.args.checks.now f ≡ Ok s)) (sym c.with_hdu-seen.ensures)
    (exact_ends b c.loop-hdu.hdu c.loop-hdu.start c.loop-hdu.meter.peak (g.S.Source.ranges c.loop-hdu.source) c.loop-hdu.seen held c.args.length c.in_ok-looked.looked.found told c.loop-hdu.invariant.walked few c.loop-hdu.invariant.stopped says (sym c.is_last.ensures ∙ c.if-is_last.true))

pub returns-then-is_last-clause-first_past : goal.returns-then-is_last-clause-first_past
returns-then-is_last-clause-first_past g c =
    let held : Option (List ℕ) = g.S.Source.held c.args.source.now in
    let b : Begun = record { checks = c.args.checks.now; limit = c.args.meter.now.limit; live = (c.args.meter.now.live - length c.args.room); peak = c.args.meter.now.peak; ranges = g.S.Source.ranges c.args.source.now } in
    let few : c.loop-hdu.hdu < most_hdus c.args.checks.now = omega (arith, c.most_hdus-most.ensures) in
    let told : HoldsLength held c.args.length = g.met.S.Source.agrees c.args.source.now c.args.length c.requires.attached in
    let says : IfSome held (λ f. looked c.args.checks.now c.loop-hdu.hdu c.loop-hdu.start f ≡ Ok c.in_ok-looked.looked.found) =
    subst (λ (h : Option (List ℕ)). IfSome h (λ f. looked c.args.checks.now c.loop-hdu.hdu c.loop-hdu.start f ≡ Ok c.in_ok-looked.looked.found)) c.loop-hdu.invariant.held c.in_ok-looked.ensures.exact in
    let fits : IfSome held (λ f. first_past c.args.meter.now.limit (header_taking (c.args.meter.now.live - length c.args.room) (header_blocks_of c.loop-hdu.hdu c.loop-hdu.start f)) ≡ None) =
    moved (λ f limit live. first_past limit (header_taking live (header_blocks_of c.loop-hdu.hdu c.loop-hdu.start f)) ≡ None) held (g.S.Source.held c.loop-hdu.source)
    c.args.meter.now.limit c.loop-hdu.meter.limit (c.args.meter.now.live - length c.args.room) (c.loop-hdu.meter.live - length c.loop-hdu.room) c.loop-hdu.invariant.held c.loop-hdu.invariant.limit c.loop-hdu.invariant.live c.in_ok-looked.ensures.first_past in
    past_ends b c.loop-hdu.hdu c.loop-hdu.start c.loop-hdu.meter.peak (g.S.Source.ranges c.loop-hdu.source) c.loop-hdu.seen c.takings_law.ensures.second held c.args.length c.in_ok-looked.looked.found told c.loop-hdu.invariant.walked few says (sym c.is_last.ensures ∙ c.if-is_last.true) fits

pub returns-then-is_last-clause-exact_peak : goal.returns-then-is_last-clause-exact_peak
returns-then-is_last-clause-exact_peak g c =
    let held : Option (List ℕ) = g.S.Source.held c.args.source.now in
    let b : Begun = record { checks = c.args.checks.now; limit = c.args.meter.now.limit; live = (c.args.meter.now.live - length c.args.room); peak = c.args.meter.now.peak; ranges = g.S.Source.ranges c.args.source.now } in
    let few : c.loop-hdu.hdu < most_hdus c.args.checks.now = omega (arith, c.most_hdus-most.ensures) in
    let told : HoldsLength held c.args.length = g.met.S.Source.agrees c.args.source.now c.args.length c.requires.attached in
    let says : IfSome held (λ f. looked c.args.checks.now c.loop-hdu.hdu c.loop-hdu.start f ≡ Ok c.in_ok-looked.looked.found) =
    subst (λ (h : Option (List ℕ)). IfSome h (λ f. looked c.args.checks.now c.loop-hdu.hdu c.loop-hdu.start f ≡ Ok c.in_ok-looked.looked.found)) c.loop-hdu.invariant.held c.in_ok-looked.ensures.exact in
    let reached : IfSome held (λ f. c.look_at.new.meter.peak ≡ max c.loop-hdu.meter.peak (highest (header_taking (c.args.meter.now.live - length c.args.room) (header_blocks_of c.loop-hdu.hdu c.loop-hdu.start f)))) =
    moved (λ f limit live. c.look_at.new.meter.peak ≡ max c.loop-hdu.meter.peak (highest (header_taking live (header_blocks_of c.loop-hdu.hdu c.loop-hdu.start f)))) held (g.S.Source.held c.loop-hdu.source)
    c.args.meter.now.limit c.loop-hdu.meter.limit (c.args.meter.now.live - length c.args.room) (c.loop-hdu.meter.live - length c.loop-hdu.room) c.loop-hdu.invariant.held c.loop-hdu.invariant.limit c.loop-hdu.invariant.live c.in_ok-looked.ensures.exact_peak in
    let kept : c.give_bytes.new.self.peak ≡ c.look_at.new.meter.peak = ap (λ (m : Gauge). m.peak) c.give_bytes.ensures in
    subst (λ (n : ℕ). IfSome held (λ f. n ≡ max c.args.meter.now.peak (highest (headers_taken c.args.checks.now (c.args.meter.now.live - length c.args.room) f)))) (sym kept)
    (peak_ends b c.loop-hdu.hdu c.loop-hdu.start c.loop-hdu.meter.peak (g.S.Source.ranges c.loop-hdu.source) c.loop-hdu.seen held c.args.length c.in_ok-looked.looked.found c.look_at.new.meter.peak told c.loop-hdu.invariant.walked few says (sym c.is_last.ensures ∙ c.if-is_last.true) reached)

pub loop-hdu-preserved : goal.loop-hdu-preserved
loop-hdu-preserved g c =
    let held : Option (List ℕ) = g.S.Source.held c.args.source.now in
    let b : Begun = record { checks = c.args.checks.now; limit = c.args.meter.now.limit; live = (c.args.meter.now.live - length c.args.room); peak = c.args.meter.now.peak; ranges = g.S.Source.ranges c.args.source.now } in
    let few : c.loop-hdu.hdu < most_hdus c.args.checks.now = omega (arith, c.most_hdus-most.ensures) in
    let told : HoldsLength held c.args.length = g.met.S.Source.agrees c.args.source.now c.args.length c.requires.attached in
    let says : IfSome held (λ f. looked c.args.checks.now c.loop-hdu.hdu c.loop-hdu.start f ≡ Ok c.in_ok-looked.looked.found) =
    subst (λ (h : Option (List ℕ)). IfSome h (λ f. looked c.args.checks.now c.loop-hdu.hdu c.loop-hdu.start f ≡ Ok c.in_ok-looked.looked.found)) c.loop-hdu.invariant.held c.in_ok-looked.ensures.exact in
    let fits : IfSome held (λ f. first_past c.args.meter.now.limit (header_taking (c.args.meter.now.live - length c.args.room) (header_blocks_of c.loop-hdu.hdu c.loop-hdu.start f)) ≡ None) =
    moved (λ f limit live. first_past limit (header_taking live (header_blocks_of c.loop-hdu.hdu c.loop-hdu.start f)) ≡ None) held (g.S.Source.held c.loop-hdu.source)
    c.args.meter.now.limit c.loop-hdu.meter.limit (c.args.meter.now.live - length c.args.room) (c.loop-hdu.meter.live - length c.loop-hdu.room) c.loop-hdu.invariant.held c.loop-hdu.invariant.limit c.loop-hdu.invariant.live c.in_ok-looked.ensures.first_past in
    let reached : IfSome held (λ f. c.look_at.new.meter.peak ≡ max c.loop-hdu.meter.peak (highest (header_taking (c.args.meter.now.live - length c.args.room) (header_blocks_of c.loop-hdu.hdu c.loop-hdu.start f)))) =
    moved (λ f limit live. c.look_at.new.meter.peak ≡ max c.loop-hdu.meter.peak (highest (header_taking live (header_blocks_of c.loop-hdu.hdu c.loop-hdu.start f)))) held (g.S.Source.held c.loop-hdu.source)
    c.args.meter.now.limit c.loop-hdu.meter.limit (c.args.meter.now.live - length c.args.room) (c.loop-hdu.meter.live - length c.loop-hdu.room) c.loop-hdu.invariant.held c.loop-hdu.invariant.limit c.loop-hdu.invariant.live c.in_ok-looked.ensures.exact_peak in
    let logs : IfSome held (λ f. LogsOnly (IsWithinOne (hdu_places c.args.checks.now c.loop-hdu.hdu c.loop-hdu.start f)) (g.S.Source.ranges c.loop-hdu.source) (g.S.Source.ranges c.look_at.new.source)) =
    subst (λ (h : Option (List ℕ)). IfSome h (λ f. LogsOnly (IsWithinOne (hdu_places c.args.checks.now c.loop-hdu.hdu c.loop-hdu.start f)) (g.S.Source.ranges c.loop-hdu.source) (g.S.Source.ranges c.look_at.new.source)))
    c.loop-hdu.invariant.held c.look_at.ensures.touched in
    let on : (c.in_ok-looked.looked.found.look.stop || next_start_of c.in_ok-looked.looked.found.header == c.args.length) ≡ false = sym c.is_last.ensures ∙ c.if-is_last.false in
    let more : next_start_of c.in_ok-looked.looked.found.header ≢ c.args.length = not_at_end c.in_ok-looked.looked.found.look.stop (next_start_of c.in_ok-looked.looked.found.header) c.args.length on in
    let empty : IfSome held (λ f. c.loop-hdu.hdu ≡ 0 → c.loop-hdu.start ≡ 0 → c.in_ok-looked.looked.found.header.axes.n ≡ size_at f 2) =
    subst (λ (h : Option (List ℕ)). IfSome h (λ f. c.loop-hdu.hdu ≡ 0 → c.loop-hdu.start ≡ 0 → c.in_ok-looked.looked.found.header.axes.n ≡ size_at f 2)) c.loop-hdu.invariant.held c.in_ok-looked.ensures.empty in
    record {
      held = search rules;
      attached = search rules;
      told = both_told (g.S.Source.ranges c.args.source.now) (g.S.Source.ranges c.loop-hdu.source) (g.S.Source.ranges c.look_at.new.source) c.loop-hdu.invariant.told c.look_at.ensures.stays.0.told;
      tally = search rules;
      block = search rules;
      live = c.in_ok-looked.ensures.room.2 ∙ c.loop-hdu.invariant.live;
      room = (c.in_ok-looked.ensures.room.0, c.in_ok-looked.ensures.room.1);
      limit = search rules;
      risen = omega (arith, c.loop-hdu.invariant.risen, c.look_at.ensures.risen);
      most = omega (arith, c.loop-hdu.invariant.most, c.look_at.ensures.peak_most, c.loop-hdu.invariant.live);
      within = inl (omega (arith, c.in_ok-looked.ensures.found.inside, c.next_start-start.ensures, more));
      first = λ e. absurd (omega (arith, e));
      empty = empty_next held c.loop-hdu.hdu c.loop-hdu.start c.in_ok-looked.looked.found.header.axes.n c.loop-hdu.invariant.first empty;
      count = ap (λ (s : Survey). s.hdus) c.with_hdu-seen.ensures ∙ ap (λ n. n + 1) c.loop-hdu.invariant.count;
      header = omega (arith, ap (λ (s : Survey). s.header_len) c.with_hdu-seen.ensures, c.loop-hdu.invariant.header, c.in_ok-looked.ensures.found.short);
      tile = omega (arith, ap (λ (s : Survey). s.tile) c.with_hdu-seen.ensures, c.loop-hdu.invariant.tile, c.in_ok-looked.ensures.found.small);
      primary = subst (λ (s : Survey). IfSome s.packed_primary (λ start. (start < c.args.length) × (start ≤ 2 ^ 62))) (sym c.with_hdu-seen.ensures)
          (primary_near c.args.length c.loop-hdu.seen.packed_primary c.in_ok-looked.looked.found c.loop-hdu.invariant.primary c.in_ok-looked.ensures.found);
      stopped = ap (λ (s : Survey). s.stopped) c.with_hdu-seen.ensures ∙ not_stopped c.in_ok-looked.looked.found.look.stop c.in_ok-looked.looked.found.header (next_start_of c.in_ok-looked.looked.found.header) c.args.length on;
      walked = subst (λ (n : ℕ). IfSome held (IsAt b (c.loop-hdu.hdu + 1) n c.look_at.new.meter.peak (g.S.Source.ranges c.look_at.new.source) c.with_hdu-seen.result)) (sym c.next_start-start.ensures)
          (subst (λ (s : Survey). IfSome held (IsAt b (c.loop-hdu.hdu + 1) (next_start_of c.in_ok-looked.looked.found.header) c.look_at.new.meter.peak (g.S.Source.ranges c.look_at.new.source) s)) (sym c.with_hdu-seen.ensures)
          (walk_next b c.loop-hdu.hdu c.loop-hdu.start c.loop-hdu.meter.peak (g.S.Source.ranges c.loop-hdu.source) c.loop-hdu.seen c.takings_law.ensures.second held c.args.length c.in_ok-looked.looked.found c.look_at.new.meter.peak (g.S.Source.ranges c.look_at.new.source) told c.loop-hdu.invariant.walked few c.loop-hdu.invariant.stopped says on fits reached logs));
    }

pub returns-clause-exact : goal.returns-clause-exact
returns-clause-exact g c =
    let held : Option (List ℕ) = g.S.Source.held c.args.source.now in
    let b : Begun = record { checks = c.args.checks.now; limit = c.args.meter.now.limit; live = (c.args.meter.now.live - length c.args.room); peak = c.args.meter.now.peak; ranges = g.S.Source.ranges c.args.source.now } in
    let all : c.loop-hdu.hdu ≡ most_hdus c.args.checks.now = omega (arith, c.most_hdus-most.ensures) in
    let whole : c.loop-hdu.hdu ≡ c.most_hdus-most.result = omega (arith, all, c.most_hdus-most.ensures) in
    subst (λ (n : ℕ). IfSome held (λ f. surveyed c.args.checks.now f ≡ Err (refusal n (Byte c.loop-hdu.start) Limit))) whole
    (exact_too_long b c.loop-hdu.hdu c.loop-hdu.start c.loop-hdu.meter.peak (g.S.Source.ranges c.loop-hdu.source) c.loop-hdu.seen held c.loop-hdu.invariant.walked all)

pub returns-clause-first_past : goal.returns-clause-first_past
returns-clause-first_past g c =
    let held : Option (List ℕ) = g.S.Source.held c.args.source.now in
    let b : Begun = record { checks = c.args.checks.now; limit = c.args.meter.now.limit; live = (c.args.meter.now.live - length c.args.room); peak = c.args.meter.now.peak; ranges = g.S.Source.ranges c.args.source.now } in
    let all : c.loop-hdu.hdu ≡ most_hdus c.args.checks.now = omega (arith, c.most_hdus-most.ensures) in
    past_too_long b c.loop-hdu.hdu c.loop-hdu.start c.loop-hdu.meter.peak (g.S.Source.ranges c.loop-hdu.source) c.loop-hdu.seen held c.loop-hdu.invariant.walked all
