-- The sink is made, the part is written after byte 0, and then byte 0.
use Rattle.std.proofs.Common.{◌≡◌, ℕ, ◌<◌, ◌^◌, length, List, Option, Some, IfSome, Result, Ok, Err, sym, subst, arith, rules}
use Rattle.fz_base.specs.FirstByte.{IsShut}
use Rattle.fz_base.specs.Ranges.{LogsIn}
use Rattle.fz_base.specs.Sink.{emptied}
use Rattle.fz_base.specs.Stop.{IfRefused}
use Rattle.fz_base.specs.declared.failure.Stop.{Stop}
use Rattle.fz_files.specs.Walks.{box_of}
use Rattle.fz_cut.specs.Again.{ReadsAsSeen}
use Rattle.fz_cut.specs.Part.{HoldsPart, IsPickFault}
use Rattle.fz_cut.specs.Picks.{picked_ranges}
use Rattle.fz_cut.specs.Written.{FinishesSeen}
use Rattle.fz_cut.proofs.FileReads.{again_of, header_refused, only_header, row_refused, seen_of, with_rows}
use Rattle.fz_cut.proofs.Sealing.{behind_by, sealed_finishes, sealed_or_shut}
use Rattle.fz_cut.proofs.file.write_file.Goals as goal

pub write_cutout-requires-clause-again : goal.write_cutout-requires-clause-again
write_cutout-requires-clause-again g c κs within =
    let held : Option (List ℕ) = g.S.Source.held c.args.source.now in
    let stays : g.S.Source.held c.read_again.new.source ≡ held = search rules in
    let attached : g.S.Source.attached c.read_again.new.source ≡ Some c.args.asked.now.length = search rules in
    let few : c.args.asked.now.length < 2 ^ 64 = omega (arith, g.met.S.Source.near c.args.source.now c.args.asked.now.length c.requires.attached) in (
      c.args.asked.now.length,
      few,
      attached,
      again_of held (g.S.Source.held c.read_again.new.source) c.args.asked.now.length c.args.asked.now.sieve c.box_of-region.result c.args.space.now.header c.as_mut_slice-buf.result.now c.read_again.new.buf c.in_ok-again.again
          stays c.box_of-region.ensures.exact c.as_mut_slice-buf.ensures.value c.in_ok-again.ensures.stays.1 c.in_ok-again.ensures.again,
    )

pub returns-clause-written : goal.returns-clause-written
returns-clause-written g c =
    let held : Option (List ℕ) = g.S.Source.held c.args.source.now in
    let sieve = c.args.asked.now.sieve in
    let from = c.args.found.now.from in
    let most : ℕ = length c.args.space.now.header in
    let tile : ℕ = c.args.found.now.survey.tile in
    let old : Option (List ℕ) = g.K.Sink.contents c.args.sink.now in
    let made : Option (List ℕ) = g.K.Sink.contents c.create.new.self in
    let mid : Option (List ℕ) = g.K.Sink.contents c.write_cutout.new.sink in
    let empty : made ≡ emptied old = search rules in
    let seen : IfSome held (λ f. ReadsAsSeen f (box_of sieve) most tile from (Ok c.in_ok-again.again)) =
    seen_of held sieve c.box_of-region.result c.as_mut_slice-buf.result.now c.args.space.now.header tile from (Ok c.in_ok-again.again) c.box_of-region.ensures.exact c.as_mut_slice-buf.ensures.value c.in_ok-again.ensures.as_seen in
    let part : IfSome held (λ f. HoldsPart f c.in_ok-again.again.header sieve made mid) = search rules in
    sealed_finishes c.parts_law.ensures c.output_law.ensures.sealed sieve most tile from old made mid (g.K.Sink.contents c.seal.new.sink) empty c.seal.result
    (g.K.Sink.tally c.write_cutout.new.sink) (g.K.Sink.tally c.seal.new.sink) held (behind_by sieve most tile from made mid held c.in_ok-again.again seen part) c.seal.ensures.sealed c.seal.ensures.cause.stop

pub returns-clause-shut : goal.returns-clause-shut
returns-clause-shut g c =
    let held : Option (List ℕ) = g.S.Source.held c.args.source.now in
    let sieve = c.args.asked.now.sieve in
    let from = c.args.found.now.from in
    let most : ℕ = length c.args.space.now.header in
    let tile : ℕ = c.args.found.now.survey.tile in
    let old : Option (List ℕ) = g.K.Sink.contents c.args.sink.now in
    let made : Option (List ℕ) = g.K.Sink.contents c.create.new.self in
    let mid : Option (List ℕ) = g.K.Sink.contents c.write_cutout.new.sink in
    let empty : made ≡ emptied old = search rules in
    let seen : IfSome held (λ f. ReadsAsSeen f (box_of sieve) most tile from (Ok c.in_ok-again.again)) =
    seen_of held sieve c.box_of-region.result c.as_mut_slice-buf.result.now c.args.space.now.header tile from (Ok c.in_ok-again.again) c.box_of-region.ensures.exact c.as_mut_slice-buf.ensures.value c.in_ok-again.ensures.as_seen in
    let part : IfSome held (λ f. HoldsPart f c.in_ok-again.again.header sieve made mid) = search rules in
    let shut : IsShut mid = c.in_ok-write_cutout.ensures.stays.1.shut (subst IsShut (sym empty) (c.output_law.ensures.empty old)) in
    sealed_or_shut c.parts_law.ensures c.output_law.ensures.sealed sieve most tile from old made mid (g.K.Sink.contents c.seal.new.sink) empty c.seal.result
    (g.K.Sink.tally c.write_cutout.new.sink) (g.K.Sink.tally c.seal.new.sink) held shut (behind_by sieve most tile from made mid held c.in_ok-again.again seen part) c.seal.ensures.cause.stop c.seal.ensures.stopped

pub returns-in_err-again-clause-written : goal.returns-in_err-again-clause-written
returns-in_err-again-clause-written g c =
    let held : Option (List ℕ) = g.S.Source.held c.args.source.now in
    let sieve = c.args.asked.now.sieve in
    let from = c.args.found.now.from in
    let most : ℕ = length c.args.space.now.header in
    let tile : ℕ = c.args.found.now.survey.tile in
    let now : Option (List ℕ) = g.K.Sink.contents c.args.sink.now in
    let stop : Stop = c.in_err-again.field-0.0 in
    let stopped : c.from_residual.result ≡ Err stop = search rules in
    let seen : IfSome held (λ f. ReadsAsSeen f (box_of sieve) most tile from (Err stop)) =
    seen_of held sieve c.box_of-region.result c.as_mut_slice-buf.result.now c.args.space.now.header tile from (Err stop) c.box_of-region.ensures.exact c.as_mut_slice-buf.ensures.value c.in_err-again.ensures.as_seen in
    subst (λ (r : Result (Unit {0}) Stop). IfSome held (λ f. FinishesSeen f sieve most tile from now r)) (sym stopped)
    (header_refused sieve most tile from (Unit {0}) held now stop seen)

pub returns-in_err-again-clause-touched : goal.returns-in_err-again-clause-touched
returns-in_err-again-clause-touched g c =
    only_header c.args.asked.now.sieve (length c.args.space.now.header) c.args.found.now.survey.tile c.args.found.now.from c.ranges_law.ensures.within (g.S.Source.held c.args.source.now)
    (g.S.Source.ranges c.args.source.now) (g.S.Source.ranges c.read_again.new.source) c.in_err-again.ensures.touched

pub returns-in_err-map_err-clause-touched : goal.returns-in_err-map_err-clause-touched
returns-in_err-map_err-clause-touched g c =
    only_header c.args.asked.now.sieve (length c.args.space.now.header) c.args.found.now.survey.tile c.args.found.now.from c.ranges_law.ensures.within (g.S.Source.held c.args.source.now)
    (g.S.Source.ranges c.args.source.now) (g.S.Source.ranges c.read_again.new.source) c.in_ok-again.ensures.touched

pub returns-in_err-write_cutout-clause-written : goal.returns-in_err-write_cutout-clause-written
returns-in_err-write_cutout-clause-written g c =
    let held : Option (List ℕ) = g.S.Source.held c.args.source.now in
    let same : g.S.Source.held c.read_again.new.source ≡ held = search rules in
    let sieve = c.args.asked.now.sieve in
    let from = c.args.found.now.from in
    let most : ℕ = length c.args.space.now.header in
    let tile : ℕ = c.args.found.now.survey.tile in
    let a = c.in_ok-again.again in
    let now : Option (List ℕ) = g.K.Sink.contents c.write_cutout.new.sink in
    let stop : Stop = c.in_err-write_cutout.field-0.0 in
    let stopped : c.from_residual-in_err-write_cutout.result ≡ Err stop = search rules in
    let seen : IfSome held (λ f. ReadsAsSeen f (box_of sieve) most tile from (Ok a)) =
    seen_of held sieve c.box_of-region.result c.as_mut_slice-buf.result.now c.args.space.now.header tile from (Ok a) c.box_of-region.ensures.exact c.as_mut_slice-buf.ensures.value c.in_ok-again.ensures.as_seen in
    let fault : IfRefused {X = Unit {0}} (Err stop) (λ x. IfSome held (λ f. IsPickFault f a.header sieve x)) = rw same at c.in_err-write_cutout.ensures.fault in
    subst (λ (r : Result (Unit {0}) Stop). IfSome held (λ f. FinishesSeen f sieve most tile from now r)) (sym stopped)
    (row_refused sieve most tile from (Unit {0}) (Unit {0}) held now a stop seen fault)

pub returns-in_err-write_cutout-clause-touched : goal.returns-in_err-write_cutout-clause-touched
returns-in_err-write_cutout-clause-touched g c =
    let held : Option (List ℕ) = g.S.Source.held c.args.source.now in
    let same : g.S.Source.held c.read_again.new.source ≡ held = search rules in
    let sieve = c.args.asked.now.sieve in
    let from = c.args.found.now.from in
    let most : ℕ = length c.args.space.now.header in
    let tile : ℕ = c.args.found.now.survey.tile in
    let a = c.in_ok-again.again in
    let mid : Option (List (ℕ × ℕ)) = g.S.Source.ranges c.read_again.new.source in
    let new : Option (List (ℕ × ℕ)) = g.S.Source.ranges c.write_cutout.new.source in
    let seen : IfSome held (λ f. ReadsAsSeen f (box_of sieve) most tile from (Ok a)) =
    seen_of held sieve c.box_of-region.result c.as_mut_slice-buf.result.now c.args.space.now.header tile from (Ok a) c.box_of-region.ensures.exact c.as_mut_slice-buf.ensures.value c.in_ok-again.ensures.as_seen in
    let rows : IfSome held (λ f. LogsIn (picked_ranges f a.header sieve) mid new) = rw same at c.in_err-write_cutout.ensures.touched in
    with_rows sieve most tile from c.ranges_law.ensures.within c.ranges_law.ensures.join held a (g.S.Source.ranges c.args.source.now) mid new seen c.in_ok-again.ensures.touched rows

pub returns-clause-touched : goal.returns-clause-touched
returns-clause-touched g c =
    let held : Option (List ℕ) = g.S.Source.held c.args.source.now in
    let same : g.S.Source.held c.read_again.new.source ≡ held = search rules in
    let sieve = c.args.asked.now.sieve in
    let from = c.args.found.now.from in
    let most : ℕ = length c.args.space.now.header in
    let tile : ℕ = c.args.found.now.survey.tile in
    let a = c.in_ok-again.again in
    let mid : Option (List (ℕ × ℕ)) = g.S.Source.ranges c.read_again.new.source in
    let new : Option (List (ℕ × ℕ)) = g.S.Source.ranges c.write_cutout.new.source in
    let seen : IfSome held (λ f. ReadsAsSeen f (box_of sieve) most tile from (Ok a)) =
    seen_of held sieve c.box_of-region.result c.as_mut_slice-buf.result.now c.args.space.now.header tile from (Ok a) c.box_of-region.ensures.exact c.as_mut_slice-buf.ensures.value c.in_ok-again.ensures.as_seen in
    let rows : IfSome held (λ f. LogsIn (picked_ranges f a.header sieve) mid new) = rw same at c.in_ok-write_cutout.ensures.touched in
    with_rows sieve most tile from c.ranges_law.ensures.within c.ranges_law.ensures.join held a (g.S.Source.ranges c.args.source.now) mid new seen c.in_ok-again.ensures.touched rows
