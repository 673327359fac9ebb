-- One tile after another.
use Rattle.std.proofs.Common.{◌≡◌, ℕ, ◌*◌, ◌/◌, ◌≤◌, List, ◌∷◌, length, Option, IfSome, refl, sym, ap, ◌∙◌, subst}
use Rattle.std.specs.List.{AllByRecursion}
use Rattle.fz_base.specs.Ranges.{LogsIn}
use Rattle.fz_block.specs.declared.axes.Axes.{Axes}
use Rattle.fz_grid.specs.Arrays.{product}
use Rattle.fz_grid.specs.Sieve.{IsSieveOf, sieve_lengths}
use Rattle.fz_grid.specs.SieveWalks.{sieve_tiles_left}
use Rattle.fz_grid.specs.declared.sieving.SieveTiles.{SieveTiles}
use Rattle.fz_files.specs.Packed.{pixel_bits}
use Rattle.fz_files.specs.Touched.{touched_by}
use Rattle.fz_files.specs.declared.job.Job.TheVariants.{Unpack}
use Rattle.fz_fetch.specs.Rows.{StandsWithin}
use Rattle.fz_look.specs.Boxes.{HasBox, HasPart}
use Rattle.fz_look.specs.Laws.{IsKnownImage}
use Rattle.fz_look.specs.Marked.{AreMarks, table_in}
use Rattle.fz_look.proofs.Filled.{IsTileWithPick, all_filled, both_read, first_left, never_ok, none_filled, none_read, one_filled, tiles_of_grid, tiles_with_pick}
use Rattle.fz_look.proofs.filling.fill_band.Goals as goal

pub loop-tile-init : goal.loop-tile-init
loop-tile-init g c =
    let held : Option (List ℕ) = g.S.Source.held c.args.source.now in
    let p = c.args.image.now.plan in
    let sieve = c.sieve_of-sieve.result in
    let left : List ℕ = sieve_tiles_left c.into_iter-tile-iterator.result in
    let given : left ≡ sieve_tiles_left c.sieve_tiles-tile-items.result = ap (λ (s : SieveTiles). sieve_tiles_left s) c.into_iter-tile-iterator.ensures.into_iter_gives in
    let shape = c.new-grid.ensures.shape in
    let tile = c.new-grid.ensures.tile in
    let all = tiles_with_pick p sieve c.new-grid.result.shape c.new-grid.result.tile (sieve_tiles_left c.sieve_tiles-tile-items.result) shape tile c.sieve_tiles-tile-items.ensures.picked c.sieve_tiles-tile-items.ensures.inside in
    record {
      held = refl;
      attached = refl;
      reads = refl;
      told_ranges = λ told. told;
      read = none_read held (touched_by Unpack) (g.S.Source.ranges c.args.source.now);
      space = record { block = refl; header = refl; translated = refl; numbers = refl; code = refl; band = refl };
      marks = c.requires.marks;
      picked = subst (AllByRecursion (IsTileWithPick p sieve)) (sym given) all;
      done = none_filled held c.args.header.now p sieve left c.args.space.now.band
          (given ∙ tiles_of_grid p sieve c.new-grid.result.shape c.new-grid.result.tile (sieve_tiles_left c.sieve_tiles-tile-items.result) shape tile c.sieve_tiles-tile-items.ensures.tiles);
    }

pub loop-tile-preserved : goal.loop-tile-preserved
loop-tile-preserved g c =
    let held : Option (List ℕ) = g.S.Source.held c.args.source.now in
    let h = c.args.header.now in
    let i = c.args.image.now in
    let sieve = c.sieve_of-sieve.result in
    let old = c.loop-tile.invariant in
    let one = c.in_ok-put_tile.ensures in
    let new = c.put_tile.new in
    let left : List ℕ = sieve_tiles_left c.loop-tile.tile-iterator in
    let behind : List ℕ = sieve_tiles_left c.next.new.self in
    let next : left ≡ c.in-Some.tile ∷ behind = c.in-Some.ensures.steps in
    let here = first_left (IsTileWithPick i.plan sieve) c.in-Some.tile left behind next old.picked in
    let put : IfSome held (λ f. HasPart f h i.plan sieve c.in-Some.tile c.loop-tile.space.band new.space.band) =
    subst (λ (l : Option (List ℕ)). IfSome l (λ f. HasPart f h i.plan sieve c.in-Some.tile c.loop-tile.space.band new.space.band)) old.held one.placed in
    record {
      held = one.stays.0.source.held_is ∙ old.held;
      attached = one.stays.0.source.attached_is ∙ old.attached;
      reads = one.stays.0.cause.ok ∙ old.reads;
      told_ranges = λ told. one.stays.0.source.told (old.told_ranges told);
      read = both_read c.ranges_law.ensures.join held (touched_by Unpack) (g.S.Source.ranges c.args.source.now) (g.S.Source.ranges c.loop-tile.source) (g.S.Source.ranges new.source) old.read
          (subst (λ (l : Option (List ℕ)). IfSome l (λ f. LogsIn (touched_by Unpack f) (g.S.Source.ranges c.loop-tile.source) (g.S.Source.ranges new.source))) old.held one.stays.0.read);
      space = record {
        block = one.stays.1.block ∙ old.space.block;
        header = one.stays.1.header ∙ old.space.header;
        translated = one.stays.1.translated ∙ old.space.translated;
        numbers = one.stays.1.numbers ∙ old.space.numbers;
        code = one.stays.1.code ∙ old.space.code;
        band = one.stays.1.band ∙ old.space.band;
      };
      marks = subst (λ (l : Option (List ℕ)). IfSome l (λ f. AreMarks f h (table_in i.plan.codec new.space.numbers))) old.held one.marks;
      picked = here.1;
      done = one_filled c.scattered_law.ensures.parts held h i.plan sieve c.in-Some.tile left behind c.args.space.now.band c.loop-tile.space.band new.space.band next put old.done;
    }

pub sieve_tiles-tile-items-requires : goal.sieve_tiles-tile-items-requires
sieve_tiles-tile-items-requires g c = subst (λ (s : Axes). IsSieveOf s c.sieve_of-sieve.result) (sym c.new-grid.ensures.shape) c.sieve_of-sieve.ensures.sieve

pub put_tile-requires-clause-tile : goal.put_tile-requires-clause-tile
put_tile-requires-clause-tile g c =
    let h = c.args.header.now in
    let image = c.args.image.now in
    let bytes : ℕ = pixel_bits image.plan / 8 in
    let sieve = c.sieve_of-sieve.result in
    let old = c.loop-tile.invariant in
    let here = first_left (IsTileWithPick image.plan sieve) c.in-Some.tile (sieve_tiles_left c.loop-tile.tile-iterator) (sieve_tiles_left c.next.new.self) c.in-Some.ensures.steps old.picked in
    record {
      readable = c.requires.image;
      within = subst (λ (a : Option ℕ). StandsWithin a image.table) (sym old.attached) c.requires.within;
      known = subst (λ (l : Option (List ℕ)). IfSome l (λ f. IsKnownImage f h image)) (sym old.held) c.requires.known;
      sieve_of = c.sieve_of-sieve.ensures.sieve;
      number = here.0.0;
      picked = here.0.1;
      room = subst (λ n. bytes * product (sieve_lengths sieve) ≤ n) (sym old.space.band)
          (subst (λ (l : List ℕ). bytes * product l ≤ length c.args.space.now.band) (sym c.sieve_of-sieve.ensures.lengths) c.requires.region.fits);
    }

pub put_tile-requires-clause-marks : goal.put_tile-requires-clause-marks
put_tile-requires-clause-marks g c =
    let i = c.args.image.now in
    subst (λ (l : Option (List ℕ)). IfSome l (λ f. AreMarks f c.args.header.now (table_in i.plan.codec c.loop-tile.space.numbers))) (sym c.loop-tile.invariant.held) c.loop-tile.invariant.marks

pub returns-in_err-put_tile-clause-marks : goal.returns-in_err-put_tile-clause-marks
returns-in_err-put_tile-clause-marks g c =
    let i = c.args.image.now in
    subst (λ (l : Option (List ℕ)). IfSome l (λ f. AreMarks f c.args.header.now (table_in i.plan.codec c.put_tile.new.space.numbers))) c.loop-tile.invariant.held c.in_err-put_tile.ensures.marks

pub returns-in_err-put_tile-clause-read : goal.returns-in_err-put_tile-clause-read
returns-in_err-put_tile-clause-read g c =
    let held : Option (List ℕ) = g.S.Source.held c.args.source.now in
    let old = c.loop-tile.invariant in
    both_read c.ranges_law.ensures.join held (touched_by Unpack) (g.S.Source.ranges c.args.source.now) (g.S.Source.ranges c.loop-tile.source) (g.S.Source.ranges c.put_tile.new.source) old.read
    (subst (λ (l : Option (List ℕ)). IfSome l (λ f. LogsIn (touched_by Unpack f) (g.S.Source.ranges c.loop-tile.source) (g.S.Source.ranges c.put_tile.new.source))) old.held c.in_err-put_tile.ensures.stays.0.read)

pub returns-clause-filled : goal.returns-clause-filled
returns-clause-filled g c =
    let sieve = c.sieve_of-sieve.result in
    subst (λ s. IfSome (g.S.Source.held c.args.source.now) (λ f. HasBox f c.args.header.now s c.loop-tile.space.band)) c.sieve_of-sieve.ensures.all
    (all_filled c.tiles_law.ensures.whole c.scattered_law.ensures.cutout (g.S.Source.held c.args.source.now) c.args.header.now c.args.image.now sieve (sieve_tiles_left c.loop-tile.tile-iterator) c.args.space.now.band c.loop-tile.space.band
    c.in-None.ensures.steps.0 c.requires.image.divided c.requires.image.codec.size c.sieve_of-sieve.ensures.sifts c.requires.known c.loop-tile.invariant.done)

pub returns-clause-never : goal.returns-clause-never
returns-clause-never g c = never_ok (Unit {0}) _ (g.S.Source.held c.args.source.now)
