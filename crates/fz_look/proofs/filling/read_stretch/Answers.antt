-- The tile is read on from its mark, and the next mark is kept.
use Rattle.std.proofs.Common.{◌≡◌, ℕ, ◌≤◌, List, Option, None, IfSome, Result, Err, refl, sym, subst, arith, rules}
use Rattle.fz_base.specs.Stop.{IfRefused}
use Rattle.fz_base.specs.declared.failure.Stop.{Stop}
use Rattle.fz_files.specs.Restored.{pixels_of}
use Rattle.fz_files.specs.Touched.{touched_by}
use Rattle.fz_files.specs.declared.job.Job.TheVariants.{Unpack}
use Rattle.fz_pixels.specs.Marks.{IsMarkIn, IsPartFetched, part_start}
use Rattle.fz_pixels.specs.declared.marks.TileMark.{TileMark}
use Rattle.fz_job.specs.Clauses.{IsOfSomeRow}
use Rattle.fz_look.specs.declared.filling.Stretch.{Stretch}
use Rattle.fz_look.proofs.Filled.{never_of, never_ok, none_read, said_of, some_row, touched_of}
use Rattle.fz_look.proofs.Marking.{marked_from, marks_kept}
use Rattle.fz_look.proofs.Stretches.{start_low, start_most}
use Rattle.fz_look.proofs.Tallies.{kept_same}
use Rattle.fz_look.proofs.filling.read_stretch.Goals as goal

pub mark_before-from-requires : goal.mark_before-from-requires
mark_before-from-requires g c = record { tile = omega (arith, c.requires.tile, c.requires.image.divided.tiles) }

pub keep_mark-requires : goal.keep_mark-requires
keep_mark-requires g c = record { tile = omega (arith, c.requires.tile, c.requires.image.divided.tiles) }

pub fetch_part-requires-clause-said : goal.fetch_part-requires-clause-said
fetch_part-requires-clause-said g c = said_of c.args.tile.now.header.now c.args.tile.now.image.now (g.S.Source.held c.args.source.now) c.requires.known

pub fetch_part-requires-clause-marked : goal.fetch_part-requires-clause-marked
fetch_part-requires-clause-marked g c =
    marked_from (g.S.Source.held c.args.source.now) c.args.tile.now.header.now c.args.table.now c.args.tile.now.number c.mark_before-from.result c.requires.marks c.mark_before-from.ensures.kept

pub fetch_part-requires-clause-some : goal.fetch_part-requires-clause-some
fetch_part-requires-clause-some g c = start_low c.mark_before-from.result c.args.wanted.first c.args.wanted.end c.mark_before-from.ensures.before c.requires.some

-- ---- what was read

pub returns-clause-fetched : goal.returns-clause-fetched
returns-clause-fetched g c =
    let held : Option (List ℕ) = g.S.Source.held c.args.source.now in
    let h = c.args.tile.now.header.now in
    let p = c.args.tile.now.image.now.plan in
    let t : ℕ = c.args.tile.now.number in
    let from : Option TileMark = c.mark_before-from.result in
    let next : TileMark = c.in-Some.next in
    let numbers = c.fetch_part.new.numbers in
    let got : IsPartFetched held h p t (part_start from) next.pixel numbers =
    subst (λ (o : Option TileMark). IfSome o (λ n. IsPartFetched held h p t (part_start from) n.pixel numbers)) c.in-Some.is c.in_ok-part.ensures.fetched in
    subst (λ first. IsPartFetched held h p t first next.pixel numbers) (sym c.part_start.ensures) got

pub returns-clause-wanted : goal.returns-clause-wanted
returns-clause-wanted g c =
    let from : Option TileMark = c.mark_before-from.result in
    let next : TileMark = c.in-Some.next in
    let least : part_start from ≤ c.args.wanted.first = start_most from c.args.wanted.first c.mark_before-from.ensures.before in
    let reach : (c.args.wanted.end ≤ next.pixel) × (next.pixel ≤ pixels_of c.args.tile.now.image.now.plan c.args.tile.now.number) =
    subst (λ (o : Option TileMark). IfSome o (λ n. (c.args.wanted.end ≤ n.pixel) × (n.pixel ≤ pixels_of c.args.tile.now.image.now.plan c.args.tile.now.number))) c.in-Some.is c.in_ok-part.ensures.reach in
    (omega (arith, least, c.part_start.ensures), reach.0, reach.1)

pub returns-clause-marks : goal.returns-clause-marks
returns-clause-marks g c =
    let held : Option (List ℕ) = g.S.Source.held c.args.source.now in
    let h = c.args.tile.now.header.now in
    let next : TileMark = c.in-Some.next in
    let one : IfSome held (λ f. IsMarkIn f h c.args.tile.now.number next) =
    subst (λ (o : Option TileMark). IfSome o (λ n. IfSome held (λ f. IsMarkIn f h c.args.tile.now.number n))) c.in-Some.is c.in_ok-part.ensures.next in
    marks_kept held h c.args.table.now c.keep_mark.new.table c.args.tile.now.number next c.keep_mark.ensures.kept c.requires.marks one

pub returns-clause-stays : goal.returns-clause-stays
returns-clause-stays g c =
    let held : Option (List ℕ) = g.S.Source.held c.args.source.now in (
      record {
        source = c.in_ok-part.ensures.stays.0;
        row = tt;
        never = never_ok (Option Stretch) None held;
        read = touched_of c.args.tile.now.header.now c.args.tile.now.image.now held c.args.tile.now.number (g.S.Source.ranges c.args.source.now) (g.S.Source.ranges c.fetch_part.new.source) c.requires.tile c.requires.known
            c.in_ok-part.ensures.read;
        cause = search rules;
      },
      search rules,
      search rules,
      search rules,
    )

-- ---- a tile of which all is wanted

pub returns-then-is_whole-clause-stays : goal.returns-then-is_whole-clause-stays
returns-then-is_whole-clause-stays g c =
    let held : Option (List ℕ) = g.S.Source.held c.args.source.now in (
      record {
        source = record { held_is = refl; attached_is = refl; told = λ told. told };
        row = tt;
        never = never_ok (Option Stretch) None held;
        read = none_read held (touched_by Unpack) (g.S.Source.ranges c.args.source.now);
        cause = record { kept = kept_same (g.S.Source.tally c.args.source.now); ok = refl; stop = tt };
      },
      search rules,
      search rules,
      search rules,
    )

-- ---- a tile that is not read in parts

pub returns-in_default-clause-stays : goal.returns-in_default-clause-stays
returns-in_default-clause-stays g c =
    let held : Option (List ℕ) = g.S.Source.held c.args.source.now in (
      record {
        source = c.in_ok-part.ensures.stays.0;
        row = tt;
        never = never_ok (Option Stretch) None held;
        read = touched_of c.args.tile.now.header.now c.args.tile.now.image.now held c.args.tile.now.number (g.S.Source.ranges c.args.source.now) (g.S.Source.ranges c.fetch_part.new.source) c.requires.tile c.requires.known
            c.in_ok-part.ensures.read;
        cause = search rules;
      },
      search rules,
      search rules,
      search rules,
    )

-- ---- a row that was not read

pub returns-in_err-part-clause-stays : goal.returns-in_err-part-clause-stays
returns-in_err-part-clause-stays g c =
    let held : Option (List ℕ) = g.S.Source.held c.args.source.now in
    let h = c.args.tile.now.header.now in
    let i = c.args.tile.now.image.now in
    let t : ℕ = c.args.tile.now.number in
    let stop : Stop = c.in_err-part.field-0.0 in
    let stopped : c.from_residual.result ≡ Err stop = search rules in (
      record {
        source = c.in_err-part.ensures.stays.0;
        row = subst (λ (r : Result (Option Stretch) Stop). IfRefused r IsOfSomeRow) (sym stopped) (some_row (Option TileMark) (Option Stretch) stop h.hdu t c.in_err-part.ensures.row);
        never = subst (λ (r : Result (Option Stretch) Stop). IfSome held (λ f. IfRefused r (λ x. ⊥))) (sym stopped)
            (never_of h i (Option TileMark) (Option Stretch) held stop t c.requires.tile c.requires.known c.in_err-part.ensures.fault);
        read = touched_of h i held t (g.S.Source.ranges c.args.source.now) (g.S.Source.ranges c.fetch_part.new.source) c.requires.tile c.requires.known c.in_err-part.ensures.read;
        cause = search rules;
      },
      search rules,
      search rules,
      search rules,
    )
