-- A stretch of a tile goes to its place, or that of the whole tile.
use Rattle.std.proofs.Common.{ℕ, ◌+◌, ◌*◌, ◌≤◌, List, length, Option, IfSome, OnOk, sym, ◌∙◌, subst, arith, rules}
use Rattle.fz_base.specs.Counts.{Tally}
use Rattle.fz_base.specs.Ranges.{LogsIn}
use Rattle.fz_base.specs.Stop.{IfRefused, ReadsOnly}
use Rattle.fz_grid.specs.Region.{lengths_of}
use Rattle.fz_tile.specs.Pixels.{place_count}
use Rattle.fz_files.specs.Packed.{pixel_bits}
use Rattle.fz_files.specs.Restored.{pixels_of}
use Rattle.fz_files.specs.Touched.{touched_by}
use Rattle.fz_files.specs.declared.job.Job.TheVariants.{Unpack}
use Rattle.fz_pixels.specs.Marks.{IsPartFetched}
use Rattle.fz_look.specs.Boxes.{HasPart}
use Rattle.fz_look.specs.declared.filling.Stretch.{Stretch}
use Rattle.fz_look.proofs.Filled.{both_read, never_ok, part_put}
use Rattle.fz_look.proofs.Stretches.{fewer_fit, picks_wider, pixels_fit}
use Rattle.fz_fetch.specs.Rows.{StandsWithin}
use Rattle.fz_look.specs.Laws.{IsKnownImage}
use Rattle.fz_look.proofs.filling.put_part.Goals as goal

pub read_stretch-requires-clause-numbers : goal.read_stretch-requires-clause-numbers
read_stretch-requires-clause-numbers g c = pixels_fit (pixel_bits c.args.tile.now.image.now.plan) (pixels_of c.args.tile.now.image.now.plan 0) (length c.args.numbers.now) c.requires.rooms.numbers_fit

-- ---- a stretch

pub place_between-requires-clause-picks : goal.place_between-requires-clause-picks
place_between-requires-clause-picks g c =
    let p = c.args.tile.now.image.now.plan in
    let first : ℕ = c.part_span-first.result.0 in
    let end : ℕ = c.part_span-first.result.1 in
    let part : Stretch = c.in-Some.part in
    let has : (part.first ≤ first) × (end ≤ part.end) × (part.end ≤ pixels_of p c.args.tile.now.number) =
    subst (λ (o : Option Stretch). IfSome o (λ s. (s.first ≤ first) × (end ≤ s.end) × (s.end ≤ pixels_of p c.args.tile.now.number))) c.in-Some.is c.in_ok-read.ensures.wanted in
    picks_wider p c.args.sieve.now c.args.tile.now.number first end part.first part.end c.part_span-first.ensures.spans.within has.0 has.1

pub place_between-requires-clause-span : goal.place_between-requires-clause-span
place_between-requires-clause-span g c =
    let p = c.args.tile.now.image.now.plan in
    let first : ℕ = c.part_span-first.result.0 in
    let end : ℕ = c.part_span-first.result.1 in
    let part : Stretch = c.in-Some.part in
    let has : (part.first ≤ first) × (end ≤ part.end) × (part.end ≤ pixels_of p c.args.tile.now.number) =
    subst (λ (o : Option Stretch). IfSome o (λ s. (s.first ≤ first) × (end ≤ s.end) × (s.end ≤ pixels_of p c.args.tile.now.number))) c.in-Some.is c.in_ok-read.ensures.wanted in
    (omega (arith, has.0, has.1, c.part_span-first.ensures.some), has.2)

pub place_between-requires-clause-numbers : goal.place_between-requires-clause-numbers
place_between-requires-clause-numbers g c =
    let p = c.args.tile.now.image.now.plan in
    let t : ℕ = c.args.tile.now.number in
    let first : ℕ = c.part_span-first.result.0 in
    let end : ℕ = c.part_span-first.result.1 in
    let part : Stretch = c.in-Some.part in
    let has : (part.first ≤ first) × (end ≤ part.end) × (part.end ≤ pixels_of p t) =
    subst (λ (o : Option Stretch). IfSome o (λ s. (s.first ≤ first) × (end ≤ s.end) × (s.end ≤ pixels_of p t))) c.in-Some.is c.in_ok-read.ensures.wanted in
    let few : pixels_of p t ≤ pixels_of p 0 = c.tile_pixels_law.ensures.most (lengths_of p.shape) (lengths_of p.tile) t (c.shape_law.ensures.tiles p.shape p.tile c.requires.tile.readable.divided) in
    let fewer : part.end ≤ pixels_of p 0 = omega (arith, has.2, few) in
    subst (λ n. place_count (pixel_bits p) part.end ≤ n) (sym c.in_ok-read.ensures.stays.1) (fewer_fit (pixel_bits p) part.end (pixels_of p 0) (length c.args.numbers.now) fewer c.requires.rooms.numbers_fit)

pub place_between-requires-clause-pixels : goal.place_between-requires-clause-pixels
place_between-requires-clause-pixels g c =
    let held : Option (List ℕ) = g.S.Source.held c.args.source.now in
    let h = c.args.tile.now.header.now in
    let p = c.args.tile.now.image.now.plan in
    let part : Stretch = c.in-Some.part in
    let got : IsPartFetched held h p c.args.tile.now.number part.first part.end c.read_stretch.new.numbers =
    subst (λ (o : Option Stretch). IfSome o (λ s. IsPartFetched held h p c.args.tile.now.number s.first s.end c.read_stretch.new.numbers)) c.in-Some.is c.in_ok-read.ensures.fetched in
    (got.pixels, got.hold)

pub returns-in-Some-clause-placed : goal.returns-in-Some-clause-placed
returns-in-Some-clause-placed g c =
    let held : Option (List ℕ) = g.S.Source.held c.args.source.now in
    let h = c.args.tile.now.header.now in
    let i = c.args.tile.now.image.now in
    let part : Stretch = c.in-Some.part in
    let numbers = c.read_stretch.new.numbers in
    let got : IsPartFetched held h i.plan c.args.tile.now.number part.first part.end numbers =
    subst (λ (o : Option Stretch). IfSome o (λ s. IsPartFetched held h i.plan c.args.tile.now.number s.first s.end numbers)) c.in-Some.is c.in_ok-read.ensures.fetched in
    part_put held h i c.args.sieve.now c.args.tile.now.number part.first part.end numbers c.args.band.now c.place_between.new.out c.requires.tile.number c.requires.tile.known got c.place_between.ensures.placed

pub returns-in-Some-clause-stays : goal.returns-in-Some-clause-stays
returns-in-Some-clause-stays g c = (
  record {
    source = c.in_ok-read.ensures.stays.0.source;
    row = tt;
    never = never_ok (Unit {0}) _ (g.S.Source.held c.args.source.now);
    read = c.in_ok-read.ensures.stays.0.read;
    cause = search rules;
  },
  search rules,
  search rules,
  search rules,
  search rules,
)

-- ---- the whole tile, after it was not read in parts

pub returns-in-None-clause-placed : goal.returns-in-None-clause-placed
returns-in-None-clause-placed g c =
    let i = c.args.tile.now.image.now in
    subst (λ (l : Option (List ℕ)). OnOk c.put_whole.result (IfSome l (λ f. HasPart f c.args.tile.now.header.now i.plan c.args.sieve.now c.args.tile.now.number c.args.band.now c.put_whole.new.band)))
    c.in_ok-read.ensures.stays.0.source.held_is c.put_whole.ensures.placed

pub returns-in-None-clause-stays : goal.returns-in-None-clause-stays
returns-in-None-clause-stays g c =
    let held : Option (List ℕ) = g.S.Source.held c.args.source.now in
    let mid = g.S.Source.ranges c.read_stretch.new.source in
    let new = g.S.Source.ranges c.put_whole.new.source in
    let first = c.in_ok-read.ensures.stays.0 in
    let later = c.put_whole.ensures.stays.0 in (
      record {
        source = record {
          held_is = later.source.held_is ∙ first.source.held_is;
          attached_is = later.source.attached_is ∙ first.source.attached_is;
          told = λ told. later.source.told (first.source.told told);
        };
        row = later.row;
        never = subst (λ (l : Option (List ℕ)). IfSome l (λ f. IfRefused c.put_whole.result (λ x. ⊥))) first.source.held_is later.never;
        read = both_read c.ranges_law.ensures.join held (touched_by Unpack) (g.S.Source.ranges c.args.source.now) mid new first.read
            (subst (λ (l : Option (List ℕ)). IfSome l (λ f. LogsIn (touched_by Unpack f) mid new)) first.source.held_is later.read);
        cause = subst (λ (t : Tally). ReadsOnly t (g.S.Source.tally c.put_whole.new.source) c.put_whole.result) first.cause.ok later.cause;
      },
      search rules,
      search rules,
      search rules,
      search rules,
    )

-- ---- what the whole tile asks for, after the source was read

pub put_whole-requires-clause-tile : goal.put_whole-requires-clause-tile
put_whole-requires-clause-tile g c =
    let h = c.args.tile.now.header.now in
    let image = c.args.tile.now.image.now in
    let can = c.requires.tile in
    let source = c.in_ok-read.ensures.stays.0.source in
    record {
      readable = can.readable;
      within = subst (λ (a : Option ℕ). StandsWithin a image.table) (sym source.attached_is) can.within;
      known = subst (λ (l : Option (List ℕ)). IfSome l (λ f. IsKnownImage f h image)) (sym source.held_is) can.known;
      sieve_of = can.sieve_of;
      number = can.number;
      picked = can.picked;
      room = can.room;
    }

pub put_whole-requires-clause-rooms : goal.put_whole-requires-clause-rooms
put_whole-requires-clause-rooms g c =
    let p = c.args.tile.now.image.now.plan in
    record {
      numbers_fit = subst (λ n. place_count (pixel_bits p) (pixels_of p 0) ≤ n) (sym c.in_ok-read.ensures.stays.1) c.requires.rooms.numbers_fit;
      code_fits = subst (λ n. 8 * pixels_of p 0 + 64 ≤ n) (sym c.in_ok-read.ensures.stays.3) c.requires.rooms.code_fits;
    }

pub returns-in_err-read-clause-stays : goal.returns-in_err-read-clause-stays
returns-in_err-read-clause-stays g c =
    let stays = c.in_err-read.ensures.stays.0 in (
      record { source = stays.source; row = search rules; never = search rules; read = stays.read; cause = search rules },
      search rules,
      search rules,
      search rules,
      search rules,
    )
