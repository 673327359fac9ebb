-- The buffers that were lent come back.
use Rattle.std.proofs.Common.{◌≡◌, ℕ, ◌*◌, ◌+◌, ◌/◌, ◌≤◌, ℤ, List, length, Option, IfSome, OnOk, refl, sym, ap, ◌∙◌, subst, rules}
use Rattle.fz_look.specs.Boxes.{HasPart}
use Rattle.fz_look.specs.Marked.{AreMarks, table_in}
use Rattle.fz_look.proofs.ReadAgain.{given_back}
use Rattle.fz_files.specs.Packed.{pixel_bits}
use Rattle.fz_grid.specs.Arrays.{product}
use Rattle.fz_grid.specs.Sieve.{sieve_lengths}
use Rattle.fz_look.proofs.filling.put_tile.Goals as goal

pub put_beside-requires-clause-marks : goal.put_beside-requires-clause-marks
put_beside-requires-clause-marks g c =
    subst (λ (l : List ℤ). IfSome (g.S.Source.held c.args.source.now) (λ f. AreMarks f c.args.header.now (table_in c.args.image.now.plan.codec l))) (sym c.as_mut_slice-numbers.ensures.value) c.requires.marks

pub returns-clause-placed : goal.returns-clause-placed
returns-clause-placed g c =
    let held : Option (List ℕ) = g.S.Source.held c.args.source.now in
    let h = c.args.header.now in
    let p = c.args.image.now.plan in
    let old : List ℕ = c.args.space.now.band in
    let new : List ℕ = c.put_beside.new.band in
    let lent : c.as_mut_slice-band.result.now ≡ old = c.as_mut_slice-band.ensures.value in
    let long : length new ≡ length old = c.put_beside.ensures.stays.3 ∙ ap length lent in
    subst (λ (l : List ℕ). OnOk c.put_beside.result (IfSome held (λ f. HasPart f h p c.args.sieve.now c.args.tile old l))) (sym (given_back old new long))
    (subst (λ (l : List ℕ). OnOk c.put_beside.result (IfSome held (λ f. HasPart f h p c.args.sieve.now c.args.tile l new))) lent c.put_beside.ensures.placed)

pub returns-clause-marks : goal.returns-clause-marks
returns-clause-marks g c =
    let p = c.args.image.now.plan in
    let old : List ℤ = c.args.space.now.numbers in
    let new : List ℤ = c.put_beside.new.numbers in
    let long : length new ≡ length old = c.put_beside.ensures.stays.1 ∙ ap length c.as_mut_slice-numbers.ensures.value in
    subst (λ (l : List ℤ). IfSome (g.S.Source.held c.args.source.now) (λ f. AreMarks f c.args.header.now (table_in p.codec l))) (sym (given_back old new long)) c.put_beside.ensures.marks

pub returns-clause-stays : goal.returns-clause-stays
returns-clause-stays g c =
    let space = c.args.space.now in
    let new = c.put_beside.new in
    let numbers : length new.numbers ≡ length space.numbers = c.put_beside.ensures.stays.1 ∙ ap length c.as_mut_slice-numbers.ensures.value in
    let code : length new.code ≡ length space.code = c.put_beside.ensures.stays.2 ∙ ap length c.as_mut_slice-code.ensures.value in
    let band : length new.band ≡ length space.band = c.put_beside.ensures.stays.3 ∙ ap length c.as_mut_slice-band.ensures.value in (
      search rules,
      record {
        block = refl;
        header = refl;
        translated = refl;
        numbers = ap length (given_back space.numbers new.numbers numbers) ∙ numbers;
        code = ap length (given_back space.code new.code code) ∙ code;
        band = ap length (given_back space.band new.band band) ∙ band;
      },
    )

pub put_beside-requires-clause-tile : goal.put_beside-requires-clause-tile
put_beside-requires-clause-tile g c =
    let p = c.args.image.now.plan in
    let can = c.requires.tile in
    record {
      readable = can.readable;
      within = can.within;
      known = can.known;
      sieve_of = can.sieve_of;
      number = can.number;
      picked = can.picked;
      room = subst (λ (l : List ℕ). pixel_bits p / 8 * product (sieve_lengths c.args.sieve.now) ≤ length l) (sym c.as_mut_slice-band.ensures.value) can.room;
    }
