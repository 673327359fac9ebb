-- The pixels of PATCH go over those of the tile, and the job is to encode them.
use Rattle.std.proofs.Common.{◌≡◌, ℕ, ◌+◌, ◌*◌, ◌^◌, ◌≤◌, ℤ, List, [], ◌++◌, length, take, drop, Option, sym, ap, ◌∙◌, subst, arith, append-nil, take_all}
use Rattle.std.specs.Prelude.{IfSome}
use Rattle.std.proofs.lemmas.List.{drop_all}
use Rattle.fz_fetch.specs.Fetched.{HoldsPixels}
use Rattle.fz_files.specs.Restored.{pixels_of}
use Rattle.fz_grid.specs.Region.{lengths_of}
use Rattle.fz_laws.specs.NewNumbers.{new_numbers}
use Rattle.fz_pool.specs.declared.slot.Job.{Job}
use Rattle.fz_target.specs.Targets.{IsGivenTo, given_at}
use Rattle.fz_target.proofs.tile.fill_slot.Goals as goal

-- numbers that were lent are put back
put_back : (old new : List ℤ) → length new ≡ length old → take (length old) (new ++ drop (length new) old) ≡ new
put_back old new same =
    let none : drop (length new) old ≡ [] = drop_all (length new) old (omega (arith, same)) in
    ap (λ l. take (length old) (new ++ l)) none ∙ (ap (take (length old)) (append-nil new) ∙ take_all (length old) new (omega (arith, same)))

pub put_given-requires-clause-room : goal.put_given-requires-clause-room
put_given-requires-clause-room g c =
    let p = c.args.target.now.image.plan in
    let n : ℕ = c.requires.room.0 in
    let long : length c.args.slot.now.numbers ≡ 2 * n = ap (λ (s : ℕ × ℕ). s.0) c.requires.room.1 in
    let most = c.tile_pixels_law.ensures.most (lengths_of p.shape) (lengths_of p.tile) c.args.tile (c.shape_law.ensures.tiles p.shape p.tile c.requires.target.readable.divided) in
    omega (arith, long, most, c.requires.room.2, ap length c.as_mut_slice.ensures.value)

pub returns-clause-filled : goal.returns-clause-filled
returns-clause-filled g c =
    let t = c.args.target.now in
    let p = t.image.plan in
    let held : Option (List ℕ) = g.S.Source.held c.args.patch.now in
    let old : List ℤ = c.args.slot.now.numbers in
    let new : List ℤ = c.put_given.new.numbers in
    let same : length new ≡ length old = c.in_ok-put_given.ensures.stays.1 ∙ ap length c.as_mut_slice.ensures.value in
    let filled : take (length old) (new ++ drop (length new) old) ≡ new = put_back old new same in
    let long : length (take (length old) (new ++ drop (length new) old)) ≡ length old = ap length filled ∙ same in
    let most = c.tile_pixels_law.ensures.most (lengths_of p.shape) (lengths_of p.tile) c.args.tile (c.shape_law.ensures.tiles p.shape p.tile c.requires.target.readable.divided) in
    let pixels : c.job_of-slot.result.pixels ≡ pixels_of p c.args.tile = ap (λ (j : Job). j.pixels) c.job_of-slot.ensures.job in
    record {
      job = c.job_of-slot.ensures.job;
      few = (omega (arith, pixels, c.job_of-slot.ensures.some.0), omega (arith, pixels, c.job_of-slot.ensures.some.1));
      room = (c.requires.room.0, (λ j. (long j, length c.args.slot.now.code)) ∙ c.requires.room.1, omega (arith, most, c.requires.room.2));
      some = subst (λ (l : List ℤ). (xs : List ℤ) × HoldsPixels p c.args.tile l xs) (sym filled) c.in_ok-put_given.ensures.pixels;
      new = subst
          (λ (l : List ℤ). IfSome held (λ patch. (corner : List ℕ) (xs : List ℤ) → IsGivenTo corner patch t → HoldsPixels p c.args.tile old xs → HoldsPixels p c.args.tile l (new_numbers p (given_at corner patch) c.args.tile xs)))
          (sym filled)
          (subst
          (λ (l : List ℤ). IfSome held (λ patch. (corner : List ℕ) (xs : List ℤ) → IsGivenTo corner patch t → HoldsPixels p c.args.tile l xs → HoldsPixels p c.args.tile new (new_numbers p (given_at corner patch) c.args.tile xs)))
          c.as_mut_slice.ensures.value c.in_ok-put_given.ensures.new);
    }
