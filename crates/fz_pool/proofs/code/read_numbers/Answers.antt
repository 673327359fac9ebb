use Rattle.std.proofs.Common.{ℕ, ℤ, length, subst, ap, ◌∙◌}
use Rattle.std.specs.Prelude.{unsigned_abs}
use Rattle.fz_tile.specs.Pixels.{pixel_count}
use Rattle.fz_tile.specs.Refusals.{IsFault}
use Rattle.fz_pool.specs.Slots.{bits_of_pixel}
use Rattle.fz_pool.proofs.SlotLemmas.{pixels_back, round_trip}
use Rattle.fz_pool.proofs.code.read_numbers.Goals as goal

pub returns-in-Err : goal.returns-in-Err
returns-in-Err c = let j = c.args.job.now in
    subst (λ (n : ℕ). IsFault j.codec (bits_of_pixel j) j.place j.total c.args.code.now n c.in-Err.fault)
    (ap (pixel_count (bits_of_pixel j)) c.requires.places ∙ pixels_back (bits_of_pixel j) j.pixels)
    (subst (λ (b : ℤ). IsFault j.codec (unsigned_abs b) j.place j.total c.args.code.now (pixel_count (unsigned_abs b) (length c.args.numbers.now)) c.in-Err.fault) (round_trip j.bitpix c.requires.codec.size)
    ((c.decode_tile.ensures.fault c.in-Err.fault).0 c.in-Err.is))
