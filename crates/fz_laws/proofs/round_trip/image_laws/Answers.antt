-- Each is one of theirs.
use Rattle.fz_laws.specs.RoundTripTaken.{FaultLaws, KnownLaws, PixelLaws}
use Rattle.fz_laws.proofs.CodesRead.{codes_are_read}
use Rattle.fz_laws.proofs.round_trip.image_laws.Goals as goal

pub returns : goal.returns
returns c =
    let pixels : PixelLaws = record { stored = c.plain_law.ensures.stored; again = c.plain_law.ensures.bytes; rice = codes_are_read } in
    let faults : FaultLaws =
    record {
      pixels = pixels;
      headers = c.walk_law.ensures.headers;
      last = c.found_hdus_law.ensures.last;
      unpack = c.packed_image_law.ensures.unpack;
      cut = c.packed_image_law.ensures.cut;
    } in
    let known : KnownLaws =
    record {
      again = c.plain_law.ensures.pixels;
      rice = codes_are_read;
      one_list = c.one_record_law.ensures;
      none = c.one_fault_law.ensures.none;
      one = c.one_fault_law.ensures.one;
    } in
    record { faults = faults; known = known; lengths = c.shape_law.ensures.tiles; whole = c.tiles_law.ensures.whole; tiles = c.tiles_law.ensures.joined }
