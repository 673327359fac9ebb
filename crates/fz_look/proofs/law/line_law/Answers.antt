-- Pixel by pixel.
use Rattle.fz_look.proofs.BoxLines.{box_room, line_bytes}
use Rattle.fz_look.proofs.law.line_law.Goals as goal

pub returns-clause-room : goal.returns-clause-room
returns-clause-room c = box_room c.place_law.ensures.inside

pub returns-clause-bytes : goal.returns-clause-bytes
returns-clause-bytes c = line_bytes c.place_law.ensures.inside c.place_law.ensures.coordinates c.place_law.ensures.numbers c.place_law.ensures.order c.slice_law.ensures.bytes c.plain_law.ensures.len
