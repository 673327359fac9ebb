-- One tile: its old pixels are fetched, those of PATCH put over them, and the new ones encoded (FITS 4.0, section 10.1.3).
use Rattle.std.proofs.Common.{◌≡◌, ◌+◌, ◌*◌, replicate, sym, ap, ◌∙◌}
use Rattle.fz_job.specs.Images.{HaveRoom}
use Rattle.fz_checks.specs.declared.job_checks.PackedImage.{PackedImage}
use Rattle.fz_pool.specs.Window.{Pool, slot_sizes}

-- ---- what a call keeps

pub room_still : (image : PackedImage) (w w' : Pool) → slot_sizes w'.slots ≡ slot_sizes w.slots → w'.workers ≡ w.workers → HaveRoom image w → HaveRoom image w'
room_still image w w' sizes workers room = (room.0, sizes ∙ (room.1 ∙ ap (λ n. replicate (2 * n) (2 * room.0, 8 * room.0 + 64)) (sym workers)), room.2)
