-- The buffers of a job's slots, in which the tiles of an image are encoded and decoded (FITS 4.0, section 10.1.3), and the bound of
-- all its buffers.
use Rattle.std.specs.Prelude.{ℕ, zero, suc, ◌+◌, ◌*◌, List, [], ◌∷◌, ◌++◌}

-- the buffers of one slot, for tiles of at most n pixels: the numbers, of which a pixel has two of 4 bytes, and the bytes of a record
abbrev pub slot_buffers : ℕ → List ℕ
slot_buffers n = 8 * n ∷ (8 * n + 64) ∷ []

-- the buffers of so many slots
abbrev pub slots_buffers : ℕ → ℕ → List ℕ
slots_buffers n zero = []
slots_buffers n (suc slots) = slot_buffers n ++ slots_buffers n slots

-- The bound for a longest header of H bytes, a largest tile of n pixels and W workers: the header, the translated header, which is
-- at most one block longer, one block, two slots for each worker, and the copy buffer.
unfoldable pub buffer_bound : ℕ → ℕ → ℕ → ℕ
buffer_bound H n W = 2 * H + 5760 + 2 * W * (16 * n + 64) + 65536
