-- The buffers that a job takes at once after its first look: the longest header, the translated header, the slots in which tiles are
-- coded (FITS 4.0, section 10.1.3), and the copy buffer. A job takes those that it wants.
use Rattle.std.specs.Prelude.{ℕ, ◌+◌, ◌*◌, Bool, true, false, List, [], ◌∷◌, ◌++◌, Option, Some, None}
use Rattle.fz_base.specs.JobBuffers.{slots_buffers}
use Rattle.fz_grid.specs.Arrays.{product}
use Rattle.fz_grid.specs.Region.{lengths_of}
use Rattle.fz_head.specs.declared.plan.Plan.{Plan}

-- the pixels of a tile that no edge cuts short
abbrev pub pixels_of_tile : Plan → ℕ
pixels_of_tile p = product (lengths_of p.tile)

-- the translated header is at most one block longer than the longest header
abbrev pub translated_buffers : Bool → ℕ → List ℕ
translated_buffers true header_len = (header_len + 2880) ∷ []
translated_buffers false header_len = []

-- what W workers on tiles of at most n pixels take: two slots for each, and the copy buffer
abbrev pub tile_buffers : ℕ → Option ℕ → List ℕ
tile_buffers W None = []
tile_buffers W (Some n) = slots_buffers n (2 * W) ++ 65536 ∷ []

-- what a job with W workers takes, in this order: the longest header, the translated one if it translates, and the buffers of
-- its largest tile if it works on tiles
abbrev pub work_buffers : ℕ → Bool → Option ℕ → ℕ → List ℕ
work_buffers header_len translates tile W = header_len ∷ (translated_buffers translates header_len ++ tile_buffers W tile)
