-- The first HDU that stands for something: the primary, or the packed primary after it (FITS 4.0, section 10.1).
use Rattle.std.specs.Prelude.{ℕ, true, false, List, [], ◌∷◌, Option, Some, None, if◌then◌else◌}
use Rattle.fz_block.specs.Header.{next_start_of}
use Rattle.fz_block.specs.declared.header.Header.{Header}
use Rattle.fz_files.specs.Restored.{is_packed_primary}
use Rattle.fz_job.specs.Again.{is_empty_primary}
use Rattle.fz_unpack.specs.declared.first.First.{First}

-- the primary, which follows no HDU
abbrev pub the_primary : First
the_primary = record { hdu = 0; start = 0; after_empty = false }

-- HDU 1, after the primary with this header
abbrev pub behind_primary : Header → First
behind_primary h = record { hdu = 1; start = next_start_of h; after_empty = is_empty_primary h }

-- that of HDUs
abbrev pub first_of : List ℕ → List Header → First
first_of file [] = the_primary
first_of file (h ∷ []) = the_primary
first_of file (h ∷ k ∷ hs) = if is_packed_primary file k then behind_primary h else the_primary

-- that of a file in which a packed primary begins at this byte, or none does
abbrev pub first_at : Option ℕ → First
first_at None = the_primary
first_at (Some start) = record { hdu = 1; start = start; after_empty = true }
