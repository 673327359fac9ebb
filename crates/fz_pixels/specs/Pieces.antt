-- Pixels that are written to their places in an image (FITS 4.0, section 3.3.2).
use Rattle.std.specs.Prelude.{ℕ, ◌+◌, ◌*◌, List, [], ◌∷◌, take, drop, Option}
use Rattle.fz_base.specs.Sink.{written}

-- contents after pixels of so many bytes each are written to these places of an image, whose data begin at this byte
abbrev pub pieces_written : ℕ → ℕ → List ℕ → List ℕ → Option (List ℕ) → Option (List ℕ)
pieces_written w at [] bytes contents = contents
pieces_written w at (place ∷ places) bytes contents = pieces_written w at places (drop w bytes) (written (at + w * place) (take w bytes) contents)
