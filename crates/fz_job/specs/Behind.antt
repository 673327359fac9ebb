-- What a job writes but for byte 0 of its file, which comes last (FITS 4.0, section 4.4.1.1).
use Rattle.std.specs.Prelude.{ℕ, zero, suc, ◌≡◌, ◌+◌, List, length, drop, Option}
use Rattle.fz_base.specs.Sink.{written}
use Rattle.fz_block.specs.Hdus.{hdu_bytes}
use Rattle.fz_block.specs.Walk.{hdu_of}
use Rattle.fz_block.specs.declared.header.Header.{Header}

-- bytes from one place on, but not byte 0
abbrev pub written_behind : ℕ → List ℕ → Option (List ℕ) → Option (List ℕ)
written_behind zero bytes contents = written 1 (drop 1 bytes) contents
written_behind (suc at) bytes contents = written (suc at) bytes contents

-- bytes were written from one byte on, and end before another
pub record HoldsBytes (bytes : List ℕ) (at end : ℕ) (before now : Option (List ℕ)) : Type 0 where
  pub contents : now ≡ written_behind at bytes before
  pub behind : end ≡ at + length bytes

-- an HDU was copied
abbrev pub HoldsCopy : Header → List ℕ → ℕ → ℕ → Option (List ℕ) → Option (List ℕ) → Type 0
HoldsCopy h file at end before now = HoldsBytes (hdu_bytes (hdu_of file h)) at end before now
