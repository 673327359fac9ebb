-- What was read of a record, by its length.
use Rattle.std.proofs.Common.{◌≡◌, ℕ, ℤ, List, length, take, subst, unsigned_abs}
use Rattle.fz_tile.specs.declared.codec.Codec.{Codec}
use Rattle.fz_tile.specs.declared.coded.Place2.{Place2}
use Rattle.fz_tile.specs.declared.fault.TileFault.{TileFault}
use Rattle.fz_tile.specs.Pixels.{HoldPixels}
use Rattle.fz_tile.specs.Record.{IsRecord, read_len}
use Rattle.fz_tile.specs.Refusals.{IsFault}
use Rattle.fz_c.specs.Tiles.{pixels_in, Means, IsFaulty}

-- so many bytes are read of the record
abbrev pub IsReadLen : ℤ → ℕ → ℕ → ℕ → Type 0
IsReadLen bitpix total count len = len ≡ read_len (pixels_in bitpix count) total

pub means : (codec : Codec) (bitpix : ℤ) (place : Place2) (code : List ℕ) (total count len : ℕ) (numbers : List ℤ) → IsReadLen bitpix total count len
    → (xs : List ℤ) × (length xs ≡ pixels_in bitpix count) × IsRecord codec (unsigned_abs bitpix) place total (take len code) xs × HoldPixels (unsigned_abs bitpix) numbers xs
    → Means codec bitpix place code total count numbers
means codec bitpix place code total count len numbers e (xs, n, is, hold) = record {
  xs = xs;
  len = n;
  record_is = subst (λ (k : ℕ). IsRecord codec (unsigned_abs bitpix) place total (take k code) xs) e is;
  held = hold;
}

pub faulty : (codec : Codec) (bitpix : ℤ) (place : Place2) (code : List ℕ) (total count len : ℕ) (why : TileFault) → IsReadLen bitpix total count len
    → IsFault codec (unsigned_abs bitpix) place total (take len code) (pixels_in bitpix count) why → IsFaulty codec bitpix place code total count why
faulty codec bitpix place code total count len why e is = subst (λ (k : ℕ). IsFault codec (unsigned_abs bitpix) place total (take k code) (pixels_in bitpix count) why) e is
