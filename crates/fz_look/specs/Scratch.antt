-- What becomes of the buffers of a view while tiles are decoded.
use Rattle.std.specs.Prelude.{◌≡◌, length}
use Rattle.fz_look.specs.declared.looked.Space.{Space}

-- those of headers stay as they are, and the others keep their lengths
pub record ScratchStays (old new : Space) : Type 0 where
  pub block : new.block ≡ old.block
  pub header : new.header ≡ old.header
  pub translated : new.translated ≡ old.translated
  pub numbers : length new.numbers ≡ length old.numbers
  pub code : length new.code ≡ length old.code
  pub band : length new.band ≡ length old.band
