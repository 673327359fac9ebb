-- A record that was decoded: it stands for pixels, which some numbers hold, or for none (FITS 4.0, sections 10.1.3 and 10.4).
use Rattle.std.specs.Prelude.{ℕ, ◌≡◌, ℤ, List, length, Result}
use Rattle.std.specs.Result.{MatchResult}
use Rattle.fz_tile.specs.Pixels.{HoldPixels}
use Rattle.fz_tile.specs.Record.{IsRecord}
use Rattle.fz_tile.specs.Refusals.{IsFault}
use Rattle.fz_tile.specs.declared.codec.Codec.{Codec}
use Rattle.fz_tile.specs.declared.coded.Place2.{Place2}
use Rattle.fz_tile.specs.declared.fault.TileFault.{TileFault}

-- these bytes of a record stand for n pixels, which these numbers hold
pub record MeansPixels (codec : Codec) (bits : ℕ) (place : Place2) (total n : ℕ) (bytes : List ℕ) (numbers : List ℤ) : Type 0 where
  pub pixels : List ℤ
  pub count : length pixels ≡ n
  pub are : IsRecord codec bits place total bytes pixels
  pub hold : HoldPixels bits numbers pixels

-- after Ok the numbers hold the pixels; otherwise this is why the record stands for no n pixels
abbrev pub Decodes : {X : Type 0} → Codec → ℕ → Place2 → ℕ → ℕ → List ℕ → List ℤ → Result X TileFault → Type 0
Decodes codec bits place total n bytes numbers result =
    MatchResult result (λ _. MeansPixels codec bits place total n bytes numbers) (λ why. IsFault codec bits place total bytes n why)
