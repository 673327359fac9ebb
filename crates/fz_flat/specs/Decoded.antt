-- A record that was decoded: it stands for pixels, which some numbers hold, or for none (FITS 4.0, sections 10.1.3 and 10.4).
use Rattle.std.specs.Prelude.{ℕ, ◌≡◌, ℤ, List, length, Result}
use Rattle.std.specs.Result.{MatchResult}
use Rattle.fz_table.specs.declared.record.Record.{Record}
use Rattle.fz_tile.specs.Pixels.{HoldPixels}
use Rattle.fz_tile.specs.Record.{IsRecord}
use Rattle.fz_tile.specs.Refusals.{IsFault}
use Rattle.fz_tile.specs.declared.fault.TileFault.{TileFault}
use Rattle.fz_head.specs.declared.plan.Plan.{Plan}
use Rattle.fz_flat.specs.Tiles.{pixel_bits, place_in}

-- these bytes of a record stand for n pixels, which these numbers hold
pub record MeansPixels (p : Plan) (found : Record) (bytes : List ℕ) (n : ℕ) (numbers : List ℤ) : Type 0 where
  pub pixels : List ℤ
  pub count : length pixels ≡ n
  pub are : IsRecord p.codec (pixel_bits p) (place_in found.column) found.total bytes pixels
  pub hold : HoldPixels (pixel_bits p) numbers pixels

-- after Ok the numbers hold the pixels; otherwise this is why the record stands for no n pixels
abbrev pub Decodes : {X : Type 0} → Plan → Record → List ℕ → ℕ → List ℤ → Result X TileFault → Type 0
Decodes p found bytes n numbers result =
    MatchResult result (λ _. MeansPixels p found bytes n numbers)
    (λ why. IsFault p.codec (pixel_bits p) (place_in found.column) found.total bytes n why)
