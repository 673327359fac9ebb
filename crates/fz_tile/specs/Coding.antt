-- What the parts of the two calls do.
use Rattle.std.specs.Prelude.{◌≡◌, ℕ, ◌*◌, ◌^◌, ◌<◌, ◌≤◌, ⊤, ℤ, List, length, take, All, Option, Some, Result, MatchOption, MatchResult}
use Rattle.fz_bits.specs.Bits.{bits_of}
use Rattle.fz_bits.specs.Numbers.{IsNumber}
use Rattle.fz_rice.specs.Numbers.{IsWidth}
use Rattle.fz_rice.specs.Prefix.{BeginsWith}
use Rattle.fz_tile.specs.declared.codec.Codec.{Codec}
use Rattle.fz_tile.specs.declared.codec.Codec.TheVariants.{Rice, Plio, Plain}
use Rattle.fz_tile.specs.declared.coded.Place2.{Place2}
use Rattle.fz_tile.specs.declared.fault.TileFault.{TileFault}
use Rattle.fz_tile.specs.Pixels.{HoldPixels}
use Rattle.fz_tile.specs.Codecs.{IsBlock}
use Rattle.fz_tile.specs.Record.{IsRecord}
use Rattle.fz_tile.specs.Refusals.{IsFault, IsRiceFault}

-- the codec's code can be tried on the numbers
abbrev pub CanTry : Codec → List ℤ → Type 0
CanTry (Rice block bytepix) numbers = IsBlock block × IsWidth (8 * bytepix) × (1 ≤ length numbers) × All (IsNumber (8 * bytepix)) numbers
CanTry Plio numbers = length numbers ≤ 2 ^ 26
CanTry Plain numbers = ⊤

-- the code is at the front of `out`; if it is not, there is none or it is longer than `out`
abbrev pub Tries : Option (List ℕ) → List ℕ → Option ℕ → Type 0
Tries code out written = MatchOption written
    ((bytes : List ℕ) → code ≡ Some bytes → length out < length bytes)
    (λ len. (len ≤ length out) × (code ≡ Some (take len out)))

-- the numbers of a Rice code were read, or it is refused; the range of BITPIX is looked at later
abbrev pub ReadsRice : ℕ → ℕ → ℕ → List ℕ → ℕ → Result (Unit {0}) TileFault → List ℤ → Type 0
ReadsRice width block total read n result numbers = MatchResult result
    (λ _. (bytes : ℕ) × BeginsWith width block numbers bytes (bits_of read))
    (λ fault. (bitpix : ℕ) → IsRiceFault width block bitpix total n read fault)

-- the pixels of a record were read, or the record is refused
abbrev pub Reads : Codec → ℕ → Place2 → ℕ → List ℕ → ℕ → Result (Unit {0}) TileFault → List ℤ → Type 0
Reads codec bitpix place total read n result numbers = MatchResult result
    (λ _. (xs : List ℤ) × (length xs ≡ n) × IsRecord codec bitpix place total read xs × HoldPixels bitpix numbers xs)
    (λ fault. IsFault codec bitpix place total read n fault)
