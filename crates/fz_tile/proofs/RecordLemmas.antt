-- A record stands for one list of pixels.
use Rattle.std.proofs.Common.{◌≡◌, ℕ, ◌*◌, ◌≤◌, ◌⊎◌, ℤ, pos, List, length, Ok, inl, inr, refl, sym, subst, ap, ◌∙◌, arith}
use Rattle.std.specs.List.{All}
use Rattle.fz_bits.specs.Bits.{bits_of}
use Rattle.fz_bits.specs.Numbers.{IsNumber}
use Rattle.fz_rice.specs.Numbers.{IsWidth}
use Rattle.fz_rice.specs.Laws.{HasOneReading}
use Rattle.fz_plio.specs.Meaning.{IsLineList}
use Rattle.fz_tile.specs.declared.codec.Codec.{Codec}
use Rattle.fz_tile.specs.declared.codec.Codec.TheVariants.{Rice, Plio, Plain}
use Rattle.fz_tile.specs.declared.coded.Place2.{Place2}
use Rattle.fz_tile.specs.declared.coded.Place2.TheVariants.{Coded, Stored}
use Rattle.fz_tile.specs.Plain.{plain_bytes, stored_pixels}
use Rattle.fz_tile.specs.Codecs.{CanRead, ReadsCodes}
use Rattle.fz_tile.specs.Record.{IsStored, Means, IsRecord}
use Rattle.fz_tile.proofs.PixelLemmas.{IsSize, size_of}
use Rattle.fz_tile.proofs.PlainLemmas.{stored-plain}

-- BYTEPIX 1, 2 and 4 are the widths 8, 16 and 32
pub width_of : (bytepix : ℕ) → (bytepix ≡ 1) ⊎ ((bytepix ≡ 2) ⊎ (bytepix ≡ 4)) → IsWidth (8 * bytepix)
width_of bytepix is = elim is [
  | inl e ↦ inl (ap (λ k. 8 * k) e)
  | inr f ↦ elim f [ inl e ↦ inr (inl (ap (λ k. 8 * k) e)) | inr e ↦ inr (inr (ap (λ k. 8 * k) e)) ]
]

one_stored : (b total : ℕ) (read : List ℕ) (xs ys : List ℤ) → IsSize b → length ys ≡ length xs → All (IsNumber b) xs → All (IsNumber b) ys → IsStored b total read xs → IsStored b total read ys → ys ≡ xs
one_stored b total read xs ys size same fits fits' x y =
    sym (stored-plain b ys size fits')
    ∙ ap (stored_pixels b (length ys)) (sym y.1 ∙ x.1)
    ∙ ap (λ n. stored_pixels b n (plain_bytes b xs)) same
    ∙ stored-plain b xs size fits

pub one_line : (n : ℕ) (read : List ℕ) (xs ys : List ℤ) → IsLineList n read xs → IsLineList n read ys → ys ≡ xs
one_line n read xs ys x y = y.meaning ∙ sym x.meaning

module _ (readings : HasOneReading) where
  one_meaning : (codec : Codec) (b total : ℕ) (place : Place2) (read : List ℕ) (xs ys : List ℤ) → IsSize b → ReadsCodes codec → length ys ≡ length xs → All (IsNumber b) xs → All (IsNumber b) ys → Means codec b place total read xs → Means codec b place total read ys → ys ≡ xs
  one_meaning codec b total Stored read xs ys size can same fits fits' x y = one_stored b total read xs ys size same fits fits' x y
  one_meaning (Rice block bytepix) b total Coded read xs ys size can same fits fits' x y = (readings (8 * bytepix) block xs ys x.0 y.0 (bits_of read) (width_of bytepix can.1) can.0.0 same x.1 y.1).0
  one_meaning Plio b total Coded read xs ys size can same fits fits' x y = one_line (length xs) read xs ys x (subst (λ (n : ℕ). IsLineList n read ys) same y)
  one_meaning Plain b total Coded read xs ys size can same fits fits' x y = one_stored b total read xs ys size same fits fits' x y

  -- a record stands for one list of pixels
  pub one_record : (codec : Codec) (b total : ℕ) (place : Place2) (read : List ℕ) (xs ys : List ℤ) → CanRead codec (pos b) → length ys ≡ length xs → IsRecord codec b place total read xs → IsRecord codec b place total read ys → ys ≡ xs
  one_record codec b total place read xs ys can same x y =
      one_meaning codec b total place read xs ys (size_of (pos b) can.size) can.codes same x.pixels y.pixels x.meaning y.meaning
