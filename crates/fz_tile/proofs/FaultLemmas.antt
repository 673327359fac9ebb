-- A refusal comes for one reason, and only where a record stands for no pixels.
use Rattle.std.proofs.Common.{◌≡◌, ◌≢◌, ℕ, ◌+◌, ◌*◌, ◌/◌, ◌<◌, ◌≤◌, ℤ, List, length, inl, inr, refl, sym, subst, ap, ◌∙◌, arith}
use Rattle.std.proofs.lemmas.Bool.{cases_lt}
use Rattle.std.specs.List.{All}
use Rattle.fz_bits.specs.Bits.{bits_of}
use Rattle.fz_bits.specs.Numbers.{IsNumber}
use Rattle.fz_rice.specs.Numbers.{IsWidth}
use Rattle.fz_rice.specs.Prefix.{BeginsWith, BeginsWithCode, IsBeginning}
use Rattle.fz_rice.specs.Laws.{HasOneReading, IsNoBeginning}
use Rattle.fz_plio.specs.Meaning.{IsLineList}
use Rattle.fz_tile.specs.declared.codec.Codec.{Codec}
use Rattle.fz_tile.specs.declared.codec.Codec.TheVariants.{Rice, Plio, Plain}
use Rattle.fz_tile.specs.declared.coded.Place2.{Place2}
use Rattle.fz_tile.specs.declared.coded.Place2.TheVariants.{Coded, Stored}
use Rattle.fz_tile.specs.declared.fault.TileFault.{TileFault}
use Rattle.fz_tile.specs.declared.fault.TileFault.TheVariants.{CodeShort, CodeValue}
use Rattle.fz_tile.specs.Codecs.{ReadsCodes}
use Rattle.fz_tile.specs.Record.{Means}
use Rattle.fz_tile.specs.Refusals.{IsPlainFault, IsRiceFault, short, cut, unlawful, out_of_range, IsLineFault, refused, outside, IsFault}
use Rattle.fz_tile.proofs.RecordLemmas.{width_of, one_line}

module _ (readings : HasOneReading) (beginnings : IsNoBeginning) where
  -- ---- a Rice code

  rice_refuses : (w block b total n : ℕ) (read : List ℕ) (xs : List ℤ) (bytes : ℕ) (e : TileFault) → IsWidth w → 1 ≤ block → length xs ≡ n → All (IsNumber b) xs → BeginsWith w block xs bytes (bits_of read) → IsRiceFault w block b total n read e → ⊥
  rice_refuses w block b total n read xs bytes e is some len fits r (short a c d) = beginnings w block n (bits_of read) is some (xs, bytes, len, r) c
  rice_refuses w block b total n read xs bytes e is some len fits r (cut a c d) = beginnings w block n (bits_of read) is some (xs, bytes, len, r) c
  rice_refuses w block b total n read xs bytes e is some len fits r (unlawful a c d) = c (xs, bytes, len, r)
  rice_refuses w block b total n read xs bytes e is some len fits r (out_of_range a ys more l q o) =
      o (subst (All (IsNumber b)) (readings w block ys xs more bytes (bits_of read) is some (len ∙ sym l) q r).0 fits)

  same_rice : (w block b total n : ℕ) (read : List ℕ) (e e' : TileFault) → IsWidth w → 1 ≤ block → IsRiceFault w block b total n read e → IsRiceFault w block b total n read e' → e ≡ e'
  same_rice w block b total n read e e' is some (short a c d) (short a' c' d') = a ∙ sym a'
  same_rice w block b total n read e e' is some (short a c d) (cut a' c' d') = absurd (omega (arith, d, d'))
  same_rice w block b total n read e e' is some (short a c d) (unlawful a' c' d') = absurd (d' c)
  same_rice w block b total n read e e' is some (short a c d) (out_of_range a' ys more l q o) = absurd (beginnings w block n (bits_of read) is some (ys, more, l, q) c)
  same_rice w block b total n read e e' is some (cut a c d) (short a' c' d') = absurd (omega (arith, d, d'))
  same_rice w block b total n read e e' is some (cut a c d) (cut a' c' d') = a ∙ sym a'
  same_rice w block b total n read e e' is some (cut a c d) (unlawful a' c' d') = a ∙ sym a'
  same_rice w block b total n read e e' is some (cut a c d) (out_of_range a' ys more l q o) = absurd (beginnings w block n (bits_of read) is some (ys, more, l, q) c)
  same_rice w block b total n read e e' is some (unlawful a c d) (short a' c' d') = absurd (d c')
  same_rice w block b total n read e e' is some (unlawful a c d) (cut a' c' d') = a ∙ sym a'
  same_rice w block b total n read e e' is some (unlawful a c d) (unlawful a' c' d') = a ∙ sym a'
  same_rice w block b total n read e e' is some (unlawful a c d) (out_of_range a' ys more l q o) = absurd (c (ys, more, l, q))
  same_rice w block b total n read e e' is some (out_of_range a ys more l q o) (short a' c' d') = absurd (beginnings w block n (bits_of read) is some (ys, more, l, q) c')
  same_rice w block b total n read e e' is some (out_of_range a ys more l q o) (cut a' c' d') = absurd (beginnings w block n (bits_of read) is some (ys, more, l, q) c')
  same_rice w block b total n read e e' is some (out_of_range a ys more l q o) (unlawful a' c' d') = absurd (c' (ys, more, l, q))
  same_rice w block b total n read e e' is some (out_of_range a ys more l q o) (out_of_range a' zs more' l' q' o') = a ∙ sym a'

  -- ---- a line list

  line_refuses : (b n : ℕ) (read : List ℕ) (xs : List ℤ) (e : TileFault) → All (IsNumber b) xs → IsLineList n read xs → IsLineFault b n read e → ⊥
  line_refuses b n read xs e fits line (refused a r) = line.lawful r
  line_refuses b n read xs e fits line (outside a ys l q o) = o (subst (All (IsNumber b)) (one_line n read ys xs q line) fits)

  same_line : (b n : ℕ) (read : List ℕ) (e e' : TileFault) → IsLineFault b n read e → IsLineFault b n read e' → e ≡ e'
  same_line b n read e e' (refused a r) (refused a' r') = a ∙ sym a'
  same_line b n read e e' (refused a r) (outside a' ys l q o) = absurd (q.lawful r)
  same_line b n read e e' (outside a ys l q o) (refused a' r') = absurd (q.lawful r')
  same_line b n read e e' (outside a ys l q o) (outside a' zs l' q' o') = a ∙ sym a'

  -- ---- all of them

  pub same_fault : (codec : Codec) (b total n : ℕ) (place : Place2) (read : List ℕ) (e e' : TileFault) → ReadsCodes codec → IsFault codec b place total read n e → IsFault codec b place total read n e' → e ≡ e'
  same_fault codec b total n Stored read e e' can f f' = f.kind ∙ sym f'.kind
  same_fault (Rice block bytepix) b total n Coded read e e' can f f' = same_rice (8 * bytepix) block b total n read e e' (width_of bytepix can.1) can.0.0 f f'
  same_fault Plio b total n Coded read e e' can f f' = same_line b n read e e' f f'
  same_fault Plain b total n Coded read e e' can f f' = f.kind ∙ sym f'.kind

  pub refuses : (codec : Codec) (b total n : ℕ) (place : Place2) (read : List ℕ) (xs : List ℤ) (e : TileFault) → ReadsCodes codec → length xs ≡ n → All (IsNumber b) xs → Means codec b place total read xs → IsFault codec b place total read n e → ⊥
  refuses codec b total n Stored read xs e can len fits m f = f.size (m.0 ∙ ap (λ k. b / 8 * k) len)
  refuses (Rice block bytepix) b total n Coded read xs e can len fits m f = rice_refuses (8 * bytepix) block b total n read xs m.0 e (width_of bytepix can.1) can.0.0 len fits m.1 f
  refuses Plio b total n Coded read xs e can len fits m f = line_refuses b n read xs e fits (subst (λ (k : ℕ). IsLineList k read xs) len m) f
  refuses Plain b total n Coded read xs e can len fits m f = f.size (m.0 ∙ ap (λ k. b / 8 * k) len)

-- a code that ends early is refused by whether the record was read whole
pub cut_code : (w block b total n : ℕ) (read : List ℕ) (e : TileFault) → IsBeginning w block n (bits_of read) →
    (total ≤ 8 * n + 64 → e ≡ CodeShort) → (8 * n + 64 < total → e ≡ CodeValue) → IsRiceFault w block b total n read e
cut_code w block b total n read e begins whole_is more_is = elim (cases_lt (8 * n + 64) total) [
  | inl more ↦ cut (more_is more) begins more
  | inr whole ↦ short (whole_is whole) begins whole
]
