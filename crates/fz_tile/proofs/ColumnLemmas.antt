-- The bytes of a tile fill elements of its column.
use Rattle.std.proofs.Common.{◌≡◌, ℕ, ◌*◌, ◌/◌, ◌%◌, ◌^◌, ◌≤◌, false, ℤ, pos, List, length, replicate, Some, inl, inr, refl, sym, subst, ap, ◌∙◌, arith, length-append}
use Rattle.std.proofs.lemmas.Bool.{cases_lt}
use Rattle.fz_rice.specs.Producer.{rice_bytes}
use Rattle.fz_rice.specs.Laws.{HasCodeBytes}
use Rattle.fz_plio.specs.Laws.{TestsRange, MeansItsNumbers}
use Rattle.fz_plio.specs.Meaning.{IsRefused, IsLineList}
use Rattle.fz_plio.specs.Producer.{can_hold_all}
use Rattle.fz_tile.specs.declared.codec.Codec.{Codec}
use Rattle.fz_tile.specs.declared.codec.Codec.TheVariants.{Rice, Plio, Plain}
use Rattle.fz_tile.specs.declared.coded.Place2.TheVariants.{Coded}
use Rattle.fz_tile.specs.Plain.{plain_bytes}
use Rattle.fz_tile.specs.Codecs.{CanWrite}
use Rattle.fz_tile.specs.TileCode.{TileCode, code_of, tile_code, element_len, AreElements}
use Rattle.fz_tile.proofs.PixelLemmas.{IsSize, by_size, size_of}
use Rattle.fz_tile.proofs.PlainLemmas.{length-plain}
use Rattle.fz_tile.proofs.CodeLemmas.{same_some}
use Rattle.fz_tile.proofs.RecordLemmas.{width_of}
use Rattle.fz_tile.proofs.EncodeLemmas.{can_read, plain_some}
use Rattle.fz_tile.proofs.LawLemmas.{shorter_cases, line_means}

-- a lawful list is some words
line_whole : (n : ℕ) (bytes : List ℕ) (xs : List ℤ) → IsLineList n bytes xs → length bytes % 2 ≡ 0
line_whole n bytes xs line = elim (cases_lt (length bytes % 2) 1) [
  | inl even ↦ omega (arith, even)
  | inr odd ↦ absurd (line.lawful (IsRefused.odd (omega (arith, odd))))
]

line_some : (n : ℕ) (bytes : List ℕ) (xs : List ℤ) → IsLineList n bytes xs → 1 ≤ length bytes
line_some n bytes xs line = elim (cases_lt (length bytes) 14) [
  | inl short ↦ absurd (line.lawful (IsRefused.short short))
  | inr long ↦ omega (arith, long)
]

-- plain bytes are whole pixels
plain_whole : (b n : ℕ) → IsSize b → b / 8 * n % (b / 8) ≡ 0
plain_whole b n size = by_size (λ k. k / 8 * n % (k / 8) ≡ 0) (omega arith) (omega arith) (omega arith) (omega arith) b size

module _ (tests : TestsRange) (lists : MeansItsNumbers) (codes : HasCodeBytes) where
  -- a code is some elements of its column
  code_elements : (codec : Codec) (b : ℕ) (xs : List ℤ) (bytes : List ℕ) → CanWrite codec (pos b) → length xs ≤ 2 ^ 26 → code_of codec xs ≡ Some bytes → (1 ≤ length bytes) × (length bytes % element_len codec b Coded ≡ 0)
  code_elements (Rice block bytepix) b xs bytes can few is =
      let width = width_of bytepix (can_read (Rice block bytepix) (pos b) can).codes.1 in
      let same = same_some (rice_bytes (8 * bytepix) block xs) bytes is in
      (subst (λ (l : List ℕ). 1 ≤ length l) same (codes (8 * bytepix) block xs width), omega arith)
  code_elements Plio b xs bytes can few is =
      let line = line_means tests lists xs bytes few is (can_hold_all xs) refl in
      (line_some (length xs) bytes xs line, line_whole (length xs) bytes xs line)
  code_elements Plain b xs bytes can few is = absurd (let h : ⊥ = cc in h)

  pub fills_column : (codec : Codec) (b : ℕ) (xs : List ℤ) → CanWrite codec (pos b) → 1 ≤ length xs → length xs ≤ 2 ^ 26 → AreElements codec b (length xs) (tile_code codec b xs)
  fills_column codec b xs can some few =
      let size = size_of (pos b) can.size in
      let long : length (plain_bytes b xs) ≡ b / 8 * length xs = length-plain b xs size in
      elim (shorter_cases (code_of codec xs) (plain_bytes b xs)) [
        | inl s ↦
            let parts = code_elements codec b xs s.0 can few s.1 in
            subst (λ (t : TileCode). AreElements codec b (length xs) t) (sym s.3)
            (record { some = parts.0; most = omega (arith, s.2, long); whole = parts.1 })
        | inr e ↦
            subst (λ (t : TileCode). AreElements codec b (length xs) t) (sym e)
            (record { some = omega (arith, long, plain_some b (length xs) size some); most = omega (arith, long); whole = ap (λ n. n % (b / 8)) long ∙ plain_whole b (length xs) size })
      ]
