-- What is written for a tile stands for its pixels.
use Rattle.std.proofs.Common.{◌≡◌, ℕ, ◌+◌, ◌*◌, ◌/◌, ◌^◌, ◌<◌, ◌≤◌, ◌⊎◌, Bool, true, false, ℤ, pos, List, length, replicate, Option, Some, None, inl, inr, refl, sym, subst, ap, ◌∙◌, arith}
use Rattle.std.specs.List.{All}
use Rattle.std.proofs.lemmas.Bool.{cases_lt}
use Rattle.fz_bits.specs.Bits.{bits_of}
use Rattle.fz_bits.specs.Numbers.{IsNumber}
use Rattle.fz_rice.specs.Numbers.{IsWidth}
use Rattle.fz_rice.specs.Producer.{rice_bits, rice_bytes}
use Rattle.fz_rice.specs.Prefix.{BeginsWith}
use Rattle.fz_rice.specs.Laws.{IsItsCode, HasCodeBits, HasOneReading}
use Rattle.fz_plio.specs.Producer.{InRange, can_hold_all, line_list}
use Rattle.fz_plio.specs.Meaning.{IsLineList}
use Rattle.fz_plio.specs.Laws.{TestsRange, MeansItsNumbers}
use Rattle.fz_tile.specs.declared.codec.Codec.{Codec}
use Rattle.fz_tile.specs.declared.codec.Codec.TheVariants.{Rice, Plio, Plain}
use Rattle.fz_tile.specs.declared.coded.Place2.TheVariants.{Coded, Stored}
use Rattle.fz_tile.specs.Plain.{plain_bytes}
use Rattle.fz_tile.specs.Codecs.{CanWrite}
use Rattle.fz_tile.specs.Record.{rice, MeansIn, Means, IsRecord}
use Rattle.fz_tile.specs.TileCode.{TileCode, code_of, shorter, tile_code}
use Rattle.fz_tile.proofs.PixelLemmas.{IsSize, by_size, size_of}
use Rattle.fz_tile.proofs.PlainLemmas.{length-plain}
use Rattle.fz_tile.proofs.CodeLemmas.{same_some, can_hold, cannot_hold}
use Rattle.fz_tile.proofs.RecordLemmas.{width_of, one_record}
use Rattle.fz_tile.proofs.EncodeLemmas.{can_read, plain_most, shorter-code, shorter-plain}

-- the code is shorter, or the plain bytes stand
pub shorter_cases : (code : Option (List ℕ)) (plain : List ℕ) → ((bytes : List ℕ) × (code ≡ Some bytes) × (length bytes < length plain) × (shorter code plain ≡ record { place = Coded; bytes = bytes })) ⊎ (shorter code plain ≡ record { place = Stored; bytes = plain })
shorter_cases None plain = inr refl
shorter_cases (Some code) plain = elim (cases_lt (length code) (length plain)) [
  | inl less ↦ inl (code, refl, less, shorter-code code plain less)
  | inr more ↦ inr (shorter-plain (Some code) plain (λ bytes e. subst (λ (l : List ℕ). length plain ≤ length l) (same_some code bytes e) more))
]

-- a writer's width is BITPIX
width_is : (b bytepix : ℕ) → IsSize b → bytepix ≡ b / 8 → b ≡ 8 * bytepix
width_is b bytepix size is = by_size (λ k. bytepix ≡ k / 8 → k ≡ 8 * bytepix) (λ e. omega (arith, e)) (λ e. omega (arith, e)) (λ e. omega (arith, e)) (λ e. omega (arith, e)) b size is

rice_means : IsItsCode → HasCodeBits → (w block : ℕ) (xs : List ℤ) → IsWidth w → 1 ≤ block → All (IsNumber w) xs → (bytes : ℕ) × BeginsWith w block xs bytes (bits_of (rice_bytes w block xs))
rice_means codes bits w block xs is some fits =
    let code = codes w block xs is some fits in
    ((length (rice_bits w block xs) + 7) / 8, record { code = rice_bits w block xs; rest = code.1.0; is_code = code.0; is = bits w block xs ∙ code.1.1; len = refl })

module _ (tests : TestsRange) (lists : MeansItsNumbers) where
  pub line_means : (xs : List ℤ) (bytes : List ℕ) → length xs ≤ 2 ^ 26 → code_of Plio xs ≡ Some bytes → (all : Bool) → can_hold_all xs ≡ all → IsLineList (length xs) bytes xs
  line_means xs bytes few is true holds =
      let fits : All InRange xs = (tests xs).0 holds in
      subst (λ (l : List ℕ). IsLineList (length xs) l xs) (same_some (line_list xs) bytes (sym (can_hold tests xs fits) ∙ is)) (lists xs few fits)
  line_means xs bytes few is false lacks = absurd (cannot_hold xs (rw lacks refl) bytes is)

module _ (tests : TestsRange) (lists : MeansItsNumbers) (codes : IsItsCode) (bits : HasCodeBits) where
  -- the code of pixels means them
  code_means : (codec : Codec) (b total : ℕ) (xs : List ℤ) (bytes : List ℕ) → CanWrite codec (pos b) → length xs ≤ 2 ^ 26 → All (IsNumber b) xs → code_of codec xs ≡ Some bytes → Means codec b Coded total bytes xs
  code_means (Rice block bytepix) b total xs bytes can few fits is =
      let width = width_of bytepix (can_read (Rice block bytepix) (pos b) can).codes.1 in
      let same = width_is b bytepix (size_of (pos b) can.size) can.codes.1 in
      subst (λ (l : List ℕ). MeansIn (rice (8 * bytepix) block) b total l xs) (same_some (rice_bytes (8 * bytepix) block xs) bytes is)
      (rice_means codes bits (8 * bytepix) block xs width can.codes.0.0 (subst (λ (w : ℕ). All (IsNumber w) xs) same fits))
  code_means Plio b total xs bytes can few fits is = line_means tests lists xs bytes few is (can_hold_all xs) refl
  code_means Plain b total xs bytes can few fits is = absurd (let h : ⊥ = cc in h)

  -- what is written for a tile is a record of its pixels
  pub tile_code_holds : (codec : Codec) (b : ℕ) (xs : List ℤ) → CanWrite codec (pos b) → 1 ≤ length xs → length xs ≤ 2 ^ 26 → All (IsNumber b) xs →
      IsRecord codec b (tile_code codec b xs).place (length (tile_code codec b xs).bytes) (tile_code codec b xs).bytes xs
  tile_code_holds codec b xs can some few fits =
      let size = size_of (pos b) can.size in
      let plain_list = plain_bytes b xs in
      let long : length plain_list ≡ b / 8 * length xs = length-plain b xs size in
      let most = plain_most b (length xs) size in
      let narrow : b ≡ 64 → codec ≡ Plain = λ e. can.plain (ap pos e) in
      elim (shorter_cases (code_of codec xs) plain_list) [
        | inl s ↦
            subst (λ (t : TileCode). IsRecord codec b t.place (length t.bytes) t.bytes xs) (sym s.3)
            (record { plain = narrow; pixels = fits; len = omega (arith, s.2); meaning = code_means codec b (length s.0) xs s.0 can few fits s.1 })
        | inr e ↦
            subst (λ (t : TileCode). IsRecord codec b t.place (length t.bytes) t.bytes xs) (sym e)
            (record { plain = narrow; pixels = fits; len = omega arith; meaning = (long, refl) })
      ]

  -- and of no others
  pub tile_code_alone : HasOneReading → (codec : Codec) (b : ℕ) (xs ys : List ℤ) → CanWrite codec (pos b) → 1 ≤ length xs → length xs ≤ 2 ^ 26 → All (IsNumber b) xs → length ys ≡ length xs →
      IsRecord codec b (tile_code codec b xs).place (length (tile_code codec b xs).bytes) (tile_code codec b xs).bytes ys → ys ≡ xs
  tile_code_alone readings codec b xs ys can some few fits same other =
      let code = tile_code codec b xs in
      one_record readings codec b (length code.bytes) code.place code.bytes xs ys (can_read codec (pos b) can) same (tile_code_holds codec b xs can some few fits) other
