-- From what the parts of `decode_tile` did to what it promises.
use Rattle.std.proofs.Common.{◌≡◌, ◌≢◌, ℕ, ◌*◌, ◌/◌, ◌⊎◌, ◌↔◌, ℤ, pos, List, length, Result, Ok, Err, IsOk, OnOk, MatchResult, inl, inr, refl, sym, subst, ap, ◌∙◌, arith, unsigned_abs}
use Rattle.std.specs.List.{All}
use Rattle.fz_bits.specs.Bits.{bits_of}
use Rattle.fz_bits.specs.Numbers.{IsNumber}
use Rattle.fz_rice.specs.Prefix.{BeginsWith}
use Rattle.fz_plio.specs.Meaning.{IsLineList, IsRefused}
use Rattle.fz_tile.specs.declared.codec.Codec.{Codec}
use Rattle.fz_tile.specs.declared.codec.Codec.TheVariants.{Rice, Plio, Plain}
use Rattle.fz_tile.specs.declared.coded.Place2.{Place2}
use Rattle.fz_tile.specs.declared.coded.Place2.TheVariants.{Coded, Stored}
use Rattle.fz_tile.specs.declared.fault.TileFault.{TileFault}
use Rattle.fz_tile.specs.declared.fault.TileFault.TheVariants.{LineList, PixelRange, TileSize}
use Rattle.fz_tile.specs.Pixels.{IsBitpix, pixel_count, HoldPixels}
use Rattle.fz_tile.specs.Codecs.{CanRead}
use Rattle.fz_tile.specs.Record.{IsStored, Means, IsRecord, IsRecordOf, read_len}
use Rattle.fz_tile.specs.Refusals.{IsFault, IsPlainFault, IsRiceFault, out_of_range, outside, refused, SomeOutside}
use Rattle.fz_tile.specs.Laws.{StandsUnrefused, IsRefusedOnce}
use Rattle.fz_tile.specs.Coding.{Reads}
use Rattle.fz_tile.proofs.PixelLemmas.{by_bitpix, size_of}
use Rattle.fz_tile.proofs.PlaceLemmas.{places-one, pixel_count-one}

wide_is : (bitpix : ℤ) → IsBitpix bitpix → unsigned_abs bitpix ≡ 64 → bitpix ≡ pos 64
wide_is =
    by_bitpix (λ z. unsigned_abs z ≡ 64 → z ≡ pos 64)
    (λ (f : 8 ≡ 64). absurd (omega (arith, f))) (λ (f : 16 ≡ 64). absurd (omega (arith, f))) (λ (f : 32 ≡ 64). absurd (omega (arith, f))) (λ _. refl)

-- codes are for other sizes than 64
pub other_size : (codec : Codec) (bitpix : ℤ) → CanRead codec bitpix → (codec ≡ Plain → ⊥) → unsigned_abs bitpix ≡ 64 → ⊥
other_size codec bitpix can coded wide = coded (can.plain (wide_is bitpix can.size wide))

pub rice_no_plain : (block bytepix : ℕ) → Rice block bytepix ≡ Plain → ⊥
rice_no_plain block bytepix e = cc

pub plio_no_plain : Plio ≡ Plain → ⊥
plio_no_plain e = cc

module _ (codec : Codec) (bitpix : ℤ) (total : ℕ) (read : List ℕ) (can : CanRead codec bitpix) where
  -- the numbers of a code, in range or not
  code_reads : (count : ℕ) (numbers : List ℤ) (result : Result (Unit {0}) TileFault) → (codec ≡ Plain → ⊥) →
      length read ≡ read_len (pixel_count (unsigned_abs bitpix) count) total → length numbers ≡ count →
      Means codec (unsigned_abs bitpix) Coded total read numbers →
      (SomeOutside (unsigned_abs bitpix) numbers → IsFault codec (unsigned_abs bitpix) Coded total read count PixelRange) →
      MatchResult result (λ _. All (IsNumber (unsigned_abs bitpix)) numbers) (λ fault. (fault ≡ PixelRange) × SomeOutside (unsigned_abs bitpix) numbers) →
      Reads codec (unsigned_abs bitpix) Coded total read (pixel_count (unsigned_abs bitpix) count) result numbers
  code_reads count numbers (Ok u) coded len size means out fits =
      let b = unsigned_abs bitpix in
      let other = other_size codec bitpix can coded in
      let one : pixel_count b count ≡ count = pixel_count-one b count (size_of bitpix can.size) other in
      let long : length numbers ≡ pixel_count b count = size ∙ sym one in
      (numbers, long, record { plain = λ wide. absurd (other wide); pixels = fits; len = len ∙ ap (λ n. read_len n total) (sym long); meaning = means }, record { pixels = fits; are = sym (places-one b numbers (size_of bitpix can.size) other) })
  code_reads count numbers (Err fault) coded len size means out fits =
      let b = unsigned_abs bitpix in
      let one : pixel_count b count ≡ count = pixel_count-one b count (size_of bitpix can.size) (other_size codec bitpix can coded) in
      subst (λ (n : ℕ). IsFault codec b Coded total read n fault) (sym one) (subst (IsFault codec b Coded total read count) (sym fits.0) (out fits.1))

pub rice_reads : (codec : Codec) (bitpix : ℤ) (block bytepix total count : ℕ) (read : List ℕ) (numbers : List ℤ) (result : Result (Unit {0}) TileFault) → codec ≡ Rice block bytepix → CanRead codec bitpix →
    length read ≡ read_len (pixel_count (unsigned_abs bitpix) count) total → length numbers ≡ count → (begins : (bytes : ℕ) × BeginsWith (8 * bytepix) block numbers bytes (bits_of read)) →
    MatchResult result (λ _. All (IsNumber (unsigned_abs bitpix)) numbers) (λ fault. (fault ≡ PixelRange) × SomeOutside (unsigned_abs bitpix) numbers) →
    Reads codec (unsigned_abs bitpix) Coded total read (pixel_count (unsigned_abs bitpix) count) result numbers
rice_reads codec bitpix block bytepix total count read numbers result is can len size means fits =
    subst (λ (k : Codec). CanRead k bitpix → Reads k (unsigned_abs bitpix) Coded total read (pixel_count (unsigned_abs bitpix) count) result numbers) (sym is)
    (λ can_rice. code_reads (Rice block bytepix) bitpix total read can_rice count numbers result (rice_no_plain block bytepix) len size means (λ out. out_of_range refl numbers means.0 size means.1 out) fits) can

pub line_reads : (codec : Codec) (bitpix : ℤ) (total count : ℕ) (read : List ℕ) (numbers : List ℤ) (result : Result (Unit {0}) TileFault) → codec ≡ Plio → CanRead codec bitpix →
    length read ≡ read_len (pixel_count (unsigned_abs bitpix) count) total → length numbers ≡ count → IsLineList count read numbers →
    MatchResult result (λ _. All (IsNumber (unsigned_abs bitpix)) numbers) (λ fault. (fault ≡ PixelRange) × SomeOutside (unsigned_abs bitpix) numbers) →
    Reads codec (unsigned_abs bitpix) Coded total read (pixel_count (unsigned_abs bitpix) count) result numbers
line_reads codec bitpix total count read numbers result is can len size means fits =
    subst (λ (k : Codec). CanRead k bitpix → Reads k (unsigned_abs bitpix) Coded total read (pixel_count (unsigned_abs bitpix) count) result numbers) (sym is)
    (λ can_line. code_reads Plio bitpix total read can_line count numbers result plio_no_plain len size (subst (λ (k : ℕ). IsLineList k read numbers) (sym size) means) (λ out. outside refl numbers size means out) fits) can

-- a refusal of a code
pub rice_refused : (codec : Codec) (bitpix : ℤ) (block bytepix total count : ℕ) (read : List ℕ) (fault : TileFault) → codec ≡ Rice block bytepix → CanRead codec bitpix →
    IsRiceFault (8 * bytepix) block (unsigned_abs bitpix) total count read fault → IsFault codec (unsigned_abs bitpix) Coded total read (pixel_count (unsigned_abs bitpix) count) fault
rice_refused codec bitpix block bytepix total count read fault is can f =
    let b = unsigned_abs bitpix in
    let other = other_size codec bitpix can (λ e. rice_no_plain block bytepix (sym is ∙ e)) in
    subst (λ (n : ℕ). IsFault codec b Coded total read n fault) (sym (pixel_count-one b count (size_of bitpix can.size) other))
    (subst (λ (k : Codec). IsFault k b Coded total read count fault) (sym is) f)

pub line_refused : (codec : Codec) (bitpix : ℤ) (total count : ℕ) (read : List ℕ) (fault : TileFault) → codec ≡ Plio → CanRead codec bitpix →
    fault ≡ LineList → IsRefused count read → IsFault codec (unsigned_abs bitpix) Coded total read (pixel_count (unsigned_abs bitpix) count) fault
line_refused codec bitpix total count read fault is can e f =
    let b = unsigned_abs bitpix in
    let other = other_size codec bitpix can (λ g. plio_no_plain (sym is ∙ g)) in
    subst (λ (n : ℕ). IsFault codec b Coded total read n fault) (sym (pixel_count-one b count (size_of bitpix can.size) other))
    (subst (λ (k : Codec). IsFault k b Coded total read count fault) (sym is) (refused e f))

-- a refusal that was handed on
pub err_reads : (codec : Codec) (b total n : ℕ) (place : Place2) (read : List ℕ) (numbers : List ℤ) (result : Result (Unit {0}) TileFault) (fault : TileFault) → result ≡ Err fault →
    IsFault codec b place total read n fault → Reads codec b place total read n result numbers
err_reads codec b total n place read numbers result fault is f = subst (λ (r : Result (Unit {0}) TileFault). Reads codec b place total read n r numbers) (sym is) f

-- a tile that stands as plain bytes
abbrev pub IsPlain : Codec → Place2 → Type 0
IsPlain codec place = (place ≡ Stored) ⊎ ((place ≡ Coded) × (codec ≡ Plain))

plain_means : (codec : Codec) (b total : ℕ) (place : Place2) (read : List ℕ) (xs : List ℤ) → IsPlain codec place → IsStored b total read xs → Means codec b place total read xs
plain_means codec b total place read xs is stored = elim is [
  | inl e ↦ subst (λ (p : Place2). Means codec b p total read xs) (sym e) stored
  | inr f ↦ subst (λ (p : Place2). Means codec b p total read xs) (sym f.0) (subst (λ (k : Codec). Means k b Coded total read xs) (sym f.1) stored)
]

plain_refused : (codec : Codec) (b total n : ℕ) (place : Place2) (read : List ℕ) → IsPlain codec place → total ≢ b / 8 * n → IsFault codec b place total read n TileSize
plain_refused codec b total n place read is size = let other : IsPlainFault b total n TileSize = record { kind = refl; size = size } in elim is [
  | inl e ↦ subst (λ (p : Place2). IsFault codec b p total read n TileSize) (sym e) other
  | inr f ↦ subst (λ (p : Place2). IsFault codec b p total read n TileSize) (sym f.0) (subst (λ (k : Codec). IsFault k b Coded total read n TileSize) (sym f.1) other)
]

pub stored_reads : (codec : Codec) (bitpix : ℤ) (place : Place2) (total n : ℕ) (read : List ℕ) (numbers : List ℤ) (result : Result (Unit {0}) TileFault) → CanRead codec bitpix →
    IsPlain codec place → length read ≡ read_len n total →
    MatchResult result (λ _. (xs : List ℤ) × (length xs ≡ n) × IsStored (unsigned_abs bitpix) total read xs × HoldPixels (unsigned_abs bitpix) numbers xs) (λ fault. (fault ≡ TileSize) × (total ≢ unsigned_abs bitpix / 8 * n)) →
    Reads codec (unsigned_abs bitpix) place total read n result numbers
stored_reads codec bitpix place total n read numbers (Ok u) can is len facts =
    let xs = facts.0 in
    let b = unsigned_abs bitpix in (
      xs,
      facts.1,
      record {
        plain = λ wide. can.plain (wide_is bitpix can.size wide);
        pixels = facts.3.pixels;
        len = len ∙ ap (λ k. read_len k total) (sym facts.1);
        meaning = plain_means codec b total place read xs is facts.2;
      },
      facts.3,
    )
stored_reads codec bitpix place total n read numbers (Err fault) can is len facts =
    let b = unsigned_abs bitpix in
    subst (IsFault codec b place total read n) (sym facts.0) (plain_refused codec b total n place read is facts.1)

-- BITPIX as a natural number
can_natural : (codec : Codec) (bitpix : ℤ) → CanRead codec bitpix → CanRead codec (pos (unsigned_abs bitpix))
can_natural codec bitpix can = by_bitpix (λ z. CanRead codec z → CanRead codec (pos (unsigned_abs z))) (λ c. c) (λ c. c) (λ c. c) (λ c. c) bitpix can.size can

-- the three clauses
pub pixels_clause : (codec : Codec) (b total n : ℕ) (place : Place2) (read : List ℕ) (numbers : List ℤ) (result : Result (Unit {0}) TileFault) → Reads codec b place total read n result numbers →
    OnOk result ((xs : List ℤ) × (length xs ≡ n) × IsRecord codec b place total read xs × HoldPixels b numbers xs)
pixels_clause codec b total n place read numbers (Ok u) r = r
pixels_clause codec b total n place read numbers (Err e) r = tt

module _ (stands : StandsUnrefused) (once : IsRefusedOnce) where
  pub ok_clause : (codec : Codec) (bitpix : ℤ) (total n : ℕ) (place : Place2) (read : List ℕ) (numbers : List ℤ) (result : Result (Unit {0}) TileFault) → CanRead codec bitpix → Reads codec (unsigned_abs bitpix) place total read n result numbers →
      IsOk result ↔ IsRecordOf codec (unsigned_abs bitpix) place total read n
  ok_clause codec bitpix total n place read numbers (Ok u) can r = (λ _. (r.0, r.1, r.2), λ _. refl)
  ok_clause codec bitpix total n place read numbers (Err e) can r =
      (λ ok. absurd (let h : ⊥ = cc in h), λ rec. absurd (stands codec (unsigned_abs bitpix) total n place read e (can_natural codec bitpix can) rec r))

  pub fault_clause : (codec : Codec) (bitpix : ℤ) (total n : ℕ) (place : Place2) (read : List ℕ) (numbers : List ℤ) (result : Result (Unit {0}) TileFault) → CanRead codec bitpix → Reads codec (unsigned_abs bitpix) place total read n result numbers →
      (fault : TileFault) → (result ≡ Err fault) ↔ IsFault codec (unsigned_abs bitpix) place total read n fault
  fault_clause codec bitpix total n place read numbers (Ok u) can r fault =
      (λ same. absurd (let h : ⊥ = cc in h), λ f. absurd (stands codec (unsigned_abs bitpix) total n place read fault (can_natural codec bitpix can) (r.0, r.1, r.2) f))
  fault_clause codec bitpix total n place read numbers (Err e) can r fault = (
    λ same. let h : e ≡ fault = cc in subst (IsFault codec (unsigned_abs bitpix) place total read n) h r,
    λ f. ap (λ (x : TileFault). Err x) (once codec (unsigned_abs bitpix) total n place read fault e (can_natural codec bitpix can) f r),
  )
