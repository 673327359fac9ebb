-- From what the parts of `encode_tile` did to what it promises.
use Rattle.std.proofs.Common.{◌≡◌, ℕ, ◌+◌, ◌-◌, ◌*◌, ◌/◌, ◌<◌, ◌≤◌, ◌⊎◌, nat_lt, true, false, ℤ, pos, List, ◌++◌, length, take, Option, Some, None, inl, inr, refl, sym, subst, ap, ◌∙◌, arith, unsigned_abs, length-append}
use Rattle.std.proofs.lemmas.List.{take_at, take-append-le, length-take-le}
use Rattle.std.proofs.lemmas.Bool.Decides.{nat_tests}
use Rattle.fz_tile.specs.declared.codec.Codec.{Codec}
use Rattle.fz_tile.specs.declared.codec.Codec.TheVariants.{Rice, Plio, Plain}
use Rattle.fz_tile.specs.declared.coded.Place2.TheVariants.{Coded, Stored}
use Rattle.fz_tile.specs.Plain.{plain_bytes}
use Rattle.fz_tile.specs.Pixels.{IsBitpix, pixel_count, HoldPixels}
use Rattle.fz_tile.specs.Codecs.{CanRead, CanWrite, ReadsCodes, WritesCodes}
use Rattle.fz_tile.specs.TileCode.{TileCode, code_of, shorter, tile_code, IsWritten}
use Rattle.fz_tile.proofs.PixelLemmas.{IsSize, by_size, by_bitpix, size_of}
use Rattle.fz_tile.proofs.PlainLemmas.{length-plain}
use Rattle.fz_tile.proofs.PlaceLemmas.{places-one, pixel_count-hold}
use Rattle.fz_tile.proofs.DecodeLemmas.{other_size, rice_no_plain, plio_no_plain}

bytepix_of : (bitpix : ℤ) (bytepix : ℕ) → IsBitpix bitpix → (bitpix ≡ pos 64 → ⊥) → bytepix ≡ unsigned_abs bitpix / 8 → (bytepix ≡ 1) ⊎ ((bytepix ≡ 2) ⊎ (bytepix ≡ 4))
bytepix_of bitpix bytepix size narrow is =
    by_bitpix (λ z. (z ≡ pos 64 → ⊥) → bytepix ≡ unsigned_abs z / 8 → (bytepix ≡ 1) ⊎ ((bytepix ≡ 2) ⊎ (bytepix ≡ 4)))
    (λ _ e. inl e) (λ _ e. inr (inl e)) (λ _ e. inr (inr e)) (λ f _. absurd (f refl)) bitpix size narrow is

-- what can be written can be read
writes_reads : (codec : Codec) (bitpix : ℤ) → IsBitpix bitpix → (bitpix ≡ pos 64 → codec ≡ Plain) → WritesCodes codec (unsigned_abs bitpix) → ReadsCodes codec
writes_reads (Rice block bytepix) bitpix size plain codes = (codes.0, bytepix_of bitpix bytepix size (λ e. rice_no_plain block bytepix (plain e)) codes.1)
writes_reads Plio bitpix size plain codes = tt
writes_reads Plain bitpix size plain codes = tt

pub can_read : (codec : Codec) (bitpix : ℤ) → CanWrite codec bitpix → CanRead codec bitpix
can_read codec bitpix can = record { size = can.size; plain = can.plain; codes = writes_reads codec bitpix can.size can.plain can.codes }

-- a tile has some plain bytes, and at most 8 for a pixel
pub plain_some : (b n : ℕ) → IsSize b → 1 ≤ n → 1 ≤ b / 8 * n
plain_some b n size some = by_size (λ k. 1 ≤ k / 8 * n) (omega arith) (omega arith) (omega arith) (omega arith) b size

pub plain_most : (b n : ℕ) → IsSize b → b / 8 * n ≤ 8 * n
plain_most b n size = by_size (λ k. k / 8 * n ≤ 8 * n) (omega arith) (omega arith) (omega arith) (omega arith) b size

-- the code of the places is that of the pixels
code_of-numbers : (codec : Codec) (bitpix : ℤ) (numbers xs : List ℤ) → CanWrite codec bitpix → HoldPixels (unsigned_abs bitpix) numbers xs → code_of codec numbers ≡ code_of codec xs
code_of-numbers Plain bitpix numbers xs can hold = refl
code_of-numbers (Rice block bytepix) bitpix numbers xs can hold =
    ap (code_of (Rice block bytepix)) (hold.are ∙ places-one (unsigned_abs bitpix) xs (size_of bitpix can.size) (other_size (Rice block bytepix) bitpix (can_read (Rice block bytepix) bitpix can) (rice_no_plain block bytepix)))
code_of-numbers Plio bitpix numbers xs can hold =
    ap (code_of Plio) (hold.are ∙ places-one (unsigned_abs bitpix) xs (size_of bitpix can.size) (other_size Plio bitpix (can_read Plio bitpix can) plio_no_plain))

-- the test whether a list is shorter
lt-true : (a b : ℕ) → a < b → nat_lt a b ≡ true
lt-true a b h = grind (arith, nat_tests)

lt-false : (a b : ℕ) → b ≤ a → nat_lt a b ≡ false
lt-false a b h = grind (arith, nat_tests)

pub shorter-code : (code plain : List ℕ) → length code < length plain → shorter (Some code) plain ≡ record { place = Coded; bytes = code }
shorter-code code plain less = rw (lt-true (length code) (length plain) less) refl

pub shorter-plain : (code : Option (List ℕ)) (plain : List ℕ) → ((bytes : List ℕ) → code ≡ Some bytes → length plain ≤ length bytes) → shorter code plain ≡ record { place = Stored; bytes = plain }
shorter-plain None plain more = refl
shorter-plain (Some code) plain more = rw (lt-false (length code) (length plain) (more code refl)) refl

-- the code was written, and is shorter than the plain bytes
pub code_written : (codec : Codec) (bitpix : ℤ) (numbers xs : List ℤ) (plain_len len : ℕ) (front rest : List ℕ) → CanWrite codec bitpix → HoldPixels (unsigned_abs bitpix) numbers xs →
    plain_len ≡ unsigned_abs bitpix / 8 * pixel_count (unsigned_abs bitpix) (length numbers) → 1 ≤ pixel_count (unsigned_abs bitpix) (length numbers) →
    length front ≡ plain_len - 1 → (len ≤ length front) × (code_of codec numbers ≡ Some (take len front)) →
    IsWritten (tile_code codec (unsigned_abs bitpix) xs) Coded len (front ++ rest)
code_written codec bitpix numbers xs plain_len len front rest can hold whole some room tried =
    let b = unsigned_abs bitpix in
    let size = size_of bitpix can.size in
    let code = take len front in
    let counted = pixel_count-hold b numbers xs size hold in
    let plain : length (plain_bytes b xs) ≡ plain_len = length-plain b xs size ∙ ap (λ n. b / 8 * n) (sym counted) ∙ sym whole in
    let long : length code ≡ len = length-take-le len front tried.0 in
    let less : length code < length (plain_bytes b xs) = omega (arith, plain_some b (pixel_count b (length numbers)) size some, tried.0) in
    let is : tile_code codec b xs ≡ record { place = Coded; bytes = code } = ap (λ c. shorter c (plain_bytes b xs)) (sym (code_of-numbers codec bitpix numbers xs can hold) ∙ tried.1) ∙ shorter-code code (plain_bytes b xs) less in
    subst (λ (t : TileCode). IsWritten t Coded len (front ++ rest)) (sym is)
    (record { place_is = refl; len_is = sym long; within = omega (arith, length-append front rest, tried.0); bytes_are = take-append-le len front rest tried.0 })

-- there is no code that is shorter than the plain bytes, and these were written
pub plain_written : (codec : Codec) (bitpix : ℤ) (numbers xs : List ℤ) (plain_len room : ℕ) (front rest : List ℕ) → CanWrite codec bitpix → HoldPixels (unsigned_abs bitpix) numbers xs →
    plain_len ≡ unsigned_abs bitpix / 8 * pixel_count (unsigned_abs bitpix) (length numbers) →
    room ≡ plain_len - 1 → ((bytes : List ℕ) → code_of codec numbers ≡ Some bytes → room < length bytes) → front ≡ plain_bytes (unsigned_abs bitpix) xs →
    IsWritten (tile_code codec (unsigned_abs bitpix) xs) Stored plain_len (front ++ rest)
plain_written codec bitpix numbers xs plain_len room front rest can hold whole short long written =
    let b = unsigned_abs bitpix in
    let size = size_of bitpix can.size in
    let counted = pixel_count-hold b numbers xs size hold in
    let plain : length (plain_bytes b xs) ≡ plain_len = length-plain b xs size ∙ ap (λ n. b / 8 * n) (sym counted) ∙ sym whole in
    let same = code_of-numbers codec bitpix numbers xs can hold in
    let is : tile_code codec b xs ≡ record { place = Stored; bytes = plain_bytes b xs } = shorter-plain (code_of codec xs) (plain_bytes b xs) (λ bytes e. omega (arith, long bytes (same ∙ e))) in
    subst (λ (t : TileCode). IsWritten t Stored plain_len (front ++ rest)) (sym is)
    (record { place_is = refl; len_is = sym plain; within = omega (arith, length-append front rest, ap length written, plain); bytes_are = ap (λ l. take plain_len (l ++ rest)) written ∙ take_at (plain_bytes b xs) rest plain_len plain })

-- one byte less than the plain bytes has room
pub room_for : (bitpix : ℤ) (n plain_len : ℕ) (out : List ℕ) → IsBitpix bitpix → plain_len ≡ unsigned_abs bitpix / 8 * n → 8 * n + 64 ≤ length out → length (take (plain_len - 1) out) ≡ plain_len - 1
room_for bitpix n plain_len out size is room = length-take-le (plain_len - 1) out (omega (arith, is, room, plain_most (unsigned_abs bitpix) n (size_of bitpix size)))
