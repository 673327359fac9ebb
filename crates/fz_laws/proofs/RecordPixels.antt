-- The pixels of a record by its bytes alone are those that it stands for, and it has a fault where it stands for none.
use Rattle.std.proofs.Common.{◌≡◌, ℕ, ◌+◌, ◌-◌, ◌*◌, ◌/◌, ◌≤◌, ◌⊎◌, inl, inr, ◌==◌, nat_lt, Bool, true, false, ℤ, pos, unsigned_abs, List, length, replicate, Result, Ok, Err, if◌then◌else◌, refl, sym, subst, ap, ◌∙◌, arith, length-append}
use Rattle.std.specs.Prelude.{All}
use Rattle.std.proofs.Math.Nat.{mul-le-mul_right}
use Rattle.std.proofs.lemmas.List.{length-replicate}
use Rattle.fz_bits.specs.Bits.{bits_of}
use Rattle.fz_bits.specs.Numbers.{IsNumber}
use Rattle.fz_rice.specs.Numbers.{IsWidth}
use Rattle.fz_rice.specs.Reading.{Reading}
use Rattle.fz_rice.specs.declared.coder.CodeFault.TheVariants.{Ended, Unlawful}
use Rattle.fz_plio.specs.Meaning.{IsLineList, expand, instructions_of, line_of}
use Rattle.fz_tile.specs.Codecs.{CanRead}
use Rattle.fz_tile.specs.Pixels.{IsBitpix}
use Rattle.fz_tile.specs.Plain.{AreBytes, stored_pixels}
use Rattle.fz_tile.specs.Record.{Form, plain, rice, line, IsRecord, MeansIn, form_of, read_len}
use Rattle.fz_tile.specs.Refusals.{IsFault, IsFaultIn, IsRiceFault, short, cut, unlawful, out_of_range, refused, outside}
use Rattle.fz_tile.specs.declared.codec.Codec.{Codec}
use Rattle.fz_tile.specs.declared.codec.Codec.TheVariants.{Rice, Plio, Plain}
use Rattle.fz_tile.specs.declared.coded.Place2.{Place2}
use Rattle.fz_tile.specs.declared.coded.Place2.TheVariants.{Coded, Stored}
use Rattle.fz_tile.specs.declared.fault.TileFault.{TileFault}
use Rattle.fz_tile.specs.declared.fault.TileFault.TheVariants.{CodeShort, CodeValue, LineList, PixelRange, TileSize}
use Rattle.fz_files.specs.RecordPixels.{any_of, are_numbers, line_pixels, list_tests, pixels_if, pixels_of_code, plain_pixels, record_pixels}
use Rattle.fz_laws.specs.RoundTripTaken.{CodesAreRead, IsReadingOf, PixelLaws}
use Rattle.fz_laws.proofs.Decides.{are_in_range, are_not_in_range, list_fits, list_is_lawful, list_is_refused}
use Rattle.fz_laws.proofs.Tests.{eq_false, eq_true, lt_false, lt_true}

-- bytes in a form mean these pixels, or have this fault
abbrev IsIn : Form → ℕ → ℕ → ℕ → List ℕ → Result (List ℤ) TileFault → Type 0
IsIn form bitpix total n read (Ok xs) = (length xs ≡ n) × All (IsNumber bitpix) xs × MeansIn form bitpix total read xs
IsIn form bitpix total n read (Err why) = IsFaultIn form bitpix total read n why

-- a record stands for these pixels, or has this fault
abbrev pub IsRecordResult : Codec → ℕ → Place2 → ℕ → ℕ → List ℕ → Result (List ℤ) TileFault → Type 0
IsRecordResult codec bitpix place total n read (Ok xs) = (length xs ≡ n) × IsRecord codec bitpix place total read xs
IsRecordResult codec bitpix place total n read (Err why) = IsFault codec bitpix place total read n why

-- ---- plain bytes

pixel_at_most : (bitpix : ℕ) → IsBitpix (pos bitpix) → bitpix / 8 ≤ 8
pixel_at_most bitpix (inl e) = let same : bitpix ≡ 8 = ap unsigned_abs e in omega (arith, same)
pixel_at_most bitpix (inr (inl e)) = let same : bitpix ≡ 16 = ap unsigned_abs e in omega (arith, same)
pixel_at_most bitpix (inr (inr (inl e))) = let same : bitpix ≡ 32 = ap unsigned_abs e in omega (arith, same)
pixel_at_most bitpix (inr (inr (inr e))) = let same : bitpix ≡ 64 = ap unsigned_abs e in omega (arith, same)

all_read : (bitpix total n len : ℕ) → bitpix / 8 ≤ 8 → total ≡ bitpix / 8 * n → len ≡ read_len n total → len ≡ bitpix / 8 * n
all_read bitpix total n len most size is = let few : bitpix / 8 * n ≤ 8 * n = mul-le-mul_right n most in omega (arith, few, size, is)

plain_is : PixelLaws → (bitpix total n : ℕ) (read : List ℕ) → IsBitpix (pos bitpix) → AreBytes read → length read ≡ read_len n total → IsIn plain bitpix total n read (plain_pixels bitpix total n read)
plain_is laws bitpix total n read size bytes len = by_test (total == bitpix / 8 * n) refl
  where
    by_test : (b : Bool) → (total == bitpix / 8 * n) ≡ b → IsIn plain bitpix total n read (if b then Ok (stored_pixels bitpix n read) else Err TileSize)
    by_test true e =
        let whole : total ≡ bitpix / 8 * n = eq_true total (bitpix / 8 * n) e in
        let stored = laws.stored bitpix n read size bytes in
        let same = all_read bitpix total n (length read) (pixel_at_most bitpix size) whole len in
        (stored.0, stored.1, (whole ∙ ap (λ k. bitpix / 8 * k) (sym stored.0), sym (laws.again bitpix n read size bytes same)))
    by_test false e = record { kind = refl; size = eq_false total (bitpix / 8 * n) e }

-- ---- Rice codes

code_is : (w block bitpix total n : ℕ) (read : List ℕ) (x : Reading (List ℤ)) → IsReadingOf w block n (bits_of read) x → IsIn (rice w block) bitpix total n read (pixels_of_code bitpix total n x)
code_is w block bitpix total n read (Ok code) is = by_test (are_numbers bitpix code.0) refl
  where
    by_test : (b : Bool) → are_numbers bitpix code.0 ≡ b → IsIn (rice w block) bitpix total n read (if b then Ok code.0 else Err PixelRange)
    by_test true e = (is.1, are_in_range bitpix code.0 e, (is.0, is.2))
    by_test false e = out_of_range refl code.0 is.0 is.1 is.2 (are_not_in_range bitpix code.0 e)
code_is w block bitpix total n read (Err Ended) is = by_test (nat_lt (8 * n + 64) total) refl
  where
    by_test : (b : Bool) → nat_lt (8 * n + 64) total ≡ b → IsRiceFault w block bitpix total n read (if b then CodeValue else CodeShort)
    by_test true e = cut refl is (lt_true (8 * n + 64) total e)
    by_test false e = short refl is (lt_false (8 * n + 64) total e)
code_is w block bitpix total n read (Err Unlawful) is = unlawful refl is.0 is.1

-- ---- line lists

line_len : (n : ℕ) (code : List ℕ) → any_of (list_tests n code) ≡ false → length (line_of n (instructions_of code)) ≡ n
line_len n code e =
    let fits = list_fits n code e in
    let front : List ℤ = expand 1 (instructions_of code) in
    let both : length (line_of n (instructions_of code)) ≡ length front + length (replicate (n - length front) (pos 0)) = length-append front (replicate (n - length front) (pos 0)) in
    let rest : length (replicate (n - length front) (pos 0)) ≡ n - length front = length-replicate (n - length front) (pos 0) in
    omega (arith, both, rest, fits)

line_is : (bitpix total n : ℕ) (code : List ℕ) → IsIn line bitpix total n code (line_pixels bitpix n code)
line_is bitpix total n code = by_test (any_of (list_tests n code)) refl
  where
    by_range : any_of (list_tests n code) ≡ false → (b : Bool) → are_numbers bitpix (line_of n (instructions_of code)) ≡ b →
        IsIn line bitpix total n code (if b then Ok (line_of n (instructions_of code)) else Err PixelRange)
    by_range lawful true e =
        let len = line_len n code lawful in
        (len, are_in_range bitpix (line_of n (instructions_of code)) e, subst (λ (k : ℕ). IsLineList k code (line_of n (instructions_of code))) (sym len) (record { lawful = list_is_lawful n code lawful; meaning = refl }))
    by_range lawful false e =
        outside refl (line_of n (instructions_of code)) (line_len n code lawful) (record { lawful = list_is_lawful n code lawful; meaning = refl }) (are_not_in_range bitpix (line_of n (instructions_of code)) e)

    by_test : (b : Bool) → any_of (list_tests n code) ≡ b → IsIn line bitpix total n code (if b then Err LineList else pixels_if bitpix (line_of n (instructions_of code)))
    by_test true e = refused refl (list_is_refused n code e)
    by_test false e = by_range e (are_numbers bitpix (line_of n (instructions_of code))) refl

-- ---- a record

width_is : (bytepix : ℕ) → (bytepix ≡ 1) ⊎ ((bytepix ≡ 2) ⊎ (bytepix ≡ 4)) → IsWidth (8 * bytepix)
width_is bytepix (inl e) = inl (ap (λ k. 8 * k) e)
width_is bytepix (inr (inl e)) = inr (inl (ap (λ k. 8 * k) e))
width_is bytepix (inr (inr e)) = inr (inr (ap (λ k. 8 * k) e))

in_form : PixelLaws → (codec : Codec) (bitpix : ℕ) (place : Place2) (total n : ℕ) (read : List ℕ) → CanRead codec (pos bitpix) → AreBytes read → length read ≡ read_len n total →
    IsIn (form_of codec place) bitpix total n read (record_pixels codec bitpix place total n read)
in_form laws codec bitpix Stored total n read can bytes len = plain_is laws bitpix total n read can.size bytes len
in_form laws (Rice block bytepix) bitpix Coded total n read can bytes len =
    code_is (8 * bytepix) block bitpix total n read _ (laws.rice (8 * bytepix) block n (bits_of read) (width_is bytepix can.codes.1) can.codes.0.0)
in_form laws Plio bitpix Coded total n read can bytes len = line_is bitpix total n read
in_form laws Plain bitpix Coded total n read can bytes len = plain_is laws bitpix total n read can.size bytes len

result_is : (codec : Codec) (bitpix : ℕ) (place : Place2) (total n : ℕ) (read : List ℕ) (x : Result (List ℤ) TileFault) → CanRead codec (pos bitpix) → length read ≡ read_len n total →
    IsIn (form_of codec place) bitpix total n read x → IsRecordResult codec bitpix place total n read x
result_is codec bitpix place total n read (Ok xs) can len is =
    (is.0, record { plain = λ wide. can.plain (ap pos wide); pixels = is.1; len = len ∙ ap (λ k. read_len k total) (sym is.0); meaning = is.2 })
result_is codec bitpix place total n read (Err why) can len is = is

pub record_is : PixelLaws → (codec : Codec) (bitpix : ℕ) (place : Place2) (total n : ℕ) (read : List ℕ) → CanRead codec (pos bitpix) → AreBytes read → length read ≡ read_len n total →
    IsRecordResult codec bitpix place total n read (record_pixels codec bitpix place total n read)
record_is laws codec bitpix place total n read can bytes len =
    result_is codec bitpix place total n read (record_pixels codec bitpix place total n read) can len (in_form laws codec bitpix place total n read can bytes len)

-- the same of a Rice code and of a line list, whatever the numbers in their bytes
pub code_result : CodesAreRead → (block bytepix bitpix total n : ℕ) (read : List ℕ) → CanRead (Rice block bytepix) (pos bitpix) → length read ≡ read_len n total →
    IsRecordResult (Rice block bytepix) bitpix Coded total n read (record_pixels (Rice block bytepix) bitpix Coded total n read)
code_result reads block bytepix bitpix total n read can len =
    result_is (Rice block bytepix) bitpix Coded total n read (record_pixels (Rice block bytepix) bitpix Coded total n read) can len
    (code_is (8 * bytepix) block bitpix total n read _ (reads (8 * bytepix) block n (bits_of read) (width_is bytepix can.codes.1) can.codes.0.0))

pub line_result : (bitpix total n : ℕ) (read : List ℕ) → CanRead Plio (pos bitpix) → length read ≡ read_len n total → IsRecordResult Plio bitpix Coded total n read (record_pixels Plio bitpix Coded total n read)
line_result bitpix total n read can len = result_is Plio bitpix Coded total n read (record_pixels Plio bitpix Coded total n read) can len (line_is bitpix total n read)
