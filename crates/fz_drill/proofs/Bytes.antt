-- The file of `drill` is bytes.
use Rattle.std.specs.List.{flat_map, list_all}
use Rattle.std.specs.Int.{byte_at, cast_unsigned, w16}
use Rattle.std.specs.Str.{IsAscii}
use Rattle.std.proofs.Common.{◌≡◌, ℕ, ◌+◌, ◌-◌, ◌*◌, ◌^◌, ◌<◌, ◌≤◌, ℤ, pos, true, List, [], ◌∷◌, ◌++◌, ◌&&◌, length, codes, decimal, replicate, nat_lt, Bool, false, refl, sym, subst, arith}
use Rattle.std.proofs.lemmas.Bool.Decides.{nat_tests}
use Rattle.std.proofs.lemmas.Fmt.{IsAscii-decimal}
use Rattle.std.proofs.lemmas.List.Elements.{All-append, All-cons, All-from_get_or, All-nil, All-replicate}
use Rattle.fz_card.specs.Layout.{filled, padded}
use Rattle.fz_card.specs.Made.{int_card_bytes, logical_card_bytes, numbered_name, right_aligned, value_card}
use Rattle.fz_block.specs.Hdus.{header_bytes}
use Rattle.fz_block.specs.Header.{whole_blocks_of}
use Rattle.fz_tile.specs.Plain.{AreBytes, pixel_bytes, plain_bytes}
use Rattle.fz_head.specs.PackedHeader.{flag_card, number_card, numbered_number_card}
use Rattle.fz_files.specs.Drill.{drill_file}
use Rattle.fz_files.specs.Packed.{zero_filled}
use Rattle.fz_drill.specs.Files.{image_cards, image_pixels}
use Rattle.fz_drill.proofs.PlainFile.{drill_is}

abbrev IsByte : ℕ → Type 0
IsByte b = b < 256

both : (xs ys : List ℕ) → AreBytes xs → AreBytes ys → AreBytes (xs ++ ys)
both xs ys a b = All-append IsByte xs ys a b

-- ---- cards

filled_are : (n : ℕ) (text : List ℕ) → AreBytes text → AreBytes (filled n text)
filled_are n text are = both text (replicate (n - length text) 32) are (All-replicate IsByte (n - length text) 32 (omega arith))

tested : (xs : List ℕ) → list_all (λ b. nat_lt b 256) xs ≡ true → AreBytes xs
tested [] e = All-nil IsByte
tested (x ∷ xs) e = by_test (nat_lt x 256) refl (tested xs) e
  where
    by_test : (b : Bool) → nat_lt x 256 ≡ b → (list_all (λ b. nat_lt b 256) xs ≡ true → AreBytes xs) → (b && list_all (λ b. nat_lt b 256) xs) ≡ true → AreBytes (x ∷ xs)
    by_test true is later e = All-cons IsByte x xs (grind (arith, nat_tests, is)) (later e)
    by_test false is later e = absurd cc

ascii_are : (xs : List ℕ) → IsAscii xs → AreBytes xs
ascii_are xs is = All-from_get_or IsByte xs 0 (λ i near. let one = is i in omega (arith, one))

digits_are : (n : ℕ) → n < 2 ^ 64 → AreBytes (decimal n)
digits_are n small = ascii_are (decimal n) (IsAscii-decimal n small)

value_are : (name field : List ℕ) → AreBytes name → AreBytes field → AreBytes (value_card name field)
value_are name field a b = filled_are 80 (name ++ (codes "= " ++ field)) (both name (codes "= " ++ field) a (both (codes "= ") field (tested (codes "= ") refl) b))

aligned_are : (n : ℕ) (text : List ℕ) → AreBytes text → AreBytes (right_aligned n text)
aligned_are n text are = both (replicate (n - length text) 32) text (All-replicate IsByte (n - length text) 32 (omega arith)) are

integer_are : (name : List ℕ) (n : ℕ) → n < 2 ^ 64 → AreBytes name → AreBytes (int_card_bytes name (pos n))
unfolding int_card_bytes
integer_are name n small are = value_are name (right_aligned 20 (decimal n)) are (aligned_are 20 (decimal n) (digits_are n small))

simple_are : AreBytes (flag_card (codes "SIMPLE"))
unfolding logical_card_bytes
simple_are = tested (flag_card (codes "SIMPLE")) refl

axis_are : (i n : ℕ) → i < 2 ^ 64 → n < 2 ^ 64 → AreBytes (numbered_number_card (codes "NAXIS") i n)
unfolding numbered_name
axis_are i n few small = integer_are (padded (codes "NAXIS" ++ decimal i)) n small (filled_are 8 (codes "NAXIS" ++ decimal i) (both (codes "NAXIS") (decimal i) (tested (codes "NAXIS") refl) (digits_are i few)))

header_are : (columns rows : ℕ) → columns < 2 ^ 64 → rows < 2 ^ 64 → AreBytes (header_bytes (image_cards columns rows))
header_are columns rows few small =
    filled_are (whole_blocks_of (80 * (5 + 1))) (flat_map (λ c. c) (image_cards columns rows) ++ codes "END")
    (both (flat_map (λ c. c) (image_cards columns rows)) (codes "END")
    (both (flag_card (codes "SIMPLE")) _ simple_are
    (both (number_card (codes "BITPIX") 16) _ (integer_are (padded (codes "BITPIX")) 16 (omega arith) (tested (padded (codes "BITPIX")) refl))
    (both (number_card (codes "NAXIS") 2) _ (integer_are (padded (codes "NAXIS")) 2 (omega arith) (tested (padded (codes "NAXIS")) refl))
    (both (numbered_number_card (codes "NAXIS") 1 columns) _ (axis_are 1 columns (omega arith) few)
    (both (numbered_number_card (codes "NAXIS") 2 rows) [] (axis_are 2 rows (omega arith) small) (All-nil IsByte))))))
    (tested (codes "END") refl))

-- ---- pixels

pixel_are : (x : ℤ) → AreBytes (pixel_bytes 16 x)
pixel_are x =
    let n : ℕ = cast_unsigned w16 x in
    let first : byte_at 1 n < 256 = omega arith in
    let second : byte_at 0 n < 256 = omega arith in
    All-cons IsByte (byte_at 1 n) (byte_at 0 n ∷ []) first (All-cons IsByte (byte_at 0 n) [] second (All-nil IsByte))

pixels_are : (xs : List ℤ) → AreBytes (plain_bytes 16 xs)
pixels_are [] = All-nil IsByte
pixels_are (x ∷ xs) = both (pixel_bytes 16 x) (plain_bytes 16 xs) (pixel_are x) (pixels_are xs)

zeros_are : (bytes : List ℕ) → AreBytes bytes → AreBytes (zero_filled bytes)
zeros_are bytes are = both bytes (replicate (whole_blocks_of (length bytes) - length bytes) 0) are (All-replicate IsByte (whole_blocks_of (length bytes) - length bytes) 0 (omega arith))

pub drill_bytes : (rows : ℕ) → rows ≤ 16384 → AreBytes (drill_file rows)
drill_bytes rows few =
    subst AreBytes (sym (drill_is rows))
    (both (header_bytes (image_cards 256 rows)) (zero_filled (plain_bytes 16 (image_pixels 0 256 rows))) (header_are 256 rows (omega arith) (omega (arith, few)))
    (zeros_are (plain_bytes 16 (image_pixels 0 256 rows)) (pixels_are (image_pixels 0 256 rows))))
