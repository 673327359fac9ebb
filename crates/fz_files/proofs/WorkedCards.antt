-- Cards as they are made, for the worked files.
use Rattle.std.proofs.Common.{◌≡◌, ℕ, ◌+◌, ◌/◌, ◌%◌, ◌^◌, ◌<◌, ◌≤◌, List, [], ◌∷◌, ◌++◌, false, pos, codes, decimal, refl, ◌∙◌, ap, arith}
use Rattle.std.proofs.lemmas.Fmt.{decimal_digit, decimal_step, decimal-digits_of}
use Rattle.fz_card.specs.Layout.{padded}
use Rattle.fz_card.specs.Made.{numbered_name, int_card_bytes, logical_card_bytes, text_card_bytes, value_card, right_aligned}
use Rattle.fz_card.specs.Naming.{number_behind, packed_name}
use Rattle.fz_card.specs.Tables.{renamings}
use Rattle.fz_head.specs.EmptyPrimary.{empty_primary}
use Rattle.fz_head.specs.PackedHeader.{number_card, flag_card, word_card, numbered_number_card, numbered_word_card, packed_card, descriptor_form}
use Rattle.fz_files.specs.HandMade.{card_of, empty_cards}

-- the decimal digits of numbers below 10, and of 15, 16 and 32
pub decimal_15 : decimal 15 ≡ codes "15"
decimal_15 = decimal-digits_of 15 (omega arith) (omega arith)

pub decimal_16 : decimal 16 ≡ codes "16"
decimal_16 = decimal-digits_of 16 (omega arith) (omega arith)

pub decimal_32 : decimal 32 ≡ codes "32"
decimal_32 = decimal-digits_of 32 (omega arith) (omega arith)

-- a digit more
pub last_digit : (n : ℕ) (front : List ℕ) → 10 ≤ n → n < 2 ^ 64 → decimal (n / 10) ≡ front → decimal n ≡ front ++ (48 + n % 10) ∷ []
last_digit n front more small e = decimal_step n more small ∙ ap (λ d. d ++ (48 + n % 10) ∷ []) e

pub decimal_2880 : decimal 2880 ≡ codes "2880"
decimal_2880 =
    last_digit 2880 (codes "288") (omega arith) (omega arith)
    (last_digit 288 (codes "28") (omega arith) (omega arith)
    (decimal-digits_of 28 (omega arith) (omega arith)))

-- a number with these digits as the value of a card
pub value_is : (name digits : List ℕ) (v : ℕ) → decimal v ≡ digits → int_card_bytes name (pos v) ≡ value_card name (right_aligned 20 digits)
unfolding int_card_bytes
value_is name digits v e = ap (λ d. value_card name (right_aligned 20 d)) e

-- a number of one digit after a stem
pub digit_name : (stem : List ℕ) (i : ℕ) → i < 10 → numbered_name stem i ≡ padded (stem ++ (48 + i) ∷ [])
unfolding numbered_name
digit_name stem i h = ap (λ d. padded (stem ++ d)) (decimal_digit i h)

-- the same, and a number with these digits as the value
pub numbered_is : (stem digits : List ℕ) (i v : ℕ) → i < 10 → decimal v ≡ digits →
    numbered_number_card stem i v ≡ value_card (padded (stem ++ (48 + i) ∷ [])) (right_aligned 20 digits)
numbered_is stem digits i v h e = rw (digit_name stem i h) (value_is (padded (stem ++ (48 + i) ∷ [])) digits v e)

-- the cards of the empty primary
made_simple : flag_card (codes "SIMPLE") ≡ card_of (codes "SIMPLE  =                    T")
unfolding logical_card_bytes
made_simple = refl

pub made_bitpix : number_card (codes "BITPIX") 8 ≡ card_of (codes "BITPIX  =                    8")
made_bitpix = value_is (padded (codes "BITPIX")) (codes "8") 8 (decimal_digit 8 (omega arith))

made_no_axis : number_card (codes "NAXIS") 0 ≡ card_of (codes "NAXIS   =                    0")
made_no_axis = value_is (padded (codes "NAXIS")) (codes "0") 0 (decimal_digit 0 (omega arith))

made_extend : flag_card (codes "EXTEND") ≡ card_of (codes "EXTEND  =                    T")
unfolding logical_card_bytes
made_extend = refl

pub empty_is : empty_primary ≡ empty_cards
empty_is = λ i. made_simple i ∷ made_bitpix i ∷ made_no_axis i ∷ made_extend i ∷ []

-- the cards that every packed table has
pub made_xtension : word_card (codes "XTENSION") (codes "BINTABLE") ≡ card_of (codes "XTENSION= 'BINTABLE'")
unfolding text_card_bytes
made_xtension = refl

pub made_naxis : number_card (codes "NAXIS") 2 ≡ card_of (codes "NAXIS   =                    2")
made_naxis = value_is (padded (codes "NAXIS")) (codes "2") 2 (decimal_digit 2 (omega arith))

pub made_naxis1 : numbered_number_card (codes "NAXIS") 1 16 ≡ card_of (codes "NAXIS1  =                   16")
made_naxis1 = numbered_is (codes "NAXIS") (codes "16") 1 16 (omega arith) decimal_16

pub made_gcount : number_card (codes "GCOUNT") 1 ≡ card_of (codes "GCOUNT  =                    1")
made_gcount = value_is (padded (codes "GCOUNT")) (codes "1") 1 (decimal_digit 1 (omega arith))

pub made_tfields : number_card (codes "TFIELDS") 2 ≡ card_of (codes "TFIELDS =                    2")
made_tfields = value_is (padded (codes "TFIELDS")) (codes "2") 2 (decimal_digit 2 (omega arith))

pub made_ttype1 : numbered_word_card (codes "TTYPE") 1 (codes "COMPRESSED_DATA") ≡ card_of (codes "TTYPE1  = 'COMPRESSED_DATA'")
unfolding text_card_bytes
made_ttype1 = rw (digit_name (codes "TTYPE") 1 (omega arith)) refl

pub made_ttype2 : numbered_word_card (codes "TTYPE") 2 (codes "UNCOMPRESSED_DATA") ≡ card_of (codes "TTYPE2  = 'UNCOMPRESSED_DATA'")
unfolding text_card_bytes
made_ttype2 = rw (digit_name (codes "TTYPE") 2 (omega arith)) refl

pub made_no_codes : numbered_word_card (codes "TFORM") 1 (descriptor_form false (codes "B") 0) ≡ card_of (codes "TFORM1  = '1PB(0)  '")
unfolding text_card_bytes
made_no_codes = rw (digit_name (codes "TFORM") 1 (omega arith), decimal_digit 0 (omega arith)) refl

pub made_nocompress : word_card (codes "ZCMPTYPE") (codes "NOCOMPRESS") ≡ card_of (codes "ZCMPTYPE= 'NOCOMPRESS'")
unfolding text_card_bytes
made_nocompress = refl

pub made_zimage : flag_card (codes "ZIMAGE") ≡ card_of (codes "ZIMAGE  =                    T")
unfolding logical_card_bytes
made_zimage = refl

-- cards of an image in the packed header
pub packed_simple : packed_card (card_of (codes "SIMPLE  =                    T")) ≡ card_of (codes "ZSIMPLE =                    T")
unfolding packed_name renamings
packed_simple = refl

pub packed_naxis : packed_card (card_of (codes "NAXIS   =                    2")) ≡ card_of (codes "ZNAXIS  =                    2")
unfolding packed_name renamings
packed_naxis = refl

pub packed_axis_1 : packed_card (card_of (codes "NAXIS1  =                    4")) ≡ card_of (codes "ZNAXIS1 =                    4")
unfolding packed_name renamings number_behind
packed_axis_1 = rw (digit_name (codes "NAXIS") 1 (omega arith), digit_name (codes "ZNAXIS") 1 (omega arith)) refl

-- cards of tables and images of 4 by 2 pixels of 16 bits with two tiles
pub made_naxis2 : numbered_number_card (codes "NAXIS") 2 2 ≡ card_of (codes "NAXIS2  =                    2")
made_naxis2 = numbered_is (codes "NAXIS") (codes "2") 2 2 (omega arith) (decimal_digit 2 (omega arith))

pub made_ztile1 : numbered_number_card (codes "ZTILE") 1 4 ≡ card_of (codes "ZTILE1  =                    4")
made_ztile1 = numbered_is (codes "ZTILE") (codes "4") 1 4 (omega arith) (decimal_digit 4 (omega arith))

pub made_ztile2 : numbered_number_card (codes "ZTILE") 2 1 ≡ card_of (codes "ZTILE2  =                    1")
made_ztile2 = numbered_is (codes "ZTILE") (codes "1") 2 1 (omega arith) (decimal_digit 1 (omega arith))

pub packed_bitpix : packed_card (card_of (codes "BITPIX  =                   16")) ≡ card_of (codes "ZBITPIX =                   16")
unfolding packed_name renamings
packed_bitpix = refl

pub packed_axis_2 : packed_card (card_of (codes "NAXIS2  =                    2")) ≡ card_of (codes "ZNAXIS2 =                    2")
unfolding packed_name renamings number_behind
packed_axis_2 = rw (digit_name (codes "NAXIS") 2 (omega arith), digit_name (codes "ZNAXIS") 2 (omega arith)) refl
