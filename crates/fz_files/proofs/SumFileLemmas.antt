-- The file with sums by the definitions.
use Rattle.std.proofs.Common.{◌≡◌, [], ◌∷◌, ◌++◌, true, codes, decimal, append-nil, refl, sym, ◌∙◌, ap, arith}
use Rattle.std.proofs.lemmas.Fmt.{decimal-digits_of}
use Rattle.fz_card.specs.Made.{text_card_bytes}
use Rattle.fz_card.specs.Reading.{integer_of}
use Rattle.fz_block.specs.Facts.{facts_of}
use Rattle.fz_block.specs.Hdus.{header_bytes}
use Rattle.fz_head.specs.Planned.{pack_plan_of}
use Rattle.fz_sum.specs.Cards.{datasum_card, checksum_card, blank_checksum_card}
use Rattle.fz_sum.specs.Characters.{byte_characters, characters}
use Rattle.fz_sum.specs.Sums.{word_total, carried, ones_sum}
use Rattle.fz_files.specs.HandMade.{card_of, block_of}
use Rattle.fz_files.specs.Packed.{IsPackedFile, packed_file, packed_from, packed_hdu, packed_image, packed_table, sum_before, with_sums}
use Rattle.fz_files.specs.PlainFile.{grid_cards, grid_hdu, grid_file, plain_plan, plain_tiles, plain_data, plain_cards}
use Rattle.fz_files.specs.SumFile.{sum_options, sum_file_cards, blank_sum, sum_file}
use Rattle.fz_files.proofs.PlainFileLemmas.{tiles_are, packable, cards_before, is_alone, cards_are, data_are}
use Rattle.fz_files.proofs.WorkedCards.{empty_is, last_digit}

-- DATASUM
data_sum : ones_sum plain_data ≡ 371075163
unfolding ones_sum word_total carried
data_sum = refl

decimal_sum : decimal 371075163 ≡ codes "371075163"
decimal_sum =
    last_digit 371075163 (codes "37107516") (omega arith) (omega arith)
    (last_digit 37107516 (codes "3710751") (omega arith) (omega arith)
    (last_digit 3710751 (codes "371075") (omega arith) (omega arith)
    (last_digit 371075 (codes "37107") (omega arith) (omega arith)
    (last_digit 37107 (codes "3710") (omega arith) (omega arith)
    (last_digit 3710 (codes "371") (omega arith) (omega arith)
    (last_digit 371 (codes "37") (omega arith) (omega arith)
    (decimal-digits_of 37 (omega arith) (omega arith))))))))

made_datasum : datasum_card 371075163 ≡ card_of (codes "DATASUM = '371075163'")
unfolding datasum_card text_card_bytes
made_datasum = rw decimal_sum refl

datasum_is : datasum_card (ones_sum plain_data) ≡ card_of (codes "DATASUM = '371075163'")
datasum_is = ap datasum_card data_sum ∙ made_datasum

pub before_is : sum_before plain_cards plain_data ≡ blank_sum
unfolding ones_sum word_total carried datasum_card blank_checksum_card text_card_bytes
before_is = ap (λ c. ones_sum (header_bytes ((plain_cards ++ c ∷ []) ++ blank_checksum_card ∷ []) ++ plain_data)) datasum_is ∙ refl

made_checksum : checksum_card blank_sum ≡ card_of (codes "CHECKSUM= 'FkBCGjA9FjAAFjA9'")
unfolding checksum_card characters byte_characters text_card_bytes
made_checksum = refl

pub sum_cards_are : with_sums true plain_cards plain_data ≡ sum_file_cards
sum_cards_are =
    (λ i. (plain_cards ++ datasum_is i ∷ []) ++ checksum_card (before_is i) ∷ [])
    ∙ ap (λ c. (plain_cards ++ card_of (codes "DATASUM = '371075163'") ∷ []) ++ c ∷ []) made_checksum

table_is : packed_table true plain_plan grid_cards plain_tiles ≡ block_of sum_file_cards ++ plain_data
unfolding packed_table
table_is =
    (λ i. header_bytes (with_sums true (cards_are i) (data_are i)) ++ data_are i)
    ∙ ap (λ cs. header_bytes cs ++ plain_data) sum_cards_are

image_is : packed_image true plain_plan grid_hdu ≡ block_of sum_file_cards ++ plain_data
image_is = (λ i. packed_table true plain_plan (cards_before i) (tiles_are i)) ∙ table_is

is_planned : pack_plan_of sum_options (facts_of 0 0 grid_hdu.header) ≡ plain_plan
unfolding pack_plan_of integer_of
is_planned = refl

hdu_is : packed_hdu sum_options 0 grid_hdu ≡ sum_file
hdu_is = rw (packable, is_planned) (λ i. header_bytes (empty_is i) ++ image_is i)

file_is : packed_file sum_options (grid_hdu ∷ []) ≡ sum_file
unfolding packed_from
file_is = append-nil (packed_hdu sum_options 0 grid_hdu) ∙ hdu_is

pub is_packed : IsPackedFile sum_options grid_file sum_file
is_packed = record { hdus = grid_hdu ∷ []; parts = is_alone; packed = sym file_is }
