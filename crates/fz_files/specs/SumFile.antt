-- The packed file of `PlainFile` with sums, written out by hand (FITS 4.0, section 4.4.2.7 and appendix J).
use Rattle.std.specs.Prelude.{ℕ, true, List, [], ◌∷◌, ◌++◌, codes, Some}
use Rattle.fz_head.specs.declared.options.CodecWord.TheVariants as word
use Rattle.fz_head.specs.declared.options.PackOptions.{PackOptions}
use Rattle.fz_files.specs.HandMade.{card_of, block_of, empty_cards}
use Rattle.fz_files.specs.PlainFile.{plain_cards, plain_data}

-- no codec, tiles of 2 by 2 pixels, and sums
abbrev pub sum_options : PackOptions
sum_options = record {
  codec = word.None;
  tile = Some (record { n = 2; len = 2 ∷ 2 ∷ 0 ∷ 0 ∷ 0 ∷ 0 ∷ 0 ∷ 0 ∷ 0 ∷ [] });
  block = 32;
  sums = true;
  workers = 1;
}

-- the cards of the table: DATASUM and CHECKSUM are after those of the image
abbrev pub sum_file_cards : List (List ℕ)
sum_file_cards =
    plain_cards
    ++ card_of (codes "DATASUM = '371075163'")
    ∷ card_of (codes "CHECKSUM= 'FkBCGjA9FjAAFjA9'")
    ∷ []

-- the sum of the table before its CHECKSUM is known
abbrev pub blank_sum : ℕ
blank_sum = 381340070

-- the packed file of 8,640 bytes
abbrev pub sum_file : List ℕ
sum_file = block_of empty_cards ++ (block_of sum_file_cards ++ plain_data)
