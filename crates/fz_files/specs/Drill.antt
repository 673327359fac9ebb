-- The file that `drill` packs, unpacks and cuts in memory, and the lines that it prints (FITS 4.0, sections 4.4.1 and 10.1).
use Rattle.std.specs.Prelude.{ℕ, ◌+◌, ◌-◌, ◌*◌, ◌/◌, ◌%◌, pos, false, ℤ, List, [], ◌∷◌, ◌++◌, length, map, replicate, codes, decimal, None}
use Rattle.std.specs.List.{flat_map, range_with_len}
use Rattle.fz_block.specs.Hdus.{Hdu, hdu_bytes, header_bytes}
use Rattle.fz_grid.specs.declared.sieve.Sieve.{Sieve}
use Rattle.fz_tile.specs.Plain.{plain_bytes}
use Rattle.fz_head.specs.declared.options.PackOptions.{PackOptions}
use Rattle.fz_head.specs.declared.options.CodecWord.{CodecWord}
use Rattle.fz_head.specs.declared.options.CodecWord.TheVariants as word
use Rattle.fz_head.specs.PackedHeader.{flag_card, number_card, numbered_number_card}
use Rattle.fz_files.specs.Packed.{packed_file, zero_filled}

-- the pixel at column x of row y, both counted from 0
abbrev pub drill_pixel : ℕ → ℕ → ℤ
drill_pixel x y = pos (1000 + (y * y) % 1000 + 7 * (x / 32))

-- the pixels of N rows of 256
abbrev pub drill_pixels : ℕ → List ℤ
drill_pixels N = flat_map (λ y. map (λ x. drill_pixel x y) (range_with_len 0 256)) (range_with_len 0 N)

-- the cards of a primary image of 16-bit pixels with 256 columns and N rows
abbrev pub drill_cards : ℕ → List (List ℕ)
drill_cards N =
    flag_card (codes "SIMPLE")
    ∷ number_card (codes "BITPIX") 16
    ∷ number_card (codes "NAXIS") 2
    ∷ numbered_number_card (codes "NAXIS") 1 256
    ∷ numbered_number_card (codes "NAXIS") 2 N
    ∷ []

abbrev pub drill_hdu : ℕ → Hdu
drill_hdu N = record { header = header_bytes (drill_cards N); payload = zero_filled (plain_bytes 16 (drill_pixels N)) }

-- the file, which is this one HDU
unfoldable pub drill_file : ℕ → List ℕ
drill_file N = hdu_bytes (drill_hdu N)

-- what it is packed with: rows as tiles, and four workers
abbrev pub drill_options : CodecWord → PackOptions
drill_options codec = record { codec = codec; tile = None; block = 32; sums = false; workers = 4 }

-- the packed file
abbrev pub drill_packed : ℕ → CodecWord → List ℕ
drill_packed N codec = packed_file (drill_options codec) (drill_hdu N ∷ [])

-- what is cut from it: columns 33 to 64 of all rows, which are counted from 1 here
abbrev pub drill_sieve : ℕ → Sieve
drill_sieve N = record {
  n = 2;
  lo = 32 ∷ 0 ∷ replicate 7 0;
  hi = 63 ∷ (N - 1) ∷ replicate 7 0;
  step = 1 ∷ 1 ∷ replicate 7 0;
}

-- the line of a codec: how long the packed file is, and that unpacking and cutting gave the same bytes as the file
abbrev pub drill_line : ℕ → List ℕ → CodecWord → List ℕ
drill_line N name codec =
    name ++ codes " packed " ++ decimal (length (drill_packed N codec)) ++ codes " unpack same cut same\n"

-- the lines of `drill N`
unfoldable pub drill_lines : ℕ → List ℕ
drill_lines N =
    codes "drill " ++ decimal N ++ codes " plain " ++ decimal (length (drill_file N)) ++ codes "\n"
    ++ (drill_line N (codes "rice") word.Rice ++ (drill_line N (codes "plio") word.Plio ++ drill_line N (codes "none") word.None))
