-- The file of `drill` is one HDU, which passes the checks of every job.
use Rattle.std.specs.Prelude.{Ok}
use Rattle.std.proofs.Common.{◌≡◌, ℕ, ◌+◌, ◌*◌, ◌/◌, ◌≤◌, List, [], ◌∷◌, ◌++◌, append-nil, length, take, drop, refl, sym, ap, ◌∙◌, arith}
use Rattle.std.proofs.lemmas.List.{drop-append-le, drop_all, length-append, take-append-le, take_all}
use Rattle.fz_block.specs.Checks.{hdu_at, hdu_end, header_blocks_of}
use Rattle.fz_block.specs.Hdus.{AreHdusOf, header_bytes}
use Rattle.fz_block.specs.Header.{next_start_of, whole_blocks_of}
use Rattle.fz_block.specs.Walk.{StandsAt, hdu_of}
use Rattle.fz_block.specs.declared.header.Header.{Header}
use Rattle.fz_tile.specs.Plain.{plain_bytes}
use Rattle.fz_files.specs.Drill.{drill_file, drill_hdu}
use Rattle.fz_files.specs.Packed.{zero_filled}
use Rattle.fz_drill.specs.Files.{image_cards, image_file, image_pixels}
use Rattle.fz_drill.specs.Taken.{FileLaws}
use Rattle.fz_drill.proofs.Cards.{ReadsAs, reads_as}
use Rattle.fz_drill.proofs.Pixels.{filled_count, plain_count}
use Rattle.fz_drill.proofs.PlainHeader.{begins, data_len_is, header_is, image_facts, size_is}

-- the bytes in front of others, and those after them
pub front : (n : ℕ) (xs ys : List ℕ) → length xs ≡ n → take n (xs ++ ys) ≡ xs
front n xs ys is = take-append-le n xs ys (omega (arith, is)) ∙ take_all n xs (omega (arith, is))

pub back : (n : ℕ) (xs ys : List ℕ) → length xs ≡ n → drop n (xs ++ ys) ≡ ys
back n xs ys is = drop-append-le n xs ys (omega (arith, is)) ∙ ap (λ l. l ++ ys) (drop_all n xs (omega (arith, is)))

module _ (l : FileLaws) (rows : ℕ) (few : rows ≤ 16384) where
  abbrev pub plain_header_of : List ℕ
  plain_header_of = header_bytes (image_cards 256 rows)

  abbrev pub plain_data : List ℕ
  plain_data = zero_filled (plain_bytes 16 (image_pixels 0 256 rows))

  abbrev pub plain_facts : Header
  plain_facts = image_facts 256 rows

  pub reads : ReadsAs 256 rows plain_header_of
  reads = reads_as l.header 256 rows (omega arith) (omega (arith, few))

  pub data_count : length plain_data ≡ whole_blocks_of (2 * (1 * (0 + 256 * (rows * 1))))
  data_count = filled_count (plain_bytes 16 (image_pixels 0 256 rows)) ∙ ap whole_blocks_of (plain_count l.plain_len 0 256 rows ∙ sym (size_is 256 rows))

  module _ (file : List ℕ) (is : file ≡ plain_header_of ++ plain_data) where
    pub file_count : length file ≡ 2880 + length plain_data
    file_count = ap length is ∙ length-append plain_header_of plain_data ∙ ap (λ n. n + length plain_data) reads.long

    pub hdu_is : hdu_of file plain_facts ≡ record { header = plain_header_of; payload = plain_data }
    hdu_is =
        let first : take 2880 file ≡ plain_header_of = ap (take 2880) is ∙ front 2880 plain_header_of plain_data reads.long in
        let rest : drop 2880 file ≡ plain_data = ap (drop 2880) is ∙ back 2880 plain_header_of plain_data reads.long in
        let all : take (whole_blocks_of (2 * (1 * (0 + 256 * (rows * 1))))) plain_data ≡ plain_data = take_all (whole_blocks_of (2 * (1 * (0 + 256 * (rows * 1))))) plain_data (omega (arith, data_count)) in
        λ i. record { header = first i; payload = (ap (take (whole_blocks_of (2 * (1 * (0 + 256 * (rows * 1)))))) rest ∙ all) i }

    end_is : hdu_end 0 0 plain_header_of ≡ length file
    end_is =
        let end : hdu_end 0 0 plain_header_of ≡ 0 + 2880 + whole_blocks_of (2 * (1 * (0 + 256 * (rows * 1)))) =
        λ i. 0 + reads.long i + whole_blocks_of (data_len_is l.header 256 rows (omega arith) (omega arith) few plain_header_of reads i) in
        omega (arith, end, file_count, data_count)

    pub stands : StandsAt 0 0 file plain_header_of
    stands = record {
      whole = reads.whole;
      short = omega (arith, reads.long);
      place = (λ i. take (reads.long i) (is i)) ∙ front 2880 plain_header_of plain_data reads.long;
      number = omega arith;
      begins = begins l.header 256 rows (omega arith) (omega arith) few plain_header_of reads;
    }

    pub found_at : hdu_at 0 0 file ≡ Ok plain_facts
    found_at = l.found 0 0 file plain_header_of stands ∙ header_is l.header 256 rows (omega arith) (omega arith) few plain_header_of reads (length file) (omega (arith, end_is))

    pub blocks_at : header_blocks_of 0 0 file ≡ Ok 1
    blocks_at = l.blocks 0 0 file plain_header_of stands ∙ ap (λ n. Ok (n / 2880)) reads.long

    pub next_is : next_start_of plain_facts ≡ length file
    next_is = omega (arith, file_count, data_count)

    pub hdus_are : AreHdusOf file (record { header = plain_header_of; payload = plain_data } ∷ [])
    hdus_are = record {
      parts = append-nil (plain_header_of ++ plain_data) ∙ sym is;
      each = (
        record {
          header = reads.whole;
          payload = data_count ∙ ap whole_blocks_of (sym (data_len_is l.header 256 rows (omega arith) (omega arith) few plain_header_of reads));
        },
        tt,
      );
    }

-- the definition's file and HDU are these
pub drill_is : (rows : ℕ) → drill_file rows ≡ header_bytes (image_cards 256 rows) ++ zero_filled (plain_bytes 16 (image_pixels 0 256 rows))
unfolding drill_file
drill_is rows = refl

pub image_is : (rows : ℕ) → image_file 0 256 rows ≡ drill_file rows
unfolding drill_file image_file
image_is rows = refl

pub hdu_same : (rows : ℕ) → drill_hdu rows ≡ record { header = header_bytes (image_cards 256 rows); payload = zero_filled (plain_bytes 16 (image_pixels 0 256 rows)) }
hdu_same rows = refl
