-- The empty primary before a table.
use Rattle.std.specs.Fmt.{digits}
use Rattle.std.specs.Prelude.{Result, Ok, Err, IsOk}
use Rattle.std.proofs.Common.{◌≡◌, ℕ, ◌+◌, ◌^◌, ◌≤◌, true, pos, List, [], ◌∷◌, length, codes, refl, arith}
use Rattle.std.proofs.lemmas.List.{length-append}
use Rattle.fz_base.specs.declared.fault.Fault.{Fault}
use Rattle.fz_card.specs.Made.{int_card_bytes, logical_card_bytes}
use Rattle.fz_card.specs.Reading.{integer_of, logical_of, text_of}
use Rattle.fz_block.specs.Cards.{card_at, end_among, first_among}
use Rattle.fz_block.specs.Checks.{hdu_end, header_of, is_set}
use Rattle.fz_block.specs.Facts.{begun_at, facts_of}
use Rattle.fz_block.specs.Hdus.{Hdu, IsHdu, IsHeader, hdu_bytes, header_bytes}
use Rattle.fz_block.specs.Walk.{PassesAt}
use Rattle.fz_block.specs.declared.header.Header.{Header}
use Rattle.fz_block.specs.declared.header.Sort.TheVariants.{Primary}
use Rattle.fz_head.specs.EmptyPrimary.{empty_primary}

abbrev pub empty_hdu : Hdu
empty_hdu = record { header = header_bytes empty_primary; payload = [] }

abbrev pub empty_facts : Header
empty_facts = record {
  hdu = 0;
  start = 0;
  cards = 4;
  blocks = 1;
  sort = Primary;
  bitpix = pos 8;
  axes = record { n = 0; len = 0 ∷ 0 ∷ 0 ∷ 0 ∷ 0 ∷ 0 ∷ 0 ∷ 0 ∷ 0 ∷ [] };
  pcount = 0;
  gcount = 1;
  data_len = 0;
}

pub empty_is : facts_of 0 0 (header_bytes empty_primary) ≡ empty_facts
unfolding end_among integer_of int_card_bytes logical_card_bytes digits
empty_is = refl

empty_at : header_of 0 0 2880 (header_bytes empty_primary) ≡ Ok empty_facts
unfolding header_of end_among first_among integer_of logical_of text_of int_card_bytes logical_card_bytes digits
empty_at = refl

empty_header : IsHeader (header_bytes empty_primary)
unfolding end_among int_card_bytes logical_card_bytes digits
empty_header = record { before = 0; blocks = refl; none = refl; has = refl }

empty_hdu_is : IsHdu 0 empty_hdu
unfolding integer_of int_card_bytes logical_card_bytes digits
empty_hdu_is = record { header = empty_header; payload = refl }

empty_begins : is_set (codes "SIMPLE") (card_at (header_bytes empty_primary) 0) ≡ true
unfolding logical_of logical_card_bytes int_card_bytes digits
empty_begins = refl

empty_end : hdu_end 0 0 (header_bytes empty_primary) ≡ 2880
unfolding integer_of int_card_bytes logical_card_bytes digits
empty_end = refl

pub empty_len : length (hdu_bytes empty_hdu) ≡ 2880
unfolding int_card_bytes logical_card_bytes digits
empty_len = refl

ok_of : (r : Result Header Fault) (h : Header) → r ≡ Ok h → IsOk r
ok_of (Ok a) h e = refl
ok_of (Err fault) h e = absurd cc

-- it passes the checks of every job in front of a file
pub empty_passes :
    ((k start len : ℕ) (header : List ℕ) (h : Header) (start' len' : ℕ) → header_of k start len header ≡ Ok h → hdu_end k start' header ≤ len' → hdu_end k start' header ≤ 2 ^ 62 →
    header_of k start' len' header ≡ Ok (begun_at start' h)) → (len : ℕ) → 2880 ≤ len → PassesAt 0 0 len empty_hdu
empty_passes started len within =
    let end : hdu_end 0 0 (header_bytes empty_primary) ≤ len = omega (arith, empty_end, within) in
    let few : hdu_end 0 0 (header_bytes empty_primary) ≤ 2 ^ 62 = omega (arith, empty_end) in
    let short : length (hdu_bytes empty_hdu) ≡ length (header_bytes empty_primary) + 0 = length-append (header_bytes empty_primary) [] in
    record {
      hdu = empty_hdu_is;
      short = omega (arith, short, empty_len);
      number = omega arith;
      begins = empty_begins;
      checks = ok_of (header_of 0 0 len (header_bytes empty_primary)) (begun_at 0 empty_facts) (started 0 0 2880 (header_bytes empty_primary) empty_facts 0 len empty_at end few);
    }
