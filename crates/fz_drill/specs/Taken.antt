-- What the laws of this crate take from the laws of cards, headers, HDUs and tables.
use Rattle.std.specs.Prelude.{ℕ, suc, ◌≡◌, ◌+◌, ◌*◌, ◌/◌, ◌^◌, ◌<◌, ◌≤◌, List, length, map, All, Ok}
use Rattle.std.specs.List.{flat_map}
use Rattle.fz_card.specs.Laws.{CardLaws}
use Rattle.fz_block.specs.Checks.{hdu_at, hdu_end, header_blocks_of, header_of, headers_of}
use Rattle.fz_block.specs.Facts.{begun_at, facts_of}
use Rattle.fz_block.specs.Hdus.{HasBlankFill, Hdu, IsCardBeforeEnd, IsHeader, cards_of, hdu_bytes, header_bytes, size_at}
use Rattle.fz_block.specs.Header.{whole_blocks_of}
use Rattle.fz_block.specs.Walk.{AreHeadersFrom, PassFrom, StandsAt, facts_from, hdu_of}
use Rattle.fz_block.specs.declared.header.Header.{Header}
use Rattle.fz_tile.specs.Laws.{HasPlainLen}
use Rattle.fz_head.specs.Accepted.{IsAccepted}
use Rattle.fz_head.specs.PackedHeader.{packed_with}
use Rattle.fz_head.specs.ThereAndBack.{IsPacking}
use Rattle.fz_head.specs.declared.plan.Plan.{Plan}
use Rattle.fz_head.specs.declared.totals.Totals.{Totals}
use Rattle.fz_files.specs.Laws.{TablesPass}

-- what is taken of the laws of cards and headers
pub record HeaderLaws : Type 0 where
  pub cards : CardLaws
  pub listed : (cards : List (List ℕ)) → All IsCardBeforeEnd cards → cards_of (header_bytes cards) ≡ cards
  pub header :
      (cards : List (List ℕ)) → All IsCardBeforeEnd cards
      → IsHeader (header_bytes cards) × HasBlankFill (header_bytes cards) × (length (header_bytes cards) ≡ whole_blocks_of (80 * (length cards + 1)))

-- what is taken of the laws of HDUs
pub record FileLaws : Type 0 where
  pub header : HeaderLaws
  pub plain_len : HasPlainLen
  pub blocks : (k start : ℕ) (file header : List ℕ) → StandsAt k start file header → header_blocks_of k start file ≡ Ok (length header / 2880)
  pub found : (k start : ℕ) (file header : List ℕ) → StandsAt k start file header → hdu_at k start file ≡ header_of k start (length file) header

-- what is taken of the laws of packed headers
pub record TableLaws : Type 0 where
  pub files : FileLaws
  pub accepted :
      (header : List ℕ) (h : Header) (p : Plan) (s : Totals) (sums : List (List ℕ)) (k start : ℕ) (bytes : List ℕ) → IsPacking header h p s sums
      → bytes ≡ header_bytes (packed_with (cards_of header) p s sums) → IsAccepted p s bytes (facts_of (suc k) start bytes)
  pub whole :
      (header : List ℕ) (h : Header) (p : Plan) (s : Totals) (sums : List (List ℕ)) → IsPacking header h p s sums
      → All IsCardBeforeEnd (packed_with (cards_of header) p s sums)

-- what is taken of the laws of walks and of tables in files
pub record PackedLaws : Type 0 where
  pub tables : TableLaws
  pub passes : TablesPass
  pub started :
      (k start len : ℕ) (header : List ℕ) (h : Header) (start' len' : ℕ) → header_of k start len header ≡ Ok h
      → hdu_end k start' header ≤ len' → hdu_end k start' header ≤ 2 ^ 62 → header_of k start' len' header ≡ Ok (begun_at start' h)
  pub walk :
      (most : ℕ) (file : List ℕ) (hs : List Hdu) → flat_map hdu_bytes hs ≡ file → 0 < length hs → length hs ≤ most → PassFrom 0 0 (length file) hs
      → (headers_of most file ≡ Ok (facts_from 0 0 hs)) × (map (hdu_of file) (facts_from 0 0 hs) ≡ hs)
  pub headers :
      (most : ℕ) (file : List ℕ) (hs : List Header) → headers_of most file ≡ Ok hs
      → (0 < length hs) × (length hs ≤ most) × AreHeadersFrom 0 0 file hs
  pub found : (most : ℕ) (file : List ℕ) (hs : List Header) → headers_of most file ≡ Ok hs → All (λ h. hdu_at h.hdu h.start file ≡ Ok h) hs
  pub blocks : (k start : ℕ) (file : List ℕ) (h : Header) → hdu_at k start file ≡ Ok h → header_blocks_of k start file ≡ Ok h.blocks
  pub axes : (file : List ℕ) (h : Header) → hdu_at 0 0 file ≡ Ok h → h.axes.n ≡ size_at file 2
