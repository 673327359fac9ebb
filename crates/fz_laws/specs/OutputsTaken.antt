-- What the laws of this crate take from the laws of cards, headers, HDUs, tiles and packed files.
use Rattle.std.specs.Prelude.{ℕ, ◌≡◌, ◌+◌, ◌*◌, ◌^◌, ◌<◌, ◌≤◌, Bool, true, false, List, ◌∷◌, length, map, drop, All, Some, None, Ok}
use Rattle.std.specs.List.{flat_map}
use Rattle.fz_base.specs.Refusal.{first_refusal}
use Rattle.fz_card.specs.Laws.{CardLaws, RenamedValueLaw}
use Rattle.fz_block.specs.Checks.{Judge, headers_of, walk_of}
use Rattle.fz_block.specs.Facts.{IsHeaderOf}
use Rattle.fz_block.specs.Hdus.{HasBlankFill, Hdu, IsCardBeforeEnd, IsHeader, cards_of, hdu_bytes, header_bytes}
use Rattle.fz_block.specs.Header.{whole_blocks_of}
use Rattle.fz_block.specs.Walk.{AreHeadersBetween, PassFrom, PassesAt, RefusesNone, facts_from, hdu_of, stops}
use Rattle.fz_block.specs.declared.header.Header.{Header}
use Rattle.fz_tile.specs.Laws.{HasPlainLen}
use Rattle.fz_head.specs.Conditions.{IsPackedPlan}
use Rattle.fz_checks.specs.JobChecks.{IsImageOf, image_in, image_to_unpack, unpack_checks}
use Rattle.fz_head.specs.Packable.{is_packed}
use Rattle.fz_head.specs.PlainHeader.{plain_header}
use Rattle.fz_checks.specs.declared.job_checks.PackedImage.{PackedImage}
use Rattle.fz_head.specs.declared.plan.Plan.{Plan}
use Rattle.fz_files.specs.Laws.{HasOneFirstFault, ListRefusesHeaders, TablesAreAccepted, TablesStandForImages, VerifyRefusesAsUnpack}
use Rattle.fz_laws.specs.PackedHdus.{HdusBecome}
use Rattle.fz_laws.specs.RoundTrip.{ComesBack}

-- what is taken of the laws of headers that are made
pub record MadeLaws : Type 0 where
  pub cards : (cards : List (List ℕ)) → All IsCardBeforeEnd cards → cards_of (header_bytes cards) ≡ cards
  pub header :
      (cards : List (List ℕ)) → All IsCardBeforeEnd cards
      → IsHeader (header_bytes cards) × HasBlankFill (header_bytes cards) × (length (header_bytes cards) ≡ whole_blocks_of (80 * (length cards + 1)))

-- of the laws of values
pub record ValueLaws : Type 0 where
  pub cards : CardLaws
  pub value : RenamedValueLaw
  pub made : MadeLaws

-- of the laws of HDUs that come out
pub record OutLaws : Type 0 where
  pub values : ValueLaws
  pub moved :
      (k start len start' len' : ℕ) (h : Hdu) → PassesAt k start len h → start' + length (hdu_bytes h) ≤ len'
      → start' + length (hdu_bytes h) ≤ 2 ^ 62 → PassesAt k start' len' h
  pub numbered : (j k start len : ℕ) (h : Hdu) → PassesAt j start len h → 0 < j → 0 < k → k < 65536 → PassesAt k start len h
  pub read : (header : List ℕ) → IsHeader header → All IsCardBeforeEnd (cards_of header)
  pub plain : (cards : List (List ℕ)) → All IsCardBeforeEnd cards → All IsCardBeforeEnd (plain_header cards)
  pub fits :
      (header : List ℕ) (h : Header) (p : Plan) → IsHeaderOf header h → IsPackedPlan header h p
      → whole_blocks_of (80 * (length (plain_header (cards_of header)) + 1)) ≤ length header
  pub begins :
      (h : Header) (header : List ℕ) (after_empty : Bool) (i : PackedImage) → image_to_unpack h header after_empty ≡ Ok (Some i)
      → i.plan.primary ≡ true → header_bytes (plain_header (cards_of header)) ≡ 83 ∷ drop 1 (header_bytes (plain_header (cards_of header)))
  pub images :
      (h : Header) (header : List ℕ) (after_empty : Bool) → IsHeaderOf header h → is_packed header h ≡ true
      → first_refusal (unpack_checks h header after_empty) ≡ None → IsImageOf header h (image_in h header)
  pub len : HasPlainLen

-- of the laws of walks
pub record WalkLaws : Type 0 where
  pub headers :
      (judge : Judge) (most : ℕ) (file : List ℕ) (hs : List Header) → walk_of judge most file ≡ Ok hs
      → (0 < length hs) × (length hs ≤ most) × RefusesNone judge hs × ((end : ℕ) × (end ≤ length file) × AreHeadersBetween 0 0 end file hs)
  pub pass :
      (judge : Judge) (most : ℕ) (file : List ℕ) (hs : List Header) → walk_of judge most file ≡ Ok hs
      → PassFrom 0 0 (length file) (map (hdu_of file) hs)
  pub walk :
      (most : ℕ) (file : List ℕ) (hs : List Hdu) → flat_map hdu_bytes hs ≡ file → 0 < length hs → length hs ≤ most → PassFrom 0 0 (length file) hs
      → (headers_of most file ≡ Ok (facts_from 0 0 hs)) × (map (hdu_of file) (facts_from 0 0 hs) ≡ hs)
  pub judged :
      (judge : Judge) (most : ℕ) (file : List ℕ) (hs : List Header) → headers_of most file ≡ Ok hs → RefusesNone judge hs
      → stops judge hs ≡ false → walk_of judge most file ≡ Ok hs
  pub verify : VerifyRefusesAsUnpack
  pub list : ListRefusesHeaders

-- and of all laws of files for what is cut of a packed file
pub record CutsLaws : Type 0 where
  pub tables : TablesAreAccepted
  pub stands : TablesStandForImages
  pub become : HdusBecome
  pub back : ComesBack
  pub one : HasOneFirstFault
  pub walks : WalkLaws
  pub whole :
      (judge : Judge) (most : ℕ) (file : List ℕ) (hs : List Header) → walk_of judge most file ≡ Ok hs → stops judge hs ≡ false
      → headers_of most file ≡ Ok hs
