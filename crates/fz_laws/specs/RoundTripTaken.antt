-- What the laws of this crate take from the laws of cards, headers, HDUs, tiles and tables.
use Rattle.std.specs.Prelude.{ℕ, ◌≡◌, ◌↔◌, ◌+◌, ◌%◌, ◌^◌, ◌<◌, ◌≤◌, Bool, true, false, IsTrue, ℤ, pos, List, [], ◌∷◌, ◌++◌, length, map, All, None, Ok, Err}
use Rattle.std.specs.Char.{is_ascii_alphanumeric}
use Rattle.std.specs.List.{flat_map, list_all}
use Rattle.fz_base.specs.Refusal.{first_refusal}
use Rattle.fz_rice.specs.Numbers.{IsWidth}
use Rattle.fz_rice.specs.Prefix.{BeginsWith, BeginsWithCode, IsBeginning}
use Rattle.fz_rice.specs.Reading.{Reading, code_at}
use Rattle.fz_rice.specs.declared.coder.CodeFault.TheVariants.{Ended, Unlawful}
use Rattle.fz_card.specs.Laws.{CardLaws}
use Rattle.fz_block.specs.Checks.{Judge, hdu_end, header_of, headers_of, walk_of}
use Rattle.fz_block.specs.Facts.{IsHeaderOf, begun_at}
use Rattle.fz_block.specs.Hdus.{AreHdusOf, Hdu, IsCardBeforeEnd, cards_of, hdu_bytes, header_bytes}
use Rattle.fz_block.specs.Walk.{AreHeadersBetween, PassFrom, PassesAt, RefusesNone, facts_from, hdu_of, stops}
use Rattle.fz_block.specs.declared.header.Header.{Header}
use Rattle.fz_sum.specs.Cards.{blank_checksum_card, checksum_card, datasum_card}
use Rattle.fz_sum.specs.Characters.{characters}
use Rattle.fz_sum.specs.Sums.{ones_sum}
use Rattle.fz_sum.specs.Texts.{CardGivesSum}
use Rattle.fz_sum.specs.Verdicts.{IsChecksumVerdict, IsDatasumVerdict, checksum_verdict, datasum_verdict}
use Rattle.fz_sum.specs.declared.verdicts.Verdict.{Verdict}
use Rattle.fz_grid.specs.Laws.{DividedArraysHaveTiles, JoinedHasTheTiles, JoinedIsArray}
use Rattle.fz_grid.specs.declared.region.Region.{Region}
use Rattle.fz_tile.specs.Codecs.{CanRead}
use Rattle.fz_tile.specs.Laws.{GivesBytesAgain, GivesPixelsAgain, IsRefusedOnce, StandsUnrefused, StoresPixels}
use Rattle.fz_tile.specs.Record.{IsRecord}
use Rattle.fz_tile.specs.declared.codec.Codec.{Codec}
use Rattle.fz_tile.specs.declared.coded.Place2.{Place2}
use Rattle.fz_checks.specs.JobChecks.{IsImageOf, IsImageToPack, cut_checks, image_in, unpack_checks}
use Rattle.fz_head.specs.PackChecks.{pack_answer}
use Rattle.fz_head.specs.Packable.{is_packed}
use Rattle.fz_head.specs.PackedHeader.{packed_with, sum_cards}
use Rattle.fz_head.specs.Planned.{pack_plan_of}
use Rattle.fz_head.specs.SumCards.{AreSumCards, IsSumCard}
use Rattle.fz_head.specs.ThereAndBack.{IsPacking}
use Rattle.fz_head.specs.declared.options.PackOptions.{PackOptions}
use Rattle.fz_head.specs.declared.plan.Plan.{Plan}
use Rattle.fz_head.specs.declared.totals.Totals.{Totals}
use Rattle.fz_files.specs.Laws.{TablesAreAccepted, TablesPass, TablesStandForImages, TablesWerePrimary}

-- ---- records

-- what is read of bits: a code that they begin with, or why they begin with none
abbrev pub IsReadingOf : ℕ → ℕ → ℕ → List Bool → Reading (List ℤ) → Type 0
IsReadingOf w block n bits (Ok code) = (bytes : ℕ) × (length code.0 ≡ n) × BeginsWith w block code.0 bytes bits
IsReadingOf w block n bits (Err Ended) = IsBeginning w block n bits
IsReadingOf w block n bits (Err Unlawful) = (BeginsWithCode w block n bits → ⊥) × (IsBeginning w block n bits → ⊥)

abbrev pub CodesAreRead : Type 0
CodesAreRead = (w block n : ℕ) (bits : List Bool) → IsWidth w → 1 ≤ block → IsReadingOf w block n bits (code_at w block n bits)

-- what is taken of the laws of tiles for the pixels of a record
pub record PixelLaws : Type 0 where
  pub stored : StoresPixels
  pub again : GivesBytesAgain
  pub rice : CodesAreRead

-- a record stands for at most one list of so many pixels
abbrev pub StandsForOneList : Type 0
StandsForOneList =
    (codec : Codec) (bitpix total : ℕ) (place : Place2) (read : List ℕ) (xs ys : List ℤ) → CanRead codec (pos bitpix) → length ys ≡ length xs
    → IsRecord codec bitpix place total read xs → IsRecord codec bitpix place total read ys → ys ≡ xs

-- and for what is known of a record
pub record KnownLaws : Type 0 where
  pub again : GivesPixelsAgain
  pub rice : CodesAreRead
  pub one_list : StandsForOneList
  pub none : StandsUnrefused
  pub one : IsRefusedOnce

-- ---- walks and images

-- a walk finds headers, one behind the other, of which the judge refuses none
abbrev pub WalkFindsHeaders : Type 0
WalkFindsHeaders =
    (judge : Judge) (most : ℕ) (file : List ℕ) (hs : List Header) → walk_of judge most file ≡ Ok hs
    → (0 < length hs) × (length hs ≤ most) × RefusesNone judge hs × ((end : ℕ) × (end ≤ length file) × AreHeadersBetween 0 0 end file hs)

-- and stops at no HDU but the last
abbrev pub WalkStops : Type 0
WalkStops = (judge : Judge) (most : ℕ) (file : List ℕ) (hs : List Header) (h : Header) → walk_of judge most file ≡ Ok (hs ++ h ∷ []) → stops judge hs ≡ false

-- a packed header of which the checks of `unpack` refuse nothing says an image
abbrev pub UnpackFindsImage : Type 0
UnpackFindsImage =
    (h : Header) (header : List ℕ) (after_empty : Bool) → IsHeaderOf header h → is_packed header h ≡ true
    → first_refusal (unpack_checks h header after_empty) ≡ None → IsImageOf header h (image_in h header)

-- and so does one of which the checks of `cut` refuse nothing
abbrev pub CutFindsImage : Type 0
CutFindsImage =
    (h : Header) (header : List ℕ) (after_empty : Bool) (region : Region) → IsHeaderOf header h
    → first_refusal (cut_checks h header after_empty region) ≡ None → IsImageOf header h (image_in h header)

-- what is taken of the laws of walks, images and tiles
pub record FaultLaws : Type 0 where
  pub pixels : PixelLaws
  pub headers : WalkFindsHeaders
  pub last : WalkStops
  pub unpack : UnpackFindsImage
  pub cut : CutFindsImage

-- what is taken of the laws of faults, arrays and files
pub record RestoringLaws : Type 0 where
  pub faults : FaultLaws
  pub known : KnownLaws
  pub lengths : DividedArraysHaveTiles
  pub whole : JoinedIsArray
  pub tiles : JoinedHasTheTiles

-- ---- the way there and back

-- what is taken of the laws of HDUs that pass
pub record PassingLaws : Type 0 where
  pub tables : TablesPass
  pub moved :
      (k start len start' len' : ℕ) (h : Hdu) → PassesAt k start len h → start' + length (hdu_bytes h) ≤ len'
      → start' + length (hdu_bytes h) ≤ 2 ^ 62 → PassesAt k start' len' h
  pub numbered : (j k start len : ℕ) (h : Hdu) → PassesAt j start len h → 0 < j → 0 < k → k < 65536 → PassesAt k start len h
  pub started :
      (k start len : ℕ) (header : List ℕ) (h : Header) (start' len' : ℕ) → header_of k start len header ≡ Ok h
      → hdu_end k start' header ≤ len' → hdu_end k start' header ≤ 2 ^ 62 → header_of k start' len' header ≡ Ok (begun_at start' h)

-- what is taken of the laws of tables
pub record TableLaws : Type 0 where
  pub accepted : TablesAreAccepted
  pub stands : TablesStandForImages
  pub primary : TablesWerePrimary

-- what is taken of the laws of walks
pub record WalkLaws : Type 0 where
  pub headers : WalkFindsHeaders
  pub whole :
      (judge : Judge) (most : ℕ) (file : List ℕ) (hs : List Header) → walk_of judge most file ≡ Ok hs → stops judge hs ≡ false
      → headers_of most file ≡ Ok hs
  pub pass :
      (judge : Judge) (most : ℕ) (file : List ℕ) (hs : List Header) → walk_of judge most file ≡ Ok hs
      → PassFrom 0 0 (length file) (map (hdu_of file) hs)
  pub converse :
      (most : ℕ) (file : List ℕ) (hs : List Header) (ks : List Hdu) → headers_of most file ≡ Ok hs → AreHdusOf file ks
      → ks ≡ map (hdu_of file) hs
  pub walk :
      (most : ℕ) (file : List ℕ) (hs : List Hdu) → flat_map hdu_bytes hs ≡ file → 0 < length hs → length hs ≤ most → PassFrom 0 0 (length file) hs
      → (headers_of most file ≡ Ok (facts_from 0 0 hs)) × (map (hdu_of file) (facts_from 0 0 hs) ≡ hs)
  pub judged :
      (judge : Judge) (most : ℕ) (file : List ℕ) (hs : List Header) → headers_of most file ≡ Ok hs → RefusesNone judge hs
      → stops judge hs ≡ false → walk_of judge most file ≡ Ok hs

-- what is taken of all three for the way there and back
pub record WayLaws : Type 0 where
  pub passing : PassingLaws
  pub tables : TableLaws
  pub walks : WalkLaws

-- ---- sums

-- what is taken of the laws of cards, sums and headers
pub record SumLaws : Type 0 where
  pub cards : CardLaws
  pub gives : (sum : ℕ) → sum < 2 ^ 32 → CardGivesSum (datasum_card sum) sum
  pub fits : (bytes : List ℕ) → ones_sum bytes < 2 ^ 32
  pub ones :
      (before behind : List ℕ) → length before % 80 ≡ 0
      → ones_sum (before ++ (checksum_card (ones_sum (before ++ (blank_checksum_card ++ behind))) ++ behind)) ≡ 4294967295
  pub letters : (sum : ℕ) → IsTrue (list_all is_ascii_alphanumeric (characters sum))
  pub data_verdict :
      (cards : List (List ℕ)) (payload : List ℕ) (v : Verdict) → IsDatasumVerdict cards payload v ↔ (datasum_verdict cards payload ≡ v)
  pub hdu_verdict :
      (cards : List (List ℕ)) (header payload : List ℕ) (v : Verdict)
      → IsChecksumVerdict cards header payload v ↔ (checksum_verdict cards header payload ≡ v)
  pub datasum : (sum : ℕ) → sum < 2 ^ 32 → IsSumCard (datasum_card sum)
  pub checksum : (sum : ℕ) → IsSumCard (checksum_card sum)
  pub blank : (sums : Bool) → AreSumCards (sum_cards sums)
  pub whole :
      (header : List ℕ) (h : Header) (p : Plan) (s : Totals) (sums : List (List ℕ)) → IsPacking header h p s sums
      → All IsCardBeforeEnd (packed_with (cards_of header) p s sums)
  pub said : (cards : List (List ℕ)) → All IsCardBeforeEnd cards → cards_of (header_bytes cards) ≡ cards
  pub answer :
      (o : PackOptions) (file : List ℕ) (h : Header) → IsImageToPack o file h
      → pack_answer o h (hdu_of file h).header ≡ Ok (pack_plan_of o h)
  pub accepted : TablesAreAccepted
