-- Each HDU of a packed file stands for one HDU only.
use Rattle.std.specs.Prelude.{All, unsigned_abs}
use Rattle.std.proofs.Common.{◌≡◌, inl, inr, ℕ, ◌+◌, ◌*◌, ◌<◌, Bool, true, false, ℤ, pos, List, [], ◌∷◌, length, Result, Ok, refl, sym, subst, ◌∙◌, ap}
use Rattle.std.proofs.lemmas.List.Elements.{All-from_recursion}
use Rattle.std.specs.List.{AllByRecursion}
use Rattle.fz_base.specs.declared.fault.Fault.{Fault}
use Rattle.fz_block.specs.Hdus.{HasBlankFill, Hdu, IsCardBeforeEnd, IsHeader, cards_of, hdu_bytes, header_bytes}
use Rattle.fz_block.specs.Header.{whole_blocks_of}
use Rattle.fz_block.specs.Walk.{hdu_of}
use Rattle.fz_block.specs.declared.header.Header.{Header}
use Rattle.fz_grid.specs.Arrays.{NumberArray}
use Rattle.fz_grid.specs.Division.{AreTileLengths}
use Rattle.fz_grid.specs.Grid.{tile, tile_count}
use Rattle.fz_grid.specs.Laws.{DividedArraysHaveTiles, TilesMakeOneArray}
use Rattle.fz_grid.specs.Region.{lengths_of}
use Rattle.fz_table.specs.Records.{record_bytes}
use Rattle.fz_table.specs.declared.record.Record.{Record}
use Rattle.fz_tile.specs.Codecs.{CanRead}
use Rattle.fz_tile.specs.Pixels.{IsBitpix}
use Rattle.fz_tile.specs.Record.{IsRecord}
use Rattle.fz_tile.specs.declared.codec.Codec.{Codec}
use Rattle.fz_tile.specs.declared.coded.Place2.{Place2}
use Rattle.fz_checks.specs.JobChecks.{IsImageOf, image_in}
use Rattle.fz_head.specs.PlainHeader.{plain_header}
use Rattle.fz_head.specs.declared.plan.Plan.{Plan}
use Rattle.fz_files.specs.Packed.{pixel_bits}
use Rattle.fz_files.specs.Restored.{HduStandsFor, RecordMeans, RowStandsFor, RowsStandFor, StandsForAs, header_in, image_bytes, is_image, place_in, plan_in}
use Rattle.fz_files.specs.Walks.{headers_for}
use Rattle.fz_files.specs.declared.job.Job.TheVariants.{Unpack}
use Rattle.fz_strict.specs.Laws.{HdusStandForOne}
use Rattle.fz_strict.specs.SameHdus.{IsPlainAs, StandsForOne, plain_image}
use Rattle.fz_strict.proofs.HeadersRead.{IsRead, PackedImages, are_read}
use Rattle.fz_strict.specs.Taken.{WalkLaws}
use Rattle.fz_strict.proofs.Split.{one_split}

-- what is taken of the laws of cards
pub record HeaderLaws : Type 0 where
  pub read : (header : List ℕ) → IsHeader header → All IsCardBeforeEnd (cards_of header)
  pub plain : (cards : List (List ℕ)) → All IsCardBeforeEnd cards → All IsCardBeforeEnd (plain_header cards)
  pub made :
      (cards : List (List ℕ)) → All IsCardBeforeEnd cards →
      IsHeader (header_bytes cards) × HasBlankFill (header_bytes cards) × (length (header_bytes cards) ≡ whole_blocks_of (80 * (length cards + 1)))

-- the header of the image is one
pub restored_header : HeaderLaws → (header : List ℕ) → IsHeader header → IsHeader (header_bytes (plain_header (cards_of header)))
restored_header laws header is = (laws.made (plain_header (cards_of header)) (laws.plain (cards_of header) (laws.read header is))).0

-- what is taken of the laws of records, tiles and images
pub record ImageLaws : Type 0 where
  pub record_ :
      (codec : Codec) (bitpix total : ℕ) (place : Place2) (read : List ℕ) (xs ys : List ℤ) → CanRead codec (pos bitpix) → length ys ≡ length xs →
      IsRecord codec bitpix place total read xs → IsRecord codec bitpix place total read ys → ys ≡ xs
  pub arrays : TilesMakeOneArray
  pub tiles : DividedArraysHaveTiles
  pub images : PackedImages
  pub headers : HeaderLaws

-- the image of a header, of which no check refuses anything
abbrev IsReadable : List ℕ → Header → Type 0
IsReadable file h = IsImageOf (header_in file h) h (image_in h (header_in file h))

pub bits_are : (codec : Codec) (bitpix : ℤ) → CanRead codec bitpix → CanRead codec (pos (unsigned_abs bitpix))
bits_are codec bitpix can = by_size can.size
  where
    by_size : IsBitpix bitpix → CanRead codec (pos (unsigned_abs bitpix))
    by_size (inl e) = subst (λ b. CanRead codec (pos (unsigned_abs b))) (sym e) (subst (CanRead codec) e can)
    by_size (inr (inl e)) = subst (λ b. CanRead codec (pos (unsigned_abs b))) (sym e) (subst (CanRead codec) e can)
    by_size (inr (inr (inl e))) = subst (λ b. CanRead codec (pos (unsigned_abs b))) (sym e) (subst (CanRead codec) e can)
    by_size (inr (inr (inr e))) = subst (λ b. CanRead codec (pos (unsigned_abs b))) (sym e) (subst (CanRead codec) e can)

same_record : (found other : Record) (r : Result Record Fault) → r ≡ Ok found → r ≡ Ok other → found ≡ other
same_record found other r e f = cc

module _ (laws : ImageLaws) (file : List ℕ) (h : Header) where
  abbrev p : Plan
  p = plan_in file h

  one_row : IsReadable file h → (t : ℕ) (xs ys : List ℤ) → RowStandsFor file h t xs → RowStandsFor file h t ys → ys ≡ xs
  one_row is t xs ys a b =
      let same : b.found ≡ a.found = same_record b.found a.found _ b.chosen a.chosen in
      laws.record_ p.codec (pixel_bits p) a.found.total (place_in a.found.column) (record_bytes file a.found) xs ys (bits_are p.codec p.bitpix is.readable)
      (b.count ∙ sym a.count) a.means (subst (λ (f : Record). RecordMeans file p f ys) same b.means)

  one_array : IsReadable file h → (a b : NumberArray) → RowsStandFor file h a → RowsStandFor file h b → a ≡ b
  one_array is a b of_a of_b =
      laws.arrays a b (lengths_of p.tile) (subst (λ l. AreTileLengths l (lengths_of p.tile)) (sym of_a.lengths) (laws.tiles p.shape p.tile is.divided))
      of_a.whole of_b.whole (of_a.lengths ∙ sym of_b.lengths)
      (λ t less.
      let inside : t < tile_count (lengths_of p.shape) (lengths_of p.tile) = subst (λ l. t < tile_count l (lengths_of p.tile)) of_a.lengths less in
      sym (one_row is t (tile a (lengths_of p.tile) t) (tile b (lengths_of p.tile) t) (of_a.tiles t inside) (of_b.tiles t inside)))

  one_bytes : (is_image file h ≡ true → IsReadable file h) → (x y : List ℕ) → HduStandsFor file h x → HduStandsFor file h y → x ≡ y
  one_bytes is x y of_x of_y = by_packed (is_image file h) is of_x of_y
    where
      by_packed : (packed : Bool) → (packed ≡ true → IsReadable file h) → StandsForAs packed file h x → StandsForAs packed file h y → x ≡ y
      by_packed true is of_x of_y =
          let same : of_x.array ≡ of_y.array = one_array (is refl) of_x.array of_y.array of_x.rows of_y.rows in
          of_x.image ∙ (ap (image_bytes p (cards_of (header_in file h))) same ∙ sym of_y.image)
      by_packed false is of_x of_y = of_x ∙ sym of_y

  one_plain : IsRead file h → (d : Hdu) → IsHeader d.header → HduStandsFor file h (hdu_bytes d) → IsPlainAs (is_image file h) file h d
  one_plain is d header stands = by_packed (is_image file h) refl stands
    where
      same_hdu : (e : Hdu) → IsHeader e.header → hdu_bytes d ≡ hdu_bytes e → d ≡ e
      same_hdu e other same = let both =
          one_split d.header e.header d.payload e.payload header other same in λ i. record { header = both.0 i; payload = both.1 i }

      by_packed : (packed : Bool) → is_image file h ≡ packed → StandsForAs packed file h (hdu_bytes d) → IsPlainAs packed file h d
      by_packed true packed image = λ a rows.
          let same : image.array ≡ a = one_array (is.image packed) image.array a image.rows rows in
          same_hdu (plain_image file h a) (restored_header laws.headers (header_in file h) is.header.whole) (image.image
          ∙ ap (image_bytes p (cards_of (header_in file h))) same)
      by_packed false packed copied = same_hdu (hdu_of file h) is.header.whole copied

  pub one_of : IsRead file h → StandsForOne file h
  one_of is = record { array = λ packed. one_array (is.image packed); bytes = one_bytes is.image; hdu = one_plain is }

all_of : ImageLaws → (file : List ℕ) (hs : List Header) → AllByRecursion (IsRead file) hs → AllByRecursion (StandsForOne file) hs
all_of laws file [] are = tt
all_of laws file (h ∷ hs) are = (one_of laws file h are.0, all_of laws file hs are.1)

pub hdus_stand_for_one : WalkLaws → ImageLaws → HdusStandForOne
hdus_stand_for_one w laws file sound =
    let hs : List Header = headers_for Unpack file in
    All-from_recursion (StandsForOne file) hs (all_of laws file hs (are_read w laws.images file sound))
