-- Each card of a packed header that is made has 80 bytes, and none is END.
use Rattle.std.proofs.Common.{◌≡◌, ℕ, ◌-◌, ◌<◌, ◌≤◌, ◌^◌, Bool, true, false, cond, List, ◌++◌, length, map, refl, ap, ◌∙◌, arith, inl, inr}
use Rattle.std.specs.Prelude.{◌⊎◌, codes, slice_index, bytes_eq}
use Rattle.fz_card.specs.Laws.{CardLaws}
use Rattle.fz_card.specs.Layout.{padded}
use Rattle.fz_card.specs.Made.{numbered_name}
use Rattle.fz_block.specs.Hdus.{cards_of, size_at}
use Rattle.std.proofs.lemmas.List.FromFn.{length-map-range_with_len}
use Rattle.fz_block.specs.declared.axes.Axes.{Axes}
use Rattle.fz_block.specs.declared.header.Header.{Header}
use Rattle.fz_grid.specs.Region.{lengths_of}
use Rattle.fz_tile.specs.Codecs.{CanWrite}
use Rattle.fz_tile.specs.declared.codec.Codec.{Codec}
use Rattle.fz_tile.specs.declared.codec.Codec.TheVariants.{Rice, Plio, Plain}
use Rattle.fz_head.specs.declared.plan.Plan.{Plan}
use Rattle.fz_head.specs.declared.totals.Totals.{Totals}
use Rattle.fz_head.specs.PackedHeader.{codec_name, coded_letter, column_cards, descriptor_form, made_cards, packed_card, packed_with, parameter_cards, stored_letter, table_cards, tile_cards}
use Rattle.fz_head.specs.PackedTable.{planned_row, planned_rows}
use Rattle.fz_head.specs.Planned.{asked_tile, cut_tile}
use Rattle.fz_head.specs.SumCards.{IsSumCard}
use Rattle.fz_head.specs.ThereAndBack.{IsPacking}
use Rattle.fz_head.proofs.WholeCards.{IsWholeCard, AreWholeCards}
use Rattle.fz_head.proofs.Accepted.{axes, coded-letter, divided, few, form-fits, packed, stored-letter, tile, values, writable, writes-bytes}
use Rattle.fz_head.proofs.FrontCards.{is_first_hdu}
use Rattle.fz_head.proofs.MadeFinds.{tile_card}
use Rattle.fz_head.proofs.Ranges.{all-append, all-mapped, all-weaker}
use Rattle.fz_head.proofs.SaidBack.{tile-inside}
use Rattle.fz_head.proofs.Whole.{all-map, cards-whole, flag-whole, number-whole, open-word, packed-whole, sum-whole, text-whole}

-- names with numbers are not END
naxis-open : (i : ℕ) → bytes_eq (numbered_name (codes "NAXIS") i) (padded (codes "END")) ≡ false
unfolding numbered_name
naxis-open i = refl

ttype-open : (i : ℕ) → bytes_eq (numbered_name (codes "TTYPE") i) (padded (codes "END")) ≡ false
unfolding numbered_name
ttype-open i = refl

tform-open : (i : ℕ) → bytes_eq (numbered_name (codes "TFORM") i) (padded (codes "END")) ≡ false
unfolding numbered_name
tform-open i = refl

ztile-open : (i : ℕ) → bytes_eq (numbered_name (codes "ZTILE") i) (padded (codes "END")) ≡ false
unfolding numbered_name
ztile-open i = refl

zname-open : (i : ℕ) → bytes_eq (numbered_name (codes "ZNAME") i) (padded (codes "END")) ≡ false
unfolding numbered_name
zname-open i = refl

zval-open : (i : ℕ) → bytes_eq (numbered_name (codes "ZVAL") i) (padded (codes "END")) ≡ false
unfolding numbered_name
zval-open i = refl

row-short : (wide : Bool) → cond wide 32 16 < 10 ^ 18
row-short true = omega arith
row-short false = omega arith

short-name : (c : Codec) → length (codec_name c) ≤ 68
short-name (Rice block bytepix) = omega arith
short-name Plio = omega arith
short-name Plain = omega arith

small-bytes : (b : ℕ) → (b ≡ 1) ⊎ ((b ≡ 2) ⊎ (b ≡ 4)) → b < 10 ^ 18
small-bytes b (inl e) = omega (arith, e)
small-bytes b (inr (inl e)) = omega (arith, e)
small-bytes b (inr (inr e)) = omega (arith, e)

-- by the laws of cards
module _ (laws : CardLaws) where
  eight-naxis : (i : ℕ) → i < 10 → length (numbered_name (codes "NAXIS") i) ≡ 8
  eight-naxis i small = laws.numbers.eight_bytes (codes "NAXIS") i (omega arith, omega arith)

  eight-ttype : (i : ℕ) → i < 10 → length (numbered_name (codes "TTYPE") i) ≡ 8
  eight-ttype i small = laws.numbers.eight_bytes (codes "TTYPE") i (omega arith, omega arith)

  eight-tform : (i : ℕ) → i < 10 → length (numbered_name (codes "TFORM") i) ≡ 8
  eight-tform i small = laws.numbers.eight_bytes (codes "TFORM") i (omega arith, omega arith)

  eight-ztile : (i : ℕ) → i < 10 → length (numbered_name (codes "ZTILE") i) ≡ 8
  eight-ztile i small = laws.numbers.eight_bytes (codes "ZTILE") i (omega arith, omega arith)

  eight-zname : (i : ℕ) → i < 10 → length (numbered_name (codes "ZNAME") i) ≡ 8
  eight-zname i small = laws.numbers.eight_bytes (codes "ZNAME") i (omega arith, omega arith)

  eight-zval : (i : ℕ) → i < 10 → length (numbered_name (codes "ZVAL") i) ≡ 8
  eight-zval i small = laws.numbers.eight_bytes (codes "ZVAL") i (omega arith, omega arith)

  module _ (header : List ℕ) (h : Header) (p : Plan) (s : Totals) (sums : List (List ℕ)) (is : IsPacking header h p s sums) where
    rows-short : planned_rows p < 10 ^ 18
    rows-short = let d = divided laws header h p s sums is in omega (arith, d.tiles)

    table-whole : AreWholeCards (table_cards p s)
    table-whole = (
      text-whole laws (padded (codes "XTENSION")) (codes "BINTABLE") refl (omega arith) (open-word (padded (codes "XTENSION")) refl),
      (
        number-whole laws (padded (codes "BITPIX")) 8 refl (omega arith) (open-word (padded (codes "BITPIX")) refl),
        (
          number-whole laws (padded (codes "NAXIS")) 2 refl (omega arith) (open-word (padded (codes "NAXIS")) refl),
          (
            number-whole laws (numbered_name (codes "NAXIS") 1) (planned_row p) (eight-naxis 1 (omega arith)) (row-short p.wide) (open-word (numbered_name (codes "NAXIS") 1) (naxis-open 1)),
            (
              number-whole laws (numbered_name (codes "NAXIS") 2) (planned_rows p) (eight-naxis 2 (omega arith)) rows-short (open-word (numbered_name (codes "NAXIS") 2) (naxis-open 2)),
              (
                number-whole laws (padded (codes "PCOUNT")) s.heap refl is.totals.heap (open-word (padded (codes "PCOUNT")) refl),
                (
                  number-whole laws (padded (codes "GCOUNT")) 1 refl (omega arith) (open-word (padded (codes "GCOUNT")) refl),
                  (number-whole laws (padded (codes "TFIELDS")) 2 refl (omega arith) (open-word (padded (codes "TFIELDS")) refl), tt),
                ),
              ),
            ),
          ),
        ),
      ),
    )

    columns-whole : AreWholeCards (column_cards p s)
    columns-whole = (
      text-whole laws (numbered_name (codes "TTYPE") 1) (codes "COMPRESSED_DATA") (eight-ttype 1 (omega arith)) (omega arith) (open-word (numbered_name (codes "TTYPE") 1) (ttype-open 1)),
      (
        text-whole laws (numbered_name (codes "TFORM") 1) (descriptor_form p.wide (coded_letter p.codec) s.emax_coded) (eight-tform 1 (omega arith)) (form-fits p.wide (coded_letter p.codec) s.emax_coded _ (coded-letter p.codec) is.totals.coded)
            (open-word (numbered_name (codes "TFORM") 1) (tform-open 1)),
        (
          text-whole laws (numbered_name (codes "TTYPE") 2) (codes "UNCOMPRESSED_DATA") (eight-ttype 2 (omega arith)) (omega arith) (open-word (numbered_name (codes "TTYPE") 2) (ttype-open 2)),
          (
            text-whole laws (numbered_name (codes "TFORM") 2) (descriptor_form p.wide (stored_letter p.bitpix) s.emax_stored) (eight-tform 2 (omega arith)) (form-fits p.wide (stored_letter p.bitpix) s.emax_stored _ (stored-letter p.bitpix (writable laws header h p s sums is).size) is.totals.stored)
                (open-word (numbered_name (codes "TFORM") 2) (tform-open 2)),
            tt,
          ),
        ),
      ),
    )

    tile-short : (i : ℕ) → 1 ≤ i → i ≤ p.shape.n → slice_index p.tile.len (i - 1) < 10 ^ 18
    tile-short i low high =
        let v = values laws header h p s sums is in
        let count : p.shape.n ≡ size_at header 2 = same-axes in
        let inside = tile-inside laws header h.hdu (is_first_hdu h.hdu) (size_at header 2) h.cards p s sums (packed laws header h p s sums is) h.hdu v (axes laws header h p s sums is) (divided laws header h p s sums is)
        (cut_tile (lengths_of h.axes) (asked_tile is.plan.options.tile (lengths_of h.axes))) (tile laws header h p s sums is) i low (omega (arith, count)) in
        omega (arith, inside, v.short i low (omega (arith, count)))
      where
        same-axes : p.shape.n ≡ size_at header 2
        same-axes = ap (λ (a : Axes). a.n) (axes laws header h p s sums is) ∙ length-map-range_with_len (size_at header) 3 (size_at header 2)

    tiles-whole : AreWholeCards (tile_cards p)
    tiles-whole =
        let n = few laws header h p s sums is in (
          flag-whole laws (padded (codes "ZIMAGE")) true refl (open-word (padded (codes "ZIMAGE")) refl),
          (
            text-whole laws (padded (codes "ZCMPTYPE")) (codec_name p.codec) refl (short-name p.codec) (open-word (padded (codes "ZCMPTYPE")) refl),
            all-mapped IsWholeCard (tile_card p) 1 p.shape.n (λ i low high. number-whole laws (numbered_name (codes "ZTILE") i) (slice_index p.tile.len (i - 1)) (eight-ztile i (omega arith)) (tile-short i low (omega arith)) (open-word (numbered_name (codes "ZTILE") i) (ztile-open i))),
          ),
        )

    parameters-by : (c : Codec) → CanWrite c p.bitpix → AreWholeCards (parameter_cards c)
    parameters-by Plio can = tt
    parameters-by Plain can = tt
    parameters-by (Rice block bytepix) can = (
      text-whole laws (numbered_name (codes "ZNAME") 1) (codes "BLOCKSIZE") (eight-zname 1 (omega arith)) (omega arith) (open-word (numbered_name (codes "ZNAME") 1) (zname-open 1)),
      (
        number-whole laws (numbered_name (codes "ZVAL") 1) block (eight-zval 1 (omega arith)) (omega (arith, can.codes.0.1)) (open-word (numbered_name (codes "ZVAL") 1) (zval-open 1)),
        (
          text-whole laws (numbered_name (codes "ZNAME") 2) (codes "BYTEPIX") (eight-zname 2 (omega arith)) (omega arith) (open-word (numbered_name (codes "ZNAME") 2) (zname-open 2)),
          (number-whole laws (numbered_name (codes "ZVAL") 2) bytepix (eight-zval 2 (omega arith)) (small-bytes bytepix (writes-bytes block bytepix p.bitpix can)) (open-word (numbered_name (codes "ZVAL") 2) (zval-open 2)), tt),
        ),
      ),
    )

    pub packed-cards : AreWholeCards (packed_with (cards_of header) p s sums)
    packed-cards =
        all-append IsWholeCard (made_cards p s) (map packed_card (cards_of header) ++ sums)
        (all-append IsWholeCard (table_cards p s) (column_cards p s ++ (tile_cards p ++ parameter_cards p.codec)) table-whole
        (all-append IsWholeCard (column_cards p s) (tile_cards p ++ parameter_cards p.codec) columns-whole
        (all-append IsWholeCard (tile_cards p) (parameter_cards p.codec) tiles-whole (parameters-by p.codec (writable laws header h p s sums is)))))
        (all-append IsWholeCard (map packed_card (cards_of header)) sums (all-map IsWholeCard IsWholeCard packed_card (cards_of header) (packed-whole laws) (cards-whole header is.is_header.whole))
        (all-weaker IsSumCard IsWholeCard sums sum-whole is.sums_are))
