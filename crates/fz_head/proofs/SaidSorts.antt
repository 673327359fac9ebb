-- What a packed header that was made says of scaling, of its sort and of an offset.
use Rattle.std.proofs.Common.{◌≡◌, ℕ, suc, ◌+◌, ◌<◌, ◌≤◌, Bool, true, false, cond, List, [], ◌∷◌, ◌++◌, length, take, get_or, map, refl, ap, sym, ◌∙◌, arith, inl, inr, zero-add}
use Rattle.std.specs.Prelude.{pos, not, ◌&&◌, Option, Some, None, is_some, unwrap_or, codes, bytes_eq}
use Rattle.std.specs.Fmt.{digits}
use Rattle.std.specs.Option.{option_map}
use Rattle.std.specs.List.{AllByRecursion, find, position, range_with_len}
use Rattle.std.proofs.lemmas.Bool.{and_left, and_right, and_from, and_parts, both_ways}
use Rattle.std.proofs.lemmas.List.FromFn.{length-map-range_with_len, get_or-map-range_with_len}
use Rattle.std.proofs.lemmas.Slice.Eq.{bytes_eq-Decides}
use Rattle.fz_card.specs.Layout.{card_name, padded}
use Rattle.fz_card.specs.Made.{int_card_bytes, logical_card_bytes, text_card_bytes, numbered_name}
use Rattle.fz_card.specs.Naming.{is_dropped, is_reserved, number_behind, plain_name, up_to}
use Rattle.fz_card.specs.Reading.{integer_of, logical_of, text_of, zero_of, is_text}
use Rattle.fz_card.specs.Tables.{own_names, packed_names, renamings, foreign_names}
use Rattle.fz_card.specs.CardLists.{has_name}
use Rattle.fz_card.specs.Laws.{CardLaws}
use Rattle.fz_block.specs.Cards.{card_at, is_named}
use Rattle.fz_block.specs.Facts.{sort_named}
use Rattle.fz_block.specs.Hdus.{size_in}
use Rattle.fz_block.specs.declared.header.Sort.TheVariants.{Image, BinTable, Other}
use Rattle.fz_tile.specs.declared.codec.Codec.{Codec}
use Rattle.fz_tile.specs.declared.codec.Codec.TheVariants.{Rice, Plio, Plain}
use Rattle.fz_head.specs.declared.plan.Plan.{Plan}
use Rattle.fz_head.specs.declared.totals.Totals.{Totals}
use Rattle.fz_head.specs.Packable.{is_image}
use Rattle.fz_head.specs.PackChecks.{is_offset, is_plio}
use Rattle.fz_head.specs.PackedChecks.{names_scaling, is_integer, is_scaling, column_count, scaling_check, sort_checks, line_list_check, has_word}
use Rattle.fz_head.specs.PackedHeader.{codec_name, packed_card, made_cards, parameter_cards, numbered_word_card}
use Rattle.fz_head.specs.PackedPlan.{is_plio_name, word_in}
use Rattle.fz_head.specs.SumCards.{IsSumCard, AreSumCards}
use Rattle.fz_head.proofs.BackAgain.{IsPacked, whole, found_named, primary-is}
use Rattle.fz_head.proofs.CardNames.{new_name, old_name, old-new_name, simple-pair, xtension-pair, pcount-pair, gcount-pair}
use Rattle.fz_head.proofs.FrontCards.{At_first, At_pcount, At_gcount, first_word}
use Rattle.fz_head.proofs.ImageCards.{is_free, false_of, new_card_name, or_false, same_name}
use Rattle.fz_head.proofs.ImageFinds.{image_card, image_cards, each-card, logical_of-packed_card, no-number, none-foreign, text_of-packed_card, zero_of-packed_card}
use Rattle.fz_head.proofs.ImageOnce.{ttype-dropped}
use Rattle.fz_head.proofs.KeptCards.{not_xtension}
use Rattle.fz_head.proofs.MadeCards.{made-dropped, sums-dropped}
use Rattle.fz_head.proofs.MadeFinds.{NoneNamed, first_part, tile_card, tiles, tile-name, none-dropped, tfields-found}
use Rattle.fz_head.proofs.MadeTables.{AreClear}
use Rattle.fz_head.proofs.MadeValues.{number-says, text-says, coded-text, stored-text}
use Rattle.fz_head.proofs.Ranges.{all-append, all-mapped, all-weaker, position_none}
use Rattle.fz_head.proofs.SaidBack.{card-said, codec-said, none-position}
use Rattle.fz_head.proofs.SaidCards.{position-step}
use Rattle.fz_head.proofs.SingleCards.{integer_of-packed_card}

-- an index stands exactly where something is found
some-mapped : (o : Option ℕ) → is_some (option_map suc o) ≡ is_some o
some-mapped None = refl
some-mapped (Some i) = refl

pub same-found : {X : Type 0} (has : X → Bool) (xs : List X) → is_some (position has xs) ≡ is_some (find has xs)
same-found has [] = refl
same-found has (x ∷ xs) = ap is_some (position-step has x xs) ∙ by_test (has x) (same-found has xs)
  where
    by_test : (b : Bool) → is_some (position has xs) ≡ is_some (find has xs) → is_some (cond b (Some 0) (option_map suc (position has xs))) ≡ is_some (cond b (Some x) (find has xs))
    by_test true rest = refl
    by_test false rest = some-mapped (position has xs) ∙ rest

-- the name of a column that tells of scaling
abbrev is_scaled : ℕ → List ℕ → Bool
is_scaled columns card = is_some (up_to columns (number_behind (codes "TTYPE") (card_name card))) && names_scaling (text_of card)

abbrev NoTitle : List (List ℕ) → Type 0
NoTitle cards = AllByRecursion (λ card. bytes_eq (take 5 (card_name card)) (codes "TTYPE") ≡ false) cards

other-title : (columns i : ℕ) (text : List ℕ) → text_of (numbered_word_card (codes "TTYPE") i text) ≡ Some text → names_scaling (Some text) ≡ false → is_scaled columns (numbered_word_card (codes "TTYPE") i text) ≡ false
other-title columns i text says other =
    and_right (is_some (up_to columns (number_behind (codes "TTYPE") (card_name (numbered_word_card (codes "TTYPE") i text))))) (names_scaling (text_of (numbered_word_card (codes "TTYPE") i text))) (ap names_scaling says ∙ other)

tile-title : (i : ℕ) → bytes_eq (take 5 (numbered_name (codes "ZTILE") i)) (codes "TTYPE") ≡ false
unfolding numbered_name
tile-title i = refl

parameters-no-title : (c : Codec) → NoTitle (parameter_cards c)
unfolding int_card_bytes text_card_bytes numbered_name digits
parameters-no-title (Rice block bytepix) = (refl, (refl, (refl, (refl, tt))))
parameters-no-title Plio = tt
parameters-no-title Plain = tt

sum-no-title : (card : List ℕ) → IsSumCard card → bytes_eq (take 5 (card_name card)) (codes "TTYPE") ≡ false
sum-no-title card is = elim is.named [
  | inl e ↦ ap (λ n. bytes_eq (take 5 n) (codes "TTYPE")) e
  | inr e ↦ ap (λ n. bytes_eq (take 5 n) (codes "TTYPE")) e
]

-- names that are no names of the table alone, and reserved or kept
zscale-kept : is_dropped (padded (codes "ZSCALE")) ≡ false
unfolding is_dropped own_names packed_names number_behind
zscale-kept = refl

zzero-kept : is_dropped (padded (codes "ZZERO")) ≡ false
unfolding is_dropped own_names packed_names number_behind
zzero-kept = refl

bzero-kept : is_dropped (padded (codes "BZERO")) ≡ false
unfolding is_dropped own_names packed_names number_behind
bzero-kept = refl

ztension-kept : is_dropped (padded (codes "ZTENSION")) ≡ false
unfolding is_dropped own_names packed_names number_behind
ztension-kept = refl

zscale-foreign : (plain_name (padded (codes "ZSCALE")) ≡ None) × (is_reserved (padded (codes "ZSCALE")) ≡ true)
unfolding plain_name is_reserved renamings packed_names foreign_names number_behind numbered_name digits
zscale-foreign = (refl, refl)

zzero-foreign : (plain_name (padded (codes "ZZERO")) ≡ None) × (is_reserved (padded (codes "ZZERO")) ≡ true)
unfolding plain_name is_reserved renamings packed_names foreign_names number_behind numbered_name digits
zzero-foreign = (refl, refl)

bzero-old : old_name (padded (codes "BZERO")) ≡ padded (codes "BZERO")
unfolding plain_name renamings number_behind numbered_name digits
bzero-old = refl

-- the sort of an image that is an extension
pub image-text : (text : Option (List ℕ)) → is_image (sort_named text) ≡ true → text ≡ Some (codes "IMAGE")
image-text None e = cc
image-text (Some text) e = by_test (bytes_eq text (codes "IMAGE")) refl (bytes_eq text (codes "BINTABLE")) e
  where
    by_test : (b : Bool) → bytes_eq text (codes "IMAGE") ≡ b → (c : Bool) → is_image (cond b Image (cond c BinTable Other)) ≡ true → Some text ≡ Some (codes "IMAGE")
    by_test true t c h = ap Some ((bytes_eq-Decides text (codes "IMAGE")).0 t)
    by_test false t true h = cc
    by_test false t false h = cc

none-of : (o : Option ℕ) → is_some o ≡ false → o ≡ None
none-of None h = refl
none-of (Some i) h = cc

-- by the laws of cards
module _ (laws : CardLaws) where
  other-name : (columns : ℕ) (card : List ℕ) → bytes_eq (take 5 (card_name card)) (codes "TTYPE") ≡ false → is_scaled columns card ≡ false
  other-name columns card other =
      and_left (is_some (up_to columns (number_behind (codes "TTYPE") (card_name card)))) (names_scaling (text_of card))
      (ap (λ o. is_some (up_to columns o)) (sym (laws.numbers.other_stem (codes "TTYPE") (card_name card) other)))

  without-title : (columns : ℕ) (cards : List (List ℕ)) → NoTitle cards → AllByRecursion (λ card. is_scaled columns card ≡ false) cards
  without-title columns cards none = all-weaker (λ card. bytes_eq (take 5 (card_name card)) (codes "TTYPE") ≡ false) (λ card. is_scaled columns card ≡ false) cards (λ card e. other-name columns card e) none

  title-eight : (i : ℕ) → i < 10 → length (numbered_name (codes "TTYPE") i) ≡ 8
  title-eight i few = laws.numbers.eight_bytes (codes "TTYPE") i (omega arith, omega arith)

  first-unscaled : (columns : ℕ) (p : Plan) (s : Totals) → AllByRecursion (λ card. is_scaled columns card ≡ false) (first_part p s)
  unfolding int_card_bytes logical_card_bytes text_card_bytes numbered_name digits number_behind
  first-unscaled columns p s = (
    refl,
    (
      refl,
      (
        refl,
        (
          refl,
          (
            refl,
            (
              refl,
              (
                refl,
                (
                  refl,
                  (
                    other-title columns 1 (codes "COMPRESSED_DATA") (text-says laws (numbered_name (codes "TTYPE") 1) (codes "COMPRESSED_DATA") (title-eight 1 (omega arith)) coded-text) refl,
                    (
                      refl,
                      (
                        other-title columns 2 (codes "UNCOMPRESSED_DATA") (text-says laws (numbered_name (codes "TTYPE") 2) (codes "UNCOMPRESSED_DATA") (title-eight 2 (omega arith)) stored-text) refl,
                        (refl, (refl, (refl, tt))),
                      ),
                    ),
                  ),
                ),
              ),
            ),
          ),
        ),
      ),
    ),
  )

  tiles-no-title : (p : Plan) → p.shape.n ≤ 9 → NoTitle (tiles p)
  tiles-no-title p few = all-mapped (λ card. bytes_eq (take 5 (card_name card)) (codes "TTYPE") ≡ false) (tile_card p) 1 p.shape.n (λ i low high. ap (λ n. bytes_eq (take 5 n) (codes "TTYPE")) (tile-name laws p i (omega arith)) ∙ tile-title i)

  module _ (header : List ℕ) (k : ℕ) (primary : Bool) (n last : ℕ) (p : Plan) (s : Totals) (sums : List (List ℕ)) (is : IsPacked header primary n last (made_cards p s) sums) (few : p.shape.n ≤ 9) (are : AreSumCards sums) where
    abbrev C : List (List ℕ)
    C = whole header last (made_cards p s) sums

    -- what none of the cards is
    everywhere : (P : List ℕ → Type 0) → AllByRecursion P (made_cards p s) → AllByRecursion P (image_cards header last) → AllByRecursion P sums → AllByRecursion P C
    everywhere P made image last_cards = all-append P (made_cards p s) (image_cards header last ++ sums) made (all-append P (image_cards header last) sums image last_cards)

    nowhere : (name : List ℕ) → is_dropped name ≡ false → NoneNamed name (image_cards header last) → NoneNamed name C
    nowhere name kept image = everywhere (λ card. has_name name card ≡ false) (none-dropped name (made_cards p s) kept (made-dropped laws p s few)) image (none-dropped name sums kept (sums-dropped sums are))

    -- no scaling
    scaled-none : (columns : ℕ) → columns ≤ 999 → AllByRecursion (λ card. is_scaled columns card ≡ false) C
    scaled-none columns small =
        everywhere (λ card. is_scaled columns card ≡ false)
        (all-append (λ card. is_scaled columns card ≡ false) (first_part p s) (tiles p ++ parameter_cards p.codec) (first-unscaled columns p s)
        (without-title columns (tiles p ++ parameter_cards p.codec) (all-append (λ card. bytes_eq (take 5 (card_name card)) (codes "TTYPE") ≡ false) (tiles p) (parameter_cards p.codec) (tiles-no-title p few) (parameters-no-title p.codec))))
        (each-card laws header primary n last is.image (λ card. is_scaled columns card ≡ false) (λ i before.
        and_left (is_some (up_to columns (number_behind (codes "TTYPE") (card_name (image_card header i))))) (names_scaling (text_of (image_card header i)))
        (ap is_some (no-number laws header primary n last is.image (codes "TTYPE") columns (λ name h. ttype-dropped name (record { number = h.number; low = h.low; high = omega (arith, h.high); made = h.made })) i before))))
        (without-title columns sums (all-weaker IsSumCard (λ card. bytes_eq (take 5 (card_name card)) (codes "TTYPE") ≡ false) sums sum-no-title are))

    three-none : (columns : ℕ) (cards : List (List ℕ)) → NoneNamed (padded (codes "ZSCALE")) cards → NoneNamed (padded (codes "ZZERO")) cards → AllByRecursion (λ card. is_scaled columns card ≡ false) cards →
        AllByRecursion (λ card. is_scaling columns card ≡ false) cards
    three-none columns [] a b c = tt
    three-none columns (card ∷ cards) a b c = (or_false (is_named (codes "ZSCALE") card) _ a.0 (or_false (is_named (codes "ZZERO") card) _ b.0 c.0), three-none columns cards a.1 b.1 c.1)

    columns-are : column_count C ≡ 2
    columns-are =
        ap (λ c. size_in (integer_of c)) (card-said laws header k primary n last p s sums is (padded (codes "TFIELDS")) _ (tfields-found p s (image_cards header last ++ sums)))
        ∙ ap size_in (number-says laws (padded (codes "TFIELDS")) 2 refl (omega arith))

    pub scaling-clear : AreClear (scaling_check k C ∷ [])
    scaling-clear = (
      ap (λ c. is_some (position (is_scaling c) C)) columns-are
          ∙ ap is_some (none-position (is_scaling 2) C
          (three-none 2 C (nowhere (padded (codes "ZSCALE")) zscale-kept (none-foreign laws header primary n last is.image (padded (codes "ZSCALE")) zscale-foreign.0 zscale-foreign.1))
          (nowhere (padded (codes "ZZERO")) zzero-kept (none-foreign laws header primary n last is.image (padded (codes "ZZERO")) zzero-foreign.0 zzero-foreign.1)) (scaled-none 2 (omega arith)))),
      tt,
    )

    -- no offset beside a line list
    bzero-was : (i : ℕ) → i < last → is_named (codes "BZERO") (image_card header i) ≡ true → is_named (codes "BZERO") (card_at header i) ≡ true
    bzero-was i before t =
        let free = is_free laws header primary n last is.image i before in
        let new : new_name (card_name (card_at header i)) ≡ padded (codes "BZERO") = sym (new_card_name laws header primary n last is.image i before) ∙ (bytes_eq-Decides (card_name (image_card header i)) (padded (codes "BZERO"))).0 t in
        (bytes_eq-Decides (card_name (card_at header i)) (padded (codes "BZERO"))).1 (sym (old-new_name laws (card_name (card_at header i)) free) ∙ (ap old_name new ∙ bzero-old))

    no-offset : position is_offset (map (card_at header) (range_with_len 0 last)) ≡ None → AllByRecursion (λ card. is_offset card ≡ false) C
    no-offset none =
        everywhere (λ card. is_offset card ≡ false)
        (all-weaker (λ card. has_name (padded (codes "BZERO")) card ≡ false) (λ card. is_offset card ≡ false) (made_cards p s) (λ card e. and_left (is_named (codes "BZERO") card) _ e) (none-dropped (padded (codes "BZERO")) (made_cards p s) bzero-kept (made-dropped laws p s few)))
        (each-card laws header primary n last is.image (λ card. is_offset card ≡ false) (λ i before.
        false_of (is_offset (image_card header i)) (λ t.
        let parts = and_parts (is_named (codes "BZERO") (image_card header i)) (not (unwrap_or (zero_of (image_card header i)) true)) t in
        let here : is_offset (get_or (map (card_at header) (range_with_len 0 last)) i []) ≡ false = position_none is_offset (map (card_at header) (range_with_len 0 last)) i [] none (omega (arith, length-map-range_with_len (card_at header) 0 last)) in
        let same : get_or (map (card_at header) (range_with_len 0 last)) i [] ≡ card_at header i = get_or-map-range_with_len (card_at header) 0 last i i [] before (zero-add i) in
        both_ways (is_offset (card_at header i)) (ap is_offset (sym same) ∙ here)
        (and_from (is_named (codes "BZERO") (card_at header i)) (not (unwrap_or (zero_of (card_at header i)) true)) (bzero-was i before parts.0)
        (ap (λ z. not (unwrap_or z true)) (sym (zero_of-packed_card laws (card_at header i) (is_free laws header primary n last is.image i before).eight)) ∙ parts.1)))))
        (all-weaker (λ card. has_name (padded (codes "BZERO")) card ≡ false) (λ card. is_offset card ≡ false) sums (λ card e. and_left (is_named (codes "BZERO") card) _ e) (none-dropped (padded (codes "BZERO")) sums bzero-kept (sums-dropped sums are)))

    line-by : (c : Codec) → p.codec ≡ c → (is_plio c && is_some (position is_offset (map (card_at header) (range_with_len 0 last)))) ≡ false → (is_plio_name (Some (codec_name c)) && is_some (position is_offset C)) ≡ false
    line-by (Rice block bytepix) e none = refl
    line-by Plain e none = refl
    line-by Plio e none = ap is_some (none-position is_offset C (no-offset (none-of (position is_offset (map (card_at header) (range_with_len 0 last))) none)))

    pub line-clear : (is_plio p.codec && is_some (position is_offset (map (card_at header) (range_with_len 0 last)))) ≡ false → AreClear (line_list_check k C ∷ [])
    line-clear none = (ap (λ t. is_plio_name t && is_some (position is_offset C)) (codec-said laws header k primary n last p s sums is) ∙ line-by p.codec refl none, tt)

    -- what the image was
    simple-word : (b : Bool) → primary ≡ b → has_word (codes "ZSIMPLE") C ≡ b
    simple-word b e = same-found (has_name (padded (codes "ZSIMPLE"))) C ∙ primary-is laws header primary n last (made_cards p s) sums is b e

    no-tension : primary ≡ true → has_word (codes "ZTENSION") C ≡ false
    no-tension e =
        ap is_some (none-position (has_name (padded (codes "ZTENSION"))) C (nowhere (padded (codes "ZTENSION")) ztension-kept
        (each-card laws header primary n last is.image (λ card. has_name (padded (codes "ZTENSION")) card ≡ false) (λ i before.
        same_name laws header primary n last is.image i (padded (codes "XTENSION")) (padded (codes "ZTENSION")) before xtension-pair
        ∙ false_of (has_name (padded (codes "XTENSION")) (card_at header i)) (λ t. not_xtension laws header primary n last is.image e i before ((bytes_eq-Decides (card_name (card_at header i)) (padded (codes "XTENSION"))).0 t))))))

    eight : (i : ℕ) → i < last → length (card_name (card_at header i)) ≡ 8
    eight i before = (is_free laws header primary n last is.image i before).eight

    simple-found : primary ≡ true → find (has_name (padded (codes "ZSIMPLE"))) C ≡ Some (packed_card (card_at header 0))
    simple-found e = found_named laws header primary n last (made_cards p s) sums is (padded (codes "SIMPLE")) (padded (codes "ZSIMPLE")) 0 simple-pair (omega (arith, is.enough)) (At_first refl) (is.image.front.first ∙ ap first_word e)

    tension-found : primary ≡ false → find (has_name (padded (codes "ZTENSION"))) C ≡ Some (packed_card (card_at header 0))
    tension-found e = found_named laws header primary n last (made_cards p s) sums is (padded (codes "XTENSION")) (padded (codes "ZTENSION")) 0 xtension-pair (omega (arith, is.enough)) (At_first refl) (is.image.front.first ∙ ap first_word e)

    room : primary ≡ false → last ≡ 5 + (n + is.more)
    room e = is.enough ∙ (ap (λ b. 3 + (n + (cond b 0 2 + is.more))) e ∙ omega arith)

    pcount-found : (e : primary ≡ false) → find (has_name (padded (codes "ZPCOUNT"))) C ≡ Some (packed_card (card_at header (3 + n)))
    pcount-found e = let r = room e in found_named laws header primary n last (made_cards p s) sums is (padded (codes "PCOUNT")) (padded (codes "ZPCOUNT")) (3 + n) pcount-pair (omega arith) (At_pcount e refl) (is.image.front.pcount e)

    gcount-found : (e : primary ≡ false) → find (has_name (padded (codes "ZGCOUNT"))) C ≡ Some (packed_card (card_at header (4 + n)))
    gcount-found e = let r = room e in found_named laws header primary n last (made_cards p s) sums is (padded (codes "GCOUNT")) (padded (codes "ZGCOUNT")) (4 + n) gcount-pair (omega arith) (At_gcount e refl) (is.image.front.gcount e)

    pub primary-clear : (after_empty : Bool) → primary ≡ true → after_empty ≡ true → unwrap_or (logical_of (card_at header 0)) false ≡ true → AreClear (sort_checks k C after_empty)
    primary-clear after_empty e after truth = (
      and_right (has_word (codes "ZSIMPLE") C) (not (unwrap_or (logical_of (word_in (codes "ZSIMPLE") C)) false))
          (ap (λ c. not (unwrap_or (logical_of c) false)) (card-said laws header k primary n last p s sums is (padded (codes "ZSIMPLE")) _ (simple-found e))
          ∙ (ap (λ o. not (unwrap_or o false)) (logical_of-packed_card laws (card_at header 0) (eight 0 (omega (arith, is.enough)))) ∙ ap not truth)),
      (
        and_left (has_word (codes "ZTENSION") C) _ (no-tension e),
        (
          and_right (has_word (codes "ZSIMPLE") C) (not after_empty) (ap not after),
          (
            and_left (not (has_word (codes "ZSIMPLE") C)) _ (ap not (simple-word true e)),
            (and_left (not (has_word (codes "ZSIMPLE") C)) _ (ap not (simple-word true e)), tt),
          ),
        ),
      ),
    )

    pub extension-clear : (after_empty : Bool) → primary ≡ false → text_of (card_at header 0) ≡ Some (codes "IMAGE") → integer_of (card_at header (3 + n)) ≡ Some (pos 0) → integer_of (card_at header (4 + n)) ≡ Some (pos 1) → AreClear (sort_checks k C after_empty)
    extension-clear after_empty e text pcount gcount =
        let r = room e in (
          and_left (has_word (codes "ZSIMPLE") C) _ (simple-word false e),
          (
            and_right (has_word (codes "ZTENSION") C) (not (is_text (codes "IMAGE") (text_of (word_in (codes "ZTENSION") C))))
                (ap (λ c. not (is_text (codes "IMAGE") (text_of c))) (card-said laws header k primary n last p s sums is (padded (codes "ZTENSION")) _ (tension-found e))
                ∙ ap (λ o. not (is_text (codes "IMAGE") o)) (text_of-packed_card laws (card_at header 0) (eight 0 (omega arith)) ∙ text)),
            (
              and_left (has_word (codes "ZSIMPLE") C) _ (simple-word false e),
              (
                and_right (not (has_word (codes "ZSIMPLE") C)) _ (and_right (has_word (codes "ZPCOUNT") C) (not (is_integer (pos 0) (integer_of (word_in (codes "ZPCOUNT") C))))
                    (ap (λ c. not (is_integer (pos 0) (integer_of c))) (card-said laws header k primary n last p s sums is (padded (codes "ZPCOUNT")) _ (pcount-found e))
                    ∙ ap (λ o. not (is_integer (pos 0) o)) (integer_of-packed_card laws (card_at header (3 + n)) (eight (3 + n) (omega arith)) ∙ pcount))),
                (
                  and_right (not (has_word (codes "ZSIMPLE") C)) _ (and_right (has_word (codes "ZGCOUNT") C) (not (is_integer (pos 1) (integer_of (word_in (codes "ZGCOUNT") C))))
                      (ap (λ c. not (is_integer (pos 1) (integer_of c))) (card-said laws header k primary n last p s sums is (padded (codes "ZGCOUNT")) _ (gcount-found e))
                      ∙ ap (λ o. not (is_integer (pos 1) o)) (integer_of-packed_card laws (card_at header (4 + n)) (eight (4 + n) (omega arith)) ∙ gcount))),
                  tt,
                ),
              ),
            ),
          ),
        )
