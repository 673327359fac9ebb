-- Cards that a packed header has of itself, found by their names, and names that it has not.
use Rattle.std.proofs.Common.{◌≡◌, ℕ, ◌-◌, ◌<◌, ◌≤◌, ◌^◌, true, false, List, [], ◌∷◌, ◌++◌, map, sym, refl, ap, ◌∙◌, arith, inl, inr}
use Rattle.std.specs.Prelude.{pos, Some, codes, slice_index, bytes_eq}
use Rattle.std.specs.Fmt.{digits}
use Rattle.std.specs.List.{AllByRecursion, find, range_with_len}
use Rattle.std.proofs.lemmas.Bool.{both_ways}
use Rattle.std.proofs.lemmas.List.{append_assoc}
use Rattle.std.proofs.lemmas.Slice.Eq.{bytes_eq-Decides}
use Rattle.fz_card.specs.Layout.{card_name, padded}
use Rattle.fz_card.specs.Made.{int_card_bytes, logical_card_bytes, text_card_bytes, numbered_name}
use Rattle.fz_card.specs.Naming.{is_dropped}
use Rattle.fz_card.specs.CardLists.{has_name}
use Rattle.fz_card.specs.Laws.{CardLaws}
use Rattle.fz_tile.specs.declared.codec.Codec.{Codec}
use Rattle.fz_tile.specs.declared.codec.Codec.TheVariants.{Rice, Plio, Plain}
use Rattle.fz_head.specs.declared.plan.Plan.{Plan}
use Rattle.fz_head.specs.declared.totals.Totals.{Totals}
use Rattle.fz_head.specs.PackedHeader.{coded_letter, stored_letter, codec_name, descriptor_form, number_card, flag_card, word_card, numbered_number_card, numbered_word_card, table_cards, column_cards, parameter_cards, made_cards}
use Rattle.fz_head.specs.SumCards.{IsDroppedCard, IsSumCard, AreDropped, AreSumCards}
use Rattle.fz_head.proofs.ImageCards.{false_of}
use Rattle.fz_head.proofs.Ranges.{found_first, found_here, found_later, all-append, all-mapped, all-weaker}

-- no card of a list has this name
abbrev pub NoneNamed : List ℕ → List (List ℕ) → Type 0
NoneNamed name cards = AllByRecursion (λ card. has_name name card ≡ false) cards

-- the cards before those of the tile, and those of the tile
abbrev pub first_part : Plan → Totals → List (List ℕ)
first_part p s = table_cards p s ++ (column_cards p s ++ (flag_card (codes "ZIMAGE") ∷ word_card (codes "ZCMPTYPE") (codec_name p.codec) ∷ []))

abbrev pub tile_card : Plan → ℕ → List ℕ
tile_card p i = numbered_number_card (codes "ZTILE") i (slice_index p.tile.len (i - 1))

abbrev pub tiles : Plan → List (List ℕ)
tiles p = map (tile_card p) (range_with_len 1 p.shape.n)

pub made-parts : (p : Plan) (s : Totals) (rest : List (List ℕ)) → made_cards p s ++ rest ≡ first_part p s ++ (tiles p ++ (parameter_cards p.codec ++ rest))
made-parts p s rest = ap (λ l. first_part p s ++ l) (append_assoc (tiles p) (parameter_cards p.codec) rest)

module _ (p : Plan) (s : Totals) (rest : List (List ℕ)) where
  pub zimage-found : find (has_name (padded (codes "ZIMAGE"))) (made_cards p s ++ rest) ≡ Some (flag_card (codes "ZIMAGE"))
  unfolding int_card_bytes logical_card_bytes text_card_bytes numbered_name digits
  zimage-found = refl

  pub zcmptype-found : find (has_name (padded (codes "ZCMPTYPE"))) (made_cards p s ++ rest) ≡ Some (word_card (codes "ZCMPTYPE") (codec_name p.codec))
  unfolding int_card_bytes logical_card_bytes text_card_bytes numbered_name digits
  zcmptype-found = refl

  pub tfields-found : find (has_name (padded (codes "TFIELDS"))) (made_cards p s ++ rest) ≡ Some (number_card (codes "TFIELDS") 2)
  unfolding int_card_bytes logical_card_bytes text_card_bytes numbered_name digits
  tfields-found = refl

  pub ttype1-found : find (has_name (numbered_name (codes "TTYPE") 1)) (made_cards p s ++ rest) ≡ Some (numbered_word_card (codes "TTYPE") 1 (codes "COMPRESSED_DATA"))
  unfolding int_card_bytes logical_card_bytes text_card_bytes numbered_name digits
  ttype1-found = refl

  pub tform1-found : find (has_name (numbered_name (codes "TFORM") 1)) (made_cards p s ++ rest) ≡ Some (numbered_word_card (codes "TFORM") 1 (descriptor_form p.wide (coded_letter p.codec) s.emax_coded))
  unfolding int_card_bytes logical_card_bytes text_card_bytes numbered_name digits
  tform1-found = refl

  pub ttype2-found : find (has_name (numbered_name (codes "TTYPE") 2)) (made_cards p s ++ rest) ≡ Some (numbered_word_card (codes "TTYPE") 2 (codes "UNCOMPRESSED_DATA"))
  unfolding int_card_bytes logical_card_bytes text_card_bytes numbered_name digits
  ttype2-found = refl

  pub tform2-found : find (has_name (numbered_name (codes "TFORM") 2)) (made_cards p s ++ rest) ≡ Some (numbered_word_card (codes "TFORM") 2 (descriptor_form p.wide (stored_letter p.bitpix) s.emax_stored))
  unfolding int_card_bytes logical_card_bytes text_card_bytes numbered_name digits
  tform2-found = refl

-- no card of the first part is that of a tile's length
pub first-no-tile : (p : Plan) (s : Totals) (i : ℕ) → NoneNamed (numbered_name (codes "ZTILE") i) (first_part p s)
unfolding int_card_bytes logical_card_bytes text_card_bytes numbered_name digits
first-no-tile p s i = (refl, (refl, (refl, (refl, (refl, (refl, (refl, (refl, (refl, (refl, (refl, (refl, (refl, (refl, tt))))))))))))))

-- the parameters are after the tile's lengths
behind-tiles : (name : List ℕ) (p : Plan) (s : Totals) (rest : List (List ℕ)) → NoneNamed name (first_part p s) → NoneNamed name (tiles p) → find (has_name name) (made_cards p s ++ rest) ≡ find (has_name name) (parameter_cards p.codec ++ rest)
behind-tiles name p s rest first mid =
    ap (find (has_name name)) (made-parts p s rest)
    ∙ (found_later (has_name name) (first_part p s) (tiles p ++ (parameter_cards p.codec ++ rest)) first
    ∙ found_later (has_name name) (tiles p) (parameter_cards p.codec ++ rest) mid)

zval-no-tile : (k i : ℕ) → bytes_eq (numbered_name (codes "ZTILE") i) (numbered_name (codes "ZVAL") k) ≡ false
unfolding numbered_name
zval-no-tile k i = refl

zname-no-tile : (k i : ℕ) → bytes_eq (numbered_name (codes "ZTILE") i) (numbered_name (codes "ZNAME") k) ≡ false
unfolding numbered_name
zname-no-tile k i = refl

first-no-zval : (p : Plan) (s : Totals) (k : ℕ) → NoneNamed (numbered_name (codes "ZVAL") k) (first_part p s)
unfolding int_card_bytes logical_card_bytes text_card_bytes numbered_name digits
first-no-zval p s k = (refl, (refl, (refl, (refl, (refl, (refl, (refl, (refl, (refl, (refl, (refl, (refl, (refl, (refl, tt))))))))))))))

-- no card of the table alone has a name that comes back
pub dropped-other : (name card : List ℕ) → is_dropped name ≡ false → IsDroppedCard card → has_name name card ≡ false
dropped-other name card kept is =
    false_of (has_name name card) (λ t. both_ways (is_dropped name) kept (ap is_dropped (sym ((bytes_eq-Decides (card_name card) name).0 t)) ∙ is))

pub none-dropped : (name : List ℕ) (cards : List (List ℕ)) → is_dropped name ≡ false → AreDropped cards → NoneNamed name cards
none-dropped name cards kept are = all-weaker IsDroppedCard (λ card. has_name name card ≡ false) cards (λ card d. dropped-other name card kept d) are

-- THEAP stands in no packed header that is made
theap-no-tile : (i : ℕ) → bytes_eq (numbered_name (codes "ZTILE") i) (padded (codes "THEAP")) ≡ false
unfolding numbered_name
theap-no-tile i = refl

theap-no-parameter : (c : Codec) → NoneNamed (padded (codes "THEAP")) (parameter_cards c)
unfolding int_card_bytes text_card_bytes numbered_name digits
theap-no-parameter (Rice block bytepix) = (refl, (refl, (refl, (refl, tt))))
theap-no-parameter Plio = tt
theap-no-parameter Plain = tt

theap-not-first : (p : Plan) (s : Totals) → NoneNamed (padded (codes "THEAP")) (first_part p s)
unfolding int_card_bytes logical_card_bytes text_card_bytes numbered_name digits
theap-not-first p s = (refl, (refl, (refl, (refl, (refl, (refl, (refl, (refl, (refl, (refl, (refl, (refl, (refl, (refl, tt))))))))))))))

-- a card of a sum has no other name
pub none-of-sums : (name : List ℕ) (cards : List (List ℕ)) → bytes_eq (padded (codes "DATASUM")) name ≡ false → bytes_eq (padded (codes "CHECKSUM")) name ≡ false → AreSumCards cards → NoneNamed name cards
none-of-sums name cards datasum checksum are = all-weaker IsSumCard (λ card. has_name name card ≡ false) cards other are
  where
    other : (card : List ℕ) → IsSumCard card → has_name name card ≡ false
    other card is = elim is.named [
      | inl e ↦ ap (λ n. bytes_eq n name) e ∙ datasum
      | inr e ↦ ap (λ n. bytes_eq n name) e ∙ checksum
    ]

-- by the laws of cards
module _ (laws : CardLaws) where
  -- two numbers after a stem make two names
  pub numbers-apart : (stem : List ℕ) (i k : ℕ) → 1 ≤ i → i < 2 ^ 64 → 1 ≤ k → k < 2 ^ 64 → numbered_name stem i ≡ numbered_name stem k → i ≡ k
  numbers-apart stem i k low_i high_i low_k high_k same =
      let one = laws.numbers.made_number stem (numbered_name stem i) i low_i high_i refl in
      let two = laws.numbers.made_number stem (numbered_name stem i) k low_k high_k same in
      let e : Some i ≡ Some k = sym one ∙ two in
      cc

  -- the name of a tile's card
  pub tile-name : (p : Plan) (i : ℕ) → i < 10 → card_name (tile_card p i) ≡ numbered_name (codes "ZTILE") i
  tile-name p i few = laws.made.integer_name (numbered_name (codes "ZTILE") i) (pos (slice_index p.tile.len (i - 1))) (laws.numbers.eight_bytes (codes "ZTILE") i (omega arith, omega arith))

  has-tile-name : (p : Plan) (i k : ℕ) → i < 10 → numbered_name (codes "ZTILE") i ≡ numbered_name (codes "ZTILE") k → has_name (numbered_name (codes "ZTILE") k) (tile_card p i) ≡ true
  has-tile-name p i k few same = (bytes_eq-Decides (card_name (tile_card p i)) (numbered_name (codes "ZTILE") k)).1 (tile-name p i few ∙ same)

  other-tile-name : (p : Plan) (i k : ℕ) → 1 ≤ i → i < k → k < 10 → has_name (numbered_name (codes "ZTILE") k) (tile_card p i) ≡ false
  other-tile-name p i k low less few =
      false_of (has_name (numbered_name (codes "ZTILE") k) (tile_card p i)) (λ t.
      let same : i ≡ k = numbers-apart (codes "ZTILE") i k low (omega arith) (omega arith) (omega arith) (sym (tile-name p i (omega arith)) ∙ (bytes_eq-Decides (card_name (tile_card p i)) (numbered_name (codes "ZTILE") k)).0 t) in
      absurd (omega arith))

  pub ztile-found : (p : Plan) (s : Totals) (rest : List (List ℕ)) (k : ℕ) → p.shape.n ≤ 9 → 1 ≤ k → k ≤ p.shape.n → find (has_name (numbered_name (codes "ZTILE") k)) (made_cards p s ++ rest) ≡ Some (tile_card p k)
  ztile-found p s rest k few low high =
      let name = numbered_name (codes "ZTILE") k in
      ap (find (has_name name)) (made-parts p s rest)
      ∙ (found_later (has_name name) (first_part p s) (tiles p ++ (parameter_cards p.codec ++ rest)) (first-no-tile p s k)
      ∙ found_here (has_name name) (tiles p) (parameter_cards p.codec ++ rest) (tile_card p k)
      (found_first (has_name name) (tile_card p) 1 p.shape.n k low (omega arith) (has-tile-name p k k (omega arith) refl) (λ i l below. other-tile-name p i k l below (omega arith))))

  -- a value is none of a tile's lengths
  no-tile : (p : Plan) (name : List ℕ) → p.shape.n ≤ 9 → ((i : ℕ) → bytes_eq (numbered_name (codes "ZTILE") i) name ≡ false) → NoneNamed name (tiles p)
  no-tile p name few other = all-mapped (λ card. has_name name card ≡ false) (tile_card p) 1 p.shape.n (λ i low high. ap (λ n. bytes_eq n name) (tile-name p i (omega arith)) ∙ other i)

  module _ (p : Plan) (s : Totals) (rest : List (List ℕ)) (block bytepix : ℕ) (few : p.shape.n ≤ 9) (rice : p.codec ≡ Rice block bytepix) where
    pub zval1-found : find (has_name (numbered_name (codes "ZVAL") 1)) (made_cards p s ++ rest) ≡ Some (numbered_number_card (codes "ZVAL") 1 block)
    unfolding int_card_bytes text_card_bytes numbered_name digits
    zval1-found =
        behind-tiles (numbered_name (codes "ZVAL") 1) p s rest (first-no-zval p s 1) (no-tile p (numbered_name (codes "ZVAL") 1) few (zval-no-tile 1))
        ∙ ap (λ c. find (has_name (numbered_name (codes "ZVAL") 1)) (parameter_cards c ++ rest)) rice

    pub zval2-found : find (has_name (numbered_name (codes "ZVAL") 2)) (made_cards p s ++ rest) ≡ Some (numbered_number_card (codes "ZVAL") 2 bytepix)
    unfolding int_card_bytes text_card_bytes numbered_name digits
    zval2-found =
        behind-tiles (numbered_name (codes "ZVAL") 2) p s rest (first-no-zval p s 2) (no-tile p (numbered_name (codes "ZVAL") 2) few (zval-no-tile 2))
        ∙ ap (λ c. find (has_name (numbered_name (codes "ZVAL") 2)) (parameter_cards c ++ rest)) rice

  pub no-theap : (p : Plan) (s : Totals) → p.shape.n ≤ 9 → NoneNamed (padded (codes "THEAP")) (made_cards p s)
  no-theap p s few =
      all-append (λ card. has_name (padded (codes "THEAP")) card ≡ false) (first_part p s) (tiles p ++ parameter_cards p.codec) (theap-not-first p s)
      (all-append (λ card. has_name (padded (codes "THEAP")) card ≡ false) (tiles p) (parameter_cards p.codec) (no-tile p (padded (codes "THEAP")) few theap-no-tile) (theap-no-parameter p.codec))
