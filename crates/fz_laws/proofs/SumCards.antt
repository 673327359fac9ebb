-- The cards of sums of a packed table: no card before them has their names, and what they say is right.
use Rattle.std.proofs.Common.{◌≡◌, ◌≢◌, ℕ, zero, suc, ◌+◌, ◌-◌, ◌/◌, ◌^◌, ◌<◌, ◌≤◌, inl, inr, ◌==◌, ◌&&◌, not, max, Bool, true, false, ℤ, pos, negsuc, neg_ℤ, List, [], ◌∷◌, ◌++◌, length, map, take, drop, slice_index, slice_index_or, codes, Option, Some, None, if◌then◌else◌, refl, sym, subst, ap, ◌∙◌, arith, length-append}
use Rattle.std.specs.Prelude.{unwrap_or}
use Rattle.std.specs.List.{AllByRecursion, list_all, range_with_len}
use Rattle.std.specs.Str.Parse.{AllDigits, digits_value}
use Rattle.std.proofs.Math.Nat.{div-le_self}
use Rattle.std.proofs.lemmas.List.{get_or-take, take-append-drop, take_at}
use Rattle.std.proofs.lemmas.Str.Parse.{digits_value_short, numerals_by_value, tells_digits}
use Rattle.fz_card.specs.CardLists.{IsFirstOfName}
use Rattle.fz_card.specs.Laws.{CardLaws}
use Rattle.fz_card.specs.Layout.{card_name, padded}
use Rattle.fz_card.specs.Made.{int_card_bytes, logical_card_bytes, numbered_name, text_card_bytes}
use Rattle.fz_card.specs.Naming.{is_dropped, packed_name}
use Rattle.fz_card.specs.Reading.{integer_of}
use Rattle.fz_card.specs.Tables.{IsDropped, IsRenamed, Renames, Renaming, SomeRenames, own_names, renamings}
use Rattle.fz_card.specs.Tables.Renaming.{Words, Stems}
use Rattle.fz_card.specs.Value.{IsIntegerText, IsShort, Signs}
use Rattle.fz_block.specs.Hdus.{size_in}
use Rattle.fz_sum.specs.Cards.{checksum_name, datasum_name}
use Rattle.fz_tile.specs.TileCode.{TileCode}
use Rattle.fz_tile.specs.declared.codec.Codec.{Codec}
use Rattle.fz_tile.specs.declared.codec.Codec.TheVariants.{Rice, Plio, Plain}
use Rattle.fz_checks.specs.Greatest.{greatest}
use Rattle.fz_head.specs.PackedHeader.{codec_name, column_cards, flag_card, made_cards, numbered_number_card, packed_card, parameter_cards, table_cards, tile_cards, word_card}
use Rattle.fz_head.specs.PackedTable.{coded_unit}
use Rattle.fz_head.specs.Planned.{pixel_len}
use Rattle.fz_head.specs.declared.plan.Plan.{Plan}
use Rattle.fz_head.specs.declared.totals.Totals.{Totals}
use Rattle.fz_files.specs.Packed.{coded_count, heap_of, is_coded, stored_count}
use Rattle.fz_laws.proofs.Tests.{and_true, eq_false, not_true}

-- ---- a number that a card says has at most 18 digits

neg_short : (n : ℕ) → n < 10 ^ 18 → IsShort (neg_ℤ (pos n))
neg_short zero less = less
neg_short (suc n) less = less

signed_short : (sign : List ℕ) (n : ℕ) (v : ℤ) → n < 10 ^ 18 → Signs sign n v → IsShort v
signed_short sign n v less (inl (plus, is)) = subst IsShort (sym is) less
signed_short sign n v less (inr (minus, is)) = subst IsShort (sym is) (neg_short n less)

text_short : (text : List ℕ) (v : ℤ) → IsIntegerText text v → IsShort v
text_short text v is =
    signed_short is.sign (digits_value 10 is.digits) v (digits_value_short (numerals_by_value (AllDigits 10) tells_digits) is.digits 18 is.numeral.1 is.short) is.signs

pub said_short : CardLaws → (card : List ℕ) → size_in (integer_of card) < 10 ^ 18
said_short laws card = by_value (integer_of card) refl
  where
    size_short : (v : ℤ) → IsShort v → size_in (Some v) < 10 ^ 18
    size_short (pos n) less = less
    size_short (negsuc n) less = less

    by_value : (o : Option ℤ) → integer_of card ≡ o → size_in o < 10 ^ 18
    by_value None e = omega arith
    by_value (Some v) e = let has = (laws.values.integer card v).1 e in size_short v (text_short has.text v has.is)

-- ---- the greatest counts are no greater than the heap

greatest_within : (f : TileCode → ℕ) → ((e : TileCode) → f e ≤ length e.bytes) → (es : List TileCode) → greatest (map f es) ≤ length (heap_of es)
unfolding heap_of
greatest_within f few [] = omega arith
greatest_within f few (e ∷ es) =
    let rest = greatest_within f few es in
    let both : length (e.bytes ++ heap_of es) ≡ length e.bytes + length (heap_of es) = length-append e.bytes (heap_of es) in
    let here = few e in
    larger (f e) (greatest (map f es)) (length e.bytes) (length (heap_of es)) (length (e.bytes ++ heap_of es)) here rest both
  where
    larger : (a b c d whole : ℕ) → a ≤ c → b ≤ d → whole ≡ c + d → max a b ≤ whole
    larger a b c d whole first second all = omega (arith, first, second, all)

count_within : (coded : Bool) (n unit : ℕ) → (if coded then n / unit else 0) ≤ n
count_within true n unit = div-le_self n unit
count_within false n unit = omega arith

other_within : (coded : Bool) (n unit : ℕ) → (if coded then 0 else n / unit) ≤ n
other_within true n unit = omega arith
other_within false n unit = div-le_self n unit

pub coded_few : (p : Plan) (es : List TileCode) → greatest (map (coded_count p) es) ≤ length (heap_of es)
coded_few p es = greatest_within (coded_count p) (λ e. count_within (is_coded e.place) (length e.bytes) (coded_unit p.codec)) es

pub stored_few : (p : Plan) (es : List TileCode) → greatest (map (stored_count p) es) ≤ length (heap_of es)
stored_few p es = greatest_within (stored_count p) (λ e. other_within (is_coded e.place) (length e.bytes) (pixel_len p.bitpix)) es

-- ---- cards of other names

-- a card has neither name
abbrev pub IsOther : List ℕ → Type 0
IsOther card = (card_name card ≢ datasum_name) × (card_name card ≢ checksum_name)

abbrev pub AreOthers : List (List ℕ) → Type 0
AreOthers cards = AllByRecursion IsOther cards

-- its first letter is neither C nor D
abbrev begins_other : List ℕ → Bool
begins_other card = not (slice_index card 0 == 67) && not (slice_index card 0 == 68)

named_by_first : (card : List ℕ) → begins_other card ≡ true → IsOther card
named_by_first card e =
    let both = and_true (not (slice_index card 0 == 67)) (not (slice_index card 0 == 68)) e in
    let some : 0 < 8 = omega arith in
    let same : slice_index (card_name card) 0 ≡ slice_index card 0 = get_or-take 8 card 0 0 some in (
      λ is. eq_false (slice_index card 0) 68 (not_true (slice_index card 0 == 68) both.1) (sym same ∙ ap (λ l. slice_index l 0) is),
      λ is. eq_false (slice_index card 0) 67 (not_true (slice_index card 0 == 67) both.0) (sym same ∙ ap (λ l. slice_index l 0) is),
    )

others_by : (cards : List (List ℕ)) → list_all begins_other cards ≡ true → AreOthers cards
others_by [] e = tt
others_by (card ∷ cards) e = let both = and_true (begins_other card) (list_all begins_other cards) e in (named_by_first card both.0, others_by cards both.1)

pub others_append : (xs ys : List (List ℕ)) → AreOthers xs → AreOthers ys → AreOthers (xs ++ ys)
others_append [] ys a b = b
others_append (x ∷ xs) ys a b = (a.0, others_append xs ys a.1 b)

table_others : (p : Plan) (s : Totals) → AreOthers (table_cards p s)
unfolding int_card_bytes text_card_bytes numbered_name
table_others p s = others_by (table_cards p s) refl

column_others : (p : Plan) (s : Totals) → AreOthers (column_cards p s)
unfolding text_card_bytes numbered_name
column_others p s = others_by (column_cards p s) refl

parameter_others : (codec : Codec) → AreOthers (parameter_cards codec)
unfolding int_card_bytes text_card_bytes numbered_name
parameter_others (Rice block bytepix) = others_by (parameter_cards (Rice block bytepix)) refl
parameter_others Plio = tt
parameter_others Plain = tt

tile_others : (p : Plan) → AreOthers (tile_cards p)
unfolding int_card_bytes text_card_bytes logical_card_bytes numbered_name
tile_others p = (named_by_first (flag_card (codes "ZIMAGE")) refl, (named_by_first (word_card (codes "ZCMPTYPE") (codec_name p.codec)) refl, lengths 1 p.shape.n))
  where
    lengths : (a n : ℕ) → AreOthers (map (λ i. numbered_number_card (codes "ZTILE") i (slice_index p.tile.len (i - 1))) (range_with_len a n))
    lengths a zero = tt
    lengths a (suc n) = (named_by_first (numbered_number_card (codes "ZTILE") a (slice_index p.tile.len (a - 1))) refl, lengths (a + 1) n)

pub made_others : (p : Plan) (s : Totals) → AreOthers (made_cards p s)
made_others p s =
    others_append (table_cards p s) (column_cards p s ++ (tile_cards p ++ parameter_cards p.codec)) (table_others p s)
    (others_append (column_cards p s) (tile_cards p ++ parameter_cards p.codec) (column_others p s)
    (others_append (tile_cards p) (parameter_cards p.codec) (tile_others p) (parameter_others p.codec)))

-- ---- cards of an image under their names in a packed header

LongLine : Renaming → Type 0
LongLine (Words plain packed) = length (padded packed) ≡ 8
LongLine (Stems plain packed last) = (i : ℕ) → i ≤ last → length (numbered_name packed i) ≡ 8

AreLong : List Renaming → Type 0
AreLong [] = Unit {0}
AreLong (line ∷ lines) = LongLine line × AreLong lines

long_by : (line : Renaming) (a b : List ℕ) → LongLine line → Renames line a b → length b ≡ 8
unfolding LongLine
long_by (Words plain packed) a b long is = ap length is.1 ∙ long
long_by (Stems plain packed last) a b long is = ap length is.packed_made ∙ long is.number is.high

long_in : (lines : List Renaming) (a b : List ℕ) → AreLong lines → SomeRenames lines a b → length b ≡ 8
unfolding AreLong
long_in [] a b long is = absurd is
long_in (line ∷ lines) a b long (inl is) = long_by line a b long.0 is
long_in (line ∷ lines) a b long (inr is) = long_in lines a b long.1 is

renamed_long : CardLaws → (a b : List ℕ) → packed_name a ≡ Some b → length b ≡ 8
unfolding IsRenamed renamings LongLine AreLong
renamed_long laws a b e =
    long_in renamings a b
    (refl, (refl, (refl, (refl, (refl, (refl, (refl, (refl, (refl, (refl, ((λ i most. laws.numbers.eight_bytes (codes "ZNAXIS") i (omega arith, omega (arith, most))), tt)))))))))))
    (laws.names.packed_renamed a b e)

pub no_clash : (b : Bool) → b ≡ true → b ≡ false → ⊥
no_clash b e f = absurd (let clash : true ≡ false = sym e ∙ f in cc)

none_some : (o : Option (List ℕ)) (z : List ℕ) → o ≡ Some z → o ≡ None → ⊥
none_some o z e f = absurd cc

not_named : CardLaws → (name other card : List ℕ) → is_dropped name ≡ true → packed_name name ≡ Some other → card_name (packed_card card) ≡ name → ⊥
not_named laws name other card dropped renamed is = by_name (packed_name (card_name card)) refl is
  where
    by_name : (o : Option (List ℕ)) → packed_name (card_name card) ≡ o → card_name (unwrap_or o (card_name card) ++ drop 8 card) ≡ name → ⊥
    by_name None e is =
        let same : card_name card ≡ name = sym (ap (take 8) (take-append-drop 8 card)) ∙ is in
        none_some (packed_name name) other renamed (ap packed_name (sym same) ∙ e)
    by_name (Some b) e is =
        let same : b ≡ name = sym (take_at b (drop 8 card) 8 (renamed_long laws (card_name card) b e)) ∙ is in
        no_clash (is_dropped name) dropped (ap is_dropped (sym same) ∙ laws.names.renamed_kept (card_name card) b e)

datasum_dropped : CardLaws → is_dropped datasum_name ≡ true
unfolding IsDropped own_names
datasum_dropped laws = laws.names.named_dropped datasum_name (inl (inr (inr (inr (inr (inr (inr (inr (inl refl)))))))))

checksum_dropped : CardLaws → is_dropped checksum_name ≡ true
unfolding IsDropped own_names
checksum_dropped laws = laws.names.named_dropped checksum_name (inl (inr (inr (inr (inr (inr (inr (inl refl))))))))

datasum_renamed : CardLaws → packed_name datasum_name ≡ Some (padded (codes "ZDATASUM"))
unfolding IsRenamed renamings
datasum_renamed laws = (laws.names.renamed datasum_name (padded (codes "ZDATASUM")) (inr (inr (inr (inr (inr (inr (inr (inr (inr (inl (refl, refl)))))))))))).to_packed

checksum_renamed : CardLaws → packed_name checksum_name ≡ Some (padded (codes "ZHECKSUM"))
unfolding IsRenamed renamings
checksum_renamed laws = (laws.names.renamed checksum_name (padded (codes "ZHECKSUM")) (inr (inr (inr (inr (inr (inr (inr (inr (inl (refl, refl))))))))))).to_packed

pub packed_others : CardLaws → (cards : List (List ℕ)) → AreOthers (map packed_card cards)
packed_others laws [] = tt
packed_others laws (card ∷ cards) = (
  (
    not_named laws datasum_name (padded (codes "ZDATASUM")) card (datasum_dropped laws) (datasum_renamed laws),
    not_named laws checksum_name (padded (codes "ZHECKSUM")) card (checksum_dropped laws) (checksum_renamed laws),
  ),
  packed_others laws cards,
)

-- ---- the first card of a name

abbrev pub AreNamedElse : List ℕ → List (List ℕ) → Type 0
AreNamedElse name cards = AllByRecursion (λ card. card_name card ≢ name) cards

pub first_behind : (name : List ℕ) (front : List (List ℕ)) (card : List ℕ) (more : List (List ℕ)) → AreNamedElse name front → card_name card ≡ name → IsFirstOfName name (front ++ card ∷ more) card
first_behind name [] card more none is =
    let some : 0 < length (card ∷ more) = omega arith in
    record { index = 0; within = some; stands = refl; named = is; first = λ i less. absurd (omega (arith, less)) }
first_behind name (c ∷ front) card more none is =
    let rest = first_behind name front card more none.1 is in
    let within : suc rest.index < length (c ∷ (front ++ card ∷ more)) = omega (arith, rest.within) in
    record { index = suc rest.index; within = within; stands = rest.stands; named = is; first = λ i less. earlier rest i less }
  where
    earlier : (rest : IsFirstOfName name (front ++ card ∷ more) card) (i : ℕ) → i < suc rest.index → card_name (slice_index_or (c ∷ (front ++ card ∷ more)) i []) ≢ name
    earlier rest zero less = none.0
    earlier rest (suc i) less = rest.first i (omega (arith, less))
