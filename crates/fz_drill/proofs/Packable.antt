-- `pack` refuses nothing of the file of `drill`.
use Rattle.std.specs.Prelude.{Some, None, Ok, is_some, unwrap_or, bytes_eq}
use Rattle.std.specs.Fmt.{digits}
use Rattle.std.specs.List.{list_any, position, prefix_len, range_with_len}
use Rattle.std.specs.Str.{byte}
use Rattle.std.proofs.Common.{◌≡◌, ℕ, zero, suc, ◌+◌, ◌-◌, ◌*◌, ◌/◌, ◌^◌, ◌==◌, ◌&&◌, ◌||◌, not, nat_lt, nat_le, ◌≤◌, Bool, true, false, cond, List, [], ◌∷◌, ◌++◌, length, take, drop, replicate, codes, if◌then◌else◌, append_assoc, refl, sym, ap, ◌∙◌, arith}
use Rattle.std.proofs.lemmas.Bool.Decides.{nat_tests}
use Rattle.std.proofs.lemmas.List.{length-append}
use Rattle.fz_base.specs.Refusal.{first_refusal, refusal}
use Rattle.fz_base.specs.declared.fault.Fault.{Fault}
use Rattle.fz_base.specs.declared.fault.Place.TheVariants.{Card}
use Rattle.fz_base.specs.declared.kind.Kind.TheVariants.{Limit}
use Rattle.fz_card.specs.Layout.{card_name, padded}
use Rattle.fz_card.specs.Naming.{is_in, is_in_some, is_reserved, number_behind, plain_name}
use Rattle.fz_card.specs.Reading.{has_text, zero_of}
use Rattle.fz_card.specs.Tables.Names.{Numbered}
use Rattle.fz_card.specs.Made.{numbered_name}
use Rattle.fz_card.specs.Tables.{foreign_names, packed_names, renamings}
use Rattle.fz_block.specs.Checks.{unless_refused}
use Rattle.fz_block.specs.Hdus.{Hdu, behind_end, cards_of}
use Rattle.fz_block.specs.Header.{whole_blocks_of}
use Rattle.fz_block.specs.Walk.{hdu_of}
use Rattle.fz_block.specs.declared.header.Header.{Header}
use Rattle.fz_checks.specs.JobChecks.{already_packed, data_fill, fill_in, pack_hdu_checks, pack_header_checks}
use Rattle.fz_checks.specs.Judges.{pack_judge}
use Rattle.fz_head.specs.PackChecks.{fill_place, is_offset, is_plio, is_reserved_card, limit_checks, name_checks, no_totals, offset_check, pack_checks}
use Rattle.fz_head.specs.Packable.{is_packable}
use Rattle.fz_head.specs.PackedHeader.{flag_card, number_card, numbered_number_card, packed_header}
use Rattle.fz_head.specs.Planned.{pack_plan_of}
use Rattle.fz_head.specs.Repeats.{first_repeat, image_names, itself, repeats}
use Rattle.fz_head.specs.declared.options.CodecWord.{CodecWord}
use Rattle.fz_head.specs.declared.options.CodecWord.TheVariants as word
use Rattle.fz_head.specs.declared.options.PackOptions.{PackOptions}
use Rattle.fz_head.specs.declared.plan.Plan.{Plan}
use Rattle.fz_tile.specs.Plain.{plain_bytes}
use Rattle.fz_files.specs.Drill.{drill_options}
use Rattle.fz_drill.specs.Files.{image_cards, image_pixels}
use Rattle.fz_drill.specs.Taken.{FileLaws}
use Rattle.fz_drill.proofs.Cards.{axis_named, simple_named, word_named}
use Rattle.fz_drill.proofs.Pixels.{plain_count}
use Rattle.fz_drill.proofs.PlainFile.{back, hdu_is, plain_data, plain_header_of, reads}
use Rattle.fz_drill.proofs.PlainHeader.{both_none, cons_none, image_facts, size_is}

-- ---- the first of a list, if any

some_cond : (b : Bool) (n : ℕ) → is_some (cond b (Some n) None) ≡ b
some_cond true n = refl
some_cond false n = refl

lt_more : (m n : ℕ) → nat_lt (1 + m) (suc n) ≡ nat_lt m n
lt_more m n = by_test (nat_lt m n) refl
  where
    by_test : (less : Bool) → nat_lt m n ≡ less → nat_lt (1 + m) (suc n) ≡ less
    by_test true e = grind (arith, nat_tests, e)
    by_test false e = grind (arith, nat_tests, e)

any_prefix : {X : Type 0} (p : X → Bool) (xs : List X) → nat_lt (prefix_len (λ x. not (p x)) xs) (length xs) ≡ list_any p xs
any_prefix p [] = refl
any_prefix p (x ∷ xs) = by_test (p x) (any_prefix p xs)
  where
    by_test : (b : Bool) → nat_lt (prefix_len (λ x. not (p x)) xs) (length xs) ≡ list_any p xs →
        nat_lt (cond (not b) (1 + prefix_len (λ x. not (p x)) xs) 0) (suc (length xs)) ≡ (b || list_any p xs)
    by_test true rest = grind (arith, nat_tests)
    by_test false rest = lt_more (prefix_len (λ x. not (p x)) xs) (length xs) ∙ rest

pub any_is : {X : Type 0} (p : X → Bool) (xs : List X) → is_some (position p xs) ≡ list_any p xs
any_is p xs = some_cond (nat_lt (prefix_len (λ x. not (p x)) xs) (length xs)) (prefix_len (λ x. not (p x)) xs) ∙ any_prefix p xs

-- none of many of the same
pub none_same : (p : ℕ → Bool) (n b : ℕ) → p b ≡ false → list_any p (replicate n b) ≡ false
none_same p zero b differs = refl
none_same p (suc n) b differs = ap (λ c. c || list_any p (replicate n b)) differs ∙ none_same p n b differs

none_taken : (p : ℕ → Bool) (k n b : ℕ) → p b ≡ false → list_any p (take k (replicate n b)) ≡ false
none_taken p zero n b differs = refl
none_taken p (suc k) zero b differs = refl
none_taken p (suc k) (suc n) b differs = ap (λ c. c || list_any p (take k (replicate n b))) differs ∙ none_taken p k n b differs

five_false : (a b c d e : Bool) → a ≡ false → b ≡ false → c ≡ false → d ≡ false → e ≡ false → (a || (b || (c || (d || (e || false))))) ≡ false
five_false a b c d e p q r s t = λ i. p i || (q i || (r i || (s i || (t i || false))))

-- ---- the names of the cards

-- what `pack` looks at in a card of this name, which may have the text of the usual name of a table
abbrev reserved_named : List ℕ → Bool → Bool
reserved_named name text =
    is_reserved name
    || (bytes_eq name (padded (codes "XTENSION"))
    || ((is_in (Numbered (codes "NAXIS") 999) name && not (is_in (Numbered (codes "NAXIS") 2) name))
    || (bytes_eq name (padded (codes "EXTNAME")) && text)))

unreserved_by : (name card : List ℕ) → card_name card ≡ name → ((text : Bool) → reserved_named name text ≡ false) → is_reserved_card true 2 card ≡ false
unreserved_by name card is differs =
    let text : Bool = has_text (codes "COMPRESSED_IMAGE") card in
    ap (λ n. reserved_named n text) is ∙ differs text

unoffset_by : (name card : List ℕ) → card_name card ≡ name → bytes_eq name (padded (codes "BZERO")) ≡ false → is_offset card ≡ false
unoffset_by name card is differs = ap (λ n. bytes_eq n (padded (codes "BZERO")) && not (unwrap_or (zero_of card) true)) is ∙ ap (λ b. b && not (unwrap_or (zero_of card) true)) differs

-- whether one of five names that stand once repeats one before it
abbrev any_repeat : List ℕ → List ℕ → List ℕ → List ℕ → List ℕ → Bool
any_repeat a b c d e =
    (is_in_some image_names a && false)
    || ((is_in_some image_names b && (bytes_eq a b || false))
    || ((is_in_some image_names c && (bytes_eq a c || (bytes_eq b c || false)))
    || ((is_in_some image_names d && (bytes_eq a d || (bytes_eq b d || (bytes_eq c d || false))))
    || ((is_in_some image_names e && (bytes_eq a e || (bytes_eq b e || (bytes_eq c e || (bytes_eq d e || false))))) || false))))

simple_free : (text : Bool) → reserved_named (padded (codes "SIMPLE")) text ≡ false
unfolding is_reserved plain_name number_behind numbered_name renamings packed_names foreign_names digits
simple_free text = refl

bitpix_free : (text : Bool) → reserved_named (padded (codes "BITPIX")) text ≡ false
unfolding is_reserved plain_name number_behind numbered_name renamings packed_names foreign_names digits
bitpix_free text = refl

naxis_free : (text : Bool) → reserved_named (padded (codes "NAXIS")) text ≡ false
unfolding is_reserved plain_name number_behind numbered_name renamings packed_names foreign_names digits
naxis_free text = refl

axis1_free : (text : Bool) → reserved_named (padded (codes "NAXIS1")) text ≡ false
unfolding is_reserved plain_name number_behind numbered_name renamings packed_names foreign_names digits
axis1_free text = refl

axis2_free : (text : Bool) → reserved_named (padded (codes "NAXIS2")) text ≡ false
unfolding is_reserved plain_name number_behind numbered_name renamings packed_names foreign_names digits
axis2_free text = refl

none_repeats : any_repeat (padded (codes "SIMPLE")) (padded (codes "BITPIX")) (padded (codes "NAXIS")) (padded (codes "NAXIS1")) (padded (codes "NAXIS2")) ≡ false
unfolding number_behind numbered_name digits
none_repeats = refl

-- ---- the plan

rows_again : (rows : ℕ) → (rows + 0) / 1 * 1 ≡ rows
rows_again rows = omega arith

few_cards : (rows : ℕ) (codec : CodecWord) → nat_lt 9216 (length (packed_header (image_cards 256 rows) (pack_plan_of (drill_options codec) (image_facts 256 rows)) (no_totals false)) + 1) ≡ false
unfolding pack_plan_of packed_header
few_cards rows word.Rice = refl
few_cards rows word.Plio = refl
few_cards rows word.None = refl

four_none : (a b c d : Bool) (f g h k : Fault) → a ≡ false → b ≡ false → c ≡ false → d ≡ false → first_refusal ((a, f) ∷ (b, g) ∷ (c, h) ∷ (d, k) ∷ []) ≡ None
four_none a b c d f g h k p q r s = cons_none a f _ p (cons_none b g _ q (cons_none c h _ r (cons_none d k [] s refl)))

limits_none : (rows : ℕ) (codec : CodecWord) → rows ≤ 16384 → first_refusal (limit_checks (image_facts 256 rows) (pack_plan_of (drill_options codec) (image_facts 256 rows)) false (image_cards 256 rows)) ≡ None
unfolding pack_plan_of
limits_none rows codec few =
    let pixels : nat_lt (2 ^ 40) (256 * (rows * 1)) ≡ false = grind (arith, nat_tests, few) in
    let tiles : nat_lt 2147483647 (1 * ((rows + 0) / 1 * 1)) ≡ false = ap (λ n. nat_lt 2147483647 (1 * n)) (rows_again rows) ∙ few_tiles in
    four_none _ _ _ _ (refusal 0 (Card 2) Limit) (refusal 0 (Card 2) Limit) (refusal 0 (Card 2) Limit) (refusal 0 (Card (length (image_cards 256 rows))) Limit) pixels refl tiles (few_cards rows codec)
  where
    few_tiles : nat_lt 2147483647 (1 * rows) ≡ false
    few_tiles = grind (arith, nat_tests, few)

pub packable : (rows : ℕ) → 1 ≤ rows → is_packable (image_facts 256 rows) ≡ true
unfolding is_packable
packable rows some =
    let test : nat_le 1 rows ≡ true = grind (arith, nat_tests, some) in
    rw test refl

-- ---- the checks

module _ (l : FileLaws) (rows : ℕ) (some : 1 ≤ rows) (few : rows ≤ 16384) where
  n0 : card_name (flag_card (codes "SIMPLE")) ≡ padded (codes "SIMPLE")
  n0 = simple_named l.header

  n1 : card_name (number_card (codes "BITPIX") 16) ≡ padded (codes "BITPIX")
  n1 = word_named l.header (codes "BITPIX") 16 refl

  n2 : card_name (number_card (codes "NAXIS") 2) ≡ padded (codes "NAXIS")
  n2 = word_named l.header (codes "NAXIS") 2 refl

  n3 : card_name (numbered_number_card (codes "NAXIS") 1 256) ≡ padded (codes "NAXIS1")
  n3 = axis_named l.header 1 256 (omega arith)

  n4 : card_name (numbered_number_card (codes "NAXIS") 2 rows) ≡ padded (codes "NAXIS2")
  n4 = axis_named l.header 2 rows (omega arith)

  unreserved : list_any (is_reserved_card true 2) (image_cards 256 rows) ≡ false
  unreserved = five_false _ _ _ _ _ (unreserved_by _ _ n0 simple_free) (unreserved_by _ _ n1 bitpix_free) (unreserved_by _ _ n2 naxis_free) (unreserved_by _ _ n3 axis1_free) (unreserved_by _ _ n4 axis2_free)

  unrepeated : list_any (repeats image_names itself (image_cards 256 rows)) (range_with_len 0 5) ≡ false
  unrepeated = (λ i. any_repeat (n0 i) (n1 i) (n2 i) (n3 i) (n4 i)) ∙ none_repeats

  unoffset : list_any is_offset (image_cards 256 rows) ≡ false
  unoffset = five_false _ _ _ _ _ (unoffset_by _ _ n0 refl) (unoffset_by _ _ n1 refl) (unoffset_by _ _ n2 refl) (unoffset_by _ _ n3 refl) (unoffset_by _ _ n4 refl)

  abbrev pub header : List ℕ
  header = plain_header_of l rows few

  pub names_none : first_refusal (name_checks (image_facts 256 rows) header) ≡ None
  names_none =
      let r = reads l rows few in
      let cards : cards_of header ≡ image_cards 256 rows = r.cards in
      let reserved : is_some (position (is_reserved_card true 2) (cards_of header)) ≡ false = ap (λ cs. is_some (position (is_reserved_card true 2) cs)) cards ∙ (any_is (is_reserved_card true 2) (image_cards 256 rows) ∙ unreserved) in
      let repeated : is_some (first_repeat image_names itself (cards_of header)) ≡ false =
      ap (λ cs. is_some (first_repeat image_names itself cs)) cards ∙ (any_is (repeats image_names itself (image_cards 256 rows)) (range_with_len 0 5) ∙ unrepeated) in
      let blank : ℕ → Bool = λ b. not (b == byte " ") in
      let filled : is_some (fill_place header) ≡ false =
      any_is blank (drop (behind_end header) header) ∙ (ap (list_any blank) r.fill ∙ none_same blank (length header - behind_end header) (byte " ") refl) in
      cons_none _ _ _ reserved (cons_none _ _ _ repeated (cons_none _ _ [] filled refl))

  pub cards_none : (codec : CodecWord) → first_refusal (pack_checks (drill_options codec) (image_facts 256 rows) header) ≡ None
  cards_none codec =
      let o : PackOptions = drill_options codec in
      let p : Plan = pack_plan_of o (image_facts 256 rows) in
      let cards : cards_of header ≡ image_cards 256 rows = (reads l rows few).cards in
      let limits : first_refusal (limit_checks (image_facts 256 rows) p false (cards_of header)) ≡ None =
      ap (λ cs. first_refusal (limit_checks (image_facts 256 rows) p false cs)) cards ∙ limits_none rows codec few in
      let offsets : is_some (position is_offset (cards_of header)) ≡ false = ap (λ cs. is_some (position is_offset cs)) cards ∙ (any_is is_offset (image_cards 256 rows) ∙ unoffset) in
      both_none (name_checks (image_facts 256 rows) header) (limit_checks (image_facts 256 rows) p false (cards_of header) ++ offset_check (image_facts 256 rows) p.codec (cards_of header) ∷ []) names_none
      (both_none (limit_checks (image_facts 256 rows) p false (cards_of header)) (offset_check (image_facts 256 rows) p.codec (cards_of header) ∷ []) limits
      (cons_none _ _ [] (and_false (is_plio p.codec) _ offsets) refl))
    where
      and_false : (a b : Bool) → b ≡ false → (a && b) ≡ false
      and_false true b e = e
      and_false false b e = refl

  module _ (file : List ℕ) (is : file ≡ plain_header_of l rows few ++ plain_data l rows few) where
    abbrev bytes : List ℕ
    bytes = plain_bytes 16 (image_pixels 0 256 rows)

    abbrev zeros : List ℕ
    zeros = replicate (whole_blocks_of (length bytes) - length bytes) 0

    abbrev size : ℕ
    size = 2 * (1 * (0 + 256 * (rows * 1)))

    bytes_count : length bytes ≡ size
    bytes_count = plain_count l.plain_len 0 256 rows ∙ sym (size_is 256 rows)

    fill_is : fill_in file (image_facts 256 rows) ≡ take (2880 + whole_blocks_of size - (2880 + size)) zeros
    fill_is =
        let long : length (plain_header_of l rows few ++ bytes) ≡ 2880 + size = length-append (plain_header_of l rows few) bytes ∙ (λ i. (reads l rows few).long i + bytes_count i) in
        let all : file ≡ (plain_header_of l rows few ++ bytes) ++ zeros = is ∙ sym (append_assoc (plain_header_of l rows few) bytes zeros) in
        let behind : drop (2880 + size) file ≡ zeros = ap (drop (2880 + size)) all ∙ back (2880 + size) (plain_header_of l rows few ++ bytes) zeros long in
        ap (take (2880 + whole_blocks_of size - (2880 + size))) behind

    pub none_refused : (codec : CodecWord) → first_refusal (pack_hdu_checks (drill_options codec) file (image_facts 256 rows)) ≡ None
    none_refused codec =
        let o : PackOptions = drill_options codec in
        let h : Header = image_facts 256 rows in
        let there : (hdu_of file h).header ≡ header = ap (λ (d : Hdu). d.header) (hdu_is l rows few file is) in
        let packs : is_packable h ≡ true = packable rows some in
        let checks : first_refusal (if is_packable h then pack_checks o h (hdu_of file h).header else []) ≡ None =
        ap (λ (b : Bool). first_refusal (if b then pack_checks o h (hdu_of file h).header else [])) packs ∙ (ap (λ hd. first_refusal (pack_checks o h hd)) there ∙ cards_none codec) in
        let zero : ℕ → Bool = λ b. not (b == 0) in
        let filled : is_some (position zero (fill_in file h)) ≡ false = any_is zero (fill_in file h) ∙ (ap (list_any zero) fill_is ∙ none_taken zero (2880 + whole_blocks_of size - (2880 + size)) (whole_blocks_of (length bytes) - length bytes) 0 refl) in
        let fill : first_refusal (if is_packable h then data_fill h (fill_in file h) ∷ [] else []) ≡ None =
        ap (λ (b : Bool). first_refusal (if b then data_fill h (fill_in file h) ∷ [] else [])) packs ∙ cons_none (data_fill h (fill_in file h)).0 (data_fill h (fill_in file h)).1 [] filled refl in
        both_none (pack_header_checks o h (hdu_of file h).header) (if is_packable h then data_fill h (fill_in file h) ∷ [] else [])
        (cons_none (already_packed h (hdu_of file h).header).0 (already_packed h (hdu_of file h).header).1 (if is_packable h then pack_checks o h (hdu_of file h).header else []) refl checks) fill

    pub judged_so : (codec : CodecWord) → pack_judge (drill_options codec) file (image_facts 256 rows) ≡ Ok false
    judged_so codec = ap (unless_refused false) (none_refused codec)
