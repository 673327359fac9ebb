-- Whether a packed image is what `pack` makes of what it stands for, by what was found of the parts of its table.
use Rattle.std.proofs.Common.{◌≡◌, ℕ, zero, suc, ◌+◌, ◌-◌, ◌*◌, ◌^◌, ◌≤◌, ◌==◌, ◌&&◌, Bool, true, false, List, [], ◌++◌, All, length, take, Option, Some, None, IfSome, Result, Ok, Err, IsOk, if◌then◌else◌, refl, sym, ap, ◌∙◌, subst, arith, length-append}
use Rattle.std.proofs.lemmas.Bool.Decides.{Decides-eqb, nat_tests}
use Rattle.std.proofs.lemmas.List.{length-take-le}
use Rattle.fz_base.specs.Refusal.{first_refusal}
use Rattle.fz_base.specs.declared.fault.Fault.{Fault}
use Rattle.fz_card.specs.Made.{int_card_bytes, logical_card_bytes}
use Rattle.std.specs.Fmt.{digits}
use Rattle.fz_block.specs.Cards.{end_among}
use Rattle.fz_block.specs.Checks.{hdu_end, header_checks, header_of}
use Rattle.fz_block.specs.Facts.{IsHeaderOf, facts_of}
use Rattle.fz_block.specs.Header.{data_start_of, next_start_of, whole_blocks_of}
use Rattle.fz_block.specs.Hdus.{Hdu, IsCardBeforeEnd, IsHeader, cards_of, data_len_of, hdu_bytes, header_bytes}
use Rattle.fz_block.specs.Walk.{hdu_of}
use Rattle.fz_block.specs.declared.header.Header.{Header}
use Rattle.fz_files.specs.Packed.{before_table, heap_of, packed_data, packed_table, pixel_bits, table_header, tile_codes, with_sums}
use Rattle.fz_files.specs.Restored.{RowsStandFor, header_in, plan_in}
use Rattle.fz_grid.specs.Arrays.{NumberArray}
use Rattle.fz_head.specs.EmptyPrimary.{empty_primary}
use Rattle.fz_checks.specs.JobChecks.{plan_to_pack}
use Rattle.fz_head.specs.Packable.{is_packable, is_primary}
use Rattle.fz_head.specs.PlainHeader.{plain_header}
use Rattle.fz_head.specs.Planned.{pack_plan_of}
use Rattle.fz_head.specs.declared.options.PackOptions.{PackOptions}
use Rattle.fz_head.specs.declared.plan.Plan.{Plan}
use Rattle.fz_image.specs.Laws.{TablesAreSmall}
use Rattle.fz_image.specs.Layout.{layout_of}
use Rattle.fz_image.specs.Progress.{no_progress}
use Rattle.fz_image.specs.Tiles.{AreCodesFrom}
use Rattle.fz_image.specs.declared.layout.Layout.{Layout}
use Rattle.fz_image.specs.declared.progress.Progress.{Progress}
use Rattle.fz_tile.specs.Plain.{plain_bytes}
use Rattle.fz_tile.specs.TileCode.{TileCode}
use Rattle.fz_strict.specs.Backs.{ComparesRest, ImagesAreCompared, IsBack, IsImageAt, Restores, bytes_back, with_frame}
use Rattle.fz_compare.specs.Compared.{ComparesCodes, ComparesTable, HasCodes, begins_right, has_bytes, has_empty_primary, has_fill, has_frame, has_header}
use Rattle.fz_strict.specs.Origins.{IsOrigin, IsRestored, no_origin, restored_bytes, with_hdu}
use Rattle.fz_strict.specs.SameHdus.{ComesBackAs, header_again, plain_image, table_again}
use Rattle.fz_strict.specs.SameImages.{ComparesFrom, HasHeaderBefore, IsSameAfter, front_before, origin_before}
use Rattle.fz_strict.specs.declared.image.Restored.{Restored}
use Rattle.fz_strict.specs.declared.origin.Origin.{Origin}
use Rattle.fz_strict.proofs.BytesThere.{has_both, has_there}
use Rattle.fz_strict.proofs.Ends.{header_ends}
use Rattle.fz_strict.proofs.Fill.{HasPixels, pixels_len}
use Rattle.fz_strict.proofs.OneHdu.{HeaderLaws}
use Rattle.fz_strict.proofs.Pieces.{both, first, not_both, second}
use Rattle.fz_strict.proofs.PlainTiles.{TileLaws, codes_count, codes_of_plain, plain_codes, plain_stands, u as plain_file}
use Rattle.fz_strict.proofs.Restored.{whole_len}
use Rattle.fz_strict.proofs.Split.{one_split}
use Rattle.fz_strict.proofs.TableBytes.{blocks_len, codes_there, fill_there, header_there, same_table, table_same}
use Rattle.fz_strict.proofs.TableHeaders.{CardLaws, table_is_header}
use Rattle.fz_strict.proofs.Whole.{plan_ok}

-- what is taken of laws
pub record DecidingLaws : Type 0 where
  pub tiles : TileLaws
  pub cards : CardLaws
  pub headers : HeaderLaws
  pub again : (cards : List (List ℕ)) → All IsCardBeforeEnd cards → cards_of (header_bytes cards) ≡ cards
  pub small : TablesAreSmall
  pub planned : (o : PackOptions) (h : Header) (header : List ℕ) (p : Plan) → plan_to_pack o h header ≡ Ok (Some p) → (is_packable h ≡ true) × (p ≡ pack_plan_of o h)
  pub primary : (o : PackOptions) (h : Header) → (pack_plan_of o h).primary ≡ is_primary h.sort
  pub first_is : (header : List ℕ) (h : Header) → IsHeaderOf header h → is_primary h.sort ≡ (h.hdu == 0)

-- ---- a header that comes back

is_ok : (r : Result Header Fault) (f : Header) → r ≡ Ok f → IsOk r
is_ok (Ok f) g e = refl
is_ok (Err fault) g e = absurd cc

facts_are : (k start len : ℕ) (header : List ℕ) (f : Header) → header_of k start len header ≡ Ok f → facts_of k start header ≡ f
unfolding header_of
facts_are k start len header f e = (plan_ok (facts_of k start header) f (first_refusal (header_checks k start len header)) e).1

-- one that comes back as HDU k is restored
to_restored : (o : PackOptions) (file : List ℕ) (b : Origin) (h : Header) → (back : ComesBackAs o file b.hdus b.end h) → IsRestored o b (cards_of (header_in file h)) (plan_in file h) back.facts
to_restored o file b h back =
    let header : List ℕ = header_again file h in
    let ends : hdu_end b.hdus b.end header ≤ 2 ^ 62 = header_ends b.hdus b.end (2 ^ 62) header (is_ok (header_of b.hdus b.end (2 ^ 62) header) back.facts back.found) in
    record { within = omega (arith, ends); found = back.found; plan = back.plan; simple = back.simple }

-- ---- the primary before a packed primary

-- it is a header of one block
empty_header : IsHeader (header_bytes empty_primary)
unfolding end_among int_card_bytes logical_card_bytes digits
empty_header = record { before = 0; blocks = refl; none = refl; has = refl }

empty_len : length (header_bytes empty_primary) ≡ 2880
unfolding int_card_bytes logical_card_bytes digits
empty_len = refl

abbrev E : List ℕ
E = header_bytes empty_primary

module _ (file : List ℕ) (h : Header) (room : h.start ≤ length file) where
  begins : has_empty_primary file h ≡ true → E ≡ take h.start file
  begins has =
      let at : h.start ≡ 2880 = (Decides-eqb h.start 2880).0 (first (h.start == 2880) (has_bytes file 0 h.start E) has) in
      let there = has_there file 0 h.start E (second (h.start == 2880) (has_bytes file 0 h.start E) has) in
      sym there ∙ ap (λ n. take n file) (empty_len ∙ sym at)

  begun : E ≡ take h.start file → has_empty_primary file h ≡ true
  begun same =
      let size : length (take h.start file) ≡ h.start = length-take-le h.start file room in
      let at : h.start ≡ 2880 = omega (arith, size, ap length same, empty_len) in
      let there : take (length E) file ≡ E = ap (λ n. take n file) (ap length same ∙ size) ∙ sym same in
      sym (both (h.start == 2880) (has_bytes file 0 h.start E) ((Decides-eqb h.start 2880).1 at) (has_both file 0 h.start E there (omega (arith, at, empty_len))))

-- what stands before a table and the table, as `pack` writes them
abbrev before_of : Bool → List ℕ
before_of primary = if primary then E else []

table_before : (k : ℕ) → before_table k ≡ before_of (k == 0)
table_before zero = refl
table_before (suc k) = let later : (suc k == 0) ≡ false = grind (arith, nat_tests) in ap before_of (sym later)

-- ---- an image behind HDUs, whose header was restored

module _ (laws : DecidingLaws) (o : PackOptions) (file : List ℕ) (h : Header) (there : IsImageAt file h) (a : NumberArray) (rows : RowsStandFor file h a) (front : HasHeaderBefore file h)
    (b : Origin) (r : Restored) (plain : List ℕ) (is : IsRestored o b (cards_of (header_in file h)) (plan_in file h) r.header) (before : r.before ≡ b)
    (layout : r.layout ≡ layout_of r.header (plan_in file h) (data_start_of h)) (back : IsBack o.sums (cards_of (header_in file h)) (plan_in file h) plain r) where
  abbrev p : Plan
  p = plan_in file h

  abbrev cards : List (List ℕ)
  cards = cards_of (header_in file h)

  abbrev l : Layout
  l = r.layout

  abbrev es : List TileCode
  es = tile_codes p a

  at : l.rows_at ≡ data_start_of h
  at = ap (λ (k : Layout). k.rows_at) layout

  many : length es ≡ l.tiles
  many = codes_count laws.tiles file h there.image a rows l back.layout back.plan_is

  each : AreCodesFrom l 0 es
  each = codes_of_plain laws.tiles file h there.image a rows l back.layout back.plan_is

  all_cards : All IsCardBeforeEnd (plain_header cards)
  all_cards = laws.headers.plain cards (laws.headers.read (header_in file h) there.header.whole)

  cards_back : cards_of (bytes_back r plain) ≡ plain_header cards
  cards_back = ap cards_of back.bytes ∙ laws.again (plain_header cards) all_cards

  small : length (heap_of es) ≤ 2 ^ 43
  small = let few = laws.small l es back.layout each (omega (arith, many)) in omega (arith, few.heap)

  abbrev H : List ℕ
  H = header_bytes (with_sums o.sums (table_header l.plan (plain_header cards) es) (packed_data l.plan es))

  header_whole : IsHeader H
  header_whole =
      subst (λ cs. IsHeader (header_bytes (with_sums o.sums (table_header l.plan cs es) (packed_data l.plan es)))) cards_back
      (table_is_header laws.cards (bytes_back r plain) r.header l.plan es back.header back.simple small o.sums back.plan)

  -- the image was a primary if it comes back as HDU 0
  primary_is : p.primary ≡ (b.hdus == 0)
  primary_is =
      let planned = laws.planned o r.header (restored_bytes cards) p is.plan in
      let facts : facts_of b.hdus b.end (restored_bytes cards) ≡ r.header = facts_are b.hdus b.end (2 ^ 62) (restored_bytes cards) r.header is.found in
      ap (λ (q : Plan). q.primary) planned.1 ∙ laws.primary o r.header ∙ laws.first_is (bytes_back r plain) r.header back.header
      ∙ ap (λ (f : Header). f.hdu == 0) (sym facts)

  table_is : table_again o file h a ≡ H ++ packed_data l.plan es
  unfolding packed_table
  table_is = λ i. header_bytes (with_sums o.sums (table_header (sym back.plan_is i) (plain_header cards) es) (packed_data (sym back.plan_is i) es)) ++ packed_data (sym back.plan_is i) es

  inside : h.start ≤ length file
  inside = omega (arith, there.inside)

  -- the parts of the table are those of the file
  abbrev frame : Bool
  frame = has_frame file h l o.sums (plain_header cards) es

  abbrev fill : Bool
  fill = has_fill file (next_start_of h) l (length (heap_of es))

  abbrev starts : Bool
  starts = begins_right l.plan.primary file h

  abbrev header : Bool
  header = has_header file h H

  starts_by : (primary : Bool) → (primary ≡ true → IsHeader (take h.start file)) → before_of primary ≡ (if primary then take h.start file else []) → begins_right primary file h ≡ true
  starts_by true whole same = begun file h inside same
  starts_by false whole same = refl

  front_by : (primary : Bool) → begins_right primary file h ≡ true → before_of primary ≡ (if primary then take h.start file else [])
  front_by true has = begins file h inside has
  front_by false has = refl

  split_by : (primary : Bool) (X Y : List ℕ) → (primary ≡ true → IsHeader (take h.start file)) → before_of primary ++ X ≡ (if primary then take h.start file else []) ++ Y →
      (before_of primary ≡ (if primary then take h.start file else [])) × (X ≡ Y)
  split_by true X Y whole same = one_split E (take h.start file) X Y empty_header (whole refl) same
  split_by false X Y whole same = (refl, same)

  before_is : before_table b.hdus ≡ before_of p.primary
  before_is = table_before b.hdus ∙ ap before_of (sym primary_is)

  -- if the image is what `pack` makes, they are
  pub parts_there : before_table b.hdus ++ table_again o file h a ≡ front_before file h p ++ hdu_bytes (hdu_of file h) → HasCodes file (next_start_of h) l no_progress es × (frame ≡ true)
  parts_there same =
      let both_parts = split_by p.primary (H ++ packed_data l.plan es) (hdu_bytes (hdu_of file h)) front
      ((λ i. sym before_is i ++ sym table_is i) ∙ same) in
      let table = same_table file h l o.sums (plain_header cards) es at many back.layout.row_len there.inside header_whole there.header.whole both_parts.1 in
      let start : starts ≡ true = subst (λ (q : Plan). begins_right q.primary file h ≡ true) (sym back.plan_is) (starts_by p.primary front both_parts.0) in
      let filled : fill ≡ true = fill_there file h l o.sums (plain_header cards) es at many back.layout.row_len there.inside table.1 in
      let headed : header ≡ true = header_there file h l o.sums (plain_header cards) es at many back.layout.row_len there.inside table.0 in
      (codes_there file h l o.sums (plain_header cards) es at many back.layout.row_len there.inside table.1, sym (both fill (starts && header) filled (sym (both starts header start headed))))

  -- and if they are, it is
  pub there_parts : HasCodes file (next_start_of h) l no_progress es → frame ≡ true → before_table b.hdus ++ table_again o file h a ≡ front_before file h p ++ hdu_bytes (hdu_of file h)
  there_parts has framed =
      let filled : fill ≡ true = first fill (starts && header) framed in
      let rest : (starts && header) ≡ true = second fill (starts && header) framed in
      let start : begins_right p.primary file h ≡ true = subst (λ (q : Plan). begins_right q.primary file h ≡ true) back.plan_is (first starts header rest) in
      let table : H ++ packed_data l.plan es ≡ hdu_bytes (hdu_of file h) =
      table_same file h l o.sums (plain_header cards) es at many back.layout.row_len there.inside has filled (second starts header rest) in
      let before : before_table b.hdus ≡ front_before file h p = before_is ∙ front_by p.primary start in
      λ i. before i ++ (table_is ∙ table) i

  comes_back : IsOrigin b → ComesBackAs o file b.hdus b.end h
  comes_back within = record {
    number = omega (arith, within.hdus);
    short = subst (λ k. length k ≤ 737280) back.bytes back.header.short;
    simple = is.simple;
    facts = r.header;
    found = is.found;
    plan = is.plan;
  }

  -- the image has so many bytes
  abbrev d : Hdu
  d = plain_image file h a

  bytes_len : next_start_of r.header - r.header.start ≡ length (hdu_bytes d)
  bytes_len =
      let facts : facts_of b.hdus b.end (restored_bytes cards) ≡ r.header = facts_are b.hdus b.end (2 ^ 62) (restored_bytes cards) r.header is.found in
      let planned = laws.planned o r.header (restored_bytes cards) p is.plan in
      let packable : is_packable (facts_of b.hdus b.end d.header) ≡ true = ap is_packable facts ∙ planned.0 in
      let plan : pack_plan_of o (facts_of b.hdus b.end d.header) ≡ p = ap (pack_plan_of o) facts ∙ sym planned.1 in
      let has : HasPixels file h d = record { array = a; lengths = rows.lengths; whole = rows.whole; payload = refl } in
      let xs : List ℕ = plain_bytes (pixel_bits p) a.numbers in
      let size : length xs ≡ data_len_of b.hdus d.header = pixels_len laws.tiles.pixels.len o file h b.hdus b.end d there.image.readable packable plan has in
      let said : data_len_of b.hdus d.header ≡ r.header.data_len = ap (λ (f : Header). f.data_len) facts in
      let payload : length d.payload ≡ whole_blocks_of r.header.data_len = blocks_len xs ∙ ap whole_blocks_of (size ∙ said) in
      let header : 2880 * r.header.blocks ≡ length d.header = whole_len (bytes_back r plain) r.header back.header ∙ ap length back.bytes in
      let all : length (hdu_bytes d) ≡ length d.header + length d.payload = length-append d.header d.payload in
      omega (arith, payload, header, all)

  same_after : IsOrigin b → (now : Origin) → HasCodes file (next_start_of h) l no_progress es → frame ≡ true → with_hdu b (next_start_of r.header - r.header.start) ≡ Some now → IsSameAfter o file b h a now
  same_after within now has framed more = record {
    same = record { back = comes_back within; table = there_parts has framed };
    after = ap (with_hdu b) (sym bytes_len) ∙ more;
  }

  -- ---- by what was found

  not_framed : (now : Origin) → (frame ≡ false) → ¬ IsSameAfter o file b h a now
  not_framed now other same = not_both (sym (parts_there same.same.table).1 ∙ other)

  by_frame : IsOrigin b → HasCodes file (next_start_of h) l no_progress es → (framed : Bool) → frame ≡ framed → (more : Option Origin) → with_hdu b (next_start_of r.header - r.header.start) ≡ more →
      (now : Option Origin) → now ≡ (if framed then more else None) → ComparesFrom o file h a (Some b) now
  by_frame within has true framed (Some next) more now is_now = subst (ComparesFrom o file h a (Some b)) (sym is_now) (same_after within next has framed more)
  by_frame within has true framed None more now is_now =
      subst (ComparesFrom o file h a (Some b)) (sym is_now) (λ next same. none_some next (sym more ∙ (ap (with_hdu b) bytes_len ∙ same.after)))
    where
      none_some : (next : Origin) → ◌≡◌ {A = Option Origin} None (Some next) → ⊥
      none_some next e = absurd cc
  by_frame within has false framed more_is more now is_now = subst (ComparesFrom o file h a (Some b)) (sym is_now) (λ next. not_framed next framed)

  -- the table was compared with that of the array
  codes_compared : (w : Option Progress) → ComparesTable file h l w → ComparesCodes file (next_start_of h) l no_progress es w
  codes_compared w table =
      subst (λ cs. ComparesCodes file (next_start_of h) l no_progress cs w) (plain_codes laws.tiles file h there.image a rows l back.layout back.plan_is)
      (table (plain_file laws.tiles file h there.image a rows l back.layout back.plan_is) (plain_stands laws.tiles file h there.image a rows l back.layout back.plan_is))

  pub image_compared : IsOrigin b → (w : Option Progress) (now : Option Origin) → ComparesTable file h l w → ComparesRest file h o.sums plain (Some r) w now → ComparesFrom o file h a (Some b) now
  image_compared within None now table rest =
      subst (ComparesFrom o file h a (Some b)) (sym rest) (λ next same. codes_compared None table (parts_there same.same.table).0)
  image_compared within (Some q) now table rest =
      let here = codes_compared (Some q) table in
      let told : now ≡ with_frame file h o.sums r (cards_of (bytes_back r plain)) es = rest es each many here.1 in
      let plain_told : now ≡ with_frame file h o.sums r (plain_header cards) es = told ∙ ap (λ cs. with_frame file h o.sums r cs es) cards_back in
      let moved : now ≡ (if frame then with_hdu b (next_start_of r.header - r.header.start) else None) =
      plain_told ∙ ap (λ (x : Origin). if frame then with_hdu x (next_start_of r.header - r.header.start) else None) before in
      by_frame within here.0 frame refl (with_hdu b (next_start_of r.header - r.header.start)) refl now moved

-- ---- whatever was before

by_origin : DecidingLaws → (o : PackOptions) (file : List ℕ) (h : Header) → IsImageAt file h → (a : NumberArray) → RowsStandFor file h a → HasHeaderBefore file h → (before : Option Origin) → IfSome before IsOrigin →
    (r : Option Restored) (plain : List ℕ) (w : Option Progress) (now : Option Origin) → Restores o (cards_of (header_in file h)) h (plan_in file h) before r → IfSome r (IsBack o.sums (cards_of (header_in file h)) (plan_in file h) plain) →
    IfSome r (λ x. ComparesTable file h x.layout w) → ComparesRest file h o.sums plain r w now → ComparesFrom o file h a before now
by_origin laws o file h there a rows front None within r plain w now is back table rest =
    (subst (λ (x : Option Restored). ComparesRest file h o.sums plain x w now) is rest)
by_origin laws o file h there a rows front (Some b) within None plain w now is back table rest =
    subst (ComparesFrom o file h a (Some b)) (sym rest) (λ next same. is same.same.back.facts (to_restored o file b h same.same.back))
by_origin laws o file h there a rows front (Some b) within (Some r) plain w now is back table rest =
    image_compared laws o file h there a rows front b r plain is.1 is.0 is.2 back within w now table rest

before_within : (origin : Option Origin) (p : Plan) → IfSome origin IsOrigin → IfSome (origin_before origin p) IsOrigin
before_within origin p is = by_primary p.primary
  where
    by_primary : (primary : Bool) → IfSome (if primary then Some no_origin else origin) IsOrigin
    by_primary true = record { hdus = omega arith; end = omega arith }
    by_primary false = is

pub images_compared : DecidingLaws → ImagesAreCompared
images_compared laws o file h origin r plain w now there within is back table rest = λ a rows front.
    by_origin laws o file h there a rows front (origin_before origin (plan_in file h)) (before_within origin (plan_in file h) within) r plain w now is back table rest
