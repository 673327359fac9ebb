-- The row that a first fault names is one of the table of a packed image, and lies in the file.
use Rattle.std.specs.Prelude.{⊤, unwrap_or}
use Rattle.std.proofs.Common.{◌≡◌, ◌⊎◌, inl, inr, ℕ, zero, suc, pos, ℤ, ◌+◌, ◌*◌, ◌<◌, ◌≤◌, ◌==◌, ◌||◌, not, Bool, true, false, cond, List, [], ◌∷◌, ◌++◌, length, map, get_or, All, Contains, Option, Some, None, Result, Ok, Err, IsOk, if◌then◌else◌, refl, sym, subst, ◌∙◌, ap, arith}
use Rattle.std.specs.List.{AllByRecursion, filter, flat_map, range_with_len}
use Rattle.std.specs.Ordering.{int_eq}
use Rattle.std.proofs.Math.Nat.{mul-le-mul_left}
use Rattle.std.proofs.lemmas.Bool.Decides.{Decides-int_eq, nat_tests}
use Rattle.std.proofs.lemmas.List.Elements.{All-contains, All-contains_itself, Contains-push, recursion_from_All}
use Rattle.std.proofs.lemmas.List.FromFn.{length-map-range_with_len}
use Rattle.fz_base.specs.Refusal.{first_refusal}
use Rattle.fz_base.specs.declared.fault.Fault.{Fault}
use Rattle.fz_base.specs.declared.fault.Place.TheVariants.{Row as AtRow}
use Rattle.fz_card.specs.Reading.{integer_of}
use Rattle.fz_block.specs.Cards.{card_at}
use Rattle.fz_block.specs.Checks.{Judge, hdu_at, unless_refused, walk_of}
use Rattle.fz_block.specs.Facts.{IsHeaderOf, nine_axes}
use Rattle.fz_block.specs.Hdus.{array_len, axes_of, cards_of, data_len_of, gcount_of, pcount_of, size_at, size_in}
use Rattle.fz_block.specs.Header.{next_start_of}
use Rattle.fz_block.specs.Walk.{AreHeadersBetween, RefusesNone, is_stop, stops}
use Rattle.fz_block.specs.declared.header.Header.{Header}
use Rattle.fz_grid.specs.Overlap.{has_pixel}
use Rattle.fz_grid.specs.Region.{lengths_of}
use Rattle.fz_grid.specs.Sieve.{sieve_hi, sieve_lo, sieve_step, tile_picks}
use Rattle.fz_grid.specs.declared.region.Region.{Region}
use Rattle.fz_grid.specs.declared.sieve.Sieve.{Sieve}
use Rattle.fz_table.specs.Records.{chosen_record, record_of, row_checks}
use Rattle.fz_table.specs.Rows.{row_at}
use Rattle.fz_table.specs.Tables.{array_checks, bad_table, rows_len_of, table_checks}
use Rattle.fz_table.specs.declared.record.Tile.{Tile}
use Rattle.fz_table.specs.declared.row.Row.{Row}
use Rattle.fz_table.specs.declared.table.Table.{Table}
use Rattle.fz_checks.specs.JobChecks.{IsImageOf, box_checks, cut_checks, cut_hdu_checks, image_checks, image_in, is_after_empty, missing_hdu, not_packed, packed_card_checks, unpack_checks, unpack_hdu_checks}
use Rattle.fz_checks.specs.Judges.{cut_judge, is_wanted, unpack_judge}
use Rattle.fz_head.specs.Packable.{is_packed, is_table}
use Rattle.fz_head.specs.PackedChecks.{packed_checks}
use Rattle.fz_head.specs.TableChecks.{compressed_table, repeated_table_names, table_card_checks}
use Rattle.fz_files.specs.declared.job.Job.{Job}
use Rattle.fz_files.specs.declared.job.Job.TheVariants.{Pack, Unpack, Cut, Verify, List as ListHdus, Drill, Retile}
use Rattle.fz_files.specs.FirstFault.{ImageRow, IsFirstRowFault, IsRowFault, all_rows, image_row, picked_rows, rows_for, rows_of}
use Rattle.fz_files.specs.Packed.{tiles_in}
use Rattle.fz_files.specs.Restored.{header_in, image_table, is_image, plan_in, tile_of}
use Rattle.fz_files.specs.Walks.{box_of, cut_end_fault, fault_of_walk, found_headers, header_fault, headers_for, job_walk, last_of, missing_of}
use Rattle.fz_laws.specs.Places.{RowLies}
use Rattle.fz_laws.proofs.PlaceChecks.{back_passed, first_clear, front_passed, refused_is, rest_clear}
use Rattle.fz_laws.proofs.PlaceHeaders.{BlocksAreFound, HduIsFound, Stands, hdu_stands}

-- ---- a row

abbrev IsOfRow : ℕ → ℕ → Fault → Type 0
IsOfRow hdu row x = (x.hdu ≡ hdu) × (x.at ≡ AtRow row)

record_fault : (hdu row : ℕ) (t : Table) (r : Row) (tile : Tile) (x : Fault) → record_of hdu row t r tile ≡ Err x → IsOfRow hdu row x
unfolding record_of
record_fault hdu row t r tile x e =
    refused_is (IsOfRow hdu row) ⊤ (chosen_record t r tile) (row_checks hdu row t r tile) x (λ _. (refl, refl), λ _. (λ _. (refl, refl), λ _. (λ _. (refl, refl), λ _. tt))) e

row_fault : (file : List ℕ) (r : ImageRow) (x : Fault) → IsRowFault file r x → IsOfRow r.header.hdu r.row x
row_fault file r x (inl refused) = record_fault r.header.hdu r.row (image_table file r.header) (row_at file (image_table file r.header) r.row) (tile_of (plan_in file r.header) r.row) x refused
row_fault file r x (inr (why, faulty, is)) = (ap (λ (y : Fault). y.hdu) is, ap (λ (y : Fault). y.at) is)

-- what each of some rows is
abbrev pub EachRow : (ImageRow → Type 0) → List ImageRow → Type 0
EachRow P [] = ⊤
EachRow P (r ∷ rs) = P r × EachRow P rs

faulty_row : (P : ImageRow → Type 0) (file : List ℕ) (rs : List ImageRow) (x : Fault) → EachRow P rs → IsFirstRowFault file rs (Some x) → (r : ImageRow) × P r × IsRowFault file r x
faulty_row P file [] x each first = absurd first
faulty_row P file (r ∷ rs) x each (inl refused) = (r, each.0, refused)
faulty_row P file (r ∷ rs) x each (inr later) = faulty_row P file rs x each.1 later.1

-- ---- rows of a packed image

each_append : (P : ImageRow → Type 0) (rs more : List ImageRow) → EachRow P rs → EachRow P more → EachRow P (rs ++ more)
each_append P [] more a b = b
each_append P (r ∷ rs) more a b = (a.0, each_append P rs more a.1 b)

module _ (P : ImageRow → Type 0) (h : Header) (m : ℕ) (all : (row : ℕ) → row < m → P (image_row h row)) where
  pub each_tile : (a n : ℕ) → a + n ≤ m → EachRow P (map (image_row h) (range_with_len a n))
  each_tile a zero few = tt
  each_tile a (suc n) few = (all a (omega (arith, few)), each_tile (a + 1) n (omega (arith, few)))

  each_picked : (test : ℕ → Bool) (a n : ℕ) → a + n ≤ m → EachRow P (map (image_row h) (filter test (range_with_len a n)))
  each_picked test a zero few = tt
  each_picked test a (suc n) few = by_test (test a) (each_picked test (a + 1) n (omega (arith, few)))
    where
      by_test : (b : Bool) → EachRow P (map (image_row h) (filter test (range_with_len (a + 1) n))) →
          EachRow P (map (image_row h) (cond b (a ∷ filter test (range_with_len (a + 1) n)) (filter test (range_with_len (a + 1) n))))
      by_test true later = (all a (omega (arith, few)), later)
      by_test false later = later

-- ---- the table of a packed image

-- its checks pass, it has a row for each tile, and its rows end in the file
pub record HasRows (file : List ℕ) (h : Header) : Type 0 where
  pub packed : is_image file h ≡ true
  pub passed : first_refusal (table_checks (header_in file h) h) ≡ None
  pub rows : (image_table file h).rows ≡ tiles_in (plan_in file h)
  pub within : (image_table file h).rows_at + (image_table file h).row_bytes * (image_table file h).rows ≤ length file

-- the data are the rows, and PCOUNT bytes
said : (v : Option ℤ) → unwrap_or v (pos 0) ≡ pos 8 → size_in v ≡ 8
said None e = absurd cc
said (Some v) e = ap (λ z. size_in (Some z)) e

array_is : (header : List ℕ) (pcount gcount : ℕ) → size_at header 2 ≡ 2 → size_at header 1 ≡ 8 → gcount ≡ 1 → array_len header pcount gcount ≡ size_at header 3 * size_at header 4 + pcount
array_is header pcount gcount two eight one = rw (two, eight, one) (omega arith)

data_is : (k : ℕ) (header : List ℕ) → size_at header 2 ≡ 2 → size_at header 1 ≡ 8 → gcount_of k header ≡ 1 → data_len_of k header ≡ size_at header 3 * size_at header 4 + pcount_of k header
data_is zero header two eight one = array_is header 0 1 two eight refl
data_is (suc k) header two eight one = array_is header (size_at header (3 + size_at header 2)) (size_at header (4 + size_at header 2)) two eight one

first_len : (header : List ℕ) → size_at header 2 ≡ 2 → get_or (nine_axes (axes_of header)).len 0 0 ≡ size_at header 3
first_len header two = rw two refl

second_len : (header : List ℕ) → size_at header 2 ≡ 2 → get_or (nine_axes (axes_of header)).len 1 0 ≡ size_at header 4
second_len header two = rw two refl

rows_in_data : (header : List ℕ) (h : Header) → IsHeaderOf header h → h.bitpix ≡ pos 8 → h.axes.n ≡ 2 → h.gcount ≡ 1 → rows_len_of h ≤ h.data_len
rows_in_data header h is bits axes one =
    let two : size_at header 2 ≡ 2 = sym (length-map-range_with_len (size_at header) 3 (size_at header 2)) ∙ (sym (ap (λ (k : Header). k.axes.n) is.facts) ∙ axes) in
    let eight : size_at header 1 ≡ 8 = said (integer_of (card_at header 1)) (sym (ap (λ (k : Header). k.bitpix) is.facts) ∙ bits) in
    let once : gcount_of h.hdu header ≡ 1 = sym (ap (λ (k : Header). k.gcount) is.facts) ∙ one in
    let first : get_or h.axes.len 0 0 ≡ size_at header 3 = ap (λ (k : Header). get_or k.axes.len 0 0) is.facts ∙ first_len header two in
    let second : get_or h.axes.len 1 0 ≡ size_at header 4 = ap (λ (k : Header). get_or k.axes.len 1 0) is.facts ∙ second_len header two in
    let product : get_or h.axes.len 0 0 * get_or h.axes.len 1 0 ≡ size_at header 3 * size_at header 4 = ap (λ n. n * get_or h.axes.len 1 0) first ∙ ap (λ n. size_at header 3 * n) second in
    let data_len : h.data_len ≡ size_at header 3 * size_at header 4 + pcount_of h.hdu header = ap (λ (k : Header). k.data_len) is.facts ∙ data_is h.hdu header two eight once in
    omega (arith, product, data_len)

so : (b : Bool) → not b ≡ false → b ≡ true
so true e = refl
so false e = absurd cc

same_number : (a b : ℕ) → (a == b) ≡ true → a ≡ b
same_number a b e = grind (arith, nat_tests, e)

rows_within : (h : Header) (size : ℕ) → rows_len_of h ≤ h.data_len → next_start_of h ≤ size → h.start + 2880 * h.blocks + rows_len_of h ≤ size
rows_within h size fits past = omega (arith, fits, past)

table_rows : (file : List ℕ) (h : Header) → Stands file h → is_image file h ≡ true → IsImageOf (header_in file h) h (image_in h (header_in file h)) → first_refusal (table_checks (header_in file h) h) ≡ None → HasRows file h
table_rows file h s packed image none =
    let array : first_refusal (array_checks h) ≡ None = front_passed (array_checks h) _ none in
    let bits : not (int_eq h.bitpix (pos 8)) ≡ false = first_clear _ _ _ array in
    let later = rest_clear (not (int_eq h.bitpix (pos 8))) (bad_table h (Some 1)) ((not (h.axes.n == 2), bad_table h (Some 2)) ∷ (not (h.gcount == 1), bad_table h (Some 6)) ∷ []) array in
    let axes : not (h.axes.n == 2) ≡ false = first_clear _ _ _ later in
    let last = rest_clear (not (h.axes.n == 2)) (bad_table h (Some 2)) ((not (h.gcount == 1), bad_table h (Some 6)) ∷ []) later in
    let groups : not (h.gcount == 1) ≡ false = first_clear _ _ _ last in
    let fits : rows_len_of h ≤ h.data_len =
    rows_in_data (header_in file h) h s.is ((Decides-int_eq h.bitpix (pos 8)).0 (so (int_eq h.bitpix (pos 8)) bits)) (same_number h.axes.n 2 (so (h.axes.n == 2) axes)) (same_number h.gcount 1 (so (h.gcount == 1) groups)) in
    record { packed = packed; passed = none; rows = image.rows; within = rows_within h (length file) fits s.past }

-- ---- what the checks of a job find

abbrev pub UnpackFindsImage : Type 0
UnpackFindsImage =
    (h : Header) (header : List ℕ) (after_empty : Bool) → IsHeaderOf header h → is_packed header h ≡ true → first_refusal (unpack_checks h header after_empty) ≡ None →
    IsImageOf header h (image_in h header)

abbrev pub CutFindsImage : Type 0
CutFindsImage =
    (h : Header) (header : List ℕ) (after_empty : Bool) (region : Region) → IsHeaderOf header h → first_refusal (cut_checks h header after_empty region) ≡ None →
    IsImageOf header h (image_in h header)

unpacked_rows : UnpackFindsImage → (file : List ℕ) (h : Header) → Stands file h → first_refusal (unpack_hdu_checks file h) ≡ None → is_image file h ≡ true → HasRows file h
unpacked_rows law file h s none packed =
    let header : List ℕ = header_in file h in
    let empty : Bool = is_after_empty file h in
    let images : List (Bool × Fault) = if is_packed header h then image_checks h header empty else [] in
    let back : first_refusal images ≡ None = back_passed (if is_table h.sort then table_card_checks h header else []) images none in
    let image : first_refusal (image_checks h header empty) ≡ None = sym (ap (λ b. first_refusal (if b then image_checks h header empty else [])) packed) ∙ back in
    table_rows file h s packed (law h header empty s.is packed none) (front_passed (table_checks header h) (packed_checks h.hdu header empty) image)

cut_rows : CutFindsImage → (file : List ℕ) (region : Region) (h : Header) → Stands file h → first_refusal (cut_hdu_checks file region h) ≡ None → HasRows file h
cut_rows law file region h s none =
    let header : List ℕ = header_in file h in
    let empty : Bool = is_after_empty file h in
    let boxes : List (Bool × Fault) = box_checks h.hdu (cards_of header) region in
    let front : first_refusal (packed_card_checks h header) ≡ None = front_passed (packed_card_checks h header) (image_checks h header empty ++ boxes) none in
    let image : first_refusal (image_checks h header empty) ≡ None = front_passed (image_checks h header empty) boxes (back_passed (packed_card_checks h header) (image_checks h header empty ++ boxes) none) in
    let rest : first_refusal (not_packed h header ∷ repeated_table_names h header ∷ []) ≡ None =
    back_passed (if is_table h.sort then compressed_table h header ∷ [] else []) (not_packed h header ∷ repeated_table_names h header ∷ []) front in
    let packed : is_packed header h ≡ true = so (is_packed header h) (first_clear _ _ _ rest) in
    table_rows file h s packed (law h header empty region s.is none) (front_passed (table_checks header h) (packed_checks h.hdu header empty) image)

-- ---- the rows of a job

-- a row of the table of one of these packed images
record IsRowOf (file : List ℕ) (hs : List Header) (r : ImageRow) : Type 0 where
  met : Contains hs r.header
  table : HasRows file r.header
  row_is : r.row < (image_table file r.header).rows

tile_row : (file : List ℕ) (hs : List Header) (h : Header) → Contains hs h → HasRows file h → (row : ℕ) → row < tiles_in (plan_in file h) → IsRowOf file hs (image_row h row)
tile_row file hs h met table row less = record { met = met; table = table; row_is = omega (arith, less, table.rows) }

-- what is known of each header that `unpack` meets
pub record IsMet (file : List ℕ) (hs : List Header) (h : Header) : Type 0 where
  pub met : Contains hs h
  pub rows : is_image file h ≡ true → HasRows file h

abbrev pub EachMet : List ℕ → List Header → List Header → Type 0
EachMet file hs [] = ⊤
EachMet file hs (k ∷ ks) = IsMet file hs k × EachMet file hs ks

all_rows_are : (file : List ℕ) (hs ks : List Header) → EachMet file hs ks → EachRow (IsRowOf file hs) (all_rows file ks)
all_rows_are file hs [] each = tt
all_rows_are file hs (k ∷ ks) each = by_packed (all_rows_are file hs ks each.1) (is_image file k) (each.0.rows)
  where
    by_packed : EachRow (IsRowOf file hs) (all_rows file ks) → (packed : Bool) → (packed ≡ true → HasRows file k) →
        EachRow (IsRowOf file hs) (flat_map (rows_of file) (cond packed (k ∷ filter (is_image file) ks) (filter (is_image file) ks)))
    by_packed later true rows =
        each_append (IsRowOf file hs) (rows_of file k) (all_rows file ks)
        (each_tile (IsRowOf file hs) k (tiles_in (plan_in file k)) (tile_row file hs k each.0.met (rows refl)) 0 (tiles_in (plan_in file k)) (omega arith)) later
    by_packed later false rows = later

picked_rows_are : (file : List ℕ) (sieve : Sieve) (hs : List Header) (h : Header) → Contains hs h → HasRows file h → EachRow (IsRowOf file hs) (flat_map (picked_rows file sieve) (h ∷ []))
picked_rows_are file sieve hs h met table =
    let p = plan_in file h in
    each_append (IsRowOf file hs) (picked_rows file sieve h) []
    (each_picked (IsRowOf file hs) h (tiles_in p) (tile_row file hs h met table) (λ t. has_pixel (tile_picks (lengths_of p.shape) (lengths_of p.tile) (sieve_lo sieve) (sieve_hi sieve) (sieve_step sieve) t)) 0 (tiles_in p) (omega arith)) tt

-- ---- walks

-- each header that a walk finds is found at its place
abbrev pub WalkFindsEach : Type 0
WalkFindsEach = (judge : Judge) (most : ℕ) (file : List ℕ) (hs : List Header) → walk_of judge most file ≡ Ok hs → All (λ h. hdu_at h.hdu h.start file ≡ Ok h) hs

abbrev pub WalkFindsHeaders : Type 0
WalkFindsHeaders = (judge : Judge) (most : ℕ) (file : List ℕ) (hs : List Header) → walk_of judge most file ≡ Ok hs →
    (0 < length hs) × (length hs ≤ most) × RefusesNone judge hs × ((end : ℕ) × (end ≤ length file) × AreHeadersBetween 0 0 end file hs)

-- a walk stops at no HDU but the last
abbrev pub WalkStopsLast : Type 0
WalkStopsLast = (judge : Judge) (most : ℕ) (file : List ℕ) (hs : List Header) (h : Header) → walk_of judge most file ≡ Ok (hs ++ h ∷ []) → stops judge hs ≡ false

-- what the laws of lower crates say
pub record Laws : Type 0 where
  pub find : HduIsFound
  pub count : BlocksAreFound
  pub each : WalkFindsEach
  pub headers : WalkFindsHeaders
  pub last : WalkStopsLast
  pub unpack : UnpackFindsImage
  pub cut : CutFindsImage

judged_none : (answer : Bool) (found : Option Fault) → IsOk (unless_refused answer found) → found ≡ None
judged_none answer None ok = refl
judged_none answer (Some x) ok = absurd cc

cut_none : (wanted : Bool) (found : Option Fault) → (if wanted then unless_refused true found else Ok false) ≡ Ok true → found ≡ None
cut_none true None e = refl
cut_none true (Some x) e = absurd cc
cut_none false found e = absurd cc

pub each_met : Laws → (file : List ℕ) (hs ks : List Header) → AllByRecursion (Contains hs) ks → AllByRecursion (λ h. hdu_at h.hdu h.start file ≡ Ok h) ks → RefusesNone (unpack_judge file) ks → EachMet file hs ks
each_met laws file hs [] met found none = tt
each_met laws file hs (k ∷ ks) met found none = (
  record {
    met = met.0;
    rows = λ packed. unpacked_rows laws.unpack file k (hdu_stands laws.find laws.count file k found.0) (judged_none false (first_refusal (unpack_hdu_checks file k)) none.0) packed;
  },
  each_met laws file hs ks met.1 found.1 none.1,
)

rows_of_walk : Laws → (file : List ℕ) (hs : List Header) → walk_of (unpack_judge file) 65536 file ≡ Ok hs → EachRow (IsRowOf file hs) (all_rows file hs)
rows_of_walk laws file hs walk =
    let found = recursion_from_All (λ h. hdu_at h.hdu h.start file ≡ Ok h) hs (laws.each (unpack_judge file) 65536 file hs walk) in
    let none = (laws.headers (unpack_judge file) 65536 file hs walk).2 in
    all_rows_are file hs hs (each_met laws file hs hs (recursion_from_All (Contains hs) hs (All-contains_itself hs)) found none)

-- the last of some headers, and those before it
split_last : (hs : List Header) → (hs ≡ []) ⊎ ((front : List Header) × (h : Header) × (hs ≡ front ++ h ∷ []) × (last_of hs ≡ h ∷ []))
split_last [] = inl refl
split_last (h ∷ []) = inr ([], h, refl, refl)
split_last (h ∷ (k ∷ hs)) = by_rest (split_last (k ∷ hs))
  where
    by_rest : (k ∷ hs ≡ []) ⊎ ((front : List Header) × (j : Header) × (k ∷ hs ≡ front ++ j ∷ []) × (last_of (k ∷ hs) ≡ j ∷ [])) →
        (h ∷ k ∷ hs ≡ []) ⊎ ((front : List Header) × (j : Header) × (h ∷ k ∷ hs ≡ front ++ j ∷ []) × (last_of (h ∷ k ∷ hs) ≡ j ∷ []))
    by_rest (inl e) = absurd cc
    by_rest (inr (front, j, is, last)) = inr (h ∷ front, j, ap (λ l. h ∷ l) is, last)

-- a walk that stops, stops at the last
stops_at : (judge : Judge) (front : List Header) (h : Header) → stops judge front ≡ false → stops judge (front ++ h ∷ []) ≡ true → judge h ≡ Ok true
stops_at judge [] h never ever = by_answer (judge h) ever
  where
    by_answer : (r : Result Bool Fault) → (is_stop r || false) ≡ true → r ≡ Ok true
    by_answer (Ok true) e = refl
    by_answer (Ok false) e = absurd cc
    by_answer (Err x) e = absurd cc
stops_at judge (k ∷ front) h never ever = by_first (is_stop (judge k)) never ever (stops_at judge front h)
  where
    by_first : (b : Bool) → (b || stops judge front) ≡ false → (b || stops judge (front ++ h ∷ [])) ≡ true → (stops judge front ≡ false → stops judge (front ++ h ∷ []) ≡ true → judge h ≡ Ok true) → judge h ≡ Ok true
    by_first true never ever later = absurd cc
    by_first false never ever later = later never ever

stops_if : (wanted : Option ℕ) (judge : Judge) (file : List ℕ) (hs : List Header) → missing_of wanted judge file hs ≡ None → stops judge hs ≡ true
stops_if wanted judge file hs e = by_stop (stops judge hs) e
  where
    by_stop : (stop : Bool) → (if stop then None else Some (missing_hdu wanted (length hs) (length file))) ≡ None → stop ≡ true
    by_stop true e = refl
    by_stop false e = absurd cc

rows_of_cut : Laws → (wanted : Option ℕ) (sieve : Sieve) (file : List ℕ) (hs : List Header) → walk_of (cut_judge wanted (box_of sieve) file) 65536 file ≡ Ok hs → stops (cut_judge wanted (box_of sieve) file) hs ≡ true →
    EachRow (IsRowOf file hs) (flat_map (picked_rows file sieve) (last_of hs))
rows_of_cut laws wanted sieve file hs walk stop = by_split (split_last hs)
  where
    judge : Judge
    judge = cut_judge wanted (box_of sieve) file

    by_split : (hs ≡ []) ⊎ ((front : List Header) × (h : Header) × (hs ≡ front ++ h ∷ []) × (last_of hs ≡ h ∷ [])) → EachRow (IsRowOf file hs) (flat_map (picked_rows file sieve) (last_of hs))
    by_split (inl none) = subst (λ l. EachRow (IsRowOf file hs) (flat_map (picked_rows file sieve) (last_of l))) (sym none) tt
    by_split (inr (front, h, is, last)) =
        let met : Contains hs h = subst (λ l. Contains l h) (sym is) (Contains-push front h) in
        let found : hdu_at h.hdu h.start file ≡ Ok h = All-contains (λ (k : Header). hdu_at k.hdu k.start file ≡ Ok k) hs h (laws.each judge 65536 file hs walk) met in
        let never : stops judge front ≡ false = laws.last judge 65536 file front h (walk ∙ ap Ok is) in
        let says : judge h ≡ Ok true = stops_at judge front h never (sym (ap (stops judge) is) ∙ stop) in
        let none : first_refusal (cut_hdu_checks file (box_of sieve) h) ≡ None = cut_none (is_wanted wanted (header_in file h) h) (first_refusal (cut_hdu_checks file (box_of sieve) h)) says in
        subst (λ l. EachRow (IsRowOf file hs) (flat_map (picked_rows file sieve) l)) (sym last)
        (picked_rows_are file sieve hs h met (cut_rows laws.cut file (box_of sieve) h (hdu_stands laws.find laws.count file h found) none))

-- where the headers have no fault, the walk found some
pub found_walk : (job : Job) (file : List ℕ) (found : Result (List Header) Fault) → fault_of_walk job file found ≡ None → (hs : List Header) × (found ≡ Ok hs) × (cut_end_fault job file hs ≡ None)
found_walk job file (Ok hs) none = (hs, refl, none)
found_walk job file (Err x) none = absurd cc

abbrev RowsAre : Job → List ℕ → Result (List Header) Fault → Type 0
RowsAre job file r = EachRow (IsRowOf file (found_headers r)) (rows_for job file (found_headers r))

rows_are : Laws → (job : Job) (file : List ℕ) → header_fault job file ≡ None → RowsAre job file (job_walk job file)
unfolding job_walk
rows_are laws (Pack o) file none = tt
rows_are laws Unpack file none =
    let found = found_walk Unpack file (walk_of (unpack_judge file) 65536 file) none in
    subst (RowsAre Unpack file) (sym found.1) (rows_of_walk laws file found.0 found.1)
rows_are laws (Cut wanted sieve) file none =
    let judge : Judge = cut_judge wanted (box_of sieve) file in
    let found = found_walk (Cut wanted sieve) file (walk_of judge 65536 file) none in
    subst (RowsAre (Cut wanted sieve) file) (sym found.1) (rows_of_cut laws wanted sieve file found.0 found.1 (stops_if wanted judge file found.0 found.2))
rows_are laws Verify file none =
    let found = found_walk Verify file (walk_of (unpack_judge file) 65536 file) none in
    subst (RowsAre Verify file) (sym found.1) (rows_of_walk laws file found.0 found.1)
rows_are laws ListHdus file none = tt
rows_are laws (Drill rows) file none = tt
rows_are laws (Retile o) file none =
    let found = found_walk (Retile o) file (walk_of (unpack_judge file) 65536 file) none in
    subst (RowsAre (Retile o) file) (sym found.1) (rows_of_walk laws file found.0 found.1)

-- ---- the row of a fault

row_ends : (at bytes rows row size : ℕ) → row < rows → at + bytes * rows ≤ size → at + bytes * (row + 1) ≤ size
row_ends at bytes rows row size less all =
    let more : bytes * (row + 1) ≤ bytes * rows = mul-le-mul_left bytes (omega (arith, less)) in
    omega (arith, more, all)

-- a row that is rejected names itself
pub row_place : (file : List ℕ) (rs : List ImageRow) (x : Fault) → IsFirstRowFault file rs (Some x) → (row : ℕ) × (x.at ≡ AtRow row)
row_place file [] x first = absurd first
row_place file (r ∷ rs) x (inl refused) = (r.row, (row_fault file r x refused).1)
row_place file (r ∷ rs) x (inr later) = row_place file rs x later.1

pub row_lies : Laws → (job : Job) (file : List ℕ) (x : Fault) (row : ℕ) → x.at ≡ AtRow row → header_fault job file ≡ None → IsFirstRowFault file (rows_for job file (headers_for job file)) (Some x) → RowLies job file x row
row_lies laws job file x row at none first =
    let found = faulty_row (IsRowOf file (headers_for job file)) file (rows_for job file (headers_for job file)) x (rows_are laws job file none) first in
    by_row found.0 found.1 (row_fault file found.0 x found.2)
  where
    by_row : (r : ImageRow) → IsRowOf file (headers_for job file) r → IsOfRow r.header.hdu r.row x → RowLies job file x row
    by_row r is of =
        let place : AtRow r.row ≡ AtRow row = sym of.1 ∙ at in
        let same : r.row ≡ row = cc in
        let t : Table = image_table file r.header in
        let less : row < t.rows = omega (arith, same, is.row_is) in
        record { header = r.header; met = is.met; hdu = of.0; packed = is.table.packed; row_is = less; within = row_ends t.rows_at t.row_bytes t.rows row (length file) less is.table.within }
