-- A packed HDU before the last of a file stands for the same in every file with the same bytes up to its end.
use Rattle.std.proofs.Common.{◌≡◌, ℕ, ◌+◌, ◌-◌, ◌*◌, ◌/◌, ◌^◌, ◌<◌, ◌≤◌, Bool, true, false, ℤ, List, [], ◌∷◌, ◌++◌, length, take, drop, All, Option, Some, None, Result, Ok, Err, if◌then◌else◌, refl, sym, ap, ◌∙◌, subst, arith, length-take-le, take-take}
use Rattle.std.proofs.lemmas.List.Elements.{All-cons, All-head, All-nil, All-tail}
use Rattle.fz_base.specs.Refusal.{first_refusal}
use Rattle.fz_base.specs.declared.fault.Fault.{Fault}
use Rattle.fz_block.specs.Checks.{hdu_at, unless_refused}
use Rattle.fz_block.specs.Facts.{IsHeaderOf}
use Rattle.fz_block.specs.Hdus.{cards_of, hdu_bytes}
use Rattle.fz_block.specs.Header.{data_start_of, next_start_of, whole_blocks_of}
use Rattle.fz_block.specs.Walk.{hdu_of}
use Rattle.fz_block.specs.declared.header.Header.{Header}
use Rattle.fz_table.specs.Reads.{descriptor_ranges, record_ranges, row_ranges, tile_ranges}
use Rattle.fz_table.specs.Records.{record_at, record_bytes, record_of}
use Rattle.fz_table.specs.Rows.{described_at, descriptor_len, descriptor_start, row_at}
use Rattle.fz_table.specs.Tables.{table_checks, table_in}
use Rattle.fz_table.specs.declared.column.Column.{Column}
use Rattle.fz_table.specs.declared.record.Record.{Record}
use Rattle.fz_table.specs.declared.table.Table.{Table}
use Rattle.fz_tile.specs.Record.{IsRecord}
use Rattle.fz_grid.specs.Grid.{tile}
use Rattle.fz_grid.specs.Region.{lengths_of}
use Rattle.fz_checks.specs.JobChecks.{IsImageOf, image_checks, image_in, is_after_empty, unpack_hdu_checks}
use Rattle.fz_checks.specs.Judges.{unpack_judge}
use Rattle.fz_head.specs.Packable.{is_packed, is_table}
use Rattle.fz_head.specs.PackedChecks.{packed_checks}
use Rattle.fz_head.specs.PackedPlan.{plan_of_cards}
use Rattle.fz_head.specs.TableChecks.{table_card_checks}
use Rattle.fz_head.specs.declared.plan.Plan.{Plan}
use Rattle.fz_files.specs.Laws.{RowsLieWithin}
use Rattle.fz_files.specs.Packed.{pixel_bits, tiles_in}
use Rattle.fz_files.specs.Restored.{HduStandsFor, IsImageOf as StandsForImage, RecordMeans, RowStandsFor, RowsStandFor, StandsForAs, header_in, image_bytes, image_table, is_image, pixels_of, place_in, plan_in, tile_of}
use Rattle.fz_laws.specs.PatchTaken.{ChecksFindImage, HduLaws}
use Rattle.fz_laws.proofs.AlikeFiles.{found_in, header_length}
use Rattle.fz_laws.proofs.Passes.{both_pass}
use Rattle.fz_laws.proofs.RowSlices.{descriptor_same, part_same}

pub all_left : {X : Type 0} (P : X → Type 0) (xs ys : List X) → All P (xs ++ ys) → All P xs
all_left P [] ys all = All-nil P
all_left P (x ∷ xs) ys all = All-cons P x xs (All-head P x (xs ++ ys) all) (all_left P xs ys (All-tail P x (xs ++ ys) all))

pub all_right : {X : Type 0} (P : X → Type 0) (xs ys : List X) → All P (xs ++ ys) → All P ys
all_right P [] ys all = all
all_right P (x ∷ xs) ys all = all_right P xs ys (All-tail P x (xs ++ ys) all)

-- a range ends at this byte at most
abbrev EndsBy : ℕ → ℕ × ℕ → Type 0
EndsBy end range = range.0 + range.1 ≤ end

-- two files have the same slices up to a byte
abbrev pub HasSameSlices : ℕ → List ℕ → List ℕ → Type 0
HasSameSlices end x file = (s m : ℕ) → s + m ≤ end → take m (drop s x) ≡ take m (drop s file)

pub same_slices : (end : ℕ) (x file : List ℕ) → take end x ≡ take end file → HasSameSlices end x file
same_slices end x file front s m low = part_same 0 end s m x file (omega arith) (omega arith) front

-- ---- rows

module _ (end : ℕ) (x file : List ℕ) (same : HasSameSlices end x file) (t : Table) (row : ℕ) where
  described_same : (c : Option Column) → All (EndsBy end) (descriptor_ranges t c row) → described_at x t c row ≡ described_at file t c row
  described_same None all = refl
  described_same (Some c) all =
      descriptor_same c.wide (drop (descriptor_start t c row) x) (drop (descriptor_start t c row) file)
      (same (descriptor_start t c row) (descriptor_len c.wide) (All-head (EndsBy end) (descriptor_start t c row, descriptor_len c.wide) [] all))

  pub row_read : All (EndsBy end) (row_ranges t row) → row_at x t row ≡ row_at file t row
  row_read all =
      let rest : List (ℕ × ℕ) = descriptor_ranges t t.stored row ++ descriptor_ranges t t.gzip row in
      let coded = all_left (EndsBy end) (descriptor_ranges t t.coded row) rest all in
      let others = all_right (EndsBy end) (descriptor_ranges t t.coded row) rest all in
      let stored = all_left (EndsBy end) (descriptor_ranges t t.stored row) (descriptor_ranges t t.gzip row) others in
      let gzip = all_right (EndsBy end) (descriptor_ranges t t.stored row) (descriptor_ranges t t.gzip row) others in
      λ j. record { coded = described_same t.coded coded j; stored = described_same t.stored stored j; gzip = described_same t.gzip gzip j }

-- ---- an HDU

pub record EarlierLaws : Type 0 where
  pub hdus : HduLaws
  pub reads : RowsLieWithin
  pub image : ChecksFindImage

none_of : {A : Type 0} (a b : A) (found : Option Fault) → unless_refused a found ≡ Ok b → found ≡ None
none_of a b None e = refl
none_of a b (Some y) e = absurd cc

module _ (laws : EarlierLaws) (end : ℕ) (file x : List ℕ) (low : end ≤ length file) (near : end ≤ 2 ^ 62) (front : take end x ≡ take end file)
    (e : Header) (found : hdu_at e.hdu e.start file ≡ Ok e) (before : next_start_of e ≤ end) where
  abbrev header : List ℕ
  header = header_in file e

  abbrev table : Table
  table = image_table file e

  abbrev p : Plan
  p = plan_in file e

  same : HasSameSlices end x file
  same = same_slices end x file front

  header_end : e.start + 2880 * e.blocks ≤ end
  header_end = let far = before in omega arith

  pub header_new : header_in x e ≡ header
  header_new = same e.start (2880 * e.blocks) header_end

  pub image_new : is_image x e ≡ is_image file e
  image_new = ap (λ l. is_packed l e) header_new

  pub plan_new : plan_in x e ≡ p
  plan_new = ap (λ l. plan_of_cards (cards_of l)) header_new

  -- ---- the file cut back to that byte

  abbrev part : List ℕ
  part = take end file

  part_long : length part ≡ end
  part_long = length-take-le end file low

  in_part : HasSameSlices end part file
  in_part = same_slices end part file (take-take end end file (omega arith))

  header_part : header_in part e ≡ header
  header_part = in_part e.start (2880 * e.blocks) header_end

  found_part : hdu_at e.hdu e.start part ≡ Ok e
  found_part =
      let size = part_long in
      let long : length header ≡ 2880 * e.blocks = header_length laws.hdus e.hdu e.start file e found in
      let here : take (length header) (drop e.start part) ≡ header = ap (λ n. take n (drop e.start part)) long ∙ header_part in
      found_in laws.hdus e.hdu e.start file e found part here (let far = before in omega arith) (let far = before in omega arith)

  -- what is read of a row lies before it
  ranges : (row : ℕ) → first_refusal (table_checks header e) ≡ None → row < table.rows →
      All (EndsBy end) (row_ranges table row ++ record_ranges (record_at part e.hdu table row (tile_of p row)))
  ranges row checks less =
      let all : All (EndsBy (length part)) (tile_ranges part e.hdu (image_table part e) row (tile_of (plan_in part e) row)) =
      laws.reads part e row found_part (ap (λ l. first_refusal (table_checks l e)) header_part ∙ checks) (subst (λ l. row < (table_in l e).rows) (sym header_part) less) in
      subst (λ n. All (EndsBy n) (tile_ranges part e.hdu table row (tile_of p row))) part_long
      (subst (λ l. All (EndsBy (length part)) (tile_ranges part e.hdu (table_in l e) row (tile_of (plan_of_cards (cards_of l)) row))) header_part all)

  pub row_new : (row : ℕ) (xs : List ℤ) → first_refusal (table_checks header e) ≡ None → row < table.rows → RowStandsFor file e row xs → RowStandsFor x e row xs
  row_new row xs checks less r =
      let all = ranges row checks less in
      let rows = all_left (EndsBy end) (row_ranges table row) (record_ranges (record_at part e.hdu table row (tile_of p row))) all in
      let records = all_right (EndsBy end) (row_ranges table row) (record_ranges (record_at part e.hdu table row (tile_of p row))) all in
      let chosen_part : record_at part e.hdu table row (tile_of p row) ≡ Ok r.found =
      ap (λ s. record_of e.hdu row table s (tile_of p row)) (row_read end part file in_part table row rows) ∙ r.chosen in
      let within : EndsBy end (r.found.start, r.found.read) =
      All-head (EndsBy end) (r.found.start, r.found.read) [] (subst (λ o. All (EndsBy end) (record_ranges o)) chosen_part records) in
      let bytes : record_bytes x r.found ≡ record_bytes file r.found = same r.found.start r.found.read within in
      record {
        found = r.found;
        chosen =
            (λ j. record_at x e.hdu (table_in (header_new j) e) row (tile_of (plan_new j) row))
            ∙ (ap (λ s. record_of e.hdu row table s (tile_of p row)) (row_read end x file same table row rows)
            ∙ r.chosen);
        count = r.count ∙ sym (ap (λ q. pixels_of q row) plan_new);
        means =
            subst (λ q. RecordMeans x q r.found xs) (sym plan_new)
            (subst (λ b. IsRecord p.codec (pixel_bits p) (place_in r.found.column) r.found.total b xs) (sym bytes) r.means);
      }

  -- ---- what the HDU stands for, if it passes the checks of `unpack`

  image_part : unpack_judge file e ≡ Ok false → is_image file e ≡ true → first_refusal (image_checks e header (is_after_empty file e)) ≡ None
  image_part said packed =
      let none : first_refusal (unpack_hdu_checks file e) ≡ None = none_of false false (first_refusal (unpack_hdu_checks file e)) said in
      let both = both_pass (if is_table e.sort then table_card_checks e header else []) (if is_packed header e then image_checks e header (is_after_empty file e) else []) none in
      sym (ap (λ b. first_refusal (if b then image_checks e header (is_after_empty file e) else [])) packed) ∙ both.1

  table_part : unpack_judge file e ≡ Ok false → is_image file e ≡ true → first_refusal (table_checks header e) ≡ None
  table_part said packed = (both_pass (table_checks header e) (packed_checks e.hdu header (is_after_empty file e)) (image_part said packed)).0

  rows_count : unpack_judge file e ≡ Ok false → is_image file e ≡ true → table.rows ≡ tiles_in p
  rows_count said packed =
      let facts = laws.hdus.facts e.hdu e.start file e found in
      let is : IsImageOf header e (image_in e header) = laws.image e header (is_after_empty file e) facts.2 (image_part said packed) in
      is.rows

  pub tile_new : unpack_judge file e ≡ Ok false → is_image file e ≡ true → (t : ℕ) (xs : List ℤ) → t < tiles_in p → RowStandsFor file e t xs → RowStandsFor x e t xs
  tile_new said packed t xs less r = row_new t xs (table_part said packed) (subst (λ n. t < n) (sym (rows_count said packed)) less) r

  image_stands : unpack_judge file e ≡ Ok false → is_image file e ≡ true → (bytes : List ℕ) → StandsForImage file e bytes → StandsForImage x e bytes
  image_stands said packed bytes i = record {
    array = i.array;
    rows = record {
      lengths = subst (λ q. i.array.lengths ≡ lengths_of q.shape) (sym plan_new) i.rows.lengths;
      whole = i.rows.whole;
      tiles =
          λ t less.
          subst (λ q. RowStandsFor x e t (tile i.array (lengths_of q.tile) t)) (sym plan_new)
          (tile_new said packed t (tile i.array (lengths_of p.tile) t) (subst (λ q. t < tiles_in q) plan_new less) (i.rows.tiles t (subst (λ q. t < tiles_in q) plan_new less)));
    };
    image = i.image ∙ (λ j. image_bytes (sym plan_new j) (cards_of (sym header_new j)) i.array);
  }

  hdu_new : hdu_bytes (hdu_of x e) ≡ hdu_bytes (hdu_of file e)
  hdu_new = λ j. header_new j ++ same (data_start_of e) (whole_blocks_of e.data_len) (let far = before in omega arith) j

  pub hdu_stands : unpack_judge file e ≡ Ok false → (bytes : List ℕ) → HduStandsFor file e bytes → HduStandsFor x e bytes
  hdu_stands said bytes stands =
      subst (λ b. StandsForAs b x e bytes) (sym image_new) (by_kind (is_image file e) refl stands)
    where
      by_kind : (b : Bool) → is_image file e ≡ b → StandsForAs b file e bytes → StandsForAs b x e bytes
      by_kind true packed i = image_stands said packed bytes i
      by_kind false packed is = is ∙ sym hdu_new
