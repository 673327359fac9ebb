-- A row stands for the same numbers after writes that leave it and its record as they were.
use Rattle.std.proofs.Common.{◌≡◌, ℕ, ◌+◌, ◌*◌, ◌≤◌, ◌==◌, ◌&&◌, not, nat_lt, Bool, true, false, ℤ, List, [], ◌∷◌, Ok, refl, sym, ap, ◌∙◌, subst, arith, ltb-false, ltb-true}
use Rattle.fz_base.specs.Refusal.{first_refusal, refusal}
use Rattle.fz_base.specs.declared.fault.Fault.{Fault}
use Rattle.fz_base.specs.declared.fault.Place.TheVariants.{Row as AtRow}
use Rattle.fz_base.specs.declared.kind.Kind.TheVariants.{DescriptorRange, TileSize}
use Rattle.fz_block.specs.Checks.{unless_refused}
use Rattle.fz_block.specs.declared.header.Header.{Header}
use Rattle.fz_table.specs.Records.{chosen_column, chosen_record, described_in, has_none, is_plain, missing_kind, record_at, record_of, unit_in}
use Rattle.fz_table.specs.Rows.{row_at}
use Rattle.fz_table.specs.declared.record.Record.{Record}
use Rattle.fz_table.specs.declared.record.Tile.{Tile}
use Rattle.fz_table.specs.declared.row.Row.{Row}
use Rattle.fz_table.specs.declared.table.Table.{Table}
use Rattle.fz_tile.specs.Record.{IsRecord}
use Rattle.fz_files.specs.Packed.{pixel_bits}
use Rattle.fz_files.specs.Restored.{RecordMeans, RowStandsFor, image_table, pixels_of, place_in, plan_in, tile_of}
use Rattle.fz_laws.specs.PatchLaws.{AmendedHeadersSayTheSame, IsKeptRow, KeptRowsStand}
use Rattle.fz_laws.specs.PatchTaken.{TakenLaws}
use Rattle.fz_laws.specs.Writes.{header_now}
use Rattle.fz_laws.proofs.Again.{heap_grows, heap_now, plan_again, table_again}
use Rattle.fz_laws.proofs.OnePatch.{IsFoundImage, target_found}

-- ---- a longer heap refuses no row that a shorter one let pass

within_more : (less more n : ℕ) → less ≤ more → nat_lt less n ≡ false → nat_lt more n ≡ false
within_more less more n grows e = by_test (nat_lt more n) refl
  where
    by_test : (b : Bool) → nat_lt more n ≡ b → nat_lt more n ≡ false
    by_test false is = is
    by_test true is = let low = ltb-true more n is in let high = ltb-false less n e in absurd (omega arith)

with_second : (c found : Record) (a b b' d : Bool) (f g k : Fault) → (b ≡ false → b' ≡ false) → unless_refused c (first_refusal ((a, f) ∷ (b, g) ∷ (d, k) ∷ [])) ≡ Ok found →
    unless_refused c (first_refusal ((a, f) ∷ (b', g) ∷ (d, k) ∷ [])) ≡ Ok found
with_second c found true b b' d f g k less e = absurd cc
with_second c found false true b' d f g k less e = absurd cc
with_second c found false false b' d f g k less e = ap (λ x. unless_refused c (first_refusal ((false, f) ∷ (x, g) ∷ (d, k) ∷ []))) (less refl) ∙ e

record_more : (hdu row more : ℕ) (t : Table) (r : Row) (tile : Tile) (found : Record) → t.heap_len ≤ more → record_of hdu row t r tile ≡ Ok found →
    record_of hdu row (record t { heap_len = more }) r tile ≡ Ok found
unfolding record_of
record_more hdu row more t r tile found grows e =
    let len = (described_in r (chosen_column r)).count * unit_in t (chosen_column r) in
    with_second (chosen_record t r tile) found (has_none r) (nat_lt t.heap_len ((described_in r (chosen_column r)).offset + len)) (nat_lt more ((described_in r (chosen_column r)).offset + len))
    (is_plain tile (chosen_column r) && not (len == tile.plain_len)) (refusal hdu (AtRow row) (missing_kind r)) (refusal hdu (AtRow row) DescriptorRange) (refusal hdu (AtRow row) TileSize)
    (within_more t.heap_len more ((described_in r (chosen_column r)).offset + len) grows) e

-- ---- the row

module _ (laws : TakenLaws) (amended : AmendedHeadersSayTheSame) (file new : List ℕ) (h : Header) (t : ℕ) (xs : List ℤ) (image : IsFoundImage file h) (kept : IsKeptRow file new h t)
    (row : RowStandsFor file h t xs) where
  abbrev now : Header
  now = header_now new h

  abbrev heap : ℕ
  heap = heap_now amended file new h image kept.header

  chosen_again : record_at new now.hdu (image_table new now) t (tile_of (plan_in new now) t) ≡ Ok row.found
  chosen_again =
      (λ j. record_at new h.hdu (table_again amended file new h image kept.header j) t (tile_of (plan_again amended file new h image kept.header j) t))
      ∙ (ap (λ r. record_of h.hdu t (record (image_table file h) { heap_len = heap }) r (tile_of (plan_in file h) t)) kept.row
      ∙ record_more h.hdu t heap (image_table file h) (row_at file (image_table file h) t) (tile_of (plan_in file h) t) row.found (heap_grows amended file new h image kept.header) row.chosen)

  pub stands_again : RowStandsFor new now t xs
  stands_again = record {
    found = row.found;
    chosen = chosen_again;
    count = row.count ∙ sym (ap (λ q. pixels_of q t) (plan_again amended file new h image kept.header));
    means =
        subst (λ q. RecordMeans new q row.found xs) (sym (plan_again amended file new h image kept.header))
        (subst (λ b. IsRecord (plan_in file h).codec (pixel_bits (plan_in file h)) (place_in row.found.column) row.found.total b xs) (sym (kept.record_is row.found row.chosen)) row.means);
  }

pub kept_rows_stand : TakenLaws → AmendedHeadersSayTheSame → KeptRowsStand
kept_rows_stand laws amended file patch new job h t xs target kept row = stands_again laws amended file new h t xs (target_found laws file patch job h target) kept row
