-- The row of a tile whose new code was written, in the file as it is then.
use Rattle.std.proofs.Common.{◌≡◌, ℕ, ◌+◌, ◌*◌, ◌^◌, ◌<◌, ◌≤◌, Bool, true, false, ℤ, pos, List, ◌++◌, length, take, drop, Option, Some, None, Ok, if◌then◌else◌, unsigned_abs, refl, sym, subst, ◌∙◌, ap, arith, take-append-drop}
use Rattle.fz_base.specs.Refusal.{first_refusal}
use Rattle.fz_block.specs.declared.header.Header.{Header}
use Rattle.fz_grid.specs.Region.{IsDivided}
use Rattle.fz_checks.specs.JobChecks.{IsImageOf, image_checks, image_in, is_after_empty, packed_card_checks}
use Rattle.fz_head.specs.declared.plan.Plan.{Plan}
use Rattle.fz_table.specs.Rows.{FitsDescriptor, row_start}
use Rattle.fz_table.specs.declared.table.Table.{Table}
use Rattle.fz_tile.specs.Codecs.{CanRead}
use Rattle.fz_tile.specs.Pixels.{IsBitpix}
use Rattle.fz_tile.specs.TileCode.{TileCode}
use Rattle.fz_files.specs.Packed.{described, pixel_bits, row_of, tiles_in}
use Rattle.fz_files.specs.Restored.{RowStandsFor, header_in, image_table, pixels_of, plan_in}
use Rattle.fz_laws.specs.PatchChecks.{patch_target, target_checks}
use Rattle.fz_laws.specs.PatchForm.{has_form, is_wide_table}
use Rattle.fz_laws.specs.Given.{Given, PatchJob, given_by}
use Rattle.fz_laws.specs.PatchLaws.{AmendedHeadersSayTheSame, IsGivenFor, IsNewRow, NewRowsStand, TargetsAreGiven, new_code}
use Rattle.fz_laws.specs.NewNumbers.{new_numbers}
use Rattle.fz_laws.specs.PatchTaken.{TakenLaws, TileLaws}
use Rattle.fz_laws.specs.Writes.{header_now, table_plan}
use Rattle.fz_laws.proofs.Again.{facts_are, heap_now, plan_again, table_again}
use Rattle.fz_laws.proofs.FormColumns.{HasForm, coded_is, form_parts, gzip_is, stored_is}
use Rattle.fz_laws.proofs.NewCodes.{IsCodeOf, new_code_is, new_count, writable}
use Rattle.fz_laws.proofs.NewRows.{DescriptorsAreRead, FitWithin, IsRowOfCode, formed, row_stands}
use Rattle.fz_laws.proofs.NewTarget.{target_passed}
use Rattle.fz_laws.proofs.OnePatch.{IsFoundImage, target_found, target_readable}
use Rattle.fz_laws.proofs.Passes.{PassesAll, all_pass, both_pass, is_so}
use Rattle.fz_laws.proofs.Walked.{RowIsOf, stands_by}

-- numbers below this bound fit a descriptor
fit_within : (wide : Bool) (most : ℕ) → most < (if wide then 2 ^ 63 else 2 ^ 31) → FitWithin wide most
fit_within true most less count offset low low' = (omega (arith, less, low), omega (arith, less, low'))
fit_within false most less count offset low low' = (omega (arith, less, low), omega (arith, less, low'))

pub has_the_form : (file patch : List ℕ) (job : PatchJob) (h : Header) → patch_target file patch job ≡ Ok h → HasForm (header_in file h) h (plan_in file h)
has_the_form file patch job h target =
    let all : PassesAll (target_checks file patch h job) = all_pass (target_checks file patch h job) (target_passed file patch job h target) in
    form_parts (header_in file h) h (plan_in file h) (is_so (has_form (header_in file h) h (plan_in file h)) all.1.0)

pub image_is : TakenLaws → (file : List ℕ) (h : Header) → IsFoundImage file h → IsImageOf (header_in file h) h (image_in h (header_in file h))
image_is laws file h found =
    let both = both_pass (packed_card_checks h (header_in file h)) (image_checks h (header_in file h) (is_after_empty file h)) found.checks in
    laws.image h (header_in file h) (is_after_empty file h) found.is_header both.1

module _ (laws : TakenLaws) (tiles : TileLaws) (read : DescriptorsAreRead) (given : TargetsAreGiven) (amended : AmendedHeadersSayTheSame) where
  new_row : (file patch new : List ℕ) (job : PatchJob) (h : Header) (t offset : ℕ) (xs : List ℤ) → (image : IsFoundImage file h) → IsDivided (plan_in file h).shape (plan_in file h).tile →
      HasForm (header_in file h) h (plan_in file h) → IsGivenFor (plan_in file h) (given_by patch job) → CanRead (plan_in file h).codec (pos (pixel_bits (plan_in file h))) →
      IsBitpix (plan_in file h).bitpix → t < tiles_in (plan_in file h) → RowStandsFor file h t xs → IsNewRow file new h (given_by patch job) t offset xs →
      RowStandsFor new (header_now new h) t (new_numbers (plan_in file h) (given_by patch job) t xs)
  new_row file patch new job h t offset xs image divided form is_given can bits within row w =
      let p : Plan = plan_in file h in
      let g : Given = given_by patch job in
      let q : Plan = table_plan file h in
      let table : Table = image_table file h in
      let now : Header = header_now new h in
      let e : TileCode = new_code p g t xs in
      let heap : ℕ = heap_now amended file new h image w.header in
      let code : IsCodeOf p (new_numbers p g t xs) e = new_code_is tiles p g t xs divided (writable p can form.numbers) is_given within row.count row.means.pixels in
      let columns : record table { heap_len = heap } ≡ formed table q heap =
      λ i. record table {
        heap_len = heap;
        coded = coded_is (header_in file h) h p form bits i;
        stored = stored_is (header_in file h) h p form bits i;
        gzip = gzip_is (header_in file h) h p form bits i;
      } in
      let table_is : image_table new now ≡ formed table q heap = table_again amended file new h image w.header ∙ columns in
      let here : drop (row_start table t) new ≡ row_of q offset e ++ drop table.row_bytes (drop (row_start table t) new) =
      sym (take-append-drop table.row_bytes (drop (row_start table t) new)) ∙ ap (λ l. l ++ drop table.row_bytes (drop (row_start table t) new)) w.row in
      let there : drop (table.heap_at + offset) new ≡ e.bytes ++ drop (length e.bytes) (drop (table.heap_at + offset) new) =
      sym (take-append-drop (length e.bytes) (drop (table.heap_at + offset) new)) ∙ ap (λ l. l ++ drop (length e.bytes) (drop (table.heap_at + offset) new)) w.code in
      let inside : offset + length e.bytes ≤ heap = subst (λ (x : Table). offset + length e.bytes ≤ x.heap_len) table_is w.within in
      let written : IsRowOfCode new table q heap t offset (new_numbers p g t xs) e =
      record {
        is = record { elements = code.elements; holds = code.holds; few = code.few; coded = code.coded; stored = code.stored };
        pixels = new_count tiles.places p g t xs row.count ∙ row.count;
        within = inside;
        fits = fit_within (is_wide_table (header_in file h)) (offset + length e.bytes) w.fits;
        rest = drop table.row_bytes (drop (row_start table t) new);
        here = here;
        behind = drop (length e.bytes) (drop (table.heap_at + offset) new);
        there = there;
      } in
      let stands : RowIsOf new h.hdu q (formed table q heap) t (new_numbers p g t xs) =
      row_stands read new h.hdu table q heap t offset (new_numbers p g t xs) e written in
      let number : h.hdu ≡ now.hdu = sym (ap (λ (x : Header). x.hdu) (facts_are amended file new h image w.header)) in
      let by_plan : RowIsOf new now.hdu p (formed table q heap) t (new_numbers p g t xs) =
      subst (λ k. RowIsOf new k p (formed table q heap) t (new_numbers p g t xs)) number
      (record { found = stands.found; chosen = stands.chosen; count = stands.count; means = stands.means }) in
      stands_by new now p (formed table q heap) t (new_numbers p g t xs) (plan_again amended file new h image w.header) table_is by_plan

  pub new_rows_stand : NewRowsStand
  new_rows_stand file patch new job h t offset xs bytes target within row w =
      let image : IsFoundImage file h = target_found laws file patch job h target in
      let is : IsImageOf (header_in file h) h (image_in h (header_in file h)) = image_is laws file h image in
      new_row file patch new job h t offset xs image is.divided (has_the_form file patch job h target) (given file patch job h bytes target)
      (target_readable laws file patch job h target) is.readable.size within row w
