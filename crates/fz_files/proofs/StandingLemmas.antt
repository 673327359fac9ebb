-- The packed file of `PlainFile` stands for the file that it was made of, by the definitions.
use Rattle.std.specs.List.{AllByRecursion, filter, flat_map, range_with_len}
use Rattle.std.proofs.Common.{◌≡◌, ℕ, zero, suc, ◌<◌, ◌&&◌, true, false, List, [], ◌∷◌, map, None, Ok, if◌then◌else◌, cond, append-nil, refl, sym, subst, ◌∙◌, ap, arith}
use Rattle.std.specs.Fmt.{digits}
use Rattle.fz_base.specs.Refusal.{first_refusal}
use Rattle.fz_card.specs.Made.{numbered_name}
use Rattle.fz_card.specs.Naming.{number_behind, plain_name, is_dropped}
use Rattle.fz_card.specs.Quoted.{quoted}
use Rattle.fz_card.specs.Reading.{integer_of, logical_of, text_of}
use Rattle.fz_card.specs.Tables.{renamings, packed_names, own_names}
use Rattle.fz_block.specs.Cards.{end_among}
use Rattle.fz_block.specs.Checks.{unless_refused, walk_of}
use Rattle.fz_grid.specs.Region.{lengths_of}
use Rattle.fz_grid.specs.Grid.{tile}
use Rattle.fz_table.specs.declared.table.Table.{Table}
use Rattle.fz_checks.specs.JobChecks.{image_checks, unpack_hdu_checks}
use Rattle.fz_checks.specs.Judges.{unpack_judge}
use Rattle.fz_head.specs.Packable.{is_packed}
use Rattle.fz_head.specs.PackedChecks.{packed_checks}
use Rattle.fz_head.specs.PlainHeader.{plain_header, was_primary}
use Rattle.fz_head.specs.TableChecks.{table_card_checks}
use Rattle.fz_head.specs.declared.plan.Plan.{Plan}
use Rattle.fz_table.specs.Tables.{table_checks}
use Rattle.fz_files.specs.declared.job.Job.TheVariants.{Unpack}
use Rattle.fz_files.specs.CutFile.{table_facts}
use Rattle.fz_files.specs.FirstFault.{IsFirstFault, IsFaultBehind, IsFirstRowFault, all_rows, image_row, rows_of}
use Rattle.fz_files.specs.HandMade.{block_of}
use Rattle.fz_files.specs.Packed.{tiles_in}
use Rattle.fz_files.specs.PlainFile.{plain_cards, plain_file, plain_plan, grid_file}
use Rattle.fz_files.specs.Restored.{RowStandsFor, IsImageOf, StandsForAs, HdusStandFor, image_bytes, image_table, is_image, is_packed_primary, plan_in, standing}
use Rattle.fz_files.specs.StandsFor.{StandsFor}
use Rattle.fz_files.specs.Walks.{fault_of_walk, found_headers, header_fault, headers_for, job_walk}
use Rattle.fz_files.proofs.CutFileLemmas.{first_facts, first_at, table_at, cards_are, plan_is, table_is, both_none, packed, table_checks_none, plan_checks_none, RowIs, grid_array, tile_of_grid, row_0, row_1, row_2, row_3, row_4, row_5}
use Rattle.fz_files.proofs.WorkedWalks.{goes_on, ends_with}

-- ---- the headers

pub card_checks_none : first_refusal (table_card_checks table_facts (block_of plain_cards)) ≡ None
unfolding is_packed end_among logical_of number_behind numbered_name digits
card_checks_none = refl

-- the empty primary is no packed image
pub not_packed : is_image plain_file first_facts ≡ false
unfolding is_packed
not_packed = refl

pub passes_first : unpack_judge plain_file first_facts ≡ Ok false
unfolding is_packed
passes_first = refl

checks_none : first_refusal (unpack_hdu_checks plain_file table_facts) ≡ None
unfolding integer_of
checks_none =
    both_none (table_card_checks table_facts (block_of plain_cards)) (if is_packed (block_of plain_cards) table_facts then image_checks table_facts (block_of plain_cards) true else []) card_checks_none
    (ap (λ b. first_refusal (if b then image_checks table_facts (block_of plain_cards) true else [])) packed
    ∙ both_none (table_checks (block_of plain_cards) table_facts) (packed_checks 1 (block_of plain_cards) true) table_checks_none plan_checks_none)

pub passes_table : unpack_judge plain_file table_facts ≡ Ok false
passes_table = ap (unless_refused false) checks_none

pub walk_is : walk_of (unpack_judge plain_file) 65536 plain_file ≡ Ok (first_facts ∷ table_facts ∷ [])
walk_is =
    goes_on (unpack_judge plain_file) 65535 0 0 plain_file first_facts (Ok (table_facts ∷ [])) first_at passes_first refl
    (ends_with (unpack_judge plain_file) 65534 1 2880 plain_file table_facts table_at passes_table refl)

pub no_fault : header_fault Unpack plain_file ≡ None
unfolding job_walk
no_fault = ap (fault_of_walk Unpack plain_file) walk_is

pub headers_are : headers_for Unpack plain_file ≡ first_facts ∷ table_facts ∷ []
unfolding job_walk
headers_are = ap found_headers walk_is

-- ---- the rows

abbrev pub RowStands : ℕ → Type 0
RowStands row = RowStandsFor plain_file table_facts row (tile_of_grid row)

abbrev pub six : List ℕ
six = 0 ∷ 1 ∷ 2 ∷ 3 ∷ 4 ∷ 5 ∷ []

pub stands : (row : ℕ) → RowIs (plan_in plain_file table_facts) (image_table plain_file table_facts) row (tile_of_grid row) → RowStands row
stands row r = record { found = r.found; chosen = r.chosen; count = r.count; means = r.means }

abbrev all_are : (p : Plan) (t : Table) → Type 0
all_are p t = AllByRecursion (λ row. RowIs p t row (tile_of_grid row)) six

pub rows_stand : AllByRecursion RowStands six
rows_stand = (stands 0 r.0, (stands 1 r.1.0, (stands 2 r.1.1.0, (stands 3 r.1.1.1.0, (stands 4 r.1.1.1.1.0, (stands 5 r.1.1.1.1.1.0, tt))))))
  where
    r : all_are (plan_in plain_file table_facts) (image_table plain_file table_facts)
    r = subst (λ p. all_are p (image_table plain_file table_facts)) (sym plan_is) (subst (all_are plain_plan) (sym table_is) (row_0, (row_1, (row_2, (row_3, (row_4, (row_5, tt)))))))

pub sound_rows : (rows : List ℕ) → AllByRecursion RowStands rows → IsFirstRowFault plain_file (map (image_row table_facts) rows) None
sound_rows [] each = tt
sound_rows (row ∷ rows) each = ((tile_of_grid row, each.0), sound_rows rows each.1)

rows_are : all_rows plain_file (first_facts ∷ table_facts ∷ []) ≡ map (image_row table_facts) six
rows_are =
    ap (λ b. flat_map (rows_of plain_file) (cond b (first_facts ∷ filter (is_image plain_file) (table_facts ∷ [])) (filter (is_image plain_file) (table_facts ∷ [])))) not_packed
    ∙ (ap (λ b. flat_map (rows_of plain_file) (cond b (table_facts ∷ []) [])) packed
    ∙ (append-nil (rows_of plain_file table_facts)
    ∙ ap (λ p. map (image_row table_facts) (range_with_len 0 (tiles_in p))) plan_is))

is_sound : IsFirstFault Unpack plain_file None
is_sound =
    subst (λ r. IsFaultBehind r Unpack plain_file None) (sym no_fault)
    (subst (λ hs. IsFirstRowFault plain_file (all_rows plain_file hs) None) (sym headers_are)
    (subst (λ rows. IsFirstRowFault plain_file rows None) (sym rows_are) (sound_rows six rows_stand)))

-- ---- the image

among_six : (P : ℕ → Type 0) → AllByRecursion P six → (t : ℕ) → t < 6 → P t
among_six P each zero less = each.0
among_six P each (suc zero) less = each.1.0
among_six P each (suc (suc zero)) less = each.1.1.0
among_six P each (suc (suc (suc zero))) less = each.1.1.1.0
among_six P each (suc (suc (suc (suc zero)))) less = each.1.1.1.1.0
among_six P each (suc (suc (suc (suc (suc zero))))) less = each.1.1.1.1.1.0
among_six P each (suc (suc (suc (suc (suc (suc t)))))) less = absurd omega (arith, less)

bytes_are : image_bytes plain_plan plain_cards grid_array ≡ grid_file
unfolding plain_header plain_name is_dropped renamings packed_names own_names number_behind numbered_name digits integer_of text_of quoted
bytes_are = refl

tiles_stand : (t : ℕ) → t < tiles_in (plan_in plain_file table_facts) → RowStandsFor plain_file table_facts t (tile grid_array (lengths_of (plan_in plain_file table_facts).tile) t)
tiles_stand t less =
    subst (λ (p : Plan). RowStandsFor plain_file table_facts t (tile grid_array (lengths_of p.tile) t)) (sym plan_is)
    (among_six RowStands rows_stand t (subst (λ p. t < tiles_in p) plan_is less))

is_image_of : IsImageOf plain_file table_facts grid_file
is_image_of = record {
  array = grid_array;
  rows = record { lengths = sym (ap (λ (p : Plan). lengths_of p.shape) plan_is); whole = refl; tiles = tiles_stand };
  image = sym ((λ i. image_bytes (plan_is i) (cards_are i) grid_array) ∙ bytes_are);
}

was : was_primary plain_cards ≡ true
was = refl

stands_alone : standing plain_file (first_facts ∷ table_facts ∷ []) ≡ table_facts ∷ []
stands_alone =
    let yes : is_packed_primary plain_file table_facts ≡ true = (λ i. packed i && was_primary (cards_are i)) ∙ was in
    ap (λ b. if b then table_facts ∷ [] else first_facts ∷ table_facts ∷ []) yes

pub stands_for : StandsFor plain_file grid_file
stands_for = record {
  sound = is_sound;
  parts =
      subst (λ hs. HdusStandFor plain_file hs grid_file) (sym (ap (standing plain_file) headers_are ∙ stands_alone))
      (grid_file, [], sym (append-nil grid_file), subst (λ b. StandsForAs b plain_file table_facts grid_file) (sym packed) is_image_of, refl);
}
