-- The writes of PCOUNT and of the forms are those of a patch (FITS 4.0, sections 4.4.1.2 and 7.3.1).
use Rattle.std.proofs.Common.{◌≡◌, ℕ, ◌+◌, max, nat_lt, Bool, true, false, List, [], ◌∷◌, ◌++◌, length, map, codes, if◌then◌else◌, refl, sym, ap, ◌∙◌, arith}
use Rattle.std.specs.Prelude.{Some, None, unwrap_or}
use Rattle.fz_base.specs.Counts.{Amend}
use Rattle.fz_block.specs.Hdus.{pcount_index}
use Rattle.fz_table.specs.Columns.{tform_card}
use Rattle.fz_table.specs.declared.row.Row.{Row}
use Rattle.fz_tile.specs.TileCode.{TileCode}
use Rattle.fz_checks.specs.Greatest.{greatest}
use Rattle.fz_head.specs.PackedHeader.{coded_letter, descriptor_form, number_card, numbered_word_card, stored_letter}
use Rattle.fz_files.specs.Packed.{coded_count, heap_of, stored_count}
use Rattle.fz_files.specs.Restored.{header_in}
use Rattle.fz_laws.specs.Writes.{card_write, column_writes, form_writes, other_rows, pcount_writes, said_most}
use Rattle.fz_patch.specs.Cards.{HasPlaces, form_write, forms_writes, pcount_at, forms_for}
use Rattle.fz_target.specs.Measures.{form_for, measure_of}
use Rattle.fz_target.specs.Targets.{IsTargetIn}
use Rattle.fz_patch.specs.declared.column.Forms.{Forms}
use Rattle.fz_target.specs.declared.measure.Measure.{Measure}
use Rattle.fz_patch.specs.declared.places.Places.{Places}
use Rattle.fz_target.specs.declared.target.Target.{Target}

greatest_both : (xs ys : List ℕ) → greatest (xs ++ ys) ≡ max (greatest xs) (greatest ys)
greatest_both [] ys = omega arith
greatest_both (x ∷ xs) ys = ap (max x) (greatest_both xs ys) ∙ omega arith

-- one form
one_form : (t : Target) (column place : ℕ) (letter : List ℕ) (b : Bool) (all : ℕ) →
    form_write t column place letter (if b then Some all else None)
    ≡ (if b then card_write t.header place (numbered_word_card (codes "TFORM") column (descriptor_form t.wide letter all)) ∷ [] else [])
one_form t column place letter true all = refl
one_form t column place letter false all = refl

form_is : (f : List ℕ) (t : Target) (column place : ℕ) (letter news others : List ℕ) → IsTargetIn f t → place ≡ unwrap_or (tform_card (header_in f t.header) column) 0 →
    form_write t column place letter (form_for (said_most (header_in f t.header) column) (greatest news) (max (greatest news) (greatest others)))
    ≡ form_writes (header_in f t.header) t.header column letter news others
form_is f t column place letter news others is there =
    let header = header_in f t.header in
    let b : Bool = nat_lt (said_most header column) (greatest news) in
    one_form t column place letter b (max (greatest news) (greatest others))
    ∙ (λ j.
    if b then
    card_write t.header (there j)
    (numbered_word_card (codes "TFORM") column (descriptor_form (sym is.wide j) letter (sym (greatest_both news others) j))) ∷ []
    else [])

-- all of these writes
pub forms_are : (f : List ℕ) (t : Target) (p : Places) (m : Measure) (forms : Forms) (tiles : List ℕ) (es : List TileCode) → IsTargetIn f t → HasPlaces (header_in f t.header) p → pcount_at t ≡ pcount_index (header_in f t.header) →
    m ≡ measure_of t.image.plan es → forms ≡ forms_for (said_most (header_in f t.header) 1) (said_most (header_in f t.header) 2) m (other_rows f t.image.table tiles) →
    forms_writes t p m forms ≡ pcount_writes f t.header (length (heap_of es)) ++ column_writes f t.header tiles es
forms_are f t p m forms tiles es is has at measured said =
    let header = header_in f t.header in
    let others : List Row = other_rows f t.image.table tiles in
    let plan = t.image.plan in
    let first : List Amend = form_write t 1 p.coded (coded_letter plan.codec) forms.coded in
    let second : List Amend = form_write t 2 p.stored (stored_letter plan.bitpix) forms.stored in
    let forms_is : forms ≡ forms_for (said_most header 1) (said_most header 2) (measure_of plan es) others = said ∙ ap (λ k. forms_for (said_most header 1) (said_most header 2) k others) measured in
    let coded : first ≡ form_writes header t.header 1 (coded_letter plan.codec) (map (coded_count plan) es) (map (λ (r : Row). r.coded.count) others) =
    ap (λ (k : Forms). form_write t 1 p.coded (coded_letter plan.codec) k.coded) forms_is
    ∙ form_is f t 1 p.coded (coded_letter plan.codec) (map (coded_count plan) es) (map (λ (r : Row). r.coded.count) others) is has.coded
    in
    let stored : second ≡ form_writes header t.header 2 (stored_letter plan.bitpix) (map (stored_count plan) es) (map (λ (r : Row). r.stored.count) others) =
    ap (λ (k : Forms). form_write t 2 p.stored (stored_letter plan.bitpix) k.stored) forms_is
    ∙ form_is f t 2 p.stored (stored_letter plan.bitpix) (map (stored_count plan) es) (map (λ (r : Row). r.stored.count) others) is has.stored
    in
    let bytes : m.bytes ≡ length (heap_of es) = ap (λ (k : Measure). k.bytes) measured in
    (λ j. card_write t.header (at j) (number_card (codes "PCOUNT") (t.header.pcount + bytes j)) ∷ (coded j ++ stored j))
    ∙ (λ j.
    card_write t.header (pcount_index header) (number_card (codes "PCOUNT") (t.header.pcount + length (heap_of es)))
    ∷ (form_writes header t.header 1 (coded_letter (sym is.said.plan j).codec) (map (coded_count (sym is.said.plan j)) es) (map (λ (r : Row). r.coded.count) (other_rows f (sym is.said.table j) tiles))
    ++ form_writes header t.header 2 (stored_letter (sym is.said.plan j).bitpix) (map (stored_count (sym is.said.plan j)) es) (map (λ (r : Row). r.stored.count) (other_rows f (sym is.said.table j) tiles))))
