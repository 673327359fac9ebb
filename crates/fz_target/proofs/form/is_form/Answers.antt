-- One test after another.
use Rattle.std.proofs.Common.{◌≡◌, ◌&&◌, Bool, List, ℕ, sym, ap, ◌∙◌}
use Rattle.fz_laws.specs.PatchForm.{has_heap_after_rows, has_letters, has_pixel_codes, has_two_columns}
use Rattle.fz_target.proofs.FormTests.{all_four, heap_after, not_four}
use Rattle.fz_target.proofs.form.is_form.Goals as goal
use Rattle.fz_target.proofs.form.is_form.Goals.{then-has_two_columns, else-has_two_columns, then-has_letters, else-has_letters}

pub returns-then-has_heap_after_rows : goal.returns-then-has_heap_after_rows
returns-then-has_heap_after_rows c =
    let buf : List ℕ = c.args.buf.now in
    let h = c.args.header.now in
    let p = c.args.image.now.plan in
    let a : Bool = has_two_columns buf in
    let b : Bool = has_letters buf p in
    let heap : Bool = has_heap_after_rows buf h in
    let two : c.if-has_two_columns.value ≡ (a && b) = elim c.if-has_two_columns.branch [
      | then-has_two_columns w ↦ w.value-is ∙ (w.has_letters.ensures ∙ sym (ap (λ k. k && b) (sym c.has_two_columns.ensures ∙ w.if-has_two_columns.true)))
      | else-has_two_columns w ↦ (w.value-is ∙ w.if-has_two_columns.false) ∙ sym (ap (λ k. k && b) (sym c.has_two_columns.ensures ∙ w.if-has_two_columns.false))
    ] in
    let three : c.if-has_letters.value ≡ ((a && b) && heap) = elim c.if-has_letters.branch [
      | then-has_letters w ↦ w.value-is ∙ (w.has_heap_after_rows.ensures ∙ (heap_after buf h c.args.image.now.table c.requires.image.table ∙ sym (ap (λ k. k && heap) (sym two ∙ w.if-has_letters.true))))
      | else-has_letters w ↦ (w.value-is ∙ w.if-has_letters.false) ∙ sym (ap (λ k. k && heap) (sym two ∙ w.if-has_letters.false))
    ] in
    all_four a b heap (has_pixel_codes p.codec p.bitpix) c.has_pixel_codes.result (sym three ∙ c.if-has_heap_after_rows.true) c.has_pixel_codes.ensures

pub returns-else-has_heap_after_rows : goal.returns-else-has_heap_after_rows
returns-else-has_heap_after_rows c =
    let buf : List ℕ = c.args.buf.now in
    let h = c.args.header.now in
    let p = c.args.image.now.plan in
    let a : Bool = has_two_columns buf in
    let b : Bool = has_letters buf p in
    let heap : Bool = has_heap_after_rows buf h in
    let two : c.if-has_two_columns.value ≡ (a && b) = elim c.if-has_two_columns.branch [
      | then-has_two_columns w ↦ w.value-is ∙ (w.has_letters.ensures ∙ sym (ap (λ k. k && b) (sym c.has_two_columns.ensures ∙ w.if-has_two_columns.true)))
      | else-has_two_columns w ↦ (w.value-is ∙ w.if-has_two_columns.false) ∙ sym (ap (λ k. k && b) (sym c.has_two_columns.ensures ∙ w.if-has_two_columns.false))
    ] in
    let three : c.if-has_letters.value ≡ ((a && b) && heap) = elim c.if-has_letters.branch [
      | then-has_letters w ↦ w.value-is ∙ (w.has_heap_after_rows.ensures ∙ (heap_after buf h c.args.image.now.table c.requires.image.table ∙ sym (ap (λ k. k && heap) (sym two ∙ w.if-has_letters.true))))
      | else-has_letters w ↦ (w.value-is ∙ w.if-has_letters.false) ∙ sym (ap (λ k. k && heap) (sym two ∙ w.if-has_letters.false))
    ] in
    not_four a b heap (has_pixel_codes p.codec p.bitpix) c.if-has_letters.value three c.if-has_heap_after_rows.false
