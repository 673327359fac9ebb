-- The letters of both columns, and then their widths.
use Rattle.std.proofs.Common.{◌≡◌, Bool, true, List, ℕ, sym, ap, ◌∙◌}
use Rattle.fz_table.specs.Columns.{describes, form_of}
use Rattle.fz_table.specs.Tables.{stored_name}
use Rattle.fz_head.specs.PackedHeader.{coded_letter, stored_letter}
use Rattle.fz_laws.specs.PatchForm.{is_wide_column, is_wide_table}
use Rattle.fz_target.proofs.FormTests.{coded_wide, stored_wide, widths_same}
use Rattle.fz_target.proofs.form.has_letters.Goals as goal
use Rattle.fz_target.proofs.form.has_letters.Goals.{then-is_described, else-is_described}

pub returns-then-is_described-2 : goal.returns-then-is_described-2
returns-then-is_described-2 c =
    let buf : List ℕ = c.args.buf.now in
    let h = c.args.header.now in
    let p = c.args.image.now.plan in
    let table = c.args.image.now.table in
    let first : Bool = describes (coded_letter p.codec) (form_of buf 1) in
    let second : Bool = describes (stored_letter p.bitpix) (form_of buf 2) in
    let coded : c.as_bytes-coded.result.now ≡ coded_letter p.codec = c.as_bytes-coded.ensures.value ∙ c.coded_letter.ensures.value in
    let stored : c.as_bytes-stored.result.now ≡ stored_letter p.bitpix = c.as_bytes-stored.ensures.value ∙ c.stored_letter.ensures.value in
    let one : c.is_described.result ≡ first = c.is_described.ensures ∙ ap (λ l. describes l (form_of buf 1)) coded in
    let both : (first ≡ true) × (second ≡ true) =
    elim c.if-is_described.branch [
      | then-is_described w ↦ (
        sym one ∙ w.if-is_described.true,
        sym (w.is_described-then-is_described.ensures ∙ ap (λ l. describes l (form_of buf 2)) stored) ∙ (sym w.value-is ∙ c.if-is_described-2.true),
      )
      | else-is_described w ↦ let no = w.value-is in let yes = c.if-is_described-2.true in absurd cc
    ] in
    widths_same first second (is_wide_table buf) (is_wide_column buf stored_name) c.is_wide.result c.is_wide-then-is_described-2.result both.0 both.1
    (c.is_wide.ensures ∙ coded_wide buf h table c.requires.image.table) (c.is_wide-then-is_described-2.ensures ∙ stored_wide buf h table c.requires.image.table)
