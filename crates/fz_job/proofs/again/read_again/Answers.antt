-- A header that was seen is read as it was.
use Rattle.std.proofs.Common.{ℕ, ◌≡◌, ◌+◌, ◌*◌, ◌≤◌, true, length, List, Option, IfSome, Ok, Err, IsErr, refl, sym, ◌∙◌, subst, rules}
use Rattle.fz_base.specs.Source.{Reads}
use Rattle.fz_base.specs.declared.failure.Stop.{Stop}
use Rattle.fz_block.specs.Header.{next_start_of}
use Rattle.fz_table.specs.Rows.{IsTable}
use Rattle.fz_checks.specs.JobChecks.{IsImageOf, image_to_unpack}
use Rattle.fz_job.specs.Again.{is_larger}
use Rattle.fz_job.proofs.Seen.{IsReadAgain, answered, front, no_fault, no_larger, no_other_answer, no_refusal}
use Rattle.fz_job.proofs.Usable.{usable}
use Rattle.fz_job.proofs.again.read_again.Goals as goal

pub returns-in-Err-Refused-clause-as_seen : goal.returns-in-Err-Refused-clause-as_seen
returns-in-Err-Refused-clause-as_seen g c =
    let held : Option (List ℕ) = g.S.Source.held c.args.source.now in
    let stop : Stop = c.in-Err-Refused.field-0 in
    no_other_answer c.args.begun.hdu c.args.begun.start c.args.begun.after_empty (length c.args.buf.now) c.args.tile held stop c.in-Err-Refused.field-0-0 (Err c.changed.result) c.in-Err-Refused.field-0-is
    (no_refusal c.again_law.ensures.room c.args.begun.hdu c.args.begun.start c.args.begun.after_empty (length c.args.buf.now) c.args.tile held stop (Err stop) refl c.in-Err-Refused.ensures.exact)

pub returns-in-Err-clause-as_seen : goal.returns-in-Err-clause-as_seen
returns-in-Err-clause-as_seen g c =
    no_refusal c.again_law.ensures.room c.args.begun.hdu c.args.begun.start c.args.begun.after_empty (length c.args.buf.now) c.args.tile (g.S.Source.held c.args.source.now) c.in-Err.stop (Err c.in-Err.stop) refl c.in-Err.ensures.exact

pub returns-in-Err-image_to_unpack-clause-as_seen : goal.returns-in-Err-image_to_unpack-clause-as_seen
returns-in-Err-image_to_unpack-clause-as_seen g c =
    let held : Option (List ℕ) = g.S.Source.held c.args.source.now in
    let h = c.in-Ok.header in
    let buf : List ℕ = c.header_again.new.buf in
    let again : IfSome held (IsReadAgain c.args.begun.hdu c.args.begun.start (length c.args.buf.now) h) = c.in-Ok.ensures.exact in
    let bad : IsErr (image_to_unpack h (front h buf) c.args.begun.after_empty) = search rules in
    no_fault c.again_law.ensures.room c.args.begun.hdu c.args.begun.start c.args.begun.after_empty (length c.args.buf.now) c.args.tile h buf held (Err c.changed-in-Err-image_to_unpack.result) again (search rules) c.in-Ok.ensures.bytes c.in-Ok.ensures.facts.2 bad

pub returns-then-is_larger-clause-as_seen : goal.returns-then-is_larger-clause-as_seen
returns-then-is_larger-clause-as_seen g c =
    let held : Option (List ℕ) = g.S.Source.held c.args.source.now in
    let h = c.in-Ok.header in
    let buf : List ℕ = c.header_again.new.buf in
    let room : 2880 * h.blocks ≤ length buf = search rules in
    let again : IfSome held (IsReadAgain c.args.begun.hdu c.args.begun.start (length c.args.buf.now) h) = c.in-Ok.ensures.exact in
    let said : image_to_unpack h (front h buf) c.args.begun.after_empty ≡ Ok c.in-Ok-image_to_unpack.image = search rules in
    let large : is_larger c.args.tile c.in-Ok-image_to_unpack.image ≡ true = sym c.is_larger.ensures ∙ c.if-is_larger.true in
    no_larger c.again_law.ensures.room c.args.begun.hdu c.args.begun.start c.args.begun.after_empty (length c.args.buf.now) c.args.tile h buf held c.in-Ok-image_to_unpack.image (Err c.changed-then-is_larger.result) again room c.in-Ok.ensures.bytes c.in-Ok.ensures.facts.2 said large

pub returns-clause-as_seen : goal.returns-clause-as_seen
returns-clause-as_seen g c =
    let held : Option (List ℕ) = g.S.Source.held c.args.source.now in
    let again : IfSome held (IsReadAgain c.args.begun.hdu c.args.begun.start (length c.args.buf.now) c.in-Ok.header) = c.in-Ok.ensures.exact in
    answered c.again_law.ensures.room c.args.begun.hdu c.args.begun.start c.args.begun.after_empty (length c.args.buf.now) c.args.tile c.in-Ok.header c.header_again.new.buf held
    (record { header = c.in-Ok.header; image = c.in-Ok-image_to_unpack.image }) again refl

pub returns-clause-again : goal.returns-clause-again
returns-clause-again g c =
    let held : Option (List ℕ) = g.S.Source.held c.args.source.now in
    let h = c.in-Ok.header in
    let buf : List ℕ = c.header_again.new.buf in
    let room : 2880 * h.blocks ≤ length buf = search rules in
    let said : image_to_unpack h (front h buf) c.args.begun.after_empty ≡ Ok c.in-Ok-image_to_unpack.image = search rules in
    let image : IfSome c.in-Ok-image_to_unpack.image (IsImageOf (front h buf) h) = search rules in
    let table : IfSome c.in-Ok-image_to_unpack.image (λ i. IsTable i.table) = search rules in
    let heap : IfSome c.in-Ok-image_to_unpack.image (λ i. i.table.heap_at + i.table.heap_len ≤ next_start_of h) = search rules in
    record {
      room = room;
      header = c.in-Ok.ensures.facts.0;
      inside = c.in-Ok.ensures.within.0;
      near = c.in-Ok.ensures.within.1;
      read = subst (λ n. Reads held n (front h buf)) (sym c.in-Ok.ensures.facts.2) c.in-Ok.ensures.bytes;
      after_empty = c.args.begun.after_empty;
      found = said;
      usable = usable h (front h buf) c.args.length c.in-Ok-image_to_unpack.image c.in-Ok.ensures.within.0 image table heap;
    }
