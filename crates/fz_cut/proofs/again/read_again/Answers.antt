-- A header that was seen is read as it was.
use Rattle.std.proofs.Common.{ℕ, ◌≡◌, ◌+◌, ◌*◌, ◌≤◌, true, length, List, Option, IfSome, Ok, Err, IsErr, nat_lt, refl, sym, ◌∙◌, subst, rules, arith}
use Rattle.fz_base.specs.Source.{HoldsLength, Reads}
use Rattle.fz_base.specs.declared.failure.Stop.{Stop}
use Rattle.fz_block.specs.Header.{next_start_of}
use Rattle.fz_grid.specs.Region.{IsWithin}
use Rattle.fz_table.specs.Rows.{IsTable}
use Rattle.fz_checks.specs.JobChecks.{IsImageOf, image_to_cut}
use Rattle.fz_files.specs.Restored.{pixels_of}
use Rattle.fz_cut.proofs.Seen.{IsReadAgain, answered, front, no_fault, no_larger, no_other_answer, no_refusal, no_start}
use Rattle.fz_cut.proofs.again.read_again.Goals as goal

pub returns-then-from-length-clause-as_seen : goal.returns-then-from-length-clause-as_seen
returns-then-from-length-clause-as_seen g c =
    let held : Option (List ℕ) = g.S.Source.held c.args.source.now in
    let told : HoldsLength held c.args.length = g.met.S.Source.agrees c.args.source.now c.args.length c.requires.attached in
    no_start c.args.region.now c.args.from.now (length c.args.buf.now) c.args.tile held c.args.length (Err c.changed.result) told (omega arith)

pub returns-in-Err-Refused-clause-as_seen : goal.returns-in-Err-Refused-clause-as_seen
returns-in-Err-Refused-clause-as_seen g c =
    let held : Option (List ℕ) = g.S.Source.held c.args.source.now in
    let stop : Stop = c.in-Err-Refused.field-0 in
    no_other_answer c.args.region.now c.args.from.now (length c.args.buf.now) c.args.tile held stop c.in-Err-Refused.field-0-0 (Err c.changed-in-Err-Refused.result) c.in-Err-Refused.field-0-is
    (no_refusal c.again_law.ensures.room c.args.region.now c.args.from.now (length c.args.buf.now) c.args.tile held stop (Err stop) refl c.in-Err-Refused.ensures.exact)

pub returns-in-Err-clause-as_seen : goal.returns-in-Err-clause-as_seen
returns-in-Err-clause-as_seen g c =
    let stop : Stop = c.in-Err.stop in
    no_refusal c.again_law.ensures.room c.args.region.now c.args.from.now (length c.args.buf.now) c.args.tile (g.S.Source.held c.args.source.now) stop (Err stop) refl c.in-Err.ensures.exact

pub returns-in-Err-image_to_cut-clause-as_seen : goal.returns-in-Err-image_to_cut-clause-as_seen
returns-in-Err-image_to_cut-clause-as_seen g c =
    let held : Option (List ℕ) = g.S.Source.held c.args.source.now in
    let h = c.in-Ok.header in
    let buf : List ℕ = c.header_again.new.buf in
    let again : IfSome held (IsReadAgain c.args.from.now (length c.args.buf.now) h) = c.in-Ok.ensures.exact in
    let bad : IsErr (image_to_cut h (front h buf) true c.args.region.now) = search rules in
    no_fault c.again_law.ensures.room c.args.region.now c.args.from.now (length c.args.buf.now) c.args.tile h buf held (Err c.changed-in-Err-image_to_cut.result) again (search rules) c.in-Ok.ensures.bytes c.in-Ok.ensures.facts.2 bad

pub returns-then-is_larger-clause-as_seen : goal.returns-then-is_larger-clause-as_seen
returns-then-is_larger-clause-as_seen g c =
    let held : Option (List ℕ) = g.S.Source.held c.args.source.now in
    let h = c.in-Ok.header in
    let buf : List ℕ = c.header_again.new.buf in
    let room : 2880 * h.blocks ≤ length buf = search rules in
    let again : IfSome held (IsReadAgain c.args.from.now (length c.args.buf.now) h) = c.in-Ok.ensures.exact in
    let said : image_to_cut h (front h buf) true c.args.region.now ≡ Ok c.in-Ok-image_to_cut.image = search rules in
    let large : nat_lt c.args.tile (pixels_of c.in-Ok-image_to_cut.image.plan 0) ≡ true = sym c.is_larger.ensures ∙ c.if-is_larger.true in
    no_larger c.again_law.ensures.room c.args.region.now c.args.from.now (length c.args.buf.now) c.args.tile h buf held c.in-Ok-image_to_cut.image (Err c.changed-then-is_larger.result) again room c.in-Ok.ensures.bytes c.in-Ok.ensures.facts.2 said large

pub returns-clause-as_seen : goal.returns-clause-as_seen
returns-clause-as_seen g c =
    let held : Option (List ℕ) = g.S.Source.held c.args.source.now in
    let again : IfSome held (IsReadAgain c.args.from.now (length c.args.buf.now) c.in-Ok.header) = c.in-Ok.ensures.exact in
    answered c.again_law.ensures.room c.args.region.now c.args.from.now (length c.args.buf.now) c.args.tile c.in-Ok.header c.header_again.new.buf held (record { header = c.in-Ok.header; image = c.in-Ok-image_to_cut.image }) again refl

pub returns-clause-again : goal.returns-clause-again
returns-clause-again g c =
    let h = c.in-Ok.header in
    let buf : List ℕ = c.header_again.new.buf in
    let room : 2880 * h.blocks ≤ length buf = search rules in
    let said : image_to_cut h (front h buf) true c.args.region.now ≡ Ok c.in-Ok-image_to_cut.image = search rules in
    let image : IsImageOf (front h buf) h c.in-Ok-image_to_cut.image = search rules in
    let table : IsTable c.in-Ok-image_to_cut.image.table = search rules in
    let heap : c.in-Ok-image_to_cut.image.table.heap_at + c.in-Ok-image_to_cut.image.table.heap_len ≤ next_start_of h = search rules in
    let within : IsWithin c.in-Ok-image_to_cut.image.plan.shape c.args.region.now = search rules in
    record {
      room = room;
      header = c.in-Ok.ensures.facts.0;
      read = subst (λ n. Reads (g.S.Source.held c.args.source.now) n (front h buf)) (sym c.in-Ok.ensures.facts.2) c.in-Ok.ensures.bytes;
      found = said;
      usable =
          record {
            planned = image.planned;
            readable = record { table = table; divided = image.divided; codec = image.readable; rows = image.rows };
            inside = omega (arith, heap, c.in-Ok.ensures.within.0);
            within = within;
          };
    }
