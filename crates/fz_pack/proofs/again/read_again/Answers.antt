-- A header that was seen is read as it was.
use Rattle.std.proofs.Common.{ℕ, ◌≡◌, ◌*◌, ◌≤◌, ◌||◌, nat_lt, true, false, length, List, Option, IfSome, Ok, Err, IsErr, codes, refl, sym, ◌∙◌, rules}
use Rattle.fz_base.specs.declared.failure.Stop.{Stop}
use Rattle.fz_block.specs.Cards.{card_at}
use Rattle.fz_block.specs.Checks.{is_set}
use Rattle.fz_checks.specs.JobChecks.{plan_to_pack}
use Rattle.fz_pack.specs.Again.{is_larger}
use Rattle.fz_pack.proofs.Seen.{IsReadAgain, answered, front, no_fault, no_larger, no_other, no_other_answer, no_refusal}
use Rattle.fz_pack.proofs.again.read_again.Goals.{then-is_larger-via-then-is_larger, then-is_larger-via-else-is_larger+then-not-begins_file}
use Rattle.fz_pack.proofs.again.read_again.Goals as goal

pub returns-in-Err-Refused-clause-as_seen : goal.returns-in-Err-Refused-clause-as_seen
returns-in-Err-Refused-clause-as_seen g c =
    let held : Option (List ℕ) = g.S.Source.held c.args.source.now in
    let stop : Stop = c.in-Err-Refused.field-0 in
    no_other_answer c.args.asked.now.options c.args.hdu c.args.start (length c.args.buf.now) c.args.tile held stop c.in-Err-Refused.field-0-0 (Err c.changed.result) c.in-Err-Refused.field-0-is
    (no_refusal c.again_law.ensures.room c.args.asked.now.options c.args.hdu c.args.start (length c.args.buf.now) c.args.tile held stop (Err stop) refl c.in-Err-Refused.ensures.exact)

pub returns-in-Err-clause-as_seen : goal.returns-in-Err-clause-as_seen
returns-in-Err-clause-as_seen g c =
    no_refusal c.again_law.ensures.room c.args.asked.now.options c.args.hdu c.args.start (length c.args.buf.now) c.args.tile (g.S.Source.held c.args.source.now) c.in-Err.stop (Err c.in-Err.stop) refl c.in-Err.ensures.exact

pub returns-in-Err-plan_to_pack-clause-as_seen : goal.returns-in-Err-plan_to_pack-clause-as_seen
returns-in-Err-plan_to_pack-clause-as_seen g c =
    let held : Option (List ℕ) = g.S.Source.held c.args.source.now in
    let h = c.in-Ok.header in
    let buf : List ℕ = c.header_again.new.buf in
    let again : IfSome held (IsReadAgain c.args.hdu c.args.start (length c.args.buf.now) h) = c.in-Ok.ensures.exact in
    let bad : IsErr (plan_to_pack c.args.asked.now.options h (front h buf)) = search rules in
    no_fault c.again_law.ensures.room c.args.asked.now.options c.args.hdu c.args.start (length c.args.buf.now) c.args.tile h buf held (Err c.changed-in-Err-plan_to_pack.result) again (search rules) c.in-Ok.ensures.bytes c.in-Ok.ensures.facts.2 bad

pub returns-then-is_larger-clause-as_seen : goal.returns-then-is_larger-clause-as_seen
returns-then-is_larger-clause-as_seen g c =
    let held : Option (List ℕ) = g.S.Source.held c.args.source.now in
    let h = c.in-Ok.header in
    let buf : List ℕ = c.header_again.new.buf in
    let room : 2880 * h.blocks ≤ length buf = search rules in
    let again : IfSome held (IsReadAgain c.args.hdu c.args.start (length c.args.buf.now) h) = c.in-Ok.ensures.exact in
    let planned : plan_to_pack c.args.asked.now.options h (front h buf) ≡ Ok c.in-Ok-plan_to_pack.plan = search rules in
    elim c.then-is_larger.branch [
      | then-is_larger-via-then-is_larger w ↦
          let large : is_larger c.args.tile c.in-Ok-plan_to_pack.plan ≡ true = sym c.is_larger.ensures ∙ w.if-is_larger.true in
          no_larger c.again_law.ensures.room c.args.asked.now.options c.args.hdu c.args.start (length c.args.buf.now) c.args.tile h buf held c.in-Ok-plan_to_pack.plan (Err c.changed-then-is_larger.result) again room c.in-Ok.ensures.bytes c.in-Ok.ensures.facts.2 planned large
      | then-is_larger-via-else-is_larger+then-not-begins_file w ↦
          let other : (nat_lt 0 c.args.hdu || is_set (codes "SIMPLE") (card_at (front h buf) 0)) ≡ false = search rules in
          no_other c.again_law.ensures.room c.args.asked.now.options c.args.hdu c.args.start (length c.args.buf.now) c.args.tile h buf held (Err c.changed-then-is_larger.result) again room c.in-Ok.ensures.bytes c.in-Ok.ensures.facts.2 other
    ]

pub returns-clause-as_seen : goal.returns-clause-as_seen
returns-clause-as_seen g c =
    let held : Option (List ℕ) = g.S.Source.held c.args.source.now in
    let again : IfSome held (IsReadAgain c.args.hdu c.args.start (length c.args.buf.now) c.in-Ok.header) = c.in-Ok.ensures.exact in
    answered c.again_law.ensures.room c.args.asked.now.options c.args.hdu c.args.start (length c.args.buf.now) c.args.tile c.in-Ok.header c.header_again.new.buf held
    (record { header = c.in-Ok.header; plan = c.in-Ok-plan_to_pack.plan }) again refl
