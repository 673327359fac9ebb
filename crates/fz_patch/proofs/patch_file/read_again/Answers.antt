-- Refused only if the file gives other bytes than before.
use Rattle.std.proofs.Common.{Err, sym, subst}
use Rattle.std.specs.Prelude.{IfSome}
use Rattle.fz_base.specs.Refusal.{refusal}
use Rattle.fz_base.specs.Takings.{TellsFirstPast}
use Rattle.fz_base.specs.declared.fault.Fault.{Fault}
use Rattle.fz_base.specs.declared.fault.Place.TheVariants.{Card}
use Rattle.fz_base.specs.declared.kind.Kind.TheVariants.{BadCard}
use Rattle.fz_base.specs.declared.failure.Stop.{Stop}
use Rattle.fz_block.specs.Checks.{header_blocks_of}
use Rattle.fz_block.specs.Takings.{header_taking}
use Rattle.fz_block.specs.declared.next.ReadHeader.{ReadHeader}
use Rattle.fz_patch.proofs.FrameAgain.{again_of, never_refused, not_found, not_taken, read_same}
use Rattle.fz_patch.proofs.patch_file.read_again.Goals as goal

pub returns-then-found-length-clause-same : goal.returns-then-found-length-clause-same
returns-then-found-length-clause-same g c =
    not_found c.hdu_at_law.ensures.blocks (g.D.Source.held c.args.store.now) c.args.length c.args.found.now (Err c.changed.result) (g.met.D.Source.agrees c.args.store.now c.args.length c.requires.attached) c.if-found-length.true

pub returns-then-found-length-clause-first_past : goal.returns-then-found-length-clause-first_past
returns-then-found-length-clause-first_past g c =
    let meter = c.args.meter.now in
    let x : Fault = refusal c.args.found.now.hdu (Card 0) BadCard in
    subst (λ (s : Stop). IfSome (g.D.Source.held c.args.store.now) (λ f. TellsFirstPast {X = ReadHeader} meter.limit (header_taking meter.live (header_blocks_of c.args.found.now.hdu c.args.found.now.start f)) (Err s))) (sym c.changed.ensures)
    (not_taken (g.D.Source.held c.args.store.now) c.args.length meter.live meter.limit c.args.found.now x (g.met.D.Source.agrees c.args.store.now c.args.length c.requires.attached) c.if-found-length.true)

pub returns-in-Err-Refused-clause-same : goal.returns-in-Err-Refused-clause-same
returns-in-Err-Refused-clause-same g c =
    never_refused (g.D.Source.held c.args.store.now) c.args.found.now c.in-Err-Refused.field-0 c.in-Err-Refused.field-0-0 (Err c.changed-in-Err-Refused.result) c.in-Err-Refused.field-0-is c.in-Err-Refused.ensures.exact

pub returns-in_default-2-clause-again : goal.returns-in_default-2-clause-again
returns-in_default-2-clause-again g c = again_of (g.D.Source.held c.args.store.now) c.args.length c.args.found.now c.header_at.result c.header_at.ensures.bytes c.header_at.ensures.facts c.header_at.ensures.within

pub returns-in_default-2-clause-same : goal.returns-in_default-2-clause-same
returns-in_default-2-clause-same g c = read_same (g.D.Source.held c.args.store.now) c.args.found.now c.header_at.result c.header_at.ensures.exact
