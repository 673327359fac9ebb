-- One write of a card.
use Rattle.std.proofs.Common.{ℕ, ◌+◌, ◌*◌, List, [], ◌∷◌, length, Option, subst, arith}
use Rattle.fz_base.specs.Counts.{Tally}
use Rattle.fz_laws.specs.Amends.{amend_of}
use Rattle.fz_target.specs.Steps.{WroteSome}
use Rattle.fz_patch.proofs.AmendWrites.{amend_some}
use Rattle.fz_patch.proofs.Amended.{at-least}
use Rattle.fz_patch.proofs.cards.write_card.Goals as goal

pub amend_at-requires-clause-within : goal.amend_at-requires-clause-within
amend_at-requires-clause-within g c =
    at-least (g.D.Source.attached c.args.store.now) (c.args.header.now.start + length c.args.buf.now) (c.args.header.now.start + 80 * c.from.result) c.requires.within (omega (arith, c.from.ensures, c.requires.card))

pub amend_at-requires-clause-near : goal.amend_at-requires-clause-near
amend_at-requires-clause-near g c = omega (arith, c.from.ensures, c.requires.card, c.requires.near)

pub returns-in_err-amend_at-clause-some : goal.returns-in_err-amend_at-clause-some
returns-in_err-amend_at-clause-some g c =
    let old : Tally = g.D.Source.tally c.args.store.now in
    let new : Tally = g.D.Source.tally c.amend_at.new.store in
    let held : Option (List ℕ) = g.D.Source.held c.args.store.now in
    let now : Option (List ℕ) = g.D.Source.held c.amend_at.new.store in
    subst (λ n. WroteSome (amend_of (c.args.header.now.start + 80 * n) c.args.card.now.bytes ∷ []) held now old.amended.writes new.amended.writes) c.from.ensures
    (amend_some (amend_of (c.args.header.now.start + 80 * c.from.result) c.args.card.now.bytes) held now old new c.amend_at.result c.amend_at.ensures.amended c.amend_at.ensures.partly c.amend_at.ensures.cause)

pub returns-clause-some : goal.returns-clause-some
returns-clause-some g c =
    let old : Tally = g.D.Source.tally c.args.store.now in
    let new : Tally = g.D.Source.tally c.amend_at.new.store in
    let held : Option (List ℕ) = g.D.Source.held c.args.store.now in
    let now : Option (List ℕ) = g.D.Source.held c.amend_at.new.store in
    subst (λ n. WroteSome (amend_of (c.args.header.now.start + 80 * n) c.args.card.now.bytes ∷ []) held now old.amended.writes new.amended.writes) c.from.ensures
    (amend_some (amend_of (c.args.header.now.start + 80 * c.from.result) c.args.card.now.bytes) held now old new c.amend_at.result c.amend_at.ensures.amended c.amend_at.ensures.partly c.amend_at.ensures.cause)
