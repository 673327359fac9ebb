-- The card of the form is written, if it has to say more.
use Rattle.std.proofs.Common.{◌≡◌, List, [], ◌∷◌, Option, refl, sym, ap, ◌∙◌, subst}
use Rattle.std.proofs.lemmas.Result.{on_ok_weaker}
use Rattle.fz_base.specs.Counts.{Amend}
use Rattle.fz_sum.specs.Cards.{with_card}
use Rattle.fz_laws.specs.Writes.{card_write}
use Rattle.fz_patch.specs.Cards.{form_write, with_form}
use Rattle.fz_target.specs.Steps.{Wrote, WroteSome}
use Rattle.fz_patch.proofs.Amended.{amends-nothing}
use Rattle.fz_patch.proofs.Wrotes.{wrote-none, wrote-nothing}
use Rattle.fz_patch.proofs.cards.write_form.Goals as goal

pub returns-in-Some-clause-wrote : goal.returns-in-Some-clause-wrote
returns-in-Some-clause-wrote g c =
    let t = c.args.target.now in
    let held = g.D.Source.held c.args.store.now in
    let now = g.D.Source.held c.write_card.new.store in
    let log : Option (List Amend) = (g.D.Source.tally c.args.store.now).amended.writes in
    let log' : Option (List Amend) = (g.D.Source.tally c.write_card.new.store).amended.writes in
    on_ok_weaker c.write_card.result
    (λ wrote. subst (λ o. Wrote (form_write t c.args.column c.args.place c.args.letter.now o) held now log log') (sym c.in-Some.is)
    (subst (λ l. Wrote (card_write t.header c.args.place l ∷ []) held now log log') c.form_card-card.ensures wrote)) c.write_card.ensures.wrote

pub returns-in-Some-clause-some : goal.returns-in-Some-clause-some
returns-in-Some-clause-some g c =
    let t = c.args.target.now in
    let held = g.D.Source.held c.args.store.now in
    let now = g.D.Source.held c.write_card.new.store in
    let log : Option (List Amend) = (g.D.Source.tally c.args.store.now).amended.writes in
    let log' : Option (List Amend) = (g.D.Source.tally c.write_card.new.store).amended.writes in
    subst (λ o. WroteSome (form_write t c.args.column c.args.place c.args.letter.now o) held now log log') (sym c.in-Some.is)
    (subst (λ l. WroteSome (card_write t.header c.args.place l ∷ []) held now log log') c.form_card-card.ensures c.write_card.ensures.some)

pub returns-in-Some-clause-header : goal.returns-in-Some-clause-header
returns-in-Some-clause-header g c =
    let t = c.args.target.now in
    on_ok_weaker c.write_card.result
    (λ new. subst (λ o. c.write_card.new.buf ≡ with_form t c.args.column c.args.place c.args.letter.now o c.args.buf.now) (sym c.in-Some.is)
    (new ∙ ap (λ l. with_card c.args.place l c.args.buf.now) c.form_card-card.ensures)) c.write_card.ensures.header

pub returns-in-None-clause-wrote : goal.returns-in-None-clause-wrote
returns-in-None-clause-wrote g c =
    let held = g.D.Source.held c.args.store.now in
    let log : Option (List Amend) = (g.D.Source.tally c.args.store.now).amended.writes in
    subst (λ o. Wrote (form_write c.args.target.now c.args.column c.args.place c.args.letter.now o) held held log log) (sym c.in-None.is) (wrote-none held log)

pub returns-in-None-clause-some : goal.returns-in-None-clause-some
returns-in-None-clause-some g c =
    let held = g.D.Source.held c.args.store.now in
    let log : Option (List Amend) = (g.D.Source.tally c.args.store.now).amended.writes in
    wrote-nothing (form_write c.args.target.now c.args.column c.args.place c.args.letter.now c.args.most) held log

pub returns-in-None-clause-header : goal.returns-in-None-clause-header
returns-in-None-clause-header g c = subst (λ o. c.args.buf.now ≡ with_form c.args.target.now c.args.column c.args.place c.args.letter.now o c.args.buf.now) (sym c.in-None.is) refl

pub returns-in-None-clause-cause : goal.returns-in-None-clause-cause
returns-in-None-clause-cause g c = amends-nothing (g.D.Source.tally c.args.store.now) tt
