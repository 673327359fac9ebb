-- The sum of a header in which CHECKSUM is blank, and of the data.
use Rattle.std.proofs.Common.{◌≡◌, ℕ, ◌+◌, List, ◌∷◌, [], ◌++◌, Option, IfSome, sym, ap, ◌∙◌, subst, arith}
use Rattle.std.proofs.lemmas.Result.{on_ok_weaker}
use Rattle.fz_base.specs.Counts.{Amend}
use Rattle.fz_sum.specs.Cards.{blank_checksum_card, checksum_card, with_card}
use Rattle.fz_sum.specs.Sums.{ones_sum}
use Rattle.fz_laws.specs.Writes.{card_write}
use Rattle.fz_base.specs.Store.{HasAtLeast}
use Rattle.fz_patch.specs.Cards.{IsCardIn, checksum_write}
use Rattle.fz_target.specs.Steps.{Wrote, WroteSome}
use Rattle.fz_patch.proofs.Amended.{amends-nothing}
use Rattle.fz_patch.proofs.Summed.{both_sum}
use Rattle.fz_patch.proofs.Wrotes.{wrote-none, wrote-nothing}
use Rattle.fz_patch.proofs.sums.write_checksum.Goals as goal

pub add-requires : goal.add-requires
add-requires g c = omega (arith, c.requires.few, c.requires.near, c.put_card.ensures.len)

pub returns-clause-wrote : goal.returns-clause-wrote
returns-clause-wrote g c =
    let h = c.args.header.now in
    let i : ℕ = c.in-Some.i in
    let held = g.D.Source.held c.args.store.now in
    let now = g.D.Source.held c.write_card.new.store in
    let log : Option (List Amend) = (g.D.Source.tally c.args.store.now).amended.writes in
    let log' : Option (List Amend) = (g.D.Source.tally c.write_card.new.store).amended.writes in
    on_ok_weaker c.write_card.result
    (λ wrote payload added.
    let sum : c.value.result ≡ ones_sum (c.put_card.new.buf ++ payload) =
    c.value.ensures ∙ both_sum c.sum_law.ensures.joined c.sum_law.ensures.whole c.sum_law.ensures.words c.put_card.new.buf payload h.blocks c.args.sum c.add.new.self (c.put_card.ensures.len ∙ c.requires.header) added c.add.ensures in
    let blank : c.put_card.new.buf ≡ with_card i blank_checksum_card c.args.buf.now = c.put_card.ensures.header ∙ ap (λ l. with_card i l c.args.buf.now) c.blank_checksum_card.ensures in
    let card : c.checksum_card.result.bytes ≡ checksum_card (ones_sum (with_card i blank_checksum_card c.args.buf.now ++ payload)) =
    c.checksum_card.ensures ∙ ap checksum_card (sum ∙ ap (λ l. ones_sum (l ++ payload)) blank) in
    subst (λ o. Wrote (checksum_write h o payload c.args.buf.now) held now log log') (sym c.in-Some.is)
    (subst (λ l. Wrote (card_write h i l ∷ []) held now log log') card wrote))
    c.write_card.ensures.wrote

pub returns-clause-some : goal.returns-clause-some
returns-clause-some g c =
    let h = c.args.header.now in
    let i : ℕ = c.in-Some.i in
    let held = g.D.Source.held c.args.store.now in
    let now = g.D.Source.held c.write_card.new.store in
    let log : Option (List Amend) = (g.D.Source.tally c.args.store.now).amended.writes in
    let log' : Option (List Amend) = (g.D.Source.tally c.write_card.new.store).amended.writes in
    λ payload added.
    let sum : c.value.result ≡ ones_sum (c.put_card.new.buf ++ payload) =
    c.value.ensures ∙ both_sum c.sum_law.ensures.joined c.sum_law.ensures.whole c.sum_law.ensures.words c.put_card.new.buf payload h.blocks c.args.sum c.add.new.self (c.put_card.ensures.len ∙ c.requires.header) added c.add.ensures in
    let blank : c.put_card.new.buf ≡ with_card i blank_checksum_card c.args.buf.now = c.put_card.ensures.header ∙ ap (λ l. with_card i l c.args.buf.now) c.blank_checksum_card.ensures in
    let card : c.checksum_card.result.bytes ≡ checksum_card (ones_sum (with_card i blank_checksum_card c.args.buf.now ++ payload)) =
    c.checksum_card.ensures ∙ ap checksum_card (sum ∙ ap (λ l. ones_sum (l ++ payload)) blank) in
    subst (λ o. WroteSome (checksum_write h o payload c.args.buf.now) held now log log') (sym c.in-Some.is)
    (subst (λ l. WroteSome (card_write h i l ∷ []) held now log log') card c.write_card.ensures.some)

-- ---- the card is in the header

pub put_card-requires : goal.put_card-requires
put_card-requires g c = record { card = subst (λ (o : Option ℕ). IfSome o (IsCardIn c.args.buf.now)) c.in-Some.is c.requires.card }

pub write_card-requires-clause-card : goal.write_card-requires-clause-card
write_card-requires-clause-card g c =
    let inside : IsCardIn c.args.buf.now c.in-Some.i = subst (λ (o : Option ℕ). IfSome o (IsCardIn c.args.buf.now)) c.in-Some.is c.requires.card in
    omega (arith, inside, c.put_card.ensures.len)

pub write_card-requires-clause-within : goal.write_card-requires-clause-within
write_card-requires-clause-within g c = subst (λ n. HasAtLeast (g.D.Source.attached c.args.store.now) (c.args.header.now.start + n)) (sym c.put_card.ensures.len) c.requires.within

pub write_card-requires-clause-near : goal.write_card-requires-clause-near
write_card-requires-clause-near g c = omega (arith, c.requires.near, c.put_card.ensures.len)

-- ---- the header has no such card

pub returns-in_default-clause-wrote : goal.returns-in_default-clause-wrote
returns-in_default-clause-wrote g c =
    let held = g.D.Source.held c.args.store.now in
    let log : Option (List Amend) = (g.D.Source.tally c.args.store.now).amended.writes in
    λ payload added. subst (λ o. Wrote (checksum_write c.args.header.now o payload c.args.buf.now) held held log log) (sym c.in_default.is) (wrote-none held log)

pub returns-in_default-clause-some : goal.returns-in_default-clause-some
returns-in_default-clause-some g c =
    let held = g.D.Source.held c.args.store.now in
    let log : Option (List Amend) = (g.D.Source.tally c.args.store.now).amended.writes in
    λ payload added. wrote-nothing (checksum_write c.args.header.now c.args.found payload c.args.buf.now) held log

pub returns-in_default-clause-cause : goal.returns-in_default-clause-cause
returns-in_default-clause-cause g c = amends-nothing (g.D.Source.tally c.args.store.now) tt
