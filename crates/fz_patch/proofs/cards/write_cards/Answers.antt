-- PCOUNT, and then both forms.
use Rattle.std.proofs.Common.{◌≡◌, ℕ, ◌+◌, List, [], ◌∷◌, Option, Result, Err, refl, sym, ◌∙◌, subst, arith, rules}
use Rattle.std.specs.Prelude.{IsSome}
use Rattle.std.proofs.lemmas.Result.{on_ok_weaker}
use Rattle.fz_base.specs.Counts.{Amend, Tally}
use Rattle.fz_base.specs.Store.{HasAtLeast}
use Rattle.fz_base.specs.declared.failure.Stop.{Stop}
use Rattle.fz_head.specs.PackedHeader.{coded_letter, stored_letter}
use Rattle.fz_laws.specs.Writes.{card_write}
use Rattle.fz_patch.specs.Cards.{form_write, forms_writes, pcount_at, pcount_card}
use Rattle.fz_target.specs.Ends.{AmendsStore}
use Rattle.fz_target.specs.Steps.{Wrote, WroteSome}
use Rattle.fz_patch.proofs.Amended.{amends-then, kept-then, reach-is, reach-then, same-then, settled-amends}
use Rattle.fz_patch.proofs.CardSteps.{header_is, stopped_first, stopped_second, stopped_third, three_wrote, writes_are}
use Rattle.fz_patch.proofs.CodedEnds.{ends_of}
use Rattle.fz_patch.proofs.CodedRefusals.{some_same, wrote_same}
use Rattle.fz_patch.proofs.EndsJoined.{settled_writes}
use Rattle.fz_patch.proofs.Wrotes.{wrote-all}
use Rattle.fz_patch.proofs.SettledSteps.{all_settled}
use Rattle.fz_patch.proofs.cards.write_cards.Goals as goal

pub overflow_add-heap : goal.overflow_add-heap
overflow_add-heap g c = let short = (ends_of c.args.target.now c.args.found.now c.requires.room).short in omega (arith, short)

-- ---- one of the three failed

pub returns-in_err-write_card-clause-some : goal.returns-in_err-write_card-clause-some
returns-in_err-write_card-clause-some g c =
    let t = c.args.target.now in
    let p = c.args.places.now in
    let m = c.args.found.now in
    let forms = c.args.forms.now in
    let codec = t.image.plan.codec in
    let bitpix = t.image.plan.bitpix in
    let card : c.int_card.result.bytes ≡ pcount_card t m = search rules in
    let held0 : Option (List ℕ) = g.D.Source.held c.args.store.now in
    let held1 : Option (List ℕ) = g.D.Source.held c.write_card.new.store in
    let log0 : Option (List Amend) = (g.D.Source.tally c.args.store.now).amended.writes in
    let log1 : Option (List Amend) = (g.D.Source.tally c.write_card.new.store).amended.writes in
    subst (λ ws. WroteSome ws held0 held1 log0 log1) (writes_are t p m forms c.int_card.result.bytes (coded_letter codec) (stored_letter bitpix) card refl refl)
    (stopped_first (card_write t.header (pcount_at t) c.int_card.result.bytes ∷ []) (form_write t 1 p.coded (coded_letter codec) forms.coded) (form_write t 2 p.stored (stored_letter bitpix) forms.stored)
    held0 held1 held1 held1 log0 log1 log1 log1 c.in_err-write_card.ensures.some)

pub returns-in_err-write_form-clause-some : goal.returns-in_err-write_form-clause-some
returns-in_err-write_form-clause-some g c =
    let t = c.args.target.now in
    let p = c.args.places.now in
    let m = c.args.found.now in
    let forms = c.args.forms.now in
    let codec = t.image.plan.codec in
    let bitpix = t.image.plan.bitpix in
    let card : c.int_card.result.bytes ≡ pcount_card t m = search rules in
    let held0 : Option (List ℕ) = g.D.Source.held c.args.store.now in
    let held1 : Option (List ℕ) = g.D.Source.held c.write_card.new.store in
    let held2 : Option (List ℕ) = g.D.Source.held c.write_form.new.store in
    let log0 : Option (List Amend) = (g.D.Source.tally c.args.store.now).amended.writes in
    let log1 : Option (List Amend) = (g.D.Source.tally c.write_card.new.store).amended.writes in
    let log2 : Option (List Amend) = (g.D.Source.tally c.write_form.new.store).amended.writes in
    subst (λ ws. WroteSome ws held0 held2 log0 log2) (writes_are t p m forms c.int_card.result.bytes c.coded_letter.result.now (stored_letter bitpix) card c.coded_letter.ensures.value refl)
    (stopped_second (card_write t.header (pcount_at t) c.int_card.result.bytes ∷ []) (form_write t 1 p.coded c.coded_letter.result.now forms.coded) (form_write t 2 p.stored (stored_letter bitpix) forms.stored)
    held0 held1 held2 held2 log0 log1 log2 log2 c.in_ok-write_card.ensures.wrote c.in_err-write_form.ensures.some)

pub returns-in_err-write_form-clause-cause : goal.returns-in_err-write_form-clause-cause
returns-in_err-write_form-clause-cause g c =
    let stop : Stop = c.in_err-write_form.field-0.0 in
    let stopped : c.from_residual-in_err-write_form.result ≡ Err stop = search rules in
    let s : Tally = g.D.Source.tally c.args.store.now in
    let s' : Tally = g.D.Source.tally c.write_card.new.store in
    let s'' : Tally = g.D.Source.tally c.write_form.new.store in
    let one = c.in_ok-write_card.ensures.cause in
    subst (λ (r : Result (Unit {0}) Stop). AmendsStore s s'' r) (sym stopped) (amends-then s s' s'' (Err stop) one.kept one.ok c.in_err-write_form.ensures.cause)

pub returns-in_err-write_form-clause-reach : goal.returns-in_err-write_form-clause-reach
returns-in_err-write_form-clause-reach g c = reach-then _ _ _ c.in_ok-write_card.ensures.reach c.in_err-write_form.ensures.reach

pub returns-in_err-write_form-2-clause-some : goal.returns-in_err-write_form-2-clause-some
returns-in_err-write_form-2-clause-some g c =
    let t = c.args.target.now in
    let p = c.args.places.now in
    let m = c.args.found.now in
    let forms = c.args.forms.now in
    let codec = t.image.plan.codec in
    let bitpix = t.image.plan.bitpix in
    let card : c.int_card.result.bytes ≡ pcount_card t m = search rules in
    let held0 : Option (List ℕ) = g.D.Source.held c.args.store.now in
    let held1 : Option (List ℕ) = g.D.Source.held c.write_card.new.store in
    let held2 : Option (List ℕ) = g.D.Source.held c.write_form.new.store in
    let held3 : Option (List ℕ) = g.D.Source.held c.write_form-2.new.store in
    let log0 : Option (List Amend) = (g.D.Source.tally c.args.store.now).amended.writes in
    let log1 : Option (List Amend) = (g.D.Source.tally c.write_card.new.store).amended.writes in
    let log2 : Option (List Amend) = (g.D.Source.tally c.write_form.new.store).amended.writes in
    let log3 : Option (List Amend) = (g.D.Source.tally c.write_form-2.new.store).amended.writes in
    subst (λ ws. WroteSome ws held0 held3 log0 log3) (writes_are t p m forms c.int_card.result.bytes c.coded_letter.result.now c.stored_letter.result.now card c.coded_letter.ensures.value c.stored_letter.ensures.value)
    (stopped_third (card_write t.header (pcount_at t) c.int_card.result.bytes ∷ []) (form_write t 1 p.coded c.coded_letter.result.now forms.coded) (form_write t 2 p.stored c.stored_letter.result.now forms.stored)
    held0 held1 held2 held3 log0 log1 log2 log3 c.in_ok-write_card.ensures.wrote c.in_ok-write_form.ensures.wrote c.in_err-write_form-2.ensures.some)

pub returns-in_err-write_form-2-clause-cause : goal.returns-in_err-write_form-2-clause-cause
returns-in_err-write_form-2-clause-cause g c =
    let stop : Stop = c.in_err-write_form-2.field-0.0 in
    let stopped : c.from_residual-in_err-write_form-2.result ≡ Err stop = search rules in
    let s : Tally = g.D.Source.tally c.args.store.now in
    let s' : Tally = g.D.Source.tally c.write_card.new.store in
    let s'' : Tally = g.D.Source.tally c.write_form.new.store in
    let now : Tally = g.D.Source.tally c.write_form-2.new.store in
    let one = c.in_ok-write_card.ensures.cause in
    let two = c.in_ok-write_form.ensures.cause in
    subst (λ (r : Result (Unit {0}) Stop). AmendsStore s now r) (sym stopped)
    (amends-then s s'' now (Err stop) (kept-then s s' s'' one.kept two.kept) (same-then s s' s'' one.ok two.ok) c.in_err-write_form-2.ensures.cause)

pub returns-in_err-write_form-2-clause-reach : goal.returns-in_err-write_form-2-clause-reach
returns-in_err-write_form-2-clause-reach g c = reach-then _ _ _ c.in_ok-write_card.ensures.reach (reach-then _ _ _ c.in_ok-write_form.ensures.reach c.in_err-write_form-2.ensures.reach)

-- ---- what each asks for

pub write_form-requires-clause-within : goal.write_form-requires-clause-within
write_form-requires-clause-within g c =
    let start : ℕ = c.args.target.now.header.start in
    subst (λ k. HasAtLeast (g.D.Source.attached c.write_card.new.store) (start + k)) (sym c.in_ok-write_card.ensures.len) (c.in_ok-write_card.ensures.reach _ c.requires.within)

pub write_form-requires-2-clause-within : goal.write_form-requires-2-clause-within
write_form-requires-2-clause-within g c =
    let start : ℕ = c.args.target.now.header.start in
    subst (λ k. HasAtLeast (g.D.Source.attached c.write_form.new.store) (start + k)) (sym (c.in_ok-write_form.ensures.len ∙ c.in_ok-write_card.ensures.len))
    (c.in_ok-write_form.ensures.reach _ (c.in_ok-write_card.ensures.reach _ c.requires.within))

pub settle-requires : goal.settle-requires
settle-requires g c =
    let has = c.in_ok-write_form-2.ensures.reach _ (c.in_ok-write_form.ensures.reach _ (c.in_ok-write_card.ensures.reach _ c.requires.within)) in
    subst (λ (a : Option ℕ). IsSome a) (sym has.1) refl

-- ---- all three, and the wait

pub returns-clause-wrote : goal.returns-clause-wrote
returns-clause-wrote g c =
    let t = c.args.target.now in
    let p = c.args.places.now in
    let m = c.args.found.now in
    let forms = c.args.forms.now in
    let codec = t.image.plan.codec in
    let bitpix = t.image.plan.bitpix in
    let card : c.int_card.result.bytes ≡ pcount_card t m = search rules in
    let held0 : Option (List ℕ) = g.D.Source.held c.args.store.now in
    let held1 : Option (List ℕ) = g.D.Source.held c.write_card.new.store in
    let held2 : Option (List ℕ) = g.D.Source.held c.write_form.new.store in
    let held3 : Option (List ℕ) = g.D.Source.held c.write_form-2.new.store in
    let held4 : Option (List ℕ) = g.D.Source.held c.settle.new.store in
    let log0 : Option (List Amend) = (g.D.Source.tally c.args.store.now).amended.writes in
    let log1 : Option (List Amend) = (g.D.Source.tally c.write_card.new.store).amended.writes in
    let log2 : Option (List Amend) = (g.D.Source.tally c.write_form.new.store).amended.writes in
    let log3 : Option (List Amend) = (g.D.Source.tally c.write_form-2.new.store).amended.writes in
    let log4 : Option (List Amend) = (g.D.Source.tally c.settle.new.store).amended.writes in
    let wrote : Wrote (forms_writes t p m forms) held0 held3 log0 log3 =
    subst (λ ws. Wrote ws held0 held3 log0 log3) (writes_are t p m forms c.int_card.result.bytes c.coded_letter.result.now c.stored_letter.result.now card c.coded_letter.ensures.value c.stored_letter.ensures.value)
    (three_wrote (card_write t.header (pcount_at t) c.int_card.result.bytes ∷ []) (form_write t 1 p.coded c.coded_letter.result.now forms.coded) (form_write t 2 p.stored c.stored_letter.result.now forms.stored)
    held0 held1 held2 held3 log0 log1 log2 log3 c.in_ok-write_card.ensures.wrote c.in_ok-write_form.ensures.wrote c.in_ok-write_form-2.ensures.wrote) in
    on_ok_weaker c.settle.result
    (λ same. wrote_same (forms_writes t p m forms) held0 held3 held4 log0 log3 log4 c.settle.ensures.store.held_is
    (settled_writes (g.D.Source.tally c.write_form-2.new.store) (g.D.Source.tally c.settle.new.store) c.settle.result c.settle.ensures.cause) wrote) c.settle.ensures.cause.ok

pub returns-clause-some : goal.returns-clause-some
returns-clause-some g c =
    let t = c.args.target.now in
    let p = c.args.places.now in
    let m = c.args.found.now in
    let forms = c.args.forms.now in
    let codec = t.image.plan.codec in
    let bitpix = t.image.plan.bitpix in
    let card : c.int_card.result.bytes ≡ pcount_card t m = search rules in
    let held0 : Option (List ℕ) = g.D.Source.held c.args.store.now in
    let held1 : Option (List ℕ) = g.D.Source.held c.write_card.new.store in
    let held2 : Option (List ℕ) = g.D.Source.held c.write_form.new.store in
    let held3 : Option (List ℕ) = g.D.Source.held c.write_form-2.new.store in
    let held4 : Option (List ℕ) = g.D.Source.held c.settle.new.store in
    let log0 : Option (List Amend) = (g.D.Source.tally c.args.store.now).amended.writes in
    let log1 : Option (List Amend) = (g.D.Source.tally c.write_card.new.store).amended.writes in
    let log2 : Option (List Amend) = (g.D.Source.tally c.write_form.new.store).amended.writes in
    let log3 : Option (List Amend) = (g.D.Source.tally c.write_form-2.new.store).amended.writes in
    let log4 : Option (List Amend) = (g.D.Source.tally c.settle.new.store).amended.writes in
    let wrote : Wrote (forms_writes t p m forms) held0 held3 log0 log3 =
    subst (λ ws. Wrote ws held0 held3 log0 log3) (writes_are t p m forms c.int_card.result.bytes c.coded_letter.result.now c.stored_letter.result.now card c.coded_letter.ensures.value c.stored_letter.ensures.value)
    (three_wrote (card_write t.header (pcount_at t) c.int_card.result.bytes ∷ []) (form_write t 1 p.coded c.coded_letter.result.now forms.coded) (form_write t 2 p.stored c.stored_letter.result.now forms.stored)
    held0 held1 held2 held3 log0 log1 log2 log3 c.in_ok-write_card.ensures.wrote c.in_ok-write_form.ensures.wrote c.in_ok-write_form-2.ensures.wrote) in
    some_same (forms_writes t p m forms) held0 held3 held4 log0 log3 log4 c.settle.ensures.store.held_is
    (settled_writes (g.D.Source.tally c.write_form-2.new.store) (g.D.Source.tally c.settle.new.store) c.settle.result c.settle.ensures.cause)
    (wrote-all (forms_writes t p m forms) held0 held3 log0 log3 wrote)

pub returns-clause-header : goal.returns-clause-header
returns-clause-header g c =
    let t = c.args.target.now in
    let p = c.args.places.now in
    let m = c.args.found.now in
    let forms = c.args.forms.now in
    let codec = t.image.plan.codec in
    let bitpix = t.image.plan.bitpix in
    let card : c.int_card.result.bytes ≡ pcount_card t m = search rules in
    on_ok_weaker c.settle.result
    (λ same. header_is t p m forms c.int_card.result.bytes c.coded_letter.result.now c.stored_letter.result.now c.args.buf.now c.write_card.new.buf c.write_form.new.buf c.write_form-2.new.buf card c.coded_letter.ensures.value c.stored_letter.ensures.value
    c.in_ok-write_card.ensures.header c.in_ok-write_form.ensures.header c.in_ok-write_form-2.ensures.header) c.settle.ensures.cause.ok

pub returns-clause-reach : goal.returns-clause-reach
returns-clause-reach g c =
    reach-then _ _ _ c.in_ok-write_card.ensures.reach
    (reach-then _ _ _ c.in_ok-write_form.ensures.reach (reach-then _ _ _ c.in_ok-write_form-2.ensures.reach (reach-is _ _ c.settle.ensures.store.attached_is)))

pub returns-clause-cause : goal.returns-clause-cause
returns-clause-cause g c =
    let s : Tally = g.D.Source.tally c.args.store.now in
    let s' : Tally = g.D.Source.tally c.write_card.new.store in
    let s'' : Tally = g.D.Source.tally c.write_form.new.store in
    let last : Tally = g.D.Source.tally c.write_form-2.new.store in
    let now : Tally = g.D.Source.tally c.settle.new.store in
    let one = c.in_ok-write_card.ensures.cause in
    let two = c.in_ok-write_form.ensures.cause in
    let three = c.in_ok-write_form-2.ensures.cause in
    amends-then s last now c.settle.result (kept-then s s'' last (kept-then s s' s'' one.kept two.kept) three.kept) (same-then s s'' last (same-then s s' s'' one.ok two.ok) three.ok)
    (settled-amends last now c.settle.result c.settle.ensures.cause)

pub returns-clause-settled : goal.returns-clause-settled
returns-clause-settled g c = all_settled _ _ c.settle.result c.settle.ensures.cause
