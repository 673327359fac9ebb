-- The header comes back, or there is a difference before it.
use Rattle.std.specs.Prelude.{codes as letters}
use Rattle.std.proofs.Common.{◌≡◌, ℕ, ◌*◌, true, List, Some, None, take, sym, ap, ◌∙◌, subst, arith, rules}
use Rattle.fz_block.specs.Cards.{card_at}
use Rattle.fz_block.specs.Checks.{is_set}
use Rattle.fz_block.specs.Hdus.{cards_of}
use Rattle.fz_block.specs.declared.header.Header.{Header}
use Rattle.fz_head.specs.Conditions.{IsPackPlan}
use Rattle.fz_image.specs.Layout.{IsLayout, IsPlan, layout_of}
use Rattle.fz_image.specs.declared.layout.Layout.{Layout}
use Rattle.fz_strict.specs.SameImages.{origin_before}
use Rattle.fz_strict.specs.declared.image.Restored.{Restored}
use Rattle.fz_strict.specs.declared.origin.Origin.{Origin}
use Rattle.fz_strict.proofs.BackImages.{behind_header, image_plan, none_back, none_before, some_back}
use Rattle.fz_strict.proofs.Layouts.{table_layout}
use Rattle.fz_strict.proofs.image.restored_image.Goals as goal

pub returns-in_default-clause-restored : goal.returns-in_default-clause-restored
returns-in_default-clause-restored c =
    let p = c.args.plan.now in
    let none : c.before_image.result ≡ None = search rules in
    none_before c.args.options.now (cards_of c.args.buf.now) c.args.header.now p (origin_before c.args.origin.now p) (sym c.before_image.ensures.before ∙ none)

pub returns-in_default-restore-clause-restored : goal.returns-in_default-restore-clause-restored
returns-in_default-restore-clause-restored c =
    let p = c.args.plan.now in
    let b : Origin = c.in-Some.before in
    let is : origin_before c.args.origin.now p ≡ Some b = sym c.before_image.ensures.before ∙ c.in-Some.is in
    none_back c.args.options.now (cards_of c.args.buf.now) c.args.header.now p (origin_before c.args.origin.now p) b is (c.restore.ensures.none (search rules))

pub of-requires-clause-plan : goal.of-requires-clause-plan
of-requires-clause-plan c =
    let f : Header = c.in-Some-restore.restored in
    let bytes : List ℕ = take (2880 * f.blocks) c.restore.new.plain in
    let is = c.in-Some-restore.ensures.plan in
    image_plan bytes f c.args.options.now.sums c.args.plan.now is
    (c.pack_plan_law.ensures.divided is.options f bytes c.args.plan.now is.allowed c.in-Some-restore.ensures.header is.packable is.answer)
    (c.pack_plan_law.ensures.writable is.options f bytes c.args.plan.now is.allowed is.packable is.answer)

pub returns-clause-restored : goal.returns-clause-restored
returns-clause-restored c =
    let p = c.args.plan.now in
    let b : Origin = c.in-Some.before in
    let f : Header = c.in-Some-restore.restored in
    let r : Restored = record { before = b; header = f; layout = c.of.result } in
    let is : origin_before c.args.origin.now p ≡ Some b = sym c.before_image.ensures.before ∙ c.in-Some.is in
    some_back c.args.options.now (cards_of c.args.buf.now) c.args.header.now p (origin_before c.args.origin.now p) r is c.in-Some-restore.ensures.restored
    (c.of.ensures ∙ ap (layout_of f p) c.data_start.ensures)

pub returns-clause-back : goal.returns-clause-back
returns-clause-back c =
    let p = c.args.plan.now in
    let h = c.args.header.now in
    let b : Origin = c.in-Some.before in
    let f : Header = c.in-Some-restore.restored in
    let bytes : List ℕ = take (2880 * f.blocks) c.restore.new.plain in
    let says = c.in-Some-restore.ensures in
    let is = says.plan in
    let planned : IsPlan p = image_plan bytes f c.args.options.now.sums p is
    (c.pack_plan_law.ensures.divided is.options f bytes p is.allowed says.header is.packable is.answer)
    (c.pack_plan_law.ensures.writable is.options f bytes p is.allowed is.packable is.answer) in
    let behind = behind_header c.args.buf.now h c.requires.header in
    let end = c.requires.end in
    record {
      origin = c.in-Some.ensures.origin;
      room = says.within;
      bytes = says.bytes;
      header = says.header;
      end = says.place.0;
      simple = λ first. subst (λ (l : List ℕ). is_set (letters "SIMPLE") (card_at l 0) ≡ true) (sym says.bytes) (says.restored.simple (sym says.place.2 ∙ first));
      plan = subst (IsPackPlan bytes f c.args.options.now.sums) (ap (λ (l : Layout). l.plan) (sym c.of.ensures)) is;
      plan_is = ap (λ (l : Layout). l.plan) c.of.ensures;
      layout = subst IsLayout (sym c.of.ensures) (table_layout f p c.data_start.result planned (omega (arith, c.data_start.ensures, behind)) (omega (arith, c.data_start.ensures, end)) says.place.0);
    }

pub returns-clause-fits : goal.returns-clause-fits
returns-clause-fits c = c.in-Some-restore.ensures.fits
