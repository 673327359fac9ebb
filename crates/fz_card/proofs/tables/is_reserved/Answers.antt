use Rattle.std.proofs.Common.{◌∙◌, sym}
use Rattle.fz_card.specs.Tables.{IsReserved}
use Rattle.fz_card.specs.Naming.{plain_name, is_reserved}
use Rattle.fz_card.proofs.TableNames.{bytes-some, reserved-restored, reserved-packed, reserved-foreign, tested-is, reserved-is, is-reserved}
use Rattle.fz_card.proofs.tables.is_reserved.Goals as goal

pub returns-then-is_some-clause-function : goal.returns-then-is_some-clause-function
returns-then-is_some-clause-function c =
    let name = c.args.name.bytes in
    let same = bytes-some c.restored.result (plain_name name) c.restored.ensures.function in
    c.if-is_some.true ∙ reserved-restored name (sym same ∙ (sym c.is_some.ensures ∙ c.if-is_some.true))

pub returns-then-is_some-clause-value : goal.returns-then-is_some-clause-value
returns-then-is_some-clause-value c =
    let name = c.args.name.bytes in
    tested-is _ (is_reserved name) (IsReserved name) (returns-then-is_some-clause-function c) (reserved-is name) (is-reserved name)

pub returns-then-is_packed-clause-function : goal.returns-then-is_packed-clause-function
returns-then-is_packed-clause-function c =
    let name = c.args.name.bytes in
    let same = bytes-some c.restored.result (plain_name name) c.restored.ensures.function in
    c.if-is_packed.true ∙ reserved-packed name (sym same ∙ (sym c.is_some.ensures ∙ c.if-is_some.false)) (sym c.is_packed.ensures ∙ c.if-is_packed.true)

pub returns-then-is_packed-clause-value : goal.returns-then-is_packed-clause-value
returns-then-is_packed-clause-value c =
    let name = c.args.name.bytes in
    tested-is _ (is_reserved name) (IsReserved name) (returns-then-is_packed-clause-function c) (reserved-is name) (is-reserved name)

pub returns-else-is_packed-clause-function : goal.returns-else-is_packed-clause-function
returns-else-is_packed-clause-function c =
    let name = c.args.name.bytes in
    let same = bytes-some c.restored.result (plain_name name) c.restored.ensures.function in
    c.is_foreign.ensures ∙ reserved-foreign name (sym same ∙ (sym c.is_some.ensures ∙ c.if-is_some.false)) (sym c.is_packed.ensures ∙ c.if-is_packed.false)

pub returns-else-is_packed-clause-value : goal.returns-else-is_packed-clause-value
returns-else-is_packed-clause-value c =
    let name = c.args.name.bytes in
    tested-is _ (is_reserved name) (IsReserved name) (returns-else-is_packed-clause-function c) (reserved-is name) (is-reserved name)
