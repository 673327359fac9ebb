use Rattle.std.proofs.Common.{◌∙◌, sym}
use Rattle.fz_card.specs.Tables.{IsDropped}
use Rattle.fz_card.specs.Naming.{is_dropped}
use Rattle.fz_card.proofs.TableNames.{dropped-own, dropped-packed, tested-is, dropped-is, is-dropped}
use Rattle.fz_card.proofs.tables.is_dropped.Goals as goal

pub returns-then-is_own-clause-function : goal.returns-then-is_own-clause-function
returns-then-is_own-clause-function c =
    c.if-is_own.true ∙ dropped-own c.args.name.bytes (sym c.is_own.ensures ∙ c.if-is_own.true)

pub returns-then-is_own-clause-value : goal.returns-then-is_own-clause-value
returns-then-is_own-clause-value c =
    let name = c.args.name.bytes in
    tested-is _ (is_dropped name) (IsDropped name) (returns-then-is_own-clause-function c) (dropped-is name) (is-dropped name)

pub returns-else-is_own-clause-function : goal.returns-else-is_own-clause-function
returns-else-is_own-clause-function c =
    c.is_packed.ensures ∙ dropped-packed c.args.name.bytes (sym c.is_own.ensures ∙ c.if-is_own.false)

pub returns-else-is_own-clause-value : goal.returns-else-is_own-clause-value
returns-else-is_own-clause-value c =
    let name = c.args.name.bytes in
    tested-is _ (is_dropped name) (IsDropped name) (returns-else-is_own-clause-function c) (dropped-is name) (is-dropped name)
