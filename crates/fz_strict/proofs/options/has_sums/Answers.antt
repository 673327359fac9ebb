-- A header has both cards, or not.
use Rattle.std.proofs.Common.{◌≡◌, List, ℕ, codes, ap, ◌∙◌}
use Rattle.std.specs.Prelude.{Bool, bytes_eq}
use Rattle.std.specs.List.{list_any}
use Rattle.std.specs.Option.{is_some}
use Rattle.fz_block.specs.Cards.{is_named}
use Rattle.fz_block.specs.Hdus.{cards_of}
use Rattle.fz_strict.proofs.SumNames.{and_none, and_second, named_any}
use Rattle.fz_strict.proofs.options.has_sums.Goals as goal

pub returns-then-is_some : goal.returns-then-is_some
returns-then-is_some c =
    let cards : List (List ℕ) = cards_of c.args.buf.now in
    let first : is_some c.first_named.result ≡ list_any (is_named (codes "DATASUM")) cards = ap is_some c.first_named.ensures.first ∙ named_any _ c.args.buf.now c.cards_law.ensures.first in
    let second : is_some c.first_named-then-is_some.result ≡ list_any (is_named (codes "CHECKSUM")) cards = ap is_some c.first_named-then-is_some.ensures.first ∙ named_any _ c.args.buf.now c.cards_law.ensures.first in
    c.is_some-then-is_some.ensures ∙ second ∙ and_second (list_any (is_named (codes "DATASUM")) cards) (list_any (is_named (codes "CHECKSUM")) cards) (c.if-is_some.ensures ∙ first)

pub returns-else-is_some : goal.returns-else-is_some
returns-else-is_some c =
    let cards : List (List ℕ) = cards_of c.args.buf.now in
    let first : is_some c.first_named.result ≡ list_any (is_named (codes "DATASUM")) cards = ap is_some c.first_named.ensures.first ∙ named_any _ c.args.buf.now c.cards_law.ensures.first in
    c.if-is_some.false ∙ and_none (list_any (is_named (codes "DATASUM")) cards) (list_any (is_named (codes "CHECKSUM")) cards) (c.if-is_some.ensures ∙ first)
