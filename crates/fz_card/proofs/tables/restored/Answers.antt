use Rattle.std.proofs.Common.{ℕ, List, ◌∙◌}
use Rattle.fz_card.specs.declared.card.Name.{Name}
use Rattle.fz_card.specs.Tables.{renamings, IsRenamed}
use Rattle.fz_card.specs.Naming.{plain_name}
use Rattle.fz_card.proofs.Readings.{read_is, read_none}
use Rattle.fz_card.proofs.TableNames.{or-bytes, or-none, renamed-pair, plain_name-renamed}
use Rattle.fz_card.proofs.tables.restored.Goals as goal

pub returns-clause-function : goal.returns-clause-function
unfolding plain_name renamings
returns-clause-function c = or-bytes _ _ _ _ _ c.or-10.ensures c.renamed_word.ensures (or-bytes _ _ _ _ _ c.or-9.ensures c.renamed_word-2.ensures (or-bytes _ _ _ _ _ c.or-8.ensures c.renamed_word-3.ensures (or-bytes _ _ _ _ _ c.or-7.ensures c.renamed_word-4.ensures (or-bytes _ _ _ _ _ c.or-6.ensures c.renamed_word-5.ensures (or-bytes _ _ _ _ _ c.or-5.ensures c.renamed_word-6.ensures (or-bytes _ _ _ _ _ c.or-4.ensures c.renamed_word-7.ensures (or-bytes _ _ _ _ _ c.or-3.ensures c.renamed_word-8.ensures (or-bytes _ _ _ _ _ c.or-2.ensures c.renamed_word-9.ensures (or-bytes _ _ _ _ _ c.or.ensures c.renamed_word-10.ensures (c.renumbered.ensures ∙ or-none _))))))))))

pub returns-clause-value : goal.returns-clause-value
returns-clause-value c = read_is (λ (n : Name). n.bytes) (λ (a : List ℕ). IsRenamed a c.args.name.bytes) _ (plain_name c.args.name.bytes) (returns-clause-function c) ((λ a e. plain_name-renamed a c.args.name.bytes e))

pub returns-clause-none : goal.returns-clause-none
returns-clause-none c = read_none (λ (n : Name). n.bytes) (λ (a : List ℕ). IsRenamed a c.args.name.bytes) _ (plain_name c.args.name.bytes) (returns-clause-function c) (λ a h. (renamed-pair a c.args.name.bytes h).to_plain)
