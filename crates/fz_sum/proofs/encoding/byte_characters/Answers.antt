use Rattle.std.proofs.Common.{[], refl, arith}
use Rattle.fz_sum.specs.Characters.{byte_characters}
use Rattle.fz_sum.specs.declared.encoding.fn.byte_characters.TheConstants.{ROWS}
use Rattle.fz_sum.proofs.Rows.{row-of}
use Rattle.fz_sum.proofs.encoding.byte_characters.Goals as goal

pub returns : goal.returns
unfolding byte_characters
returns c = row-of ROWS c.args.byte [] (omega arith) refl refl
