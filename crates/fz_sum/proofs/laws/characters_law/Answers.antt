use Rattle.std.proofs.Common.{sym, subst}
use Rattle.fz_sum.specs.Characters.{AreByteCharacters}
use Rattle.fz_sum.proofs.ByteCharacters.{byte-characters, byte-characters-once}
use Rattle.fz_sum.proofs.CardTexts.{characters-letters}
use Rattle.fz_sum.proofs.Places.{characters-places}
use Rattle.fz_sum.proofs.laws.characters_law.Goals as goal

pub returns-clause-rule : goal.returns-clause-rule
returns-clause-rule c =
    λ byte text small. (byte-characters-once byte text small, λ e. subst (AreByteCharacters byte) (sym e) (byte-characters byte small))

pub returns-clause-letters : goal.returns-clause-letters
returns-clause-letters c = characters-letters

pub returns-clause-places : goal.returns-clause-places
returns-clause-places c = characters-places
