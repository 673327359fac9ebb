-- Card by card, and then check by check.
use Rattle.fz_laws.proofs.AmendedHeaders.{amended_say_the_same}
use Rattle.fz_laws.proofs.patched.amended_header_law.Goals as goal

pub returns : goal.returns
returns c = amended_say_the_same c.card_laws.ensures c.cards_law.ensures.first
