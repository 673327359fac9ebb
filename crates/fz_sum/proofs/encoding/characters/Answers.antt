use Rattle.std.proofs.Common.{refl}
use Rattle.fz_sum.specs.Characters.{characters}
use Rattle.fz_sum.proofs.encoding.characters.Goals as goal

pub returns : goal.returns
unfolding characters
returns c =
    rw (c.byte_characters-a.ensures, c.byte_characters-b.ensures, c.byte_characters-c.ensures, c.byte_characters-d.ensures, c.to_be_bytes.ensures) refl
