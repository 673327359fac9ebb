-- Whether the put succeeded or failed, the text got the hint or a part of it.
use Rattle.fz_hints.proofs.HintLemmas.{says_put}
use Rattle.fz_hints.proofs.hint.say.Goals as goal

pub returns : goal.returns
returns g c =
    says_put c.bytes.result.now _ _ c.put.result
    (record { shown = c.bytes.ensures.shown; short = c.bytes.ensures.short })
    c.put.ensures.appended c.put.ensures.partly
