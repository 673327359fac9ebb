-- A step of the decoder as an effect.
use Rattle.fz_plio.specs.declared.step.Step.{Step}
use Rattle.fz_plio.specs.Meaning.{Effect}

-- the effect that a step is
abbrev pub effect_of : Step → Effect
effect_of step = record { high = step.high; zeros = step.zeros; highs = step.highs }
