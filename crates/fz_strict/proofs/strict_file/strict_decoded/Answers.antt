-- All that is said of the answer is said by `strict`.
use Rattle.std.proofs.Common.{◌≡◌, ℕ, Bool, true, false, List, Option, Result, Ok, Err, sym, ◌∙◌, subst}
use Rattle.std.specs.Prelude.{None, IfSome, is_ok}
use Rattle.fz_base.specs.declared.failure.Stop.{Stop}
use Rattle.fz_files.specs.FirstFault.{IsFirstFault}
use Rattle.fz_files.specs.declared.job.Job.TheVariants.{Verify}
use Rattle.fz_job.specs.Clauses.{TellsFirstFault}
use Rattle.fz_strict.proofs.strict_file.strict_decoded.Goals as goal

-- after Ok the file has no fault
sound_by : (held held' : Option (List ℕ)) (r : Result Bool Stop) (some : Bool) → held' ≡ held → some ≡ is_ok r → some ≡ true → TellsFirstFault Verify held r →
    IfSome held' (λ g. IsFirstFault Verify g None)
sound_by held held' (Ok same) some stays is so first = subst (λ (h : Option (List ℕ)). IfSome h (λ g. IsFirstFault Verify g None)) (sym stays) first
sound_by held held' (Err stop) some stays is so first = let never : true ≡ false = sym so ∙ is in absurd cc

pub returns-clause-sound : goal.returns-clause-sound
returns-clause-sound g c = λ some.
    sound_by _ _ c.strict-answer.result _ c.strict-answer.ensures.kept.held_is c.decoded_by-decoded.ensures.only some c.strict-answer.ensures.first_fault
