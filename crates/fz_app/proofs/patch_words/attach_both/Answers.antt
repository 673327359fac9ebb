-- The first file that could not be opened decides.
use Rattle.std.proofs.Common.{refl, rules}
use Rattle.fz_app.proofs.Opening.{both_names, both_opened, first_names, first_stopped, second_names, second_stopped}
use Rattle.fz_app.proofs.patch_words.attach_both.Goals as goal

pub returns-in_err-length-clause-cause : goal.returns-in_err-length-clause-cause
returns-in_err-length-clause-cause g c = first_stopped _ _ _ c.from_residual.result c.in_err-length.field-0.0 (search rules) c.in_err-length.ensures.cause

pub returns-in_err-patch_length-clause-cause : goal.returns-in_err-patch_length-clause-cause
returns-in_err-patch_length-clause-cause g c =
    second_stopped _ _ _ _ c.from_residual-in_err-patch_length.result c.in_err-patch_length.field-0.0 (search rules) c.in_ok-length.ensures.cause.ok c.in_err-patch_length.ensures.cause

pub returns-clause-cause : goal.returns-clause-cause
returns-clause-cause g c = both_opened _ _ _ _ _ c.in_ok-length.ensures.cause.ok c.in_ok-patch_length.ensures.cause.ok

pub returns-in_err-length-clause-names : goal.returns-in_err-length-clause-names
returns-in_err-length-clause-names g c =
    first_names _ _ _ _ _ _ _ _ c.from_residual.result c.in_err-length.field-0.0 (search rules) c.in_err-length.ensures.names refl c.in_err-length.ensures.cause

pub returns-in_err-patch_length-clause-names : goal.returns-in_err-patch_length-clause-names
returns-in_err-patch_length-clause-names g c =
    second_names _ _ _ _ _ _ _ _ c.from_residual-in_err-patch_length.result c.in_err-patch_length.field-0.0 (search rules)
    c.in_ok-length.ensures.names.done c.in_err-patch_length.ensures.names c.in_err-patch_length.ensures.cause

pub returns-clause-names : goal.returns-clause-names
returns-clause-names g c = both_names _ _ _ _ _ _ _ c.in_ok-length.ensures.names.done c.in_ok-patch_length.ensures.names.done
