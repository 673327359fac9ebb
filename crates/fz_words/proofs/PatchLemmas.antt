-- The words of `patch` ask for no job, and all others for no patch.
use Rattle.std.proofs.Common.{◌≡◌, ℕ, true, false, List, [], ◌∷◌, refl, ap}
use Rattle.std.specs.Prelude.{codes, None}
use Rattle.std.specs.Str.{bytes_eq}
use Rattle.std.proofs.lemmas.Slice.Eq.{bytes_eq-Decides}
use Rattle.fz_words.specs.Jobs.{job_of, job_of_line, line_of, with_some}
use Rattle.fz_words.specs.PatchJobs.{begins_patch, patch_job_of}
use Rattle.fz_words.specs.Table.{command_named}

-- no other command has this word
no_command : (first : List ℕ) → bytes_eq first (codes "patch") ≡ true → command_named first ≡ None
no_command first e = ap command_named ((bytes_eq-Decides first (codes "patch")).0 e)

pub no_job : (words : List (List ℕ)) → begins_patch words ≡ true → job_of words ≡ None
unfolding job_of
no_job [] e = refl
no_job (first ∷ words) e = ap (λ c. with_some c (λ command. job_of_line command (line_of command words))) (no_command first e)

pub no_patch : (words : List (List ℕ)) → begins_patch words ≡ false → patch_job_of words ≡ None
unfolding patch_job_of
no_patch [] e = refl
no_patch (first ∷ words) e = rw e refl
