use Rattle.std.proofs.Common.{◌≡◌, sym, ◌∙◌}
use Rattle.fz_words.specs.Parts.{texts_of}
use Rattle.fz_words.proofs.PatchLemmas.{no_job, no_patch}
use Rattle.fz_words.proofs.patch_request.begins_patch.Goals as goal

pub returns-clause-no_job : goal.returns-clause-no_job
returns-clause-no_job c = λ is. no_job (texts_of c.args.words.now) (sym c.has_patch_first.ensures ∙ is)

pub returns-clause-no_patch : goal.returns-clause-no_patch
returns-clause-no_patch c = λ is. no_patch (texts_of c.args.words.now) (sym c.has_patch_first.ensures ∙ is)
