-- The status tells the answer to what the words ask for.
use Rattle.std.proofs.Common.{sym, ap, ◌∙◌, subst}
use Rattle.std.specs.Prelude.{◌≢◌}
use Rattle.fz_words.specs.Seen.{patch_asked_in, patch_asked_of}
use Rattle.fz_app.specs.declared.status.Status.{Status}
use Rattle.fz_app.specs.declared.status.Status.TheVariants.{Different}
use Rattle.fz_app.proofs.PatchAnswers.{if_asked}
use Rattle.fz_app.proofs.RequestAnswers.{not_different, promised_to}
use Rattle.fz_app.proofs.patch_words.answer_to.Goals as goal

pub returns-in-Ok-clause-promised : goal.returns-in-Ok-clause-promised
returns-in-Ok-clause-promised g c =
    promised_to _ (patch_asked_of c.in-Ok.request) c.ended.result _ c.patch_asked.result (sym c.read_patch_words.ensures.job ∙ ap patch_asked_in c.in-Ok.is) c.ended.ensures c.patch_asked.ensures.ends

pub returns-in-Ok-clause-never_different : goal.returns-in-Ok-clause-never_different
returns-in-Ok-clause-never_different g c = subst (λ (s : Status). s ≢ Different) (sym c.ended.ensures) (not_different c.patch_asked.result)

pub returns-in-Ok-clause-unread : goal.returns-in-Ok-clause-unread
returns-in-Ok-clause-unread g c =
    if_asked _ (patch_asked_of c.in-Ok.request) _ (sym c.read_patch_words.ensures.job ∙ ap patch_asked_in c.in-Ok.is) c.patch_asked.ensures.unread

pub returns-in-Ok-clause-kept : goal.returns-in-Ok-clause-kept
returns-in-Ok-clause-kept g c =
    if_asked _ (patch_asked_of c.in-Ok.request) _ (sym c.read_patch_words.ensures.job ∙ ap patch_asked_in c.in-Ok.is) c.patch_asked.ensures.kept

pub returns-in-Ok-clause-given_touched : goal.returns-in-Ok-clause-given_touched
returns-in-Ok-clause-given_touched g c =
    if_asked _ (patch_asked_of c.in-Ok.request) _ (sym c.read_patch_words.ensures.job ∙ ap patch_asked_in c.in-Ok.is) c.patch_asked.ensures.given_touched
