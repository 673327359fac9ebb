-- The rows are sound, and then the sums are judged.
use Rattle.std.proofs.Common.{ℕ, List, Option, IfSome, subst}
use Rattle.std.proofs.lemmas.Result.{IfOk-weaker}
use Rattle.fz_verify.specs.Rows.{IsHduSound}
use Rattle.fz_verify.specs.Sums.{AreVerdictsOn}
use Rattle.fz_base.specs.Ranges.{LogsIn}
use Rattle.fz_files.specs.Touched.{data_touched}
use Rattle.fz_files.specs.declared.job.Job.TheVariants.{Verify}
use Rattle.fz_verify.proofs.Checks.{both_told}
use Rattle.fz_verify.proofs.HduReads.{join_told, sums_read}
use Rattle.fz_verify.proofs.hdu.verify_hdu.Goals as goal

pub returns-clause-verdicts : goal.returns-clause-verdicts
returns-clause-verdicts g c =
    let held : Option (List ℕ) = g.S.Source.held c.args.source.now in
    let h = c.args.again.now.header in
    let mid : Option (List ℕ) = g.S.Source.held c.decode_hdu.new.source in
    IfOk-weaker c.judge_sums.result
    (λ v. IfSome mid (λ f. AreVerdictsOn f h v))
    (λ v. IfSome held (λ f. AreVerdictsOn f h v × IsHduSound f h))
    (λ v are. both_told held (λ f. AreVerdictsOn f h v) (λ f. IsHduSound f h) (subst (λ (l : Option (List ℕ)). IfSome l (λ f. AreVerdictsOn f h v)) c.in_ok-decode_hdu.ensures.stays.0.held_is are) c.in_ok-decode_hdu.ensures.sound)
    c.judge_sums.ensures.verdicts

pub returns-clause-read : goal.returns-clause-read
returns-clause-read g c =
    let held : Option (List ℕ) = g.S.Source.held c.args.source.now in
    let h = c.args.again.now.header in
    let old : Option (List (ℕ × ℕ)) = g.S.Source.ranges c.args.source.now in
    let mid : Option (List (ℕ × ℕ)) = g.S.Source.ranges c.decode_hdu.new.source in
    let new : Option (List (ℕ × ℕ)) = g.S.Source.ranges c.judge_sums.new.source in
    join_told c.ranges_law.ensures.join held (λ file. data_touched Verify file h) old mid new c.in_ok-decode_hdu.ensures.read (sums_read c.hdus_law.ensures.verified held h mid new c.judge_sums.ensures.read)
