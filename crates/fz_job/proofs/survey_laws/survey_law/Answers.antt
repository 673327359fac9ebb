use Rattle.std.proofs.Common.{refl}
use Rattle.fz_job.specs.Judges.{judge_of}
use Rattle.fz_job.proofs.survey_laws.survey_law.Goals as goal

pub returns : goal.returns
unfolding judge_of
returns c = record {
  pack = λ o. record { seen = λ file. refl; learnt = λ file. refl; takings = λ live file. refl };
  unpack = record { seen = λ file. refl; learnt = λ file. refl; takings = λ live file. refl };
  cut = λ wanted region. record { seen = λ file. refl; learnt = λ file. refl; takings = λ live file. refl };
  amend = λ wanted. record { seen = λ file. refl; learnt = λ file. refl; takings = λ live file. refl };
  every = record { seen = λ file. refl; learnt = λ file. refl; takings = λ live file. refl };
}
