-- What is promised of the answer of retile beside what its contract says: what was packed anew stands for the same file, and a whole output is
-- of a file without a fault.
use Rattle.std.proofs.Common.{◌≡◌, ℕ, List, [], refl, sym, subst, inl, inr}
use Rattle.std.specs.Prelude.{◌⊎◌, Bool, Option, Some, None, IfSome, Result, Ok, Err, OnOk, ⊤}
use Rattle.fz_base.specs.FirstByte.{IsShut}
use Rattle.fz_base.specs.Source.{HoldsOctets}
use Rattle.fz_base.specs.declared.fault.Fault.{Fault}
use Rattle.fz_base.specs.declared.failure.Stop.{Stop}
use Rattle.fz_files.specs.Decided.{first_fault}
use Rattle.fz_files.specs.FirstFault.{IsFirstFault}
use Rattle.fz_files.specs.declared.job.Job.TheVariants.{Retile}
use Rattle.fz_head.specs.Planned.{AreOptions}
use Rattle.fz_head.specs.declared.options.PackOptions.{PackOptions}
use Rattle.fz_laws.specs.RoundTrip.{HasFirstFault}
use Rattle.fz_job.specs.Clauses.{TellsFirstFault}
use Rattle.fz_retile.specs.Laws.{StandsForTheSame}
use Rattle.fz_words.specs.Jobs.{Asked}
use Rattle.fz_app.specs.Ends.{Ends, IsSameSink}
use Rattle.fz_app.specs.Outputs.{HoldsJobOutput, JobRestores}
use Rattle.fz_app.specs.Promised.{IsPromised}
use Rattle.fz_app.proofs.JobAnswers.{JobSays, always_ok, promised}
use Rattle.fz_app.proofs.PackAnswers.{empty_is_shut}

module _ (o : PackOptions) (W : ℕ) (strict : Bool) (memory : ℕ) (input output : List ℕ) (old new : Ends) (empty : IfSome old.sink.contents (λ c. c ≡ [])) where
  abbrev pub asked : Asked
  asked = record { job = Retile o; workers = W; strict = strict; memory = memory; input = input; output = output }

  -- a file with a fault leaves the sink as it was
  by_fault : (file : List ℕ) (found : Option Fault) → first_fault (Retile o) file ≡ found → IsFirstFault (Retile o) file (first_fault (Retile o) file) → (¬ (first_fault (Retile o) file ≡ None) → IsSameSink old.sink new.sink) →
      IsShut new.sink.contents ⊎ IsFirstFault (Retile o) file None
  by_fault file None e is same = inr (subst (λ (x : Option Fault). IsFirstFault (Retile o) file x) e is)
  by_fault file (Some x) e is same = inl (subst IsShut (sym (same (λ n. absurd cc)).1) (empty_is_shut old.sink.contents empty))

  by_held : HasFirstFault → (held : Option (List ℕ)) → HoldsOctets held → IfSome held (λ file. ¬ (first_fault (Retile o) file ≡ None) → IsSameSink old.sink new.sink) →
      IsShut new.sink.contents ⊎ IfSome held (λ file. IsFirstFault (Retile o) file None)
  by_held some None bytes same = inr tt
  by_held some (Some file) bytes same = by_fault file (first_fault (Retile o) file) refl (some (Retile o) file bytes) same

  -- what was packed anew stands for the same file
  same_file : StandsForTheSame → AreOptions o → (held contents : Option (List ℕ)) → HoldsOctets held → HoldsJobOutput (Retile o) held contents → IfSome held (λ file. IsFirstFault (Retile o) file None) → JobRestores (Retile o) held contents
  same_file law options None contents bytes retiled sound = tt
  same_file law options (Some file) None bytes retiled sound = tt
  same_file law options (Some file) (Some contents) bytes retiled sound = λ plain stands short. law o file contents plain bytes options sound retiled stands short

  restored_of : StandsForTheSame → AreOptions o → HoldsOctets old.held → (answer : Result (Unit {0}) Stop) → OnOk answer (HoldsJobOutput (Retile o) old.held new.sink.contents) → TellsFirstFault (Retile o) old.held answer → OnOk answer (JobRestores (Retile o) old.held new.sink.contents)
  restored_of law options bytes (Ok done) retiled sound = same_file law options old.held new.sink.contents bytes retiled sound
  restored_of law options bytes (Err stop) retiled sound = tt

  pub retiled : StandsForTheSame → HasFirstFault → AreOptions o → HoldsOctets old.held → IfSome old.held (λ file. ¬ (first_fault (Retile o) file ≡ None) → IsSameSink old.sink new.sink) → (answer : Result (Unit {0}) Stop) →
      JobSays asked old new answer → IsPromised asked old new answer
  retiled law some options bytes faulty answer s = promised asked old new refl answer s (λ whole. by_held some old.held bytes faulty) (restored_of law options bytes answer s.output s.first_fault) (always_ok answer ⊤ tt)
