-- What is promised of the answer of unpack beside what its contract says: the packed file of a plain file gives this again, and a whole
-- output is of a file without a fault.
use Rattle.std.proofs.Common.{refl, ℕ, ◌≤◌, ◌^◌, List, arith, inl, inr}
use Rattle.std.specs.Prelude.{◌⊎◌, Bool, Option, Some, None, IfSome, Result, Ok, Err, OnOk, ⊤}
use Rattle.fz_base.specs.FirstByte.{IsShut}
use Rattle.fz_base.specs.Source.{HoldsLength}
use Rattle.fz_base.specs.declared.failure.Stop.{Stop}
use Rattle.fz_files.specs.FirstFault.{IsFirstFault}
use Rattle.fz_files.specs.Laws.{StandsForOneFile}
use Rattle.fz_files.specs.declared.job.Job.TheVariants.{Unpack}
use Rattle.fz_laws.specs.RoundTrip.{ComesBack}
use Rattle.fz_words.specs.Jobs.{Asked}
use Rattle.fz_app.specs.Ends.{Ends}
use Rattle.fz_app.specs.Outputs.{HoldsJobOutput, JobRestores}
use Rattle.fz_app.specs.Promised.{IsPromised}
use Rattle.fz_app.proofs.JobAnswers.{JobSays, always_ok, promised}

-- a file that stands for another has no fault
is_sound : (held contents : Option (List ℕ)) → HoldsJobOutput Unpack held contents → IsShut contents ⊎ IfSome held (λ file. IsFirstFault Unpack file None)
is_sound held None whole = inl tt
is_sound None (Some bytes) whole = inr tt
is_sound (Some file) (Some bytes) whole = inr whole.sound

-- the packed file of a plain file stands for this, and for no other
comes_back : ComesBack → StandsForOneFile → (n : ℕ) → n ≤ 2 ^ 62 → (held contents : Option (List ℕ)) → HoldsLength held n → HoldsJobOutput Unpack held contents → JobRestores Unpack held contents
comes_back law one n short None contents long stands = tt
comes_back law one n short (Some file) None long stands = tt
comes_back law one n short (Some file) (Some bytes) long stands =
    λ options plain profile packed. one file bytes plain stands (law options plain file profile packed (omega (arith, long, short)))

module _ (W : ℕ) (strict : Bool) (memory : ℕ) (input output : List ℕ) (old new : Ends) where
  abbrev pub asked : Asked
  asked = record { job = Unpack; workers = W; strict = strict; memory = memory; input = input; output = output }

  restored_of : ComesBack → StandsForOneFile → (n : ℕ) → n ≤ 2 ^ 62 → HoldsLength old.held n → (answer : Result (Unit {0}) Stop) → OnOk answer (HoldsJobOutput Unpack old.held new.sink.contents) → OnOk answer (JobRestores Unpack old.held new.sink.contents)
  restored_of law one n short long (Ok done) stands = comes_back law one n short old.held new.sink.contents long stands
  restored_of law one n short long (Err stop) stands = tt

  pub unpacked : ComesBack → StandsForOneFile → (n : ℕ) → n ≤ 2 ^ 62 → HoldsLength old.held n → (answer : Result (Unit {0}) Stop) → JobSays asked old new answer → IsPromised asked old new answer
  unpacked law one n short long answer s = promised asked old new refl answer s (is_sound old.held new.sink.contents) (restored_of law one n short long answer s.output) (always_ok answer ⊤ tt)
