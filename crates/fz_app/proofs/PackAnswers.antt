-- What is promised of the answer of pack beside what its contract says: what was packed comes back, and a whole output is of a file without
-- a fault.
use Rattle.std.proofs.Common.{◌≡◌, ℕ, List, [], ◌∷◌, refl, sym, subst, inl, inr}
use Rattle.std.specs.Prelude.{◌⊎◌, Bool, Option, Some, None, IfSome, Result, Ok, Err, OnOk, ⊤}
use Rattle.fz_base.specs.FirstByte.{IsShut}
use Rattle.fz_base.specs.Source.{HoldsOctets}
use Rattle.fz_base.specs.declared.fault.Fault.{Fault}
use Rattle.fz_base.specs.declared.failure.Stop.{Stop}
use Rattle.fz_files.specs.FirstFault.{IsFaultBehind, IsFirstFault}
use Rattle.fz_files.specs.Walks.{header_fault}
use Rattle.fz_files.specs.declared.job.Job.TheVariants.{Pack}
use Rattle.fz_head.specs.Planned.{AreOptions}
use Rattle.fz_head.specs.declared.options.PackOptions.{PackOptions}
use Rattle.fz_laws.specs.RoundTrip.{ComesBack}
use Rattle.fz_job.specs.Clauses.{TellsFirstFault}
use Rattle.fz_words.specs.Jobs.{Asked}
use Rattle.fz_app.specs.Ends.{Ends, IsSameSink}
use Rattle.fz_app.specs.Outputs.{HoldsJobOutput, JobRestores}
use Rattle.fz_app.specs.Promised.{IsPromised}
use Rattle.fz_app.proofs.JobAnswers.{JobSays, always_ok, promised}

-- contents that are empty, where they are told
pub empty_is_shut : (contents : Option (List ℕ)) → IfSome contents (λ c. c ≡ []) → IsShut contents
empty_is_shut None e = tt
empty_is_shut (Some []) e = tt
empty_is_shut (Some (b ∷ bytes)) e = absurd cc

module _ (o : PackOptions) (W : ℕ) (strict : Bool) (memory : ℕ) (input output : List ℕ) (old new : Ends) (empty : IfSome old.sink.contents (λ c. c ≡ [])) where
  abbrev pub asked : Asked
  asked = record { job = Pack o; workers = W; strict = strict; memory = memory; input = input; output = output }

  -- a file in which a header is refused leaves the sink as it was
  by_fault : (file : List ℕ) (found : Option Fault) → header_fault (Pack o) file ≡ found → (¬ (header_fault (Pack o) file ≡ None) → IsSameSink old.sink new.sink) → IsShut new.sink.contents ⊎ IsFirstFault (Pack o) file None
  by_fault file None e same = inr (subst (λ (x : Option Fault). IsFaultBehind x (Pack o) file None) (sym e) tt)
  by_fault file (Some x) e same = inl (subst IsShut (sym (same (λ n. absurd cc)).1) (empty_is_shut old.sink.contents empty))

  by_held : (held : Option (List ℕ)) → IfSome held (λ file. ¬ (header_fault (Pack o) file ≡ None) → IsSameSink old.sink new.sink) → IsShut new.sink.contents ⊎ IfSome held (λ file. IsFirstFault (Pack o) file None)
  by_held None same = inr tt
  by_held (Some file) same = by_fault file (header_fault (Pack o) file) refl same

  -- what was packed comes back
  comes_back : ComesBack → AreOptions o → (held contents : Option (List ℕ)) → HoldsOctets held → HoldsJobOutput (Pack o) held contents → IfSome held (λ file. IsFirstFault (Pack o) file None) → JobRestores (Pack o) held contents
  comes_back law options None contents bytes packed sound = tt
  comes_back law options (Some file) None bytes packed sound = tt
  comes_back law options (Some file) (Some contents) bytes packed sound = λ short. law o file contents (record { bytes = bytes; options = options; sound = sound }) packed short

  restored_of : ComesBack → AreOptions o → HoldsOctets old.held → (answer : Result (Unit {0}) Stop) → OnOk answer (HoldsJobOutput (Pack o) old.held new.sink.contents) → TellsFirstFault (Pack o) old.held answer → OnOk answer (JobRestores (Pack o) old.held new.sink.contents)
  restored_of law options bytes (Ok done) packed sound = comes_back law options old.held new.sink.contents bytes packed sound
  restored_of law options bytes (Err stop) packed sound = tt

  pub packed : ComesBack → AreOptions o → HoldsOctets old.held → (answer : Result (Unit {0}) Stop) → JobSays asked old new answer → IsPromised asked old new answer
  packed law options bytes answer s = promised asked old new refl answer s (λ whole. by_held old.held s.unmade.faulty) (restored_of law options bytes answer s.output s.first_fault) (always_ok answer ⊤ tt)
