-- What is promised of the answer of cut beside what its contract says: what was cut out is a slice, and a whole output is of a file without
-- a fault.
use Rattle.std.proofs.Common.{◌≡◌, ℕ, List, [], ◌++◌, refl, sym, ap, subst, inl, inr, arith}
use Rattle.std.proofs.lemmas.List.{append-nil}
use Rattle.std.specs.Option.{option_map}
use Rattle.std.specs.Prelude.{◌⊎◌, Bool, Option, Some, None, IfSome, Result}
use Rattle.fz_base.specs.FirstByte.{IsShut}
use Rattle.fz_base.specs.Ranges.{LogsIn}
use Rattle.fz_base.specs.declared.failure.Stop.{Stop}
use Rattle.fz_files.specs.FirstFault.{IsFirstFault}
use Rattle.fz_files.specs.Touched.{touched_by}
use Rattle.fz_files.specs.declared.job.Job.{Job}
use Rattle.fz_files.specs.declared.job.Job.TheVariants.{Cut}
use Rattle.fz_grid.specs.declared.sieve.Sieve.{Sieve}
use Rattle.fz_cut.specs.Slices.{SinksHoldSlices}
use Rattle.fz_words.specs.Jobs.{Asked}
use Rattle.fz_app.specs.Ends.{Ends}
use Rattle.fz_app.specs.Outputs.{HoldsJobOutput, HoldsJobSlice, ReadsTouched}
use Rattle.fz_app.specs.Promised.{IsPromised}
use Rattle.fz_app.proofs.JobAnswers.{JobSays, always_ok, on_ok, promised}
use Rattle.fz_app.proofs.TextAnswers.{nothing_restored}

-- where nothing was read, what was read lies in any ranges
mapped_nothing : (ranges : Option (List (ℕ × ℕ))) → ranges ≡ option_map (λ rs. rs ++ []) ranges
mapped_nothing None = refl
mapped_nothing (Some rs) = ap Some (sym (append-nil rs))

none_logged : (ranges : List (ℕ × ℕ)) (old : Option (List (ℕ × ℕ))) → LogsIn ranges old old
none_logged ranges old = ([], (λ k d few. absurd (omega (arith, few))), mapped_nothing old)

-- so also in those that a job may read
unread : (held : Option (List ℕ)) (old new : Option (List (ℕ × ℕ))) (ranges : List ℕ → List (ℕ × ℕ)) → new ≡ old → IfSome held (λ file. LogsIn (ranges file) old new)
unread None old new ranges same = tt
unread (Some file) old new ranges same = subst (λ (r : Option (List (ℕ × ℕ))). LogsIn (ranges file) old r) (sym same) (none_logged (ranges file) old)

pub nothing_read : (job : Job) (held : Option (List ℕ)) (old new : Option (List (ℕ × ℕ))) → new ≡ old → ReadsTouched job held old new
nothing_read job held old new same = unread held old new (touched_by job) same

module _ (wanted : Option ℕ) (sieve : Sieve) (W : ℕ) (strict : Bool) (memory : ℕ) (input output : List ℕ) (old new : Ends) where
  abbrev pub asked : Asked
  asked = record { job = Cut wanted sieve; workers = W; strict = strict; memory = memory; input = input; output = output }

  -- a file of which there is a cutout has no fault
  is_sound : (held contents : Option (List ℕ)) → HoldsJobOutput (Cut wanted sieve) held contents → IsShut contents ⊎ IfSome held (λ file. IsFirstFault (Cut wanted sieve) file None)
  is_sound held None whole = inl tt
  is_sound None (Some bytes) whole = inr tt
  is_sound (Some file) (Some bytes) whole = inr whole.sound

  pub cut_out : SinksHoldSlices sieve → (answer : Result (Unit {0}) Stop) → JobSays asked old new answer → IsPromised asked old new answer
  cut_out slices answer s =
      promised asked old new refl answer s (is_sound old.held new.sink.contents) (always_ok answer _ (nothing_restored old.held new.sink.contents))
      (on_ok answer (HoldsJobOutput (Cut wanted sieve) old.held new.sink.contents) (HoldsJobSlice (Cut wanted sieve) old.held new.sink.contents) (slices wanted old.held new.sink.contents) s.output)
