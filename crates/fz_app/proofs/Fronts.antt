-- Whatever the status, the job printed a beginning of its lines, which the first fault of the file decides.
use Rattle.std.proofs.Common.{◌≡◌, ℕ, Bool, true, false, List, [], length, refl, sym, ap, ◌∙◌, subst, arith}
use Rattle.std.specs.Prelude.{Option, Some, None, IfSome, Result, Ok, Err}
use Rattle.std.proofs.Math.Seq.{take-length}
use Rattle.std.proofs.lemmas.List.{append-nil}
use Rattle.fz_base.specs.Sink.{MayAppend, appended}
use Rattle.fz_base.specs.Source.{HoldsOctets}
use Rattle.fz_base.specs.declared.fault.Fault.{Fault}
use Rattle.fz_base.specs.declared.failure.Stop.{Stop}
use Rattle.fz_base.specs.declared.failure.Stop.TheVariants.{Refused as StopRefused, ReadFault as StopRead, WriteFault as StopWrite, OverLimit as StopLimit, NoMemory as StopMemory}
use Rattle.fz_files.specs.FirstFault.{IsFirstFault}
use Rattle.fz_files.specs.Lines.{report_lines}
use Rattle.fz_files.specs.declared.job.Job.{Job}
use Rattle.fz_files.specs.declared.job.Job.TheVariants.{Pack, Unpack, Cut, Verify, List as ListHdus, Drill, Retile}
use Rattle.fz_files.specs.Decided.{first_fault}
use Rattle.fz_laws.specs.RoundTrip.{HasFirstFault, HasNoOtherFault}
use Rattle.fz_job.specs.Clauses.{TellsFirstFault}
use Rattle.fz_verify.specs.Clauses.{PrintsLines}
use Rattle.fz_words.specs.Jobs.{Asked}
use Rattle.fz_app.specs.Answer.{IsPromisedTo}
use Rattle.fz_app.specs.Asked.{given, is_compared, is_compared_by}
use Rattle.fz_app.specs.Ends.{Ends, TextIs}
use Rattle.fz_app.specs.Printed.{GotCompared, HasPrinted, JobPrinted, PrintsCompared, compared_lines}
use Rattle.fz_app.specs.Promised.{IsPromised}
use Rattle.fz_app.specs.Promises.{GotFrontBy}
use Rattle.fz_app.specs.declared.status.Status.{Status}
use Rattle.fz_app.proofs.RunPromises.{asked_fact}
use Rattle.fz_app.proofs.StrictLines.{may_more, same_said}

-- nothing more is a beginning, and so is all
appended_none : (old : Option (List ℕ)) → old ≡ appended [] old
appended_none None = refl
appended_none (Some text) = ap Some (sym (append-nil text))

no_more : (lines : List ℕ) (old new : Option (List ℕ)) → new ≡ old → MayAppend lines old new
no_more lines old new same = (0, same ∙ appended_none old)

all_more : (lines : List ℕ) (old new : Option (List ℕ)) → new ≡ appended lines old → MayAppend lines old new
all_more lines old new is = (length lines, is ∙ ap (λ l. appended l old) (sym (take-length lines)))

-- the file that a job is given has bytes if what the source holds has
given_bytes : (job : Job) (held : Option (List ℕ)) → HoldsOctets held → HoldsOctets (given job held)
given_bytes (Pack options) held bytes = bytes
given_bytes Unpack held bytes = bytes
given_bytes (Cut wanted sieve) held bytes = bytes
given_bytes Verify held bytes = bytes
given_bytes ListHdus held bytes = bytes
given_bytes (Drill rows) held bytes = λ k d few. absurd (omega (arith, few))
given_bytes (Retile options) held bytes = bytes

module _ (some : HasFirstFault) (only : HasNoOtherFault) where
  abbrev Fronts : Bool → Job → Option (List ℕ) → Option (List ℕ) → Option (List ℕ) → Type 0
  Fronts compared job held old new = IfSome held (λ file. GotFrontBy compared job file old new)

  of_fault : (job : Job) (file : List ℕ) (fault : Option Fault) (old new : Option (List ℕ)) → fault ≡ first_fault job file → new ≡ appended (report_lines job file fault) old → MayAppend (report_lines job file (first_fault job file)) old new
  of_fault job file fault old new is got = subst (λ (f : Option Fault). MayAppend (report_lines job file f) old new) is (all_more (report_lines job file fault) old new got)

  of_lines : (job : Job) (held old new : Option (List ℕ)) (r : Result (Unit {0}) Stop) → HoldsOctets held → PrintsLines job held old new r → TellsFirstFault job held r → Fronts false job held old new
  of_lines job None old new r bytes lines tells = tt
  of_lines job (Some file) old new (Ok x) bytes lines tells = of_fault job file None old new (only job file None tells) lines
  of_lines job (Some file) old new (Err (StopRefused x)) bytes lines tells = of_fault job file (Some x) old new (only job file (Some x) tells) lines
  of_lines job (Some file) old new (Err StopRead) bytes lines tells = lines (first_fault job file) (some job file bytes)
  of_lines job (Some file) old new (Err StopWrite) bytes lines tells = lines (first_fault job file) (some job file bytes)
  of_lines job (Some file) old new (Err (StopLimit live asked limit)) bytes lines tells = lines (first_fault job file) (some job file bytes)
  of_lines job (Some file) old new (Err StopMemory) bytes lines tells = lines (first_fault job file) (some job file bytes)

  -- the same if the file is compared
  with_same : (file : List ℕ) (old new : Option (List ℕ)) → IsFirstFault Verify file None → GotCompared file old new → GotFrontBy true Verify file old new
  with_same file old new sound got = λ same said.
      let one : got.0 ≡ same = same_said file got.0 same got.1 said in
      subst (λ (f : Option Fault). MayAppend (compared_lines file f same) old new) (only Verify file None sound)
      (subst (λ (b : Bool). MayAppend (compared_lines file None b) old new) one (all_more (compared_lines file None got.0) old new got.2))

  with_fault : (file : List ℕ) (x : Fault) (old new : Option (List ℕ)) → IsFirstFault Verify file (Some x) → new ≡ appended (report_lines Verify file (Some x)) old → GotFrontBy true Verify file old new
  with_fault file x old new faulty got = λ same said.
      subst (λ (f : Option Fault). MayAppend (compared_lines file f same) old new) (only Verify file (Some x) faulty)
      (may_more (report_lines Verify file (Some x)) [] old new (all_more (report_lines Verify file (Some x)) old new got))

  of_compared : (held old new : Option (List ℕ)) (r : Result (Unit {0}) Stop) → HoldsOctets held → PrintsCompared held old new r → TellsFirstFault Verify held r → Fronts true Verify held old new
  of_compared None old new r bytes lines tells = tt
  of_compared (Some file) old new (Ok x) bytes lines tells = with_same file old new tells lines
  of_compared (Some file) old new (Err (StopRefused x)) bytes lines tells = with_fault file x old new tells lines
  of_compared (Some file) old new (Err StopRead) bytes lines tells = λ same said. lines (first_fault Verify file) same (some Verify file bytes) said
  of_compared (Some file) old new (Err StopWrite) bytes lines tells = λ same said. lines (first_fault Verify file) same (some Verify file bytes) said
  of_compared (Some file) old new (Err (StopLimit live asked limit)) bytes lines tells = λ same said. lines (first_fault Verify file) same (some Verify file bytes) said
  of_compared (Some file) old new (Err StopMemory) bytes lines tells = λ same said. lines (first_fault Verify file) same (some Verify file bytes) said

  of_verify : (compared : Bool) (held : Option (List ℕ)) (limit W : ℕ) (old new : TextIs) (r : Result (Unit {0}) Stop) → HoldsOctets held → HasPrinted compared Verify held limit W old new r → TellsFirstFault Verify held r → Fronts compared Verify held old.contents new.contents
  of_verify false held limit W old new r bytes printed tells = of_lines Verify held old.contents new.contents r bytes printed.lines tells
  of_verify true held limit W old new r bytes printed tells = of_compared held old.contents new.contents r bytes printed.lines tells

  of_same : (job : Job) (held : Option (List ℕ)) (old new : TextIs) → new ≡ old → Fronts false job held old.contents new.contents
  of_same job None old new same = tt
  of_same job (Some file) old new same = no_more (report_lines job file (first_fault job file)) old.contents new.contents (ap (λ (t : TextIs). t.contents) same)

  of_job : (job : Job) (strict : Bool) (held : Option (List ℕ)) (limit W : ℕ) (old new : TextIs) (r : Result (Unit {0}) Stop) → HoldsOctets held → JobPrinted job (is_compared_by job strict) held limit W old new r → TellsFirstFault job held r →
      Fronts (is_compared_by job strict) job held old.contents new.contents
  of_job (Pack options) strict held limit W old new r bytes printed tells = of_same (Pack options) held old new printed
  of_job Unpack strict held limit W old new r bytes printed tells = of_same Unpack held old new printed
  of_job (Cut wanted sieve) strict held limit W old new r bytes printed tells = of_same (Cut wanted sieve) held old new printed
  of_job Verify strict held limit W old new r bytes printed tells = of_verify strict held limit W old new r bytes printed tells
  of_job ListHdus strict held limit W old new r bytes printed tells = of_lines ListHdus held old.contents new.contents r bytes printed.lines tells
  of_job (Drill rows) strict held limit W old new r bytes printed tells = of_lines (Drill rows) held old.contents new.contents r bytes printed.lines tells
  of_job (Retile options) strict held limit W old new r bytes printed tells = of_same (Retile options) held old new printed

  pub front : (asked : Option Asked) (old new : Ends) (status : Status) → HoldsOctets old.held → IsPromisedTo asked status (λ (a : Asked). IsPromised a old new) →
      IfSome asked (λ a. Fronts (is_compared a) a.job (given a.job old.held) old.text.contents new.text.contents)
  front asked old new status bytes promise =
      asked_fact asked status (λ (a : Asked). IsPromised a old new) (λ a. Fronts (is_compared a) a.job (given a.job old.held) old.text.contents new.text.contents)
      (λ a r p. of_job a.job a.strict (given a.job old.held) _ _ old.text new.text r (given_bytes a.job old.held bytes) p.printed p.first_fault) promise
