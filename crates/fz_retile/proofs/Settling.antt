-- What `retile` promises, from what the look says, and from what `pack` says of the view and what the view keeps of its source.
use Rattle.std.proofs.Common.{◌≡◌, ℕ, List, refl, subst, inl, inr, arith}
use Rattle.std.specs.Prelude.{Option, Some, None, IfSome, Result, Ok, Err, OnOk, IsErrOf}
use Rattle.fz_base.specs.Counts.{Rose, Tally}
use Rattle.fz_base.specs.Stop.{IsRefused, stop_of_read}
use Rattle.fz_base.specs.declared.failure.Failed.{Failed}
use Rattle.fz_base.specs.declared.failure.Failed.TheVariants.{Fault as IsFault, NoMemory as IsWant}
use Rattle.fz_base.specs.declared.fault.Fault.{Fault}
use Rattle.fz_base.specs.declared.failure.Stop.{Stop}
use Rattle.fz_base.specs.declared.failure.Stop.TheVariants.{Refused, ReadFault, WriteFault, OverLimit, NoMemory}
use Rattle.fz_head.specs.declared.options.PackOptions.{PackOptions}
use Rattle.fz_files.specs.FirstFault.{IsFirstFault}
use Rattle.fz_files.specs.RestoredFile.{restored}
use Rattle.fz_files.specs.Retiled.{plain_of}
use Rattle.fz_files.specs.declared.job.Job.TheVariants.{Pack, Retile, Unpack}
use Rattle.fz_laws.specs.RoundTrip.{StandsForRestored}
use Rattle.fz_job.specs.Clauses.{HasJobCause, IsAnswer, IsShutOrWhole, TellsFirstFault}
use Rattle.fz_pack.specs.Output.{HoldsPacked}
use Rattle.fz_look.specs.Looked.{IsLooked}
use Rattle.fz_look.specs.declared.looked.Looked.{Looked}
use Rattle.fz_retile.specs.Views.{restored_from, together, with_more}
use Rattle.fz_retile.specs.Retiles.{HoldsRetiled, settled_of}
use Rattle.fz_retile.proofs.Faults.{no_fault, plain_refused}

-- what the look says of a file that it accepts
abbrev pub IsAccepted : List ℕ → Type 0
IsAccepted g = IsFirstFault Unpack g None × (plain_of g ≡ Some (restored g))

pub accepted : (held : Option (List ℕ)) (l : Looked) → IfSome held (λ g. IsLooked g l) → IfSome held IsAccepted
accepted None l is = tt
accepted (Some g) l is = (is.sound, is.plain)

-- ---- the output

retiled_file : StandsForRestored → (o : PackOptions) (held contents : Option (List ℕ)) → IfSome held IsAccepted → HoldsPacked o (restored_from held) contents → HoldsRetiled o held contents
retiled_file law o None contents accepted packed = tt
retiled_file law o (Some g) None accepted packed = tt
retiled_file law o (Some g) (Some bytes) accepted packed = record {
  plain = restored g;
  stands = law g accepted.0;
  packed = subst (λ (p : Option (List ℕ)). HoldsPacked o p (Some bytes)) accepted.1 packed;
}

pub output : StandsForRestored → (o : PackOptions) (held contents : Option (List ℕ)) (r : Result (Unit {0}) Stop) (failed : Option Failed) (later : Option Fault) → IfSome held IsAccepted →
    OnOk r (HoldsPacked o (restored_from held) contents) → OnOk (settled_of r failed later) (HoldsRetiled o held contents)
output law o held contents (Ok x) None later accepted packed = retiled_file law o held contents accepted packed
output law o held contents (Ok x) (Some failed) later accepted packed = tt
output law o held contents (Err stop) None later accepted packed = tt
output law o held contents (Err stop) (Some failed) later accepted packed = tt

-- the same of an answer of `pack`
pub whole_done : StandsForRestored → (o : PackOptions) (held contents : Option (List ℕ)) (r : Result (Unit {0}) Stop) → IfSome held IsAccepted → OnOk r (HoldsPacked o (restored_from held) contents) →
    OnOk r (HoldsRetiled o held contents)
whole_done law o held contents (Ok x) accepted packed = retiled_file law o held contents accepted packed
whole_done law o held contents (Err stop) accepted packed = tt

pub whole_end : StandsForRestored → (o : PackOptions) (held contents : Option (List ℕ)) (r : Result (Unit {0}) Stop) → IfSome held IsAccepted → IsShutOrWhole contents (HoldsPacked o (restored_from held) contents) r →
    IsShutOrWhole contents (HoldsRetiled o held contents) r
whole_end law o held contents (Ok x) accepted is = tt
whole_end law o held contents (Err stop) accepted (inl shut) = inl shut
whole_end law o held contents (Err stop) accepted (inr (packed, last)) = inr (retiled_file law o held contents accepted packed, last)

-- a fact of a job that is done
pub on_done : (r : Result (Unit {0}) Stop) (failed : Option Failed) (later : Option Fault) (P : Type 0) → OnOk r P → OnOk (settled_of r failed later) P
on_done (Ok x) None later P is = is
on_done (Ok x) (Some failed) later P is = tt
on_done (Err stop) None later P is = tt
on_done (Err stop) (Some failed) later P is = tt

-- ---- the first fault

plain_sound : (o : PackOptions) (held : Option (List ℕ)) → IfSome held IsAccepted → TellsFirstFault {X = Unit {0}} (Pack o) (restored_from held) (Ok tt) → IfSome held (λ g. IsFirstFault (Retile o) g None)
plain_sound o None accepted tells = tt
plain_sound o (Some g) accepted tells = no_fault o g accepted.0 accepted.1 (subst (λ (p : Option (List ℕ)). IfSome p (λ u. IsFirstFault (Pack o) u None)) accepted.1 tells)

plain_faulty : (o : PackOptions) (held : Option (List ℕ)) (x : Fault) → IfSome held IsAccepted → TellsFirstFault {X = Unit {0}} (Pack o) (restored_from held) (Err (Refused x)) → IfSome held (λ g. IsFirstFault (Retile o) g (Some x))
plain_faulty o None x accepted tells = tt
plain_faulty o (Some g) x accepted tells = plain_refused o g x accepted.0 accepted.1 (subst (λ (p : Option (List ℕ)). IfSome p (λ u. IsFirstFault (Pack o) u (Some x))) accepted.1 tells)

-- of a source that shows its bytes nothing is refused later
never_late : (o : PackOptions) (held : Option (List ℕ)) (x : Fault) → IfSome held (λ g. Some x ≡ None) → IfSome held (λ g. IsFirstFault (Retile o) g (Some x))
never_late o None x never = tt
never_late o (Some g) x never = absurd cc

pub first_fault : (o : PackOptions) (held : Option (List ℕ)) (r : Result (Unit {0}) Stop) (failed : Option Failed) (later : Option Fault) → IfSome held IsAccepted → IfSome held (λ g. later ≡ None) →
    TellsFirstFault (Pack o) (restored_from held) r → TellsFirstFault (Retile o) held (settled_of r failed later)
first_fault o held (Ok x) None later accepted never tells = plain_sound o held accepted tells
first_fault o held (Ok x) (Some failed) later accepted never tells = tt
first_fault o held (Err (Refused x)) None later accepted never tells = plain_faulty o held x accepted tells
first_fault o held (Err ReadFault) None None accepted never tells = tt
first_fault o held (Err ReadFault) None (Some x) accepted never tells = never_late o held x never
first_fault o held (Err WriteFault) None later accepted never tells = tt
first_fault o held (Err (OverLimit live asked limit)) None later accepted never tells = tt
first_fault o held (Err NoMemory) None later accepted never tells = tt
first_fault o held (Err (Refused x)) (Some IsFault) later accepted never tells = tt
first_fault o held (Err (Refused x)) (Some IsWant) later accepted never tells = tt
first_fault o held (Err ReadFault) (Some IsFault) later accepted never tells = tt
first_fault o held (Err ReadFault) (Some IsWant) later accepted never tells = tt
first_fault o held (Err WriteFault) (Some failed) later accepted never tells = tt
first_fault o held (Err (OverLimit live asked limit)) (Some failed) later accepted never tells = tt
first_fault o held (Err NoMemory) (Some failed) later accepted never tells = tt

-- ---- counts

-- what rose with the faults of a view that has none of its own rose in its source
rose_of : (a b : ℕ) → Rose (together a 0) (together b 0) → Rose a b
rose_of a b rose = omega (arith, rose)

pub rose_in : (a b more : ℕ) → more ≡ 0 → Rose (together a 0) (together b more) → Rose a b
rose_in a b more none rose = rose_of a b (subst (λ (m : ℕ). Rose (together a 0) (together b m)) none rose)

-- ---- what a view keeps of its source

-- The counts of the source since the look, and of the sink since it was handed to `pack`; the view was handed to it with no refusal of its own.
pub record Keeps (source source' sink sink' : Tally) (more : ℕ) (failed : Option Failed) (later : Option Fault) (r : Result (Unit {0}) Stop) : Type 0 where
  pub clean : failed ≡ None → source' ≡ source
  pub rose : failed ≡ Some IsFault → Rose source.faults source'.faults
  pub none : later ≡ None → more ≡ 0
  pub done : OnOk r (sink' ≡ sink)
  pub refused : IsRefused r → sink' ≡ sink
  pub read_fault : IsErrOf r ReadFault → Rose (together source.faults 0) (together source'.faults more)
  pub unwritten : IsErrOf r ReadFault → sink' ≡ sink
  pub write_fault : IsErrOf r WriteFault → Rose sink.faults sink'.faults

module _ (source source' sink sink' : Tally) (more : ℕ) where
  pub done_cause : (r : Result (Unit {0}) Stop) (failed : Option Failed) (later : Option Fault) → Keeps source source' sink sink' more failed later r →
      OnOk (settled_of r failed later) ((source' ≡ source) × (sink' ≡ sink))
  done_cause (Ok x) None later k = (k.clean refl, k.done)
  done_cause (Ok x) (Some failed) later k = tt
  done_cause (Err stop) None later k = tt
  done_cause (Err stop) (Some failed) later k = tt

  -- a failed reading is no refusal
  read_refused : (failed : Failed) (P : Type 0) → IsRefused {X = Unit {0}} (Err (stop_of_read failed)) → P
  read_refused IsFault P is = absurd cc
  read_refused IsWant P is = absurd cc

  pub refused_cause : (r : Result (Unit {0}) Stop) (failed : Option Failed) (later : Option Fault) → Keeps source source' sink sink' more failed later r →
      IsRefused (settled_of r failed later) → (source' ≡ source) × (sink' ≡ sink)
  refused_cause (Ok x) None later k is = absurd cc
  refused_cause (Ok x) (Some failed) later k is = absurd cc
  refused_cause (Err (Refused x)) None later k is = (k.clean refl, k.refused (x, refl))
  refused_cause (Err ReadFault) None None k is = absurd cc
  refused_cause (Err ReadFault) None (Some x) k is = (k.clean refl, k.unwritten refl)
  refused_cause (Err WriteFault) None later k is = absurd cc
  refused_cause (Err (OverLimit live asked limit)) None later k is = absurd cc
  refused_cause (Err NoMemory) None later k is = absurd cc
  refused_cause (Err (Refused x)) (Some failed) later k is = read_refused failed _ is
  refused_cause (Err ReadFault) (Some failed) later k is = read_refused failed _ is
  refused_cause (Err WriteFault) (Some failed) later k is = absurd cc
  refused_cause (Err (OverLimit live asked limit)) (Some failed) later k is = absurd cc
  refused_cause (Err NoMemory) (Some failed) later k is = absurd cc

  read_rose : (failed : Failed) → (Some failed ≡ Some IsFault → Rose source.faults source'.faults) → IsErrOf {T = Unit {0}} (Err (stop_of_read failed)) ReadFault → Rose source.faults source'.faults
  read_rose IsFault rose is = rose refl
  read_rose IsWant rose is = absurd cc

  pub read_cause : (r : Result (Unit {0}) Stop) (failed : Option Failed) (later : Option Fault) → Keeps source source' sink sink' more failed later r →
      IsErrOf (settled_of r failed later) ReadFault → Rose source.faults source'.faults
  read_cause (Ok x) None later k is = absurd cc
  read_cause (Ok x) (Some failed) later k is = absurd cc
  read_cause (Err (Refused x)) None later k is = absurd cc
  read_cause (Err ReadFault) None None k is = rose_in source.faults source'.faults more (k.none refl) (k.read_fault refl)
  read_cause (Err ReadFault) None (Some x) k is = absurd cc
  read_cause (Err WriteFault) None later k is = absurd cc
  read_cause (Err (OverLimit live asked limit)) None later k is = absurd cc
  read_cause (Err NoMemory) None later k is = absurd cc
  read_cause (Err (Refused x)) (Some failed) later k is = read_rose failed k.rose is
  read_cause (Err ReadFault) (Some failed) later k is = read_rose failed k.rose is
  read_cause (Err WriteFault) (Some failed) later k is = absurd cc
  read_cause (Err (OverLimit live asked limit)) (Some failed) later k is = absurd cc
  read_cause (Err NoMemory) (Some failed) later k is = absurd cc

  read_unwritten : (failed : Failed) (P : Type 0) → IsErrOf {T = Unit {0}} (Err (stop_of_read failed)) WriteFault → P
  read_unwritten IsFault P is = absurd cc
  read_unwritten IsWant P is = absurd cc

  pub write_cause : (r : Result (Unit {0}) Stop) (failed : Option Failed) (later : Option Fault) → Keeps source source' sink sink' more failed later r →
      IsErrOf (settled_of r failed later) WriteFault → Rose sink.faults sink'.faults
  write_cause (Ok x) None later k is = absurd cc
  write_cause (Ok x) (Some failed) later k is = absurd cc
  write_cause (Err (Refused x)) None later k is = absurd cc
  write_cause (Err ReadFault) None None k is = absurd cc
  write_cause (Err ReadFault) None (Some x) k is = absurd cc
  write_cause (Err WriteFault) None later k is = k.write_fault refl
  write_cause (Err (OverLimit live asked limit)) None later k is = absurd cc
  write_cause (Err NoMemory) None later k is = absurd cc
  write_cause (Err (Refused x)) (Some failed) later k is = read_unwritten failed _ is
  write_cause (Err ReadFault) (Some failed) later k is = read_unwritten failed _ is
  write_cause (Err WriteFault) (Some failed) later k is = k.write_fault refl
  write_cause (Err (OverLimit live asked limit)) (Some failed) later k is = absurd cc
  write_cause (Err NoMemory) (Some failed) later k is = absurd cc

  -- ---- the answer, if no count of faults rose

  read_answer : (failed : Failed) → (Some failed ≡ Some IsFault → Rose source.faults source'.faults) → ¬ Rose source.faults source'.faults → IsAnswer {X = Unit {0}} (Err (stop_of_read failed))
  read_answer IsFault rose still = still (rose refl)
  read_answer IsWant rose still = tt

  pub answer : (r : Result (Unit {0}) Stop) (failed : Option Failed) (later : Option Fault) → (failed ≡ Some IsFault → Rose source.faults source'.faults) → ¬ Rose source.faults source'.faults → IsAnswer r →
      IsAnswer (settled_of r failed later)
  answer (Ok x) None later rose still is = tt
  answer (Ok x) (Some failed) later rose still is = tt
  answer (Err (Refused x)) None later rose still is = tt
  answer (Err ReadFault) failed later rose still is = absurd is
  answer (Err WriteFault) failed later rose still is = absurd is
  answer (Err (OverLimit live asked limit)) failed later rose still is = absurd is
  answer (Err NoMemory) None later rose still is = tt
  answer (Err (Refused x)) (Some failed) later rose still is = read_answer failed rose still
  answer (Err NoMemory) (Some failed) later rose still is = tt

-- ---- the cause, whole

-- the counts of a view, by those of its source
pub keeps : (source source' sink sink' : Tally) (more own : ℕ) (failed : Option Failed) (later : Option Fault) (r : Result (Unit {0}) Stop) (plain : Option (List ℕ)) (limit W : ℕ) (o : PackOptions) → own ≡ 0 →
    (failed ≡ None → source' ≡ source) → (failed ≡ Some IsFault → Rose source.faults source'.faults) → (later ≡ None → more ≡ 0) →
    HasJobCause (Pack o) plain (with_more source own) (with_more source' more) sink sink' limit W r → (IsErrOf r ReadFault → sink' ≡ sink) → Keeps source source' sink sink' more failed later r
keeps source source' sink sink' more own failed later r plain limit W o zero clean rose none cause unwritten = record {
  clean = clean;
  rose = rose;
  none = none;
  done = second_of _ _ r cause.done;
  refused = λ is. (cause.refused is).1;
  read_fault = λ is. subst (λ (n : ℕ). Rose (together source.faults n) (together source'.faults more)) zero (cause.read_fault is);
  unwritten = unwritten;
  write_fault = cause.write_fault;
}
  where
    second_of : (P Q : Type 0) (q : Result (Unit {0}) Stop) → OnOk q (P × Q) → OnOk q Q
    second_of P Q (Ok x) is = is.1
    second_of P Q (Err stop) is = tt
