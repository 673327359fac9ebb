-- What the text got if a file is compared: the lines of `verify`, and after them that of the comparison.
use Rattle.std.proofs.Common.{◌≡◌, ℕ, zero, suc, ◌+◌, length, take, Bool, true, false, List, [], ◌∷◌, ◌++◌, refl, sym, ap, ◌∙◌, subst, inl, inr}
use Rattle.std.proofs.Math.Seq.{take-append-add, take-length}
use Rattle.std.proofs.lemmas.List.{append_assoc}
use Rattle.std.specs.Prelude.{◌⊎◌, Option, Some, None, IfOk, IfSome, IsSome, Result, Ok, Err}
use Rattle.fz_base.specs.Sink.{MayAppend, appended}
use Rattle.fz_base.specs.Stop.{IfRefused}
use Rattle.fz_base.specs.Takings.{first_past}
use Rattle.fz_base.specs.declared.fault.Fault.{Fault}
use Rattle.fz_base.specs.declared.failure.Stop.{Stop}
use Rattle.fz_base.specs.declared.failure.Stop.TheVariants.{Refused as StopRefused, ReadFault as StopRead, WriteFault as StopWrite, OverLimit as StopLimit, NoMemory as StopMemory}
use Rattle.fz_files.specs.FirstFault.{IsFaultBehind, IsFirstFault}
use Rattle.fz_files.specs.Buffers.{job_takings}
use Rattle.fz_files.specs.Lines.{report_lines}
use Rattle.fz_files.specs.Walks.{header_fault}
use Rattle.fz_files.specs.declared.job.Job.TheVariants.{Verify}
use Rattle.fz_files.specs.Decided.{first_fault}
use Rattle.fz_laws.specs.RoundTrip.{HasNoOtherFault}
use Rattle.fz_job.specs.Clauses.{ComesLate, IfOverLimit, IsUnmade, TellsFirstFault}
use Rattle.fz_strict.specs.Clauses.{IsStrictAsSaid}
use Rattle.fz_verify.specs.Clauses.{GotLines, PrintsLines}
use Rattle.fz_app.specs.Answer.{done_of}
use Rattle.fz_app.specs.Lines.{strict_text}
use Rattle.fz_app.specs.Printed.{IsSilent, PrintsCompared, compared_lines}

-- ---- texts that grow twice

append_twice : (lines more : List ℕ) (old : Option (List ℕ)) → appended more (appended lines old) ≡ appended (lines ++ more) old
append_twice lines more None = refl
append_twice lines more (Some text) = ap Some (append_assoc text lines more)

both_grown : (lines more : List ℕ) (old mid new : Option (List ℕ)) → mid ≡ appended lines old → new ≡ appended more mid → new ≡ appended (lines ++ more) old
both_grown lines more old mid new first second = second ∙ ap (appended more) first ∙ append_twice lines more old

-- a front of some bytes is one of these and more
front_of_more : (n : ℕ) (lines more : List ℕ) → (k : ℕ) × (take k (lines ++ more) ≡ take n lines)
front_of_more zero lines more = (0, refl)
front_of_more (suc n) [] more = (0, refl)
front_of_more (suc n) (b ∷ lines) more = let rest = front_of_more n lines more in (suc rest.0, ap (λ l. b ∷ l) rest.1)

pub may_more : (lines more : List ℕ) (old new : Option (List ℕ)) → MayAppend lines old new → MayAppend (lines ++ more) old new
may_more lines more old new got =
    let front = front_of_more got.0 lines more in
    (front.0, got.1 ∙ ap (λ l. appended l old) (sym front.1))

-- all of the first, and a front of the others
may_behind : (lines more : List ℕ) (old mid new : Option (List ℕ)) → mid ≡ appended lines old → MayAppend more mid new → MayAppend (lines ++ more) old new
may_behind lines more old mid new first got =
    (length lines + got.0, both_grown lines (take got.0 more) old mid new first got.1 ∙ ap (λ l. appended l old) (sym (take-append-add lines more got.0)))

-- ---- the answer whether a file is strict

not_true : ◌≡◌ {A = Bool} false true → ⊥
not_true e = absurd cc

-- there is only one
pub same_said : (file : List ℕ) (a b : Bool) → IsStrictAsSaid a file → IsStrictAsSaid b file → a ≡ b
same_said file true true p q = refl
same_said file false false p q = refl
same_said file true false p q = absurd (not_true (q.1 (p.0 refl)))
same_said file false true p q = absurd (not_true (p.1 (q.0 refl)))

-- ---- `verify` stopped: nothing is compared

module _ (held old new : Option (List ℕ)) where
  front_more : (file : Option (List ℕ)) → IfSome file (λ f. (fault : Option Fault) → IsFirstFault Verify f fault → MayAppend (report_lines Verify f fault) old new) →
      IfSome file (λ f. (fault : Option Fault) (same : Bool) → IsFirstFault Verify f fault → IsStrictAsSaid same f → MayAppend (compared_lines f fault same) old new)
  front_more None p = tt
  front_more (Some f) p = λ fault same is said. may_more (report_lines Verify f fault) _ old new (p fault is)

  pub stopped_lines : (stop : Stop) → PrintsLines {X = Unit {0}} Verify held old new (Err stop) → PrintsCompared held old new (Err stop)
  stopped_lines (StopRefused x) p = p
  stopped_lines StopRead p = front_more held p
  stopped_lines StopWrite p = front_more held p
  stopped_lines (StopLimit live asked limit) p = front_more held p
  stopped_lines StopMemory p = front_more held p

module _ (held : Option (List ℕ)) (limit W : ℕ) (Same All : Type 0) where
  if_over : (stop : Stop) → IfOverLimit {X = Unit {0}} (Err stop) Same → IfOverLimit {X = Unit {0}} (Err stop) (Same ⊎ All)
  if_over (StopRefused x) p = tt
  if_over StopRead p = tt
  if_over StopWrite p = tt
  if_over (StopLimit live asked told) p = inl p
  if_over StopMemory p = tt

  if_refused : (stop : Stop) → IfRefused {X = Unit {0}} (Err stop) (λ x. Same ⊎ ComesLate Verify x) → IfRefused {X = Unit {0}} (Err stop) (λ x. (Same ⊎ ComesLate Verify x) ⊎ ((held ≡ None) × All))
  if_refused (StopRefused x) p = inl p
  if_refused StopRead p = tt
  if_refused StopWrite p = tt
  if_refused (StopLimit live asked told) p = tt
  if_refused StopMemory p = tt

  pub stopped_silent : (stop : Stop) → IsUnmade {X = Unit {0}} Verify held limit W Same (Err stop) → IsSilent held limit W Same All (Err stop)
  stopped_silent stop p = record { faulty = p.faulty; past = p.past; over_limit = if_over stop p.over_limit; refused = if_refused stop p.refused }

-- ---- `verify` was done: no header is refused, and no taking of it passed the limit

sound_header : (file : List ℕ) (found : Option Fault) → header_fault Verify file ≡ found → IsFaultBehind found Verify file None → header_fault Verify file ≡ None
sound_header file None e sound = e
sound_header file (Some x) e sound = absurd cc

module _ (only : HasNoOtherFault) where
  -- a file is not refused in which `verify` found no fault
  no_refusal : (file : List ℕ) (x : Fault) → IsFirstFault Verify file None → IsFirstFault Verify file (Some x) → ⊥
  no_refusal file x none some =
      let first : ◌≡◌ {A = Option Fault} None (first_fault Verify file) = only Verify file None none in
      let second : ◌≡◌ {A = Option Fault} (Some x) (first_fault Verify file) = only Verify file (Some x) some in
      absurd cc

  module _ (old mid new : Option (List ℕ)) where
    untold : (r : Result (Unit {0}) Stop) → PrintsCompared None old new r
    untold (Ok done) = tt
    untold (Err (StopRefused x)) = tt
    untold (Err StopRead) = tt
    untold (Err StopWrite) = tt
    untold (Err (StopLimit live asked limit)) = tt
    untold (Err StopMemory) = tt

    fronts : (file : List ℕ) → IsFirstFault Verify file None → GotLines Verify file None old mid → ((same : Bool) → IsStrictAsSaid same file → MayAppend (strict_text same) mid new) →
        (fault : Option Fault) (same : Bool) → IsFirstFault Verify file fault → IsStrictAsSaid same file → MayAppend (compared_lines file fault same) old new
    fronts file none got front fault same is said =
        let e : None ≡ fault = only Verify file None none ∙ sym (only Verify file fault is) in
        subst (λ (f : Option Fault). MayAppend (compared_lines file f same) old new) e (may_behind (report_lines Verify file None) (strict_text same) old mid new got (front same said))

    by_answer : (file : List ℕ) (r : Result Bool Stop) → IsFirstFault Verify file None → GotLines Verify file None old mid → IfOk r (λ same. IsStrictAsSaid same file) → IfOk r (λ same. new ≡ appended (strict_text same) mid) →
        ((same : Bool) → IsStrictAsSaid same file → MayAppend (strict_text same) mid new) → TellsFirstFault Verify (Some file) r → PrintsCompared (Some file) old new (done_of r)
    by_answer file (Ok same) none got said line front first = (same, said, both_grown (report_lines Verify file None) (strict_text same) old mid new got line)
    by_answer file (Err (StopRefused x)) none got said line front first = absurd (no_refusal file x none first)
    by_answer file (Err StopRead) none got said line front first = fronts file none got front
    by_answer file (Err StopWrite) none got said line front first = fronts file none got front
    by_answer file (Err (StopLimit live asked limit)) none got said line front first = fronts file none got front
    by_answer file (Err StopMemory) none got said line front first = fronts file none got front

    -- the lines of `verify`, and what the comparison printed, which answered so
    pub all_lines : (file : Option (List ℕ)) (r : Result Bool Stop) → IfSome file (λ f. IsFirstFault Verify f None) → IfSome file (λ f. GotLines Verify f None old mid) → IfOk r (λ same. IfSome file (IsStrictAsSaid same)) →
        IfOk r (λ same. new ≡ appended (strict_text same) mid) → IfSome file (λ f. (same : Bool) → IsStrictAsSaid same f → MayAppend (strict_text same) mid new) → TellsFirstFault Verify file r → PrintsCompared file old new (done_of r)
    all_lines None r none got said line front first = untold (done_of r)
    all_lines (Some f) r none got said line front first = by_answer f r none got said line front first

-- what is not said of a file without a fault
faulty_not : (file : List ℕ) (Same : Type 0) → IsFirstFault Verify file None → ¬ (header_fault Verify file ≡ None) → Same
faulty_not file Same sound faulty = absurd (faulty (sound_header file (header_fault Verify file) refl sound))

none_some : (taking : Option (ℕ × ℕ)) → taking ≡ None → IsSome taking → ⊥
none_some None none some = absurd cc
none_some (Some found) none some = absurd cc

past_not : (limit : ℕ) (takings : List (ℕ × ℕ)) (Same : Type 0) → first_past limit takings ≡ None → IsSome (first_past limit takings) → Same
past_not limit takings Same none some = absurd (none_some (first_past limit takings) none some)

faulty_held : (held : Option (List ℕ)) (Same : Type 0) → IfSome held (λ file. IsFirstFault Verify file None) → IfSome held (λ file. ¬ (header_fault Verify file ≡ None) → Same)
faulty_held None Same sound = tt
faulty_held (Some file) Same sound = λ faulty. faulty_not file Same sound faulty

past_held : (held : Option (List ℕ)) (limit W : ℕ) (Same : Type 0) → IfSome held (λ file. first_past limit (job_takings Verify file W) ≡ None) → IfSome held (λ file. IsSome (first_past limit (job_takings Verify file W)) → Same)
past_held None limit W Same none = tt
past_held (Some file) limit W Same none = λ some. past_not limit (job_takings Verify file W) Same none some

over_all : (r : Result Bool Stop) (Stays Same All : Type 0) → (Stays → All) → IfOverLimit r Stays → IfOverLimit (done_of r) (Same ⊎ All)
over_all (Ok same) Stays Same All f p = tt
over_all (Err (StopRefused x)) Stays Same All f p = tt
over_all (Err StopRead) Stays Same All f p = tt
over_all (Err StopWrite) Stays Same All f p = tt
over_all (Err (StopLimit live asked limit)) Stays Same All f p = inr (f p)
over_all (Err StopMemory) Stays Same All f p = tt

module _ (only : HasNoOtherFault) where
  -- only a source that does not tell its bytes may have changed
  changed : (held : Option (List ℕ)) (x : Fault) → IfSome held (λ file. IsFirstFault Verify file None) → IfSome held (λ file. IsFirstFault Verify file (Some x)) → held ≡ None
  changed None x none some = refl
  changed (Some file) x none some = absurd (no_refusal only file x none some)

  refused_all : (held : Option (List ℕ)) (r : Result Bool Stop) (Stays Same All : Type 0) → (Stays → All) → IfSome held (λ file. IsFirstFault Verify file None) → TellsFirstFault Verify held r → IfRefused r (λ x. Stays) → IfRefused (done_of r) (λ x. (Same ⊎ ComesLate Verify x) ⊎ ((held ≡ None) × All))
  refused_all held (Ok same) Stays Same All f sound first p = tt
  refused_all held (Err (StopRefused x)) Stays Same All f sound first p = inr (changed held x sound first, f p)
  refused_all held (Err StopRead) Stays Same All f sound first p = tt
  refused_all held (Err StopWrite) Stays Same All f sound first p = tt
  refused_all held (Err (StopLimit live asked limit)) Stays Same All f sound first p = tt
  refused_all held (Err StopMemory) Stays Same All f sound first p = tt

  pub all_silent : (held : Option (List ℕ)) (limit W : ℕ) (r : Result Bool Stop) (Stays Same All : Type 0) → (Stays → All) → IfSome held (λ file. IsFirstFault Verify file None) → IfSome held (λ file. first_past limit (job_takings Verify file W) ≡ None) →
      TellsFirstFault Verify held r → IfOverLimit r Stays → IfRefused r (λ x. Stays) → IsSilent held limit W Same All (done_of r)
  all_silent held limit W r Stays Same All f sound none first over refused = record {
    faulty = faulty_held held Same sound;
    past = past_held held limit W Same none;
    over_limit = over_all r Stays Same All f over;
    refused = refused_all held r Stays Same All f sound first refused;
  }

-- ---- the line of the comparison

-- it was printed whole
pub whole_line : (held old new : Option (List ℕ)) (same : Bool) → IfSome held (IsStrictAsSaid same) → new ≡ appended (strict_text same) old → IfSome held (λ file. (other : Bool) → IsStrictAsSaid other file → MayAppend (strict_text other) old new)
whole_line None old new same said line = tt
whole_line (Some file) old new same said line = λ other also.
    let one : same ≡ other = same_said file same other said also in
    subst (λ (b : Bool). MayAppend (strict_text b) old new) one (length (strict_text same), line ∙ ap (λ l. appended l old) (sym (take-length (strict_text same))))
