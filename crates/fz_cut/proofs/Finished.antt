-- What the job promises where the first look knows the file, by what the work after it says.
use Rattle.std.proofs.Common.{◌≡◌, ◌⊎◌, inl, inr, ℕ, List, [], ◌++◌, append-nil, sym, ◌∙◌, subst}
use Rattle.std.specs.Prelude.{Option, Some, None, IfSome, Result, Ok, Err, OnOk, IsErrOf, IsSome}
use Rattle.std.specs.List.{flat_map}
use Rattle.fz_base.specs.Ranges.{LiesIn, LogsIn}
use Rattle.fz_base.specs.FirstByte.{IsShut}
use Rattle.fz_base.specs.Stop.{IfRefused}
use Rattle.fz_base.specs.Takings.{first_past}
use Rattle.fz_base.specs.declared.fault.Fault.{Fault}
use Rattle.fz_base.specs.declared.failure.Stop.{Stop}
use Rattle.fz_base.specs.declared.failure.Stop.TheVariants.{Refused, ReadFault, WriteFault, OverLimit, NoMemory}
use Rattle.fz_block.specs.declared.header.Header.{Header}
use Rattle.fz_grid.specs.declared.sieve.Sieve.{Sieve}
use Rattle.fz_files.specs.FirstFault.{IsFaultBehind, IsFirstFault, IsFirstRowFault, picked_rows}
use Rattle.fz_files.specs.Cutout.{touched}
use Rattle.fz_files.specs.CutoutBytes.{IsCutout}
use Rattle.fz_files.specs.Walks.{box_of, header_fault}
use Rattle.fz_files.specs.declared.job.Job.TheVariants.{Cut}
use Rattle.fz_job.specs.Surveys.{cut_surveyed}
use Rattle.fz_job.specs.declared.survey.Survey.{Survey}
use Rattle.fz_cut.specs.Output.{HoldsCutout}
use Rattle.fz_job.specs.Clauses.{ComesLate, IfOverLimit, IsShutOrWhole, StaysUnmade, TellsFirstFault}
use Rattle.fz_job.specs.Stages.{HasLargest}
use Rattle.fz_cut.specs.Known.{IsKnown, SurveysKnow}
use Rattle.fz_cut.specs.Written.{FinishesSeen, IsPart, IsShutOrPart, work_ranges}
use Rattle.fz_cut.specs.Again.{WasSeen}
use Rattle.fz_cut.specs.Laws.{WorkIsTouched}
use Rattle.fz_cut.specs.Part.{IsPartOf}
use Rattle.fz_cut.proofs.Logs.{LogsInWider}
use Rattle.fz_cut.proofs.Rows.{picked_sound}
use Rattle.fz_cut.proofs.Outcomes.{refused_weaker}

-- the first look knows this of the file
abbrev pub Knows : Option ℕ → Sieve → Survey → List ℕ → Type 0
Knows want sieve s g = cut_surveyed want (box_of sieve) g ≡ Ok s

module _ (know : SurveysKnow) (want : Option ℕ) (sieve : Sieve) (s : Survey) where
  -- the rows of the HDU that is cut from are those that the job looks at
  faults_are : (g : List ℕ) (known : IsKnown want sieve g s) (x : Option Fault) → IsFirstRowFault g (picked_rows g sieve known.from) x → IsFirstFault (Cut want sieve) g x
  faults_are g known x rows =
      let all : IsFirstRowFault g (picked_rows g sieve known.from ++ []) x = subst (λ l. IsFirstRowFault g l x) (sym (append-nil (picked_rows g sieve known.from))) rows in
      subst (λ (f : Option Fault). IsFaultBehind f (Cut want sieve) g x) (sym known.no_fault) (subst (λ (hs : List Header). IsFirstRowFault g (flat_map (picked_rows g sieve) hs) x) (sym known.last) all)

  -- no row of a file that was cut from is refused
  no_fault_of : (g : List ℕ) (known : IsKnown want sieve g s) (bytes : List ℕ) → IsPartOf g known.from sieve bytes → IsFirstFault (Cut want sieve) g None
  no_fault_of g known bytes is = faults_are g known None (picked_sound g known.from sieve is.numbers is.cut)

  by_contents : (g : List ℕ) (known : IsKnown want sieve g s) (c : Option (List ℕ)) → IsPart g known.from sieve c → IfSome c (IsCutout want sieve g)
  by_contents g known None is = tt
  by_contents g known (Some bytes) is = record {
    sound = no_fault_of g known bytes is;
    header = known.from;
    last = known.last;
    numbers = is.numbers;
    cut = is.cut;
    made = is.made;
  }

  module _ (from : Header) (at : s.stopped ≡ Some from) where
    -- the HDU at which the first look stopped is the one that is cut from
    pub same_from : (g : List ℕ) (known : IsKnown want sieve g s) → known.from ≡ from
    same_from g known = let two : Some known.from ≡ Some from = sym known.stopped ∙ at in cc

    pub seen_from : (g : List ℕ) (known : IsKnown want sieve g s) → WasSeen g (box_of sieve) s.header_len s.tile from
    seen_from g known = subst (WasSeen g (box_of sieve) s.header_len s.tile) (same_from g known) known.seen

    part_from : (g : List ℕ) (known : IsKnown want sieve g s) (c : Option (List ℕ)) → IsPart g from sieve c → IfSome c (IsCutout want sieve g)
    part_from g known c is = by_contents g known c (subst (λ (h : Header). IsPart g h sieve c) (sym (same_from g known)) is)

    -- the cutout was written
    is_output : {X : Type 0} (held : Option (List ℕ)) (now : Option (List ℕ)) (x : X) → IfSome held (Knows want sieve s) → IfSome held (λ g. FinishesSeen {X = X} g sieve s.header_len s.tile from now (Ok x)) → HoldsCutout want sieve held now
    is_output None now x exact written = tt
    is_output (Some g) now x exact written = let known = know want sieve g s exact in part_from g known now (written.part (seen_from g known))

    pub work_output : {X : Type 0} (held : Option (List ℕ)) (now : Option (List ℕ)) (r : Result X Stop) → IfSome held (Knows want sieve s) → IfSome held (λ g. FinishesSeen g sieve s.header_len s.tile from now r) → OnOk r (HoldsCutout want sieve held now)
    work_output held now (Ok x) exact written = is_output held now x exact written
    work_output held now (Err stop) exact written = tt

    -- the first faulty row is refused
    row_refused : (X : Type 0) (held : Option (List ℕ)) (now : Option (List ℕ)) (x : Fault) → IfSome held (Knows want sieve s) → IfSome held (λ g. FinishesSeen {X = X} g sieve s.header_len s.tile from now (Err (Refused x))) → IfSome held (λ g. IsFirstFault (Cut want sieve) g (Some x))
    row_refused X None now x exact written = tt
    row_refused X (Some g) now x exact written =
        let known = know want sieve g s exact in
        let rows : IsFirstRowFault g (picked_rows g sieve from) (Some x) = written.first_fault (seen_from g known) in
        faults_are g known (Some x) (subst (λ (h : Header). IsFirstRowFault g (picked_rows g sieve h) (Some x)) (sym (same_from g known)) rows)

    -- after Ok nothing is, as the rows of the tiles that hold a pick were all read
    none_refused : {X : Type 0} (held : Option (List ℕ)) (now : Option (List ℕ)) (x : X) → IfSome held (Knows want sieve s) → IfSome held (λ g. FinishesSeen {X = X} g sieve s.header_len s.tile from now (Ok x)) → IfSome held (λ g. IsFirstFault (Cut want sieve) g None)
    none_refused None now x exact written = tt
    none_refused (Some g) now x exact written =
        let known = know want sieve g s exact in
        let rows : IsFirstRowFault g (picked_rows g sieve from) None = written.sound (seen_from g known) in
        faults_are g known None (subst (λ (h : Header). IsFirstRowFault g (picked_rows g sieve h) None) (sym (same_from g known)) rows)

    pub work_faulty : {X : Type 0} (held : Option (List ℕ)) (now : Option (List ℕ)) (r : Result X Stop) → IfSome held (Knows want sieve s) → IfSome held (λ g. FinishesSeen g sieve s.header_len s.tile from now r) → TellsFirstFault (Cut want sieve) held r
    work_faulty held now (Ok x) exact written = none_refused held now x exact written
    work_faulty {X} held now (Err (Refused x)) exact written = row_refused X held now x exact written
    work_faulty held now (Err ReadFault) exact written = tt
    work_faulty held now (Err WriteFault) exact written = tt
    work_faulty held now (Err (OverLimit live asked limit)) exact written = tt
    work_faulty held now (Err NoMemory) exact written = tt

    -- what is sealed is the cutout
    sealed_whole : (held : Option (List ℕ)) (now : Option (List ℕ)) → IfSome held (Knows want sieve s) → IfSome held (λ g. WasSeen g (box_of sieve) s.header_len s.tile from → IsPart g from sieve now) → HoldsCutout want sieve held now
    sealed_whole None now exact whole = tt
    sealed_whole (Some g) now exact whole = let known = know want sieve g s exact in part_from g known now (whole (seen_from g known))

    pub work_shut : {X : Type 0} (held : Option (List ℕ)) (now : Option (List ℕ)) (r : Result X Stop) → IfSome held (Knows want sieve s) → IsShutOrPart held sieve s.header_len s.tile from now r → IsShutOrWhole now (HoldsCutout want sieve held now) r
    work_shut held now (Ok x) exact shut = tt
    work_shut {X} held now (Err stop) exact shut = by_shut shut
      where
        Whole : Type 0
        Whole = IfSome held (λ g. WasSeen g (box_of sieve) s.header_len s.tile from → IsPart g from sieve now)

        Why : Type 0
        Why = IsErrOf {T = X} (Err stop) WriteFault ⊎ IsErrOf {T = X} (Err stop) NoMemory

        by_shut : IsShut now ⊎ (Whole × Why) → IsShut now ⊎ (HoldsCutout want sieve held now × Why)
        by_shut (inl is) = inl is
        by_shut (inr is) = inr (sealed_whole held now exact is.0, is.1)

    -- what was read after the first look lies in the touched ranges
    pub work_touched : WorkIsTouched → LogsInWider → (held : Option (List ℕ)) (old new : Option (List (ℕ × ℕ))) → IfSome held (Knows want sieve s) →
        IfSome held (λ g. WasSeen g (box_of sieve) s.header_len s.tile from → LogsIn (work_ranges g sieve from) old new) → IfSome held (λ g. LogsIn (touched want sieve g) old new)
    work_touched touch wider None old new exact reads = tt
    work_touched touch wider (Some g) old new exact reads =
        let known = know want sieve g s exact in
        let mine : (byte : ℕ) → LiesIn (work_ranges g sieve from) byte → LiesIn (touched want sieve g) byte =
        subst (λ (h : Header). (byte : ℕ) → LiesIn (work_ranges g sieve h) byte → LiesIn (touched want sieve g) byte) (same_from g known) (touch want sieve g s known) in
        wider (work_ranges g sieve from) (touched want sieve g) old new mine (reads (seen_from g known))

  pub work_unmade : {X : Type 0} (held : Option (List ℕ)) (limit : ℕ) (takings : List ℕ → List (ℕ × ℕ)) (Same : Type 0) (r : Result X Stop) → IfSome held (Knows want sieve s) → IfSome held (λ file. IsSome (first_past limit (takings file)) → Same) →
      IfOverLimit r Same → IfRefused r (ComesLate (Cut want sieve)) → StaysUnmade (Cut want sieve) held limit takings Same r
  work_unmade held limit takings Same r exact past over late = record { faulty = by_held held exact; past = past; over_limit = over; refused = refused_weaker r (λ x is. inr is) late }
    where
      by_held : (told : Option (List ℕ)) → IfSome told (Knows want sieve s) → IfSome told (λ file. ¬ (header_fault (Cut want sieve) file ≡ None) → Same)
      by_held None is = tt
      by_held (Some g) is = λ faulty. absurd (faulty (know want sieve g s is).no_fault)

  -- ---- what the work wants
  pub learnt : (held : Option (List ℕ)) → IfSome held (Knows want sieve s) → IfSome held (HasLargest (Cut want sieve) s.header_len s.tile)
  learnt None exact = tt
  learnt (Some g) exact = let known = know want sieve g s exact in record { no_fault = known.no_fault; longest = known.longest; largest = known.largest }
