-- The byte that a first fault names, and the card, HDU by HDU.
use Rattle.std.proofs.Common.{◌≡◌, ◌⊎◌, inl, inr, ℕ, zero, suc, ◌+◌, ◌<◌, ◌≤◌, ◌==◌, Bool, true, false, List, [], ◌∷◌, ◌++◌, length, Option, Some, None, Result, Ok, Err, if◌then◌else◌, refl, sym, subst, ◌∙◌, ap, arith}
use Rattle.std.proofs.lemmas.Bool.Decides.{nat_tests}
use Rattle.fz_base.specs.Refusal.{refusal}
use Rattle.fz_base.specs.declared.fault.Fault.{Fault}
use Rattle.fz_base.specs.declared.fault.Place.{Place}
use Rattle.fz_base.specs.declared.fault.Place.TheVariants.{Byte, Card, Row as AtRow}
use Rattle.fz_base.specs.declared.kind.Kind.TheVariants.{Limit}
use Rattle.fz_block.specs.Checks.{Judge, by_judgement, followed_by, hdu_at, judged, walk_from, walk_of}
use Rattle.fz_block.specs.Header.{next_start_of}
use Rattle.fz_block.specs.Walk.{stops}
use Rattle.fz_block.specs.declared.header.Header.{Header}
use Rattle.fz_checks.specs.JobChecks.{missing_hdu}
use Rattle.fz_checks.specs.Judges.{cut_judge}
use Rattle.fz_files.specs.declared.job.Job.{Job}
use Rattle.fz_files.specs.declared.job.Job.TheVariants.{Pack, Unpack, Cut, Verify, List as ListHdus, Drill, Retile}
use Rattle.fz_files.specs.Ends.{EndsAtTheFault, EndsAtTheLimit, EndsWithTheFile, IsRejectedAt, WalksEndAtTheFault, judge_for}
use Rattle.fz_files.specs.Walks.{Reached, box_of, cut_end_fault, fault_of_walk, header_fault, job_walk, missing_of, reached_by}
use Rattle.fz_laws.specs.Places.{CardLies, IsByteOf}
use Rattle.fz_laws.proofs.PlaceHeaders.{BlocksAreFound, HduIsFound, Lies, Stands, Starts, from_header, hdu_lies, hdu_stands, is_before_end, is_no_hdu, limit_is_other}
use Rattle.fz_laws.proofs.PlaceJudges.{judge_within}

-- the same of a header that is found at a place that is given
at_its_place : HduIsFound → (k start : ℕ) (file : List ℕ) (h : Header) → hdu_at k start file ≡ Ok h → hdu_at h.hdu h.start file ≡ Ok h
at_its_place find k start file h found =
    let facts = find k start file h found in
    (λ i. hdu_at (facts.0 i) (facts.1 i) file) ∙ found

pub stands_there : HduIsFound → BlocksAreFound → (k start : ℕ) (file : List ℕ) (h : Header) → hdu_at k start file ≡ Ok h → Stands file h
stands_there find count k start file h found = hdu_stands find count file h (at_its_place find k start file h found)

-- a place that a job's own checks name
judge_lies : HduIsFound → BlocksAreFound → (job : Job) (k start : ℕ) (file : List ℕ) (h : Header) (x : Fault) → hdu_at k start file ≡ Ok h → judge_for job file h ≡ Err x → Lies file k start x.kind x.at
judge_lies find count job k start file h x found says =
    let facts = find k start file h found in
    let s : Stands file h = stands_there find count k start file h found in
    let here : Lies file h.hdu h.start x.kind x.at = from_header file h.hdu h.start h.blocks s.last x.kind s.blocks s.ends x.at (judge_within file h s job x says) in
    subst (λ n. Lies file n start x.kind x.at) facts.0 (subst (λ n. Lies file h.hdu n x.kind x.at) facts.1 here)

-- ---- bytes

-- what a place is if it is this byte
at_byte : (file : List ℕ) (k start : ℕ) (x : Fault) (p : ℕ) → x.at ≡ Byte p → Lies file k start x.kind x.at → Starts file k start → IsByteOf file x.kind p
at_byte file k start x p at lies starts = subst (Lies file k start x.kind) at lies starts

module _ (find : HduIsFound) (count : BlocksAreFound) (job : Job) (file : List ℕ) (x : Fault) (p : ℕ) (at : x.at ≡ Byte p) where
  -- the next HDU begins in the file, if the file does not end there
  next_starts : (k start : ℕ) (h : Header) → hdu_at k start file ≡ Ok h → (next_start_of h == length file) ≡ false → next_start_of h < length file
  next_starts k start h found other =
      let s : Stands file h = stands_there find count k start file h found in
      less (next_start_of h) (length file) s.past other
    where
      less : (m n : ℕ) → m ≤ n → (m == n) ≡ false → m < n
      less m n le other = grind (arith, nat_tests, le, other)

  -- the byte lies in the file, if an HDU after this one has the fault
  abbrev Later : ℕ → ℕ → Header → Type 0
  Later more k h = next_start_of h < length file → walk_from (judge_for job file) more (suc k) (next_start_of h) file ≡ Err x → IsByteOf file x.kind p

  byte_from : (more k start : ℕ) → 0 < k + more → Starts file k start → walk_from (judge_for job file) more k start file ≡ Err x → IsByteOf file x.kind p
  unfolding walk_from
  byte_from zero k start some starts is =
      let same : refusal k (Byte start) Limit ≡ x = cc in
      let place : Byte start ≡ Byte p = ap (λ (y : Fault). y.at) same ∙ at in
      let byte : start ≡ p = cc in
      let less : start < length file = starts (omega (arith, some)) in
      subst (λ kind. IsByteOf file kind p) (ap (λ (y : Fault). y.kind) same) (is_before_end file Limit p (omega (arith, byte, less)) limit_is_other)
  byte_from (suc more) k start some starts is =
      by_here (λ h next. byte_from more (suc k) (next_start_of h) (omega arith) (λ _. next)) (hdu_at k start file) refl is
    where
      by_rest : (h : Header) → Later more k h → next_start_of h < length file → (rest : Result (List Header) Fault) → walk_from (judge_for job file) more (suc k) (next_start_of h) file ≡ rest → followed_by h rest ≡ Err x →
          IsByteOf file x.kind p
      by_rest h later next (Err y) walk is =
          let same : y ≡ x = cc in
          later next (walk ∙ ap Err same)
      by_rest h later next (Ok hs) walk is = absurd cc

      by_last : (h : Header) → hdu_at k start file ≡ Ok h → Later more k h → (last : Bool) → (next_start_of h == length file) ≡ last →
          (if last then Ok (h ∷ []) else followed_by h (walk_from (judge_for job file) more (suc k) (next_start_of h) file)) ≡ Err x → IsByteOf file x.kind p
      by_last h found later true ends is = absurd cc
      by_last h found later false ends is = by_rest h later (next_starts k start h found ends) (walk_from (judge_for job file) more (suc k) (next_start_of h) file) refl is

      by_judge : (h : Header) → hdu_at k start file ≡ Ok h → Later more k h → (says : Result Bool Fault) → judge_for job file h ≡ says →
          by_judgement file h (walk_from (judge_for job file) more (suc k) (next_start_of h) file) says ≡ Err x → IsByteOf file x.kind p
      by_judge h found later (Err y) says is =
          let same : y ≡ x = cc in
          at_byte file k start x p at (judge_lies find count job k start file h x found (says ∙ ap Err same)) starts
      by_judge h found later (Ok true) says is = absurd cc
      by_judge h found later (Ok false) says is = by_last h found later (next_start_of h == length file) refl is

      by_here : ((h : Header) → Later more k h) → (r : Result Header Fault) → hdu_at k start file ≡ r →
          judged file (judge_for job file) (λ h. walk_from (judge_for job file) more (suc k) (next_start_of h) file) r ≡ Err x → IsByteOf file x.kind p
      by_here later (Err y) found is =
          let same : y ≡ x = cc in
          at_byte file k start x p at (hdu_lies file k start x (found ∙ ap Err same)) starts
      by_here later (Ok h) found is = by_judge h found (later h) (judge_for job file h) refl is

  -- the HDU that a part is cut from is not in the file
  missing_byte : (wanted : Option ℕ) (judge : Judge) (hs : List Header) → missing_of wanted judge file hs ≡ Some x → IsByteOf file x.kind p
  missing_byte wanted judge hs e = by_stop (stops judge hs) e
    where
      by_stop : (stop : Bool) → (if stop then None else Some (missing_hdu wanted (length hs) (length file))) ≡ Some x → IsByteOf file x.kind p
      by_stop true e = absurd cc
      by_stop false e =
          let same : missing_hdu wanted (length hs) (length file) ≡ x = cc in
          let place : Byte (length file) ≡ Byte p = ap (λ (y : Fault). y.at) same ∙ at in
          let byte : length file ≡ p = cc in
          subst (λ n. IsByteOf file x.kind n) byte (subst (λ kind. IsByteOf file kind (length file)) (ap (λ (y : Fault). y.kind) same) (is_no_hdu file))

  by_walk : (most : ℕ) → 0 < most → (found : Result (List Header) Fault) → walk_of (judge_for job file) most file ≡ found → (ends : (hs : List Header) → cut_end_fault job file hs ≡ Some x → IsByteOf file x.kind p) →
      fault_of_walk job file found ≡ Some x → IsByteOf file x.kind p
  by_walk most some (Err y) is ends e =
      let same : y ≡ x = cc in
      byte_from most 0 0 (omega (arith, some)) (λ none. absurd (omega (arith, none))) (is ∙ ap Err same)
  by_walk most some (Ok hs) is ends e = ends hs e

no_cut_end : {A : Type 0} (x : Fault) → None ≡ Some x → A
no_cut_end x e = absurd cc

some_hdus : 0 < 65536
some_hdus = omega arith

most_hdus : 0 < 65535
most_hdus = omega arith

pub byte_lies : HduIsFound → BlocksAreFound → (job : Job) (file : List ℕ) (x : Fault) (p : ℕ) → x.at ≡ Byte p → header_fault job file ≡ Some x → IsByteOf file x.kind p
unfolding job_walk
byte_lies find count (Pack o) file x p at e = by_walk find count (Pack o) file x p at 65535 most_hdus (job_walk (Pack o) file) refl (λ hs none. no_cut_end x none) e
byte_lies find count Unpack file x p at e = by_walk find count Unpack file x p at 65536 some_hdus (job_walk Unpack file) refl (λ hs none. no_cut_end x none) e
byte_lies find count (Cut wanted sieve) file x p at e =
    by_walk find count (Cut wanted sieve) file x p at 65536 some_hdus (job_walk (Cut wanted sieve) file) refl
    (λ hs missing. missing_byte find count (Cut wanted sieve) file x p at wanted (cut_judge wanted (box_of sieve) file) hs missing) e
byte_lies find count Verify file x p at e = by_walk find count Verify file x p at 65536 some_hdus (job_walk Verify file) refl (λ hs none. no_cut_end x none) e
byte_lies find count ListHdus file x p at e = by_walk find count ListHdus file x p at 65536 some_hdus (job_walk ListHdus file) refl (λ hs none. no_cut_end x none) e
byte_lies find count (Drill rows) file x p at e = no_cut_end x e
byte_lies find count (Retile o) file x p at e = by_walk find count (Retile o) file x p at 65536 some_hdus (job_walk (Retile o) file) refl (λ hs none. no_cut_end x none) e

-- ---- cards, and no rows

no_byte_is_card : (i p : ℕ) → Byte p ≡ Card i → ⊥
no_byte_is_card i p e = absurd cc

no_byte_is_row : (r p : ℕ) → Byte p ≡ AtRow r → ⊥
no_byte_is_row r p e = absurd cc

rejected_lies : HduIsFound → BlocksAreFound → (job : Job) (file : List ℕ) (r : Reached) (x : Fault) → IsRejectedAt (judge_for job file) file r x → Lies file r.hdu r.start x.kind x.at
rejected_lies find count job file r x (inl e) = hdu_lies file r.hdu r.start x e
rejected_lies find count job file r x (inr (h, found, says)) = judge_lies find count job r.hdu r.start file h x found says

-- the place is one of the last HDU that is reached
record LiesLast (job : Job) (file : List ℕ) (x : Fault) (place : Place) : Type 0 where
  before : List Reached
  last : Reached
  ends : reached_by job file ≡ before ++ last ∷ []
  hdu : x.hdu ≡ last.hdu
  lies : Lies file last.hdu last.start x.kind place

module _ (find : HduIsFound) (count : BlocksAreFound) (file : List ℕ) (x : Fault) (place : Place) (at : x.at ≡ place) (no_byte : (p : ℕ) → Byte p ≡ place → ⊥) where
  cut_ends_at_byte : (job : Job) (hs : List Header) → cut_end_fault job file hs ≡ Some x → ⊥
  cut_ends_at_byte (Pack o) hs e = no_cut_end x e
  cut_ends_at_byte Unpack hs e = no_cut_end x e
  cut_ends_at_byte (Cut wanted sieve) hs e = by_stop (stops (cut_judge wanted (box_of sieve) file) hs) e
    where
      by_stop : (stop : Bool) → (if stop then None else Some (missing_hdu wanted (length hs) (length file))) ≡ Some x → ⊥
      by_stop true e = absurd cc
      by_stop false e =
          let same : missing_hdu wanted (length hs) (length file) ≡ x = cc in
          no_byte (length file) (ap (λ (y : Fault). y.at) same ∙ at)
  cut_ends_at_byte Verify hs e = no_cut_end x e
  cut_ends_at_byte ListHdus hs e = no_cut_end x e
  cut_ends_at_byte (Drill rows) hs e = no_cut_end x e
  cut_ends_at_byte (Retile o) hs e = no_cut_end x e

  lies_last : (job : Job) → EndsAtTheFault job file x ⊎ (EndsAtTheLimit job file x ⊎ EndsWithTheFile job file x) → LiesLast job file x place
  lies_last job (inl s) = record {
    before = s.before;
    last = s.last;
    ends = s.ends;
    hdu = s.hdu;
    lies = subst (Lies file s.last.hdu s.last.start x.kind) at (rejected_lies find count job file s.last x s.rejected);
  }
  lies_last job (inr (inl s)) = absurd (no_byte (next_start_of s.header) (sym (ap (λ (y : Fault). y.at) s.fault) ∙ at))
  lies_last job (inr (inr s)) = absurd (cut_ends_at_byte job s.found s.missing)

pub card_lies : HduIsFound → BlocksAreFound → WalksEndAtTheFault → (job : Job) (file : List ℕ) (x : Fault) (i : ℕ) → x.at ≡ Card i → header_fault job file ≡ Some x → CardLies job file x i
card_lies find count ends job file x i at e =
    let there = lies_last find count file x (Card i) at (no_byte_is_card i) job (ends job file x e) in
    let lies = there.lies in
    record { before = there.before; last = there.last; ends = there.ends; hdu = there.hdu; within = lies.0; header = lies.1 }

-- no check of a header names a row
pub no_row : HduIsFound → BlocksAreFound → WalksEndAtTheFault → (job : Job) (file : List ℕ) (x : Fault) (r : ℕ) → x.at ≡ AtRow r → header_fault job file ≡ Some x → ⊥
no_row find count ends job file x r at e = (lies_last find count file x (AtRow r) at (no_byte_is_row r) job (ends job file x e)).lies
