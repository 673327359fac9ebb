-- Which HDU of a packed file a cut stops at, by the HDUs of the file that was packed.
use Rattle.std.specs.Prelude.{⊤}
use Rattle.std.proofs.Common.{◌≡◌, ℕ, zero, suc, ◌+◌, ◌==◌, ◌<◌, ◌&&◌, ◌||◌, Bool, true, false, true≢false, cond, List, [], ◌∷◌, ◌++◌, length, Option, Some, None, Result, Ok, Err, if◌then◌else◌, refl, sym, subst, ◌∙◌, ap, arith}
use Rattle.std.specs.List.{find}
use Rattle.fz_base.specs.Refusal.{first_refusal}
use Rattle.fz_base.specs.declared.fault.Fault.{Fault}
use Rattle.fz_block.specs.Checks.{Judge, by_judgement, followed_by, hdu_at, judged, unjudged, unless_refused, walk_from}
use Rattle.fz_block.specs.Facts.{facts_of}
use Rattle.fz_block.specs.Hdus.{Hdu, cards_of}
use Rattle.fz_block.specs.Header.{next_start_of}
use Rattle.fz_block.specs.Walk.{hdu_of, is_stop, stops}
use Rattle.fz_block.specs.declared.header.Header.{Header}
use Rattle.fz_head.specs.Accepted.{IsAccepted}
use Rattle.fz_checks.specs.JobChecks.{cut_hdu_checks}
use Rattle.fz_checks.specs.Judges.{cut_judge, is_wanted}
use Rattle.fz_head.specs.Packable.{is_packable}
use Rattle.fz_head.specs.PlainHeader.{was_primary}
use Rattle.fz_grid.specs.declared.sieve.Sieve.{Sieve}
use Rattle.fz_head.specs.Planned.{pack_plan_of}
use Rattle.fz_head.specs.declared.options.PackOptions.{PackOptions}
use Rattle.fz_files.specs.Laws.{IsTableOf, TablesAreAccepted, table_hdu, totals_from}
use Rattle.fz_files.specs.Restored.{header_in, is_image, is_packed_primary, standing}
use Rattle.fz_files.specs.Walks.{box_of}
use Rattle.fz_laws.specs.PackedHdus.{Become, Becomes, BecomesAs}
use Rattle.fz_laws.specs.PackedCuts.{is_asked}
use Rattle.fz_laws.proofs.OutputHdus.{IsIn}
use Rattle.fz_laws.proofs.RestoredFile.{AreIn}

-- ---- a walk, by the list of all headers

abbrev pub verdict_after : Header → Result (List Header) Fault → Result Bool Fault → Result (List Header) Fault
verdict_after h rest (Err fault) = Err fault
verdict_after h rest (Ok true) = Ok (h ∷ [])
verdict_after h rest (Ok false) = followed_by h rest

abbrev pub verdict : Judge → List Header → Result (List Header) Fault
verdict judge [] = Ok []
verdict judge (h ∷ hs) = verdict_after h (verdict judge hs) (judge h)

follows : (h : Header) (found : Result (List Header) Fault) (hs : List Header) → followed_by h found ≡ Ok hs → (rest : List Header) × (found ≡ Ok rest) × (h ∷ rest ≡ hs)
follows h (Ok rest) hs e = let same : h ∷ rest ≡ hs = cc in (rest, refl, same)
follows h (Err fault) hs e = absurd cc

pub walk_is : (judge : Judge) (most k start : ℕ) (file : List ℕ) (hs : List Header) → walk_from unjudged most k start file ≡ Ok hs → walk_from judge most k start file ≡ verdict judge hs
unfolding walk_from
walk_is judge zero k start file hs e = absurd cc
walk_is judge (suc more) k start file hs e = by_found (hdu_at k start file) e (λ from rest. walk_is judge more (suc k) from file rest)
  where
    last : (h : Header) → (next_start_of h == length file) ≡ true → (r : Result Bool Fault) → by_judgement file h (walk_from judge more (suc k) (next_start_of h) file) r ≡ verdict_after h (Ok []) r
    last h end (Err fault) = refl
    last h end (Ok true) = refl
    last h end (Ok false) = ap (λ b. if b then Ok (h ∷ []) else followed_by h (walk_from judge more (suc k) (next_start_of h) file)) end

    next : (h : Header) (rest : List Header) → (next_start_of h == length file) ≡ false → walk_from judge more (suc k) (next_start_of h) file ≡ verdict judge rest → (r : Result Bool Fault) →
        by_judgement file h (walk_from judge more (suc k) (next_start_of h) file) r ≡ verdict_after h (verdict judge rest) r
    next h rest end same (Err fault) = refl
    next h rest end same (Ok true) = refl
    next h rest end same (Ok false) = ap (λ b. if b then Ok (h ∷ []) else followed_by h (walk_from judge more (suc k) (next_start_of h) file)) end ∙ ap (followed_by h) same

    by_end : (h : Header) (b : Bool) → (next_start_of h == length file) ≡ b → (if b then Ok (h ∷ []) else followed_by h (walk_from unjudged more (suc k) (next_start_of h) file)) ≡ Ok hs →
        ((from : ℕ) (rest : List Header) → walk_from unjudged more (suc k) from file ≡ Ok rest → walk_from judge more (suc k) from file ≡ verdict judge rest) →
        by_judgement file h (walk_from judge more (suc k) (next_start_of h) file) (judge h) ≡ verdict judge hs
    by_end h true end e later = let same : h ∷ [] ≡ hs = cc in last h end (judge h) ∙ ap (verdict judge) same
    by_end h false end e later =
        let rest = follows h (walk_from unjudged more (suc k) (next_start_of h) file) hs e in
        next h rest.0 end (later (next_start_of h) rest.0 rest.1) (judge h) ∙ ap (verdict judge) rest.2

    by_found : (found : Result Header Fault) → judged file unjudged (λ h. walk_from unjudged more (suc k) (next_start_of h) file) found ≡ Ok hs →
        ((from : ℕ) (rest : List Header) → walk_from unjudged more (suc k) from file ≡ Ok rest → walk_from judge more (suc k) from file ≡ verdict judge rest) →
        judged file judge (λ h. walk_from judge more (suc k) (next_start_of h) file) found ≡ verdict judge hs
    by_found (Err fault) e later = absurd cc
    by_found (Ok h) e later = by_end h (next_start_of h == length file) refl e later

-- ---- an HDU and what becomes of it

-- the table of an image is accepted
pub accepted_of : TablesAreAccepted → (o : PackOptions) (source : List ℕ) (from : Header) (file : List ℕ) (h : Header) → IsTableOf o source from file h →
    IsAccepted (pack_plan_of o from) (totals_from o source from) (header_in file h) h
accepted_of law o source from file h table = by_number h.hdu refl table.behind
  where
    by_number : (n : ℕ) → h.hdu ≡ n → 0 < n → IsAccepted (pack_plan_of o from) (totals_from o source from) (header_in file h) h
    by_number zero same behind = absurd (omega (arith, behind))
    by_number (suc k) same behind =
        let facts : h ≡ facts_of (suc k) h.start (table_hdu o source from).header =
        table.facts ∙ ap (λ n. facts_of n h.start (hdu_of file h).header) same ∙ ap (λ (d : Hdu). facts_of (suc k) h.start d.header) table.table in
        subst (λ f. IsAccepted (pack_plan_of o from) (totals_from o source from) (header_in file h) f) (sym facts)
        (subst (λ (d : Hdu). IsAccepted (pack_plan_of o from) (totals_from o source from) d.header (facts_of (suc k) h.start (table_hdu o source from).header)) (sym table.table)
        (law o source from k h.start table.taken))

-- an HDU is a packed image exactly if it becomes of an image that can be packed
pub packed_as : TablesAreAccepted → (o : PackOptions) (file : List ℕ) (from : Header) (g : List ℕ) (h : Header) → Becomes o file from g h → is_image g h ≡ is_packable from
packed_as tables o file from g h become = by_test (is_packable from) become
  where
    by_test : (b : Bool) → BecomesAs b o file from g h → is_image g h ≡ b
    by_test true table = (accepted_of tables o file from g h table).packed
    by_test false copy = copy.plain

pub wanted_as : TablesAreAccepted → (o : PackOptions) (file : List ℕ) (from : Header) (g : List ℕ) (h : Header) (wanted : Option ℕ) (by : ℕ) → Becomes o file from g h → h.hdu ≡ from.hdu + by →
    is_wanted wanted (header_in g h) h ≡ is_asked wanted by from
wanted_as tables o file from g h None by become number = packed_as tables o file from g h become
wanted_as tables o file from g h (Some k) by become number = ap (λ n. n == k) number

-- ---- the HDUs, one after another

-- they are numbered from this number on
abbrev pub AreNumbered : ℕ → List Header → Type 0
AreNumbered k [] = ⊤
AreNumbered k (h ∷ hs) = (h.hdu ≡ k) × AreNumbered (suc k) hs

-- a walk that ends with an HDU, or is refused there
abbrev pub ends_with : List Header → Header → Option Fault → Result (List Header) Fault
ends_with front h None = Ok (front ++ h ∷ [])
ends_with front h (Some fault) = Err fault

follow_ends : (t : Header) (front : List Header) (h : Header) (r : Option Fault) → followed_by t (ends_with front h r) ≡ ends_with (t ∷ front) h r
follow_ends t front h None = refl
follow_ends t front h (Some fault) = refl

end_here : (h : Header) (rest : Result (List Header) Fault) (r : Option Fault) → verdict_after h rest (unless_refused true r) ≡ ends_with [] h r
end_here h rest None = refl
end_here h rest (Some fault) = refl

module _ (tables : TablesAreAccepted) (o : PackOptions) (file g : List ℕ) (wanted : Option ℕ) (sieve : Sieve) (by : ℕ) where
  abbrev pub K : Judge
  K = cut_judge wanted (box_of sieve) g

  abbrev pub refusal_in : Header → Option Fault
  refusal_in h = first_refusal (cut_hdu_checks g (box_of sieve) h)

  abbrev answer_if : Header → Bool → Result Bool Fault
  answer_if h b = if b then unless_refused true (refusal_in h) else Ok false

  -- a cut stops at what became of an HDU
  pub record Meets (from : Header) (ts : List Header) : Type 0 where
    pub h : Header
    pub become : Becomes o file from g h
    pub is : IsIn g (from.hdu + by) h
    pub wanted_is : is_wanted wanted (header_in g h) h ≡ true
    pub front : List Header
    pub ends : verdict K ts ≡ ends_with front h (refusal_in h)

  abbrev pub Scanned : Option Header → List Header → Type 0
  Scanned None ts = (verdict K ts ≡ Ok ts) × (stops K ts ≡ false)
  Scanned (Some from) ts = Meets from ts

  pub passed_over : (h : Header) (ts : List Header) (found : Option Header) → is_wanted wanted (header_in g h) h ≡ false → Scanned found ts → Scanned found (h ∷ ts)
  passed_over h ts None other rest = (
    ap (λ b. verdict_after h (verdict K ts) (answer_if h b)) other ∙ ap (followed_by h) rest.0,
    ap (λ b. is_stop (answer_if h b) || stops K ts) other ∙ rest.1,
  )
  passed_over h ts (Some from) other rest = record {
    h = rest.h;
    become = rest.become;
    is = rest.is;
    wanted_is = rest.wanted_is;
    front = h ∷ rest.front;
    ends = ap (λ b. verdict_after h (verdict K ts) (answer_if h b)) other ∙ ap (followed_by h) rest.ends ∙ follow_ends h rest.front rest.h (refusal_in rest.h);
  }

  pub scan : (k : ℕ) (fs ts : List Header) → AreNumbered k fs → AreIn g (k + by) ts → Become o file fs g ts → Scanned (find (is_asked wanted by) fs) ts
  scan k [] [] numbered are become = (refl, refl)
  scan k [] (t ∷ ts) numbered are become = absurd become
  scan k (from ∷ fs) [] numbered are become = absurd become
  scan k (from ∷ fs) (h ∷ ts) numbered are become =
      let next : suc (k + by) ≡ suc k + by = omega arith in
      let place : k + by ≡ from.hdu + by = omega (arith, numbered.0) in
      let is : IsIn g (from.hdu + by) h = subst (λ n. IsIn g n h) place are.0 in
      let later : Scanned (find (is_asked wanted by) fs) ts = scan (suc k) fs ts numbered.1 (subst (λ n. AreIn g n ts) next are.1) become.1 in
      by_test (is_asked wanted by from) is (wanted_as tables o file from g h wanted by become.0 is.number) become.0 later
    where
      by_test : (b : Bool) → IsIn g (from.hdu + by) h → is_wanted wanted (header_in g h) h ≡ b → Becomes o file from g h → Scanned (find (is_asked wanted by) fs) ts →
          Scanned (cond b (Some from) (find (is_asked wanted by) fs)) (h ∷ ts)
      by_test true is here become later = record {
        h = h;
        become = become;
        is = is;
        wanted_is = here;
        front = [];
        ends = ap (λ b. verdict_after h (verdict K ts) (answer_if h b)) here ∙ end_here h (verdict K ts) (refusal_in h);
      }
      by_test false is here become later = passed_over h ts (find (is_asked wanted by) fs) here later

-- ---- the empty primary before a packed one

module _ (o : PackOptions) (file g : List ℕ) where
  -- it is HDU 0, and what becomes of the HDUs of the file follows
  pub record IsRaised (fs hs : List Header) : Type 0 where
    pub empty : Header
    pub later : List Header
    pub all : hs ≡ empty ∷ later
    pub is : IsIn g 0 empty
    pub are : AreIn g 1 later
    pub become : Become o file fs g later

  -- all HDUs became of those of the file
  pub record IsLevel (fs hs : List Header) : Type 0 where
    pub are : AreIn g 0 hs
    pub become : Become o file fs g hs

  abbrev pub ShapedAs : Bool → List Header → List Header → Type 0
  ShapedAs true fs hs = IsRaised fs hs
  ShapedAs false fs hs = IsLevel fs hs

  both_true : (a b : Bool) → (a && b) ≡ true → a ≡ true
  both_true true b e = refl
  both_true false b e = absurd cc

  level : (from : Header) (fs : List Header) (h : Header) (hs : List Header) → AreIn g 0 (h ∷ hs) → (b : Bool) → BecomesAs b o file from g h → Become o file (from ∷ fs) g (h ∷ hs) → ShapedAs b (from ∷ fs) (h ∷ hs)
  level from fs h hs are true table become = let behind : 0 < h.hdu = table.behind in absurd (omega (arith, behind, are.0.number))
  level from fs h hs are false copy become = record { are = are; become = become }

  higher : (from : Header) (fs : List Header) (h k : Header) (hs : List Header) → AreIn g 0 (h ∷ (k ∷ hs)) → is_image g k ≡ true → (b : Bool) → BecomesAs b o file from g k → Become o file (from ∷ fs) g (k ∷ hs) →
      ShapedAs b (from ∷ fs) (h ∷ (k ∷ hs))
  higher from fs h k hs are packed true table become = record { empty = h; later = k ∷ hs; all = refl; is = are.0; are = are.1; become = become }
  higher from fs h k hs are packed false copy become = absurd (true≢false (sym packed ∙ copy.plain))

  pub shaped : (from : Header) (fs hs : List Header) → AreIn g 0 hs → Become o file (from ∷ fs) g (standing g hs) → ShapedAs (is_packable from) (from ∷ fs) hs
  shaped from fs [] are become = absurd become
  shaped from fs (h ∷ []) are become = level from fs h [] are (is_packable from) become.0 become
  shaped from fs (h ∷ (k ∷ hs)) are become = by_test (is_packed_primary g k) refl become
    where
      by_test : (b : Bool) → is_packed_primary g k ≡ b → Become o file (from ∷ fs) g (if b then k ∷ hs else h ∷ k ∷ hs) → ShapedAs (is_packable from) (from ∷ fs) (h ∷ (k ∷ hs))
      by_test true primary become = higher from fs h k hs are (both_true (is_image g k) (was_primary (cards_of (header_in g k))) primary) (is_packable from) become.0 become
      by_test false other become = level from fs h (k ∷ hs) are (is_packable from) become.0 become
