-- Walks over all HDUs of two files that are alike up to the last HDU of each.
use Rattle.std.specs.Prelude.{⊤}
use Rattle.std.proofs.Common.{◌≡◌, ◌⊎◌, inl, inr, ℕ, zero, suc, ◌+◌, ◌*◌, ◌/◌, ◌<◌, ◌≤◌, ◌==◌, ◌||◌, Bool, true, false, List, [], ◌∷◌, ◌++◌, length, Option, Some, None, Result, Ok, Err, if◌then◌else◌, refl, sym, ap, ◌∙◌, subst, arith, eqb-true, eq-eqb}
use Rattle.fz_base.specs.declared.fault.Fault.{Fault}
use Rattle.fz_block.specs.Checks.{Judge, hdu_at, unjudged, unless_refused, walk_from}
use Rattle.fz_block.specs.Header.{data_start_of, next_start_of, whole_blocks_of}
use Rattle.fz_block.specs.Walk.{hdu_of, is_stop, stops}
use Rattle.fz_block.specs.declared.header.Header.{Header}
use Rattle.fz_files.specs.Walks.{last_of}
use Rattle.fz_laws.specs.PatchTaken.{HduLaws}
use Rattle.fz_laws.proofs.AlikeWalks.{Ended, Stopped, Went, last_later, no_walk, same_here, same_last, starts_before, step}
use Rattle.fz_laws.proofs.Walked.{ends_with, goes_on}

-- What is known of the two files, and of what two jobs say of their HDUs, that stop at none.
pub record EndAlike (file new : List ℕ) (h now : Header) (judge other : Judge) : Type 0 where
  pub some : h.start < next_start_of h
  pub ends : next_start_of h ≡ length file
  pub long : length file ≤ length new
  pub before : (k start : ℕ) (e : Header) → hdu_at k start file ≡ Ok e → next_start_of e ≤ h.start → hdu_at k start new ≡ Ok e
  pub judged_alike : (k start : ℕ) (e : Header) → hdu_at k start file ≡ Ok e → next_start_of e ≤ h.start → judge e ≡ Ok false → other e ≡ Ok false
  pub there : hdu_at h.hdu h.start new ≡ Ok now
  pub says : other now ≡ Ok false
  pub end_now : next_start_of now ≡ length new

-- headers of HDUs before this byte, each at its place in the file, that a job passes over
abbrev pub AreEarlier : List ℕ → Judge → ℕ → List Header → Type 0
AreEarlier file judge end [] = ⊤
AreEarlier file judge end (e ∷ es) = (hdu_at e.hdu e.start file ≡ Ok e) × (next_start_of e ≤ end) × (judge e ≡ Ok false) × AreEarlier file judge end es

-- The walk over the second file; both find the same headers before the last.
pub record EndsAlike (more k start : ℕ) (file new : List ℕ) (h now : Header) (judge other : Judge) (ks : List Header) : Type 0 where
  pub found : List Header
  pub walk : walk_from other more k start new ≡ Ok found
  pub last : last_of found ≡ now ∷ []
  pub front : List Header
  pub olds : ks ≡ front ++ h ∷ []
  pub news : found ≡ front ++ now ∷ []
  pub earlier : AreEarlier file judge h.start front

module _ (laws : HduLaws) (file new : List ℕ) (h now : Header) (judge other : Judge) (never : (e : Header) → is_stop (judge e) ≡ false) (alike : EndAlike file new h now judge other) where
  no_stop : (e : Header) → judge e ≡ Ok true → ⊥
  no_stop e is = let no : true ≡ false = sym (ap is_stop is) ∙ never e in cc

  not_end : (e : Header) → next_start_of e ≤ h.start → (next_start_of e == length new) ≡ false
  not_end e before = by_test (next_start_of e == length new) refl
    where
      by_test : (b : Bool) → (next_start_of e == length new) ≡ b → b ≡ false
      by_test false is = refl
      by_test true is =
          let same : next_start_of e ≡ length new = eqb-true (next_start_of e) (length new) is in
          let ends = alike.ends in
          let long = alike.long in
          let some = alike.some in
          absurd (omega arith)

  pub end_alike : (more k start : ℕ) (hs ks : List Header) → walk_from unjudged more k start file ≡ Ok hs → last_of hs ≡ h ∷ [] → walk_from judge more k start file ≡ Ok ks →
      EndsAlike more k start file new h now judge other ks
  end_alike zero k start hs ks e last walk = absurd (no_walk unjudged k start file hs e)
  end_alike (suc more) k start hs ks e last walk = by_all (λ j from hs ks. end_alike more j from hs ks) (step unjudged more k start file hs e)
    where
      Goal : Type 0
      Goal = EndsAlike (suc more) k start file new h now judge other ks

      Again : Type 0
      Again = (j from : ℕ) (hs ks : List Header) → walk_from unjudged more j from file ≡ Ok hs → last_of hs ≡ h ∷ [] → walk_from judge more j from file ≡ Ok ks →
          EndsAlike more j from file new h now judge other ks

      at_last : hdu_at k start file ≡ Ok h → Stopped judge k start file ks ⊎ (Ended judge k start file ks ⊎ Went judge more k start file ks) → Goal
      at_last found (inl s) = absurd (no_stop s.here s.says)
      at_last found (inr (inl s)) =
          let same : s.here ≡ h = same_here h s.here (hdu_at k start file) found s.found in
          let facts = laws.facts k start file h found in
          let there : hdu_at k start new ≡ Ok now = (λ j. hdu_at (sym facts.0 j) (sym facts.1 j) new) ∙ alike.there in
          record {
            found = now ∷ [];
            walk = ends_with other more k start new now there alike.says (eq-eqb (next_start_of now) (length new) alike.end_now);
            last = refl;
            front = [];
            olds = s.all ∙ ap (λ x. x ∷ []) same;
            news = refl;
            earlier = tt;
          }
      at_last found (inr (inr s)) =
          let same : s.here ≡ h = same_here h s.here (hdu_at k start file) found s.found in
          let next : (next_start_of h == length file) ≡ false = sym (ap (λ (x : Header). next_start_of x == length file) same) ∙ s.next in
          let end : (next_start_of h == length file) ≡ true = eq-eqb (next_start_of h) (length file) alike.ends in
          absurd cc

      earlier : Again → (e : Header) → hdu_at k start file ≡ Ok e → (next_start_of e == length file) ≡ false → next_start_of e ≤ h.start →
          (rest : List Header) → walk_from unjudged more (suc k) (next_start_of e) file ≡ Ok rest → last_of rest ≡ h ∷ [] →
          Stopped judge k start file ks ⊎ (Ended judge k start file ks ⊎ Went judge more k start file ks) → Goal
      earlier again e found next before rest walk_rest last_rest (inl s) = absurd (no_stop s.here s.says)
      earlier again e found next before rest walk_rest last_rest (inr (inl s)) =
          let same : s.here ≡ e = same_here e s.here (hdu_at k start file) found s.found in
          let end : (next_start_of e == length file) ≡ true = sym (ap (λ (x : Header). next_start_of x == length file) same) ∙ s.last in
          absurd cc
      earlier again e found next before rest walk_rest last_rest (inr (inr s)) =
          let same : s.here ≡ e = same_here e s.here (hdu_at k start file) found s.found in
          let verdict : judge e ≡ Ok false = sym (ap judge same) ∙ s.says in
          let says : other e ≡ Ok false = alike.judged_alike k start e found before verdict in
          let facts = laws.facts k start file e found in
          let walk_on : walk_from judge more (suc k) (next_start_of e) file ≡ Ok s.rest = ap (λ (x : Header). walk_from judge more (suc k) (next_start_of x) file) (sym same) ∙ s.walk in
          let on : EndsAlike more (suc k) (next_start_of e) file new h now judge other s.rest = again (suc k) (next_start_of e) rest s.rest walk_rest last_rest walk_on in
          record {
            found = e ∷ on.found;
            walk = goes_on other more k start new e (Ok on.found) (alike.before k start e found before) says (not_end e before) on.walk;
            last = last_later now e other more (suc k) (next_start_of e) new on.found on.walk ∙ on.last;
            front = e ∷ on.front;
            olds = s.all ∙ (λ j. same j ∷ on.olds j);
            news = ap (λ l. e ∷ l) on.news;
            earlier = ((λ j. hdu_at (facts.0 j) (facts.1 j) file) ∙ found, before, verdict, on.earlier);
          }

      by_all : Again → Stopped unjudged k start file hs ⊎ (Ended unjudged k start file hs ⊎ Went unjudged more k start file hs) → Goal
      by_all again (inl s) = let says = s.says in absurd cc
      by_all again (inr (inl s)) =
          let same : s.here ≡ h = same_last h s.here (sym (ap last_of s.all) ∙ last) in
          at_last (s.found ∙ ap Ok same) (step judge more k start file ks walk)
      by_all again (inr (inr s)) =
          let later : last_of s.rest ≡ h ∷ [] = sym (last_later h s.here unjudged more (suc k) (next_start_of s.here) file s.rest s.walk) ∙ (sym (ap last_of s.all) ∙ last) in
          let low : next_start_of s.here ≤ h.start = starts_before laws file h more (suc k) (next_start_of s.here) s.rest s.walk later in
          earlier again s.here s.found s.next low s.rest s.walk later (step judge more k start file ks walk)
