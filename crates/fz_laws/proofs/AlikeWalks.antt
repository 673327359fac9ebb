-- Walks over two files that are alike up to an HDU, which is the last of the first file.
use Rattle.std.proofs.Common.{◌≡◌, ◌⊎◌, inl, inr, ℕ, zero, suc, ◌+◌, ◌*◌, ◌/◌, ◌<◌, ◌≤◌, ◌==◌, ◌||◌, Bool, true, false, List, [], ◌∷◌, ◌++◌, length, Result, Ok, Err, if◌then◌else◌, refl, sym, ap, ◌∙◌, subst, arith, eqb-true, eq-eqb}
use Rattle.fz_base.specs.declared.fault.Fault.{Fault}
use Rattle.fz_block.specs.Checks.{Judge, by_judgement, followed_by, hdu_at, judged, unjudged, walk_from}
use Rattle.fz_block.specs.Header.{data_start_of, next_start_of, whole_blocks_of}
use Rattle.fz_block.specs.Walk.{hdu_of, is_stop, stops}
use Rattle.fz_block.specs.declared.header.Header.{Header}
use Rattle.fz_files.specs.Walks.{last_of}
use Rattle.fz_laws.specs.PatchTaken.{HduLaws}
use Rattle.fz_laws.proofs.AlikeFiles.{header_length, some_blocks}
use Rattle.fz_laws.proofs.Walked.{goes_on, stops_at}

-- ---- one step of a walk

pub record Stopped (judge : Judge) (k start : ℕ) (file : List ℕ) (hs : List Header) : Type 0 where
  pub here : Header
  pub found : hdu_at k start file ≡ Ok here
  pub says : judge here ≡ Ok true
  pub all : hs ≡ here ∷ []

pub record Ended (judge : Judge) (k start : ℕ) (file : List ℕ) (hs : List Header) : Type 0 where
  pub here : Header
  pub found : hdu_at k start file ≡ Ok here
  pub says : judge here ≡ Ok false
  pub last : (next_start_of here == length file) ≡ true
  pub all : hs ≡ here ∷ []

pub record Went (judge : Judge) (more k start : ℕ) (file : List ℕ) (hs : List Header) : Type 0 where
  pub here : Header
  pub found : hdu_at k start file ≡ Ok here
  pub says : judge here ≡ Ok false
  pub next : (next_start_of here == length file) ≡ false
  pub rest : List Header
  pub walk : walk_from judge more (suc k) (next_start_of here) file ≡ Ok rest
  pub all : hs ≡ here ∷ rest

pub no_walk : (judge : Judge) (k start : ℕ) (file : List ℕ) (hs : List Header) → walk_from judge 0 k start file ≡ Ok hs → ⊥
unfolding walk_from
no_walk judge k start file hs e = absurd cc

pub step : (judge : Judge) (more k start : ℕ) (file : List ℕ) (hs : List Header) → walk_from judge (suc more) k start file ≡ Ok hs →
    Stopped judge k start file hs ⊎ (Ended judge k start file hs ⊎ Went judge more k start file hs)
unfolding walk_from
step judge more k start file hs e = by_header (hdu_at k start file) refl e
  where
    Steps : Type 0
    Steps = Stopped judge k start file hs ⊎ (Ended judge k start file hs ⊎ Went judge more k start file hs)

    by_rest : (h : Header) (r : Result (List Header) Fault) → hdu_at k start file ≡ Ok h → judge h ≡ Ok false → (next_start_of h == length file) ≡ false →
        walk_from judge more (suc k) (next_start_of h) file ≡ r → followed_by h r ≡ Ok hs → Steps
    by_rest h (Err x) found says next walk is = absurd cc
    by_rest h (Ok rest) found says next walk is =
        let same : hs ≡ h ∷ rest = cc in inr (inr (record { here = h; found = found; says = says; next = next; rest = rest; walk = walk; all = same }))

    by_end : (h : Header) (b : Bool) → hdu_at k start file ≡ Ok h → judge h ≡ Ok false → (next_start_of h == length file) ≡ b →
        (if b then Ok (h ∷ []) else followed_by h (walk_from judge more (suc k) (next_start_of h) file)) ≡ Ok hs → Steps
    by_end h true found says last is = let same : hs ≡ h ∷ [] = cc in inr (inl (record { here = h; found = found; says = says; last = last; all = same }))
    by_end h false found says next is = by_rest h (walk_from judge more (suc k) (next_start_of h) file) found says next refl is

    by_verdict : (h : Header) (v : Result Bool Fault) → hdu_at k start file ≡ Ok h → judge h ≡ v → by_judgement file h (walk_from judge more (suc k) (next_start_of h) file) v ≡ Ok hs → Steps
    by_verdict h (Err x) found says is = absurd cc
    by_verdict h (Ok true) found says is = let same : hs ≡ h ∷ [] = cc in inl (record { here = h; found = found; says = says; all = same })
    by_verdict h (Ok false) found says is = by_end h (next_start_of h == length file) found says refl is

    by_header : (r : Result Header Fault) → hdu_at k start file ≡ r → judged file judge (λ h. walk_from judge more (suc k) (next_start_of h) file) r ≡ Ok hs → Steps
    by_header (Err x) found is = absurd cc
    by_header (Ok h) found is = by_verdict h (judge h) found refl is

no_empty : (judge : Judge) (more k start : ℕ) (file : List ℕ) → walk_from judge more k start file ≡ Ok [] → ⊥
no_empty judge zero k start file e = no_walk judge k start file [] e
no_empty judge (suc more) k start file e = by_step (step judge more k start file [] e)
  where
    by_step : Stopped judge k start file [] ⊎ (Ended judge k start file [] ⊎ Went judge more k start file []) → ⊥
    by_step (inl s) = let all = s.all in absurd cc
    by_step (inr (inl s)) = let all = s.all in absurd cc
    by_step (inr (inr s)) = let all = s.all in absurd cc

pub last_later : (h e : Header) (judge : Judge) (more k start : ℕ) (file : List ℕ) (rest : List Header) → walk_from judge more k start file ≡ Ok rest → last_of (e ∷ rest) ≡ last_of rest
last_later h e judge more k start file [] walk = absurd (no_empty judge more k start file walk)
last_later h e judge more k start file (r ∷ rs) walk = refl

pub same_here : (h e : Header) (r : Result Header Fault) → r ≡ Ok h → r ≡ Ok e → e ≡ h
same_here h e r one two = cc

pub same_last : (h e : Header) → e ∷ [] ≡ h ∷ [] → e ≡ h
same_last h e is = cc

-- ---- the last HDU of a file

module _ (laws : HduLaws) (file : List ℕ) (h : Header) where
  next_later : (k start : ℕ) (e : Header) → hdu_at k start file ≡ Ok e → start < next_start_of e
  next_later k start e found =
      let facts = laws.facts k start file e found in
      let begun : e.start ≡ start = facts.1 in
      let long : length (hdu_of file e).header ≡ 2880 * e.blocks = header_length laws k start file e found in
      let some : 2880 ≤ length (hdu_of file e).header = some_blocks laws k start file e found in
      omega arith

  pub starts_before : (more k start : ℕ) (hs : List Header) → walk_from unjudged more k start file ≡ Ok hs → last_of hs ≡ h ∷ [] → start ≤ h.start
  starts_before zero k start hs e last = absurd (no_walk unjudged k start file hs e)
  starts_before (suc more) k start hs e last = by_step (λ j from rest. starts_before more j from rest) (step unjudged more k start file hs e)
    where
      by_step : ((j from : ℕ) (rest : List Header) → walk_from unjudged more j from file ≡ Ok rest → last_of rest ≡ h ∷ [] → from ≤ h.start) →
          Stopped unjudged k start file hs ⊎ (Ended unjudged k start file hs ⊎ Went unjudged more k start file hs) → start ≤ h.start
      by_step again (inl s) = let says = s.says in absurd cc
      by_step again (inr (inl s)) =
          let same : s.here ≡ h = same_last h s.here (sym (ap last_of s.all) ∙ last) in
          let begun : s.here.start ≡ start = (laws.facts k start file s.here s.found).1 in
          let place : s.here.start ≡ h.start = ap (λ (x : Header). x.start) same in
          omega arith
      by_step again (inr (inr s)) =
          let later : last_of s.rest ≡ h ∷ [] = sym (last_later h s.here unjudged more (suc k) (next_start_of s.here) file s.rest s.walk) ∙ (sym (ap last_of s.all) ∙ last) in
          let rest : next_start_of s.here ≤ h.start = again (suc k) (next_start_of s.here) s.rest s.walk later in
          let less : start < next_start_of s.here = next_later k start s.here s.found in
          omega arith

-- ---- two files

-- What is known of the two files, and of what two jobs say of their HDUs.
pub record AreAlikeUpTo (file new : List ℕ) (h now : Header) (judge other : Judge) : Type 0 where
  pub some : h.start < next_start_of h
  pub ends : next_start_of h ≡ length file
  pub long : length file ≤ length new
  pub before : (k start : ℕ) (e : Header) → hdu_at k start file ≡ Ok e → next_start_of e ≤ h.start → hdu_at k start new ≡ Ok e
  pub judged_alike : (k start : ℕ) (e : Header) (b : Bool) → hdu_at k start file ≡ Ok e → next_start_of e ≤ h.start → judge e ≡ Ok b → other e ≡ Ok b
  pub there : hdu_at h.hdu h.start new ≡ Ok now
  pub stopped : judge h ≡ Ok true → other now ≡ Ok true

pub record WalksAlike (more k start : ℕ) (new : List ℕ) (h now : Header) (other : Judge) (ks : List Header) : Type 0 where
  pub found : List Header
  pub walk : walk_from other more k start new ≡ Ok found
  pub stop : stops other found ≡ true
  pub last : last_of ks ≡ h ∷ [] → last_of found ≡ now ∷ []

pub either : (a b c : Bool) → a ≡ false → (a || b) ≡ true → b ≡ true
either true b c e f = absurd cc
either false b c e f = f

module _ (laws : HduLaws) (file new : List ℕ) (h now : Header) (judge other : Judge) (alike : AreAlikeUpTo file new h now judge other) where
  not_last : (e : Header) → next_start_of e ≤ h.start → h.start < next_start_of h → (next_start_of e == length new) ≡ false
  not_last e before less = by_test (next_start_of e == length new) refl
    where
      by_test : (b : Bool) → (next_start_of e == length new) ≡ b → b ≡ false
      by_test false is = refl
      by_test true is =
          let same : next_start_of e ≡ length new = eqb-true (next_start_of e) (length new) is in
          let ends = alike.ends in
          let long = alike.long in
          absurd (omega arith)

  pub walk_alike : (more k start : ℕ) (hs ks : List Header) → walk_from unjudged more k start file ≡ Ok hs → last_of hs ≡ h ∷ [] → walk_from judge more k start file ≡ Ok ks → stops judge ks ≡ true →
      WalksAlike more k start new h now other ks
  walk_alike zero k start hs ks e last walk stop = absurd (no_walk unjudged k start file hs e)
  walk_alike (suc more) k start hs ks e last walk stop = by_all (λ j from hs ks. walk_alike more j from hs ks) (step unjudged more k start file hs e)
    where
      Goal : Type 0
      Goal = WalksAlike (suc more) k start new h now other ks

      Again : Type 0
      Again =
          (j from : ℕ) (hs ks : List Header) → walk_from unjudged more j from file ≡ Ok hs → last_of hs ≡ h ∷ [] → walk_from judge more j from file ≡ Ok ks → stops judge ks ≡ true →
          WalksAlike more j from new h now other ks

      -- at the last HDU of the file
      at_last : hdu_at k start file ≡ Ok h → (next_start_of h == length file) ≡ true → Stopped judge k start file ks ⊎ (Ended judge k start file ks ⊎ Went judge more k start file ks) → Goal
      at_last found end (inl s) =
          let same : s.here ≡ h = same_here h s.here (hdu_at k start file) found s.found in
          let facts = laws.facts k start file h found in
          let there : hdu_at k start new ≡ Ok now = (λ j. hdu_at (sym facts.0 j) (sym facts.1 j) new) ∙ alike.there in
          let says : other now ≡ Ok true = alike.stopped (sym (ap judge same) ∙ s.says) in
          record { found = now ∷ []; walk = stops_at other more k start new now there says; stop = ap (λ v. is_stop v || false) says; last = λ is. refl }
      at_last found end (inr (inl s)) =
          let none : stops judge ks ≡ false = ap (stops judge) s.all ∙ ap (λ v. is_stop v || false) s.says in
          absurd cc
      at_last found end (inr (inr s)) =
          let same : s.here ≡ h = same_here h s.here (hdu_at k start file) found s.found in
          let next : (next_start_of h == length file) ≡ false = sym (ap (λ (x : Header). next_start_of x == length file) same) ∙ s.next in
          absurd cc

      -- and before it
      earlier : Again → (e : Header) → hdu_at k start file ≡ Ok e → (next_start_of e == length file) ≡ false → next_start_of e ≤ h.start → h.start < next_start_of h →
          (rest : List Header) → walk_from unjudged more (suc k) (next_start_of e) file ≡ Ok rest → last_of rest ≡ h ∷ [] →
          Stopped judge k start file ks ⊎ (Ended judge k start file ks ⊎ Went judge more k start file ks) → Goal
      earlier again e found next before less rest walk_rest last_rest (inl s) =
          let same : s.here ≡ e = same_here e s.here (hdu_at k start file) found s.found in
          let says : other e ≡ Ok true = alike.judged_alike k start e true found before (sym (ap judge same) ∙ s.says) in
          let never : last_of ks ≡ h ∷ [] → ⊥ =
          λ is.
          let is_h : e ≡ h = sym same ∙ same_last h s.here (sym (ap last_of s.all) ∙ is) in
          let places : next_start_of e ≡ next_start_of h = ap next_start_of is_h in
          omega arith
          in
          record {
            found = e ∷ [];
            walk = stops_at other more k start new e (alike.before k start e found before) says;
            stop = ap (λ v. is_stop v || false) says;
            last = λ is. absurd (never is);
          }
      earlier again e found next before less rest walk_rest last_rest (inr (inl s)) =
          let same : s.here ≡ e = same_here e s.here (hdu_at k start file) found s.found in
          let end : (next_start_of e == length file) ≡ true = sym (ap (λ (x : Header). next_start_of x == length file) same) ∙ s.last in
          absurd cc
      earlier again e found next before less rest walk_rest last_rest (inr (inr s)) =
          let same : s.here ≡ e = same_here e s.here (hdu_at k start file) found s.found in
          let verdict : judge e ≡ Ok false = sym (ap judge same) ∙ s.says in
          let says : other e ≡ Ok false = alike.judged_alike k start e false found before verdict in
          let walk_on : walk_from judge more (suc k) (next_start_of e) file ≡ Ok s.rest = ap (λ (x : Header). walk_from judge more (suc k) (next_start_of x) file) (sym same) ∙ s.walk in
          let stop_on : stops judge s.rest ≡ true = either (is_stop (judge s.here)) (stops judge s.rest) false (ap is_stop s.says) (sym (ap (stops judge) s.all) ∙ stop) in
          let on : WalksAlike more (suc k) (next_start_of e) new h now other s.rest = again (suc k) (next_start_of e) rest s.rest walk_rest last_rest walk_on stop_on in
          record {
            found = e ∷ on.found;
            walk = goes_on other more k start new e (Ok on.found) (alike.before k start e found before) says (not_last e before less) on.walk;
            stop = (λ j. is_stop (says j) || on.stop j);
            last =
                λ is.
                last_later now e other more (suc k) (next_start_of e) new on.found on.walk
                ∙ on.last (sym (last_later h s.here judge more (suc k) (next_start_of s.here) file s.rest s.walk) ∙ (sym (ap last_of s.all) ∙ is));
          }

      by_all : Again → Stopped unjudged k start file hs ⊎ (Ended unjudged k start file hs ⊎ Went unjudged more k start file hs) → Goal
      by_all again (inl s) = let says = s.says in absurd cc
      by_all again (inr (inl s)) =
          let same : s.here ≡ h = same_last h s.here (sym (ap last_of s.all) ∙ last) in
          at_last (s.found ∙ ap Ok same) (ap (λ (x : Header). next_start_of x == length file) (sym same) ∙ s.last) (step judge more k start file ks walk)
      by_all again (inr (inr s)) =
          let later : last_of s.rest ≡ h ∷ [] = sym (last_later h s.here unjudged more (suc k) (next_start_of s.here) file s.rest s.walk) ∙ (sym (ap last_of s.all) ∙ last) in
          let low : next_start_of s.here ≤ h.start = starts_before laws file h more (suc k) (next_start_of s.here) s.rest s.walk later in
          let found : hdu_at h.hdu h.start new ≡ Ok now = alike.there in
          earlier again s.here s.found s.next low alike.some s.rest s.walk later (step judge more k start file ks walk)

-- ---- two jobs over one file, of which the first stops

pub stops_too : (judge other : Judge) (h : Header) (file : List ℕ) → ((e : Header) → judge e ≡ Ok false → other e ≡ Ok false) → other h ≡ Ok true →
    (more k start : ℕ) (ks : List Header) → walk_from judge more k start file ≡ Ok ks → stops judge ks ≡ true → last_of ks ≡ h ∷ [] →
    (walk_from other more k start file ≡ Ok ks) × (stops other ks ≡ true)
stops_too judge other h file alike here zero k start ks walk stop last = absurd (no_walk judge k start file ks walk)
stops_too judge other h file alike here (suc more) k start ks walk stop last =
    by_step (λ j from rest. stops_too judge other h file alike here more j from rest) (step judge more k start file ks walk)
  where
    Goal : Type 0
    Goal = (walk_from other (suc more) k start file ≡ Ok ks) × (stops other ks ≡ true)

    by_step : ((j from : ℕ) (rest : List Header) → walk_from judge more j from file ≡ Ok rest → stops judge rest ≡ true → last_of rest ≡ h ∷ [] →
        (walk_from other more j from file ≡ Ok rest) × (stops other rest ≡ true)) →
        Stopped judge k start file ks ⊎ (Ended judge k start file ks ⊎ Went judge more k start file ks) → Goal
    by_step again (inl s) =
        let same : s.here ≡ h = same_last h s.here (sym (ap last_of s.all) ∙ last) in
        let says : other s.here ≡ Ok true = ap other same ∙ here in
        (stops_at other more k start file s.here s.found says ∙ ap Ok (sym s.all), ap (stops other) s.all ∙ ap (λ v. is_stop v || false) says)
    by_step again (inr (inl s)) =
        let none : stops judge ks ≡ false = ap (stops judge) s.all ∙ ap (λ v. is_stop v || false) s.says in
        absurd cc
    by_step again (inr (inr s)) =
        let stop_on : stops judge s.rest ≡ true = either (is_stop (judge s.here)) (stops judge s.rest) false (ap is_stop s.says) (sym (ap (stops judge) s.all) ∙ stop) in
        let last_on : last_of s.rest ≡ h ∷ [] = sym (last_later h s.here judge more (suc k) (next_start_of s.here) file s.rest s.walk) ∙ (sym (ap last_of s.all) ∙ last) in
        let rest = again (suc k) (next_start_of s.here) s.rest s.walk stop_on last_on in
        let says : other s.here ≡ Ok false = alike s.here s.says in (
          goes_on other more k start file s.here (Ok s.rest) s.found says s.next rest.0 ∙ ap Ok (sym s.all),
          ap (stops other) s.all ∙ (λ j. is_stop (says j) || rest.1 j),
        )
