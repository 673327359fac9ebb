-- The headers that a walk finds, and the HDUs that it comes to (FITS 4.0, section 3.1).
use Rattle.std.proofs.Common.{◌≡◌, ℕ, zero, suc, ◌<◌, ◌≤◌, ◌==◌, ◌||◌, max, Bool, true, false, List, [], ◌∷◌, ◌++◌, length, map, inl, inr, refl, sym, ap, ◌∙◌, arith}
use Rattle.std.specs.Prelude.{Option, Some, None, Result, Ok, Err, if◌then◌else◌, All, slice_index_or}
use Rattle.fz_base.specs.Ranges.{LiesIn}
use Rattle.fz_base.specs.declared.fault.Fault.{Fault}
use Rattle.fz_block.specs.Checks.{Judge, by_judgement, followed_by, hdu_at, header_blocks_of, header_touched, judged, walk_from}
use Rattle.fz_block.specs.Facts.{IsHeaderOf}
use Rattle.fz_block.specs.Header.{next_start_of}
use Rattle.fz_block.specs.Takings.{for_those_after, where_going_on}
use Rattle.fz_block.specs.Walk.{hdu_of, is_stop, stops}
use Rattle.fz_block.specs.declared.header.Header.{Header}
use Rattle.fz_files.specs.Buffers.{found_len, header_len}
use Rattle.fz_files.specs.Cutout.{header_range}
use Rattle.fz_files.specs.Walks.{Reached, last_of, reached_after, reached_behind, reached_from}
use Rattle.fz_job.specs.Judges.{judge_of}
use Rattle.fz_job.specs.Surveys.{header_len as header_len_seen, hdu_places, places_from, stopped_at}
use Rattle.fz_job.specs.declared.checks.JobChecks.TheVariants.{Cut as CutChecks}
use Rattle.fz_grid.specs.declared.region.Region.{Region}
use Rattle.fz_checks.specs.Greatest.{greatest}

-- where an HDU begins
abbrev pub place_of : Header → Reached
place_of h = record { hdu = h.hdu; start = h.start }

-- each of some headers is that of its HDU
abbrev pub FactsLaw : Type 0
FactsLaw = (k start : ℕ) (file : List ℕ) (h : Header) → hdu_at k start file ≡ Ok h → (h.hdu ≡ k) × (h.start ≡ start) × IsHeaderOf (hdu_of file h).header h

module _ (facts : FactsLaw) (judge : Judge) (file : List ℕ) where
  here_is : (k start : ℕ) (h : Header) → hdu_at k start file ≡ Ok h → ◌≡◌ {A = Reached} (record { hdu = k; start = start }) (place_of h)
  here_is k start h at = let is = facts k start file h at in λ i. record { hdu = sym is.0 i; start = sym is.1 i }

  abbrev rest_of : ℕ → ℕ → Header → List Reached
  rest_of more k h = reached_from judge more (suc k) (next_start_of h) file

  abbrev walk_behind : ℕ → ℕ → Header → Result (List Header) Fault
  walk_behind more k h = walk_from judge more (suc k) (next_start_of h) file

  module _ (more k start : ℕ) (hs : List Header) (later : (h : Header) (ks : List Header) → walk_behind more k h ≡ Ok ks → rest_of more k h ≡ map place_of ks) where
    abbrev here : Reached
    here = record { hdu = k; start = start }

    met_last : (h : Header) → hdu_at k start file ≡ Ok h → h ∷ [] ≡ hs → here ∷ [] ≡ map place_of hs
    met_last h at same = ap (λ r. r ∷ []) (here_is k start h at) ∙ ap (map place_of) same

    met_more : (h : Header) (r : Result (List Header) Fault) → hdu_at k start file ≡ Ok h → walk_behind more k h ≡ r → followed_by h r ≡ Ok hs → here ∷ rest_of more k h ≡ map place_of hs
    met_more h (Err x) at is e = absurd cc
    met_more h (Ok ks) at is e =
        let same : h ∷ ks ≡ hs = cc in
        (λ i. here_is k start h at i ∷ later h ks is i) ∙ ap (map place_of) same

    met_by : (h : Header) (last : Bool) → hdu_at k start file ≡ Ok h → (if last then Ok (h ∷ []) else followed_by h (walk_behind more k h)) ≡ Ok hs → here ∷ (if last then [] else rest_of more k h) ≡ map place_of hs
    met_by h true at e = let same : h ∷ [] ≡ hs = cc in met_last h at same
    met_by h false at e = met_more h (walk_behind more k h) at refl e

    met_judged : (h : Header) (r : Result Bool Fault) → hdu_at k start file ≡ Ok h → by_judgement file h (walk_behind more k h) r ≡ Ok hs → here ∷ reached_behind file h (rest_of more k h) r ≡ map place_of hs
    met_judged h (Err x) at e = absurd cc
    met_judged h (Ok true) at e = let same : h ∷ [] ≡ hs = cc in met_last h at same
    met_judged h (Ok false) at e = met_by h (next_start_of h == length file) at e

    met_at : (r : Result Header Fault) → hdu_at k start file ≡ r → judged file judge (walk_behind more k) r ≡ Ok hs → here ∷ reached_after file judge (rest_of more k) r ≡ map place_of hs
    met_at (Err x) at e = absurd cc
    met_at (Ok h) at e = met_judged h (judge h) at e

  -- a walk that ends well comes to the HDUs of its headers
  pub walk_met : (more k start : ℕ) (hs : List Header) → walk_from judge more k start file ≡ Ok hs → reached_from judge more k start file ≡ map place_of hs
  unfolding walk_from reached_from
  walk_met zero k start hs e = absurd cc
  walk_met (suc more) k start hs e = met_at more k start hs (λ h ks is. walk_met more (suc k) (next_start_of h) ks is) (hdu_at k start file) refl e

-- ---- the longest of them

abbrev pub BlocksLaw : Type 0
BlocksLaw = (k start : ℕ) (file : List ℕ) (h : Header) → hdu_at k start file ≡ Ok h → header_blocks_of k start file ≡ Ok h.blocks

abbrev pub AreFound : List ℕ → List Header → Type 0
AreFound file hs = All (λ h. hdu_at h.hdu h.start file ≡ Ok h) hs

pub longest_is : BlocksLaw → (file : List ℕ) (hs : List Header) → AreFound file hs → greatest (map (header_len file) (map place_of hs)) ≡ greatest (map header_len_seen hs)
longest_is blocks file [] found = refl
longest_is blocks file (h ∷ hs) found =
    let one : header_len file (place_of h) ≡ header_len_seen h = ap found_len (blocks h.hdu h.start file h (found 0 h (omega arith))) in
    let rest = longest_is blocks file hs (λ k d few. found (suc k) d (omega (arith, few))) in
    λ i. max (one i) (rest i)

-- ---- the last of them

pub last_is : (hs : List Header) (h : Header) → last_of (hs ++ h ∷ []) ≡ h ∷ []
last_is [] h = refl
last_is (j ∷ []) h = refl
last_is (j ∷ k ∷ hs) h = last_is (k ∷ hs) h

-- some headers, of which there is one, are others before a last one
pub record HasLast (hs : List Header) : Type 0 where
  pub before : List Header
  pub last : Header
  pub parts : hs ≡ before ++ last ∷ []

pub has_last : (hs : List Header) → 0 < length hs → HasLast hs
has_last [] some = absurd (omega (arith, some))
has_last (h ∷ []) some = record { before = []; last = h; parts = refl }
has_last (h ∷ j ∷ hs) some =
    let rest = has_last (j ∷ hs) (omega arith) in
    record { before = h ∷ rest.before; last = rest.last; parts = ap (λ l. h ∷ l) rest.parts }

pub or_parts : (a b : Bool) → (a || b) ≡ false → (a ≡ false) × (b ≡ false)
or_parts true b e = absurd cc
or_parts false b e = (refl, e)

-- the job stops at none of some, so it stops at the next one or at none
stopped_by : (judge : Judge) (b : Bool) (h : Header) (hs : List Header) → b ≡ false → (if b then Some h else stopped_at judge hs) ≡ stopped_at judge hs
stopped_by judge true h hs none = absurd cc
stopped_by judge false h hs none = refl

pub stopped_last : (judge : Judge) (hs : List Header) (h : Header) → stops judge hs ≡ false → stopped_at judge (hs ++ h ∷ []) ≡ (if is_stop (judge h) then Some h else None)
stopped_last judge [] h none = refl
stopped_last judge (j ∷ hs) h none =
    let parts = or_parts (is_stop (judge j)) (stops judge hs) none in
    stopped_by judge (is_stop (judge j)) j (hs ++ h ∷ []) parts.0 ∙ stopped_last judge hs h parts.1

or_right : (a : Bool) → (a || true) ≡ true
or_right true = refl
or_right false = refl

pub stops_last : (judge : Judge) (hs : List Header) (h : Header) → is_stop (judge h) ≡ true → stops judge (hs ++ h ∷ []) ≡ true
stops_last judge [] h is = ap (λ b. b || false) is
stops_last judge (j ∷ hs) h is = ap (λ b. is_stop (judge j) || b) (stops_last judge hs h is) ∙ or_right (is_stop (judge j))

pub stops_none : (judge : Judge) (hs : List Header) (h : Header) → stops judge hs ≡ false → is_stop (judge h) ≡ false → stops judge (hs ++ h ∷ []) ≡ false
stops_none judge [] h none is = ap (λ b. b || false) is
stops_none judge (j ∷ hs) h none is =
    let parts = or_parts (is_stop (judge j)) (stops judge hs) none in
    (λ i. parts.0 i || stops_none judge hs h parts.1 is i)

-- ---- what a survey for `cut` reads

abbrev pub looked : List ℕ → Reached → ℕ × ℕ
looked file r = (r.start, header_touched r.hdu r.start file)

module _ (wanted : Option ℕ) (region : Region) (file : List ℕ) (judge : Judge) (same : judge_of (CutChecks wanted region) file ≡ judge) where
  abbrev places_behind : ℕ → ℕ → Header → List (ℕ × ℕ)
  places_behind more k h = places_from (CutChecks wanted region) more (suc k) (next_start_of h) file

  module _ (more k start : ℕ) (later : (h : Header) → places_behind more k h ≡ map (looked file) (reached_from judge more (suc k) (next_start_of h) file)) where
    going_by : (h : Header) (last : Bool) → (if last then [] else places_behind more k h) ≡ map (looked file) (if last then [] else reached_from judge more (suc k) (next_start_of h) file)
    going_by h true = refl
    going_by h false = later h

    going_on : (h : Header) (r : Result Bool Fault) → where_going_on file h (places_behind more k h) r ≡ map (looked file) (reached_behind file h (reached_from judge more (suc k) (next_start_of h) file) r)
    going_on h (Err x) = refl
    going_on h (Ok true) = refl
    going_on h (Ok false) = going_by h (next_start_of h == length file)

    going_at : (r : Result Header Fault) → for_those_after file judge (places_behind more k) r ≡ map (looked file) (reached_after file judge (λ h. reached_from judge more (suc k) (next_start_of h) file) r)
    going_at (Err x) = refl
    going_at (Ok h) = going_on h (judge h)

    one_place : (r : Result Header Fault) → hdu_at k start file ≡ r → hdu_places (CutChecks wanted region) k start file ≡ looked file (record { hdu = k; start = start }) ∷ []
    one_place r is = by_found r is
      where
        by_found : (r : Result Header Fault) → hdu_at k start file ≡ r → hdu_places (CutChecks wanted region) k start file ≡ looked file (record { hdu = k; start = start }) ∷ []
        by_found (Err x) is = rw is refl
        by_found (Ok h) is = rw is refl

  -- the places are those of the headers of the HDUs that the job comes to
  pub places_are : (more k start : ℕ) → places_from (CutChecks wanted region) more k start file ≡ map (looked file) (reached_from judge more k start file)
  unfolding places_from reached_from
  places_are zero k start = refl
  places_are (suc more) k start =
      let one = one_place more k start (λ h. places_are more (suc k) (next_start_of h)) (hdu_at k start file) refl in
      let rest = going_at more k start (λ h. places_are more (suc k) (next_start_of h)) (hdu_at k start file) in
      (λ i. one i ++ for_those_after file (same i) (λ h. places_from (CutChecks wanted region) more (suc k) (next_start_of h) file) (hdu_at k start file))
      ∙ ap (λ l. looked file (record { hdu = k; start = start }) ∷ l) rest

-- a byte between two of these places lies in one of the ranges
pub lies_in_headers : (file : List ℕ) (rs : List Reached) (behind : List (ℕ × ℕ)) (k : ℕ) (p : ℕ × ℕ) (byte : ℕ) → k < length (map (looked file) rs) → slice_index_or (map (looked file) rs) k p ≡ p →
    p.0 ≤ byte → byte < p.1 → LiesIn (map (header_range file) rs ++ behind) byte
lies_in_headers file [] behind k p byte few here from to = absurd (omega (arith, few))
lies_in_headers file (r ∷ rs) behind zero p byte few here from to =
    let first : r.start ≡ p.0 = ap (λ (q : ℕ × ℕ). q.0) here in
    let end : header_touched r.hdu r.start file ≡ p.1 = ap (λ (q : ℕ × ℕ). q.1) here in
    inl (omega (arith, first, from), omega (arith, first, end, from, to))
lies_in_headers file (r ∷ rs) behind (suc k) p byte few here from to = inr (lies_in_headers file rs behind k p byte (omega (arith, few)) here from to)

pub lies_behind : (front back : List (ℕ × ℕ)) (byte : ℕ) → LiesIn back byte → LiesIn (front ++ back) byte
lies_behind [] back byte is = is
lies_behind ((start, count) ∷ front) back byte is = inr (lies_behind front back byte is)

pub lies_before : (front back : List (ℕ × ℕ)) (byte : ℕ) → LiesIn front byte → LiesIn (front ++ back) byte
lies_before [] back byte is = absurd is
lies_before ((start, count) ∷ front) back byte (inl is) = inl is
lies_before ((start, count) ∷ front) back byte (inr is) = inr (lies_before front back byte is)

-- the range of the last header is one of theirs
pub lies_in_last : (file : List ℕ) (hs : List Header) (h : Header) (byte : ℕ) → LiesIn (header_range file (place_of h) ∷ []) byte → LiesIn (map (header_range file) (map place_of (hs ++ h ∷ []))) byte
lies_in_last file [] h byte is = is
lies_in_last file (j ∷ hs) h byte is = inr (lies_in_last file hs h byte is)
