-- The HDUs that one job looks at are the first of those that a job looks at which stops at none (FITS 4.0, section 3.1).
use Rattle.std.proofs.Common.{◌≡◌, ℕ, zero, suc, ◌||◌, ◌==◌, Bool, true, false, List, [], ◌∷◌, ◌++◌, length, refl, sym, ap, ◌∙◌}
use Rattle.std.specs.Prelude.{Option, Some, None, Result, Ok, Err, if◌then◌else◌}
use Rattle.std.proofs.lemmas.List.{append-nil}
use Rattle.fz_base.specs.Refusal.{first_refusal}
use Rattle.fz_base.specs.declared.fault.Fault.{Fault}
use Rattle.fz_block.specs.Checks.{Judge, by_judgement, followed_by, hdu_at, judged, unless_refused, walk_from}
use Rattle.fz_block.specs.Header.{next_start_of}
use Rattle.fz_block.specs.Walk.{is_stop, stops}
use Rattle.fz_block.specs.declared.header.Header.{Header}
use Rattle.fz_checks.specs.JobChecks.{unpack_hdu_checks}
use Rattle.fz_checks.specs.Judges.{unpack_judge}
use Rattle.fz_cut.proofs.Walks.{or_parts}

-- `unpack` stops at no HDU
never_stops : (r : Option Fault) → is_stop (unless_refused false r) ≡ false
never_stops None = refl
never_stops (Some x) = refl

pub unpack_goes_on : (file : List ℕ) (hs : List Header) → stops (unpack_judge file) hs ≡ false
unpack_goes_on file [] = refl
unpack_goes_on file (h ∷ hs) = (λ i. never_stops (first_refusal (unpack_hdu_checks file h)) i || unpack_goes_on file hs i)

module _ (file : List ℕ) (J K : Judge) where
  abbrev behind : Judge → ℕ → ℕ → Header → Result (List Header) Fault
  behind judge more k h = walk_from judge more (suc k) (next_start_of h) file

  -- the headers begin with these
  abbrev pub Begins : List Header → List Header → Type 0
  Begins hs ks = (rest : List Header) × (hs ≡ ks ++ rest)

  module _ (more k : ℕ) (hs ks : List Header) (goes_on : stops K hs ≡ false) (later : (h : Header) (l m : List Header) → behind J more k h ≡ Ok m → behind K more k h ≡ Ok l → stops K l ≡ false → Begins l m) where
    at_last : (h : Header) → h ∷ [] ≡ ks → h ∷ [] ≡ hs → Begins hs ks
    at_last h here there = ([], sym there ∙ here ∙ sym (append-nil ks))

    first_of : (h : Header) (r : Result (List Header) Fault) → h ∷ [] ≡ ks → followed_by h r ≡ Ok hs → Begins hs ks
    first_of h (Err x) here is = absurd cc
    first_of h (Ok l) here is =
        let there : h ∷ l ≡ hs = cc in
        (l, sym there ∙ ap (λ (m : List Header). m ++ l) here)

    by_first : (h : Header) (last : Bool) → h ∷ [] ≡ ks → (if last then Ok (h ∷ []) else followed_by h (behind K more k h)) ≡ Ok hs → Begins hs ks
    by_first h true here is = let there : h ∷ [] ≡ hs = cc in at_last h here there
    by_first h false here is = first_of h (behind K more k h) here is

    both : (h : Header) (r s : Result (List Header) Fault) → behind J more k h ≡ r → behind K more k h ≡ s → followed_by h r ≡ Ok ks → followed_by h s ≡ Ok hs → Begins hs ks
    both h (Err x) s is_r is_s of_ks of_hs = absurd cc
    both h (Ok m) (Err x) is_r is_s of_ks of_hs = absurd cc
    both h (Ok m) (Ok l) is_r is_s of_ks of_hs =
        let here : h ∷ m ≡ ks = cc in
        let there : h ∷ l ≡ hs = cc in
        let none : stops K (h ∷ l) ≡ false = ap (stops K) there ∙ goes_on in
        let rest = later h l m is_r is_s (or_parts (is_stop (K h)) (stops K l) none).1 in
        (rest.0, sym there ∙ ap (λ (n : List Header). h ∷ n) rest.1 ∙ ap (λ (n : List Header). n ++ rest.0) here)

    by_both : (h : Header) (last : Bool) → (if last then Ok (h ∷ []) else followed_by h (behind J more k h)) ≡ Ok ks → (if last then Ok (h ∷ []) else followed_by h (behind K more k h)) ≡ Ok hs → Begins hs ks
    by_both h true of_ks of_hs =
        let here : h ∷ [] ≡ ks = cc in
        let there : h ∷ [] ≡ hs = cc in
        at_last h here there
    by_both h false of_ks of_hs = both h (behind J more k h) (behind K more k h) refl refl of_ks of_hs

    -- the second job stops at none
    no_stop : (h : Header) → K h ≡ Ok true → h ∷ [] ≡ hs → ⊥
    no_stop h says there =
        let never : is_stop (K h) || false ≡ false = ap (stops K) there ∙ goes_on in
        let ever : is_stop (K h) || false ≡ true = ap (λ r. is_stop r || false) says in
        absurd cc

    by_judges : (h : Header) (r s : Result Bool Fault) → K h ≡ s → by_judgement file h (behind J more k h) r ≡ Ok ks → by_judgement file h (behind K more k h) s ≡ Ok hs → Begins hs ks
    by_judges h (Err x) s says of_ks of_hs = absurd cc
    by_judges h (Ok b) (Err x) says of_ks of_hs = absurd cc
    by_judges h (Ok b) (Ok true) says of_ks of_hs = let there : h ∷ [] ≡ hs = cc in absurd (no_stop h says there)
    by_judges h (Ok true) (Ok false) says of_ks of_hs = let here : h ∷ [] ≡ ks = cc in by_first h (next_start_of h == length file) here of_hs
    by_judges h (Ok false) (Ok false) says of_ks of_hs = by_both h (next_start_of h == length file) of_ks of_hs

    by_here : (r : Result Header Fault) → judged file J (behind J more k) r ≡ Ok ks → judged file K (behind K more k) r ≡ Ok hs → Begins hs ks
    by_here (Err x) of_ks of_hs = absurd cc
    by_here (Ok h) of_ks of_hs = by_judges h (J h) (K h) refl of_ks of_hs

  pub walks_begin : (more k start : ℕ) (hs ks : List Header) → walk_from J more k start file ≡ Ok ks → walk_from K more k start file ≡ Ok hs → stops K hs ≡ false → Begins hs ks
  unfolding walk_from
  walks_begin zero k start hs ks of_ks of_hs goes_on = absurd cc
  walks_begin (suc more) k start hs ks of_ks of_hs goes_on =
      by_here more k hs ks goes_on (λ h l m is_m is_l none. walks_begin more (suc k) (next_start_of h) l m is_m is_l none) (hdu_at k start file) of_ks of_hs
