-- The packed images that a job meets in a file without a fault are such as the checks of their headers pass.
use Rattle.std.specs.Prelude.{⊤}
use Rattle.std.proofs.Common.{◌≡◌, ℕ, zero, suc, ◌==◌, ◌||◌, Bool, true, false, List, [], ◌∷◌, length, Option, Some, None, Result, Ok, Err, IsOk, if◌then◌else◌, refl, sym, subst, ◌∙◌, ap}
use Rattle.fz_base.specs.Refusal.{first_refusal}
use Rattle.fz_base.specs.declared.fault.Fault.{Fault}
use Rattle.fz_block.specs.Checks.{Judge, hdu_at, unless_refused, followed_by, by_judgement, judged, walk_from}
use Rattle.fz_block.specs.Facts.{IsHeaderOf}
use Rattle.fz_block.specs.Header.{next_start_of}
use Rattle.fz_block.specs.Walk.{AreHeadersBetween, RefusesNone, is_stop, stops}
use Rattle.fz_block.specs.declared.header.Header.{Header}
use Rattle.fz_grid.specs.declared.region.Region.{Region}
use Rattle.fz_grid.specs.declared.sieve.Sieve.{Sieve}
use Rattle.fz_checks.specs.JobChecks.{IsImageOf, image_in, is_after_empty, cut_checks, cut_hdu_checks, unpack_checks, unpack_hdu_checks}
use Rattle.fz_checks.specs.Judges.{unpack_judge, cut_judge, is_wanted}
use Rattle.fz_head.specs.Packable.{is_packed}
use Rattle.fz_files.specs.Restored.{header_in, is_image}
use Rattle.fz_files.specs.Walks.{box_of, last_of}

-- ---- checks that refuse nothing

-- what the checks of `unpack`, and those of `cut`, say of a packed image of which they refuse nothing
abbrev pub UnpackFindsImage : Type 0
UnpackFindsImage =
    (h : Header) (header : List ℕ) (after_empty : Bool) → IsHeaderOf header h → is_packed header h ≡ true → first_refusal (unpack_checks h header after_empty) ≡ None →
    IsImageOf header h (image_in h header)

abbrev pub CutFindsImage : Type 0
CutFindsImage =
    (h : Header) (header : List ℕ) (after_empty : Bool) (region : Region) → IsHeaderOf header h → first_refusal (cut_checks h header after_empty region) ≡ None →
    IsImageOf header h (image_in h header)

-- a judge that answers has refused nothing
answer_none : (answer : Bool) (found : Option Fault) → IsOk (unless_refused answer found) → found ≡ None
answer_none answer None ok = refl
answer_none answer (Some fault) ok = absurd cc

-- where `cut` stops, its checks refuse nothing
cut_none : (wanted : Bool) (found : Option Fault) → (if wanted then unless_refused true found else Ok false) ≡ Ok true → found ≡ None
cut_none true None e = refl
cut_none true (Some fault) e = absurd cc
cut_none false found e = absurd cc

-- ---- headers

-- each of these headers has a property
abbrev pub EachIs : (Header → Type 0) → List Header → Type 0
EachIs P [] = ⊤
EachIs P (h ∷ hs) = P h × EachIs P hs

-- the image of a header is one that can be read
abbrev pub IsReadable : List ℕ → Header → Type 0
IsReadable file h = IsImageOf (header_in file h) h (image_in h (header_in file h))

-- and so is that of each header that is packed
abbrev pub ReadableIf : List ℕ → Header → Type 0
ReadableIf file h = is_image file h ≡ true → IsReadable file h

are_headers : (k start end : ℕ) (file : List ℕ) (hs : List Header) → AreHeadersBetween k start end file hs → EachIs (λ h. IsHeaderOf (header_in file h) h) hs
are_headers k start end file [] is = tt
are_headers k start end file (h ∷ hs) is = (is.2, are_headers (suc k) (next_start_of h) end file hs is.3)

each_readable : UnpackFindsImage → (file : List ℕ) (hs : List Header) → EachIs (λ h. IsHeaderOf (header_in file h) h) hs → RefusesNone (unpack_judge file) hs → EachIs (ReadableIf file) hs
each_readable law file [] are none = tt
each_readable law file (h ∷ hs) are none =
    (λ packed. law h (header_in file h) (is_after_empty file h) are.0 packed (answer_none false (first_refusal (unpack_hdu_checks file h)) none.0), each_readable law file hs are.1 none.1)

pub unpacked_readable : UnpackFindsImage → (k start end : ℕ) (file : List ℕ) (hs : List Header) → AreHeadersBetween k start end file hs → RefusesNone (unpack_judge file) hs → EachIs (ReadableIf file) hs
unpacked_readable law k start end file hs are none = each_readable law file hs (are_headers k start end file hs are) none

-- ---- the HDU that a part is cut from

last_is : (P : Header → Type 0) (hs : List Header) → EachIs P hs → EachIs P (last_of hs)
last_is P [] each = tt
last_is P (h ∷ []) each = each
last_is P (h ∷ (j ∷ hs)) each = last_is P (j ∷ hs) each.1

-- a walk that stops, stops at the last
last_stops : (judge : Judge) (more k start : ℕ) (file : List ℕ) (hs : List Header) → walk_from judge more k start file ≡ Ok hs → stops judge hs ≡ true → EachIs (λ h. judge h ≡ Ok true) (last_of hs)
unfolding walk_from
last_stops judge zero k start file hs is stop = absurd cc
last_stops judge (suc more) k start file hs is stop =
    by_here (λ h ks rest says. last_stops judge more (suc k) (next_start_of h) file ks rest says) (hdu_at k start file) is
  where
    behind : (h : Header) (ks : List Header) → stops judge ks ≡ true → EachIs (λ h. judge h ≡ Ok true) (last_of ks) → EachIs (λ h. judge h ≡ Ok true) (last_of (h ∷ ks))
    behind h [] stop last = absurd cc
    behind h (j ∷ ks) stop last = last

    by_rest : ((h : Header) (ks : List Header) → walk_from judge more (suc k) (next_start_of h) file ≡ Ok ks → stops judge ks ≡ true → EachIs (λ h. judge h ≡ Ok true) (last_of ks)) →
        (h : Header) → judge h ≡ Ok false → (rest : Result (List Header) Fault) → walk_from judge more (suc k) (next_start_of h) file ≡ rest → followed_by h rest ≡ Ok hs →
        EachIs (λ h. judge h ≡ Ok true) (last_of hs)
    by_rest later h says (Err fault) walk is = absurd cc
    by_rest later h says (Ok ks) walk is =
        let same : h ∷ ks ≡ hs = cc in
        let stop_behind : stops judge ks ≡ true = ap (λ r. is_stop r || stops judge ks) (sym says) ∙ (ap (stops judge) same ∙ stop) in
        subst (λ l. EachIs (λ h. judge h ≡ Ok true) (last_of l)) same (behind h ks stop_behind (later h ks walk stop_behind))

    by_last : ((h : Header) (ks : List Header) → walk_from judge more (suc k) (next_start_of h) file ≡ Ok ks → stops judge ks ≡ true → EachIs (λ h. judge h ≡ Ok true) (last_of ks)) →
        (h : Header) → judge h ≡ Ok false → (last : Bool) → (if last then Ok (h ∷ []) else followed_by h (walk_from judge more (suc k) (next_start_of h) file)) ≡ Ok hs →
        EachIs (λ h. judge h ≡ Ok true) (last_of hs)
    by_last later h says true is =
        let same : h ∷ [] ≡ hs = cc in
        let never : stops judge (h ∷ []) ≡ false = ap (λ r. is_stop r || false) says in
        let ever : stops judge (h ∷ []) ≡ true = ap (stops judge) same ∙ stop in
        absurd cc
    by_last later h says false is = by_rest later h says (walk_from judge more (suc k) (next_start_of h) file) refl is

    by_judge : ((h : Header) (ks : List Header) → walk_from judge more (suc k) (next_start_of h) file ≡ Ok ks → stops judge ks ≡ true → EachIs (λ h. judge h ≡ Ok true) (last_of ks)) →
        (h : Header) (says : Result Bool Fault) → judge h ≡ says → by_judgement file h (walk_from judge more (suc k) (next_start_of h) file) says ≡ Ok hs →
        EachIs (λ h. judge h ≡ Ok true) (last_of hs)
    by_judge later h (Err fault) says is = absurd cc
    by_judge later h (Ok true) says is =
        let same : h ∷ [] ≡ hs = cc in
        subst (λ l. EachIs (λ h. judge h ≡ Ok true) (last_of l)) same (says, tt)
    by_judge later h (Ok false) says is = by_last later h says (next_start_of h == length file) is

    by_here : ((h : Header) (ks : List Header) → walk_from judge more (suc k) (next_start_of h) file ≡ Ok ks → stops judge ks ≡ true → EachIs (λ h. judge h ≡ Ok true) (last_of ks)) →
        (here : Result Header Fault) → judged file judge (λ h. walk_from judge more (suc k) (next_start_of h) file) here ≡ Ok hs → EachIs (λ h. judge h ≡ Ok true) (last_of hs)
    by_here later (Err fault) is = absurd cc
    by_here later (Ok h) is = by_judge later h (judge h) refl is

-- the HDU at which `cut` stops can be read
cut_readable : CutFindsImage → (wanted : Option ℕ) (sieve : Sieve) (file : List ℕ) (h : Header) → IsHeaderOf (header_in file h) h → cut_judge wanted (box_of sieve) file h ≡ Ok true → IsReadable file h
cut_readable law wanted sieve file h is stop =
    law h (header_in file h) (is_after_empty file h) (box_of sieve) is (cut_none (is_wanted wanted (header_in file h) h) (first_refusal (cut_hdu_checks file (box_of sieve) h)) stop)

both_are : CutFindsImage → (wanted : Option ℕ) (sieve : Sieve) (file : List ℕ) (hs : List Header) → EachIs (λ h. IsHeaderOf (header_in file h) h) hs →
    EachIs (λ h. cut_judge wanted (box_of sieve) file h ≡ Ok true) hs → EachIs (IsReadable file) hs
both_are law wanted sieve file [] are stop = tt
both_are law wanted sieve file (h ∷ hs) are stop = (cut_readable law wanted sieve file h are.0 stop.0, both_are law wanted sieve file hs are.1 stop.1)

pub cut_from_readable : CutFindsImage → (wanted : Option ℕ) (sieve : Sieve) (most k start end : ℕ) (file : List ℕ) (hs : List Header) → AreHeadersBetween k start end file hs →
    walk_from (cut_judge wanted (box_of sieve) file) most k start file ≡ Ok hs → stops (cut_judge wanted (box_of sieve) file) hs ≡ true → EachIs (IsReadable file) (last_of hs)
cut_from_readable law wanted sieve most k start end file hs are is stop =
    both_are law wanted sieve file (last_of hs) (last_is (λ h. IsHeaderOf (header_in file h) h) hs (are_headers k start end file hs are))
    (last_stops (cut_judge wanted (box_of sieve) file) most k start file hs is stop)

-- and no check of `cut` refuses it
passed_are : (wanted : Option ℕ) (sieve : Sieve) (file : List ℕ) (hs : List Header) → EachIs (λ h. cut_judge wanted (box_of sieve) file h ≡ Ok true) hs →
    EachIs (λ h. first_refusal (cut_hdu_checks file (box_of sieve) h) ≡ None) hs
passed_are wanted sieve file [] stop = tt
passed_are wanted sieve file (h ∷ hs) stop =
    (cut_none (is_wanted wanted (header_in file h) h) (first_refusal (cut_hdu_checks file (box_of sieve) h)) stop.0, passed_are wanted sieve file hs stop.1)

pub cut_from_passed : (wanted : Option ℕ) (sieve : Sieve) (most k start : ℕ) (file : List ℕ) (hs : List Header) → walk_from (cut_judge wanted (box_of sieve) file) most k start file ≡ Ok hs →
    stops (cut_judge wanted (box_of sieve) file) hs ≡ true → EachIs (λ h. first_refusal (cut_hdu_checks file (box_of sieve) h) ≡ None) (last_of hs)
cut_from_passed wanted sieve most k start file hs is stop =
    passed_are wanted sieve file (last_of hs) (last_stops (cut_judge wanted (box_of sieve) file) most k start file hs is stop)
