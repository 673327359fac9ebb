-- What a walk passes, another passes that stops there, or that has no checks of its own; and it begins the list of HDUs.
use Rattle.std.proofs.Common.{◌≡◌, ℕ, zero, suc, ◌+◌, ◌==◌, ◌⊎◌, inl, inr, IsOk, Bool, true, false, List, [], ◌∷◌, ◌++◌, length, take, drop, map, Result, Ok, Err, if◌then◌else◌, refl, sym, subst, ◌∙◌, ap, arith}
use Rattle.std.specs.List.{flat_map}
use Rattle.std.proofs.lemmas.Bool.Decides.{nat_tests}
use Rattle.std.proofs.lemmas.List.{append_assoc, append-nil, drop_all}
use Rattle.fz_base.specs.declared.fault.Fault.{Fault}
use Rattle.fz_block.specs.Checks.{hdu_at, Judge, unjudged, followed_by, by_judgement, judged, walk_from}
use Rattle.fz_block.specs.Hdus.{Hdu, hdu_bytes, AreHdus}
use Rattle.fz_block.specs.Header.{next_start_of}
use Rattle.fz_block.specs.Walk.{hdu_of, AreHeadersBetween, AreHeadersFrom, is_stop, stops, RefusesNone, stop_after}
use Rattle.fz_block.specs.declared.header.Header.{Header}
use Rattle.fz_block.proofs.OneList.{one_hdu, some_bytes}
use Rattle.fz_block.proofs.Walks.{Walked, first_false, second_false, true-not-false}

-- what another judge says of an HDU that was passed before these: to go on, or to stop at the last
abbrev Follows : Judge → Judge → Header → List Header → Type 0
Follows judge other h [] = (other h ≡ Ok true) ⊎ ((other h ≡ Ok false) × (is_stop (judge h) ≡ false))
Follows judge other h (j ∷ hs) = other h ≡ Ok false

abbrev SaysSo : Judge → Judge → List Header → Type 0
SaysSo judge other [] = Unit {0}
SaysSo judge other (h ∷ hs) = Follows judge other h hs × SaysSo judge other hs

-- the last HDU of a walk is the last of the other
ends_too : (judge other : Judge) (file : List ℕ) (h : Header) (rest : Result (List Header) Fault) (end : is_stop (judge h) ≡ false → (next_start_of h == length file) ≡ true) →
    Follows judge other h [] → by_judgement file h rest (other h) ≡ Ok (h ∷ [])
ends_too judge other file h rest end (inl stop) = ap (by_judgement file h rest) stop
ends_too judge other file h rest end (inr go) =
    ap (by_judgement file h rest) go.0 ∙ ap (λ b. if b then Ok (h ∷ []) else followed_by h rest) (end go.1)

-- an HDU of a walk before others
goes_on_too : (judge other : Judge) (file : List ℕ) (h : Header) (ks : List Header) (rest : Result (List Header) Fault) → (next_start_of h == length file) ≡ false →
    rest ≡ Ok ks → Follows judge other h ks → by_judgement file h rest (other h) ≡ Ok (h ∷ ks)
goes_on_too judge other file h [] rest more is (inl stop) = ap (by_judgement file h rest) stop
goes_on_too judge other file h [] rest more is (inr go) =
    ap (by_judgement file h rest) go.0 ∙ (ap (λ b. if b then Ok (h ∷ []) else followed_by h rest) more ∙ ap (followed_by h) is)
goes_on_too judge other file h (j ∷ ks) rest more is go =
    ap (by_judgement file h rest) go ∙ (ap (λ b. if b then Ok (h ∷ []) else followed_by h rest) more ∙ ap (followed_by h) is)

pub other_walk : (judge other : Judge) (more k start : ℕ) (file : List ℕ) (hs : List Header) → walk_from judge more k start file ≡ Ok hs → SaysSo judge other hs → walk_from other more k start file ≡ Ok hs
unfolding walk_from
other_walk judge other zero k start file hs is so = absurd cc
other_walk judge other (suc more) k start file hs is so =
    by_here (λ h ks rest says. other_walk judge other more (suc k) (next_start_of h) file ks rest says) (hdu_at k start file) refl is
  where
    by_rest : ((h : Header) (ks : List Header) → walk_from judge more (suc k) (next_start_of h) file ≡ Ok ks → SaysSo judge other ks → walk_from other more (suc k) (next_start_of h) file ≡ Ok ks) → (h : Header) (rest : Result (List Header) Fault) → walk_from judge more (suc k) (next_start_of h) file ≡ rest → (next_start_of h == length file) ≡ false →
        followed_by h rest ≡ Ok hs → by_judgement file h (walk_from other more (suc k) (next_start_of h) file) (other h) ≡ Ok hs
    by_rest later h (Err fault) walk more is = absurd cc
    by_rest later h (Ok ks) walk behind is =
        let same : h ∷ ks ≡ hs = cc in
        let says : SaysSo judge other (h ∷ ks) = subst (λ l. SaysSo judge other l) (sym same) so in
        goes_on_too judge other file h ks (walk_from other more (suc k) (next_start_of h) file) behind (later h ks walk says.1) says.0 ∙ ap Ok same

    by_last : ((h : Header) (ks : List Header) → walk_from judge more (suc k) (next_start_of h) file ≡ Ok ks → SaysSo judge other ks → walk_from other more (suc k) (next_start_of h) file ≡ Ok ks) → (h : Header) (last : Bool) → (next_start_of h == length file) ≡ last →
        (if last then Ok (h ∷ []) else followed_by h (walk_from judge more (suc k) (next_start_of h) file)) ≡ Ok hs →
        by_judgement file h (walk_from other more (suc k) (next_start_of h) file) (other h) ≡ Ok hs
    by_last later h true last is =
        let same : h ∷ [] ≡ hs = cc in
        let says : SaysSo judge other (h ∷ []) = subst (λ l. SaysSo judge other l) (sym same) so in
        ends_too judge other file h (walk_from other more (suc k) (next_start_of h) file) (λ never. last) says.0 ∙ ap Ok same
    by_last later h false last is = by_rest later h (walk_from judge more (suc k) (next_start_of h) file) refl last is

    by_judge : ((h : Header) (ks : List Header) → walk_from judge more (suc k) (next_start_of h) file ≡ Ok ks → SaysSo judge other ks → walk_from other more (suc k) (next_start_of h) file ≡ Ok ks) → (h : Header) (says : Result Bool Fault) → judge h ≡ says → by_judgement file h (walk_from judge more (suc k) (next_start_of h) file) says ≡ Ok hs →
        by_judgement file h (walk_from other more (suc k) (next_start_of h) file) (other h) ≡ Ok hs
    by_judge later h (Err fault) at is = absurd cc
    by_judge later h (Ok true) at is =
        let same : h ∷ [] ≡ hs = cc in
        let says : SaysSo judge other (h ∷ []) = subst (λ l. SaysSo judge other l) (sym same) so in
        ends_too judge other file h (walk_from other more (suc k) (next_start_of h) file) (λ never. absurd (true-not-false (sym (ap is_stop at) ∙ never))) says.0 ∙ ap Ok same
    by_judge later h (Ok false) at is = by_last later h (next_start_of h == length file) refl is

    by_here : ((h : Header) (ks : List Header) → walk_from judge more (suc k) (next_start_of h) file ≡ Ok ks → SaysSo judge other ks → walk_from other more (suc k) (next_start_of h) file ≡ Ok ks) → (here : Result Header Fault) → hdu_at k start file ≡ here → judged file judge (λ h. walk_from judge more (suc k) (next_start_of h) file) here ≡ Ok hs →
        judged file other (λ h. walk_from other more (suc k) (next_start_of h) file) (hdu_at k start file) ≡ Ok hs
    by_here later (Err fault) at is = absurd cc
    by_here later (Ok h) at is = ap (judged file other (λ h. walk_from other more (suc k) (next_start_of h) file)) at ∙ by_judge later h (judge h) refl is

-- no stop is said
pub never_stopped : (judge : Judge) (hs : List Header) → stops judge hs ≡ false → SaysSo judge unjudged hs
never_stopped judge [] never = tt
never_stopped judge (h ∷ []) never = (inr (refl, first_false (is_stop (judge h)) false never), tt)
never_stopped judge (h ∷ (j ∷ hs)) never = (refl, never_stopped judge (j ∷ hs) (second_false (is_stop (judge h)) (stops judge (j ∷ hs)) never))

-- a job passes all of them, and stops at none
pub says_on : (says : Result Bool Fault) → IsOk says → is_stop says ≡ false → says ≡ Ok false
says_on (Ok true) ok never = absurd cc
says_on (Ok false) ok never = refl
says_on (Err fault) ok never = absurd cc

pub passes_too : (judge : Judge) (hs : List Header) → RefusesNone judge hs → stops judge hs ≡ false → SaysSo unjudged judge hs
passes_too judge [] pass never = tt
passes_too judge (h ∷ []) pass never = (inr (says_on (judge h) pass.0 (first_false (is_stop (judge h)) false never), refl), tt)
passes_too judge (h ∷ (j ∷ hs)) pass never = (
  says_on (judge h) pass.0 (first_false (is_stop (judge h)) (stops judge (j ∷ hs)) never),
  passes_too judge (j ∷ hs) pass.1 (second_false (is_stop (judge h)) (stops judge (j ∷ hs)) never),
)

-- a stop is said after the last
pub stopped_after : (judge : Judge) (n k start end : ℕ) (file : List ℕ) (hs : List Header) → AreHeadersBetween k start end file hs → n ≡ k + length hs → SaysSo judge (stop_after n) hs
stopped_after judge n k start end file [] headers count = tt
stopped_after judge n k start end file (h ∷ []) headers count =
    let number : h.hdu ≡ k = headers.0 in
    let test : (suc h.hdu == n) ≡ true = grind (arith, nat_tests, number, count) in
    (inl (ap Ok test), tt)
stopped_after judge n k start end file (h ∷ (j ∷ hs)) headers count =
    let number : h.hdu ≡ k = headers.0 in
    let test : (suc h.hdu == n) ≡ false = grind (arith, nat_tests, number, count) in
    (ap Ok test, stopped_after judge n (suc k) (next_start_of h) end file (j ∷ hs) headers.3 (omega (arith, count)))

-- without checks of a job there is no stop
pub unstopped : (hs : List Header) → stops unjudged hs ≡ false
unstopped [] = refl
unstopped (h ∷ hs) = unstopped hs

-- so the HDUs are all
pub whole_parts : (k most : ℕ) (file : List ℕ) (hs : List Header) → Walked unjudged k 0 most file hs → flat_map hdu_bytes (map (hdu_of file) hs) ≡ file
whole_parts k most file hs w =
    let none : drop w.end file ≡ [] = drop_all w.end file (omega (arith, w.last (unstopped hs))) in
    sym (append-nil (flat_map hdu_bytes (map (hdu_of file) hs))) ∙ (ap (λ l. flat_map hdu_bytes (map (hdu_of file) hs) ++ l) (sym none) ∙ w.parts)

pub whole_headers : (k start most : ℕ) (file : List ℕ) (hs : List Header) → Walked unjudged k start most file hs → AreHeadersFrom k start file hs
whole_headers k start most file hs w = subst (λ n. AreHeadersBetween k start n file hs) (w.last (unstopped hs)) w.headers

-- HDUs whose bytes begin a file are its first
pub first_hdus : (k : ℕ) (hs ks : List Hdu) (rest : List ℕ) → AreHdus k hs → AreHdus k ks → flat_map hdu_bytes hs ++ rest ≡ flat_map hdu_bytes ks → take (length hs) ks ≡ hs
first_hdus k [] ks rest one two same = refl
first_hdus k (h ∷ hs) [] rest one two same =
    absurd (some_bytes k h (flat_map hdu_bytes hs ++ rest) one.0 (sym same ∙ append_assoc (hdu_bytes h) (flat_map hdu_bytes hs) rest))
first_hdus k (h ∷ hs) (j ∷ ks) rest one two same =
    let first = one_hdu k h j (flat_map hdu_bytes hs ++ rest) (flat_map hdu_bytes ks) one.0 two.0 (sym (append_assoc (hdu_bytes h) (flat_map hdu_bytes hs) rest) ∙ same) in
    ap (λ x. x ∷ take (length hs) ks) (sym first.0) ∙ ap (λ l. h ∷ l) (first_hdus (suc k) hs ks rest one.1 two.1 first.1)
