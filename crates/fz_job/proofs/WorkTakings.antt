-- Buffers that are taken one after another: one, those of the slots, and some after others.
use Rattle.std.proofs.Common.{◌≡◌, ℕ, zero, suc, ◌+◌, ◌*◌, ◌<◌, ◌≤◌, ◌⊎◌, inl, inr, max, true, false, nat_lt, List, [], ◌∷◌, ◌++◌, sum, refl, sym, ap, ◌∙◌, subst, arith, if◌then◌else◌}
use Rattle.std.specs.Prelude.{Option, Some, None, Result, Ok, Err, OnOk, IfErr}
use Rattle.std.proofs.Math.Nat.{suc-mul}
use Rattle.std.proofs.lemmas.Bool.Decides.{nat_tests}
use Rattle.std.proofs.lemmas.List.Sums.{sum_by-append, sum_by-cons}
use Rattle.fz_base.specs.JobBuffers.{slots_buffers}
use Rattle.fz_base.specs.Meter.{Gauge, handed_back, taken}
use Rattle.fz_base.specs.Takings.{PastFirstLaw, PastSecondLaw, TellsShort, first_past, piled}
use Rattle.fz_base.specs.declared.failure.Short.{Short}
use Rattle.fz_base.specs.declared.failure.Short.TheVariants.{NoMemory, OverLimit}
use Rattle.fz_pool.specs.Window.{FillRefused, fresh_bytes, tried}
use Rattle.fz_job.specs.Takes.{Takes, TellsTheLimit}

-- ---- one taking passes the limit, or does not

here : (limit live asked found now : ℕ) (later : Option (ℕ × ℕ)) → limit < live + asked → live ≡ found → asked ≡ now → (if nat_lt limit (live + asked) then Some (live, asked) else later) ≡ Some (found, now)
here limit live asked found now later over one two =
    let test : nat_lt limit (live + asked) ≡ true = grind (arith, nat_tests, over) in
    ap (λ b. if b then Some (live, asked) else later) test ∙ (λ i. Some (one i, two i))

pub behind : (limit live asked : ℕ) (later r : Option (ℕ × ℕ)) → live + asked ≤ limit → later ≡ r → (if nat_lt limit (live + asked) then Some (live, asked) else later) ≡ r
behind limit live asked later r fits e =
    let test : nat_lt limit (live + asked) ≡ false = grind (arith, nat_tests, fits) in
    ap (λ b. if b then Some (live, asked) else later) test ∙ e

-- ---- sums

pub sum_first : (n : ℕ) (ns : List ℕ) → sum (n ∷ ns) ≡ n + sum ns
sum_first n ns = sum_by-cons (λ x. x) n ns

pub sum_both : (xs ys : List ℕ) → sum (xs ++ ys) ≡ sum xs + sum ys
sum_both xs ys = sum_by-append (λ x. x) xs ys

pub sum_one : (n : ℕ) → sum (n ∷ []) ≡ n
sum_one n = let first : sum (n ∷ []) ≡ n + 0 = sum_first n [] in omega (arith, first)

pub sum_slots : (n slots : ℕ) → sum (slots_buffers n slots) ≡ slots * fresh_bytes n
sum_slots n zero = omega arith
sum_slots n (suc slots) =
    let rest : sum (slots_buffers n slots) ≡ slots * fresh_bytes n = sum_slots n slots in
    let one : sum (slots_buffers n (suc slots)) ≡ 8 * n + sum ((8 * n + 64) ∷ slots_buffers n slots) = sum_first (8 * n) ((8 * n + 64) ∷ slots_buffers n slots) in
    let two : sum ((8 * n + 64) ∷ slots_buffers n slots) ≡ 8 * n + 64 + sum (slots_buffers n slots) = sum_first (8 * n + 64) (slots_buffers n slots) in
    let more = suc-mul slots (fresh_bytes n) in
    omega (arith, rest, one, two, more)

piled_both : (live : ℕ) (xs ys : List ℕ) → piled live (xs ++ ys) ≡ piled live xs ++ piled (live + sum xs) ys
piled_both live [] ys = ap (λ l. piled l ys) (let e : live ≡ live + 0 = omega arith in e)
piled_both live (x ∷ xs) ys =
    let first = sum_first x xs in
    let e : live + x + sum xs ≡ live + sum (x ∷ xs) = omega (arith, first) in
    ap (λ (l : List (ℕ × ℕ)). (live, x) ∷ l) (piled_both (live + x) xs ys ∙ ap (λ l. piled (live + x) xs ++ piled l ys) e)

-- ---- some buffers, and then others

twice : (g : Gauge) (m n k : ℕ) → k ≡ m + n → taken (taken g m) n ≡ taken g k
twice g m n k e =
    let live : g.live + m + n ≡ g.live + k = omega (arith, e) in
    let peak : max (max g.peak (g.live + m)) (g.live + m + n) ≡ max g.peak (g.live + k) = omega (arith, e) in
    λ i. record { live = live i; peak = peak i; limit = g.limit }

mid_live : (X : Type 0) (xs : List ℕ) (old mid : Gauge) (x : X) → Takes xs old mid (Ok x) → mid.live ≡ old.live + sum xs
mid_live X xs old mid x first = ap (λ (g : Gauge). g.live) first.all.1

-- what passes the limit first is among the others
among_others : PastSecondLaw → (X : Type 0) (xs ys : List ℕ) (old mid : Gauge) (x : X) (r : Option (ℕ × ℕ)) → Takes xs old mid (Ok x) → first_past mid.limit (piled mid.live ys) ≡ r → first_past old.limit (piled old.live (xs ++ ys)) ≡ r
among_others past_second X xs ys old mid x r first e =
    let live = mid_live X xs old mid x first in
    ap (first_past old.limit) (piled_both old.live xs ys) ∙ (past_second old.limit (piled old.live xs) (piled (old.live + sum xs) ys) first.first_past
    ∙ ((λ i. first_past (sym first.limit i) (piled (sym live i) ys)) ∙ e))

pub both_taken : {X Y Z : Type 0} → PastSecondLaw → (xs ys : List ℕ) (old mid new : Gauge) (x : X) (y : Y) (z : Z) → Takes xs old mid (Ok x) → Takes ys mid new (Ok y) → Takes (xs ++ ys) old new (Ok z)
both_taken {X} past_second xs ys old mid new x y z first second =
    let live = mid_live X xs old mid x first in
    let both = sum_both xs ys in
    record {
      all = (omega (arith, both, live, second.all.0, first.limit), second.all.1 ∙ (ap (λ (g : Gauge). taken g (sum ys)) first.all.1 ∙ twice old (sum xs) (sum ys) (sum (xs ++ ys)) both));
      given_back = tt;
      limit = second.limit ∙ first.limit;
      risen = omega (arith, first.risen, second.risen);
      peak = omega (arith, first.peak, second.peak, live, both);
      first_past = among_others past_second X xs ys old mid x None first second.first_past;
      told = tt;
    }

second_tells : PastSecondLaw → (X Y Z : Type 0) (xs ys : List ℕ) (old mid : Gauge) (x : X) (short : Short) → Takes xs old mid (Ok x) → TellsShort {X = Y} mid.limit (piled mid.live ys) (Err short) → TellsShort {X = Z} old.limit (piled old.live (xs ++ ys)) (Err short)
second_tells past_second X Y Z xs ys old mid x NoMemory first t = tt
second_tells past_second X Y Z xs ys old mid x (OverLimit live asked told) first t = among_others past_second X xs ys old mid x (Some (live, asked)) first t

-- those that were taken first go back
pub second_refused : {X Y Z : Type 0} → PastSecondLaw → (xs ys : List ℕ) (old mid new last : Gauge) (x : X) (short : Short) → Takes xs old mid (Ok x) → Takes {X = Y} ys mid new (Err short) → last ≡ handed_back new (sum xs) →
    Takes {X = Z} (xs ++ ys) old last (Err short)
second_refused {X} {Y} {Z} past_second xs ys old mid new last x short first second back =
    let live = mid_live X xs old mid x first in
    let both = sum_both xs ys in
    let last_live = ap (λ (g : Gauge). g.live) back in
    let last_peak = ap (λ (g : Gauge). g.peak) back in
    let last_limit = ap (λ (g : Gauge). g.limit) back in
    record {
      all = tt;
      given_back = omega (arith, live, last_live, second.given_back);
      limit = last_limit ∙ (second.limit ∙ first.limit);
      risen = omega (arith, first.risen, second.risen, last_peak);
      peak = omega (arith, first.peak, second.peak, last_peak, live, both);
      first_past = second_tells past_second X Y Z xs ys old mid x short first second.first_past;
      told = subst (λ l. TellsTheLimit l short) first.limit second.told;
    }

first_tells : PastFirstLaw → (X Z : Type 0) (xs ys : List ℕ) (old : Gauge) (short : Short) → TellsShort {X = X} old.limit (piled old.live xs) (Err short) → TellsShort {X = Z} old.limit (piled old.live (xs ++ ys)) (Err short)
first_tells past_first X Z xs ys old NoMemory t = tt
first_tells past_first X Z xs ys old (OverLimit live asked told) t =
    ap (first_past old.limit) (piled_both old.live xs ys) ∙ past_first old.limit (live, asked) (piled old.live xs) (piled (old.live + sum xs) ys) t

pub first_refused : {X Z : Type 0} → PastFirstLaw → (xs ys : List ℕ) (old new : Gauge) (short : Short) → Takes {X = X} xs old new (Err short) → Takes {X = Z} (xs ++ ys) old new (Err short)
first_refused {X} {Z} past_first xs ys old new short first =
    let both = sum_both xs ys in
    record {
      all = tt;
      given_back = first.given_back;
      limit = first.limit;
      risen = first.risen;
      peak = omega (arith, first.peak, both);
      first_past = first_tells past_first X Z xs ys old short first.first_past;
      told = first.told;
    }

-- ---- the slots of a window

module _ (n F limit : ℕ) (whole : F ≡ 8 * n + (8 * n + 64)) where
  all_fit : (count live : ℕ) → live + count * F ≤ limit → first_past limit (piled live (slots_buffers n count)) ≡ None
  all_fit zero live fits = refl
  all_fit (suc count) live fits =
      let more = suc-mul count F in
      behind limit live (8 * n) (first_past limit (piled (live + 8 * n) ((8 * n + 64) ∷ slots_buffers n count))) None (omega (arith, whole, more, fits))
      (behind limit (live + 8 * n) (8 * n + 64) (first_past limit (piled (live + 8 * n + (8 * n + 64)) (slots_buffers n count))) None (omega (arith, whole, more, fits))
      (all_fit count (live + 8 * n + (8 * n + 64)) (omega (arith, whole, more, fits))))

  abbrev IsAsked : ℕ → ℕ → ℕ → Type 0
  IsAsked slot spent asked = ((spent ≡ slot * F) × (asked ≡ 8 * n)) ⊎ ((spent ≡ slot * F + 8 * n) × (asked ≡ 8 * n + 64))

  less : (slot spent asked less_spent : ℕ) → spent ≡ less_spent + F → IsAsked (suc slot) spent asked → IsAsked slot less_spent asked
  less slot spent asked less_spent e (inl t) = let more = suc-mul slot F in inl (omega (arith, more, e, t.0), t.1)
  less slot spent asked less_spent e (inr t) = let more = suc-mul slot F in inr (omega (arith, more, e, t.0), t.1)

  at_least : (slot spent asked : ℕ) → IsAsked (suc slot) spent asked → (m : ℕ) × (spent ≡ m + F)
  at_least slot spent asked (inl t) = let more = suc-mul slot F in (slot * F, omega (arith, more, t.0))
  at_least slot spent asked (inr t) = let more = suc-mul slot F in (slot * F + 8 * n, omega (arith, more, t.0))

  one_past : (count slot spent asked live : ℕ) → slot < count → IsAsked slot spent asked → live + spent ≤ limit → limit < live + spent + asked →
      first_past limit (piled live (slots_buffers n count)) ≡ Some (live + spent, asked)
  one_past zero slot spent asked live near is fits over = absurd (omega (arith, near))
  one_past (suc count) zero spent asked live near (inl t) fits over =
      here limit live (8 * n) (live + spent) asked (first_past limit (piled (live + 8 * n) ((8 * n + 64) ∷ slots_buffers n count))) (omega (arith, t.0, t.1, over)) (omega (arith, t.0)) (sym t.1)
  one_past (suc count) zero spent asked live near (inr t) fits over =
      behind limit live (8 * n) (first_past limit (piled (live + 8 * n) ((8 * n + 64) ∷ slots_buffers n count))) (Some (live + spent, asked)) (omega (arith, t.0, fits))
      (here limit (live + 8 * n) (8 * n + 64) (live + spent) asked (first_past limit (piled (live + 8 * n + (8 * n + 64)) (slots_buffers n count))) (omega (arith, t.0, t.1, over)) (omega (arith, t.0)) (sym t.1))
  one_past (suc count) (suc slot) spent asked live near is fits over =
      let m = at_least slot spent asked is in
      let same : (live + 8 * n + (8 * n + 64)) + m.0 ≡ live + spent = omega (arith, whole, m.1) in
      behind limit live (8 * n) (first_past limit (piled (live + 8 * n) ((8 * n + 64) ∷ slots_buffers n count))) (Some (live + spent, asked)) (omega (arith, whole, m.1, fits))
      (behind limit (live + 8 * n) (8 * n + 64) (first_past limit (piled (live + 8 * n + (8 * n + 64)) (slots_buffers n count))) (Some (live + spent, asked)) (omega (arith, whole, m.1, fits))
      (one_past count slot m.0 asked (live + 8 * n + (8 * n + 64)) (omega (arith, near)) (less slot spent asked m.0 m.1 is) (omega (arith, same, fits)) (omega (arith, same, over))
      ∙ ap (λ (l : ℕ). Some (l, asked)) same))

below : (F count slot : ℕ) → slot < count → slot * F + F ≤ count * F
below F zero slot near = absurd (omega (arith, near))
below F (suc count) zero near = let more = suc-mul count F in omega (arith, more)
below F (suc count) (suc slot) near = let more = suc-mul count F in let less = suc-mul slot F in let rest = below F count slot (omega (arith, near)) in omega (arith, more, less, rest)

slots_taken : {X : Type 0} (n count : ℕ) (old new : Gauge) (x : X) → old.live + count * fresh_bytes n ≤ old.limit → new ≡ taken old (count * fresh_bytes n) → Takes (slots_buffers n count) old new (Ok x)
slots_taken n count old new x fits is =
    let all = sum_slots n count in
    let limit = ap (λ (g : Gauge). g.limit) is in
    let peak = ap (λ (g : Gauge). g.peak) is in
    record {
      all = (omega (arith, all, fits), is ∙ ap (taken old) (sym all));
      given_back = tt;
      limit = limit;
      risen = omega (arith, peak);
      peak = omega (arith, peak, all);
      first_past = all_fit n (fresh_bytes n) old.limit refl count old.live fits;
      told = tt;
    }

slot_tells : (X : Type 0) (n count : ℕ) (old : Gauge) (short : Short) → FillRefused old count n short → TellsShort {X = X} old.limit (piled old.live (slots_buffers n count)) (Err short)
slot_tells X n count old NoMemory r = tt
slot_tells X n count old (OverLimit live asked told) r =
    one_past n (fresh_bytes n) old.limit refl count r.slot r.spent r.asked old.live r.near r.taking r.within r.refused.0
    ∙ (λ i. Some (sym r.refused.1 i, sym r.refused.2 i))

slot_told : (n count : ℕ) (old : Gauge) (short : Short) → FillRefused old count n short → TellsTheLimit old.limit short
slot_told n count old NoMemory r = tt
slot_told n count old (OverLimit live asked told) r = (r.refused.3, omega (arith, r.refused.0, r.refused.1, r.refused.2))

spent_within : (F n count slot spent asked : ℕ) → F ≡ 8 * n + (8 * n + 64) → slot < count → ((spent ≡ slot * F) × (asked ≡ 8 * n)) ⊎ ((spent ≡ slot * F + 8 * n) × (asked ≡ 8 * n + 64)) → spent ≤ count * F
spent_within F n count slot spent asked whole near (inl t) = let most = below F count slot near in omega (arith, most, t.0)
spent_within F n count slot spent asked whole near (inr t) = let most = below F count slot near in omega (arith, most, t.0, whole)

slots_refused : (X : Type 0) (n count : ℕ) (old new : Gauge) (short : Short) → (r : FillRefused old count n short) → new ≡ tried old r.spent → Takes {X = X} (slots_buffers n count) old new (Err short)
slots_refused X n count old new short r is =
    let all = sum_slots n count in
    let live = ap (λ (g : Gauge). g.live) is in
    let limit = ap (λ (g : Gauge). g.limit) is in
    let peak = ap (λ (g : Gauge). g.peak) is in
    let most = spent_within (fresh_bytes n) n count r.slot r.spent r.asked refl r.near r.taking in
    record {
      all = tt;
      given_back = live;
      limit = limit;
      risen = omega (arith, peak);
      peak = omega (arith, peak, most, all);
      first_past = slot_tells X n count old short r;
      told = slot_told n count old short r;
    }

-- a window that was filled, or was not
pub fill_takes : {X : Type 0} (n count : ℕ) (old new : Gauge) (result : Result X Short) →
    OnOk result ((old.live + count * fresh_bytes n ≤ old.limit) × (new ≡ taken old (count * fresh_bytes n))) →
    IfErr result (λ short. (r : FillRefused old count n short) × (new ≡ tried old r.spent)) → Takes (slots_buffers n count) old new result
fill_takes n count old new (Ok x) ok err = slots_taken n count old new x ok.0 ok.1
fill_takes {X} n count old new (Err short) ok err = slots_refused X n count old new short err.0 err.1
