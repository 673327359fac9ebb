-- An instruction has a checked effect exactly where nothing refuses it, and then that effect is the table's.
use Rattle.std.proofs.Common.{◌≡◌, ◌≢◌, ℕ, zero, suc, ◌+◌, ◌-◌, ◌*◌, ◌^◌, ◌<◌, ◌≤◌, ◌⊎◌, inl, inr, Bool, true, false, cond, Option, Some, None, refl, subst, arith, ltb, eqb}
use Rattle.std.specs.Prelude.{⊤, MatchOption}
use Rattle.std.proofs.lemmas.Bool.Decides.{nat_tests}
use Rattle.fz_plio.specs.Instructions.{Instruction}
use Rattle.fz_plio.specs.Meaning.{Effect, does, effect, LeavesRange}
use Rattle.fz_plio.specs.Reading.{checked_effect}

-- what an optional effect after a test says
some_if : {X : Type 0} (b : Bool) (x y : X) → cond b (Some x) None ≡ Some y → (b ≡ true) × (x ≡ y)
some_if true x y e = (refl, cc)
some_if false x y e = cc

some_unless : {X : Type 0} (b : Bool) (x y : X) → cond b None (Some x) ≡ Some y → (b ≡ false) × (x ≡ y)
some_unless true x y e = cc
some_unless false x y e = (refl, cc)

none_if : {X : Type 0} (b : Bool) (x : X) → cond b (Some x) None ≡ None → b ≡ false
none_if true x e = cc
none_if false x e = refl

none_unless : {X : Type 0} (b : Bool) (x : X) → cond b None (Some x) ≡ None → b ≡ true
none_unless true x e = refl
none_unless false x e = cc

pub below : (a b : ℕ) → ltb a b ≡ true → a < b
below a b e = grind (arith, nat_tests)

pub not_below : (a b : ℕ) → ltb a b ≡ false → b ≤ a
not_below a b e = grind (arith, nat_tests)

-- a fact of each operation, and of the numbers that are none
by_operation : (P : ℕ → Type 0) → P 0 → P 1 → P 2 → P 3 → P 4 → P 5 → P 6 → P 7 → ((k : ℕ) → 8 ≤ k → P k) → (operation : ℕ) → P operation
by_operation P p0 p1 p2 p3 p4 p5 p6 p7 p8 zero = p0
by_operation P p0 p1 p2 p3 p4 p5 p6 p7 p8 (suc zero) = p1
by_operation P p0 p1 p2 p3 p4 p5 p6 p7 p8 (suc (suc zero)) = p2
by_operation P p0 p1 p2 p3 p4 p5 p6 p7 p8 (suc (suc (suc zero))) = p3
by_operation P p0 p1 p2 p3 p4 p5 p6 p7 p8 (suc (suc (suc (suc zero)))) = p4
by_operation P p0 p1 p2 p3 p4 p5 p6 p7 p8 (suc (suc (suc (suc (suc zero))))) = p5
by_operation P p0 p1 p2 p3 p4 p5 p6 p7 p8 (suc (suc (suc (suc (suc (suc zero)))))) = p6
by_operation P p0 p1 p2 p3 p4 p5 p6 p7 p8 (suc (suc (suc (suc (suc (suc (suc zero))))))) = p7
by_operation P p0 p1 p2 p3 p4 p5 p6 p7 p8 (suc (suc (suc (suc (suc (suc (suc (suc k)))))))) = p8 _ (omega arith)

abbrev pub an : ℕ → ℕ → Option ℕ → Instruction
an operation n second = record { operation = operation; number = n; second = second }

-- an instruction that is not refused, and its effect
pub record IsLawful (h operation n : ℕ) (second : Option ℕ) (e : Effect) : Type 0 where
  pub same : effect h (an operation n second) ≡ e
  pub lowers : (operation ≡ 3) ⊎ (operation ≡ 7) → n ≤ h
  pub in_range : e.high < 2 ^ 24
  pub has_high : operation ≡ 5 → 0 < n
  pub known : operation < 8
  pub has_second : (operation ≡ 1) × MatchOption second ⊤ (λ v. 4095 < v) → ⊥

-- what a checked effect says of its instruction
abbrev pub Checks : ℕ → ℕ → Option ℕ → ℕ → Type 0
Checks h n second operation = (e : Effect) → checked_effect h (an operation n second) ≡ Some e → IsLawful h operation n second e

lawful_at : {h operation n : ℕ} {second : Option ℕ} (x e : Effect) → x ≡ e → IsLawful h operation n second x → IsLawful h operation n second e
lawful_at {h} {operation} {n} {second} x e same lawful = subst (λ (y : Effect). IsLawful h operation n second y) same lawful

-- an instruction that neither lowers the high value nor is operation 1 or 5
plain : (h operation n : ℕ) (second : Option ℕ) (e : Effect) → effect h (an operation n second) ≡ e → e.high < 2 ^ 24 → operation ≢ 1 → operation ≢ 3 → operation ≢ 5 → operation ≢ 7 → operation < 8 → IsLawful h operation n second e
plain h operation n second e same in_range one three five seven known = record {
  same = same;
  lowers = λ q. elim q [ inl x ↦ absurd (three x) | inr x ↦ absurd (seven x) ];
  in_range = in_range;
  has_high = λ x. absurd (five x);
  known = known;
  has_second = λ q. one q.0;
}

checks-zeros : (h n : ℕ) (second : Option ℕ) → h < 2 ^ 24 → Checks h n second 0
unfolding effect checked_effect
checks-zeros h n second in_range e c =
    lawful_at (does h n 0) e (cc) (plain h 0 n second _ refl in_range (omega arith) (omega arith) (omega arith) (omega arith) (omega arith))

checks-set_high : (h n : ℕ) (second : Option ℕ) → n < 4096 → Checks h n second 1
unfolding effect checked_effect
checks-set_high h n None number e c = cc
checks-set_high h n (Some second) number e c =
    let test = some_unless (ltb 4095 second) (does (n + 4096 * second) 0 0) e c in
    let small = not_below 4095 second test.0 in
    lawful_at (does (n + 4096 * second) 0 0) e test.1 (record {
      same = refl;
      lowers = λ q. elim q [ inl x ↦ absurd (omega arith) | inr x ↦ absurd (omega arith) ];
      in_range = omega arith;
      has_high = λ x. absurd (omega arith);
      known = omega arith;
      has_second = λ q. absurd (omega (arith, q.1));
    })

checks-raise : (h n : ℕ) (second : Option ℕ) → Checks h n second 2
unfolding effect checked_effect
checks-raise h n second e c =
    let test = some_if (ltb (h + n) (2 ^ 24)) (does (h + n) 0 0) e c in
    let small = below (h + n) (2 ^ 24) test.0 in
    lawful_at (does (h + n) 0 0) e test.1 (plain h 2 n second _ refl small (omega arith) (omega arith) (omega arith) (omega arith) (omega arith))

-- an instruction that lowers the high value
lowering : (h operation n : ℕ) (second : Option ℕ) (e : Effect) → effect h (an operation n second) ≡ e → e.high < 2 ^ 24 → n ≤ h → operation ≢ 1 → operation ≢ 5 → operation < 8 → IsLawful h operation n second e
lowering h operation n second e same in_range enough one five known = record {
  same = same;
  lowers = λ _. enough;
  in_range = in_range;
  has_high = λ x. absurd (five x);
  known = known;
  has_second = λ q. one q.0;
}

checks-lower : (h n : ℕ) (second : Option ℕ) → h < 2 ^ 24 → Checks h n second 3
unfolding effect checked_effect
checks-lower h n second in_range e c =
    let test = some_unless (ltb h n) (does (h - n) 0 0) e c in
    let enough = not_below h n test.0 in
    lawful_at (does (h - n) 0 0) e test.1 (lowering h 3 n second _ refl (omega arith) enough (omega arith) (omega arith) (omega arith))

checks-highs : (h n : ℕ) (second : Option ℕ) → h < 2 ^ 24 → Checks h n second 4
unfolding effect checked_effect
checks-highs h n second in_range e c =
    lawful_at (does h 0 n) e (cc) (plain h 4 n second _ refl in_range (omega arith) (omega arith) (omega arith) (omega arith) (omega arith))

checks-zeros_then_high : (h n : ℕ) (second : Option ℕ) → h < 2 ^ 24 → Checks h n second 5
unfolding effect checked_effect
checks-zeros_then_high h n second in_range e c =
    let test = some_unless (eqb n 0) (does h (n - 1) 1) e c in
    let some : 0 < n = grind (arith, nat_tests, test.0) in
    lawful_at (does h (n - 1) 1) e test.1 (record {
      same = refl;
      lowers = λ q. elim q [ inl x ↦ absurd (omega arith) | inr x ↦ absurd (omega arith) ];
      in_range = in_range;
      has_high = λ _. some;
      known = omega arith;
      has_second = λ q. absurd (omega (arith, q.0));
    })

checks-raise_then_high : (h n : ℕ) (second : Option ℕ) → Checks h n second 6
unfolding effect checked_effect
checks-raise_then_high h n second e c =
    let test = some_if (ltb (h + n) (2 ^ 24)) (does (h + n) 0 1) e c in
    let small = below (h + n) (2 ^ 24) test.0 in
    lawful_at (does (h + n) 0 1) e test.1 (plain h 6 n second _ refl small (omega arith) (omega arith) (omega arith) (omega arith) (omega arith))

checks-lower_then_high : (h n : ℕ) (second : Option ℕ) → h < 2 ^ 24 → Checks h n second 7
unfolding effect checked_effect
checks-lower_then_high h n second in_range e c =
    let test = some_unless (ltb h n) (does (h - n) 0 1) e c in
    let enough = not_below h n test.0 in
    lawful_at (does (h - n) 0 1) e test.1 (lowering h 7 n second _ refl (omega arith) enough (omega arith) (omega arith) (omega arith))

differs : (a b : ℕ) → a ≢ b → eqb a b ≡ false
differs a b ne = grind (arith, nat_tests)

unknown_is_none : (h n operation : ℕ) (second : Option ℕ) → 8 ≤ operation → checked_effect h (an operation n second) ≡ None
unfolding checked_effect
unknown_is_none h n operation second high =
    let zero_no = differs operation 0 (omega arith) in
    let one_no = differs operation 1 (omega arith) in
    let two_no = differs operation 2 (omega arith) in
    let three_no = differs operation 3 (omega arith) in
    let four_no = differs operation 4 (omega arith) in
    let five_no = differs operation 5 (omega arith) in
    let six_no = differs operation 6 (omega arith) in
    let seven_no = differs operation 7 (omega arith) in
    rw (one_no, zero_no, two_no, three_no, four_no, five_no, six_no, seven_no) refl

pub checks : (h n : ℕ) (second : Option ℕ) (operation : ℕ) → h < 2 ^ 24 → n < 4096 → Checks h n second operation
checks h n second operation in_range number =
    by_operation (Checks h n second)
    (checks-zeros h n second in_range)
    (checks-set_high h n second number)
    (checks-raise h n second)
    (checks-lower h n second in_range)
    (checks-highs h n second in_range)
    (checks-zeros_then_high h n second in_range)
    (checks-raise_then_high h n second)
    (checks-lower_then_high h n second in_range)
    (λ k high e c. let none = unknown_is_none h n k second high in cc)
    operation

-- why an instruction is refused
abbrev pub IsFaulty : ℕ → Instruction → Type 0
IsFaulty h i = LeavesRange h i ⊎ (((i.operation ≡ 5) × (i.number ≡ 0)) ⊎ ((8 ≤ i.operation) ⊎ ((i.operation ≡ 1) × MatchOption i.second ⊤ (λ v. 4095 < v))))

abbrev pub Fails : ℕ → ℕ → Option ℕ → ℕ → Type 0
Fails h n second operation = checked_effect h (an operation n second) ≡ None → IsFaulty h (an operation n second)

fails-set_high : (h n : ℕ) (second : Option ℕ) → Fails h n second 1
unfolding effect checked_effect
fails-set_high h n None c = inr (inr (inr (refl, tt)))
fails-set_high h n (Some second) c = inr (inr (inr (refl, below 4095 second (none_unless (ltb 4095 second) _ c))))

fails-raise : (h n : ℕ) (second : Option ℕ) → Fails h n second 2
unfolding effect checked_effect
fails-raise h n second c = inl (inr (not_below (h + n) (2 ^ 24) (none_if (ltb (h + n) (2 ^ 24)) _ c)))

fails-lower : (h n : ℕ) (second : Option ℕ) → Fails h n second 3
unfolding effect checked_effect
fails-lower h n second c = inl (inl (inl refl, below h n (none_unless (ltb h n) _ c)))

fails-zeros_then_high : (h n : ℕ) (second : Option ℕ) → Fails h n second 5
unfolding effect checked_effect
fails-zeros_then_high h n second c = let zero_number : n ≡ 0 = grind (arith, nat_tests, none_unless (eqb n 0) (does h (n - 1) 1) c) in inr (inl (refl, zero_number))

fails-raise_then_high : (h n : ℕ) (second : Option ℕ) → Fails h n second 6
unfolding effect checked_effect
fails-raise_then_high h n second c = inl (inr (not_below (h + n) (2 ^ 24) (none_if (ltb (h + n) (2 ^ 24)) _ c)))

fails-lower_then_high : (h n : ℕ) (second : Option ℕ) → Fails h n second 7
unfolding effect checked_effect
fails-lower_then_high h n second c = inl (inl (inr refl, below h n (none_unless (ltb h n) _ c)))

fails-zeros : (h n : ℕ) (second : Option ℕ) → Fails h n second 0
unfolding checked_effect
fails-zeros h n second c = cc

fails-highs : (h n : ℕ) (second : Option ℕ) → Fails h n second 4
unfolding checked_effect
fails-highs h n second c = cc

pub fails : (h n : ℕ) (second : Option ℕ) (operation : ℕ) → Fails h n second operation
fails h n second operation =
    by_operation (Fails h n second)
    (fails-zeros h n second)
    (fails-set_high h n second)
    (fails-raise h n second)
    (fails-lower h n second)
    (fails-highs h n second)
    (fails-zeros_then_high h n second)
    (fails-raise_then_high h n second)
    (fails-lower_then_high h n second)
    (λ k high c. inr (inr (inl high)))
    operation
