-- A write over a list: grow it with zeros, then put the bytes over those at the place.
use Rattle.std.proofs.Common.{◌≡◌, ℕ, ◌+◌, ◌-◌, ◌<◌, ◌≤◌, List, [], ◌∷◌, ◌++◌, length, take, drop, replicate, Option, Some, None, IfSome, refl, sym, ◌∙◌, ap, inl, inr, arith}
use Rattle.std.proofs.lemmas.List.{take_all, drop_all, take-append-le, append-nil, append_assoc, length-append, length-replicate, length-take, length-drop, drop-drop, take-replicate}
use Rattle.std.proofs.Math.Seq.{take-append-add, take-append_seam, drop-append-add, take-add}
use Rattle.std.proofs.lemmas.Bool.{cases_lt}
use Rattle.fz_base.specs.Sink.{overwrite, written}
use Rattle.fz_base.specs.Source.{HoldsLength}

-- the old grown with zeros to this length, or as it is where it is longer
unfoldable pub grown : List ℕ → ℕ → List ℕ
grown old to = old ++ replicate (to - length old) 0

-- what stands before the place
grown-take : (old : List ℕ) (at n : ℕ) → take at (grown old (at + n)) ≡ take at old ++ replicate (at - length old) 0
unfolding grown
grown-take old at n =
    elim (cases_lt at (length old)) [
      | inl h ↦
          let le : at ≤ length old = omega arith in
          let none : at - length old ≡ 0 = omega arith in
          rw (none, append-nil) (take-append-le at old (replicate (at + n - length old) 0) le)
      | inr h ↦
          let split : at ≡ length old + (at - length old) = omega arith in
          let fits : at - length old ≤ at + n - length old = omega arith in
          let whole : take at old ≡ old = take_all at old h in
          let cut : take (length old + (at - length old)) (old ++ replicate (at + n - length old) 0) ≡ old ++ replicate (at - length old) 0 =
          take-append-add old (replicate (at + n - length old) 0) (at - length old) ∙ ap (λ r. old ++ r) (take-replicate (at - length old) (at + n - length old) 0 fits) in
          ap (λ k. take k (old ++ replicate (at + n - length old) 0)) split ∙ cut ∙ ap (λ d. d ++ replicate (at - length old) 0) (sym whole)
    ]

-- what is after the bytes
grown-drop : (old : List ℕ) (to : ℕ) → drop to (grown old to) ≡ drop to old
unfolding grown
grown-drop old to =
    elim (cases_lt to (length old)) [
      | inl h ↦ let none : to - length old ≡ 0 = omega arith in rw (none, append-nil) refl
      | inr h ↦
          let all : length (old ++ replicate (to - length old) 0) ≤ to =
          simp (length-append, length-replicate) (omega arith) in
          drop_all to (old ++ replicate (to - length old) 0) all ∙ sym (drop_all to old h)
    ]

-- the grown contents have the length
pub length-grown : (old : List ℕ) (to : ℕ) → to ≤ length (grown old to)
unfolding grown
length-grown old to = simp (length-append, length-replicate) (omega arith)

-- a write by growing and placing is the write of the definition
pub placed-grown : (old bytes : List ℕ) (at : ℕ) → 0 < length bytes →
    take at (grown old (at + length bytes)) ++ (bytes ++ drop (at + length bytes) (grown old (at + length bytes))) ≡ overwrite at bytes old
placed-grown old [] at h = absurd (omega arith)
placed-grown old (b ∷ bytes) at h =
    rw (grown-take old at (length (b ∷ bytes)), grown-drop old (at + length (b ∷ bytes)))
    (sym (append_assoc (take at old ++ replicate (at - length old) 0) (b ∷ bytes) (drop (at + length (b ∷ bytes)) old)))

-- a write of bytes, also of none
abbrev placed : ℕ → List ℕ → List ℕ → List ℕ
placed at bytes old = ((take at old ++ replicate (at - length old) 0) ++ bytes) ++ drop (at + length bytes) old

length-front : (at : ℕ) (old : List ℕ) → length (take at old ++ replicate (at - length old) 0) ≡ at
length-front at old = simp (length-append, length-replicate, length-take) (omega arith)

placed-next : (at : ℕ) (a b old : List ℕ) → placed (at + length a) b (placed at a old) ≡ placed at (a ++ b) old
placed-next at a b old =
    let p : List ℕ = take at old ++ replicate (at - length old) 0 in
    let q : List ℕ = drop (at + length a) old in
    let size : length (p ++ a) ≡ at + length a = length-append p a ∙ ap (λ n. n + length a) (length-front at old) in
    let front : take (at + length a) ((p ++ a) ++ q) ≡ p ++ a = ap (λ n. take n ((p ++ a) ++ q)) (sym size) ∙ take-append_seam (p ++ a) q in
    let whole : length ((p ++ a) ++ q) ≡ length (p ++ a) + length q = length-append (p ++ a) q in
    let none : (at + length a) - length ((p ++ a) ++ q) ≡ 0 = omega (arith, whole, size) in
    let back : drop ((at + length a) + length b) ((p ++ a) ++ q) ≡ drop (at + length (a ++ b)) old =
    ap (λ n. drop (n + length b) ((p ++ a) ++ q)) (sym size) ∙ drop-append-add (p ++ a) q (length b) ∙ drop-drop (length b) (at + length a) old
    ∙ ap (λ n. drop n old) (sum (length b) at (length a) (length (a ++ b)) (length-append a b)) in
    ap (λ l. ((l ++ replicate ((at + length a) - length ((p ++ a) ++ q)) 0) ++ b) ++ drop ((at + length a) + length b) ((p ++ a) ++ q)) front
    ∙ ap (λ n. (((p ++ a) ++ replicate n 0) ++ b) ++ drop ((at + length a) + length b) ((p ++ a) ++ q)) none
    ∙ ap (λ l. (l ++ b) ++ drop ((at + length a) + length b) ((p ++ a) ++ q)) (append-nil (p ++ a))
    ∙ ap (λ l. ((p ++ a) ++ b) ++ l) back
    ∙ ap (λ l. l ++ drop (at + length (a ++ b)) old) (append_assoc p a b)
  where
    sum : (m n k s : ℕ) → s ≡ k + m → (n + k) + m ≡ n + s
    sum m n k s e = omega (arith, e)

-- it is the write of the definition
pub overwrite-next : (at : ℕ) (a b old : List ℕ) → overwrite (at + length a) b (overwrite at a old) ≡ overwrite at (a ++ b) old
overwrite-next at [] b old = let same : at + 0 ≡ at = omega arith in ap (λ n. overwrite n b old) same
overwrite-next at (x ∷ a) [] old = ap (λ l. overwrite at l old) (sym (append-nil (x ∷ a)))
overwrite-next at (x ∷ a) (y ∷ b) old = placed-next at (x ∷ a) (y ∷ b) old

pub written-next : (at : ℕ) (front back : List ℕ) (contents : Option (List ℕ)) → written (at + length front) back (written at front contents) ≡ written at (front ++ back) contents
written-next at front back None = refl
written-next at front back (Some c) = ap Some (overwrite-next at front back c)

-- after the end
pub written-behind : (bytes contents : List ℕ) → written (length contents) bytes (Some contents) ≡ Some (contents ++ bytes)
written-behind [] contents = ap Some (sym (append-nil contents))
written-behind (b ∷ bytes) contents =
    let none : length contents - length contents ≡ 0 = omega arith in
    let all : take (length contents) contents ≡ contents = take_all (length contents) contents (omega arith) in
    let end : drop (length contents + length (b ∷ bytes)) contents ≡ [] = drop_all (length contents + length (b ∷ bytes)) contents (omega arith) in
    ap Some (rw (none, all, end) (append-nil ((contents ++ []) ++ (b ∷ bytes)) ∙ ap (λ l. l ++ (b ∷ bytes)) (append-nil contents)))

-- one more piece of bytes
pub written-piece : (held old mid new : Option (List ℕ)) (from to done piece : ℕ) → IfSome held (λ g. from + (done + piece) ≤ length g) →
    IfSome held (λ g. mid ≡ written to (take done (drop from g)) old) → IfSome held (λ g. new ≡ written (to + done) (take piece (drop (from + done) g)) mid) →
    IfSome held (λ g. new ≡ written to (take (done + piece) (drop from g)) old)
written-piece None old mid new from to done piece within first second = tt
written-piece (Some g) old mid new from to done piece within first second =
    let left : length (drop from g) ≡ length g - from = length-drop from g in
    let size : length (take done (drop from g)) ≡ done = length-take done (drop from g) ∙ omega (arith, left, within) in
    let behind : drop (from + done) g ≡ drop done (drop from g) = sym (drop-drop done from g) in
    let halves : take done (drop from g) ++ take piece (drop done (drop from g)) ≡ take (done + piece) (drop from g) = sym (take-add done piece (drop from g)) in
    second ∙ ap (λ c. written (to + done) (take piece (drop (from + done) g)) c) first
    ∙ ap (λ l. written (to + done) (take piece l) (written to (take done (drop from g)) old)) behind
    ∙ ap (λ n. written (to + n) (take piece (drop done (drop from g))) (written to (take done (drop from g)) old)) (sym size)
    ∙ written-next to (take done (drop from g)) (take piece (drop done (drop from g))) old
    ∙ ap (λ l. written to l old) halves

-- a place within the attached length
pub held-within : (held : Option (List ℕ)) (len place : ℕ) → HoldsLength held len → place ≤ len → IfSome held (λ g. place ≤ length g)
held-within None len place told within = tt
held-within (Some g) len place told within = omega (arith, told, within)
