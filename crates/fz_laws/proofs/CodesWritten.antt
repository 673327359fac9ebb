-- The codes that a patch writes after the heap: none leaves a gap, and all are there afterwards.
use Rattle.std.specs.Prelude.{⊤}
use Rattle.std.proofs.Common.{◌≡◌, ◌⊎◌, inl, inr, ℕ, zero, suc, ◌+◌, ◌-◌, ◌*◌, ◌^◌, ◌<◌, ◌≤◌, ◌==◌, max, Bool, true, false, List, [], ◌∷◌, ◌++◌, length, take, drop, replicate, if◌then◌else◌, refl, sym, ap, ◌∙◌, subst, arith, append_assoc, length-append, eqb-true, eq-eqb}
use Rattle.std.proofs.lemmas.Bool.{cases_lt}
use Rattle.std.proofs.lemmas.List.{length-replicate}
use Rattle.fz_base.specs.Counts.{Amend}
use Rattle.fz_tile.specs.TileCode.{TileCode}
use Rattle.fz_files.specs.Packed.{heap_of}
use Rattle.fz_laws.specs.Amends.{amend_of, amended, applied}
use Rattle.fz_laws.specs.PatchLaws.{AreInOrder}
use Rattle.fz_laws.specs.Writes.{code_writes, zero_writes}
use Rattle.fz_laws.proofs.Slices.{long_written, slice_before, slice_here}

-- each code has bytes
abbrev pub HaveBytes : List TileCode → Type 0
HaveBytes [] = ⊤
HaveBytes (e ∷ es) = (1 ≤ length e.bytes) × HaveBytes es

pub heap_first : (e : TileCode) (es : List TileCode) → heap_of (e ∷ es) ≡ e.bytes ++ heap_of es
unfolding heap_of
heap_first e es = refl

heap_none : length (heap_of []) ≡ 0
unfolding heap_of
heap_none = refl

pub heap_length : (e : TileCode) (es : List TileCode) → length (heap_of (e ∷ es)) ≡ length e.bytes + length (heap_of es)
heap_length e es = ap length (heap_first e es) ∙ length-append e.bytes (heap_of es)

-- ---- in order

-- later writes are in order in every file that is so long
abbrev pub InOrderFrom : ℕ → List Amend → Type 0
InOrderFrom end ws = (len : ℕ) → end ≤ len → AreInOrder len ws

pub codes_ordered : (start len : ℕ) (es : List TileCode) (rest : List Amend) → HaveBytes es → start ≤ len → start + length (heap_of es) ≤ 2 ^ 62 →
    InOrderFrom (max len (start + length (heap_of es))) rest → AreInOrder len (code_writes start es ++ rest)
codes_ordered start len [] rest some near low more = let none = heap_none in more len (omega arith)
codes_ordered start len (e ∷ es) rest some near low more =
    let all : length (heap_of (e ∷ es)) ≡ length e.bytes + length (heap_of es) = heap_length e es in
    let here = some.0 in
    let parts : start + length e.bytes + length (heap_of es) ≡ start + length (heap_of (e ∷ es)) = omega arith in (
      near,
      omega arith,
      omega arith,
      codes_ordered (start + length e.bytes) (max len (start + length e.bytes)) es rest some.1 (omega arith) (omega arith) (λ l long. more l (omega arith)),
    )

pub zeros_ordered : (start end len : ℕ) (rest : List Amend) → start ≤ end → start ≤ len → end ≤ 2 ^ 62 → InOrderFrom (max len end) rest → AreInOrder len (zero_writes start end ++ rest)
zeros_ordered start end len rest less near low more = by_test (start == end) refl
  where
    by_test : (b : Bool) → (start == end) ≡ b → AreInOrder len ((if b then [] else amend_of start (replicate (end - start) 0) ∷ []) ++ rest)
    by_test true e = let same : start ≡ end = eqb-true start end e in more len (omega arith)
    by_test false e =
        let other : start < end = by_order (cases_lt start end) e in
        let size : length {A = ℕ} (replicate (end - start) 0) ≡ end - start = length-replicate (end - start) 0 in
        (near, omega arith, omega arith, more (max len (start + length {A = ℕ} (replicate (end - start) 0))) (omega arith))
      where
        by_order : (start < end) ⊎ (end ≤ start) → (start == end) ≡ false → start < end
        by_order (inl low) e = low
        by_order (inr high) e = let same : start ≡ end = omega arith in let yes : (start == end) ≡ true = eq-eqb start end same in absurd cc

-- ---- in place

-- writes that end within the file
abbrev pub EndWithin : ℕ → List Amend → Type 0
EndWithin end [] = ⊤
EndWithin end (w ∷ ws) = (0 < length w.bytes) × (w.at + length w.bytes ≤ end) × EndWithin end ws

pub within_both : (end : ℕ) (xs ys : List Amend) → EndWithin end xs → EndWithin end ys → EndWithin end (xs ++ ys)
within_both end [] ys one two = two
within_both end (x ∷ xs) ys one two = (one.0, one.1, within_both end xs ys one.2 two)

pub within_ordered : (end : ℕ) (ws : List Amend) → end ≤ 2 ^ 62 → EndWithin end ws → InOrderFrom end ws
within_ordered end [] low all len long = tt
within_ordered end (w ∷ ws) low all len long =
    let some = all.0 in
    let here = all.1 in
    (omega arith, some, omega arith, within_ordered end ws low all.2 (max len (w.at + length w.bytes)) (omega arith))

-- ---- the codes are there

-- bytes before a place stay
pub before_codes : (start s m : ℕ) (es : List TileCode) (file : List ℕ) → HaveBytes es → start ≤ length file → s + m ≤ start →
    take m (drop s (applied (code_writes start es) file)) ≡ take m (drop s file)
before_codes start s m [] file some near before = refl
before_codes start s m (e ∷ es) file some near before =
    let here = some.0 in
    let long : length (amended (amend_of start e.bytes) file) ≡ max (length file) (start + length e.bytes) = long_written start e.bytes file (omega arith) near in
    before_codes (start + length e.bytes) s m es (amended (amend_of start e.bytes) file) some.1 (omega arith) (omega arith)
    ∙ slice_before start e.bytes file s m (omega arith) near before

pub before_zeros : (start end s m : ℕ) (file : List ℕ) → start ≤ end → start ≤ length file → s + m ≤ start → take m (drop s (applied (zero_writes start end) file)) ≡ take m (drop s file)
before_zeros start end s m file less near before = by_test (start == end) refl
  where
    by_test : (b : Bool) → (start == end) ≡ b → take m (drop s (applied (if b then [] else amend_of start (replicate (end - start) 0) ∷ []) file)) ≡ take m (drop s file)
    by_test true e = refl
    by_test false e =
        let other : start < end = by_order (cases_lt start end) e in
        let size : length {A = ℕ} (replicate (end - start) 0) ≡ end - start = length-replicate (end - start) 0 in
        slice_before start (replicate (end - start) 0) file s m (omega arith) near before
      where
        by_order : (start < end) ⊎ (end ≤ start) → (start == end) ≡ false → start < end
        by_order (inl low) e = low
        by_order (inr high) e = let same : start ≡ end = omega arith in let yes : (start == end) ≡ true = eq-eqb start end same in absurd cc

-- these codes are in a file, one after another from this byte on
abbrev pub CodesAre : List ℕ → ℕ → List TileCode → Type 0
CodesAre file start [] = ⊤
CodesAre file start (e ∷ es) = (take (length e.bytes) (drop start file) ≡ e.bytes) × CodesAre file (start + length e.bytes) es

pub codes_there : (start : ℕ) (es : List TileCode) (file : List ℕ) → HaveBytes es → start ≤ length file → CodesAre (applied (code_writes start es) file) start es
codes_there start [] file some near = tt
codes_there start (e ∷ es) file some near =
    let here = some.0 in
    let long : length (amended (amend_of start e.bytes) file) ≡ max (length file) (start + length e.bytes) = long_written start e.bytes file (omega arith) near in (
      before_codes (start + length e.bytes) start (length e.bytes) es (amended (amend_of start e.bytes) file) some.1 (omega arith) (omega arith)
          ∙ slice_here start e.bytes file (omega arith) near,
      codes_there (start + length e.bytes) es (amended (amend_of start e.bytes) file) some.1 (omega arith),
    )

-- and stay in a file whose bytes from there on are the same
pub codes_stay : (start : ℕ) (es : List TileCode) (file new : List ℕ) → ((s m : ℕ) → start ≤ s → s + m ≤ start + length (heap_of es) → take m (drop s new) ≡ take m (drop s file)) → CodesAre file start es →
    CodesAre new start es
codes_stay start [] file new same are = tt
codes_stay start (e ∷ es) file new same are =
    let all : length (heap_of (e ∷ es)) ≡ length e.bytes + length (heap_of es) = heap_length e es in (
      same start (length e.bytes) (omega arith) (omega arith) ∙ are.0,
      codes_stay (start + length e.bytes) es file new (λ s m low high. same s m (omega arith) (omega arith)) are.1,
    )

-- how long a file is after them
pub codes_long : (start : ℕ) (es : List TileCode) (file : List ℕ) → HaveBytes es → start ≤ length file → length (applied (code_writes start es) file) ≡ max (length file) (start + length (heap_of es))
codes_long start [] file some near = let none = heap_none in omega arith
codes_long start (e ∷ es) file some near =
    let here = some.0 in
    let all : length (heap_of (e ∷ es)) ≡ length e.bytes + length (heap_of es) = heap_length e es in
    let long : length (amended (amend_of start e.bytes) file) ≡ max (length file) (start + length e.bytes) = long_written start e.bytes file (omega arith) near in
    let rest : length (applied (code_writes (start + length e.bytes) es) (amended (amend_of start e.bytes) file)) ≡ max (length (amended (amend_of start e.bytes) file)) (start + length e.bytes + length (heap_of es)) =
    codes_long (start + length e.bytes) es (amended (amend_of start e.bytes) file) some.1 (omega arith) in
    omega arith

pub zeros_long : (start end : ℕ) (file : List ℕ) → start ≤ end → start ≤ length file → length (applied (zero_writes start end) file) ≡ max (length file) end
zeros_long start end file less near = by_test (start == end) refl
  where
    by_test : (b : Bool) → (start == end) ≡ b → length (applied (if b then [] else amend_of start (replicate (end - start) 0) ∷ []) file) ≡ max (length file) end
    by_test true e = let same : start ≡ end = eqb-true start end e in omega arith
    by_test false e =
        let other : start < end = by_order (cases_lt start end) e in
        let size : length {A = ℕ} (replicate (end - start) 0) ≡ end - start = length-replicate (end - start) 0 in
        let long : length (amended (amend_of start (replicate (end - start) 0)) file) ≡ max (length file) (start + length {A = ℕ} (replicate (end - start) 0)) =
        long_written start (replicate (end - start) 0) file (omega arith) near in
        omega arith
      where
        by_order : (start < end) ⊎ (end ≤ start) → (start == end) ≡ false → start < end
        by_order (inl low) e = low
        by_order (inr high) e = let same : start ≡ end = omega arith in let yes : (start == end) ≡ true = eq-eqb start end same in absurd cc
