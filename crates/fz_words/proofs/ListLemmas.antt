-- Lists between commas, piece by piece.
use Rattle.std.proofs.Common.{◌≡◌, ℕ, zero, suc, ◌+◌, ◌-◌, ◌<◌, ◌≤◌, Bool, true, false, cond, List, [], ◌∷◌, ◌++◌, length, map, drop, take, get_or, set, replicate, inl, inr, sym, refl, ap, ◌∙◌, subst, arith, append_assoc, length-append}
use Rattle.std.specs.Prelude.{◌==◌, ◌⊎◌, ◌≢◌, IfNone, not, nat_le, nat_lt, Option, Some, None}
use Rattle.std.specs.List.{after_first, before_first, onto_first, position_or_len, slice_split}
use Rattle.std.specs.Option.{option_and_then, option_map}
use Rattle.std.proofs.Math.Seq.{set-append_seam}
use Rattle.std.proofs.lemmas.Bool.Decides.{nat_tests}
use Rattle.std.proofs.lemmas.Bool.{cases_lt}
use Rattle.std.proofs.lemmas.Grind.{get_or-set_at}
use Rattle.std.proofs.lemmas.List.{get_or-set_other, length-drop, length-replicate, length-map, map-append, take_all}
use Rattle.std.proofs.lemmas.List.Splits.{slice_split_first}
use Rattle.fz_block.specs.declared.axes.Axes.{Axes}
use Rattle.fz_grid.specs.declared.sieve.Sieve.{Sieve}
use Rattle.fz_words.specs.Cut.{before_byte, behind_byte, pieces}
use Rattle.fz_words.specs.Values.{Range, all_some, at_most_nine, axes_of, box_in, length_in, lengths_in, nine, range_in, sieve_of}

-- the pieces behind the first
abbrev pub pieces_behind : ℕ → Option (List ℕ) → List (List ℕ)
pieces_behind at None = []
pieces_behind at (Some text) = pieces at text

whole-step : (t : Bool) (x : ℕ) (xs : List ℕ) (n : ℕ) (rest : List (List ℕ)) → (length xs ≤ n → rest ≡ xs ∷ []) → length (x ∷ xs) ≤ cond (not t) (1 + n) 0 → cond t ([] ∷ rest) (onto_first x rest) ≡ (x ∷ xs) ∷ []
whole-step true x xs n rest others high = absurd (omega (arith, high))
whole-step false x xs n rest others high = ap (onto_first x) (others (omega (arith, high)))

-- a text without the byte is the one piece
whole : (at : ℕ) (text : List ℕ) → length text ≤ position_or_len (λ b. b == at) text → slice_split (λ b. b == at) text ≡ text ∷ []
whole at [] high = refl
whole at (x ∷ xs) high = whole-step (x == at) x xs (position_or_len (λ b. b == at) xs) (slice_split (λ b. b == at) xs) (whole at xs) high

is-below : (m n : ℕ) → nat_lt m n ≡ true → m < n
is-below m n h = grind (arith, nat_tests)

not-below : (m n : ℕ) → nat_lt m n ≡ false → n ≤ m
not-below m n h = grind (arith, nat_tests)

cut-by : (t : Bool) (at : ℕ) (text : List ℕ) → nat_lt (position_or_len (λ b. b == at) text) (length text) ≡ t → pieces at text ≡ before_byte at text ∷ pieces_behind at (cond t (Some (after_first (λ b. b == at) text)) None)
cut-by true at text h = slice_split_first (λ b. b == at) text 0 (is-below _ _ h)
cut-by false at text h =
    let high = not-below (position_or_len (λ b. b == at) text) (length text) h in
    whole at text high ∙ ap (λ piece. piece ∷ []) (sym (take_all (position_or_len (λ b. b == at) text) text high))

-- the pieces are the first and those behind it
pub pieces-cut : (at : ℕ) (text : List ℕ) → pieces at text ≡ before_byte at text ∷ pieces_behind at (behind_byte at text)
pieces-cut at text = cut-by (nat_lt (position_or_len (λ b. b == at) text) (length text)) at text refl

-- how much is left to read
abbrev pub left_of : Option (List ℕ) → ℕ
left_of None = 0
left_of (Some text) = length text + 1

less-by : (t : Bool) (at : ℕ) (text : List ℕ) → nat_lt (position_or_len (λ b. b == at) text) (length text) ≡ t → left_of (cond t (Some (after_first (λ b. b == at) text)) None) < length text + 1
less-by true at text h =
    let low = is-below (position_or_len (λ b. b == at) text) (length text) h in
    let long = length-drop (position_or_len (λ b. b == at) text + 1) text in
    omega (arith, low, long)
less-by false at text h = omega arith

pub left-less : (at : ℕ) (text : List ℕ) (behind : Option (List ℕ)) → behind ≡ behind_byte at text → left_of behind < length text + 1
left-less at text behind same = rw same (less-by (nat_lt (position_or_len (λ b. b == at) text) (length text)) at text refl)

-- what was read, and then the rest
abbrev pub joined : {A : Type 0} → (List ℕ → Option A) → List A → Option (List ℕ) → Option (List A)
joined read xs None = Some xs
joined read xs (Some text) = option_map (λ others. xs ++ others) (all_some (map read (pieces 44 text)))

map-twice : {A : Type 0} (xs : List A) (v : A) (r : Option (List A)) → option_map (λ others. xs ++ others) (option_map (λ others. v ∷ others) r) ≡ option_map (λ others. (xs ++ v ∷ []) ++ others) r
map-twice xs v None = refl
map-twice xs v (Some others) = ap (λ o. Some o) (sym (append_assoc xs (v ∷ []) others))

pieces-joined : {A : Type 0} (read : List ℕ → Option A) (xs : List A) (v : A) (behind : Option (List ℕ)) → option_map (λ others. xs ++ others) (all_some (Some v ∷ map read (pieces_behind 44 behind))) ≡ joined read (xs ++ v ∷ []) behind
pieces-joined read xs v None = refl
pieces-joined read xs v (Some text) = map-twice xs v (all_some (map read (pieces 44 text)))

-- one piece more was read
pub joined-next : {A : Type 0} (read : List ℕ → Option A) (xs : List A) (text before : List ℕ) (behind : Option (List ℕ)) (v : A) → before ≡ before_byte 44 text → behind ≡ behind_byte 44 text → read before ≡ Some v → joined read xs (Some text) ≡ joined read (xs ++ v ∷ []) behind
joined-next read xs text before behind v same-before same-behind got =
    let cut : pieces 44 text ≡ before ∷ pieces_behind 44 behind = rw (same-before, same-behind) (pieces-cut 44 text) in
    ap (λ ps. option_map (λ others. xs ++ others) (all_some (map read ps))) cut
    ∙ ap (λ r. option_map (λ others. xs ++ others) (all_some (r ∷ map read (pieces_behind 44 behind)))) got
    ∙ pieces-joined read xs v behind

-- a piece that is none
pub joined-none : {A : Type 0} (read : List ℕ → Option A) (xs : List A) (text before : List ℕ) → before ≡ before_byte 44 text → read before ≡ None → joined read xs (Some text) ≡ None
joined-none read xs text before same got =
    let cut : pieces 44 text ≡ before ∷ pieces_behind 44 (behind_byte 44 text) = rw same (pieces-cut 44 text) in
    ap (λ ps. option_map (λ others. xs ++ others) (all_some (map read ps))) cut
    ∙ ap (λ r. option_map (λ others. xs ++ others) (all_some (r ∷ map read (pieces_behind 44 (behind_byte 44 text))))) got

too-many : (n : ℕ) → 9 < n → nat_le n 9 ≡ false
too-many n many = grind (arith, nat_tests)

few-enough : (n : ℕ) → n ≤ 9 → nat_le n 9 ≡ true
few-enough n few = grind (arith, nat_tests)

more-than-nine : {A : Type 0} (xs : List A) (v : A) (others : List A) → length xs ≡ 9 → at_most_nine (xs ++ v ∷ others) ≡ None
more-than-nine xs v others full =
    let long = length-append xs (v ∷ others) in
    rw (too-many (length (xs ++ v ∷ others)) (omega (arith, long, full))) refl

full-with : {A : Type 0} (xs : List A) (first : Option A) (r : Option (List A)) (rs : List (Option A)) → length xs ≡ 9 → all_some rs ≡ r → option_and_then at_most_nine (option_map (λ others. xs ++ others) (all_some (first ∷ rs))) ≡ None
full-with xs None r rs full same = refl
full-with xs (Some v) None rs full same = rw same refl
full-with xs (Some v) (Some others) rs full same = rw same (more-than-nine xs v others full)

-- a piece behind nine
pub joined-full : {A : Type 0} (read : List ℕ → Option A) (xs : List A) (text : List ℕ) → length xs ≡ 9 → option_and_then at_most_nine (joined read xs (Some text)) ≡ None
joined-full read xs text full =
    ap (λ ps. option_and_then at_most_nine (option_map (λ others. xs ++ others) (all_some (map read ps)))) (pieces-cut 44 text)
    ∙ full-with xs (read (before_byte 44 text)) (all_some (map read (pieces_behind 44 (behind_byte 44 text)))) (map read (pieces_behind 44 (behind_byte 44 text))) full refl

map-none : {A : Type 0} (r : Option (List A)) → r ≡ option_map (λ others. [] ++ others) r
map-none None = refl
map-none (Some others) = refl

-- nothing was read
pub joined-first : {A : Type 0} (read : List ℕ → Option A) (text : List ℕ) → all_some (map read (pieces 44 text)) ≡ joined read [] (Some text)
joined-first read text = map-none (all_some (map read (pieces 44 text)))

-- all was read
pub joined-last : {A : Type 0} (xs : List A) → length xs ≤ 9 → option_and_then at_most_nine (Some xs) ≡ Some xs
joined-last xs few = rw (few-enough (length xs) few) refl

seam : (xs : List ℕ) (v m : ℕ) → set (xs ++ replicate (suc m) 0) (length xs) v ≡ xs ++ v ∷ replicate m 0
seam xs v m = set-append_seam xs 0 (replicate m 0) v

-- one entry more
pub nine-push : (xs : List ℕ) (v : ℕ) → length xs < 9 → set (nine xs) (length xs) v ≡ nine (xs ++ v ∷ [])
nine-push xs v few =
    let long : length (xs ++ v ∷ []) ≡ length xs + 1 = length-append xs (v ∷ []) in
    let front : 9 - length xs ≡ suc (9 - length (xs ++ v ∷ [])) = omega (arith, long) in
    ap (λ n. set (xs ++ replicate n 0) (length xs) v) front
    ∙ seam xs v (9 - length (xs ++ v ∷ []))
    ∙ sym (append_assoc xs (v ∷ []) (replicate (9 - length (xs ++ v ∷ [])) 0))

pub nine-map-push : {A : Type 0} (f : A → ℕ) (xs : List A) (v : A) → length xs < 9 → set (nine (map f xs)) (length xs) (f v) ≡ nine (map f (xs ++ v ∷ []))
nine-map-push f xs v few =
    let long : length (map f xs) ≡ length xs = length-map xs f in
    ap (λ n. set (nine (map f xs)) n (f v)) (sym long)
    ∙ nine-push (map f xs) (f v) (omega (arith, long))
    ∙ ap nine (sym (map-append f xs (v ∷ [])))

-- the lengths that were read, and the rest of the text
pub record LengthsRead (text : List ℕ) (n : ℕ) (table : List ℕ) (rest : Option (List ℕ)) : Type 0 where
  pub xs : List ℕ
  pub count : n ≡ length xs
  pub entries : table ≡ nine xs
  pub few : length xs ≤ 9
  pub read : all_some (map length_in (pieces 44 text)) ≡ joined length_in xs rest

pub lengths-start : (text : List ℕ) → LengthsRead text 0 (nine []) (Some text)
lengths-start text = record { xs = []; count = refl; entries = refl; few = omega arith; read = joined-first length_in text }

pub lengths-next : (text : List ℕ) (n : ℕ) (table part before : List ℕ) (behind : Option (List ℕ)) (v : ℕ) → LengthsRead text n table (Some part) → n < 9 → before ≡ before_byte 44 part → behind ≡ behind_byte 44 part → length_in before ≡ Some v → LengthsRead text (n + 1) (set table n v) behind
lengths-next text n table part before behind v h low same-before same-behind got =
    let long = length-append h.xs (v ∷ []) in
    let few : length h.xs < 9 = omega (arith, h.count, low) in
    record {
      xs = h.xs ++ v ∷ [];
      count = omega (arith, long, h.count);
      entries = (λ i. set (h.entries i) (h.count i) v) ∙ nine-push h.xs v few;
      few = omega (arith, long, few);
      read = h.read ∙ joined-next length_in h.xs part before behind v same-before same-behind got;
    }

pub lengths-none : (text : List ℕ) (n : ℕ) (table part before : List ℕ) → LengthsRead text n table (Some part) → before ≡ before_byte 44 part → length_in before ≡ None → None ≡ lengths_in text
lengths-none text n table part before h same got =
    sym (ap (λ r. option_map axes_of (option_and_then at_most_nine r)) (h.read ∙ joined-none length_in h.xs part before same got))

pub lengths-full : (text : List ℕ) (n : ℕ) (table part : List ℕ) → LengthsRead text n table (Some part) → n ≡ 9 → None ≡ lengths_in text
lengths-full text n table part h full =
    sym (ap (λ r. option_map axes_of (option_and_then at_most_nine r)) h.read ∙ ap (option_map axes_of) (joined-full length_in h.xs part (sym h.count ∙ full)))

pub lengths-end : (text : List ℕ) (axes : Axes) (rest : Option (List ℕ)) → LengthsRead text axes.n axes.len rest → rest ≡ None → Some axes ≡ lengths_in text
lengths-end text axes rest h end =
    let all : all_some (map length_in (pieces 44 text)) ≡ Some h.xs = h.read ∙ ap (joined length_in h.xs) end in
    let is : axes ≡ axes_of h.xs = λ i. record { n = h.count i; len = h.entries i } in
    sym (ap (λ r. option_map axes_of (option_and_then at_most_nine r)) all ∙ ap (option_map axes_of) (joined-last h.xs h.few) ∙ ap (λ a. Some a) (sym is))

-- the ranges that were read, and the rest of the text
pub record RangesRead (text : List ℕ) (n : ℕ) (lo hi step : List ℕ) (rest : Option (List ℕ)) : Type 0 where
  pub xs : List Range
  pub count : n ≡ length xs
  pub los : lo ≡ nine (map (λ r. r.lo - 1) xs)
  pub his : hi ≡ nine (map (λ r. r.hi - 1) xs)
  pub steps : step ≡ nine (map (λ r. r.step) xs)
  pub few : length xs ≤ 9
  pub read : all_some (map range_in (pieces 44 text)) ≡ joined range_in xs rest

pub ranges-start : (text : List ℕ) → RangesRead text 0 (nine []) (nine []) (nine []) (Some text)
ranges-start text = record { xs = []; count = refl; los = refl; his = refl; steps = refl; few = omega arith; read = joined-first range_in text }

pub ranges-next : (text : List ℕ) (n : ℕ) (lo hi step part before : List ℕ) (behind : Option (List ℕ)) (v : Range) → RangesRead text n lo hi step (Some part) → n < 9 → before ≡ before_byte 44 part → behind ≡ behind_byte 44 part → range_in before ≡ Some v → RangesRead text (n + 1) (set lo n (v.lo - 1)) (set hi n (v.hi - 1)) (set step n v.step) behind
ranges-next text n lo hi step part before behind v h low same-before same-behind got =
    let long = length-append h.xs (v ∷ []) in
    let few : length h.xs < 9 = omega (arith, h.count, low) in
    record {
      xs = h.xs ++ v ∷ [];
      count = omega (arith, long, h.count);
      los = (λ i. set (h.los i) (h.count i) (v.lo - 1)) ∙ nine-map-push (λ (r : Range). r.lo - 1) h.xs v few;
      his = (λ i. set (h.his i) (h.count i) (v.hi - 1)) ∙ nine-map-push (λ (r : Range). r.hi - 1) h.xs v few;
      steps = (λ i. set (h.steps i) (h.count i) v.step) ∙ nine-map-push (λ (r : Range). r.step) h.xs v few;
      few = omega (arith, long, few);
      read = h.read ∙ joined-next range_in h.xs part before behind v same-before same-behind got;
    }

pub ranges-none : (text : List ℕ) (n : ℕ) (lo hi step part before : List ℕ) → RangesRead text n lo hi step (Some part) → before ≡ before_byte 44 part → range_in before ≡ None → None ≡ box_in text
ranges-none text n lo hi step part before h same got =
    sym (ap (λ r. option_map sieve_of (option_and_then at_most_nine r)) (h.read ∙ joined-none range_in h.xs part before same got))

pub ranges-full : (text : List ℕ) (n : ℕ) (lo hi step part : List ℕ) → RangesRead text n lo hi step (Some part) → n ≡ 9 → None ≡ box_in text
ranges-full text n lo hi step part h full =
    sym (ap (λ r. option_map sieve_of (option_and_then at_most_nine r)) h.read ∙ ap (option_map sieve_of) (joined-full range_in h.xs part (sym h.count ∙ full)))

pub ranges-end : (text : List ℕ) (sieve : Sieve) (rest : Option (List ℕ)) → RangesRead text sieve.n sieve.lo sieve.hi sieve.step rest → rest ≡ None → Some sieve ≡ box_in text
ranges-end text sieve rest h end =
    let all : all_some (map range_in (pieces 44 text)) ≡ Some h.xs = h.read ∙ ap (joined range_in h.xs) end in
    let is : sieve ≡ sieve_of h.xs = λ i. record { n = h.count i; lo = h.los i; hi = h.his i; step = h.steps i } in
    sym (ap (λ r. option_map sieve_of (option_and_then at_most_nine r)) all ∙ ap (option_map sieve_of) (joined-last h.xs h.few) ∙ ap (λ s. Some s) (sym is))

-- a fact of each entry of a table, where one entry more has it
pub each-next : (P : ℕ → Type 0) (table : List ℕ) (n v : ℕ) → n < length table → ((i : ℕ) → i < n → P (get_or table i 0)) → P v → (i : ℕ) → i < n + 1 → P (get_or (set table n v) i 0)
each-next P table n v within before has i low = next (cases_lt i n)
  where
    next : (i < n) ⊎ (n ≤ i) → P (get_or (set table n v) i 0)
    next (inl lower) =
        let other = get_or-set_other table n i v 0 (omega (arith, lower)) in
        subst P (sym other) (before i lower)
    next (inr last) =
        let same : i ≡ n = omega (arith, low, last) in
        subst P (sym (get_or-set_at table n i v 0 same within)) has

-- the same of the entries of two tables
pub each-next-two : (P : ℕ → ℕ → Type 0) (table others : List ℕ) (n v w : ℕ) → n < length table → n < length others → ((i : ℕ) → i < n → P (get_or table i 0) (get_or others i 0)) → P v w → (i : ℕ) → i < n + 1 → P (get_or (set table n v) i 0) (get_or (set others n w) i 0)
each-next-two P table others n v w within inside before has i low = next (cases_lt i n)
  where
    next : (i < n) ⊎ (n ≤ i) → P (get_or (set table n v) i 0) (get_or (set others n w) i 0)
    next (inl lower) =
        let apart : i ≢ n = omega (arith, lower) in
        let one = get_or-set_other table n i v 0 apart in
        let two = get_or-set_other others n i w 0 apart in
        rw (one, two) (before i lower)
    next (inr last) =
        let same : i ≡ n = omega (arith, low, last) in
        rw (get_or-set_at table n i v 0 same within, get_or-set_at others n i w 0 same inside) has

length-nine : (xs : List ℕ) → length xs ≤ 9 → length (nine xs) ≡ 9
length-nine xs few =
    let long = length-append xs (replicate (9 - length xs) 0) in
    let zeros = length-replicate {A = ℕ} (9 - length xs) 0 in
    omega (arith, long, zeros, few)

nine-room : (table xs : List ℕ) (n : ℕ) → table ≡ nine xs → length xs ≤ 9 → n < 9 → n < length table
nine-room table xs n same few low =
    let long = ap length same ∙ length-nine xs few in
    omega (arith, long, low)

pub lengths-room : (text : List ℕ) (n : ℕ) (table : List ℕ) (rest : Option (List ℕ)) → LengthsRead text n table rest → n < 9 → n < length table
lengths-room text n table rest h low = nine-room table h.xs n h.entries h.few low

map-few : (f : Range → ℕ) (xs : List Range) → length xs ≤ 9 → length (map f xs) ≤ 9
map-few f xs few = omega (arith, length-map xs f, few)

-- there is room for one range more
pub ranges-room : (text : List ℕ) (n : ℕ) (lo hi step : List ℕ) (rest : Option (List ℕ)) → RangesRead text n lo hi step rest → n < 9 → (n < length lo) × (n < length hi) × (n < length step)
ranges-room text n lo hi step rest h low = (
  nine-room lo (map (λ r. r.lo - 1) h.xs) n h.los (map-few (λ r. r.lo - 1) h.xs h.few) low,
  nine-room hi (map (λ r. r.hi - 1) h.xs) n h.his (map-few (λ r. r.hi - 1) h.xs h.few) low,
  nine-room step (map (λ r. r.step) h.xs) n h.steps (map-few (λ r. r.step) h.xs h.few) low,
)

pub if-none : {A : Type 0} (o : Option A) (P : Type 0) → P → IfNone o P
if-none None P p = p
if-none (Some x) P p = tt
