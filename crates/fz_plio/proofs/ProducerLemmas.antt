-- The producer's instructions in the order in which the encoder puts them.
use Rattle.std.proofs.Common.{◌≡◌, ◌≢◌, ℕ, zero, suc, ◌+◌, ◌-◌, ◌*◌, ◌/◌, ◌%◌, ◌<◌, ◌≤◌, Bool, true, false, ◌&&◌, List, [], ◌∷◌, ◌++◌, Result, Ok, Err, map, replicate, append_assoc, refl, sym, ap, ◌∙◌, subst, arith, eqb, ltb, nat_lt, if◌then◌else◌}
use Rattle.std.proofs.lemmas.List.{replicate_more}
use Rattle.std.proofs.lemmas.Bool.Decides.{nat_tests}
use Rattle.fz_plio.specs.Instructions.{Instruction, instruction_words}
use Rattle.fz_plio.specs.Producer.{Run, instruction, pieces, in_pieces, high_change, zeros_and_highs, run_instructions, is_single_step}
use Rattle.fz_plio.specs.Writing.{words_of, Puts}
use Rattle.fz_plio.proofs.WritingLemmas.{puts_then, puts_stop}

pub words_of-append : (is js : List Instruction) → words_of (is ++ js) ≡ words_of is ++ words_of js
words_of-append [] js = refl
words_of-append (i ∷ is) js = ap (λ (ws : List ℕ). instruction_words i ++ ws) (words_of-append is js) ∙ sym (append_assoc (instruction_words i) (words_of is) (words_of js))

-- the words of two lists of instructions, one after the other
pub put_both : {T E S F : Type 0} (old mid new : List ℕ) (at place next : ℕ) (is js all : List Instruction) (x : T) (r : Result S F) → all ≡ is ++ js → Puts {T = T} {E = E} old mid at place (words_of is) (Ok x) → Puts mid new place next (words_of js) r → Puts old new at next (words_of all) r
put_both old mid new at place next is js all x r same first second =
    subst (λ (ws : List ℕ). Puts old new at next ws r) (sym (ap words_of same ∙ words_of-append is js)) (puts_then old mid new at place next (words_of is) (words_of js) x r first second)

pub put_first : {T E S F : Type 0} (old new : List ℕ) (at place next : ℕ) (is js all : List Instruction) (x : E) (y : F) → all ≡ is ++ js → Puts {T = T} old new at place (words_of is) (Err x) → Puts {T = S} old new at next (words_of all) (Err y)
put_first {T} {E} {S} {F} old new at place next is js all x y same first =
    subst (λ (ws : List ℕ). Puts {T = S} old new at next ws (Err y)) (sym (ap words_of same ∙ words_of-append is js)) (puts_stop old new at place next (words_of is) (words_of js) x y first)

pub equals : (a b : ℕ) → a ≡ b → eqb a b ≡ true
equals a b e = grind (arith, nat_tests)

pub differs : (a b : ℕ) → a ≢ b → eqb a b ≡ false
differs a b ne = grind (arith, nat_tests)

pub in_pieces-zero : (operation n : ℕ) → n ≡ 0 → in_pieces operation n ≡ []
unfolding pieces
in_pieces-zero operation n none = let yes = equals n 0 none in rw yes refl

pub in_pieces-one : (operation n : ℕ) → 0 < n → n ≤ 4095 → in_pieces operation n ≡ instruction operation n ∷ []
unfolding pieces
in_pieces-one operation n some few =
    let no = differs n 0 (omega arith) in
    let whole : (n - 1) / 4095 ≡ 0 = omega arith in
    let left : (n - 1) % 4095 + 1 ≡ n = omega arith in
    rw (no, whole, left) refl

pub in_pieces-more : (operation n : ℕ) → 4095 < n → in_pieces operation n ≡ instruction operation 4095 ∷ in_pieces operation (n - 4095)
unfolding pieces
in_pieces-more operation n more =
    let no = differs n 0 (omega arith) in
    let rest_no = differs (n - 4095) 0 (omega arith) in
    let whole : (n - 1) / 4095 ≡ suc ((n - 4095 - 1) / 4095) = omega arith in
    let left : (n - 1) % 4095 ≡ (n - 4095 - 1) % 4095 = omega arith in
    rw (no, rest_no, whole, left) refl

pub map-replicate : {X Y : Type 0} (f : X → Y) (n : ℕ) (x : X) → map f (replicate n x) ≡ replicate n (f x)
map-replicate f zero x = refl
map-replicate f (suc n) x = ap (λ (ys : List _). f x ∷ ys) (map-replicate f n x)

pieces-whole : (q : ℕ) → pieces (4095 * q) ≡ replicate q 4095
unfolding pieces
pieces-whole zero = refl
pieces-whole (suc k) =
    let no = differs (4095 * suc k) 0 (omega arith) in
    let whole : (4095 * suc k - 1) / 4095 ≡ k = omega arith in
    let left : (4095 * suc k - 1) % 4095 + 1 ≡ 4095 = omega arith in
    let more : k + 1 ≡ suc k = omega arith in
    rw (no, whole, left) (replicate_more k 4095 ∙ ap (λ n. replicate n 4095) more)

pub less : (a b : ℕ) → a < b → ltb a b ≡ true
less a b h = grind (arith, nat_tests)

pub not_less : (a b : ℕ) → b ≤ a → ltb a b ≡ false
not_less a b h = grind (arith, nat_tests)

-- a single number goes with the last piece of zeros
pub zeros_and_highs-joined : (before count last : ℕ) → last ≡ before % 4095 → 0 < last → count ≡ 1 → zeros_and_highs before count ≡ in_pieces 0 (before - last) ++ instruction 5 (last + 1) ∷ []
unfolding zeros_and_highs
zeros_and_highs-joined before count last is some one =
    let single = equals count 1 one in
    let zeros_there = less 0 before (omega arith) in
    let piece : (before - 1) % 4095 + 1 ≡ last = omega arith in
    let room = less last 4095 (omega arith) in
    let whole : before - last ≡ 4095 * ((before - 1) / 4095) = omega arith in
    let front : in_pieces 0 (before - last) ≡ replicate ((before - 1) / 4095) (instruction 0 4095) =
    ap (in_pieces 0) whole ∙ ap (map (instruction 0)) (pieces-whole ((before - 1) / 4095)) ∙ map-replicate (instruction 0) ((before - 1) / 4095) 4095 in
    rw (single, zeros_there, piece, room) (ap (λ (is : List Instruction). is ++ instruction 5 (last + 1) ∷ []) (sym front))

no_room : (before count : ℕ) → (count ≡ 1 → before % 4095 ≡ 0) → (b c d : Bool) → eqb count 1 ≡ b → ltb 0 before ≡ c → ltb ((before - 1) % 4095 + 1) 4095 ≡ d → b && c && d ≡ false
no_room before count apart false c d eb ec ed = refl
no_room before count apart true false d eb ec ed = refl
no_room before count apart true true false eb ec ed = refl
no_room before count apart true true true eb ec ed =
    let one : count ≡ 1 = grind (arith, nat_tests) in
    let some : 0 < before = grind (arith, nat_tests) in
    let short : (before - 1) % 4095 + 1 < 4095 = grind (arith, nat_tests) in
    absurd (omega (arith, apart one))

-- zeros and numbers on their own
pub zeros_and_highs-apart : (before count : ℕ) → (count ≡ 1 → before % 4095 ≡ 0) → zeros_and_highs before count ≡ in_pieces 0 before ++ in_pieces 4 count
unfolding zeros_and_highs
zeros_and_highs-apart before count apart = let test = no_room before count apart _ _ _ refl refl refl in rw test refl

-- the runs that are not a single step
pub run_instructions-apart : (h : ℕ) (r : Run) → is_single_step h r ≡ false → run_instructions h r ≡ high_change h r.value ++ zeros_and_highs r.zeros r.count
unfolding run_instructions
run_instructions-apart h r test = rw test refl

pub run_instructions-step : (h : ℕ) (r : Run) (i : Instruction) → is_single_step h r ≡ true → (if nat_lt h r.value then instruction 6 (r.value - h) else instruction 7 (h - r.value)) ≡ i → run_instructions h r ≡ i ∷ []
unfolding run_instructions
run_instructions-step h r i test same = rw test (ap (λ (j : Instruction). j ∷ []) same)
