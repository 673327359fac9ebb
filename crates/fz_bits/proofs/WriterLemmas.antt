-- Lemmas on the bits that a writer has written.
use Rattle.std.proofs.Common.{◌≡◌, ℕ, ◌+◌, ◌-◌, ◌*◌, ◌/◌, ◌%◌, ◌^◌, ◌<◌, ◌≤◌, Bool, true, false, List, [], ◌∷◌, ◌++◌, length, take, drop, replicate, sym, ap, ◌∙◌, arith, append_assoc, length-append}
use Rattle.std.proofs.lemmas.List.{length-take-le, take-replicate, drop-drop, replicate-append-replicate}
use Rattle.std.proofs.Math.Seq.{take-append-add}
use Rattle.std.proofs.Math.Nat.{add-zero}
use Rattle.std.proofs.lemmas.Nat.{pow_pos}
use Rattle.std.specs.Int.{w64, to_be_bytes}
use Rattle.fz_bits.specs.Bits.{number_bits, bits_of}
use Rattle.fz_bits.specs.Writer.{written, SameBehind}
use Rattle.fz_bits.specs.declared.writer.BitWriter.{BitWriter}
use Rattle.fz_bits.proofs.BitsLemmas.{length-number_bits, length-bits_of, number_bits-append, number_bits-mod, number_bits-joined, number_bits-zero, number_bits-one, bits_of-append, bits_of-take, bits_of-to_be_bytes, below_wider}

pub length-written : (w : BitWriter) → length (written w) ≡ 8 * w.at + w.count
unfolding written
length-written w =
    let fits : w.at ≤ length w.out.now = omega arith in
    length-append (bits_of (take w.at w.out.now)) (number_bits w.count w.pending) ∙ omega (arith, length-bits_of (take w.at w.out.now), length-take-le w.at w.out.now fits, length-number_bits w.count w.pending)

-- a number written after pending bits
pub written_more : (front : List Bool) (count width pending value : ℕ) → value < 2 ^ width → front ++ number_bits (count + width) (pending * 2 ^ width + value) ≡ (front ++ number_bits count pending) ++ number_bits width value
written_more front count width pending value fits =
    ap (λ bits. front ++ bits) (number_bits-joined count width pending value fits) ∙ sym (append_assoc front (number_bits count pending) (number_bits width value))

-- a word written after whole bytes: the pending bits and the first of the new ones
pub word_written : (bytes word : List ℕ) (count rest pending value : ℕ) → count ≤ 64 → value / 2 ^ rest < 2 ^ (64 - count) → word ≡ to_be_bytes w64 (pending * 2 ^ (64 - count) + value / 2 ^ rest) → bits_of (bytes ++ word) ++ number_bits rest (value % 2 ^ rest) ≡ (bits_of bytes ++ number_bits count pending) ++ number_bits (64 - count + rest) value
word_written bytes word count rest pending value few fits is =
    let e : 64 ≡ count + (64 - count) = omega arith in
    let high = value / 2 ^ rest in
    let word_bits : bits_of word ≡ number_bits count pending ++ number_bits (64 - count) high = ap bits_of is ∙ bits_of-to_be_bytes (pending * 2 ^ (64 - count) + high) ∙ ap (λ k. number_bits k (pending * 2 ^ (64 - count) + high)) e ∙ number_bits-joined count (64 - count) pending high fits in
    let back : number_bits (64 - count) high ++ number_bits rest (value % 2 ^ rest) ≡ number_bits (64 - count + rest) value = ap (λ l. number_bits (64 - count) high ++ l) (number_bits-mod rest value) ∙ sym (number_bits-append (64 - count) rest value) in
    ap (λ front. front ++ number_bits rest (value % 2 ^ rest)) (bits_of-append bytes word ∙ ap (λ w. bits_of bytes ++ w) word_bits ∙ sym (append_assoc (bits_of bytes) (number_bits count pending) (number_bits (64 - count) high))) ∙ append_assoc (bits_of bytes ++ number_bits count pending) (number_bits (64 - count) high) (number_bits rest (value % 2 ^ rest)) ∙ ap (λ l. (bits_of bytes ++ number_bits count pending) ++ l) back

-- zeros after zeros
pub zeros_more : (front : List Bool) (n m : ℕ) → (front ++ replicate n false) ++ number_bits m 0 ≡ front ++ replicate (n + m) false
zeros_more front n m =
    append_assoc front (replicate n false) (number_bits m 0) ∙ ap (λ bits. front ++ (replicate n false ++ bits)) (number_bits-zero m) ∙ ap (λ bits. front ++ bits) (replicate-append-replicate n m false)

-- a one after zeros
pub one_more : (front : List Bool) (n m : ℕ) → (front ++ replicate n false) ++ number_bits (m + 1) 1 ≡ front ++ (replicate (n + m) false ++ true ∷ [])
one_more front n m =
    append_assoc front (replicate n false) (number_bits (m + 1) 1) ∙ ap (λ bits. front ++ (replicate n false ++ bits)) (number_bits-one m) ∙ ap (λ bits. front ++ bits) (sym (append_assoc (replicate n false) (replicate m false) (true ∷ [])) ∙ ap (λ bits. bits ++ true ∷ []) (replicate-append-replicate n m false))

-- what stays after more bits
pub SameBehind-more : (n m : ℕ) (old new : List ℕ) → n ≤ m → SameBehind n old new → SameBehind m old new
SameBehind-more n m old new le same =
    let gap : (n + 7) / 8 + ((m + 7) / 8 - (n + 7) / 8) ≡ (m + 7) / 8 = omega arith in
    let at : (xs : List ℕ) → drop ((m + 7) / 8 - (n + 7) / 8) (drop ((n + 7) / 8) xs) ≡ drop ((m + 7) / 8) xs = λ xs. drop-drop ((m + 7) / 8 - (n + 7) / 8) ((n + 7) / 8) xs ∙ ap (λ k. drop k xs) gap in
    sym (at new) ∙ ap (drop ((m + 7) / 8 - (n + 7) / 8)) same ∙ at old

-- the last bytes of a writer that is finished
pub bits_of-last : (len count pending : ℕ) → count < 64 → pending < 2 ^ count → len ≡ (count + 7) / 8 → bits_of (take len (to_be_bytes w64 (pending * 2 ^ (64 - count)))) ≡ number_bits count pending ++ replicate (8 * len - count) false
bits_of-last len count pending few fits is =
    let whole : count + (64 - count) ≡ 64 = omega arith in
    let split : 8 * len ≡ length (number_bits count pending) + (8 * len - count) = omega (arith, length-number_bits count pending) in
    let word : bits_of (to_be_bytes w64 (pending * 2 ^ (64 - count))) ≡ number_bits count pending ++ replicate (64 - count) false = bits_of-to_be_bytes (pending * 2 ^ (64 - count)) ∙ ap (λ k. number_bits k (pending * 2 ^ (64 - count))) (sym whole) ∙ ap (number_bits (count + (64 - count))) (sym (add-zero (pending * 2 ^ (64 - count)))) ∙ number_bits-joined count (64 - count) pending 0 (pow_pos (64 - count)) ∙ ap (λ bits. number_bits count pending ++ bits) (number_bits-zero (64 - count)) in
    bits_of-take len (to_be_bytes w64 (pending * 2 ^ (64 - count))) ∙ ap (take (8 * len)) word ∙ ap (λ k. take k (number_bits count pending ++ replicate (64 - count) false)) split ∙ take-append-add (number_bits count pending) (replicate (64 - count) false) (8 * len - count) ∙ ap (λ bits. number_bits count pending ++ bits) (take-replicate (8 * len - count) (64 - count) false (omega arith))

pub ruleset lengths = (length-written, below_wider)
