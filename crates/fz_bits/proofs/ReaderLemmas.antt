-- Lemmas on the bits that are left to a reader.
use Rattle.std.proofs.Common.{◌≡◌, ℕ, ◌+◌, zero, suc, ◌-◌, ◌*◌, ◌%◌, ◌/◌, ◌^◌, ◌<◌, ◌≤◌, bit_or, Bool, true, false, List, [], ◌∷◌, ◌++◌, length, take, drop, get_or, replicate, inl, inr, refl, sym, subst, ap, ◌∙◌, arith, append_assoc, length-append, length-drop, length-take}
use Rattle.std.specs.Int.Count.{count_leading_zeros, leading_of_zero}
use Rattle.std.proofs.lemmas.Nat.{leading_top}
use Rattle.std.proofs.lemmas.Bool.{cases_lt}
use Rattle.std.proofs.Math.Logic.{∥∥₁_elim}
use denote.Struct.Props.{props}
use Rattle.std.proofs.lemmas.List.{append-nil, length-replicate, take_rest, drop_more, drop-drop, take-append-drop, replicate-append-replicate, take-append-le, take-replicate, get_or_at, get_or-replicate, get_or-take, get_or-append_right, get_or-drop, get_or_past, get_or_append_left, length-take-le, drop-append-le, drop-take, take-take}
use Rattle.std.proofs.Math.Seq.{take-add, take-append-add, drop-append-add}
use Rattle.std.proofs.Math.Nat.{div-eq_of_lt}
use Rattle.std.proofs.lemmas.Nat.{shr-shr}
use Rattle.fz_bits.proofs.OrLemmas.{or_bits, number_bits-or, or_overlap}
use Rattle.fz_bits.specs.Bits.{number_bits, bits_of, IsAhead}
use Rattle.fz_bits.specs.Reader.{left, HasZeros, IsZeros}
use Rattle.fz_bits.specs.declared.reader.BitReader.{BitReader}
use Rattle.fz_bits.proofs.BitsLemmas.{length-number_bits, length-bits_of, number_bits-append, number_bits-front, number_bits-zero, number_bits-lead, bits_of-append, bits_of-take, bits_of-drop}

pub length-left : (r : BitReader) → length (left r) ≡ r.count + 8 * (length r.code.now - r.at)
unfolding left
length-left r =
    length-drop (8 * r.at - r.count) (bits_of r.code.now) ∙ omega (arith, length-bits_of r.code.now, r.within, r.loaded)

-- bits in front of zeros, without the first ones, and zeros after them
pub skipped : (bits : List Bool) (count n : ℕ) → n ≤ count → count ≤ length bits → count ≤ 64 → drop n (take count bits ++ replicate (64 - count) false) ++ replicate n false ≡ take (count - n) (drop n bits) ++ replicate (64 - (count - n)) false
skipped bits count n le within few =
    let e : count ≡ n + (count - n) = omega arith in
    let zeros : 64 - count + n ≡ 64 - (count - n) = omega arith in
    ap (λ front. front ++ replicate n false) (drop-append-le n (take count bits) (replicate (64 - count) false) (omega (arith, length-take-le count bits within))) ∙ append_assoc (drop n (take count bits)) (replicate (64 - count) false) (replicate n false) ∙ ap (λ back. drop n (take count bits) ++ back) (replicate-append-replicate (64 - count) n false ∙ ap (λ k. replicate k false) zeros) ∙ ap (λ front. front ++ replicate (64 - (count - n)) false) (ap (λ k. drop n (take k bits)) e ∙ drop-take n (count - n) bits)

-- the loaded bits are among those of the list
pub many_within : (count word : ℕ) (bits : List Bool) (a : IsAhead count word bits) → a.many ≤ length bits
many_within count word bits a =
    omega (arith, a.few, sym (length-number_bits 64 word) ∙ ap length a.is ∙ length-append (take a.many bits) (replicate (64 - a.many) false), length-take a.many bits, length-replicate (64 - a.many) false)

ahead_front : (count word n : ℕ) (bits : List Bool) → n ≤ count → IsAhead count word bits → take n (number_bits 64 word) ≡ take n bits
ahead_front count word n bits le a =
    let within = many_within count word bits a in
    ap (take n) a.is ∙ take-append-le n (take a.many bits) (replicate (64 - a.many) false) (omega (arith, length-take-le a.many bits within, a.enough)) ∙ take-take n a.many bits (omega (arith, a.enough))

-- the first pending bits are the first that are left
pub pending_front : (r : BitReader) (n : ℕ) → n ≤ r.count → take n (number_bits 64 r.pending) ≡ take n (left r)
unfolding left
pending_front r n le = ∥∥₁_elim r.ahead (search props) (ahead_front r.count r.pending n (drop (8 * r.at - r.count) (bits_of r.code.now)) le)

-- pending bits without the first ones
pub ahead_skipped : (count word rest n : ℕ) (bits : List Bool) → n ≤ count → number_bits 64 rest ≡ drop n (number_bits 64 word) ++ replicate n false → IsAhead count word bits → IsAhead (count - n) rest (drop n bits)
ahead_skipped count word rest n bits le is a = record {
  many = a.many - n;
  enough = omega (arith, a.enough);
  few = omega (arith, a.few);
  is = is ∙ ap (λ l. drop n l ++ replicate n false) a.is ∙ skipped bits a.many n (omega (arith, a.enough)) (many_within count word bits a) a.few;
}

-- bits that are loaded, and no others
pub ahead_loaded : (count many word : ℕ) (bits : List Bool) → count ≤ many → many ≤ 64 → number_bits 64 word ≡ take many bits ++ replicate (64 - many) false → IsAhead count word bits
ahead_loaded count many word bits enough few is = record { many = many; enough = enough; few = few; is = is }

-- the bits that are left after the pending ones
left_behind : (r : BitReader) → drop r.count (left r) ≡ bits_of (drop r.at r.code.now)
unfolding left
left_behind r =
    let e : 8 * r.at - r.count + r.count ≡ 8 * r.at = omega (arith, r.loaded) in
    drop-drop r.count (8 * r.at - r.count) (bits_of r.code.now) ∙ ap (λ k. drop k (bits_of r.code.now)) e ∙ sym (bits_of-drop r.at r.code.now)

-- a word that is loaded
pub loaded : (code : List ℕ) (from read len word rest : ℕ) → from + len ≤ length code → len ≤ 8 → read ≤ 8 * len → number_bits 64 word ≡ bits_of (take len (drop from code)) ++ replicate (64 - 8 * len) false → number_bits 64 rest ≡ drop read (number_bits 64 word) ++ replicate read false → number_bits 64 rest ≡ take (8 * len - read) (drop (8 * from + read) (bits_of code)) ++ replicate (64 - (8 * len - read)) false
loaded code from read len word rest within few some is back =
    let bits = drop (8 * from) (bits_of code) in
    let enough : 8 * len ≤ length bits = omega (arith, length-drop (8 * from) (bits_of code), length-bits_of code) in
    let front : bits_of (take len (drop from code)) ≡ take (8 * len) bits = bits_of-take len (drop from code) ∙ ap (take (8 * len)) (bits_of-drop from code) in
    back ∙ ap (λ l. drop read l ++ replicate read false) (is ∙ ap (λ l. l ++ replicate (64 - 8 * len) false) front) ∙ skipped bits (8 * len) read some enough (omega arith) ∙ ap (λ l. take (8 * len - read) l ++ replicate (64 - (8 * len - read)) false) (drop-drop read (8 * from) (bits_of code))

-- a number of 64 bits that are not all zeros
some_ones : (v : ℕ) → count_leading_zeros 64 v < 64 → 0 < v
some_ones v near =
    elim (cases_lt 0 v) [
      | inl h ↦ h
      | inr h ↦ absurd (omega (arith, near, ap (count_leading_zeros 64) (let none : v ≡ 0 = omega arith in none) ∙ leading_of_zero 64))
    ]

-- pending bits and the bits that come after `count` of them
joined_bits : (count many pending word : ℕ) (bits : List Bool) → count ≤ many → many ≤ 64 → count + 64 ≤ length bits → word < 2 ^ 64 → number_bits 64 pending ≡ take many bits ++ replicate (64 - many) false → number_bits 64 word ≡ take 64 (drop count bits) → number_bits 64 (bit_or pending (word / 2 ^ count)) ≡ take 64 bits
joined_bits count many pending word bits enough few within fits is_pending is_word =
    let front = take count bits in
    let mid = take (many - count) (drop count bits) in
    let back = take (64 - many) (drop many bits) in
    let whole : count + (64 - count) ≡ 64 = omega arith in
    let first : number_bits 64 pending ≡ front ++ (mid ++ replicate (64 - many) false) = is_pending ∙ ap (λ k. take k bits ++ replicate (64 - many) false) (let e : many ≡ count + (many - count) = omega arith in e) ∙ ap (λ l. l ++ replicate (64 - many) false) (take-add count (many - count) bits) ∙ append_assoc front mid (replicate (64 - many) false) in
    let none : word / 2 ^ count / 2 ^ (64 - count) ≡ 0 = shr-shr word count (64 - count) ∙ ap (λ k. word / 2 ^ k) whole ∙ div-eq_of_lt fits in
    let low : number_bits (64 - count) (word / 2 ^ count) ≡ mid ++ back = number_bits-front (64 - count) count word ∙ ap (λ k. take (64 - count) (number_bits k word)) (let e : 64 - count + count ≡ 64 = omega arith in e) ∙ ap (take (64 - count)) is_word ∙ take-take (64 - count) 64 (drop count bits) (omega arith) ∙ ap (λ k. take k (drop count bits)) (let e : 64 - count ≡ many - count + (64 - many) = omega arith in e) ∙ take-add (many - count) (64 - many) (drop count bits) ∙ ap (λ l. mid ++ take (64 - many) l) (drop-drop (many - count) count bits ∙ ap (λ k. drop k bits) (let e : count + (many - count) ≡ many = omega arith in e)) in
    let second : number_bits 64 (word / 2 ^ count) ≡ replicate count false ++ (mid ++ back) = ap (λ k. number_bits k (word / 2 ^ count)) (sym whole) ∙ number_bits-append count (64 - count) (word / 2 ^ count) ∙ ap (λ v. number_bits count v ++ number_bits (64 - count) (word / 2 ^ count)) none ∙ ap (λ l. l ++ number_bits (64 - count) (word / 2 ^ count)) (number_bits-zero count) ∙ ap (λ l. replicate count false ++ l) low in
    let in_front : length front ≡ count = length-take-le count bits (omega arith) in
    let in_back : length back ≡ 64 - many = length-take-le (64 - many) (drop many bits) (omega (arith, length-drop many bits)) in
    let all : take 64 bits ≡ front ++ (mid ++ back) = ap (λ k. take k bits) (sym whole) ∙ take-add count (64 - count) bits ∙ ap (λ k. front ++ take k (drop count bits)) (let e : 64 - count ≡ many - count + (64 - many) = omega arith in e) ∙ ap (λ l. front ++ l) (take-add (many - count) (64 - many) (drop count bits) ∙ ap (λ l. mid ++ take (64 - many) l) (drop-drop (many - count) count bits ∙ ap (λ k. drop k bits) (let e : count + (many - count) ≡ many = omega arith in e))) in
    number_bits-or 64 pending (word / 2 ^ count) ∙ ap (λ l. or_bits l (number_bits 64 (word / 2 ^ count))) first ∙ ap (or_bits (front ++ (mid ++ replicate (64 - many) false))) second ∙ or_overlap front mid back count (64 - many) in_front in_back ∙ sym all

pub word_joined : (count more pending word : ℕ) (bits : List Bool) → count + 64 ≤ length bits → word < 2 ^ 64 → more ≤ 64 → number_bits 64 word ≡ take 64 (drop count bits) → IsAhead count pending bits → IsAhead more (bit_or pending (word / 2 ^ count)) bits
word_joined count more pending word bits within fits few is a =
    ahead_loaded more 64 (bit_or pending (word / 2 ^ count)) bits few (omega arith) (joined_bits count a.many pending word bits a.enough a.few within fits a.is is ∙ sym (append-nil (take 64 bits)))

-- zeros and the leading one of the pending bits
pub left_near : (r : BitReader) → r.pending < 2 ^ 64 → count_leading_zeros 64 r.pending < r.count → left r ≡ replicate (count_leading_zeros 64 r.pending) false ++ true ∷ drop (count_leading_zeros 64 r.pending + 1) (left r)
left_near r fits near =
    let lead = count_leading_zeros 64 r.pending in
    let some : 0 < r.pending = some_ones r.pending (omega (arith, near, r.few)) in
    let top = leading_top 64 r.pending some fits in
    let e : 64 ≡ lead + suc top.0 = omega (arith, top.1) in
    let tail = number_bits top.0 (r.pending % 2 ^ top.0) in
    let is : number_bits 64 r.pending ≡ replicate lead false ++ true ∷ tail = ap (λ k. number_bits k r.pending) e ∙ number_bits-lead lead top.0 r.pending top.2 top.3 in
    let front : take (lead + 1) (left r) ≡ replicate lead false ++ true ∷ [] = sym (pending_front r (lead + 1) (omega (arith, near))) ∙ ap (take (lead + 1)) is ∙ ap (λ k. take k (replicate lead false ++ true ∷ tail)) (omega (arith, length-replicate lead false)) ∙ take-append-add (replicate lead false) (true ∷ tail) 1 in
    sym (take-append-drop (lead + 1) (left r)) ∙ ap (λ l. l ++ drop (lead + 1) (left r)) front ∙ append_assoc (replicate lead false) (true ∷ []) (drop (lead + 1) (left r))

-- leading zeros that reach over the pending bits are all of them
zeros_near : (r : BitReader) → r.pending < 2 ^ 64 → r.count ≤ count_leading_zeros 64 r.pending → take r.count (number_bits 64 r.pending) ≡ replicate r.count false
zeros_near r fits all =
    elim (cases_lt 0 r.pending) [
      | inl some ↦
          let lead = count_leading_zeros 64 r.pending in
          let top = leading_top 64 r.pending some fits in
          let e : 64 ≡ lead + suc top.0 = omega (arith, top.1) in
          ap (λ k. take r.count (number_bits k r.pending)) e ∙ ap (take r.count) (number_bits-lead lead top.0 r.pending top.2 top.3) ∙ take-append-le r.count (replicate lead false) (true ∷ number_bits top.0 (r.pending % 2 ^ top.0)) (omega (arith, all, length-replicate lead false)) ∙ take-replicate r.count lead false all
      | inr none ↦ ap (λ v. take r.count (number_bits 64 v)) (omega arith) ∙ ap (take r.count) (number_bits-zero 64) ∙ take-replicate r.count 64 false (omega (arith, r.few))
    ]

-- the bits after zeros and a one, skipped one after the other
pub behind_one : (bits : List Bool) (n : ℕ) (one rest : List Bool) → one ≡ drop n bits → rest ≡ drop 1 one → drop (n + 1) bits ≡ rest
behind_one bits n one rest is_one is_rest =
    sym (is_rest ∙ ap (drop 1) is_one ∙ drop-drop 1 n bits)

-- a byte at least is pending where one was left in the slice
pub byte_pending : (old new : BitReader) → left new ≡ left old → old.count ≡ 0 → old.at < length old.code.now → (new.count < 49 → new.at ≡ length new.code.now) → 8 ≤ new.count
byte_pending old new same none more end =
    elim (cases_lt new.count 49) [
      | inl h ↦ omega (arith, sym (length-left new) ∙ ap length same ∙ length-left old, end h)
      | inr h ↦ omega arith
    ]

-- what is left after zeros and a one
pub rest_is : (bits : List Bool) (n : ℕ) (rest : List Bool) → bits ≡ replicate n false ++ true ∷ rest → drop (n + 1) bits ≡ rest
rest_is bits n rest is =
    ap (drop (n + 1)) is ∙ ap (λ k. drop (k + 1) (replicate n false ++ true ∷ rest)) (sym (length-replicate n false)) ∙ drop-append-add (replicate n false) (true ∷ rest) 1

-- zero bytes have zeros alone
pub bits_of-zeros : (n : ℕ) → bits_of (replicate n 0) ≡ replicate (8 * n) false
unfolding bits_of
bits_of-zeros zero = refl
bits_of-zeros (suc n) =
    let e : 8 + 8 * n ≡ 8 * suc n = omega arith in
    ap (λ bits. bits ++ bits_of (replicate n 0)) (number_bits-zero 8) ∙ ap (λ bits. replicate 8 false ++ bits) (bits_of-zeros n) ∙ replicate-append-replicate 8 (8 * n) false ∙ ap (λ k. replicate k false) e

-- three runs of zeros
zeros_joined : (a b c : ℕ) (tail : List Bool) → replicate a false ++ (replicate b false ++ (replicate c false ++ tail)) ≡ replicate (a + b + c) false ++ tail
zeros_joined a b c tail =
    sym (append_assoc (replicate a false) (replicate b false) (replicate c false ++ tail)) ∙ ap (λ bits. bits ++ (replicate c false ++ tail)) (replicate-append-replicate a b false) ∙ sym (append_assoc (replicate (a + b) false) (replicate c false) tail) ∙ ap (λ bits. bits ++ tail) (replicate-append-replicate (a + b) c false)

-- the bits that are left where no pending one is a one
left_blank : (r : BitReader) → r.pending < 2 ^ 64 → r.count ≤ count_leading_zeros 64 r.pending → left r ≡ replicate r.count false ++ bits_of (drop r.at r.code.now)
left_blank r fits none =
    let zeros : take r.count (left r) ≡ replicate r.count false = sym (pending_front r r.count (omega arith)) ∙ zeros_near r fits none in
    sym (take-append-drop r.count (left r)) ∙ ap (λ l. l ++ drop r.count (left r)) zeros ∙ ap (λ l. replicate r.count false ++ l) (left_behind r)

-- all bits that are left are zeros
pub left_zeros : (r : BitReader) → r.pending < 2 ^ 64 → r.count ≤ count_leading_zeros 64 r.pending → take (length r.code.now - r.at) (drop r.at r.code.now) ≡ replicate (length (take (length r.code.now - r.at) (drop r.at r.code.now))) 0 → left r ≡ replicate (r.count + 8 * length (take (length r.code.now - r.at) (drop r.at r.code.now))) false
left_zeros r fits none zeros =
    let n = length (take (length r.code.now - r.at) (drop r.at r.code.now)) in
    left_blank r fits none ∙ ap (λ bytes. replicate r.count false ++ bits_of bytes) (sym (take_rest r.code.now r.at) ∙ zeros) ∙ ap (λ bits. replicate r.count false ++ bits) (bits_of-zeros n) ∙ replicate-append-replicate r.count (8 * n) false

-- bytes of zeros, a byte, and the rest
bytes_split : (bytes : List ℕ) (i : ℕ) → i < length bytes → take i bytes ≡ replicate i 0 → bits_of bytes ≡ replicate (8 * i) false ++ (number_bits 8 (get_or bytes i 0) ++ bits_of (drop (i + 1) bytes))
unfolding bits_of
bytes_split bytes i within zeros =
    ap bits_of (sym (take-append-drop i bytes)) ∙ bits_of-append (take i bytes) (drop i bytes) ∙ ap (λ front. bits_of front ++ bits_of (drop i bytes)) zeros ∙ ap (λ bits. bits ++ bits_of (drop i bytes)) (bits_of-zeros i) ∙ ap (λ back. replicate (8 * i) false ++ bits_of back) (drop_more bytes i 0 within)

-- pending zeros, bytes of zeros, and a byte with a one
pub left_ahead : (r : BitReader) (i b : ℕ) → r.pending < 2 ^ 64 → r.count ≤ count_leading_zeros 64 r.pending → i < length (take (length r.code.now - r.at) (drop r.at r.code.now)) → take i (take (length r.code.now - r.at) (drop r.at r.code.now)) ≡ replicate i 0 → b ≡ get_or (take (length r.code.now - r.at) (drop r.at r.code.now)) i 0 → 0 < b → b < 256 → left r ≡ replicate (r.count + 8 * i + count_leading_zeros 8 b) false ++ true ∷ (number_bits (7 - count_leading_zeros 8 b) (b % 2 ^ (7 - count_leading_zeros 8 b)) ++ bits_of (drop (r.at + i + 1) r.code.now))
left_ahead r i b small none within zeros is pos fits =
    let bytes = take (length r.code.now - r.at) (drop r.at r.code.now) in
    let lead = count_leading_zeros 8 b in
    let rest = 7 - lead in
    let top = leading_top 8 b pos fits in
    let same : top.0 ≡ rest = omega (arith, top.1) in
    let low : 2 ^ rest ≤ b = subst (λ (k : ℕ). 2 ^ k ≤ b) same top.2 in
    let high : b < 2 ^ suc rest = subst (λ (k : ℕ). b < 2 ^ suc k) same top.3 in
    let whole : 8 ≡ lead + suc rest = omega (arith, top.1) in
    let gone : drop (i + 1) bytes ≡ drop (r.at + i + 1) r.code.now = ap (drop (i + 1)) (take_rest r.code.now r.at) ∙ drop-drop (i + 1) r.at r.code.now ∙ ap (λ k. drop k r.code.now) (omega arith) in
    let tail = bits_of (drop (r.at + i + 1) r.code.now) in
    let byte : number_bits 8 (get_or bytes i 0) ++ bits_of (drop (i + 1) bytes) ≡ replicate lead false ++ true ∷ (number_bits rest (b % 2 ^ rest) ++ tail) = ap (λ v. number_bits 8 v ++ bits_of (drop (i + 1) bytes)) (sym is) ∙ ap (λ l. number_bits 8 b ++ bits_of l) gone ∙ ap (λ k. number_bits k b ++ tail) whole ∙ ap (λ bits. bits ++ tail) (number_bits-lead lead rest b low high) ∙ append_assoc (replicate lead false) (true ∷ number_bits rest (b % 2 ^ rest)) tail in
    let front : bits_of (drop r.at r.code.now) ≡ replicate (8 * i) false ++ (replicate lead false ++ true ∷ (number_bits rest (b % 2 ^ rest) ++ tail)) = ap bits_of (sym (take_rest r.code.now r.at)) ∙ bytes_split bytes i within zeros ∙ ap (λ bits. replicate (8 * i) false ++ bits) byte in
    left_blank r small none ∙ ap (λ bits. replicate r.count false ++ bits) front ∙ zeros_joined r.count (8 * i) lead (true ∷ (number_bits rest (b % 2 ^ rest) ++ tail))

-- bytes of a slice are bytes
pub fits_part : (bytes : List ℕ) → ((i : ℕ) → get_or bytes i 0 < 256) → (n m i : ℕ) → get_or (take n (drop m bytes)) i 0 < 256
fits_part bytes fits n m i =
    elim (cases_lt i n) [
      | inl h ↦ rw (get_or-take n (drop m bytes) i 0 h, get_or-drop m bytes i 0) (fits (m + i))
      | inr h ↦ rw (get_or_past (take n (drop m bytes)) i 0 (omega (arith, length-take n (drop m bytes)))) (omega arith)
    ]

fits_zeros : (n i : ℕ) → get_or (replicate n 0) i 0 < 256
fits_zeros n i =
    elim (cases_lt i n) [
      | inl h ↦ rw (get_or-replicate {A = ℕ} n i 0 0 h) (omega arith)
      | inr h ↦ rw (get_or_past {X = ℕ} (replicate n 0) i 0 (omega (arith, length-replicate {A = ℕ} n 0))) (omega arith)
    ]

pub fits_filled : (bytes : List ℕ) → ((i : ℕ) → get_or bytes i 0 < 256) → (n i : ℕ) → get_or (bytes ++ replicate n 0) i 0 < 256
fits_filled bytes fits n i =
    elim (cases_lt i (length bytes)) [
      | inl h ↦ rw (get_or_append_left bytes (replicate n 0) 0 i h) (fits i)
      | inr h ↦ rw (get_or-append_right bytes (replicate n 0) (length bytes) i 0 refl h) (fits_zeros n (i - length bytes))
    ]

-- Which answer a run of zeros has.

pub HasZeros-long : (max n : ℕ) (tail : List Bool) → max < n → HasZeros max (replicate n false ++ tail)
HasZeros-long max n tail more =
    take-append-le (max + 1) (replicate n false) tail (omega (arith, length-replicate n false)) ∙ take-replicate (max + 1) n false (omega arith)

pub HasZeros-all : (max n : ℕ) → max < n → HasZeros max (replicate n false)
HasZeros-all max n more = take-replicate (max + 1) n false (omega arith)

pub not_HasZeros-all : (max n : ℕ) → n ≤ max → HasZeros max (replicate n false) → ⊥
not_HasZeros-all max n few zeros =
    let len = ap length zeros in
    absurd (omega (arith, length-take (max + 1) (replicate n false), length-replicate n false, length-replicate (max + 1) false))

pub not_HasZeros-one : (max n : ℕ) (tail : List Bool) → n ≤ max → HasZeros max (replicate n false ++ true ∷ tail) → ⊥
not_HasZeros-one max n tail few zeros =
    let one : get_or (replicate n false ++ true ∷ tail) n false ≡ true = get_or_at (replicate n false) true tail false n (length-replicate n false) in
    let zero : get_or (take (max + 1) (replicate n false ++ true ∷ tail)) n false ≡ false = ap (λ bits. get_or bits n false) zeros ∙ get_or-replicate (max + 1) n false false (omega arith) in
    let front = get_or-take (max + 1) (replicate n false ++ true ∷ tail) n false (omega arith) in
    cc

pub IsZeros-all : (max n : ℕ) → n ≤ max → IsZeros max (replicate n false)
IsZeros-all max n few = (ap (λ k. replicate k false) (sym (length-replicate n false)), omega (arith, length-replicate n false))

pub not_IsZeros-long : (max n : ℕ) (tail : List Bool) → max < n → IsZeros max (replicate n false ++ tail) → ⊥
not_IsZeros-long max n tail more zeros =
    absurd (omega (arith, length-append (replicate n false) tail, length-replicate n false, zeros.1))

pub not_IsZeros-one : (max n : ℕ) (tail : List Bool) → IsZeros max (replicate n false ++ true ∷ tail) → ⊥
not_IsZeros-one max n tail zeros =
    let bits = replicate n false ++ true ∷ tail in
    let len : length bits ≡ n + suc (length tail) = length-append (replicate n false) (true ∷ tail) ∙ omega (arith, length-replicate n false) in
    let one : get_or bits n false ≡ true = get_or_at (replicate n false) true tail false n (length-replicate n false) in
    let zero : get_or bits n false ≡ false = ap (λ l. get_or l n false) zeros.0 ∙ get_or-replicate (length bits) n false false (omega arith) in
    cc

pub ruleset lengths = (length-left)
