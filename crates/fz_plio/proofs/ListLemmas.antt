-- The header in front of the words of a line is the line's list.
use Rattle.std.proofs.Common.{◌≡◌, ℕ, ◌+◌, ◌/◌, ◌≤◌, List, ◌++◌, ℤ, Ok, length, take, drop, append_assoc, sym, ap, ◌∙◌, arith}
use Rattle.std.proofs.lemmas.List.{drop_at, length-take-le}
use Rattle.fz_plio.specs.Words.{word_bytes}
use Rattle.fz_plio.specs.Producer.{body_words, header, line_list}
use Rattle.fz_plio.specs.Writing.{overwritten, Puts, magnitudes}
use Rattle.fz_plio.proofs.WritingLemmas.{length-word_bytes, word_bytes-append}

-- bytes at the front, of the length of what stood before other bytes
overwritten-front : (hs bs old : List ℕ) (at : ℕ) → length hs ≡ at → at ≤ length old → overwritten 0 hs (overwritten at bs old) ≡ hs ++ bs ++ drop (at + length bs) old
overwritten-front hs bs old at same within =
    let front = take at old in
    let rest = bs ++ drop (at + length bs) old in
    let place : 0 + length hs ≡ at = omega arith in
    let behind : drop (0 + length hs) (front ++ rest) ≡ rest = ap (λ n. drop n (front ++ rest)) place ∙ drop_at front rest at (length-take-le at old within) in
    ap (λ (xs : List ℕ). hs ++ xs) behind ∙ sym (append_assoc hs bs (drop (at + length bs) old))

pub headed : {T E S F : Type 0} (old mid new : List ℕ) (place next : ℕ) (numbers : List ℤ) (x : T) (y : S) → Puts {T = T} {E = E} old mid 14 place (body_words 1 (magnitudes numbers)) (Ok x) → Puts {T = S} {E = F} mid new 0 next (header (place / 2)) (Ok y) → new ≡ line_list numbers ++ drop place old
unfolding line_list
headed old mid new place next numbers x y first second =
    let body = body_words 1 (magnitudes numbers) in
    let count : place / 2 ≡ 7 + length body = omega (arith, first.place) in
    let hs = word_bytes (header (7 + length body)) in
    let hs_len : length hs ≡ 14 = length-word_bytes (header (7 + length body)) in
    let behind : 14 + length (word_bytes body) ≡ place = omega (arith, first.place, length-word_bytes body) in
    second.bytes ∙ (λ i. overwritten 0 (word_bytes (header (count i))) (first.bytes i))
    ∙ overwritten-front hs (word_bytes body) old 14 hs_len (omega (arith, first.fits))
    ∙ (λ i. sym (word_bytes-append (header (7 + length body)) body) i ++ drop (behind i) old)
