-- Words put one after the other are put together.
use Rattle.std.proofs.Common.{◌≡◌, ℕ, ◌+◌, ◌-◌, ◌*◌, ◌/◌, ◌%◌, ◌^◌, ◌<◌, ◌≤◌, List, [], ◌∷◌, ◌++◌, Result, Ok, Err, length, take, drop, append_assoc, length-append, refl, sym, ap, ◌∙◌, arith}
use Rattle.std.specs.Int.{to_be_bytes, w16}
use Rattle.std.proofs.lemmas.List.{take_at, drop_at, drop-drop, length-take, drop_all, length-take-le, length-drop, take-append-drop}
use borrow.Rule.Slice.PartMut.{put_mid}
use Rattle.fz_plio.specs.Words.{word_bytes}
use Rattle.fz_plio.specs.Writing.{overwritten, Puts}

-- two bytes a word
pub length-word_bytes : (ws : List ℕ) → length (word_bytes ws) ≡ 2 * length ws
unfolding word_bytes
length-word_bytes [] = refl
length-word_bytes (w ∷ ws) = omega (arith, length-word_bytes ws)

pub word_bytes-append : (ws vs : List ℕ) → word_bytes (ws ++ vs) ≡ word_bytes ws ++ word_bytes vs
unfolding word_bytes
word_bytes-append [] vs = refl
word_bytes-append (w ∷ ws) vs = ap (λ (bs : List ℕ). (w / 256) ∷ (w % 256) ∷ bs) (word_bytes-append ws vs)

-- the bytes of one word
pub word_bytes-one : (w : ℕ) → w < 2 ^ 16 → word_bytes (w ∷ []) ≡ to_be_bytes w16 w
unfolding word_bytes
word_bytes-one w fits = let high : w / 256 ≡ w / 256 % 256 = omega arith in ap (λ (b : ℕ). b ∷ (w % 256) ∷ []) high

-- bytes after bytes at a place
pub overwritten-append : (at : ℕ) (bs cs old : List ℕ) → at + length bs ≤ length old → overwritten (at + length bs) cs (overwritten at bs old) ≡ overwritten at (bs ++ cs) old
overwritten-append at bs cs old within =
    let front = take at old in
    let rest = drop (at + length bs) old in
    let front_len : length front ≡ at = length-take-le at old (omega arith) in
    let both_len : length (front ++ bs) ≡ at + length bs = omega (arith, length-append front bs) in
    let was : front ++ (bs ++ rest) ≡ (front ++ bs) ++ rest = sym (append_assoc front bs rest) in
    let taken : take (at + length bs) (front ++ (bs ++ rest)) ≡ front ++ bs = ap (take (at + length bs)) was ∙ take_at (front ++ bs) rest _ both_len in
    let dropped : drop (at + length bs) (front ++ (bs ++ rest)) ≡ rest = ap (drop (at + length bs)) was ∙ drop_at (front ++ bs) rest _ both_len in
    let behind : drop (at + length bs + length cs) (front ++ (bs ++ rest)) ≡ drop (at + length bs + length cs) old =
    sym (drop-drop (length cs) (at + length bs) _) ∙ ap (drop (length cs)) dropped ∙ drop-drop (length cs) (at + length bs) old in
    let place : at + length bs + length cs ≡ at + length (bs ++ cs) = omega (arith, length-append bs cs) in
    (λ i. taken i ++ (cs ++ behind i)) ∙ append_assoc front bs _
    ∙ ap (λ (xs : List ℕ). front ++ xs) (sym (append_assoc bs cs _) ∙ ap (λ n. bs ++ cs ++ drop n old) place)

-- nothing is after the bytes of a word in the two bytes at its place
pub no_more : (old : List ℕ) (at : ℕ) → drop 2 (take (at + 2 - at) (drop at old)) ≡ []
no_more old at = drop_all 2 (take (at + 2 - at) (drop at old)) (omega (arith, length-take (at + 2 - at) (drop at old)))

pub puts_word : (old bytes : List ℕ) (at w : ℕ) → at + 2 ≤ length old → w < 2 ^ 16 → bytes ≡ to_be_bytes w16 w → put_mid at (at + 2 - at) old bytes ≡ overwritten at (word_bytes (w ∷ [])) old
puts_word old bytes at w within fits same =
    let place : at + (at + 2 - at) ≡ at + length (word_bytes (w ∷ [])) = omega (arith, length-word_bytes (w ∷ [])) in
    let behind : drop (at + 2 - at) (drop at old) ≡ drop (at + length (word_bytes (w ∷ []))) old = drop-drop (at + 2 - at) at old ∙ ap (λ n. drop n old) place in
    (λ i. take at old ++ ((same ∙ sym (word_bytes-one w fits)) i ++ behind i))

pub length-overwritten : (at : ℕ) (bs old : List ℕ) → at + length bs ≤ length old → length (overwritten at bs old) ≡ length old
length-overwritten at bs old within = omega (arith, length-append (take at old) (bs ++ drop (at + length bs) old), length-append bs (drop (at + length bs) old), length-take-le at old (omega arith), length-drop (at + length bs) old)

-- words after words
pub puts_then : {T E S F : Type 0} (old mid new : List ℕ) (at place next : ℕ) (ws vs : List ℕ) (x : T) (r : Result S F) → Puts {T = T} {E = E} old mid at place ws (Ok x) → Puts mid new place next vs r → Puts old new at next (ws ++ vs) r
puts_then old mid new at place next ws vs x (Ok y) first then = record {
  len = then.len ∙ first.len;
  place = omega (arith, first.place, then.place, length-append ws vs);
  fits = omega (arith, first.place, then.fits, first.len, length-append ws vs);
  bytes =
      let behind : place ≡ at + length (word_bytes ws) = omega (arith, first.place, length-word_bytes ws) in
      then.bytes ∙ (λ i. overwritten (behind i) (word_bytes vs) (first.bytes i))
      ∙ overwritten-append at (word_bytes ws) (word_bytes vs) old (omega (arith, first.fits, length-word_bytes ws))
      ∙ ap (λ (bs : List ℕ). overwritten at bs old) (sym (word_bytes-append ws vs));
  full = λ e. cc;
}
puts_then old mid new at place next ws vs x (Err y) first then = record {
  len = then.len ∙ first.len;
  place = tt;
  fits = tt;
  bytes = tt;
  full = λ e. omega (arith, first.place, then.full e, first.len, length-append ws vs);
}

-- the words do not fit, and so words after them do not
pub puts_stop : {T E S F : Type 0} (old new : List ℕ) (at place next : ℕ) (ws vs : List ℕ) (x : E) (y : F) → Puts {T = T} old new at place ws (Err x) → Puts {T = S} old new at next (ws ++ vs) (Err y)
puts_stop old new at place next ws vs x y first = record {
  len = first.len;
  place = tt;
  fits = tt;
  bytes = tt;
  full = λ e. omega (arith, first.full refl, length-append ws vs);
}

-- no words
pub puts_nothing : {T E : Type 0} (old : List ℕ) (at : ℕ) (x : T) → at ≤ length old → Puts {E = E} old old at at [] (Ok x)
unfolding word_bytes
puts_nothing old at x within = record {
  len = refl;
  place = omega arith;
  fits = omega arith;
  bytes = let none : at ≡ at + 0 = omega arith in sym (take-append-drop at old) ∙ ap (λ n. take at old ++ drop n old) none;
  full = λ e. cc;
}
