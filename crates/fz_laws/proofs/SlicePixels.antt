-- The pixels of a cutout, by the data of the image.
use Rattle.std.proofs.Common.{◌≡◌, ℕ, zero, suc, ◌*◌, ◌/◌, ◌<◌, ◌≤◌, ℤ, pos, List, [], ◌∷◌, ◌++◌, length, take, drop, map, refl, sym, ◌∙◌, ap, arith}
use Rattle.std.specs.Prelude.{slice_index_or}
use Rattle.std.proofs.lemmas.List.{append-nil, length-take-le, take_all}
use Rattle.std.proofs.lemmas.List.Elements.{All-take}
use Rattle.std.proofs.lemmas.List.FromFn.{length-map-range_with_len}
use Rattle.fz_grid.specs.Arrays.{NumberArray, at, place_of}
use Rattle.fz_grid.specs.Grid.{box_coordinates}
use Rattle.fz_grid.specs.Sieve.{sieve_lengths, sieve_lo, sieve_step, stepped}
use Rattle.fz_grid.specs.declared.sieve.Sieve.{Sieve}
use Rattle.fz_grid.specs.Cutout.{picked_numbers}
use Rattle.fz_tile.specs.Laws.{GivesBytesAgain, HasPlainLen, SlicesPixels}
use Rattle.fz_tile.specs.Pixels.{IsBitpix}
use Rattle.fz_tile.specs.Plain.{AreBytes, pixel_bytes, pixel_of, plain_bytes, stored_pixels}

abbrev rest_of : List ℕ → List ℕ
rest_of [] = []
rest_of (x ∷ xs) = xs

abbrev head_of : ℕ → List ℕ → ℕ
head_of d [] = d
head_of d (x ∷ xs) = x

-- two lists that begin with as many
pub split_same : (a b c d : List ℕ) → length a ≡ length c → a ++ b ≡ c ++ d → (a ≡ c) × (b ≡ d)
split_same [] b [] d long same = (refl, same)
split_same [] b (y ∷ c) d long same = absurd (omega (arith, long))
split_same (x ∷ a) b [] d long same = absurd (omega (arith, long))
split_same (x ∷ a) b (y ∷ c) d long same =
    let first : x ≡ y = ap (head_of x) same in
    let later = split_same a b c d (omega (arith, long)) (ap rest_of same) in
    (λ i. first i ∷ later.0 i, later.1)

module _ (len : HasPlainLen) (bits : ℕ) (is : IsBitpix (pos bits)) where
  one_len : (x : ℤ) → length (pixel_bytes bits x) ≡ bits / 8 * 1
  one_len x = sym (ap length (append-nil (pixel_bytes bits x))) ∙ len bits (x ∷ []) is

  same_at : (xs ys : List ℤ) (i : ℕ) → length xs ≡ length ys → plain_bytes bits xs ≡ plain_bytes bits ys → pixel_bytes bits (slice_index_or xs i (pos 0)) ≡ pixel_bytes bits (slice_index_or ys i (pos 0))
  same_at [] [] i long same = refl
  same_at [] (y ∷ ys) i long same = absurd (omega (arith, long))
  same_at (x ∷ xs) [] i long same = absurd (omega (arith, long))
  same_at (x ∷ xs) (y ∷ ys) zero long same = (split_same (pixel_bytes bits x) (plain_bytes bits xs) (pixel_bytes bits y) (plain_bytes bits ys) (one_len x ∙ sym (one_len y)) same).0
  same_at (x ∷ xs) (y ∷ ys) (suc i) long same =
      same_at xs ys i (omega (arith, long)) (split_same (pixel_bytes bits x) (plain_bytes bits xs) (pixel_bytes bits y) (plain_bytes bits ys) (one_len x ∙ sym (one_len y)) same).1

  -- arrays whose plain bytes are the same have the same plain bytes at the picks
  pub picks_same : (a b : NumberArray) (sieve : Sieve) → a.lengths ≡ b.lengths → length a.numbers ≡ length b.numbers → plain_bytes bits a.numbers ≡ plain_bytes bits b.numbers →
      plain_bytes bits (picked_numbers a sieve) ≡ plain_bytes bits (picked_numbers b sieve)
  picks_same a b sieve lengths long same = each (box_coordinates (sieve_lengths sieve))
    where
      one : (k : List ℕ) → pixel_bytes bits (at a (stepped (sieve_lo sieve) (sieve_step sieve) k)) ≡ pixel_bytes bits (at b (stepped (sieve_lo sieve) (sieve_step sieve) k))
      one k =
          ap (λ l. pixel_bytes bits (slice_index_or a.numbers (place_of l (stepped (sieve_lo sieve) (sieve_step sieve) k)) (pos 0))) lengths
          ∙ same_at a.numbers b.numbers (place_of b.lengths (stepped (sieve_lo sieve) (sieve_step sieve) k)) long same

      each : (ks : List (List ℕ)) → plain_bytes bits (map (λ k. at a (stepped (sieve_lo sieve) (sieve_step sieve) k)) ks) ≡ plain_bytes bits (map (λ k. at b (stepped (sieve_lo sieve) (sieve_step sieve) k)) ks)
      each [] = refl
      each (k ∷ ks) = λ i. one k i ++ each ks i

  -- the plain bytes of the pixels that data store are their front
  pub stored_again : GivesBytesAgain → SlicesPixels → (n : ℕ) (payload : List ℕ) → AreBytes payload → bits / 8 * n ≤ length payload → plain_bytes bits (stored_pixels bits n payload) ≡ take (bits / 8 * n) payload
  stored_again again slices n payload bytes within =
      let w : ℕ = bits / 8 in
      let count : length (stored_pixels bits n payload) ≡ n = length-map-range_with_len (λ i. pixel_of bits (take w (drop (w * i) payload))) 0 n in
      let none : w * 0 ≡ 0 = omega arith in
      let whole : take n (stored_pixels bits n payload) ≡ stored_pixels bits n payload = take_all n (stored_pixels bits n payload) (omega (arith, count)) in
      let front : take n (stored_pixels bits n payload) ≡ stored_pixels bits n (take (w * n) payload) = slices bits 0 n n payload (omega arith) ∙ ap (λ m. stored_pixels bits n (take (w * n) (drop m payload))) none in
      ap (plain_bytes bits) (sym whole ∙ front) ∙ again bits n (take (w * n) payload) is (All-take (λ b. b < 256) (w * n) payload bytes) (length-take-le (w * n) payload within)
