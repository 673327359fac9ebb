-- The table of marks: which one a tile has, and what becomes of the others when one is kept (FITS 4.0, section 10.4.1).
use Rattle.std.proofs.Common.{◌≡◌, ◌≢◌, ℕ, zero, suc, ◌+◌, ◌-◌, ◌*◌, ◌/◌, ◌%◌, ◌^◌, ◌<◌, ◌≤◌, min, ◌⊎◌, inl, inr, ℤ, pos, List, [], ◌++◌, length, take, drop, set, get_or, replicate, Option, Some, None, IfSome, refl, sym, ap, ◌∙◌, subst, arith}
use Rattle.std.specs.Int.{w32, cast_signed, cast_unsigned}
use Rattle.std.proofs.lemmas.Bool.{cases_eq, cases_lt}
use Rattle.std.proofs.lemmas.Int.{of_z-to_z}
use Rattle.std.proofs.lemmas.List.{append-nil, drop_all, drop_at, get_or-set_other, get_or-set_same, length-drop, length-take-le}
use Rattle.std.proofs.lemmas.Nat.{mod_below}
use borrow.Rule.Slice.PartMut.{post_of, put_mid, same_len_mid}
use Rattle.fz_block.specs.declared.header.Header.{Header}
use Rattle.fz_tile.specs.declared.codec.Codec.{Codec}
use Rattle.fz_tile.specs.declared.codec.Codec.TheVariants.{Rice, Plio, Plain}
use Rattle.fz_pixels.specs.Marks.{IsMarkIn}
use Rattle.fz_pixels.specs.declared.marks.TileMark.{TileMark}
use Rattle.fz_look.specs.Marked.{AreMarks, IsKept, KeepsMark, mark_place, table_in, table_place, word_at}
use Rattle.fz_look.proofs.Merely.{mark_in_merely}

-- ---- places

pub word_put : (table : List ℤ) (k value : ℕ) (z : ℤ) → k < length table → value < 2 ^ 32 → z ≡ cast_signed w32 value → word_at (set table k z) k ≡ value
word_put table k value z near small is = ap (cast_unsigned w32) (get_or-set_same table k z (pos 0) near ∙ is) ∙ of_z-to_z w32 value small

pub word_beside : (table : List ℤ) (k j : ℕ) (z : ℤ) → j ≢ k → word_at (set table k z) j ≡ word_at table j
word_beside table k j z other = ap (cast_unsigned w32) (get_or-set_other table k j z (pos 0) other)

-- a mark has room in the table
fits_by : (x q n : ℕ) → x < q → q ≡ n / 4 → 4 * x + 4 ≤ n
fits_by x q n low is = omega (arith, low, is)

pub place_fits : (n t : ℕ) → 4 ≤ n → mark_place n t + 4 ≤ n
place_fits n t room =
    let some : 0 < n / 4 = omega (arith, room) in
    fits_by (t % (n / 4)) (n / 4) n (mod_below t (n / 4) some) refl

-- those of two tiles are apart, or at one place
beside : (x y j : ℕ) → (x ≡ y → ⊥) → j < 4 → (4 * x + j < 4 * y) ⊎ (4 * y + 4 ≤ 4 * x + j)
beside x y j other few = by_low (cases_lt x y)
  where
    by_high : y ≤ x → (y < x) ⊎ (x ≤ y) → (4 * x + j < 4 * y) ⊎ (4 * y + 4 ≤ 4 * x + j)
    by_high from (inl more) = inr (omega (arith, more))
    by_high from (inr most) = absurd (other (omega (arith, from, most)))

    by_low : (x < y) ⊎ (y ≤ x) → (4 * x + j < 4 * y) ⊎ (4 * y + 4 ≤ 4 * x + j)
    by_low (inl less) = inl (omega (arith, less, few))
    by_low (inr from) = by_high from (cases_lt y x)

-- ---- the mark of a tile

pub kept_at : (table : List ℤ) (t at : ℕ) (m : TileMark) → at ≡ mark_place (length table) t → 4 ≤ length table → word_at table at ≡ t + 1 → word_at table (at + 1) ≡ m.pixel → word_at table (at + 2) ≡ m.mark.bit → word_at table (at + 3) ≡ m.mark.last →
    IsKept table t m
kept_at table t at m place room tile pixel bit last = record {
  room = room;
  tile = ap (word_at table) (sym place) ∙ tile;
  pixel = ap (λ k. word_at table (k + 1)) (sym place) ∙ pixel;
  bit = ap (λ k. word_at table (k + 2)) (sym place) ∙ bit;
  last = ap (λ k. word_at table (k + 3)) (sym place) ∙ last;
}

-- four places are written in turn

module _ (t0 t1 t2 t3 t4 : List ℤ) (at a b c d : ℕ) (one : word_at t1 at ≡ a) (two : word_at t2 (at + 1) ≡ b) (three : word_at t3 (at + 2) ≡ c) (four : word_at t4 (at + 3) ≡ d)
    (others1 : (j : ℕ) → j ≢ at → word_at t1 j ≡ word_at t0 j) (others2 : (j : ℕ) → j ≢ at + 1 → word_at t2 j ≡ word_at t1 j)
    (others3 : (j : ℕ) → j ≢ at + 2 → word_at t3 j ≡ word_at t2 j) (others4 : (j : ℕ) → j ≢ at + 3 → word_at t4 j ≡ word_at t3 j) where
  first_put : word_at t4 at ≡ a
  first_put = others4 at (λ e. omega (arith, e)) ∙ others3 at (λ e. omega (arith, e)) ∙ others2 at (λ e. omega (arith, e)) ∙ one

  second_put : word_at t4 (at + 1) ≡ b
  second_put = others4 (at + 1) (λ e. omega (arith, e)) ∙ others3 (at + 1) (λ e. omega (arith, e)) ∙ two

  third_put : word_at t4 (at + 2) ≡ c
  third_put = others4 (at + 2) (λ e. omega (arith, e)) ∙ three

  apart_put : (j : ℕ) → (j < at) ⊎ (at + 4 ≤ j) → word_at t4 j ≡ word_at t0 j
  apart_put j (inl less) = others4 j (λ e. omega (arith, e, less)) ∙ others3 j (λ e. omega (arith, e, less)) ∙ others2 j (λ e. omega (arith, e, less)) ∙ others1 j (λ e. omega (arith, e, less))
  apart_put j (inr from) = others4 j (λ e. omega (arith, e, from)) ∙ others3 j (λ e. omega (arith, e, from)) ∙ others2 j (λ e. omega (arith, e, from)) ∙ others1 j (λ e. omega (arith, e, from))

-- the mark at its place is this one, and each other one was there before

module _ (old new : List ℤ) (t : ℕ) (m : TileMark) (long : length new ≡ length old) (first : word_at new (mark_place (length old) t) ≡ t + 1) (second : word_at new (mark_place (length old) t + 1) ≡ m.pixel)
    (third : word_at new (mark_place (length old) t + 2) ≡ m.mark.bit) (fourth : word_at new (mark_place (length old) t + 3) ≡ m.mark.last)
    (apart : (j : ℕ) → (j < mark_place (length old) t) ⊎ (mark_place (length old) t + 4 ≤ j) → word_at new j ≡ word_at old j) where
  place_same : (u : ℕ) → mark_place (length new) u ≡ mark_place (length old) u
  place_same u = ap (λ n. mark_place n u) long

  at_its_place : (u : ℕ) (k : TileMark) → mark_place (length old) u ≡ mark_place (length old) t → IsKept new u k → (u ≡ t) × (k ≡ m)
  at_its_place u k same is =
      let place : mark_place (length new) u ≡ mark_place (length old) t = place_same u ∙ same in
      let tile : u + 1 ≡ t + 1 = sym is.tile ∙ ap (word_at new) place ∙ first in
      let pixel : k.pixel ≡ m.pixel = sym is.pixel ∙ ap (λ p. word_at new (p + 1)) place ∙ second in
      let bit : k.mark.bit ≡ m.mark.bit = sym is.bit ∙ ap (λ p. word_at new (p + 2)) place ∙ third in
      let last : k.mark.last ≡ m.mark.last = sym is.last ∙ ap (λ p. word_at new (p + 3)) place ∙ fourth in
      (omega (arith, tile), λ i. record { pixel = pixel i; mark = record { bit = bit i; last = last i } })

  -- the four places of another mark

  module _ (u : ℕ) (other : u % (length old / 4) ≡ t % (length old / 4) → ⊥) where
    same_word : (j : ℕ) → j < 4 → word_at new (mark_place (length old) u + j) ≡ word_at old (mark_place (length old) u + j)
    same_word j few = apart (mark_place (length old) u + j) (beside (u % (length old / 4)) (t % (length old / 4)) j other few)

    same_first : word_at new (mark_place (length old) u) ≡ word_at old (mark_place (length old) u)
    same_first =
        let none : mark_place (length old) u + 0 ≡ mark_place (length old) u = omega arith in
        sym (ap (word_at new) none) ∙ same_word 0 (omega arith) ∙ ap (word_at old) none

    elsewhere : (k : TileMark) → IsKept new u k → IsKept old u k
    elsewhere k is = record {
      room = omega (arith, is.room, long);
      tile = sym same_first ∙ ap (word_at new) (sym (place_same u)) ∙ is.tile;
      pixel = sym (same_word 1 (omega arith)) ∙ ap (λ p. word_at new (p + 1)) (sym (place_same u)) ∙ is.pixel;
      bit = sym (same_word 2 (omega arith)) ∙ ap (λ p. word_at new (p + 2)) (sym (place_same u)) ∙ is.bit;
      last = sym (same_word 3 (omega arith)) ∙ ap (λ p. word_at new (p + 3)) (sym (place_same u)) ∙ is.last;
    }

  keeps : (u : ℕ) (k : TileMark) → IsKept new u k → ((u ≡ t) × (k ≡ m)) ⊎ IsKept old u k
  keeps u k is = by_place (cases_eq (u % (length old / 4)) (t % (length old / 4)))
    where
      by_place : (u % (length old / 4) ≡ t % (length old / 4)) ⊎ (u % (length old / 4) ≡ t % (length old / 4) → ⊥) → ((u ≡ t) × (k ≡ m)) ⊎ IsKept old u k
      by_place (inl same) = inl (at_its_place u k (ap (λ r. 4 * r) same) is)
      by_place (inr other) = inr (elsewhere u other k is)

pub keeps_put : (t0 t1 t2 t3 t4 : List ℤ) (t at : ℕ) (m : TileMark) → length t4 ≡ length t0 → at ≡ mark_place (length t0) t → word_at t1 at ≡ t + 1 → word_at t2 (at + 1) ≡ m.pixel → word_at t3 (at + 2) ≡ m.mark.bit → word_at t4 (at + 3) ≡ m.mark.last →
    ((j : ℕ) → j ≢ at → word_at t1 j ≡ word_at t0 j) → ((j : ℕ) → j ≢ at + 1 → word_at t2 j ≡ word_at t1 j) → ((j : ℕ) → j ≢ at + 2 → word_at t3 j ≡ word_at t2 j) → ((j : ℕ) → j ≢ at + 3 → word_at t4 j ≡ word_at t3 j) →
    KeepsMark t m t0 t4
keeps_put t0 t1 t2 t3 t4 t at m long place one two three four others1 others2 others3 others4 =
    keeps t0 t4 t m long
    (ap (word_at t4) (sym place) ∙ first_put t0 t1 t2 t3 t4 at (t + 1) m.pixel m.mark.bit m.mark.last one two three four others1 others2 others3 others4)
    (ap (λ p. word_at t4 (p + 1)) (sym place) ∙ second_put t0 t1 t2 t3 t4 at (t + 1) m.pixel m.mark.bit m.mark.last one two three four others1 others2 others3 others4)
    (ap (λ p. word_at t4 (p + 2)) (sym place) ∙ third_put t0 t1 t2 t3 t4 at (t + 1) m.pixel m.mark.bit m.mark.last one two three four others1 others2 others3 others4)
    (ap (λ p. word_at t4 (p + 3)) (sym place) ∙ four)
    (subst (λ p. (j : ℕ) → (j < p) ⊎ (p + 4 ≤ j) → word_at t4 j ≡ word_at t0 j) place
    (apart_put t0 t1 t2 t3 t4 at (t + 1) m.pixel m.mark.bit m.mark.last one two three four others1 others2 others3 others4))

-- none is kept
pub keeps_none : (t : ℕ) (m : TileMark) (table : List ℤ) → KeepsMark t m table table
keeps_none t m table = λ u k is. inr is

-- ---- zeros

zeros_read : (n k : ℕ) → get_or (replicate n (pos 0)) k (pos 0) ≡ pos 0
zeros_read zero k = refl
zeros_read (suc n) zero = refl
zeros_read (suc n) (suc k) = zeros_read n k

none_in : (table : List ℤ) (n t : ℕ) (m : TileMark) → table ≡ replicate n (pos 0) → IsKept table t m → ⊥
none_in table n t m zeros is =
    let all : List ℤ = replicate n (pos 0) in
    let z : IsKept all t m = subst (λ (l : List ℤ). IsKept l t m) zeros is in
    let none : word_at all (mark_place (length all) t) ≡ 0 = ap (cast_unsigned w32) (zeros_read n (mark_place (length all) t)) in
    omega (arith, z.tile, none)

-- after the largest table was cleared there are no marks, whatever the codec is

module _ (numbers new : List ℤ) (at : ℕ) (place : at ≡ length numbers - min (length numbers / 2) 16384) (long : length new ≡ length (take (length numbers - at) (drop at numbers)))
    (zeros : new ≡ replicate (length (take (length numbers - at) (drop at numbers))) (pos 0)) where
  abbrev cleared : List ℤ
  cleared = put_mid at (length numbers - at) numbers new

  cleared_len : length cleared ≡ length numbers
  cleared_len = same_len_mid at (length numbers - at) numbers new long

  within : at ≤ length numbers
  within = omega (arith, place)

  rest_none : post_of at (length numbers - at) numbers ≡ []
  rest_none = drop_all (length numbers - at) (drop at numbers) (omega (arith, length-drop at numbers))

  table_is : drop at cleared ≡ new
  table_is =
      drop_at (take at numbers) (new ++ post_of at (length numbers - at) numbers) at (length-take-le at numbers within)
      ∙ ap (λ (l : List ℤ). new ++ l) rest_none ∙ append-nil new

  place_again : length cleared - min (length cleared / 2) 16384 ≡ at
  place_again = ap (λ n. n - min (n / 2) 16384) cleared_len ∙ sym place

  pub no_marks : (codec : Codec) (t : ℕ) (m : TileMark) → IsKept (table_in codec (put_mid at (length numbers - at) numbers new)) t m → ⊥
  no_marks (Rice block bytepix) t m is =
      none_in (drop (length cleared - min (length cleared / 2) 16384) cleared) (length (take (length numbers - at) (drop at numbers))) t m
      (ap (λ n. drop n cleared) place_again ∙ table_is ∙ zeros) is
  no_marks Plio t m is = none_in (drop (length cleared) cleared) 0 t m (drop_all (length cleared) cleared (omega arith)) is
  no_marks Plain t m is = none_in (drop (length cleared) cleared) 0 t m (drop_all (length cleared) cleared (omega arith)) is

-- ---- the marks of an image

module _ (held : Option (List ℕ)) (h : Header) where
  -- a mark from which a tile is read on is one of it
  pub marked_from : (table : List ℤ) (t : ℕ) (from : Option TileMark) → IfSome held (λ g. AreMarks g h table) → IfSome from (IsKept table t) → IfSome held (λ g. IfSome from (IsMarkIn g h t))
  marked_from table t from marks kept = by_held held marks
    where
      by_mark : (g : List ℕ) → AreMarks g h table → (o : Option TileMark) → IfSome o (IsKept table t) → IfSome o (IsMarkIn g h t)
      by_mark g are None is = tt
      by_mark g are (Some m) is = mark_in_merely g h t m (are t m is)

      by_held : (l : Option (List ℕ)) → IfSome l (λ g. AreMarks g h table) → IfSome l (λ g. IfSome from (IsMarkIn g h t))
      by_held None are = tt
      by_held (Some g) are = by_mark g are from kept

  -- with one more mark of a tile they are still those of the image
  pub marks_kept : (old new : List ℤ) (t : ℕ) (m : TileMark) → KeepsMark t m old new → IfSome held (λ g. AreMarks g h old) → IfSome held (λ g. IsMarkIn g h t m) → IfSome held (λ g. AreMarks g h new)
  marks_kept old new t m kept marks mark = by_held held marks mark
    where
      by_mark : (g : List ℕ) (u : ℕ) (k : TileMark) → AreMarks g h old → IsMarkIn g h t m → ((u ≡ t) × (k ≡ m)) ⊎ IsKept old u k → ∥ IsMarkIn g h u k ∥₁
      by_mark g u k are one (inl (tile, same)) = ∣ subst (λ v. IsMarkIn g h v k) (sym tile) (subst (λ (n : TileMark). IsMarkIn g h t n) (sym same) one) ∣₁
      by_mark g u k are one (inr was) = are u k was

      by_held : (l : Option (List ℕ)) → IfSome l (λ g. AreMarks g h old) → IfSome l (λ g. IsMarkIn g h t m) → IfSome l (λ g. AreMarks g h new)
      by_held None are one = tt
      by_held (Some g) are one = λ u k is. by_mark g u k are one (kept u k is)

  -- the table, and the numbers that have it
  pub marks_of_table : (codec : Codec) (numbers table : List ℤ) → table ≡ table_in codec numbers → IfSome held (λ g. AreMarks g h (table_in codec numbers)) → IfSome held (λ g. AreMarks g h table)
  marks_of_table codec numbers table is marks = subst (λ (l : List ℤ). IfSome held (λ g. AreMarks g h l)) (sym is) marks

  pub marks_of_numbers : (codec : Codec) (numbers table : List ℤ) → table_in codec numbers ≡ table → IfSome held (λ g. AreMarks g h table) → IfSome held (λ g. AreMarks g h (table_in codec numbers))
  marks_of_numbers codec numbers table is marks = subst (λ (l : List ℤ). IfSome held (λ g. AreMarks g h l)) (sym is) marks

-- the table is the second of two parts
pub table_after : (codec : Codec) (old front table new : List ℤ) (at : ℕ) → new ≡ front ++ table → length new ≡ length old → length front ≡ at → at ≡ table_place codec (length old) → table_in codec new ≡ table
table_after codec old front table new at is long front_long place =
    ap (λ n. drop (table_place codec n) new) long ∙ ap (λ k. drop k new) (sym place) ∙ ap (drop at) is ∙ drop_at front table at front_long
