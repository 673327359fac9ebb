-- Pieces of a list of bytes, each written to its place, make the whole where they cover it.
use Rattle.std.proofs.Common.{◌≡◌, ℕ, zero, suc, ◌+◌, ◌-◌, ◌*◌, ◌/◌, ◌<◌, ◌≤◌, ◌⊎◌, inl, inr, max, ℤ, List, [], ◌∷◌, length, take, drop, map, get_or, Option, Some, None, refl, sym, ap, subst, ◌∙◌, arith}
use Rattle.std.specs.Prelude.{⊤}
use Rattle.std.proofs.lemmas.List.{get_or-drop, get_or-take, length-drop, length-take}
use Rattle.std.proofs.lemmas.Grind.{same_number_lists}
use Rattle.std.proofs.lemmas.Bool.{cases_lt}
use Rattle.std.proofs.Math.Nat.{div-lt_iff_lt-mul, lt-div-mul-add, div-mul-le_self, mul_comm}
use Rattle.fz_base.specs.Sink.{overwrite, written}
use Rattle.fz_pixels.specs.Pieces.{pieces_written}

-- the bytes of a piece
abbrev pub piece : ℕ → ℕ → List ℕ → List ℕ
piece w p whole = take w (drop (w * p) whole)

-- contents, where they are told, have this byte of the whole, which begins at a place
abbrev pub HasByte : ℕ → List ℕ → ℕ → Option (List ℕ) → Type 0
HasByte at whole i None = ⊤
HasByte at whole i (Some c) = (at + i < length c) × (get_or c (at + i) 0 ≡ get_or whole i 0)

piece_len : (w p : ℕ) (whole : List ℕ) → w * p + w ≤ length whole → length (piece w p whole) ≡ w
piece_len w p whole fits = length-take w (drop (w * p) whole) ∙ omega (arith, fits, length-drop (w * p) whole)

piece_byte : (w p j : ℕ) (whole : List ℕ) → j < w → get_or (piece w p whole) j 0 ≡ get_or whole (w * p + j) 0
piece_byte w p j whole low = get_or-take w (drop (w * p) whole) j 0 low ∙ get_or-drop (w * p) whole j 0

-- ---- pieces

pub record FitsAt (w p : ℕ) (whole bytes : List ℕ) : Type 0 where
  pub inside : w * p + w ≤ length whole
  pub bytes_are : take w bytes ≡ piece w p whole

-- pieces of a whole
abbrev pub Fits : ℕ → List ℕ → List ℕ → List ℕ → Type 0
Fits w whole [] bytes = ⊤
Fits w whole (p ∷ ps) bytes = FitsAt w p whole bytes × Fits w whole ps (drop w bytes)

abbrev pub IsIn : ℕ → List ℕ → Type 0
IsIn x [] = ⊥
IsIn x (y ∷ ys) = (y ≡ x) ⊎ IsIn x ys

-- ---- pieces of many parts, one part after another

abbrev pub all_written : ℕ → ℕ → (ℕ → List ℕ) → (ℕ → List ℤ → List ℕ) → List ℕ → List (List ℤ) → Option (List ℕ) → Option (List ℕ)
all_written w at places bytes [] pixels c = c
all_written w at places bytes (t ∷ ts) [] c = c
all_written w at places bytes (t ∷ ts) (xs ∷ pixels) c = all_written w at places bytes ts pixels (pieces_written w at (places t) (bytes t xs) c)

abbrev pub AllFit : ℕ → List ℕ → (ℕ → List ℕ) → (ℕ → List ℤ → List ℕ) → List ℕ → List (List ℤ) → Type 0
AllFit w whole places bytes [] pixels = ⊤
AllFit w whole places bytes (t ∷ ts) [] = ⊥
AllFit w whole places bytes (t ∷ ts) (xs ∷ pixels) = Fits w whole (places t) (bytes t xs) × AllFit w whole places bytes ts pixels

-- so many places are covered by the parts
abbrev pub AreCovered : ℕ → (ℕ → List ℕ) → List ℕ → Type 0
AreCovered n places ts = (p : ℕ) → p < n → (t : ℕ) × IsIn t ts × IsIn p (places t)

-- ---- what a write leaves at each place

pub record WriteLaws : Type 0 where
  pub inside : (at : ℕ) (bytes contents : List ℕ) (i : ℕ) → at ≤ i → i < at + length bytes → get_or (overwrite at bytes contents) i 0 ≡ get_or bytes (i - at) 0
  pub outside : (at : ℕ) (bytes contents : List ℕ) (i : ℕ) → (i < at) ⊎ (at + length bytes ≤ i) → get_or (overwrite at bytes contents) i 0 ≡ get_or contents i 0
  pub long : (at : ℕ) (bytes contents : List ℕ) → 0 < length bytes → length (overwrite at bytes contents) ≡ max (length contents) (at + length bytes)

module _ (laws : WriteLaws) where
  longer : (at : ℕ) (x c : List ℕ) → length c ≤ length (overwrite at x c)
  longer at [] c = let same : length c ≡ length (overwrite at [] c) = refl in omega (arith, same)
  longer at (b ∷ ys) c = omega (arith, laws.long at (b ∷ ys) c (omega arith))

  below : (at i : ℕ) (x c : List ℕ) → i < at → get_or (overwrite at x c) i 0 ≡ get_or c i 0
  below at i x c low = laws.outside at x c i (inl low)

  above : (at i : ℕ) (x c : List ℕ) → at + length x ≤ i → get_or (overwrite at x c) i 0 ≡ get_or c i 0
  above at i x c high = laws.outside at x c i (inr high)

  -- a piece has its bytes
  made_one : (at w p i : ℕ) (whole : List ℕ) (c : Option (List ℕ)) → w * p + w ≤ length whole → w * p ≤ i → i < w * p + w
      → HasByte at whole i (written (at + w * p) (piece w p whole) c)
  made_one at w p i whole None fits from to = tt
  made_one at w p i whole (Some c) fits from to =
      let x : List ℕ = piece w p whole in
      let size : length x ≡ w = piece_len w p whole fits in
      let long : length (overwrite (at + w * p) x c) ≡ max (length c) (at + w * p + length x) = laws.long (at + w * p) x c (omega (arith, size, from, to)) in
      let there : get_or (overwrite (at + w * p) x c) (at + i) 0 ≡ get_or x (at + i - (at + w * p)) 0 = laws.inside (at + w * p) x c (at + i) (omega (arith, from)) (omega (arith, to, size)) in
      let index : at + i - (at + w * p) ≡ i - w * p = omega (arith, from) in
      let back : w * p + (i - w * p) ≡ i = omega (arith, from) in (
        omega (arith, long, size, to),
        there ∙ ap (λ n. get_or x n 0) index ∙ piece_byte w p (i - w * p) whole (omega (arith, from, to)) ∙ ap (λ n. get_or whole n 0) back,
      )

  -- and leaves the others
  kept_one : (at w p i : ℕ) (whole : List ℕ) (c : Option (List ℕ)) → w * p + w ≤ length whole → HasByte at whole i c → HasByte at whole i (written (at + w * p) (piece w p whole) c)
  kept_one at w p i whole None fits has = tt
  kept_one at w p i whole (Some c) fits has = by (cases_lt i (w * p))
    where
      x : List ℕ
      x = piece w p whole

      size : length x ≡ w
      size = piece_len w p whole fits

      longest : length c ≤ length (overwrite (at + w * p) x c)
      longest = longer (at + w * p) x c

      by_end : w * p ≤ i → (i < w * p + w) ⊎ (w * p + w ≤ i) → HasByte at whole i (written (at + w * p) x (Some c))
      by_end from (inl to) = made_one at w p i whole (Some c) fits from to
      by_end from (inr high) = (omega (arith, has.0, longest), above (at + w * p) (at + i) x c (omega (arith, high, size)) ∙ has.1)

      by : (i < w * p) ⊎ (w * p ≤ i) → HasByte at whole i (written (at + w * p) x (Some c))
      by (inl low) = (omega (arith, has.0, longest), below (at + w * p) (at + i) x c (omega (arith, low)) ∙ has.1)
      by (inr from) = by_end from (cases_lt i (w * p + w))

  -- a write of the whole takes a piece with it
  absorbed_one : (at w p : ℕ) (whole : List ℕ) (c : Option (List ℕ)) → 0 < w → w * p + w ≤ length whole
      → written at whole (written (at + w * p) (piece w p whole) c) ≡ written at whole c
  absorbed_one at w p whole None some fits = refl
  absorbed_one at w p whole (Some c) some fits = ap Some (same_number_lists twice once lengths (λ k near. each k))
    where
      x : List ℕ
      x = piece w p whole

      mid : List ℕ
      mid = overwrite (at + w * p) x c

      twice : List ℕ
      twice = overwrite at whole mid

      once : List ℕ
      once = overwrite at whole c

      size : length x ≡ w
      size = piece_len w p whole fits

      lengths : length twice ≡ length once
      lengths =
          let of_mid : length mid ≡ max (length c) (at + w * p + length x) = laws.long (at + w * p) x c (omega (arith, size, some)) in
          let of_twice : length twice ≡ max (length mid) (at + length whole) = laws.long at whole mid (omega (arith, some, fits)) in
          let of_once : length once ≡ max (length c) (at + length whole) = laws.long at whole c (omega (arith, some, fits)) in
          omega (arith, of_mid, of_twice, of_once, size, fits)

      by_end : (k : ℕ) → at ≤ k → (k < at + length whole) ⊎ (at + length whole ≤ k) → get_or twice k 0 ≡ get_or once k 0
      by_end k from (inl to) = laws.inside at whole mid k from to ∙ sym (laws.inside at whole c k from to)
      by_end k from (inr high) = above at k whole mid high ∙ above (at + w * p) k x c (omega (arith, high, size, fits)) ∙ sym (above at k whole c high)

      by : (k : ℕ) → (k < at) ⊎ (at ≤ k) → get_or twice k 0 ≡ get_or once k 0
      by k (inl low) = below at k whole mid low ∙ below (at + w * p) k x c (omega (arith, low)) ∙ sym (below at k whole c low)
      by k (inr from) = by_end k from (cases_lt k (at + length whole))

      each : (k : ℕ) → get_or twice k 0 ≡ get_or once k 0
      each k = by k (cases_lt k at)

  -- a whole that stands there already is written by nothing
  unchanged : (at : ℕ) (whole : List ℕ) (c : Option (List ℕ)) → ((i : ℕ) → i < length whole → HasByte at whole i c) → written at whole c ≡ c
  unchanged at whole None has = refl
  unchanged at [] (Some c) has = refl
  unchanged at (b ∷ ys) (Some c) has = ap Some (same_number_lists once c lengths (λ k near. each k))
    where
      once : List ℕ
      once = overwrite at (b ∷ ys) c

      end : at + length ys < length c
      end = (has (length ys) (omega arith)).0

      lengths : length once ≡ length c
      lengths = let long : length once ≡ max (length c) (at + length (b ∷ ys)) = laws.long at (b ∷ ys) c (omega arith) in omega (arith, long, end)

      by_end : (k : ℕ) → at ≤ k → (k < at + length (b ∷ ys)) ⊎ (at + length (b ∷ ys) ≤ k) → get_or once k 0 ≡ get_or c k 0
      by_end k from (inl to) =
          let same : at + (k - at) ≡ k = omega (arith, from) in
          laws.inside at (b ∷ ys) c k from to ∙ sym (has (k - at) (omega (arith, from, to))).1 ∙ ap (λ n. get_or c n 0) same
      by_end k from (inr high) = above at k (b ∷ ys) c high

      by : (k : ℕ) → (k < at) ⊎ (at ≤ k) → get_or once k 0 ≡ get_or c k 0
      by k (inl low) = below at k (b ∷ ys) c low
      by k (inr from) = by_end k from (cases_lt k (at + length (b ∷ ys)))

      each : (k : ℕ) → get_or once k 0 ≡ get_or c k 0
      each k = by k (cases_lt k at)

  absorbed : (at w : ℕ) (whole ps bytes : List ℕ) (c : Option (List ℕ)) → 0 < w → Fits w whole ps bytes → written at whole (pieces_written w at ps bytes c) ≡ written at whole c
  absorbed at w whole [] bytes c some fits = refl
  absorbed at w whole (p ∷ ps) bytes c some fits =
      absorbed at w whole ps (drop w bytes) (written (at + w * p) (take w bytes) c) some fits.1
      ∙ ap (λ l. written at whole (written (at + w * p) l c)) fits.0.bytes_are
      ∙ absorbed_one at w p whole c some fits.0.inside

  kept_at : (at w p i : ℕ) (whole bytes : List ℕ) (c : Option (List ℕ)) → FitsAt w p whole bytes → HasByte at whole i c → HasByte at whole i (written (at + w * p) (take w bytes) c)
  kept_at at w p i whole bytes c fits has = subst (λ l. HasByte at whole i (written (at + w * p) l c)) (sym fits.bytes_are) (kept_one at w p i whole c fits.inside has)

  kept : (at w i : ℕ) (whole ps bytes : List ℕ) (c : Option (List ℕ)) → Fits w whole ps bytes → HasByte at whole i c → HasByte at whole i (pieces_written w at ps bytes c)
  kept at w i whole [] bytes c fits has = has
  kept at w i whole (p ∷ ps) bytes c fits has = kept at w i whole ps (drop w bytes) (written (at + w * p) (take w bytes) c) fits.1 (kept_at at w p i whole bytes c fits.0 has)

  made_at : (at w p q i : ℕ) (whole bytes : List ℕ) (c : Option (List ℕ)) → q ≡ p → FitsAt w q whole bytes → w * p ≤ i → i < w * p + w → HasByte at whole i (written (at + w * q) (take w bytes) c)
  made_at at w p q i whole bytes c same fits from to =
      let start : w * q ≡ w * p = ap (λ n. w * n) same in
      subst (λ l. HasByte at whole i (written (at + w * q) l c)) (sym fits.bytes_are) (made_one at w q i whole c fits.inside (omega (arith, start, from)) (omega (arith, start, to)))

  there : (at w p i : ℕ) (whole ps bytes : List ℕ) (c : Option (List ℕ)) → Fits w whole ps bytes → IsIn p ps → w * p ≤ i → i < w * p + w → HasByte at whole i (pieces_written w at ps bytes c)
  there at w p i whole [] bytes c fits is_in from to = elim is_in [ ]
  there at w p i whole (q ∷ ps) bytes c fits (inl same) from to =
      kept at w i whole ps (drop w bytes) (written (at + w * q) (take w bytes) c) fits.1 (made_at at w p q i whole bytes c same fits.0 from to)
  there at w p i whole (q ∷ ps) bytes c fits (inr later) from to = there at w p i whole ps (drop w bytes) (written (at + w * q) (take w bytes) c) fits.1 later from to

  all_absorbed : (at w : ℕ) (whole : List ℕ) (places : ℕ → List ℕ) (bytes : ℕ → List ℤ → List ℕ) (ts : List ℕ) (pixels : List (List ℤ)) (c : Option (List ℕ)) → 0 < w
      → AllFit w whole places bytes ts pixels → written at whole (all_written w at places bytes ts pixels c) ≡ written at whole c
  all_absorbed at w whole places bytes [] pixels c some fit = refl
  all_absorbed at w whole places bytes (t ∷ ts) [] c some fit = refl
  all_absorbed at w whole places bytes (t ∷ ts) (xs ∷ pixels) c some fit =
      all_absorbed at w whole places bytes ts pixels (pieces_written w at (places t) (bytes t xs) c) some fit.1 ∙ absorbed at w whole (places t) (bytes t xs) c some fit.0

  all_kept : (at w i : ℕ) (whole : List ℕ) (places : ℕ → List ℕ) (bytes : ℕ → List ℤ → List ℕ) (ts : List ℕ) (pixels : List (List ℤ)) (c : Option (List ℕ))
      → AllFit w whole places bytes ts pixels → HasByte at whole i c → HasByte at whole i (all_written w at places bytes ts pixels c)
  all_kept at w i whole places bytes [] pixels c fit has = has
  all_kept at w i whole places bytes (t ∷ ts) [] c fit has = has
  all_kept at w i whole places bytes (t ∷ ts) (xs ∷ pixels) c fit has =
      all_kept at w i whole places bytes ts pixels (pieces_written w at (places t) (bytes t xs) c) fit.1 (kept at w i whole (places t) (bytes t xs) c fit.0 has)

  all_there : (at w p i t : ℕ) (whole : List ℕ) (places : ℕ → List ℕ) (bytes : ℕ → List ℤ → List ℕ) (ts : List ℕ) (pixels : List (List ℤ)) (c : Option (List ℕ))
      → AllFit w whole places bytes ts pixels → IsIn t ts → IsIn p (places t) → w * p ≤ i → i < w * p + w → HasByte at whole i (all_written w at places bytes ts pixels c)
  all_there at w p i t whole places bytes [] pixels c fit is_in here from to = elim is_in [ ]
  all_there at w p i t whole places bytes (u ∷ ts) [] c fit is_in here from to = elim fit [ ]
  all_there at w p i t whole places bytes (u ∷ ts) (xs ∷ pixels) c fit (inl same) here from to =
      all_kept at w i whole places bytes ts pixels (pieces_written w at (places u) (bytes u xs) c) fit.1
      (there at w p i whole (places u) (bytes u xs) c fit.0 (subst (λ v. IsIn p (places v)) (sym same) here) from to)
  all_there at w p i t whole places bytes (u ∷ ts) (xs ∷ pixels) c fit (inr later) here from to =
      all_there at w p i t whole places bytes ts pixels (pieces_written w at (places u) (bytes u xs) c) fit.1 later here from to

  -- parts that fit into a whole and cover it are the whole
  pub covered : (at w n : ℕ) (whole : List ℕ) (places : ℕ → List ℕ) (bytes : ℕ → List ℤ → List ℕ) (ts : List ℕ) (pixels : List (List ℤ)) (c : Option (List ℕ)) → 0 < w
      → length whole ≡ w * n → AllFit w whole places bytes ts pixels → AreCovered n places ts → all_written w at places bytes ts pixels c ≡ written at whole c
  covered at w n whole places bytes ts pixels c some size fit cover =
      sym (unchanged at whole (all_written w at places bytes ts pixels c) each) ∙ all_absorbed at w whole places bytes ts pixels c some fit
    where
      each : (i : ℕ) → i < length whole → HasByte at whole i (all_written w at places bytes ts pixels c)
      each i low =
          let p : ℕ = i / w in
          let flip : w * p ≡ p * w = mul_comm w p in
          let from : w * p ≤ i = omega (arith, flip, div-mul-le_self i w) in
          let past : i < p * w + w = lt-div-mul-add some in
          let sides : n * w ≡ w * n = mul_comm n w in
          let under : i < n * w = omega (arith, low, size, sides) in
          let near : i / w < n = (div-lt_iff_lt-mul some).1 under in
          let found = cover p near in
          all_there at w p i found.0 whole places bytes ts pixels c fit found.1 found.2 from (omega (arith, flip, past))

-- ---- parts that are known by number

pub fit_all : (w : ℕ) (whole : List ℕ) (places : ℕ → List ℕ) (bytes : ℕ → List ℤ → List ℕ) (ts : List ℕ) (pixels : List (List ℤ)) → length pixels ≡ length ts
    → ((k : ℕ) → k < length ts → Fits w whole (places (get_or ts k 0)) (bytes (get_or ts k 0) (get_or pixels k []))) → AllFit w whole places bytes ts pixels
fit_all w whole places bytes [] pixels same each = tt
fit_all w whole places bytes (t ∷ ts) [] same each = absurd (omega (arith, same))
fit_all w whole places bytes (t ∷ ts) (xs ∷ pixels) same each = (each 0 (omega arith), fit_all w whole places bytes ts pixels (omega (arith, same)) (λ k low. each (suc k) (omega (arith, low))))

pub fit_map : (w : ℕ) (whole : List ℕ) (places : ℕ → List ℕ) (bytes : ℕ → List ℤ → List ℕ) (f : ℕ → List ℤ) (ts : List ℕ)
    → ((t : ℕ) → Fits w whole (places t) (bytes t (f t))) → AllFit w whole places bytes ts (map f ts)
fit_map w whole places bytes f [] each = tt
fit_map w whole places bytes f (t ∷ ts) each = (each t, fit_map w whole places bytes f ts each)

pub in_nth : (ps : List ℕ) (k p : ℕ) → k < length ps → get_or ps k 0 ≡ p → IsIn p ps
in_nth [] k p low here = absurd (omega (arith, low))
in_nth (q ∷ ps) zero p low here = inl here
in_nth (q ∷ ps) (suc k) p low here = inr (in_nth ps k p (omega (arith, low)) here)
