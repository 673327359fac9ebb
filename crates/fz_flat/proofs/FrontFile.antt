-- What the front of an HDU says is what the file says of this HDU.
use Rattle.std.proofs.Common.{◌≡◌, ℕ, ◌+◌, ◌-◌, ◌*◌, ◌/◌, ◌≤◌, ◌<◌, Bool, true, false, nat_lt, min, List, [], ◌∷◌, length, take, drop, Option, Some, None, Result, Ok, Err, inl, inr, refl, sym, ◌∙◌, ap, subst, arith, codes, if◌then◌else◌}
use Rattle.std.specs.Prelude.{◌==◌, ◌&&◌, ◌||◌, not, nat_le, bytes_eq, is_none}
use Rattle.std.specs.Result.{result_map_both}
use Rattle.std.proofs.lemmas.Bool.{and_parts}
use Rattle.std.proofs.lemmas.Bool.Decides.{nat_tests}
use Rattle.std.proofs.lemmas.List.{length-drop, take_all, take-take}
use Rattle.fz_base.specs.Kind.{kind_number}
use Rattle.fz_base.specs.Refusal.{refusal, first_refusal}
use Rattle.fz_base.specs.declared.fault.Fault.{Fault}
use Rattle.fz_base.specs.declared.fault.Place.{Place}
use Rattle.fz_base.specs.declared.fault.Place.TheVariants.{Byte, Card}
use Rattle.fz_base.specs.declared.kind.Kind.TheVariants.{NotFits, Truncated, LongHeader, TrailingBytes, Limit}
use Rattle.fz_block.specs.Cards.{end_among, end_of}
use Rattle.fz_block.specs.Checks.{blocks_to_end, hdu_at, header_blocks_of, header_in, header_of, is_set, unless_refused}
use Rattle.fz_block.specs.Walk.{hdu_of}
use Rattle.fz_block.specs.declared.header.Header.{Header}
use Rattle.fz_block.proofs.Agains.{as_found, refused_at}
use Rattle.fz_block.proofs.Among.{found_first}
use Rattle.fz_block.proofs.HduLemmas.{blocks_inside}
use Rattle.fz_block.proofs.Places.{facts_found}
use Rattle.fz_block.proofs.Room.{end_of_blocks}
use Rattle.fz_head.specs.Packable.{is_packed}
use Rattle.fz_checks.specs.JobChecks.{image_to_amend}
use Rattle.fz_checks.specs.declared.job_checks.PackedImage.{PackedImage}
use Rattle.fz_flat.specs.Fronts.{blocks_there, fault_from, hdu_by, hdu_by_facts, hdu_there, image_by, image_by_facts, image_there_of, is_numbered, is_place, rest_of, unread_for}
use Rattle.fz_flat.specs.Hdus.{flat_hdu}
use Rattle.fz_flat.specs.Laws.{IsFrontOf, SaysBlocks, SaysHdu, SaysImage}
use Rattle.fz_flat.specs.declared.fronts.Unread.{Unread}
use Rattle.fz_flat.specs.declared.fronts.Unread.TheVariants.{NoPlace, GoesOn, Refused}
use Rattle.fz_flat.specs.declared.place.FzAt.{FzAt}

-- ---- the blocks of a header by what the checks see

-- the answer by the tests of the first block, the END that was found, and whether a longest header would be there
abbrev judged : ℕ → Bool → Bool → Bool → Bool → Option ℕ → Bool → Place → Place → Result ℕ Fault
judged k many foreign short other end long first last =
    unless_refused (blocks_to_end end) (first_refusal (
    (many, refusal k first Limit) ∷ (foreign, refusal k first TrailingBytes) ∷ (short, refusal k last Truncated) ∷ (other, refusal k (Card 0) NotFits)
    ∷ (is_none end && long, refusal k first LongHeader) ∷ (is_none end, refusal k last Truncated) ∷ []))

-- so for the bytes from the HDU on, of which so many blocks are looked at
abbrev judged_by : ℕ → List ℕ → ℕ → Bool → Bool → Place → Place → Result ℕ Fault
judged_by k bytes blocks short long first last =
    judged k (nat_le 65536 k) (nat_lt 0 k && not (bytes_eq (take 8 bytes) (codes "XTENSION"))) short (k == 0 && not (is_set (codes "SIMPLE") (take 80 bytes)))
    (end_of (take (2880 * blocks) bytes)) long first last

blocks-by : (k start : ℕ) (file : List ℕ) →
    header_blocks_of k start file ≡ judged_by k (drop start file) (min 256 ((length file - start) / 2880)) (nat_lt (length file) (start + 2880)) (nat_le (start + 737280) (length file)) (Byte start) (Byte (length file))
unfolding header_blocks_of
blocks-by k start file = refl

-- ---- the rest of the file, as a file of its own

same-test : (a b : Bool) → (a ≡ true → b ≡ true) → (a ≡ false → b ≡ false) → a ≡ b
same-test true b holds fails = sym (holds refl)
same-test false b holds fails = sym (fails refl)

-- each fault is the one of the file, at its place there
moved : (k s n l : ℕ) (many foreign short other : Bool) (end : Option ℕ) (long : Bool) → s + 0 ≡ s → s + n ≡ l →
    result_map_both (λ m. m) (fault_from s) (judged k many foreign short other end long (Byte 0) (Byte n)) ≡ judged k many foreign short other end long (Byte s) (Byte l)
moved k s n l true foreign short other end long z e = ap (λ b. Err (refusal k (Byte b) Limit)) z
moved k s n l false true short other end long z e = ap (λ b. Err (refusal k (Byte b) TrailingBytes)) z
moved k s n l false false true other end long z e = ap (λ b. Err (refusal k (Byte b) Truncated)) e
moved k s n l false false false true end long z e = refl
moved k s n l false false false false (Some i) long z e = refl
moved k s n l false false false false None true z e = ap (λ b. Err (refusal k (Byte b) LongHeader)) z
moved k s n l false false false false None false z e = ap (λ b. Err (refusal k (Byte b) Truncated)) e

short-same : (s n l : ℕ) → s + n ≡ l → nat_lt n (0 + 2880) ≡ nat_lt l (s + 2880)
short-same s n l e = same-test (nat_lt n (0 + 2880)) (nat_lt l (s + 2880)) (λ t. grind (arith, nat_tests, t, e)) (λ t. grind (arith, nat_tests, t, e))

long-same : (s n l : ℕ) → s + n ≡ l → nat_le (0 + 737280) n ≡ nat_le (s + 737280) l
long-same s n l e = same-test (nat_le (0 + 737280) n) (nat_le (s + 737280) l) (λ t. grind (arith, nat_tests, t, e)) (λ t. grind (arith, nat_tests, t, e))

whole : (k s : ℕ) (file front : List ℕ) → front ≡ drop s file → s ≤ length file →
    result_map_both (λ m. m) (fault_from s) (header_blocks_of k 0 front) ≡ header_blocks_of k s file
whole k s file front same inside =
    let size : length front ≡ length file - s = ap length same ∙ length-drop s file in
    let ends : s + length front ≡ length file = omega (arith, size, inside) in
    let z : s + 0 ≡ s = omega arith in
    let none : length front - 0 ≡ length file - s = omega (arith, size) in
    let blocks : min 256 ((length front - 0) / 2880) ≡ min 256 ((length file - s) / 2880) = ap (λ m. min 256 (m / 2880)) none in
    ap (result_map_both (λ m. m) (fault_from s)) (
    blocks-by k 0 front
    ∙ (ap (λ b. judged_by k front b (nat_lt (length front) (0 + 2880)) (nat_le (0 + 737280) (length front)) (Byte 0) (Byte (length front))) blocks
    ∙ (ap (λ (xs : List ℕ). judged_by k xs (min 256 ((length file - s) / 2880)) (nat_lt (length front) (0 + 2880)) (nat_le (0 + 737280) (length front)) (Byte 0) (Byte (length front))) same
    ∙ (ap (λ b. judged_by k (drop s file) (min 256 ((length file - s) / 2880)) b (nat_le (0 + 737280) (length front)) (Byte 0) (Byte (length front))) (short-same s (length front) (length file) ends)
    ∙ ap (λ b. judged_by k (drop s file) (min 256 ((length file - s) / 2880)) (nat_lt (length file) (s + 2880)) b (Byte 0) (Byte (length front))) (long-same s (length front) (length file) ends))))
    )
    ∙ (moved k s (length front) (length file) (nat_le 65536 k) (nat_lt 0 k && not (bytes_eq (take 8 (drop s file)) (codes "XTENSION"))) (nat_lt (length file) (s + 2880))
    (k == 0 && not (is_set (codes "SIMPLE") (take 80 (drop s file)))) (end_of (take (2880 * min 256 ((length file - s) / 2880)) (drop s file))) (nat_le (s + 737280) (length file)) z ends
    ∙ sym (blocks-by k s file))

-- a fault of the whole rest is never that it ends too early for the file
no-sooner : (early cut : Bool) (s : ℕ) (x : Fault) (found : Result ℕ Fault) → cut ≡ false → found ≡ Err (fault_from s x) →
    SaysBlocks (Err (if early && cut then GoesOn else Refused (fault_from s x))) found
no-sooner true true s x found whole e = absurd (let h : ⊥ = cc in h)
no-sooner true false s x found whole e = e
no-sooner false cut s x found whole e = e

whole-says : (at : FzAt) (n : ℕ) (r found : Result ℕ Fault) → nat_lt n (rest_of at) ≡ false → result_map_both (λ m. m) (fault_from at.start) r ≡ found →
    SaysBlocks (result_map_both (λ m. m) (unread_for at n) r) found
whole-says at n (Ok m) found all e = sym e
whole-says at n (Err x) found all e = no-sooner (kind_number x.kind == 2) (nat_lt n (rest_of at)) at.start x found all (sym e)

-- ---- a front that ends before the file does

-- END among the blocks that are there is END among those of the file
pub record EndsAlike (here there : Option ℕ) (long_here long_there : Bool) : Type 0 where
  pub found : (i : ℕ) → here ≡ Some i → there ≡ Some i
  pub long : here ≡ None → long_here ≡ true → (there ≡ None) × (long_there ≡ true)

by-end : (at : FzAt) (k n l : ℕ) (here there : Option ℕ) (long_here long_there : Bool) → at.start + 0 ≡ at.start → nat_lt n (rest_of at) ≡ true → EndsAlike here there long_here long_there →
    SaysBlocks (result_map_both (λ m. m) (unread_for at n) (judged k false false false false here long_here (Byte 0) (Byte n))) (judged k false false false false there long_there (Byte at.start) (Byte l))
by-end at k n l (Some i) there long_here long_there z cut alike =
    subst (λ (o : Option ℕ). judged k false false false false o long_there (Byte at.start) (Byte l) ≡ Ok (blocks_to_end (Some i))) (sym (alike.found i refl)) refl
by-end at k n l None there true long_there z cut alike =
    let both = alike.long refl refl in
    subst (λ (o : Option ℕ). judged k false false false false o long_there (Byte at.start) (Byte l) ≡ Err (refusal k (Byte (at.start + 0)) LongHeader)) (sym both.0)
    (subst (λ (b : Bool). judged k false false false false None b (Byte at.start) (Byte l) ≡ Err (refusal k (Byte (at.start + 0)) LongHeader)) (sym both.1)
    (ap (λ b. Err (refusal k (Byte b) LongHeader)) (sym z)))
by-end at k n l None there false long_there z cut alike =
    subst (λ (b : Bool). SaysBlocks (Err (if b then GoesOn else Refused (fault_from at.start (refusal k (Byte n) Truncated)))) (judged k false false false false there long_there (Byte at.start) (Byte l)))
    (sym cut) tt

cut-says : (at : FzAt) (k n l : ℕ) (many foreign other : Bool) (here there : Option ℕ) (long_here long_there : Bool) → at.start + 0 ≡ at.start → nat_lt n (rest_of at) ≡ true →
    EndsAlike here there long_here long_there →
    SaysBlocks (result_map_both (λ m. m) (unread_for at n) (judged k many foreign false other here long_here (Byte 0) (Byte n))) (judged k many foreign false other there long_there (Byte at.start) (Byte l))
cut-says at k n l true foreign other here there long_here long_there z cut alike = ap (λ b. Err (refusal k (Byte b) Limit)) (sym z)
cut-says at k n l false true other here there long_here long_there z cut alike = ap (λ b. Err (refusal k (Byte b) TrailingBytes)) (sym z)
cut-says at k n l false false true here there long_here long_there z cut alike = refl
cut-says at k n l false false false here there long_here long_there z cut alike = by-end at k n l here there long_here long_there z cut alike

-- the blocks of a front, and those of the rest of the file
alike : (bytes : List ℕ) (s n l : ℕ) → n ≤ length bytes → length bytes ≡ l - s →
    EndsAlike (end_of (take (2880 * min 256 ((n - 0) / 2880)) (take n bytes))) (end_of (take (2880 * min 256 ((l - s) / 2880)) bytes)) (nat_le (0 + 737280) n) (nat_le (s + 737280) l)
alike bytes s n l within size =
    let a : ℕ = min 256 ((n - 0) / 2880) in
    let b : ℕ = min 256 ((l - s) / 2880) in
    let inside : 2880 * a ≤ n = omega arith in
    let here : end_of (take (2880 * a) (take n bytes)) ≡ end_among (36 * a) bytes = ap end_of (take-take (2880 * a) n bytes inside) ∙ end_of_blocks a bytes (omega (arith, inside, within)) in
    let there : end_of (take (2880 * b) bytes) ≡ end_among (36 * b) bytes = end_of_blocks b bytes (omega (arith, size)) in
    let more : 36 * a + (36 * b - 36 * a) ≡ 36 * b = omega (arith, within, size) in
    record {
      found = λ i e. there ∙ (ap (λ c. end_among c bytes) (sym more) ∙ found_first (36 * a) (36 * b - 36 * a) i bytes (sym here ∙ e));
      long = λ e t.
          let far : 737280 ≤ n = grind (arith, nat_tests, t) in
          let same : b ≡ a = omega (arith, far, within, size) in
          let test : nat_le (s + 737280) l ≡ true = grind (arith, nat_tests, far, within, size) in
          (ap (λ c. end_of (take (2880 * c) bytes)) same ∙ (end_of_blocks a bytes (omega (arith, inside, within)) ∙ (sym here ∙ e)), test);
    }

cut-front : (at : FzAt) (k : ℕ) (file front : List ℕ) → front ≡ take (length front) (drop at.start file) → at.length ≡ length file → at.start ≤ length file → 2880 ≤ length front →
    nat_lt (length front) (rest_of at) ≡ true → SaysBlocks (result_map_both (λ m. m) (unread_for at (length front)) (header_blocks_of k 0 front)) (header_blocks_of k at.start file)
cut-front at k file front from len begins some cut =
    let s : ℕ = at.start in
    let n : ℕ = length front in
    let l : ℕ = length file in
    let bytes : List ℕ = drop s file in
    let size : length bytes ≡ l - s = length-drop s file in
    let sooner : n < rest_of at = grind (arith, nat_tests, cut) in
    let within : n ≤ length bytes = omega (arith, size, sooner, len) in
    let z : s + 0 ≡ s = omega arith in
    let eight : take 8 front ≡ take 8 bytes = ap (take 8) from ∙ take-take 8 n bytes (omega (arith, some)) in
    let eighty : take 80 front ≡ take 80 bytes = ap (take 80) from ∙ take-take 80 n bytes (omega (arith, some)) in
    let short : nat_lt n (0 + 2880) ≡ false = grind (arith, nat_tests, some) in
    let short_there : nat_lt l (s + 2880) ≡ false = grind (arith, nat_tests, some, within, size) in
    let a : ℕ = min 256 ((n - 0) / 2880) in
    let b : ℕ = min 256 ((l - s) / 2880) in
    let foreign : Bool = nat_lt 0 k && not (bytes_eq (take 8 bytes) (codes "XTENSION")) in
    let other : Bool = k == 0 && not (is_set (codes "SIMPLE") (take 80 bytes)) in
    let here : header_blocks_of k 0 front ≡ judged k (nat_le 65536 k) foreign false other (end_of (take (2880 * a) (take n bytes))) (nat_le (0 + 737280) n) (Byte 0) (Byte n) =
    blocks-by k 0 front
    ∙ (ap (λ (xs : List ℕ). judged k (nat_le 65536 k) (nat_lt 0 k && not (bytes_eq xs (codes "XTENSION"))) (nat_lt n (0 + 2880)) (k == 0 && not (is_set (codes "SIMPLE") (take 80 front))) (end_of (take (2880 * a) front)) (nat_le (0 + 737280) n) (Byte 0) (Byte n)) eight
    ∙ (ap (λ (xs : List ℕ). judged k (nat_le 65536 k) foreign (nat_lt n (0 + 2880)) (k == 0 && not (is_set (codes "SIMPLE") xs)) (end_of (take (2880 * a) front)) (nat_le (0 + 737280) n) (Byte 0) (Byte n)) eighty
    ∙ (ap (λ t. judged k (nat_le 65536 k) foreign t other (end_of (take (2880 * a) front)) (nat_le (0 + 737280) n) (Byte 0) (Byte n)) short
    ∙ ap (λ (xs : List ℕ). judged k (nat_le 65536 k) foreign false other (end_of (take (2880 * a) xs)) (nat_le (0 + 737280) n) (Byte 0) (Byte n)) from))) in
    let there : header_blocks_of k s file ≡ judged k (nat_le 65536 k) foreign false other (end_of (take (2880 * b) bytes)) (nat_le (s + 737280) l) (Byte s) (Byte l) =
    blocks-by k s file ∙ ap (λ t. judged k (nat_le 65536 k) foreign t other (end_of (take (2880 * b) bytes)) (nat_le (s + 737280) l) (Byte s) (Byte l)) short_there in
    subst (λ (r : Result ℕ Fault). SaysBlocks (result_map_both (λ m. m) (unread_for at n) r) (header_blocks_of k s file)) (sym here)
    (subst (λ (r : Result ℕ Fault). SaysBlocks (result_map_both (λ m. m) (unread_for at n) (judged k (nat_le 65536 k) foreign false other (end_of (take (2880 * a) (take n bytes))) (nat_le (0 + 737280) n) (Byte 0) (Byte n))) r) (sym there)
    (cut-says at k n l (nat_le 65536 k) foreign other (end_of (take (2880 * a) (take n bytes))) (end_of (take (2880 * b) bytes)) (nat_le (0 + 737280) n) (nat_le (s + 737280) l) z cut
    (alike bytes s n l within size)))

-- ---- both

either-front : (at : FzAt) (file front : List ℕ) → IsFrontOf file at front → at.start ≤ at.length → length front ≤ rest_of at → min (rest_of at) 2880 ≤ length front → (cut : Bool) → nat_lt (length front) (rest_of at) ≡ cut →
    SaysBlocks (result_map_both (λ m. m) (unread_for at (length front)) (header_blocks_of at.hdu 0 front)) (header_blocks_of at.hdu at.start file)
either-front at file front is begins within some true cut =
    let sooner : length front < rest_of at = grind (arith, nat_tests, cut) in
    cut-front at at.hdu file front is.from is.len (omega (arith, begins, is.len)) (omega (arith, sooner, some)) cut
either-front at file front is begins within some false cut =
    let far : rest_of at ≤ length front = grind (arith, nat_tests, cut) in
    let inside : at.start ≤ length file = omega (arith, begins, is.len) in
    let all : length (drop at.start file) ≤ length front = omega (arith, length-drop at.start file, far, is.len) in
    let same : front ≡ drop at.start file = is.from ∙ take_all (length front) (drop at.start file) all in
    whole-says at (length front) (header_blocks_of at.hdu 0 front) (header_blocks_of at.hdu at.start file) cut (whole at.hdu at.start file front same inside)

-- what the tests of a place and of the first block leave
says-by : (place few : Bool) (answer : Result ℕ Unread) (found : Result ℕ Fault) → (place ≡ true → few ≡ false → SaysBlocks answer found) →
    SaysBlocks (if not place then Err NoPlace else (if few then Err GoesOn else answer)) found
says-by false few answer found says = tt
says-by true true answer found says = tt
says-by true false answer found says = says refl refl

module _ (file front : List ℕ) (at : FzAt) (is : IsFrontOf file at front) where
  -- the front begins and ends within the file
  inside : is_place at (length front) ≡ true → (at.start ≤ at.length) × (length front ≤ rest_of at)
  unfolding is_place
  inside place =
      let later : (nat_le at.start at.length && (nat_le (length front) (rest_of at) && (is_numbered at && (nat_lt at.start at.length || at.start == 0)))) ≡ true = (and_parts _ _ place).1 in
      let begins : nat_le at.start at.length ≡ true = (and_parts _ _ later).0 in
      let ends : nat_le (length front) (rest_of at) ≡ true = (and_parts _ _ (and_parts _ _ later).1).0 in
      (grind (arith, nat_tests, begins), grind (arith, nat_tests, ends))

  pub blocks-say : SaysBlocks (blocks_there at front) (header_blocks_of at.hdu at.start file)
  unfolding blocks_there
  blocks-say =
      says-by (is_place at (length front)) (nat_lt (length front) (min (rest_of at) 2880)) (result_map_both (λ m. m) (unread_for at (length front)) (header_blocks_of at.hdu 0 front)) (header_blocks_of at.hdu at.start file)
      (λ place few.
      let within = inside place in
      let some : min (rest_of at) 2880 ≤ length front = grind (arith, nat_tests, few) in
      either-front at file front is within.0 within.1 some (nat_lt (length front) (rest_of at)) refl)

  -- ---- the header

  blocks-of : (place few : Bool) (r : Result ℕ Fault) (m : ℕ) → (if not place then Err NoPlace else (if few then Err GoesOn else result_map_both (λ n. n) (unread_for at (length front)) r)) ≡ Ok m → r ≡ Ok m
  blocks-of false few r m e = absurd (let h : ⊥ = cc in h)
  blocks-of true true r m e = absurd (let h : ⊥ = cc in h)
  blocks-of true false (Ok n) m e = cc
  blocks-of true false (Err x) m e = absurd (let h : ⊥ = cc in h)

  -- the bytes of the header are those of the file
  header-same : (m : ℕ) → blocks_there at front ≡ Ok m → take (2880 * m) front ≡ take (2880 * m) (drop at.start file)
  unfolding blocks_there
  header-same m e =
      let blocks : header_blocks_of at.hdu 0 front ≡ Ok m = blocks-of (is_place at (length front)) (nat_lt (length front) (min (rest_of at) 2880)) (header_blocks_of at.hdu 0 front) m e in
      let room = blocks_inside at.hdu 0 m front blocks (omega arith) in
      ap (take (2880 * m)) is.from ∙ take-take (2880 * m) (length front) (drop at.start file) (omega (arith, room.0))

  -- the checks of the header are those of the file
  checks-same : (m : ℕ) → blocks_there at front ≡ Ok m → hdu_at at.hdu at.start file ≡ header_of at.hdu at.start at.length (take (2880 * m) front)
  unfolding hdu_at
  checks-same m e =
      let found : header_blocks_of at.hdu at.start file ≡ Ok m = subst (λ (r : Result ℕ Unread). SaysBlocks r (header_blocks_of at.hdu at.start file)) e blocks-say in
      ap (header_in at.hdu at.start file) found
      ∙ (ap (λ l. header_of at.hdu at.start l (take (2880 * m) (drop at.start file))) (sym is.len)
      ∙ ap (header_of at.hdu at.start at.length) (sym (header-same m e)))

  -- and so are the bytes of its HDU
  bytes-same : (m : ℕ) (h : Header) → blocks_there at front ≡ Ok m → hdu_at at.hdu at.start file ≡ Ok h → take (2880 * m) front ≡ (hdu_of file h).header
  bytes-same m h e found =
      let blocks : header_blocks_of at.hdu at.start file ≡ Ok m = subst (λ (r : Result ℕ Unread). SaysBlocks r (header_blocks_of at.hdu at.start file)) e blocks-say in
      let many : 2880 * h.blocks ≡ 2880 * m = as_found at.hdu at.start m file h blocks found in
      let begins : h.start ≡ at.start = (facts_found at.hdu at.start file h found).1 in
      header-same m e ∙ (ap (λ j. take j (drop at.start file)) (sym many) ∙ ap (λ j. take (2880 * h.blocks) (drop j file)) (sym begins))

  hdu-by : (m : ℕ) → blocks_there at front ≡ Ok m → (r : Result Header Fault) → header_of at.hdu at.start at.length (take (2880 * m) front) ≡ r →
      SaysHdu file (result_map_both (hdu_by_facts at front m) (λ why. why) (result_map_both (λ h. h) Refused r)) (hdu_at at.hdu at.start file)
  hdu-by m e (Ok h) checks =
      let found : hdu_at at.hdu at.start file ≡ Ok h = checks-same m e ∙ checks in
      (h, found, ap (λ (bytes : List ℕ). flat_hdu h (is_packed bytes h)) (bytes-same m h e found))
  hdu-by m e (Err x) checks = checks-same m e ∙ checks

  hdu-says : (r : Result ℕ Unread) → blocks_there at front ≡ r → SaysHdu file (hdu_by at front r) (hdu_at at.hdu at.start file)
  hdu-says (Ok m) e = hdu-by m e (header_of at.hdu at.start at.length (take (2880 * m) front)) refl
  hdu-says (Err NoPlace) e = tt
  hdu-says (Err GoesOn) e = tt
  hdu-says (Err (Refused x)) e =
      refused_at at.hdu at.start file x (subst (λ (r : Result ℕ Unread). SaysBlocks r (header_blocks_of at.hdu at.start file)) e blocks-say)

  pub hdu-say : SaysHdu file (hdu_there at front) (hdu_at at.hdu at.start file)
  unfolding hdu_there
  hdu-say = hdu-says (blocks_there at front) refl

  -- ---- the packed image

  image-by-checks : (m : ℕ) (h : Header) → blocks_there at front ≡ Ok m → hdu_at at.hdu at.start file ≡ Ok h → (r : Result PackedImage Fault) →
      image_to_amend h (take (2880 * m) front) (at.after_empty == 1) ≡ r → SaysImage file at (result_map_both (λ i. i) Refused r) (hdu_at at.hdu at.start file)
  image-by-checks m h e found (Ok image) checks =
      (h, found, ap (λ (bytes : List ℕ). image_to_amend h bytes (at.after_empty == 1)) (sym (bytes-same m h e found)) ∙ checks)
  image-by-checks m h e found (Err x) checks =
      inr (h, found, ap (λ (bytes : List ℕ). image_to_amend h bytes (at.after_empty == 1)) (sym (bytes-same m h e found)) ∙ checks)

  image-by-header : (m : ℕ) → blocks_there at front ≡ Ok m → (r : Result Header Fault) → header_of at.hdu at.start at.length (take (2880 * m) front) ≡ r →
      SaysImage file at (image_by_facts at front m (result_map_both (λ h. h) Refused r)) (hdu_at at.hdu at.start file)
  image-by-header m e (Ok h) checks =
      image-by-checks m h e (checks-same m e ∙ checks) (image_to_amend h (take (2880 * m) front) (at.after_empty == 1)) refl
  image-by-header m e (Err x) checks = inl (checks-same m e ∙ checks)

  image-says : (r : Result ℕ Unread) → blocks_there at front ≡ r → SaysImage file at (image_by at front r) (hdu_at at.hdu at.start file)
  image-says (Ok m) e = image-by-header m e (header_of at.hdu at.start at.length (take (2880 * m) front)) refl
  image-says (Err NoPlace) e = tt
  image-says (Err GoesOn) e = tt
  image-says (Err (Refused x)) e =
      inl (refused_at at.hdu at.start file x (subst (λ (r : Result ℕ Unread). SaysBlocks r (header_blocks_of at.hdu at.start file)) e blocks-say))

  pub image-say : SaysImage file at (image_there_of at front) (hdu_at at.hdu at.start file)
  unfolding image_there_of
  image-say = image-says (blocks_there at front) refl
