-- The image of a file that passes the checks of a patch can be put into the packed one.
use Rattle.std.specs.Prelude.{⊤}
use Rattle.std.proofs.Common.{◌≡◌, ◌⊎◌, ℕ, zero, suc, ◌+◌, ◌-◌, ◌<◌, ◌≤◌, ◌==◌, ◌&&◌, ◌||◌, nat_le, nat_lt, Bool, true, false, ℤ, pos, negsuc, List, [], ◌∷◌, length, take, drop, replicate, All, codes, unsigned_abs, unwrap_or, Option, Some, None, Result, Ok, Err, slice_index, inl, inr, refl, sym, ap, ◌∙◌, subst, arith, leb-true, ltb-false, eqb-true}
use Rattle.std.specs.List.{list_all}
use Rattle.std.specs.Ordering.{int_eq}
use Rattle.std.proofs.Math.Seq.{take-append_seam}
use Rattle.std.proofs.lemmas.Bool.Decides.{Decides-int_eq}
use Rattle.std.proofs.lemmas.List.{get_or_append_left}
use Rattle.std.proofs.lemmas.List.Elements.{All-drop, All-take}
use Rattle.std.proofs.lemmas.List.FromFn.{get_or-map-range_with_len, length-map-range_with_len}
use Rattle.fz_base.specs.Refusal.{first_refusal}
use Rattle.fz_base.specs.declared.fault.Fault.{Fault}
use Rattle.fz_bits.specs.Numbers.{IsNumber}
use Rattle.fz_card.specs.Reading.{integer_of}
use Rattle.fz_block.specs.Cards.{card_at, is_named}
use Rattle.fz_block.specs.Checks.{hdu_at, headers_of, unless_refused}
use Rattle.fz_block.specs.Facts.{IsHeaderOf, nine_axes}
use Rattle.fz_block.specs.Header.{data_start_of, whole_blocks_of}
use Rattle.fz_block.specs.Hdus.{axes_of, cards_of}
use Rattle.fz_block.specs.Mandatory.{is_bitpix, mandatory_checks}
use Rattle.fz_block.specs.Walk.{hdu_of}
use Rattle.fz_block.specs.declared.axes.Axes.{Axes}
use Rattle.fz_block.specs.declared.header.Header.{Header}
use Rattle.fz_grid.specs.Arrays.{product}
use Rattle.fz_grid.specs.Region.{lengths_of}
use Rattle.fz_grid.specs.Sieve.{sieve_hi, sieve_step}
use Rattle.fz_grid.specs.Cutout.{IsSteppedBoxOf, Sifts}
use Rattle.fz_tile.specs.Laws.{StoresPixels}
use Rattle.fz_tile.specs.Pixels.{IsBitpix}
use Rattle.fz_tile.specs.Plain.{AreBytes, stored_pixels}
use Rattle.fz_checks.specs.JobChecks.{axis_inside}
use Rattle.fz_head.specs.PackedPlan.{numbered_in, plan_of_cards, said_axes, size_of}
use Rattle.fz_head.specs.PlainHeader.{axis_count}
use Rattle.fz_head.specs.declared.plan.Plan.{Plan}
use Rattle.fz_files.specs.Restored.{header_in, plan_in}
use Rattle.fz_laws.specs.PatchChecks.{if_all_pass, if_patchable, inside_checks, may_be_given, patch_target, target_checks, wanted_image}
use Rattle.fz_laws.specs.Given.{Given, PatchJob, array_if, array_in, box_region, box_sieve, given_by, given_header, last_along, nine_numbers}
use Rattle.fz_laws.specs.PatchLaws.{IsGivenFor, TargetsAreGiven}
use Rattle.fz_laws.specs.PatchTaken.{FoundFacts}
use Rattle.fz_laws.proofs.NewBoxes.{his, last_at, last_length, los, one_at, ones_length, steps}
use Rattle.fz_laws.proofs.Passes.{PassesAll, all_pass, and_left, and_right, each_passes, is_so}

pub target_passed : (file patch : List ℕ) (job : PatchJob) (h : Header) → patch_target file patch job ≡ Ok h → first_refusal (target_checks file patch h job) ≡ None
unfolding patch_target
target_passed file patch job h e = by_headers (headers_of 65536 file) (wanted_image job.wanted file) e
  where
    by_none : (k : Header) (found : Option Fault) → first_refusal (target_checks file patch k job) ≡ found → unless_refused k found ≡ Ok h → first_refusal (target_checks file patch h job) ≡ None
    by_none k (Some x) is same = absurd cc
    by_none k None is same = let eq : k ≡ h = cc in subst (λ x. first_refusal (target_checks file patch x job) ≡ None) eq is

    by_image : (w : Result Header Fault) → if_patchable file patch job w ≡ Ok h → first_refusal (target_checks file patch h job) ≡ None
    by_image (Err x) same = absurd cc
    by_image (Ok k) same = by_none k (first_refusal (target_checks file patch k job)) refl same

    by_headers : (r : Result (List Header) Fault) (w : Result Header Fault) → if_all_pass r (if_patchable file patch job w) ≡ Ok h → first_refusal (target_checks file patch h job) ≡ None
    by_headers (Err x) w same = absurd cc
    by_headers (Ok hs) w same = by_image w same

-- ---- axes

pub axes_again : (l : List ℕ) → lengths_of (nine_axes l) ≡ l
axes_again l = take-append_seam l (replicate (9 - length l) 0)

axes_counted : (axes : Axes) (l : List ℕ) → axes ≡ nine_axes l → length (lengths_of axes) ≡ axes.n
axes_counted axes l e = subst (λ (x : Axes). length (lengths_of x) ≡ x.n) (sym e) (ap length (axes_again l))

pub shape_is : (cards : List (List ℕ)) → lengths_of (plan_of_cards cards).shape ≡ said_axes cards
unfolding plan_of_cards
shape_is cards = axes_again (said_axes cards)

pub shape_count : (cards : List (List ℕ)) → (plan_of_cards cards).shape.n ≡ axis_count cards
unfolding plan_of_cards
shape_count cards = length-map-range_with_len (λ i. size_of (numbered_in (codes "ZNAXIS") i cards)) 1 (axis_count cards)

pub axis_said : (cards : List (List ℕ)) (i : ℕ) → i < axis_count cards → slice_index (said_axes cards) i ≡ size_of (numbered_in (codes "ZNAXIS") (i + 1) cards)
axis_said cards i less =
    let place : 1 + i ≡ i + 1 = omega arith in
    get_or-map-range_with_len (λ k. size_of (numbered_in (codes "ZNAXIS") k cards)) 1 (axis_count cards) i (i + 1) 0 less place

each_positive : (ns : List ℕ) → list_all (nat_le 1) ns ≡ true → (i : ℕ) → i < length ns → 1 ≤ slice_index ns i
each_positive [] e i less = absurd (omega arith)
each_positive (n ∷ ns) e zero less = leb-true 1 n (and_left (nat_le 1 n) (list_all (nat_le 1) ns) e)
each_positive (n ∷ ns) e (suc i) less = each_positive ns (and_right (nat_le 1 n) (list_all (nat_le 1) ns) e) i (omega arith)

nine_at : (ns : List ℕ) (i : ℕ) → i < length ns → slice_index (nine_numbers ns) i ≡ slice_index ns i
nine_at ns i less = get_or_append_left ns (replicate (9 - length ns) 0) 0 i less

-- ---- pixels

or_cases : (a b : Bool) → (a || b) ≡ true → (a ≡ true) ⊎ (b ≡ true)
or_cases true b e = inl refl
or_cases false b e = inr e

bits_of : (v : ℤ) → is_bitpix (Some v) ≡ true → IsBitpix (pos (unsigned_abs v))
bits_of v e = one (or_cases (int_eq v (pos 8)) (int_eq v (pos 16) || (int_eq v (pos 32) || (int_eq v (pos 64) || (int_eq v (negsuc 31) || int_eq v (negsuc 63))))) e)
  where
    same : (w : ℤ) → int_eq v w ≡ true → pos (unsigned_abs v) ≡ pos (unsigned_abs w)
    same w is = ap (λ z. pos (unsigned_abs z)) ((Decides-int_eq v w).0 is)

    six : (int_eq v (negsuc 31) ≡ true) ⊎ (int_eq v (negsuc 63) ≡ true) → IsBitpix (pos (unsigned_abs v))
    six (inl is) = inr (inr (inl (same (negsuc 31) is)))
    six (inr is) = inr (inr (inr (same (negsuc 63) is)))

    four : (int_eq v (pos 64) ≡ true) ⊎ ((int_eq v (negsuc 31) || int_eq v (negsuc 63)) ≡ true) → IsBitpix (pos (unsigned_abs v))
    four (inl is) = inr (inr (inr (same (pos 64) is)))
    four (inr is) = six (or_cases (int_eq v (negsuc 31)) (int_eq v (negsuc 63)) is)

    three : (int_eq v (pos 32) ≡ true) ⊎ ((int_eq v (pos 64) || (int_eq v (negsuc 31) || int_eq v (negsuc 63))) ≡ true) → IsBitpix (pos (unsigned_abs v))
    three (inl is) = inr (inr (inl (same (pos 32) is)))
    three (inr is) = four (or_cases (int_eq v (pos 64)) (int_eq v (negsuc 31) || int_eq v (negsuc 63)) is)

    two : (int_eq v (pos 16) ≡ true) ⊎ ((int_eq v (pos 32) || (int_eq v (pos 64) || (int_eq v (negsuc 31) || int_eq v (negsuc 63)))) ≡ true) → IsBitpix (pos (unsigned_abs v))
    two (inl is) = inr (inl (same (pos 16) is))
    two (inr is) = three (or_cases (int_eq v (pos 32)) (int_eq v (pos 64) || (int_eq v (negsuc 31) || int_eq v (negsuc 63))) is)

    one : (int_eq v (pos 8) ≡ true) ⊎ ((int_eq v (pos 16) || (int_eq v (pos 32) || (int_eq v (pos 64) || (int_eq v (negsuc 31) || int_eq v (negsuc 63))))) ≡ true) → IsBitpix (pos (unsigned_abs v))
    one (inl is) = inl (same (pos 8) is)
    one (inr is) = two (or_cases (int_eq v (pos 16)) (int_eq v (pos 32) || (int_eq v (pos 64) || (int_eq v (negsuc 31) || int_eq v (negsuc 63)))) is)

bits_said : (o : Option ℤ) → is_bitpix o ≡ true → IsBitpix (pos (unsigned_abs (unwrap_or o (pos 0))))
bits_said None e = absurd cc
bits_said (Some v) e = bits_of v e

primary_bits : (header : List ℕ) → first_refusal (mandatory_checks 0 header) ≡ None → IsBitpix (pos (unsigned_abs (unwrap_or (integer_of (card_at header 1)) (pos 0))))
primary_bits header e =
    let all : PassesAll (mandatory_checks 0 header) = all_pass (mandatory_checks 0 header) e in
    bits_said (integer_of (card_at header 1))
    (and_right (is_named (codes "BITPIX") (card_at header 1)) (is_bitpix (integer_of (card_at header 1)))
    (is_so (is_named (codes "BITPIX") (card_at header 1) && is_bitpix (integer_of (card_at header 1))) all.0))

header_bits : (header : List ℕ) (q : Header) → q.hdu ≡ 0 → IsHeaderOf header q → IsBitpix (pos (unsigned_abs q.bitpix))
header_bits header q zero_is is =
    subst (λ (x : Header). IsBitpix (pos (unsigned_abs x.bitpix))) (sym is.facts)
    (primary_bits header (subst (λ k. first_refusal (mandatory_checks k header) ≡ None) zero_is is.mandatory))

header_axes : (header : List ℕ) (q : Header) → IsHeaderOf header q → length (lengths_of q.axes) ≡ q.axes.n
header_axes header q is = axes_counted q.axes (axes_of header) (ap (λ (x : Header). x.axes) is.facts)

module _ (facts : FoundFacts) (stores : StoresPixels) (file patch : List ℕ) (job : PatchJob) (h q : Header) (bytes : AreBytes patch) (found : given_header patch ≡ Ok q)
    (all : PassesAll (target_checks file patch h job)) (may : may_be_given (plan_in file h) (Ok q) ≡ true) where
  abbrev p : Plan
  p = plan_in file h

  abbrev cards : List (List ℕ)
  cards = cards_of (header_in file h)

  abbrev g : Given
  g = record { corner = job.corner; array = array_in patch q }

  given_is : given_by patch job ≡ g
  given_is = λ j. record { corner = job.corner; array = array_if patch (found j) }

  is_header : (q.hdu ≡ 0) × (q.start ≡ 0) × IsHeaderOf (hdu_of patch q).header q
  is_header = facts 0 0 patch q found

  same_bits : q.bitpix ≡ p.bitpix
  same_bits = (Decides-int_eq q.bitpix p.bitpix).0 (and_left (int_eq q.bitpix p.bitpix) (q.axes.n == p.shape.n && list_all (nat_le 1) (lengths_of q.axes)) may)

  after_bits : (q.axes.n == p.shape.n && list_all (nat_le 1) (lengths_of q.axes)) ≡ true
  after_bits = and_right (int_eq q.bitpix p.bitpix) (q.axes.n == p.shape.n && list_all (nat_le 1) (lengths_of q.axes)) may

  same_axes : q.axes.n ≡ p.shape.n
  same_axes = eqb-true q.axes.n p.shape.n (and_left (q.axes.n == p.shape.n) (list_all (nat_le 1) (lengths_of q.axes)) after_bits)

  corner_axes : length job.corner ≡ axis_count cards
  corner_axes = eqb-true (length job.corner) (axis_count cards) (is_so (length job.corner == axis_count cards) all.1.1.0)

  given_axes : length (lengths_of q.axes) ≡ length job.corner
  given_axes = header_axes (hdu_of patch q).header q is_header.2 ∙ (same_axes ∙ (shape_count cards ∙ sym corner_axes))

  image_axes : length (lengths_of p.shape) ≡ length job.corner
  image_axes = ap length (shape_is cards) ∙ (length-map-range_with_len (λ i. size_of (numbered_in (codes "ZNAXIS") i cards)) 1 (axis_count cards) ∙ sym corner_axes)

  some : (i : ℕ) → i < length (lengths_of q.axes) → 1 ≤ slice_index (lengths_of q.axes) i
  some = each_positive (lengths_of q.axes) (and_right (q.axes.n == p.shape.n) (list_all (nat_le 1) (lengths_of q.axes)) after_bits)

  ends_in : (i : ℕ) → i < axis_count cards → slice_index job.corner i + slice_index (lengths_of q.axes) i ≤ size_of (numbered_in (codes "ZNAXIS") (i + 1) cards)
  ends_in i less =
      let inside : PassesAll (inside_checks file patch h job) = all.1.1.1.1 in
      let one : PassesAll (axis_inside h.hdu cards (box_region (given_by patch job)) i ∷ []) =
      each_passes (λ k. axis_inside h.hdu cards (box_region (given_by patch job)) k ∷ []) 0 (axis_count cards) inside i (omega arith) (omega arith) in
      let here : nat_lt (size_of (numbered_in (codes "ZNAXIS") (i + 1) cards)) (slice_index (nine_numbers job.corner) i + slice_index (nine_numbers (lengths_of q.axes)) i) ≡ false =
      subst (λ (x : Given). nat_lt (size_of (numbered_in (codes "ZNAXIS") (i + 1) cards)) (slice_index (nine_numbers x.corner) i + slice_index (nine_numbers x.array.lengths) i) ≡ false) given_is one.0 in
      let within = ltb-false (size_of (numbered_in (codes "ZNAXIS") (i + 1) cards)) (slice_index (nine_numbers job.corner) i + slice_index (nine_numbers (lengths_of q.axes)) i) here in
      let corner_same = corner_axes in
      let given_same = given_axes in
      let o : slice_index (nine_numbers job.corner) i ≡ slice_index job.corner i = nine_at job.corner i (omega arith) in
      let n : slice_index (nine_numbers (lengths_of q.axes)) i ≡ slice_index (lengths_of q.axes) i = nine_at (lengths_of q.axes) i (omega arith) in
      omega arith

  long : length job.corner ≤ length (lengths_of q.axes)
  long = let same = given_axes in omega arith

  last_in : (i : ℕ) → i < length (lengths_of p.shape) → slice_index (last_along job.corner (lengths_of q.axes)) i < slice_index (lengths_of p.shape) i
  last_in i less =
      let one = image_axes in
      let two = corner_axes in
      let three = given_axes in
      let within : i < axis_count cards = omega arith in
      let last = last_at job.corner (lengths_of q.axes) i (omega arith) long in
      let positive = some i (omega arith) in
      let end = ends_in i within in
      let size : slice_index (lengths_of p.shape) i ≡ size_of (numbered_in (codes "ZNAXIS") (i + 1) cards) = ap (λ l. slice_index l i) (shape_is cards) ∙ axis_said cards i within in
      omega arith

  low_in : (i : ℕ) → i < length (lengths_of p.shape) → slice_index job.corner i ≤ slice_index (last_along job.corner (lengths_of q.axes)) i
  low_in i less =
      let one = image_axes in
      let three = given_axes in
      let last = last_at job.corner (lengths_of q.axes) i (omega arith) long in
      let positive = some i (omega arith) in
      omega arith

  box_is : IsSteppedBoxOf (lengths_of p.shape) job.corner (last_along job.corner (lengths_of q.axes)) (replicate (length job.corner) 1)
  box_is = record {
    los = sym image_axes;
    his = last_length job.corner (lengths_of q.axes) long ∙ sym image_axes;
    steps = ones_length (length job.corner) ∙ sym image_axes;
    ordered = low_in;
    inside = last_in;
    positive = λ i less. let same = image_axes in let one = one_at (length job.corner) i (omega arith) in omega arith;
  }

  sifted : Sifts (lengths_of p.shape) (box_sieve g)
  sifted =
      subst (λ l. IsSteppedBoxOf (lengths_of p.shape) l (sieve_hi (box_sieve g)) (sieve_step (box_sieve g))) (sym (los g))
      (subst (λ l. IsSteppedBoxOf (lengths_of p.shape) job.corner l (sieve_step (box_sieve g))) (sym (his g long))
      (subst (λ l. IsSteppedBoxOf (lengths_of p.shape) job.corner (last_along job.corner (lengths_of q.axes)) l) (sym (steps g)) box_is))

  payload_bytes : AreBytes (hdu_of patch q).payload
  payload_bytes = All-take (λ (b : ℕ). b < 256) (whole_blocks_of q.data_len) (drop (data_start_of q) patch) (All-drop (λ (b : ℕ). b < 256) (data_start_of q) patch bytes)

  pixels : (length (stored_pixels (unsigned_abs q.bitpix) (product (lengths_of q.axes)) (hdu_of patch q).payload) ≡ product (lengths_of q.axes))
      × All (IsNumber (unsigned_abs q.bitpix)) (stored_pixels (unsigned_abs q.bitpix) (product (lengths_of q.axes)) (hdu_of patch q).payload)
  pixels = stores (unsigned_abs q.bitpix) (product (lengths_of q.axes)) (hdu_of patch q).payload (header_bits (hdu_of patch q).header q is_header.0 is_header.2) payload_bytes

  pub are_given : IsGivenFor (plan_in file h) (given_by patch job)
  are_given =
      subst (IsGivenFor (plan_in file h)) (sym given_is)
      (record {
        whole = pixels.0;
        axes = given_axes;
        positive = some;
        sifts = sifted;
        numbers = subst (λ z. All (IsNumber (unsigned_abs z)) g.array.numbers) same_bits pixels.1;
      })

pub targets_are_given : FoundFacts → StoresPixels → TargetsAreGiven
targets_are_given facts stores file patch job h bytes e = by_given (given_header patch) refl given
  where
    all : PassesAll (target_checks file patch h job)
    all = all_pass (target_checks file patch h job) (target_passed file patch job h e)

    given : may_be_given (plan_in file h) (given_header patch) ≡ true
    given = is_so (may_be_given (plan_in file h) (given_header patch)) all.1.1.1.0

    by_given : (r : Result Header Fault) → given_header patch ≡ r → may_be_given (plan_in file h) r ≡ true → IsGivenFor (plan_in file h) (given_by patch job)
    by_given (Err x) found may = absurd cc
    by_given (Ok q) found may = are_given facts stores file patch job h q bytes found all may
