-- A box that no check refuses lies within the image, and so do the picks of its sieve (FITS 4.0, section 4.4.1.1).
use Rattle.std.proofs.Common.{◌≡◌, ℕ, zero, suc, ◌+◌, ◌-◌, ◌<◌, ◌≤◌, ◌==◌, nat_lt, not, Bool, true, false, List, [], ◌∷◌, ◌++◌, length, replicate, slice_index, codes, refl, sym, ap, ◌∙◌, subst, arith}
use Rattle.std.specs.List.{flat_map, range_with_len}
use Rattle.std.specs.Prelude.{None, if◌then◌else◌}
use Rattle.std.proofs.Math.Seq.{take-append_seam}
use Rattle.std.proofs.lemmas.Bool.Decides.{nat_tests}
use Rattle.std.proofs.lemmas.List.{get_or-take, length-take-le}
use Rattle.std.proofs.lemmas.List.FromFn.{get_or-map-range_with_len, length-map-range_with_len}
use Rattle.fz_base.specs.Refusal.{first_refusal}
use Rattle.fz_base.specs.declared.fault.Fault.{Fault}
use Rattle.fz_block.specs.Facts.{nine_axes}
use Rattle.fz_block.specs.Hdus.{cards_of}
use Rattle.fz_block.specs.declared.header.Header.{Header}
use Rattle.fz_grid.specs.Region.{lengths_of}
use Rattle.fz_grid.specs.Sieve.{sieve_hi, sieve_lo, sieve_step}
use Rattle.fz_grid.specs.declared.region.Region.{Region}
use Rattle.fz_grid.specs.declared.sieve.Sieve.{Sieve}
use Rattle.fz_checks.specs.JobChecks.{axis_inside, box_checks, cut_checks, image_checks, not_packed, packed_card_checks}
use Rattle.fz_head.specs.Packable.{is_packed, is_table}
use Rattle.fz_head.specs.PackedPlan.{numbered_in, plan_of_cards, said_axes, size_of}
use Rattle.fz_head.specs.PlainHeader.{axis_count}
use Rattle.fz_head.specs.TableChecks.{compressed_table, repeated_table_names}
use Rattle.fz_grid.specs.Cutout.{Sifts}
use Rattle.fz_files.specs.Walks.{box_of}
use Rattle.fz_files.specs.Picks.{HasPicks}
use Rattle.fz_cut.proofs.Standing.{back_passed}
use Rattle.fz_cut.proofs.Within.{box_length}

-- ---- checks that refuse nothing

first_passed : (c : Bool × Fault) (cs : List (Bool × Fault)) → first_refusal (c ∷ cs) ≡ None → (c.0 ≡ false) × (first_refusal cs ≡ None)
first_passed (true, x) cs none = absurd cc
first_passed (false, x) cs none = (refl, none)

each_passed : (f : ℕ → Bool × Fault) (a n : ℕ) → first_refusal (flat_map (λ i. f i ∷ []) (range_with_len a n)) ≡ None → (i j : ℕ) → i < n → a + i ≡ j → (f j).0 ≡ false
each_passed f a zero none i j near at = absurd (omega (arith, near))
each_passed f a (suc n) none zero j near at =
    let here = first_passed (f a) (flat_map (λ i. f i ∷ []) (range_with_len (a + 1) n)) none in
    let same : a ≡ j = omega (arith, at) in
    ap (λ k. (f k).0) (sym same) ∙ here.0
each_passed f a (suc n) none (suc i) j near at =
    let here = first_passed (f a) (flat_map (λ i. f i ∷ []) (range_with_len (a + 1) n)) none in
    each_passed f (a + 1) n here.1 i j (omega (arith, near)) (omega (arith, at))

holds : (b : Bool) → not b ≡ false → b ≡ true
holds true e = refl
holds false e = absurd cc

same_count : (a b : ℕ) → (a == b) ≡ true → a ≡ b
same_count a b e = grind (arith, nat_tests, e)

within_axis : (axis end : ℕ) → nat_lt axis end ≡ false → end ≤ axis
within_axis axis end e = grind (arith, nat_tests, e)

module _ (h : Header) (header : List ℕ) (after_empty : Bool) (region : Region) (none : first_refusal (cut_checks h header after_empty region) ≡ None) where
  abbrev cards : List (List ℕ)
  cards = cards_of header

  boxes : first_refusal (box_checks h.hdu cards region) ≡ None
  boxes = back_passed (image_checks h header after_empty) (box_checks h.hdu cards region) (back_passed (packed_card_checks h header) (image_checks h header after_empty ++ box_checks h.hdu cards region) none)

  -- the box has the axes of the image
  pub same_axes : region.n ≡ axis_count cards
  same_axes =
      let first = first_passed _ (flat_map (λ i. axis_inside h.hdu cards region i ∷ []) (range_with_len 0 (axis_count cards))) boxes in
      same_count region.n (axis_count cards) (holds (region.n == axis_count cards) first.0)

  -- and ends within each
  pub ends_inside : (i : ℕ) → i < axis_count cards → slice_index region.lo i + slice_index region.len i ≤ size_of (numbered_in (codes "ZNAXIS") (i + 1) cards)
  ends_inside i near =
      let first = first_passed _ (flat_map (λ i. axis_inside h.hdu cards region i ∷ []) (range_with_len 0 (axis_count cards))) boxes in
      within_axis _ _ (each_passed (axis_inside h.hdu cards region) 0 (axis_count cards) first.1 i i near (omega arith))

-- ---- the sieve of such a box

axes_again : (lengths : List ℕ) → lengths_of (nine_axes lengths) ≡ lengths
axes_again lengths = take-append_seam lengths (replicate (9 - length lengths) 0)

shape_is : (cards : List (List ℕ)) → lengths_of (plan_of_cards cards).shape ≡ said_axes cards
unfolding plan_of_cards
shape_is cards = axes_again (said_axes cards)

module _ (sieve : Sieve) (los : sieve.n ≤ length sieve.lo) (his : sieve.n ≤ length sieve.hi) (steps : sieve.n ≤ length sieve.step) (has : HasPicks sieve)
    (h : Header) (header : List ℕ) (after_empty : Bool) (none : first_refusal (cut_checks h header after_empty (box_of sieve)) ≡ None) where
  abbrev said : List (List ℕ)
  said = cards_of header

  abbrev axes : List ℕ
  axes = said_axes said

  many : length axes ≡ axis_count said
  many = length-map-range_with_len (λ i. size_of (numbered_in (codes "ZNAXIS") i said)) 1 (axis_count said)

  all : sieve.n ≡ length axes
  all = same_axes h header after_empty (box_of sieve) none ∙ sym many

  axis_at : (i : ℕ) → i < axis_count said → slice_index axes i ≡ size_of (numbered_in (codes "ZNAXIS") (i + 1) said)
  axis_at i near = get_or-map-range_with_len (λ k. size_of (numbered_in (codes "ZNAXIS") k said)) 1 (axis_count said) i (i + 1) 0 near (omega arith)

  lo_at : (i : ℕ) → i < sieve.n → slice_index (sieve_lo sieve) i ≡ slice_index sieve.lo i
  lo_at i near = get_or-take sieve.n sieve.lo i 0 near

  hi_at : (i : ℕ) → i < sieve.n → slice_index (sieve_hi sieve) i ≡ slice_index sieve.hi i
  hi_at i near = get_or-take sieve.n sieve.hi i 0 near

  step_at : (i : ℕ) → i < sieve.n → slice_index (sieve_step sieve) i ≡ slice_index sieve.step i
  step_at i near = get_or-take sieve.n sieve.step i 0 near

  below : (i : ℕ) → i < sieve.n → slice_index sieve.hi i < slice_index axes i
  below i near =
      let axis : i < axis_count said = omega (arith, near, all, many) in
      let size = axis_at i axis in
      let inside = ends_inside h header after_empty (box_of sieve) none i axis in
      omega (arith, size, inside, box_length sieve los his steps i near, has.ordered i near)

  sifts_said : Sifts axes sieve
  sifts_said = record {
    los = length-take-le sieve.n sieve.lo los ∙ all;
    his = length-take-le sieve.n sieve.hi his ∙ all;
    steps = length-take-le sieve.n sieve.step steps ∙ all;
    ordered = λ i near. let here : i < sieve.n = omega (arith, near, all) in omega (arith, lo_at i here, hi_at i here, has.ordered i here);
    inside = λ i near. let here : i < sieve.n = omega (arith, near, all) in omega (arith, hi_at i here, below i here);
    positive = λ i near. let here : i < sieve.n = omega (arith, near, all) in omega (arith, step_at i here, has.positive i here);
  }

  -- its picks are picks of the image
  pub box_sifts : Sifts (lengths_of (plan_of_cards said).shape) sieve
  box_sifts = subst (λ (l : List ℕ). Sifts l sieve) (sym (shape_is said)) sifts_said

-- ---- the HDU

-- one that is cut from is packed
pub is_packed_one : (h : Header) (header : List ℕ) (after_empty : Bool) (region : Region) → first_refusal (cut_checks h header after_empty region) ≡ None → is_packed header h ≡ true
is_packed_one h header after_empty region none = by_table (is_table h.sort) none
  where
    by_table : (table : Bool) →
        first_refusal (((if table then compressed_table h header ∷ [] else []) ++ (not_packed h header ∷ repeated_table_names h header ∷ [])) ++ (image_checks h header after_empty ++ box_checks h.hdu (cards_of header) region)) ≡ None →
        is_packed header h ≡ true
    by_table true none =
        let one = first_passed (compressed_table h header) _ none in
        holds (is_packed header h) (first_passed (not_packed h header) _ one.1).0
    by_table false none = holds (is_packed header h) (first_passed (not_packed h header) _ none).0
