-- The plan of an image, and its data: they are the bytes of its pixels (FITS 4.0, sections 3.3.2 and 4.4.1).
use Rattle.std.proofs.Common.{◌≡◌, ℕ, ◌+◌, ◌-◌, ◌*◌, ◌/◌, ◌≤◌, ◌==◌, ◌&&◌, nat_le, Bool, true, false, ℤ, pos, negsuc, List, [], ◌∷◌, length, replicate, Option, Some, None, unwrap_or, Ok, unsigned_abs, if◌then◌else◌, refl, sym, subst, ◌∙◌, ap, arith}
use Rattle.std.specs.List.{list_all}
use Rattle.std.proofs.Math.Seq.{take-append_seam}
use Rattle.std.proofs.lemmas.Bool.Decides.{nat_tests}
use Rattle.std.proofs.lemmas.List.FromFn.{length-map-range_with_len}
use Rattle.fz_base.specs.Refusal.{first_refusal}
use Rattle.fz_base.specs.declared.fault.Fault.{Fault}
use Rattle.fz_block.specs.Cards.{card_at}
use Rattle.fz_block.specs.Checks.{unless_refused}
use Rattle.fz_block.specs.Facts.{IsHeaderOf, facts_of, nine_axes}
use Rattle.fz_block.specs.Hdus.{axes_of, data_len_of, gcount_of, naxis_of, pcount_of, places, size_at, size_in}
use Rattle.fz_block.specs.declared.header.Header.{Header}
use Rattle.fz_card.specs.Reading.{integer_of}
use Rattle.fz_grid.specs.Arrays.{product}
use Rattle.fz_grid.specs.Region.{IsDivided, lengths_of}
use Rattle.fz_tile.specs.Codecs.{CanWrite}
use Rattle.fz_head.specs.Conditions.{IsPackPlan}
use Rattle.fz_head.specs.PackChecks.{pack_answer, pack_checks}
use Rattle.fz_head.specs.Packable.{has_integers, is_image, is_packable}
use Rattle.fz_head.specs.Planned.{is_wide, pack_plan_of, pixel_len}
use Rattle.fz_head.specs.declared.options.PackOptions.{PackOptions}
use Rattle.fz_head.specs.declared.plan.Plan.{Plan}
use Rattle.fz_image.specs.Layout.{IsPlan}

-- ---- the plan

answer_is : {A : Type 0} (answer found : A) (refused : Option Fault) → unless_refused answer refused ≡ Ok found → answer ≡ found
answer_is answer found None e = cc
answer_is answer found (Some fault) e = absurd cc

plan_found : (o : PackOptions) (h : Header) (header : List ℕ) (p : Plan) → pack_answer o h header ≡ Ok p → pack_plan_of o h ≡ p
unfolding pack_answer
plan_found o h header p e = answer_is (pack_plan_of o h) p (first_refusal (pack_checks o h header)) e

wide_is : (o : PackOptions) (h : Header) → (pack_plan_of o h).wide ≡ is_wide (pack_plan_of o h).bitpix (lengths_of (pack_plan_of o h).shape)
unfolding pack_plan_of
wide_is o h = refl

-- by the plan that the checks give an image can be packed
pub image_plan : (header : List ℕ) (h : Header) (sums : Bool) (p : Plan) → IsPackPlan header h sums p → IsDivided p.shape p.tile → CanWrite p.codec p.bitpix → IsPlan p
image_plan header h sums p is divided writable = record {
  divided = divided;
  writable = writable;
  wide = subst (λ (q : Plan). q.wide ≡ is_wide q.bitpix (lengths_of q.shape)) (plan_found is.options h header p is.answer) (wide_is is.options h);
}

-- ---- the length of the data

abs_is : (v : Option ℤ) → size_in v ≡ unsigned_abs (unwrap_or v (pos 0))
abs_is None = refl
abs_is (Some (pos n)) = refl
abs_is (Some (negsuc n)) = refl

places_are : (ns : List ℕ) → places ns ≡ product ns
places_are [] = refl
places_are (n ∷ ns) = ap (λ m. n * m) (places_are ns)

axes_again : (lengths : List ℕ) → lengths_of (nine_axes lengths) ≡ lengths
axes_again lengths = take-append_seam lengths (replicate (9 - length lengths) 0)

-- what an image that can be packed has
record IsPlainImage (h : Header) : Type 0 where
  axes : 1 ≤ h.axes.n
  pcount : h.pcount ≡ 0
  gcount : h.gcount ≡ 1

first_true : (a b : Bool) → (a && b) ≡ true → a ≡ true
first_true true b e = refl
first_true false b e = absurd cc

second_true : (a b : Bool) → (a && b) ≡ true → b ≡ true
second_true true b e = e
second_true false b e = absurd cc

three_of_six : (a b c d e f : Bool) → (a && (b && (c && (d && (e && f))))) ≡ true → (b ≡ true) × (e ≡ true) × (f ≡ true)
three_of_six a b c d e f is =
    let from_b = second_true a (b && (c && (d && (e && f)))) is in
    let from_c = second_true b (c && (d && (e && f))) from_b in
    let from_d = second_true c (d && (e && f)) from_c in
    let from_e = second_true d (e && f) from_d in
    (first_true b (c && (d && (e && f))) from_b, first_true e f from_e, second_true e f from_e)

plain_image : (h : Header) → is_packable h ≡ true → IsPlainImage h
unfolding is_packable
plain_image h is =
    let three = three_of_six (is_image h.sort) (nat_le 1 h.axes.n) (list_all (nat_le 1) (lengths_of h.axes)) (has_integers h.bitpix) (h.pcount == 0) (h.gcount == 1) is in
    record { axes = grind (arith, nat_tests, three.0); pcount = grind (arith, nat_tests, three.1); gcount = grind (arith, nat_tests, three.2) }

-- the length of the data of an HDU that has an axis
facts_len : (k start : ℕ) (header : List ℕ) → 1 ≤ (facts_of k start header).axes.n →
    data_len_of k header ≡ unsigned_abs (facts_of k start header).bitpix / 8 * (gcount_of k header * (pcount_of k header + product (lengths_of (facts_of k start header).axes)))
facts_len k start header axes =
    let count : length (axes_of header) ≡ naxis_of header = length-map-range_with_len (size_at header) 3 (naxis_of header) in
    let has : 1 ≤ length (axes_of header) = axes in
    let some : (naxis_of header == 0) ≡ false = grind (arith, nat_tests, count, has) in
    let size : size_at header 1 ≡ unsigned_abs (facts_of k start header).bitpix = abs_is (integer_of (card_at header 1)) in
    let all : places (axes_of header) ≡ product (lengths_of (nine_axes (axes_of header))) = places_are (axes_of header) ∙ ap product (sym (axes_again (axes_of header))) in
    ap (λ b. if b then 0 else size_at header 1 / 8 * (gcount_of k header * (pcount_of k header + places (axes_of header)))) some
    ∙ (λ i. size i / 8 * (gcount_of k header * (pcount_of k header + all i)))

image_len : (header : List ℕ) (h : Header) → IsHeaderOf header h → is_packable h ≡ true → h.data_len ≡ pixel_len h.bitpix * product (lengths_of h.axes)
image_len header h is packable =
    subst (λ (f : Header). f.data_len ≡ pixel_len f.bitpix * product (lengths_of f.axes)) (sym is.facts)
    (of_facts (plain_image (facts_of h.hdu h.start header) (subst (λ f. is_packable f ≡ true) is.facts packable)))
  where
    one : (b m : ℕ) → b * (1 * (0 + m)) ≡ b * m
    one b m = grind arith

    of_facts : IsPlainImage (facts_of h.hdu h.start header) →
        data_len_of h.hdu header ≡ pixel_len (facts_of h.hdu h.start header).bitpix * product (lengths_of (facts_of h.hdu h.start header).axes)
    of_facts image =
        let pcount : pcount_of h.hdu header ≡ 0 = image.pcount in
        let gcount : gcount_of h.hdu header ≡ 1 = image.gcount in
        facts_len h.hdu h.start header image.axes
        ∙ ((λ i. unsigned_abs (facts_of h.hdu h.start header).bitpix / 8 * (gcount i * (pcount i + product (lengths_of (facts_of h.hdu h.start header).axes))))
        ∙ one (unsigned_abs (facts_of h.hdu h.start header).bitpix / 8) (product (lengths_of (facts_of h.hdu h.start header).axes)))

planned_len : (o : PackOptions) (header : List ℕ) (h : Header) → IsHeaderOf header h → is_packable h ≡ true → h.data_len ≡ pixel_len (pack_plan_of o h).bitpix * product (lengths_of (pack_plan_of o h).shape)
unfolding pack_plan_of
planned_len o header h is packable = image_len header h is packable

-- the data of an image that is packed by a plan are its pixels
pub pixels_len : (header : List ℕ) (h : Header) (sums : Bool) (p : Plan) → IsHeaderOf header h → IsPackPlan header h sums p → h.data_len ≡ pixel_len p.bitpix * product (lengths_of p.shape)
pixels_len header h sums p of is =
    subst (λ (q : Plan). h.data_len ≡ pixel_len q.bitpix * product (lengths_of q.shape)) (plan_found is.options h header p is.answer) (planned_len is.options header h of is.packable)
