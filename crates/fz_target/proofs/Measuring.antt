-- What is known of the new codes so far, and of the room for all (FITS 4.0, sections 7.3.5 and 10.1.3).
use Rattle.std.proofs.Common.{◌≡◌, inl, ℕ, ◌+◌, ◌*◌, ◌^◌, ◌<◌, ◌≤◌, ℤ, List, [], ◌∷◌, ◌++◌, map, Option, Some, None, refl, sym, ap, ◌∙◌, subst, zero, suc, filter, Bool, true, false, max, length, arith, if◌then◌else◌}
use Rattle.std.specs.Prelude.{IfSome}
use Rattle.std.proofs.lemmas.List.{map-append, append_assoc, length-append}
use Rattle.fz_base.specs.declared.fault.Fault.{Fault}
use Rattle.fz_tile.specs.TileCode.{TileCode}
use Rattle.fz_head.specs.declared.plan.Plan.{Plan}
use Rattle.fz_files.specs.FirstFault.{IsFirstRowFault, image_row, picked_rows, picked_tiles_of}
use Rattle.fz_files.specs.Packed.{coded_count, stored_count, tiles_in, heap_of}
use Rattle.fz_files.specs.Restored.{plan_in}
use Rattle.fz_laws.specs.FirstPatchFault.{BoxHasNumbers, IsBoxFault, RowsHaveNumbers}
use Rattle.fz_laws.specs.PatchLaws.{new_code}
use Rattle.fz_laws.specs.NewNumbers.{box_tiles}
use Rattle.fz_laws.specs.Writes.{new_codes}
use Rattle.fz_pool.specs.Window.{Pool}
use Rattle.fz_target.specs.Measures.{measure_of, measured_with}
use Rattle.fz_target.specs.Targets.{IsGivenTo, IsTarget, IsTargetIn, given_at}
use Rattle.fz_target.specs.Tiles.{HasCode, HasFirst, HasNewCode}
use Rattle.fz_target.specs.Told.{IfBoth}
use Rattle.fz_target.specs.declared.measure.Measure.{Measure}
use Rattle.fz_target.specs.declared.target.Target.{Target}
use Rattle.fz_target.proofs.Boxes.{fault_after, fault_first, greatest_map_more, heap_more, next_numbers, sound_then}
use Rattle.fz_target.proofs.Targeted.{tiles_of}
use Rattle.std.specs.List.{range_with_len}
use Rattle.fz_grid.specs.Grid.{tile_count}
use Rattle.fz_grid.specs.Overlap.{has_pixel}
use Rattle.fz_grid.specs.Region.{lengths_of}
use Rattle.fz_grid.specs.Sieve.{sieve_hi, sieve_lo, sieve_step, tile_picks}
use Rattle.fz_grid.specs.declared.sieve.Sieve.{Sieve}

-- one code more
pub measure_more : (p : Plan) (es : List TileCode) (e : TileCode) → measure_of p (es ++ e ∷ []) ≡ measured_with p (measure_of p es) e
measure_more p es e =
    let bytes = heap_more es e in
    let coded = greatest_map_more (coded_count p) es e in
    let stored = greatest_map_more (stored_count p) es e in
    λ j. record { bytes = bytes j; coded = coded j; stored = stored j }

-- the codes of the first tiles are measured, of every job that puts PATCH there
abbrev pub AreMeasured : Target → List ℕ → Option (List ℕ) → Option (List ℕ) → Measure → Type 0
AreMeasured t front given held found =
    IfBoth held given (λ f p. (corner : List ℕ) (olds : List (List ℤ)) → IsGivenTo corner p t → BoxHasNumbers f t.header (given_at corner p) olds →
    found ≡ measure_of t.image.plan (new_codes t.image.plan (given_at corner p) front olds))

pub measure_step : (t : Target) (given held : Option (List ℕ)) (front : List ℕ) (tile : ℕ) (left : List ℕ) (found now : Measure) (w : Pool) → picked_tiles_of t.image.plan t.sieve ≡ front ++ (tile ∷ left) → IfSome held (λ f. IsTargetIn f t) →
    IfBoth held given (λ f p. (corner : List ℕ) → IsGivenTo corner p t → HasNewCode f t.header t.image.plan (given_at corner p) tile w) →
    ((code : TileCode) → HasFirst (HasCode code) w → now ≡ measured_with t.image.plan found code) → AreMeasured t front given held found → AreMeasured t (front ++ tile ∷ []) given held now
measure_step t given None front tile left found now w parts said new coded have = tt
measure_step t None (Some f) front tile left found now w parts said new coded have = tt
measure_step t (Some p) (Some f) front tile left found now w parts said new coded have = λ corner olds to rows.
    let g = given_at corner p in
    let plan = t.image.plan in
    let all : RowsHaveNumbers f t.header (front ++ (tile ∷ left)) olds = subst (λ ts. RowsHaveNumbers f t.header ts olds) (tiles_of f t corner p said to ∙ parts) rows in
    let next = next_numbers f t.header plan g front tile left olds all in
    let e : TileCode = new_code plan g tile next.xs in
    coded e (new corner to next.xs next.stands)
    ∙ ap (λ m. measured_with plan m e) (have corner olds to rows)
    ∙ sym (measure_more plan (new_codes plan g front olds) e)
    ∙ ap (measure_of plan) (sym next.codes)

-- ---- rows that are sound so far

abbrev pub AreSound : Target → List ℕ → Option (List ℕ) → Type 0
AreSound t front held = IfSome held (λ f. IsFirstRowFault f (map (image_row t.header) front) None)

pub sound_step : (t : Target) (held : Option (List ℕ)) (front : List ℕ) (tile : ℕ) → AreSound t front held → AreSound t (tile ∷ []) held → AreSound t (front ++ tile ∷ []) held
sound_step t None front tile before here = tt
sound_step t (Some f) front tile before here =
    subst (λ l. IsFirstRowFault f l None) (sym (map-append (image_row t.header) front (tile ∷ []))) (sound_then f (map (image_row t.header) front) (map (image_row t.header) (tile ∷ [])) before here)

-- the rows of all tiles with a pixel in the box
pub all_sound : (t : Target) (held : Option (List ℕ)) (front : List ℕ) → picked_tiles_of t.image.plan t.sieve ≡ front → IfSome held (λ f. IsTargetIn f t) → AreSound t front held →
    IfSome held (λ f. IsFirstRowFault f (picked_rows f t.sieve t.header) None)
all_sound t None front parts said sound = tt
all_sound t (Some f) front parts said sound =
    subst (λ ts. IsFirstRowFault f (map (image_row t.header) ts) None) (sym (ap (λ p. picked_tiles_of p t.sieve) said.said.plan ∙ parts)) sound

-- and the first that is refused
pub fault_found : (t : Target) (given held : Option (List ℕ)) (front : List ℕ) (tile : ℕ) (left : List ℕ) (x : Fault) → picked_tiles_of t.image.plan t.sieve ≡ front ++ (tile ∷ left) → IfSome held (λ f. IsTargetIn f t) → AreSound t front held →
    IfSome held (λ f. IsFirstRowFault f (image_row t.header tile ∷ []) (Some x)) →
    IfBoth held given (λ f p. (corner : List ℕ) → IsGivenTo corner p t → IsBoxFault f t.header (given_at corner p) (Some x))
fault_found t given None front tile left x parts said sound fault = tt
fault_found t None (Some f) front tile left x parts said sound fault = tt
fault_found t (Some p) (Some f) front tile left x parts said sound fault = λ corner to.
    let g = given_at corner p in
    let here : IsFirstRowFault f (map (image_row t.header) (tile ∷ left)) (Some x) = fault_first f (image_row t.header tile ∷ []) (map (image_row t.header) left) x fault in
    let whole : IsFirstRowFault f (map (image_row t.header) front ++ map (image_row t.header) (tile ∷ left)) (Some x) =
    fault_after f (map (image_row t.header) front) (map (image_row t.header) (tile ∷ left)) x sound here
    in
    let tiles : box_tiles (plan_in f t.header) g ≡ front ++ (tile ∷ left) = tiles_of f t corner p said to ∙ parts in
    inl (
      x,
      refl,
      subst (λ ts. IsFirstRowFault f (map (image_row t.header) ts) (Some x)) (sym tiles)
          (subst (λ l. IsFirstRowFault f l (Some x)) (sym (map-append (image_row t.header) front (tile ∷ left))) whole),
    )

-- ---- the whole state of the first pass

short_by : (low count : ℕ) (rest : List ℕ) (b : Bool) → length rest ≤ count → length (if b then low ∷ rest else rest) ≤ suc count
short_by low count rest true more = omega (arith, more)
short_by low count rest false more = omega (arith, more)

short_filter : (test : ℕ → Bool) (low count : ℕ) → length (filter test (range_with_len low count)) ≤ count
short_filter test low zero = omega arith
short_filter test low (suc count) = short_by low count (filter test (range_with_len (low + 1) count)) (test low) (short_filter test (low + 1) count)

-- not more tiles have a pixel in the box than there are
pub few_picked : (p : Plan) (sieve : Sieve) → length (picked_tiles_of p sieve) ≤ tiles_in p
few_picked p sieve =
    short_filter (λ t. has_pixel (tile_picks (lengths_of p.shape) (lengths_of p.tile) (sieve_lo sieve) (sieve_hi sieve) (sieve_step sieve) t)) 0 (tile_count (lengths_of p.shape) (lengths_of p.tile))

pub record MeasureState (t : Target) (given held : Option (List ℕ)) (left : List ℕ) (found : Measure) : Type 0 where
  pub front : List ℕ
  pub parts : picked_tiles_of t.image.plan t.sieve ≡ front ++ left
  pub measured : AreMeasured t front given held found
  pub sound : AreSound t front held
  pub few : found.bytes ≤ 2 ^ 29 * length front
  pub coded : found.coded ≤ found.bytes
  pub stored : found.stored ≤ found.bytes

pub measure_begin : (t : Target) (given held : Option (List ℕ)) (left : List ℕ) (found : Measure) → picked_tiles_of t.image.plan t.sieve ≡ left → found ≡ record { bytes = 0; coded = 0; stored = 0 } → MeasureState t given held left found
unfolding heap_of
measure_begin t given held left found parts none = record {
  front = [];
  parts = parts;
  measured = by_both held given;
  sound = by_one held;
  few = omega (arith, ap (λ (m : Measure). m.bytes) none);
  coded = omega (arith, ap (λ (m : Measure). m.coded) none);
  stored = omega (arith, ap (λ (m : Measure). m.stored) none);
}
  where
    by_both : (held given : Option (List ℕ)) → AreMeasured t [] given held found
    by_both None given = tt
    by_both (Some f) None = tt
    by_both (Some f) (Some p) = λ corner olds to rows. none

    by_one : (held : Option (List ℕ)) → AreSound t [] held
    by_one None = tt
    by_one (Some f) = tt

-- how many bytes have codes so far
pub bytes_few : (t : Target) (given held : Option (List ℕ)) (left : List ℕ) (found : Measure) → tiles_in t.image.plan < 2 ^ 31 → MeasureState t given held left found → found.bytes + 2 ^ 29 * length left ≤ 2 ^ 60
bytes_few t given held left found tiles state =
    let all = few_picked t.image.plan t.sieve in
    let parts = ap length state.parts in
    let both = length-append state.front left in
    omega (arith, state.few, all, parts, both, tiles)

pub measure_go_on : (t : Target) (given held : Option (List ℕ)) (tile : ℕ) (left : List ℕ) (found now : Measure) (code : TileCode) (w : Pool) → IfSome held (λ f. IsTargetIn f t) →
    IfBoth held given (λ f p. (corner : List ℕ) → IsGivenTo corner p t → HasNewCode f t.header t.image.plan (given_at corner p) tile w) → AreSound t (tile ∷ []) held →
    ((e : TileCode) → HasFirst (HasCode e) w → code ≡ e) → now ≡ measured_with t.image.plan found code → length code.bytes ≤ 2 ^ 29 → coded_count t.image.plan code ≤ length code.bytes → stored_count t.image.plan code ≤ length code.bytes →
    MeasureState t given held (tile ∷ left) found → MeasureState t given held left now
measure_go_on t given held tile left found now code w said new here coded added short first second old =
    let bytes : now.bytes ≡ found.bytes + length code.bytes = ap (λ (m : Measure). m.bytes) added in
    let codes : now.coded ≡ max found.coded (coded_count t.image.plan code) = ap (λ (m : Measure). m.coded) added in
    let plain : now.stored ≡ max found.stored (stored_count t.image.plan code) = ap (λ (m : Measure). m.stored) added in
    let count = length-append old.front (tile ∷ []) in
    record {
      front = old.front ++ tile ∷ [];
      parts = old.parts ∙ sym (append_assoc old.front (tile ∷ []) left);
      measured = measure_step t given held old.front tile left found now w old.parts said new (λ e has. added ∙ ap (measured_with t.image.plan found) (coded e has)) old.measured;
      sound = sound_step t held old.front tile old.sound here;
      few = omega (arith, bytes, short, old.few, count);
      coded = omega (arith, codes, bytes, first, old.coded);
      stored = omega (arith, plain, bytes, second, old.stored);
    }

-- all codes are measured
pub all_measured : (t : Target) (given held : Option (List ℕ)) (front : List ℕ) (found : Measure) → picked_tiles_of t.image.plan t.sieve ≡ front → AreMeasured t front given held found →
    IfBoth held given (λ f p. (corner : List ℕ) (olds : List (List ℤ)) → IsGivenTo corner p t → BoxHasNumbers f t.header (given_at corner p) olds →
    found ≡ measure_of t.image.plan (new_codes t.image.plan (given_at corner p) (box_tiles t.image.plan (given_at corner p)) olds))
all_measured t given None front found parts have = tt
all_measured t None (Some f) front found parts have = tt
all_measured t (Some p) (Some f) front found parts have = λ corner olds to rows.
    let boxes : box_tiles t.image.plan (given_at corner p) ≡ front = ap (picked_tiles_of t.image.plan) (sym to.sieve) ∙ parts in
    have corner olds to rows ∙ ap (λ ts. measure_of t.image.plan (new_codes t.image.plan (given_at corner p) ts olds)) (sym boxes)

pub tiles_few : (t : Target) → IsTarget t → tiles_in t.image.plan < 2 ^ 31
tiles_few t is = is.readable.divided.tiles
