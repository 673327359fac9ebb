-- The checks that find a target, one after another (FITS 4.0, sections 4.4.1, 7.3 and 10.1).
use Rattle.std.specs.Prelude.{IfSome}
use Rattle.std.proofs.Common.{◌≡◌, ℕ, ◌*◌, ◌/◌, ◌^◌, ◌≤◌, ◌==◌, ◌&&◌, not, Bool, true, false, List, [], ◌∷◌, ◌++◌, length, max, slice_index, Option, Some, None, Result, Ok, Err, codes, if◌then◌else◌, refl, sym, ap, ◌∙◌, subst, arith, eqb-true}
use Rattle.std.specs.List.{flat_map, range_with_len}
use Rattle.std.proofs.lemmas.List.FromFn.{length-map-range_with_len}
use Rattle.fz_base.specs.Refusal.{first_refusal, refusal}
use Rattle.fz_base.specs.Stop.{IsDefined, TellsLimit}
use Rattle.fz_base.specs.Takings.{TellsFirstPast, first_past, highest}
use Rattle.fz_base.specs.declared.failure.Stop.{Stop}
use Rattle.fz_base.specs.declared.failure.Stop.TheVariants.{Refused, ReadFault, WriteFault, OverLimit, NoMemory}
use Rattle.fz_base.specs.declared.fault.Fault.{Fault}
use Rattle.fz_base.specs.declared.fault.Place.TheVariants.{Byte, Card}
use Rattle.fz_base.specs.declared.kind.Kind.TheVariants.{BadPatch, Unpatchable}
use Rattle.fz_block.specs.Checks.{header_blocks_of, unless_refused}
use Rattle.fz_base.specs.Source.{HoldsOctets}
use Rattle.fz_block.specs.Facts.{IsHeaderOf, nine_axes}
use Rattle.fz_block.specs.Hdus.{cards_of}
use Rattle.fz_block.specs.Header.{data_start_of, next_start_of}
use Rattle.fz_block.specs.Takings.{header_taking}
use Rattle.fz_block.specs.declared.axes.Axes.{Axes}
use Rattle.fz_block.specs.declared.header.Header.{Header}
use Rattle.fz_grid.specs.Arrays.{product}
use Rattle.fz_grid.specs.Region.{lengths_of}
use Rattle.fz_grid.specs.Sieve.{IsSieveOf, sieve_lengths}
use Rattle.fz_grid.specs.declared.region.Region.{Region}
use Rattle.fz_grid.specs.Cutout.{Sifts}
use Rattle.fz_tile.specs.Laws.{SlicesPixels, StoresPixels}
use Rattle.fz_tile.specs.Pixels.{IsBitpix}
use Rattle.fz_table.specs.Rows.{descriptor_len}
use Rattle.fz_table.specs.Tables.{table_checks, table_in, table_of}
use Rattle.fz_table.specs.declared.table.Table.{Table}
use Rattle.fz_files.specs.Packed.{pixel_bits}
use Rattle.fz_files.specs.Restored.{header_in, image_table, plan_in}
use Rattle.fz_head.specs.PackedTable.{coded_unit}
use Rattle.fz_head.specs.Planned.{pixel_len}
use Rattle.fz_checks.specs.JobChecks.{axes_check, axis_inside, image_in, image_to_amend}
use Rattle.fz_head.specs.PackedPlan.{numbered_in, plan_of_cards, said_axes, size_of}
use Rattle.fz_head.specs.PlainHeader.{axis_count}
use Rattle.fz_checks.specs.declared.job_checks.PackedImage.{PackedImage}
use Rattle.fz_head.specs.declared.plan.Plan.{Plan}
use Rattle.fz_laws.specs.PatchChecks.{find_checks, given_check, if_patchable, inside_checks, may_be_given, own_checks, target_checks}
use Rattle.fz_laws.specs.PatchForm.{has_form, has_heap_after_rows, has_letters, has_pixel_codes, has_two_columns, has_wide, is_wide_table}
use Rattle.fz_laws.specs.Given.{PatchJob, array_if, box_region, box_sieve, given_header}
use Rattle.fz_laws.specs.PatchTables.{FormsHaveTables, IsFormTable}
use Rattle.fz_target.specs.Targets.{GivesWithin, HasHeader, IsGivenImage, IsGivenTo, IsOwnImage, IsTarget, IsTargetIn, given_found, given_taking, job_at, placed}
use Rattle.fz_target.specs.declared.target.Target.{Target}
use Rattle.fz_target.proofs.FoundTargets.{IsGivenHeader, bits_of, can_write, given_parts, given_to, shape_is, whole_more}

-- ---- lists of checks

pub stop_front : (xs ys : List (Bool × Fault)) (x : Fault) → first_refusal xs ≡ Some x → first_refusal (xs ++ ys) ≡ Some x
stop_front [] ys x e = absurd cc
stop_front ((true, f) ∷ xs) ys x e = e
stop_front ((false, f) ∷ xs) ys x e = stop_front xs ys x e

pub pass_front : (xs ys : List (Bool × Fault)) → first_refusal xs ≡ None → first_refusal (xs ++ ys) ≡ first_refusal ys
pass_front [] ys e = refl
pass_front ((true, f) ∷ xs) ys e = absurd cc
pass_front ((false, f) ∷ xs) ys e = pass_front xs ys e

one_passes : (b : Bool) (f : Fault) (rest : List (Bool × Fault)) → first_refusal ((not b, f) ∷ rest) ≡ None → (b ≡ true) × (first_refusal rest ≡ None)
one_passes true f rest e = (refl, e)
one_passes false f rest e = absurd cc

-- ---- the image of the header

pub header_passes : (h : Header) (buf : List ℕ) (x : Fault) → first_refusal (find_checks h buf true) ≡ None → image_to_amend h buf true ≡ Err x → ⊥
unfolding image_to_amend
header_passes h buf x passes e =
    let is : Ok (image_in h buf) ≡ Err x = sym (ap (unless_refused (image_in h buf)) passes) ∙ e in
    absurd cc

pub image_passes : (h : Header) (buf : List ℕ) (image : PackedImage) → image_to_amend h buf true ≡ Ok image → (image ≡ image_in h buf) × (first_refusal (find_checks h buf true) ≡ None)
unfolding image_to_amend
image_passes h buf image e = by_refusal (first_refusal (find_checks h buf true)) refl e
  where
    by_refusal : (r : Option Fault) → first_refusal (find_checks h buf true) ≡ r → unless_refused (image_in h buf) r ≡ Ok image → (image ≡ image_in h buf) × (first_refusal (find_checks h buf true) ≡ None)
    by_refusal None passes is = (cc, passes)
    by_refusal (Some x) passes is = absurd cc

-- the table that it has
pub table_passes : (buf : List ℕ) (h : Header) (table : Table) → table_of buf h ≡ Ok table → first_refusal (table_checks buf h) ≡ None
unfolding table_of
table_passes buf h table e = by_refusal (first_refusal (table_checks buf h)) e
  where
    by_refusal : (r : Option Fault) → unless_refused (table_in buf h) r ≡ Ok table → r ≡ None
    by_refusal None is = refl
    by_refusal (Some x) is = absurd cc

-- ---- the checks before PATCH is looked at, by what was read

abbrev pub form_here : ℕ → List ℕ → Header → Plan → List (Bool × Fault)
form_here len buf h p =
    (not (next_start_of h == len), refusal h.hdu (Byte (next_start_of h)) Unpatchable)
    ∷ (not (has_form buf h p), refusal h.hdu (Card 0) Unpatchable)
    ∷ []

pub form_passes : (len : ℕ) (buf : List ℕ) (h : Header) (p : Plan) → first_refusal (form_here len buf h p) ≡ None → (next_start_of h ≡ len) × (has_form buf h p ≡ true)
form_passes len buf h p e =
    let first = one_passes (next_start_of h == len) (refusal h.hdu (Byte (next_start_of h)) Unpatchable) ((not (has_form buf h p), refusal h.hdu (Card 0) Unpatchable) ∷ []) e in
    let second = one_passes (has_form buf h p) (refusal h.hdu (Card 0) Unpatchable) [] first.1 in
    (eqb-true (next_start_of h) len first.0, second.0)

module _ (len : ℕ) (corner buf : List ℕ) (h : Header) where
  own_are : (image : PackedImage) (file : List ℕ) (wanted : Option ℕ) → image ≡ image_in h buf → HasHeader len h buf file →
      own_checks file h (job_at wanted corner) ≡ form_here len buf h image.plan ++ (axes_check h.hdu (cards_of buf) (length corner) ∷ [])
  own_are image file wanted is has =
      let plan : plan_of_cards (cards_of buf) ≡ image.plan = sym (ap (λ (i : PackedImage). i.plan) is) in
      (λ j.
      (not (next_start_of h == has.length_is j), refusal h.hdu (Byte (next_start_of h)) Unpatchable)
      ∷ (not (has_form (has.header_is j) h (plan_of_cards (cards_of (has.header_is j)))), refusal h.hdu (Card 0) Unpatchable)
      ∷ axes_check h.hdu (cards_of (has.header_is j)) (length corner)
      ∷ [])
      ∙ (λ j. form_here len buf h (plan j) ++ (axes_check h.hdu (cards_of buf) (length corner) ∷ []))

  pub form_stops : (image : PackedImage) (x : Fault) → image ≡ image_in h buf → first_refusal (form_here len buf h image.plan) ≡ Some x →
      (file : List ℕ) (wanted : Option ℕ) → HasHeader len h buf file → first_refusal (own_checks file h (job_at wanted corner)) ≡ Some x
  form_stops image x is stops file wanted has =
      ap first_refusal (own_are image file wanted is has) ∙ stop_front (form_here len buf h image.plan) (axes_check h.hdu (cards_of buf) (length corner) ∷ []) x stops

  pub axes_stop : (image : PackedImage) (x : Fault) → image ≡ image_in h buf → first_refusal (form_here len buf h image.plan) ≡ None → first_refusal (axes_check h.hdu (cards_of buf) (length corner) ∷ []) ≡ Some x →
      (file : List ℕ) (wanted : Option ℕ) → HasHeader len h buf file → first_refusal (own_checks file h (job_at wanted corner)) ≡ Some x
  axes_stop image x is passes stops file wanted has =
      ap first_refusal (own_are image file wanted is has) ∙ (pass_front (form_here len buf h image.plan) (axes_check h.hdu (cards_of buf) (length corner) ∷ []) passes ∙ stops)

  pub own_pass : (image : PackedImage) → image ≡ image_in h buf → first_refusal (form_here len buf h image.plan) ≡ None → first_refusal (axes_check h.hdu (cards_of buf) (length corner) ∷ []) ≡ None →
      (file : List ℕ) (wanted : Option ℕ) → HasHeader len h buf file → first_refusal (own_checks file h (job_at wanted corner)) ≡ None
  own_pass image is passes both file wanted has =
      ap first_refusal (own_are image file wanted is has) ∙ (pass_front (form_here len buf h image.plan) (axes_check h.hdu (cards_of buf) (length corner) ∷ []) passes ∙ both)

-- ---- what is given

abbrev pub bad_patch : Fault
bad_patch = refusal 0 (Byte 0) BadPatch

pub found_ok : (p : Plan) (patch : List ℕ) (q : Header) → given_found p patch ≡ Ok q → (given_header patch ≡ Ok q) × (may_be_given p (given_header patch) ≡ true)
found_ok p patch q e = by_header (given_header patch) refl e
  where
    by_test : (r : Result Header Fault) (b : Bool) → may_be_given p r ≡ b → (if b then r else Err bad_patch) ≡ Ok q → (r ≡ Ok q) × (may_be_given p r ≡ true)
    by_test r true may is = (is, may)
    by_test r false may is = absurd cc

    by_header : (r : Result Header Fault) → given_header patch ≡ r → (if may_be_given p r then r else Err bad_patch) ≡ Ok q → (r ≡ Ok q) × (may_be_given p r ≡ true)
    by_header r is found = by_test r (may_be_given p r) refl found

found_err : (p : Plan) (patch : List ℕ) (x : Fault) → given_found p patch ≡ Err x → (may_be_given p (given_header patch) ≡ false) × (x ≡ bad_patch)
found_err p patch x e = by_header (given_header patch) e
  where
    by_test : (q : Header) (b : Bool) → may_be_given p (Ok q) ≡ b → (if b then Ok q else Err bad_patch) ≡ Err x → (may_be_given p (Ok q) ≡ false) × (x ≡ bad_patch)
    by_test q true may is = absurd cc
    by_test q false may is = (may, cc)

    by_header : (r : Result Header Fault) → (if may_be_given p r then r else Err bad_patch) ≡ Err x → (may_be_given p r ≡ false) × (x ≡ bad_patch)
    by_header (Err f) is = (refl, cc)
    by_header (Ok q) is = by_test q (may_be_given p (Ok q)) refl is

-- PATCH is refused, or does not fit
pub refused_given : (p : Plan) (held : Option (List ℕ)) (x : Fault) → IfSome held (λ patch. given_header patch ≡ Err x) → IfSome held (λ patch. given_found p patch ≡ Err bad_patch)
refused_given p None x found = tt
refused_given p (Some patch) x found = ap (λ (r : Result Header Fault). if may_be_given p r then r else Err bad_patch) found

pub refused_by : (held : Option (List ℕ)) (stop : Stop) (x : Fault) → stop ≡ Refused x → IfSome held (λ patch. IsDefined {X = Header} (given_header patch) (Err stop)) → IfSome held (λ patch. given_header patch ≡ Err x)
refused_by held stop x e found = subst (λ (s : Stop). IfSome held (λ patch. IsDefined {X = Header} (given_header patch) (Err s))) e found

pub bad_given : (p : Plan) (held : Option (List ℕ)) (stop : Stop) → stop ≡ Refused bad_patch → IfSome held (λ patch. given_found p patch ≡ Err bad_patch) → IfSome held (λ patch. IsDefined {X = Header} (given_found p patch) (Err stop))
bad_given p held stop e found = subst (λ (s : Stop). IfSome held (λ patch. IsDefined {X = Header} (given_found p patch) (Err s))) (sym e) found

-- ---- all checks

abbrev pub ends_here : Header → List ℕ → Region → ℕ → List (Bool × Fault)
ends_here h buf region n = flat_map (λ i. axis_inside h.hdu (cards_of buf) region i ∷ []) (range_with_len 0 n)

pub stop_own : (file patch : List ℕ) (job : PatchJob) (h : Header) (x : Fault) → first_refusal (own_checks file h job) ≡ Some x → if_patchable file patch job (Ok h) ≡ Err x
stop_own file patch job h x stops = ap (unless_refused h) (stop_front (own_checks file h job) (given_check file patch h ∷ inside_checks file patch h job) x stops)

pub axes_are : (cards : List (List ℕ)) (shape : Axes) → shape ≡ nine_axes (said_axes cards) → shape.n ≡ axis_count cards
axes_are cards shape is = ap (λ (a : Axes). a.n) is ∙ length-map-range_with_len (λ i. size_of (numbered_in (codes "ZNAXIS") i cards)) 1 (axis_count cards)

module _ (len : ℕ) (corner buf : List ℕ) (h : Header) (image : PackedImage) (said : image ≡ image_in h buf) (file patch : List ℕ) (wanted : Option ℕ) (has : HasHeader len h buf file) where
  plan_is : plan_in file h ≡ image.plan
  plan_is = ap (λ l. plan_of_cards (cards_of l)) has.header_is ∙ sym (ap (λ (i : PackedImage). i.plan) said)

  shape_said : image.plan.shape ≡ nine_axes (said_axes (cards_of buf))
  shape_said = ap (λ (i : PackedImage). i.plan.shape) said ∙ shape_is (cards_of buf)

  -- the check of what is given, and then those of its box
  rest_are : (q : Header) → given_header patch ≡ Ok q →
      given_check file patch h ∷ inside_checks file patch h (job_at wanted corner)
      ≡ (not (may_be_given image.plan (given_header patch)), bad_patch) ∷ ends_here h buf (box_region (placed corner q.axes)) image.plan.shape.n
  rest_are q found =
      let count : axis_count (cards_of buf) ≡ image.plan.shape.n = sym (axes_are (cards_of buf) image.plan.shape shape_said) in
      (λ j.
      (not (may_be_given (plan_is j) (given_header patch)), bad_patch)
      ∷ flat_map (λ i. axis_inside h.hdu (cards_of (has.header_is j)) (box_region (record { corner = corner; array = array_if patch (found j) })) i ∷ [])
      (range_with_len 0 (axis_count (cards_of (has.header_is j)))))
      ∙ (λ j. (not (may_be_given image.plan (given_header patch)), bad_patch) ∷ ends_here h buf (box_region (placed corner q.axes)) (count j))

  module _ (passes : first_refusal (own_checks file h (job_at wanted corner)) ≡ None) where
    own_over : first_refusal (target_checks file patch h (job_at wanted corner)) ≡ first_refusal (given_check file patch h ∷ inside_checks file patch h (job_at wanted corner))
    own_over = pass_front (own_checks file h (job_at wanted corner)) (given_check file patch h ∷ inside_checks file patch h (job_at wanted corner)) passes

    pub stop_given : (x : Fault) → given_found image.plan patch ≡ Err x → if_patchable file patch (job_at wanted corner) (Ok h) ≡ Err x
    stop_given x found =
        let bad = found_err image.plan patch x found in
        let may : may_be_given (plan_in file h) (given_header patch) ≡ false = ap (λ p. may_be_given p (given_header patch)) plan_is ∙ bad.0 in
        ap (unless_refused h)
        (own_over
        ∙ (ap (λ b. first_refusal ((not b, bad_patch) ∷ inside_checks file patch h (job_at wanted corner))) may
        ∙ ap Some (sym bad.1)))

    ends_left : (q : Header) → given_found image.plan patch ≡ Ok q → first_refusal (target_checks file patch h (job_at wanted corner)) ≡ first_refusal (ends_here h buf (box_region (placed corner q.axes)) image.plan.shape.n)
    ends_left q found =
        let ok = found_ok image.plan patch q found in
        own_over
        ∙ (ap first_refusal (rest_are q ok.0)
        ∙ ap (λ b. first_refusal ((not b, bad_patch) ∷ ends_here h buf (box_region (placed corner q.axes)) image.plan.shape.n)) ok.1)

    pub stop_ends : (q : Header) (x : Fault) → given_found image.plan patch ≡ Ok q → first_refusal (ends_here h buf (box_region (placed corner q.axes)) image.plan.shape.n) ≡ Some x →
        if_patchable file patch (job_at wanted corner) (Ok h) ≡ Err x
    stop_ends q x found stops = ap (unless_refused h) (ends_left q found ∙ stops)

    pub pass_all : (q : Header) → given_found image.plan patch ≡ Ok q → first_refusal (ends_here h buf (box_region (placed corner q.axes)) image.plan.shape.n) ≡ None →
        if_patchable file patch (job_at wanted corner) (Ok h) ≡ Ok h
    pass_all q found over = ap (unless_refused h) (ends_left q found ∙ over)

    -- whatever stopped while PATCH was looked at
    pub given_stopped : (stop : Stop) → IsDefined {X = Header} (given_found image.plan patch) (Err stop) → IsDefined {X = Header} (if_patchable file patch (job_at wanted corner) (Ok h)) (Err stop)
    given_stopped (Refused x) found = stop_given x found
    given_stopped ReadFault found = tt
    given_stopped WriteFault found = tt
    given_stopped (OverLimit live asked limit) found = tt
    given_stopped NoMemory found = tt

  -- the target by the bytes of the file
  pub target_in : (t : Target) → t.header ≡ h → t.image ≡ image → t.wide ≡ has_wide image.table.coded → IsTargetIn file t
  target_in t header is wide =
      let table : image_table file h ≡ image.table = ap (λ l. table_in l h) has.header_is ∙ sym (ap (λ (i : PackedImage). i.table) said) in
      record {
        said =
            record {
              plan = ap (plan_in file) header ∙ (plan_is ∙ sym (ap (λ (i : PackedImage). i.plan) is));
              table = ap (image_table file) header ∙ (table ∙ sym (ap (λ (i : PackedImage). i.table) is));
            };
        wide =
            ap (λ (k : Header). is_wide_table (header_in file k)) header
            ∙ (ap is_wide_table has.header_is
            ∙ (sym (ap (λ (i : PackedImage). has_wide i.table.coded) said)
            ∙ sym wide));
      }

-- ---- takings and stops

pub one_taking : (live : ℕ) (patch : List ℕ) (checks : List (Bool × Fault)) → first_refusal checks ≡ None → given_taking live patch (first_refusal checks) ≡ header_taking live (header_blocks_of 0 0 patch)
one_taking live patch checks passes = ap (given_taking live patch) passes

pub past_stopped : (X Y : Type 0) (limit : ℕ) (takings : List (ℕ × ℕ)) (stop : Stop) → TellsFirstPast {X = X} limit takings (Err stop) → TellsFirstPast {X = Y} limit takings (Err stop)
past_stopped X Y limit takings (Refused x) told = told
past_stopped X Y limit takings ReadFault told = told
past_stopped X Y limit takings WriteFault told = told
past_stopped X Y limit takings (OverLimit live asked other) told = told
past_stopped X Y limit takings NoMemory told = told

pub limit_stopped : (X Y : Type 0) (limit most : ℕ) (stop : Stop) → TellsLimit {X = X} limit most (Err stop) → TellsLimit {X = Y} limit most (Err stop)
limit_stopped X Y limit most (Refused x) told = told
limit_stopped X Y limit most ReadFault told = told
limit_stopped X Y limit most WriteFault told = told
limit_stopped X Y limit most (OverLimit live asked other) told = told
limit_stopped X Y limit most NoMemory told = told

-- ---- the same, if PATCH shows its bytes

module _ (held : Option (List ℕ)) (limit live : ℕ) (checks : List (Bool × Fault)) where
  pub past_none : (X : Type 0) (x : Fault) → first_refusal checks ≡ Some x → IfSome held (λ p. TellsFirstPast {X = X} limit (given_taking live p (first_refusal checks)) (Err (Refused x)))
  past_none X x stops = by_held held
    where
      by_held : (k : Option (List ℕ)) → IfSome k (λ p. first_past limit (given_taking live p (first_refusal checks)) ≡ None)
      by_held None = tt
      by_held (Some p) = ap (λ o. first_past limit (given_taking live p o)) stops

  pub past_given : (X Y : Type 0) (r : Result X Stop) (s : Result Y Stop) → first_refusal checks ≡ None → ((ts : List (ℕ × ℕ)) → TellsFirstPast {X = X} limit ts r → TellsFirstPast {X = Y} limit ts s) →
      IfSome held (λ p. TellsFirstPast {X = X} limit (header_taking live (header_blocks_of 0 0 p)) r) → IfSome held (λ p. TellsFirstPast {X = Y} limit (given_taking live p (first_refusal checks)) s)
  past_given X Y r s passes same told = by_held held told
    where
      by_held : (k : Option (List ℕ)) → IfSome k (λ p. TellsFirstPast {X = X} limit (header_taking live (header_blocks_of 0 0 p)) r) → IfSome k (λ p. TellsFirstPast {X = Y} limit (given_taking live p (first_refusal checks)) s)
      by_held None t = tt
      by_held (Some p) t = subst (λ ts. TellsFirstPast {X = Y} limit ts s) (sym (one_taking live p checks passes)) (same (header_taking live (header_blocks_of 0 0 p)) t)

  pub peak_given : (old new : ℕ) → first_refusal checks ≡ None → IfSome held (λ p. new ≤ max old (highest (header_taking live (header_blocks_of 0 0 p)))) →
      IfSome held (λ p. new ≤ max old (highest (given_taking live p (first_refusal checks))))
  peak_given old new passes told = by_held held told
    where
      by_held : (k : Option (List ℕ)) → IfSome k (λ p. new ≤ max old (highest (header_taking live (header_blocks_of 0 0 p)))) → IfSome k (λ p. new ≤ max old (highest (given_taking live p (first_refusal checks))))
      by_held None t = tt
      by_held (Some p) t = subst (λ ts. new ≤ max old (highest ts)) (sym (one_taking live p checks passes)) t

  pub peak_none : (old new : ℕ) → new ≤ old → IfSome held (λ p. new ≤ max old (highest (given_taking live p (first_refusal checks))))
  peak_none old new low = by_held held
    where
      by_held : (k : Option (List ℕ)) → IfSome k (λ p. new ≤ max old (highest (given_taking live p (first_refusal checks))))
      by_held None = tt
      by_held (Some p) = omega (arith, low)

-- ---- what was found

and_right : (a b : Bool) → (a && b) ≡ true → b ≡ true
and_right true b e = e
and_right false b e = absurd cc

-- the image of a header that has the form, of which a box is replaced
pub found_target : FormsHaveTables → (len : ℕ) (corner buf : List ℕ) (t : Target) → IsOwnImage len corner buf t.header t.image → IsHeaderOf buf t.header → next_start_of t.header ≤ 2 ^ 62 →
    t.wide ≡ has_wide t.image.table.coded → IsSieveOf t.image.plan.shape t.sieve → slice_index t.sieve.step 0 ≡ 1 → IsTarget t
found_target forms len corner buf t own is end wide sieve step =
    let p = t.image.plan in
    let h = t.header in
    let table : t.image.table ≡ table_in buf h = ap (λ (i : PackedImage). i.table) own.said in
    let form : IsFormTable buf h p t.image.table = subst (IsFormTable buf h p) (sym table) (forms buf h p is own.is.readable.size (table_passes buf h t.image.table own.is.table) own.form) in
    let same : is_wide_table buf ≡ t.wide = sym (ap (λ (u : Table). has_wide u.coded) table) ∙ sym wide in
    let letters : Bool = has_letters buf p in
    let codes : (has_pixel_codes p.codec p.bitpix) ≡ true =
    and_right (has_heap_after_rows buf h) (has_pixel_codes p.codec p.bitpix)
    (and_right letters (has_heap_after_rows buf h && has_pixel_codes p.codec p.bitpix)
    (and_right (has_two_columns buf) (letters && (has_heap_after_rows buf h && has_pixel_codes p.codec p.bitpix)) own.form))
    in
    record {
      end = end;
      readable = record { table = own.table; divided = own.is.divided; codec = own.is.readable; rows = own.is.rows };
      writable = can_write p.codec p.bitpix own.is.readable codes;
      coded = form.coded ∙ (λ j. Some (record { at = 0; wide = same j; unit = coded_unit p.codec }));
      stored = form.stored ∙ (λ j. Some (record { at = descriptor_len (same j); wide = same j; unit = pixel_len p.bitpix }));
      row = form.row ∙ ap (λ w. 2 * descriptor_len w) same;
      rows_at = ap (λ (u : Table). u.rows_at) table;
      heap_at = form.heap_at;
      heap_len = form.heap_len;
      data_len = form.data_len;
      sieve = sieve;
      step = step;
    }

-- the pixels that are put in are within PATCH
pub gives_within : (t : Target) (q : Header) (n : ℕ) (attached : Option ℕ) → attached ≡ Some n → n ≤ 2 ^ 62 → t.pixels_at ≡ data_start_of q → sieve_lengths t.sieve ≡ lengths_of q.axes →
    q.data_len ≡ pixel_bits t.image.plan / 8 * product (lengths_of q.axes) → next_start_of q ≤ n → GivesWithin attached t
gives_within t q n attached is near at lens whole_data end =
    let size : pixel_bits t.image.plan / 8 * product (sieve_lengths t.sieve) ≡ q.data_len = ap (λ l. pixel_bits t.image.plan / 8 * product l) lens ∙ sym whole_data in
    let whole = whole_more q.data_len in
    (n, near, is, omega (arith, at, size, whole, end))

-- and are those of its box
pub given_all : SlicesPixels → StoresPixels → (corner : List ℕ) (q : Header) (t : Target) (held : Option (List ℕ)) → IsBitpix t.image.plan.bitpix → HoldsOctets held → IsGivenImage t.image.plan q → q.axes.n ≡ length corner →
    t.sieve ≡ box_sieve (placed corner q.axes) → Sifts (lengths_of t.image.plan.shape) t.sieve → t.pixels_at ≡ data_start_of q → IfSome held (λ p. given_found t.image.plan p ≡ Ok q) → IfSome held (λ p. IsGivenTo corner p t)
given_all slices stores corner q t None size octets given same sieve sifts at found = tt
given_all slices stores corner q t (Some p) size octets given same sieve sifts at found =
    let header : IsGivenHeader t.image.plan corner q p = record {
      found = (found_ok t.image.plan p q found).0;
      may = given_parts t.image.plan q given.may;
      axes = given.axes ∙ same;
      data_is = given.data_is;
    } in
    given_to slices stores t.image.plan corner q p octets (bits_of t.image.plan.bitpix size) header t refl sieve sifts at
