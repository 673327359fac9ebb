-- What the checks of a header by its bytes learn is what the job says of its HDU, but for the fill.
use Rattle.std.proofs.Common.{◌≡◌, ℕ, ◌&&◌, Bool, true, false, List, [], ◌∷◌, ◌++◌, IfSome, refl, sym, ap, ◌∙◌}
use Rattle.std.specs.Prelude.{Option, Some, None, Result, Ok, Err, if◌then◌else◌}
use Rattle.std.specs.Result.{result_map_both}
use Rattle.fz_base.specs.Refusal.{first_refusal}
use Rattle.fz_base.specs.Stop.{IsDefined}
use Rattle.fz_base.specs.declared.fault.Fault.{Fault}
use Rattle.fz_base.specs.declared.failure.Stop.{Stop}
use Rattle.fz_base.specs.declared.failure.Stop.TheVariants.{Refused, ReadFault, WriteFault, OverLimit, NoMemory}
use Rattle.fz_block.specs.Checks.{unless_refused}
use Rattle.fz_block.specs.Walk.{hdu_of}
use Rattle.fz_block.specs.declared.header.Header.{Header}
use Rattle.fz_checks.specs.JobChecks.{amend_checks, cut_checks, data_fill, fill_in, image_in, image_to_amend, image_to_cut, image_to_unpack, is_after_empty, pack_header_checks, plan_to_pack, unpack_checks}
use Rattle.fz_checks.specs.declared.job_checks.PackedImage.{PackedImage}
use Rattle.fz_head.specs.declared.plan.Plan.{Plan}
use Rattle.fz_checks.specs.Judges.{is_wanted}
use Rattle.fz_head.specs.Packable.{is_packable, is_packed}
use Rattle.fz_head.specs.Planned.{pack_plan_of}
use Rattle.fz_checks.specs.WorkBuffers.{pixels_of_tile}
use Rattle.fz_job.specs.Judges.{judge_of}
use Rattle.fz_job.specs.Looks.{seen_as, tiled, tiled_plan, tiled_image, cut_image, look_of, hdu_look}
use Rattle.fz_job.specs.Surveys.{is_primary_table, tile_pixels, looks_at_fill}
use Rattle.fz_job.specs.declared.checks.JobChecks.{JobChecks}
use Rattle.fz_job.specs.declared.checks.JobChecks.TheVariants.{Pack, Unpack, Cut, Amend, Every}
use Rattle.fz_job.specs.declared.look.Look.{Look}

-- no check of the first list refuses, or one does
passed : (xs ys : List (Bool × Fault)) → first_refusal xs ≡ None → first_refusal (xs ++ ys) ≡ first_refusal ys
passed [] ys none = refl
passed ((true, fault) ∷ xs) ys none = absurd cc
passed ((false, fault) ∷ xs) ys none = passed xs ys none

stopped : (xs ys : List (Bool × Fault)) (x : Fault) → first_refusal xs ≡ Some x → first_refusal (xs ++ ys) ≡ Some x
stopped [] ys x some = absurd cc
stopped ((true, fault) ∷ xs) ys x some = some
stopped ((false, fault) ∷ xs) ys x some = stopped xs ys x some

-- what is learnt if no check refuses
abbrev learnt : {A : Type 0} → (A → Look) → A → Option Fault → Result Look Fault
learnt f a r = result_map_both f (λ x. x) (unless_refused a r)

was_refused : {A : Type 0} (f : A → Look) (a : A) (r : Option Fault) (x : Fault) → learnt f a r ≡ Err x → r ≡ Some x
was_refused f a None x e = absurd cc
was_refused f a (Some y) x e = cc

none_refused : {A : Type 0} (f : A → Look) (a : A) (r : Option Fault) (l : Look) → learnt f a r ≡ Ok l → r ≡ None
none_refused f a None l e = refl
none_refused f a (Some y) l e = absurd cc

was_learnt : {A : Type 0} (f : A → Look) (a : A) (r : Option Fault) (l : Look) → learnt f a r ≡ Ok l → f a ≡ l
was_learnt f a None l e = cc
was_learnt f a (Some y) l e = absurd cc

-- `pack`: the checks of the header, and then that of the fill
abbrev plan_where : Bool → Plan → Option Plan
plan_where p plan = if p then Some plan else None

abbrev fill_where : Bool → Bool × Fault → List (Bool × Fault)
fill_where p fill = if p then fill ∷ [] else []

abbrev tile_where : Bool → ℕ → ℕ
tile_where b n = if b then n else 0

pack_refused : (p : Bool) (cs : List (Bool × Fault)) (fill : Bool × Fault) (plan : Plan) (n : ℕ) (x : Fault) → learnt tiled_plan (plan_where p plan) (first_refusal cs) ≡ Err x →
    learnt (tiled n) false (first_refusal (cs ++ fill_where p fill)) ≡ Err x
pack_refused p cs fill plan n x e =
    ap (learnt (tiled n) false) (stopped cs (fill_where p fill) x (was_refused tiled_plan (plan_where p plan) (first_refusal cs) x e))

pack_copied : (p : Bool) (cs : List (Bool × Fault)) (fill : Bool × Fault) (plan : Plan) (l : Look) → learnt tiled_plan (plan_where p plan) (first_refusal cs) ≡ Ok l → p ≡ false →
    learnt (tiled (tile_where p (pixels_of_tile plan))) false (first_refusal (cs ++ fill_where p fill)) ≡ Ok l
pack_copied true cs fill plan l e not_so = absurd cc
pack_copied false cs fill plan l e not_so =
    ap (learnt (tiled 0) false) (passed cs [] (none_refused tiled_plan None (first_refusal cs) l e)) ∙ ap Ok (was_learnt tiled_plan None (first_refusal cs) l e)

by_fill : (n : ℕ) (l : Look) (r : Option Fault) → tiled n false ≡ l → learnt (tiled n) false r ≡ result_map_both (λ (u : Unit {0}). l) (λ x. x) (unless_refused tt r)
by_fill n l None e = ap Ok e
by_fill n l (Some x) e = refl

pack_filled : (p : Bool) (cs : List (Bool × Fault)) (fill : Bool × Fault) (plan : Plan) (l : Look) → learnt tiled_plan (plan_where p plan) (first_refusal cs) ≡ Ok l → p ≡ true →
    learnt (tiled (tile_where p (pixels_of_tile plan))) false (first_refusal (cs ++ fill_where p fill)) ≡ result_map_both (λ (u : Unit {0}). l) (λ x. x) (unless_refused tt (first_refusal (fill ∷ [])))
pack_filled false cs fill plan l e so = absurd cc
pack_filled true cs fill plan l e so =
    ap (learnt (tiled (pixels_of_tile plan)) false) (passed cs (fill ∷ []) (none_refused tiled_plan (Some plan) (first_refusal cs) l e))
    ∙ by_fill (pixels_of_tile plan) l (first_refusal (fill ∷ [])) (was_learnt tiled_plan (Some plan) (first_refusal cs) l e)

-- `unpack`
abbrev image_where : Bool → PackedImage → Option PackedImage
image_where b image = if b then Some image else None

image_tile : (b : Bool) (image : PackedImage) → seen_as (tile_where b (pixels_of_tile image.plan)) (b && image.plan.primary) false ≡ tiled_image (image_where b image)
image_tile true image = refl
image_tile false image = refl

unpack_learnt : (b : Bool) (image : PackedImage) (r : Option Fault) (a : Result Look Fault) → learnt tiled_image (image_where b image) r ≡ a → learnt (seen_as (tile_where b (pixels_of_tile image.plan)) (b && image.plan.primary)) false r ≡ a
unpack_learnt b image None a e = ap Ok (image_tile b image) ∙ e
unpack_learnt b image (Some x) a e = e

-- `cut`
cut_learnt : (w : Bool) (image : PackedImage) (r : Option Fault) (a : Result Look Fault) →
    (if w then learnt cut_image image r else Ok (tiled 0 false)) ≡ a →
    result_map_both (tiled (tile_where w (pixels_of_tile image.plan))) (λ x. x) (if w then unless_refused true r else Ok false) ≡ a
cut_learnt false image r a e = e
cut_learnt true image None a e = e
cut_learnt true image (Some x) a e = e

-- an answer of one HDU, by its header in the file
its_refusal : (checks : JobChecks) (g : List ℕ) (h : Header) (x : Fault) → look_of checks h (hdu_of g h).header (is_after_empty g h) ≡ Err x → hdu_look checks g h ≡ Err x
unfolding judge_of look_of tile_pixels is_primary_table plan_to_pack image_to_unpack image_to_cut image_to_amend
its_refusal (Pack o) g h x e =
    pack_refused (is_packable h) (pack_header_checks o h (hdu_of g h).header) (data_fill h (fill_in g h)) (pack_plan_of o h) (tile_where (is_packable h) (pixels_of_tile (pack_plan_of o h))) x e
its_refusal Unpack g h x e =
    unpack_learnt (is_packed (hdu_of g h).header h) (image_in h (hdu_of g h).header) (first_refusal (unpack_checks h (hdu_of g h).header (is_after_empty g h))) (Err x) e
its_refusal (Cut wanted region) g h x e =
    cut_learnt (is_wanted wanted (hdu_of g h).header h) (image_in h (hdu_of g h).header) (first_refusal (cut_checks h (hdu_of g h).header (is_after_empty g h) region)) (Err x) e
its_refusal (Amend wanted) g h x e =
    cut_learnt (is_wanted wanted (hdu_of g h).header h) (image_in h (hdu_of g h).header) (first_refusal (amend_checks h (hdu_of g h).header (is_after_empty g h))) (Err x) e
its_refusal Every g h x e = absurd cc

its_look : (checks : JobChecks) (g : List ℕ) (h : Header) (l : Look) → look_of checks h (hdu_of g h).header (is_after_empty g h) ≡ Ok l → looks_at_fill checks h ≡ false → hdu_look checks g h ≡ Ok l
unfolding judge_of look_of tile_pixels is_primary_table plan_to_pack image_to_unpack image_to_cut image_to_amend
its_look (Pack o) g h l e not_so =
    pack_copied (is_packable h) (pack_header_checks o h (hdu_of g h).header) (data_fill h (fill_in g h)) (pack_plan_of o h) l e not_so
its_look Unpack g h l e not_so =
    unpack_learnt (is_packed (hdu_of g h).header h) (image_in h (hdu_of g h).header) (first_refusal (unpack_checks h (hdu_of g h).header (is_after_empty g h))) (Ok l) e
its_look (Cut wanted region) g h l e not_so =
    cut_learnt (is_wanted wanted (hdu_of g h).header h) (image_in h (hdu_of g h).header) (first_refusal (cut_checks h (hdu_of g h).header (is_after_empty g h) region)) (Ok l) e
its_look (Amend wanted) g h l e not_so =
    cut_learnt (is_wanted wanted (hdu_of g h).header h) (image_in h (hdu_of g h).header) (first_refusal (amend_checks h (hdu_of g h).header (is_after_empty g h))) (Ok l) e
its_look Every g h l e not_so = e

its_fill : (checks : JobChecks) (g : List ℕ) (h : Header) (l : Look) → look_of checks h (hdu_of g h).header (is_after_empty g h) ≡ Ok l → looks_at_fill checks h ≡ true →
    hdu_look checks g h ≡ result_map_both (λ (u : Unit {0}). l) (λ x. x) (unless_refused tt (first_refusal (data_fill h (fill_in g h) ∷ [])))
unfolding judge_of look_of tile_pixels is_primary_table plan_to_pack image_to_unpack image_to_cut image_to_amend
its_fill (Pack o) g h l e so =
    pack_filled (is_packable h) (pack_header_checks o h (hdu_of g h).header) (data_fill h (fill_in g h)) (pack_plan_of o h) l e so
its_fill Unpack g h l e so = absurd cc
its_fill (Cut wanted region) g h l e so = absurd cc
its_fill (Amend wanted) g h l e so = absurd cc
its_fill Every g h l e so = absurd cc

-- what the bytes of a header in a buffer say, where the source tells its bytes
pub record IsHere (h : Header) (buf : List ℕ) (after_empty : Bool) (g : List ℕ) : Type 0 where
  pub header : (hdu_of g h).header ≡ buf
  pub after : after_empty ≡ is_after_empty g h

in_file : (checks : JobChecks) (g : List ℕ) (h : Header) (buf : List ℕ) (after_empty : Bool) (a : Result Look Fault) → IsHere h buf after_empty g → look_of checks h buf after_empty ≡ a →
    look_of checks h (hdu_of g h).header (is_after_empty g h) ≡ a
in_file checks g h buf after_empty a here e = (λ i. look_of checks h (here.header i) (sym here.after i)) ∙ e

pub hdu_refused : (held : Option (List ℕ)) (checks : JobChecks) (h : Header) (buf : List ℕ) (after_empty : Bool) (x : Fault) → IfSome held (IsHere h buf after_empty) →
    look_of checks h buf after_empty ≡ Err x → IfSome held (λ g. IsDefined {X = Look} (hdu_look checks g h) (Err (Refused x)))
hdu_refused None checks h buf after_empty x here e = tt
hdu_refused (Some g) checks h buf after_empty x here e = its_refusal checks g h x (in_file checks g h buf after_empty (Err x) here e)

pub hdu_passed : (held : Option (List ℕ)) (checks : JobChecks) (h : Header) (buf : List ℕ) (after_empty : Bool) (l : Look) → IfSome held (IsHere h buf after_empty) →
    look_of checks h buf after_empty ≡ Ok l → looks_at_fill checks h ≡ false → IfSome held (λ g. IsDefined (hdu_look checks g h) (Ok l))
hdu_passed None checks h buf after_empty l here e not_so = tt
hdu_passed (Some g) checks h buf after_empty l here e not_so = its_look checks g h l (in_file checks g h buf after_empty (Ok l) here e) not_so

-- the answer of the check of the fill
abbrev pub filled_look : Look → Result (Unit {0}) Stop → Result Look Stop
filled_look l answer = result_map_both (λ (u : Unit {0}). l) (λ x. x) answer

pub hdu_filled : (held : Option (List ℕ)) (checks : JobChecks) (h : Header) (buf : List ℕ) (after_empty : Bool) (l : Look) (answer : Result (Unit {0}) Stop) → IfSome held (IsHere h buf after_empty) →
    look_of checks h buf after_empty ≡ Ok l → looks_at_fill checks h ≡ true → IfSome held (λ g. IsDefined (unless_refused tt (first_refusal (data_fill h (fill_in g h) ∷ []))) answer) →
    IfSome held (λ g. IsDefined (hdu_look checks g h) (filled_look l answer))
hdu_filled None checks h buf after_empty l answer here e so is = tt
hdu_filled (Some g) checks h buf after_empty l answer here e so is = by_answer answer is
  where
    whole : hdu_look checks g h ≡ result_map_both (λ (u : Unit {0}). l) (λ x. x) (unless_refused tt (first_refusal (data_fill h (fill_in g h) ∷ [])))
    whole = its_fill checks g h l (in_file checks g h buf after_empty (Ok l) here e) so

    by_answer : (a : Result (Unit {0}) Stop) → IsDefined (unless_refused tt (first_refusal (data_fill h (fill_in g h) ∷ []))) a → IsDefined (hdu_look checks g h) (filled_look l a)
    by_answer (Ok u) so = whole ∙ ap (result_map_both (λ (u : Unit {0}). l) (λ x. x)) so
    by_answer (Err (Refused x)) so = whole ∙ ap (result_map_both (λ (u : Unit {0}). l) (λ x. x)) so
    by_answer (Err ReadFault) so = tt
    by_answer (Err WriteFault) so = tt
    by_answer (Err (OverLimit live asked limit)) so = tt
    by_answer (Err NoMemory) so = tt
