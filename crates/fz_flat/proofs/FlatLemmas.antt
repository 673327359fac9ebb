-- A packed image is the one that the numbers of its plan say.
use Rattle.std.proofs.Common.{◌≡◌, ℕ, ◌≤◌, ◌==◌, Bool, true, false, cond, take, refl, ap, sym, ◌∙◌, subst, arith}
use Rattle.std.specs.Prelude.{Option, Some, None, IfSome, IsTrue, ◌↔◌}
use Rattle.std.proofs.lemmas.Bool.Decides.{nat_tests}
use Rattle.fz_table.specs.Rows.{StandsInRow}
use Rattle.fz_table.specs.declared.column.Column.{Column}
use Rattle.fz_table.specs.declared.table.Table.{Table}
use Rattle.fz_tile.specs.declared.codec.Codec.{Codec}
use Rattle.fz_tile.specs.declared.codec.Codec.TheVariants.{Rice, Plio, Plain}
use Rattle.fz_head.specs.Planned.{is_wide}
use Rattle.fz_head.specs.declared.plan.Plan.{Plan}
use Rattle.fz_checks.specs.declared.job_checks.PackedImage.{PackedImage}
use Rattle.fz_flat.specs.declared.plan.FzPlan.{FzPlan}
use Rattle.fz_flat.specs.Plans.{codec_block, codec_bytepix, codec_number, column_there, flag_number, flat_column, flat_plan, image_there, numbered_codec}
use Rattle.fz_flat.specs.Lawful.{IsLawful, IsPackedImage, IsPlanOfIts}

codec-back : (codec : Codec) → numbered_codec (codec_number codec) (codec_block codec) (codec_bytepix codec) ≡ codec
codec-back (Rice block bytepix) = refl
codec-back Plio = refl
codec-back Plain = refl

flag-back : (flag : Bool) → (flag_number flag == 1) ≡ flag
flag-back true = refl
flag-back false = refl

-- a column whose elements have bytes
column-by : (c : Column) → 1 ≤ c.unit → column_there (flat_column (Some c)) ≡ Some c
column-by c some =
    let other : (c.unit == 0) ≡ false = grind (arith, nat_tests, some) in
    ap (λ b. cond b None (Some (record { at = c.at; wide = flag_number c.wide == 1; unit = c.unit }))) other
    ∙ ap (λ w. Some (record { at = c.at; wide = w; unit = c.unit })) (flag-back c.wide)

column-back : (t : Table) (column : Option Column) → IfSome column (λ c. StandsInRow t c × (1 ≤ c.unit)) → column_there (flat_column column) ≡ column
column-back t None is = refl
column-back t (Some c) is = column-by c is.1

-- an image with other parts
abbrev rebuilt : PackedImage → Codec → Bool → ℕ → Bool → Option Column → Option Column → Option Column → PackedImage
rebuilt image codec primary n wide coded stored gzip = record {
  plan = record {
    codec = codec;
    bitpix = image.plan.bitpix;
    shape = image.plan.shape;
    tile = record { n = n; len = image.plan.tile.len };
    primary = primary;
    wide = wide;
  };
  table = record {
    row_bytes = image.table.row_bytes;
    rows = image.table.rows;
    rows_at = image.table.rows_at;
    heap_at = image.table.heap_at;
    heap_len = image.table.heap_len;
    coded = coded;
    stored = stored;
    gzip = gzip;
  };
}

-- the image that the plan of a packed image says is that image
pub image-back : (image : PackedImage) → IsPackedImage image → image_there (flat_plan image) ≡ image
image-back image is =
    let p : Plan = image.plan in
    let t : Table = image.table in
    let b : Bool = flag_number p.primary == 1 in
    let n : ℕ = p.shape.n in
    let w : Bool = is_wide p.bitpix (take p.shape.n p.shape.len) in
    let c : Option Column = column_there (flat_column t.coded) in
    let s : Option Column = column_there (flat_column t.stored) in
    let g : Option Column = column_there (flat_column t.gzip) in
    ap (λ x. rebuilt image x b n w c s g) (codec-back p.codec)
    ∙ (ap (λ x. rebuilt image p.codec x n w c s g) (flag-back p.primary)
    ∙ (ap (λ x. rebuilt image p.codec p.primary x w c s g) (sym is.divided.same_axes)
    ∙ (ap (λ x. rebuilt image p.codec p.primary p.tile.n x c s g) (sym is.wide)
    ∙ (ap (λ x. rebuilt image p.codec p.primary p.tile.n p.wide x s g) (column-back t t.coded is.table.coded)
    ∙ (ap (λ x. rebuilt image p.codec p.primary p.tile.n p.wide t.coded x g) (column-back t t.stored is.table.stored)
    ∙ ap (rebuilt image p.codec p.primary p.tile.n p.wide t.coded t.stored) (column-back t t.gzip is.table.gzip))))))

-- a lawful plan is the plan of the image that its numbers say
pub its-own : (plan : FzPlan) → IsLawful plan → IsPlanOfIts plan
its-own plan is =
    let back : image_there plan ≡ is.image = ap image_there is.is_plan ∙ image-back is.image is.packed in
    record {
      packed = subst IsPackedImage (sym back) is.packed;
      is_plan = is.is_plan ∙ ap flat_plan (sym back);
    }

-- and has no more than nine axes
pub few-axes : (plan : FzPlan) → IsLawful plan → plan.axes ≤ 9
few-axes plan is = subst (λ n. n ≤ 9) (sym (ap (λ (p : FzPlan). p.axes) is.is_plan)) is.packed.divided.axes

-- a plan that is that of its image is lawful
pub lawful-by : (plan : FzPlan) → IsPlanOfIts plan → IsLawful plan
lawful-by plan is = record { image = image_there plan; packed = is.packed; is_plan = is.is_plan }

-- a test of its plan tells whether it is lawful
pub lawful-if : (plan flat : FzPlan) (image : PackedImage) (test : Bool) → image ≡ image_there plan → IsPackedImage image → flat ≡ flat_plan image → (IsTrue test ↔ (flat ≡ plan)) →
    IsTrue test ↔ IsLawful plan
lawful-if plan flat image test there packed is_flat tests = (
  λ yes. record { image = image; packed = packed; is_plan = sym (tests.0 yes) ∙ is_flat },
  λ lawful.
      let its = its-own plan lawful in
      tests.1 (is_flat ∙ (ap flat_plan there ∙ sym its.is_plan)),
)
