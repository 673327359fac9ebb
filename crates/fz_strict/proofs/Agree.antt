-- The packed images of a strict file agree on the options that are found.
use Rattle.std.proofs.Common.{◌≡◌, ℕ, ◌&&◌, ◌==◌, Bool, true, false, cond, List, [], ◌∷◌, map, refl, sym, ◌∙◌, ap, arith, inl, inr}
use Rattle.std.proofs.lemmas.Bool.Decides.{nat_tests}
use Rattle.std.proofs.lemmas.Slice.Eq.{bytes_eq-Decides}
use Rattle.std.specs.List.{AllByRecursion, filter, list_all}
use Rattle.fz_block.specs.declared.header.Header.{Header}
use Rattle.fz_grid.specs.Region.{lengths_of}
use Rattle.fz_tile.specs.declared.codec.Codec.{Codec}
use Rattle.fz_tile.specs.declared.codec.Codec.TheVariants.{Rice, Plio, Plain}
use Rattle.fz_head.specs.Packable.{is_packable}
use Rattle.fz_head.specs.Planned.{codec_for, pack_plan_of}
use Rattle.fz_head.specs.declared.options.PackOptions.{PackOptions}
use Rattle.fz_head.specs.declared.plan.Plan.{Plan}
use Rattle.fz_files.specs.Restored.{plan_in}
use Rattle.fz_strict.specs.FoundOptions.{found_options, images_agree, images_in, is_image_by, is_plan_by, is_same_codec, is_same_flag, sums_in}
use Rattle.fz_strict.specs.Laws.{StrictImagesAgree}
use Rattle.fz_strict.proofs.OptionsFound.{StrictLaws, is_known, same_for}
use Rattle.fz_strict.proofs.TilesFound.{Among, plan_tile, tile_by}

same_number : (n : ℕ) → (n == n) ≡ true
same_number n = grind (arith, nat_tests)

same_codec : (c : Codec) → is_same_codec c c ≡ true
same_codec (Rice block bytepix) = λ i. same_number block i && same_number bytepix i
same_codec Plio = refl
same_codec Plain = refl

same_flag : (b : Bool) → is_same_flag b b ≡ true
same_flag true = refl
same_flag false = refl

-- the plan that options make is one by these options
codec_by : (q : PackOptions) (h : Header) → (pack_plan_of q h).codec ≡ codec_for q (pack_plan_of q h).bitpix
unfolding pack_plan_of
codec_by q h = refl

tile_of_plan : (q : PackOptions) (h : Header) → tile_by q h ≡ tile_by q (record h { axes = (pack_plan_of q h).shape })
unfolding pack_plan_of
tile_of_plan q h = refl

plan_by : (q : PackOptions) (h : Header) → is_plan_by q (pack_plan_of q h) ≡ true
plan_by q h =
    let p : Plan = pack_plan_of q h in
    let codec : is_same_codec p.codec (codec_for q p.bitpix) ≡ true = ap (is_same_codec p.codec) (sym (codec_by q h)) ∙ same_codec p.codec in
    let tile = (bytes_eq-Decides (lengths_of p.tile) (tile_by q (record h { axes = p.shape }))).1 (plan_tile q h ∙ tile_of_plan q h) in
    λ i. codec i && tile i

head_same : (x y : Plan) (xs ys : List Plan) → x ∷ xs ≡ y ∷ ys → x ≡ y
head_same x y xs ys e = cc

tail_same : (x y : Plan) (xs ys : List Plan) → x ∷ xs ≡ y ∷ ys → xs ≡ ys
tail_same x y xs ys e = cc

image_by : (q : PackOptions) (file : List ℕ) (h from : Header) → plan_in file h ≡ pack_plan_of q from → sums_in file h ≡ q.sums → is_image_by q file h ≡ true
image_by q file h from plan sums =
    let made : is_plan_by q (plan_in file h) ≡ true = ap (is_plan_by q) plan ∙ plan_by q from in
    let has : is_same_flag (sums_in file h) q.sums ≡ true = ap (λ b. is_same_flag b q.sums) sums ∙ same_flag q.sums in
    λ i. made i && has i

-- the images, one for each that was packed, where the options make the plans of those
images_by : (o q : PackOptions) (file : List ℕ) (images froms : List Header) → map (plan_in file) images ≡ map (pack_plan_of o) froms →
    AllByRecursion (λ h. sums_in file h ≡ o.sums) images →
    ((h : Header) → Among h froms → pack_plan_of q h ≡ pack_plan_of o h) → ((h : Header) → Among h froms → q.sums ≡ o.sums) →
    list_all (is_image_by q file) images ≡ true
images_by o q file [] froms plans each same sums = refl
images_by o q file (h ∷ hs) [] plans each same sums = absurd cc
images_by o q file (h ∷ hs) (from ∷ froms) plans each same sums =
    let plan : plan_in file h ≡ pack_plan_of q from =
    head_same (plan_in file h) (pack_plan_of o from) (map (plan_in file) hs) (map (pack_plan_of o) froms) plans ∙ sym (same from (inl refl)) in
    let here : is_image_by q file h ≡ true = image_by q file h from plan (each.0 ∙ sym (sums from (inl refl))) in
    let rest : list_all (is_image_by q file) hs ≡ true =
    images_by o q file hs froms (tail_same (plan_in file h) (pack_plan_of o from) (map (plan_in file) hs) (map (pack_plan_of o) froms) plans) each.1
    (λ g among. same g (inr among)) (λ g among. sums g (inr among)) in
    λ i. here i && rest i

-- those that were packed can be
filtered : (h : Header) (hs : List Header) → Among h (filter is_packable hs) → is_packable h ≡ true
filtered h [] among = absurd among
filtered h (g ∷ gs) among = by_test (is_packable g) refl among (filtered h gs)
  where
    by_test : (b : Bool) → is_packable g ≡ b → Among h (cond b (g ∷ filter is_packable gs) (filter is_packable gs)) →
        (Among h (filter is_packable gs) → is_packable h ≡ true) →
        is_packable h ≡ true
    by_test true e (inl is) later = ap is_packable is ∙ e
    by_test true e (inr rest) later = later rest
    by_test false e rest later = later rest

pub strict_images_agree : StrictLaws → StrictImagesAgree
unfolding images_agree
strict_images_agree laws file is =
    let o : PackOptions = is.options in
    let known = is_known laws o file is.strict in
    let froms : List Header = filter is_packable known.hs in
    images_by o (found_options file) file (images_in file) froms known.plans known.sums
    (λ h among. (same_for o file is.strict.restored known h among (filtered h known.hs among)).plan)
    (λ h among. (same_for o file is.strict.restored known h among (filtered h known.hs among)).sums)
