-- No other options need to be tried than those that the headers of a packed file say.
use Rattle.std.proofs.Common.{◌≡◌, ℕ, nat_le, Bool, true, false, pos, List, map, if◌then◌else◌, refl, subst, ◌∙◌, ap}
use Rattle.std.specs.List.{AllByRecursion, filter, list_all}
use Rattle.std.specs.Ordering.{int_eq}
use Rattle.fz_block.specs.Facts.{nine_axes}
use Rattle.fz_block.specs.declared.header.Header.{Header}
use Rattle.fz_grid.specs.Region.{lengths_of}
use Rattle.fz_tile.specs.declared.codec.Codec.TheVariants.{Plain}
use Rattle.fz_head.specs.Packable.{is_image as holds_image, is_packable, is_primary}
use Rattle.fz_head.specs.Planned.{asked_codec, asked_tile, codec_for, cut_tile, is_wide, pack_plan_of}
use Rattle.fz_head.specs.declared.options.PackOptions.{PackOptions}
use Rattle.fz_head.specs.declared.plan.Plan.{Plan}
use Rattle.fz_files.specs.Restored.{plan_in, standing}
use Rattle.fz_files.specs.Walks.{headers_for}
use Rattle.fz_files.specs.declared.job.Job.TheVariants.{Unpack}
use Rattle.fz_laws.specs.PackedHdus.{Become, HdusBecome}
use Rattle.fz_laws.specs.RoundTrip.{IsPacked}
use Rattle.fz_strict.specs.FoundOptions.{block_of, codec_found, found_options, images_in, sums_found, sums_in, tile_found, word_of}
use Rattle.fz_strict.specs.Laws.{FoundOptionsAreAllowed, FoundOptionsDo}
use Rattle.fz_strict.specs.Strict.{IsStrictBy}
use Rattle.fz_strict.proofs.Codecs.{asked_again, found_codec}
use Rattle.fz_strict.proofs.HeadersRead.{is_walked}
use Rattle.fz_strict.proofs.Images.{TableLaws, each_among, filter_among, plans, sums, sums_are}
use Rattle.fz_strict.specs.Taken.{WalkLaws}
use Rattle.fz_strict.proofs.Same.{AreSameFor, IsFound, MakeTheSame, is_found, same_file, same_taken}
use Rattle.fz_strict.proofs.TilesFound.{Among, both_true, found_tile, tile_by}

-- all laws
pub record StrictLaws : Type 0 where
  pub walks : WalkLaws
  pub tables : TableLaws
  pub allowed : FoundOptionsAreAllowed
  pub become : HdusBecome

-- ---- the same plan, by the options that are found

packable_axes : (h : Header) → is_packable h ≡ true → list_all (nat_le 1) (lengths_of h.axes) ≡ true
unfolding is_packable
packable_axes h is =
    let rest = (both_true (holds_image h.sort) _ is).1 in
    let axes = (both_true (nat_le 1 h.axes.n) _ rest).1 in
    (both_true (list_all (nat_le 1) (lengths_of h.axes)) _ axes).0

-- the options have this codec and this tile
pub record HaveFound (q : PackOptions) (ps : List Plan) : Type 0 where
  pub codec : q.codec ≡ word_of (codec_found ps)
  pub block : q.block ≡ block_of (codec_found ps)
  pub tile : q.tile ≡ tile_found ps

same_codec : (o q : PackOptions) (h : Header) (hs : List Header) → HaveFound q (map (pack_plan_of o) hs) → Among h hs →
    codec_for q h.bitpix ≡ codec_for o h.bitpix
same_codec o q h hs found among = by_width (int_eq h.bitpix (pos 64)) refl
  where
    by_width : (long : Bool) → int_eq h.bitpix (pos 64) ≡ long →
        (if long then Plain else asked_codec q.codec q.block h.bitpix) ≡ (if long then Plain else asked_codec o.codec o.block h.bitpix)
    by_width true is = refl
    by_width false is =
        (λ i. asked_codec (found.codec i) (found.block i) h.bitpix)
        ∙ asked_again o (codec_found (map (pack_plan_of o) hs)) h.bitpix (found_codec o h hs among is)

same_tile : (o q : PackOptions) (h : Header) (hs : List Header) → HaveFound q (map (pack_plan_of o) hs) → Among h hs → is_packable h ≡ true →
    tile_by q h ≡ tile_by o h
same_tile o q h hs found among packable =
    ap (λ t. cut_tile (lengths_of h.axes) (asked_tile t (lengths_of h.axes))) found.tile ∙ found_tile o h hs among (packable_axes h packable)

same_plan : (o q : PackOptions) (h : Header) → codec_for q h.bitpix ≡ codec_for o h.bitpix → tile_by q h ≡ tile_by o h → pack_plan_of q h ≡ pack_plan_of o h
unfolding pack_plan_of
same_plan o q h codec tile = λ i. record {
  codec = codec i;
  bitpix = h.bitpix;
  shape = h.axes;
  tile = nine_axes (tile i);
  primary = is_primary h.sort;
  wide = is_wide h.bitpix (lengths_of h.axes);
}

-- ---- a strict file

-- what is known of a file that was packed by some options
pub record IsKnown (o : PackOptions) (file : List ℕ) (source : List ℕ) : Type 0 where
  pub hs : List Header
  pub found : IsFound o source hs
  pub plans : map (plan_in file) (images_in file) ≡ map (pack_plan_of o) (filter is_packable hs)
  pub sums : AllByRecursion (λ h. sums_in file h ≡ o.sums) (images_in file)

pub is_known : StrictLaws → (o : PackOptions) (file : List ℕ) (is : IsStrictBy o file) → IsKnown o file is.restored
is_known laws o file is =
    let found = is_found laws.walks o is.restored is.taken.sound in
    let walked = is_walked laws.walks file is.stands.sound in
    let packed : IsPacked o is.restored file = record { taken = is.taken; packed = is.packed; few = walked.few } in
    let all : List Header = standing file (headers_for Unpack file) in
    let become : Become o is.restored found.0 file all =
    subst (λ hs. Become o is.restored hs file all) found.1.headers (laws.become o is.restored file packed) in
    record {
      hs = found.0;
      found = found.1;
      plans = subst (λ l. map (plan_in file) l ≡ map (pack_plan_of o) (filter is_packable found.0)) walked.images
          (plans laws.tables o is.restored file found.0 all become);
      sums = subst (λ l. AllByRecursion (λ h. sums_in file h ≡ o.sums) l) walked.images (sums laws.tables o is.restored file found.0 all become);
    }

-- the options that are found
have_found : (file : List ℕ) → HaveFound (found_options file) (map (plan_in file) (images_in file))
unfolding found_options
have_found file = record { codec = refl; block = refl; tile = refl }

found_sums : (file : List ℕ) → (found_options file).sums ≡ sums_found file (images_in file)
unfolding found_options
found_sums file = refl

-- make the same of each image that can be packed
pub same_for : (o : PackOptions) (file source : List ℕ) (known : IsKnown o file source) (h : Header) → Among h (filter is_packable known.hs) →
    is_packable h ≡ true →
    MakeTheSame o (found_options file) h
same_for o file source known h among packable =
    let q : PackOptions = found_options file in
    let images : List Header = filter is_packable known.hs in
    let found : HaveFound q (map (pack_plan_of o) images) = subst (HaveFound q) known.plans (have_found file) in
    record {
      plan = same_plan o q h (same_codec o q h images found among) (same_tile o q h images found among packable);
      sums = found_sums file ∙ sums_are o file h (images_in file) images known.plans known.sums among;
    }

strict_by_found : StrictLaws → (o : PackOptions) (file : List ℕ) → IsStrictBy o file → IsStrictBy (found_options file) file
strict_by_found laws o file is =
    let q : PackOptions = found_options file in
    let known = is_known laws o file is in
    let same : AllByRecursion (AreSameFor o q) known.hs =
    each_among (AreSameFor o q) known.hs (λ h among packable. same_for o file is.restored known h (filter_among h known.hs among packable) packable) in
    record {
      restored = is.restored;
      stands = is.stands;
      taken = same_taken laws.walks o q is.restored known.hs known.found same (laws.allowed file is.stands.sound) is.taken;
      packed = same_file laws.walks o q is.restored file known.hs known.found same is.packed;
    }

pub found_options_do : StrictLaws → FoundOptionsDo
found_options_do laws file = ((λ is. strict_by_found laws is.options file is.strict), (λ is. record { options = found_options file; strict = is }))
