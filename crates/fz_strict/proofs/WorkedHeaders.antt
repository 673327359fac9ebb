-- The headers of a file whose HDUs are written out.
use Rattle.std.proofs.Common.{◌≡◌, ℕ, ◌<◌, ◌≤◌, ◌&&◌, Bool, true, false, cond, List, [], ◌∷◌, length, map, None, Ok, refl, sym, subst, ◌∙◌, ap, arith}
use Rattle.std.proofs.lemmas.List.{length-map}
use Rattle.std.specs.List.{filter, flat_map, list_all}
use Rattle.fz_block.specs.Checks.{headers_of}
use Rattle.fz_block.specs.Hdus.{AreHdusOf, Hdu, hdu_bytes}
use Rattle.fz_block.specs.Walk.{PassFrom, facts_from, hdu_of}
use Rattle.fz_block.specs.declared.header.Header.{Header}
use Rattle.fz_checks.specs.Judges.{unpack_judge}
use Rattle.fz_files.specs.FirstFault.{IsFirstFault}
use Rattle.fz_files.specs.Restored.{is_image, plan_in}
use Rattle.fz_files.specs.Walks.{header_fault, headers_for}
use Rattle.fz_files.specs.declared.job.Job.TheVariants.{Unpack}
use Rattle.fz_strict.specs.FoundOptions.{found_options, images_agree, images_in, is_image_by, is_plan_by, is_same_flag, options_of, sums_in}
use Rattle.fz_strict.proofs.HeadersRead.{never_stops, one_answer, unpack_headers, unpack_walk}
use Rattle.fz_strict.specs.Taken.{WalkLaws}
use Rattle.fz_strict.proofs.Same.{no_header_fault}

-- what is taken of the law of HDUs that pass
abbrev pub PassingWalk : Type 0
PassingWalk =
    (most : ℕ) (file : List ℕ) (hs : List Hdu) → flat_map hdu_bytes hs ≡ file → 0 < length hs → length hs ≤ most → PassFrom 0 0 (length file) hs →
    (headers_of most file ≡ Ok (facts_from 0 0 hs)) × (map (hdu_of file) (facts_from 0 0 hs) ≡ hs)

pub headers_in : WalkLaws → PassingWalk → (file : List ℕ) (ds : List Hdu) → AreHdusOf file ds → IsFirstFault Unpack file None →
    (headers_for Unpack file ≡ facts_from 0 0 ds) × (map (hdu_of file) (facts_from 0 0 ds) ≡ ds)
headers_in w passing file ds are sound =
    let walk = unpack_walk file (no_header_fault (header_fault Unpack file) Unpack file sound) in
    let hs : List Header = walk.0 in
    let counts = w.headers (unpack_judge file) 65536 file hs walk.1 in
    let all : headers_of 65536 file ≡ Ok hs = w.whole (unpack_judge file) 65536 file hs walk.1 (never_stops file hs) in
    let these : ds ≡ map (hdu_of file) hs = w.converse 65536 file hs ds all are in
    let count : length ds ≡ length hs = ap length these ∙ length-map hs (hdu_of file) in
    let some : 0 < length ds = let more = counts.0 in omega (arith, count, more) in
    let few : length ds ≤ 65536 = let most = counts.1 in omega (arith, count, most) in
    let pass : PassFrom 0 0 (length file) ds = subst (PassFrom 0 0 (length file)) (sym these) (w.pass (unpack_judge file) 65536 file hs walk.1) in
    let again = passing 65536 file ds are.parts some few pass in
    (unpack_headers file hs walk.1 ∙ one_answer (headers_of 65536 file) hs (facts_from 0 0 ds) all again.0, again.1)

-- a primary without an image, and tables behind it
pub images_behind : (file : List ℕ) (e f : Header) → headers_for Unpack file ≡ e ∷ f ∷ [] → is_image file e ≡ false → is_image file f ≡ true →
    images_in file ≡ f ∷ []
images_behind file e f headers none image =
    ap (filter (is_image file)) headers ∙ (λ i. cond (none i) (e ∷ cond (image i) (f ∷ []) []) (cond (image i) (f ∷ []) []))

pub both_behind : (file : List ℕ) (e f g : Header) → headers_for Unpack file ≡ e ∷ f ∷ g ∷ [] → is_image file e ≡ false → is_image file f ≡ true →
    is_image file g ≡ true →
    images_in file ≡ f ∷ g ∷ []
both_behind file e f g headers none image other =
    ap (filter (is_image file)) headers
    ∙ (λ i. cond (none i) (e ∷ cond (image i) (f ∷ cond (other i) (g ∷ []) []) (cond (other i) (g ∷ []) []))
    (cond (image i) (f ∷ cond (other i) (g ∷ []) []) (cond (other i) (g ∷ []) [])))

-- sums in the first of two images only
found_first : (file : List ℕ) (f g : Header) → images_in file ≡ f ∷ g ∷ [] → (found_options file).sums ≡ sums_in file f
unfolding found_options
found_first file f g images = ap (λ hs. (options_of file hs).sums) images

pub sums_differ : (file : List ℕ) (f g : Header) → images_in file ≡ f ∷ g ∷ [] → sums_in file f ≡ true → sums_in file g ≡ false → images_agree file ≡ false
unfolding images_agree
sums_differ file f g images has none =
    let q = found_options file in
    let asked : q.sums ≡ true = found_first file f g images ∙ has in
    ap (list_all (is_image_by q file)) images
    ∙ (λ i. is_image_by q file f && ((is_plan_by q (plan_in file g) && is_same_flag (none i) (asked i)) && true))
    ∙ last (is_image_by q file f) (is_plan_by q (plan_in file g))
  where
    last : (a b : Bool) → (a && ((b && false) && true)) ≡ false
    last true true = refl
    last true false = refl
    last false b = refl
