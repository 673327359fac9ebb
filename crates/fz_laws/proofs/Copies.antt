-- What does not matter to a packed file, and files that are copied as they are.
use Rattle.std.proofs.Common.{◌≡◌, ℕ, suc, ◌&&◌, ◌||◌, false, List, [], ◌∷◌, ◌++◌, map, Ok, if◌then◌else◌, refl, sym, subst, ap, ◌∙◌}
use Rattle.std.specs.List.{flat_map, list_any}
use Rattle.fz_block.specs.Checks.{Judge, headers_of, walk_of}
use Rattle.fz_block.specs.Facts.{facts_of}
use Rattle.fz_block.specs.Hdus.{AreHdusOf, Hdu, cards_of, hdu_bytes}
use Rattle.fz_block.specs.Walk.{hdu_of, stops}
use Rattle.fz_block.specs.declared.header.Header.{Header}
use Rattle.fz_checks.specs.Judges.{unpack_judge}
use Rattle.fz_head.specs.Packable.{is_packable}
use Rattle.fz_head.specs.PlainHeader.{was_primary}
use Rattle.fz_head.specs.Planned.{pack_plan_of}
use Rattle.fz_head.specs.declared.options.PackOptions.{PackOptions}
use Rattle.fz_files.specs.Packed.{before_table, packed_from, packed_hdu, packed_image}
use Rattle.fz_files.specs.Restored.{HduStandsFor, HdusStandFor, StandsForAs, header_in, is_image, standing}
use Rattle.fz_files.specs.Walks.{found_headers, header_fault, job_walk}
use Rattle.fz_files.specs.declared.job.Job.TheVariants.{Unpack}
use Rattle.fz_laws.specs.RoundTrip.{NoneIsPackable, PackCopies, UnpackCopies, WorkersDoNotMatter, with_workers}
use Rattle.fz_laws.proofs.Standing.{unpack_never_stops}
use Rattle.fz_laws.proofs.Tests.{or_false}
use Rattle.fz_laws.proofs.Way.{found_walk, no_header_fault}

-- ---- workers

plan_same : (o : PackOptions) (n : ℕ) (h : Header) → pack_plan_of o h ≡ pack_plan_of (with_workers n o) h
unfolding pack_plan_of
plan_same o n h = refl

hdu_same : (o : PackOptions) (n k : ℕ) (h : Hdu) → packed_hdu o k h ≡ packed_hdu (with_workers n o) k h
hdu_same o n k h =
    ap (λ p. if is_packable (facts_of k 0 h.header) then before_table k ++ packed_image o.sums p h else hdu_bytes h) (plan_same o n (facts_of k 0 h.header))

file_same : (o : PackOptions) (n k : ℕ) (hs : List Hdu) → packed_from o k hs ≡ packed_from (with_workers n o) k hs
unfolding packed_from
file_same o n k [] = refl
file_same o n k (h ∷ hs) = λ i. hdu_same o n k h i ++ file_same o n (suc k) hs i

pub workers_do_not_matter : WorkersDoNotMatter
workers_do_not_matter o n file bytes = (
  λ is. record { hdus = is.hdus; parts = is.parts; packed = is.packed ∙ file_same o n 0 is.hdus },
  λ is. record { hdus = is.hdus; parts = is.parts; packed = is.packed ∙ sym (file_same o n 0 is.hdus) },
)

-- ---- nothing is packed

hdu_copied : (o : PackOptions) (k : ℕ) (h : Hdu) → is_packable (facts_of k 0 h.header) ≡ false → packed_hdu o k h ≡ hdu_bytes h
hdu_copied o k h none = ap (λ b. if b then before_table k ++ packed_image o.sums (pack_plan_of o (facts_of k 0 h.header)) h else hdu_bytes h) none

all_copied : (o : PackOptions) (k : ℕ) (hs : List Hdu) → NoneIsPackable k hs → packed_from o k hs ≡ flat_map hdu_bytes hs
unfolding packed_from
all_copied o k [] none = refl
all_copied o k (h ∷ hs) none = λ i. hdu_copied o k h none.0 i ++ all_copied o (suc k) hs none.1 i

pub pack_copies : PackCopies
pack_copies o file hdus parts none = record { hdus = hdus; parts = parts; packed = sym (all_copied o 0 hdus none ∙ parts.parts) }

-- ---- nothing is unpacked

-- what is taken of the laws of walks and of lists of HDUs
pub record CopyLaws : Type 0 where
  pub whole : (judge : Judge) (most : ℕ) (file : List ℕ) (hs : List Header) → walk_of judge most file ≡ Ok hs → stops judge hs ≡ false → headers_of most file ≡ Ok hs
  pub walk : (most : ℕ) (file : List ℕ) (hs : List Header) → headers_of most file ≡ Ok hs → AreHdusOf file (map (hdu_of file) hs)

all_standing : (file : List ℕ) (hs : List Header) → list_any (is_image file) hs ≡ false → standing file hs ≡ hs
all_standing file [] none = refl
all_standing file (h ∷ []) none = refl
all_standing file (h ∷ (k ∷ hs)) none =
    let later = or_false (is_image file h) (is_image file k || list_any (is_image file) hs) none in
    let next = or_false (is_image file k) (list_any (is_image file) hs) later.1 in
    ap (λ b. if b && was_primary (cards_of (header_in file k)) then k ∷ hs else h ∷ k ∷ hs) next.0

stand_as_they_are : (file : List ℕ) (hs : List Header) → list_any (is_image file) hs ≡ false → HdusStandFor file hs (flat_map hdu_bytes (map (hdu_of file) hs))
stand_as_they_are file [] none = refl
stand_as_they_are file (h ∷ hs) none =
    let both = or_false (is_image file h) (list_any (is_image file) hs) none in
    let here : HduStandsFor file h (hdu_bytes (hdu_of file h)) = subst (λ b. StandsForAs b file h (hdu_bytes (hdu_of file h))) (sym both.0) refl in
    (hdu_bytes (hdu_of file h), flat_map hdu_bytes (map (hdu_of file) hs), refl, here, stand_as_they_are file hs both.1)

copied : CopyLaws → (file : List ℕ) (hs : List Header) → walk_of (unpack_judge file) 65536 file ≡ Ok hs → list_any (is_image file) hs ≡ false → HdusStandFor file (standing file hs) file
copied laws file hs walk none =
    let all = laws.walk 65536 file hs (laws.whole (unpack_judge file) 65536 file hs walk (unpack_never_stops file hs)) in
    subst (λ l. HdusStandFor file l file) (sym (all_standing file hs none)) (subst (λ b. HdusStandFor file hs b) all.parts (stand_as_they_are file hs none))

pub unpack_copies : CopyLaws → UnpackCopies
unfolding job_walk
unpack_copies laws file sound none =
    let walk = found_walk Unpack file (walk_of (unpack_judge file) 65536 file) (no_header_fault (header_fault Unpack file) Unpack file sound) in
    let these : list_any (is_image file) walk.0 ≡ false = subst (λ r. list_any (is_image file) (found_headers r) ≡ false) walk.1 none in
    record { sound = sound; parts = subst (λ r. HdusStandFor file (standing file (found_headers r)) file) (sym walk.1) (copied laws file walk.0 walk.1 these) }
