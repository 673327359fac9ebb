-- Both sums of each table of a packed file are right, where the options ask for sums.
use Rattle.std.specs.Prelude.{All}
use Rattle.std.proofs.Common.{◌≡◌, ℕ, suc, ◌+◌, ◌<◌, ◌≤◌, ◌^◌, Bool, true, false, List, [], ◌∷◌, ◌++◌, length, map, Ok, if◌then◌else◌, refl, sym, subst, ap, ◌∙◌, arith}
use Rattle.std.specs.List.{AllByRecursion}
use Rattle.std.proofs.lemmas.List.Elements.{All-from_recursion}
use Rattle.fz_block.specs.Checks.{headers_of, walk_of}
use Rattle.fz_block.specs.Facts.{facts_of}
use Rattle.fz_block.specs.Hdus.{Hdu, cards_of, hdu_bytes}
use Rattle.fz_block.specs.Walk.{facts_from, hdu_of}
use Rattle.fz_block.specs.declared.header.Header.{Header}
use Rattle.fz_sum.specs.Verdicts.{checksum_verdict, datasum_verdict}
use Rattle.fz_sum.specs.declared.verdicts.Verdict.TheVariants.{Right}
use Rattle.fz_tile.specs.Plain.{AreBytes}
use Rattle.fz_checks.specs.Judges.{pack_judge, unpack_judge}
use Rattle.fz_head.specs.Packable.{is_packable}
use Rattle.fz_head.specs.Planned.{AreOptions}
use Rattle.fz_head.specs.declared.options.PackOptions.{PackOptions}
use Rattle.fz_files.specs.Laws.{IsTaken, table_hdu}
use Rattle.fz_files.specs.Packed.{packed_file}
use Rattle.fz_files.specs.Restored.{is_image}
use Rattle.fz_files.specs.Walks.{found_headers, header_fault, job_walk}
use Rattle.fz_files.specs.declared.job.Job.TheVariants.{Pack}
use Rattle.fz_files.specs.StandsFor.{IsProfileFile}
use Rattle.fz_laws.specs.RoundTrip.{AreRightSums, SumsAreRight}
use Rattle.fz_laws.specs.RoundTripTaken.{PassingLaws, SumLaws, TableLaws, WalkLaws}
use Rattle.fz_laws.proofs.Outs.{empty_hdu, out_of, outs}
use Rattle.fz_laws.proofs.Passing.{copied_packed}
use Rattle.fz_laws.proofs.Sources.{AreSources, IsSource, never_stops, taken}
use Rattle.fz_laws.proofs.Standing.{IsOut, copied_facts, out_here, primary_image, tail_same}
use Rattle.fz_laws.proofs.Sums.{table_right}
use Rattle.fz_laws.proofs.Way.{are_found, no_header_fault, pack_walk}

table_is_right : SumLaws → (o : PackOptions) (file bytes : List ℕ) (j start : ℕ) (h f : Header) → o.sums ≡ true → IsTaken o file h → IsOut bytes j start (table_hdu o file h) f → AreRightSums bytes f
table_is_right laws o file bytes j start h f sums is out packed =
    subst (λ (d : Hdu). (datasum_verdict (cards_of d.header) d.payload ≡ Right) × (checksum_verdict (cards_of d.header) d.header d.payload ≡ Right)) (sym out.here) (table_right laws o file h is sums)

not_image : (bytes : List ℕ) (f : Header) → is_image bytes f ≡ false → AreRightSums bytes f
not_image bytes f none packed = absurd (let clash : true ≡ false = sym packed ∙ none in cc)

later_is_right : SumLaws → (o : PackOptions) (file bytes : List ℕ) (k j start : ℕ) (h f : Header) → AreOptions o → AreBytes file → o.sums ≡ true → IsSource o file (suc k) h →
    IsOut bytes j start (out_of o file h) f → AreRightSums bytes f
later_is_right laws o file bytes k j start h f options all sums s out = by_test (is_packable h) refl out
  where
    by_test : (packable : Bool) → is_packable h ≡ packable → IsOut bytes j start (if packable then table_hdu o file h else hdu_of file h) f → AreRightSums bytes f
    by_test true is out = table_is_right laws o file bytes j start h f sums (taken o file (suc k) h options all s is) out
    by_test false is out = not_image bytes f (copied_packed (hdu_of bytes f).header f (copied_facts o file bytes k j start h f s out))

later_are_right : SumLaws → (o : PackOptions) (file bytes : List ℕ) (k j start : ℕ) (hs : List Header) → AreOptions o → AreBytes file → o.sums ≡ true → AreSources o file (suc k) hs →
    map (hdu_of bytes) (facts_from (suc j) start (map (out_of o file) hs)) ≡ map (out_of o file) hs → AllByRecursion (AreRightSums bytes) (facts_from (suc j) start (map (out_of o file) hs))
later_are_right laws o file bytes k j start [] options all sums are here = tt
later_are_right laws o file bytes k j start (h ∷ hs) options all sums are here =
    let d : Hdu = out_of o file h in
    let rest : List Hdu = map (hdu_of bytes) (facts_from (suc (suc j)) (start + length (hdu_bytes d)) (map (out_of o file) hs)) in (
      later_is_right laws o file bytes k j start h (facts_of (suc j) start d.header) options all sums are.0 (out_here bytes j start d rest (map (out_of o file) hs) here),
      later_are_right laws o file bytes (suc k) (suc j) (start + length (hdu_bytes d)) hs options all sums are.1
          (tail_same (hdu_of bytes (facts_of (suc j) start d.header)) d rest (map (out_of o file) hs) here),
    )

outs_are_right : SumLaws → (o : PackOptions) (file bytes : List ℕ) (h : Header) (hs : List Header) → AreOptions o → AreBytes file → o.sums ≡ true → AreSources o file 0 (h ∷ hs) →
    map (hdu_of bytes) (facts_from 0 0 (outs o file h hs)) ≡ outs o file h hs → AllByRecursion (AreRightSums bytes) (facts_from 0 0 (outs o file h hs))
outs_are_right laws o file bytes h hs options all sums are here = by_test (is_packable h) refl here
  where
    first : Bool → List Hdu
    first packable = (if packable then empty_hdu ∷ table_hdu o file h ∷ [] else hdu_of file h ∷ []) ++ map (out_of o file) hs

    by_test : (packable : Bool) → is_packable h ≡ packable → map (hdu_of bytes) (facts_from 0 0 (first packable)) ≡ first packable → AllByRecursion (AreRightSums bytes) (facts_from 0 0 (first packable))
    by_test true is here =
        let d : Hdu = table_hdu o file h in
        let e : Header = facts_of 0 0 empty_hdu.header in
        let start : ℕ = 0 + length (hdu_bytes empty_hdu) in
        let f : Header = facts_of 1 start d.header in
        let fs : List Header = facts_from 2 (start + length (hdu_bytes d)) (map (out_of o file) hs) in
        let behind : map (hdu_of bytes) (f ∷ fs) ≡ d ∷ map (out_of o file) hs =
        tail_same (hdu_of bytes e) empty_hdu (map (hdu_of bytes) (f ∷ fs)) (d ∷ map (out_of o file) hs) here in
        let rest : map (hdu_of bytes) fs ≡ map (out_of o file) hs = tail_same (hdu_of bytes f) d (map (hdu_of bytes) fs) (map (out_of o file) hs) behind in (
          not_image bytes e (primary_image bytes e refl),
          (
            table_is_right laws o file bytes 0 start h f sums (taken o file 0 h options all are.0 is) (out_here bytes 0 start d (map (hdu_of bytes) fs) (map (out_of o file) hs) behind),
            later_are_right laws o file bytes 0 1 (start + length (hdu_bytes d)) hs options all sums are.1 rest,
          ),
        )
    by_test false is here =
        let d : Hdu = hdu_of file h in
        let f : Header = facts_of 0 0 d.header in
        let fs : List Header = facts_from 1 (0 + length (hdu_bytes d)) (map (out_of o file) hs) in
        let rest : map (hdu_of bytes) fs ≡ map (out_of o file) hs = tail_same (hdu_of bytes f) d (map (hdu_of bytes) fs) (map (out_of o file) hs) here in
        (not_image bytes f (primary_image bytes f refl), later_are_right laws o file bytes 0 0 (0 + length (hdu_bytes d)) hs options all sums are.1 rest)

-- ---- the file

right_from : PassingLaws → TableLaws → WalkLaws → SumLaws → (o : PackOptions) (file bytes : List ℕ) (hs : List Header) → IsProfileFile o file → walk_of (pack_judge o file) 65535 file ≡ Ok hs →
    bytes ≡ packed_file o (map (hdu_of file) hs) → length bytes ≤ 2 ^ 62 → o.sums ≡ true → (fs : List Header) × (walk_of (unpack_judge bytes) 65536 bytes ≡ Ok fs) × AllByRecursion (AreRightSums bytes) fs
right_from p l w laws o file bytes [] is walk made few sums = let some : 0 < 0 = (w.headers (pack_judge o file) 65535 file [] walk).0 in absurd omega (arith, some)
right_from p l w laws o file bytes (h ∷ hs) is walk made few sums =
    let found = are_found p l w o file bytes h hs is walk made few in
    (facts_from 0 0 (outs o file h hs), found.walk, outs_are_right laws o file bytes h hs is.options is.bytes sums found.sources found.here)

pub sums_are_right : PassingLaws → TableLaws → WalkLaws → SumLaws → SumsAreRight
unfolding job_walk
sums_are_right p l w laws o file bytes is sums =
    let walk = pack_walk o file (no_header_fault (header_fault (Pack o) file) (Pack o) file is.taken.sound) in
    let whole : headers_of 65535 file ≡ Ok walk.0 = w.whole (pack_judge o file) 65535 file walk.0 walk.1 (never_stops o file walk.0) in
    let same : is.packed.hdus ≡ map (hdu_of file) walk.0 = w.converse 65535 file walk.0 is.packed.hdus whole is.packed.parts in
    let right = right_from p l w laws o file bytes walk.0 is.taken walk.1 (is.packed.packed ∙ ap (packed_file o) same) is.few sums in
    subst (λ r. All (AreRightSums bytes) (found_headers r)) (sym right.1) (All-from_recursion (AreRightSums bytes) right.0 right.2)
