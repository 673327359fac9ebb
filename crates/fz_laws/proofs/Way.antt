-- The way there and back.
use Rattle.std.proofs.Common.{◌≡◌, ℕ, ◌+◌, ◌^◌, ◌<◌, ◌≤◌, Bool, true, false, List, [], ◌∷◌, ◌++◌, length, map, Option, Some, None, Result, Ok, Err, if◌then◌else◌, refl, sym, subst, ◌∙◌, ap, arith}
use Rattle.std.proofs.lemmas.List.{length-map}
use Rattle.std.specs.List.{flat_map}
use Rattle.fz_base.specs.declared.fault.Fault.{Fault}
use Rattle.fz_block.specs.Checks.{headers_of, walk_of}
use Rattle.fz_block.specs.Hdus.{Hdu, hdu_bytes}
use Rattle.fz_block.specs.Walk.{PassFrom, facts_from, hdu_of}
use Rattle.fz_block.specs.declared.header.Header.{Header}
use Rattle.fz_checks.specs.Judges.{pack_judge, unpack_judge}
use Rattle.fz_head.specs.Packable.{is_packable}
use Rattle.fz_head.specs.declared.options.PackOptions.{PackOptions}
use Rattle.fz_files.specs.declared.job.Job.{Job}
use Rattle.fz_files.specs.declared.job.Job.TheVariants.{Pack, Unpack}
use Rattle.fz_files.specs.FirstFault.{IsFaultBehind, IsFirstRowFault, all_rows}
use Rattle.fz_files.specs.Laws.{table_hdu}
use Rattle.fz_files.specs.Packed.{IsPackedFile, packed_file}
use Rattle.fz_files.specs.Restored.{HdusStandFor, standing}
use Rattle.fz_files.specs.StandsFor.{IsProfileFile, StandsFor}
use Rattle.fz_files.specs.Walks.{fault_of_walk, found_headers, header_fault, job_walk}
use Rattle.fz_laws.specs.RoundTrip.{PackedIsFound}
use Rattle.fz_laws.specs.RoundTripTaken.{PassingLaws, TableLaws, WalkLaws}
use Rattle.fz_laws.proofs.Outs.{empty_hdu, out_of, outs, outs_are}
use Rattle.fz_laws.proofs.Passing.{outs_pass}
use Rattle.fz_laws.proofs.Sources.{AreSources, never_stops, sources}
use Rattle.fz_laws.proofs.Standing.{Stands, outs_stand, unpack_never_stops}

-- ---- the file that is packed

pub no_header_fault : (refused : Option Fault) (job : Job) (file : List ℕ) → IsFaultBehind refused job file None → refused ≡ None
no_header_fault None job file is = refl
no_header_fault (Some fault) job file is = absurd cc

pub found_walk : (job : Job) (file : List ℕ) (found : Result (List Header) Fault) → fault_of_walk job file found ≡ None → (hs : List Header) × (found ≡ Ok hs)
found_walk job file (Ok hs) none = (hs, refl)
found_walk job file (Err fault) none = absurd cc

pub pack_walk : (o : PackOptions) (file : List ℕ) → header_fault (Pack o) file ≡ None → (hs : List Header) × (walk_of (pack_judge o file) 65535 file ≡ Ok hs)
unfolding job_walk
pack_walk o file none = found_walk (Pack o) file (walk_of (pack_judge o file) 65535 file) none

-- ---- the packed file

outs_count : (o : PackOptions) (file : List ℕ) (h : Header) (hs : List Header) → (0 < length (outs o file h hs)) × (length (outs o file h hs) ≤ length hs + 2)
outs_count o file h hs = by_test (is_packable h)
  where
    first : Bool → List Hdu
    first packable = if packable then empty_hdu ∷ table_hdu o file h ∷ [] else hdu_of file h ∷ []

    by_test : (packable : Bool) → (0 < length (first packable ++ map (out_of o file) hs)) × (length (first packable ++ map (out_of o file) hs) ≤ length hs + 2)
    by_test true = let count : length (map (out_of o file) hs) ≡ length hs = length-map hs (out_of o file) in (omega arith, omega (arith, count))
    by_test false = let count : length (map (out_of o file) hs) ≡ length hs = length-map hs (out_of o file) in (omega arith, omega (arith, count))

-- its HDUs stand for the file
stands_by : (bytes file : List ℕ) (fs : List Header) → walk_of (unpack_judge bytes) 65536 bytes ≡ Ok fs → Stands bytes file fs → StandsFor bytes file
unfolding job_walk
stands_by bytes file fs walk stands =
    let none : header_fault Unpack bytes ≡ None = ap (fault_of_walk Unpack bytes) walk in
    record {
      sound =
          subst (λ r. IsFaultBehind r Unpack bytes None) (sym none)
          (subst (λ r. IsFirstRowFault bytes (all_rows bytes (found_headers r)) None) (sym walk) stands.rows);
      parts = subst (λ r. HdusStandFor bytes (standing bytes (found_headers r)) file) (sym walk) stands.parts;
    }

-- what is known of the HDUs of the packed file
pub record AreFound (o : PackOptions) (file bytes : List ℕ) (h : Header) (hs : List Header) : Type 0 where
  pub sources : AreSources o file 0 (h ∷ hs)
  pub here : map (hdu_of bytes) (facts_from 0 0 (outs o file h hs)) ≡ outs o file h hs
  pub all : headers_of 65536 bytes ≡ Ok (facts_from 0 0 (outs o file h hs))
  pub walk : walk_of (unpack_judge bytes) 65536 bytes ≡ Ok (facts_from 0 0 (outs o file h hs))
  pub stands : Stands bytes (flat_map hdu_bytes (map (hdu_of file) (h ∷ hs))) (facts_from 0 0 (outs o file h hs))

pub are_found : PassingLaws → TableLaws → WalkLaws → (o : PackOptions) (file bytes : List ℕ) (h : Header) (hs : List Header) → IsProfileFile o file →
    walk_of (pack_judge o file) 65535 file ≡ Ok (h ∷ hs) → bytes ≡ packed_file o (map (hdu_of file) (h ∷ hs)) → length bytes ≤ 2 ^ 62 → AreFound o file bytes h hs
are_found p l w o file bytes h hs is walk made few =
    let found = w.headers (pack_judge o file) 65535 file (h ∷ hs) walk in
    let are : AreSources o file 0 (h ∷ hs) = sources o file 0 0 found.3.0 0 (h ∷ hs) found.3.2 (w.pass (pack_judge o file) 65535 file (h ∷ hs) walk) found.2 in
    let same : flat_map hdu_bytes (outs o file h hs) ≡ bytes = sym (outs_are o file h hs are) ∙ sym made in
    let number : length (h ∷ hs) ≤ 65535 = found.1 in
    let count = outs_count o file h hs in
    let within : length (flat_map hdu_bytes (outs o file h hs)) ≤ length bytes = subst (λ b. length (flat_map hdu_bytes (outs o file h hs)) ≤ length b) same (le_self (length (flat_map hdu_bytes (outs o file h hs)))) in
    let pass : PassFrom 0 0 (length bytes) (outs o file h hs) = outs_pass p o file (length bytes) h hs is.options is.bytes are number within few in
    let again = w.walk 65536 bytes (outs o file h hs) same count.0 (omega (arith, count.1, number)) pass in
    let stands : Stands bytes (flat_map hdu_bytes (map (hdu_of file) (h ∷ hs))) (facts_from 0 0 (outs o file h hs)) = outs_stand l o file bytes h hs is.options is.bytes are (sym same) again.1 in
    record {
      sources = are;
      here = again.1;
      all = again.0;
      walk = w.judged (unpack_judge bytes) 65536 bytes (facts_from 0 0 (outs o file h hs)) again.0 stands.none (unpack_never_stops bytes (facts_from 0 0 (outs o file h hs)));
      stands = stands;
    }
  where
    le_self : (n : ℕ) → n ≤ n
    le_self n = omega arith

comes_back_from : PassingLaws → TableLaws → WalkLaws → (o : PackOptions) (file bytes : List ℕ) (hs : List Header) → IsProfileFile o file → walk_of (pack_judge o file) 65535 file ≡ Ok hs →
    bytes ≡ packed_file o (map (hdu_of file) hs) → flat_map hdu_bytes (map (hdu_of file) hs) ≡ file → length bytes ≤ 2 ^ 62 → StandsFor bytes file
comes_back_from p l w o file bytes [] is walk made parts few = let some : 0 < 0 = (w.headers (pack_judge o file) 65535 file [] walk).0 in absurd omega (arith, some)
comes_back_from p l w o file bytes (h ∷ hs) is walk made parts few =
    let found = are_found p l w o file bytes h hs is walk made few in
    subst (λ f. StandsFor bytes f) parts (stands_by bytes (flat_map hdu_bytes (map (hdu_of file) (h ∷ hs))) (facts_from 0 0 (outs o file h hs)) found.walk found.stands)

pub comes_back : PassingLaws → TableLaws → WalkLaws → (o : PackOptions) (file bytes : List ℕ) → IsProfileFile o file → IsPackedFile o file bytes → length bytes ≤ 2 ^ 62 → StandsFor bytes file
comes_back p l w o file bytes is packed few =
    let walk = pack_walk o file (no_header_fault (header_fault (Pack o) file) (Pack o) file is.sound) in
    let whole : headers_of 65535 file ≡ Ok walk.0 = w.whole (pack_judge o file) 65535 file walk.0 walk.1 (never_stops o file walk.0) in
    let same : packed.hdus ≡ map (hdu_of file) walk.0 = w.converse 65535 file walk.0 packed.hdus whole packed.parts in
    comes_back_from p l w o file bytes walk.0 is walk.1 (packed.packed ∙ ap (packed_file o) same) (ap (flat_map hdu_bytes) (sym same) ∙ packed.parts.parts) few

found_from : PassingLaws → TableLaws → WalkLaws → (o : PackOptions) (file bytes : List ℕ) (hs : List Header) → IsProfileFile o file → walk_of (pack_judge o file) 65535 file ≡ Ok hs →
    bytes ≡ packed_file o (map (hdu_of file) hs) → length bytes ≤ 2 ^ 62 → (fs : List Header) × (headers_of 65536 bytes ≡ Ok fs)
found_from p l w o file bytes [] is walk made few = let some : 0 < 0 = (w.headers (pack_judge o file) 65535 file [] walk).0 in absurd omega (arith, some)
found_from p l w o file bytes (h ∷ hs) is walk made few = (facts_from 0 0 (outs o file h hs), (are_found p l w o file bytes h hs is walk made few).all)

pub packed_is_found : PassingLaws → TableLaws → WalkLaws → PackedIsFound
packed_is_found p l w o file bytes is =
    let walk = pack_walk o file (no_header_fault (header_fault (Pack o) file) (Pack o) file is.taken.sound) in
    let whole : headers_of 65535 file ≡ Ok walk.0 = w.whole (pack_judge o file) 65535 file walk.0 walk.1 (never_stops o file walk.0) in
    let same : is.packed.hdus ≡ map (hdu_of file) walk.0 = w.converse 65535 file walk.0 is.packed.hdus whole is.packed.parts in
    found_from p l w o file bytes walk.0 is.taken walk.1 (is.packed.packed ∙ ap (packed_file o) same) is.few
