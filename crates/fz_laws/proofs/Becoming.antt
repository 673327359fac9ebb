-- What becomes of the HDUs of a file in its packed file.
use Rattle.std.proofs.Common.{◌≡◌, ℕ, suc, ◌+◌, ◌<◌, ◌≤◌, ◌^◌, Bool, true, false, List, [], ◌∷◌, ◌++◌, length, map, Ok, if◌then◌else◌, refl, sym, subst, ◌∙◌, ap, arith}
use Rattle.fz_block.specs.Checks.{headers_of, walk_of}
use Rattle.fz_block.specs.Facts.{facts_of}
use Rattle.fz_block.specs.Hdus.{Hdu, hdu_bytes}
use Rattle.fz_block.specs.Walk.{facts_from, hdu_of}
use Rattle.fz_block.specs.declared.header.Header.{Header}
use Rattle.fz_tile.specs.Plain.{AreBytes}
use Rattle.fz_checks.specs.Judges.{pack_judge}
use Rattle.fz_head.specs.Packable.{is_packable, is_primary}
use Rattle.fz_head.specs.Planned.{AreOptions}
use Rattle.fz_head.specs.declared.options.PackOptions.{PackOptions}
use Rattle.fz_files.specs.Laws.{table_hdu}
use Rattle.fz_files.specs.Packed.{packed_file}
use Rattle.fz_files.specs.Restored.{is_packed_primary, standing}
use Rattle.fz_files.specs.StandsFor.{IsProfileFile}
use Rattle.fz_files.specs.Walks.{found_headers, header_fault, headers_for, job_walk}
use Rattle.fz_files.specs.declared.job.Job.TheVariants.{Pack, Unpack}
use Rattle.fz_laws.specs.PackedHdus.{Become, Becomes, BecomesAs, HdusBecome}
use Rattle.fz_laws.specs.RoundTripTaken.{PassingLaws, TableLaws, WalkLaws}
use Rattle.fz_laws.proofs.Outs.{empty_hdu, out_of, outs}
use Rattle.fz_laws.proofs.Passing.{copied_packed}
use Rattle.fz_laws.proofs.Sources.{AreSources, IsSource, never_stops, taken}
use Rattle.fz_laws.proofs.Standing.{IsOut, copied_facts, head_same, later_primary, out_here, primary_image, sort_is, table_of_image, tail_same}
use Rattle.fz_laws.proofs.Way.{AreFound, are_found, no_header_fault, pack_walk}

-- one after the first
later_becomes : (o : PackOptions) (file bytes : List ℕ) (k j start : ℕ) (h f : Header) → AreOptions o → AreBytes file → IsSource o file (suc k) h →
    IsOut bytes j start (out_of o file h) f →
    Becomes o file h bytes f
later_becomes o file bytes k j start h f options all s out = by_test (is_packable h) refl out
  where
    by_test : (packable : Bool) → is_packable h ≡ packable → IsOut bytes j start (if packable then table_hdu o file h else hdu_of file h) f →
        BecomesAs packable o file h bytes f
    by_test true is out = table_of_image o file bytes j start h f (taken o file (suc k) h options all s is) out
    by_test false is out = record { same = out.here; plain = copied_packed (hdu_of bytes f).header f (copied_facts o file bytes k j start h f s out) }

-- those after the first
later_become : (o : PackOptions) (file bytes : List ℕ) (k j start : ℕ) (hs : List Header) → AreOptions o → AreBytes file → AreSources o file (suc k) hs →
    map (hdu_of bytes) (facts_from (suc j) start (map (out_of o file) hs)) ≡ map (out_of o file) hs →
    Become o file hs bytes (facts_from (suc j) start (map (out_of o file) hs))
later_become o file bytes k j start [] options all are here = tt
later_become o file bytes k j start (h ∷ hs) options all are here =
    let d : Hdu = out_of o file h in
    let rest : List Hdu = map (hdu_of bytes) (facts_from (suc (suc j)) (start + length (hdu_bytes d)) (map (out_of o file) hs)) in (
      later_becomes o file bytes k j start h (facts_of (suc j) start d.header) options all are.0 (out_here bytes j start d rest (map (out_of o file) hs) here),
      later_become o file bytes (suc k) (suc j) (start + length (hdu_bytes d)) hs options all are.1
          (tail_same (hdu_of bytes (facts_of (suc j) start d.header)) d rest (map (out_of o file) hs) here),
    )

-- the first is copied
copied_become : TableLaws → (o : PackOptions) (file bytes : List ℕ) (h : Header) (hs : List Header) → AreOptions o → AreBytes file →
    AreSources o file 0 (h ∷ hs) → is_packable h ≡ false →
    map (hdu_of bytes) (facts_from 0 0 (hdu_of file h ∷ map (out_of o file) hs)) ≡ hdu_of file h ∷ map (out_of o file) hs →
    Become o file (h ∷ hs) bytes (standing bytes (facts_from 0 0 (hdu_of file h ∷ map (out_of o file) hs)))
copied_become l o file bytes h hs options all are packable here =
    let d : Hdu = hdu_of file h in
    let f : Header = facts_of 0 0 d.header in
    let fs : List Header = facts_from 1 (0 + length (hdu_bytes d)) (map (out_of o file) hs) in
    let rest : map (hdu_of bytes) fs ≡ map (out_of o file) hs = tail_same (hdu_of bytes f) d (map (hdu_of bytes) fs) (map (out_of o file) hs) here in
    let same : hdu_of bytes f ≡ d = head_same (hdu_of bytes f) d (map (hdu_of bytes) fs) (map (out_of o file) hs) here in
    let first : Becomes o file h bytes f =
    subst (λ b. BecomesAs b o file h bytes f) (sym packable) (record { same = same; plain = primary_image bytes f refl }) in
    let later : Become o file hs bytes fs = later_become o file bytes 0 0 (0 + length (hdu_bytes d)) hs options all are.1 rest in
    subst (λ s. Become o file (h ∷ hs) bytes s) (sym (all_stand hs are.1 rest)) (first, later)
  where
    all_stand : (hs : List Header) → AreSources o file 1 hs →
        map (hdu_of bytes) (facts_from 1 (0 + length (hdu_bytes (hdu_of file h))) (map (out_of o file) hs)) ≡ map (out_of o file) hs →
        standing bytes (facts_of 0 0 (hdu_of file h).header ∷ facts_from 1 (0 + length (hdu_bytes (hdu_of file h))) (map (out_of o file) hs))
        ≡ facts_of 0 0 (hdu_of file h).header ∷ facts_from 1 (0 + length (hdu_bytes (hdu_of file h))) (map (out_of o file) hs)
    all_stand [] are here = refl
    all_stand (g ∷ gs) are here =
        let start : ℕ = 0 + length (hdu_bytes (hdu_of file h)) in
        let d : Hdu = out_of o file g in
        let f : Header = facts_of 1 start d.header in
        let fs : List Header = facts_from 2 (start + length (hdu_bytes d)) (map (out_of o file) gs) in
        ap (λ b. if b then f ∷ fs else facts_of 0 0 (hdu_of file h).header ∷ f ∷ fs)
        (later_primary l o file bytes 0 0 start g f options all are.0 (out_here bytes 0 start d (map (hdu_of bytes) fs) (map (out_of o file) gs) here))

-- the first is an image that is packed
packed_become : TableLaws → (o : PackOptions) (file bytes : List ℕ) (h : Header) (hs : List Header) → AreOptions o → AreBytes file →
    AreSources o file 0 (h ∷ hs) → is_packable h ≡ true →
    map (hdu_of bytes) (facts_from 0 0 (empty_hdu ∷ table_hdu o file h ∷ map (out_of o file) hs)) ≡ empty_hdu ∷ table_hdu o file h ∷ map (out_of o file) hs →
    Become o file (h ∷ hs) bytes (standing bytes (facts_from 0 0 (empty_hdu ∷ table_hdu o file h ∷ map (out_of o file) hs)))
packed_become l o file bytes h hs options all are packable here =
    let d : Hdu = table_hdu o file h in
    let e : Header = facts_of 0 0 empty_hdu.header in
    let start : ℕ = 0 + length (hdu_bytes empty_hdu) in
    let f : Header = facts_of 1 start d.header in
    let fs : List Header = facts_from 2 (start + length (hdu_bytes d)) (map (out_of o file) hs) in
    let behind : map (hdu_of bytes) (f ∷ fs) ≡ d ∷ map (out_of o file) hs =
    tail_same (hdu_of bytes e) empty_hdu (map (hdu_of bytes) (f ∷ fs)) (d ∷ map (out_of o file) hs) here in
    let rest : map (hdu_of bytes) fs ≡ map (out_of o file) hs = tail_same (hdu_of bytes f) d (map (hdu_of bytes) fs) (map (out_of o file) hs) behind in
    let out : IsOut bytes 0 start d f = out_here bytes 0 start d (map (hdu_of bytes) fs) (map (out_of o file) hs) behind in
    let table = table_of_image o file bytes 0 start h f (taken o file 0 h options all are.0 packable) out in
    let primary : is_packed_primary bytes f ≡ true = l.primary o file h bytes f table ∙ ap is_primary (sort_is o file 0 h are.0) in
    let first : Becomes o file h bytes f = subst (λ b. BecomesAs b o file h bytes f) (sym packable) table in
    let later : Become o file hs bytes fs = later_become o file bytes 0 1 (start + length (hdu_bytes d)) hs options all are.1 rest in
    subst (λ s. Become o file (h ∷ hs) bytes s) (sym (ap (λ b. if b then f ∷ fs else e ∷ f ∷ fs) primary)) (first, later)

outs_become : TableLaws → (o : PackOptions) (file bytes : List ℕ) (h : Header) (hs : List Header) → AreOptions o → AreBytes file →
    AreSources o file 0 (h ∷ hs) →
    map (hdu_of bytes) (facts_from 0 0 (outs o file h hs)) ≡ outs o file h hs →
    Become o file (h ∷ hs) bytes (standing bytes (facts_from 0 0 (outs o file h hs)))
outs_become l o file bytes h hs options all are here = by_test (is_packable h) refl here
  where
    first : Bool → List Hdu
    first packable = if packable then empty_hdu ∷ table_hdu o file h ∷ [] else hdu_of file h ∷ []

    by_test : (packable : Bool) → is_packable h ≡ packable →
        map (hdu_of bytes) (facts_from 0 0 (first packable ++ map (out_of o file) hs)) ≡ first packable ++ map (out_of o file) hs →
        Become o file (h ∷ hs) bytes (standing bytes (facts_from 0 0 (first packable ++ map (out_of o file) hs)))
    by_test true is here = packed_become l o file bytes h hs options all are is here
    by_test false is here = copied_become l o file bytes h hs options all are is here

-- ---- the file

become_from : PassingLaws → TableLaws → WalkLaws → (o : PackOptions) (file bytes : List ℕ) (hs : List Header) → IsProfileFile o file →
    walk_of (pack_judge o file) 65535 file ≡ Ok hs →
    bytes ≡ packed_file o (map (hdu_of file) hs) → length bytes ≤ 2 ^ 62 → Become o file hs bytes (standing bytes (headers_for Unpack bytes))
unfolding job_walk
become_from p l w o file bytes [] is walk made few = let some : 0 < 0 = (w.headers (pack_judge o file) 65535 file [] walk).0 in absurd omega (arith, some)
become_from p l w o file bytes (h ∷ hs) is walk made few =
    let found : AreFound o file bytes h hs = are_found p l w o file bytes h hs is walk made few in
    subst (λ r. Become o file (h ∷ hs) bytes (standing bytes (found_headers r))) (sym found.walk)
    (outs_become l o file bytes h hs is.options is.bytes found.sources found.here)

pack_headers : (o : PackOptions) (file : List ℕ) (hs : List Header) → walk_of (pack_judge o file) 65535 file ≡ Ok hs → headers_for (Pack o) file ≡ hs
unfolding job_walk
pack_headers o file hs walk = ap found_headers walk

pub hdus_become : PassingLaws → TableLaws → WalkLaws → HdusBecome
hdus_become p l w o file bytes is =
    let walk = pack_walk o file (no_header_fault (header_fault (Pack o) file) (Pack o) file is.taken.sound) in
    let whole : headers_of 65535 file ≡ Ok walk.0 = w.whole (pack_judge o file) 65535 file walk.0 walk.1 (never_stops o file walk.0) in
    let same : is.packed.hdus ≡ map (hdu_of file) walk.0 = w.converse 65535 file walk.0 is.packed.hdus whole is.packed.parts in
    subst (λ hs. Become o file hs bytes (standing bytes (headers_for Unpack bytes))) (sym (pack_headers o file walk.0 walk.1))
    (become_from p l w o file bytes walk.0 is.taken walk.1 (is.packed.packed ∙ ap (packed_file o) same) is.few)
