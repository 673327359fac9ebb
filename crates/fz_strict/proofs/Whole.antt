-- A file of which every HDU is what `pack` makes of what it stands for is strict.
use Rattle.std.proofs.Common.{◌≡◌, ℕ, suc, ◌+◌, ◌^◌, ◌<◌, ◌≤◌, Bool, true, false, List, [], ◌∷◌, ◌++◌, length, map, Option, Some, None, IsOk, Ok, if◌then◌else◌, refl, sym, ◌∙◌, ap, arith, append_assoc, length-append}
use Rattle.std.specs.List.{AllByRecursion, flat_map}
use Rattle.fz_base.specs.Refusal.{first_refusal}
use Rattle.fz_base.specs.declared.fault.Fault.{Fault}
use Rattle.fz_block.specs.Checks.{unless_refused, walk_of}
use Rattle.fz_block.specs.Facts.{facts_of}
use Rattle.fz_block.specs.Hdus.{Hdu, hdu_bytes}
use Rattle.fz_block.specs.Walk.{PassFrom, RefusesNone, facts_from, hdu_of}
use Rattle.fz_block.specs.declared.header.Header.{Header}
use Rattle.fz_checks.specs.JobChecks.{data_fill, fill_in, pack_hdu_checks, pack_header_checks, plan_to_pack}
use Rattle.fz_checks.specs.Judges.{pack_judge}
use Rattle.fz_head.specs.Packable.{is_packable}
use Rattle.fz_head.specs.Planned.{pack_plan_of}
use Rattle.fz_head.specs.declared.options.PackOptions.{PackOptions}
use Rattle.fz_head.specs.declared.plan.Plan.{Plan}
use Rattle.fz_files.specs.Packed.{packed_from}
use Rattle.fz_files.specs.Restored.{HdusStandFor, is_image, is_packed_primary, plan_in, standing}
use Rattle.fz_files.specs.Walks.{headers_for}
use Rattle.fz_files.specs.declared.job.Job.TheVariants.{Unpack}
use Rattle.fz_strict.specs.SameHdus.{AreSame, HasSameHdus, IsSame, front_of, plan_again}
use Rattle.fz_strict.specs.Strict.{IsStrictBy}
use Rattle.fz_strict.proofs.Each.{EachLaws, head_same, split_front, tail_same}
use Rattle.fz_strict.proofs.Fill.{FillLaws, image_fill}
use Rattle.fz_strict.proofs.Ends.{pass_ends}
use Rattle.fz_strict.proofs.HeadersRead.{IsRead, are_read, is_walked, standing_read}
use Rattle.fz_strict.proofs.Same.{never_stops, sound_by}

module _ (o : PackOptions) (file : List ℕ) where
  same_pass : (front : List ℕ) (k start : ℕ) (hs : List Header) (ds : List Hdu) → AreSame o file front k start hs ds → PassFrom k start (2 ^ 62) ds
  same_pass front k start [] [] same = tt
  same_pass front k start [] (d ∷ ds) same = absurd same
  same_pass front k start (h ∷ hs) [] same = absurd same
  same_pass front k start (h ∷ hs) (d ∷ ds) same = (same.0.passes, same_pass [] (suc k) (start + length (hdu_bytes d)) hs ds same.1)

  pub same_stand : (front : List ℕ) (k start : ℕ) (hs : List Header) (ds : List Hdu) → AreSame o file front k start hs ds →
      HdusStandFor file hs (flat_map hdu_bytes ds)
  same_stand front k start [] [] same = refl
  same_stand front k start [] (d ∷ ds) same = absurd same
  same_stand front k start (h ∷ hs) [] same = absurd same
  same_stand front k start (h ∷ hs) (d ∷ ds) same =
      (hdu_bytes d, flat_map hdu_bytes ds, refl, same.0.stands, same_stand [] (suc k) (start + length (hdu_bytes d)) hs ds same.1)

  later_packed : (k start : ℕ) (hs : List Header) (ds : List Hdu) → AreSame o file [] k start hs ds →
      packed_from o k ds ≡ flat_map hdu_bytes (map (hdu_of file) hs)
  unfolding packed_from
  later_packed k start [] [] same = refl
  later_packed k start [] (d ∷ ds) same = absurd same
  later_packed k start (h ∷ hs) [] same = absurd same
  later_packed k start (h ∷ hs) (d ∷ ds) same = λ i. same.0.packed i ++ later_packed (suc k) (start + length (hdu_bytes d)) hs ds same.1 i

  all_packed : (front : List ℕ) (hs : List Header) (ds : List Hdu) → 0 < length hs → AreSame o file front 0 0 hs ds →
      packed_from o 0 ds ≡ front ++ flat_map hdu_bytes (map (hdu_of file) hs)
  unfolding packed_from
  all_packed front [] ds some same = absurd omega (arith, some)
  all_packed front (h ∷ hs) [] some same = absurd same
  all_packed front (h ∷ hs) (d ∷ ds) some same =
      (λ i. same.0.packed i ++ later_packed 1 (0 + length (hdu_bytes d)) hs ds same.1 i)
      ∙ append_assoc front (hdu_bytes (hdu_of file h)) (flat_map hdu_bytes (map (hdu_of file) hs))

  same_some : (front : List ℕ) (k start : ℕ) (hs : List Header) (ds : List Hdu) → 0 < length hs → AreSame o file front k start hs ds → 0 < length ds
  same_some front k start [] ds some same = absurd omega (arith, some)
  same_some front k start (h ∷ hs) [] some same = absurd same
  same_some front k start (h ∷ hs) (d ∷ ds) some same = omega arith

-- ---- no check of `pack` refuses anything

pub both_none : (xs ys : List (Bool × Fault)) → first_refusal xs ≡ None → first_refusal ys ≡ None → first_refusal (xs ++ ys) ≡ None
both_none [] ys none rest = rest
both_none ((true, fault) ∷ xs) ys none rest = absurd cc
both_none ((false, fault) ∷ xs) ys none rest = both_none xs ys none rest

pub plan_ok : {A : Type 0} (answer found : A) (refused : Option Fault) → unless_refused answer refused ≡ Ok found → (refused ≡ None) × (answer ≡ found)
plan_ok answer found None e = (refl, (cc))
plan_ok answer found (Some fault) e = absurd cc

-- the tests of two plans that are there or not are the same, and so are the plans
same_test : (a b : Bool) (p q : Plan) → (if a then Some p else None) ≡ (if b then Some q else None) → (a ≡ b) × (a ≡ true → p ≡ q)
same_test true true p q e = (refl, λ yes. cc)
same_test true false p q e = absurd cc
same_test false true p q e = absurd cc
same_test false false p q e = (refl, λ yes. absurd cc)

-- what the answer for an HDU says
pub record IsPlanned (o : PackOptions) (file : List ℕ) (h f : Header) (header : List ℕ) : Type 0 where
  pub none : first_refusal (pack_header_checks o f header) ≡ None
  pub packs : is_packable f ≡ is_image file h
  pub plan : is_packable f ≡ true → pack_plan_of o f ≡ plan_in file h

pub is_planned : (o : PackOptions) (file : List ℕ) (h f : Header) (header : List ℕ) → plan_to_pack o f header ≡ Ok (plan_again file h) →
    IsPlanned o file h f header
unfolding plan_to_pack
is_planned o file h f header e =
    let ok = plan_ok (if is_packable f then Some (pack_plan_of o f) else None) (plan_again file h) (first_refusal (pack_header_checks o f header)) e in
    let same = same_test (is_packable f) (is_image file h) (pack_plan_of o f) (plan_in file h) ok.1 in
    record { none = ok.0; packs = same.0; plan = same.1 }

one_taken : FillLaws → (o : PackOptions) (file source front : List ℕ) (k start : ℕ) (h : Header) (d : Hdu) → IsRead file h →
    hdu_of source (facts_of k start d.header) ≡ d → IsSame o file front k start h d →
    IsOk (pack_judge o source (facts_of k start d.header))
one_taken laws o file source front k start h d read here same =
    let f : Header = facts_of k start d.header in
    let planned : IsPlanned o file h f d.header = is_planned o file h f d.header same.plan in
    let header : first_refusal (pack_header_checks o f (hdu_of source f).header) ≡ None =
    ap (λ (x : Hdu). first_refusal (pack_header_checks o f x.header)) here ∙ planned.none in
    ok_none (first_refusal (pack_hdu_checks o source f))
    (both_none (pack_header_checks o f (hdu_of source f).header) (if is_packable f then data_fill f (fill_in source f) ∷ [] else []) header
    (by_test (is_packable f) refl planned))
  where
    ok_none : (found : Option Fault) → found ≡ None → IsOk (unless_refused false found)
    ok_none None none = refl
    ok_none (Some fault) none = absurd cc

    by_test : (packable : Bool) → is_packable (facts_of k start d.header) ≡ packable → IsPlanned o file h (facts_of k start d.header) d.header →
        first_refusal (if packable then data_fill (facts_of k start d.header) (fill_in source (facts_of k start d.header)) ∷ [] else []) ≡ None
    by_test true is planned = image_fill laws o file source h k start d read (sym planned.packs ∙ is) same.stands same.passes.hdu.header is (planned.plan is)
        here
    by_test false is planned = refl

all_taken : FillLaws → (o : PackOptions) (file source front : List ℕ) (k start : ℕ) (hs : List Header) (ds : List Hdu) → AllByRecursion (IsRead file) hs →
    map (hdu_of source) (facts_from k start ds) ≡ ds → AreSame o file front k start hs ds → RefusesNone (pack_judge o source) (facts_from k start ds)
all_taken laws o file source front k start [] [] read here same = tt
all_taken laws o file source front k start [] (d ∷ ds) read here same = absurd same
all_taken laws o file source front k start (h ∷ hs) [] read here same = absurd same
all_taken laws o file source front k start (h ∷ hs) (d ∷ ds) read here same =
    let f : Header = facts_of k start d.header in
    let rest : List Hdu = map (hdu_of source) (facts_from (suc k) (start + length (hdu_bytes d)) ds) in (
      one_taken laws o file source front k start h d read.0 (head_same (hdu_of source f) d rest ds here) same.0,
      all_taken laws o file source [] (suc k) (start + length (hdu_bytes d)) hs ds read.1 (tail_same (hdu_of source f) d rest ds here) same.1,
    )

-- ---- the file

standing_some : (file : List ℕ) (hs : List Header) → 0 < length hs → 0 < length (standing file hs)
standing_some file [] some = some
standing_some file (h ∷ []) some = some
standing_some file (h ∷ k ∷ hs) some = by_test (is_packed_primary file k)
  where
    by_test : (first : Bool) → 0 < length (if first then k ∷ hs else h ∷ k ∷ hs)
    by_test true = omega arith
    by_test false = omega arith

-- HDUs that end at byte 2^62 at most pass in a file that has them all
move_pass : EachLaws → (k start len : ℕ) (ds : List Hdu) → PassFrom k start (2 ^ 62) ds → start + length (flat_map hdu_bytes ds) ≤ len → len ≤ 2 ^ 62 →
    PassFrom k start len ds
move_pass laws k start len [] pass within few = tt
move_pass laws k start len (d ∷ ds) pass within few =
    let both : length (flat_map hdu_bytes (d ∷ ds)) ≡ length (hdu_bytes d) + length (flat_map hdu_bytes ds) =
    length-append (hdu_bytes d) (flat_map hdu_bytes ds) in (
      laws.moved k start (2 ^ 62) start len d pass.0 (omega (arith, both, within)) (omega (arith, both, within, few)),
      move_pass laws (suc k) (start + length (hdu_bytes d)) len ds pass.1 (omega (arith, both, within)) few,
    )

pub same_is_strict : EachLaws → (o : PackOptions) (file : List ℕ) → HasSameHdus o file → IsStrictBy o file
same_is_strict laws o file is =
    let w = laws.strict.walks in
    let ds : List Hdu = is.hdus in
    let source : List ℕ = flat_map hdu_bytes ds in
    let all : List Header = headers_for Unpack file in
    let hs : List Header = standing file all in
    let front : List ℕ = front_of file all in
    let walked = is_walked w file is.sound in
    let read : AllByRecursion (IsRead file) hs = standing_read file all (are_read w laws.images file is.sound) in
    let some : 0 < length hs = standing_some file all walked.some in
    let more : 0 < length ds = same_some o file front 0 0 hs ds some is.same in
    let pass : PassFrom 0 0 (2 ^ 62) ds = same_pass o file front 0 0 hs ds is.same in
    let ends : 0 + length source ≤ 2 ^ 62 = pass_ends 0 0 (2 ^ 62) ds more pass in
    let here : PassFrom 0 0 (length source) ds = move_pass laws 0 0 (length source) ds pass (omega arith) (omega (arith, ends)) in
    let again = laws.walk 65535 source ds refl more is.few here in
    let walk : walk_of (pack_judge o source) 65535 source ≡ Ok (facts_from 0 0 ds) =
    w.judged (pack_judge o source) 65535 source (facts_from 0 0 ds) again.0 (all_taken laws.fill o file source front 0 0 hs ds read again.1 is.same)
    (never_stops o source (facts_from 0 0 ds)) in
    record {
      restored = source;
      stands = record { sound = is.sound; parts = same_stand o file front 0 0 hs ds is.same };
      taken = record { bytes = is.bytes; options = is.options; sound = sound_by o source (facts_from 0 0 ds) walk };
      packed = record {
        hdus = ds;
        parts = laws.parts 0 (2 ^ 62) ds pass;
        packed = sym walked.parts ∙ split_front file all ∙ sym (all_packed o file front hs ds some is.same);
      };
    }
