-- Every HDU of a strict file is what `pack` makes of what it stands for.
use Rattle.std.proofs.Common.{◌≡◌, ℕ, suc, ◌+◌, ◌^◌, ◌<◌, ◌≤◌, Bool, true, false, List, [], ◌∷◌, ◌++◌, length, map, take, Some, None, IsOk, Ok, if◌then◌else◌, refl, sym, subst, ◌∙◌, ap, arith, append_assoc, length-append}
use Rattle.std.proofs.Math.Seq.{take-append_seam}
use Rattle.std.proofs.lemmas.List.{length-map}
use Rattle.std.specs.List.{AllByRecursion, flat_map}
use Rattle.fz_base.specs.Refusal.{first_refusal}
use Rattle.fz_base.specs.declared.fault.Fault.{Fault}
use Rattle.fz_block.specs.Checks.{headers_of, unless_refused}
use Rattle.fz_block.specs.Facts.{IsHeaderOf, facts_of}
use Rattle.fz_block.specs.Hdus.{AreHdusOf, Hdu, hdu_bytes}
use Rattle.fz_block.specs.Walk.{PassFrom, PassesAt, RefusesNone, facts_from, hdu_of}
use Rattle.fz_block.specs.declared.header.Header.{Header}
use Rattle.fz_checks.specs.JobChecks.{data_fill, fill_in, pack_hdu_checks, pack_header_checks, plan_to_pack}
use Rattle.fz_checks.specs.Judges.{pack_judge}
use Rattle.fz_head.specs.Packable.{is_packable}
use Rattle.fz_head.specs.Planned.{pack_plan_of}
use Rattle.fz_head.specs.declared.options.PackOptions.{PackOptions}
use Rattle.fz_tile.specs.Plain.{AreBytes}
use Rattle.fz_files.specs.Laws.{TablesAreHdus, TablesStandForImages}
use Rattle.fz_files.specs.Packed.{before_table, packed_file, packed_from, packed_hdu, packed_image}
use Rattle.fz_files.specs.Restored.{HduStandsFor, StandsForAs, is_packed_primary, plan_in, standing}
use Rattle.fz_files.specs.Walks.{headers_for}
use Rattle.fz_files.specs.declared.job.Job.TheVariants.{Unpack}
use Rattle.fz_laws.specs.PackedHdus.{Become, Becomes, BecomesAs}
use Rattle.fz_laws.specs.RoundTrip.{IsPacked}
use Rattle.fz_strict.specs.SameHdus.{AreSame, HasSameHdus, IsSame, front_of, plan_again}
use Rattle.fz_strict.specs.Strict.{IsStrictBy}
use Rattle.fz_strict.proofs.Ends.{passes_ends}
use Rattle.fz_strict.proofs.Fill.{FillLaws}
use Rattle.fz_strict.proofs.Images.{table_image, table_plan}
use Rattle.fz_strict.proofs.HeadersRead.{PackedImages, answer_none, headers_are, is_walked, one_answer}
use Rattle.fz_strict.proofs.OptionsFound.{StrictLaws}
use Rattle.fz_strict.proofs.Same.{is_found}

-- all laws
pub record EachLaws : Type 0 where
  pub strict : StrictLaws
  pub images : PackedImages
  pub fill : FillLaws
  pub stands : TablesStandForImages
  pub tables : TablesAreHdus
  pub walk :
      (most : ℕ) (file : List ℕ) (hs : List Hdu) → flat_map hdu_bytes hs ≡ file → 0 < length hs → length hs ≤ most → PassFrom 0 0 (length file) hs →
      (headers_of most file ≡ Ok (facts_from 0 0 hs)) × (map (hdu_of file) (facts_from 0 0 hs) ≡ hs)
  pub parts : (start len : ℕ) (hs : List Hdu) → PassFrom 0 start len hs → AreHdusOf (flat_map hdu_bytes hs) hs
  pub moved : (k start len start' len' : ℕ) (h : Hdu) → PassesAt k start len h → start' + length (hdu_bytes h) ≤ len' →
      start' + length (hdu_bytes h) ≤ 2 ^ 62 → PassesAt k start' len' h

-- ---- lists

pub head_same : (x y : Hdu) (xs ys : List Hdu) → x ∷ xs ≡ y ∷ ys → x ≡ y
head_same x y xs ys e = cc

pub tail_same : (x y : Hdu) (xs ys : List Hdu) → x ∷ xs ≡ y ∷ ys → xs ≡ ys
tail_same x y xs ys e = cc

cut_behind : (xs ys zs : List ℕ) → xs ++ zs ≡ ys ++ zs → xs ≡ ys
cut_behind xs ys zs e =
    let first : length (xs ++ zs) ≡ length xs + length zs = length-append xs zs in
    let second : length (ys ++ zs) ≡ length ys + length zs = length-append ys zs in
    let both : length (xs ++ zs) ≡ length (ys ++ zs) = ap length e in
    let same : length xs ≡ length ys = omega (arith, first, second, both) in
    sym (take-append_seam xs zs) ∙ (λ i. take (same i) (e i)) ∙ take-append_seam ys zs

-- the HDUs that stand for something, and what is in front of them
pub split_front : (file : List ℕ) (hs : List Header) →
    flat_map hdu_bytes (map (hdu_of file) hs) ≡ front_of file hs ++ flat_map hdu_bytes (map (hdu_of file) (standing file hs))
split_front file [] = refl
split_front file (h ∷ []) = refl
split_front file (h ∷ k ∷ hs) = by_test (is_packed_primary file k)
  where
    by_test : (first : Bool) → flat_map hdu_bytes (map (hdu_of file) (h ∷ k ∷ hs)) ≡
        (if first then hdu_bytes (hdu_of file h) else []) ++ flat_map hdu_bytes (map (hdu_of file) (if first then k ∷ hs else h ∷ k ∷ hs))
    by_test true = refl
    by_test false = refl

pub front_none : (xs ys : List (Bool × Fault)) → first_refusal (xs ++ ys) ≡ None → first_refusal xs ≡ None
front_none [] ys none = refl
front_none ((true, fault) ∷ xs) ys none = absurd cc
front_none ((false, fault) ∷ xs) ys none = front_none xs ys none

-- ---- one HDU

module _ (laws : EachLaws) (o : PackOptions) (source file : List ℕ) where
  -- what is known of HDU k of the source, and of what becomes of it
  record IsPart (k start : ℕ) (d : Hdu) (h : Header) : Type 0 where
    pub passes : PassesAt k start (length source) d
    pub taken : IsOk (pack_judge o source (facts_of k start d.header))
    pub is_header : IsHeaderOf d.header (facts_of k start d.header)
    pub here : hdu_of source (facts_of k start d.header) ≡ d
    pub becomes : Becomes o source (facts_of k start d.header) file h

  part_packed : (k start : ℕ) (d : Hdu) (h : Header) → IsPart k start d h →
      packed_hdu o k d ≡ (if is_packable (facts_of k start d.header) then before_table k ++ hdu_bytes (hdu_of file h) else hdu_bytes (hdu_of file h))
  part_packed k start d h is = laws.strict.walks.packed o d from is.is_header ∙ by_test (is_packable from) is.becomes
    where
      from : Header
      from = facts_of k start d.header

      by_test : (packable : Bool) → BecomesAs packable o source from file h →
          (if packable then before_table k ++ packed_image o.sums (pack_plan_of o from) d else hdu_bytes d)
          ≡ (if packable then before_table k ++ hdu_bytes (hdu_of file h) else hdu_bytes (hdu_of file h))
      by_test true t =
          ap (λ d. before_table k ++ packed_image o.sums (pack_plan_of o from) d) (sym is.here)
          ∙ ap (λ l. before_table k ++ l) (laws.tables o source from ∙ ap hdu_bytes (sym t.table))
      by_test false c = ap hdu_bytes (sym is.here ∙ sym c.same)

  -- what `pack` answers for it
  part_plan : (k start : ℕ) (d : Hdu) (h : Header) → IsPart k start d h → plan_to_pack o (facts_of k start d.header) d.header ≡ Ok (plan_again file h)
  unfolding plan_to_pack
  part_plan k start d h is =
      let none : first_refusal (pack_header_checks o from d.header) ≡ None =
      ap (λ (x : Hdu). first_refusal (pack_header_checks o from x.header)) (sym is.here)
      ∙ front_none (pack_header_checks o from (hdu_of source from).header) (if is_packable from then data_fill from (fill_in source from) ∷ [] else [])
      (answer_none false (first_refusal (pack_hdu_checks o source from)) is.taken) in
      ap (unless_refused (if is_packable from then Some (pack_plan_of o from) else None)) none ∙ ap Ok (by_test (is_packable from) is.becomes)
    where
      from : Header
      from = facts_of k start d.header

      by_test : (packable : Bool) → BecomesAs packable o source from file h → (if packable then Some (pack_plan_of o from) else None) ≡ plan_again file h
      by_test true t = λ i. if sym (table_image laws.strict.tables o source from file h t) i then Some
          (sym (table_plan laws.strict.tables o source from file h t) i) else None
      by_test false c = ap (λ b. if b then Some (plan_in file h) else None) (sym c.plain)

  part_same : (front : List ℕ) (k start : ℕ) (d : Hdu) (h : Header) → IsPart k start d h → packed_hdu o k d ≡ front ++ hdu_bytes (hdu_of file h) →
      IsSame o file front k start h d
  part_same front k start d h is packed =
      let from : Header = facts_of k start d.header in
      let ends : start + length (hdu_bytes d) ≤ 2 ^ 62 = passes_ends k start (length source) d is.passes in
      record {
        stands = stands_by (is_packable from) is.becomes;
        passes = laws.moved k start (length source) start (2 ^ 62) d is.passes ends ends;
        plan = part_plan k start d h is;
        packed = packed;
      }
    where
      stands_by : (packable : Bool) → BecomesAs packable o source (facts_of k start d.header) file h → HduStandsFor file h (hdu_bytes d)
      stands_by true t = subst (λ d. HduStandsFor file h (hdu_bytes d)) is.here (laws.stands o source (facts_of k start d.header) file h t)
      stands_by false c = subst (λ b. StandsForAs b file h (hdu_bytes d)) (sym c.plain) (ap hdu_bytes (sym is.here ∙ sym c.same))

  -- ---- all of them

  -- what is known of the HDUs from number k on
  record AreParts (k start : ℕ) (ds : List Hdu) (hs : List Header) : Type 0 where
    pub passes : PassFrom k start (length source) ds
    pub taken : RefusesNone (pack_judge o source) (facts_from k start ds)
    pub are : AllByRecursion (λ h. IsHeaderOf (hdu_of source h).header h) (facts_from k start ds)
    pub here : map (hdu_of source) (facts_from k start ds) ≡ ds
    pub become : Become o source (facts_from k start ds) file hs

  first_part : (k start : ℕ) (d : Hdu) (ds : List Hdu) (h : Header) (hs : List Header) → AreParts k start (d ∷ ds) (h ∷ hs) → IsPart k start d h
  first_part k start d ds h hs is =
      let from : Header = facts_of k start d.header in
      let here : hdu_of source from ≡ d =
      head_same (hdu_of source from) d (map (hdu_of source) (facts_from (suc k) (start + length (hdu_bytes d)) ds)) ds is.here in
      record {
        passes = is.passes.0;
        taken = is.taken.0;
        is_header = subst (λ (x : Hdu). IsHeaderOf x.header from) here is.are.0;
        here = here;
        becomes = is.become.0;
      }

  later_parts : (k start : ℕ) (d : Hdu) (ds : List Hdu) (h : Header) (hs : List Header) → AreParts k start (d ∷ ds) (h ∷ hs) →
      AreParts (suc k) (start + length (hdu_bytes d)) ds hs
  later_parts k start d ds h hs is = record {
    passes = is.passes.1;
    taken = is.taken.1;
    are = is.are.1;
    here = tail_same (hdu_of source (facts_of k start d.header)) d (map (hdu_of source) (facts_from (suc k) (start + length (hdu_bytes d)) ds)) ds is.here;
    become = is.become.1;
  }

  later_packed : (k start : ℕ) (d : Hdu) (h : Header) → IsPart (suc k) start d h → packed_hdu o (suc k) d ≡ hdu_bytes (hdu_of file h)
  later_packed k start d h is = part_packed (suc k) start d h is ∙ by_test (is_packable (facts_of (suc k) start d.header))
    where
      by_test : (packable : Bool) → (if packable then hdu_bytes (hdu_of file h) else hdu_bytes (hdu_of file h)) ≡ hdu_bytes (hdu_of file h)
      by_test true = refl
      by_test false = refl

  later_same : (k start : ℕ) (ds : List Hdu) (hs : List Header) → AreParts (suc k) start ds hs → AreSame o file [] (suc k) start hs ds
  later_same k start [] [] is = tt
  later_same k start [] (h ∷ hs) is = absurd is.become
  later_same k start (d ∷ ds) [] is = absurd is.become
  later_same k start (d ∷ ds) (h ∷ hs) is =
      let part = first_part (suc k) start d ds h hs is in (
        part_same [] (suc k) start d h part (later_packed k start d h part),
        later_same (suc k) (start + length (hdu_bytes d)) ds hs
            (later_parts (suc k) start d ds h hs is),
      )

  later_bytes : (k start : ℕ) (ds : List Hdu) (hs : List Header) → AreParts (suc k) start ds hs →
      packed_from o (suc k) ds ≡ flat_map hdu_bytes (map (hdu_of file) hs)
  unfolding packed_from
  later_bytes k start [] [] is = refl
  later_bytes k start [] (h ∷ hs) is = absurd is.become
  later_bytes k start (d ∷ ds) [] is = absurd is.become
  later_bytes k start (d ∷ ds) (h ∷ hs) is =
      λ i. later_packed k start d h (first_part (suc k) start d ds h hs is) i ++ later_bytes (suc k) (start + length (hdu_bytes d)) ds hs
      (later_parts (suc k) start d ds h hs is) i

  -- the first has something in front of it, where the file is that and they are the packed file
  all_same : (front : List ℕ) (ds : List Hdu) (hs : List Header) → AreParts 0 0 ds hs →
      packed_from o 0 ds ≡ front ++ flat_map hdu_bytes (map (hdu_of file) hs) → AreSame o file front 0 0 hs ds
  unfolding packed_from
  all_same front [] [] is packed = tt
  all_same front [] (h ∷ hs) is packed = absurd is.become
  all_same front (d ∷ ds) [] is packed = absurd is.become
  all_same front (d ∷ ds) (h ∷ hs) is packed =
      let later = later_parts 0 0 d ds h hs is in
      let rest : List ℕ = flat_map hdu_bytes (map (hdu_of file) hs) in
      let both : packed_hdu o 0 d ++ rest ≡ (front ++ hdu_bytes (hdu_of file h)) ++ rest =
      ap (λ l. packed_hdu o 0 d ++ l) (sym (later_bytes 0 (0 + length (hdu_bytes d)) ds hs later)) ∙ packed
      ∙ sym (append_assoc front (hdu_bytes (hdu_of file h)) rest) in (
        part_same front 0 0 d h (first_part 0 0 d ds h hs is) (cut_behind (packed_hdu o 0 d) (front ++ hdu_bytes (hdu_of file h)) rest both),
        later_same 0
            (0 + length (hdu_bytes d)) ds hs later,
      )

-- ---- the file

pub each_is_same : EachLaws → (o : PackOptions) (file : List ℕ) → IsStrictBy o file → HasSameHdus o file
each_is_same laws o file is =
    let w = laws.strict.walks in
    let source : List ℕ = is.restored in
    let found = is_found w o source is.taken.sound in
    let hs : List Header = found.0 in
    let counts = w.headers (pack_judge o source) 65535 source hs found.1.walk in
    let ds : List Hdu = map (hdu_of source) hs in
    let count : length ds ≡ length hs = length-map hs (hdu_of source) in
    let some : 0 < length ds = let more = counts.0 in omega (arith, count, more) in
    let few : length ds ≤ 65535 = let most = counts.1 in omega (arith, count, most) in
    let parts : flat_map hdu_bytes ds ≡ source = (w.parts 65535 source hs found.1.all).parts in
    let passes : PassFrom 0 0 (length source) ds = w.pass (pack_judge o source) 65535 source hs found.1.walk in
    let again = laws.walk 65535 source ds parts some few passes in
    let same : hs ≡ facts_from 0 0 ds = one_answer (headers_of 65535 source) hs (facts_from 0 0 ds) found.1.all again.0 in
    let walked = is_walked w file is.stands.sound in
    let all : List Header = headers_for Unpack file in
    let packed : IsPacked o source file = record { taken = is.taken; packed = is.packed; few = walked.few } in
    let are : AreParts laws o source file 0 0 ds (standing file all) = record {
      passes = passes;
      taken = subst (RefusesNone (pack_judge o source)) same found.1.none;
      are = subst (AllByRecursion (λ h. IsHeaderOf (hdu_of source h).header h)) same (headers_are 0 0 found.1.end source hs found.1.are);
      here = again.1;
      become = subst (λ l. Become o source l file (standing file all)) (found.1.headers ∙ same) (laws.strict.become o source file packed);
    } in
    let these : is.packed.hdus ≡ ds = w.converse 65535 source hs is.packed.hdus found.1.all is.packed.parts in
    let whole : packed_from o 0 ds ≡ front_of file all ++ flat_map hdu_bytes (map (hdu_of file) (standing file all)) =
    ap (packed_file o) (sym these) ∙ sym is.packed.packed ∙ sym walked.parts ∙ split_front file all in
    record {
      options = is.taken.options;
      sound = is.stands.sound;
      hdus = ds;
      few = few;
      bytes = subst (λ l. AreBytes l) (sym parts) is.taken.bytes;
      same = all_same laws o source file (front_of file all) ds (standing file all) are whole;
    }
