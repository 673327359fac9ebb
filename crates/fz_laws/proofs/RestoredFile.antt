-- The HDUs of the file that a packed file stands for, one after another.
use Rattle.std.specs.Prelude.{⊤}
use Rattle.std.proofs.Common.{◌≡◌, inl, inr, ℕ, suc, ◌+◌, ◌-◌, ◌^◌, ◌==◌, ◌<◌, ◌≤◌, ◌&&◌, ◌||◌, Bool, true, false, cond, List, [], ◌∷◌, ◌++◌, length, map, Option, Some, None, Result, Ok, Err, IsOk, if◌then◌else◌, codes, filter, true≢false, refl, sym, subst, ◌∙◌, ap, arith}
use Rattle.std.proofs.lemmas.Bool.Decides.{nat_tests}
use Rattle.std.proofs.lemmas.List.{length-append}
use Rattle.std.specs.List.{flat_map, list_any}
use Rattle.fz_base.specs.Refusal.{first_refusal}
use Rattle.fz_base.specs.declared.fault.Fault.{Fault}
use Rattle.fz_block.specs.Checks.{is_set, headers_of, unless_refused, walk_of}
use Rattle.fz_block.specs.Facts.{facts_of, sort_of}
use Rattle.fz_block.specs.Hdus.{Hdu, cards_of, hdu_bytes, size_at}
use Rattle.fz_block.specs.Header.{next_start_of}
use Rattle.fz_block.specs.Walk.{AreHeadersBetween, PassFrom, RefusesNone, facts_from, hdu_of, is_stop, stops}
use Rattle.fz_block.specs.declared.header.Header.{Header}
use Rattle.fz_checks.specs.JobChecks.{is_after_empty, unpack_hdu_checks}
use Rattle.fz_checks.specs.Judges.{unpack_judge}
use Rattle.fz_head.specs.Packable.{is_packed, is_table}
use Rattle.fz_card.specs.CardLists.{has_name}
use Rattle.fz_card.specs.Layout.{padded}
use Rattle.fz_head.specs.PackedChecks.{has_word}
use Rattle.fz_head.specs.PlainHeader.{was_primary}
use Rattle.fz_files.specs.declared.job.Job.TheVariants.{Unpack}
use Rattle.fz_files.specs.FirstFault.{IsFaultBehind, IsFirstFault, IsFirstRowFault, all_rows, rows_of}
use Rattle.fz_files.specs.Restored.{HdusStandFor, header_in, is_image, is_packed_primary, standing}
use Rattle.fz_files.specs.StandsFor.{StandsFor}
use Rattle.fz_files.specs.Walks.{fault_of_walk, found_headers, header_fault, headers_for, job_walk}
use Rattle.fz_laws.specs.Outputs.{IsFound, IsPlain, PackedNumbers, RestoredCount, RestoredIsFound, RestoredIsPlain, left_out}
use Rattle.fz_laws.specs.OutputsTaken.{OutLaws, WalkLaws}
use Rattle.fz_laws.proofs.Finds.{position_find}
use Rattle.fz_laws.proofs.OutputHdus.{IsIn, IsOut, IsUnpacked, one_out, says}

-- ---- the HDUs of the packed file

abbrev pub AreIn : List ℕ → ℕ → List Header → Type 0
AreIn file k [] = ⊤
AreIn file k (h ∷ hs) = IsIn file k h × AreIn file (suc k) hs

answer_none : (answer : Bool) (found : Option Fault) → IsOk (unless_refused answer found) → found ≡ None
answer_none answer None ok = refl
answer_none answer (Some fault) ok = absurd cc

pub are_in : (file : List ℕ) (k start end first : ℕ) (hs : List Header) → AreHeadersBetween k start end file hs → PassFrom k first (length file) (map (hdu_of file) hs) → RefusesNone (unpack_judge file) hs → AreIn file k hs
are_in file k start end first [] are pass none = tt
are_in file k start end first (h ∷ hs) are pass none = (
  record { number = are.0; is_header = are.2; start = first; passes = pass.0; none = answer_none false (first_refusal (unpack_hdu_checks file h)) none.0 },
  are_in file (suc k) (next_start_of h) end (first + length (hdu_bytes (hdu_of file h))) hs are.3 pass.1 none.1,
)

-- ---- what they stand for

abbrev pub AreOuts : ℕ → List Hdu → Type 0
AreOuts k [] = ⊤
AreOuts k (d ∷ ds) = IsOut k d × AreOuts (suc k) ds

pub record Outs (k n : ℕ) (bytes : List ℕ) : Type 0 where
  pub hdus : List Hdu
  pub parts : flat_map hdu_bytes hdus ≡ bytes
  pub count : length hdus ≡ n
  pub each : AreOuts k hdus

-- HDU 0 is never packed image
pub first_plain : (file : List ℕ) (h : Header) → IsIn file 0 h → is_image file h ≡ false
unfolding is_packed
first_plain file h is =
    let sort : h.sort ≡ sort_of 0 (header_in file h) = ap (λ (g : Header). g.sort) is.is_header.facts ∙ ap (λ n. sort_of n (header_in file h)) is.number in
    ap (λ s. is_table s && list_any (is_set (codes "ZIMAGE")) (cards_of (header_in file h))) sort

-- an image after HDU 1 is an extension
late_after : (file : List ℕ) (j : ℕ) (h : Header) → IsIn file j h → 2 ≤ j → is_after_empty file h ≡ false
late_after file j h is late = ap (λ b. b && size_at file 2 == 0) (not_one h.hdu (omega (arith, is.number, late)))
  where
    not_one : (n : ℕ) → 2 ≤ n → (n == 1) ≡ false
    not_one n late = grind (arith, nat_tests, late)

late_extension : OutLaws → (file : List ℕ) (j : ℕ) (h : Header) → IsIn file j h → 2 ≤ j → is_image file h ≡ true → was_primary (cards_of (header_in file h)) ≡ false
late_extension laws file j h is late packed = by_primary (was_primary (cards_of (header_in file h))) refl
  where
    by_primary : (b : Bool) → was_primary (cards_of (header_in file h)) ≡ b → b ≡ false
    by_primary false other = refl
    by_primary true primary =
        let has : has_word (codes "ZSIMPLE") (cards_of (header_in file h)) ≡ true = position_find (has_name (padded (codes "ZSIMPLE"))) (cards_of (header_in file h)) ∙ primary in
        absurd (true≢false (sym ((says laws file j h is packed).simple has).1 ∙ late_after file j h is late))

late_out : OutLaws → (file : List ℕ) (j k : ℕ) (hs : List Header) (bytes : List ℕ) → 2 ≤ j → 0 < k → AreIn file j hs → HdusStandFor file hs bytes → Outs k (length hs) bytes
late_out laws file j k [] bytes late some are stands = record { hdus = []; parts = sym stands; count = refl; each = tt }
late_out laws file j k (h ∷ hs) bytes late some are (front, back, parts, here, later) =
    let one = one_out laws file j k h front are.0 here (λ plain. inr (omega (arith, late), some)) (λ packed. inr (late_extension laws file j h are.0 late packed, some)) in
    let more : Outs (suc k) (length hs) back = late_out laws file (suc j) (suc k) hs back (omega (arith, late)) (omega arith) are.1 later in
    record {
      hdus = one.0 ∷ more.hdus;
      parts = (λ i. one.1 i ++ more.parts i) ∙ sym parts;
      count = ap suc more.count;
      each = (one.2, more.each);
    }

-- from HDU 1 on, where it was no primary
second_out : OutLaws → (file : List ℕ) (hs : List Header) (bytes : List ℕ) → AreIn file 1 hs → HdusStandFor file hs bytes → ((h : Header) (later : List Header) → hs ≡ h ∷ later → is_packed_primary file h ≡ false) → Outs 1 (length hs) bytes
second_out laws file [] bytes are stands other = record { hdus = []; parts = sym stands; count = refl; each = tt }
second_out laws file (h ∷ hs) bytes are (front, back, parts, here, later) other =
    let one = one_out laws file 1 1 h front are.0 here (λ plain. inl refl) (λ packed. inr (extension packed, omega arith)) in
    let more : Outs 2 (length hs) back = late_out laws file 2 2 hs back (omega arith) (omega arith) are.1 later in
    record {
      hdus = one.0 ∷ more.hdus;
      parts = (λ i. one.1 i ++ more.parts i) ∙ sym parts;
      count = ap suc more.count;
      each = (one.2, more.each);
    }
  where
    extension : is_image file h ≡ true → was_primary (cards_of (header_in file h)) ≡ false
    extension packed = sym (ap (λ b. b && was_primary (cards_of (header_in file h))) packed) ∙ other h hs refl

both_true : (a b : Bool) → (a && b) ≡ true → (a ≡ true) × (b ≡ true)
both_true true true e = (refl, refl)
both_true true false e = absurd cc
both_true false b e = absurd cc

abbrev first_of : Header → List Header → Header
first_of d [] = d
first_of d (x ∷ xs) = x

-- all of them, as many as stand for something
pub record Comes (bytes : List ℕ) (n : ℕ) : Type 0 where
  pub outs : Outs 0 n bytes
  pub some : 0 < n

comes : OutLaws → (file : List ℕ) (hs : List Header) (bytes : List ℕ) → 0 < length hs → AreIn file 0 hs → HdusStandFor file (standing file hs) bytes → Comes bytes (length (standing file hs))
comes laws file [] bytes some are stands = absurd (omega (arith, some))
comes laws file (h ∷ []) bytes some are (front, back, parts, here, later) =
    let one = one_out laws file 0 0 h front are.0 here (λ plain. inl refl) (λ packed. absurd (never packed)) in
    record {
      outs = record { hdus = one.0 ∷ []; parts = (λ i. one.1 i ++ sym later i) ∙ sym parts; count = refl; each = (one.2, tt) };
      some = omega arith;
    }
  where
    never : is_image file h ≡ true → ⊥
    never packed = true≢false (sym packed ∙ first_plain file h are.0)
comes laws file (h ∷ (k ∷ hs)) bytes some are stands = by_test (is_packed_primary file k) refl stands
  where
    never : is_image file h ≡ true → ⊥
    never packed = true≢false (sym packed ∙ first_plain file h are.0)

    by_test : (b : Bool) → is_packed_primary file k ≡ b → HdusStandFor file (if b then k ∷ hs else h ∷ k ∷ hs) bytes → Comes bytes (length (if b then k ∷ hs else h ∷ k ∷ hs))
    by_test true primary (front, back, parts, here, later) =
        let both = both_true (is_image file k) (was_primary (cards_of (header_in file k))) primary in
        let one = one_out laws file 1 0 k front are.1.0 here (λ plain. absurd (true≢false (sym both.0 ∙ plain))) (λ packed. inl (both.1, refl)) in
        let more : Outs 1 (length hs) back = late_out laws file 2 1 hs back (omega arith) (omega arith) are.1.1 later in
        record {
          outs = record { hdus = one.0 ∷ more.hdus; parts = (λ i. one.1 i ++ more.parts i) ∙ sym parts; count = ap suc more.count; each = (one.2, more.each) };
          some = omega arith;
        }
    by_test false other (front, back, parts, here, later) =
        let one = one_out laws file 0 0 h front are.0 here (λ plain. inl refl) (λ packed. absurd (never packed)) in
        let more : Outs 1 (length (k ∷ hs)) back = second_out laws file (k ∷ hs) back are.1 later (λ f more same. sym (ap (λ l. is_packed_primary file (first_of k l)) same) ∙ other) in
        record {
          outs = record { hdus = one.0 ∷ more.hdus; parts = (λ i. one.1 i ++ more.parts i) ∙ sym parts; count = ap suc more.count; each = (one.2, more.each) };
          some = omega arith;
        }

-- ---- a file of such HDUs

pub outs_pass : (k start len : ℕ) (ds : List Hdu) → AreOuts k ds → start + length (flat_map hdu_bytes ds) ≤ len → len ≤ 2 ^ 62 → k + length ds ≤ 65536 → PassFrom k start len ds
outs_pass k start len [] are within few number = tt
outs_pass k start len (d ∷ ds) are within few number =
    let both : length (flat_map hdu_bytes (d ∷ ds)) ≡ length (hdu_bytes d) + length (flat_map hdu_bytes ds) = length-append (hdu_bytes d) (flat_map hdu_bytes ds) in
    (are.0.passes start len (omega (arith, both, within)) few (omega (arith, number)), outs_pass (suc k) (start + length (hdu_bytes d)) len ds are.1 (omega (arith, both, within)) few (omega (arith, number)))

abbrev hd : Hdu → List Hdu → Hdu
hd d [] = d
hd d (x ∷ xs) = x

abbrev tl : List Hdu → List Hdu
tl [] = []
tl (x ∷ xs) = xs

-- no HDU is a packed image, or refused
pub record ArePlain (file : List ℕ) (fs : List Header) : Type 0 where
  pub none : RefusesNone (unpack_judge file) fs
  pub stops : stops (unpack_judge file) fs ≡ false
  pub images : list_any (is_image file) fs ≡ false
  pub rows : all_rows file fs ≡ []

ok_of : (o : Option Fault) → o ≡ None → IsOk (unless_refused false o)
ok_of None is = refl
ok_of (Some fault) is = absurd cc

pub no_stop : (o : Option Fault) (rest : Bool) → rest ≡ false → (is_stop (unless_refused false o) || rest) ≡ false
no_stop None rest is = is
no_stop (Some fault) rest is = is

are_plain : (file : List ℕ) (k start : ℕ) (ds : List Hdu) → AreOuts k ds → map (hdu_of file) (facts_from k start ds) ≡ ds → ArePlain file (facts_from k start ds)
are_plain file k start [] are same = record { none = tt; stops = refl; images = refl; rows = refl }
are_plain file k start (d ∷ ds) are same =
    let f : Header = facts_of k start d.header in
    let fs : List Header = facts_from (suc k) (start + length (hdu_bytes d)) ds in
    let here : hdu_of file f ≡ d = ap (hd d) same in
    let later : ArePlain file fs = are_plain file (suc k) (start + length (hdu_bytes d)) ds are.1 (ap tl same) in
    let is : IsUnpacked d.header f = are.0.unpacked start in
    let is_there : IsUnpacked (header_in file f) f = subst (λ (e : Hdu). IsUnpacked e.header f) (sym here) is in
    let none : first_refusal (unpack_hdu_checks file f) ≡ None = is_there.none (is_after_empty file f) in
    record {
      none = (ok_of (first_refusal (unpack_hdu_checks file f)) none, later.none);
      stops = no_stop (first_refusal (unpack_hdu_checks file f)) (stops (unpack_judge file) fs) later.stops;
      images = (λ i. is_there.plain i || later.images i);
      rows = ap (λ b. flat_map (rows_of file) (cond b (f ∷ filter (is_image file) fs) (filter (is_image file) fs))) is_there.plain ∙ later.rows;
    }

module _ (laws : WalkLaws) (bytes : List ℕ) (n : ℕ) (few : length bytes ≤ 2 ^ 62) (come : Comes bytes n) (number : n ≤ 65536) where
  abbrev ds : List Hdu
  ds = come.outs.hdus

  found : (headers_of 65536 bytes ≡ Ok (facts_from 0 0 ds)) × (map (hdu_of bytes) (facts_from 0 0 ds) ≡ ds)
  found =
      let all : length (flat_map hdu_bytes ds) ≤ length bytes = subst (λ l. length (flat_map hdu_bytes ds) ≤ length l) come.outs.parts (self (length (flat_map hdu_bytes ds))) in
      laws.walk 65536 bytes ds come.outs.parts (omega (arith, come.some, come.outs.count)) (omega (arith, come.outs.count, number))
      (outs_pass 0 0 (length bytes) ds come.outs.each (omega (arith, all)) few (omega (arith, come.outs.count, number)))
    where
      self : (m : ℕ) → m ≤ m
      self m = omega arith

  pub is_found : IsFound bytes
  is_found = (facts_from 0 0 ds, found.0)

  facts_count : (k start : ℕ) (ds : List Hdu) → length (facts_from k start ds) ≡ length ds
  facts_count k start [] = refl
  facts_count k start (d ∷ ds) = ap suc (facts_count (suc k) (start + length (hdu_bytes d)) ds)

  pub found_count : (hs : List Header) → headers_of 65536 bytes ≡ Ok hs → length hs ≡ n
  found_count hs is =
      let same : facts_from 0 0 ds ≡ hs = ok_same (headers_of 65536 bytes) (facts_from 0 0 ds) hs found.0 is in
      sym (ap length same) ∙ facts_count 0 0 ds ∙ come.outs.count
    where
      ok_same : (r : Result (List Header) Fault) (xs ys : List Header) → r ≡ Ok xs → r ≡ Ok ys → xs ≡ ys
      ok_same r xs ys one two = cc

  pub is_plain : IsPlain bytes
  unfolding job_walk
  is_plain =
      let fs : List Header = facts_from 0 0 ds in
      let plain : ArePlain bytes fs = are_plain bytes 0 0 ds come.outs.each found.1 in
      let walk : walk_of (unpack_judge bytes) 65536 bytes ≡ Ok fs = laws.judged (unpack_judge bytes) 65536 bytes fs found.0 plain.none plain.stops in
      let none : header_fault Unpack bytes ≡ None = ap (fault_of_walk Unpack bytes) walk in
      let rows : all_rows bytes (headers_for Unpack bytes) ≡ [] = ap (λ r. all_rows bytes (found_headers r)) walk ∙ plain.rows in
      let sound : IsFirstFault Unpack bytes None = subst (λ r. IsFaultBehind r Unpack bytes None) (sym none) (subst (λ l. IsFirstRowFault bytes l None) (sym rows) tt) in
      record {
        images = ap (λ r. list_any (is_image bytes) (found_headers r)) walk ∙ plain.images;
        unpack = sound;
        verify = (laws.verify bytes None).1 sound;
        list = (laws.list bytes None).1 (sym none);
      }

-- ---- the file that a packed file stands for

pub no_header_fault : (refused : Option Fault) (file : List ℕ) → IsFaultBehind refused Unpack file None → refused ≡ None
no_header_fault None file is = refl
no_header_fault (Some fault) file is = absurd cc

pub found_walk : (file : List ℕ) (found : Result (List Header) Fault) → fault_of_walk Unpack file found ≡ None → (hs : List Header) × (found ≡ Ok hs)
found_walk file (Ok hs) none = (hs, refl)
found_walk file (Err fault) none = absurd cc

standing_few : (file : List ℕ) (hs : List Header) → length (standing file hs) ≤ length hs
standing_few file [] = omega arith
standing_few file (h ∷ []) = omega arith
standing_few file (h ∷ (k ∷ hs)) = by_test (is_packed_primary file k)
  where
    by_test : (b : Bool) → length (if b then k ∷ hs else h ∷ k ∷ hs) ≤ length (h ∷ (k ∷ hs))
    by_test true = omega arith
    by_test false = omega arith

abbrev count_of : List ℕ → ℕ
count_of file = length (standing file (headers_for Unpack file))

file_comes : OutLaws → WalkLaws → (file bytes : List ℕ) → StandsFor file bytes → (count_of file ≤ 65536) × Comes bytes (count_of file)
unfolding job_walk
file_comes laws walks file bytes is =
    let walk = found_walk file (walk_of (unpack_judge file) 65536 file) (no_header_fault (header_fault Unpack file) file is.sound) in
    let found = walks.headers (unpack_judge file) 65536 file walk.0 walk.1 in
    let are : AreIn file 0 walk.0 = are_in file 0 0 found.3.0 0 walk.0 found.3.2 (walks.pass (unpack_judge file) 65536 file walk.0 walk.1) found.2 in
    let headers : headers_for Unpack file ≡ walk.0 = ap found_headers walk.1 in
    let few : count_of file ≤ 65536 = omega (arith, ap (λ l. length (standing file l)) headers, standing_few file walk.0, found.1) in (
      few,
      subst (λ l. Comes bytes (length (standing file l))) (sym headers)
          (comes laws file walk.0 bytes found.0 are (subst (λ r. HdusStandFor file (standing file (found_headers r)) bytes) walk.1 is.parts)),
    )

pub restored_is_found : OutLaws → WalkLaws → RestoredIsFound
restored_is_found laws walks file bytes is few = let come = file_comes laws walks file bytes is in is_found walks bytes (count_of file) few come.1 come.0

pub restored_is_plain : OutLaws → WalkLaws → RestoredIsPlain
restored_is_plain laws walks file bytes is few = let come = file_comes laws walks file bytes is in is_plain walks bytes (count_of file) few come.1 come.0

pub restored_count : OutLaws → WalkLaws → RestoredCount
restored_count laws walks file bytes is few hs found = let come = file_comes laws walks file bytes is in found_count walks bytes (count_of file) few come.1 come.0 hs found

-- ---- numbers in the packed file

number_at : (file : List ℕ) (k start end : ℕ) (earlier later : List Header) (h : Header) → AreHeadersBetween k start end file (earlier ++ h ∷ later) → h.hdu ≡ k + length earlier
number_at file k start end [] later h are = omega (arith, are.0)
number_at file k start end (x ∷ earlier) later h are = let rest = number_at file (suc k) (next_start_of x) end earlier later h are.3 in omega (arith, rest)

numbered : (file : List ℕ) (end : ℕ) (hs earlier later : List Header) (h : Header) → AreHeadersBetween 0 0 end file hs → standing file hs ≡ earlier ++ h ∷ later → h.hdu ≡ length earlier + left_out file hs
numbered file end [] earlier later h are same = absurd (none_split earlier same)
  where
    none_split : (earlier : List Header) → [] ≡ earlier ++ h ∷ later → ⊥
    none_split [] e = let long : 0 ≡ suc (length later) = ap length e in omega (arith, long)
    none_split (x ∷ xs) e = let long : 0 ≡ suc (length (xs ++ h ∷ later)) = ap length e in omega (arith, long)
numbered file end (x ∷ []) earlier later h are same =
    let at = number_at file 0 0 end earlier later h (subst (AreHeadersBetween 0 0 end file) same are) in
    omega (arith, at)
numbered file end (x ∷ (y ∷ hs)) earlier later h are same = by_test (is_packed_primary file y) same
  where
    by_test : (b : Bool) → (if b then y ∷ hs else x ∷ y ∷ hs) ≡ earlier ++ h ∷ later → h.hdu ≡ length earlier + (length (x ∷ (y ∷ hs)) - length (if b then y ∷ hs else x ∷ y ∷ hs))
    by_test true same =
        let at = number_at file 1 (next_start_of x) end earlier later h (subst (AreHeadersBetween 1 (next_start_of x) end file) same are.3) in
        omega (arith, at)
    by_test false same =
        let at = number_at file 0 0 end earlier later h (subst (AreHeadersBetween 0 0 end file) same are) in
        omega (arith, at)

pub packed_numbers : WalkLaws → PackedNumbers
unfolding job_walk
packed_numbers walks file sound earlier later h same =
    let walk = found_walk file (walk_of (unpack_judge file) 65536 file) (no_header_fault (header_fault Unpack file) file sound) in
    let found = walks.headers (unpack_judge file) 65536 file walk.0 walk.1 in
    let headers : headers_for Unpack file ≡ walk.0 = ap found_headers walk.1 in
    subst (λ l. h.hdu ≡ length earlier + left_out file l) (sym headers) (numbered file found.3.0 walk.0 earlier later h found.3.2 (sym (ap (standing file) headers) ∙ same))
