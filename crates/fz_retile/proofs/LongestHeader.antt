-- The longest header of the file that a packed file stands for is no longer than that of the packed file.
use Rattle.std.proofs.Common.{◌≡◌, ℕ, zero, suc, ◌*◌, ◌/◌, ◌^◌, ◌==◌, ◌<◌, ◌≤◌, max, Bool, true, false, List, [], ◌∷◌, length, map, All, Option, Some, None, Result, Ok, Err, nat_lt, if◌then◌else◌, refl, sym, ap, ◌∙◌, subst, arith}
use Rattle.std.proofs.lemmas.Bool.Decides.{nat_tests}
use Rattle.std.proofs.lemmas.List.Elements.{All-head, All-tail}
use Rattle.fz_base.specs.JobBuffers.{buffer_bound}
use Rattle.fz_base.specs.declared.fault.Fault.{Fault}
use Rattle.fz_block.specs.Checks.{Judge, hdu_at, header_blocks_of, headers_of, unjudged, walk_of}
use Rattle.fz_block.specs.Hdus.{AreHdusOf, Hdu}
use Rattle.fz_block.specs.Header.{next_start_of}
use Rattle.fz_block.specs.Walk.{AreHeadersBetween, AreHeadersFrom, PassFrom, RefusesNone, hdu_of}
use Rattle.fz_block.specs.declared.header.Header.{Header}
use Rattle.fz_checks.specs.Greatest.{greatest}
use Rattle.fz_checks.specs.Judges.{pack_judge, unpack_judge}
use Rattle.fz_head.specs.declared.options.PackOptions.{PackOptions}
use Rattle.fz_files.specs.Buffers.{found_len, header_len, largest_plain, largest_tile, longest_plain, longest_reached}
use Rattle.fz_files.specs.Decided.{first_fault}
use Rattle.fz_files.specs.FirstFault.{IsFirstFault}
use Rattle.fz_files.specs.Laws.{ReachedAreFound, place_of}
use Rattle.fz_files.specs.Restored.{HdusStandFor, header_in, standing}
use Rattle.fz_files.specs.RestoredFile.{restored}
use Rattle.fz_files.specs.Retiled.{if_short, restored_file, restored_unless, plain_of}
use Rattle.fz_files.specs.StandsFor.{StandsFor}
use Rattle.fz_files.specs.Walks.{Reached, found_headers, header_fault, job_walk, reached_after, reached_behind, reached_by, reached_from}
use Rattle.fz_files.specs.declared.job.Job.TheVariants.{Pack, Retile, Unpack}
use Rattle.fz_laws.specs.Outputs.{RestoredIsFound}
use Rattle.fz_laws.specs.OutputsTaken.{OutLaws}
use Rattle.fz_laws.specs.RoundTrip.{HasFirstFault, StandsForRestored}
use Rattle.fz_laws.proofs.RestoredFile.{AreIn, are_in, found_walk, no_header_fault}
use Rattle.fz_retile.specs.Longest.{BoundsAreOfIn, NoHeaderIsLonger}
use Rattle.fz_retile.proofs.ShortHeaders.{AreShort, EachShort, Shorts, all_short, are_hdus, headers_short}

-- each header was found where it begins
abbrev AreFound : List ℕ → List Header → Type 0
AreFound file hs = All (λ h. hdu_at h.hdu h.start file ≡ Ok h) hs

-- what is taken of the laws of walks and of files
pub record WalkTaken : Type 0 where
  pub headers :
      (judge : Judge) (most : ℕ) (file : List ℕ) (hs : List Header) → walk_of judge most file ≡ Ok hs
      → (0 < length hs) × (length hs ≤ most) × RefusesNone judge hs × ((end : ℕ) × (end ≤ length file) × AreHeadersBetween 0 0 end file hs)
  pub pass :
      (judge : Judge) (most : ℕ) (file : List ℕ) (hs : List Header) → walk_of judge most file ≡ Ok hs
      → PassFrom 0 0 (length file) (map (hdu_of file) hs)
  pub found :
      (judge : Judge) (most : ℕ) (file : List ℕ) (hs : List Header) → walk_of judge most file ≡ Ok hs
      → All (λ h. hdu_at h.hdu h.start file ≡ Ok h) hs
  pub blocks : (k start : ℕ) (file : List ℕ) (h : Header) → hdu_at k start file ≡ Ok h → header_blocks_of k start file ≡ Ok h.blocks
  pub all :
      (most : ℕ) (file : List ℕ) (hs : List Header) → headers_of most file ≡ Ok hs
      → (0 < length hs) × (length hs ≤ most) × AreHeadersFrom 0 0 file hs
  pub one :
      (most : ℕ) (file : List ℕ) (hs : List Header) (ks : List Hdu) → headers_of most file ≡ Ok hs
      → AreHdusOf file ks → ks ≡ map (hdu_of file) hs

pub record LongestTaken : Type 0 where
  pub out : OutLaws
  pub walks : WalkTaken
  pub reached : ReachedAreFound
  pub faults : HasFirstFault
  pub stands : StandsForRestored
  pub restored : RestoredIsFound

-- ---- numbers

both_below : (a b most : ℕ) → a ≤ most → b ≤ most → max a b ≤ most
both_below a b most first second = omega (arith, first, second)

first_below : (a b most : ℕ) → max a b ≤ most → a ≤ most
first_below a b most within = omega (arith, within)

second_below : (a b most : ℕ) → max a b ≤ most → b ≤ most
second_below a b most within = omega (arith, within)

greater : (a b : ℕ) → b ≤ a → max a b ≡ a
greater a b less = omega (arith, less)

differ : (a b : ℕ) → a ≡ b → (a == b) ≡ false → ⊥
differ a b same e = grind (arith, nat_tests, same, e)

not_more : (a b : ℕ) → nat_lt a b ≡ false → b ≤ a
not_more a b e = grind (arith, nat_tests, e)

same_most : (n : ℕ) → n ≤ n
same_most n = omega arith

-- ---- the HDUs that a job comes to

module _ (walks : WalkTaken) (judge : Judge) (most : ℕ) (file : List ℕ) where
  after_end : (rest : List Reached) (k : ℕ) (h : Header) (hs : List Header) → AreHeadersFrom k (next_start_of h) file hs →
      ((x : Header) (xs : List Header) → hs ≡ x ∷ xs → greatest (map (header_len file) rest) ≤ most) → (b : Bool) → (next_start_of h == length file) ≡ b →
      greatest (map (header_len file) (if b then [] else rest)) ≤ most
  after_end rest k h hs are later true e = omega arith
  after_end rest k h [] are later false e = absurd (differ (next_start_of h) (length file) are e)
  after_end rest k h (x ∷ xs) are later false e = later x xs refl

  after_judge : (rest : List Reached) (h : Header) (says : Result Bool Fault) → greatest (map (header_len file) (if next_start_of h == length file then [] else rest)) ≤ most →
      greatest (map (header_len file) (reached_behind file h rest says)) ≤ most
  after_judge rest h (Err fault) within = omega arith
  after_judge rest h (Ok true) within = omega arith
  after_judge rest h (Ok false) within = within

  few_blocks : (k start : ℕ) (h : Header) (hs : List Header) → AreHeadersFrom k start file (h ∷ hs) → length (header_in file h) ≤ most → 2880 * h.blocks ≤ most
  few_blocks k start h hs are short =
      let count : h.blocks ≡ length (header_in file h) / 2880 = ap (λ (x : Header). x.blocks) are.2.facts in
      omega (arith, count, short)

  reached_short : (more k start : ℕ) (h : Header) (hs : List Header) → AreHeadersFrom k start file (h ∷ hs) → AreFound file (h ∷ hs) → EachShort file most (h ∷ hs) →
      greatest (map (header_len file) (reached_from judge more k start file)) ≤ most
  unfolding reached_from
  reached_short zero k start h hs are found each = omega arith
  reached_short (suc more) k start h hs are found each =
      let P : Header → Type 0 = λ x. hdu_at x.hdu x.start file ≡ Ok x in
      let same : hdu_at h.hdu h.start file ≡ hdu_at k start file = (λ i. hdu_at (are.0 i) (are.1 i) file) in
      let here : hdu_at k start file ≡ Ok h = sym same ∙ All-head P h hs found in
      let rest : List Reached = reached_from judge more (suc k) (next_start_of h) file in
      let first : found_len (header_blocks_of k start file) ≤ most = subst (λ r. found_len r ≤ most) (sym (walks.blocks k start file h here)) (few_blocks k start h hs are each.0) in
      let later : greatest (map (header_len file) (if next_start_of h == length file then [] else rest)) ≤ most =
      after_end rest (suc k) h hs are.3 (λ x xs e. reached_short more (suc k) (next_start_of h) x xs (subst (AreHeadersFrom (suc k) (next_start_of h) file) e are.3) (subst (AreFound file) e (All-tail P h hs found)) (subst (EachShort file most) e each.1))
      (next_start_of h == length file) refl in
      let behind : greatest (map (header_len file) (reached_after file judge (λ x. reached_from judge more (suc k) (next_start_of x) file) (hdu_at k start file))) ≤ most =
      subst (λ r. greatest (map (header_len file) (reached_after file judge (λ x. reached_from judge more (suc k) (next_start_of x) file) r)) ≤ most) (sym here) (after_judge rest h (judge h) later) in
      both_below (found_len (header_blocks_of k start file)) (greatest (map (header_len file) (reached_after file judge (λ x. reached_from judge more (suc k) (next_start_of x) file) (hdu_at k start file)))) most first behind

  all_reached : (more : ℕ) (hs : List Header) → 0 < length hs → AreHeadersFrom 0 0 file hs → AreFound file hs → EachShort file most hs →
      greatest (map (header_len file) (reached_from judge more 0 0 file)) ≤ most
  all_reached more [] some are found each = absurd (omega (arith, some))
  all_reached more (h ∷ hs) some are found each = reached_short more 0 0 h hs are found each

  -- each header of a file in which no header is refused is one of those
  each_reached : (k start end : ℕ) (hs : List Header) → AreHeadersBetween k start end file hs → AreFound file hs → greatest (map (header_len file) (map place_of hs)) ≤ most → EachShort file most hs
  each_reached k start end [] are found within = tt
  each_reached k start end (h ∷ hs) are found within =
      let P : Header → Type 0 = λ x. hdu_at x.hdu x.start file ≡ Ok x in
      let len : found_len (header_blocks_of h.hdu h.start file) ≡ 2880 * h.blocks = ap found_len (walks.blocks h.hdu h.start file h (All-head P h hs found)) in
      let first : found_len (header_blocks_of h.hdu h.start file) ≤ most = first_below (found_len (header_blocks_of h.hdu h.start file)) (greatest (map (header_len file) (map place_of hs))) most within in
      let count : h.blocks ≡ length (header_in file h) / 2880 = ap (λ (x : Header). x.blocks) are.2.facts in
      let whole = are.2.whole.blocks in (
        omega (arith, len, first, count, whole),
        each_reached (suc k) (next_start_of h) end hs are.3 (All-tail P h hs found) (second_below (found_len (header_blocks_of h.hdu h.start file)) (greatest (map (header_len file) (map place_of hs))) most within),
      )

-- ---- both files

module _ (laws : LongestTaken) where
  shorts : (file plain : List ℕ) → StandsFor file plain → length plain ≤ 2 ^ 62 → Shorts 0 (longest_reached Unpack file) plain
  unfolding job_walk
  shorts file plain is few =
      let most : ℕ = longest_reached Unpack file in
      let none : header_fault Unpack file ≡ None = no_header_fault (header_fault Unpack file) file is.sound in
      let walk = found_walk file (walk_of (unpack_judge file) 65536 file) none in
      let found = laws.walks.headers (unpack_judge file) 65536 file walk.0 walk.1 in
      let are : AreIn file 0 walk.0 = are_in file 0 0 found.3.0 0 walk.0 found.3.2 (laws.walks.pass (unpack_judge file) 65536 file walk.0 walk.1) found.2 in
      let places : reached_by Unpack file ≡ map place_of walk.0 = laws.reached Unpack file none ∙ ap (λ r. map place_of (found_headers r)) walk.1 in
      let within : greatest (map (header_len file) (map place_of walk.0)) ≤ most = subst (λ l. greatest (map (header_len file) l) ≤ most) places (same_most most) in
      let each : EachShort file most walk.0 =
      each_reached laws.walks (unpack_judge file) most file 0 0 found.3.0 walk.0 found.3.2 (laws.walks.found (unpack_judge file) 65536 file walk.0 walk.1) within in
      all_short laws.out file most walk.0 plain found.0 found.1 few are each (subst (λ r. HdusStandFor file (standing file (found_headers r)) plain) walk.1 is.parts)

  plain_short : (o : PackOptions) (file plain : List ℕ) → StandsFor file plain → length plain ≤ 2 ^ 62 → longest_reached (Pack o) plain ≤ longest_reached Unpack file
  unfolding reached_by
  plain_short o file plain is few =
      let most : ℕ = longest_reached Unpack file in
      let found = laws.restored file plain is few in
      let all = laws.walks.all 65536 plain found.0 found.1 in
      let s : Shorts 0 most plain = shorts file plain is few in
      let same : s.hdus ≡ map (hdu_of plain) found.0 = laws.walks.one 65536 plain found.0 s.hdus found.1 (record { parts = s.parts; each = are_hdus 0 most s.hdus s.each }) in
      let each : EachShort plain most found.0 = headers_short plain 0 most found.0 (subst (AreShort 0 most) same s.each) in
      all_reached laws.walks (pack_judge o plain) most plain 65535 found.0 all.0 all.2 (laws.walks.found unjudged 65536 plain found.0 found.1) each

  pub no_header_longer : NoHeaderIsLonger
  unfolding restored_file
  no_header_longer o file bytes = by_fault (first_fault Unpack file) refl
    where
      by_length : first_fault Unpack file ≡ None → (b : Bool) → nat_lt (2 ^ 62) (length (restored file)) ≡ b → longest_plain o (if b then None else Some (restored file)) ≤ longest_reached Unpack file
      by_length none true long = omega arith
      by_length none false short =
          let sound : IsFirstFault Unpack file None = subst (IsFirstFault Unpack file) none (laws.faults Unpack file bytes) in
          plain_short o file (restored file) (laws.stands file sound) (not_more (2 ^ 62) (length (restored file)) short)

      by_fault : (found : Option Fault) → first_fault Unpack file ≡ found → longest_plain o (if_short (restored_unless found file)) ≤ longest_reached Unpack file
      by_fault (Some x) e = omega arith
      by_fault None e = by_length e (nat_lt (2 ^ 62) (length (restored file))) refl

  pub bounds_are : BoundsAreOfIn
  bounds_are o file asked bytes =
      let longest : max (longest_reached Unpack file) (longest_plain o (plain_of file)) ≡ longest_reached Unpack file = greater (longest_reached Unpack file) (longest_plain o (plain_of file)) (no_header_longer o file bytes) in
      record {
        packing = ap (λ n. buffer_bound n (largest_plain o (plain_of file)) asked) longest;
        both = ap (λ n. buffer_bound n (largest_tile (Retile o) file) asked) longest;
      }
