-- The takings of a patch stay within its bound.
use Rattle.std.specs.Prelude.{⊤}
use Rattle.std.proofs.Common.{◌≡◌, ℕ, zero, suc, ◌+◌, ◌*◌, ◌≤◌, ◌==◌, true, false, nat_lt, max, Bool, List, [], ◌∷◌, ◌++◌, length, map, Option, Some, None, Result, Ok, Err, if◌then◌else◌, refl, sym, ap, ◌∙◌, subst, arith}
use Rattle.std.proofs.lemmas.Bool.Decides.{nat_tests}
use Rattle.fz_base.specs.JobBuffers.{buffer_bound}
use Rattle.fz_base.specs.Refusal.{first_refusal}
use Rattle.fz_base.specs.Takings.{first_past, piled}
use Rattle.fz_base.specs.declared.fault.Fault.{Fault}
use Rattle.fz_block.specs.Checks.{Judge, by_judgement, followed_by, header_blocks_of, headers_of, hdu_at, judged, unjudged, unless_refused, walk_from, walk_of}
use Rattle.fz_block.specs.Header.{next_start_of}
use Rattle.fz_block.specs.Takings.{for_those_after, header_taking, walk_takings, where_going_on}
use Rattle.fz_block.specs.Walk.{stops}
use Rattle.fz_block.specs.declared.header.Header.{Header}
use Rattle.fz_checks.specs.Greatest.{greatest}
use Rattle.fz_checks.specs.JobChecks.{missing_hdu}
use Rattle.fz_checks.specs.WorkBuffers.{pixels_of_tile}
use Rattle.fz_files.specs.Buffers.{found_len, header_len, room_takings}
use Rattle.fz_files.specs.Restored.{plan_in}
use Rattle.fz_files.specs.Walks.{reached_after, reached_behind, reached_from}
use Rattle.fz_laws.specs.PatchBuffers.{given_len, given_len_after, given_len_by, given_takings, kept_live, longest_read, patch_bound, patch_takings, second_takings, target_takings, target_tile, tile_takings}
use Rattle.fz_laws.specs.PatchChecks.{find_judge, if_all_pass, if_patchable, last_or, own_checks, patch_target, target_checks, wanted_among, wanted_image}
use Rattle.fz_laws.specs.Given.{PatchJob}
use Rattle.fz_laws.specs.PatchLaws.{PatchIsBounded}
use Rattle.fz_laws.specs.PatchTaken.{FoundBlocks}

one_within : (b live asked : ℕ) (ts : List (ℕ × ℕ)) → live + asked ≤ b → first_past b ts ≡ None → first_past b ((live, asked) ∷ ts) ≡ None
one_within b live asked ts room rest = let test : nat_lt b (live + asked) ≡ false = grind (arith, nat_tests) in rw test rest

both_within : (b : ℕ) (xs ys : List (ℕ × ℕ)) → first_past b xs ≡ None → first_past b ys ≡ None → first_past b (xs ++ ys) ≡ None
both_within b [] ys none rest = rest
both_within b ((live, asked) ∷ xs) ys none rest = by_test (λ e. both_within b xs ys e rest) (nat_lt b (live + asked)) none
  where
    by_test : (first_past b xs ≡ None → first_past b (xs ++ ys) ≡ None) → (past : Bool) → (if past then Some (live, asked) else first_past b xs) ≡ None →
        (if past then Some (live, asked) else first_past b (xs ++ ys)) ≡ None
    by_test later true none = absurd cc
    by_test later false none = later none

-- ---- headers

-- the longest header of the HDUs that the checks of every job come to
abbrev longest_from : ℕ → ℕ → ℕ → List ℕ → ℕ
longest_from more k start file = greatest (map (header_len file) (reached_from unjudged more k start file))

header_within : (b live H : ℕ) (r : Result ℕ Fault) → found_len r ≤ H → live + H ≤ b → first_past b (header_taking live r) ≡ None
header_within b live H (Ok n) len room = one_within b live (2880 * n) [] (omega arith) refl
header_within b live H (Err x) len room = refl

first_below : (a b H : ℕ) → max a b ≤ H → a ≤ H
first_below a b H most = omega arith

second_below : (a b H : ℕ) → max a b ≤ H → b ≤ H
second_below a b H most = omega arith

-- a walk with checks of a job comes to no other HDUs
walk_within : (judge : Judge) (b H more k start : ℕ) (file : List ℕ) → longest_from more k start file ≤ H → 2880 + H ≤ b →
    first_past b (walk_takings judge 2880 more k start file) ≡ None
unfolding walk_takings reached_from
walk_within judge b H zero k start file most room = refl
walk_within judge b H (suc more) k start file most room =
    both_within b (header_taking 2880 (header_blocks_of k start file))
    (for_those_after file judge (λ h. walk_takings judge 2880 more (suc k) (next_start_of h) file) (hdu_at k start file))
    (header_within b 2880 H (header_blocks_of k start file) (first_below here others H most) room)
    (by_hdu (λ h le. walk_within judge b H more (suc k) (next_start_of h) file le room) (hdu_at k start file) (second_below here others H most))
  where
    here : ℕ
    here = found_len (header_blocks_of k start file)

    others : ℕ
    others = greatest (map (header_len file) (reached_after file unjudged (λ h. reached_from unjudged more (suc k) (next_start_of h) file) (hdu_at k start file)))

    by_last : ((h : Header) → longest_from more (suc k) (next_start_of h) file ≤ H → first_past b (walk_takings judge 2880 more (suc k) (next_start_of h) file) ≡ None) →
        (h : Header) (last : Bool) → greatest (map (header_len file) (if last then [] else reached_from unjudged more (suc k) (next_start_of h) file)) ≤ H →
        first_past b (if last then [] else walk_takings judge 2880 more (suc k) (next_start_of h) file) ≡ None
    by_last later h true most = refl
    by_last later h false most = later h most

    by_judge : ((h : Header) → longest_from more (suc k) (next_start_of h) file ≤ H → first_past b (walk_takings judge 2880 more (suc k) (next_start_of h) file) ≡ None) →
        (h : Header) (says : Result Bool Fault) → greatest (map (header_len file) (reached_behind file h (reached_from unjudged more (suc k) (next_start_of h) file) (Ok false))) ≤ H →
        first_past b (where_going_on file h (walk_takings judge 2880 more (suc k) (next_start_of h) file) says) ≡ None
    by_judge later h (Err x) most = refl
    by_judge later h (Ok true) most = refl
    by_judge later h (Ok false) most = by_last later h (next_start_of h == length file) most

    by_hdu : ((h : Header) → longest_from more (suc k) (next_start_of h) file ≤ H → first_past b (walk_takings judge 2880 more (suc k) (next_start_of h) file) ≡ None) →
        (r : Result Header Fault) → greatest (map (header_len file) (reached_after file unjudged (λ h. reached_from unjudged more (suc k) (next_start_of h) file) r)) ≤ H →
        first_past b (for_those_after file judge (λ h. walk_takings judge 2880 more (suc k) (next_start_of h) file) r) ≡ None
    by_hdu later (Err x) most = refl
    by_hdu later (Ok h) most = by_judge later h (judge h) most

-- no header is longer
abbrev AreShort : ℕ → List Header → Type 0
AreShort H [] = ⊤
AreShort H (h ∷ hs) = (2880 * h.blocks ≤ H) × AreShort H hs

followed_short : (H : ℕ) (h : Header) → 2880 * h.blocks ≤ H → (r : Result (List Header) Fault) → ((hs : List Header) → r ≡ Ok hs → AreShort H hs) →
    (hs : List Header) → followed_by h r ≡ Ok hs → AreShort H hs
followed_short H h short (Err x) rest hs e = absurd cc
followed_short H h short (Ok ks) rest hs e =
    let same : h ∷ ks ≡ hs = cc in
    subst (AreShort H) same (short, rest ks refl)

walked_short : FoundBlocks → (judge : Judge) (H more k start : ℕ) (file : List ℕ) → longest_from more k start file ≤ H → (hs : List Header) →
    walk_from judge more k start file ≡ Ok hs → AreShort H hs
unfolding walk_from reached_from
walked_short law judge H zero k start file most hs e = absurd cc
walked_short law judge H (suc more) k start file most hs e =
    by_hdu (λ h le ks. walked_short law judge H more (suc k) (next_start_of h) file le ks) (hdu_at k start file) refl (second_below here others H most) e
  where
    here : ℕ
    here = found_len (header_blocks_of k start file)

    others : ℕ
    others = greatest (map (header_len file) (reached_after file unjudged (λ h. reached_from unjudged more (suc k) (next_start_of h) file) (hdu_at k start file)))

    one_short : (h : Header) → hdu_at k start file ≡ Ok h → 2880 * h.blocks ≤ H
    one_short h found =
        let len : found_len (header_blocks_of k start file) ≡ 2880 * h.blocks = ap found_len (law k start file h found) in
        let below : found_len (header_blocks_of k start file) ≤ H = first_below here others H most in
        omega arith

    alone : (h : Header) → 2880 * h.blocks ≤ H → h ∷ [] ≡ hs → AreShort H hs
    alone h short same = subst (AreShort H) same (short, tt)

    by_last : ((h : Header) → longest_from more (suc k) (next_start_of h) file ≤ H → (ks : List Header) → walk_from judge more (suc k) (next_start_of h) file ≡ Ok ks → AreShort H ks) →
        (h : Header) → 2880 * h.blocks ≤ H → (last : Bool) → greatest (map (header_len file) (if last then [] else reached_from unjudged more (suc k) (next_start_of h) file)) ≤ H →
        (if last then Ok (h ∷ []) else followed_by h (walk_from judge more (suc k) (next_start_of h) file)) ≡ Ok hs → AreShort H hs
    by_last later h short true most e = alone h short cc
    by_last later h short false most e = followed_short H h short (walk_from judge more (suc k) (next_start_of h) file) (λ ks same. later h most ks same) hs e

    by_judge : ((h : Header) → longest_from more (suc k) (next_start_of h) file ≤ H → (ks : List Header) → walk_from judge more (suc k) (next_start_of h) file ≡ Ok ks → AreShort H ks) →
        (h : Header) → 2880 * h.blocks ≤ H → (says : Result Bool Fault) →
        greatest (map (header_len file) (reached_behind file h (reached_from unjudged more (suc k) (next_start_of h) file) (Ok false))) ≤ H →
        by_judgement file h (walk_from judge more (suc k) (next_start_of h) file) says ≡ Ok hs → AreShort H hs
    by_judge later h short (Err x) most e = absurd cc
    by_judge later h short (Ok true) most e = alone h short cc
    by_judge later h short (Ok false) most e = by_last later h short (next_start_of h == length file) most e

    by_hdu : ((h : Header) → longest_from more (suc k) (next_start_of h) file ≤ H → (ks : List Header) → walk_from judge more (suc k) (next_start_of h) file ≡ Ok ks → AreShort H ks) →
        (r : Result Header Fault) → hdu_at k start file ≡ r →
        greatest (map (header_len file) (reached_after file unjudged (λ h. reached_from unjudged more (suc k) (next_start_of h) file) r)) ≤ H →
        judged file judge (λ h. walk_from judge more (suc k) (next_start_of h) file) r ≡ Ok hs → AreShort H hs
    by_hdu later (Err x) found most e = absurd cc
    by_hdu later (Ok h) found most e = by_judge later h (one_short h found) (judge h) most e

last_short : (H : ℕ) (fault : Fault) (hs : List Header) (h : Header) → AreShort H hs → last_or fault hs ≡ Ok h → 2880 * h.blocks ≤ H
last_short H fault [] h short e = absurd cc
last_short H fault (k ∷ []) h short e = let same : k ≡ h = cc in subst (λ (x : Header). 2880 * x.blocks ≤ H) same short.0
last_short H fault (k ∷ l ∷ hs) h short e = last_short H fault (l ∷ hs) h short.1 e

-- the header of the wanted HDU is one of those that were read
wanted_short : FoundBlocks → (wanted : Option ℕ) (file : List ℕ) (H : ℕ) → longest_from 65536 0 0 file ≤ H → (h : Header) → wanted_image wanted file ≡ Ok h → 2880 * h.blocks ≤ H
wanted_short law wanted file H most h e = by_walk (walk_of (find_judge wanted file) 65536 file) refl e
  where
    by_stop : (hs : List Header) → AreShort H hs → (stop : Bool) →
        (if stop then last_or (missing_hdu wanted (length hs) (length file)) hs else Err (missing_hdu wanted (length hs) (length file))) ≡ Ok h → 2880 * h.blocks ≤ H
    by_stop hs short true e = last_short H (missing_hdu wanted (length hs) (length file)) hs h short e
    by_stop hs short false e = absurd cc

    by_walk : (r : Result (List Header) Fault) → walk_of (find_judge wanted file) 65536 file ≡ r → wanted_among wanted file r ≡ Ok h → 2880 * h.blocks ≤ H
    by_walk (Err x) found e = absurd cc
    by_walk (Ok hs) found e = by_stop hs (walked_short law (find_judge wanted file) H 65536 0 0 file most hs found) (stops (find_judge wanted file) hs) e

-- ---- the work

tiles_room : (L n blocks : ℕ) → 2880 * blocks ≤ L → 2880 + 2880 * blocks + (32 * n + 65664) ≤ buffer_bound L n 1
unfolding buffer_bound
tiles_room L n blocks short = omega arith

abbrev total : List ℕ → ℕ
total [] = 0
total (n ∷ ns) = n + total ns

piled_within : (b live : ℕ) (ns : List ℕ) → live + total ns ≤ b → first_past b (piled live ns) ≡ None
piled_within b live [] room = refl
piled_within b live (n ∷ ns) room = one_within b live n (piled (live + n) ns) (omega arith) (piled_within b (live + n) ns (omega arith))

tiles_within : (b live n : ℕ) → live + (32 * n + 65664) ≤ b → first_past b (piled live (0 ∷ 8 * n ∷ (8 * n + 64) ∷ 8 * n ∷ (8 * n + 64) ∷ 65536 ∷ [])) ≡ None
tiles_within b live n room = piled_within b live (0 ∷ 8 * n ∷ (8 * n + 64) ∷ 8 * n ∷ (8 * n + 64) ∷ 65536 ∷ []) (omega arith)

headers_room : (L n blocks : ℕ) → 2880 * blocks ≤ L → 2880 + 2880 * blocks + L ≤ buffer_bound L n 1
unfolding buffer_bound
headers_room L n blocks short = omega arith

one_room : (L n : ℕ) → 2880 + L ≤ buffer_bound L n 1
unfolding buffer_bound
one_room L n = omega arith

block_room : (L n : ℕ) → 0 + 2880 ≤ buffer_bound L n 1
unfolding buffer_bound
block_room L n = omega arith

-- the room for headers, before any is read
first_room : (L n : ℕ) → 2880 + 63360 ≤ buffer_bound L n 1
unfolding buffer_bound
first_room L n = omega arith

look_within : (judge : Judge) (L n : ℕ) (file : List ℕ) → longest_from 65536 0 0 file ≤ L → first_past (buffer_bound L n 1) (room_takings judge 2880 65536 file) ≡ None
look_within judge L n file most =
    one_within (buffer_bound L n 1) 2880 63360 (walk_takings judge 2880 65536 0 0 file) (first_room L n)
    (walk_within judge (buffer_bound L n 1) L 65536 0 0 file most (one_room L n))

module _ (law : FoundBlocks) (file patch : List ℕ) (job : PatchJob) where
  target_is : (hs : List Header) (h : Header) → headers_of 65536 file ≡ Ok hs → wanted_image job.wanted file ≡ Ok h → first_refusal (target_checks file patch h job) ≡ None →
      patch_target file patch job ≡ Ok h
  unfolding patch_target
  target_is hs h all found passed =
      (λ j. if_all_pass (all j) (if_patchable file patch job (found j)))
      ∙ ap (unless_refused h) passed

  tiles : (h : Header) (hs : List Header) → headers_of 65536 file ≡ Ok hs → wanted_image job.wanted file ≡ Ok h → 2880 * h.blocks ≤ longest_read file patch job →
      (t : Option Fault) → first_refusal (target_checks file patch h job) ≡ t → first_past (patch_bound file patch job) (tile_takings file h t) ≡ None
  tiles h hs all found short (Some x) is = refl
  tiles h hs all found short None is =
      let n : ℕ = pixels_of_tile (plan_in file h) in
      let same : patch_bound file patch job ≡ buffer_bound (longest_read file patch job) n 1 = ap (λ r. buffer_bound (longest_read file patch job) (target_tile file r) 1) (target_is hs h all found is) in
      let room : 2880 + 2880 * h.blocks + (32 * n + 65664) ≤ patch_bound file patch job =
      subst (λ b. 2880 + 2880 * h.blocks + (32 * n + 65664) ≤ b) (sym same) (tiles_room (longest_read file patch job) n h.blocks short) in
      tiles_within (patch_bound file patch job) (kept_live h) n room

  given : (h : Header) (hs : List Header) → headers_of 65536 file ≡ Ok hs → wanted_image job.wanted file ≡ Ok h → 2880 * h.blocks ≤ longest_read file patch job →
      (o : Option Fault) → given_len patch o ≤ longest_read file patch job → first_past (patch_bound file patch job) (given_takings file patch job h o) ≡ None
  given h hs all found short (Some x) len = refl
  given h hs all found short None len =
      both_within (patch_bound file patch job) (header_taking (kept_live h) (header_blocks_of 0 0 patch)) (tile_takings file h (first_refusal (target_checks file patch h job)))
      (header_within (patch_bound file patch job) (kept_live h) (longest_read file patch job) (header_blocks_of 0 0 patch) len
      (headers_room (longest_read file patch job) (target_tile file (patch_target file patch job)) h.blocks short))
      (tiles h hs all found short (first_refusal (target_checks file patch h job)) refl)

  target : (hs : List Header) → headers_of 65536 file ≡ Ok hs → longest_from 65536 0 0 file ≤ longest_read file patch job → (w : Result Header Fault) → wanted_image job.wanted file ≡ w →
      given_len_by file patch job w ≤ longest_read file patch job → first_past (patch_bound file patch job) (target_takings file patch job w) ≡ None
  target hs all most (Err x) found len = refl
  target hs all most (Ok h) found len =
      let short : 2880 * h.blocks ≤ longest_read file patch job = wanted_short law job.wanted file (longest_read file patch job) most h found in
      one_within (patch_bound file patch job) 2880 (2880 * h.blocks) (given_takings file patch job h (first_refusal (own_checks file h job)))
      (let room = one_room (longest_read file patch job) (target_tile file (patch_target file patch job)) in omega arith)
      (given h hs all found short (first_refusal (own_checks file h job)) len)

  second : longest_from 65536 0 0 file ≤ longest_read file patch job → (r : Result (List Header) Fault) → headers_of 65536 file ≡ r →
      given_len_after file patch job r ≤ longest_read file patch job → first_past (patch_bound file patch job) (second_takings file patch job r) ≡ None
  second most (Err x) all len = refl
  second most (Ok hs) all len =
      both_within (patch_bound file patch job) (room_takings (find_judge job.wanted file) 2880 65536 file) (target_takings file patch job (wanted_image job.wanted file))
      (look_within (find_judge job.wanted file) (longest_read file patch job) (target_tile file (patch_target file patch job)) file most)
      (target hs all most (wanted_image job.wanted file) refl len)

  pub bounded : first_past (patch_bound file patch job) (patch_takings file patch job) ≡ None
  unfolding patch_takings
  bounded =
      let given_most : ℕ = given_len_after file patch job (headers_of 65536 file) in
      let most : longest_from 65536 0 0 file ≤ longest_read file patch job = first_below (longest_from 65536 0 0 file) given_most (longest_read file patch job) (omega arith) in
      let len : given_most ≤ longest_read file patch job = second_below (longest_from 65536 0 0 file) given_most (longest_read file patch job) (omega arith) in
      one_within (patch_bound file patch job) 0 2880 (room_takings unjudged 2880 65536 file ++ second_takings file patch job (headers_of 65536 file))
      (block_room (longest_read file patch job) (target_tile file (patch_target file patch job)))
      (both_within (patch_bound file patch job) (room_takings unjudged 2880 65536 file) (second_takings file patch job (headers_of 65536 file))
      (look_within unjudged (longest_read file patch job) (target_tile file (patch_target file patch job)) file most)
      (second most (headers_of 65536 file) refl len))

pub patch_is_bounded : FoundBlocks → PatchIsBounded
patch_is_bounded law file patch job = bounded law file patch job
