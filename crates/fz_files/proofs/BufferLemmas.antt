-- The takings of a job stay within its bound.
use Rattle.std.proofs.Common.{◌≡◌, ℕ, zero, suc, ◌+◌, ◌*◌, ◌≤◌, ◌==◌, true, false, nat_lt, Bool, List, [], ◌∷◌, ◌++◌, length, map, max, Option, Some, None, Result, Ok, Err, refl, ◌∙◌, ap, arith, if◌then◌else◌}
use Rattle.std.proofs.Math.Nat.{mul-le-mul_left, mul-le-mul_right}
use Rattle.std.proofs.lemmas.Bool.Decides.{nat_tests}
use Rattle.fz_base.specs.Takings.{piled, first_past}
use Rattle.fz_base.specs.declared.fault.Fault.{Fault}
use Rattle.fz_block.specs.Checks.{Judge, header_blocks_of, hdu_at}
use Rattle.fz_block.specs.Header.{next_start_of}
use Rattle.fz_block.specs.Takings.{header_taking, where_going_on, for_those_after, walk_takings}
use Rattle.fz_block.specs.declared.header.Header.{Header}
use Rattle.fz_checks.specs.Greatest.{greatest}
use Rattle.fz_head.specs.declared.options.CodecWord.{CodecWord}
use Rattle.fz_head.specs.declared.options.CodecWord.TheVariants as word
use Rattle.fz_files.specs.declared.job.Job.{Job}
use Rattle.fz_files.specs.declared.job.Job.TheVariants.{Pack, Unpack, Cut, Verify, List as ListHdus, Drill, Retile}
use Rattle.fz_base.specs.JobBuffers.{buffer_bound, slots_buffers}
use Rattle.fz_head.specs.declared.options.PackOptions.{PackOptions}
use Rattle.fz_files.specs.Retiled.{plain_of}
use Rattle.fz_files.specs.Buffers.{found_len, header_len, job_buffers, longest_header, longest_plain, largest_tile, largest_plain, header_takings, room_takings, work_takings, file_takings, plain_takings, drill_takings, job_bound, job_takings, IsOfFile}
use Rattle.fz_files.specs.Drill.{drill_file, drill_options, drill_packed, drill_sieve}
use Rattle.fz_files.specs.Laws.{AreWithinDrill}
use Rattle.fz_files.specs.Walks.{reached_behind, reached_after, reached_from, reached_by, header_fault}

one_within : (b live asked : ℕ) (ts : List (ℕ × ℕ)) → live + asked ≤ b → first_past b ts ≡ None → first_past b ((live, asked) ∷ ts) ≡ None
one_within b live asked ts room rest = let test : nat_lt b (live + asked) ≡ false = grind (arith, nat_tests) in rw test rest

both_within : (b : ℕ) (xs ys : List (ℕ × ℕ)) → first_past b xs ≡ None → first_past b ys ≡ None → first_past b (xs ++ ys) ≡ None
both_within b [] ys none rest = rest
both_within b ((live, asked) ∷ xs) ys none rest = by_test (λ e. both_within b xs ys e rest) (nat_lt b (live + asked)) none
  where
    by_test : (first_past b xs ≡ None → first_past b (xs ++ ys) ≡ None) → (past : Bool) → (if past then Some (live, asked) else first_past b xs) ≡ None →
        (if past then Some (live, asked) else first_past b (xs ++ ys)) ≡ None
    by_test later true none = absurd cc
    by_test later false none = later none

-- ---- headers

header_within : (b H : ℕ) (r : Result ℕ Fault) → found_len r ≤ H → 2880 + H ≤ b → first_past b (header_taking 2880 r) ≡ None
header_within b H (Ok n) len room = one_within b 2880 (2880 * n) [] (omega arith) refl
header_within b H (Err x) len room = refl

first_below : (a b H : ℕ) → max a b ≤ H → a ≤ H
first_below a b H most = omega arith

second_below : (a b H : ℕ) → max a b ≤ H → b ≤ H
second_below a b H most = omega arith

walk_within : (judge : Judge) (b H more k start : ℕ) (file : List ℕ) → greatest (map (header_len file) (reached_from judge more k start file)) ≤ H → 2880 + H ≤ b →
    first_past b (walk_takings judge 2880 more k start file) ≡ None
unfolding walk_takings reached_from
walk_within judge b H zero k start file most room = refl
walk_within judge b H (suc more) k start file most room =
    both_within b (header_taking 2880 (header_blocks_of k start file))
    (for_those_after file judge (λ h. walk_takings judge 2880 more (suc k) (next_start_of h) file) (hdu_at k start file))
    (header_within b H (header_blocks_of k start file) (first_below here others H most) room)
    (by_hdu (λ h le. walk_within judge b H more (suc k) (next_start_of h) file le room) (hdu_at k start file) (second_below here others H most))
  where
    here : ℕ
    here = found_len (header_blocks_of k start file)

    others : ℕ
    others = greatest (map (header_len file) (reached_after file judge (λ h. reached_from judge more (suc k) (next_start_of h) file) (hdu_at k start file)))

    by_last : ((h : Header) → greatest (map (header_len file) (reached_from judge more (suc k) (next_start_of h) file)) ≤ H →
        first_past b (walk_takings judge 2880 more (suc k) (next_start_of h) file) ≡ None) → (h : Header) (last : Bool) →
        greatest (map (header_len file) (if last then [] else reached_from judge more (suc k) (next_start_of h) file)) ≤ H →
        first_past b (if last then [] else walk_takings judge 2880 more (suc k) (next_start_of h) file) ≡ None
    by_last later h true most = refl
    by_last later h false most = later h most

    by_judge : ((h : Header) → greatest (map (header_len file) (reached_from judge more (suc k) (next_start_of h) file)) ≤ H →
        first_past b (walk_takings judge 2880 more (suc k) (next_start_of h) file) ≡ None) → (h : Header) (says : Result Bool Fault) →
        greatest (map (header_len file) (reached_behind file h (reached_from judge more (suc k) (next_start_of h) file) says)) ≤ H →
        first_past b (where_going_on file h (walk_takings judge 2880 more (suc k) (next_start_of h) file) says) ≡ None
    by_judge later h (Err x) most = refl
    by_judge later h (Ok true) most = refl
    by_judge later h (Ok false) most = by_last later h (next_start_of h == length file) most

    by_hdu : ((h : Header) → greatest (map (header_len file) (reached_from judge more (suc k) (next_start_of h) file)) ≤ H →
        first_past b (walk_takings judge 2880 more (suc k) (next_start_of h) file) ≡ None) → (r : Result Header Fault) →
        greatest (map (header_len file) (reached_after file judge (λ h. reached_from judge more (suc k) (next_start_of h) file) r)) ≤ H →
        first_past b (for_those_after file judge (λ h. walk_takings judge 2880 more (suc k) (next_start_of h) file) r) ≡ None
    by_hdu later (Err x) most = refl
    by_hdu later (Ok h) most = by_judge later h (judge h) most

-- ---- the work

abbrev total : List ℕ → ℕ
total [] = 0
total (n ∷ ns) = n + total ns

total_append : (xs ys : List ℕ) → total (xs ++ ys) ≡ total xs + total ys
total_append [] ys = omega arith
total_append (x ∷ xs) ys = let rest : total (xs ++ ys) ≡ total xs + total ys = total_append xs ys in omega arith

slots_total : (n slots : ℕ) → total (slots_buffers n slots) ≡ slots * (16 * n + 64)
slots_total n zero = omega arith
slots_total n (suc slots) =
    let rest : total (slots_buffers n slots) ≡ slots * (16 * n + 64) = slots_total n slots in
    let more : suc slots * (16 * n + 64) ≡ (16 * n + 64) + slots * (16 * n + 64) = grind arith in
    omega arith

piled_within : (b live : ℕ) (ns : List ℕ) → live + total ns ≤ b → first_past b (piled live ns) ≡ None
piled_within b live [] room = refl
piled_within b live (n ∷ ns) room = one_within b live n (piled (live + n) ns) (omega arith) (piled_within b (live + n) ns (omega arith))

-- the slots and the copy buffer
slots_and_copy : (n W : ℕ) → total (slots_buffers n (2 * W) ++ 65536 ∷ []) ≡ 2 * W * (16 * n + 64) + 65536
slots_and_copy n W = total_append (slots_buffers n (2 * W)) (65536 ∷ []) ∙ ap (λ t. t + 65536) (slots_total n (2 * W))

work_within : (job : Job) (H n W : ℕ) → 2880 + total (job_buffers job H n W) ≤ buffer_bound H n W
unfolding buffer_bound
work_within (Pack o) H n W = let same : _ = slots_and_copy n W in omega arith
work_within Unpack H n W = let same : _ = slots_and_copy n W in omega arith
work_within (Cut wanted sieve) H n W = let same : _ = slots_and_copy n W in omega arith
work_within Verify H n W = let same : _ = slots_and_copy n W in omega arith
work_within ListHdus H n W = omega arith
work_within (Drill rows) H n W = omega arith
work_within (Retile o) H n W = omega arith

behind_within : (found : Option Fault) (job : Job) (file : List ℕ) (W : ℕ) →
    first_past (buffer_bound (longest_header job file) (largest_tile job file) W) (work_takings found job file W) ≡ None
behind_within (Some fault) job file W = refl
behind_within None job file W =
    piled_within (buffer_bound (longest_header job file) (largest_tile job file) W) 2880 (job_buffers job (longest_header job file) (largest_tile job file) W)
    (work_within job (longest_header job file) (largest_tile job file) W)

header_room : (H n W : ℕ) → 2880 + H ≤ buffer_bound H n W
unfolding buffer_bound
header_room H n W = omega arith

-- the room for headers, before any is read
room_within : (H n W : ℕ) → 2880 + 63360 ≤ buffer_bound H n W
unfolding buffer_bound
room_within H n W = omega arith

look_within : (judge : Judge) (H n W most : ℕ) (file : List ℕ) → greatest (map (header_len file) (reached_from judge most 0 0 file)) ≤ H →
    first_past (buffer_bound H n W) (room_takings judge 2880 most file) ≡ None
look_within judge H n W most file longest =
    one_within (buffer_bound H n W) 2880 63360 (walk_takings judge 2880 most 0 0 file) (room_within H n W)
    (walk_within judge (buffer_bound H n W) H most 0 0 file longest (header_room H n W))

headers_within : (job : Job) (file : List ℕ) (n W : ℕ) → first_past (buffer_bound (longest_header job file) n W) (header_takings job file) ≡ None
unfolding reached_by
headers_within (Pack o) file n W = look_within _ (longest_header (Pack o) file) n W 65535 file (omega arith)
headers_within Unpack file n W = look_within _ (longest_header Unpack file) n W 65536 file (omega arith)
headers_within (Cut wanted sieve) file n W = look_within _ (longest_header (Cut wanted sieve) file) n W 65536 file (omega arith)
headers_within Verify file n W = look_within _ (longest_header Verify file) n W 65536 file (omega arith)
headers_within ListHdus file n W = look_within _ (longest_header ListHdus file) n W 65536 file (omega arith)
headers_within (Drill rows) file n W = refl
headers_within (Retile o) file n W = look_within _ (longest_header (Retile o) file) n W 65536 file (omega arith)

block_room : (H n W : ℕ) → 0 + 2880 ≤ buffer_bound H n W
unfolding buffer_bound
block_room H n W = omega arith

file_within : (job : Job) (file : List ℕ) (W : ℕ) → first_past (buffer_bound (longest_header job file) (largest_tile job file) W) (file_takings job file W) ≡ None
file_within job file W =
    let bound : ℕ = buffer_bound (longest_header job file) (largest_tile job file) W in
    one_within bound 0 2880 (header_takings job file ++ work_takings (header_fault job file) job file W) (block_room (longest_header job file) (largest_tile job file) W)
    (both_within bound (header_takings job file) (work_takings (header_fault job file) job file W)
    (headers_within job file (largest_tile job file) W) (behind_within (header_fault job file) job file W))

-- ---- greater bounds

pub bound_rises : (H H' n n' W W' : ℕ) → H ≤ H' → n ≤ n' → W ≤ W' → buffer_bound H n W ≤ buffer_bound H' n' W'
unfolding buffer_bound
bound_rises H H' n n' W W' longer larger more =
    let slots : 2 * W * (16 * n + 64) ≤ 2 * W * (16 * n' + 64) = mul-le-mul_left (2 * W) (omega (arith, larger)) in
    let workers : 2 * W * (16 * n' + 64) ≤ 2 * W' * (16 * n' + 64) = mul-le-mul_right (16 * n' + 64) (omega (arith, more)) in
    omega (arith, longer, slots, workers)

-- what stays within a bound stays within a greater one
grown : (b c : ℕ) (ts : List (ℕ × ℕ)) → b ≤ c → first_past b ts ≡ None → first_past c ts ≡ None
grown b c [] most none = refl
grown b c ((live, asked) ∷ ts) most none = by_test (λ rest. grown b c ts most rest) (nat_lt b (live + asked)) refl none
  where
    by_test : (first_past b ts ≡ None → first_past c ts ≡ None) → (past : Bool) → nat_lt b (live + asked) ≡ past → (if past then Some (live, asked) else first_past b ts) ≡ None →
        first_past c ((live, asked) ∷ ts) ≡ None
    by_test later true is none = absurd cc
    by_test later false is none = one_within c live asked ts (grind (arith, nat_tests, is, most)) (later none)

-- the file that is packed anew, within the greater of two bounds
plain_within : (o : PackOptions) (plain : Option (List ℕ)) (H n W : ℕ) → first_past (buffer_bound (max H (longest_plain o plain)) (max n (largest_plain o plain)) W) (plain_takings o plain W) ≡ None
plain_within o None H n W = refl
plain_within o (Some u) H n W =
    grown (buffer_bound (longest_header (Pack o) u) (largest_tile (Pack o) u) W) (buffer_bound (max H (longest_header (Pack o) u)) (max n (largest_tile (Pack o) u)) W) (file_takings (Pack o) u W)
    (bound_rises (longest_header (Pack o) u) (max H (longest_header (Pack o) u)) (largest_tile (Pack o) u) (max n (largest_tile (Pack o) u)) W W (omega arith) (omega arith) (omega arith))
    (file_within (Pack o) u W)

retile_within : (o : PackOptions) (file : List ℕ) (W : ℕ) → first_past (job_bound (Retile o) file W) (file_takings Unpack file W ++ plain_takings o (plain_of file) W) ≡ None
retile_within o file W =
    let H : ℕ = longest_header Unpack file in
    let n : ℕ = largest_tile Unpack file in
    let H' : ℕ = longest_header (Retile o) file in
    let n' : ℕ = largest_tile (Retile o) file in
    both_within (job_bound (Retile o) file W) (file_takings Unpack file W) (plain_takings o (plain_of file) W)
    (grown (buffer_bound H n W) (buffer_bound H' n' W) (file_takings Unpack file W) (bound_rises H H' n n' W W (omega arith) (omega arith) (omega arith)) (file_within Unpack file W))
    (plain_within o (plain_of file) H n W)

pub all_within : (job : Job) (file : List ℕ) (asked : ℕ) → IsOfFile job → first_past (job_bound job file asked) (job_takings job file asked) ≡ None
all_within (Pack o) file asked of = file_within (Pack o) file asked
all_within Unpack file asked of = file_within Unpack file asked
all_within (Cut wanted sieve) file asked of = file_within (Cut wanted sieve) file asked
all_within Verify file asked of = file_within Verify file 1
all_within ListHdus file asked of = file_within ListHdus file 1
all_within (Drill rows) file asked of = absurd of
all_within (Retile o) file asked of = retile_within o file asked

codec_within : (rows : ℕ) (codec : CodecWord) → AreWithinDrill rows codec → first_past (job_bound (Drill rows) [] 4) (drill_takings rows codec) ≡ None
codec_within rows codec are =
    let bound : ℕ = job_bound (Drill rows) [] 4 in
    both_within bound (file_takings (Pack (drill_options codec)) (drill_file rows) 4) (file_takings Unpack (drill_packed rows codec) 4 ++ file_takings (Cut None (drill_sieve rows)) (drill_packed rows codec) 4)
    (grown (job_bound (Pack (drill_options codec)) (drill_file rows) 4) bound (file_takings (Pack (drill_options codec)) (drill_file rows) 4) are.packs (file_within (Pack (drill_options codec)) (drill_file rows) 4))
    (both_within bound (file_takings Unpack (drill_packed rows codec) 4) (file_takings (Cut None (drill_sieve rows)) (drill_packed rows codec) 4)
    (grown (job_bound Unpack (drill_packed rows codec) 4) bound (file_takings Unpack (drill_packed rows codec) 4) are.unpacks (file_within Unpack (drill_packed rows codec) 4))
    (grown (job_bound (Cut None (drill_sieve rows)) (drill_packed rows codec) 4) bound (file_takings (Cut None (drill_sieve rows)) (drill_packed rows codec) 4) are.cuts
    (file_within (Cut None (drill_sieve rows)) (drill_packed rows codec) 4)))

pub drill_within : (rows : ℕ) (file : List ℕ) (asked : ℕ) → ((codec : CodecWord) → AreWithinDrill rows codec) → first_past (job_bound (Drill rows) file asked) (job_takings (Drill rows) file asked) ≡ None
drill_within rows file asked are =
    let bound : ℕ = job_bound (Drill rows) [] 4 in
    both_within bound (drill_takings rows word.Rice) (drill_takings rows word.Plio ++ drill_takings rows word.None) (codec_within rows word.Rice (are word.Rice))
    (both_within bound (drill_takings rows word.Plio) (drill_takings rows word.None) (codec_within rows word.Plio (are word.Plio)) (codec_within rows word.None (are word.None)))
