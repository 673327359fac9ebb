-- What a job's buffers are together: as much as it holds, and within its bound.
use Rattle.std.proofs.Common.{◌≡◌, ℕ, ◌+◌, ◌*◌, ◌<◌, ◌≤◌, nat_lt, Bool, true, false, if◌then◌else◌, List, [], ◌∷◌, ◌++◌, sum, refl, sym, ap, ◌∙◌, arith}
use Rattle.std.specs.Prelude.{Option, Some, None}
use Rattle.std.proofs.Math.Nat.{mul-le-mul_left}
use Rattle.std.proofs.lemmas.Bool.Decides.{nat_tests}
use Rattle.fz_base.specs.JobBuffers.{slots_buffers, buffer_bound}
use Rattle.fz_base.specs.Takings.{first_past, piled}
use Rattle.fz_checks.specs.WorkBuffers.{tile_buffers, translated_buffers}
use Rattle.fz_pool.specs.Laws.{AsksForFresh, AsksAlike}
use Rattle.fz_pool.specs.Window.{Pool, asked_for, fresh_bytes}
use Rattle.fz_job.specs.Workspace.{AreSizedFor, HasLengths, copy_len, held_bytes, pixels_of, slots_for, wanted_buffers, window_for}
use Rattle.fz_job.specs.declared.workspace.Wants.{Wants}
use Rattle.fz_job.specs.declared.workspace.Workspace.{Workspace}
use Rattle.fz_job.proofs.WorkTakings.{behind, sum_both, sum_first, sum_one, sum_slots}

-- buffers that are within a limit together pass it with none of them
pub none_past : (limit live : ℕ) (buffers : List ℕ) → live + sum buffers ≤ limit → first_past limit (piled live buffers) ≡ None
none_past limit live [] room = refl
none_past limit live (n ∷ ns) room =
    let first = sum_first n ns in
    behind limit live n (first_past limit (piled (live + n) ns)) None (omega (arith, first, room)) (none_past limit (live + n) ns (omega (arith, first, room)))

same_taking : (p q : ℕ × ℕ) → Some p ≡ Some q → (p.0 ≡ q.0) × (p.1 ≡ q.1)
same_taking p q e =
    let same : p ≡ q = cc in
    (ap (λ (t : ℕ × ℕ). t.0) same, ap (λ (t : ℕ × ℕ). t.1) same)

-- the one that passes it first is, with what is live before it, no more than all of them
past_one : (limit live n before asked all : ℕ) (later : Option (ℕ × ℕ)) (b : Bool) → nat_lt limit (live + n) ≡ b → live + n ≤ all →
    (later ≡ Some (before, asked) → (limit < before + asked) × (before + asked ≤ all)) →
    (if b then Some (live, n) else later) ≡ Some (before, asked) → (limit < before + asked) × (before + asked ≤ all)
past_one limit live n before asked all later true over fits behind_it e =
    let passes : limit < live + n = grind (arith, nat_tests, over) in
    let same = same_taking (live, n) (before, asked) e in
    (omega (arith, same.0, same.1, passes), omega (arith, same.0, same.1, fits))
past_one limit live n before asked all later false under fits behind_it e = behind_it e

pub past_within : (limit live before asked : ℕ) (buffers : List ℕ) → first_past limit (piled live buffers) ≡ Some (before, asked) → (limit < before + asked) × (before + asked ≤ live + sum buffers)
past_within limit live before asked [] is = absurd cc
past_within limit live before asked (n ∷ ns) is =
    let first = sum_first n ns in
    past_one limit live n before asked (live + sum (n ∷ ns)) (first_past limit (piled (live + n) ns)) (nat_lt limit (live + n)) refl (omega (arith, first))
    (λ e. let rest = past_within limit (live + n) before asked ns e in (rest.0, omega (arith, rest.1, first))) is

sum_work : (wants : Wants) (W : ℕ) → sum (wanted_buffers wants W) ≡ wants.header_len + (sum (translated_buffers wants.translates wants.header_len) + sum (tile_buffers W wants.tile))
sum_work wants W =
    sum_first wants.header_len (translated_buffers wants.translates wants.header_len ++ tile_buffers W wants.tile)
    ∙ ap (λ n. wants.header_len + n) (sum_both (translated_buffers wants.translates wants.header_len) (tile_buffers W wants.tile))

sum_tiles : (W n : ℕ) → sum (tile_buffers W (Some n)) ≡ 2 * W * fresh_bytes n + 65536
sum_tiles W n =
    sum_both (slots_buffers n (2 * W)) (65536 ∷ []) ∙ (λ i. sum_slots n (2 * W) i + sum_one 65536 i)

-- ---- what is held

-- what is asked for the slots of a window that was filled
pub asked_filled : AsksForFresh → (n W : ℕ) (w : Pool) → w ≡ window_for W (Some n) → asked_for w.slots ≡ sum (slots_buffers n (2 * W))
asked_filled asked n W w is = ap (λ (p : Pool). asked_for p.slots) is ∙ (asked (2 * W) n ∙ sym (sum_slots n (2 * W)))

asked_tiles : AsksForFresh → (W : ℕ) (tile : Option ℕ) → copy_len tile + asked_for (slots_for W tile) ≡ sum (tile_buffers W tile)
asked_tiles asked W None = refl
asked_tiles asked W (Some n) = let all = asked (2 * W) n in let tiles = sum_tiles W n in omega (arith, all, tiles)

pub held_is : AsksForFresh → AsksAlike → (wants : Wants) (w : Workspace) (pool : Pool) → HasLengths wants w → AreSizedFor wants.tile pool → held_bytes w pool ≡ sum (wanted_buffers wants pool.workers)
held_is asked alike wants w pool lengths sizes =
    let slots : asked_for pool.slots ≡ asked_for (slots_for pool.workers wants.tile) = alike (slots_for pool.workers wants.tile) pool.slots sizes in
    let tiles = asked_tiles asked pool.workers wants.tile in
    let all = sum_work wants pool.workers in
    omega (arith, slots, tiles, all, lengths.header, lengths.translated, lengths.copy)

-- ---- the bound

translated_within : (t : Bool) (H : ℕ) → sum (translated_buffers t H) ≤ H + 2880
translated_within true H = let one = sum_one (H + 2880) in omega (arith, one)
translated_within false H = omega arith

tiles_within : (W : ℕ) (tile : Option ℕ) → sum (tile_buffers W tile) ≤ 2 * W * (16 * pixels_of tile + 64) + 65536
tiles_within W None = omega arith
tiles_within W (Some n) =
    let each : fresh_bytes n ≡ 16 * n + 64 = omega arith in
    let all : 2 * W * fresh_bytes n ≡ 2 * W * (16 * n + 64) = ap (λ f. 2 * W * f) each in
    let tiles = sum_tiles W n in
    omega (arith, all, tiles)

pub work_within : (wants : Wants) (W : ℕ) → 2880 + sum (wanted_buffers wants W) ≤ buffer_bound wants.header_len (pixels_of wants.tile) W
unfolding buffer_bound
work_within wants W =
    let all = sum_work wants W in
    let made = translated_within wants.translates wants.header_len in
    let tiles = tiles_within W wants.tile in
    omega (arith, all, made, tiles)

-- a longer header and a larger tile
pub bound_grows : (H H' n n' W : ℕ) → H ≤ H' → n ≤ n' → buffer_bound H n W ≤ buffer_bound H' n' W
unfolding buffer_bound
bound_grows H H' n n' W longer larger =
    let slots : 2 * W * (16 * n + 64) ≤ 2 * W * (16 * n' + 64) = mul-le-mul_left (2 * W) (omega (arith, larger)) in
    omega (arith, longer, slots)
