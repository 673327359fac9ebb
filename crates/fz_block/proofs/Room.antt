-- What the first END of the blocks of a file is, by the blocks that were searched.
use Rattle.std.proofs.Common.{◌≡◌, ℕ, ◌+◌, ◌-◌, ◌*◌, ◌/◌, ◌<◌, ◌≤◌, min, List, length, take, drop, Some, None, sym, ◌∙◌, ap, arith}
use Rattle.std.specs.Option.{option_map}
use Rattle.std.proofs.lemmas.List.{drop-drop, length-take, length-drop}
use Rattle.fz_block.specs.Cards.{end_of, end_among}
use Rattle.fz_block.specs.Checks.{header_room}
use Rattle.fz_block.specs.Scan.{block_at}
use Rattle.fz_block.proofs.Among.{none_first, found_first, found_below, among_take}

-- the first END of so many blocks
pub end_of_blocks : (n : ℕ) (xs : List ℕ) → 2880 * n ≤ length xs → end_of (take (2880 * n) xs) ≡ end_among (36 * n) xs
end_of_blocks n xs within =
    let len : length (take (2880 * n) xs) ≡ min (2880 * n) (length xs) = length-take (2880 * n) xs in
    let cards : length (take (2880 * n) xs) / 80 ≡ 36 * n = omega (arith, len, within) in
    let inside : 80 * (36 * n) ≤ 2880 * n = omega arith in
    ap (λ c. end_among c (take (2880 * n) xs)) cards ∙ among_take (36 * n) (2880 * n) xs inside

-- the first END of one block
pub end_of_block : (start b : ℕ) (g : List ℕ) → start + 2880 * (b + 1) ≤ length g →
    end_of (block_at start b g) ≡ end_among 36 (drop (2880 * b) (drop start g))
end_of_block start b g within =
    let there : drop (2880 * b) (drop start g) ≡ drop (start + 2880 * b) g = drop-drop (2880 * b) start g in
    let len : length (drop (start + 2880 * b) g) ≡ length g - (start + 2880 * b) = length-drop (start + 2880 * b) g in
    let one : 2880 * 1 ≤ length (drop (start + 2880 * b) g) = omega (arith, len, within) in
    end_of_blocks 1 (drop (start + 2880 * b) g) one ∙ ap (end_among 36) (sym there)

-- one block more
pub one_block_more : (start b : ℕ) (g : List ℕ) → start + 2880 * (b + 1) ≤ length g → end_of (take (2880 * b) (drop start g)) ≡ None →
    end_among (36 * (b + 1)) (drop start g) ≡ option_map (λ k. 36 * b + k) (end_of (block_at start b g))
one_block_more start b g within none =
    let len : length (drop start g) ≡ length g - start = length-drop start g in
    let room : 2880 * b ≤ length (drop start g) = omega (arith, len, within) in
    let before : end_among (36 * b) (drop start g) ≡ None = sym (end_of_blocks b (drop start g) room) ∙ none in
    let count : 36 * (b + 1) ≡ 36 * b + 36 = omega arith in
    let place : 80 * (36 * b) ≡ 2880 * b = omega arith in
    ap (λ c. end_among c (drop start g)) count
    ∙ (none_first (36 * b) 36 (drop start g) before
    ∙ (ap (λ p. option_map (λ k. 36 * b + k) (end_among 36 (drop p (drop start g)))) place
    ∙ ap (option_map (λ k. 36 * b + k)) (sym (end_of_block start b g within))))

-- the blocks that a header may have
abbrev pub room_blocks : ℕ → List ℕ → ℕ
room_blocks start g = min 256 ((length g - start) / 2880)

pub end_of_room : (start : ℕ) (g : List ℕ) → end_of (header_room start g) ≡ end_among (36 * room_blocks start g) (drop start g)
end_of_room start g =
    let len : length (drop start g) ≡ length g - start = length-drop start g in
    let room : 2880 * room_blocks start g ≤ length (drop start g) = omega (arith, len) in
    end_of_blocks (room_blocks start g) (drop start g) room

-- END in block b is the first END
pub end_in_block : (start b i : ℕ) (g : List ℕ) → b < 256 → start + 2880 * (b + 1) ≤ length g → end_of (take (2880 * b) (drop start g)) ≡ None →
    end_of (block_at start b g) ≡ Some i → (end_of (header_room start g) ≡ Some (36 * b + i)) × (i < 36)
end_in_block start b i g few within none found =
    let here : end_among (36 * (b + 1)) (drop start g) ≡ Some (36 * b + i) = one_block_more start b g within none ∙ ap (option_map (λ k. 36 * b + k)) found in
    let more : 36 * (b + 1) + (36 * room_blocks start g - 36 * (b + 1)) ≡ 36 * room_blocks start g = omega (arith, few, within) in
    let all : end_among (36 * room_blocks start g) (drop start g) ≡ Some (36 * b + i) =
    ap (λ c. end_among c (drop start g)) (sym more) ∙ found_first (36 * (b + 1)) (36 * room_blocks start g - 36 * (b + 1)) (36 * b + i) (drop start g) here in
    let below : i < 36 = found_below 36 i (drop (2880 * b) (drop start g)) (sym (end_of_block start b g within) ∙ found) in
    (end_of_room start g ∙ all, below)

-- no END in as many blocks as a header may have
pub no_end_in_room : (start b : ℕ) (g : List ℕ) → b ≡ room_blocks start g → end_of (take (2880 * b) (drop start g)) ≡ None → end_of (header_room start g) ≡ None
no_end_in_room start b g is none = ap (λ m. end_of (take (2880 * m) (drop start g))) (sym is) ∙ none

-- no END in one block more
pub none_in_more : (start b : ℕ) (g : List ℕ) → start + 2880 * (b + 1) ≤ length g → end_of (take (2880 * b) (drop start g)) ≡ None →
    end_of (block_at start b g) ≡ None → end_of (take (2880 * (b + 1)) (drop start g)) ≡ None
none_in_more start b g within none here =
    let len : length (drop start g) ≡ length g - start = length-drop start g in
    let room : 2880 * (b + 1) ≤ length (drop start g) = omega (arith, len, within) in
    end_of_blocks (b + 1) (drop start g) room ∙ (one_block_more start b g within none ∙ ap (option_map (λ k. 36 * b + k)) here)
