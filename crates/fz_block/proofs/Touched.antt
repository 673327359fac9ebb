-- What the search for END looks at: the blocks that were searched, and the next one.
use Rattle.std.proofs.Common.{◌≡◌, ℕ, zero, suc, ◌+◌, ◌-◌, ◌*◌, ◌≤◌, min, nat_lt, nat_le, Bool, false, List, [], ◌∷◌, length, take, drop, Option, Some, None, IfSome, Ok, refl, sym, ◌∙◌, ap, arith}
use Rattle.std.specs.Option.{option_map}
use Rattle.std.proofs.lemmas.Bool.Decides.{nat_tests}
use Rattle.std.proofs.lemmas.List.{length-drop}
use Rattle.fz_base.specs.Refusal.{refusal, first_refusal}
use Rattle.fz_base.specs.Source.{HoldsLength, LogsWithin}
use Rattle.fz_base.specs.declared.fault.Fault.{Fault}
use Rattle.fz_base.specs.declared.fault.Place.TheVariants.{Byte, Card}
use Rattle.fz_base.specs.declared.kind.Kind.TheVariants.{NotFits, Truncated, TrailingBytes, Limit}
use Rattle.fz_block.specs.Cards.{end_of, end_among}
use Rattle.fz_block.specs.Checks.{header_room, begin_checks, blocks_looked_at, header_touched}
use Rattle.fz_block.specs.Scan.{begin_says, Searched}
use Rattle.fz_block.proofs.Among.{none_first}
use Rattle.fz_block.proofs.Exits.{begun, no_extension, no_fits}
use Rattle.fz_block.proofs.Room.{room_blocks, end_of_room, end_of_blocks}

-- what the law of logs says of reads between two places
abbrev pub LogsBoth : Type 0
LogsBoth = (from to : ℕ) (old mid new : Option (List (ℕ × ℕ))) → LogsWithin from to old mid → LogsWithin from to mid new → LogsWithin from to old new

abbrev pub LogsWider : Type 0
LogsWider = (from to from' to' : ℕ) (old new : Option (List (ℕ × ℕ))) → from' ≤ from → to ≤ to' → LogsWithin from to old new → LogsWithin from' to' old new

-- the first block is looked at
one_at_least : (refused : Option Fault) (end : Option ℕ) → 1 ≤ blocks_looked_at refused end
one_at_least (Some fault) end = omega arith
one_at_least None None = omega arith
one_at_least None (Some i) = omega arith

pub first_looked_at : (k start : ℕ) (g : List ℕ) → min (length g) (start + 2880) ≤ header_touched k start g
unfolding header_touched
first_looked_at k start g =
    let one = one_at_least (first_refusal (begin_checks k start g)) (end_of (header_room start g)) in
    omega (arith, one)

-- no check of the first block refuses
none_refuses : (many foreign short other : Bool) (a b c d : Fault) → many ≡ false → foreign ≡ false → short ≡ false → other ≡ false →
    first_refusal ((many, a) ∷ (foreign, b) ∷ (short, c) ∷ (other, d) ∷ []) ≡ None
none_refuses many foreign short other a b c d h1 h2 h3 h4 = rw (h1, h2, h3, h4) refl

none_begins : (k start b : ℕ) (g : List ℕ) → begin_says k start g ≡ Ok tt → Searched k start (suc b) g → first_refusal (begin_checks k start g) ≡ None
none_begins k start b g begins searched =
    let may = begun k start g begins in
    let room : nat_lt (length g) (start + 2880) ≡ false = let within = searched.within in grind (arith, nat_tests) in
    none_refuses (nat_le 65536 k) (no_extension k start g) (nat_lt (length g) (start + 2880)) (no_fits k start g)
    (refusal k (Byte start) Limit) (refusal k (Byte start) TrailingBytes) (refusal k (Byte (length g)) Truncated) (refusal k (Card 0) NotFits)
    may.0 may.1 room (searched.simple (omega arith))

-- a card after so many
behind : (n i : ℕ) (found : Option ℕ) → Some i ≡ option_map (λ j. n + j) found → n ≤ i
behind n i None e = absurd cc
behind n i (Some j) e = let same : i ≡ n + j = cc in omega (arith, same)

-- END is after the blocks that have none
end_behind : (start b i : ℕ) (g : List ℕ) → b ≤ 256 → start + 2880 * b ≤ length g → end_of (take (2880 * b) (drop start g)) ≡ None →
    end_of (header_room start g) ≡ Some i → 36 * b ≤ i
end_behind start b i g few within none end =
    let long : length (drop start g) ≡ length g - start = length-drop start g in
    let before : end_among (36 * b) (drop start g) ≡ None = sym (end_of_blocks b (drop start g) (omega (arith, long, within))) ∙ none in
    let more : 36 * b + (36 * room_blocks start g - 36 * b) ≡ 36 * room_blocks start g = omega (arith, few, within) in
    let all : end_among (36 * room_blocks start g) (drop start g) ≡ Some i = sym (end_of_room start g) ∙ end in
    behind (36 * b) i (end_among (36 * room_blocks start g - 36 * b) (drop (80 * (36 * b)) (drop start g)))
    (sym all ∙ ap (λ n. end_among n (drop start g)) (sym more) ∙ none_first (36 * b) (36 * room_blocks start g - 36 * b) (drop start g) before)

-- the next block is looked at, if there may be one
by_end : (start b : ℕ) (g : List ℕ) (end : Option ℕ) → b ≤ 256 → start + 2880 * b ≤ length g → end_of (take (2880 * b) (drop start g)) ≡ None →
    end_of (header_room start g) ≡ end → min 256 (b + 1) ≤ blocks_looked_at None end
by_end start b g None few within none end = omega arith
by_end start b g (Some i) few within none end =
    let far : 36 * b ≤ i = end_behind start b i g few within none end in
    omega (arith, far)

pub looked_at : (k start b : ℕ) (g : List ℕ) → begin_says k start g ≡ Ok tt → Searched k start b g → b ≤ 256 →
    min (length g) (start + 2880 * min 256 (b + 1)) ≤ header_touched k start g
unfolding header_touched
looked_at k start zero g begins searched few =
    let one = one_at_least (first_refusal (begin_checks k start g)) (end_of (header_room start g)) in
    omega (arith, one)
looked_at k start (suc b) g begins searched few =
    let none = none_begins k start b g begins searched in
    let blocks : min 256 (suc b + 1) ≤ blocks_looked_at None (end_of (header_room start g)) = by_end start (suc b) g (end_of (header_room start g)) few searched.within searched.none refl in
    let same : blocks_looked_at (first_refusal (begin_checks k start g)) (end_of (header_room start g)) ≡ blocks_looked_at None (end_of (header_room start g)) =
    ap (λ r. blocks_looked_at r (end_of (header_room start g))) none in
    omega (arith, blocks, same)

-- if the source shows its bytes, what was read is what the definition says
pub touched_by : LogsWider → (held : Option (List ℕ)) (len k start b : ℕ) (old new : Option (List (ℕ × ℕ))) → HoldsLength held len →
    IfSome held (λ g. begin_says k start g ≡ Ok tt) → IfSome held (Searched k start b) → b ≤ 256 →
    LogsWithin start (min len (start + 2880 * min 256 (b + 1))) old new → IfSome held (λ g. LogsWithin start (header_touched k start g) old new)
touched_by wider None len k start b old new told begins searched few logs = tt
touched_by wider (Some g) len k start b old new told begins searched few logs =
    let most = looked_at k start b g begins searched few in
    wider start (min len (start + 2880 * min 256 (b + 1))) start (header_touched k start g) old new (omega arith) (omega (arith, most, told)) logs

pub touched_first : LogsWider → (held : Option (List ℕ)) (len k start : ℕ) (old new : Option (List (ℕ × ℕ))) → HoldsLength held len →
    LogsWithin start (min len (start + 2880)) old new → IfSome held (λ g. LogsWithin start (header_touched k start g) old new)
touched_first wider None len k start old new told logs = tt
touched_first wider (Some g) len k start old new told logs =
    let most = first_looked_at k start g in
    wider start (min len (start + 2880)) start (header_touched k start g) old new (omega arith) (omega (arith, most, told)) logs

-- what was read before, and then of the next block
pub logs_on : LogsBoth → LogsWider → (len start b : ℕ) (old mid new : Option (List (ℕ × ℕ))) → LogsWithin start (min len (start + 2880 * b)) old mid →
    LogsWithin (start + 2880 * b) (min len (start + 2880 * (b + 1))) mid new → LogsWithin start (min len (start + 2880 * (b + 1))) old new
logs_on both wider len start b old mid new first second =
    both start (min len (start + 2880 * (b + 1))) old mid new
    (wider start (min len (start + 2880 * b)) start (min len (start + 2880 * (b + 1))) old mid (omega arith) (omega arith) first)
    (wider (start + 2880 * b) (min len (start + 2880 * (b + 1))) start (min len (start + 2880 * (b + 1))) mid new (omega arith) (omega arith) second)

-- so many blocks were read
pub logs_of_header : LogsWider → (len start n : ℕ) (old new : Option (List (ℕ × ℕ))) → n ≤ 256 → LogsWithin start (min len (start + 2880 * n)) old new →
    LogsWithin start (min len (start + 737280)) old new
logs_of_header wider len start n old new few logs =
    wider start (min len (start + 2880 * n)) start (min len (start + 737280)) old new (omega arith) (omega (arith, few)) logs

pub touched_blocks : LogsWider → (held : Option (List ℕ)) (len k start b n : ℕ) (old new : Option (List (ℕ × ℕ))) → HoldsLength held len →
    IfSome held (λ g. begin_says k start g ≡ Ok tt) → IfSome held (Searched k start b) → b ≤ 256 → n ≤ min 256 (b + 1) →
    LogsWithin start (min len (start + 2880 * n)) old new → IfSome held (λ g. LogsWithin start (header_touched k start g) old new)
touched_blocks wider held len k start b n old new told begins searched few most logs =
    touched_by wider held len k start b old new told begins searched few
    (wider start (min len (start + 2880 * n)) start (min len (start + 2880 * min 256 (b + 1))) old new (omega arith) (omega (arith, most)) logs)

-- what was read before the search, and in it
pub touched_both : LogsBoth → (held : Option (List ℕ)) (k start : ℕ) (old mid new : Option (List (ℕ × ℕ))) → IfSome held (λ g. LogsWithin start (header_touched k start g) old mid) →
    IfSome held (λ g. LogsWithin start (header_touched k start g) mid new) → IfSome held (λ g. LogsWithin start (header_touched k start g) old new)
touched_both both None k start old mid new first second = tt
touched_both both (Some g) k start old mid new first second = both start (header_touched k start g) old mid new first second

pub logs_begun : LogsBoth → LogsWider → (len start : ℕ) (old mid new : Option (List (ℕ × ℕ))) → LogsWithin start (min len (start + 2880)) old mid →
    LogsWithin start (min len (start + 737280)) mid new → LogsWithin start (min len (start + 737280)) old new
logs_begun both wider len start old mid new first second =
    both start (min len (start + 737280)) old mid new
    (wider start (min len (start + 2880)) start (min len (start + 737280)) old mid (omega arith) (omega arith) first) second
