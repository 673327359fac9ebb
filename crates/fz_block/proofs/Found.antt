-- A header that stands in a file is found there.
use Rattle.std.proofs.Common.{◌≡◌, ℕ, zero, suc, ◌+◌, ◌-◌, ◌*◌, ◌/◌, ◌≤◌, ◌==◌, ◌&&◌, not, nat_lt, nat_le, Bool, true, false, List, [], ◌∷◌, length, take, drop, codes, bytes_eq, Some, None, is_none, Ok, refl, sym, ◌∙◌, ap, arith}
use Rattle.std.proofs.lemmas.Bool.Decides.{nat_tests}
use Rattle.std.proofs.lemmas.List.{length-take, length-drop, take-take}
use Rattle.fz_base.specs.Refusal.{refusal, first_refusal}
use Rattle.fz_base.specs.declared.fault.Fault.{Fault}
use Rattle.fz_base.specs.declared.fault.Place.TheVariants.{Byte, Card}
use Rattle.fz_base.specs.declared.kind.Kind.TheVariants.{NotFits, Truncated, LongHeader, TrailingBytes, Limit}
use Rattle.fz_block.specs.Cards.{end_of, end_among}
use Rattle.fz_block.specs.Checks.{unless_refused, is_set, header_room, block_checks, blocks_to_end, header_blocks_of, header_of, header_in, hdu_at}
use Rattle.fz_block.specs.Walk.{StandsAt}
use Rattle.fz_block.proofs.Among.{found_first, among_take}
use Rattle.fz_block.proofs.Room.{room_blocks, end_of_room}
use Rattle.fz_block.proofs.Wholes.{ends_at}

-- the header lies in the file
inside : (k start : ℕ) (file header : List ℕ) (is : StandsAt k start file header) → start + 2880 * (is.whole.before + 1) ≤ length file
inside k start file header is =
    let long : length header ≡ 2880 * (is.whole.before + 1) = is.whole.blocks in
    let there : length (take (length header) (drop start file)) ≡ length header = ap length is.place in
    omega (arith, long, there, length-take (length header) (drop start file), length-drop start file)

-- its END is the first of the blocks that a header may have
room_end : (k start : ℕ) (file header : List ℕ) (is : StandsAt k start file header) → end_of (header_room start file) ≡ Some (ends_at header is.whole).card
room_end k start file header is =
    let n : ℕ = 36 * (is.whole.before + 1) in
    let end = ends_at header is.whole in
    let long : length header ≡ 2880 * (is.whole.before + 1) = is.whole.blocks in
    let within = inside k start file header is in
    let few = is.short in
    let here : end_among n (drop start file) ≡ Some end.card =
    sym (among_take n (length header) (drop start file) (omega (arith, long))) ∙ (ap (end_among n) is.place ∙ end.among) in
    let more : n + (36 * room_blocks start file - n) ≡ 36 * room_blocks start file = omega (arith, long, within, few) in
    end_of_room start file
    ∙ (ap (λ c. end_among c (drop start file)) (sym more) ∙ found_first n (36 * room_blocks start file - n) end.card (drop start file) here)

-- its first bytes are those of the file
front : (k start : ℕ) (file header : List ℕ) (is : StandsAt k start file header) (n : ℕ) → n ≤ 2880 → take n (drop start file) ≡ take n header
front k start file header is n few =
    let long : length header ≡ 2880 * (is.whole.before + 1) = is.whole.blocks in
    sym (take-take n (length header) (drop start file) (omega (arith, long, few))) ∙ ap (take n) is.place

and_false : (a b : Bool) → b ≡ false → (a && b) ≡ false
and_false true b e = e
and_false false b e = refl

not_true : (b : Bool) → b ≡ true → not b ≡ false
not_true b e = ap not e

-- its first card is the one that the HDU must have
extension_begins : (k start : ℕ) (file header : List ℕ) → StandsAt k start file header → (nat_lt 0 k && not (bytes_eq (take 8 (drop start file)) (codes "XTENSION"))) ≡ false
extension_begins zero start file header is = refl
extension_begins (suc k) start file header is =
    and_false (nat_lt 0 (suc k)) (not (bytes_eq (take 8 (drop start file)) (codes "XTENSION")))
    (not_true (bytes_eq (take 8 (drop start file)) (codes "XTENSION")) (ap (λ l. bytes_eq l (codes "XTENSION")) (front (suc k) start file header is 8 (omega arith)) ∙ is.begins))

primary_begins : (k start : ℕ) (file header : List ℕ) → StandsAt k start file header → (k == 0 && not (is_set (codes "SIMPLE") (take 80 (drop start file)))) ≡ false
primary_begins zero start file header is =
    not_true (is_set (codes "SIMPLE") (take 80 (drop start file))) (ap (is_set (codes "SIMPLE")) (front zero start file header is 80 (omega arith)) ∙ is.begins)
primary_begins (suc k) start file header is =
    let other : (suc k == 0) ≡ false = grind (arith, nat_tests) in
    ap (λ b. b && not (is_set (codes "SIMPLE") (take 80 (drop start file)))) other

six_clear : (a b c d e f : Bool) (u v w x y z : Fault) → a ≡ false → b ≡ false → c ≡ false → d ≡ false → e ≡ false → f ≡ false →
    first_refusal ((a, u) ∷ (b, v) ∷ (c, w) ∷ (d, x) ∷ (e, y) ∷ (f, z) ∷ []) ≡ None
six_clear a b c d e f u v w x y z one two three four five six = rw (one, two, three, four, five, six) refl

none_refuses : (k start : ℕ) (file header : List ℕ) → StandsAt k start file header → first_refusal (block_checks k start file) ≡ None
none_refuses k start file header is =
    let low = is.number in
    let within = inside k start file header is in
    let many : nat_le 65536 k ≡ false = grind (arith, nat_tests, low) in
    let room : nat_lt (length file) (start + 2880) ≡ false = grind (arith, nat_tests, within) in
    let end : is_none (end_of (header_room start file)) ≡ false = ap is_none (room_end k start file header is) in
    six_clear (nat_le 65536 k) (nat_lt 0 k && not (bytes_eq (take 8 (drop start file)) (codes "XTENSION"))) (nat_lt (length file) (start + 2880))
    (k == 0 && not (is_set (codes "SIMPLE") (take 80 (drop start file)))) (is_none (end_of (header_room start file)) && nat_le (start + 737280) (length file)) (is_none (end_of (header_room start file)))
    (refusal k (Byte start) Limit) (refusal k (Byte start) TrailingBytes) (refusal k (Byte (length file)) Truncated) (refusal k (Card 0) NotFits) (refusal k (Byte start) LongHeader) (refusal k (Byte (length file)) Truncated)
    many (extension_begins k start file header is) room (primary_begins k start file header is) (ap (λ b. b && nat_le (start + 737280) (length file)) end) end

pub found_blocks : (k start : ℕ) (file header : List ℕ) → StandsAt k start file header → header_blocks_of k start file ≡ Ok (length header / 2880)
unfolding header_blocks_of
found_blocks k start file header is =
    let end = ends_at header is.whole in
    let long : length header ≡ 2880 * (is.whole.before + 1) = is.whole.blocks in
    let low = end.low in
    let below = end.below in
    let count : end.card / 36 + 1 ≡ length header / 2880 = omega (arith, long, low, below) in
    ap (unless_refused (blocks_to_end (end_of (header_room start file)))) (none_refuses k start file header is)
    ∙ ap Ok (ap blocks_to_end (room_end k start file header is) ∙ count)

pub found_header : (k start : ℕ) (file header : List ℕ) → StandsAt k start file header → hdu_at k start file ≡ header_of k start (length file) header
unfolding hdu_at
found_header k start file header is =
    let long : length header ≡ 2880 * (is.whole.before + 1) = is.whole.blocks in
    let size : 2880 * (length header / 2880) ≡ length header = omega (arith, long) in
    ap (header_in k start file) (found_blocks k start file header is)
    ∙ ap (header_of k start (length file)) (ap (λ n. take n (drop start file)) size ∙ is.place)
