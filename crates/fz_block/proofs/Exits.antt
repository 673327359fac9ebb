-- What the search for END answers, by the blocks that were searched and by what the next one says.
use Rattle.std.proofs.Common.{◌≡◌, ℕ, zero, suc, ◌+◌, ◌*◌, ◌/◌, ◌<◌, ◌≤◌, ◌==◌, ◌&&◌, not, nat_lt, nat_le, Bool, true, false, List, [], ◌∷◌, length, take, drop, codes, bytes_eq, Option, Some, None, is_none, is_some, Result, Ok, Err, refl, sym, ◌∙◌, ap, arith, if◌then◌else◌}
use Rattle.std.proofs.lemmas.Bool.Decides.{nat_tests}
use Rattle.std.proofs.lemmas.List.{take-take}
use Rattle.fz_base.specs.Refusal.{refusal, first_refusal}
use Rattle.fz_base.specs.declared.fault.Fault.{Fault}
use Rattle.fz_base.specs.declared.fault.Place.TheVariants.{Byte, Card}
use Rattle.fz_base.specs.declared.kind.Kind.TheVariants.{NotFits, Truncated, LongHeader, TrailingBytes, Limit}
use Rattle.fz_block.specs.Cards.{end_of}
use Rattle.fz_block.specs.Checks.{is_set, header_room, blocks_to_end, unless_refused, header_blocks_of}
use Rattle.fz_block.specs.Scan.{block_at, is_foreign, block_says, next_block_says, begin_says, Searched}
use Rattle.fz_block.proofs.Room.{end_in_block, no_end_in_room, none_in_more, room_blocks}

-- a test that refuses, or does not
passed : {X : Type 0} (refuses : Bool) (fault : Fault) (later : Result X Fault) (x : X) → (if refuses then Err fault else later) ≡ Ok x → (refuses ≡ false) × (later ≡ Ok x)
passed true fault later x h = grind (arith, h)
passed false fault later x h = (refl, h)

-- an extension, or a primary
abbrev pub no_extension : ℕ → ℕ → List ℕ → Bool
no_extension k start g = nat_lt 0 k && not (bytes_eq (take 8 (drop start g)) (codes "XTENSION"))

abbrev pub no_fits : ℕ → ℕ → List ℕ → Bool
no_fits k start g = k == 0 && not (is_set (codes "SIMPLE") (take 80 (drop start g)))

pub begun : (k start : ℕ) (g : List ℕ) → begin_says k start g ≡ Ok tt → (nat_le 65536 k ≡ false) × (no_extension k start g ≡ false)
begun k start g says =
    let first : (nat_le 65536 k ≡ false) × ((if no_extension k start g then Err (refusal k (Byte start) TrailingBytes) else Ok tt) ≡ Ok tt) =
    passed (nat_le 65536 k) (refusal k (Byte start) Limit) (if no_extension k start g then Err (refusal k (Byte start) TrailingBytes) else Ok tt) tt says in
    (first.0, (passed (no_extension k start g) (refusal k (Byte start) TrailingBytes) (Ok tt) tt first.1).0)

-- the card at the front of block 0
front_card : (start b : ℕ) (g : List ℕ) → b ≡ 0 → take 80 (block_at start b g) ≡ take 80 (drop start g)
front_card start b g is =
    let place : start + 2880 * b ≡ start = omega (arith, is) in
    take-take 80 2880 (drop (start + 2880 * b) g) (omega arith) ∙ ap (λ p. take 80 (drop p g)) place

in_front : (p q : Bool) → (p && true) && q ≡ p && q
in_front true q = refl
in_front false q = refl

-- a block that is not foreign says that the file is not
fits : (k start b : ℕ) (g : List ℕ) → Searched k start b g → is_foreign k b (block_at start b g) ≡ false → no_fits k start g ≡ false
fits k start zero g searched fine =
    ap (λ c. (k == 0) && not (is_set (codes "SIMPLE") c)) (sym (front_card start 0 g refl))
    ∙ (sym (in_front (k == 0) (not (is_set (codes "SIMPLE") (take 80 (block_at start 0 g))))) ∙ fine)
fits k start (suc b) g searched fine = searched.simple (omega arith)

-- the six checks, and what they answer
abbrev answer : Bool → Bool → Bool → Bool → Bool → Option ℕ → ℕ → ℕ → ℕ → Result ℕ Fault
answer many foreign short other long end k start len =
    unless_refused (blocks_to_end end) (first_refusal (
    (many, refusal k (Byte start) Limit) ∷ (foreign, refusal k (Byte start) TrailingBytes) ∷ (short, refusal k (Byte len) Truncated)
    ∷ (other, refusal k (Card 0) NotFits) ∷ (is_none end && long, refusal k (Byte start) LongHeader) ∷ (is_none end, refusal k (Byte len) Truncated) ∷ []))

with_end : (many foreign short other long : Bool) (end : Option ℕ) (i k start len : ℕ) →
    many ≡ false → foreign ≡ false → short ≡ false → other ≡ false → end ≡ Some i → answer many foreign short other long end k start len ≡ Ok (i / 36 + 1)
with_end many foreign short other long end i k start len h1 h2 h3 h4 h5 = rw (h1, h2, h3, h4, h5) refl

without_room : (many foreign short other long : Bool) (end : Option ℕ) (k start len : ℕ) →
    many ≡ false → foreign ≡ false → short ≡ true → answer many foreign short other long end k start len ≡ Err (refusal k (Byte len) Truncated)
without_room many foreign short other long end k start len h1 h2 h3 = rw (h1, h2, h3) refl

with_other : (many foreign short other long : Bool) (end : Option ℕ) (k start len : ℕ) →
    many ≡ false → foreign ≡ false → short ≡ false → other ≡ true → answer many foreign short other long end k start len ≡ Err (refusal k (Card 0) NotFits)
with_other many foreign short other long end k start len h1 h2 h3 h4 = rw (h1, h2, h3, h4) refl

cut_short : (many foreign short other long : Bool) (end : Option ℕ) (k start len : ℕ) →
    many ≡ false → foreign ≡ false → short ≡ false → other ≡ false → long ≡ false → end ≡ None →
    answer many foreign short other long end k start len ≡ Err (refusal k (Byte len) Truncated)
cut_short many foreign short other long end k start len h1 h2 h3 h4 h5 h6 = rw (h1, h2, h3, h4, h5, h6) refl

without_end : (many foreign short other long : Bool) (end : Option ℕ) (k start len : ℕ) →
    many ≡ false → foreign ≡ false → short ≡ false → other ≡ false → long ≡ true → end ≡ None →
    answer many foreign short other long end k start len ≡ Err (refusal k (Byte start) LongHeader)
without_end many foreign short other long end k start len h1 h2 h3 h4 h5 h6 = rw (h1, h2, h3, h4, h5, h6) refl

abbrev told : Bool → Result Bool Fault
told has = Ok has

-- what a block says that is in the file
block_is : (k start b : ℕ) (g : List ℕ) (has : Bool) → next_block_says k start b g ≡ Ok has →
    (nat_lt (length g) (start + 2880 * (b + 1)) ≡ false) × (is_foreign k b (block_at start b g) ≡ false) × (is_some (end_of (block_at start b g)) ≡ has)
block_is k start b g has says =
    let first : (nat_lt (length g) (start + 2880 * (b + 1)) ≡ false) × (block_says k b (block_at start b g) ≡ Ok has) =
    passed (nat_lt (length g) (start + 2880 * (b + 1))) (refusal k (Byte (length g)) Truncated) (block_says k b (block_at start b g)) has says in
    let second : (is_foreign k b (block_at start b g) ≡ false) × (told (is_some (end_of (block_at start b g))) ≡ told has) =
    passed (is_foreign k b (block_at start b g)) (refusal k (Card 0) NotFits) (Ok (is_some (end_of (block_at start b g)))) has first.1 in
    let same : is_some (end_of (block_at start b g)) ≡ has = grind (arith, second) in
    (first.0, second.0, same)

in_file : (start b : ℕ) (g : List ℕ) → nat_lt (length g) (start + 2880 * (b + 1)) ≡ false → start + 2880 * (b + 1) ≤ length g
in_file start b g test = grind (arith, nat_tests)

some_in : (o : Option ℕ) → is_some o ≡ true → (i : ℕ) × (o ≡ Some i)
some_in None h = grind (arith, h)
some_in (Some i) h = (i, refl)

none_in : (o : Option ℕ) → is_some o ≡ false → o ≡ None
none_in None h = refl
none_in (Some i) h = grind (arith, h)

-- no header may begin there
pub refused_at_once : (k start : ℕ) (g : List ℕ) (fault : Fault) → begin_says k start g ≡ Err fault → header_blocks_of k start g ≡ Err fault
unfolding header_blocks_of
refused_at_once k start g fault says = by_count (nat_le 65536 k) (no_extension k start g) says
  where
    rest : Bool → Bool → Result ℕ Fault
    rest many other = answer many other (nat_lt (length g) (start + 2880)) (no_fits k start g) (nat_le (start + 737280) (length g)) (end_of (header_room start g)) k start (length g)

    by_count : (many other : Bool) → (if many then Err (refusal k (Byte start) Limit) else if other then Err (refusal k (Byte start) TrailingBytes) else Ok (tt {0})) ≡ Err fault → rest many other ≡ Err fault
    by_count true other says = let same : refusal k (Byte start) Limit ≡ fault = grind (arith, says) in ap Err same
    by_count false true says = let same : refusal k (Byte start) TrailingBytes ≡ fault = grind (arith, says) in ap Err same
    by_count false false says = grind (arith, says)

-- END was found
pub found : (k start b : ℕ) (g : List ℕ) → begin_says k start g ≡ Ok tt → Searched k start b g → b < 256 → next_block_says k start b g ≡ Ok true →
    header_blocks_of k start g ≡ Ok (b + 1)
unfolding header_blocks_of
found k start b g begins searched few says =
    let may : (nat_le 65536 k ≡ false) × (no_extension k start g ≡ false) = begun k start g begins in
    let is : (nat_lt (length g) (start + 2880 * (b + 1)) ≡ false) × (is_foreign k b (block_at start b g) ≡ false) × (is_some (end_of (block_at start b g)) ≡ true) =
    block_is k start b g true says in
    let within : start + 2880 * (b + 1) ≤ length g = in_file start b g is.0 in
    let end : (i : ℕ) × (end_of (block_at start b g) ≡ Some i) = some_in (end_of (block_at start b g)) is.2 in
    let there : (end_of (header_room start g) ≡ Some (36 * b + end.0)) × (end.0 < 36) = end_in_block start b end.0 g few within searched.none end.1 in
    let room : nat_lt (length g) (start + 2880) ≡ false = grind (arith, nat_tests, within) in
    let blocks : (36 * b + end.0) / 36 + 1 ≡ b + 1 = omega (arith, there) in
    with_end (nat_le 65536 k) (no_extension k start g) (nat_lt (length g) (start + 2880)) (no_fits k start g) (nat_le (start + 737280) (length g))
    (end_of (header_room start g)) (36 * b + end.0) k start (length g) may.0 may.1 room (fits k start b g searched is.1) there.0
    ∙ ap Ok blocks

-- a block that passes the end of the file
past : (k start b : ℕ) (g : List ℕ) → begin_says k start g ≡ Ok tt → Searched k start b g → b < 256 → length g < start + 2880 * (b + 1) →
    header_blocks_of k start g ≡ Err (refusal k (Byte (length g)) Truncated)
unfolding header_blocks_of
past k start zero g begins searched few short =
    let may : (nat_le 65536 k ≡ false) × (no_extension k start g ≡ false) = begun k start g begins in
    let room : nat_lt (length g) (start + 2880) ≡ true = grind (arith, nat_tests, short) in
    without_room (nat_le 65536 k) (no_extension k start g) (nat_lt (length g) (start + 2880)) (no_fits k start g) (nat_le (start + 737280) (length g))
    (end_of (header_room start g)) k start (length g) may.0 may.1 room
past k start (suc b) g begins searched few short =
    let may : (nat_le 65536 k ≡ false) × (no_extension k start g ≡ false) = begun k start g begins in
    let some : 0 < suc b = omega arith in
    let within : start + 2880 * suc b ≤ length g = searched.within in
    let room : nat_lt (length g) (start + 2880) ≡ false = grind (arith, nat_tests, within) in
    let not_long : nat_le (start + 737280) (length g) ≡ false = grind (arith, nat_tests, short, few) in
    let all : suc b ≡ room_blocks start g = omega (arith, short, few, within) in
    cut_short (nat_le 65536 k) (no_extension k start g) (nat_lt (length g) (start + 2880)) (no_fits k start g) (nat_le (start + 737280) (length g))
    (end_of (header_room start g)) k start (length g) may.0 may.1 room (searched.simple some) not_long (no_end_in_room start (suc b) g all searched.none)

both : (p q : Bool) → p && q ≡ true → (p ≡ true) × (q ≡ true)
both true true h = (refl, refl)
both true false h = grind (arith, h)
both false q h = grind (arith, h)

all_true : (p q : Bool) → p ≡ true → q ≡ true → p && q ≡ true
all_true p q h k = rw (h, k) refl

-- another card than SIMPLE with T
foreign : (k start b : ℕ) (g : List ℕ) → begin_says k start g ≡ Ok tt → start + 2880 * (b + 1) ≤ length g → is_foreign k b (block_at start b g) ≡ true →
    header_blocks_of k start g ≡ Err (refusal k (Card 0) NotFits)
unfolding header_blocks_of
foreign k start b g begins within is =
    let may : (nat_le 65536 k ≡ false) × (no_extension k start g ≡ false) = begun k start g begins in
    let parts : (((k == 0) && (b == 0)) ≡ true) × (not (is_set (codes "SIMPLE") (take 80 (block_at start b g))) ≡ true) =
    both ((k == 0) && (b == 0)) (not (is_set (codes "SIMPLE") (take 80 (block_at start b g)))) is in
    let zeros : ((k == 0) ≡ true) × ((b == 0) ≡ true) = both (k == 0) (b == 0) parts.0 in
    let first : b ≡ 0 = grind (arith, nat_tests, zeros) in
    let room : nat_lt (length g) (start + 2880) ≡ false = grind (arith, nat_tests, within, first) in
    let simple : not (is_set (codes "SIMPLE") (take 80 (drop start g))) ≡ true = ap (λ c. not (is_set (codes "SIMPLE") c)) (sym (front_card start b g first)) ∙ parts.1 in
    with_other (nat_le 65536 k) (no_extension k start g) (nat_lt (length g) (start + 2880)) (no_fits k start g) (nat_le (start + 737280) (length g))
    (end_of (header_room start g)) k start (length g) may.0 may.1 room (all_true (k == 0) (not (is_set (codes "SIMPLE") (take 80 (drop start g)))) zeros.0 simple)

-- a block says why the file is refused
pub refused : (k start b : ℕ) (g : List ℕ) (fault : Fault) → begin_says k start g ≡ Ok tt → Searched k start b g → b < 256 → next_block_says k start b g ≡ Err fault →
    header_blocks_of k start g ≡ Err fault
refused k start b g fault begins searched few says = by_room (nat_lt (length g) (start + 2880 * (b + 1))) refl says
  where
    by_block : (f : Bool) → is_foreign k b (block_at start b g) ≡ f → start + 2880 * (b + 1) ≤ length g →
        (if f then Err (refusal k (Card 0) NotFits) else Ok (is_some (end_of (block_at start b g)))) ≡ Err fault → header_blocks_of k start g ≡ Err fault
    by_block true is within says = foreign k start b g begins within is ∙ (let same : refusal k (Card 0) NotFits ≡ fault = grind (arith, says) in ap Err same)
    by_block false is within says = grind (arith, says)

    by_room : (short : Bool) → nat_lt (length g) (start + 2880 * (b + 1)) ≡ short →
        (if short then Err (refusal k (Byte (length g)) Truncated) else block_says k b (block_at start b g)) ≡ Err fault → header_blocks_of k start g ≡ Err fault
    by_room true is says =
        let short : length g < start + 2880 * (b + 1) = grind (arith, nat_tests) in
        past k start b g begins searched few short ∙ (let same : refusal k (Byte (length g)) Truncated ≡ fault = grind (arith, says) in ap Err same)
    by_room false is says = by_block (is_foreign k b (block_at start b g)) refl (in_file start b g is) says

-- one block more has no END
pub further : (k start b : ℕ) (g : List ℕ) → Searched k start b g → next_block_says k start b g ≡ Ok false → Searched k start (b + 1) g
further k start b g searched says =
    let is : (nat_lt (length g) (start + 2880 * (b + 1)) ≡ false) × (is_foreign k b (block_at start b g) ≡ false) × (is_some (end_of (block_at start b g)) ≡ false) =
    block_is k start b g false says in
    let within : start + 2880 * (b + 1) ≤ length g = in_file start b g is.0 in
    record {
      within = within;
      none = none_in_more start b g within searched.none (none_in (end_of (block_at start b g)) is.2);
      simple = λ some. fits k start b g searched is.1;
    }

-- all blocks were searched
pub too_long : (k start b : ℕ) (g : List ℕ) → begin_says k start g ≡ Ok tt → Searched k start b g → b ≡ 256 →
    header_blocks_of k start g ≡ Err (refusal k (Byte start) LongHeader)
unfolding header_blocks_of
too_long k start b g begins searched all =
    let may : (nat_le 65536 k ≡ false) × (no_extension k start g ≡ false) = begun k start g begins in
    let some : 0 < b = omega (arith, all) in
    let within : start + 2880 * b ≤ length g = searched.within in
    let room : nat_lt (length g) (start + 2880) ≡ false = grind (arith, nat_tests, within, all) in
    let long : nat_le (start + 737280) (length g) ≡ true = grind (arith, nat_tests, within, all) in
    let most : b ≡ room_blocks start g = omega (arith, all, within) in
    without_end (nat_le 65536 k) (no_extension k start g) (nat_lt (length g) (start + 2880)) (no_fits k start g) (nat_le (start + 737280) (length g))
    (end_of (header_room start g)) k start (length g) may.0 may.1 room (searched.simple some) long (no_end_in_room start b g most searched.none)
