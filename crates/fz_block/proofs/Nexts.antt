-- The next header of a file: what its two calls say together.
use Rattle.std.proofs.Common.{◌≡◌, ℕ, ◌+◌, ◌*◌, ◌≤◌, max, min, false, nat_lt, List, [], ◌∷◌, length, take, drop, Option, Some, None, IfSome, Result, Ok, Err, refl, sym, ◌∙◌, ap, arith}
use Rattle.std.proofs.lemmas.Bool.Decides.{nat_tests}
use Rattle.fz_base.specs.Source.{Reads, HoldsLength, LogsWithin}
use Rattle.fz_base.specs.Stop.{IsDefined, IfAnswered}
use Rattle.fz_base.specs.Refusal.{first_refusal}
use Rattle.fz_base.specs.Takings.{first_past, highest}
use Rattle.fz_base.specs.declared.fault.Fault.{Fault}
use Rattle.fz_base.specs.declared.failure.Stop.{Stop}
use Rattle.fz_base.specs.declared.failure.Stop.TheVariants.{Refused, ReadFault, WriteFault, OverLimit, NoMemory}
use Rattle.fz_block.specs.Checks.{header_room, begin_checks, block_checks, blocks_to_end, blocks_looked_at, header_blocks_of, header_of, header_in, header_touched, hdu_at}
use Rattle.fz_block.specs.Cards.{end_of}
use Rattle.fz_block.specs.Takings.{header_taking}
use Rattle.fz_block.specs.declared.header.Header.{Header}
use Rattle.fz_block.proofs.HduLemmas.{answered}
use Rattle.fz_block.proofs.Refusals.{front_passed}
use Rattle.fz_block.proofs.Touched.{LogsBoth, LogsWider}

-- the blocks were not found
pub blocks_refuse : (held : Option (List ℕ)) (k start : ℕ) (stop : Stop) → IfSome held (λ g. IsDefined (header_blocks_of k start g) (Err stop)) →
    IfSome held (λ g. IsDefined (hdu_at k start g) (Err stop))
unfolding hdu_at
blocks_refuse None k start stop e = tt
blocks_refuse (Some g) k start (Refused x) e = ap (header_in k start g) e
blocks_refuse (Some g) k start ReadFault e = tt
blocks_refuse (Some g) k start WriteFault e = tt
blocks_refuse (Some g) k start (OverLimit live asked limit) e = tt
blocks_refuse (Some g) k start NoMemory e = tt

-- the header that was read is that of the file
pub at_header : (g header : List ℕ) (len k start n : ℕ) (r : Result Header Fault) → length g ≡ len → header_blocks_of k start g ≡ Ok n → length header ≡ 2880 * n →
    header ≡ take (length header) (drop start g) → header_of k start len header ≡ r → hdu_at k start g ≡ r
unfolding hdu_at
at_header g header len k start n r told blocks whole read e =
    let same : take (2880 * n) (drop start g) ≡ header = sym (read ∙ ap (λ m. take m (drop start g)) whole) in
    ap (header_in k start g) blocks ∙ ((λ i. header_of k start (told i) (same i)) ∙ e)

pub by_header : (held : Option (List ℕ)) (len k start n : ℕ) (header : List ℕ) (answer : Result Header Stop) → HoldsLength held len →
    IfSome held (λ g. header_blocks_of k start g ≡ Ok n) → length header ≡ 2880 * n → IfAnswered answer (Reads held start header) → IsDefined (header_of k start len header) answer →
    IfSome held (λ g. IsDefined (hdu_at k start g) answer)
by_header None len k start n header answer told blocks whole read e = tt
by_header (Some g) len k start n header (Ok h) told blocks whole read e = at_header g header len k start n (Ok h) told blocks whole read e
by_header (Some g) len k start n header (Err (Refused x)) told blocks whole read e = at_header g header len k start n (Err x) told blocks whole read e
by_header (Some g) len k start n header (Err ReadFault) told blocks whole read e = tt
by_header (Some g) len k start n header (Err WriteFault) told blocks whole read e = tt
by_header (Some g) len k start n header (Err (OverLimit live asked limit)) told blocks whole read e = tt
by_header (Some g) len k start n header (Err NoMemory) told blocks whole read e = tt

-- the taking of a header that was given
one_taken : (limit live asked : ℕ) → live + asked ≤ limit → first_past limit ((live, asked) ∷ []) ≡ None
one_taken limit live asked room = let test : nat_lt limit (live + asked) ≡ false = grind (arith, nat_tests) in rw test refl

pub taking_given : (held : Option (List ℕ)) (limit live k start n : ℕ) → IfSome held (λ g. header_blocks_of k start g ≡ Ok n) → live + 2880 * n ≤ limit →
    IfSome held (λ g. first_past limit (header_taking live (header_blocks_of k start g)) ≡ None)
taking_given None limit live k start n blocks room = tt
taking_given (Some g) limit live k start n blocks room = ap (λ b. first_past limit (header_taking live b)) blocks ∙ one_taken limit live (2880 * n) room

pub peak_given : (held : Option (List ℕ)) (old new live k start n : ℕ) → IfSome held (λ g. header_blocks_of k start g ≡ Ok n) → new ≤ max old (live + 2880 * n) →
    IfSome held (λ g. new ≤ max old (highest (header_taking live (header_blocks_of k start g))))
peak_given None old new live k start n blocks low = tt
peak_given (Some g) old new live k start n blocks low =
    let most : highest (header_taking live (header_blocks_of k start g)) ≡ max (live + 2880 * n) 0 = ap (λ b. highest (header_taking live b)) blocks in
    omega (arith, most, low)

-- what was read to find the blocks, and then of the header
pub logs_next : LogsBoth → LogsWider → (len start n count : ℕ) (old mid new : Option (List (ℕ × ℕ))) → count ≡ 2880 * n → n ≤ 256 → start + 2880 * n ≤ len →
    LogsWithin start (min len (start + 737280)) old mid → LogsWithin start (start + count) mid new → LogsWithin start (min len (start + 737280)) old new
logs_next both wider len start n count old mid new size few within first second =
    both start (min len (start + 737280)) old mid new first
    (wider start (start + count) start (min len (start + 737280)) mid new (omega arith) (omega (arith, size, few, within)) second)

-- the blocks that were found are looked at
found_parts : (k start n : ℕ) (g : List ℕ) → header_blocks_of k start g ≡ Ok n → (first_refusal (begin_checks k start g) ≡ None) × (blocks_to_end (end_of (header_room start g)) ≡ n)
unfolding header_blocks_of
found_parts k start n g is =
    let all = answered (blocks_to_end (end_of (header_room start g))) n (first_refusal (block_checks k start g)) is in
    (front_passed (begin_checks k start g) (drop 4 (block_checks k start g)) all.0, all.1)

many_looked_at : (end : Option ℕ) → blocks_to_end end ≤ blocks_looked_at None end
many_looked_at None = omega arith
many_looked_at (Some i) = omega arith

touched_found : (k start n : ℕ) (g : List ℕ) → header_blocks_of k start g ≡ Ok n → start + 2880 * n ≤ length g → start + 2880 * n ≤ header_touched k start g
unfolding header_touched
touched_found k start n g is within =
    let parts = found_parts k start n g is in
    let many = many_looked_at (end_of (header_room start g)) in
    let same : blocks_looked_at (first_refusal (begin_checks k start g)) (end_of (header_room start g)) ≡ blocks_looked_at None (end_of (header_room start g)) =
    ap (λ r. blocks_looked_at r (end_of (header_room start g))) parts.0 in
    omega (arith, parts.1, many, same, within)

pub touched_next : LogsBoth → LogsWider → (held : Option (List ℕ)) (len k start n count : ℕ) (old mid new : Option (List (ℕ × ℕ))) → HoldsLength held len → IfSome held (λ g. header_blocks_of k start g ≡ Ok n) →
    count ≡ 2880 * n → start + 2880 * n ≤ len → IfSome held (λ g. LogsWithin start (header_touched k start g) old mid) → LogsWithin start (start + count) mid new →
    IfSome held (λ g. LogsWithin start (header_touched k start g) old new)
touched_next both wider None len k start n count old mid new told blocks size within first second = tt
touched_next both wider (Some g) len k start n count old mid new told blocks size within first second =
    let most = touched_found k start n g blocks (omega (arith, told, within)) in
    both start (header_touched k start g) old mid new first
    (wider start (start + count) start (header_touched k start g) mid new (omega arith) (omega (arith, size, most)) second)
