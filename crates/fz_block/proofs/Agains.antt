-- A header that is read once more: what is said of one that the buffer has room for, and of one that it has not.
use Rattle.std.proofs.Common.{◌≡◌, ℕ, ◌+◌, ◌*◌, ◌≤◌, ◌<◌, Bool, true, false, nat_lt, List, ◌∷◌, length, take, drop, Option, Some, None, IfSome, Result, Ok, Err, refl, sym, ◌∙◌, ap, arith}
use Rattle.std.proofs.lemmas.Bool.Decides.{nat_tests}
use Rattle.std.proofs.lemmas.List.{length-take, length-take-le, length-drop}
use Rattle.fz_base.specs.Refusal.{refusal, first_refusal}
use Rattle.fz_base.specs.Source.{HoldsLength}
use Rattle.fz_base.specs.Stop.{IsDefined}
use Rattle.fz_base.specs.declared.fault.Fault.{Fault}
use Rattle.fz_base.specs.declared.fault.Place.TheVariants.{Card}
use Rattle.fz_base.specs.declared.kind.Kind.TheVariants.{BadCard}
use Rattle.fz_base.specs.declared.failure.Stop.{Stop}
use Rattle.fz_base.specs.declared.failure.Stop.TheVariants.{Refused, ReadFault, WriteFault, OverLimit, NoMemory}
use Rattle.fz_block.specs.Again.{HasBlocks, where_room, hdu_again_at}
use Rattle.fz_block.specs.Cards.{end_of}
use Rattle.fz_block.specs.Checks.{header_room, block_checks, blocks_to_end, header_blocks_of, header_of, header_in, hdu_at}
use Rattle.fz_block.specs.declared.header.Header.{Header}
use Rattle.fz_block.proofs.HduLemmas.{answered, blocks_inside, is_answered, blocks_of}
use Rattle.fz_block.proofs.Nexts.{at_header}
use Rattle.fz_block.proofs.Refusals.{back_passed}

-- its blocks were not found
pub again_refused : (held : Option (List ℕ)) (k start room : ℕ) (stop : Stop) → IfSome held (λ g. IsDefined (header_blocks_of k start g) (Err stop)) →
    IfSome held (λ g. IsDefined (hdu_again_at room k start g) (Err stop))
unfolding hdu_again_at
again_refused None k start room stop e = tt
again_refused (Some g) k start room (Refused x) e = ap (where_room room k start g) e
again_refused (Some g) k start room ReadFault e = tt
again_refused (Some g) k start room WriteFault e = tt
again_refused (Some g) k start room (OverLimit live asked limit) e = tt
again_refused (Some g) k start room NoMemory e = tt

-- the buffer has room for it
in_room : (k start n room : ℕ) (g : List ℕ) → header_blocks_of k start g ≡ Ok n → 2880 * n ≤ room → hdu_again_at room k start g ≡ hdu_at k start g
unfolding hdu_again_at
in_room k start n room g blocks fits =
    let test : nat_lt room (2880 * n) ≡ false = grind (arith, nat_tests, fits) in
    ap (where_room room k start g) blocks ∙ (rw test refl)

-- and its blocks were kept in it as they were found
pub found_kept : (held : Option (List ℕ)) (len k start n room : ℕ) (buf : List ℕ) (answer : Result Header Fault) → HoldsLength held len → IfSome held (λ g. header_blocks_of k start g ≡ Ok n) →
    length buf ≡ room → 2880 * n ≤ length buf → HasBlocks held start n buf → answer ≡ header_of k start len (take (2880 * n) buf) → IfSome held (λ g. hdu_again_at room k start g ≡ answer)
found_kept None len k start n room buf answer told blocks long fits kept is = tt
found_kept (Some g) len k start n room buf answer told blocks long fits kept is =
    let size : length (take (2880 * n) buf) ≡ 2880 * n = length-take-le (2880 * n) buf fits in
    in_room k start n room g blocks (omega (arith, fits, long)) ∙ at_header g (take (2880 * n) buf) len k start n answer told blocks size (kept fits) (sym is)

-- the buffer has no room for it
too_long : (k start n room : ℕ) (g : List ℕ) → header_blocks_of k start g ≡ Ok n → room < 2880 * n → hdu_again_at room k start g ≡ Err (refusal k (Card 0) BadCard)
unfolding hdu_again_at
too_long k start n room g blocks over =
    let test : nat_lt room (2880 * n) ≡ true = grind (arith, nat_tests, over) in
    ap (where_room room k start g) blocks ∙ (rw test refl)

pub without_room : (held : Option (List ℕ)) (k start n room : ℕ) → IfSome held (λ g. header_blocks_of k start g ≡ Ok n) → room < 2880 * n →
    IfSome held (λ g. hdu_again_at room k start g ≡ Err (refusal k (Card 0) BadCard))
without_room None k start n room blocks over = tt
without_room (Some g) k start n room blocks over = too_long k start n room g blocks over

-- the first of checks that do not refuse
first_clear : (t : Bool) (fault : Fault) (checks : List (Bool × Fault)) → first_refusal ((t, fault) ∷ checks) ≡ None → t ≡ false
first_clear true fault checks none = absurd cc
first_clear false fault checks none = refl

-- a header whose blocks are found begins within the file
pub begins_inside : (k start n : ℕ) (g : List ℕ) → header_blocks_of k start g ≡ Ok n → start ≤ length g
unfolding header_blocks_of
begins_inside k start n g is =
    let all = answered (blocks_to_end (end_of (header_room start g))) n (first_refusal (block_checks k start g)) is in
    let later = back_passed (take 2 (block_checks k start g)) (drop 2 (block_checks k start g)) all.0 in
    let short : nat_lt (length g) (start + 2880) ≡ false = first_clear (nat_lt (length g) (start + 2880)) _ (drop 3 (block_checks k start g)) later in
    grind (arith, nat_tests, short)

-- a header has as many blocks as were found for it
pub as_found : (k start n : ℕ) (g : List ℕ) (h : Header) → header_blocks_of k start g ≡ Ok n → hdu_at k start g ≡ Ok h → 2880 * h.blocks ≡ 2880 * n
unfolding hdu_at
as_found k start n g h blocks is =
    let header : List ℕ = take (2880 * n) (drop start g) in
    let inside = blocks_inside k start n g blocks (begins_inside k start n g blocks) in
    let size : length header ≡ 2880 * n = omega (arith, length-take (2880 * n) (drop start g), length-drop start g, inside.0) in
    let found : header_of k start (length g) header ≡ Ok h = sym (ap (header_in k start g) blocks) ∙ is in
    sym (blocks_of header h (is_answered k start (length g) header h (omega (arith, size, inside.1)) found).facts) ∙ size

-- the blocks were not found
pub refused_at : (k start : ℕ) (g : List ℕ) (x : Fault) → header_blocks_of k start g ≡ Err x → hdu_at k start g ≡ Err x
unfolding hdu_at
refused_at k start g x e = ap (header_in k start g) e

refused_again : (room k start : ℕ) (g : List ℕ) (x : Fault) → header_blocks_of k start g ≡ Err x → hdu_again_at room k start g ≡ Err x
unfolding hdu_again_at
refused_again room k start g x e = ap (where_room room k start g) e

-- a header that passes the checks, and that there is room for, is answered again
pub found_again : (room k start : ℕ) (g : List ℕ) (h : Header) → hdu_at k start g ≡ Ok h → 2880 * h.blocks ≤ room → hdu_again_at room k start g ≡ Ok h
found_again room k start g h is fits = by_blocks (header_blocks_of k start g) refl
  where
    by_blocks : (r : Result ℕ Fault) → header_blocks_of k start g ≡ r → hdu_again_at room k start g ≡ Ok h
    by_blocks (Ok n) e = in_room k start n room g e (let same = as_found k start n g h e is in omega (arith, same, fits)) ∙ is
    by_blocks (Err x) e = let clash = sym is ∙ refused_at k start g x e in absurd cc

-- and one that is answered again passes them, and there is room for it
pub again_found : (room k start : ℕ) (g : List ℕ) (h : Header) → hdu_again_at room k start g ≡ Ok h → (hdu_at k start g ≡ Ok h) × (2880 * h.blocks ≤ room)
again_found room k start g h is = by_blocks (header_blocks_of k start g) refl
  where
    by_room : (n : ℕ) → header_blocks_of k start g ≡ Ok n → (b : Bool) → nat_lt room (2880 * n) ≡ b → (hdu_at k start g ≡ Ok h) × (2880 * h.blocks ≤ room)
    by_room n e true test =
        let over : room < 2880 * n = grind (arith, nat_tests, test) in
        let clash = sym is ∙ too_long k start n room g e over in
        absurd cc
    by_room n e false test =
        let fits : 2880 * n ≤ room = grind (arith, nat_tests, test) in
        let same : hdu_at k start g ≡ Ok h = sym (in_room k start n room g e fits) ∙ is in
        (same, (let many = as_found k start n g h e same in omega (arith, many, fits)))

    by_blocks : (r : Result ℕ Fault) → header_blocks_of k start g ≡ r → (hdu_at k start g ≡ Ok h) × (2880 * h.blocks ≤ room)
    by_blocks (Ok n) e = by_room n e (nat_lt room (2880 * n)) refl
    by_blocks (Err x) e = let clash = sym is ∙ refused_again room k start g x e in absurd cc
