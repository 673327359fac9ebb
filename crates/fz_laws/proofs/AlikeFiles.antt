-- An HDU that stands in a file stands in every other file that has the same bytes up to its end.
use Rattle.std.proofs.Common.{◌≡◌, ℕ, zero, suc, ◌+◌, ◌-◌, ◌*◌, ◌/◌, ◌^◌, ◌<◌, ◌≤◌, ◌⊎◌, inl, inr, ◌==◌, ◌&&◌, not, nat_le, nat_lt, Bool, true, false, List, [], ◌∷◌, ◌++◌, length, take, drop, codes, bytes_eq, Option, Some, None, is_none, Result, Ok, Err, if◌then◌else◌, refl, sym, ap, ◌∙◌, subst, arith, length-take-le, length-take, length-drop, take-take, drop-drop, le-leb, lt-ltb}
use Rattle.std.proofs.lemmas.Bool.{cases_lt}
use Rattle.fz_base.specs.Refusal.{first_refusal, refusal}
use Rattle.fz_base.specs.declared.fault.Fault.{Fault}
use Rattle.fz_base.specs.declared.fault.Place.TheVariants.{Byte}
use Rattle.fz_base.specs.declared.kind.Kind.TheVariants.{LongHeader, Truncated}
use Rattle.fz_block.specs.Cards.{card_at, end_of}
use Rattle.fz_block.specs.Checks.{begin_checks, block_checks, blocks_to_end, hdu_at, hdu_end, header_blocks_of, header_in, header_of, header_room, is_set, unless_refused}
use Rattle.fz_block.specs.Facts.{IsHeaderOf, begun_at, facts_of}
use Rattle.fz_block.specs.Hdus.{IsHeader, data_len_of}
use Rattle.fz_block.specs.Header.{data_start_of, next_start_of, whole_blocks_of}
use Rattle.fz_block.specs.Walk.{StandsAt, begins_hdu, hdu_of}
use Rattle.fz_block.specs.declared.header.Header.{Header}
use Rattle.fz_laws.specs.PatchTaken.{HduLaws}
use Rattle.fz_laws.proofs.Passes.{PassesAll, all_pass, is_so, pass_both}

-- ---- where an HDU stands

none_of : {A : Type 0} (a b : A) (found : Option Fault) → unless_refused a found ≡ Ok b → found ≡ None
none_of a b None e = refl
none_of a b (Some x) e = absurd cc

begin_pass : (k start n : ℕ) (file : List ℕ) → header_blocks_of k start file ≡ Ok n → PassesAll (begin_checks k start file)
unfolding header_blocks_of
begin_pass k start n file e =
    let none : first_refusal (block_checks k start file) ≡ None = none_of (blocks_to_end (end_of (header_room start file))) n (first_refusal (block_checks k start file)) e in
    (pass_both (begin_checks k start file)
    ((is_none (end_of (header_room start file)) && nat_le (start + 737280) (length file), refusal k (Byte start) LongHeader) ∷ (is_none (end_of (header_room start file)), refusal k (Byte (length file)) Truncated) ∷ [])
    (all_pass (block_checks k start file) none)).0

-- a check that counts only if another thing is so
so_if : (a b : Bool) → a ≡ true → (a && not b) ≡ false → b ≡ true
so_if true true e f = refl
so_if true false e f = absurd cc
so_if false b e f = absurd cc

below : (k : ℕ) → nat_le 65536 k ≡ false → k < 65536
below k e = by_test (cases_lt k 65536)
  where
    by_test : (k < 65536) ⊎ (65536 ≤ k) → k < 65536
    by_test (inl low) = low
    by_test (inr high) = let t : nat_le 65536 k ≡ true = le-leb 65536 k high in absurd cc

-- the header of an HDU that is found, as it is in the file
module _ (laws : HduLaws) (k start : ℕ) (file : List ℕ) (e : Header) (found : hdu_at k start file ≡ Ok e) where
  abbrev header : List ℕ
  header = (hdu_of file e).header

  facts : (e.hdu ≡ k) × (e.start ≡ start) × IsHeaderOf header e
  facts = laws.facts k start file e found

  pub header_length : length header ≡ 2880 * e.blocks
  header_length =
      let is = facts.2 in
      let blocks = is.whole.blocks in
      let same : e.blocks ≡ length header / 2880 = ap (λ (x : Header). x.blocks) is.facts in
      omega arith

  pub some_blocks : 2880 ≤ length header
  some_blocks = let blocks = facts.2.whole.blocks in omega arith

  begun : PassesAll (begin_checks k start file)
  begun = begin_pass k start e.blocks file (laws.blocks k start file e found)

  front_is : (n : ℕ) → n ≤ 2880 → take n header ≡ take n (drop start file)
  front_is n few =
      let long = header_length in
      let some = some_blocks in
      take-take n (2880 * e.blocks) (drop e.start file) (omega arith) ∙ ap (λ s. take n (drop s file)) facts.1

  pub begins : begins_hdu k header ≡ true
  begins = by_number k begun
    where
      by_number : (j : ℕ) → PassesAll (begin_checks j start file) → begins_hdu j header ≡ true
      by_number zero all = ap (is_set (codes "SIMPLE")) (front_is 80 (omega arith)) ∙ so_if true (is_set (codes "SIMPLE") (take 80 (drop start file))) refl all.1.1.1.0
      by_number (suc j) all = ap (λ l. bytes_eq l (codes "XTENSION")) (front_is 8 (omega arith)) ∙ so_if (nat_lt 0 (suc j)) (bytes_eq (take 8 (drop start file)) (codes "XTENSION")) (lt-ltb 0 (suc j) (omega arith)) all.1.0

  pub number : k < 65536
  number = below k begun.0

  pub checked : header_of k start (length file) header ≡ Ok e
  unfolding hdu_at
  checked =
      ap (λ s. header_of k start (length file) (take (2880 * e.blocks) (drop s file))) facts.1
      ∙ (sym (ap (header_in k start file) (laws.blocks k start file e found)) ∙ found)

  -- in another file
  pub found_in : (other : List ℕ) → take (length header) (drop start other) ≡ header → next_start_of e ≤ length other → next_start_of e ≤ 2 ^ 62 → hdu_at k start other ≡ Ok e
  found_in other same within near =
      let stands : StandsAt k start other header = record { whole = facts.2.whole; short = facts.2.short; place = same; number = number; begins = begins } in
      let end : hdu_end k start header ≡ next_start_of e =
      (λ j. sym facts.1 j + header_length j + whole_blocks_of (sym (ap (λ (x : Header). x.data_len) facts.2.facts ∙ ap (λ n. data_len_of n header) facts.0) j)) in
      laws.header k start other header stands
      ∙ (laws.checks k start (length file) header e start (length other) checked (subst (λ n. n ≤ length other) (sym end) within) (subst (λ n. n ≤ 2 ^ 62) (sym end) near)
      ∙ ap Ok (ap (λ s. record e { start = s }) (sym facts.1)))
