-- The places that the checks of every job name: of the search for a header, and of its mandatory cards and its data.
use Rattle.std.specs.Prelude.{⊤, unwrap_or}
use Rattle.std.proofs.Common.{◌≡◌, ◌⊎◌, inl, inr, ℕ, zero, suc, ◌+◌, ◌*◌, ◌/◌, ◌<◌, ◌≤◌, ◌==◌, ◌&&◌, not, nat_le, nat_lt, Bool, true, false, List, ◌∷◌, ◌++◌, length, take, drop, codes, bytes_eq, is_none, is_some, Option, Some, None, Result, Ok, Err, refl, sym, ◌∙◌, ap, arith}
use Rattle.std.specs.List.{flat_map, range_with_len}
use Rattle.std.proofs.lemmas.Bool.Decides.{nat_tests}
use Rattle.std.proofs.lemmas.List.{take-take}
use Rattle.fz_base.specs.declared.fault.Fault.{Fault}
use Rattle.fz_base.specs.declared.fault.Place.{Place}
use Rattle.fz_base.specs.declared.fault.Place.TheVariants.{Byte, Card, Row as AtRow}
use Rattle.fz_base.specs.declared.kind.Kind.{Kind}
use Rattle.fz_base.specs.declared.kind.Kind.TheVariants.{BadCard, BadTable, Limit, LongHeader, NotFits, NotPacked, TrailingBytes, Truncated}
use Rattle.fz_card.specs.Layout.{padded}
use Rattle.fz_card.specs.Made.{numbered_name}
use Rattle.fz_card.specs.Reading.{integer_of, logical_of, text_of}
use Rattle.fz_block.specs.Cards.{card_at, end_of, is_named, is_numbered}
use Rattle.fz_block.specs.Checks.{block_checks, blocks_to_end, end_checks, group_checks, groups_card, hdu_at, hdu_end, header_blocks_of, header_checks, header_in, header_of, header_room, is_set}
use Rattle.fz_block.specs.Facts.{IsHeaderOf, facts_of}
use Rattle.fz_block.specs.Header.{next_start_of, whole_blocks_of}
use Rattle.fz_block.specs.Hdus.{data_len_of, gcount_index, naxis_of, pcount_index}
use Rattle.fz_block.specs.Mandatory.{axis_checks, bitpix_check, count_checks, extension_checks, is_bitpix, is_size, mandatory_checks, naxis_checks}
use Rattle.fz_block.specs.Walk.{hdu_of}
use Rattle.fz_block.specs.declared.header.Header.{Header}
use Rattle.fz_laws.specs.Places.{IsByteOf, IsCardOf, IsOfEnd}
use Rattle.fz_laws.proofs.PlaceChecks.{Checked, and_after, passed_is, refused_is}
use Rattle.fz_laws.proofs.PlaceCards.{axis_is_other, end_in_file, end_is_named, end_of_header, first_before, not_end}

-- ---- bytes

pub is_end : (file : List ℕ) → IsByteOf file Truncated (length file)
is_end file = record { within = omega arith; past = λ _. inl refl; cut_short = λ _. refl }

pub is_no_hdu : (file : List ℕ) → IsByteOf file NotPacked (length file)
is_no_hdu file = record { within = omega arith; past = λ _. inr refl; cut_short = λ _. refl }

pub is_before_end : (file : List ℕ) (kind : Kind) (p : ℕ) → p < length file → (kind ≡ Truncated → ⊥) → IsByteOf file kind p
is_before_end file kind p less other = record { within = omega (arith, less); past = λ same. absurd (omega (arith, less, same)); cut_short = λ same. absurd (other same) }

pub limit_is_other : Limit ≡ Truncated → ⊥
limit_is_other e = absurd cc

trailing_is_other : TrailingBytes ≡ Truncated → ⊥
trailing_is_other e = absurd cc

long_is_other : LongHeader ≡ Truncated → ⊥
long_is_other e = absurd cc

-- ---- tests

below : (m n : ℕ) → nat_lt m n ≡ true → m < n
below m n e = grind (arith, nat_tests, e)

not_below : (m n : ℕ) → nat_lt m n ≡ false → n ≤ m
not_below m n e = grind (arith, nat_tests, e)

at_most : (m n : ℕ) → nat_le m n ≡ true → m ≤ n
at_most m n e = grind (arith, nat_tests, e)

pub first_holds : (a b : Bool) → (a && b) ≡ true → a ≡ true
first_holds true b e = refl
first_holds false b e = absurd cc

second_holds : (a b : Bool) → (a && b) ≡ true → b ≡ true
second_holds true b e = e
second_holds false b e = absurd cc

unless_not : (a b : Bool) → (a && not b) ≡ false → a ≡ true → b ≡ true
unless_not true true e is = refl
unless_not true false e is = absurd cc
unless_not false b e is = absurd cc

both_hold : (a b : Bool) → not (a && b) ≡ false → a ≡ true
both_hold true b e = refl
both_hold false b e = absurd cc

-- ---- places in a header whose END is this card

pub record CardWithin (e : ℕ) (kind : Kind) (i : ℕ) : Type 0 where
  pub card_is : i ≤ e
  pub past : i ≡ e → IsOfEnd kind

pub before : {e : ℕ} {kind : Kind} {i : ℕ} → i < e → CardWithin e kind i
before less = record { card_is = omega (arith, less); past = λ same. absurd (omega (arith, less, same)) }

pub bad_card : {e : ℕ} {i : ℕ} → i ≤ e → CardWithin e BadCard i
bad_card le = record { card_is = le; past = λ _. inl refl }

pub table_card : {e : ℕ} {i : ℕ} → i ≤ e → CardWithin e BadTable i
table_card le = record { card_is = le; past = λ _. inr (inl refl) }

pub limit_card : {e : ℕ} {i : ℕ} → i ≤ e → CardWithin e Limit i
limit_card le = record { card_is = le; past = λ _. inr (inr refl) }

abbrev pub Within : List ℕ → ℕ → Kind → Place → Type 0
Within file e kind (Byte p) = IsByteOf file kind p
Within file e kind (Card i) = CardWithin e kind i
Within file e kind (AtRow r) = ⊥

abbrev pub FaultWithin : List ℕ → ℕ → Fault → Type 0
FaultWithin file e x = Within file e x.kind x.at

-- the mandatory cards are before END
pub record HasCards (k : ℕ) (header : List ℕ) (e : ℕ) : Type 0 where
  pub axes : 3 + naxis_of header ≤ e
  pub counts : (j : ℕ) → k ≡ suc j → 5 + naxis_of header ≤ e

no_extension : (j : ℕ) → 0 ≡ suc j → ⊥
no_extension j e = omega (arith, e)

module _ (file header : List ℕ) (e : ℕ) (ends : end_of header ≡ Some e) where
  -- a card that has another name is before END
  next : (i : ℕ) → i ≤ e → is_named (codes "END") (card_at header i) ≡ false → i + 1 ≤ e
  next i le other = by_test (nat_lt i e) refl
    where
      by_test : (b : Bool) → nat_lt i e ≡ b → i + 1 ≤ e
      by_test true is = let less : i < e = below i e is in omega (arith, less)
      by_test false is =
          let more : e ≤ i = not_below i e is in
          let same : i ≡ e = omega (arith, more, le) in
          let never : false ≡ true = sym other ∙ (ap (λ j. is_named (codes "END") (card_at header j)) same ∙ end_is_named header e ends) in
          absurd cc

  word : (i : ℕ) (name : List ℕ) (b : Bool) → bytes_eq (padded name) (padded (codes "END")) ≡ false → i ≤ e → not (is_named name (card_at header i) && b) ≡ false → i + 1 ≤ e
  word i name b other le passes = next i le (not_end (card_at header i) (padded name) other (both_hold (is_named name (card_at header i)) b passes))

  extension_within : (k : ℕ) → (k ≡ 0 → is_named (codes "END") (card_at header 0) ≡ false) → Checked (FaultWithin file e) (1 ≤ e) (extension_checks k header)
  extension_within zero simple = let some : 0 ≤ e = omega arith in next 0 some (simple refl)
  extension_within (suc k) simple =
      let some : 0 ≤ e = omega arith in
      (λ _. bad_card some, λ passes. word 0 (codes "XTENSION") (is_some (text_of (card_at header 0))) refl some passes)

  axes_within : (k i n m : ℕ) → i + n ≡ m → 2 + i ≤ e → Checked (FaultWithin file e) (2 + m ≤ e) (flat_map (axis_checks k header) (range_with_len i n))
  axes_within k i zero m at le = let done : 2 + m ≤ e = omega (arith, at, le) in done
  axes_within k i (suc n) m at le =
      let valid : Bool = is_size (integer_of (card_at header (2 + i))) in (
        λ _. bad_card le,
        λ passes.
            let named = both_hold (is_numbered (codes "NAXIS") i (card_at header (2 + i))) valid passes in
            let more : 2 + i + 1 ≤ e = next (2 + i) le (not_end (card_at header (2 + i)) (numbered_name (codes "NAXIS") i) (axis_is_other i) named) in
            let less : 2 + i < e = omega (arith, more) in
            (λ _. before less, λ _. axes_within k (i + 1) n m (omega (arith, at)) (omega (arith, more))),
      )

  count_within : (k : ℕ) → 3 + naxis_of header ≤ e → Checked (FaultWithin file e) (HasCards k header e) (count_checks k header)
  count_within zero le = record { axes = le; counts = λ j is. absurd (no_extension j is) }
  count_within (suc k) le = (
    λ _. bad_card le,
    λ passes.
        let more : 3 + naxis_of header + 1 ≤ e = word (pcount_index header) (codes "PCOUNT") (is_size (integer_of (card_at header (pcount_index header)))) refl le passes in
        let next_le : 4 + naxis_of header ≤ e = omega (arith, more) in (
          λ _. bad_card next_le,
          λ passes.
              let last : 4 + naxis_of header + 1 ≤ e = word (gcount_index header) (codes "GCOUNT") (is_size (integer_of (card_at header (gcount_index header)))) refl next_le passes in
              record { axes = le; counts = λ j is. omega (arith, last) },
        ),
  )

  mandatory_within : (k : ℕ) → (k ≡ 0 → is_named (codes "END") (card_at header 0) ≡ false) → Checked (FaultWithin file e) (HasCards k header e) (mandatory_checks k header)
  mandatory_within k simple =
      let axes : List (Bool × Fault) = flat_map (axis_checks k header) (range_with_len 1 (naxis_of header)) in
      and_after (FaultWithin file e) (HasCards k header e) (1 ≤ e) (extension_checks k header) (bitpix_check k header ∷ (naxis_checks k header ++ (axes ++ count_checks k header))) (extension_within k simple) (λ one. (
        λ _. bad_card one,
        λ passes.
            let two : 2 ≤ e = word 1 (codes "BITPIX") (is_bitpix (integer_of (card_at header 1))) refl one passes in (
              λ _. bad_card two,
              λ passes.
                  let three : 3 ≤ e = word 2 (codes "NAXIS") (is_size (integer_of (card_at header 2))) refl two passes in
                  let less : 2 < e = omega (arith, three) in (
                    λ _. before less,
                    λ _.
                        and_after (FaultWithin file e) (HasCards k header e) (2 + (1 + naxis_of header) ≤ e) axes (count_checks k header)
                        (axes_within k 1 (naxis_of header) (1 + naxis_of header) refl three)
                        (λ more. count_within k (omega (arith, more))),
                  ),
            ),
      ))

  group_within : (k : ℕ) → 0 < e → Checked (FaultWithin file e) ⊤ (group_checks k header)
  group_within zero some =
      let same : unwrap_or (end_of header) 0 ≡ e = ap (λ o. unwrap_or o 0) ends in
      let found : unwrap_or (groups_card header) 0 < unwrap_or (end_of header) 0 = first_before (is_set (codes "GROUPS")) (unwrap_or (end_of header) 0) 0 header (omega (arith, some, same)) in
      let less : unwrap_or (groups_card header) 0 < e = omega (arith, found, same) in
      (λ _. before less, λ _. tt)
  group_within (suc k) some = tt

  header_within : (k start : ℕ) → (k ≡ 0 → is_named (codes "END") (card_at header 0) ≡ false) →
      Checked (FaultWithin file e) (HasCards k header e × (hdu_end k start header ≤ length file)) (header_checks k start (length file) header)
  header_within k start simple =
      let some : 0 ≤ e = omega arith in
      let P : Fault → Type 0 = FaultWithin file e in
      let Q : Type 0 = HasCards k header e × (hdu_end k start header ≤ length file) in
      let last : List (Bool × Fault) = end_checks k (length file) (hdu_end k start header) in (
        λ _. bad_card some,
        λ _.
            and_after P Q (HasCards k header e) (mandatory_checks k header) (group_checks k header ++ last) (mandatory_within k simple) (λ has.
            let axes : 3 + naxis_of header ≤ e = has.axes in
            let two : 2 < e = omega (arith, axes) in
            and_after P Q ⊤ (group_checks k header) last (group_within k (omega (arith, two))) (λ _.
            (λ _. before two, λ _. (λ _. is_end file, λ passes. (has, not_below (length file) (hdu_end k start header) passes))))),
      )

-- ---- the search for a header

-- HDU k begins in the file, if it is not the first
abbrev pub Starts : List ℕ → ℕ → ℕ → Type 0
Starts file k start = 0 < k → start < length file

abbrev Sought : List ℕ → ℕ → ℕ → Kind → Place → Type 0
Sought file k start kind (Byte p) = Starts file k start → IsByteOf file kind p
Sought file k start kind (Card i) = (kind ≡ NotFits) × (k ≡ 0) × (i ≡ 0) × (start + 80 ≤ length file)
Sought file k start kind (AtRow r) = ⊥

abbrev FaultSought : List ℕ → ℕ → ℕ → Fault → Type 0
FaultSought file k start x = Sought file k start x.kind x.at

-- a header is found
record IsBegun (file : List ℕ) (k start : ℕ) : Type 0 where
  simple : k ≡ 0 → is_named (codes "SIMPLE") (take 80 (drop start file)) ≡ true
  ends : is_none (end_of (header_room start file)) ≡ false

far_is_later : (k : ℕ) → nat_le 65536 k ≡ true → 0 < k
far_is_later k e = let more : 65536 ≤ k = at_most 65536 k e in omega (arith, more)

is_first : (k : ℕ) → (k == 0) ≡ true → k ≡ 0
is_first k e = grind (arith, nat_tests, e)

block_within : (file : List ℕ) (k start : ℕ) → Checked (FaultSought file k start) (IsBegun file k start) (block_checks k start file)
block_within file k start =
    let missing : Bool = is_none (end_of (header_room start file)) in
    let first : List ℕ = take 80 (drop start file) in (
      λ far. λ starts. is_before_end file Limit start (starts (far_is_later k far)) limit_is_other,
      λ _. (
        λ other. λ starts. is_before_end file TrailingBytes start (starts (below 0 k (first_holds (nat_lt 0 k) (not (bytes_eq (take 8 (drop start file)) (codes "XTENSION"))) other))) trailing_is_other,
        λ _. (
          λ _. λ starts. is_end file,
          λ room.
              let whole : start + 2880 ≤ length file = not_below (length file) (start + 2880) room in
              let card : start + 80 ≤ length file = omega (arith, whole) in (
                λ other. (refl, is_first k (first_holds (k == 0) (not (is_set (codes "SIMPLE") first)) other), refl, card),
                λ fits. (
                  λ long. λ starts.
                      let blocks : start + 737280 ≤ length file = at_most (start + 737280) (length file) (second_holds missing (nat_le (start + 737280) (length file)) long) in
                      is_before_end file LongHeader start (omega (arith, blocks)) long_is_other,
                  λ _. (
                    λ _. λ starts. is_end file,
                    λ has.
                        record {
                          simple = λ zero_is.
                              let set : is_set (codes "SIMPLE") first ≡ true = unless_not (k == 0) (is_set (codes "SIMPLE") first) fits (ap (λ n. n == 0) zero_is) in
                              first_holds (is_named (codes "SIMPLE") first) (unwrap_or (logical_of first) false) set;
                          ends = has;
                        },
                  ),
                ),
              ),
        ),
      ),
    )

-- what is known of the header of HDU k, whose blocks are found
pub record IsEnded (file : List ℕ) (k start blocks : ℕ) : Type 0 where
  pub last : ℕ
  pub ends : end_of (take (2880 * blocks) (drop start file)) ≡ Some last
  pub simple : k ≡ 0 → is_named (codes "END") (card_at (take (2880 * blocks) (drop start file)) 0) ≡ false

blocks_ended : (file : List ℕ) (k start blocks : ℕ) → header_blocks_of k start file ≡ Ok blocks → IsEnded file k start blocks
unfolding header_blocks_of
blocks_ended file k start blocks e =
    let found = passed_is (FaultSought file k start) (IsBegun file k start) (blocks_to_end (end_of (header_room start file))) blocks (block_checks k start file) (block_within file k start) e in
    by_end found.0 (end_of (header_room start file)) refl found.0.ends found.1
  where
    by_end : IsBegun file k start → (end : Option ℕ) → end_of (header_room start file) ≡ end → is_none end ≡ false → blocks_to_end end ≡ blocks → IsEnded file k start blocks
    by_end begun None is some count = absurd cc
    by_end begun (Some i) is some count =
        let ends : end_of (take (2880 * blocks) (drop start file)) ≡ Some i = ap (λ n. end_of (take (2880 * n) (drop start file))) (sym count) ∙ end_of_header file start i is in
        record {
          last = i;
          ends = ends;
          simple = λ zero_is. first_other i count (begun.simple zero_is);
        }
      where
        first_other : (i : ℕ) → i / 36 + 1 ≡ blocks → is_named (codes "SIMPLE") (take 80 (drop start file)) ≡ true → is_named (codes "END") (card_at (take (2880 * blocks) (drop start file)) 0) ≡ false
        first_other i count named =
            let same : take 80 (take (2880 * blocks) (drop start file)) ≡ take 80 (drop start file) = take-take 80 (2880 * blocks) (drop start file) (omega (arith, count)) in
            ap (is_named (codes "END")) same ∙ not_end (take 80 (drop start file)) (padded (codes "SIMPLE")) refl named

-- ---- an HDU

-- where the place is that a check of every job names in HDU k, which begins at this byte
abbrev pub Lies : List ℕ → ℕ → ℕ → Kind → Place → Type 0
Lies file k start kind (Byte p) = Starts file k start → IsByteOf file kind p
Lies file k start kind (Card i) = (start + 80 * (i + 1) ≤ length file) × (IsCardOf file kind k start i ⊎ ((kind ≡ NotFits) × (k ≡ 0) × (i ≡ 0)))
Lies file k start kind (AtRow r) = ⊥

from_search : (file : List ℕ) (k start : ℕ) (kind : Kind) (place : Place) → Sought file k start kind place → Lies file k start kind place
from_search file k start kind (Byte p) sought = sought
from_search file k start kind (Card i) sought =
    let at : i ≡ 0 = sought.2 in
    let card : start + 80 ≤ length file = sought.3 in
    (omega (arith, at, card), inr (sought.0, sought.1, at))
from_search file k start kind (AtRow r) sought = sought

pub from_header : (file : List ℕ) (k start blocks last : ℕ) (kind : Kind) → header_blocks_of k start file ≡ Ok blocks → end_of (take (2880 * blocks) (drop start file)) ≡ Some last → (place : Place) → Within file last kind place →
    Lies file k start kind place
from_header file k start blocks last kind found ends (Byte p) within = λ _. within
from_header file k start blocks last kind found ends (Card i) within =
    let le : i ≤ last = within.card_is in
    let inside : start + 80 * (last + 1) ≤ length file = end_in_file file start (2880 * blocks) last ends in
    (omega (arith, inside, le), inl (record { blocks = blocks; found = found; last = last; ends = ends; card_is = le; past = within.past }))
from_header file k start blocks last kind found ends (AtRow r) within = within

search_fault : (file : List ℕ) (k start : ℕ) (x : Fault) → header_blocks_of k start file ≡ Err x → FaultSought file k start x
unfolding header_blocks_of
search_fault file k start x e = refused_is (FaultSought file k start) (IsBegun file k start) (blocks_to_end (end_of (header_room start file))) (block_checks k start file) x (block_within file k start) e

module _ (file : List ℕ) (k start blocks : ℕ) (is : IsEnded file k start blocks) where
  abbrev header : List ℕ
  header = take (2880 * blocks) (drop start file)

  abbrev Passed : Type 0
  Passed = HasCards k header is.last × (hdu_end k start header ≤ length file)

  header_fault_within : (x : Fault) → header_of k start (length file) header ≡ Err x → FaultWithin file is.last x
  unfolding header_of
  header_fault_within x e = refused_is (FaultWithin file is.last) Passed (facts_of k start header) (header_checks k start (length file) header) x (header_within file header is.last is.ends k start is.simple) e

  header_passes : (h : Header) → header_of k start (length file) header ≡ Ok h → Passed
  unfolding header_of
  header_passes h e = (passed_is (FaultWithin file is.last) Passed (facts_of k start header) h (header_checks k start (length file) header) (header_within file header is.last is.ends k start is.simple) e).0

pub hdu_lies : (file : List ℕ) (k start : ℕ) (x : Fault) → hdu_at k start file ≡ Err x → Lies file k start x.kind x.at
unfolding hdu_at
hdu_lies file k start x e = by_blocks (header_blocks_of k start file) refl e
  where
    by_blocks : (r : Result ℕ Fault) → header_blocks_of k start file ≡ r → header_in k start file r ≡ Err x → Lies file k start x.kind x.at
    by_blocks (Err y) is e =
        let same : y ≡ x = cc in
        from_search file k start x.kind x.at (search_fault file k start x (is ∙ ap Err same))
    by_blocks (Ok blocks) is e =
        let ended : IsEnded file k start blocks = blocks_ended file k start blocks is in
        from_header file k start blocks ended.last x.kind is ended.ends x.at (header_fault_within file k start blocks ended x e)

-- what is known of a header that is found at a place
abbrev pub HduIsFound : Type 0
HduIsFound = (k start : ℕ) (file : List ℕ) (h : Header) → hdu_at k start file ≡ Ok h → (h.hdu ≡ k) × (h.start ≡ start) × IsHeaderOf (hdu_of file h).header h

abbrev pub BlocksAreFound : Type 0
BlocksAreFound = (k start : ℕ) (file : List ℕ) (h : Header) → hdu_at k start file ≡ Ok h → header_blocks_of k start file ≡ Ok h.blocks

-- an HDU that passes the checks of every job: its END, its mandatory cards, and its end
pub record Stands (file : List ℕ) (h : Header) : Type 0 where
  pub blocks : header_blocks_of h.hdu h.start file ≡ Ok h.blocks
  pub last : ℕ
  pub ends : end_of (hdu_of file h).header ≡ Some last
  pub cards : HasCards h.hdu (hdu_of file h).header last
  pub is : IsHeaderOf (hdu_of file h).header h
  pub past : next_start_of h ≤ length file

same_end : (start blocks len fill other size : ℕ) → blocks ≡ len / 2880 → fill ≡ other → start + len + other ≤ size → start + 2880 * blocks + fill ≤ size
same_end start blocks len fill other size many same end = omega (arith, many, same, end)

next_within : (file : List ℕ) (h : Header) → IsHeaderOf (hdu_of file h).header h → hdu_end h.hdu h.start (hdu_of file h).header ≤ length file → next_start_of h ≤ length file
next_within file h is end =
    same_end h.start h.blocks (length (hdu_of file h).header) (whole_blocks_of h.data_len) (whole_blocks_of (data_len_of h.hdu (hdu_of file h).header)) (length file)
    (ap (λ (k : Header). k.blocks) is.facts) (ap (λ (k : Header). whole_blocks_of k.data_len) is.facts) end

pub hdu_stands : HduIsFound → BlocksAreFound → (file : List ℕ) (h : Header) → hdu_at h.hdu h.start file ≡ Ok h → Stands file h
unfolding hdu_at
hdu_stands find count file h e =
    let there : header_blocks_of h.hdu h.start file ≡ Ok h.blocks = count h.hdu h.start file h e in
    let ended : IsEnded file h.hdu h.start h.blocks = blocks_ended file h.hdu h.start h.blocks there in
    let passed = header_passes file h.hdu h.start h.blocks ended h (sym (ap (header_in h.hdu h.start file) there) ∙ e) in
    let is : IsHeaderOf (hdu_of file h).header h = (find h.hdu h.start file h e).2 in
    record { blocks = there; last = ended.last; ends = ended.ends; cards = passed.0; is = is; past = next_within file h is passed.1 }
