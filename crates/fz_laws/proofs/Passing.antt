-- The HDUs of a packed file pass the checks of every job, and those of `unpack`.
use Rattle.std.proofs.Common.{◌≡◌, ℕ, suc, ◌+◌, ◌^◌, ◌<◌, ◌≤◌, ◌&&◌, ◌||◌, not, nat_lt, Bool, true, false, cond, List, [], ◌∷◌, ◌++◌, length, map, pos, is_some, Option, Some, None, Result, Ok, Err, IsOk, if◌then◌else◌, codes, position, refl, sym, ◌∙◌, ap, arith}
use Rattle.std.proofs.lemmas.Bool.Decides.{nat_tests}
use Rattle.std.proofs.lemmas.List.{length-append}
use Rattle.std.specs.Fmt.{digits}
use Rattle.std.specs.List.{flat_map, list_any, prefix_len}
use Rattle.fz_base.specs.Refusal.{first_refusal}
use Rattle.fz_base.specs.declared.fault.Fault.{Fault}
use Rattle.fz_card.specs.Made.{int_card_bytes, logical_card_bytes}
use Rattle.fz_card.specs.Reading.{integer_of, logical_of, text_of}
use Rattle.fz_block.specs.Cards.{card_at, end_among, first_among}
use Rattle.fz_block.specs.Checks.{hdu_end, header_of, is_set, unless_refused}
use Rattle.fz_block.specs.Facts.{begun_at, facts_of}
use Rattle.fz_block.specs.Hdus.{IsHdu, IsHeader, cards_of, hdu_bytes, header_bytes}
use Rattle.fz_block.specs.Walk.{PassFrom, PassesAt, hdu_of}
use Rattle.fz_block.specs.declared.header.Header.{Header}
use Rattle.fz_block.specs.declared.header.Sort.TheVariants.{Primary}
use Rattle.fz_table.specs.Tables.{table_checks, table_in, table_of}
use Rattle.fz_table.specs.declared.table.Table.{Table}
use Rattle.fz_tile.specs.Plain.{AreBytes}
use Rattle.fz_head.specs.Accepted.{IsAccepted}
use Rattle.fz_head.specs.EmptyPrimary.{empty_primary}
use Rattle.fz_checks.specs.JobChecks.{already_packed, data_fill, fill_in, image_checks, pack_hdu_checks, says_packed, unpack_checks}
use Rattle.fz_head.specs.PackChecks.{pack_checks}
use Rattle.fz_head.specs.Packable.{is_packable, is_packed, is_table}
use Rattle.fz_head.specs.PackedChecks.{packed_checks, plan_answer}
use Rattle.fz_head.specs.PackedPlan.{plan_of_cards}
use Rattle.fz_head.specs.Planned.{AreOptions}
use Rattle.fz_head.specs.Repeats.{counted_name, first_repeat, table_names}
use Rattle.fz_head.specs.TableChecks.{compressed_table, repeated_table_names, table_card_checks}
use Rattle.fz_head.specs.declared.options.PackOptions.{PackOptions}
use Rattle.fz_head.specs.declared.plan.Plan.{Plan}
use Rattle.fz_head.specs.declared.totals.Totals.{Totals}
use Rattle.fz_files.specs.Laws.{table_hdu}
use Rattle.fz_laws.specs.RoundTripTaken.{PassingLaws}
use Rattle.fz_laws.proofs.Outs.{empty_hdu, out_of, outs}
use Rattle.fz_laws.proofs.Sources.{AreSources, IsSource, taken}

-- ---- the checks of every job

later_passes : PassingLaws → (o : PackOptions) (file : List ℕ) (k j start len : ℕ) (h : Header) → AreOptions o → AreBytes file → IsSource o file (suc k) h → suc j < 65536 →
    start + length (hdu_bytes (out_of o file h)) ≤ len → len ≤ 2 ^ 62 → PassesAt (suc j) start len (out_of o file h)
later_passes l o file k j start len h options bytes s number within few = by_test (is_packable h) refl within
  where
    by_test : (packable : Bool) → is_packable h ≡ packable → start + length (hdu_bytes (if packable then table_hdu o file h else hdu_of file h)) ≤ len →
        PassesAt (suc j) start len (if packable then table_hdu o file h else hdu_of file h)
    by_test true is within = l.tables o file h j start len (taken o file (suc k) h options bytes s is) number within few
    by_test false is within =
        l.numbered (suc k) (suc j) start len (hdu_of file h) (l.moved (suc k) s.start (length file) start len (hdu_of file h) s.passes within (omega (arith, within, few)))
        (omega arith) (omega arith) number

pub later_pass : PassingLaws → (o : PackOptions) (file : List ℕ) (k j start len : ℕ) (hs : List Header) → AreOptions o → AreBytes file → AreSources o file (suc k) hs → suc j + length hs ≤ 65536 →
    start + length (flat_map hdu_bytes (map (out_of o file) hs)) ≤ len → len ≤ 2 ^ 62 → PassFrom (suc j) start len (map (out_of o file) hs)
later_pass l o file k j start len [] options bytes are number within few = tt
later_pass l o file k j start len (h ∷ hs) options bytes are number within few =
    let both : length (flat_map hdu_bytes (map (out_of o file) (h ∷ hs))) ≡ length (hdu_bytes (out_of o file h)) + length (flat_map hdu_bytes (map (out_of o file) hs)) =
    length-append (hdu_bytes (out_of o file h)) (flat_map hdu_bytes (map (out_of o file) hs)) in (
      later_passes l o file k j start len h options bytes are.0 (omega (arith, number)) (omega (arith, within, both)) few,
      later_pass l o file (suc k) (suc j) (start + length (hdu_bytes (out_of o file h))) len hs options bytes are.1 (omega (arith, number)) (omega (arith, within, both)) few,
    )

-- the empty primary
abbrev pub empty_facts : Header
empty_facts = record {
  hdu = 0;
  start = 0;
  cards = 4;
  blocks = 1;
  sort = Primary;
  bitpix = pos 8;
  axes = record { n = 0; len = 0 ∷ 0 ∷ 0 ∷ 0 ∷ 0 ∷ 0 ∷ 0 ∷ 0 ∷ 0 ∷ [] };
  pcount = 0;
  gcount = 1;
  data_len = 0;
}

pub empty_is : facts_of 0 0 (header_bytes empty_primary) ≡ empty_facts
unfolding end_among integer_of int_card_bytes logical_card_bytes digits
empty_is = refl

empty_at : header_of 0 0 2880 (header_bytes empty_primary) ≡ Ok empty_facts
unfolding header_of end_among first_among integer_of logical_of text_of int_card_bytes logical_card_bytes digits
empty_at = refl

empty_header : IsHeader (header_bytes empty_primary)
unfolding end_among int_card_bytes logical_card_bytes digits
empty_header = record { before = 0; blocks = refl; none = refl; has = refl }

empty_hdu_is : IsHdu 0 empty_hdu
unfolding integer_of int_card_bytes logical_card_bytes digits
empty_hdu_is = record { header = empty_header; payload = refl }

empty_begins : is_set (codes "SIMPLE") (card_at (header_bytes empty_primary) 0) ≡ true
unfolding logical_of logical_card_bytes int_card_bytes digits
empty_begins = refl

empty_end : hdu_end 0 0 (header_bytes empty_primary) ≡ 2880
unfolding integer_of int_card_bytes logical_card_bytes digits
empty_end = refl

pub empty_len : length (hdu_bytes empty_hdu) ≡ 2880
unfolding int_card_bytes logical_card_bytes digits
empty_len = refl

empty_passes : PassingLaws → (len : ℕ) → 2880 ≤ len → PassesAt 0 0 len empty_hdu
empty_passes l len within =
    let end : hdu_end 0 0 (header_bytes empty_primary) ≤ len = omega (arith, empty_end, within) in
    let few : hdu_end 0 0 (header_bytes empty_primary) ≤ 2 ^ 62 = omega (arith, empty_end) in
    let short : length (hdu_bytes empty_hdu) ≡ length (header_bytes empty_primary) + 0 = length-append (header_bytes empty_primary) [] in
    record {
      hdu = empty_hdu_is;
      short = omega (arith, short, empty_len);
      number = omega arith;
      begins = empty_begins;
      checks = ok_of (header_of 0 0 len (header_bytes empty_primary)) (begun_at 0 empty_facts) (l.started 0 0 2880 (header_bytes empty_primary) empty_facts 0 len empty_at end few);
    }
  where
    ok_of : (r : Result Header Fault) (h : Header) → r ≡ Ok h → IsOk r
    ok_of (Ok a) h e = refl
    ok_of (Err fault) h e = absurd cc

-- all of them
pub outs_pass : PassingLaws → (o : PackOptions) (file : List ℕ) (len : ℕ) (h : Header) (hs : List Header) → AreOptions o → AreBytes file → AreSources o file 0 (h ∷ hs) → length (h ∷ hs) ≤ 65535 →
    length (flat_map hdu_bytes (outs o file h hs)) ≤ len → len ≤ 2 ^ 62 → PassFrom 0 0 len (outs o file h hs)
outs_pass l o file len h hs options bytes are number within few = by_test (is_packable h) refl within
  where
    by_test : (packable : Bool) → is_packable h ≡ packable →
        length (flat_map hdu_bytes ((if packable then empty_hdu ∷ table_hdu o file h ∷ [] else hdu_of file h ∷ []) ++ map (out_of o file) hs)) ≤ len →
        PassFrom 0 0 len ((if packable then empty_hdu ∷ table_hdu o file h ∷ [] else hdu_of file h ∷ []) ++ map (out_of o file) hs)
    by_test true is within =
        let rest : List ℕ = flat_map hdu_bytes (map (out_of o file) hs) in
        let all : length (hdu_bytes empty_hdu ++ (hdu_bytes (table_hdu o file h) ++ rest)) ≤ len = within in
        let first : length (hdu_bytes empty_hdu ++ (hdu_bytes (table_hdu o file h) ++ rest)) ≡ length (hdu_bytes empty_hdu) + length (hdu_bytes (table_hdu o file h) ++ rest) =
        length-append (hdu_bytes empty_hdu) (hdu_bytes (table_hdu o file h) ++ rest) in
        let second : length (hdu_bytes (table_hdu o file h) ++ rest) ≡ length (hdu_bytes (table_hdu o file h)) + length rest = length-append (hdu_bytes (table_hdu o file h)) rest in
        let count : suc (length hs) ≤ 65535 = number in (
          empty_passes l len (omega (arith, all, first, empty_len)),
          (
            l.tables o file h 0 (0 + length (hdu_bytes empty_hdu)) len (taken o file 0 h options bytes are.0 is) (omega arith) (omega (arith, all, first, second)) few,
            later_pass l o file 0 1 (0 + length (hdu_bytes empty_hdu) + length (hdu_bytes (table_hdu o file h))) len hs options bytes are.1 (omega (arith, count)) (omega (arith, all, first, second)) few,
          ),
        )
    by_test false is within =
        let rest : List ℕ = flat_map hdu_bytes (map (out_of o file) hs) in
        let all : length (hdu_bytes (hdu_of file h) ++ rest) ≤ len = within in
        let first : length (hdu_bytes (hdu_of file h) ++ rest) ≡ length (hdu_bytes (hdu_of file h)) + length rest = length-append (hdu_bytes (hdu_of file h)) rest in
        let count : suc (length hs) ≤ 65535 = number in (
          l.moved 0 are.0.start (length file) 0 len (hdu_of file h) are.0.passes (omega (arith, all, first)) (omega (arith, all, first, few)),
          later_pass l o file 0 0 (0 + length (hdu_bytes (hdu_of file h))) len hs options bytes are.1 (omega (arith, count)) (omega (arith, all, first)) few,
        )

-- ---- the checks of `unpack`

both_none : (xs ys : List (Bool × Fault)) → first_refusal xs ≡ None → first_refusal ys ≡ None → first_refusal (xs ++ ys) ≡ None
both_none [] ys none rest = rest
both_none ((true, fault) ∷ xs) ys none rest = absurd cc
both_none ((false, fault) ∷ xs) ys none rest = both_none xs ys none rest

none_refused : {A : Type 0} (answer found : A) (refused : Option Fault) → unless_refused answer refused ≡ Ok found → refused ≡ None
none_refused answer found None e = refl
none_refused answer found (Some fault) e = absurd cc

pub table_none : (header : List ℕ) (h : Header) (t : Table) → table_of header h ≡ Ok t → first_refusal (table_checks header h) ≡ None
unfolding table_of
table_none header h t is = none_refused (table_in header h) t (first_refusal (table_checks header h)) is

plan_none : (k : ℕ) (header : List ℕ) (after_empty : Bool) (p : Plan) → plan_answer k header after_empty ≡ Ok p → first_refusal (packed_checks k header after_empty) ≡ None
unfolding plan_answer
plan_none k header after_empty p is = none_refused (plan_of_cards (cards_of header)) p (first_refusal (packed_checks k header after_empty)) is

where_table : (checks : List (Bool × Fault)) (test : Bool) → first_refusal checks ≡ None → first_refusal (if test then checks else []) ≡ None
where_table checks true none = none
where_table checks false none = refl

-- of a table
pub accepted_none : (p : Plan) (s : Totals) (header : List ℕ) (h : Header) (after_empty : Bool) → IsAccepted p s header h → (p.primary ≡ true → after_empty ≡ true) →
    first_refusal (unpack_checks h header after_empty) ≡ None
accepted_none p s header h after_empty is stands =
    both_none (if is_table h.sort then table_card_checks h header else []) (if is_packed header h then image_checks h header after_empty else [])
    (where_table (table_card_checks h header) (is_table h.sort) is.cards)
    (where_table (image_checks h header after_empty) (is_packed header h)
    (both_none (table_checks header h) (packed_checks h.hdu header after_empty) (table_none header h _ is.table) (plan_none h.hdu header after_empty p (is.plan after_empty stands))))

-- of an HDU that is copied: no card says that it is packed
some_cond : (b : Bool) (n : ℕ) → is_some (cond b (Some n) None) ≡ b
some_cond true n = refl
some_cond false n = refl

lt_more : (m n : ℕ) → nat_lt (1 + m) (suc n) ≡ nat_lt m n
lt_more m n = by_test (nat_lt m n) refl
  where
    by_test : (less : Bool) → nat_lt m n ≡ less → nat_lt (1 + m) (suc n) ≡ less
    by_test true e = grind (arith, nat_tests, e)
    by_test false e = grind (arith, nat_tests, e)

any_prefix : (p : List ℕ → Bool) (xs : List (List ℕ)) → nat_lt (prefix_len (λ x. not (p x)) xs) (length xs) ≡ list_any p xs
any_prefix p [] = refl
any_prefix p (x ∷ xs) = by_test (p x) (any_prefix p xs)
  where
    by_test : (b : Bool) → nat_lt (prefix_len (λ x. not (p x)) xs) (length xs) ≡ list_any p xs →
        nat_lt (cond (not b) (1 + prefix_len (λ x. not (p x)) xs) 0) (suc (length xs)) ≡ (b || list_any p xs)
    by_test true rest = grind (arith, nat_tests)
    by_test false rest = lt_more (prefix_len (λ x. not (p x)) xs) (length xs) ∙ rest

any_is : (p : List ℕ → Bool) (xs : List (List ℕ)) → is_some (position p xs) ≡ list_any p xs
any_is p xs = some_cond (nat_lt (prefix_len (λ x. not (p x)) xs) (length xs)) (prefix_len (λ x. not (p x)) xs) ∙ any_prefix p xs

none_of_either : (p q : List ℕ → Bool) (xs : List (List ℕ)) → list_any (λ x. p x || q x) xs ≡ false → (list_any p xs ≡ false) × (list_any q xs ≡ false)
none_of_either p q [] e = (refl, refl)
none_of_either p q (x ∷ xs) e = by_tests (p x) (q x) e (none_of_either p q xs)
  where
    by_tests : (a b : Bool) → ((a || b) || list_any (λ x. p x || q x) xs) ≡ false → (list_any (λ x. p x || q x) xs ≡ false → (list_any p xs ≡ false) × (list_any q xs ≡ false)) →
        ((a || list_any p xs) ≡ false) × ((b || list_any q xs) ≡ false)
    by_tests true b e later = absurd cc
    by_tests false true e later = absurd cc
    by_tests false false e later = later e

first_false : (test : Bool) (fault : Fault) (more : List (Bool × Fault)) → first_refusal ((test, fault) ∷ more) ≡ None → test ≡ false
first_false true fault more e = absurd cc
first_false false fault more e = refl

none_says_packed : (o : PackOptions) (file : List ℕ) (h : Header) → first_refusal (pack_hdu_checks o file h) ≡ None → (is_table h.sort && list_any says_packed (cards_of (hdu_of file h).header)) ≡ false
none_says_packed o file h none =
    let header : List ℕ = (hdu_of file h).header in
    ap (λ b. is_table h.sort && b) (sym (any_is says_packed (cards_of header)))
    ∙ first_false (already_packed h header).0 (already_packed h header).1
    ((if is_packable h then pack_checks o h header else []) ++ (if is_packable h then data_fill h (fill_in file h) ∷ [] else [])) none

-- by the sort alone
pub copied_packed : (header : List ℕ) (f : Header) → (is_table f.sort && list_any says_packed (cards_of header)) ≡ false → is_packed header f ≡ false
unfolding is_packed
copied_packed header f none = by_table (is_table f.sort) none
  where
    by_table : (table : Bool) → (table && list_any says_packed (cards_of header)) ≡ false → (table && list_any (is_set (codes "ZIMAGE")) (cards_of header)) ≡ false
    by_table true none = (none_of_either (is_set (codes "ZIMAGE")) (is_set (codes "ZTABLE")) (cards_of header) none).0
    by_table false none = refl

pub copied_none : (header : List ℕ) (f : Header) (after_empty : Bool) → (is_table f.sort && list_any says_packed (cards_of header)) ≡ false → first_refusal (unpack_checks f header after_empty) ≡ None
copied_none header f after_empty none =
    let packed : is_packed header f ≡ false = copied_packed header f none in
    both_none (if is_table f.sort then table_card_checks f header else []) (if is_packed header f then image_checks f header after_empty else []) (by_table (is_table f.sort) none packed)
    (ap (λ b. first_refusal (if b then image_checks f header after_empty else [])) packed)
  where
    by_table : (table : Bool) → (table && list_any says_packed (cards_of header)) ≡ false → is_packed header f ≡ false →
        first_refusal (if table then compressed_table f header ∷ repeated_table_names f header ∷ [] else []) ≡ None
    by_table true none packed =
        let compressed : (compressed_table f header).0 ≡ false =
        any_is (is_set (codes "ZTABLE")) (cards_of header) ∙ (none_of_either (is_set (codes "ZIMAGE")) (is_set (codes "ZTABLE")) (cards_of header) none).1 in
        let repeated : (repeated_table_names f header).0 ≡ false = ap (λ b. b && is_some (first_repeat table_names counted_name (cards_of header))) packed in
        (λ i. first_refusal ((compressed i, (compressed_table f header).1) ∷ (repeated i, (repeated_table_names f header).1) ∷ []))
    by_table false none packed = refl

pub copied_says : (o : PackOptions) (file : List ℕ) (k : ℕ) (h : Header) → IsSource o file k h → (is_table h.sort && list_any says_packed (cards_of (hdu_of file h).header)) ≡ false
copied_says o file k h s = none_says_packed o file h s.none
