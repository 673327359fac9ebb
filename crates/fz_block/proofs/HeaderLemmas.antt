-- The checks of a header one after another: the first that refuses, or the facts.
use Rattle.std.proofs.Common.{◌≡◌, ℕ, zero, suc, ◌+◌, ◌-◌, ◌*◌, ◌/◌, ◌<◌, ◌≤◌, ◌^◌, ◌==◌, inl, inr, min, nat_lt, not, if◌then◌else◌, pos, Bool, true, false, List, ◌∷◌, ◌++◌, length, take, replicate, Option, Some, None, unwrap_or, Ok, Err, refl, ap, sym, subst, ◌∙◌, arith}
use Rattle.std.proofs.lemmas.Bool.{cases_lt}
use Rattle.std.proofs.lemmas.Bool.Decides.{nat_tests}
use Rattle.std.proofs.lemmas.List.{take_at}
use Rattle.fz_base.specs.Refusal.{refusal, first_refusal}
use Rattle.fz_base.specs.declared.fault.Fault.{Fault}
use Rattle.fz_base.specs.declared.fault.Place.TheVariants.{Card}
use Rattle.fz_base.specs.declared.kind.Kind.TheVariants.{BadCard, Limit}
use Rattle.fz_card.specs.Reading.{integer_of}
use Rattle.fz_block.specs.Cards.{card_at, end_of}
use Rattle.fz_block.specs.Checks.{header_of, unless_refused, header_checks, ends_in_last_block, group_checks, end_checks, hdu_end}
use Rattle.fz_block.specs.Facts.{facts_of, nine_axes, sort_of}
use Rattle.fz_block.specs.Hdus.{size_at, size_in, axes_of, array_len, data_len_of, places, pcount_of, gcount_of}
use Rattle.fz_block.specs.Header.{whole_blocks_of}
use Rattle.fz_block.specs.Mandatory.{mandatory_checks}
use Rattle.fz_block.specs.Values.{said_len}
use Rattle.fz_block.specs.declared.axes.Axes.{Axes}
use Rattle.fz_block.specs.declared.header.Header.{Header}
use Rattle.fz_block.specs.declared.mandatory.Mandatory.{Mandatory}
use Rattle.fz_block.proofs.AxisLists.{axes_count}
use Rattle.fz_block.proofs.Refusals.{passed, stopped}

-- the first check
first_check : (whole : Bool) (fault : Fault) (checks : List (Bool × Fault)) → whole ≡ true → first_refusal ((not whole, fault) ∷ checks) ≡ first_refusal checks
first_check whole fault checks is = rw is refl

first_fails : (whole : Bool) (fault : Fault) (checks : List (Bool × Fault)) → whole ≡ false → first_refusal ((not whole, fault) ∷ checks) ≡ Some fault
first_fails whole fault checks is = rw is refl

-- END is not in the last block
pub not_whole : (k start len : ℕ) (header : List ℕ) → ends_in_last_block header ≡ false → header_of k start len header ≡ Err (refusal k (Card 0) BadCard)
unfolding header_of
not_whole k start len header whole =
    ap (unless_refused (facts_of k start header)) (first_fails (ends_in_last_block header) (refusal k (Card 0) BadCard) (mandatory_checks k header ++ (group_checks k header ++ end_checks k len (hdu_end k start header))) whole)

-- the checks after the mandatory cards
after_whole : (k start len : ℕ) (header : List ℕ) → ends_in_last_block header ≡ true →
    first_refusal (header_checks k start len header) ≡ first_refusal (mandatory_checks k header ++ (group_checks k header ++ end_checks k len (hdu_end k start header)))
after_whole k start len header whole = first_check (ends_in_last_block header) (refusal k (Card 0) BadCard) (mandatory_checks k header ++ (group_checks k header ++ end_checks k len (hdu_end k start header))) whole

after_mandatory : (k start len : ℕ) (header : List ℕ) → ends_in_last_block header ≡ true → first_refusal (mandatory_checks k header) ≡ None →
    first_refusal (header_checks k start len header) ≡ first_refusal (group_checks k header ++ end_checks k len (hdu_end k start header))
after_mandatory k start len header whole one = after_whole k start len header whole ∙ passed (mandatory_checks k header) (group_checks k header ++ end_checks k len (hdu_end k start header)) one

after_groups : (k start len : ℕ) (header : List ℕ) → ends_in_last_block header ≡ true → first_refusal (mandatory_checks k header) ≡ None → first_refusal (group_checks k header) ≡ None →
    first_refusal (header_checks k start len header) ≡ first_refusal (end_checks k len (hdu_end k start header))
after_groups k start len header whole one two = after_mandatory k start len header whole one ∙ passed (group_checks k header) (end_checks k len (hdu_end k start header)) two

pub in_mandatory : (k start len : ℕ) (header : List ℕ) (x : Fault) → ends_in_last_block header ≡ true → first_refusal (mandatory_checks k header) ≡ Some x → header_of k start len header ≡ Err x
unfolding header_of
in_mandatory k start len header x whole some =
    ap (unless_refused (facts_of k start header)) (after_whole k start len header whole ∙ stopped (mandatory_checks k header) (group_checks k header ++ end_checks k len (hdu_end k start header)) x some)

pub in_groups : (k start len : ℕ) (header : List ℕ) (x : Fault) → ends_in_last_block header ≡ true → first_refusal (mandatory_checks k header) ≡ None → first_refusal (group_checks k header) ≡ Some x → header_of k start len header ≡ Err x
unfolding header_of
in_groups k start len header x whole one some =
    ap (unless_refused (facts_of k start header)) (after_mandatory k start len header whole one ∙ stopped (group_checks k header) (end_checks k len (hdu_end k start header)) x some)

pub in_end : (k start len : ℕ) (header : List ℕ) (x : Fault) → ends_in_last_block header ≡ true → first_refusal (mandatory_checks k header) ≡ None → first_refusal (group_checks k header) ≡ None →
    first_refusal (end_checks k len (hdu_end k start header)) ≡ Some x → header_of k start len header ≡ Err x
unfolding header_of
in_end k start len header x whole one two some = ap (unless_refused (facts_of k start header)) (after_groups k start len header whole one two ∙ some)

pub all_pass : (k start len : ℕ) (header : List ℕ) → ends_in_last_block header ≡ true → first_refusal (mandatory_checks k header) ≡ None → first_refusal (group_checks k header) ≡ None →
    first_refusal (end_checks k len (hdu_end k start header)) ≡ None → header_of k start len header ≡ Ok (facts_of k start header)
unfolding header_of
all_pass k start len header whole one two three = ap (unless_refused (facts_of k start header)) (after_groups k start len header whole one two ∙ three)

-- an HDU that would end too far away
pub too_far : (k len end : ℕ) → 2 ^ 62 < end → first_refusal (end_checks k len end) ≡ Some (refusal k (Card 2) Limit)
too_far k len end far =
    let test : nat_lt (2 ^ 62) end ≡ true = grind (arith, nat_tests) in
    rw test refl

-- an HDU that is not refused ends at byte 2^62 at most
pub not_far : (k len end : ℕ) → first_refusal (end_checks k len end) ≡ None → end ≤ 2 ^ 62
not_far k len end none = elim (cases_lt (2 ^ 62) end) as (λ _. end ≤ 2 ^ 62) [
  | inl far ↦ let some = too_far k len end far in absurd cc
  | inr near ↦ near
]

-- a length that was stopped at the greatest number is refused like the length itself
pub end_of_stopped : (k len at n : ℕ) → first_refusal (end_checks k len (at + whole_blocks_of (min n (2 ^ 64 - 1)))) ≡ first_refusal (end_checks k len (at + whole_blocks_of n))
end_of_stopped k len at n = elim (cases_lt (2 ^ 64 - 1) n) as (λ _. first_refusal (end_checks k len (at + whole_blocks_of (min n (2 ^ 64 - 1)))) ≡ first_refusal (end_checks k len (at + whole_blocks_of n))) [
  | inl large ↦
      let one : 2 ^ 62 < at + whole_blocks_of (min n (2 ^ 64 - 1)) = omega arith in
      let two : 2 ^ 62 < at + whole_blocks_of n = omega arith in
      too_far k len (at + whole_blocks_of (min n (2 ^ 64 - 1))) one ∙ sym (too_far k len (at + whole_blocks_of n) two)
  | inr small ↦
      let same : min n (2 ^ 64 - 1) ≡ n = omega arith in
      ap (λ m. first_refusal (end_checks k len (at + whole_blocks_of m))) same
]

-- a length within the limit was not stopped
pub not_stopped : (at n : ℕ) → at + whole_blocks_of (min n (2 ^ 64 - 1)) ≤ 2 ^ 62 → min n (2 ^ 64 - 1) ≡ n
not_stopped at n near = omega arith

-- the data by the counts
len_by_counts : (k : ℕ) (header : List ℕ) → data_len_of k header ≡ array_len header (pcount_of k header) (gcount_of k header)
len_by_counts zero header = refl
len_by_counts (suc k) header = refl

-- the length of the data, by what the mandatory cards say
pub said_is : (k : ℕ) (header : List ℕ) (m : Mandatory) → integer_of (card_at header 1) ≡ Some m.bitpix → m.axes ≡ nine_axes (axes_of header) → m.pcount ≡ pcount_of k header → m.gcount ≡ gcount_of k header →
    said_len m ≡ data_len_of k header
said_is k header m bitpix axes pcount gcount =
    let table = nine_axes (axes_of header) in
    let len : ℕ → ℕ → List ℕ → ℕ → ℕ → ℕ = λ n size ns p g. if n == 0 then 0 else size / 8 * (g * (p + places ns)) in
    let count : m.axes.n ≡ size_at header 2 = ap (λ (a : Axes). a.n) axes ∙ axes_count header in
    let front : take m.axes.n m.axes.len ≡ axes_of header = ap (λ (a : Axes). take a.n a.len) axes ∙ take_at (axes_of header) (replicate (9 - length (axes_of header)) 0) (length (axes_of header)) refl in
    let size : size_in (Some m.bitpix) ≡ size_at header 1 = ap size_in (sym bitpix) in
    ap (λ n. len n (size_in (Some m.bitpix)) (take m.axes.n m.axes.len) m.pcount m.gcount) count
    ∙ (ap (λ s. len (size_at header 2) s (take m.axes.n m.axes.len) m.pcount m.gcount) size
    ∙ (ap (λ ns. len (size_at header 2) (size_at header 1) ns m.pcount m.gcount) front
    ∙ (ap (λ p. len (size_at header 2) (size_at header 1) (axes_of header) p m.gcount) pcount
    ∙ (ap (λ g. len (size_at header 2) (size_at header 1) (axes_of header) (pcount_of k header) g) gcount
    ∙ sym (len_by_counts k header)))))

-- the check of the end, by the length that was computed
pub end_same : (k start len n : ℕ) (header : List ℕ) (m : Mandatory) → said_len m ≡ data_len_of k header → n ≡ min (said_len m) (2 ^ 64 - 1) →
    first_refusal (end_checks k len (hdu_end k start header)) ≡ first_refusal (end_checks k len (start + length header + whole_blocks_of n))
end_same k start len n header m said is =
    let check : ℕ → Option Fault = λ d. first_refusal (end_checks k len (start + length header + whole_blocks_of d)) in
    ap check (sym said) ∙ (sym (end_of_stopped k len (start + length header) (said_len m)) ∙ ap check (sym is))

pub len_same : (k start len n : ℕ) (header : List ℕ) (m : Mandatory) → said_len m ≡ data_len_of k header → n ≡ min (said_len m) (2 ^ 64 - 1) →
    first_refusal (end_checks k len (start + length header + whole_blocks_of n)) ≡ None → n ≡ data_len_of k header
len_same k start len n header m said is none =
    let near : start + length header + whole_blocks_of n ≤ 2 ^ 62 = not_far k len (start + length header + whole_blocks_of n) none in
    let near' : start + length header + whole_blocks_of (min (said_len m) (2 ^ 64 - 1)) ≤ 2 ^ 62 = subst (λ d. start + length header + whole_blocks_of d ≤ 2 ^ 62) is near in
    is ∙ (not_stopped (start + length header) (said_len m) near' ∙ said)

-- the facts, from their parts
pub facts_are : (h : Header) (k start end : ℕ) (header : List ℕ) → h.hdu ≡ k → h.start ≡ start → end_of header ≡ Some end → h.cards ≡ end → h.blocks ≡ length header / 2880 → h.sort ≡ sort_of k header →
    integer_of (card_at header 1) ≡ Some h.bitpix → h.axes ≡ nine_axes (axes_of header) → h.pcount ≡ pcount_of k header → h.gcount ≡ gcount_of k header → h.data_len ≡ data_len_of k header →
    h ≡ facts_of k start header
facts_are h k start end header hdu begin at cards blocks sort bitpix axes pcount gcount len = λ i. record {
  hdu = hdu i;
  start = begin i;
  cards = same_cards i;
  blocks = blocks i;
  sort = sort i;
  bitpix = same_bitpix i;
  axes = axes i;
  pcount = pcount i;
  gcount = gcount i;
  data_len = len i;
}
  where
    same_cards : h.cards ≡ unwrap_or (end_of header) 0
    same_cards = cards ∙ ap (λ e. unwrap_or e 0) (sym at)

    same_bitpix : h.bitpix ≡ unwrap_or (integer_of (card_at header 1)) (pos 0)
    same_bitpix = ap (λ v. unwrap_or v (pos 0)) (sym bitpix)
