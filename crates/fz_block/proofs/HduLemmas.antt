-- What the checks of one HDU say of the bytes of the file.
use Rattle.std.proofs.Common.{◌≡◌, ℕ, ◌+◌, ◌*◌, ◌/◌, ◌<◌, ◌≤◌, ◌^◌, ◌==◌, ◌&&◌, inl, inr, nat_lt, not, Bool, true, false, List, [], ◌∷◌, ◌++◌, length, take, drop, Option, Some, None, is_none, is_some, Ok, refl, sym, subst, ◌∙◌, ap, arith}
use Rattle.std.proofs.lemmas.Bool.{cases_lt}
use Rattle.std.proofs.lemmas.Bool.Decides.{nat_tests}
use Rattle.std.proofs.lemmas.List.{length-take, length-drop}
use Rattle.fz_base.specs.Refusal.{refusal, first_refusal}
use Rattle.fz_base.specs.declared.fault.Fault.{Fault}
use Rattle.fz_base.specs.declared.fault.Place.TheVariants.{Byte, Card}
use Rattle.fz_base.specs.declared.kind.Kind.TheVariants.{Truncated, BadCard, Limit}
use Rattle.fz_block.specs.Cards.{end_of, end_among}
use Rattle.fz_block.specs.Checks.{unless_refused, header_room, block_checks, blocks_to_end, header_blocks_of, ends_in_last_block, group_checks, hdu_end, end_checks, header_checks, header_of}
use Rattle.fz_block.specs.Facts.{IsHeaderOf, facts_of}
use Rattle.fz_block.specs.Hdus.{IsHeader, IsHdu, data_len_of}
use Rattle.fz_block.specs.Header.{whole_blocks_of, data_start_of, next_start_of}
use Rattle.fz_block.specs.Mandatory.{mandatory_checks}
use Rattle.fz_block.specs.Walk.{hdu_of}
use Rattle.fz_block.specs.declared.header.Header.{Header}
use Rattle.fz_block.proofs.Among.{found_below}
use Rattle.fz_block.proofs.Refusals.{front_passed, back_passed}
use Rattle.fz_block.proofs.Room.{room_blocks, end_of_room}
use Rattle.fz_block.proofs.Wholes.{some_in, whole_header}

-- an answer says that no check refuses
pub answered : {A : Type 0} (x y : A) (refused : Option Fault) → unless_refused x refused ≡ Ok y → (refused ≡ None) × (x ≡ y)
answered x y None is = (refl, (let e : x ≡ y = cc in e))
answered x y (Some fault) is = absurd cc

some_unless : (o : Option ℕ) → is_none o ≡ false → (i : ℕ) × (o ≡ Some i)
some_unless None h = absurd cc
some_unless (Some i) h = (i, refl)

-- the last of checks that do not refuse
last_passed : (checks : List (Bool × Fault)) (t : Bool) (fault : Fault) → first_refusal (checks ++ (t, fault) ∷ []) ≡ None → t ≡ false
last_passed checks true fault none = let last = back_passed checks ((true, fault) ∷ []) none in absurd cc
last_passed checks false fault none = refl

-- the blocks that are answered are in the file, and at most 256
pub blocks_inside : (k start n : ℕ) (file : List ℕ) → header_blocks_of k start file ≡ Ok n → start ≤ length file → (start + 2880 * n ≤ length file) × (n ≤ 256) × (0 < n)
unfolding header_blocks_of
blocks_inside k start n file is within =
    let end = end_of (header_room start file) in
    let all = answered (blocks_to_end end) n (first_refusal (block_checks k start file)) is in
    let some = last_passed (take 5 (block_checks k start file)) (is_none end) (refusal k (Byte (length file)) Truncated) all.0 in
    let found = some_unless end some in
    let i = found.0 in
    let among : end_among (36 * room_blocks start file) (drop start file) ≡ Some i = sym (end_of_room start file) ∙ found.1 in
    let below : i < 36 * room_blocks start file = found_below (36 * room_blocks start file) i (drop start file) among in
    let count : i / 36 + 1 ≡ n = ap blocks_to_end (sym found.1) ∙ all.1 in
    (omega (arith, below, count), omega (arith, below, count), omega (arith, count))

-- the first check of those that do not refuse
first_passed : (t : Bool) (fault : Fault) (checks : List (Bool × Fault)) → first_refusal ((not t, fault) ∷ checks) ≡ None → (t ≡ true) × (first_refusal checks ≡ None)
first_passed true fault checks none = (refl, none)
first_passed false fault checks none = absurd cc

some_of : (a b : Bool) → (a && b) ≡ true → a ≡ true
some_of true b h = refl
some_of false b h = absurd cc

-- an HDU that ends within the file
ends_within : (k len end : ℕ) → first_refusal (end_checks k len end) ≡ None → end ≤ len
ends_within k len end none = elim (cases_lt len end) as (λ _. end ≤ len) [
  | inl past ↦
      let test : nat_lt len end ≡ true = grind (arith, nat_tests) in
      let clear = last_passed ((nat_lt (2 ^ 62) end, refusal k (Card 2) Limit) ∷ []) (nat_lt len end) (refusal k (Byte len) Truncated) none in
      let clash : true ≡ false = sym test ∙ clear in
      absurd cc
  | inr within ↦ within
]

-- a header whose facts are answered
pub record IsAnswered (k start len : ℕ) (header : List ℕ) (h : Header) : Type 0 where
  pub number : h.hdu ≡ k
  pub place : h.start ≡ start
  pub facts : IsHeaderOf header h
  pub within : start + length header + whole_blocks_of h.data_len ≤ len

pub is_answered : (k start len : ℕ) (header : List ℕ) (h : Header) → length header ≤ 737280 → header_of k start len header ≡ Ok h → IsAnswered k start len header h
unfolding header_of
is_answered k start len header h short is =
    let all = answered (facts_of k start header) h (first_refusal (header_checks k start len header)) is in
    let whole = first_passed (ends_in_last_block header) (refusal k (Card 0) BadCard) (mandatory_checks k header ++ (group_checks k header ++ end_checks k len (hdu_end k start header))) all.0 in
    let mandatory = front_passed (mandatory_checks k header) (group_checks k header ++ end_checks k len (hdu_end k start header)) whole.1 in
    let later = back_passed (mandatory_checks k header) (group_checks k header ++ end_checks k len (hdu_end k start header)) whole.1 in
    let ends = back_passed (group_checks k header) (end_checks k len (hdu_end k start header)) later in
    let some = some_in (end_of header) (some_of (is_some (end_of header)) (2880 * blocks_to_end (end_of header) == length header) whole.0) in
    let same : h ≡ facts_of k start header = sym all.1 in
    let number : h.hdu ≡ k = ap (λ (x : Header). x.hdu) same in
    let place : h.start ≡ start = ap (λ (x : Header). x.start) same in
    let len_same : h.data_len ≡ data_len_of k header = ap (λ (x : Header). x.data_len) same in
    record {
      number = number;
      place = place;
      facts = record {
        whole = whole_header header some.0 whole.0 some.1;
        short = short;
        mandatory = ap (λ n. first_refusal (mandatory_checks n header)) number ∙ mandatory;
        facts = same ∙ (ap (λ n. facts_of n start header) (sym number) ∙ ap (λ n. facts_of h.hdu n header) (sym place));
      };
      within = subst (λ d. start + length header + whole_blocks_of d ≤ len) (sym len_same) (ends_within k len (hdu_end k start header) ends);
    }

-- a header has as many blocks as its facts say
pub blocks_of : (header : List ℕ) (h : Header) → IsHeaderOf header h → length header ≡ 2880 * h.blocks
blocks_of header h is =
    let many : length header ≡ 2880 * (is.whole.before + 1) = is.whole.blocks in
    let same : h.blocks ≡ length header / 2880 = ap (λ (x : Header). x.blocks) is.facts in
    omega (arith, many, same)

-- the length of the data, by the bytes of the header
pub len_of : (header : List ℕ) (h : Header) → IsHeaderOf header h → h.data_len ≡ data_len_of h.hdu header
len_of header h is = ap (λ (x : Header). x.data_len) is.facts

-- the facts stand at their place in the file
pub record StandsIn (file header : List ℕ) (h : Header) : Type 0 where
  pub facts : IsHeaderOf header h
  pub place : take (length header) (drop h.start file) ≡ header
  pub within : next_start_of h ≤ length file

pub its_header : (file header : List ℕ) (h : Header) → StandsIn file header h → (hdu_of file h).header ≡ header
its_header file header h is = ap (λ n. take n (drop h.start file)) (sym (blocks_of header h is.facts)) ∙ is.place

pub its_payload : (file : List ℕ) (h : Header) → next_start_of h ≤ length file → length (hdu_of file h).payload ≡ whole_blocks_of h.data_len
its_payload file h within =
    omega (arith, length-take (whole_blocks_of h.data_len) (drop (data_start_of h) file), length-drop (data_start_of h) file, within)

pub its_hdu : (file header : List ℕ) (h : Header) → StandsIn file header h → IsHdu h.hdu (hdu_of file h)
its_hdu file header h is = record {
  header = subst IsHeader (sym (its_header file header h is)) is.facts.whole;
  payload = its_payload file h is.within ∙ (ap whole_blocks_of (len_of header h is.facts) ∙ ap (λ l. whole_blocks_of (data_len_of h.hdu l)) (sym (its_header file header h is)));
}
