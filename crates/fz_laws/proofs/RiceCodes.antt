-- Readers of the blocks and of the whole code, and what follows from them for codes.
use Rattle.std.proofs.Common.{◌≡◌, ℕ, zero, suc, ◌-◌, ◌<◌, ◌≤◌, min, Bool, ℤ, List, [], ◌∷◌, ◌++◌, length, take, drop, Ok, inl, inr, refl, sym, subst, ap, ◌∙◌, arith, length-append, length-take, length-drop}
use Rattle.std.specs.List.{AllByRecursion}
use Rattle.std.proofs.lemmas.Bool.{cases_lt}
use Rattle.std.proofs.lemmas.List.{append-nil, take-append-drop, take_at, drop_at, take_all, drop_all}
use Rattle.std.proofs.lemmas.List.Elements.{All-from_recursion, recursion_from_All}
use Rattle.fz_bits.specs.Bits.{number_bits}
use Rattle.fz_rice.specs.Reading.{reading_map, number_at, block_at, blocks_at, numbers_from, code_at}
use Rattle.fz_rice.specs.Numbers.{IsWidth, IsNumber}
use Rattle.fz_rice.specs.Code.{differences, pieces, pieces_of, block_bits, AreBlocks, IsRiceCode}
use Rattle.fz_laws.proofs.RiceReaders.{IsReader, SeqCodes, MapCodes, seq_reader, map_reader, same_reader, ok_parts}
use Rattle.fz_laws.proofs.RiceFields.{NumberCodes, number_reader}
use Rattle.fz_laws.proofs.RiceBlocks.{IsValue, BlockCodes, block_reader}
use Rattle.fz_laws.proofs.RiceNumbers.{length-numbers_from, length-differences, values-differences, IsNumber-numbers_from, differences-numbers_from, numbers_from-differences}

pub record BlocksCodes (w block fuel n : ℕ) (vs : List ℕ) (code : List Bool) : Type 0 where
  pub len : length vs ≡ n
  pub values : AllByRecursion (IsValue w) vs
  pub is : AreBlocks w (pieces_of fuel block vs) code

all-append : (P : ℕ → Type 0) (xs ys : List ℕ) → AllByRecursion P xs → AllByRecursion P ys → AllByRecursion P (xs ++ ys)
all-append P [] ys a b = b
all-append P (x ∷ xs) ys a b = (a.0, all-append P xs ys a.1 b)

all-take : (P : ℕ → Type 0) (n : ℕ) (xs : List ℕ) → AllByRecursion P xs → AllByRecursion P (take n xs)
all-take P zero xs a = tt
all-take P (suc n) [] a = tt
all-take P (suc n) (x ∷ xs) a = (a.0, all-take P n xs a.1)

all-drop : (P : ℕ → Type 0) (n : ℕ) (xs : List ℕ) → AllByRecursion P xs → AllByRecursion P (drop n xs)
all-drop P zero xs a = a
all-drop P (suc n) [] a = tt
all-drop P (suc n) (x ∷ xs) a = all-drop P n xs a.1

pub pieces_of-some : (fuel block : ℕ) (vs : List ℕ) → 0 < length vs → pieces_of (suc fuel) block vs ≡ take block vs ∷ pieces_of fuel block (drop block vs)
pieces_of-some fuel block [] h = absurd (omega arith)
pieces_of-some fuel block (v ∷ vs) h = refl

pieces_of-nil : (fuel block : ℕ) → pieces_of fuel block [] ≡ []
pieces_of-nil zero block = refl
pieces_of-nil (suc fuel) block = refl

nil_of : (xs : List ℕ) → length xs ≡ 0 → xs ≡ []
nil_of [] h = refl
nil_of (x ∷ xs) h = absurd (omega (arith, h))

take_front : (block n : ℕ) (vs more : List ℕ) → length vs ≡ min block n → length more ≡ n - block → take block (vs ++ more) ≡ vs
take_front block n vs more h k = elim (cases_lt n block) [
  | inl less ↦
      let none : more ≡ [] = nil_of more (omega arith) in
      ap (λ x. take block (vs ++ x)) none ∙ ap (take block) (append-nil vs) ∙ take_all block vs (omega arith)
  | inr more' ↦ take_at vs more block (omega arith)
]

drop_front : (block n : ℕ) (vs more : List ℕ) → length vs ≡ min block n → length more ≡ n - block → drop block (vs ++ more) ≡ more
drop_front block n vs more h k = elim (cases_lt n block) [
  | inl less ↦
      let none : more ≡ [] = nil_of more (omega arith) in
      ap (λ x. drop block (vs ++ x)) none ∙ ap (drop block) (append-nil vs) ∙ drop_all block vs (omega arith) ∙ sym none
  | inr more' ↦ drop_at vs more block (omega arith)
]

no_blocks : (w block fuel : ℕ) → IsReader (BlocksCodes w block fuel 0) (blocks_at w block fuel 0)
unfolding blocks_at
no_blocks w block fuel =
    let empty : (vs : List ℕ) (code : List Bool) → BlocksCodes w block fuel 0 vs code → code ≡ [] = λ vs code c. subst (λ (x : List (List ℕ)). AreBlocks w x code) (ap (pieces_of fuel block) (nil_of vs c.len) ∙ pieces_of-nil fuel block) c.is in
    let is : BlocksCodes w block fuel 0 [] [] = record { len = refl; values = tt; is = subst (λ (x : List (List ℕ)). AreBlocks w x []) (sym (pieces_of-nil fuel block)) refl } in
    record {
      some = [];
      some_code = [];
      is_some = is;
      complete = λ vs code rest c.
          let all : [] ≡ vs = sym (nil_of vs c.len) in
          let none : code ++ rest ≡ rest = ap (λ x. x ++ rest) (empty vs code c) in
          ap (λ p. Ok p) (λ i. (all i, none i));
      sound = λ bits vs rest e.
          let parts = ok_parts [] vs bits rest e in
          ([], subst (λ (x : List ℕ). BlocksCodes w block fuel 0 x []) parts.0 is, parts.1);
      ended = λ bits e. cc;
      unlawful = λ bits tail e. cc;
    }

pub blocks_reader : (w block fuel n : ℕ) → IsWidth w → 0 < block → n ≤ fuel → IsReader (BlocksCodes w block fuel n) (blocks_at w block fuel n)
unfolding blocks_at
blocks_reader w block fuel zero is some enough = no_blocks w block fuel
blocks_reader w block zero (suc n) is some enough = absurd (omega arith)
blocks_reader w block (suc fuel) (suc n) is some enough =
    let size = min block (suc n) in
    let Next : List ℕ → List ℕ → List Bool → Type 0 = λ vs. MapCodes (λ more. vs ++ more) (BlocksCodes w block fuel (suc n - block)) in
    same_reader (SeqCodes (BlockCodes w size) Next) (BlocksCodes w block (suc fuel) (suc n)) (blocks_at w block (suc fuel) (suc n))
    (λ vs code c.
    let front = c.0 in
    let more = c.4.0 in
    let one = c.3 in
    let rest = c.4.1 in
    let len : length (front ++ more) ≡ suc n = length-append front more ∙ omega (arith, one.len, rest.len) in
    let cut : pieces_of (suc fuel) block (front ++ more) ≡ front ∷ pieces_of fuel block more = pieces_of-some fuel block (front ++ more) (omega (arith, len)) ∙ ap (λ x. x ∷ pieces_of fuel block (drop block (front ++ more))) (take_front block (suc n) front more one.len rest.len) ∙ ap (λ x. front ∷ pieces_of fuel block x) (drop_front block (suc n) front more one.len rest.len) in
    let blocks : AreBlocks w (front ∷ pieces_of fuel block more) code = (one.id, c.2, one.holds, rest.is, c.5 ∙ ap (λ x. x ++ c.2) one.is) in
    let all : BlocksCodes w block (suc fuel) (suc n) (front ++ more) code = record { len = len; values = all-append (IsValue w) front more one.values rest.values; is = subst (λ (x : List (List ℕ)). AreBlocks w x code) (sym cut) blocks } in
    subst (λ (x : List ℕ). BlocksCodes w block (suc fuel) (suc n) x code) c.4.2 all)
    (λ vs code c.
    let blocks : AreBlocks w (take block vs ∷ pieces_of fuel block (drop block vs)) code = subst (λ (x : List (List ℕ)). AreBlocks w x code) (pieces_of-some fuel block vs (omega (arith, c.len))) c.is in
    let one : BlockCodes w size (take block vs) (block_bits w blocks.0 (take block vs)) = record { len = length-take block vs ∙ ap (min block) c.len; values = all-take (IsValue w) block vs c.values; id = blocks.0; holds = blocks.2; is = refl } in
    let rest : BlocksCodes w block fuel (suc n - block) (drop block vs) blocks.1 = record { len = length-drop block vs ∙ ap (λ k. k - block) c.len; values = all-drop (IsValue w) block vs c.values; is = blocks.3 } in
    (take block vs, block_bits w blocks.0 (take block vs), blocks.1, one, (drop block vs, rest, take-append-drop block vs), blocks.4))
    (seq_reader (BlockCodes w size) Next (block_at w size) (λ vs rest. reading_map (λ more. vs ++ more) (blocks_at w block fuel (suc n - block) rest)) (block_reader w size is) (λ vs code c. map_reader (λ more. vs ++ more) (BlocksCodes w block fuel (suc n - block)) (blocks_at w block fuel (suc n - block)) (blocks_reader w block fuel (suc n - block) is some (omega arith))))

abbrev pub RiceCodes : ℕ → ℕ → ℕ → List ℤ → List Bool → Type 0
RiceCodes w block n xs code = (length xs ≡ n) × IsRiceCode w block xs code

pub code_reader : (w block n : ℕ) → IsWidth w → 0 < block → IsReader (RiceCodes w block n) (code_at w block n)
code_reader w block n is some =
    let Next : ℕ → List ℤ → List Bool → Type 0 = λ start. MapCodes (numbers_from w start) (BlocksCodes w block n n) in
    same_reader (SeqCodes (NumberCodes w) Next) (RiceCodes w block n) (code_at w block n)
    (λ xs code c.
    let start = c.0 in
    let vs = c.4.0 in
    let blocks = c.4.1 in
    let back : differences w start (numbers_from w start vs) ≡ vs = differences-numbers_from w start vs is c.3.0 blocks.values in
    let cut : pieces block (differences w start (numbers_from w start vs)) ≡ pieces_of n block vs = ap (pieces block) back ∙ ap (λ k. pieces_of k block vs) blocks.len in
    let all : (length (numbers_from w start vs) ≡ n) × IsRiceCode w block (numbers_from w start vs) code = (
      length-numbers_from w start vs ∙ blocks.len,
      record {
        numbers = All-from_recursion (IsNumber w) (numbers_from w start vs) (IsNumber-numbers_from w start vs is);
        start = start;
        start_fits = c.3.0;
        blocks = c.2;
        are_blocks = subst (λ (x : List (List ℕ)). AreBlocks w x c.2) (sym cut) blocks.is;
        is = c.5 ∙ ap (λ x. x ++ c.2) c.3.1;
      },
    ) in
    subst (λ (x : List ℤ). RiceCodes w block n x code) c.4.2 all)
    (λ xs code c.
    let rice = c.1 in
    let start = rice.start in
    let vs = differences w start xs in
    let len : length vs ≡ n = length-differences w start xs ∙ c.0 in
    let cut : pieces block vs ≡ pieces_of n block vs = ap (λ k. pieces_of k block vs) len in
    let blocks : BlocksCodes w block n n vs rice.blocks = record { len = len; values = values-differences w start xs is; is = subst (λ (x : List (List ℕ)). AreBlocks w x rice.blocks) cut rice.are_blocks } in
    (start, number_bits w start, rice.blocks, (rice.start_fits, refl), (vs, blocks, numbers_from-differences w start xs is rice.start_fits (recursion_from_All (IsNumber w) xs rice.numbers)), rice.is))
    (seq_reader (NumberCodes w) Next (number_at w) (λ start rest. reading_map (numbers_from w start) (blocks_at w block n n rest)) (number_reader w) (λ start code c. map_reader (numbers_from w start) (BlocksCodes w block n n) (blocks_at w block n n) (blocks_reader w block n n is some (omega arith))))
