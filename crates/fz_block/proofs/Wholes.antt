-- Headers whose last block holds the first END.
use Rattle.std.proofs.Common.{◌≡◌, ℕ, ◌+◌, ◌-◌, ◌*◌, ◌/◌, ◌<◌, ◌≤◌, ◌==◌, ◌&&◌, Bool, true, false, List, length, drop, Option, Some, None, is_some, refl, sym, ◌∙◌, ap, arith}
use Rattle.std.specs.Option.{option_map}
use Rattle.std.proofs.lemmas.Bool.Decides.{nat_tests}
use Rattle.fz_block.specs.Cards.{end_of, end_among}
use Rattle.fz_block.specs.Checks.{ends_in_last_block, blocks_to_end}
use Rattle.fz_block.specs.Hdus.{IsHeader}
use Rattle.fz_block.proofs.Among.{none_first, found_first, found_below}
use Rattle.fz_block.proofs.Room.{end_of_blocks}

-- no END stands before the first
pub none_before : (n m i : ℕ) (xs : List ℕ) → end_among n xs ≡ Some i → m ≤ i → end_among m xs ≡ None
none_before n m i xs found low = by_case (end_among m xs) refl
  where
    by_case : (o : Option ℕ) → end_among m xs ≡ o → end_among m xs ≡ None
    by_case None is = is
    by_case (Some j) is =
        let below : i < n = found_below n i xs found in
        let all : m + (n - m) ≡ n = omega (arith, below, low) in
        let here : j < m = found_below m j xs is in
        let more : end_among n xs ≡ Some j = ap (λ k. end_among k xs) (sym all) ∙ found_first m (n - m) j xs is in
        let same : Some i ≡ Some j = sym found ∙ more in
        let equal : i ≡ j = cc in
        absurd (omega (arith, here, equal, low))

pub some_in : (o : Option ℕ) → is_some o ≡ true → (i : ℕ) × (o ≡ Some i)
some_in None h = absurd cc
some_in (Some i) h = (i, refl)

both_true : (a b : Bool) → (a && b) ≡ true → b ≡ true
both_true true b h = h
both_true false b h = absurd cc

-- the length of such a header
pub whole_length : (header : List ℕ) (i : ℕ) → ends_in_last_block header ≡ true → end_of header ≡ Some i → length header ≡ 2880 * (i / 36 + 1)
whole_length header i whole at =
    let blocks : (2880 * blocks_to_end (end_of header) == length header) ≡ true = both_true (is_some (end_of header)) (2880 * blocks_to_end (end_of header) == length header) whole in
    let here : (2880 * (i / 36 + 1) == length header) ≡ true = ap (λ e. 2880 * blocks_to_end e == length header) (sym at) ∙ blocks in
    grind (arith, nat_tests, here)

pub whole_header : (header : List ℕ) (i : ℕ) → ends_in_last_block header ≡ true → end_of header ≡ Some i → IsHeader header
whole_header header i whole at =
    let long : length header ≡ 2880 * (i / 36 + 1) = whole_length header i whole at in
    record {
      before = i / 36;
      blocks = long;
      none = end_of_blocks (i / 36) header (omega (arith, long)) ∙ none_before (length header / 80) (36 * (i / 36)) i header at (omega arith);
      has = rw at refl;
    }

-- the first END of a header, and that it stands in the last block
pub record EndsAt (header : List ℕ) (before : ℕ) : Type 0 where
  pub card : ℕ
  pub found : end_of header ≡ Some card
  pub among : end_among (36 * (before + 1)) header ≡ Some card
  pub low : 36 * before ≤ card
  pub below : card < 36 * (before + 1)

behind_none : (m i : ℕ) (later : Option ℕ) → Some i ≡ option_map (λ k. m + k) later → m ≤ i
behind_none m i None e = absurd cc
behind_none m i (Some k) e = let same : i ≡ m + k = cc in omega (arith, same)

-- a card that is found is after those among which none is
behind_cards : (m n i : ℕ) (xs : List ℕ) → end_among m xs ≡ None → m ≤ n → end_among n xs ≡ Some i → m ≤ i
behind_cards m n i xs none few found =
    let more : m + (n - m) ≡ n = omega (arith, few) in
    behind_none m i (end_among (n - m) (drop (80 * m) xs)) (sym found ∙ (ap (λ k. end_among k xs) (sym more) ∙ none_first m (n - m) xs none))

pub ends_at : (header : List ℕ) (is : IsHeader header) → EndsAt header is.before
ends_at header is =
    let some = some_in (end_of header) is.has in
    let long : length header ≡ 2880 * (is.before + 1) = is.blocks in
    let cards : length header / 80 ≡ 36 * (is.before + 1) = omega (arith, long) in
    let among : end_among (36 * (is.before + 1)) header ≡ Some some.0 = ap (λ n. end_among n header) (sym cards) ∙ some.1 in
    let none : end_among (36 * is.before) header ≡ None = sym (end_of_blocks is.before header (omega (arith, long))) ∙ is.none in
    record {
      card = some.0;
      found = some.1;
      among = among;
      low = behind_cards (36 * is.before) (36 * (is.before + 1)) some.0 header none (omega arith) among;
      below = found_below (36 * (is.before + 1)) some.0 header among;
    }
