-- The cards of a header that is made, by their places, and its last block.
use Rattle.std.proofs.Common.{◌≡◌, ℕ, ◌+◌, ◌*◌, ◌/◌, ◌==◌, ◌<◌, ◌&&◌, true, List, [], length, take, drop, get_or, is_some, IsSome, Option, Some, None, All, sym, ◌∙◌, ap, arith}
use Rattle.std.specs.Prelude.{unwrap_or}
use Rattle.std.proofs.lemmas.Bool.Decides.{nat_tests}
use Rattle.std.proofs.lemmas.List.{take-take}
use Rattle.std.proofs.lemmas.List.FromFn.{get_or-map-range_with_len, length-map-range_with_len}
use Rattle.fz_block.specs.Cards.{card_at, end_of}
use Rattle.fz_block.specs.Checks.{blocks_to_end, ends_in_last_block}
use Rattle.fz_block.specs.Hdus.{IsCardBeforeEnd, IsHeader, header_bytes}
use Rattle.fz_block.specs.Header.{whole_blocks_of}
use Rattle.fz_laws.specs.OutputsTaken.{MadeLaws}

module _ (laws : MadeLaws) (cards : List (List ℕ)) (whole : All IsCardBeforeEnd cards) where
  abbrev header : List ℕ
  header = header_bytes cards

  count : unwrap_or (end_of header) 0 ≡ length cards
  count = sym (length-map-range_with_len (card_at header) 0 (unwrap_or (end_of header) 0)) ∙ ap length (laws.cards cards whole)

  pub made_card : (i : ℕ) → i < length cards → card_at header i ≡ get_or cards i []
  made_card i less =
      let at : 0 + i ≡ i = omega arith in
      sym (get_or-map-range_with_len (card_at header) 0 (unwrap_or (end_of header) 0) i i [] (omega (arith, count, less)) at)
      ∙ ap (λ l. get_or l i []) (laws.cards cards whole)

  pub made_header : IsHeader header
  made_header = (laws.header cards whole).0

  last_block : (L len : ℕ) → len ≡ whole_blocks_of (80 * (L + 1)) → (2880 * (L / 36 + 1) == len) ≡ true
  last_block L len is =
      let same : 2880 * (L / 36 + 1) ≡ len = omega (arith, is) in
      grind (arith, nat_tests, same)

  pub made_ends : ends_in_last_block header ≡ true
  made_ends = by_end (end_of header) made_header.has count
    where
      by_end : (o : Option ℕ) → IsSome o → unwrap_or o 0 ≡ length cards → (is_some o && (2880 * blocks_to_end o == length header)) ≡ true
      by_end None some is = absurd cc
      by_end (Some e) some is = ap (λ n. 2880 * (n / 36 + 1) == length header) is ∙ last_block (length cards) (length header) (laws.header cards whole).2

pub first_name : (header : List ℕ) → take 8 (card_at header 0) ≡ take 8 header
first_name header = let none : 80 * 0 ≡ 0 = omega arith in ap (λ n. take 8 (take 80 (drop n header))) none ∙ take-take 8 80 header (omega arith)
