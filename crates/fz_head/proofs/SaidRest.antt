-- The parameters, the sort and the offset that a packed header says which was made.
use Rattle.std.proofs.Common.{◌≡◌, ℕ, ◌<◌, ◌≤◌, ◌^◌, Bool, true, false, cond, leb, List, [], ◌∷◌, ◌++◌, length, take, refl, ap, sym, ◌∙◌, subst, arith, inl, inr}
use Rattle.std.specs.Prelude.{pos, not, ◌⊎◌, Option, Some, None, codes, bytes_eq}
use Rattle.std.specs.Fmt.{digits}
use Rattle.std.specs.List.{AllByRecursion, cons_option, filter_map}
use Rattle.std.proofs.lemmas.Bool.{and_from, le-leb, lt-ltb}
use Rattle.fz_card.specs.Laws.{CardLaws}
use Rattle.fz_card.specs.Layout.{card_name}
use Rattle.fz_card.specs.Made.{IsCardText, int_card_bytes, logical_card_bytes, text_card_bytes, numbered_name}
use Rattle.fz_card.specs.Naming.{number_behind, up_to}
use Rattle.fz_card.specs.Reading.{integer_of, has_text, is_text}
use Rattle.fz_block.specs.Hdus.{size_in}
use Rattle.fz_tile.specs.declared.codec.Codec.TheVariants.{Rice}
use Rattle.fz_head.specs.declared.plan.Plan.{Plan}
use Rattle.fz_head.specs.declared.totals.Totals.{Totals}
use Rattle.fz_head.specs.PackedChecks.{block_checks, bytepix_checks, is_block, is_bytepix, is_integer, is_positive, parameter_checks}
use Rattle.fz_head.specs.PackedHeader.{codec_name, made_cards, parameter_cards}
use Rattle.fz_head.specs.PackedPlan.{codec_named, is_rice_name, least, numbered_in, parameter, parameter_in, parameter_number, said_codec, value_of_number}
use Rattle.fz_head.specs.SumCards.{IsSumCard, AreSumCards}
use Rattle.fz_head.proofs.BackAgain.{IsPacked, whole}
use Rattle.fz_head.proofs.ImageFinds.{image_card, image_cards, each-card, no-number}
use Rattle.fz_head.proofs.ImageOnce.{zname-dropped}
use Rattle.fz_head.proofs.MadeFinds.{first_part, made-parts, tile_card, tiles, tile-name, zval1-found, zval2-found}
use Rattle.fz_head.proofs.MadeTables.{AreClear}
use Rattle.fz_head.proofs.MadeValues.{number-says, text-says, block-text, bytepix-text}
use Rattle.fz_head.proofs.Ranges.{all-mapped, all-weaker}
use Rattle.fz_head.proofs.SaidBack.{card-said, codec-said, there}

-- the numbers of a property among cards
filter-none : {X : Type 0} (f : X → Option ℕ) (xs ys : List X) → AllByRecursion (λ x. f x ≡ None) xs → filter_map f (xs ++ ys) ≡ filter_map f ys
filter-none f [] ys none = refl
filter-none f (x ∷ xs) ys none = by_first (f x) none.0 ∙ filter-none f xs ys none.1
  where
    by_first : (o : Option ℕ) → o ≡ None → cons_option o (filter_map f (xs ++ ys)) ≡ filter_map f (xs ++ ys)
    by_first None e = refl
    by_first (Some n) e = cc

filter-nothing : {X : Type 0} (f : X → Option ℕ) (xs : List X) → AllByRecursion (λ x. f x ≡ None) xs → filter_map f xs ≡ []
filter-nothing f [] none = refl
filter-nothing f (x ∷ xs) none = by_first (f x) none.0 ∙ filter-nothing f xs none.1
  where
    by_first : (o : Option ℕ) → o ≡ None → cons_option o (filter_map f xs) ≡ filter_map f xs
    by_first None e = refl
    by_first (Some n) e = cc

-- a card with another name is no parameter
no-parameter : (text card : List ℕ) → up_to 999 (number_behind (codes "ZNAME") (card_name card)) ≡ None → parameter_in text card ≡ None
no-parameter text card e = by_test (has_text text card)
  where
    by_test : (b : Bool) → cond b (up_to 999 (number_behind (codes "ZNAME") (card_name card))) None ≡ None
    by_test true = e
    by_test false = refl

abbrev NoStem : List (List ℕ) → Type 0
NoStem cards = AllByRecursion (λ card. bytes_eq (take 5 (card_name card)) (codes "ZNAME") ≡ false) cards

first-no-stem : (p : Plan) (s : Totals) → NoStem (first_part p s)
unfolding int_card_bytes logical_card_bytes text_card_bytes numbered_name digits
first-no-stem p s = (refl, (refl, (refl, (refl, (refl, (refl, (refl, (refl, (refl, (refl, (refl, (refl, (refl, (refl, tt))))))))))))))

tile-stem : (i : ℕ) → bytes_eq (take 5 (numbered_name (codes "ZTILE") i)) (codes "ZNAME") ≡ false
unfolding numbered_name
tile-stem i = refl

sums-no-stem : (sums : List (List ℕ)) → AreSumCards sums → NoStem sums
sums-no-stem sums are = all-weaker IsSumCard (λ card. bytes_eq (take 5 (card_name card)) (codes "ZNAME") ≡ false) sums other are
  where
    other : (card : List ℕ) → IsSumCard card → bytes_eq (take 5 (card_name card)) (codes "ZNAME") ≡ false
    other card is = elim is.named [
      | inl e ↦ ap (λ n. bytes_eq (take 5 n) (codes "ZNAME")) e
      | inr e ↦ ap (λ n. bytes_eq (take 5 n) (codes "ZNAME")) e
    ]

value-no-stem : (i v : ℕ) → bytes_eq (take 5 (card_name (int_card_bytes (numbered_name (codes "ZVAL") i) (pos v)))) (codes "ZNAME") ≡ false
unfolding int_card_bytes numbered_name
value-no-stem i v = refl

-- by the laws of cards
module _ (laws : CardLaws) where
  other-stem : (card name : List ℕ) → card_name card ≡ name → bytes_eq (take 5 name) (codes "ZNAME") ≡ false → up_to 999 (number_behind (codes "ZNAME") (card_name card)) ≡ None
  other-stem card name e other =
      ap (λ n. up_to 999 (number_behind (codes "ZNAME") n)) e ∙ ap (up_to 999) (sym (laws.numbers.other_stem (codes "ZNAME") name other))

  no-stem : (text card : List ℕ) → bytes_eq (take 5 (card_name card)) (codes "ZNAME") ≡ false → parameter_in text card ≡ None
  no-stem text card other = no-parameter text card (other-stem card (card_name card) refl other)

  tiles-no-stem : (p : Plan) → p.shape.n ≤ 9 → NoStem (tiles p)
  tiles-no-stem p few = all-mapped (λ card. bytes_eq (take 5 (card_name card)) (codes "ZNAME") ≡ false) (tile_card p) 1 p.shape.n (λ i low high. ap (λ n. bytes_eq (take 5 n) (codes "ZNAME")) (tile-name laws p i (omega arith)) ∙ tile-stem i)

  without-stem : (text : List ℕ) (cards : List (List ℕ)) → NoStem cards → AllByRecursion (λ card. parameter_in text card ≡ None) cards
  without-stem text cards none = all-weaker (λ card. bytes_eq (take 5 (card_name card)) (codes "ZNAME") ≡ false) (λ card. parameter_in text card ≡ None) cards (λ card e. no-stem text card e) none

  -- ZNAMEi with a text
  named-parameter : (text said : List ℕ) (i : ℕ) → 1 ≤ i → i < 10 → IsCardText said → parameter_in text (text_card_bytes (numbered_name (codes "ZNAME") i) said) ≡ cond (bytes_eq said text) (up_to 999 (Some i)) None
  named-parameter text said i low few is =
      let eight = laws.numbers.eight_bytes (codes "ZNAME") i (omega arith, omega arith) in
      ap (λ o. cond (is_text text o) (up_to 999 (number_behind (codes "ZNAME") (card_name (text_card_bytes (numbered_name (codes "ZNAME") i) said)))) None) (text-says laws (numbered_name (codes "ZNAME") i) said eight is)
      ∙ ap (λ o. cond (bytes_eq said text) (up_to 999 o) None)
      (ap (number_behind (codes "ZNAME")) (laws.made.text_name (numbered_name (codes "ZNAME") i) said eight) ∙ laws.numbers.made_number (codes "ZNAME") (numbered_name (codes "ZNAME") i) i low (omega arith) refl)

  rice-numbers : (text : List ℕ) (block bytepix : ℕ) (one two : Option ℕ) → cond (bytes_eq (codes "BLOCKSIZE") text) (up_to 999 (Some 1)) None ≡ one → cond (bytes_eq (codes "BYTEPIX") text) (up_to 999 (Some 2)) None ≡ two →
      (rest : List (List ℕ)) → filter_map (parameter_in text) (parameter_cards (Rice block bytepix) ++ rest) ≡ cons_option one (cons_option two (filter_map (parameter_in text) rest))
  rice-numbers text block bytepix one two e1 e2 rest =
      let f = parameter_in text in
      let a : f (text_card_bytes (numbered_name (codes "ZNAME") 1) (codes "BLOCKSIZE")) ≡ one = named-parameter text (codes "BLOCKSIZE") 1 (omega arith) (omega arith) block-text ∙ e1 in
      let b : f (int_card_bytes (numbered_name (codes "ZVAL") 1) (pos block)) ≡ None = no-stem text _ (value-no-stem 1 block) in
      let c : f (text_card_bytes (numbered_name (codes "ZNAME") 2) (codes "BYTEPIX")) ≡ two = named-parameter text (codes "BYTEPIX") 2 (omega arith) (omega arith) bytepix-text ∙ e2 in
      let d : f (int_card_bytes (numbered_name (codes "ZVAL") 2) (pos bytepix)) ≡ None = no-stem text _ (value-no-stem 2 bytepix) in
      λ i. cons_option (a i) (cons_option (b i) (cons_option (c i) (cons_option (d i) (filter_map f rest))))

  module _ (header : List ℕ) (k : ℕ) (primary : Bool) (n last : ℕ) (p : Plan) (s : Totals) (sums : List (List ℕ)) (is : IsPacked header primary n last (made_cards p s) sums) (few : p.shape.n ≤ 9) (are : AreSumCards sums) where
    abbrev C : List (List ℕ)
    C = whole header last (made_cards p s) sums

    image-no-parameter : (text : List ℕ) → AllByRecursion (λ card. parameter_in text card ≡ None) (image_cards header last)
    image-no-parameter text = each-card laws header primary n last is.image (λ card. parameter_in text card ≡ None) (λ i before. no-parameter text (image_card header i) (no-number laws header primary n last is.image (codes "ZNAME") 999 zname-dropped i before))

    numbers : (text : List ℕ) (block bytepix : ℕ) (one two : Option ℕ) → p.codec ≡ Rice block bytepix → cond (bytes_eq (codes "BLOCKSIZE") text) (up_to 999 (Some 1)) None ≡ one → cond (bytes_eq (codes "BYTEPIX") text) (up_to 999 (Some 2)) None ≡ two →
        parameter_number text C ≡ least (cons_option one (cons_option two []))
    numbers text block bytepix one two rice e1 e2 =
        let f = parameter_in text in
        let tail : List (List ℕ) = image_cards header last ++ sums in
        ap (λ l. least (filter_map f l)) (made-parts p s tail)
        ∙ (ap least (filter-none f (first_part p s) (tiles p ++ (parameter_cards p.codec ++ tail)) (without-stem text (first_part p s) (first-no-stem p s)))
        ∙ (ap least (filter-none f (tiles p) (parameter_cards p.codec ++ tail) (without-stem text (tiles p) (tiles-no-stem p few)))
        ∙ (ap (λ c. least (filter_map f (parameter_cards c ++ tail))) rice
        ∙ (ap least (rice-numbers text block bytepix one two e1 e2 tail)
        ∙ ap (λ l. least (cons_option one (cons_option two l)))
        (filter-none f (image_cards header last) sums (image-no-parameter text) ∙ filter-nothing f sums (without-stem text sums (sums-no-stem sums are)))))))

    module _ (block bytepix : ℕ) (rice : p.codec ≡ Rice block bytepix) (low : 1 ≤ block) (high : block ≤ 32767) (bytes : (bytepix ≡ 1) ⊎ ((bytepix ≡ 2) ⊎ (bytepix ≡ 4))) where
      block-number : parameter_number (codes "BLOCKSIZE") C ≡ Some 1
      block-number = numbers (codes "BLOCKSIZE") block bytepix (Some 1) None rice refl refl

      bytepix-number : parameter_number (codes "BYTEPIX") C ≡ Some 2
      bytepix-number = numbers (codes "BYTEPIX") block bytepix None (Some 2) rice refl refl

      bytepix-small : bytepix < 10 ^ 18
      bytepix-small = elim bytes [
        | inl e ↦ omega (arith, e)
        | inr more ↦ elim more [ inl e ↦ omega (arith, e) | inr e ↦ omega (arith, e) ]
      ]

      eight : (i : ℕ) → i < 10 → length (numbered_name (codes "ZVAL") i) ≡ 8
      eight i small = laws.numbers.eight_bytes (codes "ZVAL") i (omega arith, omega arith)

      block-says : integer_of (numbered_in (codes "ZVAL") 1 C) ≡ Some (pos block)
      block-says =
          ap integer_of (card-said laws header k primary n last p s sums is (numbered_name (codes "ZVAL") 1) _ (zval1-found laws p s (image_cards header last ++ sums) block bytepix few rice))
          ∙ number-says laws (numbered_name (codes "ZVAL") 1) block (eight 1 (omega arith)) (omega arith)

      bytepix-says : integer_of (numbered_in (codes "ZVAL") 2 C) ≡ Some (pos bytepix)
      bytepix-says =
          ap integer_of (card-said laws header k primary n last p s sums is (numbered_name (codes "ZVAL") 2) _ (zval2-found laws p s (image_cards header last ++ sums) block bytepix few rice))
          ∙ number-says laws (numbered_name (codes "ZVAL") 2) bytepix (eight 2 (omega arith)) bytepix-small

      pub rice-said : codec_named (said_codec C) C ≡ Rice block bytepix
      rice-said =
          let name : said_codec C ≡ Some (codes "RICE_1") = codec-said laws header k primary n last p s sums is ∙ ap (λ c. Some (codec_name c)) rice in
          let one : parameter (codes "BLOCKSIZE") 32 C ≡ block = ap (value_of_number C 32) block-number ∙ ap size_in block-says in
          let two : parameter (codes "BYTEPIX") 4 C ≡ bytepix = ap (value_of_number C 4) bytepix-number ∙ ap size_in bytepix-says in
          ap (λ t. codec_named t C) name ∙ (λ i. Rice (one i) (two i))

      is-byte : (b : ℕ) → (b ≡ 1) ⊎ ((b ≡ 2) ⊎ (b ≡ 4)) → (is_integer (pos 8) (Some (pos b)) ≡ false) × (not (is_bytepix (Some (pos b))) ≡ false)
      is-byte b (inl e) = (ap (λ v. is_integer (pos 8) (Some (pos v))) e, ap (λ v. not (is_bytepix (Some (pos v)))) e)
      is-byte b (inr (inl e)) = (ap (λ v. is_integer (pos 8) (Some (pos v))) e, ap (λ v. not (is_bytepix (Some (pos v)))) e)
      is-byte b (inr (inr e)) = (ap (λ v. is_integer (pos 8) (Some (pos v))) e, ap (λ v. not (is_bytepix (Some (pos v)))) e)

      pub rice-clear : AreClear (parameter_checks k C)
      rice-clear =
          let name : said_codec C ≡ Some (codes "RICE_1") = codec-said laws header k primary n last p s sums is ∙ ap (λ c. Some (codec_name c)) rice in
          let byte = is-byte bytepix bytes in
          subst (λ t. AreClear (cond (is_rice_name t) (block_checks k C (parameter_number (codes "BLOCKSIZE") C) ++ bytepix_checks k C (parameter_number (codes "BYTEPIX") C)) [])) (sym name)
          (subst (λ o. AreClear (block_checks k C o ++ bytepix_checks k C (parameter_number (codes "BYTEPIX") C))) (sym block-number)
          (subst (λ o. AreClear (block_checks k C (Some 1) ++ bytepix_checks k C o)) (sym bytepix-number) (
            there laws header k primary n last p s sums is (numbered_name (codes "ZVAL") 1) _ (zval1-found laws p s (image_cards header last ++ sums) block bytepix few rice),
            (
              ap (λ o. not (is_block o)) block-says ∙ ap not (and_from (is_positive (Some (pos block))) (leb block 32767) (lt-ltb 0 block (omega arith)) (le-leb block 32767 high)),
              (
                there laws header k primary n last p s sums is (numbered_name (codes "ZVAL") 2) _ (zval2-found laws p s (image_cards header last ++ sums) block bytepix few rice),
                (ap (is_integer (pos 8)) bytepix-says ∙ byte.0, (ap (λ o. not (is_bytepix o)) bytepix-says ∙ byte.1, tt)),
              ),
            ),
          )))
