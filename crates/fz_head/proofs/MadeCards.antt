-- The cards that a packed header has of itself are dropped on the way back.
use Rattle.std.proofs.Common.{◌≡◌, ℕ, ◌-◌, ◌<◌, ◌≤◌, ◌^◌, Bool, true, false, List, ◌∷◌, ◌++◌, length, replicate, sym, subst, refl, ap, ◌∙◌, arith, inl, inr}
use Rattle.std.specs.Prelude.{ℤ, pos, ◌⊎◌, codes, decimal, slice_index}
use Rattle.std.proofs.lemmas.Fmt.{length-decimal-le}
use Rattle.std.specs.Fmt.{digits}
use Rattle.fz_card.specs.Laws.{CardLaws}
use Rattle.fz_card.specs.Layout.{padded}
use Rattle.fz_card.specs.Made.{int_card_bytes, logical_card_bytes, text_card_bytes, numbered_name}
use Rattle.fz_card.specs.Naming.{is_dropped, number_behind}
use Rattle.fz_card.specs.Tables.{IsDropped, own_names, packed_names}
use Rattle.fz_sum.specs.Cards.{datasum_card, checksum_card, blank_checksum_card}
use Rattle.fz_sum.specs.Characters.{characters, byte_characters}
use Rattle.fz_tile.specs.declared.codec.Codec.{Codec}
use Rattle.fz_tile.specs.declared.codec.Codec.TheVariants.{Rice, Plio, Plain}
use Rattle.fz_head.specs.declared.plan.Plan.{Plan}
use Rattle.fz_head.specs.declared.totals.Totals.{Totals}
use Rattle.fz_head.specs.PackedHeader.{flag_card, word_card, numbered_number_card, codec_name, table_cards, column_cards, tile_cards, parameter_cards, sum_cards, made_cards}
use Rattle.fz_head.specs.SumCards.{IsDroppedCard, AreDropped, IsSumCard, AreSumCards}
use Rattle.fz_head.proofs.Ranges.{all-append, all-mapped, all-weaker}

-- the cards of sums
sum-dropped : (card : List ℕ) → IsSumCard card → IsDroppedCard card
unfolding is_dropped own_names packed_names number_behind
sum-dropped card is = elim is.named [
  | inl e ↦ ap is_dropped e
  | inr e ↦ ap is_dropped e
]

pub sums-dropped : (sums : List (List ℕ)) → AreSumCards sums → AreDropped sums
sums-dropped sums are = all-weaker IsSumCard IsDroppedCard sums sum-dropped are

length-characters : (sum : ℕ) → length (characters sum) ≡ 16
unfolding characters byte_characters
length-characters sum = refl

-- by the laws of cards
module _ (laws : CardLaws) where
  int-dropped : (name : List ℕ) (v : ℤ) → length name ≡ 8 → is_dropped name ≡ true → IsDroppedCard (int_card_bytes name v)
  int-dropped name v eight e = ap is_dropped (laws.made.integer_name name v eight) ∙ e

  flag-dropped : (name : List ℕ) (b : Bool) → length name ≡ 8 → is_dropped name ≡ true → IsDroppedCard (logical_card_bytes name b)
  flag-dropped name b eight e = ap is_dropped (laws.made.logical_name name b eight) ∙ e

  text-dropped : (name text : List ℕ) → length name ≡ 8 → is_dropped name ≡ true → IsDroppedCard (text_card_bytes name text)
  text-dropped name text eight e = ap is_dropped (laws.made.text_name name text eight) ∙ e

  table-dropped : (p : Plan) (s : Totals) → AreDropped (table_cards p s)
  unfolding is_dropped own_names packed_names number_behind numbered_name digits
  table-dropped p s = (
    text-dropped (padded (codes "XTENSION")) (codes "BINTABLE") refl refl,
    (
      int-dropped (padded (codes "BITPIX")) (pos 8) refl refl,
      (
        int-dropped (padded (codes "NAXIS")) (pos 2) refl refl,
        (
          int-dropped (numbered_name (codes "NAXIS") 1) _ refl refl,
          (
            int-dropped (numbered_name (codes "NAXIS") 2) _ refl refl,
            (
              int-dropped (padded (codes "PCOUNT")) (pos s.heap) refl refl,
              (
                int-dropped (padded (codes "GCOUNT")) (pos 1) refl refl,
                (int-dropped (padded (codes "TFIELDS")) (pos 2) refl refl, tt),
              ),
            ),
          ),
        ),
      ),
    ),
  )

  column-dropped : (p : Plan) (s : Totals) → AreDropped (column_cards p s)
  unfolding is_dropped own_names packed_names number_behind numbered_name digits
  column-dropped p s = (
    text-dropped (numbered_name (codes "TTYPE") 1) _ refl refl,
    (
      text-dropped (numbered_name (codes "TFORM") 1) _ refl refl,
      (
        text-dropped (numbered_name (codes "TTYPE") 2) _ refl refl,
        (text-dropped (numbered_name (codes "TFORM") 2) _ refl refl, tt),
      ),
    ),
  )

  parameter-dropped : (codec : Codec) → AreDropped (parameter_cards codec)
  unfolding is_dropped own_names packed_names number_behind numbered_name digits
  parameter-dropped (Rice block bytepix) = (
    text-dropped (numbered_name (codes "ZNAME") 1) _ refl refl,
    (
      int-dropped (numbered_name (codes "ZVAL") 1) _ refl refl,
      (
        text-dropped (numbered_name (codes "ZNAME") 2) _ refl refl,
        (int-dropped (numbered_name (codes "ZVAL") 2) _ refl refl, tt),
      ),
    ),
  )
  parameter-dropped Plio = tt
  parameter-dropped Plain = tt

  flag-and-name : (p : Plan) (rest : List (List ℕ)) → AreDropped rest → AreDropped (flag_card (codes "ZIMAGE") ∷ word_card (codes "ZCMPTYPE") (codec_name p.codec) ∷ rest)
  unfolding is_dropped own_names packed_names number_behind
  flag-and-name p rest all =
      (flag-dropped (padded (codes "ZIMAGE")) true refl refl, (text-dropped (padded (codes "ZCMPTYPE")) (codec_name p.codec) refl refl, all))

  tile-dropped : (i : ℕ) → 1 ≤ i → i < 10 → is_dropped (numbered_name (codes "ZTILE") i) ≡ true
  unfolding IsDropped packed_names
  tile-dropped i low high =
      laws.names.named_dropped (numbered_name (codes "ZTILE") i)
      (inr (inr (inr (inr (inr (inr (inr (inl (record { number = i; low = low; high = omega arith; made = refl })))))))))

  tiles-dropped : (p : Plan) → p.shape.n ≤ 9 → AreDropped (tile_cards p)
  tiles-dropped p few =
      flag-and-name p _ (all-mapped IsDroppedCard (λ i. numbered_number_card (codes "ZTILE") i (slice_index p.tile.len (i - 1))) 1 p.shape.n (λ i low high.
      int-dropped (numbered_name (codes "ZTILE") i) _ (laws.numbers.eight_bytes (codes "ZTILE") i (omega arith, omega arith)) (tile-dropped i low (omega arith))))

  pub made-dropped : (p : Plan) (s : Totals) → p.shape.n ≤ 9 → AreDropped (made_cards p s)
  made-dropped p s few =
      all-append IsDroppedCard (table_cards p s) (column_cards p s ++ (tile_cards p ++ parameter_cards p.codec)) (table-dropped p s)
      (all-append IsDroppedCard (column_cards p s) (tile_cards p ++ parameter_cards p.codec) (column-dropped p s)
      (all-append IsDroppedCard (tile_cards p) (parameter_cards p.codec) (tiles-dropped p few) (parameter-dropped p.codec)))

  sum-card : (word text : List ℕ) → length (padded word) ≡ 8 → length text ≤ 68 → (padded word ≡ padded (codes "DATASUM")) ⊎ (padded word ≡ padded (codes "CHECKSUM")) → IsSumCard (text_card_bytes (padded word) text)
  sum-card word text eight short named = record {
    whole = laws.made.text_length (padded word) text eight short;
    named = subst (λ n. (n ≡ padded (codes "DATASUM")) ⊎ (n ≡ padded (codes "CHECKSUM"))) (sym (laws.made.text_name (padded word) text eight)) named;
  }

  pub datasum-is : (sum : ℕ) → sum < 2 ^ 32 → IsSumCard (datasum_card sum)
  unfolding datasum_card
  datasum-is sum small = sum-card (codes "DATASUM") (decimal sum) refl (omega (arith, length-decimal-le 10 sum (omega arith) (omega arith) (omega arith))) (inl refl)

  pub checksum-is : (sum : ℕ) → IsSumCard (checksum_card sum)
  unfolding checksum_card
  checksum-is sum = sum-card (codes "CHECKSUM") (characters sum) refl (omega (arith, length-characters sum)) (inr refl)

  pub blank-is : IsSumCard blank_checksum_card
  unfolding blank_checksum_card
  blank-is = sum-card (codes "CHECKSUM") (replicate 16 48) refl (omega arith) (inr refl)

  pub blanks-are : (sums : Bool) → AreSumCards (sum_cards sums)
  blanks-are true = (datasum-is 0 (omega arith), (blank-is, tt))
  blanks-are false = tt
