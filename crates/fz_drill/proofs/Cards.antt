-- The cards of the images of `drill`: what they say, and how they stand in the header.
use Rattle.std.specs.Prelude.{Option, Some, None, IsSome, unwrap_or, slice_index_or}
use Rattle.std.proofs.Common.{◌≡◌, ℕ, ◌+◌, ◌^◌, ◌<◌, true, false, All, pos, List, [], ◌∷◌, ◌++◌, length, map, codes, bytes_eq, refl, sym, ap, ◌∙◌, arith}
use Rattle.std.proofs.lemmas.Fmt.{decimal_digit}
use Rattle.std.proofs.lemmas.List.{length-map}
use Rattle.std.proofs.lemmas.List.Elements.{All-cons, All-nil}
use Rattle.std.proofs.lemmas.List.FromFn.{length-range_with_len}
use Rattle.std.specs.List.{range_with_len}
use Rattle.fz_card.specs.Layout.{card_name, padded}
use Rattle.fz_card.specs.Laws.{MadeCardLaws}
use Rattle.fz_card.specs.Made.{numbered_name}
use Rattle.fz_card.specs.Reading.{integer_of, logical_of}
use Rattle.fz_block.specs.Cards.{card_at, end_of, is_named}
use Rattle.fz_block.specs.Hdus.{HasBlankFill, IsCardBeforeEnd, IsHeader, cards_of, header_bytes}
use Rattle.fz_head.specs.PackedHeader.{flag_card, number_card, numbered_number_card}
use Rattle.fz_drill.specs.Files.{image_cards}
use Rattle.fz_drill.specs.Taken.{HeaderLaws}

-- NAXIS1 and NAXIS2 as names
pub axis_name : (i : ℕ) → i < 10 → numbered_name (codes "NAXIS") i ≡ padded (codes "NAXIS" ++ (48 + i) ∷ [])
unfolding numbered_name
axis_name i h = ap (λ d. padded (codes "NAXIS" ++ d)) (decimal_digit i h)

named_other : (name card other : List ℕ) → card_name card ≡ name → bytes_eq name (padded other) ≡ false → is_named other card ≡ false
named_other name card other is differs = ap (λ n. bytes_eq n (padded other)) is ∙ differs

all_five : (P : List ℕ → Type 0) (a b c d e : List ℕ) → P a → P b → P c → P d → P e → All P (a ∷ b ∷ c ∷ d ∷ e ∷ [])
all_five P a b c d e pa pb pc pd pe =
    All-cons P a (b ∷ c ∷ d ∷ e ∷ []) pa (All-cons P b (c ∷ d ∷ e ∷ []) pb (All-cons P c (d ∷ e ∷ []) pc (All-cons P d (e ∷ []) pd (All-cons P e [] pe (All-nil P)))))

module _ (l : HeaderLaws) where
  made : MadeCardLaws
  made = l.cards.made

  -- a number card of a word
  pub word_named : (word : List ℕ) (v : ℕ) → length (padded word) ≡ 8 → card_name (number_card word v) ≡ padded word
  word_named word v eight = made.integer_name (padded word) (pos v) eight

  pub word_says : (word : List ℕ) (v : ℕ) → length (padded word) ≡ 8 → v < 10 ^ 18 → integer_of (number_card word v) ≡ Some (pos v)
  word_says word v eight few = (l.cards.values.integer (number_card word v) (pos v)).0 (made.integer_value (padded word) (pos v) eight few)

  pub axis_named : (i v : ℕ) → i < 10 → card_name (numbered_number_card (codes "NAXIS") i v) ≡ padded (codes "NAXIS" ++ (48 + i) ∷ [])
  axis_named i v h =
      let eight : length (numbered_name (codes "NAXIS") i) ≡ 8 = ap length (axis_name i h) in
      made.integer_name (numbered_name (codes "NAXIS") i) (pos v) eight ∙ axis_name i h

  pub axis_says : (i v : ℕ) → i < 10 → v < 10 ^ 18 → integer_of (numbered_number_card (codes "NAXIS") i v) ≡ Some (pos v)
  axis_says i v h few =
      let eight : length (numbered_name (codes "NAXIS") i) ≡ 8 = ap length (axis_name i h) in
      (l.cards.values.integer (numbered_number_card (codes "NAXIS") i v) (pos v)).0 (made.integer_value (numbered_name (codes "NAXIS") i) (pos v) eight few)

  pub simple_named : card_name (flag_card (codes "SIMPLE")) ≡ padded (codes "SIMPLE")
  simple_named = made.logical_name (padded (codes "SIMPLE")) true refl

  pub simple_says : logical_of (flag_card (codes "SIMPLE")) ≡ Some true
  simple_says = (l.cards.values.logical (flag_card (codes "SIMPLE")) true).0 (made.logical_value (padded (codes "SIMPLE")) true refl)

  word_whole : (word : List ℕ) (v : ℕ) → length (padded word) ≡ 8 → v < 10 ^ 18 → bytes_eq (padded word) (padded (codes "END")) ≡ false → IsCardBeforeEnd (number_card word v)
  word_whole word v eight few differs = record {
    long = made.integer_length (padded word) (pos v) eight few;
    name = named_other (padded word) (number_card word v) (codes "END") (word_named word v eight) differs;
  }

  axis_whole : (i v : ℕ) → i < 10 → v < 10 ^ 18 → bytes_eq (padded (codes "NAXIS" ++ (48 + i) ∷ [])) (padded (codes "END")) ≡ false → IsCardBeforeEnd (numbered_number_card (codes "NAXIS") i v)
  axis_whole i v h few differs =
      let eight : length (numbered_name (codes "NAXIS") i) ≡ 8 = ap length (axis_name i h) in
      record {
        long = made.integer_length (numbered_name (codes "NAXIS") i) (pos v) eight few;
        name = named_other (padded (codes "NAXIS" ++ (48 + i) ∷ [])) (numbered_number_card (codes "NAXIS") i v) (codes "END") (axis_named i v h) differs;
      }

  -- no card ends the header
  pub all_whole : (columns rows : ℕ) → columns < 10 ^ 18 → rows < 10 ^ 18 → All IsCardBeforeEnd (image_cards columns rows)
  all_whole columns rows few also =
      let simple : IsCardBeforeEnd (flag_card (codes "SIMPLE")) =
      record {
        long = made.logical_length (padded (codes "SIMPLE")) true refl;
        name = named_other (padded (codes "SIMPLE")) (flag_card (codes "SIMPLE")) (codes "END") simple_named refl;
      } in
      all_five IsCardBeforeEnd _ _ _ _ _ simple (word_whole (codes "BITPIX") 16 refl (omega arith) refl) (word_whole (codes "NAXIS") 2 refl (omega arith) refl) (axis_whole 1 columns (omega arith) few refl)
      (axis_whole 2 rows (omega arith) also refl)

-- the header reads as these cards
pub record ReadsAs (columns rows : ℕ) (header : List ℕ) : Type 0 where
  pub cards : cards_of header ≡ image_cards columns rows
  pub whole : IsHeader header
  pub fill : HasBlankFill header
  pub long : length header ≡ 2880
  pub end : end_of header ≡ Some 5
  pub first : card_at header 0 ≡ flag_card (codes "SIMPLE")
  pub bitpix : card_at header 1 ≡ number_card (codes "BITPIX") 16
  pub naxis : card_at header 2 ≡ number_card (codes "NAXIS") 2
  pub columns_are : card_at header 3 ≡ numbered_number_card (codes "NAXIS") 1 columns
  pub rows_are : card_at header 4 ≡ numbered_number_card (codes "NAXIS") 2 rows

end_is : (found : Option ℕ) → IsSome found → unwrap_or found 0 ≡ 5 → found ≡ Some 5
end_is None some e = absurd cc
end_is (Some i) some e = ap Some e

cards_by : (header : List ℕ) (end : ℕ) → end ≡ 5 → map (card_at header) (range_with_len 0 end) ≡
    card_at header 0 ∷ card_at header 1 ∷ card_at header 2 ∷ card_at header 3 ∷ card_at header 4 ∷ []
cards_by header end e = ap (λ n. map (card_at header) (range_with_len 0 n)) e

pub reads_as : HeaderLaws → (columns rows : ℕ) → columns < 10 ^ 18 → rows < 10 ^ 18 → ReadsAs columns rows (header_bytes (image_cards columns rows))
reads_as l columns rows few also =
    let all : List (List ℕ) = image_cards columns rows in
    let header : List ℕ = header_bytes all in
    let are : All IsCardBeforeEnd all = all_whole l columns rows few also in
    let cards : cards_of header ≡ all = l.listed all are in
    let found = l.header all are in
    let count : unwrap_or (end_of header) 0 ≡ 5 =
    sym (length-range_with_len 0 (unwrap_or (end_of header) 0)) ∙ sym (length-map (range_with_len 0 (unwrap_or (end_of header) 0)) (card_at header)) ∙ ap length cards in
    let each : card_at header 0 ∷ card_at header 1 ∷ card_at header 2 ∷ card_at header 3 ∷ card_at header 4 ∷ [] ≡ all = sym (cards_by header (unwrap_or (end_of header) 0) count) ∙ cards in
    record {
      cards = cards;
      whole = found.0;
      fill = found.1;
      long = found.2;
      end = end_is (end_of header) found.0.has count;
      first = ap (λ l. slice_index_or l 0 []) each;
      bitpix = ap (λ l. slice_index_or l 1 []) each;
      naxis = ap (λ l. slice_index_or l 2 []) each;
      columns_are = ap (λ l. slice_index_or l 3 []) each;
      rows_are = ap (λ l. slice_index_or l 4 []) each;
    }
