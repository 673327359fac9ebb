-- A file between the writes of a patch: what they leave of the header, of the rows and of the heap.
use Rattle.std.specs.Prelude.{⊤}
use Rattle.std.proofs.Common.{◌≡◌, ◌≢◌, ◌⊎◌, inl, inr, ℕ, zero, suc, ◌+◌, ◌-◌, ◌*◌, ◌^◌, ◌<◌, ◌≤◌, max, Bool, true, false, List, [], ◌∷◌, ◌++◌, length, take, drop, refl, sym, ap, ◌∙◌, subst, arith, length-take-le, length-drop}
use Rattle.std.proofs.Math.Nat.{mul-le-mul}
use Rattle.std.proofs.lemmas.Bool.{cases_lt}
use Rattle.fz_base.specs.Counts.{Amend}
use Rattle.fz_base.specs.Sink.{overwrite}
use Rattle.fz_block.specs.Cards.{card_at}
use Rattle.fz_block.specs.declared.header.Header.{Header}
use Rattle.fz_sum.specs.Cards.{with_card}
use Rattle.fz_table.specs.Rows.{row_start}
use Rattle.fz_table.specs.declared.table.Table.{Table}
use Rattle.fz_files.specs.Restored.{header_in}
use Rattle.fz_laws.specs.Amends.{amended, applied}
use Rattle.fz_laws.specs.PatchHeaders.{IsAmended, IsAmendedCard}
use Rattle.fz_laws.specs.PatchLaws.{AreInOrder}
use Rattle.fz_laws.specs.PatchTaken.{CardPlaceLaws}
use Rattle.fz_laws.proofs.CardInFile.{slice_written}
use Rattle.fz_laws.proofs.Slices.{long_written, rest_after, slice_before, slice_here}

-- Where the table with this header lies in a file: the heap directly after the rows, and both within the file.
pub record LiesIn (file : List ℕ) (h : Header) (t : Table) : Type 0 where
  pub rows : t.rows_at ≡ h.start + 2880 * h.blocks
  pub heap : t.heap_at ≡ t.rows_at + t.row_bytes * t.rows
  pub within : t.heap_at + t.heap_len ≤ length file

-- a write after the heap; one of a card; one of a row, which has this property
pub record IsCardWrite (base : List ℕ) (h : Header) (w : Amend) : Type 0 where
  pub index : ℕ
  pub place : w.at ≡ h.start + 80 * index
  pub long : length w.bytes ≡ 80
  pub within : 80 * (index + 1) ≤ 2880 * h.blocks
  pub amends : IsAmendedCard (card_at (header_in base h) index) w.bytes

pub record IsRowWrite (t : Table) (says : ℕ → List ℕ → Type 0) (w : Amend) : Type 0 where
  pub row : ℕ
  pub low : row < t.rows
  pub place : w.at ≡ row_start t row
  pub long : length w.bytes ≡ t.row_bytes
  pub is : says row w.bytes

abbrev pub IsFine : List ℕ → Header → Table → (ℕ → List ℕ → Type 0) → Amend → Type 0
IsFine base h t says w = (t.heap_at + t.heap_len ≤ w.at) ⊎ (IsCardWrite base h w ⊎ IsRowWrite t says w)

abbrev pub AreFine : List ℕ → Header → Table → (ℕ → List ℕ → Type 0) → List Amend → Type 0
AreFine base h t says [] = ⊤
AreFine base h t says (w ∷ ws) = IsFine base h t says w × AreFine base h t says ws

-- a row is as it was, or has this property
abbrev pub row_bytes : List ℕ → Table → ℕ → List ℕ
row_bytes file t row = take t.row_bytes (drop (row_start t row) file)

pub record IsBetween (base : List ℕ) (h : Header) (t : Table) (says : ℕ → List ℕ → Type 0) (file : List ℕ) : Type 0 where
  pub long : length base ≤ length file
  pub front : take h.start file ≡ take h.start base
  pub cards : IsAmended (header_in base h) (header_in file h)
  pub heap : take t.heap_len (drop t.heap_at file) ≡ take t.heap_len (drop t.heap_at base)
  pub rows : (row : ℕ) → row < t.rows → (row_bytes file t row ≡ row_bytes base t row) ⊎ says row (row_bytes file t row)

pub unchanged : (base : List ℕ) (h : Header) (t : Table) (says : ℕ → List ℕ → Type 0) → IsBetween base h t says base
unchanged base h t says = record {
  long = omega arith;
  front = refl;
  cards = record { length_is = refl; cards = λ index within. inl refl };
  heap = refl;
  rows = λ row low. inl refl;
}

-- ---- one write

-- a row lies between the header and the heap
row_within : (r row n : ℕ) → row < n → r * row + r ≤ r * n
row_within r row n low =
    let more : r * row + r ≡ r * (row + 1) = grind arith in
    let most : r * (row + 1) ≤ r * n = mul-le-mul (omega arith) (omega arith) in
    omega arith

rows_apart : (r one other : ℕ) → one < other → r * one + r ≤ r * other
rows_apart r one other less = row_within r one other less

module _ (laws : CardPlaceLaws) (base : List ℕ) (h : Header) (t : Table) (says : ℕ → List ℕ → Type 0) (lies : LiesIn base h t) where
  header_long : (file : List ℕ) → length base ≤ length file → length (header_in file h) ≡ 2880 * h.blocks
  header_long file long =
      let rows = lies.rows in
      let heap = lies.heap in
      let within = lies.within in
      let left : length (drop h.start file) ≡ length file - h.start = length-drop h.start file in
      length-take-le (2880 * h.blocks) (drop h.start file) (omega arith)

  with_header : (file new : List ℕ) → header_in new h ≡ header_in file h → IsAmended (header_in base h) (header_in file h) → IsAmended (header_in base h) (header_in new h)
  with_header file new same are = subst (IsAmended (header_in base h)) (sym same) are

  -- after the heap
  tail_step : (file : List ℕ) (w : Amend) → IsBetween base h t says file → w.at ≤ length file → 0 < length w.bytes → t.heap_at + t.heap_len ≤ w.at → IsBetween base h t says (amended w file)
  tail_step file w is near some after =
      let rows = lies.rows in
      let heap = lies.heap in
      let longer : length (amended w file) ≡ max (length file) (w.at + length w.bytes) = long_written w.at w.bytes file some near in
      let long = is.long in
      record {
        long = omega arith;
        front = slice_before w.at w.bytes file 0 h.start some near (omega arith) ∙ is.front;
        cards = with_header file (amended w file) (slice_before w.at w.bytes file h.start (2880 * h.blocks) some near (omega arith)) is.cards;
        heap = slice_before w.at w.bytes file t.heap_at t.heap_len some near (omega arith) ∙ is.heap;
        rows =
            λ row low.
            let inside : t.row_bytes * row + t.row_bytes ≤ t.row_bytes * t.rows = row_within t.row_bytes row t.rows low in
            let same : row_bytes (amended w file) t row ≡ row_bytes file t row = slice_before w.at w.bytes file (row_start t row) t.row_bytes some near (omega arith) in
            subst (λ l. (l ≡ row_bytes base t row) ⊎ says row l) (sym same) (is.rows row low);
      }

  -- in the header
  card_in_place : (file : List ℕ) (w : Amend) → length base ≤ length file → IsAmended (header_in base h) (header_in file h) → (c : IsCardWrite base h w) →
      IsAmended (header_in base h) (with_card c.index w.bytes (header_in file h))
  card_in_place file w long are c =
      let size : length (header_in file h) ≡ 2880 * h.blocks = header_long file long in
      let within = c.within in
      let room : 80 * (c.index + 1) ≤ length (header_in file h) = omega arith in
      record {
        length_is = laws.long c.index w.bytes (header_in file h) c.long room ∙ are.length_is;
        cards = λ index inside. by_index index inside room (cases_lt index c.index) (cases_lt c.index index);
      }
    where
      by_index : (index : ℕ) → 80 * index < length (header_in base h) → 80 * (c.index + 1) ≤ length (header_in file h) → (index < c.index) ⊎ (c.index ≤ index) → (c.index < index) ⊎ (index ≤ c.index) →
          IsAmendedCard (card_at (header_in base h) index) (card_at (with_card c.index w.bytes (header_in file h)) index)
      by_index index inside room (inl less) other =
          subst (IsAmendedCard (card_at (header_in base h) index)) (sym (laws.others c.index index w.bytes (header_in file h) c.long room (omega arith))) (are.cards index inside)
      by_index index inside room (inr more) (inl less) =
          subst (IsAmendedCard (card_at (header_in base h) index)) (sym (laws.others c.index index w.bytes (header_in file h) c.long room (omega arith))) (are.cards index inside)
      by_index index inside room (inr more) (inr most) =
          let same : c.index ≡ index = omega arith in
          subst (λ i. IsAmendedCard (card_at (header_in base h) i) (card_at (with_card c.index w.bytes (header_in file h)) i)) same
          (subst (IsAmendedCard (card_at (header_in base h) c.index)) (sym (laws.there c.index w.bytes (header_in file h) c.long room)) c.amends)

  card_step : (file : List ℕ) (w : Amend) → IsBetween base h t says file → w.at ≤ length file → IsCardWrite base h w → IsBetween base h t says (amended w file)
  card_step file w is near c =
      let rows = lies.rows in
      let heap = lies.heap in
      let end = lies.within in
      let size = c.long in
      let some : 0 < length w.bytes = omega arith in
      let longer : length (amended w file) ≡ max (length file) (w.at + length w.bytes) = long_written w.at w.bytes file some near in
      let long = is.long in
      let place = c.place in
      let within = c.within in
      let header : header_in (amended w file) h ≡ with_card c.index w.bytes (header_in file h) =
      ap (λ at. take (2880 * h.blocks) (drop h.start (overwrite at w.bytes file))) place
      ∙ (slice_written h.start (80 * c.index) (2880 * h.blocks) w.bytes file some (omega arith) (omega arith)
      ∙ ap (λ k. take (80 * c.index) (header_in file h) ++ (w.bytes ++ drop k (header_in file h))) (eighty c.index (length w.bytes) size)) in
      record {
        long = omega arith;
        front = slice_before w.at w.bytes file 0 h.start some near (omega arith) ∙ is.front;
        cards = subst (IsAmended (header_in base h)) (sym header) (card_in_place file w is.long is.cards c);
        heap = ap (take t.heap_len) (rest_after w.at w.bytes file t.heap_at some near (omega arith)) ∙ is.heap;
        rows =
            λ row low.
            let same : row_bytes (amended w file) t row ≡ row_bytes file t row = ap (take t.row_bytes) (rest_after w.at w.bytes file (row_start t row) some near (omega arith)) in
            subst (λ l. (l ≡ row_bytes base t row) ⊎ says row l) (sym same) (is.rows row low);
      }
    where
      eighty : (i n : ℕ) → n ≡ 80 → 80 * i + n ≡ 80 * (i + 1)
      eighty i n e = omega arith

  -- a row
  row_step : (file : List ℕ) (w : Amend) → IsBetween base h t says file → w.at ≤ length file → 0 < length w.bytes → IsRowWrite t says w → IsBetween base h t says (amended w file)
  row_step file w is near some c =
      let rows = lies.rows in
      let heap = lies.heap in
      let end = lies.within in
      let size = c.long in
      let longer : length (amended w file) ≡ max (length file) (w.at + length w.bytes) = long_written w.at w.bytes file some near in
      let long = is.long in
      let place = c.place in
      let inside : t.row_bytes * c.row + t.row_bytes ≤ t.row_bytes * t.rows = row_within t.row_bytes c.row t.rows c.low in
      record {
        long = omega arith;
        front = slice_before w.at w.bytes file 0 h.start some near (omega arith) ∙ is.front;
        cards = with_header file (amended w file) (slice_before w.at w.bytes file h.start (2880 * h.blocks) some near (omega arith)) is.cards;
        heap = ap (take t.heap_len) (rest_after w.at w.bytes file t.heap_at some near (omega arith)) ∙ is.heap;
        rows = λ row low. by_row row low (is.rows row low) (cases_lt row c.row) (cases_lt c.row row);
      }
    where
      by_row : (row : ℕ) → row < t.rows → (row_bytes file t row ≡ row_bytes base t row) ⊎ says row (row_bytes file t row) → (row < c.row) ⊎ (c.row ≤ row) → (c.row < row) ⊎ (row ≤ c.row) →
          (row_bytes (amended w file) t row ≡ row_bytes base t row) ⊎ says row (row_bytes (amended w file) t row)
      by_row row low was (inl less) other =
          let apart : t.row_bytes * row + t.row_bytes ≤ t.row_bytes * c.row = rows_apart t.row_bytes row c.row less in
          let place = c.place in
          let same : row_bytes (amended w file) t row ≡ row_bytes file t row = slice_before w.at w.bytes file (row_start t row) t.row_bytes some near (omega arith) in
          subst (λ l. (l ≡ row_bytes base t row) ⊎ says row l) (sym same) was
      by_row row low was (inr more) (inl less) =
          let apart : t.row_bytes * c.row + t.row_bytes ≤ t.row_bytes * row = rows_apart t.row_bytes c.row row less in
          let place = c.place in
          let size = c.long in
          let same : row_bytes (amended w file) t row ≡ row_bytes file t row = ap (take t.row_bytes) (rest_after w.at w.bytes file (row_start t row) some near (omega arith)) in
          subst (λ l. (l ≡ row_bytes base t row) ⊎ says row l) (sym same) was
      by_row row low was (inr more) (inr most) =
          let same : c.row ≡ row = omega arith in
          let here : row_bytes (amended w file) t c.row ≡ w.bytes =
          (λ j. take (sym c.long j) (drop (sym c.place j) (amended w file))) ∙ slice_here w.at w.bytes file some near in
          subst (λ k. (row_bytes (amended w file) t k ≡ row_bytes base t k) ⊎ says k (row_bytes (amended w file) t k)) same
          (inr (subst (says c.row) (sym here) c.is))

  pub step : (file : List ℕ) (w : Amend) → IsBetween base h t says file → w.at ≤ length file → 0 < length w.bytes → IsFine base h t says w → IsBetween base h t says (amended w file)
  step file w is near some (inl after) = tail_step file w is near some after
  step file w is near some (inr (inl c)) = card_step file w is near c
  step file w is near some (inr (inr c)) = row_step file w is near some c

  -- ---- some writes, one after another

  pub steps : (file : List ℕ) (ws : List Amend) → IsBetween base h t says file → AreInOrder (length file) ws → AreFine base h t says ws → IsBetween base h t says (applied ws file)
  steps file [] is order fine = is
  steps file (w ∷ ws) is order fine =
      let longer : length (amended w file) ≡ max (length file) (w.at + length w.bytes) = long_written w.at w.bytes file order.1 order.0 in
      steps (amended w file) ws (step file w is order.0 order.1 fine.0) (subst (λ n. AreInOrder n ws) (sym longer) order.3) fine.1
