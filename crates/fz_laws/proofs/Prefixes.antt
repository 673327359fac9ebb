-- A file after some of the writes of a patch.
use Rattle.std.specs.Prelude.{⊤}
use Rattle.std.proofs.Common.{◌≡◌, ◌≢◌, ◌⊎◌, inl, inr, ℕ, zero, suc, ◌+◌, ◌-◌, ◌*◌, ◌^◌, ◌<◌, ◌≤◌, max, Bool, true, false, List, [], ◌∷◌, ◌++◌, length, take, drop, codes, All, slice_index, Option, Some, None, replicate, if◌then◌else◌, ◌==◌, refl, sym, ap, ◌∙◌, subst, arith, pos, drop-drop, length-take-le, take-take}
use Rattle.std.proofs.Math.Seq.{take-append-add}
use Rattle.std.proofs.lemmas.Bool.{cases_lt}
use Rattle.std.proofs.lemmas.List.{drop-take, take-append-le}
use Rattle.fz_base.specs.Counts.{Amend}
use Rattle.fz_base.specs.Sink.{overwrite}
use Rattle.fz_block.specs.Cards.{card_at}
use Rattle.fz_block.specs.Hdus.{pcount_index, size_at, size_in}
use Rattle.fz_block.specs.Header.{data_start_of, whole_blocks_of}
use Rattle.fz_block.specs.declared.header.Header.{Header}
use Rattle.fz_card.specs.Laws.{CardLaws}
use Rattle.fz_card.specs.Layout.{padded}
use Rattle.fz_card.specs.Reading.{integer_of}
use Rattle.fz_table.specs.Rows.{row_start}
use Rattle.fz_table.specs.Tables.{rows_len_of}
use Rattle.fz_table.specs.declared.table.Table.{Table}
use Rattle.fz_tile.specs.TileCode.{TileCode}
use Rattle.fz_head.specs.PackedHeader.{number_card}
use Rattle.fz_files.specs.Packed.{heap_of}
use Rattle.fz_files.specs.Restored.{header_in, image_table}
use Rattle.fz_laws.specs.Amends.{amend_of, amended, applied}
use Rattle.fz_laws.specs.Given.{Given}
use Rattle.fz_laws.specs.PatchHeaders.{IsAmended}
use Rattle.fz_laws.specs.PatchLaws.{AreInOrder}
use Rattle.fz_laws.specs.PatchTaken.{CardPlaceLaws}
use Rattle.fz_laws.specs.Writes.{Steps, all_writes, card_write, code_writes, grown_end, heap_end, heap_writes, zero_writes}
use Rattle.fz_laws.proofs.Between.{AreFine, IsBetween, row_bytes, steps, unchanged}
use Rattle.fz_laws.proofs.CardPlaces.{card_in_front}
use Rattle.fz_laws.proofs.CardWrites.{AreApart, pcount_said, pcount_within}
use Rattle.fz_laws.proofs.CodesWritten.{EndWithin}
use Rattle.fz_laws.proofs.RowWrites.{AreInPlace, IsNewBytes, in_place_within, row_low, some_row}
use Rattle.fz_laws.proofs.Slices.{long_written, rest_after, slice_before, slice_here}
use Rattle.fz_laws.proofs.StepWrites.{AreWrites, all_fine, all_is, applied_both, heap_long, in_order, new_rows, rest_in_place, with_codes}
use Rattle.fz_laws.proofs.TargetFacts.{HasTarget, data_is, lies, whole_rises}

-- ---- fronts of lists of writes

pub order_take : (n len : ℕ) (ws : List Amend) → AreInOrder len ws → AreInOrder len (take n ws)
order_take zero len ws order = tt
order_take (suc n) len [] order = tt
order_take (suc n) len (w ∷ ws) order = (order.0, order.1, order.2, order_take n (max len (w.at + length w.bytes)) ws order.3)

pub fine_take : (base : List ℕ) (h : Header) (t : Table) (says : ℕ → List ℕ → Type 0) (n : ℕ) (ws : List Amend) → AreFine base h t says ws → AreFine base h t says (take n ws)
fine_take base h t says zero ws all = tt
fine_take base h t says (suc n) [] all = tt
fine_take base h t says (suc n) (w ∷ ws) all = (all.0, fine_take base h t says n ws all.1)

pub within_take : (end n : ℕ) (ws : List Amend) → EndWithin end ws → EndWithin end (take n ws)
within_take end zero ws all = tt
within_take end (suc n) [] all = tt
within_take end (suc n) (w ∷ ws) all = (all.0, all.1, within_take end n ws all.2)

-- the order after the first of two lists
pub order_rest : (xs ys : List Amend) (file : List ℕ) → AreInOrder (length file) (xs ++ ys) → AreInOrder (length (applied xs file)) ys
order_rest [] ys file order = order
order_rest (x ∷ xs) ys file order =
    let long : length (amended x file) ≡ max (length file) (x.at + length x.bytes) = long_written x.at x.bytes file order.1 order.0 in
    order_rest xs ys (amended x file) (subst (λ n. AreInOrder n (xs ++ ys)) (sym long) order.3)

pub front_of : (n : ℕ) (xs ys : List Amend) → n ≤ length xs → take n (xs ++ ys) ≡ take n xs
front_of n xs ys few = take-append-le n xs ys few

pub all_and : (n : ℕ) (xs ys : List Amend) → length xs ≤ n → take n (xs ++ ys) ≡ xs ++ take (n - length xs) ys
all_and n xs ys many =
    let parts : length xs + (n - length xs) ≡ n = omega arith in
    ap (λ m. take m (xs ++ ys)) (sym parts) ∙ take-append-add xs ys (n - length xs)

-- ---- what stays

-- writes in place leave what is after their end
pub rest_stays : (end : ℕ) (ws : List Amend) (file : List ℕ) → AreInOrder (length file) ws → EndWithin end ws → drop end (applied ws file) ≡ drop end file
rest_stays end [] file order all = refl
rest_stays end (w ∷ ws) file order all =
    let long : length (amended w file) ≡ max (length file) (w.at + length w.bytes) = long_written w.at w.bytes file order.1 order.0 in
    rest_stays end ws (amended w file) (subst (λ n. AreInOrder n ws) (sym long) order.3) all.2
    ∙ rest_after w.at w.bytes file end order.1 order.0 all.1

pub no_shorter : (ws : List Amend) (file : List ℕ) → AreInOrder (length file) ws → length file ≤ length (applied ws file)
no_shorter [] file order = omega arith
no_shorter (w ∷ ws) file order =
    let long : length (amended w file) ≡ max (length file) (w.at + length w.bytes) = long_written w.at w.bytes file order.1 order.0 in
    let rest = no_shorter ws (amended w file) (subst (λ n. AreInOrder n ws) (sym long) order.3) in
    omega arith

pub no_longer : (end : ℕ) (ws : List Amend) (file : List ℕ) → AreInOrder (length file) ws → EndWithin end ws → end ≤ length file → length (applied ws file) ≡ length file
no_longer end [] file order all low = refl
no_longer end (w ∷ ws) file order all low =
    let long : length (amended w file) ≡ max (length file) (w.at + length w.bytes) = long_written w.at w.bytes file order.1 order.0 in
    let here = all.1 in
    no_longer end ws (amended w file) (subst (λ n. AreInOrder n ws) (sym long) order.3) all.2 (omega arith) ∙ omega arith

pub order_take_first : (xs ys : List Amend) (len : ℕ) → AreInOrder len (xs ++ ys) → AreInOrder len xs
order_take_first [] ys len order = tt
order_take_first (x ∷ xs) ys len order = (order.0, order.1, order.2, order_take_first xs ys (max len (x.at + length x.bytes)) order.3)

-- writes after a place leave what is before it
abbrev pub AreAfter : ℕ → List Amend → Type 0
AreAfter start [] = ⊤
AreAfter start (w ∷ ws) = (start ≤ w.at) × AreAfter start ws

pub front_stays : (start s m : ℕ) (ws : List Amend) (file : List ℕ) → AreInOrder (length file) ws → AreAfter start ws → s + m ≤ start → take m (drop s (applied ws file)) ≡ take m (drop s file)
front_stays start s m [] file order all before = refl
front_stays start s m (w ∷ ws) file order all before =
    let long : length (amended w file) ≡ max (length file) (w.at + length w.bytes) = long_written w.at w.bytes file order.1 order.0 in
    let place = all.0 in
    front_stays start s m ws (amended w file) (subst (λ n. AreInOrder n ws) (sym long) order.3) all.1 before
    ∙ slice_before w.at w.bytes file s m order.1 order.0 (omega arith)

pub slice_cut : (n a m : ℕ) (x : List ℕ) → a + m ≤ n → take m (drop a (take n x)) ≡ take m (drop a x)
slice_cut n a m x low =
    let parts : a + (n - a) ≡ n = omega arith in
    ap (λ k. take m (drop a (take k x))) (sym parts)
    ∙ (ap (take m) (drop-take a (n - a) x)
    ∙ take-take m (n - a) (drop a x) (omega arith))

-- ---- the card PCOUNT

-- a card in the bytes of a file
pub card_there : (x : List ℕ) (h : Header) (i : ℕ) → 80 * (i + 1) ≤ 2880 * h.blocks → card_at (header_in x h) i ≡ take 80 (drop (h.start + 80 * i) x)
card_there x h i within =
    card_in_front (2880 * h.blocks) (drop h.start x) i (omega arith)
    ∙ ap (take 80) (drop-drop (80 * i) h.start x)

pub card_stays : (place : ℕ) (ws : List Amend) (file : List ℕ) → AreInOrder (length file) ws → AreApart place ws → place + 80 ≤ length file → take 80 (drop place (applied ws file)) ≡ take 80 (drop place file)
card_stays place [] file order apart within = refl
card_stays place (w ∷ ws) file order apart within =
    let long : length (amended w file) ≡ max (length file) (w.at + length w.bytes) = long_written w.at w.bytes file order.1 order.0 in
    card_stays place ws (amended w file) (subst (λ n. AreInOrder n ws) (sym long) order.3) apart.1 (omega arith)
    ∙ by_side apart.0
  where
    by_side : (w.at + length w.bytes ≤ place) ⊎ (place + 80 ≤ w.at) → take 80 (drop place (amended w file)) ≡ take 80 (drop place file)
    by_side (inl before) = ap (take 80) (rest_after w.at w.bytes file place order.1 order.0 before)
    by_side (inr after) = slice_before w.at w.bytes file place 80 order.1 order.0 after

pub apart_take : (place n : ℕ) (ws : List Amend) → AreApart place ws → AreApart place (take n ws)
apart_take place zero ws all = tt
apart_take place (suc n) [] all = tt
apart_take place (suc n) (w ∷ ws) all = (all.0, apart_take place n ws all.1)

-- ---- after some of the writes

-- What is known of a file after some of the writes: what stays, what PCOUNT says, and that the HDU ends within the file.
pub record IsPrefix (file : List ℕ) (h : Header) (g : Given) (es : List TileCode) (x : List ℕ) : Type 0 where
  pub long : length file ≤ length x
  pub front : take h.start x ≡ take h.start file
  pub cards : IsAmended (header_in file h) (header_in x h)
  pub heap : take (image_table file h).heap_len (drop (image_table file h).heap_at x) ≡ take (image_table file h).heap_len (drop (image_table file h).heap_at file)
  pub count : ℕ
  pub counted : size_at (header_in x h) (pcount_index (header_in file h)) ≡ count
  pub fits : data_start_of h + whole_blocks_of (count + rows_len_of h) ≤ length x
  pub most : data_start_of h + whole_blocks_of (count + rows_len_of h) ≤ 2 ^ 62
  pub rows :
      (row : ℕ) → row < (image_table file h).rows →
      (row_bytes x (image_table file h) row ≡ row_bytes file (image_table file h) row)
      ⊎ (new_rows file h g es row (row_bytes x (image_table file h) row)
      × (count ≡ h.pcount + length (heap_of es))
      × (drop (heap_end (image_table file h)) x ≡ drop (heap_end (image_table file h)) (with_codes file h es)))

-- and once PCOUNT is written
pub record LatePrefix (file : List ℕ) (h : Header) (g : Given) (es : List TileCode) (x : List ℕ) : Type 0 where
  pub is : IsPrefix file h g es x
  pub count_is : is.count ≡ h.pcount + length (heap_of es)
  pub long_is : length x ≡ grown_end h (length (heap_of es))
  pub tail_is : drop (heap_end (image_table file h)) x ≡ drop (heap_end (image_table file h)) (with_codes file h es)

pub codes_after : (start end : ℕ) (es : List TileCode) → start ≤ end → AreAfter start (code_writes end es)
codes_after start end [] low = tt
codes_after start end (e ∷ es) low = (low, codes_after start (end + length e.bytes) es (omega arith))

zeros_after : (start from end : ℕ) → start ≤ from → AreAfter start (zero_writes from end)
zeros_after start from end low = by_test (from == end)
  where
    by_test : (b : Bool) → AreAfter start (if b then [] else amend_of from (replicate (end - from) 0) ∷ [])
    by_test true = tt
    by_test false = (low, tt)

after_both : (start : ℕ) (xs ys : List Amend) → AreAfter start xs → AreAfter start ys → AreAfter start (xs ++ ys)
after_both start [] ys one two = two
after_both start (x ∷ xs) ys one two = (one.0, after_both start xs ys one.1 two)

after_take : (start n : ℕ) (ws : List Amend) → AreAfter start ws → AreAfter start (take n ws)
after_take start zero ws all = tt
after_take start (suc n) [] all = tt
after_take start (suc n) (w ∷ ws) all = (all.0, after_take start n ws all.1)

pub heap_after : (start : ℕ) (file : List ℕ) (h : Header) (es : List TileCode) → start ≤ heap_end (image_table file h) → AreAfter start (heap_writes file h es)
heap_after start file h es low =
    let from : ℕ = heap_end (image_table file h) in
    after_both start (code_writes from es) (zero_writes (from + length (heap_of es)) (grown_end h (length (heap_of es)))) (codes_after start from es low)
    (zeros_after start (from + length (heap_of es)) (grown_end h (length (heap_of es))) (omega arith))

module _ (places : CardPlaceLaws) (cards : CardLaws) (file : List ℕ) (h : Header) (g : Given) (has : HasTarget file h) (es : List TileCode) (s : Steps) (are : AreWrites file h g es s) where
  abbrev table : Table
  table = image_table file h

  abbrev end : ℕ
  end = heap_end table

  -- the length of the heap is what PCOUNT said
  old_count : size_at (header_in file h) (pcount_index (header_in file h)) ≡ h.pcount
  old_count = sym (pcount_said (header_in file h) h has.image.is_header has.later)

  data_len : h.data_len ≡ h.pcount + rows_len_of h
  data_len = data_is file h has

  -- ---- before PCOUNT is written

  -- a file that is the same up to the end of the heap
  pub front_prefix : (x : List ℕ) → length file ≤ length x → ((s m : ℕ) → s + m ≤ end → take m (drop s x) ≡ take m (drop s file)) → IsPrefix file h g es x
  front_prefix x long stays =
      let place = lies file h has in
      let rows = place.rows in
      let heap = place.heap in
      let header : header_in x h ≡ header_in file h = stays h.start (2880 * h.blocks) (omega arith) in
      let ends = has.ends in
      let of_data = data_len in
      let room = are.room.end in
      let grows = whole_rises h.data_len (h.data_len + length (heap_of es)) (omega arith) in
      let blocks : whole_blocks_of (h.pcount + rows_len_of h) ≡ whole_blocks_of h.data_len = ap whole_blocks_of (sym of_data) in
      record {
        long = long;
        front = stays 0 h.start (omega arith);
        cards = subst (IsAmended (header_in file h)) (sym header) (record { length_is = refl; cards = λ index within. inl refl });
        heap = stays table.heap_at table.heap_len (omega arith);
        count = h.pcount;
        counted = ap (λ l. size_at l (pcount_index (header_in file h))) header ∙ old_count;
        fits = omega arith;
        most = omega arith;
        rows =
            λ row low.
            let inside : table.row_bytes * row + table.row_bytes ≤ table.row_bytes * table.rows = row_low table.row_bytes row table.rows low in
            inl (stays (row_start table row) table.row_bytes (omega arith));
      }

  early_order : (n : ℕ) → AreInOrder (length file) (take n s.heap)
  early_order n =
      order_take n (length file) s.heap
      (order_take_first s.heap (s.pcount ++ (s.forms ++ (s.rows ++ s.sums))) (length file) (subst (AreInOrder (length file)) (all_is s) (in_order file h g has es s are)))

  early_stays : (n a m : ℕ) → a + m ≤ end → take m (drop a (applied (take n s.heap) file)) ≡ take m (drop a file)
  early_stays n a m low =
      front_stays end a m (take n s.heap) file (early_order n) (after_take end n s.heap (subst (AreAfter end) (sym are.heap_is) (heap_after end file h es (omega arith)))) low

  early : (n : ℕ) → IsPrefix file h g es (applied (take n s.heap) file)
  early n = front_prefix (applied (take n s.heap) file) (no_shorter (take n s.heap) file (early_order n)) (early_stays n)

  -- also if the file is cut back to its old length
  pub cut_stays : (n a m : ℕ) → a + m ≤ end → take m (drop a (take (length file) (applied (take n s.heap) file))) ≡ take m (drop a file)
  cut_stays n a m low =
      let inside = (lies file h has).within in
      slice_cut (length file) a m (applied (take n s.heap) file) (omega arith) ∙ early_stays n a m low

  pub cut_long : (n : ℕ) → length (take (length file) (applied (take n s.heap) file)) ≡ length file
  cut_long n = length-take-le (length file) (applied (take n s.heap) file) (no_shorter (take n s.heap) file (early_order n))

  pub cut_prefix : (n : ℕ) → IsPrefix file h g es (take (length file) (applied (take n s.heap) file))
  cut_prefix n = front_prefix (take (length file) (applied (take n s.heap) file)) (let same = cut_long n in omega arith) (cut_stays n)

  pub early_is : (n : ℕ) → n ≤ length s.heap → take n (all_writes s) ≡ take n s.heap
  early_is n few = ap (take n) (all_is s) ∙ front_of n s.heap (s.pcount ++ (s.forms ++ (s.rows ++ s.sums))) few

  -- ---- and from then on

  abbrev later : List Amend
  later = s.forms ++ (s.rows ++ s.sums)

  abbrev count_now : ℕ
  count_now = h.pcount + length (heap_of es)

  abbrev card : Amend
  card = card_write h (pcount_index (header_in file h)) (number_card (codes "PCOUNT") count_now)

  late : (k : ℕ) → IsPrefix file h g es (applied (take k later) (amended card (with_codes file h es)))
  late k =
      let z : List ℕ = with_codes file h es in
      let ws : List Amend = card ∷ take k later in
      let all_order : AreInOrder (length file) (heap_writes file h es ++ (card ∷ later)) =
      subst (AreInOrder (length file)) (all_is s ∙ (λ j. are.heap_is j ++ (are.pcount_is j ++ later))) (in_order file h g has es s are) in
      let z_order : AreInOrder (length z) (card ∷ later) = order_rest (heap_writes file h es) (card ∷ later) file all_order in
      let order : AreInOrder (length z) ws = order_take (suc k) (length z) (card ∷ later) z_order in
      let first_long : length (amended card z) ≡ max (length z) (card.at + length card.bytes) = long_written card.at card.bytes z order.1 order.0 in
      let rest_order : AreInOrder (length (amended card z)) (take k later) = subst (λ n. AreInOrder n (take k later)) (sym first_long) order.3 in
      let heap_first : take (length (heap_writes file h es) + suc k) (heap_writes file h es ++ (card ∷ later)) ≡ heap_writes file h es ++ ws =
      take-append-add (heap_writes file h es) (card ∷ later) (suc k) in
      let whole_order : AreInOrder (length file) (heap_writes file h es ++ ws) =
      subst (AreInOrder (length file)) heap_first (order_take (length (heap_writes file h es) + suc k) (length file) (heap_writes file h es ++ (card ∷ later)) all_order) in
      let whole_fine : AreFine file h table (new_rows file h g es) (heap_writes file h es ++ ws) =
      subst (AreFine file h table (new_rows file h g es)) heap_first
      (fine_take file h table (new_rows file h g es) (length (heap_writes file h es) + suc k) (heap_writes file h es ++ (card ∷ later))
      (subst (AreFine file h table (new_rows file h g es)) (all_is s ∙ (λ j. are.heap_is j ++ (are.pcount_is j ++ later))) (all_fine file h g has es s are))) in
      let x : List ℕ = applied (take k later) (amended card z) in
      let between : IsBetween file h table (new_rows file h g es) x =
      subst (IsBetween file h table (new_rows file h g es)) (applied_both (heap_writes file h es) ws file)
      (steps places file h table (new_rows file h g es) (lies file h has) file (heap_writes file h es ++ ws) (unchanged file h table (new_rows file h g es)) whole_order whole_fine) in
      let z_long : length z ≡ grown_end h (length (heap_of es)) = heap_long file h has es are.room are.some in
      let x_long = no_shorter (take k later) (amended card z) rest_order in
      let header : List ℕ = header_in file h in
      let i : ℕ = pcount_index header in
      let in_header = pcount_within header h has.image.is_header has.later in
      let place = lies file h has in
      let rows_at = place.rows in
      let heap_at = place.heap in
      let inside = place.within in
      let far = between.long in
      let short : length (number_card (codes "PCOUNT") count_now) ≡ 80 = cards.made.integer_length (padded (codes "PCOUNT")) (pos count_now) refl are.room.short in
      let here : take 80 (drop card.at (amended card z)) ≡ card.bytes = ap (λ n. take n (drop card.at (amended card z))) (sym short) ∙ slice_here card.at card.bytes z order.1 order.0 in
      let stays : take 80 (drop card.at x) ≡ card.bytes = card_stays card.at (take k later) (amended card z) rest_order (apart_take card.at k later are.apart) (omega arith) ∙ here in
      let says : integer_of card.bytes ≡ Some (pos count_now) =
      (cards.values.integer card.bytes (pos count_now)).0 (cards.made.integer_value (padded (codes "PCOUNT")) (pos count_now) refl are.room.short) in
      let of_data = data_len in
      let order_again : count_now + rows_len_of h ≡ h.data_len + length (heap_of es) = omega arith in
      let blocks : whole_blocks_of (count_now + rows_len_of h) ≡ whole_blocks_of (h.data_len + length (heap_of es)) = ap whole_blocks_of order_again in
      let room = are.room.end in
      let in_place : AreInPlace file h table (new_rows file h g es) (card ∷ later) =
      subst (AreInPlace file h table (new_rows file h g es)) (ap (λ l. l ++ later) are.pcount_is) (rest_in_place file h g has es s are) in
      let tail : drop end x ≡ drop end z = rest_stays end ws z order (within_take end (suc k) (card ∷ later) (in_place_within file file h table (new_rows file h g es) (card ∷ later) place (some_row file h has) in_place)) in
      record {
        long = between.long;
        front = between.front;
        cards = between.cards;
        heap = between.heap;
        count = count_now;
        counted = ap (λ c. size_in (integer_of c)) (card_there x h i in_header ∙ stays) ∙ ap size_in says;
        fits = omega arith;
        most = omega arith;
        rows = λ row low. by_row row (between.rows row low) tail;
      }
    where
      by_row : (row : ℕ) → (row_bytes (applied (take k later) (amended card (with_codes file h es))) table row ≡ row_bytes file table row) ⊎ new_rows file h g es row (row_bytes (applied (take k later) (amended card (with_codes file h es))) table row) →
          drop end (applied (take k later) (amended card (with_codes file h es))) ≡ drop end (with_codes file h es) →
          (row_bytes (applied (take k later) (amended card (with_codes file h es))) table row ≡ row_bytes file table row)
          ⊎ (new_rows file h g es row (row_bytes (applied (take k later) (amended card (with_codes file h es))) table row)
          × (count_now ≡ h.pcount + length (heap_of es))
          × (drop end (applied (take k later) (amended card (with_codes file h es))) ≡ drop end (with_codes file h es)))
      by_row row (inl same) tail = inl same
      by_row row (inr is) tail = inr (is, refl, tail)

  -- what is after the heap stays, and the file is no longer than it is then
  late_order : (k : ℕ) → AreInOrder (length (with_codes file h es)) (card ∷ take k later)
  late_order k =
      let all_order : AreInOrder (length file) (heap_writes file h es ++ (card ∷ later)) =
      subst (AreInOrder (length file)) (all_is s ∙ (λ j. are.heap_is j ++ (are.pcount_is j ++ later))) (in_order file h g has es s are) in
      order_take (suc k) (length (with_codes file h es)) (card ∷ later) (order_rest (heap_writes file h es) (card ∷ later) file all_order)

  late_within : (k : ℕ) → EndWithin end (card ∷ take k later)
  late_within k =
      let in_place : AreInPlace file h table (new_rows file h g es) (card ∷ later) =
      subst (AreInPlace file h table (new_rows file h g es)) (ap (λ l. l ++ later) are.pcount_is) (rest_in_place file h g has es s are) in
      within_take end (suc k) (card ∷ later) (in_place_within file file h table (new_rows file h g es) (card ∷ later) (lies file h has) (some_row file h has) in_place)

  late_tail : (k : ℕ) → drop end (applied (take k later) (amended card (with_codes file h es))) ≡ drop end (with_codes file h es)
  late_tail k = rest_stays end (card ∷ take k later) (with_codes file h es) (late_order k) (late_within k)

  late_long : (k : ℕ) → length (applied (take k later) (amended card (with_codes file h es))) ≡ grown_end h (length (heap_of es))
  late_long k =
      let z_long : length (with_codes file h es) ≡ grown_end h (length (heap_of es)) = heap_long file h has es are.room are.some in
      let inside = (lies file h has).within in
      let ends = has.ends in
      let grows = whole_rises h.data_len (h.data_len + length (heap_of es)) (omega arith) in
      no_longer end (card ∷ take k later) (with_codes file h es) (late_order k) (late_within k) (omega arith) ∙ z_long

  -- ---- every prefix

  pub prefix : (n : ℕ) → IsPrefix file h g es (applied (take n (all_writes s)) file)
  prefix n = by_place (cases_lt (length s.heap) n)
    where
      rest : List Amend
      rest = s.pcount ++ (s.forms ++ (s.rows ++ s.sums))

      by_place : (length s.heap < n) ⊎ (n ≤ length s.heap) → IsPrefix file h g es (applied (take n (all_writes s)) file)
      by_place (inr few) =
          subst (λ ws. IsPrefix file h g es (applied ws file)) (sym (early_is n few)) (early n)
      by_place (inl many) =
          let k : ℕ = n - length s.heap - 1 in
          let parts : n - length s.heap ≡ suc k = omega arith in
          let list : take n (all_writes s) ≡ heap_writes file h es ++ (card ∷ take k later) =
          ap (take n) (all_is s)
          ∙ (all_and n s.heap rest (omega arith)
          ∙ (λ j. are.heap_is j ++ take (parts j) (are.pcount_is j ++ later))) in
          subst (IsPrefix file h g es) (sym (ap (λ ws. applied ws file) list ∙ applied_both (heap_writes file h es) (card ∷ take k later) file)) (late k)

  -- and after PCOUNT is written
  pub late_prefix : (n : ℕ) → length s.heap < n → LatePrefix file h g es (applied (take n (all_writes s)) file)
  unfolding late
  late_prefix n many =
      let rest : List Amend = s.pcount ++ (s.forms ++ (s.rows ++ s.sums)) in
      let k : ℕ = n - length s.heap - 1 in
      let parts : n - length s.heap ≡ suc k = omega arith in
      let list : take n (all_writes s) ≡ heap_writes file h es ++ (card ∷ take k later) =
      ap (take n) (all_is s)
      ∙ (all_and n s.heap rest (omega arith)
      ∙ (λ j. are.heap_is j ++ take (parts j) (are.pcount_is j ++ later))) in
      subst (LatePrefix file h g es) (sym (ap (λ ws. applied ws file) list ∙ applied_both (heap_writes file h es) (card ∷ take k later) file))
      (record { is = late k; count_is = refl; long_is = late_long k; tail_is = late_tail k })
