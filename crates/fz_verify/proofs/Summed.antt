-- The data of an HDU, added up in pieces, and the verdicts on both sums (FITS 4.0, section 4.4.2.7 and appendix J).
use Rattle.std.proofs.Common.{◌≡◌, ℕ, ◌+◌, ◌-◌, ◌*◌, ◌%◌, ◌≤◌, List, ◌++◌, length, map, take, drop, refl, sym, ap, ◌∙◌, arith}
use Rattle.std.specs.Prelude.{Option, Some, None, IfSome}
use Rattle.std.specs.List.{range_with_len}
use Rattle.std.proofs.Math.Seq.{take-add}
use Rattle.std.proofs.lemmas.List.{drop-drop, drop-take, length-append, length-drop, length-take, take-take, take_all}
use Rattle.fz_base.specs.Source.{HoldsLength, Reads}
use Rattle.fz_block.specs.Cards.{card_at}
use Rattle.fz_block.specs.Facts.{IsHeaderOf}
use Rattle.fz_block.specs.Hdus.{cards_of}
use Rattle.fz_block.specs.Header.{data_start_of, next_start_of, whole_blocks_of}
use Rattle.fz_block.specs.Walk.{hdu_of}
use Rattle.fz_block.specs.declared.header.Header.{Header}
use Rattle.fz_card.specs.CardLists.{cards_in}
use Rattle.fz_sum.specs.Pieces.{Added, after, nothing, total_at}
use Rattle.fz_sum.specs.Sums.{carried, ones_sum, word_total}
use Rattle.fz_verify.specs.Sums.{HasAdded}

-- ---- what the laws of sums say

abbrev pub JoinsTotals : Type 0
JoinsTotals = (at : ℕ) (a b : List ℕ) → total_at at (a ++ b) ≡ total_at at a + total_at (at + length a) b

abbrev pub IsOfWords : Type 0
IsOfWords = (at : ℕ) (bytes : List ℕ) → at % 4 ≡ 0 → total_at at bytes ≡ word_total bytes

abbrev pub IsByPlace : Type 0
IsByPlace = (at n : ℕ) (bytes : List ℕ) → total_at (at + 4 * n) bytes ≡ total_at at bytes

-- ---- the data so far

drop_more : (a b : ℕ) (l : List ℕ) → drop b (drop a l) ≡ drop (a + b) l
drop_more a b l = drop-drop b a l

-- bytes of a piece of a list
piece_of : (size done n : ℕ) (l : List ℕ) → done + n ≤ size → take n (drop done (take size l)) ≡ take n (drop done l)
piece_of size done n l room =
    let m : ℕ = size - done in
    let parts : size ≡ done + m = omega (arith, room) in
    let behind : drop done (take (done + m) l) ≡ take m (drop done l) = drop-take done m l in
    ap (λ k. take n (drop done (take k l))) parts ∙ ap (take n) behind ∙ take-take n m (drop done l) (omega (arith, room))

module _ (joins : JoinsTotals) (file : List ℕ) (h : Header) (inside : next_start_of h ≤ length file) where
  abbrev pub payload : List ℕ
  payload = (hdu_of file h).payload

  long_front : (done : ℕ) → done ≤ whole_blocks_of h.data_len → length (take done payload) ≡ done
  long_front done room =
      let size : ℕ = whole_blocks_of h.data_len in
      let one = length-take done payload in
      let two = length-take size (drop (data_start_of h) file) in
      let three = length-drop (data_start_of h) file in
      omega (arith, one, two, three, room, inside)

  pub one_piece : (done n : ℕ) (sum now : Added) (piece : List ℕ) → done + n ≤ whole_blocks_of h.data_len → length piece ≡ n → piece ≡ take (length piece) (drop (data_start_of h + done) file) →
      sum ≡ after nothing 0 (take done payload) → now ≡ after sum done piece → now ≡ after nothing 0 (take (done + n) payload)
  one_piece done n sum now piece room long read before added =
      let size : ℕ = whole_blocks_of h.data_len in
      let front : List ℕ = take done payload in
      let count : length front ≡ done = long_front done (omega (arith, room)) in
      let same : piece ≡ take n (drop done payload) =
      read ∙ ap (λ k. take k (drop (data_start_of h + done) file)) long
      ∙ ap (take n) (sym (drop_more (data_start_of h) done file))
      ∙ sym (piece_of size done n (drop (data_start_of h) file) room) in
      let whole : take (done + n) payload ≡ front ++ piece = take-add done n payload ∙ ap (λ l. front ++ l) (sym same) in
      let place : done ≡ 0 + length front = omega (arith, count) in
      let total : total_at 0 front + total_at done piece ≡ total_at 0 (front ++ piece) =
      ap (λ k. total_at 0 front + total_at k piece) place ∙ sym (joins 0 front piece) in
      let totals : 0 + total_at 0 front + total_at done piece ≡ 0 + total_at 0 (front ++ piece) = omega (arith, total) in
      let counts : 0 + length front + length piece ≡ 0 + length (front ++ piece) = omega (arith, length-append front piece) in
      let joined : after (after nothing 0 front) done piece ≡ after nothing 0 (front ++ piece) = λ i. record { total = totals i; count = counts i } in
      added ∙ ap (λ (s : Added). after s done piece) before ∙ joined ∙ ap (after nothing 0) (sym whole)

  pub all_pieces : (done : ℕ) (sum : Added) → whole_blocks_of h.data_len ≤ done → done ≤ whole_blocks_of h.data_len → sum ≡ after nothing 0 (take done payload) → HasAdded payload sum
  all_pieces done sum all room before =
      let long = length-take (whole_blocks_of h.data_len) (drop (data_start_of h) file) in
      before ∙ ap (after nothing 0) (take_all done payload (omega (arith, long, all)))

-- ---- where the source tells its bytes

pub pieces_more : JoinsTotals → (held : Option (List ℕ)) (len : ℕ) (h : Header) (done n : ℕ) (sum now : Added) (piece : List ℕ) → HoldsLength held len → next_start_of h ≤ len → done + n ≤ whole_blocks_of h.data_len → length piece ≡ n →
    Reads held (data_start_of h + done) piece → IfSome held (λ file. sum ≡ after nothing 0 (take done (hdu_of file h).payload)) → now ≡ after sum done piece → IfSome held (λ file. now ≡ after nothing 0 (take (done + n) (hdu_of file h).payload))
pieces_more joins None len h done n sum now piece told inside room long read before added = tt
pieces_more joins (Some file) len h done n sum now piece told inside room long read before added =
    one_piece joins file h (omega (arith, told, inside)) done n sum now piece room long read before added

pub pieces_all : JoinsTotals → (held : Option (List ℕ)) (len : ℕ) (h : Header) (done : ℕ) (sum : Added) → HoldsLength held len → next_start_of h ≤ len → whole_blocks_of h.data_len ≤ done → done ≤ whole_blocks_of h.data_len →
    IfSome held (λ file. sum ≡ after nothing 0 (take done (hdu_of file h).payload)) → IfSome held (λ file. HasAdded (hdu_of file h).payload sum)
pieces_all joins None len h done sum told inside all room before = tt
pieces_all joins (Some file) len h done sum told inside all room before = all_pieces joins file h (omega (arith, told, inside)) done sum all room before

pub pieces_none : (held : Option (List ℕ)) (h : Header) (sum : Added) → sum ≡ nothing → IfSome held (λ file. sum ≡ after nothing 0 (take 0 (hdu_of file h).payload))
unfolding total_at
pieces_none None h sum none = tt
pieces_none (Some file) h sum none = none

-- ---- the two sums

none_before : (n : ℕ) → 0 + n ≡ n
none_before n = omega arith

-- the sum of the data
pub data_sum : IsOfWords → (bytes : List ℕ) (sum : Added) → HasAdded bytes sum → carried sum.total ≡ ones_sum bytes
unfolding ones_sum
data_sum words bytes sum added = ap carried (ap (λ (s : Added). s.total) added ∙ none_before (total_at 0 bytes) ∙ words 0 bytes refl)

-- that of the header and the data
pub both_sum : JoinsTotals → IsOfWords → IsByPlace → (header bytes : List ℕ) (blocks : ℕ) (sum now : Added) → length header ≡ 2880 * blocks → HasAdded bytes sum → now ≡ after sum 0 header → carried now.total ≡ ones_sum (header ++ bytes)
unfolding ones_sum
both_sum joins words places header bytes blocks sum now long added more =
    let one : sum.total ≡ total_at 0 bytes = ap (λ (s : Added). s.total) added ∙ none_before (total_at 0 bytes) in
    let two : now.total ≡ sum.total + total_at 0 header = ap (λ (s : Added). s.total) more in
    let total : now.total ≡ total_at 0 bytes + total_at 0 header = omega (arith, one, two) in
    let place : 0 + length header ≡ 0 + 4 * (720 * blocks) = omega (arith, long) in
    let moved : total_at (0 + length header) bytes ≡ total_at 0 bytes = ap (λ k. total_at k bytes) place ∙ places 0 (720 * blocks) bytes in
    let joined : total_at 0 (header ++ bytes) ≡ total_at 0 header + total_at 0 bytes = joins 0 header bytes ∙ ap (λ k. total_at 0 header + k) moved in
    let same : now.total ≡ total_at 0 (header ++ bytes) = omega (arith, total, joined) in
    ap carried (same ∙ words 0 (header ++ bytes) refl)

-- ---- the cards

pub same_cards : (header : List ℕ) (h : Header) → IsHeaderOf header h → cards_in h.cards header ≡ cards_of header
same_cards header h is = ap (λ n. map (card_at header) (range_with_len 0 n)) (ap (λ (j : Header). j.cards) is.facts)
