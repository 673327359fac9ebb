-- The sum of some bytes of a file, taken in pieces, and that of a header and such bytes.
use Rattle.std.proofs.Common.{◌≡◌, ℕ, ◌+◌, ◌*◌, ◌%◌, ◌≤◌, List, ◌++◌, length, take, drop, refl, sym, ap, ◌∙◌, arith}
use Rattle.std.specs.Prelude.{Option, Some, None, IfSome}
use Rattle.std.proofs.Math.Seq.{take-add}
use Rattle.std.proofs.lemmas.List.{drop-drop, length-append, length-drop, length-take}
use Rattle.fz_base.specs.Source.{HoldsLength, Reads}
use Rattle.fz_sum.specs.Pieces.{Added, after, nothing, total_at}
use Rattle.fz_sum.specs.Sums.{carried, ones_sum, word_total}

-- ---- what the laws of sums say

abbrev pub JoinsTotals : Type 0
JoinsTotals = (at : ℕ) (a b : List ℕ) → total_at at (a ++ b) ≡ total_at at a + total_at (at + length a) b

abbrev pub IsOfWords : Type 0
IsOfWords = (at : ℕ) (bytes : List ℕ) → at % 4 ≡ 0 → total_at at bytes ≡ word_total bytes

abbrev pub IsByPlace : Type 0
IsByPlace = (at n : ℕ) (bytes : List ℕ) → total_at (at + 4 * n) bytes ≡ total_at at bytes

-- ---- bytes from a place on

-- the first bytes from a place on were added
abbrev pub AreAdded : Option (List ℕ) → ℕ → ℕ → Added → Type 0
AreAdded held start done sum = IfSome held (λ (file : List ℕ). sum ≡ after nothing 0 (take done (drop start file)))

module _ (joins : JoinsTotals) (file : List ℕ) (start : ℕ) where
  long_front : (done : ℕ) → start + done ≤ length file → length (take done (drop start file)) ≡ done
  long_front done room =
      let one = length-take done (drop start file) in
      let two = length-drop start file in
      omega (arith, one, two, room)

  one_piece : (done n : ℕ) (sum now : Added) (piece : List ℕ) → start + done + n ≤ length file → length piece ≡ n → piece ≡ take (length piece) (drop (start + done) file) →
      sum ≡ after nothing 0 (take done (drop start file)) → now ≡ after sum done piece → now ≡ after nothing 0 (take (done + n) (drop start file))
  one_piece done n sum now piece room long read before added =
      let front : List ℕ = take done (drop start file) in
      let count : length front ≡ done = long_front done (omega (arith, room)) in
      let behind : drop done (drop start file) ≡ drop (start + done) file = drop-drop done start file in
      let same : piece ≡ take n (drop done (drop start file)) = read ∙ ap (λ k. take k (drop (start + done) file)) long ∙ ap (take n) (sym behind) in
      let whole : take (done + n) (drop start file) ≡ front ++ piece = take-add done n (drop start file) ∙ ap (λ l. front ++ l) (sym same) in
      let place : done ≡ 0 + length front = omega (arith, count) in
      let total : total_at 0 front + total_at done piece ≡ total_at 0 (front ++ piece) =
      ap (λ k. total_at 0 front + total_at k piece) place ∙ sym (joins 0 front piece) in
      let totals : 0 + total_at 0 front + total_at done piece ≡ 0 + total_at 0 (front ++ piece) = omega (arith, total) in
      let counts : 0 + length front + length piece ≡ 0 + length (front ++ piece) = omega (arith, length-append front piece) in
      let joined : after (after nothing 0 front) done piece ≡ after nothing 0 (front ++ piece) = λ i. record { total = totals i; count = counts i } in
      added ∙ ap (λ (s : Added). after s done piece) before ∙ joined ∙ ap (after nothing 0) (sym whole)

pub more_added : JoinsTotals → (held : Option (List ℕ)) (len start done n : ℕ) (sum now : Added) (piece : List ℕ) → HoldsLength held len → start + done + n ≤ len → length piece ≡ n →
    Reads held (start + done) piece → AreAdded held start done sum → now ≡ after sum done piece → AreAdded held start (done + n) now
more_added joins None len start done n sum now piece told room long read before added = tt
more_added joins (Some file) len start done n sum now piece told room long read before added =
    one_piece joins file start done n sum now piece (omega (arith, told, room)) long read before added

pub none_added : (held : Option (List ℕ)) (start : ℕ) (sum : Added) → sum ≡ nothing → AreAdded held start 0 sum
unfolding total_at
none_added None start sum none = tt
none_added (Some file) start sum none = none

-- ---- the two sums

none_before : (n : ℕ) → 0 + n ≡ n
none_before n = omega arith

-- the sum of the data
pub data_sum : IsOfWords → (bytes : List ℕ) (sum : Added) → sum ≡ after nothing 0 bytes → carried sum.total ≡ ones_sum bytes
unfolding ones_sum
data_sum words bytes sum added = ap carried (ap (λ (s : Added). s.total) added ∙ none_before (total_at 0 bytes) ∙ words 0 bytes refl)

-- that of a header and the data
pub both_sum : JoinsTotals → IsOfWords → IsByPlace → (header bytes : List ℕ) (blocks : ℕ) (sum now : Added) → length header ≡ 2880 * blocks → sum ≡ after nothing 0 bytes → now ≡ after sum 0 header → carried now.total ≡ ones_sum (header ++ bytes)
unfolding ones_sum
both_sum joins words places header bytes blocks sum now long added more =
    let one : sum.total ≡ total_at 0 bytes = ap (λ (s : Added). s.total) added ∙ none_before (total_at 0 bytes) in
    let two : now.total ≡ sum.total + total_at 0 header = ap (λ (s : Added). s.total) more in
    let total : now.total ≡ total_at 0 bytes + total_at 0 header = omega (arith, one, two) in
    let place : 0 + length header ≡ 0 + 4 * (720 * blocks) = omega (arith, long) in
    let moved : total_at (0 + length header) bytes ≡ total_at 0 bytes = ap (λ k. total_at k bytes) place ∙ places 0 (720 * blocks) bytes in
    let joined : total_at 0 (header ++ bytes) ≡ total_at 0 header + total_at 0 bytes = joins 0 header bytes ∙ ap (λ k. total_at 0 header + k) moved in
    let same : now.total ≡ total_at 0 (header ++ bytes) = omega (arith, total, joined) in
    ap carried (same ∙ words 0 (header ++ bytes) refl)
