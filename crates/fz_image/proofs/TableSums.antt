-- The sums of a table that was written, and the cards that tell them.
use Rattle.std.proofs.Common.{◌≡◌, ℕ, ◌+◌, ◌-◌, ◌*◌, ◌%◌, ◌≤◌, max, Bool, true, List, [], ◌∷◌, ◌++◌, length, map, replicate, All, refl, sym, ap, ◌∙◌, subst, arith}
use Rattle.std.proofs.lemmas.List.{append_assoc, length-append}
use Rattle.std.proofs.lemmas.List.Elements.{All-take}
use Rattle.std.proofs.Math.Seq.{take-append_seam}
use Rattle.std.proofs.Math.Nat.{div-le_self, mul-zero}
use Rattle.fz_block.specs.Hdus.{IsCardBeforeEnd, header_bytes}
use Rattle.fz_block.specs.Header.{whole_blocks_of}
use Rattle.fz_sum.specs.Cards.{blank_checksum_card, checksum_card, datasum_card, with_card}
use Rattle.fz_sum.specs.Pieces.{total_at}
use Rattle.fz_sum.specs.Sums.{carried, ones_sum, word_total}
use Rattle.fz_tile.specs.TileCode.{TileCode}
use Rattle.fz_tile.specs.declared.coded.Place2.{Place2}
use Rattle.fz_tile.specs.declared.coded.Place2.TheVariants.{Coded, Stored}
use Rattle.fz_head.specs.declared.plan.Plan.{Plan}
use Rattle.fz_head.specs.declared.totals.Totals.{Totals}
use Rattle.fz_head.specs.Conditions.{AreShort}
use Rattle.fz_checks.specs.Greatest.{greatest}
use Rattle.fz_head.specs.PackedHeader.{packed_header, packed_with, sum_cards}
use Rattle.fz_files.specs.Packed.{coded_count, heap_of, packed_data, rows_from, stored_count, table_header, with_sums}
use Rattle.fz_image.specs.Image.{datasum_put, sum_cards_put}
use Rattle.fz_image.specs.Layout.{IsLayout, rows_len_of}
use Rattle.fz_image.specs.Progress.{no_progress, with_tiles}
use Rattle.fz_image.specs.declared.layout.Layout.{Layout}
use Rattle.fz_image.specs.declared.progress.Progress.{Progress}
use Rattle.fz_image.specs.Tiles.{AreCodesFrom}
use Rattle.fz_image.proofs.Codes.{rows_len}
use Rattle.fz_image.proofs.Progresses.{Joins}
use Rattle.fz_image.proofs.Sizes.{pixel_bytes_small}
use Rattle.fz_image.proofs.TileTotals.{codes_within}

-- ---- what laws say

abbrev pub IsWhole : Type 0
IsWhole = (at : ℕ) (bytes : List ℕ) → at % 4 ≡ 0 → total_at at bytes ≡ word_total bytes

abbrev pub ByWords : Type 0
ByWords = (at n : ℕ) (bytes : List ℕ) → total_at (at + 4 * n) bytes ≡ total_at at bytes

abbrev pub AddNothing : Type 0
AddNothing = (at n : ℕ) → total_at at (replicate n 0) ≡ 0

abbrev pub PutsCard : Type 0
PutsCard = (before : List (List ℕ)) (card other : List ℕ) (behind : List (List ℕ)) → All IsCardBeforeEnd before → length card ≡ 80 → length other ≡ 80
    → with_card (length before) other (header_bytes (before ++ card ∷ behind)) ≡ header_bytes (before ++ other ∷ behind)

-- ---- sums

-- the total of the data of a table that was written
pub data_total : (l : Layout) (codes : List TileCode) → Joins → AddNothing → IsLayout l → length codes ≡ l.tiles → total_at 0 (packed_data l.plan codes) ≡ (with_tiles l no_progress codes).sum.total
data_total l codes joins none is count =
    let R : List ℕ = rows_from l.plan 0 codes in
    let H : List ℕ = heap_of codes in
    let fill : ℕ = whole_blocks_of (length (R ++ H)) - length (R ++ H) in
    let rows : length R ≡ l.row_len * l.tiles = rows_len l.plan 0 codes ∙ (λ i. (sym is.row_len i) * count i) in
    let start : l.row_len * 0 ≡ 0 = mul-zero l.row_len in
    let place : 0 + length R ≡ rows_len_of l + 0 = omega (arith, rows) in
    let all = joins 0 (R ++ H) (replicate fill 0) in
    let zeros = none (0 + length (R ++ H)) fill in
    let both = joins 0 R H in
    let heap : total_at (0 + length R) H ≡ total_at (rows_len_of l + 0) H = ap (λ n. total_at n H) place in
    let first : total_at (l.row_len * 0) R ≡ total_at 0 R = ap (λ n. total_at n R) start in
    omega (arith, all, zeros, both, heap, first)

one_sum : (bytes : List ℕ) → IsWhole → carried (total_at 0 bytes) ≡ ones_sum bytes
unfolding ones_sum
one_sum bytes whole = ap carried (whole 0 bytes refl)

-- the sum of a header of whole words and of data
both_sums : (header payload : List ℕ) (k : ℕ) → Joins → IsWhole → ByWords → length header ≡ 4 * k → carried (total_at 0 payload + total_at 0 header) ≡ ones_sum (header ++ payload)
both_sums header payload k joins whole words size =
    let place : 0 + length header ≡ 0 + 4 * k = omega (arith, size) in
    let behind : total_at (0 + length header) payload ≡ total_at 0 payload = ap (λ n. total_at n payload) place ∙ words 0 k payload in
    let all : total_at 0 payload + total_at 0 header ≡ total_at 0 (header ++ payload) = omega (arith, joins 0 header payload, behind) in
    ap carried all ∙ one_sum (header ++ payload) whole

-- ---- cards

pub all_front : (xs ys : List (List ℕ)) → All IsCardBeforeEnd (xs ++ ys) → All IsCardBeforeEnd xs
all_front xs ys all = subst (All IsCardBeforeEnd) (take-append_seam xs ys) (All-take IsCardBeforeEnd (length xs) (xs ++ ys) all)

module _ (C : List (List ℕ)) (payload : List ℕ) (total k : ℕ) (joins : Joins) (whole : IsWhole) (words : ByWords) (puts : PutsCard) (are : total_at 0 payload ≡ total) where
  abbrev told : List ℕ
  told = datasum_card (carried total)

  abbrev D : List (List ℕ)
  D = C ++ told ∷ []

  abbrev H : List ℕ
  H = header_bytes (D ++ blank_checksum_card ∷ [])

  pub sums_put : All IsCardBeforeEnd (C ++ told ∷ blank_checksum_card ∷ []) → length (datasum_card 0) ≡ 80 → length told ≡ 80 → length blank_checksum_card ≡ 80 → ((sum : ℕ) → length (checksum_card sum) ≡ 80) → length H ≡ 4 * k →
      sum_cards_put (length C) total (header_bytes (C ++ datasum_card 0 ∷ blank_checksum_card ∷ [])) ≡ header_bytes (with_sums true C payload)
  sums_put all zero one blank check size =
      let parted : C ++ told ∷ blank_checksum_card ∷ [] ≡ D ++ blank_checksum_card ∷ [] = sym (append_assoc C (told ∷ []) (blank_checksum_card ∷ [])) in
      let before : All IsCardBeforeEnd C = all_front C (told ∷ blank_checksum_card ∷ []) all in
      let both : All IsCardBeforeEnd D = all_front D (blank_checksum_card ∷ []) (subst (All IsCardBeforeEnd) parted all) in
      let first : datasum_put (length C) total (header_bytes (C ++ datasum_card 0 ∷ blank_checksum_card ∷ [])) ≡ H =
      puts C (datasum_card 0) told (blank_checksum_card ∷ []) before zero one ∙ ap header_bytes parted in
      let next : length C + 1 ≡ length D = sym (length-append C (told ∷ [])) in
      let S : ℕ = carried (total + total_at 0 H) in
      let told_sum : carried total ≡ ones_sum payload = ap carried (sym are) ∙ one_sum payload whole in
      let hdu : S ≡ ones_sum (H ++ payload) = ap (λ n. carried (n + total_at 0 H)) (sym are) ∙ both_sums H payload k joins whole words size in
      (λ i. with_card (length C + 1) (checksum_card (carried (total + total_at 0 (first i)))) (first i))
      ∙ ap (λ n. with_card n (checksum_card S) H) next
      ∙ puts D blank_checksum_card (checksum_card S) [] both blank (check S)
      ∙ ap (λ n. header_bytes (D ++ checksum_card n ∷ [])) hdu
      ∙ ap (λ n. header_bytes ((C ++ datasum_card n ∷ []) ++ checksum_card (ones_sum (header_bytes ((C ++ datasum_card n ∷ []) ++ blank_checksum_card ∷ []) ++ payload)) ∷ [])) told_sum

-- ---- totals

count_by : (unit : ℕ) (place : Place2) (p : Plan) (bytes : List ℕ) → coded_count p (record { place = place; bytes = bytes }) ≤ length bytes
count_by unit Coded p bytes = div-le_self (length bytes) _
count_by unit Stored p bytes = omega arith

coded_few : (p : Plan) (e : TileCode) → coded_count p e ≤ length e.bytes
coded_few p e = count_by 0 e.place p e.bytes

stored_by : (place : Place2) (p : Plan) (bytes : List ℕ) → stored_count p (record { place = place; bytes = bytes }) ≤ length bytes
stored_by Coded p bytes = omega arith
stored_by Stored p bytes = div-le_self (length bytes) _

stored_few : (p : Plan) (e : TileCode) → stored_count p e ≤ length e.bytes
stored_few p e = stored_by e.place p e.bytes

greatest_few : (f : TileCode → ℕ) (es : List TileCode) → ((e : TileCode) → f e ≤ length e.bytes) → greatest (map f es) ≤ length (heap_of es)
unfolding heap_of
greatest_few f [] few = omega arith
greatest_few f (e ∷ es) few = omega (arith, few e, greatest_few f es few, length-append e.bytes (heap_of es))

pub coded_most : (p : Plan) (es : List TileCode) → greatest (map (coded_count p) es) ≤ length (heap_of es)
coded_most p es = greatest_few (coded_count p) es (coded_few p)

pub stored_most : (p : Plan) (es : List TileCode) → greatest (map (stored_count p) es) ≤ length (heap_of es)
stored_most p es = greatest_few (stored_count p) es (stored_few p)

-- what the header tells has few digits
pub short_totals : (l : Layout) (codes : List TileCode) (w : Progress) (sums : Bool) → IsLayout l → AreCodesFrom l 0 codes → length codes ≡ l.tiles → w ≡ with_tiles l no_progress codes →
    AreShort (record { heap = w.heap; emax_coded = w.coded; emax_stored = w.stored; sums = sums })
short_totals l codes w sums is each count progress =
    let heap : w.heap ≡ 0 + length (heap_of codes) = ap (λ (q : Progress). q.heap) progress in
    let coded : w.coded ≡ max 0 (greatest (map (coded_count l.plan) codes)) = ap (λ (q : Progress). q.coded) progress in
    let stored : w.stored ≡ max 0 (greatest (map (stored_count l.plan) codes)) = ap (λ (q : Progress). q.stored) progress in
    let few : length codes ≤ l.tiles = omega (arith, count) in
    let within = codes_within l codes is each few in
    let small = pixel_bytes_small l is in
    record {
      heap = omega (arith, heap, within, small);
      coded = omega (arith, coded, coded_most l.plan codes, within, small);
      stored = omega (arith, stored, stored_most l.plan codes, within, small);
    }

-- the cards of the table are those by what was written
pub made_with : (cards : List (List ℕ)) (p : Plan) (codes : List TileCode) (w : Progress) (sums : Bool) → w.heap ≡ length (heap_of codes) → w.coded ≡ greatest (map (coded_count p) codes) → w.stored ≡ greatest (map (stored_count p) codes) →
    packed_with cards p (record { heap = w.heap; emax_coded = w.coded; emax_stored = w.stored; sums = sums }) [] ≡ table_header p cards codes
unfolding packed_header
made_with cards p codes w sums heap coded stored = λ i. packed_with cards p (record { heap = heap i; emax_coded = coded i; emax_stored = stored i; sums = sums }) []

pub header_with : (cards : List (List ℕ)) (p : Plan) (s : Totals) → packed_header cards p s ≡ packed_with cards p s (sum_cards s.sums)
unfolding packed_header
header_with cards p s = refl

pub zero_more : (n : ℕ) → 0 + n ≡ n
zero_more n = omega arith

pub most_more : (n : ℕ) → max 0 n ≡ n
most_more n = omega arith

-- the sum of data of this total
pub ones_of : (payload : List ℕ) (total : ℕ) → IsWhole → total_at 0 payload ≡ total → ones_sum payload ≡ carried total
ones_of payload total whole are = sym (one_sum payload whole) ∙ ap carried are
