-- The table that `pack` makes, byte by byte: its header, its rows, its heap and its fill.
use Rattle.std.proofs.Common.{◌≡◌, ℕ, ◌+◌, ◌-◌, ◌*◌, ◌≤◌, ◌==◌, Bool, true, List, ◌++◌, length, take, drop, replicate, sym, ap, ◌∙◌, subst, arith}
use Rattle.std.proofs.Math.Nat.{mul-zero}
use Rattle.std.proofs.lemmas.Bool.Decides.{Decides-eqb}
use Rattle.std.proofs.lemmas.List.{length-append, length-drop, length-replicate, length-take-le}
use Rattle.fz_block.specs.Header.{data_start_of, next_start_of, whole_blocks_of}
use Rattle.fz_block.specs.Hdus.{Hdu, IsHeader, hdu_bytes, header_bytes}
use Rattle.fz_block.specs.Walk.{hdu_of}
use Rattle.fz_block.specs.declared.header.Header.{Header}
use Rattle.fz_files.specs.Packed.{heap_of, packed_data, rows_from, table_header, with_sums, zero_filled}
use Rattle.fz_head.specs.PackedTable.{planned_row}
use Rattle.fz_image.specs.Layout.{heap_at_of, rows_len_of}
use Rattle.fz_image.specs.Progress.{no_progress}
use Rattle.fz_image.specs.declared.layout.Layout.{Layout}
use Rattle.fz_tile.specs.TileCode.{TileCode}
use Rattle.fz_compare.specs.Compared.{HasCodes, has_bytes, has_fill, has_header}
use Rattle.fz_strict.proofs.BytesThere.{IsThere, has_both, has_there, there_back, there_front, there_joined}
use Rattle.fz_strict.proofs.Pieces.{both, first, second}
use Rattle.fz_strict.proofs.RowsAndHeap.{rows_len}
use Rattle.fz_strict.proofs.Split.{one_split}

pub blocks_len : (xs : List ℕ) → length (zero_filled xs) ≡ whole_blocks_of (length xs)
blocks_len xs =
    let w : ℕ = whole_blocks_of (length xs) in
    let fill : List ℕ = replicate (w - length xs) 0 in
    let zeros : length fill ≡ w - length xs = length-replicate (w - length xs) 0 in
    let all : length (xs ++ fill) ≡ length xs + length fill = length-append xs fill in
    omega (arith, zeros, all)

module _ (g : List ℕ) (h : Header) (l : Layout) (sums : Bool) (cards : List (List ℕ)) (codes : List TileCode)
    (at : l.rows_at ≡ data_start_of h) (many : length codes ≡ l.tiles) (row : l.row_len ≡ planned_row l.plan) (inside : next_start_of h ≤ length g) where
  abbrev D : List ℕ
  D = packed_data l.plan codes

  abbrev H : List ℕ
  H = header_bytes (with_sums sums (table_header l.plan cards codes) D)

  abbrev R : List ℕ
  R = rows_from l.plan 0 codes

  abbrev P : List ℕ
  P = heap_of codes

  abbrev n : ℕ
  n = rows_len_of l + length P

  abbrev Z : List ℕ
  Z = replicate (whole_blocks_of n - n) 0

  abbrev end : ℕ
  end = next_start_of h

  abbrev ds : ℕ
  ds = data_start_of h

  abbrev d : Hdu
  d = hdu_of g h

  rows_are : length R ≡ rows_len_of l
  rows_are = rows_len l.plan 0 codes ∙ (λ i. (sym row i) * many i)

  data_len : length (R ++ P) ≡ n
  data_len = length-append R P ∙ ap (λ m. m + length P) rows_are

  data_is : D ≡ (R ++ P) ++ Z
  data_is = ap (λ m. (R ++ P) ++ replicate (whole_blocks_of m - m) 0) data_len

  data_blocks : length D ≡ whole_blocks_of n
  data_blocks = blocks_len (R ++ P) ∙ ap whole_blocks_of data_len

  rows_place : l.rows_at + l.row_len * 0 ≡ ds
  rows_place = omega (arith, at, mul-zero l.row_len)

  heap_place : heap_at_of l + 0 ≡ ds + length R
  heap_place = omega (arith, at, rows_are)

  fill_place : heap_at_of l + length P ≡ ds + length (R ++ P)
  fill_place = omega (arith, at, data_len)

  -- ---- what is there is the table

  header_same : has_header g h H ≡ true → d.header ≡ H
  header_same has =
      let size : h.start + length H ≡ ds = (Decides-eqb (h.start + length H) ds).0 (first (h.start + length H == ds) (has_bytes g h.start ds H) has) in
      let long : length H ≡ 2880 * h.blocks = omega (arith, size) in
      let there = has_there g h.start ds H (second (h.start + length H == ds) (has_bytes g h.start ds H) has) in
      ap (λ m. take m (drop h.start g)) (sym long) ∙ there

  payload_same : HasCodes g end l no_progress codes → has_fill g end l (length P) ≡ true → d.payload ≡ D
  payload_same has fill =
      let size : end ≡ l.rows_at + whole_blocks_of n =
      (Decides-eqb end (l.rows_at + whole_blocks_of n)).0 (first (end == l.rows_at + whole_blocks_of n) (has_bytes g (heap_at_of l + length P) end Z) fill) in
      let whole : whole_blocks_of h.data_len ≡ whole_blocks_of n = omega (arith, size, at) in
      let r : IsThere g ds R = subst (λ k. IsThere g k R) rows_place (has_there g (l.rows_at + l.row_len * 0) end R has.rows) in
      let p : IsThere g (ds + length R) P = subst (λ k. IsThere g k P) heap_place (has_there g (heap_at_of l + 0) end P has.heap) in
      let z : IsThere g (ds + length (R ++ P)) Z =
      subst (λ k. IsThere g k Z) fill_place (has_there g (heap_at_of l + length P) end Z (second (end == l.rows_at + whole_blocks_of n) (has_bytes g (heap_at_of l + length P) end Z) fill)) in
      let all : IsThere g ds D = subst (IsThere g ds) (sym data_is) (there_joined g ds end (R ++ P) Z (there_joined g ds end R P r p) z) in
      ap (λ m. take m (drop ds g)) (whole ∙ sym data_blocks) ∙ all

  pub table_same : HasCodes g end l no_progress codes → has_fill g end l (length P) ≡ true → has_header g h H ≡ true → H ++ D ≡ hdu_bytes d
  table_same has fill header = let a = header_same header in let b = payload_same has fill in λ i. sym a i ++ sym b i

  -- ---- and the table is there

  header_len : length d.header ≡ 2880 * h.blocks
  header_len = length-take-le (2880 * h.blocks) (drop h.start g) (omega (arith, inside, length-drop h.start g))

  payload_len : length d.payload ≡ whole_blocks_of h.data_len
  payload_len = length-take-le (whole_blocks_of h.data_len) (drop ds g) (omega (arith, inside, length-drop ds g))

  pub header_there : H ≡ d.header → has_header g h H ≡ true
  header_there same =
      let long : length H ≡ 2880 * h.blocks = ap length same ∙ header_len in
      let size : h.start + length H ≡ ds = omega (arith, long) in
      let there : IsThere g h.start H = ap (λ m. take m (drop h.start g)) long ∙ sym same in
      sym (both (h.start + length H == ds) (has_bytes g h.start ds H) ((Decides-eqb (h.start + length H) ds).1 size) (has_both g h.start ds H there (omega (arith, size))))

  module _ (same : D ≡ d.payload) where
    whole : whole_blocks_of n ≡ whole_blocks_of h.data_len
    whole = sym data_blocks ∙ ap length same ∙ payload_len

    all_there : IsThere g ds ((R ++ P) ++ Z)
    all_there = subst (IsThere g ds) data_is (ap (λ m. take m (drop ds g)) (data_blocks ∙ whole) ∙ sym same)

    ends : ds + n ≤ end
    ends = omega (arith, whole)

    data_there : IsThere g ds (R ++ P)
    data_there = there_front g ds end (R ++ P) Z all_there

    pub codes_there : HasCodes g end l no_progress codes
    codes_there =
        let r : IsThere g (l.rows_at + l.row_len * 0) R = subst (λ k. IsThere g k R) (sym rows_place) (there_front g ds end R P data_there) in
        let p : IsThere g (heap_at_of l + 0) P = subst (λ k. IsThere g k P) (sym heap_place) (there_back g ds end R P data_there) in
        record {
          rows = has_both g (l.rows_at + l.row_len * 0) end R r (omega (arith, rows_place, rows_are, ends));
          heap = has_both g (heap_at_of l + 0) end P p (omega (arith, heap_place, rows_are, ends));
        }

    pub fill_there : has_fill g end l (length P) ≡ true
    fill_there =
        let size : end ≡ l.rows_at + whole_blocks_of n = omega (arith, whole, at) in
        let z : IsThere g (heap_at_of l + length P) Z = subst (λ k. IsThere g k Z) (sym fill_place) (there_back g ds end (R ++ P) Z all_there) in
        let few : length Z ≡ whole_blocks_of n - n = length-replicate (whole_blocks_of n - n) 0 in
        sym (both (end == l.rows_at + whole_blocks_of n) (has_bytes g (heap_at_of l + length P) end Z) ((Decides-eqb end (l.rows_at + whole_blocks_of n)).1 size)
        (has_both g (heap_at_of l + length P) end Z z (omega (arith, fill_place, data_len, few, whole))))

  pub same_table : IsHeader H → IsHeader d.header → H ++ D ≡ hdu_bytes d → (H ≡ d.header) × (D ≡ d.payload)
  same_table one two same = one_split H d.header D d.payload one two same
