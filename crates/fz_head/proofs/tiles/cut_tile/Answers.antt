use Rattle.std.proofs.Common.{◌≡◌, ℕ, [], ◌+◌, ◌-◌, ◌<◌, ◌∷◌, ◌++◌, length, take, drop, get_or, set, replicate, ap, sym, ◌∙◌, refl, arith, length-set, List}
use Rattle.std.specs.Prelude.{slice_get}
use Rattle.std.proofs.lemmas.List.{append-nil, append_assoc, get_or-take, length-take, drop-set-lt, drop-drop, drop-replicate, drop_all, take-append-drop, take_more_set}
use Rattle.fz_block.specs.declared.axes.Axes.{Axes}
use Rattle.fz_block.specs.Facts.{nine_axes}
use Rattle.fz_grid.specs.Region.{lengths_of}
use Rattle.fz_head.specs.Along.{cut_length}
use Rattle.fz_head.specs.Planned.{asked_tile, cut_tile}
use Rattle.fz_head.proofs.CutTiles.{cut-more}
use Rattle.fz_head.proofs.PlannedTiles.{length-cut_tile}
use Rattle.fz_head.proofs.tiles.cut_tile.Goals as goal

-- the next entry is written
filled_more : (out : List ℕ) (i v : ℕ) (rest all : List ℕ) → i < length out → take i out ++ (v ∷ rest) ≡ all → take (i + 1) (set out i v) ++ rest ≡ all
filled_more out i v rest all inside so_far =
    ap (λ l. l ++ rest) (take_more_set out i v inside) ∙ (append_assoc (take i out) (v ∷ []) rest ∙ so_far)

-- the zeros after what is written
zeros-more : (len : List ℕ) (i g : ℕ) → drop i len ≡ replicate (9 - i) 0 → drop (i + 1) (set len i g) ≡ replicate (9 - (i + 1)) 0
zeros-more len i g behind =
    let past : i < i + 1 = omega arith in
    let count : 9 - i - 1 ≡ 9 - (i + 1) = omega arith in
    drop-set-lt (i + 1) len i g past ∙ (sym (drop-drop 1 i len) ∙ (ap (drop 1) behind ∙ (drop-replicate 1 (9 - i) 0 ∙ ap (λ k. replicate k 0) count)))

pub loop-i-preserved : goal.loop-i-preserved
loop-i-preserved c =
    let axes = c.args.axes.now in
    let lengths = lengths_of axes in
    let asked = asked_tile c.args.asked.now lengths in
    let i = c.loop-i.i in
    let g = c.cut_length.result in
    let below : i < axes.n = omega arith in
    let entry : get_or lengths i 0 ≡ get_or axes.len i 0 = get_or-take axes.n axes.len i 0 below in
    let is : g ≡ cut_length (get_or lengths i 0) (slice_get asked i) = c.cut_length.ensures ∙ (ap (λ k. cut_length k c.asked_length.result) (sym entry) ∙ ap (cut_length (get_or lengths i 0)) c.asked_length.ensures) in
    let step = cut-more lengths asked i (i + 1) g (omega (arith, length-take axes.n axes.len)) refl is in
    record {
      axes = c.loop-i.invariant.axes;
      so_far = filled_more c.loop-i.tile.len i g (cut_tile (drop (i + 1) lengths) (drop (i + 1) asked)) _ (omega arith) (ap (λ l. take i c.loop-i.tile.len ++ l) (sym step) ∙ c.loop-i.invariant.so_far);
      behind = zeros-more c.loop-i.tile.len i g c.loop-i.invariant.behind;
      nine = length-set c.loop-i.tile.len i g ∙ c.loop-i.invariant.nine;
    }

-- a table of nine, by its parts
nine-is : (tile : Axes) (lengths cut : List ℕ) (n : ℕ) → tile.n ≡ n → length cut ≡ n → take n tile.len ≡ cut → drop n tile.len ≡ replicate (9 - n) 0 → tile ≡ nine_axes cut
nine-is tile lengths cut n count long front behind = λ i. record { n = same_n i; len = same_len i }
  where
    same_n : tile.n ≡ length cut
    same_n = count ∙ sym long

    same_len : tile.len ≡ cut ++ replicate (9 - length cut) 0
    same_len = sym (take-append-drop n tile.len) ∙ (ap (λ l. l ++ drop n tile.len) front ∙ (ap (λ l. cut ++ l) behind ∙ ap (λ k. cut ++ replicate (9 - k) 0) (sym long)))

pub returns : goal.returns
returns c =
    let axes = c.args.axes.now in
    let lengths = lengths_of axes in
    let asked = asked_tile c.args.asked.now lengths in
    let at_end : c.loop-i.i ≡ axes.n = omega arith in
    let none : cut_tile (drop c.loop-i.i lengths) (drop c.loop-i.i asked) ≡ [] =
    ap (λ i. cut_tile (drop i lengths) (drop c.loop-i.i asked)) at_end ∙ ap (λ l. cut_tile l (drop c.loop-i.i asked)) (drop_all axes.n lengths (omega (arith, length-take axes.n axes.len))) in
    let front : take axes.n c.loop-i.tile.len ≡ cut_tile lengths asked = ap (λ i. take i c.loop-i.tile.len) (sym at_end) ∙ (sym (append-nil (take c.loop-i.i c.loop-i.tile.len)) ∙ (ap (λ l. take c.loop-i.i c.loop-i.tile.len ++ l) (sym none) ∙ c.loop-i.invariant.so_far)) in
    let behind : drop axes.n c.loop-i.tile.len ≡ replicate (9 - axes.n) 0 = ap (λ i. drop i c.loop-i.tile.len) (sym at_end) ∙ (c.loop-i.invariant.behind ∙ ap (λ i. replicate (9 - i) 0) at_end) in
    nine-is c.loop-i.tile lengths (cut_tile lengths asked) axes.n c.loop-i.invariant.axes (length-cut_tile lengths asked ∙ omega (arith, length-take axes.n axes.len)) front behind
