-- The rows are those of neighbouring tiles, and are at the front.
use Rattle.std.proofs.Common.{◌≡◌, ℕ, ◌+◌, ◌*◌, ◌<◌, ◌≤◌, List, ◌++◌, Option, length, drop, slice_index, sym, ap, ◌∙◌, subst, arith}
use Rattle.std.specs.List.{range_with_len}
use Rattle.std.proofs.lemmas.List.{length-replicate, length-take}
use Rattle.std.proofs.lemmas.List.FromFn.{get_or-range_with_len, length-range_with_len}
use Rattle.fz_fetch.specs.Ahead.{IsAhead}
use Rattle.fz_fetch.specs.Rows.{AreFrom}
use Rattle.fz_fetch.proofs.ReadAhead.{rows_found, rows_in_all, rows_lost}
use Rattle.fz_fetch.proofs.ahead.read_rows_on.Goals as goal

-- as many numbers as there are places for them
numbered : (first count : ℕ) (places tiles : List ℕ) → tiles ≡ range_with_len first (length places) → length places ≡ count → tiles ≡ range_with_len first count
numbered first count places tiles are long = are ∙ ap (range_with_len first) long

-- they are neighbours
from_first : (first count : ℕ) (tiles : List ℕ) → tiles ≡ range_with_len first count → 0 < count → AreFrom (slice_index tiles 0) tiles
from_first first count tiles are some =
    subst (λ (ts : List ℕ). AreFrom (slice_index ts 0) ts) (sym are)
    (λ i low.
    let near : i < count = omega (arith, low, length-range_with_len first count) in
    let here : slice_index (range_with_len first count) i ≡ first + i = get_or-range_with_len first count i 0 near in
    let front : slice_index (range_with_len first count) 0 ≡ first + 0 = get_or-range_with_len first count 0 0 some in
    omega (arith, here, front))

pub read_rows-requires-clause-some : goal.read_rows-requires-clause-some
read_rows-requires-clause-some g c =
    let count : ℕ = c.min-count.result in
    let are : c.number_tiles.new.tiles ≡ range_with_len c.args.first count =
    numbered c.args.first count _ c.number_tiles.new.tiles c.number_tiles.ensures
    (omega (arith, c.min-count.ensures, length-take {A = ℕ}, length-replicate {A = ℕ})) in
    let long : length c.number_tiles.new.tiles ≡ count = ap length are ∙ length-range_with_len c.args.first count in
    omega (arith, long, c.min-count.ensures, c.requires.first)

pub read_rows-requires-clause-from : goal.read_rows-requires-clause-from
read_rows-requires-clause-from g c =
    let count : ℕ = c.min-count.result in
    let are : c.number_tiles.new.tiles ≡ range_with_len c.args.first count =
    numbered c.args.first count _ c.number_tiles.new.tiles c.number_tiles.ensures
    (omega (arith, c.min-count.ensures, length-take {A = ℕ}, length-replicate {A = ℕ})) in
    from_first c.args.first count c.number_tiles.new.tiles are (omega (arith, c.min-count.ensures, c.requires.first))

pub read_rows-requires-clause-tiles : goal.read_rows-requires-clause-tiles
read_rows-requires-clause-tiles g c =
    let count : ℕ = c.min-count.result in
    let are : c.number_tiles.new.tiles ≡ range_with_len c.args.first count =
    numbered c.args.first count _ c.number_tiles.new.tiles c.number_tiles.ensures
    (omega (arith, c.min-count.ensures, length-take {A = ℕ}, length-replicate {A = ℕ})) in
    let long : length c.number_tiles.new.tiles ≡ count = ap length are ∙ length-range_with_len c.args.first count in
    let some : 0 < count = omega (arith, c.min-count.ensures, c.requires.first) in
    let front : slice_index c.number_tiles.new.tiles 0 ≡ c.args.first + 0 = ap (λ (ts : List ℕ). slice_index ts 0) are
    ∙ get_or-range_with_len c.args.first count 0 0 some in
    omega (arith, long, front, c.min-count.ensures, c.requires.first)

-- ---- what is there

pub returns-clause-ahead : goal.returns-clause-ahead
returns-clause-ahead g c =
    let held : Option (List ℕ) = g.S.Source.held c.args.source.now in
    let t = c.args.table.now in
    let count : ℕ = c.min-count.result in
    let are : c.number_tiles.new.tiles ≡ range_with_len c.args.first count =
    numbered c.args.first count _ c.number_tiles.new.tiles c.number_tiles.ensures
    (omega (arith, c.min-count.ensures, length-take {A = ℕ}, length-replicate {A = ℕ})) in
    let long : length c.number_tiles.new.tiles ≡ count = ap length are ∙ length-range_with_len c.args.first count in
    let n : ℕ = c.rows_len.result in
    let size : n ≡ t.row_bytes * count = c.rows_len.ensures.len ∙ ap (λ k. t.row_bytes * k) long in
    let few : count ≤ 128 = omega (arith, c.min-count.ensures) in
    let near : n ≤ 4096 = omega (arith, c.rows_len.ensures.most, long, few) in
    let whole : length c.read_rows.new.rows ≡ n = omega (arith, c.read_rows.ensures.stays.1, near, c.requires.ahead.room, length-take {A = ℕ}) in
    let a = c.args.ahead.now in
    let now : List ℕ = c.read_rows.new.rows ++ drop n c.args.buf.now in
    subst (λ (h : Option (List ℕ)). IsAhead h t now (record a { first = c.args.first; count = count })) (sym c.in_ok-read_rows.ensures.stays.0.held_is)
    (rows_found held t c.args.buf.now c.read_rows.new.rows n c.args.ahead.now c.number_tiles.new.tiles c.args.first count c.requires.ahead size few near whole
    are c.in_ok-read_rows.ensures.rows)

pub returns-in_err-read_rows-clause-ahead : goal.returns-in_err-read_rows-clause-ahead
returns-in_err-read_rows-clause-ahead g c =
    let held : Option (List ℕ) = g.S.Source.held c.args.source.now in
    let t = c.args.table.now in
    let count : ℕ = c.min-count.result in
    let are : c.number_tiles.new.tiles ≡ range_with_len c.args.first count =
    numbered c.args.first count _ c.number_tiles.new.tiles c.number_tiles.ensures
    (omega (arith, c.min-count.ensures, length-take {A = ℕ}, length-replicate {A = ℕ})) in
    let long : length c.number_tiles.new.tiles ≡ count = ap length are ∙ length-range_with_len c.args.first count in
    let n : ℕ = c.rows_len.result in
    let few : count ≤ 128 = omega (arith, c.min-count.ensures) in
    let near : n ≤ 4096 = omega (arith, c.rows_len.ensures.most, long, few) in
    let whole : length c.read_rows.new.rows ≡ n = omega (arith, c.read_rows.ensures.stays.1, near, c.requires.ahead.room, length-take {A = ℕ}) in
    let a = c.args.ahead.now in
    let now : List ℕ = c.read_rows.new.rows ++ drop n c.args.buf.now in
    subst (λ (h : Option (List ℕ)). IsAhead h t now (record a { count = 0 })) (sym c.in_err-read_rows.ensures.stays.0.held_is)
    (rows_lost held t c.args.buf.now c.read_rows.new.rows n c.args.ahead.now c.requires.ahead near whole)

-- ---- what is read

pub returns-clause-read : goal.returns-clause-read
returns-clause-read g c =
    let count : ℕ = c.min-count.result in
    let are : c.number_tiles.new.tiles ≡ range_with_len c.args.first count =
    numbered c.args.first count _ c.number_tiles.new.tiles c.number_tiles.ensures
    (omega (arith, c.min-count.ensures, length-take {A = ℕ}, length-replicate {A = ℕ})) in
    rows_in_all c.args.table.now c.number_tiles.new.tiles c.args.first count (g.S.Source.ranges c.args.source.now)
    (g.S.Source.ranges c.read_rows.new.source) are
    (omega (arith, c.min-count.ensures, c.requires.first)) c.in_ok-read_rows.ensures.read

pub returns-in_err-read_rows-clause-read : goal.returns-in_err-read_rows-clause-read
returns-in_err-read_rows-clause-read g c =
    let count : ℕ = c.min-count.result in
    let are : c.number_tiles.new.tiles ≡ range_with_len c.args.first count =
    numbered c.args.first count _ c.number_tiles.new.tiles c.number_tiles.ensures
    (omega (arith, c.min-count.ensures, length-take {A = ℕ}, length-replicate {A = ℕ})) in
    rows_in_all c.args.table.now c.number_tiles.new.tiles c.args.first count (g.S.Source.ranges c.args.source.now)
    (g.S.Source.ranges c.read_rows.new.source) are
    (omega (arith, c.min-count.ensures, c.requires.first)) c.in_err-read_rows.ensures.read
