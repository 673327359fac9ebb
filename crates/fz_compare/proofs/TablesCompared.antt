-- The tiles of a table, compared round by round with what `pack` writes for them.
use Rattle.std.proofs.Common.{◌≡◌, ℕ, ◌+◌, ◌-◌, ◌*◌, ◌<◌, ◌≤◌, ℤ, pos, true, List, [], ◌++◌, length, map, slice_index, slice_index_or, Option, Some, None, IfSome, Result, Ok, refl, sym, ap, ◌∙◌, subst, arith}
use Rattle.std.specs.List.{range_with_len}
use Rattle.std.proofs.Math.Nat.{mul-zero}
use Rattle.std.proofs.lemmas.List.{ext_get_or, map-append}
use Rattle.std.proofs.lemmas.List.FromFn.{get_or-map-range_with_len, length-map-range_with_len, length-range_with_len}
use Rattle.fz_base.specs.declared.fault.Fault.{Fault}
use Rattle.fz_block.specs.Header.{next_start_of}
use Rattle.fz_block.specs.declared.header.Header.{Header}
use Rattle.fz_fetch.specs.Fetched.{AreFetched, HaveTiles, RowsGive}
use Rattle.fz_job.specs.Images.{HaveRoom, IsReadable, IsSaid}
use Rattle.fz_files.specs.Packed.{heap_of, pixel_bits, rows_from, tiles_in}
use Rattle.fz_files.specs.Restored.{RecordMeans, RowStandsFor, pixels_of as tile_pixels_of, place_in, plan_in}
use Rattle.fz_head.specs.PackedTable.{planned_row}
use Rattle.fz_checks.specs.declared.job_checks.PackedImage.{PackedImage}
use Rattle.fz_head.specs.declared.plan.Plan.{Plan}
use Rattle.fz_pool.specs.Window.{HasSlotsFor, Pool}
use Rattle.fz_pool.specs.declared.slot.Slot.{Slot}
use Rattle.fz_table.specs.Records.{record_bytes}
use Rattle.fz_table.specs.declared.record.Record.{Record}
use Rattle.fz_tile.specs.Codecs.{CanRead}
use Rattle.fz_tile.specs.Record.{IsRecord}
use Rattle.fz_tile.specs.TileCode.{TileCode, tile_code}
use Rattle.fz_tile.specs.declared.codec.Codec.{Codec}
use Rattle.fz_tile.specs.declared.coded.Place2.{Place2}
use Rattle.fz_image.specs.Layout.{IsLayout, heap_at_of}
use Rattle.fz_image.specs.Progress.{no_progress, with_rows, with_tiles}
use Rattle.fz_image.specs.Tiles.{codes_from, tile_in, tiles_from}
use Rattle.fz_image.specs.declared.layout.Layout.{Layout}
use Rattle.fz_image.specs.declared.progress.Progress.{Progress}
use Rattle.fz_compare.specs.Compared.{AreReady, ComparesCodes, ComparesNext, ComparesRound, ComparesTable, HasCodes, IsSoFar, RowsStandForTiles, begun, has_bytes}
use Rattle.fz_compare.proofs.BytesThere.{HasFirst, has_back, has_front, more_first, none_first}
use Rattle.fz_compare.proofs.OneHdu.{bits_are}
use Rattle.fz_compare.proofs.Rounds.{number_at, range_more}
use Rattle.fz_compare.proofs.RowsAndHeap.{Joins, heap_append, no_heap, no_more_heap, no_more_rows, no_rows, progress_joined, rows_append, rows_len}

-- a record stands for one list of so many pixels
abbrev pub RecordsMeanOne : Type 0
RecordsMeanOne =
    (codec : Codec) (bitpix total : ℕ) (place : Place2) (read : List ℕ) (xs ys : List ℤ) → CanRead codec (pos bitpix) → length ys ≡ length xs →
    IsRecord codec bitpix place total read xs → IsRecord codec bitpix place total read ys → ys ≡ xs

-- ---- the pixels of a round

same_record : (found other : Record) (r : Result Record Fault) → r ≡ Ok found → r ≡ Ok other → found ≡ other
same_record found other r e f = cc

one_row : RecordsMeanOne → (file : List ℕ) (h : Header) → CanRead (plan_in file h).codec (plan_in file h).bitpix → (t : ℕ) (xs ys : List ℤ) → RowStandsFor file h t xs → RowStandsFor file h t ys → ys ≡ xs
one_row law file h can t xs ys a b =
    let p : Plan = plan_in file h in
    let same : b.found ≡ a.found = same_record b.found a.found _ b.chosen a.chosen in
    law p.codec (pixel_bits p) a.found.total (place_in a.found.column) (record_bytes file a.found) xs ys (bits_are p.codec p.bitpix can)
    (b.count ∙ sym a.count) a.means (subst (λ (f : Record). RecordMeans file p f ys) same b.means)

-- rows that stand for the tiles of an image give these
rows_give : RecordsMeanOne → (file : List ℕ) (h : Header) (l : Layout) (u : List ℕ) (first count : ℕ) (pixels : List (List ℤ)) → CanRead (plan_in file h).codec (plan_in file h).bitpix →
    first + count ≤ l.tiles → length pixels ≡ length (range_with_len first count) → RowsGive file h (range_with_len first count) pixels → RowsStandForTiles file h l u → pixels ≡ tiles_from l u first count
rows_give law file h l u first count pixels can few many give stand =
    let long : length (range_with_len first count) ≡ count = length-range_with_len first count in
    let size : length (tiles_from l u first count) ≡ count = length-map-range_with_len (tile_in l u) first count in
    ext_get_or [] pixels (tiles_from l u first count) (omega (arith, many, long, size)) (λ i low.
    let near : i < count = omega (arith, low, many, long) in
    let here : slice_index (range_with_len first count) i ≡ first + i = number_at first count i near in
    let row : RowStandsFor file h (first + i) (slice_index_or pixels i []) = subst (λ t. RowStandsFor file h t (slice_index_or pixels i [])) here (give i [] (omega (arith, near, long))) in
    let same = one_row law file h can (first + i) (tile_in l u (first + i)) (slice_index_or pixels i []) (stand (first + i) (omega (arith, near, few))) row in
    same ∙ sym (get_or-map-range_with_len (tile_in l u) first count i (first + i) [] near refl))

-- ---- the codes of many tiles

codes_split : (l : Layout) (u : List ℕ) (a m n : ℕ) → codes_from l u a (m + n) ≡ codes_from l u a m ++ codes_from l u (a + m) n
codes_split l u a m n =
    let code : List ℤ → TileCode = tile_code l.plan.codec (pixel_bits l.plan) in
    ap (λ ts. map code (map (tile_in l u) ts)) (range_more a m n)
    ∙ ap (map code) (map-append (tile_in l u) (range_with_len a m) (range_with_len (a + m) n))
    ∙ map-append code (tiles_from l u a m) (tiles_from l u (a + m) n)

codes_more : (l : Layout) (u : List ℕ) (m n : ℕ) → codes_from l u 0 (m + n) ≡ codes_from l u 0 m ++ codes_from l u m n
codes_more l u m n =
    let begin : 0 + m ≡ m = omega arith in
    codes_split l u 0 m n ∙ ap (λ k. codes_from l u 0 m ++ codes_from l u k n) begin

-- ---- what is known after the first tiles

-- what was written is that of the first so many tiles, whose codes are these, and their rows and codes stand in the file
pub record Matches (file : List ℕ) (end : ℕ) (l : Layout) (first : ℕ) (w : Progress) (cs : List TileCode) : Type 0 where
  pub written : w ≡ with_tiles l no_progress cs
  pub rows : HasFirst first file (l.rows_at + l.row_len * 0) end (rows_from l.plan 0 cs)
  pub heap : HasFirst first file (heap_at_of l + 0) end (heap_of cs)

-- whatever plain file stands behind the rows, the table is not that of its image
abbrev pub Differs : List ℕ → Header → Layout → Type 0
Differs file h l = (u : List ℕ) → RowsStandForTiles file h l u → ¬ HasCodes file (next_start_of h) l no_progress (codes_from l u 0 l.tiles)

-- or its first tiles are
abbrev pub IsSameTo : List ℕ → Header → Layout → ℕ → Progress → Type 0
IsSameTo file h l first w = (u : List ℕ) → RowsStandForTiles file h l u → Matches file (next_start_of h) l first w (codes_from l u 0 first)

abbrev pub SoFar : Option (List ℕ) → Header → Option Layout → ℕ → Option Progress → Type 0
SoFar held h None first now = now ≡ None
SoFar held h (Some l) first None = IfSome held (λ file. Differs file h l)
SoFar held h (Some l) first (Some w) = IsSoFar l w × (w.tiles ≡ first) × IfSome held (λ file. IsSameTo file h l first w)

no_tiles : (l : Layout) → no_progress ≡ with_tiles l no_progress []
no_tiles l = no_more_rows l no_progress ∙ no_more_heap l (with_rows l no_progress [])

none_same : (held : Option (List ℕ)) (h : Header) (l : Layout) → IfSome held (λ file. IsSameTo file h l 0 no_progress)
none_same None h l = tt
none_same (Some file) h l = λ u stand. record {
  written = no_tiles l;
  rows = none_first file (l.rows_at + l.row_len * 0) (next_start_of h) (rows_from l.plan 0 []) (no_rows l.plan 0);
  heap = none_first file (heap_at_of l + 0) (next_start_of h) (heap_of []) no_heap;
}

pub none_compared : (held : Option (List ℕ)) (h : Header) (layout : Option Layout) → SoFar held h layout 0 (begun layout)
none_compared held h None = refl
none_compared held h (Some l) = (record { codes = []; each = tt; some = omega arith; progress = no_tiles l }, refl, none_same held h l)

-- ---- with a round more

module _ (file : List ℕ) (end : ℕ) (l : Layout) (rows_as : l.row_len ≡ planned_row l.plan) (cs es : List TileCode) where
  abbrev w : Progress
  w = with_tiles l no_progress cs

  all_rows : rows_from l.plan 0 (cs ++ es) ≡ rows_from l.plan 0 cs ++ rows_from l.plan w.heap es
  all_rows = rows_append l.plan 0 cs es

  all_heap : heap_of (cs ++ es) ≡ heap_of cs ++ heap_of es
  all_heap = heap_append cs es

  rows_place : l.rows_at + l.row_len * w.tiles ≡ l.rows_at + l.row_len * 0 + length (rows_from l.plan 0 cs)
  rows_place =
      let none : w.tiles ≡ length cs = (let n : 0 + length cs ≡ length cs = omega arith in n) in
      omega (arith, mul-zero l.row_len, rows_len l.plan 0 cs, ap (λ n. n * length cs) rows_as, ap (λ n. l.row_len * n) none)

  heap_place : heap_at_of l + w.heap ≡ heap_at_of l + 0 + length (heap_of cs)
  heap_place = omega arith

  matches_more : Joins → (first more : ℕ) (q : Progress) → Matches file end l first w cs → HasCodes file end l w es → q ≡ with_tiles l w es → Matches file end l (first + more) q (cs ++ es)
  matches_more joins first more q was has is = record {
    written = is ∙ progress_joined l cs es joins rows_as;
    rows = more_first first (first + more) file (l.rows_at + l.row_len * 0) end (l.rows_at + l.row_len * w.tiles) (rows_from l.plan 0 cs) (rows_from l.plan w.heap es) (rows_from l.plan 0 (cs ++ es)) all_rows rows_place was.rows has.rows;
    heap = more_first first (first + more) file (heap_at_of l + 0) end (heap_at_of l + w.heap) (heap_of cs) (heap_of es) (heap_of (cs ++ es)) all_heap heap_place was.heap has.heap;
  }

  -- if all are there, these are
  has_middle : (rest : List TileCode) → HasCodes file end l no_progress (cs ++ (es ++ rest)) → HasCodes file end l w es
  has_middle rest has =
      let rows : rows_from l.plan 0 (cs ++ (es ++ rest)) ≡ rows_from l.plan 0 cs ++ (rows_from l.plan w.heap es ++ rows_from l.plan (w.heap + length (heap_of es)) rest) =
      rows_append l.plan 0 cs (es ++ rest) ∙ ap (λ k. rows_from l.plan 0 cs ++ k) (rows_append l.plan w.heap es rest) in
      let heap : heap_of (cs ++ (es ++ rest)) ≡ heap_of cs ++ (heap_of es ++ heap_of rest) = heap_append cs (es ++ rest) ∙ ap (λ k. heap_of cs ++ k) (heap_append es rest) in
      let r0 : ℕ = l.rows_at + l.row_len * 0 in
      let h0 : ℕ = heap_at_of l + 0 in
      let all_r = subst (λ k. has_bytes file r0 end k ≡ true) rows has.rows in
      let all_h = subst (λ k. has_bytes file h0 end k ≡ true) heap has.heap in
      let back_r = has_back file r0 end (rows_from l.plan 0 cs) (rows_from l.plan w.heap es ++ rows_from l.plan (w.heap + length (heap_of es)) rest) all_r in
      let back_h = has_back file h0 end (heap_of cs) (heap_of es ++ heap_of rest) all_h in
      record {
        rows = subst (λ n. has_bytes file n end (rows_from l.plan w.heap es) ≡ true) (sym rows_place)
            (has_front file (r0 + length (rows_from l.plan 0 cs)) end (rows_from l.plan w.heap es) (rows_from l.plan (w.heap + length (heap_of es)) rest) back_r);
        heap = subst (λ n. has_bytes file n end (heap_of es) ≡ true) (sym heap_place)
            (has_front file (h0 + length (heap_of cs)) end (heap_of es) (heap_of rest) back_h);
      }

module _ (law : RecordsMeanOne) (h : Header) (l : Layout) (is : IsLayout l) (joins : Joins) (first count : ℕ) (few : first + count ≤ l.tiles) (w : Progress) (at : w.tiles ≡ first) where
  -- the round was that of a plain file
  module _ (file : List ℕ) (slots : List Slot) (pixels : List (List ℤ)) (can : CanRead (plan_in file h).codec (plan_in file h).bitpix) (have : HaveTiles l.plan (range_with_len first count) slots pixels) (give : RowsGive file h (range_with_len first count) pixels) where
    round_of : (now : Option Progress) → ComparesRound (Some file) (next_start_of h) l w count slots now → (u : List ℕ) → RowsStandForTiles file h l u → ComparesCodes file (next_start_of h) l w (codes_from l u first count) now
    round_of now round u stand =
        let told : pixels ≡ tiles_from l u first count = rows_give law file h l u first count pixels can few have.count give stand in
        let here : ComparesCodes file (next_start_of h) l w (codes_from l u w.tiles count) now =
        round.compared u pixels (subst (λ t. HaveTiles l.plan (range_with_len t count) slots pixels) (sym at) have) (subst (λ t. pixels ≡ tiles_from l u t count) (sym at) told) in
        subst (λ t. ComparesCodes file (next_start_of h) l w (codes_from l u t count) now) at here

    differs_now : IsSameTo file h l first w → ComparesRound (Some file) (next_start_of h) l w count slots None → Differs file h l
    differs_now was round = λ u stand has.
        let cs : List TileCode = codes_from l u 0 first in
        let es : List TileCode = codes_from l u first count in
        let rest : ℕ = l.tiles - (first + count) in
        let whole : l.tiles ≡ first + (count + rest) = omega (arith, few) in
        let all : codes_from l u 0 l.tiles ≡ cs ++ (es ++ codes_from l u (first + count) rest) =
        ap (codes_from l u 0) whole ∙ codes_more l u first (count + rest) ∙ ap (λ k. cs ++ k) (codes_split l u first count rest) in
        let middle = has_middle file (next_start_of h) l is.row_len cs es (codes_from l u (first + count) rest) (subst (HasCodes file (next_start_of h) l no_progress) all has) in
        round_of None round u stand (subst (λ (q : Progress). HasCodes file (next_start_of h) l q es) (sym (was u stand).written) middle)

    same_now : (q : Progress) → IsSameTo file h l first w → ComparesRound (Some file) (next_start_of h) l w count slots (Some q) → IsSameTo file h l (first + count) q
    same_now q was round = λ u stand.
        let end : ℕ = next_start_of h in
        let cs : List TileCode = codes_from l u 0 first in
        let es : List TileCode = codes_from l u first count in
        let before : Matches file end l first w cs = was u stand in
        let here = round_of (Some q) round u stand in
        let so_far : Matches file end l first (with_tiles l no_progress cs) cs = record { written = refl; rows = before.rows; heap = before.heap } in
        let has : HasCodes file end l (with_tiles l no_progress cs) es = subst (λ (p : Progress). HasCodes file end l p es) before.written here.0 in
        let now : q ≡ with_tiles l (with_tiles l no_progress cs) es = here.1 ∙ ap (λ (p : Progress). with_tiles l p es) before.written in
        subst (Matches file end l (first + count) q) (sym (codes_more l u first count)) (matches_more file end l is.row_len cs es joins first count q so_far has now)

-- ---- whatever was known before

module _ (law : RecordsMeanOne) (joins : Joins) (h : Header) (image : PackedImage) (readable : IsReadable image) (first count : ℕ) (few : first + count ≤ tiles_in image.plan) (slots : List Slot) where
  can_read : (file : List ℕ) → IsSaid file h image → CanRead (plan_in file h).codec (plan_in file h).bitpix
  can_read file said = subst (λ (p : Plan). CanRead p.codec p.bitpix) (sym said.plan) readable.codec

  few_of : (l : Layout) → IsLayout l → l.plan ≡ image.plan → first + count ≤ l.tiles
  few_of l is plan = omega (arith, few, is.tiles, ap tiles_in plan)

  have_of : (l : Layout) (pixels : List (List ℤ)) → l.plan ≡ image.plan → HaveTiles image.plan (range_with_len first count) slots pixels → HaveTiles l.plan (range_with_len first count) slots pixels
  have_of l pixels plan have = subst (λ (p : Plan). HaveTiles p (range_with_len first count) slots pixels) (sym plan) have

  differs_if : (held : Option (List ℕ)) (l : Layout) (w : Progress) → IsLayout l → l.plan ≡ image.plan → w.tiles ≡ first → IfSome held (λ file. IsSaid file h image) → AreFetched held h image.plan (range_with_len first count) slots →
      IfSome held (λ file. IsSameTo file h l first w) → ComparesRound held (next_start_of h) l w count slots None → IfSome held (λ file. Differs file h l)
  differs_if None l w is plan at said fetched was round = tt
  differs_if (Some file) l w is plan at said fetched was round =
      differs_now law h l is joins first count (few_of l is plan) w at file slots fetched.pixels (can_read file said) (have_of l fetched.pixels plan fetched.have) fetched.told was round

  same_if : (held : Option (List ℕ)) (l : Layout) (w q : Progress) → IsLayout l → l.plan ≡ image.plan → w.tiles ≡ first → IfSome held (λ file. IsSaid file h image) → AreFetched held h image.plan (range_with_len first count) slots →
      IfSome held (λ file. IsSameTo file h l first w) → ComparesRound held (next_start_of h) l w count slots (Some q) → IfSome held (λ file. IsSameTo file h l (first + count) q)
  same_if None l w q is plan at said fetched was round = tt
  same_if (Some file) l w q is plan at said fetched was round =
      same_now law h l is joins first count (few_of l is plan) w at file slots fetched.pixels (can_read file said) (have_of l fetched.pixels plan fetched.have) fetched.told q was round

  pub next_compared : (held : Option (List ℕ)) (layout : Option Layout) (p c : Option Progress) → IfSome layout (λ l. IsLayout l × (l.plan ≡ image.plan)) → IfSome held (λ file. IsSaid file h image) → AreFetched held h image.plan (range_with_len first count) slots →
      SoFar held h layout first p → ComparesNext held (next_start_of h) layout p count slots c → SoFar held h layout (first + count) c
  next_compared held None p c is said fetched was now = now
  next_compared held (Some l) None c is said fetched was now = subst (SoFar held h (Some l) (first + count)) (sym now) was
  next_compared held (Some l) (Some w) None is said fetched was now = differs_if held l w is.0 is.1 was.1 said fetched was.2 now
  next_compared held (Some l) (Some w) (Some q) is said fetched was now = (now.progress.0, now.progress.1 ∙ ap (λ n. n + count) was.1, same_if held l w q is.0 is.1 was.1 said fetched was.2 now)

  pub ready_now : (held : Option (List ℕ)) (layout : Option Layout) (p : Option Progress) (window : Pool) → slots ≡ window.slots → IfSome layout (λ l. IsLayout l × (l.plan ≡ image.plan)) → HaveRoom image window →
      AreFetched held h image.plan (range_with_len first count) slots → SoFar held h layout first p → IfSome layout (λ l. IfSome p (λ w. AreReady l w count window))
  ready_now held None p window same is room fetched was = tt
  ready_now held (Some l) None window same is room fetched was = tt
  ready_now held (Some l) (Some w) window same is room fetched was = record {
    layout = is.0;
    so_far = was.0;
    tiles = omega (arith, was.1, few_of l is.0 is.1);
    room = subst (λ (p : Plan). HasSlotsFor (tile_pixels_of p 0) window) (sym is.1) room;
    pixels = fetched.pixels;
    have = subst (λ (x : List Slot). HaveTiles l.plan (range_with_len w.tiles count) x fetched.pixels) same
        (subst (λ t. HaveTiles l.plan (range_with_len t count) slots fetched.pixels) (sym was.1) (have_of l fetched.pixels is.1 fetched.have));
  }

-- ---- after all tiles

all_same : (held : Option (List ℕ)) (h : Header) (l : Layout) (first : ℕ) (w : Progress) → first ≡ l.tiles → 0 < first → IfSome held (λ file. IsSameTo file h l first w) → IfSome held (λ file. ComparesTable file h l (Some w))
all_same None h l first w all some is = tt
all_same (Some file) h l first w all some is = λ u stand.
    let end : ℕ = next_start_of h in
    let now : Matches file end l first w (codes_from l u 0 first) = is u stand in
    subst (λ n. ComparesCodes file end l no_progress (codes_from l u 0 n) (Some w)) all (record { rows = now.rows.has some; heap = now.heap.has some }, now.written)

pub all_compared : (held : Option (List ℕ)) (h : Header) (layout : Option Layout) (first : ℕ) (c : Option Progress) → IfSome layout (λ l. first ≡ l.tiles) → 0 < first → SoFar held h layout first c →
    IfSome layout (λ l. IfSome held (λ file. ComparesTable file h l c))
all_compared held h None first c all some is = tt
all_compared held h (Some l) first None all some is = is
all_compared held h (Some l) first (Some w) all some is = all_same held h l first w all some is.2

pub all_written : (held : Option (List ℕ)) (h : Header) (layout : Option Layout) (first : ℕ) (c : Option Progress) → IfSome layout (λ l. first ≡ l.tiles) → SoFar held h layout first c →
    IfSome c (λ w. IfSome layout (λ l. IsSoFar l w × (w.tiles ≡ l.tiles)))
all_written held h layout first None all is = tt
all_written held h None first (Some w) all is = tt
all_written held h (Some l) first (Some w) all is = (is.0, is.1 ∙ all)

pub none_written : (held : Option (List ℕ)) (h : Header) (layout : Option Layout) (first : ℕ) (c : Option Progress) → SoFar held h layout first c → layout ≡ None → c ≡ None
none_written held h layout first c is none = subst (λ (o : Option Layout). SoFar held h o first c) none is

-- as many as the image has
pub all_of_image : (layout : Option Layout) (image : PackedImage) (first : ℕ) → IfSome layout (λ l. IsLayout l × (l.plan ≡ image.plan)) → first ≡ tiles_in image.plan → IfSome layout (λ l. first ≡ l.tiles)
all_of_image None image first is all = tt
all_of_image (Some l) image first is all = all ∙ sym (is.0.tiles ∙ ap tiles_in is.1)
