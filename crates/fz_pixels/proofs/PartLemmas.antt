-- A part of a tile: the mark that it is read on from, the numbers that were written, and what the row of the tile says of them.
use Rattle.std.proofs.Common.{◌≡◌, ℕ, ◌+◌, ◌-◌, ◌*◌, ◌%◌, ◌<◌, ◌≤◌, ◌==◌, Bool, true, false, if◌then◌else◌, ℤ, pos, List, [], ◌∷◌, ◌++◌, length, take, drop, replicate, Option, Some, None, IfSome, IfNone, Result, Ok, MatchOption, All, unsigned_abs, inl, inr, refl, sym, ap, ◌∙◌, subst, arith, length-append, length-drop, length-take-le, drop-drop}
use Rattle.std.specs.List.{flat_map}
use Rattle.std.proofs.Math.Nat.{mod-add-mod}
use Rattle.std.proofs.Math.Seq.{drop-append-add, drop-append_seam, take-append_seam}
use Rattle.std.proofs.lemmas.List.{length-replicate}
use Rattle.std.proofs.lemmas.List.Elements.{All-drop, All-take}
use Rattle.fz_bits.specs.Numbers.{IsNumber}
use Rattle.fz_base.specs.Ranges.{LogsAllLaw, LogsIn}
use Rattle.fz_base.specs.declared.fault.Fault.{Fault}
use Rattle.fz_block.specs.declared.header.Header.{Header}
use Rattle.fz_table.specs.Records.{record_at, record_bytes}
use Rattle.fz_table.specs.declared.record.Record.{Record}
use Rattle.fz_table.specs.declared.record.TileColumn.{TileColumn}
use Rattle.fz_table.specs.declared.record.TileColumn.TheVariants.{Coded, Stored}
use Rattle.fz_rice.specs.Marks.{with_before}
use Rattle.fz_rice.specs.declared.marks.Mark.{Mark}
use Rattle.fz_tile.specs.Codecs.{CanRead, IsBlock, ReadsCodes}
use Rattle.fz_tile.specs.Parts.{AreWholeBlocks, IsMarkAfter, IsPart, IsRest, ReadsPart}
use Rattle.fz_tile.specs.Pixels.{HoldPixels, IsBitpix, halves, place_count}
use Rattle.fz_tile.specs.Record.{IsRecord, read_len}
use Rattle.fz_tile.specs.declared.codec.Codec.{Codec}
use Rattle.fz_tile.specs.declared.codec.Codec.TheVariants.{Rice, Plio, Plain}
use Rattle.fz_tile.specs.declared.coded.Place2.TheVariants as place
use Rattle.fz_checks.specs.declared.job_checks.PackedImage.{PackedImage}
use Rattle.fz_head.specs.declared.plan.Plan.{Plan}
use Rattle.fz_files.specs.Packed.{pixel_bits}
use Rattle.fz_files.specs.Restored.{RecordMeans, RowStandsFor, image_table, pixels_of, place_in, plan_in, tile_of}
use Rattle.fz_job.specs.Images.{fetched_ranges, IsSaid}
use Rattle.fz_fetch.specs.Loaded.{IsRecordIn}
use Rattle.fz_pixels.specs.Marks.{AreOthersKept, HasBlocks, HoldsBetween, IsMarkIn, IsPartFetched, IsReadInParts, IsReadOnFrom, part_start}
use Rattle.fz_pixels.specs.Parts.{AreBefore, AreBetween, IsMarkOf, IsMarked, IsRestOf, IsRestRead, IsStoredIn, ReadsBetween, blocksize_of, bytes_before}
use Rattle.fz_pixels.specs.declared.marks.TileMark.{TileMark}
use Rattle.fz_pixels.proofs.FetchedTiles.{chosen_in}

-- ---- marks that are moved by whole bytes

abbrev bit_at : Mark → ℕ → Mark
bit_at mark bit = record { bit = bit; last = mark.last }

none_before : (skipped : ℕ) (mark : Mark) → skipped ≡ 0 → with_before skipped mark ≡ mark
none_before skipped mark none = ap (bit_at mark) (let e : 8 * skipped + mark.bit ≡ mark.bit = omega (arith, none) in e)

-- a mark that was given, counted from the bytes on that are read
pub mark_given : (skipped : ℕ) (mark : Mark) → 8 * skipped ≤ mark.bit → with_before skipped (record { bit = mark.bit - 8 * skipped; last = mark.last }) ≡ mark
mark_given skipped mark below = ap (bit_at mark) (let e : 8 * skipped + (mark.bit - 8 * skipped) ≡ mark.bit = omega (arith, below) in e)

-- the mark among the bytes that are read is one in the record
mark_after : (codec : Codec) (bits : ℕ) (code : List ℕ) (from : Option TileMark) (skipped total : ℕ) (read : List ℕ) (xs : List ℤ) (mark : Mark) → AreBefore from skipped
    → IsRestOf codec bits code from skipped total read xs → IsMarkOf codec bits code skipped from (Some mark) → IsMarkAfter codec read (part_start from) (with_before skipped mark)
mark_after codec bits code None skipped total read xs mark none r first =
    let whole : code ≡ read = r.code_is ∙ ap (λ k. drop k read) none in
    subst (λ (m : Mark). IsMarkAfter codec read 0 m) (sym (none_before skipped mark none)) (subst (λ (l : List ℕ). IsMarkAfter codec l 0 mark) whole first)
mark_after codec bits code (Some m) skipped total read xs mark before r same =
    subst (λ (k : Mark). IsMarkAfter codec read m.pixel k) (sym same) r.marked

-- so the bytes are the rest of the record, as the decoder has it
rest_is : (codec : Codec) (bits : ℕ) (code : List ℕ) (from : Option TileMark) (skipped total : ℕ) (read : List ℕ) (xs : List ℤ) (mark : Mark) → AreBefore from skipped
    → IsRestOf codec bits code from skipped total read xs → IsMarkOf codec bits code skipped from (Some mark) → IsRest codec bits code mark skipped total (part_start from) read xs
rest_is codec bits code from skipped total read xs mark before r is = record {
  within = r.within;
  stands = r.stands;
  code_is = r.code_is;
  mark_is = mark_after codec bits code from skipped total read xs mark before r is;
}

-- a record that stands for pixels has a mark
has_mark : (codec : Codec) (bits : ℕ) (code : List ℕ) (from : Option TileMark) (skipped total : ℕ) (read : List ℕ) (xs : List ℤ) → AreBefore from skipped
    → IsRestOf codec bits code from skipped total read xs → IsMarkOf codec bits code skipped from None → ⊥
has_mark codec bits code None skipped total read xs none r never =
    let whole : read ≡ code = sym (r.code_is ∙ ap (λ k. drop k read) none) in
    never r.marked.0 r.marked.1 total xs r.marked.2 (subst (λ (l : List ℕ). IsRecord codec bits place.Coded total l xs) whole r.stands)
has_mark codec bits code (Some m) skipped total read xs before r never = never

-- what is between two ends of blocks are whole blocks
whole_part : (codec : Codec) (read : List ℕ) (i n j : ℕ) (mark : Mark) → i + n ≡ j → IsMarkAfter codec read i mark → AreWholeBlocks codec j → AreWholeBlocks codec n
whole_part (Rice block bytepix) read i n j mark sum m whole =
    ap (λ k. k % block) (let e : n ≡ 0 + n = omega arith in e) ∙ sym (ap (λ k. (k + n) % block) m.2) ∙ mod-add-mod i block n ∙ ap (λ k. k % block) sum ∙ whole
whole_part Plio read i n j mark sum m whole = elim m [ ]
whole_part Plain read i n j mark sum m whole = elim m [ ]

-- ---- a slice that was written

slice_back : (i n : ℕ) (old part rest : List ℤ) → i ≤ length old → length part ≡ n → take n (drop i (take i old ++ (part ++ rest))) ≡ part
slice_back i n old part rest fits long =
    let start : length (take i old) ≡ i = length-take-le i old fits in
    let back : drop i (take i old ++ (part ++ rest)) ≡ part ++ rest = ap (λ k. drop k (take i old ++ (part ++ rest))) (sym start) ∙ drop-append_seam (take i old) (part ++ rest) in
    ap (take n) back ∙ ap (λ k. take k (part ++ rest)) (sym long) ∙ take-append_seam part rest

pub others_kept : (i first j : ℕ) (old part : List ℤ) → first ≡ i → i ≤ j → j ≤ length old → length part ≡ j - first
    → AreOthersKept i j old (take first old ++ (part ++ drop (j - first) (drop first old)))
others_kept i first j old part at less fits long =
    let start : length (take first old) ≡ first = length-take-le first old (omega (arith, at, less, fits)) in
    let rest : List ℤ = drop (j - first) (drop first old) in
    let all : List ℤ = take first old ++ (part ++ rest) in
    let front : take first all ≡ take first old = ap (λ k. take k all) (sym start) ∙ take-append_seam (take first old) (part ++ rest) in
    let sum : first + (j - first) ≡ j = omega (arith, at, less) in
    let back : drop (first + (j - first)) all ≡ drop (j - first) (part ++ rest) = ap (λ k. drop (k + (j - first)) all) (sym start) ∙ drop-append-add (take first old) (part ++ rest) (j - first) in
    let after : drop (j - first) (part ++ rest) ≡ rest = ap (λ k. drop k (part ++ rest)) (sym long) ∙ drop-append_seam part rest in
    let end : rest ≡ drop j old = drop-drop (j - first) first old ∙ ap (λ k. drop k old) sum in (
      subst (λ k. take k all ≡ take k old) at front,
      ap (λ k. drop k all) (sym sum) ∙ back ∙ after ∙ end,
    )

pub part_range : (P : ℤ → Type 0) (i first j : ℕ) (old part : List ℤ) → first ≡ i → i ≤ j → j ≤ length old → length part ≡ j - first → All P part
    → All P (take (j - i) (drop i (take first old ++ (part ++ drop (j - first) (drop first old)))))
part_range P i first j old part at less fits long all =
    let rest : List ℤ = drop (j - first) (drop first old) in
    let here : take (j - first) (drop first (take first old ++ (part ++ rest))) ≡ part = slice_back first (j - first) old part rest (omega (arith, at, less, fits)) long in
    subst (λ k. All P (take (j - k) (drop k (take first old ++ (part ++ rest))))) at (subst (λ (l : List ℤ). All P l) (sym here) all)

-- ---- decoding from a mark on

module _ (codec : Codec) (bits : ℕ) (code : List ℕ) (from : Option TileMark) (skipped j : ℕ) (before : AreBefore from skipped) where
  -- no mark was found
  pub unmarked : (numbers : List ℤ) (r : Option TileMark) → r ≡ None → IsMarkOf codec bits code skipped from None → ReadsBetween codec bits code from skipped j numbers r
  unmarked numbers r none never =
      subst (λ (o : Option TileMark). ReadsBetween codec bits code from skipped j numbers o) (sym none)
      (λ total read xs rest few. has_mark codec bits code from skipped total read xs before rest never)

  -- there are no such pixels
  pub unread : (n : ℕ) (part numbers : List ℤ) (mark : Mark) (r : Option TileMark) → r ≡ None → IsMarkOf codec bits code skipped from (Some mark) → part_start from ≤ j → n ≡ j - part_start from
      → ReadsPart codec bits code mark n part None → ReadsBetween codec bits code from skipped j numbers r
  unread n part numbers mark r none is less count reads =
      subst (λ (o : Option TileMark). ReadsBetween codec bits code from skipped j numbers o) (sym none)
      (λ total read xs rest few. reads skipped total (part_start from) read xs (rest_is codec bits code from skipped total read xs mark before rest is) (omega (arith, few, less, count)))

  part_between : (n first : ℕ) (old part : List ℤ) (mark next : Mark) (total : ℕ) (read : List ℕ) (xs : List ℤ) → first ≡ part_start from → part_start from ≤ j → j ≤ length old → n ≡ j - first → length part ≡ n
      → IsRest codec bits code mark skipped total (part_start from) read xs → IsPart codec skipped (part_start from) read xs part next
      → AreBetween codec read (part_start from) j xs (take first old ++ (part ++ drop (j - first) (drop first old))) (record { pixel = j; mark = with_before skipped next })
  part_between n first old part mark next total read xs at less fits count long rest is =
      let i : ℕ = part_start from in
      let size : length part ≡ j - first = long ∙ count in
      let tail : List ℤ = drop (j - first) (drop first old) in
      let here : take (j - first) (drop first (take first old ++ (part ++ tail))) ≡ part = slice_back first (j - first) old part tail (omega (arith, at, less, fits)) size in
      let here_i : take (j - i) (drop i (take first old ++ (part ++ tail))) ≡ part = subst (λ k. take (j - k) (drop k (take first old ++ (part ++ tail))) ≡ part) at here in
      let size_i : length part ≡ j - i = size ∙ ap (λ k. j - k) at in
      let sum : i + length part ≡ j = omega (arith, size_i, less) in
      record {
        pixels = here_i ∙ is.pixels ∙ ap (λ k. take k (drop i xs)) size_i;
        next_is = λ whole. subst (λ k. IsMarkAfter codec read k (with_before skipped next)) sum (is.next_is (whole_part codec read i (length part) j (with_before skipped mark) sum rest.mark_is whole));
      }

  -- the pixels are there
  pub reads_between : (n first : ℕ) (old part : List ℤ) (mark next : Mark) → first ≡ part_start from → IsMarkOf codec bits code skipped from (Some mark) → part_start from ≤ j → j ≤ length old → n ≡ j - first
      → length part ≡ n → ReadsPart codec bits code mark n part (Some next)
      → ReadsBetween codec bits code from skipped j (take first old ++ (part ++ drop (j - first) (drop first old))) (Some (record { pixel = j; mark = with_before skipped next }))
  reads_between n first old part mark next at is less fits count long reads = λ total read xs r few.
      let rest = rest_is codec bits code from skipped total read xs mark before r is in
      part_between n first old part mark next total read xs at less fits count long rest (reads skipped total (part_start from) read xs rest (omega (arith, few, less, count, at)))

-- ---- codecs

-- BLOCKSIZE of a codec that can be read
pub block_is : (codec : Codec) (block : ℕ) → ReadsCodes codec → blocksize_of codec ≡ Some block → IsBlock block × ((bytepix : ℕ) × (codec ≡ Rice block bytepix))
block_is (Rice b bytepix) block can is =
    let same : b ≡ block = cc in
    (subst IsBlock same can.0, (bytepix, ap (λ k. Rice k bytepix) same))
block_is Plio block can is = absurd cc
block_is Plain block can is = absurd cc

-- a codec without one has no blocks
pub no_blocks : (codec : Codec) → blocksize_of codec ≡ None → HasBlocks codec → ⊥
no_blocks codec none has =
    let no : ◌≡◌ {A = Option ℕ} (Some has.0) None = sym (ap blocksize_of has.2) ∙ none in
    absurd cc

pub whole_blocks : (codec : Codec) (block bytepix j : ℕ) → codec ≡ Rice block bytepix → j % block ≡ 0 → AreWholeBlocks codec j
whole_blocks codec block bytepix j is whole = subst (λ (k : Codec). AreWholeBlocks k j) (sym is) whole

-- their pixels have a place each
narrow : (b : ℤ) → IsBitpix b → (b ≡ pos 64 → ⊥) → (unsigned_abs b == 64) ≡ false
narrow b (inl is) other = ap (λ z. unsigned_abs z == 64) is
narrow b (inr (inl is)) other = ap (λ z. unsigned_abs z == 64) is
narrow b (inr (inr (inl is))) other = ap (λ z. unsigned_abs z == 64) is
narrow b (inr (inr (inr is))) other = absurd (other is)

one_place : (codec : Codec) (bitpix : ℤ) → CanRead codec bitpix → HasBlocks codec → (unsigned_abs bitpix == 64) ≡ false
one_place codec bitpix can has = narrow bitpix can.size (λ wide. let no : Plain ≡ Rice has.0 has.1 = sym (can.plain wide) ∙ has.2 in absurd cc)

places_by : (b : Bool) (i n : ℕ) (numbers ys : List ℤ) → b ≡ false → take n (drop i numbers) ≡ ys
    → take (if b then 2 * n else n) (drop (if b then 2 * i else i) numbers) ≡ (if b then flat_map halves ys else ys)
places_by true i n numbers ys one same = absurd cc
places_by false i n numbers ys one same = same

hold_slice : (bits i j : ℕ) (numbers xs : List ℤ) → (bits == 64) ≡ false → All (IsNumber bits) (take (j - i) (drop i xs)) → take (j - i) (drop i numbers) ≡ take (j - i) (drop i xs)
    → HoldPixels bits (take (place_count bits (j - i)) (drop (place_count bits i) numbers)) (take (j - i) (drop i xs))
hold_slice bits i j numbers xs one range same = record { pixels = range; are = places_by (bits == 64) i (j - i) numbers (take (j - i) (drop i xs)) one same }

-- ---- pixels of which only a part is known

abbrev made : ℕ → ℕ → ℕ → List ℤ → List ℤ
made n i j part = replicate i (pos 0) ++ (part ++ replicate (n - j) (pos 0))

made_len : (n i j : ℕ) (part : List ℤ) → i ≤ j → j ≤ n → length part ≡ j - i → length (made n i j part) ≡ n
made_len n i j part less most size =
    let front = length-append (replicate i (pos 0)) (part ++ replicate (n - j) (pos 0)) in
    let back = length-append part (replicate (n - j) (pos 0)) in
    omega (arith, front, back, length-replicate i (pos 0), length-replicate (n - j) (pos 0), less, most, size)

made_part : (n i j : ℕ) (part : List ℤ) → length part ≡ j - i → take (j - i) (drop i (made n i j part)) ≡ part
made_part n i j part size =
    let tail : List ℤ = part ++ replicate (n - j) (pos 0) in
    let back : drop i (made n i j part) ≡ tail = ap (λ k. drop k (made n i j part)) (sym (length-replicate i (pos 0))) ∙ drop-append_seam (replicate i (pos 0)) tail in
    ap (take (j - i)) back ∙ ap (λ k. take k tail) (sym size) ∙ take-append_seam part (replicate (n - j) (pos 0))

-- ---- the record of a row

-- a row has one record
one_record : (file : List ℕ) (h : Header) (image : PackedImage) (t : ℕ) (found other : Record) → IsSaid file h image → IsRecordIn file h.hdu image t found
    → record_at file h.hdu (image_table file h) t (tile_of (plan_in file h) t) ≡ Ok other → other ≡ found
one_record file h image t found other said chosen is =
    let same : ◌≡◌ {A = Result Record Fault} (Ok other) (Ok found) = sym is ∙ (chosen_in file h image t said ∙ chosen) in
    cc

-- what is known of a part that was decoded from a record
pub record IsDecoded (held : Option (List ℕ)) (h : Header) (image : PackedImage) (t : ℕ) (from : Option TileMark) (found : Record) (code : List ℕ) (skipped j : ℕ) (numbers : List ℤ) (r : Option TileMark) : Type 0 where
  pub can : CanRead image.plan.codec image.plan.bitpix
  pub blocks : HasBlocks image.plan.codec
  pub said : IfSome held (λ file. IsSaid file h image)
  pub marked : IfSome held (λ file. IfSome from (IsMarkIn file h t))
  pub column : found.column ≡ Coded
  pub len : found.read ≡ read_len (pixels_of image.plan t) found.total
  pub told : IfSome held (λ file. IsRecordIn file h.hdu image t found × (code ≡ drop skipped (record_bytes file found)))
  pub fits : skipped ≤ found.read
  pub start : part_start from < j
  pub most : j ≤ pixels_of image.plan t
  pub long : j ≤ length numbers
  pub reads : ReadsBetween image.plan.codec (pixel_bits image.plan) code from skipped j numbers r
  pub range : IfSome r (λ next. All (IsNumber (pixel_bits image.plan)) (take (j - part_start from) (drop (part_start from) numbers)))
  pub end : IfSome r (λ next. next.pixel ≡ j)

rest_told : (held : Option (List ℕ)) (hdu : ℕ) (image : PackedImage) (t : ℕ) (from : Option TileMark) (found : Record) (buffer : List ℕ) (skipped : ℕ) → skipped ≡ bytes_before from found.read
    → IsRestRead held hdu image t from found buffer → IfSome held (λ file. IsRecordIn file hdu image t found × (take (found.read - skipped) buffer ≡ drop skipped (record_bytes file found)))
rest_told held hdu image t from found buffer skipped same rest =
    subst (λ k. IfSome held (λ file. IsRecordIn file hdu image t found × (take (found.read - k) buffer ≡ drop k (record_bytes file found)))) (sym same) rest.told

pub rest_of : (held : Option (List ℕ)) (hdu : ℕ) (image : PackedImage) (t : ℕ) (from : Option TileMark) (part : Option Record) (found : Record) (buffer : List ℕ) → part ≡ Some found
    → IfSome part (λ f. IsRestRead held hdu image t from f buffer) → IsRestRead held hdu image t from found buffer
rest_of held hdu image t from part found buffer is rest = subst (λ (o : Option Record). IfSome o (λ f. IsRestRead held hdu image t from f buffer)) is rest

pub decoded_in : (held : Option (List ℕ)) (h : Header) (image : PackedImage) (t : ℕ) (from : Option TileMark) (part : Option Record) (found : Record) (block : ℕ) (buffer : List ℕ) (skipped end j pixels : ℕ) (numbers : List ℤ) (r : Option TileMark)
    → CanRead image.plan.codec image.plan.bitpix → blocksize_of image.plan.codec ≡ Some block → IfSome held (λ file. IsSaid file h image) → IfSome held (λ file. IfSome from (IsMarkIn file h t))
    → part ≡ Some found → IfSome part (λ f. IsRestRead held h.hdu image t from f buffer) → skipped ≡ bytes_before from found.read → skipped ≤ found.read
    → part_start from < end → end ≤ j → j ≤ pixels → pixels ≡ pixels_of image.plan t → pixels_of image.plan t ≤ length numbers
    → ReadsBetween image.plan.codec (pixel_bits image.plan) (take (found.read - skipped) buffer) from skipped j numbers r
    → IfSome r (λ next. All (IsNumber (pixel_bits image.plan)) (take (j - part_start from) (drop (part_start from) numbers))) → IfSome r (λ next. next.pixel ≡ j)
    → IsDecoded held h image t from found (take (found.read - skipped) buffer) skipped j numbers r
decoded_in held h image t from part found block buffer skipped end j pixels numbers r can has said marked is rests count fits some reach most size long reads range at =
    let rest : IsRestRead held h.hdu image t from found buffer = rest_of held h.hdu image t from part found buffer is rests in
    let rice = block_is image.plan.codec block can.codes has in
    record {
      can = can;
      blocks = (block, rice.1.0, rice.1.1);
      said = said;
      marked = marked;
      column = rest.column;
      len = rest.len;
      told = rest_told held h.hdu image t from found buffer skipped count rest;
      fits = fits;
      start = omega (arith, some, reach);
      most = omega (arith, most, size);
      long = omega (arith, most, size, long);
      reads = reads;
      range = range;
      end = at;
    }

-- ---- what the row stands for

module _ (file : List ℕ) (h : Header) (image : PackedImage) (t : ℕ) (from : Option TileMark) (found : Record) (code : List ℕ) (skipped j : ℕ) (numbers : List ℤ) (r : Option TileMark)
    (d : IsDecoded (Some file) h image t from found code skipped j numbers r) (xs : List ℤ) (s : RowStandsFor file h t xs) where
  means : IsRecord image.plan.codec (pixel_bits image.plan) place.Coded found.total (record_bytes file found) xs
  means =
      let same : s.found ≡ found = one_record file h image t found s.found d.said d.told.0 s.chosen in
      let here : RecordMeans file image.plan found xs = subst (λ (k : Record). RecordMeans file image.plan k xs) same (subst (λ (p : Plan). RecordMeans file p s.found xs) d.said.plan s.means) in
      subst (λ (k : TileColumn). IsRecord image.plan.codec (pixel_bits image.plan) (place_in k) found.total (record_bytes file found) xs) d.column here

  count : length xs ≡ pixels_of image.plan t
  count = s.count ∙ ap (λ (p : Plan). pixels_of p t) d.said.plan

  marked_in : (f : Option TileMark) → IfSome f (IsMarkIn file h t) → part_start f < pixels_of image.plan t → IsMarked image.plan.codec (record_bytes file found) f
  marked_in None known less = d.blocks
  marked_in (Some m) known less =
      let on : IsReadOnFrom file h t m = known (xs, s) (subst (λ (p : Plan). m.pixel < pixels_of p t) (sym d.said.plan) less) in
      subst (λ (k : Record). IsMarkAfter image.plan.codec (record_bytes file k) m.pixel m.mark) (one_record file h image t found on.found d.said d.told.0 on.chosen)
      (subst (λ (p : Plan). IsMarkAfter p.codec (record_bytes file on.found) m.pixel m.mark) d.said.plan on.mark)

  rest_in : IsRestOf image.plan.codec (pixel_bits image.plan) code from skipped found.total (record_bytes file found) xs
  rest_in =
      let size : length (record_bytes file found) ≡ found.read = means.len ∙ ap (λ n. read_len n found.total) count ∙ sym d.len in
      record {
        within = omega (arith, size, d.fits);
        stands = means;
        code_is = d.told.1;
        marked = marked_in from d.marked (omega (arith, d.start, d.most));
      }

  between : MatchOption r ⊥ (λ next. AreBetween image.plan.codec (record_bytes file found) (part_start from) j xs numbers next)
  between = d.reads found.total (record_bytes file found) xs rest_in (omega (arith, d.most, count))

  holds : (next : TileMark) → AreBetween image.plan.codec (record_bytes file found) (part_start from) j xs numbers next → HoldsBetween image.plan t (part_start from) j numbers xs
  holds next is = record {
    count = count;
    hold = hold_slice (pixel_bits image.plan) (part_start from) j numbers xs (one_place image.plan.codec image.plan.bitpix d.can d.blocks)
        (All-take (IsNumber (pixel_bits image.plan)) (j - part_start from) (drop (part_start from) xs) (All-drop (IsNumber (pixel_bits image.plan)) (part_start from) xs means.pixels)) is.pixels;
  }

  goes_on : (next : TileMark) → next.pixel ≡ j → AreWholeBlocks image.plan.codec j → AreBetween image.plan.codec (record_bytes file found) (part_start from) j xs numbers next → IsReadOnFrom file h t next
  goes_on next at whole is = record {
    found = found;
    chosen = chosen_in file h image t d.said ∙ d.told.0;
    column = d.column;
    mark = subst (λ (p : Plan). IsMarkAfter p.codec (record_bytes file found) next.pixel next.mark) (sym d.said.plan)
        (subst (λ k. IsMarkAfter image.plan.codec (record_bytes file found) k next.mark) (sym at) (is.next_is whole));
  }

-- ---- the clauses of a part

module _ (h : Header) (image : PackedImage) (t : ℕ) (from : Option TileMark) (found : Record) (code : List ℕ) (skipped j : ℕ) (numbers : List ℤ) where
  some_pixels : (held : Option (List ℕ)) (next : TileMark) → IsDecoded held h image t from found code skipped j numbers (Some next)
      → HoldsBetween image.plan t (part_start from) j numbers (made (pixels_of image.plan t) (part_start from) j (take (j - part_start from) (drop (part_start from) numbers)))
  some_pixels held next d =
      let i : ℕ = part_start from in
      let n : ℕ = pixels_of image.plan t in
      let part : List ℤ = take (j - i) (drop i numbers) in
      let size : length part ≡ j - i = length-take-le (j - i) (drop i numbers) (omega (arith, length-drop i numbers, d.long)) in
      let same : take (j - i) (drop i (made n i j part)) ≡ part = made_part n i j part size in
      record {
        count = made_len n i j part (omega (arith, d.start)) d.most size;
        hold = hold_slice (pixel_bits image.plan) i j numbers (made n i j part) (one_place image.plan.codec image.plan.bitpix d.can d.blocks)
            (subst (λ (l : List ℤ). All (IsNumber (pixel_bits image.plan)) l) (sym same) d.range) (sym same);
      }

  held_told : (held : Option (List ℕ)) (next : TileMark) → IsDecoded held h image t from found code skipped j numbers (Some next)
      → IfSome held (λ file. (xs : List ℤ) → RowStandsFor file h t xs → HoldsBetween image.plan t (part_start from) j numbers xs)
  held_told None next d = tt
  held_told (Some file) next d = λ xs s.
      holds file h image t from found code skipped j numbers (Some next) d xs s next (between file h image t from found code skipped j numbers (Some next) d xs s)

  pub part_fetched : (held : Option (List ℕ)) (r : Option TileMark) → IsDecoded held h image t from found code skipped j numbers r
      → IfSome r (λ next. IsPartFetched held h image.plan t (part_start from) next.pixel numbers)
  part_fetched held None d = tt
  part_fetched held (Some next) d =
      subst (λ k. IsPartFetched held h image.plan t (part_start from) k numbers) (sym d.end) (record {
        pixels = made (pixels_of image.plan t) (part_start from) j (take (j - part_start from) (drop (part_start from) numbers));
        hold = some_pixels held next d;
        told = held_told held next d;
      })

  next_told : (held : Option (List ℕ)) (next : TileMark) → IsDecoded held h image t from found code skipped j numbers (Some next) → (j < pixels_of image.plan t → AreWholeBlocks image.plan.codec j)
      → IfSome held (λ file. IsMarkIn file h t next)
  next_told None next d whole = tt
  next_told (Some file) next d whole = λ sound less.
      let few : next.pixel < pixels_of image.plan t = subst (λ (p : Plan). next.pixel < pixels_of p t) d.said.plan less in
      goes_on file h image t from found code skipped j numbers (Some next) d sound.0 sound.1 next d.end (whole (omega (arith, few, d.end)))
      (between file h image t from found code skipped j numbers (Some next) d sound.0 sound.1)

  pub next_marked : (held : Option (List ℕ)) (r : Option TileMark) → IsDecoded held h image t from found code skipped j numbers r → (j < pixels_of image.plan t → AreWholeBlocks image.plan.codec j)
      → IfSome r (λ next. IfSome held (λ file. IsMarkIn file h t next))
  next_marked held None d whole = tt
  next_marked held (Some next) d whole = next_told held next d whole

  none_told : (held : Option (List ℕ)) → IsDecoded held h image t from found code skipped j numbers None → IfSome held (λ file. IsReadInParts file h t → ⊥)
  none_told None d = tt
  none_told (Some file) d = λ p. between file h image t from found code skipped j numbers None d p.pixels p.stands

  pub none_read : (held : Option (List ℕ)) (r : Option TileMark) → IsDecoded held h image t from found code skipped j numbers r → IfNone r (IfSome held (λ file. IsReadInParts file h t → ⊥))
  none_read held None d = none_told held d
  none_read held (Some next) d = tt

pub part_reach : (r : Option TileMark) (end j n : ℕ) → IfSome r (λ next. next.pixel ≡ j) → end ≤ j → j ≤ n → IfSome r (λ next. (end ≤ next.pixel) × (next.pixel ≤ n))
part_reach None end j n at from to = tt
part_reach (Some next) end j n at from to = (omega (arith, at, from), omega (arith, at, to))

pub part_near : (codec : Codec) (block : ℕ) (r : Option TileMark) (end j : ℕ) → blocksize_of codec ≡ Some block → IfSome r (λ next. next.pixel ≡ j) → j < end + block
    → IfSome r (λ next. (b bytepix : ℕ) → codec ≡ Rice b bytepix → next.pixel < end + b)
part_near codec block None end j has at near = tt
part_near codec block (Some next) end j has at near = λ b bytepix is.
    let same : ◌≡◌ {A = Option ℕ} (Some block) (Some b) = sym has ∙ ap blocksize_of is in
    let one : block ≡ b = cc in
    omega (arith, near, at, one)

pub part_others : (r : Option TileMark) (i j : ℕ) (old new : List ℤ) → IfSome r (λ next. next.pixel ≡ j) → IfSome r (λ next. AreOthersKept i j old new) → IfSome r (λ next. AreOthersKept i next.pixel old new)
part_others None i j old new at kept = tt
part_others (Some next) i j old new at kept = subst (λ k. AreOthersKept i k old new) (sym at) kept

-- ---- rows that are not read in parts

-- the codec has no blocks
pub none_by_codec : (held : Option (List ℕ)) (h : Header) (image : PackedImage) (t : ℕ) → IfSome held (λ file. IsSaid file h image) → (HasBlocks image.plan.codec → ⊥) → IfSome held (λ file. IsReadInParts file h t → ⊥)
none_by_codec None h image t said never = tt
none_by_codec (Some file) h image t said never = λ p. never (subst (λ (q : Plan). HasBlocks q.codec) said.plan p.codec)

-- the tile is stored
pub none_stored : (held : Option (List ℕ)) (h : Header) (image : PackedImage) (t : ℕ) → IfSome held (λ file. IsSaid file h image) → IfSome held (λ file. IsStoredIn file h.hdu image t)
    → IfSome held (λ file. IsReadInParts file h t → ⊥)
none_stored None h image t said is = tt
none_stored (Some file) h image t said is = λ p.
    let same : p.stands.found ≡ is.0 = one_record file h image t is.0 p.stands.found said is.1 p.stands.chosen in
    let no : Coded ≡ Stored = sym p.column ∙ ap (λ (k : Record). k.column) same ∙ is.2 in
    absurd cc

-- and nothing was read for it
pub nothing_read : LogsAllLaw → (held : Option (List ℕ)) (h : Header) (t : ℕ) (old : Option (List (ℕ × ℕ))) → IfSome held (λ file. LogsIn (fetched_ranges file h (t ∷ [])) old old)
nothing_read all None h t old = tt
nothing_read all (Some file) h t old = all [] (fetched_ranges file h (t ∷ [])) old old (λ byte lies. elim lies [ ]) refl
