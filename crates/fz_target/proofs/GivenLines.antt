-- The lines of PATCH that are put over those of a tile, one after another, make its new numbers (FITS 4.0, sections 3.3.2 and 10.1).
use Rattle.std.proofs.Common.{◌≡◌, ◌⊎◌, inl, inr, ℕ, ◌+◌, ◌-◌, ◌*◌, ◌/◌, ◌<◌, ◌≤◌, ℤ, pos, List, [], ◌∷◌, ◌++◌, length, zip, take, drop, get_or, slice_index_or, Option, Some, None, min, refl, sym, ap, subst, ◌∙◌, arith, ext_get_or}
use Rattle.std.specs.Prelude.{Contains, IfSome}
use Rattle.std.specs.List.{AllByRecursion, range_with_len}
use Rattle.std.proofs.lemmas.Bool.{cases_lt}
use Rattle.std.proofs.lemmas.List.{drop-drop, get_or-append-add, get_or-drop, get_or-map, get_or-take, get_or_append_left, length-map, length-take-le, map-append}
use Rattle.std.proofs.lemmas.List.Elements.{Contains-append_cases}
use Rattle.std.proofs.lemmas.List.FromFn.{get_or-map-range_with_len, length-map-range_with_len}
use Rattle.std.proofs.lemmas.Slice.Zip.{length-zip}
use Rattle.std.proofs.Math.Seq.{drop-append_seam, take-append_seam}
use Rattle.fz_grid.specs.Division.{AreTileLengths}
use Rattle.fz_grid.specs.Arrays.{product}
use Rattle.fz_grid.specs.Grid.{box_coordinates, moved, tile_coordinates, tile_corner, tile_lengths}
use Rattle.fz_grid.specs.Laws.{BoxesHaveTheirPixels}
use Rattle.fz_grid.specs.Region.{lengths_of}
use Rattle.fz_grid.specs.Sieve.{sieve_lengths}
use Rattle.fz_grid.specs.Cutout.{numbers_at, picks_in_cutout, picks_in_tile}
use Rattle.fz_grid.specs.Line.{IsLineWithin, line_in_cutout, line_in_tile, lines_in_cutout, lines_in_tile}
use Rattle.fz_grid.specs.declared.line.Line.{Line}
use Rattle.fz_tile.specs.Pixels.{HoldPixels, place_count}
use Rattle.fz_tile.specs.Plain.{pixel_of, stored_pixels}
use Rattle.fz_fetch.specs.Fetched.{HoldsPixels}
use Rattle.fz_files.specs.Packed.{pixel_bits, tiles_in}
use Rattle.fz_files.specs.Restored.{pixels_of}
use Rattle.fz_laws.specs.PatchLaws.{NewNumbersAreGiven, NewNumbersStay}
use Rattle.fz_laws.specs.NewNumbers.{new_number, new_numbers}
use Rattle.fz_target.specs.Targets.{IsGivenTo, given_at}
use Rattle.fz_target.specs.Tiles.{HasPiece, given_pixels, with_piece}
use Rattle.fz_target.specs.declared.target.Target.{Target}
use Rattle.fz_target.proofs.Pieces.{with_len}

-- ---- a list with a piece in the place of its own

before_piece : (at : ℕ) (piece xs : List ℤ) (i : ℕ) (d : ℤ) → i < at → at ≤ length xs → get_or (with_piece at piece xs) i d ≡ get_or xs i d
before_piece at piece xs i d less within =
    let first : length (take at xs) ≡ at = length-take-le at xs within in
    get_or_append_left (take at xs) (piece ++ drop (at + length piece) xs) d i (omega (arith, first, less)) ∙ get_or-take at xs i d less

in_piece : (at : ℕ) (piece xs : List ℤ) (k : ℕ) (d : ℤ) → k < length piece → at ≤ length xs → get_or (with_piece at piece xs) (at + k) d ≡ get_or piece k d
in_piece at piece xs k d less within =
    let first : length (take at xs) ≡ at = length-take-le at xs within in
    ap (λ n. get_or (with_piece at piece xs) (n + k) d) (sym first)
    ∙ (get_or-append-add (take at xs) (piece ++ drop (at + length piece) xs) k d
    ∙ get_or_append_left piece (drop (at + length piece) xs) d k less)

after_piece : (at : ℕ) (piece xs : List ℤ) (i : ℕ) (d : ℤ) → at + length piece ≤ i → at ≤ length xs → get_or (with_piece at piece xs) i d ≡ get_or xs i d
after_piece at piece xs i d more within =
    let first : length (take at xs) ≡ at = length-take-le at xs within in
    let rest : ℕ = i - (at + length piece) in
    let place : i ≡ at + (length piece + rest) = omega (arith, more) in
    let again : at + length piece + rest ≡ i = omega (arith, more) in
    ap (λ n. get_or (with_piece at piece xs) n d) place
    ∙ (ap (λ n. get_or (with_piece at piece xs) (n + (length piece + rest)) d) (sym first)
    ∙ (get_or-append-add (take at xs) (piece ++ drop (at + length piece) xs) (length piece + rest) d
    ∙ (get_or-append-add piece (drop (at + length piece) xs) rest d
    ∙ (get_or-drop (at + length piece) xs rest d
    ∙ ap (λ n. get_or xs n d) again))))

split_front : {A : Type 0} (xs ys us vs : List A) → length xs ≡ length us → xs ++ ys ≡ us ++ vs → xs ≡ us
split_front xs ys us vs long same =
    sym (take-append_seam xs ys) ∙ (ap (take (length xs)) same ∙ (ap (λ n. take n (us ++ vs)) long ∙ take-append_seam us vs))

split_back : {A : Type 0} (xs ys us vs : List A) → length xs ≡ length us → xs ++ ys ≡ us ++ vs → ys ≡ vs
split_back xs ys us vs long same =
    sym (drop-append_seam xs ys) ∙ (ap (drop (length xs)) same ∙ (ap (λ n. drop n (us ++ vs)) long ∙ drop-append_seam us vs))

-- ---- the places of a line, whose picks are neighbours

module _ (line : Line) (one : line.step ≡ 1) where
  tile_len : length (line_in_tile line) ≡ line.count
  tile_len = length-map-range_with_len (λ k. line.in_tile + k * line.step) 0 line.count

  tile_place : (k d : ℕ) → k < line.count → get_or (line_in_tile line) k d ≡ line.in_tile + k
  tile_place k d less =
      let steps : k * line.step ≡ k * 1 = ap (λ s. k * s) one in
      get_or-map-range_with_len (λ j. line.in_tile + j * line.step) 0 line.count k k d less (omega arith) ∙ omega (arith, steps)

  in_line : (place : ℕ) → Contains (line_in_tile line) place → (line.in_tile ≤ place) × (place < line.in_tile + line.count)
  in_line place (k, less, is) =
      let low : k < line.count = omega (arith, less, tile_len) in
      let here : line.in_tile + k ≡ place = sym (tile_place k place low) ∙ is in
      (omega (arith, here), omega (arith, here, low))

-- ---- a pixel of the piece

stored_at : (bits count k : ℕ) (bytes : List ℕ) (d : ℤ) → k < count → get_or (stored_pixels bits count bytes) k d ≡ pixel_of bits (take (bits / 8) (drop (bits / 8 * k) bytes))
stored_at bits count k bytes d less = get_or-map-range_with_len (λ i. pixel_of bits (take (bits / 8) (drop (bits / 8 * i) bytes))) 0 count k k d less (omega arith)

-- it is that of PATCH
pixel_is : (t : Target) (patch : List ℕ) (total from count k : ℕ) (d : ℤ) → k < count → from + count ≤ total →
    get_or (given_pixels t from count patch) k d ≡ get_or (stored_pixels (pixel_bits t.image.plan) total (drop t.pixels_at patch)) (from + k) d
pixel_is t patch total from count k d less within =
    let bits : ℕ = pixel_bits t.image.plan in
    let w : ℕ = bits / 8 in
    let same : t.pixels_at + w * from + w * k ≡ t.pixels_at + w * (from + k) = further w t.pixels_at from k in
    stored_at bits count k (drop (t.pixels_at + w * from) patch) d less
    ∙ (ap (λ l. pixel_of bits (take w l))
    (drop-drop (w * k) (t.pixels_at + w * from) patch
    ∙ (ap (λ n. drop n patch) same
    ∙ sym (drop-drop (w * (from + k)) t.pixels_at patch)))
    ∙ sym (stored_at bits total (from + k) (drop t.pixels_at patch) d (omega (arith, less, within))))
  where
    further : (w at from k : ℕ) → at + w * from + w * k ≡ at + w * (from + k)
    further w at from k = grind arith

-- ---- lines that are left

-- The numbers hold the new ones of a tile at all places but those of the lines that are left; there these have the pixels of PATCH.
pub record LinesAreLeft (t : Target) (corner patch : List ℕ) (tile : ℕ) (xs : List ℤ) (left : List Line) (numbers : List ℤ) : Type 0 where
  pub ys : List ℤ
  pub hold : HoldsPixels t.image.plan tile numbers ys
  pub done :
      (place : ℕ) → place < length ys → ¬ Contains (lines_in_tile left) place →
      slice_index_or ys place (pos 0) ≡ slice_index_or (new_numbers t.image.plan (given_at corner patch) tile xs) place (pos 0)
  pub are : numbers_at (new_numbers t.image.plan (given_at corner patch) tile xs) (lines_in_tile left) ≡ numbers_at (given_at corner patch).array.numbers (lines_in_cutout left)

-- all are
pub lines_begin : NewNumbersAreGiven → NewNumbersStay → (t : Target) (corner patch : List ℕ) (tile : ℕ) (xs : List ℤ) (all : List Line) (numbers : List ℤ) →
    AreTileLengths (lengths_of t.image.plan.shape) (lengths_of t.image.plan.tile) → IsGivenTo corner patch t → tile < tiles_in t.image.plan →
    lines_in_tile all ≡ picks_in_tile (lengths_of t.image.plan.shape) (lengths_of t.image.plan.tile) t.sieve tile →
    lines_in_cutout all ≡ picks_in_cutout (lengths_of t.image.plan.shape) (lengths_of t.image.plan.tile) t.sieve tile →
    HoldsPixels t.image.plan tile numbers xs → LinesAreLeft t corner patch tile xs all numbers
lines_begin given stay t corner patch tile xs all numbers lengths to near in_tile in_cutout hold =
    let p = t.image.plan in
    let g = given_at corner patch in
    let array : List ℕ = lengths_of p.shape in
    let tiles : List ℕ = lengths_of p.tile in
    let picks : lines_in_tile all ≡ picks_in_tile array tiles _ tile = in_tile ∙ ap (λ s. picks_in_tile array tiles s tile) to.sieve in
    let cutout : lines_in_cutout all ≡ picks_in_cutout array tiles _ tile = in_cutout ∙ ap (λ s. picks_in_cutout array tiles s tile) to.sieve in
    record {
      ys = xs;
      hold = hold;
      done = λ place less out. sym (stay p g tile place xs lengths to.fits near hold.count less (λ has. out (subst (λ l. Contains l place) (sym picks) has)));
      are =
          ap (numbers_at (new_numbers p g tile xs)) picks
          ∙ (given p g tile xs lengths to.fits near hold.count
          ∙ ap (numbers_at g.array.numbers) (sym cutout));
    }

-- the next line was put
pub lines_step : (t : Target) (corner patch : List ℕ) (tile : ℕ) (xs : List ℤ) (line : Line) (left rest : List Line) (old new : List ℤ) → left ≡ line ∷ rest →
    line.step ≡ 1 → IsLineWithin (pixels_of t.image.plan tile) (product (sieve_lengths t.sieve)) line → 2 * pixels_of t.image.plan tile ≤ length old →
    IsGivenTo corner patch t → HasPiece t line.in_tile line.in_cutout line.count (Some patch) old new →
    LinesAreLeft t corner patch tile xs left old → LinesAreLeft t corner patch tile xs rest new
lines_step t corner patch tile xs line left rest old new next one within room to put was =
    let p = t.image.plan in
    let bits : ℕ = pixel_bits p in
    let g = given_at corner patch in
    let news : List ℤ = new_numbers p g tile xs in
    let ys : List ℤ = was.ys in
    let zs : List ℤ = put.piece in
    let count : length ys ≡ pixels_of p tile = was.hold.count in
    let steps : (line.count - 1) * line.step ≡ (line.count - 1) * 1 = ap (λ s. (line.count - 1) * s) one in
    let fits : line.in_tile + line.count ≤ length ys = omega (arith, count, steps, within.tile, within.some) in
    let long : length zs ≡ line.count = put.count_is in
    let fits_too : line.in_tile + length zs ≤ length ys = omega (arith, fits, long) in
    let len : length (with_piece line.in_tile zs ys) ≡ length ys = with_len line.in_tile zs ys fits_too in
    let counted : HoldPixels bits (take (place_count bits (length ys)) old) ys = subst (λ k. HoldPixels bits (take (place_count bits k) old) ys) (sym count) was.hold.hold in
    let now : HoldPixels bits (take (place_count bits (length ys)) new) (with_piece line.in_tile zs ys) = put.hold ys fits (omega (arith, room, count)) counted in
    let are : numbers_at news (line_in_tile line ++ lines_in_tile rest) ≡ numbers_at g.array.numbers (line_in_cutout line ++ lines_in_cutout rest) =
    ap (λ l. numbers_at news (lines_in_tile l)) (sym next) ∙ (was.are ∙ ap (λ l. numbers_at g.array.numbers (lines_in_cutout l)) next)
    in
    let parts : numbers_at news (line_in_tile line) ++ numbers_at news (lines_in_tile rest) ≡ numbers_at g.array.numbers (line_in_cutout line) ++ numbers_at g.array.numbers (lines_in_cutout rest) =
    sym (map-append (λ place. slice_index_or news place (pos 0)) (line_in_tile line) (lines_in_tile rest))
    ∙ (are ∙ map-append (λ place. slice_index_or g.array.numbers place (pos 0)) (line_in_cutout line) (lines_in_cutout rest))
    in
    let cutout_len : length (line_in_cutout line) ≡ line.count = range_len line.in_cutout line.count in
    let as_long : length (numbers_at news (line_in_tile line)) ≡ length (numbers_at g.array.numbers (line_in_cutout line)) =
    length-map (line_in_tile line) (λ place. slice_index_or news place (pos 0))
    ∙ (tile_len line one ∙ (sym cutout_len ∙ sym (length-map (line_in_cutout line) (λ place. slice_index_or g.array.numbers place (pos 0)))))
    in
    let here : numbers_at news (line_in_tile line) ≡ numbers_at g.array.numbers (line_in_cutout line) =
    split_front (numbers_at news (line_in_tile line)) (numbers_at news (lines_in_tile rest)) (numbers_at g.array.numbers (line_in_cutout line)) (numbers_at g.array.numbers (lines_in_cutout rest)) as_long parts
    in
    record {
      ys = with_piece line.in_tile zs ys;
      hold = record { count = len ∙ count; hold = subst (λ k. HoldPixels bits (take (place_count bits k) new) (with_piece line.in_tile zs ys)) count now };
      done = λ place less out. by_side place (omega (arith, less, len)) out fits fits_too long here (cases_lt place line.in_tile) (cases_lt place (line.in_tile + line.count));
      are = split_back (numbers_at news (line_in_tile line)) (numbers_at news (lines_in_tile rest)) (numbers_at g.array.numbers (line_in_cutout line)) (numbers_at g.array.numbers (lines_in_cutout rest)) as_long parts;
    }
  where
    range_len : (a n : ℕ) → length (range_with_len a n) ≡ n
    range_len a n = sym (length-map (range_with_len a n) (λ k. k)) ∙ length-map-range_with_len (λ k. k) a n

    still_out : (place : ℕ) → ¬ Contains (lines_in_tile rest) place → ((line.in_tile ≤ place) × (place < line.in_tile + line.count) → ⊥) → ¬ Contains (lines_in_tile left) place
    still_out place out apart has = by_part (Contains-append_cases (line_in_tile line) (lines_in_tile rest) place (subst (λ l. Contains (lines_in_tile l) place) next has))
      where
        by_part : Contains (line_in_tile line) place ⊎ Contains (lines_in_tile rest) place → ⊥
        by_part (inl of_line) = apart (in_line line one place of_line)
        by_part (inr of_rest) = out of_rest

    by_side : (place : ℕ) → place < length was.ys → ¬ Contains (lines_in_tile rest) place → line.in_tile + line.count ≤ length was.ys → line.in_tile + length put.piece ≤ length was.ys → length put.piece ≡ line.count →
        numbers_at (new_numbers t.image.plan (given_at corner patch) tile xs) (line_in_tile line) ≡ numbers_at (given_at corner patch).array.numbers (line_in_cutout line) →
        (place < line.in_tile) ⊎ (line.in_tile ≤ place) → (place < line.in_tile + line.count) ⊎ (line.in_tile + line.count ≤ place) →
        slice_index_or (with_piece line.in_tile put.piece was.ys) place (pos 0) ≡ slice_index_or (new_numbers t.image.plan (given_at corner patch) tile xs) place (pos 0)
    by_side place less out fits fits_too long here (inl before) side =
        before_piece line.in_tile put.piece was.ys place (pos 0) before (omega (arith, fits))
        ∙ was.done place less (still_out place out (λ both. omega (arith, before, both.0)))
    by_side place less out fits fits_too long here (inr from) (inr after) =
        after_piece line.in_tile put.piece was.ys place (pos 0) (omega (arith, after, long)) (omega (arith, fits))
        ∙ was.done place less (still_out place out (λ both. omega (arith, after, both.1)))
    by_side place less out fits fits_too long here (inr from) (inl low) =
        let k : ℕ = place - line.in_tile in
        let is : line.in_tile + k ≡ place = omega (arith, from) in
        let in_count : k < line.count = omega (arith, low, from) in
        let news : List ℤ = new_numbers t.image.plan (given_at corner patch) tile xs in
        let numbers : List ℤ = (given_at corner patch).array.numbers in
        let of_tile : get_or (numbers_at news (line_in_tile line)) k (pos 0) ≡ get_or news (line.in_tile + k) (pos 0) =
        get_or-map (λ n. get_or news n (pos 0)) (line_in_tile line) k 0 (pos 0) (omega (arith, in_count, tile_len line one)) ∙ ap (λ n. get_or news n (pos 0)) (tile_place line one k 0 in_count)
        in
        let of_cutout : get_or (numbers_at numbers (line_in_cutout line)) k (pos 0) ≡ get_or numbers (line.in_cutout + k) (pos 0) =
        get_or-map-range_with_len (λ n. get_or numbers n (pos 0)) line.in_cutout line.count k (line.in_cutout + k) (pos 0) in_count refl
        in
        let given : get_or put.piece k (pos 0) ≡ get_or numbers (line.in_cutout + k) (pos 0) =
        ap (λ l. get_or l k (pos 0)) put.are
        ∙ (pixel_is t patch (product (sieve_lengths t.sieve)) line.in_cutout line.count k (pos 0) in_count within.cutout
        ∙ ap (λ l. get_or l (line.in_cutout + k) (pos 0)) (sym to.numbers))
        in
        ap (λ n. get_or (with_piece line.in_tile put.piece was.ys) n (pos 0)) (sym is)
        ∙ (in_piece line.in_tile put.piece was.ys k (pos 0) (omega (arith, in_count, long)) (omega (arith, fits))
        ∙ (given
        ∙ (sym of_cutout
        ∙ (ap (λ l. get_or l k (pos 0)) (sym here)
        ∙ (of_tile ∙ ap (λ n. get_or news n (pos 0)) is)))))

-- none is left
pub lines_over : BoxesHaveTheirPixels → (t : Target) (corner patch : List ℕ) (tile : ℕ) (xs : List ℤ) (left : List Line) (numbers : List ℤ) → left ≡ [] → length xs ≡ pixels_of t.image.plan tile →
    LinesAreLeft t corner patch tile xs left numbers → HoldsPixels t.image.plan tile numbers (new_numbers t.image.plan (given_at corner patch) tile xs)
lines_over boxes t corner patch tile xs left numbers over count was =
    let news : List ℤ = new_numbers t.image.plan (given_at corner patch) tile xs in
    let array : List ℕ = lengths_of t.image.plan.shape in
    let tiles : List ℕ = lengths_of t.image.plan.tile in
    let from : List ℕ = tile_corner array tiles tile in
    let lens : List ℕ = tile_lengths array tiles tile in
    let boxed : length (box_coordinates lens) ≡ pixels_of t.image.plan tile = sym (length-map (box_coordinates lens) _) ∙ boxes array from lens in
    let coordinates : length (tile_coordinates array tiles tile) ≡ pixels_of t.image.plan tile = length-map (box_coordinates lens) (moved from) ∙ boxed in
    let zipped : length (zip (tile_coordinates array tiles tile) xs) ≡ min (length (tile_coordinates array tiles tile)) (length xs) = length-zip (tile_coordinates array tiles tile) xs in
    let all : length news ≡ length (zip (tile_coordinates array tiles tile) xs) = length-map (zip (tile_coordinates array tiles tile) xs) (λ pixel. new_number (given_at corner patch) pixel.0 pixel.1) in
    let same : was.ys ≡ news = ext_get_or (pos 0) was.ys news (omega (arith, all, zipped, coordinates, count, was.hold.count)) (λ i less. was.done i less (λ has. nothing i has)) in
    subst (HoldsPixels t.image.plan tile numbers) same was.hold
  where
    nothing : (i : ℕ) → Contains (lines_in_tile left) i → ⊥
    nothing i has = by_empty (subst (λ l. Contains (lines_in_tile l) i) over has)
      where
        by_empty : Contains [] i → ⊥
        by_empty (k, less, is) = absurd (omega (arith, less))

-- pixels of any kind are put as well
pub some_step : (t : Target) (tile : ℕ) (line : Line) (given : Option (List ℕ)) (old new : List ℤ) → line.step ≡ 1 → (total : ℕ) → IsLineWithin (pixels_of t.image.plan tile) total line →
    2 * pixels_of t.image.plan tile ≤ length old → HasPiece t line.in_tile line.in_cutout line.count given old new →
    (ys : List ℤ) × HoldsPixels t.image.plan tile old ys → (ys : List ℤ) × HoldsPixels t.image.plan tile new ys
some_step t tile line given old new one total within room put (ys, hold) =
    let bits : ℕ = pixel_bits t.image.plan in
    let count : length ys ≡ pixels_of t.image.plan tile = hold.count in
    let steps : (line.count - 1) * line.step ≡ (line.count - 1) * 1 = ap (λ s. (line.count - 1) * s) one in
    let fits : line.in_tile + line.count ≤ length ys = omega (arith, count, steps, within.tile, within.some) in
    let long : length put.piece ≡ line.count = put.count_is in
    let len : length (with_piece line.in_tile put.piece ys) ≡ length ys = with_len line.in_tile put.piece ys (omega (arith, fits, long)) in
    let counted : HoldPixels bits (take (place_count bits (length ys)) old) ys = subst (λ k. HoldPixels bits (take (place_count bits k) old) ys) (sym count) hold.hold in
    let now : HoldPixels bits (take (place_count bits (length ys)) new) (with_piece line.in_tile put.piece ys) = put.hold ys fits (omega (arith, room, count)) counted in (
      with_piece line.in_tile put.piece ys,
      record { count = len ∙ count; hold = subst (λ k. HoldPixels bits (take (place_count bits k) new) (with_piece line.in_tile put.piece ys)) count now },
    )

-- ---- the same, if PATCH shows its bytes

abbrev pub LinesLeftIf : Target → ℕ → Option (List ℕ) → List ℤ → List Line → List ℤ → Type 0
LinesLeftIf t tile given old left numbers =
    IfSome given (λ patch. (corner : List ℕ) (xs : List ℤ) → IsGivenTo corner patch t → HoldsPixels t.image.plan tile old xs → LinesAreLeft t corner patch tile xs left numbers)

module _ (t : Target) (tile : ℕ) (near : tile < tiles_in t.image.plan) where
  pub all_begin : NewNumbersAreGiven → NewNumbersStay → (given : Option (List ℕ)) (all : List Line) (numbers : List ℤ) → AreTileLengths (lengths_of t.image.plan.shape) (lengths_of t.image.plan.tile) →
      lines_in_tile all ≡ picks_in_tile (lengths_of t.image.plan.shape) (lengths_of t.image.plan.tile) t.sieve tile →
      lines_in_cutout all ≡ picks_in_cutout (lengths_of t.image.plan.shape) (lengths_of t.image.plan.tile) t.sieve tile →
      LinesLeftIf t tile given numbers all numbers
  all_begin are stay None all numbers lengths in_tile in_cutout = tt
  all_begin are stay (Some patch) all numbers lengths in_tile in_cutout = λ corner xs to hold. lines_begin are stay t corner patch tile xs all numbers lengths to near in_tile in_cutout hold

  pub all_step : (given : Option (List ℕ)) (line : Line) (left rest : List Line) (old now new : List ℤ) → left ≡ line ∷ rest → line.step ≡ 1 → IsLineWithin (pixels_of t.image.plan tile) (product (sieve_lengths t.sieve)) line →
      2 * pixels_of t.image.plan tile ≤ length now → HasPiece t line.in_tile line.in_cutout line.count given now new → LinesLeftIf t tile given old left now → LinesLeftIf t tile given old rest new
  all_step None line left rest old now new next one within room put was = tt
  all_step (Some patch) line left rest old now new next one within room put was = λ corner xs to hold. lines_step t corner patch tile xs line left rest now new next one within room to put (was corner xs to hold)

  pub all_over : BoxesHaveTheirPixels → (given : Option (List ℕ)) (left : List Line) (old now : List ℤ) → left ≡ [] → LinesLeftIf t tile given old left now →
      IfSome given (λ patch. (corner : List ℕ) (xs : List ℤ) → IsGivenTo corner patch t → HoldsPixels t.image.plan tile old xs → HoldsPixels t.image.plan tile now (new_numbers t.image.plan (given_at corner patch) tile xs))
  all_over boxes None left old now over was = tt
  all_over boxes (Some patch) left old now over was = λ corner xs to hold. lines_over boxes t corner patch tile xs left now over hold.count (was corner xs to hold)

-- ---- the first line of those that are left

pub line_first : (P : Line → Type 0) (line : Line) (left rest : List Line) → left ≡ line ∷ rest → AllByRecursion P left → P line × AllByRecursion P rest
line_first P line left rest next all = subst (AllByRecursion P) next all

pub line_ends : (line : Line) (n total : ℕ) → line.step ≡ 1 → IsLineWithin n total line → line.in_tile + line.count ≤ n
line_ends line n total one within =
    let steps : (line.count - 1) * line.step ≡ (line.count - 1) * 1 = ap (λ s. (line.count - 1) * s) one in
    omega (arith, steps, within.tile, within.some)
