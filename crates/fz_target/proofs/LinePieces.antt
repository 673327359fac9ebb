-- Pieces of a line of PATCH, one after another (FITS 4.0, sections 3.3.2 and 5.2).
use Rattle.std.proofs.Common.{◌≡◌, ℕ, ◌+◌, ◌*◌, ◌/◌, ◌≤◌, ℤ, List, [], ◌++◌, length, take, drop, Option, Some, None, refl, sym, ap, subst, ◌∙◌, arith}
use Rattle.std.specs.Prelude.{IfSome}
use Rattle.std.proofs.lemmas.List.{length-append, take-append-drop}
use Rattle.fz_base.specs.Source.{Reads}
use Rattle.fz_tile.specs.Laws.{SlicesPixels}
use Rattle.fz_tile.specs.Pixels.{HoldPixels, place_count}
use Rattle.fz_tile.specs.Plain.{stored_pixels}
use Rattle.fz_files.specs.Packed.{pixel_bits}
use Rattle.fz_target.specs.Tiles.{HasPiece, given_pixels, with_piece}
use Rattle.fz_target.specs.declared.target.Target.{Target}
use Rattle.fz_target.proofs.Pieces.{count_twice, held_piece, stored_front, stored_len, stored_more, with_both, with_len}

module _ (t : Target) (to from : ℕ) where
  -- none yet
  pub piece_none : (given : Option (List ℕ)) (ns : List ℤ) → HasPiece t to from 0 given ns ns
  piece_none given ns = record {
    piece = [];
    count_is = refl;
    are = by_patch given;
    hold = λ xs within room held. subst (HoldPixels (pixel_bits t.image.plan) (take (place_count (pixel_bits t.image.plan) (length xs)) ns)) (sym (same xs)) held;
  }
    where
      by_patch : (given : Option (List ℕ)) → IfSome given (λ patch. [] ≡ given_pixels t from 0 patch)
      by_patch None = tt
      by_patch (Some patch) = refl

      same : (xs : List ℤ) → with_piece to [] xs ≡ xs
      same xs =
          let all : to + 0 ≡ to = omega arith in
          ap (λ n. take to xs ++ drop n xs) all ∙ take-append-drop to xs

  -- and one more
  pub piece_more : (m k : ℕ) (given : Option (List ℕ)) (old mid new : List ℤ) → HasPiece t to from m given old mid → HasPiece t (to + m) (from + m) k given mid new → length mid ≡ length old →
      HasPiece t to from (m + k) given old new
  piece_more m k given old mid new first second long = record {
    piece = first.piece ++ second.piece;
    count_is = omega (arith, length-append first.piece second.piece, first.count_is, second.count_is);
    are = by_patch given first.are second.are;
    hold = λ xs within room held.
        let bits : ℕ = pixel_bits t.image.plan in
        let ys : List ℤ = with_piece to first.piece xs in
        let fits : to + length first.piece ≤ length xs = omega (arith, within, first.count_is) in
        let count : length ys ≡ length xs = with_len to first.piece xs fits in
        let one : HoldPixels bits (take (place_count bits (length xs)) mid) ys = first.hold xs (omega (arith, within)) room held in
        let two : HoldPixels bits (take (place_count bits (length ys)) new) (with_piece (to + m) second.piece ys) =
        second.hold ys (omega (arith, within, count)) (omega (arith, room, count, long)) (subst (λ n. HoldPixels bits (take (place_count bits n) mid) ys) (sym count) one)
        in
        let place : to + m ≡ to + length first.piece = omega (arith, first.count_is) in
        let both : with_piece (to + m) second.piece ys ≡ with_piece to (first.piece ++ second.piece) xs = ap (λ n. with_piece n second.piece ys) place ∙ with_both to first.piece second.piece xs fits in
        subst (HoldPixels bits (take (place_count bits (length xs)) new)) both (subst (λ n. HoldPixels bits (take (place_count bits n) new) (with_piece (to + m) second.piece ys)) count two);
  }
    where
      further : (w at from m : ℕ) → at + w * (from + m) ≡ at + w * from + w * m
      further w at from m = grind arith

      by_patch : (given : Option (List ℕ)) → IfSome given (λ patch. first.piece ≡ given_pixels t from m patch) → IfSome given (λ patch. second.piece ≡ given_pixels t (from + m) k patch) →
          IfSome given (λ patch. first.piece ++ second.piece ≡ given_pixels t from (m + k) patch)
      by_patch None one two = tt
      by_patch (Some patch) one two =
          let bits : ℕ = pixel_bits t.image.plan in
          let w : ℕ = bits / 8 in
          let next : given_pixels t (from + m) k patch ≡ stored_pixels bits k (drop (t.pixels_at + w * from + w * m) patch) = ap (λ n. stored_pixels bits k (drop n patch)) (further w t.pixels_at from m) in
          (λ j. one j ++ (two ∙ next) j) ∙ sym (stored_more bits m k (t.pixels_at + w * from) patch)

  -- bytes that were read are a piece
  pub one_piece : SlicesPixels → (count : ℕ) (given : Option (List ℕ)) (old new ms : List ℤ) (bytes : List ℕ) → length bytes ≡ pixel_bits t.image.plan / 8 * count →
      Reads given (t.pixels_at + pixel_bits t.image.plan / 8 * from) bytes → HoldPixels (pixel_bits t.image.plan) ms (stored_pixels (pixel_bits t.image.plan) count bytes) →
      new ≡ take (place_count (pixel_bits t.image.plan) to) old ++ (ms ++ drop (place_count (pixel_bits t.image.plan) (to + count)) old) → HasPiece t to from count given old new
  one_piece slices count given old new ms bytes long read held is = record {
    piece = zs;
    count_is = zs_len;
    are = by_patch given read;
    hold = λ xs within room was.
        let all = count_twice bits (length xs) in
        let last : place_count bits (to + count) ≡ place_count bits (to + length zs) = ap (λ n. place_count bits (to + n)) (sym zs_len) in
        held_piece bits to old ms new xs zs (omega (arith, within, zs_len)) was held (omega (arith, all, room))
        (is ∙ ap (λ n. take (place_count bits to) old ++ (ms ++ drop n old)) last);
  }
    where
      bits : ℕ
      bits = pixel_bits t.image.plan

      zs : List ℤ
      zs = stored_pixels bits count bytes

      zs_len : length zs ≡ count
      zs_len = stored_len bits count bytes

      by_patch : (given : Option (List ℕ)) → Reads given (t.pixels_at + bits / 8 * from) bytes → IfSome given (λ patch. zs ≡ given_pixels t from count patch)
      by_patch None came = tt
      by_patch (Some patch) came =
          ap (stored_pixels bits count) (came ∙ ap (λ n. take n (drop (t.pixels_at + bits / 8 * from) patch)) long)
          ∙ stored_front slices bits count (drop (t.pixels_at + bits / 8 * from) patch)
