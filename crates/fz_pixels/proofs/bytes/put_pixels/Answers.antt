-- The places of the pixels are a slice of the numbers, and their bytes go to a place of the code.
use Rattle.std.proofs.Common.{◌≡◌, ◌+◌, ◌-◌, ◌*◌, ◌/◌, ◌≤◌, ℤ, List, ◌++◌, length, take, drop, unsigned_abs, w32, of_z, to_z, sym, ap, subst, ◌∙◌, arith}
use Rattle.std.proofs.lemmas.Int.{to_z-of_z}
use Rattle.fz_tile.specs.Pixels.{HoldPixels, place_count}
use Rattle.fz_tile.specs.Plain.{plain_bytes}
use Rattle.fz_pixels.proofs.PixelBytes.{put_back_at, slice_end, slice_held}
use Rattle.fz_pixels.proofs.bytes.put_pixels.Goals as goal

pub slice_bounds-write_plain-end : goal.slice_bounds-write_plain-end
slice_bounds-write_plain-end c =
    let back : to_z w32 (of_z w32 c.args.bitpix) ≡ c.args.bitpix = to_z-of_z w32 c.args.bitpix c.ranges.bitpix in
    let end : c.place_count-end.result ≡ place_count (unsigned_abs c.args.bitpix) (c.args.from + c.args.count) = c.place_count-end.ensures.count ∙ ap (λ z. place_count (unsigned_abs z) (c.args.from + c.args.count)) back in
    let fits : c.place_count-end.result ≤ length c.args.numbers.now =
    slice_end (unsigned_abs c.args.bitpix) c.args.from c.args.count c.place_count-end.result c.args.numbers.now c.requires.pixels.0 c.requires.pixels.1 c.requires.pixels.2 end in
    omega (arith, fits)

pub write_plain-requires-clause-pixels : goal.write_plain-requires-clause-pixels
write_plain-requires-clause-pixels c =
    let back : to_z w32 (of_z w32 c.args.bitpix) ≡ c.args.bitpix = to_z-of_z w32 c.args.bitpix c.ranges.bitpix in
    let first : c.place_count-first.result ≡ place_count (unsigned_abs c.args.bitpix) c.args.from = c.place_count-first.ensures.count ∙ ap (λ z. place_count (unsigned_abs z) c.args.from) back in
    let end : c.place_count-end.result ≡ place_count (unsigned_abs c.args.bitpix) (c.args.from + c.args.count) = c.place_count-end.ensures.count ∙ ap (λ z. place_count (unsigned_abs z) (c.args.from + c.args.count)) back in
    let xs : List ℤ = c.requires.pixels.0 in (
      take c.args.count (drop c.args.from xs),
      subst (λ z. HoldPixels (unsigned_abs z) (take (c.place_count-end.result - c.place_count-first.result) (drop c.place_count-first.result c.args.numbers.now)) (take c.args.count (drop c.args.from xs))) (sym back)
          (slice_held c.slice_law.ensures.places (unsigned_abs c.args.bitpix) c.args.from c.args.count c.place_count-first.result c.place_count-end.result c.args.numbers.now xs c.requires.pixels.1 first end),
    )

pub returns-clause-bytes : goal.returns-clause-bytes
returns-clause-bytes c xs held within =
    let back : to_z w32 (of_z w32 c.args.bitpix) ≡ c.args.bitpix = to_z-of_z w32 c.args.bitpix c.ranges.bitpix in
    let first : c.place_count-first.result ≡ place_count (unsigned_abs c.args.bitpix) c.args.from = c.place_count-first.ensures.count ∙ ap (λ z. place_count (unsigned_abs z) c.args.from) back in
    let end : c.place_count-end.result ≡ place_count (unsigned_abs c.args.bitpix) (c.args.from + c.args.count) = c.place_count-end.ensures.count ∙ ap (λ z. place_count (unsigned_abs z) (c.args.from + c.args.count)) back in
    let size : c.plain_len-size.result ≡ unsigned_abs c.args.bitpix / 8 * c.args.count = c.plain_len-size.ensures ∙ ap (λ z. unsigned_abs z / 8 * c.args.count) back in
    let ys : List ℤ = take c.args.count (drop c.args.from xs) in
    let out : c.write_plain.new.out ≡ plain_bytes (unsigned_abs c.args.bitpix) ys =
    c.write_plain.ensures ys
    (subst (λ z. HoldPixels (unsigned_abs z) (take (c.place_count-end.result - c.place_count-first.result) (drop c.place_count-first.result c.args.numbers.now)) ys) (sym back)
    (slice_held c.slice_law.ensures.places (unsigned_abs c.args.bitpix) c.args.from c.args.count c.place_count-first.result c.place_count-end.result c.args.numbers.now xs held first end))
    ∙ ap (λ z. plain_bytes (unsigned_abs z) ys) back in
    put_back_at c.args.at c.plain_len-size.result c.args.code.now c.write_plain.new.out
    ∙ ap (λ l. take c.args.at c.args.code.now ++ (l ++ drop (c.args.at + c.plain_len-size.result) c.args.code.now)) out
    ∙ ap (λ n. take c.args.at c.args.code.now ++ (plain_bytes (unsigned_abs c.args.bitpix) ys ++ drop (c.args.at + n) c.args.code.now)) size
