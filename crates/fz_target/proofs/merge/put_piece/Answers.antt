-- The bytes of the pixels are read, and their numbers put between those before them and those after them.
use Rattle.std.proofs.Common.{◌≡◌, ℕ, ◌+◌, ◌-◌, ◌*◌, ◌/◌, ◌≤◌, ℤ, List, ◌++◌, length, take, drop, unsigned_abs, w32, of_z, to_z, Option, refl, sym, ap, subst, ◌∙◌, arith, rules, length-take-le}
use Rattle.fz_base.specs.Source.{MayLog, Reads}
use Rattle.fz_tile.specs.Pixels.{HoldPixels, HoldWhole, IsBitpix, pixel_count, place_count}
use Rattle.fz_tile.specs.Plain.{stored_pixels}
use Rattle.fz_target.proofs.GivenRead.{piece_read, read_logs}
use Rattle.fz_target.proofs.LinePieces.{one_piece}
use Rattle.fz_target.proofs.LineReads.{back_of, places_slice, put_back, size_few, size_is, slice_pixels, slice_whole}
use Rattle.fz_target.proofs.Pieces.{count_both}
use Rattle.fz_target.proofs.merge.put_piece.Goals as goal

pub read_plain-requires-clause-size : goal.read_plain-requires-clause-size
read_plain-requires-clause-size g c =
    let bitpix : ℤ = c.args.target.now.image.plan.bitpix in
    let is : IsBitpix bitpix = c.requires.target.readable.codec.size in
    let back : to_z w32 (of_z w32 bitpix) ≡ bitpix = back_of bitpix is in
    subst IsBitpix (sym back) is

pub read_plain-requires-clause-whole : goal.read_plain-requires-clause-whole
read_plain-requires-clause-whole g c =
    let bitpix : ℤ = c.args.target.now.image.plan.bitpix in
    let is : IsBitpix bitpix = c.requires.target.readable.codec.size in
    let back : to_z w32 (of_z w32 bitpix) ≡ bitpix = back_of bitpix is in
    let bits : ℕ = unsigned_abs bitpix in
    let to : ℕ = c.args.to in
    let count : ℕ = c.args.count in
    let ns : List ℤ = c.args.numbers.now in
    let first : c.place_count-first.result ≡ place_count bits to = c.place_count-first.ensures.count ∙ ap (λ (z : ℤ). place_count (unsigned_abs z) to) back in
    let end : c.place_count-end.result ≡ place_count bits (to + count) = c.place_count-end.ensures.count ∙ ap (λ (z : ℤ). place_count (unsigned_abs z) (to + count)) back in
    let places : List ℤ = take (c.place_count-end.result - c.place_count-first.result) (drop c.place_count-first.result ns) in
    let whole : length places ≡ place_count bits count = places_slice bits to count c.place_count-first.result c.place_count-end.result ns first end c.requires.there.1 in
    subst (λ (z : ℤ). HoldWhole (unsigned_abs z) (length places)) (sym back) (slice_whole bits count (length places) whole)

pub read_plain-requires-clause-len : goal.read_plain-requires-clause-len
read_plain-requires-clause-len g c =
    let bitpix : ℤ = c.args.target.now.image.plan.bitpix in
    let is : IsBitpix bitpix = c.requires.target.readable.codec.size in
    let back : to_z w32 (of_z w32 bitpix) ≡ bitpix = back_of bitpix is in
    let bits : ℕ = unsigned_abs bitpix in
    let to : ℕ = c.args.to in
    let count : ℕ = c.args.count in
    let ns : List ℤ = c.args.numbers.now in
    let first : c.place_count-first.result ≡ place_count bits to = c.place_count-first.ensures.count ∙ ap (λ (z : ℤ). place_count (unsigned_abs z) to) back in
    let end : c.place_count-end.result ≡ place_count bits (to + count) = c.place_count-end.ensures.count ∙ ap (λ (z : ℤ). place_count (unsigned_abs z) (to + count)) back in
    let places : List ℤ = take (c.place_count-end.result - c.place_count-first.result) (drop c.place_count-first.result ns) in
    let whole : length places ≡ place_count bits count = places_slice bits to count c.place_count-first.result c.place_count-end.result ns first end c.requires.there.1 in
    let size : c.plain_len-size.result ≡ bits / 8 = size_is bitpix c.plain_len-size.result is c.plain_len-size.ensures in
    let bytes : List ℕ = c.read_at.new.into in
    let filled : length bytes ≡ c.plain_len-size.result * count = search rules in
    let long : length bytes ≡ bits / 8 * count = filled ∙ ap (λ n. n * count) size in
    let pixels : pixel_count bits (length places) ≡ count = slice_pixels bits count (length places) whole in
    subst (λ (z : ℤ). length bytes ≡ unsigned_abs z / 8 * pixel_count (unsigned_abs z) (length places)) (sym back) (long ∙ ap (λ n. bits / 8 * n) (sym pixels))

pub returns-clause-piece : goal.returns-clause-piece
returns-clause-piece g c =
    let t = c.args.target.now in
    let held = g.S.Source.held c.args.patch.now in
    let bitpix : ℤ = c.args.target.now.image.plan.bitpix in
    let is : IsBitpix bitpix = c.requires.target.readable.codec.size in
    let back : to_z w32 (of_z w32 bitpix) ≡ bitpix = back_of bitpix is in
    let bits : ℕ = unsigned_abs bitpix in
    let to : ℕ = c.args.to in
    let count : ℕ = c.args.count in
    let ns : List ℤ = c.args.numbers.now in
    let first : c.place_count-first.result ≡ place_count bits to = c.place_count-first.ensures.count ∙ ap (λ (z : ℤ). place_count (unsigned_abs z) to) back in
    let end : c.place_count-end.result ≡ place_count bits (to + count) = c.place_count-end.ensures.count ∙ ap (λ (z : ℤ). place_count (unsigned_abs z) (to + count)) back in
    let places : List ℤ = take (c.place_count-end.result - c.place_count-first.result) (drop c.place_count-first.result ns) in
    let whole : length places ≡ place_count bits count = places_slice bits to count c.place_count-first.result c.place_count-end.result ns first end c.requires.there.1 in
    let size : c.plain_len-size.result ≡ bits / 8 = size_is bitpix c.plain_len-size.result is c.plain_len-size.ensures in
    let bytes : List ℕ = c.read_at.new.into in
    let filled : length bytes ≡ c.plain_len-size.result * count = search rules in
    let long : length bytes ≡ bits / 8 * count = filled ∙ ap (λ n. n * count) size in
    let pixels : pixel_count bits (length places) ≡ count = slice_pixels bits count (length places) whole in
    let came : Reads held (t.pixels_at + c.plain_len-size.result * c.args.from) bytes = search rules in
    let read : Reads held (t.pixels_at + bits / 8 * c.args.from) bytes = subst (λ n. Reads held (t.pixels_at + n * c.args.from) bytes) size came in
    let ms : List ℤ = c.read_plain.new.numbers in
    let put : HoldPixels bits ms (stored_pixels bits (pixel_count bits (length places)) bytes) =
    subst (λ (z : ℤ). HoldPixels (unsigned_abs z) ms (stored_pixels (unsigned_abs z) (pixel_count (unsigned_abs z) (length places)) bytes)) back c.read_plain.ensures.pixels
    in
    let all : HoldPixels bits ms (stored_pixels bits count bytes) = subst (λ n. HoldPixels bits ms (stored_pixels bits n bytes)) pixels put in
    one_piece t to c.args.from c.slice_law.ensures.pixels count held ns _ ms bytes long read all
    (put_back c.place_count-first.result c.place_count-end.result ns ms (omega (arith, first, end, count_both bits to count))
    ∙ (λ i. take (first i) ns ++ (ms ++ drop (end i) ns)))

-- ---- what is read

pub returns-in_err-map_err-clause-pixels_read : goal.returns-in_err-map_err-clause-pixels_read
returns-in_err-map_err-clause-pixels_read g c =
    let t = c.args.target.now in
    let bitpix : ℤ = t.image.plan.bitpix in
    let is : IsBitpix bitpix = c.requires.target.readable.codec.size in
    let size : c.plain_len-size.result ≡ unsigned_abs bitpix / 8 = size_is bitpix c.plain_len-size.result is c.plain_len-size.ensures in
    let few = size_few bitpix is in
    let at : ℕ = t.pixels_at + c.plain_len-size.result * c.args.from in
    let part : List ℕ = take (c.plain_len-size.result * c.args.count) c.args.copy.now in
    let len : ℕ = length part in
    let filled : len ≡ c.plain_len-size.result * c.args.count =
    length-take-le (c.plain_len-size.result * c.args.count) c.args.copy.now (omega (arith, c.requires.room, ap (λ n. n * c.args.count) size)) in
    let old : Option (List (ℕ × ℕ)) = g.S.Source.ranges c.args.patch.now in
    let new : Option (List (ℕ × ℕ)) = g.S.Source.ranges c.read_at.new.self in
    let may : MayLog at len old new = read_logs c.read_at.result at len old new c.read_at.ensures.logged c.read_at.ensures.log_err in
    piece_read c.log_law.ensures.one t c.plain_len-size.result c.args.from c.args.count at len old new size (omega (arith, size, few.0)) c.requires.some c.requires.here refl filled may

pub returns-clause-pixels_read : goal.returns-clause-pixels_read
returns-clause-pixels_read g c =
    let t = c.args.target.now in
    let bitpix : ℤ = t.image.plan.bitpix in
    let is : IsBitpix bitpix = c.requires.target.readable.codec.size in
    let size : c.plain_len-size.result ≡ unsigned_abs bitpix / 8 = size_is bitpix c.plain_len-size.result is c.plain_len-size.ensures in
    let few = size_few bitpix is in
    let at : ℕ = t.pixels_at + c.plain_len-size.result * c.args.from in
    let part : List ℕ = take (c.plain_len-size.result * c.args.count) c.args.copy.now in
    let len : ℕ = length part in
    let filled : len ≡ c.plain_len-size.result * c.args.count =
    length-take-le (c.plain_len-size.result * c.args.count) c.args.copy.now (omega (arith, c.requires.room, ap (λ n. n * c.args.count) size)) in
    let old : Option (List (ℕ × ℕ)) = g.S.Source.ranges c.args.patch.now in
    let new : Option (List (ℕ × ℕ)) = g.S.Source.ranges c.read_at.new.self in
    let may : MayLog at len old new = read_logs c.read_at.result at len old new c.read_at.ensures.logged c.read_at.ensures.log_err in
    piece_read c.log_law.ensures.one t c.plain_len-size.result c.args.from c.args.count at len old new size (omega (arith, size, few.0)) c.requires.some c.requires.here refl filled may
