-- The record is read from the mark on, and the pixels up to the end of a block are decoded.
use Rattle.std.proofs.Common.{◌≡◌, ℕ, ◌-◌, ◌<◌, ◌≤◌, ◌^◌, min, ℤ, List, length, take, Option, Some, IfSome, IfNone, sym, ap, subst, ◌∙◌, arith, rules, length-take}
use Rattle.fz_table.specs.declared.record.Record.{Record}
use Rattle.fz_table.specs.declared.record.Tile.{Tile}
use Rattle.fz_tile.specs.Parts.{AreWholeBlocks}
use Rattle.fz_files.specs.Restored.{pixels_of}
use Rattle.fz_pixels.specs.Marks.{part_start}
use Rattle.fz_pixels.specs.Parts.{IsStoredIn, blocksize_of}
use Rattle.fz_pixels.proofs.OneTile.{fetched_one, refused_told}
use Rattle.fz_pixels.proofs.PartLemmas.{block_is, decoded_in, next_marked, no_blocks, none_by_codec, none_read, none_stored, nothing_read, part_fetched, part_near, part_others, part_reach, rest_of, whole_blocks}
use Rattle.fz_pixels.proofs.parts.fetch_part.Goals as goal

-- ---- a codec without blocks

pub returns-in_default-clause-none : goal.returns-in_default-clause-none
returns-in_default-clause-none g c =
    none_by_codec (g.S.Source.held c.args.source.now) c.args.header.now c.args.image.now c.args.tile c.requires.said (no_blocks c.args.image.now.plan.codec (sym c.block_of.ensures ∙ c.in_default.is))

pub returns-in_default-clause-read : goal.returns-in_default-clause-read
returns-in_default-clause-read g c = nothing_read c.ranges_law.ensures.all (g.S.Source.held c.args.source.now) c.args.header.now c.args.tile (g.S.Source.ranges c.args.source.now)

-- ---- no record, or another one

pub returns-in_err-part-clause-fault : goal.returns-in_err-part-clause-fault
returns-in_err-part-clause-fault g c =
    refused_told (g.S.Source.held c.args.source.now) c.args.header.now c.args.image.now c.args.tile _ c.requires.said (search rules)

pub returns-in_err-part-clause-read : goal.returns-in_err-part-clause-read
returns-in_err-part-clause-read g c =
    fetched_one (g.S.Source.held c.args.source.now) c.args.header.now c.args.image.now c.args.tile (g.S.Source.ranges c.args.source.now) (g.S.Source.ranges c.read_code.new.source) c.requires.said c.read_code.ensures.read

pub returns-in_default-part-clause-none : goal.returns-in_default-part-clause-none
returns-in_default-part-clause-none g c =
    let held = g.S.Source.held c.args.source.now in
    let stored : IfSome held (λ file. IsStoredIn file c.args.header.now.hdu c.args.image.now c.args.tile) =
    subst (λ (o : Option Record). IfNone o (IfSome held (λ file. IsStoredIn file c.args.header.now.hdu c.args.image.now c.args.tile))) c.in_default-part.is c.in_ok-part.ensures.stored in
    none_stored held c.args.header.now c.args.image.now c.args.tile c.requires.said stored

pub returns-in_default-part-clause-read : goal.returns-in_default-part-clause-read
returns-in_default-part-clause-read g c =
    fetched_one (g.S.Source.held c.args.source.now) c.args.header.now c.args.image.now c.args.tile (g.S.Source.ranges c.args.source.now) (g.S.Source.ranges c.read_code.new.source) c.requires.said c.read_code.ensures.read

-- ---- what the calls ask for

pub slice_bounds-code-end : goal.slice_bounds-code-end
slice_bounds-code-end g c =
    let found : Record = c.in-Some-part.found in
    let room : found.read ≤ length c.read_code.new.code = subst (λ (o : Option Record). IfSome o (λ f. f.read ≤ length c.read_code.new.code)) c.in-Some-part.is c.in_ok-part.ensures.room in
    omega (arith, room)

pub block_end-last-requires-clause-block : goal.block_end-last-requires-clause-block
block_end-last-requires-clause-block g c = (block_is c.args.image.now.plan.codec c.in-Some.block c.requires.image.codec.codes (sym c.block_of.ensures ∙ c.in-Some.is)).0

pub block_end-last-requires-clause-end : goal.block_end-last-requires-clause-end
block_end-last-requires-clause-end g c =
    let pixels : c.known_tile.result.pixels ≡ pixels_of c.args.image.now.plan c.args.tile = ap (λ (k : Tile). k.pixels) c.known_tile.ensures.known in
    omega (arith, pixels, c.requires.end)

pub decode_between-requires-clause-small : goal.decode_between-requires-clause-small
decode_between-requires-clause-small g c =
    let held = g.S.Source.held c.args.source.now in
    let plan = c.args.image.now.plan in
    let found : Record = c.in-Some-part.found in
    let rest = rest_of held c.args.header.now.hdu c.args.image.now c.args.tile c.args.from c.in_ok-part.part found c.read_code.new.code c.in-Some-part.is c.in_ok-part.ensures.rest in
    let pixels : c.known_tile.result.pixels ≡ pixels_of plan c.args.tile = ap (λ (k : Tile). k.pixels) c.known_tile.ensures.known in
    let few : found.read ≤ 2 ^ 40 = omega (arith, rest.len, pixels, c.known_tile.ensures.most) in
    let long : length (take (found.read - c.bytes_before-skipped.result) c.read_code.new.code) ≡ min (found.read - c.bytes_before-skipped.result) (length c.read_code.new.code) =
    length-take (found.read - c.bytes_before-skipped.result) c.read_code.new.code in
    (omega (arith, long, few), omega (arith, few, c.bytes_before-skipped.ensures.most))

pub decode_between-requires-clause-numbers : goal.decode_between-requires-clause-numbers
decode_between-requires-clause-numbers g c =
    let pixels : c.known_tile.result.pixels ≡ pixels_of c.args.image.now.plan c.args.tile = ap (λ (k : Tile). k.pixels) c.known_tile.ensures.known in
    omega (arith, pixels, c.known_tile.ensures.no_larger, c.block_end-last.ensures.most, c.requires.numbers)

-- ---- the part

pub returns-clause-fetched : goal.returns-clause-fetched
returns-clause-fetched g c =
    let held = g.S.Source.held c.args.source.now in
    let h = c.args.header.now in
    let image = c.args.image.now in
    let t : ℕ = c.args.tile in
    let found : Record = c.in-Some-part.found in
    let skipped : ℕ = c.bytes_before-skipped.result in
    let last : ℕ = c.block_end-last.result in
    let buffer : List ℕ = c.read_code.new.code in
    let numbers : List ℤ = c.decode_between.new.numbers in
    let has : blocksize_of image.plan.codec ≡ Some c.in-Some.block = sym c.block_of.ensures ∙ c.in-Some.is in
    let pixels : c.known_tile.result.pixels ≡ pixels_of image.plan t = ap (λ (k : Tile). k.pixels) c.known_tile.ensures.known in
    let long : pixels_of image.plan t ≤ length numbers = omega (arith, c.known_tile.ensures.no_larger, c.requires.numbers, c.decode_between.ensures.len) in
    let d = decoded_in held h image t c.args.from c.in_ok-part.part found c.in-Some.block buffer skipped c.args.end last c.known_tile.result.pixels numbers c.decode_between.result
    c.requires.image.codec has c.requires.said c.requires.marked c.in-Some-part.is c.in_ok-part.ensures.rest c.bytes_before-skipped.ensures.count c.bytes_before-skipped.ensures.most
    c.requires.some c.block_end-last.ensures.reach c.block_end-last.ensures.most pixels long c.decode_between.ensures.part c.decode_between.ensures.range c.decode_between.ensures.end in
    part_fetched h image t c.args.from found (take (found.read - skipped) buffer) skipped last numbers held c.decode_between.result d

pub returns-clause-next : goal.returns-clause-next
returns-clause-next g c =
    let held = g.S.Source.held c.args.source.now in
    let h = c.args.header.now in
    let image = c.args.image.now in
    let t : ℕ = c.args.tile in
    let found : Record = c.in-Some-part.found in
    let skipped : ℕ = c.bytes_before-skipped.result in
    let last : ℕ = c.block_end-last.result in
    let buffer : List ℕ = c.read_code.new.code in
    let numbers : List ℤ = c.decode_between.new.numbers in
    let has : blocksize_of image.plan.codec ≡ Some c.in-Some.block = sym c.block_of.ensures ∙ c.in-Some.is in
    let pixels : c.known_tile.result.pixels ≡ pixels_of image.plan t = ap (λ (k : Tile). k.pixels) c.known_tile.ensures.known in
    let long : pixels_of image.plan t ≤ length numbers = omega (arith, c.known_tile.ensures.no_larger, c.requires.numbers, c.decode_between.ensures.len) in
    let d = decoded_in held h image t c.args.from c.in_ok-part.part found c.in-Some.block buffer skipped c.args.end last c.known_tile.result.pixels numbers c.decode_between.result
    c.requires.image.codec has c.requires.said c.requires.marked c.in-Some-part.is c.in_ok-part.ensures.rest c.bytes_before-skipped.ensures.count c.bytes_before-skipped.ensures.most
    c.requires.some c.block_end-last.ensures.reach c.block_end-last.ensures.most pixels long c.decode_between.ensures.part c.decode_between.ensures.range c.decode_between.ensures.end in
    let rice = block_is image.plan.codec c.in-Some.block c.requires.image.codec.codes has in
    let whole : last < pixels_of image.plan t → AreWholeBlocks image.plan.codec last =
    λ less. whole_blocks image.plan.codec c.in-Some.block rice.1.0 last rice.1.1 (c.block_end-last.ensures.whole (omega (arith, less, pixels))) in
    next_marked h image t c.args.from found (take (found.read - skipped) buffer) skipped last numbers held c.decode_between.result d whole

pub returns-clause-none : goal.returns-clause-none
returns-clause-none g c =
    let held = g.S.Source.held c.args.source.now in
    let h = c.args.header.now in
    let image = c.args.image.now in
    let t : ℕ = c.args.tile in
    let found : Record = c.in-Some-part.found in
    let skipped : ℕ = c.bytes_before-skipped.result in
    let last : ℕ = c.block_end-last.result in
    let buffer : List ℕ = c.read_code.new.code in
    let numbers : List ℤ = c.decode_between.new.numbers in
    let has : blocksize_of image.plan.codec ≡ Some c.in-Some.block = sym c.block_of.ensures ∙ c.in-Some.is in
    let pixels : c.known_tile.result.pixels ≡ pixels_of image.plan t = ap (λ (k : Tile). k.pixels) c.known_tile.ensures.known in
    let long : pixels_of image.plan t ≤ length numbers = omega (arith, c.known_tile.ensures.no_larger, c.requires.numbers, c.decode_between.ensures.len) in
    let d = decoded_in held h image t c.args.from c.in_ok-part.part found c.in-Some.block buffer skipped c.args.end last c.known_tile.result.pixels numbers c.decode_between.result
    c.requires.image.codec has c.requires.said c.requires.marked c.in-Some-part.is c.in_ok-part.ensures.rest c.bytes_before-skipped.ensures.count c.bytes_before-skipped.ensures.most
    c.requires.some c.block_end-last.ensures.reach c.block_end-last.ensures.most pixels long c.decode_between.ensures.part c.decode_between.ensures.range c.decode_between.ensures.end in
    none_read h image t c.args.from found (take (found.read - skipped) buffer) skipped last numbers held c.decode_between.result d

pub returns-clause-reach : goal.returns-clause-reach
returns-clause-reach g c =
    let pixels : c.known_tile.result.pixels ≡ pixels_of c.args.image.now.plan c.args.tile = ap (λ (k : Tile). k.pixels) c.known_tile.ensures.known in
    part_reach c.decode_between.result c.args.end c.block_end-last.result (pixels_of c.args.image.now.plan c.args.tile) c.decode_between.ensures.end c.block_end-last.ensures.reach (omega (arith, c.block_end-last.ensures.most, pixels))

pub returns-clause-near : goal.returns-clause-near
returns-clause-near g c =
    part_near c.args.image.now.plan.codec c.in-Some.block c.decode_between.result c.args.end c.block_end-last.result (sym c.block_of.ensures ∙ c.in-Some.is) c.decode_between.ensures.end c.block_end-last.ensures.near

pub returns-clause-places : goal.returns-clause-places
returns-clause-places g c =
    part_others c.decode_between.result (part_start c.args.from) c.block_end-last.result c.args.numbers.now c.decode_between.new.numbers c.decode_between.ensures.end c.decode_between.ensures.others

pub returns-clause-read : goal.returns-clause-read
returns-clause-read g c =
    fetched_one (g.S.Source.held c.args.source.now) c.args.header.now c.args.image.now c.args.tile (g.S.Source.ranges c.args.source.now) (g.S.Source.ranges c.read_code.new.source) c.requires.said c.read_code.ensures.read
