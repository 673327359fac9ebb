-- Each column by itself.
use Rattle.std.proofs.Common.{length, unsigned_abs, inl, sym, subst}
use Rattle.std.specs.Int.{w32}
use Rattle.std.proofs.lemmas.Int.{to_z-of_z}
use Rattle.fz_tile.specs.declared.coded.Place2.{Place2}
use Rattle.fz_tile.specs.Pixels.{pixel_count}
use Rattle.fz_tile.specs.Coding.{Reads}
use Rattle.fz_tile.proofs.DecodeLemmas.{stored_reads, pixels_clause, ok_clause, fault_clause}
use Rattle.fz_tile.proofs.decode.decode_tile.Goals as goal

-- what was read of a tile that is stored
stored : (c : goal.After-numbers-1) → Reads c.args.codec (unsigned_abs c.args.bitpix) c.args.place c.args.total c.args.code.now (pixel_count (unsigned_abs c.args.bitpix) (length c.args.numbers.now)) c.read_stored.result c.read_stored.new.numbers
stored c =
    let bitpix = c.args.bitpix in
    stored_reads c.args.codec bitpix c.args.place c.args.total _ c.args.code.now c.read_stored.new.numbers c.read_stored.result c.requires.codec (inl c.in-Stored.is) c.requires.code
    (rw (to_z-of_z w32 bitpix c.ranges.bitpix) at c.read_stored.ensures)

pub returns-in-Stored-clause-pixels : goal.returns-in-Stored-clause-pixels
returns-in-Stored-clause-pixels c = pixels_clause c.args.codec _ c.args.total _ c.args.place c.args.code.now _ _ (stored c)

pub returns-in-Stored-clause-ok : goal.returns-in-Stored-clause-ok
returns-in-Stored-clause-ok c = ok_clause c.one_fault_law.ensures.none c.one_fault_law.ensures.one c.args.codec c.args.bitpix c.args.total _ c.args.place c.args.code.now _ _ c.requires.codec (stored c)

pub returns-in-Stored-clause-fault : goal.returns-in-Stored-clause-fault
returns-in-Stored-clause-fault c = fault_clause c.one_fault_law.ensures.none c.one_fault_law.ensures.one c.args.codec c.args.bitpix c.args.total _ c.args.place c.args.code.now _ _ c.requires.codec (stored c)

-- and of one that is coded
coded : (c : goal.After-numbers-in-Coded-1) → Reads c.args.codec (unsigned_abs c.args.bitpix) c.args.place c.args.total c.args.code.now (pixel_count (unsigned_abs c.args.bitpix) (length c.args.numbers.now)) c.read_coded.result c.read_coded.new.numbers
coded c =
    let bitpix = c.args.bitpix in
    let reads = rw (to_z-of_z w32 bitpix c.ranges.bitpix) at c.read_coded.ensures in
    subst (λ (place : Place2). Reads c.args.codec (unsigned_abs bitpix) place c.args.total c.args.code.now (pixel_count (unsigned_abs bitpix) (length c.args.numbers.now)) c.read_coded.result c.read_coded.new.numbers) (sym c.in-Coded.is) reads

pub returns-in-Coded-clause-pixels : goal.returns-in-Coded-clause-pixels
returns-in-Coded-clause-pixels c = pixels_clause c.args.codec _ c.args.total _ c.args.place c.args.code.now _ _ (coded c)

pub returns-in-Coded-clause-ok : goal.returns-in-Coded-clause-ok
returns-in-Coded-clause-ok c = ok_clause c.one_fault_law.ensures.none c.one_fault_law.ensures.one c.args.codec c.args.bitpix c.args.total _ c.args.place c.args.code.now _ _ c.requires.codec (coded c)

pub returns-in-Coded-clause-fault : goal.returns-in-Coded-clause-fault
returns-in-Coded-clause-fault c = fault_clause c.one_fault_law.ensures.none c.one_fault_law.ensures.one c.args.codec c.args.bitpix c.args.total _ c.args.place c.args.code.now _ _ c.requires.codec (coded c)
