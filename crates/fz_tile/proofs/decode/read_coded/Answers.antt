-- The numbers of a code are looked at once more, and plain bytes are what they are in the other column.
use Rattle.std.proofs.Common.{◌≡◌, length, Err, rules, unsigned_abs}
use Rattle.std.specs.Int.{w32}
use Rattle.std.proofs.lemmas.Int.{to_z-of_z}
use Rattle.fz_tile.proofs.WordLemmas.{line_words}
use Rattle.fz_tile.proofs.DecodeLemmas.{line_reads, rice_reads, rice_refused, line_refused, err_reads}
use Rattle.fz_tile.proofs.decode.read_coded.Goals as goal

pub returns-in_err-read_rice-in-Rice : goal.returns-in_err-read_rice-in-Rice
returns-in_err-read_rice-in-Rice c =
    let fault = c.in_err-read_rice-in-Rice.field-0.0 in
    let is : c.from_residual.result ≡ Err fault = search rules in
    err_reads c.args.codec _ c.args.total _ _ c.args.code.now _ c.from_residual.result fault is
    (rice_refused c.args.codec c.args.bitpix c.in-Rice.block c.in-Rice.bytepix c.args.total (length c.args.numbers.now) c.args.code.now fault c.in-Rice.is c.requires.codec (c.in_err-read_rice-in-Rice.ensures (unsigned_abs c.args.bitpix)))

pub returns-in_err-read_line-in-Plio : goal.returns-in_err-read_line-in-Plio
returns-in_err-read_line-in-Plio c =
    let fault = c.in_err-read_line-in-Plio.field-0.0 in
    let is : c.from_residual-in_err-read_line-in-Plio.result ≡ Err fault = search rules in
    let e = c.in_err-read_line-in-Plio.ensures in
    err_reads c.args.codec _ c.args.total _ _ c.args.code.now _ c.from_residual-in_err-read_line-in-Plio.result fault is
    (line_refused c.args.codec c.args.bitpix c.args.total (length c.args.numbers.now) c.args.code.now fault c.in-Plio.is c.requires.codec e.0 e.1)

pub check_range-requires-clause-words : goal.check_range-requires-clause-words
check_range-requires-clause-words c = line_words (length c.args.numbers.now) c.args.code.now c.read_line.new.numbers c.in_ok-read_line-in-Plio.ensures

pub returns-in_ok-read_line-in-Plio : goal.returns-in_ok-read_line-in-Plio
returns-in_ok-read_line-in-Plio c =
    line_reads c.args.codec c.args.bitpix c.args.total (length c.args.numbers.now) c.args.code.now c.read_line.new.numbers c.check_range.result c.in-Plio.is c.requires.codec c.requires.code c.read_line.auto.numbers c.in_ok-read_line-in-Plio.ensures
    (rw (to_z-of_z w32 c.args.bitpix c.ranges.bitpix) at c.check_range.ensures)

pub returns-in_ok-read_rice-in-Rice : goal.returns-in_ok-read_rice-in-Rice
returns-in_ok-read_rice-in-Rice c =
    rice_reads c.args.codec c.args.bitpix c.in-Rice.block c.in-Rice.bytepix c.args.total (length c.args.numbers.now) c.args.code.now c.read_rice.new.numbers c.check_width.result c.in-Rice.is c.requires.codec c.requires.code c.read_rice.auto.numbers c.in_ok-read_rice-in-Rice.ensures
    (rw (to_z-of_z w32 c.args.bitpix c.ranges.bitpix) at c.check_width.ensures)

pub check_width-requires-clause-numbers : goal.check_width-requires-clause-numbers
check_width-requires-clause-numbers c = c.in_ok-read_rice-in-Rice.ensures.1.is_code.numbers
