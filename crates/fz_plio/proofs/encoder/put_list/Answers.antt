-- The line's list is as long as its words, and the header stands in front of them.
use Rattle.std.proofs.Common.{nat_abs, refl, arith}
use Rattle.std.proofs.lemmas.List.{length-map}
use Rattle.std.proofs.lemmas.Result.{err_from_is_err_and}
use Rattle.fz_plio.specs.Writing.{magnitudes}
use Rattle.fz_plio.proofs.LengthLemmas.{body_words_few, length-line_list}
use Rattle.fz_plio.proofs.ListLemmas.{headed}
use Rattle.fz_plio.proofs.encoder.put_list.Goals as goal

pub returns-in_err-put_line-clause-full : goal.returns-in_err-put_line-clause-full
returns-in_err-put_line-clause-full c =
    let p = err_from_is_err_and c.from_residual.result c.from_residual.ensures.1 in
    rw p.1 ((λ e. omega (arith, c.in_err-put_line.ensures.puts.full refl, length-line_list c.args.numbers.now)), (λ h. refl))

pub header-requires : goal.header-requires
header-requires c =
    let numbers = c.args.numbers.now in
    omega (arith, c.in_ok-put_line.ensures.puts.place, body_words_few 1 (magnitudes numbers), length-map numbers nat_abs)

pub returns-clause-len : goal.returns-clause-len
returns-clause-len c = omega (arith, c.in_ok-put_line.ensures.puts.place, length-line_list c.args.numbers.now)

pub returns-clause-list : goal.returns-clause-list
returns-clause-list c =
    let first = rw c.requires.at at c.in_ok-put_line.ensures.puts in
    let second = rw c.header.ensures at c.in_ok-put_words.ensures.puts in
    headed _ _ _ _ _ c.args.numbers.now _ _ first second

pub returns-clause-full : goal.returns-clause-full
returns-clause-full c =
    ((λ e. cc), (λ h. absurd (omega (arith, h, c.in_ok-put_line.ensures.puts.fits, length-line_list c.args.numbers.now))))
