use Rattle.std.proofs.Common.{◌≡◌, sym, subst, take, arith}
use Rattle.std.proofs.lemmas.Grind.{common_steps}
use Rattle.std.specs.Str.Parse.{AllDigits}
use Rattle.fz_table.specs.Forms.{first_digits}
use Rattle.fz_table.proofs.Digits.{front_digits}
use Rattle.fz_table.proofs.form.first_digits.Goals as goal

pub returns-in-Some-clause-digits : goal.returns-in-Some-clause-digits
returns-in-Some-clause-digits c =
    let text = c.args.text.now in
    let same : take c.in-Some.end text ≡ first_digits text = grind (arith, common_steps) in
    subst (AllDigits 10) (sym same) (front_digits text)

pub returns-in-None-clause-digits : goal.returns-in-None-clause-digits
returns-in-None-clause-digits c =
    let text = c.args.text.now in
    let same : text ≡ first_digits text = grind (arith, common_steps) in
    subst (AllDigits 10) (sym same) (front_digits text)
