-- The limit suffices for the greatest file.
use Rattle.std.proofs.Common.{◌≤◌, arith}
use Rattle.std.proofs.lemmas.Bool.Decides.{nat_tests}
use Rattle.fz_app.proofs.StrictFirst.{ample_is}
use Rattle.fz_app.proofs.comparing.is_ample.Goals as goal

pub returns : goal.returns
returns c = λ yes.
    let enough : 2149029632 ≤ c.args.limit = grind (arith, nat_tests, yes) in
    omega (arith, enough, ample_is)
