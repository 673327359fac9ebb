use Rattle.std.proofs.Common.{pos, [], ◌∷◌, replicate, arith}
use Rattle.std.proofs.lemmas.List.Elements.{All-nil, All-cons, All-append, All-replicate}
use Rattle.fz_rice.specs.Numbers.{IsNumber}
use Rattle.fz_cases_codes.proofs.rice.codes_of_16_bits.Goals as goal

pub expect_code-requires-5-clause-numbers : goal.expect_code-requires-5-clause-numbers
expect_code-requires-5-clause-numbers g c =
    All-append (IsNumber 16) (replicate 32 (pos 10)) (pos 12 ∷ []) (All-replicate (IsNumber 16) 32 (pos 10) (omega arith)) (All-cons (IsNumber 16) (pos 12) [] (omega arith) (All-nil (IsNumber 16)))
