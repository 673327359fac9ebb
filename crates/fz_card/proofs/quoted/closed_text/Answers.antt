use Rattle.std.proofs.Common.{List, eqb, length, take, ap, sym, ◌∙◌, arith}
use Rattle.std.proofs.lemmas.List.{length-take}
use Rattle.std.specs.Prelude.{ℕ, Some}
use Rattle.fz_card.proofs.QuotedTexts.{take-cut_blanks, length-cut_blanks, closed_found}
use Rattle.fz_card.proofs.quoted.closed_text.Goals as goal

pub returns-then-is_empty-clause-function : goal.returns-then-is_empty-clause-function
returns-then-is_empty-clause-function c =
    let into = c.read_quoted.new.into in
    let front = take-cut_blanks c.in_ok-len.len into c.without_last_blanks.result.now c.without_last_blanks.ensures in
    let blank = sym (ap (λ (l : List ℕ). eqb (length l) 0) c.plain_text.ensures) ∙ (sym c.is_empty.ensures ∙ c.if-is_empty.true) in
    ap Some front ∙ sym (closed_found c.args.opened.now (take c.in_ok-len.len into) c.in_ok-len.behind.now c.in_ok-len.ensures.found blank)

pub returns-then-is_empty-clause-within : goal.returns-then-is_empty-clause-within
returns-then-is_empty-clause-within c =
    let into = c.read_quoted.new.into in
    omega (arith, ap length c.without_last_blanks.ensures, length-cut_blanks (take c.in_ok-len.len into), length-take {A = ℕ} c.in_ok-len.len into, c.in_ok-len.ensures.within)
