-- The last block follows those that were read.
use Rattle.std.proofs.Common.{◌≡◌, ℕ, ◌-◌, List, ◌++◌, Option, length, take, sym, subst, ap, ◌∙◌, rules, arith}
use Rattle.std.proofs.lemmas.List.{length-take-le}
use Rattle.fz_base.specs.Source.{Reads}
use Rattle.fz_block.proofs.Kept.{always_answered, reads_on}
use Rattle.fz_block.proofs.next.read_before.Goals as goal

pub returns-clause-read : goal.returns-clause-read
returns-clause-read g c =
    let held : Option (List ℕ) = g.S.Source.held c.args.source.now in
    let before : ℕ = length c.args.buf.now - 2880 in
    let buf : List ℕ = c.read_front.new.buf in
    let front : List ℕ = take before buf in
    let block : List ℕ = c.args.block.now in
    let long : length front ≡ before = length-take-le before buf (omega (arith, c.read_front.ensures.len)) in
    let read : Reads held c.args.start front = search rules in
    let same : c.put_last.new.buf ≡ front ++ block = c.put_last.ensures ∙ ap (λ n. take (n - 2880) buf ++ block) c.read_front.ensures.len in
    always_answered _ (subst (Reads held c.args.start) (sym same) (reads_on held c.args.start before front block long read c.requires.last))
