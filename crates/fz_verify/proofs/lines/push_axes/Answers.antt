-- One more length stands at the end of the line.
use Rattle.std.proofs.Common.{◌≡◌, ℕ, ◌<◌, ◌≤◌, List, ◌++◌, length, take, slice_index, codes, decimal, sym, ap, ◌∙◌, arith, rules}
use Rattle.std.proofs.lemmas.List.{append_assoc}
use Rattle.fz_files.specs.Lines.{joined_lengths}
use Rattle.fz_grid.specs.Region.{lengths_of}
use Rattle.fz_verify.proofs.Lengths.{next_length}
use Rattle.fz_verify.proofs.lines.push_axes.Goals as goal

pub loop-i-preserved : goal.loop-i-preserved
loop-i-preserved c =
    let i : ℕ = c.loop-i.i in
    let axes = c.args.axes.now in
    let old : List ℕ = c.args.line.now.bytes in
    let those : List ℕ = joined_lengths (take i (lengths_of axes)) in
    let same : c.from-in-loop-i.result ≡ slice_index axes.len i = search rules in
    let some : 0 < i = omega arith in
    let few : i < axes.n = omega arith in
    let room : axes.n ≤ length axes.len = omega (arith, c.requires.few) in
    let said : c.push_number-in-loop-i.new.line.bytes ≡ c.push_str-in-loop-i.new.self.bytes ++ decimal (slice_index axes.len i) =
    c.push_number-in-loop-i.ensures.bytes ∙ ap (λ n. c.push_str-in-loop-i.new.self.bytes ++ decimal n) same in
    record {
      bytes = said
          ∙ ap (λ l. l ++ decimal (slice_index axes.len i)) (c.push_str-in-loop-i.ensures.bytes ∙ ap (λ l. l ++ codes "x") c.loop-i.invariant.bytes)
          ∙ append_assoc (old ++ those) (codes "x") (decimal (slice_index axes.len i))
          ∙ append_assoc old those (codes "x" ++ decimal (slice_index axes.len i))
          ∙ ap (λ l. old ++ l) (sym (next_length i axes.n axes.len some few room));
      room = search rules;
    }
