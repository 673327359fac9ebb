use Rattle.std.proofs.Common.{rules, ℕ, ◌*◌, ◌∙◌, ap, length}
use Rattle.std.proofs.lemmas.List.{length-replicate}
use Rattle.fz_pool.proofs.WindowLemmas.{refused_first, refused_then}
use Rattle.fz_pool.proofs.filling.take_slot.Goals as goal

pub returns-in-Err-clause-refused : goal.returns-in-Err-clause-refused
returns-in-Err-clause-refused c = let m = c.requires in let e = c.in-Err.ensures in
    refused_first c.args.meter.now _ c.args.n c.in-Err.refused m.0 m.1 (search rules) e.unchanged

pub returns-in-Err-bytes-clause-refused : goal.returns-in-Err-bytes-clause-refused
returns-in-Err-bytes-clause-refused c = let m = c.requires in let o = c.in-Ok.ensures in let e = c.in-Err-bytes.ensures in
    refused_then c.args.meter.now _ _ _ c.args.n (length c.in-Ok.numbers) c.in-Err-bytes.short (search rules) (search rules) (search rules) e.unchanged (ap length o.numbers ∙ (length-replicate _ _ ∙ ap (λ (k : ℕ). 2 * k) c.from-n.ensures)) c.give_numbers.ensures
