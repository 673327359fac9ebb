-- The tiles that the first slots have to be encoded are encoded.
use Rattle.std.proofs.Common.{◌≡◌, ℕ, ◌*◌, ◌+◌, OnOk, replicate, sym, ap, ◌∙◌, arith, rules}
use Rattle.std.proofs.lemmas.Result.{on_ok_weaker}
use Rattle.fz_pool.specs.Calls.{AreEncoded}
use Rattle.fz_image.proofs.EncodedTiles.{encoded_tiles}
use Rattle.fz_image.proofs.round.encode_loaded.Goals as goal

pub returns-clause-encoded : goal.returns-clause-encoded
returns-clause-encoded g c =
    let l = c.args.layout.now in
    let w = c.encode_window.new.window in
    let n : ℕ = c.requires.window.0 in
    let workers : w.workers ≡ c.args.window.now.workers = c.encode_window.ensures.kept.workers in
    let sizes = c.encode_window.ensures.kept.sizes ∙ c.requires.window.1 ∙ ap (λ (k : ℕ). replicate {A = ℕ × ℕ} (2 * k) (2 * n, 8 * n + 64)) (sym workers) in
    let done : OnOk c.map_err.result (AreEncoded c.args.count c.args.window.now.slots w.slots) = search rules in
    on_ok_weaker c.map_err.result (λ encoded. λ held loaded. encoded_tiles l held c.args.first c.args.count c.args.window.now w c.requires.layout
    c.sizes_law.ensures.many c.round_law.ensures.encoded c.column_law.ensures (n, sizes) (omega (arith, c.requires.near, workers)) loaded encoded) done
