-- The tiles that were read are encoded.
use Rattle.std.proofs.Common.{◌≡◌, ℕ, ◌*◌, ◌+◌, OnOk, replicate, sym, ap, ◌∙◌, arith, rules}
use Rattle.std.proofs.lemmas.Result.{on_ok_weaker}
use Rattle.fz_pool.specs.Calls.{AreEncoded}
use Rattle.fz_pack.proofs.EncodedTiles.{encoded_tiles}
use Rattle.fz_pack.proofs.turns.encode_and_move.Goals as goal

pub returns-clause-encoded : goal.returns-clause-encoded
returns-clause-encoded g c =
    let l = c.args.writing.now.layout in
    let w = c.encode_beside-encoded.new.window in
    let n : ℕ = c.requires.first.0 in
    let workers : w.workers ≡ c.args.first.now.workers = c.encode_beside-encoded.ensures.kept.workers in
    let sizes = c.encode_beside-encoded.ensures.kept.sizes ∙ c.requires.first.1 ∙ ap (λ (k : ℕ). replicate {A = ℕ × ℕ} (2 * k) (2 * n, 8 * n + 64)) (sym workers) in
    let done : OnOk c.map_err.result (AreEncoded c.args.turn.loaded c.args.first.now.slots w.slots) = search rules in
    on_ok_weaker c.map_err.result (λ encoded. encoded_tiles l (g.S.Source.held c.args.source.now) (c.args.underway.now.progress.tiles + c.args.turn.coded) c.args.turn.loaded c.args.first.now w c.requires.can_move.layout
    c.sizes_law.ensures.many c.round_law.ensures.encoded c.column_law.ensures (n, sizes) (omega (arith, c.requires.few, workers)) c.requires.loaded encoded) done
