-- The search for the blocks says where its fault is.
use Rattle.std.proofs.Common.{rules, ◌≡◌, Err}
use Rattle.fz_block.specs.Checks.{header_blocks_of}
use Rattle.fz_flat.proofs.FrontLemmas.{place-within}
use Rattle.fz_flat.proofs.fronts.count_blocks.Goals as goal

pub returns-in-Err-Refused-clause-place : goal.returns-in-Err-Refused-clause-place
returns-in-Err-Refused-clause-place c =
    let e : header_blocks_of c.args.hdu 0 c.args.front.now ≡ Err c.in-Err-Refused.fault = search rules in
    place-within c.args.hdu c.args.front.now c.in-Err-Refused.fault e
