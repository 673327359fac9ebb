use Rattle.std.proofs.Common.{◌+◌, sym, ap}
use Rattle.fz_block.specs.Header.{data_start_of}
use Rattle.fz_block.proofs.HduLemmas.{StandsIn, blocks_of, its_header, its_payload, its_hdu}
use Rattle.fz_block.proofs.laws.hdu_law.Goals as goal

pub returns-clause-hdu : goal.returns-clause-hdu
returns-clause-hdu c = λ file header h facts place within.
    let stands : StandsIn file header h = record { facts = facts; place = place; within = within } in
    (its_header file header h stands, its_hdu file header h stands)

pub returns-clause-places : goal.returns-clause-places
returns-clause-places c = λ file header h facts within.
    (ap (λ n. h.start + n) (sym (blocks_of header h facts)), ap (λ n. data_start_of h + n) (sym (its_payload file h within)))
