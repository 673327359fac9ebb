use Rattle.std.proofs.Common.{length, map, sym, ap, ◌∙◌, take, arith}
use Rattle.std.proofs.lemmas.List.{length-map}
use Rattle.fz_block.specs.Walk.{hdu_of}
use Rattle.fz_block.proofs.Stops.{other_walk, never_stopped, stopped_after, first_hdus}
use Rattle.fz_block.proofs.Walks.{walked}
use Rattle.fz_block.proofs.laws.walk_law.Goals as goal

pub returns-clause-headers : goal.returns-clause-headers
returns-clause-headers c = λ judge most file hs is. let w = walked judge most 0 0 file hs (omega arith) is in (w.some, w.few, w.passed, (w.end, w.within, w.headers))

pub returns-clause-up_to : goal.returns-clause-up_to
returns-clause-up_to c = λ judge most file hs is.
    let w = walked judge most 0 0 file hs (omega arith) is in
    other_walk judge _ most 0 0 file hs is (stopped_after judge (length hs) 0 0 w.end file hs w.headers (omega arith))

pub returns-clause-begins : goal.returns-clause-begins
returns-clause-begins c = λ judge most file hs ks is two.
    let w = walked judge most 0 0 file hs (omega arith) is in
    ap (λ n. take n ks) (sym (length-map hs (hdu_of file))) ∙ first_hdus 0 (map (hdu_of file) hs) ks _ w.each two.each (w.parts ∙ sym two.parts)

pub returns-clause-whole : goal.returns-clause-whole
returns-clause-whole c = λ judge most file hs is never. other_walk judge _ most 0 0 file hs is (never_stopped judge hs never)
