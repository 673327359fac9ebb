use Rattle.std.proofs.Common.{sym, ◌∙◌, arith}
use Rattle.fz_block.specs.Checks.{unjudged}
use Rattle.fz_block.proofs.OneList.{one_list}
use Rattle.fz_block.proofs.Stops.{whole_parts, whole_headers}
use Rattle.fz_block.proofs.Walks.{walked}
use Rattle.fz_block.proofs.laws.hdu_list_law.Goals as goal

pub returns-clause-walk : goal.returns-clause-walk
returns-clause-walk c = λ most file hs is. let w = walked unjudged most 0 0 file hs (omega arith) is in record { parts = whole_parts 0 most file hs w; each = w.each }

pub returns-clause-headers : goal.returns-clause-headers
returns-clause-headers c = λ most file hs is. let w = walked unjudged most 0 0 file hs (omega arith) is in (w.some, w.few, whole_headers 0 0 most file hs w)

pub returns-clause-one : goal.returns-clause-one
returns-clause-one c = λ file hs ks one two. one_list 0 hs ks one.each two.each (one.parts ∙ sym two.parts)

pub returns-clause-converse : goal.returns-clause-converse
returns-clause-converse c = λ most file hs ks is two. let w = walked unjudged most 0 0 file hs (omega arith) is in one_list 0 ks _ two.each w.each (two.parts ∙ sym (whole_parts 0 most file hs w))
