use Rattle.fz_rice.proofs.MarkLemmas.{holds_last, are_numbers, whole_before, leads_on, is_front, are_next, never_stops, has_start, reads_on_in_all, stops_in_all}
use Rattle.fz_rice.proofs.laws.marks_law.Goals as goal

pub returns-clause-last : goal.returns-clause-last
returns-clause-last c = holds_last c.number_law.ensures

pub returns-clause-numbers : goal.returns-clause-numbers
returns-clause-numbers c = are_numbers

pub returns-clause-whole : goal.returns-clause-whole
returns-clause-whole c = whole_before c.number_law.ensures

pub returns-clause-on : goal.returns-clause-on
returns-clause-on c = leads_on

pub returns-clause-front : goal.returns-clause-front
returns-clause-front c = is_front c.number_law.ensures

pub returns-clause-next : goal.returns-clause-next
returns-clause-next c = are_next c.number_law.ensures

pub returns-clause-never : goal.returns-clause-never
returns-clause-never c = never_stops c.number_law.ensures

pub returns-clause-start : goal.returns-clause-start
returns-clause-start c = has_start c.number_law.ensures

pub returns-clause-moved : goal.returns-clause-moved
returns-clause-moved c = reads_on_in_all c.number_law.ensures c.bytes_law.ensures.eight

pub returns-clause-moved_stop : goal.returns-clause-moved_stop
returns-clause-moved_stop c = stops_in_all c.number_law.ensures
