-- Each is one of theirs.
use Rattle.fz_laws.proofs.outputs.cuts_laws.Goals as goal

pub returns : goal.returns
returns c =
    record {
      tables = c.table_law.ensures.accepted;
      stands = c.table_law.ensures.stands;
      become = c.packed_hdus_law.ensures.each;
      back = c.round_trip_law.ensures;
      one = c.one_first_fault_law.ensures;
      walks = c.walk_laws.ensures;
      whole = c.walk_law.ensures.whole;
    }
