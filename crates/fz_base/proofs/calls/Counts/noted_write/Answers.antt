use Rattle.std.proofs.Common.{None, arith, refl}
use Rattle.fz_base.specs.Counts.{store_tally}
use Rattle.fz_base.proofs.Amending.{fault_amends}
use Rattle.fz_base.proofs.calls.Counts.noted_write.Goals as goal

pub returns-in-Err-2 : goal.returns-in-Err-2
returns-in-Err-2 c =
    let e = c.write_fault.ensures in
    record {
      cause = fault_amends (store_tally None 0 c.args.self.now) (store_tally None 0 c.args.self.now) (store_tally None 0 c.write_fault.new.self) c.write_fault.result
          e.answer e.faults refl refl refl e.write_faults e.kept (omega (arith, e.wants)) (λ end. omega (arith, e.wants, end));
    }
