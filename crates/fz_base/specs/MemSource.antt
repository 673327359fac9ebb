-- What a source in memory is set to do in its calls.
use Rattle.std.specs.Prelude.{ℕ, List}
use Rattle.fz_base.specs.declared.mem_source.MemSource.{MemSource}

-- the numbers of the calls that fail
abbrev pub source_failing : MemSource → List ℕ
source_failing s = s.calls.failing.items

-- how many calls there were
abbrev pub source_calls : MemSource → ℕ
source_calls s = s.calls.next
