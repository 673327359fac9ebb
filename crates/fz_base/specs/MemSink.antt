-- What a sink in memory is set to do in its calls.
use Rattle.std.specs.Prelude.{ℕ, List}
use Rattle.fz_base.specs.declared.mem_sink.MemSink.{MemSink}

-- the numbers of the calls that fail
abbrev pub sink_failing : MemSink → List ℕ
sink_failing s = s.calls.failing.items

-- how many calls there were
abbrev pub sink_calls : MemSink → ℕ
sink_calls s = s.calls.next

-- how many bytes a failing write keeps
abbrev pub sink_keep : MemSink → ℕ
sink_keep s = s.keep
