-- What a store in memory is set to do in its calls.
use Rattle.std.specs.Prelude.{ℕ, List}
use Rattle.fz_base.specs.declared.mem_store.MemStore.{MemStore}
use Rattle.fz_base.specs.declared.store.StoreEvent.{StoreEvent}

-- the numbers of the calls that fail
abbrev pub store_failing : MemStore → List ℕ
store_failing s = s.source.calls.failing.items

-- how many calls there were
abbrev pub store_calls : MemStore → ℕ
store_calls s = s.source.calls.next

-- how many bytes a failing write keeps
abbrev pub store_keep : MemStore → ℕ
store_keep s = s.keep

-- what was done to it, one after another: each write and each settling that succeeded
abbrev pub store_events : MemStore → List StoreEvent
store_events s = s.events.items
