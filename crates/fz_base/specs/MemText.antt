-- What a text in memory is set to do in its calls.
use Rattle.std.specs.Prelude.{ℕ, List}
use Rattle.fz_base.specs.declared.mem_text.MemText.{MemText}

-- the numbers of the calls that fail
abbrev pub text_failing : MemText → List ℕ
text_failing t = t.calls.failing.items

-- how many calls there were
abbrev pub text_calls : MemText → ℕ
text_calls t = t.calls.next
