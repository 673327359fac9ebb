-- What is promised of a job, by what the traits of source, sink and text show of them.
use Rattle.std.specs.Prelude.{ℕ, ◌≡◌, ◌≤◌, Bool, List, [], Option, IfSome, Result, ⊤}
use Rattle.fz_base.specs.Counts.{Tally, nameless}
use Rattle.fz_base.specs.Meter.{Gauge}
use Rattle.fz_base.specs.declared.failure.Stop.{Stop}
use Rattle.fz_words.specs.Jobs.{Asked}
use Rattle.fz_app.specs.Ends.{Ends, SinkIs, TextIs, ends, sink_is, text_is}
use Rattle.fz_app.specs.Names.{JobNames}
use Rattle.fz_app.specs.Promised.{IsPromised}

-- a job that writes a file can begin: it has 1 to 64 workers, its sink is empty, and no buffer was taken yet
pub record CanBegin (n : ℕ) (contents : Option (List ℕ)) (meter : Gauge) : Type 0 where
  pub workers : (1 ≤ n) × (n ≤ 64)
  pub empty : IfSome contents (λ c. c ≡ [])
  pub unused : (meter.live ≡ 0) × (meter.peak ≡ 0)

-- what all ends show at one moment: of a source its bytes, its ranges and its counts, and of a sink whether it was created, its
-- contents, whether it was finished, and its counts
abbrev pub ends_of :
    {S K : Type 0} → (S → Option (List ℕ)) → (S → Option (List (ℕ × ℕ))) → (S → Tally) → (K → Bool) → (K → Option (List ℕ)) → (K → Bool) → (K → Tally)
    → S → K → TextIs → Gauge → Ends
ends_of held ranges reads created contents finished writes source sink text meter =
    ends (held source) (ranges source) (nameless (reads source)) (sink_is (contents sink) (created sink) (finished sink) (nameless (writes sink))) text meter

-- what is promised of a job that reads a source and writes a sink, while a text stays
abbrev pub IsPromisedOfWriting :
    {S K : Type 0} → (S → Option (List ℕ)) → (S → Option (List (ℕ × ℕ))) → (S → Tally) → (K → Bool) → (K → Option (List ℕ)) → (K → Bool) → (K → Tally)
    → TextIs → Asked → S → S → K → K → Gauge → Gauge → Result ⊤ Stop → Type 0
IsPromisedOfWriting held ranges reads created contents finished writes text asked source source' sink sink' meter meter' answer =
    IsPromised asked (ends_of held ranges reads created contents finished writes source sink text meter)
    (ends_of held ranges reads created contents finished writes source' sink' text meter') answer

-- what is promised of a job that reads a source and prints to a text, while a sink stays
abbrev pub IsPromisedOfPrinting :
    {S T : Type 0} → (S → Option (List ℕ)) → (S → Option (List (ℕ × ℕ))) → (S → Tally) → (T → Option (List ℕ)) → (T → Tally)
    → SinkIs → Asked → S → S → T → T → Gauge → Gauge → Result ⊤ Stop → Type 0
IsPromisedOfPrinting held ranges reads contents prints sink asked source source' text text' meter meter' answer =
    IsPromised asked (ends (held source) (ranges source) (nameless (reads source)) sink (text_is (contents text) (prints text)) meter)
    (ends (held source') (ranges source') (nameless (reads source')) sink (text_is (contents text') (prints text')) meter') answer

-- what a job that reads a source and writes a sink opens and makes is what the words name
abbrev pub IsNamedFor : {S K : Type 0} → (S → Tally) → (K → Tally) → Asked → S → S → K → K → Result ⊤ Stop → Type 0
IsNamedFor reads writes asked source source' sink sink' answer =
    JobNames asked (reads source).names (reads source').names (writes sink).names (writes sink').names answer

-- such a job does what is promised of it, whatever text stays, and opens and makes what the words name
pub record WritesAsAsked
    {S K : Type 0} (held : S → Option (List ℕ)) (ranges : S → Option (List (ℕ × ℕ))) (reads : S → Tally)
    (created : K → Bool) (contents : K → Option (List ℕ)) (finished : K → Bool) (writes : K → Tally) (asked : Asked) (source source' : S) (sink sink' : K)
    (meter meter' : Gauge) (answer : Result ⊤ Stop) : Type 0 where
  pub promised : (text : TextIs) → IsPromisedOfWriting held ranges reads created contents finished writes text asked source source' sink sink' meter
      meter' answer
  pub names : IsNamedFor reads writes asked source source' sink sink' answer
