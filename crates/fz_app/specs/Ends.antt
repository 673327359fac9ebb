-- What source, sink, text and meter show before a job and after it.
use Rattle.std.specs.Prelude.{ℕ, ◌≡◌, Bool, List, Option}
use Rattle.fz_base.specs.Counts.{Tally}
use Rattle.fz_base.specs.Meter.{Gauge}
use Rattle.fz_files.specs.declared.job.Job.{Job}
use Rattle.fz_files.specs.declared.job.Job.TheVariants.{Pack, Unpack, Cut, Verify, List as ListHdus, Drill, Retile}

-- what a sink shows
pub record SinkIs : Type 0 where
  pub contents : Option (List ℕ)
  pub created : Bool
  pub finished : Bool
  pub tally : Tally

-- what a text shows
pub record TextIs : Type 0 where
  pub contents : Option (List ℕ)
  pub tally : Tally

-- what all of them show at one moment
pub record Ends : Type 0 where
  pub held : Option (List ℕ)
  pub ranges : Option (List (ℕ × ℕ))
  pub source : Tally
  pub sink : SinkIs
  pub text : TextIs
  pub meter : Gauge

-- a sink, a text, and all of them together, that show this
abbrev pub sink_is : Option (List ℕ) → Bool → Bool → Tally → SinkIs
sink_is contents created finished tally = record { contents = contents; created = created; finished = finished; tally = tally }

abbrev pub text_is : Option (List ℕ) → Tally → TextIs
text_is contents tally = record { contents = contents; tally = tally }

abbrev pub ends : Option (List ℕ) → Option (List (ℕ × ℕ)) → Tally → SinkIs → TextIs → Gauge → Ends
ends held ranges source sink text meter = record { held = held; ranges = ranges; source = source; sink = sink; text = text; meter = meter }

-- the sink is as before
abbrev pub IsSameSink : SinkIs → SinkIs → Type 0
IsSameSink old new = (new.created ≡ old.created) × (new.contents ≡ old.contents)

-- the counts of what a job writes to: of the sink, or of the text if it prints
abbrev pub written_counts : Job → Tally → Tally → Tally
written_counts (Pack options) sink text = sink
written_counts Unpack sink text = sink
written_counts (Cut wanted sieve) sink text = sink
written_counts Verify sink text = text
written_counts ListHdus sink text = text
written_counts (Drill rows) sink text = text
written_counts (Retile options) sink text = sink

-- these counts at an end
abbrev pub counts_written : Job → Ends → Tally
counts_written job ends = written_counts job ends.sink.tally ends.text.tally
