-- The comparison by the options that were found is that by those which the headers of the file say.
use Rattle.std.proofs.Common.{◌≡◌, ℕ, inl, Bool, List, Option, Some, None, IfSome, Result, Ok, Err, sym, ap, ◌∙◌, subst}
use Rattle.std.specs.List.{filter}
use Rattle.fz_base.specs.Counts.{Tally}
use Rattle.fz_base.specs.Stop.{IfRefused, ReadsOnly, StoppedReading}
use Rattle.fz_base.specs.declared.failure.Stop.{Stop}
use Rattle.fz_base.specs.declared.failure.Stop.TheVariants.{Refused, ReadFault, WriteFault, OverLimit, NoMemory}
use Rattle.fz_block.specs.declared.header.Header.{Header}
use Rattle.fz_fetch.specs.Stops.{Fetches, StoppedFetching}
use Rattle.fz_files.specs.Restored.{is_image}
use Rattle.fz_files.specs.declared.job.Job.TheVariants.{Unpack, Verify}
use Rattle.fz_head.specs.declared.options.PackOptions.{PackOptions}
use Rattle.fz_job.specs.Clauses.{ComesLate, IsChanged}
use Rattle.fz_job.specs.Known.{IsKnown}
use Rattle.fz_job.specs.declared.survey.Survey.{Survey}
use Rattle.fz_strict.specs.FoundOptions.{found_options, options_of}
use Rattle.fz_strict.specs.Gathered.{FindsOptions}
use Rattle.fz_strict.specs.Rows.{ComparesFound, ComparesSeen, IsCompared}

found_is : (g : List ℕ) (hs : List Header) (s : Survey) (known : IsKnown Unpack g s) (o : PackOptions) → o ≡ options_of g (filter (is_image g) known.headers) → o ≡ found_options g
unfolding found_options
found_is g hs s known o is = is ∙ ap (λ l. options_of g (filter (is_image g) l)) (sym known.are)

pub found_compared : (held : Option (List ℕ)) (s : Survey) (o : PackOptions) (r : Result Bool Stop) → IfSome held (λ g. FindsOptions g s (Ok o)) → IfSome held (λ g. ComparesSeen o g s r) → IfSome held (λ g. ComparesFound g s r)
found_compared None s o r finds seen = tt
found_compared (Some g) s o r finds seen = λ known. subst (λ (q : PackOptions). IsCompared q g known.headers r) (found_is g known.headers s known o (finds known.headers known.seen)) (seen known)

-- the options were not found
stopped_by : (g : List ℕ) (s : Survey) (stop : Stop) → FindsOptions g s (Err stop) → ComparesFound g s (Err stop)
stopped_by g s (Refused x) finds = λ known. absurd (finds known.headers known.seen)
stopped_by g s ReadFault finds = λ known. tt
stopped_by g s WriteFault finds = λ known. tt
stopped_by g s (OverLimit live asked limit) finds = λ known. tt
stopped_by g s NoMemory finds = λ known. tt

pub stopped_compared : (held : Option (List ℕ)) (s : Survey) (stop : Stop) → IfSome held (λ g. FindsOptions g s (Err stop)) → IfSome held (λ g. ComparesFound g s (Err stop))
stopped_compared None s stop finds = tt
stopped_compared (Some g) s stop finds = stopped_by g s stop finds

pub changed_late : (stop : Stop) → IfRefused {X = PackOptions} (Err stop) IsChanged → IfRefused {X = Bool} (Err stop) (ComesLate Verify)
changed_late (Refused x) is = inl is
changed_late ReadFault is = tt
changed_late WriteFault is = tt
changed_late (OverLimit live asked limit) is = tt
changed_late NoMemory is = tt

reading_fetches : (before now : Tally) (stop : Stop) → StoppedReading before now stop → StoppedFetching before now stop
reading_fetches before now (Refused x) why = why
reading_fetches before now ReadFault why = why
reading_fetches before now WriteFault why = why
reading_fetches before now (OverLimit live asked limit) why = why
reading_fetches before now NoMemory why = tt

pub finds_fetch : (before now : Tally) (stop : Stop) → ReadsOnly {X = PackOptions} before now (Err stop) → Fetches {X = Bool} before now (Err stop)
finds_fetch before now stop reads = record { kept = reads.kept; ok = tt; stop = reading_fetches before now stop reads.stop }
