-- What is read of HDUs that were seen at the first look (FITS 4.0, sections 3.1 and 3.3.1).
use Rattle.std.specs.Prelude.{ℕ, List, Option}
use Rattle.fz_base.specs.Ranges.{LogsIn}
use Rattle.fz_block.specs.declared.header.Header.{Header}
use Rattle.fz_job.specs.declared.survey.Survey.{Survey}
use Rattle.fz_job.specs.Headers.{ranges_of_headers}
use Rattle.fz_job.specs.Known.{IsList}

-- their headers and nothing else
abbrev pub ReadsHeaders : List ℕ → Survey → Option (List (ℕ × ℕ)) → Option (List (ℕ × ℕ)) → Type 0
ReadsHeaders file s old new = (hs : List Header) → IsList file s hs → LogsIn (ranges_of_headers file hs) old new
