-- The job that makes some checks: what it can have, how many HDUs a file may have for it, and what it says of one (FITS 4.0,
-- section 10.1).
use Rattle.std.specs.Prelude.{ℕ, List, ⊤}
use Rattle.fz_block.specs.Checks.{Judge, unjudged}
use Rattle.fz_checks.specs.JobChecks.{IsBox}
use Rattle.fz_checks.specs.Judges.{pack_judge, unpack_judge, cut_judge, amend_judge}
use Rattle.fz_head.specs.Planned.{AreOptions}
use Rattle.fz_job.specs.declared.checks.JobChecks.{JobChecks}
use Rattle.fz_job.specs.declared.checks.JobChecks.TheVariants.{Pack, Unpack, Cut, Amend, Every}

-- options and a box that a job can have
abbrev pub AreChecks : JobChecks → Type 0
AreChecks (Pack o) = AreOptions o
AreChecks Unpack = ⊤
AreChecks (Cut wanted region) = IsBox region
AreChecks (Amend wanted) = ⊤
AreChecks Every = ⊤

-- how many HDUs a file may have: one that is packed has room for an empty primary
abbrev pub most_hdus : JobChecks → ℕ
most_hdus (Pack o) = 65535
most_hdus Unpack = 65536
most_hdus (Cut wanted region) = 65536
most_hdus (Amend wanted) = 65536
most_hdus Every = 65536

-- what it says of an HDU
unfoldable pub judge_of : JobChecks → List ℕ → Judge
judge_of (Pack o) file h = pack_judge o file h
judge_of Unpack file h = unpack_judge file h
judge_of (Cut wanted region) file h = cut_judge wanted region file h
judge_of (Amend wanted) file h = amend_judge wanted file h
judge_of Every file h = unjudged h
