-- The law, by computing.
use Rattle.fz_files.proofs.CutoutLemmas.{cutout_is, moved_are, kept_are, unmixed_are}
use Rattle.fz_files.proofs.CutFileLemmas.{steps_are, box_touches, ends_touch}
use Rattle.fz_files.proofs.worked.cut_file_law.Goals as goal

pub returns-clause-file : goal.returns-clause-file
returns-clause-file c = cutout_is

pub returns-clause-moved : goal.returns-clause-moved
returns-clause-moved c = moved_are

pub returns-clause-kept : goal.returns-clause-kept
returns-clause-kept c = kept_are

pub returns-clause-steps : goal.returns-clause-steps
returns-clause-steps c = steps_are

pub returns-clause-touched : goal.returns-clause-touched
returns-clause-touched c = box_touches

pub returns-clause-gaps : goal.returns-clause-gaps
returns-clause-gaps c = ends_touch

pub returns-clause-cards : goal.returns-clause-cards
returns-clause-cards c = unmixed_are
