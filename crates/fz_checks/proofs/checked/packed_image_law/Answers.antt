use Rattle.fz_checks.proofs.CheckedImages.{cut-said, image-said, unpacked-said}
use Rattle.fz_checks.proofs.checked.packed_image_law.Goals as goal

pub returns-clause-checks : goal.returns-clause-checks
returns-clause-checks c = λ h header after_empty is none. image-said header h after_empty is none

pub returns-clause-unpack : goal.returns-clause-unpack
returns-clause-unpack c = λ h header after_empty is packed none. unpacked-said header h after_empty is packed none

pub returns-clause-cut : goal.returns-clause-cut
returns-clause-cut c = λ h header after_empty region is none. cut-said header h after_empty region is none
