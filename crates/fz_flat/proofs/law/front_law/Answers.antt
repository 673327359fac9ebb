use Rattle.fz_flat.proofs.FrontFile.{blocks-say, hdu-say, image-say}
use Rattle.fz_flat.proofs.law.front_law.Goals as goal

pub returns-clause-blocks : goal.returns-clause-blocks
returns-clause-blocks c = λ file front at is. blocks-say file front at is

pub returns-clause-hdu : goal.returns-clause-hdu
returns-clause-hdu c = λ file front at is. hdu-say file front at is

pub returns-clause-image : goal.returns-clause-image
returns-clause-image c = λ file front at is. image-say file front at is
