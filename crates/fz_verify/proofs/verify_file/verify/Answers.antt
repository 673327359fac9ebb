-- Nothing was decoded before.
use Rattle.fz_verify.proofs.verify_file.verify.Goals as goal

pub verify_decoded-requires-clause-sound : goal.verify_decoded-requires-clause-sound
verify_decoded-requires-clause-sound g c κs within = λ some. absurd cc
