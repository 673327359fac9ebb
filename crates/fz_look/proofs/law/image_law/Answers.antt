-- By the rows of the image.
use Rattle.fz_files.specs.declared.job.Job.TheVariants.{Unpack}
use Rattle.fz_look.proofs.Filled.{is_known_image}
use Rattle.fz_look.proofs.law.image_law.Goals as goal

pub returns : goal.returns
returns c = λ g s h i bytes sound is found some readable.
    is_known_image c.image_arrays_law.ensures c.first_fault_law.ensures.some c.one_record_law.ensures c.one_fault_law.ensures.none (c.hdus_law.ensures.known Unpack tt) c.hdus_law.ensures.tiles c.hdus_law.ensures.unpacked
    (c.hdus_law.ensures.payload Unpack) g s (c.known_law.ensures.know Unpack tt g s is) h found i some bytes sound readable
