-- By the HDUs that the first look saw.
use Rattle.fz_files.specs.declared.job.Job.TheVariants.{Unpack}
use Rattle.fz_look.proofs.Finding.{is_here}
use Rattle.fz_look.proofs.Knowing.{first_placed, never_refused, next_placed}
use Rattle.fz_look.proofs.law.places_law.Goals as goal

pub returns-clause-first : goal.returns-clause-first
returns-clause-first c = λ g s f is some first. first_placed g s (c.known_law.ensures.know Unpack tt g s is) f some first

pub returns-clause-next : goal.returns-clause-next
returns-clause-next c = λ g s h is found more. next_placed g s (c.known_law.ensures.know Unpack tt g s is) h found more

pub returns-clause-read : goal.returns-clause-read
returns-clause-read c = λ g s k start at flag result is placed again. never_refused g s (c.known_law.ensures.know Unpack tt g s is) k start at flag placed result again

pub returns-clause-found : goal.returns-clause-found
returns-clause-found c = λ g s k start at flag buf a h found read behind place copied image.
    is_here c.plain_law.ensures.len c.tiles_law.ensures.whole g s (c.known_law.ensures.know Unpack tt g s found.sound) k start at flag buf a h found read behind place copied image
