-- The front of the buffer is read.
use Rattle.std.proofs.Common.{◌≡◌, ℕ, List, length, take, Option, IfSome, subst, arith}
use Rattle.std.proofs.lemmas.List.{length-take-le}
use Rattle.std.proofs.lemmas.Result.{IfOk-weaker}
use Rattle.fz_job.specs.Again.{ReadsAsSeen}
use Rattle.fz_job.proofs.Fronts.{wider_again}
use Rattle.fz_job.proofs.reread.read_front.Goals as goal

pub read_again-requires-clause-room : goal.read_again-requires-clause-room
read_again-requires-clause-room g c =
    let long : length (take c.args.survey.now.header_len c.args.header.now) ≡ c.args.survey.now.header_len = length-take-le c.args.survey.now.header_len c.args.header.now c.requires.header in
    omega (arith, long, c.requires.long)

pub returns-clause-again : goal.returns-clause-again
returns-clause-again g c =
    IfOk-weaker c.read_again.result _ _ (λ a w. wider_again (g.S.Source.held c.args.source.now) c.args.length c.read_again.new.buf _ a w) c.read_again.ensures.again

pub returns-clause-room : goal.returns-clause-room
returns-clause-room g c =
    let long : length (take c.args.survey.now.header_len c.args.header.now) ≡ c.args.survey.now.header_len = length-take-le c.args.survey.now.header_len c.args.header.now c.requires.header in
    IfOk-weaker c.read_again.result _ _ (λ a w. let room = w.room in omega (arith, room, long, c.read_again.ensures.stays.1)) c.read_again.ensures.again

pub returns-clause-as_seen : goal.returns-clause-as_seen
returns-clause-as_seen g c =
    let held : Option (List ℕ) = g.S.Source.held c.args.source.now in
    let long : length (take c.args.survey.now.header_len c.args.header.now) ≡ c.args.survey.now.header_len = length-take-le c.args.survey.now.header_len c.args.header.now c.requires.header in
    subst (λ n. IfSome held (λ f. ReadsAsSeen f c.args.begun.hdu c.args.begun.start c.args.begun.after_empty n c.args.survey.now.tile c.read_again.result)) long c.read_again.ensures.as_seen
