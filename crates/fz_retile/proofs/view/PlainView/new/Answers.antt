-- A view of what the look saw.
use Rattle.std.proofs.Common.{ℕ, ◌≤◌, List, Option}
use Rattle.fz_files.specs.declared.job.Job.TheVariants.{Unpack}
use Rattle.fz_retile.proofs.Opening.{fits_known, known_view, no_failures, no_refusals, octets_known, reads_since}
use Rattle.fz_retile.proofs.Keeping.{none_at_hand}
use Rattle.fz_retile.proofs.Marking.{marks_none}
use Rattle.fz_retile.proofs.Somes.{for_some}
use Rattle.fz_retile.proofs.view.PlainView.new.Goals as goal

pub invariant_of-result : goal.invariant_of-result
invariant_of-result g c =
    let held : Option (List ℕ) = g.S.Source.held c.args.source.now in
    let l = c.args.looked in
    record {
      is_attached = c.requires.attached;
      fixed = record {
        near = c.requires.near;
        short = c.requires.sound.short;
        some = c.requires.sound.some;
        few = c.requires.sound.few;
        asked_few = for_some c.args.asked (λ a. a.n ≤ 9) c.requires.asked;
        first_few = c.requires.sound.first;
        first_zero = c.requires.sound.zero;
        first_near = c.requires.sound.place;
      };
      room = c.requires.sound.room;
      at_hand = none_at_hand c.args.length l.plain_len l.survey l.space;
      known = known_view c.first_fault_law.ensures.only (c.known_law.ensures.know Unpack tt) held l c.requires.looked;
      marks = marks_none held l.space.numbers;
      fits = fits_known held l c.requires.looked;
      octets = octets_known c.restored_law.ensures.stands c.restored_bytes_law.ensures held l (g.met.S.Source.octets c.args.source.now) c.requires.looked;
      reads = reads_since held (g.S.Source.ranges c.args.start.value) (g.S.Source.ranges c.args.source.now) c.requires.touched c.requires.told;
      refusals = no_refusals held;
      failures = no_failures (g.S.Source.tally c.args.start.value) (g.S.Source.tally c.args.source.now) c.requires.start;
    }
