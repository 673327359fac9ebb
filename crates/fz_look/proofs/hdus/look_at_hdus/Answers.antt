-- One HDU after another.
use Rattle.std.proofs.Common.{◌≡◌, ℕ, ◌+◌, ◌*◌, ◌<◌, ◌≤◌, ◌^◌, ◌&&◌, not, Bool, true, List, [], ◌∷◌, length, Option, Some, IfSome, Result, Ok, Err, refl, sym, ap, ◌∙◌, subst, inl, inr, arith, rules}
use Rattle.std.proofs.lemmas.List.{length-append, length-drop, length-take}
use Rattle.std.proofs.Math.Bool.{beq}
use Rattle.std.proofs.Math.Dec.{eqb}
use Rattle.fz_base.specs.Ranges.{LogsIn}
use Rattle.fz_base.specs.Source.{HoldsLength, LogsWithin}
use Rattle.fz_base.specs.Stop.{IfRefused}
use Rattle.fz_base.specs.declared.failure.Stop.{Stop}
use Rattle.fz_block.specs.Checks.{header_touched}
use Rattle.fz_block.specs.Header.{next_start_of}
use Rattle.fz_files.specs.FirstFault.{IsFirstRowFault, all_rows}
use Rattle.fz_files.specs.Restored.{is_packed_primary}
use Rattle.fz_files.specs.Touched.{data_touched}
use Rattle.fz_files.specs.declared.job.Job.TheVariants.{Unpack}
use Rattle.fz_job.specs.Again.{ReadsAsSeen, is_empty_primary, was_primary_image}
use Rattle.fz_job.specs.Hdus.{ReadsHdus}
use Rattle.fz_look.specs.Looked.{IsFaultAmong, IsHduLooked, with_counted}
use Rattle.fz_look.specs.declared.hdus.Counted.{Counted}
use Rattle.fz_look.specs.declared.hdus.Seen.{Seen}
use Rattle.fz_look.proofs.Counted.{alone_as_said}
use Rattle.fz_look.proofs.Ends.{not_at_end}
use Rattle.fz_look.proofs.HduReads.{no_hdu, one_hdu, one_header}
use Rattle.fz_look.proofs.Looking.{BeginsNear, IsLooking, all_seen, begins_at, begins_more, later_near, left_true, more_looking, none_looking, primary_then, stops_changed, stops_counting, stops_long, stops_reading, sum_more, sum_near}
use Rattle.fz_look.proofs.hdus.look_at_hdus.Goals as goal

pub loop-hdu-init : goal.loop-hdu-init
loop-hdu-init g c = record {
  held = refl;
  attached = refl;
  reads = refl;
  told_ranges = λ told. told;
  space = record { header = refl; translated = refl; copy = refl };
  window = record { sizes = refl; workers = refl };
  within = λ more. inr (refl, refl);
  early = omega arith;
  behind = λ is. absurd cc;
  few = omega arith;
  first = record { zero = λ none. refl; near = λ some. absurd (omega (arith, some)); few = omega arith };
  looking = none_looking c.args.survey.now (g.S.Source.held c.args.source.now);
  read = no_hdu c.args.survey.now (g.S.Source.ranges c.args.source.now) (g.S.Source.held c.args.source.now);
}

pub returns-in_err-again-clause-fault : goal.returns-in_err-again-clause-fault
returns-in_err-again-clause-fault g c =
    let s = c.args.survey.now in
    let k : ℕ = c.loop-hdu.hdu in
    let start : ℕ = c.loop-hdu.start in
    let flag : Bool = c.loop-hdu.after_empty in
    let held : Option (List ℕ) = g.S.Source.held c.args.source.now in
    let stop : Stop = c.in_err-again.field-0.0 in
    let old = c.loop-hdu.invariant in
    let few : k < s.hdus = omega arith in
    let stopped : c.from_residual.result ≡ Err stop = search rules in
    let long : length c.as_mut_slice-buf.result.now ≡ s.header_len = ap length c.as_mut_slice-buf.ensures.value ∙ old.space.header ∙ c.requires.header in
    let again : IfSome held (λ f. ReadsAsSeen f k start flag s.header_len s.tile (Err stop)) =
    subst (λ n. IfSome held (λ f. ReadsAsSeen f k start flag n s.tile (Err stop))) long
    (subst (λ (h : Option (List ℕ)). IfSome h (λ f. ReadsAsSeen f k start flag (length c.as_mut_slice-buf.result.now) s.tile (Err stop))) old.held c.in_err-again.ensures.as_seen) in
    subst (λ (r : Result Seen Stop). IfRefused r (λ x. IfSome held (λ f. IsFaultAmong f s x))) (sym stopped)
    (stops_reading s held stop k start flag c.loop-hdu.seen few old.looking again)

pub returns-in_err-counted-clause-fault : goal.returns-in_err-counted-clause-fault
returns-in_err-counted-clause-fault g c =
    let s = c.args.survey.now in
    let k : ℕ = c.loop-hdu.hdu in
    let start : ℕ = c.loop-hdu.start in
    let flag : Bool = c.loop-hdu.after_empty in
    let held : Option (List ℕ) = g.S.Source.held c.args.source.now in
    let stop : Stop = c.in_err-counted.field-0.0 in
    let old = c.loop-hdu.invariant in
    let few : k < s.hdus = omega arith in
    let a = c.in_ok-again.again in
    let stopped : c.from_residual-in_err-counted.result ≡ Err stop = search rules in
    let long : length c.as_mut_slice-buf.result.now ≡ s.header_len = ap length c.as_mut_slice-buf.ensures.value ∙ old.space.header ∙ c.requires.header in
    let again : IfSome held (λ f. ReadsAsSeen f k start flag s.header_len s.tile (Ok a)) =
    subst (λ n. IfSome held (λ f. ReadsAsSeen f k start flag n s.tile (Ok a))) long
    (subst (λ (h : Option (List ℕ)). IfSome h (λ f. ReadsAsSeen f k start flag (length c.as_mut_slice-buf.result.now) s.tile (Ok a))) old.held c.in_ok-again.ensures.as_seen) in
    let fault : IfRefused {X = Counted} (Err stop) (λ x. IfSome held (λ f. IsFirstRowFault f (all_rows f (a.header ∷ [])) (Some x))) =
    subst (λ (l : Option (List ℕ)). IfRefused {X = Counted} (Err stop) (λ x. IfSome l (λ f. IsFirstRowFault f (all_rows f (a.header ∷ [])) (Some x)))) (c.in_ok-again.ensures.stays.0.held_is ∙ old.held) c.in_err-counted.ensures.fault in
    subst (λ (r : Result Seen Stop). IfRefused r (λ x. IfSome held (λ f. IsFaultAmong f s x))) (sym stopped)
    (stops_counting s held stop k start flag c.loop-hdu.seen a few old.looking again fault)

pub with_hdu-seen-requires : goal.with_hdu-seen-requires
with_hdu-seen-requires g c =
    let old = c.loop-hdu.invariant in
    let a = c.in_ok-again.again in
    let all : c.loop-hdu.start + c.in_ok-counted.counted.all ≤ next_start_of a.header + 2 ^ 45 = omega (arith, c.in_ok-counted.ensures.few, c.in_ok-again.ensures.place.1) in
    let sum = sum_near c.loop-hdu.hdu c.loop-hdu.start (next_start_of a.header) c.in_ok-counted.counted.all c.loop-hdu.seen.plain_len old.few all in
    omega (arith, sum, c.in_ok-again.ensures.again.near, c.requires.few)

pub returns-then-start-length-clause-fault : goal.returns-then-start-length-clause-fault
returns-then-start-length-clause-fault g c =
    let s = c.args.survey.now in
    let k : ℕ = c.loop-hdu.hdu in
    let start : ℕ = c.loop-hdu.start in
    let flag : Bool = c.loop-hdu.after_empty in
    let held : Option (List ℕ) = g.S.Source.held c.args.source.now in
    let old = c.loop-hdu.invariant in
    let few : k < s.hdus = omega arith in
    let a = c.in_ok-again.again in
    let counted : Counted = c.in_ok-counted.counted in
    let long : length c.as_mut_slice-buf.result.now ≡ s.header_len = ap length c.as_mut_slice-buf.ensures.value ∙ old.space.header ∙ c.requires.header in
    let again : IfSome held (λ f. ReadsAsSeen f k start flag s.header_len s.tile (Ok a)) =
    subst (λ n. IfSome held (λ f. ReadsAsSeen f k start flag n s.tile (Ok a))) long
    (subst (λ (h : Option (List ℕ)). IfSome h (λ f. ReadsAsSeen f k start flag (length c.as_mut_slice-buf.result.now) s.tile (Ok a))) old.held c.in_ok-again.ensures.as_seen) in
    let looked : IfSome held (λ f. IsHduLooked f a.header counted) =
    subst (λ (h : Option (List ℕ)). IfSome h (λ f. IsHduLooked f a.header counted)) (c.in_ok-again.ensures.stays.0.held_is ∙ old.held) c.in_ok-counted.ensures.counted in
    let alone : IfSome held (λ f. is_packed_primary f a.header ≡ (flag && was_primary_image a.image)) =
    subst (λ (h : Option (List ℕ)). IfSome h (λ f. is_packed_primary f a.header ≡ (flag && was_primary_image a.image))) old.held
    (alone_as_said c.packed_primary_law.ensures.unpack (g.S.Source.held c.loop-hdu.source) c.args.length c.read_again.new.buf a flag c.in_ok-again.ensures.again c.in_ok-again.ensures.found) in
    let more : IfSome held (IsLooking s (k + 1) (next_start_of a.header) (is_empty_primary a.header) (with_counted c.loop-hdu.seen a flag counted)) =
    more_looking s held k start flag (is_empty_primary a.header) c.loop-hdu.seen a counted few old.looking again looked alone old.behind refl in
    let told : HoldsLength held c.args.length = g.met.S.Source.agrees c.args.source.now c.args.length c.requires.attached in
    let differ : not (beq (eqb (next_start_of a.header) c.args.length) (eqb (k + 1) s.hdus)) ≡ true =
    subst (λ n. not (beq (eqb n c.args.length) (eqb (k + 1) s.hdus)) ≡ true) c.next_start-start.ensures c.if-start-length.true in
    stops_changed s held c.args.length (k + 1) (next_start_of a.header) (is_empty_primary a.header) (with_counted c.loop-hdu.seen a flag counted) (Err c.changed.result) told differ more

pub loop-hdu-preserved : goal.loop-hdu-preserved
loop-hdu-preserved g c =
    let s = c.args.survey.now in
    let k : ℕ = c.loop-hdu.hdu in
    let start : ℕ = c.loop-hdu.start in
    let flag : Bool = c.loop-hdu.after_empty in
    let held : Option (List ℕ) = g.S.Source.held c.args.source.now in
    let old = c.loop-hdu.invariant in
    let few : k < s.hdus = omega arith in
    let a = c.in_ok-again.again in
    let counted : Counted = c.in_ok-counted.counted in
    let long : length c.as_mut_slice-buf.result.now ≡ s.header_len = ap length c.as_mut_slice-buf.ensures.value ∙ old.space.header ∙ c.requires.header in
    let again : IfSome held (λ f. ReadsAsSeen f k start flag s.header_len s.tile (Ok a)) =
    subst (λ n. IfSome held (λ f. ReadsAsSeen f k start flag n s.tile (Ok a))) long
    (subst (λ (h : Option (List ℕ)). IfSome h (λ f. ReadsAsSeen f k start flag (length c.as_mut_slice-buf.result.now) s.tile (Ok a))) old.held c.in_ok-again.ensures.as_seen) in
    let looked : IfSome held (λ f. IsHduLooked f a.header counted) =
    subst (λ (h : Option (List ℕ)). IfSome h (λ f. IsHduLooked f a.header counted)) (c.in_ok-again.ensures.stays.0.held_is ∙ old.held) c.in_ok-counted.ensures.counted in
    let alone : IfSome held (λ f. is_packed_primary f a.header ≡ (flag && was_primary_image a.image)) =
    subst (λ (h : Option (List ℕ)). IfSome h (λ f. is_packed_primary f a.header ≡ (flag && was_primary_image a.image))) old.held
    (alone_as_said c.packed_primary_law.ensures.unpack (g.S.Source.held c.loop-hdu.source) c.args.length c.read_again.new.buf a flag c.in_ok-again.ensures.again c.in_ok-again.ensures.found) in
    let so_far : Seen = with_counted c.loop-hdu.seen a flag counted in
    let more : IfSome held (IsLooking s (k + 1) (next_start_of a.header) (is_empty_primary a.header) so_far) =
    more_looking s held k start flag (is_empty_primary a.header) c.loop-hdu.seen a counted few old.looking again looked alone old.behind refl in
    let learnt : c.with_hdu-seen.result ≡ so_far = c.with_hdu-seen.ensures in
    let next : c.next_start-start.result ≡ next_start_of a.header = c.next_start-start.ensures in
    let says : c.is_empty_primary-after_empty.result ≡ is_empty_primary a.header = c.is_empty_primary-after_empty.ensures in
    let inside : next_start_of a.header ≤ c.args.length = c.in_ok-again.ensures.again.inside in
    let early : next_start_of a.header ≤ 2 ^ 62 = c.in_ok-again.ensures.again.near in
    let first : Option (List (ℕ × ℕ)) = g.S.Source.ranges c.args.source.now in
    let one : Option (List (ℕ × ℕ)) = g.S.Source.ranges c.loop-hdu.source in
    let two : Option (List (ℕ × ℕ)) = g.S.Source.ranges c.read_again.new.source in
    let three : Option (List (ℕ × ℕ)) = g.S.Source.ranges c.look_at_hdu.new.source in
    let reads : IfSome held (λ f. LogsWithin start (header_touched k start f) one two) = subst (λ (h : Option (List ℕ)). IfSome h (λ f. LogsWithin start (header_touched k start f) one two)) old.held c.in_ok-again.ensures.read in
    let header : IfSome held (λ f. ReadsHdus Unpack f s first two) = one_header s first c.ranges_law.ensures.join k start flag c.loop-hdu.seen few one two (c.hdus_law.ensures.header Unpack) held old.looking reads old.read in
    let body : IfSome held (λ f. LogsIn (data_touched Unpack f a.header) two three) =
    subst (λ (h : Option (List ℕ)). IfSome h (λ f. LogsIn (data_touched Unpack f a.header) two three)) (c.in_ok-again.ensures.stays.0.held_is ∙ old.held) c.in_ok-counted.ensures.read in
    let all : start + counted.all ≤ next_start_of a.header + 2 ^ 45 = omega (arith, c.in_ok-counted.ensures.few, c.in_ok-again.ensures.place.1) in
    let sum : so_far.plain_len ≤ next_start_of a.header + (k + 1) * 2 ^ 45 = sum_more (flag && was_primary_image a.image) k start (next_start_of a.header) counted.all c.loop-hdu.seen.plain_len old.few all in
    let begins : BeginsNear c.args.length so_far.first =
    begins_more c.args.length (flag && was_primary_image a.image) (record { hdu = a.header.hdu; start = a.header.start; after_empty = flag }) c.loop-hdu.seen.first
    (λ is. let one = old.behind (left_true flag (was_primary_image a.image) is) in begins_at c.args.length a.header.hdu a.header.start flag (c.in_ok-again.ensures.place.0 ∙ one) (later_near start c.args.length k a.header.start one c.in_ok-again.ensures.place.1 (old.within few))) old.first in
    record {
      held = search rules;
      attached = search rules;
      reads = search rules;
      told_ranges = λ told. c.in_ok-counted.ensures.stays.0.told (c.in_ok-again.ensures.stays.0.told (old.told_ranges told));
      space = record {
        header = omega (arith, c.in_ok-counted.ensures.stays.1.header, old.space.header, c.in_ok-again.ensures.stays.1, length-take {A = ℕ}, length-append {A = ℕ}, length-drop {A = ℕ});
        translated = c.in_ok-counted.ensures.stays.1.translated ∙ old.space.translated;
        copy = c.in_ok-counted.ensures.stays.1.copy ∙ old.space.copy;
      };
      window = record { sizes = c.in_ok-counted.ensures.stays.2.sizes ∙ old.window.sizes; workers = c.in_ok-counted.ensures.stays.2.workers ∙ old.window.workers };
      within = λ left. inl (not_at_end c.next_start-start.result c.args.length (k + 1) s.hdus c.if-start-length.false left (omega (arith, next, inside)));
      early = omega (arith, next, early);
      behind = λ is. primary_then a.header k c.in_ok-again.ensures.place.0 (sym says ∙ is);
      few = subst (λ (seen : Seen). seen.plain_len ≤ c.next_start-start.result + (k + 1) * 2 ^ 45) (sym learnt) (omega (arith, sum, next));
      first = subst (λ (seen : Seen). BeginsNear c.args.length seen.first) (sym learnt) begins;
      looking = subst (λ (seen : Seen). IfSome held (IsLooking s (k + 1) c.next_start-start.result c.is_empty_primary-after_empty.result seen)) (sym learnt)
          (subst (λ b. IfSome held (IsLooking s (k + 1) c.next_start-start.result b so_far)) (sym says)
          (subst (λ n. IfSome held (IsLooking s (k + 1) n (is_empty_primary a.header) so_far)) (sym next) more));
      read = one_hdu s first c.ranges_law.ensures.join k start flag c.loop-hdu.seen few two three (c.hdus_law.ensures.payload Unpack) held a old.looking again body header;
    }

pub returns-then-seen-gt-MOST-clause-fault : goal.returns-then-seen-gt-MOST-clause-fault
returns-then-seen-gt-MOST-clause-fault g c =
    let s = c.args.survey.now in
    let held : Option (List ℕ) = g.S.Source.held c.args.source.now in
    let told : HoldsLength held c.args.length = g.met.S.Source.agrees c.args.source.now c.args.length c.requires.attached in
    subst (λ (stop : Stop). IfRefused {X = Seen} (Err stop) (λ x. IfSome held (λ f. IsFaultAmong f s x))) (sym c.too_long.ensures)
    (stops_long s held c.args.length c.loop-hdu.hdu c.loop-hdu.start c.loop-hdu.after_empty c.loop-hdu.seen told (omega arith) (omega arith) c.loop-hdu.invariant.looking)

pub returns-clause-seen : goal.returns-clause-seen
returns-clause-seen g c = all_seen c.args.survey.now (g.S.Source.held c.args.source.now) c.loop-hdu.hdu c.loop-hdu.start c.loop-hdu.after_empty c.loop-hdu.seen (omega arith) c.loop-hdu.invariant.looking

pub returns-in_err-again-clause-read : goal.returns-in_err-again-clause-read
returns-in_err-again-clause-read g c =
    let s = c.args.survey.now in
    let k : ℕ = c.loop-hdu.hdu in
    let start : ℕ = c.loop-hdu.start in
    let held : Option (List ℕ) = g.S.Source.held c.args.source.now in
    let old = c.loop-hdu.invariant in
    let first : Option (List (ℕ × ℕ)) = g.S.Source.ranges c.args.source.now in
    let one : Option (List (ℕ × ℕ)) = g.S.Source.ranges c.loop-hdu.source in
    let two : Option (List (ℕ × ℕ)) = g.S.Source.ranges c.read_again.new.source in
    let few : k < s.hdus = omega arith in
    let reads : IfSome held (λ f. LogsWithin start (header_touched k start f) one two) = subst (λ (h : Option (List ℕ)). IfSome h (λ f. LogsWithin start (header_touched k start f) one two)) old.held c.in_err-again.ensures.read in
    one_header s first c.ranges_law.ensures.join k start c.loop-hdu.after_empty c.loop-hdu.seen few one two (c.hdus_law.ensures.header Unpack) held old.looking reads old.read

pub returns-in_err-counted-clause-read : goal.returns-in_err-counted-clause-read
returns-in_err-counted-clause-read g c =
    let s = c.args.survey.now in
    let k : ℕ = c.loop-hdu.hdu in
    let start : ℕ = c.loop-hdu.start in
    let flag : Bool = c.loop-hdu.after_empty in
    let held : Option (List ℕ) = g.S.Source.held c.args.source.now in
    let old = c.loop-hdu.invariant in
    let few : k < s.hdus = omega arith in
    let a = c.in_ok-again.again in
    let first : Option (List (ℕ × ℕ)) = g.S.Source.ranges c.args.source.now in
    let one : Option (List (ℕ × ℕ)) = g.S.Source.ranges c.loop-hdu.source in
    let two : Option (List (ℕ × ℕ)) = g.S.Source.ranges c.read_again.new.source in
    let three : Option (List (ℕ × ℕ)) = g.S.Source.ranges c.look_at_hdu.new.source in
    let reads : IfSome held (λ f. LogsWithin start (header_touched k start f) one two) = subst (λ (h : Option (List ℕ)). IfSome h (λ f. LogsWithin start (header_touched k start f) one two)) old.held c.in_ok-again.ensures.read in
    let header : IfSome held (λ f. ReadsHdus Unpack f s first two) = one_header s first c.ranges_law.ensures.join k start flag c.loop-hdu.seen few one two (c.hdus_law.ensures.header Unpack) held old.looking reads old.read in
    let long : length c.as_mut_slice-buf.result.now ≡ s.header_len = ap length c.as_mut_slice-buf.ensures.value ∙ old.space.header ∙ c.requires.header in
    let again : IfSome held (λ f. ReadsAsSeen f k start flag s.header_len s.tile (Ok a)) =
    subst (λ n. IfSome held (λ f. ReadsAsSeen f k start flag n s.tile (Ok a))) long
    (subst (λ (h : Option (List ℕ)). IfSome h (λ f. ReadsAsSeen f k start flag (length c.as_mut_slice-buf.result.now) s.tile (Ok a))) old.held c.in_ok-again.ensures.as_seen) in
    let body : IfSome held (λ f. LogsIn (data_touched Unpack f a.header) two three) =
    subst (λ (h : Option (List ℕ)). IfSome h (λ f. LogsIn (data_touched Unpack f a.header) two three)) (c.in_ok-again.ensures.stays.0.held_is ∙ old.held) c.in_err-counted.ensures.read in
    one_hdu s first c.ranges_law.ensures.join k start flag c.loop-hdu.seen few two three (c.hdus_law.ensures.payload Unpack) held a old.looking again body header

pub returns-then-start-length-clause-read : goal.returns-then-start-length-clause-read
returns-then-start-length-clause-read g c =
    let s = c.args.survey.now in
    let k : ℕ = c.loop-hdu.hdu in
    let start : ℕ = c.loop-hdu.start in
    let flag : Bool = c.loop-hdu.after_empty in
    let held : Option (List ℕ) = g.S.Source.held c.args.source.now in
    let old = c.loop-hdu.invariant in
    let few : k < s.hdus = omega arith in
    let a = c.in_ok-again.again in
    let first : Option (List (ℕ × ℕ)) = g.S.Source.ranges c.args.source.now in
    let one : Option (List (ℕ × ℕ)) = g.S.Source.ranges c.loop-hdu.source in
    let two : Option (List (ℕ × ℕ)) = g.S.Source.ranges c.read_again.new.source in
    let three : Option (List (ℕ × ℕ)) = g.S.Source.ranges c.look_at_hdu.new.source in
    let reads : IfSome held (λ f. LogsWithin start (header_touched k start f) one two) = subst (λ (h : Option (List ℕ)). IfSome h (λ f. LogsWithin start (header_touched k start f) one two)) old.held c.in_ok-again.ensures.read in
    let header : IfSome held (λ f. ReadsHdus Unpack f s first two) = one_header s first c.ranges_law.ensures.join k start flag c.loop-hdu.seen few one two (c.hdus_law.ensures.header Unpack) held old.looking reads old.read in
    let long : length c.as_mut_slice-buf.result.now ≡ s.header_len = ap length c.as_mut_slice-buf.ensures.value ∙ old.space.header ∙ c.requires.header in
    let again : IfSome held (λ f. ReadsAsSeen f k start flag s.header_len s.tile (Ok a)) =
    subst (λ n. IfSome held (λ f. ReadsAsSeen f k start flag n s.tile (Ok a))) long
    (subst (λ (h : Option (List ℕ)). IfSome h (λ f. ReadsAsSeen f k start flag (length c.as_mut_slice-buf.result.now) s.tile (Ok a))) old.held c.in_ok-again.ensures.as_seen) in
    let body : IfSome held (λ f. LogsIn (data_touched Unpack f a.header) two three) =
    subst (λ (h : Option (List ℕ)). IfSome h (λ f. LogsIn (data_touched Unpack f a.header) two three)) (c.in_ok-again.ensures.stays.0.held_is ∙ old.held) c.in_ok-counted.ensures.read in
    one_hdu s first c.ranges_law.ensures.join k start flag c.loop-hdu.seen few two three (c.hdus_law.ensures.payload Unpack) held a old.looking again body header
