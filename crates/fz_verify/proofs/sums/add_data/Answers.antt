-- One piece of the data after another.
use Rattle.std.proofs.Common.{◌≡◌, ℕ, ◌+◌, ◌<◌, ◌≤◌, List, Option, length, inr, refl, ap, subst, arith, rules}
use Rattle.std.specs.Prelude.{Result, Ok, Err, OnOk, OnErr}
use Rattle.std.proofs.lemmas.List.{length-take}
use Rattle.fz_base.specs.Source.{HoldsLength, LogsWithin, MayLog, Reads, logged}
use Rattle.fz_block.specs.Header.{data_start_of, next_start_of, whole_blocks_of}
use Rattle.fz_sum.specs.Pieces.{Added}
use Rattle.fz_verify.proofs.Summed.{pieces_all, pieces_more, pieces_none}
use Rattle.fz_verify.proofs.sums.add_data.Goals as goal

-- what one read logs, whatever it answers
read_logs : {T E : Type 0} (result : Result T E) (at count : ℕ) (old new : Option (List (ℕ × ℕ))) → OnOk result (new ≡ logged at count old) → OnErr result (MayLog at count old new) → MayLog at count old new
read_logs (Ok x) at count old new ok err = inr ok
read_logs (Err e) at count old new ok err = err

pub loop-done-init : goal.loop-done-init
loop-done-init g c = record {
  held = refl;
  attached = refl;
  reads = refl;
  told = λ told. told;
  read = c.log_law.ensures.none (data_start_of c.args.header.now) (next_start_of c.args.header.now) (g.S.Source.ranges c.args.source.now);
  copy = refl;
  within = omega arith;
  count = ap (λ (s : Added). s.count) c.requires.sum;
  added = pieces_none (g.S.Source.held c.args.source.now) c.args.header.now c.args.sum.now c.requires.sum;
}

pub loop-done-preserved : goal.loop-done-preserved
loop-done-preserved g c =
    let held : Option (List ℕ) = g.S.Source.held c.args.source.now in
    let h = c.args.header.now in
    let n : ℕ = c.requires.within.0 in
    let old = c.loop-done.invariant in
    let done : ℕ = c.loop-done.done in
    let count : ℕ = c.min-count.result in
    let piece : List ℕ = c.read_at.new.into in
    let told : HoldsLength held n = g.met.S.Source.agrees c.args.source.now n c.requires.within.1 in
    let read : Reads held (c.data_start-from.result + done) piece =
    subst (λ (l : Option (List ℕ)). Reads l (c.data_start-from.result + done) piece) old.held (search rules) in
    let there : Reads held (data_start_of h + done) piece = subst (λ k. Reads held (k + done) piece) c.data_start-from.ensures read in
    let long : length piece ≡ count = search rules in
    let size : c.next_start.result ≡ data_start_of h + whole_blocks_of h.data_len = c.next_start.ensures in
    let room : done + count ≤ whole_blocks_of h.data_len = omega (arith, c.min-count.ensures, size, c.data_start-from.ensures, old.within) in
    let may = read_logs c.read_at.result _ _ (g.S.Source.ranges c.loop-done.source) (g.S.Source.ranges c.read_at.new.self) c.read_at.ensures.logged c.read_at.ensures.log_err in
    let more : LogsWithin (data_start_of h) (next_start_of h) (g.S.Source.ranges c.loop-done.source) (g.S.Source.ranges c.read_at.new.self) =
    c.log_law.ensures.one (data_start_of h) (next_start_of h) _ _ (g.S.Source.ranges c.loop-done.source) (g.S.Source.ranges c.read_at.new.self)
    (omega (arith, c.min-count.ensures, c.requires.copy, old.copy, length-take {A = ℕ})) (omega (arith, c.data_start-from.ensures)) (omega (arith, c.data_start-from.ensures, size, c.min-count.ensures, length-take {A = ℕ})) may in
    record {
      held = search rules;
      attached = search rules;
      reads = search rules;
      told = search rules;
      read = c.log_law.ensures.both (data_start_of h) (next_start_of h) (g.S.Source.ranges c.args.source.now) (g.S.Source.ranges c.loop-done.source) (g.S.Source.ranges c.read_at.new.self) old.read more;
      copy = search rules;
      within = omega (arith, c.min-count.ensures, old.within);
      count = search rules;
      added = pieces_more c.sum_law.ensures.joined held n h done count c.loop-done.sum c.add.new.self piece told c.requires.within.2 room long there old.added c.add.ensures;
    }

pub returns-clause-added : goal.returns-clause-added
returns-clause-added g c =
    let held : Option (List ℕ) = g.S.Source.held c.args.source.now in
    let h = c.args.header.now in
    let n : ℕ = c.requires.within.0 in
    let old = c.loop-done.invariant in
    let told : HoldsLength held n = g.met.S.Source.agrees c.args.source.now n c.requires.within.1 in
    let size : c.next_start.result ≡ data_start_of h + whole_blocks_of h.data_len = c.next_start.ensures in
    let all : whole_blocks_of h.data_len ≤ c.loop-done.done = omega (arith, size, c.data_start-from.ensures) in
    let room : c.loop-done.done ≤ whole_blocks_of h.data_len = omega (arith, size, c.data_start-from.ensures, old.within) in
    pieces_all c.sum_law.ensures.joined held n h c.loop-done.done c.loop-done.sum told c.requires.within.2 all room old.added

pub returns-in_err-map_err-clause-read : goal.returns-in_err-map_err-clause-read
returns-in_err-map_err-clause-read g c =
    let h = c.args.header.now in
    let old = c.loop-done.invariant in
    let size : c.next_start.result ≡ data_start_of h + whole_blocks_of h.data_len = c.next_start.ensures in
    let may = read_logs c.read_at.result _ _ (g.S.Source.ranges c.loop-done.source) (g.S.Source.ranges c.read_at.new.self) c.read_at.ensures.logged c.read_at.ensures.log_err in
    let more : LogsWithin (data_start_of h) (next_start_of h) (g.S.Source.ranges c.loop-done.source) (g.S.Source.ranges c.read_at.new.self) =
    c.log_law.ensures.one (data_start_of h) (next_start_of h) _ _ (g.S.Source.ranges c.loop-done.source) (g.S.Source.ranges c.read_at.new.self)
    (omega (arith, c.min-count.ensures, c.requires.copy, old.copy, length-take {A = ℕ})) (omega (arith, c.data_start-from.ensures)) (omega (arith, c.data_start-from.ensures, size, c.min-count.ensures, length-take {A = ℕ})) may in
    c.log_law.ensures.both (data_start_of h) (next_start_of h) (g.S.Source.ranges c.args.source.now) (g.S.Source.ranges c.loop-done.source) (g.S.Source.ranges c.read_at.new.self) old.read more
