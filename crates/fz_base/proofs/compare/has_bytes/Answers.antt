-- One piece after another is read and compared.
use Rattle.std.proofs.Common.{◌≡◌, ℕ, ◌+◌, ◌≤◌, List, Option, true, false, length, take, drop, refl, sym, subst, arith, rules}
use Rattle.std.specs.Prelude.{bytes_eq}
use Rattle.std.proofs.lemmas.List.{length-take}
use Rattle.fz_base.specs.Source.{LogsWithin, MayLog, Reads}
use Rattle.fz_base.proofs.Compared.{all_same, more_same, none_same, other_piece, read_logs}
use Rattle.fz_base.proofs.compare.has_bytes.Goals as goal

pub returns-then-not-is_same-clause-same : goal.returns-then-not-is_same-clause-same
returns-then-not-is_same-clause-same g c =
    let held : Option (List ℕ) = g.S.Source.held c.args.source.now in
    let old = c.loop-done.invariant in
    let n : ℕ = c.min-count.result in
    let piece : List ℕ = c.read_at.new.into in
    let read : Reads held (c.args.at + c.loop-done.done) piece = subst (λ (l : Option (List ℕ)). Reads l (c.args.at + c.loop-done.done) piece) old.held (search rules) in
    let long : length piece ≡ n = search rules in
    let other : bytes_eq piece (take n (drop c.loop-done.done c.args.bytes.now)) ≡ false = search rules in
    other_piece held c.args.at c.args.bytes.now piece c.loop-done.done n long (omega (arith, c.min-count.ensures, old.within)) read other

pub loop-done-preserved : goal.loop-done-preserved
loop-done-preserved g c =
    let held : Option (List ℕ) = g.S.Source.held c.args.source.now in
    let old = c.loop-done.invariant in
    let n : ℕ = c.min-count.result in
    let piece : List ℕ = c.read_at.new.into in
    let read : Reads held (c.args.at + c.loop-done.done) piece = subst (λ (l : Option (List ℕ)). Reads l (c.args.at + c.loop-done.done) piece) old.held (search rules) in
    let long : length piece ≡ n = search rules in
    let same : bytes_eq piece (take n (drop c.loop-done.done c.args.bytes.now)) ≡ true = search rules in
    let before : Option (List (ℕ × ℕ)) = g.S.Source.ranges c.args.source.now in
    let mid : Option (List (ℕ × ℕ)) = g.S.Source.ranges c.loop-done.source in
    let after : Option (List (ℕ × ℕ)) = g.S.Source.ranges c.read_at.new.self in
    let may = read_logs c.read_at.result _ _ mid after c.read_at.ensures.logged c.read_at.ensures.log_err in
    let more : LogsWithin c.args.at (c.args.at + length c.args.bytes.now) mid after =
    c.log_law.ensures.one c.args.at (c.args.at + length c.args.bytes.now) _ _ mid after (omega (arith, c.min-count.ensures, c.requires.piece, old.piece, length-take {A = ℕ})) (omega arith) (omega (arith, c.min-count.ensures, old.within, length-take {A = ℕ})) may in
    record {
      held = search rules;
      attached = search rules;
      reads = search rules;
      told = search rules;
      read = c.log_law.ensures.both c.args.at (c.args.at + length c.args.bytes.now) before mid after old.read more;
      piece = search rules;
      within = omega (arith, c.min-count.ensures, old.within);
      same = more_same held c.args.at c.args.bytes.now piece c.loop-done.done n long old.same read same;
    }

pub returns-clause-same : goal.returns-clause-same
returns-clause-same g c =
    let held : Option (List ℕ) = g.S.Source.held c.args.source.now in
    let old = c.loop-done.invariant in
    let all : c.loop-done.done ≡ length c.args.bytes.now = omega (arith, old.within, c.loop-done-test.false) in
    all_same held c.args.at c.args.bytes.now c.loop-done.done all old.same

pub returns-in_err-map_err-clause-read : goal.returns-in_err-map_err-clause-read
returns-in_err-map_err-clause-read g c =
    let old = c.loop-done.invariant in
    let before : Option (List (ℕ × ℕ)) = g.S.Source.ranges c.args.source.now in
    let mid : Option (List (ℕ × ℕ)) = g.S.Source.ranges c.loop-done.source in
    let after : Option (List (ℕ × ℕ)) = g.S.Source.ranges c.read_at.new.self in
    let may = read_logs c.read_at.result _ _ mid after c.read_at.ensures.logged c.read_at.ensures.log_err in
    let more : LogsWithin c.args.at (c.args.at + length c.args.bytes.now) mid after =
    c.log_law.ensures.one c.args.at (c.args.at + length c.args.bytes.now) _ _ mid after (omega (arith, c.min-count.ensures, c.requires.piece, old.piece, length-take {A = ℕ})) (omega arith) (omega (arith, c.min-count.ensures, old.within, length-take {A = ℕ})) may in
    c.log_law.ensures.both c.args.at (c.args.at + length c.args.bytes.now) before mid after old.read more

pub returns-then-not-is_same-clause-read : goal.returns-then-not-is_same-clause-read
returns-then-not-is_same-clause-read g c =
    let old = c.loop-done.invariant in
    let before : Option (List (ℕ × ℕ)) = g.S.Source.ranges c.args.source.now in
    let mid : Option (List (ℕ × ℕ)) = g.S.Source.ranges c.loop-done.source in
    let after : Option (List (ℕ × ℕ)) = g.S.Source.ranges c.read_at.new.self in
    let may = read_logs c.read_at.result _ _ mid after c.read_at.ensures.logged c.read_at.ensures.log_err in
    let more : LogsWithin c.args.at (c.args.at + length c.args.bytes.now) mid after =
    c.log_law.ensures.one c.args.at (c.args.at + length c.args.bytes.now) _ _ mid after (omega (arith, c.min-count.ensures, c.requires.piece, old.piece, length-take {A = ℕ})) (omega arith) (omega (arith, c.min-count.ensures, old.within, length-take {A = ℕ})) may in
    c.log_law.ensures.both c.args.at (c.args.at + length c.args.bytes.now) before mid after old.read more

pub loop-done-init : goal.loop-done-init
loop-done-init g c = record {
  held = refl;
  attached = refl;
  reads = refl;
  told = λ told. told;
  read = c.log_law.ensures.none c.args.at (c.args.at + length c.args.bytes.now) (g.S.Source.ranges c.args.source.now);
  piece = refl;
  within = omega arith;
  same = none_same (g.S.Source.held c.args.source.now) c.args.at c.args.bytes.now;
}
