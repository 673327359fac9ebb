-- One strip after another.
use Rattle.std.proofs.Common.{◌≡◌, ℕ, ◌+◌, ◌*◌, ◌<◌, ◌≤◌, refl, ◌∙◌, arith, rules}
use Rattle.std.proofs.Math.Nat.{mul-le-mul_left, mul-suc}
use Rattle.fz_image.specs.Layout.{pixel_bytes_of}
use Rattle.fz_image.specs.Strips.{strip_at}
use Rattle.fz_image.proofs.Sizes.{pixel_bytes_small}
use Rattle.fz_image.proofs.StripBytes.{all_read, none_read, read_one}
use Rattle.fz_image.proofs.strips.read_strips.Goals as goal

pub loop-i-init : goal.loop-i-init
loop-i-init g c =
    let l = c.args.layout.now in
    record {
      held = refl;
      attached = refl;
      told_ranges = λ told. told;
      log = c.log_law.ensures.none l.pixels_at (l.pixels_at + pixel_bytes_of l) (g.S.Source.ranges c.args.source.now);
      reads = refl;
      long = refl;
      read = none_read (g.S.Source.held c.args.source.now) c.args.strips.now c.args.ahead.now;
    }

pub overflow_mul-from : goal.overflow_mul-from
overflow_mul-from g c =
    let l = c.args.layout.now in
    let near : c.loop-i.i < c.args.strips.now.count = search rules in
    record { fits = omega (arith, c.requires.strips.high c.loop-i.i near, pixel_bytes_small l c.requires.layout, c.requires.layout.pixels) }

pub overflow_add-from : goal.overflow_add-from
overflow_add-from g c =
    let l = c.args.layout.now in
    let near : c.loop-i.i < c.args.strips.now.count = search rules in
    record { fits = omega (arith, c.requires.strips.high c.loop-i.i near, pixel_bytes_small l c.requires.layout, c.requires.layout.pixels) }

pub overflow_mul-to : goal.overflow_mul-to
overflow_mul-to g c =
    let s = c.args.strips.now in
    let near : c.loop-i.i < s.count = search rules in
    let most : s.len * c.loop-i.i ≤ s.len * s.count = mul-le-mul_left s.len (omega (arith, near)) in
    record { fits = omega (arith, most, c.requires.strips.near) }

pub read_part-requires-clause-within : goal.read_part-requires-clause-within
read_part-requires-clause-within g c =
    let near : c.loop-i.i < c.args.strips.now.count = search rules in
    (c.requires.pixels.0, c.loop-i.invariant.attached ∙ c.requires.pixels.1, omega (arith, c.requires.strips.high c.loop-i.i near, c.requires.pixels.2))

pub read_part-requires-clause-room : goal.read_part-requires-clause-room
read_part-requires-clause-room g c =
    let s = c.args.strips.now in
    let near : c.loop-i.i < s.count = search rules in
    let most : s.len * (c.loop-i.i + 1) ≤ s.len * s.count = mul-le-mul_left s.len (omega (arith, near)) in
    let next : s.len * (c.loop-i.i + 1) ≡ s.len * c.loop-i.i + s.len = omega (arith, mul-suc s.len c.loop-i.i) in
    omega (arith, most, next, c.requires.strips.room_is, c.loop-i.invariant.long)

pub loop-i-preserved : goal.loop-i-preserved
loop-i-preserved g c =
    let l = c.args.layout.now in
    let s = c.args.strips.now in
    let i : ℕ = c.loop-i.i in
    let near : i < s.count = search rules in
    let end : ℕ = l.pixels_at + pixel_bytes_of l in
    let mid = g.S.Source.ranges c.loop-i.source in
    let new = g.S.Source.ranges c.read_part.new.source in
    let most : s.len * i ≤ s.len * s.count = mul-le-mul_left s.len (omega (arith, near)) in
    record {
      held = search rules;
      attached = search rules;
      told_ranges = λ told. c.in_ok-read_part.ensures.stays.0.told (c.loop-i.invariant.told_ranges told);
      log = c.log_law.ensures.both l.pixels_at end (g.S.Source.ranges c.args.source.now) mid new c.loop-i.invariant.log
          (c.log_law.ensures.wider (strip_at s i) (strip_at s i + s.len) l.pixels_at end mid new (omega (arith, c.requires.strips.low))
          (c.requires.strips.high i near) c.in_ok-read_part.ensures.log);
      reads = search rules;
      long = c.in_ok-read_part.ensures.stays.1 ∙ c.loop-i.invariant.long;
      read = read_one (g.S.Source.held c.args.source.now) (g.S.Source.held c.loop-i.source) s i c.loop-i.ahead c.read_part.new.into c.loop-i.invariant.held
          (omega (arith, most, c.requires.strips.room_is, c.loop-i.invariant.long)) c.loop-i.invariant.read c.in_ok-read_part.ensures.part;
    }

pub returns-clause-strips : goal.returns-clause-strips
returns-clause-strips g c =
    let s = c.args.strips.now in
    let all : c.loop-i.i ≡ s.count = search rules in
    all_read (g.S.Source.held c.args.source.now) (g.S.Source.held c.loop-i.source) s c.loop-i.i c.loop-i.ahead c.loop-i.invariant.held all
    (omega (arith, c.requires.strips.room_is, c.loop-i.invariant.long)) c.loop-i.invariant.read

pub returns-in_err-read_part-clause-log : goal.returns-in_err-read_part-clause-log
returns-in_err-read_part-clause-log g c =
    let l = c.args.layout.now in
    let s = c.args.strips.now in
    let i : ℕ = c.loop-i.i in
    let near : i < s.count = search rules in
    let end : ℕ = l.pixels_at + pixel_bytes_of l in
    let mid = g.S.Source.ranges c.loop-i.source in
    let new = g.S.Source.ranges c.read_part.new.source in
    c.log_law.ensures.both l.pixels_at end (g.S.Source.ranges c.args.source.now) mid new c.loop-i.invariant.log
    (c.log_law.ensures.wider (strip_at s i) (strip_at s i + s.len) l.pixels_at end mid new (omega (arith, c.requires.strips.low))
    (c.requires.strips.high i near) c.in_err-read_part.ensures.log)
