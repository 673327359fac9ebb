-- The header is that of the file, where the source tells its bytes, and nothing else of the file is read.
use Rattle.std.proofs.Common.{◌≡◌, ℕ, ◌+◌, ◌*◌, ◌<◌, ◌≤◌, List, Option, Result, subst, rules, length, replicate, ap, ◌∙◌, IfSome, arith, ◌++◌, take, drop}
use Rattle.std.proofs.lemmas.List.{length-replicate}
use Rattle.fz_base.specs.Source.{HoldsLength, Reads}
use Rattle.fz_base.specs.Stop.{IsDefined, IfAnswered}
use Rattle.fz_base.specs.declared.failure.Stop.{Stop}
use Rattle.fz_block.specs.declared.header.Header.{Header}
use Rattle.fz_block.specs.Checks.{hdu_at}
use Rattle.fz_block.proofs.Nexts.{by_header, taking_given}
use Rattle.fz_base.specs.Meter.{Gauge, handed_back, taken}
use Rattle.fz_block.specs.declared.next.ReadHeader.{ReadHeader}
use Rattle.fz_block.proofs.Longer.{given_bytes, given_facts}
use Rattle.fz_block.proofs.Causes.{no_limit, one_taken_then, read_stopped, read_well}
use Rattle.fz_block.proofs.Fitting.{given_back}
use Rattle.fz_block.proofs.reuse.longer_header.Goals as goal

pub returns-in-Ok-clause-exact : goal.returns-in-Ok-clause-exact
returns-in-Ok-clause-exact g c =
    let held : Option (List ℕ) = g.S.Source.held c.args.source.now in
    let told : HoldsLength held c.args.length = g.met.S.Source.agrees c.args.source.now c.args.length c.requires.attached in
    let zeros : c.in_ok-buf.buf ≡ replicate (2880 * c.from.result) 0 = c.in_ok-buf.ensures.bytes in
    let count : 2880 * c.from.result ≡ 2880 * c.args.blocks = ap (λ n. 2880 * n) c.from.ensures in
    let size : length c.as_mut_slice.result.now ≡ 2880 * c.args.blocks =
    ap length c.as_mut_slice.ensures.value ∙ (ap length zeros ∙ (length-replicate (2880 * c.from.result) 0 ∙ count)) in
    let kept : length c.read_header-answer.new.buf ≡ length c.as_mut_slice.result.now = search rules in
    let read : IfAnswered c.read_header-answer.result (Reads held c.args.start c.read_header-answer.new.buf) = search rules in
    subst (λ (r : Result Header Stop). IfSome held (λ f. IsDefined (hdu_at c.args.hdu c.args.start f) r)) c.in-Ok.is
    (by_header held c.args.length c.args.hdu c.args.start c.args.blocks c.read_header-answer.new.buf c.read_header-answer.result
    told c.requires.found (kept ∙ size) read c.read_header-answer.ensures.header)

pub returns-in-Err-clause-exact : goal.returns-in-Err-clause-exact
returns-in-Err-clause-exact g c =
    let held : Option (List ℕ) = g.S.Source.held c.args.source.now in
    let told : HoldsLength held c.args.length = g.met.S.Source.agrees c.args.source.now c.args.length c.requires.attached in
    let zeros : c.in_ok-buf.buf ≡ replicate (2880 * c.from.result) 0 = c.in_ok-buf.ensures.bytes in
    let count : 2880 * c.from.result ≡ 2880 * c.args.blocks = ap (λ n. 2880 * n) c.from.ensures in
    let size : length c.as_mut_slice.result.now ≡ 2880 * c.args.blocks =
    ap length c.as_mut_slice.ensures.value ∙ (ap length zeros ∙ (length-replicate (2880 * c.from.result) 0 ∙ count)) in
    let kept : length c.read_header-answer.new.buf ≡ length c.as_mut_slice.result.now = search rules in
    let read : IfAnswered c.read_header-answer.result (Reads held c.args.start c.read_header-answer.new.buf) = search rules in
    subst (λ (r : Result Header Stop). IfSome held (λ f. IsDefined (hdu_at c.args.hdu c.args.start f) r)) c.in-Err.is
    (by_header held c.args.length c.args.hdu c.args.start c.args.blocks c.read_header-answer.new.buf c.read_header-answer.result
    told c.requires.found (kept ∙ size) read c.read_header-answer.ensures.header)

pub returns-in-Ok-clause-first_past : goal.returns-in-Ok-clause-first_past
returns-in-Ok-clause-first_past g c =
    let room : c.args.meter.now.live + 2880 * c.args.blocks ≤ c.args.meter.now.limit = search rules in
    taking_given (g.S.Source.held c.args.source.now) c.args.meter.now.limit c.args.meter.now.live c.args.hdu c.args.start c.args.blocks c.requires.found room

pub returns-in-Ok-clause-log : goal.returns-in-Ok-clause-log
returns-in-Ok-clause-log g c =
    let zeros : c.in_ok-buf.buf ≡ replicate (2880 * c.from.result) 0 = c.in_ok-buf.ensures.bytes in
    let count : 2880 * c.from.result ≡ 2880 * c.args.blocks = ap (λ n. 2880 * n) c.from.ensures in
    let size : length c.as_mut_slice.result.now ≡ 2880 * c.args.blocks =
    ap length c.as_mut_slice.ensures.value ∙ (ap length zeros ∙ (length-replicate (2880 * c.from.result) 0 ∙ count)) in
    let some : 0 < length c.as_mut_slice.result.now = omega (arith, size, c.requires.range.0) in
    c.log_law.ensures.one c.args.start (c.args.start + 2880 * c.args.blocks) c.args.start (length c.as_mut_slice.result.now) (g.S.Source.ranges c.args.source.now) (g.S.Source.ranges c.read_header-answer.new.source)
    some (omega arith) (omega (arith, size)) c.read_header-answer.ensures.log

pub returns-in-Err-clause-log : goal.returns-in-Err-clause-log
returns-in-Err-clause-log g c =
    let zeros : c.in_ok-buf.buf ≡ replicate (2880 * c.from.result) 0 = c.in_ok-buf.ensures.bytes in
    let count : 2880 * c.from.result ≡ 2880 * c.args.blocks = ap (λ n. 2880 * n) c.from.ensures in
    let size : length c.as_mut_slice.result.now ≡ 2880 * c.args.blocks =
    ap length c.as_mut_slice.ensures.value ∙ (ap length zeros ∙ (length-replicate (2880 * c.from.result) 0 ∙ count)) in
    let some : 0 < length c.as_mut_slice.result.now = omega (arith, size, c.requires.range.0) in
    c.log_law.ensures.one c.args.start (c.args.start + 2880 * c.args.blocks) c.args.start (length c.as_mut_slice.result.now) (g.S.Source.ranges c.args.source.now) (g.S.Source.ranges c.read_header-answer.new.source)
    some (omega arith) (omega (arith, size)) c.read_header-answer.ensures.log

pub returns-in-Ok-clause-bytes : goal.returns-in-Ok-clause-bytes
returns-in-Ok-clause-bytes g c =
    let held : Option (List ℕ) = g.S.Source.held c.args.source.now in
    let count : 2880 * c.from.result ≡ 2880 * c.args.blocks = ap (λ n. 2880 * n) c.from.ensures in
    let size : length c.in_ok-buf.buf ≡ 2880 * c.args.blocks = ap length c.in_ok-buf.ensures.bytes ∙ (length-replicate (2880 * c.from.result) 0 ∙ count) in
    let buf : List ℕ = c.read_header-answer.new.buf in
    let long : length buf ≡ length c.in_ok-buf.buf = c.read_header-answer.auto.buf ∙ ap length c.as_mut_slice.ensures.value in
    given_bytes held c.args.start c.in_ok-buf.buf buf long c.in-Ok.ensures.read

pub returns-in-Ok-clause-facts : goal.returns-in-Ok-clause-facts
returns-in-Ok-clause-facts g c =
    let count : 2880 * c.from.result ≡ 2880 * c.args.blocks = ap (λ n. 2880 * n) c.from.ensures in
    let size : length c.in_ok-buf.buf ≡ 2880 * c.args.blocks = ap length c.in_ok-buf.ensures.bytes ∙ (length-replicate (2880 * c.from.result) 0 ∙ count) in
    let buf : List ℕ = c.read_header-answer.new.buf in
    let long : length buf ≡ length c.in_ok-buf.buf = c.read_header-answer.auto.buf ∙ ap length c.as_mut_slice.ensures.value in
    given_facts c.args.hdu c.args.start c.in_ok-buf.buf buf c.in-Ok.facts long c.in-Ok.ensures.facts

pub returns-in-Ok-clause-within : goal.returns-in-Ok-clause-within
returns-in-Ok-clause-within g c =
    c.in-Ok.ensures.within

pub returns-in-Ok-clause-len : goal.returns-in-Ok-clause-len
returns-in-Ok-clause-len g c =
    let count : 2880 * c.from.result ≡ 2880 * c.args.blocks = ap (λ n. 2880 * n) c.from.ensures in
    let size : length c.in_ok-buf.buf ≡ 2880 * c.args.blocks = ap length c.in_ok-buf.ensures.bytes ∙ (length-replicate (2880 * c.from.result) 0 ∙ count) in
    let buf : List ℕ = c.read_header-answer.new.buf in
    let long : length buf ≡ length c.in_ok-buf.buf = c.read_header-answer.auto.buf ∙ ap length c.as_mut_slice.ensures.value in
    let back : length (take (length c.in_ok-buf.buf) (buf ++ drop (length buf) c.in_ok-buf.buf)) ≡ 2880 * c.args.blocks = ap length (given_back c.in_ok-buf.buf buf long) ∙ (long ∙ size) in
    back

pub returns-in-Ok-clause-taken : goal.returns-in-Ok-clause-taken
returns-in-Ok-clause-taken g c =
    let took : c.bytes.new.self ≡ taken c.args.meter.now (2880 * c.args.blocks) = c.in_ok-buf.ensures.taken.1 ∙ ap (taken c.args.meter.now) (ap (λ n. 2880 * n) c.from.ensures) in
    (omega (arith, c.in_ok-buf.ensures.taken.0, c.from.ensures), took)

pub returns-in-Ok-clause-peak : goal.returns-in-Ok-clause-peak
returns-in-Ok-clause-peak g c =
    let took : c.bytes.new.self ≡ taken c.args.meter.now (2880 * c.args.blocks) = c.in_ok-buf.ensures.taken.1 ∙ ap (taken c.args.meter.now) (ap (λ n. 2880 * n) c.from.ensures) in
    (omega (arith, ap (λ (m : Gauge). m.peak) took), omega (arith, ap (λ (m : Gauge). m.peak) took))

pub returns-in-Ok-clause-source : goal.returns-in-Ok-clause-source
returns-in-Ok-clause-source g c =
    c.read_header-answer.ensures.source

pub returns-in-Err-clause-source : goal.returns-in-Err-clause-source
returns-in-Err-clause-source g c =
    c.read_header-answer.ensures.source

pub returns-in-Ok-clause-cause : goal.returns-in-Ok-clause-cause
returns-in-Ok-clause-cause g c =
    read_well (g.S.Source.tally c.args.source.now) (g.S.Source.tally c.read_header-answer.new.source) c.args.meter.now.limit c.in-Ok.facts _ c.in-Ok.ensures.cause

pub returns-in-Err-clause-cause : goal.returns-in-Err-clause-cause
returns-in-Err-clause-cause g c =
    read_stopped (g.S.Source.tally c.args.source.now) (g.S.Source.tally c.read_header-answer.new.source) c.args.meter.now.limit c.in-Err.stop c.in-Err.ensures.cause

pub returns-in-Err-clause-limit : goal.returns-in-Err-clause-limit
returns-in-Err-clause-limit g c =
    no_limit ReadHeader (g.S.Source.tally c.args.source.now) (g.S.Source.tally c.read_header-answer.new.source) c.args.meter.now.limit (c.args.meter.now.live + 737280) c.in-Err.stop c.in-Err.ensures.cause.stop

pub returns-in-Err-clause-first_past : goal.returns-in-Err-clause-first_past
returns-in-Err-clause-first_past g c =
    let held : Option (List ℕ) = g.S.Source.held c.args.source.now in
    one_taken_then ReadHeader held (g.S.Source.tally c.args.source.now) (g.S.Source.tally c.read_header-answer.new.source) c.args.meter.now.limit c.args.meter.now.live c.args.hdu c.args.start c.args.blocks c.in-Err.stop c.in-Err.ensures.cause.stop c.requires.found (omega (arith, c.in_ok-buf.ensures.taken.0, c.from.ensures))

pub returns-in-Err-clause-given : goal.returns-in-Err-clause-given
returns-in-Err-clause-given g c =
    let count : 2880 * c.from.result ≡ 2880 * c.args.blocks = ap (λ n. 2880 * n) c.from.ensures in
    let size : length c.in_ok-buf.buf ≡ 2880 * c.args.blocks = ap length c.in_ok-buf.ensures.bytes ∙ (length-replicate (2880 * c.from.result) 0 ∙ count) in
    let buf : List ℕ = c.read_header-answer.new.buf in
    let long : length buf ≡ length c.in_ok-buf.buf = c.read_header-answer.auto.buf ∙ ap length c.as_mut_slice.ensures.value in
    let back : length (take (length c.in_ok-buf.buf) (buf ++ drop (length buf) c.in_ok-buf.buf)) ≡ 2880 * c.args.blocks = ap length (given_back c.in_ok-buf.buf buf long) ∙ (long ∙ size) in
    let took : c.bytes.new.self ≡ taken c.args.meter.now (2880 * c.args.blocks) = c.in_ok-buf.ensures.taken.1 ∙ ap (taken c.args.meter.now) (ap (λ n. 2880 * n) c.from.ensures) in
    let gave : c.give_bytes.new.self ≡ handed_back c.bytes.new.self (2880 * c.args.blocks) = c.give_bytes.ensures ∙ ap (handed_back c.bytes.new.self) back in
    let live : c.give_bytes.new.self.live ≡ c.args.meter.now.live = omega (arith, ap (λ (m : Gauge). m.live) gave, ap (λ (m : Gauge). m.live) took) in
    (live, ap (λ (m : Gauge). m.limit) gave ∙ ap (λ (m : Gauge). m.limit) took)

pub returns-in-Err-clause-peak : goal.returns-in-Err-clause-peak
returns-in-Err-clause-peak g c =
    let took : c.bytes.new.self ≡ taken c.args.meter.now (2880 * c.args.blocks) = c.in_ok-buf.ensures.taken.1 ∙ ap (taken c.args.meter.now) (ap (λ n. 2880 * n) c.from.ensures) in
    (omega (arith, ap (λ (m : Gauge). m.peak) c.give_bytes.ensures, ap (λ (m : Gauge). m.peak) took), omega (arith, ap (λ (m : Gauge). m.peak) c.give_bytes.ensures, ap (λ (m : Gauge). m.peak) took))
