-- The header is that of the file, where the source tells its bytes, and nothing else of the file is read.
use Rattle.std.proofs.Common.{◌≡◌, ℕ, ◌+◌, ◌-◌, ◌*◌, ◌≤◌, max, List, Option, Result, Err, sym, subst, rules, length, replicate, ap, ◌∙◌, IfSome, ◌++◌, Ok, refl, take, drop, arith}
use Rattle.std.proofs.lemmas.List.{length-replicate}
use Rattle.fz_base.specs.Source.{Reads, HoldsLength}
use Rattle.fz_base.specs.Stop.{IsDefined, IfAnswered, ReadsAndTakes, ReadsOnly, TellsLimit}
use Rattle.fz_base.specs.declared.failure.Stop.{Stop}
use Rattle.fz_block.specs.declared.header.Header.{Header}
use Rattle.fz_block.specs.declared.next.ReadHeader.{ReadHeader}
use Rattle.fz_block.specs.Checks.{hdu_at, header_blocks_of}
use Rattle.fz_block.specs.Takings.{facts_in, header_taking}
use Rattle.fz_block.proofs.Nexts.{blocks_refuse, by_header, taking_given, peak_given, logs_next, touched_next}
use Rattle.fz_base.specs.Counts.{Tally}
use Rattle.fz_base.specs.Meter.{Gauge, handed_back, taken}
use Rattle.fz_base.specs.Takings.{TellsFirstPast}
use Rattle.fz_block.proofs.Longer.{given_bytes, given_facts}
use Rattle.fz_block.proofs.Causes.{low_peak, no_limit, none_taken, on_error, one_taken_then, read_stopped, read_well}
use Rattle.fz_block.proofs.Fitting.{given_back}
use Rattle.fz_block.proofs.next.header_at.Goals as goal

pub returns-in_err-blocks-clause-exact : goal.returns-in_err-blocks-clause-exact
returns-in_err-blocks-clause-exact g c =
    let stopped : c.from_residual.result ≡ Err c.in_err-blocks.field-0.0 = search rules in
    subst (λ (r : Result ReadHeader Stop). IfSome (g.S.Source.held c.args.source.now) (λ f. IsDefined (hdu_at c.args.hdu c.args.start f) (facts_in r))) (sym stopped)
    (blocks_refuse (g.S.Source.held c.args.source.now) c.args.hdu c.args.start c.in_err-blocks.field-0.0 c.in_err-blocks.ensures.exact)

pub read_before-answer-requires-clause-last : goal.read_before-answer-requires-clause-last
read_before-answer-requires-clause-last g c =
    let held : Option (List ℕ) = g.S.Source.held c.args.source.now in
    let block : List ℕ = c.header_blocks.new.buf in
    let whole : length block ≡ 2880 = search rules in
    let zeros : c.in_ok-buf.buf ≡ replicate (2880 * c.from.result) 0 = c.in_ok-buf.ensures.bytes in
    let count : 2880 * c.from.result ≡ 2880 * c.in_ok-blocks.blocks = ap (λ n. 2880 * n) c.from.ensures in
    let size : length c.as_mut_slice.result.now ≡ 2880 * c.in_ok-blocks.blocks =
    ap length c.as_mut_slice.ensures.value ∙ (ap length zeros ∙ (length-replicate (2880 * c.from.result) 0 ∙ count)) in
    let last : Reads held (c.args.start + (2880 * c.in_ok-blocks.blocks - 2880)) block = c.in_ok-blocks.ensures.last whole in
    subst (λ (h : Option (List ℕ)). Reads h (c.args.start + (length c.as_mut_slice.result.now - 2880)) block) (sym c.in_ok-blocks.ensures.source.held_is)
    (subst (λ n. Reads held (c.args.start + (n - 2880)) block) (sym size) last)

pub returns-in-Ok-clause-exact : goal.returns-in-Ok-clause-exact
returns-in-Ok-clause-exact g c =
    let held : Option (List ℕ) = g.S.Source.held c.args.source.now in
    let told : HoldsLength held c.args.length = g.met.S.Source.agrees c.args.source.now c.args.length c.requires.attached in
    let zeros : c.in_ok-buf.buf ≡ replicate (2880 * c.from.result) 0 = c.in_ok-buf.ensures.bytes in
    let count : 2880 * c.from.result ≡ 2880 * c.in_ok-blocks.blocks = ap (λ n. 2880 * n) c.from.ensures in
    let size : length c.as_mut_slice.result.now ≡ 2880 * c.in_ok-blocks.blocks =
    ap length c.as_mut_slice.ensures.value ∙ (ap length zeros ∙ (length-replicate (2880 * c.from.result) 0 ∙ count)) in
    let kept : length c.read_before-answer.new.buf ≡ length c.as_mut_slice.result.now = search rules in
    let read : IfAnswered c.read_before-answer.result (Reads held c.args.start c.read_before-answer.new.buf) = search rules in
    subst (λ (r : Result Header Stop). IfSome held (λ f. IsDefined (hdu_at c.args.hdu c.args.start f) r)) c.in-Ok.is
    (by_header held c.args.length c.args.hdu c.args.start c.in_ok-blocks.blocks c.read_before-answer.new.buf c.read_before-answer.result
    told c.in_ok-blocks.ensures.exact (kept ∙ size) read c.read_before-answer.ensures.header)

pub returns-in-Ok-clause-log : goal.returns-in-Ok-clause-log
returns-in-Ok-clause-log g c =
    let held : Option (List ℕ) = g.S.Source.held c.args.source.now in
    let told : HoldsLength held c.args.length = g.met.S.Source.agrees c.args.source.now c.args.length c.requires.attached in
    let zeros : c.in_ok-buf.buf ≡ replicate (2880 * c.from.result) 0 = c.in_ok-buf.ensures.bytes in
    let count : 2880 * c.from.result ≡ 2880 * c.in_ok-blocks.blocks = ap (λ n. 2880 * n) c.from.ensures in
    let size : length c.as_mut_slice.result.now ≡ 2880 * c.in_ok-blocks.blocks =
    ap length c.as_mut_slice.ensures.value ∙ (ap length zeros ∙ (length-replicate (2880 * c.from.result) 0 ∙ count)) in
    logs_next c.log_law.ensures.both c.log_law.ensures.wider c.args.length c.args.start c.in_ok-blocks.blocks (length c.as_mut_slice.result.now) (g.S.Source.ranges c.args.source.now) (g.S.Source.ranges c.header_blocks.new.source) (g.S.Source.ranges c.read_before-answer.new.source)
    size c.in_ok-blocks.ensures.range.1 c.in_ok-blocks.ensures.range.2 c.in_ok-blocks.ensures.log c.read_before-answer.ensures.log

pub returns-in-Ok-clause-touched : goal.returns-in-Ok-clause-touched
returns-in-Ok-clause-touched g c =
    let held : Option (List ℕ) = g.S.Source.held c.args.source.now in
    let told : HoldsLength held c.args.length = g.met.S.Source.agrees c.args.source.now c.args.length c.requires.attached in
    let zeros : c.in_ok-buf.buf ≡ replicate (2880 * c.from.result) 0 = c.in_ok-buf.ensures.bytes in
    let count : 2880 * c.from.result ≡ 2880 * c.in_ok-blocks.blocks = ap (λ n. 2880 * n) c.from.ensures in
    let size : length c.as_mut_slice.result.now ≡ 2880 * c.in_ok-blocks.blocks =
    ap length c.as_mut_slice.ensures.value ∙ (ap length zeros ∙ (length-replicate (2880 * c.from.result) 0 ∙ count)) in
    touched_next c.log_law.ensures.both c.log_law.ensures.wider held c.args.length c.args.hdu c.args.start c.in_ok-blocks.blocks (length c.as_mut_slice.result.now) (g.S.Source.ranges c.args.source.now) (g.S.Source.ranges c.header_blocks.new.source) (g.S.Source.ranges c.read_before-answer.new.source)
    told c.in_ok-blocks.ensures.exact size c.in_ok-blocks.ensures.range.2 c.in_ok-blocks.ensures.touched c.read_before-answer.ensures.log

pub returns-in-Err-clause-exact : goal.returns-in-Err-clause-exact
returns-in-Err-clause-exact g c =
    let held : Option (List ℕ) = g.S.Source.held c.args.source.now in
    let told : HoldsLength held c.args.length = g.met.S.Source.agrees c.args.source.now c.args.length c.requires.attached in
    let zeros : c.in_ok-buf.buf ≡ replicate (2880 * c.from.result) 0 = c.in_ok-buf.ensures.bytes in
    let count : 2880 * c.from.result ≡ 2880 * c.in_ok-blocks.blocks = ap (λ n. 2880 * n) c.from.ensures in
    let size : length c.as_mut_slice.result.now ≡ 2880 * c.in_ok-blocks.blocks =
    ap length c.as_mut_slice.ensures.value ∙ (ap length zeros ∙ (length-replicate (2880 * c.from.result) 0 ∙ count)) in
    let kept : length c.read_before-answer.new.buf ≡ length c.as_mut_slice.result.now = search rules in
    let read : IfAnswered c.read_before-answer.result (Reads held c.args.start c.read_before-answer.new.buf) = search rules in
    subst (λ (r : Result Header Stop). IfSome held (λ f. IsDefined (hdu_at c.args.hdu c.args.start f) r)) c.in-Err.is
    (by_header held c.args.length c.args.hdu c.args.start c.in_ok-blocks.blocks c.read_before-answer.new.buf c.read_before-answer.result
    told c.in_ok-blocks.ensures.exact (kept ∙ size) read c.read_before-answer.ensures.header)

pub returns-in-Err-clause-log : goal.returns-in-Err-clause-log
returns-in-Err-clause-log g c =
    let held : Option (List ℕ) = g.S.Source.held c.args.source.now in
    let told : HoldsLength held c.args.length = g.met.S.Source.agrees c.args.source.now c.args.length c.requires.attached in
    let zeros : c.in_ok-buf.buf ≡ replicate (2880 * c.from.result) 0 = c.in_ok-buf.ensures.bytes in
    let count : 2880 * c.from.result ≡ 2880 * c.in_ok-blocks.blocks = ap (λ n. 2880 * n) c.from.ensures in
    let size : length c.as_mut_slice.result.now ≡ 2880 * c.in_ok-blocks.blocks =
    ap length c.as_mut_slice.ensures.value ∙ (ap length zeros ∙ (length-replicate (2880 * c.from.result) 0 ∙ count)) in
    logs_next c.log_law.ensures.both c.log_law.ensures.wider c.args.length c.args.start c.in_ok-blocks.blocks (length c.as_mut_slice.result.now) (g.S.Source.ranges c.args.source.now) (g.S.Source.ranges c.header_blocks.new.source) (g.S.Source.ranges c.read_before-answer.new.source)
    size c.in_ok-blocks.ensures.range.1 c.in_ok-blocks.ensures.range.2 c.in_ok-blocks.ensures.log c.read_before-answer.ensures.log

pub returns-in-Err-clause-touched : goal.returns-in-Err-clause-touched
returns-in-Err-clause-touched g c =
    let held : Option (List ℕ) = g.S.Source.held c.args.source.now in
    let told : HoldsLength held c.args.length = g.met.S.Source.agrees c.args.source.now c.args.length c.requires.attached in
    let zeros : c.in_ok-buf.buf ≡ replicate (2880 * c.from.result) 0 = c.in_ok-buf.ensures.bytes in
    let count : 2880 * c.from.result ≡ 2880 * c.in_ok-blocks.blocks = ap (λ n. 2880 * n) c.from.ensures in
    let size : length c.as_mut_slice.result.now ≡ 2880 * c.in_ok-blocks.blocks =
    ap length c.as_mut_slice.ensures.value ∙ (ap length zeros ∙ (length-replicate (2880 * c.from.result) 0 ∙ count)) in
    touched_next c.log_law.ensures.both c.log_law.ensures.wider held c.args.length c.args.hdu c.args.start c.in_ok-blocks.blocks (length c.as_mut_slice.result.now) (g.S.Source.ranges c.args.source.now) (g.S.Source.ranges c.header_blocks.new.source) (g.S.Source.ranges c.read_before-answer.new.source)
    told c.in_ok-blocks.ensures.exact size c.in_ok-blocks.ensures.range.2 c.in_ok-blocks.ensures.touched c.read_before-answer.ensures.log

pub returns-in-Ok-clause-first_past : goal.returns-in-Ok-clause-first_past
returns-in-Ok-clause-first_past g c =
    let room : c.args.meter.now.live + 2880 * c.in_ok-blocks.blocks ≤ c.args.meter.now.limit = search rules in
    taking_given (g.S.Source.held c.args.source.now) c.args.meter.now.limit c.args.meter.now.live c.args.hdu c.args.start c.in_ok-blocks.blocks c.in_ok-blocks.ensures.exact room

pub returns-in-Ok-clause-peak : goal.returns-in-Ok-clause-peak
returns-in-Ok-clause-peak g c =
    let low : c.bytes.new.self.peak ≤ max c.args.meter.now.peak (c.args.meter.now.live + 2880 * c.in_ok-blocks.blocks) = search rules in
    peak_given (g.S.Source.held c.args.source.now) c.args.meter.now.peak c.bytes.new.self.peak c.args.meter.now.live c.args.hdu c.args.start c.in_ok-blocks.blocks c.in_ok-blocks.ensures.exact low

pub returns-in_err-blocks-clause-given : goal.returns-in_err-blocks-clause-given
returns-in_err-blocks-clause-given g c =
    on_error c.from_residual.result (refl, refl, omega arith)

pub returns-in_err-blocks-clause-first_past : goal.returns-in_err-blocks-clause-first_past
returns-in_err-blocks-clause-first_past g c =
    let held : Option (List ℕ) = g.S.Source.held c.args.source.now in
    let stopped : c.from_residual.result ≡ Err c.in_err-blocks.field-0.0 = search rules in
    subst (λ (r : Result ReadHeader Stop). IfSome held (λ f. TellsFirstPast c.args.meter.now.limit (header_taking c.args.meter.now.live (header_blocks_of c.args.hdu c.args.start f)) r)) (sym stopped)
    (none_taken ReadHeader held (g.S.Source.tally c.args.source.now) (g.S.Source.tally c.header_blocks.new.source) c.args.meter.now.limit c.args.meter.now.live c.args.hdu c.args.start c.in_err-blocks.field-0.0 c.in_err-blocks.ensures.cause.stop c.in_err-blocks.ensures.exact)

pub returns-in_err-blocks-clause-peak : goal.returns-in_err-blocks-clause-peak
returns-in_err-blocks-clause-peak g c =
    let held : Option (List ℕ) = g.S.Source.held c.args.source.now in
    low_peak held c.args.meter.now.peak c.args.meter.now.peak c.args.meter.now.live c.args.hdu c.args.start refl

pub returns-in_err-blocks-clause-most : goal.returns-in_err-blocks-clause-most
returns-in_err-blocks-clause-most g c =
    omega arith

pub returns-in_err-blocks-clause-limit : goal.returns-in_err-blocks-clause-limit
returns-in_err-blocks-clause-limit g c =
    let stopped : c.from_residual.result ≡ Err c.in_err-blocks.field-0.0 = search rules in
    subst (λ (r : Result ReadHeader Stop). TellsLimit c.args.meter.now.limit (c.args.meter.now.live + 737280) r) (sym stopped)
    (no_limit ReadHeader (g.S.Source.tally c.args.source.now) (g.S.Source.tally c.header_blocks.new.source) c.args.meter.now.limit (c.args.meter.now.live + 737280) c.in_err-blocks.field-0.0 c.in_err-blocks.ensures.cause.stop)

pub returns-in_err-blocks-clause-log : goal.returns-in_err-blocks-clause-log
returns-in_err-blocks-clause-log g c =
    c.in_err-blocks.ensures.log

pub returns-in_err-blocks-clause-touched : goal.returns-in_err-blocks-clause-touched
returns-in_err-blocks-clause-touched g c =
    c.in_err-blocks.ensures.touched

pub returns-in_err-blocks-clause-source : goal.returns-in_err-blocks-clause-source
returns-in_err-blocks-clause-source g c =
    c.in_err-blocks.ensures.source

pub returns-in_err-blocks-clause-cause : goal.returns-in_err-blocks-clause-cause
returns-in_err-blocks-clause-cause g c =
    let stopped : c.from_residual.result ≡ Err c.in_err-blocks.field-0.0 = search rules in
    subst (λ (r : Result ReadHeader Stop). ReadsAndTakes (g.S.Source.tally c.args.source.now) (g.S.Source.tally c.header_blocks.new.source) c.args.meter.now.limit r) (sym stopped)
    (read_stopped (g.S.Source.tally c.args.source.now) (g.S.Source.tally c.header_blocks.new.source) c.args.meter.now.limit c.in_err-blocks.field-0.0 c.in_err-blocks.ensures.cause)

pub returns-in_err-buf-clause-log : goal.returns-in_err-buf-clause-log
returns-in_err-buf-clause-log g c =
    c.in_ok-blocks.ensures.log

pub returns-in_err-buf-clause-touched : goal.returns-in_err-buf-clause-touched
returns-in_err-buf-clause-touched g c =
    c.in_ok-blocks.ensures.touched

pub returns-in_err-buf-clause-source : goal.returns-in_err-buf-clause-source
returns-in_err-buf-clause-source g c =
    c.in_ok-blocks.ensures.source

pub returns-in_err-buf-clause-peak : goal.returns-in_err-buf-clause-peak
returns-in_err-buf-clause-peak g c =
    let held : Option (List ℕ) = g.S.Source.held c.args.source.now in
    low_peak held c.args.meter.now.peak c.bytes.new.self.peak c.args.meter.now.live c.args.hdu c.args.start (ap (λ (m : Gauge). m.peak) c.in_err-buf.ensures.unchanged)

pub returns-in_err-buf-clause-most : goal.returns-in_err-buf-clause-most
returns-in_err-buf-clause-most g c =
    omega (arith, ap (λ (m : Gauge). m.peak) c.in_err-buf.ensures.unchanged)

pub returns-in-Ok-clause-bytes : goal.returns-in-Ok-clause-bytes
returns-in-Ok-clause-bytes g c =
    let held : Option (List ℕ) = g.S.Source.held c.args.source.now in
    let count : 2880 * c.from.result ≡ 2880 * c.in_ok-blocks.blocks = ap (λ n. 2880 * n) c.from.ensures in
    let size : length c.in_ok-buf.buf ≡ 2880 * c.in_ok-blocks.blocks = ap length c.in_ok-buf.ensures.bytes ∙ (length-replicate (2880 * c.from.result) 0 ∙ count) in
    let buf : List ℕ = c.read_before-answer.new.buf in
    let long : length buf ≡ length c.in_ok-buf.buf = c.read_before-answer.auto.buf ∙ ap length c.as_mut_slice.ensures.value in
    given_bytes held c.args.start c.in_ok-buf.buf buf long (subst (λ h. Reads h c.args.start c.read_before-answer.new.buf) c.in_ok-blocks.ensures.source.held_is c.in-Ok.ensures.read)

pub returns-in-Ok-clause-facts : goal.returns-in-Ok-clause-facts
returns-in-Ok-clause-facts g c =
    let count : 2880 * c.from.result ≡ 2880 * c.in_ok-blocks.blocks = ap (λ n. 2880 * n) c.from.ensures in
    let size : length c.in_ok-buf.buf ≡ 2880 * c.in_ok-blocks.blocks = ap length c.in_ok-buf.ensures.bytes ∙ (length-replicate (2880 * c.from.result) 0 ∙ count) in
    let buf : List ℕ = c.read_before-answer.new.buf in
    let long : length buf ≡ length c.in_ok-buf.buf = c.read_before-answer.auto.buf ∙ ap length c.as_mut_slice.ensures.value in
    given_facts c.args.hdu c.args.start c.in_ok-buf.buf buf c.in-Ok.facts long c.in-Ok.ensures.facts

pub returns-in-Ok-clause-within : goal.returns-in-Ok-clause-within
returns-in-Ok-clause-within g c =
    c.in-Ok.ensures.within

pub returns-in-Ok-clause-taken : goal.returns-in-Ok-clause-taken
returns-in-Ok-clause-taken g c =
    let count : 2880 * c.from.result ≡ 2880 * c.in_ok-blocks.blocks = ap (λ n. 2880 * n) c.from.ensures in
    let size : length c.in_ok-buf.buf ≡ 2880 * c.in_ok-blocks.blocks = ap length c.in_ok-buf.ensures.bytes ∙ (length-replicate (2880 * c.from.result) 0 ∙ count) in
    let buf : List ℕ = c.read_before-answer.new.buf in
    let long : length buf ≡ length c.in_ok-buf.buf = c.read_before-answer.auto.buf ∙ ap length c.as_mut_slice.ensures.value in
    let back : length (take (length c.in_ok-buf.buf) (buf ++ drop (length buf) c.in_ok-buf.buf)) ≡ 2880 * c.in_ok-blocks.blocks = ap length (given_back c.in_ok-buf.buf buf long) ∙ (long ∙ size) in
    let took : c.bytes.new.self ≡ taken c.args.meter.now (2880 * c.in_ok-blocks.blocks) = c.in_ok-buf.ensures.taken.1 ∙ ap (taken c.args.meter.now) (ap (λ n. 2880 * n) c.from.ensures) in
    (omega (arith, c.in_ok-buf.ensures.taken.0, c.from.ensures, back), took ∙ ap (taken c.args.meter.now) (sym back))

pub returns-in-Ok-clause-most : goal.returns-in-Ok-clause-most
returns-in-Ok-clause-most g c =
    let took : c.bytes.new.self ≡ taken c.args.meter.now (2880 * c.in_ok-blocks.blocks) = c.in_ok-buf.ensures.taken.1 ∙ ap (taken c.args.meter.now) (ap (λ n. 2880 * n) c.from.ensures) in
    omega (arith, ap (λ (m : Gauge). m.peak) took, c.in_ok-blocks.ensures.range.1)

pub returns-in-Ok-clause-source : goal.returns-in-Ok-clause-source
returns-in-Ok-clause-source g c =
    record {
      held_is = c.read_before-answer.ensures.source.held_is ∙ c.in_ok-blocks.ensures.source.held_is;
      attached_is = c.read_before-answer.ensures.source.attached_is ∙ c.in_ok-blocks.ensures.source.attached_is;
      told = λ t. c.read_before-answer.ensures.source.told (c.in_ok-blocks.ensures.source.told t);
    }

pub returns-in-Err-clause-source : goal.returns-in-Err-clause-source
returns-in-Err-clause-source g c =
    record {
      held_is = c.read_before-answer.ensures.source.held_is ∙ c.in_ok-blocks.ensures.source.held_is;
      attached_is = c.read_before-answer.ensures.source.attached_is ∙ c.in_ok-blocks.ensures.source.attached_is;
      told = λ t. c.read_before-answer.ensures.source.told (c.in_ok-blocks.ensures.source.told t);
    }

pub returns-in-Ok-clause-cause : goal.returns-in-Ok-clause-cause
returns-in-Ok-clause-cause g c =
    read_well (g.S.Source.tally c.args.source.now) (g.S.Source.tally c.read_before-answer.new.source) c.args.meter.now.limit c.in-Ok.facts _ (subst (λ (t : Tally). ReadsOnly t (g.S.Source.tally c.read_before-answer.new.source) (Ok c.in-Ok.facts)) c.in_ok-blocks.ensures.cause.ok c.in-Ok.ensures.cause)

pub returns-in-Err-clause-cause : goal.returns-in-Err-clause-cause
returns-in-Err-clause-cause g c =
    read_stopped (g.S.Source.tally c.args.source.now) (g.S.Source.tally c.read_before-answer.new.source) c.args.meter.now.limit c.in-Err.stop (subst (λ (t : Tally). ReadsOnly {X = Header} t (g.S.Source.tally c.read_before-answer.new.source) (Err c.in-Err.stop)) c.in_ok-blocks.ensures.cause.ok c.in-Err.ensures.cause)

pub returns-in-Err-clause-limit : goal.returns-in-Err-clause-limit
returns-in-Err-clause-limit g c =
    no_limit ReadHeader (g.S.Source.tally c.header_blocks.new.source) (g.S.Source.tally c.read_before-answer.new.source) c.args.meter.now.limit (c.args.meter.now.live + 737280) c.in-Err.stop c.in-Err.ensures.cause.stop

pub returns-in-Err-clause-first_past : goal.returns-in-Err-clause-first_past
returns-in-Err-clause-first_past g c =
    let held : Option (List ℕ) = g.S.Source.held c.args.source.now in
    one_taken_then ReadHeader held (g.S.Source.tally c.header_blocks.new.source) (g.S.Source.tally c.read_before-answer.new.source) c.args.meter.now.limit c.args.meter.now.live c.args.hdu c.args.start c.in_ok-blocks.blocks c.in-Err.stop c.in-Err.ensures.cause.stop c.in_ok-blocks.ensures.exact (omega (arith, c.in_ok-buf.ensures.taken.0, c.from.ensures))

pub returns-in-Err-clause-given : goal.returns-in-Err-clause-given
returns-in-Err-clause-given g c =
    let count : 2880 * c.from.result ≡ 2880 * c.in_ok-blocks.blocks = ap (λ n. 2880 * n) c.from.ensures in
    let size : length c.in_ok-buf.buf ≡ 2880 * c.in_ok-blocks.blocks = ap length c.in_ok-buf.ensures.bytes ∙ (length-replicate (2880 * c.from.result) 0 ∙ count) in
    let buf : List ℕ = c.read_before-answer.new.buf in
    let long : length buf ≡ length c.in_ok-buf.buf = c.read_before-answer.auto.buf ∙ ap length c.as_mut_slice.ensures.value in
    let back : length (take (length c.in_ok-buf.buf) (buf ++ drop (length buf) c.in_ok-buf.buf)) ≡ 2880 * c.in_ok-blocks.blocks = ap length (given_back c.in_ok-buf.buf buf long) ∙ (long ∙ size) in
    let took : c.bytes.new.self ≡ taken c.args.meter.now (2880 * c.in_ok-blocks.blocks) = c.in_ok-buf.ensures.taken.1 ∙ ap (taken c.args.meter.now) (ap (λ n. 2880 * n) c.from.ensures) in
    let gave : c.give_bytes.new.self ≡ handed_back c.bytes.new.self (2880 * c.in_ok-blocks.blocks) = c.give_bytes.ensures ∙ ap (handed_back c.bytes.new.self) back in
    let live : c.give_bytes.new.self.live ≡ c.args.meter.now.live = omega (arith, ap (λ (m : Gauge). m.live) gave, ap (λ (m : Gauge). m.live) took) in
    (live, ap (λ (m : Gauge). m.limit) gave ∙ ap (λ (m : Gauge). m.limit) took, omega (arith, ap (λ (m : Gauge). m.peak) c.give_bytes.ensures, ap (λ (m : Gauge). m.peak) took))

pub returns-in-Err-clause-peak : goal.returns-in-Err-clause-peak
returns-in-Err-clause-peak g c =
    let held : Option (List ℕ) = g.S.Source.held c.args.source.now in
    let took : c.bytes.new.self ≡ taken c.args.meter.now (2880 * c.in_ok-blocks.blocks) = c.in_ok-buf.ensures.taken.1 ∙ ap (taken c.args.meter.now) (ap (λ n. 2880 * n) c.from.ensures) in
    peak_given held c.args.meter.now.peak c.give_bytes.new.self.peak c.args.meter.now.live c.args.hdu c.args.start c.in_ok-blocks.blocks c.in_ok-blocks.ensures.exact (omega (arith, ap (λ (m : Gauge). m.peak) c.give_bytes.ensures, ap (λ (m : Gauge). m.peak) took))

pub returns-in-Err-clause-most : goal.returns-in-Err-clause-most
returns-in-Err-clause-most g c =
    let took : c.bytes.new.self ≡ taken c.args.meter.now (2880 * c.in_ok-blocks.blocks) = c.in_ok-buf.ensures.taken.1 ∙ ap (taken c.args.meter.now) (ap (λ n. 2880 * n) c.from.ensures) in
    omega (arith, ap (λ (m : Gauge). m.peak) c.give_bytes.ensures, ap (λ (m : Gauge). m.peak) took, c.in_ok-blocks.ensures.range.1)
