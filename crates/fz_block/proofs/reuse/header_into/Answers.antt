-- The header is that of the file, where the source tells its bytes, whether or not the buffer has room for it.
use Rattle.std.proofs.Common.{◌≡◌, ℕ, ◌+◌, ◌-◌, ◌*◌, ◌≤◌, List, ◌++◌, Option, Ok, Err, IfSome, sym, subst, length, take, drop, ap, ◌∙◌, arith, refl}
use Rattle.fz_base.specs.Counts.{Tally}
use Rattle.fz_base.specs.Meter.{Gauge, handed_back}
use Rattle.fz_base.specs.Source.{HoldsLength, Reads}
use Rattle.fz_base.specs.Stop.{IsDefined, ReadsAndTakes, TellsLimit}
use Rattle.fz_base.specs.Takings.{TellsFirstPast}
use Rattle.fz_block.specs.Checks.{header_blocks_of, header_of, hdu_at}
use Rattle.fz_block.specs.Facts.{IsHeaderOf}
use Rattle.fz_block.specs.declared.header.Header.{Header}
use Rattle.fz_block.specs.declared.next.ReadHeader.{ReadHeader}
use Rattle.fz_block.specs.Takings.{facts_in, header_taking}
use Rattle.fz_block.proofs.Causes.{low_peak, no_limit, none_taken, read_refused, read_stopped, read_well}
use Rattle.fz_block.proofs.Fitting.{given_back, kept_is, peak_kept}
use Rattle.fz_block.proofs.Kept.{kept_facts, kept_header}
use Rattle.fz_block.proofs.Longer.{longer_bytes, longer_facts, longer_given, longer_limit, longer_live, longer_peak, longer_reached, longer_room}
use Rattle.fz_block.proofs.Nexts.{blocks_refuse, logs_next, peak_given, taking_given, touched_next}
use Rattle.fz_block.proofs.reuse.header_into.Goals as goal

pub returns-in-Err-clause-exact : goal.returns-in-Err-clause-exact
returns-in-Err-clause-exact g c =
    blocks_refuse (g.S.Source.held c.args.source.now) c.args.hdu c.args.start c.in-Err.stop c.in-Err.ensures.exact

pub returns-then-size-len-clause-touched : goal.returns-then-size-len-clause-touched
returns-then-size-len-clause-touched g c =
    let held : Option (List ℕ) = g.S.Source.held c.args.source.now in
    let told : HoldsLength held c.args.length = g.met.S.Source.agrees c.args.source.now c.args.length c.requires.attached in
    touched_next c.log_law.ensures.both c.log_law.ensures.wider held c.args.length c.args.hdu c.args.start c.in-Ok.blocks (2880 * c.in-Ok.blocks)
    (g.S.Source.ranges c.args.source.now) (g.S.Source.ranges c.header_blocks-answer.new.source) (g.S.Source.ranges c.longer_header.new.source)
    told c.in-Ok.ensures.exact refl c.in-Ok.ensures.range.2 c.in-Ok.ensures.touched c.longer_header.ensures.log

pub returns-then-size-len-clause-log : goal.returns-then-size-len-clause-log
returns-then-size-len-clause-log g c =
    logs_next c.log_law.ensures.both c.log_law.ensures.wider c.args.length c.args.start c.in-Ok.blocks (2880 * c.in-Ok.blocks)
    (g.S.Source.ranges c.args.source.now) (g.S.Source.ranges c.header_blocks-answer.new.source) (g.S.Source.ranges c.longer_header.new.source)
    refl c.in-Ok.ensures.range.1 c.in-Ok.ensures.range.2 c.in-Ok.ensures.log c.longer_header.ensures.log

pub returns-in-Ok-buffered_header-clause-exact : goal.returns-in-Ok-buffered_header-clause-exact
returns-in-Ok-buffered_header-clause-exact g c =
    let held : Option (List ℕ) = g.S.Source.held c.args.source.now in
    let told : HoldsLength held c.args.length = g.met.S.Source.agrees c.args.source.now c.args.length c.requires.attached in
    let buf : List ℕ = c.header_blocks-answer.new.buf in
    let long : length buf ≡ length c.args.room = c.header_blocks-answer.auto.buf ∙ ap length c.as_mut_slice.ensures.value in
    let back : take (length c.args.room) (buf ++ drop (length buf) c.args.room) ≡ buf = given_back c.args.room buf long in
    let size : length (take (length c.args.room) (buf ++ drop (length buf) c.args.room)) ≡ length buf = ap length back in
    let fits : 2880 * c.in-Ok.blocks ≤ length buf = omega (arith, c.if-size-len.false, c.len.ensures, size) in
    let same : c.as_slice.result.now ≡ buf = c.as_slice.ensures ∙ back in
    kept_is held c.args.length c.args.hdu c.args.start c.in-Ok.blocks buf (Ok c.in-Ok-buffered_header.facts) told c.in-Ok.ensures.exact fits c.in-Ok.ensures.kept
    (c.in-Ok-buffered_header.ensures.exact ∙ ap (λ b. header_of c.args.hdu c.args.start c.args.length (take (2880 * c.in-Ok.blocks) b)) same)

pub returns-in-Err-buffered_header-clause-exact : goal.returns-in-Err-buffered_header-clause-exact
returns-in-Err-buffered_header-clause-exact g c =
    let held : Option (List ℕ) = g.S.Source.held c.args.source.now in
    let told : HoldsLength held c.args.length = g.met.S.Source.agrees c.args.source.now c.args.length c.requires.attached in
    let buf : List ℕ = c.header_blocks-answer.new.buf in
    let long : length buf ≡ length c.args.room = c.header_blocks-answer.auto.buf ∙ ap length c.as_mut_slice.ensures.value in
    let back : take (length c.args.room) (buf ++ drop (length buf) c.args.room) ≡ buf = given_back c.args.room buf long in
    let size : length (take (length c.args.room) (buf ++ drop (length buf) c.args.room)) ≡ length buf = ap length back in
    let fits : 2880 * c.in-Ok.blocks ≤ length buf = omega (arith, c.if-size-len.false, c.len.ensures, size) in
    let same : c.as_slice.result.now ≡ buf = c.as_slice.ensures ∙ back in
    kept_is held c.args.length c.args.hdu c.args.start c.in-Ok.blocks buf (Err c.in-Err-buffered_header.fault) told c.in-Ok.ensures.exact fits c.in-Ok.ensures.kept
    (c.in-Err-buffered_header.ensures.exact ∙ ap (λ b. header_of c.args.hdu c.args.start c.args.length (take (2880 * c.in-Ok.blocks) b)) same)

pub returns-in-Ok-buffered_header-clause-bytes : goal.returns-in-Ok-buffered_header-clause-bytes
returns-in-Ok-buffered_header-clause-bytes g c =
    let held : Option (List ℕ) = g.S.Source.held c.args.source.now in
    let buf : List ℕ = c.header_blocks-answer.new.buf in
    let long : length buf ≡ length c.args.room = c.header_blocks-answer.auto.buf ∙ ap length c.as_mut_slice.ensures.value in
    let back : take (length c.args.room) (buf ++ drop (length buf) c.args.room) ≡ buf = given_back c.args.room buf long in
    let size : length (take (length c.args.room) (buf ++ drop (length buf) c.args.room)) ≡ length buf = ap length back in
    let fits : 2880 * c.in-Ok.blocks ≤ length buf = omega (arith, c.if-size-len.false, c.len.ensures, size) in
    let same : c.as_slice.result.now ≡ buf = c.as_slice.ensures ∙ back in
    let h : Header = c.in-Ok-buffered_header.facts in
    let is : IsHeaderOf (take (2880 * c.in-Ok.blocks) buf) h = subst (λ b. IsHeaderOf (take (2880 * c.in-Ok.blocks) b) h) same c.in-Ok-buffered_header.ensures.facts.0 in
    subst (λ b. Reads held c.args.start (take (2880 * h.blocks) b)) (sym back) (kept_header held c.args.start c.in-Ok.blocks buf h c.in-Ok.ensures.kept fits is)

pub returns-in-Ok-buffered_header-clause-facts : goal.returns-in-Ok-buffered_header-clause-facts
returns-in-Ok-buffered_header-clause-facts g c =
    let buf : List ℕ = c.header_blocks-answer.new.buf in
    let long : length buf ≡ length c.args.room = c.header_blocks-answer.auto.buf ∙ ap length c.as_mut_slice.ensures.value in
    let back : take (length c.args.room) (buf ++ drop (length buf) c.args.room) ≡ buf = given_back c.args.room buf long in
    let size : length (take (length c.args.room) (buf ++ drop (length buf) c.args.room)) ≡ length buf = ap length back in
    let fits : 2880 * c.in-Ok.blocks ≤ length buf = omega (arith, c.if-size-len.false, c.len.ensures, size) in
    let same : c.as_slice.result.now ≡ buf = c.as_slice.ensures ∙ back in
    let h : Header = c.in-Ok-buffered_header.facts in
    let is : IsHeaderOf (take (2880 * c.in-Ok.blocks) buf) h × (h.hdu ≡ c.args.hdu) × (h.start ≡ c.args.start) =
    subst (λ b. IsHeaderOf (take (2880 * c.in-Ok.blocks) b) h × (h.hdu ≡ c.args.hdu) × (h.start ≡ c.args.start)) same c.in-Ok-buffered_header.ensures.facts in
    subst (λ b. IsHeaderOf (take (2880 * h.blocks) b) h × (h.hdu ≡ c.args.hdu) × (h.start ≡ c.args.start)) (sym back) (kept_facts c.in-Ok.blocks c.args.hdu c.args.start buf h fits is)

pub returns-in-Ok-buffered_header-clause-first_past : goal.returns-in-Ok-buffered_header-clause-first_past
returns-in-Ok-buffered_header-clause-first_past g c =
    let held : Option (List ℕ) = g.S.Source.held c.args.source.now in
    let buf : List ℕ = c.header_blocks-answer.new.buf in
    let long : length buf ≡ length c.args.room = c.header_blocks-answer.auto.buf ∙ ap length c.as_mut_slice.ensures.value in
    let back : take (length c.args.room) (buf ++ drop (length buf) c.args.room) ≡ buf = given_back c.args.room buf long in
    let size : length (take (length c.args.room) (buf ++ drop (length buf) c.args.room)) ≡ length buf = ap length back in
    let fits : 2880 * c.in-Ok.blocks ≤ length buf = omega (arith, c.if-size-len.false, c.len.ensures, size) in
    taking_given held c.args.meter.now.limit (c.args.meter.now.live - length c.args.room) c.args.hdu c.args.start c.in-Ok.blocks c.in-Ok.ensures.exact
    (omega (arith, fits, long, c.requires.room.1, c.live-live.ensures.value, c.live-live.ensures.below_peak, c.peak-peak.ensures.value, c.peak-peak.ensures.below_limit))

pub returns-in-Ok-buffered_header-clause-peak : goal.returns-in-Ok-buffered_header-clause-peak
returns-in-Ok-buffered_header-clause-peak g c =
    let held : Option (List ℕ) = g.S.Source.held c.args.source.now in
    peak_given held c.args.meter.now.peak c.args.meter.now.peak (c.args.meter.now.live - length c.args.room) c.args.hdu c.args.start c.in-Ok.blocks c.in-Ok.ensures.exact (omega arith)

pub returns-in-Ok-buffered_header-clause-exact_peak : goal.returns-in-Ok-buffered_header-clause-exact_peak
returns-in-Ok-buffered_header-clause-exact_peak g c =
    let held : Option (List ℕ) = g.S.Source.held c.args.source.now in
    let buf : List ℕ = c.header_blocks-answer.new.buf in
    let long : length buf ≡ length c.args.room = c.header_blocks-answer.auto.buf ∙ ap length c.as_mut_slice.ensures.value in
    let back : take (length c.args.room) (buf ++ drop (length buf) c.args.room) ≡ buf = given_back c.args.room buf long in
    let size : length (take (length c.args.room) (buf ++ drop (length buf) c.args.room)) ≡ length buf = ap length back in
    let fits : 2880 * c.in-Ok.blocks ≤ length buf = omega (arith, c.if-size-len.false, c.len.ensures, size) in
    peak_kept held c.args.meter.now.peak (c.args.meter.now.live - length c.args.room) c.args.hdu c.args.start c.in-Ok.blocks c.in-Ok.ensures.exact
    (omega (arith, fits, long, c.requires.room.1, c.live-live.ensures.value, c.live-live.ensures.below_peak))

pub returns-in-Err-clause-given : goal.returns-in-Err-clause-given
returns-in-Err-clause-given g c =
    let buf : List ℕ = c.header_blocks-answer.new.buf in
    let long : length buf ≡ length c.args.room = c.header_blocks-answer.auto.buf ∙ ap length c.as_mut_slice.ensures.value in
    let size : length (take (length c.args.room) (buf ++ drop (length buf) c.args.room)) ≡ length c.args.room = ap length (given_back c.args.room buf long) ∙ long in
    let back : c.give_bytes.new.self ≡ handed_back c.args.meter.now (length c.args.room) = c.give_bytes.ensures ∙ ap (handed_back c.args.meter.now) size in
    ap (λ (m : Gauge). m.live) back

pub returns-in-Err-clause-risen : goal.returns-in-Err-clause-risen
returns-in-Err-clause-risen g c =
    (ap (λ (m : Gauge). m.limit) c.give_bytes.ensures, omega (arith, ap (λ (m : Gauge). m.peak) c.give_bytes.ensures))

pub returns-in-Err-clause-most : goal.returns-in-Err-clause-most
returns-in-Err-clause-most g c =
    omega (arith, ap (λ (m : Gauge). m.peak) c.give_bytes.ensures)

pub returns-in-Err-clause-first_past : goal.returns-in-Err-clause-first_past
returns-in-Err-clause-first_past g c =
    let held : Option (List ℕ) = g.S.Source.held c.args.source.now in
    none_taken ReadHeader held (g.S.Source.tally c.args.source.now) (g.S.Source.tally c.header_blocks-answer.new.source) c.args.meter.now.limit (c.args.meter.now.live - length c.args.room) c.args.hdu c.args.start c.in-Err.stop c.in-Err.ensures.cause.stop c.in-Err.ensures.exact

pub returns-in-Err-clause-peak : goal.returns-in-Err-clause-peak
returns-in-Err-clause-peak g c =
    let held : Option (List ℕ) = g.S.Source.held c.args.source.now in
    low_peak held c.args.meter.now.peak c.give_bytes.new.self.peak (c.args.meter.now.live - length c.args.room) c.args.hdu c.args.start (ap (λ (m : Gauge). m.peak) c.give_bytes.ensures)

pub returns-in-Err-clause-limit : goal.returns-in-Err-clause-limit
returns-in-Err-clause-limit g c =
    no_limit ReadHeader (g.S.Source.tally c.args.source.now) (g.S.Source.tally c.header_blocks-answer.new.source) c.args.meter.now.limit ((c.args.meter.now.live - length c.args.room) + 737280) c.in-Err.stop c.in-Err.ensures.cause.stop

pub returns-in-Err-clause-touched : goal.returns-in-Err-clause-touched
returns-in-Err-clause-touched g c =
    c.in-Err.ensures.touched

pub returns-in-Err-clause-log : goal.returns-in-Err-clause-log
returns-in-Err-clause-log g c =
    c.in-Err.ensures.log

pub returns-in-Err-clause-source : goal.returns-in-Err-clause-source
returns-in-Err-clause-source g c =
    c.in-Err.ensures.source

pub returns-in-Err-clause-cause : goal.returns-in-Err-clause-cause
returns-in-Err-clause-cause g c =
    read_stopped (g.S.Source.tally c.args.source.now) (g.S.Source.tally c.header_blocks-answer.new.source) c.args.meter.now.limit c.in-Err.stop c.in-Err.ensures.cause

pub longer_header-requires-clause-attached : goal.longer_header-requires-clause-attached
longer_header-requires-clause-attached g c =
    c.in-Ok.ensures.source.attached_is ∙ c.requires.attached

pub longer_header-requires-clause-found : goal.longer_header-requires-clause-found
longer_header-requires-clause-found g c =
    subst (λ h. IfSome h (λ f. header_blocks_of c.args.hdu c.args.start f ≡ Ok c.in-Ok.blocks)) (sym c.in-Ok.ensures.source.held_is) c.in-Ok.ensures.exact

pub longer_header-requires-clause-range : goal.longer_header-requires-clause-range
longer_header-requires-clause-range g c =
    c.in-Ok.ensures.range

pub returns-then-size-len-clause-exact : goal.returns-then-size-len-clause-exact
returns-then-size-len-clause-exact g c =
    subst (λ h. IfSome h (λ f. IsDefined (hdu_at c.args.hdu c.args.start f) (facts_in c.longer_header.result))) c.in-Ok.ensures.source.held_is c.longer_header.ensures.exact

pub returns-then-size-len-clause-bytes : goal.returns-then-size-len-clause-bytes
returns-then-size-len-clause-bytes g c =
    let held : Option (List ℕ) = g.S.Source.held c.args.source.now in
    longer_bytes held (g.S.Source.held c.header_blocks-answer.new.source) c.args.hdu c.args.start c.longer_header.result c.in-Ok.ensures.source.held_is c.longer_header.ensures.facts c.longer_header.ensures.bytes

pub returns-then-size-len-clause-facts : goal.returns-then-size-len-clause-facts
returns-then-size-len-clause-facts g c =
    longer_facts c.args.hdu c.args.start c.longer_header.result c.longer_header.ensures.facts

pub returns-then-size-len-clause-within : goal.returns-then-size-len-clause-within
returns-then-size-len-clause-within g c =
    c.longer_header.ensures.within

pub returns-then-size-len-clause-room : goal.returns-then-size-len-clause-room
returns-then-size-len-clause-room g c =
    let buf : List ℕ = c.header_blocks-answer.new.buf in
    let long : length buf ≡ length c.args.room = c.header_blocks-answer.auto.buf ∙ ap length c.as_mut_slice.ensures.value in
    let size : length (take (length c.args.room) (buf ++ drop (length buf) c.args.room)) ≡ length c.args.room = ap length (given_back c.args.room buf long) ∙ long in
    longer_room c.args.hdu c.args.start (length c.args.room) c.in-Ok.blocks c.longer_header.result (omega (arith, c.if-size-len.true, c.len.ensures, size)) c.longer_header.ensures.facts c.longer_header.ensures.len

pub returns-then-size-len-clause-live : goal.returns-then-size-len-clause-live
returns-then-size-len-clause-live g c =
    let buf : List ℕ = c.header_blocks-answer.new.buf in
    let long : length buf ≡ length c.args.room = c.header_blocks-answer.auto.buf ∙ ap length c.as_mut_slice.ensures.value in
    let size : length (take (length c.args.room) (buf ++ drop (length buf) c.args.room)) ≡ length c.args.room = ap length (given_back c.args.room buf long) ∙ long in
    let back : c.give_bytes-then-size-len.new.self ≡ handed_back c.args.meter.now (length c.args.room) = c.give_bytes-then-size-len.ensures ∙ ap (handed_back c.args.meter.now) size in
    longer_live c.args.meter.now c.give_bytes-then-size-len.new.self c.longer_header.new.meter (length c.args.room) c.in-Ok.blocks c.longer_header.result back c.longer_header.ensures.taken c.longer_header.ensures.len

pub returns-then-size-len-clause-reached : goal.returns-then-size-len-clause-reached
returns-then-size-len-clause-reached g c =
    let buf : List ℕ = c.header_blocks-answer.new.buf in
    let long : length buf ≡ length c.args.room = c.header_blocks-answer.auto.buf ∙ ap length c.as_mut_slice.ensures.value in
    let size : length (take (length c.args.room) (buf ++ drop (length buf) c.args.room)) ≡ length c.args.room = ap length (given_back c.args.room buf long) ∙ long in
    let back : c.give_bytes-then-size-len.new.self ≡ handed_back c.args.meter.now (length c.args.room) = c.give_bytes-then-size-len.ensures ∙ ap (handed_back c.args.meter.now) size in
    longer_reached c.args.meter.now c.give_bytes-then-size-len.new.self c.longer_header.new.meter (length c.args.room) c.in-Ok.blocks c.longer_header.result back c.longer_header.ensures.taken

pub returns-then-size-len-clause-given : goal.returns-then-size-len-clause-given
returns-then-size-len-clause-given g c =
    let buf : List ℕ = c.header_blocks-answer.new.buf in
    let long : length buf ≡ length c.args.room = c.header_blocks-answer.auto.buf ∙ ap length c.as_mut_slice.ensures.value in
    let size : length (take (length c.args.room) (buf ++ drop (length buf) c.args.room)) ≡ length c.args.room = ap length (given_back c.args.room buf long) ∙ long in
    let back : c.give_bytes-then-size-len.new.self ≡ handed_back c.args.meter.now (length c.args.room) = c.give_bytes-then-size-len.ensures ∙ ap (handed_back c.args.meter.now) size in
    longer_given c.args.meter.now c.give_bytes-then-size-len.new.self c.longer_header.new.meter (length c.args.room) c.longer_header.result back c.longer_header.ensures.given

pub returns-then-size-len-clause-risen : goal.returns-then-size-len-clause-risen
returns-then-size-len-clause-risen g c =
    let buf : List ℕ = c.header_blocks-answer.new.buf in
    let long : length buf ≡ length c.args.room = c.header_blocks-answer.auto.buf ∙ ap length c.as_mut_slice.ensures.value in
    let size : length (take (length c.args.room) (buf ++ drop (length buf) c.args.room)) ≡ length c.args.room = ap length (given_back c.args.room buf long) ∙ long in
    let back : c.give_bytes-then-size-len.new.self ≡ handed_back c.args.meter.now (length c.args.room) = c.give_bytes-then-size-len.ensures ∙ ap (handed_back c.args.meter.now) size in (
      longer_limit c.args.meter.now c.give_bytes-then-size-len.new.self c.longer_header.new.meter (length c.args.room) c.in-Ok.blocks c.longer_header.result back c.longer_header.ensures.taken c.longer_header.ensures.given,
      omega (arith, ap (λ (m : Gauge). m.peak) back, c.longer_header.ensures.peak.0),
    )

pub returns-then-size-len-clause-first_past : goal.returns-then-size-len-clause-first_past
returns-then-size-len-clause-first_past g c =
    let buf : List ℕ = c.header_blocks-answer.new.buf in
    let long : length buf ≡ length c.args.room = c.header_blocks-answer.auto.buf ∙ ap length c.as_mut_slice.ensures.value in
    let size : length (take (length c.args.room) (buf ++ drop (length buf) c.args.room)) ≡ length c.args.room = ap length (given_back c.args.room buf long) ∙ long in
    let back : c.give_bytes-then-size-len.new.self ≡ handed_back c.args.meter.now (length c.args.room) = c.give_bytes-then-size-len.ensures ∙ ap (handed_back c.args.meter.now) size in
    let past : IfSome (g.S.Source.held c.header_blocks-answer.new.source) (λ f. TellsFirstPast c.args.meter.now.limit (header_taking (c.args.meter.now.live - length c.args.room) (header_blocks_of c.args.hdu c.args.start f)) c.longer_header.result) =
    subst (λ (m : Gauge). IfSome (g.S.Source.held c.header_blocks-answer.new.source) (λ f. TellsFirstPast m.limit (header_taking m.live (header_blocks_of c.args.hdu c.args.start f)) c.longer_header.result)) back c.longer_header.ensures.first_past in
    subst (λ h. IfSome h (λ f. TellsFirstPast c.args.meter.now.limit (header_taking (c.args.meter.now.live - length c.args.room) (header_blocks_of c.args.hdu c.args.start f)) c.longer_header.result)) c.in-Ok.ensures.source.held_is past

pub returns-then-size-len-clause-peak : goal.returns-then-size-len-clause-peak
returns-then-size-len-clause-peak g c =
    let held : Option (List ℕ) = g.S.Source.held c.args.source.now in
    let buf : List ℕ = c.header_blocks-answer.new.buf in
    let long : length buf ≡ length c.args.room = c.header_blocks-answer.auto.buf ∙ ap length c.as_mut_slice.ensures.value in
    let size : length (take (length c.args.room) (buf ++ drop (length buf) c.args.room)) ≡ length c.args.room = ap length (given_back c.args.room buf long) ∙ long in
    let back : c.give_bytes-then-size-len.new.self ≡ handed_back c.args.meter.now (length c.args.room) = c.give_bytes-then-size-len.ensures ∙ ap (handed_back c.args.meter.now) size in
    peak_given held c.args.meter.now.peak c.longer_header.new.meter.peak (c.args.meter.now.live - length c.args.room) c.args.hdu c.args.start c.in-Ok.blocks c.in-Ok.ensures.exact
    (omega (arith, ap (λ (m : Gauge). m.peak) back, ap (λ (m : Gauge). m.live) back, c.longer_header.ensures.peak.1))

pub returns-then-size-len-clause-exact_peak : goal.returns-then-size-len-clause-exact_peak
returns-then-size-len-clause-exact_peak g c =
    let held : Option (List ℕ) = g.S.Source.held c.args.source.now in
    let buf : List ℕ = c.header_blocks-answer.new.buf in
    let long : length buf ≡ length c.args.room = c.header_blocks-answer.auto.buf ∙ ap length c.as_mut_slice.ensures.value in
    let size : length (take (length c.args.room) (buf ++ drop (length buf) c.args.room)) ≡ length c.args.room = ap length (given_back c.args.room buf long) ∙ long in
    let back : c.give_bytes-then-size-len.new.self ≡ handed_back c.args.meter.now (length c.args.room) = c.give_bytes-then-size-len.ensures ∙ ap (handed_back c.args.meter.now) size in
    longer_peak held c.args.meter.now c.give_bytes-then-size-len.new.self c.longer_header.new.meter (length c.args.room) c.in-Ok.blocks c.args.hdu c.args.start c.longer_header.result back c.in-Ok.ensures.exact c.longer_header.ensures.taken

pub returns-then-size-len-clause-most : goal.returns-then-size-len-clause-most
returns-then-size-len-clause-most g c =
    let buf : List ℕ = c.header_blocks-answer.new.buf in
    let long : length buf ≡ length c.args.room = c.header_blocks-answer.auto.buf ∙ ap length c.as_mut_slice.ensures.value in
    let size : length (take (length c.args.room) (buf ++ drop (length buf) c.args.room)) ≡ length c.args.room = ap length (given_back c.args.room buf long) ∙ long in
    let back : c.give_bytes-then-size-len.new.self ≡ handed_back c.args.meter.now (length c.args.room) = c.give_bytes-then-size-len.ensures ∙ ap (handed_back c.args.meter.now) size in
    omega (arith, ap (λ (m : Gauge). m.peak) back, ap (λ (m : Gauge). m.live) back, c.longer_header.ensures.peak.1, c.in-Ok.ensures.range.1)

pub returns-then-size-len-clause-limit : goal.returns-then-size-len-clause-limit
returns-then-size-len-clause-limit g c =
    let buf : List ℕ = c.header_blocks-answer.new.buf in
    let long : length buf ≡ length c.args.room = c.header_blocks-answer.auto.buf ∙ ap length c.as_mut_slice.ensures.value in
    let size : length (take (length c.args.room) (buf ++ drop (length buf) c.args.room)) ≡ length c.args.room = ap length (given_back c.args.room buf long) ∙ long in
    let back : c.give_bytes-then-size-len.new.self ≡ handed_back c.args.meter.now (length c.args.room) = c.give_bytes-then-size-len.ensures ∙ ap (handed_back c.args.meter.now) size in
    subst (λ (m : Gauge). TellsLimit m.limit (m.live + 737280) c.longer_header.result) back c.longer_header.ensures.limit

pub returns-then-size-len-clause-source : goal.returns-then-size-len-clause-source
returns-then-size-len-clause-source g c =
    record {
      held_is = c.longer_header.ensures.source.held_is ∙ c.in-Ok.ensures.source.held_is;
      attached_is = c.longer_header.ensures.source.attached_is ∙ c.in-Ok.ensures.source.attached_is;
      told = λ t. c.longer_header.ensures.source.told (c.in-Ok.ensures.source.told t);
    }

pub returns-then-size-len-clause-cause : goal.returns-then-size-len-clause-cause
returns-then-size-len-clause-cause g c =
    let now : Tally = g.S.Source.tally c.longer_header.new.source in
    subst (λ (limit : ℕ). ReadsAndTakes (g.S.Source.tally c.args.source.now) now limit c.longer_header.result) (ap (λ (m : Gauge). m.limit) c.give_bytes-then-size-len.ensures)
    (subst (λ (t : Tally). ReadsAndTakes t now c.give_bytes-then-size-len.new.self.limit c.longer_header.result) c.in-Ok.ensures.cause.ok c.longer_header.ensures.cause)

pub returns-in-Ok-buffered_header-clause-within : goal.returns-in-Ok-buffered_header-clause-within
returns-in-Ok-buffered_header-clause-within g c =
    c.in-Ok-buffered_header.ensures.within

pub returns-in-Ok-buffered_header-clause-live : goal.returns-in-Ok-buffered_header-clause-live
returns-in-Ok-buffered_header-clause-live g c =
    let buf : List ℕ = c.header_blocks-answer.new.buf in
    let long : length buf ≡ length c.args.room = c.header_blocks-answer.auto.buf ∙ ap length c.as_mut_slice.ensures.value in
    let size : length (take (length c.args.room) (buf ++ drop (length buf) c.args.room)) ≡ length c.args.room = ap length (given_back c.args.room buf long) ∙ long in
    (omega (arith, size, c.requires.room.1), omega (arith, size))

pub returns-in-Ok-buffered_header-clause-reached : goal.returns-in-Ok-buffered_header-clause-reached
returns-in-Ok-buffered_header-clause-reached g c =
    omega (arith, c.live-live.ensures.value, c.live-live.ensures.below_peak)

pub returns-in-Ok-buffered_header-clause-risen : goal.returns-in-Ok-buffered_header-clause-risen
returns-in-Ok-buffered_header-clause-risen g c =
    (refl, omega arith)

pub returns-in-Ok-buffered_header-clause-most : goal.returns-in-Ok-buffered_header-clause-most
returns-in-Ok-buffered_header-clause-most g c =
    omega arith

pub returns-in-Err-buffered_header-clause-given : goal.returns-in-Err-buffered_header-clause-given
returns-in-Err-buffered_header-clause-given g c =
    let buf : List ℕ = c.header_blocks-answer.new.buf in
    let long : length buf ≡ length c.args.room = c.header_blocks-answer.auto.buf ∙ ap length c.as_mut_slice.ensures.value in
    let size : length (take (length c.args.room) (buf ++ drop (length buf) c.args.room)) ≡ length c.args.room = ap length (given_back c.args.room buf long) ∙ long in
    let back : c.give_bytes-in-Err-buffered_header.new.self ≡ handed_back c.args.meter.now (length c.args.room) = c.give_bytes-in-Err-buffered_header.ensures ∙ ap (handed_back c.args.meter.now) size in
    ap (λ (m : Gauge). m.live) back

pub returns-in-Err-buffered_header-clause-risen : goal.returns-in-Err-buffered_header-clause-risen
returns-in-Err-buffered_header-clause-risen g c =
    (ap (λ (m : Gauge). m.limit) c.give_bytes-in-Err-buffered_header.ensures, omega (arith, ap (λ (m : Gauge). m.peak) c.give_bytes-in-Err-buffered_header.ensures))

pub returns-in-Err-buffered_header-clause-most : goal.returns-in-Err-buffered_header-clause-most
returns-in-Err-buffered_header-clause-most g c =
    omega (arith, ap (λ (m : Gauge). m.peak) c.give_bytes-in-Err-buffered_header.ensures)

pub returns-in-Ok-buffered_header-clause-touched : goal.returns-in-Ok-buffered_header-clause-touched
returns-in-Ok-buffered_header-clause-touched g c =
    c.in-Ok.ensures.touched

pub returns-in-Ok-buffered_header-clause-log : goal.returns-in-Ok-buffered_header-clause-log
returns-in-Ok-buffered_header-clause-log g c =
    c.in-Ok.ensures.log

pub returns-in-Ok-buffered_header-clause-source : goal.returns-in-Ok-buffered_header-clause-source
returns-in-Ok-buffered_header-clause-source g c =
    c.in-Ok.ensures.source

pub returns-in-Err-buffered_header-clause-touched : goal.returns-in-Err-buffered_header-clause-touched
returns-in-Err-buffered_header-clause-touched g c =
    c.in-Ok.ensures.touched

pub returns-in-Err-buffered_header-clause-log : goal.returns-in-Err-buffered_header-clause-log
returns-in-Err-buffered_header-clause-log g c =
    c.in-Ok.ensures.log

pub returns-in-Err-buffered_header-clause-source : goal.returns-in-Err-buffered_header-clause-source
returns-in-Err-buffered_header-clause-source g c =
    c.in-Ok.ensures.source

pub returns-in-Ok-buffered_header-clause-cause : goal.returns-in-Ok-buffered_header-clause-cause
returns-in-Ok-buffered_header-clause-cause g c =
    read_well (g.S.Source.tally c.args.source.now) (g.S.Source.tally c.header_blocks-answer.new.source) c.args.meter.now.limit c.in-Ok.blocks _ c.in-Ok.ensures.cause

pub returns-in-Err-buffered_header-clause-cause : goal.returns-in-Err-buffered_header-clause-cause
returns-in-Err-buffered_header-clause-cause g c =
    read_refused (g.S.Source.tally c.args.source.now) (g.S.Source.tally c.header_blocks-answer.new.source) c.args.meter.now.limit c.in-Ok.blocks c.in-Err-buffered_header.fault c.in-Ok.ensures.cause

pub returns-in-Err-buffered_header-clause-first_past : goal.returns-in-Err-buffered_header-clause-first_past
returns-in-Err-buffered_header-clause-first_past g c =
    let held : Option (List ℕ) = g.S.Source.held c.args.source.now in
    let buf : List ℕ = c.header_blocks-answer.new.buf in
    let long : length buf ≡ length c.args.room = c.header_blocks-answer.auto.buf ∙ ap length c.as_mut_slice.ensures.value in
    let size : length (take (length c.args.room) (buf ++ drop (length buf) c.args.room)) ≡ length c.args.room = ap length (given_back c.args.room buf long) ∙ long in
    let fits : 2880 * c.in-Ok.blocks ≤ length buf = omega (arith, c.if-size-len.false, c.len.ensures, size, long) in
    taking_given held c.args.meter.now.limit (c.args.meter.now.live - length c.args.room) c.args.hdu c.args.start c.in-Ok.blocks c.in-Ok.ensures.exact
    (omega (arith, fits, long, c.requires.room.1, c.live-live.ensures.value, c.live-live.ensures.below_peak, c.peak-peak.ensures.value, c.peak-peak.ensures.below_limit))

pub returns-in-Err-buffered_header-clause-peak : goal.returns-in-Err-buffered_header-clause-peak
returns-in-Err-buffered_header-clause-peak g c =
    let held : Option (List ℕ) = g.S.Source.held c.args.source.now in
    low_peak held c.args.meter.now.peak c.give_bytes-in-Err-buffered_header.new.self.peak (c.args.meter.now.live - length c.args.room) c.args.hdu c.args.start (ap (λ (m : Gauge). m.peak) c.give_bytes-in-Err-buffered_header.ensures)
