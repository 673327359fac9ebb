-- The header is that of the file, where the source tells its bytes, and a refusal names the HDU.
use Rattle.std.proofs.Common.{◌≡◌, ℕ, ◌*◌, ◌≤◌, ◌<◌, List, Option, Result, Ok, Err, refl, sym, subst, rules, length, take, IfSome}
use Rattle.fz_base.specs.Source.{HoldsLength}
use Rattle.fz_base.specs.Stop.{IsDefined, IfRefused, ReadsOnly}
use Rattle.fz_base.specs.declared.fault.Fault.{Fault}
use Rattle.fz_base.specs.declared.failure.Stop.{Stop}
use Rattle.fz_base.specs.declared.failure.Stop.TheVariants.{Refused}
use Rattle.fz_block.specs.Again.{hdu_again_at}
use Rattle.fz_block.specs.declared.header.Header.{Header}
use Rattle.fz_block.proofs.Agains.{again_refused, found_kept, without_room}
use Rattle.fz_block.proofs.Kept.{kept_facts, kept_header}
use Rattle.fz_block.proofs.Named.{header_names, blocks_name}
use Rattle.fz_block.proofs.again.header_again.Goals as goal

pub returns-in_err-blocks-clause-exact : goal.returns-in_err-blocks-clause-exact
returns-in_err-blocks-clause-exact g c =
    let stopped : c.from_residual.result ≡ Err c.in_err-blocks.field-0.0 = search rules in
    let held : Option (List ℕ) = g.S.Source.held c.args.source.now in
    subst (λ (r : Result Header Stop). IfSome held (λ f. IsDefined (hdu_again_at (length c.args.buf.now) c.args.hdu c.args.start f) r)) (sym stopped)
    (again_refused held c.args.hdu c.args.start (length c.args.buf.now) c.in_err-blocks.field-0.0 c.in_err-blocks.ensures.exact)

pub returns-in_err-blocks-clause-refused : goal.returns-in_err-blocks-clause-refused
returns-in_err-blocks-clause-refused g c =
    let stopped : c.from_residual.result ≡ Err c.in_err-blocks.field-0.0 = search rules in
    subst (λ (r : Result Header Stop). IfRefused r (λ x. x.hdu ≡ c.args.hdu)) (sym stopped) (blocks_name c.args.hdu c.in_err-blocks.field-0.0 c.in_err-blocks.ensures.refused)

pub returns-then-size-buf-clause-exact : goal.returns-then-size-buf-clause-exact
returns-then-size-buf-clause-exact g c =
    let held : Option (List ℕ) = g.S.Source.held c.args.source.now in
    let over : length c.args.buf.now < 2880 * c.in_ok-blocks.blocks = search rules in
    subst (λ (x : Fault). IfSome held (λ f. hdu_again_at (length c.args.buf.now) c.args.hdu c.args.start f ≡ Err x)) (sym c.refused.ensures)
    (without_room held c.args.hdu c.args.start c.in_ok-blocks.blocks (length c.args.buf.now) c.in_ok-blocks.ensures.exact over)

pub returns-in-Ok-clause-exact : goal.returns-in-Ok-clause-exact
returns-in-Ok-clause-exact g c =
    let held : Option (List ℕ) = g.S.Source.held c.args.source.now in
    let told : HoldsLength held c.args.length = g.met.S.Source.agrees c.args.source.now c.args.length c.requires.attached in
    let buf : List ℕ = c.header_blocks.new.buf in
    let long : length buf ≡ length c.args.buf.now = search rules in
    let fits : 2880 * c.in_ok-blocks.blocks ≤ length buf = search rules in
    found_kept held c.args.length c.args.hdu c.args.start c.in_ok-blocks.blocks (length c.args.buf.now) buf (Ok c.in-Ok.header) told
    c.in_ok-blocks.ensures.exact long fits c.in_ok-blocks.ensures.kept c.in-Ok.ensures.exact

pub returns-in-Err-clause-exact : goal.returns-in-Err-clause-exact
returns-in-Err-clause-exact g c =
    let held : Option (List ℕ) = g.S.Source.held c.args.source.now in
    let told : HoldsLength held c.args.length = g.met.S.Source.agrees c.args.source.now c.args.length c.requires.attached in
    let buf : List ℕ = c.header_blocks.new.buf in
    let long : length buf ≡ length c.args.buf.now = search rules in
    let fits : 2880 * c.in_ok-blocks.blocks ≤ length buf = search rules in
    found_kept held c.args.length c.args.hdu c.args.start c.in_ok-blocks.blocks (length c.args.buf.now) buf (Err c.in-Err.fault) told
    c.in_ok-blocks.ensures.exact long fits c.in_ok-blocks.ensures.kept c.in-Err.ensures.exact

pub returns-in-Err-clause-refused : goal.returns-in-Err-clause-refused
returns-in-Err-clause-refused g c =
    header_names c.args.hdu c.args.start c.args.length (take (2880 * c.in_ok-blocks.blocks) c.header_blocks.new.buf) (Err (Refused c.in-Err.fault)) (sym c.in-Err.ensures.exact)

pub returns-in-Ok-clause-bytes : goal.returns-in-Ok-clause-bytes
returns-in-Ok-clause-bytes g c =
    let buf : List ℕ = c.header_blocks.new.buf in
    let fits : 2880 * c.in_ok-blocks.blocks ≤ length buf = search rules in
    kept_header (g.S.Source.held c.args.source.now) c.args.start c.in_ok-blocks.blocks buf c.in-Ok.header c.in_ok-blocks.ensures.kept fits c.in-Ok.ensures.facts.0

pub returns-in-Ok-clause-facts : goal.returns-in-Ok-clause-facts
returns-in-Ok-clause-facts g c =
    let buf : List ℕ = c.header_blocks.new.buf in
    let fits : 2880 * c.in_ok-blocks.blocks ≤ length buf = search rules in
    kept_facts c.in_ok-blocks.blocks c.args.hdu c.args.start buf c.in-Ok.header fits c.in-Ok.ensures.facts

pub returns-in_err-blocks-clause-log : goal.returns-in_err-blocks-clause-log
returns-in_err-blocks-clause-log g c = c.in_err-blocks.ensures.log

pub returns-in_err-blocks-clause-touched : goal.returns-in_err-blocks-clause-touched
returns-in_err-blocks-clause-touched g c = c.in_err-blocks.ensures.touched

pub returns-in_err-blocks-clause-source : goal.returns-in_err-blocks-clause-source
returns-in_err-blocks-clause-source g c = c.in_err-blocks.ensures.source

pub returns-in_err-blocks-clause-cause : goal.returns-in_err-blocks-clause-cause
returns-in_err-blocks-clause-cause g c =
    let stopped : c.from_residual.result ≡ Err c.in_err-blocks.field-0.0 = search rules in
    subst (λ (r : Result Header Stop). ReadsOnly (g.S.Source.tally c.args.source.now) (g.S.Source.tally c.header_blocks.new.source) r) (sym stopped)
    (record { kept = c.in_err-blocks.ensures.cause.kept; ok = tt; stop = c.in_err-blocks.ensures.cause.stop })

pub returns-then-size-buf-clause-refused : goal.returns-then-size-buf-clause-refused
returns-then-size-buf-clause-refused g c = subst (λ (x : Fault). x.hdu ≡ c.args.hdu) (sym c.refused.ensures) refl

pub returns-then-size-buf-clause-log : goal.returns-then-size-buf-clause-log
returns-then-size-buf-clause-log g c = c.in_ok-blocks.ensures.log

pub returns-then-size-buf-clause-touched : goal.returns-then-size-buf-clause-touched
returns-then-size-buf-clause-touched g c = c.in_ok-blocks.ensures.touched

pub returns-then-size-buf-clause-source : goal.returns-then-size-buf-clause-source
returns-then-size-buf-clause-source g c = c.in_ok-blocks.ensures.source

pub returns-then-size-buf-clause-cause : goal.returns-then-size-buf-clause-cause
returns-then-size-buf-clause-cause g c = record { kept = c.in_ok-blocks.ensures.cause.kept; ok = tt; stop = c.in_ok-blocks.ensures.cause.ok }

pub returns-in-Ok-clause-within : goal.returns-in-Ok-clause-within
returns-in-Ok-clause-within g c = c.in-Ok.ensures.within

pub returns-in-Ok-clause-log : goal.returns-in-Ok-clause-log
returns-in-Ok-clause-log g c = c.in_ok-blocks.ensures.log

pub returns-in-Ok-clause-touched : goal.returns-in-Ok-clause-touched
returns-in-Ok-clause-touched g c = c.in_ok-blocks.ensures.touched

pub returns-in-Ok-clause-source : goal.returns-in-Ok-clause-source
returns-in-Ok-clause-source g c = c.in_ok-blocks.ensures.source

pub returns-in-Ok-clause-cause : goal.returns-in-Ok-clause-cause
returns-in-Ok-clause-cause g c = record { kept = c.in_ok-blocks.ensures.cause.kept; ok = c.in_ok-blocks.ensures.cause.ok; stop = tt }

pub returns-in-Err-clause-log : goal.returns-in-Err-clause-log
returns-in-Err-clause-log g c = c.in_ok-blocks.ensures.log

pub returns-in-Err-clause-touched : goal.returns-in-Err-clause-touched
returns-in-Err-clause-touched g c = c.in_ok-blocks.ensures.touched

pub returns-in-Err-clause-source : goal.returns-in-Err-clause-source
returns-in-Err-clause-source g c = c.in_ok-blocks.ensures.source

pub returns-in-Err-clause-cause : goal.returns-in-Err-clause-cause
returns-in-Err-clause-cause g c = record { kept = c.in_ok-blocks.ensures.cause.kept; ok = tt; stop = c.in_ok-blocks.ensures.cause.ok }
