-- The header is restored, and then read.
use Rattle.std.proofs.Common.{◌≡◌, ℕ, ◌+◌, ◌*◌, ◌≤◌, List, length, take, ap, ◌∙◌, arith}
use Rattle.std.proofs.lemmas.List.{length-take-le}
use Rattle.fz_block.specs.Facts.{IsHeaderOf}
use Rattle.fz_block.specs.Hdus.{cards_of, header_bytes}
use Rattle.fz_head.specs.Conditions.{IsPackPlan}
use Rattle.fz_head.specs.PlainHeader.{plain_header}
use Rattle.fz_strict.specs.Origins.{restored_bytes}
use Rattle.fz_strict.proofs.Restored.{always, fits, is_restored, moved, none_restored, within}
use Rattle.fz_strict.proofs.headers.restore.Goals as goal

pub image_header-requires-clause-blocks : goal.image_header-requires-clause-blocks
image_header-requires-clause-blocks c =
    let cards : List (List ℕ) = cards_of c.args.buf.now in
    let made : List ℕ = header_bytes (plain_header cards) in
    let all = c.whole_cards_law.ensures.plain cards (c.whole_cards_law.ensures.read c.args.buf.now c.requires.header.whole) in
    let is = (c.cards_law.ensures.header (plain_header cards) all).0 in
    let size : length made ≡ 2880 * (is.before + 1) = is.blocks in
    (is.before + 1, omega arith, omega (arith, size, c.to_plain-len.ensures.size, c.to_plain-len.ensures.fits, c.requires.header.short), ap length c.to_plain-len.ensures.written ∙ size)

pub returns-clause-bytes : goal.returns-clause-bytes
returns-clause-bytes c =
    moved (λ header h. header ≡ restored_bytes (cards_of c.args.buf.now)) c.to_plain-len.result c.to_plain-len.new.out c.image_header.result (omega (arith, c.to_plain-len.ensures.fits, c.requires.room)) c.image_header.ensures.header (always (λ h. take c.to_plain-len.result c.to_plain-len.new.out ≡ restored_bytes (cards_of c.args.buf.now)) c.image_header.result (λ h. c.to_plain-len.ensures.written))

pub returns-clause-header : goal.returns-clause-header
returns-clause-header c =
    moved IsHeaderOf c.to_plain-len.result c.to_plain-len.new.out c.image_header.result (omega (arith, c.to_plain-len.ensures.fits, c.requires.room)) c.image_header.ensures.header c.image_header.ensures.header

pub returns-clause-within : goal.returns-clause-within
returns-clause-within c = within c.to_plain-len.result c.to_plain-len.new.out c.image_header.result (omega (arith, c.to_plain-len.ensures.fits, c.requires.room)) c.image_header.ensures.header

pub returns-clause-plan : goal.returns-clause-plan
returns-clause-plan c =
    moved (λ header h. IsPackPlan header h c.args.options.now.sums c.args.plan.now) c.to_plain-len.result c.to_plain-len.new.out c.image_header.result (omega (arith, c.to_plain-len.ensures.fits, c.requires.room)) c.image_header.ensures.header c.image_header.ensures.plan

pub returns-clause-fits : goal.returns-clause-fits
returns-clause-fits c = fits c.to_plain-len.result (length c.args.buf.now) c.to_plain-len.new.out c.image_header.result (omega (arith, c.to_plain-len.ensures.fits, c.requires.room)) c.to_plain-len.ensures.fits c.image_header.ensures.header

pub returns-clause-restored : goal.returns-clause-restored
returns-clause-restored c =
    is_restored c.args.options.now c.args.origin.now (cards_of c.args.buf.now) c.args.plan.now (take c.to_plain-len.result c.to_plain-len.new.out) c.to_plain-len.ensures.written c.image_header.result
    c.image_header.ensures.within c.image_header.ensures.found c.image_header.ensures.packs c.image_header.ensures.simple

pub returns-clause-none : goal.returns-clause-none
returns-clause-none c = λ none.
    none_restored c.args.options.now c.args.origin.now (cards_of c.args.buf.now) c.args.plan.now (take c.to_plain-len.result c.to_plain-len.new.out) c.to_plain-len.ensures.written (c.image_header.ensures.none none)
