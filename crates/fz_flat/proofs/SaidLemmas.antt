-- An image that a header says is a packed one by its values.
use Rattle.std.proofs.Common.{◌≡◌, ℕ, List, ap, sym, subst}
use Rattle.fz_base.specs.Refusal.{first_refusal}
use Rattle.fz_block.specs.Hdus.{cards_of}
use Rattle.fz_block.specs.declared.header.Header.{Header}
use Rattle.fz_grid.specs.Region.{lengths_of}
use Rattle.fz_table.specs.Rows.{IsTable}
use Rattle.fz_head.specs.PackedChecks.{packed_checks, plan_answer}
use Rattle.fz_head.specs.PackedPlan.{plan_of_cards, said_axes, said_bitpix}
use Rattle.fz_head.specs.Planned.{is_wide}
use Rattle.fz_head.specs.declared.plan.Plan.{Plan}
use Rattle.fz_checks.specs.JobChecks.{IsImageOf}
use Rattle.fz_checks.specs.declared.job_checks.PackedImage.{PackedImage}
use Rattle.fz_checks.proofs.PlannedTiles.{lengths-nine_axes, unless-ok}
use Rattle.fz_flat.specs.Lawful.{IsPackedImage}

-- whether its plain bytes pass 31 bits is as its lengths say
wide-said : (header : List ℕ) (h : Header) (image : PackedImage) → IsImageOf header h image → image.plan.wide ≡ is_wide image.plan.bitpix (lengths_of image.plan.shape)
unfolding plan_answer plan_of_cards
wide-said header h image is =
    let cards : List (List ℕ) = cards_of header in
    let ok = unless-ok (plan_of_cards cards) image.plan (first_refusal (packed_checks h.hdu header is.planned.after_empty)) is.planned.answer in
    subst (λ (p : Plan). p.wide ≡ is_wide p.bitpix (lengths_of p.shape)) ok.1 (ap (is_wide (said_bitpix cards)) (sym (lengths-nine_axes (said_axes cards))))

pub said-packed : (header : List ℕ) (h : Header) (image : PackedImage) → IsImageOf header h image → IsTable image.table → IsPackedImage image
said-packed header h image is table = record { table = table; divided = is.divided; codec = is.readable; rows = is.rows; wide = wide-said header h image is }
