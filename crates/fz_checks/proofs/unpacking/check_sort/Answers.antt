-- Each check that refuses is the first that does.
use Rattle.std.proofs.Common.{◌≡◌, [], ◌∷◌, refl, codes, pos, rules}
use Rattle.std.specs.Prelude.{Err}
use Rattle.fz_block.specs.Hdus.{cards_of}
use Rattle.fz_head.specs.PackedChecks.{must_be, sort_checks}
use Rattle.fz_checks.proofs.RefusalLists.{check-of, last, refused-first, refuses, skip}
use Rattle.fz_checks.proofs.unpacking.check_sort.Goals as goal

pub returns-in_err-refuse_when : goal.returns-in_err-refuse_when
returns-in_err-refuse_when c =
    let stopped : c.from_residual.result ≡ Err c.in_err-refuse_when.field-0.0 = search rules in
    refuses (sort_checks c.args.header.now.hdu (cards_of c.args.buf.now) c.args.after_empty) c.in_err-refuse_when.field-0.0 c.from_residual.result stopped
    (refused-first _ _ _ (check-of _ _ _ _ _ c.is_untrue-untrue.ensures c.at_name.ensures c.in_err-refuse_when.ensures))

pub returns-in_err-refuse_when-2 : goal.returns-in_err-refuse_when-2
returns-in_err-refuse_when-2 c =
    let stopped : c.from_residual-in_err-refuse_when-2.result ≡ Err c.in_err-refuse_when-2.field-0.0 = search rules in
    refuses (sort_checks c.args.header.now.hdu (cards_of c.args.buf.now) c.args.after_empty) c.in_err-refuse_when-2.field-0.0 c.from_residual-in_err-refuse_when-2.result stopped
    (skip _ _ _ (check-of _ _ _ _ _ c.is_untrue-untrue.ensures c.at_name.ensures c.in_ok-refuse_when.ensures)
    (refused-first _ _ _ (check-of _ _ _ _ _ c.is_no_image-other.ensures c.at_name-2.ensures c.in_err-refuse_when-2.ensures)))

pub returns-in_err-refuse_when-3 : goal.returns-in_err-refuse_when-3
returns-in_err-refuse_when-3 c =
    let stopped : c.from_residual-in_err-refuse_when-3.result ≡ Err c.in_err-refuse_when-3.field-0.0 = search rules in
    refuses (sort_checks c.args.header.now.hdu (cards_of c.args.buf.now) c.args.after_empty) c.in_err-refuse_when-3.field-0.0 c.from_residual-in_err-refuse_when-3.result stopped
    (skip _ _ _ (check-of _ _ _ _ _ c.is_untrue-untrue.ensures c.at_name.ensures c.in_ok-refuse_when.ensures)
    (skip _ _ _ (check-of _ _ _ _ _ c.is_no_image-other.ensures c.at_name-2.ensures c.in_ok-refuse_when-2.ensures)
    (refused-first _ _ _ (check-of _ _ _ _ _ c.is_misplaced-misplaced.ensures c.at_name-3.ensures c.in_err-refuse_when-3.ensures))))

pub returns-in_err-check_pcount : goal.returns-in_err-check_pcount
returns-in_err-check_pcount c =
    let stopped : c.from_residual-in_err-check_pcount.result ≡ Err c.in_err-check_pcount.field-0.0 = search rules in
    refuses (sort_checks c.args.header.now.hdu (cards_of c.args.buf.now) c.args.after_empty) c.in_err-check_pcount.field-0.0 c.from_residual-in_err-check_pcount.result stopped
    (skip _ _ _ (check-of _ _ _ _ _ c.is_untrue-untrue.ensures c.at_name.ensures c.in_ok-refuse_when.ensures)
    (skip _ _ _ (check-of _ _ _ _ _ c.is_no_image-other.ensures c.at_name-2.ensures c.in_ok-refuse_when-2.ensures)
    (skip _ _ _ (check-of _ _ _ _ _ c.is_misplaced-misplaced.ensures c.at_name-3.ensures c.in_ok-refuse_when-3.ensures)
    (refused-first _ _ _ c.in_err-check_pcount.ensures))))

pub returns : goal.returns
returns c =
    last (sort_checks c.args.header.now.hdu (cards_of c.args.buf.now) c.args.after_empty) (must_be c.args.header.now.hdu (cards_of c.args.buf.now) (codes "ZGCOUNT") (pos 1) ∷ []) c.check_gcount.result
    (skip _ _ _ (check-of _ _ _ _ _ c.is_untrue-untrue.ensures c.at_name.ensures c.in_ok-refuse_when.ensures)
    (skip _ _ _ (check-of _ _ _ _ _ c.is_no_image-other.ensures c.at_name-2.ensures c.in_ok-refuse_when-2.ensures)
    (skip _ _ _ (check-of _ _ _ _ _ c.is_misplaced-misplaced.ensures c.at_name-3.ensures c.in_ok-refuse_when-3.ensures)
    (skip _ _ _ c.in_ok-check_pcount.ensures refl))))
    c.check_gcount.ensures
