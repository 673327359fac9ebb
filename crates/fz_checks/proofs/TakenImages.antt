-- An image of a file of which no check of `pack` refuses anything.
use Rattle.std.proofs.Common.{◌≡◌, ℕ, cond, List, [], ◌∷◌, ◌++◌, length, replicate, ap, subst}
use Rattle.std.specs.Prelude.{None, Ok}
use Rattle.fz_base.specs.Refusal.{first_refusal}
use Rattle.fz_block.specs.Checks.{unless_refused}
use Rattle.fz_block.specs.Hdus.{HasBlankFill, cards_of}
use Rattle.fz_block.specs.Walk.{hdu_of}
use Rattle.fz_block.specs.declared.header.Header.{Header}
use Rattle.fz_grid.specs.Region.{IsDivided}
use Rattle.fz_tile.specs.Codecs.{CanWrite}
use Rattle.fz_head.specs.declared.options.PackOptions.{PackOptions}
use Rattle.fz_head.specs.declared.plan.Plan.{Plan}
use Rattle.fz_checks.specs.JobChecks.{IsImageToPack, already_packed, data_fill, fill_in, pack_header_checks}
use Rattle.fz_head.specs.Packable.{is_packable}
use Rattle.fz_head.specs.PackChecks.{limit_checks, name_checks, offset_check, pack_answer, pack_checks}
use Rattle.fz_head.specs.Planned.{pack_plan_of}
use Rattle.fz_checks.proofs.Fills.{blank-fill, zero-fill}
use Rattle.fz_checks.proofs.FrontCards.{clear-front, clear-rest}
use Rattle.fz_checks.proofs.PlannedCodecs.{planned-writable}
use Rattle.fz_checks.proofs.PlannedTiles.{planned-divided}

module _ (o : PackOptions) (file : List ℕ) (h : Header) (is : IsImageToPack o file h) where
  abbrev header : List ℕ
  header = (hdu_of file h).header

  abbrev p : Plan
  p = pack_plan_of o h

  pub checked : first_refusal (pack_checks o h header) ≡ None
  checked =
      let fill = cond (is_packable h) (data_fill h (fill_in file h) ∷ []) [] in
      let rest = clear-rest (already_packed h header ∷ []) (cond (is_packable h) (pack_checks o h header) []) (clear-front (pack_header_checks o h header) fill is.passed) in
      subst (λ b. first_refusal (cond b (pack_checks o h header) []) ≡ None) is.packable rest

  pub answered : pack_answer o h header ≡ Ok p
  unfolding pack_answer
  answered = ap (unless_refused p) checked

  pub taken-divided : IsDivided p.shape p.tile
  taken-divided = planned-divided o header h p is.options is.is_header is.packable answered

  pub taken-writable : CanWrite p.codec p.bitpix
  taken-writable = planned-writable o header h p is.options is.packable answered

  pub taken-blanks : HasBlankFill header
  taken-blanks = blank-fill h header (clear-front (name_checks h header) (limit_checks h p o.sums (cards_of header) ++ offset_check h p.codec (cards_of header) ∷ []) checked)

  pub taken-zeros : fill_in file h ≡ replicate (length (fill_in file h)) 0
  taken-zeros =
      let rest = clear-rest (pack_header_checks o h header) (cond (is_packable h) (data_fill h (fill_in file h) ∷ []) []) is.passed in
      zero-fill h (fill_in file h) (subst (λ b. first_refusal (cond b (data_fill h (fill_in file h) ∷ []) []) ≡ None) is.packable rest)
