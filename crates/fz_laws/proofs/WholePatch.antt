-- After all of its writes a file is patched.
use Rattle.std.proofs.Common.{◌≡◌, ℕ, ◌+◌, ◌*◌, ◌/◌, ◌^◌, ◌<◌, ◌≤◌, ◌&&◌, Bool, true, false, List, [], ◌∷◌, length, take, None, if◌then◌else◌, refl, sym, ap, ◌∙◌, subst, arith}
use Rattle.fz_base.specs.Refusal.{first_refusal}
use Rattle.fz_block.specs.Hdus.{cards_of}
use Rattle.fz_block.specs.Header.{data_start_of, next_start_of, whole_blocks_of}
use Rattle.fz_block.specs.declared.header.Header.{Header}
use Rattle.fz_grid.specs.Laws.{DividedArraysHaveTiles}
use Rattle.fz_checks.specs.JobChecks.{image_checks, is_after_empty, not_packed, packed_card_checks}
use Rattle.fz_head.specs.Packable.{is_packed, is_table}
use Rattle.fz_head.specs.PackedPlan.{plan_of_cards}
use Rattle.fz_head.specs.PlainHeader.{plain_header}
use Rattle.fz_head.specs.TableChecks.{compressed_table, repeated_table_names}
use Rattle.fz_files.specs.Restored.{header_in, is_image, plan_in}
use Rattle.fz_laws.specs.Amends.{applied}
use Rattle.fz_laws.specs.Given.{Given, PatchJob, given_by}
use Rattle.fz_laws.specs.PatchLaws.{AllWritesPatch, AllWritesTile, ArePatching}
use Rattle.fz_laws.specs.Patched.{HasNewTiles, IsPatched}
use Rattle.fz_laws.specs.PatchTaken.{SafeLaws}
use Rattle.fz_laws.specs.Writes.{Steps, all_writes, header_now}
use Rattle.fz_laws.proofs.AlikeEnds.{EndsAlike}
use Rattle.fz_laws.proofs.EarlierRows.{EarlierLaws}
use Rattle.fz_laws.proofs.OnePatch.{IsFoundImage}
use Rattle.fz_laws.proofs.Passes.{PassesAll, all_pass, both_pass, is_so}
use Rattle.fz_laws.proofs.PatchedAgain.{late_end, unpack_passes, unpack_walks}
use Rattle.fz_laws.proofs.Patching.{IsPatching, patching_is}
use Rattle.fz_laws.proofs.Prefixes.{LatePrefix}
use Rattle.fz_laws.proofs.SafeCuts.{header_now_is, same, wanted_same}
use Rattle.fz_laws.proofs.SumsPatched.{late_all, right_sums}
use Rattle.fz_laws.proofs.SumsWritten.{VerdictLaws}
use Rattle.fz_laws.proofs.WholeImage.{LastAlike, ReplaceLaws, stands_replaced}

pub record WholeLaws : Type 0 where
  pub safe : SafeLaws
  pub verdicts : VerdictLaws
  pub earlier : EarlierLaws
  pub replace : ReplaceLaws
  pub divided : DividedArraysHaveTiles

-- an image that is found is packed
found_packed : (file : List ℕ) (h : Header) → IsFoundImage file h → is_image file h ≡ true
found_packed file h found =
    let header : List ℕ = header_in file h in
    let one = both_pass (packed_card_checks h header) (image_checks h header (is_after_empty file h)) found.checks in
    let two = both_pass (if is_table h.sort then compressed_table h header ∷ [] else []) (not_packed h header ∷ repeated_table_names h header ∷ []) one.0 in
    is_so (is_packed header h) (all_pass (not_packed h header ∷ repeated_table_names h header ∷ []) two.1).0

module _ (laws : WholeLaws) (file patch : List ℕ) (job : PatchJob) (h : Header) (s : Steps) (p : ArePatching file patch job h s) (tiles : HasNewTiles file (applied (all_writes s) file) h (given_by patch job)) where
  abbrev g : Given
  g = given_by patch job

  abbrev x : List ℕ
  x = applied (all_writes s) file

  abbrev now : Header
  now = header_now x h

  abbrev is : IsPatching file patch job h s
  is = patching_is laws.safe.patch file patch job h s p

  late : LatePrefix file h g is.codes x
  late = late_all laws.safe laws.verdicts file patch job h s p

  end : next_start_of now ≡ length x
  end = late_end laws.safe.cuts file x h g is.codes is.has late

  alike : LastAlike file x h now
  alike =
      let target = p.steps_are.target in
      let header : header_in x now ≡ header_in x h = header_now_is laws.safe.cuts file patch x job h is.codes is.has target late.is in
      let says = same laws.safe.cuts file patch x job h is.codes is.has target late.is in
      let packed : is_image file h ≡ true = found_packed file h is.has.image in
      let ends = is.has.ends in
      let low : h.start ≤ length file = omega arith in
      let most = late.is.most in
      record {
        low = low;
        near = omega arith;
        front = late.is.front;
        packed = packed;
        packed_now = wanted_same laws.safe.cuts file patch x job h is.codes is.has target late.is None ∙ packed;
        plan = ap (λ l. plan_of_cards (cards_of l)) header ∙ says.plan;
        plain = ap (λ l. plain_header (cards_of l)) header ∙ says.plain;
      }

  pub whole : IsPatched file x h g
  whole = record {
    tiles = tiles;
    image =
        stands_replaced laws.earlier laws.replace file x h now g is.given (laws.divided (plan_in file h).shape (plan_in file h).tile is.has.is.divided) alike tiles.inside tiles.outside
        (λ none. unpack_passes laws.safe.cuts file patch x job h is.codes is.has p.steps_are.target late.is end none)
        (λ ks walk. unpack_walks laws.safe.cuts file patch x job h is.codes is.has p.steps_are.target late.is end ks walk);
    sums = right_sums laws.safe laws.verdicts file patch job h s p;
  }

pub all_writes_patch : WholeLaws → AllWritesTile → AllWritesPatch
all_writes_patch laws tiles file patch job h s p = whole laws file patch job h s p (tiles file patch job h s p)
