-- The writes of a patch, by the laws.
use Rattle.std.proofs.Common.{◌≡◌, ℕ, List, length, pos, sym, subst}
use Rattle.fz_block.specs.declared.header.Header.{Header}
use Rattle.fz_tile.specs.TileCode.{TileCode}
use Rattle.fz_files.specs.Restored.{plan_in}
use Rattle.fz_laws.specs.Given.{Given, PatchJob, given_by}
use Rattle.fz_laws.specs.PatchLaws.{AreInOrder, ArePatching, IsGivenFor, TargetsAreGiven, WritesAreInOrder}
use Rattle.fz_laws.specs.NewNumbers.{box_tiles}
use Rattle.fz_laws.specs.PatchTaken.{PatchLaws}
use Rattle.fz_laws.specs.Writes.{Steps, all_writes, new_codes}
use Rattle.fz_laws.proofs.OnePatch.{target_readable}
use Rattle.fz_laws.proofs.StepWrites.{AreWrites, are_writes, in_order}
use Rattle.fz_laws.proofs.TargetFacts.{HasTarget, target_facts}

-- What is known of a patch.
pub record IsPatching (file patch : List ℕ) (job : PatchJob) (h : Header) (s : Steps) : Type 0 where
  pub has : HasTarget file h
  pub given : IsGivenFor (plan_in file h) (given_by patch job)
  pub codes : List TileCode
  pub are : AreWrites file h (given_by patch job) codes s

pub patching_is : PatchLaws → (file patch : List ℕ) (job : PatchJob) (h : Header) (s : Steps) → ArePatching file patch job h s → IsPatching file patch job h s
patching_is laws file patch job h s p =
    let g : Given = given_by patch job in
    let step = p.steps_are in
    let has : HasTarget file h = target_facts laws.taken file patch job h step.target in
    let given : IsGivenFor (plan_in file h) g = laws.given file patch job h p.patch_bytes step.target in
    let es : List TileCode = new_codes (plan_in file h) g (box_tiles (plan_in file h) g) step.olds in
    record {
      has = has;
      given = given;
      codes = es;
      are =
          subst (AreWrites file h g es) (sym step.steps_are)
          (are_writes laws.writes file h g has given (target_readable laws.taken file patch job h step.target) p.file_bytes step.olds step.numbers step.room);
    }

pub writes_are_in_order : PatchLaws → WritesAreInOrder
writes_are_in_order laws file patch job h s p =
    let is : IsPatching file patch job h s = patching_is laws file patch job h s p in
    in_order file h (given_by patch job) is.has is.codes s is.are
