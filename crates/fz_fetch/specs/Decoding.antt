-- The tiles of a round, decoded together with what is read ahead of them (FITS 4.0, sections 7.3.5 and 10.1).
use Rattle.std.specs.Prelude.{ℕ, ◌+◌, ◌*◌, ◌≤◌, List, map, Option, Some, None, IfSome, OnOk, Result}
use Rattle.std.specs.List.{range_with_len}
use Rattle.fz_base.specs.Ranges.{LogsIn}
use Rattle.fz_base.specs.Stop.{IfRefused}
use Rattle.fz_base.specs.declared.failure.Stop.{Stop}
use Rattle.fz_block.specs.declared.header.Header.{Header}
use Rattle.fz_checks.specs.declared.job_checks.PackedImage.{PackedImage}
use Rattle.fz_files.specs.FirstFault.{IsFirstRowFault, image_row}
use Rattle.fz_files.specs.Packed.{tiles_in}
use Rattle.fz_files.specs.Touched.{image_ranges}
use Rattle.fz_pool.specs.Window.{Pool}
use Rattle.fz_job.specs.Images.{HaveRoom, IsReadable, IsSaid}
use Rattle.fz_fetch.specs.Rows.{StandsWithin}
use Rattle.fz_job.specs.Clauses.{IsOfSomeRow}

-- So many tiles of an image can be decoded in the first slots of a window: what is attached holds its table, the header says it, and each
-- of them has a slot with room for it.
pub record CanDecode
    (held : Option (List ℕ)) (attached : Option ℕ) (h : Header) (image : PackedImage) (first count : ℕ) (w : Pool) : Type 0 where
  pub readable : IsReadable image
  pub within : StandsWithin attached image.table
  pub said : IfSome held (λ g. IsSaid g h image)
  pub tiles : first + count ≤ tiles_in image.plan
  pub near : count ≤ 2 * w.workers
  pub few : count ≤ 128
  pub room : HaveRoom image w

-- The rows of these tiles were judged: after Ok none is faulty, and a refusal is the first fault. Only bytes of the image were read.
pub record JudgesRound
    {X : Type 0} (held : Option (List ℕ)) (h : Header) (first count : ℕ) (old new : Option (List (ℕ × ℕ)))
    (result : Result X Stop) : Type 0 where
  pub sound : OnOk result (IfSome held (λ g. IsFirstRowFault g (map (image_row h) (range_with_len first count)) None))
  pub fault : IfRefused result (λ x. IfSome held (λ g. IsFirstRowFault g (map (image_row h) (range_with_len first count)) (Some x)))
  pub row : IfRefused result IsOfSomeRow
  pub read : IfSome held (λ g. LogsIn (image_ranges g h) old new)
