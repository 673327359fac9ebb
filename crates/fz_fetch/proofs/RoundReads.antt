-- What is read of a round of tiles, and of one after another (FITS 4.0, sections 7.3.5 and 10.1).
use Rattle.std.proofs.Common.{◌≡◌, ℕ, List, [], ◌++◌, append-nil, refl, sym, ap, arith}
use Rattle.std.specs.Prelude.{Option, Some, None, IfSome, Result, Ok, Err}
use Rattle.std.specs.Option.{option_map}
use Rattle.fz_base.specs.Ranges.{LogsIn, LogsJoinLaw}
use Rattle.fz_base.specs.Stop.{IfRefused}
use Rattle.fz_base.specs.declared.fault.Fault.{Fault}
use Rattle.fz_base.specs.declared.failure.Stop.{Stop}
use Rattle.fz_base.specs.declared.failure.Stop.TheVariants.{Refused, ReadFault, WriteFault, OverLimit, NoMemory}
use Rattle.fz_block.specs.declared.header.Header.{Header}
use Rattle.fz_checks.specs.declared.job_checks.PackedImage.{PackedImage}
use Rattle.fz_files.specs.Touched.{image_ranges}
use Rattle.fz_job.specs.Images.{fetched_ranges, AreTilesOf, IsSaid}
use Rattle.fz_job.specs.Hdus.{TilesAreOfImage}

-- nothing was read
same_ranges : (old : Option (List (ℕ × ℕ))) → old ≡ option_map (λ rs. rs ++ []) old
same_ranges None = refl
same_ranges (Some rs) = ap Some (sym (append-nil rs))

nothing : (ranges : List (ℕ × ℕ)) (old : Option (List (ℕ × ℕ))) → LogsIn ranges old old
nothing ranges old = ([], (λ k d few. absurd (omega (arith, few))), same_ranges old)

pub unread : (held : Option (List ℕ)) (ranges : List ℕ → List (ℕ × ℕ)) (old : Option (List (ℕ × ℕ))) → IfSome held (λ g. LogsIn (ranges g) old old)
unread None ranges old = tt
unread (Some g) ranges old = nothing (ranges g) old

-- what is read one after another, where the source tells its bytes
pub join_told : LogsJoinLaw → (held : Option (List ℕ)) (ranges : List ℕ → List (ℕ × ℕ)) (old mid new : Option (List (ℕ × ℕ))) → IfSome held (λ g. LogsIn (ranges g) old mid) → IfSome held (λ g. LogsIn (ranges g) mid new) →
    IfSome held (λ g. LogsIn (ranges g) old new)
join_told join None ranges old mid new first later = tt
join_told join (Some g) ranges old mid new first later = join (ranges g) old mid new first later

pub round_read : TilesAreOfImage → (held : Option (List ℕ)) (h : Header) (image : PackedImage) (tiles : List ℕ) (old new : Option (List (ℕ × ℕ))) → IfSome held (λ g. IsSaid g h image) → AreTilesOf image tiles →
    IfSome held (λ g. LogsIn (fetched_ranges g h tiles) old new) → IfSome held (λ g. LogsIn (image_ranges g h) old new)
round_read law None h image tiles old new said are reads = tt
round_read law (Some g) h image tiles old new said are reads = law g h image tiles old new said are reads

-- a fact of a fault leads to a weaker one
pub refused_weaker : {X : Type 0} (r : Result X Stop) {P Q : Fault → Type 0} → ((x : Fault) → P x → Q x) → IfRefused r P → IfRefused r Q
refused_weaker (Ok x) weaker is = tt
refused_weaker (Err (Refused x)) weaker is = weaker x is
refused_weaker (Err ReadFault) weaker is = tt
refused_weaker (Err WriteFault) weaker is = tt
refused_weaker (Err (OverLimit live asked limit)) weaker is = tt
refused_weaker (Err NoMemory) weaker is = tt
