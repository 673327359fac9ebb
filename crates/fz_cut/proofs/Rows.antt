-- Lists of rows (FITS 4.0, sections 7.3.5 and 10.1).
use Rattle.std.proofs.Common.{ℕ, suc, inl, inr, ℤ, List, [], ◌∷◌, ◌++◌, map, Contains, Some, None, refl, arith}
use Rattle.fz_base.specs.declared.fault.Fault.{Fault}
use Rattle.fz_block.specs.declared.header.Header.{Header}
use Rattle.fz_grid.specs.declared.sieve.Sieve.{Sieve}
use Rattle.fz_files.specs.Cutout.{AreCutFrom}
use Rattle.fz_files.specs.FirstFault.{ImageRow, IsFirstRowFault, IsRowSound, image_row, picked_rows, picked_tiles_of}
use Rattle.fz_files.specs.Restored.{plan_in}

module _ (file : List ℕ) where
  pub sound_both : (xs ys : List ImageRow) → IsFirstRowFault file xs None → IsFirstRowFault file ys None → IsFirstRowFault file (xs ++ ys) None
  sound_both [] ys front back = back
  sound_both (r ∷ rs) ys front back = (front.0, sound_both rs ys front.1 back)

  pub fault_behind : (xs ys : List ImageRow) (x : Fault) → IsFirstRowFault file xs None → IsFirstRowFault file ys (Some x) → IsFirstRowFault file (xs ++ ys) (Some x)
  fault_behind [] ys x front back = back
  fault_behind (r ∷ rs) ys x front back = inr (front.0, fault_behind rs ys x front.1 back)

  pub fault_before : (xs ys : List ImageRow) (x : Fault) → IsFirstRowFault file xs (Some x) → IsFirstRowFault file (xs ++ ys) (Some x)
  fault_before [] ys x front = absurd front
  fault_before (r ∷ rs) ys x (inl is) = inl is
  fault_before (r ∷ rs) ys x (inr later) = inr (later.0, fault_before rs ys x later.1)

  -- rows each of which stands for some pixels
  pub sound_each : (h : Header) (ts : List ℕ) → ((t : ℕ) → Contains ts t → IsRowSound file (image_row h t)) → IsFirstRowFault file (map (image_row h) ts) None
  sound_each h [] each = tt
  sound_each h (t ∷ ts) each =
      (each t (0, omega arith, refl), sound_each h ts (λ u here. each u (suc here.0, omega (arith, here.1), here.2)))

-- the rows of the tiles that hold a pick, where a part was cut from them
pub picked_sound : (file : List ℕ) (h : Header) (sieve : Sieve) (numbers : List ℤ) → AreCutFrom file h sieve numbers → IsFirstRowFault file (picked_rows file sieve h) None
picked_sound file h sieve numbers cut =
    sound_each file h (picked_tiles_of (plan_in file h) sieve) (λ t here. (_, cut.rows.tiles t here))
