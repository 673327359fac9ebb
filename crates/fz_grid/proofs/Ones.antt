-- The lengths of a box whose first axes are cut to one place.
use Rattle.std.proofs.Common.{◌≡◌, ℕ, suc, zero, ◌<◌, ◌≤◌, List, [], ◌∷◌, length, get_or, take, set, refl, ap, ◌∙◌, arith}
use Rattle.fz_grid.proofs.BoxLemmas.{IsBox}

-- the first m lengths become 1
abbrev pub ones : ℕ → List ℕ → List ℕ
ones zero rs = rs
ones (suc m) [] = []
ones (suc m) (r ∷ rs) = 1 ∷ ones m rs

pub ones_more : (m : ℕ) (rs : List ℕ) → m < length rs → set (ones m rs) m 1 ≡ ones (suc m) rs
ones_more m [] h = absurd (omega arith)
ones_more zero (r ∷ rs) h = refl
ones_more (suc m) (r ∷ rs) h = ap (λ l. 1 ∷ l) (ones_more m rs (omega arith))

pub ones_length : (m : ℕ) (rs : List ℕ) → length (ones m rs) ≡ length rs
ones_length zero rs = refl
ones_length (suc m) [] = refl
ones_length (suc m) (r ∷ rs) = ap suc (ones_length m rs)

pub ones_front : (m n : ℕ) (rs : List ℕ) → m ≤ n → take n (ones m rs) ≡ ones m (take n rs)
ones_front zero n rs h = refl
ones_front (suc m) zero rs h = absurd (omega arith)
ones_front (suc m) (suc n) [] h = refl
ones_front (suc m) (suc n) (r ∷ rs) h = ap (λ l. 1 ∷ l) (ones_front m n rs (omega arith))

pub ones_at : (m : ℕ) (rs : List ℕ) (k : ℕ) → 1 ≤ get_or rs k 0 → (1 ≤ get_or (ones m rs) k 0) × (get_or (ones m rs) k 0 ≤ get_or rs k 0)
ones_at zero rs k h = (h, omega arith)
ones_at (suc m) [] k h = (h, omega arith)
ones_at (suc m) (r ∷ rs) zero h = (omega arith, h)
ones_at (suc m) (r ∷ rs) (suc k) h = ones_at m rs k h

pub ones_box : (ns os rs : List ℕ) (m : ℕ) → IsBox ns os rs → IsBox ns os (ones m rs)
ones_box ns os rs m box =
    record {
      same_corner = box.same_corner;
      same_lengths = ones_length m rs ∙ box.same_lengths;
      positive = λ i h. (ones_at m rs i (box.positive i h)).0;
      inside = λ i h. omega (arith, box.inside i h, (ones_at m rs i (box.positive i h)).1);
    }
