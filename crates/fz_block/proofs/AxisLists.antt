-- The lengths of the axes as they are written into a table of nine.
use Rattle.std.proofs.Common.{◌≡◌, ℕ, zero, suc, ◌+◌, ◌-◌, ◌<◌, List, [], ◌∷◌, ◌++◌, length, get_or, map, replicate, refl, ap, sym, ◌∙◌, arith}
use Rattle.std.specs.List.{range_with_len}
use Rattle.std.proofs.Math.ListN.{set}
use Rattle.std.proofs.lemmas.List.{set_at, append_assoc}
use Rattle.std.proofs.lemmas.List.FromFn.{length-map-range_with_len, map-range_with_len_more}
use Rattle.fz_block.specs.Hdus.{size_at, axes_of}
use Rattle.fz_block.specs.Facts.{nine_axes}

-- the next length takes the place of the first 0
pub write_next : (size : ℕ → ℕ) (a i most : ℕ) (ns : List ℕ) (n : ℕ) → i < most → ns ≡ map size (range_with_len a i) ++ replicate (most - i) 0 → n ≡ size (a + i) →
    set ns i n ≡ map size (range_with_len a (i + 1)) ++ replicate (most - (i + 1)) 0
write_next size a i most ns n below written here =
    let before : List ℕ = map size (range_with_len a i) in
    let rest : List ℕ = replicate (most - (i + 1)) 0 in
    let more : most - i ≡ suc (most - (i + 1)) = omega arith in
    let now : ns ≡ before ++ 0 ∷ rest = written ∙ ap (λ k. before ++ replicate k 0) more in
    ap (λ l. set l i n) now
    ∙ (set_at before 0 rest n i (length-map-range_with_len size a i)
    ∙ (sym (append_assoc before (n ∷ []) rest)
    ∙ (ap (λ k. (before ++ k ∷ []) ++ rest) here
    ∙ ap (λ l. l ++ rest) (sym (map-range_with_len_more size a i (a + i) refl)))))

-- how many axes there are
pub axes_count : (header : List ℕ) → length (axes_of header) ≡ size_at header 2
axes_count header = length-map-range_with_len (size_at header) 3 (size_at header 2)

-- the first of them
first_of : (size : ℕ → ℕ) (a n : ℕ) (rest : List ℕ) → 0 < n → get_or (map size (range_with_len a n) ++ rest) 0 0 ≡ size a
first_of size a zero rest some = absurd (omega arith)
first_of size a (suc n) rest some = refl

pub first_axis : (header : List ℕ) → 0 < size_at header 2 → get_or (nine_axes (axes_of header)).len 0 0 ≡ size_at header 3
first_axis header some = first_of (size_at header) 3 (size_at header 2) (replicate (9 - length (axes_of header)) 0) some
