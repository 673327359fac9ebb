-- The tiles with a pixel in the box, one after another: their numbers, their codes, and what is written for them.
use Rattle.std.proofs.Common.{◌≡◌, ℕ, ◌+◌, max, ℤ, List, [], ◌∷◌, ◌++◌, length, map, inl, inr, refl, ap, ◌∙◌, arith}
use Rattle.std.specs.Prelude.{Some, None}
use Rattle.std.proofs.lemmas.List.{append-nil, length-append, map-append}
use Rattle.std.proofs.lemmas.Grind.{flat_map-append}
use Rattle.fz_base.specs.declared.fault.Fault.{Fault}
use Rattle.fz_block.specs.declared.header.Header.{Header}
use Rattle.fz_tile.specs.TileCode.{TileCode}
use Rattle.fz_checks.specs.Greatest.{greatest}
use Rattle.fz_head.specs.declared.plan.Plan.{Plan}
use Rattle.fz_files.specs.FirstFault.{ImageRow, IsFirstRowFault, image_row}
use Rattle.fz_files.specs.Packed.{heap_of}
use Rattle.fz_files.specs.Restored.{RowStandsFor}
use Rattle.fz_laws.specs.FirstPatchFault.{RowsHaveNumbers}
use Rattle.fz_laws.specs.Given.{Given}
use Rattle.fz_laws.specs.PatchLaws.{new_code}
use Rattle.fz_laws.specs.Writes.{new_codes}

-- ---- numbers and codes

-- The numbers of the tile that is next, and its code after those of the tiles before it.
pub record NextNumbers (file : List ℕ) (h : Header) (p : Plan) (g : Given) (front : List ℕ) (t : ℕ) (olds : List (List ℤ)) : Type 0 where
  pub xs : List ℤ
  pub stands : RowStandsFor file h t xs
  pub codes : new_codes p g (front ++ t ∷ []) olds ≡ new_codes p g front olds ++ (new_code p g t xs ∷ [])

pub next_numbers : (file : List ℕ) (h : Header) (p : Plan) (g : Given) (front : List ℕ) (t : ℕ) (left : List ℕ) (olds : List (List ℤ)) → RowsHaveNumbers file h (front ++ (t ∷ left)) olds → NextNumbers file h p g front t olds
next_numbers file h p g [] t left [] rows = absurd rows
next_numbers file h p g [] t left (xs ∷ olds) rows = record { xs = xs; stands = rows.0; codes = refl }
next_numbers file h p g (u ∷ front) t left [] rows = absurd rows
next_numbers file h p g (u ∷ front) t left (ys ∷ olds) rows =
    let next = next_numbers file h p g front t left olds rows.1 in
    record { xs = next.xs; stands = next.stands; codes = ap (λ l. new_code p g u ys ∷ l) next.codes }

-- rows that are sound have numbers
pub record SomeNumbers (file : List ℕ) (h : Header) (ts : List ℕ) : Type 0 where
  pub olds : List (List ℤ)
  pub rows : RowsHaveNumbers file h ts olds

pub some_numbers : (file : List ℕ) (h : Header) (ts : List ℕ) → IsFirstRowFault file (map (image_row h) ts) None → SomeNumbers file h ts
some_numbers file h [] sound = record { olds = []; rows = tt }
some_numbers file h (t ∷ ts) sound =
    let more = some_numbers file h ts sound.1 in
    record { olds = sound.0.0 ∷ more.olds; rows = (sound.0.1, more.rows) }

-- ---- rows that are sound, and the first that is not

module _ (file : List ℕ) where
  pub sound_then : (xs ys : List ImageRow) → IsFirstRowFault file xs None → IsFirstRowFault file ys None → IsFirstRowFault file (xs ++ ys) None
  sound_then [] ys front back = back
  sound_then (r ∷ rs) ys front back = (front.0, sound_then rs ys front.1 back)

  pub fault_after : (xs ys : List ImageRow) (x : Fault) → IsFirstRowFault file xs None → IsFirstRowFault file ys (Some x) → IsFirstRowFault file (xs ++ ys) (Some x)
  fault_after [] ys x front back = back
  fault_after (r ∷ rs) ys x front back = inr (front.0, fault_after rs ys x front.1 back)

  pub fault_first : (xs ys : List ImageRow) (x : Fault) → IsFirstRowFault file xs (Some x) → IsFirstRowFault file (xs ++ ys) (Some x)
  fault_first [] ys x front = absurd front
  fault_first (r ∷ rs) ys x (inl is) = inl is
  fault_first (r ∷ rs) ys x (inr later) = inr (later.0, fault_first rs ys x later.1)

-- ---- the heap and the counts

pub heap_more : (es : List TileCode) (e : TileCode) → length (heap_of (es ++ e ∷ [])) ≡ length (heap_of es) + length e.bytes
unfolding heap_of
heap_more es e =
    let parts = flat_map-append (λ (d : TileCode). d.bytes) es (e ∷ []) in
    let all : length (heap_of (es ++ e ∷ [])) ≡ length (heap_of es ++ (e.bytes ++ [])) = ap length parts in
    let two = length-append (heap_of es) (e.bytes ++ []) in
    let one = ap length (append-nil e.bytes) in
    omega (arith, all, two, one)

pub greatest_more : (ns : List ℕ) (n : ℕ) → greatest (ns ++ n ∷ []) ≡ max (greatest ns) n
greatest_more [] n = omega arith
greatest_more (m ∷ ns) n = ap (max m) (greatest_more ns n) ∙ omega arith

pub greatest_map_more : (count : TileCode → ℕ) (es : List TileCode) (e : TileCode) → greatest (map count (es ++ e ∷ [])) ≡ max (greatest (map count es)) (count e)
greatest_map_more count es e = ap greatest (map-append count es (e ∷ [])) ∙ greatest_more (map count es) (count e)
