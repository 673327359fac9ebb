-- The tiles with a pixel in the box, one after another: their numbers, their codes, and what is written for them.
use Rattle.std.proofs.Common.{◌≡◌, ℕ, zero, suc, ◌+◌, ◌≤◌, ℤ, List, [], ◌∷◌, ◌++◌, length, map, zip, filter, Bool, true, false, if◌then◌else◌, refl, ap, ◌∙◌, arith}
use Rattle.std.specs.Prelude.{None, ⊤}
use Rattle.std.specs.List.{range_with_len}
use Rattle.std.proofs.lemmas.List.{append-nil, length-append}
use Rattle.std.proofs.lemmas.Grind.{flat_map-append}
use Rattle.fz_block.specs.declared.header.Header.{Header}
use Rattle.fz_table.specs.Rows.{row_start}
use Rattle.fz_table.specs.declared.table.Table.{Table}
use Rattle.fz_tile.specs.TileCode.{TileCode}
use Rattle.fz_head.specs.declared.plan.Plan.{Plan}
use Rattle.fz_files.specs.FirstFault.{IsFirstRowFault, image_row}
use Rattle.fz_files.specs.Packed.{heap_of, row_of}
use Rattle.fz_files.specs.Restored.{RowStandsFor}
use Rattle.fz_laws.specs.Amends.{amend_of}
use Rattle.fz_laws.specs.FirstPatchFault.{RowsHaveNumbers}
use Rattle.fz_laws.specs.Given.{Given}
use Rattle.fz_laws.specs.PatchLaws.{new_code}
use Rattle.fz_laws.specs.Writes.{code_writes, new_codes, row_writes}

-- ---- numbers and codes

-- The numbers of the tile that is next, and its code after those of the tiles before it.
pub record NextNumbers (file : List ℕ) (h : Header) (p : Plan) (g : Given) (front : List ℕ) (t : ℕ) (olds : List (List ℤ)) : Type 0 where
  pub xs : List ℤ
  pub stands : RowStandsFor file h t xs
  pub codes : new_codes p g (front ++ t ∷ []) olds ≡ new_codes p g front olds ++ (new_code p g t xs ∷ [])

pub next_numbers : (file : List ℕ) (h : Header) (p : Plan) (g : Given) (front : List ℕ) (t : ℕ) (left : List ℕ) (olds : List (List ℤ)) → RowsHaveNumbers file h (front ++ (t ∷ left)) olds → NextNumbers file h p g front t olds
next_numbers file h p g [] t left [] rows = absurd rows
next_numbers file h p g [] t left (xs ∷ olds) rows = record { xs = xs; stands = rows.0; codes = refl }
next_numbers file h p g (u ∷ front) t left [] rows = absurd rows
next_numbers file h p g (u ∷ front) t left (ys ∷ olds) rows =
    let next = next_numbers file h p g front t left olds rows.1 in
    record { xs = next.xs; stands = next.stands; codes = ap (λ l. new_code p g u ys ∷ l) next.codes }

-- rows that are sound have numbers
pub record SomeNumbers (file : List ℕ) (h : Header) (ts : List ℕ) : Type 0 where
  pub olds : List (List ℤ)
  pub rows : RowsHaveNumbers file h ts olds

pub some_numbers : (file : List ℕ) (h : Header) (ts : List ℕ) → IsFirstRowFault file (map (image_row h) ts) None → SomeNumbers file h ts
some_numbers file h [] sound = record { olds = []; rows = tt }
some_numbers file h (t ∷ ts) sound =
    let more = some_numbers file h ts sound.1 in
    record { olds = sound.0.0 ∷ more.olds; rows = (sound.0.1, more.rows) }

-- ---- the heap and the counts

pub heap_more : (es : List TileCode) (e : TileCode) → length (heap_of (es ++ e ∷ [])) ≡ length (heap_of es) + length e.bytes
unfolding heap_of
heap_more es e =
    let parts = flat_map-append (λ (d : TileCode). d.bytes) es (e ∷ []) in
    let all : length (heap_of (es ++ e ∷ [])) ≡ length (heap_of es ++ (e.bytes ++ [])) = ap length parts in
    let two = length-append (heap_of es) (e.bytes ++ []) in
    let one = ap length (append-nil e.bytes) in
    omega (arith, all, two, one)

-- ---- the writes

pub codes_more : (start : ℕ) (es : List TileCode) (e : TileCode) → code_writes start (es ++ e ∷ []) ≡ code_writes start es ++ (amend_of (start + length (heap_of es)) e.bytes ∷ [])
unfolding heap_of
codes_more start [] e =
    let place : start ≡ start + 0 = omega arith in
    ap (λ at. amend_of at e.bytes ∷ []) place
codes_more start (d ∷ es) e =
    let parts = length-append d.bytes (heap_of es) in
    let place : start + length d.bytes + length (heap_of es) ≡ start + length (d.bytes ++ heap_of es) = omega (arith, parts) in
    ap (λ l. amend_of start d.bytes ∷ l)
    (codes_more (start + length d.bytes) es e ∙ ap (λ at. code_writes (start + length d.bytes) es ++ (amend_of at e.bytes ∷ [])) place)

pub rows_more : (t : Table) (p : Plan) (offset : ℕ) (ts : List ℕ) (es : List TileCode) (row : ℕ) (e : TileCode) → length ts ≡ length es →
    row_writes t p offset (zip (ts ++ row ∷ []) (es ++ e ∷ [])) ≡ row_writes t p offset (zip ts es) ++ (amend_of (row_start t row) (row_of p (offset + length (heap_of es)) e) ∷ [])
unfolding heap_of
rows_more t p offset [] [] row e same =
    let place : offset ≡ offset + 0 = omega arith in
    ap (λ at. amend_of (row_start t row) (row_of p at e) ∷ []) place
rows_more t p offset [] (d ∷ es) row e same = absurd (omega (arith, same))
rows_more t p offset (u ∷ ts) [] row e same = absurd (omega (arith, same))
rows_more t p offset (u ∷ ts) (d ∷ es) row e same =
    let parts = length-append d.bytes (heap_of es) in
    let place : offset + length d.bytes + length (heap_of es) ≡ offset + length (d.bytes ++ heap_of es) = omega (arith, parts) in
    ap (λ l. amend_of (row_start t u) (row_of p offset d) ∷ l)
    (rows_more t p (offset + length d.bytes) ts es row e (omega (arith, same))
    ∙ ap (λ at. row_writes t p (offset + length d.bytes) (zip ts es) ++ (amend_of (row_start t row) (row_of p at e) ∷ [])) place)

-- those of more tiles
pub more_codes : (file : List ℕ) (h : Header) (p : Plan) (g : Given) (front left : List ℕ) (olds : List (List ℤ)) → RowsHaveNumbers file h (front ++ left) olds → (rest : List TileCode) × (new_codes p g (front ++ left) olds ≡ new_codes p g front olds ++ rest)
more_codes file h p g [] left olds rows = (new_codes p g left olds, refl)
more_codes file h p g (t ∷ front) left [] rows = absurd rows
more_codes file h p g (t ∷ front) left (xs ∷ olds) rows =
    let more = more_codes file h p g front left olds rows.1 in
    (more.0, ap (λ l. new_code p g t xs ∷ l) more.1)

pub codes_then : (start : ℕ) (es rest : List TileCode) → code_writes start (es ++ rest) ≡ code_writes start es ++ code_writes (start + length (heap_of es)) rest
unfolding heap_of
codes_then start [] rest =
    let place : start ≡ start + 0 = omega arith in
    ap (λ at. code_writes at rest) place
codes_then start (d ∷ es) rest =
    let parts = length-append d.bytes (heap_of es) in
    let place : start + length d.bytes + length (heap_of es) ≡ start + length (d.bytes ++ heap_of es) = omega (arith, parts) in
    ap (λ l. amend_of start d.bytes ∷ l)
    (codes_then (start + length d.bytes) es rest ∙ ap (λ at. code_writes (start + length d.bytes) es ++ code_writes at rest) place)

-- as many codes as tiles
pub codes_count : (file : List ℕ) (h : Header) (p : Plan) (g : Given) (front left : List ℕ) (olds : List (List ℤ)) → RowsHaveNumbers file h (front ++ left) olds → length (new_codes p g front olds) ≡ length front
codes_count file h p g [] left olds rows = refl
codes_count file h p g (t ∷ front) left [] rows = absurd rows
codes_count file h p g (t ∷ front) left (xs ∷ olds) rows = ap suc (codes_count file h p g front left olds rows.1)

-- ---- tiles that ascend

-- these ascend, from this number on
abbrev pub AreAbove : ℕ → List ℕ → Type 0
AreAbove low [] = ⊤
AreAbove low (t ∷ ts) = (low ≤ t) × AreAbove (t + 1) ts

lower : (low high : ℕ) (ts : List ℕ) → low ≤ high → AreAbove high ts → AreAbove low ts
lower low high [] less above = tt
lower low high (t ∷ ts) less above = (omega (arith, less, above.0), above.1)

above_by : (low : ℕ) (rest : List ℕ) (b : Bool) → AreAbove (low + 1) rest → AreAbove low (if b then low ∷ rest else rest)
above_by low rest true more = (omega arith, more)
above_by low rest false more = lower low (low + 1) rest (omega arith) more

pub filtered_above : (test : ℕ → Bool) (low count : ℕ) → AreAbove low (filter test (range_with_len low count))
filtered_above test low zero = tt
filtered_above test low (suc count) = above_by low (filter test (range_with_len (low + 1) count)) (test low) (filtered_above test (low + 1) count)

pub rows_then : (t : Table) (p : Plan) (offset : ℕ) (ts more : List ℕ) (es rest : List TileCode) → length ts ≡ length es →
    row_writes t p offset (zip (ts ++ more) (es ++ rest)) ≡ row_writes t p offset (zip ts es) ++ row_writes t p (offset + length (heap_of es)) (zip more rest)
unfolding heap_of
rows_then t p offset [] more [] rest same =
    let place : offset ≡ offset + 0 = omega arith in
    ap (λ at. row_writes t p at (zip more rest)) place
rows_then t p offset [] more (d ∷ es) rest same = absurd (omega (arith, same))
rows_then t p offset (u ∷ ts) more [] rest same = absurd (omega (arith, same))
rows_then t p offset (u ∷ ts) more (d ∷ es) rest same =
    let parts = length-append d.bytes (heap_of es) in
    let place : offset + length d.bytes + length (heap_of es) ≡ offset + length (d.bytes ++ heap_of es) = omega (arith, parts) in
    ap (λ l. amend_of (row_start t u) (row_of p offset d) ∷ l)
    (rows_then t p (offset + length d.bytes) ts more es rest (omega (arith, same))
    ∙ ap (λ at. row_writes t p (offset + length d.bytes) (zip ts es) ++ row_writes t p at (zip more rest)) place)
