-- The pixels of a region, run by run.
use Rattle.std.proofs.Common.{◌≡◌, ℕ, zero, suc, ◌+◌, ◌*◌, ◌<◌, ◌≤◌, List, [], ◌∷◌, ◌++◌, length, take, drop, Option, Some, None, IfSome, sym, ap, ◌∙◌, subst, arith}
use Rattle.std.specs.List.{flat_map, range_with_len}
use Rattle.std.proofs.lemmas.List.{append_assoc, append-nil, drop-drop, take_all}
use Rattle.std.proofs.lemmas.Grind.{flat_map-append}
use Rattle.std.proofs.Math.Seq.{take-add}
use Rattle.std.proofs.Math.Nat.{mul-add, mul-le-mul_left, mul-suc, mul-zero}
use Rattle.fz_grid.specs.Runs.{AreApart, EndWithin, total_length}
use Rattle.fz_image.specs.Tiles.{AreBelow, pixels_at_places}

-- the places of runs
abbrev pub run_places : List (ℕ × ℕ) → List ℕ
run_places runs = flat_map (λ (run : ℕ × ℕ). range_with_len run.0 run.1) runs

-- the bytes of pixels that stand one after another
pub run_bytes : (w first count : ℕ) (bytes : List ℕ) → take (w * count) (drop (w * first) bytes) ≡ pixels_at_places w bytes (range_with_len first count)
run_bytes w first zero bytes = ap (λ n. take n (drop (w * first) bytes)) (mul-zero w)
run_bytes w first (suc count) bytes =
    let size : w * suc count ≡ w + w * count = omega (arith, mul-suc w count) in
    let next : w * first + w ≡ w * (first + 1) = omega (arith, mul-suc w first) in
    ap (λ n. take n (drop (w * first) bytes)) size
    ∙ take-add w (w * count) (drop (w * first) bytes)
    ∙ ap (λ l. take w (drop (w * first) bytes) ++ take (w * count) l) (drop-drop w (w * first) bytes ∙ ap (λ n. drop n bytes) next)
    ∙ ap (λ l. take w (drop (w * first) bytes) ++ l) (run_bytes w (first + 1) count bytes)

-- what is read, and what is still to be read, are the pixels
abbrev pub ReadUntil : ℕ → ℕ → List ℕ → Option (List ℕ) → List ℕ → ℕ → List (ℕ × ℕ) → Type 0
ReadUntil w at places held into done left =
    IfSome held (λ file. take done into ++ pixels_at_places w (drop at file) (run_places left) ≡ pixels_at_places w (drop at file) places)

-- nothing is read at first
pub read_none : (w at : ℕ) (places : List ℕ) (held : Option (List ℕ)) (into : List ℕ) (left : List (ℕ × ℕ)) → run_places left ≡ places → ReadUntil w at places held into 0 left
read_none w at places None into left listed = tt
read_none w at places (Some file) into left listed = ap (pixels_at_places w (drop at file)) listed

-- one run more
pub read_more : (w at : ℕ) (places : List ℕ) (held held' : Option (List ℕ)) (into into' : List ℕ) (done first count from len : ℕ) (left left' : List (ℕ × ℕ)) → held' ≡ held →
    left ≡ (first, count) ∷ left' → from ≡ at + w * first → len ≡ w * count → ReadUntil w at places held into done left
    → IfSome held' (λ file. take (done + len) into' ≡ take done into ++ take len (drop from file)) → ReadUntil w at places held into' (done + len) left'
read_more w at places None held' into into' done first count from len left left' same next place size so_far piece = tt
read_more w at places (Some file) held' into into' done first count from len left left' same next place size so_far piece =
    let told : take (done + len) into' ≡ take done into ++ take len (drop from file) =
    subst (λ (h : Option (List ℕ)). IfSome h (λ f. take (done + len) into' ≡ take done into ++ take len (drop from f))) same piece in
    let bytes : List ℕ = drop at file in
    let run : take len (drop from file) ≡ pixels_at_places w bytes (range_with_len first count) =
    ap (λ n. take n (drop from file)) size ∙ ap (λ n. take (w * count) (drop n file)) place ∙ ap (take (w * count)) (sym (drop-drop (w * first) at file)) ∙ run_bytes w first count bytes in
    let split : pixels_at_places w bytes (run_places left) ≡ pixels_at_places w bytes (range_with_len first count) ++ pixels_at_places w bytes (run_places left') =
    ap (λ l. pixels_at_places w bytes (run_places l)) next
    ∙ flat_map-append (λ (place : ℕ). take w (drop (w * place) bytes)) (range_with_len first count) (run_places left') in
    ap (λ l. l ++ pixels_at_places w bytes (run_places left')) (told ∙ ap (λ l. take done into ++ l) run)
    ∙ append_assoc (take done into) (pixels_at_places w bytes (range_with_len first count)) (pixels_at_places w bytes (run_places left'))
    ∙ ap (λ l. take done into ++ l) (sym split)
    ∙ so_far

-- all is read
pub read_all : (w at : ℕ) (places : List ℕ) (held : Option (List ℕ)) (into : List ℕ) (done : ℕ) (left : List (ℕ × ℕ)) → left ≡ [] → length into ≤ done → ReadUntil w at places held into done left →
    IfSome held (λ file. into ≡ pixels_at_places w (drop at file) places)
read_all w at places None into done left none whole so_far = tt
read_all w at places (Some file) into done left none whole so_far =
    sym (take_all done into whole)
    ∙ sym (append-nil (take done into))
    ∙ ap (λ l. take done into ++ l) (sym (ap (λ l. pixels_at_places w (drop at file) (run_places l)) none))
    ∙ so_far

-- ---- where the next run stands

pub next_inside : (most first count : ℕ) (left left' : List (ℕ × ℕ)) → left ≡ (first, count) ∷ left' → EndWithin most left → (first + count ≤ most) × EndWithin most left'
next_inside most first count left left' next inside = subst (EndWithin most) next inside

pub next_total : (first count : ℕ) (left left' : List (ℕ × ℕ)) → left ≡ (first, count) ∷ left' → total_length left ≡ count + total_length left'
next_total first count left left' next = ap total_length next

apart_head : (first count : ℕ) (left : List (ℕ × ℕ)) → AreApart ((first, count) ∷ left) → (0 < count) × AreApart left
apart_head first count [] apart = (apart, tt)
apart_head first count (run ∷ left) apart = (apart.0, apart.2)

pub next_apart : (first count : ℕ) (left left' : List (ℕ × ℕ)) → left ≡ (first, count) ∷ left' → AreApart left → (0 < count) × AreApart left'
next_apart first count left left' next apart = apart_head first count left' (subst AreApart next apart)

-- a run ends within the pixels
pub run_within : (w at first count most n : ℕ) → first + count ≤ most → at + w * most ≤ n → at + w * first + w * count ≤ n
run_within w at first count most n inside within =
    let end : w * (first + count) ≤ w * most = mul-le-mul_left w inside in
    omega (arith, end, mul-add w first count, within)

pub some_bytes : (w count : ℕ) → 0 < w → 0 < count → 0 < w * count
some_bytes w count some more =
    let least : w * 1 ≤ w * count = mul-le-mul_left w (omega (arith, more)) in
    omega (arith, least, some)

-- and the rest of the buffer has room for it
pub run_fits : (w done count rest size : ℕ) → done + w * (count + rest) ≡ size → (done + w * count ≤ size) × (done + w * count + w * rest ≡ size)
run_fits w done count rest size whole = (omega (arith, mul-add w count rest, whole), omega (arith, mul-add w count rest, whole))

-- ---- the places of runs are within the image

below_range : (most first count : ℕ) (rest : List ℕ) → first + count ≤ most → AreBelow most rest → AreBelow most (range_with_len first count ++ rest)
below_range most first zero rest inside below = below
below_range most first (suc count) rest inside below = (omega (arith, inside), below_range most (first + 1) count rest (omega (arith, inside)) below)

below_runs : (most : ℕ) (runs : List (ℕ × ℕ)) → EndWithin most runs → AreBelow most (run_places runs)
below_runs most [] inside = tt
below_runs most (run ∷ runs) inside = below_range most run.0 run.1 (run_places runs) inside.0 (below_runs most runs inside.1)

pub runs_below : (most : ℕ) (runs : List (ℕ × ℕ)) (places : List ℕ) → run_places runs ≡ places → EndWithin most runs → AreBelow most places
runs_below most runs places listed inside = subst (AreBelow most) listed (below_runs most runs inside)
