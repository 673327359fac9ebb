-- A row is refused in the third pass only if the code of its tile is not the one that lies in the heap (FITS 4.0, sections 7.3.5 and 10.1.3).
use Rattle.std.proofs.Common.{◌≡◌, ◌≢◌, ℕ, ◌+◌, ◌-◌, ◌<◌, ◌≤◌, ◌&&◌, nat_le, max, Bool, false, true, ℤ, List, [], ◌∷◌, ◌++◌, length, map, take, drop, Option, Some, None, Result, sym, ap, ◌∙◌, subst, arith}
use Rattle.std.specs.Prelude.{IfSome}
use Rattle.std.proofs.Math.Seq.{drop-append_seam, take-append_seam}
use Rattle.std.proofs.lemmas.Bool.{le-leb}
use Rattle.std.proofs.lemmas.Grind.{flat_map-append}
use Rattle.std.proofs.lemmas.List.{append_assoc, drop-drop, drop-take, length-append, take-take}
use Rattle.std.proofs.lemmas.Slice.Eq.{bytes_eq-Decides}
use Rattle.fz_base.specs.Counts.{Amend}
use Rattle.fz_base.specs.Source.{has_bytes}
use Rattle.fz_base.specs.Stop.{IsRefused}
use Rattle.fz_base.specs.declared.failure.Stop.{Stop}
use Rattle.fz_table.specs.declared.table.Table.{Table}
use Rattle.fz_tile.specs.TileCode.{TileCode}
use Rattle.fz_files.specs.FirstFault.{picked_tiles_of}
use Rattle.fz_files.specs.Packed.{coded_count, heap_of, stored_count}
use Rattle.fz_files.specs.Restored.{image_table}
use Rattle.fz_checks.specs.Greatest.{greatest}
use Rattle.fz_head.specs.declared.plan.Plan.{Plan}
use Rattle.fz_pool.specs.Window.{Pool}
use Rattle.fz_laws.specs.FirstPatchFault.{BoxHasNumbers, RowsHaveNumbers}
use Rattle.fz_laws.specs.PatchLaws.{new_code}
use Rattle.fz_laws.specs.NewNumbers.{box_tiles}
use Rattle.fz_laws.specs.Writes.{new_codes}
use Rattle.fz_patch.specs.Compared.{HeapEndsWith}
use Rattle.fz_target.specs.Measures.{is_measured, measure_of}
use Rattle.fz_target.specs.Targets.{IsGivenTo, IsTarget, IsTargetIn, given_at}
use Rattle.fz_target.specs.Tiles.{HasCode, HasFirst, HasNewCode}
use Rattle.fz_target.specs.Told.{IfBoth}
use Rattle.fz_target.specs.declared.measure.Measure.{Measure}
use Rattle.fz_target.specs.declared.target.Target.{Target}
use Rattle.fz_patch.proofs.Boxes.{more_codes, next_numbers}
use Rattle.fz_patch.proofs.CodedRefusals.{NoFit, Unrefused}
use Rattle.fz_patch.proofs.RowCodes.{HaveRows, LaterAreStill}
use Rattle.fz_patch.proofs.Stays.{HasSameHeap, part_same, stands_still}
use Rattle.fz_patch.proofs.Targeted.{table_of, tiles_of}

none_some : (x : List ℕ) → None ≡ Some x → ⊥
none_some x e = absurd cc

not_both : true ≡ false → ⊥
not_both e = absurd cc

-- ---- what is said of every job whose new codes lie at the end of the heap

-- there is none
abbrev pub NoHeap : Target → Measure → Option (List ℕ) → Option (List ℕ) → Type 0
NoHeap t m held given =
    IfBoth held given (λ f p. (corner : List ℕ) (olds : List (List ℤ)) → IsGivenTo corner p t → BoxHasNumbers f t.header (given_at corner p) olds →
    m ≡ measure_of t.image.plan (new_codes t.image.plan (given_at corner p) (box_tiles t.image.plan (given_at corner p)) olds) →
    HeapEndsWith f t.image.table (heap_of (new_codes t.image.plan (given_at corner p) (box_tiles t.image.plan (given_at corner p)) olds)) → ⊥)

-- none of these is refused
abbrev pub UnrefusedRows : {X : Type 0} → Target → Measure → Option (List ℕ) → Option (List ℕ) → Result X Stop → Type 0
UnrefusedRows t m held given r =
    IfBoth held given (λ f p. (corner : List ℕ) (olds : List (List ℤ)) → IsGivenTo corner p t → BoxHasNumbers f t.header (given_at corner p) olds →
    m ≡ measure_of t.image.plan (new_codes t.image.plan (given_at corner p) (box_tiles t.image.plan (given_at corner p)) olds) →
    HeapEndsWith f t.image.table (heap_of (new_codes t.image.plan (given_at corner p) (box_tiles t.image.plan (given_at corner p)) olds)) → ¬ IsRefused r)

pub also_rows : {X : Type 0} (t : Target) (m : Measure) (held given : Option (List ℕ)) (r : Result X Stop) → Unrefused t m.bytes held given r → UnrefusedRows t m held given r
also_rows t m None given r all = tt
also_rows t m (Some f) None r all = tt
also_rows t m (Some f) (Some p) r all = λ corner olds to rows is ends. all corner olds to rows (sym (ap (λ (x : Measure). x.bytes) is))

pub by_heap : {X : Type 0} (t : Target) (m : Measure) (held given : Option (List ℕ)) (r : Result X Stop) → NoHeap t m held given → UnrefusedRows t m held given r
by_heap t m None given r none = tt
by_heap t m (Some f) None r none = tt
by_heap t m (Some f) (Some p) r none = λ corner olds to rows is ends refused. none corner olds to rows is ends

-- ---- the part of the heap that a code is

-- the middle of three parts
middle : (at : ℕ) (file x y z : List ℕ) → take (length (x ++ (y ++ z))) (drop at file) ≡ x ++ (y ++ z) → take (length y) (drop (at + length x) file) ≡ y
middle at file x y z whole =
    let k : ℕ = length x in
    let n : ℕ = length y in
    let rest : ℕ = length (y ++ z) in
    let both : length (x ++ (y ++ z)) ≡ k + rest = length-append x (y ++ z) in
    let few : n ≤ rest = let one = length-append y z in omega (arith, one) in
    let parts : take (k + rest) (drop at file) ≡ x ++ (y ++ z) = ap (λ i. take i (drop at file)) (sym both) ∙ whole in
    ap (take n) (sym (drop-drop k at file))
    ∙ (sym (take-take n rest (drop k (drop at file)) few)
    ∙ (ap (take n) (sym (drop-take k rest (drop at file)))
    ∙ (ap (λ l. take n (drop k l)) parts
    ∙ (ap (take n) (drop-append_seam x (y ++ z))
    ∙ take-append_seam y z))))

heap_parts : (es : List TileCode) (e : TileCode) (rest : List TileCode) → heap_of ((es ++ e ∷ []) ++ rest) ≡ heap_of es ++ (e.bytes ++ heap_of rest)
unfolding heap_of
heap_parts es e rest =
    let again : (es ++ e ∷ []) ++ rest ≡ es ++ (e ∷ rest) = append_assoc es (e ∷ []) rest in
    ap heap_of again ∙ flat_map-append (λ (d : TileCode). d.bytes) es (e ∷ rest)

-- the code of a tile lies in a heap that ends with all codes, and in another file with the same heap
code_lies : (t : Table) (f file : List ℕ) (es : List TileCode) (e : TileCode) (rest : List TileCode) (start more offset : ℕ) → length (heap_of ((es ++ e ∷ []) ++ rest)) ≡ more → start + more ≡ t.heap_len → offset ≡ start + length (heap_of es) →
    HeapEndsWith f t (heap_of ((es ++ e ∷ []) ++ rest)) → HasSameHeap t file f → take (length e.bytes) (drop (t.heap_at + offset) file) ≡ e.bytes
code_lies t f file es e rest start more offset long end place ends same =
    let x : List ℕ = heap_of es in
    let z : List ℕ = heap_of rest in
    let parts : heap_of ((es ++ e ∷ []) ++ rest) ≡ x ++ (e.bytes ++ z) = heap_parts es e rest in
    let size : length (x ++ (e.bytes ++ z)) ≡ more = sym (ap length parts) ∙ long in
    let two = length-append x (e.bytes ++ z) in
    let one = length-append e.bytes z in
    let from : t.heap_at + (t.heap_len - length (heap_of ((es ++ e ∷ []) ++ rest))) ≡ t.heap_at + start = omega (arith, long, end) in
    let whole : take (length (x ++ (e.bytes ++ z))) (drop (t.heap_at + start) f) ≡ x ++ (e.bytes ++ z) =
    (λ j. take (length (sym parts j)) (drop (sym from j) f)) ∙ (ends ∙ parts) in
    let here : take (length e.bytes) (drop (t.heap_at + start + length x) f) ≡ e.bytes = middle (t.heap_at + start) f x e.bytes z whole in
    let spot : t.heap_at + offset ≡ t.heap_at + start + length x = omega (arith, place) in
    part_same t.heap_at t.heap_len (t.heap_at + offset) (length e.bytes) file f (omega arith) (omega (arith, place, size, one, two, end)) same
    ∙ (ap (λ k. take (length e.bytes) (drop k f)) spot ∙ here)

-- ---- refusals of the third pass

-- another code lies there
pub row_other : (t : Target) (start next : ℕ) (m : Measure) (held given now : Option (List ℕ)) (log log' : Option (List Amend)) (front : List ℕ) (tile : ℕ) (left : List ℕ) (offset : ℕ) (bytes : List ℕ) (w : Pool) → IsTarget t →
    picked_tiles_of t.image.plan t.sieve ≡ front ++ (tile ∷ left) → next ≤ tile → tile < t.image.table.rows → IfSome held (λ f. IsTargetIn f t) → LaterAreStill t next held now → HaveRows t start front given held now log log' offset →
    IfBoth now given (λ f p. (corner : List ℕ) → IsGivenTo corner p t → HasNewCode f t.header t.image.plan (given_at corner p) tile w) →
    ((code : TileCode) → HasFirst (HasCode code) w → bytes ≡ code.bytes) → start + m.bytes ≡ t.image.table.heap_len →
    IfSome now (λ f. false ≡ has_bytes f (t.image.table.heap_at + offset) bytes) → NoHeap t m held given
row_other t start next m None given now log log' front tile left offset bytes w is parts low less said still have new coded end other = tt
row_other t start next m (Some f) None now log log' front tile left offset bytes w is parts low less said still have new coded end other = tt
row_other t start next m (Some f) (Some p) None log log' front tile left offset bytes w is parts low less said still have new coded end other =
    λ corner olds to rows is_m ends. none_some _ (have corner olds to rows).wrote.held_is
row_other t start next m (Some f) (Some p) (Some file) log log' front tile left offset bytes w is parts low less said still have new coded end other = λ corner olds to rows is_m ends.
    let g = given_at corner p in
    let plan = t.image.plan in
    let table : Table = t.image.table in
    let long : length (heap_of (new_codes plan g (box_tiles plan g) olds)) ≡ m.bytes = sym (ap (λ (y : Measure). y.bytes) is_m) in
    let boxes : box_tiles plan g ≡ front ++ (tile ∷ left) = ap (picked_tiles_of plan) (sym to.sieve) ∙ parts in
    let all : RowsHaveNumbers f t.header (front ++ (tile ∷ left)) olds = subst (λ ts. RowsHaveNumbers f t.header ts olds) (tiles_of f t corner p said to ∙ parts) rows in
    let old = have corner olds to rows in
    let es : List TileCode = new_codes plan g front olds in
    let found = next_numbers f t.header plan g front tile left olds all in
    let e : TileCode = new_code plan g tile found.xs in
    let stands = stands_still f file t.header tile found.xs (table_of f t is said) (still tile low less) found.stands in
    let same : bytes ≡ e.bytes = coded e (new corner to found.xs stands) in
    let again : (front ++ tile ∷ []) ++ left ≡ front ++ (tile ∷ left) = append_assoc front (tile ∷ []) left in
    let rest = more_codes f t.header plan g (front ++ tile ∷ []) left olds (subst (λ ts. RowsHaveNumbers f t.header ts olds) (sym again) all) in
    let whole : new_codes plan g (box_tiles plan g) olds ≡ (es ++ e ∷ []) ++ rest.0 = ap (λ ts. new_codes plan g ts olds) (boxes ∙ sym again) ∙ rest.1 ∙ ap (λ l. l ++ rest.0) found.codes in
    let heap : HasSameHeap table file f = subst (λ u. HasSameHeap u file f) said.said.table (still tile low less).heap in
    let lies : take (length e.bytes) (drop (table.heap_at + offset) file) ≡ e.bytes =
    code_lies table f file es e rest.0 start m.bytes offset (sym (ap (λ l. length (heap_of l)) whole) ∙ long) end old.place (subst (λ l. HeapEndsWith f table (heap_of l)) whole ends) heap in
    let there : has_bytes file (table.heap_at + offset) e.bytes ≡ true = (bytes_eq-Decides (take (length e.bytes) (drop (table.heap_at + offset) file)) e.bytes).1 lies in
    not_both (sym there ∙ (ap (has_bytes file (table.heap_at + offset)) (sym same) ∙ sym other))

-- ---- a code with more elements than was measured

among : (count : TileCode → ℕ) (es : List TileCode) (e : TileCode) (rest : List TileCode) → count e ≤ greatest (map count ((es ++ e ∷ []) ++ rest))
among count [] e rest = omega arith
among count (d ∷ es) e rest =
    let more : count e ≤ greatest (map count ((es ++ e ∷ []) ++ rest)) = among count es e rest in
    let first : count e ≤ max (count d) (greatest (map count ((es ++ e ∷ []) ++ rest))) = omega (arith, more) in
    first

both_true : (a b : Bool) → a ≡ true → b ≡ true → (a && b) ≡ true
both_true true b one two = two
both_true false b one two = absurd (not_both (sym one))

measured_all : (p : Plan) (m : Measure) (es : List TileCode) (e : TileCode) (rest : List TileCode) → m ≡ measure_of p ((es ++ e ∷ []) ++ rest) → is_measured p m e ≡ true
measured_all p m es e rest is =
    let coded : coded_count p e ≤ m.coded = subst (λ (y : Measure). coded_count p e ≤ y.coded) (sym is) (among (coded_count p) es e rest) in
    let stored : stored_count p e ≤ m.stored = subst (λ (y : Measure). stored_count p e ≤ y.stored) (sym is) (among (stored_count p) es e rest) in
    both_true (nat_le (coded_count p e) m.coded) (nat_le (stored_count p e) m.stored) (le-leb (coded_count p e) m.coded coded) (le-leb (stored_count p e) m.stored stored)

pub row_unmeasured : (t : Target) (start next : ℕ) (m : Measure) (held given now : Option (List ℕ)) (log log' : Option (List Amend)) (front : List ℕ) (tile : ℕ) (left : List ℕ) (offset : ℕ) (made : TileCode) (w : Pool) → IsTarget t →
    picked_tiles_of t.image.plan t.sieve ≡ front ++ (tile ∷ left) → next ≤ tile → tile < t.image.table.rows → IfSome held (λ f. IsTargetIn f t) → LaterAreStill t next held now → HaveRows t start front given held now log log' offset →
    IfBoth now given (λ f p. (corner : List ℕ) → IsGivenTo corner p t → HasNewCode f t.header t.image.plan (given_at corner p) tile w) →
    ((code : TileCode) → HasFirst (HasCode code) w → made ≡ code) → is_measured t.image.plan m made ≡ false → NoHeap t m held given
row_unmeasured t start next m None given now log log' front tile left offset made w is parts low less said still have new coded other = tt
row_unmeasured t start next m (Some f) None now log log' front tile left offset made w is parts low less said still have new coded other = tt
row_unmeasured t start next m (Some f) (Some p) None log log' front tile left offset made w is parts low less said still have new coded other =
    λ corner olds to rows is_m ends. none_some _ (have corner olds to rows).wrote.held_is
row_unmeasured t start next m (Some f) (Some p) (Some file) log log' front tile left offset made w is parts low less said still have new coded other = λ corner olds to rows is_m ends.
    let g = given_at corner p in
    let plan = t.image.plan in
    let boxes : box_tiles plan g ≡ front ++ (tile ∷ left) = ap (picked_tiles_of plan) (sym to.sieve) ∙ parts in
    let all : RowsHaveNumbers f t.header (front ++ (tile ∷ left)) olds = subst (λ ts. RowsHaveNumbers f t.header ts olds) (tiles_of f t corner p said to ∙ parts) rows in
    let es : List TileCode = new_codes plan g front olds in
    let found = next_numbers f t.header plan g front tile left olds all in
    let e : TileCode = new_code plan g tile found.xs in
    let stands = stands_still f file t.header tile found.xs (table_of f t is said) (still tile low less) found.stands in
    let same : made ≡ e = coded e (new corner to found.xs stands) in
    let again : (front ++ tile ∷ []) ++ left ≡ front ++ (tile ∷ left) = append_assoc front (tile ∷ []) left in
    let rest = more_codes f t.header plan g (front ++ tile ∷ []) left olds (subst (λ ts. RowsHaveNumbers f t.header ts olds) (sym again) all) in
    let whole : new_codes plan g (box_tiles plan g) olds ≡ (es ++ e ∷ []) ++ rest.0 = ap (λ ts. new_codes plan g ts olds) (boxes ∙ sym again) ∙ rest.1 ∙ ap (λ l. l ++ rest.0) found.codes in
    let there : is_measured plan m e ≡ true = measured_all plan m es e rest.0 (is_m ∙ ap (measure_of plan) whole) in
    not_both (sym there ∙ (ap (is_measured plan m) (sym same) ∙ other))

-- all codes do not end where the heap does
pub rows_too_short : (t : Target) (start more : ℕ) (held given now : Option (List ℕ)) (log log' : Option (List Amend)) (front : List ℕ) (offset : ℕ) → picked_tiles_of t.image.plan t.sieve ≡ front →
    HaveRows t start front given held now log log' offset → offset ≢ start + more → NoFit t more held given
rows_too_short t start more None given now log log' front offset parts have other = tt
rows_too_short t start more (Some f) None now log log' front offset parts have other = tt
rows_too_short t start more (Some f) (Some p) now log log' front offset parts have other = λ corner olds to rows long.
    let g = given_at corner p in
    let plan = t.image.plan in
    let boxes : box_tiles plan g ≡ front = ap (picked_tiles_of plan) (sym to.sieve) ∙ parts in
    let old = have corner olds to rows in
    let sizes : length (heap_of (new_codes plan g (box_tiles plan g) olds)) ≡ length (heap_of (new_codes plan g front olds)) = ap (λ ts. length (heap_of (new_codes plan g ts olds))) boxes in
    let same : offset ≡ start + more = omega (arith, long, sizes, old.place) in
    other same
