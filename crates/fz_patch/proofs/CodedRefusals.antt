-- No tile is refused in the second or in the third pass if its row stands for numbers, and the new codes are as long as was measured.
use Rattle.std.proofs.Common.{◌≡◌, ◌≢◌, ℕ, ◌+◌, ◌<◌, ◌≤◌, ℤ, List, [], ◌∷◌, ◌++◌, length, zip, Option, Some, None, Result, sym, ap, ◌∙◌, subst, arith}
use Rattle.std.specs.Prelude.{IfSome}
use Rattle.std.proofs.lemmas.List.{append_assoc, length-append}
use Rattle.std.proofs.lemmas.Grind.{flat_map-append}
use Rattle.fz_base.specs.Counts.{Amend}
use Rattle.fz_base.specs.Stop.{IsRefused}
use Rattle.fz_base.specs.declared.failure.Stop.{Stop}
use Rattle.fz_tile.specs.TileCode.{TileCode}
use Rattle.fz_files.specs.FirstFault.{picked_tiles_of}
use Rattle.fz_files.specs.Packed.{heap_of}
use Rattle.fz_files.specs.Restored.{RowStandsFor}
use Rattle.fz_pool.specs.Window.{Pool}
use Rattle.fz_laws.specs.FirstPatchFault.{BoxHasNumbers, RowsHaveNumbers}
use Rattle.fz_laws.specs.PatchLaws.{new_code}
use Rattle.fz_laws.specs.NewNumbers.{box_tiles}
use Rattle.fz_laws.specs.Writes.{new_codes, row_writes}
use Rattle.fz_target.specs.Steps.{HasFirstOf, Wrote, WroteSome}
use Rattle.fz_target.specs.Targets.{IsGivenTo, IsTarget, IsTargetIn, given_at, plan_to_write}
use Rattle.fz_target.specs.Tiles.{HasCode, HasFirst, HasNewCode}
use Rattle.fz_target.specs.Told.{IfBoth}
use Rattle.fz_target.specs.declared.target.Target.{Target}
use Rattle.fz_patch.proofs.Boxes.{heap_more, more_codes, next_numbers}
use Rattle.fz_patch.proofs.NewCodes.{HaveCodes, RowsAreStill, SomeCodes, heap_end_of}
use Rattle.fz_patch.proofs.RowCodes.{HaveRows, LaterAreStill, SomeRows}
use Rattle.fz_patch.proofs.Stays.{stands_still}
use Rattle.fz_patch.proofs.Targeted.{table_of, tiles_of}

none_some : (x : List ℕ) → None ≡ Some x → ⊥
none_some x e = absurd cc

-- ---- what is said of every job that puts PATCH there, whose rows have numbers

-- there is none
abbrev pub NoNumbers : Target → Option (List ℕ) → Option (List ℕ) → Type 0
NoNumbers t held given = IfBoth held given (λ f p. (corner : List ℕ) (olds : List (List ℤ)) → IsGivenTo corner p t → BoxHasNumbers f t.header (given_at corner p) olds → ⊥)

-- there is none whose new codes have so many bytes
abbrev pub NoFit : Target → ℕ → Option (List ℕ) → Option (List ℕ) → Type 0
NoFit t more held given =
    IfBoth held given (λ f p. (corner : List ℕ) (olds : List (List ℤ)) → IsGivenTo corner p t → BoxHasNumbers f t.header (given_at corner p) olds →
    length (heap_of (new_codes t.image.plan (given_at corner p) (box_tiles t.image.plan (given_at corner p)) olds)) ≡ more → ⊥)

-- none of these is refused
abbrev pub Unrefused : {X : Type 0} → Target → ℕ → Option (List ℕ) → Option (List ℕ) → Result X Stop → Type 0
Unrefused t more held given r =
    IfBoth held given (λ f p. (corner : List ℕ) (olds : List (List ℤ)) → IsGivenTo corner p t → BoxHasNumbers f t.header (given_at corner p) olds →
    length (heap_of (new_codes t.image.plan (given_at corner p) (box_tiles t.image.plan (given_at corner p)) olds)) ≡ more → ¬ IsRefused r)

pub by_numbers : {X : Type 0} (t : Target) (more : ℕ) (held given : Option (List ℕ)) (r : Result X Stop) → (IsRefused r → NoNumbers t held given) → Unrefused t more held given r
by_numbers t more None given r none = tt
by_numbers t more (Some f) None r none = tt
by_numbers t more (Some f) (Some p) r none = λ corner olds to rows long refused. none refused corner olds to rows

pub by_fit : {X : Type 0} (t : Target) (more : ℕ) (held given : Option (List ℕ)) (r : Result X Stop) → NoFit t more held given → Unrefused t more held given r
by_fit t more None given r none = tt
by_fit t more (Some f) None r none = tt
by_fit t more (Some f) (Some p) r none = λ corner olds to rows long refused. none corner olds to rows long

pub by_stop : {X : Type 0} (t : Target) (more : ℕ) (held given : Option (List ℕ)) (r : Result X Stop) → (IsRefused r → ⊥) → Unrefused t more held given r
by_stop t more None given r none = tt
by_stop t more (Some f) None r none = tt
by_stop t more (Some f) (Some p) r none = λ corner olds to rows long refused. none refused

-- ---- the second pass

pub row_refused : (t : Target) (held given now : Option (List ℕ)) (log log' : Option (List Amend)) (front : List ℕ) (tile : ℕ) (left : List ℕ) (at : ℕ) → IsTarget t →
    picked_tiles_of t.image.plan t.sieve ≡ front ++ (tile ∷ left) → tile < t.image.table.rows → IfSome held (λ f. IsTargetIn f t) → RowsAreStill t held now → HaveCodes t front given held now log log' at →
    IfSome now (λ f. (xs : List ℤ) → ¬ RowStandsFor f t.header tile xs) → NoNumbers t held given
row_refused t None given now log log' front tile left at is parts less said still have refused = tt
row_refused t (Some f) None now log log' front tile left at is parts less said still have refused = tt
row_refused t (Some f) (Some p) None log log' front tile left at is parts less said still have refused = λ corner olds to rows. none_some _ (have corner olds to rows).wrote.held_is
row_refused t (Some f) (Some p) (Some file) log log' front tile left at is parts less said still have refused = λ corner olds to rows.
    let all : RowsHaveNumbers f t.header (front ++ (tile ∷ left)) olds = subst (λ ts. RowsHaveNumbers f t.header ts olds) (tiles_of f t corner p said to ∙ parts) rows in
    let next = next_numbers f t.header t.image.plan (given_at corner p) front tile left olds all in
    refused next.xs (stands_still f file t.header tile next.xs (table_of f t is said) (still tile less) next.stands)

heap_both : (xs ys : List TileCode) → length (heap_of (xs ++ ys)) ≡ length (heap_of xs) + length (heap_of ys)
unfolding heap_of
heap_both xs ys =
    let parts = flat_map-append (λ (d : TileCode). d.bytes) xs ys in
    let all : length (heap_of (xs ++ ys)) ≡ length (heap_of xs ++ heap_of ys) = ap length parts in
    all ∙ length-append (heap_of xs) (heap_of ys)

-- the code of a tile ends after those that were measured
pub code_too_long : (t : Target) (more : ℕ) (held given now : Option (List ℕ)) (log log' : Option (List Amend)) (front : List ℕ) (tile : ℕ) (left : List ℕ) (at size : ℕ) (w : Pool) → IsTarget t →
    picked_tiles_of t.image.plan t.sieve ≡ front ++ (tile ∷ left) → tile < t.image.table.rows → IfSome held (λ f. IsTargetIn f t) → RowsAreStill t held now → HaveCodes t front given held now log log' at →
    IfBoth now given (λ f p. (corner : List ℕ) → IsGivenTo corner p t → HasNewCode f t.header t.image.plan (given_at corner p) tile w) →
    ((code : TileCode) → HasFirst (HasCode code) w → size ≡ length code.bytes) → heap_end_of t + more < at + size → NoFit t more held given
code_too_long t more None given now log log' front tile left at size w is parts less said still have new coded past = tt
code_too_long t more (Some f) None now log log' front tile left at size w is parts less said still have new coded past = tt
code_too_long t more (Some f) (Some p) None log log' front tile left at size w is parts less said still have new coded past = λ corner olds to rows long. none_some _ (have corner olds to rows).wrote.held_is
code_too_long t more (Some f) (Some p) (Some file) log log' front tile left at size w is parts less said still have new coded past = λ corner olds to rows long.
    let g = given_at corner p in
    let plan = t.image.plan in
    let boxes : box_tiles plan g ≡ front ++ (tile ∷ left) = ap (picked_tiles_of plan) (sym to.sieve) ∙ parts in
    let all : RowsHaveNumbers f t.header (front ++ (tile ∷ left)) olds = subst (λ ts. RowsHaveNumbers f t.header ts olds) (tiles_of f t corner p said to ∙ parts) rows in
    let old = have corner olds to rows in
    let es : List TileCode = new_codes plan g front olds in
    let next = next_numbers f t.header plan g front tile left olds all in
    let e : TileCode = new_code plan g tile next.xs in
    let stands = stands_still f file t.header tile next.xs (table_of f t is said) (still tile less) next.stands in
    let same : size ≡ length e.bytes = coded e (new corner to next.xs stands) in
    let again : (front ++ tile ∷ []) ++ left ≡ front ++ (tile ∷ left) = append_assoc front (tile ∷ []) left in
    let rest = more_codes f t.header plan g (front ++ tile ∷ []) left olds (subst (λ ts. RowsHaveNumbers f t.header ts olds) (sym again) all) in
    let whole : new_codes plan g (box_tiles plan g) olds ≡ (es ++ e ∷ []) ++ rest.0 = ap (λ ts. new_codes plan g ts olds) (boxes ∙ sym again) ∙ rest.1 ∙ ap (λ l. l ++ rest.0) next.codes in
    let sizes : length (heap_of (new_codes plan g (box_tiles plan g) olds)) ≡ length (heap_of (es ++ e ∷ [])) + length (heap_of rest.0) = ap (λ l. length (heap_of l)) whole ∙ heap_both (es ++ e ∷ []) rest.0 in
    let one = heap_more es e in
    omega (arith, long, sizes, one, old.place, same, past)

-- all codes do not end where those that were measured do
pub codes_too_short : (t : Target) (more : ℕ) (held given now : Option (List ℕ)) (log log' : Option (List Amend)) (front : List ℕ) (at : ℕ) → picked_tiles_of t.image.plan t.sieve ≡ front →
    HaveCodes t front given held now log log' at → at ≢ heap_end_of t + more → NoFit t more held given
codes_too_short t more None given now log log' front at parts have other = tt
codes_too_short t more (Some f) None now log log' front at parts have other = tt
codes_too_short t more (Some f) (Some p) now log log' front at parts have other = λ corner olds to rows long.
    let g = given_at corner p in
    let plan = t.image.plan in
    let boxes : box_tiles plan g ≡ front = ap (picked_tiles_of plan) (sym to.sieve) ∙ parts in
    let old = have corner olds to rows in
    let sizes : length (heap_of (new_codes plan g (box_tiles plan g) olds)) ≡ length (heap_of (new_codes plan g front olds)) = ap (λ ts. length (heap_of (new_codes plan g ts olds))) boxes in
    let same : at ≡ heap_end_of t + more = omega (arith, long, sizes, old.place) in
    other same

-- ---- the third pass

pub later_row_refused : (t : Target) (start next : ℕ) (held given now : Option (List ℕ)) (log log' : Option (List Amend)) (front : List ℕ) (tile : ℕ) (left : List ℕ) (offset : ℕ) → IsTarget t →
    picked_tiles_of t.image.plan t.sieve ≡ front ++ (tile ∷ left) → next ≤ tile → tile < t.image.table.rows → IfSome held (λ f. IsTargetIn f t) → LaterAreStill t next held now → HaveRows t start front given held now log log' offset →
    IfSome now (λ f. (xs : List ℤ) → ¬ RowStandsFor f t.header tile xs) → NoNumbers t held given
later_row_refused t start next None given now log log' front tile left offset is parts low less said still have refused = tt
later_row_refused t start next (Some f) None now log log' front tile left offset is parts low less said still have refused = tt
later_row_refused t start next (Some f) (Some p) None log log' front tile left offset is parts low less said still have refused = λ corner olds to rows. none_some _ (have corner olds to rows).wrote.held_is
later_row_refused t start next (Some f) (Some p) (Some file) log log' front tile left offset is parts low less said still have refused = λ corner olds to rows.
    let all : RowsHaveNumbers f t.header (front ++ (tile ∷ left)) olds = subst (λ ts. RowsHaveNumbers f t.header ts olds) (tiles_of f t corner p said to ∙ parts) rows in
    let found = next_numbers f t.header t.image.plan (given_at corner p) front tile left olds all in
    refused found.xs (stands_still f file t.header tile found.xs (table_of f t is said) (still tile low less) found.stands)

pub row_too_long : (t : Target) (start more next : ℕ) (held given now : Option (List ℕ)) (log log' : Option (List Amend)) (front : List ℕ) (tile : ℕ) (left : List ℕ) (offset size : ℕ) (w : Pool) → IsTarget t →
    picked_tiles_of t.image.plan t.sieve ≡ front ++ (tile ∷ left) → next ≤ tile → tile < t.image.table.rows → IfSome held (λ f. IsTargetIn f t) → LaterAreStill t next held now → HaveRows t start front given held now log log' offset →
    IfBoth now given (λ f p. (corner : List ℕ) → IsGivenTo corner p t → HasNewCode f t.header t.image.plan (given_at corner p) tile w) →
    ((code : TileCode) → HasFirst (HasCode code) w → size ≡ length code.bytes) → start + more < offset + size → NoFit t more held given
row_too_long t start more next None given now log log' front tile left offset size w is parts low less said still have new coded past = tt
row_too_long t start more next (Some f) None now log log' front tile left offset size w is parts low less said still have new coded past = tt
row_too_long t start more next (Some f) (Some p) None log log' front tile left offset size w is parts low less said still have new coded past = λ corner olds to rows long. none_some _ (have corner olds to rows).wrote.held_is
row_too_long t start more next (Some f) (Some p) (Some file) log log' front tile left offset size w is parts low less said still have new coded past = λ corner olds to rows long.
    let g = given_at corner p in
    let plan = t.image.plan in
    let boxes : box_tiles plan g ≡ front ++ (tile ∷ left) = ap (picked_tiles_of plan) (sym to.sieve) ∙ parts in
    let all : RowsHaveNumbers f t.header (front ++ (tile ∷ left)) olds = subst (λ ts. RowsHaveNumbers f t.header ts olds) (tiles_of f t corner p said to ∙ parts) rows in
    let old = have corner olds to rows in
    let es : List TileCode = new_codes plan g front olds in
    let found = next_numbers f t.header plan g front tile left olds all in
    let e : TileCode = new_code plan g tile found.xs in
    let stands = stands_still f file t.header tile found.xs (table_of f t is said) (still tile low less) found.stands in
    let same : size ≡ length e.bytes = coded e (new corner to found.xs stands) in
    let again : (front ++ tile ∷ []) ++ left ≡ front ++ (tile ∷ left) = append_assoc front (tile ∷ []) left in
    let rest = more_codes f t.header plan g (front ++ tile ∷ []) left olds (subst (λ ts. RowsHaveNumbers f t.header ts olds) (sym again) all) in
    let whole : new_codes plan g (box_tiles plan g) olds ≡ (es ++ e ∷ []) ++ rest.0 = ap (λ ts. new_codes plan g ts olds) (boxes ∙ sym again) ∙ rest.1 ∙ ap (λ l. l ++ rest.0) found.codes in
    let sizes : length (heap_of (new_codes plan g (box_tiles plan g) olds)) ≡ length (heap_of (es ++ e ∷ [])) + length (heap_of rest.0) = ap (λ l. length (heap_of l)) whole ∙ heap_both (es ++ e ∷ []) rest.0 in
    let one = heap_more es e in
    omega (arith, long, sizes, one, old.place, same, past)

-- ---- the same after a wait, which writes nothing

pub wrote_same : (ws : List Amend) (held now now' : Option (List ℕ)) (log log' log'' : Option (List Amend)) → now' ≡ now → log'' ≡ log' → Wrote ws held now log log' → Wrote ws held now' log log''
wrote_same ws held now now' log log' log'' e l w = record { held_is = e ∙ w.held_is; logged = l ∙ w.logged }

pub some_same : (ws : List Amend) (held now now' : Option (List ℕ)) (log log' log'' : Option (List Amend)) → now' ≡ now → log'' ≡ log' → WroteSome ws held now log log' → WroteSome ws held now' log log''
some_same ws held now now' log log' log'' e l w = record { count = w.count; logged = l ∙ w.logged; held_is = subst (HasFirstOf w.count ws held) (sym e) w.held_is }

pub some_codes_same : (t : Target) (given held now now' : Option (List ℕ)) (log log' log'' : Option (List Amend)) → now' ≡ now → log'' ≡ log' → SomeCodes t given held now log log' → SomeCodes t given held now' log log''
some_codes_same t given held now now' log log' log'' e l some =
    subst (λ n. SomeCodes t given held n log log'') (sym e) (subst (λ k. SomeCodes t given held now log k) (sym l) some)

pub some_rows_same : (t : Target) (start : ℕ) (given held now now' : Option (List ℕ)) (log log' log'' : Option (List Amend)) → now' ≡ now → log'' ≡ log' → SomeRows t start given held now log log' → SomeRows t start given held now' log log''
some_rows_same t start given held now now' log log' log'' e l some =
    subst (λ n. SomeRows t start given held n log log'') (sym e) (subst (λ k. SomeRows t start given held now log k) (sym l) some)

-- all rows were written
pub rows_done : (t : Target) (start : ℕ) (held given now now' : Option (List ℕ)) (log log' log'' : Option (List Amend)) (front : List ℕ) (offset : ℕ) → picked_tiles_of t.image.plan t.sieve ≡ front → now' ≡ now → log'' ≡ log' →
    HaveRows t start front given held now log log' offset →
    IfBoth held given (λ f p. (corner : List ℕ) (olds : List (List ℤ)) → IsGivenTo corner p t → BoxHasNumbers f t.header (given_at corner p) olds →
    Wrote
    (row_writes t.image.table (plan_to_write t) start
    (zip (box_tiles t.image.plan (given_at corner p)) (new_codes t.image.plan (given_at corner p) (box_tiles t.image.plan (given_at corner p)) olds)))
    held now' log log'')
rows_done t start None given now now' log log' log'' front offset parts e l have = tt
rows_done t start (Some f) None now now' log log' log'' front offset parts e l have = tt
rows_done t start (Some f) (Some p) now now' log log' log'' front offset parts e l have = λ corner olds to rows.
    let g = given_at corner p in
    let plan = t.image.plan in
    let boxes : box_tiles plan g ≡ front = ap (picked_tiles_of plan) (sym to.sieve) ∙ parts in
    let done = wrote_same (row_writes t.image.table (plan_to_write t) start (zip front (new_codes plan g front olds))) (Some f) now now' log log' log'' e l (have corner olds to rows).wrote in
    subst (λ ts. Wrote (row_writes t.image.table (plan_to_write t) start (zip ts (new_codes plan g ts olds))) (Some f) now' log log'') (sym boxes) done
