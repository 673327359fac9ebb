-- The rows that were written so far, and the next one (FITS 4.0, sections 7.3.5 and 10.1.3).
use Rattle.std.proofs.Common.{◌≡◌, inr, ℕ, ◌+◌, ◌*◌, ◌<◌, ◌≤◌, ℤ, List, [], ◌∷◌, ◌++◌, length, zip, Option, Some, None, sym, ap, ◌∙◌, subst, arith}
use Rattle.std.specs.Prelude.{IfSome}
use Rattle.fz_base.specs.Counts.{Amend}
use Rattle.fz_base.specs.Sink.{overwrite, written}
use Rattle.fz_base.specs.Store.{amend_of, with_write, MayAmend}
use Rattle.fz_block.specs.Header.{data_start_of}
use Rattle.fz_table.specs.Rows.{row_start}
use Rattle.fz_table.specs.declared.table.Table.{Table}
use Rattle.fz_tile.specs.TileCode.{TileCode}
use Rattle.fz_files.specs.FirstFault.{picked_tiles_of}
use Rattle.fz_files.specs.Packed.{heap_of, row_of}
use Rattle.fz_files.specs.Restored.{header_in, image_table}
use Rattle.fz_pool.specs.Window.{Pool}
use Rattle.fz_laws.specs.FirstPatchFault.{BoxHasNumbers, RowsHaveNumbers}
use Rattle.fz_laws.specs.PatchLaws.{new_code}
use Rattle.fz_laws.specs.Writes.{new_codes, row_writes}
use Rattle.fz_target.specs.Steps.{Wrote, WroteSome}
use Rattle.fz_target.specs.Targets.{IsGivenTo, IsTarget, IsTargetIn, given_at, plan_to_write}
use Rattle.fz_target.specs.Tiles.{HasCode, HasFirst, HasNewCode}
use Rattle.fz_target.specs.Told.{IfBoth}
use Rattle.fz_target.specs.declared.target.Target.{Target}
use Rattle.fz_patch.proofs.Boxes.{codes_count, heap_more, next_numbers, rows_more, AreAbove, more_codes, rows_then}
use Rattle.fz_patch.proofs.NewCodes.{HeaderIsStill}
use Rattle.fz_patch.proofs.Stays.{IsStill, stands_still, still_then, still_none}
use Rattle.fz_patch.proofs.Targeted.{table_of, tiles_of, target_still}
use Rattle.fz_patch.proofs.Written.{after_row}
use Rattle.fz_patch.proofs.Wrotes.{one-wrote, wrote-then, one-failed, some-back, some-front, wrote-all, wrote-none}
use Rattle.std.proofs.lemmas.List.{append_assoc}
use Rattle.fz_laws.specs.NewNumbers.{box_tiles}
use Rattle.fz_patch.proofs.Slices.{slice_before}

-- the rows of these tiles say these codes, from this offset on, and the next code begins here
pub record HasRows (t : Target) (start : ℕ) (front : List ℕ) (es : List TileCode) (held now : Option (List ℕ)) (log log' : Option (List Amend)) (offset : ℕ) : Type 0 where
  pub wrote : Wrote (row_writes t.image.table (plan_to_write t) start (zip front es)) held now log log'
  pub place : offset ≡ start + length (heap_of es)

abbrev pub HaveRows : Target → ℕ → List ℕ → Option (List ℕ) → Option (List ℕ) → Option (List ℕ) → Option (List Amend) → Option (List Amend) → ℕ → Type 0
HaveRows t start front given held now log log' offset =
    IfBoth held given (λ f p. (corner : List ℕ) (olds : List (List ℤ)) → IsGivenTo corner p t → BoxHasNumbers f t.header (given_at corner p) olds →
    HasRows t start front (new_codes t.image.plan (given_at corner p) front olds) held now log log' offset)

-- the rows from this one on are as they were
abbrev pub LaterAreStill : Target → ℕ → Option (List ℕ) → Option (List ℕ) → Type 0
LaterAreStill t next held now = IfBoth held now (λ f new. (row : ℕ) → next ≤ row → row < t.image.table.rows → IsStill f new t.header row)

none_some : (x : List ℕ) → None ≡ Some x → ⊥
none_some x e = absurd cc

-- one row more
pub rows_step : (t : Target) (start : ℕ) (held given now now' : Option (List ℕ)) (log log' log'' : Option (List Amend)) (front : List ℕ) (tile : ℕ) (left : List ℕ) (next offset : ℕ) (bytes : List ℕ) (count : ℕ) (w : Pool) → IsTarget t →
    picked_tiles_of t.image.plan t.sieve ≡ front ++ (tile ∷ left) → next ≤ tile → tile < t.image.table.rows → IfSome held (λ f. IsTargetIn f t) → LaterAreStill t next held now →
    IfBoth now given (λ f p. (corner : List ℕ) → IsGivenTo corner p t → HasNewCode f t.header t.image.plan (given_at corner p) tile w) →
    ((code : TileCode) → HasFirst (HasCode code) w → (bytes ≡ row_of (plan_to_write t) offset code) × (count ≡ length code.bytes)) →
    now' ≡ written (row_start t.image.table tile) bytes now → log'' ≡ with_write (amend_of (row_start t.image.table tile) bytes) log' →
    HaveRows t start front given held now log log' offset → HaveRows t start (front ++ tile ∷ []) given held now' log log'' (offset + count)
rows_step t start None given now now' log log' log'' front tile left next offset bytes count w is parts low less said still new coded made logged have = tt
rows_step t start (Some f) None now now' log log' log'' front tile left next offset bytes count w is parts low less said still new coded made logged have = tt
rows_step t start (Some f) (Some p) None now' log log' log'' front tile left next offset bytes count w is parts low less said still new coded made logged have =
    λ corner olds to rows. absurd (none_some _ (have corner olds to rows).wrote.held_is)
rows_step t start (Some f) (Some p) (Some file) now' log log' log'' front tile left next offset bytes count w is parts low less said still new coded made logged have = λ corner olds to rows.
    let g = given_at corner p in
    let plan = t.image.plan in
    let old = have corner olds to rows in
    let es : List TileCode = new_codes plan g front olds in
    let all : RowsHaveNumbers f t.header (front ++ (tile ∷ left)) olds = subst (λ ts. RowsHaveNumbers f t.header ts olds) (tiles_of f t corner p said to ∙ parts) rows in
    let found = next_numbers f t.header plan g front tile left olds all in
    let e : TileCode = new_code plan g tile found.xs in
    let stands = stands_still f file t.header tile found.xs (table_of f t is said) (still tile low less) found.stands in
    let both = coded e (new corner to found.xs stands) in
    let same : bytes ≡ row_of (plan_to_write t) offset e = both.0 in
    let counts : length es ≡ length front = codes_count f t.header plan g front (tile ∷ left) olds all in
    let before : List Amend = row_writes t.image.table (plan_to_write t) start (zip front es) in
    let w : Amend = amend_of (row_start t.image.table tile) bytes in
    let grown : row_writes t.image.table (plan_to_write t) start (zip (front ++ tile ∷ []) (new_codes plan g (front ++ tile ∷ []) olds)) ≡ before ++ (w ∷ []) =
    ap (λ l. row_writes t.image.table (plan_to_write t) start (zip (front ++ tile ∷ []) l)) found.codes
    ∙ rows_more t.image.table (plan_to_write t) start front es tile e (sym counts)
    ∙ ap (λ at. before ++ (amend_of (row_start t.image.table tile) (row_of (plan_to_write t) at e) ∷ [])) (sym old.place)
    ∙ ap (λ l. before ++ (amend_of (row_start t.image.table tile) l ∷ [])) (sym same)
    in
    let long = heap_more es e in
    let heaps : length (heap_of (new_codes plan g (front ++ tile ∷ []) olds)) ≡ length (heap_of es) + length e.bytes = ap (λ l. length (heap_of l)) found.codes ∙ long in
    let size : count ≡ length e.bytes = both.1 in
    record {
      wrote = subst (λ ws. Wrote ws (Some f) now' log log'') (sym grown) (wrote-then before (w ∷ []) (Some f) (Some file) now' log log' log'' old.wrote (one-wrote w (Some file) now' log' log'' made logged));
      place = omega (arith, old.place, heaps, size);
    }

-- the later rows are still as they were
pub later_step : (t : Target) (held now now' : Option (List ℕ)) (tile next : ℕ) (bytes : List ℕ) → IsTarget t → IfSome held (λ f. IsTargetIn f t) → IfSome now (λ f. IsTargetIn f t) → IfSome now (λ f. row_start t.image.table tile ≤ length f) →
    next ≤ tile → tile < t.image.table.rows → 0 < length bytes → length bytes ≡ t.image.table.row_bytes → now' ≡ written (row_start t.image.table tile) bytes now → LaterAreStill t next held now → LaterAreStill t (tile + 1) held now'
later_step t None now now' tile next bytes is said said' within low less some size made still = tt
later_step t (Some f) None now' tile next bytes is said said' within low less some size made still = subst (λ n. LaterAreStill t (tile + 1) (Some f) n) (sym made) tt
later_step t (Some f) (Some file) now' tile next bytes is said said' within low less some size made still =
    let table : t.image.table ≡ image_table file t.header = sym said'.said.table in
    let start : data_start_of t.header ≤ t.image.table.rows_at = omega (arith, is.rows_at) in
    let one : (row : ℕ) → tile < row → row < t.image.table.rows → IsStill file (overwrite (row_start t.image.table tile) bytes file) t.header row =
    λ row after low.
    subst (λ (u : Table). IsStill file (overwrite (row_start u tile) bytes file) t.header row) (sym table)
    (after_row file bytes t.header tile row some (subst (λ (u : Table). length bytes ≡ u.row_bytes) table size) (subst (λ (u : Table). row_start u tile ≤ length file) table within)
    (table_of file t is said') (subst (λ (u : Table). data_start_of t.header ≤ u.rows_at) table start) (subst (λ (u : Table). tile < u.rows) table less) (inr after))
    in
    subst (λ n. LaterAreStill t (tile + 1) (Some f) n) (sym made)
    (λ row after low'. still_then f file (overwrite (row_start t.image.table tile) bytes file) t.header row (still row (omega (arith, low, after)) low') (one row (omega (arith, after)) low'))

-- ---- what the file has if the work stops

-- some of the writes of rows
abbrev pub SomeRows : Target → ℕ → Option (List ℕ) → Option (List ℕ) → Option (List ℕ) → Option (List Amend) → Option (List Amend) → Type 0
SomeRows t start given held now log log' =
    IfBoth held given (λ f p. (corner : List ℕ) (olds : List (List ℤ)) → IsGivenTo corner p t → BoxHasNumbers f t.header (given_at corner p) olds →
    WroteSome
    (row_writes t.image.table (plan_to_write t) start
    (zip (box_tiles t.image.plan (given_at corner p)) (new_codes t.image.plan (given_at corner p) (box_tiles t.image.plan (given_at corner p)) olds)))
    held now log log')

pub rows_stop : (t : Target) (start : ℕ) (held given now : Option (List ℕ)) (log log' : Option (List Amend)) (front left : List ℕ) (offset : ℕ) → picked_tiles_of t.image.plan t.sieve ≡ front ++ left → IfSome held (λ f. IsTargetIn f t) →
    HaveRows t start front given held now log log' offset → SomeRows t start given held now log log'
rows_stop t start None given now log log' front left offset parts said have = tt
rows_stop t start (Some f) None now log log' front left offset parts said have = tt
rows_stop t start (Some f) (Some p) now log log' front left offset parts said have = λ corner olds to rows.
    let g = given_at corner p in
    let plan = t.image.plan in
    let boxes : box_tiles plan g ≡ front ++ left = ap (picked_tiles_of plan) (sym to.sieve) ∙ parts in
    let rows_all : RowsHaveNumbers f t.header (front ++ left) olds = subst (λ ts. RowsHaveNumbers f t.header ts olds) (tiles_of f t corner p said to ∙ parts) rows in
    let es : List TileCode = new_codes plan g front olds in
    let more = more_codes f t.header plan g front left olds rows_all in
    let rest : List TileCode = more.0 in
    let counts : length es ≡ length front = codes_count f t.header plan g front left olds rows_all in
    let before : List Amend = row_writes t.image.table (plan_to_write t) start (zip front es) in
    let behind : List Amend = row_writes t.image.table (plan_to_write t) (start + length (heap_of es)) (zip left rest) in
    let whole : row_writes t.image.table (plan_to_write t) start (zip (box_tiles plan g) (new_codes plan g (box_tiles plan g) olds)) ≡ before ++ behind =
    ap (λ ts. row_writes t.image.table (plan_to_write t) start (zip ts (new_codes plan g ts olds))) boxes
    ∙ ap (λ l. row_writes t.image.table (plan_to_write t) start (zip (front ++ left) l)) more.1
    ∙ rows_then t.image.table (plan_to_write t) start front left es rest (sym counts)
    in
    subst (λ ws. WroteSome ws (Some f) now log log') (sym whole) (some-front before behind (Some f) now log log' (wrote-all before (Some f) now log log' (have corner olds to rows).wrote))

pub rows_failed : (t : Target) (start : ℕ) (held given now now' : Option (List ℕ)) (log log' log'' : Option (List Amend)) (front : List ℕ) (tile : ℕ) (left : List ℕ) (next offset : ℕ) (bytes : List ℕ) (count : ℕ) (w : Pool) → IsTarget t →
    picked_tiles_of t.image.plan t.sieve ≡ front ++ (tile ∷ left) → next ≤ tile → tile < t.image.table.rows → IfSome held (λ f. IsTargetIn f t) → LaterAreStill t next held now →
    IfBoth now given (λ f p. (corner : List ℕ) → IsGivenTo corner p t → HasNewCode f t.header t.image.plan (given_at corner p) tile w) →
    ((code : TileCode) → HasFirst (HasCode code) w → (bytes ≡ row_of (plan_to_write t) offset code) × (count ≡ length code.bytes)) →
    MayAmend (row_start t.image.table tile) (length bytes) now now' → log'' ≡ log' →
    HaveRows t start front given held now log log' offset → SomeRows t start given held now' log log''
rows_failed t start None given now now' log log' log'' front tile left next offset bytes count w is parts low less said still new coded part same have = tt
rows_failed t start (Some f) None now now' log log' log'' front tile left next offset bytes count w is parts low less said still new coded part same have = tt
rows_failed t start (Some f) (Some p) None now' log log' log'' front tile left next offset bytes count w is parts low less said still new coded part same have =
    λ corner olds to rows. absurd (none_some _ (have corner olds to rows).wrote.held_is)
rows_failed t start (Some f) (Some p) (Some file) now' log log' log'' front tile left next offset bytes count w is parts low less said still new coded part same have = λ corner olds to rows.
    let g = given_at corner p in
    let plan = t.image.plan in
    let table = t.image.table in
    let boxes : box_tiles plan g ≡ front ++ (tile ∷ left) = ap (picked_tiles_of plan) (sym to.sieve) ∙ parts in
    let rows_all : RowsHaveNumbers f t.header (front ++ (tile ∷ left)) olds = subst (λ ts. RowsHaveNumbers f t.header ts olds) (tiles_of f t corner p said to ∙ parts) rows in
    let old = have corner olds to rows in
    let es : List TileCode = new_codes plan g front olds in
    let found = next_numbers f t.header plan g front tile left olds rows_all in
    let e : TileCode = new_code plan g tile found.xs in
    let stands = stands_still f file t.header tile found.xs (table_of f t is said) (still tile low less) found.stands in
    let both = coded e (new corner to found.xs stands) in
    let again : (front ++ tile ∷ []) ++ left ≡ front ++ (tile ∷ left) = append_assoc front (tile ∷ []) left in
    let longer : RowsHaveNumbers f t.header ((front ++ tile ∷ []) ++ left) olds = subst (λ ts. RowsHaveNumbers f t.header ts olds) (sym again) rows_all in
    let more = more_codes f t.header plan g (front ++ tile ∷ []) left olds longer in
    let rest : List TileCode = more.0 in
    let counts : length es ≡ length front = codes_count f t.header plan g front (tile ∷ left) olds rows_all in
    let heads : List TileCode = new_codes plan g (front ++ tile ∷ []) olds in
    let heads_count : length heads ≡ length (front ++ tile ∷ []) = codes_count f t.header plan g (front ++ tile ∷ []) left olds longer in
    let before : List Amend = row_writes table (plan_to_write t) start (zip front es) in
    let write : Amend = amend_of (row_start table tile) bytes in
    let behind : List Amend = row_writes table (plan_to_write t) (start + length (heap_of heads)) (zip left rest) in
    let grown : row_writes table (plan_to_write t) start (zip (front ++ tile ∷ []) heads) ≡ before ++ (write ∷ []) =
    ap (λ l. row_writes table (plan_to_write t) start (zip (front ++ tile ∷ []) l)) found.codes
    ∙ rows_more table (plan_to_write t) start front es tile e (sym counts)
    ∙ ap (λ at. before ++ (amend_of (row_start table tile) (row_of (plan_to_write t) at e) ∷ [])) (sym old.place)
    ∙ ap (λ l. before ++ (amend_of (row_start table tile) l ∷ [])) (sym both.0)
    in
    let whole : row_writes table (plan_to_write t) start (zip (box_tiles plan g) (new_codes plan g (box_tiles plan g) olds)) ≡ (before ++ (write ∷ [])) ++ behind =
    ap (λ ts. row_writes table (plan_to_write t) start (zip ts (new_codes plan g ts olds))) (boxes ∙ sym again)
    ∙ ap (λ l. row_writes table (plan_to_write t) start (zip ((front ++ tile ∷ []) ++ left) l)) more.1
    ∙ rows_then table (plan_to_write t) start (front ++ tile ∷ []) left heads rest (sym heads_count)
    ∙ ap (λ l. l ++ behind) grown
    in
    subst (λ ws. WroteSome ws (Some f) now' log log'') (sym whole)
    (some-front (before ++ (write ∷ [])) behind (Some f) now' log log''
    (some-back before (write ∷ []) (Some f) (Some file) now' log log' log'' old.wrote (one-failed write (Some file) now' log' log'' part same)))

-- ---- the whole state of the third pass

pub record RowsState (t : Target) (start : ℕ) (given held now : Option (List ℕ)) (log log' : Option (List Amend)) (left : List ℕ) (offset : ℕ) : Type 0 where
  pub front : List ℕ
  pub next : ℕ
  pub parts : picked_tiles_of t.image.plan t.sieve ≡ front ++ left
  pub above : AreAbove next left
  pub have : HaveRows t start front given held now log log' offset
  pub still : LaterAreStill t next held now
  pub header : HeaderIsStill t held now
  pub said : IfSome now (λ f. IsTargetIn f t)

pub rows_begin : (t : Target) (start : ℕ) (given held : Option (List ℕ)) (log : Option (List Amend)) (left : List ℕ) → picked_tiles_of t.image.plan t.sieve ≡ left → AreAbove 0 left → IfSome held (λ f. IsTargetIn f t) →
    RowsState t start given held held log log left start
unfolding heap_of
rows_begin t start given held log left parts above said = record { front = []; next = 0; parts = parts; above = above; have = by_both held given; still = by_one held; header = by_header held; said = said }
  where
    none : (held : Option (List ℕ)) → HasRows t start [] [] held held log log start
    none held = record { wrote = wrote-none held log; place = omega arith }

    by_both : (held given : Option (List ℕ)) → HaveRows t start [] given held held log log start
    by_both None given = tt
    by_both (Some f) None = tt
    by_both (Some f) (Some p) = λ corner olds to rows. none (Some f)

    by_one : (held : Option (List ℕ)) → LaterAreStill t 0 held held
    by_one None = tt
    by_one (Some f) = λ row low less. still_none f t.header row

    by_header : (held : Option (List ℕ)) → HeaderIsStill t held held
    by_header held = λ header was. was

-- the header stays, and the target with it
header_again : (t : Target) (held now now' : Option (List ℕ)) (tile : ℕ) (bytes : List ℕ) → IsTarget t → 0 < length bytes → IfSome now (λ f. row_start t.image.table tile ≤ length f) → now' ≡ written (row_start t.image.table tile) bytes now →
    HeaderIsStill t held now → HeaderIsStill t held now'
header_again t held None now' tile bytes is some within made still = λ header was. subst (λ n. IfSome n (λ f. header_in f t.header ≡ header)) (sym made) tt
header_again t held (Some file) now' tile bytes is some within made still =
    let end : t.header.start + 2880 * t.header.blocks ≤ row_start t.image.table tile = omega (arith, is.rows_at) in
    λ header was. subst (λ n. IfSome n (λ f. header_in f t.header ≡ header)) (sym made) (slice_before (row_start t.image.table tile) bytes file t.header.start (2880 * t.header.blocks) some within end ∙ still header was)

said_again : (t : Target) (now now' : Option (List ℕ)) (tile : ℕ) (bytes : List ℕ) → IsTarget t → tile < t.image.table.rows → 0 < length bytes → IfSome now (λ f. row_start t.image.table tile ≤ length f) → now' ≡ written (row_start t.image.table tile) bytes now →
    IfSome now (λ f. IsTargetIn f t) → IfSome now' (λ f. IsTargetIn f t)
said_again t None now' tile bytes is less some within made said = subst (λ n. IfSome n (λ f. IsTargetIn f t)) (sym made) tt
said_again t (Some file) now' tile bytes is less some within made said =
    let end : t.header.start + 2880 * t.header.blocks ≤ row_start t.image.table tile = omega (arith, is.rows_at) in
    subst (λ n. IfSome n (λ f. IsTargetIn f t)) (sym made)
    (target_still file (overwrite (row_start t.image.table tile) bytes file) t (slice_before (row_start t.image.table tile) bytes file t.header.start (2880 * t.header.blocks) some within end) said)

pub rows_go_on : (t : Target) (start : ℕ) (given held now now' : Option (List ℕ)) (log log' log'' : Option (List Amend)) (tile : ℕ) (left : List ℕ) (offset : ℕ) (bytes : List ℕ) (count : ℕ) (w : Pool) → IsTarget t → tile < t.image.table.rows →
    0 < length bytes → length bytes ≡ t.image.table.row_bytes → IfSome now (λ f. row_start t.image.table tile ≤ length f) → IfSome held (λ f. IsTargetIn f t) →
    IfBoth now given (λ f p. (corner : List ℕ) → IsGivenTo corner p t → HasNewCode f t.header t.image.plan (given_at corner p) tile w) →
    ((code : TileCode) → HasFirst (HasCode code) w → (bytes ≡ row_of (plan_to_write t) offset code) × (count ≡ length code.bytes)) →
    now' ≡ written (row_start t.image.table tile) bytes now → log'' ≡ with_write (amend_of (row_start t.image.table tile) bytes) log' →
    RowsState t start given held now log log' (tile ∷ left) offset → RowsState t start given held now' log log'' left (offset + count)
rows_go_on t start given held now now' log log' log'' tile left offset bytes count w is less some size within said new coded made logged old = record {
  front = old.front ++ tile ∷ [];
  next = tile + 1;
  parts = old.parts ∙ sym (append_assoc old.front (tile ∷ []) left);
  above = old.above.1;
  have = rows_step t start held given now now' log log' log'' old.front tile left old.next offset bytes count w is old.parts old.above.0 less said old.still new coded made logged old.have;
  still = later_step t held now now' tile old.next bytes is said old.said within old.above.0 less some size made old.still;
  header = header_again t held now now' tile bytes is some within made old.header;
  said = said_again t now now' tile bytes is less some within made old.said;
}
