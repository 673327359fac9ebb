-- The rows that the third pass writes describe codes that lie in the heap, whatever PATCH gives (FITS 4.0, sections 7.3.5 and 10.1.3).
use Rattle.std.proofs.Common.{◌≡◌, ℕ, ◌+◌, ◌<◌, ◌≤◌, true, List, [], ◌∷◌, ◌++◌, length, take, drop, Option, Some, None, refl, sym, ap, ◌∙◌, subst, arith}
use Rattle.std.specs.Prelude.{IfSome}
use Rattle.std.proofs.lemmas.Slice.Eq.{bytes_eq-Decides}
use Rattle.fz_base.specs.Counts.{Amend}
use Rattle.fz_base.specs.Sink.{written}
use Rattle.fz_base.specs.Source.{has_bytes}
use Rattle.fz_base.specs.Store.{MayAmend, amend_of, with_write}
use Rattle.fz_table.specs.Rows.{row_start}
use Rattle.fz_table.specs.declared.table.Table.{Table}
use Rattle.fz_tile.specs.TileCode.{TileCode}
use Rattle.fz_head.specs.declared.plan.Plan.{Plan}
use Rattle.fz_files.specs.Packed.{row_of}
use Rattle.fz_laws.specs.Writes.{row_writes}
use Rattle.fz_patch.specs.Compared.{CodesLie, DescribesCodes}
use Rattle.fz_target.specs.Measures.{is_measured}
use Rattle.fz_target.specs.Steps.{Wrote, WroteSome}
use Rattle.fz_target.specs.Targets.{IsTargetIn, plan_to_write}
use Rattle.fz_target.specs.declared.measure.Measure.{Measure}
use Rattle.fz_target.specs.declared.target.Target.{Target}
use Rattle.fz_patch.proofs.CodedRefusals.{some_same}
use Rattle.fz_patch.proofs.RowCodes.{LaterAreStill}
use Rattle.fz_patch.proofs.Stays.{HasSameHeap, part_same}
use Rattle.fz_patch.proofs.Wrotes.{one-failed, one-wrote, some-back, wrote-all, wrote-none, wrote-then}

none_some : (x : List ℕ) → None ≡ Some x → ⊥
none_some x e = absurd cc

-- ---- one row more

-- how many bytes the codes of these rows have
abbrev pub coded_len : List (ℕ × TileCode) → ℕ
coded_len [] = 0
coded_len ((row, e) ∷ more) = length e.bytes + coded_len more

lie_more : (p : Plan) (m : Measure) (file : List ℕ) (at : ℕ) (rows : List (ℕ × TileCode)) (row : ℕ) (e : TileCode) → CodesLie p m file at rows → has_bytes file (at + coded_len rows) e.bytes ≡ true → is_measured p m e ≡ true → CodesLie p m file at (rows ++ (row, e) ∷ [])
lie_more p m file at [] row e lie here few =
    let place : at + 0 ≡ at = omega arith in
    (subst (λ k. has_bytes file k e.bytes ≡ true) place here, few, tt)
lie_more p m file at ((r, d) ∷ rows) row e lie here few =
    let place : at + (length d.bytes + coded_len rows) ≡ at + length d.bytes + coded_len rows = omega arith in
    (lie.0, lie.1, lie_more p m file (at + length d.bytes) rows row e lie.2 (subst (λ k. has_bytes file k e.bytes ≡ true) place here) few)

writes_more : (t : Table) (p : Plan) (offset : ℕ) (rows : List (ℕ × TileCode)) (row : ℕ) (e : TileCode) →
    row_writes t p offset (rows ++ (row, e) ∷ []) ≡ row_writes t p offset rows ++ (amend_of (row_start t row) (row_of p (offset + coded_len rows) e) ∷ [])
writes_more t p offset [] row e =
    let place : offset ≡ offset + 0 = omega arith in
    ap (λ at. amend_of (row_start t row) (row_of p at e) ∷ []) place
writes_more t p offset ((r, d) ∷ rows) row e =
    let place : offset + length d.bytes + coded_len rows ≡ offset + (length d.bytes + coded_len rows) = omega arith in
    ap (λ l. amend_of (row_start t r) (row_of p offset d) ∷ l)
    (writes_more t p (offset + length d.bytes) rows row e
    ∙ ap (λ at. row_writes t p (offset + length d.bytes) rows ++ (amend_of (row_start t row) (row_of p at e) ∷ [])) place)

len_more : (rows : List (ℕ × TileCode)) (row : ℕ) (e : TileCode) → coded_len (rows ++ (row, e) ∷ []) ≡ coded_len rows + length e.bytes
len_more [] row e =
    let same : length e.bytes + 0 ≡ 0 + length e.bytes = omega arith in
    same
len_more ((r, d) ∷ rows) row e =
    let rest : coded_len (rows ++ (row, e) ∷ []) ≡ coded_len rows + length e.bytes = len_more rows row e in
    let whole : length d.bytes + coded_len (rows ++ (row, e) ∷ []) ≡ length d.bytes + coded_len rows + length e.bytes = omega (arith, rest) in
    whole

-- ---- the rows so far

-- these rows were written, and the next code begins here
pub record DescribedSoFar (t : Target) (m : Measure) (start : ℕ) (file : List ℕ) (held now : Option (List ℕ)) (log log' : Option (List Amend)) (offset : ℕ) : Type 0 where
  pub rows : List (ℕ × TileCode)
  pub lie : CodesLie (plan_to_write t) m file (t.image.table.heap_at + start) rows
  pub place : offset ≡ start + coded_len rows
  pub wrote : Wrote (row_writes t.image.table (plan_to_write t) start rows) held now log log'

-- of a file that shows its bytes
abbrev pub AreDescribed : Target → Measure → ℕ → Option (List ℕ) → Option (List ℕ) → Option (List Amend) → Option (List Amend) → ℕ → Type 0
AreDescribed t m start held now log log' offset = IfSome held (λ f. DescribedSoFar t m start f held now log log' offset)

abbrev pub SomeDescribed : Target → Measure → ℕ → Option (List ℕ) → Option (List ℕ) → Option (List Amend) → Option (List Amend) → Type 0
SomeDescribed t m start held now log log' = IfSome held (λ f. DescribesCodes t.image.table (plan_to_write t) m start f held now log log')

pub described_none : (t : Target) (m : Measure) (start : ℕ) (held : Option (List ℕ)) (log : Option (List Amend)) → AreDescribed t m start held held log log start
described_none t m start None log = tt
described_none t m start (Some f) log = record { rows = []; lie = tt; place = omega arith; wrote = wrote-none (Some f) log }

-- a code that lies in a file with the same heap lies here
lies_here : (t : Table) (f file bytes : List ℕ) (offset : ℕ) → HasSameHeap t file f → offset + length bytes ≤ t.heap_len → true ≡ has_bytes file (t.heap_at + offset) bytes → has_bytes f (t.heap_at + offset) bytes ≡ true
lies_here t f file bytes offset same within there =
    let here : take (length bytes) (drop (t.heap_at + offset) file) ≡ bytes = (bytes_eq-Decides (take (length bytes) (drop (t.heap_at + offset) file)) bytes).0 (sym there) in
    let part = part_same t.heap_at t.heap_len (t.heap_at + offset) (length bytes) file f (omega arith) (omega (arith, within)) same in
    (bytes_eq-Decides (take (length bytes) (drop (t.heap_at + offset) f)) bytes).1 (sym part ∙ here)

module _ (t : Target) (m : Measure) (start next : ℕ) (log log' log'' : Option (List Amend)) (tile offset : ℕ) (e : TileCode) (few : is_measured (plan_to_write t) m e ≡ true) where
  abbrev row : List ℕ
  row = row_of (plan_to_write t) offset e

  abbrev at : ℕ
  at = row_start t.image.table tile

  -- its code lies in the file as it was
  lies : (f file : List ℕ) → IsTargetIn f t → LaterAreStill t next (Some f) (Some file) → next ≤ tile → tile < t.image.table.rows → offset + length e.bytes ≤ t.image.table.heap_len →
      true ≡ has_bytes file (t.image.table.heap_at + offset) e.bytes → has_bytes f (t.image.table.heap_at + offset) e.bytes ≡ true
  lies f file said still low less within there =
      let heap : HasSameHeap t.image.table file f = subst (λ u. HasSameHeap u file f) said.said.table (still tile low less).heap in
      lies_here t.image.table f file e.bytes offset heap within there

  lie_then : (f : List ℕ) (held now : Option (List ℕ)) (old : DescribedSoFar t m start f held now log log' offset) → has_bytes f (t.image.table.heap_at + offset) e.bytes ≡ true → CodesLie (plan_to_write t) m f (t.image.table.heap_at + start) (old.rows ++ (tile, e) ∷ [])
  lie_then f held now old here =
      let place : t.image.table.heap_at + offset ≡ t.image.table.heap_at + start + coded_len old.rows = omega (arith, old.place) in
      lie_more (plan_to_write t) m f (t.image.table.heap_at + start) old.rows tile e old.lie (subst (λ k. has_bytes f k e.bytes ≡ true) place here) few

  writes_then : (f : List ℕ) (held now : Option (List ℕ)) (old : DescribedSoFar t m start f held now log log' offset) →
      row_writes t.image.table (plan_to_write t) start (old.rows ++ (tile, e) ∷ []) ≡ row_writes t.image.table (plan_to_write t) start old.rows ++ (amend_of at row ∷ [])
  writes_then f held now old =
      writes_more t.image.table (plan_to_write t) start old.rows tile e
      ∙ ap (λ k. row_writes t.image.table (plan_to_write t) start old.rows ++ (amend_of at (row_of (plan_to_write t) k e) ∷ [])) (sym old.place)

  pub described_more : (held now now' : Option (List ℕ)) → IfSome held (λ f. IsTargetIn f t) → LaterAreStill t next held now → next ≤ tile → tile < t.image.table.rows → offset + length e.bytes ≤ t.image.table.heap_len →
      IfSome now (λ g. true ≡ has_bytes g (t.image.table.heap_at + offset) e.bytes) → now' ≡ written at row now → log'' ≡ with_write (amend_of at row) log' →
      AreDescribed t m start held now log log' offset → AreDescribed t m start held now' log log'' (offset + length e.bytes)
  described_more None now now' said still low less within there made logged old = tt
  described_more (Some f) None now' said still low less within there made logged old = absurd (none_some _ old.wrote.held_is)
  described_more (Some f) (Some file) now' said still low less within there made logged old = record {
    rows = old.rows ++ (tile, e) ∷ [];
    lie = lie_then f (Some f) (Some file) old (lies f file said still low less within there);
    place = let more = len_more old.rows tile e in omega (arith, more, old.place);
    wrote =
        subst (λ ws. Wrote ws (Some f) now' log log'') (sym (writes_then f (Some f) (Some file) old))
        (wrote-then (row_writes t.image.table (plan_to_write t) start old.rows) (amend_of at row ∷ []) (Some f) (Some file) now' log log' log'' old.wrote (one-wrote (amend_of at row) (Some file) now' log' log'' made logged));
  }

  -- or the row was written in part
  pub described_failed : (held now now' : Option (List ℕ)) → IfSome held (λ f. IsTargetIn f t) → LaterAreStill t next held now → next ≤ tile → tile < t.image.table.rows → offset + length e.bytes ≤ t.image.table.heap_len →
      IfSome now (λ g. true ≡ has_bytes g (t.image.table.heap_at + offset) e.bytes) → MayAmend at (length row) now now' → log'' ≡ log' →
      AreDescribed t m start held now log log' offset → SomeDescribed t m start held now' log log''
  described_failed None now now' said still low less within there part same old = tt
  described_failed (Some f) None now' said still low less within there part same old = absurd (none_some _ old.wrote.held_is)
  described_failed (Some f) (Some file) now' said still low less within there part same old = record {
    rows = old.rows ++ (tile, e) ∷ [];
    lie = lie_then f (Some f) (Some file) old (lies f file said still low less within there);
    wrote =
        subst (λ ws. WroteSome ws (Some f) now' log log'') (sym (writes_then f (Some f) (Some file) old))
        (some-back (row_writes t.image.table (plan_to_write t) start old.rows) (amend_of at row ∷ []) (Some f) (Some file) now' log log' log'' old.wrote (one-failed (amend_of at row) (Some file) now' log' log'' part same));
  }

-- the work stops, and nothing more was written
pub described_stop : (t : Target) (m : Measure) (start : ℕ) (held now now' : Option (List ℕ)) (log log' log'' : Option (List Amend)) (offset : ℕ) → now' ≡ now → log'' ≡ log' → AreDescribed t m start held now log log' offset → SomeDescribed t m start held now' log log''
described_stop t m start None now now' log log' log'' offset e l old = tt
described_stop t m start (Some f) now now' log log' log'' offset e l old = record {
  rows = old.rows;
  lie = old.lie;
  wrote =
      some_same (row_writes t.image.table (plan_to_write t) start old.rows) (Some f) now now' log log' log'' e l
      (wrote-all (row_writes t.image.table (plan_to_write t) start old.rows) (Some f) now log log' old.wrote);
}
