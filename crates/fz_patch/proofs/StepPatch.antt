-- The writes of the passes and of the cards are those of a patch, one after another.
use Rattle.std.proofs.Common.{◌≡◌, inr, ℕ, zero, suc, ◌+◌, ◌-◌, ◌<◌, ◌≤◌, Bool, true, false, ℤ, List, [], ◌∷◌, ◌++◌, length, take, zip, filter, Option, Some, None, Ok, if◌then◌else◌, refl, sym, ap, ◌∙◌, subst, arith}
use Rattle.std.specs.List.{AllByRecursion, range_with_len}
use Rattle.std.specs.Prelude.{IfSome}
use Rattle.std.proofs.lemmas.List.{append_assoc}
use Rattle.std.proofs.Math.Seq.{take-append_seam}
use Rattle.fz_base.specs.Counts.{Amend, Amended}
use Rattle.fz_base.specs.Refusal.{first_refusal}
use Rattle.fz_block.specs.declared.header.Header.{Header}
use Rattle.fz_table.specs.Rows.{row_start}
use Rattle.fz_table.specs.declared.table.Table.{Table}
use Rattle.fz_tile.specs.Plain.{AreBytes}
use Rattle.fz_tile.specs.TileCode.{TileCode}
use Rattle.fz_head.specs.declared.plan.Plan.{Plan}
use Rattle.fz_files.specs.FirstFault.{IsFirstRowFault, picked_rows, picked_tiles_of}
use Rattle.fz_files.specs.Packed.{heap_of, row_of, tiles_in}
use Rattle.fz_files.specs.Restored.{RowStandsFor, header_in, plan_in}
use Rattle.fz_laws.specs.Amends.{amend_of, applied}
use Rattle.fz_laws.specs.FirstPatchFault.{ArePatchSteps, BoxHasNumbers, RowsHaveNumbers, codes_len, room_check}
use Rattle.fz_laws.specs.Given.{Given, PatchJob}
use Rattle.fz_laws.specs.PatchChecks.{patch_target}
use Rattle.fz_laws.specs.PatchLaws.{EachPrefixIsSafe}
use Rattle.fz_laws.specs.NewNumbers.{box_tiles}
use Rattle.fz_laws.specs.Safe.{AreAllOld, IsSafeAfter}
use Rattle.fz_laws.specs.Writes.{Steps, all_writes, before_rows, before_sums, column_writes, header_now, heap_writes, new_codes, pcount_writes, row_writes, said_most, other_rows, steps_of, sum_writes}
use Rattle.fz_block.specs.Hdus.{pcount_index}
use Rattle.fz_patch.specs.Cards.{HasPlaces, forms_writes, pcount_at, forms_for}
use Rattle.fz_patch.specs.Clauses.{AreSettledUpTo, LeavesSafe}
use Rattle.fz_patch.specs.Jobs.{ForJobs}
use Rattle.fz_target.specs.Measures.{HasRoom, measure_of}
use Rattle.fz_target.specs.Steps.{Wrote, WroteSome}
use Rattle.fz_target.specs.Targets.{IsGivenTo, IsTargetIn, given_at, grown_by, job_at, plan_to_write}
use Rattle.fz_target.specs.Told.{IfBoth}
use Rattle.fz_patch.specs.declared.column.Forms.{Forms}
use Rattle.fz_target.specs.declared.measure.Measure.{Measure}
use Rattle.fz_patch.specs.declared.places.Places.{Places}
use Rattle.fz_target.specs.declared.target.Target.{Target}
use Rattle.fz_patch.proofs.Boxes.{SomeNumbers, some_numbers}
use Rattle.fz_patch.proofs.EndsTold.{both_of, if_both, some_of}
use Rattle.fz_patch.proofs.FormCards.{forms_are}
use Rattle.fz_patch.proofs.Room.{with_room}
use Rattle.fz_patch.proofs.Wrotes.{some-back, some-front, wrote-then}

-- of each job
pub for_jobs : (held given : Option (List ℕ)) (t : Target) (P : PatchJob → List ℕ → List ℕ → Type 0) →
    ((f p : List ℕ) → held ≡ Some f → given ≡ Some p → (wanted : Option ℕ) (corner : List ℕ) → IsGivenTo corner p t → patch_target f p (job_at wanted corner) ≡ Ok t.header → P (job_at wanted corner) f p) → ForJobs held given t P
for_jobs held given t P all = if_both held given _ all

-- ---- four lists of writes, one after another

module _ (a b c d : List Amend) (held : Option (List ℕ)) (log : Option (List Amend)) where
  pub some_1 : (now : Option (List ℕ)) (log' : Option (List Amend)) → WroteSome a held now log log' → WroteSome (((a ++ b) ++ c) ++ d) held now log log'
  some_1 now log' some = some-front ((a ++ b) ++ c) d held now log log' (some-front (a ++ b) c held now log log' (some-front a b held now log log' some))

  pub some_2 : (x now : Option (List ℕ)) (l log' : Option (List Amend)) → Wrote a held x log l → WroteSome b x now l log' → WroteSome (((a ++ b) ++ c) ++ d) held now log log'
  some_2 x now l log' one some = some-front ((a ++ b) ++ c) d held now log log' (some-front (a ++ b) c held now log log' (some-back a b held x now log l log' one some))

  pub some_3 : (x y now : Option (List ℕ)) (l k log' : Option (List Amend)) → Wrote a held x log l → Wrote b x y l k → WroteSome c y now k log' → WroteSome (((a ++ b) ++ c) ++ d) held now log log'
  some_3 x y now l k log' one two some = some-front ((a ++ b) ++ c) d held now log log' (some-back (a ++ b) c held y now log k log' (wrote-then a b held x y log l k one two) some)

  pub some_4 : (x y z now : Option (List ℕ)) (l k m log' : Option (List Amend)) → Wrote a held x log l → Wrote b x y l k → Wrote c y z k m → WroteSome d z now m log' → WroteSome (((a ++ b) ++ c) ++ d) held now log log'
  some_4 x y z now l k m log' one two three some =
      some-back ((a ++ b) ++ c) d held z now log m log' (wrote-then (a ++ b) c held y z log k m (wrote-then a b held x y log l k one two) three) some

  pub wrote_4 : (x y z now : Option (List ℕ)) (l k m log' : Option (List Amend)) → Wrote a held x log l → Wrote b x y l k → Wrote c y z k m → Wrote d z now m log' → Wrote (((a ++ b) ++ c) ++ d) held now log log'
  wrote_4 x y z now l k m log' one two three four =
      wrote-then ((a ++ b) ++ c) d held z now log m log' (wrote-then (a ++ b) c held y z log k m (wrote-then a b held x y log l k one two) three) four

-- ---- the rows, of a table with a longer heap

rows_same : (t : Table) (n : ℕ) (p : Plan) (offset : ℕ) (pairs : List (ℕ × TileCode)) → row_writes (record t { heap_len = n }) p offset pairs ≡ row_writes t p offset pairs
rows_same t n p offset [] = refl
rows_same t n p offset ((row, e) ∷ more) = ap (λ l. amend_of (row_start t row) (row_of p offset e) ∷ l) (rows_same t n p (offset + length e.bytes) more)

plus_minus : (a b : ℕ) → a + b - b ≡ a
plus_minus a b = omega arith

-- ---- the tiles of the box are tiles of the image

below_by : (high low : ℕ) (rest : List ℕ) (b : Bool) → low < high → AllByRecursion (λ u. u < high) rest → AllByRecursion (λ u. u < high) (if b then low ∷ rest else rest)
below_by high low rest true less all = (less, all)
below_by high low rest false less all = all

all_below : (test : ℕ → Bool) (low count high : ℕ) → low + count ≤ high → AllByRecursion (λ u. u < high) (filter test (range_with_len low count))
all_below test low zero high less = tt
all_below test low (suc count) high less = below_by high low (filter test (range_with_len (low + 1) count)) (test low) (omega (arith, less)) (all_below test (low + 1) count high (omega (arith, less)))

pub box_below : (p : Plan) (g : Given) → AllByRecursion (λ u. u < tiles_in p) (box_tiles p g)
box_below p g = all_below _ 0 (tiles_in p) (tiles_in p) (omega arith)

-- rows that stand for their numbers again
rows_again : (f x : List ℕ) (h k : Header) (high : ℕ) (ts : List ℕ) (olds : List (List ℤ)) → AllByRecursion (λ u. u < high) ts → ((t : ℕ) (xs : List ℤ) → t < high → RowStandsFor f h t xs → RowStandsFor x k t xs) →
    RowsHaveNumbers f h ts olds → RowsHaveNumbers x k ts olds
rows_again f x h k high [] [] low each rows = tt
rows_again f x h k high [] (xs ∷ olds) low each rows = absurd rows
rows_again f x h k high (t ∷ ts) [] low each rows = absurd rows
rows_again f x h k high (t ∷ ts) (xs ∷ olds) low each rows = (each t xs low.0 rows.0, rows_again f x h k high ts olds low.1 each rows.1)

-- ---- the steps of a patch

-- what is known of both files and of a job, before anything is written
pub record Ready (t : Target) (f p : List ℕ) (wanted : Option ℕ) (corner : List ℕ) (m : Measure) : Type 0 where
  pub to : IsGivenTo corner p t
  pub target : patch_target f p (job_at wanted corner) ≡ Ok t.header
  pub said : IsTargetIn f t
  pub sound : IsFirstRowFault f (picked_rows f t.sieve t.header) None
  pub room : HasRoom t m
  pub measured :
      (olds : List (List ℤ)) → BoxHasNumbers f t.header (given_at corner p) olds →
      m ≡ measure_of t.image.plan (new_codes t.image.plan (given_at corner p) (box_tiles t.image.plan (given_at corner p)) olds)

pub ready_of : (t : Target) (m : Measure) (buf : List ℕ) (held given : Option (List ℕ)) (f p : List ℕ) (wanted : Option ℕ) (corner : List ℕ) → held ≡ Some f → given ≡ Some p → IsGivenTo corner p t → patch_target f p (job_at wanted corner) ≡ Ok t.header →
    IfSome held (λ f. IsTargetIn f t × (header_in f t.header ≡ buf)) → IfSome held (λ f. IsFirstRowFault f (picked_rows f t.sieve t.header) None) → HasRoom t m →
    IfBoth held given (λ f p. (corner : List ℕ) (olds : List (List ℤ)) → IsGivenTo corner p t → BoxHasNumbers f t.header (given_at corner p) olds →
    m ≡ measure_of t.image.plan (new_codes t.image.plan (given_at corner p) (box_tiles t.image.plan (given_at corner p)) olds)) → Ready t f p wanted corner m
ready_of t m buf held given f p wanted corner is by to target said sound room measured = record {
  to = to;
  target = target;
  said = (some_of held _ f is said).0;
  sound = some_of held _ f is sound;
  room = room;
  measured = λ olds rows. both_of held given _ f p is by measured corner olds to rows;
}

module _ (t : Target) (f p : List ℕ) (wanted : Option ℕ) (corner : List ℕ) (m : Measure) (r : Ready t f p wanted corner m) where
  to : IsGivenTo corner p t
  to = r.to

  said : IsTargetIn f t
  said = r.said

  room : HasRoom t m
  room = r.room

  abbrev pub h : Header
  h = t.header

  abbrev pub given : Given
  given = given_at corner p

  pub found : SomeNumbers f h (picked_tiles_of (plan_in f h) t.sieve)
  found = some_numbers f h (picked_tiles_of (plan_in f h) t.sieve) r.sound

  abbrev pub olds : List (List ℤ)
  olds = found.olds

  pub numbers : BoxHasNumbers f h given olds
  numbers = subst (λ s. RowsHaveNumbers f h (picked_tiles_of (plan_in f h) s) olds) to.sieve found.rows

  abbrev pub tiles : List ℕ
  tiles = box_tiles t.image.plan given

  abbrev pub es : List TileCode
  es = new_codes t.image.plan given tiles olds

  pub measure_is : m ≡ measure_of t.image.plan es
  measure_is = r.measured olds numbers

  pub bytes_are : m.bytes ≡ length (heap_of es)
  bytes_are = ap (λ (x : Measure). x.bytes) measure_is

  abbrev pub steps : Steps
  steps = steps_of f h given olds

  len_is : codes_len f h given olds ≡ m.bytes
  len_is = (λ j. length (heap_of (new_codes (said.said.plan j) given (box_tiles (said.said.plan j) given) olds))) ∙ sym bytes_are

  pub are : ArePatchSteps f p (job_at wanted corner) h steps
  are = record {
    target = r.target;
    olds = olds;
    numbers = numbers;
    room = ap (λ n. first_refusal (room_check f h n ∷ [])) len_is ∙ with_room f t m.bytes said room.room;
    steps_are = refl;
  }

  pub heap_is : steps.heap ≡ heap_writes f h es
  unfolding steps_of
  heap_is = λ j. heap_writes f h (new_codes (said.said.plan j) given (box_tiles (said.said.plan j) given) olds)

  pub cards_are : (places : Places) (forms : Forms) → HasPlaces (header_in f h) places → pcount_at t ≡ pcount_index (header_in f h) → forms ≡ forms_for (said_most (header_in f h) 1) (said_most (header_in f h) 2) m (other_rows f t.image.table tiles) →
      steps.pcount ++ steps.forms ≡ forms_writes t places m forms
  unfolding steps_of
  cards_are places forms has at is =
      (λ j. pcount_writes f h (length (heap_of (new_codes (said.said.plan j) given (box_tiles (said.said.plan j) given) olds)))
      ++ column_writes f h (box_tiles (said.said.plan j) given) (new_codes (said.said.plan j) given (box_tiles (said.said.plan j) given) olds))
      ∙ sym (forms_are f t places m forms tiles es said has at measure_is is)

  pub rows_are : steps.rows ≡ row_writes (grown_by t m.bytes).image.table (plan_to_write (grown_by t m.bytes)) ((grown_by t m.bytes).image.table.heap_len - m.bytes) (zip tiles es)
  unfolding steps_of
  rows_are =
      (λ j. row_writes (said.said.table j) (record (said.said.plan j) { wide = said.wide j }) (said.said.table j).heap_len
      (zip (box_tiles (said.said.plan j) given) (new_codes (said.said.plan j) given (box_tiles (said.said.plan j) given) olds)))
      ∙ (sym (rows_same t.image.table (t.image.table.heap_len + m.bytes) (plan_to_write t) t.image.table.heap_len (zip tiles es))
      ∙ ap (λ n. row_writes (grown_by t m.bytes).image.table (plan_to_write t) n (zip tiles es)) (sym (plus_minus t.image.table.heap_len m.bytes)))

  pub sums_are : steps.sums ≡ sum_writes (applied (before_sums steps) f) h
  unfolding steps_of
  sums_are = refl

  pub safe : EachPrefixIsSafe → AreBytes f → AreBytes p → (n : ℕ) → IsSafeAfter f h given steps n
  safe law fb pb n = law f p (job_at wanted corner) h steps n (record { file_bytes = fb; patch_bytes = pb; steps_are = are })

  -- the writes, by their parts
  pub all_is : (b c : List Amend) → steps.pcount ++ steps.forms ≡ b → steps.rows ≡ c → ((heap_writes f h es ++ b) ++ c) ++ steps.sums ≡ all_writes steps
  all_is b c two three = λ j. ((sym heap_is j ++ sym two j) ++ sym three j) ++ steps.sums

  pub stops : EachPrefixIsSafe → AreBytes f → AreBytes p → (held' : Option (List ℕ)) (before now : Amended) → AreSettledUpTo steps before now → WroteSome (all_writes steps) (Some f) held' before.writes now.writes →
      LeavesSafe (job_at wanted corner) held' before now f p
  stops law fb pb held' before now settled some = inr (record { header = h; steps = steps; are = are; some = some; safe = safe law fb pb; settled = settled })

  -- the rows of the box stand for their numbers still after PCOUNT was written
  pub still_numbers : EachPrefixIsSafe → AreBytes f → AreBytes p → (x : List ℕ) (k : Header) → x ≡ applied (before_rows steps) f → header_now x h ≡ k → plan_in x k ≡ plan_in f h → BoxHasNumbers x k given olds
  still_numbers law fb pb x k is now plan =
      let n : ℕ = length (before_rows steps) in
      let front : take n (all_writes steps) ≡ before_rows steps = ap (take n) (append_assoc (before_rows steps) steps.rows steps.sums) ∙ take-append_seam (before_rows steps) (steps.rows ++ steps.sums) in
      let same : applied (take n (all_writes steps)) f ≡ x = ap (λ ws. applied ws f) front ∙ sym is in
      let old : AreAllOld f x h = subst (λ y. AreAllOld f y h) same ((safe law fb pb n).old (omega arith)) in
      subst (λ (q : Plan). RowsHaveNumbers x k (box_tiles q given) olds) (sym plan)
      (rows_again f x h k (tiles_in (plan_in f h)) (box_tiles (plan_in f h) given) olds (box_below (plan_in f h) given) (λ u xs low row. subst (λ (y : Header). RowStandsFor x y u xs) now (old u xs low row)) numbers)
