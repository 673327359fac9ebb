-- Why a cut of a packed file is refused, by the file that was packed.
use Rattle.std.proofs.Common.{◌≡◌, ℕ, zero, suc, ◌+◌, ◌-◌, ◌==◌, ◌<◌, ◌&&◌, ◌||◌, not, nat_lt, Bool, true, false, List, [], ◌∷◌, ◌++◌, length, replicate, codes, Option, Some, None, Result, Ok, if◌then◌else◌, refl, sym, ◌∙◌, ap, arith}
use Rattle.std.specs.Prelude.{slice_index, unwrap_or}
use Rattle.std.proofs.Math.Seq.{take-append_seam}
use Rattle.std.proofs.lemmas.List.FromFn.{get_or-map-range_with_len, length-map-range_with_len}
use Rattle.std.specs.List.{flat_map, list_all, range_with_len}
use Rattle.std.specs.Option.{option_map}
use Rattle.fz_base.specs.Refusal.{first_refusal, refusal}
use Rattle.fz_base.specs.declared.fault.Fault.{Fault}
use Rattle.fz_base.specs.declared.fault.Place.TheVariants.{Byte}
use Rattle.fz_base.specs.declared.kind.Kind.{Kind}
use Rattle.fz_base.specs.declared.kind.Kind.TheVariants.{NotPacked, OutOfBox}
use Rattle.fz_block.specs.Checks.{Judge, unless_refused}
use Rattle.fz_block.specs.Facts.{nine_axes}
use Rattle.fz_block.specs.Hdus.{cards_of}
use Rattle.fz_block.specs.Walk.{is_stop, stops}
use Rattle.fz_block.specs.declared.header.Header.{Header}
use Rattle.fz_grid.specs.Region.{lengths_of}
use Rattle.fz_grid.specs.declared.region.Region.{Region}
use Rattle.fz_grid.specs.declared.sieve.Sieve.{Sieve}
use Rattle.fz_checks.specs.JobChecks.{axis_inside, box_checks, cut_checks, cut_hdu_checks, image_checks, is_after_empty, missing_hdu, not_packed, packed_card_checks, unpack_checks}
use Rattle.fz_checks.specs.Judges.{cut_judge, is_wanted}
use Rattle.fz_head.specs.Packable.{is_packable, is_packed, is_table}
use Rattle.fz_head.specs.PackedChecks.{at_word, packed_checks, plan_answer}
use Rattle.fz_head.specs.PackedPlan.{numbered_in, plan_of_cards, said_axes, size_of}
use Rattle.fz_head.specs.PlainHeader.{axis_count}
use Rattle.fz_head.specs.Planned.{pack_plan_of}
use Rattle.fz_head.specs.TableChecks.{compressed_table, repeated_table_names, table_card_checks}
use Rattle.fz_head.specs.declared.options.PackOptions.{PackOptions}
use Rattle.fz_head.specs.declared.plan.Plan.{Plan}
use Rattle.fz_files.specs.Laws.{IsTableOf, TablesAreAccepted}
use Rattle.fz_files.specs.Restored.{header_in, is_image, plan_in}
use Rattle.fz_files.specs.Walks.{box_of, fault_of_walk, found_headers, last_of}
use Rattle.fz_files.specs.declared.job.Job.TheVariants.{Cut}
use Rattle.fz_laws.specs.PackedHdus.{Becomes, BecomesAs}
use Rattle.fz_laws.specs.PackedCuts.{box_is_inside, reason_of, reason_at}
use Rattle.fz_laws.proofs.CutWalks.{Scanned, accepted_of, ends_with, packed_as, verdict}
use Rattle.fz_laws.proofs.OutputHdus.{IsIn}
use Rattle.fz_laws.proofs.Said.{first_part, head_false, later_part, packed_is_table, tail_none}

-- ---- lists of checks

pub skipped : (xs ys : List (Bool × Fault)) → first_refusal xs ≡ None → first_refusal (xs ++ ys) ≡ first_refusal ys
skipped [] ys none = refl
skipped ((true, fault) ∷ xs) ys none = absurd cc
skipped ((false, fault) ∷ xs) ys none = skipped xs ys none

skip_one : (b : Bool) (fault : Fault) (ys : List (Bool × Fault)) → b ≡ false → first_refusal ((b, fault) ∷ ys) ≡ first_refusal ys
skip_one true fault ys is = absurd cc
skip_one false fault ys is = refl

hit_one : (b : Bool) (fault : Fault) (ys : List (Bool × Fault)) → b ≡ true → first_refusal ((b, fault) ∷ ys) ≡ Some fault
hit_one true fault ys is = refl
hit_one false fault ys is = absurd cc

-- ---- an HDU of which `unpack` refuses nothing

module _ (h : Header) (header : List ℕ) (after : Bool) (box : Region) (none : first_refusal (unpack_checks h header after) ≡ None) where
  abbrev images : List (Bool × Fault)
  images = image_checks h header after

  abbrev boxes : List (Bool × Fault)
  boxes = box_checks h.hdu (cards_of header) box

  abbrev two : List (Bool × Fault)
  two = not_packed h header ∷ repeated_table_names h header ∷ []

  cards_none : first_refusal (if is_table h.sort then table_card_checks h header else []) ≡ None
  cards_none = first_part (if is_table h.sort then table_card_checks h header else []) (if is_packed header h then images else []) none

  -- of a packed image a cut refuses the box only
  pub cut_of_packed : is_packed header h ≡ true → first_refusal (cut_checks h header after box) ≡ first_refusal boxes
  cut_of_packed packed =
      let table : is_table h.sort ≡ true = packed_is_table header h packed in
      let cards : first_refusal (table_card_checks h header) ≡ None = sym (ap (λ b. first_refusal (if b then table_card_checks h header else [])) table) ∙ cards_none in
      let image : first_refusal images ≡ None =
      sym (ap (λ b. first_refusal (if b then images else [])) packed) ∙ later_part (if is_table h.sort then table_card_checks h header else []) (if is_packed header h then images else []) none in
      let plain : (compressed_table h header).0 ≡ false = head_false (compressed_table h header).0 (compressed_table h header).1 (repeated_table_names h header ∷ []) cards in
      let once : first_refusal (repeated_table_names h header ∷ []) ≡ None = tail_none (compressed_table h header).0 (compressed_table h header).1 (repeated_table_names h header ∷ []) cards in
      let front : first_refusal (packed_card_checks h header) ≡ None =
      ap (λ b. first_refusal ((if b then compressed_table h header ∷ [] else []) ++ two)) table
      ∙ skip_one (compressed_table h header).0 (compressed_table h header).1 two plain
      ∙ skip_one (not_packed h header).0 (not_packed h header).1 (repeated_table_names h header ∷ []) (ap not packed) ∙ once in
      skipped (packed_card_checks h header) (images ++ boxes) front ∙ skipped images boxes image

  -- and every other HDU
  pub cut_of_copy : is_packed header h ≡ false → first_refusal (cut_checks h header after box) ≡ Some (refusal h.hdu (Byte h.start) NotPacked)
  cut_of_copy plain = by_table (is_table h.sort) cards_none
    where
      by_table : (b : Bool) → first_refusal (if b then table_card_checks h header else []) ≡ None →
          first_refusal (((if b then compressed_table h header ∷ [] else []) ++ two) ++ (images ++ boxes)) ≡ Some (refusal h.hdu (Byte h.start) NotPacked)
      by_table true cards =
          skip_one (compressed_table h header).0 (compressed_table h header).1 (two ++ (images ++ boxes))
          (head_false (compressed_table h header).0 (compressed_table h header).1 (repeated_table_names h header ∷ []) cards)
          ∙ hit_one (not_packed h header).0 (not_packed h header).1 ((repeated_table_names h header ∷ []) ++ (images ++ boxes)) (ap not plain)
      by_table false cards = hit_one (not_packed h header).0 (not_packed h header).1 ((repeated_table_names h header ∷ []) ++ (images ++ boxes)) (ap not plain)

-- ---- the box

module _ (k : ℕ) (cards : List (List ℕ)) (box : Region) where
  abbrev sizes : List ℕ
  sizes = said_axes cards

  abbrev n : ℕ
  n = axis_count cards

  abbrev end_at : ℕ → ℕ
  end_at i = slice_index box.lo i + slice_index box.len i

  abbrev fits : ℕ → Bool
  fits i = not (nat_lt (slice_index sizes i) (end_at i))

  abbrev unless_all : Bool → Option (ℕ × Kind)
  unless_all b = if b then None else Some (k, OutOfBox)

  abbrev axes_from : ℕ → ℕ → List (Bool × Fault)
  axes_from a m = flat_map (λ i. axis_inside k cards box i ∷ []) (range_with_len a m)

  each : (a m : ℕ) → ((i : ℕ) → i < a + m → size_of (numbered_in (codes "ZNAXIS") (i + 1) cards) ≡ slice_index sizes i) →
      option_map reason_of (first_refusal (axes_from a m)) ≡ unless_all (list_all fits (range_with_len a m))
  each a zero same = refl
  each a (suc m) same =
      by_test (nat_lt (slice_index sizes a) (end_at a)) (ap (λ s. nat_lt s (end_at a)) (same a (omega arith))) (each (a + 1) m (λ i less. same i (omega (arith, less))))
    where
      by_test : (b : Bool) → nat_lt (size_of (numbered_in (codes "ZNAXIS") (a + 1) cards)) (end_at a) ≡ b →
          option_map reason_of (first_refusal (axes_from (a + 1) m)) ≡ unless_all (list_all fits (range_with_len (a + 1) m)) →
          option_map reason_of (first_refusal (axis_inside k cards box a ∷ axes_from (a + 1) m)) ≡ unless_all (not b && list_all fits (range_with_len (a + 1) m))
      by_test true is rest = ap (option_map reason_of) (hit_one (axis_inside k cards box a).0 (axis_inside k cards box a).1 (axes_from (a + 1) m) is)
      by_test false is rest = ap (option_map reason_of) (skip_one (axis_inside k cards box a).0 (axis_inside k cards box a).1 (axes_from (a + 1) m) is) ∙ rest

  size_at_axis : (i : ℕ) → i < n → size_of (numbered_in (codes "ZNAXIS") (i + 1) cards) ≡ slice_index sizes i
  size_at_axis i less = sym (get_or-map-range_with_len (λ j. size_of (numbered_in (codes "ZNAXIS") j cards)) 1 n i (i + 1) 0 less (omega arith))

  count : length sizes ≡ n
  count = length-map-range_with_len (λ j. size_of (numbered_in (codes "ZNAXIS") j cards)) 1 n

  pub box_said : option_map reason_of (first_refusal (box_checks k cards box)) ≡ unless_all (box_is_inside box sizes)
  box_said = by_test (box.n == n) refl ∙ ap (λ m. unless_all ((box.n == m) && list_all fits (range_with_len 0 m))) (sym count)
    where
      axes_said : option_map reason_of (first_refusal (axes_from 0 n)) ≡ unless_all (list_all fits (range_with_len 0 n))
      axes_said = each 0 n (λ i less. size_at_axis i (omega (arith, less)))

      by_test : (b : Bool) → (box.n == n) ≡ b → option_map reason_of (first_refusal (box_checks k cards box)) ≡ unless_all ((box.n == n) && list_all fits (range_with_len 0 n))
      by_test true is =
          ap (option_map reason_of) (skip_one (not (box.n == n)) (at_word k (codes "ZNAXIS") cards OutOfBox) (axes_from 0 n) (ap not is)) ∙ axes_said
          ∙ sym (ap (λ b. unless_all (b && list_all fits (range_with_len 0 n))) is)
      by_test false is =
          ap (option_map reason_of) (hit_one (not (box.n == n)) (at_word k (codes "ZNAXIS") cards OutOfBox) (axes_from 0 n) (ap not is))
          ∙ sym (ap (λ b. unless_all (b && list_all fits (range_with_len 0 n))) is)

-- ---- the table of an image

axes_again : (lengths : List ℕ) → lengths_of (nine_axes lengths) ≡ lengths
axes_again lengths = take-append_seam lengths (replicate (9 - length lengths) 0)

answered : (x p : Plan) (r : Option Fault) → unless_refused x r ≡ Ok p → x ≡ p
answered x p None e = cc
answered x p (Some fault) e = absurd cc

-- its plan is that of the image
pub plan_is : TablesAreAccepted → (o : PackOptions) (file : List ℕ) (from : Header) (g : List ℕ) (h : Header) → IsTableOf o file from g h → plan_in g h ≡ pack_plan_of o from
unfolding plan_answer
plan_is tables o file from g h table =
    answered (plan_in g h) (pack_plan_of o from) (first_refusal (packed_checks h.hdu (header_in g h) true)) ((accepted_of tables o file from g h table).plan true (λ primary. refl))

pub axes_are : TablesAreAccepted → (o : PackOptions) (file : List ℕ) (from : Header) (g : List ℕ) (h : Header) → IsTableOf o file from g h → nine_axes (said_axes (cards_of (header_in g h))) ≡ from.axes
unfolding plan_of_cards pack_plan_of
axes_are tables o file from g h table = ap (λ (p : Plan). p.shape) (plan_is tables o file from g h table)

pub lengths_are : TablesAreAccepted → (o : PackOptions) (file : List ℕ) (from : Header) (g : List ℕ) (h : Header) → IsTableOf o file from g h → said_axes (cards_of (header_in g h)) ≡ lengths_of from.axes
lengths_are tables o file from g h table = sym (axes_again (said_axes (cards_of (header_in g h)))) ∙ ap lengths_of (axes_are tables o file from g h table)

-- ---- what is said of the HDU that a cut stops at

module _ (tables : TablesAreAccepted) (o : PackOptions) (file g : List ℕ) (wanted : Option ℕ) (sieve : Sieve) (by : ℕ) where
  abbrev B : Region
  B = box_of sieve

  abbrev J : Judge
  J = cut_judge wanted B g

  abbrev refusal_of : Header → Option Fault
  refusal_of h = first_refusal (cut_hdu_checks g B h)

  pub refusal_said : (from h : Header) → Becomes o file from g h → IsIn g (from.hdu + by) h → option_map reason_of (refusal_of h) ≡ reason_at (from.hdu + by) B from
  refusal_said from h become is = by_test (is_packable from) become (packed_as tables o file from g h become)
    where
      by_test : (b : Bool) → BecomesAs b o file from g h → is_image g h ≡ b →
          option_map reason_of (refusal_of h) ≡ (if b then (if box_is_inside B (lengths_of from.axes) then None else Some (from.hdu + by, OutOfBox)) else Some (from.hdu + by, NotPacked))
      by_test true table packed =
          ap (option_map reason_of) (cut_of_packed h (header_in g h) (is_after_empty g h) B is.none packed) ∙ box_said h.hdu (cards_of (header_in g h)) B
          ∙ (λ i. if box_is_inside B (lengths_are tables o file from g h table i) then None else Some (is.number i, OutOfBox))
      by_test false copy plain = ap (option_map reason_of) (cut_of_copy h (header_in g h) (is_after_empty g h) B is.none plain) ∙ ap (λ n. Some (n, NotPacked)) is.number

  -- ---- how the walk ends

  stops_at_end : (front : List Header) (h : Header) → is_stop (J h) ≡ true → stops J (front ++ h ∷ []) ≡ true
  stops_at_end [] h stop = ap (λ b. b || false) stop
  stops_at_end (x ∷ front) h stop = by_test (is_stop (J x)) (stops_at_end front h stop)
    where
      by_test : (b : Bool) → stops J (front ++ h ∷ []) ≡ true → (b || stops J (front ++ h ∷ [])) ≡ true
      by_test true rest = refl
      by_test false rest = rest

  last_at_end : (front : List Header) (h : Header) → last_of (front ++ h ∷ []) ≡ h ∷ []
  last_at_end [] h = refl
  last_at_end (x ∷ []) h = refl
  last_at_end (x ∷ (y ∷ front)) h = last_at_end (y ∷ front) h

  ends_fault : (front : List Header) (h : Header) (r : Option Fault) → is_wanted wanted (header_in g h) h ≡ true → refusal_of h ≡ r → fault_of_walk (Cut wanted sieve) g (ends_with front h r) ≡ r
  ends_fault front h None here none =
      let stop : is_stop (J h) ≡ true = (λ i. is_stop (if here i then unless_refused true (none i) else Ok false)) in
      ap (λ b. if b then None else Some (missing_hdu wanted (length (front ++ h ∷ [])) (length g))) (stops_at_end front h stop)
  ends_fault front h (Some fault) here none = refl

  -- an image of the file, and the table that a cut stops at
  pub record Stop (found : Option Header) (walked : Result (List Header) Fault) : Type 0 where
    pub image : Header
    pub asked : found ≡ Some image
    pub packable : is_packable image ≡ true
    pub h : Header
    pub last : last_of (found_headers walked) ≡ h ∷ []
    pub table : IsTableOf o file image g h
    pub is : IsIn g (image.hdu + by) h

  -- why a cut is refused, by the HDU that is asked for and how many there are in the packed file
  abbrev pub refused_as : ℕ → Option Header → Option (ℕ × Kind)
  refused_as n None = Some (unwrap_or wanted n, NotPacked)
  refused_as n (Some from) = reason_at (from.hdu + by) B from

  pub record Outcome (n : ℕ) (found : Option Header) (walked : Result (List Header) Fault) : Type 0 where
    pub refused : option_map reason_of (fault_of_walk (Cut wanted sieve) g walked) ≡ refused_as n found
    pub met : fault_of_walk (Cut wanted sieve) g walked ≡ None → Stop found walked

  abbrev said_if : Header → Bool → Option (ℕ × Kind)
  said_if from b = if b then (if box_is_inside B (lengths_of from.axes) then None else Some (from.hdu + by, OutOfBox)) else Some (from.hdu + by, NotPacked)

  met_table : (from h : Header) → Becomes o file from g h → option_map reason_of (refusal_of h) ≡ reason_at (from.hdu + by) B from → refusal_of h ≡ None → (is_packable from ≡ true) × IsTableOf o file from g h
  met_table from h become said none = by_test (is_packable from) become (sym said ∙ ap (option_map reason_of) none)
    where
      by_test : (b : Bool) → BecomesAs b o file from g h → said_if from b ≡ None → (b ≡ true) × IsTableOf o file from g h
      by_test true table said = (refl, table)
      by_test false copy said = absurd cc

  pub outcome : (n : ℕ) (found : Option Header) (hs : List Header) → length hs ≡ n → Scanned tables o file g wanted sieve by found hs → Outcome n found (verdict J hs)
  outcome n None hs count scanned =
      let fault : fault_of_walk (Cut wanted sieve) g (verdict J hs) ≡ Some (missing_hdu wanted (length hs) (length g)) =
      ap (fault_of_walk (Cut wanted sieve) g) scanned.0 ∙ ap (λ b. if b then None else Some (missing_hdu wanted (length hs) (length g))) scanned.1 in
      record {
        refused = ap (option_map reason_of) fault ∙ ap (λ m. Some (unwrap_or wanted m, NotPacked)) count;
        met = λ none. let no : Some (missing_hdu wanted (length hs) (length g)) ≡ None = sym fault ∙ none in absurd cc;
      }
  outcome n (Some from) hs count scanned =
      let h : Header = scanned.h in
      let fault : fault_of_walk (Cut wanted sieve) g (verdict J hs) ≡ refusal_of h =
      ap (fault_of_walk (Cut wanted sieve) g) scanned.ends ∙ ends_fault scanned.front h (refusal_of h) scanned.wanted_is refl in
      let said : option_map reason_of (refusal_of h) ≡ reason_at (from.hdu + by) B from = refusal_said from h scanned.become scanned.is in
      record {
        refused = ap (option_map reason_of) fault ∙ said;
        met = λ none.
            let here : refusal_of h ≡ None = sym fault ∙ none in
            let both = met_table from h scanned.become said here in
            record {
              image = from;
              asked = refl;
              packable = both.0;
              h = h;
              last = ap (λ w. last_of (found_headers w)) (scanned.ends ∙ ap (ends_with scanned.front h) here) ∙ last_at_end scanned.front h;
              table = both.1;
              is = scanned.is;
            };
      }
