-- What a cut of a packed file finds, by the file that was packed.
use Rattle.std.proofs.Common.{◌≡◌, ℕ, zero, suc, ◌+◌, ◌==◌, ◌<◌, ◌≤◌, Bool, true, false, cond, List, [], ◌∷◌, length, map, All, Contains, Option, Some, None, Result, Ok, Err, if◌then◌else◌, refl, sym, subst, ◌∙◌, ap, arith}
use Rattle.std.specs.Prelude.{unwrap_or}
use Rattle.std.proofs.lemmas.Bool.Decides.{nat_tests}
use Rattle.std.proofs.lemmas.List.{append-nil}
use Rattle.std.proofs.lemmas.List.Elements.{All-contains, All-filter, All-from_recursion}
use Rattle.std.specs.List.{AllByRecursion, find, flat_map, range_with_len}
use Rattle.std.specs.Option.{option_map}
use Rattle.fz_base.specs.Refusal.{first_refusal, refusal}
use Rattle.fz_base.specs.declared.fault.Fault.{Fault}
use Rattle.fz_base.specs.declared.fault.Place.TheVariants.{Byte}
use Rattle.fz_base.specs.declared.kind.Kind.TheVariants.{NotPacked}
use Rattle.fz_block.specs.Checks.{Judge, headers_of, unless_refused, walk_of}
use Rattle.fz_block.specs.Hdus.{hdu_bytes}
use Rattle.fz_block.specs.Header.{next_start_of}
use Rattle.fz_block.specs.Walk.{AreHeadersBetween, hdu_of, stops}
use Rattle.fz_block.specs.declared.header.Header.{Header}
use Rattle.fz_grid.specs.Arrays.{NumberArray}
use Rattle.fz_grid.specs.Grid.{tile, tile_count}
use Rattle.fz_grid.specs.Overlap.{has_pixel}
use Rattle.fz_grid.specs.Region.{lengths_of}
use Rattle.fz_grid.specs.Sieve.{picked_tiles, sieve_hi, sieve_lo, sieve_step, tile_picks}
use Rattle.fz_grid.specs.declared.sieve.Sieve.{Sieve}
use Rattle.fz_checks.specs.JobChecks.{cut_hdu_checks, is_after_empty, pack_hdu_checks, unpack_hdu_checks}
use Rattle.fz_checks.specs.Judges.{cut_judge, is_wanted, pack_judge, unpack_judge}
use Rattle.fz_head.specs.Packable.{is_packable}
use Rattle.fz_head.specs.declared.options.PackOptions.{PackOptions}
use Rattle.fz_files.specs.FirstFault.{IsFaultBehind, IsFirstFault, IsFirstRowFault, image_row, picked_rows, picked_tiles_of}
use Rattle.fz_files.specs.Laws.{IsTableOf}
use Rattle.fz_files.specs.Packed.{tiles_in}
use Rattle.fz_files.specs.Restored.{IsImageOf, RowsStandFor, StandsForAs, header_in, is_image, plan_in, standing}
use Rattle.fz_files.specs.Walks.{box_of, fault_of_walk, found_headers, header_fault, headers_for, job_walk, last_of}
use Rattle.fz_files.specs.declared.job.Job.TheVariants.{Cut, Pack, Unpack}
use Rattle.fz_laws.specs.PackedHdus.{Become}
use Rattle.fz_laws.specs.RoundTrip.{IsPacked}
use Rattle.fz_laws.specs.PackedCuts.{CutsAreRefused, CutsAreSound, FaultsAreAlike, asked_hdu, cut_refusal, hdus_in, is_asked, rise_of, reason_of, reason_at, reason_for}
use Rattle.fz_laws.specs.OutputsTaken.{CutsLaws}
use Rattle.fz_laws.proofs.CutRefusals.{Outcome, Stop, cut_of_copy, outcome, refused_as}
use Rattle.fz_laws.proofs.CutWalks.{AreNumbered, IsLevel, IsRaised, Scanned, ShapedAs, accepted_of, passed_over, scan, shaped, verdict, verdict_after, walk_is}
use Rattle.fz_laws.proofs.RestoredFile.{AreIn, are_in, first_plain, found_walk, no_header_fault, no_stop}

-- ---- the headers of both files

unpack_never_stops : (g : List ℕ) (hs : List Header) → stops (unpack_judge g) hs ≡ false
unpack_never_stops g [] = refl
unpack_never_stops g (h ∷ hs) = no_stop (first_refusal (unpack_hdu_checks g h)) (stops (unpack_judge g) hs) (unpack_never_stops g hs)

pack_never_stops : (o : PackOptions) (file : List ℕ) (hs : List Header) → stops (pack_judge o file) hs ≡ false
pack_never_stops o file [] = refl
pack_never_stops o file (h ∷ hs) = no_stop (first_refusal (pack_hdu_checks o file h)) (stops (pack_judge o file) hs) (pack_never_stops o file hs)

pack_fault : (o : PackOptions) (refused : Option Fault) (file : List ℕ) → IsFaultBehind refused (Pack o) file None → refused ≡ None
pack_fault o None file is = refl
pack_fault o (Some fault) file is = absurd cc

pack_found : (o : PackOptions) (file : List ℕ) (found : Result (List Header) Fault) → fault_of_walk (Pack o) file found ≡ None → (hs : List Header) × (found ≡ Ok hs)
pack_found o file (Ok hs) none = (hs, refl)
pack_found o file (Err fault) none = absurd cc

numbered : (file : List ℕ) (k start end : ℕ) (hs : List Header) → AreHeadersBetween k start end file hs → AreNumbered k hs
numbered file k start end [] are = tt
numbered file k start end (h ∷ hs) are = (are.0, numbered file (suc k) (next_start_of h) end hs are.3)

-- the headers of the file and of its packed file
pub record AreKnown (o : PackOptions) (file g : List ℕ) : Type 0 where
  pub fs : List Header
  pub sources : headers_of 65535 file ≡ Ok fs
  pub some : 0 < length fs
  pub numbers : AreNumbered 0 fs
  pub hs : List Header
  pub all : headers_of 65536 g ≡ Ok hs
  pub are : AreIn g 0 hs
  pub become : Become o file fs g (standing g hs)

pub are_known : CutsLaws → (o : PackOptions) (file g : List ℕ) → IsPacked o file g → AreKnown o file g
unfolding job_walk
are_known laws o file g is =
    let source = pack_found o file (walk_of (pack_judge o file) 65535 file) (pack_fault o (header_fault (Pack o) file) file is.taken.sound) in
    let of_source = laws.walks.headers (pack_judge o file) 65535 file source.0 source.1 in
    let sound : IsFirstFault Unpack g None = (laws.back o file g is.taken is.packed is.few).sound in
    let walk = found_walk g (walk_of (unpack_judge g) 65536 g) (no_header_fault (header_fault Unpack g) g sound) in
    let found = laws.walks.headers (unpack_judge g) 65536 g walk.0 walk.1 in
    record {
      fs = source.0;
      sources = laws.whole (pack_judge o file) 65535 file source.0 source.1 (pack_never_stops o file source.0);
      some = of_source.0;
      numbers = numbered file 0 0 of_source.3.0 source.0 of_source.3.2;
      hs = walk.0;
      all = laws.whole (unpack_judge g) 65536 g walk.0 walk.1 (unpack_never_stops g walk.0);
      are = are_in g 0 0 found.3.0 0 walk.0 found.3.2 (laws.walks.pass (unpack_judge g) 65536 g walk.0 walk.1) found.2;
      become =
          subst (λ r. Become o file (found_headers r) g (standing g walk.0)) source.1
          (subst (λ r. Become o file (headers_for (Pack o) file) g (standing g (found_headers r))) walk.1 (laws.become o file g is));
    }

become_length : (o : PackOptions) (file : List ℕ) (fs : List Header) (g : List ℕ) (ts : List Header) → Become o file fs g ts → length ts ≡ length fs
become_length o file [] g [] become = refl
become_length o file [] g (t ∷ ts) become = absurd become
become_length o file (f ∷ fs) g [] become = absurd become
become_length o file (f ∷ fs) g (t ∷ ts) become = ap suc (become_length o file fs g ts become.1)

-- ---- the tiles with a pick

-- the rows of an image stand for the tiles of an array
abbrev pub RowsAre : List ℕ → Header → Type 0
RowsAre g h = (a : NumberArray) × RowsStandFor g h a

all_below : (array tile_is : List ℕ) (sieve : Sieve) → All (λ t. t < tile_count array tile_is) (picked_tiles array tile_is (sieve_lo sieve) (sieve_hi sieve) (sieve_step sieve))
all_below array tile_is sieve =
    All-filter (λ t. has_pixel (tile_picks array tile_is (sieve_lo sieve) (sieve_hi sieve) (sieve_step sieve) t)) (λ t. t < tile_count array tile_is) (range_with_len 0 (tile_count array tile_is))
    (All-from_recursion (λ t. t < tile_count array tile_is) (range_with_len 0 (tile_count array tile_is)) (below 0 (tile_count array tile_is) (tile_count array tile_is) (same (tile_count array tile_is))))
  where
    same : (n : ℕ) → 0 + n ≤ n
    same n = omega arith

    below : (a n end : ℕ) → a + n ≤ end → AllByRecursion (λ k. k < end) (range_with_len a n)
    below a zero end within = tt
    below a (suc n) end within = (omega (arith, within), below (a + 1) n end (omega (arith, within)))

-- a tile with a pick is one of the image
pub picked_below : (array tile_is : List ℕ) (sieve : Sieve) (t : ℕ) → Contains (picked_tiles array tile_is (sieve_lo sieve) (sieve_hi sieve) (sieve_step sieve)) t → t < tile_count array tile_is
picked_below array tile_is sieve t here = All-contains (λ k. k < tile_count array tile_is) _ t (all_below array tile_is sieve) here

-- ---- how a cut ends

module _ (laws : CutsLaws) (o : PackOptions) (file g : List ℕ) (is : IsPacked o file g) (wanted : Option ℕ) (sieve : Sieve) where
  abbrev J : Judge
  J = cut_judge wanted (box_of sieve) g

  pub known : AreKnown o file g
  known = are_known laws o file g is

  -- what is told of a cut by the HDUs of the file
  pub record Told (fs hs : List Header) : Type 0 where
    pub by : ℕ
    pub rise : rise_of fs ≡ by
    pub ends : Outcome laws.tables o file g wanted sieve by (length fs + by) (find (is_asked wanted by) fs) (verdict J hs)

  level : (from : Header) (fs hs : List Header) → AreNumbered 0 (from ∷ fs) → is_packable from ≡ false → IsLevel o file g (from ∷ fs) hs → Told (from ∷ fs) hs
  level from fs hs numbers plain shape =
      let none : length (from ∷ fs) + 0 ≡ length (from ∷ fs) = omega arith in
      let count : length hs ≡ length (from ∷ fs) + 0 = become_length o file (from ∷ fs) g hs shape.become ∙ sym none in
      record {
        by = 0;
        rise = ap (λ b. if b then 1 else 0) plain;
        ends =
            outcome laws.tables o file g wanted sieve 0 (length (from ∷ fs) + 0) (find (is_asked wanted 0) (from ∷ fs)) hs count
            (scan laws.tables o file g wanted sieve 0 0 (from ∷ fs) hs numbers shape.are shape.become);
      }

  -- HDU 0 is asked for, the empty primary
  none_below : (k : ℕ) (fs : List Header) → k ≡ 0 → find (is_asked (Some k) 1) fs ≡ None
  none_below k [] zero_is = refl
  none_below k (f ∷ fs) zero_is = by_test (f.hdu + 1 == k) (above f.hdu) (none_below k fs zero_is)
    where
      above : (n : ℕ) → (n + 1 == k) ≡ false
      above n = grind (arith, nat_tests, zero_is)

      by_test : (b : Bool) → b ≡ false → find (is_asked (Some k) 1) fs ≡ None → cond b (Some f) (find (is_asked (Some k) 1) fs) ≡ None
      by_test true is rest = absurd cc
      by_test false is rest = rest

  equal_is : (m n : ℕ) → (m == n) ≡ true → m ≡ n
  equal_is m n e = grind (arith, nat_tests, e)

  empty_asked : (k : ℕ) (fs hs : List Header) (shape : IsRaised o file g fs hs) → wanted ≡ Some k → is_wanted wanted (header_in g shape.empty) shape.empty ≡ true →
      Outcome laws.tables o file g wanted sieve 1 (length fs + 1) (find (is_asked wanted 1) fs) (verdict J hs)
  empty_asked k fs hs shape asks here =
      let e : Header = shape.empty in
      let at : e.hdu ≡ k = equal_is e.hdu k (sym (ap (λ w. is_wanted w (header_in g e) e) asks) ∙ here) in
      let zero_is : k ≡ 0 = sym at ∙ shape.is.number in
      let plain : is_image g e ≡ false = first_plain g e shape.is in
      let refused : first_refusal (cut_hdu_checks g (box_of sieve) e) ≡ Some (refusal e.hdu (Byte e.start) NotPacked) =
      cut_of_copy e (header_in g e) (is_after_empty g e) (box_of sieve) shape.is.none plain in
      let judged : J e ≡ Err (refusal e.hdu (Byte e.start) NotPacked) = (λ i. if here i then unless_refused true (refused i) else Ok false) in
      let walked : verdict J hs ≡ Err (refusal e.hdu (Byte e.start) NotPacked) = ap (verdict J) shape.all ∙ ap (verdict_after e (verdict J shape.later)) judged in
      let nothing : find (is_asked wanted 1) fs ≡ None = ap (λ w. find (is_asked w 1) fs) asks ∙ none_below k fs zero_is in
      let number : e.hdu ≡ unwrap_or wanted (length fs + 1) = at ∙ sym (ap (λ w. unwrap_or w (length fs + 1)) asks) in
      record {
        refused =
            ap (λ w. option_map reason_of (fault_of_walk (Cut wanted sieve) g w)) walked ∙ ap (λ n. Some (n, NotPacked)) number
            ∙ sym (ap (refused_as laws.tables o file g wanted sieve 1 (length fs + 1)) nothing);
        met = λ none. let no : Some (refusal e.hdu (Byte e.start) NotPacked) ≡ None = sym (ap (fault_of_walk (Cut wanted sieve) g) walked) ∙ none in absurd cc;
      }

  higher : (from : Header) (fs hs : List Header) → AreNumbered 0 (from ∷ fs) → is_packable from ≡ true → IsRaised o file g (from ∷ fs) hs → Told (from ∷ fs) hs
  higher from fs hs numbers packable shape = record { by = 1; rise = ap (λ b. if b then 1 else 0) packable; ends = by_wanted wanted refl (is_wanted wanted (header_in g shape.empty) shape.empty) refl }
    where
      all : List Header
      all = from ∷ fs

      scanned : Scanned laws.tables o file g wanted sieve 1 (find (is_asked wanted 1) (from ∷ fs)) shape.later
      scanned = scan laws.tables o file g wanted sieve 1 0 (from ∷ fs) shape.later numbers shape.are shape.become

      passed : is_wanted wanted (header_in g shape.empty) shape.empty ≡ false →
          Outcome laws.tables o file g wanted sieve 1 (length (from ∷ fs) + 1) (find (is_asked wanted 1) (from ∷ fs)) (verdict J hs)
      passed other =
          let long : length (shape.empty ∷ shape.later) ≡ length (from ∷ fs) + 1 = omega (arith, become_length o file (from ∷ fs) g shape.later shape.become) in
          subst (λ l. Outcome laws.tables o file g wanted sieve 1 (length (from ∷ fs) + 1) (find (is_asked wanted 1) (from ∷ fs)) (verdict J l)) (sym shape.all)
          (outcome laws.tables o file g wanted sieve 1 (length (from ∷ fs) + 1) (find (is_asked wanted 1) (from ∷ fs)) (shape.empty ∷ shape.later) long
          (passed_over laws.tables o file g wanted sieve 1 shape.empty shape.later (find (is_asked wanted 1) (from ∷ fs)) other scanned))

      by_wanted : (w : Option ℕ) → wanted ≡ w → (b : Bool) → is_wanted wanted (header_in g shape.empty) shape.empty ≡ b →
          Outcome laws.tables o file g wanted sieve 1 (length (from ∷ fs) + 1) (find (is_asked wanted 1) (from ∷ fs)) (verdict J hs)
      by_wanted None asks b here = passed (ap (λ w. is_wanted w (header_in g shape.empty) shape.empty) asks ∙ first_plain g shape.empty shape.is)
      by_wanted (Some k) asks true here = empty_asked k (from ∷ fs) hs shape asks here
      by_wanted (Some k) asks false here = passed here

  told_of : (fs hs : List Header) → 0 < length fs → AreNumbered 0 fs → AreIn g 0 hs → Become o file fs g (standing g hs) → Told fs hs
  told_of [] hs some numbers are become = absurd (omega (arith, some))
  told_of (from ∷ fs) hs some numbers are become = by_test (is_packable from) refl (shaped o file g from fs hs are become)
    where
      by_test : (b : Bool) → is_packable from ≡ b → ShapedAs o file g b (from ∷ fs) hs → Told (from ∷ fs) hs
      by_test true packable shape = higher from fs hs numbers packable shape
      by_test false plain shape = level from fs hs numbers plain shape

  pub told : Told known.fs known.hs
  told = told_of known.fs known.hs known.some known.numbers known.are known.become

  -- the walk of the cut
  walked : job_walk (Cut wanted sieve) g ≡ verdict J known.hs
  unfolding job_walk
  walked = walk_is J 65536 0 0 g known.hs known.all

  fault_is : header_fault (Cut wanted sieve) g ≡ fault_of_walk (Cut wanted sieve) g (verdict J known.hs)
  fault_is = ap (fault_of_walk (Cut wanted sieve) g) walked

  same_refusal : (found : Option Header) → refused_as laws.tables o file g wanted sieve told.by (length known.fs + told.by) found ≡ reason_for wanted (box_of sieve) known.fs found
  same_refusal None = ap (λ m. Some (unwrap_or wanted (length known.fs + m), NotPacked)) (sym told.rise)
  same_refusal (Some from) = ap (λ m. reason_at (from.hdu + m) (box_of sieve) from) (sym told.rise)

  fs_are : hdus_in file ≡ known.fs
  fs_are = ap found_headers known.sources

  pub asked_is : find (is_asked wanted told.by) known.fs ≡ asked_hdu wanted (hdus_in file)
  asked_is = ap (λ m. find (is_asked wanted m) known.fs) (sym told.rise) ∙ ap (asked_hdu wanted) (sym fs_are)

  pub refused_is : option_map reason_of (header_fault (Cut wanted sieve) g) ≡ cut_refusal wanted sieve file
  refused_is =
      ap (option_map reason_of) fault_is ∙ told.ends.refused ∙ same_refusal (find (is_asked wanted told.by) known.fs)
      ∙ ap (reason_for wanted (box_of sieve) known.fs) (ap (λ m. find (is_asked wanted m) known.fs) (sym told.rise))
      ∙ ap (λ l. reason_for wanted (box_of sieve) l (asked_hdu wanted l)) (sym fs_are)

  -- the table that it stops at
  pub stopped : header_fault (Cut wanted sieve) g ≡ None → Stop laws.tables o file g wanted sieve told.by (find (is_asked wanted told.by) known.fs) (verdict J known.hs)
  stopped none = told.ends.met (sym fault_is ∙ none)

  pub last_is : (none : header_fault (Cut wanted sieve) g ≡ None) → last_of (headers_for (Cut wanted sieve) g) ≡ (stopped none).h ∷ []
  last_is none = ap (λ w. last_of (found_headers w)) walked ∙ (stopped none).last

  -- it stands for the image
  pub image_of : (from h : Header) → IsTableOf o file from g h → IsImageOf g h (hdu_bytes (hdu_of file from))
  image_of from h table = subst (λ b. StandsForAs b g h (hdu_bytes (hdu_of file from))) (accepted_of laws.tables o file from g h table).packed (laws.stands o file from g h table)

  -- so its rows are sound
  last_sound : (last : List Header) (h : Header) → last ≡ h ∷ [] → IsFirstRowFault g (picked_rows g sieve h) None → IsFirstRowFault g (flat_map (picked_rows g sieve) last) None
  last_sound last h same sound =
      subst (λ l. IsFirstRowFault g (flat_map (picked_rows g sieve) l) None) (sym same)
      (subst (λ l. IsFirstRowFault g l None) (sym (append-nil (picked_rows g sieve h))) sound)

  rows_sound : (h : Header) → RowsAre g h → (ts : List ℕ) → All (λ t. t < tiles_in (plan_in g h)) ts → IsFirstRowFault g (map (image_row h) ts) None
  rows_sound h rows [] all = tt
  rows_sound h rows (t ∷ ts) all =
      ((tile rows.0 (lengths_of (plan_in g h).tile) t, rows.1.tiles t (all 0 0 (omega arith))), rows_sound h rows ts (λ k d near. all (suc k) d (omega (arith, near))))

  pub none_found : header_fault (Cut wanted sieve) g ≡ None → IsFirstFault (Cut wanted sieve) g None
  none_found none =
      let stop = stopped none in
      let image = image_of stop.image stop.h stop.table in
      subst (λ r. IsFaultBehind r (Cut wanted sieve) g None) (sym none)
      (last_sound (last_of (headers_for (Cut wanted sieve) g)) stop.h (last_is none)
      (rows_sound stop.h (image.array, image.rows) (picked_tiles_of (plan_in g stop.h) sieve)
      (all_below (lengths_of (plan_in g stop.h).shape) (lengths_of (plan_in g stop.h).tile) sieve)))

  -- the first fault is that of the headers
  pub found_is : (found : Option Fault) → IsFirstFault (Cut wanted sieve) g found → found ≡ header_fault (Cut wanted sieve) g
  found_is found first = by_fault (header_fault (Cut wanted sieve) g) refl first
    where
      by_fault : (r : Option Fault) → header_fault (Cut wanted sieve) g ≡ r → IsFaultBehind r (Cut wanted sieve) g found → found ≡ header_fault (Cut wanted sieve) g
      by_fault None none behind = laws.one (Cut wanted sieve) g found None first (none_found none) ∙ sym none
      by_fault (Some fault) some behind = behind ∙ sym some

no_reason : (r : Option Fault) → option_map reason_of r ≡ None → r ≡ None
no_reason None e = refl
no_reason (Some fault) e = absurd cc

pub cuts_are_refused : CutsLaws → CutsAreRefused
cuts_are_refused laws o file g wanted sieve found is first =
    ap (option_map reason_of) (found_is laws o file g is wanted sieve found first) ∙ refused_is laws o file g is wanted sieve

pub cuts_are_sound : CutsLaws → CutsAreSound
cuts_are_sound laws o file g wanted sieve is = (
  λ sound. sym (cuts_are_refused laws o file g wanted sieve None is sound),
  λ none. none_found laws o file g is wanted sieve (no_reason (header_fault (Cut wanted sieve) g) (refused_is laws o file g is wanted sieve ∙ none)),
)

pub faults_are_alike : CutsLaws → FaultsAreAlike
faults_are_alike laws o p file g others wanted sieve found other is is_too first first_too =
    cuts_are_refused laws o file g wanted sieve found is first ∙ sym (cuts_are_refused laws p file others wanted sieve other is_too first_too)
