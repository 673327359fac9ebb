-- A cutout is a file of one HDU.
use Rattle.std.proofs.Common.{◌≡◌, ℕ, suc, ◌+◌, ◌*◌, ◌/◌, ◌^◌, ◌==◌, ◌<◌, ◌≤◌, ◌||◌, Bool, true, false, List, [], ◌∷◌, ◌++◌, length, pos, unsigned_abs, Option, Some, None, All, Result, Ok, Err, IsOk, if◌then◌else◌, refl, sym, subst, ◌∙◌, ap, arith, append-nil}
use Rattle.std.specs.Prelude.{get_or, replicate, slice_index, unwrap_or, ◌-◌}
use Rattle.std.proofs.lemmas.Bool.Decides.{nat_tests}
use Rattle.std.proofs.lemmas.List.{get_or_append_left, length-map}
use Rattle.std.specs.List.{flat_map}
use Rattle.fz_base.specs.Refusal.{first_refusal}
use Rattle.fz_base.specs.declared.fault.Fault.{Fault}
use Rattle.fz_card.specs.DecimalLaws.{ShiftedIsCard}
use Rattle.fz_block.specs.Checks.{Judge, unless_refused, walk_of}
use Rattle.fz_block.specs.Facts.{IsHeaderOf, facts_of, nine_axes}
use Rattle.fz_block.specs.Hdus.{Hdu, IsCardBeforeEnd, cards_of, hdu_bytes, header_bytes}
use Rattle.fz_block.specs.Header.{next_start_of, whole_blocks_of}
use Rattle.fz_block.specs.Walk.{AreHeadersBetween, RefusesNone, is_stop, stops}
use Rattle.fz_block.specs.declared.header.Header.{Header}
use Rattle.fz_grid.specs.Arrays.{product}
use Rattle.fz_grid.specs.Sieve.{sieve_lengths}
use Rattle.fz_grid.specs.declared.region.Region.{Region}
use Rattle.fz_grid.specs.declared.sieve.Sieve.{Sieve}
use Rattle.fz_grid.specs.CutoutLaws.{CutoutsAreWhole}
use Rattle.fz_table.specs.Tables.{table_checks}
use Rattle.fz_tile.specs.Plain.{plain_bytes}
use Rattle.fz_head.specs.Conditions.{IsPackedPlan}
use Rattle.fz_head.specs.declared.plan.Plan.{Plan}
use Rattle.fz_checks.specs.JobChecks.{IsImageOf, box_checks, cut_checks, cut_hdu_checks, image_checks, image_in, is_after_empty, missing_hdu, packed_card_checks}
use Rattle.fz_checks.specs.Judges.{cut_judge, is_wanted}
use Rattle.fz_head.specs.PackedChecks.{packed_checks}
use Rattle.fz_head.specs.PackedPlan.{plan_of_cards}
use Rattle.fz_head.specs.PlainHeader.{axis_count, cutout_header}
use Rattle.fz_files.specs.declared.job.Job.TheVariants.{Cut}
use Rattle.fz_files.specs.CutoutBytes.{IsCutout, cutout_cards, moved_card, picked_region}
use Rattle.fz_files.specs.FirstFault.{IsFaultBehind}
use Rattle.fz_files.specs.Packed.{pixel_bits, zero_filled}
use Rattle.fz_files.specs.Picks.{HasNinePlaces, HasPicks}
use Rattle.fz_files.specs.Restored.{header_in, plan_in}
use Rattle.fz_files.specs.Walks.{box_of, fault_of_walk, found_headers, header_fault, job_walk, last_of}
use Rattle.fz_laws.specs.Outputs.{CutoutIsFound, CutoutIsPlain, IsOnePrimary, IsPlain}
use Rattle.fz_laws.specs.OutputsTaken.{OutLaws, WalkLaws}
use Rattle.fz_laws.proofs.CutCards.{cut_front, moved_whole, picks_count, picks_low}
use Rattle.fz_laws.proofs.Front.{HasFront, axes_said, front_passes}
use Rattle.fz_laws.proofs.Made.{made_ends, made_header}
use Rattle.fz_laws.proofs.OutputHdus.{IsOut, bitpix_of, filled_len, image_unpacked}
use Rattle.fz_laws.proofs.PlainCards.{bits, bits_are}
use Rattle.fz_laws.proofs.RestoredFile.{Comes, is_plain, outs_pass}
use Rattle.fz_laws.proofs.Said.{Says, checked_says, clear, first_part, later_part, not_false}

-- what is taken of the laws of cutouts
pub record CutLaws : Type 0 where
  pub shift : ShiftedIsCard
  pub count : CutoutsAreWhole
  pub last : (judge : Judge) (most : ℕ) (file : List ℕ) (hs : List Header) (h : Header) → walk_of judge most file ≡ Ok (hs ++ h ∷ []) → stops judge hs ≡ false
  pub images :
      (h : Header) (header : List ℕ) (after_empty : Bool) (region : Region) → IsHeaderOf header h → first_refusal (cut_checks h header after_empty region) ≡ None → IsImageOf header h (image_in h header)
  pub fits :
      (header : List ℕ) (h : Header) (p : Plan) (region : Region) → IsHeaderOf header h → IsPackedPlan header h p → region.n ≡ axis_count (cards_of header) →
      whole_blocks_of (80 * (length (cutout_header (cards_of header) region) + 1)) ≤ length header
  pub whole :
      (cards : List (List ℕ)) (region : Region) → All IsCardBeforeEnd cards → region.n ≤ 9 → ((i : ℕ) → i < region.n → slice_index region.len i < 10 ^ 18) → All IsCardBeforeEnd (cutout_header cards region)

-- ---- the HDU that a part is cut from

last_split : (hs : List Header) (h : Header) → last_of hs ≡ h ∷ [] → (front : List Header) × (hs ≡ front ++ h ∷ [])
last_split [] h e = absurd cc
last_split (x ∷ []) h e = ([], e)
last_split (x ∷ (y ∷ hs)) h e = let rest = last_split (y ∷ hs) h e in (x ∷ rest.0, ap (λ l. x ∷ l) rest.1)

both_false : (a b : Bool) → (a || b) ≡ false → (a ≡ false) × (b ≡ false)
both_false true b e = absurd cc
both_false false b e = (refl, e)

stop_last : (judge : Judge) (front : List Header) (h : Header) → stops judge front ≡ false → stops judge (front ++ h ∷ []) ≡ true → is_stop (judge h) ≡ true
stop_last judge [] h none stop = by_stop (is_stop (judge h)) stop
  where
    by_stop : (b : Bool) → (b || false) ≡ true → b ≡ true
    by_stop true e = refl
    by_stop false e = absurd cc
stop_last judge (x ∷ front) h none stop =
    let both = both_false (is_stop (judge x)) (stops judge front) none in
    stop_last judge front h both.1 (sym (ap (λ b. b || stops judge (front ++ h ∷ [])) both.0) ∙ stop)

ok_last : (judge : Judge) (front : List Header) (h : Header) → RefusesNone judge (front ++ h ∷ []) → IsOk (judge h)
ok_last judge [] h none = none.0
ok_last judge (x ∷ front) h none = ok_last judge front h none.1

header_last : (file : List ℕ) (k start end : ℕ) (front : List Header) (h : Header) → AreHeadersBetween k start end file (front ++ h ∷ []) → IsHeaderOf (header_in file h) h
header_last file k start end [] h are = are.2
header_last file k start end (x ∷ front) h are = header_last file (suc k) (next_start_of x) end front h are.3

is_true : (r : Result Bool Fault) → IsOk r → is_stop r ≡ true → r ≡ Ok true
is_true (Ok b) ok stop = ap Ok stop
is_true (Err fault) ok stop = absurd cc

wanted_none : (b : Bool) (o : Option Fault) → (if b then unless_refused true o else Ok false) ≡ Ok true → o ≡ None
wanted_none true None e = refl
wanted_none true (Some fault) e = absurd cc
wanted_none false o e = let not_so : false ≡ true = cc in absurd cc

stops_if : (b : Bool) (fault : Fault) → (if b then None else Some fault) ≡ None → b ≡ true
stops_if true fault e = refl
stops_if false fault e = absurd cc

no_fault : (wanted : Option ℕ) (sieve : Sieve) (file : List ℕ) (refused : Option Fault) → IsFaultBehind refused (Cut wanted sieve) file None → refused ≡ None
no_fault wanted sieve file None is = refl
no_fault wanted sieve file (Some fault) is = absurd cc

-- its header, and the checks of `cut`
pub record IsCutFrom (sieve : Sieve) (file : List ℕ) (h : Header) : Type 0 where
  pub is_header : IsHeaderOf (header_in file h) h
  pub none : first_refusal (cut_hdu_checks file (box_of sieve) h) ≡ None

cut_by : CutLaws → WalkLaws → (wanted : Option ℕ) (sieve : Sieve) (file : List ℕ) (h : Header) (found : Result (List Header) Fault) → walk_of (cut_judge wanted (box_of sieve) file) 65536 file ≡ found →
    fault_of_walk (Cut wanted sieve) file found ≡ None → last_of (found_headers found) ≡ h ∷ [] → IsCutFrom sieve file h
cut_by laws walks wanted sieve file h (Err fault) walk none last = absurd cc
cut_by laws walks wanted sieve file h (Ok hs) walk none last =
    let judge : Judge = cut_judge wanted (box_of sieve) file in
    let split = last_split hs h last in
    let there : walk_of judge 65536 file ≡ Ok (split.0 ++ h ∷ []) = walk ∙ ap Ok split.1 in
    let found = walks.headers judge 65536 file (split.0 ++ h ∷ []) there in
    let stop : stops judge (split.0 ++ h ∷ []) ≡ true = sym (ap (stops judge) split.1) ∙ stops_if (stops judge hs) (missing_hdu wanted (length hs) (length file)) none in
    let here : judge h ≡ Ok true = is_true (judge h) (ok_last judge split.0 h found.2) (stop_last judge split.0 h (laws.last judge 65536 file split.0 h there) stop) in
    record {
      is_header = header_last file 0 0 found.3.0 split.0 h found.3.2;
      none = wanted_none (is_wanted wanted (header_in file h) h) (first_refusal (cut_hdu_checks file (box_of sieve) h)) here;
    }

cut_from : CutLaws → WalkLaws → (wanted : Option ℕ) (sieve : Sieve) (file bytes : List ℕ) (cut : IsCutout wanted sieve file bytes) → IsCutFrom sieve file cut.header
unfolding job_walk
cut_from laws walks wanted sieve file bytes cut =
    cut_by laws walks wanted sieve file cut.header (walk_of (cut_judge wanted (box_of sieve) file) 65536 file) refl (no_fault wanted sieve file (header_fault (Cut wanted sieve) file) cut.sound) cut.last

equal_is : (m n : ℕ) → (m == n) ≡ true → m ≡ n
equal_is m n e = grind (arith, nat_tests, e)

-- ---- the file

module _ (outs : OutLaws) (walks : WalkLaws) (laws : CutLaws) (wanted : Option ℕ) (sieve : Sieve) (file bytes : List ℕ) (nine : HasNinePlaces sieve) (picks : HasPicks sieve) (cut : IsCutout wanted sieve file bytes) (few : length bytes ≤ 2 ^ 62) where
  abbrev h : Header
  h = cut.header

  abbrev head : List ℕ
  head = header_in file h

  abbrev cards : List (List ℕ)
  cards = cards_of head

  abbrev after_empty : Bool
  after_empty = is_after_empty file h

  from : IsCutFrom sieve file h
  from = cut_from laws walks wanted sieve file bytes cut

  after_cards : first_refusal (image_checks h head after_empty ++ box_checks h.hdu cards (box_of sieve)) ≡ None
  after_cards = later_part (packed_card_checks h head) (image_checks h head after_empty ++ box_checks h.hdu cards (box_of sieve)) from.none

  says : Says cards after_empty
  says =
      checked_says h.hdu head after_empty
      (later_part (table_checks head h) (packed_checks h.hdu head after_empty) (first_part (image_checks h head after_empty) (box_checks h.hdu cards (box_of sieve)) after_cards))

  axes : sieve.n ≡ axis_count cards
  axes =
      equal_is sieve.n (axis_count cards)
      (not_false (sieve.n == axis_count cards) (clear (box_checks h.hdu cards (box_of sieve)) (later_part (image_checks h head after_empty) (box_checks h.hdu cards (box_of sieve)) after_cards)).0)

  region_low : (i : ℕ) → i < sieve.n → slice_index (picked_region sieve).len i < 10 ^ 18
  region_low i less =
      let count = picks_count sieve nine picks in
      let low = picks_low sieve nine picks i less in
      let at : get_or (picked_region sieve).len i 0 ≡ get_or (sieve_lengths sieve) i 0 = get_or_append_left (sieve_lengths sieve) (replicate (9 - sieve.n) 0) 0 i (omega (arith, count, less)) in
      omega (arith, at, low.1)

  whole : All IsCardBeforeEnd (cutout_header cards (picked_region sieve))
  whole = laws.whole cards (picked_region sieve) (outs.read head from.is_header.whole) picks.axes region_low

  abbrev made : List (List ℕ)
  made = cutout_cards sieve cards

  made_whole : All IsCardBeforeEnd made
  made_whole = moved_whole outs.values laws.shift cards after_empty says sieve nine picks axes whole

  abbrev the_bits : ℕ
  the_bits = (bits outs.values cards after_empty says).0

  abbrev lens : List ℕ
  lens = sieve_lengths sieve

  front : HasFront 0 (header_bytes made) the_bits lens
  front = cut_front outs.values laws.shift cards after_empty says sieve nine picks axes whole

  abbrev d : Hdu
  d = record { header = header_bytes made; payload = zero_filled (plain_bytes (pixel_bits (plan_in file h)) cut.numbers) }

  short : length d.header ≤ 737280
  short =
      let image = laws.images h head after_empty (box_of sieve) from.is_header from.none in
      let fits = laws.fits head h (image_in h head).plan (picked_region sieve) from.is_header image.planned axes in
      let size : length d.header ≡ whole_blocks_of (80 * (length made + 1)) = (outs.values.made.header made made_whole).2 in
      let same : length made ≡ length (cutout_header cards (picked_region sieve)) = length-map (cutout_header cards (picked_region sieve)) (moved_card sieve) in
      omega (arith, fits, size, ap (λ n. whole_blocks_of (80 * (n + 1))) same, from.is_header.short)

  bits_same : pixel_bits (plan_in file h) ≡ the_bits
  unfolding plan_of_cards
  bits_same = ap unsigned_abs (bits_are outs.values cards after_empty says)

  bitpix_same : (plan_in file h).bitpix ≡ pos the_bits
  unfolding plan_of_cards
  bitpix_same = bits_are outs.values cards after_empty says

  data_len : length d.payload ≡ whole_blocks_of (the_bits / 8 * product lens)
  data_len =
      filled_len (plain_bytes (pixel_bits (plan_in file h)) cut.numbers)
      ∙ ap (λ n. whole_blocks_of (length (plain_bytes n cut.numbers))) bits_same
      ∙ ap whole_blocks_of (outs.len the_bits cut.numbers (bitpix_of the_bits (bits outs.values cards after_empty says).1.integers)
      ∙ ap (λ n. the_bits / 8 * n) (ap length cut.cut.picked ∙ laws.count cut.cut.array sieve))

  is_out : IsOut 0 d
  is_out = record {
    passes = λ start len within low number.
        front_passes 0 start len d the_bits lens front (made_header outs.values.made made made_whole) (made_ends outs.values.made made made_whole) short data_len number within low;
    unpacked = λ start. image_unpacked 0 start d.header the_bits lens front;
  }

  parts : flat_map hdu_bytes (d ∷ []) ≡ bytes
  parts = append-nil (hdu_bytes d) ∙ sym cut.made

  come : Comes bytes 1
  come = record { outs = record { hdus = d ∷ []; parts = parts; count = refl; each = (is_out, tt) }; some = omega arith }

  pub one_primary : IsOnePrimary bytes (plan_in file h).bitpix lens
  one_primary =
      let all : length (flat_map hdu_bytes (d ∷ [])) ≤ length bytes = subst (λ l. length (flat_map hdu_bytes (d ∷ [])) ≤ length l) parts (self (length (flat_map hdu_bytes (d ∷ [])))) in
      let found = walks.walk 65536 bytes (d ∷ []) parts (omega arith) (omega arith) (outs_pass 0 0 (length bytes) (d ∷ []) (is_out, tt) (omega (arith, all)) few (omega arith)) in
      record {
        header = facts_of 0 0 d.header;
        found = found.0;
        sort = refl;
        bitpix = ap (λ o. unwrap_or o (pos 0)) front.bitpix.value ∙ sym bitpix_same;
        axes = ap nine_axes (axes_said 0 d.header the_bits lens front);
      }
    where
      self : (m : ℕ) → m ≤ m
      self m = omega arith

  pub cut_is_plain : IsPlain bytes
  cut_is_plain = is_plain walks bytes 1 few come (omega arith)

pub cutout_is_found : OutLaws → WalkLaws → CutLaws → CutoutIsFound
cutout_is_found outs walks laws wanted sieve file bytes nine picks cut few = one_primary outs walks laws wanted sieve file bytes nine picks cut few

pub cutout_is_plain : OutLaws → WalkLaws → CutLaws → CutoutIsPlain
cutout_is_plain outs walks laws wanted sieve file bytes nine picks cut few = cut_is_plain outs walks laws wanted sieve file bytes nine picks cut few
