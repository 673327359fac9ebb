-- After some of the writes of a patch a cut finds the image, and is refused by no check that let it pass.
use Rattle.std.proofs.Common.{◌≡◌, ◌⊎◌, inl, inr, ℕ, zero, suc, ◌+◌, ◌-◌, ◌*◌, ◌^◌, ◌<◌, ◌≤◌, ◌==◌, ◌&&◌, ◌||◌, not, nat_lt, Bool, true, false, List, [], ◌∷◌, ◌++◌, length, take, drop, map, replicate, codes, flat_map, slice_index, Option, Some, None, Result, Ok, Err, if◌then◌else◌, refl, sym, ap, ◌∙◌, subst, arith, length-take-le, le-ltb, ltb-false, eqb-true, eq-eqb}
use Rattle.std.specs.List.{range_with_len}
use Rattle.std.specs.Prelude.{⊤}
use Rattle.std.proofs.lemmas.List.{get_or-take, get_or_append_left}
use Rattle.std.proofs.lemmas.List.FromFn.{get_or-map-range_with_len, length-map-range_with_len}
use Rattle.fz_base.specs.Refusal.{first_refusal}
use Rattle.fz_base.specs.declared.fault.Fault.{Fault}
use Rattle.fz_card.specs.Reading.{integer_of}
use Rattle.fz_block.specs.Cards.{card_at}
use Rattle.fz_block.specs.Checks.{Judge, hdu_at, headers_of, unjudged, unless_refused, walk_from, walk_of}
use Rattle.fz_block.specs.Hdus.{cards_of, size_in}
use Rattle.fz_block.specs.Header.{data_start_of, next_start_of, whole_blocks_of}
use Rattle.fz_block.specs.Walk.{hdu_of, is_stop, stops}
use Rattle.fz_block.specs.declared.header.Header.{Header}
use Rattle.fz_grid.specs.Region.{lengths_of}
use Rattle.fz_grid.specs.Sieve.{IsSieveOf, sieve_hi, sieve_lo}
use Rattle.fz_grid.specs.declared.region.Region.{Region}
use Rattle.fz_grid.specs.declared.sieve.Sieve.{Sieve}
use Rattle.fz_checks.specs.JobChecks.{axis_inside, box_checks, cut_checks, cut_hdu_checks, image_checks, is_after_empty, missing_hdu, packed_card_checks}
use Rattle.fz_checks.specs.Judges.{cut_judge, is_wanted}
use Rattle.fz_head.specs.Packable.{is_packed}
use Rattle.fz_tile.specs.TileCode.{TileCode}
use Rattle.fz_head.specs.PackedPlan.{numbered_in, plan_of_cards, said_axes, size_of}
use Rattle.fz_head.specs.PlainHeader.{axis_count}
use Rattle.fz_head.specs.declared.plan.Plan.{Plan}
use Rattle.fz_files.specs.Picks.{HasNinePlaces}
use Rattle.fz_files.specs.Restored.{header_in, plan_in}
use Rattle.fz_files.specs.Walks.{box_of, cut_end_fault, fault_of_walk, found_headers, header_fault, headers_for, job_walk, last_of, lengths_between, missing_of}
use Rattle.fz_files.specs.declared.job.Job.TheVariants.{Cut}
use Rattle.fz_laws.specs.PatchChecks.{find_checks, find_hdu_checks, find_judge, last_or, patch_target, wanted_among, wanted_image}
use Rattle.fz_laws.specs.Given.{Given, PatchJob, given_by}
use Rattle.fz_laws.specs.PatchHeaders.{SaysTheSame}
use Rattle.fz_laws.specs.PatchLaws.{AmendedHeadersSayTheSame}
use Rattle.fz_laws.specs.Safe.{CutsFindIt, CutsStillPass}
use Rattle.fz_laws.specs.PatchTaken.{CutLaws}
use Rattle.fz_laws.specs.Writes.{header_now}
use Rattle.fz_laws.proofs.Again.{facts_are, header_again, says}
use Rattle.fz_laws.proofs.AlikeFiles.{found_in, header_length, some_blocks}
use Rattle.fz_laws.proofs.AlikeWalks.{AreAlikeUpTo, WalksAlike, stops_too, walk_alike}
use Rattle.fz_laws.proofs.FoundWalks.{HasAll, all_headers, first_ends, stops_last, wanted_walk}
use Rattle.fz_laws.proofs.HeaderNow.{checks_now, found_now}
use Rattle.fz_laws.proofs.NewTarget.{axis_said, shape_count, shape_is}
use Rattle.fz_laws.proofs.Passes.{PassesAll, all_pass, both_pass, each_passes, is_so, joined_pass}
use Rattle.fz_laws.proofs.Prefixes.{IsPrefix}
use Rattle.fz_laws.proofs.RowSlices.{part_same}
use Rattle.fz_laws.proofs.TargetFacts.{HasTarget}

-- ---- boxes, by the lengths of the axes

-- a list of checks passes if each does
pub each_is : (f : ℕ → Bool × Fault) (a n : ℕ) → ((i : ℕ) → a ≤ i → i < a + n → (f i).0 ≡ false) → PassesAll (flat_map (λ i. f i ∷ []) (range_with_len a n))
each_is f a zero each = tt
each_is f a (suc n) each = (each a (omega arith) (omega arith), each_is f (a + 1) n (λ i low high. each i (omega arith) (omega arith)))

pub passed : (checks : List (Bool × Fault)) → PassesAll checks → first_refusal checks ≡ None
passed [] all = refl
passed (c ∷ cs) all = ap (λ t. first_refusal ((t, c.1) ∷ cs)) all.0 ∙ passed cs all.1

axes_number : (cards : List (List ℕ)) → length (said_axes cards) ≡ axis_count cards
axes_number cards = length-map-range_with_len (λ i. size_of (numbered_in (codes "ZNAXIS") i cards)) 1 (axis_count cards)

-- a box that lies within the axes passes
pub box_passes : (k : ℕ) (cards : List (List ℕ)) (region : Region) → region.n ≡ axis_count cards →
    ((i : ℕ) → i < axis_count cards → slice_index region.lo i + slice_index region.len i ≤ slice_index (said_axes cards) i) → first_refusal (box_checks k cards region) ≡ None
box_passes k cards region same inside =
    passed (box_checks k cards region) (
      ap not (eq-eqb region.n (axis_count cards) same),
      each_is (axis_inside k cards region) 0 (axis_count cards)
          (λ i low high.
          let within = inside i (omega arith) in
          let size : slice_index (said_axes cards) i ≡ size_of (numbered_in (codes "ZNAXIS") (i + 1) cards) = axis_said cards i (omega arith) in
          le-ltb (size_of (numbered_in (codes "ZNAXIS") (i + 1) cards)) (slice_index region.lo i + slice_index region.len i) (omega arith)),
    )

-- and one that passes lies within them
pub box_inside : (k : ℕ) (cards : List (List ℕ)) (region : Region) → first_refusal (box_checks k cards region) ≡ None →
    (region.n ≡ axis_count cards) × ((i : ℕ) → i < axis_count cards → slice_index region.lo i + slice_index region.len i ≤ slice_index (said_axes cards) i)
box_inside k cards region e =
    let all : PassesAll (box_checks k cards region) = all_pass (box_checks k cards region) e in (
      eqb-true region.n (axis_count cards) (is_so (region.n == axis_count cards) all.0),
      λ i less.
          let one = each_passes (λ j. axis_inside k cards region j ∷ []) 0 (axis_count cards) all.1 i (omega arith) (omega arith) in
          let size : slice_index (said_axes cards) i ≡ size_of (numbered_in (codes "ZNAXIS") (i + 1) cards) = axis_said cards i less in
          let low = ltb-false (size_of (numbered_in (codes "ZNAXIS") (i + 1) cards)) (slice_index region.lo i + slice_index region.len i) one.0 in
          omega arith,
    )

-- so a box passes the cards of another header with the same axes
pub box_again : (k j : ℕ) (cards other : List (List ℕ)) (region : Region) → said_axes other ≡ said_axes cards → first_refusal (box_checks k cards region) ≡ None → first_refusal (box_checks j other region) ≡ None
box_again k j cards other region same e =
    let was = box_inside k cards region e in
    let count : axis_count other ≡ axis_count cards = sym (axes_number other) ∙ (ap length same ∙ axes_number cards) in
    box_passes j other region (was.0 ∙ sym count)
    (λ i less. let inside = was.1 i (omega arith) in let axis : slice_index (said_axes other) i ≡ slice_index (said_axes cards) i = ap (λ l. slice_index l i) same in omega arith)

-- the box of a sieve of the image lies within it
between_length : (os hs : List ℕ) → length hs ≡ length os → length (lengths_between os hs) ≡ length os
between_length [] hs same = refl
between_length (o ∷ os) [] same = absurd (omega arith)
between_length (o ∷ os) (h ∷ hs) same = ap suc (between_length os hs (omega arith))

between_at : (os hs : List ℕ) (i : ℕ) → i < length os → length hs ≡ length os → slice_index (lengths_between os hs) i ≡ slice_index hs i - slice_index os i + 1
between_at [] hs i less same = absurd (omega arith)
between_at (o ∷ os) [] i less same = absurd (omega arith)
between_at (o ∷ os) (h ∷ hs) zero less same = refl
between_at (o ∷ os) (h ∷ hs) (suc i) less same = between_at os hs i (omega arith) (omega arith)

pub sieve_passes : (k : ℕ) (cards : List (List ℕ)) (sieve : Sieve) → axis_count cards ≤ 9 → HasNinePlaces sieve → IsSieveOf (plan_of_cards cards).shape sieve → first_refusal (box_checks k cards (box_of sieve)) ≡ None
sieve_passes k cards sieve few nine is =
    let shape = (plan_of_cards cards).shape in
    let count : shape.n ≡ axis_count cards = shape_count cards in
    let axes : sieve.n ≡ shape.n = is.same_axes in
    let lo_long : length (sieve_lo sieve) ≡ sieve.n = length-take-le sieve.n sieve.lo (let los = nine.los in omega arith) in
    let hi_long : length (sieve_hi sieve) ≡ sieve.n = length-take-le sieve.n sieve.hi (let his = nine.his in omega arith) in
    let many : length (lengths_between (sieve_lo sieve) (sieve_hi sieve)) ≡ length (sieve_lo sieve) = between_length (sieve_lo sieve) (sieve_hi sieve) (hi_long ∙ sym lo_long) in
    box_passes k cards (box_of sieve) (axes ∙ count)
    (λ i less.
    let low : slice_index (sieve_lo sieve) i ≡ slice_index sieve.lo i = get_or-take sieve.n sieve.lo i 0 (omega arith) in
    let high : slice_index (sieve_hi sieve) i ≡ slice_index sieve.hi i = get_or-take sieve.n sieve.hi i 0 (omega arith) in
    let long : slice_index (lengths_between (sieve_lo sieve) (sieve_hi sieve)) i ≡ slice_index (sieve_hi sieve) i - slice_index (sieve_lo sieve) i + 1 =
    between_at (sieve_lo sieve) (sieve_hi sieve) i (omega arith) (hi_long ∙ sym lo_long) in
    let box : slice_index (box_of sieve).len i ≡ slice_index (lengths_between (sieve_lo sieve) (sieve_hi sieve)) i =
    get_or_append_left (lengths_between (sieve_lo sieve) (sieve_hi sieve)) (replicate (9 - sieve.n) 0) 0 i (omega arith) in
    let ordered = is.ordered i (omega arith) in
    let inside = is.inside i (omega arith) in
    let axis : slice_index shape.len i ≡ slice_index (said_axes cards) i =
    sym (get_or-take shape.n shape.len i 0 (omega arith)) ∙ ap (λ l. slice_index l i) (shape_is cards) in
    omega arith)

-- ---- what the judges say

true_passes : (wanted : Bool) (found : Option Fault) → (if wanted then unless_refused true found else Ok false) ≡ Ok true → (wanted ≡ true) × (found ≡ None)
true_passes true None e = (refl, refl)
true_passes true (Some x) e = absurd cc
true_passes false found e = absurd cc

false_passes : (wanted : Bool) (found : Option Fault) → (if wanted then unless_refused true found else Ok false) ≡ Ok false → wanted ≡ false
false_passes true None e = absurd cc
false_passes true (Some x) e = absurd cc
false_passes false found e = refl

both_say : (wanted : Bool) (found : Option Fault) → wanted ≡ true → found ≡ None → (if wanted then unless_refused true found else Ok false) ≡ Ok true
both_say true found e none = ap (unless_refused true) none
both_say false found e none = absurd cc

module _ (laws : CutLaws) (file patch x : List ℕ) (job : PatchJob) (h : Header) (es : List TileCode) (has : HasTarget file h) (target : patch_target file patch job ≡ Ok h) (is : IsPrefix file h (given_by patch job) es x) where
  abbrev pub g : Given
  g = given_by patch job

  abbrev pub now : Header
  now = header_now x h

  pub all : HasAll file h
  all = all_headers laws.hdus file patch job h target has.ends

  pub found : hdu_at h.hdu h.start file ≡ Ok h
  found = all.found

  -- a slice before the HDU
  pub before_slice : (s m : ℕ) → s + m ≤ h.start → take m (drop s x) ≡ take m (drop s file)
  before_slice s m low = part_same 0 h.start s m x file (omega arith) (omega arith) is.front

  pub some : h.start < next_start_of h
  some =
      let long : length (header_in file h) ≡ 2880 * h.blocks = header_length laws.hdus h.hdu h.start file h found in
      let blocks : 2880 ≤ length (header_in file h) = some_blocks laws.hdus h.hdu h.start file h found in
      omega arith

  -- the first header lies before it
  first_before : 2880 ≤ h.start
  first_before = first_ends laws.hdus file h all has.later

  pub empty_same : (e : Header) → is_after_empty x e ≡ is_after_empty file e
  empty_same e =
      let low = first_before in
      ap (λ c. e.hdu == 1 && size_in (integer_of c) == 0) (before_slice 160 80 (omega arith))

  pub header_same : (k start : ℕ) (e : Header) → hdu_at k start file ≡ Ok e → next_start_of e ≤ h.start → header_in x e ≡ header_in file e
  header_same k start e at before = before_slice e.start (2880 * e.blocks) (omega arith)

  pub earlier : (k start : ℕ) (e : Header) → hdu_at k start file ≡ Ok e → next_start_of e ≤ h.start → hdu_at k start x ≡ Ok e
  earlier k start e at before =
      let begun : e.start ≡ start = (laws.hdus.facts k start file e at).1 in
      let long : length (header_in file e) ≡ 2880 * e.blocks = header_length laws.hdus k start file e at in
      let longer = is.long in
      let ends = has.ends in
      let more = some in
      let most = is.most in
      let here : take (length (header_in file e)) (drop start x) ≡ header_in file e =
      (λ j. take (long j) (drop (sym begun j) x)) ∙ header_same k start e at before in
      found_in laws.hdus k start file e at x here (omega arith) (omega arith)

  pub there : hdu_at h.hdu h.start x ≡ Ok now
  there = found_now laws.hdus laws.amended file x h g es has is found

  pub same : SaysTheSame h.hdu h.start (header_in file h) (header_in x h)
  same = says laws.amended file x h has.image is.cards

  pub facts_same : now ≡ record h { pcount = now.pcount; data_len = now.data_len }
  facts_same = facts_are laws.amended file x h has.image is.cards

  pub header_now_is : header_in x now ≡ header_in x h
  header_now_is = header_again laws.amended file x h has.image is.cards

  pub wanted_same : (wanted : Option ℕ) → is_wanted wanted (header_in x now) now ≡ is_wanted wanted (header_in file h) h
  wanted_same None = ap (λ l. is_packed l now) header_now_is ∙ (same.packed ∙ ap (is_packed (header_in file h)) (sym has.image.is_header.facts))
  wanted_same (Some k) = refl

  -- the checks of the image
  pub find_passes : first_refusal (find_hdu_checks x now) ≡ None
  find_passes =
      (λ j. first_refusal (find_checks now (header_now_is j) (empty_now j)))
      ∙ checks_now laws.hdus laws.amended file x h g es has is
    where
      empty_now : is_after_empty x now ≡ is_after_empty file h
      empty_now = empty_same now

  pub find_stops : (wanted : Option ℕ) → find_judge wanted file h ≡ Ok true → find_judge wanted x now ≡ Ok true
  find_stops wanted e =
      let was = true_passes (is_wanted wanted (header_in file h) h) (first_refusal (find_hdu_checks file h)) e in
      both_say (is_wanted wanted (header_in x now) now) (first_refusal (find_hdu_checks x now)) (wanted_same wanted ∙ was.0) find_passes

  pub find_alike : (wanted : Option ℕ) (k start : ℕ) (e : Header) (b : Bool) → hdu_at k start file ≡ Ok e → next_start_of e ≤ h.start → find_judge wanted file e ≡ Ok b → find_judge wanted x e ≡ Ok b
  find_alike wanted k start e b at before said =
      (λ j.
      if is_wanted wanted (header_same k start e at before j) e
      then unless_refused true (first_refusal (find_checks e (header_same k start e at before j) (empty_same e j))) else Ok false)
      ∙ said

  cut_stops : (wanted : Option ℕ) (region : Region) → cut_judge wanted region file h ≡ Ok true → cut_judge wanted region x now ≡ Ok true
  cut_stops wanted region e =
      let header : List ℕ = header_in file h in
      let was = true_passes (is_wanted wanted header h) (first_refusal (cut_hdu_checks file region h)) e in
      let one = both_pass (packed_card_checks h header) (image_checks h header (is_after_empty file h) ++ box_checks h.hdu (cards_of header) region) was.1 in
      let two = both_pass (image_checks h header (is_after_empty file h)) (box_checks h.hdu (cards_of header) region) one.1 in
      let axes : said_axes (cards_of (header_in x h)) ≡ said_axes (cards_of header) =
      sym (shape_is (cards_of (header_in x h))) ∙ (ap (λ (q : Plan). lengths_of q.shape) same.plan ∙ shape_is (cards_of header)) in
      let box : first_refusal (box_checks now.hdu (cards_of (header_in x now)) region) ≡ None =
      ap (λ l. first_refusal (box_checks now.hdu (cards_of l) region)) header_now_is ∙ box_again h.hdu now.hdu (cards_of header) (cards_of (header_in x h)) region axes two.1 in
      both_say (is_wanted wanted (header_in x now) now) (first_refusal (cut_hdu_checks x region now)) (wanted_same wanted ∙ was.0) (with_box region box)
    where
      with_box : (r : Region) → first_refusal (box_checks now.hdu (cards_of (header_in x now)) r) ≡ None → first_refusal (cut_hdu_checks x r now) ≡ None
      with_box r box =
          let both = both_pass (packed_card_checks now (header_in x now)) (image_checks now (header_in x now) (is_after_empty x now)) find_passes in
          joined_pass (packed_card_checks now (header_in x now)) (image_checks now (header_in x now) (is_after_empty x now) ++ box_checks now.hdu (cards_of (header_in x now)) r) both.0
          (joined_pass (image_checks now (header_in x now) (is_after_empty x now)) (box_checks now.hdu (cards_of (header_in x now)) r) both.1 box)

  cut_alike : (wanted : Option ℕ) (region : Region) (k start : ℕ) (e : Header) (b : Bool) → hdu_at k start file ≡ Ok e → next_start_of e ≤ h.start → cut_judge wanted region file e ≡ Ok b → cut_judge wanted region x e ≡ Ok b
  cut_alike wanted region k start e b at before said =
      (λ j.
      if is_wanted wanted (header_same k start e at before j) e
      then unless_refused true (first_refusal (cut_checks e (header_same k start e at before j) (empty_same e j) region)) else Ok false)
      ∙ said

  -- ---- the walks

  pub alike : (judge other : Judge) → ((k start : ℕ) (e : Header) (b : Bool) → hdu_at k start file ≡ Ok e → next_start_of e ≤ h.start → judge e ≡ Ok b → other e ≡ Ok b) → (judge h ≡ Ok true → other now ≡ Ok true) →
      AreAlikeUpTo file x h now judge other
  alike judge other says_alike stops_alike =
      record { some = some; ends = has.ends; long = is.long; before = earlier; judged_alike = says_alike; there = there; stopped = stops_alike }

  pub walks : (judge other : Judge) (ks : List Header) → AreAlikeUpTo file x h now judge other → walk_of judge 65536 file ≡ Ok ks → stops judge ks ≡ true → WalksAlike 65536 0 0 x h now other ks
  walks judge other ks are walk stop = walk_alike laws.hdus file x h now judge other are 65536 0 0 all.headers ks all.is all.last walk stop

  pub cuts_still_pass : CutsStillPass file x
  unfolding job_walk
  cuts_still_pass wanted sieve none = by_walk (walk_of (cut_judge wanted (box_of sieve) file) 65536 file) refl none
    where
      judge : Judge
      judge = cut_judge wanted (box_of sieve) file

      other : Judge
      other = cut_judge wanted (box_of sieve) x

      by_stop : (ks : List Header) (b : Bool) → walk_of judge 65536 file ≡ Ok ks → stops judge ks ≡ b → (if b then None else Some (missing_hdu wanted (length ks) (length file))) ≡ None → header_fault (Cut wanted sieve) x ≡ None
      by_stop ks false walk stop e = absurd cc
      by_stop ks true walk stop e =
          let w : WalksAlike 65536 0 0 x h now other ks = walks judge other ks (alike judge other (cut_alike wanted (box_of sieve)) (cut_stops wanted (box_of sieve))) walk stop in
          ap (fault_of_walk (Cut wanted sieve) x) w.walk ∙ ap (λ b. if b then None else Some (missing_hdu wanted (length w.found) (length x))) w.stop

      by_walk : (r : Result (List Header) Fault) → walk_of judge 65536 file ≡ r → fault_of_walk (Cut wanted sieve) file r ≡ None → header_fault (Cut wanted sieve) x ≡ None
      by_walk (Err fault) walk e = absurd cc
      by_walk (Ok ks) walk e = by_stop ks (stops judge ks) walk refl e

  pub cuts_find_it : CutsFindIt file x h
  unfolding job_walk
  cuts_find_it wanted sieve image nine sifts =
      let w0 = wanted_walk file wanted h image in
      let w : WalksAlike 65536 0 0 x h now (find_judge wanted x) w0.found = walks (find_judge wanted file) (find_judge wanted x) w0.found (alike (find_judge wanted file) (find_judge wanted x) (find_alike wanted) (find_stops wanted)) w0.walk w0.stop in
      let last : last_of w.found ≡ now ∷ [] = w.last w0.last in
      let cut : Judge = cut_judge wanted (box_of sieve) x in
      let stop_now : find_judge wanted x now ≡ Ok true = find_stops wanted (stops_last (find_judge wanted file) h file 65536 0 0 w0.found w0.walk w0.stop w0.last) in
      let cut_now : cut now ≡ Ok true = cut_by_find stop_now in
      let two = stops_too (find_judge wanted x) cut now x (λ e said. ap (λ b. if b then unless_refused true (first_refusal (cut_hdu_checks x (box_of sieve) e)) else Ok false) (false_passes (is_wanted wanted (header_in x e) e) (first_refusal (find_hdu_checks x e)) said)) cut_now 65536 0 0 w.found w.walk w.stop last in (
        ap (fault_of_walk (Cut wanted sieve) x) two.0 ∙ ap (λ b. if b then None else Some (missing_hdu wanted (length w.found) (length x))) two.1,
        ap (λ r. last_of (found_headers r)) two.0 ∙ last,
      )
    where
      cut_by_find : find_judge wanted x now ≡ Ok true → cut_judge wanted (box_of sieve) x now ≡ Ok true
      cut_by_find e =
          let was = true_passes (is_wanted wanted (header_in x now) now) (first_refusal (find_hdu_checks x now)) e in
          let both = both_pass (packed_card_checks now (header_in x now)) (image_checks now (header_in x now) (is_after_empty x now)) was.1 in
          let shape = same.plan in
          let few : axis_count (cards_of (header_in x now)) ≤ 9 = axes_few in
          let own : IsSieveOf (plan_of_cards (cards_of (header_in x now))).shape sieve = subst (λ l. IsSieveOf (plan_of_cards (cards_of l)).shape sieve) (sym header_now_is) sifts in
          let box : first_refusal (box_checks now.hdu (cards_of (header_in x now)) (box_of sieve)) ≡ None = sieve_passes now.hdu (cards_of (header_in x now)) sieve few nine own in
          both_say (is_wanted wanted (header_in x now) now) (first_refusal (cut_hdu_checks x (box_of sieve) now)) was.0
          (joined_pass (packed_card_checks now (header_in x now)) (image_checks now (header_in x now) (is_after_empty x now) ++ box_checks now.hdu (cards_of (header_in x now)) (box_of sieve)) both.0
          (joined_pass (image_checks now (header_in x now) (is_after_empty x now)) (box_checks now.hdu (cards_of (header_in x now)) (box_of sieve)) both.1 box))
        where
          axes_few : axis_count (cards_of (header_in x now)) ≤ 9
          axes_few =
              let count : axis_count (cards_of (header_in x now)) ≡ (plan_in file h).shape.n =
              ap (λ l. axis_count (cards_of l)) header_now_is ∙ (sym (shape_count (cards_of (header_in x h))) ∙ ap (λ (q : Plan). q.shape.n) same.plan) in
              let low = has.is.divided.axes in
              omega arith
