-- A patch has one first fault at most, and one list of writes exactly if it has none.
use Rattle.std.specs.Prelude.{⊤}
use Rattle.std.proofs.Common.{◌≡◌, ℕ, ◌||◌, Bool, true, false, ℤ, pos, unsigned_abs, List, [], ◌∷◌, ◌++◌, length, map, All, Option, Some, None, Result, Ok, Err, if◌then◌else◌, inl, inr, refl, sym, ap, ◌∙◌, subst}
use Rattle.std.proofs.lemmas.List.Elements.{All-head, All-tail}
use Rattle.fz_base.specs.Refusal.{first_refusal, refusal}
use Rattle.fz_base.specs.declared.fault.Fault.{Fault}
use Rattle.fz_base.specs.declared.fault.Place.TheVariants.{Row as AtRow}
use Rattle.fz_block.specs.Checks.{Judge, hdu_at, headers_of, unless_refused, walk_of}
use Rattle.fz_block.specs.Facts.{IsHeaderOf}
use Rattle.fz_block.specs.Walk.{hdu_of, is_stop, stops}
use Rattle.fz_block.specs.declared.header.Header.{Header}
use Rattle.fz_checks.specs.JobChecks.{IsImageOf, image_checks, image_in, is_after_empty, missing_hdu, packed_card_checks}
use Rattle.fz_checks.specs.Judges.{is_wanted}
use Rattle.fz_checks.specs.TileKinds.{kind_of_tile}
use Rattle.fz_head.specs.declared.plan.Plan.{Plan}
use Rattle.fz_table.specs.Records.{record_bytes}
use Rattle.fz_table.specs.declared.record.Record.{Record}
use Rattle.fz_tile.specs.Codecs.{CanRead}
use Rattle.fz_tile.specs.Laws.{IsRefusedOnce, StandsUnrefused}
use Rattle.fz_tile.specs.Pixels.{IsBitpix}
use Rattle.fz_tile.specs.Record.{IsRecord}
use Rattle.fz_tile.specs.Refusals.{IsFault}
use Rattle.fz_tile.specs.declared.codec.Codec.{Codec}
use Rattle.fz_tile.specs.declared.coded.Place2.{Place2}
use Rattle.fz_files.specs.FirstFault.{IsFirstRowFault, IsRowFault, IsRowSound, image_row}
use Rattle.fz_files.specs.Packed.{pixel_bits}
use Rattle.fz_files.specs.Restored.{RecordMeans, RowStandsFor, header_in, pixels_of, place_in, plan_in}
use Rattle.fz_laws.specs.PatchChecks.{find_hdu_checks, find_judge, if_all_pass, if_patchable, last_or, patch_target, target_checks, wanted_among, wanted_image}
use Rattle.fz_laws.specs.FirstPatchFault.{ArePatchSteps, IsBoxFault, IsFaultBehindTarget, IsFirstPatchFault, RowsHaveNumbers, codes_len, room_check}
use Rattle.fz_laws.specs.Given.{Given, PatchJob, given_by}
use Rattle.fz_laws.specs.PatchLaws.{HasOnePatch, HasOnePatchFault, HasWritesOrFault}
use Rattle.fz_laws.specs.NewNumbers.{box_tiles}
use Rattle.fz_laws.specs.PatchTaken.{TakenLaws}
use Rattle.fz_laws.specs.Writes.{Steps, steps_of}
use Rattle.fz_laws.proofs.Passes.{both_pass}

-- ---- the image that is found can be read

last_split : (fault : Fault) (hs : List Header) (h : Header) → last_or fault hs ≡ Ok h → (first : List Header) × (hs ≡ first ++ h ∷ [])
last_split fault [] h e = absurd cc
last_split fault (k ∷ []) h e = let same : k ≡ h = cc in ([], ap (λ x. x ∷ []) same)
last_split fault (k ∷ j ∷ hs) h e = let rest = last_split fault (j ∷ hs) h e in (k ∷ rest.0, ap (λ l. k ∷ l) rest.1)

alone : (b : Bool) → (b || false) ≡ true → b ≡ true
alone true e = refl
alone false e = absurd cc

behind_false : (a b c : Bool) → (a || b) ≡ true → (a || c) ≡ false → (b ≡ true) × (c ≡ false)
behind_false true b c e f = absurd cc
behind_false false b c e f = (e, f)

last_stops : (judge : Judge) (first : List Header) (h : Header) → stops judge (first ++ h ∷ []) ≡ true → stops judge first ≡ false → is_stop (judge h) ≡ true
last_stops judge [] h e f = alone (is_stop (judge h)) e
last_stops judge (k ∷ first) h e f =
    let both = behind_false (is_stop (judge k)) (stops judge (first ++ h ∷ [])) (stops judge first) e f in
    last_stops judge first h both.0 both.1

none_at_stop : (wanted : Bool) (found : Option Fault) → is_stop (if wanted then unless_refused true found else Ok false) ≡ true → found ≡ None
none_at_stop true None e = refl
none_at_stop true (Some x) e = absurd cc
none_at_stop false found e = absurd cc

last_of_all : (P : Header → Type 0) (first : List Header) (h : Header) → All P (first ++ h ∷ []) → P h
last_of_all P [] h all = All-head P h [] all
last_of_all P (k ∷ first) h all = last_of_all P first h (All-tail P k (first ++ h ∷ []) all)

-- the size of a pixel is that of the plan
bits_are : (codec : Codec) (bitpix : ℤ) → CanRead codec bitpix → CanRead codec (pos (unsigned_abs bitpix))
bits_are codec bitpix can = by_size can.size
  where
    by_size : IsBitpix bitpix → CanRead codec (pos (unsigned_abs bitpix))
    by_size (inl e) = subst (λ b. CanRead codec (pos (unsigned_abs b))) (sym e) (subst (CanRead codec) e can)
    by_size (inr (inl e)) = subst (λ b. CanRead codec (pos (unsigned_abs b))) (sym e) (subst (CanRead codec) e can)
    by_size (inr (inr (inl e))) = subst (λ b. CanRead codec (pos (unsigned_abs b))) (sym e) (subst (CanRead codec) e can)
    by_size (inr (inr (inr e))) = subst (λ b. CanRead codec (pos (unsigned_abs b))) (sym e) (subst (CanRead codec) e can)

-- the tiles of a plan can be read
abbrev IsReadable : List ℕ → Header → Type 0
IsReadable file h = CanRead (plan_in file h).codec (pos (pixel_bits (plan_in file h)))

-- the image that is wanted is the wanted one that the search finds
pub target_wanted : (file patch : List ℕ) (job : PatchJob) (h : Header) → patch_target file patch job ≡ Ok h → wanted_image job.wanted file ≡ Ok h
unfolding patch_target
target_wanted file patch job h e = by_headers (headers_of 65536 file) (wanted_image job.wanted file) e
  where
    by_none : (k : Header) (found : Option Fault) (r : Result Header Fault) → r ≡ Ok k → unless_refused k found ≡ Ok h → r ≡ Ok h
    by_none k (Some x) r is same = absurd cc
    by_none k None r is same = is ∙ same

    by_image : (w : Result Header Fault) → if_patchable file patch job w ≡ Ok h → w ≡ Ok h
    by_image (Err x) same = same
    by_image (Ok k) same = by_none k (first_refusal (target_checks file patch k job)) (Ok k) refl same

    by_headers : (r : Result (List Header) Fault) (w : Result Header Fault) → if_all_pass r (if_patchable file patch job w) ≡ Ok h → w ≡ Ok h
    by_headers (Err x) w same = absurd cc
    by_headers (Ok hs) w same = by_image w same

-- The header of a packed image that a search found: the checks by which it is found refuse nothing.
pub record IsFoundImage (file : List ℕ) (h : Header) : Type 0 where
  pub is_header : IsHeaderOf (header_in file h) h
  pub checks : first_refusal (find_hdu_checks file h) ≡ None

module _ (laws : TakenLaws) (file : List ℕ) where
  found_at : (wanted : Option ℕ) (first : List Header) (h : Header) → walk_of (find_judge wanted file) 65536 file ≡ Ok (first ++ h ∷ []) →
      stops (find_judge wanted file) (first ++ h ∷ []) ≡ true → IsFoundImage file h
  found_at wanted first h walk stop =
      let found : hdu_at h.hdu h.start file ≡ Ok h =
      last_of_all (λ (k : Header). hdu_at k.hdu k.start file ≡ Ok k) first h (laws.walk (find_judge wanted file) 65536 file (first ++ h ∷ []) walk) in
      let here : is_stop (find_judge wanted file h) ≡ true = last_stops (find_judge wanted file) first h stop (laws.last (find_judge wanted file) 65536 file first h walk) in
      record {
        is_header = (laws.facts h.hdu h.start file h found).2;
        checks = none_at_stop (is_wanted wanted (hdu_of file h).header h) (first_refusal (find_hdu_checks file h)) here;
      }

  wanted_found : (wanted : Option ℕ) (h : Header) → wanted_image wanted file ≡ Ok h → IsFoundImage file h
  wanted_found wanted h e = by_walk (walk_of (find_judge wanted file) 65536 file) refl e
    where
      by_stop : (hs : List Header) (stop : Bool) → walk_of (find_judge wanted file) 65536 file ≡ Ok hs → stops (find_judge wanted file) hs ≡ stop →
          (if stop then last_or (missing_hdu wanted (length hs) (length file)) hs else Err (missing_hdu wanted (length hs) (length file))) ≡ Ok h → IsFoundImage file h
      by_stop hs false walk stop is = absurd cc
      by_stop hs true walk stop is =
          let split = last_split (missing_hdu wanted (length hs) (length file)) hs h is in
          found_at wanted split.0 h (walk ∙ ap Ok split.1) (sym (ap (stops (find_judge wanted file)) split.1) ∙ stop)

      by_walk : (r : Result (List Header) Fault) → walk_of (find_judge wanted file) 65536 file ≡ r → wanted_among wanted file r ≡ Ok h → IsFoundImage file h
      by_walk (Err x) walk is = absurd cc
      by_walk (Ok hs) walk is = by_stop hs (stops (find_judge wanted file) hs) walk refl is

  pub target_found : (patch : List ℕ) (job : PatchJob) (h : Header) → patch_target file patch job ≡ Ok h → IsFoundImage file h
  target_found patch job h e = wanted_found job.wanted h (target_wanted file patch job h e)

  pub target_readable : (patch : List ℕ) (job : PatchJob) (h : Header) → patch_target file patch job ≡ Ok h → IsReadable file h
  target_readable patch job h e =
      let found : IsFoundImage file h = target_found patch job h e in
      let both = both_pass (packed_card_checks h (header_in file h)) (image_checks h (header_in file h) (is_after_empty file h)) found.checks in
      let image : IsImageOf (header_in file h) h (image_in h (header_in file h)) = laws.image h (header_in file h) (is_after_empty file h) found.is_header both.1 in
      bits_are (plan_in file h).codec (plan_in file h).bitpix image.readable

  -- ---- a row

  same_record : (found other : Record) (r : Result Record Fault) → r ≡ Ok found → r ≡ Ok other → found ≡ other
  same_record found other r e f = cc

  no_record : (found : Record) (fault : Fault) (r : Result Record Fault) → r ≡ Ok found → r ≡ Err fault → ⊥
  no_record found fault r e f = absurd cc

  same_fault : (fault other : Fault) (r : Result Record Fault) → r ≡ Err fault → r ≡ Err other → fault ≡ other
  same_fault fault other r e f = cc

  -- a row stands for one list of numbers at most
  pub one_row : (h : Header) (t : ℕ) (xs ys : List ℤ) → IsReadable file h → RowStandsFor file h t xs → RowStandsFor file h t ys → ys ≡ xs
  one_row h t xs ys can a b =
      let p : Plan = plan_in file h in
      let same : b.found ≡ a.found = same_record b.found a.found _ b.chosen a.chosen in
      laws.one p.codec (pixel_bits p) a.found.total (place_in a.found.column) (record_bytes file a.found) xs ys can
      (b.count ∙ sym a.count) a.means (subst (λ (f : Record). RecordMeans file p f ys) same b.means)

  -- a row that stands for numbers is not refused
  sound_unrefused : (h : Header) (t : ℕ) (fault : Fault) → IsReadable file h → IsRowSound file (image_row h t) → IsRowFault file (image_row h t) fault → ⊥
  sound_unrefused h t fault can (xs, row) (inl refused) = no_record row.found fault _ row.chosen refused
  sound_unrefused h t fault can (xs, row) (inr (why, faulty, is)) =
      let p : Plan = plan_in file h in
      let same : faulty.found ≡ row.found = same_record faulty.found row.found _ faulty.chosen row.chosen in
      laws.unrefused p.codec (pixel_bits p) row.found.total (pixels_of p t) (place_in row.found.column) (record_bytes file row.found) why can
      (xs, row.count, row.means)
      (subst (λ (f : Record). IsFault p.codec (pixel_bits p) (place_in f.column) f.total (record_bytes file f) (pixels_of p t) why) same faulty.fault)

  -- and a row is refused in one way at most
  one_row_fault : (h : Header) (t : ℕ) (fault other : Fault) → IsReadable file h → IsRowFault file (image_row h t) fault → IsRowFault file (image_row h t) other → fault ≡ other
  one_row_fault h t fault other can (inl refused) (inl again) = same_fault fault other _ refused again
  one_row_fault h t fault other can (inl refused) (inr (why, faulty, is)) = absurd (no_record faulty.found fault _ faulty.chosen refused)
  one_row_fault h t fault other can (inr (why, faulty, is)) (inl refused) = absurd (no_record faulty.found other _ faulty.chosen refused)
  one_row_fault h t fault other can (inr (why, faulty, is)) (inr (why', again, is')) =
      let p : Plan = plan_in file h in
      let same : again.found ≡ faulty.found = same_record again.found faulty.found _ again.chosen faulty.chosen in
      let same_why : why' ≡ why =
      laws.once p.codec (pixel_bits p) faulty.found.total (pixels_of p t) (place_in faulty.found.column) (record_bytes file faulty.found) why why' can faulty.fault
      (subst (λ (f : Record). IsFault p.codec (pixel_bits p) (place_in f.column) f.total (record_bytes file f) (pixels_of p t) why') same again.fault) in
      is ∙ (ap (λ w. refusal h.hdu (AtRow t) (kind_of_tile w)) (sym same_why) ∙ sym is')

  -- ---- rows, one after another

  one_among : (h : Header) (ts : List ℕ) (found other : Option Fault) → IsReadable file h → IsFirstRowFault file (map (image_row h) ts) found →
      IsFirstRowFault file (map (image_row h) ts) other → found ≡ other
  one_among h [] None None can a b = refl
  one_among h [] None (Some y) can a b = absurd b
  one_among h [] (Some x) other can a b = absurd a
  one_among h (t ∷ ts) None None can a b = refl
  one_among h (t ∷ ts) None (Some y) can a (inl refused) = absurd (sound_unrefused h t y can a.0 refused)
  one_among h (t ∷ ts) None (Some y) can a (inr b) = one_among h ts None (Some y) can a.1 b.1
  one_among h (t ∷ ts) (Some x) None can (inl refused) b = absurd (sound_unrefused h t x can b.0 refused)
  one_among h (t ∷ ts) (Some x) None can (inr a) b = one_among h ts (Some x) None can a.1 b.1
  one_among h (t ∷ ts) (Some x) (Some y) can (inl refused) (inl again) = ap Some (one_row_fault h t x y can refused again)
  one_among h (t ∷ ts) (Some x) (Some y) can (inl refused) (inr b) = absurd (sound_unrefused h t x can b.0 refused)
  one_among h (t ∷ ts) (Some x) (Some y) can (inr a) (inl refused) = absurd (sound_unrefused h t y can a.0 refused)
  one_among h (t ∷ ts) (Some x) (Some y) can (inr a) (inr b) = one_among h ts (Some x) (Some y) can a.1 b.1

  rows_sound : (h : Header) (ts : List ℕ) (olds : List (List ℤ)) → RowsHaveNumbers file h ts olds → IsFirstRowFault file (map (image_row h) ts) None
  rows_sound h [] [] have = tt
  rows_sound h [] (xs ∷ more) have = absurd have
  rows_sound h (t ∷ ts) [] have = absurd have
  rows_sound h (t ∷ ts) (xs ∷ more) have = ((xs, have.0), rows_sound h ts more have.1)

  one_list : (h : Header) (ts : List ℕ) (olds other : List (List ℤ)) → IsReadable file h → RowsHaveNumbers file h ts olds → RowsHaveNumbers file h ts other → other ≡ olds
  one_list h [] [] [] can a b = refl
  one_list h [] [] (ys ∷ later) can a b = absurd b
  one_list h [] (xs ∷ more) other can a b = absurd a
  one_list h (t ∷ ts) [] other can a b = absurd a
  one_list h (t ∷ ts) (xs ∷ more) [] can a b = absurd b
  one_list h (t ∷ ts) (xs ∷ more) (ys ∷ later) can a b =
      let here : ys ≡ xs = one_row h t xs ys can a.0 b.0 in
      let rest : later ≡ more = one_list h ts more later can a.1 b.1 in
      λ j. here j ∷ rest j

  -- ---- the patch

  no_fault : (fault : Fault) → Some fault ≡ None → ⊥
  no_fault fault e = absurd cc

  box_fault : (h : Header) (g : Given) (found other : Option Fault) → IsReadable file h → IsBoxFault file h g found → IsBoxFault file h g other → found ≡ other
  box_fault h g found other can (inl (x, is, a)) (inl (y, is', b)) = is ∙ (one_among h (box_tiles (plan_in file h) g) (Some x) (Some y) can a b ∙ sym is')
  box_fault h g found other can (inl (x, is, a)) (inr (olds, b, is')) =
      absurd (no_fault x (one_among h (box_tiles (plan_in file h) g) (Some x) None can a (rows_sound h (box_tiles (plan_in file h) g) olds b)))
  box_fault h g found other can (inr (olds, a, is)) (inl (y, is', b)) =
      absurd (no_fault y (one_among h (box_tiles (plan_in file h) g) (Some y) None can b (rows_sound h (box_tiles (plan_in file h) g) olds a)))
  box_fault h g found other can (inr (olds, a, is)) (inr (others, b, is')) =
      let same : others ≡ olds = one_list h (box_tiles (plan_in file h) g) olds others can a b in
      is ∙ (ap (λ l. first_refusal (room_check file h (codes_len file h g l) ∷ [])) (sym same) ∙ sym is')

same_target : (h k : Header) (r : Result Header Fault) → r ≡ Ok h → r ≡ Ok k → k ≡ h
same_target h k r e f = cc

pub has_one_fault : TakenLaws → HasOnePatchFault
has_one_fault laws file patch job found other a b = by_target (patch_target file patch job) refl a b
  where
    by_target : (r : Result Header Fault) → patch_target file patch job ≡ r → IsFaultBehindTarget file (given_by patch job) r found →
        IsFaultBehindTarget file (given_by patch job) r other → found ≡ other
    by_target (Err x) target a b = a ∙ sym b
    by_target (Ok h) target a b = box_fault laws file h (given_by patch job) found other (target_readable laws file patch job h target) a b

pub has_one_patch : TakenLaws → HasOnePatch
has_one_patch laws file patch job h k steps other a b =
    let same : k ≡ h = same_target h k (patch_target file patch job) a.target b.target in
    (sym same, by_header (subst (λ x. ArePatchSteps file patch job x other) same b))
  where
    by_header : ArePatchSteps file patch job h other → steps ≡ other
    by_header b =
        let lists : b.olds ≡ a.olds = one_list laws file h (box_tiles (plan_in file h) (given_by patch job)) a.olds b.olds (target_readable laws file patch job h a.target) a.numbers b.numbers in
        a.steps_are ∙ (ap (steps_of file h (given_by patch job)) (sym lists) ∙ sym b.steps_are)

pub has_writes_or_fault : HasWritesOrFault
has_writes_or_fault file patch job = (by_target (patch_target file patch job) refl, by_steps)
  where
    by_box : (h : Header) → patch_target file patch job ≡ Ok h → IsBoxFault file h (given_by patch job) None → (k : Header) × (steps : Steps) × ArePatchSteps file patch job k steps
    by_box h target (inl (x, is, rows)) = absurd cc
    by_box h target (inr (olds, numbers, room)) =
        (h, steps_of file h (given_by patch job) olds, record { target = target; olds = olds; numbers = numbers; room = sym room; steps_are = refl })

    by_target : (r : Result Header Fault) → patch_target file patch job ≡ r → IsFaultBehindTarget file (given_by patch job) r None →
        (h : Header) × (steps : Steps) × ArePatchSteps file patch job h steps
    by_target (Err x) target is = absurd cc
    by_target (Ok h) target is = by_box h target is

    by_steps : ((h : Header) × (steps : Steps) × ArePatchSteps file patch job h steps) → IsFirstPatchFault file patch job None
    by_steps (h, steps, are) =
        subst (λ r. IsFaultBehindTarget file (given_by patch job) r None) (sym are.target) (inr (are.olds, are.numbers, sym are.room))
