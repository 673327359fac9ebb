-- A cutout is a slice of what the packed file stands for (FITS 4.0, sections 3.1 and 10.1).
use Rattle.std.proofs.Common.{◌≡◌, ℕ, ◌<◌, ◌≤◌, Bool, true, false, List, [], ◌∷◌, ◌++◌, length, refl, sym, ap, ◌∙◌, subst, arith}
use Rattle.std.specs.Prelude.{Option, Some, None, Result, Ok, Err, if◌then◌else◌}
use Rattle.std.proofs.lemmas.List.{append_assoc}
use Rattle.fz_base.specs.Refusal.{first_refusal}
use Rattle.fz_base.specs.declared.fault.Fault.{Fault}
use Rattle.fz_block.specs.Checks.{Judge, walk_of}
use Rattle.fz_block.specs.Hdus.{cards_of}
use Rattle.fz_block.specs.Walk.{AreHeadersBetween, RefusesNone, is_stop, stops}
use Rattle.fz_block.specs.declared.header.Header.{Header}
use Rattle.fz_grid.specs.Region.{lengths_of}
use Rattle.fz_grid.specs.declared.sieve.Sieve.{Sieve}
use Rattle.fz_checks.specs.JobChecks.{cut_hdu_checks, is_after_empty, missing_hdu}
use Rattle.fz_checks.specs.Judges.{cut_judge, unpack_judge}
use Rattle.fz_grid.specs.Cutout.{Sifts, picked_numbers}
use Rattle.fz_files.specs.CutoutBytes.{IsCutout, cutout_bytes}
use Rattle.fz_files.specs.FirstFault.{IsFaultBehind}
use Rattle.fz_files.specs.Laws.{CutsOutOneFile}
use Rattle.fz_files.specs.Restored.{HdusStandFor, IsImageOf, header_in, is_image, plan_in, standing}
use Rattle.fz_files.specs.StandsFor.{StandsFor}
use Rattle.fz_files.specs.Walks.{box_of, cut_end_fault, fault_of_walk, found_headers, header_fault, headers_for, job_walk, last_of, missing_of}
use Rattle.fz_files.specs.declared.job.Job.{Job}
use Rattle.fz_files.specs.declared.job.Job.TheVariants.{Cut, Unpack}
use Rattle.fz_files.specs.Picks.{HasPicks}
use Rattle.fz_cut.specs.Slices.{CutoutsAreSlices, HasImage, IsSliceOf, SinksHoldSlices}
use Rattle.fz_cut.proofs.Known.{job_is, stops_at}
use Rattle.fz_cut.proofs.SliceBoxes.{box_sifts, is_packed_one}
use Rattle.fz_cut.proofs.SliceParts.{BeginsPlain, StandsAmong, StandsBetween, begins_plain, is_image_of, picked_stand, stands_among, stands_between}
use Rattle.fz_cut.proofs.SliceWalks.{unpack_goes_on, walks_begin}
use Rattle.fz_cut.proofs.Walks.{has_last, last_is, stops_none}

-- what a walk that answers says of its headers, and of those before the last one
abbrev pub WalkLaw : Type 0
WalkLaw = (judge : Judge) (most : ℕ) (file : List ℕ) (hs : List Header) → walk_of judge most file ≡ Ok hs →
    (0 < length hs) × (length hs ≤ most) × RefusesNone judge hs × ((end : ℕ) × (end ≤ length file) × AreHeadersBetween 0 0 end file hs)

abbrev pub LastLaw : Type 0
LastLaw = (judge : Judge) (most : ℕ) (file : List ℕ) (hs : List Header) (h : Header) → walk_of judge most file ≡ Ok (hs ++ h ∷ []) → stops judge hs ≡ false

-- ---- a file without a fault

no_header_fault : (refused : Option Fault) (job : Job) (file : List ℕ) → IsFaultBehind refused job file None → refused ≡ None
no_header_fault None job file is = refl
no_header_fault (Some fault) job file is = absurd cc

found_walk : (job : Job) (file : List ℕ) (found : Result (List Header) Fault) → fault_of_walk job file found ≡ None → (hs : List Header) × (found ≡ Ok hs) × (cut_end_fault job file hs ≡ None)
found_walk job file (Ok hs) none = (hs, refl, none)
found_walk job file (Err fault) none = absurd cc

unpack_is : (file : List ℕ) → job_walk Unpack file ≡ walk_of (unpack_judge file) 65536 file
unfolding job_walk
unpack_is file = refl

says_stop : (r : Result Bool Fault) → is_stop r ≡ true → r ≡ Ok true
says_stop (Ok b) is = ap Ok is
says_stop (Err x) is = absurd cc

stops_last : (judge : Judge) (hs : List Header) (h : Header) → stops judge hs ≡ false → stops judge (hs ++ h ∷ []) ≡ true → is_stop (judge h) ≡ true
stops_last judge hs h none stop = by_stop (is_stop (judge h)) refl
  where
    by_stop : (b : Bool) → is_stop (judge h) ≡ b → is_stop (judge h) ≡ true
    by_stop true is = is
    by_stop false is = let never = stops_none judge hs h none is in absurd cc

stops_if : (wanted : Option ℕ) (judge : Judge) (file : List ℕ) (hs : List Header) → missing_of wanted judge file hs ≡ None → stops judge hs ≡ true
stops_if wanted judge file hs e = by_stop (stops judge hs) e
  where
    by_stop : (stop : Bool) → (if stop then None else Some (missing_hdu wanted (length hs) (length file))) ≡ None → stop ≡ true
    by_stop true e = refl
    by_stop false e = absurd cc

module _ (walks : WalkLaw) (ends : LastLaw) (wanted : Option ℕ) (sieve : Sieve) (file : List ℕ) where
  abbrev K : Judge
  K = cut_judge wanted (box_of sieve) file

  -- the HDU that is cut from: the walk ends with it, and no check refuses it
  record IsCutFrom (h : Header) : Type 0 where
    before : List Header
    walk : walk_of K 65536 file ≡ Ok (before ++ h ∷ [])
    none : first_refusal (cut_hdu_checks file (box_of sieve) h) ≡ None

  from_parts : (before : List Header) (last : Header) → walk_of K 65536 file ≡ Ok (before ++ last ∷ []) → stops K (before ++ last ∷ []) ≡ true → IsCutFrom last
  from_parts before last walk stop =
      let stop_here : is_stop (K last) ≡ true = stops_last K before last (ends K 65536 file before last walk) stop in
      record { before = before; walk = walk; none = (stops_at wanted (box_of sieve) file last (says_stop (K last) stop_here)).1 }

  cut_from : (h : Header) → header_fault (Cut wanted sieve) file ≡ None → last_of (headers_for (Cut wanted sieve) file) ≡ h ∷ [] → IsCutFrom h
  cut_from h none last =
      let found = found_walk (Cut wanted sieve) file (job_walk (Cut wanted sieve) file) none in
      let walk : walk_of K 65536 file ≡ Ok found.0 = sym (job_is wanted sieve file) ∙ found.1 in
      let parts = has_last found.0 (walks K 65536 file found.0 walk).0 in
      let walk' : walk_of K 65536 file ≡ Ok (parts.before ++ parts.last ∷ []) = walk ∙ ap Ok parts.parts in
      let stop : stops K (parts.before ++ parts.last ∷ []) ≡ true = ap (stops K) (sym parts.parts) ∙ stops_if wanted K file found.0 found.2 in
      let ones : parts.last ∷ [] ≡ h ∷ [] = sym (last_is parts.before parts.last) ∙ ap last_of (sym parts.parts) ∙ ap (λ (r : Result (List Header) Fault). last_of (found_headers r)) (sym found.1) ∙ last in
      let same : parts.last ≡ h = cc in
      subst IsCutFrom same (from_parts parts.before parts.last walk' stop)

  module _ (los : sieve.n ≤ length sieve.lo) (his : sieve.n ≤ length sieve.hi) (steps : sieve.n ≤ length sieve.step) (has : HasPicks sieve) (one : CutsOutOneFile)
      (restored part : List ℕ) (stands : StandsFor file restored) (cut : IsCutout wanted sieve file part) where
    from : IsCutFrom cut.header
    from = cut_from cut.header (no_header_fault (header_fault (Cut wanted sieve) file) (Cut wanted sieve) file cut.sound) cut.last

    packed : is_image file cut.header ≡ true
    packed = is_packed_one cut.header (header_in file cut.header) (is_after_empty file cut.header) (box_of sieve) from.none

    sifts : Sifts (lengths_of (plan_in file cut.header).shape) sieve
    sifts = box_sifts sieve los his steps has cut.header (header_in file cut.header) (is_after_empty file cut.header) from.none

    -- `unpack` looks at it too
    found_all : (hs : List Header) × (job_walk Unpack file ≡ Ok hs) × (cut_end_fault Unpack file hs ≡ None)
    found_all = found_walk Unpack file (job_walk Unpack file) (no_header_fault (header_fault Unpack file) Unpack file stands.sound)

    abbrev all : List Header
    all = found_all.0

    walk_all : walk_of (unpack_judge file) 65536 file ≡ Ok all
    walk_all = sym (unpack_is file) ∙ found_all.1

    rest_of : (rest : List Header) × (all ≡ (from.before ++ cut.header ∷ []) ++ rest)
    rest_of = walks_begin file K (unpack_judge file) 65536 0 0 all (from.before ++ cut.header ∷ []) from.walk walk_all (unpack_goes_on file all)

    in_order : all ≡ from.before ++ cut.header ∷ rest_of.0
    in_order = rest_of.1 ∙ append_assoc from.before (cut.header ∷ []) rest_of.0

    among : StandsAmong file (from.before ++ cut.header ∷ rest_of.0) cut.header
    among =
        let between = (walks (unpack_judge file) 65536 file all walk_all).3 in
        stands_among file from.before cut.header rest_of.0 packed (subst (BeginsPlain file) in_order (begins_plain between.0 file all between.2))

    hdus : standing file (headers_for Unpack file) ≡ among.earlier ++ cut.header ∷ among.later
    hdus = ap (λ (r : Result (List Header) Fault). standing file (found_headers r)) found_all.1 ∙ ap (standing file) in_order ∙ among.hdus

    between : StandsBetween file among.earlier cut.header among.later restored
    between = stands_between file among.earlier cut.header among.later restored (subst (λ (hs : List Header). HdusStandFor file hs restored) hdus stands.parts)

    image : IsImageOf file cut.header between.own
    image = is_image_of file cut.header between.own packed between.here

    has_image : HasImage file restored cut.header image.array
    has_image = record {
      rows = image.rows;
      earlier = among.earlier;
      later = among.later;
      hdus = hdus;
      before = between.before;
      behind = between.behind;
      front = between.front;
      back = between.back;
      parts = between.parts ∙ ap (λ (l : List ℕ). between.before ++ (l ++ between.behind)) image.image;
    }

    -- the part of this image is a cutout, and there is one
    of_image : IsCutout wanted sieve file (cutout_bytes (plan_in file cut.header) (cards_of (header_in file cut.header)) sieve (picked_numbers image.array sieve))
    of_image = record {
      sound = cut.sound;
      header = cut.header;
      last = cut.last;
      numbers = picked_numbers image.array sieve;
      cut = record { array = image.array; rows = picked_stand file cut.header sieve image.array image.rows; picked = refl };
      made = refl;
    }

    is_slice : IsSliceOf wanted sieve file restored part
    is_slice = record {
      header = cut.header;
      last = cut.last;
      array = image.array;
      image = has_image;
      numbers = one wanted sieve file part _ cut.header cut.last sifts cut of_image;
    }

module _ (walks : WalkLaw) (ends : LastLaw) (one : CutsOutOneFile) (sieve : Sieve) (los : length sieve.lo ≡ 9) (his : length sieve.hi ≡ 9) (steps : length sieve.step ≡ 9) (has : HasPicks sieve) where
  pub slices : CutoutsAreSlices sieve
  slices wanted file restored part stands cut =
      is_slice walks ends wanted sieve file (omega (arith, los, has.axes)) (omega (arith, his, has.axes)) (omega (arith, steps, has.axes)) has one restored part stands cut

  pub sinks_hold : SinksHoldSlices sieve
  sinks_hold wanted None contents cut = tt
  sinks_hold wanted (Some file) None cut = tt
  sinks_hold wanted (Some file) (Some part) cut = λ restored stands. slices wanted file restored part stands cut
