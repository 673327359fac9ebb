-- The HDU that is wanted: it is found where it begins, its checks refuse nothing, and the second look finds it.
use Rattle.std.proofs.Common.{◌≡◌, ℕ, ◌&&◌, ◌||◌, Bool, true, false, List, [], ◌∷◌, ◌++◌, length, All, Option, Some, None, Result, Ok, Err, if◌then◌else◌, refl, sym, ap, ◌∙◌, subst}
use Rattle.std.specs.Prelude.{not, pos, unwrap_or, codes}
use Rattle.std.specs.Result.{result_map_both}
use Rattle.std.proofs.lemmas.List.Elements.{All-head, All-tail}
use Rattle.fz_base.specs.Refusal.{first_refusal}
use Rattle.fz_base.specs.declared.fault.Fault.{Fault}
use Rattle.fz_base.specs.declared.kind.Kind.TheVariants.{BadCard, MisplacedPrimary}
use Rattle.fz_block.specs.Checks.{Judge, hdu_at, unless_refused, walk_of}
use Rattle.fz_block.specs.Hdus.{cards_of}
use Rattle.fz_block.specs.Walk.{hdu_of, is_stop, stops}
use Rattle.fz_block.specs.declared.header.Header.{Header}
use Rattle.fz_card.specs.Reading.{is_text, logical_of, text_of}
use Rattle.fz_table.specs.Tables.{table_checks}
use Rattle.fz_checks.specs.JobChecks.{image_checks, is_after_empty, missing_hdu, packed_card_checks}
use Rattle.fz_checks.specs.Judges.{is_wanted}
use Rattle.fz_head.specs.PackedChecks.{at_word, bitpix_checks, codec_checks, has_word, line_list_check, must_be, packed_checks, parameter_checks, row_check, scaling_check, shape_checks, sort_checks}
use Rattle.fz_head.specs.PackedPlan.{word_in}
use Rattle.fz_files.specs.Restored.{header_in}
use Rattle.fz_job.specs.SurveyLaws.{AmendLooksOver}
use Rattle.fz_job.specs.Judges.{judge_of}
use Rattle.fz_job.specs.Surveys.{amend_surveyed, stop_in, stop_or, stopped_at, survey_of}
use Rattle.fz_job.specs.declared.checks.JobChecks.TheVariants.{Amend}
use Rattle.fz_job.specs.declared.survey.Survey.{Survey}
use Rattle.fz_laws.specs.PatchChecks.{find_checks, find_hdu_checks, find_judge, last_or, wanted_among, wanted_image}

-- ---- checks of two lists, of which none refuses

passed : (xs ys : List (Bool × Fault)) → first_refusal xs ≡ None → first_refusal (xs ++ ys) ≡ first_refusal ys
passed [] ys none = refl
passed ((true, fault) ∷ xs) ys none = absurd cc
passed ((false, fault) ∷ xs) ys none = passed xs ys none

pub front_passed : (xs ys : List (Bool × Fault)) → first_refusal (xs ++ ys) ≡ None → first_refusal xs ≡ None
front_passed [] ys none = refl
front_passed ((true, fault) ∷ xs) ys none = none
front_passed ((false, fault) ∷ xs) ys none = front_passed xs ys none

back_passed : (xs ys : List (Bool × Fault)) → first_refusal (xs ++ ys) ≡ None → first_refusal ys ≡ None
back_passed xs ys none = sym (passed xs ys (front_passed xs ys none)) ∙ none

-- other checks in the place of some, which refuse nothing if these do not
behind : (xs ys zs : List (Bool × Fault)) → (first_refusal ys ≡ None → first_refusal zs ≡ None) → first_refusal (xs ++ ys) ≡ None → first_refusal (xs ++ zs) ≡ None
behind xs ys zs weaker none = passed xs zs (front_passed xs ys none) ∙ weaker (back_passed xs ys none)

before : (xs ys zs : List (Bool × Fault)) → (first_refusal xs ≡ None → first_refusal ys ≡ None) → first_refusal (xs ++ zs) ≡ None → first_refusal (ys ++ zs) ≡ None
before xs ys zs weaker none = passed ys zs (weaker (front_passed xs zs none)) ∙ back_passed xs zs none

-- ---- where a packed primary may stand is one check, which refuses nothing after an empty primary (FITS 4.0, section 10.1.1)

never : (stands : Bool) (x : Fault) → first_refusal ((stands && not true, x) ∷ []) ≡ None
never true x = refl
never false x = refl

third : (a b : Bool × Fault) (stands after : Bool) (x : Fault) (d e : Bool × Fault) → first_refusal (a ∷ b ∷ (stands && not after, x) ∷ d ∷ e ∷ []) ≡ None →
    first_refusal (a ∷ b ∷ (stands && not true, x) ∷ d ∷ e ∷ []) ≡ None
third a b stands after x d e none =
    behind (a ∷ b ∷ []) ((stands && not after, x) ∷ d ∷ e ∷ []) ((stands && not true, x) ∷ d ∷ e ∷ [])
    (before ((stands && not after, x) ∷ []) ((stands && not true, x) ∷ []) (d ∷ e ∷ []) (λ is. never stands x)) none

module _ (k : ℕ) (header : List ℕ) (after_empty : Bool) where
  sorts : first_refusal (sort_checks k (cards_of header) after_empty) ≡ None → first_refusal (sort_checks k (cards_of header) true) ≡ None
  sorts none =
      let cards : List (List ℕ) = cards_of header in
      third (has_word (codes "ZSIMPLE") cards && not (unwrap_or (logical_of (word_in (codes "ZSIMPLE") cards)) false), at_word k (codes "ZSIMPLE") cards BadCard)
      (has_word (codes "ZTENSION") cards && not (is_text (codes "IMAGE") (text_of (word_in (codes "ZTENSION") cards))), at_word k (codes "ZTENSION") cards BadCard)
      (has_word (codes "ZSIMPLE") cards) after_empty (at_word k (codes "ZSIMPLE") cards MisplacedPrimary)
      (must_be k cards (codes "ZPCOUNT") (pos 0)) (must_be k cards (codes "ZGCOUNT") (pos 1)) none

  plans : first_refusal (packed_checks k header after_empty) ≡ None → first_refusal (packed_checks k header true) ≡ None
  plans none =
      let cards : List (List ℕ) = cards_of header in
      let rest : List (Bool × Fault) = line_list_check k cards ∷ row_check k header ∷ [] in
      behind (scaling_check k cards ∷ []) (codec_checks k cards ++ (bitpix_checks k cards ++ (shape_checks k cards ++ (parameter_checks k cards ++ (sort_checks k cards after_empty ++ rest))))) _
      (behind (codec_checks k cards) (bitpix_checks k cards ++ (shape_checks k cards ++ (parameter_checks k cards ++ (sort_checks k cards after_empty ++ rest)))) _
      (behind (bitpix_checks k cards) (shape_checks k cards ++ (parameter_checks k cards ++ (sort_checks k cards after_empty ++ rest))) _
      (behind (shape_checks k cards) (parameter_checks k cards ++ (sort_checks k cards after_empty ++ rest)) _
      (behind (parameter_checks k cards) (sort_checks k cards after_empty ++ rest) (sort_checks k cards true ++ rest)
      (before (sort_checks k cards after_empty) (sort_checks k cards true) rest sorts))))) none

pub passes_behind : (h : Header) (header : List ℕ) (after_empty : Bool) → first_refusal (find_checks h header after_empty) ≡ None → first_refusal (find_checks h header true) ≡ None
passes_behind h header after_empty none =
    behind (packed_card_checks h header) (image_checks h header after_empty) (image_checks h header true)
    (behind (table_checks header h) (packed_checks h.hdu header after_empty) (packed_checks h.hdu header true) (plans h.hdu header after_empty)) none

-- ---- the walk that finds it

-- a walk finds its headers where they begin
abbrev pub WalkFinds : Type 0
WalkFinds = (judge : Judge) (most : ℕ) (file : List ℕ) (hs : List Header) → walk_of judge most file ≡ Ok hs → All (λ h. hdu_at h.hdu h.start file ≡ Ok h) hs

-- and stops at no HDU but the last
abbrev pub WalkStops : Type 0
WalkStops = (judge : Judge) (most : ℕ) (file : List ℕ) (hs : List Header) (h : Header) → walk_of judge most file ≡ Ok (hs ++ h ∷ []) → stops judge hs ≡ false

last_split : (fault : Fault) (hs : List Header) (h : Header) → last_or fault hs ≡ Ok h → (first : List Header) × (hs ≡ first ++ h ∷ [])
last_split fault [] h e = absurd cc
last_split fault (k ∷ []) h e = let same : k ≡ h = cc in ([], ap (λ x. x ∷ []) same)
last_split fault (k ∷ j ∷ hs) h e = let rest = last_split fault (j ∷ hs) h e in (k ∷ rest.0, ap (λ l. k ∷ l) rest.1)

both_false : (a b : Bool) → (a || b) ≡ false → (a ≡ false) × (b ≡ false)
both_false true b e = absurd cc
both_false false b e = (refl, e)

-- where it stops after HDUs at which it does not
last_stop : (judge : Judge) (first : List Header) (h : Header) → stops judge first ≡ false → stops judge (first ++ h ∷ []) ≡ is_stop (judge h)
last_stop judge [] h none = by_last (is_stop (judge h))
  where
    by_last : (b : Bool) → (b || false) ≡ b
    by_last true = refl
    by_last false = refl
last_stop judge (k ∷ first) h none =
    let both = both_false (is_stop (judge k)) (stops judge first) none in
    ap (λ b. b || stops judge (first ++ h ∷ [])) both.0 ∙ last_stop judge first h both.1

at_last : (judge : Judge) (first : List Header) (h : Header) → stops judge first ≡ false → stopped_at judge (first ++ h ∷ []) ≡ (if is_stop (judge h) then Some h else None)
at_last judge [] h none = refl
at_last judge (k ∷ first) h none =
    let both = both_false (is_stop (judge k)) (stops judge first) none in
    ap (λ b. if b then Some k else stopped_at judge (first ++ h ∷ [])) both.0 ∙ at_last judge first h both.1

last_is : (fault : Fault) (first : List Header) (h : Header) → last_or fault (first ++ h ∷ []) ≡ Ok h
last_is fault [] h = refl
last_is fault (k ∷ []) h = refl
last_is fault (k ∷ j ∷ first) h = last_is fault (j ∷ first) h

none_at_stop : (wanted : Bool) (found : Option Fault) → is_stop (if wanted then unless_refused true found else Ok false) ≡ true → found ≡ None
none_at_stop true None e = refl
none_at_stop true (Some x) e = absurd cc
none_at_stop false found e = absurd cc

last_of_all : (P : Header → Type 0) (first : List Header) (h : Header) → All P (first ++ h ∷ []) → P h
last_of_all P [] h all = All-head P h [] all
last_of_all P (k ∷ first) h all = last_of_all P first h (All-tail P k (first ++ h ∷ []) all)

-- it is found where it begins, and its checks refuse nothing
pub record IsWantedHdu (file : List ℕ) (h : Header) : Type 0 where
  pub found : hdu_at h.hdu h.start file ≡ Ok h
  pub passes : first_refusal (find_checks h (header_in file h) true) ≡ None

module _ (walks : WalkFinds) (last : WalkStops) (wanted : Option ℕ) (file : List ℕ) where
  found_at : (first : List Header) (h : Header) → walk_of (find_judge wanted file) 65536 file ≡ Ok (first ++ h ∷ []) → stops (find_judge wanted file) (first ++ h ∷ []) ≡ true → IsWantedHdu file h
  found_at first h walk stop =
      let here : is_stop (find_judge wanted file h) ≡ true = sym (last_stop (find_judge wanted file) first h (last (find_judge wanted file) 65536 file first h walk)) ∙ stop in
      record {
        found = last_of_all (λ (k : Header). hdu_at k.hdu k.start file ≡ Ok k) first h (walks (find_judge wanted file) 65536 file (first ++ h ∷ []) walk);
        passes = passes_behind h (header_in file h) (is_after_empty file h) (none_at_stop (is_wanted wanted (hdu_of file h).header h) (first_refusal (find_hdu_checks file h)) here);
      }

  pub wanted_hdu : (h : Header) → wanted_image wanted file ≡ Ok h → IsWantedHdu file h
  wanted_hdu h e = by_walk (walk_of (find_judge wanted file) 65536 file) refl e
    where
      by_stop : (hs : List Header) (stop : Bool) → walk_of (find_judge wanted file) 65536 file ≡ Ok hs → stops (find_judge wanted file) hs ≡ stop →
          (if stop then last_or (missing_hdu wanted (length hs) (length file)) hs else Err (missing_hdu wanted (length hs) (length file))) ≡ Ok h → IsWantedHdu file h
      by_stop hs false walk stop is = absurd cc
      by_stop hs true walk stop is =
          let split = last_split (missing_hdu wanted (length hs) (length file)) hs h is in
          found_at split.0 h (walk ∙ ap Ok split.1) (sym (ap (stops (find_judge wanted file)) split.1) ∙ stop)

      by_walk : (r : Result (List Header) Fault) → walk_of (find_judge wanted file) 65536 file ≡ r → wanted_among wanted file r ≡ Ok h → IsWantedHdu file h
      by_walk (Err x) walk is = absurd cc
      by_walk (Ok hs) walk is = by_stop hs (stops (find_judge wanted file) hs) walk refl is

  -- ---- the second look

  stop_is : (first : List Header) (h : Header) (s : Survey) → s.hdus ≡ length (first ++ h ∷ []) → stops (find_judge wanted file) first ≡ false →
      stop_or wanted file s (stopped_at (find_judge wanted file) (first ++ h ∷ [])) ≡ wanted_among wanted file (Ok (first ++ h ∷ []))
  stop_is first h s count none =
      let judge : Judge = find_judge wanted file in
      let missing : Fault = missing_hdu wanted (length (first ++ h ∷ [])) (length file) in
      ap (stop_or wanted file s) (at_last judge first h none)
      ∙ by_last (is_stop (judge h))
      ∙ (λ j. if sym (last_stop judge first h none) j then sym (last_is missing first h) j else Err missing)
    where
      by_last : (b : Bool) → stop_or wanted file s (if b then Some h else None) ≡ (if b then Ok h else Err (missing_hdu wanted (length (first ++ h ∷ [])) (length file)))
      by_last true = refl
      by_last false = ap (λ n. Err (missing_hdu wanted n (length file))) count

  snoc_of : (k : Header) (hs : List Header) → (first : List Header) × (h : Header) × (k ∷ hs ≡ first ++ h ∷ [])
  snoc_of k [] = ([], k, refl)
  snoc_of k (j ∷ hs) = let rest = snoc_of j hs in (k ∷ rest.0, rest.1, ap (λ l. k ∷ l) rest.2)

  pub stopped_is : (hs : List Header) (s : Survey) → walk_of (find_judge wanted file) 65536 file ≡ Ok hs → s.hdus ≡ length hs →
      stop_or wanted file s (stopped_at (find_judge wanted file) hs) ≡ wanted_among wanted file (Ok hs)
  stopped_is [] s walk count = ap (λ n. Err (missing_hdu wanted n (length file))) count
  stopped_is (k ∷ hs) s walk count =
      let split = snoc_of k hs in
      let first : List Header = split.0 in
      let h : Header = split.1 in
      let walk' : walk_of (find_judge wanted file) 65536 file ≡ Ok (first ++ h ∷ []) = walk ∙ ap Ok split.2 in
      subst (λ (l : List Header). stop_or wanted file s (stopped_at (find_judge wanted file) l) ≡ wanted_among wanted file (Ok l)) (sym split.2)
      (stop_is first h s (count ∙ ap length split.2) (last (find_judge wanted file) 65536 file first h walk'))

  pub survey_finds : AmendLooksOver → amend_surveyed wanted file ≡ wanted_image wanted file
  unfolding judge_of
  survey_finds looks = ap (stop_in wanted file) ((looks wanted).learnt file) ∙ by_walk (walk_of (find_judge wanted file) 65536 file) refl
    where
      by_walk : (r : Result (List Header) Fault) → walk_of (find_judge wanted file) 65536 file ≡ r → stop_in wanted file (result_map_both (survey_of (Amend wanted) file) (λ x. x) r) ≡ wanted_among wanted file r
      by_walk (Err x) walk = refl
      by_walk (Ok hs) walk = stopped_is hs (survey_of (Amend wanted) file hs) walk refl
