-- The walk so far, where the source tells its bytes, and what one more HDU makes of it.
use Rattle.std.proofs.Common.{◌≡◌, ◌≢◌, ℕ, zero, suc, ◌+◌, ◌<◌, ◌≤◌, ◌==◌, max, Bool, true, false, List, [], ◌∷◌, ◌++◌, length, IfSome, refl, sym, ap, ◌∙◌, subst, arith}
use Rattle.std.specs.Prelude.{◌||◌, if◌then◌else◌, Option, Some, None, Result, Ok, Err}
use Rattle.std.specs.Result.{result_map_both}
use Rattle.fz_base.specs.Counts.{Tally}
use Rattle.fz_base.specs.Refusal.{refusal}
use Rattle.fz_base.specs.Source.{HoldsLength, LogsOnly}
use Rattle.fz_base.specs.Stop.{IsDefined, StoppedTaking}
use Rattle.fz_base.specs.Takings.{PastFirstLaw, PastSecondLaw, TellsFirstPast, first_past, highest}
use Rattle.fz_base.specs.declared.fault.Fault.{Fault}
use Rattle.fz_base.specs.declared.fault.Place.TheVariants.{Byte}
use Rattle.fz_base.specs.declared.kind.Kind.TheVariants.{Limit}
use Rattle.fz_base.specs.declared.failure.Stop.{Stop}
use Rattle.fz_base.specs.declared.failure.Stop.TheVariants.{Refused, ReadFault, WriteFault, OverLimit, NoMemory}
use Rattle.fz_job.proofs.Places.{logs_none, logs_both, logs_wider}
use Rattle.std.proofs.lemmas.List.Elements.{Contains-append_left, Contains-append_right}
use Rattle.fz_block.specs.Checks.{hdu_at, header_blocks_of, walk_from}
use Rattle.std.proofs.lemmas.Bool.Decides.{nat_tests}
use Rattle.fz_block.specs.Hdus.{size_at}
use Rattle.fz_block.specs.Header.{next_start_of}
use Rattle.fz_block.specs.Takings.{for_those_after, header_taking, walk_takings}
use Rattle.fz_block.specs.declared.header.Header.{Header}
use Rattle.fz_job.specs.Judges.{judge_of, most_hdus}
use Rattle.fz_job.specs.Looks.{joined, looked}
use Rattle.fz_job.specs.SurveyReads.{IsWithinOne}
use Rattle.fz_job.specs.Surveys.{headers_seen, hdu_places, places_from, headers_taken, survey_of, survey_places, surveyed}
use Rattle.fz_job.specs.declared.checks.JobChecks.{JobChecks}
use Rattle.fz_job.specs.declared.look.Looked.{Looked}
use Rattle.fz_job.specs.declared.survey.Survey.{Survey}
use Rattle.fz_job.proofs.Outcomes.{AreParts, parts_of, none_after_refusal, none_after_last, those_after, walk_refused, walk_last, walk_on, with_those, with_none, with_next, survey_last, highest_both}

-- what a call keeps: its limit, what was live, the peak and the log before it
pub record Begun : Type 0 where
  pub checks : JobChecks
  pub limit : ℕ
  pub live : ℕ
  pub peak : ℕ
  pub ranges : Option (List (ℕ × ℕ))

-- the walk is at HDU k, and this was learnt of those before
pub record IsAt (b : Begun) (k start peak : ℕ) (ranges : Option (List (ℕ × ℕ))) (seen : Survey) (g : List ℕ) : Type 0 where
  pub before : List Header
  pub left : ℕ
  pub count : k + left ≡ most_hdus b.checks
  pub learnt : survey_of b.checks g before ≡ seen
  pub walk : headers_seen b.checks g ≡ with_those before (walk_from (judge_of b.checks g) left k start g)
  pub past : first_past b.limit (headers_taken b.checks b.live g) ≡ first_past b.limit (walk_takings (judge_of b.checks g) b.live left k start g)
  pub peaks : max peak (highest (walk_takings (judge_of b.checks g) b.live left k start g)) ≡ max b.peak (highest (headers_taken b.checks b.live g))
  pub places : (r : ℕ × ℕ) → IsWithinOne (places_from b.checks left k start g) r → IsWithinOne (survey_places b.checks g) r
  pub logs : LogsOnly (IsWithinOne (survey_places b.checks g)) b.ranges ranges

abbrev pub nothing_seen : Survey
nothing_seen = record { hdus = 0; header_len = 0; tile = 0; packed_primary = None; stopped = None }

at_first : (b : Begun) (g : List ℕ) → IsAt b 0 0 b.peak b.ranges nothing_seen g
at_first b g = record {
  before = [];
  left = most_hdus b.checks;
  count = let all : 0 + most_hdus b.checks ≡ most_hdus b.checks = omega arith in all;
  learnt = refl;
  walk = with_none (headers_seen b.checks g);
  past = refl;
  peaks = refl;
  places = λ r is. is;
  logs = logs_none (IsWithinOne (survey_places b.checks g)) b.ranges;
}

pub walk_begins : (held : Option (List ℕ)) (b : Begun) → IfSome held (IsAt b 0 0 b.peak b.ranges nothing_seen)
walk_begins None b = tt
walk_begins (Some g) b = at_first b g

-- one HDU and those after it
abbrev rest_takings : Begun → ℕ → ℕ → List ℕ → Header → List (ℕ × ℕ)
rest_takings b m k g h = walk_takings (judge_of b.checks g) b.live m (suc k) (next_start_of h) g

abbrev rest_places : Begun → ℕ → ℕ → List ℕ → Header → List (ℕ × ℕ)
rest_places b m k g h = places_from b.checks m (suc k) (next_start_of h) g

abbrev own_taking : Begun → ℕ → ℕ → List ℕ → List (ℕ × ℕ)
own_taking b k start g = header_taking b.live (header_blocks_of k start g)

takings_apart : (b : Begun) (m k start : ℕ) (g : List ℕ) → walk_takings (judge_of b.checks g) b.live (suc m) k start g ≡ own_taking b k start g ++ for_those_after g (judge_of b.checks g) (rest_takings b m k g) (hdu_at k start g)
unfolding walk_takings
takings_apart b m k start g = refl

places_apart : (b : Begun) (m k start : ℕ) (g : List ℕ) → places_from b.checks (suc m) k start g ≡ hdu_places b.checks k start g ++ for_those_after g (judge_of b.checks g) (rest_places b m k g) (hdu_at k start g)
unfolding places_from
places_apart b m k start g = refl

-- there is a place for HDU k
one_left : (b : Begun) (k left : ℕ) → k + left ≡ most_hdus b.checks → k < most_hdus b.checks → (m : ℕ) × (left ≡ suc m)
one_left b k zero count few = absurd (omega (arith, count, few))
one_left b k (suc m) count few = (m, refl)

none_left : (b : Begun) (k left : ℕ) → k + left ≡ most_hdus b.checks → k ≡ most_hdus b.checks → left ≡ 0
none_left b k left count all = omega (arith, count, all)

module _ (b : Begun) (k start peak : ℕ) (ranges : Option (List (ℕ × ℕ))) (seen : Survey) where
  -- what was read and taken for one more
  logs_more : (g : List ℕ) (new : Option (List (ℕ × ℕ))) → IsAt b k start peak ranges seen g → k < most_hdus b.checks → LogsOnly (IsWithinOne (hdu_places b.checks k start g)) ranges new →
      LogsOnly (IsWithinOne (survey_places b.checks g)) b.ranges new
  logs_more g new at few logs =
      let more = one_left b k at.left at.count few in
      let own : (r : ℕ × ℕ) → IsWithinOne (hdu_places b.checks k start g) r → IsWithinOne (survey_places b.checks g) r =
      λ r is. at.places r (subst (λ (ps : List (ℕ × ℕ)). IsWithinOne ps r) (sym (ap (λ n. places_from b.checks n k start g) more.1 ∙ places_apart b more.0 k start g))
      (is.0, Contains-append_left (hdu_places b.checks k start g) (for_those_after g (judge_of b.checks g) (rest_places b more.0 k g) (hdu_at k start g)) is.0 is.1, is.2)) in
      logs_both (IsWithinOne (survey_places b.checks g)) b.ranges ranges new at.logs
      (logs_wider (IsWithinOne (hdu_places b.checks k start g)) (IsWithinOne (survey_places b.checks g)) ranges new own logs)

  pub touched_more : (held : Option (List ℕ)) (new : Option (List (ℕ × ℕ))) → IfSome held (IsAt b k start peak ranges seen) → k < most_hdus b.checks →
      IfSome held (λ g. LogsOnly (IsWithinOne (hdu_places b.checks k start g)) ranges new) → IfSome held (λ g. LogsOnly (IsWithinOne (survey_places b.checks g)) b.ranges new)
  touched_more None new at few logs = tt
  touched_more (Some g) new at few logs = logs_more g new at few logs

  pub peak_more : (held : Option (List ℕ)) (new : ℕ) → IfSome held (IsAt b k start peak ranges seen) → k < most_hdus b.checks →
      IfSome held (λ g. new ≤ max peak (highest (own_taking b k start g))) → IfSome held (λ g. new ≤ max b.peak (highest (headers_taken b.checks b.live g)))
  peak_more None new at few low = tt
  peak_more (Some g) new at few low =
      let more = one_left b k at.left at.count few in
      let apart = ap highest (ap (λ n. walk_takings (judge_of b.checks g) b.live n k start g) more.1 ∙ takings_apart b more.0 k start g)
      ∙ highest_both (own_taking b k start g) (for_those_after g (judge_of b.checks g) (rest_takings b more.0 k g) (hdu_at k start g)) in
      omega (arith, at.peaks, apart, low)

  -- the HDU stops the walk
  walk_is : (g : List ℕ) (r : Result (List Header) Fault) (at : IsAt b k start peak ranges seen g) → walk_from (judge_of b.checks g) at.left k start g ≡ r →
      surveyed b.checks g ≡ result_map_both (survey_of b.checks g) (λ x. x) (with_those at.before r)
  walk_is g r at e = ap (result_map_both (survey_of b.checks g) (λ x. x)) (at.walk ∙ ap (with_those at.before) e)

  pub refused_here : (g : List ℕ) (x : Fault) → IsAt b k start peak ranges seen g → k < most_hdus b.checks → looked b.checks k start g ≡ Err x → surveyed b.checks g ≡ Err x
  refused_here g x at few e =
      let more = one_left b k at.left at.count few in
      walk_is g (Err x) at (ap (λ n. walk_from (judge_of b.checks g) n k start g) more.1 ∙ walk_refused b.checks k start g more.0 x e)

  pub exact_stops : (held : Option (List ℕ)) (stop : Stop) → IfSome held (IsAt b k start peak ranges seen) → k < most_hdus b.checks → IfSome held (λ g. IsDefined {X = Looked} (looked b.checks k start g) (Err stop)) →
      IfSome held (λ g. IsDefined {X = Survey} (surveyed b.checks g) (Err stop))
  exact_stops None stop at few is = tt
  exact_stops (Some g) (Refused x) at few is = refused_here g x at few is
  exact_stops (Some g) ReadFault at few is = tt
  exact_stops (Some g) WriteFault at few is = tt
  exact_stops (Some g) (OverLimit live asked limit) at few is = tt
  exact_stops (Some g) NoMemory at few is = tt

  -- with nothing after it, its own taking is the last one
  past_here : PastSecondLaw → (g : List ℕ) (at : IsAt b k start peak ranges seen g) (m : ℕ) → at.left ≡ suc m → for_those_after g (judge_of b.checks g) (rest_takings b m k g) (hdu_at k start g) ≡ [] →
      first_past b.limit (own_taking b k start g) ≡ None → first_past b.limit (headers_taken b.checks b.live g) ≡ None
  past_here past_second g at m one none fits =
      at.past ∙ ap (λ n. first_past b.limit (walk_takings (judge_of b.checks g) b.live n k start g)) one ∙ ap (first_past b.limit) (takings_apart b m k start g)
      ∙ past_second b.limit (own_taking b k start g) (for_those_after g (judge_of b.checks g) (rest_takings b m k g) (hdu_at k start g)) fits
      ∙ ap (first_past b.limit) none

  pub past_stops : PastFirstLaw → PastSecondLaw → (held : Option (List ℕ)) (stop : Stop) (before now : Tally) → IfSome held (IsAt b k start peak ranges seen) → k < most_hdus b.checks → StoppedTaking before now b.limit stop →
      IfSome held (λ g. IsDefined {X = Looked} (looked b.checks k start g) (Err stop)) → IfSome held (λ g. TellsFirstPast {X = Looked} b.limit (own_taking b k start g) (Err stop)) →
      IfSome held (λ g. TellsFirstPast {X = Survey} b.limit (headers_taken b.checks b.live g) (Err stop))
  past_stops past_first past_second None stop before now at few cause is told = tt
  past_stops past_first past_second (Some g) (Refused x) before now at few cause is told =
      let more = one_left b k at.left at.count few in
      past_here past_second g at more.0 more.1 (none_after_refusal b.checks k start g (rest_takings b more.0 k g) x is) told
  past_stops past_first past_second (Some g) ReadFault before now at few cause is told = tt
  past_stops past_first past_second (Some g) WriteFault before now at few cause is told = absurd cause
  past_stops past_first past_second (Some g) (OverLimit live asked limit) before now at few cause is told =
      let more = one_left b k at.left at.count few in
      at.past ∙ ap (λ n. first_past b.limit (walk_takings (judge_of b.checks g) b.live n k start g)) more.1 ∙ ap (first_past b.limit) (takings_apart b more.0 k start g)
      ∙ past_first b.limit (live, asked) (own_taking b k start g) (for_those_after g (judge_of b.checks g) (rest_takings b more.0 k g) (hdu_at k start g)) told
  past_stops past_first past_second (Some g) NoMemory before now at few cause is told = tt

  -- the HDU is the last one
  joined_here : (g : List ℕ) (x : Looked) (at : IsAt b k start peak ranges seen g) → seen.stopped ≡ None → AreParts b.checks k start g x → survey_of b.checks g (at.before ++ x.header ∷ []) ≡ joined seen x
  joined_here g x at going parts =
      survey_last b.checks g at.before x parts.tile parts.primary parts.says (ap (λ (s : Survey). s.stopped) at.learnt ∙ going) ∙ ap (λ (s : Survey). joined s x) at.learnt

  pub exact_ends : (held : Option (List ℕ)) (len : ℕ) (x : Looked) → HoldsLength held len → IfSome held (IsAt b k start peak ranges seen) → k < most_hdus b.checks → seen.stopped ≡ None →
      IfSome held (λ g. looked b.checks k start g ≡ Ok x) → (x.look.stop || next_start_of x.header == len) ≡ true → IfSome held (λ g. surveyed b.checks g ≡ Ok (joined seen x))
  exact_ends None len x told at few going is last = tt
  exact_ends (Some g) len x told at few going is last =
      let more = one_left b k at.left at.count few in
      let parts = parts_of b.checks k start g x is in
      let ended : (x.look.stop || next_start_of x.header == length g) ≡ true = subst (λ (n : ℕ). (x.look.stop || next_start_of x.header == n) ≡ true) (sym told) last in
      walk_is g (Ok (x.header ∷ [])) at (ap (λ n. walk_from (judge_of b.checks g) n k start g) more.1 ∙ walk_last b.checks k start g more.0 x parts ended)
      ∙ ap Ok (joined_here g x at going parts)

  pub past_ends : PastSecondLaw → (held : Option (List ℕ)) (len : ℕ) (x : Looked) → HoldsLength held len → IfSome held (IsAt b k start peak ranges seen) → k < most_hdus b.checks →
      IfSome held (λ g. looked b.checks k start g ≡ Ok x) → (x.look.stop || next_start_of x.header == len) ≡ true → IfSome held (λ g. first_past b.limit (own_taking b k start g) ≡ None) →
      IfSome held (λ g. first_past b.limit (headers_taken b.checks b.live g) ≡ None)
  past_ends past_second None len x told at few is last fits = tt
  past_ends past_second (Some g) len x told at few is last fits =
      let more = one_left b k at.left at.count few in
      let parts = parts_of b.checks k start g x is in
      let ended : (x.look.stop || next_start_of x.header == length g) ≡ true = subst (λ (n : ℕ). (x.look.stop || next_start_of x.header == n) ≡ true) (sym told) last in
      past_here past_second g at more.0 more.1 (none_after_last b.checks k start g (rest_takings b more.0 k g) x parts ended) fits

  pub peak_ends : (held : Option (List ℕ)) (len : ℕ) (x : Looked) (new : ℕ) → HoldsLength held len → IfSome held (IsAt b k start peak ranges seen) → k < most_hdus b.checks →
      IfSome held (λ g. looked b.checks k start g ≡ Ok x) → (x.look.stop || next_start_of x.header == len) ≡ true → IfSome held (λ g. new ≡ max peak (highest (own_taking b k start g))) →
      IfSome held (λ g. new ≡ max b.peak (highest (headers_taken b.checks b.live g)))
  peak_ends None len x new told at few is last reached = tt
  peak_ends (Some g) len x new told at few is last reached =
      let more = one_left b k at.left at.count few in
      let parts = parts_of b.checks k start g x is in
      let ended : (x.look.stop || next_start_of x.header == length g) ≡ true = subst (λ (n : ℕ). (x.look.stop || next_start_of x.header == n) ≡ true) (sym told) last in
      let behind : List (ℕ × ℕ) = for_those_after g (judge_of b.checks g) (rest_takings b more.0 k g) (hdu_at k start g) in
      let none : highest behind ≡ 0 = ap highest (none_after_last b.checks k start g (rest_takings b more.0 k g) x parts ended) in
      let apart : highest (walk_takings (judge_of b.checks g) b.live at.left k start g) ≡ max (highest (own_taking b k start g)) (highest behind) =
      ap highest (ap (λ n. walk_takings (judge_of b.checks g) b.live n k start g) more.1 ∙ takings_apart b more.0 k start g) ∙ highest_both (own_taking b k start g) behind in
      omega (arith, at.peaks, apart, none, reached)

  -- others follow
  on_here : PastSecondLaw → (g : List ℕ) (x : Looked) (new : ℕ) (log : Option (List (ℕ × ℕ))) (m : ℕ) (at : IsAt b k start peak ranges seen g) → at.left ≡ suc m → k < most_hdus b.checks → seen.stopped ≡ None →
      AreParts b.checks k start g x → (x.look.stop || next_start_of x.header == length g) ≡ false → first_past b.limit (own_taking b k start g) ≡ None → new ≡ max peak (highest (own_taking b k start g)) →
      LogsOnly (IsWithinOne (hdu_places b.checks k start g)) ranges log → IsAt b (k + 1) (next_start_of x.header) new log (joined seen x) g
  on_here past_second g x new log m at one few going parts on fits reached logs =
      let next : suc k ≡ k + 1 = omega arith in
      let after = those_after b.checks k start g (rest_takings b m k g) x parts on in
      let takings : walk_takings (judge_of b.checks g) b.live at.left k start g ≡ own_taking b k start g ++ walk_takings (judge_of b.checks g) b.live m (k + 1) (next_start_of x.header) g =
      ap (λ n. walk_takings (judge_of b.checks g) b.live n k start g) one ∙ takings_apart b m k start g ∙ ap (λ l. own_taking b k start g ++ l) (after ∙ ap (λ n. walk_takings (judge_of b.checks g) b.live m n (next_start_of x.header) g) next) in
      let both = ap highest takings ∙ highest_both (own_taking b k start g) (walk_takings (judge_of b.checks g) b.live m (k + 1) (next_start_of x.header) g) in
      let behind : places_from b.checks at.left k start g ≡ hdu_places b.checks k start g ++ places_from b.checks m (k + 1) (next_start_of x.header) g =
      ap (λ n. places_from b.checks n k start g) one ∙ places_apart b m k start g ∙ ap (λ l. hdu_places b.checks k start g ++ l)
      (those_after b.checks k start g (rest_places b m k g) x parts on ∙ ap (λ n. places_from b.checks m n (next_start_of x.header) g) next) in
      record {
        before = at.before ++ x.header ∷ [];
        left = m;
        count = omega (arith, at.count, one);
        learnt = joined_here g x at going parts;
        walk = at.walk ∙ ap (λ n. with_those at.before (walk_from (judge_of b.checks g) n k start g)) one
            ∙ ap (with_those at.before) (walk_on b.checks k start g m x parts on)
            ∙ with_next at.before x.header (walk_from (judge_of b.checks g) m (suc k) (next_start_of x.header) g)
            ∙ ap (λ n. with_those (at.before ++ x.header ∷ []) (walk_from (judge_of b.checks g) m n (next_start_of x.header) g)) next;
        past = at.past ∙ ap (first_past b.limit) takings ∙ past_second b.limit (own_taking b k start g) (walk_takings (judge_of b.checks g) b.live m (k + 1) (next_start_of x.header) g) fits;
        peaks = omega (arith, at.peaks, both, reached);
        places = λ r is. at.places r (subst (λ (ps : List (ℕ × ℕ)). IsWithinOne ps r) (sym behind)
            (is.0, Contains-append_right (hdu_places b.checks k start g) (places_from b.checks m (k + 1) (next_start_of x.header) g) is.0 is.1, is.2));
        logs = logs_more g log at few logs;
      }

  pub walk_next : PastSecondLaw → (held : Option (List ℕ)) (len : ℕ) (x : Looked) (new : ℕ) (log : Option (List (ℕ × ℕ))) → HoldsLength held len → IfSome held (IsAt b k start peak ranges seen) → k < most_hdus b.checks → seen.stopped ≡ None →
      IfSome held (λ g. looked b.checks k start g ≡ Ok x) → (x.look.stop || next_start_of x.header == len) ≡ false → IfSome held (λ g. first_past b.limit (own_taking b k start g) ≡ None) →
      IfSome held (λ g. new ≡ max peak (highest (own_taking b k start g))) → IfSome held (λ g. LogsOnly (IsWithinOne (hdu_places b.checks k start g)) ranges log) →
      IfSome held (IsAt b (k + 1) (next_start_of x.header) new log (joined seen x))
  walk_next past_second None len x new log told at few going is on fits reached logs = tt
  walk_next past_second (Some g) len x new log told at few going is on fits reached logs =
      let more = one_left b k at.left at.count few in
      on_here past_second g x new log more.0 at more.1 few going (parts_of b.checks k start g x is) (subst (λ (n : ℕ). (x.look.stop || next_start_of x.header == n) ≡ false) (sym told) on) fits reached logs

  -- no HDU more may follow
  pub exact_too_long : (held : Option (List ℕ)) → IfSome held (IsAt b k start peak ranges seen) → k ≡ most_hdus b.checks → IfSome held (λ g. surveyed b.checks g ≡ Err (refusal k (Byte start) Limit))
  unfolding walk_from
  exact_too_long None at all = tt
  exact_too_long (Some g) at all =
      walk_is g (Err (refusal k (Byte start) Limit)) at (ap (λ n. walk_from (judge_of b.checks g) n k start g) (none_left b k at.left at.count all))

  pub past_too_long : (held : Option (List ℕ)) → IfSome held (IsAt b k start peak ranges seen) → k ≡ most_hdus b.checks → IfSome held (λ g. first_past b.limit (headers_taken b.checks b.live g) ≡ None)
  unfolding walk_takings
  past_too_long None at all = tt
  past_too_long (Some g) at all = at.past ∙ ap (λ n. first_past b.limit (walk_takings (judge_of b.checks g) b.live n k start g)) (none_left b k at.left at.count all)

  pub peak_so_far : (held : Option (List ℕ)) → IfSome held (IsAt b k start peak ranges seen) → IfSome held (λ g. peak ≤ max b.peak (highest (headers_taken b.checks b.live g)))
  peak_so_far None at = tt
  peak_so_far (Some g) at = omega (arith, at.peaks)

  pub touched_so_far : (held : Option (List ℕ)) → IfSome held (IsAt b k start peak ranges seen) → IfSome held (λ g. LogsOnly (IsWithinOne (survey_places b.checks g)) b.ranges ranges)
  touched_so_far None at = tt
  touched_so_far (Some g) at = at.logs

-- a fact at the loop's source and meter is one at those of the call
pub moved : (P : List ℕ → ℕ → ℕ → Type 0) (held held' : Option (List ℕ)) (limit limit' live live' : ℕ) → held' ≡ held → limit' ≡ limit → live' ≡ live → IfSome held' (λ f. P f limit' live') → IfSome held (λ f. P f limit live)
moved P held held' limit limit' live live' a b c is =
    subst (λ (h : Option (List ℕ)). IfSome h (λ f. P f limit live)) a (subst (λ (n : ℕ). IfSome held' (λ f. P f n live)) b (subst (λ (n : ℕ). IfSome held' (λ f. P f limit' n)) c is))

-- the primary has no axes
pub empty_first : (held : Option (List ℕ)) → IfSome held (λ g. ◌≡◌ {A = ℕ} 0 1 → false ≡ (size_at g 2 == 0))
empty_first None = tt
empty_first (Some g) = λ e. absurd (omega (arith, e))

pub empty_next : (held : Option (List ℕ)) (k start n : ℕ) → (k ≡ 0 → start ≡ 0) → IfSome held (λ g. k ≡ 0 → start ≡ 0 → n ≡ size_at g 2) → IfSome held (λ g. k + 1 ≡ 1 → (n == 0) ≡ (size_at g 2 == 0))
empty_next None k start n first is = tt
empty_next (Some g) k start n first is = λ e.
    let none : k ≡ 0 = omega (arith, e) in
    ap (λ m. m == 0) (is none (first none))

-- the walk goes on
pub not_at_end : (b : Bool) (n len : ℕ) → (b || n == len) ≡ false → n ≢ len
not_at_end true n len on = absurd cc
not_at_end false n len on = λ e. grind (arith, nat_tests, on, e)

pub not_stopped : (b : Bool) (h : Header) (n len : ℕ) → (b || n == len) ≡ false → (if b then Some h else None) ≡ None
not_stopped true h n len on = absurd cc
not_stopped false h n len on = refl
