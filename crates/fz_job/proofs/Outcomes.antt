-- What one HDU makes of the walk, of its takings and of its places.
use Rattle.std.proofs.Common.{◌≡◌, ℕ, suc, ◌+◌, ◌^◌, ◌<◌, ◌≤◌, ◌==◌, max, IfSome, Bool, true, false, List, [], ◌∷◌, ◌++◌, length, map, refl, sym, ap, ◌∙◌, arith, if◌then◌else◌}
use Rattle.std.specs.Prelude.{◌||◌, Option, Some, None, Result, Ok, Err}
use Rattle.std.specs.Result.{result_map_both}
use Rattle.std.proofs.lemmas.List.{append_assoc, length-append}
use Rattle.fz_base.specs.Takings.{highest}
use Rattle.fz_base.specs.declared.fault.Fault.{Fault}
use Rattle.fz_block.specs.Checks.{Judge, by_judgement, followed_by, hdu_at, judged, walk_from}
use Rattle.fz_block.specs.Header.{next_start_of}
use Rattle.fz_block.specs.Takings.{for_those_after, where_going_on}
use Rattle.fz_block.specs.Walk.{is_stop}
use Rattle.fz_block.specs.declared.header.Header.{Header}
use Rattle.fz_checks.specs.Greatest.{greatest}
use Rattle.fz_job.specs.Judges.{judge_of}
use Rattle.fz_job.specs.Looks.{IsLooked, first_primary, joined, looked, looked_by, seen_as, with_header}
use Rattle.fz_job.specs.Surveys.{header_len, is_primary_table, primary_at, stopped_at, survey_of, tile_pixels}
use Rattle.fz_job.specs.declared.checks.JobChecks.{JobChecks}
use Rattle.fz_job.specs.declared.look.Looked.{Looked}

-- what was learnt of an HDU, part by part
pub record AreParts (checks : JobChecks) (k start : ℕ) (g : List ℕ) (x : Looked) : Type 0 where
  pub at : hdu_at k start g ≡ Ok x.header
  pub says : judge_of checks g x.header ≡ Ok x.look.stop
  pub tile : tile_pixels checks g x.header ≡ x.look.tile
  pub primary : is_primary_table checks g x.header ≡ x.look.primary

module _ (checks : JobChecks) (k start : ℕ) (g : List ℕ) where
  abbrev J : Judge
  J = judge_of checks g

  from_path : (h : Header) (b : Bool) (x : Looked) → hdu_at k start g ≡ Ok h → J h ≡ Ok b → with_header h (seen_as (tile_pixels checks g h) (is_primary_table checks g h) b) ≡ x → AreParts checks k start g x
  from_path h b x at says p = record {
    at = at ∙ ap (λ (y : Looked). Ok y.header) p;
    says = ap (λ (y : Looked). J y.header) (sym p) ∙ (says ∙ ap (λ (y : Looked). Ok y.look.stop) p);
    tile = ap (λ (y : Looked). tile_pixels checks g y.header) (sym p) ∙ ap (λ (y : Looked). y.look.tile) p;
    primary = ap (λ (y : Looked). is_primary_table checks g y.header) (sym p) ∙ ap (λ (y : Looked). y.look.primary) p;
  }

  pub parts_of : (x : Looked) → looked checks k start g ≡ Ok x → AreParts checks k start g x
  parts_of x e = by_header (hdu_at k start g) refl e
    where
      by_judge : (h : Header) (j : Result Bool Fault) → hdu_at k start g ≡ Ok h → J h ≡ j → result_map_both (with_header h) (λ y. y) (result_map_both (seen_as (tile_pixels checks g h) (is_primary_table checks g h)) (λ y. y) j) ≡ Ok x → AreParts checks k start g x
      by_judge h (Ok b) at says p = from_path h b x at says cc
      by_judge h (Err y) at says p = absurd cc

      by_header : (r : Result Header Fault) → hdu_at k start g ≡ r → looked_by checks g r ≡ Ok x → AreParts checks k start g x
      by_header (Ok h) at p = by_judge h (J h) at refl p
      by_header (Err y) at p = absurd cc

  -- the HDU is refused
  refused_after : (rest : Header → List (ℕ × ℕ)) (x : Fault) (r : Result Header Fault) → looked_by checks g r ≡ Err x → for_those_after g J rest r ≡ []
  refused_after rest x (Err y) e = refl
  refused_after rest x (Ok h) e = by_judge (J h) e
    where
      by_judge : (j : Result Bool Fault) → result_map_both (with_header h) (λ y. y) (result_map_both (seen_as (tile_pixels checks g h) (is_primary_table checks g h)) (λ y. y) j) ≡ Err x → where_going_on g h (rest h) j ≡ []
      by_judge (Err y) p = refl
      by_judge (Ok b) p = absurd cc

  pub none_after_refusal : (rest : Header → List (ℕ × ℕ)) (x : Fault) → looked checks k start g ≡ Err x → for_those_after g J rest (hdu_at k start g) ≡ []
  none_after_refusal rest x e = refused_after rest x (hdu_at k start g) e

  refused_walk : (rest : Header → Result (List Header) Fault) (x : Fault) (r : Result Header Fault) → looked_by checks g r ≡ Err x → judged g J rest r ≡ Err x
  refused_walk rest x (Err y) e = cc
  refused_walk rest x (Ok h) e = by_judge (J h) e
    where
      by_judge : (j : Result Bool Fault) → result_map_both (with_header h) (λ y. y) (result_map_both (seen_as (tile_pixels checks g h) (is_primary_table checks g h)) (λ y. y) j) ≡ Err x → by_judgement g h (rest h) j ≡ Err x
      by_judge (Err y) p = cc
      by_judge (Ok b) p = absurd cc

  pub walk_refused : (m : ℕ) (x : Fault) → looked checks k start g ≡ Err x → walk_from J (suc m) k start g ≡ Err x
  unfolding walk_from
  walk_refused m x e = refused_walk (λ h. walk_from J m (suc k) (next_start_of h) g) x (hdu_at k start g) e

  -- it is the last one, or others follow
  ends : (h : Header) (rest : List (ℕ × ℕ)) (b : Bool) → (b || next_start_of h == length g) ≡ true → where_going_on g h rest (Ok b) ≡ []
  ends h rest true t = refl
  ends h rest false t = ap (λ c. if c then [] else rest) t

  goes_on : (h : Header) (rest : List (ℕ × ℕ)) (b : Bool) → (b || next_start_of h == length g) ≡ false → where_going_on g h rest (Ok b) ≡ rest
  goes_on h rest true t = absurd cc
  goes_on h rest false t = ap (λ c. if c then [] else rest) t

  walk_ends : (h : Header) (rest : Result (List Header) Fault) (b : Bool) → (b || next_start_of h == length g) ≡ true → by_judgement g h rest (Ok b) ≡ Ok (h ∷ [])
  walk_ends h rest true t = refl
  walk_ends h rest false t = ap (λ c. if c then Ok (h ∷ []) else followed_by h rest) t

  walk_goes_on : (h : Header) (rest : Result (List Header) Fault) (b : Bool) → (b || next_start_of h == length g) ≡ false → by_judgement g h rest (Ok b) ≡ followed_by h rest
  walk_goes_on h rest true t = absurd cc
  walk_goes_on h rest false t = ap (λ c. if c then Ok (h ∷ []) else followed_by h rest) t

  after_parts : (rest : Header → List (ℕ × ℕ)) (x : Looked) → AreParts checks k start g x → for_those_after g J rest (hdu_at k start g) ≡ where_going_on g x.header (rest x.header) (Ok x.look.stop)
  after_parts rest x parts = ap (for_those_after g J rest) parts.at ∙ ap (where_going_on g x.header (rest x.header)) parts.says

  pub none_after_last : (rest : Header → List (ℕ × ℕ)) (x : Looked) → AreParts checks k start g x → (x.look.stop || next_start_of x.header == length g) ≡ true → for_those_after g J rest (hdu_at k start g) ≡ []
  none_after_last rest x parts t = after_parts rest x parts ∙ ends x.header (rest x.header) x.look.stop t

  pub those_after : (rest : Header → List (ℕ × ℕ)) (x : Looked) → AreParts checks k start g x → (x.look.stop || next_start_of x.header == length g) ≡ false → for_those_after g J rest (hdu_at k start g) ≡ rest x.header
  those_after rest x parts t = after_parts rest x parts ∙ goes_on x.header (rest x.header) x.look.stop t

  judged_parts : (rest : Header → Result (List Header) Fault) (x : Looked) → AreParts checks k start g x → judged g J rest (hdu_at k start g) ≡ by_judgement g x.header (rest x.header) (Ok x.look.stop)
  judged_parts rest x parts = ap (judged g J rest) parts.at ∙ ap (by_judgement g x.header (rest x.header)) parts.says

  pub walk_last : (m : ℕ) (x : Looked) → AreParts checks k start g x → (x.look.stop || next_start_of x.header == length g) ≡ true → walk_from J (suc m) k start g ≡ Ok (x.header ∷ [])
  unfolding walk_from
  walk_last m x parts t =
      judged_parts (λ h. walk_from J m (suc k) (next_start_of h) g) x parts ∙ walk_ends x.header (walk_from J m (suc k) (next_start_of x.header) g) x.look.stop t

  pub walk_on : (m : ℕ) (x : Looked) → AreParts checks k start g x → (x.look.stop || next_start_of x.header == length g) ≡ false →
      walk_from J (suc m) k start g ≡ followed_by x.header (walk_from J m (suc k) (next_start_of x.header) g)
  unfolding walk_from
  walk_on m x parts t =
      judged_parts (λ h. walk_from J m (suc k) (next_start_of h) g) x parts ∙ walk_goes_on x.header (walk_from J m (suc k) (next_start_of x.header) g) x.look.stop t

-- headers before, and those that follow
abbrev pub with_those : List Header → Result (List Header) Fault → Result (List Header) Fault
with_those before (Ok hs) = Ok (before ++ hs)
with_those before (Err x) = Err x

pub with_none : (r : Result (List Header) Fault) → r ≡ with_those [] r
with_none (Ok hs) = refl
with_none (Err x) = refl

pub with_next : (before : List Header) (h : Header) (r : Result (List Header) Fault) → with_those before (followed_by h r) ≡ with_those (before ++ h ∷ []) r
with_next before h (Ok hs) = ap Ok (sym (append_assoc before (h ∷ []) hs))
with_next before h (Err x) = refl

-- what is learnt of one more
greatest_last : (f : Header → ℕ) (before : List Header) (h : Header) → greatest (map f (before ++ h ∷ [])) ≡ max (greatest (map f before)) (f h)
greatest_last f [] h = omega arith
greatest_last f (b ∷ bs) h = let more = greatest_last f bs h in omega (arith, more)

stop_here : (b : Bool) (h : Header) (rest : Option Header) → (if b then Some h else rest) ≡ None → (b ≡ false) × (rest ≡ None)
stop_here true h rest e = absurd cc
stop_here false h rest e = (refl, e)

stopped_last : (judge : Judge) (before : List Header) (h : Header) → stopped_at judge before ≡ None → stopped_at judge (before ++ h ∷ []) ≡ (if is_stop (judge h) then Some h else None)
stopped_last judge [] h none = refl
stopped_last judge (b ∷ bs) h none =
    let parts = stop_here (is_stop (judge b)) b (stopped_at judge bs) none in
    ap (λ c. if c then Some b else stopped_at judge (bs ++ h ∷ [])) parts.0 ∙ stopped_last judge bs h parts.1

primary_last : (is : Header → Bool) (before : List Header) (h : Header) (primary : Bool) → is h ≡ primary → primary_at is (before ++ h ∷ []) ≡ first_primary (primary_at is before) h primary
primary_last is [] h primary e = ap (λ c. if c then Some h.start else None) e
primary_last is (b ∷ bs) h primary e = by_first (primary_last is bs h primary e) (is b)
  where
    by_first : primary_at is (bs ++ h ∷ []) ≡ first_primary (primary_at is bs) h primary → (c : Bool) → (if c then Some b.start else primary_at is (bs ++ h ∷ [])) ≡ first_primary (if c then Some b.start else primary_at is bs) h primary
    by_first later true = refl
    by_first later false = later

pub survey_last : (checks : JobChecks) (g : List ℕ) (before : List Header) (x : Looked) → tile_pixels checks g x.header ≡ x.look.tile → is_primary_table checks g x.header ≡ x.look.primary → judge_of checks g x.header ≡ Ok x.look.stop →
    stopped_at (judge_of checks g) before ≡ None → survey_of checks g (before ++ x.header ∷ []) ≡ joined (survey_of checks g before) x
survey_last checks g before x tile primary says none =
    let count : length (before ++ x.header ∷ []) ≡ length before + 1 = length-append before (x.header ∷ []) in
    let long = greatest_last header_len before x.header in
    let large = greatest_last (tile_pixels checks g) before x.header ∙ ap (λ n. max (greatest (map (tile_pixels checks g) before)) n) tile in
    let stop : stopped_at (judge_of checks g) (before ++ x.header ∷ []) ≡ (if x.look.stop then Some x.header else None) =
    stopped_last (judge_of checks g) before x.header none ∙ ap (λ (r : Result Bool Fault). if is_stop r then Some x.header else None) says in
    let place = primary_last (is_primary_table checks g) before x.header x.look.primary primary in
    λ i. record { hdus = count i; header_len = long i; tile = large i; packed_primary = place i; stopped = stop i }

-- a packed primary begins within the file
pub primary_near : (len : ℕ) (before : Option ℕ) (x : Looked) → IfSome before (λ start. (start < len) × (start ≤ 2 ^ 62)) → IsLooked len x →
    IfSome (first_primary before x.header x.look.primary) (λ start. (start < len) × (start ≤ 2 ^ 62))
primary_near len before x was is = by_before before was
  where
    here : (x.header.start < len) × (x.header.start ≤ 2 ^ 62)
    here = let inside = is.inside in let near = is.near in let some = is.some in (omega (arith, inside, some), omega (arith, near))

    by_new : (b : Bool) → IfSome (if b then Some x.header.start else None) (λ start. (start < len) × (start ≤ 2 ^ 62))
    by_new true = here
    by_new false = tt

    by_before : (o : Option ℕ) → IfSome o (λ start. (start < len) × (start ≤ 2 ^ 62)) → IfSome (first_primary o x.header x.look.primary) (λ start. (start < len) × (start ≤ 2 ^ 62))
    by_before (Some start) was = was
    by_before None was = by_new x.look.primary

-- the most that is live after one of the takings
pub highest_both : (first second : List (ℕ × ℕ)) → highest (first ++ second) ≡ max (highest first) (highest second)
highest_both [] second = omega arith
highest_both ((live, asked) ∷ first) second = let more = highest_both first second in omega (arith, more)
