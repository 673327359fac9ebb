-- What the jobs take of the meter, one after another.
use Rattle.std.specs.Prelude.{Result, Ok, Err}
use Rattle.std.proofs.Common.{◌≡◌, ℕ, max, List, [], ◌∷◌, ◌++◌, ◌∙◌, subst, arith}
use Rattle.fz_base.specs.Takings.{PastFirstLaw, PastSecondLaw, highest}
use Rattle.fz_base.specs.declared.failure.Stop.{Stop}
use Rattle.fz_base.specs.declared.failure.Stop.TheVariants.{Refused, ReadFault, WriteFault, OverLimit, NoMemory}
use Rattle.fz_head.specs.declared.options.CodecWord.{CodecWord}
use Rattle.fz_files.specs.Buffers.{drill_takings}
use Rattle.fz_drill.specs.Outcomes.{Stops}

-- the most that is live after one of them
pub highest_both : (xs ys : List (ℕ × ℕ)) → highest (xs ++ ys) ≡ max (highest xs) (highest ys)
highest_both [] ys = omega arith
highest_both ((live, asked) ∷ xs) ys = let more = highest_both xs ys in omega (arith, more)

-- after three jobs, one after another
pub peak_of_three : (xs ys zs : List (ℕ × ℕ)) (old first second last : ℕ) → first ≡ max old (highest xs) → second ≡ max first (highest ys) → last ≡ max second (highest zs) → last ≡ max old (highest (xs ++ (ys ++ zs)))
peak_of_three xs ys zs old first second last one two three =
    let all = highest_both xs (ys ++ zs) in
    let later = highest_both ys zs in
    omega (arith, one, two, three, all, later)

-- a stop of a first job, of those after it, and of both
module _ (past_first : PastFirstLaw) (rows limit : ℕ) (xs ys : List (ℕ × ℕ)) where
  pub stops_first : (X Y : Type 0) (stop : Stop) → Stops {X = X} rows xs limit (Err stop) → Stops {X = Y} rows (xs ++ ys) limit (Err stop)
  stops_first X Y (Refused x) s = absurd s.stop
  stops_first X Y ReadFault s = absurd s.stop
  stops_first X Y WriteFault s = absurd s.stop
  stops_first X Y (OverLimit live asked told) s = record { stop = s.stop; over_limit = s.over_limit; first_past = past_first limit (live, asked) xs ys s.first_past }
  stops_first X Y NoMemory s = record { stop = tt; over_limit = tt; first_past = tt }

module _ (past_second : PastSecondLaw) (rows limit : ℕ) (xs ys : List (ℕ × ℕ)) where
  pub stops_later : (X Y Z : Type 0) (done : X) (stop : Stop) → Stops {X = X} rows xs limit (Ok done) → Stops {X = Y} rows ys limit (Err stop) → Stops {X = Z} rows (xs ++ ys) limit (Err stop)
  stops_later X Y Z done (Refused x) before s = absurd s.stop
  stops_later X Y Z done ReadFault before s = absurd s.stop
  stops_later X Y Z done WriteFault before s = absurd s.stop
  stops_later X Y Z done (OverLimit live asked told) before s =
      record { stop = s.stop; over_limit = s.over_limit; first_past = past_second limit xs ys before.first_past ∙ s.first_past }
  stops_later X Y Z done NoMemory before s = record { stop = tt; over_limit = tt; first_past = tt }

  pub stops_none : (X Y Z : Type 0) (done : X) (also : Y) (all : Z) → Stops rows xs limit (Ok done) → Stops rows ys limit (Ok also) → Stops rows (xs ++ ys) limit (Ok all)
  stops_none X Y Z done also all before s = record { stop = tt; over_limit = tt; first_past = past_second limit xs ys before.first_past ∙ s.first_past }

-- want of memory
pub wants : (X : Type 0) (rows limit : ℕ) (ts : List (ℕ × ℕ)) → Stops {X = X} rows ts limit (Err NoMemory)
wants X rows limit ts = record { stop = tt; over_limit = tt; first_past = tt }

-- the same of an equal limit, and of an equal file
pub at_limit : {X : Type 0} (rows : ℕ) (ts : List (ℕ × ℕ)) {limit limit' : ℕ} {r : Result X Stop} → limit ≡ limit' → Stops rows ts limit r → Stops rows ts limit' r
at_limit rows ts {limit} {limit'} {r} same s = subst (λ n. Stops rows ts n r) same s

pub of_file : {X : Type 0} (rows : ℕ) (takings : List ℕ → List (ℕ × ℕ)) {file file' : List ℕ} {limit : ℕ} {r : Result X Stop} → file ≡ file' → Stops rows (takings file) limit r → Stops rows (takings file') limit r
of_file rows takings {file} {file'} {limit} {r} same s = subst (λ f. Stops rows (takings f) limit r) same s

pub of_rows : {X : Type 0} (codec : CodecWord) {rows rows' limit : ℕ} {r : Result X Stop} → rows ≡ rows' → Stops rows (drill_takings rows codec) limit r → Stops rows' (drill_takings rows' codec) limit r
of_rows codec {rows} {rows'} {limit} {r} same s = subst (λ n. Stops n (drill_takings n codec) limit r) same s
