-- Two meters with one limit, as one: the takings of one after those of the other.
use Rattle.std.proofs.Common.{◌≡◌, ℕ, ◌≤◌, List, ◌++◌, refl, sym, ap, ◌∙◌, subst, arith, inl, inr}
use Rattle.std.specs.Prelude.{max, Option, Some, None, IfSome, IsSome, Result, Ok, Err, ⊤}
use Rattle.std.proofs.lemmas.Option.{same_Some}
use Rattle.fz_base.specs.Stop.{TellsLimit}
use Rattle.fz_base.specs.Takings.{PastFirstLaw, PastSecondLaw, TellsFirstPast, first_past}
use Rattle.fz_base.specs.declared.fault.Fault.{Fault}
use Rattle.fz_base.specs.declared.failure.Stop.{Stop}
use Rattle.fz_base.specs.declared.failure.Stop.TheVariants.{Refused, ReadFault, WriteFault, OverLimit, NoMemory}
use Rattle.fz_head.specs.declared.options.PackOptions.{PackOptions}
use Rattle.fz_files.specs.Buffers.{file_takings, job_bound, job_takings, largest_behind, largest_plain, longest_plain, longest_reached, packing_bound, plain_takings}
use Rattle.fz_files.specs.Decided.{fault_after, first_fault}
use Rattle.fz_files.specs.Laws.{BoundRises}
use Rattle.fz_files.specs.Retiled.{plain_of}
use Rattle.fz_files.specs.Walks.{header_fault}
use Rattle.fz_files.specs.declared.job.Job.{Job}
use Rattle.fz_files.specs.declared.job.Job.TheVariants.{Retile, Unpack}
use Rattle.fz_job.specs.Clauses.{IsAnswer, IsUnmade, greatest_bound}
use Rattle.fz_retile.specs.Laws.{OneLimitAnswers, OneLimitCauses, OneLimitLeavesUnmade}
use Rattle.fz_retile.specs.Retiles.{StaysUnmadeBoth, TellsEitherLimit, TellsFirstOfBoth, first_past_of, past_of}

-- ---- the first taking of both

-- what is told of a taking that passes the limit
abbrev told : Option (ℕ × ℕ) → ℕ → Option (ℕ × ℕ × ℕ)
told None limit = None
told (Some (live, asked)) limit = Some (live, asked, limit)

of_second : (limit : ℕ) (y : Option (ℕ × ℕ)) → past_of None limit y limit ≡ told y limit
of_second limit None = refl
of_second limit (Some (live, asked)) = refl

past_told : PastFirstLaw → PastSecondLaw → (limit : ℕ) (a b : List (ℕ × ℕ)) → past_of (first_past limit a) limit (first_past limit b) limit ≡ told (first_past limit (a ++ b)) limit
past_told first second limit a b = by_first (first_past limit a) refl
  where
    by_first : (x : Option (ℕ × ℕ)) → first_past limit a ≡ x → past_of x limit (first_past limit b) limit ≡ told (first_past limit (a ++ b)) limit
    by_first None e = of_second limit (first_past limit b) ∙ sym (ap (λ z. told z limit) (second limit a b e))
    by_first (Some (live, asked)) e = sym (ap (λ z. told z limit) (first limit (live, asked) a b e))

none_told : (limit : ℕ) (z : Option (ℕ × ℕ)) → told z limit ≡ None → z ≡ None
none_told limit None e = refl
none_told limit (Some (live, asked)) e = absurd cc

some_told : (limit : ℕ) (z : Option (ℕ × ℕ)) (live asked t : ℕ) → told z limit ≡ Some (live, asked, t) → z ≡ Some (live, asked)
some_told limit None live asked t e = absurd cc
some_told limit (Some (l, q)) live asked t e = ap (λ (p : ℕ × ℕ × ℕ). Some (p.0, p.1)) (same_Some (l, q, limit) (live, asked, t) e)

is_told : (limit : ℕ) (z : Option (ℕ × ℕ)) → IsSome z → IsSome (told z limit)
is_told limit None is = is
is_told limit (Some (live, asked)) is = refl

tells : (limit : ℕ) (takings : List (ℕ × ℕ)) (r : Result ⊤ Stop) → TellsFirstOfBoth (told (first_past limit takings) limit) r → TellsFirstPast limit takings r
tells limit takings (Ok x) is = none_told limit (first_past limit takings) is
tells limit takings (Err (Refused x)) is = none_told limit (first_past limit takings) is
tells limit takings (Err ReadFault) is = tt
tells limit takings (Err WriteFault) is = none_told limit (first_past limit takings) is
tells limit takings (Err (OverLimit live asked t)) is = some_told limit (first_past limit takings) live asked t is
tells limit takings (Err NoMemory) is = tt

module _ (first : PastFirstLaw) (second : PastSecondLaw) (o : PackOptions) (limit workers : ℕ) where
  both_told : (g : List ℕ) → first_past_of o g workers limit limit ≡ told (first_past limit (job_takings (Retile o) g workers)) limit
  both_told g = past_told first second limit (file_takings Unpack g workers) (plain_takings o (plain_of g) workers)

  tells_held : (held : Option (List ℕ)) (r : Result ⊤ Stop) → IfSome held (λ g. TellsFirstOfBoth (first_past_of o g workers limit limit) r) → IfSome held (λ g. TellsFirstPast limit (job_takings (Retile o) g workers) r)
  tells_held None r is = tt
  tells_held (Some g) r is = tells limit (job_takings (Retile o) g workers) r (subst (λ (p : Option (ℕ × ℕ × ℕ)). TellsFirstOfBoth p r) (both_told g) is)

  past_held : (held : Option (List ℕ)) (Same : Type 0) → IfSome held (λ g. IsSome (first_past_of o g workers limit limit) → Same) → IfSome held (λ g. IsSome (first_past limit (job_takings (Retile o) g workers)) → Same)
  past_held None Same is = tt
  past_held (Some g) Same is = λ some. is (subst IsSome (sym (both_told g)) (is_told limit (first_past limit (job_takings (Retile o) g workers)) some))

-- ---- the cause

one_told : (limit most : ℕ) (r : Result ⊤ Stop) → TellsEitherLimit limit limit most r → TellsLimit limit most r
one_told limit most (Ok x) is = tt
one_told limit most (Err (Refused x)) is = tt
one_told limit most (Err ReadFault) is = tt
one_told limit most (Err WriteFault) is = tt
one_told limit most (Err (OverLimit live asked t)) is =
    let same : t ≡ limit = elim is.0 [
      | inl one ↦ one
      | inr other ↦ other
    ] in
    (same, omega (arith, same, is.1), is.2)
one_told limit most (Err NoMemory) is = tt

pub one_limit_causes : PastFirstLaw → PastSecondLaw → OneLimitCauses
one_limit_causes first second o held source source' sink sink' limit workers result is = record {
  done = is.done;
  refused = is.refused;
  read_fault = is.read_fault;
  write_fault = is.write_fault;
  over_limit = one_told limit (greatest_bound (Retile o) workers) result is.over_limit;
  first_past = tells_held first second o limit workers held result is.first_past;
  block = is.block;
}

-- ---- the answer

module _ (rises : BoundRises) (o : PackOptions) (g : List ℕ) (workers limit : ℕ) (enough : job_bound (Retile o) g workers ≤ limit) where
  look_fits : job_bound Unpack g workers ≤ limit
  look_fits =
      let within = rises (longest_reached Unpack g) (max (longest_reached Unpack g) (longest_plain o (plain_of g))) (largest_behind Unpack g)
      (max (largest_behind Unpack g) (largest_plain o (plain_of g))) workers workers (omega arith) (omega arith) (omega arith) in
      omega (arith, within, enough)

  packing_fits : packing_bound o g workers ≤ limit
  packing_fits =
      let within = rises (max (longest_reached Unpack g) (longest_plain o (plain_of g))) (max (longest_reached Unpack g) (longest_plain o (plain_of g)))
      (largest_plain o (plain_of g)) (max (largest_behind Unpack g) (largest_plain o (plain_of g))) workers workers (omega arith) (omega arith) (omega arith) in
      omega (arith, within, enough)

answers_held : BoundRises → (o : PackOptions) (held : Option (List ℕ)) (limit workers : ℕ) (r : Result ⊤ Stop) →
    IfSome held (λ g. job_bound Unpack g workers ≤ limit → packing_bound o g workers ≤ limit → IsAnswer r) → IfSome held (λ g. job_bound (Retile o) g workers ≤ limit → IsAnswer r)
answers_held rises o None limit workers r is = tt
answers_held rises o (Some g) limit workers r is = λ enough. is (look_fits rises o g workers limit enough) (packing_fits rises o g workers limit enough)

pub one_limit_answers : BoundRises → OneLimitAnswers
one_limit_answers rises o held source source' sink sink' limit workers result is =
    λ unread unwritten. answers_held rises o held limit workers result (is unread unwritten)

-- ---- the sink

none_after : (found : Option Fault) (job : Job) (file : List ℕ) → fault_after found job file ≡ None → found ≡ None
none_after None job file e = refl
none_after (Some fault) job file e = absurd cc

headers_are_sound : (job : Job) (file : List ℕ) → first_fault job file ≡ None → header_fault job file ≡ None
unfolding first_fault
headers_are_sound job file e = none_after (header_fault job file) job file e

faulty_held : (o : PackOptions) (held : Option (List ℕ)) (Same : Type 0) → IfSome held (λ g. ¬ (first_fault (Retile o) g ≡ None) → Same) → IfSome held (λ g. ¬ (header_fault (Retile o) g ≡ None) → Same)
faulty_held o None Same is = tt
faulty_held o (Some g) Same is = λ fault. is (λ none. fault (headers_are_sound (Retile o) g none))

leaves_unmade : PastFirstLaw → PastSecondLaw → (o : PackOptions) (held : Option (List ℕ)) (limit workers : ℕ) (Same : Type 0) (result : Result ⊤ Stop) → StaysUnmadeBoth o held limit limit workers Same result →
    IsUnmade (Retile o) held limit workers Same result
leaves_unmade first second o held limit workers Same result is = record {
  faulty = faulty_held o held Same is.faulty;
  past = past_held first second o limit workers held Same is.past;
  over_limit = is.over_limit;
  refused = is.refused;
}

pub one_limit_leaves_unmade : PastFirstLaw → PastSecondLaw → OneLimitLeavesUnmade
one_limit_leaves_unmade first second o held limit workers created created' contents contents' result is = leaves_unmade first second o held limit workers _ result is
