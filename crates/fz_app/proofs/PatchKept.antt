-- A patch that did not begin keeps all of FILE, and reads nothing of PATCH.
use Rattle.std.proofs.Common.{◌≡◌, inl, ℕ, ◌<◌, List, [], ◌∷◌, ◌++◌, Option, Some, None, Ok, Err, refl, sym, ap, subst, arith, append-nil}
use Rattle.std.specs.Prelude.{IfSome}
use Rattle.std.specs.Option.{option_map}
use Rattle.fz_base.specs.Counts.{Amend}
use Rattle.fz_base.specs.Ranges.{LogsIn}
use Rattle.fz_base.specs.declared.fault.Fault.{Fault}
use Rattle.fz_laws.specs.Given.{PatchJob, given_header}
use Rattle.fz_laws.specs.PatchChecks.{patch_target}
use Rattle.fz_patch.specs.Kept.{LeavesRest}
use Rattle.fz_target.specs.Reads.{ReadsGiven, found_alone, given_data, given_header_range}
use Rattle.fz_target.specs.Told.{IfBoth}

pub rest_untouched : (job : PatchJob) (attached : Option ℕ) (given held held' : Option (List ℕ)) (log log' : Option (List Amend)) → held' ≡ held → log' ≡ log → IfSome held (LeavesRest job attached given held' log log')
rest_untouched job attached given None held' log log' same logged = tt
rest_untouched job attached given (Some g) held' log log' same logged = inl (same, logged)

same_ranges : (old : Option (List (ℕ × ℕ))) → old ≡ option_map (λ rs. rs ++ []) old
same_ranges None = refl
same_ranges (Some rs) = ap Some (sym (append-nil rs))

nothing_read : (ranges : List (ℕ × ℕ)) (old : Option (List (ℕ × ℕ))) → LogsIn ranges old old
nothing_read ranges old = ([], (λ k d few. absurd (omega (arith, few))), same_ranges old)

none_here : (held given : Option (List ℕ)) (job : PatchJob) (ranges : Option (List (ℕ × ℕ))) → ReadsGiven held given job ranges ranges
none_here held given job ranges = record { within = by_given given; alone = by_held held; refused = by_both held given }
  where
    by_given : (given : Option (List ℕ)) → IfSome given (λ p. LogsIn (given_header_range p ∷ given_data (given_header p)) ranges ranges)
    by_given None = tt
    by_given (Some p) = nothing_read (given_header_range p ∷ given_data (given_header p)) ranges

    by_held : (held : Option (List ℕ)) → IfSome held (λ file. (x : Fault) → found_alone file job ≡ Err x → ranges ≡ ranges)
    by_held None = tt
    by_held (Some f) = λ x e. refl

    by_both : (held given : Option (List ℕ)) → IfBoth held given (λ file p. (x : Fault) → patch_target file p job ≡ Err x → LogsIn (given_header_range p ∷ []) ranges ranges)
    by_both None given = tt
    by_both (Some f) None = tt
    by_both (Some f) (Some p) = λ x e. nothing_read (given_header_range p ∷ []) ranges

pub none_read : (held given : Option (List ℕ)) (job : PatchJob) (ranges ranges' : Option (List (ℕ × ℕ))) → ranges' ≡ ranges → ReadsGiven held given job ranges ranges'
none_read held given job ranges ranges' same = subst (ReadsGiven held given job ranges) (sym same) (none_here held given job ranges)
