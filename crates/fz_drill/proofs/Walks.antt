-- A walk over HDUs, step by step: what it finds, and what it comes to.
use Rattle.std.specs.Prelude.{Result, Ok, if◌then◌else◌}
use Rattle.std.proofs.Common.{◌≡◌, ℕ, suc, ◌==◌, ◌<◌, Bool, true, false, List, [], ◌∷◌, length, ap, ◌∙◌, arith}
use Rattle.std.proofs.lemmas.Bool.Decides.{nat_tests}
use Rattle.fz_base.specs.declared.fault.Fault.{Fault}
use Rattle.fz_block.specs.Checks.{Judge, by_judgement, followed_by, hdu_at, judged, walk_from}
use Rattle.fz_block.specs.Header.{next_start_of}
use Rattle.fz_block.specs.declared.header.Header.{Header}
use Rattle.fz_files.specs.Walks.{Reached, reached_after, reached_behind, reached_from}

module _ (file : List ℕ) (judge : Judge) (more k start : ℕ) (h : Header) (found : hdu_at k start file ≡ Ok h) where
  abbrev behind : Header → Result (List Header) Fault
  behind x = walk_from judge more (suc k) (next_start_of x) file

  abbrev reached : Header → List Reached
  reached x = reached_from judge more (suc k) (next_start_of x) file

  abbrev here : Reached
  here = record { hdu = k; start = start }

  walk_judged : (says : Result Bool Fault) → judge h ≡ says → walk_from judge (suc more) k start file ≡ by_judgement file h (behind h) says
  unfolding walk_from
  walk_judged says is = ap (judged file judge behind) found ∙ ap (by_judgement file h (behind h)) is

  reach_judged : (says : Result Bool Fault) → judge h ≡ says → reached_from judge (suc more) k start file ≡ here ∷ reached_behind file h (reached h) says
  unfolding reached_from
  reach_judged says is = ap (λ r. here ∷ reached_after file judge reached r) found ∙ ap (λ r. here ∷ reached_behind file h (reached h) r) is

  -- the job stops here
  pub walk_stop : judge h ≡ Ok true → walk_from judge (suc more) k start file ≡ Ok (h ∷ [])
  walk_stop is = walk_judged (Ok true) is

  pub reach_stop : judge h ≡ Ok true → reached_from judge (suc more) k start file ≡ here ∷ []
  reach_stop is = reach_judged (Ok true) is

  ends : next_start_of h ≡ length file → (next_start_of h == length file) ≡ true
  ends e = grind (arith, nat_tests, e)

  goes_on : next_start_of h < length file → (next_start_of h == length file) ≡ false
  goes_on less = grind (arith, nat_tests, less)

  -- the file ends here
  pub walk_end : judge h ≡ Ok false → next_start_of h ≡ length file → walk_from judge (suc more) k start file ≡ Ok (h ∷ [])
  walk_end is e = walk_judged (Ok false) is ∙ ap (λ (last : Bool). if last then Ok (h ∷ []) else followed_by h (behind h)) (ends e)

  pub reach_end : judge h ≡ Ok false → next_start_of h ≡ length file → reached_from judge (suc more) k start file ≡ here ∷ []
  reach_end is e = reach_judged (Ok false) is ∙ ap (λ (last : Bool). here ∷ (if last then [] else reached h)) (ends e)

  -- another HDU follows
  pub walk_on : judge h ≡ Ok false → next_start_of h < length file → walk_from judge (suc more) k start file ≡ followed_by h (behind h)
  walk_on is less = walk_judged (Ok false) is ∙ ap (λ (last : Bool). if last then Ok (h ∷ []) else followed_by h (behind h)) (goes_on less)

  pub reach_on : judge h ≡ Ok false → next_start_of h < length file → reached_from judge (suc more) k start file ≡ here ∷ reached h
  reach_on is less = reach_judged (Ok false) is ∙ ap (λ (last : Bool). here ∷ (if last then [] else reached h)) (goes_on less)
