-- What opening both files of a patch changed, from what each opening says.
use Rattle.std.proofs.Common.{◌≡◌, ℕ, List, refl, sym, subst, inl, inr}
use Rattle.std.specs.Prelude.{Option, Result, Ok, Err}
use Rattle.fz_base.specs.Counts.{Tally}
use Rattle.fz_base.specs.Names.{MayName, NamesOnce, with_name}
use Rattle.fz_base.specs.Stop.{Codes, StoppedByCoding}
use Rattle.fz_base.specs.declared.failure.Stop.{Stop}
use Rattle.fz_base.specs.declared.failure.Stop.TheVariants.{Refused as StopRefused, ReadFault as StopRead, WriteFault as StopWrite, OverLimit as StopLimit, NoMemory as StopMemory}
use Rattle.fz_app.specs.PatchPromises.{IfOpened, OpensBoth, OpensInOrder, PatchNames, StoppedOpening}
use Rattle.fz_app.proofs.Tallies.{kept_by}

module _ (store store' patch patch' : Tally) where
  first_stop : (stop : Stop) → StoppedByCoding store store' stop → StoppedOpening store store' patch patch' stop
  first_stop (StopRefused x) is = is
  first_stop StopRead is = inl is
  first_stop StopWrite is = is
  first_stop (StopLimit live asked limit) is = is
  first_stop StopMemory is = tt

  second_stop : (stop : Stop) → StoppedByCoding patch patch' stop → StoppedOpening store store' patch patch' stop
  second_stop (StopRefused x) is = is
  second_stop StopRead is = inr is
  second_stop StopWrite is = is
  second_stop (StopLimit live asked limit) is = is
  second_stop StopMemory is = tt

-- the first was not opened
pub first_stopped : (store store' patch : Tally) (r : Result (ℕ × ℕ) Stop) (stop : Stop) → r ≡ Err stop → Codes {X = ℕ} store store' (Err stop) → OpensBoth store store' patch patch r
first_stopped store store' patch r stop is codes = subst (λ (s : Result (ℕ × ℕ) Stop). OpensBoth store store' patch patch s) (sym is)
    (record { store_kept = codes.kept; patch_kept = kept_by patch patch refl; ok = tt; stop = first_stop store store' patch patch stop codes.stop })

-- the second was not
pub second_stopped : (store store' patch patch' : Tally) (r : Result (ℕ × ℕ) Stop) (stop : Stop) → r ≡ Err stop → store' ≡ store → Codes {X = ℕ} patch patch' (Err stop) → OpensBoth store store' patch patch' r
second_stopped store store' patch patch' r stop is same codes = subst (λ (s : Result (ℕ × ℕ) Stop). OpensBoth store store' patch patch' s) (sym is)
    (record { store_kept = kept_by store store' same; patch_kept = codes.kept; ok = tt; stop = second_stop store store' patch patch' stop codes.stop })

-- both were
pub both_opened : (store store' patch patch' : Tally) (lengths : ℕ × ℕ) → store' ≡ store → patch' ≡ patch → OpensBoth {X = ℕ × ℕ} store store' patch patch' (Ok lengths)
both_opened store store' patch patch' lengths same same_patch = record {
  store_kept = kept_by store store' same;
  patch_kept = kept_by patch patch' same_patch;
  ok = (same, same_patch);
  stop = tt;
}

-- ---- names

-- a file that is not opened is neither rejected nor written to, and takes nothing of a meter
opened_unless : (before now : Tally) (P : Type 0) (stop : Stop) → Codes {X = ℕ} before now (Err stop) → IfOpened {X = ℕ × ℕ} (Err stop) P
opened_unless before now P (StopRefused x) codes = absurd codes.stop
opened_unless before now P StopRead codes = tt
opened_unless before now P StopWrite codes = absurd codes.stop
opened_unless before now P (StopLimit live asked limit) codes = absurd codes.stop
opened_unless before now P StopMemory codes = tt

module _ (file patch : List ℕ) (opened opened' given given' : Option (List (List ℕ))) where
  first_in_order : MayName file opened opened' → given' ≡ given → OpensInOrder file patch opened opened' given given'
  first_in_order (inl same) unopened = inl (same, unopened)
  first_in_order (inr more) unopened = inr (more, inl unopened)

  -- the first was not opened, so the second was not tried
  pub first_names : (before now : Tally) (r : Result (ℕ × ℕ) Stop) (stop : Stop) → r ≡ Err stop →
      NamesOnce {T = ℕ} file opened opened' (Err stop) → given' ≡ given → Codes {X = ℕ} before now (Err stop) →
      PatchNames file patch opened opened' given given' r
  first_names before now r stop is once unopened codes = subst (λ (s : Result (ℕ × ℕ) Stop). PatchNames file patch opened opened' given given' s) (sym is)
      (record { in_order = first_in_order once.at_most unopened; both = opened_unless before now _ stop codes })

  -- the second was not
  pub second_names : (before now : Tally) (r : Result (ℕ × ℕ) Stop) (stop : Stop) → r ≡ Err stop → opened' ≡ with_name file opened →
      NamesOnce {T = ℕ} patch given given' (Err stop) → Codes {X = ℕ} before now (Err stop) → PatchNames file patch opened opened' given given' r
  second_names before now r stop is more once codes = subst (λ (s : Result (ℕ × ℕ) Stop). PatchNames file patch opened opened' given given' s) (sym is)
      (record { in_order = inr (more, once.at_most); both = opened_unless before now _ stop codes })

  -- both were
  pub both_names : (lengths : ℕ × ℕ) → opened' ≡ with_name file opened → given' ≡ with_name patch given →
      PatchNames {X = ℕ × ℕ} file patch opened opened' given given' (Ok lengths)
  both_names lengths more more_patch = record { in_order = inr (more, inr more_patch); both = (more, more_patch) }
