-- The part begins with the S of SIMPLE, so it is whole once byte 0 is written (FITS 4.0, section 4.4.1.1).
use Rattle.std.proofs.Common.{◌≡◌, ℕ, ◌⊎◌, inl, inr, List, [], ◌∷◌, drop, Option, Some, None, IfSome, Result, Ok, Err, refl, sym, ap, subst, ◌∙◌}
use Rattle.std.specs.Prelude.{OnOk, OnErr, IfErr, IsErrOf}
use Rattle.fz_base.specs.Counts.{Tally}
use Rattle.fz_base.specs.FirstByte.{IsShut, StopsShut, with_first_byte}
use Rattle.fz_base.specs.Sink.{emptied, written}
use Rattle.fz_base.specs.Stop.{IfRefused, StoppedByWrite}
use Rattle.fz_base.specs.declared.fault.Fault.{Fault}
use Rattle.fz_base.specs.declared.failure.Stop.{Stop}
use Rattle.fz_base.specs.declared.failure.Stop.TheVariants.{Refused, ReadFault, WriteFault, OverLimit, NoMemory}
use Rattle.fz_block.specs.declared.header.Header.{Header}
use Rattle.fz_grid.specs.declared.sieve.Sieve.{Sieve}
use Rattle.fz_files.specs.Walks.{box_of}
use Rattle.fz_job.specs.Behind.{written_behind}
use Rattle.fz_cut.specs.Again.{ReadsAsSeen, WasSeen}
use Rattle.fz_cut.specs.declared.again.Again.{Again}
use Rattle.fz_cut.specs.Laws.{PartsBegin}
use Rattle.fz_cut.specs.Part.{HoldsPart, IsPartOf, IsPickFault}
use Rattle.fz_cut.specs.Written.{FinishesSeen, IsPart, IsShutOrPart}
use Rattle.fz_cut.proofs.Rows.{picked_sound}

abbrev pub BeginsWithS : List ℕ → Type 0
BeginsWithS l = l ≡ 83 ∷ drop 1 l

abbrev pub SealedLaw : Type 0
SealedLaw = (bytes : List ℕ) → with_first_byte (written 1 bytes (Some [])) ≡ Some (83 ∷ bytes)

sealed_whole : SealedLaw → (whole : List ℕ) → BeginsWithS whole → (old made mid now : Option (List ℕ)) → made ≡ emptied old → mid ≡ written_behind 0 whole made → now ≡ with_first_byte mid →
    IfSome now (λ bytes. bytes ≡ whole)
sealed_whole law whole begins None made mid now empty behind last =
    let none : now ≡ None = last ∙ ap with_first_byte (behind ∙ ap (written_behind 0 whole) empty) in
    subst (λ (c : Option (List ℕ)). IfSome c (λ bytes. bytes ≡ whole)) (sym none) tt
sealed_whole law whole begins (Some c) made mid now empty behind last =
    let is : now ≡ Some whole = last ∙ ap with_first_byte (behind ∙ ap (written_behind 0 whole) empty) ∙ law (drop 1 whole) ∙ ap Some (sym begins) in
    subst (λ (c : Option (List ℕ)). IfSome c (λ bytes. bytes ≡ whole)) (sym is) refl

as_part : (file : List ℕ) (h : Header) (sieve : Sieve) (whole : List ℕ) → IsPartOf file h sieve whole → (now : Option (List ℕ)) → IfSome now (λ bytes. bytes ≡ whole) → IsPart file h sieve now
as_part file h sieve whole is None told = tt
as_part file h sieve whole is (Some bytes) told = subst (IsPartOf file h sieve) (sym told) is

module _ (begins : PartsBegin) (law : SealedLaw) (sieve : Sieve) (most tile : ℕ) (from : Header) (old made mid now : Option (List ℕ)) (empty : made ≡ emptied old) where
  part_now : (g : List ℕ) → HoldsPart g from sieve made mid → now ≡ with_first_byte mid → IsPart g from sieve now
  part_now g holds last = as_part g from sieve holds.bytes holds.is now (sealed_whole law holds.bytes (begins g from sieve holds.bytes holds.is) old made mid now empty holds.contents last)

  never_refused : (X : Type 0) (before after : Tally) (stop : Stop) → StoppedByWrite before after stop → (P : Fault → Type 0) → IfRefused {X = X} (Err stop) P
  never_refused X before after (Refused x) why P = absurd why
  never_refused X before after ReadFault why P = tt
  never_refused X before after WriteFault why P = tt
  never_refused X before after (OverLimit live asked limit) why P = tt
  never_refused X before after NoMemory why P = tt

  -- the HDU was read as it was seen, and its part is written after byte 0
  abbrev pub Behind : List ℕ → Type 0
  Behind g = WasSeen g (box_of sieve) most tile from → HoldsPart g from sieve made mid

  pub sealed_finishes : {X : Type 0} (result : Result X Stop) (before after : Tally) (held : Option (List ℕ)) → IfSome held Behind → OnOk result (now ≡ with_first_byte mid) → IfErr result (StoppedByWrite before after) →
      IfSome held (λ g. FinishesSeen g sieve most tile from now result)
  sealed_finishes result before after None behind last why = tt
  sealed_finishes (Ok x) before after (Some g) behind last why = record {
    part = λ seen. part_now g (behind seen) last;
    sound = λ seen. picked_sound g from sieve (behind seen).is.numbers (behind seen).is.cut;
    first_fault = λ seen. tt;
  }
  sealed_finishes {X = X} (Err stop) before after (Some g) behind last why = record {
    part = λ seen. tt;
    sound = λ seen. tt;
    first_fault = λ seen. never_refused X before after stop why (IsPickFault g from sieve);
  }

  -- ---- shut, or sealed

  by_write : (X : Type 0) (before after : Tally) (stop : Stop) → StoppedByWrite before after stop → IsErrOf {T = X} (Err stop) WriteFault ⊎ IsErrOf {T = X} (Err stop) NoMemory
  by_write X before after (Refused x) why = absurd why
  by_write X before after ReadFault why = absurd why
  by_write X before after WriteFault why = inl refl
  by_write X before after (OverLimit live asked limit) why = absurd why
  by_write X before after NoMemory why = inr refl

  whole_now : (held : Option (List ℕ)) → IfSome held Behind → now ≡ with_first_byte mid → IfSome held (λ g. WasSeen g (box_of sieve) most tile from → IsPart g from sieve now)
  whole_now None behind last = tt
  whole_now (Some g) behind last = λ seen. part_now g (behind seen) last

  by_stop : (X : Type 0) (stop : Stop) (before after : Tally) (held : Option (List ℕ)) → IsShut mid → IfSome held Behind → StoppedByWrite before after stop → StopsShut mid now →
      IsShutOrPart {X = X} held sieve most tile from now (Err stop)
  by_stop X stop before after held shut behind why (inl stays) = inl (stays shut)
  by_stop X stop before after held shut behind why (inr last) = inr (whole_now held behind last, by_write X before after stop why)

  pub sealed_or_shut : {X : Type 0} (result : Result X Stop) (before after : Tally) (held : Option (List ℕ)) → IsShut mid → IfSome held Behind → IfErr result (StoppedByWrite before after) → OnErr result (StopsShut mid now) →
      IsShutOrPart held sieve most tile from now result
  sealed_or_shut (Ok x) before after held shut behind why stops = tt
  sealed_or_shut {X = X} (Err stop) before after held shut behind why stops = by_stop X stop before after held shut behind why stops

-- an HDU that was read as it was seen is the one that was seen
pub behind_by : (sieve : Sieve) (most tile : ℕ) (from : Header) (made mid : Option (List ℕ)) (held : Option (List ℕ)) (a : Again) → IfSome held (λ g. ReadsAsSeen g (box_of sieve) most tile from (Ok a)) →
    IfSome held (λ g. HoldsPart g a.header sieve made mid) → IfSome held (λ g. WasSeen g (box_of sieve) most tile from → HoldsPart g from sieve made mid)
behind_by sieve most tile from made mid None a seen part = tt
behind_by sieve most tile from made mid (Some g) a seen part = λ w. subst (λ (h : Header). HoldsPart g h sieve made mid) (seen w).1 part
