-- Writes beside bytes that are kept, one after another.
use Rattle.std.proofs.Common.{◌≡◌, ◌⊎◌, inl, inr, ℕ, zero, suc, ◌+◌, ◌-◌, ◌<◌, ◌≤◌, max, List, [], ◌∷◌, ◌++◌, length, take, All, slice_index, Option, Some, None, refl, sym, ap, ◌∙◌, subst, arith}
use Rattle.std.specs.Prelude.{IfSome, slice_get}
use Rattle.std.specs.Option.{option_map}
use Rattle.std.proofs.lemmas.List.{append-nil, append_assoc}
use Rattle.std.proofs.lemmas.List.Elements.{All-append, All-cons, All-head, All-nil, All-tail, All-take}
use Rattle.fz_base.specs.Counts.{Amend}
use Rattle.fz_base.specs.Sink.{overwrite, written}
use Rattle.fz_base.specs.Store.{MayAmend, amend_of, with_write}
use Rattle.fz_laws.specs.Amends.{IsOutside, amended, applied}
use Rattle.fz_laws.specs.PatchTaken.{BytesOutsideStay}
use Rattle.fz_target.specs.Steps.{HasFirstOf, Wrote, WroteSome}
use Rattle.fz_patch.specs.Kept.{KeepsBytes}

-- what a write does to the length of a file
abbrev pub WritesAreLong : Type 0
WritesAreLong = (at : ℕ) (bytes contents : List ℕ) → 0 < length bytes → length (overwrite at bytes contents) ≡ max (length contents) (at + length bytes)

-- bytes are kept, of a file that shows them
abbrev pub Keeps : (ℕ → Type 0) → Option (List ℕ) → Option (List ℕ) → Option (List Amend) → Option (List Amend) → Type 0
Keeps Kept held held' log log' = IfSome held (λ file. KeepsBytes Kept file held' log log')

log_none : (log : Option (List Amend)) → log ≡ option_map (λ before. before ++ []) log
log_none None = refl
log_none (Some ws) = ap Some (sym (append-nil ws))

log_both : (front back : List Amend) (log : Option (List Amend)) → option_map (λ b. b ++ back) (option_map (λ b. b ++ front) log) ≡ option_map (λ b. b ++ (front ++ back)) log
log_both front back None = refl
log_both front back (Some b) = ap Some (append_assoc b front back)

some_is : {x y : List ℕ} → Some x ≡ Some y → x ≡ y
some_is e = cc

-- ---- nothing was written

pub keeps_same : (Kept : ℕ → Type 0) (held held' : Option (List ℕ)) (log log' : Option (List Amend)) → held' ≡ held → log' ≡ log → Keeps Kept held held' log log'
keeps_same Kept None held' log log' same logged = tt
keeps_same Kept (Some file) held' log log' same logged = record {
  made = [];
  logged = logged ∙ log_none log;
  beside = λ i kept. All-nil (IsOutside i);
  new = file;
  now = same;
  long = omega arith;
  kept = λ i less kept. refl;
}

-- ---- one part after another

keeps_both : (Kept : ℕ → Type 0) (file mid : List ℕ) (held held' : Option (List ℕ)) (log log' log'' : Option (List Amend)) → KeepsBytes Kept file held log log' → held ≡ Some mid → KeepsBytes Kept mid held' log' log'' → KeepsBytes Kept file held' log log''
keeps_both Kept file mid held held' log log' log'' first is second =
    let same : first.new ≡ mid = some_is (sym first.now ∙ is) in
    let size : length first.new ≡ length mid = ap length same in
    record {
      made = first.made ++ second.made;
      logged = second.logged ∙ (ap (option_map (λ b. b ++ second.made)) first.logged ∙ log_both first.made second.made log);
      beside = λ i kept. All-append (IsOutside i) first.made second.made (first.beside i kept) (second.beside i kept);
      new = second.new;
      now = second.now;
      long = omega (arith, first.long, second.long, size);
      kept = λ i less kept. second.kept i (omega (arith, less, first.long, size)) kept ∙ (ap (λ l. slice_index l i) (sym same) ∙ first.kept i less kept);
    }

pub keeps_then : (Kept : ℕ → Type 0) (held mid held' : Option (List ℕ)) (log log' log'' : Option (List Amend)) → Keeps Kept held mid log log' → Keeps Kept mid held' log' log'' → Keeps Kept held held' log log''
keeps_then Kept None mid held' log log' log'' first second = tt
keeps_then Kept (Some file) None held' log log' log'' first second = absurd (none_some first.now)
  where
    none_some : {x : List ℕ} → None ≡ Some x → ⊥
    none_some e = cc
keeps_then Kept (Some file) (Some mid) held' log log' log'' first second = keeps_both Kept file mid (Some mid) held' log log' log'' first refl second

-- fewer bytes are kept too
pub keeps_fewer : (Kept Fewer : ℕ → Type 0) (held held' : Option (List ℕ)) (log log' : Option (List Amend)) → ((i : ℕ) → Fewer i → Kept i) → Keeps Kept held held' log log' → Keeps Fewer held held' log log'
keeps_fewer Kept Fewer None held' log log' are keeps = tt
keeps_fewer Kept Fewer (Some file) held' log log' are keeps = record {
  made = keeps.made;
  logged = keeps.logged;
  beside = λ i fewer. keeps.beside i (are i fewer);
  new = keeps.new;
  now = keeps.now;
  long = keeps.long;
  kept = λ i less fewer. keeps.kept i less (are i fewer);
}

-- the part after the last write changes neither the file nor the writes
pub keeps_still : (Kept : ℕ → Type 0) (held mid held' : Option (List ℕ)) (log log' log'' : Option (List Amend)) → held' ≡ mid → log'' ≡ log' → Keeps Kept held mid log log' → Keeps Kept held held' log log''
keeps_still Kept held mid held' log log' log'' same logged first = keeps_then Kept held mid held' log log' log'' first (keeps_same Kept mid held' log' log'' same logged)

-- ---- writes

module _ (stay : BytesOutsideStay) (grow : WritesAreLong) where
  longer : (at : ℕ) (bytes file : List ℕ) → length file ≤ length (overwrite at bytes file)
  longer at [] file = omega arith
  longer at (b ∷ bytes) file = let size = grow at (b ∷ bytes) file (omega arith) in omega (arith, size)

  all_long : (ws : List Amend) (file : List ℕ) → length file ≤ length (applied ws file)
  all_long [] file = omega arith
  all_long (w ∷ ws) file =
      let one = longer w.at w.bytes file in
      let rest = all_long ws (amended w file) in
      omega (arith, one, rest)

  all_stay : (i : ℕ) (ws : List Amend) (file : List ℕ) → All (IsOutside i) ws → slice_index (applied ws file) i ≡ slice_index file i
  all_stay i [] file all = refl
  all_stay i (w ∷ ws) file all = all_stay i ws (amended w file) (All-tail (IsOutside i) w ws all) ∙ stay w.at w.bytes file i (All-head (IsOutside i) w ws all)

  -- all of these
  keeps_applied : (Kept : ℕ → Type 0) (ws : List Amend) (held held' : Option (List ℕ)) (log log' : Option (List Amend)) → ((i : ℕ) → Kept i → All (IsOutside i) ws) →
      held' ≡ option_map (applied ws) held → log' ≡ option_map (λ before. before ++ ws) log → Keeps Kept held held' log log'
  keeps_applied Kept ws None held' log log' outside is logged = tt
  keeps_applied Kept ws (Some file) held' log log' outside is logged = record {
    made = ws;
    logged = logged;
    beside = outside;
    new = applied ws file;
    now = is;
    long = all_long ws file;
    kept = λ i less kept. all_stay i ws file (outside i kept);
  }

  -- a part of one, which is not among those that were made
  keeps_part : (Kept : ℕ → Type 0) (w : Amend) (held held' : Option (List ℕ)) (log log' : Option (List Amend)) → ((i : ℕ) → Kept i → IsOutside i w) →
      MayAmend w.at (length w.bytes) held held' → log' ≡ log → Keeps Kept held held' log log'
  keeps_part Kept w None held' log log' outside part logged = tt
  keeps_part Kept w (Some file) held' log log' outside part logged = record {
    made = [];
    logged = logged ∙ log_none log;
    beside = λ i kept. All-nil (IsOutside i);
    new = overwrite w.at part.0 file;
    now = part.2;
    long = longer w.at part.0 file;
    kept = λ i less kept. stay w.at part.0 file i (shorter i (outside i kept));
  }
    where
      shorter : (i : ℕ) → IsOutside i w → (i < w.at) ⊎ (w.at + length part.0 ≤ i)
      shorter i (inl low) = inl low
      shorter i (inr high) = inr (omega (arith, high, part.1))

  all_at : (i : ℕ) (ws : List Amend) (n : ℕ) (w : Amend) → slice_get ws n ≡ Some w → All (IsOutside i) ws → IsOutside i w
  all_at i [] n w e all = absurd cc
  all_at i (v ∷ ws) zero w e all = subst (IsOutside i) (one v w e) (All-head (IsOutside i) v ws all)
    where
      one : (v w : Amend) → Some v ≡ Some w → v ≡ w
      one v w e = cc
  all_at i (v ∷ ws) (suc n) w e all = all_at i ws n w e (All-tail (IsOutside i) v ws all)

  -- some of them, from the first on, and perhaps a part of the next one
  pub keeps_some : (Kept : ℕ → Type 0) (ws : List Amend) (held held' : Option (List ℕ)) (log log' : Option (List Amend)) → ((i : ℕ) → Kept i → All (IsOutside i) ws) →
      WroteSome ws held held' log log' → Keeps Kept held held' log log'
  keeps_some Kept ws held held' log log' outside some = by_first some.held_is
    where
      front : List Amend
      front = take some.count ws

      outside_front : (i : ℕ) → Kept i → All (IsOutside i) front
      outside_front i kept = All-take (IsOutside i) some.count ws (outside i kept)

      by_first : HasFirstOf some.count ws held held' → Keeps Kept held held' log log'
      by_first (inl is) = keeps_applied Kept front held held' log log' outside_front is some.logged
      by_first (inr (w, there, part)) =
          keeps_then Kept held (option_map (applied front) held) held' log log' log' (keeps_applied Kept front held (option_map (applied front) held) log log' outside_front refl some.logged)
          (keeps_part Kept w (option_map (applied front) held) held' log' log' (λ i kept. all_at i ws some.count w there (outside i kept)) part refl)

  -- one write
  pub keeps_one : (Kept : ℕ → Type 0) (w : Amend) (held held' : Option (List ℕ)) (log log' : Option (List Amend)) → ((i : ℕ) → Kept i → IsOutside i w) →
      held' ≡ written w.at w.bytes held → log' ≡ with_write w log → Keeps Kept held held' log log'
  keeps_one Kept w held held' log log' outside is logged =
      keeps_applied Kept (w ∷ []) held held' log log' (λ i kept. All-cons (IsOutside i) w [] (outside i kept) (All-nil (IsOutside i))) is logged

  -- or one that failed
  pub keeps_failed : (Kept : ℕ → Type 0) (w : Amend) (held held' : Option (List ℕ)) (log log' : Option (List Amend)) → ((i : ℕ) → Kept i → IsOutside i w) →
      MayAmend w.at (length w.bytes) held held' → log' ≡ log → Keeps Kept held held' log log'
  keeps_failed Kept w held held' log log' outside part logged = keeps_part Kept w held held' log log' outside part logged
