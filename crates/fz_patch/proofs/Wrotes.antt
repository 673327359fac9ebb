-- Writes that were made one list after another, and those that stopped.
use Rattle.std.proofs.Common.{◌≡◌, ◌⊎◌, ℕ, zero, suc, ◌+◌, ◌<◌, ◌≤◌, inl, inr, List, [], ◌∷◌, ◌++◌, length, take, Option, Some, None, refl, sym, ap, ◌∙◌, subst, arith}
use Rattle.std.specs.Prelude.{slice_get}
use Rattle.std.specs.Option.{option_map}
use Rattle.std.proofs.lemmas.List.{append-nil, append_assoc, take-append-le, take_all}
use Rattle.std.proofs.lemmas.Option.{slice_get_within}
use Rattle.std.proofs.Math.Seq.{take-append-add, take-append_seam, take-length}
use Rattle.std.proofs.lemmas.Bool.{cases_lt}
use Rattle.fz_base.specs.Counts.{Amend}
use Rattle.fz_base.specs.Sink.{written}
use Rattle.fz_base.specs.Store.{MayAmend, with_write}
use Rattle.fz_laws.specs.Amends.{amended, applied}
use Rattle.fz_target.specs.Steps.{HasFirstOf, Wrote, WroteSome}

pub applied-append : (front back : List Amend) (file : List ℕ) → applied (front ++ back) file ≡ applied back (applied front file)
applied-append [] back file = refl
applied-append (w ∷ front) back file = applied-append front back (amended w file)

held-append : (front back : List Amend) (held : Option (List ℕ)) → option_map (applied (front ++ back)) held ≡ option_map (applied back) (option_map (applied front) held)
held-append front back None = refl
held-append front back (Some file) = ap Some (applied-append front back file)

log-append : (front back : List Amend) (log : Option (List Amend)) → option_map (λ b. b ++ (front ++ back)) log ≡ option_map (λ b. b ++ back) (option_map (λ b. b ++ front) log)
log-append front back None = refl
log-append front back (Some b) = ap Some (sym (append_assoc b front back))

log-none : (log : Option (List Amend)) → option_map (λ b. b ++ []) log ≡ log
log-none None = refl
log-none (Some b) = ap Some (append-nil b)

held-none : (held : Option (List ℕ)) → option_map (applied []) held ≡ held
held-none None = refl
held-none (Some file) = refl

pub wrote-none : (held : Option (List ℕ)) (log : Option (List Amend)) → Wrote [] held held log log
wrote-none held log = record { held_is = sym (held-none held); logged = sym (log-none log) }

pub wrote-then : (front back : List Amend) (held mid held' : Option (List ℕ)) (log log' log'' : Option (List Amend)) →
    Wrote front held mid log log' → Wrote back mid held' log' log'' → Wrote (front ++ back) held held' log log''
wrote-then front back held mid held' log log' log'' first second = record {
  held_is = second.held_is ∙ ap (option_map (applied back)) first.held_is ∙ sym (held-append front back held);
  logged = second.logged ∙ ap (option_map (λ b. b ++ back)) first.logged ∙ sym (log-append front back log);
}

-- one was made, or failed
pub one-wrote : (w : Amend) (held held' : Option (List ℕ)) (log log' : Option (List Amend)) → held' ≡ written w.at w.bytes held → log' ≡ with_write w log → Wrote (w ∷ []) held held' log log'
one-wrote w held held' log log' is logged = record { held_is = is; logged = logged }

pub one-failed : (w : Amend) (held held' : Option (List ℕ)) (log log' : Option (List Amend)) → MayAmend w.at (length w.bytes) held held' → log' ≡ log → WroteSome (w ∷ []) held held' log log'
one-failed w held held' log log' part same = record {
  count = 0;
  logged = same ∙ sym (log-none log);
  held_is = inr (w, refl, subst (λ h. MayAmend w.at (length w.bytes) h held') (sym (held-none held)) part);
}

-- all of them are some of them
pub wrote-all : (ws : List Amend) (held held' : Option (List ℕ)) (log log' : Option (List Amend)) → Wrote ws held held' log log' → WroteSome ws held held' log log'
wrote-all ws held held' log log' all = record {
  count = length ws;
  logged = all.logged ∙ ap (λ l. option_map (λ b. b ++ l) log) (sym (take-length ws));
  held_is = inl (all.held_is ∙ ap (λ l. option_map (applied l) held) (sym (take-length ws)));
}

-- none of them are some of them
pub wrote-nothing : (ws : List Amend) (held : Option (List ℕ)) (log : Option (List Amend)) → WroteSome ws held held log log
wrote-nothing ws held log = record { count = 0; logged = sym (log-none log); held_is = inl (sym (held-none held)) }

get-front : (front back : List Amend) (n : ℕ) (w : Amend) → slice_get front n ≡ Some w → slice_get (front ++ back) n ≡ Some w
get-front [] back n w e = absurd cc
get-front (v ∷ front) back zero w e = e
get-front (v ∷ front) back (suc n) w e = get-front front back n w e

get-back : (front back : List Amend) (n : ℕ) → slice_get (front ++ back) (length front + n) ≡ slice_get back n
get-back [] back n = ap (slice_get back) (zero-plus n)
  where
    zero-plus : (n : ℕ) → 0 + n ≡ n
    zero-plus n = omega arith
get-back (v ∷ front) back n = ap (slice_get (v ∷ (front ++ back))) (suc-plus (length front) n) ∙ get-back front back n
  where
    suc-plus : (m n : ℕ) → suc m + n ≡ suc (m + n)
    suc-plus m n = omega arith

not-within : (n m : ℕ) → n < m → m ≤ n → ⊥
not-within n m a b = omega (arith, a, b)

-- those that stopped within the first list
pub some-front : (front back : List Amend) (held held' : Option (List ℕ)) (log log' : Option (List Amend)) → WroteSome front held held' log log' → WroteSome (front ++ back) held held' log log'
some-front front back held held' log log' some = by_cases (cases_lt some.count (length front)) some.held_is
  where
    by_cases : (some.count < length front) ⊎ (length front ≤ some.count) → HasFirstOf some.count front held held' → WroteSome (front ++ back) held held' log log'
    by_cases (inl few) (inl is) = record {
      count = some.count;
      logged = some.logged ∙ ap (λ l. option_map (λ b. b ++ l) log) (sym (take-append-le some.count front back (omega (arith, few))));
      held_is = inl (is ∙ ap (λ l. option_map (applied l) held) (sym (take-append-le some.count front back (omega (arith, few)))));
    }
    by_cases (inl few) (inr part) = record {
      count = some.count;
      logged = some.logged ∙ ap (λ l. option_map (λ b. b ++ l) log) (sym (take-append-le some.count front back (omega (arith, few))));
      held_is = inr (
        part.0,
        get-front front back some.count part.0 part.1,
        subst (λ l. MayAmend part.0.at (length part.0.bytes) (option_map (applied l) held) held') (sym (take-append-le some.count front back (omega (arith, few)))) part.2,
      );
    }
    by_cases (inr past) (inl is) = record {
      count = length front;
      logged = some.logged ∙ ap (λ l. option_map (λ b. b ++ l) log) (take_all some.count front past ∙ sym (take-append_seam front back));
      held_is = inl (is ∙ ap (λ l. option_map (applied l) held) (take_all some.count front past ∙ sym (take-append_seam front back)));
    }
    by_cases (inr past) (inr part) = absurd (not-within some.count (length front) (slice_get_within front some.count part.0 part.1) past)

-- those that stopped within the second, after all of the first
pub some-back : (front back : List Amend) (held mid held' : Option (List ℕ)) (log log' log'' : Option (List Amend)) →
    Wrote front held mid log log' → WroteSome back mid held' log' log'' → WroteSome (front ++ back) held held' log log''
some-back front back held mid held' log log' log'' first some = record {
  count = length front + some.count;
  logged =
      some.logged ∙ ap (option_map (λ b. b ++ take some.count back)) first.logged ∙ sym (log-append front (take some.count back) log)
      ∙ ap (λ l. option_map (λ b. b ++ l) log) (sym (take-append-add front back some.count));
  held_is = by_part some.held_is;
}
  where
    so-far : option_map (applied (take some.count back)) mid ≡ option_map (applied (take (length front + some.count) (front ++ back))) held
    so-far =
        ap (option_map (applied (take some.count back))) first.held_is ∙ sym (held-append front (take some.count back) held)
        ∙ ap (λ l. option_map (applied l) held) (sym (take-append-add front back some.count))

    by_part : HasFirstOf some.count back mid held' → HasFirstOf (length front + some.count) (front ++ back) held held'
    by_part (inl is) = inl (is ∙ so-far)
    by_part (inr part) = inr (part.0, get-back front back some.count ∙ part.1, subst (λ h. MayAmend part.0.at (length part.0.bytes) h held') so-far part.2)
