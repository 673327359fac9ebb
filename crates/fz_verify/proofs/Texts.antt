-- What a text has got, piece by piece.
use Rattle.std.proofs.Common.{◌≡◌, ℕ, ◌+◌, min, List, [], ◌++◌, length, take, refl, sym, ap, ◌∙◌, arith}
use Rattle.std.specs.Prelude.{Option, Some, None}
use Rattle.std.proofs.Math.Seq.{take-append-add, take-length}
use Rattle.std.proofs.lemmas.List.{append-nil, append_assoc, take-append-le, take_min}
use Rattle.fz_base.specs.Sink.{MayAppend, appended}

-- nothing more
pub appended_none : (old : Option (List ℕ)) → old ≡ appended [] old
appended_none None = refl
appended_none (Some text) = ap Some (sym (append-nil text))

-- one piece after another
pub appended_both : (a b : List ℕ) (old : Option (List ℕ)) → appended b (appended a old) ≡ appended (a ++ b) old
appended_both a b None = refl
appended_both a b (Some text) = ap Some (append_assoc text a b)

pub got_both : (a b : List ℕ) (old mid new : Option (List ℕ)) → mid ≡ appended a old → new ≡ appended b mid → new ≡ appended (a ++ b) old
got_both a b old mid new first next = next ∙ ap (appended b) first ∙ appended_both a b old

-- ---- fronts

take_front : (a b : List ℕ) (n : ℕ) → take (min n (length a)) (a ++ b) ≡ take n a
take_front a b n = take-append-le (min n (length a)) a b (omega arith) ∙ take_min n a

-- nothing is a front
pub front_none : (bytes : List ℕ) (old : Option (List ℕ)) → MayAppend bytes old old
front_none bytes old = (0, appended_none old)

-- and all is one
pub front_all : (a : List ℕ) (old new : Option (List ℕ)) → new ≡ appended a old → MayAppend a old new
front_all a old new is = (length a, is ∙ ap (λ l. appended l old) (sym (take-length a)))

-- a front of a piece is one of longer pieces
pub front_wider : (a b : List ℕ) (old new : Option (List ℕ)) → MayAppend a old new → MayAppend (a ++ b) old new
front_wider a b old new (n, is) = (min n (length a), is ∙ ap (λ l. appended l old) (sym (take_front a b n)))

-- and so is one after a whole piece
pub front_behind : (a b : List ℕ) (old mid new : Option (List ℕ)) → mid ≡ appended a old → MayAppend b mid new → MayAppend (a ++ b) old new
front_behind a b old mid new first (n, is) =
    (length a + n, is ∙ ap (appended (take n b)) first ∙ appended_both a (take n b) old ∙ ap (λ l. appended l old) (sym (take-append-add a b n)))
