-- Bytes of a source, compared piece by piece.
use Rattle.std.proofs.Common.{◌≡◌, ℕ, ◌+◌, ◌-◌, ◌≤◌, List, ◌++◌, length, take, drop, inr, refl, sym, ap, ◌∙◌, subst, arith}
use Rattle.std.specs.Prelude.{⊤, Bool, true, false, bytes_eq, Option, Some, None, IfSome, Result, Ok, Err, OnOk, OnErr}
use Rattle.std.proofs.Math.Seq.{take-add}
use Rattle.std.proofs.lemmas.List.{drop-drop, drop-take, take-take, take_all}
use Rattle.std.proofs.lemmas.Slice.Eq.{bytes_eq-Decides}
use Rattle.fz_base.specs.Source.{MayLog, Reads, has_bytes, logged}

-- what one read logs, whatever it answers
pub read_logs : {T E : Type 0} (result : Result T E) (at count : ℕ) (old new : Option (List (ℕ × ℕ))) → OnOk result (new ≡ logged at count old) → OnErr result (MayLog at count old new) → MayLog at count old new
read_logs (Ok x) at count old new ok err = inr ok
read_logs (Err e) at count old new ok err = err

-- a test that cannot be true is false
is_false : (b : Bool) → (b ≡ true → ⊥) → false ≡ b
is_false true never = absurd (never refl)
is_false false never = refl

abbrev holds : Bool → Type 0
holds true = ⊤
holds false = ⊥

not_both : true ≡ false → ⊥
not_both e = subst holds e tt

-- the first so many bytes are the same
abbrev pub IsSame : Option (List ℕ) → ℕ → List ℕ → ℕ → Type 0
IsSame held at bytes done = IfSome held (λ f. take done (drop at f) ≡ take done bytes)

pub none_same : (held : Option (List ℕ)) (at : ℕ) (bytes : List ℕ) → IsSame held at bytes 0
none_same None at bytes = tt
none_same (Some f) at bytes = refl

-- with a piece more
pub more_same : (held : Option (List ℕ)) (at : ℕ) (bytes piece : List ℕ) (done n : ℕ) → length piece ≡ n → IsSame held at bytes done → Reads held (at + done) piece → bytes_eq piece (take n (drop done bytes)) ≡ true → IsSame held at bytes (done + n)
more_same None at bytes piece done n long so_far read same = tt
more_same (Some f) at bytes piece done n long so_far read same =
    let there : take n (drop done (drop at f)) ≡ take n (drop (at + done) f) = ap (take n) (drop-drop done at f) in
    let here : take n (drop (at + done) f) ≡ piece = sym (read ∙ ap (λ k. take k (drop (at + done) f)) long) in
    let behind : take n (drop done (drop at f)) ≡ take n (drop done bytes) = there ∙ here ∙ (bytes_eq-Decides piece (take n (drop done bytes))).0 same in
    take-add done n (drop at f) ∙ (λ i. so_far i ++ behind i) ∙ sym (take-add done n bytes)

-- all pieces are the same
pub all_same : (held : Option (List ℕ)) (at : ℕ) (bytes : List ℕ) (done : ℕ) → done ≡ length bytes → IsSame held at bytes done → IfSome held (λ f. true ≡ has_bytes f at bytes)
all_same None at bytes done all same = tt
all_same (Some f) at bytes done all same =
    let whole : take (length bytes) (drop at f) ≡ bytes = subst (λ k. take k (drop at f) ≡ take k bytes) all same ∙ take_all (length bytes) bytes (omega arith) in
    sym ((bytes_eq-Decides (take (length bytes) (drop at f)) bytes).1 whole)

-- one is another
pub other_piece : (held : Option (List ℕ)) (at : ℕ) (bytes piece : List ℕ) (done n : ℕ) → length piece ≡ n → done + n ≤ length bytes → Reads held (at + done) piece → bytes_eq piece (take n (drop done bytes)) ≡ false → IfSome held (λ f. false ≡ has_bytes f at bytes)
other_piece None at bytes piece done n long room read other = tt
other_piece (Some f) at bytes piece done n long room read other =
    is_false (has_bytes f at bytes) (λ is.
    let rest : ℕ = length bytes - done in
    let parts : length bytes ≡ done + rest = omega (arith, room) in
    let whole : take (length bytes) (drop at f) ≡ bytes = (bytes_eq-Decides (take (length bytes) (drop at f)) bytes).0 is in
    let behind : drop done (take (done + rest) (drop at f)) ≡ take rest (drop done (drop at f)) = drop-take done rest (drop at f) in
    let there : take n (drop done bytes) ≡ take n (drop done (drop at f)) = ap (λ k. take n (drop done k)) (sym whole) ∙ ap (λ k. take n (drop done (take k (drop at f)))) parts ∙ ap (take n) behind ∙ take-take n rest (drop done (drop at f)) (omega (arith, room)) in
    let here : take n (drop (at + done) f) ≡ piece = sym (read ∙ ap (λ k. take k (drop (at + done) f)) long) in
    let same : piece ≡ take n (drop done bytes) = sym (there ∙ ap (take n) (drop-drop done at f) ∙ here) in
    not_both (sym ((bytes_eq-Decides piece (take n (drop done bytes))).1 same) ∙ other))
