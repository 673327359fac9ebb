-- Writes after byte 0 leave it: it is 0, or the contents are empty.
use Rattle.std.proofs.Common.{◌≡◌, ◌≢◌, ℕ, zero, suc, ◌+◌, ◌<◌, inl, inr, List, [], ◌∷◌, ◌++◌, take, drop, length, replicate, Option, Some, None, Result, Ok, Err, OnOk, OnErr, refl, sym, subst, ◌∙◌, arith}
use Rattle.std.proofs.Math.Nat.{sub-zero}
use Rattle.fz_base.specs.Sink.{overwrite, written, MayWrite, emptied}
use Rattle.fz_base.specs.FirstByte.{IsShut, StaysShut, StopsShut}

gap_shut : ◌≢◌ {A = ℕ} 0 83
gap_shut e = absurd (omega arith)

-- a write after byte 0
overwrite_shut : (at : ℕ) (bytes contents : List ℕ) → 0 < at → IsShut (Some contents) → IsShut (Some (overwrite at bytes contents))
overwrite_shut at [] contents behind shut = shut
overwrite_shut zero (b ∷ bytes) contents behind shut = absurd (omega arith)
overwrite_shut (suc at) (b ∷ bytes) [] behind shut =
    subst (λ (n : ℕ). IsShut (Some (((take (suc at) [] ++ replicate n 0) ++ (b ∷ bytes)) ++ drop (suc at + length (b ∷ bytes)) []))) (sym (sub-zero (suc at))) gap_shut
overwrite_shut (suc at) (b ∷ bytes) (x ∷ contents) behind shut = shut

pub written_shut : (at : ℕ) (bytes : List ℕ) (old new : Option (List ℕ)) → 0 < at → new ≡ written at bytes old → StaysShut old new
written_shut at bytes None new behind e shut = subst IsShut (sym e) tt
written_shut at bytes (Some c) new behind e shut = subst IsShut (sym e) (overwrite_shut at bytes c behind shut)

-- a call that writes after byte 0
pub write_shut : {T E : Type 0} (result : Result T E) (at : ℕ) (bytes : List ℕ) (old new : Option (List ℕ)) → 0 < at →
    OnOk result (new ≡ written at bytes old) → OnErr result (MayWrite at bytes old new) → StaysShut old new
write_shut (Ok x) at bytes old new behind ok err = written_shut at bytes old new behind ok
write_shut (Err e) at bytes old new behind ok err = written_shut at (take (err.0) bytes) old new behind (err.1)

-- the contents of a sink that was just created
pub emptied_shut : (old : Option (List ℕ)) → IsShut (emptied old)
emptied_shut None = tt
emptied_shut (Some c) = tt

-- contents that did not change
pub same_shut : (old new : Option (List ℕ)) → new ≡ old → StaysShut old new
same_shut old new e shut = subst IsShut (sym e) shut

-- no bytes change nothing
pub no_bytes : (at : ℕ) (contents : Option (List ℕ)) → written at [] contents ≡ contents
no_bytes at None = refl
no_bytes at (Some c) = refl

-- a failed write of byte 0 wrote it, or nothing
pub first_byte_stops : (old new : Option (List ℕ)) → MayWrite 0 (83 ∷ []) old new → StopsShut old new
first_byte_stops old new (zero, e) = inl (same_shut old new (e ∙ no_bytes 0 old))
first_byte_stops old new (suc zero, e) = inr e
first_byte_stops old new (suc (suc n), e) = inr e
