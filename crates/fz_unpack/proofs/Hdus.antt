-- What was written of an HDU, without byte 0 of the file (FITS 4.0, section 4.4.1.1).
use Rattle.std.proofs.Common.{◌≡◌, ℕ, zero, suc, ◌+◌, ◌<◌, List, [], ◌∷◌, ◌++◌, length, Option, Some, None, refl, ap, ◌∙◌, arith}
use Rattle.fz_base.specs.Sink.{written}
use Rattle.fz_job.specs.Behind.{written_behind}

-- ---- what is written

-- nothing more was written
pub none_behind : (at : ℕ) (contents : Option (List ℕ)) → contents ≡ written_behind at [] contents
none_behind zero None = refl
none_behind zero (Some c) = refl
none_behind (suc at) None = refl
none_behind (suc at) (Some c) = refl

-- after byte 0 all bytes are written
pub behind_some : (at : ℕ) (bytes : List ℕ) (contents : Option (List ℕ)) → 0 < at → written_behind at bytes contents ≡ written at bytes contents
behind_some zero bytes contents some = absurd (omega (arith, some))
behind_some (suc at) bytes contents some = refl

-- two writes one after another are one
abbrev pub AreOneWrite : Type 0
AreOneWrite = (at : ℕ) (front back : List ℕ) (contents : Option (List ℕ)) → written (at + length front) back (written at front contents) ≡ written at (front ++ back) contents

pub both_behind : AreOneWrite → (at : ℕ) (front back : List ℕ) (contents : Option (List ℕ)) → 0 < at + length front →
    written_behind (at + length front) back (written_behind at front contents) ≡ written_behind at (front ++ back) contents
both_behind next zero [] back contents some = absurd (omega (arith, some))
both_behind next zero (b ∷ front) back contents some =
    let place : 0 + length (b ∷ front) ≡ 1 + length front = omega arith in
    behind_some (0 + length (b ∷ front)) back (written 1 front contents) some
    ∙ ap (λ n. written n back (written 1 front contents)) place ∙ next 1 front back contents
both_behind next (suc at) front back contents some =
    behind_some (suc at + length front) back (written (suc at) front contents) some ∙ next (suc at) front back contents
