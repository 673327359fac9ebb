-- What bits begin with.
use Rattle.std.proofs.Common.{◌≡◌, ℕ, ◌+◌, ◌/◌, ◌≤◌, ◌⊎◌, Bool, ℤ, List, [], ◌∷◌, ◌++◌, length, Result, Ok, Err, inl, inr, refl, sym, subst, ap, ◌∙◌, arith, append_assoc, length-append}
use Rattle.std.proofs.lemmas.List.{append-nil}
use Rattle.fz_bits.specs.Laws.{NumberLaws}
use Rattle.fz_rice.specs.Numbers.{IsWidth}
use Rattle.fz_rice.specs.Code.{IsRiceCode}
use Rattle.fz_rice.specs.Prefix.{BeginsWith, BeginsWithCode, IsBeginning}
use Rattle.fz_rice.specs.Reading.{Reading, code_at}
use Rattle.fz_rice.specs.declared.coder.CodeFault.{CodeFault}
use Rattle.fz_rice.specs.declared.coder.CodeFault.TheVariants.{Ended, Unlawful}
use Rattle.fz_rice.proofs.Readers.{ok_parts}
use Rattle.fz_rice.proofs.CodeReaders.{code_reader}
use Rattle.fz_rice.proofs.LawLemmas.{one_code_is}

-- the plain program reads the code that bits begin with
reads : NumberLaws → (w block : ℕ) (xs : List ℤ) (bytes : ℕ) (bits : List Bool) → IsWidth w → 1 ≤ block → (b : BeginsWith w block xs bytes bits) → code_at w block (length xs) bits ≡ Ok (xs, b.rest)
reads laws w block xs bytes bits is some b =
    ap (code_at w block (length xs)) b.is ∙ (code_reader laws w block (length xs) is (omega arith)).complete xs b.code b.rest (refl, b.is_code)

pub one_reading : NumberLaws → (w block : ℕ) (xs ys : List ℤ) (bytes more : ℕ) (bits : List Bool) → IsWidth w → 1 ≤ block → length ys ≡ length xs → BeginsWith w block xs bytes bits → BeginsWith w block ys more bits → (ys ≡ xs) × (more ≡ bytes)
one_reading laws w block xs ys bytes more bits is some same x y =
    let mine = reads laws w block xs bytes bits is some x in
    let theirs : code_at w block (length xs) bits ≡ Ok (ys, y.rest) = ap (λ n. code_at w block n bits) (sym same) ∙ reads laws w block ys more bits is some y in
    let parts = ok_parts ys xs y.rest x.rest (sym theirs ∙ mine) in
    let whole = ap length x.is ∙ length-append x.code x.rest in
    let whole' = ap length y.is ∙ length-append y.code y.rest in
    let rest = ap length parts.1 in
    let codes : length y.code ≡ length x.code = omega (arith, whole, whole', rest) in
    (parts.0, y.len ∙ ap (λ n. (n + 7) / 8) codes ∙ sym x.len)

nil_behind : (x y : List Bool) → x ++ y ≡ [] → y ≡ []
nil_behind [] y e = e
nil_behind (b ∷ x) y e = absurd (let h : ⊥ = cc in h)

pub no_beginning : NumberLaws → (w block n : ℕ) (bits : List Bool) → IsWidth w → 1 ≤ block → BeginsWithCode w block n bits → IsBeginning w block n bits → ⊥
no_beginning laws w block n bits is some c b =
    let front = c.3 in
    let whole : bits ++ b.1 ≡ front.code ++ (front.rest ++ b.1) = ap (λ l. l ++ b.1) front.is ∙ append_assoc front.code front.rest b.1 in
    let long = subst (IsRiceCode w block b.0) whole b.4 in
    let none = (one_code_is laws w block c.0 b.0 front.code (front.rest ++ b.1) is some (c.2 ∙ sym b.2) front.is_code long).1 in
    b.3 (nil_behind front.rest b.1 none)

answer_of : NumberLaws → (w block n : ℕ) (bits : List Bool) → IsWidth w → 1 ≤ block → (r : Result (List ℤ × List Bool) CodeFault) → code_at w block n bits ≡ r →
    BeginsWithCode w block n bits ⊎ (IsBeginning w block n bits ⊎ ((BeginsWithCode w block n bits → ⊥) × (IsBeginning w block n bits → ⊥)))
answer_of laws w block n bits is some (Ok p) e =
    let s = (code_reader laws w block n is (omega arith)).sound bits p.0 p.1 e in
    inl (p.0, (length s.0 + 7) / 8, s.1.0, record { code = s.0; rest = p.1; is_code = s.1.1; is = s.2; len = refl })
answer_of laws w block n bits is some (Err Ended) e =
    let s = (code_reader laws w block n is (omega arith)).ended bits e in
    inr (inl (s.0, s.1, s.3.0, s.2, s.3.1))
answer_of laws w block n bits is some (Err Unlawful) e =
    inr (inr (
      λ c.
          let same = reads laws w block c.0 c.1 bits is some c.3 in
          let clash : ◌≡◌ {A = Reading (List ℤ)} (Err Unlawful) (Ok (c.0, c.3.rest)) = sym e ∙ ap (λ k. code_at w block k bits) (sym c.2) ∙ same in
          absurd (let h : ⊥ = cc in h),
      λ b.
          let longer = (code_reader laws w block n is (omega arith)).unlawful bits b.1 e in
          let read : code_at w block n (bits ++ b.1) ≡ Ok (b.0, []) = ap (code_at w block n) (sym (append-nil (bits ++ b.1))) ∙ (code_reader laws w block n is (omega arith)).complete b.0 (bits ++ b.1) [] (b.2, b.4) in
          let clash : ◌≡◌ {A = Reading (List ℤ)} (Err Unlawful) (Ok (b.0, [])) = sym longer ∙ read in
          absurd (let h : ⊥ = cc in h),
    ))

pub some_answer : NumberLaws → (w block n : ℕ) (bits : List Bool) → IsWidth w → 1 ≤ block →
    BeginsWithCode w block n bits ⊎ (IsBeginning w block n bits ⊎ ((BeginsWithCode w block n bits → ⊥) × (IsBeginning w block n bits → ⊥)))
some_answer laws w block n bits is some = answer_of laws w block n bits is some (code_at w block n bits) refl
