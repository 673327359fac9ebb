-- What the plain program reads of bits is a code that they begin with, or why they begin with none.
use Rattle.std.proofs.Common.{◌≡◌, ℕ, ◌+◌, ◌/◌, Bool, ℤ, List, [], ◌++◌, length, Ok, Err, refl, sym, ap, ◌∙◌, arith}
use Rattle.std.proofs.lemmas.List.{append-nil}
use Rattle.fz_rice.specs.Reading.{Reading, code_at}
use Rattle.fz_rice.specs.declared.coder.CodeFault.TheVariants.{Ended, Unlawful}
use Rattle.fz_laws.specs.RoundTripTaken.{CodesAreRead, IsReadingOf}
use Rattle.fz_laws.proofs.RiceCodes.{RiceCodes, code_reader}
use Rattle.fz_laws.proofs.RiceReaders.{IsReader}

never_both : {A : Type 0} (a : A) (r : Reading A) (rest : List Bool) → r ≡ Ok (a, rest) → r ≡ Err Unlawful → ⊥
never_both a r rest e f = absurd cc

reading_is : (w block n : ℕ) (bits : List Bool) → IsReader (RiceCodes w block n) (code_at w block n) → (x : Reading (List ℤ)) → code_at w block n bits ≡ x → IsReadingOf w block n bits x
reading_is w block n bits reader (Ok code) e =
    let front = reader.sound bits code.0 code.1 e in
    ((length front.0 + 7) / 8, front.1.0, record { code = front.0; rest = code.1; is_code = front.1.1; is = front.2; len = refl })
reading_is w block n bits reader (Err Ended) e = let begun = reader.ended bits e in (begun.0, begun.1, begun.3.0, begun.2, begun.3.1)
reading_is w block n bits reader (Err Unlawful) e = (
  λ begins.
      let code = begins.3 in
      let read : code_at w block n bits ≡ Ok (begins.0, code.rest) = ap (code_at w block n) code.is ∙ reader.complete begins.0 code.code code.rest (begins.2, code.is_code) in
      never_both begins.0 (code_at w block n bits) code.rest read e,
  λ begun.
      let more : List Bool = bits ++ begun.1 in
      let read : code_at w block n more ≡ Ok (begun.0, []) = ap (code_at w block n) (sym (append-nil more)) ∙ reader.complete begun.0 more [] (begun.2, begun.4) in
      never_both begun.0 (code_at w block n more) [] read (reader.unlawful bits begun.1 e),
)

pub codes_are_read : CodesAreRead
codes_are_read w block n bits is some = reading_is w block n bits (code_reader w block n is (omega (arith, some))) (code_at w block n bits) refl
