use Rattle.std.proofs.Common.{◌≡◌, ◌+◌, ◌-◌, ◌/◌, ◌<◌, Bool, List, length, Ok, Err, refl, subst, ap, ◌∙◌, arith}
use Rattle.std.proofs.lemmas.Result.{err_from_is_err_and}
use Rattle.fz_bits.specs.Bits.{bits_of}
use Rattle.fz_bits.specs.Reader.{left}
use Rattle.fz_rice.specs.Reading.{number_at}
use Rattle.fz_rice.proofs.DecodeLemmas.{begins, answer_fault_ok, answer_fault_ended, answer_fault_unlawful, answer_ok, answer_ended, answer_unlawful, code_start_fault, code_blocks_fault, code_read, eighths}
use Rattle.fz_rice.proofs.coder.Coder.decode.Goals as goal

pub returns-in_err-start-clause-ok : goal.returns-in_err-start-clause-ok
returns-in_err-start-clause-ok g c =
    let w = g.row.W in
    let block = c.args.block in
    let n = length c.args.numbers.now in
    let bits = bits_of c.args.code.now in
    let some : 0 < block = omega (arith, c.requires.block.0) in
    let e = c.in_err-start.field-0.0 in
    let one : number_at w bits ≡ Err e = subst (λ (x : List Bool). number_at w x ≡ Err e) c.new-reader.ensures.left c.in_err-start.ensures.number in
    let read = code_start_fault w block n bits e one in
    let p = err_from_is_err_and c.from_residual.result c.from_residual.ensures.1 in
    rw p.1 (answer_fault_ok c.number_law.ensures w block n c.requires.width some bits e read)

pub returns-in_err-start-clause-ended : goal.returns-in_err-start-clause-ended
returns-in_err-start-clause-ended g c =
    let w = g.row.W in
    let block = c.args.block in
    let n = length c.args.numbers.now in
    let bits = bits_of c.args.code.now in
    let some : 0 < block = omega (arith, c.requires.block.0) in
    let e = c.in_err-start.field-0.0 in
    let one : number_at w bits ≡ Err e = subst (λ (x : List Bool). number_at w x ≡ Err e) c.new-reader.ensures.left c.in_err-start.ensures.number in
    let read = code_start_fault w block n bits e one in
    let p = err_from_is_err_and c.from_residual.result c.from_residual.ensures.1 in
    rw (p.1, p.2) (answer_fault_ended c.number_law.ensures w block n c.requires.width some bits e read)

pub returns-in_err-start-clause-unlawful : goal.returns-in_err-start-clause-unlawful
returns-in_err-start-clause-unlawful g c =
    let w = g.row.W in
    let block = c.args.block in
    let n = length c.args.numbers.now in
    let bits = bits_of c.args.code.now in
    let some : 0 < block = omega (arith, c.requires.block.0) in
    let e = c.in_err-start.field-0.0 in
    let one : number_at w bits ≡ Err e = subst (λ (x : List Bool). number_at w x ≡ Err e) c.new-reader.ensures.left c.in_err-start.ensures.number in
    let read = code_start_fault w block n bits e one in
    let p = err_from_is_err_and c.from_residual.result c.from_residual.ensures.1 in
    rw (p.1, p.2) (answer_fault_unlawful c.number_law.ensures w block n c.requires.width some bits e read)

pub returns-in_err-read_blocks-clause-ok : goal.returns-in_err-read_blocks-clause-ok
returns-in_err-read_blocks-clause-ok g c =
    let w = g.row.W in
    let block = c.args.block in
    let n = length c.args.numbers.now in
    let bits = bits_of c.args.code.now in
    let some : 0 < block = omega (arith, c.requires.block.0) in
    let e = c.in_err-read_blocks.field-0.0 in
    let more = left c.read_number.new.reader in
    let one : number_at w bits ≡ Ok (c.in_ok-start.start, more) = subst (λ (x : List Bool). number_at w x ≡ Ok (c.in_ok-start.start, more)) c.new-reader.ensures.left c.in_ok-start.ensures.number in
    let read = code_blocks_fault w block n c.in_ok-start.start bits more e one c.in_err-read_blocks.ensures.numbers in
    let p = err_from_is_err_and c.from_residual-in_err-read_blocks.result c.from_residual-in_err-read_blocks.ensures.1 in
    rw p.1 (answer_fault_ok c.number_law.ensures w block n c.requires.width some bits e read)

pub returns-in_err-read_blocks-clause-ended : goal.returns-in_err-read_blocks-clause-ended
returns-in_err-read_blocks-clause-ended g c =
    let w = g.row.W in
    let block = c.args.block in
    let n = length c.args.numbers.now in
    let bits = bits_of c.args.code.now in
    let some : 0 < block = omega (arith, c.requires.block.0) in
    let e = c.in_err-read_blocks.field-0.0 in
    let more = left c.read_number.new.reader in
    let one : number_at w bits ≡ Ok (c.in_ok-start.start, more) = subst (λ (x : List Bool). number_at w x ≡ Ok (c.in_ok-start.start, more)) c.new-reader.ensures.left c.in_ok-start.ensures.number in
    let read = code_blocks_fault w block n c.in_ok-start.start bits more e one c.in_err-read_blocks.ensures.numbers in
    let p = err_from_is_err_and c.from_residual-in_err-read_blocks.result c.from_residual-in_err-read_blocks.ensures.1 in
    rw (p.1, p.2) (answer_fault_ended c.number_law.ensures w block n c.requires.width some bits e read)

pub returns-in_err-read_blocks-clause-unlawful : goal.returns-in_err-read_blocks-clause-unlawful
returns-in_err-read_blocks-clause-unlawful g c =
    let w = g.row.W in
    let block = c.args.block in
    let n = length c.args.numbers.now in
    let bits = bits_of c.args.code.now in
    let some : 0 < block = omega (arith, c.requires.block.0) in
    let e = c.in_err-read_blocks.field-0.0 in
    let more = left c.read_number.new.reader in
    let one : number_at w bits ≡ Ok (c.in_ok-start.start, more) = subst (λ (x : List Bool). number_at w x ≡ Ok (c.in_ok-start.start, more)) c.new-reader.ensures.left c.in_ok-start.ensures.number in
    let read = code_blocks_fault w block n c.in_ok-start.start bits more e one c.in_err-read_blocks.ensures.numbers in
    let p = err_from_is_err_and c.from_residual-in_err-read_blocks.result c.from_residual-in_err-read_blocks.ensures.1 in
    rw (p.1, p.2) (answer_fault_unlawful c.number_law.ensures w block n c.requires.width some bits e read)

pub returns-clause-numbers : goal.returns-clause-numbers
returns-clause-numbers g c =
    let w = g.row.W in
    let block = c.args.block in
    let n = length c.args.numbers.now in
    let bits = bits_of c.args.code.now in
    let some : 0 < block = omega (arith, c.requires.block.0) in
    let more = left c.read_number.new.reader in
    let rest = left c.read_blocks.new.reader in
    let xs = c.read_blocks.new.numbers in
    let one : number_at w bits ≡ Ok (c.in_ok-start.start, more) = subst (λ (x : List Bool). number_at w x ≡ Ok (c.in_ok-start.start, more)) c.new-reader.ensures.left c.in_ok-start.ensures.number in
    let gives = c.in_ok-read_blocks.ensures.numbers in
    let read = code_read w block n c.in_ok-start.start _ bits more rest xs one gives in
    let counted : c.place.result + length rest ≡ length bits = omega (arith, c.place.ensures, c.in_ok-read_blocks.ensures.count, c.in_ok-start.ensures.count, c.new-reader.ensures.place, ap length c.new-reader.ensures.left) in
    let size : c.div_ceil.result ≡ (length bits - length rest + 7) / 8 = c.div_ceil.ensures ∙ eighths c.place.result ∙ ap (λ k. (k + 7) / 8) (omega arith) in
    begins c.number_law.ensures w block n c.requires.width some bits xs rest c.div_ceil.result read size

pub returns-clause-ok : goal.returns-clause-ok
returns-clause-ok g c =
    let w = g.row.W in
    let block = c.args.block in
    let n = length c.args.numbers.now in
    let bits = bits_of c.args.code.now in
    let some : 0 < block = omega (arith, c.requires.block.0) in
    let more = left c.read_number.new.reader in
    let rest = left c.read_blocks.new.reader in
    let xs = c.read_blocks.new.numbers in
    let one : number_at w bits ≡ Ok (c.in_ok-start.start, more) = subst (λ (x : List Bool). number_at w x ≡ Ok (c.in_ok-start.start, more)) c.new-reader.ensures.left c.in_ok-start.ensures.number in
    let gives = c.in_ok-read_blocks.ensures.numbers in
    let read = code_read w block n c.in_ok-start.start _ bits more rest xs one gives in
    let counted : c.place.result + length rest ≡ length bits = omega (arith, c.place.ensures, c.in_ok-read_blocks.ensures.count, c.in_ok-start.ensures.count, c.new-reader.ensures.place, ap length c.new-reader.ensures.left) in
    let size : c.div_ceil.result ≡ (length bits - length rest + 7) / 8 = c.div_ceil.ensures ∙ eighths c.place.result ∙ ap (λ k. (k + 7) / 8) (omega arith) in
    (λ _. answer_ok c.number_law.ensures w block n c.requires.width some bits xs rest c.div_ceil.result read size, λ _. refl)

pub returns-clause-ended : goal.returns-clause-ended
returns-clause-ended g c =
    let w = g.row.W in
    let block = c.args.block in
    let n = length c.args.numbers.now in
    let bits = bits_of c.args.code.now in
    let some : 0 < block = omega (arith, c.requires.block.0) in
    let more = left c.read_number.new.reader in
    let rest = left c.read_blocks.new.reader in
    let xs = c.read_blocks.new.numbers in
    let one : number_at w bits ≡ Ok (c.in_ok-start.start, more) = subst (λ (x : List Bool). number_at w x ≡ Ok (c.in_ok-start.start, more)) c.new-reader.ensures.left c.in_ok-start.ensures.number in
    let gives = c.in_ok-read_blocks.ensures.numbers in
    let read = code_read w block n c.in_ok-start.start _ bits more rest xs one gives in
    let counted : c.place.result + length rest ≡ length bits = omega (arith, c.place.ensures, c.in_ok-read_blocks.ensures.count, c.in_ok-start.ensures.count, c.new-reader.ensures.place, ap length c.new-reader.ensures.left) in
    let size : c.div_ceil.result ≡ (length bits - length rest + 7) / 8 = c.div_ceil.ensures ∙ eighths c.place.result ∙ ap (λ k. (k + 7) / 8) (omega arith) in
    answer_ended c.number_law.ensures w block n c.requires.width some bits xs rest c.div_ceil.result read

pub returns-clause-unlawful : goal.returns-clause-unlawful
returns-clause-unlawful g c =
    let w = g.row.W in
    let block = c.args.block in
    let n = length c.args.numbers.now in
    let bits = bits_of c.args.code.now in
    let some : 0 < block = omega (arith, c.requires.block.0) in
    let more = left c.read_number.new.reader in
    let rest = left c.read_blocks.new.reader in
    let xs = c.read_blocks.new.numbers in
    let one : number_at w bits ≡ Ok (c.in_ok-start.start, more) = subst (λ (x : List Bool). number_at w x ≡ Ok (c.in_ok-start.start, more)) c.new-reader.ensures.left c.in_ok-start.ensures.number in
    let gives = c.in_ok-read_blocks.ensures.numbers in
    let read = code_read w block n c.in_ok-start.start _ bits more rest xs one gives in
    let counted : c.place.result + length rest ≡ length bits = omega (arith, c.place.ensures, c.in_ok-read_blocks.ensures.count, c.in_ok-start.ensures.count, c.new-reader.ensures.place, ap length c.new-reader.ensures.left) in
    let size : c.div_ceil.result ≡ (length bits - length rest + 7) / 8 = c.div_ceil.ensures ∙ eighths c.place.result ∙ ap (λ k. (k + 7) / 8) (omega arith) in
    answer_unlawful c.number_law.ensures w block n c.requires.width some bits xs rest c.div_ceil.result read size
