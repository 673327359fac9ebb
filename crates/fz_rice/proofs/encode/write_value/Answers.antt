use Rattle.std.proofs.Common.{◌≡◌, ◌+◌, ◌-◌, ◌*◌, ◌/◌, ◌%◌, ◌^◌, bit_and, Bool, true, false, List, [], ◌∷◌, ◌++◌, length, replicate, Ok, refl, subst, ap, ◌∙◌, arith, append_assoc, length-append}
use Rattle.std.proofs.lemmas.Nat.{mod_below, pow_pos}
use Rattle.std.proofs.lemmas.List.{length-replicate}
use Rattle.fz_bits.specs.Bits.{number_bits}
use Rattle.fz_rice.specs.Writing.{Writes}
use Rattle.fz_rice.proofs.WritesLemmas.{low_bits, writes_of, writes_seq}
use Rattle.fz_rice.proofs.encode.write_value.Goals as goal

pub returns-then-zeros-k : goal.returns-then-zeros-k
returns-then-zeros-k c =
    subst (λ (x : List Bool). Writes c.write.result x c.args.writer.now c.write.new.writer) c.of_value.ensures.bits c.write.ensures

pub write_number-requires-clause-fits : goal.write_number-requires-clause-fits
write_number-requires-clause-fits c = rw (low_bits 32 c.args.k c.args.value c.requires) (mod_below c.args.value (2 ^ c.args.k) (pow_pos c.args.k))

pub returns : goal.returns
returns c =
    let k = c.args.k in
    let q = c.args.value / 2 ^ k in
    let old = c.args.writer.now in
    let mid = c.unary.new.self in
    let new = c.write_number.new.writer in
    let low = bit_and c.args.value (1 * 2 ^ k % 4294967296 - 1) in
    let u = c.in_ok-unary.ensures in
    let front = replicate q false ++ true ∷ [] in
    let size : length front ≡ q + 1 = length-append (replicate q false) (true ∷ []) ∙ omega (arith, length-replicate q false) in
    let first : Writes {A = Unit {0}} (Ok c.in_ok-unary.field-0) front old mid = writes_of (Ok c.in_ok-unary.field-0) front front (q + 1) old mid u.same u.room u.ok ((λ e. omega (arith, u.full.0 e)), (λ h. u.full.1 (omega (arith, h)))) refl size in
    let is : number_bits k low ≡ number_bits k c.args.value = ap (number_bits k) (low_bits 32 k c.args.value c.requires) ∙ c.number_law.ensures.last k c.args.value in
    let second : Writes c.write_number.result (number_bits k c.args.value) mid new = subst (λ (x : List Bool). Writes c.write_number.result x mid new) is c.write_number.ensures in
    subst (λ (x : List Bool). Writes {A = Unit {0}} c.write_number.result x old new) (append_assoc (replicate q false) (true ∷ []) (number_bits k c.args.value)) (writes_seq c.in_ok-unary.field-0 c.write_number.result front (number_bits k c.args.value) old mid new first second)
