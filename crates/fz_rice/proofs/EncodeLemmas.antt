-- The whole code written into a slice.
use Rattle.std.proofs.Common.{◌≡◌, ℕ, ◌+◌, ◌*◌, ◌/◌, ◌%◌, ◌<◌, ◌≤◌, ◌↔◌, inl, inr, sym, Bool, false, ℤ, List, [], ◌∷◌, length, replicate, get_or, take, Result, IsErr, refl, ap, ◌∙◌, arith, length-append}
use mir.Val.{Fits}
use Rattle.std.specs.Int.{w8}
use Rattle.std.proofs.lemmas.List.{length-replicate}
use Rattle.std.proofs.lemmas.List.Elements.{All-from_get_or, All-take}
use Rattle.std.specs.List.{flat_map}
use Rattle.fz_bits.specs.Bits.{fill_len, filled, number_bits, bits_of, bytes_of}
use Rattle.fz_bits.specs.Laws.{NumberLaws, HasWholeBytes, GivesBitsAgain, GivesBytesAgain}
use Rattle.fz_bits.specs.Writer.{written, buffer}
use Rattle.fz_bits.specs.declared.writer.BitWriter.{BitWriter}
use Rattle.fz_bits.specs.declared.writer.Full.{Full}
use Rattle.fz_rice.specs.Numbers.{IsWidth, residue}
use Rattle.fz_rice.specs.Code.{differences, pieces}
use Rattle.fz_rice.specs.Producer.{first_residue, chosen_block, rice_bits, rice_code, rice_bytes}
use Rattle.fz_rice.specs.Writing.{Writes}

length-filled : (bits : List Bool) → length (filled bits) ≡ length bits + fill_len (length bits)
length-filled bits =
    length-append bits (replicate (fill_len (length bits)) false) ∙ ap (λ k. length bits + k) (length-replicate (fill_len (length bits)) false)

pub first_is : (w : ℕ) (xs : List ℤ) (d : ℤ) → 0 < length xs → residue w (get_or xs 0 d) ≡ first_residue w xs
first_is w [] d h = absurd (omega arith)
first_is w (x ∷ xs) d h = refl

-- a code is whole bytes
whole_code : (bits : List Bool) → length (filled bits) % 8 ≡ 0
whole_code bits = omega (arith, length-filled bits)

pub full_is : HasWholeBytes → {A : Type 0} (r : Result A Full) (bits : List Bool) (out : List ℕ) (old new : BitWriter) → buffer old ≡ out → written old ≡ [] → Writes r bits old new → IsErr r ↔ (length out < length (bytes_of (filled bits)))
full_is whole r bits out old new lent empty one =
    let size = ap length empty in
    let room = ap length lent in
    let len = length-filled bits in
    let bytes = whole (filled bits) in
    (λ e. let h = one.full.0 e in omega (arith, h), λ h. one.full.1 (omega (arith, h)))

-- written bytes that have the bits of a code are its bytes
pub code_is : GivesBytesAgain → (out : List ℕ) (len : ℕ) (bits : List Bool) → ((i : ℕ) → Fits w8 (get_or out i 0)) → bits_of (take len out) ≡ filled bits → take len out ≡ bytes_of (filled bits)
code_is again out len bits small is =
    sym (again (take len out) (All-take (λ b. b < 256) len out (All-from_get_or (λ b. b < 256) out 0 (λ i within. omega (arith, small i))))) ∙ ap bytes_of is

-- the bytes of a code
pub code_bits : GivesBitsAgain → (w block : ℕ) (xs : List ℤ) → bits_of (rice_bytes w block xs) ≡ rice_code w block xs
code_bits again w block xs = again (rice_code w block xs) (whole_code (rice_bits w block xs))

width_some : (w : ℕ) → IsWidth w → 8 ≤ w
width_some w is = elim is [
  | inl e ↦ omega (arith, e)
  | inr f ↦ elim f [ inl e ↦ omega (arith, e) | inr e ↦ omega (arith, e) ]
]

-- the code has at least the bits of its start value
pub code_some : NumberLaws → HasWholeBytes → (w block : ℕ) (xs : List ℤ) → IsWidth w → 1 ≤ length (rice_bytes w block xs)
code_some numbers whole w block xs is =
    let blocks = flat_map (chosen_block w) (pieces block (differences w (first_residue w xs) xs)) in
    let front = length-append (number_bits w (first_residue w xs)) blocks in
    let size = numbers.many w (first_residue w xs) in
    omega (arith, whole (rice_code w block xs), length-filled (rice_bits w block xs), front, size, width_some w is)
