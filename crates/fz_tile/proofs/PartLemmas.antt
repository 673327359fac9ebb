-- From what was read of a code to the pixels of a tile.
use Rattle.std.proofs.Common.{◌≡◌, ℕ, ◌+◌, ◌-◌, ◌*◌, ◌%◌, ◌^◌, ◌<◌, ◌≤◌, ℤ, List, length, take, drop, Option, Some, None, [], MatchOption, ◌++◌, ◌⊎◌, inl, inr, refl, sym, subst, ap, ◌∙◌, arith, length-append, length-drop}
use Rattle.std.specs.List.{All}
use Rattle.std.proofs.Math.Nat.{mod-add-mod, zero-mod}
use Rattle.std.proofs.lemmas.List.Elements.{All-take, All-drop}
use Rattle.fz_bits.specs.Bits.{bits_of}
use Rattle.fz_bits.specs.Numbers.{IsNumber}
use Rattle.fz_bits.specs.Laws.{HasEightBits}
use Rattle.fz_rice.specs.Numbers.{IsWidth}
use Rattle.fz_rice.specs.Marks.{ReadsOn, StopsAfter, with_before}
use Rattle.fz_rice.specs.MarkLaws.{HoldsLast, LeadsOn, AreNext, NeverStops, ReadsOnInAll, StopsInAll, HasStart}
use Rattle.fz_rice.specs.declared.marks.Mark.{Mark}
use Rattle.fz_tile.specs.declared.codec.Codec.{Codec}
use Rattle.fz_tile.specs.declared.codec.Codec.TheVariants.{Rice}
use Rattle.fz_tile.specs.Codecs.{CanRead, IsBlock, ReadsCodes}
use Rattle.fz_tile.specs.Parts.{IsRest, IsPart, ReadsPart, ReadsCodeOn, HasFirstMark, HasStartMark}
use Rattle.fz_tile.specs.Refusals.{SomeOutside}

-- the laws of marks that are used
pub record Laws : Type 0 where
  pub eight : HasEightBits
  pub last : HoldsLast
  pub on : LeadsOn
  pub next : AreNext
  pub never : NeverStops
  pub moved : ReadsOnInAll
  pub moved_stop : StopsInAll

module _ (laws : Laws) (block bytepix bitpix : ℕ) (is : IsWidth (8 * bytepix)) (some : 1 ≤ block) (code : List ℕ) (mark : Mark) (first total i : ℕ) (read : List ℕ) (xs : List ℤ) (r : IsRest (Rice block bytepix) bitpix code mark first total i read xs) where
  part_is : (numbers : List ℤ) (next : Mark) → i + length numbers ≤ length xs → ReadsOn (8 * bytepix) block (bits_of code) mark numbers next → IsPart (Rice block bytepix) first i read xs numbers next
  part_is numbers next few reads =
      let w = 8 * bytepix in
      let bits = bits_of read in
      let ys = r.mark_is.0 in
      let len = r.mark_is.1 in
      let n = length numbers in
      let whole : length ys % block ≡ 0 = ap (λ k. k % block) len ∙ r.mark_is.2 in
      let all = laws.moved w block first read numbers mark next r.within (subst (λ (l : List ℕ). ReadsOn w block (bits_of l) mark numbers next) r.code_is reads) in
      let begins = r.stands.meaning in
      let pixels = laws.next w block xs ys numbers begins.0 bits (with_before first mark) (with_before first next) is some whole (omega (arith, len, few)) begins.1 r.mark_is.3 all in
      record {
        pixels = pixels ∙ ap (λ k. take n (drop k xs)) len;
        next_is = λ fits.
            (ys ++ numbers, length-append ys numbers ∙ ap (λ k. k + n) len, sym (mod-add-mod i block n) ∙ ap (λ k. (k + n) % block) r.mark_is.2 ∙ ap (λ k. k % block) (let e : 0 + n ≡ n = omega arith in e) ∙ fits, laws.on w block ys numbers bits (with_before first mark) (with_before first next) some whole r.mark_is.3 all);
      }

  part_some : (n : ℕ) (result : Option Mark) (numbers : List ℤ) → length numbers ≡ n → i + n ≤ length xs → ReadsCodeOn (8 * bytepix) block code mark n numbers result → MatchOption result ⊥ (λ next. IsPart (Rice block bytepix) first i read xs numbers next)
  part_some n (Some next) numbers len few reads = part_is numbers next (omega (arith, len, few)) reads
  part_some n None numbers len few none =
      let w = 8 * bytepix in
      let ys = r.mark_is.0 in
      let whole : length ys % block ≡ 0 = ap (λ k. k % block) r.mark_is.1 ∙ r.mark_is.2 in
      let size : length code ≡ length read - first = ap length r.code_is ∙ length-drop first read in
      let within : mark.bit ≤ 8 * length code = omega (arith, size, r.within, r.mark_is.3.within, laws.eight read) in
      let last : mark.last < 2 ^ w = laws.last w block ys (bits_of read) (with_before first mark) is r.mark_is.3 in
      let stop = none within last in
      let begins = r.stands.meaning in
      let moved = laws.moved_stop w block first n read mark stop.0 (subst (λ (l : List ℕ). StopsAfter w block (bits_of l) mark n stop.0) r.code_is stop.1) in
      laws.never w block xs ys begins.0 n (bits_of read) (with_before first mark) stop.0 is some whole (omega (arith, r.mark_is.1, few)) begins.1 r.mark_is.3 moved

  part_in_range : (numbers : List ℤ) (next : Mark) → IsPart (Rice block bytepix) first i read xs numbers next → SomeOutside bitpix numbers → ⊥
  part_in_range numbers next part out =
      out (subst (λ (l : List ℤ). All (IsNumber bitpix) l) (sym part.pixels) (All-take (IsNumber bitpix) (length numbers) (drop i xs) (All-drop (IsNumber bitpix) i xs r.stands.pixels)))

-- the same of the codec
pub reads_part : Laws → (codec : Codec) (block bytepix bitpix : ℕ) (code : List ℕ) (mark : Mark) (n : ℕ) (result : Option Mark) (numbers : List ℤ) → codec ≡ Rice block bytepix → IsWidth (8 * bytepix) → 1 ≤ block → length numbers ≡ n → ReadsCodeOn (8 * bytepix) block code mark n numbers result → ReadsPart codec bitpix code mark n numbers result
reads_part laws codec block bytepix bitpix code mark n result numbers e is some len reads =
    subst (λ (k : Codec). ReadsPart k bitpix code mark n numbers result) (sym e)
    (λ first total i read xs r few. part_some laws block bytepix bitpix is some code mark first total i read xs r n result numbers len few reads)

-- numbers outside of the range are of no record
pub outside_part : Laws → (codec : Codec) (block bytepix bitpix : ℕ) (code : List ℕ) (mark next : Mark) (n : ℕ) (numbers : List ℤ) → codec ≡ Rice block bytepix → IsWidth (8 * bytepix) → 1 ≤ block → length numbers ≡ n → ReadsOn (8 * bytepix) block (bits_of code) mark numbers next → SomeOutside bitpix numbers → ReadsPart codec bitpix code mark n numbers None
outside_part laws codec block bytepix bitpix code mark next n numbers e is some len reads out =
    subst (λ (k : Codec). ReadsPart k bitpix code mark n numbers None) (sym e)
    (λ first total i read xs r few. part_in_range laws block bytepix bitpix is some code mark first total i read xs r numbers next (part_is laws block bytepix bitpix is some code mark first total i read xs r numbers next (omega (arith, len, few)) reads) out)

-- what a reader takes of a Rice code
width_is : (bytepix : ℕ) → (bytepix ≡ 1) ⊎ ((bytepix ≡ 2) ⊎ (bytepix ≡ 4)) → IsWidth (8 * bytepix)
width_is bytepix is = elim is [
  | inl e ↦ inl (ap (λ k. 8 * k) e)
  | inr f ↦ elim f [
    | inl e ↦ inr (inl (ap (λ k. 8 * k) e))
    | inr e ↦ inr (inr (ap (λ k. 8 * k) e))
  ]
]

pub rice_can : (codec : Codec) (bitpix : ℤ) (block bytepix : ℕ) → codec ≡ Rice block bytepix → CanRead codec bitpix → IsBlock block × IsWidth (8 * bytepix)
rice_can codec bitpix block bytepix e can =
    let codes : ReadsCodes (Rice block bytepix) = subst ReadsCodes e can.codes in
    (codes.0, width_is bytepix codes.1)

-- the mark before the first pixel
pub first_of_code : HasStart → (block bytepix bitpix : ℕ) (code : List ℕ) (result : Option Mark) → IsWidth (8 * bytepix) → 1 ≤ block → HasStartMark (8 * bytepix) (bits_of code) result → HasFirstMark (Rice block bytepix) bitpix code result
first_of_code start block bytepix bitpix code (Some mark) is some m = ([], refl, zero-mod block, m block)
first_of_code start block bytepix bitpix code None is some none = λ other width total xs same stands.
    start (8 * bytepix) block xs stands.meaning.0 (bits_of code) none.0 is some stands.meaning.1 none.1

pub first_of_codec : HasStart → (codec : Codec) (block bytepix bitpix : ℕ) (code : List ℕ) (result : Option Mark) → codec ≡ Rice block bytepix → IsWidth (8 * bytepix) → 1 ≤ block → HasStartMark (8 * bytepix) (bits_of code) result → HasFirstMark codec bitpix code result
first_of_codec start codec block bytepix bitpix code result e is some m =
    subst (λ (k : Codec). HasFirstMark k bitpix code result) (sym e) (first_of_code start block bytepix bitpix code result is some m)
