-- A mark of which only is known that there is one: it is known, since a code has one mark after so many pixels (FITS 4.0, section 10.4.1).
use Rattle.std.proofs.Common.{◌≡◌, ℕ, ◌*◌, ◌%◌, ◌≤◌, Bool, ℤ, List, length, drop, Result, Ok, Err, refl, sym, ap, ◌∙◌, subst}
use Rattle.std.proofs.Math.Logic.{∥∥₁_elim, ∥∥₁_prop}
use Rattle.std.proofs.Props.{props}
use Rattle.std.proofs.lemmas.Grind.{not_there}
use Rattle.fz_base.specs.declared.fault.Fault.{Fault}
use Rattle.fz_bits.specs.Bits.{bits_of}
use Rattle.fz_block.specs.declared.header.Header.{Header}
use Rattle.fz_rice.specs.Marks.{IsMark}
use Rattle.fz_rice.specs.Reading.{blocks_at, last_of, number_at, numbers_from}
use Rattle.fz_rice.specs.declared.coder.CodeFault.{CodeFault}
use Rattle.fz_rice.specs.declared.marks.Mark.{Mark}
use Rattle.fz_table.specs.Records.{record_at, record_bytes}
use Rattle.fz_table.specs.declared.record.Record.{Record}
use Rattle.fz_table.specs.declared.record.TileColumn.{TileColumn}
use Rattle.fz_table.specs.declared.record.TileColumn.TheVariants.{Coded, Stored}
use Rattle.fz_tile.specs.Parts.{IsMarkAfter}
use Rattle.fz_tile.specs.declared.codec.Codec.{Codec}
use Rattle.fz_tile.specs.declared.codec.Codec.TheVariants.{Rice, Plio, Plain}
use Rattle.fz_files.specs.Restored.{image_table, plan_in, tile_of}
use Rattle.fz_pixels.specs.Marks.{IsMarkIn, IsReadOnFrom}
use Rattle.fz_pixels.specs.declared.marks.TileMark.{TileMark}

same_ok : {A E : Type 0} (x y : A) (r : Result A E) → r ≡ Ok x → r ≡ Ok y → x ≡ y
same_ok x y r one two = cc

ok_not_err : {A E : Type 0} (x : A) (e : E) (r : Result A E) → r ≡ Ok x → r ≡ Err e → ⊥
ok_not_err x e r ok err = absurd cc

-- ---- a mark in bits

module _ (w block i : ℕ) (bits : List Bool) (mark : Mark) where
  -- after so many numbers, in whole blocks, the bits are read on from the mark
  abbrev IsAfter : Type 0
  IsAfter = (ys : List ℤ) × (length ys ≡ i) × (i % block ≡ 0) × IsMark w block ys bits mark

  start_of : (start : ℕ) (first : List Bool) → number_at w bits ≡ Ok (start, first) → (after : IsAfter) → (after.3.start ≡ start) × (after.3.first ≡ first)
  start_of start first begins after =
      let m = after.3 in
      let same : ◌≡◌ {A = ℕ × List Bool} (m.start, m.first) (start, first) = same_ok (m.start, m.first) (start, first) (number_at w bits) m.begins begins in
      (ap (λ (p : ℕ × List Bool). p.0) same, ap (λ (p : ℕ × List Bool). p.1) same)

  blocks_of : (start : ℕ) (first : List Bool) → number_at w bits ≡ Ok (start, first) → (after : IsAfter) → blocks_at w block i i first ≡ Ok (after.3.values, drop mark.bit bits)
  blocks_of start first begins after =
      let count : i ≡ length after.0 = sym after.1 in
      let front : first ≡ after.3.first = sym (start_of start first begins after).1 in
      (λ j. blocks_at w block (count j) (count j) (front j)) ∙ after.3.blocks

  -- what is said of the numbers and the bits that were read
  abbrev AreRead : ℕ → List ℕ → List Bool → Type 0
  AreRead start values rest = (rest ≡ drop mark.bit bits) × (length (numbers_from w start values) ≡ i) × (i % block ≡ 0) × (mark.last ≡ last_of w start values) × (mark.bit ≤ length bits)

  are_read : (start : ℕ) (first : List Bool) (values : List ℕ) (rest : List Bool) → number_at w bits ≡ Ok (start, first) → blocks_at w block i i first ≡ Ok (values, rest) → IsAfter → AreRead start values rest
  are_read start first values rest begins blocks after =
      let m = after.3 in
      let begin : start ≡ m.start = sym (start_of start first begins after).0 in
      let same : ◌≡◌ {A = List ℕ × List Bool} (values, rest) (m.values, drop mark.bit bits) =
      same_ok (values, rest) (m.values, drop mark.bit bits) (blocks_at w block i i first) blocks (blocks_of start first begins after) in
      let those : values ≡ m.values = ap (λ (p : List ℕ × List Bool). p.0) same in (
        ap (λ (p : List ℕ × List Bool). p.1) same,
        (λ j. length (numbers_from w (begin j) (those j))) ∙ sym (ap length m.numbers_are) ∙ after.1,
        after.2,
        m.last_is ∙ sym (λ j. last_of w (begin j) (those j)),
        m.within,
      )

  are_after : (start : ℕ) (first : List Bool) (values : List ℕ) (rest : List Bool) → number_at w bits ≡ Ok (start, first) → blocks_at w block i i first ≡ Ok (values, rest) → AreRead start values rest → IsAfter
  are_after start first values rest begins blocks are =
      let ys : List ℤ = numbers_from w start values in
      let count : length ys ≡ i = are.1 in (
        ys,
        count,
        are.2,
        record {
          start = start;
          first = first;
          begins = begins;
          values = values;
          blocks = (λ j. blocks_at w block (count j) (count j) first) ∙ blocks ∙ ap (λ (l : List Bool). Ok (values, l)) are.0;
          numbers_are = refl;
          last_is = are.3;
          within = are.4;
        },
      )

  one_prop : (start : ℕ) (values : List ℕ) (rest : List Bool) → IsProp (AreRead start values rest)
  one_prop start values rest = hlevel props

  after_merely : ∥ IsAfter ∥₁ → IsAfter
  after_merely merely = by_start (number_at w bits) refl
    where
      by_blocks : (start : ℕ) (first : List Bool) → number_at w bits ≡ Ok (start, first) → (r : Result (List ℕ × List Bool) CodeFault) → blocks_at w block i i first ≡ r → IsAfter
      by_blocks start first begins (Ok (values, rest)) is =
          are_after start first values rest begins is (∥∥₁_elim merely (one_prop start values rest) (are_read start first values rest begins is))
      by_blocks start first begins (Err e) is = absurd (not_there merely (λ after. ok_not_err (after.3.values, drop mark.bit bits) e (blocks_at w block i i first) (blocks_of start first begins after) is))

      by_start : (r : Result (ℕ × List Bool) CodeFault) → number_at w bits ≡ r → IsAfter
      by_start (Ok (start, first)) is = by_blocks start first is (blocks_at w block i i first) refl
      by_start (Err e) is = absurd (not_there merely (λ after. ok_not_err (after.3.start, after.3.first) e (number_at w bits) after.3.begins is))

-- ---- a mark in a record

mark_merely : (codec : Codec) (read : List ℕ) (i : ℕ) (mark : Mark) → ∥ IsMarkAfter codec read i mark ∥₁ → IsMarkAfter codec read i mark
mark_merely (Rice block bytepix) read i mark merely = after_merely (8 * bytepix) block i (bits_of read) mark merely
mark_merely Plio read i mark merely = not_there merely (λ x. x)
mark_merely Plain read i mark merely = not_there merely (λ x. x)

one_column : (c : TileColumn) → c ≡ Coded → c ≡ Stored → ⊥
one_column c coded stored = absurd cc

module _ (g : List ℕ) (h : Header) (t : ℕ) (m : TileMark) where
  read_on_merely : ∥ IsReadOnFrom g h t m ∥₁ → IsReadOnFrom g h t m
  read_on_merely merely = by_record (record_at g h.hdu (image_table g h) t (tile_of (plan_in g h) t)) refl
    where
      same_found : (found : Record) → record_at g h.hdu (image_table g h) t (tile_of (plan_in g h) t) ≡ Ok found → (one : IsReadOnFrom g h t m) → one.found ≡ found
      same_found found is one = same_ok one.found found (record_at g h.hdu (image_table g h) t (tile_of (plan_in g h) t)) one.chosen is

      by_column : (found : Record) → record_at g h.hdu (image_table g h) t (tile_of (plan_in g h) t) ≡ Ok found → (column : TileColumn) → found.column ≡ column → found.column ≡ Coded
      by_column found is Coded column = column
      by_column found is Stored column =
          absurd (not_there merely (λ one. one_column found.column (ap (λ (r : Record). r.column) (sym (same_found found is one)) ∙ one.column) column))

      by_record : (r : Result Record Fault) → record_at g h.hdu (image_table g h) t (tile_of (plan_in g h) t) ≡ r → IsReadOnFrom g h t m
      by_record (Ok found) is = record {
        found = found;
        chosen = is;
        column = by_column found is found.column refl;
        mark = mark_merely (plan_in g h).codec (record_bytes g found) m.pixel m.mark
            (∥∥₁_elim merely ∥∥₁_prop (λ one. ∣ subst (λ (r : Record). IsMarkAfter (plan_in g h).codec (record_bytes g r) m.pixel m.mark) (same_found found is one) one.mark ∣₁));
      }
      by_record (Err fault) is = absurd (not_there merely (λ one. ok_not_err one.found fault (record_at g h.hdu (image_table g h) t (tile_of (plan_in g h) t)) one.chosen is))

  -- a mark of a tile of which only is known that it is one
  pub mark_in_merely : ∥ IsMarkIn g h t m ∥₁ → IsMarkIn g h t m
  mark_in_merely merely sound less = read_on_merely (∥∥₁_elim merely ∥∥₁_prop (λ mark. ∣ mark sound less ∣₁))
