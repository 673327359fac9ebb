-- What is cut from the packed file of `drill` is the part.
use Rattle.std.specs.Prelude.{None, slice_index}
use Rattle.std.proofs.Common.{◌≡◌, ℕ, zero, suc, ◌+◌, ◌-◌, ◌*◌, ◌/◌, ◌^◌, ◌<◌, ◌≤◌, List, [], ◌∷◌, ◌++◌, length, map, take, drop, refl, sym, ap, ◌∙◌, subst, arith, rules}
use Rattle.fz_block.specs.Facts.{facts_of}
use Rattle.fz_block.specs.Hdus.{Hdu, cards_of, hdu_bytes, header_bytes}
use Rattle.fz_block.specs.Walk.{hdu_of}
use Rattle.fz_block.specs.declared.header.Header.{Header}
use Rattle.fz_grid.specs.Arrays.{NumberArray, at, product}
use Rattle.fz_grid.specs.Grid.{box_coordinates}
use Rattle.fz_grid.specs.Region.{lengths_of}
use Rattle.fz_grid.specs.Sieve.{sieve_hi, sieve_lo, sieve_step, stepped}
use Rattle.fz_grid.specs.declared.sieve.Sieve.{Sieve}
use Rattle.fz_grid.specs.Cutout.{Sifts, picked_numbers}
use Rattle.fz_tile.specs.Laws.{SlicesBytes}
use Rattle.fz_tile.specs.Plain.{AreBytes, plain_bytes}
use Rattle.fz_head.specs.PackedHeader.{packed_with}
use Rattle.fz_head.specs.PlainHeader.{plain_header}
use Rattle.fz_head.specs.Planned.{pack_plan_of}
use Rattle.fz_head.specs.SumCards.{AreDropped}
use Rattle.fz_head.specs.ThereAndBack.{MayBePacked}
use Rattle.fz_head.specs.declared.options.CodecWord.{CodecWord}
use Rattle.fz_head.specs.declared.plan.Plan.{Plan}
use Rattle.fz_head.specs.declared.totals.Totals.{Totals}
use Rattle.fz_files.specs.CutoutBytes.{IsCutout, cutout_bytes}
use Rattle.fz_files.specs.Drill.{drill_file, drill_options, drill_packed, drill_sieve}
use Rattle.fz_files.specs.Laws.{CutsOutOneFile, IsTableOf, TablesStandForImages}
use Rattle.fz_files.specs.Packed.{pixel_bits, zero_filled}
use Rattle.fz_files.specs.Restored.{IsImageOf, StandsForAs, header_in, image_bytes, plan_in}
use Rattle.fz_drill.specs.Files.{image_cards, image_file, image_pixels, part_file}
use Rattle.fz_drill.specs.Jobs.{Cuts}
use Rattle.fz_drill.specs.Taken.{PackedLaws}
use Rattle.fz_drill.proofs.Cards.{ReadsAs}
use Rattle.fz_drill.proofs.Cutting.{of_table, bound, last_is, picked_stand, sound}
use Rattle.fz_drill.proofs.Packable.{names_none}
use Rattle.fz_drill.proofs.PackedFile.{heap_short, plan_there, table_packed, table_there}
use Rattle.fz_drill.proofs.PartHeader.{cut_cards}
use Rattle.fz_drill.proofs.PartPixels.{part_same}
use Rattle.fz_drill.proofs.Pixels.{plain_count}
use Rattle.fz_drill.proofs.PlainFile.{back, front, plain_data, plain_header_of, reads}
use Rattle.fz_drill.proofs.PlainHeader.{image_facts, is_header, named_simple}
use Rattle.fz_drill.proofs.Table.{here, plan, table, table_cards, taken, totals}

-- what is taken of the laws of cutouts
pub record CutLaws : Type 0 where
  pub packed : PackedLaws
  pub stands : TablesStandForImages
  pub one : CutsOutOneFile
  pub slices : SlicesBytes
  pub back :
      (header : List ℕ) (h : Header) (p : Plan) (s : Totals) (sums : List (List ℕ)) → MayBePacked header h → p.shape ≡ h.axes → AreDropped sums →
      plain_header (packed_with (cards_of header) p s sums) ≡ cards_of header

-- bytes with fill after them, where as many stand in front
unfilled : (xs ys : List ℕ) → length xs ≡ length ys → zero_filled xs ≡ zero_filled ys → xs ≡ ys
unfilled xs ys long same =
    sym (front (length xs) xs _ refl) ∙ (ap (take (length xs)) same ∙ front (length xs) ys _ (sym long))

plan_bits : (rows : ℕ) (codec : CodecWord) → pixel_bits (pack_plan_of (drill_options codec) (image_facts 256 rows)) ≡ 16
unfolding pack_plan_of
plan_bits rows codec = refl

plan_shape : (rows : ℕ) (codec : CodecWord) → (pack_plan_of (drill_options codec) (image_facts 256 rows)).shape ≡ (image_facts 256 rows).axes
unfolding pack_plan_of
plan_shape rows codec = refl

module _ (l : CutLaws) (rows : ℕ) (some : 1 ≤ rows) (few : rows ≤ 16384) (codec : CodecWord) (bytes : AreBytes (drill_file rows)) (held : length (drill_packed rows codec) ≤ 2 ^ 40) where
  abbrev q : PackedLaws
  q = l.packed

  abbrev packed : List ℕ
  packed = drill_packed rows codec

  abbrev S : Sieve
  S = drill_sieve rows

  abbrev T : Hdu
  T = table q.tables rows some few codec bytes

  abbrev of_packed : Header
  of_packed = of_table q rows some few codec bytes held

  abbrev P : Plan
  P = plan q.tables rows some few codec bytes

  abbrev W : Totals
  W = totals q.tables rows some few codec bytes

  abbrev F : Header
  F = image_facts 256 rows

  abbrev head : List ℕ
  head = plain_header_of q.tables.files rows few

  abbrev content : List ℕ
  content = plain_data q.tables.files rows few

  there : hdu_of packed of_packed ≡ T
  there = table_there q rows some few codec bytes held

  table_of : IsTableOf (drill_options codec) (drill_file rows) F packed of_packed
  table_of = record {
    taken = taken q.tables rows some few codec bytes;
    behind = omega arith;
    facts = λ i. facts_of 1 of_packed.start (sym there i).header;
    table = there;
  }

  stands : IsImageOf packed of_packed (hdu_bytes (hdu_of (drill_file rows) F))
  stands = subst (λ b. StandsForAs b packed of_packed (hdu_bytes (hdu_of (drill_file rows) F))) (table_packed q rows some few codec bytes held) (l.stands (drill_options codec) (drill_file rows) F packed of_packed table_of)

  cards_are : cards_of (header_in packed of_packed) ≡ packed_with (image_cards 256 rows) P W []
  cards_are = ap (λ (d : Hdu). cards_of d.header) there ∙ table_cards q.tables rows some few codec bytes (heap_short q rows some few codec bytes held)

  may : MayBePacked head F
  may =
      let r : ReadsAs 256 rows head = reads q.tables.files rows few in
      record {
        is_header = is_header q.tables.files.header 256 rows (omega arith) (omega arith) few head r;
        simple = λ first. named_simple q.tables.files.header 256 rows (omega arith) (omega arith) few head r;
        names = names_none q.tables.files rows some few;
      }

  plain_is : plain_header (packed_with (image_cards 256 rows) P W []) ≡ image_cards 256 rows
  plain_is =
      let r : ReadsAs 256 rows head = reads q.tables.files rows few in
      ap (λ cs. plain_header (packed_with cs P W [])) (sym r.cards) ∙ (l.back head F P W [] may (plan_shape rows codec) tt ∙ r.cards)

  abbrev array : NumberArray
  array = stands.array

  lengths_are : array.lengths ≡ 256 ∷ rows ∷ []
  lengths_are = stands.rows.lengths ∙ (ap (λ (p : Plan). lengths_of p.shape) (plan_there q rows some few codec bytes held) ∙ ap lengths_of (plan_shape rows codec))

  many : length array.numbers ≡ 256 * (rows * 1)
  many = stands.rows.whole ∙ ap product lengths_are

  -- the image of the table has the bytes of the pixels of `drill`
  image_same : header_bytes (image_cards 256 rows) ++ content ≡ header_bytes (image_cards 256 rows) ++ zero_filled (plain_bytes 16 array.numbers)
  image_same =
      sym (ap hdu_bytes (here q.tables rows some few codec bytes))
      ∙ (stands.image
      ∙ ((λ i. image_bytes (plan_there q rows some few codec bytes held i) (cards_are i) array)
      ∙ (λ i. header_bytes (plain_is i) ++ zero_filled (plain_bytes (plan_bits rows codec i) array.numbers))))

  pixels_same : plain_bytes 16 array.numbers ≡ plain_bytes 16 (image_pixels 0 256 rows)
  pixels_same =
      let r : ReadsAs 256 rows head = reads q.tables.files rows few in
      let data_same : content ≡ zero_filled (plain_bytes 16 array.numbers) =
      sym (back 2880 head content r.long) ∙ (ap (drop 2880) image_same ∙ back 2880 head (zero_filled (plain_bytes 16 array.numbers)) r.long) in
      let one : rows * 1 ≡ rows = omega arith in
      let long : length (plain_bytes 16 array.numbers) ≡ length (plain_bytes 16 (image_pixels 0 256 rows)) =
      q.tables.files.plain_len 16 array.numbers (search rules) ∙ (ap (λ n. 2 * n) (many ∙ ap (λ n. 256 * n) one) ∙ sym (plain_count q.tables.files.plain_len 0 256 rows)) in
      unfilled (plain_bytes 16 array.numbers) (plain_bytes 16 (image_pixels 0 256 rows)) long (sym data_same)

  ends : (rows - 1 - 0) / 1 + 1 ≡ rows
  ends = omega (arith, some)

  part_pixels : plain_bytes 16 (picked_numbers array S) ≡ plain_bytes 16 (image_pixels 32 32 rows)
  part_pixels =
      ap (λ n. plain_bytes 16 (map (λ k. at array (stepped (32 ∷ 0 ∷ []) (1 ∷ 1 ∷ []) k)) (box_coordinates (32 ∷ n ∷ [])))) ends
      ∙ part_same l.slices array 256 rows 32 32 lengths_are stands.rows.whole (omega arith) pixels_same

  made_is : part_file rows ≡ cutout_bytes (plan_in packed of_packed) (cards_of (header_in packed of_packed)) S (picked_numbers array S)
  unfolding image_file
  made_is =
      sym
      ((λ i. cutout_bytes (plan_there q rows some few codec bytes held i) (cards_are i) S (picked_numbers array S))
      ∙ ((λ i. header_bytes (cut_cards codec rows W some i) ++ zero_filled (plain_bytes (plan_bits rows codec i) (picked_numbers array S)))
      ∙ ap (λ bs. header_bytes (image_cards 32 rows) ++ zero_filled bs) part_pixels))

  is_cutout : IsCutout None S packed (part_file rows)
  is_cutout = record {
    sound = sound q rows some few codec bytes held array stands.rows;
    header = of_packed;
    last = last_is q rows some few codec bytes held;
    numbers = picked_numbers array S;
    cut = record { array = array; rows = picked_stand q rows some few codec bytes held array stands.rows; picked = refl };
    made = made_is;
  }

  sifts : Sifts (256 ∷ rows ∷ []) S
  sifts = record { los = refl; his = refl; steps = refl; ordered = ordered; inside = inside; positive = positive }
    where
      ordered : (i : ℕ) → i < 2 → slice_index (sieve_lo S) i ≤ slice_index (sieve_hi S) i
      ordered zero less = omega arith
      ordered (suc zero) less = omega arith
      ordered (suc (suc i)) less = absurd omega (arith, less)

      inside : (i : ℕ) → i < 2 → slice_index (sieve_hi S) i < slice_index (256 ∷ rows ∷ []) i
      inside zero less = omega arith
      inside (suc zero) less = omega (arith, some)
      inside (suc (suc i)) less = absurd omega (arith, less)

      positive : (i : ℕ) → i < 2 → 1 ≤ slice_index (sieve_step S) i
      positive zero less = omega arith
      positive (suc zero) less = omega arith
      positive (suc (suc i)) less = absurd omega (arith, less)

  sifts_there : Sifts (lengths_of (plan_in packed of_packed).shape) S
  sifts_there = subst (λ ns. Sifts ns S) (sym lengths_are ∙ stands.rows.lengths) sifts

  pub cuts : Cuts rows codec
  cuts = record {
    sound = sound q rows some few codec bytes held array stands.rows;
    bound = le_of (bound q rows some few codec bytes held);
    one = λ part is. l.one None S packed part (part_file rows) of_packed (last_is q rows some few codec bytes held) sifts_there is is_cutout;
  }
    where
      le_of : {a b : ℕ} → a ≡ b → a ≤ b
      le_of e = omega (arith, e)
