-- The heap ends with the new codes when the codes and the cards are written (FITS 4.0, sections 4.4.1.2, 7.3.1 and 7.3.5).
use Rattle.std.proofs.Common.{◌≡◌, ℕ, ◌+◌, ◌-◌, ◌*◌, ◌^◌, ◌<◌, ◌≤◌, ◌==◌, Bool, true, false, List, [], ◌∷◌, ◌++◌, length, take, drop, replicate, codes, Option, Some, None, if◌then◌else◌, refl, sym, ap, ◌∙◌, subst, arith}
use Rattle.std.specs.Prelude.{IfSome}
use Rattle.std.proofs.Math.Seq.{take-add}
use Rattle.std.proofs.lemmas.List.{drop-drop, length-append}
use Rattle.fz_base.specs.Counts.{Amend}
use Rattle.fz_base.specs.Sink.{overwrite}
use Rattle.fz_block.specs.Hdus.{cards_of, pcount_index}
use Rattle.fz_block.specs.declared.header.Header.{Header}
use Rattle.fz_head.specs.PackedHeader.{coded_letter, descriptor_form, numbered_word_card, stored_letter}
use Rattle.fz_head.specs.PackedPlan.{plan_of_cards}
use Rattle.fz_head.specs.declared.plan.Plan.{Plan}
use Rattle.fz_tile.specs.Pixels.{IsBitpix}
use Rattle.fz_tile.specs.TileCode.{TileCode}
use Rattle.fz_files.specs.Packed.{heap_of}
use Rattle.fz_files.specs.Restored.{image_table}
use Rattle.fz_laws.specs.Amends.{amend_of, amended, applied}
use Rattle.fz_laws.specs.PatchForm.{has_form}
use Rattle.fz_laws.specs.Grown.{IsFormFor, form_index}
use Rattle.fz_laws.specs.Writes.{card_write, code_writes, grown_end, heap_end, heap_writes, zero_writes}
use Rattle.fz_patch.specs.Cards.{HasPlaces, form_card_of, form_write, forms_writes, pcount_at, pcount_card}
use Rattle.fz_patch.specs.Compared.{HeapEndsWith}
use Rattle.fz_target.specs.Measures.{HasRoom}
use Rattle.fz_target.specs.Targets.{IsFoundBy, IsTarget, IsTargetIn, grown_by}
use Rattle.fz_patch.specs.declared.column.Forms.{Forms}
use Rattle.fz_target.specs.declared.measure.Measure.{Measure}
use Rattle.fz_patch.specs.declared.places.Places.{Places}
use Rattle.fz_target.specs.declared.target.Target.{Target}
use Rattle.fz_patch.proofs.CodedEnds.{ends_of}
use Rattle.fz_patch.proofs.NewCodes.{heap_end_of}
use Rattle.fz_patch.proofs.Slices.{long_written, rest_after, slice_before, slice_here}
use Rattle.fz_patch.proofs.StepHeaders.{StepLaws, pcount_place}
use Rattle.fz_patch.proofs.SumCards.{header_long}
use Rattle.fz_patch.proofs.Wrotes.{applied-append}

-- ---- one write, also of no bytes

before_write : (at : ℕ) (bytes file : List ℕ) (s m : ℕ) → at ≤ length file → s + m ≤ at → take m (drop s (overwrite at bytes file)) ≡ take m (drop s file)
before_write at [] file s m within before = refl
before_write at (b ∷ bytes) file s m within before = slice_before at (b ∷ bytes) file s m (omega arith) within before

long_after : (at : ℕ) (bytes file : List ℕ) → at ≤ length file → (at + length bytes ≤ length (overwrite at bytes file)) × (length file ≤ length (overwrite at bytes file))
long_after at [] file within = (omega (arith, within), omega arith)
long_after at (b ∷ bytes) file within =
    let size = long_written at (b ∷ bytes) file (omega arith) within in
    (omega (arith, size), omega (arith, size))

here_after : (at : ℕ) (bytes file : List ℕ) → at ≤ length file → take (length bytes) (drop at (overwrite at bytes file)) ≡ bytes
here_after at [] file within = refl
here_after at (b ∷ bytes) file within = slice_here at (b ∷ bytes) file (omega arith) within

-- ---- the codes, and the zeros after them

heap_none : heap_of [] ≡ []
unfolding heap_of
heap_none = refl

heap_first : (e : TileCode) (es : List TileCode) → heap_of (e ∷ es) ≡ e.bytes ++ heap_of es
unfolding heap_of
heap_first e es = refl

heap_length : (e : TileCode) (es : List TileCode) → length (heap_of (e ∷ es)) ≡ length e.bytes + length (heap_of es)
heap_length e es = ap length (heap_first e es) ∙ length-append e.bytes (heap_of es)

-- bytes before them stay
before_codes : (start s m : ℕ) (es : List TileCode) (file : List ℕ) → start ≤ length file → s + m ≤ start → take m (drop s (applied (code_writes start es) file)) ≡ take m (drop s file)
before_codes start s m [] file near before = refl
before_codes start s m (e ∷ es) file near before =
    let long = (long_after start e.bytes file near).0 in
    before_codes (start + length e.bytes) s m es (amended (amend_of start e.bytes) file) long (omega (arith, before))
    ∙ before_write start e.bytes file s m near before

codes_long : (start : ℕ) (es : List TileCode) (file : List ℕ) → start ≤ length file →
    (start + length (heap_of es) ≤ length (applied (code_writes start es) file)) × (length file ≤ length (applied (code_writes start es) file))
codes_long start [] file near = let none : length (heap_of []) ≡ 0 = ap length heap_none in (omega (arith, near, none), omega arith)
codes_long start (e ∷ es) file near =
    let now : List ℕ = amended (amend_of start e.bytes) file in
    let here = long_after start e.bytes file near in
    let all = heap_length e es in
    let rest : (start + length e.bytes + length (heap_of es) ≤ length (applied (code_writes (start + length e.bytes) es) now)) × (length now ≤ length (applied (code_writes (start + length e.bytes) es) now)) =
    codes_long (start + length e.bytes) es now here.0 in
    (omega (arith, all, rest.0), omega (arith, here.1, rest.1))

-- they are there
codes_are : (start : ℕ) (es : List TileCode) (file : List ℕ) → start ≤ length file → take (length (heap_of es)) (drop start (applied (code_writes start es) file)) ≡ heap_of es
codes_are start [] file near = ap (λ (l : List ℕ). take (length l) (drop start file)) heap_none ∙ sym heap_none
codes_are start (e ∷ es) file near =
    let now : List ℕ = amended (amend_of start e.bytes) file in
    let next : ℕ = start + length e.bytes in
    let new : List ℕ = applied (code_writes next es) now in
    let low : next ≤ length now = (long_after start e.bytes file near).0 in
    let front : take (length e.bytes) (drop start new) ≡ e.bytes = before_codes next start (length e.bytes) es now low (omega arith) ∙ here_after start e.bytes file near in
    let back : take (length (heap_of es)) (drop (length e.bytes) (drop start new)) ≡ heap_of es = ap (take (length (heap_of es))) (drop-drop (length e.bytes) start new) ∙ codes_are next es now low in
    ap (λ n. take n (drop start new)) (heap_length e es)
    ∙ (take-add (length e.bytes) (length (heap_of es)) (drop start new)
    ∙ ((λ j. front j ++ back j) ∙ sym (heap_first e es)))

before_zeros : (start end s m : ℕ) (file : List ℕ) → start ≤ length file → s + m ≤ start → take m (drop s (applied (zero_writes start end) file)) ≡ take m (drop s file)
before_zeros start end s m file near before = by_test (start == end)
  where
    by_test : (b : Bool) → take m (drop s (applied (if b then [] else amend_of start (replicate (end - start) 0) ∷ []) file)) ≡ take m (drop s file)
    by_test true = refl
    by_test false = before_write start (replicate (end - start) 0) file s m near before

heap_there : (f : List ℕ) (h : Header) (es : List TileCode) → heap_end (image_table f h) ≤ length f →
    take (length (heap_of es)) (drop (heap_end (image_table f h)) (applied (heap_writes f h es) f)) ≡ heap_of es
heap_there f h es near =
    let start : ℕ = heap_end (image_table f h) in
    let more : ℕ = length (heap_of es) in
    let mid : List ℕ = applied (code_writes start es) f in
    let zeros : List Amend = zero_writes (start + more) (grown_end h more) in
    ap (λ l. take more (drop start l)) (applied-append (code_writes start es) zeros f)
    ∙ (before_zeros (start + more) (grown_end h more) start more mid (codes_long start es f near).0 (omega arith)
    ∙ codes_are start es f near)

-- ---- the cards, which are before the data

-- what is after the header of a file stays, and the file is not shorter than the header
abbrev LeavesData : Header → ℕ → List ℕ → List ℕ → Type 0
LeavesData h s file new = (drop s new ≡ drop s file) × (h.start + 2880 * h.blocks ≤ length new)

one_leaves : (h : Header) (s i : ℕ) (card file : List ℕ) → length card ≡ 80 → 80 * (i + 1) ≤ 2880 * h.blocks → h.start + 2880 * h.blocks ≤ s → h.start + 2880 * h.blocks ≤ length file →
    LeavesData h s file (applied (card_write h i card ∷ []) file)
one_leaves h s i card file eighty within after long =
    let at : ℕ = h.start + 80 * i in
    let size = long_written at card file (omega (arith, eighty)) (omega (arith, within, long)) in
    (rest_after at card file s (omega (arith, eighty)) (omega (arith, within, long)) (omega (arith, within, after, eighty)), omega (arith, size, long))

leaves_both : (h : Header) (s : ℕ) (a b c : List ℕ) → LeavesData h s a b → LeavesData h s b c → LeavesData h s a c
leaves_both h s a b c first second = (second.0 ∙ first.0, second.1)

module _ (laws : StepLaws) (t : Target) (header : List ℕ) (places : Places) (m : Measure) (forms : Forms) (is : IsTarget t) (by : IsFoundBy header t) (at : HasPlaces header places) (room : HasRoom t m) (small : IfSome forms.coded (λ n. n < 2 ^ 64) × IfSome forms.stored (λ n. n < 2 ^ 64)) where
  abbrev h : Header
  h = t.header

  abbrev p : Plan
  p = plan_of_cards (cards_of header)

  bits : IsBitpix p.bitpix
  bits = subst (λ (q : Plan). IsBitpix q.bitpix) (sym by.plan) is.writable.size

  form : has_form header h p ≡ true
  form = subst (λ (q : Plan). has_form header h q ≡ true) (sym by.plan) by.form

  blocks_long : length header ≡ 2880 * h.blocks
  blocks_long = header_long header h by.found.is_header

  card_long : (column : ℕ) (letter : List ℕ) (most : ℕ) → IsFormFor header column letter most → length (form_card_of t column letter most) ≡ 80
  card_long column letter most may =
      ap (λ w. length (numbered_word_card (codes "TFORM") column (descriptor_form w letter most))) (sym by.wide) ∙ may.0.long

  form_leaves : (s column place : ℕ) (letter file : List ℕ) (most : Option ℕ) → place ≡ form_index header column → ((n : ℕ) → n < 2 ^ 64 → IsFormFor header column letter n) → IfSome most (λ n. n < 2 ^ 64) → h.start + 2880 * h.blocks ≤ s → h.start + 2880 * h.blocks ≤ length file →
      LeavesData h s file (applied (form_write t column place letter most) file)
  form_leaves s column place letter file None is may few after long = (refl, long)
  form_leaves s column place letter file (Some most) is may few after long =
      let c = may most few in
      let inside = c.0.within in
      one_leaves h s place (form_card_of t column letter most) file (card_long column letter most c) (omega (arith, inside, is, blocks_long)) after long

  all_leave : (s : ℕ) (file : List ℕ) → h.start + 2880 * h.blocks ≤ s → h.start + 2880 * h.blocks ≤ length file → LeavesData h s file (applied (forms_writes t places m forms) file)
  all_leave s file after long =
      let ends = ends_of t m room in
      let spot : pcount_at t ≡ pcount_index header = pcount_place header h by.found.is_header in
      let c = (laws.count header h (h.pcount + m.bytes) by.found (omega arith) ends.short).0 in
      let inside = c.within in
      let one : List ℕ = applied (card_write h (pcount_at t) (pcount_card t m) ∷ []) file in
      let coded : List Amend = form_write t 1 places.coded (coded_letter t.image.plan.codec) forms.coded in
      let stored : List Amend = form_write t 2 places.stored (stored_letter t.image.plan.bitpix) forms.stored in
      let first = one_leaves h s (pcount_at t) (pcount_card t m) file c.long (omega (arith, inside, spot, blocks_long)) after long in
      let second = form_leaves s 1 places.coded (coded_letter t.image.plan.codec) one forms.coded at.coded
      (λ n few. subst (λ (q : Plan). IsFormFor header 1 (coded_letter q.codec) n) by.plan (laws.forms header h n by.found bits form (omega arith)).0) small.0 after first.1 in
      let third = form_leaves s 2 places.stored (stored_letter t.image.plan.bitpix) (applied coded one) forms.stored at.stored
      (λ n few. subst (λ (q : Plan). IsFormFor header 2 (stored_letter q.bitpix) n) by.plan (laws.forms header h n by.found bits form (omega arith)).1) small.1 after second.1 in
      let whole : applied (forms_writes t places m forms) file ≡ applied stored (applied coded one) = applied-append coded stored one in
      subst (LeavesData h s file) (sym whole) (leaves_both h s file one (applied stored (applied coded one)) first (leaves_both h s one (applied coded one) (applied stored (applied coded one)) second third))

  -- the heap of the grown table ends with the new codes
  pub codes_at_end : (f : List ℕ) (es : List TileCode) → IsTargetIn f t → heap_end_of t ≤ length f → m.bytes ≡ length (heap_of es) → h.start + 2880 * h.blocks ≤ length (applied (heap_writes f h es) f) →
      HeapEndsWith (applied (forms_writes t places m forms) (applied (heap_writes f h es) f)) (grown_by t m.bytes).image.table (heap_of es)
  codes_at_end f es said near bytes long =
      let mid : List ℕ = applied (heap_writes f h es) f in
      let more : ℕ = length (heap_of es) in
      let end : heap_end (image_table f h) ≡ heap_end_of t = ap heap_end said.said.table in
      let place : t.image.table.heap_at + (t.image.table.heap_len + m.bytes - more) ≡ heap_end_of t = omega (arith, bytes) in
      let leaves = all_leave (heap_end_of t) mid (omega (arith, is.rows_at, is.heap_at)) long in
      ap (λ k. take more (drop k (applied (forms_writes t places m forms) mid))) place
      ∙ (ap (take more) leaves.0
      ∙ (ap (λ k. take more (drop k mid)) (sym end)
      ∙ heap_there f h es (omega (arith, end, near))))
