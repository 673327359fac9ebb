-- The header is made of what was written, and then told the sums.
use Rattle.std.proofs.Common.{◌≡◌, ℕ, ◌+◌, ◌*◌, ◌/◌, ◌<◌, ◌≤◌, ◌^◌, ◌++◌, Bool, true, List, [], ◌∷◌, All, length, map, take, drop, refl, sym, ap, ◌∙◌, subst, arith}
use Rattle.std.specs.Option.{unwrap_or}
use Rattle.std.proofs.lemmas.List.{append_assoc, length-append, length-take, take_at}
use Rattle.std.proofs.lemmas.List.FromFn.{length-map-range_with_len}
use Rattle.fz_block.specs.Cards.{card_at, end_of}
use Rattle.fz_block.specs.Header.{whole_blocks_of}
use Rattle.fz_block.specs.Hdus.{IsCardBeforeEnd, cards_of, header_bytes}
use Rattle.fz_block.specs.declared.header.Header.{Header}
use Rattle.fz_sum.specs.Cards.{blank_checksum_card, datasum_card}
use Rattle.fz_sum.specs.Sums.{carried}
use Rattle.fz_head.specs.Conditions.{AreShort, IsPackPlan}
use Rattle.fz_checks.specs.Greatest.{greatest}
use Rattle.fz_head.specs.PackedHeader.{packed_header, packed_with, sum_cards}
use Rattle.fz_head.specs.ThereAndBack.{IsPacking}
use Rattle.fz_head.specs.declared.totals.Totals.{Totals}
use Rattle.fz_files.specs.Packed.{coded_count, heap_of, packed_data, stored_count, table_header, with_sums}
use Rattle.fz_sum.specs.Pieces.{total_at}
use Rattle.fz_head.specs.declared.plan.Plan.{Plan}
use Rattle.fz_image.specs.Image.{sum_cards_put}
use Rattle.fz_image.specs.declared.progress.Progress.{Progress}
use Rattle.fz_image.proofs.Headers.{packed_count, packed_size}
use Rattle.fz_image.proofs.Progresses.{summed_few}
use Rattle.fz_image.proofs.TableSums.{data_total, header_with, made_with, most_more, ones_of, short_totals, sums_put, zero_more}
use Rattle.fz_image.proofs.header.make_header.Goals as goal

pub to_packed-len-requires-clause-totals : goal.to_packed-len-requires-clause-totals
to_packed-len-requires-clause-totals c =
    let q = c.requires.codes in
    subst AreShort (sym c.totals.ensures) (short_totals q.0 q.1 c.args.progress c.args.sums q.2 q.4 q.5 q.6)

pub cards_before_sums-requires-clause-cards : goal.cards_before_sums-requires-clause-cards
cards_before_sums-requires-clause-cards c =
    let buf = c.args.buf.now in
    let p = c.args.plan.now in
    let s : Totals = c.totals.result in
    let asked : s.sums ≡ c.requires.plan.options.sums = ap (λ (t : Totals). t.sums) c.totals.ensures ∙ sym c.requires.plan.with_sums in
    let few = c.sizes_law.ensures.few c.requires.plan.options c.args.header.now buf p s c.requires.plan.answer asked in
    let is : packed_header (cards_of buf) p s ≡ packed_with (cards_of buf) p s [] ++ sum_cards s.sums = header_with (cards_of buf) p s ∙ c.sum_cards_law.ensures.last (cards_of buf) p s (sum_cards s.sums) in
    let size : length (cards_of buf) ≡ c.args.header.now.cards = length-map-range_with_len (card_at buf) 0 (unwrap_or (end_of buf) 0) ∙ sym (ap (λ (h : Header). h.cards) c.requires.header.facts) in
    omega (arith, few, ap length is, length-append (packed_with (cards_of buf) p s []) (sum_cards s.sums), packed_count (cards_of buf) p s, size)

pub put_sums-requires-clause-summed : goal.put_sums-requires-clause-summed
put_sums-requires-clause-summed c =
    let l = c.requires.codes.0 in
    let codes = c.requires.codes.1 in
    let few : length codes ≤ l.tiles = omega (arith, c.requires.codes.5) in
    omega (arith, summed_few l codes c.args.progress c.requires.codes.2 c.requires.codes.4 few c.requires.codes.6, length-take c.to_packed-len.result c.to_packed-len.new.out, c.to_packed-len.ensures.short)

pub put_sums-requires-clause-near : goal.put_sums-requires-clause-near
put_sums-requires-clause-near c =
    let q = c.requires.codes in
    let buf = c.args.buf.now in
    let p = c.args.plan.now in
    let s : Totals = c.totals.result in
    let short : AreShort s = subst AreShort (sym c.totals.ensures) (short_totals q.0 q.1 c.args.progress c.args.sums q.2 q.4 q.5 q.6) in
    let sums : s.sums ≡ c.args.sums = ap (λ (t : Totals). t.sums) c.totals.ensures in
    let yes : s.sums ≡ true = sums ∙ c.if-sums.true in
    let packing : IsPacking buf c.args.header.now p s (sum_cards s.sums) = record {
      is_header = c.requires.header;
      simple = c.requires.simple;
      plan = subst (λ (b : Bool). IsPackPlan buf c.args.header.now b p) (sym sums) c.requires.plan;
      totals = short;
      sums_are = c.sum_cards_law.ensures.blank s.sums;
      count = refl;
    } in
    let size = packed_size (cards_of buf) p s c.cards_law.ensures.header (c.whole_cards_law.ensures.packed buf c.args.header.now p s (sum_cards s.sums) packing) in
    let written : length (take c.to_packed-len.result c.to_packed-len.new.out) ≡ length (header_bytes (packed_header (cards_of buf) p s)) = ap length c.to_packed-len.ensures.written in
    let is : packed_header (cards_of buf) p s ≡ packed_with (cards_of buf) p s [] ++ sum_cards s.sums = header_with (cards_of buf) p s ∙ c.sum_cards_law.ensures.last (cards_of buf) p s (sum_cards s.sums) in
    let two : length (sum_cards s.sums) ≡ 2 = ap (λ (b : Bool). length (sum_cards b)) yes in
    let cards : length (cards_of buf) ≡ c.args.header.now.cards = length-map-range_with_len (card_at buf) 0 (unwrap_or (end_of buf) 0) ∙ sym (ap (λ (h : Header). h.cards) c.requires.header.facts) in
    let at : c.cards_before_sums.result ≡ length (packed_with (cards_of buf) p s []) = c.cards_before_sums.ensures (cards_of buf) s cards in
    let all : length (packed_header (cards_of buf) p s) ≡ length (packed_with (cards_of buf) p s []) + length (sum_cards s.sums) = ap length is ∙ length-append (packed_with (cards_of buf) p s []) (sum_cards s.sums) in
    let blocks : 80 * (length (packed_header (cards_of buf) p s) + 1) ≤ whole_blocks_of (80 * (length (packed_header (cards_of buf) p s) + 1)) = omega arith in
    omega (arith, written, size, blocks, all, two, at)

pub returns-then-sums-clause-header : goal.returns-then-sums-clause-header
returns-then-sums-clause-header c = λ l codes is same each count progress.
    let buf = c.args.buf.now in
    let h = c.args.header.now in
    let p = c.args.plan.now in
    let w = c.args.progress in
    let s : Totals = c.totals.result in
    let cards : List (List ℕ) = cards_of buf in
    let payload : List ℕ = packed_data p codes in
    let C : List (List ℕ) = packed_with cards p s [] in
    let sums : s.sums ≡ c.args.sums = ap (λ (t : Totals). t.sums) c.totals.ensures in
    let yes : s.sums ≡ true = sums ∙ c.if-sums.true in
    let short : AreShort s = subst AreShort (sym c.totals.ensures) (short_totals l codes w c.args.sums is each count progress) in
    let total : ℕ = w.sum.total in
    let told : List ℕ = datasum_card (carried total) in
    let own : List (List ℕ) = told ∷ blank_checksum_card ∷ [] in
    let are : total_at 0 payload ≡ total = ap (λ (q : Plan). total_at 0 (packed_data q codes)) (sym same) ∙ data_total l codes c.sum_law.ensures.joined c.sum_law.ensures.zeros is count ∙ sym (ap (λ (q : Progress). q.sum.total) progress) in
    let low : carried total < 2 ^ 32 = subst (λ n. n < 2 ^ 32) (ones_of payload total c.sum_law.ensures.whole are) (c.sum_law.ensures.fits payload) in
    let datasum = c.sum_cards_law.ensures.datasum (carried total) low in
    let blanks = c.sum_cards_law.ensures.blank true in
    let packing : IsPacking buf h p s own = record {
      is_header = c.requires.header;
      simple = c.requires.simple;
      plan = subst (λ (b : Bool). IsPackPlan buf h b p) (sym sums) c.requires.plan;
      totals = short;
      sums_are = (datasum, blanks.1);
      count = ap (λ (b : Bool). length (sum_cards b)) (sym yes);
    } in
    let last = c.sum_cards_law.ensures.last cards p s own in
    let all : All IsCardBeforeEnd (C ++ own) = subst (All IsCardBeforeEnd) last (c.whole_cards_law.ensures.packed buf h p s own packing) in
    let k : ℕ = (80 * (length (C ++ own) + 1) + 2879) / 2880 * 720 in
    let parted : (C ++ told ∷ []) ++ blank_checksum_card ∷ [] ≡ C ++ own = append_assoc C (told ∷ []) (blank_checksum_card ∷ []) in
    let bytes = (c.cards_law.ensures.header (C ++ own) all).2 in
    let size : length (header_bytes ((C ++ told ∷ []) ++ blank_checksum_card ∷ [])) ≡ 4 * k = ap (λ t. length (header_bytes t)) parted ∙ bytes ∙ omega arith in
    let put = sums_put C payload total k c.sum_law.ensures.joined c.sum_law.ensures.whole c.sum_law.ensures.words c.card_in_place_law.ensures are all blanks.0.whole datasum.whole blanks.1.0.whole (λ n. (c.sum_cards_law.ensures.checksum n).whole) size in
    let cards_are : length cards ≡ h.cards = length-map-range_with_len (card_at buf) 0 (unwrap_or (end_of buf) 0) ∙ sym (ap (λ (x : Header). x.cards) c.requires.header.facts) in
    let at : c.cards_before_sums.result ≡ length C = c.cards_before_sums.ensures cards s cards_are in
    let blank_is : packed_header cards p s ≡ C ++ datasum_card 0 ∷ blank_checksum_card ∷ [] =
    header_with cards p s ∙ c.sum_cards_law.ensures.last cards p s (sum_cards s.sums) ∙ ap (λ (b : Bool). C ++ sum_cards b) yes in
    let T : List ℕ = take c.to_packed-len.result c.to_packed-len.new.out in
    let before : T ≡ header_bytes (C ++ datasum_card 0 ∷ blank_checksum_card ∷ []) = c.to_packed-len.ensures.written ∙ ap header_bytes blank_is in
    let after : c.put_sums.new.header ≡ header_bytes (with_sums true C payload) = c.put_sums.ensures ∙ (λ i. sum_cards_put (at i) total (before i)) ∙ put in
    let heap : w.heap ≡ length (heap_of codes) = ap (λ (q : Progress). q.heap) progress ∙ zero_more (length (heap_of codes)) in
    let coded : w.coded ≡ greatest (map (coded_count p) codes) = ap (λ (q : Progress). q.coded) progress ∙ most_more (greatest (map (coded_count l.plan) codes)) ∙ ap (λ (q : Plan). greatest (map (coded_count q) codes)) same in
    let stored : w.stored ≡ greatest (map (stored_count p) codes) = ap (λ (q : Progress). q.stored) progress ∙ most_more (greatest (map (stored_count l.plan) codes)) ∙ ap (λ (q : Plan). greatest (map (stored_count q) codes)) same in
    let table : C ≡ table_header p cards codes = ap (λ (t : Totals). packed_with cards p t []) c.totals.ensures ∙ made_with cards p codes w c.args.sums heap coded stored in
    let long : length c.put_sums.new.header ≡ c.to_packed-len.result = c.put_sums.auto.header ∙ ap length c.to_packed-len.ensures.written ∙ sym c.to_packed-len.ensures.size in
    take_at c.put_sums.new.header (drop c.to_packed-len.result c.to_packed-len.new.out) c.to_packed-len.result long
    ∙ after ∙ (λ i. header_bytes (with_sums (sym c.if-sums.true i) (table i) payload))

pub returns-then-sums-clause-long : goal.returns-then-sums-clause-long
returns-then-sums-clause-long c = λ n is.
    let q = c.requires.codes in
    let short : AreShort c.totals.result = subst AreShort (sym c.totals.ensures) (short_totals q.0 q.1 c.args.progress c.args.sums q.2 q.4 q.5 q.6) in
    c.to_packed-len.ensures.size ∙ sym (is c.totals.result (ap (λ (t : Totals). t.sums) c.totals.ensures) short)

pub returns-else-sums-clause-long : goal.returns-else-sums-clause-long
returns-else-sums-clause-long c = λ n is.
    let q = c.requires.codes in
    let short : AreShort c.totals.result = subst AreShort (sym c.totals.ensures) (short_totals q.0 q.1 c.args.progress c.args.sums q.2 q.4 q.5 q.6) in
    c.to_packed-len.ensures.size ∙ sym (is c.totals.result (ap (λ (t : Totals). t.sums) c.totals.ensures) short)
