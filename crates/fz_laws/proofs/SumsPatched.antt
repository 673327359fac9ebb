-- The checksums of the image after all writes of a patch, which come last and change only cards.
use Rattle.std.proofs.Common.{◌≡◌, ◌≢◌, ◌⊎◌, inl, inr, ℕ, zero, suc, ◌+◌, ◌-◌, ◌*◌, ◌/◌, ◌^◌, ◌<◌, ◌≤◌, ◌||◌, max, Bool, true, false, ℤ, pos, List, [], ◌∷◌, ◌++◌, length, take, drop, replicate, zip, bytes_eq, codes, Option, Some, None, unwrap_or, refl, sym, ap, ◌∙◌, subst, arith, length-append, length-drop}
use Rattle.std.proofs.Math.Seq.{take-append-add, take-append_seam}
use Rattle.std.proofs.lemmas.List.{take_all}
use Rattle.std.specs.Str.{byte}
use Rattle.fz_base.specs.Counts.{Amend}
use Rattle.fz_block.specs.Cards.{card_at, end_of}
use Rattle.fz_block.specs.Hdus.{cards_of, pcount_index}
use Rattle.fz_block.specs.Header.{data_start_of, next_start_of, whole_blocks_of}
use Rattle.fz_block.specs.Walk.{hdu_of}
use Rattle.fz_block.specs.declared.header.Header.{Header}
use Rattle.fz_card.specs.Layout.{card_name, padded}
use Rattle.fz_card.specs.Made.{numbered_name}
use Rattle.fz_sum.specs.Cards.{blank_checksum_card, checksum_card, checksum_name, datasum_card, datasum_name, with_card}
use Rattle.fz_sum.specs.Sums.{ones_sum}
use Rattle.fz_sum.specs.Verdicts.{checksum_verdict, datasum_verdict}
use Rattle.fz_sum.specs.declared.verdicts.Verdict.{Verdict}
use Rattle.fz_sum.specs.declared.verdicts.Verdict.TheVariants.{Absent, Right}
use Rattle.fz_table.specs.declared.table.Table.{Table}
use Rattle.fz_tile.specs.TileCode.{TileCode}
use Rattle.fz_head.specs.PackedHeader.{number_card}
use Rattle.fz_files.specs.Packed.{heap_of}
use Rattle.fz_files.specs.Restored.{header_in, image_table, plan_in}
use Rattle.fz_laws.specs.Amends.{amended, applied}
use Rattle.fz_laws.specs.Given.{Given, PatchJob, given_by}
use Rattle.fz_laws.specs.PatchHeaders.{IsAmended}
use Rattle.fz_laws.specs.PatchLaws.{ArePatching}
use Rattle.fz_laws.specs.NewNumbers.{box_tiles}
use Rattle.fz_laws.specs.Patched.{HasRightSums}
use Rattle.fz_laws.specs.PatchTaken.{SafeLaws}
use Rattle.fz_laws.specs.Writes.{Steps, all_writes, before_rows, before_sums, card_write, checksum_write, checksum_writes, column_writes, data_now, datasum_write, datasum_writes, header_now, heap_end, new_codes, steps_of, sum_writes, table_plan, told_sum}
use Rattle.fz_laws.proofs.AllWritten.{rows_are}
use Rattle.fz_laws.proofs.Again.{header_again, says}
use Rattle.fz_laws.proofs.AlikeFiles.{header_length}
use Rattle.fz_laws.proofs.AmendedCards.{name_at}
use Rattle.fz_laws.proofs.CardInFile.{cards_stand_in_place}
use Rattle.fz_laws.proofs.CardWrites.{AreApart, apart_both, card_apart, pcount_named, sum_differs, told_card, whole_card}
use Rattle.fz_laws.proofs.HeaderNow.{facts_now}
use Rattle.fz_laws.proofs.PatchedAgain.{late_end}
use Rattle.fz_laws.proofs.Patching.{IsPatching, patching_is}
use Rattle.fz_laws.proofs.Prefixes.{AreAfter, LatePrefix, card_stays, card_there, heap_after, late_prefix, order_take_first}
use Rattle.fz_laws.proofs.SafeCuts.{found}
use Rattle.fz_laws.proofs.Slices.{rest_after}
use Rattle.fz_laws.proofs.StepWrites.{applied_both, forms_apart, has_room, in_order, rows_apart}
use Rattle.fz_laws.proofs.SumsRenewed.{data_renewed, hdu_renewed, told_alike, told_verdict}
use Rattle.fz_laws.proofs.SumsWritten.{AreNamedAlike, IsFirst, VerdictLaws, data_absent, data_right, hdu_absent, hdu_right, told_first}
use Rattle.fz_laws.proofs.TargetFacts.{HasTarget, lies}

steps_sums : (file : List ℕ) (h : Header) (g : Given) (olds : List (List ℤ)) → (steps_of file h g olds).sums ≡ sum_writes (applied (before_sums (steps_of file h g olds)) file) h
unfolding steps_of
steps_sums file h g olds = refl

steps_forms : (file : List ℕ) (h : Header) (g : Given) (olds : List (List ℤ)) →
    (steps_of file h g olds).forms ≡ column_writes file h (box_tiles (plan_in file h) g) (new_codes (plan_in file h) g (box_tiles (plan_in file h) g) olds)
unfolding steps_of
steps_forms file h g olds = refl

-- a card before writes that come after it
after_apart : (start place : ℕ) (ws : List Amend) → AreAfter start ws → place + 80 ≤ start → AreApart place ws
after_apart start place [] all low = tt
after_apart start place (w ∷ ws) all low = let here = all.0 in (inr (omega arith), after_apart start place ws all.1 low)

-- the card of a form is none of a sum
form_front : (i : ℕ) → bytes_eq (take 3 (numbered_name (codes "TFORM") i)) (codes "TFO") ≡ true
unfolding numbered_name
form_front i = refl

form_not_sum : (name : List ℕ) → (name ≡ datasum_name) ⊎ (name ≡ checksum_name) → (i : ℕ) → numbered_name (codes "TFORM") i ≡ name → ⊥
form_not_sum name which i same = by_name which
  where
    is : bytes_eq (take 3 name) (codes "TFO") ≡ true
    is = sym (ap (λ n. bytes_eq (take 3 n) (codes "TFO")) same) ∙ form_front i

    by_name : (name ≡ datasum_name) ⊎ (name ≡ checksum_name) → ⊥
    by_name (inl e) = let no : false ≡ true = sym (ap (λ n. bytes_eq (take 3 n) (codes "TFO")) e) ∙ is in absurd cc
    by_name (inr e) = let no : false ≡ true = sym (ap (λ n. bytes_eq (take 3 n) (codes "TFO")) e) ∙ is in absurd cc

-- a card that is put in place: the header has it, and the data stay
pub record CardPut (y : List ℕ) (h : Header) (i : ℕ) (card : List ℕ) : Type 0 where
  pub header : header_in (amended (card_write h i card) y) h ≡ with_card i card (header_in y h)
  pub rest : drop (data_start_of h) (amended (card_write h i card) y) ≡ drop (data_start_of h) y

card_put : (y : List ℕ) (h : Header) (i : ℕ) (card : List ℕ) → length card ≡ 80 → 80 * (i + 1) ≤ 2880 * h.blocks → h.start + 2880 * h.blocks ≤ length y → CardPut y h i card
card_put y h i card long within whole = record {
  header = cards_stand_in_place y h i card long within whole;
  rest = rest_after (h.start + 80 * i) card y (data_start_of h) (omega arith) (omega arith) (omega arith);
}

sums_differ : datasum_name ≡ checksum_name → ⊥
sums_differ same = let no : true ≡ false = ap (λ n. bytes_eq (take 1 n) (codes "D")) same in cc

-- cards of both names are not the same card
cards_differ : (header : List ℕ) (i j : ℕ) → card_name (card_at header i) ≡ datasum_name → card_name (card_at header j) ≡ checksum_name → j ≢ i
cards_differ header i j one two same = sums_differ (sym one ∙ (ap (λ k. card_name (card_at header k)) (sym same) ∙ two))

some_is : (i k : ℕ) → Some i ≡ Some k → i ≡ k
some_is i k same = cc

blank_long : VerdictLaws → length blank_checksum_card ≡ 80
unfolding blank_checksum_card
blank_long laws = laws.cards.made.text_length checksum_name (replicate 16 (byte "0")) refl (omega arith)

-- What the write of DATASUM leaves, if it is told.
record FirstIs (before after : List ℕ) (h : Header) (card : List ℕ) : Type 0 where
  rest : drop (data_start_of h) after ≡ drop (data_start_of h) before
  some : (i : ℕ) → told_sum datasum_name (header_in before h) ≡ Some i → card_at (header_in after h) i ≡ card
  none : told_sum datasum_name (header_in before h) ≡ None → header_in after h ≡ header_in before h
  keeps : (i : ℕ) → card_name (card_at (header_in before h) i) ≡ checksum_name → card_at (header_in after h) i ≡ card_at (header_in before h) i

-- What that of CHECKSUM leaves.
record LastIs (before after : List ℕ) (h : Header) (card : ℕ → List ℕ) : Type 0 where
  rest : drop (data_start_of h) after ≡ drop (data_start_of h) before
  some : (j : ℕ) → told_sum checksum_name (header_in before h) ≡ Some j → header_in after h ≡ with_card j (card j) (header_in before h)
  none : told_sum checksum_name (header_in before h) ≡ None → after ≡ before
  keeps : (i : ℕ) → card_name (card_at (header_in before h) i) ≡ datasum_name → card_at (header_in after h) i ≡ card_at (header_in before h) i

module _ (laws : SafeLaws) (verdicts : VerdictLaws) (file patch : List ℕ) (job : PatchJob) (h : Header) (s : Steps) (p : ArePatching file patch job h s) where
  abbrev g : Given
  g = given_by patch job

  abbrev is : IsPatching file patch job h s
  is = patching_is laws.patch file patch job h s p

  abbrev before : List ℕ
  before = applied (before_sums s) file

  abbrev between : List ℕ
  between = applied (datasum_writes before h) before

  abbrev x : List ℕ
  x = applied (all_writes s) file

  sums_are : s.sums ≡ sum_writes before h
  sums_are =
      ap (λ (u : Steps). u.sums) p.steps_are.steps_are
      ∙ (steps_sums file h g p.steps_are.olds
      ∙ ap (λ (u : Steps). sum_writes (applied (before_sums u) file) h) (sym p.steps_are.steps_are))

  x_is : x ≡ applied (checksum_writes between h) between
  x_is =
      applied_both (before_sums s) s.sums file
      ∙ (ap (λ ws. applied ws before) sums_are
      ∙ applied_both (datasum_writes before h) (checksum_writes between h) before)

  heap_before : length s.heap < length (before_sums s)
  heap_before =
      let one = length-append (before_rows s) s.rows in
      let two = length-append s.heap (s.pcount ++ s.forms) in
      let three = length-append s.pcount s.forms in
      let some = ap length is.are.pcount_is in
      omega arith

  abbrev Late : List ℕ → Type 0
  Late y = LatePrefix file h g is.codes y

  late_at : (n : ℕ) → length s.heap < n → Late (applied (take n (all_writes s)) file)
  late_at n many = late_prefix laws.patch.writes.places laws.patch.writes.cards file h g is.has is.codes s is.are n many

  late_before : Late before
  late_before = subst (λ ws. Late (applied ws file)) (take-append_seam (before_sums s) s.sums) (late_at (length (before_sums s)) heap_before)

  late_between : Late between
  late_between =
      let ds : List Amend = datasum_writes before h in
      let cs : List Amend = checksum_writes between h in
      let many = heap_before in
      let front : take (length (before_sums s) + length ds) (all_writes s) ≡ before_sums s ++ ds =
      take-append-add (before_sums s) s.sums (length ds)
      ∙ ap (λ l. before_sums s ++ l) (ap (take (length ds)) sums_are ∙ take-append_seam ds cs) in
      subst Late (ap (λ ws. applied ws file) front ∙ applied_both (before_sums s) ds file) (late_at (length (before_sums s) + length ds) (omega arith))

  pub late_all : Late x
  late_all =
      let many = heap_before in
      let size = length-append (before_sums s) s.sums in
      subst (λ ws. Late (applied ws file)) (take_all (length (all_writes s)) (all_writes s) (omega arith)) (late_at (length (all_writes s)) (omega arith))

  -- ---- each of them

  header_long : (y : List ℕ) → Late y → length (header_in y h) ≡ 2880 * h.blocks
  header_long y late =
      late.is.cards.length_is
      ∙ header_length laws.cuts.hdus h.hdu h.start file h (found laws.cuts file patch y job h is.codes is.has p.steps_are.target late.is)

  whole : (y : List ℕ) → Late y → h.start + 2880 * h.blocks ≤ length y
  whole y late =
      let ends = is.has.ends in
      let longer = late.is.long in
      omega arith

  -- the data are all that follows the header
  data_is : (y : List ℕ) → Late y → data_now y h ≡ drop (data_start_of h) y
  data_is y late =
      let now : Header = header_now y h in
      let end : next_start_of now ≡ length y = late_end laws.cuts file y h g is.codes is.has late in
      let size : length (drop (data_start_of now) y) ≡ length y - data_start_of now = length-drop (data_start_of now) y in
      let start : data_start_of now ≡ data_start_of h = ap data_start_of (facts_now laws.cuts.hdus laws.cuts.amended file y h g is.codes is.has late.is) in
      take_all (whole_blocks_of now.data_len) (drop (data_start_of now) y) (omega arith) ∙ ap (λ n. drop n y) start

  name_here : (y : List ℕ) → Late y → (i : ℕ) → 80 * i < length (header_in y h) → card_name (card_at (header_in y h) i) ≡ card_name (card_at (header_in file h) i)
  name_here y late i less =
      let size = late.is.cards.length_is in
      name_at laws.patch.writes.cards laws.patch.writes.first (header_in file h) (header_in y h) late.is.cards i (omega arith)

  end_here : (y : List ℕ) → Late y → end_of (header_in y h) ≡ end_of (header_in file h)
  end_here y late = (says laws.cuts.amended file y h is.has.image late.is.cards).end

  put : (y : List ℕ) → Late y → (i : ℕ) (card : List ℕ) → length card ≡ 80 → 80 * (i + 1) ≤ length (header_in y h) → CardPut y h i card
  put y late i card long within = let size = header_long y late in card_put y h i card long (omega arith) (whole y late)

  named_alike : (y z : List ℕ) → Late y → Late z → AreNamedAlike (header_in y h) (header_in z h)
  named_alike y z one two = record {
    ends = end_here z two ∙ sym (end_here y one);
    names =
        λ i below.
        let within = whole_card (header_in y h) i below in
        let y_long = header_long y one in
        let z_long = header_long z two in
        name_here z two i (omega arith) ∙ sym (name_here y one i (omega arith));
  }

  -- ---- DATASUM

  abbrev payload : List ℕ
  payload = data_now before h

  abbrev data_card : List ℕ
  data_card = datasum_card (ones_sum payload)

  data_long : length data_card ≡ 80
  data_long = (laws.patch.writes.datasum (ones_sum payload) (laws.patch.writes.fits payload)).whole

  -- the file with DATASUM
  first_is : FirstIs before between h data_card
  first_is = by_told (told_sum datasum_name (header_in before h)) refl
    where
      with_told : (o : Option ℕ) → told_sum datasum_name (header_in before h) ≡ o → between ≡ applied (datasum_write before h o) before
      with_told o e = ap (λ q. applied (datasum_write before h q) before) e

      by_told : (o : Option ℕ) → told_sum datasum_name (header_in before h) ≡ o → FirstIs before between h data_card
      by_told None e = record {
        rest = ap (drop (data_start_of h)) (with_told None e);
        some = λ i is. let no : None ≡ Some i = sym e ∙ is in absurd cc;
        none = λ is. ap (λ y. header_in y h) (with_told None e);
        keeps = λ i named. ap (λ y. card_at (header_in y h) i) (with_told None e);
      }
      by_told (Some i) e =
          let told = told_card datasum_name (header_in before h) i e in
          let q = put before late_before i data_card data_long told.0 in
          let same : between ≡ amended (card_write h i data_card) before = with_told (Some i) e in
          let there : card_at (header_in between h) i ≡ data_card =
          ap (λ y. card_at (header_in y h) i) same
          ∙ (ap (λ l. card_at l i) q.header
          ∙ laws.patch.writes.places.there i data_card (header_in before h) data_long told.0) in
          record {
            rest = ap (drop (data_start_of h)) same ∙ q.rest;
            some = λ k is. let index : i ≡ k = some_is i k (sym e ∙ is) in subst (λ m. card_at (header_in between h) m ≡ data_card) index there;
            none = λ is. let no : Some i ≡ None = sym e ∙ is in absurd cc;
            keeps =
                λ k named.
                ap (λ y. card_at (header_in y h) k) same
                ∙ (ap (λ l. card_at l k) q.header
                ∙ laws.patch.writes.places.others i k data_card (header_in before h) data_long told.0 (λ one. cards_differ (header_in before h) i k told.2 named (sym one)));
          }

  -- ---- CHECKSUM

  abbrev sum_card : ℕ → List ℕ
  sum_card j = checksum_card (ones_sum (with_card j blank_checksum_card (header_in between h) ++ data_now between h))

  sum_long : (j : ℕ) → length (sum_card j) ≡ 80
  sum_long j = (laws.patch.writes.checksum (ones_sum (with_card j blank_checksum_card (header_in between h) ++ data_now between h))).whole

  -- the file with CHECKSUM
  last_is : LastIs between x h sum_card
  last_is = by_told (told_sum checksum_name (header_in between h)) refl
    where
      with_told : (o : Option ℕ) → told_sum checksum_name (header_in between h) ≡ o → x ≡ applied (checksum_write between h o) between
      with_told o e = x_is ∙ ap (λ q. applied (checksum_write between h q) between) e

      by_told : (o : Option ℕ) → told_sum checksum_name (header_in between h) ≡ o → LastIs between x h sum_card
      by_told None e = record {
        rest = ap (drop (data_start_of h)) (with_told None e);
        some = λ j is. let no : None ≡ Some j = sym e ∙ is in absurd cc;
        none = λ is. with_told None e;
        keeps = λ i named. ap (λ y. card_at (header_in y h) i) (with_told None e);
      }
      by_told (Some j) e =
          let told = told_card checksum_name (header_in between h) j e in
          let q = put between late_between j (sum_card j) (sum_long j) told.0 in
          let same : x ≡ amended (card_write h j (sum_card j)) between = with_told (Some j) e in
          let header : header_in x h ≡ with_card j (sum_card j) (header_in between h) = ap (λ y. header_in y h) same ∙ q.header in
          record {
            rest = ap (drop (data_start_of h)) same ∙ q.rest;
            some = λ k is. let index : j ≡ k = some_is j k (sym e ∙ is) in subst (λ m. header_in x h ≡ with_card m (sum_card m) (header_in between h)) index header;
            none = λ is. let no : Some j ≡ None = sym e ∙ is in absurd cc;
            keeps =
                λ i named.
                ap (λ l. card_at l i) header
                ∙ laws.patch.writes.places.others j i (sum_card j) (header_in between h) (sum_long j) told.0 (cards_differ (header_in between h) i j named told.2);
          }

  -- ---- the verdicts

  data_between : data_now between h ≡ payload
  data_between = data_is between late_between ∙ (first_is.rest ∙ sym (data_is before late_before))

  data_all : data_now x h ≡ payload
  data_all = data_is x late_all ∙ (last_is.rest ∙ (sym (data_is between late_between) ∙ data_between))

  data_verdict : datasum_verdict (cards_of (header_in x h)) payload ≡ told_verdict (told_sum datasum_name (header_in before h))
  data_verdict = by_told (told_sum datasum_name (header_in before h)) refl
    where
      alike : AreNamedAlike (header_in before h) (header_in x h)
      alike = named_alike before x late_before late_all

      by_told : (o : Option ℕ) → told_sum datasum_name (header_in before h) ≡ o → datasum_verdict (cards_of (header_in x h)) payload ≡ told_verdict o
      by_told None e =
          data_absent verdicts (header_in before h) (header_in x h) payload alike e
          (λ i first.
          let same : card_at (header_in between h) i ≡ card_at (header_in before h) i = ap (λ l. card_at l i) (first_is.none e) in
          last_is.keeps i (ap card_name same ∙ first.named) ∙ same)
      by_told (Some i) e =
          let first : IsFirst datasum_name (header_in before h) i = told_first datasum_name (header_in before h) i e in
          let named : card_name (card_at (header_in between h) i) ≡ datasum_name = (named_alike before between late_before late_between).names i first.below ∙ first.named in
          data_right verdicts (header_in before h) (header_in x h) payload i alike e (last_is.keeps i named ∙ first_is.some i e) (laws.patch.writes.fits payload)

  hdu_verdict : checksum_verdict (cards_of (header_in x h)) (header_in x h) payload ≡ told_verdict (told_sum checksum_name (header_in between h))
  hdu_verdict = by_told (told_sum checksum_name (header_in between h)) refl
    where
      alike : AreNamedAlike (header_in between h) (header_in x h)
      alike = named_alike between x late_between late_all

      by_told : (o : Option ℕ) → told_sum checksum_name (header_in between h) ≡ o → checksum_verdict (cards_of (header_in x h)) (header_in x h) payload ≡ told_verdict o
      by_told None e =
          hdu_absent verdicts (header_in between h) (header_in x h) payload alike e (λ i first. ap (λ y. card_at (header_in y h) i) (last_is.none e))
      by_told (Some j) e =
          let old : List ℕ = header_in between h in
          let told = told_card checksum_name old j e in
          let blank : length blank_checksum_card ≡ 80 = blank_long verdicts in
          let new_is : header_in x h ≡ with_card j (checksum_card (ones_sum (with_card j blank_checksum_card old ++ payload))) old =
          last_is.some j e ∙ ap (λ d. with_card j (checksum_card (ones_sum (with_card j blank_checksum_card old ++ d))) old) data_between in
          hdu_right verdicts old (header_in x h) payload j alike e told.0 blank (laws.patch.writes.checksum (ones_sum (with_card j blank_checksum_card old ++ payload))).whole
          (laws.patch.writes.places.long j blank_checksum_card old blank told.0) new_is

  -- ---- the sums that were told before

  abbrev es : List TileCode
  es = new_codes (plan_in file h) g (box_tiles (plan_in file h) g) p.steps_are.olds

  forms_are : s.forms ≡ column_writes file h (box_tiles (plan_in file h) g) es
  forms_are = ap (λ (u : Steps). u.forms) p.steps_are.steps_are ∙ steps_forms file h g p.steps_are.olds

  -- a card of a sum is none of those that are written before the sums
  sum_is_apart : (i : ℕ) (name : List ℕ) → (name ≡ datasum_name) ⊎ (name ≡ checksum_name) → card_name (card_at (header_in file h) i) ≡ name → 80 * (i + 1) ≤ 2880 * h.blocks → AreApart (h.start + 80 * i) (before_sums s)
  sum_is_apart i name which named within =
      let header : List ℕ = header_in file h in
      let t : Table = image_table file h in
      let at : ℕ = h.start + 80 * i in
      let place = lies file h is.has in
      let rows_at = place.rows in
      let heap_at = place.heap in
      let later = is.has.later in
      let few : length (heap_of es) < 2 ^ 64 = let short = (has_room file h (length (heap_of es)) p.steps_are.room).short in omega arith in
      let long : length (number_card (codes "PCOUNT") (h.pcount + length (heap_of is.codes))) ≡ 80 =
      laws.patch.writes.cards.made.integer_length (padded (codes "PCOUNT")) (pos (h.pcount + length (heap_of is.codes))) refl is.are.room.short in
      let heap : AreApart at s.heap =
      after_apart (heap_end t) at s.heap (subst (AreAfter (heap_end t)) (sym is.are.heap_is) (heap_after (heap_end t) file h is.codes (omega arith))) (omega arith) in
      let pcount : AreApart at s.pcount =
      subst (AreApart at) (sym is.are.pcount_is) (
        card_apart h.start (pcount_index header) i header (number_card (codes "PCOUNT") (h.pcount + length (heap_of is.codes))) (padded (codes "PCOUNT")) name long
            (pcount_named header h is.has.image.is_header later) named (λ same. sum_differs name which (sym same)),
        tt,
      ) in
      let forms : AreApart at s.forms =
      subst (AreApart at) (sym forms_are) (forms_apart laws.patch.writes file h i name named (form_not_sum name which) (box_tiles (plan_in file h) g) es is.has p.file_bytes few) in
      let rows : AreApart at s.rows =
      subst (AreApart at) (sym (rows_are laws file patch job h s p))
      (rows_apart at t (table_plan file h) t.heap_len (zip (box_tiles (plan_in file h) g) es) (omega arith)) in
      apart_both at (before_rows s) s.rows (apart_both at s.heap (s.pcount ++ s.forms) heap (apart_both at s.pcount s.forms pcount forms)) rows

  kept_card : (i : ℕ) (name : List ℕ) → (name ≡ datasum_name) ⊎ (name ≡ checksum_name) → IsFirst name (header_in file h) i → card_at (header_in before h) i ≡ card_at (header_in file h) i
  kept_card i name which first =
      let size : length (header_in file h) ≡ 2880 * h.blocks = sym late_before.is.cards.length_is ∙ header_long before late_before in
      let card = whole_card (header_in file h) i first.below in
      let within : 80 * (i + 1) ≤ 2880 * h.blocks = omega arith in
      let ends = is.has.ends in
      let order = order_take_first (before_sums s) s.sums (length file) (in_order file h g is.has is.codes s is.are) in
      card_there before h i within
      ∙ (card_stays (h.start + 80 * i) (before_sums s) file order (sum_is_apart i name which first.named within) (omega arith)
      ∙ sym (card_there file h i within))

  alike_before : (y : List ℕ) → Late y → AreNamedAlike (header_in file h) (header_in y h)
  alike_before y late = record {
    ends = end_here y late;
    names = λ i below. let within = whole_card (header_in file h) i below in let size = late.is.cards.length_is in name_here y late i (omega arith);
  }

  told_data : told_verdict (told_sum datasum_name (header_in before h)) ≡ told_verdict (told_sum datasum_name (header_in file h))
  told_data =
      told_alike verdicts datasum_name (header_in file h) (header_in before h) (alike_before before late_before) (λ i first. kept_card i datasum_name (inl refl) first)

  told_all : told_verdict (told_sum checksum_name (header_in between h)) ≡ told_verdict (told_sum checksum_name (header_in file h))
  told_all =
      told_alike verdicts checksum_name (header_in file h) (header_in between h) (alike_before between late_between)
      (λ i first.
      let kept = kept_card i checksum_name (inr refl) first in
      first_is.keeps i (ap card_name kept ∙ first.named) ∙ kept)

  pub right_sums : HasRightSums file x h
  right_sums =
      let header : header_in x (header_now x h) ≡ header_in x h = header_again laws.cuts.amended file x h is.has.image late_all.is.cards in
      record {
        of_data =
            (λ j. datasum_verdict (cards_of (header j)) (data_all j))
            ∙ (data_verdict ∙ (told_data ∙ sym (data_renewed verdicts (header_in file h) (hdu_of file h).payload)));
        of_hdu =
            (λ j. checksum_verdict (cards_of (header j)) (header j) (data_all j))
            ∙ (hdu_verdict ∙ (told_all ∙ sym (hdu_renewed verdicts (header_in file h) (hdu_of file h).payload)));
      }
