-- The header of the image after some of the writes of a patch: what it says of the heap, and that it is found in the file.
use Rattle.std.proofs.Common.{◌≡◌, ◌⊎◌, inl, inr, ℕ, zero, suc, ◌+◌, ◌-◌, ◌*◌, ◌/◌, ◌^◌, ◌<◌, ◌≤◌, ◌==◌, ◌&&◌, not, nat_lt, Bool, true, false, List, [], ◌∷◌, ◌++◌, length, take, drop, codes, bytes_eq, Option, Some, None, is_some, Result, Ok, Err, refl, sym, ap, ◌∙◌, subst, arith, take-take, length-take-le, length-drop, le-ltb}
use Rattle.fz_base.specs.Refusal.{first_refusal, refusal}
use Rattle.fz_base.specs.declared.fault.Fault.{Fault}
use Rattle.fz_base.specs.declared.fault.Place.TheVariants.{Byte, Card}
use Rattle.fz_base.specs.declared.kind.Kind.TheVariants.{BadCard, Limit, Truncated}
use Rattle.fz_block.specs.Cards.{card_at, end_of, is_named}
use Rattle.fz_block.specs.Checks.{blocks_to_end, end_checks, ends_in_last_block, group_checks, hdu_at, hdu_end, header_checks, header_of, unless_refused}
use Rattle.fz_block.specs.Facts.{IsHeaderOf, facts_of}
use Rattle.fz_block.specs.Hdus.{data_len_of, naxis_of, pcount_index, size_at}
use Rattle.fz_block.specs.Header.{data_start_of, next_start_of, whole_blocks_of}
use Rattle.fz_block.specs.Mandatory.{mandatory_checks}
use Rattle.fz_block.specs.Walk.{StandsAt, begins_hdu, hdu_of}
use Rattle.fz_block.specs.declared.header.Header.{Header}
use Rattle.fz_card.specs.Reading.{text_of}
use Rattle.fz_table.specs.Tables.{heap_start_of, rows_len_of, table_checks}
use Rattle.fz_table.specs.declared.table.Table.{Table}
use Rattle.fz_tile.specs.TileCode.{TileCode}
use Rattle.fz_checks.specs.JobChecks.{image_checks, is_after_empty, packed_card_checks}
use Rattle.fz_head.specs.PackedChecks.{packed_checks}
use Rattle.fz_files.specs.Restored.{header_in, image_table}
use Rattle.fz_laws.specs.PatchChecks.{find_checks}
use Rattle.fz_laws.specs.Given.{Given}
use Rattle.fz_laws.specs.PatchHeaders.{SaysTheSame}
use Rattle.fz_laws.specs.PatchLaws.{AmendedHeadersSayTheSame}
use Rattle.fz_laws.specs.PatchTaken.{HduLaws}
use Rattle.fz_laws.specs.Writes.{header_now}
use Rattle.fz_laws.proofs.Again.{facts_are, header_again, says, table_again}
use Rattle.fz_laws.proofs.AlikeFiles.{checked, header_length, number}
use Rattle.fz_laws.proofs.AmendedFacts.{HasMandatory, has_mandatory}
use Rattle.fz_laws.proofs.CardWrites.{pcount_said}
use Rattle.fz_laws.proofs.DataLen.{table_data, two_axes}
use Rattle.fz_laws.proofs.Passes.{PassesAll, all_pass, and_left, both_pass, joined_pass}
use Rattle.fz_laws.proofs.Prefixes.{IsPrefix}
use Rattle.fz_laws.proofs.TargetFacts.{HasTarget, heap_start_is, lies}

none_of : {A : Type 0} (a b : A) (found : Option Fault) → unless_refused a found ≡ Ok b → found ≡ None
none_of a b None e = refl
none_of a b (Some x) e = absurd cc

module _ (laws : HduLaws) (amended : AmendedHeadersSayTheSame) (file x : List ℕ) (h : Header) (g : Given) (es : List TileCode) (has : HasTarget file h) (is : IsPrefix file h g es x) where
  abbrev pub now : Header
  now = header_now x h

  abbrev new_header : List ℕ
  new_header = header_in x h

  same : SaysTheSame h.hdu h.start (header_in file h) new_header
  same = says amended file x h has.image is.cards

  pub facts_now : now ≡ record h { pcount = now.pcount; data_len = now.data_len }
  facts_now = facts_are amended file x h has.image is.cards

  old_is : h ≡ facts_of h.hdu h.start (header_in file h)
  old_is = has.image.is_header.facts

  -- the checks by which the image was found pass
  pub checks_now : first_refusal (find_checks now new_header (is_after_empty file h)) ≡ None
  checks_now = same.checks (is_after_empty file h) (ap (λ (f : Header). first_refusal (find_checks f (header_in file h) (is_after_empty file h))) (sym old_is) ∙ has.image.checks)

  table_now : PassesAll (table_checks new_header now)
  table_now =
      let one = both_pass (packed_card_checks now new_header) (image_checks now new_header (is_after_empty file h)) checks_now in
      let two = both_pass (table_checks new_header now) (packed_checks now.hdu new_header (is_after_empty file h)) one.1 in
      all_pass (table_checks new_header now) two.0

  pub data_now_is : now.data_len ≡ now.pcount + rows_len_of now
  data_now_is = table_data new_header now same.header table_now

  pub count_is : now.pcount ≡ is.count
  count_is =
      let two_now : naxis_of new_header ≡ 2 = two_axes new_header now same.header table_now in
      let two_old : naxis_of (header_in file h) ≡ 2 = two_axes (header_in file h) h has.image.is_header has.table in
      pcount_said new_header now same.header has.later
      ∙ (ap (λ n. size_at new_header (3 + n)) (two_now ∙ sym two_old)
      ∙ is.counted)

  pub next_is : next_start_of now ≡ data_start_of h + whole_blocks_of (is.count + rows_len_of h)
  next_is =
      let rows : rows_len_of now ≡ rows_len_of h = ap rows_len_of facts_now in
      let start : data_start_of now ≡ data_start_of h = ap data_start_of facts_now in
      λ j. start j + whole_blocks_of ((data_now_is ∙ (λ i. count_is i + rows i)) j)

  pub heap_is : (image_table x now).heap_len ≡ is.count
  heap_is =
      let rows : rows_len_of now ≡ rows_len_of h = ap rows_len_of facts_now in
      let table = ap (λ (t : Table). t.heap_len) (table_again amended file x h has.image is.cards) in
      let start : heap_start_of new_header now ≡ heap_start_of (header_in file h) h = same.heap ∙ ap (heap_start_of (header_in file h)) (sym old_is) in
      let old = heap_start_is file h has in
      let count = count_is in
      table ∙ omega arith

  -- ---- found

  pub found_now : hdu_at h.hdu h.start file ≡ Ok h → hdu_at h.hdu h.start x ≡ Ok now
  unfolding header_of
  found_now found = by_number h.hdu refl has.later
    where
      long_same : length new_header ≡ 2880 * h.blocks
      long_same = is.cards.length_is ∙ header_length laws h.hdu h.start file h found

      old_checks : first_refusal (header_checks h.hdu h.start (length file) (header_in file h)) ≡ None
      old_checks = none_of (facts_of h.hdu h.start (header_in file h)) h (first_refusal (header_checks h.hdu h.start (length file) (header_in file h))) (checked laws h.hdu h.start file h found)

      old_end : not (ends_in_last_block (header_in file h)) ≡ false
      old_end = (all_pass (header_checks h.hdu h.start (length file) (header_in file h)) old_checks).0

      new_end : not (ends_in_last_block new_header) ≡ false
      new_end = (λ j. not (is_some (same.end j) && (2880 * blocks_to_end (same.end j) == is.cards.length_is j))) ∙ old_end

      end_is : hdu_end h.hdu h.start new_header ≡ next_start_of now
      end_is = (λ j. h.start + long_same j + whole_blocks_of (data_len_of h.hdu new_header)) ∙ sym (ap (λ n. n + whole_blocks_of now.data_len) (ap data_start_of facts_now))

      by_number : (n : ℕ) → h.hdu ≡ n → 0 < n → hdu_at h.hdu h.start x ≡ Ok now
      by_number zero e some = absurd (omega arith)
      by_number (suc k) e some =
          let fits = is.fits in
          let most = is.most in
          let next = next_is in
          let end = end_is in
          let low : nat_lt (2 ^ 62) (hdu_end h.hdu h.start new_header) ≡ false = le-ltb (2 ^ 62) (hdu_end h.hdu h.start new_header) (omega arith) in
          let within : nat_lt (length x) (hdu_end h.hdu h.start new_header) ≡ false = le-ltb (length x) (hdu_end h.hdu h.start new_header) (omega arith) in
          let groups : first_refusal (group_checks h.hdu new_header) ≡ None = ap (λ n. first_refusal (group_checks n new_header)) e in
          let ends : first_refusal (end_checks h.hdu (length x) (hdu_end h.hdu h.start new_header)) ≡ None =
          (λ j. first_refusal ((low j, refusal h.hdu (Card 2) Limit) ∷ (within j, refusal h.hdu (Byte (length x)) Truncated) ∷ [])) in
          let rest : first_refusal (mandatory_checks h.hdu new_header ++ (group_checks h.hdu new_header ++ end_checks h.hdu (length x) (hdu_end h.hdu h.start new_header))) ≡ None =
          joined_pass (mandatory_checks h.hdu new_header) (group_checks h.hdu new_header ++ end_checks h.hdu (length x) (hdu_end h.hdu h.start new_header)) same.header.mandatory
          (joined_pass (group_checks h.hdu new_header) (end_checks h.hdu (length x) (hdu_end h.hdu h.start new_header)) groups ends) in
          let all : first_refusal (header_checks h.hdu h.start (length x) new_header) ≡ None =
          ap (λ b. first_refusal ((b, refusal h.hdu (Card 0) BadCard) ∷ (mandatory_checks h.hdu new_header ++ (group_checks h.hdu new_header ++ end_checks h.hdu (length x) (hdu_end h.hdu h.start new_header))))) new_end ∙ rest in
          let had : HasMandatory k new_header = has_mandatory k new_header (subst (λ n. first_refusal (mandatory_checks n new_header) ≡ None) e same.header.mandatory) in
          let begins : begins_hdu h.hdu new_header ≡ true =
          ap (λ n. begins_hdu n new_header) e
          ∙ (ap (λ l. bytes_eq l (codes "XTENSION")) (sym (take-take 8 80 new_header (omega arith)))
          ∙ and_left (is_named (codes "XTENSION") (card_at new_header 0)) (is_some (text_of (card_at new_header 0))) had.extension) in
          let stands : StandsAt h.hdu h.start x new_header =
          record { whole = same.header.whole; short = same.header.short; place = ap (λ n. take n (drop h.start x)) long_same; number = number laws h.hdu h.start file h found; begins = begins } in
          laws.header h.hdu h.start x new_header stands ∙ ap (unless_refused now) all
