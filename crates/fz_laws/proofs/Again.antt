-- The image of a header in which a patch changed cards: the plan and the table are the same, but for a heap that goes further.
use Rattle.std.proofs.Common.{◌≡◌, ℕ, zero, suc, ◌+◌, ◌-◌, ◌<◌, ◌≤◌, Bool, true, ◌∷◌, [], List, codes, if◌then◌else◌, sym, ap, ◌∙◌, subst, arith}
use Rattle.std.specs.List.{list_any}
use Rattle.fz_block.specs.Checks.{is_set}
use Rattle.fz_block.specs.Facts.{IsHeaderOf, facts_of, sort_of}
use Rattle.fz_block.specs.Hdus.{cards_of}
use Rattle.fz_block.specs.Header.{data_start_of}
use Rattle.fz_block.specs.declared.header.Header.{Header}
use Rattle.fz_table.specs.Columns.{column_called, field_count}
use Rattle.fz_table.specs.Tables.{coded_name, gzip_name, heap_start_of, row_count_of, row_len_of, rows_len_of, stored_name, table_in}
use Rattle.fz_checks.specs.JobChecks.{image_checks, is_after_empty, not_packed, packed_card_checks}
use Rattle.fz_head.specs.Packable.{is_packed, is_table}
use Rattle.fz_head.specs.PackedPlan.{plan_of_cards}
use Rattle.fz_head.specs.TableChecks.{compressed_table, repeated_table_names}
use Rattle.fz_files.specs.Restored.{header_in, image_table, plan_in}
use Rattle.fz_laws.specs.PatchHeaders.{IsAmended, SaysTheSame}
use Rattle.fz_laws.specs.PatchLaws.{AmendedHeadersSayTheSame}
use Rattle.fz_laws.specs.Writes.{header_now}
use Rattle.fz_laws.proofs.OnePatch.{IsFoundImage}
use Rattle.fz_laws.proofs.Passes.{PassesAll, all_pass, and_left, both_pass, is_so}

-- ---- the HDU is no primary

pub not_first : (k : ℕ) (header : List ℕ) → is_table (sort_of k header) ≡ true → 0 < k
not_first zero header e = absurd cc
not_first (suc k) header e = omega arith

pub packed_is_table : (header : List ℕ) (h : Header) → is_packed header h ≡ true → is_table h.sort ≡ true
unfolding is_packed
packed_is_table header h e = and_left (is_table h.sort) (list_any (is_set (codes "ZIMAGE")) (cards_of header)) e

pub found_later : (file : List ℕ) (h : Header) → IsFoundImage file h → 0 < h.hdu
found_later file h found =
    let header = header_in file h in
    let one = both_pass (packed_card_checks h header) (image_checks h header (is_after_empty file h)) found.checks in
    let two = both_pass (if is_table h.sort then compressed_table h header ∷ [] else []) (not_packed h header ∷ repeated_table_names h header ∷ []) one.0 in
    let all : PassesAll (not_packed h header ∷ repeated_table_names h header ∷ []) = all_pass (not_packed h header ∷ repeated_table_names h header ∷ []) two.1 in
    let packed : is_packed header h ≡ true = is_so (is_packed header h) all.0 in
    not_first h.hdu header (ap (λ (x : Header). is_table x.sort) (sym found.is_header.facts) ∙ packed_is_table header h packed)

grown : (a a' p p' s s' : ℕ) → a' ≡ a → p ≤ p' → s' ≡ s → a + p - s ≤ a' + p' - s'
grown a a' p p' s s' rows more start = omega arith

-- ---- the header as it is now

module _ (amended : AmendedHeadersSayTheSame) (file new : List ℕ) (h : Header) (image : IsFoundImage file h) (cards : IsAmended (header_in file h) (header_in new h)) where
  abbrev pub old_header : List ℕ
  old_header = header_in file h

  abbrev pub new_header : List ℕ
  new_header = header_in new h

  abbrev pub now : Header
  now = header_now new h

  is : h ≡ facts_of h.hdu h.start old_header
  is = image.is_header.facts

  pub says : SaysTheSame h.hdu h.start old_header new_header
  says = amended h.hdu h.start old_header new_header (found_later file h image) (subst (λ (x : Header). IsHeaderOf old_header x) is image.is_header) cards

  pub facts_are : now ≡ record h { pcount = now.pcount; data_len = now.data_len }
  facts_are = says.facts ∙ ap (λ (x : Header). record x { pcount = now.pcount; data_len = now.data_len }) (sym is)

  pub header_again : header_in new now ≡ new_header
  header_again = ap (λ (x : Header). header_in new x) facts_are

  pub plan_again : plan_in new now ≡ plan_in file h
  plan_again = ap (λ c. plan_of_cards (cards_of c)) header_again ∙ says.plan

  heap_again : heap_start_of new_header now ≡ heap_start_of old_header h
  heap_again = says.heap ∙ ap (heap_start_of old_header) (sym is)

  column_again : (name : List ℕ) → column_called name new_header (field_count new_header) ≡ column_called name old_header (field_count old_header)
  column_again name = says.columns name (field_count new_header) ∙ ap (column_called name old_header) says.fields

  abbrev pub heap_now : ℕ
  heap_now = rows_len_of now + now.pcount - heap_start_of new_header now

  pub table_again : image_table new now ≡ record (image_table file h) { heap_len = heap_now }
  table_again =
      ap (λ c. table_in c now) header_again
      ∙ (λ j. record {
        row_bytes = row_len_of (facts_are j);
        rows = row_count_of (facts_are j);
        rows_at = data_start_of (facts_are j);
        heap_at = data_start_of (facts_are j) + heap_again j;
        heap_len = heap_now;
        coded = column_again coded_name j;
        stored = column_again stored_name j;
        gzip = column_again gzip_name j;
      })

  pub heap_grows : (image_table file h).heap_len ≤ heap_now
  heap_grows =
      grown (rows_len_of h) (rows_len_of now) h.pcount now.pcount (heap_start_of old_header h) (heap_start_of new_header now) (ap rows_len_of facts_are)
      (subst (λ p. p ≤ now.pcount) (sym (ap (λ (x : Header). x.pcount) is)) says.grows) heap_again
