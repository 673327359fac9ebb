-- Cards that a patch puts in the place of others in a header, and what the header says then (FITS 4.0, sections 4.4.1.2, 4.4.2.7, 7.3.1 and
-- 7.3.5).
use Rattle.std.specs.Prelude.{ℕ, ◌≡◌, ◌≢◌, ◌⊎◌, ◌+◌, ◌*◌, ◌^◌, ◌<◌, ◌≤◌, true, List, length, codes, Some, None, unwrap_or}
use Rattle.fz_base.specs.Refusal.{first_refusal}
use Rattle.fz_card.specs.Layout.{card_name}
use Rattle.fz_card.specs.Reading.{integer_of}
use Rattle.fz_block.specs.Cards.{card_at}
use Rattle.fz_block.specs.Facts.{IsHeaderOf}
use Rattle.fz_block.specs.Hdus.{cards_of, pcount_index, size_at, size_in}
use Rattle.fz_block.specs.declared.header.Header.{Header}
use Rattle.fz_sum.specs.Cards.{checksum_name, datasum_name, with_card}
use Rattle.fz_table.specs.Columns.{tform_card}
use Rattle.fz_table.specs.Tables.{heap_start_of, rows_len_of, table_in}
use Rattle.fz_tile.specs.Pixels.{IsBitpix}
use Rattle.fz_head.specs.PackedHeader.{coded_letter, descriptor_form, number_card, numbered_word_card, stored_letter}
use Rattle.fz_head.specs.PackedPlan.{plan_of_cards}
use Rattle.fz_laws.specs.PatchChecks.{find_checks}
use Rattle.fz_laws.specs.PatchForm.{has_form, is_wide_table}
use Rattle.fz_laws.specs.PatchHeaders.{IsAmended, IsAmendedCard}
use Rattle.fz_laws.specs.Writes.{told_sum}

-- a header of a packed image, which no check refuses
pub record IsFoundHeader (header : List ℕ) (h : Header) : Type 0 where
  pub is_header : IsHeaderOf header h
  pub checks : first_refusal (find_checks h header true) ≡ None

-- a card that may be put in the place of that of this index
pub record IsCardFor (header : List ℕ) (index : ℕ) (card : List ℕ) : Type 0 where
  pub long : length card ≡ 80
  pub within : 80 * (index + 1) ≤ length header
  pub amends : IsAmendedCard (card_at header index) card

-- PCOUNT may say more
abbrev pub CountsGrow : Type 0
CountsGrow =
    (header : List ℕ) (h : Header) (count : ℕ) → IsFoundHeader header h → h.pcount ≤ count → count < 10 ^ 18 →
    IsCardFor header (pcount_index header) (number_card (codes "PCOUNT") count) × (size_in (integer_of (number_card (codes "PCOUNT") count)) ≡ count)

-- the index of the form of a column, if there is one
abbrev pub form_index : List ℕ → ℕ → ℕ
form_index header i = unwrap_or (tform_card header i) 0

-- a card of a form may say another count
abbrev pub IsFormFor : List ℕ → ℕ → List ℕ → ℕ → Type 0
IsFormFor header i letter most =
    IsCardFor header (form_index header i) (numbered_word_card (codes "TFORM") i (descriptor_form (is_wide_table header) letter most))
    × (form_index header i ≢ pcount_index header)

abbrev pub FormsChange : Type 0
FormsChange =
    (header : List ℕ) (h : Header) (most : ℕ) → IsFoundHeader header h → IsBitpix (plan_of_cards (cards_of header)).bitpix →
    has_form header h (plan_of_cards (cards_of header)) ≡ true → most < 2 ^ 64 →
    IsFormFor header 1 (coded_letter (plan_of_cards (cards_of header)).codec) most
    × IsFormFor header 2 (stored_letter (plan_of_cards (cards_of header)).bitpix) most

-- so may that of a checksum
abbrev pub SumsChange : Type 0
SumsChange =
    (header : List ℕ) (h : Header) (name card : List ℕ) (i : ℕ) → IsFoundHeader header h → (name ≡ datasum_name) ⊎ (name ≡ checksum_name) →
    told_sum name header ≡ Some i →
    length card ≡ 80 → card_name card ≡ name → IsCardFor header i card × (i ≢ pcount_index header)

-- one more of them was put there
abbrev pub OneMoreIsAmended : Type 0
OneMoreIsAmended = (base header card : List ℕ) (index : ℕ) → IsAmended base header → IsCardFor base index card → IsAmended base (with_card index card header)

-- the facts of a header, with a heap that is longer by so many bytes
abbrev pub longer : Header → ℕ → Header
longer h more = record h { pcount = h.pcount + more; data_len = h.data_len + more }

-- A header in which such cards were put says the same image, whose heap is longer by so many bytes.
pub record SaysMore (header new : List ℕ) (h : Header) (more : ℕ) : Type 0 where
  pub is : IsFoundHeader new (longer h more)
  pub plan : plan_of_cards (cards_of new) ≡ plan_of_cards (cards_of header)
  pub table : heap_start_of header h ≤ rows_len_of h + h.pcount
      → table_in new (longer h more) ≡ record (table_in header h) { heap_len = (table_in header h).heap_len + more }
  pub wide : is_wide_table new ≡ is_wide_table header
  pub index : pcount_index new ≡ pcount_index header
  pub count : size_at new (pcount_index new) ≡ h.pcount + more

abbrev pub GrownHeadersSayMore : Type 0
GrownHeadersSayMore =
    (header new : List ℕ) (h : Header) (more : ℕ) → IsFoundHeader header h → IsAmended header new → size_at new (pcount_index header) ≡ h.pcount + more →
    SaysMore header new h more
