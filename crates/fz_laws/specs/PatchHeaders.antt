-- A packed header in which a patch changed some cards: what it says of the image stays, and the heap is longer (FITS 4.0, sections 4.4.1.2,
-- 4.4.2.7, 7.3.1 and 7.3.5).
use Rattle.std.specs.Prelude.{ℕ, ◌≡◌, ◌⊎◌, ◌*◌, ◌<◌, ◌≤◌, Bool, pos, List, length, codes, Some, None}
use Rattle.std.specs.Option.{option_and_then}
use Rattle.fz_base.specs.Refusal.{first_refusal}
use Rattle.fz_card.specs.Layout.{card_name, padded}
use Rattle.fz_card.specs.Reading.{integer_of, text_of}
use Rattle.fz_card.specs.Tables.{IsNumberedName}
use Rattle.fz_block.specs.Cards.{card_at, end_of}
use Rattle.fz_block.specs.Facts.{IsHeaderOf, facts_of}
use Rattle.fz_block.specs.Hdus.{cards_of, size_in}
use Rattle.fz_sum.specs.Cards.{checksum_name, datasum_name}
use Rattle.fz_table.specs.Columns.{column_called, field_count, form_of, title_of}
use Rattle.fz_table.specs.Forms.{form_in}
use Rattle.fz_table.specs.Tables.{heap_start_of}
use Rattle.fz_head.specs.Packable.{is_packed}
use Rattle.fz_head.specs.PackedPlan.{plan_of_cards}
use Rattle.fz_head.specs.PlainHeader.{plain_header}
use Rattle.fz_laws.specs.PatchChecks.{find_checks}

-- a card of the form of a column, which is read as before
pub record IsFormCard (old new : List ℕ) : Type 0 where
  pub name : IsNumberedName (codes "TFORM") 1 999 (card_name old)
  pub form : option_and_then form_in (text_of new) ≡ option_and_then form_in (text_of old)

-- PCOUNT, which says at least as much as before
pub record IsPcountCard (old new : List ℕ) : Type 0 where
  pub name : card_name old ≡ padded (codes "PCOUNT")
  pub count : ℕ
  pub says : integer_of new ≡ Some (pos count)
  pub grows : size_in (integer_of old) ≤ count

-- what is changed: the card of a checksum, of a form, or PCOUNT
abbrev pub IsChanged : List ℕ → List ℕ → Type 0
IsChanged old new = (card_name old ≡ datasum_name) ⊎ ((card_name old ≡ checksum_name) ⊎ (IsFormCard old new ⊎ IsPcountCard old new))

-- a card stays, or another of the same name is in its place
abbrev pub IsAmendedCard : List ℕ → List ℕ → Type 0
IsAmendedCard old new = (new ≡ old) ⊎ ((card_name new ≡ card_name old) × IsChanged old new)

-- so does each card of a header, which stays as long as it was
pub record IsAmended (old new : List ℕ) : Type 0 where
  pub length_is : length new ≡ length old
  pub cards : (index : ℕ) → 80 * index < length old → IsAmendedCard (card_at old index) (card_at new index)

-- What such a header says, beside what the old one said.
pub record SaysTheSame (k start : ℕ) (old new : List ℕ) : Type 0 where
  pub end : end_of new ≡ end_of old
  pub header : IsHeaderOf new (facts_of k start new)
  pub facts : facts_of k start new ≡ record (facts_of k start old) { pcount = (facts_of k start new).pcount; data_len = (facts_of k start new).data_len }
  pub grows : (facts_of k start old).pcount ≤ (facts_of k start new).pcount
  pub checks :
      (after_empty : Bool) → first_refusal (find_checks (facts_of k start old) old after_empty) ≡ None →
      first_refusal (find_checks (facts_of k start new) new after_empty) ≡ None
  pub packed : is_packed new (facts_of k start new) ≡ is_packed old (facts_of k start old)
  pub plan : plan_of_cards (cards_of new) ≡ plan_of_cards (cards_of old)
  pub plain : plain_header (cards_of new) ≡ plain_header (cards_of old)
  pub forms : (i : ℕ) → form_of new i ≡ form_of old i
  pub titles : (i : ℕ) → title_of new i ≡ title_of old i
  pub fields : field_count new ≡ field_count old
  pub columns : (name : List ℕ) (i : ℕ) → column_called name new i ≡ column_called name old i
  pub heap : heap_start_of new (facts_of k start new) ≡ heap_start_of old (facts_of k start old)
