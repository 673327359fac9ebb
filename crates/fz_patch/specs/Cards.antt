-- The cards of a header that are changed (FITS 4.0, sections 4.4.2.7 and 7.3.1).
use Rattle.std.specs.Prelude.{ℕ, ◌≡◌, ◌+◌, ◌*◌, ◌≤◌, List, [], ◌∷◌, ◌++◌, length, codes, Option, Some, None, unwrap_or, ◌-◌}
use Rattle.fz_base.specs.Counts.{Amend}
use Rattle.fz_block.specs.Walk.{hdu_of}
use Rattle.fz_block.specs.declared.header.Header.{Header}
use Rattle.fz_head.specs.PackedHeader.{coded_letter, descriptor_form, number_card, numbered_word_card, stored_letter}
use Rattle.fz_sum.specs.Cards.{blank_checksum_card, checksum_card, checksum_name, datasum_card, datasum_name, with_card}
use Rattle.fz_sum.specs.Sums.{ones_sum}
use Rattle.fz_table.specs.Columns.{tform_card}
use Rattle.fz_laws.specs.Writes.{card_write, told_sum}
use Rattle.fz_patch.specs.declared.column.Forms.{Forms}
use Rattle.fz_target.specs.declared.measure.Measure.{Measure}
use Rattle.fz_patch.specs.declared.places.Places.{Places}
use Rattle.fz_target.specs.declared.target.Target.{Target}
use Rattle.fz_checks.specs.Greatest.{greatest}
use Rattle.fz_table.specs.declared.row.Row.{Row}
use Rattle.fz_target.specs.Measures.{counted_with_all, form_for}

-- a card of this index is in the header
abbrev pub IsCardIn : List ℕ → ℕ → Type 0
IsCardIn header i = 80 * (i + 1) ≤ length header

-- where the cards of the forms are
pub record HasPlaces (header : List ℕ) (p : Places) : Type 0 where
  pub coded : p.coded ≡ unwrap_or (tform_card header 1) 0
  pub stored : p.stored ≡ unwrap_or (tform_card header 2) 0
  pub coded_in : IsCardIn header p.coded
  pub stored_in : IsCardIn header p.stored

-- ---- PCOUNT and the forms

-- the card of a form that says this greatest count
abbrev pub form_card_of : Target → ℕ → List ℕ → ℕ → List ℕ
form_card_of t column letter most = numbered_word_card (codes "TFORM") column (descriptor_form t.wide letter most)

abbrev pub form_write : Target → ℕ → ℕ → List ℕ → Option ℕ → List Amend
form_write t column place letter None = []
form_write t column place letter (Some most) = card_write t.header place (form_card_of t column letter most) ∷ []

-- the header with that card
abbrev pub with_form : Target → ℕ → ℕ → List ℕ → Option ℕ → List ℕ → List ℕ
with_form t column place letter None header = header
with_form t column place letter (Some most) header = with_card place (form_card_of t column letter most) header

-- the index of PCOUNT, which is after the axes
abbrev pub pcount_at : Target → ℕ
pcount_at t = 3 + t.header.axes.n

abbrev pub pcount_card : Target → Measure → List ℕ
pcount_card t m = number_card (codes "PCOUNT") (t.header.pcount + m.bytes)

-- PCOUNT, and then the forms that come to say more
abbrev pub forms_writes : Target → Places → Measure → Forms → List Amend
forms_writes t p m forms =
    card_write t.header (pcount_at t) (pcount_card t m)
    ∷ (form_write t 1 p.coded (coded_letter t.image.plan.codec) forms.coded
    ++ form_write t 2 p.stored (stored_letter t.image.plan.bitpix) forms.stored)

abbrev pub with_forms : Target → Places → Measure → Forms → List ℕ → List ℕ
with_forms t p m forms header =
    with_form t 2 p.stored (stored_letter t.image.plan.bitpix) forms.stored
    (with_form t 1 p.coded (coded_letter t.image.plan.codec) forms.coded
    (with_card (pcount_at t) (pcount_card t m) header))

-- ---- the checksums

abbrev pub datasum_write : Header → Option ℕ → ℕ → List Amend
datasum_write h None sum = []
datasum_write h (Some i) sum = card_write h i (datasum_card sum) ∷ []

abbrev pub with_datasum : Option ℕ → ℕ → List ℕ → List ℕ
with_datasum None sum header = header
with_datasum (Some i) sum header = with_card i (datasum_card sum) header

-- CHECKSUM, of these data and a header in which it is blank
abbrev pub checksum_write : Header → Option ℕ → List ℕ → List ℕ → List Amend
checksum_write h None payload header = []
checksum_write h (Some i) payload header = card_write h i (checksum_card (ones_sum (with_card i blank_checksum_card header ++ payload))) ∷ []

-- both cards, of a file that has all other writes, and whose header this is
abbrev pub sums_writes : Header → List ℕ → List ℕ → List Amend
sums_writes h file header =
    let payload = (hdu_of file h).payload in
    let sum = ones_sum payload in
    let datasum = told_sum datasum_name header in
    datasum_write h datasum sum ++ checksum_write h (told_sum checksum_name header) payload (with_datasum datasum sum header)

-- the forms of both columns, which say these greatest counts so far
abbrev pub forms_for : ℕ → ℕ → Measure → List Row → Forms
forms_for coded stored m others = record {
  coded = form_for coded m.coded (counted_with_all m others).coded;
  stored = form_for stored m.stored (counted_with_all m others).stored;
}
