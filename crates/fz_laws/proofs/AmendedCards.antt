-- The cards of a header in which a patch changed some: those that say anything of the image are the same.
use Rattle.std.proofs.Common.{◌≡◌, ℕ, zero, suc, ◌+◌, ◌*◌, ◌/◌, ◌<◌, Bool, true, false, List, length, take, map, codes, bytes_eq, Option, Some, None, option_and_then, unwrap_or, position, if◌then◌else◌, inl, inr, refl, sym, ap, ◌∙◌, subst, arith}
use Rattle.std.specs.List.{range_with_len}
use Rattle.fz_card.specs.Laws.{CardLaws, NameTableLaws}
use Rattle.fz_card.specs.Layout.{card_name, padded}
use Rattle.fz_card.specs.Made.{numbered_name}
use Rattle.fz_card.specs.CardLists.{has_name}
use Rattle.fz_card.specs.Reading.{integer_of, text_of}
use Rattle.fz_card.specs.Tables.{IsDropped, IsNumberedName, own_names, packed_names}
use Rattle.fz_block.specs.Cards.{card_at, end_among, end_of, first_card}
use Rattle.fz_block.specs.Hdus.{cards_of}
use Rattle.fz_sum.specs.Cards.{checksum_name, datasum_name}
use Rattle.fz_table.specs.Columns.{column_called, column_of, columns_len, first_named, form_of, integer_at, is_called, text_at, tform_card, title_of, width_of}
use Rattle.fz_table.specs.Forms.{form_in}
use Rattle.fz_laws.specs.PatchHeaders.{IsAmended, IsAmendedCard, IsChanged}
use Rattle.fz_laws.specs.PatchTaken.{FirstCards}
use Rattle.fz_laws.proofs.Alike.{AreAlike, IsAlike, naming, position_alike, range_alike}
use Rattle.fz_laws.proofs.CardPlaces.{before_end, end_same, first_has}
use Rattle.fz_laws.proofs.Loose.{IsFree, is_loose}
use Rattle.fz_laws.proofs.Passes.{is_named_so}

-- ---- the names of the cards that are changed

datasum_dropped : IsDropped datasum_name
unfolding IsDropped own_names
datasum_dropped = inl (inr (inr (inr (inr (inr (inr (inr (inl refl))))))))

checksum_dropped : IsDropped checksum_name
unfolding IsDropped own_names
checksum_dropped = inl (inr (inr (inr (inr (inr (inr (inl refl)))))))

pcount_dropped : IsDropped (padded (codes "PCOUNT"))
unfolding IsDropped own_names
pcount_dropped = inl (inr (inr (inr (inr (inl refl)))))

form_dropped : (name : List ℕ) → IsNumberedName (codes "TFORM") 1 999 name → IsDropped name
unfolding IsDropped packed_names
form_dropped name is = inr (inr (inr (inl is)))

form_loose : (name : List ℕ) (i : ℕ) → name ≡ numbered_name (codes "TFORM") i → is_loose name ≡ true
unfolding numbered_name
form_loose name i e = ap is_loose e

free_name : NameTableLaws → (name other : List ℕ) → name ≡ other → is_loose other ≡ true → IsDropped other → IsFree name
free_name laws name other e loose dropped = subst IsFree (sym e) (record { loose = loose; dropped = laws.named_dropped other dropped })

pub changed_free : NameTableLaws → (c d : List ℕ) → IsChanged c d → IsFree (card_name c)
changed_free laws c d (inl e) = free_name laws (card_name c) datasum_name e refl datasum_dropped
changed_free laws c d (inr (inl e)) = free_name laws (card_name c) checksum_name e refl checksum_dropped
changed_free laws c d (inr (inr (inl form))) =
    record { loose = form_loose (card_name c) form.name.number form.name.made; dropped = laws.named_dropped (card_name c) (form_dropped (card_name c) form.name) }
changed_free laws c d (inr (inr (inr count))) = free_name laws (card_name c) (padded (codes "PCOUNT")) count.name refl pcount_dropped

pub amended_alike : NameTableLaws → (c d : List ℕ) → IsAmendedCard c d → IsAlike c d
amended_alike laws c d (inl same) = inl same
amended_alike laws c d (inr changed) = inr (changed.0, changed_free laws c d changed.1)

-- a form stays, whatever is in the place of the card that said it
is_form : (name : List ℕ) (i : ℕ) → name ≡ numbered_name (codes "TFORM") i → bytes_eq (take 3 name) (codes "TFO") ≡ true
unfolding numbered_name
is_form name i e = ap (λ n. bytes_eq (take 3 n) (codes "TFO")) e

other_form : (name other : List ℕ) (i : ℕ) → name ≡ numbered_name (codes "TFORM") i → name ≡ other → bytes_eq (take 3 other) (codes "TFO") ≡ false → ⊥
other_form name other i e is not =
    let yes : bytes_eq (take 3 name) (codes "TFO") ≡ true = is_form name i e in
    let no : bytes_eq (take 3 name) (codes "TFO") ≡ false = ap (λ n. bytes_eq (take 3 n) (codes "TFO")) is ∙ not in
    let both : true ≡ false = sym yes ∙ no in
    cc

form_stays : (c d : List ℕ) (i : ℕ) → card_name c ≡ numbered_name (codes "TFORM") i → IsAmendedCard c d →
    option_and_then form_in (text_of d) ≡ option_and_then form_in (text_of c)
form_stays c d i e (inl same) = ap (λ x. option_and_then form_in (text_of x)) same
form_stays c d i e (inr changed) = by_name changed.1
  where
    by_name : IsChanged c d → option_and_then form_in (text_of d) ≡ option_and_then form_in (text_of c)
    by_name (inl is) = absurd (other_form (card_name c) datasum_name i e is refl)
    by_name (inr (inl is)) = absurd (other_form (card_name c) checksum_name i e is refl)
    by_name (inr (inr (inl form))) = form.form
    by_name (inr (inr (inr count))) = absurd (other_form (card_name c) (padded (codes "PCOUNT")) i e count.name refl)

pub tight_title : (i : ℕ) → is_loose (numbered_name (codes "TTYPE") i) ≡ false
unfolding numbered_name
tight_title i = refl

-- ---- in the header

module _ (laws : CardLaws) (first : FirstCards) (old new : List ℕ) (are : IsAmended old new) where
  pub card_alike_at : (i : ℕ) → 80 * i < length old → IsAlike (card_at old i) (card_at new i)
  card_alike_at i within = amended_alike laws.names (card_at old i) (card_at new i) (are.cards i within)

  pub name_at : (i : ℕ) → 80 * i < length old → card_name (card_at new i) ≡ card_name (card_at old i)
  name_at i within = by_card (card_alike_at i within)
    where
      by_card : IsAlike (card_at old i) (card_at new i) → card_name (card_at new i) ≡ card_name (card_at old i)
      by_card (inl same) = ap card_name same
      by_card (inr free) = free.0

  pub ends_same : end_of new ≡ end_of old
  ends_same =
      ap (λ l. end_among (l / 80) new) are.length_is
      ∙ end_same (length old / 80) old new (λ i below. let within : 80 * i < length old = omega arith in name_at i within)

  pub cards_alike : AreAlike (cards_of old) (cards_of new)
  cards_alike =
      subst (λ o. AreAlike (cards_of old) (map (card_at new) (range_with_len 0 (unwrap_or o 0)))) (sym ends_same)
      (range_alike (card_at old) (card_at new) 0 (unwrap_or (end_of old) 0) (λ i below. let less : i < unwrap_or (end_of old) 0 = omega arith in card_alike_at i (before_end old i less)))

  pub named_same : (name : List ℕ) → first_named name new ≡ first_named name old
  unfolding first_named
  named_same name =
      first (has_name name) new
      ∙ (position_alike (has_name name) (naming (λ n. bytes_eq n name)) (cards_of old) (cards_of new) cards_alike
      ∙ sym (first (has_name name) old))

  found_card : (name : List ℕ) (i : ℕ) → first_named name old ≡ Some i → (80 * i < length old) × (card_name (card_at old i) ≡ name)
  unfolding first_named
  found_card name i e =
      let found = first_has (has_name name) (unwrap_or (end_of old) 0) old i e in
      (before_end old i found.0, is_named_so (card_name (card_at old i)) name found.1)

  -- a card that no patch changes
  pub kept_card : (i : ℕ) → 80 * i < length old → is_loose (card_name (card_at old i)) ≡ false → card_at new i ≡ card_at old i
  kept_card i within tight = by_card (card_alike_at i within)
    where
      by_card : IsAlike (card_at old i) (card_at new i) → card_at new i ≡ card_at old i
      by_card (inl same) = same
      by_card (inr free) =
          let loose : is_loose (card_name (card_at old i)) ≡ true = free.1.loose in
          let both : true ≡ false = sym loose ∙ tight in
          absurd cc

  found_kept : (name : List ℕ) → is_loose name ≡ false → (i : ℕ) → first_named name old ≡ Some i → card_at new i ≡ card_at old i
  found_kept name tight i e =
      let found = found_card name i e in
      kept_card i found.0 (ap is_loose found.1 ∙ tight)

  pub integer_same : (name : List ℕ) → is_loose name ≡ false → integer_at new (first_named name new) ≡ integer_at old (first_named name old)
  integer_same name tight = ap (integer_at new) (named_same name) ∙ by_found (first_named name old) refl
    where
      by_found : (o : Option ℕ) → first_named name old ≡ o → integer_at new o ≡ integer_at old o
      by_found None e = refl
      by_found (Some i) e = ap integer_of (found_kept name tight i e)

  pub text_same : (name : List ℕ) → is_loose name ≡ false → text_at new (first_named name new) ≡ text_at old (first_named name old)
  text_same name tight = ap (text_at new) (named_same name) ∙ by_found (first_named name old) refl
    where
      by_found : (o : Option ℕ) → first_named name old ≡ o → text_at new o ≡ text_at old o
      by_found None e = refl
      by_found (Some i) e = ap text_of (found_kept name tight i e)

  pub forms_same : (i : ℕ) → form_of new i ≡ form_of old i
  forms_same i = ap (λ o. option_and_then form_in (text_at new o)) (named_same (numbered_name (codes "TFORM") i)) ∙ by_found (tform_card old i) refl
    where
      by_found : (o : Option ℕ) → tform_card old i ≡ o → option_and_then form_in (text_at new o) ≡ option_and_then form_in (text_at old o)
      by_found None e = refl
      by_found (Some k) e =
          let found = found_card (numbered_name (codes "TFORM") i) k e in
          form_stays (card_at old k) (card_at new k) i found.1 (are.cards k found.0)

  pub titles_same : (i : ℕ) → title_of new i ≡ title_of old i
  titles_same i = text_same (numbered_name (codes "TTYPE") i) (tight_title i)

  pub lens_same : (i : ℕ) → columns_len new i ≡ columns_len old i
  unfolding columns_len
  lens_same zero = refl
  lens_same (suc i) = λ j. lens_same i j + width_of (forms_same (suc i) j)

  pub columns_same : (name : List ℕ) (i : ℕ) → column_called name new i ≡ column_called name old i
  unfolding column_called
  columns_same name zero = refl
  columns_same name (suc i) = λ j.
      if is_called name (titles_same (suc i) j) then Some (column_of (lens_same i j) (forms_same (suc i) j)) else columns_same name i j
