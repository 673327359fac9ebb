-- The facts of a header in which a patch changed cards: all but the length of the heap are the same, and the mandatory cards are there.
use Rattle.std.proofs.Common.{◌≡◌, ℕ, suc, ◌+◌, ◌-◌, ◌*◌, ◌/◌, ◌<◌, ◌≤◌, ◌&&◌, not, nat_lt, true, false, pos, ℤ, List, [], ◌∷◌, ◌++◌, length, take, map, codes, bytes_eq, None, IsSome, is_some, unwrap_or, flat_map, inl, inr, refl, sym, ap, ◌∙◌, subst, arith, ltb-false, length-take-le}
use Rattle.std.specs.List.{range_with_len}
use Rattle.std.proofs.lemmas.List.FromFn.{length-map-range_with_len}
use Rattle.fz_base.specs.Refusal.{first_refusal, refusal}
use Rattle.fz_base.specs.declared.fault.Place.TheVariants.{Card}
use Rattle.fz_base.specs.declared.kind.Kind.TheVariants.{Limit}
use Rattle.fz_card.specs.Laws.{CardLaws}
use Rattle.fz_card.specs.Layout.{card_name, padded}
use Rattle.fz_card.specs.Made.{numbered_name}
use Rattle.fz_card.specs.Reading.{integer_of, text_of}
use Rattle.fz_block.specs.Cards.{card_at, end_among, end_of, is_named, is_numbered}
use Rattle.fz_block.specs.Facts.{IsHeaderOf, facts_of, nine_axes, sort_named}
use Rattle.fz_block.specs.Hdus.{IsHeader, axes_of, gcount_index, naxis_of, pcount_index, size_at, size_in}
use Rattle.fz_block.specs.Mandatory.{axis_checks, count_checks, is_bitpix, is_size, mandatory_checks, must}
use Rattle.fz_sum.specs.Cards.{checksum_name, datasum_name}
use Rattle.fz_laws.specs.PatchHeaders.{IsAmended, IsAmendedCard, IsChanged}
use Rattle.fz_laws.specs.PatchTaken.{FirstCards}
use Rattle.fz_laws.proofs.AmendedCards.{ends_same, kept_card, name_at}
use Rattle.fz_laws.proofs.CardPlaces.{card_in_front, end_same}
use Rattle.fz_laws.proofs.Loose.{is_loose}
use Rattle.fz_laws.proofs.Passes.{PassesAll, all_pass, and_both, and_left, and_right, each_passes, flat_map_range, is_named_so, is_so, map_range, pass_both}

tight_plain_axis : (i : ℕ) → is_loose (numbered_name (codes "NAXIS") i) ≡ false
unfolding numbered_name
tight_plain_axis i = refl

no_form : (i : ℕ) → bytes_eq (take 3 (numbered_name (codes "TFORM") i)) (codes "PCO") ≡ false
unfolding numbered_name
no_form i = refl

-- the mandatory cards of an extension stand in their places
pub record HasMandatory (k : ℕ) (header : List ℕ) : Type 0 where
  pub extension : (is_named (codes "XTENSION") (card_at header 0) && is_some (text_of (card_at header 0))) ≡ true
  pub bitpix : (is_named (codes "BITPIX") (card_at header 1) && is_bitpix (integer_of (card_at header 1))) ≡ true
  pub naxis : (is_named (codes "NAXIS") (card_at header 2) && is_size (integer_of (card_at header 2))) ≡ true
  pub few : naxis_of header ≤ 9
  pub axes : (i : ℕ) → 1 ≤ i → i < 1 + naxis_of header → is_numbered (codes "NAXIS") i (card_at header (2 + i)) ≡ true
  pub pcount : (is_named (codes "PCOUNT") (card_at header (pcount_index header)) && is_size (integer_of (card_at header (pcount_index header)))) ≡ true
  pub gcount : (is_named (codes "GCOUNT") (card_at header (gcount_index header)) && is_size (integer_of (card_at header (gcount_index header)))) ≡ true

axis_named : (k i : ℕ) (header : List ℕ) → PassesAll (axis_checks k header i) → is_numbered (codes "NAXIS") i (card_at header (2 + i)) ≡ true
axis_named k i header all =
    and_left (is_numbered (codes "NAXIS") i (card_at header (2 + i))) (is_size (integer_of (card_at header (2 + i))))
    (is_so (is_numbered (codes "NAXIS") i (card_at header (2 + i)) && is_size (integer_of (card_at header (2 + i)))) all.0)

pub has_mandatory : (k : ℕ) (header : List ℕ) → first_refusal (mandatory_checks (suc k) header) ≡ None → HasMandatory k header
has_mandatory k header e =
    let all : PassesAll (mandatory_checks (suc k) header) = all_pass (mandatory_checks (suc k) header) e in
    let rest = pass_both (flat_map (axis_checks (suc k) header) (range_with_len 1 (naxis_of header))) (count_checks (suc k) header) all.1.1.1.1 in
    record {
      extension = is_so (is_named (codes "XTENSION") (card_at header 0) && is_some (text_of (card_at header 0))) all.0;
      bitpix = is_so (is_named (codes "BITPIX") (card_at header 1) && is_bitpix (integer_of (card_at header 1))) all.1.0;
      naxis = is_so (is_named (codes "NAXIS") (card_at header 2) && is_size (integer_of (card_at header 2))) all.1.1.0;
      few = ltb-false 9 (naxis_of header) all.1.1.1.0;
      axes = λ i low high. axis_named (suc k) i header (each_passes (axis_checks (suc k) header) 1 (naxis_of header) rest.0 i low high);
      pcount = is_so (is_named (codes "PCOUNT") (card_at header (pcount_index header)) && is_size (integer_of (card_at header (pcount_index header)))) rest.1.0;
      gcount = is_so (is_named (codes "GCOUNT") (card_at header (gcount_index header)) && is_size (integer_of (card_at header (gcount_index header)))) rest.1.1.0;
    }

-- what stands in the place of PCOUNT says a number that is no less
record SaysMore (c d : List ℕ) : Type 0 where
  said : is_size (integer_of d) ≡ true
  more : size_in (integer_of c) ≤ size_in (integer_of d)

module _ (laws : CardLaws) (first : FirstCards) (k start : ℕ) (old new : List ℕ) (is : IsHeaderOf old (facts_of (suc k) start old)) (are : IsAmended old new) where
  had : HasMandatory k old
  had = has_mandatory k old is.mandatory

  long : 2880 ≤ length old
  long = let blocks = is.whole.blocks in omega arith

  kept_named : (i : ℕ) (name : List ℕ) → i < 36 → bytes_eq (card_name (card_at old i)) name ≡ true → is_loose name ≡ false → card_at new i ≡ card_at old i
  kept_named i name low named tight =
      let whole = long in
      let within : 80 * i < length old = omega arith in
      kept_card laws first old new are i within (ap is_loose (is_named_so (card_name (card_at old i)) name named) ∙ tight)

  extension_kept : card_at new 0 ≡ card_at old 0
  extension_kept = kept_named 0 (padded (codes "XTENSION")) (omega arith) (and_left (is_named (codes "XTENSION") (card_at old 0)) (is_some (text_of (card_at old 0))) had.extension) refl

  bitpix_kept : card_at new 1 ≡ card_at old 1
  bitpix_kept = kept_named 1 (padded (codes "BITPIX")) (omega arith) (and_left (is_named (codes "BITPIX") (card_at old 1)) (is_bitpix (integer_of (card_at old 1))) had.bitpix) refl

  naxis_kept : card_at new 2 ≡ card_at old 2
  naxis_kept = kept_named 2 (padded (codes "NAXIS")) (omega arith) (and_left (is_named (codes "NAXIS") (card_at old 2)) (is_size (integer_of (card_at old 2))) had.naxis) refl

  pub axis_kept : (i : ℕ) → 1 ≤ i → i < 1 + naxis_of old → card_at new (2 + i) ≡ card_at old (2 + i)
  axis_kept i low high =
      let few = had.few in
      kept_named (2 + i) (numbered_name (codes "NAXIS") i) (omega arith) (had.axes i low high) (tight_plain_axis i)

  gcount_kept : card_at new (gcount_index old) ≡ card_at old (gcount_index old)
  gcount_kept = let few = had.few in kept_named (gcount_index old) (padded (codes "GCOUNT")) (omega arith) (and_left (is_named (codes "GCOUNT") (card_at old (gcount_index old))) (is_size (integer_of (card_at old (gcount_index old)))) had.gcount) refl

  pub naxis_same : naxis_of new ≡ naxis_of old
  naxis_same = ap (λ c. size_in (integer_of c)) naxis_kept

  axis_size : (i : ℕ) → 3 ≤ i → i < 3 + naxis_of old → size_at new i ≡ size_at old i
  axis_size i low high =
      let place : 2 + (i - 2) ≡ i = omega arith in
      subst (λ n. size_at new n ≡ size_at old n) place (ap (λ c. size_in (integer_of c)) (axis_kept (i - 2) (omega arith) (omega arith)))

  pub axes_same : axes_of new ≡ axes_of old
  axes_same = ap (λ n. map (size_at new) (range_with_len 3 n)) naxis_same ∙ map_range (size_at old) (size_at new) 3 (naxis_of old) axis_size

  -- PCOUNT
  pcount_named : card_name (card_at old (pcount_index old)) ≡ padded (codes "PCOUNT")
  pcount_named =
      is_named_so (card_name (card_at old (pcount_index old))) (padded (codes "PCOUNT"))
      (and_left (is_named (codes "PCOUNT") (card_at old (pcount_index old))) (is_size (integer_of (card_at old (pcount_index old)))) had.pcount)

  pcount_within : 80 * pcount_index old < length old
  pcount_within = let few = had.few in let whole = long in omega arith

  pcount_card : IsAmendedCard (card_at old (pcount_index old)) (card_at new (pcount_index old))
  pcount_card = are.cards (pcount_index old) pcount_within

  says_more : IsAmendedCard (card_at old (pcount_index old)) (card_at new (pcount_index old)) → SaysMore (card_at old (pcount_index old)) (card_at new (pcount_index old))
  says_more (inl same) = record {
    said = ap (λ c. is_size (integer_of c)) same ∙ and_right (is_named (codes "PCOUNT") (card_at old (pcount_index old))) (is_size (integer_of (card_at old (pcount_index old)))) had.pcount;
    more = let size : size_in (integer_of (card_at new (pcount_index old))) ≡ size_in (integer_of (card_at old (pcount_index old))) = ap (λ c. size_in (integer_of c)) same in omega arith;
  }
  says_more (inr changed) = by_name changed.1
    where
      other : (name : List ℕ) → card_name (card_at old (pcount_index old)) ≡ name → bytes_eq (take 3 name) (codes "PCO") ≡ false → ⊥
      other name e not =
          let both : true ≡ false = ap (λ n. bytes_eq (take 3 n) (codes "PCO")) (sym pcount_named ∙ e) ∙ not in
          cc

      by_name : IsChanged (card_at old (pcount_index old)) (card_at new (pcount_index old)) → SaysMore (card_at old (pcount_index old)) (card_at new (pcount_index old))
      by_name (inl e) = absurd (other datasum_name e refl)
      by_name (inr (inl e)) = absurd (other checksum_name e refl)
      by_name (inr (inr (inl form))) = absurd (other (numbered_name (codes "TFORM") form.name.number) form.name.made (no_form form.name.number))
      by_name (inr (inr (inr count))) = record {
        said = ap is_size count.says;
        more = let size : size_in (integer_of (card_at new (pcount_index old))) ≡ count.count = ap size_in count.says in let grows = count.grows in omega arith;
      }

  pcount_says : SaysMore (card_at old (pcount_index old)) (card_at new (pcount_index old))
  pcount_says = says_more pcount_card

  pcount_passes : (is_named (codes "PCOUNT") (card_at new (pcount_index old)) && is_size (integer_of (card_at new (pcount_index old))))
      ≡ (is_named (codes "PCOUNT") (card_at old (pcount_index old)) && is_size (integer_of (card_at old (pcount_index old))))
  pcount_passes =
      and_both (is_named (codes "PCOUNT") (card_at new (pcount_index old))) (is_size (integer_of (card_at new (pcount_index old))))
      (ap (λ n. bytes_eq n (padded (codes "PCOUNT"))) (name_at laws first old new are (pcount_index old) pcount_within) ∙ and_left (is_named (codes "PCOUNT") (card_at old (pcount_index old))) (is_size (integer_of (card_at old (pcount_index old)))) had.pcount)
      pcount_says.said
      ∙ sym had.pcount

  -- ---- the mandatory cards

  axes_checked : flat_map (axis_checks (suc k) new) (range_with_len 1 (naxis_of new)) ≡ flat_map (axis_checks (suc k) old) (range_with_len 1 (naxis_of old))
  axes_checked =
      ap (λ n. flat_map (axis_checks (suc k) new) (range_with_len 1 n)) naxis_same
      ∙ flat_map_range (axis_checks (suc k) old) (axis_checks (suc k) new) 1 (naxis_of old) one_axis
    where
      one_axis : (i : ℕ) → 1 ≤ i → i < 1 + naxis_of old → axis_checks (suc k) new i ≡ axis_checks (suc k) old i
      one_axis i low high = λ j.
          must (suc k) (2 + i) (is_numbered (codes "NAXIS") i (axis_kept i low high j) && is_size (integer_of (axis_kept i low high j)))
          ∷ (nat_lt 2147483647 (size_in (integer_of (axis_kept i low high j))), refusal (suc k) (Card (2 + i)) Limit)
          ∷ []

  counts_checked : count_checks (suc k) new ≡ count_checks (suc k) old
  counts_checked =
      (λ j.
      must (suc k) (3 + naxis_same j) (is_named (codes "PCOUNT") (card_at new (3 + naxis_same j)) && is_size (integer_of (card_at new (3 + naxis_same j))))
      ∷ must (suc k) (4 + naxis_same j) (is_named (codes "GCOUNT") (card_at new (4 + naxis_same j)) && is_size (integer_of (card_at new (4 + naxis_same j))))
      ∷ [])
      ∙ (λ j.
      must (suc k) (pcount_index old) (pcount_passes j)
      ∷ must (suc k) (gcount_index old) (is_named (codes "GCOUNT") (gcount_kept j) && is_size (integer_of (gcount_kept j)))
      ∷ [])

  mandatory_same : mandatory_checks (suc k) new ≡ mandatory_checks (suc k) old
  mandatory_same = λ j.
      must (suc k) 0 (is_named (codes "XTENSION") (extension_kept j) && is_some (text_of (extension_kept j)))
      ∷ must (suc k) 1 (is_named (codes "BITPIX") (bitpix_kept j) && is_bitpix (integer_of (bitpix_kept j)))
      ∷ must (suc k) 2 (is_named (codes "NAXIS") (naxis_kept j) && is_size (integer_of (naxis_kept j)))
      ∷ (nat_lt 9 (naxis_same j), refusal (suc k) (Card 2) Limit)
      ∷ (axes_checked j ++ counts_checked j)

  -- ---- the header

  front_same : (m : ℕ) → m ≤ length old → end_of (take m new) ≡ end_of (take m old)
  front_same m within =
      let same = are.length_is in
      let one : length (take m new) ≡ m = length-take-le m new (omega arith) in
      let two : length (take m old) ≡ m = length-take-le m old within in
      ap (λ l. end_among (l / 80) (take m new)) one
      ∙ (end_same (m / 80) (take m old) (take m new) name_in
      ∙ ap (λ l. end_among (l / 80) (take m old)) (sym two))
    where
      name_in : (i : ℕ) → i < m / 80 → card_name (card_at (take m new) i) ≡ card_name (card_at (take m old) i)
      name_in i below =
          let inside : 80 * i + 80 ≤ m = omega arith in
          ap card_name (card_in_front m new i inside)
          ∙ (name_at laws first old new are i (omega arith)
          ∙ sym (ap card_name (card_in_front m old i inside)))

  whole_same : IsHeader new
  whole_same = record {
    before = is.whole.before;
    blocks = are.length_is ∙ is.whole.blocks;
    none = front_same (2880 * is.whole.before) (let blocks = is.whole.blocks in omega arith) ∙ is.whole.none;
    has = subst IsSome (sym (ends_same laws first old new are)) is.whole.has;
  }

  pub header_same : IsHeaderOf new (facts_of (suc k) start new)
  header_same = record {
    whole = whole_same;
    short = let same = are.length_is in let short = is.short in omega arith;
    mandatory = ap first_refusal mandatory_same ∙ is.mandatory;
    facts = refl;
  }

  -- ---- the facts

  gcount_same : size_at new (gcount_index new) ≡ size_at old (gcount_index old)
  gcount_same = ap (λ n. size_at new (4 + n)) naxis_same ∙ ap (λ c. size_in (integer_of c)) gcount_kept

  pub facts_same : facts_of (suc k) start new ≡ record (facts_of (suc k) start old) { pcount = (facts_of (suc k) start new).pcount; data_len = (facts_of (suc k) start new).data_len }
  facts_same = λ j. record {
    hdu = suc k;
    start = start;
    cards = unwrap_or (ends_same laws first old new are j) 0;
    blocks = are.length_is j / 2880;
    sort = sort_named (text_of (extension_kept j));
    bitpix = unwrap_or (integer_of (bitpix_kept j)) (pos 0);
    axes = nine_axes (axes_same j);
    pcount = (facts_of (suc k) start new).pcount;
    gcount = gcount_same j;
    data_len = (facts_of (suc k) start new).data_len;
  }

  pub pcount_grows : (facts_of (suc k) start old).pcount ≤ (facts_of (suc k) start new).pcount
  pcount_grows =
      let index : size_at new (pcount_index new) ≡ size_at new (pcount_index old) = ap (λ n. size_at new (3 + n)) naxis_same in
      let more : size_at old (pcount_index old) ≤ size_at new (pcount_index old) = pcount_says.more in
      omega arith

  pub second_axis : naxis_of old ≡ 2 → size_at new 4 ≡ size_at old 4
  second_axis two = ap (λ c. size_in (integer_of c)) (axis_kept 2 (omega arith) (omega arith))

  pub axis_total : (facts_of (suc k) start old).axes.n ≡ naxis_of old
  axis_total = length-map-range_with_len (size_at old) 3 (naxis_of old)
