-- The writes of the checksums are those of a patch: CHECKSUM is found as before if DATASUM is written (FITS 4.0, section 4.4.2.7).
use Rattle.std.proofs.Common.{◌≡◌, ◌≢◌, ◌⊎◌, inl, inr, ℕ, zero, suc, ◌+◌, ◌*◌, ◌^◌, ◌<◌, ◌≤◌, not, Bool, true, false, cond, ltb, List, [], ◌∷◌, ◌++◌, length, map, take, drop, decimal, bytes_eq, Option, Some, None, unwrap_or, if◌then◌else◌, refl, sym, ap, ◌∙◌, subst, arith, zero-add}
use Rattle.fz_card.specs.Laws.{CardLaws}
use Rattle.fz_card.specs.Layout.{card_name}
use Rattle.fz_card.specs.Reading.{text_of, integer_of}
use Rattle.fz_block.specs.Cards.{card_at, end_of}
use Rattle.fz_block.specs.Facts.{facts_of}
use Rattle.fz_block.specs.Hdus.{cards_of, pcount_index, size_at, size_in}
use Rattle.fz_block.specs.Header.{data_start_of, whole_blocks_of}
use Rattle.fz_block.specs.Walk.{hdu_of}
use Rattle.fz_block.specs.declared.header.Header.{Header}
use Rattle.fz_sum.specs.Cards.{blank_checksum_card, checksum_card, checksum_name, datasum_card, datasum_name, with_card}
use Rattle.fz_sum.specs.Sums.{ones_sum}
use Rattle.fz_files.specs.Restored.{header_in}
use Rattle.fz_laws.specs.Amends.{applied}
use Rattle.fz_laws.specs.Grown.{IsCardFor, IsFoundHeader, SaysMore, longer}
use Rattle.fz_laws.specs.PatchHeaders.{IsAmended}
use Rattle.fz_laws.specs.PatchLaws.{CardsStandInPlace}
use Rattle.fz_laws.specs.Writes.{card_write, checksum_writes, data_now, datasum_writes, header_now, sum_writes, told_sum}
use Rattle.fz_laws.specs.Writes as patched
use Rattle.fz_patch.specs.Cards.{checksum_write, datasum_write, sums_writes, with_datasum}
use Rattle.fz_patch.proofs.Slices.{rest_after}
use Rattle.fz_patch.proofs.StepHeaders.{StepLaws}
use Rattle.fz_patch.proofs.SumCards.{header_long}
use Rattle.fz_patch.proofs.SumsTold.{told_beside, told_named}

pub datasum_named : CardLaws → (sum : ℕ) → card_name (datasum_card sum) ≡ datasum_name
unfolding datasum_card
datasum_named laws sum = laws.made.text_name datasum_name (decimal sum) refl

-- ---- the writes

-- the same card, by the sum of the same data
same_datasum : (file : List ℕ) (h : Header) (more : ℕ) (o : Option ℕ) → data_now file h ≡ (hdu_of file (longer h more)).payload → patched.datasum_write file h o ≡ datasum_write (longer h more) o (ones_sum (hdu_of file (longer h more)).payload)
same_datasum file h more None payload_is = refl
same_datasum file h more (Some i) payload_is = ap (λ l. card_write h i (datasum_card (ones_sum l)) ∷ []) payload_is

same_checksum : (file : List ℕ) (h : Header) (more : ℕ) (o p : Option ℕ) (payload header : List ℕ) → o ≡ p → data_now file h ≡ payload → header_in file h ≡ header → patched.checksum_write file h o ≡ checksum_write (longer h more) p payload header
same_checksum file h more o None payload header same payload_is there = ap (patched.checksum_write file h) same
same_checksum file h more o (Some i) payload header same payload_is there =
    ap (patched.checksum_write file h) same ∙ (λ j. card_write h i (checksum_card (ones_sum (with_card i blank_checksum_card (there j) ++ payload_is j))) ∷ [])

plus_none : (h : Header) → longer h 0 ≡ h
plus_none h =
    let one : h.pcount + 0 ≡ h.pcount = omega arith in
    let two : h.data_len + 0 ≡ h.data_len = omega arith in
    λ j. record h { pcount = one j; data_len = two j }

module _ (laws : StepLaws) (place : CardsStandInPlace) (whole : (sum : ℕ) → sum < 2 ^ 32 → length (datasum_card sum) ≡ 80) (fits : (bytes : List ℕ) → ones_sum bytes < 2 ^ 32) (named : (sum : ℕ) → card_name (datasum_card sum) ≡ datasum_name) (file header : List ℕ) (h : Header) (more : ℕ) (there : header_in file h ≡ header)
    (found : IsFoundHeader header (longer h more)) (said : size_at header (pcount_index header) ≡ h.pcount + more) (long : h.start + 2880 * h.blocks ≤ length file) where
  abbrev pub k : Header
  k = longer h more

  now_is : header_now file h ≡ k
  now_is = ap (facts_of h.hdu h.start) there ∙ sym found.is_header.facts

  abbrev pub payload : List ℕ
  payload = (hdu_of file k).payload

  payload_is : data_now file h ≡ payload
  payload_is = ap (λ (x : Header). (hdu_of file x).payload) now_is

  size : length header ≡ 2880 * h.blocks
  size = header_long header k found.is_header

  -- with DATASUM in its place
  with_first : (i : ℕ) → told_sum datasum_name header ≡ Some i →
      checksum_writes (applied (card_write h i (datasum_card (ones_sum payload)) ∷ []) file) h ≡ checksum_write k (told_sum checksum_name header) payload (with_card i (datasum_card (ones_sum payload)) header)
  with_first i told =
      let card : List ℕ = datasum_card (ones_sum payload) in
      let new : List ℕ = with_card i card header in
      let x : List ℕ = applied (card_write h i card ∷ []) file in
      let eighty : length card ≡ 80 = whole (ones_sum payload) (fits payload) in
      let may = laws.sums header k datasum_name card i found (inl refl) told eighty (named (ones_sum payload)) in
      let c : IsCardFor header i card = may.0 in
      let header_is : header_in x h ≡ new = place file h i card eighty (omega (arith, c.within, size)) long ∙ ap (with_card i card) there in
      let are : IsAmended header new = laws.more header header card i (record { length_is = refl; cards = λ index within. inl refl }) c in
      let counted : size_at new (pcount_index header) ≡ k.pcount + 0 =
      ap (λ l. size_in (integer_of l)) (laws.others i (pcount_index header) card header eighty c.within may.1) ∙ said ∙ omega arith in
      let says : SaysMore header new k 0 = laws.says header new k 0 found are counted in
      let x_is : header_now x h ≡ k = ap (facts_of h.hdu h.start) header_is ∙ sym says.is.is_header.facts ∙ plus_none k in
      let end : data_start_of k ≡ h.start + 2880 * h.blocks = refl in
      let rest : drop (data_start_of k) x ≡ drop (data_start_of k) file = rest_after (h.start + 80 * i) card file (data_start_of k) (omega (arith, eighty)) (omega (arith, c.within, size, long)) (omega (arith, c.within, size, eighty)) in
      let data_x : data_now x h ≡ payload = ap (λ (y : Header). (hdu_of x y).payload) x_is ∙ ap (take (whole_blocks_of k.data_len)) rest in
      let old_many : (longer h more).cards ≡ unwrap_or (end_of header) 0 = ap (λ (y : Header). y.cards) found.is_header.facts in
      let new_many : (longer k 0).cards ≡ unwrap_or (end_of new) 0 = ap (λ (y : Header). y.cards) says.is.is_header.facts in
      let told_same : told_sum checksum_name new ≡ told_sum checksum_name header =
      told_beside checksum_name header new i (sym new_many ∙ old_many) (λ n other. laws.others i n card header eighty c.within other) (ap (λ n. bytes_eq n checksum_name) (told_named datasum_name header i told))
      (ap (λ n. bytes_eq n checksum_name) (ap card_name (laws.there i card header eighty c.within) ∙ named (ones_sum payload))) in
      same_checksum x h more (told_sum checksum_name (header_in x h)) (told_sum checksum_name header) payload new (ap (told_sum checksum_name) header_is ∙ told_same) data_x header_is

  -- all of them
  pub sums_same : sums_writes k file header ≡ sum_writes file h
  sums_same = by_told (told_sum datasum_name header) refl
    where
      first_is : (o : Option ℕ) → told_sum datasum_name header ≡ o → datasum_writes file h ≡ datasum_write k o (ones_sum payload)
      first_is o e = ap (λ l. patched.datasum_write file h (told_sum datasum_name l)) there ∙ (ap (patched.datasum_write file h) e ∙ same_datasum file h more o payload_is)

      by_told : (o : Option ℕ) → told_sum datasum_name header ≡ o → sums_writes k file header ≡ sum_writes file h
      by_told None e =
          let first : datasum_writes file h ≡ [] = first_is None e in
          let second : checksum_writes file h ≡ checksum_write k (told_sum checksum_name header) payload header =
          same_checksum file h more (told_sum checksum_name (header_in file h)) (told_sum checksum_name header) payload header (ap (told_sum checksum_name) there) payload_is there in
          (λ j. datasum_write k (e j) (ones_sum payload) ++ checksum_write k (told_sum checksum_name header) payload (with_datasum (e j) (ones_sum payload) header))
          ∙ (sym second ∙ (λ j. sym first j ++ checksum_writes (applied (sym first j) file) h))
      by_told (Some i) e =
          let first : datasum_writes file h ≡ card_write h i (datasum_card (ones_sum payload)) ∷ [] = first_is (Some i) e in
          let second = with_first i e in
          (λ j. datasum_write k (e j) (ones_sum payload) ++ checksum_write k (told_sum checksum_name header) payload (with_datasum (e j) (ones_sum payload) header))
          ∙ (ap (λ ws. (card_write h i (datasum_card (ones_sum payload)) ∷ []) ++ ws) (sym second)
          ∙ (λ j. sym first j ++ checksum_writes (applied (sym first j) file) h))
