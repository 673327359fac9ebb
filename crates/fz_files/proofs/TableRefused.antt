-- `pack` refuses the table of a packed image.
use Rattle.std.proofs.Common.{◌≡◌, ℕ, suc, ◌<◌, ◌&&◌, nat_lt, true, false, List, [], ◌∷◌, ◌++◌, length, Option, Some, None, Err, cond, if◌then◌else◌, refl, sym, subst, ◌∙◌, ap, arith}
use Rattle.std.proofs.lemmas.Bool.Decides.{nat_tests}
use Rattle.std.specs.Fmt.{digits}
use Rattle.std.specs.List.{position}
use Rattle.fz_base.specs.Refusal.{first_refusal, refusal}
use Rattle.fz_base.specs.declared.fault.Place.TheVariants.{Card}
use Rattle.fz_base.specs.declared.kind.Kind.TheVariants.{AlreadyPacked}
use Rattle.fz_card.specs.Made.{int_card_bytes, logical_card_bytes, numbered_name, text_card_bytes}
use Rattle.fz_card.specs.Reading.{logical_of}
use Rattle.fz_block.specs.Checks.{unless_refused, refused_at}
use Rattle.fz_block.specs.Facts.{facts_of}
use Rattle.fz_block.specs.Hdus.{Hdu, cards_of}
use Rattle.fz_block.specs.Walk.{hdu_of}
use Rattle.fz_block.specs.declared.header.Header.{Header}
use Rattle.fz_head.specs.Accepted.{IsAccepted}
use Rattle.fz_checks.specs.JobChecks.{already_packed, data_fill, fill_in, says_packed}
use Rattle.fz_checks.specs.Judges.{pack_judge}
use Rattle.fz_head.specs.Packable.{is_packable, is_table}
use Rattle.fz_head.specs.PackChecks.{pack_checks}
use Rattle.fz_head.specs.PackedHeader.{packed_with}
use Rattle.fz_head.specs.Planned.{pack_plan_of}
use Rattle.fz_head.specs.declared.options.PackOptions.{PackOptions}
use Rattle.fz_head.specs.declared.plan.Plan.{Plan}
use Rattle.fz_head.specs.declared.totals.Totals.{Totals}
use Rattle.fz_files.specs.Laws.{IsTableOf, table_hdu, totals_from}
use Rattle.fz_files.proofs.TableImage.{TableLaws, accepted_is, made_is, numbered_from_1, packing_is, sums_from}

within_cards : (n : ℕ) → 12 < n → cond {A = Option ℕ} (nat_lt 12 n) (Some 12) None ≡ Some 12
within_cards n more =
    let test : nat_lt 12 n ≡ true = grind (arith, nat_tests, more) in
    rw test refl

-- of the cards of the table ZIMAGE is the first that says that it is packed
says_so : (cards : List (List ℕ)) (p : Plan) (s : Totals) (sums : List (List ℕ)) → position says_packed (packed_with cards p s sums) ≡ Some 12
unfolding int_card_bytes text_card_bytes logical_card_bytes logical_of numbered_name digits
says_so cards p s sums = within_cards (length (packed_with cards p s sums)) (omega arith)

pub table_refused : TableLaws → (o again : PackOptions) (source : List ℕ) (from : Header) (file : List ℕ) (h : Header) → IsTableOf o source from file h →
    pack_judge again file h ≡ Err (refusal h.hdu (Card 12) AlreadyPacked)
table_refused l o again source from file h is =
    let p : Plan = pack_plan_of o from in
    let s : Totals = totals_from o source from in
    let cs : List (List ℕ) = cards_of (hdu_of source from).header in
    let sums : List (List ℕ) = sums_from o source from in
    let header : List ℕ = (hdu_of file h).header in
    let same : header ≡ (table_hdu o source from).header = ap (λ (d : Hdu). d.header) is.table in
    let number = numbered_from_1 h.hdu is.behind in
    let accepted : IsAccepted p s header h =
    subst (λ f. IsAccepted p s header f) (sym (is.facts ∙ ap (λ n. facts_of n h.start header) number.1))
    (subst (λ bytes. IsAccepted p s bytes (facts_of (suc number.0) h.start bytes)) (sym same) (accepted_is l o source from number.0 h.start is.taken)) in
    let cards : cards_of header ≡ packed_with cs p s sums =
    ap cards_of (same ∙ made_is l o source from) ∙ l.cards (packed_with cs p s sums) (l.whole (hdu_of source from).header from p s sums (packing_is l o source from is.taken)) in
    let found : position says_packed (cards_of header) ≡ Some 12 = ap (position says_packed) cards ∙ says_so cs p s sums in
    let table : is_table h.sort ≡ true = ap is_table accepted.sort in
    let refuses : already_packed h header ≡ (true, refusal h.hdu (Card 12) AlreadyPacked) =
    λ i. (table i && (refused_at h.hdu (found i) AlreadyPacked).0, (refused_at h.hdu (found i) AlreadyPacked).1) in
    ap (λ c. unless_refused false (first_refusal ((c ∷ (if is_packable h then pack_checks again h header else [])) ++ (if is_packable h then data_fill h (fill_in file h) ∷ [] else [])))) refuses
