-- The packed images of a packed file: their plans are those of the images that were packed, and they have sums as the options ask for them.
use Rattle.std.proofs.Common.{◌≡◌, inl, inr, ℕ, zero, suc, ◌<◌, ◌&&◌, Bool, true, false, true≢false, cond, List, [], ◌∷◌, map, None, Ok, codes, if◌then◌else◌, refl, sym, subst, ◌∙◌, ap, arith}
use Rattle.std.specs.List.{AllByRecursion, filter, list_any}
use Rattle.fz_block.specs.Checks.{is_set, unless_refused}
use Rattle.fz_block.specs.Facts.{facts_of}
use Rattle.fz_block.specs.Hdus.{cards_of}
use Rattle.fz_block.specs.Walk.{AreHeadersBetween, hdu_of}
use Rattle.fz_block.specs.declared.header.Header.{Header}
use Rattle.fz_block.specs.declared.header.Sort.TheVariants.{Primary}
use Rattle.fz_base.specs.Refusal.{first_refusal}
use Rattle.fz_base.specs.declared.fault.Fault.{Fault}
use Rattle.std.specs.Prelude.{Option, Some}
use Rattle.fz_head.specs.Accepted.{IsAccepted}
use Rattle.fz_head.specs.Packable.{is_packable, is_packed, is_table}
use Rattle.fz_head.specs.PackedChecks.{packed_checks, plan_answer}
use Rattle.fz_head.specs.PackedPlan.{plan_of_cards}
use Rattle.fz_head.specs.Planned.{pack_plan_of}
use Rattle.fz_head.specs.declared.options.PackOptions.{PackOptions}
use Rattle.fz_head.specs.declared.plan.Plan.{Plan}
use Rattle.fz_files.specs.Laws.{IsTableOf, TablesAreAccepted, table_hdu, totals_from}
use Rattle.fz_files.specs.Restored.{header_in, is_image, is_packed_primary, plan_in, standing}
use Rattle.fz_laws.specs.PackedHdus.{Become, BecomesAs, TablesHaveSums}
use Rattle.fz_strict.specs.FoundOptions.{has_sums, sums_found, sums_in}
use Rattle.fz_strict.proofs.TilesFound.{Among}

-- ---- one table

-- what is taken of the laws of tables
pub record TableLaws : Type 0 where
  pub accepted : TablesAreAccepted
  pub sums : TablesHaveSums

is_accepted : TableLaws → (o : PackOptions) (source : List ℕ) (from : Header) (file : List ℕ) (h : Header) → IsTableOf o source from file h →
    IsAccepted (pack_plan_of o from) (totals_from o source from) (header_in file h) h
is_accepted laws o source from file h is = by_number h.hdu refl is.behind
  where
    by_number : (k : ℕ) → h.hdu ≡ k → 0 < k → IsAccepted (pack_plan_of o from) (totals_from o source from) (header_in file h) h
    by_number zero number behind = absurd omega (arith, behind)
    by_number (suc k) number behind =
        let facts : h ≡ facts_of (suc k) h.start (header_in file h) = is.facts ∙ ap (λ n. facts_of n h.start (header_in file h)) number in
        let made : IsAccepted (pack_plan_of o from) (totals_from o source from) (table_hdu o source from).header
        (facts_of (suc k) h.start (table_hdu o source from).header) =
        laws.accepted o source from k h.start is.taken in
        let here : IsAccepted (pack_plan_of o from) (totals_from o source from) (header_in file h) (facts_of (suc k) h.start (header_in file h)) =
        subst (λ d. IsAccepted (pack_plan_of o from) (totals_from o source from) d (facts_of (suc k) h.start d)) (ap (λ d. d.header) (sym is.table)) made in
        subst (IsAccepted (pack_plan_of o from) (totals_from o source from) (header_in file h)) (sym facts) here

pub table_image : TableLaws → (o : PackOptions) (source : List ℕ) (from : Header) (file : List ℕ) (h : Header) → IsTableOf o source from file h →
    is_image file h ≡ true
table_image laws o source from file h is = (is_accepted laws o source from file h is).packed

answered : {A : Type 0} (answer found : A) (refused : Option Fault) → unless_refused answer refused ≡ Ok found → answer ≡ found
answered answer found None e = cc
answered answer found (Some fault) e = absurd cc

plan_answered : (k : ℕ) (header : List ℕ) (p : Plan) → plan_answer k header true ≡ Ok p → plan_of_cards (cards_of header) ≡ p
unfolding plan_answer
plan_answered k header p e = answered (plan_of_cards (cards_of header)) p (first_refusal (packed_checks k header true)) e

pub table_plan : TableLaws → (o : PackOptions) (source : List ℕ) (from : Header) (file : List ℕ) (h : Header) → IsTableOf o source from file h →
    plan_in file h ≡ pack_plan_of o from
table_plan laws o source from file h is =
    plan_answered h.hdu (header_in file h) (pack_plan_of o from) ((is_accepted laws o source from file h is).plan true (λ primary. refl))

both_same : (b : Bool) → (b && b) ≡ b
both_same true = refl
both_same false = refl

table_sums : TableLaws → (o : PackOptions) (source : List ℕ) (from : Header) (file : List ℕ) (h : Header) → IsTableOf o source from file h →
    sums_in file h ≡ o.sums
table_sums laws o source from file h is =
    let has = laws.sums o source from is.taken in
    ap (λ d. has_sums (cards_of d.header)) is.table ∙ ((λ i. has.datasum i && has.checksum i) ∙ both_same o.sums)

-- ---- all tables

module _ (laws : TableLaws) (o : PackOptions) (source file : List ℕ) where
  pub plans : (froms hs : List Header) → Become o source froms file hs →
      map (plan_in file) (filter (is_image file) hs) ≡ map (pack_plan_of o) (filter is_packable froms)
  plans [] [] become = refl
  plans [] (h ∷ hs) become = absurd become
  plans (from ∷ froms) [] become = absurd become
  plans (from ∷ froms) (h ∷ hs) become = by_test (is_packable from) become.0 (plans froms hs become.1)
    where
      by_test : (packable : Bool) → BecomesAs packable o source from file h →
          map (plan_in file) (filter (is_image file) hs) ≡ map (pack_plan_of o) (filter is_packable froms) →
          map (plan_in file) (cond (is_image file h) (h ∷ filter (is_image file) hs) (filter (is_image file) hs))
          ≡ map (pack_plan_of o) (cond packable (from ∷ filter is_packable froms) (filter is_packable froms))
      by_test true is rest =
          ap (λ b. map (plan_in file) (cond b (h ∷ filter (is_image file) hs) (filter (is_image file) hs))) (table_image laws o source from file h is)
          ∙ (λ i. table_plan laws o source from file h is i ∷ rest i)
      by_test false is rest = ap (λ b. map (plan_in file) (cond b (h ∷ filter (is_image file) hs) (filter (is_image file) hs))) is.plain ∙ rest

  pub sums : (froms hs : List Header) → Become o source froms file hs → AllByRecursion (λ h. sums_in file h ≡ o.sums) (filter (is_image file) hs)
  sums [] [] become = tt
  sums [] (h ∷ hs) become = absurd become
  sums (from ∷ froms) [] become = absurd become
  sums (from ∷ froms) (h ∷ hs) become = by_test (is_packable from) become.0 (sums froms hs become.1)
    where
      by_test : (packable : Bool) → BecomesAs packable o source from file h → AllByRecursion (λ h. sums_in file h ≡ o.sums) (filter (is_image file) hs) →
          AllByRecursion (λ h. sums_in file h ≡ o.sums) (cond (is_image file h) (h ∷ filter (is_image file) hs) (filter (is_image file) hs))
      by_test true is rest =
          subst (λ b. AllByRecursion (λ h. sums_in file h ≡ o.sums) (cond b (h ∷ filter (is_image file) hs) (filter (is_image file) hs)))
          (sym (table_image laws o source from file h is))
          (table_sums laws o source from file h is, rest)
      by_test false is rest =
          subst (λ b. AllByRecursion (λ h. sums_in file h ≡ o.sums) (cond b (h ∷ filter (is_image file) hs) (filter (is_image file) hs))) (sym is.plain) rest

-- ---- the primary before a packed primary is no image

pub first_plain : (file : List ℕ) (h : Header) → h.sort ≡ Primary → is_image file h ≡ false
unfolding is_packed
first_plain file h is = ap (λ s. is_table s && list_any (is_set (codes "ZIMAGE")) (cards_of (header_in file h))) is

pub standing_images : (file : List ℕ) (end : ℕ) (hs : List Header) → AreHeadersBetween 0 0 end file hs →
    filter (is_image file) (standing file hs) ≡ filter (is_image file) hs
standing_images file end [] are = refl
standing_images file end (h ∷ []) are = refl
standing_images file end (h ∷ k ∷ hs) are = by_test (is_packed_primary file k)
  where
    primary : h.sort ≡ Primary
    primary = ap (λ (f : Header). f.sort) (are.2.facts ∙ ap (λ n. facts_of n h.start (hdu_of file h).header) are.0)

    by_test : (first : Bool) → filter (is_image file) (if first then k ∷ hs else h ∷ k ∷ hs) ≡ filter (is_image file) (h ∷ k ∷ hs)
    by_test true = sym (ap (λ b. cond b (h ∷ filter (is_image file) (k ∷ hs)) (filter (is_image file) (k ∷ hs))) (first_plain file h primary))
    by_test false = refl

-- ---- images that can be packed, among all HDUs

pub filter_among : (h : Header) (hs : List Header) → Among h hs → is_packable h ≡ true → Among h (filter is_packable hs)
filter_among h [] among packable = absurd among
filter_among h (g ∷ gs) (inl is) packable = by_test (is_packable g) refl
  where
    by_test : (b : Bool) → is_packable g ≡ b → Among h (cond b (g ∷ filter is_packable gs) (filter is_packable gs))
    by_test true e = inl is
    by_test false e = absurd (true≢false (sym packable ∙ (ap is_packable is ∙ e)))
filter_among h (g ∷ gs) (inr among) packable = by_test (is_packable g) (filter_among h gs among packable)
  where
    by_test : (b : Bool) → Among h (filter is_packable gs) → Among h (cond b (g ∷ filter is_packable gs) (filter is_packable gs))
    by_test true rest = inr rest
    by_test false rest = rest

pub each_among : (P : Header → Type 0) (hs : List Header) → ((h : Header) → Among h hs → P h) → AllByRecursion P hs
each_among P [] each = tt
each_among P (h ∷ hs) each = (each h (inl refl), each_among P hs (λ g among. each g (inr among)))

-- where there is an image, the sums that are found are those that were asked for
pub sums_are : (o : PackOptions) (file : List ℕ) (h : Header) (images froms : List Header) → map (plan_in file) images ≡ map (pack_plan_of o) froms →
    AllByRecursion (λ h. sums_in file h ≡ o.sums) images → Among h froms → sums_found file images ≡ o.sums
sums_are o file h [] [] plans each among = absurd among
sums_are o file h [] (from ∷ froms) plans each among = absurd cc
sums_are o file h (image ∷ images) froms plans each among = each.0
