-- The checks of a job, one after another: the first that refuses, and what is answered where none does.
use Rattle.std.proofs.Common.{◌≡◌, ℕ, Bool, true, false, cond, List, [], ◌∷◌, ◌++◌, ap, sym, ◌∙◌}
use Rattle.std.specs.Prelude.{◌&&◌, not, Option, Some, None, Result, Ok, Err, IfOk, codes, is_some, unwrap_or}
use Rattle.std.specs.Result.{MatchResult}
use Rattle.std.specs.List.{list_any, position}
use Rattle.fz_base.specs.Refusal.{first_refusal, refusal}
use Rattle.fz_base.specs.declared.fault.Fault.{Fault}
use Rattle.fz_base.specs.declared.fault.Place.TheVariants.{Byte, Card}
use Rattle.fz_base.specs.declared.kind.Kind.TheVariants.{AlreadyPacked, Duplicate, NotPacked}
use Rattle.fz_block.specs.Checks.{is_set, unless_refused, refused_at}
use Rattle.fz_block.specs.Facts.{IsHeaderOf, nine_axes}
use Rattle.fz_block.specs.Hdus.{cards_of}
use Rattle.fz_block.specs.declared.header.Header.{Header}
use Rattle.fz_grid.specs.declared.region.Region.{Region}
use Rattle.fz_table.specs.Tables.{table_checks, table_in, table_of}
use Rattle.fz_table.specs.declared.table.Table.{Table}
use Rattle.fz_checks.specs.declared.job_checks.PackedImage.{PackedImage}
use Rattle.fz_head.specs.declared.options.PackOptions.{PackOptions}
use Rattle.fz_head.specs.declared.plan.Plan.{Plan}
use Rattle.fz_checks.specs.JobChecks.{already_packed, box_checks, image_checks, image_in, image_to_amend, image_to_cut, image_to_unpack, not_packed, packed_card_checks, plan_to_pack, says_packed}
use Rattle.fz_head.specs.Packable.{is_packable, is_packed, is_table}
use Rattle.fz_head.specs.PackChecks.{pack_answer, pack_checks}
use Rattle.fz_head.specs.PackedChecks.{packed_checks, plan_answer}
use Rattle.fz_head.specs.PackedPlan.{plan_of_cards, said_axes}
use Rattle.fz_head.specs.Planned.{pack_plan_of}
use Rattle.fz_head.specs.Repeats.{counted_name, first_repeat, table_names}
use Rattle.fz_head.specs.TableChecks.{compressed_table, repeated_table_names, table_card_checks}
use Rattle.fz_head.specs.Written.{first_cards}
use Rattle.fz_checks.proofs.FrontCards.{header-cards}
use Rattle.fz_checks.proofs.PlannedTiles.{unless-ok}
use Rattle.fz_checks.proofs.RefusalLists.{passed, stopped}

-- what an answer with a refusal says
unless-err : {A : Type 0} (answer : A) (o : Option Fault) (x : Fault) → unless_refused answer o ≡ Err x → o ≡ Some x
unless-err answer None x e = cc
unless-err answer (Some y) x e = cc

abbrev found-packed : List ℕ → Option ℕ
found-packed header = position says_packed (cards_of header)

pub no-table : (h : Header) (header : List ℕ) → is_table h.sort ≡ false → first_refusal (already_packed h header ∷ []) ≡ None
no-table h header e = ap (λ b. first_refusal ((b && is_some (found-packed header), refusal h.hdu (Card (unwrap_or (found-packed header) 0)) AlreadyPacked) ∷ [])) e

pub in-table : (h : Header) (header : List ℕ) (found : Option ℕ) → IsHeaderOf header h → is_table h.sort ≡ true → found ≡ position says_packed (first_cards header h.cards) →
    first_refusal (refused_at h.hdu found AlreadyPacked ∷ []) ≡ first_refusal (already_packed h header ∷ [])
in-table h header found is table at =
    let same : found ≡ found-packed header = at ∙ ap (position says_packed) (sym (header-cards header h is)) in
    ap (λ o. first_refusal (refused_at h.hdu o AlreadyPacked ∷ [])) same
    ∙ ap (λ b. first_refusal ((b && is_some (found-packed header), refusal h.hdu (Card (unwrap_or (found-packed header) 0)) AlreadyPacked) ∷ [])) (sym table)

-- an HDU that is given to pack
abbrev plan-by : PackOptions → Header → List ℕ → Bool → Result (Option Plan) Fault
plan-by o h header b = unless_refused (cond b (Some (pack_plan_of o h)) None) (first_refusal (already_packed h header ∷ cond b (pack_checks o h header) []))

pub was-packed : (o : PackOptions) (h : Header) (header : List ℕ) (x : Fault) → first_refusal (already_packed h header ∷ []) ≡ Some x → plan_to_pack o h header ≡ Err x
unfolding plan_to_pack
was-packed o h header x e = ap (unless_refused (cond (is_packable h) (Some (pack_plan_of o h)) None)) (stopped (already_packed h header ∷ []) (cond (is_packable h) (pack_checks o h header) []) x e)

pub copied : (o : PackOptions) (h : Header) (header : List ℕ) → first_refusal (already_packed h header ∷ []) ≡ None → is_packable h ≡ false → plan_to_pack o h header ≡ Ok None
unfolding plan_to_pack
copied o h header one other = ap (plan-by o h header) other ∙ ap (unless_refused {A = Option Plan} None) one

in-image : (o : PackOptions) (h : Header) (header : List ℕ) → first_refusal (already_packed h header ∷ []) ≡ None → is_packable h ≡ true → plan_to_pack o h header ≡ unless_refused (Some (pack_plan_of o h)) (first_refusal (pack_checks o h header))
unfolding plan_to_pack
in-image o h header one packable = ap (plan-by o h header) packable ∙ ap (unless_refused (Some (pack_plan_of o h))) (passed (already_packed h header ∷ []) (pack_checks o h header) one)

pub plan-refused : (o : PackOptions) (h : Header) (header : List ℕ) (x : Fault) → first_refusal (already_packed h header ∷ []) ≡ None → is_packable h ≡ true → pack_answer o h header ≡ Err x → plan_to_pack o h header ≡ Err x
unfolding pack_answer
plan-refused o h header x one packable e =
    in-image o h header one packable ∙ ap (unless_refused (Some (pack_plan_of o h))) (unless-err (pack_plan_of o h) (first_refusal (pack_checks o h header)) x e)

pub planned : (o : PackOptions) (h : Header) (header : List ℕ) (p : Plan) → first_refusal (already_packed h header ∷ []) ≡ None → is_packable h ≡ true → pack_answer o h header ≡ Ok p → plan_to_pack o h header ≡ Ok (Some p)
unfolding pack_answer
planned o h header p one packable e =
    let ok = unless-ok (pack_plan_of o h) p (first_refusal (pack_checks o h header)) e in
    in-image o h header one packable ∙ (ap (unless_refused (Some (pack_plan_of o h))) ok.0 ∙ ap (λ q. Ok (Some q)) ok.1)

-- the image of a packed HDU
pub table-refused : (h : Header) (header : List ℕ) (after_empty : Bool) (x : Fault) → table_of header h ≡ Err x → first_refusal (image_checks h header after_empty) ≡ Some x
unfolding table_of
table-refused h header after_empty x e =
    stopped (table_checks header h) (packed_checks h.hdu header after_empty) x (unless-err (table_in header h) (first_refusal (table_checks header h)) x e)

pub image-refused : (h : Header) (header : List ℕ) (after_empty : Bool) (table : Table) (x : Fault) → table_of header h ≡ Ok table → plan_answer h.hdu header after_empty ≡ Err x → first_refusal (image_checks h header after_empty) ≡ Some x
unfolding table_of plan_answer
image-refused h header after_empty table x t e =
    passed (table_checks header h) (packed_checks h.hdu header after_empty) (unless-ok (table_in header h) table (first_refusal (table_checks header h)) t).0
    ∙ unless-err (plan_of_cards (cards_of header)) (first_refusal (packed_checks h.hdu header after_empty)) x e

pub image-there : (h : Header) (header : List ℕ) (after_empty : Bool) (table : Table) (p : Plan) → table_of header h ≡ Ok table → plan_answer h.hdu header after_empty ≡ Ok p →
    (first_refusal (image_checks h header after_empty) ≡ None) × (record { plan = p; table = table } ≡ image_in h header)
unfolding table_of plan_answer
image-there h header after_empty table p t e =
    let one = unless-ok (table_in header h) table (first_refusal (table_checks header h)) t in
    let two = unless-ok (plan_of_cards (cards_of header)) p (first_refusal (packed_checks h.hdu header after_empty)) e in
    (passed (table_checks header h) (packed_checks h.hdu header after_empty) one.0 ∙ two.0, λ i. record { plan = sym two.1 i; table = sym one.1 i })

-- an HDU that is given to unpack
abbrev image-by : Header → List ℕ → Bool → Bool → Bool → Result (Option PackedImage) Fault
image-by h header after_empty table packed =
    unless_refused (cond packed (Some (image_in h header)) None) (first_refusal (cond table (table_card_checks h header) [] ++ cond packed (image_checks h header after_empty) []))

no-table-packed : (h : Header) (header : List ℕ) → is_table h.sort ≡ false → is_packed header h ≡ false
unfolding is_packed
no-table-packed h header e = ap (λ b. b && list_any (is_set (codes "ZIMAGE")) (cards_of header)) e

pub no-image : (h : Header) (header : List ℕ) (after_empty : Bool) → is_table h.sort ≡ false → image_to_unpack h header after_empty ≡ Ok None
unfolding image_to_unpack
no-image h header after_empty e = ap (λ b. image-by h header after_empty b (is_packed header h)) e ∙ ap (image-by h header after_empty false) (no-table-packed h header e)

pub cards-refused : (h : Header) (header : List ℕ) (after_empty : Bool) (x : Fault) → is_table h.sort ≡ true → first_refusal (table_card_checks h header) ≡ Some x → image_to_unpack h header after_empty ≡ Err x
unfolding image_to_unpack
cards-refused h header after_empty x table e =
    ap (λ b. image-by h header after_empty b (is_packed header h)) table
    ∙ ap (unless_refused (cond (is_packed header h) (Some (image_in h header)) None)) (stopped (table_card_checks h header) (cond (is_packed header h) (image_checks h header after_empty) []) x e)

pub other-table : (h : Header) (header : List ℕ) (after_empty : Bool) → is_table h.sort ≡ true → first_refusal (table_card_checks h header) ≡ None → is_packed header h ≡ false → image_to_unpack h header after_empty ≡ Ok None
unfolding image_to_unpack
other-table h header after_empty table one other =
    ap (λ b. image-by h header after_empty b (is_packed header h)) table
    ∙ (ap (image-by h header after_empty true) other ∙ ap (unless_refused {A = Option PackedImage} None) (passed (table_card_checks h header) [] one))

in-packed : (h : Header) (header : List ℕ) (after_empty : Bool) → is_table h.sort ≡ true → first_refusal (table_card_checks h header) ≡ None → is_packed header h ≡ true →
    image_to_unpack h header after_empty ≡ unless_refused (Some (image_in h header)) (first_refusal (image_checks h header after_empty))
unfolding image_to_unpack
in-packed h header after_empty table one packed =
    ap (λ b. image-by h header after_empty b (is_packed header h)) table
    ∙ (ap (image-by h header after_empty true) packed ∙ ap (unless_refused (Some (image_in h header))) (passed (table_card_checks h header) (image_checks h header after_empty) one))

pub packed-refused : (h : Header) (header : List ℕ) (after_empty : Bool) (x : Fault) → is_table h.sort ≡ true → first_refusal (table_card_checks h header) ≡ None → is_packed header h ≡ true → first_refusal (image_checks h header after_empty) ≡ Some x → image_to_unpack h header after_empty ≡ Err x
packed-refused h header after_empty x table one packed e = in-packed h header after_empty table one packed ∙ ap (unless_refused (Some (image_in h header))) e

pub packed-there : (h : Header) (header : List ℕ) (after_empty : Bool) (image : PackedImage) → is_table h.sort ≡ true → first_refusal (table_card_checks h header) ≡ None → is_packed header h ≡ true → first_refusal (image_checks h header after_empty) ≡ None → image ≡ image_in h header →
    image_to_unpack h header after_empty ≡ Ok (Some image)
packed-there h header after_empty image table one packed e same = in-packed h header after_empty table one packed ∙ (ap (unless_refused (Some (image_in h header))) e ∙ ap (λ i. Ok (Some i)) (sym same))

-- the HDU that a part is cut from
cut-first : (a : Bool × Fault) (p r : Bool) (f g x : Fault) → first_refusal (a ∷ (p && r, f) ∷ []) ≡ Some x → first_refusal (a ∷ (not p, g) ∷ (p && r, f) ∷ []) ≡ Some x
cut-first (true, fa) p r f g x e = e
cut-first (false, fa) true r f g x e = e
cut-first (false, fa) false r f g x e = cc

cut-other : (a : Bool × Fault) (p r : Bool) (f g : Fault) → first_refusal (a ∷ (p && r, f) ∷ []) ≡ None → p ≡ false → first_refusal (a ∷ (not p, g) ∷ (p && r, f) ∷ []) ≡ Some g
cut-other (true, fa) p r f g one e = cc
cut-other (false, fa) p r f g one e = ap (λ b. first_refusal ((not b, g) ∷ (b && r, f) ∷ [])) e

cut-none : (a : Bool × Fault) (p r : Bool) (f g : Fault) → first_refusal (a ∷ (p && r, f) ∷ []) ≡ None → p ≡ true → first_refusal (a ∷ (not p, g) ∷ (p && r, f) ∷ []) ≡ None
cut-none (true, fa) p r f g one e = cc
cut-none (false, fa) true r f g one e = one
cut-none (false, fa) false r f g one e = cc

abbrev repeated : List ℕ → Option ℕ
repeated header = first_repeat table_names counted_name (cards_of header)

abbrev twice : Header → List ℕ → Fault
twice h header = refusal h.hdu (Card (unwrap_or (repeated header) 0)) Duplicate

abbrev card-checks-by : Header → List ℕ → Bool → List (Bool × Fault)
card-checks-by h header b = cond b (compressed_table h header ∷ []) [] ++ (not_packed h header ∷ repeated_table_names h header ∷ [])

pub no-table-to-cut : (h : Header) (header : List ℕ) → is_table h.sort ≡ false → first_refusal (packed_card_checks h header) ≡ Some (refusal h.hdu (Byte h.start) NotPacked)
no-table-to-cut h header e =
    ap (λ b. first_refusal (card-checks-by h header b)) e
    ∙ ap (λ b. first_refusal ((not b, refusal h.hdu (Byte h.start) NotPacked) ∷ (b && is_some (repeated header), twice h header) ∷ [])) (no-table-packed h header e)

pub cards-stop-cut : (h : Header) (header : List ℕ) (x : Fault) → is_table h.sort ≡ true → first_refusal (table_card_checks h header) ≡ Some x → first_refusal (packed_card_checks h header) ≡ Some x
cards-stop-cut h header x table e =
    ap (λ b. first_refusal (card-checks-by h header b)) table
    ∙ cut-first (compressed_table h header) (is_packed header h) (is_some (repeated header)) (twice h header) (refusal h.hdu (Byte h.start) NotPacked) x e

pub other-to-cut : (h : Header) (header : List ℕ) → is_table h.sort ≡ true → first_refusal (table_card_checks h header) ≡ None → is_packed header h ≡ false → first_refusal (packed_card_checks h header) ≡ Some (refusal h.hdu (Byte h.start) NotPacked)
other-to-cut h header table one other =
    ap (λ b. first_refusal (card-checks-by h header b)) table
    ∙ cut-other (compressed_table h header) (is_packed header h) (is_some (repeated header)) (twice h header) (refusal h.hdu (Byte h.start) NotPacked) one other

pub packed-to-cut : (h : Header) (header : List ℕ) → is_table h.sort ≡ true → first_refusal (table_card_checks h header) ≡ None → is_packed header h ≡ true → first_refusal (packed_card_checks h header) ≡ None
packed-to-cut h header table one packed =
    ap (λ b. first_refusal (card-checks-by h header b)) table
    ∙ cut-none (compressed_table h header) (is_packed header h) (is_some (repeated header)) (twice h header) (refusal h.hdu (Byte h.start) NotPacked) one packed

module _ (h : Header) (header : List ℕ) (after_empty : Bool) (region : Region) where
  abbrev box : List (Bool × Fault)
  box = box_checks h.hdu (cards_of header) region

  pub cards-refuse-cut : (x : Fault) → first_refusal (packed_card_checks h header) ≡ Some x → image_to_cut h header after_empty region ≡ Err x
  unfolding image_to_cut
  cards-refuse-cut x e = ap (unless_refused (image_in h header)) (stopped (packed_card_checks h header) (image_checks h header after_empty ++ box) x e)

  pub image-refuses-cut : (x : Fault) → first_refusal (packed_card_checks h header) ≡ None → first_refusal (image_checks h header after_empty) ≡ Some x → image_to_cut h header after_empty region ≡ Err x
  unfolding image_to_cut
  image-refuses-cut x one e =
      ap (unless_refused (image_in h header)) (passed (packed_card_checks h header) (image_checks h header after_empty ++ box) one ∙ stopped (image_checks h header after_empty) box x e)

  pub box-refuses-cut : (x : Fault) → first_refusal (packed_card_checks h header) ≡ None → first_refusal (image_checks h header after_empty) ≡ None → first_refusal box ≡ Some x → image_to_cut h header after_empty region ≡ Err x
  unfolding image_to_cut
  box-refuses-cut x one two e =
      ap (unless_refused (image_in h header)) (passed (packed_card_checks h header) (image_checks h header after_empty ++ box) one ∙ (passed (image_checks h header after_empty) box two ∙ e))

  pub image-is-cut : (image : PackedImage) → first_refusal (packed_card_checks h header) ≡ None → first_refusal (image_checks h header after_empty) ≡ None → first_refusal box ≡ None → image ≡ image_in h header → image_to_cut h header after_empty region ≡ Ok image
  unfolding image_to_cut
  image-is-cut image one two e same =
      ap (unless_refused (image_in h header)) (passed (packed_card_checks h header) (image_checks h header after_empty ++ box) one ∙ (passed (image_checks h header after_empty) box two ∙ e)) ∙ ap Ok (sym same)

module _ (h : Header) (header : List ℕ) (after_empty : Bool) where
  pub cards-refuse-amend : (x : Fault) → first_refusal (packed_card_checks h header) ≡ Some x → image_to_amend h header after_empty ≡ Err x
  unfolding image_to_amend
  cards-refuse-amend x e = ap (unless_refused (image_in h header)) (stopped (packed_card_checks h header) (image_checks h header after_empty) x e)

  pub image-refuses-amend : (x : Fault) → first_refusal (packed_card_checks h header) ≡ None → first_refusal (image_checks h header after_empty) ≡ Some x → image_to_amend h header after_empty ≡ Err x
  unfolding image_to_amend
  image-refuses-amend x one e = ap (unless_refused (image_in h header)) (passed (packed_card_checks h header) (image_checks h header after_empty) one ∙ e)

  pub image-is-amended : (image : PackedImage) → first_refusal (packed_card_checks h header) ≡ None → first_refusal (image_checks h header after_empty) ≡ None → image ≡ image_in h header → image_to_amend h header after_empty ≡ Ok image
  unfolding image_to_amend
  image-is-amended image one two same =
      ap (unless_refused (image_in h header)) (passed (packed_card_checks h header) (image_checks h header after_empty) one ∙ two) ∙ ap Ok (sym same)

  pub amend-answer : (r : Result PackedImage Fault) → first_refusal (packed_card_checks h header) ≡ None →
      MatchResult r (λ _. first_refusal (image_checks h header after_empty) ≡ None) (λ x. first_refusal (image_checks h header after_empty) ≡ Some x) →
      IfOk r (λ image. image ≡ image_in h header) → image_to_amend h header after_empty ≡ r
  amend-answer (Ok image) one two same = image-is-amended image one two same
  amend-answer (Err x) one two same = image-refuses-amend x one two

-- the shape of the image is that of its cards
pub shape-said : (h : Header) (header : List ℕ) (image : PackedImage) → image ≡ image_in h header → image.plan.shape ≡ nine_axes (said_axes (cards_of header))
unfolding plan_of_cards
shape-said h header image same = ap (λ (i : PackedImage). i.plan.shape) same
