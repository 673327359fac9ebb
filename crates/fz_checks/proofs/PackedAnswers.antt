-- The checks of a packed header, one group after another: the first that refuses.
use Rattle.std.proofs.Common.{◌≡◌, ℕ, suc, Bool, true, false, cond, List, [], ◌∷◌, ◌++◌, refl, ap, ◌∙◌}
use Rattle.std.specs.Prelude.{Option, Some, None, Ok, Err, is_some}
use Rattle.std.specs.Option.{option_map}
use Rattle.std.specs.List.{find, position}
use Rattle.fz_base.specs.Refusal.{first_refusal}
use Rattle.fz_base.specs.declared.fault.Fault.{Fault}
use Rattle.fz_block.specs.Checks.{unless_refused}
use Rattle.fz_block.specs.Hdus.{cards_of}
use Rattle.fz_head.specs.PackedChecks.{bitpix_checks, codec_checks, line_list_check, packed_checks, parameter_checks, plan_answer, row_check, scaling_check, shape_checks, sort_checks}
use Rattle.fz_head.specs.PackedPlan.{plan_of_cards}
use Rattle.fz_checks.proofs.SaidCards.{position-step}
use Rattle.fz_checks.proofs.RefusalLists.{passed, stopped}

-- the checks after each group
abbrev behind-line_list : ℕ → List ℕ → List (Bool × Fault)
behind-line_list k header = row_check k header ∷ []

abbrev behind-sort : ℕ → List ℕ → List (Bool × Fault)
behind-sort k header = line_list_check k (cards_of header) ∷ behind-line_list k header

abbrev behind-parameters : ℕ → List ℕ → Bool → List (Bool × Fault)
behind-parameters k header after_empty = sort_checks k (cards_of header) after_empty ++ behind-sort k header

abbrev behind-shape : ℕ → List ℕ → Bool → List (Bool × Fault)
behind-shape k header after_empty = parameter_checks k (cards_of header) ++ behind-parameters k header after_empty

abbrev behind-bitpix : ℕ → List ℕ → Bool → List (Bool × Fault)
behind-bitpix k header after_empty = shape_checks k (cards_of header) ++ behind-shape k header after_empty

abbrev behind-codec : ℕ → List ℕ → Bool → List (Bool × Fault)
behind-codec k header after_empty = bitpix_checks k (cards_of header) ++ behind-bitpix k header after_empty

abbrev behind-scaling : ℕ → List ℕ → Bool → List (Bool × Fault)
behind-scaling k header after_empty = codec_checks k (cards_of header) ++ behind-codec k header after_empty

-- the answer is that of the checks that are left
pub record Left (k : ℕ) (header : List ℕ) (after_empty : Bool) (checks : List (Bool × Fault)) : Type 0 where
  pub answer : plan_answer k header after_empty ≡ unless_refused (plan_of_cards (cards_of header)) (first_refusal checks)

next : (k : ℕ) (header : List ℕ) (after_empty : Bool) (xs ys : List (Bool × Fault)) → Left k header after_empty (xs ++ ys) → first_refusal xs ≡ None → Left k header after_empty ys
next k header after_empty xs ys left none = record { answer = left.answer ∙ ap (unless_refused (plan_of_cards (cards_of header))) (passed xs ys none) }

refused : (k : ℕ) (header : List ℕ) (after_empty : Bool) (xs ys : List (Bool × Fault)) (x : Fault) → Left k header after_empty (xs ++ ys) → first_refusal xs ≡ Some x → plan_answer k header after_empty ≡ Err x
refused k header after_empty xs ys x left some = left.answer ∙ ap (unless_refused (plan_of_cards (cards_of header))) (stopped xs ys x some)

all : (k : ℕ) (header : List ℕ) (after_empty : Bool) → Left k header after_empty (packed_checks k header after_empty)
unfolding plan_answer
all k header after_empty = record { answer = refl }

-- what each group passes or refuses
pub in-scaling : (k : ℕ) (header : List ℕ) (after_empty : Bool) (x : Fault) → first_refusal (scaling_check k (cards_of header) ∷ []) ≡ Some x → plan_answer k header after_empty ≡ Err x
in-scaling k header after_empty x some = refused k header after_empty (scaling_check k (cards_of header) ∷ []) (behind-scaling k header after_empty) x (all k header after_empty) some

pub past-scaling : (k : ℕ) (header : List ℕ) (after_empty : Bool) → first_refusal (scaling_check k (cards_of header) ∷ []) ≡ None → Left k header after_empty (behind-scaling k header after_empty)
past-scaling k header after_empty none = next k header after_empty (scaling_check k (cards_of header) ∷ []) (behind-scaling k header after_empty) (all k header after_empty) none

pub in-codec : (k : ℕ) (header : List ℕ) (after_empty : Bool) (x : Fault) → Left k header after_empty (behind-scaling k header after_empty) → first_refusal (codec_checks k (cards_of header)) ≡ Some x → plan_answer k header after_empty ≡ Err x
in-codec k header after_empty x left some = refused k header after_empty (codec_checks k (cards_of header)) (behind-codec k header after_empty) x left some

pub past-codec : (k : ℕ) (header : List ℕ) (after_empty : Bool) → Left k header after_empty (behind-scaling k header after_empty) → first_refusal (codec_checks k (cards_of header)) ≡ None → Left k header after_empty (behind-codec k header after_empty)
past-codec k header after_empty left none = next k header after_empty (codec_checks k (cards_of header)) (behind-codec k header after_empty) left none

pub in-bitpix : (k : ℕ) (header : List ℕ) (after_empty : Bool) (x : Fault) → Left k header after_empty (behind-codec k header after_empty) → first_refusal (bitpix_checks k (cards_of header)) ≡ Some x → plan_answer k header after_empty ≡ Err x
in-bitpix k header after_empty x left some = refused k header after_empty (bitpix_checks k (cards_of header)) (behind-bitpix k header after_empty) x left some

pub past-bitpix : (k : ℕ) (header : List ℕ) (after_empty : Bool) → Left k header after_empty (behind-codec k header after_empty) → first_refusal (bitpix_checks k (cards_of header)) ≡ None → Left k header after_empty (behind-bitpix k header after_empty)
past-bitpix k header after_empty left none = next k header after_empty (bitpix_checks k (cards_of header)) (behind-bitpix k header after_empty) left none

pub in-shape : (k : ℕ) (header : List ℕ) (after_empty : Bool) (x : Fault) → Left k header after_empty (behind-bitpix k header after_empty) → first_refusal (shape_checks k (cards_of header)) ≡ Some x → plan_answer k header after_empty ≡ Err x
in-shape k header after_empty x left some = refused k header after_empty (shape_checks k (cards_of header)) (behind-shape k header after_empty) x left some

pub past-shape : (k : ℕ) (header : List ℕ) (after_empty : Bool) → Left k header after_empty (behind-bitpix k header after_empty) → first_refusal (shape_checks k (cards_of header)) ≡ None → Left k header after_empty (behind-shape k header after_empty)
past-shape k header after_empty left none = next k header after_empty (shape_checks k (cards_of header)) (behind-shape k header after_empty) left none

pub in-parameters : (k : ℕ) (header : List ℕ) (after_empty : Bool) (x : Fault) → Left k header after_empty (behind-shape k header after_empty) → first_refusal (parameter_checks k (cards_of header)) ≡ Some x → plan_answer k header after_empty ≡ Err x
in-parameters k header after_empty x left some = refused k header after_empty (parameter_checks k (cards_of header)) (behind-parameters k header after_empty) x left some

pub past-parameters : (k : ℕ) (header : List ℕ) (after_empty : Bool) → Left k header after_empty (behind-shape k header after_empty) → first_refusal (parameter_checks k (cards_of header)) ≡ None → Left k header after_empty (behind-parameters k header after_empty)
past-parameters k header after_empty left none = next k header after_empty (parameter_checks k (cards_of header)) (behind-parameters k header after_empty) left none

pub in-sort : (k : ℕ) (header : List ℕ) (after_empty : Bool) (x : Fault) → Left k header after_empty (behind-parameters k header after_empty) → first_refusal (sort_checks k (cards_of header) after_empty) ≡ Some x → plan_answer k header after_empty ≡ Err x
in-sort k header after_empty x left some = refused k header after_empty (sort_checks k (cards_of header) after_empty) (behind-sort k header) x left some

pub past-sort : (k : ℕ) (header : List ℕ) (after_empty : Bool) → Left k header after_empty (behind-parameters k header after_empty) → first_refusal (sort_checks k (cards_of header) after_empty) ≡ None → Left k header after_empty (behind-sort k header)
past-sort k header after_empty left none = next k header after_empty (sort_checks k (cards_of header) after_empty) (behind-sort k header) left none

pub in-line_list : (k : ℕ) (header : List ℕ) (after_empty : Bool) (x : Fault) → Left k header after_empty (behind-sort k header) → first_refusal (line_list_check k (cards_of header) ∷ []) ≡ Some x → plan_answer k header after_empty ≡ Err x
in-line_list k header after_empty x left some = refused k header after_empty (line_list_check k (cards_of header) ∷ []) (behind-line_list k header) x left some

pub past-line_list : (k : ℕ) (header : List ℕ) (after_empty : Bool) → Left k header after_empty (behind-sort k header) → first_refusal (line_list_check k (cards_of header) ∷ []) ≡ None → Left k header after_empty (behind-line_list k header)
past-line_list k header after_empty left none = next k header after_empty (line_list_check k (cards_of header) ∷ []) (behind-line_list k header) left none

pub in-rows : (k : ℕ) (header : List ℕ) (after_empty : Bool) (x : Fault) → Left k header after_empty (behind-line_list k header) → first_refusal (row_check k header ∷ []) ≡ Some x → plan_answer k header after_empty ≡ Err x
in-rows k header after_empty x left some = left.answer ∙ ap (unless_refused (plan_of_cards (cards_of header))) some

pub past-all : (k : ℕ) (header : List ℕ) (after_empty : Bool) → Left k header after_empty (behind-line_list k header) → first_refusal (row_check k header ∷ []) ≡ None → plan_answer k header after_empty ≡ Ok (plan_of_cards (cards_of header))
past-all k header after_empty left none = left.answer ∙ ap (unless_refused (plan_of_cards (cards_of header))) none

-- a card that is found by its index is found
found-later : (o : Option ℕ) → is_some (option_map suc o) ≡ is_some o
found-later None = refl
found-later (Some i) = refl

pub index-is-found : (has : List ℕ → Bool) (cards : List (List ℕ)) → is_some (position has cards) ≡ is_some (find has cards)
index-is-found has [] = refl
index-is-found has (card ∷ cards) = ap is_some (position-step has card cards) ∙ by_test (has card) (index-is-found has cards)
  where
    by_test : (b : Bool) → is_some (position has cards) ≡ is_some (find has cards) → is_some (cond b (Some 0) (option_map suc (position has cards))) ≡ is_some (cond b (Some card) (find has cards))
    by_test true rest = refl
    by_test false rest = found-later (position has cards) ∙ rest
