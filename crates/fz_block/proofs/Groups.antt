-- When a header is refused because it says that it has random groups.
use Rattle.std.proofs.Common.{◌≡◌, ℕ, zero, suc, ◌<◌, ◌==◌, nat_lt, Bool, true, false, ◌&&◌, List, [], ◌∷◌, get_or, codes, Option, Some, None, is_some, unwrap_or, refl, ap, sym, ◌∙◌, arith}
use Rattle.std.proofs.lemmas.Bool.Decides.{nat_tests}
use Rattle.fz_base.specs.Refusal.{refusal, first_refusal}
use Rattle.fz_base.specs.declared.fault.Place.TheVariants.{Card}
use Rattle.fz_base.specs.declared.kind.Kind.TheVariants.{Groups}
use Rattle.fz_block.specs.Cards.{end_of, first_among}
use Rattle.fz_block.specs.Checks.{group_checks, groups_card, is_set}
use Rattle.fz_block.specs.Hdus.{size_at, axes_of}
use Rattle.fz_block.specs.Facts.{nine_axes}
use Rattle.fz_block.specs.declared.axes.Axes.{Axes}
use Rattle.fz_block.proofs.AxisLists.{axes_count, first_axis}

-- the check, by what the search says
holds : (card : Option ℕ) (i : ℕ) (a b : Bool) → card ≡ Some i → a ≡ true → b ≡ true →
    first_refusal ((a && (b && is_some card), refusal 0 (Card (unwrap_or card 0)) Groups) ∷ []) ≡ Some (refusal 0 (Card i) Groups)
holds card i a b found some none = rw (found, some, none) refl

holds_not : (card : Option ℕ) (a b : Bool) → card ≡ None → first_refusal ((a && (b && is_some card), refusal 0 (Card (unwrap_or card 0)) Groups) ∷ []) ≡ None
holds_not card false b none = refl
holds_not card true false none = refl
holds_not card true true none = rw none refl

pub of_extension : (hdu : ℕ) (header : List ℕ) → 0 < hdu → first_refusal (group_checks hdu header) ≡ None
of_extension zero header some = absurd (omega arith)
of_extension (suc k) header some = refl

pub without_axes : (hdu : ℕ) (header : List ℕ) (axes : Axes) → axes ≡ nine_axes (axes_of header) → axes.n ≡ 0 → first_refusal (group_checks hdu header) ≡ None
without_axes zero header axes same none =
    let count : size_at header 2 ≡ 0 = sym (axes_count header) ∙ (ap (λ (a : Axes). a.n) (sym same) ∙ none) in
    rw count refl
without_axes (suc k) header axes same none = refl

pub with_long_axis : (hdu : ℕ) (header : List ℕ) (axes : Axes) → axes ≡ nine_axes (axes_of header) → 0 < axes.n → 0 < get_or axes.len 0 0 → first_refusal (group_checks hdu header) ≡ None
with_long_axis zero header axes same some long =
    let count : 0 < size_at header 2 = omega (arith, axes_count header, ap (λ (a : Axes). a.n) same) in
    let first : get_or axes.len 0 0 ≡ size_at header 3 = ap (λ (a : Axes). get_or a.len 0 0) same ∙ first_axis header count in
    let test : (size_at header 3 == 0) ≡ false = grind (arith, nat_tests) in
    let here : nat_lt 0 (size_at header 2) ≡ true = grind (arith, nat_tests) in
    rw (here, test) refl
with_long_axis (suc k) header axes same some long = refl

-- no card says so
pub not_said : (hdu : ℕ) (header : List ℕ) (end : ℕ) → end_of header ≡ Some end → first_among (is_set (codes "GROUPS")) end header ≡ None → first_refusal (group_checks hdu header) ≡ None
not_said zero header end at none =
    holds_not (groups_card header) (nat_lt 0 (size_at header 2)) (size_at header 3 == 0) (ap (λ e. first_among (is_set (codes "GROUPS")) (unwrap_or e 0) header) at ∙ none)
not_said (suc k) header end at none = refl

-- a card says so, where the first axis has length 0
pub said : (hdu : ℕ) (header : List ℕ) (axes : Axes) (end i : ℕ) → hdu ≡ 0 → axes ≡ nine_axes (axes_of header) → 0 < axes.n → get_or axes.len 0 0 ≡ 0 → end_of header ≡ Some end →
    first_among (is_set (codes "GROUPS")) end header ≡ Some i → first_refusal (group_checks hdu header) ≡ Some (refusal 0 (Card i) Groups)
said zero header axes end i first same some none at found =
    let count : 0 < size_at header 2 = omega (arith, axes_count header, ap (λ (a : Axes). a.n) same) in
    let length : get_or axes.len 0 0 ≡ size_at header 3 = ap (λ (a : Axes). get_or a.len 0 0) same ∙ first_axis header count in
    let test : (size_at header 3 == 0) ≡ true = grind (arith, nat_tests) in
    let here : nat_lt 0 (size_at header 2) ≡ true = grind (arith, nat_tests) in
    holds (groups_card header) i (nat_lt 0 (size_at header 2)) (size_at header 3 == 0) (ap (λ e. first_among (is_set (codes "GROUPS")) (unwrap_or e 0) header) at ∙ found) here test
said (suc k) header axes end i first same some none at found = absurd (omega arith)
