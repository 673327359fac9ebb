-- A header has at most nine axes, and the image of one that was read again is divided into tiles (FITS 4.0, sections 4.4.1.1 and 10.1).
use Rattle.std.proofs.Common.{◌≡◌, ℕ, zero, suc, ◌*◌, ◌/◌, ◌≤◌, Bool, true, false, List, [], ◌∷◌, ◌++◌, length, take, drop, refl, ap, arith}
use Rattle.std.specs.Prelude.{Option, Some, None, IfSome, nat_lt, ◌&&◌, codes, unwrap_or, if◌then◌else◌}
use Rattle.std.specs.Option.{option_map}
use Rattle.std.specs.List.{flat_map, range_with_len}
use Rattle.std.proofs.lemmas.Bool.Decides.{nat_tests}
use Rattle.fz_base.specs.Refusal.{first_refusal, refusal}
use Rattle.fz_base.specs.declared.fault.Place.TheVariants.{Card}
use Rattle.fz_base.specs.declared.kind.Kind.TheVariants.{Limit}
use Rattle.fz_card.specs.Reading.{integer_of}
use Rattle.fz_block.specs.Cards.{card_at, end_among, end_of, is_named}
use Rattle.fz_base.specs.declared.fault.Fault.{Fault}
use Rattle.fz_block.specs.Facts.{IsHeaderOf}
use Rattle.fz_block.specs.Hdus.{axes_of, naxis_of}
use Rattle.fz_block.specs.Mandatory.{axis_checks, bitpix_check, count_checks, extension_checks, is_size, must, naxis_checks}
use Rattle.fz_block.specs.declared.header.Header.{Header}
use Rattle.fz_grid.specs.Region.{IsDivided}
use Rattle.fz_checks.specs.declared.job_checks.PackedImage.{PackedImage}
use Rattle.fz_job.specs.Again.{IsAgain, IsUsable, header_at_front}
use Rattle.fz_job.specs.declared.again.ReadHdu.{ReadHdu}
use Rattle.fz_verify.proofs.Flags.{axes_are}

behind_none : (xs ys : List (Bool × Fault)) → first_refusal (xs ++ ys) ≡ None → first_refusal ys ≡ None
behind_none [] ys none = none
behind_none ((true, x) ∷ xs) ys none = absurd cc
behind_none ((false, x) ∷ xs) ys none = behind_none xs ys none

front_none : (c : Bool × Fault) (rest : List (Bool × Fault)) → first_refusal (c ∷ rest) ≡ None → first_refusal rest ≡ None
front_none (true, x) rest none = absurd cc
front_none (false, x) rest none = none

head_none : (b : Bool) (x : Fault) (rest : List (Bool × Fault)) → first_refusal ((b, x) ∷ rest) ≡ None → b ≡ false
head_none true x rest none = absurd cc
head_none false x rest none = refl

pub few_axes : (header : List ℕ) (h : Header) → IsHeaderOf header h → h.axes.n ≤ 9
few_axes header h is =
    let k : ℕ = h.hdu in
    let rest : List (Bool × Fault) = flat_map (axis_checks k header) (range_with_len 1 (naxis_of header)) ++ count_checks k header in
    let one : first_refusal (bitpix_check k header ∷ (naxis_checks k header ++ rest)) ≡ None = behind_none (extension_checks k header) (bitpix_check k header ∷ (naxis_checks k header ++ rest)) is.mandatory in
    let two : first_refusal (naxis_checks k header ++ rest) ≡ None = front_none (bitpix_check k header) (naxis_checks k header ++ rest) one in
    let three : first_refusal ((nat_lt 9 (naxis_of header), refusal k (Card 2) Limit) ∷ rest) ≡ None =
    front_none (must k 2 (is_named (codes "NAXIS") (card_at header 2) && is_size (integer_of (card_at header 2)))) ((nat_lt 9 (naxis_of header), refusal k (Card 2) Limit) ∷ rest) two in
    let test : nat_lt 9 (naxis_of header) ≡ false = head_none (nat_lt 9 (naxis_of header)) (refusal k (Card 2) Limit) rest three in
    let count : h.axes.n ≡ length (axes_of header) = ap (λ (j : Header). j.axes.n) is.facts in
    let few : naxis_of header ≤ 9 = grind (arith, nat_tests, test) in
    omega (arith, few, count, axes_are header)

pub divided : (header : List ℕ) (h : Header) (len : ℕ) (image : Option PackedImage) → IfSome image (IsUsable header h len) → IfSome image (λ i. IsDivided i.plan.shape i.plan.tile)
divided header h len None usable = tt
divided header h len (Some i) usable = usable.readable.divided

pub again_divided : (held : Option (List ℕ)) (n : ℕ) (buf : List ℕ) (a : ReadHdu) → IsAgain held n buf a → IfSome a.image (λ i. IsDivided i.plan.shape i.plan.tile)
again_divided held n buf a w = divided (header_at_front a buf) a.header n a.image w.usable

-- ---- the cards before END

of_next : (o : Option ℕ) (n : ℕ) → unwrap_or o 0 ≤ n → unwrap_or (option_map suc o) 0 ≤ suc n
of_next None n few = omega arith
of_next (Some i) n few = omega (arith, few)

of_either : (b : Bool) (o : Option ℕ) (n : ℕ) → unwrap_or o 0 ≤ n → unwrap_or (if b then Some 0 else option_map suc o) 0 ≤ suc n
of_either true o n few = omega arith
of_either false o n few = of_next o n few

end_within : (n : ℕ) (cards : List ℕ) → unwrap_or (end_among n cards) 0 ≤ n
unfolding end_among
end_within zero cards = omega arith
end_within (suc n) cards = of_either (is_named (codes "END") (take 80 cards)) (end_among n (drop 80 cards)) n (end_within n (drop 80 cards))

pub cards_fit : (header : List ℕ) (h : Header) → IsHeaderOf header h → 80 * h.cards ≤ length header
cards_fit header h is =
    let count : h.cards ≡ unwrap_or (end_of header) 0 = ap (λ (j : Header). j.cards) is.facts in
    let few : unwrap_or (end_of header) 0 ≤ length header / 80 = end_within (length header / 80) header in
    omega (arith, count, few)
