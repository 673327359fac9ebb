-- The least of some numbers, one card after another.
use Rattle.std.proofs.Common.{◌≡◌, ℕ, ◌+◌, ◌≤◌, Bool, true, false, leb, cond, List, [], ◌∷◌, ◌++◌, min, refl, ap, sym, ◌∙◌, arith, codes}
use Rattle.std.specs.Prelude.{Option, Some, None, IfSome, unwrap_or}
use Rattle.std.specs.List.{cons_option, filter_map}
use Rattle.std.specs.Option.{option_map}
use Rattle.std.proofs.lemmas.Bool.{leb-true}
use Rattle.std.proofs.lemmas.List.FromFn.{map-range_with_len_more}
use Rattle.fz_card.specs.Naming.{number_behind, up_to}
use Rattle.fz_card.specs.Layout.{card_name}
use Rattle.fz_card.specs.Reading.{has_text}
use Rattle.fz_block.specs.Cards.{card_at}
use Rattle.fz_head.specs.Along.{smaller_of}
use Rattle.fz_head.specs.PackedPlan.{least, parameter_in, parameter_number}
use Rattle.fz_head.specs.Written.{first_cards}

-- the least of a number and others
abbrev with-front : Option ℕ → Option ℕ → Option ℕ
with-front None best = best
with-front (Some n) best = Some (unwrap_or (option_map (min n) best) n)

least-front : (o : Option ℕ) (ns : List ℕ) → least (cons_option o ns) ≡ with-front o (least ns)
least-front None ns = refl
least-front (Some n) ns = refl

least-one : (o : Option ℕ) → with-front o None ≡ smaller_of None o
least-one None = refl
least-one (Some n) = refl

front-first : (o best next : Option ℕ) → with-front o (smaller_of best next) ≡ smaller_of (with-front o best) next
front-first None best next = refl
front-first (Some n) None None = refl
front-first (Some n) None (Some m) = refl
front-first (Some n) (Some a) None = refl
front-first (Some n) (Some a) (Some m) = let e : min n (min a m) ≡ min (min n a) m = omega arith in ap Some e

least-more : {X : Type 0} (f : X → Option ℕ) (xs : List X) (x : X) → least (filter_map f (xs ++ x ∷ [])) ≡ smaller_of (least (filter_map f xs)) (f x)
least-more f [] x = least-front (f x) [] ∙ least-one (f x)
least-more f (y ∷ ys) x =
    least-front (f y) (filter_map f (ys ++ x ∷ []))
    ∙ (ap (with-front (f y)) (least-more f ys x)
    ∙ (front-first (f y) (least (filter_map f ys)) (f x)
    ∙ ap (λ o. smaller_of o (f x)) (sym (least-front (f y) (filter_map f ys)))))

-- one card more
pub number-more : (text buf : List ℕ) (i : ℕ) → parameter_number text (first_cards buf (i + 1)) ≡ smaller_of (parameter_number text (first_cards buf i)) (parameter_in text (card_at buf i))
number-more text buf i =
    let at : 0 + i ≡ i = omega arith in
    ap (λ cards. parameter_number text cards) (map-range_with_len_more (card_at buf) 0 i i at) ∙ least-more (parameter_in text) (first_cards buf i) (card_at buf i)

-- a number is at most 999
abbrev pub IsFew : Option ℕ → Type 0
IsFew o = IfSome o (λ i. i ≤ 999)

up-few : (o : Option ℕ) → IsFew (up_to 999 o)
up-few None = tt
up-few (Some n) = by_test (leb n 999) refl
  where
    by_test : (b : Bool) → leb n 999 ≡ b → IsFew (cond b (Some n) None)
    by_test true e = leb-true n 999 e
    by_test false e = tt

pub parameter-few : (text card : List ℕ) → IsFew (parameter_in text card)
parameter-few text card = by_test (has_text text card)
  where
    by_test : (b : Bool) → IsFew (cond b (up_to 999 (number_behind (codes "ZNAME") (card_name card))) None)
    by_test true = up-few (number_behind (codes "ZNAME") (card_name card))
    by_test false = tt

pub smaller-few : (a b : Option ℕ) → IsFew a → IsFew b → IsFew (smaller_of a b)
smaller-few None b few_a few_b = few_b
smaller-few (Some a) None few_a few_b = few_a
smaller-few (Some a) (Some b) few_a few_b = omega arith
