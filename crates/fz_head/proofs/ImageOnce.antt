-- No name that stands once in a packed header stands twice among the made cards and those of the image.
use Rattle.std.proofs.Common.{◌≡◌, ℕ, zero, suc, ◌+◌, ◌<◌, ◌≤◌, Bool, true, false, cond, List, [], ◌∷◌, ◌++◌, map, sym, refl, ap, ◌∙◌, subst, arith, inl, inr, append_assoc, append-nil, zero-add}
use Rattle.std.specs.Prelude.{None, codes, bytes_eq}
use Rattle.std.specs.List.{list_any, range_with_len}
use Rattle.std.proofs.lemmas.Bool.{and_left, both_ways}
use Rattle.std.proofs.lemmas.List.FromFn.{map-range_with_len_more}
use Rattle.std.proofs.lemmas.Slice.Eq.{bytes_eq-Decides}
use Rattle.fz_card.specs.Laws.{CardLaws}
use Rattle.fz_card.specs.Layout.{card_name, padded}
use Rattle.fz_card.specs.Naming.{is_dropped, is_in, is_in_some, number_behind}
use Rattle.fz_card.specs.Tables.Names.{Numbered}
use Rattle.fz_card.specs.Tables.{IsInSome, IsDropped, IsNumberedName, own_names, packed_names}
use Rattle.fz_block.specs.Cards.{card_at}
use Rattle.fz_head.specs.declared.plan.Plan.{Plan}
use Rattle.fz_head.specs.declared.totals.Totals.{Totals}
use Rattle.fz_head.specs.PackedHeader.{packed_card, made_cards}
use Rattle.fz_head.specs.Repeats.{first_repeat, image_names, table_names, counted_name}
use Rattle.fz_head.specs.SumCards.{IsSumCard, AreSumCards, AreDropped, IsDroppedCard}
use Rattle.fz_head.proofs.CardNames.{IsFree, is-numbered, new_name, new_name-kept, old-new_name, old_name, was-named, was-axis, simple-pair, xtension-pair, bitpix-pair, naxis-pair, pcount-pair, gcount-pair}
use Rattle.fz_head.proofs.FrontCards.{no_repeat}
use Rattle.fz_head.proofs.ImageCards.{IsImage, is_free, new_card_name, false_of}
use Rattle.fz_head.proofs.ImageFinds.{image_card, image_cards, not-dropped}
use Rattle.fz_head.proofs.KeptCards.{not_simple, not_xtension}
use Rattle.fz_head.proofs.MadeCards.{made-dropped}
use Rattle.fz_head.proofs.NamesOnce.{OnceAfter, counts_as, repeats_seen, none-counts, once-append, once-is, made-once}
use Rattle.fz_head.proofs.Ranges.{all-append, all-mapped, all-weaker, map-map-range}

-- a name and the name as which it counts are dropped or not alike
counted-by : (b : Bool) (name : List ℕ) → bytes_eq name (padded (codes "ZTENSION")) ≡ b → is_dropped (cond b (padded (codes "ZSIMPLE")) name) ≡ is_dropped name
unfolding is_dropped own_names packed_names number_behind
counted-by true name e = sym (ap is_dropped ((bytes_eq-Decides name (padded (codes "ZTENSION"))).0 e))
counted-by false name e = refl

counted-dropped : (name : List ℕ) → is_dropped (counted_name name) ≡ is_dropped name
counted-dropped name = counted-by (bytes_eq name (padded (codes "ZTENSION"))) name refl

axis-dropped : (n : List ℕ) → IsNumberedName (codes "NAXIS") 1 999 n → IsDropped n
unfolding IsDropped own_names
axis-dropped n h = inl (inr (inr (inr (inl h))))

pub ttype-dropped : (n : List ℕ) → IsNumberedName (codes "TTYPE") 1 999 n → IsDropped n
unfolding IsDropped packed_names
ttype-dropped n h = inr (inr (inl h))

tform-dropped : (n : List ℕ) → IsNumberedName (codes "TFORM") 1 999 n → IsDropped n
unfolding IsDropped packed_names
tform-dropped n h = inr (inr (inr (inl h)))

ztile-dropped : (n : List ℕ) → IsNumberedName (codes "ZTILE") 1 999 n → IsDropped n
unfolding IsDropped packed_names
ztile-dropped n h = inr (inr (inr (inr (inr (inr (inr (inl h)))))))

pub zname-dropped : (n : List ℕ) → IsNumberedName (codes "ZNAME") 1 999 n → IsDropped n
unfolding IsDropped packed_names
zname-dropped n h = inr (inr (inr (inr (inr (inr (inr (inr (inl h))))))))

zval-dropped : (n : List ℕ) → IsNumberedName (codes "ZVAL") 1 999 n → IsDropped n
unfolding IsDropped packed_names
zval-dropped n h = inr (inr (inr (inr (inr (inr (inr (inr (inr (inl h)))))))))

was-word : (name plain packed : List ℕ) → is_in_some image_names (padded plain) ≡ true → name ≡ padded plain → is_in_some image_names name ≡ true
was-word name plain packed is e = ap (is_in_some image_names) e ∙ is

-- cards of sums may stand twice
no-table-name : (card : List ℕ) → IsSumCard card → is_in_some table_names (card_name card) ≡ false
unfolding number_behind
no-table-name card is = elim is.named [
  | inl e ↦ ap (is_in_some table_names) e
  | inr e ↦ ap (is_in_some table_names) e
]

sums-once : (seen sums : List (List ℕ)) → AreSumCards sums → OnceAfter seen sums
sums-once seen [] are = tt
sums-once seen (card ∷ cards) are = (and_left (is_in_some table_names (card_name card)) (list_any (counts_as card) seen) (no-table-name card are.0), sums-once (seen ++ card ∷ []) cards are.1)

-- by the laws of cards
module _ (laws : CardLaws) where
  -- a name that stands once in a packed header was one that stands once in the image
  taken : (name word : List ℕ) → IsFree name → new_name name ≡ word → is_dropped word ≡ true → ⊥
  taken name word is e dropped = both_ways (is_dropped (new_name name)) (new_name-kept laws name is) (ap is_dropped e ∙ dropped)

  taken-number : (name stem : List ℕ) (last : ℕ) → IsFree name → IsNumberedName stem 1 last (new_name name) → ((n : List ℕ) → IsNumberedName stem 1 last n → IsDropped n) → ⊥
  taken-number name stem last is h dropped = both_ways (is_dropped (new_name name)) (new_name-kept laws name is) (laws.names.named_dropped (new_name name) (dropped (new_name name) h))

  was-single-axis : (name : List ℕ) → IsNumberedName (codes "NAXIS") 1 9 name → is_in_some image_names name ≡ true
  was-single-axis name h =
      laws.names.named_list image_names name (tt, (tt, (tt, (tt, (omega arith, (tt, (tt, tt)))))))
      (inr (inr (inr (inr (inl (record { number = h.number; low = h.low; high = omega (arith, h.high); made = h.made }))))))

  axis-back : (name : List ℕ) → IsFree name → IsNumberedName (codes "ZNAXIS") 1 99 (new_name name) → is_in_some image_names name ≡ true
  axis-back name is h = was-single-axis name (was-axis laws name is (is-is_in_some-one h))
    where
      is-is_in_some-one : IsNumberedName (codes "ZNAXIS") 1 99 (new_name name) → is_in (Numbered (codes "ZNAXIS") 99) (new_name name) ≡ true
      is-is_in_some-one k = is-numbered laws (codes "ZNAXIS") 99 k.number (new_name name) k.low k.high (omega (arith, k.high)) k.made

  was-once-by : (name : List ℕ) → IsFree name → IsInSome table_names (new_name name) → is_in_some image_names name ≡ true
  unfolding is_dropped own_names packed_names number_behind
  was-once-by name is (inl h) = absurd (taken name (padded (codes "XTENSION")) is h refl)
  was-once-by name is (inr (inl h)) = absurd (taken name (padded (codes "BITPIX")) is h refl)
  was-once-by name is (inr (inr (inl h))) = absurd (taken name (padded (codes "NAXIS")) is h refl)
  was-once-by name is (inr (inr (inr (inl h)))) = absurd (taken-number name (codes "NAXIS") 999 is h axis-dropped)
  was-once-by name is (inr (inr (inr (inr (inl h))))) = absurd (taken name (padded (codes "PCOUNT")) is h refl)
  was-once-by name is (inr (inr (inr (inr (inr (inl h)))))) = absurd (taken name (padded (codes "GCOUNT")) is h refl)
  was-once-by name is (inr (inr (inr (inr (inr (inr (inl h))))))) = absurd (taken name (padded (codes "TFIELDS")) is h refl)
  was-once-by name is (inr (inr (inr (inr (inr (inr (inr (inl h)))))))) = absurd (taken-number name (codes "TTYPE") 999 is h ttype-dropped)
  was-once-by name is (inr (inr (inr (inr (inr (inr (inr (inr (inl h))))))))) = absurd (taken-number name (codes "TFORM") 999 is h tform-dropped)
  was-once-by name is (inr (inr (inr (inr (inr (inr (inr (inr (inr (inl h)))))))))) = absurd (taken name (padded (codes "THEAP")) is h refl)
  was-once-by name is (inr (inr (inr (inr (inr (inr (inr (inr (inr (inr (inl h))))))))))) = absurd (taken name (padded (codes "ZIMAGE")) is h refl)
  was-once-by name is (inr (inr (inr (inr (inr (inr (inr (inr (inr (inr (inr (inl h)))))))))))) = absurd (taken name (padded (codes "ZCMPTYPE")) is h refl)
  was-once-by name is (inr (inr (inr (inr (inr (inr (inr (inr (inr (inr (inr (inr (inl h))))))))))))) =
      was-word name (codes "BITPIX") (codes "ZBITPIX") refl (was-named laws name (padded (codes "BITPIX")) (padded (codes "ZBITPIX")) is bitpix-pair h)
  was-once-by name is (inr (inr (inr (inr (inr (inr (inr (inr (inr (inr (inr (inr (inr (inl h)))))))))))))) =
      was-word name (codes "NAXIS") (codes "ZNAXIS") refl (was-named laws name (padded (codes "NAXIS")) (padded (codes "ZNAXIS")) is naxis-pair h)
  was-once-by name is (inr (inr (inr (inr (inr (inr (inr (inr (inr (inr (inr (inr (inr (inr (inl h))))))))))))))) = axis-back name is h
  was-once-by name is (inr (inr (inr (inr (inr (inr (inr (inr (inr (inr (inr (inr (inr (inr (inr (inl h)))))))))))))))) = absurd (taken-number name (codes "ZTILE") 999 is h ztile-dropped)
  was-once-by name is (inr (inr (inr (inr (inr (inr (inr (inr (inr (inr (inr (inr (inr (inr (inr (inr (inl h))))))))))))))))) = absurd (taken-number name (codes "ZNAME") 999 is h zname-dropped)
  was-once-by name is (inr (inr (inr (inr (inr (inr (inr (inr (inr (inr (inr (inr (inr (inr (inr (inr (inr (inl h)))))))))))))))))) = absurd (taken-number name (codes "ZVAL") 999 is h zval-dropped)
  was-once-by name is (inr (inr (inr (inr (inr (inr (inr (inr (inr (inr (inr (inr (inr (inr (inr (inr (inr (inr (inl h))))))))))))))))))) =
      was-word name (codes "SIMPLE") (codes "ZSIMPLE") refl (was-named laws name (padded (codes "SIMPLE")) (padded (codes "ZSIMPLE")) is simple-pair h)
  was-once-by name is (inr (inr (inr (inr (inr (inr (inr (inr (inr (inr (inr (inr (inr (inr (inr (inr (inr (inr (inr (inl h)))))))))))))))))))) =
      was-word name (codes "XTENSION") (codes "ZTENSION") refl (was-named laws name (padded (codes "XTENSION")) (padded (codes "ZTENSION")) is xtension-pair h)
  was-once-by name is (inr (inr (inr (inr (inr (inr (inr (inr (inr (inr (inr (inr (inr (inr (inr (inr (inr (inr (inr (inr (inl h))))))))))))))))))))) =
      was-word name (codes "PCOUNT") (codes "ZPCOUNT") refl (was-named laws name (padded (codes "PCOUNT")) (padded (codes "ZPCOUNT")) is pcount-pair h)
  was-once-by name is (inr (inr (inr (inr (inr (inr (inr (inr (inr (inr (inr (inr (inr (inr (inr (inr (inr (inr (inr (inr (inr (inl h)))))))))))))))))))))) =
      was-word name (codes "GCOUNT") (codes "ZGCOUNT") refl (was-named laws name (padded (codes "GCOUNT")) (padded (codes "ZGCOUNT")) is gcount-pair h)
  was-once-by name is (inr (inr (inr (inr (inr (inr (inr (inr (inr (inr (inr (inr (inr (inr (inr (inr (inr (inr (inr (inr (inr (inr h)))))))))))))))))))))) = absurd h

  was-once : (name : List ℕ) → IsFree name → is_in_some table_names (new_name name) ≡ true → is_in_some image_names name ≡ true
  was-once name is e = was-once-by name is (laws.names.list_named table_names (new_name name) e)

  module _ (header : List ℕ) (primary : Bool) (n last : ℕ) (image : IsImage header primary n last) where
    abbrev name_at : ℕ → List ℕ
    name_at i = card_name (card_at header i)

    free : (i : ℕ) → i < last → IsFree (name_at i)
    free i before = is_free laws header primary n last image i before

    -- the image has not both SIMPLE and XTENSION
    one-sort : (i j : ℕ) → i < last → j < last → name_at i ≡ padded (codes "SIMPLE") → name_at j ≡ padded (codes "XTENSION") → (b : Bool) → primary ≡ b → ⊥
    one-sort i j bi bj si xj true p = not_xtension laws header primary n last image p j bj xj
    one-sort i j bi bj si xj false p = not_simple laws header primary n last image p i bi si

    -- two cards that count as one name had one name
    one-name : (i j : ℕ) → i < last → j < last → (a b : Bool) → bytes_eq (new_name (name_at i)) (padded (codes "ZTENSION")) ≡ a → bytes_eq (new_name (name_at j)) (padded (codes "ZTENSION")) ≡ b →
        cond a (padded (codes "ZSIMPLE")) (new_name (name_at i)) ≡ cond b (padded (codes "ZSIMPLE")) (new_name (name_at j)) → name_at i ≡ name_at j
    one-name i j bi bj true true ea eb same =
        was-named laws (name_at i) (padded (codes "XTENSION")) (padded (codes "ZTENSION")) (free i bi) xtension-pair ((bytes_eq-Decides (new_name (name_at i)) (padded (codes "ZTENSION"))).0 ea)
        ∙ sym (was-named laws (name_at j) (padded (codes "XTENSION")) (padded (codes "ZTENSION")) (free j bj) xtension-pair ((bytes_eq-Decides (new_name (name_at j)) (padded (codes "ZTENSION"))).0 eb))
    one-name i j bi bj false false ea eb same = sym (old-new_name laws (name_at i) (free i bi)) ∙ (ap old_name same ∙ old-new_name laws (name_at j) (free j bj))
    one-name i j bi bj true false ea eb same =
        absurd (one-sort j i bj bi (was-named laws (name_at j) (padded (codes "SIMPLE")) (padded (codes "ZSIMPLE")) (free j bj) simple-pair (sym same))
        (was-named laws (name_at i) (padded (codes "XTENSION")) (padded (codes "ZTENSION")) (free i bi) xtension-pair ((bytes_eq-Decides (new_name (name_at i)) (padded (codes "ZTENSION"))).0 ea)) primary refl)
    one-name i j bi bj false true ea eb same =
        absurd (one-sort i j bi bj (was-named laws (name_at i) (padded (codes "SIMPLE")) (padded (codes "ZSIMPLE")) (free i bi) simple-pair same)
        (was-named laws (name_at j) (padded (codes "XTENSION")) (padded (codes "ZTENSION")) (free j bj) xtension-pair ((bytes_eq-Decides (new_name (name_at j)) (padded (codes "ZTENSION"))).0 eb)) primary refl)

    new_at : (i : ℕ) → i < last → card_name (image_card header i) ≡ new_name (name_at i)
    new_at i before = new_card_name laws header primary n last image i before

    -- a card of the image that stands once counts as no earlier one
    earlier-other : (i j : ℕ) → j < i → i < last → is_in_some table_names (card_name (image_card header i)) ≡ true → counts_as (image_card header i) (image_card header j) ≡ false
    earlier-other i j less before single =
        false_of (counts_as (image_card header i) (image_card header j)) (λ t.
        let bj : j < last = omega arith in
        let counted : counted_name (card_name (image_card header j)) ≡ counted_name (card_name (image_card header i)) = (bytes_eq-Decides (counted_name (card_name (image_card header j))) (counted_name (card_name (image_card header i)))).0 t in
        let names : counted_name (new_name (name_at j)) ≡ counted_name (new_name (name_at i)) = ap counted_name (sym (new_at j bj)) ∙ (counted ∙ ap counted_name (new_at i before)) in
        let same : name_at j ≡ name_at i = one-name j i bj before (bytes_eq (new_name (name_at j)) (padded (codes "ZTENSION"))) (bytes_eq (new_name (name_at i)) (padded (codes "ZTENSION"))) refl refl names in
        no_repeat header last j i image.single less before (was-once (name_at i) (free i before) (ap (is_in_some table_names) (sym (new_at i before)) ∙ single)) same)

    made-other : (i : ℕ) → i < last → (card : List ℕ) → IsDroppedCard card → counts_as (image_card header i) card ≡ false
    made-other i before card dropped =
        false_of (counts_as (image_card header i) card) (λ t.
        let counted : counted_name (card_name card) ≡ counted_name (card_name (image_card header i)) = (bytes_eq-Decides (counted_name (card_name card)) (counted_name (card_name (image_card header i)))).0 t in
        both_ways (is_dropped (card_name (image_card header i))) (not-dropped laws header primary n last image i before)
        (sym (counted-dropped (card_name (image_card header i))) ∙ (ap is_dropped (sym counted) ∙ (counted-dropped (card_name card) ∙ dropped))))

    module _ (made : List (List ℕ)) (dropped : AreDropped made) where
      image-step : (i : ℕ) → i < last → (b : Bool) → is_in_some table_names (card_name (image_card header i)) ≡ b → repeats_seen (made ++ map (image_card header) (range_with_len 0 i)) (image_card header i) ≡ false
      image-step i before false e = and_left (is_in_some table_names (card_name (image_card header i))) (list_any (counts_as (image_card header i)) (made ++ map (image_card header) (range_with_len 0 i))) e
      image-step i before true e =
          none-counts (made ++ map (image_card header) (range_with_len 0 i)) (image_card header i)
          (all-append (λ c. counts_as (image_card header i) c ≡ false) made (map (image_card header) (range_with_len 0 i))
          (all-weaker IsDroppedCard (λ c. counts_as (image_card header i) c ≡ false) made (λ card d. made-other i before card d) dropped)
          (all-mapped (λ c. counts_as (image_card header i) c ≡ false) (image_card header) 0 i (λ j low high. earlier-other i j (omega arith) before e)))

      image-from : (i k : ℕ) → i + k ≤ last → OnceAfter (made ++ map (image_card header) (range_with_len 0 i)) (map (image_card header) (range_with_len i k))
      image-from i zero few = tt
      image-from i (suc k) few =
          let seen : (made ++ map (image_card header) (range_with_len 0 i)) ++ (image_card header i ∷ []) ≡ made ++ map (image_card header) (range_with_len 0 (i + 1)) =
          append_assoc made (map (image_card header) (range_with_len 0 i)) (image_card header i ∷ []) ∙ ap (λ l. made ++ l) (sym (map-range_with_len_more (image_card header) 0 i i (zero-add i))) in
          (image-step i (omega arith) (is_in_some table_names (card_name (image_card header i))) refl, subst (λ l. OnceAfter l (map (image_card header) (range_with_len (i + 1) k))) (sym seen) (image-from (i + 1) k (omega arith)))

      pub image-once : OnceAfter made (image_cards header last)
      image-once =
          subst (OnceAfter made) (sym (map-map-range packed_card (card_at header) 0 last))
          (subst (λ l. OnceAfter l (map (image_card header) (range_with_len 0 last))) (append-nil made) (image-from 0 last (omega arith)))

  -- the whole header
  pub packed-once : (header : List ℕ) (primary : Bool) (n last : ℕ) (p : Plan) (s : Totals) (sums : List (List ℕ)) → IsImage header primary n last → p.shape.n ≤ 9 → AreSumCards sums →
      first_repeat table_names counted_name (made_cards p s ++ (image_cards header last ++ sums)) ≡ None
  packed-once header primary n last p s sums image few are =
      once-is (made_cards p s ++ (image_cards header last ++ sums))
      (once-append [] (made_cards p s) (image_cards header last ++ sums) (made-once laws p s few)
      (once-append (made_cards p s) (image_cards header last) sums (image-once header primary n last image (made_cards p s) (made-dropped laws p s few)) (sums-once (made_cards p s ++ image_cards header last) sums are)))
