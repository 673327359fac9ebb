-- No name that stands once in a packed header stands twice in one that is made.
use Rattle.std.proofs.Common.{◌≡◌, ℕ, zero, suc, ◌+◌, ◌<◌, ◌≤◌, Bool, true, false, List, [], ◌∷◌, ◌++◌, length, take, get_or, map, sym, refl, ap, ◌∙◌, subst, arith, append_assoc, append-nil}
use Rattle.std.specs.Prelude.{◌&&◌, ◌||◌, not, None, codes, bytes_eq}
use Rattle.std.specs.Fmt.{digits}
use Rattle.std.specs.List.{AllByRecursion, list_any, range_with_len}
use Rattle.std.proofs.lemmas.Bool.{and_parts, and_right, not-true}
use Rattle.std.proofs.lemmas.List.FromFn.{map-range_with_len_more}
use Rattle.std.proofs.lemmas.Slice.Eq.{bytes_eq-Decides}
use Rattle.fz_card.specs.Laws.{CardLaws}
use Rattle.fz_card.specs.Layout.{card_name}
use Rattle.fz_card.specs.Made.{int_card_bytes, logical_card_bytes, text_card_bytes, numbered_name}
use Rattle.fz_card.specs.Naming.{is_in_some}
use Rattle.fz_tile.specs.declared.codec.Codec.{Codec}
use Rattle.fz_tile.specs.declared.codec.Codec.TheVariants.{Rice, Plio, Plain}
use Rattle.fz_head.specs.declared.plan.Plan.{Plan}
use Rattle.fz_head.specs.declared.totals.Totals.{Totals}
use Rattle.fz_head.specs.PackedHeader.{made_cards, parameter_cards, numbered_number_card, numbered_word_card}
use Rattle.fz_head.specs.Repeats.{repeats, first_repeat, table_names, counted_name}
use Rattle.fz_head.proofs.ImageCards.{false_of}
use Rattle.fz_head.proofs.MadeFinds.{first_part, tile_card, tiles, tile-name, numbers-apart}
use Rattle.fz_head.proofs.Positions.{index-nowhere}
use Rattle.fz_head.proofs.Ranges.{all-append, all-mapped, all-weaker}

-- a card counts as another one
abbrev pub counts_as : List ℕ → List ℕ → Bool
counts_as card earlier = bytes_eq (counted_name (card_name earlier)) (counted_name (card_name card))

-- a card repeats the name of one that was seen
abbrev pub repeats_seen : List (List ℕ) → List ℕ → Bool
repeats_seen seen card = is_in_some table_names (card_name card) && list_any (counts_as card) seen

-- no card repeats the name of one that stands before it or was seen
abbrev pub OnceAfter : List (List ℕ) → List (List ℕ) → Type 0
OnceAfter seen [] = Unit {0}
OnceAfter seen (card ∷ cards) = (repeats_seen seen card ≡ false) × OnceAfter (seen ++ card ∷ []) cards

pub once-append : (seen xs ys : List (List ℕ)) → OnceAfter seen xs → OnceAfter (seen ++ xs) ys → OnceAfter seen (xs ++ ys)
once-append seen [] ys one two = subst (λ l. OnceAfter l ys) (append-nil seen) two
once-append seen (x ∷ xs) ys one two = (one.0, once-append (seen ++ x ∷ []) xs ys one.1 (subst (λ l. OnceAfter l ys) (sym (append_assoc seen (x ∷ []) xs)) two))

once-at : (seen cards : List (List ℕ)) (i : ℕ) → OnceAfter seen cards → i < length cards → repeats_seen (seen ++ take i cards) (get_or cards i []) ≡ false
once-at seen [] i once within = absurd (omega arith)
once-at seen (card ∷ cards) zero once within = ap (λ l. repeats_seen l card) (append-nil seen) ∙ once.0
once-at seen (card ∷ cards) (suc i) once within =
    ap (λ l. repeats_seen l (get_or cards i [])) (sym (append_assoc seen (card ∷ []) (take i cards))) ∙ once-at (seen ++ card ∷ []) cards i once.1 (omega arith)

pub once-is : (cards : List (List ℕ)) → OnceAfter [] cards → first_repeat table_names counted_name cards ≡ None
once-is cards once = sym (index-nowhere (repeats table_names counted_name cards) (length cards) (λ i within. once-at [] cards i once within))

-- none of some cards counts as this one
pub any-false : {X : Type 0} (has : X → Bool) (xs : List X) → AllByRecursion (λ x. has x ≡ false) xs → list_any has xs ≡ false
any-false has [] none = refl
any-false has (x ∷ xs) none = ap (λ b. b || list_any has xs) none.0 ∙ any-false has xs none.1

pub none-counts : (seen : List (List ℕ)) (card : List ℕ) → AllByRecursion (λ c. counts_as card c ≡ false) seen → repeats_seen seen card ≡ false
none-counts seen card none = and_right (is_in_some table_names (card_name card)) (list_any (counts_as card) seen) (any-false (counts_as card) seen none)

-- whether no card counts as one that stands before it or was seen
abbrev apart_after : List (List ℕ) → List (List ℕ) → Bool
apart_after seen [] = true
apart_after seen (card ∷ cards) = not (list_any (counts_as card) seen) && apart_after (seen ++ card ∷ []) cards

apart-once : (seen cards : List (List ℕ)) → apart_after seen cards ≡ true → OnceAfter seen cards
apart-once seen [] e = tt
apart-once seen (card ∷ cards) e =
    let parts = and_parts (not (list_any (counts_as card) seen)) (apart_after (seen ++ card ∷ []) cards) e in
    (and_right (is_in_some table_names (card_name card)) (list_any (counts_as card) seen) (not-true (list_any (counts_as card) seen) parts.0), apart-once (seen ++ card ∷ []) cards parts.1)

-- the made cards
first-once : (p : Plan) (s : Totals) → OnceAfter [] (first_part p s)
unfolding int_card_bytes logical_card_bytes text_card_bytes numbered_name digits
first-once p s = apart-once [] (first_part p s) refl

-- those of the tile's lengths
itself-counted : (i : ℕ) → counted_name (numbered_name (codes "ZTILE") i) ≡ numbered_name (codes "ZTILE") i
unfolding numbered_name
itself-counted i = refl

abbrev NoneCountsAs : List ℕ → List (List ℕ) → Type 0
NoneCountsAs name cards = AllByRecursion (λ c. bytes_eq (counted_name (card_name c)) name ≡ false) cards

counts-none : (card name : List ℕ) (cards : List (List ℕ)) → counted_name (card_name card) ≡ name → NoneCountsAs name cards → AllByRecursion (λ c. counts_as card c ≡ false) cards
counts-none card name cards e none = all-weaker (λ c. bytes_eq (counted_name (card_name c)) name ≡ false) (λ c. counts_as card c ≡ false) cards (λ c h. ap (bytes_eq (counted_name (card_name c))) e ∙ h) none

first-no-tile-name : (p : Plan) (s : Totals) (i : ℕ) → NoneCountsAs (numbered_name (codes "ZTILE") i) (first_part p s)
unfolding int_card_bytes logical_card_bytes text_card_bytes numbered_name digits
first-no-tile-name p s i = (refl, (refl, (refl, (refl, (refl, (refl, (refl, (refl, (refl, (refl, (refl, (refl, (refl, (refl, tt))))))))))))))

zname-no-tile : (k i : ℕ) → bytes_eq (numbered_name (codes "ZTILE") i) (numbered_name (codes "ZNAME") k) ≡ false
unfolding numbered_name
zname-no-tile k i = refl

zval-no-tile : (k i : ℕ) → bytes_eq (numbered_name (codes "ZTILE") i) (numbered_name (codes "ZVAL") k) ≡ false
unfolding numbered_name
zval-no-tile k i = refl

first-no-zname : (p : Plan) (s : Totals) (k : ℕ) → NoneCountsAs (numbered_name (codes "ZNAME") k) (first_part p s)
unfolding int_card_bytes logical_card_bytes text_card_bytes numbered_name digits
first-no-zname p s k = (refl, (refl, (refl, (refl, (refl, (refl, (refl, (refl, (refl, (refl, (refl, (refl, (refl, (refl, tt))))))))))))))

first-no-zval : (p : Plan) (s : Totals) (k : ℕ) → NoneCountsAs (numbered_name (codes "ZVAL") k) (first_part p s)
unfolding int_card_bytes logical_card_bytes text_card_bytes numbered_name digits
first-no-zval p s k = (refl, (refl, (refl, (refl, (refl, (refl, (refl, (refl, (refl, (refl, (refl, (refl, (refl, (refl, tt))))))))))))))

step : (seen : List (List ℕ)) (card : List ℕ) (cards : List (List ℕ)) (name : List ℕ) → counted_name (card_name card) ≡ name → NoneCountsAs name seen → OnceAfter (seen ++ card ∷ []) cards → OnceAfter seen (card ∷ cards)
step seen card cards name e none rest = (none-counts seen card (counts-none card name seen e none), rest)

more : (seen : List (List ℕ)) (card name : List ℕ) → NoneCountsAs name seen → bytes_eq (counted_name (card_name card)) name ≡ false → NoneCountsAs name (seen ++ card ∷ [])
more seen card name none other = all-append (λ c. bytes_eq (counted_name (card_name c)) name ≡ false) seen (card ∷ []) none (other, tt)

module _ (front : List (List ℕ)) (block bytepix : ℕ) where
  abbrev k1 : List ℕ
  k1 = numbered_word_card (codes "ZNAME") 1 (codes "BLOCKSIZE")

  abbrev k2 : List ℕ
  k2 = numbered_number_card (codes "ZVAL") 1 block

  abbrev k3 : List ℕ
  k3 = numbered_word_card (codes "ZNAME") 2 (codes "BYTEPIX")

  abbrev k4 : List ℕ
  k4 = numbered_number_card (codes "ZVAL") 2 bytepix

  rice-once : NoneCountsAs (numbered_name (codes "ZNAME") 1) front → NoneCountsAs (numbered_name (codes "ZVAL") 1) front → NoneCountsAs (numbered_name (codes "ZNAME") 2) front → NoneCountsAs (numbered_name (codes "ZVAL") 2) front →
      OnceAfter front (parameter_cards (Rice block bytepix))
  unfolding int_card_bytes text_card_bytes numbered_name digits
  rice-once n1 v1 n2 v2 =
      step front k1 (k2 ∷ k3 ∷ k4 ∷ []) (numbered_name (codes "ZNAME") 1) refl n1
      (step (front ++ k1 ∷ []) k2 (k3 ∷ k4 ∷ []) (numbered_name (codes "ZVAL") 1) refl (more front k1 (numbered_name (codes "ZVAL") 1) v1 refl)
      (step ((front ++ k1 ∷ []) ++ k2 ∷ []) k3 (k4 ∷ []) (numbered_name (codes "ZNAME") 2) refl
      (more (front ++ k1 ∷ []) k2 (numbered_name (codes "ZNAME") 2) (more front k1 (numbered_name (codes "ZNAME") 2) n2 refl) refl)
      (step (((front ++ k1 ∷ []) ++ k2 ∷ []) ++ k3 ∷ []) k4 [] (numbered_name (codes "ZVAL") 2) refl
      (more ((front ++ k1 ∷ []) ++ k2 ∷ []) k3 (numbered_name (codes "ZVAL") 2) (more (front ++ k1 ∷ []) k2 (numbered_name (codes "ZVAL") 2) (more front k1 (numbered_name (codes "ZVAL") 2) v2 refl) refl) refl) tt)))

-- by the laws of cards
module _ (laws : CardLaws) where
  tile-counted : (p : Plan) (i : ℕ) → i < 10 → counted_name (card_name (tile_card p i)) ≡ numbered_name (codes "ZTILE") i
  tile-counted p i few = ap counted_name (tile-name laws p i few) ∙ itself-counted i

  tiles-apart : (p : Plan) (k : ℕ) → k < 10 → (m : ℕ) → m < k → NoneCountsAs (numbered_name (codes "ZTILE") k) (map (tile_card p) (range_with_len 1 m))
  tiles-apart p k few m less =
      all-mapped (λ c. bytes_eq (counted_name (card_name c)) (numbered_name (codes "ZTILE") k) ≡ false) (tile_card p) 1 m (λ i low high.
      false_of (bytes_eq (counted_name (card_name (tile_card p i))) (numbered_name (codes "ZTILE") k)) (λ t.
      let same : i ≡ k = numbers-apart laws (codes "ZTILE") i k low (omega arith) (omega arith) (omega arith) (sym (tile-counted p i (omega arith)) ∙ (bytes_eq-Decides (counted_name (card_name (tile_card p i))) (numbered_name (codes "ZTILE") k)).0 t) in
      absurd (omega arith)))

  tiles-once : (p : Plan) (s : Totals) (m k : ℕ) → m + k ≤ 9 → OnceAfter (first_part p s ++ map (tile_card p) (range_with_len 1 m)) (map (tile_card p) (range_with_len (1 + m) k))
  tiles-once p s m zero few = tt
  tiles-once p s m (suc k) few =
      let here : 1 + m < 10 = omega arith in
      let name = numbered_name (codes "ZTILE") (1 + m) in
      let on : 1 + m + 1 ≡ 1 + (m + 1) = omega arith in
      let seen : (first_part p s ++ map (tile_card p) (range_with_len 1 m)) ++ (tile_card p (1 + m) ∷ []) ≡ first_part p s ++ map (tile_card p) (range_with_len 1 (m + 1)) =
      append_assoc (first_part p s) (map (tile_card p) (range_with_len 1 m)) (tile_card p (1 + m) ∷ []) ∙ ap (λ l. first_part p s ++ l) (sym (map-range_with_len_more (tile_card p) 1 m (1 + m) refl)) in (
        none-counts (first_part p s ++ map (tile_card p) (range_with_len 1 m)) (tile_card p (1 + m))
            (counts-none (tile_card p (1 + m)) name (first_part p s ++ map (tile_card p) (range_with_len 1 m)) (tile-counted p (1 + m) here)
            (all-append (λ c. bytes_eq (counted_name (card_name c)) name ≡ false) (first_part p s) (map (tile_card p) (range_with_len 1 m)) (first-no-tile-name p s (1 + m)) (tiles-apart p (1 + m) here m (omega arith)))),
        subst (λ l. OnceAfter l (map (tile_card p) (range_with_len (1 + m + 1) k))) (sym seen)
            (subst (λ a. OnceAfter (first_part p s ++ map (tile_card p) (range_with_len 1 (m + 1))) (map (tile_card p) (range_with_len a k))) (sym on) (tiles-once p s (m + 1) k (omega arith))),
      )

  -- the parameters
  tiles-no-name : (p : Plan) (name : List ℕ) → p.shape.n ≤ 9 → ((i : ℕ) → bytes_eq (numbered_name (codes "ZTILE") i) name ≡ false) → NoneCountsAs name (tiles p)
  tiles-no-name p name few other = all-mapped (λ c. bytes_eq (counted_name (card_name c)) name ≡ false) (tile_card p) 1 p.shape.n (λ i low high. ap (λ n. bytes_eq n name) (tile-counted p i (omega arith)) ∙ other i)

  parameters-once : (p : Plan) (s : Totals) (c : Codec) → p.shape.n ≤ 9 → OnceAfter (first_part p s ++ tiles p) (parameter_cards c)
  parameters-once p s Plio few = tt
  parameters-once p s Plain few = tt
  parameters-once p s (Rice block bytepix) few =
      rice-once (first_part p s ++ tiles p) block bytepix
      (none (numbered_name (codes "ZNAME") 1) (first-no-zname p s 1) (tiles-no-name p (numbered_name (codes "ZNAME") 1) few (zname-no-tile 1)))
      (none (numbered_name (codes "ZVAL") 1) (first-no-zval p s 1) (tiles-no-name p (numbered_name (codes "ZVAL") 1) few (zval-no-tile 1)))
      (none (numbered_name (codes "ZNAME") 2) (first-no-zname p s 2) (tiles-no-name p (numbered_name (codes "ZNAME") 2) few (zname-no-tile 2)))
      (none (numbered_name (codes "ZVAL") 2) (first-no-zval p s 2) (tiles-no-name p (numbered_name (codes "ZVAL") 2) few (zval-no-tile 2)))
    where
      none : (name : List ℕ) → NoneCountsAs name (first_part p s) → NoneCountsAs name (tiles p) → NoneCountsAs name (first_part p s ++ tiles p)
      none name a b = all-append (λ c. bytes_eq (counted_name (card_name c)) name ≡ false) (first_part p s) (tiles p) a b

  pub made-once : (p : Plan) (s : Totals) → p.shape.n ≤ 9 → OnceAfter [] (made_cards p s)
  made-once p s few =
      once-append [] (first_part p s) (tiles p ++ parameter_cards p.codec) (first-once p s)
      (once-append (first_part p s) (tiles p) (parameter_cards p.codec)
      (subst (λ l. OnceAfter l (tiles p)) (append-nil (first_part p s)) (tiles-once p s 0 p.shape.n (omega (arith, few))))
      (parameters-once p s p.codec few))
