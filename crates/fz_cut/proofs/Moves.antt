-- The cards of a header, moved one after another (FITS 4.0, sections 3.3.1 and 8.1).
use Rattle.std.proofs.Common.{◌≡◌, ℕ, zero, suc, ◌+◌, ◌-◌, ◌*◌, ◌/◌, ◌≤◌, false, List, [], ◌∷◌, ◌++◌, length, map, take, drop, codes, All, Option, None, refl, sym, ap, ◌∙◌, arith}
use Rattle.std.specs.List.{flat_map}
use Rattle.std.specs.Str.{bytes_eq}
use Rattle.std.proofs.lemmas.List.{append-nil, append_assoc, drop-drop, drop_all, drop_at, length-append, length-map, length-replicate, replicate-append-replicate, take_at}
use Rattle.fz_card.specs.Layout.{blanks, card_name}
use Rattle.fz_card.specs.Naming.{number_behind, up_to}
use Rattle.fz_block.specs.Cards.{card_at}
use Rattle.fz_block.specs.Hdus.{IsCardBeforeEnd, header_bytes}
use Rattle.fz_block.specs.Header.{whole_blocks_of}
use Rattle.fz_grid.specs.declared.sieve.Sieve.{Sieve}
use Rattle.fz_files.specs.CutoutBytes.{card_less, moved_card, shift_if}
use Rattle.fz_cut.specs.Moved.{AreCards}

-- the first cards of a header, each moved
abbrev pub moved_front : (List ℕ → List ℕ) → ℕ → List ℕ → List ℕ
moved_front f zero h = []
moved_front f (suc i) h = moved_front f i h ++ f (card_at h i)

-- the bytes of cards, one after another
abbrev pub in_one : List (List ℕ) → List ℕ
in_one cards = flat_map (λ c. c) cards

pub cards_are : (cards : List (List ℕ)) → All IsCardBeforeEnd cards → AreCards cards
cards_are [] all = tt
cards_are (c ∷ cs) all = ((all 0 [] (omega arith)).long, cards_are cs (λ k d near. all (suc k) d (omega (arith, near))))

long_cards : (cards : List (List ℕ)) → AreCards cards → length (in_one cards) ≡ 80 * length cards
long_cards [] are = omega arith
long_cards (c ∷ cs) are = omega (arith, length-append c (in_one cs), are.0, long_cards cs are.1)

module _ (f : List ℕ → List ℕ) where
  -- one card more
  pub step_moved : (i : ℕ) (h now new : List ℕ) → now ≡ moved_front f i h ++ drop (80 * i) h → length (moved_front f i h) ≡ 80 * i →
      new ≡ take (80 * i) now ++ (f (card_at now i) ++ drop (80 * (i + 1)) now) → new ≡ moved_front f (i + 1) h ++ drop (80 * (i + 1)) h
  step_moved i h now new was long is =
      let front : List ℕ = moved_front f i h in
      let back : List ℕ = drop (80 * i) h in
      let next : suc i ≡ i + 1 = omega arith in
      let place : 80 * (i + 1) ≡ 80 * i + 80 = omega arith in
      let one : take (80 * i) now ≡ front = ap (take (80 * i)) was ∙ take_at front back (80 * i) long in
      let two : drop (80 * i) now ≡ back = ap (drop (80 * i)) was ∙ drop_at front back (80 * i) long in
      let here : card_at now i ≡ card_at h i = ap (take 80) two in
      let later : drop (80 * (i + 1)) now ≡ drop (80 * (i + 1)) h =
      ap (λ n. drop n now) place ∙ sym (drop-drop 80 (80 * i) now) ∙ ap (drop 80) two ∙ drop-drop 80 (80 * i) h ∙ ap (λ n. drop n h) (sym place) in
      is ∙ (λ j. one j ++ (f (here j) ++ later j)) ∙ sym (append_assoc front (f (card_at h i)) (drop (80 * (i + 1)) h))
      ∙ ap (λ n. moved_front f n h ++ drop (80 * (i + 1)) h) next

  pub step_long : (i : ℕ) (h now : List ℕ) → now ≡ moved_front f i h ++ drop (80 * i) h → length (moved_front f i h) ≡ 80 * i → length (f (card_at now i)) ≡ 80 →
      length (moved_front f (i + 1) h) ≡ 80 * (i + 1)
  step_long i h now was long whole =
      let next : i + 1 ≡ suc i = omega arith in
      let here : card_at now i ≡ card_at h i = ap (λ l. take 80 (drop (80 * i) l)) was ∙ ap (take 80) (drop_at (moved_front f i h) (drop (80 * i) h) (80 * i) long) in
      omega (arith, ap (λ n. length (moved_front f n h)) next, length-append (moved_front f i h) (f (card_at h i)), long, whole, ap (λ c. length (f c)) here)

  -- the first card, and then the others
  front_first : (i : ℕ) (h : List ℕ) → moved_front f (suc i) h ≡ f (take 80 h) ++ moved_front f i (drop 80 h)
  front_first zero h =
      let none : 80 * 0 ≡ 0 = omega arith in
      ap (λ n. f (take 80 (drop n h))) none ∙ sym (append-nil (f (take 80 h)))
  front_first (suc i) h =
      let first : List ℕ = f (take 80 h) in
      let rest : List ℕ = moved_front f i (drop 80 h) in
      let place : 80 * suc i ≡ 80 + 80 * i = omega arith in
      let here : card_at h (suc i) ≡ card_at (drop 80 h) i = ap (take 80) (ap (λ n. drop n h) place ∙ sym (drop-drop (80 * i) 80 h)) in
      ap (λ l. l ++ f (card_at h (suc i))) (front_first i h) ∙ append_assoc first rest (f (card_at h (suc i))) ∙ ap (λ c. first ++ (rest ++ f c)) here

  -- cards, and what is after them
  over_cards : (cards : List (List ℕ)) (m : ℕ) (rest : List ℕ) → AreCards cards → moved_front f (length cards + m) (in_one cards ++ rest) ≡ in_one (map f cards) ++ moved_front f m rest
  over_cards [] m rest are =
      let none : 0 + m ≡ m = omega arith in
      ap (λ n. moved_front f n rest) none
  over_cards (c ∷ cs) m rest are =
      let others : List ℕ = in_one cs ++ rest in
      let count : length (c ∷ cs) + m ≡ suc (length cs + m) = omega arith in
      let parts : in_one (c ∷ cs) ++ rest ≡ c ++ others = append_assoc c (in_one cs) rest in
      let one : take 80 (c ++ others) ≡ c = take_at c others 80 are.0 in
      let two : drop 80 (c ++ others) ≡ others = drop_at c others 80 are.0 in
      ap (λ n. moved_front f n (in_one (c ∷ cs) ++ rest)) count ∙ ap (moved_front f (suc (length cs + m))) parts ∙ front_first (length cs + m) (c ++ others)
      ∙ (λ j. f (one j) ++ moved_front f (length cs + m) (two j))
      ∙ ap (λ l. f c ++ l) (over_cards cs m rest are.1)
      ∙ sym (append_assoc (f c) (in_one (map f cs)) (moved_front f m rest))

  -- blank cards that stay
  over_blanks : f (blanks 80) ≡ blanks 80 → (m : ℕ) → moved_front f m (blanks (80 * m)) ≡ blanks (80 * m)
  over_blanks stays zero =
      let none : 0 ≡ 80 * 0 = omega arith in
      ap blanks none
  over_blanks stays (suc m) =
      let size : 80 * suc m ≡ 80 + 80 * m = omega arith in
      let parts : blanks (80 * suc m) ≡ blanks 80 ++ blanks (80 * m) = ap blanks size ∙ sym (replicate-append-replicate 80 (80 * m) 32) in
      let long : length (blanks 80) ≡ 80 = length-replicate {A = ℕ} 80 32 in
      ap (moved_front f (suc m)) parts ∙ front_first m (blanks 80 ++ blanks (80 * m))
      ∙ (λ j. f (take_at (blanks 80) (blanks (80 * m)) 80 long j) ++ moved_front f m (drop_at (blanks 80) (blanks (80 * m)) 80 long j))
      ∙ (λ j. stays j ++ over_blanks stays m j) ∙ sym parts

  -- END and the fill stay
  over_end : f (blanks 80) ≡ blanks 80 → f (codes "END" ++ blanks 77) ≡ codes "END" ++ blanks 77 → (m : ℕ) →
      moved_front f (suc m) (codes "END" ++ blanks (77 + 80 * m)) ≡ codes "END" ++ blanks (77 + 80 * m)
  over_end stays end m =
      let e : List ℕ = codes "END" ++ blanks 77 in
      let parts : codes "END" ++ blanks (77 + 80 * m) ≡ e ++ blanks (80 * m) =
      ap (λ l. codes "END" ++ l) (sym (replicate-append-replicate 77 (80 * m) 32)) ∙ sym (append_assoc (codes "END") (blanks 77) (blanks (80 * m))) in
      let long : length e ≡ 80 = length-append (codes "END") (blanks 77) ∙ ap (λ n. 3 + n) (length-replicate {A = ℕ} 77 32) in
      ap (moved_front f (suc m)) parts ∙ front_first m (e ++ blanks (80 * m))
      ∙ (λ j. f (take_at e (blanks (80 * m)) 80 long j) ++ moved_front f m (drop_at e (blanks (80 * m)) 80 long j))
      ∙ (λ j. end j ++ over_blanks stays m j) ∙ sym parts

  -- the whole header
  pub header_moved : f (blanks 80) ≡ blanks 80 → f (codes "END" ++ blanks 77) ≡ codes "END" ++ blanks 77 → (cards : List (List ℕ)) (h new : List ℕ) → AreCards cards → h ≡ header_bytes cards →
      new ≡ moved_front f (length h / 80) h ++ drop (80 * (length h / 80)) h → length new ≡ length h → new ≡ header_bytes (map f cards)
  header_moved stays end cards h new are was is long =
      let L : ℕ = length cards in
      let q : ℕ = (80 * (L + 1) + 2879) / 2880 in
      let m : ℕ = 36 * q - (L + 1) in
      let e : List ℕ = codes "END" in
      let tail : List ℕ = e ++ blanks (77 + 80 * m) in
      let front : List ℕ = in_one cards in
      let made : List ℕ = in_one (map f cards) in
      let three : length e ≡ 3 = refl in
      let size : length front ≡ 80 * L = long_cards cards are in
      let text : length (front ++ e) ≡ 80 * L + 3 = omega (arith, length-append front e, size, three) in
      let enough : 80 * (L + 1) ≤ q * 2880 = omega arith in
      let fill : q * 2880 - length (front ++ e) ≡ 77 + 80 * m = omega (arith, text, enough) in
      let parts : h ≡ front ++ tail = was ∙ ap (λ n. (front ++ e) ++ blanks n) fill ∙ append_assoc front e (blanks (77 + 80 * m)) in
      let end_long : length tail ≡ 80 + 80 * m = omega (arith, length-append e (blanks (77 + 80 * m)), three, length-replicate {A = ℕ} (77 + 80 * m) 32) in
      let whole : length h ≡ 80 * (L + suc m) = omega (arith, ap length parts, length-append front tail, size, end_long) in
      let count : length h / 80 ≡ L + suc m = omega (arith, whole) in
      let none : drop (80 * (length h / 80)) h ≡ [] = drop_all (80 * (length h / 80)) h (omega (arith, whole)) in
      let moved : new ≡ made ++ tail =
      is ∙ ap (λ l. moved_front f (length h / 80) h ++ l) none ∙ append-nil (moved_front f (length h / 80) h)
      ∙ ap (λ n. moved_front f n h) count ∙ ap (moved_front f (L + suc m)) parts ∙ over_cards cards (suc m) tail are
      ∙ ap (λ l. made ++ l) (over_end stays end m) in
      let same : length made ≡ 80 * L = omega (arith, ap length moved, length-append made tail, end_long, whole, long) in
      let made_text : length (made ++ e) ≡ 80 * L + 3 = omega (arith, length-append made e, same, three) in
      let made_fill : whole_blocks_of (80 * (length (map f cards) + 1)) - length (made ++ e) ≡ 77 + 80 * m =
      ap (λ n. whole_blocks_of (80 * (n + 1)) - length (made ++ e)) (length-map cards f) ∙ omega (arith, made_text, enough) in
      moved ∙ sym (ap (λ n. (made ++ e) ++ blanks n) made_fill ∙ append_assoc made e (blanks (77 + 80 * m)))

-- a card whose name has another stem stays
pub other_stays : ((stem name : List ℕ) → bytes_eq (take (length stem) name) stem ≡ false → None ≡ number_behind stem name) → (sieve : Sieve) (card : List ℕ) →
    bytes_eq (take (length (codes "CRPIX")) (card_name card)) (codes "CRPIX") ≡ false → moved_card sieve card ≡ card
other_stays other sieve card apart = ap (λ (o : Option ℕ). card_less card (shift_if sieve (up_to sieve.n o))) (sym (other (codes "CRPIX") (card_name card) apart))
