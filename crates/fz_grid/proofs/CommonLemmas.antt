-- The box that two boxes have in common has the pixels that both have.
use Rattle.std.proofs.Common.{◌≡◌, ◌↔◌, ℕ, suc, zero, ◌+◌, ◌-◌, ◌<◌, max, min, true, IsTrue, List, [], ◌∷◌, length, get_or, refl, ap, sym, ◌∙◌, arith}
use Rattle.std.proofs.lemmas.Bool.{false≢true}
use Rattle.fz_grid.specs.Overlap.{IsInBox, common_corner, common_lengths, has_pixel}
use Rattle.fz_grid.proofs.OverlapLemmas.{some_pixel}

corner_length : (ps qs : List ℕ) → length qs ≡ length ps → length (common_corner ps qs) ≡ length ps
corner_length [] qs same = refl
corner_length (p ∷ ps) [] same = absurd (omega arith)
corner_length (p ∷ ps) (q ∷ qs) same = ap suc (corner_length ps qs (omega arith))

lengths_length : (ps ms qs ks : List ℕ) → length ms ≡ length ps → length qs ≡ length ps → length ks ≡ length ps → length (common_lengths ps ms qs ks) ≡ length ps
lengths_length [] ms qs ks at_ms at_qs at_ks = refl
lengths_length (p ∷ ps) [] qs ks at_ms at_qs at_ks = absurd (omega arith)
lengths_length (p ∷ ps) (m ∷ ms) [] ks at_ms at_qs at_ks = absurd (omega arith)
lengths_length (p ∷ ps) (m ∷ ms) (q ∷ qs) [] at_ms at_qs at_ks = absurd (omega arith)
lengths_length (p ∷ ps) (m ∷ ms) (q ∷ qs) (k ∷ ks) at_ms at_qs at_ks = ap suc (lengths_length ps ms qs ks (omega arith) (omega arith) (omega arith))

corner_at : (ps qs : List ℕ) (i : ℕ) → length qs ≡ length ps → i < length ps → get_or (common_corner ps qs) i 0 ≡ max (get_or ps i 0) (get_or qs i 0)
corner_at [] qs i same h = absurd (omega arith)
corner_at (p ∷ ps) [] i same h = absurd (omega arith)
corner_at (p ∷ ps) (q ∷ qs) zero same h = refl
corner_at (p ∷ ps) (q ∷ qs) (suc i) same h = corner_at ps qs i (omega arith) (omega arith)

lengths_at : (ps ms qs ks : List ℕ) (i : ℕ) → length ms ≡ length ps → length qs ≡ length ps → length ks ≡ length ps → i < length ps → get_or (common_lengths ps ms qs ks) i 0 ≡ min (get_or ps i 0 + get_or ms i 0) (get_or qs i 0 + get_or ks i 0) - max (get_or ps i 0) (get_or qs i 0)
lengths_at [] ms qs ks i at_ms at_qs at_ks h = absurd (omega arith)
lengths_at (p ∷ ps) [] qs ks i at_ms at_qs at_ks h = absurd (omega arith)
lengths_at (p ∷ ps) (m ∷ ms) [] ks i at_ms at_qs at_ks h = absurd (omega arith)
lengths_at (p ∷ ps) (m ∷ ms) (q ∷ qs) [] i at_ms at_qs at_ks h = absurd (omega arith)
lengths_at (p ∷ ps) (m ∷ ms) (q ∷ qs) (k ∷ ks) zero at_ms at_qs at_ks h = refl
lengths_at (p ∷ ps) (m ∷ ms) (q ∷ qs) (k ∷ ks) (suc i) at_ms at_qs at_ks h = lengths_at ps ms qs ks i (omega arith) (omega arith) (omega arith) (omega arith)

in_both : (ps ms qs ks cs : List ℕ) → length ms ≡ length ps → length qs ≡ length ps → length ks ≡ length ps → IsInBox (common_corner ps qs) (common_lengths ps ms qs ks) cs → IsInBox ps ms cs × IsInBox qs ks cs
in_both ps ms qs ks cs at_ms at_qs at_ks inside =
    let long = corner_length ps qs at_qs in (
      record {
        axes = inside.axes ∙ long;
        from = λ i h. omega (arith, corner_at ps qs i at_qs h, inside.from i (omega arith));
        before = λ i h. omega (arith, corner_at ps qs i at_qs h, lengths_at ps ms qs ks i at_ms at_qs at_ks h, inside.from i (omega arith), inside.before i (omega arith));
      },
      record {
        axes = inside.axes ∙ (long ∙ sym at_qs);
        from = λ i h. omega (arith, corner_at ps qs i at_qs (omega arith), inside.from i (omega arith));
        before = λ i h. omega (arith, corner_at ps qs i at_qs (omega arith), lengths_at ps ms qs ks i at_ms at_qs at_ks (omega arith), inside.from i (omega arith), inside.before i (omega arith));
      },
    )

in_common : (ps ms qs ks cs : List ℕ) → length ms ≡ length ps → length qs ≡ length ps → length ks ≡ length ps → IsInBox ps ms cs → IsInBox qs ks cs → IsInBox (common_corner ps qs) (common_lengths ps ms qs ks) cs
in_common ps ms qs ks cs at_ms at_qs at_ks one two =
    let long = corner_length ps qs at_qs in
    record {
      axes = one.axes ∙ sym long;
      from = λ i h. omega (arith, corner_at ps qs i at_qs (omega arith), one.from i (omega arith), two.from i (omega arith));
      before = λ i h. omega (arith, corner_at ps qs i at_qs (omega arith), lengths_at ps ms qs ks i at_ms at_qs at_ks (omega arith), one.from i (omega arith), two.from i (omega arith), one.before i (omega arith), two.before i (omega arith));
    }

all_some : (ns : List ℕ) → ((i : ℕ) → i < length ns → 0 < get_or ns i 0) → has_pixel ns ≡ true
all_some [] some = refl
all_some (n ∷ ns) some = some_pixel n ns (some zero (omega arith)) ∙ all_some ns (λ i h. some (suc i) (omega arith))

pub each_some : (ns : List ℕ) → has_pixel ns ≡ true → (i : ℕ) → i < length ns → 0 < get_or ns i 0
each_some [] has i h = absurd (omega arith)
each_some (zero ∷ ns) has i h = absurd (false≢true has)
each_some (suc n ∷ ns) has zero h = omega arith
each_some (suc n ∷ ns) has (suc i) h =
    let some : 0 < suc n = omega arith in
    each_some ns (sym (some_pixel (suc n) ns some) ∙ has) i (omega arith)

pub common_pixels : (ps ms qs ks cs : List ℕ) → length ms ≡ length ps → length qs ≡ length ps → length ks ≡ length ps → IsInBox (common_corner ps qs) (common_lengths ps ms qs ks) cs ↔ (IsInBox ps ms cs × IsInBox qs ks cs)
common_pixels ps ms qs ks cs at_ms at_qs at_ks =
    (in_both ps ms qs ks cs at_ms at_qs at_ks, λ both. in_common ps ms qs ks cs at_ms at_qs at_ks both.0 both.1)

pub common_some : (ps ms qs ks : List ℕ) → length ms ≡ length ps → length qs ≡ length ps → length ks ≡ length ps → IsTrue (has_pixel (common_lengths ps ms qs ks)) ↔ ((cs : List ℕ) × IsInBox ps ms cs × IsInBox qs ks cs)
common_some ps ms qs ks at_ms at_qs at_ks = (there, back)
  where
    long : length (common_lengths ps ms qs ks) ≡ length ps
    long = lengths_length ps ms qs ks at_ms at_qs at_ks

    there : IsTrue (has_pixel (common_lengths ps ms qs ks)) → (cs : List ℕ) × IsInBox ps ms cs × IsInBox qs ks cs
    there has =
        let cs = common_corner ps qs in
        let corner_long = corner_length ps qs at_qs in
        let inside : IsInBox cs (common_lengths ps ms qs ks) cs = record {
          axes = refl;
          from = λ i h. omega arith;
          before = λ i h. omega (arith, each_some (common_lengths ps ms qs ks) has i (omega (arith, long, corner_long)));
        } in
        let both = in_both ps ms qs ks cs at_ms at_qs at_ks inside in
        (cs, both.0, both.1)

    back : ((cs : List ℕ) × IsInBox ps ms cs × IsInBox qs ks cs) → IsTrue (has_pixel (common_lengths ps ms qs ks))
    back found =
        let inside = in_common ps ms qs ks found.0 at_ms at_qs at_ks found.1 found.2 in
        let corner_long = corner_length ps qs at_qs in
        all_some (common_lengths ps ms qs ks) (λ i h. omega (arith, long, corner_long, inside.from i (omega (arith, long, corner_long)), inside.before i (omega (arith, long, corner_long))))
