-- What is asked of a meter for slots.
use Rattle.std.proofs.Common.{◌≡◌, ℕ, zero, suc, ◌+◌, ◌*◌, ◌<◌, ◌≤◌, max, ℤ, pos, List, map, length, replicate, Result, Ok, Err, IfErr, inl, inr, ⊎_elim, refl, ap, ◌∙◌, subst, arith}
use Rattle.std.proofs.lemmas.List.{length-replicate}
use Rattle.std.proofs.lemmas.List.Sums.{sum_by-cons}
use Rattle.fz_base.specs.Meter.{Gauge, taken, handed_back, IsOverLimit, RefusedFor}
use Rattle.fz_base.specs.declared.failure.Short.{Short}
use Rattle.fz_base.specs.declared.failure.Short.TheVariants.{NoMemory, OverLimit}
use Rattle.fz_pool.specs.declared.slot.Slot.{Slot}
use Rattle.fz_pool.specs.Window.{fresh_slot, fresh_bytes, slot_bytes, slot_size, slot_sizes, asked_for, tried, SlotRefused, FillRefused}

pub same_gauge : (g h : Gauge) → g.live ≡ h.live → g.peak ≡ h.peak → g.limit ≡ h.limit → g ≡ h
same_gauge g h a b c = λ i. record { live = a i; peak = b i; limit = c i }

-- refused at the numbers
pub refused_first : (g g' : Gauge) (n : ℕ) (short : Short) → g.live ≤ g.peak → g.live ≤ g.limit → RefusedFor g (4 * (2 * n)) short → g' ≡ g → (r : SlotRefused g n short) × (g' ≡ tried g r.spent)
refused_first g g' n NoMemory peak limit refused same = (
  record { spent = 0; asked = 8 * n; taking = inl (refl, refl); within = omega arith; refused = omega arith },
  same ∙ same_gauge g (tried g 0) refl (omega arith) refl,
)
refused_first g g' n (OverLimit live asked limit') peak limit refused same = (
  record { spent = 0; asked = 8 * n; taking = inl (refl, refl); within = omega arith; refused = (omega arith, omega arith, omega arith, refused.3) },
  same ∙ same_gauge g (tried g 0) refl (omega arith) refl,
)

-- refused at the bytes of the code, after the numbers were taken and handed back
pub refused_then : (g g1 g2 g' : Gauge) (n m : ℕ) (short : Short) → g1 ≡ taken g (4 * (2 * n)) → g.live + 4 * (2 * n) ≤ g.limit → RefusedFor g1 (8 * n + 64) short → g2 ≡ g1 → m ≡ 2 * n
    → g' ≡ handed_back g2 (4 * m) → (r : SlotRefused g n short) × (g' ≡ tried g r.spent)
refused_then g g1 g2 g' n m NoMemory first within refused same len back = (
  record {
    spent = 8 * n;
    asked = 8 * n + 64;
    taking = inr (refl, refl);
    within = omega arith;
    refused = let e : g.live + 4 * (2 * n) + (8 * n + 64) ≤ g.limit = subst (λ (h : Gauge). RefusedFor h (8 * n + 64) NoMemory) first refused in omega arith;
  },
  back ∙ (ap (λ (h : Gauge). handed_back h (4 * m)) (same ∙ first) ∙ same_gauge (handed_back (taken g (4 * (2 * n))) (4 * m)) (tried g (8 * n)) (omega arith) (ap (λ (k : ℕ). max g.peak (g.live + k)) (omega arith)) refl),
)
refused_then g g1 g2 g' n m (OverLimit live asked limit') first within refused same len back = (
  record {
    spent = 8 * n;
    asked = 8 * n + 64;
    taking = inr (refl, refl);
    within = omega arith;
    refused = let e : IsOverLimit (taken g (4 * (2 * n))) (8 * n + 64) (OverLimit live asked limit') = subst (λ (h : Gauge). IsOverLimit h (8 * n + 64) (OverLimit live asked limit')) first refused in (omega arith, omega arith, e.2, e.3);
  },
  back ∙ (ap (λ (h : Gauge). handed_back h (4 * m)) (same ∙ first) ∙ same_gauge (handed_back (taken g (4 * (2 * n))) (4 * m)) (tried g (8 * n)) (omega arith) (ap (λ (k : ℕ). max g.peak (g.live + k)) (omega arith)) refl),
)

fresh_size : (n : ℕ) → slot_bytes (slot_size (fresh_slot n)) ≡ fresh_bytes n
fresh_size n = let zero_byte : ℕ = 0 in let numbers : List ℤ = replicate (2 * n) (pos 0) in let code : List ℕ = replicate (8 * n + 64) zero_byte in
    let a : length numbers ≡ 2 * n = length-replicate (2 * n) (pos 0) in let b : length code ≡ 8 * n + 64 = length-replicate (8 * n + 64) zero_byte in omega arith

-- what is asked for slots for tiles of n pixels
pub asked_fresh : (n i : ℕ) → asked_for (replicate i (fresh_slot n)) ≡ i * fresh_bytes n
asked_fresh n zero = omega arith
asked_fresh n (suc i) = let more = asked_fresh n i in
    sum_by-cons (λ (x : ℕ). x) (slot_bytes (slot_size (fresh_slot n))) (map slot_bytes (slot_sizes (replicate i (fresh_slot n)))) ∙ (ap (λ (k : ℕ). k + asked_for (replicate i (fresh_slot n))) (fresh_size n) ∙ omega arith)

refused_behind : (g h : Gauge) (spent before asked : ℕ) (short : Short) → h.live ≡ g.live + before → h.limit ≡ g.limit → RefusedFor (taken h spent) asked short → RefusedFor (taken g (before + spent)) asked short
refused_behind g h spent before asked NoMemory live limit r = omega arith
refused_behind g h spent before asked (OverLimit live' asked' limit') live limit r = (omega arith, omega arith, r.2, omega arith)

-- refused at the slot i
pub refused_in : (g h h' : Gauge) (count n i : ℕ) (short : Short) (slots : List Slot) → i < count → h.live ≡ g.live + i * fresh_bytes n → h.peak ≡ max g.peak h.live → h.limit ≡ g.limit
    → slots ≡ replicate i (fresh_slot n) → (r : SlotRefused h n short) × (h' ≡ tried h r.spent)
    → (r : FillRefused g count n short) × (h'.live ≡ g.live + asked_for slots) × (h'.peak ≡ max g.peak (g.live + r.spent)) × (h'.limit ≡ g.limit)
refused_in g h h' count n i short slots near live peak limit are (r, back) =
    let before : ℕ = i * fresh_bytes n in let b : h.live ≡ g.live + before = live in
    let within = r.within in
    let all : asked_for slots ≡ before = ap asked_for are ∙ asked_fresh n i in
    let live' : h'.live ≡ h.live = ap (λ (z : Gauge). z.live) back in
    let peak' : h'.peak ≡ max h.peak (h.live + r.spent) = ap (λ (z : Gauge). z.peak) back in
    let limit' : h'.limit ≡ h.limit = ap (λ (z : Gauge). z.limit) back in (
      record {
        slot = i;
        near = near;
        spent = before + r.spent;
        asked = r.asked;
        taking = ⊎_elim
            (λ (p : (r.spent ≡ 0) × (r.asked ≡ 8 * n)). let z = p.0 in inl (omega arith, p.1))
            (λ (p : (r.spent ≡ 8 * n) × (r.asked ≡ 8 * n + 64)). inr (ap (λ (k : ℕ). before + k) p.0, p.1))
            r.taking;
        within = omega arith;
        refused = refused_behind g h r.spent before r.asked short b limit r.refused;
      },
      omega arith,
      omega arith,
      limit' ∙ limit,
    )

-- after the slots were handed back
pub refused_back : {A : Type 0} (g h h' : Gauge) (count count' n : ℕ) (slots : List Slot) (r : Result A Short) → count' ≡ count
    → IfErr r (λ short. (x : FillRefused g count' n short) × (h.live ≡ g.live + asked_for slots) × (h.peak ≡ max g.peak (g.live + x.spent)) × (h.limit ≡ g.limit))
    → h' ≡ handed_back h (asked_for slots) → IfErr r (λ short. (x : FillRefused g count n short) × (h' ≡ tried g x.spent))
refused_back g h h' count count' n slots (Ok a) same e back = tt
refused_back g h h' count count' n slots (Err short) same (x, live, peak, limit) back =
    let all : ℕ = asked_for slots in let l : h.live ≡ g.live + all = live in
    (record { slot = x.slot; near = let near = x.near in omega arith; spent = x.spent; asked = x.asked; taking = x.taking; within = x.within; refused = x.refused }, back ∙ same_gauge (handed_back h all) (tried g x.spent) (omega arith) peak limit)
