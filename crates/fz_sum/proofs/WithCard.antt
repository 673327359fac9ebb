-- Bytes with another card in place of one of theirs.
use Rattle.std.proofs.Common.{◌≡◌, ◌≢◌, ℕ, ◌+◌, ◌-◌, ◌*◌, ◌<◌, ◌≤◌, ◌⊎◌, inl, inr, List, ◌++◌, length, take, drop, sym, ap, ◌∙◌, arith}
use Rattle.std.proofs.lemmas.Bool.{cases_lt}
use Rattle.std.proofs.lemmas.List.{append_assoc, take_at, drop_at, take-append-drop, drop-drop, length-append, length-drop, length-take-le, take-append-le, drop-append-le}
use Rattle.fz_sum.specs.Cards.{with_card}

-- the front of a list does not depend on what is after it
same-front : (j : ℕ) (front a b : List ℕ) → 80 * (j + 1) ≤ length front → take 80 (drop (80 * j) (front ++ a)) ≡ take 80 (drop (80 * j) (front ++ b))
same-front j front a b within =
    let place : 80 * j ≤ length front = omega arith in
    let room : 80 ≤ length (drop (80 * j) front) = omega (arith, length-drop (80 * j) front) in
    let to_front = λ (rest : List ℕ). ap (take 80) (drop-append-le (80 * j) front rest place) ∙ take-append-le 80 (drop (80 * j) front) rest room in
    to_front a ∙ sym (to_front b)

front-long : (i : ℕ) (bytes : List ℕ) → 80 * (i + 1) ≤ length bytes → length (take (80 * i) bytes) ≡ 80 * i
front-long i bytes within = length-take-le (80 * i) bytes (omega arith)

pub stands-there : (i : ℕ) (card bytes : List ℕ) → length card ≡ 80 → 80 * (i + 1) ≤ length bytes → take 80 (drop (80 * i) (with_card i card bytes)) ≡ card
stands-there i card bytes long within =
    let rest = drop (80 * (i + 1)) bytes in
    ap (take 80) (drop_at (take (80 * i) bytes) (card ++ rest) (80 * i) (front-long i bytes within)) ∙ take_at card rest 80 long

-- the bytes after card i
behind-card : (i n : ℕ) (card bytes : List ℕ) → length card ≡ 80 → 80 * (i + 1) ≤ length bytes → 80 * (i + 1) ≤ n → drop n (with_card i card bytes) ≡ drop n bytes
behind-card i n card bytes long within far =
    let rest = drop (80 * (i + 1)) bytes in
    let front = take (80 * i) bytes ++ card in
    let size : length front ≡ 80 * (i + 1) = omega (arith, length-append (take (80 * i) bytes) card, front-long i bytes within) in
    let parts : with_card i card bytes ≡ front ++ rest = sym (append_assoc (take (80 * i) bytes) card rest) in
    let behind : drop (80 * (i + 1)) (with_card i card bytes) ≡ rest = ap (drop (80 * (i + 1))) parts ∙ drop_at front rest (80 * (i + 1)) size in
    let more : 80 * (i + 1) + (n - 80 * (i + 1)) ≡ n = omega arith in
    let cut = λ (l : List ℕ). drop-drop (n - 80 * (i + 1)) (80 * (i + 1)) l ∙ ap (λ (k : ℕ). drop k l) more in
    sym (cut (with_card i card bytes)) ∙ (ap (drop (n - 80 * (i + 1))) behind ∙ cut bytes)

pub others-stay : (i j : ℕ) (card bytes : List ℕ) → length card ≡ 80 → 80 * (i + 1) ≤ length bytes → i ≢ j → take 80 (drop (80 * j) (with_card i card bytes)) ≡ take 80 (drop (80 * j) bytes)
others-stay i j card bytes long within other = by_order (cases_lt i j)
  where
    by_order : (i < j) ⊎ (j ≤ i) → take 80 (drop (80 * j) (with_card i card bytes)) ≡ take 80 (drop (80 * j) bytes)
    by_order (inl above) = ap (take 80) (behind-card i (80 * j) card bytes long within (omega arith))
    by_order (inr below) =
        let front = front-long i bytes within in
        same-front j (take (80 * i) bytes) (card ++ drop (80 * (i + 1)) bytes) (drop (80 * i) bytes) (omega arith) ∙ ap (λ (l : List ℕ). take 80 (drop (80 * j) l)) (take-append-drop (80 * i) bytes)

pub length-with_card : (i : ℕ) (card bytes : List ℕ) → length card ≡ 80 → 80 * (i + 1) ≤ length bytes → length (with_card i card bytes) ≡ length bytes
length-with_card i card bytes long within =
    omega (arith, length-append (take (80 * i) bytes) (card ++ drop (80 * (i + 1)) bytes), length-append card (drop (80 * (i + 1)) bytes), front-long i bytes within, length-drop (80 * (i + 1)) bytes)
