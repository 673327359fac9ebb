-- The characters of a sum, in place of sixteen times `0`, bring the sum of an HDU up to all ones.
use Rattle.std.proofs.Common.{◌≡◌, ℕ, ◌+◌, ◌-◌, ◌*◌, ◌/◌, ◌%◌, ◌^◌, ◌<◌, List, [], ◌∷◌, ◌++◌, length, take, drop, sym, refl, ap, ◌∙◌, subst, arith}
use Rattle.std.specs.Prelude.{replicate, codes}
use Rattle.std.proofs.lemmas.List.{take-append-drop, drop-drop, length-take, length-drop}
use Rattle.fz_card.specs.Layout.{blanks}
use Rattle.fz_card.specs.Made.{text_card_bytes}
use Rattle.fz_sum.specs.Sums.{word_total, carried, ones_sum}
use Rattle.fz_sum.specs.Pieces.{total_at}
use Rattle.fz_sum.specs.Characters.{characters}
use Rattle.fz_sum.specs.Cards.{checksum_card, blank_checksum_card, with_card}
use Rattle.fz_sum.proofs.Totals.{total_at-same, total_at-append, total_at-word_total}
use Rattle.fz_sum.proofs.Carries.{carried-complement}
use Rattle.fz_sum.proofs.ByteCharacters.{byte-total}

-- sixteen characters from column 12 on, those of four bytes
text-total : (a0 a1 a2 a3 b0 b1 b2 b3 c0 c1 c2 c3 d0 d1 d2 d3 a b c d : ℕ) → a0 + a1 + a2 + a3 ≡ a + 4 * 48 → b0 + b1 + b2 + b3 ≡ b + 4 * 48 → c0 + c1 + c2 + c3 ≡ c + 4 * 48 → d0 + d1 + d2 + d3 ≡ d + 4 * 48
    → total_at 11 (d3 ∷ a0 ∷ b0 ∷ c0 ∷ d0 ∷ a1 ∷ b1 ∷ c1 ∷ d1 ∷ a2 ∷ b2 ∷ c2 ∷ d2 ∷ a3 ∷ b3 ∷ c3 ∷ []) ≡ total_at 11 (replicate 16 48) + (16777216 * a + 65536 * b + 256 * c + d)
unfolding total_at
text-total a0 a1 a2 a3 b0 b1 b2 b3 c0 c1 c2 c3 d0 d1 d2 d3 a b c d ea eb ec ed = omega arith

four-bytes : (n : ℕ) → n < 2 ^ 32 → 16777216 * (n / 16777216 % 256) + 65536 * (n / 65536 % 256) + 256 * (n / 256 % 256) + n % 256 ≡ n
four-bytes n small = omega arith

characters-total : (sum : ℕ) → total_at 11 (characters sum) ≡ total_at 11 (replicate 16 48) + (2 ^ 32 - 1 - sum)
unfolding characters
characters-total sum =
    let rest = 2 ^ 32 - 1 - sum in
    let small : rest < 2 ^ 32 = omega arith in
    text-total _ _ _ _ _ _ _ _ _ _ _ _ _ _ _ _ (rest / 16777216 % 256) (rest / 65536 % 256) (rest / 256 % 256) (rest % 256) (byte-total (rest / 16777216 % 256) (omega arith)) (byte-total (rest / 65536 % 256) (omega arith)) (byte-total (rest / 256 % 256) (omega arith)) (byte-total (rest % 256) (omega arith))
    ∙ ap (λ (n : ℕ). total_at 11 (replicate 16 48) + n) (four-bytes rest small)

-- the card before and after the characters
front : List ℕ
front = codes "CHECKSUM= '"

back : List ℕ
back = codes "'" ++ blanks 52

checksum-parts : (sum : ℕ) → checksum_card sum ≡ front ++ (characters sum ++ back)
unfolding checksum_card text_card_bytes characters front back
checksum-parts sum = refl

blank-parts : blank_checksum_card ≡ front ++ (replicate 16 48 ++ back)
unfolding blank_checksum_card text_card_bytes front back
blank-parts = refl

pub length-checksum_card : (sum : ℕ) → length (checksum_card sum) ≡ 80
unfolding checksum_card text_card_bytes characters
length-checksum_card sum = refl

pub length-blank_checksum_card : length blank_checksum_card ≡ 80
unfolding blank_checksum_card text_card_bytes
length-blank_checksum_card = refl

card-total : (text : List ℕ) → length text ≡ 16 → total_at 0 (front ++ (text ++ back)) ≡ total_at 0 front + total_at 11 text + total_at 27 back
unfolding front
card-total text long =
    let outer = total_at-append 0 front (text ++ back) in
    let inner = total_at-append 11 text back in
    let place : 11 + length text ≡ 27 = omega arith in
    let moved = ap (λ (n : ℕ). total_at n back) place in
    omega (arith, outer, inner, moved)

checksum-total : (sum : ℕ) → total_at 0 (checksum_card sum) ≡ total_at 0 blank_checksum_card + (2 ^ 32 - 1 - sum)
unfolding characters
checksum-total sum =
    let new = card-total (characters sum) refl in
    let old = card-total (replicate 16 48) refl in
    let text = characters-total sum in
    let e = ap (total_at 0) (checksum-parts sum) in
    let f = ap (total_at 0) blank-parts in
    omega (arith, new, old, text, e, f)

blank-some : 0 < total_at 0 blank_checksum_card
unfolding blank_checksum_card text_card_bytes total_at
blank-some = omega arith

-- an HDU round a card
hdu-total : (before card behind : List ℕ) → length before % 80 ≡ 0 → length card ≡ 80 → word_total (before ++ (card ++ behind)) ≡ total_at 0 before + total_at 0 card + total_at 0 behind
hdu-total before card behind whole long =
    let all = total_at-word_total (before ++ (card ++ behind)) in
    let outer = total_at-append 0 before (card ++ behind) in
    let place = total_at-same (0 + length before) 0 (card ++ behind) (omega arith) in
    let inner = total_at-append 0 card behind in
    let further = total_at-same (0 + length card) 0 behind (omega arith) in
    omega (arith, all, outer, place, inner, further)

pub all-ones : (before behind : List ℕ) → length before % 80 ≡ 0 → ones_sum (before ++ (checksum_card (ones_sum (before ++ (blank_checksum_card ++ behind))) ++ behind)) ≡ 4294967295
unfolding ones_sum
all-ones before behind whole =
    let old = word_total (before ++ (blank_checksum_card ++ behind)) in
    let is = hdu-total before blank_checksum_card behind whole length-blank_checksum_card in
    let new = hdu-total before (checksum_card (carried old)) behind whole (length-checksum_card (carried old)) in
    let card = checksum-total (carried old) in
    let some : 0 < old = omega (arith, is, blank-some) in
    let e : word_total (before ++ (checksum_card (carried old) ++ behind)) ≡ old + (2 ^ 32 - 1 - carried old) = omega (arith, is, new, card) in
    ap carried e ∙ carried-complement old some

-- the same of a card at its place
pub all-ones_at : (i : ℕ) (bytes : List ℕ) → take 80 (drop (80 * i) bytes) ≡ blank_checksum_card → ones_sum (with_card i (checksum_card (ones_sum bytes)) bytes) ≡ 4294967295
all-ones_at i bytes blank =
    let long : length (take 80 (drop (80 * i) bytes)) ≡ 80 = ap length blank ∙ length-blank_checksum_card in
    let fits : length (take (80 * i) bytes) ≡ 80 * i = omega (arith, length-take (80 * i) bytes, length-take 80 (drop (80 * i) bytes), length-drop (80 * i) bytes, long) in
    let place : 80 * i + 80 ≡ 80 * (i + 1) = omega arith in
    let behind : drop 80 (drop (80 * i) bytes) ≡ drop (80 * (i + 1)) bytes = drop-drop 80 (80 * i) bytes ∙ ap (λ (n : ℕ). drop n bytes) place in
    let rest : drop (80 * i) bytes ≡ blank_checksum_card ++ drop (80 * (i + 1)) bytes =
    sym (take-append-drop 80 (drop (80 * i) bytes)) ∙ (ap (λ (l : List ℕ). l ++ drop 80 (drop (80 * i) bytes)) blank ∙ ap (λ (l : List ℕ). blank_checksum_card ++ l) behind) in
    let all : take (80 * i) bytes ++ (blank_checksum_card ++ drop (80 * (i + 1)) bytes) ≡ bytes =
    ap (λ (l : List ℕ). take (80 * i) bytes ++ l) (sym rest) ∙ take-append-drop (80 * i) bytes in
    let whole : length (take (80 * i) bytes) % 80 ≡ 0 = omega (arith, fits) in
    subst (λ (l : List ℕ). ones_sum (take (80 * i) bytes ++ (checksum_card (ones_sum l) ++ drop (80 * (i + 1)) bytes)) ≡ 4294967295) all (all-ones (take (80 * i) bytes) (drop (80 * (i + 1)) bytes) whole)
