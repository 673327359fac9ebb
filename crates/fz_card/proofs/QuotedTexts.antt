-- Texts between quotes: what is found from the left is the text that a split of the field has.
use Rattle.std.proofs.Common.{◌≡◌, ◌≢◌, ℕ, suc, ◌-◌, ◌<◌, ◌≤◌, Bool, true, false, cond, eqb, List, [], ◌∷◌, ◌++◌, length, take, drop, get_or, sym, refl, ap, ◌∙◌, subst, arith}
use Rattle.std.specs.Prelude.{⊤, ◌&&◌, Option, Some, None, IfNone, bytes_eq}
use Rattle.std.specs.Option.{option_map}
use Rattle.std.proofs.lemmas.Bool.Decides.{nat_tests}
use Rattle.std.proofs.lemmas.List.{length-append, take-append-drop, take-append-le, take_at}
use Rattle.std.proofs.lemmas.Slice.Eq.{bytes_eq-Decides}
use Rattle.fz_card.specs.Layout.{blanks}
use Rattle.fz_card.specs.Plain.{cut_blanks, skip_blanks}
use Rattle.fz_card.specs.Value.{doubled, IsTrimmed}
use Rattle.fz_card.specs.Quoted.{Closed, with_first, read_quoted, quoted, at_quote, is_blank, closed_text}
use Rattle.fz_card.proofs.PlainText.{cut_blanks-cons}
use Rattle.fz_card.proofs.Splits.{cut_blanks-blanks, cut_blanks-before, skip_blanks-after, nil-of-cut}

-- characters more at the front
abbrev pub with_front : List ℕ → Option Closed → Option Closed
with_front front found = option_map (λ c. (front ++ c.0, c.1)) found

eqb-other : (a b : ℕ) → a ≢ b → eqb a b ≡ false
eqb-other a b h = grind (arith, nat_tests)

-- a byte that is no quote, two quotes, a quote and no second one
pub quoted-byte : (b : ℕ) (bs : List ℕ) → b ≢ 39 → quoted (b ∷ bs) ≡ with_first b (quoted bs)
unfolding quoted
quoted-byte b bs other = rw (eqb-other b 39 other) refl

pub quoted-twice : (bs : List ℕ) → quoted (39 ∷ 39 ∷ bs) ≡ with_first 39 (quoted bs)
unfolding quoted
quoted-twice bs = refl

pub quoted-nil : (text : List ℕ) → length text ≡ 0 → quoted text ≡ at_quote text
unfolding quoted
quoted-nil [] none = refl
quoted-nil (b ∷ bs) none = absurd (omega arith)

first-other : (test : Bool) → (test && true) ≡ false → test ≡ false
first-other test other = grind (arith, nat_tests)

single : (bs : List ℕ) → bytes_eq (take 1 bs) (39 ∷ []) ≡ false → quoted (39 ∷ bs) ≡ Some ([], bs)
unfolding quoted
single [] other = refl
single (b ∷ bs) other = rw (first-other (eqb b 39) other) refl

pub quoted-closed : (text : List ℕ) (b : ℕ) (bs : List ℕ) → text ≡ b ∷ bs → b ≡ 39 → bytes_eq (take 1 bs) (39 ∷ []) ≡ false → quoted text ≡ at_quote text
quoted-closed text b bs parts quote other =
    let e : text ≡ 39 ∷ bs = parts ∙ ap (λ (c : ℕ). c ∷ bs) quote in
    rw e (single bs other)

first-quote : (bs : List ℕ) → bytes_eq (take 1 bs) (39 ∷ []) ≡ true → bs ≡ 39 ∷ drop 1 bs
first-quote [] same = cc
first-quote (b ∷ bs) same =
    let front : b ∷ [] ≡ 39 ∷ [] = (bytes_eq-Decides (b ∷ []) (39 ∷ [])).0 same in
    ap (λ (c : ℕ). c ∷ bs) (ap (λ (l : List ℕ). get_or l 0 0) front)

pub quoted-quote : (text : List ℕ) (b : ℕ) (bs rest : List ℕ) → text ≡ b ∷ bs → b ≡ 39 → bytes_eq (take 1 bs) (39 ∷ []) ≡ true → rest ≡ drop 1 bs → quoted text ≡ with_first 39 (quoted rest)
quoted-quote text b bs rest parts quote same behind =
    let e : text ≡ 39 ∷ 39 ∷ rest = parts ∙ (ap (λ (c : ℕ). c ∷ bs) quote ∙ ap (λ (l : List ℕ). 39 ∷ l) (first-quote bs same ∙ ap (λ (l : List ℕ). 39 ∷ l) (sym behind))) in
    rw e (quoted-twice rest)

pub if-none : {X : Type 0} {P : Type 0} (read : Option X) → P → IfNone read P
if-none None p = p
if-none (Some x) p = tt

eqb-same : (a b : ℕ) → eqb a b ≡ true → a ≡ b
eqb-same a b h = grind (arith, nat_tests)

-- what was read before these bytes
seen : Bool → List ℕ → List ℕ
seen false bs = bs
seen true bs = 39 ∷ bs

closed_same : (a c b d : List ℕ) (f g : Closed) → f ≡ (a, b) → g ≡ (c, d) → Some f ≡ Some g → (a ≡ c) × (b ≡ d)
closed_same a c b d f g e h same =
    let equal : f ≡ g = cc in
    let joined : (a, b) ≡ (c, d) = sym e ∙ (equal ∙ h) in
    (ap (λ (p : Closed). p.0) joined, ap (λ (p : Closed). p.1) joined)

pair-of : (a c b d : List ℕ) (same : Closed) → same ≡ (c, d) → Some (a, b) ≡ Some same → (a ≡ c) × (b ≡ d)
pair-of a c b d same pair e = closed_same a c b d (a, b) same refl pair e

first-some : (b : ℕ) (found : Option Closed) (characters rest : List ℕ) → with_first b found ≡ Some (characters, rest) → (cs : List ℕ) × (found ≡ Some (cs, rest)) × (characters ≡ b ∷ cs)
first-some b None characters rest e = cc
first-some b (Some f) characters rest e =
    let parts = pair-of (b ∷ f.0) characters f.1 rest (characters, rest) refl e in
    (f.0, ap (λ (r : List ℕ). Some (f.0, r)) parts.1, sym parts.0)

-- a byte that was read before, and the characters of which it is the first
one-more : (test : Bool) (b : ℕ) (bs cs rest : List ℕ) → test ≡ false → bs ≡ doubled cs ++ (39 ∷ rest) → b ∷ bs ≡ cond test (b ∷ b ∷ doubled cs) (b ∷ doubled cs) ++ (39 ∷ rest)
one-more true b bs cs rest other parts = cc
one-more false b bs cs rest other parts = ap (λ (l : List ℕ). b ∷ l) parts

two-more : (test : Bool) (b : ℕ) (bs cs rest : List ℕ) → test ≡ true → b ≡ 39 → bs ≡ doubled cs ++ (39 ∷ rest) → 39 ∷ b ∷ bs ≡ cond test (b ∷ b ∷ doubled cs) (b ∷ doubled cs) ++ (39 ∷ rest)
two-more true b bs cs rest same quote parts = rw quote (ap (λ (l : List ℕ). 39 ∷ 39 ∷ l) parts)
two-more false b bs cs rest same quote parts = cc

inside-parts : (test : Bool) (b : ℕ) (bs characters rest : List ℕ) → eqb b 39 ≡ test → cond test (read_quoted true bs) (with_first b (read_quoted false bs)) ≡ Some (characters, rest) → ((cs : List ℕ) → read_quoted true bs ≡ Some (cs, rest) → 39 ∷ bs ≡ doubled cs ++ (39 ∷ rest)) → ((cs : List ℕ) → read_quoted false bs ≡ Some (cs, rest) → bs ≡ doubled cs ++ (39 ∷ rest)) → b ∷ bs ≡ doubled characters ++ (39 ∷ rest)
inside-parts true b bs characters rest is e after inside = ap (λ (c : ℕ). c ∷ bs) (eqb-same b 39 is) ∙ after characters e
inside-parts false b bs characters rest is e after inside =
    let more = first-some b (read_quoted false bs) characters rest e in
    subst (λ (cs : List ℕ). b ∷ bs ≡ doubled cs ++ (39 ∷ rest)) (sym more.2) (one-more (eqb b 39) b bs more.0 rest is (inside more.0 more.1))

after-parts : (test : Bool) (b : ℕ) (bs characters rest : List ℕ) → eqb b 39 ≡ test → cond test (with_first b (read_quoted false bs)) (Some ([], b ∷ bs)) ≡ Some (characters, rest) → ((cs : List ℕ) → read_quoted false bs ≡ Some (cs, rest) → bs ≡ doubled cs ++ (39 ∷ rest)) → 39 ∷ b ∷ bs ≡ doubled characters ++ (39 ∷ rest)
after-parts true b bs characters rest is e inside =
    let more = first-some b (read_quoted false bs) characters rest e in
    subst (λ (cs : List ℕ). 39 ∷ b ∷ bs ≡ doubled cs ++ (39 ∷ rest)) (sym more.2) (two-more (eqb b 39) b bs more.0 rest is (eqb-same b 39 is) (inside more.0 more.1))
after-parts false b bs characters rest is e inside =
    let parts = pair-of [] characters (b ∷ bs) rest (characters, rest) refl e in
    subst (λ (cs : List ℕ). 39 ∷ b ∷ bs ≡ doubled cs ++ (39 ∷ rest)) parts.0 (ap (λ (l : List ℕ). 39 ∷ l) parts.1)

read-parts : (after : Bool) (bs characters rest : List ℕ) → read_quoted after bs ≡ Some (characters, rest) → seen after bs ≡ doubled characters ++ (39 ∷ rest)
unfolding seen
read-parts false [] characters rest e = cc
read-parts true [] characters rest e =
    let parts = pair-of [] characters [] rest (characters, rest) refl e in
    subst (λ (cs : List ℕ). 39 ∷ [] ≡ doubled cs ++ (39 ∷ rest)) parts.0 (ap (λ (l : List ℕ). 39 ∷ l) parts.1)
read-parts false (b ∷ bs) characters rest e =
    inside-parts (eqb b 39) b bs characters rest refl e (λ cs f. read-parts true bs cs rest f) (λ cs f. read-parts false bs cs rest f)
read-parts true (b ∷ bs) characters rest e =
    after-parts (eqb b 39) b bs characters rest refl e (λ cs f. read-parts false bs cs rest f)

-- characters that were found stand doubled before a quote
pub quoted-parts : (bs characters rest : List ℕ) → quoted bs ≡ Some (characters, rest) → bs ≡ doubled characters ++ (39 ∷ rest)
unfolding quoted seen
quoted-parts bs characters rest e = read-parts false bs characters rest e

-- no second quote follows
abbrev pub BeginsOther : List ℕ → Type 0
BeginsOther [] = ⊤
BeginsOther (b ∷ bs) = b ≢ 39

closed-here : (rest : List ℕ) → BeginsOther rest → quoted (39 ∷ rest) ≡ Some ([], rest)
unfolding quoted
closed-here [] other = refl
closed-here (b ∷ bs) other = rw (eqb-other b 39 other) refl

differs : (c : ℕ) → eqb c 39 ≡ false → ¬ (c ≡ 39)
differs c is e = grind (arith, nat_tests)

doubled-step : (test : Bool) (c : ℕ) (cs rest : List ℕ) → eqb c 39 ≡ test → quoted (doubled cs ++ (39 ∷ rest)) ≡ Some (cs, rest) → quoted (cond test (c ∷ c ∷ doubled cs) (c ∷ doubled cs) ++ (39 ∷ rest)) ≡ Some (c ∷ cs, rest)
doubled-step true c cs rest is found =
    let quote : c ≡ 39 = eqb-same c 39 is in
    rw quote (quoted-twice (doubled cs ++ (39 ∷ rest)) ∙ ap (with_first 39) found)
doubled-step false c cs rest is found =
    quoted-byte c (doubled cs ++ (39 ∷ rest)) (λ e. differs c is e) ∙ ap (with_first c) found

-- doubled characters before a single quote are found
pub quoted-doubled : (characters rest : List ℕ) → BeginsOther rest → quoted (doubled characters ++ (39 ∷ rest)) ≡ Some (characters, rest)
quoted-doubled [] rest other = closed-here rest other
quoted-doubled (c ∷ cs) rest other = doubled-step (eqb c 39) c cs rest refl (quoted-doubled cs rest other)

-- the last byte of a longer text
last-cons : (b : ℕ) (bs : List ℕ) → 0 < length bs → get_or (b ∷ bs) (length (b ∷ bs) - 1) 0 ≡ get_or bs (length bs - 1) 0
last-cons b bs some = let e : length (b ∷ bs) - 1 ≡ suc (length bs - 1) = omega arith in rw e refl

positive : (n : ℕ) → eqb n 0 ≡ false → 0 < n
positive n other = grind (arith, nat_tests)

not_blank : (b : ℕ) → eqb b 32 ≡ false → ¬ (b ≡ 32)
not_blank b other e = grind (arith, nat_tests)

trimmed-more : (b : ℕ) (cut : List ℕ) → 0 < length cut → IsTrimmed cut → IsTrimmed (b ∷ cut)
trimmed-more b cut some trimmed = λ e. trimmed (sym (last-cons b cut some) ∙ e)

trimmed-step : (blank none : Bool) (b : ℕ) (cut : List ℕ) → eqb b 32 ≡ blank → eqb (length cut) 0 ≡ none → IsTrimmed cut → IsTrimmed (cond (blank && none) [] (b ∷ cut))
trimmed-step true true b cut is nil trimmed = λ e. omega arith
trimmed-step true false b cut is nil trimmed = trimmed-more b cut (positive (length cut) nil) trimmed
trimmed-step false true b cut is nil trimmed =
    subst (λ (l : List ℕ). IsTrimmed (b ∷ l)) (sym (nil-of-cut cut nil)) (λ e. not_blank b is e)
trimmed-step false false b cut is nil trimmed = trimmed-more b cut (positive (length cut) nil) trimmed

-- no blank stands at the end of a text whose blanks there were cut off
pub cut_blanks-trimmed : (bs : List ℕ) → IsTrimmed (cut_blanks bs)
cut_blanks-trimmed [] = λ e. omega arith
cut_blanks-trimmed (b ∷ bs) = trimmed-step (eqb b 32) (eqb (length (cut_blanks bs)) 0) b (cut_blanks bs) refl refl (cut_blanks-trimmed bs)

-- and where none stands there, the blanks after it are what is cut off
pub cut_blanks-behind : (text : List ℕ) (count : ℕ) → IsTrimmed text → cut_blanks (text ++ blanks count) ≡ text
cut_blanks-behind [] count trimmed = cut_blanks-blanks count
cut_blanks-behind (b ∷ []) count trimmed = rw (cut_blanks-blanks count, eqb-other b 32 trimmed) refl
cut_blanks-behind (b ∷ c ∷ cs) count trimmed =
    let rest = cut_blanks-behind (c ∷ cs) count (λ e. trimmed (last-cons b (c ∷ cs) (omega arith) ∙ e)) in
    rw rest (cut_blanks-cons b (c ∷ cs) (omega arith))

pub length-cut_blanks : (bs : List ℕ) → length (cut_blanks bs) ≤ length bs
length-cut_blanks bs =
    let h = cut_blanks-before bs in
    omega (arith, ap length h.parts, length-append (cut_blanks bs) (blanks h.count))

pub length-skip_blanks : (bs : List ℕ) → length (skip_blanks bs) ≤ length bs
length-skip_blanks bs =
    let h = skip_blanks-after bs in
    omega (arith, ap length h.parts, length-append (blanks h.count) (skip_blanks bs))

-- the front of the bytes that were written, without the blanks at its end
pub take-cut_blanks : (len : ℕ) (bs text : List ℕ) → text ≡ cut_blanks (take len bs) → take (length text) bs ≡ cut_blanks (take len bs)
take-cut_blanks len bs text is =
    let h = cut_blanks-before (take len bs) in
    let cut = cut_blanks (take len bs) in
    let within = length-cut_blanks (take len bs) in
    let inner : take (length cut) (take len bs) ≡ cut = ap (take (length cut)) h.parts ∙ take_at cut (blanks h.count) (length cut) refl in
    let front : take (length cut) (take len bs ++ drop len bs) ≡ take (length cut) (take len bs) = rw take-append-le refl in
    ap (λ (l : List ℕ). take (length l) bs) is ∙ (ap (take (length cut)) (sym (take-append-drop len bs)) ∙ (front ∙ inner))

-- what was found after an opening quote is the text where it is followed by blanks alone
pub closed_found : (opened characters rest : List ℕ) → quoted opened ≡ Some (characters, rest) → is_blank rest ≡ true → closed_text (quoted opened) ≡ Some (cut_blanks characters)
closed_found opened characters rest found blank = rw (found, blank) refl
