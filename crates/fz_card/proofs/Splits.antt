-- A value field splits round a plain text exactly where that is the text found from the left.
use Rattle.std.proofs.Common.{◌≡◌, ℕ, zero, suc, Bool, true, false, cond, eqb, List, [], ◌∷◌, ◌++◌, length, ◌≢◌, refl, ap, ◌∙◌, arith}
use Rattle.std.specs.Prelude.{◌&&◌}
use Rattle.std.proofs.lemmas.Bool.Decides.{nat_tests}
use Rattle.std.proofs.lemmas.List.{append_assoc, append-nil, nil_from_length}
use Rattle.fz_card.specs.Layout.{blanks}
use Rattle.fz_card.specs.Value.{IsComment, IsPlain, SplitsRound}
use Rattle.fz_card.specs.Plain.{before_comment, skip_blanks, cut_blanks, plain_text}
use Rattle.fz_card.specs.Laws.{IsBehindBlanks}

eqb-other : (a b : ℕ) → a ≢ b → eqb a b ≡ false
eqb-other a b h = grind (arith, nat_tests)

-- what is after the front of a field is a comment, or nothing
record Behind (bs front : List ℕ) : Type 0 where
  rest : List ℕ
  parts : bs ≡ front ++ rest
  comment : IsComment rest

behind-step : (test : Bool) (b : ℕ) (bs : List ℕ) → (test ≡ true → b ≡ 47) → Behind bs (before_comment bs) → Behind (b ∷ bs) (cond test [] (b ∷ before_comment bs))
behind-step true b bs slash h = record { rest = b ∷ bs; parts = refl; comment = slash refl }
behind-step false b bs slash h = record { rest = h.rest; parts = ap (λ (l : List ℕ). b ∷ l) h.parts; comment = h.comment }

eqb-same : (a b : ℕ) → eqb a b ≡ true → a ≡ b
eqb-same a b h = grind (arith, nat_tests)

before_comment-behind : (bs : List ℕ) → Behind bs (before_comment bs)
before_comment-behind [] = record { rest = []; parts = refl; comment = tt }
before_comment-behind (b ∷ bs) = behind-step (eqb b 47) b bs (eqb-same b 47) (before_comment-behind bs)

after-step : (test : Bool) (b : ℕ) (bs : List ℕ) → (test ≡ true → b ≡ 32) → IsBehindBlanks bs (skip_blanks bs) → IsBehindBlanks (b ∷ bs) (cond test (skip_blanks bs) (b ∷ bs))
after-step true b bs blank h = record { count = suc h.count; parts = let e : b ≡ 32 = blank refl in rw e (ap (λ (l : List ℕ). 32 ∷ l) h.parts) }
after-step false b bs blank h = record { count = 0; parts = refl }

pub skip_blanks-after : (bs : List ℕ) → IsBehindBlanks bs (skip_blanks bs)
skip_blanks-after [] = record { count = 0; parts = refl }
skip_blanks-after (b ∷ bs) = after-step (eqb b 32) b bs (eqb-same b 32) (skip_blanks-after bs)

-- blanks are after a text
pub record Before (bs front : List ℕ) : Type 0 where
  pub count : ℕ
  pub parts : bs ≡ front ++ blanks count

pub nil-of-cut : (cut : List ℕ) → eqb (length cut) 0 ≡ true → cut ≡ []
nil-of-cut cut h = nil_from_length cut (eqb-same (length cut) 0 h)

before-step : (blank none : Bool) (b : ℕ) (bs cut : List ℕ) → (blank ≡ true → b ≡ 32) → (none ≡ true → cut ≡ []) → Before bs cut → Before (b ∷ bs) (cond (blank && none) [] (b ∷ cut))
before-step true true b bs cut blank none h = record {
  count = suc h.count;
  parts =
      let byte : b ≡ 32 = blank refl in
      let all : bs ≡ blanks h.count = h.parts ∙ ap (λ (l : List ℕ). l ++ blanks h.count) (none refl) in
      rw byte (ap (λ (l : List ℕ). 32 ∷ l) all);
}
before-step true false b bs cut blank none h = record { count = h.count; parts = ap (λ (l : List ℕ). b ∷ l) h.parts }
before-step false none b bs cut blank nil h = record { count = h.count; parts = ap (λ (l : List ℕ). b ∷ l) h.parts }

pub cut_blanks-before : (bs : List ℕ) → Before bs (cut_blanks bs)
cut_blanks-before [] = record { count = 0; parts = refl }
cut_blanks-before (b ∷ bs) = before-step (eqb b 32) (eqb (length (cut_blanks bs)) 0) b bs (cut_blanks bs) (eqb-same b 32) (nil-of-cut (cut_blanks bs)) (cut_blanks-before bs)

joined-parts : (field front rest first second text last : List ℕ) → field ≡ front ++ rest → front ≡ first ++ second → second ≡ text ++ last → field ≡ first ++ (text ++ (last ++ rest))
joined-parts field front rest first second text last e1 e2 e3 =
    e1 ∙ (ap (λ (l : List ℕ). l ++ rest) (e2 ∙ ap (λ (l : List ℕ). first ++ l) e3) ∙ (append_assoc first (text ++ last) rest ∙ ap (λ (l : List ℕ). first ++ l) (append_assoc text last rest)))

-- each field splits round the text that is found from the left
pub splits_round_plain_text : (field : List ℕ) → SplitsRound (plain_text field) field
splits_round_plain_text field =
    let first = before_comment-behind field in
    let second = skip_blanks-after (before_comment field) in
    let third = cut_blanks-before (skip_blanks (before_comment field)) in
    record { before = second.count; behind = third.count; comment = first.rest; parts = joined-parts field (before_comment field) first.rest (blanks second.count) (skip_blanks (before_comment field)) (plain_text field) (blanks third.count) first.parts second.parts third.parts; is_comment = first.comment }

before_comment-blanks : (count : ℕ) (rest : List ℕ) → before_comment (blanks count ++ rest) ≡ blanks count ++ before_comment rest
before_comment-blanks zero rest = refl
before_comment-blanks (suc count) rest = ap (λ (l : List ℕ). 32 ∷ l) (before_comment-blanks count rest)

before_comment-plain : (text rest : List ℕ) → IsPlain text → before_comment (text ++ rest) ≡ text ++ before_comment rest
before_comment-plain [] rest plain = refl
before_comment-plain (b ∷ text) rest (_, slash, plain) = rw (eqb-other b 47 slash, before_comment-plain text rest plain)

before_comment-comment : (rest : List ℕ) → IsComment rest → before_comment rest ≡ []
before_comment-comment [] h = refl
before_comment-comment (b ∷ rest) h = rw h

pub skip_blanks-blanks : (count : ℕ) (rest : List ℕ) → skip_blanks (blanks count ++ rest) ≡ skip_blanks rest
skip_blanks-blanks zero rest = refl
skip_blanks-blanks (suc count) rest = skip_blanks-blanks count rest

pub cut_blanks-blanks : (count : ℕ) → cut_blanks (blanks count) ≡ []
cut_blanks-blanks zero = refl
cut_blanks-blanks (suc count) = rw (cut_blanks-blanks count)

pub cut_blanks-plain : (text : List ℕ) (count : ℕ) → IsPlain text → cut_blanks (text ++ blanks count) ≡ text
cut_blanks-plain [] count plain = cut_blanks-blanks count
cut_blanks-plain (b ∷ text) count (blank, _, plain) = rw (eqb-other b 32 blank, cut_blanks-plain text count plain)

skip_blanks-all : (count : ℕ) → skip_blanks (blanks count) ≡ []
skip_blanks-all zero = refl
skip_blanks-all (suc count) = skip_blanks-all count

pub skip_blanks-other : (b : ℕ) (rest : List ℕ) → b ≢ 32 → skip_blanks (b ∷ rest) ≡ b ∷ rest
skip_blanks-other b rest blank = rw (eqb-other b 32 blank)

trimmed-plain : (text : List ℕ) (count : ℕ) → IsPlain text → cut_blanks (skip_blanks (text ++ blanks count)) ≡ text
trimmed-plain [] count plain = ap cut_blanks (skip_blanks-all count)
trimmed-plain (b ∷ text) count (blank, slash, plain) =
    ap cut_blanks (skip_blanks-other b (text ++ blanks count) blank) ∙ cut_blanks-plain (b ∷ text) count (blank, slash, plain)

before_comment-split : (text field : List ℕ) (split : SplitsRound text field) → IsPlain text → before_comment field ≡ blanks split.before ++ (text ++ blanks split.behind)
before_comment-split text field split plain =
    let a = split.before in
    let b = split.behind in
    let r = split.comment in
    let last : before_comment (blanks b ++ r) ≡ blanks b =
    before_comment-blanks b r ∙ (ap (λ (l : List ℕ). blanks b ++ l) (before_comment-comment r split.is_comment) ∙ append-nil (blanks b)) in
    let middle : before_comment (text ++ (blanks b ++ r)) ≡ text ++ blanks b =
    before_comment-plain text (blanks b ++ r) plain ∙ ap (λ (l : List ℕ). text ++ l) last in
    ap before_comment split.parts ∙ (before_comment-blanks a (text ++ (blanks b ++ r)) ∙ ap (λ (l : List ℕ). blanks a ++ l) middle)

-- a plain text that a field splits round is the text that is found from the left
pub plain_text-split : (text field : List ℕ) → SplitsRound text field → IsPlain text → plain_text field ≡ text
plain_text-split text field split plain =
    ap (λ (l : List ℕ). cut_blanks (skip_blanks l)) (before_comment-split text field split plain) ∙
    (ap cut_blanks (skip_blanks-blanks split.before (text ++ blanks split.behind)) ∙ trimmed-plain text split.behind plain)
