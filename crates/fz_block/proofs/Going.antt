-- A walk over HDUs, one step at a time.
use Rattle.std.proofs.Common.{◌≡◌, ℕ, zero, suc, ◌+◌, ◌*◌, ◌<◌, ◌≤◌, ◌⊎◌, inl, inr, ◌==◌, ◌&&◌, ◌||◌, not, nat_lt, nat_le, IsOk, Bool, true, false, List, [], ◌∷◌, ◌++◌, length, take, drop, map, codes, bytes_eq, None, is_none, Result, Ok, Err, if◌then◌else◌, refl, sym, subst, ◌∙◌, ap, arith}
use Rattle.std.proofs.lemmas.Bool.Decides.{nat_tests}
use Rattle.std.proofs.lemmas.List.{take-take, length-append, length-take, length-drop}
use Rattle.fz_base.specs.Refusal.{refusal, first_refusal}
use Rattle.fz_base.specs.declared.fault.Fault.{Fault}
use Rattle.fz_base.specs.declared.fault.Place.TheVariants.{Byte, Card}
use Rattle.fz_base.specs.declared.kind.Kind.TheVariants.{NotFits, Truncated, LongHeader, TrailingBytes, Limit}
use Rattle.fz_block.specs.Cards.{card_at, end_of}
use Rattle.fz_block.specs.Checks.{Judge, unjudged, is_set, header_room, block_checks, blocks_to_end, header_blocks_of, header_of, header_in, hdu_at, followed_by, by_judgement, judged, walk_from}
use Rattle.fz_block.specs.Hdus.{IsHdu, hdu_bytes}
use Rattle.fz_block.specs.Header.{next_start_of}
use Rattle.fz_block.specs.Walk.{hdu_of, begins_hdu, is_stop, stops, RefusesNone, PassesAt, PassFrom}
use Rattle.fz_block.specs.declared.header.Header.{Header}
use Rattle.fz_block.proofs.HduLemmas.{answered, blocks_inside, is_answered, blocks_of, StandsIn, its_payload, its_hdu}
use Rattle.fz_block.proofs.Stops.{says_on}
use Rattle.fz_block.proofs.Walks.{walked, first_false, second_false}

-- what a walk says of the first HDU that it passed: it ended there, or went on after it
abbrev pub GoesOn : Judge → ℕ → ℕ → List ℕ → Header → List Header → Type 0
GoesOn judge more k file h hs =
    ((hs ≡ []) × (judge h ≡ Ok false → (next_start_of h == length file) ≡ true))
    ⊎ ((judge h ≡ Ok false) × ((next_start_of h == length file) ≡ false) × (walk_from judge more (suc k) (next_start_of h) file ≡ Ok hs))

pub record Went (judge : Judge) (more k start : ℕ) (file : List ℕ) (h : Header) (hs : List Header) : Type 0 where
  pub here : hdu_at k start file ≡ Ok h
  pub on : GoesOn judge more k file h hs

pub went : (judge : Judge) (more k start : ℕ) (file : List ℕ) (h : Header) (hs : List Header) → walk_from judge (suc more) k start file ≡ Ok (h ∷ hs) → Went judge more k start file h hs
unfolding walk_from
went judge more k start file h hs is = by_here (hdu_at k start file) refl is
  where
    by_walk : (g : Header) (rest : Result (List Header) Fault) → hdu_at k start file ≡ Ok g → judge g ≡ Ok false → (next_start_of g == length file) ≡ false →
        walk_from judge more (suc k) (next_start_of g) file ≡ rest → followed_by g rest ≡ Ok (h ∷ hs) → Went judge more k start file h hs
    by_walk g (Err fault) at says last walk is = absurd cc
    by_walk g (Ok ks) at says last walk is =
        let one : g ≡ h = cc in
        let others : ks ≡ hs = cc in
        subst (λ x. Went judge more k start file x hs) one record { here = at; on = inr (says, last, walk ∙ ap Ok others) }

    by_end : (g : Header) (last : Bool) → hdu_at k start file ≡ Ok g → judge g ≡ Ok false → (next_start_of g == length file) ≡ last →
        (if last then Ok (g ∷ []) else followed_by g (walk_from judge more (suc k) (next_start_of g) file)) ≡ Ok (h ∷ hs) → Went judge more k start file h hs
    by_end g true at says last is =
        let one : g ≡ h = cc in
        let none : [] ≡ hs = cc in
        subst (λ x. Went judge more k start file x hs) one record { here = at; on = inl (sym none, λ _. last) }
    by_end g false at says last is = by_walk g (walk_from judge more (suc k) (next_start_of g) file) at says last refl is

    by_judge : (g : Header) (says : Result Bool Fault) → hdu_at k start file ≡ Ok g → judge g ≡ says →
        by_judgement file g (walk_from judge more (suc k) (next_start_of g) file) says ≡ Ok (h ∷ hs) → Went judge more k start file h hs
    by_judge g (Err fault) at says is = absurd cc
    by_judge g (Ok true) at says is =
        let one : g ≡ h = cc in
        let none : [] ≡ hs = cc in
        subst (λ x. Went judge more k start file x hs) one record { here = at; on = inl (sym none, λ go. absurd (let clash : Ok true ≡ Ok false = sym says ∙ go in cc)) }
    by_judge g (Ok false) at says is = by_end g (next_start_of g == length file) at says refl is

    by_here : (here : Result Header Fault) → hdu_at k start file ≡ here → judged file judge (λ g. walk_from judge more (suc k) (next_start_of g) file) here ≡ Ok (h ∷ hs) → Went judge more k start file h hs
    by_here (Err fault) at is = absurd cc
    by_here (Ok g) at is = by_judge g (judge g) at refl is

pub no_room : (judge : Judge) (k start : ℕ) (file : List ℕ) (hs : List Header) → walk_from judge 0 k start file ≡ Ok hs → ⊥
unfolding walk_from
no_room judge k start file hs is = cc

nothing : (hs : List Header) (h : Header) (later : List Header) → hs ++ h ∷ later ≡ [] → ⊥
nothing [] h later is = cc
nothing (j ∷ hs) h later is = cc

-- only the last is a stop
pub only_last : (judge : Judge) (most k start : ℕ) (file : List ℕ) (hs : List Header) (h : Header) → walk_from judge most k start file ≡ Ok (hs ++ h ∷ []) → stops judge hs ≡ false
only_last judge most k start file [] h is = refl
only_last judge zero k start file (j ∷ hs) h is = absurd (no_room judge k start file (j ∷ hs ++ h ∷ []) is)
only_last judge (suc more) k start file (j ∷ hs) h is = elim ((went judge more k start file j (hs ++ h ∷ []) is).on) as (λ _. stops judge (j ∷ hs) ≡ false) [
  | inl none ↦ absurd (nothing hs h [] none.0)
  | inr go ↦ ap (λ (r : Result Bool Fault). is_stop r || stops judge hs) go.0 ∙ only_last judge more (suc k) (next_start_of j) file hs h go.2
]

-- a job that stops at an HDU looks at none after it
pub stops_there : (judge : Judge) (most k start : ℕ) (file : List ℕ) (hs later : List Header) (h : Header) → walk_from unjudged most k start file ≡ Ok (hs ++ h ∷ later) →
    RefusesNone judge hs → stops judge hs ≡ false → judge h ≡ Ok true → walk_from judge most k start file ≡ Ok (hs ++ h ∷ [])
unfolding walk_from
stops_there judge zero k start file hs later h is pass never stop = absurd (no_room unjudged k start file (hs ++ h ∷ later) is)
stops_there judge (suc more) k start file [] later h is pass never stop =
    let rest = walk_from judge more (suc k) (next_start_of h) file in
    ap (judged file judge (λ g. walk_from judge more (suc k) (next_start_of g) file)) (went unjudged more k start file h later is).here ∙ ap (by_judgement file h rest) stop
stops_there judge (suc more) k start file (j ∷ hs) later h is pass never stop =
    let step = went unjudged more k start file j (hs ++ h ∷ later) is in
    let rest = walk_from judge more (suc k) (next_start_of j) file in
    let says : judge j ≡ Ok false = says_on (judge j) pass.0 (first_false (is_stop (judge j)) (stops judge hs) never) in
    elim (step.on) as (λ _. walk_from judge (suc more) k start file ≡ Ok (j ∷ hs ++ h ∷ [])) [
      | inl none ↦ absurd (nothing hs h later none.0)
      | inr go ↦
          let others = stops_there judge more (suc k) (next_start_of j) file hs later h go.2 pass.1 (second_false (is_stop (judge j)) (stops judge hs) never) stop in
          ap (judged file judge (λ g. walk_from judge more (suc k) (next_start_of g) file)) step.here
          ∙ (ap (by_judgement file j rest) says
          ∙ (ap (λ b. if b then Ok (j ∷ []) else followed_by j rest) go.1 ∙ ap (followed_by j) others))
    ]

-- the first four of checks that do not refuse
four_clear : (a b c d : Bool) (u v w x : Fault) (checks : List (Bool × Fault)) → first_refusal ((a, u) ∷ (b, v) ∷ (c, w) ∷ (d, x) ∷ checks) ≡ None → (a ≡ false) × (b ≡ false) × (d ≡ false)
four_clear false false false false u v w x checks none = (refl, refl, refl)
four_clear true b c d u v w x checks none = absurd cc
four_clear false true c d u v w x checks none = absurd cc
four_clear false false true d u v w x checks none = absurd cc
four_clear false false false true u v w x checks none = absurd cc

true_of : (b : Bool) → not b ≡ false → b ≡ true
true_of true e = refl
true_of false e = absurd cc

later_of : (a b : Bool) → a ≡ true → (a && b) ≡ false → b ≡ false
later_of true b is e = e
later_of false b is e = absurd cc

-- a header that is found is one of the first 65,536, and begins as that of its HDU
begins_there : (k start n : ℕ) (file : List ℕ) → header_blocks_of k start file ≡ Ok n → (k < 65536) × (begins_hdu k (drop start file) ≡ true)
unfolding header_blocks_of
begins_there k start n file is =
    let all = answered (blocks_to_end (end_of (header_room start file))) n (first_refusal (block_checks k start file)) is in
    let room = end_of (header_room start file) in
    let clear = four_clear (nat_le 65536 k) (nat_lt 0 k && not (bytes_eq (take 8 (drop start file)) (codes "XTENSION"))) (nat_lt (length file) (start + 2880)) (k == 0 && not (is_set (codes "SIMPLE") (take 80 (drop start file))))
    (refusal k (Byte start) Limit) (refusal k (Byte start) TrailingBytes) (refusal k (Byte (length file)) Truncated) (refusal k (Card 0) NotFits)
    ((is_none room && nat_le (start + 737280) (length file), refusal k (Byte start) LongHeader) ∷ (is_none room, refusal k (Byte (length file)) Truncated) ∷ []) all.0 in
    let few : nat_le 65536 k ≡ false = clear.0 in
    (grind (arith, nat_tests, few), by_number k clear.1 clear.2)
  where
    by_number : (k : ℕ) → (nat_lt 0 k && not (bytes_eq (take 8 (drop start file)) (codes "XTENSION"))) ≡ false → (k == 0 && not (is_set (codes "SIMPLE") (take 80 (drop start file)))) ≡ false →
        begins_hdu k (drop start file) ≡ true
    by_number zero extension primary = true_of (is_set (codes "SIMPLE") (take 80 (drop start file))) primary
    by_number (suc k) extension primary =
        let more : nat_lt 0 (suc k) ≡ true = grind (arith, nat_tests) in
        true_of (bytes_eq (take 8 (drop start file)) (codes "XTENSION")) (later_of (nat_lt 0 (suc k)) (not (bytes_eq (take 8 (drop start file)) (codes "XTENSION"))) more extension)

-- the same by its bytes alone
begins_alone : (k n : ℕ) (bytes : List ℕ) → 80 ≤ n → begins_hdu k bytes ≡ true → begins_hdu k (take n bytes) ≡ true
begins_alone zero n bytes long begins = ap (is_set (codes "SIMPLE")) (take-take 80 n bytes (omega arith)) ∙ begins
begins_alone (suc k) n bytes long begins = ap (λ l. bytes_eq l (codes "XTENSION")) (take-take 8 n bytes (omega arith)) ∙ begins

-- an HDU that is found passes the checks of every job
pub passes_there : (k start : ℕ) (file : List ℕ) (h : Header) → start ≤ length file → hdu_at k start file ≡ Ok h →
    PassesAt k start (length file) (hdu_of file h) × (h.start ≡ start) × (next_start_of h ≤ length file)
unfolding hdu_at
passes_there k start file h before is = by_blocks (header_blocks_of k start file) refl is
  where
    by_blocks : (blocks : Result ℕ Fault) → header_blocks_of k start file ≡ blocks → header_in k start file blocks ≡ Ok h →
        PassesAt k start (length file) (hdu_of file h) × (h.start ≡ start) × (next_start_of h ≤ length file)
    by_blocks (Err fault) blocks is = absurd cc
    by_blocks (Ok n) blocks is =
        let inside = blocks_inside k start n file blocks before in
        let begins = begins_there k start n file blocks in
        let header = take (2880 * n) (drop start file) in
        let long : length header ≡ 2880 * n = omega (arith, length-take (2880 * n) (drop start file), length-drop start file, inside.0) in
        let short : length header ≤ 737280 = omega (arith, long, inside.1) in
        let facts = is_answered k start (length file) header h short is in
        let many : 2880 * h.blocks ≡ 2880 * n = sym (blocks_of header h facts.facts) ∙ long in
        let same : header ≡ (hdu_of file h).header =
        ap (λ m. take m (drop start file)) (sym many) ∙ ap (λ s. take (2880 * h.blocks) (drop s file)) (sym facts.place) in
        let stands : StandsIn file header h = record {
          facts = facts.facts;
          place = ap (λ m. take m (drop h.start file)) long ∙ ap (λ s. take (2880 * n) (drop s file)) facts.place;
          within = omega (arith, facts.within, facts.place, long, many);
        } in (
          record {
            hdu = subst (λ j. IsHdu j (hdu_of file h)) facts.number (its_hdu file header h stands);
            short = omega (arith, short, ap length same);
            number = begins.0;
            begins = subst (λ l. begins_hdu k l ≡ true) same (begins_alone k (2880 * n) (drop start file) (omega (arith, inside.2)) begins.1);
            checks = subst (λ l. IsOk (header_of k start (length file) l)) same (subst IsOk (sym is) refl);
          },
          facts.place,
          stands.within,
        )

-- how long the HDU is
long_there : (file : List ℕ) (h : Header) → next_start_of h ≤ length file → h.start + length (hdu_bytes (hdu_of file h)) ≡ next_start_of h
long_there file h within =
    omega (arith, within, length-append (hdu_of file h).header (hdu_of file h).payload, its_payload file h within, length-take (2880 * h.blocks) (drop h.start file), length-drop h.start file)

-- what is after the first
rest_pass : (judge : Judge) (more k : ℕ) (file : List ℕ) (h : Header) (hs : List Header) → GoesOn judge more k file h hs →
    (walk_from judge more (suc k) (next_start_of h) file ≡ Ok hs → PassFrom (suc k) (next_start_of h) (length file) (map (hdu_of file) hs)) →
    PassFrom (suc k) (next_start_of h) (length file) (map (hdu_of file) hs)
rest_pass judge more k file h hs (inl none) later = subst (λ (l : List Header). PassFrom (suc k) (next_start_of h) (length file) (map (hdu_of file) l)) (sym none.0) tt
rest_pass judge more k file h hs (inr go) later = later go.2

pub all_pass : (judge : Judge) (most k start : ℕ) (file : List ℕ) (hs : List Header) → start ≤ length file → walk_from judge most k start file ≡ Ok hs → PassFrom k start (length file) (map (hdu_of file) hs)
all_pass judge most k start file [] before is = tt
all_pass judge zero k start file (h ∷ hs) before is = absurd (no_room judge k start file (h ∷ hs) is)
all_pass judge (suc more) k start file (h ∷ hs) before is =
    let step = went judge more k start file h hs is in
    let here = passes_there k start file h before step.here in
    let next : start + length (hdu_bytes (hdu_of file h)) ≡ next_start_of h = ap (λ s. s + length (hdu_bytes (hdu_of file h))) (sym here.1) ∙ long_there file h here.2 in (
      here.0,
      subst (λ s. PassFrom (suc k) s (length file) (map (hdu_of file) hs)) (sym next)
          (rest_pass judge more k file h hs step.on (λ walk. all_pass judge more (suc k) (next_start_of h) file hs here.2 walk)),
    )

-- the first begins with SIMPLE and the value T
pub simple_first : (judge : Judge) (most : ℕ) (file : List ℕ) (hs : List Header) → walk_from judge most 0 0 file ≡ Ok hs → is_set (codes "SIMPLE") (card_at file 0) ≡ true
unfolding hdu_at
simple_first judge zero file hs is = absurd (no_room judge 0 0 file hs is)
simple_first judge (suc more) file hs is = by_list hs is
  where
    by_list : (hs : List Header) → walk_from judge (suc more) 0 0 file ≡ Ok hs → is_set (codes "SIMPLE") (card_at file 0) ≡ true
    by_list [] is = let w = walked judge (suc more) 0 0 file [] (omega arith) is in absurd (omega (arith, w.some))
    by_list (h ∷ hs) is = by_blocks (header_blocks_of 0 0 file) refl (went judge more 0 0 file h hs is).here
      where
        by_blocks : (blocks : Result ℕ Fault) → header_blocks_of 0 0 file ≡ blocks → hdu_at 0 0 file ≡ Ok h → is_set (codes "SIMPLE") (card_at file 0) ≡ true
        by_blocks (Err fault) blocks is = let clash : Err fault ≡ Ok h = sym (ap (header_in 0 0 file) blocks) ∙ is in absurd cc
        by_blocks (Ok n) blocks is = (begins_there 0 0 n file blocks).1
