-- The cards of checksums: which are told, and what is written in their place (FITS 4.0, section 4.4.2.7).
use Rattle.std.proofs.Common.{◌≡◌, ◌≢◌, is_none, ℕ, ◌-◌, ◌*◌, ◌/◌, ◌<◌, ◌≤◌, ◌&&◌, not, nat_lt, Bool, true, false, cond, ltb, List, [], ◌++◌, length, take, drop, Option, Some, None, if◌then◌else◌, is_some, unwrap_or, refl, sym, ap, ◌∙◌, subst, arith, zero-add, length-take-le, lt-ltb, ltb-true}
use Rattle.std.specs.Prelude.{IfSome}
use Rattle.std.specs.List.{find, position, position_or_len}
use Rattle.std.specs.Option.{option_and_then, option_map}
use Rattle.std.proofs.lemmas.List.Folds.{find_at}
use Rattle.std.proofs.lemmas.List.FromFn.{get_or-map-range_with_len, length-map-range_with_len}
use Rattle.std.proofs.lemmas.Option.{slice_get-get_or}
use Rattle.fz_base.specs.Counts.{Amend}
use Rattle.fz_card.specs.CardLists.{first_of_name, has_name}
use Rattle.fz_card.specs.Reading.{text_of}
use Rattle.fz_block.specs.Cards.{card_at, end_of, first_card}
use Rattle.fz_block.specs.Facts.{IsHeaderOf}
use Rattle.fz_block.specs.Hdus.{cards_of}
use Rattle.fz_block.specs.Header.{data_start_of, next_start_of, whole_blocks_of}
use Rattle.fz_block.specs.Walk.{hdu_of}
use Rattle.fz_block.specs.declared.header.Header.{Header}
use Rattle.fz_sum.specs.Cards.{checksum_name, datasum_name}
use Rattle.fz_sum.specs.Sums.{ones_sum}
use Rattle.fz_sum.specs.Verdicts.{is_some_text}
use Rattle.fz_table.specs.Columns.{first_named}
use Rattle.fz_head.specs.CardLists.{index_of}
use Rattle.fz_laws.specs.Writes.{told_sum}
use Rattle.fz_patch.specs.Cards.{checksum_write, datasum_write, sums_writes, with_datasum}
use Rattle.fz_target.specs.Steps.{Wrote, WroteSome}
use Rattle.fz_patch.proofs.Wrotes.{some-back, some-front, wrote-then}

-- the first card with a property is that of the bytes and that of the list
abbrev pub FirstOfBoth : Type 0
FirstOfBoth = (has : List ℕ → Bool) (header : List ℕ) → first_card has header ≡ position has (cards_of header)

index_is : FirstOfBoth → (name header : List ℕ) → first_named name header ≡ index_of name (cards_of header)
unfolding first_named
index_is law name header = law (has_name name) header

picked : (b : Bool) (k i : ℕ) → cond b (Some k) None ≡ Some i → (b ≡ true) × (k ≡ i)
picked true k i e = (refl, cc)
picked false k i e = absurd cc

-- the card itself
found_card : (has : List ℕ → Bool) (header : List ℕ) (i : ℕ) → position has (cards_of header) ≡ Some i → find has (cards_of header) ≡ Some (card_at header i)
found_card has header i at =
    let n : ℕ = unwrap_or (end_of header) 0 in
    let cards : List (List ℕ) = cards_of header in
    let k : ℕ = position_or_len has cards in
    let both = picked (ltb k (length cards)) k i at in
    let inside : k < length cards = ltb-true k (length cards) both.0 in
    let long : length cards ≡ n = length-map-range_with_len (card_at header) 0 n in
    let same : k ≡ i = both.1 in
    find_at has cards ∙ slice_get-get_or cards k [] inside ∙ ap Some (get_or-map-range_with_len (card_at header) 0 n k k [] (omega (arith, inside, long)) (zero-add k) ∙ ap (card_at header) same)

-- the text of the card that was found
pub told_at : (name header : List ℕ) (i : ℕ) → index_of name (cards_of header) ≡ Some i → told_sum name header ≡ (if is_some_text (text_of (card_at header i)) then Some i else None)
told_at name header i at =
    let card : first_of_name name (cards_of header) ≡ Some (card_at header i) = found_card (has_name name) header i at in
    λ j. if is_some_text (option_and_then text_of (card j)) then at j else None

told_by : FirstOfBoth → (name header : List ℕ) (i : ℕ) → first_named name header ≡ Some i → told_sum name header ≡ (if is_some_text (text_of (card_at header i)) then Some i else None)
told_by law name header i named = told_at name header i (sym (index_is law name header) ∙ named)

none_either : (b : Bool) (o : Option ℕ) → o ≡ None → (if b then o else None) ≡ None
none_either true o e = e
none_either false o e = refl

pub told_nowhere : (name header : List ℕ) → index_of name (cards_of header) ≡ None → told_sum name header ≡ None
told_nowhere name header none = none_either (is_some_text (option_and_then text_of (first_of_name name (cards_of header)))) (index_of name (cards_of header)) none

-- no card has the name
pub told_absent : FirstOfBoth → (name header : List ℕ) → first_named name header ≡ None → None ≡ told_sum name header
told_absent law name header none = sym (told_nowhere name header (sym (index_is law name header) ∙ none))

-- the text of the first is empty, or it has none
pub told_empty : FirstOfBoth → (name header : List ℕ) (i : ℕ) (n : Option ℕ) (into : List ℕ) → first_named name header ≡ Some i → option_map (λ k. take k into) n ≡ text_of (card_at header i) → IfSome n (λ k. k ≤ length into) →
    unwrap_or n 0 ≡ 0 → None ≡ told_sum name header
told_empty law name header i None into named text few none = sym (told_by law name header i named ∙ ap (λ t. if is_some_text t then Some i else None) (sym text))
told_empty law name header i (Some k) into named text few none =
    let empty : take k into ≡ [] = ap (λ m. take m into) none in
    sym (told_by law name header i named ∙ ap (λ t. if is_some_text t then Some i else None) (sym text) ∙ ap (λ (l : List ℕ). if nat_lt 0 (length l) then Some i else None) empty)

-- or it has some
pub told_some : FirstOfBoth → (name header : List ℕ) (i : ℕ) (n : Option ℕ) (into : List ℕ) → first_named name header ≡ Some i → option_map (λ k. take k into) n ≡ text_of (card_at header i) → IfSome n (λ k. k ≤ length into) →
    unwrap_or n 0 ≢ 0 → Some i ≡ told_sum name header
told_some law name header i None into named text few some = absurd (some refl)
told_some law name header i (Some k) into named text few some =
    let long : length (take k into) ≡ k = length-take-le k into few in
    let more : nat_lt 0 (length (take k into)) ≡ true = lt-ltb 0 (length (take k into)) (omega (arith, long, some)) in
    sym (told_by law name header i named ∙ ap (λ t. if is_some_text t then Some i else None) (sym text) ∙ ap (λ b. if b then Some i else None) more)

-- ---- both writes

none_is : (o : Option ℕ) → is_none o ≡ true → o ≡ None
none_is None e = refl
none_is (Some i) e = absurd cc

-- whether both are
pub none_then : (a b : Option ℕ) (none : Bool) → a ≡ None → is_some b ≡ not none → none ≡ (is_none a && is_none b)
none_then a b none is test = twice none ∙ sym (ap not test) ∙ sym (ap (λ o. is_none o && is_none b) is)
  where
    twice : (t : Bool) → t ≡ not (not t)
    twice true = refl
    twice false = refl

pub both_none : (a b : Option ℕ) → (is_none a && is_none b) ≡ true → (is_none a ≡ true) × (is_none b ≡ true)
both_none None b e = (refl, e)
both_none (Some i) b e = absurd cc

-- no card is told
pub no_sums : (h : Header) (f header : List ℕ) (datasum checksum : Option ℕ) → datasum ≡ told_sum datasum_name header → checksum ≡ told_sum checksum_name header → is_none datasum ≡ true → is_none checksum ≡ true → sums_writes h f header ≡ []
no_sums h f header datasum checksum first second one two =
    let payload : List ℕ = (hdu_of f h).payload in
    let sum : ℕ = ones_sum payload in
    let a : told_sum datasum_name header ≡ None = sym first ∙ none_is datasum one in
    let b : told_sum checksum_name header ≡ None = sym second ∙ none_is checksum two in
    λ j. datasum_write h (a j) sum ++ checksum_write h (b j) payload (with_datasum (a j) sum header)

-- the two writes, as they are made
pub sums_are : (h : Header) (f header now : List ℕ) (datasum checksum : Option ℕ) (sum : ℕ) → datasum ≡ told_sum datasum_name header → checksum ≡ told_sum checksum_name header → sum ≡ ones_sum (hdu_of f h).payload →
    now ≡ with_datasum datasum sum header → datasum_write h datasum sum ++ checksum_write h checksum (hdu_of f h).payload now ≡ sums_writes h f header
sums_are h f header now datasum checksum sum first second value made =
    let payload : List ℕ = (hdu_of f h).payload in
    let header_is : now ≡ with_datasum (told_sum datasum_name header) (ones_sum payload) header = made ∙ (λ j. with_datasum (first j) (value j) header) in
    λ j. datasum_write h (first j) (value j) ++ checksum_write h (second j) payload (header_is j)

pub sums_wrote : (h : Header) (f header now : List ℕ) (datasum checksum : Option ℕ) (sum : ℕ) (held mid held' : Option (List ℕ)) (log log' log'' : Option (List Amend)) → datasum ≡ told_sum datasum_name header → checksum ≡ told_sum checksum_name header →
    sum ≡ ones_sum (hdu_of f h).payload → now ≡ with_datasum datasum sum header → Wrote (datasum_write h datasum sum) held mid log log' → Wrote (checksum_write h checksum (hdu_of f h).payload now) mid held' log' log'' →
    Wrote (sums_writes h f header) held held' log log''
sums_wrote h f header now datasum checksum sum held mid held' log log' log'' first second value made one two =
    subst (λ ws. Wrote ws held held' log log'') (sums_are h f header now datasum checksum sum first second value made)
    (wrote-then (datasum_write h datasum sum) (checksum_write h checksum (hdu_of f h).payload now) held mid held' log log' log'' one two)

-- those that were made of the first, and of both
pub sums_front : (h : Header) (f header : List ℕ) (datasum : Option ℕ) (sum : ℕ) (held held' : Option (List ℕ)) (log log' : Option (List Amend)) → datasum ≡ told_sum datasum_name header → sum ≡ ones_sum (hdu_of f h).payload →
    WroteSome (datasum_write h datasum sum) held held' log log' → WroteSome (sums_writes h f header) held held' log log'
sums_front h f header datasum sum held held' log log' first value some =
    subst (λ ws. WroteSome ws held held' log log') (sums_are h f header (with_datasum datasum sum header) datasum (told_sum checksum_name header) sum first refl value refl)
    (some-front (datasum_write h datasum sum) (checksum_write h (told_sum checksum_name header) (hdu_of f h).payload (with_datasum datasum sum header)) held held' log log' some)

pub sums_back : (h : Header) (f header now : List ℕ) (datasum checksum : Option ℕ) (sum : ℕ) (held mid held' : Option (List ℕ)) (log log' log'' : Option (List Amend)) → datasum ≡ told_sum datasum_name header → checksum ≡ told_sum checksum_name header →
    sum ≡ ones_sum (hdu_of f h).payload → now ≡ with_datasum datasum sum header → Wrote (datasum_write h datasum sum) held mid log log' → WroteSome (checksum_write h checksum (hdu_of f h).payload now) mid held' log' log'' →
    WroteSome (sums_writes h f header) held held' log log''
sums_back h f header now datasum checksum sum held mid held' log log' log'' first second value made one some =
    subst (λ ws. WroteSome ws held held' log log'') (sums_are h f header now datasum checksum sum first second value made)
    (some-back (datasum_write h datasum sum) (checksum_write h checksum (hdu_of f h).payload now) held mid held' log log' log'' one some)

-- the data are what is between the header and the next one
pub data_between : (h : Header) (f : List ℕ) (start end : ℕ) → start ≡ data_start_of h → end ≡ next_start_of h → take (end - start) (drop start f) ≡ (hdu_of f h).payload
data_between h f start end from to =
    let long : end - start ≡ whole_blocks_of h.data_len = omega (arith, from, to) in
    λ j. take (long j) (drop (from j) f)

-- ---- the length of a header

pub header_long : (header : List ℕ) (h : Header) → IsHeaderOf header h → length header ≡ 2880 * h.blocks
header_long header h is =
    let blocks = is.whole.blocks in
    let same : h.blocks ≡ length header / 2880 = ap (λ (x : Header). x.blocks) is.facts in
    omega (arith, blocks, same)
