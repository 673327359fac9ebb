-- One line after another.
use Rattle.std.proofs.Common.{◌≡◌, ℕ, ◌+◌, ◌-◌, ◌*◌, ◌<◌, ◌≤◌, List, [], ◌∷◌, length, All, Contains, inl, inr, refl, sym, ap, subst, arith}
use Rattle.std.specs.List.{AllByRecursion}
use Rattle.std.proofs.lemmas.List.Elements.{All-append, All-nil, Contains-append_left, Contains-append_right}
use Rattle.fz_grid.specs.Line.{IsLineWithin, line_in_tile, lines_in_tile}
use Rattle.fz_grid.specs.LineWalks.{lines_left}
use Rattle.fz_grid.specs.declared.line.Line.{Line}
use Rattle.fz_pixels.specs.Parts.{IsPlaceBetween}
use Rattle.fz_pixels.proofs.PixelBytes.{line_first}
use Rattle.fz_pixels.proofs.SpanLemmas.{first_pick, last_pick, line_within, span_ends}
use Rattle.fz_pixels.proofs.span.lines_span.Goals as goal

-- the picks of all lines, after the last one
all_within : (first end : ℕ) (all left : List Line) → left ≡ [] → ((i j : ℕ) → i ≤ first → end ≤ j → All (IsPlaceBetween i j) (lines_in_tile left) → All (IsPlaceBetween i j) (lines_in_tile all))
    → All (IsPlaceBetween first end) (lines_in_tile all)
all_within first end all left none picks =
    picks first end (omega arith) (omega arith) (subst (λ (l : List Line). All (IsPlaceBetween first end) (lines_in_tile l)) (sym none) (All-nil (IsPlaceBetween first end)))

-- of which there is one
is_some : (first end : ℕ) (picks : List ℕ) → 0 < length picks → All (IsPlaceBetween first end) picks → first < end
is_some first end picks some within = let one = within 0 0 some in omega (arith, one.0, one.1)

pub joined-span-requires : goal.joined-span-requires
joined-span-requires c =
    let pixels : ℕ = c.args.pixels in
    let cutout : ℕ = c.requires.within.0 in
    let next : lines_left c.loop-line.line-iterator ≡ c.in-Some.line ∷ lines_left c.next.new.self = c.in-Some.ensures.steps in (
      pixels,
      c.requires.few,
      (cutout, (line_first (IsLineWithin pixels cutout) c.in-Some.line _ _ next (c.loop-line.invariant.within pixels cutout c.requires.within.1)).0),
    )

pub loop-line-init : goal.loop-line-init
loop-line-init c =
    let given : lines_left c.into_iter-line-iterator.result ≡ lines_left c.args.lines = ap lines_left c.into_iter-line-iterator.ensures.into_iter_gives in
    record {
      within = λ n cutout all. subst (λ (l : List Line). AllByRecursion (IsLineWithin n cutout) l) (sym given) all;
      picks = λ i j from to all. subst (λ (l : List Line). All (IsPlaceBetween i j) (lines_in_tile l)) given all;
      left = λ p has. subst (λ (l : List Line). Contains (lines_in_tile l) p) given has;
      ends = inl (refl, refl);
      most = omega arith;
    }

pub loop-line-preserved : goal.loop-line-preserved
loop-line-preserved c =
    let pixels : ℕ = c.args.pixels in
    let cutout : ℕ = c.requires.within.0 in
    let line : Line = c.in-Some.line in
    let last : ℕ = line.in_tile + (line.count - 1) * line.step in
    let all : List ℕ = lines_in_tile (lines_left c.args.lines) in
    let rest : List ℕ = lines_in_tile (lines_left c.next.new.self) in
    let next : lines_left c.loop-line.line-iterator ≡ line ∷ lines_left c.next.new.self = c.in-Some.ensures.steps in
    let here : IsLineWithin pixels cutout line = (line_first (IsLineWithin pixels cutout) line _ _ next (c.loop-line.invariant.within pixels cutout c.requires.within.1)).0 in
    let has : (p : ℕ) → Contains (line_in_tile line) p → Contains all p =
    λ p is. c.loop-line.invariant.left p (subst (λ (l : List Line). Contains (lines_in_tile l) p) (sym next) (Contains-append_left (line_in_tile line) rest p is)) in
    record {
      within = λ n k each. (line_first (IsLineWithin n k) line _ _ next (c.loop-line.invariant.within n k each)).1;
      picks = λ i j from to each.
          let low : i ≤ line.in_tile = omega (arith, from, c.joined-span.ensures.first) in
          let high : last < j = omega (arith, to, c.joined-span.ensures.end) in
          c.loop-line.invariant.picks i j (omega (arith, from, c.joined-span.ensures.first)) (omega (arith, to, c.joined-span.ensures.end))
          (subst (λ (l : List Line). All (IsPlaceBetween i j) (lines_in_tile l)) (sym next) (All-append (IsPlaceBetween i j) (line_in_tile line) rest (line_within line i j low high) each));
      left = λ p is. c.loop-line.invariant.left p (subst (λ (l : List Line). Contains (lines_in_tile l) p) (sym next) (Contains-append_right (line_in_tile line) rest p is));
      ends = inr (span_ends all pixels c.loop-line.span.0 c.loop-line.span.1 line.in_tile last c.joined-span.result.0 c.joined-span.result.1 c.joined-span.ensures.first c.joined-span.ensures.end
          (omega (arith, here.tile)) (has line.in_tile (first_pick line here.some)) (has last (last_pick line here.some)) c.loop-line.invariant.ends);
      most = omega (arith, c.joined-span.ensures.end, here.tile, c.loop-line.invariant.most);
    }

-- ---- after the last line

pub returns-clause-within : goal.returns-clause-within
returns-clause-within c =
    all_within c.loop-line.span.0 c.loop-line.span.1 (lines_left c.args.lines) (lines_left c.loop-line.line-iterator) c.in-None.ensures.steps.0 c.loop-line.invariant.picks

pub returns-clause-some : goal.returns-clause-some
returns-clause-some c =
    is_some c.loop-line.span.0 c.loop-line.span.1 (lines_in_tile (lines_left c.args.lines)) c.requires.some
    (all_within c.loop-line.span.0 c.loop-line.span.1 (lines_left c.args.lines) (lines_left c.loop-line.line-iterator) c.in-None.ensures.steps.0 c.loop-line.invariant.picks)

pub returns-clause-first : goal.returns-clause-first
returns-clause-first c =
    let some = is_some c.loop-line.span.0 c.loop-line.span.1 (lines_in_tile (lines_left c.args.lines)) c.requires.some
    (all_within c.loop-line.span.0 c.loop-line.span.1 (lines_left c.args.lines) (lines_left c.loop-line.line-iterator) c.in-None.ensures.steps.0 c.loop-line.invariant.picks) in
    elim c.loop-line.invariant.ends as (λ e. Contains (lines_in_tile (lines_left c.args.lines)) c.loop-line.span.0) [ inl start ↦ absurd (omega (arith, some, start.1)) | inr ends ↦ ends.0 ]

pub returns-clause-last : goal.returns-clause-last
returns-clause-last c =
    let some = is_some c.loop-line.span.0 c.loop-line.span.1 (lines_in_tile (lines_left c.args.lines)) c.requires.some
    (all_within c.loop-line.span.0 c.loop-line.span.1 (lines_left c.args.lines) (lines_left c.loop-line.line-iterator) c.in-None.ensures.steps.0 c.loop-line.invariant.picks) in
    elim c.loop-line.invariant.ends as (λ e. Contains (lines_in_tile (lines_left c.args.lines)) (c.loop-line.span.1 - 1)) [ inl start ↦ absurd (omega (arith, some, start.1)) | inr ends ↦ ends.1 ]
