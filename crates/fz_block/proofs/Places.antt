-- What is found at a place of a file.
use Rattle.std.proofs.Common.{◌≡◌, ℕ, zero, suc, ◌+◌, ◌-◌, ◌*◌, ◌≤◌, inl, inr, All, List, [], ◌∷◌, length, take, drop, Result, Ok, Err, refl, sym, subst, ◌∙◌, ap, arith}
use Rattle.std.specs.List.{range_with_len}
use Rattle.std.proofs.lemmas.List.{drop-take, take-take, length-map, length-take}
use Rattle.std.proofs.lemmas.List.Elements.{All-cons, All-nil}
use Rattle.std.proofs.lemmas.List.FromFn.{length-range_with_len}
use Rattle.fz_base.specs.declared.fault.Fault.{Fault}
use Rattle.fz_card.specs.Reading.{integer_of}
use Rattle.fz_block.specs.Cards.{card_at}
use Rattle.fz_block.specs.Checks.{Judge, header_blocks_of, hdu_at, walk_from}
use Rattle.fz_block.specs.Facts.{IsHeaderOf}
use Rattle.fz_block.specs.Hdus.{size_at, size_in}
use Rattle.fz_block.specs.Header.{next_start_of}
use Rattle.fz_block.specs.Walk.{hdu_of}
use Rattle.fz_block.specs.declared.header.Header.{Header}
use Rattle.fz_block.proofs.Agains.{as_found, begins_inside, refused_at}
use Rattle.fz_block.proofs.Going.{GoesOn, no_room, went}
use Rattle.fz_block.proofs.HduLemmas.{its_header}
use Rattle.fz_block.proofs.Walks.{IsFound, is_found}

-- a header that is found has the blocks that the search finds
pub blocks_found : (k start : ℕ) (file : List ℕ) (h : Header) → hdu_at k start file ≡ Ok h → header_blocks_of k start file ≡ Ok h.blocks
blocks_found k start file h is = by_blocks (header_blocks_of k start file) refl
  where
    by_blocks : (r : Result ℕ Fault) → header_blocks_of k start file ≡ r → header_blocks_of k start file ≡ Ok h.blocks
    by_blocks (Ok n) e =
        let same : 2880 * h.blocks ≡ 2880 * n = as_found k start n file h e is in
        let many : n ≡ h.blocks = omega (arith, same) in
        e ∙ ap Ok many
    by_blocks (Err x) e = let clash = sym is ∙ refused_at k start file x e in absurd cc

-- so it begins within the file, and is the header of its HDU
found_inside : (k start : ℕ) (file : List ℕ) (h : Header) → hdu_at k start file ≡ Ok h → IsFound k start file h
found_inside k start file h is = is_found k start file h (begins_inside k start h.blocks file (blocks_found k start file h is)) is

pub facts_found : (k start : ℕ) (file : List ℕ) (h : Header) → hdu_at k start file ≡ Ok h → (h.hdu ≡ k) × (h.start ≡ start) × IsHeaderOf (hdu_of file h).header h
facts_found k start file h is =
    let found = found_inside k start file h is in
    let its = its_header file (take (2880 * h.blocks) (drop start file)) h found.stands in
    (found.number, found.place, subst (λ l. IsHeaderOf l h) (sym its) found.stands.facts)

-- the number of axes is that of card 2, also of the file where the header begins it
axes_number : (header : List ℕ) (h : Header) → IsHeaderOf header h → h.axes.n ≡ size_at header 2
axes_number header h is =
    ap (λ (x : Header). x.axes.n) is.facts ∙ (length-map (range_with_len 3 (size_at header 2)) (size_at header) ∙ length-range_with_len 3 (size_at header 2))

front_card : (g : List ℕ) (len : ℕ) → 240 ≤ len → card_at (take len g) 2 ≡ card_at g 2
front_card g len long =
    let split : len ≡ 160 + (len - 160) = omega (arith, long) in
    ap (λ n. take 80 (drop 160 (take n g))) split ∙ (ap (take 80) (drop-take 160 (len - 160) g) ∙ take-take 80 (len - 160) (drop 160 g) (omega (arith, long)))

pub first_axes : (file : List ℕ) (h : Header) → hdu_at 0 0 file ≡ Ok h → h.axes.n ≡ size_at file 2
first_axes file h is =
    let header : List ℕ = (hdu_of file h).header in
    let facts = facts_found 0 0 file h is in
    let long : length header ≡ 2880 * (facts.2.whole.before + 1) = facts.2.whole.blocks in
    let len = length-take (2880 * h.blocks) (drop h.start file) in
    let front : header ≡ take (2880 * h.blocks) file = ap (λ n. take (2880 * h.blocks) (drop n file)) facts.1 in
    axes_number header h facts.2
    ∙ (ap (λ l. size_at l 2) front ∙ ap (λ c. size_in (integer_of c)) (front_card file (2880 * h.blocks) (omega (arith, long, len))))

-- each header of a walk is found where it begins
module _ (judge : Judge) (file : List ℕ) where
  abbrev IsThere : Header → Type 0
  IsThere h = hdu_at h.hdu h.start file ≡ Ok h

  there : (k start : ℕ) (h : Header) → hdu_at k start file ≡ Ok h → IsThere h
  there k start h is =
      let facts = facts_found k start file h is in
      ap (λ j. hdu_at j h.start file) facts.0 ∙ (ap (λ s. hdu_at k s file) facts.1 ∙ is)

  behind : (more k : ℕ) (h : Header) (hs : List Header) → GoesOn judge more k file h hs → (walk_from judge more (suc k) (next_start_of h) file ≡ Ok hs → All IsThere hs) → All IsThere hs
  behind more k h hs (inl none) later = subst (All IsThere) (sym none.0) (All-nil IsThere)
  behind more k h hs (inr go) later = later go.2

  pub all_there : (most k start : ℕ) (hs : List Header) → walk_from judge most k start file ≡ Ok hs → All IsThere hs
  all_there most k start [] is = All-nil IsThere
  all_there zero k start (h ∷ hs) is = absurd (no_room judge k start file (h ∷ hs) is)
  all_there (suc more) k start (h ∷ hs) is =
      let step = went judge more k start file h hs is in
      All-cons IsThere h hs (there k start h step.here) (behind more k h hs step.on (λ walk. all_there more (suc k) (next_start_of h) hs walk))
