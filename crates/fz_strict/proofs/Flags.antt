-- Which HDU is behind a primary with NAXIS 0 (FITS 4.0, section 10.1).
use Rattle.std.proofs.Common.{◌≡◌, ℕ, zero, suc, ◌+◌, ◌*◌, ◌/◌, ◌-◌, ◌==◌, ◌&&◌, false, List, [], ◌∷◌, length, take, drop, refl, sym, ap, ◌∙◌, subst, arith}
use Rattle.std.proofs.lemmas.Bool.Decides.{nat_tests}
use Rattle.std.proofs.lemmas.List.{drop-take, take-take}
use Rattle.std.proofs.lemmas.List.FromFn.{length-map-range_with_len}
use Rattle.fz_card.specs.Reading.{integer_of}
use Rattle.fz_block.specs.Cards.{card_at}
use Rattle.fz_block.specs.Hdus.{axes_of, naxis_of, size_at, size_in}
use Rattle.fz_block.specs.declared.header.Header.{Header}
use Rattle.fz_checks.specs.JobChecks.{is_after_empty}
use Rattle.fz_files.specs.Restored.{header_in}
use Rattle.fz_job.specs.Again.{WasSeen, WereSeen, is_empty_primary}
use Rattle.std.specs.Prelude.{Bool, ⊤}

-- the flag says of the first of some HDUs whether it is HDU 1 behind a primary with NAXIS 0
abbrev pub SaysBehind : List ℕ → Bool → List Header → Type 0
SaysBehind file after_empty [] = ⊤
SaysBehind file after_empty (h ∷ hs) = after_empty ≡ is_after_empty file h

-- ---- the primary and its axes

-- card 2 of the file is that of its first header
same_card : (blocks : ℕ) (file : List ℕ) → card_at (take (2880 * suc blocks) file) 2 ≡ card_at file 2
same_card blocks file =
    let m : ℕ = 2880 * suc blocks - 160 in
    let long : 2880 * suc blocks ≡ 160 + m = omega arith in
    let front : take (2880 * suc blocks) file ≡ take (160 + m) file = ap (λ n. take n file) long in
    let back : drop 160 (take (160 + m) file) ≡ take m (drop 160 file) = drop-take 160 m file in
    let both : take 80 (take m (drop 160 file)) ≡ take 80 (drop 160 file) = take-take 80 m (drop 160 file) (omega arith) in
    ap (λ (l : List ℕ). take 80 (drop 160 l)) front ∙ ap (take 80) back ∙ both

axes_are : (header : List ℕ) → length (axes_of header) ≡ naxis_of header
axes_are header = length-map-range_with_len (size_at header) 3 (naxis_of header)

-- card 2 of the file says how many axes the primary has
pub naxis_is : (file : List ℕ) (header_len tile : ℕ) (h : Header) → WasSeen file 0 0 header_len tile h → naxis_of (header_in file h) ≡ size_at file 2
naxis_is file header_len tile h seen =
    let header : List ℕ = header_in file h in
    let is = seen.is_header in
    let blocks : h.blocks ≡ length header / 2880 = ap (λ (j : Header). j.blocks) is.facts in
    let some : h.blocks ≡ suc is.whole.before = omega (arith, blocks, is.whole.blocks) in
    let bytes : header ≡ take (2880 * suc is.whole.before) file =
    ap (λ n. take (2880 * n) (drop h.start file)) some ∙ ap (λ n. take (2880 * suc is.whole.before) (drop n file)) seen.place in
    ap (λ (l : List ℕ). size_in (integer_of (card_at l 2))) bytes ∙ ap (λ (l : List ℕ). size_in (integer_of l)) (same_card is.whole.before file)

-- so it has none where that says so
empty_is : (file : List ℕ) (header_len tile : ℕ) (h : Header) → WasSeen file 0 0 header_len tile h → is_empty_primary h ≡ (size_at file 2 == 0)
empty_is file header_len tile h seen =
    let header : List ℕ = header_in file h in
    let axes : h.axes.n ≡ length (axes_of header) = ap (λ (j : Header). j.axes.n) seen.is_header.facts in
    let count : h.axes.n ≡ size_at file 2 = axes ∙ axes_are header ∙ naxis_is file header_len tile h seen in
    ap (λ k. k == 0 && h.axes.n == 0) seen.number ∙ ap (λ n. n == 0) count

-- ---- the flag of an HDU

module _ (file : List ℕ) (header_len tile : ℕ) where
  -- HDU 0 is behind none
  pub none_behind_it : (h : Header) (start : ℕ) → WasSeen file 0 start header_len tile h → false ≡ is_after_empty file h
  none_behind_it h start seen = ap (λ k. k == 1 && size_at file 2 == 0) (sym seen.number)

  -- and HDU 1 is behind the primary
  pub one_behind : (h k : Header) (start : ℕ) → WasSeen file 0 0 header_len tile h → WasSeen file 1 start header_len tile k → is_empty_primary h ≡ is_after_empty file k
  one_behind h k start first next = empty_is file header_len tile h first ∙ ap (λ n. n == 1 && size_at file 2 == 0) (sym next.number)

  flag_behind : (k start : ℕ) (h j : Header) → WasSeen file k start header_len tile h → (k ≡ 0 → start ≡ 0) → j.hdu ≡ suc k → is_empty_primary h ≡ is_after_empty file j
  flag_behind zero start h j seen first number =
      empty_is file header_len tile h (subst (λ n. WasSeen file 0 n header_len tile h) (first refl) seen) ∙ ap (λ n. n == 1 && size_at file 2 == 0) (sym number)
  flag_behind (suc k) start h j seen first number =
      let here : (suc k == 0) ≡ false = grind (arith, nat_tests) in
      let next : (suc (suc k) == 1) ≡ false = grind (arith, nat_tests) in
      ap (λ n. n == 0 && h.axes.n == 0) seen.number ∙ ap (λ c. c && h.axes.n == 0) here
      ∙ ap (λ c. c && size_at file 2 == 0) (sym next) ∙ ap (λ n. n == 1 && size_at file 2 == 0) (sym number)

  pub next_flag : (k start : ℕ) (h : Header) (rest : List Header) (next : ℕ) → WasSeen file k start header_len tile h → (k ≡ 0 → start ≡ 0) → WereSeen file header_len tile (suc k) next rest → SaysBehind file (is_empty_primary h) rest
  next_flag k start h [] next seen first were = tt
  next_flag k start h (j ∷ rest) next seen first were = flag_behind k start h j seen first were.0.number

  pub first_flag : (hs : List Header) → WereSeen file header_len tile 0 0 hs → SaysBehind file false hs
  first_flag [] seen = tt
  first_flag (h ∷ hs) seen = none_behind_it h 0 seen.0
