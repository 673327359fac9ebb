-- Where the HDUs that stand for something begin, and which of them is after an empty primary (FITS 4.0, section 10.1).
use Rattle.std.proofs.Common.{◌≡◌, ℕ, zero, suc, ◌+◌, ◌*◌, ◌/◌, ◌-◌, ◌==◌, ◌&&◌, Bool, true, false, List, [], ◌∷◌, length, take, drop, refl, sym, ap, ◌∙◌, subst, if◌then◌else◌, arith}
use Rattle.std.proofs.lemmas.Bool.Decides.{nat_tests}
use Rattle.std.proofs.lemmas.List.{drop-take, take-take}
use Rattle.std.proofs.lemmas.List.FromFn.{length-map-range_with_len}
use Rattle.fz_card.specs.Reading.{integer_of}
use Rattle.fz_block.specs.Cards.{card_at}
use Rattle.fz_block.specs.Hdus.{axes_of, naxis_of, size_at, size_in}
use Rattle.fz_block.specs.Header.{next_start_of}
use Rattle.fz_block.specs.declared.header.Header.{Header}
use Rattle.fz_checks.specs.JobChecks.{is_after_empty}
use Rattle.fz_files.specs.Restored.{header_in, is_packed_primary, standing}
use Rattle.fz_job.specs.Again.{WasSeen, WereSeen, is_empty_primary}
use Rattle.fz_unpack.specs.Behind.{SaysBehind}
use Rattle.fz_unpack.specs.First.{behind_primary, first_of, the_primary}
use Rattle.fz_unpack.specs.declared.first.First.{First}

-- ---- the primary and its axes

-- card 2 of the file is that of its first header
same_card : (blocks : ℕ) (file : List ℕ) → card_at (take (2880 * suc blocks) file) 2 ≡ card_at file 2
same_card blocks file =
    let m : ℕ = 2880 * suc blocks - 160 in
    let long : 2880 * suc blocks ≡ 160 + m = omega arith in
    let front : take (2880 * suc blocks) file ≡ take (160 + m) file = ap (λ n. take n file) long in
    let back : drop 160 (take (160 + m) file) ≡ take m (drop 160 file) = drop-take 160 m file in
    let both : take 80 (take m (drop 160 file)) ≡ take 80 (drop 160 file) = take-take 80 m (drop 160 file) (omega arith) in
    ap (λ (l : List ℕ). take 80 (drop 160 l)) front ∙ ap (take 80) back ∙ both

axes_are : (header : List ℕ) → length (axes_of header) ≡ naxis_of header
axes_are header = length-map-range_with_len (size_at header) 3 (naxis_of header)

-- the primary has no axes where card 2 of the file says so
pub empty_is : (file : List ℕ) (header_len tile : ℕ) (h : Header) → WasSeen file 0 0 header_len tile h → is_empty_primary h ≡ (size_at file 2 == 0)
empty_is file header_len tile h seen =
    let header : List ℕ = header_in file h in
    let is = seen.is_header in
    let blocks : h.blocks ≡ length header / 2880 = ap (λ (j : Header). j.blocks) is.facts in
    let some : h.blocks ≡ suc is.whole.before = omega (arith, blocks, is.whole.blocks) in
    let axes : h.axes.n ≡ length (axes_of header) = ap (λ (j : Header). j.axes.n) is.facts in
    let bytes : header ≡ take (2880 * suc is.whole.before) file =
    ap (λ n. take (2880 * n) (drop h.start file)) some ∙ ap (λ n. take (2880 * suc is.whole.before) (drop n file)) seen.place in
    let size : naxis_of header ≡ size_at file 2 =
    ap (λ (l : List ℕ). size_in (integer_of (card_at l 2))) bytes ∙ ap (λ (l : List ℕ). size_in (integer_of l)) (same_card is.whole.before file) in
    let count : h.axes.n ≡ size_at file 2 = axes ∙ axes_are header ∙ size in
    ap (λ k. k == 0 && h.axes.n == 0) seen.number ∙ ap (λ n. n == 0) count

-- ---- the first HDU that stands for something

pub record Begins (file : List ℕ) (header_len tile : ℕ) (hs : List Header) (f : First) : Type 0 where
  pub count : length hs ≡ f.hdu + length (standing file hs)
  pub seen : WereSeen file header_len tile f.hdu f.start (standing file hs)
  pub flag : SaysBehind file f.after_empty (standing file hs)
  pub first : f.hdu ≡ 0 → f.start ≡ 0

module _ (file : List ℕ) (header_len tile : ℕ) where
  -- HDU 0 is after none
  pub none_behind_it : (h : Header) (start : ℕ) → WasSeen file 0 start header_len tile h → false ≡ is_after_empty file h
  none_behind_it h start seen = ap (λ k. k == 1 && size_at file 2 == 0) (sym seen.number)

  -- and HDU 1 is after the primary
  pub one_behind : (h k : Header) (start : ℕ) → WasSeen file 0 0 header_len tile h → WasSeen file 1 start header_len tile k → is_empty_primary h ≡ is_after_empty file k
  one_behind h k start first next = empty_is file header_len tile h first ∙ ap (λ n. n == 1 && size_at file 2 == 0) (sym next.number)

  begins_by : (b : Bool) (h k : Header) (hs : List Header) → is_packed_primary file k ≡ b → WereSeen file header_len tile 0 0 (h ∷ k ∷ hs) →
      Begins file header_len tile (h ∷ k ∷ hs) (if b then behind_primary h else the_primary)
  begins_by true h k hs is seen =
      let those : k ∷ hs ≡ standing file (h ∷ k ∷ hs) = ap (λ (c : Bool). if c then k ∷ hs else h ∷ k ∷ hs) (sym is) in
      record {
        count = omega (arith, ap length those);
        seen = subst (λ (l : List Header). WereSeen file header_len tile 1 (next_start_of h) l) those seen.1;
        flag = subst (λ (l : List Header). SaysBehind file (is_empty_primary h) l) those (one_behind h k (next_start_of h) seen.0 seen.1.0);
        first = λ e. absurd (omega (arith, e));
      }
  begins_by false h k hs is seen =
      let those : h ∷ k ∷ hs ≡ standing file (h ∷ k ∷ hs) = ap (λ (c : Bool). if c then k ∷ hs else h ∷ k ∷ hs) (sym is) in
      record {
        count = omega (arith, ap length those);
        seen = subst (λ (l : List Header). WereSeen file header_len tile 0 0 l) those seen;
        flag = subst (λ (l : List Header). SaysBehind file false l) those (none_behind_it h 0 seen.0);
        first = λ e. refl;
      }

  begins : (hs : List Header) → WereSeen file header_len tile 0 0 hs → Begins file header_len tile hs (first_of file hs)
  begins [] seen = record { count = omega arith; seen = seen; flag = tt; first = λ e. refl }
  begins (h ∷ []) seen = record { count = omega arith; seen = seen; flag = none_behind_it h 0 seen.0; first = λ e. refl }
  begins (h ∷ k ∷ hs) seen = begins_by (is_packed_primary file k) h k hs refl seen

  pub begins_with : (hs : List Header) (f : First) → WereSeen file header_len tile 0 0 hs → f ≡ first_of file hs → Begins file header_len tile hs f
  begins_with hs f seen is = subst (λ (e : First). Begins file header_len tile hs e) (sym is) (begins hs seen)

  -- ---- the flag of the next HDU

  flag_behind : (k start : ℕ) (h j : Header) → WasSeen file k start header_len tile h → (k ≡ 0 → start ≡ 0) → j.hdu ≡ suc k → is_empty_primary h ≡ is_after_empty file j
  flag_behind zero start h j seen first number =
      empty_is file header_len tile h (subst (λ n. WasSeen file 0 n header_len tile h) (first refl) seen) ∙ ap (λ n. n == 1 && size_at file 2 == 0) (sym number)
  flag_behind (suc k) start h j seen first number =
      let here : (suc k == 0) ≡ false = grind (arith, nat_tests) in
      let next : (suc (suc k) == 1) ≡ false = grind (arith, nat_tests) in
      ap (λ n. n == 0 && h.axes.n == 0) seen.number ∙ ap (λ c. c && h.axes.n == 0) here
      ∙ ap (λ c. c && size_at file 2 == 0) (sym next) ∙ ap (λ n. n == 1 && size_at file 2 == 0) (sym number)

  pub next_flag : (k start : ℕ) (h : Header) (rest : List Header) (next : ℕ) → WasSeen file k start header_len tile h → (k ≡ 0 → start ≡ 0) → WereSeen file header_len tile (suc k) next rest → SaysBehind file (is_empty_primary h) rest
  next_flag k start h [] next seen first were = tt
  next_flag k start h (j ∷ rest) next seen first were = flag_behind k start h j seen first were.0.number
