-- The HDUs that stand for something, of a file that the first look knows: where each begins, and which of them is after an empty primary (FITS
-- 4.0, sections 3.1 and 10.1).
use Rattle.std.proofs.Common.{◌≡◌, ℕ, suc, ◌+◌, ◌/◌, ◌<◌, ◌≤◌, Bool, true, false, List, [], ◌∷◌, ◌++◌, length, refl, sym, ap, ◌∙◌, subst, if◌then◌else◌, arith}
use Rattle.fz_block.specs.Header.{next_start_of}
use Rattle.fz_block.specs.declared.header.Header.{Header}
use Rattle.fz_files.specs.Restored.{header_in, is_packed_primary, standing}
use Rattle.fz_job.specs.Again.{WasSeen, WereSeen, is_empty_primary}
use Rattle.fz_look.specs.Looked.{behind_primary, first_of, the_primary}
use Rattle.fz_look.specs.declared.looked.First.{First}
use Rattle.fz_retile.proofs.Flags.{SaysBehind, next_flag, none_behind_it, one_behind}

-- ---- the first HDU that stands for something

pub record Begins (file : List ℕ) (header_len tile : ℕ) (hs : List Header) (f : First) : Type 0 where
  pub count : length hs ≡ f.hdu + length (standing file hs)
  pub seen : WereSeen file header_len tile f.hdu f.start (standing file hs)
  pub flag : SaysBehind file f.after_empty (standing file hs)
  pub first : f.hdu ≡ 0 → f.start ≡ 0

module _ (file : List ℕ) (header_len tile : ℕ) where
  begins_by : (b : Bool) (h k : Header) (hs : List Header) → is_packed_primary file k ≡ b → WereSeen file header_len tile 0 0 (h ∷ k ∷ hs) →
      Begins file header_len tile (h ∷ k ∷ hs) (if b then behind_primary h else the_primary)
  begins_by true h k hs is seen =
      let those : k ∷ hs ≡ standing file (h ∷ k ∷ hs) = ap (λ (c : Bool). if c then k ∷ hs else h ∷ k ∷ hs) (sym is) in
      record {
        count = omega (arith, ap length those);
        seen = subst (λ (l : List Header). WereSeen file header_len tile 1 (next_start_of h) l) those seen.1;
        flag = subst (λ (l : List Header). SaysBehind file (is_empty_primary h) l) those (one_behind file header_len tile h k (next_start_of h) seen.0 seen.1.0);
        first = λ e. absurd (omega (arith, e));
      }
  begins_by false h k hs is seen =
      let those : h ∷ k ∷ hs ≡ standing file (h ∷ k ∷ hs) = ap (λ (c : Bool). if c then k ∷ hs else h ∷ k ∷ hs) (sym is) in
      record {
        count = omega (arith, ap length those);
        seen = subst (λ (l : List Header). WereSeen file header_len tile 0 0 l) those seen;
        flag = subst (λ (l : List Header). SaysBehind file false l) those (none_behind_it file header_len tile h 0 seen.0);
        first = λ e. refl;
      }

  pub begins : (hs : List Header) → WereSeen file header_len tile 0 0 hs → Begins file header_len tile hs (first_of file hs)
  begins [] seen = record { count = omega arith; seen = seen; flag = tt; first = λ e. refl }
  begins (h ∷ []) seen = record { count = omega arith; seen = seen; flag = none_behind_it file header_len tile h 0 seen.0; first = λ e. refl }
  begins (h ∷ k ∷ hs) seen = begins_by (is_packed_primary file k) h k hs refl seen

  -- ---- one of some HDUs

  -- each has a block at least, so that it begins before the file ends
  pub has_block : (k start : ℕ) (h : Header) → WasSeen file k start header_len tile h → 1 ≤ h.blocks
  has_block k start h seen =
      let blocks : h.blocks ≡ length (header_in file h) / 2880 = ap (λ (j : Header). j.blocks) seen.is_header.facts in
      omega (arith, blocks, seen.is_header.whole.blocks)

  ends_within : (k start : ℕ) (hs : List Header) → WereSeen file header_len tile k start hs → start ≤ length file
  ends_within k start [] seen = omega (arith, seen)
  ends_within k start (h ∷ hs) seen =
      let later = ends_within (suc k) (next_start_of h) hs seen.1 in
      omega (arith, later, seen.0.place)

  pub begins_within : (k start : ℕ) (h : Header) (hs : List Header) → WereSeen file header_len tile k start (h ∷ hs) → (start < length file) × (next_start_of h ≤ length file)
  begins_within k start h hs seen =
      let later : next_start_of h ≤ length file = ends_within (suc k) (next_start_of h) hs seen.1 in
      let some : 1 ≤ h.blocks = has_block k start h seen.0 in
      let place : h.start ≡ start = seen.0.place in
      (omega (arith, later, some, place), later)

  -- an HDU that was seen, and those after it
  pub record IsSeenAt (h : Header) (back : List Header) : Type 0 where
    pub seen : WasSeen file h.hdu h.start header_len tile h
    pub first : h.hdu ≡ 0 → h.start ≡ 0
    pub after : WereSeen file header_len tile (suc h.hdu) (next_start_of h) back
    pub next : SaysBehind file (is_empty_primary h) back
    pub within : next_start_of h ≤ length file

  pub seen_at : (k start : ℕ) (front : List Header) (h : Header) (back : List Header) → WereSeen file header_len tile k start (front ++ h ∷ back) → (k ≡ 0 → start ≡ 0) → IsSeenAt h back
  seen_at k start [] h back were first =
      let s = were.0 in
      record {
        seen = subst (λ n. WasSeen file n h.start header_len tile h) (sym s.number) (subst (λ m. WasSeen file k m header_len tile h) (sym s.place) s);
        first = λ none. s.place ∙ first (sym s.number ∙ none);
        after = subst (λ n. WereSeen file header_len tile (suc n) (next_start_of h) back) (sym s.number) were.1;
        next = next_flag file header_len tile k start h back (next_start_of h) s first were.1;
        within = (begins_within k start h back were).1;
      }
  seen_at k start (f ∷ front) h back were first = seen_at (suc k) (next_start_of f) front h back were.1 (λ none. absurd (omega (arith, none)))
