-- The HDU at hand is one of those that the first look saw, and where the next one is (FITS 4.0, sections 3.1 and 10.1).
use Rattle.std.proofs.Common.{◌≡◌, ℕ, ◌+◌, ◌≤◌, ◌==◌, Bool, List, ◌∷◌, ◌++◌, length, Option, Some, None, refl, sym, ap, ◌∙◌, subst}
use Rattle.std.specs.List.{find}
use Rattle.std.specs.Option.{option_map}
use Rattle.std.proofs.lemmas.Option.{same_Some}
use Rattle.fz_block.specs.Header.{next_start_of}
use Rattle.fz_block.specs.declared.header.Header.{Header}
use Rattle.fz_files.specs.Restored.{standing}
use Rattle.fz_files.specs.Walks.{headers_for}
use Rattle.fz_files.specs.declared.job.Job.TheVariants.{Unpack}
use Rattle.fz_job.specs.declared.survey.Survey.{Survey}
use Rattle.fz_job.specs.Again.{WereSeen}
use Rattle.fz_job.specs.Known.{IsKnown}
use Rattle.fz_look.specs.Here.{IsPlaced, here_of, here_with}
use Rattle.fz_look.specs.Looked.{first_of}
use Rattle.fz_look.specs.declared.here.Here.{Here}
use Rattle.fz_look.specs.declared.looked.First.{First}
use Rattle.fz_retile.proofs.Numbered.{found_splits}
use Rattle.fz_retile.proofs.Standing.{Begins, IsSeenAt, begins, seen_at}

mapped : {A B : Type 0} (f : A → B) (o : Option A) (b : B) → option_map f o ≡ Some b → (a : A) × (o ≡ Some a) × (f a ≡ b)
mapped f None b is = absurd cc
mapped f (Some a) b is = (a, refl, same_Some (f a) b is)

module _ (g : List ℕ) (s : Survey) (known : IsKnown Unpack g s) where
  -- the headers of the file, and the first HDU that stands for something
  abbrev pub hs : List Header
  hs = known.headers

  abbrev pub first_here : First
  first_here = first_of g known.headers

  pub begun : Begins g s.header_len s.tile known.headers (first_of g known.headers)
  begun = begins g s.header_len s.tile known.headers known.seen.seen

  pub seen_here : (front : List Header) (h : Header) (back : List Header) → standing g known.headers ≡ front ++ h ∷ back → IsSeenAt g s.header_len s.tile h back
  seen_here front h back parts =
      seen_at g s.header_len s.tile first_here.hdu first_here.start front h back
      (subst (λ l. WereSeen g s.header_len s.tile first_here.hdu first_here.start l) parts begun.seen) begun.first

  -- what is found by its number
  pub record IsAmong (k : ℕ) (h : Here) : Type 0 where
    pub front : List Header
    pub header : Header
    pub back : List Header
    pub parts : standing g known.headers ≡ front ++ header ∷ back
    pub number : header.hdu ≡ k
    pub with_it : here_with g header ≡ h

  pub among : (k : ℕ) (h : Here) → here_of g k ≡ Some h → IsAmong k h
  unfolding here_of
  among k h found =
      let one = mapped (here_with g) (find (λ (j : Header). j.hdu == k) (standing g (headers_for Unpack g))) h found in
      let those : find (λ (j : Header). j.hdu == k) (standing g known.headers) ≡ Some one.0 = ap (λ (l : List Header). find (λ (j : Header). j.hdu == k) (standing g l)) (sym known.are) ∙ one.1 in
      let split = found_splits k (standing g known.headers) one.0 those in
      record { front = split.0; header = one.0; back = split.1; parts = split.2; number = split.3; with_it = one.2 }

  -- ---- read once more

  module _ (k start at : ℕ) (flag : Bool) (p : IsPlaced g k start flag at) where
    pub it : IsAmong k p.here
    it = among k p.here p.found

    pub ends_before : next_start_of it.header ≤ length g
    ends_before = (seen_here it.front it.header it.back it.parts).within
