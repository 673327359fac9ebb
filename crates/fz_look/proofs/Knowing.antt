-- The HDU at hand is one of those that the first look saw, and where the next one is (FITS 4.0, sections 3.1 and 10.1).
use Rattle.std.proofs.Common.{◌≡◌, ℕ, suc, ◌+◌, ◌<◌, ◌≤◌, ◌==◌, Bool, true, false, if◌then◌else◌, List, [], ◌∷◌, ◌++◌, length, Option, Some, None, Result, Ok, refl, sym, ap, ◌∙◌, subst, arith}
use Rattle.std.specs.List.{find}
use Rattle.std.specs.Option.{option_map}
use Rattle.std.proofs.lemmas.List.{length-append}
use Rattle.std.proofs.lemmas.Option.{same_Some}
use Rattle.fz_base.specs.Stop.{IfRefused}
use Rattle.fz_base.specs.declared.failure.Stop.{Stop}
use Rattle.fz_block.specs.Header.{next_start_of}
use Rattle.fz_block.specs.declared.header.Header.{Header}
use Rattle.fz_checks.specs.JobChecks.{is_after_empty}
use Rattle.fz_files.specs.Restored.{is_packed_primary, standing}
use Rattle.fz_files.specs.RestoredFile.{restored, restored_hdu}
use Rattle.fz_files.specs.Walks.{headers_for}
use Rattle.fz_files.specs.declared.job.Job.TheVariants.{Unpack}
use Rattle.fz_job.specs.declared.survey.Survey.{Survey}
use Rattle.fz_job.specs.Again.{ReadsAsSeen, WasSeen, WereSeen, is_empty_primary}
use Rattle.fz_job.specs.Known.{IsKnown}
use Rattle.fz_job.specs.declared.again.ReadHdu.{ReadHdu}
use Rattle.fz_look.specs.Here.{IsPlaced, here_of, here_with, place_of}
use Rattle.fz_look.specs.Laws.{HasNext}
use Rattle.fz_look.specs.Looked.{first_of}
use Rattle.fz_look.specs.declared.here.Here.{Here}
use Rattle.fz_look.specs.declared.looked.First.{First}
use Rattle.fz_look.proofs.Numbered.{AreNumbered, found_splits, number_at, seam}
use Rattle.fz_look.proofs.Places.{AreHere, here_is, next_place, place_is, plain_front, restored_is}
use Rattle.fz_look.proofs.Flags.{SaysBehind}
use Rattle.fz_look.proofs.Standing.{Begins, IsSeenAt, begins, begins_within, numbered, seen_at}

mapped : {A B : Type 0} (f : A → B) (o : Option A) (b : B) → option_map f o ≡ Some b → (a : A) × (o ≡ Some a) × (f a ≡ b)
mapped f None b is = absurd cc
mapped f (Some a) b is = (a, refl, same_Some (f a) b is)

some_by : (b : Bool) (h k : Header) (l : List Header) → 0 < length (if b then k ∷ l else h ∷ k ∷ l)
some_by true h k l = omega arith
some_by false h k l = omega arith

some_stand : (g : List ℕ) (l : List Header) → 0 < length l → 0 < length (standing g l)
some_stand g [] more = absurd (omega (arith, more))
some_stand g (h ∷ []) more = omega arith
some_stand g (h ∷ k ∷ l) more = some_by (is_packed_primary g k) h k l

module _ (g : List ℕ) (s : Survey) (known : IsKnown Unpack g s) where
  abbrev pub first_here : First
  first_here = first_of g known.headers

  pub begun : Begins g s.header_len s.tile known.headers (first_of g known.headers)
  begun = begins g s.header_len s.tile known.headers known.seen.seen

  -- the HDU with this header stands for something, between these
  pub are_here : (front : List Header) (h : Header) (back : List Header) → standing g known.headers ≡ front ++ h ∷ back → AreHere g first_here.hdu (front ++ h ∷ back)
  are_here front h back parts = (
    ap (standing g) known.are ∙ parts,
    subst (AreNumbered first_here.hdu) parts (numbered g s.header_len s.tile first_here.hdu first_here.start (standing g known.headers) begun.seen),
  )

  pub seen_here : (front : List Header) (h : Header) (back : List Header) → standing g known.headers ≡ front ++ h ∷ back → IsSeenAt g s.header_len s.tile h back
  seen_here front h back parts =
      seen_at g s.header_len s.tile first_here.hdu first_here.start front h back
      (subst (λ l. WereSeen g s.header_len s.tile first_here.hdu first_here.start l) parts begun.seen) begun.first

  -- what is found by its number
  pub record IsAmong (k : ℕ) (h : Here) : Type 0 where
    pub front : List Header
    pub header : Header
    pub back : List Header
    pub parts : standing g known.headers ≡ front ++ header ∷ back
    pub number : header.hdu ≡ k
    pub with_it : here_with g header ≡ h

  pub among : (k : ℕ) (h : Here) → here_of g k ≡ Some h → IsAmong k h
  unfolding here_of
  among k h found =
      let one = mapped (here_with g) (find (λ (j : Header). j.hdu == k) (standing g (headers_for Unpack g))) h found in
      let those : find (λ (j : Header). j.hdu == k) (standing g known.headers) ≡ Some one.0 = ap (λ (l : List Header). find (λ (j : Header). j.hdu == k) (standing g l)) (sym known.are) ∙ one.1 in
      let split = found_splits k (standing g known.headers) one.0 those in
      record { front = split.0; header = one.0; back = split.1; parts = split.2; number = split.3; with_it = one.2 }

  -- it is placed there
  pub placed : (front : List Header) (h : Header) (back : List Header) (k start at : ℕ) (flag : Bool) → standing g known.headers ≡ front ++ h ∷ back → h.hdu ≡ k → h.start ≡ start →
      is_after_empty g h ≡ flag → place_of g h ≡ at → IsPlaced g k start flag at
  placed front h back k start at flag parts number begin behind place = record {
    here = here_with g h;
    found = ap (here_of g) (sym number) ∙ here_is g first_here.hdu front h back (are_here front h back parts);
    start_is = begin;
    flag = behind;
    place = place;
  }

  -- ---- the first one

  first_by : 0 < s.hdus → (l : List Header) → standing g known.headers ≡ l → IsPlaced g first_here.hdu first_here.start first_here.after_empty 0
  first_by some [] parts =
      let there : 0 < length (standing g known.headers) = some_stand g known.headers (omega (arith, some, known.seen.count)) in
      absurd (omega (arith, there, ap length parts))
  first_by some (h ∷ back) parts =
      let were : WereSeen g s.header_len s.tile first_here.hdu first_here.start (h ∷ back) = subst (λ (l : List Header). WereSeen g s.header_len s.tile first_here.hdu first_here.start l) parts begun.seen in
      let flag : first_here.after_empty ≡ is_after_empty g h = subst (λ (l : List Header). SaysBehind g first_here.after_empty l) parts begun.flag in
      placed [] h back first_here.hdu first_here.start 0 first_here.after_empty parts were.0.number were.0.place (sym flag) (place_is g first_here.hdu [] h back (are_here [] h back parts))

  pub first_placed : (f : First) → 0 < s.hdus → f ≡ first_of g (headers_for Unpack g) → IsPlaced g f.hdu f.start f.after_empty 0
  first_placed f some is =
      let same : first_here ≡ f = sym (is ∙ ap (first_of g) known.are) in
      subst (λ (e : First). IsPlaced g e.hdu e.start e.after_empty 0) same (first_by some (standing g known.headers) refl)

  -- ---- the next one

  -- where an HDU ends is within the plain bytes
  pub ends_in : (front : List Header) (h : Header) (back : List Header) → standing g known.headers ≡ front ++ h ∷ back →
      length (restored g) ≡ place_of g h + length (restored_hdu g h) + length (plain_front g first_here.hdu back)
  ends_in front h back parts =
      let are = are_here front h back parts in
      let whole : length (restored g) ≡ length (plain_front g first_here.hdu front ++ (restored_hdu g h ++ plain_front g first_here.hdu back)) = ap length (restored_is g first_here.hdu front h back are) in
      let one : length (plain_front g first_here.hdu front ++ (restored_hdu g h ++ plain_front g first_here.hdu back)) ≡ length (plain_front g first_here.hdu front) + length (restored_hdu g h ++ plain_front g first_here.hdu back) =
      length-append (plain_front g first_here.hdu front) (restored_hdu g h ++ plain_front g first_here.hdu back) in
      let two : length (restored_hdu g h ++ plain_front g first_here.hdu back) ≡ length (restored_hdu g h) + length (plain_front g first_here.hdu back) = length-append (restored_hdu g h) (plain_front g first_here.hdu back) in
      let place : place_of g h ≡ length (plain_front g first_here.hdu front) = place_is g first_here.hdu front h back are in
      omega (arith, whole, one, two, place)

  pub last_in : (h : Here) → here_of g h.read.header.hdu ≡ Some h → h.end ≤ length (restored g)
  last_in h found =
      let a = among h.read.header.hdu h found in
      let all : length (restored g) ≡ (here_with g a.header).end + length (plain_front g first_here.hdu a.back) = ends_in a.front a.header a.back a.parts in
      let end : (here_with g a.header).end ≡ h.end = ap (λ (e : Here). e.end) a.with_it in
      omega (arith, all, end)

  next_by : (front : List Header) (h : Header) (back : List Header) → standing g known.headers ≡ front ++ h ∷ back → (here_with g h).end < length (restored g) → HasNext g s (here_with g h)
  next_by front h [] parts more =
      let all : length (restored g) ≡ (here_with g h).end + 0 = ends_in front h [] parts in
      absurd (omega (arith, all, more))
  next_by front h (n ∷ back) parts more =
      let seen = seen_here front h (n ∷ back) parts in
      let next = begins_within g s.header_len s.tile (suc h.hdu) (next_start_of h) n back seen.after in
      let those : standing g known.headers ≡ (front ++ h ∷ []) ++ n ∷ back = parts ∙ sym (seam front h (n ∷ back)) in
      let number : n.hdu ≡ h.hdu + 1 = omega (arith, seen.after.0.number) in
      let begin : n.start ≡ next_start_of h = seen.after.0.place in
      let flag : is_after_empty g n ≡ is_empty_primary h = sym seen.next in
      let place : place_of g n ≡ (here_with g h).end = next_place g first_here.hdu front h n back (are_here front h (n ∷ back) parts) in
      let here : h.hdu ≡ first_here.hdu + length front = number_at first_here.hdu front h (n ∷ back) (are_here front h (n ∷ back) parts).1 in
      let long : length (standing g known.headers) ≡ length front + length (h ∷ n ∷ back) = ap length parts ∙ length-append front (h ∷ n ∷ back) in
      record {
        more = omega (arith, here, long, begun.count, known.seen.count);
        within = next.0;
        placed = placed (front ++ h ∷ []) n back (h.hdu + 1) (next_start_of h) (here_with g h).end (is_empty_primary h) those number begin flag place;
      }

  pub next_placed : (h : Here) → here_of g h.read.header.hdu ≡ Some h → h.end < length (restored g) → HasNext g s h
  next_placed h found more =
      let a = among h.read.header.hdu h found in
      subst (λ (e : Here). HasNext g s e) a.with_it (next_by a.front a.header a.back a.parts (subst (λ (e : Here). e.end < length (restored g)) (sym a.with_it) more))

  -- ---- read once more

  module _ (k start at : ℕ) (flag : Bool) (p : IsPlaced g k start flag at) where
    pub it : IsAmong k p.here
    it = among k p.here p.found

    -- the header of the HDU was seen there
    pub begins_there : it.header.start ≡ start
    begins_there = ap (λ (e : Here). e.read.header.start) it.with_it ∙ p.start_is

    pub is_behind : flag ≡ is_after_empty g it.header
    is_behind = sym (ap (λ (e : Here). e.after_empty) it.with_it ∙ p.flag)

    pub was_seen : WasSeen g k start s.header_len s.tile it.header
    was_seen =
        subst (λ n. WasSeen g n start s.header_len s.tile it.header) it.number
        (subst (λ m. WasSeen g it.header.hdu m s.header_len s.tile it.header) begins_there (seen_here it.front it.header it.back it.parts).seen)

    pub never_refused : (result : Result ReadHdu Stop) → ReadsAsSeen g k start flag s.header_len s.tile result → IfRefused result (λ x. ⊥)
    never_refused result again = (again it.header was_seen is_behind).0

    pub same_header : (a : ReadHdu) → ReadsAsSeen g k start flag s.header_len s.tile (Ok a) → a.header ≡ it.header
    same_header a again = (again it.header was_seen is_behind).1
