-- Of HDUs that were seen the second reading finds what the first look did, where the source tells its bytes (FITS 4.0, sections 3.1 and 10.1.2).
use Rattle.std.proofs.Common.{◌≡◌, ℕ, ◌<◌, ◌≤◌, ◌==◌, ◌&&◌, ◌↔◌, Bool, true, false, if◌then◌else◌, List, [], ◌∷◌, ◌++◌, length, Option, Some, None, IfSome, Ok, Err, refl, sym, ap, subst, ◌∙◌, arith}
use Rattle.std.specs.Prelude.{IsTrue}
use Rattle.std.proofs.lemmas.List.{length-append}
use Rattle.std.proofs.lemmas.Bool.Decides.{nat_tests}
use Rattle.fz_base.specs.Source.{HoldsLength}
use Rattle.fz_base.specs.declared.failure.Stop.{Stop}
use Rattle.fz_block.specs.declared.header.Header.{Header}
use Rattle.fz_files.specs.Restored.{is_packed_primary}
use Rattle.fz_checks.specs.JobChecks.{is_after_empty}
use Rattle.fz_job.specs.declared.survey.Survey.{Survey}
use Rattle.fz_job.specs.Again.{IsAgain, ReadsAsSeen, WereSeen, was_primary_image}
use Rattle.fz_job.specs.declared.again.ReadHdu.{ReadHdu}
use Rattle.fz_unpack.specs.Behind.{AreWritten, IsUnderway, RestoresSeen, SaysBehind}
use Rattle.fz_unpack.specs.First.{behind_primary, first_at, first_of, the_primary}
use Rattle.fz_unpack.specs.Laws.{PrimariesAreBehind}
use Rattle.fz_unpack.specs.declared.first.First.{First}
use Rattle.fz_unpack.proofs.Images.{primary_is}
use Rattle.fz_unpack.proofs.Standing.{first_is}
use Rattle.fz_unpack.proofs.Underway.{no_more, none_left}

-- ---- the HDU after the primary

first_in : Header → List Header → Header
first_in h [] = h
first_in h (j ∷ hs) = j

second_in : Header → List Header → Header
second_in h [] = h
second_in h (j ∷ hs) = first_in h hs

-- the first of some headers, before which there is none
same_first : (k h : Header) (hs done rest : List Header) → k ∷ hs ≡ done ++ h ∷ rest → length hs ≡ length rest → k ≡ h
unfolding first_in
same_first k h hs [] rest parts count = ap (first_in h) parts
same_first k h hs (d ∷ done) rest parts count = absurd (omega (arith, ap length parts, length-append (d ∷ done) (h ∷ rest), count))

-- the second of some headers, before which there is one
second_is : (j k h : Header) (hs done rest : List Header) → j ∷ k ∷ hs ≡ done ++ h ∷ rest → length hs ≡ length rest → k ≡ h
unfolding second_in first_in
second_is j k h hs [] rest parts count = absurd (omega (arith, ap length parts, count))
second_is j k h hs (d ∷ []) rest parts count = ap (second_in h) parts
second_is j k h hs (d ∷ e ∷ done) rest parts count = absurd (omega (arith, ap length parts, length-append (d ∷ e ∷ done) (h ∷ rest), count))

-- the second of the HDUs is the next one, if it is number 1
next_is : (b : Bool) (j k h : Header) (hs done rest : List Header) → (if b then k ∷ hs else j ∷ k ∷ hs) ≡ done ++ h ∷ rest → length hs ≡ length rest → k ≡ h
next_is true j k h hs done rest parts count = same_first k h hs done rest parts count
next_is false j k h hs done rest parts count = second_is j k h hs done rest parts count

-- the first that stands for something is HDU 1 if this is a packed primary
one_if : (b : Bool) (h : Header) → ((if b then behind_primary h else the_primary).hdu == 1) ≡ b
one_if true h = grind (arith, nat_tests)
one_if false h = grind (arith, nat_tests)

-- a flag that is set tells HDU 1
number_of : (a b : Bool) → (a && b) ≡ true → a ≡ true
number_of true b is = refl
number_of false b is = absurd cc

is_one : (n : ℕ) → (n == 1) ≡ true → n ≡ 1
is_one n is = grind (is, nat_tests, arith)

module _ (g : List ℕ) (header_len tile : ℕ) (before : Option (List ℕ)) where
  -- HDU 1, after an empty primary, is a packed primary if the first that stands for something is HDU 1
  primary_by : (hs : List Header) (k start at : ℕ) (flag : Bool) (mid : Option (List ℕ)) (f : First) (n : ℕ) (buf : List ℕ) (a : ReadHdu) (w : AreWritten g header_len tile hs k start at flag before mid) (rest : List Header) → w.rest ≡ rest → k < length hs →
      f ≡ first_of g hs → ReadsAsSeen g k start flag header_len tile (Ok a) → IsAgain (Some g) n buf a → flag ≡ true → was_primary_image a.image ≡ (f.hdu == 1)
  primary_by hs k start at flag mid f n buf a w [] is few found again usable on = absurd (omega (arith, w.count, ap length is, few))
  primary_by [] k start at flag mid f n buf a w (h ∷ rest) is few found again usable on = absurd (omega (arith, few))
  primary_by (j ∷ []) k start at flag mid f n buf a w (h ∷ rest) is few found again usable on =
      let seen : WereSeen g header_len tile k start (h ∷ rest) = subst (λ l. WereSeen g header_len tile k start l) is w.seen in
      let after : true ≡ is_after_empty g h = sym on ∙ subst (λ l. SaysBehind g flag l) is w.flag in
      let one : k ≡ 1 = sym seen.0.number ∙ is_one h.hdu (number_of (h.hdu == 1) _ (sym after)) in
      absurd (omega (arith, w.count, ap length is, one))
  primary_by (j ∷ i ∷ hs) k start at flag mid f n buf a w (h ∷ rest) is few found again usable on =
      let seen : WereSeen g header_len tile k start (h ∷ rest) = subst (λ l. WereSeen g header_len tile k start l) is w.seen in
      let behind : SaysBehind g flag (h ∷ rest) = subst (λ l. SaysBehind g flag l) is w.flag in
      let after : true ≡ is_after_empty g h = sym on ∙ behind in
      let one : k ≡ 1 = sym seen.0.number ∙ is_one h.hdu (number_of (h.hdu == 1) _ (sym after)) in
      let long : length hs ≡ length rest = omega (arith, w.count, ap length is, one) in
      let next : i ≡ h = next_is (is_packed_primary g i) j i h hs w.done rest (w.parts ∙ ap (λ l. w.done ++ l) is) long in
      let same : a.header ≡ i = (again h seen.0 behind).1 ∙ sym next in
      primary_is (Some g) n buf a usable g refl ∙ ap (is_packed_primary g) same
      ∙ sym (ap (λ (e : First). e.hdu == 1) found ∙ one_if (is_packed_primary g i) j)

-- the first that stands for something is one of the HDUs
first_within : (b : Bool) (h : Header) (n : ℕ) → 2 ≤ n → (if b then behind_primary h else the_primary).hdu < n
first_within true h n two = omega (arith, two)
first_within false h n two = omega (arith, two)

first_there : (g : List ℕ) (hs : List Header) → 0 < length hs → (first_of g hs).hdu < length hs
first_there g [] some = absurd (omega (arith, some))
first_there g (h ∷ []) some = omega arith
first_there g (h ∷ k ∷ hs) some = first_within (is_packed_primary g k) h (length (h ∷ k ∷ hs)) (omega arith)

-- what is false is not true
pub told_false : (b : Bool) → b ≡ false → IsTrue b → ⊥
told_false b is holds =
    let never : false ≡ true = sym is ∙ holds in
    absurd cc

-- an HDU that is not the last ends before the file does
apart_by : (b : Bool) (x y : ℕ) → (x == y) ≡ b → x ≤ y → (x ≡ y → ⊥) → x < y
apart_by true x y is most apart = absurd (apart (grind (is, nat_tests, arith)))
apart_by false x y is most apart = grind (is, most, nat_tests, arith)

pub not_at_end : (x y k n : ℕ) → x ≤ y → (x ≡ y) ↔ (k ≡ n) → k < n → x < y
not_at_end x y k n most last more = apart_by (x == y) x y refl most (λ ends. omega (arith, last.0 ends, more))

-- ---- what the loop finds otherwise was not seen

module _ (s : Survey) (before : Option (List ℕ)) where
  -- an HDU after an empty primary is what it was
  pub primary_as_seen : PrimariesAreBehind → (X : Type 0) (held : Option (List ℕ)) (stop : Stop) (k start at : ℕ) (flag : Bool) (mid now : Option (List ℕ)) (f : First) (n : ℕ) (buf : List ℕ) (a : ReadHdu) → k < s.hdus →
      IfSome held (IsUnderway s k start at flag before mid) → f ≡ first_at s.packed_primary →
      IfSome held (λ g. ReadsAsSeen g k start flag s.header_len s.tile (Ok a)) → IsAgain held n buf a → ((flag ≡ true → was_primary_image a.image ≡ (f.hdu == 1)) → ⊥) →
      IfSome held (λ g. RestoresSeen {X = X} g s before now (Err stop))
  primary_as_seen law X None stop k start at flag mid now f n buf a few was found again usable never = tt
  primary_as_seen law X (Some g) stop k start at flag mid now f n buf a few was found again usable never = record {
    restored = λ hs list. tt;
    first_fault = λ hs list.
        let w = was hs list in
        absurd (never (primary_by g s.header_len s.tile before hs k start at flag mid f n buf a w w.rest refl (omega (arith, few, list.count)) (found ∙ first_is law g s hs list) again usable));
  }

  -- the HDUs are as many as were seen
  pub first_as_seen : PrimariesAreBehind → 0 < s.hdus → (X : Type 0) (held : Option (List ℕ)) (stop : Stop) (now : Option (List ℕ)) (f : First) → s.hdus ≤ f.hdu → f ≡ first_at s.packed_primary →
      IfSome held (λ g. RestoresSeen {X = X} g s before now (Err stop))
  first_as_seen law some X None stop now f past found = tt
  first_as_seen law some X (Some g) stop now f past found = record {
    restored = λ hs list. tt;
    first_fault = λ hs list.
        let is : f ≡ first_of g hs = (found ∙ first_is law g s hs list) in
        let there : (first_of g hs).hdu < length hs = first_there g hs (omega (arith, some, list.count)) in
        absurd (omega (arith, there, list.count, past, ap (λ (e : First). e.hdu) is));
  }

  -- an HDU ends the file if it is the last, and no other does
  last_by : (g : List ℕ) (n : ℕ) → n ≡ length g → (hs : List Header) (k start at : ℕ) (flag : Bool) (mid : Option (List ℕ)) (w : AreWritten g s.header_len s.tile hs k start at flag before mid) → length hs ≡ s.hdus → (start ≡ n) ↔ (k ≡ s.hdus)
  last_by g n long hs k start at flag mid w count = (
    (λ ends.
        let none : w.rest ≡ [] = no_more s before g k w.rest (subst (λ m. WereSeen g s.header_len s.tile k m w.rest) (ends ∙ long) w.seen) in
        omega (arith, w.count, ap length none, count)),
    (λ last.
        let none : w.rest ≡ [] = none_left (length hs) k w.rest w.count (omega (arith, last, count)) in
        subst (λ l. WereSeen g s.header_len s.tile k start l) none w.seen ∙ sym long),
  )

  pub last_as_seen : (X : Type 0) (held : Option (List ℕ)) (stop : Stop) (n k start at : ℕ) (flag : Bool) (now : Option (List ℕ)) → HoldsLength held n →
      IfSome held (IsUnderway s k start at flag before now) → (((start ≡ n) ↔ (k ≡ s.hdus)) → ⊥) → IfSome held (λ g. RestoresSeen {X = X} g s before now (Err stop))
  last_as_seen X None stop n k start at flag now told was never = tt
  last_as_seen X (Some g) stop n k start at flag now told was never = record {
    restored = λ hs list. tt;
    first_fault = λ hs list.
        let w = was hs list in
        absurd (never (last_by g n (sym told) hs k start at flag now w list.count));
  }
