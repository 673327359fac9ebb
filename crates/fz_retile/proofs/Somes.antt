-- Facts of what an option holds, in both forms; and plain bytes that are shown.
use Rattle.std.proofs.Common.{◌≡◌, ℕ, ◌^◌, nat_lt, Bool, true, false, if◌then◌else◌, List, length, take, drop, Option, Some, None, IfSome, is_some, refl, sym, ap, ◌∙◌, subst}
use Rattle.std.specs.Option.{ForSome}
use Rattle.std.proofs.lemmas.Option.{same_Some}
use Rattle.fz_base.specs.declared.fault.Fault.{Fault}
use Rattle.fz_files.specs.Decided.{first_fault}
use Rattle.fz_files.specs.RestoredFile.{restored}
use Rattle.fz_files.specs.Retiled.{if_short, plain_of, restored_file, restored_unless}
use Rattle.fz_files.specs.declared.job.Job.TheVariants.{Unpack}
use Rattle.fz_retile.specs.Views.{ReadsFront, or_first, restored_from}

pub for_some : {A : Type 0} (o : Option A) (P : A → Type 0) → IfSome o P → ForSome o P
for_some None P is x e = absurd cc
for_some (Some y) P is x e = subst P (same_Some y x e) is

pub if_some : {A : Type 0} (o : Option A) (P : A → Type 0) → ForSome o P → IfSome o P
if_some None P all = tt
if_some (Some y) P all = all y refl

pub some_weaker : {A : Type 0} (o : Option A) (P Q : A → Type 0) → ((x : A) → P x → Q x) → IfSome o P → ForSome o Q
some_weaker None P Q weaker is x e = absurd cc
some_weaker (Some y) P Q weaker is x e = subst Q (same_Some y x e) (weaker y is)

pub weaker_some : {A : Type 0} (o : Option A) (P Q : A → Type 0) → ((x : A) → P x → Q x) → ForSome o P → IfSome o Q
weaker_some None P Q weaker all = tt
weaker_some (Some y) P Q weaker all = weaker y (all y refl)

pub for_none : {A : Type 0} (o : Option A) (P : A → Type 0) → o ≡ None → ForSome o P
for_none o P none x e = absurd (never (sym none ∙ e))
  where
    never : {A : Type 0} {x : A} → ◌≡◌ {A = Option A} None (Some x) → ⊥
    never is = cc

-- the first of what was kept and one more
pub first_none : {T : Type 0} (o : Option T) (x : T) → is_some o ≡ false → Some x ≡ or_first o x
first_none None x none = refl
first_none (Some y) x none = absurd cc

pub first_some : {T : Type 0} (o : Option T) (x : T) → is_some o ≡ true → o ≡ or_first o x
first_some None x some = absurd cc
first_some (Some y) x some = refl

-- ---- the file that a file stands for

short_by : (b : Bool) (plain u : List ℕ) → (if b then None else Some plain) ≡ Some u → u ≡ plain
short_by true plain u is = absurd cc
short_by false plain u is = sym (same_Some plain u is)

unless_by : (fault : Option Fault) (g u : List ℕ) → if_short (restored_unless fault g) ≡ Some u → u ≡ restored g
unless_by None g u is = short_by (nat_lt (2 ^ 62) (length (restored g))) (restored g) u is
unless_by (Some fault) g u is = absurd cc

pub plain_is : (g u : List ℕ) → plain_of g ≡ Some u → u ≡ restored g
unfolding restored_file
plain_is g u is = unless_by (first_fault Unpack g) g u is

-- the front of a buffer has plain bytes, if the bytes are shown
front_by : (g : List ℕ) (plain : Option (List ℕ)) (at n : ℕ) (buffer : List ℕ) → plain_of g ≡ plain → take n buffer ≡ take n (drop at (restored g)) → ReadsFront plain at n buffer
front_by g None at n buffer is has = tt
front_by g (Some u) at n buffer is has = has ∙ ap (λ (l : List ℕ). take n (drop at l)) (sym (plain_is g u is))

pub reads_front : (held : Option (List ℕ)) (at n : ℕ) (buffer : List ℕ) → IfSome held (λ g. take n buffer ≡ take n (drop at (restored g))) → ReadsFront (restored_from held) at n buffer
reads_front None at n buffer has = tt
reads_front (Some g) at n buffer has = front_by g (plain_of g) at n buffer refl has
