-- The first fault of a file for `retile`, from what the look finds in it and what `pack` finds in the file that it stands for.
use Rattle.std.proofs.Common.{◌≡◌, ℕ, ◌<◌, ◌^◌, List, refl, sym, ap, ◌∙◌, subst, inl, inr, arith}
use Rattle.std.specs.Prelude.{nat_lt, Bool, true, false, length, Option, Some, None, if◌then◌else◌}
use Rattle.std.proofs.lemmas.Bool.Decides.{nat_tests}
use Rattle.fz_base.specs.declared.fault.Fault.{Fault}
use Rattle.fz_head.specs.declared.options.PackOptions.{PackOptions}
use Rattle.fz_files.specs.Decided.{first_fault}
use Rattle.fz_files.specs.FirstFault.{IsFaultBehind, IsFirstFault}
use Rattle.fz_files.specs.PlainFault.{plain_fault, too_long}
use Rattle.fz_files.specs.RestoredFile.{restored}
use Rattle.fz_files.specs.Retiled.{if_short, plain_of, restored_file, restored_unless}
use Rattle.fz_files.specs.Walks.{header_fault, job_walk}
use Rattle.fz_files.specs.declared.job.Job.TheVariants.{Pack, Retile, Unpack}
use Rattle.fz_laws.specs.RoundTrip.{HasNoOtherFault}
use Rattle.fz_look.specs.Looked.{IsLookFault}
use Rattle.fz_retile.proofs.SameAsUnpack.{same_header_fault}

is_long : (n : ℕ) → 2 ^ 62 < n → nat_lt (2 ^ 62) n ≡ true
is_long n more = grind (arith, nat_tests)

-- ---- the file that is packed anew

short_by : (long : Bool) (plain : List ℕ) → ◌≡◌ {A = Option (List ℕ)} (if long then None else Some plain) (Some plain) → long ≡ false
short_by true plain is = absurd cc
short_by false plain is = refl

short_unless : (found : Option Fault) (file : List ℕ) → if_short (restored_unless found file) ≡ Some (restored file) → nat_lt (2 ^ 62) (length (restored file)) ≡ false
short_unless (Some fault) file is = absurd cc
short_unless None file is = short_by (nat_lt (2 ^ 62) (length (restored file))) (restored file) is

-- it has at most 2^62 bytes
is_short : (file : List ℕ) → plain_of file ≡ Some (restored file) → nat_lt (2 ^ 62) (length (restored file)) ≡ false
unfolding restored_file
is_short file is = short_unless (first_fault Unpack file) file is

-- there is none if the packed file has a fault, or if it would be too long
no_plain : (file : List ℕ) (fault : Fault) → first_fault Unpack file ≡ Some fault → plain_of file ≡ None
unfolding restored_file
no_plain file fault is = ap (λ (found : Option Fault). if_short (restored_unless found file)) is

long_plain : (file : List ℕ) → first_fault Unpack file ≡ None → nat_lt (2 ^ 62) (length (restored file)) ≡ true → plain_of file ≡ None
unfolding restored_file
long_plain file is long = ap (λ (found : Option Fault). if_short (restored_unless found file)) is ∙ ap (λ (b : Bool). if b then None else Some (restored file)) long

-- ---- its faults

plain_by : (o : PackOptions) (file : List ℕ) → nat_lt (2 ^ 62) (length (restored file)) ≡ false → plain_fault o file ≡ header_fault (Pack o) (restored file)
unfolding plain_fault
plain_by o file short = rw short refl

plain_long : (o : PackOptions) (file : List ℕ) → nat_lt (2 ^ 62) (length (restored file)) ≡ true → plain_fault o file ≡ Some (too_long file)
unfolding plain_fault
plain_long o file long = rw long refl

module _ (o : PackOptions) where
  -- ---- what `pack` finds

  none_of : (found : Option Fault) (plain : List ℕ) → IsFaultBehind found (Pack o) plain None → found ≡ None
  none_of None plain is = refl
  none_of (Some fault) plain is = absurd cc

  some_of : (found : Option Fault) (plain : List ℕ) (x : Fault) → IsFaultBehind found (Pack o) plain (Some x) → found ≡ Some x
  some_of None plain x is = absurd is
  some_of (Some fault) plain x is = sym is

  -- ---- and `retile` then

  no_fault_behind : (found : Option Fault) (file : List ℕ) → IsFaultBehind found Unpack file None → plain_fault o file ≡ None → IsFaultBehind found (Retile o) file None
  unfolding job_walk
  no_fault_behind None file is plain = (is, plain)
  no_fault_behind (Some fault) file is plain = is

  of_rows : (found : Option Fault) (file : List ℕ) (x : Fault) → IsFaultBehind found Unpack file (Some x) → IsFaultBehind found (Retile o) file (Some x)
  unfolding job_walk
  of_rows None file x is = inl is
  of_rows (Some fault) file x is = is

  of_plain : (found : Option Fault) (file : List ℕ) (x : Fault) → IsFaultBehind found Unpack file None → plain_fault o file ≡ Some x → IsFaultBehind found (Retile o) file (Some x)
  unfolding job_walk
  of_plain None file x is plain = inr (is, plain)
  of_plain (Some fault) file x is plain = absurd cc

  -- the headers have the same fault for both
  as_retile : (file : List ℕ) (found : Option Fault) → IsFaultBehind (header_fault Unpack file) (Retile o) file found → IsFirstFault (Retile o) file found
  as_retile file found is = subst (λ (h : Option Fault). IsFaultBehind h (Retile o) file found) (sym (same_header_fault o file)) is

  -- a file in which neither finds a fault has none
  pub no_fault : (file : List ℕ) → IsFirstFault Unpack file None → plain_of file ≡ Some (restored file) → IsFirstFault (Pack o) (restored file) None → IsFirstFault (Retile o) file None
  no_fault file sound plain packs =
      as_retile file None (no_fault_behind (header_fault Unpack file) file sound (plain_by o file (is_short file plain) ∙ none_of (header_fault (Pack o) (restored file)) (restored file) packs))

  -- the same by the headers of the file that is packed anew
  pub none_found : HasNoOtherFault → (file : List ℕ) → IsFirstFault Unpack file None → plain_of file ≡ Some (restored file) → header_fault (Pack o) (restored file) ≡ None → first_fault (Retile o) file ≡ None
  none_found only file sound plain none =
      sym (only (Retile o) file None (as_retile file None (no_fault_behind (header_fault Unpack file) file sound (plain_by o file (is_short file plain) ∙ none))))

  -- what `pack` refuses
  pub plain_refused : (file : List ℕ) (x : Fault) → IsFirstFault Unpack file None → plain_of file ≡ Some (restored file) → IsFirstFault (Pack o) (restored file) (Some x) → IsFirstFault (Retile o) file (Some x)
  plain_refused file x sound plain refused =
      as_retile file (Some x) (of_plain (header_fault Unpack file) file x sound (plain_by o file (is_short file plain) ∙ some_of (header_fault (Pack o) (restored file)) (restored file) x refused))

  -- what the look refuses
  pub look_refused : (file : List ℕ) (x : Fault) → IsLookFault file x → IsFirstFault (Retile o) file (Some x)
  look_refused file x (inl is) = as_retile file (Some x) (of_rows (header_fault Unpack file) file x is)
  look_refused file x (inr (sound, more, is)) =
      as_retile file (Some x) (of_plain (header_fault Unpack file) file x sound (plain_long o file (is_long (length (restored file)) more) ∙ ap (λ (f : Fault). Some f) (sym is)))

-- a file that the look refuses is not packed anew
pub nothing_anew : HasNoOtherFault → (file : List ℕ) (x : Fault) → IsLookFault file x → plain_of file ≡ None
nothing_anew only file x (inl is) = no_plain file x (sym (only Unpack file (Some x) is))
nothing_anew only file x (inr (sound, more, is)) = long_plain file (sym (only Unpack file None sound)) (is_long (length (restored file)) more)
