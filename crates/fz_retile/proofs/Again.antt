-- What is packed anew stands for the same file.
use Rattle.std.proofs.Common.{◌≡◌, ℕ, ◌^◌, List, refl, sym, ap, ◌∙◌, subst}
use Rattle.std.specs.Prelude.{nat_lt, Bool, true, false, length, Option, Some, None, if◌then◌else◌}
use Rattle.fz_base.specs.declared.fault.Fault.{Fault}
use Rattle.fz_head.specs.declared.options.PackOptions.{PackOptions}
use Rattle.fz_files.specs.FirstFault.{IsFaultBehind, IsFirstFault}
use Rattle.fz_files.specs.Laws.{StandsForOneFile}
use Rattle.fz_files.specs.Packed.{IsPackedFile}
use Rattle.fz_files.specs.PlainFault.{plain_fault, too_long}
use Rattle.fz_files.specs.RestoredFile.{restored}
use Rattle.fz_files.specs.Walks.{header_fault}
use Rattle.fz_files.specs.declared.job.Job.TheVariants.{Pack, Retile}
use Rattle.fz_laws.specs.RoundTrip.{ComesBack, RestoredAreBytes, StandsForNoOther}
use Rattle.fz_retile.specs.Laws.{StandsForTheSame}

-- the file that is packed anew has no fault of its headers
plain_is_sound : (o : PackOptions) (file : List ℕ) → plain_fault o file ≡ None → header_fault (Pack o) (restored file) ≡ None
unfolding plain_fault
plain_is_sound o file e = by_length (nat_lt (2 ^ 62) (length (restored file))) e
  where
    by_length : (long : Bool) → ◌≡◌ {A = Option Fault} (if long then Some (too_long file) else header_fault (Pack o) (restored file)) None → header_fault (Pack o) (restored file) ≡ None
    by_length true e = absurd cc
    by_length false e = e

-- so `pack` finds none
packs_by : (o : PackOptions) (plain : List ℕ) (found : Option Fault) → header_fault (Pack o) plain ≡ found → found ≡ None → IsFirstFault (Pack o) plain None
packs_by o plain None e none = subst (λ (x : Option Fault). IsFaultBehind x (Pack o) plain None) (sym e) tt
packs_by o plain (Some fault) e none = absurd cc

none_behind : (o : PackOptions) (file : List ℕ) (found : Option Fault) → IsFaultBehind found (Retile o) file None → plain_fault o file ≡ None
none_behind o file None is = is.1
none_behind o file (Some fault) is = absurd cc

pub stands_for_the_same : ComesBack → RestoredAreBytes → StandsForNoOther → StandsForOneFile → StandsForTheSame
stands_for_the_same back are_bytes only one o file bytes plain octets options sound is stands short =
    let same : is.plain ≡ plain = one file is.plain plain is.stands stands in
    let restored_is : plain ≡ restored file = only file plain stands in
    let none : header_fault (Pack o) plain ≡ None = ap (header_fault (Pack o)) restored_is ∙ plain_is_sound o file (none_behind o file (header_fault (Retile o) file) sound) in
    let packs : IsFirstFault (Pack o) plain None = packs_by o plain (header_fault (Pack o) plain) refl none in
    back o plain bytes (record { bytes = are_bytes file plain octets stands; options = options; sound = packs }) (subst (λ (p : List ℕ). IsPackedFile o p bytes) same is.packed) short
