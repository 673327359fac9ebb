-- A check of an HDU that refuses names that HDU.
use Rattle.std.proofs.Common.{◌≡◌, ℕ, zero, suc, ◌+◌, Bool, true, false, List, [], ◌∷◌, ◌++◌, Option, Some, None, Result, Ok, Err, refl, sym, ◌∙◌, ap}
use Rattle.std.specs.List.{flat_map, range_with_len}
use Rattle.std.specs.Prelude.{⊤}
use Rattle.fz_base.specs.Refusal.{first_refusal}
use Rattle.fz_base.specs.Stop.{IsDefined, IfRefused}
use Rattle.fz_base.specs.declared.fault.Fault.{Fault}
use Rattle.fz_base.specs.declared.failure.Stop.{Stop}
use Rattle.fz_base.specs.declared.failure.Stop.TheVariants.{Refused, ReadFault, WriteFault, OverLimit, NoMemory}
use Rattle.fz_block.specs.Checks.{unless_refused, IsBlockRefusal, group_checks, end_checks, hdu_end, header_checks, header_of}
use Rattle.fz_block.specs.Facts.{facts_of}
use Rattle.fz_block.specs.Hdus.{naxis_of}
use Rattle.fz_block.specs.Mandatory.{extension_checks, axis_checks, count_checks, bitpix_check, naxis_checks, mandatory_checks}
use Rattle.fz_block.specs.declared.header.Header.{Header}

-- each of some checks names this HDU
abbrev AllName : ℕ → List (Bool × Fault) → Type 0
AllName k [] = ⊤
AllName k (c ∷ checks) = (c.1.hdu ≡ k) × AllName k checks

both : (k : ℕ) (xs ys : List (Bool × Fault)) → AllName k xs → AllName k ys → AllName k (xs ++ ys)
both k [] ys a b = b
both k (x ∷ xs) ys a b = (a.0, both k xs ys a.1 b)

axes : (k : ℕ) (header : List ℕ) (a n : ℕ) → AllName k (flat_map (axis_checks k header) (range_with_len a n))
axes k header a zero = tt
axes k header a (suc n) = (refl, (refl, axes k header (a + 1) n))

extension : (k : ℕ) (header : List ℕ) → AllName k (extension_checks k header)
extension zero header = tt
extension (suc k) header = (refl, tt)

counts : (k : ℕ) (header : List ℕ) → AllName k (count_checks k header)
counts zero header = tt
counts (suc k) header = (refl, (refl, tt))

groups : (k : ℕ) (header : List ℕ) → AllName k (group_checks k header)
groups zero header = (refl, tt)
groups (suc k) header = tt

mandatory : (k : ℕ) (header : List ℕ) → AllName k (mandatory_checks k header)
mandatory k header =
    let last : List (Bool × Fault) = flat_map (axis_checks k header) (range_with_len 1 (naxis_of header)) ++ count_checks k header in
    both k (extension_checks k header) (bitpix_check k header ∷ naxis_checks k header ++ last) (extension k header)
    (refl, (refl, (refl, both k (flat_map (axis_checks k header) (range_with_len 1 (naxis_of header))) (count_checks k header) (axes k header 1 (naxis_of header)) (counts k header))))

all : (k start len : ℕ) (header : List ℕ) → AllName k (header_checks k start len header)
all k start len header = (
  refl,
  both k (mandatory_checks k header) (group_checks k header ++ end_checks k len (hdu_end k start header)) (mandatory k header)
      (both k (group_checks k header) (end_checks k len (hdu_end k start header)) (groups k header) (refl, (refl, tt))),
)

first_names : (k : ℕ) (checks : List (Bool × Fault)) (x : Fault) → AllName k checks → first_refusal checks ≡ Some x → x.hdu ≡ k
first_names k [] x names is = absurd cc
first_names k ((true, fault) ∷ checks) x names is = let same : fault ≡ x = cc in ap (λ (f : Fault). f.hdu) (sym same) ∙ names.0
first_names k ((false, fault) ∷ checks) x names is = first_names k checks x names.1 is

refused_by : {A : Type 0} (a : A) (refused : Option Fault) (x : Fault) → unless_refused a refused ≡ Err x → refused ≡ Some x
refused_by a None x is = absurd cc
refused_by a (Some fault) x is = let same : fault ≡ x = cc in ap Some same

-- a header that is refused
pub header_names : (k start len : ℕ) (header : List ℕ) (answer : Result Header Stop) → IsDefined (header_of k start len header) answer → IfRefused answer (λ x. x.hdu ≡ k)
unfolding header_of
header_names k start len header (Ok h) is = tt
header_names k start len header (Err (Refused x)) is =
    first_names k (header_checks k start len header) x (all k start len header) (refused_by (facts_of k start header) (first_refusal (header_checks k start len header)) x is)
header_names k start len header (Err ReadFault) is = tt
header_names k start len header (Err WriteFault) is = tt
header_names k start len header (Err (OverLimit live asked limit)) is = tt
header_names k start len header (Err NoMemory) is = tt

-- blocks that are not found
pub blocks_name : (k : ℕ) (stop : Stop) → IfRefused {X = ℕ} (Err stop) (λ x. (x.hdu ≡ k) × IsBlockRefusal x.kind) → IfRefused {X = Header} (Err stop) (λ x. x.hdu ≡ k)
blocks_name k (Refused x) is = is.0
blocks_name k ReadFault is = tt
blocks_name k WriteFault is = tt
blocks_name k (OverLimit live asked limit) is = tt
blocks_name k NoMemory is = tt
