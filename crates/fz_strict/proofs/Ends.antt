-- A file whose headers are found has at most 2^62 bytes.
use Rattle.std.proofs.Common.{◌≡◌, ℕ, suc, ◌+◌, ◌^◌, ◌<◌, ◌≤◌, nat_lt, Bool, true, false, List, [], ◌∷◌, ◌++◌, length, Option, Some, None, IsOk, refl, ap, arith, length-append, append-nil}
use Rattle.std.proofs.lemmas.Bool.Decides.{nat_tests}
use Rattle.std.specs.List.{flat_map}
use Rattle.fz_base.specs.Refusal.{first_refusal}
use Rattle.fz_base.specs.declared.fault.Fault.{Fault}
use Rattle.fz_block.specs.Checks.{end_checks, group_checks, hdu_end, header_checks, header_of, unless_refused}
use Rattle.fz_block.specs.Facts.{facts_of}
use Rattle.fz_block.specs.Hdus.{Hdu, data_len_of, hdu_bytes}
use Rattle.fz_block.specs.Header.{whole_blocks_of}
use Rattle.fz_block.specs.Mandatory.{mandatory_checks}
use Rattle.fz_block.specs.Walk.{PassFrom, PassesAt}

pub behind_none : (xs ys : List (Bool × Fault)) → first_refusal (xs ++ ys) ≡ None → first_refusal ys ≡ None
behind_none [] ys none = none
behind_none ((true, fault) ∷ xs) ys none = absurd cc
behind_none ((false, fault) ∷ xs) ys none = behind_none xs ys none

pub first_false : (test : Bool) (fault : Fault) (more : List (Bool × Fault)) → first_refusal ((test, fault) ∷ more) ≡ None → test ≡ false
first_false true fault more e = absurd cc
first_false false fault more e = refl

answer_none : {A : Type 0} (answer : A) (found : Option Fault) → IsOk (unless_refused answer found) → found ≡ None
answer_none answer None ok = refl
answer_none answer (Some fault) ok = absurd cc

within : (end : ℕ) → nat_lt (2 ^ 62) end ≡ false → end ≤ 2 ^ 62
within end e = grind (arith, nat_tests, e)

-- an HDU that passes the checks of every job ends there at most
pub header_ends : (k start len : ℕ) (header : List ℕ) → IsOk (header_of k start len header) → hdu_end k start header ≤ 2 ^ 62
unfolding header_of
header_ends k start len header ok =
    let none : first_refusal (header_checks k start len header) ≡ None =
    answer_none (facts_of k start header) (first_refusal (header_checks k start len header)) ok in
    let ends : List (Bool × Fault) = end_checks k len (hdu_end k start header) in
    let mine : first_refusal ends ≡ None =
    behind_none (group_checks k header) ends
    (behind_none (mandatory_checks k header) (group_checks k header ++ ends)
    (behind_none ((_, _) ∷ []) (mandatory_checks k header ++ (group_checks k header ++ ends)) none)) in
    within (hdu_end k start header) (first_false (nat_lt (2 ^ 62) (hdu_end k start header)) _ _ mine)

pub passes_ends : (k start len : ℕ) (d : Hdu) → PassesAt k start len d → start + length (hdu_bytes d) ≤ 2 ^ 62
passes_ends k start len d is =
    let end : hdu_end k start d.header ≤ 2 ^ 62 = header_ends k start len d.header is.checks in
    let payload : length d.payload ≡ whole_blocks_of (data_len_of k d.header) = is.hdu.payload in
    let both : length (hdu_bytes d) ≡ length d.header + length d.payload = length-append d.header d.payload in
    omega (arith, end, payload, both)

pub pass_ends : (k start len : ℕ) (ds : List Hdu) → 0 < length ds → PassFrom k start len ds → start + length (flat_map hdu_bytes ds) ≤ 2 ^ 62
pass_ends k start len [] some pass = absurd omega (arith, some)
pass_ends k start len (d ∷ []) some pass =
    let here = passes_ends k start len d pass.0 in
    let same : length (hdu_bytes d ++ []) ≡ length (hdu_bytes d) = ap length (append-nil (hdu_bytes d)) in
    omega (arith, here, same)
pass_ends k start len (d ∷ e ∷ ds) some pass =
    let rest = pass_ends (suc k) (start + length (hdu_bytes d)) len (e ∷ ds) (omega arith) pass.1 in
    let both : length (flat_map hdu_bytes (d ∷ e ∷ ds)) ≡ length (hdu_bytes d) + length (flat_map hdu_bytes (e ∷ ds)) =
    length-append (hdu_bytes d) (flat_map hdu_bytes (e ∷ ds)) in
    omega (arith, rest, both)
