-- HDUs that pass the checks of every job, one after another, are those that a walk finds.
use Rattle.std.proofs.Common.{◌≡◌, ℕ, zero, suc, ◌+◌, ◌*◌, ◌/◌, ◌<◌, ◌≤◌, ◌^◌, ◌==◌, IsOk, true, false, List, [], ◌∷◌, ◌++◌, length, take, drop, Option, Some, None, Ok, if◌then◌else◌, refl, sym, subst, ◌∙◌, ap, arith}
use Rattle.std.specs.List.{flat_map}
use Rattle.std.specs.Result.{result_map_both}
use Rattle.std.proofs.lemmas.Bool.Decides.{nat_tests}
use Rattle.std.proofs.lemmas.List.{append_assoc, drop-drop, take_at, length-append, length-drop}
use Rattle.std.proofs.Math.Seq.{drop-append_seam}
use Rattle.fz_base.specs.Refusal.{first_refusal}
use Rattle.fz_base.specs.declared.fault.Fault.{Fault}
use Rattle.fz_block.specs.Checks.{unless_refused, header_checks, header_of, hdu_at, hdu_end, unjudged, followed_by, judged, walk_from, fault_as}
use Rattle.fz_block.specs.Facts.{facts_of, facts_as}
use Rattle.fz_block.specs.Hdus.{Hdu, hdu_bytes, IsHdu, AreHdus, data_len_of}
use Rattle.fz_block.specs.Header.{whole_blocks_of, next_start_of}
use Rattle.fz_block.specs.Walk.{StandsAt, PassesAt, PassFrom, facts_from}
use Rattle.fz_block.specs.declared.header.Header.{Header}
use Rattle.fz_block.proofs.Found.{found_header}
use Rattle.fz_block.proofs.Numbers.{checks_renumbered}
use Rattle.fz_block.proofs.Starts.{checks_again}

-- a header that passes its checks has these facts
ok_facts : (k start len : ℕ) (header : List ℕ) → IsOk (header_of k start len header) → header_of k start len header ≡ Ok (facts_of k start header)
unfolding header_of
ok_facts k start len header ok = by_refusal (first_refusal (header_checks k start len header)) ok
  where
    by_refusal : (refused : Option Fault) → IsOk (unless_refused (facts_of k start header) refused) → unless_refused (facts_of k start header) refused ≡ Ok (facts_of k start header)
    by_refusal None ok = refl
    by_refusal (Some fault) ok = absurd cc

-- a header stands where its HDU does
stands_at : (k start : ℕ) (file : List ℕ) (h : Hdu) (rest : List ℕ) → PassesAt k start (length file) h → drop start file ≡ hdu_bytes h ++ rest → StandsAt k start file h.header
stands_at k start file h rest pass there = record {
  whole = pass.hdu.header;
  short = pass.short;
  place = ap (take (length h.header)) (there ∙ append_assoc h.header h.payload rest) ∙ take_at h.header (h.payload ++ rest) (length h.header) refl;
  number = pass.number;
  begins = pass.begins;
}

-- and is found there
found_at : (k start : ℕ) (file : List ℕ) (h : Hdu) (rest : List ℕ) → PassesAt k start (length file) h → drop start file ≡ hdu_bytes h ++ rest → hdu_at k start file ≡ Ok (facts_of k start h.header)
found_at k start file h rest pass there =
    found_header k start file h.header (stands_at k start file h rest pass there) ∙ ok_facts k start (length file) h.header pass.checks

-- the HDU after it begins after its bytes
next_there : (k start : ℕ) (h : Hdu) → IsHdu k h → next_start_of (facts_of k start h.header) ≡ start + length (hdu_bytes h)
next_there k start h is =
    let long : length h.header ≡ 2880 * (is.header.before + 1) = is.header.blocks in
    let blocks : 2880 * (length h.header / 2880) ≡ length h.header = omega (arith, long) in
    ap (λ n. start + n + whole_blocks_of (data_len_of k h.header)) blocks ∙ (ap (λ n. start + length h.header + n) (sym is.payload) ∙ omega (arith, length-append h.header h.payload))

-- the rest of a file, after what stands at a byte of it
rest_there : (start : ℕ) (file a b : List ℕ) → drop start file ≡ a ++ b → drop (start + length a) file ≡ b
rest_there start file a b there = sym (drop-drop (length a) start file) ∙ (ap (drop (length a)) there ∙ drop-append_seam a b)

pub walk_passes : (k start most : ℕ) (file : List ℕ) (hs : List Hdu) → drop start file ≡ flat_map hdu_bytes hs → start ≤ length file → 0 < length hs → length hs ≤ most →
    PassFrom k start (length file) hs → walk_from unjudged most k start file ≡ Ok (facts_from k start hs)
unfolding walk_from
walk_passes k start most file [] there before some few pass = absurd (omega (arith, some))
walk_passes k start zero file (h ∷ hs) there before some few pass = absurd (omega (arith, few))
walk_passes k start (suc more) file (h ∷ []) there before some few pass =
    let facts = facts_of k start h.header in
    let next = next_there k start h pass.0.hdu in
    let long : length (drop start file) ≡ length (hdu_bytes h ++ []) = ap length there in
    let end : (next_start_of facts == length file) ≡ true = grind (arith, nat_tests, next, long, length-drop start file, length-append (hdu_bytes h) [], before) in
    ap (judged file unjudged (λ (h : Header). walk_from unjudged more (suc k) (next_start_of h) file)) (found_at k start file h [] pass.0 there)
    ∙ ap (λ b. if b then Ok (facts ∷ []) else followed_by facts (walk_from unjudged more (suc k) (next_start_of facts) file)) end
walk_passes k start (suc more) file (h ∷ (j ∷ hs)) there before some few pass =
    let facts = facts_of k start h.header in
    let next = next_there k start h pass.0.hdu in
    let others : List ℕ = flat_map hdu_bytes (j ∷ hs) in
    let long : length (drop start file) ≡ length (hdu_bytes h ++ others) = ap length there in
    let behind : length j.header ≡ 2880 * (pass.1.0.hdu.header.before + 1) = pass.1.0.hdu.header.blocks in
    let room : start + length (hdu_bytes h) < length file =
    omega (arith, long, length-drop start file, length-append (hdu_bytes h) others, length-append (hdu_bytes j) (flat_map hdu_bytes hs), length-append j.header j.payload, behind, before) in
    let end : (next_start_of facts == length file) ≡ false = grind (arith, nat_tests, next, room) in
    let later = walk_passes (suc k) (start + length (hdu_bytes h)) more file (j ∷ hs) (rest_there start file (hdu_bytes h) others there) (omega (arith, room)) (omega arith) (omega (arith, few)) pass.1 in
    ap (judged file unjudged (λ (h : Header). walk_from unjudged more (suc k) (next_start_of h) file)) (found_at k start file h others pass.0 there)
    ∙ (ap (λ b. if b then Ok (facts ∷ []) else followed_by facts (walk_from unjudged more (suc k) (next_start_of facts) file)) end
    ∙ ap (followed_by facts) (ap (λ s. walk_from unjudged more (suc k) s file) next ∙ later))

pub are_hdus : (k start len : ℕ) (hs : List Hdu) → PassFrom k start len hs → AreHdus k hs
are_hdus k start len [] pass = tt
are_hdus k start len (h ∷ hs) pass = (pass.0.hdu, are_hdus (suc k) (start + length (hdu_bytes h)) len hs pass.1)

-- an HDU that passes the checks passes them at another place of a file
pub passes_moved : (k start len start' len' : ℕ) (h : Hdu) → PassesAt k start len h → start' + length (hdu_bytes h) ≤ len' → start' + length (hdu_bytes h) ≤ 2 ^ 62 → PassesAt k start' len' h
passes_moved k start len start' len' h pass within low =
    let end : hdu_end k start' h.header ≡ start' + length (hdu_bytes h) =
    ap (λ n. start' + length h.header + n) (sym pass.hdu.payload) ∙ omega (arith, length-append h.header h.payload) in
    let again = checks_again k start len h.header (facts_of k start h.header) start' len' (ok_facts k start len h.header pass.checks) (omega (arith, end, within)) (omega (arith, end, low)) in
    record { hdu = pass.hdu; short = pass.short; number = pass.number; begins = pass.begins; checks = subst IsOk (sym again) refl }

-- and an extension passes them as another
pub passes_numbered : (j k start len : ℕ) (h : Hdu) → PassesAt j start len h → 0 < j → 0 < k → k < 65536 → PassesAt k start len h
passes_numbered zero k start len h pass some_j some_k few = absurd (omega (arith, some_j))
passes_numbered (suc j) zero start len h pass some_j some_k few = absurd (omega (arith, some_k))
passes_numbered (suc j) (suc k) start len h pass some_j some_k few =
    let again = checks_renumbered (suc j) (suc k) start len h.header some_j some_k ∙ ap (result_map_both (facts_as (suc k)) (fault_as (suc k))) (ok_facts (suc j) start len h.header pass.checks) in
    record { hdu = record { header = pass.hdu.header; payload = pass.hdu.payload }; short = pass.short; number = few; begins = pass.begins; checks = subst IsOk (sym again) refl }
