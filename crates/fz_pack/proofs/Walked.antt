-- What a walk with the checks of `pack` says of the headers that it finds (FITS 4.0, sections 3.1 and 10.1).
use Rattle.std.proofs.Common.{◌≡◌, ℕ, zero, suc, ◌+◌, ◌*◌, ◌/◌, ◌≤◌, ◌==◌, max, Bool, true, false, cond, List, [], ◌∷◌, length, map, take, drop, refl, sym, ap, ◌∙◌, subst, arith}
use Rattle.std.specs.Prelude.{Option, Some, None, Result, Ok, Err, ⊤, if◌then◌else◌}
use Rattle.std.specs.List.{filter}
use Rattle.std.proofs.lemmas.Bool.Decides.{nat_tests}
use Rattle.std.proofs.lemmas.List.{length-append, length-take, take_min}
use Rattle.fz_base.specs.Refusal.{first_refusal}
use Rattle.fz_base.specs.declared.fault.Fault.{Fault}
use Rattle.fz_block.specs.Checks.{Judge, by_judgement, followed_by, hdu_at, header_blocks_of, judged, unless_refused, walk_from}
use Rattle.fz_block.specs.Facts.{IsHeaderOf}
use Rattle.fz_block.specs.Hdus.{hdu_bytes}
use Rattle.fz_block.specs.Header.{data_start_of, next_start_of}
use Rattle.fz_block.specs.Walk.{AreHeadersBetween, PassFrom, PassesAt, StandsAt, begins_hdu, hdu_of, is_stop, stops}
use Rattle.fz_block.specs.declared.header.Header.{Header}
use Rattle.fz_checks.specs.JobChecks.{pack_hdu_checks, plan_to_pack}
use Rattle.fz_head.specs.Packable.{is_packable}
use Rattle.fz_head.specs.Planned.{pack_plan_of}
use Rattle.fz_head.specs.declared.options.PackOptions.{PackOptions}
use Rattle.fz_files.specs.Buffers.{found_len, header_len}
use Rattle.fz_files.specs.Walks.{Reached, reached_after, reached_behind, reached_from}
use Rattle.fz_job.specs.Surveys.{tile_pixels as tile_seen, header_len as header_len_seen}
use Rattle.fz_job.specs.declared.checks.JobChecks.TheVariants.{Pack as PackChecks}
use Rattle.fz_pack.specs.Again.{WasSeen, WereSeen}
use Rattle.fz_pack.proofs.Plans.{largest_within, passed_checks}
use Rattle.fz_checks.specs.WorkBuffers.{pixels_of_tile}
use Rattle.fz_checks.specs.Greatest.{greatest}
use Rattle.fz_checks.specs.Judges.{pack_judge}

-- HDUs from number k on: that they are come to
abbrev pub begun : ℕ → ℕ → List Header → List Reached
begun k start [] = []
begun k start (h ∷ hs) = record { hdu = k; start = start } ∷ begun (suc k) (next_start_of h) hs

-- the blocks of a header are those that the search finds, and it begins as that of its HDU
pub record IsSound (file : List ℕ) (k start : ℕ) (h : Header) : Type 0 where
  pub blocks : header_blocks_of k start file ≡ Ok h.blocks
  pub begins : begins_hdu k (hdu_of file h).header ≡ true

abbrev pub AreSound : List ℕ → ℕ → ℕ → List Header → Type 0
AreSound file k start [] = ⊤
AreSound file k start (h ∷ hs) = IsSound file k start h × AreSound file (suc k) (next_start_of h) hs

-- what the laws say of each
abbrev pub BlocksLaw : Type 0
BlocksLaw = (k start : ℕ) (file header : List ℕ) → StandsAt k start file header → header_blocks_of k start file ≡ Ok (length header / 2880)

abbrev pub PlacesLaw : Type 0
PlacesLaw = (file header : List ℕ) (h : Header) → IsHeaderOf header h → next_start_of h ≤ length file → (data_start_of h ≡ h.start + length header) × (next_start_of h ≡ data_start_of h + length (hdu_of file h).payload)

module _ (o : PackOptions) (file : List ℕ) where
  abbrev J : Judge
  J = pack_judge o file

  -- Each of some headers was found where the one before it ends, and the job refuses it not and goes on after it; the last ends the file.
  abbrev pub AreFound : ℕ → ℕ → List Header → Type 0
  AreFound k start [] = start ≡ length file
  AreFound k start (h ∷ hs) = (hdu_at k start file ≡ Ok h) × (J h ≡ Ok false) × AreFound (suc k) (next_start_of h) hs

  -- and they are what the checks come to
  abbrev pub AreMet : ℕ → ℕ → List Reached → List Header → Type 0
  AreMet k start reached hs = AreFound k start hs × (reached ≡ begun k start hs)

  -- the job never stops at an HDU
  never_true : (r : Option Fault) → unless_refused false r ≡ Ok true → ⊥
  never_true None e = absurd cc
  never_true (Some x) e = absurd cc

  not_stop : (r : Option Fault) → is_stop (unless_refused false r) ≡ false
  not_stop None = refl
  not_stop (Some x) = refl

  pub never_stops : (hs : List Header) → stops J hs ≡ false
  never_stops [] = refl
  never_stops (h ∷ hs) = rw (not_stop (first_refusal (pack_hdu_checks o file h))) (never_stops hs)

  -- one header, and those after it
  abbrev rest_of : ℕ → ℕ → Header → List Reached
  rest_of more k h = reached_from J more (suc k) (next_start_of h) file

  abbrev walk_behind : ℕ → ℕ → Header → Result (List Header) Fault
  walk_behind more k h = walk_from J more (suc k) (next_start_of h) file

  module _ (more k start : ℕ) (hs : List Header) (later : (h : Header) (ks : List Header) → walk_behind more k h ≡ Ok ks → AreMet (suc k) (next_start_of h) (rest_of more k h) ks) where
    abbrev here : Reached
    here = record { hdu = k; start = start }

    met_last : (h : Header) → hdu_at k start file ≡ Ok h → J h ≡ Ok false → (next_start_of h == length file) ≡ true → h ∷ [] ≡ hs → AreMet k start (here ∷ []) hs
    met_last h at says ends same =
        let end : next_start_of h ≡ length file = grind (arith, nat_tests, ends) in
        subst (AreMet k start (here ∷ [])) same ((at, says, end), refl)

    met_more : (h : Header) (r : Result (List Header) Fault) → hdu_at k start file ≡ Ok h → J h ≡ Ok false → walk_behind more k h ≡ r → followed_by h r ≡ Ok hs → AreMet k start (here ∷ rest_of more k h) hs
    met_more h (Err x) at says is e = absurd cc
    met_more h (Ok ks) at says is e =
        let behind : AreMet (suc k) (next_start_of h) (rest_of more k h) ks = later h ks is in
        let same : h ∷ ks ≡ hs = cc in
        subst (AreMet k start (here ∷ rest_of more k h)) same ((at, says, behind.0), ap (λ rs. here ∷ rs) behind.1)

    met_by : (h : Header) (last : Bool) → (next_start_of h == length file) ≡ last → hdu_at k start file ≡ Ok h → J h ≡ Ok false →
        (if last then Ok (h ∷ []) else followed_by h (walk_behind more k h)) ≡ Ok hs → AreMet k start (here ∷ (if last then [] else rest_of more k h)) hs
    met_by h true ends at says e = let same : h ∷ [] ≡ hs = cc in met_last h at says ends same
    met_by h false ends at says e = met_more h (walk_behind more k h) at says refl e

    met_judged : (h : Header) (r : Result Bool Fault) → hdu_at k start file ≡ Ok h → J h ≡ r → by_judgement file h (walk_behind more k h) r ≡ Ok hs → AreMet k start (here ∷ reached_behind file h (rest_of more k h) r) hs
    met_judged h (Err x) at says e = absurd cc
    met_judged h (Ok true) at says e = absurd (never_true (first_refusal (pack_hdu_checks o file h)) says)
    met_judged h (Ok false) at says e = met_by h (next_start_of h == length file) refl at says e

    met_at : (r : Result Header Fault) → hdu_at k start file ≡ r → judged file J (walk_behind more k) r ≡ Ok hs → AreMet k start (here ∷ reached_after file J (rest_of more k) r) hs
    met_at (Err x) at e = absurd cc
    met_at (Ok h) at e = met_judged h (J h) at refl e

  pub walk_met : (more k start : ℕ) (hs : List Header) → walk_from J more k start file ≡ Ok hs → AreMet k start (reached_from J more k start file) hs
  unfolding walk_from reached_from
  walk_met zero k start hs e = absurd cc
  walk_met (suc more) k start hs e = met_at more k start hs (λ h ks is. walk_met more (suc k) (next_start_of h) ks is) (hdu_at k start file) refl e

  -- ---- what the laws say of each

  ends_behind : (k start end : ℕ) (hs : List Header) → AreHeadersBetween k start end file hs → start ≤ end
  ends_behind k start end [] are = omega (arith, are)
  ends_behind k start end (h ∷ hs) are =
      let rest : next_start_of h ≤ end = ends_behind (suc k) (next_start_of h) end hs are.3 in
      let place : h.start ≡ start = are.1 in
      omega (arith, rest, place)

  stands : (k start : ℕ) (h : Header) → h.start ≡ start → IsHeaderOf (hdu_of file h).header h → PassesAt k start (length file) (hdu_of file h) → StandsAt k start file (hdu_of file h).header
  stands k start h place is passes = record {
    whole = is.whole;
    short = is.short;
    place = ap (λ n. take (length (hdu_of file h).header) (drop n file)) (sym place)
        ∙ ap (λ n. take n (drop h.start file)) (length-take (2880 * h.blocks) (drop h.start file)) ∙ take_min (2880 * h.blocks) (drop h.start file);
    number = passes.number;
    begins = passes.begins;
  }

  pub walk_sound : BlocksLaw → PlacesLaw → (k start end : ℕ) (hs : List Header) → end ≤ length file → AreHeadersBetween k start end file hs → PassFrom k start (length file) (map (hdu_of file) hs) → AreSound file k start hs
  walk_sound blocks places k start end [] within are pass = tt
  walk_sound blocks places k start end (h ∷ hs) within are pass =
      let header : List ℕ = (hdu_of file h).header in
      let is : IsHeaderOf header h = are.2 in
      let passes : PassesAt k start (length file) (hdu_of file h) = pass.0 in
      let behind : next_start_of h ≤ end = ends_behind (suc k) (next_start_of h) end hs are.3 in
      let inside : next_start_of h ≤ length file = omega (arith, behind, within) in
      let at = places file header h is inside in
      let whole : length (hdu_bytes (hdu_of file h)) ≡ length header + length (hdu_of file h).payload = length-append header (hdu_of file h).payload in
      let place : h.start ≡ start = are.1 in
      let begin : data_start_of h ≡ h.start + length header = at.0 in
      let next : next_start_of h ≡ data_start_of h + length (hdu_of file h).payload = at.1 in
      let end_is : start + length (hdu_bytes (hdu_of file h)) ≡ next_start_of h = omega (arith, whole, place, begin, next) in
      let many : h.blocks ≡ length header / 2880 = ap (λ (x : Header). x.blocks) is.facts in (
        record { blocks = blocks k start file header (stands k start h place is passes) ∙ ap Ok (sym many); begins = passes.begins },
        walk_sound blocks places (suc k) (next_start_of h) end hs within are.3 (subst (λ n. PassFrom (suc k) n (length file) (map (hdu_of file) hs)) end_is pass.1),
      )

  -- ---- what is learnt of them all

  pub longest_is : (k start : ℕ) (hs : List Header) → AreSound file k start hs → greatest (map (header_len file) (begun k start hs)) ≡ greatest (map header_len_seen hs)
  longest_is k start [] sound = refl
  longest_is k start (h ∷ hs) sound =
      let one : found_len (header_blocks_of k start file) ≡ 2880 * h.blocks = ap found_len sound.0.blocks in
      let rest = longest_is (suc k) (next_start_of h) hs sound.1 in
      λ i. max (one i) (rest i)

  larger : (b : Bool) (h : Header) (hs : List Header) (n : ℕ) → greatest (map pixels_of_tile (map (pack_plan_of o) hs)) ≡ n →
      greatest (map pixels_of_tile (map (pack_plan_of o) (cond b (h ∷ hs) hs))) ≡ max (if b then pixels_of_tile (pack_plan_of o h) else 0) n
  larger true h hs n is = ap (max (pixels_of_tile (pack_plan_of o h))) is
  larger false h hs n is = omega (arith, is)

  pub largest_is : (hs : List Header) → greatest (map pixels_of_tile (map (pack_plan_of o) (filter is_packable hs))) ≡ greatest (map (tile_seen (PackChecks o) file) hs)
  unfolding tile_seen
  largest_is [] = refl
  largest_is (h ∷ hs) = larger (is_packable h) h (filter is_packable hs) (greatest (map (tile_seen (PackChecks o) file) hs)) (largest_is hs)

  -- ---- so they were seen

  module _ (most tile : ℕ) where
    was_seen : (k start : ℕ) (h : Header) → hdu_at k start file ≡ Ok h → J h ≡ Ok false → IsSound file k start h → header_len_seen h ≤ most → tile_seen (PackChecks o) file h ≤ tile → WasSeen o file k start most tile h
    unfolding plan_to_pack tile_seen
    was_seen k start h found says sound short small = record {
      found = found;
      simple = λ first. ap (λ j. begins_hdu j (hdu_of file h).header) (sym first) ∙ sound.begins;
      short = short;
      plan = if is_packable h then Some (pack_plan_of o h) else None;
      planned = ap (unless_refused (if is_packable h then Some (pack_plan_of o h) else None)) (passed_checks o file h says);
      small = largest_within o h (is_packable h) tile small;
    }

    pub were_seen : (k start : ℕ) (hs : List Header) → AreFound k start hs → AreSound file k start hs → greatest (map header_len_seen hs) ≤ most → greatest (map (tile_seen (PackChecks o) file) hs) ≤ tile →
        WereSeen o file most tile k start hs
    were_seen k start [] found sound short small = found
    were_seen k start (h ∷ hs) found sound short small = (
      was_seen k start h found.0 found.1 sound.0 (omega (arith, short)) (omega (arith, small)),
      were_seen (suc k) (next_start_of h) hs found.2 sound.1 (omega (arith, short)) (omega (arith, small)),
    )
