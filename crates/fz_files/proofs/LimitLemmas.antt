-- No header that a job meets has more than 256 blocks, and no tile that it works on more than 2^26 pixels.
use Rattle.std.proofs.Common.{◌≡◌, ℕ, zero, suc, ◌+◌, ◌-◌, ◌*◌, ◌/◌, ◌^◌, ◌<◌, ◌≤◌, min, nat_lt, Bool, true, false, List, [], ◌∷◌, ◌++◌, length, take, drop, map, codes, cond, Option, Some, None, Ok, IsOk, if◌then◌else◌, refl, sym, subst, ◌∙◌, arith}
use Rattle.std.specs.List.{filter}
use Rattle.std.specs.Option.{option_map}
use Rattle.std.proofs.lemmas.Bool.Decides.{nat_tests}
use Rattle.std.proofs.lemmas.List.{length-take}
use Rattle.fz_base.specs.Refusal.{first_refusal, refusal}
use Rattle.fz_base.specs.declared.fault.Fault.{Fault}
use Rattle.fz_base.specs.declared.fault.Place.TheVariants.{Card}
use Rattle.fz_base.specs.declared.kind.Kind.TheVariants.{Limit}
use Rattle.fz_block.specs.Cards.{end_among, end_of, is_named}
use Rattle.fz_block.specs.Checks.{block_checks, blocks_to_end, header_blocks_of, header_room, unless_refused, walk_of}
use Rattle.fz_block.specs.Hdus.{cards_of}
use Rattle.fz_block.specs.Walk.{RefusesNone}
use Rattle.fz_block.specs.declared.header.Header.{Header}
use Rattle.fz_grid.specs.Arrays.{product}
use Rattle.fz_grid.specs.Region.{lengths_of}
use Rattle.fz_checks.specs.Greatest.{greatest}
use Rattle.fz_checks.specs.JobChecks.{already_packed, data_fill, fill_in, pack_hdu_checks}
use Rattle.fz_checks.specs.Judges.{pack_judge, unpack_judge}
use Rattle.fz_head.specs.PackChecks.{limit_checks, name_checks, offset_check, pack_checks}
use Rattle.fz_head.specs.Packable.{is_packable}
use Rattle.fz_head.specs.Planned.{pack_plan_of}
use Rattle.fz_checks.specs.WorkBuffers.{pixels_of_tile}
use Rattle.fz_head.specs.declared.options.PackOptions.{PackOptions}
use Rattle.fz_head.specs.declared.plan.Plan.{Plan}
use Rattle.fz_files.specs.declared.job.Job.{Job}
use Rattle.fz_files.specs.declared.job.Job.TheVariants.{Pack, Unpack, Cut, Verify, List as ListHdus, Drill, Retile}
use Rattle.fz_files.specs.Buffers.{found_len, header_len, largest_behind, largest_plain, largest_tile, longest_header, longest_plain, longest_reached, plans_behind, plans_for}
use Rattle.fz_files.specs.Retiled.{plain_of}
use Rattle.fz_files.specs.Restored.{header_in, is_image, plan_in}
use Rattle.fz_files.specs.Walks.{Reached, found_headers, header_fault, headers_for, job_walk, last_of, reached_by}
use Rattle.fz_files.proofs.FaultLemmas.{WalkFindsHeaders, cut_header, found_walk}
use Rattle.fz_files.proofs.ImageLemmas.{CutFindsImage, EachIs, IsReadable, ReadableIf, UnpackFindsImage, unpacked_readable}
use Rattle.fz_files.proofs.ReachedLemmas.{back_passed}

-- ---- headers

end_below : (n i : ℕ) (cards : List ℕ) → end_among n cards ≡ Some i → i < n
unfolding end_among
end_below zero i cards found = absurd cc
end_below (suc n) i cards found = by_card (is_named (codes "END") (take 80 cards)) (end_among n (drop 80 cards)) (λ j e. end_below n j (drop 80 cards) e) found
  where
    by_card : (named : Bool) (rest : Option ℕ) → ((j : ℕ) → rest ≡ Some j → j < n) → (if named then Some 0 else option_map suc rest) ≡ Some i → i < suc n
    by_card true rest later e =
        let same : ◌≡◌ {A = ℕ} 0 i = cc in
        omega (arith, same)
    by_card false None later e = absurd cc
    by_card false (Some j) later e =
        let same : suc j ≡ i = cc in
        let below : j < n = later j refl in
        omega (arith, same, below)

few_blocks : (start : ℕ) (file : List ℕ) → blocks_to_end (end_of (header_room start file)) ≤ 256
few_blocks start file = by_end (end_of (header_room start file)) refl
  where
    room : length (header_room start file) ≤ 737280
    room = omega (arith, length-take (2880 * min 256 ((length file - start) / 2880)) (drop start file))

    by_end : (end : Option ℕ) → end_of (header_room start file) ≡ end → blocks_to_end end ≤ 256
    by_end None is = omega arith
    by_end (Some i) is =
        let below : i < length (header_room start file) / 80 = end_below (length (header_room start file) / 80) i (header_room start file) is in
        omega (arith, room, below)

short_header : (k start : ℕ) (file : List ℕ) → found_len (header_blocks_of k start file) ≤ 737280
unfolding header_blocks_of
short_header k start file = by_first (first_refusal (block_checks k start file))
  where
    by_first : (found : Option Fault) → found_len (unless_refused (blocks_to_end (end_of (header_room start file))) found) ≤ 737280
    by_first (Some x) = omega arith
    by_first None = let few = few_blocks start file in omega (arith, few)

short_headers : (file : List ℕ) (rs : List Reached) → greatest (map (header_len file) rs) ≤ 737280
short_headers file [] = omega arith
short_headers file (r ∷ rs) =
    let here : header_len file r ≤ 737280 = short_header r.hdu r.start file in
    let later : greatest (map (header_len file) rs) ≤ 737280 = short_headers file rs in
    omega (arith, here, later)

pub longest_is_short : (job : Job) (file : List ℕ) → longest_header job file ≤ 737280
longest_is_short (Pack o) file = short_headers file (reached_by (Pack o) file)
longest_is_short Unpack file = short_headers file (reached_by Unpack file)
longest_is_short (Cut wanted sieve) file = short_headers file (reached_by (Cut wanted sieve) file)
longest_is_short Verify file = short_headers file (reached_by Verify file)
longest_is_short ListHdus file = short_headers file (reached_by ListHdus file)
longest_is_short (Drill rows) file = omega arith
longest_is_short (Retile o) file =
    let packed : longest_reached Unpack file ≤ 737280 = short_headers file (reached_by Unpack file) in
    let plain : longest_plain o (plain_of file) ≤ 737280 = by_plain (plain_of file) in
    omega (arith, packed, plain)
  where
    by_plain : (plain : Option (List ℕ)) → longest_plain o plain ≤ 737280
    by_plain None = omega arith
    by_plain (Some u) = short_headers u (reached_by (Pack o) u)

-- ---- tiles

abbrev IsSmall : Plan → Type 0
IsSmall p = pixels_of_tile p ≤ 2 ^ 26

each_map : (P Q : Header → Type 0) (hs : List Header) → ((h : Header) → P h → Q h) → EachIs P hs → EachIs Q hs
each_map P Q [] f each = tt
each_map P Q (h ∷ hs) f each = (f h each.0, each_map P Q hs f each.1)

small_all : (plan : Header → Plan) (hs : List Header) → EachIs (λ h. IsSmall (plan h)) hs → greatest (map pixels_of_tile (map plan hs)) ≤ 2 ^ 26
small_all plan [] each = omega arith
small_all plan (h ∷ hs) each =
    let here : pixels_of_tile (plan h) ≤ 2 ^ 26 = each.0 in
    let later : greatest (map pixels_of_tile (map plan hs)) ≤ 2 ^ 26 = small_all plan hs each.1 in
    omega (arith, here, later)

small_some : (test : Header → Bool) (plan : Header → Plan) (hs : List Header) → EachIs (λ h. test h ≡ true → IsSmall (plan h)) hs → greatest (map pixels_of_tile (map plan (filter test hs))) ≤ 2 ^ 26
small_some test plan [] each = omega arith
small_some test plan (h ∷ hs) each = by_test (test h) each.0 (small_some test plan hs each.1)
  where
    by_test : (b : Bool) → (b ≡ true → IsSmall (plan h)) → greatest (map pixels_of_tile (map plan (filter test hs))) ≤ 2 ^ 26 →
        greatest (map pixels_of_tile (map plan (cond b (h ∷ filter test hs) (filter test hs)))) ≤ 2 ^ 26
    by_test true small later =
        let here : pixels_of_tile (plan h) ≤ 2 ^ 26 = small refl in
        omega (arith, here, later)
    by_test false small later = later

-- those of an image that is packed

none_refused : (answer : Bool) (found : Option Fault) → IsOk (unless_refused answer found) → found ≡ None
none_refused answer None ok = refl
none_refused answer (Some fault) ok = absurd cc

second_small : (a : Bool) (n : ℕ) (x y : Fault) (cs : List (Bool × Fault)) → first_refusal ((a, x) ∷ (nat_lt (2 ^ 26) n, y) ∷ cs) ≡ None → n ≤ 2 ^ 26
second_small true n x y cs none = absurd cc
second_small false n x y cs none = by_test (nat_lt (2 ^ 26) n) refl none
  where
    by_test : (b : Bool) → nat_lt (2 ^ 26) n ≡ b → first_refusal ((b, y) ∷ cs) ≡ None → n ≤ 2 ^ 26
    by_test true is none = absurd cc
    by_test false is none = grind (arith, nat_tests, is)

small_image : (o : PackOptions) (file : List ℕ) (h : Header) → first_refusal (pack_hdu_checks o file h) ≡ None → is_packable h ≡ true → IsSmall (pack_plan_of o h)
small_image o file h none packable = by_sort (is_packable h) packable none
  where
    header : List ℕ
    header = header_in file h

    p : Plan
    p = pack_plan_of o h

    by_sort : (b : Bool) → b ≡ true → first_refusal ((already_packed h header ∷ (if b then pack_checks o h header else [])) ++ (if b then data_fill h (fill_in file h) ∷ [] else [])) ≡ None → IsSmall p
    by_sort false is none = absurd cc
    by_sort true is none =
        let x : Fault = refusal h.hdu (Card 2) Limit in
        let limits : first_refusal (limit_checks h p o.sums (cards_of header) ++ (offset_check h p.codec (cards_of header) ∷ data_fill h (fill_in file h) ∷ [])) ≡ None =
        back_passed (already_packed h header ∷ name_checks h header) (limit_checks h p o.sums (cards_of header) ++ (offset_check h p.codec (cards_of header) ∷ data_fill h (fill_in file h) ∷ [])) none in
        second_small (nat_lt (2 ^ 40) (product (lengths_of p.shape))) (product (lengths_of p.tile)) x x _ limits

small_images : (o : PackOptions) (file : List ℕ) (hs : List Header) → RefusesNone (pack_judge o file) hs → EachIs (λ h. is_packable h ≡ true → IsSmall (pack_plan_of o h)) hs
small_images o file [] none = tt
small_images o file (h ∷ hs) none = (small_image o file h (none_refused false (first_refusal (pack_hdu_checks o file h)) none.0), small_images o file hs none.1)

-- those of a packed one
small_table : (file : List ℕ) (h : Header) → IsReadable file h → IsSmall (plan_in file h)
small_table file h is = is.divided.tile_pixels

module _ (finds : WalkFindsHeaders) (unpacks : UnpackFindsImage) (cuts : CutFindsImage) where
  small_tables : (file : List ℕ) (hs : List Header) → walk_of (unpack_judge file) 65536 file ≡ Ok hs → greatest (map pixels_of_tile (map (plan_in file) (filter (is_image file) hs))) ≤ 2 ^ 26
  small_tables file hs walk =
      let found = finds (unpack_judge file) 65536 file hs walk in
      small_some (is_image file) (plan_in file) hs
      (each_map (ReadableIf file) (λ h. is_image file h ≡ true → IsSmall (plan_in file h)) hs (λ h readable packed. small_table file h (readable packed))
      (unpacked_readable unpacks 0 0 found.3.0 file hs found.3.2 found.2))

  -- by the headers that the walk finds
  small_unpacked : (job : Job) (file : List ℕ) → job_walk job file ≡ walk_of (unpack_judge file) 65536 file → header_fault job file ≡ None →
      greatest (map pixels_of_tile (map (plan_in file) (filter (is_image file) (headers_for job file)))) ≤ 2 ^ 26
  small_unpacked job file same none =
      let found = found_walk job file (job_walk job file) none in
      subst (λ r. greatest (map pixels_of_tile (map (plan_in file) (filter (is_image file) (found_headers r)))) ≤ 2 ^ 26) (sym found.1) (small_tables file found.0 (sym same ∙ found.1))

  small_for : (job : Job) (file : List ℕ) → header_fault job file ≡ None → greatest (map pixels_of_tile (plans_for job file (headers_for job file))) ≤ 2 ^ 26
  unfolding job_walk
  small_for (Pack o) file none =
      let found = found_walk (Pack o) file (walk_of (pack_judge o file) 65535 file) none in
      let walk = finds (pack_judge o file) 65535 file found.0 found.1 in
      subst (λ r. greatest (map pixels_of_tile (map (pack_plan_of o) (filter is_packable (found_headers r)))) ≤ 2 ^ 26) (sym found.1)
      (small_some is_packable (pack_plan_of o) found.0 (small_images o file found.0 walk.2))
  small_for Unpack file none = small_unpacked Unpack file refl none
  small_for (Cut wanted sieve) file none =
      small_all (plan_in file) (last_of (headers_for (Cut wanted sieve) file))
      (each_map (IsReadable file) (λ h. IsSmall (plan_in file h)) (last_of (headers_for (Cut wanted sieve) file)) (small_table file) (cut_header finds cuts wanted sieve file none))
  small_for Verify file none = small_unpacked Verify file refl none
  small_for ListHdus file none = omega arith
  small_for (Drill rows) file none = omega arith
  small_for (Retile o) file none = small_unpacked (Retile o) file refl none

  small_behind : (job : Job) (file : List ℕ) (found : Option Fault) → header_fault job file ≡ found → greatest (map pixels_of_tile (plans_behind found job file)) ≤ 2 ^ 26
  small_behind job file (Some x) is = omega arith
  small_behind job file None is = small_for job file is

  pub largest_is_small : (job : Job) (file : List ℕ) → largest_tile job file ≤ 2 ^ 26
  largest_is_small (Pack o) file = small_behind (Pack o) file (header_fault (Pack o) file) refl
  largest_is_small Unpack file = small_behind Unpack file (header_fault Unpack file) refl
  largest_is_small (Cut wanted sieve) file = small_behind (Cut wanted sieve) file (header_fault (Cut wanted sieve) file) refl
  largest_is_small Verify file = small_behind Verify file (header_fault Verify file) refl
  largest_is_small ListHdus file = small_behind ListHdus file (header_fault ListHdus file) refl
  largest_is_small (Drill rows) file = omega arith
  largest_is_small (Retile o) file =
      let packed : largest_behind Unpack file ≤ 2 ^ 26 = small_behind Unpack file (header_fault Unpack file) refl in
      let plain : largest_plain o (plain_of file) ≤ 2 ^ 26 = by_plain (plain_of file) in
      omega (arith, packed, plain)
    where
      by_plain : (plain : Option (List ℕ)) → largest_plain o plain ≤ 2 ^ 26
      by_plain None = omega arith
      by_plain (Some u) = small_behind (Pack o) u (header_fault (Pack o) u) refl

none_listed : (file : List ℕ) (found : Option Fault) → greatest (map pixels_of_tile (plans_behind found ListHdus file)) ≡ 0
none_listed file (Some x) = refl
none_listed file None = refl

pub list_has_none : (file : List ℕ) → largest_tile ListHdus file ≡ 0
list_has_none file = none_listed file (header_fault ListHdus file)
