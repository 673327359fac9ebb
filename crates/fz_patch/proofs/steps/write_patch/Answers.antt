-- The passes and the cards, one after another: what they write is what a patch writes.
use Rattle.std.proofs.Common.{◌≡◌, ◌⊎◌, inl, inr, ℕ, ◌+◌, ◌-◌, ◌*◌, ◌^◌, ◌<◌, ◌≤◌, ℤ, List, ◌++◌, length, zip, Option, Some, IfSome, Result, Err, if◌then◌else◌, refl, sym, ap, ◌∙◌, subst, arith, rules}
use Rattle.std.specs.Option.{option_map}
use Rattle.std.proofs.lemmas.Result.{on_ok_weaker}
use Rattle.fz_base.specs.Counts.{Amend, Tally}
use Rattle.fz_base.specs.Source.{LogsWithin}
use Rattle.fz_base.specs.Stop.{IfRefused, IsRefused}
use Rattle.fz_base.specs.Store.{HasAtLeast, IsSettled, StoreKept}
use Rattle.fz_base.specs.declared.failure.Stop.{Stop}
use Rattle.fz_block.specs.Facts.{IsHeaderOf, facts_of}
use Rattle.fz_block.specs.Hdus.{pcount_index, size_at}
use Rattle.fz_block.specs.Header.{next_start_of}
use Rattle.fz_files.specs.Restored.{header_in}
use Rattle.fz_files.specs.Packed.{heap_of}
use Rattle.fz_tile.specs.Plain.{AreBytes}
use Rattle.fz_laws.specs.Amends.{applied}
use Rattle.fz_laws.specs.FirstPatchFault.{BoxHasNumbers, IsBoxFault}
use Rattle.fz_laws.specs.Grown.{SaysMore}
use Rattle.fz_laws.specs.NewNumbers.{box_tiles}
use Rattle.fz_laws.specs.Writes.{Steps, before_rows, before_sums, grown_end, header_now, heap_writes, new_codes, other_rows, row_writes, said_most, sum_writes}
use Rattle.fz_fetch.specs.Rows.{StandsWithin}
use Rattle.fz_files.specs.FirstFault.{picked_tiles_of}
use Rattle.fz_patch.specs.Cards.{HasPlaces, forms_writes, sums_writes, with_forms, forms_for}
use Rattle.fz_patch.specs.Clauses.{IsPatchedBy, LeavesSafe, TellsPatchFault}
use Rattle.fz_patch.specs.Compared.{HeapEndsWith}
use Rattle.fz_target.specs.Ends.{Patches, SameCounts}
use Rattle.fz_patch.specs.Jobs.{ForJobs}
use Rattle.fz_target.specs.Measures.{measure_of}
use Rattle.fz_target.specs.Reads.{pixels_end}
use Rattle.fz_target.specs.Steps.{ComesInWork, KeepsHeader, Wrote, WroteSome}
use Rattle.fz_target.specs.Targets.{GivesWithin, IsGivenTo, IsTargetIn, given_at, grown_by, job_at, plan_to_write}
use Rattle.fz_target.specs.Told.{IfBoth}
use Rattle.fz_target.specs.declared.measure.Measure.{Measure}
use Rattle.fz_target.specs.declared.target.Target.{Target}
use Rattle.fz_job.specs.Images.{HaveRoom}
use Rattle.fz_patch.proofs.Beside.{Keeps, keeps_same}
use Rattle.fz_patch.proofs.KeptCards.{SumCardsAreWhole}
use Rattle.fz_patch.proofs.KeptSteps.{KeptBy, after_cards, after_codes, after_rows, after_sums}
use Rattle.fz_patch.proofs.StepRequires.{heap_says, kept_header, said_after}
use Rattle.fz_patch.proofs.CodedEnds.{ends_of, zeros_near}
use Rattle.fz_patch.proofs.SumCards.{header_long}
use Rattle.fz_patch.proofs.HeapWritten.{codes_at_end}
use Rattle.fz_patch.proofs.NewCodes.{heap_end_of}
use Rattle.fz_patch.proofs.NewTile.{room_still}
use Rattle.fz_patch.proofs.Amended.{at-least, kept-read, kept-same, kept-then, reach-is, reach-then, read-amends, same-counts, same-is, same-then}
use Rattle.fz_patch.proofs.EndsJoined.{amend_patches, amends_unrefused, is_refused_as, none_refused, reach_table, read_writes, refused_as, refused_weaker, start_reach, tile_patches, told_long}
use Rattle.fz_patch.proofs.EndsTold.{both_of, some_of, told-if, told-is, told-some, told-then}
use Rattle.fz_patch.proofs.SettledSteps.{amid_first, amid_later, joined, ok_both}
use Rattle.fz_patch.proofs.StepExits.{fault_told, if_some_map, late_tile, never_faulty, patches_then, refused_tile, some_from, stands_at, wrote_from}
use Rattle.fz_patch.proofs.StepHeaders.{StepLaws, all_there, grown_said, grown_says, pcount_place}
use Rattle.fz_patch.proofs.StepPatch.{Ready, all_is, are, cards_are, es, for_jobs, bytes_are, heap_is, measure_is, numbers, olds, ready_of, rows_are, some_1, some_2, some_3, some_4, steps, still_numbers, stops, sums_are, wrote_4}
use Rattle.fz_patch.proofs.StepSums.{datasum_named, sums_same}
use Rattle.fz_patch.proofs.Wrotes.{applied-append}
use Rattle.fz_patch.proofs.Errors.{never_ok}
use Rattle.fz_patch.proofs.steps.write_patch.Goals as goal

pub measure_codes-requires-clause-within : goal.measure_codes-requires-clause-within
measure_codes-requires-clause-within g c κs within =
    stands_at c.args.target.now (g.D.Source.attached c.args.store.now) c.requires.found.attached.0 c.requires.found.target c.requires.found.attached.1 c.requires.found.attached.2

pub measure_codes-requires-clause-said : goal.measure_codes-requires-clause-said
measure_codes-requires-clause-said g c κs within =
    if_some_map (g.D.Source.held c.args.store.now) _ _ (λ f said. said.0) c.requires.found.said

pub find_forms-requires-clause-within : goal.find_forms-requires-clause-within
find_forms-requires-clause-within g c =
    subst (λ (a : Option ℕ). StandsWithin a c.args.target.now.image.table) (sym c.in_ok-found.ensures.stays.0.attached_is)
    (stands_at c.args.target.now (g.D.Source.attached c.args.store.now) c.requires.found.attached.0 c.requires.found.target c.requires.found.attached.1 c.requires.found.attached.2)

pub write_codes-requires-clause-within : goal.write_codes-requires-clause-within
write_codes-requires-clause-within g c κs within =
    subst (λ (a : Option ℕ). StandsWithin a c.args.target.now.image.table) (sym (c.in_ok-forms.ensures.stays.0.attached_is ∙ c.in_ok-found.ensures.stays.0.attached_is))
    (stands_at c.args.target.now (g.D.Source.attached c.args.store.now) c.requires.found.attached.0 c.requires.found.target c.requires.found.attached.1 c.requires.found.attached.2)

pub write_codes-requires-clause-said : goal.write_codes-requires-clause-said
write_codes-requires-clause-said g c κs within =
    subst (λ (h : Option (List ℕ)). IfSome h (λ f. IsTargetIn f c.args.target.now)) (sym (c.in_ok-forms.ensures.stays.0.held_is ∙ c.in_ok-found.ensures.stays.0.held_is))
    (if_some_map (g.D.Source.held c.args.store.now) _ _ (λ f said. said.0) c.requires.found.said)

-- ---- the new codes are not measured

pub returns-in_err-found-clause-safe : goal.returns-in_err-found-clause-safe
returns-in_err-found-clause-safe g c =
    let t = c.args.target.now in
    let buf : List ℕ = c.args.buf.now in
    let held : Option (List ℕ) = g.D.Source.held c.args.store.now in
    let given : Option (List ℕ) = g.S.Source.held c.args.patch.now in
    let log : Option (List Amend) = (g.D.Source.tally c.args.store.now).amended.writes in
    let same : g.D.Source.held c.measure_codes.new.store ≡ held = c.in_err-found.ensures.stays.0.held_is in
    for_jobs held given t (λ job. LeavesSafe job (g.D.Source.held c.measure_codes.new.store) (g.D.Source.tally c.args.store.now).amended (g.D.Source.tally c.measure_codes.new.store).amended) (λ f p is by wanted corner to target. inl (same ∙ is, read_writes (g.D.Source.tally c.args.store.now) (g.D.Source.tally c.measure_codes.new.store) c.in_err-found.ensures.cause.store_kept))

pub returns-in_err-found-clause-first_fault : goal.returns-in_err-found-clause-first_fault
returns-in_err-found-clause-first_fault g c =
    let t = c.args.target.now in
    let buf : List ℕ = c.args.buf.now in
    let held : Option (List ℕ) = g.D.Source.held c.args.store.now in
    let given : Option (List ℕ) = g.S.Source.held c.args.patch.now in
    let log : Option (List Amend) = (g.D.Source.tally c.args.store.now).amended.writes in
    let stop : Stop = c.in_err-found.field-0.0 in
    let stopped : c.from_residual.result ≡ Err stop = search rules in
    subst (λ (r : Result (Unit {0}) Stop). ForJobs held given t (λ job file by. TellsPatchFault job (Some file) (Some by) r)) (sym stopped)
    (fault_told (Unit {0}) t held given stop (refused_as Measure (Unit {0}) (λ x. IfBoth held given (λ f p. (corner : List ℕ) → IsGivenTo corner p t → IsBoxFault f t.header (given_at corner p) (Some x))) stop c.in_err-found.ensures.fault))

pub returns-in_err-found-clause-unwritten : goal.returns-in_err-found-clause-unwritten
returns-in_err-found-clause-unwritten g c =
    let t = c.args.target.now in
    let buf : List ℕ = c.args.buf.now in
    let held : Option (List ℕ) = g.D.Source.held c.args.store.now in
    let given : Option (List ℕ) = g.S.Source.held c.args.patch.now in
    let log : Option (List Amend) = (g.D.Source.tally c.args.store.now).amended.writes in
    let stop : Stop = c.in_err-found.field-0.0 in
    let stopped : c.from_residual.result ≡ Err stop = search rules in
    λ refused.
    let again : IsRefused {X = Measure} (Err stop) = is_refused_as stop (subst (λ (r : Result (Unit {0}) Stop). IsRefused r) stopped refused) in
    for_jobs held given t (λ job file by. (g.D.Source.held c.measure_codes.new.store ≡ held) × (g.D.Source.tally c.measure_codes.new.store ≡ g.D.Source.tally c.args.store.now)) (λ f p is by wanted corner to target. (c.in_err-found.ensures.stays.0.held_is, refused_tile (g.D.Source.tally c.args.store.now) (g.D.Source.tally c.measure_codes.new.store) (g.S.Source.tally c.args.patch.now) (g.S.Source.tally c.measure_codes.new.patch) (Err stop) c.in_err-found.ensures.cause again))

pub returns-in_err-found-clause-late : goal.returns-in_err-found-clause-late
returns-in_err-found-clause-late g c =
    let t = c.args.target.now in
    let buf : List ℕ = c.args.buf.now in
    let held : Option (List ℕ) = g.D.Source.held c.args.store.now in
    let given : Option (List ℕ) = g.S.Source.held c.args.patch.now in
    let log : Option (List Amend) = (g.D.Source.tally c.args.store.now).amended.writes in
    let stop : Stop = c.in_err-found.field-0.0 in
    let stopped : c.from_residual.result ≡ Err stop = search rules in
    subst (λ (r : Result (Unit {0}) Stop). IfRefused r (λ x. ((g.D.Source.held c.measure_codes.new.store ≡ held) × (g.D.Source.tally c.measure_codes.new.store ≡ g.D.Source.tally c.args.store.now)) ⊎ ComesInWork t.header.hdu x)) (sym stopped)
    (refused_as Measure (Unit {0}) (λ x. ((g.D.Source.held c.measure_codes.new.store ≡ held) × (g.D.Source.tally c.measure_codes.new.store ≡ g.D.Source.tally c.args.store.now)) ⊎ ComesInWork t.header.hdu x) stop (late_tile {X = Measure} (ComesInWork t.header.hdu) (g.D.Source.tally c.args.store.now) (g.D.Source.tally c.measure_codes.new.store) (g.S.Source.tally c.args.patch.now) (g.S.Source.tally c.measure_codes.new.patch) held (g.D.Source.held c.measure_codes.new.store) stop c.in_err-found.ensures.stays.0.held_is c.in_err-found.ensures.cause))

pub returns-in_err-found-clause-cause : goal.returns-in_err-found-clause-cause
returns-in_err-found-clause-cause g c =
    let t = c.args.target.now in
    let buf : List ℕ = c.args.buf.now in
    let held : Option (List ℕ) = g.D.Source.held c.args.store.now in
    let given : Option (List ℕ) = g.S.Source.held c.args.patch.now in
    let log : Option (List Amend) = (g.D.Source.tally c.args.store.now).amended.writes in
    let stop : Stop = c.in_err-found.field-0.0 in
    let stopped : c.from_residual.result ≡ Err stop = search rules in
    subst (λ (r : Result (Unit {0}) Stop). Patches (g.D.Source.tally c.args.store.now) (g.D.Source.tally c.measure_codes.new.store) (g.S.Source.tally c.args.patch.now) (g.S.Source.tally c.measure_codes.new.patch) r) (sym stopped)
    (tile_patches (g.D.Source.tally c.args.store.now) (g.D.Source.tally c.args.store.now) (g.D.Source.tally c.measure_codes.new.store) (g.S.Source.tally c.args.patch.now) (g.S.Source.tally c.args.patch.now) (g.S.Source.tally c.measure_codes.new.patch) (Err stop) (kept-same (g.D.Source.tally c.args.store.now)) (same-counts (g.D.Source.tally c.args.store.now)) refl
    (record { store_kept = c.in_err-found.ensures.cause.store_kept; patch_kept = c.in_err-found.ensures.cause.patch_kept; ok = tt; stop = c.in_err-found.ensures.cause.stop }))

pub returns-in_err-found-clause-reach : goal.returns-in_err-found-clause-reach
returns-in_err-found-clause-reach g c =
    reach-is _ _ c.in_err-found.ensures.stays.0.attached_is

-- ---- the rows are not read

pub returns-in_err-forms-clause-safe : goal.returns-in_err-forms-clause-safe
returns-in_err-forms-clause-safe g c =
    let t = c.args.target.now in
    let buf : List ℕ = c.args.buf.now in
    let held : Option (List ℕ) = g.D.Source.held c.args.store.now in
    let given : Option (List ℕ) = g.S.Source.held c.args.patch.now in
    let log : Option (List Amend) = (g.D.Source.tally c.args.store.now).amended.writes in
    let same : g.D.Source.held c.find_forms.new.store ≡ held = c.in_err-forms.ensures.stays.0.held_is ∙ c.in_ok-found.ensures.stays.0.held_is in
    for_jobs held given t (λ job. LeavesSafe job (g.D.Source.held c.find_forms.new.store) (g.D.Source.tally c.args.store.now).amended (g.D.Source.tally c.find_forms.new.store).amended) (λ f p is by wanted corner to target. inl (same ∙ is, read_writes (g.D.Source.tally c.measure_codes.new.store) (g.D.Source.tally c.find_forms.new.store) c.in_err-forms.ensures.cause.kept ∙ ap (λ (k : Tally). k.amended.writes) c.in_ok-found.ensures.cause.ok.0))

pub returns-in_err-forms-clause-first_fault : goal.returns-in_err-forms-clause-first_fault
returns-in_err-forms-clause-first_fault g c =
    let t = c.args.target.now in
    let buf : List ℕ = c.args.buf.now in
    let held : Option (List ℕ) = g.D.Source.held c.args.store.now in
    let given : Option (List ℕ) = g.S.Source.held c.args.patch.now in
    let log : Option (List Amend) = (g.D.Source.tally c.args.store.now).amended.writes in
    let m : Measure = c.in_ok-found.found in
    let stop : Stop = c.in_err-forms.field-0.0 in
    let stopped : c.from_residual-in_err-forms.result ≡ Err stop = search rules in
    let never : IsRefused {X = Unit {0}} (Err stop) → ⊥ = amends_unrefused (g.D.Source.tally c.measure_codes.new.store) (g.D.Source.tally c.find_forms.new.store) (Err stop) (read-amends (g.D.Source.tally c.measure_codes.new.store) (g.D.Source.tally c.find_forms.new.store) (Err stop) (record { kept = c.in_err-forms.ensures.cause.kept; ok = tt; stop = c.in_err-forms.ensures.cause.stop })) in
    subst (λ (r : Result (Unit {0}) Stop). ForJobs held given t (λ job file by. TellsPatchFault job (Some file) (Some by) r)) (sym stopped)
    (for_jobs held given t (λ job file by. TellsPatchFault {X = Unit {0}} job (Some file) (Some by) (Err stop)) (λ f p is by wanted corner to target.
    let r : Ready t f p wanted corner m = ready_of t m buf held given f p wanted corner is by to target c.requires.found.said c.in_ok-found.ensures.sound c.in_ok-found.ensures.room c.in_ok-found.ensures.measured in
    let st : Steps = steps t f p wanted corner m r in
    let fb : AreBytes f = some_of held _ f is (g.met.D.Source.octets c.args.store.now) in
    let pb : AreBytes p = some_of given _ p by (g.met.S.Source.octets c.args.patch.now) in
    let heap = heap_writes f t.header (es t f p wanted corner m r) in
    never_faulty (job_at wanted corner) f p t.header st (Err stop) (are t f p wanted corner m r) never))

pub returns-in_err-forms-clause-unwritten : goal.returns-in_err-forms-clause-unwritten
returns-in_err-forms-clause-unwritten g c =
    let t = c.args.target.now in
    let buf : List ℕ = c.args.buf.now in
    let held : Option (List ℕ) = g.D.Source.held c.args.store.now in
    let given : Option (List ℕ) = g.S.Source.held c.args.patch.now in
    let log : Option (List Amend) = (g.D.Source.tally c.args.store.now).amended.writes in
    let stop : Stop = c.in_err-forms.field-0.0 in
    let stopped : c.from_residual-in_err-forms.result ≡ Err stop = search rules in
    let never : IsRefused {X = Unit {0}} (Err stop) → ⊥ = amends_unrefused (g.D.Source.tally c.measure_codes.new.store) (g.D.Source.tally c.find_forms.new.store) (Err stop) (read-amends (g.D.Source.tally c.measure_codes.new.store) (g.D.Source.tally c.find_forms.new.store) (Err stop) (record { kept = c.in_err-forms.ensures.cause.kept; ok = tt; stop = c.in_err-forms.ensures.cause.stop })) in
    λ refused. absurd (never (subst (λ (r : Result (Unit {0}) Stop). IsRefused r) stopped refused))

pub returns-in_err-forms-clause-late : goal.returns-in_err-forms-clause-late
returns-in_err-forms-clause-late g c =
    let t = c.args.target.now in
    let buf : List ℕ = c.args.buf.now in
    let held : Option (List ℕ) = g.D.Source.held c.args.store.now in
    let given : Option (List ℕ) = g.S.Source.held c.args.patch.now in
    let log : Option (List Amend) = (g.D.Source.tally c.args.store.now).amended.writes in
    let stop : Stop = c.in_err-forms.field-0.0 in
    let stopped : c.from_residual-in_err-forms.result ≡ Err stop = search rules in
    subst (λ (r : Result (Unit {0}) Stop). IfRefused r (λ x. ((g.D.Source.held c.find_forms.new.store ≡ held) × (g.D.Source.tally c.find_forms.new.store ≡ g.D.Source.tally c.args.store.now)) ⊎ ComesInWork t.header.hdu x)) (sym stopped)
    (none_refused {X = Unit {0}} (λ x. ((g.D.Source.held c.find_forms.new.store ≡ held) × (g.D.Source.tally c.find_forms.new.store ≡ g.D.Source.tally c.args.store.now)) ⊎ ComesInWork t.header.hdu x) (g.D.Source.tally c.measure_codes.new.store) (g.D.Source.tally c.find_forms.new.store) (Err stop) (read-amends (g.D.Source.tally c.measure_codes.new.store) (g.D.Source.tally c.find_forms.new.store) (Err stop) (record { kept = c.in_err-forms.ensures.cause.kept; ok = tt; stop = c.in_err-forms.ensures.cause.stop })))

pub returns-in_err-forms-clause-cause : goal.returns-in_err-forms-clause-cause
returns-in_err-forms-clause-cause g c =
    let t = c.args.target.now in
    let buf : List ℕ = c.args.buf.now in
    let held : Option (List ℕ) = g.D.Source.held c.args.store.now in
    let given : Option (List ℕ) = g.S.Source.held c.args.patch.now in
    let log : Option (List Amend) = (g.D.Source.tally c.args.store.now).amended.writes in
    let stop : Stop = c.in_err-forms.field-0.0 in
    let stopped : c.from_residual-in_err-forms.result ≡ Err stop = search rules in
    subst (λ (r : Result (Unit {0}) Stop). Patches (g.D.Source.tally c.args.store.now) (g.D.Source.tally c.find_forms.new.store) (g.S.Source.tally c.args.patch.now) (g.S.Source.tally c.measure_codes.new.patch) r) (sym stopped)
    (amend_patches (g.D.Source.tally c.args.store.now) (g.D.Source.tally c.measure_codes.new.store) (g.D.Source.tally c.find_forms.new.store) (g.S.Source.tally c.args.patch.now) (g.S.Source.tally c.measure_codes.new.patch) (Err stop) (kept-read (g.D.Source.tally c.args.store.now) (g.D.Source.tally c.measure_codes.new.store) c.in_ok-found.ensures.cause.store_kept) (same-is (g.D.Source.tally c.args.store.now) (g.D.Source.tally c.measure_codes.new.store) c.in_ok-found.ensures.cause.ok.0) c.in_ok-found.ensures.cause.ok.1 (read-amends (g.D.Source.tally c.measure_codes.new.store) (g.D.Source.tally c.find_forms.new.store) (Err stop) (record { kept = c.in_err-forms.ensures.cause.kept; ok = tt; stop = c.in_err-forms.ensures.cause.stop })))

pub returns-in_err-forms-clause-reach : goal.returns-in_err-forms-clause-reach
returns-in_err-forms-clause-reach g c =
    reach-then _ _ _ (reach-is _ _ c.in_ok-found.ensures.stays.0.attached_is) (reach-is _ _ c.in_err-forms.ensures.stays.0.attached_is)

-- ---- a code is not written

pub returns-in_err-write_codes-clause-safe : goal.returns-in_err-write_codes-clause-safe
returns-in_err-write_codes-clause-safe g c =
    let t = c.args.target.now in
    let buf : List ℕ = c.args.buf.now in
    let held : Option (List ℕ) = g.D.Source.held c.args.store.now in
    let given : Option (List ℕ) = g.S.Source.held c.args.patch.now in
    let log : Option (List Amend) = (g.D.Source.tally c.args.store.now).amended.writes in
    let m : Measure = c.in_ok-found.found in
    let held2 : g.D.Source.held c.find_forms.new.store ≡ held = c.in_ok-forms.ensures.stays.0.held_is ∙ c.in_ok-found.ensures.stays.0.held_is in
    let log2 : (g.D.Source.tally c.find_forms.new.store).amended.writes ≡ log = ap (λ (k : Tally). k.amended.writes) (c.in_ok-forms.ensures.cause.ok ∙ c.in_ok-found.ensures.cause.ok.0) in
    let given1 : g.S.Source.held c.measure_codes.new.patch ≡ given = c.in_ok-found.ensures.stays.1.held_is in
    for_jobs held given t (λ job. LeavesSafe job (g.D.Source.held c.write_codes.new.store) (g.D.Source.tally c.args.store.now).amended (g.D.Source.tally c.write_codes.new.store).amended) (λ f p is by wanted corner to target.
    let r : Ready t f p wanted corner m = ready_of t m buf held given f p wanted corner is by to target c.requires.found.said c.in_ok-found.ensures.sound c.in_ok-found.ensures.room c.in_ok-found.ensures.measured in
    let st : Steps = steps t f p wanted corner m r in
    let fb : AreBytes f = some_of held _ f is (g.met.D.Source.octets c.args.store.now) in
    let pb : AreBytes p = some_of given _ p by (g.met.S.Source.octets c.args.patch.now) in
    let heap = heap_writes f t.header (es t f p wanted corner m r) in
    let one : WroteSome heap (Some f) (g.D.Source.held c.write_codes.new.store) log (g.D.Source.tally c.write_codes.new.store).amended.writes =
    some_from heap (g.D.Source.held c.find_forms.new.store) (Some f) (g.D.Source.held c.write_codes.new.store) (g.D.Source.tally c.find_forms.new.store).amended.writes log (g.D.Source.tally c.write_codes.new.store).amended.writes (held2 ∙ is) log2
    (both_of (g.D.Source.held c.find_forms.new.store) (g.S.Source.held c.measure_codes.new.patch) _ f p (held2 ∙ is) (given1 ∙ by) c.in_err-write_codes.ensures.some corner (olds t f p wanted corner m r) to (numbers t f p wanted corner m r)) in
    stops t f p wanted corner m r c.safe_patch_law.ensures fb pb (g.D.Source.held c.write_codes.new.store) (g.D.Source.tally c.args.store.now).amended (g.D.Source.tally c.write_codes.new.store).amended
    (amid_first st (g.D.Source.tally c.args.store.now).amended (g.D.Source.tally c.write_codes.new.store).amended heap (Some f) (g.D.Source.held c.write_codes.new.store) (heap_is t f p wanted corner m r) one)
    (subst (λ ws. WroteSome ws (Some f) (g.D.Source.held c.write_codes.new.store) log (g.D.Source.tally c.write_codes.new.store).amended.writes) (all_is t f p wanted corner m r (st.pcount ++ st.forms) st.rows refl refl)
    (some_1 heap (st.pcount ++ st.forms) st.rows st.sums (Some f) log (g.D.Source.held c.write_codes.new.store) (g.D.Source.tally c.write_codes.new.store).amended.writes one))
    )

pub returns-in_err-write_codes-clause-first_fault : goal.returns-in_err-write_codes-clause-first_fault
returns-in_err-write_codes-clause-first_fault g c =
    let t = c.args.target.now in
    let buf : List ℕ = c.args.buf.now in
    let held : Option (List ℕ) = g.D.Source.held c.args.store.now in
    let given : Option (List ℕ) = g.S.Source.held c.args.patch.now in
    let log : Option (List Amend) = (g.D.Source.tally c.args.store.now).amended.writes in
    let m : Measure = c.in_ok-found.found in
    let held2 : g.D.Source.held c.find_forms.new.store ≡ held = c.in_ok-forms.ensures.stays.0.held_is ∙ c.in_ok-found.ensures.stays.0.held_is in
    let log2 : (g.D.Source.tally c.find_forms.new.store).amended.writes ≡ log = ap (λ (k : Tally). k.amended.writes) (c.in_ok-forms.ensures.cause.ok ∙ c.in_ok-found.ensures.cause.ok.0) in
    let given1 : g.S.Source.held c.measure_codes.new.patch ≡ given = c.in_ok-found.ensures.stays.1.held_is in
    let stop : Stop = c.in_err-write_codes.field-0.0 in
    let stopped : c.from_residual-in_err-write_codes.result ≡ Err stop = search rules in
    subst (λ (r : Result (Unit {0}) Stop). ForJobs held given t (λ job file by. TellsPatchFault job (Some file) (Some by) r)) (sym stopped)
    (for_jobs held given t (λ job file by. TellsPatchFault {X = Unit {0}} job (Some file) (Some by) (Err stop)) (λ f p is by wanted corner to target.
    let r : Ready t f p wanted corner m = ready_of t m buf held given f p wanted corner is by to target c.requires.found.said c.in_ok-found.ensures.sound c.in_ok-found.ensures.room c.in_ok-found.ensures.measured in
    let st : Steps = steps t f p wanted corner m r in
    let fb : AreBytes f = some_of held _ f is (g.met.D.Source.octets c.args.store.now) in
    let pb : AreBytes p = some_of given _ p by (g.met.S.Source.octets c.args.patch.now) in
    let heap = heap_writes f t.header (es t f p wanted corner m r) in
    let never : IsRefused {X = Unit {0}} (Err stop) → ⊥ =
    both_of (g.D.Source.held c.find_forms.new.store) (g.S.Source.held c.measure_codes.new.patch) _ f p (held2 ∙ is) (given1 ∙ by) c.in_err-write_codes.ensures.unrefused corner (olds t f p wanted corner m r) to (numbers t f p wanted corner m r) (sym (bytes_are t f p wanted corner m r)) in
    never_faulty (job_at wanted corner) f p t.header st (Err stop) (are t f p wanted corner m r) never))

pub returns-in_err-write_codes-clause-unwritten : goal.returns-in_err-write_codes-clause-unwritten
returns-in_err-write_codes-clause-unwritten g c =
    let t = c.args.target.now in
    let buf : List ℕ = c.args.buf.now in
    let held : Option (List ℕ) = g.D.Source.held c.args.store.now in
    let given : Option (List ℕ) = g.S.Source.held c.args.patch.now in
    let log : Option (List Amend) = (g.D.Source.tally c.args.store.now).amended.writes in
    let m : Measure = c.in_ok-found.found in
    let held2 : g.D.Source.held c.find_forms.new.store ≡ held = c.in_ok-forms.ensures.stays.0.held_is ∙ c.in_ok-found.ensures.stays.0.held_is in
    let log2 : (g.D.Source.tally c.find_forms.new.store).amended.writes ≡ log = ap (λ (k : Tally). k.amended.writes) (c.in_ok-forms.ensures.cause.ok ∙ c.in_ok-found.ensures.cause.ok.0) in
    let given1 : g.S.Source.held c.measure_codes.new.patch ≡ given = c.in_ok-found.ensures.stays.1.held_is in
    let stop : Stop = c.in_err-write_codes.field-0.0 in
    let stopped : c.from_residual-in_err-write_codes.result ≡ Err stop = search rules in
    λ refused. for_jobs held given t (λ job file by. (g.D.Source.held c.write_codes.new.store ≡ held) × (g.D.Source.tally c.write_codes.new.store ≡ g.D.Source.tally c.args.store.now)) (λ f p is by wanted corner to target.
    let r : Ready t f p wanted corner m = ready_of t m buf held given f p wanted corner is by to target c.requires.found.said c.in_ok-found.ensures.sound c.in_ok-found.ensures.room c.in_ok-found.ensures.measured in
    let st : Steps = steps t f p wanted corner m r in
    let fb : AreBytes f = some_of held _ f is (g.met.D.Source.octets c.args.store.now) in
    let pb : AreBytes p = some_of given _ p by (g.met.S.Source.octets c.args.patch.now) in
    let heap = heap_writes f t.header (es t f p wanted corner m r) in
    let never : IsRefused {X = Unit {0}} (Err stop) → ⊥ =
    both_of (g.D.Source.held c.find_forms.new.store) (g.S.Source.held c.measure_codes.new.patch) _ f p (held2 ∙ is) (given1 ∙ by) c.in_err-write_codes.ensures.unrefused corner (olds t f p wanted corner m r) to (numbers t f p wanted corner m r) (sym (bytes_are t f p wanted corner m r)) in
    absurd (never (subst (λ (r : Result (Unit {0}) Stop). IsRefused r) stopped refused)))

pub returns-in_err-write_codes-clause-late : goal.returns-in_err-write_codes-clause-late
returns-in_err-write_codes-clause-late g c =
    let t = c.args.target.now in
    let buf : List ℕ = c.args.buf.now in
    let held : Option (List ℕ) = g.D.Source.held c.args.store.now in
    let given : Option (List ℕ) = g.S.Source.held c.args.patch.now in
    let log : Option (List Amend) = (g.D.Source.tally c.args.store.now).amended.writes in
    let stop : Stop = c.in_err-write_codes.field-0.0 in
    let stopped : c.from_residual-in_err-write_codes.result ≡ Err stop = search rules in
    subst (λ (r : Result (Unit {0}) Stop). IfRefused r (λ x. ((g.D.Source.held c.write_codes.new.store ≡ held) × (g.D.Source.tally c.write_codes.new.store ≡ g.D.Source.tally c.args.store.now)) ⊎ ComesInWork t.header.hdu x)) (sym stopped)
    (refused_weaker {X = Unit {0}} (Err stop) (λ x work. inr work) c.in_err-write_codes.ensures.late)

pub returns-in_err-write_codes-clause-cause : goal.returns-in_err-write_codes-clause-cause
returns-in_err-write_codes-clause-cause g c =
    let t = c.args.target.now in
    let buf : List ℕ = c.args.buf.now in
    let held : Option (List ℕ) = g.D.Source.held c.args.store.now in
    let given : Option (List ℕ) = g.S.Source.held c.args.patch.now in
    let log : Option (List Amend) = (g.D.Source.tally c.args.store.now).amended.writes in
    let tally2 : g.D.Source.tally c.find_forms.new.store ≡ g.D.Source.tally c.args.store.now = c.in_ok-forms.ensures.cause.ok ∙ c.in_ok-found.ensures.cause.ok.0 in
    let given_tally : g.S.Source.tally c.measure_codes.new.patch ≡ g.S.Source.tally c.args.patch.now = c.in_ok-found.ensures.cause.ok.1 in
    let stop : Stop = c.in_err-write_codes.field-0.0 in
    let stopped : c.from_residual-in_err-write_codes.result ≡ Err stop = search rules in
    subst (λ (r : Result (Unit {0}) Stop). Patches (g.D.Source.tally c.args.store.now) (g.D.Source.tally c.write_codes.new.store) (g.S.Source.tally c.args.patch.now) (g.S.Source.tally c.write_codes.new.patch) r) (sym stopped)
    (patches_then (g.D.Source.tally c.args.store.now) (g.D.Source.tally c.find_forms.new.store) (g.D.Source.tally c.write_codes.new.store) (g.S.Source.tally c.args.patch.now) (g.S.Source.tally c.measure_codes.new.patch) (g.S.Source.tally c.write_codes.new.patch) (Err stop) (subst (StoreKept (g.D.Source.tally c.args.store.now)) (sym tally2) (kept-same (g.D.Source.tally c.args.store.now))) (same-is (g.D.Source.tally c.args.store.now) (g.D.Source.tally c.find_forms.new.store) tally2) given_tally c.in_err-write_codes.ensures.cause)

pub returns-in_err-write_codes-clause-reach : goal.returns-in_err-write_codes-clause-reach
returns-in_err-write_codes-clause-reach g c =
    reach-then _ _ _ (reach-is _ _ c.in_ok-found.ensures.stays.0.attached_is) (reach-then _ _ _ (reach-is _ _ c.in_ok-forms.ensures.stays.0.attached_is) c.in_err-write_codes.ensures.reach)

-- ---- a card is not written

pub returns-in_err-write_cards-clause-safe : goal.returns-in_err-write_cards-clause-safe
returns-in_err-write_cards-clause-safe g c =
    let t = c.args.target.now in
    let buf : List ℕ = c.args.buf.now in
    let held : Option (List ℕ) = g.D.Source.held c.args.store.now in
    let given : Option (List ℕ) = g.S.Source.held c.args.patch.now in
    let log : Option (List Amend) = (g.D.Source.tally c.args.store.now).amended.writes in
    let m : Measure = c.in_ok-found.found in
    let held2 : g.D.Source.held c.find_forms.new.store ≡ held = c.in_ok-forms.ensures.stays.0.held_is ∙ c.in_ok-found.ensures.stays.0.held_is in
    let log2 : (g.D.Source.tally c.find_forms.new.store).amended.writes ≡ log = ap (λ (k : Tally). k.amended.writes) (c.in_ok-forms.ensures.cause.ok ∙ c.in_ok-found.ensures.cause.ok.0) in
    let given1 : g.S.Source.held c.measure_codes.new.patch ≡ given = c.in_ok-found.ensures.stays.1.held_is in
    for_jobs held given t (λ job. LeavesSafe job (g.D.Source.held c.write_cards.new.store) (g.D.Source.tally c.args.store.now).amended (g.D.Source.tally c.write_cards.new.store).amended) (λ f p is by wanted corner to target.
    let r : Ready t f p wanted corner m = ready_of t m buf held given f p wanted corner is by to target c.requires.found.said c.in_ok-found.ensures.sound c.in_ok-found.ensures.room c.in_ok-found.ensures.measured in
    let st : Steps = steps t f p wanted corner m r in
    let fb : AreBytes f = some_of held _ f is (g.met.D.Source.octets c.args.store.now) in
    let pb : AreBytes p = some_of given _ p by (g.met.S.Source.octets c.args.patch.now) in
    let heap = heap_writes f t.header (es t f p wanted corner m r) in
    let one : Wrote heap (Some f) (g.D.Source.held c.write_codes.new.store) log (g.D.Source.tally c.write_codes.new.store).amended.writes =
    wrote_from heap (g.D.Source.held c.find_forms.new.store) (Some f) (g.D.Source.held c.write_codes.new.store) (g.D.Source.tally c.find_forms.new.store).amended.writes log (g.D.Source.tally c.write_codes.new.store).amended.writes (held2 ∙ is) log2
    (both_of (g.D.Source.held c.find_forms.new.store) (g.S.Source.held c.measure_codes.new.patch) _ f p (held2 ∙ is) (given1 ∙ by) c.in_ok-write_codes.ensures.wrote corner (olds t f p wanted corner m r) to (numbers t f p wanted corner m r)) in
    let places = c.find_places-places.result in
    let forms = c.in_ok-forms.forms in
    let header_is : header_in f t.header ≡ buf = (some_of held _ f is c.requires.found.said).1 in
    let put = forms_writes t places m forms in
    let cards_is : st.pcount ++ st.forms ≡ put =
    cards_are t f p wanted corner m r places forms (subst (λ l. HasPlaces l places) (sym header_is) c.find_places-places.ensures) (pcount_place buf t.header c.requires.found.header ∙ ap pcount_index (sym header_is))
    (some_of (g.D.Source.held c.measure_codes.new.store) _ f (c.in_ok-found.ensures.stays.0.held_is ∙ is) c.in_ok-forms.ensures.forms
    ∙ (λ j. forms_for (said_most (sym header_is j) 1) (said_most (sym header_is j) 2) m (other_rows f t.image.table (picked_tiles_of t.image.plan (to.sieve j))))) in
    stops t f p wanted corner m r c.safe_patch_law.ensures fb pb (g.D.Source.held c.write_cards.new.store) (g.D.Source.tally c.args.store.now).amended (g.D.Source.tally c.write_cards.new.store).amended
    (amid_later st (g.D.Source.tally c.args.store.now).amended (g.D.Source.tally c.write_codes.new.store).amended (g.D.Source.tally c.write_cards.new.store).amended st.heap (st.pcount ++ st.forms) heap put (g.D.Source.held c.write_codes.new.store) (g.D.Source.held c.write_cards.new.store) (inl (inr (refl, refl))) (heap_is t f p wanted corner m r) cards_is one.logged c.in_ok-write_codes.ensures.settled c.in_err-write_cards.ensures.cause.kept.settled_kept c.in_err-write_cards.ensures.some)
    (subst (λ ws. WroteSome ws (Some f) (g.D.Source.held c.write_cards.new.store) log (g.D.Source.tally c.write_cards.new.store).amended.writes) (all_is t f p wanted corner m r put st.rows cards_is refl)
    (some_2 heap put st.rows st.sums (Some f) log (g.D.Source.held c.write_codes.new.store) (g.D.Source.held c.write_cards.new.store) (g.D.Source.tally c.write_codes.new.store).amended.writes (g.D.Source.tally c.write_cards.new.store).amended.writes one c.in_err-write_cards.ensures.some))
    )

pub returns-in_err-write_cards-clause-first_fault : goal.returns-in_err-write_cards-clause-first_fault
returns-in_err-write_cards-clause-first_fault g c =
    let t = c.args.target.now in
    let buf : List ℕ = c.args.buf.now in
    let held : Option (List ℕ) = g.D.Source.held c.args.store.now in
    let given : Option (List ℕ) = g.S.Source.held c.args.patch.now in
    let log : Option (List Amend) = (g.D.Source.tally c.args.store.now).amended.writes in
    let m : Measure = c.in_ok-found.found in
    let held2 : g.D.Source.held c.find_forms.new.store ≡ held = c.in_ok-forms.ensures.stays.0.held_is ∙ c.in_ok-found.ensures.stays.0.held_is in
    let log2 : (g.D.Source.tally c.find_forms.new.store).amended.writes ≡ log = ap (λ (k : Tally). k.amended.writes) (c.in_ok-forms.ensures.cause.ok ∙ c.in_ok-found.ensures.cause.ok.0) in
    let given1 : g.S.Source.held c.measure_codes.new.patch ≡ given = c.in_ok-found.ensures.stays.1.held_is in
    let stop : Stop = c.in_err-write_cards.field-0.0 in
    let stopped : c.from_residual-in_err-write_cards.result ≡ Err stop = search rules in
    subst (λ (r : Result (Unit {0}) Stop). ForJobs held given t (λ job file by. TellsPatchFault job (Some file) (Some by) r)) (sym stopped)
    (for_jobs held given t (λ job file by. TellsPatchFault {X = Unit {0}} job (Some file) (Some by) (Err stop)) (λ f p is by wanted corner to target.
    let r : Ready t f p wanted corner m = ready_of t m buf held given f p wanted corner is by to target c.requires.found.said c.in_ok-found.ensures.sound c.in_ok-found.ensures.room c.in_ok-found.ensures.measured in
    let st : Steps = steps t f p wanted corner m r in
    let fb : AreBytes f = some_of held _ f is (g.met.D.Source.octets c.args.store.now) in
    let pb : AreBytes p = some_of given _ p by (g.met.S.Source.octets c.args.patch.now) in
    let heap = heap_writes f t.header (es t f p wanted corner m r) in
    let never : IsRefused {X = Unit {0}} (Err stop) → ⊥ = amends_unrefused (g.D.Source.tally c.write_codes.new.store) (g.D.Source.tally c.write_cards.new.store) (Err stop) c.in_err-write_cards.ensures.cause in
    never_faulty (job_at wanted corner) f p t.header st (Err stop) (are t f p wanted corner m r) never))

pub returns-in_err-write_cards-clause-unwritten : goal.returns-in_err-write_cards-clause-unwritten
returns-in_err-write_cards-clause-unwritten g c =
    let t = c.args.target.now in
    let buf : List ℕ = c.args.buf.now in
    let held : Option (List ℕ) = g.D.Source.held c.args.store.now in
    let given : Option (List ℕ) = g.S.Source.held c.args.patch.now in
    let log : Option (List Amend) = (g.D.Source.tally c.args.store.now).amended.writes in
    let m : Measure = c.in_ok-found.found in
    let held2 : g.D.Source.held c.find_forms.new.store ≡ held = c.in_ok-forms.ensures.stays.0.held_is ∙ c.in_ok-found.ensures.stays.0.held_is in
    let log2 : (g.D.Source.tally c.find_forms.new.store).amended.writes ≡ log = ap (λ (k : Tally). k.amended.writes) (c.in_ok-forms.ensures.cause.ok ∙ c.in_ok-found.ensures.cause.ok.0) in
    let given1 : g.S.Source.held c.measure_codes.new.patch ≡ given = c.in_ok-found.ensures.stays.1.held_is in
    let stop : Stop = c.in_err-write_cards.field-0.0 in
    let stopped : c.from_residual-in_err-write_cards.result ≡ Err stop = search rules in
    λ refused. for_jobs held given t (λ job file by. (g.D.Source.held c.write_cards.new.store ≡ held) × (g.D.Source.tally c.write_cards.new.store ≡ g.D.Source.tally c.args.store.now)) (λ f p is by wanted corner to target.
    let r : Ready t f p wanted corner m = ready_of t m buf held given f p wanted corner is by to target c.requires.found.said c.in_ok-found.ensures.sound c.in_ok-found.ensures.room c.in_ok-found.ensures.measured in
    let st : Steps = steps t f p wanted corner m r in
    let fb : AreBytes f = some_of held _ f is (g.met.D.Source.octets c.args.store.now) in
    let pb : AreBytes p = some_of given _ p by (g.met.S.Source.octets c.args.patch.now) in
    let heap = heap_writes f t.header (es t f p wanted corner m r) in
    let never : IsRefused {X = Unit {0}} (Err stop) → ⊥ = amends_unrefused (g.D.Source.tally c.write_codes.new.store) (g.D.Source.tally c.write_cards.new.store) (Err stop) c.in_err-write_cards.ensures.cause in
    absurd (never (subst (λ (r : Result (Unit {0}) Stop). IsRefused r) stopped refused)))

pub returns-in_err-write_cards-clause-late : goal.returns-in_err-write_cards-clause-late
returns-in_err-write_cards-clause-late g c =
    let t = c.args.target.now in
    let buf : List ℕ = c.args.buf.now in
    let held : Option (List ℕ) = g.D.Source.held c.args.store.now in
    let given : Option (List ℕ) = g.S.Source.held c.args.patch.now in
    let log : Option (List Amend) = (g.D.Source.tally c.args.store.now).amended.writes in
    let stop : Stop = c.in_err-write_cards.field-0.0 in
    let stopped : c.from_residual-in_err-write_cards.result ≡ Err stop = search rules in
    subst (λ (r : Result (Unit {0}) Stop). IfRefused r (λ x. ((g.D.Source.held c.write_cards.new.store ≡ held) × (g.D.Source.tally c.write_cards.new.store ≡ g.D.Source.tally c.args.store.now)) ⊎ ComesInWork t.header.hdu x)) (sym stopped)
    (none_refused {X = Unit {0}} (λ x. ((g.D.Source.held c.write_cards.new.store ≡ held) × (g.D.Source.tally c.write_cards.new.store ≡ g.D.Source.tally c.args.store.now)) ⊎ ComesInWork t.header.hdu x) (g.D.Source.tally c.write_codes.new.store) (g.D.Source.tally c.write_cards.new.store) (Err stop) c.in_err-write_cards.ensures.cause)

pub returns-in_err-write_cards-clause-cause : goal.returns-in_err-write_cards-clause-cause
returns-in_err-write_cards-clause-cause g c =
    let t = c.args.target.now in
    let buf : List ℕ = c.args.buf.now in
    let held : Option (List ℕ) = g.D.Source.held c.args.store.now in
    let given : Option (List ℕ) = g.S.Source.held c.args.patch.now in
    let log : Option (List Amend) = (g.D.Source.tally c.args.store.now).amended.writes in
    let tally2 : g.D.Source.tally c.find_forms.new.store ≡ g.D.Source.tally c.args.store.now = c.in_ok-forms.ensures.cause.ok ∙ c.in_ok-found.ensures.cause.ok.0 in
    let given_tally : g.S.Source.tally c.measure_codes.new.patch ≡ g.S.Source.tally c.args.patch.now = c.in_ok-found.ensures.cause.ok.1 in
    let kept3 : StoreKept (g.D.Source.tally c.args.store.now) (g.D.Source.tally c.write_codes.new.store) = subst (λ (k : Tally). StoreKept k (g.D.Source.tally c.write_codes.new.store)) tally2 c.in_ok-write_codes.ensures.cause.store_kept in
    let same3 : SameCounts (g.D.Source.tally c.args.store.now) (g.D.Source.tally c.write_codes.new.store) = subst (λ (k : Tally). SameCounts k (g.D.Source.tally c.write_codes.new.store)) tally2 c.in_ok-write_codes.ensures.cause.ok.0 in
    let given3_tally : g.S.Source.tally c.write_codes.new.patch ≡ g.S.Source.tally c.args.patch.now = c.in_ok-write_codes.ensures.cause.ok.1 ∙ given_tally in
    let stop : Stop = c.in_err-write_cards.field-0.0 in
    let stopped : c.from_residual-in_err-write_cards.result ≡ Err stop = search rules in
    subst (λ (r : Result (Unit {0}) Stop). Patches (g.D.Source.tally c.args.store.now) (g.D.Source.tally c.write_cards.new.store) (g.S.Source.tally c.args.patch.now) (g.S.Source.tally c.write_codes.new.patch) r) (sym stopped)
    (amend_patches (g.D.Source.tally c.args.store.now) (g.D.Source.tally c.write_codes.new.store) (g.D.Source.tally c.write_cards.new.store) (g.S.Source.tally c.args.patch.now) (g.S.Source.tally c.write_codes.new.patch) (Err stop) kept3 same3 given3_tally c.in_err-write_cards.ensures.cause)

pub returns-in_err-write_cards-clause-reach : goal.returns-in_err-write_cards-clause-reach
returns-in_err-write_cards-clause-reach g c =
    reach-then _ _ _ (reach-is _ _ c.in_ok-found.ensures.stays.0.attached_is) (reach-then _ _ _ (reach-is _ _ c.in_ok-forms.ensures.stays.0.attached_is) (reach-then _ _ _ c.in_ok-write_codes.ensures.reach c.in_err-write_cards.ensures.reach))

pub returns-in_err-write_cards-clause-patch : goal.returns-in_err-write_cards-clause-patch
returns-in_err-write_cards-clause-patch g c = record {
  held_is = c.in_ok-write_codes.ensures.stays.0.held_is ∙ c.in_ok-found.ensures.stays.1.held_is;
  attached_is = c.in_ok-write_codes.ensures.stays.0.attached_is ∙ c.in_ok-found.ensures.stays.1.attached_is;
  told = λ told. c.in_ok-write_codes.ensures.stays.0.told (c.in_ok-found.ensures.stays.1.told told);
}

-- ---- a row is not written

pub returns-in_err-write_rows-clause-safe : goal.returns-in_err-write_rows-clause-safe
returns-in_err-write_rows-clause-safe g c =
    let t = c.args.target.now in
    let buf : List ℕ = c.args.buf.now in
    let held : Option (List ℕ) = g.D.Source.held c.args.store.now in
    let given : Option (List ℕ) = g.S.Source.held c.args.patch.now in
    let log : Option (List Amend) = (g.D.Source.tally c.args.store.now).amended.writes in
    let m : Measure = c.in_ok-found.found in
    let held2 : g.D.Source.held c.find_forms.new.store ≡ held = c.in_ok-forms.ensures.stays.0.held_is ∙ c.in_ok-found.ensures.stays.0.held_is in
    let log2 : (g.D.Source.tally c.find_forms.new.store).amended.writes ≡ log = ap (λ (k : Tally). k.amended.writes) (c.in_ok-forms.ensures.cause.ok ∙ c.in_ok-found.ensures.cause.ok.0) in
    let given1 : g.S.Source.held c.measure_codes.new.patch ≡ given = c.in_ok-found.ensures.stays.1.held_is in
    for_jobs held given t (λ job. LeavesSafe job (g.D.Source.held c.write_rows.new.store) (g.D.Source.tally c.args.store.now).amended (g.D.Source.tally c.write_rows.new.store).amended) (λ f p is by wanted corner to target.
    let r : Ready t f p wanted corner m = ready_of t m buf held given f p wanted corner is by to target c.requires.found.said c.in_ok-found.ensures.sound c.in_ok-found.ensures.room c.in_ok-found.ensures.measured in
    let st : Steps = steps t f p wanted corner m r in
    let fb : AreBytes f = some_of held _ f is (g.met.D.Source.octets c.args.store.now) in
    let pb : AreBytes p = some_of given _ p by (g.met.S.Source.octets c.args.patch.now) in
    let heap = heap_writes f t.header (es t f p wanted corner m r) in
    let one : Wrote heap (Some f) (g.D.Source.held c.write_codes.new.store) log (g.D.Source.tally c.write_codes.new.store).amended.writes =
    wrote_from heap (g.D.Source.held c.find_forms.new.store) (Some f) (g.D.Source.held c.write_codes.new.store) (g.D.Source.tally c.find_forms.new.store).amended.writes log (g.D.Source.tally c.write_codes.new.store).amended.writes (held2 ∙ is) log2
    (both_of (g.D.Source.held c.find_forms.new.store) (g.S.Source.held c.measure_codes.new.patch) _ f p (held2 ∙ is) (given1 ∙ by) c.in_ok-write_codes.ensures.wrote corner (olds t f p wanted corner m r) to (numbers t f p wanted corner m r)) in
    let places = c.find_places-places.result in
    let forms = c.in_ok-forms.forms in
    let header_is : header_in f t.header ≡ buf = (some_of held _ f is c.requires.found.said).1 in
    let put = forms_writes t places m forms in
    let cards_is : st.pcount ++ st.forms ≡ put =
    cards_are t f p wanted corner m r places forms (subst (λ l. HasPlaces l places) (sym header_is) c.find_places-places.ensures) (pcount_place buf t.header c.requires.found.header ∙ ap pcount_index (sym header_is))
    (some_of (g.D.Source.held c.measure_codes.new.store) _ f (c.in_ok-found.ensures.stays.0.held_is ∙ is) c.in_ok-forms.ensures.forms
    ∙ (λ j. forms_for (said_most (sym header_is j) 1) (said_most (sym header_is j) 2) m (other_rows f t.image.table (picked_tiles_of t.image.plan (to.sieve j))))) in
    let laws : StepLaws = record {
      count = c.grown_header_law.ensures.count;
      forms = c.grown_header_law.ensures.forms;
      sums = c.grown_header_law.ensures.sums;
      more = c.grown_header_law.ensures.more;
      says = c.grown_header_law.ensures.says;
      there = c.with_card_law.ensures.there;
      others = c.with_card_law.ensures.others;
      long = c.with_card_law.ensures.long;
    } in
    let mid : List ℕ = applied heap f in
    let mid_is : g.D.Source.held c.write_codes.new.store ≡ Some mid = one.held_is in
    let mid_header : header_in mid t.header ≡ buf = kept_header t.header (g.D.Source.held c.find_forms.new.store) (g.D.Source.held c.write_codes.new.store) f mid (held2 ∙ is) mid_is c.in_ok-write_codes.ensures.header ∙ header_is in
    let x : List ℕ = applied put mid in
    let wrote2 : Wrote put (g.D.Source.held c.write_codes.new.store) (g.D.Source.held c.write_cards.new.store) (g.D.Source.tally c.write_codes.new.store).amended.writes (g.D.Source.tally c.write_cards.new.store).amended.writes = c.in_ok-write_cards.ensures.wrote in
    let x_is : g.D.Source.held c.write_cards.new.store ≡ Some x = wrote2.held_is ∙ ap (option_map (applied put)) mid_is in
    let file_long : t.header.start + 2880 * t.header.blocks ≤ length mid =
    some_of (g.D.Source.held c.write_codes.new.store) _ mid mid_is (told_long (g.D.Source.held c.write_codes.new.store) (g.D.Source.attached c.write_codes.new.store) (t.header.start + 2880 * t.header.blocks) (λ n at. g.met.D.Source.agrees c.write_codes.new.store n at)
    (at-least _ _ _ c.in_ok-write_codes.ensures.grown (omega arith))) in
    let there = all_there laws t buf c.find_places-places.result m c.in_ok-forms.forms c.requires.found.target c.requires.found.by c.find_places-places.ensures c.in_ok-found.ensures.room c.in_ok-forms.ensures.small c.card_in_file_law.ensures mid mid_header file_long in
    let says : SaysMore buf (with_forms t places m forms buf) t.header m.bytes = grown_says laws t buf c.find_places-places.result m c.in_ok-forms.forms c.requires.found.target c.requires.found.by c.find_places-places.ensures c.in_ok-found.ensures.room c.in_ok-forms.ensures.small in
    let now_is : header_now x t.header ≡ (grown_by t m.bytes).header = ap (facts_of t.header.hdu t.header.start) there.there ∙ sym says.is.is_header.facts in
    let said4 : IsTargetIn x (grown_by t m.bytes) = grown_said laws t buf c.find_places-places.result m c.in_ok-forms.forms c.requires.found.target c.requires.found.by c.find_places-places.ensures c.in_ok-found.ensures.room c.in_ok-forms.ensures.small x there.there in
    let front_is : x ≡ applied (before_rows st) f = sym (applied-append heap put f) ∙ (λ j. applied (sym (heap_is t f p wanted corner m r) j ++ sym cards_is j) f) in
    let rows4 : BoxHasNumbers x (grown_by t m.bytes).header (given_at corner p) (olds t f p wanted corner m r) =
    still_numbers t f p wanted corner m r c.safe_patch_law.ensures fb pb x (grown_by t m.bytes).header front_is now_is (said4.said.plan ∙ sym r.said.said.plan) in
    let to4 : IsGivenTo corner p (grown_by t m.bytes) = record { sieve = to.sieve; fits = to.fits; numbers = to.numbers } in
    let rows_put = row_writes (grown_by t m.bytes).image.table (plan_to_write (grown_by t m.bytes)) ((grown_by t m.bytes).image.table.heap_len - m.bytes) (zip (box_tiles t.image.plan (given_at corner p)) (es t f p wanted corner m r)) in
    let given3 : g.S.Source.held c.write_codes.new.patch ≡ given = c.in_ok-write_codes.ensures.stays.0.held_is ∙ given1 in
    let three : WroteSome rows_put (g.D.Source.held c.write_cards.new.store) (g.D.Source.held c.write_rows.new.store) (g.D.Source.tally c.write_cards.new.store).amended.writes (g.D.Source.tally c.write_rows.new.store).amended.writes =
    both_of (g.D.Source.held c.write_cards.new.store) (g.S.Source.held c.write_codes.new.patch) _ x p x_is (given3 ∙ by)
    (subst (λ (u : Target). IfBoth (g.D.Source.held c.write_cards.new.store) (g.S.Source.held c.write_codes.new.patch) (λ f p. (corner : List ℕ) (olds : List (List ℤ)) → IsGivenTo corner p u → BoxHasNumbers f u.header (given_at corner p) olds →
    WroteSome (row_writes u.image.table (plan_to_write u) (u.image.table.heap_len - m.bytes) (zip (box_tiles u.image.plan (given_at corner p)) (new_codes u.image.plan (given_at corner p) (box_tiles u.image.plan (given_at corner p)) olds)))
    (g.D.Source.held c.write_cards.new.store) (g.D.Source.held c.write_rows.new.store) (g.D.Source.tally c.write_cards.new.store).amended.writes (g.D.Source.tally c.write_rows.new.store).amended.writes)) c.grown-grown.ensures.same c.in_err-write_rows.ensures.some) corner (olds t f p wanted corner m r) to4 rows4 in
    stops t f p wanted corner m r c.safe_patch_law.ensures fb pb (g.D.Source.held c.write_rows.new.store) (g.D.Source.tally c.args.store.now).amended (g.D.Source.tally c.write_rows.new.store).amended
    (amid_later st (g.D.Source.tally c.args.store.now).amended (g.D.Source.tally c.write_cards.new.store).amended (g.D.Source.tally c.write_rows.new.store).amended (before_rows st) st.rows (heap ++ put) rows_put (g.D.Source.held c.write_cards.new.store) (g.D.Source.held c.write_rows.new.store) (inr (inl (refl, refl))) (λ j. heap_is t f p wanted corner m r j ++ cards_is j) (rows_are t f p wanted corner m r) (joined log (g.D.Source.tally c.write_codes.new.store).amended.writes (g.D.Source.tally c.write_cards.new.store).amended.writes heap put one.logged wrote2.logged) c.in_ok-write_cards.ensures.settled c.in_err-write_rows.ensures.cause.store_kept.settled_kept three)
    (subst (λ ws. WroteSome ws (Some f) (g.D.Source.held c.write_rows.new.store) log (g.D.Source.tally c.write_rows.new.store).amended.writes) (all_is t f p wanted corner m r put rows_put cards_is (rows_are t f p wanted corner m r))
    (some_3 heap put rows_put st.sums (Some f) log (g.D.Source.held c.write_codes.new.store) (g.D.Source.held c.write_cards.new.store) (g.D.Source.held c.write_rows.new.store) (g.D.Source.tally c.write_codes.new.store).amended.writes (g.D.Source.tally c.write_cards.new.store).amended.writes (g.D.Source.tally c.write_rows.new.store).amended.writes one wrote2 three))
    )

pub returns-in_err-write_rows-clause-first_fault : goal.returns-in_err-write_rows-clause-first_fault
returns-in_err-write_rows-clause-first_fault g c =
    let t = c.args.target.now in
    let buf : List ℕ = c.args.buf.now in
    let held : Option (List ℕ) = g.D.Source.held c.args.store.now in
    let given : Option (List ℕ) = g.S.Source.held c.args.patch.now in
    let log : Option (List Amend) = (g.D.Source.tally c.args.store.now).amended.writes in
    let m : Measure = c.in_ok-found.found in
    let held2 : g.D.Source.held c.find_forms.new.store ≡ held = c.in_ok-forms.ensures.stays.0.held_is ∙ c.in_ok-found.ensures.stays.0.held_is in
    let log2 : (g.D.Source.tally c.find_forms.new.store).amended.writes ≡ log = ap (λ (k : Tally). k.amended.writes) (c.in_ok-forms.ensures.cause.ok ∙ c.in_ok-found.ensures.cause.ok.0) in
    let given1 : g.S.Source.held c.measure_codes.new.patch ≡ given = c.in_ok-found.ensures.stays.1.held_is in
    let stop : Stop = c.in_err-write_rows.field-0.0 in
    let stopped : c.from_residual-in_err-write_rows.result ≡ Err stop = search rules in
    subst (λ (r : Result (Unit {0}) Stop). ForJobs held given t (λ job file by. TellsPatchFault job (Some file) (Some by) r)) (sym stopped)
    (for_jobs held given t (λ job file by. TellsPatchFault {X = Unit {0}} job (Some file) (Some by) (Err stop)) (λ f p is by wanted corner to target.
    let r : Ready t f p wanted corner m = ready_of t m buf held given f p wanted corner is by to target c.requires.found.said c.in_ok-found.ensures.sound c.in_ok-found.ensures.room c.in_ok-found.ensures.measured in
    let st : Steps = steps t f p wanted corner m r in
    let fb : AreBytes f = some_of held _ f is (g.met.D.Source.octets c.args.store.now) in
    let pb : AreBytes p = some_of given _ p by (g.met.S.Source.octets c.args.patch.now) in
    let heap = heap_writes f t.header (es t f p wanted corner m r) in
    let one : Wrote heap (Some f) (g.D.Source.held c.write_codes.new.store) log (g.D.Source.tally c.write_codes.new.store).amended.writes =
    wrote_from heap (g.D.Source.held c.find_forms.new.store) (Some f) (g.D.Source.held c.write_codes.new.store) (g.D.Source.tally c.find_forms.new.store).amended.writes log (g.D.Source.tally c.write_codes.new.store).amended.writes (held2 ∙ is) log2
    (both_of (g.D.Source.held c.find_forms.new.store) (g.S.Source.held c.measure_codes.new.patch) _ f p (held2 ∙ is) (given1 ∙ by) c.in_ok-write_codes.ensures.wrote corner (olds t f p wanted corner m r) to (numbers t f p wanted corner m r)) in
    let places = c.find_places-places.result in
    let forms = c.in_ok-forms.forms in
    let header_is : header_in f t.header ≡ buf = (some_of held _ f is c.requires.found.said).1 in
    let put = forms_writes t places m forms in
    let cards_is : st.pcount ++ st.forms ≡ put =
    cards_are t f p wanted corner m r places forms (subst (λ l. HasPlaces l places) (sym header_is) c.find_places-places.ensures) (pcount_place buf t.header c.requires.found.header ∙ ap pcount_index (sym header_is))
    (some_of (g.D.Source.held c.measure_codes.new.store) _ f (c.in_ok-found.ensures.stays.0.held_is ∙ is) c.in_ok-forms.ensures.forms
    ∙ (λ j. forms_for (said_most (sym header_is j) 1) (said_most (sym header_is j) 2) m (other_rows f t.image.table (picked_tiles_of t.image.plan (to.sieve j))))) in
    let laws : StepLaws = record {
      count = c.grown_header_law.ensures.count;
      forms = c.grown_header_law.ensures.forms;
      sums = c.grown_header_law.ensures.sums;
      more = c.grown_header_law.ensures.more;
      says = c.grown_header_law.ensures.says;
      there = c.with_card_law.ensures.there;
      others = c.with_card_law.ensures.others;
      long = c.with_card_law.ensures.long;
    } in
    let mid : List ℕ = applied heap f in
    let mid_is : g.D.Source.held c.write_codes.new.store ≡ Some mid = one.held_is in
    let mid_header : header_in mid t.header ≡ buf = kept_header t.header (g.D.Source.held c.find_forms.new.store) (g.D.Source.held c.write_codes.new.store) f mid (held2 ∙ is) mid_is c.in_ok-write_codes.ensures.header ∙ header_is in
    let x : List ℕ = applied put mid in
    let wrote2 : Wrote put (g.D.Source.held c.write_codes.new.store) (g.D.Source.held c.write_cards.new.store) (g.D.Source.tally c.write_codes.new.store).amended.writes (g.D.Source.tally c.write_cards.new.store).amended.writes = c.in_ok-write_cards.ensures.wrote in
    let x_is : g.D.Source.held c.write_cards.new.store ≡ Some x = wrote2.held_is ∙ ap (option_map (applied put)) mid_is in
    let file_long : t.header.start + 2880 * t.header.blocks ≤ length mid =
    some_of (g.D.Source.held c.write_codes.new.store) _ mid mid_is (told_long (g.D.Source.held c.write_codes.new.store) (g.D.Source.attached c.write_codes.new.store) (t.header.start + 2880 * t.header.blocks) (λ n at. g.met.D.Source.agrees c.write_codes.new.store n at)
    (at-least _ _ _ c.in_ok-write_codes.ensures.grown (omega arith))) in
    let there = all_there laws t buf c.find_places-places.result m c.in_ok-forms.forms c.requires.found.target c.requires.found.by c.find_places-places.ensures c.in_ok-found.ensures.room c.in_ok-forms.ensures.small c.card_in_file_law.ensures mid mid_header file_long in
    let says : SaysMore buf (with_forms t places m forms buf) t.header m.bytes = grown_says laws t buf c.find_places-places.result m c.in_ok-forms.forms c.requires.found.target c.requires.found.by c.find_places-places.ensures c.in_ok-found.ensures.room c.in_ok-forms.ensures.small in
    let now_is : header_now x t.header ≡ (grown_by t m.bytes).header = ap (facts_of t.header.hdu t.header.start) there.there ∙ sym says.is.is_header.facts in
    let said4 : IsTargetIn x (grown_by t m.bytes) = grown_said laws t buf c.find_places-places.result m c.in_ok-forms.forms c.requires.found.target c.requires.found.by c.find_places-places.ensures c.in_ok-found.ensures.room c.in_ok-forms.ensures.small x there.there in
    let front_is : x ≡ applied (before_rows st) f = sym (applied-append heap put f) ∙ (λ j. applied (sym (heap_is t f p wanted corner m r) j ++ sym cards_is j) f) in
    let rows4 : BoxHasNumbers x (grown_by t m.bytes).header (given_at corner p) (olds t f p wanted corner m r) =
    still_numbers t f p wanted corner m r c.safe_patch_law.ensures fb pb x (grown_by t m.bytes).header front_is now_is (said4.said.plan ∙ sym r.said.said.plan) in
    let to4 : IsGivenTo corner p (grown_by t m.bytes) = record { sieve = to.sieve; fits = to.fits; numbers = to.numbers } in
    let rows_put = row_writes (grown_by t m.bytes).image.table (plan_to_write (grown_by t m.bytes)) ((grown_by t m.bytes).image.table.heap_len - m.bytes) (zip (box_tiles t.image.plan (given_at corner p)) (es t f p wanted corner m r)) in
    let given3 : g.S.Source.held c.write_codes.new.patch ≡ given = c.in_ok-write_codes.ensures.stays.0.held_is ∙ given1 in
    let near : heap_end_of t ≤ length f =
    some_of held _ f is (told_long held (g.D.Source.attached c.args.store.now) (heap_end_of t) (λ n at. g.met.D.Source.agrees c.args.store.now n at)
    (start_reach (g.D.Source.attached c.args.store.now) t.image.table (stands_at t (g.D.Source.attached c.args.store.now) c.requires.found.attached.0 c.requires.found.target c.requires.found.attached.1 c.requires.found.attached.2))) in
    let ends : HeapEndsWith x (grown_by t m.bytes).image.table (heap_of (es t f p wanted corner m r)) =
    codes_at_end laws t buf places m forms c.requires.found.target c.requires.found.by c.find_places-places.ensures c.in_ok-found.ensures.room c.in_ok-forms.ensures.small f (es t f p wanted corner m r) r.said near
    (bytes_are t f p wanted corner m r) file_long in
    let never : IsRefused {X = Unit {0}} (Err stop) → ⊥ =
    both_of (g.D.Source.held c.write_cards.new.store) (g.S.Source.held c.write_codes.new.patch) _ x p x_is (given3 ∙ by)
    (subst (λ (u : Target). IfBoth (g.D.Source.held c.write_cards.new.store) (g.S.Source.held c.write_codes.new.patch) (λ f p. (corner : List ℕ) (olds : List (List ℤ)) → IsGivenTo corner p u → BoxHasNumbers f u.header (given_at corner p) olds →
    m ≡ measure_of u.image.plan (new_codes u.image.plan (given_at corner p) (box_tiles u.image.plan (given_at corner p)) olds) →
    HeapEndsWith f u.image.table (heap_of (new_codes u.image.plan (given_at corner p) (box_tiles u.image.plan (given_at corner p)) olds)) →
    ¬ IsRefused {X = Unit {0}} (Err stop))) c.grown-grown.ensures.same c.in_err-write_rows.ensures.unrefused)
    corner (olds t f p wanted corner m r) to4 rows4 (measure_is t f p wanted corner m r) ends in
    never_faulty (job_at wanted corner) f p t.header st (Err stop) (are t f p wanted corner m r) never))

pub returns-in_err-write_rows-clause-unwritten : goal.returns-in_err-write_rows-clause-unwritten
returns-in_err-write_rows-clause-unwritten g c =
    let t = c.args.target.now in
    let buf : List ℕ = c.args.buf.now in
    let held : Option (List ℕ) = g.D.Source.held c.args.store.now in
    let given : Option (List ℕ) = g.S.Source.held c.args.patch.now in
    let log : Option (List Amend) = (g.D.Source.tally c.args.store.now).amended.writes in
    let m : Measure = c.in_ok-found.found in
    let held2 : g.D.Source.held c.find_forms.new.store ≡ held = c.in_ok-forms.ensures.stays.0.held_is ∙ c.in_ok-found.ensures.stays.0.held_is in
    let log2 : (g.D.Source.tally c.find_forms.new.store).amended.writes ≡ log = ap (λ (k : Tally). k.amended.writes) (c.in_ok-forms.ensures.cause.ok ∙ c.in_ok-found.ensures.cause.ok.0) in
    let given1 : g.S.Source.held c.measure_codes.new.patch ≡ given = c.in_ok-found.ensures.stays.1.held_is in
    let stop : Stop = c.in_err-write_rows.field-0.0 in
    let stopped : c.from_residual-in_err-write_rows.result ≡ Err stop = search rules in
    λ refused. for_jobs held given t (λ job file by. (g.D.Source.held c.write_rows.new.store ≡ held) × (g.D.Source.tally c.write_rows.new.store ≡ g.D.Source.tally c.args.store.now)) (λ f p is by wanted corner to target.
    let r : Ready t f p wanted corner m = ready_of t m buf held given f p wanted corner is by to target c.requires.found.said c.in_ok-found.ensures.sound c.in_ok-found.ensures.room c.in_ok-found.ensures.measured in
    let st : Steps = steps t f p wanted corner m r in
    let fb : AreBytes f = some_of held _ f is (g.met.D.Source.octets c.args.store.now) in
    let pb : AreBytes p = some_of given _ p by (g.met.S.Source.octets c.args.patch.now) in
    let heap = heap_writes f t.header (es t f p wanted corner m r) in
    let one : Wrote heap (Some f) (g.D.Source.held c.write_codes.new.store) log (g.D.Source.tally c.write_codes.new.store).amended.writes =
    wrote_from heap (g.D.Source.held c.find_forms.new.store) (Some f) (g.D.Source.held c.write_codes.new.store) (g.D.Source.tally c.find_forms.new.store).amended.writes log (g.D.Source.tally c.write_codes.new.store).amended.writes (held2 ∙ is) log2
    (both_of (g.D.Source.held c.find_forms.new.store) (g.S.Source.held c.measure_codes.new.patch) _ f p (held2 ∙ is) (given1 ∙ by) c.in_ok-write_codes.ensures.wrote corner (olds t f p wanted corner m r) to (numbers t f p wanted corner m r)) in
    let places = c.find_places-places.result in
    let forms = c.in_ok-forms.forms in
    let header_is : header_in f t.header ≡ buf = (some_of held _ f is c.requires.found.said).1 in
    let put = forms_writes t places m forms in
    let cards_is : st.pcount ++ st.forms ≡ put =
    cards_are t f p wanted corner m r places forms (subst (λ l. HasPlaces l places) (sym header_is) c.find_places-places.ensures) (pcount_place buf t.header c.requires.found.header ∙ ap pcount_index (sym header_is))
    (some_of (g.D.Source.held c.measure_codes.new.store) _ f (c.in_ok-found.ensures.stays.0.held_is ∙ is) c.in_ok-forms.ensures.forms
    ∙ (λ j. forms_for (said_most (sym header_is j) 1) (said_most (sym header_is j) 2) m (other_rows f t.image.table (picked_tiles_of t.image.plan (to.sieve j))))) in
    let laws : StepLaws = record {
      count = c.grown_header_law.ensures.count;
      forms = c.grown_header_law.ensures.forms;
      sums = c.grown_header_law.ensures.sums;
      more = c.grown_header_law.ensures.more;
      says = c.grown_header_law.ensures.says;
      there = c.with_card_law.ensures.there;
      others = c.with_card_law.ensures.others;
      long = c.with_card_law.ensures.long;
    } in
    let mid : List ℕ = applied heap f in
    let mid_is : g.D.Source.held c.write_codes.new.store ≡ Some mid = one.held_is in
    let mid_header : header_in mid t.header ≡ buf = kept_header t.header (g.D.Source.held c.find_forms.new.store) (g.D.Source.held c.write_codes.new.store) f mid (held2 ∙ is) mid_is c.in_ok-write_codes.ensures.header ∙ header_is in
    let x : List ℕ = applied put mid in
    let wrote2 : Wrote put (g.D.Source.held c.write_codes.new.store) (g.D.Source.held c.write_cards.new.store) (g.D.Source.tally c.write_codes.new.store).amended.writes (g.D.Source.tally c.write_cards.new.store).amended.writes = c.in_ok-write_cards.ensures.wrote in
    let x_is : g.D.Source.held c.write_cards.new.store ≡ Some x = wrote2.held_is ∙ ap (option_map (applied put)) mid_is in
    let file_long : t.header.start + 2880 * t.header.blocks ≤ length mid =
    some_of (g.D.Source.held c.write_codes.new.store) _ mid mid_is (told_long (g.D.Source.held c.write_codes.new.store) (g.D.Source.attached c.write_codes.new.store) (t.header.start + 2880 * t.header.blocks) (λ n at. g.met.D.Source.agrees c.write_codes.new.store n at)
    (at-least _ _ _ c.in_ok-write_codes.ensures.grown (omega arith))) in
    let there = all_there laws t buf c.find_places-places.result m c.in_ok-forms.forms c.requires.found.target c.requires.found.by c.find_places-places.ensures c.in_ok-found.ensures.room c.in_ok-forms.ensures.small c.card_in_file_law.ensures mid mid_header file_long in
    let says : SaysMore buf (with_forms t places m forms buf) t.header m.bytes = grown_says laws t buf c.find_places-places.result m c.in_ok-forms.forms c.requires.found.target c.requires.found.by c.find_places-places.ensures c.in_ok-found.ensures.room c.in_ok-forms.ensures.small in
    let now_is : header_now x t.header ≡ (grown_by t m.bytes).header = ap (facts_of t.header.hdu t.header.start) there.there ∙ sym says.is.is_header.facts in
    let said4 : IsTargetIn x (grown_by t m.bytes) = grown_said laws t buf c.find_places-places.result m c.in_ok-forms.forms c.requires.found.target c.requires.found.by c.find_places-places.ensures c.in_ok-found.ensures.room c.in_ok-forms.ensures.small x there.there in
    let front_is : x ≡ applied (before_rows st) f = sym (applied-append heap put f) ∙ (λ j. applied (sym (heap_is t f p wanted corner m r) j ++ sym cards_is j) f) in
    let rows4 : BoxHasNumbers x (grown_by t m.bytes).header (given_at corner p) (olds t f p wanted corner m r) =
    still_numbers t f p wanted corner m r c.safe_patch_law.ensures fb pb x (grown_by t m.bytes).header front_is now_is (said4.said.plan ∙ sym r.said.said.plan) in
    let to4 : IsGivenTo corner p (grown_by t m.bytes) = record { sieve = to.sieve; fits = to.fits; numbers = to.numbers } in
    let rows_put = row_writes (grown_by t m.bytes).image.table (plan_to_write (grown_by t m.bytes)) ((grown_by t m.bytes).image.table.heap_len - m.bytes) (zip (box_tiles t.image.plan (given_at corner p)) (es t f p wanted corner m r)) in
    let given3 : g.S.Source.held c.write_codes.new.patch ≡ given = c.in_ok-write_codes.ensures.stays.0.held_is ∙ given1 in
    let near : heap_end_of t ≤ length f =
    some_of held _ f is (told_long held (g.D.Source.attached c.args.store.now) (heap_end_of t) (λ n at. g.met.D.Source.agrees c.args.store.now n at)
    (start_reach (g.D.Source.attached c.args.store.now) t.image.table (stands_at t (g.D.Source.attached c.args.store.now) c.requires.found.attached.0 c.requires.found.target c.requires.found.attached.1 c.requires.found.attached.2))) in
    let ends : HeapEndsWith x (grown_by t m.bytes).image.table (heap_of (es t f p wanted corner m r)) =
    codes_at_end laws t buf places m forms c.requires.found.target c.requires.found.by c.find_places-places.ensures c.in_ok-found.ensures.room c.in_ok-forms.ensures.small f (es t f p wanted corner m r) r.said near
    (bytes_are t f p wanted corner m r) file_long in
    let never : IsRefused {X = Unit {0}} (Err stop) → ⊥ =
    both_of (g.D.Source.held c.write_cards.new.store) (g.S.Source.held c.write_codes.new.patch) _ x p x_is (given3 ∙ by)
    (subst (λ (u : Target). IfBoth (g.D.Source.held c.write_cards.new.store) (g.S.Source.held c.write_codes.new.patch) (λ f p. (corner : List ℕ) (olds : List (List ℤ)) → IsGivenTo corner p u → BoxHasNumbers f u.header (given_at corner p) olds →
    m ≡ measure_of u.image.plan (new_codes u.image.plan (given_at corner p) (box_tiles u.image.plan (given_at corner p)) olds) →
    HeapEndsWith f u.image.table (heap_of (new_codes u.image.plan (given_at corner p) (box_tiles u.image.plan (given_at corner p)) olds)) →
    ¬ IsRefused {X = Unit {0}} (Err stop))) c.grown-grown.ensures.same c.in_err-write_rows.ensures.unrefused)
    corner (olds t f p wanted corner m r) to4 rows4 (measure_is t f p wanted corner m r) ends in
    absurd (never (subst (λ (r : Result (Unit {0}) Stop). IsRefused r) stopped refused)))

pub returns-in_err-write_rows-clause-late : goal.returns-in_err-write_rows-clause-late
returns-in_err-write_rows-clause-late g c =
    let t = c.args.target.now in
    let buf : List ℕ = c.args.buf.now in
    let held : Option (List ℕ) = g.D.Source.held c.args.store.now in
    let given : Option (List ℕ) = g.S.Source.held c.args.patch.now in
    let log : Option (List Amend) = (g.D.Source.tally c.args.store.now).amended.writes in
    let stop : Stop = c.in_err-write_rows.field-0.0 in
    let stopped : c.from_residual-in_err-write_rows.result ≡ Err stop = search rules in
    subst (λ (r : Result (Unit {0}) Stop). IfRefused r (λ x. ((g.D.Source.held c.write_rows.new.store ≡ held) × (g.D.Source.tally c.write_rows.new.store ≡ g.D.Source.tally c.args.store.now)) ⊎ ComesInWork t.header.hdu x)) (sym stopped)
    (refused_weaker {X = Unit {0}} (Err stop) (λ x work. inr work) (subst (λ (u : Target). IfRefused {X = Unit {0}} (Err stop) (ComesInWork u.header.hdu)) c.grown-grown.ensures.same c.in_err-write_rows.ensures.late))

pub returns-in_err-write_rows-clause-cause : goal.returns-in_err-write_rows-clause-cause
returns-in_err-write_rows-clause-cause g c =
    let t = c.args.target.now in
    let buf : List ℕ = c.args.buf.now in
    let held : Option (List ℕ) = g.D.Source.held c.args.store.now in
    let given : Option (List ℕ) = g.S.Source.held c.args.patch.now in
    let log : Option (List Amend) = (g.D.Source.tally c.args.store.now).amended.writes in
    let tally2 : g.D.Source.tally c.find_forms.new.store ≡ g.D.Source.tally c.args.store.now = c.in_ok-forms.ensures.cause.ok ∙ c.in_ok-found.ensures.cause.ok.0 in
    let given_tally : g.S.Source.tally c.measure_codes.new.patch ≡ g.S.Source.tally c.args.patch.now = c.in_ok-found.ensures.cause.ok.1 in
    let kept3 : StoreKept (g.D.Source.tally c.args.store.now) (g.D.Source.tally c.write_codes.new.store) = subst (λ (k : Tally). StoreKept k (g.D.Source.tally c.write_codes.new.store)) tally2 c.in_ok-write_codes.ensures.cause.store_kept in
    let same3 : SameCounts (g.D.Source.tally c.args.store.now) (g.D.Source.tally c.write_codes.new.store) = subst (λ (k : Tally). SameCounts k (g.D.Source.tally c.write_codes.new.store)) tally2 c.in_ok-write_codes.ensures.cause.ok.0 in
    let given3_tally : g.S.Source.tally c.write_codes.new.patch ≡ g.S.Source.tally c.args.patch.now = c.in_ok-write_codes.ensures.cause.ok.1 ∙ given_tally in
    let kept4 : StoreKept (g.D.Source.tally c.args.store.now) (g.D.Source.tally c.write_cards.new.store) = kept-then (g.D.Source.tally c.args.store.now) (g.D.Source.tally c.write_codes.new.store) (g.D.Source.tally c.write_cards.new.store) kept3 c.in_ok-write_cards.ensures.cause.kept in
    let same4 : SameCounts (g.D.Source.tally c.args.store.now) (g.D.Source.tally c.write_cards.new.store) = same-then (g.D.Source.tally c.args.store.now) (g.D.Source.tally c.write_codes.new.store) (g.D.Source.tally c.write_cards.new.store) same3 c.in_ok-write_cards.ensures.cause.ok in
    let stop : Stop = c.in_err-write_rows.field-0.0 in
    let stopped : c.from_residual-in_err-write_rows.result ≡ Err stop = search rules in
    subst (λ (r : Result (Unit {0}) Stop). Patches (g.D.Source.tally c.args.store.now) (g.D.Source.tally c.write_rows.new.store) (g.S.Source.tally c.args.patch.now) (g.S.Source.tally c.write_rows.new.patch) r) (sym stopped)
    (patches_then (g.D.Source.tally c.args.store.now) (g.D.Source.tally c.write_cards.new.store) (g.D.Source.tally c.write_rows.new.store) (g.S.Source.tally c.args.patch.now) (g.S.Source.tally c.write_codes.new.patch) (g.S.Source.tally c.write_rows.new.patch) (Err stop) kept4 same4 given3_tally c.in_err-write_rows.ensures.cause)

pub returns-in_err-write_rows-clause-reach : goal.returns-in_err-write_rows-clause-reach
returns-in_err-write_rows-clause-reach g c =
    reach-then _ _ _ (reach-is _ _ c.in_ok-found.ensures.stays.0.attached_is) (reach-then _ _ _ (reach-is _ _ c.in_ok-forms.ensures.stays.0.attached_is) (reach-then _ _ _ c.in_ok-write_codes.ensures.reach (reach-then _ _ _ c.in_ok-write_cards.ensures.reach c.in_err-write_rows.ensures.reach)))

-- ---- the end

pub returns-clause-safe : goal.returns-clause-safe
returns-clause-safe g c =
    let t = c.args.target.now in
    let buf : List ℕ = c.args.buf.now in
    let held : Option (List ℕ) = g.D.Source.held c.args.store.now in
    let given : Option (List ℕ) = g.S.Source.held c.args.patch.now in
    let log : Option (List Amend) = (g.D.Source.tally c.args.store.now).amended.writes in
    let m : Measure = c.in_ok-found.found in
    let held2 : g.D.Source.held c.find_forms.new.store ≡ held = c.in_ok-forms.ensures.stays.0.held_is ∙ c.in_ok-found.ensures.stays.0.held_is in
    let log2 : (g.D.Source.tally c.find_forms.new.store).amended.writes ≡ log = ap (λ (k : Tally). k.amended.writes) (c.in_ok-forms.ensures.cause.ok ∙ c.in_ok-found.ensures.cause.ok.0) in
    let given1 : g.S.Source.held c.measure_codes.new.patch ≡ given = c.in_ok-found.ensures.stays.1.held_is in
    for_jobs held given t (λ job. LeavesSafe job (g.D.Source.held c.write_sums.new.store) (g.D.Source.tally c.args.store.now).amended (g.D.Source.tally c.write_sums.new.store).amended) (λ f p is by wanted corner to target.
    let r : Ready t f p wanted corner m = ready_of t m buf held given f p wanted corner is by to target c.requires.found.said c.in_ok-found.ensures.sound c.in_ok-found.ensures.room c.in_ok-found.ensures.measured in
    let st : Steps = steps t f p wanted corner m r in
    let fb : AreBytes f = some_of held _ f is (g.met.D.Source.octets c.args.store.now) in
    let pb : AreBytes p = some_of given _ p by (g.met.S.Source.octets c.args.patch.now) in
    let heap = heap_writes f t.header (es t f p wanted corner m r) in
    let one : Wrote heap (Some f) (g.D.Source.held c.write_codes.new.store) log (g.D.Source.tally c.write_codes.new.store).amended.writes =
    wrote_from heap (g.D.Source.held c.find_forms.new.store) (Some f) (g.D.Source.held c.write_codes.new.store) (g.D.Source.tally c.find_forms.new.store).amended.writes log (g.D.Source.tally c.write_codes.new.store).amended.writes (held2 ∙ is) log2
    (both_of (g.D.Source.held c.find_forms.new.store) (g.S.Source.held c.measure_codes.new.patch) _ f p (held2 ∙ is) (given1 ∙ by) c.in_ok-write_codes.ensures.wrote corner (olds t f p wanted corner m r) to (numbers t f p wanted corner m r)) in
    let places = c.find_places-places.result in
    let forms = c.in_ok-forms.forms in
    let header_is : header_in f t.header ≡ buf = (some_of held _ f is c.requires.found.said).1 in
    let put = forms_writes t places m forms in
    let cards_is : st.pcount ++ st.forms ≡ put =
    cards_are t f p wanted corner m r places forms (subst (λ l. HasPlaces l places) (sym header_is) c.find_places-places.ensures) (pcount_place buf t.header c.requires.found.header ∙ ap pcount_index (sym header_is))
    (some_of (g.D.Source.held c.measure_codes.new.store) _ f (c.in_ok-found.ensures.stays.0.held_is ∙ is) c.in_ok-forms.ensures.forms
    ∙ (λ j. forms_for (said_most (sym header_is j) 1) (said_most (sym header_is j) 2) m (other_rows f t.image.table (picked_tiles_of t.image.plan (to.sieve j))))) in
    let laws : StepLaws = record {
      count = c.grown_header_law.ensures.count;
      forms = c.grown_header_law.ensures.forms;
      sums = c.grown_header_law.ensures.sums;
      more = c.grown_header_law.ensures.more;
      says = c.grown_header_law.ensures.says;
      there = c.with_card_law.ensures.there;
      others = c.with_card_law.ensures.others;
      long = c.with_card_law.ensures.long;
    } in
    let mid : List ℕ = applied heap f in
    let mid_is : g.D.Source.held c.write_codes.new.store ≡ Some mid = one.held_is in
    let mid_header : header_in mid t.header ≡ buf = kept_header t.header (g.D.Source.held c.find_forms.new.store) (g.D.Source.held c.write_codes.new.store) f mid (held2 ∙ is) mid_is c.in_ok-write_codes.ensures.header ∙ header_is in
    let x : List ℕ = applied put mid in
    let wrote2 : Wrote put (g.D.Source.held c.write_codes.new.store) (g.D.Source.held c.write_cards.new.store) (g.D.Source.tally c.write_codes.new.store).amended.writes (g.D.Source.tally c.write_cards.new.store).amended.writes = c.in_ok-write_cards.ensures.wrote in
    let x_is : g.D.Source.held c.write_cards.new.store ≡ Some x = wrote2.held_is ∙ ap (option_map (applied put)) mid_is in
    let file_long : t.header.start + 2880 * t.header.blocks ≤ length mid =
    some_of (g.D.Source.held c.write_codes.new.store) _ mid mid_is (told_long (g.D.Source.held c.write_codes.new.store) (g.D.Source.attached c.write_codes.new.store) (t.header.start + 2880 * t.header.blocks) (λ n at. g.met.D.Source.agrees c.write_codes.new.store n at)
    (at-least _ _ _ c.in_ok-write_codes.ensures.grown (omega arith))) in
    let there = all_there laws t buf c.find_places-places.result m c.in_ok-forms.forms c.requires.found.target c.requires.found.by c.find_places-places.ensures c.in_ok-found.ensures.room c.in_ok-forms.ensures.small c.card_in_file_law.ensures mid mid_header file_long in
    let says : SaysMore buf (with_forms t places m forms buf) t.header m.bytes = grown_says laws t buf c.find_places-places.result m c.in_ok-forms.forms c.requires.found.target c.requires.found.by c.find_places-places.ensures c.in_ok-found.ensures.room c.in_ok-forms.ensures.small in
    let now_is : header_now x t.header ≡ (grown_by t m.bytes).header = ap (facts_of t.header.hdu t.header.start) there.there ∙ sym says.is.is_header.facts in
    let said4 : IsTargetIn x (grown_by t m.bytes) = grown_said laws t buf c.find_places-places.result m c.in_ok-forms.forms c.requires.found.target c.requires.found.by c.find_places-places.ensures c.in_ok-found.ensures.room c.in_ok-forms.ensures.small x there.there in
    let front_is : x ≡ applied (before_rows st) f = sym (applied-append heap put f) ∙ (λ j. applied (sym (heap_is t f p wanted corner m r) j ++ sym cards_is j) f) in
    let rows4 : BoxHasNumbers x (grown_by t m.bytes).header (given_at corner p) (olds t f p wanted corner m r) =
    still_numbers t f p wanted corner m r c.safe_patch_law.ensures fb pb x (grown_by t m.bytes).header front_is now_is (said4.said.plan ∙ sym r.said.said.plan) in
    let to4 : IsGivenTo corner p (grown_by t m.bytes) = record { sieve = to.sieve; fits = to.fits; numbers = to.numbers } in
    let rows_put = row_writes (grown_by t m.bytes).image.table (plan_to_write (grown_by t m.bytes)) ((grown_by t m.bytes).image.table.heap_len - m.bytes) (zip (box_tiles t.image.plan (given_at corner p)) (es t f p wanted corner m r)) in
    let given3 : g.S.Source.held c.write_codes.new.patch ≡ given = c.in_ok-write_codes.ensures.stays.0.held_is ∙ given1 in
    let three : Wrote rows_put (g.D.Source.held c.write_cards.new.store) (g.D.Source.held c.write_rows.new.store) (g.D.Source.tally c.write_cards.new.store).amended.writes (g.D.Source.tally c.write_rows.new.store).amended.writes =
    both_of (g.D.Source.held c.write_cards.new.store) (g.S.Source.held c.write_codes.new.patch) _ x p x_is (given3 ∙ by)
    (subst (λ (u : Target). IfBoth (g.D.Source.held c.write_cards.new.store) (g.S.Source.held c.write_codes.new.patch) (λ f p. (corner : List ℕ) (olds : List (List ℤ)) → IsGivenTo corner p u → BoxHasNumbers f u.header (given_at corner p) olds →
    Wrote (row_writes u.image.table (plan_to_write u) (u.image.table.heap_len - m.bytes) (zip (box_tiles u.image.plan (given_at corner p)) (new_codes u.image.plan (given_at corner p) (box_tiles u.image.plan (given_at corner p)) olds)))
    (g.D.Source.held c.write_cards.new.store) (g.D.Source.held c.write_rows.new.store) (g.D.Source.tally c.write_cards.new.store).amended.writes (g.D.Source.tally c.write_rows.new.store).amended.writes)) c.grown-grown.ensures.same c.in_ok-write_rows.ensures.wrote) corner (olds t f p wanted corner m r) to4 rows4 in
    let y : List ℕ = applied rows_put x in
    let y_is : g.D.Source.held c.write_rows.new.store ≡ Some y = three.held_is ∙ ap (option_map (applied rows_put)) x_is in
    let y_header : header_in y t.header ≡ with_forms t places m forms buf =
    kept_header (grown_by t m.bytes).header (g.D.Source.held c.write_cards.new.store) (g.D.Source.held c.write_rows.new.store) x y x_is y_is (subst (λ (u : Target). KeepsHeader u.header (g.D.Source.held c.write_cards.new.store) (g.D.Source.held c.write_rows.new.store)) c.grown-grown.ensures.same c.in_ok-write_rows.ensures.header) ∙ there.there in
    let y_front : y ≡ applied (before_sums st) f = ap (applied rows_put) front_is ∙ sym (applied-append (before_rows st) rows_put f) ∙ ap (λ ws. applied (before_rows st ++ ws) f) (sym (rows_are t f p wanted corner m r)) in
    let y_long : t.header.start + 2880 * t.header.blocks ≤ length y =
    some_of (g.D.Source.held c.write_rows.new.store) _ y y_is (told_long (g.D.Source.held c.write_rows.new.store) (g.D.Source.attached c.write_rows.new.store) (t.header.start + 2880 * t.header.blocks) (λ n at. g.met.D.Source.agrees c.write_rows.new.store n at)
    (c.in_ok-write_rows.ensures.reach _ (c.in_ok-write_cards.ensures.reach _ (at-least _ _ _ c.in_ok-write_codes.ensures.grown (omega arith))))) in
    let sums_is : sums_writes (grown_by t m.bytes).header y (with_forms t places m forms buf) ≡ st.sums =
    sums_same laws c.card_in_file_law.ensures (λ sum low. (c.sum_cards_law.ensures.datasum sum low).whole) c.sum_law.ensures.fits (datasum_named c.card_laws.ensures) y (with_forms t places m forms buf) t.header m.bytes y_header says.is
    (ap (size_at (with_forms t places m forms buf)) refl ∙ says.count) y_long ∙ ap (λ l. sum_writes l t.header) y_front ∙ sym (sums_are t f p wanted corner m r) in
    let last : WroteSome st.sums (g.D.Source.held c.write_rows.new.store) (g.D.Source.held c.write_sums.new.store) (g.D.Source.tally c.write_rows.new.store).amended.writes (g.D.Source.tally c.write_sums.new.store).amended.writes =
    subst (λ ws. WroteSome ws (g.D.Source.held c.write_rows.new.store) (g.D.Source.held c.write_sums.new.store) (g.D.Source.tally c.write_rows.new.store).amended.writes (g.D.Source.tally c.write_sums.new.store).amended.writes) sums_is
    (subst (λ l. WroteSome (sums_writes (grown_by t m.bytes).header y l) (g.D.Source.held c.write_rows.new.store) (g.D.Source.held c.write_sums.new.store) (g.D.Source.tally c.write_rows.new.store).amended.writes (g.D.Source.tally c.write_sums.new.store).amended.writes) c.in_ok-write_cards.ensures.header
    (subst (λ (u : Target). WroteSome (sums_writes u.header y c.write_cards.new.buf) (g.D.Source.held c.write_rows.new.store) (g.D.Source.held c.write_sums.new.store) (g.D.Source.tally c.write_rows.new.store).amended.writes (g.D.Source.tally c.write_sums.new.store).amended.writes) c.grown-grown.ensures.same (some_of (g.D.Source.held c.write_rows.new.store) _ y y_is c.write_sums.ensures.some))) in
    stops t f p wanted corner m r c.safe_patch_law.ensures fb pb (g.D.Source.held c.write_sums.new.store) (g.D.Source.tally c.args.store.now).amended (g.D.Source.tally c.write_sums.new.store).amended
    (amid_later st (g.D.Source.tally c.args.store.now).amended (g.D.Source.tally c.write_rows.new.store).amended (g.D.Source.tally c.write_sums.new.store).amended (before_sums st) st.sums ((heap ++ put) ++ rows_put) st.sums (g.D.Source.held c.write_rows.new.store) (g.D.Source.held c.write_sums.new.store) (inr (inr (refl, refl))) (λ j. (heap_is t f p wanted corner m r j ++ cards_is j) ++ rows_are t f p wanted corner m r j) refl (joined log (g.D.Source.tally c.write_cards.new.store).amended.writes (g.D.Source.tally c.write_rows.new.store).amended.writes (heap ++ put) rows_put (joined log (g.D.Source.tally c.write_codes.new.store).amended.writes (g.D.Source.tally c.write_cards.new.store).amended.writes heap put one.logged wrote2.logged) three.logged) c.in_ok-write_rows.ensures.settled c.write_sums.ensures.cause.kept.settled_kept last)
    (subst (λ ws. WroteSome ws (Some f) (g.D.Source.held c.write_sums.new.store) log (g.D.Source.tally c.write_sums.new.store).amended.writes) (all_is t f p wanted corner m r put rows_put cards_is (rows_are t f p wanted corner m r))
    (some_4 heap put rows_put st.sums (Some f) log (g.D.Source.held c.write_codes.new.store) (g.D.Source.held c.write_cards.new.store) (g.D.Source.held c.write_rows.new.store) (g.D.Source.held c.write_sums.new.store) (g.D.Source.tally c.write_codes.new.store).amended.writes (g.D.Source.tally c.write_cards.new.store).amended.writes (g.D.Source.tally c.write_rows.new.store).amended.writes (g.D.Source.tally c.write_sums.new.store).amended.writes one wrote2 three last))
    )

pub returns-clause-patched : goal.returns-clause-patched
returns-clause-patched g c =
    let t = c.args.target.now in
    let buf : List ℕ = c.args.buf.now in
    let held : Option (List ℕ) = g.D.Source.held c.args.store.now in
    let given : Option (List ℕ) = g.S.Source.held c.args.patch.now in
    let log : Option (List Amend) = (g.D.Source.tally c.args.store.now).amended.writes in
    let m : Measure = c.in_ok-found.found in
    let held2 : g.D.Source.held c.find_forms.new.store ≡ held = c.in_ok-forms.ensures.stays.0.held_is ∙ c.in_ok-found.ensures.stays.0.held_is in
    let log2 : (g.D.Source.tally c.find_forms.new.store).amended.writes ≡ log = ap (λ (k : Tally). k.amended.writes) (c.in_ok-forms.ensures.cause.ok ∙ c.in_ok-found.ensures.cause.ok.0) in
    let given1 : g.S.Source.held c.measure_codes.new.patch ≡ given = c.in_ok-found.ensures.stays.1.held_is in
    ok_both c.write_sums.result (λ wrote. λ (settled : IsSettled (g.D.Source.tally c.write_rows.new.store).amended → IsSettled (g.D.Source.tally c.write_sums.new.store).amended).
    for_jobs held given t (λ job. IsPatchedBy job (g.D.Source.held c.write_sums.new.store) (g.D.Source.tally c.args.store.now).amended (g.D.Source.tally c.write_sums.new.store).amended) (λ f p is by wanted corner to target.
    let r : Ready t f p wanted corner m = ready_of t m buf held given f p wanted corner is by to target c.requires.found.said c.in_ok-found.ensures.sound c.in_ok-found.ensures.room c.in_ok-found.ensures.measured in
    let st : Steps = steps t f p wanted corner m r in
    let fb : AreBytes f = some_of held _ f is (g.met.D.Source.octets c.args.store.now) in
    let pb : AreBytes p = some_of given _ p by (g.met.S.Source.octets c.args.patch.now) in
    let heap = heap_writes f t.header (es t f p wanted corner m r) in
    let one : Wrote heap (Some f) (g.D.Source.held c.write_codes.new.store) log (g.D.Source.tally c.write_codes.new.store).amended.writes =
    wrote_from heap (g.D.Source.held c.find_forms.new.store) (Some f) (g.D.Source.held c.write_codes.new.store) (g.D.Source.tally c.find_forms.new.store).amended.writes log (g.D.Source.tally c.write_codes.new.store).amended.writes (held2 ∙ is) log2
    (both_of (g.D.Source.held c.find_forms.new.store) (g.S.Source.held c.measure_codes.new.patch) _ f p (held2 ∙ is) (given1 ∙ by) c.in_ok-write_codes.ensures.wrote corner (olds t f p wanted corner m r) to (numbers t f p wanted corner m r)) in
    let places = c.find_places-places.result in
    let forms = c.in_ok-forms.forms in
    let header_is : header_in f t.header ≡ buf = (some_of held _ f is c.requires.found.said).1 in
    let put = forms_writes t places m forms in
    let cards_is : st.pcount ++ st.forms ≡ put =
    cards_are t f p wanted corner m r places forms (subst (λ l. HasPlaces l places) (sym header_is) c.find_places-places.ensures) (pcount_place buf t.header c.requires.found.header ∙ ap pcount_index (sym header_is))
    (some_of (g.D.Source.held c.measure_codes.new.store) _ f (c.in_ok-found.ensures.stays.0.held_is ∙ is) c.in_ok-forms.ensures.forms
    ∙ (λ j. forms_for (said_most (sym header_is j) 1) (said_most (sym header_is j) 2) m (other_rows f t.image.table (picked_tiles_of t.image.plan (to.sieve j))))) in
    let laws : StepLaws = record {
      count = c.grown_header_law.ensures.count;
      forms = c.grown_header_law.ensures.forms;
      sums = c.grown_header_law.ensures.sums;
      more = c.grown_header_law.ensures.more;
      says = c.grown_header_law.ensures.says;
      there = c.with_card_law.ensures.there;
      others = c.with_card_law.ensures.others;
      long = c.with_card_law.ensures.long;
    } in
    let mid : List ℕ = applied heap f in
    let mid_is : g.D.Source.held c.write_codes.new.store ≡ Some mid = one.held_is in
    let mid_header : header_in mid t.header ≡ buf = kept_header t.header (g.D.Source.held c.find_forms.new.store) (g.D.Source.held c.write_codes.new.store) f mid (held2 ∙ is) mid_is c.in_ok-write_codes.ensures.header ∙ header_is in
    let x : List ℕ = applied put mid in
    let wrote2 : Wrote put (g.D.Source.held c.write_codes.new.store) (g.D.Source.held c.write_cards.new.store) (g.D.Source.tally c.write_codes.new.store).amended.writes (g.D.Source.tally c.write_cards.new.store).amended.writes = c.in_ok-write_cards.ensures.wrote in
    let x_is : g.D.Source.held c.write_cards.new.store ≡ Some x = wrote2.held_is ∙ ap (option_map (applied put)) mid_is in
    let file_long : t.header.start + 2880 * t.header.blocks ≤ length mid =
    some_of (g.D.Source.held c.write_codes.new.store) _ mid mid_is (told_long (g.D.Source.held c.write_codes.new.store) (g.D.Source.attached c.write_codes.new.store) (t.header.start + 2880 * t.header.blocks) (λ n at. g.met.D.Source.agrees c.write_codes.new.store n at)
    (at-least _ _ _ c.in_ok-write_codes.ensures.grown (omega arith))) in
    let there = all_there laws t buf c.find_places-places.result m c.in_ok-forms.forms c.requires.found.target c.requires.found.by c.find_places-places.ensures c.in_ok-found.ensures.room c.in_ok-forms.ensures.small c.card_in_file_law.ensures mid mid_header file_long in
    let says : SaysMore buf (with_forms t places m forms buf) t.header m.bytes = grown_says laws t buf c.find_places-places.result m c.in_ok-forms.forms c.requires.found.target c.requires.found.by c.find_places-places.ensures c.in_ok-found.ensures.room c.in_ok-forms.ensures.small in
    let now_is : header_now x t.header ≡ (grown_by t m.bytes).header = ap (facts_of t.header.hdu t.header.start) there.there ∙ sym says.is.is_header.facts in
    let said4 : IsTargetIn x (grown_by t m.bytes) = grown_said laws t buf c.find_places-places.result m c.in_ok-forms.forms c.requires.found.target c.requires.found.by c.find_places-places.ensures c.in_ok-found.ensures.room c.in_ok-forms.ensures.small x there.there in
    let front_is : x ≡ applied (before_rows st) f = sym (applied-append heap put f) ∙ (λ j. applied (sym (heap_is t f p wanted corner m r) j ++ sym cards_is j) f) in
    let rows4 : BoxHasNumbers x (grown_by t m.bytes).header (given_at corner p) (olds t f p wanted corner m r) =
    still_numbers t f p wanted corner m r c.safe_patch_law.ensures fb pb x (grown_by t m.bytes).header front_is now_is (said4.said.plan ∙ sym r.said.said.plan) in
    let to4 : IsGivenTo corner p (grown_by t m.bytes) = record { sieve = to.sieve; fits = to.fits; numbers = to.numbers } in
    let rows_put = row_writes (grown_by t m.bytes).image.table (plan_to_write (grown_by t m.bytes)) ((grown_by t m.bytes).image.table.heap_len - m.bytes) (zip (box_tiles t.image.plan (given_at corner p)) (es t f p wanted corner m r)) in
    let given3 : g.S.Source.held c.write_codes.new.patch ≡ given = c.in_ok-write_codes.ensures.stays.0.held_is ∙ given1 in
    let three : Wrote rows_put (g.D.Source.held c.write_cards.new.store) (g.D.Source.held c.write_rows.new.store) (g.D.Source.tally c.write_cards.new.store).amended.writes (g.D.Source.tally c.write_rows.new.store).amended.writes =
    both_of (g.D.Source.held c.write_cards.new.store) (g.S.Source.held c.write_codes.new.patch) _ x p x_is (given3 ∙ by)
    (subst (λ (u : Target). IfBoth (g.D.Source.held c.write_cards.new.store) (g.S.Source.held c.write_codes.new.patch) (λ f p. (corner : List ℕ) (olds : List (List ℤ)) → IsGivenTo corner p u → BoxHasNumbers f u.header (given_at corner p) olds →
    Wrote (row_writes u.image.table (plan_to_write u) (u.image.table.heap_len - m.bytes) (zip (box_tiles u.image.plan (given_at corner p)) (new_codes u.image.plan (given_at corner p) (box_tiles u.image.plan (given_at corner p)) olds)))
    (g.D.Source.held c.write_cards.new.store) (g.D.Source.held c.write_rows.new.store) (g.D.Source.tally c.write_cards.new.store).amended.writes (g.D.Source.tally c.write_rows.new.store).amended.writes)) c.grown-grown.ensures.same c.in_ok-write_rows.ensures.wrote) corner (olds t f p wanted corner m r) to4 rows4 in
    let y : List ℕ = applied rows_put x in
    let y_is : g.D.Source.held c.write_rows.new.store ≡ Some y = three.held_is ∙ ap (option_map (applied rows_put)) x_is in
    let y_header : header_in y t.header ≡ with_forms t places m forms buf =
    kept_header (grown_by t m.bytes).header (g.D.Source.held c.write_cards.new.store) (g.D.Source.held c.write_rows.new.store) x y x_is y_is (subst (λ (u : Target). KeepsHeader u.header (g.D.Source.held c.write_cards.new.store) (g.D.Source.held c.write_rows.new.store)) c.grown-grown.ensures.same c.in_ok-write_rows.ensures.header) ∙ there.there in
    let y_front : y ≡ applied (before_sums st) f = ap (applied rows_put) front_is ∙ sym (applied-append (before_rows st) rows_put f) ∙ ap (λ ws. applied (before_rows st ++ ws) f) (sym (rows_are t f p wanted corner m r)) in
    let y_long : t.header.start + 2880 * t.header.blocks ≤ length y =
    some_of (g.D.Source.held c.write_rows.new.store) _ y y_is (told_long (g.D.Source.held c.write_rows.new.store) (g.D.Source.attached c.write_rows.new.store) (t.header.start + 2880 * t.header.blocks) (λ n at. g.met.D.Source.agrees c.write_rows.new.store n at)
    (c.in_ok-write_rows.ensures.reach _ (c.in_ok-write_cards.ensures.reach _ (at-least _ _ _ c.in_ok-write_codes.ensures.grown (omega arith))))) in
    let sums_is : sums_writes (grown_by t m.bytes).header y (with_forms t places m forms buf) ≡ st.sums =
    sums_same laws c.card_in_file_law.ensures (λ sum low. (c.sum_cards_law.ensures.datasum sum low).whole) c.sum_law.ensures.fits (datasum_named c.card_laws.ensures) y (with_forms t places m forms buf) t.header m.bytes y_header says.is
    (ap (size_at (with_forms t places m forms buf)) refl ∙ says.count) y_long ∙ ap (λ l. sum_writes l t.header) y_front ∙ sym (sums_are t f p wanted corner m r) in
    let last : Wrote st.sums (g.D.Source.held c.write_rows.new.store) (g.D.Source.held c.write_sums.new.store) (g.D.Source.tally c.write_rows.new.store).amended.writes (g.D.Source.tally c.write_sums.new.store).amended.writes =
    subst (λ ws. Wrote ws (g.D.Source.held c.write_rows.new.store) (g.D.Source.held c.write_sums.new.store) (g.D.Source.tally c.write_rows.new.store).amended.writes (g.D.Source.tally c.write_sums.new.store).amended.writes) sums_is
    (subst (λ l. Wrote (sums_writes (grown_by t m.bytes).header y l) (g.D.Source.held c.write_rows.new.store) (g.D.Source.held c.write_sums.new.store) (g.D.Source.tally c.write_rows.new.store).amended.writes (g.D.Source.tally c.write_sums.new.store).amended.writes) c.in_ok-write_cards.ensures.header
    (subst (λ (u : Target). Wrote (sums_writes u.header y c.write_cards.new.buf) (g.D.Source.held c.write_rows.new.store) (g.D.Source.held c.write_sums.new.store) (g.D.Source.tally c.write_rows.new.store).amended.writes (g.D.Source.tally c.write_sums.new.store).amended.writes) c.grown-grown.ensures.same (some_of (g.D.Source.held c.write_rows.new.store) _ y y_is wrote))) in
    record {
      header = t.header;
      steps = st;
      are = are t f p wanted corner m r;
      wrote = subst (λ ws. Wrote ws (Some f) (g.D.Source.held c.write_sums.new.store) log (g.D.Source.tally c.write_sums.new.store).amended.writes) (all_is t f p wanted corner m r put rows_put cards_is (rows_are t f p wanted corner m r)) (wrote_4 heap put rows_put st.sums (Some f) log (g.D.Source.held c.write_codes.new.store) (g.D.Source.held c.write_cards.new.store) (g.D.Source.held c.write_rows.new.store) (g.D.Source.held c.write_sums.new.store) (g.D.Source.tally c.write_codes.new.store).amended.writes (g.D.Source.tally c.write_cards.new.store).amended.writes (g.D.Source.tally c.write_rows.new.store).amended.writes (g.D.Source.tally c.write_sums.new.store).amended.writes one wrote2 three last);
      is = c.whole_patch_law.ensures f p (job_at wanted corner) t.header st (record { file_bytes = fb; patch_bytes = pb; steps_are = are t f p wanted corner m r });
      settled = settled c.in_ok-write_rows.ensures.settled;
    }
    )
    ) c.write_sums.ensures.wrote c.write_sums.ensures.settled

pub returns-clause-first_fault : goal.returns-clause-first_fault
returns-clause-first_fault g c =
    let t = c.args.target.now in
    let buf : List ℕ = c.args.buf.now in
    let held : Option (List ℕ) = g.D.Source.held c.args.store.now in
    let given : Option (List ℕ) = g.S.Source.held c.args.patch.now in
    let log : Option (List Amend) = (g.D.Source.tally c.args.store.now).amended.writes in
    let m : Measure = c.in_ok-found.found in
    let held2 : g.D.Source.held c.find_forms.new.store ≡ held = c.in_ok-forms.ensures.stays.0.held_is ∙ c.in_ok-found.ensures.stays.0.held_is in
    let log2 : (g.D.Source.tally c.find_forms.new.store).amended.writes ≡ log = ap (λ (k : Tally). k.amended.writes) (c.in_ok-forms.ensures.cause.ok ∙ c.in_ok-found.ensures.cause.ok.0) in
    let given1 : g.S.Source.held c.measure_codes.new.patch ≡ given = c.in_ok-found.ensures.stays.1.held_is in
    let never : IsRefused c.write_sums.result → ⊥ = amends_unrefused (g.D.Source.tally c.write_rows.new.store) (g.D.Source.tally c.write_sums.new.store) c.write_sums.result c.write_sums.ensures.cause in
    for_jobs held given t (λ job file by. TellsPatchFault {X = Unit {0}} job (Some file) (Some by) c.write_sums.result) (λ f p is by wanted corner to target.
    let r : Ready t f p wanted corner m = ready_of t m buf held given f p wanted corner is by to target c.requires.found.said c.in_ok-found.ensures.sound c.in_ok-found.ensures.room c.in_ok-found.ensures.measured in
    let st : Steps = steps t f p wanted corner m r in
    let fb : AreBytes f = some_of held _ f is (g.met.D.Source.octets c.args.store.now) in
    let pb : AreBytes p = some_of given _ p by (g.met.S.Source.octets c.args.patch.now) in
    let heap = heap_writes f t.header (es t f p wanted corner m r) in
    never_faulty (job_at wanted corner) f p t.header st c.write_sums.result (are t f p wanted corner m r) never
    )

pub returns-clause-unwritten : goal.returns-clause-unwritten
returns-clause-unwritten g c =
    let never : IsRefused c.write_sums.result → ⊥ = amends_unrefused (g.D.Source.tally c.write_rows.new.store) (g.D.Source.tally c.write_sums.new.store) c.write_sums.result c.write_sums.ensures.cause in
    λ refused. absurd (never refused)

pub returns-clause-late : goal.returns-clause-late
returns-clause-late g c =
    none_refused (λ x. ((g.D.Source.held c.write_sums.new.store ≡ g.D.Source.held c.args.store.now) × (g.D.Source.tally c.write_sums.new.store ≡ g.D.Source.tally c.args.store.now)) ⊎ ComesInWork c.args.target.now.header.hdu x) (g.D.Source.tally c.write_rows.new.store) (g.D.Source.tally c.write_sums.new.store) c.write_sums.result c.write_sums.ensures.cause

pub returns-clause-cause : goal.returns-clause-cause
returns-clause-cause g c =
    let t = c.args.target.now in
    let buf : List ℕ = c.args.buf.now in
    let held : Option (List ℕ) = g.D.Source.held c.args.store.now in
    let given : Option (List ℕ) = g.S.Source.held c.args.patch.now in
    let log : Option (List Amend) = (g.D.Source.tally c.args.store.now).amended.writes in
    let tally2 : g.D.Source.tally c.find_forms.new.store ≡ g.D.Source.tally c.args.store.now = c.in_ok-forms.ensures.cause.ok ∙ c.in_ok-found.ensures.cause.ok.0 in
    let given_tally : g.S.Source.tally c.measure_codes.new.patch ≡ g.S.Source.tally c.args.patch.now = c.in_ok-found.ensures.cause.ok.1 in
    let kept3 : StoreKept (g.D.Source.tally c.args.store.now) (g.D.Source.tally c.write_codes.new.store) = subst (λ (k : Tally). StoreKept k (g.D.Source.tally c.write_codes.new.store)) tally2 c.in_ok-write_codes.ensures.cause.store_kept in
    let same3 : SameCounts (g.D.Source.tally c.args.store.now) (g.D.Source.tally c.write_codes.new.store) = subst (λ (k : Tally). SameCounts k (g.D.Source.tally c.write_codes.new.store)) tally2 c.in_ok-write_codes.ensures.cause.ok.0 in
    let given3_tally : g.S.Source.tally c.write_codes.new.patch ≡ g.S.Source.tally c.args.patch.now = c.in_ok-write_codes.ensures.cause.ok.1 ∙ given_tally in
    let kept4 : StoreKept (g.D.Source.tally c.args.store.now) (g.D.Source.tally c.write_cards.new.store) = kept-then (g.D.Source.tally c.args.store.now) (g.D.Source.tally c.write_codes.new.store) (g.D.Source.tally c.write_cards.new.store) kept3 c.in_ok-write_cards.ensures.cause.kept in
    let same4 : SameCounts (g.D.Source.tally c.args.store.now) (g.D.Source.tally c.write_cards.new.store) = same-then (g.D.Source.tally c.args.store.now) (g.D.Source.tally c.write_codes.new.store) (g.D.Source.tally c.write_cards.new.store) same3 c.in_ok-write_cards.ensures.cause.ok in
    let kept5 : StoreKept (g.D.Source.tally c.args.store.now) (g.D.Source.tally c.write_rows.new.store) = kept-then (g.D.Source.tally c.args.store.now) (g.D.Source.tally c.write_cards.new.store) (g.D.Source.tally c.write_rows.new.store) kept4 c.in_ok-write_rows.ensures.cause.store_kept in
    let same5 : SameCounts (g.D.Source.tally c.args.store.now) (g.D.Source.tally c.write_rows.new.store) = same-then (g.D.Source.tally c.args.store.now) (g.D.Source.tally c.write_cards.new.store) (g.D.Source.tally c.write_rows.new.store) same4 c.in_ok-write_rows.ensures.cause.ok.0 in
    let given5_tally : g.S.Source.tally c.write_rows.new.patch ≡ g.S.Source.tally c.args.patch.now = c.in_ok-write_rows.ensures.cause.ok.1 ∙ given3_tally in
    amend_patches (g.D.Source.tally c.args.store.now) (g.D.Source.tally c.write_rows.new.store) (g.D.Source.tally c.write_sums.new.store) (g.S.Source.tally c.args.patch.now) (g.S.Source.tally c.write_rows.new.patch) c.write_sums.result kept5 same5 given5_tally c.write_sums.ensures.cause

pub returns-clause-reach : goal.returns-clause-reach
returns-clause-reach g c =
    reach-then _ _ _ (reach-is _ _ c.in_ok-found.ensures.stays.0.attached_is) (reach-then _ _ _ (reach-is _ _ c.in_ok-forms.ensures.stays.0.attached_is) (reach-then _ _ _ c.in_ok-write_codes.ensures.reach (reach-then _ _ _ c.in_ok-write_cards.ensures.reach (reach-then _ _ _ c.in_ok-write_rows.ensures.reach c.write_sums.ensures.reach))))

-- ---- what the parts require

pub find_places-places-requires-clause-some : goal.find_places-places-requires-clause-some
find_places-places-requires-clause-some g c = let long = c.requires.found.header.whole.blocks in omega (arith, long)

pub write_codes-requires-clause-given : goal.write_codes-requires-clause-given
write_codes-requires-clause-given g c κs within = subst (λ (a : Option ℕ). GivesWithin a c.args.target.now) (sym c.in_ok-found.ensures.stays.1.attached_is) c.requires.given

pub write_codes-requires-clause-window : goal.write_codes-requires-clause-window
write_codes-requires-clause-window g c κs within =
    room_still c.args.target.now.image c.args.window.now c.measure_codes.new.window c.in_ok-found.ensures.stays.2.sizes c.in_ok-found.ensures.stays.2.workers c.requires.window

pub write_cards-requires-clause-within : goal.write_cards-requires-clause-within
write_cards-requires-clause-within g c =
    let t = c.args.target.now in
    let long : length c.args.buf.now ≡ 2880 * t.header.blocks = header_long c.args.buf.now t.header c.requires.found.header in
    at-least _ _ _ c.in_ok-write_codes.ensures.grown (omega (arith, long))

pub write_cards-requires-clause-near : goal.write_cards-requires-clause-near
write_cards-requires-clause-near g c =
    let t = c.args.target.now in
    let long : length c.args.buf.now ≡ 2880 * t.header.blocks = header_long c.args.buf.now t.header c.requires.found.header in
    omega (arith, long, c.requires.found.target.end)

pub write_cards-requires-clause-pcount : goal.write_cards-requires-clause-pcount
write_cards-requires-clause-pcount g c =
    let t = c.args.target.now in
    let m : Measure = c.in_ok-found.found in
    let spot = pcount_place c.args.buf.now t.header c.requires.found.header in
    let ends = ends_of t m c.in_ok-found.ensures.room in
    let low : t.header.pcount ≤ t.header.pcount + m.bytes = omega arith in
    let inside = (c.grown_header_law.ensures.count c.args.buf.now t.header (t.header.pcount + m.bytes) c.requires.found.by.found low ends.short).0.within in
    omega (arith, spot, inside)

pub write_cards-requires-clause-coded : goal.write_cards-requires-clause-coded
write_cards-requires-clause-coded g c = c.find_places-places.ensures.coded_in

pub write_cards-requires-clause-stored : goal.write_cards-requires-clause-stored
write_cards-requires-clause-stored g c = c.find_places-places.ensures.stored_in

pub grown-grown-requires-clause-more : goal.grown-grown-requires-clause-more
grown-grown-requires-clause-more g c = let ends = ends_of c.args.target.now c.in_ok-found.found c.in_ok-found.ensures.room in let short = ends.short in omega (arith, short)

pub grown-grown-requires-clause-near : goal.grown-grown-requires-clause-near
grown-grown-requires-clause-near g c = (ends_of c.args.target.now c.in_ok-found.found c.in_ok-found.ensures.room).near

pub write_rows-requires-clause-within : goal.write_rows-requires-clause-within
write_rows-requires-clause-within g c κs within =
    let t = c.args.target.now in
    let m : Measure = c.in_ok-found.found in
    let far : HasAtLeast (g.D.Source.attached c.write_cards.new.store) (grown_end t.header m.bytes) = c.in_ok-write_cards.ensures.reach _ c.in_ok-write_codes.ensures.grown in
    let low = (zeros_near t m.bytes (t.image.table.heap_at + t.image.table.heap_len + m.bytes) c.requires.found.target refl).0 in
    subst (λ (u : Target). StandsWithin (g.D.Source.attached c.write_cards.new.store) u.image.table) (sym c.grown-grown.ensures.same)
    (reach_table (g.D.Source.attached c.write_cards.new.store) (grown_by t m.bytes).image.table (λ n at. g.met.D.Source.near c.write_cards.new.store n at) (at-least _ _ _ far (omega (arith, low))))

pub write_rows-requires-clause-said : goal.write_rows-requires-clause-said
write_rows-requires-clause-said g c κs within =
    let t = c.args.target.now in
    let buf : List ℕ = c.args.buf.now in
    let held : Option (List ℕ) = g.D.Source.held c.args.store.now in
    let m : Measure = c.in_ok-found.found in
    let held2 : g.D.Source.held c.find_forms.new.store ≡ held = c.in_ok-forms.ensures.stays.0.held_is ∙ c.in_ok-found.ensures.stays.0.held_is in
    let places = c.find_places-places.result in
    let forms = c.in_ok-forms.forms in
    let put = forms_writes t places m forms in
    let laws : StepLaws = record {
      count = c.grown_header_law.ensures.count;
      forms = c.grown_header_law.ensures.forms;
      sums = c.grown_header_law.ensures.sums;
      more = c.grown_header_law.ensures.more;
      says = c.grown_header_law.ensures.says;
      there = c.with_card_law.ensures.there;
      others = c.with_card_law.ensures.others;
      long = c.with_card_law.ensures.long;
    } in
    let wrote2 : Wrote put (g.D.Source.held c.write_codes.new.store) (g.D.Source.held c.write_cards.new.store) (g.D.Source.tally c.write_codes.new.store).amended.writes (g.D.Source.tally c.write_cards.new.store).amended.writes = c.in_ok-write_cards.ensures.wrote in
    subst (λ (u : Target). IfSome (g.D.Source.held c.write_cards.new.store) (λ f. IsTargetIn f u)) (sym c.grown-grown.ensures.same)
    (subst (λ (h : Option (List ℕ)). IfSome h (λ f. IsTargetIn f (grown_by t m.bytes))) (sym wrote2.held_is)
    (said_after laws t buf places m forms c.requires.found.target c.requires.found.by c.find_places-places.ensures c.in_ok-found.ensures.room c.in_ok-forms.ensures.small c.card_in_file_law.ensures held (g.D.Source.held c.find_forms.new.store) (g.D.Source.held c.write_codes.new.store) held2
    (if_some_map held _ _ (λ f said. said.1) c.requires.found.said) c.in_ok-write_codes.ensures.header
    (told_long (g.D.Source.held c.write_codes.new.store) (g.D.Source.attached c.write_codes.new.store) (t.header.start + 2880 * t.header.blocks) (λ n at. g.met.D.Source.agrees c.write_codes.new.store n at) (at-least _ _ _ c.in_ok-write_codes.ensures.grown (omega arith)))))

pub write_rows-requires-clause-given : goal.write_rows-requires-clause-given
write_rows-requires-clause-given g c κs within =
    subst (λ (u : Target). GivesWithin (g.S.Source.attached c.write_codes.new.patch) u) (sym c.grown-grown.ensures.same)
    (subst (λ (a : Option ℕ). GivesWithin a (grown_by c.args.target.now c.in_ok-found.found.bytes)) (sym (c.in_ok-write_codes.ensures.stays.0.attached_is ∙ c.in_ok-found.ensures.stays.1.attached_is)) c.requires.given)

pub write_rows-requires-clause-heap : goal.write_rows-requires-clause-heap
write_rows-requires-clause-heap g c κs within =
    let t = c.args.target.now in
    let m : Measure = c.in_ok-found.found in
    let low : m.bytes ≤ t.image.table.heap_len + m.bytes = omega arith in
    subst (λ (u : Target). m.bytes ≤ u.image.table.heap_len) (sym c.grown-grown.ensures.same) low

pub write_rows-requires-clause-room : goal.write_rows-requires-clause-room
write_rows-requires-clause-room g c κs within =
    let t = c.args.target.now in
    let m : Measure = c.in_ok-found.found in
    subst (λ (u : Target). u.image.table.heap_len < (if u.wide then 2 ^ 63 else 2 ^ 31)) (sym c.grown-grown.ensures.same) (heap_says t m c.requires.found.target c.in_ok-found.ensures.room)

pub write_rows-requires-clause-window : goal.write_rows-requires-clause-window
write_rows-requires-clause-window g c κs within =
    let t = c.args.target.now in
    let first = room_still t.image c.args.window.now c.measure_codes.new.window c.in_ok-found.ensures.stays.2.sizes c.in_ok-found.ensures.stays.2.workers c.requires.window in
    let second = room_still t.image c.measure_codes.new.window c.write_codes.new.window c.in_ok-write_codes.ensures.stays.1.sizes c.in_ok-write_codes.ensures.stays.1.workers first in
    subst (λ (u : Target). HaveRoom u.image c.write_codes.new.window) (sym c.grown-grown.ensures.same) second

pub write_sums-requires-clause-header : goal.write_sums-requires-clause-header
write_sums-requires-clause-header g c =
    let t = c.args.target.now in
    let m : Measure = c.in_ok-found.found in
    let laws : StepLaws = record {
      count = c.grown_header_law.ensures.count;
      forms = c.grown_header_law.ensures.forms;
      sums = c.grown_header_law.ensures.sums;
      more = c.grown_header_law.ensures.more;
      says = c.grown_header_law.ensures.says;
      there = c.with_card_law.ensures.there;
      others = c.with_card_law.ensures.others;
      long = c.with_card_law.ensures.long;
    } in
    let says = grown_says laws t c.args.buf.now c.find_places-places.result m c.in_ok-forms.forms c.requires.found.target c.requires.found.by c.find_places-places.ensures c.in_ok-found.ensures.room c.in_ok-forms.ensures.small in
    subst (λ (u : Target). IsHeaderOf c.write_cards.new.buf u.header) (sym c.grown-grown.ensures.same)
    (subst (λ (l : List ℕ). IsHeaderOf l (grown_by t m.bytes).header) (sym c.in_ok-write_cards.ensures.header) says.is.is_header)

pub write_sums-requires-clause-within : goal.write_sums-requires-clause-within
write_sums-requires-clause-within g c =
    let t = c.args.target.now in
    let m : Measure = c.in_ok-found.found in
    let far : HasAtLeast (g.D.Source.attached c.write_rows.new.store) (grown_end t.header m.bytes) = c.in_ok-write_rows.ensures.reach _ (c.in_ok-write_cards.ensures.reach _ c.in_ok-write_codes.ensures.grown) in
    subst (λ (u : Target). HasAtLeast (g.D.Source.attached c.write_rows.new.store) (next_start_of u.header)) (sym c.grown-grown.ensures.same) far

pub write_sums-requires-clause-end : goal.write_sums-requires-clause-end
write_sums-requires-clause-end g c =
    let t = c.args.target.now in
    let m : Measure = c.in_ok-found.found in
    subst (λ (u : Target). next_start_of u.header ≤ 2 ^ 62) (sym c.grown-grown.ensures.same) (ends_of t m c.in_ok-found.ensures.room).near

-- ---- a store that shows its bytes goes on to show them

pub returns-in_err-write_codes-clause-told : goal.returns-in_err-write_codes-clause-told
returns-in_err-write_codes-clause-told g c =
    let same : g.D.Source.held c.find_forms.new.store ≡ g.D.Source.held c.args.store.now = c.in_ok-forms.ensures.stays.0.held_is ∙ c.in_ok-found.ensures.stays.0.held_is in
    told-then _ _ _ (told-is _ _ same) c.in_err-write_codes.ensures.stays.2

pub returns-in_err-write_cards-clause-told : goal.returns-in_err-write_cards-clause-told
returns-in_err-write_cards-clause-told g c =
    let same : g.D.Source.held c.find_forms.new.store ≡ g.D.Source.held c.args.store.now = c.in_ok-forms.ensures.stays.0.held_is ∙ c.in_ok-found.ensures.stays.0.held_is in
    told-then _ _ _ (told-then _ _ _ (told-is _ _ same) c.in_ok-write_codes.ensures.stays.2) (told-some _ _ _ _ _ c.in_err-write_cards.ensures.some)

pub returns-in_err-write_rows-clause-told : goal.returns-in_err-write_rows-clause-told
returns-in_err-write_rows-clause-told g c =
    let same : g.D.Source.held c.find_forms.new.store ≡ g.D.Source.held c.args.store.now = c.in_ok-forms.ensures.stays.0.held_is ∙ c.in_ok-found.ensures.stays.0.held_is in
    told-then _ _ _ (told-then _ _ _ (told-then _ _ _ (told-is _ _ same) c.in_ok-write_codes.ensures.stays.2) (told-some _ _ _ _ _ c.in_ok-write_cards.ensures.some)) c.in_err-write_rows.ensures.stays.2

pub returns-clause-told : goal.returns-clause-told
returns-clause-told g c =
    let same : g.D.Source.held c.find_forms.new.store ≡ g.D.Source.held c.args.store.now = c.in_ok-forms.ensures.stays.0.held_is ∙ c.in_ok-found.ensures.stays.0.held_is in
    let before : Option (List ℕ) = g.D.Source.held c.write_rows.new.store in
    let now : Option (List ℕ) = g.D.Source.held c.write_sums.new.store in
    let log : Option (List Amend) = (g.D.Source.tally c.write_rows.new.store).amended.writes in
    let log' : Option (List Amend) = (g.D.Source.tally c.write_sums.new.store).amended.writes in
    told-then _ _ _
    (told-then _ _ _ (told-then _ _ _ (told-then _ _ _ (told-is _ _ same) c.in_ok-write_codes.ensures.stays.2) (told-some _ _ _ _ _ c.in_ok-write_cards.ensures.some)) c.in_ok-write_rows.ensures.stays.2)
    (told-if before now (λ f. WroteSome (sums_writes c.grown-grown.result.header f c.write_cards.new.buf) before now log log') (λ f is some. told-some _ before now log log' some) c.write_sums.ensures.some)

pub returns-in_err-found-clause-patch : goal.returns-in_err-found-clause-patch
returns-in_err-found-clause-patch g c =
    c.in_err-found.ensures.stays.1

pub returns-in_err-found-clause-window : goal.returns-in_err-found-clause-window
returns-in_err-found-clause-window g c =
    c.in_err-found.ensures.stays.2

pub returns-in_err-found-clause-copy : goal.returns-in_err-found-clause-copy
returns-in_err-found-clause-copy g c =
    c.in_err-found.ensures.stays.3

pub returns-in_err-found-clause-buf : goal.returns-in_err-found-clause-buf
returns-in_err-found-clause-buf g c =
    refl

pub returns-in_err-found-clause-told : goal.returns-in_err-found-clause-told
returns-in_err-found-clause-told g c =
    told-is _ _ c.in_err-found.ensures.stays.0.held_is

pub returns-in_err-forms-clause-patch : goal.returns-in_err-forms-clause-patch
returns-in_err-forms-clause-patch g c =
    c.in_ok-found.ensures.stays.1

pub returns-in_err-forms-clause-window : goal.returns-in_err-forms-clause-window
returns-in_err-forms-clause-window g c =
    c.in_ok-found.ensures.stays.2

pub returns-in_err-forms-clause-copy : goal.returns-in_err-forms-clause-copy
returns-in_err-forms-clause-copy g c =
    c.in_err-forms.ensures.stays.1 ∙ c.in_ok-found.ensures.stays.3

pub returns-in_err-forms-clause-buf : goal.returns-in_err-forms-clause-buf
returns-in_err-forms-clause-buf g c =
    refl

pub returns-in_err-forms-clause-told : goal.returns-in_err-forms-clause-told
returns-in_err-forms-clause-told g c =
    told-is _ _ (c.in_err-forms.ensures.stays.0.held_is ∙ c.in_ok-found.ensures.stays.0.held_is)

pub returns-in_err-write_codes-clause-patch : goal.returns-in_err-write_codes-clause-patch
returns-in_err-write_codes-clause-patch g c =
    record { held_is = c.in_err-write_codes.ensures.stays.0.held_is ∙ c.in_ok-found.ensures.stays.1.held_is; attached_is = c.in_err-write_codes.ensures.stays.0.attached_is ∙ c.in_ok-found.ensures.stays.1.attached_is; told = λ t. c.in_err-write_codes.ensures.stays.0.told (c.in_ok-found.ensures.stays.1.told t) }

pub returns-in_err-write_codes-clause-window : goal.returns-in_err-write_codes-clause-window
returns-in_err-write_codes-clause-window g c =
    record { sizes = c.in_err-write_codes.ensures.stays.1.sizes ∙ c.in_ok-found.ensures.stays.2.sizes; workers = c.in_err-write_codes.ensures.stays.1.workers ∙ c.in_ok-found.ensures.stays.2.workers }

pub returns-in_err-write_codes-clause-copy : goal.returns-in_err-write_codes-clause-copy
returns-in_err-write_codes-clause-copy g c =
    c.in_err-write_codes.ensures.stays.3 ∙ c.in_ok-forms.ensures.stays.1 ∙ c.in_ok-found.ensures.stays.3

pub returns-in_err-write_codes-clause-buf : goal.returns-in_err-write_codes-clause-buf
returns-in_err-write_codes-clause-buf g c =
    refl

pub returns-in_err-write_cards-clause-window : goal.returns-in_err-write_cards-clause-window
returns-in_err-write_cards-clause-window g c =
    record { sizes = c.in_ok-write_codes.ensures.stays.1.sizes ∙ c.in_ok-found.ensures.stays.2.sizes; workers = c.in_ok-write_codes.ensures.stays.1.workers ∙ c.in_ok-found.ensures.stays.2.workers }

pub returns-in_err-write_cards-clause-copy : goal.returns-in_err-write_cards-clause-copy
returns-in_err-write_cards-clause-copy g c =
    c.in_ok-write_codes.ensures.stays.3 ∙ c.in_ok-forms.ensures.stays.1 ∙ c.in_ok-found.ensures.stays.3

pub returns-in_err-write_cards-clause-buf : goal.returns-in_err-write_cards-clause-buf
returns-in_err-write_cards-clause-buf g c =
    c.in_err-write_cards.ensures.len

pub returns-in_err-write_rows-clause-patch : goal.returns-in_err-write_rows-clause-patch
returns-in_err-write_rows-clause-patch g c =
    record { held_is = c.in_err-write_rows.ensures.stays.0.held_is ∙ c.in_ok-write_codes.ensures.stays.0.held_is ∙ c.in_ok-found.ensures.stays.1.held_is; attached_is = c.in_err-write_rows.ensures.stays.0.attached_is ∙ c.in_ok-write_codes.ensures.stays.0.attached_is ∙ c.in_ok-found.ensures.stays.1.attached_is; told = λ t. c.in_err-write_rows.ensures.stays.0.told (c.in_ok-write_codes.ensures.stays.0.told (c.in_ok-found.ensures.stays.1.told t)) }

pub returns-in_err-write_rows-clause-window : goal.returns-in_err-write_rows-clause-window
returns-in_err-write_rows-clause-window g c =
    record { sizes = c.in_err-write_rows.ensures.stays.1.sizes ∙ c.in_ok-write_codes.ensures.stays.1.sizes ∙ c.in_ok-found.ensures.stays.2.sizes; workers = c.in_err-write_rows.ensures.stays.1.workers ∙ c.in_ok-write_codes.ensures.stays.1.workers ∙ c.in_ok-found.ensures.stays.2.workers }

pub returns-in_err-write_rows-clause-copy : goal.returns-in_err-write_rows-clause-copy
returns-in_err-write_rows-clause-copy g c =
    c.in_err-write_rows.ensures.stays.3 ∙ c.in_ok-write_codes.ensures.stays.3 ∙ c.in_ok-forms.ensures.stays.1 ∙ c.in_ok-found.ensures.stays.3

pub returns-in_err-write_rows-clause-buf : goal.returns-in_err-write_rows-clause-buf
returns-in_err-write_rows-clause-buf g c =
    c.in_ok-write_cards.ensures.len

pub returns-clause-patch : goal.returns-clause-patch
returns-clause-patch g c =
    record { held_is = c.in_ok-write_rows.ensures.stays.0.held_is ∙ c.in_ok-write_codes.ensures.stays.0.held_is ∙ c.in_ok-found.ensures.stays.1.held_is; attached_is = c.in_ok-write_rows.ensures.stays.0.attached_is ∙ c.in_ok-write_codes.ensures.stays.0.attached_is ∙ c.in_ok-found.ensures.stays.1.attached_is; told = λ t. c.in_ok-write_rows.ensures.stays.0.told (c.in_ok-write_codes.ensures.stays.0.told (c.in_ok-found.ensures.stays.1.told t)) }

pub returns-clause-window : goal.returns-clause-window
returns-clause-window g c =
    record { sizes = c.in_ok-write_rows.ensures.stays.1.sizes ∙ c.in_ok-write_codes.ensures.stays.1.sizes ∙ c.in_ok-found.ensures.stays.2.sizes; workers = c.in_ok-write_rows.ensures.stays.1.workers ∙ c.in_ok-write_codes.ensures.stays.1.workers ∙ c.in_ok-found.ensures.stays.2.workers }

pub returns-clause-copy : goal.returns-clause-copy
returns-clause-copy g c =
    c.write_sums.ensures.stays.1 ∙ c.in_ok-write_rows.ensures.stays.3 ∙ c.in_ok-write_codes.ensures.stays.3 ∙ c.in_ok-forms.ensures.stays.1 ∙ c.in_ok-found.ensures.stays.3

pub returns-clause-buf : goal.returns-clause-buf
returns-clause-buf g c =
    c.write_sums.ensures.stays.0 ∙ c.in_ok-write_cards.ensures.len

pub returns-in_err-found-clause-patched : goal.returns-in_err-found-clause-patched
returns-in_err-found-clause-patched g c =
    let stopped : c.from_residual.result ≡ Err c.in_err-found.field-0.0 = search rules in
    never_ok _ c.from_residual.result c.in_err-found.field-0.0 stopped

pub returns-in_err-forms-clause-patched : goal.returns-in_err-forms-clause-patched
returns-in_err-forms-clause-patched g c =
    let stopped : c.from_residual-in_err-forms.result ≡ Err c.in_err-forms.field-0.0 = search rules in
    never_ok _ c.from_residual-in_err-forms.result c.in_err-forms.field-0.0 stopped

pub returns-in_err-write_codes-clause-patched : goal.returns-in_err-write_codes-clause-patched
returns-in_err-write_codes-clause-patched g c =
    let stopped : c.from_residual-in_err-write_codes.result ≡ Err c.in_err-write_codes.field-0.0 = search rules in
    never_ok _ c.from_residual-in_err-write_codes.result c.in_err-write_codes.field-0.0 stopped

pub returns-in_err-write_cards-clause-patched : goal.returns-in_err-write_cards-clause-patched
returns-in_err-write_cards-clause-patched g c =
    let stopped : c.from_residual-in_err-write_cards.result ≡ Err c.in_err-write_cards.field-0.0 = search rules in
    never_ok _ c.from_residual-in_err-write_cards.result c.in_err-write_cards.field-0.0 stopped

pub returns-in_err-write_rows-clause-patched : goal.returns-in_err-write_rows-clause-patched
returns-in_err-write_rows-clause-patched g c =
    let stopped : c.from_residual-in_err-write_rows.result ≡ Err c.in_err-write_rows.field-0.0 = search rules in
    never_ok _ c.from_residual-in_err-write_rows.result c.in_err-write_rows.field-0.0 stopped

-- ---- what is kept, and what is read of PATCH

pub returns-in_err-found-clause-kept : goal.returns-in_err-found-clause-kept
returns-in_err-found-clause-kept g c =
    let t = c.args.target.now in
    let buf : List ℕ = c.args.buf.now in
    let held : Option (List ℕ) = g.D.Source.held c.args.store.now in
    let log : Option (List Amend) = (g.D.Source.tally c.args.store.now).amended.writes in
    keeps_same (KeptBy t buf) held (g.D.Source.held c.measure_codes.new.store) log (g.D.Source.tally c.measure_codes.new.store).amended.writes c.in_err-found.ensures.stays.0.held_is
    (read_writes (g.D.Source.tally c.args.store.now) (g.D.Source.tally c.measure_codes.new.store) c.in_err-found.ensures.cause.store_kept)

pub returns-in_err-found-clause-pixels_read : goal.returns-in_err-found-clause-pixels_read
returns-in_err-found-clause-pixels_read g c =
    c.in_err-found.ensures.pixels_read

pub returns-in_err-forms-clause-kept : goal.returns-in_err-forms-clause-kept
returns-in_err-forms-clause-kept g c =
    let t = c.args.target.now in
    let buf : List ℕ = c.args.buf.now in
    let held : Option (List ℕ) = g.D.Source.held c.args.store.now in
    let log : Option (List Amend) = (g.D.Source.tally c.args.store.now).amended.writes in
    keeps_same (KeptBy t buf) held (g.D.Source.held c.find_forms.new.store) log (g.D.Source.tally c.find_forms.new.store).amended.writes
    (c.in_err-forms.ensures.stays.0.held_is ∙ c.in_ok-found.ensures.stays.0.held_is)
    (read_writes (g.D.Source.tally c.measure_codes.new.store) (g.D.Source.tally c.find_forms.new.store) c.in_err-forms.ensures.cause.kept ∙ ap (λ (k : Tally). k.amended.writes) c.in_ok-found.ensures.cause.ok.0)

pub returns-in_err-forms-clause-pixels_read : goal.returns-in_err-forms-clause-pixels_read
returns-in_err-forms-clause-pixels_read g c =
    c.in_ok-found.ensures.pixels_read

pub returns-in_err-write_codes-clause-kept : goal.returns-in_err-write_codes-clause-kept
returns-in_err-write_codes-clause-kept g c =
    let t = c.args.target.now in
    let buf : List ℕ = c.args.buf.now in
    let held : Option (List ℕ) = g.D.Source.held c.args.store.now in
    let log : Option (List Amend) = (g.D.Source.tally c.args.store.now).amended.writes in
    let m : Measure = c.in_ok-found.found in
    let s2 = c.find_forms.new.store in
    let s3 = c.write_codes.new.store in
    let held2 : g.D.Source.held s2 ≡ held = c.in_ok-forms.ensures.stays.0.held_is ∙ c.in_ok-found.ensures.stays.0.held_is in
    let log2 : (g.D.Source.tally s2).amended.writes ≡ log = ap (λ (k : Tally). k.amended.writes) (c.in_ok-forms.ensures.cause.ok ∙ c.in_ok-found.ensures.cause.ok.0) in
    after_codes t buf held (g.D.Source.held s2) (g.D.Source.held s3) log (g.D.Source.tally s2).amended.writes (g.D.Source.tally s3).amended.writes held2 log2 c.in_err-write_codes.ensures.kept

pub returns-in_err-write_codes-clause-pixels_read : goal.returns-in_err-write_codes-clause-pixels_read
returns-in_err-write_codes-clause-pixels_read g c =
    let t = c.args.target.now in
    c.log_law.ensures.both t.pixels_at (pixels_end t) (g.S.Source.ranges c.args.patch.now) (g.S.Source.ranges c.measure_codes.new.patch) (g.S.Source.ranges c.write_codes.new.patch) c.in_ok-found.ensures.pixels_read c.in_err-write_codes.ensures.pixels_read

pub returns-in_err-write_cards-clause-kept : goal.returns-in_err-write_cards-clause-kept
returns-in_err-write_cards-clause-kept g c =
    let t = c.args.target.now in
    let buf : List ℕ = c.args.buf.now in
    let held : Option (List ℕ) = g.D.Source.held c.args.store.now in
    let log : Option (List Amend) = (g.D.Source.tally c.args.store.now).amended.writes in
    let m : Measure = c.in_ok-found.found in
    let s2 = c.find_forms.new.store in
    let s3 = c.write_codes.new.store in
    let held2 : g.D.Source.held s2 ≡ held = c.in_ok-forms.ensures.stays.0.held_is ∙ c.in_ok-found.ensures.stays.0.held_is in
    let log2 : (g.D.Source.tally s2).amended.writes ≡ log = ap (λ (k : Tally). k.amended.writes) (c.in_ok-forms.ensures.cause.ok ∙ c.in_ok-found.ensures.cause.ok.0) in
    let laws : StepLaws = record {
      count = c.grown_header_law.ensures.count;
      forms = c.grown_header_law.ensures.forms;
      sums = c.grown_header_law.ensures.sums;
      more = c.grown_header_law.ensures.more;
      says = c.grown_header_law.ensures.says;
      there = c.with_card_law.ensures.there;
      others = c.with_card_law.ensures.others;
      long = c.with_card_law.ensures.long;
    } in
    let first : Keeps (KeptBy t buf) held (g.D.Source.held s3) log (g.D.Source.tally s3).amended.writes =
    after_codes t buf held (g.D.Source.held s2) (g.D.Source.held s3) log (g.D.Source.tally s2).amended.writes (g.D.Source.tally s3).amended.writes held2 log2 c.in_ok-write_codes.ensures.kept in
    let s4 = c.write_cards.new.store in
    let second : Keeps (KeptBy t buf) held (g.D.Source.held s4) log (g.D.Source.tally s4).amended.writes =
    after_cards c.places_law.ensures.outside c.places_law.ensures.long laws t buf c.find_places-places.result m c.in_ok-forms.forms c.requires.found.target c.requires.found.by c.find_places-places.ensures c.in_ok-found.ensures.room c.in_ok-forms.ensures.small held (g.D.Source.held s3) (g.D.Source.held s4) log
    (g.D.Source.tally s3).amended.writes (g.D.Source.tally s4).amended.writes first c.in_err-write_cards.ensures.some in
    second

pub returns-in_err-write_cards-clause-pixels_read : goal.returns-in_err-write_cards-clause-pixels_read
returns-in_err-write_cards-clause-pixels_read g c =
    let t = c.args.target.now in
    let two = c.log_law.ensures.both t.pixels_at (pixels_end t) (g.S.Source.ranges c.args.patch.now) (g.S.Source.ranges c.measure_codes.new.patch) (g.S.Source.ranges c.write_codes.new.patch) c.in_ok-found.ensures.pixels_read c.in_ok-write_codes.ensures.pixels_read in
    two

pub returns-in_err-write_rows-clause-kept : goal.returns-in_err-write_rows-clause-kept
returns-in_err-write_rows-clause-kept g c =
    let t = c.args.target.now in
    let buf : List ℕ = c.args.buf.now in
    let held : Option (List ℕ) = g.D.Source.held c.args.store.now in
    let log : Option (List Amend) = (g.D.Source.tally c.args.store.now).amended.writes in
    let m : Measure = c.in_ok-found.found in
    let s2 = c.find_forms.new.store in
    let s3 = c.write_codes.new.store in
    let held2 : g.D.Source.held s2 ≡ held = c.in_ok-forms.ensures.stays.0.held_is ∙ c.in_ok-found.ensures.stays.0.held_is in
    let log2 : (g.D.Source.tally s2).amended.writes ≡ log = ap (λ (k : Tally). k.amended.writes) (c.in_ok-forms.ensures.cause.ok ∙ c.in_ok-found.ensures.cause.ok.0) in
    let laws : StepLaws = record {
      count = c.grown_header_law.ensures.count;
      forms = c.grown_header_law.ensures.forms;
      sums = c.grown_header_law.ensures.sums;
      more = c.grown_header_law.ensures.more;
      says = c.grown_header_law.ensures.says;
      there = c.with_card_law.ensures.there;
      others = c.with_card_law.ensures.others;
      long = c.with_card_law.ensures.long;
    } in
    let first : Keeps (KeptBy t buf) held (g.D.Source.held s3) log (g.D.Source.tally s3).amended.writes =
    after_codes t buf held (g.D.Source.held s2) (g.D.Source.held s3) log (g.D.Source.tally s2).amended.writes (g.D.Source.tally s3).amended.writes held2 log2 c.in_ok-write_codes.ensures.kept in
    let s4 = c.write_cards.new.store in
    let second : Keeps (KeptBy t buf) held (g.D.Source.held s4) log (g.D.Source.tally s4).amended.writes =
    after_cards c.places_law.ensures.outside c.places_law.ensures.long laws t buf c.find_places-places.result m c.in_ok-forms.forms c.requires.found.target c.requires.found.by c.find_places-places.ensures c.in_ok-found.ensures.room c.in_ok-forms.ensures.small held (g.D.Source.held s3) (g.D.Source.held s4) log
    (g.D.Source.tally s3).amended.writes (g.D.Source.tally s4).amended.writes first c.in_ok-write_cards.ensures.some in
    let s5 = c.write_rows.new.store in
    let third : Keeps (KeptBy t buf) held (g.D.Source.held s5) log (g.D.Source.tally s5).amended.writes =
    after_rows t c.grown-grown.result m.bytes buf held (g.D.Source.held s4) (g.D.Source.held s5) log (g.D.Source.tally s4).amended.writes (g.D.Source.tally s5).amended.writes c.grown-grown.ensures.same second c.in_err-write_rows.ensures.kept in
    third

pub returns-in_err-write_rows-clause-pixels_read : goal.returns-in_err-write_rows-clause-pixels_read
returns-in_err-write_rows-clause-pixels_read g c =
    let t = c.args.target.now in
    let two = c.log_law.ensures.both t.pixels_at (pixels_end t) (g.S.Source.ranges c.args.patch.now) (g.S.Source.ranges c.measure_codes.new.patch) (g.S.Source.ranges c.write_codes.new.patch) c.in_ok-found.ensures.pixels_read c.in_ok-write_codes.ensures.pixels_read in
    c.log_law.ensures.both t.pixels_at (pixels_end t) (g.S.Source.ranges c.args.patch.now) (g.S.Source.ranges c.write_codes.new.patch) (g.S.Source.ranges c.write_rows.new.patch) two
    (subst (λ (u : Target). LogsWithin u.pixels_at (pixels_end u) (g.S.Source.ranges c.write_codes.new.patch) (g.S.Source.ranges c.write_rows.new.patch)) c.grown-grown.ensures.same c.in_err-write_rows.ensures.pixels_read)

pub returns-clause-kept : goal.returns-clause-kept
returns-clause-kept g c =
    let t = c.args.target.now in
    let buf : List ℕ = c.args.buf.now in
    let held : Option (List ℕ) = g.D.Source.held c.args.store.now in
    let log : Option (List Amend) = (g.D.Source.tally c.args.store.now).amended.writes in
    let m : Measure = c.in_ok-found.found in
    let s2 = c.find_forms.new.store in
    let s3 = c.write_codes.new.store in
    let held2 : g.D.Source.held s2 ≡ held = c.in_ok-forms.ensures.stays.0.held_is ∙ c.in_ok-found.ensures.stays.0.held_is in
    let log2 : (g.D.Source.tally s2).amended.writes ≡ log = ap (λ (k : Tally). k.amended.writes) (c.in_ok-forms.ensures.cause.ok ∙ c.in_ok-found.ensures.cause.ok.0) in
    let laws : StepLaws = record {
      count = c.grown_header_law.ensures.count;
      forms = c.grown_header_law.ensures.forms;
      sums = c.grown_header_law.ensures.sums;
      more = c.grown_header_law.ensures.more;
      says = c.grown_header_law.ensures.says;
      there = c.with_card_law.ensures.there;
      others = c.with_card_law.ensures.others;
      long = c.with_card_law.ensures.long;
    } in
    let first : Keeps (KeptBy t buf) held (g.D.Source.held s3) log (g.D.Source.tally s3).amended.writes =
    after_codes t buf held (g.D.Source.held s2) (g.D.Source.held s3) log (g.D.Source.tally s2).amended.writes (g.D.Source.tally s3).amended.writes held2 log2 c.in_ok-write_codes.ensures.kept in
    let s4 = c.write_cards.new.store in
    let second : Keeps (KeptBy t buf) held (g.D.Source.held s4) log (g.D.Source.tally s4).amended.writes =
    after_cards c.places_law.ensures.outside c.places_law.ensures.long laws t buf c.find_places-places.result m c.in_ok-forms.forms c.requires.found.target c.requires.found.by c.find_places-places.ensures c.in_ok-found.ensures.room c.in_ok-forms.ensures.small held (g.D.Source.held s3) (g.D.Source.held s4) log
    (g.D.Source.tally s3).amended.writes (g.D.Source.tally s4).amended.writes first c.in_ok-write_cards.ensures.some in
    let s5 = c.write_rows.new.store in
    let third : Keeps (KeptBy t buf) held (g.D.Source.held s5) log (g.D.Source.tally s5).amended.writes =
    after_rows t c.grown-grown.result m.bytes buf held (g.D.Source.held s4) (g.D.Source.held s5) log (g.D.Source.tally s4).amended.writes (g.D.Source.tally s5).amended.writes c.grown-grown.ensures.same second c.in_ok-write_rows.ensures.kept in
    let s6 = c.write_sums.new.store in
    let whole : SumCardsAreWhole = record { datasum = λ sum few. (c.sum_cards_law.ensures.datasum sum few).whole; checksum = λ sum. (c.sum_cards_law.ensures.checksum sum).whole; fits = c.sum_law.ensures.fits } in
    after_sums c.places_law.ensures.outside c.places_law.ensures.long laws t buf c.find_places-places.result m c.in_ok-forms.forms c.requires.found.target c.requires.found.by c.find_places-places.ensures c.in_ok-found.ensures.room c.in_ok-forms.ensures.small whole c.grown-grown.result c.write_cards.new.buf held
    (g.D.Source.held s5) (g.D.Source.held s6) log (g.D.Source.tally s5).amended.writes (g.D.Source.tally s6).amended.writes c.grown-grown.ensures.same c.in_ok-write_cards.ensures.header third c.write_sums.ensures.some

pub returns-clause-pixels_read : goal.returns-clause-pixels_read
returns-clause-pixels_read g c =
    let t = c.args.target.now in
    let two = c.log_law.ensures.both t.pixels_at (pixels_end t) (g.S.Source.ranges c.args.patch.now) (g.S.Source.ranges c.measure_codes.new.patch) (g.S.Source.ranges c.write_codes.new.patch) c.in_ok-found.ensures.pixels_read c.in_ok-write_codes.ensures.pixels_read in
    c.log_law.ensures.both t.pixels_at (pixels_end t) (g.S.Source.ranges c.args.patch.now) (g.S.Source.ranges c.write_codes.new.patch) (g.S.Source.ranges c.write_rows.new.patch) two
    (subst (λ (u : Target). LogsWithin u.pixels_at (pixels_end u) (g.S.Source.ranges c.write_codes.new.patch) (g.S.Source.ranges c.write_rows.new.patch)) c.grown-grown.ensures.same c.in_ok-write_rows.ensures.pixels_read)
