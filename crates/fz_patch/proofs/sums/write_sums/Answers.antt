-- The sum of the data, and then both cards.
use Rattle.std.proofs.Common.{◌≡◌, ℕ, ◌+◌, List, length, Option, Result, Err, sym, ap, ◌∙◌, subst, arith, rules}
use Rattle.std.proofs.lemmas.Result.{on_ok_weaker}
use Rattle.fz_base.specs.Counts.{Amend}
use Rattle.fz_base.specs.Store.{HasAtLeast}
use Rattle.fz_base.specs.declared.failure.Stop.{Stop}
use Rattle.fz_block.specs.Header.{next_start_of}
use Rattle.fz_block.specs.Walk.{hdu_of}
use Rattle.std.specs.Prelude.{is_some}
use Rattle.fz_sum.specs.Pieces.{after, nothing}
use Rattle.fz_sum.specs.Sums.{ones_sum}
use Rattle.fz_patch.specs.Cards.{datasum_write, sums_writes}
use Rattle.fz_target.specs.Ends.{AmendsStore}
use Rattle.fz_target.specs.Steps.{Wrote, WroteSome}
use Rattle.fz_patch.proofs.Amended.{amends-then, at-least, kept-read, kept-then, read-amends, reach-is, reach-then, same-is, same-then, settled-amends}
use Rattle.fz_patch.proofs.CodedRefusals.{some_same, wrote_same}
use Rattle.fz_patch.proofs.EndsJoined.{read_writes, settled_writes}
use Rattle.fz_patch.proofs.EndsTold.{if_some, some_of}
use Rattle.fz_patch.proofs.SumCards.{both_none, data_between, header_long, no_sums, sums_back, sums_front, sums_wrote}
use Rattle.fz_patch.proofs.Summed.{data_sum}
use Rattle.fz_patch.proofs.Wrotes.{wrote-all, wrote-none, wrote-nothing}
use Rattle.fz_patch.proofs.SettledSteps.{all_settled}
use Rattle.fz_patch.proofs.sums.write_sums.Goals as goal

pub returns-then-are_none-clause-wrote : goal.returns-then-are_none-clause-wrote
returns-then-are_none-clause-wrote g c =
    let held : Option (List ℕ) = g.D.Source.held c.args.store.now in
    let log : Option (List Amend) = (g.D.Source.tally c.args.store.now).amended.writes in
    let none = both_none c.told_sum-datasum.result c.told_sum-checksum.result (sym c.are_none.ensures ∙ c.if-are_none.true) in
    if_some held _ (λ f is. subst (λ ws. Wrote ws held held log log)
    (sym (no_sums c.args.header.now f c.args.buf.now c.told_sum-datasum.result c.told_sum-checksum.result c.told_sum-datasum.ensures.place c.told_sum-checksum.ensures.place none.0 none.1)) (wrote-none held log))

pub returns-then-are_none-clause-some : goal.returns-then-are_none-clause-some
returns-then-are_none-clause-some g c =
    let held : Option (List ℕ) = g.D.Source.held c.args.store.now in
    let log : Option (List Amend) = (g.D.Source.tally c.args.store.now).amended.writes in
    if_some held _ (λ f is. wrote-nothing (sums_writes c.args.header.now f c.args.buf.now) held log)

-- ---- the data are not read

pub returns-in_err-payload-clause-some : goal.returns-in_err-payload-clause-some
returns-in_err-payload-clause-some g c =
    let held : Option (List ℕ) = g.D.Source.held c.args.store.now in
    let now : Option (List ℕ) = g.D.Source.held c.sum_of.new.store in
    let log : Option (List Amend) = (g.D.Source.tally c.args.store.now).amended.writes in
    let log' : Option (List Amend) = (g.D.Source.tally c.sum_of.new.store).amended.writes in
    let stopped = c.in_err-payload.ensures in
    if_some held _ (λ f is. some_same (sums_writes c.args.header.now f c.args.buf.now) held held now log log log' stopped.stays.0.held_is (read_writes _ _ stopped.cause.kept) (wrote-nothing (sums_writes c.args.header.now f c.args.buf.now) held log))

pub returns-in_err-payload-clause-cause : goal.returns-in_err-payload-clause-cause
returns-in_err-payload-clause-cause g c =
    let stop : Stop = c.in_err-payload.field-0.0 in
    let stopped : c.from_residual.result ≡ Err stop = search rules in
    subst (λ (r : Result (Unit {0}) Stop). AmendsStore (g.D.Source.tally c.args.store.now) (g.D.Source.tally c.sum_of.new.store) r) (sym stopped)
    (read-amends _ _ (Err stop) (record { kept = c.in_err-payload.ensures.cause.kept; ok = tt; stop = c.in_err-payload.ensures.cause.stop }))

-- ---- the cards

pub write_datasum-requires-clause-within : goal.write_datasum-requires-clause-within
write_datasum-requires-clause-within g c =
    let h = c.args.header.now in
    let long = header_long c.args.buf.now h c.requires.header in
    subst (λ (a : Option ℕ). HasAtLeast a (h.start + length c.args.buf.now)) (sym c.in_ok-payload.ensures.stays.0.attached_is) (at-least _ _ _ c.requires.within (omega (arith, long)))

pub write_datasum-requires-clause-near : goal.write_datasum-requires-clause-near
write_datasum-requires-clause-near g c = omega (arith, header_long c.args.buf.now c.args.header.now c.requires.header, c.requires.end)

pub write_checksum-requires-clause-within : goal.write_checksum-requires-clause-within
write_checksum-requires-clause-within g c =
    let h = c.args.header.now in
    let long = header_long c.args.buf.now h c.requires.header in
    let start : HasAtLeast (g.D.Source.attached c.sum_of.new.store) (h.start + length c.args.buf.now) =
    subst (λ (a : Option ℕ). HasAtLeast a (h.start + length c.args.buf.now)) (sym c.in_ok-payload.ensures.stays.0.attached_is) (at-least _ _ _ c.requires.within (omega (arith, long))) in
    subst (λ k. HasAtLeast (g.D.Source.attached c.write_datasum.new.store) (h.start + k)) (sym c.in_ok-write_datasum.ensures.len) (c.in_ok-write_datasum.ensures.reach _ start)

pub write_checksum-requires-clause-near : goal.write_checksum-requires-clause-near
write_checksum-requires-clause-near g c = omega (arith, header_long c.args.buf.now c.args.header.now c.requires.header, c.requires.end, c.in_ok-write_datasum.ensures.len)

pub write_checksum-requires-clause-header : goal.write_checksum-requires-clause-header
write_checksum-requires-clause-header g c = c.in_ok-write_datasum.ensures.len ∙ header_long c.args.buf.now c.args.header.now c.requires.header

pub write_checksum-requires-clause-few : goal.write_checksum-requires-clause-few
write_checksum-requires-clause-few g c =
    let blocks = c.requires.header.whole.blocks in
    omega (arith, c.in_ok-payload.ensures.few, c.next_start.ensures, c.data_start.ensures, c.requires.end, header_long c.args.buf.now c.args.header.now c.requires.header, blocks)

pub returns-in_err-write_datasum-clause-some : goal.returns-in_err-write_datasum-clause-some
returns-in_err-write_datasum-clause-some g c =
    let h = c.args.header.now in
    let held : Option (List ℕ) = g.D.Source.held c.args.store.now in
    let log : Option (List Amend) = (g.D.Source.tally c.args.store.now).amended.writes in
    let read = c.in_ok-payload.ensures in
    let log_same : (g.D.Source.tally c.sum_of.new.store).amended.writes ≡ log = read_writes _ _ read.cause.kept in
    if_some held _ (λ f is.
    let sum : c.in_ok-payload.payload ≡ after nothing 0 (hdu_of f h).payload =
    some_of held _ f is read.sum ∙ ap (after nothing 0) (data_between h f c.data_start.result c.next_start.result c.data_start.ensures c.next_start.ensures) in
    let value : c.value.result ≡ ones_sum (hdu_of f h).payload = c.value.ensures ∙ data_sum c.sum_law.ensures.whole (hdu_of f h).payload c.in_ok-payload.payload sum in
    sums_front h f c.args.buf.now c.told_sum-datasum.result c.value.result held (g.D.Source.held c.write_datasum.new.store) log (g.D.Source.tally c.write_datasum.new.store).amended.writes c.told_sum-datasum.ensures.place value
    (subst (λ (l : Option (List Amend)). WroteSome (datasum_write h c.told_sum-datasum.result c.value.result) held (g.D.Source.held c.write_datasum.new.store) l (g.D.Source.tally c.write_datasum.new.store).amended.writes) log_same (subst (λ (k : Option (List ℕ)). WroteSome (datasum_write h c.told_sum-datasum.result c.value.result) k (g.D.Source.held c.write_datasum.new.store) (g.D.Source.tally c.sum_of.new.store).amended.writes (g.D.Source.tally c.write_datasum.new.store).amended.writes) read.stays.0.held_is c.in_err-write_datasum.ensures.some)))

pub returns-in_err-write_datasum-clause-cause : goal.returns-in_err-write_datasum-clause-cause
returns-in_err-write_datasum-clause-cause g c =
    let stop : Stop = c.in_err-write_datasum.field-0.0 in
    let stopped : c.from_residual-in_err-write_datasum.result ≡ Err stop = search rules in
    let read = c.in_ok-payload.ensures.cause in
    let s = g.D.Source.tally c.args.store.now in
    let s' = g.D.Source.tally c.sum_of.new.store in
    let s'' = g.D.Source.tally c.write_datasum.new.store in
    subst (λ (r : Result (Unit {0}) Stop). AmendsStore s s'' r) (sym stopped) (amends-then s s' s'' (Err stop) (kept-read s s' read.kept) (same-is s s' read.ok) c.in_err-write_datasum.ensures.cause)

pub returns-in_err-write_checksum-clause-some : goal.returns-in_err-write_checksum-clause-some
returns-in_err-write_checksum-clause-some g c =
    let h = c.args.header.now in
    let held : Option (List ℕ) = g.D.Source.held c.args.store.now in
    let log : Option (List Amend) = (g.D.Source.tally c.args.store.now).amended.writes in
    let read = c.in_ok-payload.ensures in
    let one = c.in_ok-write_datasum.ensures in
    let log_same : (g.D.Source.tally c.sum_of.new.store).amended.writes ≡ log = read_writes _ _ read.cause.kept in
    let mid = c.write_datasum.new.store in
    let new = c.write_checksum.new.store in
    if_some held _ (λ f is.
    let sum : c.in_ok-payload.payload ≡ after nothing 0 (hdu_of f h).payload =
    some_of held _ f is read.sum ∙ ap (after nothing 0) (data_between h f c.data_start.result c.next_start.result c.data_start.ensures c.next_start.ensures) in
    let value : c.value.result ≡ ones_sum (hdu_of f h).payload = c.value.ensures ∙ data_sum c.sum_law.ensures.whole (hdu_of f h).payload c.in_ok-payload.payload sum in
    sums_back h f c.args.buf.now c.write_datasum.new.buf c.told_sum-datasum.result c.told_sum-checksum.result c.value.result held (g.D.Source.held mid) (g.D.Source.held new) log (g.D.Source.tally mid).amended.writes (g.D.Source.tally new).amended.writes
    c.told_sum-datasum.ensures.place c.told_sum-checksum.ensures.place value one.header
    (subst (λ (l : Option (List Amend)). Wrote (datasum_write h c.told_sum-datasum.result c.value.result) held (g.D.Source.held c.write_datasum.new.store) l (g.D.Source.tally c.write_datasum.new.store).amended.writes) log_same (subst (λ (k : Option (List ℕ)). Wrote (datasum_write h c.told_sum-datasum.result c.value.result) k (g.D.Source.held c.write_datasum.new.store) (g.D.Source.tally c.sum_of.new.store).amended.writes (g.D.Source.tally c.write_datasum.new.store).amended.writes) read.stays.0.held_is one.wrote))
    (c.in_err-write_checksum.ensures.some (hdu_of f h).payload sum))

pub returns-in_err-write_checksum-clause-cause : goal.returns-in_err-write_checksum-clause-cause
returns-in_err-write_checksum-clause-cause g c =
    let stop : Stop = c.in_err-write_checksum.field-0.0 in
    let stopped : c.from_residual-in_err-write_checksum.result ≡ Err stop = search rules in
    let read = c.in_ok-payload.ensures.cause in
    let one = c.in_ok-write_datasum.ensures.cause in
    let s = g.D.Source.tally c.args.store.now in
    let s' = g.D.Source.tally c.sum_of.new.store in
    let s'' = g.D.Source.tally c.write_datasum.new.store in
    let now = g.D.Source.tally c.write_checksum.new.store in
    subst (λ (r : Result (Unit {0}) Stop). AmendsStore s now r) (sym stopped)
    (amends-then s s'' now (Err stop) (kept-then s s' s'' (kept-read s s' read.kept) one.kept) (same-then s s' s'' (same-is s s' read.ok) one.ok) c.in_err-write_checksum.ensures.cause)

pub settle-requires : goal.settle-requires
settle-requires g c =
    let end : ℕ = next_start_of c.args.header.now in
    let read : HasAtLeast (g.D.Source.attached c.sum_of.new.store) end = subst (λ (a : Option ℕ). HasAtLeast a end) (sym c.in_ok-payload.ensures.stays.0.attached_is) c.requires.within in
    let has : HasAtLeast (g.D.Source.attached c.write_checksum.new.store) end = c.in_ok-write_checksum.ensures.reach end (c.in_ok-write_datasum.ensures.reach end read) in
    ap is_some has.1

-- ---- the end

pub returns-clause-wrote : goal.returns-clause-wrote
returns-clause-wrote g c =
    let h = c.args.header.now in
    let held : Option (List ℕ) = g.D.Source.held c.args.store.now in
    let log : Option (List Amend) = (g.D.Source.tally c.args.store.now).amended.writes in
    let read = c.in_ok-payload.ensures in
    let one = c.in_ok-write_datasum.ensures in
    let log_same : (g.D.Source.tally c.sum_of.new.store).amended.writes ≡ log = read_writes _ _ read.cause.kept in
    let mid = c.write_datasum.new.store in
    let new = c.write_checksum.new.store in
    let end = c.settle.new.store in
    on_ok_weaker c.settle.result
    (λ same. if_some held _ (λ f is.
    let sum : c.in_ok-payload.payload ≡ after nothing 0 (hdu_of f h).payload =
    some_of held _ f is read.sum ∙ ap (after nothing 0) (data_between h f c.data_start.result c.next_start.result c.data_start.ensures c.next_start.ensures) in
    let value : c.value.result ≡ ones_sum (hdu_of f h).payload = c.value.ensures ∙ data_sum c.sum_law.ensures.whole (hdu_of f h).payload c.in_ok-payload.payload sum in
    wrote_same (sums_writes h f c.args.buf.now) held (g.D.Source.held new) (g.D.Source.held end) log (g.D.Source.tally new).amended.writes (g.D.Source.tally end).amended.writes c.settle.ensures.store.held_is
    (settled_writes (g.D.Source.tally new) (g.D.Source.tally end) c.settle.result c.settle.ensures.cause)
    (sums_wrote h f c.args.buf.now c.write_datasum.new.buf c.told_sum-datasum.result c.told_sum-checksum.result c.value.result held (g.D.Source.held mid) (g.D.Source.held new) log (g.D.Source.tally mid).amended.writes (g.D.Source.tally new).amended.writes
    c.told_sum-datasum.ensures.place c.told_sum-checksum.ensures.place value one.header
    (subst (λ (l : Option (List Amend)). Wrote (datasum_write h c.told_sum-datasum.result c.value.result) held (g.D.Source.held c.write_datasum.new.store) l (g.D.Source.tally c.write_datasum.new.store).amended.writes) log_same (subst (λ (k : Option (List ℕ)). Wrote (datasum_write h c.told_sum-datasum.result c.value.result) k (g.D.Source.held c.write_datasum.new.store) (g.D.Source.tally c.sum_of.new.store).amended.writes (g.D.Source.tally c.write_datasum.new.store).amended.writes) read.stays.0.held_is one.wrote))
    (c.in_ok-write_checksum.ensures.wrote (hdu_of f h).payload sum)))) c.settle.ensures.cause.ok

pub returns-clause-some : goal.returns-clause-some
returns-clause-some g c =
    let h = c.args.header.now in
    let held : Option (List ℕ) = g.D.Source.held c.args.store.now in
    let log : Option (List Amend) = (g.D.Source.tally c.args.store.now).amended.writes in
    let read = c.in_ok-payload.ensures in
    let one = c.in_ok-write_datasum.ensures in
    let log_same : (g.D.Source.tally c.sum_of.new.store).amended.writes ≡ log = read_writes _ _ read.cause.kept in
    let mid = c.write_datasum.new.store in
    let new = c.write_checksum.new.store in
    let end = c.settle.new.store in
    if_some held _ (λ f is.
    let sum : c.in_ok-payload.payload ≡ after nothing 0 (hdu_of f h).payload =
    some_of held _ f is read.sum ∙ ap (after nothing 0) (data_between h f c.data_start.result c.next_start.result c.data_start.ensures c.next_start.ensures) in
    let value : c.value.result ≡ ones_sum (hdu_of f h).payload = c.value.ensures ∙ data_sum c.sum_law.ensures.whole (hdu_of f h).payload c.in_ok-payload.payload sum in
    some_same (sums_writes h f c.args.buf.now) held (g.D.Source.held new) (g.D.Source.held end) log (g.D.Source.tally new).amended.writes (g.D.Source.tally end).amended.writes c.settle.ensures.store.held_is
    (settled_writes (g.D.Source.tally new) (g.D.Source.tally end) c.settle.result c.settle.ensures.cause)
    (wrote-all _ _ _ _ _ (sums_wrote h f c.args.buf.now c.write_datasum.new.buf c.told_sum-datasum.result c.told_sum-checksum.result c.value.result held (g.D.Source.held mid) (g.D.Source.held new) log (g.D.Source.tally mid).amended.writes (g.D.Source.tally new).amended.writes
    c.told_sum-datasum.ensures.place c.told_sum-checksum.ensures.place value one.header
    (subst (λ (l : Option (List Amend)). Wrote (datasum_write h c.told_sum-datasum.result c.value.result) held (g.D.Source.held c.write_datasum.new.store) l (g.D.Source.tally c.write_datasum.new.store).amended.writes) log_same (subst (λ (k : Option (List ℕ)). Wrote (datasum_write h c.told_sum-datasum.result c.value.result) k (g.D.Source.held c.write_datasum.new.store) (g.D.Source.tally c.sum_of.new.store).amended.writes (g.D.Source.tally c.write_datasum.new.store).amended.writes) read.stays.0.held_is one.wrote))
    (c.in_ok-write_checksum.ensures.wrote (hdu_of f h).payload sum))))

pub returns-clause-cause : goal.returns-clause-cause
returns-clause-cause g c =
    let read = c.in_ok-payload.ensures.cause in
    let one = c.in_ok-write_datasum.ensures.cause in
    let two = c.in_ok-write_checksum.ensures.cause in
    let s = g.D.Source.tally c.args.store.now in
    let s' = g.D.Source.tally c.sum_of.new.store in
    let s'' = g.D.Source.tally c.write_datasum.new.store in
    let new = g.D.Source.tally c.write_checksum.new.store in
    let end = g.D.Source.tally c.settle.new.store in
    amends-then s new end c.settle.result (kept-then s s'' new (kept-then s s' s'' (kept-read s s' read.kept) one.kept) two.kept) (same-then s s'' new (same-then s s' s'' (same-is s s' read.ok) one.ok) two.ok)
    (settled-amends new end c.settle.result c.settle.ensures.cause)

pub returns-clause-reach : goal.returns-clause-reach
returns-clause-reach g c =
    reach-then _ _ _ (reach-is _ _ c.in_ok-payload.ensures.stays.0.attached_is) (reach-then _ _ _ c.in_ok-write_datasum.ensures.reach (reach-then _ _ _ c.in_ok-write_checksum.ensures.reach (reach-is _ _ c.settle.ensures.store.attached_is)))

pub returns-clause-settled : goal.returns-clause-settled
returns-clause-settled g c = on_ok_weaker c.settle.result (λ all before. all) (all_settled _ _ c.settle.result c.settle.ensures.cause)
