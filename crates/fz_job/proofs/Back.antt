-- What the work took it holds, and hands back.
use Rattle.std.proofs.Common.{◌≡◌, ℕ, ◌+◌, ◌-◌, max, ap, ◌∙◌, sym, sum, arith}
use Rattle.fz_base.specs.Meter.{Gauge, handed_back, taken}
use Rattle.fz_pool.specs.Window.{Pool, slot_sizes, WindowStays}
use Rattle.fz_job.specs.Workspace.{HasLengths, HoldsWhatItTook, SpaceStays, held_bytes, slots_for, wanted_buffers, window_for}
use Rattle.fz_job.specs.declared.workspace.Wants.{Wants}
use Rattle.fz_job.specs.declared.workspace.Workspace.{Workspace}

pub still_held : HoldsWhatItTook → (wants : Wants) (w w' : Workspace) (W : ℕ) (pool pool' : Pool) → HasLengths wants w → SpaceStays w w' → pool ≡ window_for W wants.tile → WindowStays pool pool' →
    held_bytes w' pool' ≡ sum (wanted_buffers wants W)
still_held holds wants w w' W pool pool' lengths space is window =
    let workers : pool'.workers ≡ W = window.workers ∙ ap (λ (p : Pool). p.workers) is in
    let lengths' : HasLengths wants w' =
    record {
      header = space.header ∙ lengths.header;
      translated = space.translated ∙ lengths.translated;
      copy = space.copy ∙ lengths.copy;
    } in
    let sizes : slot_sizes pool'.slots ≡ slot_sizes (slots_for pool'.workers wants.tile) =
    window.sizes ∙ ap (λ (p : Pool). slot_sizes p.slots) is ∙ ap (λ n. slot_sizes (slots_for n wants.tile)) (sym workers) in
    holds wants w' pool' lengths' sizes ∙ ap (λ n. sum (wanted_buffers wants n)) workers

pub meter_back : (old mid new : Gauge) (total bytes : ℕ) → mid ≡ taken old total → bytes ≡ total → new ≡ handed_back mid bytes → (new.live ≡ old.live) × (new.limit ≡ old.limit) × (new.peak ≡ max old.peak (old.live + total))
meter_back old mid new total bytes took same gave =
    let live : mid.live ≡ old.live + total = ap (λ (g : Gauge). g.live) took in
    let less : new.live ≡ mid.live - bytes = ap (λ (g : Gauge). g.live) gave in
    let peak : mid.peak ≡ max old.peak (old.live + total) = ap (λ (g : Gauge). g.peak) took in
    let last : new.peak ≡ mid.peak = ap (λ (g : Gauge). g.peak) gave in
    (omega (arith, live, less, same), ap (λ (g : Gauge). g.limit) gave ∙ ap (λ (g : Gauge). g.limit) took, last ∙ peak)
