-- Bytes of a heap that are held back, with those of more tiles, and with none.
use Rattle.std.proofs.Common.{◌≡◌, ℕ, ◌-◌, List, take, Option, ap, ◌∙◌}
use Rattle.fz_base.specs.Sink.{written}
use Rattle.fz_job.specs.Held.{caught_up}
use Rattle.fz_pack.proofs.Progresses.{no_write}

-- with none that are held back
pub none_held : (end n : ℕ) (held : List ℕ) (contents : Option (List ℕ)) → n ≡ 0 → caught_up end n held contents ≡ contents
none_held end n held contents none =
    ap (λ k. written (end - k) (take k held) contents) none ∙ no_write (end - 0) contents
