-- The bounds of both meters, and that `retile` answers where its limits are at least its bounds.
use Rattle.std.proofs.Common.{◌≡◌, ℕ, ◌+◌, ◌≤◌, List, refl, sym, ap, ◌∙◌, subst, arith}
use Rattle.std.specs.Prelude.{max, Option, Some, None, IfSome, Result, Ok, Err, OnOk}
use Rattle.fz_base.specs.Counts.{Rose, Tally}
use Rattle.fz_base.specs.Stop.{TellsLimit}
use Rattle.fz_base.specs.Takings.{PastWithinLaw, TellsFirstPast, highest}
use Rattle.fz_base.specs.declared.failure.Failed.{Failed}
use Rattle.fz_base.specs.declared.failure.Failed.TheVariants.{Fault as IsFault}
use Rattle.fz_base.specs.declared.fault.Fault.{Fault}
use Rattle.fz_base.specs.declared.failure.Stop.{Stop}
use Rattle.fz_base.specs.declared.failure.Stop.TheVariants.{Refused, ReadFault, WriteFault, OverLimit, NoMemory}
use Rattle.fz_head.specs.declared.options.PackOptions.{PackOptions}
use Rattle.fz_files.specs.Buffers.{AreBounded, file_takings, job_bound, job_takings, largest_behind, largest_plain, longest_plain, longest_reached, own_takings, packing_bound, plain_takings}
use Rattle.fz_files.specs.Laws.{BoundRises}
use Rattle.fz_files.specs.RestoredFile.{restored}
use Rattle.fz_files.specs.Retiled.{plain_of}
use Rattle.fz_files.specs.declared.job.Job.TheVariants.{Pack, Retile, Unpack}
use Rattle.fz_job.specs.Clauses.{IsAnswer, greatest_bound}
use Rattle.fz_retile.specs.Views.{restored_from, together}
use Rattle.fz_retile.specs.Retiles.{settled_of}
use Rattle.fz_retile.proofs.Settling.{IsAccepted, answer, rose_in}

module _ (rises : BoundRises) (o : PackOptions) (W : ℕ) where
  -- the bound of `pack` on the file that is packed anew
  within_packing : (g : List ℕ) (u : Option (List ℕ)) → plain_of g ≡ u → IfSome u (λ plain. job_bound (Pack o) plain W ≤ packing_bound o g W)
  within_packing g None is = tt
  within_packing g (Some plain) is =
      let long : longest_plain o (plain_of g) ≡ longest_reached (Pack o) plain = ap (longest_plain o) is in
      let large : largest_plain o (plain_of g) ≡ largest_behind (Pack o) plain = ap (largest_plain o) is in
      rises (longest_reached (Pack o) plain) (max (longest_reached Unpack g) (longest_plain o (plain_of g))) (largest_behind (Pack o) plain) (largest_plain o (plain_of g)) W W
      (omega (arith, long)) (omega (arith, large)) (omega arith)

  peak_by : (g : List ℕ) (u : Option (List ℕ)) (old new : ℕ) → plain_of g ≡ u → u ≡ Some (restored g) → IfSome u (λ plain. new ≤ max old (job_bound (Pack o) plain W)) → new ≤ max old (packing_bound o g W)
  peak_by g None old new is some peak = absurd cc
  peak_by g (Some plain) old new is some peak = let within = within_packing g (Some plain) is in omega (arith, peak, within)

  pub packing_peak : (held : Option (List ℕ)) (old new : ℕ) → IfSome held IsAccepted → IfSome (restored_from held) (λ plain. new ≤ max old (job_bound (Pack o) plain W)) → IfSome held (λ g. new ≤ max old (packing_bound o g W))
  packing_peak None old new accepted peak = tt
  packing_peak (Some g) old new accepted peak = peak_by g (plain_of g) old new refl accepted.1 peak

  answer_by : (g : List ℕ) (u : Option (List ℕ)) (limit : ℕ) (r : Result (Unit {0}) Stop) → plain_of g ≡ u → u ≡ Some (restored g) → IfSome u (λ plain. job_bound (Pack o) plain W ≤ limit → IsAnswer r) → packing_bound o g W ≤ limit → IsAnswer r
  answer_by g None limit r is some answers enough = absurd cc
  answer_by g (Some plain) limit r is some answers enough = let within = within_packing g (Some plain) is in answers (omega (arith, within, enough))

  -- if no count of faults rose, and the limit is at least the bound
  pub answers_settled : (source source' sink sink' : Tally) (more view_limit limit : ℕ) (held : Option (List ℕ)) (r : Result (Unit {0}) Stop) (failed : Option Failed) (later : Option Fault) → IfSome held IsAccepted →
      IfSome held (λ g. more ≡ 0) → (failed ≡ Some IsFault → Rose source.faults source'.faults) →
      (¬ Rose (together source.faults 0) (together source'.faults more) → ¬ Rose sink.faults sink'.faults → IfSome (restored_from held) (λ plain. job_bound (Pack o) plain W ≤ limit → IsAnswer r)) →
      ¬ Rose source.faults source'.faults → ¬ Rose sink.faults sink'.faults →
      IfSome held (λ g. job_bound Unpack g W ≤ view_limit → packing_bound o g W ≤ limit → IsAnswer (settled_of r failed later))
  answers_settled source source' sink sink' more view_limit limit None r failed later accepted own rose answers still quiet = tt
  answers_settled source source' sink sink' more view_limit limit (Some g) r failed later accepted own rose answers still quiet = λ enough_view enough.
      answer source source' sink sink' more r failed later rose still
      (answer_by g (plain_of g) limit r refl accepted.1 (answers (λ risen. still (rose_in source.faults source'.faults more own risen)) quiet) enough)

-- the peak is exactly that of `pack`
exact_by : (o : PackOptions) (W : ℕ) (g : List ℕ) (old new : ℕ) → plain_of g ≡ Some (restored g) → IfSome (plain_of g) (λ u. new ≡ max old (highest (job_takings (Pack o) u W))) → new ≡ max old (highest (own_takings (Retile o) g W))
exact_by o W g old new is exact =
    subst (λ (p : Option (List ℕ)). IfSome p (λ u. new ≡ max old (highest (job_takings (Pack o) u W)))) is exact ∙ sym (ap (λ (p : Option (List ℕ)). max old (highest (plain_takings o p W))) is)

pub exact_held : (o : PackOptions) (W : ℕ) (held : Option (List ℕ)) (old new : ℕ) (r : Result (Unit {0}) Stop) → IfSome held IsAccepted → OnOk r (IfSome (restored_from held) (λ u. new ≡ max old (highest (job_takings (Pack o) u W)))) →
    OnOk r (IfSome held (λ g. new ≡ max old (highest (own_takings (Retile o) g W))))
exact_held o W None old new (Ok x) accepted exact = tt
exact_held o W (Some g) old new (Ok x) accepted exact = exact_by o W g old new accepted.1 exact
exact_held o W held old new (Err stop) accepted exact = tt

-- the same of a look that stopped
look_answer : (X : Type 0) (past : PastWithinLaw) (bounded : AreBounded) (W limit : ℕ) (g : List ℕ) (stop : Stop) → TellsLimit {X = X} limit (greatest_bound Unpack W) (Err stop) → TellsFirstPast {X = X} limit (file_takings Unpack g W) (Err stop) →
    ¬ (stop ≡ ReadFault) → ¬ (stop ≡ WriteFault) → job_bound Unpack g W ≤ limit → IsAnswer {X = Unit {0}} (Err stop)
look_answer X past bounded W limit g (Refused x) tells first unread unwritten enough = tt
look_answer X past bounded W limit g ReadFault tells first unread unwritten enough = unread refl
look_answer X past bounded W limit g WriteFault tells first unread unwritten enough = unwritten refl
look_answer X past bounded W limit g (OverLimit live asked t) tells first unread unwritten enough =
    let within : live + asked ≤ job_bound Unpack g W = past limit (job_bound Unpack g W) (file_takings Unpack g W) (live, asked) (bounded Unpack g W tt) first in
    absurd (omega (arith, within, tells.1, enough))
look_answer X past bounded W limit g NoMemory tells first unread unwritten enough = tt

pub look_answers : (X : Type 0) (past : PastWithinLaw) (bounded : AreBounded) (o : PackOptions) (W view_limit limit : ℕ) (held : Option (List ℕ)) (stop : Stop) → TellsLimit {X = X} view_limit (greatest_bound Unpack W) (Err stop) →
    IfSome held (λ g. TellsFirstPast {X = X} view_limit (file_takings Unpack g W) (Err stop)) → ¬ (stop ≡ ReadFault) → ¬ (stop ≡ WriteFault) →
    IfSome held (λ g. job_bound Unpack g W ≤ view_limit → packing_bound o g W ≤ limit → IsAnswer {X = Unit {0}} (Err stop))
look_answers X past bounded o W view_limit limit None stop tells first unread unwritten = tt
look_answers X past bounded o W view_limit limit (Some g) stop tells first unread unwritten = λ enough_view enough. look_answer X past bounded W view_limit g stop tells first unread unwritten enough_view
