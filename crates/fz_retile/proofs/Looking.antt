-- What `retile` promises if the look at the packed file stopped: nothing was made.
use Rattle.std.proofs.Common.{◌≡◌, ℕ, ◌≤◌, List, [], refl, sym, ap, ◌∙◌, subst, inl, arith}
use Rattle.std.specs.Prelude.{◌⊎◌, max, Option, Some, None, IfSome, Result, Ok, Err, IsErrOf}
use Rattle.fz_base.specs.Counts.{Tally}
use Rattle.fz_base.specs.Meter.{Gauge, handed_back}
use Rattle.fz_base.specs.Ranges.{LogsIn}
use Rattle.fz_base.specs.Stop.{IfRefused, IsRefused, TellsLimit}
use Rattle.fz_base.specs.Takings.{PastWithinLaw, TellsFirstPast}
use Rattle.fz_base.specs.declared.fault.Fault.{Fault}
use Rattle.fz_base.specs.declared.failure.Stop.{Stop}
use Rattle.fz_base.specs.declared.failure.Stop.TheVariants.{Refused, ReadFault, WriteFault, OverLimit, NoMemory}
use Rattle.fz_head.specs.declared.options.PackOptions.{PackOptions}
use Rattle.fz_files.specs.Buffers.{AreBounded, file_takings, job_bound}
use Rattle.fz_files.specs.FirstFault.{IsFirstFault}
use Rattle.fz_files.specs.Retiled.{plain_of}
use Rattle.fz_files.specs.Touched.{touched_by}
use Rattle.fz_files.specs.declared.job.Job.TheVariants.{Retile, Unpack}
use Rattle.fz_laws.specs.RoundTrip.{HasNoOtherFault}
use Rattle.fz_job.specs.Clauses.{ComesLate, IfOverLimit, TellsFirstFault, greatest_bound}
use Rattle.fz_pool.specs.Window.{Pool}
use Rattle.fz_look.specs.Looked.{IsLookFault, buffers_of}
use Rattle.fz_look.specs.Looks.{HasLookCause, KeepsLookBuffers}
use Rattle.fz_look.specs.declared.looked.Looked.{Looked}
use Rattle.fz_retile.specs.Retiles.{AnswersBoth, HasRetileCause, KeepsPacking, KeepsView, StaysUnmadeBoth, TellsFirstOfBoth, first_past_of}
use Rattle.fz_retile.proofs.Bounds.{look_answers}
use Rattle.fz_retile.proofs.Faults.{look_refused, nothing_anew}
use Rattle.fz_retile.proofs.Limits.{either_look, look_past}
use Rattle.fz_retile.proofs.SameAsUnpack.{same_touched}

-- the same answer of another call
stopped_so : {X Y : Type 0} (stop other : Stop) → IsErrOf {T = X} (Err stop) other → IsErrOf {T = Y} (Err stop) other
stopped_so {X} {Y} stop other is = ap (λ (s : Stop). Err s) (same_error stop other is)
  where
    same_error : (a b : Stop) → ◌≡◌ {A = Result X Stop} (Err a) (Err b) → a ≡ b
    same_error a b e = cc

refused_so : {X Y : Type 0} (stop : Stop) → IsRefused {X = X} (Err stop) → IsRefused {X = Y} (Err stop)
refused_so stop is = (is.0, stopped_so stop (Refused is.0) is.1)

fault_held : (o : PackOptions) (held : Option (List ℕ)) (x : Fault) → IfSome held (λ g. IsLookFault g x) → IfSome held (λ g. IsFirstFault (Retile o) g (Some x))
fault_held o None x is = tt
fault_held o (Some g) x is = look_refused o g x is

pub look_fault : (o : PackOptions) (held : Option (List ℕ)) (stop : Stop) → IfRefused {X = Looked} (Err stop) (λ x. IfSome held (λ g. IsLookFault g x)) → TellsFirstFault {X = Unit {0}} (Retile o) held (Err stop)
look_fault o held (Refused x) is = fault_held o held x is
look_fault o held ReadFault is = tt
look_fault o held WriteFault is = tt
look_fault o held (OverLimit live asked limit) is = tt
look_fault o held NoMemory is = tt

-- of a file that the look refuses nothing is packed anew
none_anew : HasNoOtherFault → (g : List ℕ) (stop : Stop) → IfRefused {X = Looked} (Err stop) (λ x. IsLookFault g x) → (x : Fault) → stop ≡ Refused x → plain_of g ≡ None
none_anew only g (Refused y) is x e = nothing_anew only g y is
none_anew only g ReadFault is x e = absurd cc
none_anew only g WriteFault is x e = absurd cc
none_anew only g (OverLimit live asked limit) is x e = absurd cc
none_anew only g NoMemory is x e = absurd cc

with_held : (g : List ℕ) (stop : Stop) → IfRefused {X = Looked} (Err stop) (λ x. IfSome (Some g) (λ file. IsLookFault file x)) → IfRefused {X = Looked} (Err stop) (λ x. IsLookFault g x)
with_held g (Refused x) is = is
with_held g ReadFault is = tt
with_held g WriteFault is = tt
with_held g (OverLimit live asked limit) is = tt
with_held g NoMemory is = tt

past_held : HasNoOtherFault → (o : PackOptions) (W view_limit limit : ℕ) (held : Option (List ℕ)) (stop : Stop) → TellsLimit {X = Looked} view_limit (greatest_bound Unpack W) (Err stop) →
    IfSome held (λ g. TellsFirstPast {X = Looked} view_limit (file_takings Unpack g W) (Err stop)) → (IsErrOf {T = Looked} (Err stop) WriteFault → ⊥) → IfRefused {X = Looked} (Err stop) (λ x. IfSome held (λ g. IsLookFault g x)) →
    IfSome held (λ g. TellsFirstOfBoth (first_past_of o g W view_limit limit) (Err stop))
past_held only o W view_limit limit None stop tells first unwritten fault = tt
past_held only o W view_limit limit (Some g) stop tells first unwritten fault =
    look_past o W view_limit limit Looked g stop tells first (λ e unit. absurd (unwritten (stopped_so stop WriteFault e))) (none_anew only g stop (with_held g stop fault))

pub look_cause : HasNoOtherFault → (o : PackOptions) (held : Option (List ℕ)) (source source' sink : Tally) (view_limit limit W : ℕ) (stop : Stop) →
    HasLookCause held source source' view_limit W (Err stop) → IfRefused {X = Looked} (Err stop) (λ x. IfSome held (λ g. IsLookFault g x)) →
    HasRetileCause o held source source' sink sink view_limit limit W (Err stop)
look_cause only o held source source' sink view_limit limit W stop c fault = record {
  done = tt;
  refused = λ is. (c.refused (refused_so stop is), refl);
  read_fault = λ is. c.read_fault (stopped_so stop ReadFault is);
  write_fault = λ is. absurd (c.no_write_fault (stopped_so stop WriteFault is));
  over_limit = either_look Looked view_limit limit (greatest_bound (Retile o) W) stop c.over_limit;
  first_past = past_held only o W view_limit limit held stop c.over_limit c.first_past c.no_write_fault fault;
  block = λ low. (stopped_so stop (OverLimit 0 2880 view_limit) (c.block low).0, (c.block low).1, refl);
}

pub look_answered : PastWithinLaw → AreBounded → (o : PackOptions) (held : Option (List ℕ)) (source source' sink : Tally) (view_limit limit W : ℕ) (stop : Stop) →
    HasLookCause held source source' view_limit W (Err stop) → AnswersBoth o held source source' sink sink view_limit limit W (Err stop)
look_answered past bounded o held source source' sink view_limit limit W stop c = λ still quiet.
    look_answers Looked past bounded o W view_limit limit held stop c.over_limit c.first_past (λ e. still (c.read_fault (ap (λ (s : Stop). Err s) e))) (λ e. c.no_write_fault (ap (λ (s : Stop). Err s) e))

-- ---- what is left

always_held : (held : Option (List ℕ)) (P : List ℕ → Type 0) → ((g : List ℕ) → P g) → IfSome held P
always_held None P f = tt
always_held (Some g) P f = f g

over_same : (Same : Type 0) (stop : Stop) → Same → IfOverLimit {X = Unit {0}} (Err stop) Same
over_same Same (Refused x) is = tt
over_same Same ReadFault is = tt
over_same Same WriteFault is = tt
over_same Same (OverLimit live asked limit) is = is
over_same Same NoMemory is = tt

refused_same : (o : PackOptions) (Same : Type 0) (stop : Stop) → Same → IfRefused {X = Unit {0}} (Err stop) (λ x. Same ⊎ ComesLate (Retile o) x)
refused_same o Same (Refused x) is = inl is
refused_same o Same ReadFault is = tt
refused_same o Same WriteFault is = tt
refused_same o Same (OverLimit live asked limit) is = tt
refused_same o Same NoMemory is = tt

pub look_unmade : (o : PackOptions) (held : Option (List ℕ)) (view_limit limit W : ℕ) (Same : Type 0) (stop : Stop) → Same → StaysUnmadeBoth o held view_limit limit W Same (Err stop)
look_unmade o held view_limit limit W Same stop is = record {
  faulty = always_held held _ (λ g fault. is);
  past = always_held held _ (λ g past. is);
  over_limit = over_same Same stop is;
  refused = refused_same o Same stop is;
}

pub look_packing : (o : PackOptions) (held : Option (List ℕ)) (meter : Gauge) (window window' : Pool) → meter.live ≡ 0 → window' ≡ record { slots = []; workers = window.workers } → KeepsPacking o held meter meter window window'
look_packing o held meter window window' none emptied = record {
  live = none;
  limit = refl;
  peak = always_held held _ (λ g. omega arith);
  most = omega arith;
  window_is = emptied;
}

pub look_view : (held : Option (List ℕ)) (old new : Gauge) (window window' : Pool) (stop : Stop) → KeepsLookBuffers held old new window window' (Err stop) → KeepsView held old new window.workers
look_view held old new window window' stop k = record { live = k.live; limit = k.limit; peak = k.peak; most = k.most }

-- the buffers of the look were handed back
pub view_closed : (held : Option (List ℕ)) (old mid new : Gauge) (window window' : Pool) (l : Looked) (bytes : ℕ) → KeepsLookBuffers held old mid window window' (Ok l) → bytes ≡ buffers_of l.space → new ≡ handed_back mid bytes → KeepsView held old new window.workers
view_closed held old mid new window window' l bytes k same closed = record {
  live = ap (λ (m : Gauge). m.live) closed ∙ omega (arith, k.live, same);
  limit = ap (λ (m : Gauge). m.limit) closed ∙ k.limit;
  peak = subst (λ (m : Gauge). IfSome held (λ g. m.peak ≤ max old.peak (job_bound Unpack g window.workers))) (sym closed) k.peak;
  most = subst (λ (m : Gauge). m.peak ≤ max old.peak (greatest_bound Unpack window.workers)) (sym closed) k.most;
}

-- what the look and the view read is what a retile may
pub touched_so : (o : PackOptions) (held : Option (List ℕ)) (old new : Option (List (ℕ × ℕ))) → IfSome held (λ g. LogsIn (touched_by Unpack g) old new) → IfSome held (λ g. LogsIn (touched_by (Retile o) g) old new)
touched_so o None old new is = tt
touched_so o (Some g) old new is = subst (λ (ranges : List (ℕ × ℕ)). LogsIn ranges old new) (sym (same_touched o g)) is
