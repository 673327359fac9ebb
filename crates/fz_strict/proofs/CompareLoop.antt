-- The HDUs that were compared so far, where the source tells its bytes, and one more.
use Rattle.std.specs.Prelude.{is_some}
use Rattle.std.proofs.Common.{◌≡◌, ℕ, ◌+◌, ◌<◌, ◌≤◌, Bool, false, List, [], ◌∷◌, ◌++◌, Option, Some, None, IfSome, Ok, Err, refl, sym, ◌∙◌, subst, arith}
use Rattle.std.proofs.lemmas.List.{append_assoc}
use Rattle.std.specs.List.{AllByRecursion}
use Rattle.fz_base.specs.Source.{HoldsLength, HoldsOctets}
use Rattle.fz_base.specs.Stop.{IfRefused}
use Rattle.fz_base.specs.declared.fault.Fault.{Fault}
use Rattle.fz_base.specs.declared.failure.Stop.{Stop}
use Rattle.fz_base.specs.declared.failure.Stop.TheVariants.{Refused, ReadFault, WriteFault, OverLimit, NoMemory}
use Rattle.fz_block.specs.Header.{next_start_of}
use Rattle.fz_block.specs.declared.header.Header.{Header}
use Rattle.fz_files.specs.FirstFault.{IsFirstFault, IsFirstRowFault, all_rows}
use Rattle.fz_files.specs.declared.job.Job.TheVariants.{Unpack}
use Rattle.fz_head.specs.Planned.{AreOptions}
use Rattle.fz_head.specs.declared.options.PackOptions.{PackOptions}
use Rattle.fz_laws.specs.RoundTrip.{HasRestoredFile, RestoredAreBytes}
use Rattle.fz_job.specs.declared.survey.Survey.{Survey}
use Rattle.fz_job.specs.Again.{ReadsAsSeen, WereSeen, is_empty_primary}
use Rattle.fz_job.specs.Known.{IsKnown}
use Rattle.fz_job.specs.declared.again.ReadHdu.{ReadHdu}
use Rattle.fz_strict.specs.Laws.{HdusAreDecided, HdusStandForOne}
use Rattle.fz_strict.specs.Origins.{IsOrigin, no_origin}
use Rattle.fz_strict.specs.Rows.{ComparesSeen, IsCompared, IsHduFault, IsHduSound}
use Rattle.fz_strict.specs.SameHdus.{IsDecided, StandsForOne}
use Rattle.fz_strict.specs.SameImages.{ComparesHdu}
use Rattle.fz_strict.specs.declared.origin.Origin.{Origin}
use Rattle.fz_strict.proofs.Known.{HasArray, IsAllKnown, PrimariesAreSecond, all_at, all_front, all_known, is_sound}
use Rattle.fz_strict.proofs.Parts.{IsPart, all_by_count, all_by_end, never_refused, none_done, one_done}
use Rattle.fz_strict.proofs.Said.{fault_among, sound_joined}
use Rattle.fz_strict.proofs.SoFar.{IsSoFarAs, all_same, none_so_far, step}

-- those that are done have no fault, and are what `pack` makes of some HDUs, or are not
pub record AreCompared (o : PackOptions) (file : List ℕ) (s : Survey) (hs : List Header) (k start : ℕ) (after_empty : Bool) (origin : Option Origin) : Type 0 where
  pub done : List Header
  pub part : IsPart file s hs done k start after_empty
  pub sound : IsFirstRowFault file (all_rows file done) None
  pub same : IsAllKnown o file hs → IsSoFarAs o file done origin

abbrev pub IsComparing : PackOptions → Survey → ℕ → ℕ → Bool → Option Origin → List ℕ → Type 0
IsComparing o s k start after_empty origin file = (known : IsKnown Unpack file s) → AreCompared o file s known.headers k start after_empty origin

-- what is taken of the laws
pub record CompareLaws : Type 0 where
  pub one : HdusStandForOne
  pub decided : HdusAreDecided
  pub bytes : RestoredAreBytes
  pub restored : HasRestoredFile
  pub primary : PrimariesAreSecond

-- an error that refuses nothing
stops_by : (X : Type 0) (o : PackOptions) (file : List ℕ) (hs : List Header) (stop : Stop) → IfRefused {X = X} (Err stop) (λ x. ⊥) → IsCompared o file hs (Err stop)
stops_by X o file hs (Refused x) never = absurd never
stops_by X o file hs ReadFault never = tt
stops_by X o file hs WriteFault never = tt
stops_by X o file hs (OverLimit live asked limit) never = tt
stops_by X o file hs NoMemory never = tt

-- or that tells the first fault
stops_at : (X : Type 0) (o : PackOptions) (file : List ℕ) (hs : List Header) (stop : Stop) → IfRefused {X = X} (Err stop) (λ x. IsFirstRowFault file (all_rows file hs) (Some x)) → IsCompared o file hs (Err stop)
stops_at X o file hs (Refused x) fault = fault
stops_at X o file hs ReadFault fault = tt
stops_at X o file hs WriteFault fault = tt
stops_at X o file hs (OverLimit live asked limit) fault = tt
stops_at X o file hs NoMemory fault = tt

weaker : (X Y : Type 0) (P Q : Fault → Type 0) (stop : Stop) → ((x : Fault) → P x → Q x) → IfRefused {X = X} (Err stop) P → IfRefused {X = Y} (Err stop) Q
weaker X Y P Q (Refused x) f p = f x p
weaker X Y P Q ReadFault f p = tt
weaker X Y P Q WriteFault f p = tt
weaker X Y P Q (OverLimit live asked limit) f p = tt
weaker X Y P Q NoMemory f p = tt

origin_few : (origin : Option Origin) → IfSome origin IsOrigin → (w : Origin) → origin ≡ Some w → w.hdus ≤ 65535
origin_few None is w e = absurd cc
origin_few (Some v) is w e = let same : v ≡ w = cc in subst (λ (x : Origin). x.hdus ≤ 65535) same is.hdus

module _ (laws : CompareLaws) (o : PackOptions) (s : Survey) where
  pub none_compared : (held : Option (List ℕ)) → IfSome held (IsComparing o s 0 0 false (Some no_origin))
  none_compared None = tt
  none_compared (Some g) = λ known. record { done = []; part = none_done g s known.headers known.seen; sound = tt; same = λ all. none_so_far o g }

  pub more_compared : (held : Option (List ℕ)) (k start : ℕ) (flag flag' : Bool) (origin now : Option Origin) (a : ReadHdu) → k < s.hdus → IfSome held (IsComparing o s k start flag origin) →
      IfSome held (λ g. ReadsAsSeen g k start flag s.header_len s.tile (Ok a)) → IfSome held (λ g. IsHduSound g a.header) → IfSome held (λ g. ComparesHdu o g a.header origin now) → flag' ≡ is_empty_primary a.header →
      IfSome held (IsComparing o s (k + 1) (next_start_of a.header) flag' now)
  more_compared None k start flag flag' origin now a few was again sound compared says = tt
  more_compared (Some g) k start flag flag' origin now a few was again sound compared says = λ known.
      let hs : List Header = known.headers in
      let w = was known in
      let p = one_done g s hs w.done k start flag w.part (omega (arith, few, known.seen.count)) a flag' again says in
      record {
        done = w.done ++ a.header ∷ [];
        part = p;
        sound = sound_joined g w.done (a.header ∷ []) w.sound sound;
        same = λ all.
            step o g laws.primary s.header_len s.tile w.done p.rest a.header origin now
            (record {
              seen = subst (λ l. WereSeen g s.header_len s.tile 0 0 l) p.parts known.seen.seen;
              one = all_front (StandsForOne g) w.done w.part.rest (subst (λ l. AllByRecursion (StandsForOne g) l) w.part.parts all.one);
              decided = all_at (IsDecided o g) w.done p.rest a.header (subst (λ l. AllByRecursion (IsDecided o g) l) p.parts all.decided);
              array = all_at (HasArray g) w.done p.rest a.header (subst (λ l. AllByRecursion (HasArray g) l) p.parts all.arrays);
            })
            (w.same all) compared;
      }

  -- all are compared
  all_compared : (g : List ℕ) (known : IsKnown Unpack g s) (k start : ℕ) (flag : Bool) (origin : Option Origin) (w : AreCompared o g s known.headers k start flag origin) → AreOptions o → HoldsOctets (Some g) → IfSome origin IsOrigin →
      known.headers ≡ w.done → IsCompared o g known.headers (Ok (is_some origin))
  all_compared g known k start flag origin w options octets few all =
      let hs : List Header = known.headers in
      let rows : IsFirstRowFault g (all_rows g hs) None = subst (λ l. IsFirstRowFault g (all_rows g l) None) (sym all) w.sound in
      let sound : IsFirstFault Unpack g None = is_sound g s known rows in
      let so_far : IsSoFarAs o g hs origin = subst (λ l. IsSoFarAs o g l origin) (sym all) (w.same (all_known laws.one laws.decided laws.restored o g s known sound)) in
      (rows, all_same laws.bytes o g hs origin options octets sound known.are (origin_few origin few) so_far)

  pub ends_with_last : (held : Option (List ℕ)) (k start : ℕ) (flag : Bool) (origin : Option Origin) → s.hdus ≤ k → AreOptions o → HoldsOctets held → IfSome origin IsOrigin → IfSome held (IsComparing o s k start flag origin) →
      IfSome held (λ g. ComparesSeen o g s (Ok (is_some origin)))
  ends_with_last None k start flag origin last options octets few was = tt
  ends_with_last (Some g) k start flag origin last options octets few was = λ known.
      let w = was known in
      all_compared g known k start flag origin w options octets few (all_by_count g s known.headers w.done k start flag w.part (omega (arith, last, known.seen.count)))

  pub ends_with_file : (held : Option (List ℕ)) (len k start : ℕ) (flag : Bool) (origin : Option Origin) → HoldsLength held len → start ≡ len → AreOptions o → HoldsOctets held → IfSome origin IsOrigin → IfSome held (IsComparing o s k start flag origin) →
      IfSome held (λ g. ComparesSeen o g s (Ok (is_some origin)))
  ends_with_file None len k start flag origin told ends options octets few was = tt
  ends_with_file (Some g) len k start flag origin told ends options octets few was = λ known.
      let w = was known in
      all_compared g known k start flag origin w options octets few (all_by_end g s known.headers w.done k start flag w.part (ends ∙ sym told))

  -- the header of the next was not read
  pub stops_reading : (held : Option (List ℕ)) (stop : Stop) (k start : ℕ) (flag : Bool) (origin : Option Origin) → k < s.hdus → IfSome held (IsComparing o s k start flag origin) →
      IfSome held (λ g. ReadsAsSeen g k start flag s.header_len s.tile (Err stop)) → IfSome held (λ g. ComparesSeen o g s (Err stop))
  stops_reading None stop k start flag origin few was again = tt
  stops_reading (Some g) stop k start flag origin few was again = λ known.
      let w = was known in
      stops_by ReadHdu o g known.headers stop (never_refused g s known.headers w.done k start flag w.part (omega (arith, few, known.seen.count)) stop again)

  -- or it has a faulty row
  pub stops_comparing : (held : Option (List ℕ)) (stop : Stop) (k start : ℕ) (flag : Bool) (origin : Option Origin) (a : ReadHdu) → k < s.hdus → IfSome held (IsComparing o s k start flag origin) →
      IfSome held (λ g. ReadsAsSeen g k start flag s.header_len s.tile (Ok a)) → IfRefused {X = Option Origin} (Err stop) (λ x. IfSome held (λ g. IsHduFault g a.header x)) → IfSome held (λ g. ComparesSeen o g s (Err stop))
  stops_comparing None stop k start flag origin a few was again fault = tt
  stops_comparing (Some g) stop k start flag origin a few was again fault = λ known.
      let hs : List Header = known.headers in
      let w = was known in
      let p = one_done g s hs w.done k start flag w.part (omega (arith, few, known.seen.count)) a (is_empty_primary a.header) again refl in
      let parts : hs ≡ w.done ++ a.header ∷ p.rest = p.parts ∙ append_assoc w.done (a.header ∷ []) p.rest in
      stops_at (Option Origin) o g hs stop
      (weaker (Option Origin) (Option Origin) (IsHduFault g a.header) (λ x. IsFirstRowFault g (all_rows g hs) (Some x)) stop
      (λ x is. subst (λ l. IsFirstRowFault g (all_rows g l) (Some x)) (sym parts) (fault_among g w.done p.rest a.header x w.sound is)) fault)
