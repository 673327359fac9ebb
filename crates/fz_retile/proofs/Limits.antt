-- What passes a limit, the names, and what is left in the sink: of a file that the look refuses, and of one that was handed to `pack`.
use Rattle.std.proofs.Common.{◌≡◌, ℕ, List, [], refl, sym, ap, ◌∙◌, subst, inl, inr, arith}
use Rattle.std.proofs.lemmas.Bool.Decides.{nat_tests}
use Rattle.std.specs.Prelude.{◌⊎◌, ◌==◌, ◌&&◌, Bool, true, false, Option, Some, None, IfSome, IsSome, Result, Ok, Err, OnOk, IsErrOf}
use Rattle.fz_base.specs.FirstByte.{IsShut}
use Rattle.fz_base.specs.Names.{NamesOnce}
use Rattle.fz_base.specs.Stop.{IfRefused, TellsLimit}
use Rattle.fz_base.specs.Takings.{TellsFirstPast, first_past}
use Rattle.fz_base.specs.declared.failure.Failed.{Failed}
use Rattle.fz_base.specs.declared.failure.Failed.TheVariants.{Fault as IsFault, NoMemory as IsWant}
use Rattle.fz_base.specs.declared.fault.Fault.{Fault}
use Rattle.fz_base.specs.Refusal.{refusal}
use Rattle.fz_base.specs.declared.fault.Place.{Place}
use Rattle.fz_base.specs.declared.fault.Place.TheVariants.{Byte, Card, Row}
use Rattle.fz_base.specs.declared.kind.Kind.{Kind}
use Rattle.fz_base.specs.declared.kind.Kind.TheVariants as kind
use Rattle.fz_base.specs.declared.failure.Stop.{Stop}
use Rattle.fz_base.specs.declared.failure.Stop.TheVariants.{Refused, ReadFault, WriteFault, OverLimit, NoMemory}
use Rattle.fz_head.specs.declared.options.PackOptions.{PackOptions}
use Rattle.fz_files.specs.Buffers.{file_takings, job_takings, plain_takings}
use Rattle.fz_files.specs.Decided.{first_fault}
use Rattle.fz_files.specs.RestoredFile.{restored}
use Rattle.fz_files.specs.Retiled.{plain_of}
use Rattle.fz_files.specs.Walks.{header_fault}
use Rattle.fz_files.specs.declared.job.Job.TheVariants.{Pack, Retile, Unpack}
use Rattle.fz_laws.specs.RoundTrip.{HasNoOtherFault}
use Rattle.fz_job.specs.Clauses.{ComesLate, IfOverLimit, IsShutOrWhole, greatest_bound}
use Rattle.fz_retile.specs.Views.{is_bad_card, is_late, is_late_at, restored_from}
use Rattle.fz_retile.specs.Retiles.{TellsEitherLimit, TellsFirstOfBoth, failed_of, first_past_of, late_of, past_of, settled_of}
use Rattle.fz_retile.proofs.Faults.{none_found}
use Rattle.fz_retile.proofs.Settling.{IsAccepted}

-- what the second list tells, if the first has no taking that passes its limit
abbrev told : Option (ℕ × ℕ) → ℕ → Option (ℕ × ℕ × ℕ)
told None limit = None
told (Some (live, asked)) limit = Some (live, asked, limit)

second : (view_limit limit : ℕ) (y : Option (ℕ × ℕ)) → past_of None view_limit y limit ≡ told y limit
second view_limit limit None = refl
second view_limit limit (Some (live, asked)) = refl

none_told : (y : Option (ℕ × ℕ)) (limit : ℕ) → y ≡ None → told y limit ≡ None
none_told y limit is = ap (λ (p : Option (ℕ × ℕ)). told p limit) is

some_told : (y : Option (ℕ × ℕ)) (live asked limit : ℕ) → y ≡ Some (live, asked) → told y limit ≡ Some (live, asked, limit)
some_told y live asked limit is = ap (λ (p : Option (ℕ × ℕ)). told p limit) is

is_some : (y : Option (ℕ × ℕ)) (limit : ℕ) → IsSome (told y limit) → IsSome y
is_some None limit is = is
is_some (Some (live, asked)) limit is = refl

-- ---- the first taking that passes a limit

-- of `pack`
packing_past : (y : Option (ℕ × ℕ)) (limit most : ℕ) (r : Result (Unit {0}) Stop) (takings : List (ℕ × ℕ)) → y ≡ first_past limit takings → TellsLimit limit most r → TellsFirstPast limit takings r → TellsFirstOfBoth (told y limit) r
packing_past y limit most (Ok x) takings is tells first = none_told y limit (is ∙ first)
packing_past y limit most (Err (Refused x)) takings is tells first = none_told y limit (is ∙ first)
packing_past y limit most (Err ReadFault) takings is tells first = tt
packing_past y limit most (Err WriteFault) takings is tells first = none_told y limit (is ∙ first)
packing_past y limit most (Err (OverLimit live asked t)) takings is tells first = some_told y live asked limit (is ∙ first) ∙ ap (λ (n : ℕ). Some (live, asked, n)) (sym tells.0)
packing_past y limit most (Err NoMemory) takings is tells first = tt

-- and of the answer that is made of it: a refusal that comes late is of a source that does not show its bytes
settled_past : (past : Option (ℕ × ℕ × ℕ)) (r : Result (Unit {0}) Stop) (failed : Option Failed) (later : Option Fault) → later ≡ None → TellsFirstOfBoth past r → TellsFirstOfBoth past (settled_of r failed later)
settled_past past (Ok x) None later never is = is
settled_past past (Ok x) (Some failed) later never is = tt
settled_past past (Err (Refused x)) None later never is = is
settled_past past (Err ReadFault) None None never is = tt
settled_past past (Err ReadFault) None (Some x) never is = absurd cc
settled_past past (Err WriteFault) None later never is = is
settled_past past (Err (OverLimit live asked limit)) None later never is = is
settled_past past (Err NoMemory) None later never is = tt
settled_past past (Err (Refused x)) (Some IsFault) later never is = tt
settled_past past (Err (Refused x)) (Some IsWant) later never is = tt
settled_past past (Err ReadFault) (Some IsFault) later never is = tt
settled_past past (Err ReadFault) (Some IsWant) later never is = tt
settled_past past (Err WriteFault) (Some failed) later never is = is
settled_past past (Err (OverLimit live asked limit)) (Some failed) later never is = is
settled_past past (Err NoMemory) (Some failed) later never is = tt

module _ (o : PackOptions) (W view_limit limit : ℕ) where
  -- the takings of the file that is packed anew are those of `pack`
  takings_of : (g : List ℕ) → plain_of g ≡ Some (restored g) → plain_takings o (plain_of g) W ≡ job_takings (Pack o) (restored g) W
  takings_of g is = ap (λ (p : Option (List ℕ)). plain_takings o p W) is

  both_past : (g : List ℕ) → IsAccepted g → first_past view_limit (file_takings Unpack g W) ≡ None → first_past_of o g W view_limit limit ≡ told (first_past limit (job_takings (Pack o) (restored g) W)) limit
  both_past g accepted none =
      ap (λ (p : Option (ℕ × ℕ)). past_of p view_limit (first_past limit (plain_takings o (plain_of g) W)) limit) none
      ∙ second view_limit limit (first_past limit (plain_takings o (plain_of g) W))
      ∙ ap (λ (ts : List (ℕ × ℕ)). told (first_past limit ts) limit) (takings_of g accepted.1)

  of_plain : (g : List ℕ) (P : List ℕ → Type 0) → plain_of g ≡ Some (restored g) → IfSome (plain_of g) P → P (restored g)
  of_plain g P is p = subst (λ (u : Option (List ℕ)). IfSome u P) is p

  pub first_both : (held : Option (List ℕ)) (most : ℕ) (r : Result (Unit {0}) Stop) (failed : Option Failed) (later : Option Fault) → IfSome held IsAccepted → IfSome held (λ g. later ≡ None) →
      IfSome held (λ g. first_past view_limit (file_takings Unpack g W) ≡ None) → TellsLimit limit most r → IfSome (restored_from held) (λ u. TellsFirstPast limit (job_takings (Pack o) u W) r) →
      IfSome held (λ g. TellsFirstOfBoth (first_past_of o g W view_limit limit) (settled_of r failed later))
  first_both None most r failed later accepted never none tells first = tt
  first_both (Some g) most r failed later accepted never none tells first =
      settled_past (first_past_of o g W view_limit limit) r failed later never
      (subst (λ (p : Option (ℕ × ℕ × ℕ)). TellsFirstOfBoth p r) (sym (both_past g accepted none))
      (packing_past (first_past limit (job_takings (Pack o) (restored g) W)) limit most r (job_takings (Pack o) (restored g) W) refl tells
      (of_plain g (λ u. TellsFirstPast limit (job_takings (Pack o) u W) r) accepted.1 first)))

  -- a taking that passes a limit leaves the sink as it was
  pub past_both : (held : Option (List ℕ)) (Same : Type 0) → IfSome held IsAccepted → IfSome held (λ g. first_past view_limit (file_takings Unpack g W) ≡ None) →
      IfSome (restored_from held) (λ u. IsSome (first_past limit (job_takings (Pack o) u W)) → Same) → IfSome held (λ g. IsSome (first_past_of o g W view_limit limit) → Same)
  past_both None Same accepted none past = tt
  past_both (Some g) Same accepted none past = λ is.
      of_plain g (λ u. IsSome (first_past limit (job_takings (Pack o) u W)) → Same) accepted.1 past
      (is_some (first_past limit (job_takings (Pack o) (restored g) W)) limit (subst IsSome (both_past g accepted none) is))

  -- the look stopped, and told its first taking that passes the limit, or has none
  pub look_past : (X : Type 0) (g : List ℕ) (stop : Stop) → TellsLimit {X = X} view_limit (greatest_bound Unpack W) (Err stop) → TellsFirstPast {X = X} view_limit (file_takings Unpack g W) (Err stop) →
      (IsErrOf {T = Unit {0}} (Err stop) WriteFault → Unit {0} → plain_of g ≡ None) → ((x : Fault) → stop ≡ Refused x → plain_of g ≡ None) → TellsFirstOfBoth (first_past_of o g W view_limit limit) (Err stop)
  look_past X g (Refused x) tells first unwritten refused =
      ap (λ (p : Option (ℕ × ℕ)). past_of p view_limit (first_past limit (plain_takings o (plain_of g) W)) limit) first
      ∙ second view_limit limit (first_past limit (plain_takings o (plain_of g) W))
      ∙ ap (λ (p : Option (List ℕ)). told (first_past limit (plain_takings o p W)) limit) (refused x refl)
  look_past X g ReadFault tells first unwritten refused = tt
  look_past X g WriteFault tells first unwritten refused =
      ap (λ (p : Option (ℕ × ℕ)). past_of p view_limit (first_past limit (plain_takings o (plain_of g) W)) limit) first
      ∙ second view_limit limit (first_past limit (plain_takings o (plain_of g) W))
      ∙ ap (λ (p : Option (List ℕ)). told (first_past limit (plain_takings o p W)) limit) (unwritten refl tt)
  look_past X g (OverLimit live asked t) tells first unwritten refused =
      ap (λ (p : Option (ℕ × ℕ)). past_of p view_limit (first_past limit (plain_takings o (plain_of g) W)) limit) first
      ∙ ap (λ (n : ℕ). Some (live, asked, n)) (sym tells.0)
  look_past X g NoMemory tells first unwritten refused = tt

-- ---- the limit that is told

pub either_settled : (view_limit limit most : ℕ) (r : Result (Unit {0}) Stop) (failed : Option Failed) (later : Option Fault) → TellsLimit limit most r → TellsEitherLimit view_limit limit most (settled_of r failed later)
either_settled view_limit limit most (Ok x) None later tells = tt
either_settled view_limit limit most (Ok x) (Some failed) later tells = tt
either_settled view_limit limit most (Err (Refused x)) None later tells = tt
either_settled view_limit limit most (Err ReadFault) None None tells = tt
either_settled view_limit limit most (Err ReadFault) None (Some x) tells = tt
either_settled view_limit limit most (Err WriteFault) None later tells = tt
either_settled view_limit limit most (Err (OverLimit live asked t)) None later tells = (inr tells.0, omega (arith, tells.0, tells.1), tells.2)
either_settled view_limit limit most (Err NoMemory) None later tells = tt
either_settled view_limit limit most (Err (Refused x)) (Some IsFault) later tells = tt
either_settled view_limit limit most (Err (Refused x)) (Some IsWant) later tells = tt
either_settled view_limit limit most (Err ReadFault) (Some IsFault) later tells = tt
either_settled view_limit limit most (Err ReadFault) (Some IsWant) later tells = tt
either_settled view_limit limit most (Err WriteFault) (Some failed) later tells = tt
either_settled view_limit limit most (Err (OverLimit live asked t)) (Some failed) later tells = (inr tells.0, omega (arith, tells.0, tells.1), tells.2)
either_settled view_limit limit most (Err NoMemory) (Some failed) later tells = tt

pub either_look : (X : Type 0) (view_limit limit most : ℕ) (stop : Stop) → TellsLimit {X = X} view_limit most (Err stop) → TellsEitherLimit view_limit limit most (Err stop)
either_look X view_limit limit most (Refused x) tells = tt
either_look X view_limit limit most ReadFault tells = tt
either_look X view_limit limit most WriteFault tells = tt
either_look X view_limit limit most (OverLimit live asked t) tells = (inl tells.0, omega (arith, tells.0, tells.1), tells.2)
either_look X view_limit limit most NoMemory tells = tt

-- ---- names

pub names_settled : (name : List ℕ) (old new : Option (List (List ℕ))) (r : Result (Unit {0}) Stop) (failed : Option Failed) (later : Option Fault) → NamesOnce name old new r → NamesOnce name old new (settled_of r failed later)
names_settled name old new (Ok x) None later once = once
names_settled name old new (Ok x) (Some failed) later once = record { done = tt; at_most = once.at_most }
names_settled name old new (Err stop) None later once = record { done = tt; at_most = once.at_most }
names_settled name old new (Err stop) (Some failed) later once = record { done = tt; at_most = once.at_most }

-- ---- what is in the sink

same_stop : (a b : Stop) → ◌≡◌ {A = Result (Unit {0}) Stop} (Err a) (Err b) → a ≡ b
same_stop a b is = cc

-- what the sink or want of memory stopped stays so
late_write : (stop : Stop) (later : Option Fault) → stop ≡ WriteFault → late_of stop later ≡ stop
late_write stop later is = ap (λ (s : Stop). late_of s later) is ∙ sym is

late_want : (stop : Stop) (later : Option Fault) → stop ≡ NoMemory → late_of stop later ≡ stop
late_want stop later is = ap (λ (s : Stop). late_of s later) is ∙ sym is

failed_write : (stop : Stop) (failed : Failed) → stop ≡ WriteFault → failed_of stop failed ≡ stop
failed_write stop failed is = ap (λ (s : Stop). failed_of s failed) is ∙ sym is

failed_want : (stop : Stop) (failed : Failed) → stop ≡ NoMemory → failed_of stop failed ≡ stop
failed_want stop failed is = ap (λ (s : Stop). failed_of s failed) is ∙ sym is

-- only shut after any other stop
shut_by : (contents : Option (List ℕ)) (Whole : Type 0) (stop other : Stop) → (stop ≡ WriteFault → other ≡ stop) → (stop ≡ NoMemory → other ≡ stop) → IsShutOrWhole {X = Unit {0}} contents Whole (Err stop) →
    IsShutOrWhole {X = Unit {0}} contents Whole (Err other)
shut_by contents Whole stop other written wanted (inl shut) = inl shut
shut_by contents Whole stop other written wanted (inr (whole, inl is)) = inr (whole, inl (ap (λ (s : Stop). Err s) (written (same_stop stop WriteFault is)) ∙ is))
shut_by contents Whole stop other written wanted (inr (whole, inr is)) = inr (whole, inr (ap (λ (s : Stop). Err s) (wanted (same_stop stop NoMemory is)) ∙ is))

pub end_settled : (contents : Option (List ℕ)) (Whole : Type 0) (r : Result (Unit {0}) Stop) (failed : Option Failed) (later : Option Fault) → OnOk r Whole → IsShutOrWhole contents Whole r →
    IsShutOrWhole contents Whole (settled_of r failed later)
end_settled contents Whole (Ok x) None later whole is = tt
end_settled contents Whole (Ok x) (Some failed) later whole is = inr (whole, inr refl)
end_settled contents Whole (Err stop) None later whole is = shut_by contents Whole stop _ (late_write stop later) (late_want stop later) is
end_settled contents Whole (Err stop) (Some failed) later whole is = shut_by contents Whole stop _ (failed_write stop failed) (failed_want stop failed) is

-- a file with any fault leaves the sink as it was
pub faulty_both : HasNoOtherFault → (o : PackOptions) (held : Option (List ℕ)) (Same : Type 0) → IfSome held IsAccepted → IfSome (restored_from held) (λ u. ¬ (header_fault (Pack o) u ≡ None) → Same) →
    IfSome held (λ g. ¬ (first_fault (Retile o) g ≡ None) → Same)
faulty_both only o None Same accepted faulty = tt
faulty_both only o (Some g) Same accepted faulty = λ fault.
    subst (λ (p : Option (List ℕ)). IfSome p (λ u. ¬ (header_fault (Pack o) u ≡ None) → Same)) accepted.1 faulty (λ none. fault (none_found o only g accepted.0 accepted.1 none))

-- nothing is there before
pub empty_is_shut : (contents : Option (List ℕ)) → IfSome contents (λ c. c ≡ []) → IsShut contents
empty_is_shut None empty = tt
empty_is_shut (Some c) empty = subst (λ (l : List ℕ). IsShut (Some l)) (sym empty) tt

pub over_settled : (Same : Type 0) (r : Result (Unit {0}) Stop) (failed : Option Failed) (later : Option Fault) → IfOverLimit r Same → IfOverLimit (settled_of r failed later) Same
over_settled Same (Ok x) None later is = tt
over_settled Same (Ok x) (Some failed) later is = tt
over_settled Same (Err (Refused x)) None later is = tt
over_settled Same (Err ReadFault) None None is = tt
over_settled Same (Err ReadFault) None (Some x) is = tt
over_settled Same (Err WriteFault) None later is = tt
over_settled Same (Err (OverLimit live asked t)) None later is = is
over_settled Same (Err NoMemory) None later is = tt
over_settled Same (Err (Refused x)) (Some IsFault) later is = tt
over_settled Same (Err (Refused x)) (Some IsWant) later is = tt
over_settled Same (Err ReadFault) (Some IsFault) later is = tt
over_settled Same (Err ReadFault) (Some IsWant) later is = tt
over_settled Same (Err WriteFault) (Some failed) later is = tt
over_settled Same (Err (OverLimit live asked t)) (Some failed) later is = is
over_settled Same (Err NoMemory) (Some failed) later is = tt

is_bad : (k : Kind) → is_bad_card k ≡ true → k ≡ kind.BadCard
is_bad kind.NotFits is = absurd cc
is_bad kind.Truncated is = absurd cc
is_bad kind.LongHeader is = absurd cc
is_bad kind.BadCard is = refl
is_bad kind.Duplicate is = absurd cc
is_bad kind.HeaderFill is = absurd cc
is_bad kind.DataFill is = absurd cc
is_bad kind.TrailingBytes is = absurd cc
is_bad kind.Reserved is = absurd cc
is_bad kind.AlreadyPacked is = absurd cc
is_bad kind.Limit is = absurd cc
is_bad kind.Groups is = absurd cc
is_bad kind.UnknownCodec is = absurd cc
is_bad kind.Quantised is = absurd cc
is_bad kind.CompressedTable is = absurd cc
is_bad kind.BadTable is = absurd cc
is_bad kind.RowCount is = absurd cc
is_bad kind.DescriptorRange is = absurd cc
is_bad kind.TileMissing is = absurd cc
is_bad kind.GzipTile is = absurd cc
is_bad kind.CodeShort is = absurd cc
is_bad kind.CodeValue is = absurd cc
is_bad kind.LineList is = absurd cc
is_bad kind.PixelRange is = absurd cc
is_bad kind.TileSize is = absurd cc
is_bad kind.MisplacedPrimary is = absurd cc
is_bad kind.NotPacked is = absurd cc
is_bad kind.OutOfBox is = absurd cc
is_bad kind.PlioOffset is = absurd cc
is_bad kind.Unpatchable is = absurd cc
is_bad kind.BadPatch is = absurd cc

two_true : (a b : Bool) → (a && b) ≡ true → (a ≡ true) × (b ≡ true)
two_true true true is = (refl, refl)
two_true true false is = absurd cc
two_true false b is = absurd cc

is_zero : (n : ℕ) → (n == 0) ≡ true → n ≡ 0
is_zero n is = grind (arith, nat_tests)

-- what a view refuses later is of a row, or of an HDU that changed
late_at : (o : PackOptions) (x : Fault) (at : Place) (k : Kind) → x.at ≡ at → x.kind ≡ k → is_late_at at k ≡ true → ComesLate (Retile o) x
late_at o x (Byte n) k at_is kind_is late = absurd cc
late_at o x (Row row) k at_is kind_is late = inr (row, at_is)
late_at o x (Card n) k at_is kind_is late =
    let parts = two_true (n == 0) (is_bad_card k) late in
    let place : x.at ≡ Card 0 = at_is ∙ ap (λ (m : ℕ). Card m) (is_zero n parts.0) in
    let bad : x.kind ≡ kind.BadCard = kind_is ∙ is_bad k parts.1 in
    inl (ap (λ (p : Place). record x { at = p }) place ∙ ap (λ (q : Kind). refusal x.hdu (Card 0) q) bad)

comes_late : (o : PackOptions) (x : Fault) → is_late x ≡ true → ComesLate (Retile o) x
comes_late o x is = late_at o x x.at x.kind refl refl is

pub refused_settled : (o : PackOptions) (Same : Type 0) (r : Result (Unit {0}) Stop) (failed : Option Failed) (later : Option Fault) → IfSome later (λ x. is_late x ≡ true) →
    IfRefused r (λ x. Same ⊎ ComesLate (Pack o) x) → IfRefused (settled_of r failed later) (λ x. Same ⊎ ComesLate (Retile o) x)
refused_settled o Same (Ok x) None later late is = tt
refused_settled o Same (Ok x) (Some failed) later late is = tt
refused_settled o Same (Err (Refused x)) None later late (inl same) = inl same
refused_settled o Same (Err (Refused x)) None later late (inr changed) = inr (inl changed)
refused_settled o Same (Err ReadFault) None None late is = tt
refused_settled o Same (Err ReadFault) None (Some x) late is = inr (comes_late o x late)
refused_settled o Same (Err WriteFault) None later late is = tt
refused_settled o Same (Err (OverLimit live asked t)) None later late is = tt
refused_settled o Same (Err NoMemory) None later late is = tt
refused_settled o Same (Err (Refused x)) (Some IsFault) later late is = tt
refused_settled o Same (Err (Refused x)) (Some IsWant) later late is = tt
refused_settled o Same (Err ReadFault) (Some IsFault) later late is = tt
refused_settled o Same (Err ReadFault) (Some IsWant) later late is = tt
refused_settled o Same (Err WriteFault) (Some failed) later late is = tt
refused_settled o Same (Err (OverLimit live asked t)) (Some failed) later late is = tt
refused_settled o Same (Err NoMemory) (Some failed) later late is = tt
