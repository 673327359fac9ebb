-- What a view keeps when it reads an HDU, and when a reading stops.
use Rattle.std.proofs.Common.{◌≡◌, ℕ, zero, suc, ◌+◌, ◌<◌, ◌≤◌, ◌⊎◌, inl, inr, true, List, length, Option, Some, None, IfSome, Err, refl, sym, ap, ◌∙◌, subst, arith}
use Rattle.std.specs.Option.{ForSome}
use Rattle.std.proofs.lemmas.Option.{same_Some}
use Rattle.fz_base.specs.Counts.{CountsKept, HasCause, Tally}
use Rattle.fz_base.specs.Ranges.{LogsIn, LogsJoinLaw}
use Rattle.fz_base.specs.Refusal.{refusal}
use Rattle.fz_base.specs.Stop.{IfRefused, ReadsOnly, StoppedReading, stop_of_read}
use Rattle.fz_base.specs.Told.{StaysTold}
use Rattle.fz_base.specs.declared.fault.Fault.{Fault}
use Rattle.fz_base.specs.declared.fault.Place.TheVariants.{Card}
use Rattle.fz_base.specs.declared.kind.Kind.TheVariants.{BadCard}
use Rattle.fz_base.specs.declared.failure.Failed.{Failed}
use Rattle.fz_base.specs.declared.failure.Failed.TheVariants.{Fault as IsFault, NoMemory as IsWant}
use Rattle.fz_base.specs.declared.failure.Stop.{Stop}
use Rattle.fz_base.specs.declared.failure.Stop.TheVariants.{Refused, ReadFault, WriteFault, OverLimit, NoMemory}
use Rattle.fz_block.specs.Header.{next_start_of}
use Rattle.fz_grid.specs.declared.region.Region.{Region}
use Rattle.fz_checks.specs.declared.job_checks.PackedImage.{PackedImage}
use Rattle.fz_files.specs.Touched.{touched_by}
use Rattle.fz_files.specs.declared.job.Job.TheVariants.{Unpack}
use Rattle.fz_job.specs.Clauses.{IsChanged, IsOfSomeRow}
use Rattle.fz_job.specs.declared.survey.Survey.{Survey}
use Rattle.fz_job.specs.Again.{is_empty_primary}
use Rattle.fz_retile.specs.Begins.{HeadersStay, IsBegun, IsReadHere, IsToldHere}
use Rattle.fz_look.specs.Boxes.{HasBox, LiesInImage, sieve_in}
use Rattle.fz_look.specs.Here.{IsPlaced}
use Rattle.fz_retile.specs.Holds.{AreFailures, AreReads, AreRefusals, IsAtHand, IsKnownView}
use Rattle.fz_look.specs.Laws.{FirstIsPlaced, HasNext, NextIsPlaced}
use Rattle.fz_look.specs.Looked.{HaveRoom, buffers_of}
use Rattle.fz_look.specs.Scratch.{ScratchStays}
use Rattle.fz_retile.specs.Views.{KeepsFirst, failed_after, is_late, is_late_at, later_after, more_by}
use Rattle.fz_look.specs.declared.here.Here.{Here}
use Rattle.fz_look.specs.declared.looked.First.{First}
use Rattle.fz_look.specs.declared.looked.Space.{Space}
use Rattle.fz_retile.specs.declared.reading.Begin.{Begin}
use Rattle.fz_retile.proofs.WasRead.{reads_more}
use Rattle.fz_retile.proofs.Somes.{for_none, for_some}
use Rattle.fz_retile.proofs.Tallies.{clean_on, kept_on, kept_same, late_on, never_on, none_on, rose_on, some_on, wanted_on}

-- ---- refusals that come late

pub late_changed : (X Y : Type 0) (stop : Stop) → IfRefused {X = X} (Err stop) IsChanged → IfRefused {X = Y} (Err stop) (λ x. is_late x ≡ true)
late_changed X Y (Refused x) changed = ap is_late changed
late_changed X Y ReadFault changed = tt
late_changed X Y WriteFault changed = tt
late_changed X Y (OverLimit live asked limit) changed = tt
late_changed X Y NoMemory changed = tt

late_at_row : (x : Fault) → IsOfSomeRow x → is_late x ≡ true
late_at_row x row = ap (λ p. is_late_at p x.kind) row.1

pub late_row : (X Y : Type 0) (stop : Stop) → IfRefused {X = X} (Err stop) IsOfSomeRow → IfRefused {X = Y} (Err stop) (λ x. is_late x ≡ true)
late_row X Y (Refused x) row = late_at_row x row
late_row X Y ReadFault row = tt
late_row X Y WriteFault row = tt
late_row X Y (OverLimit live asked limit) row = tt
late_row X Y NoMemory row = tt

-- ---- buffers

pub room_read : (header_len tile : ℕ) (old new : Space) → HaveRoom header_len tile old → HeadersStay old new → HaveRoom header_len tile new
room_read header_len tile old new room stay = record {
  block = stay.block ∙ room.block;
  long = room.long;
  header = stay.header ∙ room.header;
  translated = stay.translated ∙ room.translated;
  numbers = ap length stay.numbers ∙ room.numbers;
  code = ap length stay.code ∙ room.code;
  band = subst (λ (l : List ℕ). 8 ≤ length l) (sym stay.band) room.band;
}

pub bytes_read : (old new : Space) → HeadersStay old new → buffers_of new ≡ buffers_of old
bytes_read old new stay = omega (arith, stay.block, stay.header, stay.translated, ap length stay.numbers, ap length stay.code, ap length stay.band)

pub room_filled : (header_len tile : ℕ) (old new : Space) → HaveRoom header_len tile old → ScratchStays old new → HaveRoom header_len tile new
room_filled header_len tile old new room stay = record {
  block = ap length stay.block ∙ room.block;
  long = room.long;
  header = ap length stay.header ∙ room.header;
  translated = ap length stay.translated ∙ room.translated;
  numbers = stay.numbers ∙ room.numbers;
  code = stay.code ∙ room.code;
  band = omega (arith, room.band, stay.band);
}

pub bytes_filled : (old new : Space) → ScratchStays old new → buffers_of new ≡ buffers_of old
bytes_filled old new stay = omega (arith, ap length stay.block, ap length stay.header, ap length stay.translated, stay.numbers, stay.code, stay.band)

-- ---- which HDU is read

pub begun_of : (held : Option (List ℕ)) (s : Survey) (plain_len : ℕ) (b : Begin) (first : First) (space : Space) (here : Option Here) (boxed : Option Region) → ForSome held (λ g. IsKnownView g plain_len s first space here boxed) →
    IfSome held (λ g. IsPlaced g b.hdu b.start b.after_empty b.at) → IfSome held (λ g. IsBegun g s plain_len b)
begun_of None s plain_len b first space here boxed known placed = tt
begun_of (Some g) s plain_len b first space here boxed known placed = let w = known g refl in record { sound = w.surveyed_is; long = w.whole; placed = placed }

-- the first
pub first_within : (hdu start len : ℕ) → (hdu ≡ 0 → start ≡ 0) → (0 < hdu → start < len) → (start < len) ⊎ ((hdu ≡ 0) × (start ≡ 0))
first_within zero start len none some = inr (refl, none refl)
first_within (suc k) start len none some = inl (some (omega arith))

pub first_of_view : FirstIsPlaced → (held : Option (List ℕ)) (s : Survey) (plain_len : ℕ) (f : First) (space : Space) (here : Option Here) (boxed : Option Region) → 0 < s.hdus → ForSome held (λ g. IsKnownView g plain_len s f space here boxed) →
    IfSome held (λ g. IsPlaced g f.hdu f.start f.after_empty 0)
first_of_view law None s plain_len f space here boxed some known = tt
first_of_view law (Some g) s plain_len f space here boxed some known = let w = known g refl in law g s f w.surveyed_is some w.first_is

-- the next
pub next_of_view : NextIsPlaced → (held : Option (List ℕ)) (s : Survey) (plain_len : ℕ) (f : First) (space : Space) (here : Option Here) (boxed : Option Region) (h : Here) → here ≡ Some h → h.end < plain_len →
    ForSome held (λ g. IsKnownView g plain_len s f space here boxed) → IfSome held (λ g. HasNext g s h)
next_of_view law None s plain_len f space here boxed h is more known = tt
next_of_view law (Some g) s plain_len f space here boxed h is more known =
    let w = known g refl in
    let at = w.told h is in
    law g s h w.surveyed_is at.here (omega (arith, w.whole, more))

pub next_begins : (held : Option (List ℕ)) (s : Survey) (h : Here) → IfSome held (λ g. HasNext g s h) →
    IfSome held (λ g. IsPlaced g (h.read.header.hdu + 1) (next_start_of h.read.header) (is_empty_primary h.read.header) h.end)
next_begins None s h next = tt
next_begins (Some g) s h next = next.placed

-- so a next one that is not there is never missed
pub never_missed : (X : Type 0) (stop : Stop) (held : Option (List ℕ)) (len : ℕ) (s : Survey) (h : Here) → IfSome held (λ g. length g ≡ len) → IfSome held (λ g. HasNext g s h) →
    (((h.read.header.hdu + 1 < s.hdus) × (next_start_of h.read.header < len)) → ⊥) → IfSome held (λ g. IfRefused {X = X} (Err stop) (λ x. ⊥))
never_missed X stop None len s h long next never = tt
never_missed X stop (Some g) len s h long next never = absurd (never (next.more, omega (arith, long, next.within)))

-- ---- the HDU at hand

module _ (length_is plain_len : ℕ) (s : Survey) where
  pub none_at_hand : (space : Space) → IsAtHand length_is plain_len s space None None
  none_at_hand space = record {
    read = for_none None (λ h. IsReadHere plain_len length_is (length space.translated) s.tile space.header h) refl;
    in_image = for_none None (λ r. ForSome None (λ h. ForSome h.read.image (λ i. LiesInImage i.plan r (length space.band)))) refl;
    unboxed = λ none. refl;
  }

  pub read_at_hand : (old new : Space) (h : Here) → HeadersStay old new → IsReadHere plain_len length_is (length old.translated) s.tile new.header h → IsAtHand length_is plain_len s new (Some h) None
  read_at_hand old new h stay read = record {
    read = for_some (Some h) (λ e. IsReadHere plain_len length_is (length new.translated) s.tile new.header e) (subst (λ n. IsReadHere plain_len length_is n s.tile new.header h) (sym stay.translated) read);
    in_image = for_none None (λ r. ForSome (Some h) (λ e. ForSome e.read.image (λ i. LiesInImage i.plan r (length new.band)))) refl;
    unboxed = λ none. refl;
  }

  read_filled : (old new : Space) (h : Here) → ScratchStays old new → IsReadHere plain_len length_is (length old.translated) s.tile old.header h → IsReadHere plain_len length_is (length new.translated) s.tile new.header h
  read_filled old new h stay read =
      subst (λ (l : List ℕ). IsReadHere plain_len length_is (length l) s.tile new.header h) (sym stay.translated)
      (subst (λ (l : List ℕ). IsReadHere plain_len length_is (length old.translated) s.tile l h) (sym stay.header) read)

  -- no box, once a box was not filled
  pub unboxed_at_hand : (old new : Space) (here : Option Here) (boxed : Option Region) → ScratchStays old new → IsAtHand length_is plain_len s old here boxed → IsAtHand length_is plain_len s new here None
  unboxed_at_hand old new here boxed stay was = record {
    read = λ h is. read_filled old new h stay (was.read h is);
    in_image = for_none None (λ r. ForSome here (λ h. ForSome h.read.image (λ i. LiesInImage i.plan r (length new.band)))) refl;
    unboxed = λ none. refl;
  }

  -- this one, once it was filled
  pub boxed_at_hand : (old new : Space) (here : Option Here) (boxed : Option Region) (h : Here) (i : PackedImage) (r : Region) → ScratchStays old new → here ≡ Some h → h.read.image ≡ Some i → LiesInImage i.plan r (length old.band) →
      IsAtHand length_is plain_len s old here boxed → IsAtHand length_is plain_len s new here (Some r)
  boxed_at_hand old new here boxed h i r stay at image lies was = record {
    read = λ e is. read_filled old new e stay (was.read e is);
    in_image = λ q those e is j some.
        let box : r ≡ q = same_Some r q those in
        let same : h ≡ e = same_Some h e (sym at ∙ is) in
        let plan : i ≡ j = same_Some i j (sym image ∙ ap (λ (x : Here). x.read.image) same ∙ some) in
        subst (λ (x : Region). LiesInImage j.plan x (length new.band)) box
        (subst (λ (x : PackedImage). LiesInImage x.plan r (length new.band)) plan
        (subst (λ n. LiesInImage i.plan r n) (sym stay.band) lies));
    unboxed = λ none. absurd (never h (sym at ∙ none));
  }
    where
      never : (x : Here) → ◌≡◌ {A = Option Here} (Some x) None → ⊥
      never x is = cc

-- ---- what is known of it

module _ (plain_len : ℕ) (s : Survey) (first : First) where
  pub known_none : (held held' : Option (List ℕ)) (old new : Space) (here : Option Here) (boxed : Option Region) → held' ≡ held → ForSome held (λ g. IsKnownView g plain_len s first old here boxed) →
      ForSome held' (λ g. IsKnownView g plain_len s first new None None)
  known_none held held' old new here boxed same was g is =
      let w = was g (sym same ∙ is) in
      record {
        sound = w.sound;
        surveyed_is = w.surveyed_is;
        whole = w.whole;
        first_is = w.first_is;
        told = for_none None (λ h. IsToldHere g new.translated h) refl;
        boxed_is = for_none None (λ h. ForSome None (λ r. HasBox g h.read.header (sieve_in r) new.band)) refl;
      }

  pub known_read : (held held' : Option (List ℕ)) (old new : Space) (here : Option Here) (boxed : Option Region) (h : Here) → held' ≡ held → ForSome held (λ g. IsKnownView g plain_len s first old here boxed) →
      IfSome held (λ g. IsToldHere g new.translated h) → ForSome held' (λ g. IsKnownView g plain_len s first new (Some h) None)
  known_read held held' old new here boxed h same was told g is =
      let w = was g (sym same ∙ is) in
      record {
        sound = w.sound;
        surveyed_is = w.surveyed_is;
        whole = w.whole;
        first_is = w.first_is;
        told = for_some (Some h) (λ e. IsToldHere g new.translated e) (for_some held (λ x. IsToldHere x new.translated h) told g (sym same ∙ is));
        boxed_is = λ e at. for_none None (λ r. HasBox g e.read.header (sieve_in r) new.band) refl;
      }

  told_filled : (g : List ℕ) (old new : Space) (here : Option Here) → ScratchStays old new → ForSome here (λ h. IsToldHere g old.translated h) → ForSome here (λ h. IsToldHere g new.translated h)
  told_filled g old new here stay told h is = subst (λ (l : List ℕ). IsToldHere g l h) (sym stay.translated) (told h is)

  pub known_unboxed : (held held' : Option (List ℕ)) (old new : Space) (here : Option Here) (boxed : Option Region) → held' ≡ held → ScratchStays old new → ForSome held (λ g. IsKnownView g plain_len s first old here boxed) →
      ForSome held' (λ g. IsKnownView g plain_len s first new here None)
  known_unboxed held held' old new here boxed same stay was g is =
      let w = was g (sym same ∙ is) in
      record {
        sound = w.sound;
        surveyed_is = w.surveyed_is;
        whole = w.whole;
        first_is = w.first_is;
        told = told_filled g old new here stay w.told;
        boxed_is = λ e at. for_none None (λ r. HasBox g e.read.header (sieve_in r) new.band) refl;
      }

  pub known_boxed : (held held' : Option (List ℕ)) (old new : Space) (here : Option Here) (boxed : Option Region) (h : Here) (r : Region) → held' ≡ held → ScratchStays old new → here ≡ Some h →
      IfSome held (λ g. HasBox g h.read.header (sieve_in r) new.band) → ForSome held (λ g. IsKnownView g plain_len s first old here boxed) → ForSome held' (λ g. IsKnownView g plain_len s first new here (Some r))
  known_boxed held held' old new here boxed h r same stay at filled was g is =
      let w = was g (sym same ∙ is) in
      record {
        sound = w.sound;
        surveyed_is = w.surveyed_is;
        whole = w.whole;
        first_is = w.first_is;
        told = told_filled g old new here stay w.told;
        boxed_is = λ e there q box.
            subst (λ (x : Here). HasBox g x.read.header (sieve_in q) new.band) (same_Some h e (sym at ∙ there))
            (subst (λ (x : Region). HasBox g h.read.header (sieve_in x) new.band) (same_Some r q box)
            (for_some held (λ x. HasBox x h.read.header (sieve_in r) new.band) filled g (sym same ∙ is)));
      }

-- ---- what was read, refused, and failed

pub reads_kept : LogsJoinLaw → (held held' : Option (List ℕ)) (start mid new : Option (List (ℕ × ℕ))) → held' ≡ held → IfSome held (λ g. LogsIn (touched_by Unpack g) mid new) → StaysTold mid new → AreReads held start mid → AreReads held' start new
reads_kept join held held' start mid new same read told was =
    subst (λ (h : Option (List ℕ)). AreReads h start new) (sym same)
    (record { touched = reads_more join (touched_by Unpack) held start mid new was.touched read; told = λ before. told (was.told before) })

pub refusals_stop : (X : Type 0) (held held' : Option (List ℕ)) (stop : Stop) (later : Option Fault) (more : ℕ) → held' ≡ held → IfRefused {X = X} (Err stop) (λ x. is_late x ≡ true) → IfSome held (λ g. IfRefused {X = X} (Err stop) (λ x. ⊥)) →
    AreRefusals held later more → AreRefusals held' (later_after stop later) (more_by stop more)
refusals_stop X held held' stop later more same late never was =
    subst (λ (h : Option (List ℕ)). AreRefusals h (later_after stop later) (more_by stop more)) (sym same)
    (record {
      late = late_on X stop later late was.late;
      never = never_on X held stop more never was.never;
      none = none_on stop more later was.none;
      some = some_on stop more later was.some;
    })

pub failures_stop : (start t0 t1 : Tally) (stop : Stop) (failed : Option Failed) → CountsKept t0 t1 → StoppedReading t0 t1 stop → AreFailures start t0 failed → AreFailures start t1 (failed_after stop failed)
failures_stop start t0 t1 stop failed kept why was = record {
  kept = kept_on start t0 t1 was.kept kept;
  clean = clean_on start t0 t1 stop failed was.clean why;
  rose = rose_on start t0 t1 stop failed kept was.clean was.rose why;
  wanted = wanted_on start t0 t1 stop failed kept was.clean was.wanted why;
}

-- a reading that failed
reading_why : (t0 t1 : Tally) (failed : Failed) → HasCause {T = Unit {0}} t0 t1 (Err failed) → StoppedReading t0 t1 (stop_of_read failed)
reading_why t0 t1 IsFault cause = cause.fault refl
reading_why t0 t1 IsWant cause = cause.no_memory refl

pub reading_stopped : (t0 t1 : Tally) (failed : Failed) (stop : Stop) → stop ≡ stop_of_read failed → HasCause {T = Unit {0}} t0 t1 (Err failed) → StoppedReading t0 t1 stop
reading_stopped t0 t1 failed stop is cause = subst (StoppedReading t0 t1) (sym is) (reading_why t0 t1 failed cause)

reading_unrefused : (X : Type 0) (failed : Failed) (P : Fault → Type 0) → IfRefused {X = X} (Err (stop_of_read failed)) P
reading_unrefused X IsFault P = tt
reading_unrefused X IsWant P = tt

pub reading_not_refused : (X : Type 0) (failed : Failed) (stop : Stop) (P : Fault → Type 0) → stop ≡ stop_of_read failed → IfRefused {X = X} (Err stop) P
reading_not_refused X failed stop P is = subst (λ (e : Stop). IfRefused {X = X} (Err e) P) (sym is) (reading_unrefused X failed P)

pub reading_never : (X : Type 0) (held : Option (List ℕ)) (failed : Failed) (stop : Stop) → stop ≡ stop_of_read failed → IfSome held (λ g. IfRefused {X = X} (Err stop) (λ x. ⊥))
reading_never X None failed stop is = tt
reading_never X (Some g) failed stop is = reading_not_refused X failed stop (λ x. ⊥) is

-- ---- as it was kept

pub refusals_kept : (held : Option (List ℕ)) (stop : Stop) (later later' : Option Fault) (more more' : ℕ) → later' ≡ later_after stop later → more' ≡ more_by stop more → AreRefusals held (later_after stop later) (more_by stop more) →
    AreRefusals held later' more'
refusals_kept held stop later later' more more' is count was =
    subst (λ (l : Option Fault). AreRefusals held l more') (sym is) (subst (λ n. AreRefusals held (later_after stop later) n) (sym count) was)

still_first : (stop : Stop) (x : Fault) → later_after stop (Some x) ≡ Some x
still_first (Refused y) x = refl
still_first ReadFault x = refl
still_first WriteFault x = refl
still_first (OverLimit live asked limit) x = refl
still_first NoMemory x = refl

pub first_kept : (X : Type 0) (later later' : Option Fault) (stop : Stop) (failed : Failed) → later' ≡ later_after stop later →
    KeepsFirst {X = X} later later' (Err failed)
first_kept X None later' stop failed is = record { ok = tt; first = tt }
first_kept X (Some x) later' stop failed is = record { ok = tt; first = is ∙ still_first stop x }

pub failures_kept : (start now : Tally) (stop : Stop) (failed failed' : Option Failed) → failed' ≡ failed_after stop failed → AreFailures start now (failed_after stop failed) → AreFailures start now failed'
failures_kept start now stop failed failed' is was = subst (λ (f : Option Failed). AreFailures start now f) (sym is) was

-- ---- an HDU that is no longer the one that was looked at

pub changed_late : (X : Type 0) (stop : Stop) (hdu : ℕ) → stop ≡ Refused (refusal hdu (Card 0) BadCard) → IfRefused {X = X} (Err stop) (λ x. is_late x ≡ true)
changed_late X stop hdu is = subst (λ (e : Stop). IfRefused {X = X} (Err e) (λ x. is_late x ≡ true)) (sym is) refl

pub changed_why : (t : Tally) (stop : Stop) (hdu : ℕ) → stop ≡ Refused (refusal hdu (Card 0) BadCard) → StoppedReading t t stop
changed_why t stop hdu is = subst (StoppedReading t t) (sym is) refl

pub changed_is : (X : Type 0) (stop : Stop) (hdu : ℕ) → stop ≡ Refused (refusal hdu (Card 0) BadCard) → IfRefused {X = X} (Err stop) IsChanged
changed_is X stop hdu is = subst (λ (e : Stop). IfRefused {X = X} (Err e) IsChanged) (sym is) refl

pub changed_cause : (X : Type 0) (t0 t1 : Tally) (stop : Stop) (hdu : ℕ) → stop ≡ Refused (refusal hdu (Card 0) BadCard) → t1 ≡ t0 → ReadsOnly {X = X} t0 t1 (Err stop)
changed_cause X t0 t1 stop hdu is same = record {
  kept = subst (CountsKept t0) (sym same) (kept_same t0);
  ok = tt;
  stop = subst (StoppedReading t0 t1) (sym is) same;
}
