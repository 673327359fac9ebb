-- What a view knows of the file when it is made (FITS 4.0, section 10.1).
use Rattle.std.proofs.Common.{◌≡◌, ℕ, suc, true, List, [], ◌∷◌, length, Option, Some, None, IfSome, Result, Ok, refl, sym, ap, ◌∙◌, subst, arith}
use Rattle.std.specs.Option.{ForSome}
use Rattle.std.proofs.lemmas.Option.{same_Some}
use Rattle.fz_base.specs.Counts.{CountsKept, Tally}
use Rattle.fz_base.specs.Ranges.{LogsIn}
use Rattle.fz_base.specs.Source.{HoldsOctets}
use Rattle.fz_base.specs.Told.{StaysTold}
use Rattle.fz_base.specs.declared.fault.Fault.{Fault}
use Rattle.fz_block.specs.Checks.{hdu_at}
use Rattle.fz_block.specs.Header.{next_start_of}
use Rattle.fz_block.specs.declared.header.Header.{Header}
use Rattle.fz_files.specs.Decided.{first_fault}
use Rattle.fz_files.specs.RestoredFile.{restored}
use Rattle.fz_files.specs.Touched.{touched_by}
use Rattle.fz_files.specs.Walks.{headers_for}
use Rattle.fz_files.specs.declared.job.Job.TheVariants.{Unpack}
use Rattle.fz_laws.specs.RoundTrip.{HasNoOtherFault, RestoredAreBytes, StandsForRestored}
use Rattle.fz_job.specs.Surveys.{surveyed}
use Rattle.fz_job.specs.declared.checks.JobChecks.TheVariants.{Unpack as UnpackChecks}
use Rattle.fz_job.specs.declared.survey.Survey.{Survey}
use Rattle.fz_job.specs.Again.{WereSeen}
use Rattle.fz_job.specs.Known.{IsKnown}
use Rattle.fz_retile.specs.Begins.{IsToldHere}
use Rattle.fz_look.specs.Boxes.{HasBox, sieve_in}
use Rattle.fz_retile.specs.Holds.{AreFailures, AreReads, AreRefusals, IsKnownView}
use Rattle.fz_look.specs.Looked.{IsLooked, first_of}
use Rattle.fz_retile.specs.Views.{is_late, reads_in, restored_from}
use Rattle.fz_look.specs.declared.looked.Looked.{Looked}
use Rattle.fz_retile.proofs.WasRead.{is_logs, logs_is}
use Rattle.fz_retile.proofs.Somes.{for_none, some_weaker, weaker_some}
use Rattle.fz_retile.proofs.Tallies.{kept_same}

same_found : (h j : Header) (r : Result Header Fault) → r ≡ Ok h → r ≡ Ok j → h ≡ j
same_found h j r e f = cc

-- a file has one list of HDUs that were seen
one_list : (g : List ℕ) (header_len tile k start : ℕ) (hs ks : List Header) → WereSeen g header_len tile k start hs → WereSeen g header_len tile k start ks → length hs ≡ length ks → hs ≡ ks
one_list g header_len tile k start [] [] one two same = refl
one_list g header_len tile k start [] (j ∷ ks) one two same = absurd (omega (arith, same))
one_list g header_len tile k start (h ∷ hs) [] one two same = absurd (omega (arith, same))
one_list g header_len tile k start (h ∷ hs) (j ∷ ks) one two same =
    let here : h ≡ j = same_found h j (hdu_at k start g) one.0.found two.0.found in
    let later : hs ≡ ks = one_list g header_len tile (suc k) (next_start_of h) hs ks one.1 (subst (λ n. WereSeen g header_len tile (suc k) n ks) (ap next_start_of (sym here)) two.1) (omega (arith, same)) in
    λ i. here i ∷ later i

-- the HDUs that were looked at are those of the file
pub first_known : (g : List ℕ) (l : Looked) → IsLooked g l → IsKnown Unpack g l.survey → l.first ≡ first_of g (headers_for Unpack g)
first_known g l is known =
    let same : is.headers ≡ known.headers = one_list g l.survey.header_len l.survey.tile 0 0 is.headers known.headers is.list.seen known.seen.seen (is.list.count ∙ sym known.seen.count) in
    is.first ∙ ap (first_of g) (same ∙ sym known.are)

-- no check refuses the file
pub sound_known : HasNoOtherFault → (g : List ℕ) (l : Looked) → IsLooked g l → first_fault Unpack g ≡ None
sound_known only g l is = sym (only Unpack g None is.sound)

pub fits_known : (held : Option (List ℕ)) (l : Looked) → IfSome held (λ g. IsLooked g l) → ForSome (restored_from held) (λ u. length u ≡ l.plain_len)
fits_known None l looked u is = absurd cc
fits_known (Some g) l looked u is = ap length (same_Some u (restored g) (sym is ∙ looked.plain)) ∙ looked.len

-- what it stands for are bytes
pub octets_known : StandsForRestored → RestoredAreBytes → (held : Option (List ℕ)) (l : Looked) → HoldsOctets held → IfSome held (λ g. IsLooked g l) → HoldsOctets (restored_from held)
octets_known stands bytes None l octets looked = tt
octets_known stands bytes (Some g) l octets looked = subst HoldsOctets (sym looked.plain) (bytes g (restored g) octets (stands g looked.sound))

-- ---- all that it knows

known_by : HasNoOtherFault → ((g : List ℕ) (s : Survey) → surveyed UnpackChecks g ≡ Ok s → IsKnown Unpack g s) → (g : List ℕ) (l : Looked) → IsLooked g l → IsKnownView g l.plain_len l.survey l.first l.space None None
known_by only know g l is = record {
  sound = sound_known only g l is;
  surveyed_is = is.surveyed;
  whole = is.len;
  first_is = first_known g l is (know g l.survey is.surveyed);
  told = for_none None (λ h. IsToldHere g l.space.translated h) refl;
  boxed_is = for_none None (λ h. ForSome None (λ r. HasBox g h.read.header (sieve_in r) l.space.band)) refl;
}

pub known_view : HasNoOtherFault → ((g : List ℕ) (s : Survey) → surveyed UnpackChecks g ≡ Ok s → IsKnown Unpack g s) → (held : Option (List ℕ)) (l : Looked) → IfSome held (λ g. IsLooked g l) →
    ForSome held (λ g. IsKnownView g l.plain_len l.survey l.first l.space None None)
known_view only know held l looked = some_weaker held (λ g. IsLooked g l) (λ g. IsKnownView g l.plain_len l.survey l.first l.space None None) (λ g is. known_by only know g l is) looked

pub reads_since : (held : Option (List ℕ)) (start now : Option (List (ℕ × ℕ))) → IfSome held (λ g. LogsIn (touched_by Unpack g) start now) → StaysTold start now → AreReads held start now
reads_since held start now logs told = record {
  touched = some_weaker held (λ g. LogsIn (touched_by Unpack g) start now) (λ g. reads_in (touched_by Unpack g) start now ≡ true) (λ g is. logs_is (touched_by Unpack g) start now is) logs;
  told = told;
}

pub reads_until : (held : Option (List ℕ)) (start now : Option (List (ℕ × ℕ))) → AreReads held start now → IfSome held (λ g. LogsIn (touched_by Unpack g) start now)
reads_until held start now reads =
    weaker_some held (λ g. reads_in (touched_by Unpack g) start now ≡ true) (λ g. LogsIn (touched_by Unpack g) start now) (λ g is. is_logs (touched_by Unpack g) start now is) reads.touched

-- nothing was refused, and nothing failed
pub no_refusals : (held : Option (List ℕ)) → AreRefusals held None 0
no_refusals held = record {
  late = for_none None (λ x. is_late x ≡ true) refl;
  never = λ g is. refl;
  none = λ zero. refl;
  some = λ none. refl;
}

pub no_failures : (start now : Tally) → start ≡ now → AreFailures start now None
no_failures start now same = record {
  kept = subst (CountsKept start) same (kept_same start);
  clean = λ none. sym same;
  rose = λ is. absurd cc;
  wanted = λ is. absurd cc;
}
