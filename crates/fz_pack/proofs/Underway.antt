-- The HDUs so far are written, where the source tells its bytes, and what one more makes of them (FITS 4.0, section 3.1).
use Rattle.std.proofs.Common.{◌≡◌, ℕ, suc, ◌+◌, ◌<◌, Bool, true, false, List, [], ◌∷◌, ◌++◌, length, map, Option, Some, None, IfSome, Result, Ok, Err, refl, sym, ap, subst, ◌∙◌, add-one, arith}
use Rattle.std.proofs.lemmas.List.{append-nil, append_assoc, length-append, map-append}
use Rattle.std.proofs.lemmas.Bool.Decides.{nat_tests}
use Rattle.std.proofs.Math.Bool.{beq}
use Rattle.std.proofs.Math.Dec.{eqb}
use Rattle.std.specs.Prelude.{◌&&◌, not, nat_le, nat_lt, bytes_eq, codes, take, drop}
use Rattle.fz_base.specs.Counts.{Tally}
use Rattle.fz_base.specs.Refusal.{first_refusal, refusal}
use Rattle.fz_base.specs.Source.{HoldsLength}
use Rattle.fz_base.specs.Stop.{IfRefused, StoppedCoding}
use Rattle.fz_base.specs.declared.fault.Fault.{Fault}
use Rattle.fz_base.specs.declared.fault.Place.TheVariants.{Byte}
use Rattle.fz_base.specs.declared.kind.Kind.TheVariants.{Limit, TrailingBytes, Truncated}
use Rattle.fz_base.specs.declared.failure.Stop.{Stop}
use Rattle.fz_base.specs.declared.failure.Stop.TheVariants.{Refused, ReadFault, WriteFault, OverLimit, NoMemory}
use Rattle.fz_block.specs.Cards.{end_of}
use Rattle.fz_block.specs.Checks.{block_checks, blocks_to_end, header_room, hdu_at, header_blocks_of, header_in, unless_refused}
use Rattle.fz_block.specs.Hdus.{Hdu}
use Rattle.fz_block.specs.Header.{next_start_of}
use Rattle.fz_block.specs.Walk.{hdu_of}
use Rattle.fz_block.specs.declared.header.Header.{Header}
use Rattle.fz_head.specs.declared.options.PackOptions.{PackOptions}
use Rattle.fz_files.specs.Packed.{packed_file, packed_from, packed_hdu}
use Rattle.fz_pack.specs.Again.{ReadsAsSeen, WereSeen}
use Rattle.fz_job.specs.Behind.{written_behind}
use Rattle.fz_pack.specs.Behind.{AreWritten, HoldsHdu, IsUnderway, RewritesSeen}
use Rattle.fz_pack.specs.declared.again.Again.{Again}
use Rattle.fz_pack.proofs.Ends.{tests_agree, tests_differ}
use Rattle.fz_pack.proofs.Hdus.{AreOneWrite, both_behind, none_behind}

-- ---- one more HDU of the packed file

next_number : (k n : ℕ) → suc k + n ≡ k + suc n
next_number k n = omega arith

packed_more : (o : PackOptions) (k : ℕ) (hs : List Hdu) (h : Hdu) → packed_from o k (hs ++ h ∷ []) ≡ packed_from o k hs ++ packed_hdu o (k + length hs) h
unfolding packed_from
packed_more o k [] h =
    let same : k ≡ k + 0 = omega arith in
    append-nil (packed_hdu o k h) ∙ ap (λ n. packed_hdu o n h) same
packed_more o k (g ∷ hs) h =
    ap (λ l. packed_hdu o k g ++ l) (packed_more o (suc k) hs h)
    ∙ sym (append_assoc (packed_hdu o k g) (packed_from o (suc k) hs) (packed_hdu o (suc k + length hs) h))
    ∙ ap (λ n. (packed_hdu o k g ++ packed_from o (suc k) hs) ++ packed_hdu o n h) (next_number k (length hs))

length_map : (file : List ℕ) (hs : List Header) → length (map (hdu_of file) hs) ≡ length hs
length_map file [] = refl
length_map file (h ∷ hs) = ap suc (length_map file hs)

-- the packed HDUs of a file
abbrev out : PackOptions → List ℕ → List Header → List ℕ
out o file hs = packed_file o (map (hdu_of file) hs)

out_none : (o : PackOptions) (file : List ℕ) → out o file [] ≡ []
unfolding packed_from
out_none o file = refl

out_more : (o : PackOptions) (file : List ℕ) (hs : List Header) (h : Header) (k : ℕ) → length hs ≡ k → out o file (hs ++ h ∷ []) ≡ out o file hs ++ packed_hdu o k (hdu_of file h)
out_more o file hs h k count =
    let number : 0 + length (map (hdu_of file) hs) ≡ k = omega (arith, length_map file hs, count) in
    ap (packed_from o 0) (map-append (hdu_of file) hs (h ∷ []))
    ∙ packed_more o 0 (map (hdu_of file) hs) (hdu_of file h)
    ∙ ap (λ n. out o file hs ++ packed_hdu o n (hdu_of file h)) number

-- a write after all that was written before
joined : AreOneWrite → (front back : List ℕ) (contents : Option (List ℕ)) → written_behind (length front) back (written_behind 0 front contents) ≡ written_behind 0 (front ++ back) contents
joined next [] back contents = ap (written_behind 0 back) (sym (none_behind 0 contents))
joined next (b ∷ front) back contents =
    let place : length (b ∷ front) ≡ 0 + length (b ∷ front) = omega arith in
    ap (λ n. written_behind n back (written_behind 0 (b ∷ front) contents)) place
    ∙ both_behind next 0 (b ∷ front) back contents (omega arith)

-- ---- where the file ends

-- a check after two others refuses
third : (a b c : Bool) (x y z : Fault) (checks : List (Bool × Fault)) → c ≡ true → (f : Fault) × (first_refusal ((a, x) ∷ (b, y) ∷ (c, z) ∷ checks) ≡ Some f)
third true b c x y z checks is = (x, refl)
third false true c x y z checks is = (y, refl)
third false false true x y z checks is = (z, refl)
third false false false x y z checks is = absurd cc

never_read : (k start blocks : ℕ) (file : List ℕ) (checks : List (Bool × Fault)) (h : Header) → (f : Fault) × (first_refusal checks ≡ Some f) →
    header_in k start file (unless_refused blocks (first_refusal checks)) ≡ Ok h → ⊥
never_read k start blocks file checks h refused found =
    let never : ◌≡◌ {A = Result Header Fault} (Err refused.0) (Ok h) = sym (ap (λ (r : Option Fault). header_in k start file (unless_refused blocks r)) refused.1) ∙ found in
    cc

-- no HDU begins there
none_there : (k : ℕ) (file : List ℕ) (h : Header) → hdu_at k (length file) file ≡ Ok h → ⊥
unfolding hdu_at header_blocks_of
none_there k file h found =
    let past : nat_lt (length file) (length file + 2880) ≡ true = grind (arith, nat_tests) in
    never_read k (length file) (blocks_to_end (end_of (header_room (length file) file))) file (block_checks k (length file) file) h (third (nat_le 65536 k) (nat_lt 0 k && not (bytes_eq (take 8 (drop (length file) file)) (codes "XTENSION"))) (nat_lt (length file) (length file + 2880))
    (refusal k (Byte (length file)) Limit) (refusal k (Byte (length file)) TrailingBytes) (refusal k (Byte (length file)) Truncated) (drop 3 (block_checks k (length file) file)) past) found

all_done : (hs done rest : List Header) → hs ≡ done ++ rest → rest ≡ [] → hs ≡ done
all_done hs done rest parts none = parts ∙ ap (λ l. done ++ l) none ∙ append-nil done

none_left : (hs done rest : List Header) (k : ℕ) → hs ≡ done ++ rest → length done ≡ k → k ≡ length hs → rest ≡ []
none_left hs done [] k parts count all = refl
none_left hs done (h ∷ rest) k parts count all =
    let sum : length hs ≡ length done + length (h ∷ rest) = ap length parts ∙ length-append done (h ∷ rest) in
    absurd (omega (arith, sum, count, all))

some_left : (hs done : List Header) (k : ℕ) → hs ≡ done ++ [] → length done ≡ k → k < length hs → ⊥
some_left hs done k parts count few =
    let sum : length hs ≡ length done + 0 = ap length parts ∙ length-append done [] in
    omega (arith, sum, count, few)

-- a stop that refuses nothing does so for each call
pub not_refused : (X Y : Type 0) (stop : Stop) → IfRefused {X = X} (Err stop) (λ x. ⊥) → IfRefused {X = Y} (Err stop) (λ x. ⊥)
not_refused X Y (Refused x) never = never
not_refused X Y ReadFault never = tt
not_refused X Y WriteFault never = tt
not_refused X Y (OverLimit live asked limit) never = tt
not_refused X Y NoMemory never = tt

-- ---- the loop over the HDUs

module _ (o : PackOptions) (header_len tile hdus : ℕ) (before : Option (List ℕ)) where
  pub none_written : (held : Option (List ℕ)) → IfSome held (IsUnderway o header_len tile hdus 0 0 0 before before)
  none_written None = tt
  none_written (Some g) = λ hs seen count. record {
    done = [];
    rest = hs;
    parts = refl;
    count = refl;
    seen = seen;
    contents = none_behind 0 before ∙ ap (λ l. written_behind 0 l before) (sym (out_none o g));
    place = ap length (sym (out_none o g));
  }

  one_more : AreOneWrite → (g : List ℕ) (hs done rest : List Header) (k start at end : ℕ) (mid now : Option (List ℕ)) (a : Again) →
      hs ≡ done ++ rest → length done ≡ k → k < length hs → WereSeen o g header_len tile k start rest → mid ≡ written_behind 0 (out o g done) before → at ≡ length (out o g done) →
      ReadsAsSeen o g k start header_len tile (Ok a) → a.header.hdu ≡ k → HoldsHdu o a.header g at end mid now →
      AreWritten o g header_len tile hs (k + 1) (next_start_of a.header) end before now
  one_more next g hs done [] k start at end mid now a parts count few seen is place again number holds = absurd (some_left hs done k parts count few)
  one_more next g hs done (h ∷ rest) k start at end mid now a parts count few seen is place again number holds =
      let same : a.header ≡ h = (again h seen.0).1 in
      let bytes : List ℕ = packed_hdu o k (hdu_of g h) in
      let own : packed_hdu o a.header.hdu (hdu_of g a.header) ≡ bytes =
      ap (λ n. packed_hdu o n (hdu_of g a.header)) number ∙ ap (λ (j : Header). packed_hdu o k (hdu_of g j)) same in
      let whole : out o g (done ++ h ∷ []) ≡ out o g done ++ bytes = out_more o g done h k count in
      let long : length (out o g (done ++ h ∷ [])) ≡ length (out o g done) + length bytes = ap length whole ∙ length-append (out o g done) bytes in
      let behind : end ≡ at + length bytes = holds.behind ∙ ap (λ l. at + length l) own in
      record {
        done = done ++ h ∷ [];
        rest = rest;
        parts = parts ∙ sym (append_assoc done (h ∷ []) rest);
        count = length-append done (h ∷ []) ∙ ap (λ n. n + 1) count;
        seen = subst (λ n. WereSeen o g header_len tile n (next_start_of a.header) rest) (sym (add-one k))
            (subst (λ (j : Header). WereSeen o g header_len tile (suc k) (next_start_of j) rest) (sym same) seen.1);
        contents = holds.contents ∙ ap (λ l. written_behind at l mid) own ∙ ap (λ n. written_behind n bytes mid) place
            ∙ ap (written_behind (length (out o g done)) bytes) is ∙ joined next (out o g done) bytes before ∙ ap (λ l. written_behind 0 l before) (sym whole);
        place = omega (arith, behind, place, long);
      }

  pub more_written : AreOneWrite → (held : Option (List ℕ)) (k start at end : ℕ) (mid now : Option (List ℕ)) (a : Again) → k < hdus →
      IfSome held (IsUnderway o header_len tile hdus k start at before mid) → IfSome held (λ g. ReadsAsSeen o g k start header_len tile (Ok a)) → a.header.hdu ≡ k →
      IfSome held (λ g. HoldsHdu o a.header g at end mid now) → IfSome held (IsUnderway o header_len tile hdus (k + 1) (next_start_of a.header) end before now)
  more_written next None k start at end mid now a few was again number holds = tt
  more_written next (Some g) k start at end mid now a few was again number holds = λ hs seen count.
      let w = was hs seen count in
      let left : k < length hs = omega (arith, few, count) in
      one_more next g hs w.done w.rest k start at end mid now a w.parts w.count left w.seen w.contents w.place again number holds

  -- all are written
  whole_file : {X : Type 0} (x : X) (g : List ℕ) (now : Option (List ℕ)) →
      ((hs : List Header) → WereSeen o g header_len tile 0 0 hs → length hs ≡ hdus → now ≡ written_behind 0 (out o g hs) before) →
      RewritesSeen o g header_len tile hdus before now (Ok x)
  whole_file x g now all = record { packed = all; as_seen = λ hs seen count. tt }

  written_all : (g : List ℕ) (hs : List Header) (k start at : ℕ) (now : Option (List ℕ)) (w : AreWritten o g header_len tile hs k start at before now) → w.rest ≡ [] →
      now ≡ written_behind 0 (out o g hs) before
  written_all g hs k start at now w none = w.contents ∙ ap (λ (l : List Header). written_behind 0 (out o g l) before) (sym (all_done hs w.done w.rest w.parts none))

  pub ends_with_last : {X : Type 0} (x : X) (held : Option (List ℕ)) (k start at : ℕ) (now : Option (List ℕ)) → k ≡ hdus →
      IfSome held (IsUnderway o header_len tile hdus k start at before now) → IfSome held (λ g. RewritesSeen o g header_len tile hdus before now (Ok x))
  ends_with_last x None k start at now last was = tt
  ends_with_last x (Some g) k start at now last was =
      let all : (hs : List Header) → WereSeen o g header_len tile 0 0 hs → length hs ≡ hdus → now ≡ written_behind 0 (out o g hs) before = λ hs seen count.
      let w = was hs seen count in
      written_all g hs k start at now w (none_left hs w.done w.rest k w.parts w.count (last ∙ sym count)) in
      whole_file x g now all

  -- an HDU that was seen ends the file exactly if it is the last
  ends_if_last : (g : List ℕ) (hs done rest : List Header) (k start : ℕ) → hs ≡ done ++ rest → length done ≡ k → length hs ≡ hdus → WereSeen o g header_len tile k start rest → eqb start (length g) ≡ eqb k hdus
  ends_if_last g hs done [] k start parts count all seen =
      let sum : length hs ≡ length done + 0 = ap length parts ∙ length-append done [] in
      tests_agree start (length g) k hdus (λ e. omega (arith, sum, count, all)) (λ e. seen)
  ends_if_last g hs done (h ∷ rest) k start parts count all seen =
      let sum : length hs ≡ length done + length (h ∷ rest) = ap length parts ∙ length-append done (h ∷ rest) in
      tests_agree start (length g) k hdus (λ e. absurd (none_there k g h (subst (λ n. hdu_at k n g ≡ Ok h) e seen.0.found))) (λ e. absurd (omega (arith, sum, count, all, e)))

  -- so the file of which it is not so was not seen, and all may be said of it
  pub stops_changed : (X : Type 0) (held : Option (List ℕ)) (len k start at : ℕ) (now : Option (List ℕ)) (result : Result X Stop) → HoldsLength held len → not (beq (eqb start len) (eqb k hdus)) ≡ true →
      IfSome held (IsUnderway o header_len tile hdus k start at before now) → IfSome held (λ g. RewritesSeen {X = X} o g header_len tile hdus before now result)
  stops_changed X None len k start at now result told differ was = tt
  stops_changed X (Some g) len k start at now result told differ was =
      let never : (hs : List Header) → WereSeen o g header_len tile 0 0 hs → length hs ≡ hdus → ⊥ = λ hs seen count.
      let w = was hs seen count in
      tests_differ (eqb start len) (eqb k hdus) differ (ap (eqb start) (sym told) ∙ ends_if_last g hs w.done w.rest k start w.parts w.count count w.seen) in
      record { packed = λ hs seen count. absurd (never hs seen count); as_seen = λ hs seen count. absurd (never hs seen count) }

  -- the next was refused only if it was not seen
  next_seen : (g : List ℕ) (hs done rest : List Header) (k start : ℕ) (stop : Stop) → hs ≡ done ++ rest → length done ≡ k → k < length hs → WereSeen o g header_len tile k start rest →
      ReadsAsSeen o g k start header_len tile (Err stop) → IfRefused {X = Again} (Err stop) (λ x. ⊥)
  next_seen g hs done [] k start stop parts count few seen again = absurd (some_left hs done k parts count few)
  next_seen g hs done (h ∷ rest) k start stop parts count few seen again = (again h seen.0).0

  pub stops_reading : (X : Type 0) (held : Option (List ℕ)) (stop : Stop) (k start at : ℕ) (mid now : Option (List ℕ)) → k < hdus →
      IfSome held (IsUnderway o header_len tile hdus k start at before mid) → IfSome held (λ g. ReadsAsSeen o g k start header_len tile (Err stop)) →
      IfSome held (λ g. RewritesSeen {X = X} o g header_len tile hdus before now (Err stop))
  stops_reading X None stop k start at mid now few was again = tt
  stops_reading X (Some g) stop k start at mid now few was again = record {
    packed = λ hs seen count. tt;
    as_seen = λ hs seen count.
        let w = was hs seen count in
        let left : k < length hs = omega (arith, few, count) in
        not_refused Again X stop (next_seen g hs w.done w.rest k start stop w.parts w.count left w.seen again);
  }

  -- a call that codes and writes refuses nothing
  pub stops_writing : (X : Type 0) (held : Option (List ℕ)) (source source' sink sink' : Tally) (stop : Stop) (now : Option (List ℕ)) → StoppedCoding source source' sink sink' stop →
      IfSome held (λ g. RewritesSeen {X = X} o g header_len tile hdus before now (Err stop))
  stops_writing X None source source' sink sink' stop now why = tt
  stops_writing X (Some g) source source' sink sink' (Refused x) now why = absurd why
  stops_writing X (Some g) source source' sink sink' ReadFault now why = record { packed = λ hs seen count. tt; as_seen = λ hs seen count. tt }
  stops_writing X (Some g) source source' sink sink' WriteFault now why = record { packed = λ hs seen count. tt; as_seen = λ hs seen count. tt }
  stops_writing X (Some g) source source' sink sink' (OverLimit live asked limit) now why = absurd why
  stops_writing X (Some g) source source' sink sink' NoMemory now why = record { packed = λ hs seen count. tt; as_seen = λ hs seen count. tt }
