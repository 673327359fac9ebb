-- The HDUs that were verified so far, where the source tells its bytes, and one more.
use Rattle.std.proofs.Common.{◌≡◌, ℕ, ◌+◌, ◌<◌, ◌≤◌, inl, inr, Bool, true, false, List, [], ◌∷◌, ◌++◌, length, refl, sym, ap, ◌∙◌, subst, arith}
use Rattle.std.specs.Prelude.{Option, Some, None, IfSome, Result, Ok, Err, not, nat_lt, ◌&&◌, ◌||◌}
use Rattle.std.specs.List.{filter, list_any}
use Rattle.std.proofs.lemmas.Grind.{flat_map-append}
use Rattle.std.proofs.lemmas.List.{append-nil, append_assoc}
use Rattle.std.proofs.lemmas.List.Folds.{list_any-append}
use Rattle.std.proofs.Math.Bool.{beq}
use Rattle.std.proofs.Math.Dec.{eqb}
use Rattle.fz_base.specs.Sink.{MayAppend, appended}
use Rattle.fz_base.specs.Source.{HoldsLength}
use Rattle.fz_base.specs.Stop.{IfRefused}
use Rattle.fz_base.specs.declared.fault.Fault.{Fault}
use Rattle.fz_base.specs.declared.failure.Stop.{Stop}
use Rattle.fz_base.specs.declared.failure.Stop.TheVariants.{Refused, ReadFault, WriteFault, OverLimit, NoMemory}
use Rattle.fz_block.specs.Header.{next_start_of}
use Rattle.fz_block.specs.declared.header.Header.{Header}
use Rattle.fz_files.specs.FirstFault.{IsFirstRowFault, all_rows}
use Rattle.fz_files.specs.Lines.{before_fault, has_wrong_sum, verify_line}
use Rattle.fz_job.specs.declared.survey.Survey.{Survey}
use Rattle.fz_job.specs.Again.{ReadsAsSeen, WereSeen, is_empty_primary}
use Rattle.fz_job.specs.Known.{IsList}
use Rattle.fz_verify.specs.Printed.{AreChecked, AreRowsSound, AreVerified, ChecksHdu, GotBefore, GotLineFront, GotSome, GotVerified, IsChecking, IsPart, VerifiesSeen, verify_lines}
use Rattle.fz_verify.specs.Rows.{IsHduFault, IsHduSound, SoundRowsAreNotRefused}
use Rattle.fz_job.specs.declared.again.ReadHdu.{ReadHdu}
use Rattle.fz_verify.proofs.Parts.{all_by_count, never_changed, never_refused, none_done, one_done}
use Rattle.fz_verify.proofs.Rows.{Numbered, fault_among, fault_later, front_kept, hdu_number, none_kept, numbered, numbers_behind, sound_among, sound_joined}
use Rattle.fz_verify.proofs.Texts.{appended_none, front_all, front_behind, front_wider, got_both}

-- ---- lines

lines_more : (file : List ℕ) (done : List Header) (h : Header) → verify_lines file (done ++ h ∷ []) ≡ verify_lines file done ++ verify_line file h
lines_more file done h = flat_map-append (verify_line file) done (h ∷ []) ∙ ap (λ l. verify_lines file done ++ l) (append-nil (verify_line file h))

-- ---- verdicts

both_not : (a b : Bool) → (not a && not b) ≡ not (a || b)
both_not true true = refl
both_not true false = refl
both_not false true = refl
both_not false false = refl

not_or : (a b x y : Bool) → x ≡ not a → y ≡ not b → (x && y) ≡ not (a || b)
not_or a b x y is js = (λ i. is i && js i) ∙ both_not a b

or_false : (b : Bool) → (b || false) ≡ b
or_false true = refl
or_false false = refl

judged_more : (file : List ℕ) (done : List Header) (h : Header) (right sound : Bool) → right ≡ not (list_any (has_wrong_sum file) done) → sound ≡ not (has_wrong_sum file h) → (right && sound) ≡ not (list_any (has_wrong_sum file) (done ++ h ∷ []))
judged_more file done h right sound before here =
    not_or (list_any (has_wrong_sum file) done) (has_wrong_sum file h) right sound before here
    ∙ ap not (ap (λ b. list_any (has_wrong_sum file) done || b) (sym (or_false (has_wrong_sum file h))) ∙ sym (list_any-append (has_wrong_sum file) done (h ∷ [])))

pub verified_more : (file : List ℕ) (done : List Header) (h : Header) (right sound : Bool) → AreVerified file done right → IsHduSound file h → sound ≡ not (has_wrong_sum file h) → AreVerified file (done ++ h ∷ []) (right && sound)
verified_more file done h right sound are rows here = record {
  sound = sound_joined file done (h ∷ []) are.sound rows;
  judged = judged_more file done h right sound are.judged here;
}

-- ---- the lines before a fault

module _ (law : SoundRowsAreNotRefused) (file : List ℕ) (s : Survey) (hs done rest : List Header) (list : IsList file s hs) (parts : hs ≡ done ++ rest) (sound : IsFirstRowFault file (all_rows file done) None) where
  were : WereSeen file s.header_len s.tile 0 0 (done ++ rest)
  were = subst (λ l. WereSeen file s.header_len s.tile 0 0 l) parts list.seen

  -- those of the HDUs without one come first
  kept_by : (fault : Option Fault) → IsFirstRowFault file (all_rows file (done ++ rest)) fault → (after : List Header) × (before_fault fault (done ++ rest) ≡ done ++ after)
  kept_by None is = (rest, refl)
  kept_by (Some x) is =
      let room : 0 + length done ≤ x.hdu = omega (arith, fault_later law file s.header_len s.tile done rest x were sound is) in
      (filter (λ (h : Header). nat_lt h.hdu x.hdu) rest, front_kept file done rest 0 x.hdu (numbered file s.header_len s.tile 0 0 (done ++ rest) were) room)

  front_by : (old now : Option (List ℕ)) → MayAppend (verify_lines file done) old now → (fault : Option Fault) → IsFirstRowFault file (all_rows file (done ++ rest)) fault → MayAppend (verify_lines file (before_fault fault (done ++ rest))) old now
  front_by old now front fault is =
      let kept = kept_by fault is in
      let wider : MayAppend (verify_lines file done ++ verify_lines file kept.0) old now = front_wider (verify_lines file done) (verify_lines file kept.0) old now front in
      subst (λ l. MayAppend l old now) (sym (ap (verify_lines file) kept.1 ∙ flat_map-append (verify_line file) done kept.0)) wider

  -- so a front of their lines is one of what the job prints
  pub got_some : (old now : Option (List ℕ)) → MayAppend (verify_lines file done) old now → GotSome file hs old now
  got_some old now front =
      subst (λ l. GotSome file l old now) (sym parts) (front_by old now front)

-- where the HDU after others without a fault has one, these are all before it
pub before_it : (file : List ℕ) (s : Survey) (hs done rest : List Header) (h : Header) (x : Fault) → IsList file s hs → hs ≡ (done ++ h ∷ []) ++ rest → IsHduFault file h x → before_fault (Some x) hs ≡ done
before_it file s hs done rest h x list parts fault =
    let both : hs ≡ done ++ h ∷ rest = parts ∙ append_assoc done (h ∷ []) rest in
    let numbers = subst (λ l. Numbered file 0 l) both (numbered file s.header_len s.tile 0 0 hs list.seen) in
    let behind = numbers_behind file done (h ∷ rest) 0 numbers in
    let number : x.hdu ≡ h.hdu = hdu_number file h x fault in
    ap (λ l. filter (λ (j : Header). nat_lt j.hdu x.hdu) l) both
    ∙ front_kept file done (h ∷ rest) 0 x.hdu numbers (omega (arith, number, behind.0))
    ∙ ap (λ l. done ++ l) (none_kept file (h ∷ rest) (0 + length done) x.hdu behind (omega (arith, number, behind.0)))
    ∙ append-nil done

-- ---- the loop over the HDUs

-- an error that refuses nothing, after a front of the lines
stops_by : (X : Type 0) (file : List ℕ) (hs : List Header) (old new : Option (List ℕ)) (stop : Stop) → IfRefused {X = X} (Err stop) (λ x. ⊥) → GotSome file hs old new → GotVerified file hs old new (Err stop)
stops_by X file hs old new (Refused x) never front = absurd never
stops_by X file hs old new ReadFault never front = front
stops_by X file hs old new WriteFault never front = front
stops_by X file hs old new (OverLimit live asked limit) never front = front
stops_by X file hs old new NoMemory never front = front

module _ (law : SoundRowsAreNotRefused) (s : Survey) (old : Option (List ℕ)) where
  -- nothing is verified before the first
  pub none_checked : (held : Option (List ℕ)) → IfSome held (IsChecking s 0 0 false true old old)
  none_checked None = tt
  none_checked (Some g) = λ hs list. record { done = []; part = none_done g s hs list; contents = appended_none old; verified = record { sound = tt; judged = refl } }

  pub more_checked : (held : Option (List ℕ)) (k start : ℕ) (flag flag' right sound : Bool) (mid now : Option (List ℕ)) (a : ReadHdu) → k < s.hdus → IfSome held (IsChecking s k start flag right old mid) →
      IfSome held (λ g. ReadsAsSeen g k start flag s.header_len s.tile (Ok a)) → IfSome held (λ g. ChecksHdu g a.header mid now (Ok sound)) → flag' ≡ is_empty_primary a.header →
      IfSome held (IsChecking s (k + 1) (next_start_of a.header) flag' (right && sound) old now)
  more_checked None k start flag flag' right sound mid now a few was again checked says = tt
  more_checked (Some g) k start flag flag' right sound mid now a few was again checked says = λ hs list.
      let w = was hs list in
      record {
        done = w.done ++ a.header ∷ [];
        part = one_done g s hs w.done k start flag w.part (omega (arith, few, list.count)) a flag' again says;
        contents = got_both (verify_lines g w.done) (verify_line g a.header) old mid now w.contents checked.2 ∙ ap (λ l. appended l old) (sym (lines_more g w.done a.header));
        verified = verified_more g w.done a.header right sound w.verified checked.0 checked.1;
      }

  all_verified : (g : List ℕ) (hs : List Header) (k start : ℕ) (flag right : Bool) (now : Option (List ℕ)) (w : AreChecked g s hs k start flag right old now) → hs ≡ w.done → GotVerified g hs old now (Ok right)
  all_verified g hs k start flag right now w all =
      (subst (λ l. AreVerified g l right) (sym all) w.verified, w.contents ∙ ap (λ l. appended (verify_lines g l) old) (sym all))

  -- all are verified
  pub ends_with_last : (held : Option (List ℕ)) (k start : ℕ) (flag right : Bool) (now : Option (List ℕ)) → s.hdus ≤ k →
      IfSome held (IsChecking s k start flag right old now) → IfSome held (λ g. VerifiesSeen g s old now (Ok right))
  ends_with_last None k start flag right now last was = tt
  ends_with_last (Some g) k start flag right now last was = λ hs list.
      let w = was hs list in
      all_verified g hs k start flag right now w (all_by_count g s hs w.done k start flag w.part (omega (arith, last, list.count)))

  -- a file was not seen if another HDU than the last ends it, or the last does not
  pub stops_changed : (held : Option (List ℕ)) (len k start : ℕ) (flag right : Bool) (now : Option (List ℕ)) (result : Result Bool Stop) → HoldsLength held len → not (beq (eqb start len) (eqb k s.hdus)) ≡ true →
      IfSome held (IsChecking s k start flag right old now) → IfSome held (λ g. VerifiesSeen g s old now result)
  stops_changed None len k start flag right now result told differ was = tt
  stops_changed (Some g) len k start flag right now result told differ was = λ hs list.
      let w = was hs list in
      absurd (never_changed g s hs list w.done len k start flag w.part told differ)

  -- if no row of all HDUs has a fault, none of the next one has
  pub next_sound : (held : Option (List ℕ)) (k start : ℕ) (flag right : Bool) (mid : Option (List ℕ)) (a : ReadHdu) → k < s.hdus → IfSome held (IsChecking s k start flag right old mid) →
      IfSome held (λ g. ReadsAsSeen g k start flag s.header_len s.tile (Ok a)) → IfSome held (AreRowsSound s) → IfSome held (λ g. IsHduSound g a.header)
  next_sound None k start flag right mid a few was again all = tt
  next_sound (Some g) k start flag right mid a few was again all =
      let w = was all.headers all.seen in
      let p = one_done g s all.headers w.done k start flag w.part (omega (arith, few, all.seen.count)) a (is_empty_primary a.header) again refl in
      let parts : all.headers ≡ w.done ++ a.header ∷ p.rest = p.parts ∙ append_assoc w.done (a.header ∷ []) p.rest in
      sound_among g w.done p.rest a.header (subst (λ l. IsFirstRowFault g (all_rows g l) None) parts all.sound)

  -- the header of the next was not read
  pub stops_reading : (held : Option (List ℕ)) (stop : Stop) (k start : ℕ) (flag right : Bool) (now : Option (List ℕ)) → k < s.hdus → IfSome held (IsChecking s k start flag right old now) →
      IfSome held (λ g. ReadsAsSeen g k start flag s.header_len s.tile (Err stop)) → IfSome held (λ g. VerifiesSeen g s old now (Err stop))
  stops_reading None stop k start flag right now few was again = tt
  stops_reading (Some g) stop k start flag right now few was again = λ hs list.
      let w = was hs list in
      stops_by ReadHdu g hs old now stop (never_refused g s hs w.done k start flag w.part (omega (arith, few, list.count)) stop again)
      (got_some law g s hs w.done w.part.rest list w.part.parts w.verified.sound old now (front_all (verify_lines g w.done) old now w.contents))

  -- it was not verified
  module _ (g : List ℕ) (hs : List Header) (list : IsList g s hs) (k start : ℕ) (flag right : Bool) (mid now : Option (List ℕ)) (a : ReadHdu) (little : k < length hs) (w : AreChecked g s hs k start flag right old mid) (again : ReadsAsSeen g k start flag s.header_len s.tile (Ok a)) where
    p : IsPart g s hs (w.done ++ a.header ∷ []) (k + 1) (next_start_of a.header) (is_empty_primary a.header)
    p = one_done g s hs w.done k start flag w.part little a (is_empty_primary a.header) again refl

    some_front : GotLineFront g a.header mid now → GotSome g hs old now
    some_front (inl (rows, front)) =
        let both : MayAppend (verify_lines g w.done ++ verify_line g a.header) old now = front_behind (verify_lines g w.done) (verify_line g a.header) old mid now w.contents front in
        let those : MayAppend (verify_lines g (w.done ++ a.header ∷ [])) old now = subst (λ l. MayAppend l old now) (sym (lines_more g w.done a.header)) both in
        got_some law g s hs (w.done ++ a.header ∷ []) p.rest list p.parts (sound_joined g w.done (a.header ∷ []) w.verified.sound rows) old now those
    some_front (inr same) =
        got_some law g s hs w.done w.part.rest list w.part.parts w.verified.sound old now (front_all (verify_lines g w.done) old now (same ∙ w.contents))

    faulty : (x : Fault) → IsHduFault g a.header x → now ≡ mid → IsFirstRowFault g (all_rows g hs) (Some x) × GotBefore g hs (Some x) old now
    faulty x fault same = (
      subst (λ l. IsFirstRowFault g (all_rows g l) (Some x)) (sym (p.parts ∙ append_assoc w.done (a.header ∷ []) p.rest)) (fault_among g w.done p.rest a.header x w.verified.sound fault),
      same ∙ w.contents ∙ ap (λ l. appended (verify_lines g l) old) (sym (before_it g s hs w.done p.rest a.header x list p.parts fault)),
    )

    checked_by : (stop : Stop) → ChecksHdu g a.header mid now (Err stop) → GotVerified g hs old now (Err stop)
    checked_by (Refused x) is = faulty x is.0 is.1
    checked_by ReadFault is = some_front is
    checked_by WriteFault is = some_front is
    checked_by (OverLimit live asked limit) is = some_front is
    checked_by NoMemory is = some_front is

  pub stops_checking : (held : Option (List ℕ)) (stop : Stop) (k start : ℕ) (flag right : Bool) (mid now : Option (List ℕ)) (a : ReadHdu) → k < s.hdus → IfSome held (IsChecking s k start flag right old mid) →
      IfSome held (λ g. ReadsAsSeen g k start flag s.header_len s.tile (Ok a)) → IfSome held (λ g. ChecksHdu g a.header mid now (Err stop)) → IfSome held (λ g. VerifiesSeen g s old now (Err stop))
  stops_checking None stop k start flag right mid now a few was again checked = tt
  stops_checking (Some g) stop k start flag right mid now a few was again checked = λ hs list.
      checked_by g hs list k start flag right mid now a (omega (arith, few, list.count)) (was hs list) again stop checked
