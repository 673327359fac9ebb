-- The lines of `list` so far, where the source tells its bytes, and one more.
use Rattle.std.proofs.Common.{◌≡◌, ℕ, ◌+◌, ◌<◌, ◌≤◌, Bool, true, false, List, [], ◌∷◌, ◌++◌, length, refl, sym, ap, ◌∙◌, subst, arith}
use Rattle.std.specs.Prelude.{Option, Some, None, IfSome, Result, Ok, Err, not}
use Rattle.std.proofs.lemmas.Grind.{flat_map-append}
use Rattle.std.proofs.lemmas.List.{append-nil}
use Rattle.std.proofs.Math.Bool.{beq}
use Rattle.std.proofs.Math.Dec.{eqb}
use Rattle.fz_base.specs.Sink.{MayAppend, appended}
use Rattle.fz_base.specs.Source.{HoldsLength}
use Rattle.fz_base.specs.Stop.{IfRefused, StoppedByWrite}
use Rattle.fz_base.specs.Counts.{Tally}
use Rattle.fz_base.specs.declared.failure.Stop.{Stop}
use Rattle.fz_base.specs.declared.failure.Stop.TheVariants.{Refused, ReadFault, WriteFault, OverLimit, NoMemory}
use Rattle.fz_block.specs.Header.{next_start_of}
use Rattle.fz_block.specs.declared.header.Header.{Header}
use Rattle.fz_files.specs.Lines.{list_line}
use Rattle.fz_job.specs.declared.survey.Survey.{Survey}
use Rattle.fz_job.specs.Again.{ReadsAsSeen, is_empty_primary}
use Rattle.fz_verify.specs.Printed.{GotListed, IsListing, ListsSeen, list_lines}
use Rattle.fz_job.specs.declared.again.ReadHdu.{ReadHdu}
use Rattle.fz_verify.proofs.Parts.{all_by_count, never_changed, never_refused, none_done, one_done}
use Rattle.fz_verify.proofs.Texts.{appended_none, front_all, front_behind, front_wider, got_both}

-- a line after others
lines_more : (file : List ℕ) (done : List Header) (h : Header) → list_lines file (done ++ h ∷ []) ≡ list_lines file done ++ list_line file h
lines_more file done h = flat_map-append (list_line file) done (h ∷ []) ∙ ap (λ l. list_lines file done ++ l) (append-nil (list_line file h))

-- an error that refuses nothing, after a front of the lines
pub stops_listing : (X Y : Type 0) (lines : List ℕ) (old new : Option (List ℕ)) (stop : Stop) → IfRefused {X = X} (Err stop) (λ x. ⊥) → MayAppend lines old new → GotListed {X = Y} lines old new (Err stop)
stops_listing X Y lines old new (Refused x) never front = absurd never
stops_listing X Y lines old new ReadFault never front = front
stops_listing X Y lines old new WriteFault never front = front
stops_listing X Y lines old new (OverLimit live asked limit) never front = front
stops_listing X Y lines old new NoMemory never front = front

-- a failed `put` refuses nothing
pub write_refuses_none : (X : Type 0) (before now : Tally) (stop : Stop) → StoppedByWrite before now stop → IfRefused {X = X} (Err stop) (λ x. ⊥)
write_refuses_none X before now (Refused x) why = why
write_refuses_none X before now ReadFault why = tt
write_refuses_none X before now WriteFault why = tt
write_refuses_none X before now (OverLimit live asked limit) why = tt
write_refuses_none X before now NoMemory why = tt

module _ (s : Survey) (old : Option (List ℕ)) where
  -- nothing is printed before the first
  pub none_listed : (held : Option (List ℕ)) → IfSome held (IsListing s 0 0 false old old)
  none_listed None = tt
  none_listed (Some g) = λ hs list. record { done = []; part = none_done g s hs list; contents = appended_none old }

  pub more_listed : (held : Option (List ℕ)) (k start : ℕ) (flag flag' : Bool) (mid now : Option (List ℕ)) (a : ReadHdu) → k < s.hdus → IfSome held (IsListing s k start flag old mid) →
      IfSome held (λ g. ReadsAsSeen g k start flag s.header_len s.tile (Ok a)) → IfSome held (λ g. now ≡ appended (list_line g a.header) mid) → flag' ≡ is_empty_primary a.header →
      IfSome held (IsListing s (k + 1) (next_start_of a.header) flag' old now)
  more_listed None k start flag flag' mid now a few was again got says = tt
  more_listed (Some g) k start flag flag' mid now a few was again got says = λ hs list.
      let w = was hs list in
      record {
        done = w.done ++ a.header ∷ [];
        part = one_done g s hs w.done k start flag w.part (omega (arith, few, list.count)) a flag' again says;
        contents = got_both (list_lines g w.done) (list_line g a.header) old mid now w.contents got ∙ ap (λ l. appended l old) (sym (lines_more g w.done a.header));
      }

  -- all are printed
  pub ends_with_last : (X : Type 0) (x : X) (held : Option (List ℕ)) (k start : ℕ) (flag : Bool) (now : Option (List ℕ)) → s.hdus ≤ k →
      IfSome held (IsListing s k start flag old now) → IfSome held (λ g. ListsSeen {X = X} g s old now (Ok x))
  ends_with_last X x None k start flag now last was = tt
  ends_with_last X x (Some g) k start flag now last was = λ hs list.
      let w = was hs list in
      let all = all_by_count g s hs w.done k start flag w.part (omega (arith, last, list.count)) in
      w.contents ∙ ap (λ l. appended (list_lines g l) old) (sym all)

  -- a file was not seen if another HDU than the last ends it, or the last does not
  pub stops_changed : (X : Type 0) (held : Option (List ℕ)) (len k start : ℕ) (flag : Bool) (now : Option (List ℕ)) (result : Result X Stop) → HoldsLength held len → not (beq (eqb start len) (eqb k s.hdus)) ≡ true →
      IfSome held (IsListing s k start flag old now) → IfSome held (λ g. ListsSeen {X = X} g s old now result)
  stops_changed X None len k start flag now result told differ was = tt
  stops_changed X (Some g) len k start flag now result told differ was = λ hs list.
      let w = was hs list in
      absurd (never_changed g s hs list w.done len k start flag w.part told differ)

  -- the header of the next was not read
  pub stops_reading : (X : Type 0) (held : Option (List ℕ)) (stop : Stop) (k start : ℕ) (flag : Bool) (now : Option (List ℕ)) → k < s.hdus → IfSome held (IsListing s k start flag old now) →
      IfSome held (λ g. ReadsAsSeen g k start flag s.header_len s.tile (Err stop)) → IfSome held (λ g. ListsSeen {X = X} g s old now (Err stop))
  stops_reading X None stop k start flag now few was again = tt
  stops_reading X (Some g) stop k start flag now few was again = λ hs list.
      let w = was hs list in
      let front : MayAppend (list_lines g w.done) old now = front_all (list_lines g w.done) old now w.contents in
      let wider : MayAppend (list_lines g w.done ++ list_lines g w.part.rest) old now = front_wider (list_lines g w.done) (list_lines g w.part.rest) old now front in
      stops_listing ReadHdu X (list_lines g hs) old now stop (never_refused g s hs w.done k start flag w.part (omega (arith, few, list.count)) stop again)
      (subst (λ l. MayAppend l old now) (sym (ap (list_lines g) w.part.parts ∙ flat_map-append (list_line g) w.done w.part.rest)) wider)

  -- its line was not printed
  pub stops_printing : (X : Type 0) (held : Option (List ℕ)) (stop : Stop) (before after : Tally) (k start : ℕ) (flag : Bool) (mid now : Option (List ℕ)) (a : ReadHdu) → k < s.hdus → IfSome held (IsListing s k start flag old mid) →
      IfSome held (λ g. ReadsAsSeen g k start flag s.header_len s.tile (Ok a)) → IfSome held (λ g. MayAppend (list_line g a.header) mid now) → StoppedByWrite before after stop →
      IfSome held (λ g. ListsSeen {X = X} g s old now (Err stop))
  stops_printing X None stop before after k start flag mid now a few was again front why = tt
  stops_printing X (Some g) stop before after k start flag mid now a few was again front why = λ hs list.
      let w = was hs list in
      let little : k < length hs = omega (arith, few, list.count) in
      let p = one_done g s hs w.done k start flag w.part little a (is_empty_primary a.header) again refl in
      let both : MayAppend (list_lines g w.done ++ list_line g a.header) old now = front_behind (list_lines g w.done) (list_line g a.header) old mid now w.contents front in
      let those : MayAppend (list_lines g (w.done ++ a.header ∷ [])) old now = subst (λ l. MayAppend l old now) (sym (lines_more g w.done a.header)) both in
      let wider : MayAppend (list_lines g (w.done ++ a.header ∷ []) ++ list_lines g p.rest) old now = front_wider (list_lines g (w.done ++ a.header ∷ [])) (list_lines g p.rest) old now those in
      stops_listing X X (list_lines g hs) old now stop (write_refuses_none X before after stop why)
      (subst (λ l. MayAppend l old now) (sym (ap (list_lines g) p.parts ∙ flat_map-append (list_line g) (w.done ++ a.header ∷ []) p.rest)) wider)
