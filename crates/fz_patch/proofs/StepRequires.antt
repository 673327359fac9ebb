-- What the parts of a patch require, by what those before them keep.
use Rattle.std.proofs.Common.{◌≡◌, ℕ, ◌+◌, ◌*◌, ◌^◌, ◌<◌, ◌≤◌, Bool, true, false, List, length, Option, Some, None, if◌then◌else◌, refl, sym, subst, arith}
use Rattle.std.specs.Option.{option_map}
use Rattle.std.specs.Prelude.{IfSome}
use Rattle.fz_block.specs.declared.header.Header.{Header}
use Rattle.fz_files.specs.Restored.{header_in}
use Rattle.fz_laws.specs.Amends.{applied}
use Rattle.fz_laws.specs.PatchLaws.{CardsStandInPlace}
use Rattle.fz_patch.specs.Cards.{HasPlaces, forms_writes}
use Rattle.fz_target.specs.Measures.{HasRoom}
use Rattle.fz_target.specs.Steps.{KeepsHeader}
use Rattle.fz_target.specs.Targets.{IsFoundBy, IsTarget, IsTargetIn, grown_by}
use Rattle.fz_patch.specs.declared.column.Forms.{Forms}
use Rattle.fz_target.specs.declared.measure.Measure.{Measure}
use Rattle.fz_patch.specs.declared.places.Places.{Places}
use Rattle.fz_target.specs.declared.target.Target.{Target}
use Rattle.fz_patch.proofs.CodedEnds.{ends_of}
use Rattle.fz_patch.proofs.EndsTold.{some_of}
use Rattle.fz_patch.proofs.StepHeaders.{StepLaws, all_there, grown_said}

pub kept_header : (h : Header) (held held' : Option (List ℕ)) (f new : List ℕ) → held ≡ Some f → held' ≡ Some new → KeepsHeader h held held' → header_in new h ≡ header_in f h
kept_header h held held' f new is is' keeps =
    some_of held' (λ x. header_in x h ≡ header_in f h) new is' (keeps (header_in f h) (subst (λ (o : Option (List ℕ)). IfSome o (λ x. header_in x h ≡ header_in f h)) (sym is) refl))

-- the heap with the new codes ends where a descriptor can say
pub heap_says : (t : Target) (m : Measure) → IsTarget t → HasRoom t m → t.image.table.heap_len + m.bytes < (if t.wide then 2 ^ 63 else 2 ^ 31)
heap_says t m is room = by_width t.wide refl
  where
    by_width : (wide : Bool) → t.wide ≡ wide → t.image.table.heap_len + m.bytes < (if wide then 2 ^ 63 else 2 ^ 31)
    by_width true e = let short = (ends_of t m room).short in omega (arith, short, is.heap_len)
    by_width false e = let low = (ends_of t m room).narrow e in omega (arith, low, is.heap_len)

module _ (laws : StepLaws) (t : Target) (header : List ℕ) (places : Places) (m : Measure) (forms : Forms) (is : IsTarget t) (by : IsFoundBy header t) (at : HasPlaces header places) (room : HasRoom t m) (small : IfSome forms.coded (λ n. n < 2 ^ 64) × IfSome forms.stored (λ n. n < 2 ^ 64)) (place : CardsStandInPlace) where
  -- after the cards were put there
  pub said_cards : (now : Option (List ℕ)) → IfSome now (λ f. header_in f t.header ≡ header) → IfSome now (λ f. t.header.start + 2880 * t.header.blocks ≤ length f) →
      IfSome (option_map (applied (forms_writes t places m forms)) now) (λ f. IsTargetIn f (grown_by t m.bytes))
  said_cards None there long = tt
  said_cards (Some f) there long =
      let after = all_there laws t header places m forms is by at room small place f there long in
      grown_said laws t header places m forms is by at room small (applied (forms_writes t places m forms) f) after.there

  pub said_after : (held held2 now : Option (List ℕ)) → held2 ≡ held → IfSome held (λ f. header_in f t.header ≡ header) → KeepsHeader t.header held2 now → IfSome now (λ f. t.header.start + 2880 * t.header.blocks ≤ length f) →
      IfSome (option_map (applied (forms_writes t places m forms)) now) (λ f. IsTargetIn f (grown_by t m.bytes))
  said_after held held2 now same there keeps long =
      said_cards now (keeps header (subst (λ (o : Option (List ℕ)). IfSome o (λ f. header_in f t.header ≡ header)) (sym same) there)) long
