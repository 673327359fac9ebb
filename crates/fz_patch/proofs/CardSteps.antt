-- Three lists of writes that were made one after another, or stopped in one of them: PCOUNT, and both forms (FITS 4.0, sections 4.4.1.2 and
-- 7.3.1).
use Rattle.std.proofs.Common.{◌≡◌, ℕ, List, [], ◌∷◌, ◌++◌, Option, ap, ◌∙◌}
use Rattle.fz_base.specs.Counts.{Amend}
use Rattle.fz_head.specs.PackedHeader.{coded_letter, stored_letter}
use Rattle.fz_laws.specs.Writes.{card_write}
use Rattle.fz_sum.specs.Cards.{with_card}
use Rattle.fz_patch.specs.Cards.{form_write, forms_writes, pcount_at, pcount_card, with_form, with_forms}
use Rattle.fz_target.specs.Steps.{Wrote, WroteSome}
use Rattle.fz_patch.specs.declared.column.Forms.{Forms}
use Rattle.fz_target.specs.declared.measure.Measure.{Measure}
use Rattle.fz_patch.specs.declared.places.Places.{Places}
use Rattle.fz_target.specs.declared.target.Target.{Target}
use Rattle.fz_patch.proofs.Wrotes.{some-back, some-front, wrote-then}

module _ (a b c : List Amend) (held h1 h2 h3 : Option (List ℕ)) (log l1 l2 l3 : Option (List Amend)) where
  pub three_wrote : Wrote a held h1 log l1 → Wrote b h1 h2 l1 l2 → Wrote c h2 h3 l2 l3 → Wrote (a ++ (b ++ c)) held h3 log l3
  three_wrote first second third = wrote-then a (b ++ c) held h1 h3 log l1 l3 first (wrote-then b c h1 h2 h3 l1 l2 l3 second third)

  pub stopped_first : WroteSome a held h1 log l1 → WroteSome (a ++ (b ++ c)) held h1 log l1
  stopped_first some = some-front a (b ++ c) held h1 log l1 some

  pub stopped_second : Wrote a held h1 log l1 → WroteSome b h1 h2 l1 l2 → WroteSome (a ++ (b ++ c)) held h2 log l2
  stopped_second first some = some-back a (b ++ c) held h1 h2 log l1 l2 first (some-front b c h1 h2 l1 l2 some)

  pub stopped_third : Wrote a held h1 log l1 → Wrote b h1 h2 l1 l2 → WroteSome c h2 h3 l2 l3 → WroteSome (a ++ (b ++ c)) held h3 log l3
  stopped_third first second some = some-back a (b ++ c) held h1 h3 log l1 l3 first (some-back b c h1 h2 h3 l1 l2 l3 second some)

-- the writes of PCOUNT and of both forms, by the card and the letters that were made
pub writes_are : (t : Target) (p : Places) (m : Measure) (forms : Forms) (card one two : List ℕ) → card ≡ pcount_card t m → one ≡ coded_letter t.image.plan.codec → two ≡ stored_letter t.image.plan.bitpix →
    (card_write t.header (pcount_at t) card ∷ []) ++ (form_write t 1 p.coded one forms.coded ++ form_write t 2 p.stored two forms.stored) ≡ forms_writes t p m forms
writes_are t p m forms card one two a b c =
    λ j. card_write t.header (pcount_at t) (a j) ∷ (form_write t 1 p.coded (b j) forms.coded ++ form_write t 2 p.stored (c j) forms.stored)

-- and the header that has them
pub header_is : (t : Target) (p : Places) (m : Measure) (forms : Forms) (card one two header first second third : List ℕ) → card ≡ pcount_card t m → one ≡ coded_letter t.image.plan.codec → two ≡ stored_letter t.image.plan.bitpix →
    first ≡ with_card (pcount_at t) card header → second ≡ with_form t 1 p.coded one forms.coded first → third ≡ with_form t 2 p.stored two forms.stored second → third ≡ with_forms t p m forms header
header_is t p m forms card one two header first second third a b c x y z =
    let x' : first ≡ with_card (pcount_at t) (pcount_card t m) header = x ∙ ap (λ l. with_card (pcount_at t) l header) a in
    let y' : second ≡ with_form t 1 p.coded (coded_letter t.image.plan.codec) forms.coded (with_card (pcount_at t) (pcount_card t m) header) =
    y ∙ (λ j. with_form t 1 p.coded (b j) forms.coded (x' j)) in
    z ∙ (λ j. with_form t 2 p.stored (c j) forms.stored (y' j))
