-- The table of marks: which one a tile has, and what becomes of the others when one is kept (FITS 4.0, section 10.4.1).
use Rattle.std.proofs.Common.{◌≡◌, ℕ, ◌-◌, ℤ, List, Option, Some, None, IfSome, refl, sym, ap, ◌∙◌, subst}
use Rattle.std.specs.Option.{ForSome}
use Rattle.std.proofs.lemmas.Option.{same_Some}
use borrow.Rule.Slice.PartMut.{post_of, put_mid, same_len_mid}
use Rattle.fz_checks.specs.declared.job_checks.PackedImage.{PackedImage}
use Rattle.fz_look.specs.Marked.{AreMarks, AreMarksOf, HasNoMarks, table_in}
use Rattle.fz_look.specs.declared.here.Here.{Here}
use Rattle.fz_retile.proofs.Somes.{for_none}

-- ---- what a view keeps

module _ (held held' : Option (List ℕ)) (same : held' ≡ held) where
  pub marks_same : (here : Option Here) (numbers : List ℤ) → AreMarksOf held here numbers → AreMarksOf held' here numbers
  marks_same here numbers marks = subst (λ (l : Option (List ℕ)). AreMarksOf l here numbers) (sym same) marks

  -- after a box was filled, or was not
  pub marks_filled : (here : Option Here) (h : Here) (i : PackedImage) (numbers : List ℤ) → here ≡ Some h → h.read.image ≡ Some i → IfSome held (λ g. AreMarks g h.read.header (table_in i.plan.codec numbers)) → AreMarksOf held' here numbers
  marks_filled here h i numbers at some marks g is e there j those =
      let now : AreMarks g h.read.header (table_in i.plan.codec numbers) = subst (λ (l : Option (List ℕ)). IfSome l (λ x. AreMarks x h.read.header (table_in i.plan.codec numbers))) (sym same ∙ is) marks in
      let one : h ≡ e = same_Some h e (sym at ∙ there) in
      let image : i ≡ j = same_Some i j (sym some ∙ ap (λ (x : Here). x.read.image) one ∙ those) in
      subst (λ (x : Here). AreMarks g x.read.header (table_in j.plan.codec numbers)) one
      (subst (λ (x : PackedImage). AreMarks g h.read.header (table_in x.plan.codec numbers)) image now)

pub marks_shown : (held : Option (List ℕ)) (here : Option Here) (h : Here) (i : PackedImage) (numbers : List ℤ) → here ≡ Some h → h.read.image ≡ Some i → AreMarksOf held here numbers → IfSome held (λ g. AreMarks g h.read.header (table_in i.plan.codec numbers))
marks_shown None here h i numbers at some marks = tt
marks_shown (Some g) here h i numbers at some marks = marks g refl h at i some

-- of another HDU there are none
pub marks_none : (held : Option (List ℕ)) (numbers : List ℤ) → AreMarksOf held None numbers
marks_none held numbers g is = for_none None (λ (h : Here). ForSome h.read.image (λ i. AreMarks g h.read.header (table_in i.plan.codec numbers))) refl

pub marks_cleared : (held : Option (List ℕ)) (here : Option Here) (numbers : List ℤ) → HasNoMarks numbers → AreMarksOf held here numbers
marks_cleared held here numbers none g is h at i some t m kept = absurd (none i.plan.codec t m kept)
