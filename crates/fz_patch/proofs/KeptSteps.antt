-- The steps of a patch, one after another: what is kept of the file.
use Rattle.std.proofs.Common.{◌≡◌, inl, inr, ℕ, ◌+◌, ◌^◌, ◌<◌, List, All, Option, Some, None, refl, sym, ap, subst}
use Rattle.std.specs.Prelude.{IfSome}
use Rattle.fz_base.specs.Counts.{Amend}
use Rattle.fz_base.specs.Ranges.{LiesIn}
use Rattle.fz_sum.specs.Cards.{checksum_name, datasum_name}
use Rattle.fz_files.specs.FirstFault.{picked_tiles_of}
use Rattle.fz_laws.specs.Amends.{IsOutside}
use Rattle.fz_laws.specs.PatchTaken.{BytesOutsideStay}
use Rattle.fz_patch.specs.Cards.{HasPlaces, forms_writes, sums_writes, with_forms}
use Rattle.fz_patch.specs.Kept.{IsKept}
use Rattle.fz_patch.specs.declared.column.Forms.{Forms}
use Rattle.fz_patch.specs.declared.places.Places.{Places}
use Rattle.fz_target.specs.Measures.{HasRoom}
use Rattle.fz_target.specs.Steps.{WroteSome}
use Rattle.fz_target.specs.Targets.{IsFoundBy, IsTarget, grown_by}
use Rattle.fz_target.specs.declared.measure.Measure.{Measure}
use Rattle.fz_target.specs.declared.target.Target.{Target}
use Rattle.fz_patch.proofs.Beside.{Keeps, WritesAreLong, keeps_fewer, keeps_same, keeps_some, keeps_then}
use Rattle.fz_patch.proofs.KeptCards.{IsNoBoxRow, SumCardsAreWhole, forms_outside, sums_outside}
use Rattle.fz_patch.proofs.NewCodes.{heap_end_of}
use Rattle.fz_patch.proofs.StepHeaders.{StepLaws, sums_told}

-- what a patch of a target keeps, whose header has these bytes
abbrev pub KeptBy : Target → List ℕ → ℕ → Type 0
KeptBy t header i = IsKept header t.header t.image.table (picked_tiles_of t.image.plan t.sieve) i

-- writes that are known of a file that shows its bytes
keeps_if : BytesOutsideStay → WritesAreLong → (Kept : ℕ → Type 0) (ws : List ℕ → List Amend) (held held' : Option (List ℕ)) (log log' : Option (List Amend)) → ((f : List ℕ) (i : ℕ) → Kept i → All (IsOutside i) (ws f)) →
    IfSome held (λ f. WroteSome (ws f) held held' log log') → Keeps Kept held held' log log'
keeps_if stay grow Kept ws None held' log log' outside some = tt
keeps_if stay grow Kept ws (Some f) held' log log' outside some = keeps_some stay grow Kept (ws f) (Some f) held' log log' (outside f) some

-- the codes
pub after_codes : (t : Target) (header : List ℕ) (held before now : Option (List ℕ)) (log log' log'' : Option (List Amend)) → before ≡ held → log' ≡ log → Keeps (λ i. i < heap_end_of t) before now log' log'' → Keeps (KeptBy t header) held now log log''
after_codes t header held before now log log' log'' same logged keeps =
    keeps_then (KeptBy t header) held before now log log' log'' (keeps_same (KeptBy t header) held before log log' same logged)
    (keeps_fewer (λ i. i < heap_end_of t) (KeptBy t header) before now log' log'' (λ i kept. kept.before) keeps)

-- the rows, of the target with a longer heap
pub after_rows : (t u : Target) (more : ℕ) (header : List ℕ) (held before now : Option (List ℕ)) (log log' log'' : Option (List Amend)) → u ≡ grown_by t more → Keeps (KeptBy t header) held before log log' → Keeps (IsNoBoxRow u) before now log' log'' →
    Keeps (KeptBy t header) held now log log''
after_rows t u more header held before now log log' log'' same keeps rows =
    keeps_then (KeptBy t header) held before now log log' log'' keeps
    (keeps_fewer (IsNoBoxRow u) (KeptBy t header) before now log' log'' (λ i kept. subst (λ (v : Target). IsNoBoxRow v i) (sym same) kept.rows) rows)

module _ (stay : BytesOutsideStay) (grow : WritesAreLong) (laws : StepLaws) (t : Target) (header : List ℕ) (places : Places) (m : Measure) (forms : Forms) (is : IsTarget t) (by : IsFoundBy header t) (at : HasPlaces header places) (room : HasRoom t m) (small : IfSome forms.coded (λ n. n < 2 ^ 64) × IfSome forms.stored (λ n. n < 2 ^ 64)) where
  -- PCOUNT and the forms
  pub after_cards : (held before now : Option (List ℕ)) (log log' log'' : Option (List Amend)) → Keeps (KeptBy t header) held before log log' → WroteSome (forms_writes t places m forms) before now log' log'' → Keeps (KeptBy t header) held now log log''
  after_cards held before now log log' log'' keeps some =
      keeps_then (KeptBy t header) held before now log log' log'' keeps
      (keeps_some stay grow (KeptBy t header) (forms_writes t places m forms) before now log' log'' (λ i kept. forms_outside laws t header places m forms is by at room small i kept.forms) some)

  -- the checksums
  pub after_sums : SumCardsAreWhole → (u : Target) (new : List ℕ) (held before now : Option (List ℕ)) (log log' log'' : Option (List Amend)) → u ≡ grown_by t m.bytes → new ≡ with_forms t places m forms header →
      Keeps (KeptBy t header) held before log log' → IfSome before (λ f. WroteSome (sums_writes u.header f new) before now log' log'') → Keeps (KeptBy t header) held now log log''
  after_sums whole u new held before now log log' log'' same there keeps some =
      keeps_then (KeptBy t header) held before now log log' log'' keeps
      (keeps_if stay grow (KeptBy t header) (λ f. sums_writes u.header f new) before now log' log'' outside some)
    where
      outside : (f : List ℕ) (i : ℕ) → KeptBy t header i → All (IsOutside i) (sums_writes u.header f new)
      outside f i kept =
          subst (λ (v : Target). All (IsOutside i) (sums_writes v.header f new)) (sym same)
          (subst (λ (l : List ℕ). All (IsOutside i) (sums_writes (grown_by t m.bytes).header f l)) (sym there)
          (sums_outside whole (grown_by t m.bytes).header i f (with_forms t places m forms header) header
          (sums_told laws t header places m forms is by at room small datasum_name (inl refl))
          (sums_told laws t header places m forms is by at room small checksum_name (inr refl)) kept.sums))
