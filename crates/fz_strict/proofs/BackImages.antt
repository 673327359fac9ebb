-- A packed image whose header was restored: the layout of the table that `pack` makes of it, and the rest of its table.
use Rattle.std.specs.Option.{option_map}
use Rattle.std.proofs.Common.{◌≡◌, ℕ, ◌-◌, ◌*◌, ◌<◌, Bool, List, length, take, Option, Some, None, IfSome, Result, Ok, Err, OnOk, if◌then◌else◌, refl, sym, ap, ◌∙◌, subst, arith}
use Rattle.fz_base.specs.Refusal.{first_refusal}
use Rattle.fz_base.specs.Source.{HoldsLength}
use Rattle.fz_base.specs.Stop.{IfRefused}
use Rattle.fz_base.specs.declared.failure.Stop.{Stop}
use Rattle.fz_base.specs.declared.failure.Stop.TheVariants.{Refused, ReadFault, WriteFault, OverLimit, NoMemory}
use Rattle.fz_base.specs.declared.fault.Fault.{Fault}
use Rattle.fz_block.specs.Facts.{IsHeaderOf}
use Rattle.fz_block.specs.Header.{data_start_of, next_start_of}
use Rattle.fz_block.specs.Hdus.{cards_of}
use Rattle.fz_block.specs.declared.header.Header.{Header}
use Rattle.fz_files.specs.Restored.{header_in, plan_in}
use Rattle.fz_grid.specs.Region.{IsDivided, lengths_of}
use Rattle.fz_head.specs.Conditions.{IsPackPlan}
use Rattle.fz_checks.specs.JobChecks.{IsImageOf, image_in}
use Rattle.fz_head.specs.PackChecks.{pack_answer, pack_checks}
use Rattle.fz_head.specs.Planned.{is_wide, pack_plan_of}
use Rattle.fz_checks.specs.declared.job_checks.PackedImage.{PackedImage}
use Rattle.fz_head.specs.declared.options.PackOptions.{PackOptions}
use Rattle.fz_head.specs.declared.plan.Plan.{Plan}
use Rattle.fz_image.specs.Layout.{IsLayout, IsPlan, layout_of}
use Rattle.fz_image.specs.declared.layout.Layout.{Layout}
use Rattle.fz_image.specs.declared.progress.Progress.{Progress}
use Rattle.fz_tile.specs.Codecs.{CanWrite}
use Rattle.fz_job.specs.Again.{IsAgain}
use Rattle.fz_strict.specs.Backs.{ComparesRest, ImagesAreCompared, IsBack, IsImageAt, Restores, bytes_back}
use Rattle.fz_compare.specs.Compared.{ComparesTable}
use Rattle.fz_strict.specs.Origins.{IsOrigin, IsRestored, with_hdu}
use Rattle.fz_strict.specs.SameImages.{ComparesImage, origin_before}
use Rattle.fz_strict.specs.declared.image.Restored.{Restored}
use Rattle.fz_strict.specs.declared.origin.Origin.{Origin}
use Rattle.fz_strict.proofs.Frames.{FrameIs}
use Rattle.fz_strict.proofs.Restored.{whole_len}
use Rattle.fz_strict.proofs.Said.{header_there, image_said}
use Rattle.fz_strict.proofs.Whole.{plan_ok}

-- ---- the plan

plan_found : (o : PackOptions) (h : Header) (header : List ℕ) (p : Plan) → pack_answer o h header ≡ Ok p → pack_plan_of o h ≡ p
unfolding pack_answer
plan_found o h header p e = (plan_ok (pack_plan_of o h) p (first_refusal (pack_checks o h header)) e).1

wide_is : (o : PackOptions) (h : Header) → (pack_plan_of o h).wide ≡ is_wide (pack_plan_of o h).bitpix (lengths_of (pack_plan_of o h).shape)
unfolding pack_plan_of
wide_is o h = refl

-- by the plan that the checks give an image can be packed
pub image_plan : (header : List ℕ) (h : Header) (sums : Bool) (p : Plan) → IsPackPlan header h sums p → IsDivided p.shape p.tile → CanWrite p.codec p.bitpix → IsPlan p
image_plan header h sums p is divided writable = record {
  divided = divided;
  writable = writable;
  wide = subst (λ (q : Plan). q.wide ≡ is_wide q.bitpix (lengths_of q.shape)) (plan_found is.options h header p is.answer) (wide_is is.options h);
}

-- data stand behind a header
pub behind_header : (header : List ℕ) (h : Header) → IsHeaderOf header h → 0 < data_start_of h
behind_header header h is = omega (arith, whole_len header h is, is.whole.blocks)

-- ---- what comes back

pub none_before : (o : PackOptions) (cards : List (List ℕ)) (h : Header) (p : Plan) (before : Option Origin) → before ≡ None → Restores o cards h p before None
none_before o cards h p before is = subst (λ (x : Option Origin). Restores o cards h p x None) (sym is) refl

pub none_back : (o : PackOptions) (cards : List (List ℕ)) (h : Header) (p : Plan) (before : Option Origin) (b : Origin) → before ≡ Some b → ((f : Header) → ¬ IsRestored o b cards p f) → Restores o cards h p before None
none_back o cards h p before b is never = subst (λ (x : Option Origin). Restores o cards h p x None) (sym is) never

pub some_back : (o : PackOptions) (cards : List (List ℕ)) (h : Header) (p : Plan) (before : Option Origin) (r : Restored) → before ≡ Some r.before → IsRestored o r.before cards p r.header → r.layout ≡ layout_of r.header p (data_start_of h) → Restores o cards h p before (Some r)
some_back o cards h p before r is restored layout = subst (λ (x : Option Origin). Restores o cards h p x (Some r)) (sym is) (refl, restored, layout)

-- ---- the layout

pub layout_back : (sums : Bool) (cards : List (List ℕ)) (p : Plan) (plain : List ℕ) (r : Option Restored) (layout : Option Layout) → layout ≡ option_map (λ (x : Restored). x.layout) r → IfSome r (IsBack sums cards p plain) → IfSome layout (λ l. IsLayout l × (l.plan ≡ p))
layout_back sums cards p plain r layout is back = subst (λ (x : Option Layout). IfSome x (λ l. IsLayout l × (l.plan ≡ p))) (sym is) (by_back r back)
  where
    by_back : (x : Option Restored) → IfSome x (IsBack sums cards p plain) → IfSome (option_map (λ (y : Restored). y.layout) x) (λ l. IsLayout l × (l.plan ≡ p))
    by_back None b = tt
    by_back (Some y) b = (b.layout, b.plan_is)

-- what is said of the layout is said of the image
pub said_back : (P : Layout → Type 0) (r : Option Restored) (layout : Option Layout) → layout ≡ option_map (λ (x : Restored). x.layout) r → IfSome layout P → IfSome r (λ x. P x.layout)
said_back P r layout is said = by_image r (subst (λ (x : Option Layout). IfSome x P) is said)
  where
    by_image : (x : Option Restored) → IfSome (option_map (λ (y : Restored). y.layout) x) P → IfSome x (λ y. P y.layout)
    by_image None p = tt
    by_image (Some y) p = p

-- the same of what was written
pub written_back : (P : Layout → Progress → Type 0) (r : Option Restored) (layout : Option Layout) (w : Option Progress) → layout ≡ option_map (λ (x : Restored). x.layout) r → IfSome w (λ q. IfSome layout (λ l. P l q)) → IfSome w (λ q. IfSome r (λ x. P x.layout q))
written_back P r layout None is said = tt
written_back P r layout (Some q) is said = said_back (λ l. P l q) r layout is said

-- ---- the rest of the table

pub none_rest : (held : Option (List ℕ)) (h : Header) (sums : Bool) (plain : List ℕ) (r : Option Restored) (w : Option Progress) → r ≡ None → IfSome held (λ g. ComparesRest g h sums plain r w None)
none_rest None h sums plain r w is = tt
none_rest (Some g) h sums plain r w is = subst (λ (x : Option Restored). ComparesRest g h sums plain x w None) (sym is) refl

pub none_written_rest : (held : Option (List ℕ)) (h : Header) (sums : Bool) (plain : List ℕ) (x : Restored) (w : Option Progress) → w ≡ None → IfSome held (λ g. ComparesRest g h sums plain (Some x) w None)
none_written_rest None h sums plain x w is = tt
none_written_rest (Some g) h sums plain x w is = subst (λ (y : Option Progress). ComparesRest g h sums plain (Some x) y None) (sym is) refl

pub some_rest : (held : Option (List ℕ)) (h : Header) (sums : Bool) (plain : List ℕ) (x : Restored) (q : Progress) (same : Bool) (now : Option Origin) →
    now ≡ (if same then with_hdu x.before (next_start_of x.header - x.header.start) else None) → IfSome held (FrameIs h x.layout sums (cards_of (bytes_back x plain)) q same) → IfSome held (λ g. ComparesRest g h sums plain (Some x) (Some q) now)
some_rest None h sums plain x q same now answer frame = tt
some_rest (Some g) h sums plain x q same now answer frame =
    λ codes each many progress. answer ∙ ap (λ b. if b then with_hdu x.before (next_start_of x.header - x.header.start) else None) (frame codes each many progress)

-- ---- answers

pub on_ok_any : {T E P : Type 0} (r : Result T E) → P → OnOk r P
on_ok_any (Ok x) p = p
on_ok_any (Err e) p = tt

-- a refusal is one whatever else may be answered
pub refused_as : (X Y : Type 0) (P Q : Fault → Type 0) (stop : Stop) → ((x : Fault) → P x → Q x) → IfRefused {X = X} (Err stop) P → IfRefused {X = Y} (Err stop) Q
refused_as X Y P Q (Refused x) f p = f x p
refused_as X Y P Q ReadFault f p = tt
refused_as X Y P Q WriteFault f p = tt
refused_as X Y P Q (OverLimit live asked limit) f p = tt
refused_as X Y P Q NoMemory f p = tt

pub some_weaker : (r : Option Restored) (P Q : Restored → Type 0) → ((x : Restored) → P x → Q x) → IfSome r P → IfSome r Q
some_weaker None P Q f p = tt
some_weaker (Some x) P Q f p = f x p

-- ---- all of it

module _ (law : ImagesAreCompared) (o : PackOptions) (n : ℕ) (buf : List ℕ) (h : Header) (i : PackedImage) (origin : Option Origin) (within : IfSome origin IsOrigin) (r : Option Restored) (plain : List ℕ) (w : Option Progress) (now : Option Origin) where
  abbrev front : List ℕ
  front = take (2880 * h.blocks) buf

  there : (g : List ℕ) → IsAgain (Some g) n buf (record { header = h; image = Some i }) → length g ≡ n → IsImageAt g h
  there g a long =
      let same : header_in g h ≡ front = header_there (Some g) n buf (record { header = h; image = Some i }) a g refl in
      let said = image_said (Some g) n buf (record { header = h; image = Some i }) a i g refl refl in
      let image : image_in h (header_in g h) ≡ i = λ j. record { plan = said.1.plan j; table = said.1.table j } in
      record {
        header = subst (λ l. IsHeaderOf l h) (sym same) a.header;
        image = subst (IsImageOf (header_in g h) h) (sym image) (subst (λ l. IsImageOf l h i) (sym same) a.usable.said);
        inside = omega (arith, a.inside, long);
      }

  told : (g : List ℕ) → IsAgain (Some g) n buf (record { header = h; image = Some i }) → length g ≡ n → Restores o (cards_of front) h i.plan (origin_before origin i.plan) r → IfSome r (IsBack o.sums (cards_of front) i.plan plain) →
      IfSome r (λ x. ComparesTable g h x.layout w) → ComparesRest g h o.sums plain r w now → ComparesImage o g h origin now
  told g a long is back table rest =
      let same : front ≡ header_in g h = sym (header_there (Some g) n buf (record { header = h; image = Some i }) a g refl) in
      let said = image_said (Some g) n buf (record { header = h; image = Some i }) a i g refl refl in
      let plan : i.plan ≡ plan_in g h = sym said.1.plan in
      law o g h origin r plain w now (there g a long) within
      (subst (λ (p : Plan). Restores o (cards_of (header_in g h)) h p (origin_before origin p) r) plan (subst (λ l. Restores o (cards_of l) h i.plan (origin_before origin i.plan) r) same is))
      (subst (λ (p : Plan). IfSome r (IsBack o.sums (cards_of (header_in g h)) p plain)) plan (subst (λ l. IfSome r (IsBack o.sums (cards_of l) i.plan plain)) same back))
      table rest

  tables : (g : List ℕ) → IfSome r (λ x. IfSome (Some g) (λ f. ComparesTable f h x.layout w)) → IfSome r (λ x. ComparesTable g h x.layout w)
  tables g all = all

  pub image_told : (held : Option (List ℕ)) → IsAgain held n buf (record { header = h; image = Some i }) → HoldsLength held n → Restores o (cards_of front) h i.plan (origin_before origin i.plan) r → IfSome r (IsBack o.sums (cards_of front) i.plan plain) →
      IfSome r (λ x. IfSome held (λ g. ComparesTable g h x.layout w)) → IfSome held (λ g. ComparesRest g h o.sums plain r w now) → IfSome held (λ g. ComparesImage o g h origin now)
  image_told None a long is back table rest = tt
  image_told (Some g) a long is back table rest = told g a long is back table rest
