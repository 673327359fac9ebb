-- The rows of HDUs, one HDU after another (FITS 4.0, sections 7.3.5 and 10.1).
use Rattle.std.proofs.Common.{◌≡◌, ℕ, suc, ◌+◌, ◌≤◌, ◌⊎◌, inl, inr, Bool, true, false, cond, List, [], ◌∷◌, ◌++◌, length, map, Option, Some, None, Result, Err, IsOk, refl, sym, ap, ◌∙◌, subst, arith}
use Rattle.std.specs.Prelude.{nat_lt, not, ◌&&◌, ◌*◌, ◌==◌, ⊤}
use Rattle.std.specs.List.{filter, flat_map, range_with_len}
use Rattle.std.proofs.lemmas.Bool.Decides.{nat_tests}
use Rattle.std.proofs.lemmas.List.{append-nil, append_assoc}
use Rattle.fz_base.specs.Refusal.{first_refusal, refusal}
use Rattle.fz_base.specs.declared.fault.Place.TheVariants.{Row as AtRow}
use Rattle.fz_base.specs.declared.kind.Kind.TheVariants.{DescriptorRange, TileSize}
use Rattle.fz_base.specs.declared.fault.Fault.{Fault}
use Rattle.fz_block.specs.Checks.{unless_refused}
use Rattle.fz_block.specs.declared.header.Header.{Header}
use Rattle.fz_checks.specs.JobChecks.{image_to_unpack, is_after_empty}
use Rattle.fz_checks.specs.declared.job_checks.PackedImage.{PackedImage}
use Rattle.fz_table.specs.Records.{chosen_column, chosen_record, described_in, has_none, is_plain, missing_kind, record_of, unit_in}
use Rattle.fz_table.specs.Rows.{row_at}
use Rattle.fz_table.specs.declared.array.Descriptor.{Descriptor}
use Rattle.fz_table.specs.declared.record.Record.{Record}
use Rattle.fz_table.specs.declared.record.Tile.{Tile}
use Rattle.fz_table.specs.declared.row.Row.{Row}
use Rattle.fz_table.specs.declared.table.Table.{Table}
use Rattle.fz_files.specs.FirstFault.{ImageRow, IsFirstRowFault, IsRowFault, IsRowSound, all_rows, image_row, rows_of}
use Rattle.fz_files.specs.Packed.{tiles_in}
use Rattle.fz_files.specs.Restored.{header_in, image_table, is_image, plan_in, tile_of}
use Rattle.fz_job.specs.Again.{WasSeen, WereSeen}
use Rattle.fz_verify.specs.Rows.{IsHduFault, IsHduSound, SoundRowsAreNotRefused}

-- ---- lists of rows

module _ (file : List ℕ) where
  pub sound_both : (xs ys : List ImageRow) → IsFirstRowFault file xs None → IsFirstRowFault file ys None → IsFirstRowFault file (xs ++ ys) None
  sound_both [] ys front back = back
  sound_both (r ∷ rs) ys front back = (front.0, sound_both rs ys front.1 back)

  sound_first : (xs ys : List ImageRow) → IsFirstRowFault file (xs ++ ys) None → IsFirstRowFault file xs None
  sound_first [] ys sound = tt
  sound_first (r ∷ rs) ys sound = (sound.0, sound_first rs ys sound.1)

  sound_last : (xs ys : List ImageRow) → IsFirstRowFault file (xs ++ ys) None → IsFirstRowFault file ys None
  sound_last [] ys sound = sound
  sound_last (r ∷ rs) ys sound = sound_last rs ys sound.1

  pub fault_behind : (xs ys : List ImageRow) (x : Fault) → IsFirstRowFault file xs None → IsFirstRowFault file ys (Some x) → IsFirstRowFault file (xs ++ ys) (Some x)
  fault_behind [] ys x front back = back
  fault_behind (r ∷ rs) ys x front back = inr (front.0, fault_behind rs ys x front.1 back)

  pub fault_before : (xs ys : List ImageRow) (x : Fault) → IsFirstRowFault file xs (Some x) → IsFirstRowFault file (xs ++ ys) (Some x)
  fault_before [] ys x front = absurd front
  fault_before (r ∷ rs) ys x (inl is) = inl is
  fault_before (r ∷ rs) ys x (inr later) = inr (later.0, fault_before rs ys x later.1)

  -- a first fault of two lists is one of the first, or of the second
  one_further : (r : ImageRow) (rs ys : List ImageRow) (x : Fault) → IsRowSound file r → IsFirstRowFault file rs (Some x) ⊎ IsFirstRowFault file ys (Some x) → IsFirstRowFault file (r ∷ rs) (Some x) ⊎ IsFirstRowFault file ys (Some x)
  one_further r rs ys x sound (inl a) = inl (inr (sound, a))
  one_further r rs ys x sound (inr b) = inr b

  pub fault_split : (xs ys : List ImageRow) (x : Fault) → IsFirstRowFault file (xs ++ ys) (Some x) → IsFirstRowFault file xs (Some x) ⊎ IsFirstRowFault file ys (Some x)
  fault_split [] ys x fault = inr fault
  fault_split (r ∷ rs) ys x (inl is) = inl (inl is)
  fault_split (r ∷ rs) ys x (inr later) = one_further r rs ys x later.0 (fault_split rs ys x later.1)

  -- ---- those of HDUs

  rows_by : (b : Bool) (h : Header) (hs : List Header) →
      flat_map (rows_of file) (cond b (h ∷ hs) hs) ≡ flat_map (rows_of file) (cond b (h ∷ []) []) ++ flat_map (rows_of file) hs
  rows_by true h hs = ap (λ l. l ++ flat_map (rows_of file) hs) (sym (append-nil (rows_of file h)))
  rows_by false h hs = refl

  pub rows_more : (h : Header) (hs : List Header) → all_rows file (h ∷ hs) ≡ all_rows file (h ∷ []) ++ all_rows file hs
  rows_more h hs = rows_by (is_image file h) h (filter (is_image file) hs)

  pub rows_joined : (hs ks : List Header) → all_rows file (hs ++ ks) ≡ all_rows file hs ++ all_rows file ks
  rows_joined [] ks = refl
  rows_joined (h ∷ hs) ks =
      rows_more h (hs ++ ks) ∙ ap (λ l. all_rows file (h ∷ []) ++ l) (rows_joined hs ks)
      ∙ sym (append_assoc (all_rows file (h ∷ [])) (all_rows file hs) (all_rows file ks))
      ∙ ap (λ l. l ++ all_rows file ks) (sym (rows_more h hs))

  pub sound_joined : (hs ks : List Header) → IsFirstRowFault file (all_rows file hs) None → IsFirstRowFault file (all_rows file ks) None → IsFirstRowFault file (all_rows file (hs ++ ks)) None
  sound_joined hs ks front back = subst (λ l. IsFirstRowFault file l None) (sym (rows_joined hs ks)) (sound_both (all_rows file hs) (all_rows file ks) front back)

  -- the fault of an HDU after others without one is the first of all
  pub fault_among : (done rest : List Header) (h : Header) (x : Fault) → IsFirstRowFault file (all_rows file done) None → IsHduFault file h x → IsFirstRowFault file (all_rows file (done ++ h ∷ rest)) (Some x)
  fault_among done rest h x sound fault =
      let behind : IsFirstRowFault file (all_rows file (h ∷ rest)) (Some x) =
      subst (λ l. IsFirstRowFault file l (Some x)) (sym (rows_more h rest)) (fault_before (all_rows file (h ∷ [])) (all_rows file rest) x fault) in
      subst (λ l. IsFirstRowFault file l (Some x)) (sym (rows_joined done (h ∷ rest))) (fault_behind (all_rows file done) (all_rows file (h ∷ rest)) x sound behind)

  -- if none of all has a fault, no HDU has one
  pub sound_among : (done rest : List Header) (h : Header) → IsFirstRowFault file (all_rows file (done ++ h ∷ rest)) None → IsHduSound file h
  sound_among done rest h sound =
      let behind : IsFirstRowFault file (all_rows file (h ∷ rest)) None =
      sound_last (all_rows file done) (all_rows file (h ∷ rest)) (subst (λ l. IsFirstRowFault file l None) (rows_joined done (h ∷ rest)) sound) in
      sound_first (all_rows file (h ∷ [])) (all_rows file rest) (subst (λ l. IsFirstRowFault file l None) (rows_more h rest) behind)

  -- ---- the HDU of a fault

  of_three : (found : Record) (a b c : Bool) (x y z f : Fault) (n : ℕ) → x.hdu ≡ n → y.hdu ≡ n → z.hdu ≡ n → unless_refused found (first_refusal ((a, x) ∷ (b, y) ∷ (c, z) ∷ [])) ≡ Err f → f.hdu ≡ n
  of_three found true b c x y z f n one two three is = let e : x ≡ f = cc in ap (λ (g : Fault). g.hdu) (sym e) ∙ one
  of_three found false true c x y z f n one two three is = let e : y ≡ f = cc in ap (λ (g : Fault). g.hdu) (sym e) ∙ two
  of_three found false false true x y z f n one two three is = let e : z ≡ f = cc in ap (λ (g : Fault). g.hdu) (sym e) ∙ three
  of_three found false false false x y z f n one two three is = absurd cc

  row_number : (h : Header) (row : ℕ) (x : Fault) → IsRowFault file (image_row h row) x → x.hdu ≡ h.hdu
  unfolding record_of
  row_number h row x (inl refused) =
      let t : Table = image_table file h in
      let r : Row = row_at file t row in
      let tile : Tile = tile_of (plan_in file h) row in
      let d : Descriptor = described_in r (chosen_column r) in
      let len : ℕ = d.count * unit_in t (chosen_column r) in
      of_three (chosen_record t r tile) (has_none r) (nat_lt t.heap_len (d.offset + len)) (is_plain tile (chosen_column r) && not (len == tile.plain_len))
      (refusal h.hdu (AtRow row) (missing_kind r)) (refusal h.hdu (AtRow row) DescriptorRange) (refusal h.hdu (AtRow row) TileSize) x h.hdu refl refl refl refused
  row_number h row x (inr (why, faulty, is)) = ap (λ (g : Fault). g.hdu) is

  rows_number : (h : Header) (rows : List ℕ) (x : Fault) → IsFirstRowFault file (map (image_row h) rows) (Some x) → x.hdu ≡ h.hdu
  rows_number h [] x fault = absurd fault
  rows_number h (row ∷ rows) x (inl is) = row_number h row x is
  rows_number h (row ∷ rows) x (inr later) = rows_number h rows x later.1

  number_by : (b : Bool) (h : Header) (x : Fault) → IsFirstRowFault file (flat_map (rows_of file) (cond b (h ∷ []) [])) (Some x) → x.hdu ≡ h.hdu
  number_by true h x fault =
      rows_number h (range_with_len 0 (tiles_in (plan_in file h))) x (subst (λ l. IsFirstRowFault file l (Some x)) (append-nil (rows_of file h)) fault)
  number_by false h x fault = absurd fault

  pub hdu_number : (h : Header) (x : Fault) → IsHduFault file h x → x.hdu ≡ h.hdu
  hdu_number h x fault = number_by (is_image file h) h x fault

  -- headers are numbered from k on
  abbrev pub Numbered : ℕ → List Header → Type 0
  Numbered k [] = ⊤
  Numbered k (h ∷ hs) = (h.hdu ≡ k) × Numbered (suc k) hs

  pub numbered : (header_len tile k start : ℕ) (hs : List Header) → WereSeen file header_len tile k start hs → Numbered k hs
  numbered header_len tile k start [] seen = tt
  numbered header_len tile k start (h ∷ hs) seen = (seen.0.number, numbered header_len tile (suc k) _ hs seen.1)

  one_later : (k : ℕ) (h : Header) (hs : List Header) (x : Fault) → Numbered k (h ∷ hs) → IsHduFault file h x ⊎ IsFirstRowFault file (all_rows file hs) (Some x) → (IsFirstRowFault file (all_rows file hs) (Some x) → suc k ≤ x.hdu) → k ≤ x.hdu
  one_later k h hs x numbers (inl here) later = omega (arith, hdu_number h x here, numbers.0)
  one_later k h hs x numbers (inr there) later = omega (arith, later there)

  pub fault_number : (k : ℕ) (hs : List Header) (x : Fault) → Numbered k hs → IsFirstRowFault file (all_rows file hs) (Some x) → k ≤ x.hdu
  fault_number k [] x numbers fault = absurd fault
  fault_number k (h ∷ hs) x numbers fault =
      one_later k h hs x numbers (fault_split (all_rows file (h ∷ [])) (all_rows file hs) x (subst (λ l. IsFirstRowFault file l (Some x)) (rows_more h hs) fault))
      (λ there. fault_number (suc k) hs x numbers.1 there)

  -- ---- headers before a number

  pub front_kept : (done rest : List Header) (k m : ℕ) → Numbered k (done ++ rest) → k + length done ≤ m → filter (λ (h : Header). nat_lt h.hdu m) (done ++ rest) ≡ done ++ filter (λ (h : Header). nat_lt h.hdu m) rest
  front_kept [] rest k m numbers room = refl
  front_kept (h ∷ done) rest k m numbers room =
      let here : nat_lt h.hdu m ≡ true = grind (arith, nat_tests, numbers.0, room) in
      ap (λ b. cond b (h ∷ filter (λ (j : Header). nat_lt j.hdu m) (done ++ rest)) (filter (λ (j : Header). nat_lt j.hdu m) (done ++ rest))) here
      ∙ ap (λ l. h ∷ l) (front_kept done rest (suc k) m numbers.1 (omega (arith, room)))

  pub none_kept : (rest : List Header) (k m : ℕ) → Numbered k rest → m ≤ k → filter (λ (h : Header). nat_lt h.hdu m) rest ≡ []
  none_kept [] k m numbers past = refl
  none_kept (h ∷ rest) k m numbers past =
      let here : nat_lt h.hdu m ≡ false = grind (arith, nat_tests, numbers.0, past) in
      ap (λ b. cond b (h ∷ filter (λ (j : Header). nat_lt j.hdu m) rest) (filter (λ (j : Header). nat_lt j.hdu m) rest)) here
      ∙ none_kept rest (suc k) m numbers.1 (omega (arith, past))

  pub numbers_behind : (done rest : List Header) (k : ℕ) → Numbered k (done ++ rest) → Numbered (k + length done) rest
  numbers_behind [] rest k numbers = subst (λ n. Numbered n rest) (omega arith) numbers
  numbers_behind (h ∷ done) rest k numbers = subst (λ n. Numbered n rest) (omega arith) (numbers_behind done rest (suc k) numbers.1)

-- ---- no row is both sound and refused

module _ (law : SoundRowsAreNotRefused) (file : List ℕ) (header_len tile : ℕ) where
  rows_unmixed : (h : Header) (k start : ℕ) (x : Fault) → WasSeen file k start header_len tile h → is_image file h ≡ true → (rows : List ℕ) → IsFirstRowFault file (map (image_row h) rows) None → IsFirstRowFault file (map (image_row h) rows) (Some x) → ⊥
  rows_unmixed h k start x seen image [] sound fault = fault
  rows_unmixed h k start x seen image (row ∷ rows) sound (inl is) =
      let passed : IsOk (image_to_unpack h (header_in file h) (is_after_empty file h)) = subst (λ (r : Result (Option PackedImage) Fault). IsOk r) (sym seen.said) refl in
      law file h (is_after_empty file h) row x seen.is_header passed image sound.0 is
  rows_unmixed h k start x seen image (row ∷ rows) sound (inr later) = rows_unmixed h k start x seen image rows sound.1 later.1

  unmixed_by : (b : Bool) (h : Header) (k start : ℕ) (x : Fault) → WasSeen file k start header_len tile h → is_image file h ≡ b →
      IsFirstRowFault file (flat_map (rows_of file) (cond b (h ∷ []) [])) None → IsFirstRowFault file (flat_map (rows_of file) (cond b (h ∷ []) [])) (Some x) → ⊥
  unmixed_by true h k start x seen image sound fault =
      let rows : List ℕ = range_with_len 0 (tiles_in (plan_in file h)) in
      rows_unmixed h k start x seen image rows (subst (λ l. IsFirstRowFault file l None) (append-nil (rows_of file h)) sound) (subst (λ l. IsFirstRowFault file l (Some x)) (append-nil (rows_of file h)) fault)
  unmixed_by false h k start x seen image sound fault = fault

  pub hdu_unmixed : (h : Header) (k start : ℕ) (x : Fault) → WasSeen file k start header_len tile h → IsHduSound file h → IsHduFault file h x → ⊥
  hdu_unmixed h k start x seen sound fault = unmixed_by (is_image file h) h k start x seen refl sound fault

  -- HDUs whose rows are sound have no fault, as the front of those that were seen
  either : (done rest : List Header) (h : Header) (k start : ℕ) (x : Fault) → WasSeen file k start header_len tile h → IsHduSound file h → (IsFirstRowFault file (all_rows file done) (Some x) → ⊥) →
      IsHduFault file h x ⊎ IsFirstRowFault file (all_rows file done) (Some x) → ⊥
  either done rest h k start x seen sound never (inl here) = hdu_unmixed h k start x seen sound here
  either done rest h k start x seen sound never (inr there) = never there

  pub hdus_unmixed : (done rest : List Header) (k start : ℕ) (x : Fault) → WereSeen file header_len tile k start (done ++ rest) → IsFirstRowFault file (all_rows file done) None → IsFirstRowFault file (all_rows file done) (Some x) → ⊥
  hdus_unmixed [] rest k start x seen sound fault = fault
  hdus_unmixed (h ∷ done) rest k start x seen sound fault =
      let all : IsFirstRowFault file (all_rows file (h ∷ []) ++ all_rows file done) None = subst (λ l. IsFirstRowFault file l None) (rows_more file h done) sound in
      either done rest h k start x seen.0 (sound_first file (all_rows file (h ∷ [])) (all_rows file done) all)
      (λ there. hdus_unmixed done rest (suc k) _ x seen.1 (sound_last file (all_rows file (h ∷ [])) (all_rows file done) all) there)
      (fault_split file (all_rows file (h ∷ [])) (all_rows file done) x (subst (λ l. IsFirstRowFault file l (Some x)) (rows_more file h done) fault))

  -- the first fault of HDUs, the first of which are sound, is one of the others
  pub fault_later : (done rest : List Header) (x : Fault) → WereSeen file header_len tile 0 0 (done ++ rest) → IsFirstRowFault file (all_rows file done) None → IsFirstRowFault file (all_rows file (done ++ rest)) (Some x) → length done ≤ x.hdu
  fault_later done rest x seen sound fault =
      by_side (fault_split file (all_rows file done) (all_rows file rest) x (subst (λ l. IsFirstRowFault file l (Some x)) (rows_joined file done rest) fault))
    where
      by_side : IsFirstRowFault file (all_rows file done) (Some x) ⊎ IsFirstRowFault file (all_rows file rest) (Some x) → length done ≤ x.hdu
      by_side (inl front) = absurd (hdus_unmixed done rest 0 0 x seen sound front)
      by_side (inr back) =
          let numbers = numbers_behind file done rest 0 (numbered file header_len tile 0 0 (done ++ rest) seen) in
          omega (arith, fault_number file (0 + length done) rest x numbers back)
