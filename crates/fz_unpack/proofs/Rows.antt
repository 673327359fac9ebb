-- The rows of HDUs that stand for something are sound (FITS 4.0, sections 7.3.5 and 10.1).
use Rattle.std.proofs.Common.{◌≡◌, ℕ, zero, suc, ◌+◌, ◌<◌, inl, inr, Bool, true, false, cond, List, [], ◌∷◌, ◌++◌, map, codes, Some, None, refl, sym, ap, ◌∙◌, subst, arith, ◌&&◌, if◌then◌else◌}
use Rattle.std.specs.List.{filter, flat_map, list_any, range_with_len}
use Rattle.std.proofs.lemmas.List.{append-nil, append_assoc}
use Rattle.fz_base.specs.declared.fault.Fault.{Fault}
use Rattle.fz_block.specs.Checks.{is_set}
use Rattle.fz_block.specs.Facts.{sort_of}
use Rattle.fz_block.specs.Hdus.{cards_of}
use Rattle.fz_block.specs.declared.header.Header.{Header}
use Rattle.fz_head.specs.Packable.{is_packed, is_table}
use Rattle.fz_files.specs.FirstFault.{ImageRow, IsFirstRowFault, IsRowSound, all_rows, image_row, rows_of}
use Rattle.fz_files.specs.Packed.{tiles_in}
use Rattle.fz_files.specs.Restored.{HduStandsFor, HdusStandFor, RowsStandFor, StandsForAs, header_in, is_image, is_packed_primary, plan_in, standing}
use Rattle.fz_job.specs.Again.{WasSeen, WereSeen}
use Rattle.fz_unpack.specs.Behind.{IsHduFault}

-- ---- lists of rows

module _ (file : List ℕ) where
  pub sound_both : (xs ys : List ImageRow) → IsFirstRowFault file xs None → IsFirstRowFault file ys None → IsFirstRowFault file (xs ++ ys) None
  sound_both [] ys front back = back
  sound_both (r ∷ rs) ys front back = (front.0, sound_both rs ys front.1 back)

  pub fault_behind : (xs ys : List ImageRow) (x : Fault) → IsFirstRowFault file xs None → IsFirstRowFault file ys (Some x) → IsFirstRowFault file (xs ++ ys) (Some x)
  fault_behind [] ys x front back = back
  fault_behind (r ∷ rs) ys x front back = inr (front.0, fault_behind rs ys x front.1 back)

  pub fault_before : (xs ys : List ImageRow) (x : Fault) → IsFirstRowFault file xs (Some x) → IsFirstRowFault file (xs ++ ys) (Some x)
  fault_before [] ys x front = absurd front
  fault_before (r ∷ rs) ys x (inl is) = inl is
  fault_before (r ∷ rs) ys x (inr later) = inr (later.0, fault_before rs ys x later.1)

  -- ---- those of HDUs

  rows_by : (b : Bool) (h : Header) (hs : List Header) →
      flat_map (rows_of file) (cond b (h ∷ hs) hs) ≡ flat_map (rows_of file) (cond b (h ∷ []) []) ++ flat_map (rows_of file) hs
  rows_by true h hs = ap (λ l. l ++ flat_map (rows_of file) hs) (sym (append-nil (rows_of file h)))
  rows_by false h hs = refl

  pub rows_more : (h : Header) (hs : List Header) → all_rows file (h ∷ hs) ≡ all_rows file (h ∷ []) ++ all_rows file hs
  rows_more h hs = rows_by (is_image file h) h (filter (is_image file) hs)

  pub rows_joined : (hs ks : List Header) → all_rows file (hs ++ ks) ≡ all_rows file hs ++ all_rows file ks
  rows_joined [] ks = refl
  rows_joined (h ∷ hs) ks =
      rows_more h (hs ++ ks) ∙ ap (λ l. all_rows file (h ∷ []) ++ l) (rows_joined hs ks)
      ∙ sym (append_assoc (all_rows file (h ∷ [])) (all_rows file hs) (all_rows file ks))
      ∙ ap (λ l. l ++ all_rows file ks) (sym (rows_more h hs))

  -- ---- an HDU that stands for bytes

  sound_from : (h : Header) (a n : ℕ) → ((t : ℕ) → t < a + n → IsRowSound file (image_row h t)) → IsFirstRowFault file (map (image_row h) (range_with_len a n)) None
  sound_from h a zero each = tt
  sound_from h a (suc n) each =
      (each a (omega arith), sound_from h (a + 1) n (λ t few. each t (omega (arith, few))))

  by_image : (b : Bool) (h : Header) (bytes : List ℕ) → StandsForAs b file h bytes → IsFirstRowFault file (flat_map (rows_of file) (cond b (h ∷ []) [])) None
  by_image true h bytes is =
      let n : ℕ = tiles_in (plan_in file h) in
      let rows : RowsStandFor file h is.array = is.rows in
      sound_both (rows_of file h) [] (sound_from h 0 n (λ t few. (_, rows.tiles t (omega (arith, few))))) tt
  by_image false h bytes is = tt

  pub hdu_sound : (h : Header) (bytes : List ℕ) → HduStandsFor file h bytes → IsFirstRowFault file (all_rows file (h ∷ [])) None
  hdu_sound h bytes is = by_image (is_image file h) h bytes is

  pub hdus_sound : (hs : List Header) (bytes : List ℕ) → HdusStandFor file hs bytes → IsFirstRowFault file (all_rows file hs) None
  hdus_sound [] bytes is = tt
  hdus_sound (h ∷ hs) bytes is =
      subst (λ l. IsFirstRowFault file l None) (sym (rows_more h hs))
      (sound_both (all_rows file (h ∷ [])) (all_rows file hs) (hdu_sound h is.0 is.3) (hdus_sound hs is.1 is.4))

  -- ---- the primary is no table

  no_table : (k : ℕ) (header : List ℕ) → k ≡ 0 → is_table (sort_of k header) ≡ false
  no_table zero header first = refl
  no_table (suc k) header first = absurd (omega (arith, first))

  -- so it is no packed image
  pub primary_plain : (start header_len tile : ℕ) (h : Header) → WasSeen file 0 start header_len tile h → is_image file h ≡ false
  unfolding is_packed
  primary_plain start header_len tile h seen =
      let sort : h.sort ≡ sort_of h.hdu (header_in file h) = ap (λ (j : Header). j.sort) seen.is_header.facts in
      let none : is_table h.sort ≡ false = ap is_table sort ∙ no_table h.hdu (header_in file h) seen.number in
      ap (λ b. b && list_any (is_set (codes "ZIMAGE")) (cards_of (header_in file h))) none

  none_of : (h : Header) → is_image file h ≡ false → all_rows file (h ∷ []) ≡ []
  none_of h none = ap (λ b. flat_map (rows_of file) (cond b (h ∷ []) [])) none

  rows_standing_by : (b : Bool) (h k : Header) (hs : List Header) → is_image file h ≡ false → all_rows file (h ∷ k ∷ hs) ≡ all_rows file (if b then k ∷ hs else h ∷ k ∷ hs)
  rows_standing_by true h k hs none = rows_more h (k ∷ hs) ∙ ap (λ l. l ++ all_rows file (k ∷ hs)) (none_of h none)
  rows_standing_by false h k hs none = refl

  -- the rows of all HDUs are those of the HDUs that stand for something
  pub rows_standing : (header_len tile : ℕ) (hs : List Header) → WereSeen file header_len tile 0 0 hs → all_rows file hs ≡ all_rows file (standing file hs)
  rows_standing header_len tile [] seen = refl
  rows_standing header_len tile (h ∷ []) seen = refl
  rows_standing header_len tile (h ∷ k ∷ hs) seen = rows_standing_by (is_packed_primary file k) h k hs (primary_plain 0 header_len tile h seen.0)

-- where the HDUs stand for bytes, no row is refused
pub rows_sound : (file : List ℕ) (header_len tile : ℕ) (hs : List Header) (bytes : List ℕ) → WereSeen file header_len tile 0 0 hs → HdusStandFor file (standing file hs) bytes → IsFirstRowFault file (all_rows file hs) None
rows_sound file header_len tile hs bytes seen stand =
    subst (λ l. IsFirstRowFault file l None) (sym (rows_standing file header_len tile hs seen)) (hdus_sound file (standing file hs) bytes stand)

-- the fault of an HDU after others that stand for bytes is the first of all
pub fault_among : (file : List ℕ) (header_len tile : ℕ) (hs done rest : List Header) (h : Header) (bytes : List ℕ) (x : Fault) → WereSeen file header_len tile 0 0 hs → standing file hs ≡ done ++ h ∷ rest →
    HdusStandFor file done bytes → IsHduFault file h x → IsFirstRowFault file (all_rows file hs) (Some x)
fault_among file header_len tile hs done rest h bytes x seen parts stand fault =
    let behind : IsFirstRowFault file (all_rows file (h ∷ rest)) (Some x) =
    subst (λ l. IsFirstRowFault file l (Some x)) (sym (rows_more file h rest)) (fault_before file (all_rows file (h ∷ [])) (all_rows file rest) x fault) in
    let all : IsFirstRowFault file (all_rows file (done ++ h ∷ rest)) (Some x) =
    subst (λ l. IsFirstRowFault file l (Some x)) (sym (rows_joined file done (h ∷ rest))) (fault_behind file (all_rows file done) (all_rows file (h ∷ rest)) x (hdus_sound file done bytes stand) behind) in
    subst (λ l. IsFirstRowFault file l (Some x)) (sym (rows_standing file header_len tile hs seen ∙ ap (all_rows file) parts)) all
