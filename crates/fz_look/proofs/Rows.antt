-- The rows of HDUs, one HDU after another (FITS 4.0, sections 7.3.5 and 10.1).
use Rattle.std.proofs.Common.{◌≡◌, ℕ, inl, inr, Bool, true, false, cond, List, [], ◌∷◌, ◌++◌, Option, Some, None, refl, sym, ap, ◌∙◌, subst}
use Rattle.std.specs.List.{filter, flat_map}
use Rattle.std.proofs.lemmas.List.{append-nil, append_assoc}
use Rattle.fz_base.specs.declared.fault.Fault.{Fault}
use Rattle.fz_block.specs.declared.header.Header.{Header}
use Rattle.fz_files.specs.FirstFault.{ImageRow, IsFirstRowFault, all_rows, rows_of}
use Rattle.fz_files.specs.Restored.{is_image}

module _ (file : List ℕ) where
  sound_both : (xs ys : List ImageRow) → IsFirstRowFault file xs None → IsFirstRowFault file ys None → IsFirstRowFault file (xs ++ ys) None
  sound_both [] ys front back = back
  sound_both (r ∷ rs) ys front back = (front.0, sound_both rs ys front.1 back)

  fault_behind : (xs ys : List ImageRow) (x : Fault) → IsFirstRowFault file xs None → IsFirstRowFault file ys (Some x) → IsFirstRowFault file (xs ++ ys) (Some x)
  fault_behind [] ys x front back = back
  fault_behind (r ∷ rs) ys x front back = inr (front.0, fault_behind rs ys x front.1 back)

  fault_before : (xs ys : List ImageRow) (x : Fault) → IsFirstRowFault file xs (Some x) → IsFirstRowFault file (xs ++ ys) (Some x)
  fault_before [] ys x front = absurd front
  fault_before (r ∷ rs) ys x (inl is) = inl is
  fault_before (r ∷ rs) ys x (inr later) = inr (later.0, fault_before rs ys x later.1)

  -- ---- those of HDUs

  rows_by : (b : Bool) (h : Header) (hs : List Header) → flat_map (rows_of file) (cond b (h ∷ hs) hs) ≡ flat_map (rows_of file) (cond b (h ∷ []) []) ++ flat_map (rows_of file) hs
  rows_by true h hs = ap (λ l. l ++ flat_map (rows_of file) hs) (sym (append-nil (rows_of file h)))
  rows_by false h hs = refl

  rows_more : (h : Header) (hs : List Header) → all_rows file (h ∷ hs) ≡ all_rows file (h ∷ []) ++ all_rows file hs
  rows_more h hs = rows_by (is_image file h) h (filter (is_image file) hs)

  rows_joined : (hs ks : List Header) → all_rows file (hs ++ ks) ≡ all_rows file hs ++ all_rows file ks
  rows_joined [] ks = refl
  rows_joined (h ∷ hs) ks =
      rows_more h (hs ++ ks) ∙ ap (λ l. all_rows file (h ∷ []) ++ l) (rows_joined hs ks)
      ∙ sym (append_assoc (all_rows file (h ∷ [])) (all_rows file hs) (all_rows file ks))
      ∙ ap (λ l. l ++ all_rows file ks) (sym (rows_more h hs))

  pub sound_joined : (hs ks : List Header) → IsFirstRowFault file (all_rows file hs) None → IsFirstRowFault file (all_rows file ks) None → IsFirstRowFault file (all_rows file (hs ++ ks)) None
  sound_joined hs ks front back = subst (λ l. IsFirstRowFault file l None) (sym (rows_joined hs ks)) (sound_both (all_rows file hs) (all_rows file ks) front back)

  -- the fault of an HDU after others without one is the first of all
  pub fault_among : (done rest : List Header) (h : Header) (x : Fault) → IsFirstRowFault file (all_rows file done) None → IsFirstRowFault file (all_rows file (h ∷ [])) (Some x) → IsFirstRowFault file (all_rows file (done ++ h ∷ rest)) (Some x)
  fault_among done rest h x sound fault =
      let behind : IsFirstRowFault file (all_rows file (h ∷ rest)) (Some x) =
      subst (λ l. IsFirstRowFault file l (Some x)) (sym (rows_more h rest)) (fault_before (all_rows file (h ∷ [])) (all_rows file rest) x fault) in
      subst (λ l. IsFirstRowFault file l (Some x)) (sym (rows_joined done (h ∷ rest))) (fault_behind (all_rows file done) (all_rows file (h ∷ rest)) x sound behind)

  -- ---- those of one HDU

  rows_of_one : (b : Bool) (h : Header) (x : Option Fault) → is_image file h ≡ b → IsFirstRowFault file (flat_map (rows_of file) (cond b (h ∷ []) [])) x → IsFirstRowFault file (all_rows file (h ∷ [])) x
  rows_of_one b h x is rows = subst (λ c. IsFirstRowFault file (flat_map (rows_of file) (cond c (h ∷ []) [])) x) (sym is) rows

  pub packed_rows : (h : Header) (x : Option Fault) → is_image file h ≡ true → IsFirstRowFault file (rows_of file h) x → IsFirstRowFault file (all_rows file (h ∷ [])) x
  packed_rows h x is rows = rows_of_one true h x is (subst (λ l. IsFirstRowFault file l x) (sym (append-nil (rows_of file h))) rows)

  pub no_rows : (h : Header) → is_image file h ≡ false → IsFirstRowFault file (all_rows file (h ∷ [])) None
  no_rows h is = rows_of_one false h None is tt
