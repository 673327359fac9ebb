-- Where what an HDU stands for is among the plain bytes.
use Rattle.std.proofs.Common.{◌≡◌, ℕ, ◌+◌, ◌==◌, nat_lt, List, [], ◌∷◌, ◌++◌, length, drop, Some, sym, ap, ◌∙◌, subst}
use Rattle.std.specs.List.{filter, find, flat_map}
use Rattle.std.specs.Option.{option_map}
use Rattle.std.proofs.Math.Seq.{drop-append_seam}
use Rattle.std.proofs.lemmas.Grind.{flat_map-append}
use Rattle.std.proofs.lemmas.List.{append-nil, length-append}
use Rattle.fz_block.specs.declared.header.Header.{Header}
use Rattle.fz_files.specs.Restored.{standing}
use Rattle.fz_files.specs.RestoredFile.{restored, restored_hdu}
use Rattle.fz_files.specs.Walks.{headers_for}
use Rattle.fz_files.specs.declared.job.Job.TheVariants.{Unpack}
use Rattle.fz_look.specs.Here.{here_of, here_with, place_of}
use Rattle.fz_look.proofs.Numbered.{AreNumbered, found_at, front_below, seam}

module _ (g : List ℕ) (k : ℕ) where
  -- the HDUs that stand for something are these, numbered one after another
  abbrev pub AreHere : List Header → Type 0
  AreHere hs = (standing g (headers_for Unpack g) ≡ hs) × AreNumbered k hs

  abbrev pub plain_front : List Header → List ℕ
  plain_front hs = flat_map (restored_hdu g) hs

  pub place_is : (front : List Header) (h : Header) (back : List Header) → AreHere (front ++ h ∷ back) → place_of g h ≡ length (plain_front front)
  place_is front h back are =
      ap (λ (l : List Header). length (flat_map (restored_hdu g) (filter (λ (o : Header). nat_lt o.hdu h.hdu) l))) are.0
      ∙ ap (λ (l : List Header). length (flat_map (restored_hdu g) l)) (front_below k front h back are.1)

  pub restored_is : (front : List Header) (h : Header) (back : List Header) → AreHere (front ++ h ∷ back) → restored g ≡ plain_front front ++ (restored_hdu g h ++ plain_front back)
  unfolding restored
  restored_is front h back are = ap (flat_map (restored_hdu g)) are.0 ∙ flat_map-append (restored_hdu g) front (h ∷ back)

  pub bytes_are : (front : List Header) (h : Header) (back : List Header) → AreHere (front ++ h ∷ back) → drop (place_of g h) (restored g) ≡ restored_hdu g h ++ plain_front back
  bytes_are front h back are =
      ap (λ n. drop n (restored g)) (place_is front h back are)
      ∙ ap (drop (length (plain_front front))) (restored_is front h back are)
      ∙ drop-append_seam (plain_front front) (restored_hdu g h ++ plain_front back)

  pub here_is : (front : List Header) (h : Header) (back : List Header) → AreHere (front ++ h ∷ back) → here_of g h.hdu ≡ Some (here_with g h)
  unfolding here_of
  here_is front h back are =
      ap (λ (l : List Header). option_map (here_with g) (find (λ (o : Header). o.hdu == h.hdu) l)) are.0
      ∙ ap (option_map (here_with g)) (found_at k front h back are.1)

  -- the next one begins where this one ends
  pub next_place : (front : List Header) (h next : Header) (back : List Header) → AreHere (front ++ h ∷ next ∷ back) → place_of g next ≡ place_of g h + length (restored_hdu g h)
  next_place front h next back are =
      let shifted : AreHere ((front ++ h ∷ []) ++ next ∷ back) = subst AreHere (sym (seam front h (next ∷ back))) are in
      let here : place_of g h ≡ length (plain_front front) = place_is front h (next ∷ back) are in
      place_is (front ++ h ∷ []) next back shifted
      ∙ ap length (flat_map-append (restored_hdu g) front (h ∷ []))
      ∙ length-append (plain_front front) (restored_hdu g h ++ [])
      ∙ (λ i. sym here i + length (append-nil (restored_hdu g h) i))
