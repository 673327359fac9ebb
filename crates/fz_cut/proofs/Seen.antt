-- A header that was seen at the first look is read once more as it was.
use Rattle.std.proofs.Common.{◌≡◌, ℕ, ◌*◌, ◌≤◌, nat_lt, Bool, true, false, List, length, take, drop, Option, Some, None, IfSome, Result, Ok, Err, IsErr, sym, subst, ap, ◌∙◌, arith}
use Rattle.std.proofs.lemmas.Bool.Decides.{nat_tests}
use Rattle.std.proofs.lemmas.List.{length-drop, length-take}
use Rattle.fz_base.specs.Source.{HoldsLength, Reads}
use Rattle.fz_base.specs.declared.fault.Fault.{Fault}
use Rattle.fz_base.specs.Stop.{IfRefused, IsDefined}
use Rattle.fz_base.specs.declared.failure.Stop.{Stop}
use Rattle.fz_base.specs.declared.failure.Stop.TheVariants.{NoMemory, OverLimit, ReadFault, Refused, WriteFault}
use Rattle.fz_block.specs.Again.{hdu_again_at}
use Rattle.fz_block.specs.Checks.{hdu_at}
use Rattle.fz_block.specs.declared.header.Header.{Header}
use Rattle.fz_grid.specs.declared.region.Region.{Region}
use Rattle.fz_checks.specs.JobChecks.{image_to_cut, is_after_empty}
use Rattle.fz_checks.specs.declared.job_checks.PackedImage.{PackedImage}
use Rattle.fz_files.specs.Restored.{header_in, pixels_of}
use Rattle.fz_cut.specs.Again.{ReadsAsSeen, WasSeen}
use Rattle.fz_cut.specs.declared.again.Again.{Again}
use Rattle.fz_cut.proofs.Standing.{cut_behind}

-- what the second reading of a header says
abbrev pub IsReadAgain : Header → ℕ → Header → List ℕ → Type 0
IsReadAgain from most h file = hdu_again_at most from.hdu from.start file ≡ Ok h

-- a header for which there is room is read as before
abbrev pub IsReadAlike : Type 0
IsReadAlike = (room k start : ℕ) (file : List ℕ) (h : Header) → hdu_at k start file ≡ Ok h → 2880 * h.blocks ≤ room → hdu_again_at room k start file ≡ Ok h

-- the bytes of the header at the front of the buffer
abbrev pub front : Header → List ℕ → List ℕ
front h buf = take (2880 * h.blocks) buf

small_image : (tile n : ℕ) → n ≤ tile → nat_lt tile n ≡ true → ⊥
small_image tile n small large = grind (arith, nat_tests, small, large)

module _ (region : Region) (from : Header) (most tile : ℕ) where
  abbrev As : List ℕ → Result Again Stop → Type 0
  As g r = ReadsAsSeen g region most tile from r

  -- what was seen is never refused, so all may be said of what is
  pub no_other_answer : (held : Option (List ℕ)) (stop : Stop) (x : Fault) (result : Result Again Stop) → stop ≡ Refused x → IfSome held (λ g. As g (Err stop)) → IfSome held (λ g. As g result)
  no_other_answer None stop x result is seen = tt
  no_other_answer (Some g) stop x result is seen = λ w. absurd (subst (λ (s : Stop). IfRefused {X = Again} (Err s) (λ y. ⊥)) is (seen w).0)

  -- it begins within the file
  pub no_start : (held : Option (List ℕ)) (len : ℕ) (result : Result Again Stop) → HoldsLength held len → len ≤ from.start → IfSome held (λ g. As g result)
  no_start None len result long behind = tt
  no_start (Some g) len result long behind = λ w.
      let some = w.is_header.whole.blocks in
      let here = length-take (2880 * from.blocks) (drop from.start g) in
      let rest = length-drop from.start g in
      absurd (omega (arith, some, here, rest, long, behind))

module _ (alike : IsReadAlike) (region : Region) (from : Header) (most tile : ℕ) where
  abbrev Says : List ℕ → Result Again Stop → Type 0
  Says g r = ReadsAsSeen g region most tile from r

  -- it is not refused
  stopped : (held : Option (List ℕ)) (stop : Stop) → IfSome held (λ g. IsDefined {X = Header} (hdu_again_at most from.hdu from.start g) (Err stop)) → IfSome held (λ g. Says g (Err stop))
  stopped None stop is = tt
  stopped (Some g) (Refused x) is = λ w. let one = alike most from.hdu from.start g from w.found w.short in absurd cc
  stopped (Some g) ReadFault is = λ w. (tt, tt)
  stopped (Some g) WriteFault is = λ w. (tt, tt)
  stopped (Some g) (OverLimit live asked limit) is = λ w. (tt, tt)
  stopped (Some g) NoMemory is = λ w. (tt, tt)

  pub no_refusal : (held : Option (List ℕ)) (stop : Stop) (result : Result Again Stop) → result ≡ Err stop → IfSome held (λ g. IsDefined {X = Header} (hdu_again_at most from.hdu from.start g) (Err stop)) → IfSome held (λ g. Says g result)
  no_refusal held stop result stops is = subst (λ (r : Result Again Stop). IfSome held (λ g. Says g r)) (sym stops) (stopped held stop is)

  module _ (h : Header) (buf : List ℕ) where
    same_header : (g : List ℕ) → WasSeen g region most tile from → IsReadAgain from most h g → h ≡ from
    same_header g w again = let one = alike most from.hdu from.start g from w.found w.short in cc

    same_bytes : (g : List ℕ) → 2880 * h.blocks ≤ length buf → Reads (Some g) from.start (front h buf) → h.start ≡ from.start → front h buf ≡ header_in g h
    same_bytes g room read place =
        let long : length (front h buf) ≡ 2880 * h.blocks = omega (arith, room, length-take (2880 * h.blocks) buf) in
        read ∙ ap (λ n. take n (drop from.start g)) long ∙ ap (λ n. take (2880 * h.blocks) (drop n g)) (sym place)

    same_image : (g : List ℕ) (w : WasSeen g region most tile from) → h ≡ from → front h buf ≡ header_in g h → image_to_cut h (front h buf) true region ≡ Ok w.image
    same_image g w one bytes =
        ap (λ (l : List ℕ). image_to_cut h l true region) bytes ∙ ap (λ (i : Header). image_to_cut i (header_in g i) true region) one
        ∙ cut_behind from (header_in g from) (is_after_empty g from) region w.image w.said

    -- no fault in its image
    pub no_fault : (held : Option (List ℕ)) (result : Result Again Stop) → IfSome held (IsReadAgain from most h) → 2880 * h.blocks ≤ length buf → Reads held from.start (front h buf) → h.start ≡ from.start →
        IsErr (image_to_cut h (front h buf) true region) → IfSome held (λ g. Says g result)
    no_fault None result again room read place bad = tt
    no_fault (Some g) result again room read place bad = λ w.
        let one = same_header g w again in
        let bytes = same_bytes g room read place in
        let never : ◌≡◌ {A = Bool} false true = subst IsErr (same_image g w one bytes) bad in
        absurd cc

    -- no larger tile
    pub no_larger : (held : Option (List ℕ)) (image : PackedImage) (result : Result Again Stop) → IfSome held (IsReadAgain from most h) → 2880 * h.blocks ≤ length buf → Reads held from.start (front h buf) → h.start ≡ from.start →
        image_to_cut h (front h buf) true region ≡ Ok image → nat_lt tile (pixels_of image.plan 0) ≡ true → IfSome held (λ g. Says g result)
    no_larger None image result again room read place said large = tt
    no_larger (Some g) image result again room read place said large = λ w.
        let one = same_header g w again in
        let bytes = same_bytes g room read place in
        let both = sym said ∙ same_image g w one bytes in
        let images : image ≡ w.image = cc in
        absurd (small_image tile (pixels_of w.image.plan 0) w.small (subst (λ (i : PackedImage). nat_lt tile (pixels_of i.plan 0) ≡ true) images large))

    -- it is the same
    pub answered : (held : Option (List ℕ)) (a : Again) → IfSome held (IsReadAgain from most h) → a.header ≡ h → IfSome held (λ g. Says g (Ok a))
    answered None a again is = tt
    answered (Some g) a again is = λ w. (tt, is ∙ same_header g w again)
