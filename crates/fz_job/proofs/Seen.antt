-- A header that was seen at the first look is read once more as it was.
use Rattle.std.proofs.Common.{◌≡◌, ℕ, ◌*◌, ◌≤◌, Bool, true, false, List, length, take, drop, Option, Some, None, IfSome, Result, Ok, Err, IsErr, sym, subst, ap, ◌∙◌, arith}
use Rattle.std.proofs.lemmas.Bool.Decides.{nat_tests}
use Rattle.std.proofs.lemmas.List.{length-take}
use Rattle.fz_base.specs.Source.{Reads}
use Rattle.fz_base.specs.declared.fault.Fault.{Fault}
use Rattle.fz_base.specs.Stop.{IfRefused, IsDefined}
use Rattle.fz_base.specs.declared.failure.Stop.{Stop}
use Rattle.fz_base.specs.declared.failure.Stop.TheVariants.{NoMemory, OverLimit, ReadFault, Refused, WriteFault}
use Rattle.fz_block.specs.Again.{hdu_again_at}
use Rattle.fz_block.specs.Checks.{hdu_at}
use Rattle.fz_block.specs.declared.header.Header.{Header}
use Rattle.fz_checks.specs.JobChecks.{image_to_unpack, is_after_empty}
use Rattle.fz_checks.specs.declared.job_checks.PackedImage.{PackedImage}
use Rattle.fz_files.specs.Restored.{header_in, pixels_of}
use Rattle.fz_job.specs.Again.{ReadsAsSeen, WasSeen, is_larger}
use Rattle.fz_job.specs.declared.again.ReadHdu.{ReadHdu}

-- what the second reading of a header says
abbrev pub IsReadAgain : ℕ → ℕ → ℕ → Header → List ℕ → Type 0
IsReadAgain k start most h file = hdu_again_at most k start file ≡ Ok h

-- a header for which there is room is read as before
abbrev pub IsReadAlike : Type 0
IsReadAlike = (room k start : ℕ) (file : List ℕ) (h : Header) → hdu_at k start file ≡ Ok h → 2880 * h.blocks ≤ room → hdu_again_at room k start file ≡ Ok h

-- the bytes of the header at the front of the buffer
abbrev pub front : Header → List ℕ → List ℕ
front h buf = take (2880 * h.blocks) buf

small_image : (tile : ℕ) (image : Option PackedImage) → IfSome image (λ i. pixels_of i.plan 0 ≤ tile) → is_larger tile image ≡ true → ⊥
small_image tile None small large = cc
small_image tile (Some i) small large = grind (arith, nat_tests, small, large)

module _ (k start : ℕ) (after_empty : Bool) (most tile : ℕ) where
  -- what was seen is never refused, so all may be said of what is
  pub no_other_answer : (held : Option (List ℕ)) (stop : Stop) (x : Fault) (result : Result ReadHdu Stop) → stop ≡ Refused x → IfSome held (λ g. ReadsAsSeen g k start after_empty most tile (Err stop)) → IfSome held (λ g. ReadsAsSeen g k start after_empty most tile result)
  no_other_answer None stop x result is seen = tt
  no_other_answer (Some g) stop x result is seen = λ j w behind. absurd (subst (λ (s : Stop). IfRefused {X = ReadHdu} (Err s) (λ y. ⊥)) is (seen j w behind).0)

module _ (alike : IsReadAlike) (k start : ℕ) (after_empty : Bool) (most tile : ℕ) where
  -- it is not refused
  stopped : (held : Option (List ℕ)) (stop : Stop) → IfSome held (λ g. IsDefined {X = Header} (hdu_again_at most k start g) (Err stop)) → IfSome held (λ g. ReadsAsSeen g k start after_empty most tile (Err stop))
  stopped None stop is = tt
  stopped (Some g) (Refused x) is = λ j w behind. let one = alike most k start g j w.found w.short in absurd cc
  stopped (Some g) ReadFault is = λ j w behind. (tt, tt)
  stopped (Some g) WriteFault is = λ j w behind. (tt, tt)
  stopped (Some g) (OverLimit live asked limit) is = λ j w behind. (tt, tt)
  stopped (Some g) NoMemory is = λ j w behind. (tt, tt)

  pub no_refusal : (held : Option (List ℕ)) (stop : Stop) (result : Result ReadHdu Stop) → result ≡ Err stop → IfSome held (λ g. IsDefined {X = Header} (hdu_again_at most k start g) (Err stop)) → IfSome held (λ g. ReadsAsSeen g k start after_empty most tile result)
  no_refusal held stop result stops is = subst (λ (r : Result ReadHdu Stop). IfSome held (λ g. ReadsAsSeen g k start after_empty most tile r)) (sym stops) (stopped held stop is)

module _ (alike : IsReadAlike) (k start : ℕ) (after_empty : Bool) (most tile : ℕ) (h : Header) (buf : List ℕ) where
  same_header : (g : List ℕ) (j : Header) → WasSeen g k start most tile j → IsReadAgain k start most h g → h ≡ j
  same_header g j w again = let one = alike most k start g j w.found w.short in cc

  same_bytes : (g : List ℕ) → 2880 * h.blocks ≤ length buf → Reads (Some g) start (front h buf) → h.start ≡ start → front h buf ≡ header_in g h
  same_bytes g room read place =
      let long : length (front h buf) ≡ 2880 * h.blocks = omega (arith, room, length-take (2880 * h.blocks) buf) in
      read ∙ ap (λ n. take n (drop start g)) long ∙ ap (λ n. take (2880 * h.blocks) (drop n g)) (sym place)

  same_image : (g : List ℕ) (j : Header) (w : WasSeen g k start most tile j) → after_empty ≡ is_after_empty g j → h ≡ j → front h buf ≡ header_in g h → image_to_unpack h (front h buf) after_empty ≡ Ok w.image
  same_image g j w behind one bytes =
      ap (λ (l : List ℕ). image_to_unpack h l after_empty) bytes ∙ ap (λ (i : Header). image_to_unpack i (header_in g i) after_empty) one
      ∙ ap (image_to_unpack j (header_in g j)) behind ∙ w.said

  -- no fault in its image
  pub no_fault : (held : Option (List ℕ)) (result : Result ReadHdu Stop) → IfSome held (IsReadAgain k start most h) → 2880 * h.blocks ≤ length buf → Reads held start (front h buf) → h.start ≡ start →
      IsErr (image_to_unpack h (front h buf) after_empty) → IfSome held (λ g. ReadsAsSeen g k start after_empty most tile result)
  no_fault None result again room read place bad = tt
  no_fault (Some g) result again room read place bad = λ j w behind.
      let one = same_header g j w again in
      let bytes = same_bytes g room read place in
      let never : ◌≡◌ {A = Bool} false true = subst IsErr (same_image g j w behind one bytes) bad in
      absurd cc

  -- no larger tile
  pub no_larger : (held : Option (List ℕ)) (image : Option PackedImage) (result : Result ReadHdu Stop) → IfSome held (IsReadAgain k start most h) → 2880 * h.blocks ≤ length buf → Reads held start (front h buf) → h.start ≡ start →
      image_to_unpack h (front h buf) after_empty ≡ Ok image → is_larger tile image ≡ true → IfSome held (λ g. ReadsAsSeen g k start after_empty most tile result)
  no_larger None image result again room read place said large = tt
  no_larger (Some g) image result again room read place said large = λ j w behind.
      let one = same_header g j w again in
      let bytes = same_bytes g room read place in
      let both = sym said ∙ same_image g j w behind one bytes in
      let images : image ≡ w.image = cc in
      absurd (small_image tile w.image w.small (subst (λ (i : Option PackedImage). is_larger tile i ≡ true) images large))

  -- it is the same
  pub answered : (held : Option (List ℕ)) (a : ReadHdu) → IfSome held (IsReadAgain k start most h) → a.header ≡ h → IfSome held (λ g. ReadsAsSeen g k start after_empty most tile (Ok a))
  answered None a again is = tt
  answered (Some g) a again is = λ j w behind. (tt, is ∙ same_header g j w again)
