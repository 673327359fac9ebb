-- What is cut from an HDU whose header was read once more (FITS 4.0, section 10.1).
use Rattle.std.proofs.Common.{◌≡◌, ℕ, ◌*◌, true, List, length, take, drop, Option, Some, None, IfSome, Ok, refl, sym, ap, subst, ◌∙◌, arith}
use Rattle.std.proofs.lemmas.List.{length-take}
use Rattle.fz_base.specs.Refusal.{first_refusal}
use Rattle.fz_base.specs.Source.{Reads}
use Rattle.fz_block.specs.Hdus.{cards_of, header_bytes}
use Rattle.fz_block.specs.declared.header.Header.{Header}
use Rattle.fz_grid.specs.declared.region.Region.{Region}
use Rattle.fz_grid.specs.declared.sieve.Sieve.{Sieve}
use Rattle.fz_table.specs.Tables.{table_in}
use Rattle.fz_checks.specs.JobChecks.{cut_checks, image_in, image_to_cut}
use Rattle.fz_head.specs.PackedPlan.{plan_of_cards}
use Rattle.fz_checks.specs.declared.job_checks.PackedImage.{PackedImage}
use Rattle.fz_files.specs.CutoutBytes.{cutout_cards}
use Rattle.fz_files.specs.Restored.{header_in}
use Rattle.fz_job.specs.Images.{IsSaid}
use Rattle.fz_cut.specs.Again.{IsAgain, header_at_front}
use Rattle.fz_cut.specs.declared.again.Again.{Again}
use Rattle.fz_cut.proofs.Standing.{answer}

-- the image is the one that the header says
image_said : (h : Header) (header : List ℕ) (region : Region) (image : PackedImage) → image_to_cut h header true region ≡ Ok image → image_in h header ≡ image
unfolding image_to_cut
image_said h header region image is = (answer h header true region (first_refusal (cut_checks h header true region)) image is).1

module _ (held : Option (List ℕ)) (n : ℕ) (region : Region) (buf : List ℕ) (a : Again) (w : IsAgain held n region buf a) where
  -- its header in the file is the one that was read
  header_there : (g : List ℕ) → held ≡ Some g → header_in g a.header ≡ header_at_front a buf
  header_there g told =
      let long : length (header_at_front a buf) ≡ 2880 * a.header.blocks = omega (arith, w.room, length-take (2880 * a.header.blocks) buf) in
      let read : header_at_front a buf ≡ take (length (header_at_front a buf)) (drop a.header.start g) = subst (λ (l : Option (List ℕ)). Reads l a.header.start (header_at_front a buf)) told w.read in
      sym (read ∙ ap (λ m. take m (drop a.header.start g)) long)

  -- and so are its plan and its table
  pub said_again : IfSome held (λ g. IsSaid g a.header a.image)
  said_again = by_held held refl
    where
      is : image_in a.header (header_at_front a buf) ≡ a.image
      is = image_said a.header (header_at_front a buf) region a.image w.found

      by_held : (l : Option (List ℕ)) → held ≡ l → IfSome l (λ g. IsSaid g a.header a.image)
      by_held None told = tt
      by_held (Some g) told =
          let there : header_in g a.header ≡ header_at_front a buf = header_there g told in
          record {
            plan = ap (λ (l : List ℕ). plan_of_cards (cards_of l)) there ∙ ap (λ (q : PackedImage). q.plan) is;
            table = ap (λ (l : List ℕ). table_in l a.header) there ∙ ap (λ (q : PackedImage). q.table) is;
          }

  -- the header of the part is made of it
  pub header_again : (sieve : Sieve) (front : List ℕ) → front ≡ header_bytes (cutout_cards sieve (cards_of (header_at_front a buf))) → IfSome held (λ g. front ≡ header_bytes (cutout_cards sieve (cards_of (header_in g a.header))))
  header_again sieve front is = by_held held refl
    where
      by_held : (l : Option (List ℕ)) → held ≡ l → IfSome l (λ g. front ≡ header_bytes (cutout_cards sieve (cards_of (header_in g a.header))))
      by_held None told = tt
      by_held (Some g) told = is ∙ ap (λ (l : List ℕ). header_bytes (cutout_cards sieve (cards_of l))) (sym (header_there g told))
