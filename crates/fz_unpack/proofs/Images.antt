-- What an HDU stands for whose header was read once more (FITS 4.0, section 10.1).
use Rattle.std.proofs.Common.{◌≡◌, ℕ, ◌*◌, ◌&&◌, Bool, true, false, if◌then◌else◌, List, length, take, drop, Option, Some, None, IfSome, Ok, refl, sym, ap, subst, ◌∙◌, arith}
use Rattle.std.proofs.lemmas.List.{length-take}
use Rattle.fz_base.specs.Refusal.{first_refusal}
use Rattle.fz_base.specs.Source.{Reads}
use Rattle.fz_base.specs.declared.fault.Fault.{Fault}
use Rattle.fz_block.specs.Checks.{unless_refused}
use Rattle.fz_block.specs.Hdus.{cards_of, hdu_bytes, header_bytes}
use Rattle.fz_block.specs.Walk.{hdu_of}
use Rattle.fz_block.specs.declared.header.Header.{Header}
use Rattle.fz_table.specs.Tables.{table_in}
use Rattle.fz_checks.specs.JobChecks.{image_in, image_to_unpack, unpack_checks}
use Rattle.fz_head.specs.Packable.{is_packed}
use Rattle.fz_head.specs.PackedPlan.{plan_of_cards}
use Rattle.fz_head.specs.PlainHeader.{plain_header, was_primary}
use Rattle.fz_checks.specs.declared.job_checks.PackedImage.{PackedImage}
use Rattle.fz_files.specs.Restored.{StandsForAs, header_in, is_image, is_packed_primary}
use Rattle.fz_job.specs.Images.{IsSaid}
use Rattle.fz_job.specs.Again.{IsAgain, header_at_front, was_primary_image}
use Rattle.fz_job.specs.Behind.{HoldsCopy}
use Rattle.fz_unpack.specs.Behind.{HoldsHdu, HoldsImage}
use Rattle.fz_job.specs.declared.again.ReadHdu.{ReadHdu}

-- ---- what the checks answer

image_by : (b : Bool) (q : PackedImage) (image : Option PackedImage) (r : Option Fault) → unless_refused (if b then Some q else None) r ≡ Ok image → image ≡ (if b then Some q else None)
image_by b q image None is = let e : (if b then Some q else None) ≡ image = cc in sym e
image_by b q image (Some x) is = absurd cc

-- the image is the one that the header says, or there is none
pub image_if : (h : Header) (header : List ℕ) (after_empty : Bool) (image : Option PackedImage) → image_to_unpack h header after_empty ≡ Ok image → image ≡ (if is_packed header h then Some (image_in h header) else None)
unfolding image_to_unpack
image_if h header after_empty image is = image_by (is_packed header h) (image_in h header) image (first_refusal (unpack_checks h header after_empty)) is

some_image : (b : Bool) (q i : PackedImage) → Some i ≡ (if b then Some q else None) → b ≡ true
some_image true q i is = refl
some_image false q i is = absurd cc

no_image : (b : Bool) (q : PackedImage) → ◌≡◌ {A = Option PackedImage} None (if b then Some q else None) → b ≡ false
no_image true q is = absurd cc
no_image false q is = refl

pub primary_said : (cards : List (List ℕ)) → (plan_of_cards cards).primary ≡ was_primary cards
unfolding plan_of_cards
primary_said cards = refl

primary_by : (b : Bool) (h : Header) (header : List ℕ) → was_primary_image (if b then Some (image_in h header) else None) ≡ (b && was_primary (cards_of header))
primary_by true h header = primary_said (cards_of header)
primary_by false h header = refl

module _ (held : Option (List ℕ)) (n : ℕ) (buf : List ℕ) (a : ReadHdu) (w : IsAgain held n buf a) where
  -- its header in the file is the one that was read
  pub header_there : (g : List ℕ) → held ≡ Some g → header_in g a.header ≡ header_at_front a buf
  header_there g told =
      let long : length (header_at_front a buf) ≡ 2880 * a.header.blocks = omega (arith, w.room, length-take (2880 * a.header.blocks) buf) in
      let read : header_at_front a buf ≡ take (length (header_at_front a buf)) (drop a.header.start g) = subst (λ (l : Option (List ℕ)). Reads l a.header.start (header_at_front a buf)) told w.read in
      sym (read ∙ ap (λ m. take m (drop a.header.start g)) long)

  said : a.image ≡ (if is_packed (header_at_front a buf) a.header then Some (image_in a.header (header_at_front a buf)) else None)
  said = image_if a.header (header_at_front a buf) w.after_empty a.image w.found

  -- the image was a primary as the header says
  pub primary_is : (g : List ℕ) → held ≡ Some g → was_primary_image a.image ≡ is_packed_primary g a.header
  primary_is g told =
      ap was_primary_image said ∙ primary_by (is_packed (header_at_front a buf) a.header) a.header (header_at_front a buf)
      ∙ ap (λ (l : List ℕ). is_packed l a.header && was_primary (cards_of l)) (sym (header_there g told))

  -- an HDU without an image stays as it is
  pub stays : (g : List ℕ) → held ≡ Some g → a.image ≡ None → is_image g a.header ≡ false
  stays g told is =
      ap (λ (l : List ℕ). is_packed l a.header) (header_there g told)
      ∙ no_image (is_packed (header_at_front a buf) a.header) (image_in a.header (header_at_front a buf)) (sym is ∙ said)

  unpacks : (g : List ℕ) → held ≡ Some g → (i : PackedImage) → a.image ≡ Some i → is_image g a.header ≡ true
  unpacks g told i is =
      ap (λ (l : List ℕ). is_packed l a.header) (header_there g told)
      ∙ some_image (is_packed (header_at_front a buf) a.header) (image_in a.header (header_at_front a buf)) i (sym is ∙ said)

  pub holds_copy : a.image ≡ None → (at end : ℕ) (before now : Option (List ℕ)) → IfSome held (λ g. HoldsCopy a.header g at end before now) → IfSome held (λ g. HoldsHdu a.header g at end before now)
  holds_copy is at end before now = by_held held refl
    where
      by_held : (l : Option (List ℕ)) → held ≡ l → IfSome l (λ g. HoldsCopy a.header g at end before now) → IfSome l (λ g. HoldsHdu a.header g at end before now)
      by_held None told put = tt
      by_held (Some g) told put = record {
        bytes = hdu_bytes (hdu_of g a.header);
        stands = subst (λ b. StandsForAs b g a.header (hdu_bytes (hdu_of g a.header))) (sym (stays g told is)) refl;
        holds = put;
      }

  -- the image was read with the header
  pub with_image : (i : PackedImage) → a.image ≡ Some i → IsAgain held n buf (record { header = a.header; image = Some i })
  with_image i is = subst (λ (q : Option PackedImage). IsAgain held n buf (record { header = a.header; image = q })) is w

  pub holds_image : (i : PackedImage) → a.image ≡ Some i → (at end : ℕ) (before now : Option (List ℕ)) → IfSome held (λ g. HoldsImage a.header g at end before now) → IfSome held (λ g. HoldsHdu a.header g at end before now)
  holds_image i is at end before now = by_held held refl
    where
      by_held : (l : Option (List ℕ)) → held ≡ l → IfSome l (λ g. HoldsImage a.header g at end before now) → IfSome l (λ g. HoldsHdu a.header g at end before now)
      by_held None told put = tt
      by_held (Some g) told put = record {
        bytes = put.image;
        stands = subst (λ b. StandsForAs b g a.header put.image) (sym (unpacks g told i is)) put.is;
        holds = put.holds;
      }

-- ---- the image that was read with the header

-- it is the one that the header in the file says
is_said_by : (b : Bool) (q i : PackedImage) → Some i ≡ (if b then Some q else None) → i ≡ q
is_said_by true q i is = cc
is_said_by false q i is = absurd cc

module _ (held : Option (List ℕ)) (n : ℕ) (buf : List ℕ) (h : Header) (i : PackedImage) (w : IsAgain held n buf (record { header = h; image = Some i })) where
  abbrev read_once_more : ReadHdu
  read_once_more = record { header = h; image = Some i }

  pub said_again : IfSome held (λ g. IsSaid g h i)
  said_again = by_held held refl
    where
      header : List ℕ
      header = header_at_front read_once_more buf

      is : i ≡ image_in h header
      is = is_said_by (is_packed header h) (image_in h header) i (image_if h header w.after_empty (Some i) w.found)

      by_held : (l : Option (List ℕ)) → held ≡ l → IfSome l (λ g. IsSaid g h i)
      by_held None told = tt
      by_held (Some g) told =
          let there : header_in g h ≡ header = header_there held n buf read_once_more w g told in
          record {
            plan = ap (λ (l : List ℕ). plan_of_cards (cards_of l)) there ∙ sym (ap (λ (q : PackedImage). q.plan) is);
            table = ap (λ (l : List ℕ). table_in l h) there ∙ sym (ap (λ (q : PackedImage). q.table) is);
          }

  pub packed_again : IfSome held (λ g. is_image g h ≡ true)
  packed_again = by_held held refl
    where
      by_held : (l : Option (List ℕ)) → held ≡ l → IfSome l (λ g. is_image g h ≡ true)
      by_held None told = tt
      by_held (Some g) told = unpacks held n buf read_once_more w g told i refl

  -- its header is the one that was read
  pub header_again : (front : List ℕ) → front ≡ header_bytes (plain_header (cards_of (header_at_front read_once_more buf))) → IfSome held (λ g. front ≡ header_bytes (plain_header (cards_of (header_in g h))))
  header_again front is = by_held held refl
    where
      by_held : (l : Option (List ℕ)) → held ≡ l → IfSome l (λ g. front ≡ header_bytes (plain_header (cards_of (header_in g h))))
      by_held None told = tt
      by_held (Some g) told = is ∙ ap (λ (l : List ℕ). header_bytes (plain_header (cards_of l))) (sym (header_there held n buf read_once_more w g told))
