-- The HDU whose header was read once more is the one that is placed there (FITS 4.0, section 10.1).
use Rattle.std.proofs.Common.{◌≡◌, ℕ, ◌+◌, ◌*◌, ◌/◌, ◌≤◌, Bool, true, false, if◌then◌else◌, List, [], length, Option, Some, None, IfSome, refl, sym, ap, ◌∙◌, subst, arith}
use Rattle.fz_block.specs.Hdus.{cards_of, header_bytes}
use Rattle.fz_block.specs.Header.{next_start_of, whole_blocks_of}
use Rattle.fz_block.specs.declared.header.Header.{Header}
use Rattle.fz_grid.specs.Arrays.{product}
use Rattle.fz_grid.specs.Laws.{JoinedIsArray}
use Rattle.fz_grid.specs.Region.{lengths_of}
use Rattle.fz_tile.specs.Laws.{HasPlainLen}
use Rattle.fz_tile.specs.Pixels.{IsBitpix}
use Rattle.fz_checks.specs.JobChecks.{image_to_unpack, is_after_empty}
use Rattle.fz_head.specs.PlainHeader.{plain_header}
use Rattle.fz_checks.specs.declared.job_checks.PackedImage.{PackedImage}
use Rattle.fz_head.specs.declared.plan.Plan.{Plan}
use Rattle.fz_files.specs.Packed.{pixel_bits}
use Rattle.fz_files.specs.Restored.{header_in, is_image, plan_in}
use Rattle.fz_files.specs.RestoredFile.{restored_hdu}
use Rattle.fz_files.specs.declared.job.Job.TheVariants.{Unpack}
use Rattle.fz_job.specs.declared.survey.Survey.{Survey}
use Rattle.fz_job.specs.Again.{IsUsable, header_at_front}
use Rattle.fz_job.specs.Known.{IsKnown}
use Rattle.fz_job.specs.declared.again.ReadHdu.{ReadHdu}
use Rattle.fz_look.specs.Here.{IsCopiedHere, IsImageHere, data_len_of, here_of, here_with, image_or_none, made_header, place_of}
use Rattle.fz_look.specs.Laws.{IsFound, IsHere}
use Rattle.fz_look.specs.declared.here.Here.{Here}
use Rattle.fz_look.proofs.Knowing.{it, last_in, same_header}
use Rattle.fz_look.proofs.Lengths.{copy_len, image_len}
use Rattle.fz_look.proofs.Said.{header_there, image_said, none_said}

made_if : (g : List ℕ) (h : Header) (b : Bool) → is_image g h ≡ b → made_header g h ≡ (if b then header_bytes (plain_header (cards_of (header_in g h))) else [])
made_if g h b is = ap (λ (c : Bool). if c then header_bytes (plain_header (cards_of (header_in g h))) else []) is

data_if : (g : List ℕ) (h : Header) (b : Bool) → is_image g h ≡ b → data_len_of g h ≡ (if b then pixel_bits (plan_in g h) / 8 * product (lengths_of (plan_in g h).shape) else length (restored_hdu g h))
data_if g h b is = ap (λ (c : Bool). if c then pixel_bits (plan_in g h) / 8 * product (lengths_of (plan_in g h).shape) else length (restored_hdu g h)) is

module _ (len : HasPlainLen) (array : JoinedIsArray) (g : List ℕ) (s : Survey) (known : IsKnown Unpack g s) (k start at : ℕ) (flag : Bool) (buf : List ℕ) (a : ReadHdu) (h : Here)
    (f : IsFound g s k start at flag buf a) (read : h.read ≡ a) (behind : h.after_empty ≡ flag) (place : h.at ≡ at) where
  there : header_in g a.header ≡ header_at_front a buf
  there = header_there (Some g) f.len buf a f.again g refl

  -- what its header says of it
  with_a : here_with g a.header ≡ f.placed.here
  with_a = ap (here_with g) (same_header g s known k start at flag f.placed a f.seen) ∙ (it g s known k start at flag f.placed).with_it

  at_a : place_of g a.header ≡ at
  at_a = ap (λ (e : Here). e.at) with_a ∙ f.placed.place

  flag_a : is_after_empty g a.header ≡ flag
  flag_a = ap (λ (e : Here). e.after_empty) with_a ∙ f.placed.flag

  image_a : image_or_none (image_to_unpack a.header (header_in g a.header) (is_after_empty g a.header)) ≡ a.image
  image_a =
      ap (λ b. image_or_none (image_to_unpack a.header (header_in g a.header) b)) flag_a
      ∙ ap (λ (l : List ℕ). image_or_none (image_to_unpack a.header l flag)) there ∙ ap image_or_none f.image

  read_a : (here_with g a.header).read ≡ h.read
  read_a =
      let same : (here_with g a.header).read ≡ a = λ i. record { header = a.header; image = image_a i } in
      same ∙ sym read

  within_a : next_start_of a.header ≤ length g
  within_a = omega (arith, f.again.inside, f.long)

  number_a : a.header.hdu ≡ k
  number_a = ap (λ (j : Header). j.hdu) (same_header g s known k start at flag f.placed a f.seen) ∙ (it g s known k start at flag f.placed).number

  header_is : h.read.header ≡ a.header
  header_is = ap (λ (r : ReadHdu). r.header) read

  all_same : place_of g a.header + length (made_header g a.header) ≡ h.data_at → place_of g a.header + length (made_header g a.header) + data_len_of g a.header ≡ h.data_end →
      place_of g a.header + length (restored_hdu g a.header) ≡ h.end → here_with g a.header ≡ h
  all_same one two three = λ i. record {
    read = read_a i;
    after_empty = (flag_a ∙ sym behind) i;
    at = (at_a ∙ sym place) i;
    data_at = one i;
    data_end = two i;
    end = three i;
  }

  found_by : here_with g a.header ≡ h → here_of g h.read.header.hdu ≡ Some h
  found_by same =
      ap (λ (j : Header). here_of g j.hdu) header_is ∙ ap (here_of g) number_a
      ∙ f.placed.found ∙ ap Some (sym with_a ∙ same)

  copied_same : a.image ≡ None → IsCopiedHere a at h → here_with g a.header ≡ h
  copied_same none is =
      let packed : is_image g a.header ≡ false = none_said (Some g) f.len buf a f.again g refl none in
      let made : length (made_header g a.header) ≡ 0 = ap length (made_if g a.header false packed) in
      let bytes : length (restored_hdu g a.header) + a.header.start ≡ next_start_of a.header = copy_len g a.header packed within_a in
      let pixel_data : data_len_of g a.header ≡ length (restored_hdu g a.header) = data_if g a.header false packed in
      all_same (omega (arith, at_a, made, is.data_at)) (omega (arith, at_a, made, pixel_data, bytes, is.data_end)) (omega (arith, at_a, bytes, is.data_end, is.end))

  module _ (i : PackedImage) (some : a.image ≡ Some i) (is : IsImageHere (header_at_front a buf) a i.plan flag at h) (size : IsBitpix i.plan.bitpix) where
    packed : is_image g a.header ≡ true
    packed = (image_said (Some g) f.len buf a f.again i g refl some).0

    plan_same : plan_in g a.header ≡ i.plan
    plan_same = (image_said (Some g) f.len buf a f.again i g refl some).1.plan

    made_same : made_header g a.header ≡ header_bytes (plain_header (cards_of (header_at_front a buf)))
    made_same = made_if g a.header true packed ∙ ap (λ (l : List ℕ). header_bytes (plain_header (cards_of l))) there

    image_same : here_with g a.header ≡ h
    image_same =
        let front : length (made_header g a.header) ≡ length (header_bytes (plain_header (cards_of (header_at_front a buf)))) = ap length made_same in
        let bytes : Plan → ℕ = λ p. pixel_bits p / 8 * product (lengths_of p.shape) in
        let pixel_data : data_len_of g a.header ≡ bytes i.plan = data_if g a.header true packed ∙ ap bytes plan_same in
        let all : length (restored_hdu g a.header) ≡ length (header_bytes (plain_header (cards_of (header_at_front a buf)))) + whole_blocks_of (bytes i.plan) =
        image_len g a.header len array packed (subst (λ (p : Plan). IsBitpix p.bitpix) (sym plan_same) size)
        ∙ (λ j. length (header_bytes (plain_header (cards_of (there j)))) + whole_blocks_of (bytes (plan_same j))) in
        all_same (omega (arith, at_a, front, is.data_at)) (omega (arith, at_a, front, is.data_at, pixel_data, is.data_end)) (omega (arith, at_a, all, is.data_at, is.end))

  is_here_by : (o : Option PackedImage) → a.image ≡ o → (a.image ≡ None → IsCopiedHere a at h) → IfSome o (λ i. IsImageHere (header_at_front a buf) a i.plan flag at h) → IsHere g buf a h
  is_here_by None none copied image =
      let same = copied_same none (copied none) in
      let found = found_by same in
      let packed : is_image g a.header ≡ false = none_said (Some g) f.len buf a f.again g refl none in
      record {
        here = found;
        last = last_in g s known h found;
        copied = λ is. ap (made_header g) header_is ∙ made_if g a.header false packed;
        made = subst (λ (q : Option PackedImage). IfSome q (λ i. made_header g h.read.header ≡ header_bytes (plain_header (cards_of (header_at_front a buf))))) (sym none) tt;
      }
  is_here_by (Some i) some copied image =
      let usable : IsUsable (header_at_front a buf) a.header f.len i = subst (λ (q : Option PackedImage). IfSome q (IsUsable (header_at_front a buf) a.header f.len)) some f.again.usable in
      let same = image_same i some image usable.readable.codec.size in
      let found = found_by same in
      record {
        here = found;
        last = last_in g s known h found;
        copied = λ none. absurd (apart i (sym some ∙ none));
        made = subst (λ (q : Option PackedImage). IfSome q (λ j. made_header g h.read.header ≡ header_bytes (plain_header (cards_of (header_at_front a buf))))) (sym some)
            (ap (made_header g) header_is ∙ made_same i some image usable.readable.codec.size);
      }
    where
      apart : (j : PackedImage) → ◌≡◌ {A = Option PackedImage} (Some j) None → ⊥
      apart j is = cc

  pub is_here : (a.image ≡ None → IsCopiedHere a at h) → IfSome a.image (λ i. IsImageHere (header_at_front a buf) a i.plan flag at h) → IsHere g buf a h
  is_here copied image = is_here_by a.image refl copied image
