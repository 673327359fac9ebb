-- What is known of an HDU whose header was read again (FITS 4.0, sections 3.1 and 10.1).
use Rattle.std.proofs.Common.{◌≡◌, ℕ, ◌+◌, ◌-◌, ◌*◌, ◌/◌, ◌<◌, ◌≤◌, Bool, List, ◌++◌, length, take, drop, Option, Some, None, IfSome, Ok, Err, refl, sym, ap, ◌∙◌, subst, arith}
use Rattle.std.specs.Option.{ForSome}
use Rattle.std.proofs.lemmas.List.{take_at}
use Rattle.fz_base.specs.Ranges.{LogsIn}
use Rattle.fz_base.specs.Source.{LogsWithin}
use Rattle.fz_base.specs.Stop.{IfRefused}
use Rattle.fz_base.specs.declared.failure.Stop.{Stop}
use Rattle.fz_base.specs.declared.failure.Stop.TheVariants.{Refused, ReadFault, WriteFault, OverLimit, NoMemory}
use Rattle.fz_block.specs.Checks.{header_touched}
use Rattle.fz_block.specs.Hdus.{cards_of, header_bytes}
use Rattle.fz_block.specs.Header.{next_start_of}
use Rattle.fz_block.specs.declared.header.Header.{Header}
use Rattle.fz_grid.specs.Arrays.{product}
use Rattle.fz_grid.specs.Region.{lengths_of}
use Rattle.fz_head.specs.Conditions.{IsPackedPlan}
use Rattle.fz_checks.specs.JobChecks.{image_to_unpack}
use Rattle.fz_head.specs.PlainHeader.{plain_header}
use Rattle.fz_checks.specs.declared.job_checks.PackedImage.{PackedImage}
use Rattle.fz_files.specs.Packed.{pixel_bits}
use Rattle.fz_files.specs.Restored.{pixels_of}
use Rattle.fz_files.specs.Touched.{touched_by}
use Rattle.fz_files.specs.declared.job.Job.TheVariants.{Unpack}
use Rattle.fz_job.specs.Images.{IsReadable}
use Rattle.fz_job.specs.declared.survey.Survey.{Survey}
use Rattle.fz_job.specs.Again.{IsAgain, IsUsable, ReadsAsSeen, header_at_front}
use Rattle.fz_job.specs.declared.again.ReadHdu.{ReadHdu}
use Rattle.fz_retile.specs.Begins.{IsBegun, IsReadHere, IsToldHere}
use Rattle.fz_look.specs.Here.{IsCopiedHere, IsImageHere, IsInOrder, IsReadHeader, made_header}
use Rattle.fz_look.specs.Laws.{FoundIsHere, HeaderIsTouched, IsHere, PlacedIsRead}
use Rattle.fz_look.specs.declared.here.Here.{Here}
use Rattle.fz_retile.specs.declared.reading.Begin.{Begin}
use Rattle.fz_retile.proofs.ViewLengths.{some_header}
use Rattle.fz_retile.proofs.Readable.{read_of}
use Rattle.fz_retile.proofs.Somes.{for_none, for_some}

-- the image can be read, and its header be made
pub can_make : (header : List ℕ) (h : Header) (len : ℕ) (o : Option PackedImage) → IfSome o (IsUsable header h len) → IfSome o (λ i. IsPackedPlan header h i.plan × IsReadable i)
can_make header h len None usable = tt
can_make header h len (Some i) usable = (usable.said.planned, usable.readable)

-- a buffer that was lent and filled
pub given_back : {A : Type 0} (old new : List A) → length new ≡ length old → take (length old) (new ++ drop (length new) old) ≡ new
given_back old new long = take_at new (drop (length new) old) (length old) long

-- the same buffer, as it was lent
pub image_again : (a : ReadHdu) (h : Here) (flag : Bool) (at : ℕ) (one two : List ℕ) → one ≡ two → IfSome a.image (λ i. IsImageHere (header_at_front a one) a i.plan flag at h) → IfSome a.image (λ i. IsImageHere (header_at_front a two) a i.plan flag at h)
image_again a h flag at one two same is = subst (λ (buf : List ℕ). IfSome a.image (λ i. IsImageHere (header_at_front a buf) a i.plan flag at h)) same is

pub made_again : (a : ReadHdu) (h : Here) (at : ℕ) (made one two : List ℕ) → one ≡ two → IfSome a.image (λ i. take (h.data_at - at) made ≡ header_bytes (plain_header (cards_of (header_at_front a one)))) →
    IfSome a.image (λ i. take (h.data_at - at) made ≡ header_bytes (plain_header (cards_of (header_at_front a two))))
made_again a h at made one two same is = subst (λ (buf : List ℕ). IfSome a.image (λ i. take (h.data_at - at) made ≡ header_bytes (plain_header (cards_of (header_at_front a buf))))) same is

module _ (held : Option (List ℕ)) (n : ℕ) (buf : List ℕ) (a : ReadHdu) (w : IsAgain held n buf a) (flag : Bool) (at : ℕ) (h : Here) (read : h.read ≡ a) (behind : h.after_empty ≡ flag) (place : h.at ≡ at) where
  header_same : h.read.header ≡ a.header
  header_same = ap (λ (r : ReadHdu). r.header) read

  image_same : h.read.image ≡ a.image
  image_same = ap (λ (r : ReadHdu). r.image) read

  front_same : take (2880 * h.read.header.blocks) buf ≡ header_at_front a buf
  front_same = ap (λ (e : Header). take (2880 * e.blocks) buf) header_same

  some_blocks : 1 ≤ a.header.blocks
  some_blocks = (read_of (header_at_front a buf) a.header w.header).some

  -- its places

  module _ (plain_len room : ℕ) (number : a.header.hdu ≤ 65536) (fits : h.data_at ≤ at + room) (last : h.end ≤ plain_len) where
    order_copied : a.image ≡ None → IsCopiedHere a at h → IsInOrder plain_len n room h
    order_copied none is =
        let begin : h.read.header.start ≡ a.header.start = ap (λ (e : Header). e.start) header_same in
        let next : next_start_of h.read.header ≡ next_start_of a.header = ap next_start_of header_same in
        let hdu : h.read.header.hdu ≡ a.header.hdu = ap (λ (e : Header). e.hdu) header_same in
        record {
          number = omega (arith, hdu, number);
          some = omega (arith, place, is.data_end, is.end, some_blocks);
          header = omega (arith, place, is.data_at);
          pixels = omega (arith, is.data_at, is.data_end);
          fill = omega (arith, is.end);
          near = omega (arith, is.end);
          last = last;
          made = omega (arith, fits, place);
          within = omega (arith, next, w.inside);
          whole = λ no. omega (arith, begin, next, place, is.data_end, is.end);
          all_pixels = for_none h.read.image (λ i. h.data_end ≡ h.data_at + pixel_bits i.plan / 8 * product (lengths_of i.plan.shape)) (image_same ∙ none);
        }

    order_image : (i : PackedImage) → a.image ≡ Some i → IsImageHere (header_at_front a buf) a i.plan flag at h → IsInOrder plain_len n room h
    order_image i some is =
        let next : next_start_of h.read.header ≡ next_start_of a.header = ap next_start_of header_same in
        let hdu : h.read.header.hdu ≡ a.header.hdu = ap (λ (e : Header). e.hdu) header_same in
        let front = some_header (plain_header (cards_of (header_at_front a buf))) in
        record {
          number = omega (arith, hdu, number);
          some = omega (arith, place, is.data_at, is.end, front);
          header = omega (arith, place, is.data_at);
          pixels = omega (arith, is.data_end);
          fill = omega (arith, is.data_end, is.end);
          near = omega (arith, is.data_end, is.end);
          last = last;
          made = omega (arith, fits, place);
          within = omega (arith, next, w.inside);
          whole = λ no. absurd (apart i (sym some ∙ sym image_same ∙ no));
          all_pixels = λ j those. is.data_end ∙ ap (λ (q : PackedImage). h.data_at + pixel_bits q.plan / 8 * product (lengths_of q.plan.shape)) (one i j (sym some ∙ sym image_same ∙ those));
        }
      where
        apart : (j : PackedImage) → ◌≡◌ {A = Option PackedImage} (Some j) None → ⊥
        apart j is = cc

        one : (i j : PackedImage) → ◌≡◌ {A = Option PackedImage} (Some i) (Some j) → i ≡ j
        one i j is = cc

    order_by : (o : Option PackedImage) → a.image ≡ o → (a.image ≡ None → IsCopiedHere a at h) → IfSome o (λ i. IsImageHere (header_at_front a buf) a i.plan flag at h) → IsInOrder plain_len n room h
    order_by None none copied image = order_copied none (copied none)
    order_by (Some i) some copied image = order_image i some image

    pub read_here : (tile : ℕ) → image_to_unpack a.header (header_at_front a buf) flag ≡ Ok a.image → IfSome a.image (λ i. pixels_of i.plan 0 ≤ tile) →
        (a.image ≡ None → IsCopiedHere a at h) → IfSome a.image (λ i. IsImageHere (header_at_front a buf) a i.plan flag at h) → IsReadHere plain_len n room tile buf h
    read_here tile found small copied image =
        let usable : ForSome h.read.image (IsUsable (header_at_front a buf) a.header n) =
        subst (λ (o : Option PackedImage). ForSome o (IsUsable (header_at_front a buf) a.header n)) (sym image_same) (for_some a.image (IsUsable (header_at_front a buf) a.header n) w.usable) in
        record {
          order = order_by a.image refl copied image;
          header = subst (λ (e : Header). IsReadHeader (take (2880 * e.blocks) buf) e) (sym header_same) (read_of (header_at_front a buf) a.header w.header);
          image = (λ i. image_to_unpack (header_same i) (front_same i) (behind i)) ∙ found ∙ ap Ok (sym image_same);
          table = λ i is. (usable i is).readable.table;
          near = λ i is. (usable i is).inside;
          small = subst (λ (o : Option PackedImage). ForSome o (λ i. pixels_of i.plan 0 ≤ tile)) (sym image_same) (for_some a.image (λ i. pixels_of i.plan 0 ≤ tile) small);
        }

-- ---- where the bytes are shown

-- the header that was made is its own
made_by : (g buf made : List ℕ) (a : ReadHdu) (h : Here) (at : ℕ) (o : Option PackedImage) → a.image ≡ o → h.at ≡ at → IsHere g buf a h → (a.image ≡ None → h.data_at ≡ at) →
    IfSome o (λ i. take (h.data_at - at) made ≡ header_bytes (plain_header (cards_of (header_at_front a buf)))) → take (h.data_at - h.at) made ≡ made_header g h.read.header
made_by g buf made a h at None none place is copied image =
    let zero : h.data_at - h.at ≡ 0 = omega (arith, place, copied none) in
    ap (λ n. take n made) zero ∙ sym (is.copied none)
made_by g buf made a h at (Some i) some place is copied image =
    let own : made_header g h.read.header ≡ header_bytes (plain_header (cards_of (header_at_front a buf))) =
    subst (λ (o : Option PackedImage). IfSome o (λ j. made_header g h.read.header ≡ header_bytes (plain_header (cards_of (header_at_front a buf))))) some is.made in
    ap (λ n. take (h.data_at - n) made) place ∙ image ∙ sym own

module _ (law : FoundIsHere) (s : Survey) (plain_len : ℕ) (b : Begin) (buf made : List ℕ) (a : ReadHdu) (h : Here) (read : h.read ≡ a) (behind : h.after_empty ≡ b.after_empty) (place : h.at ≡ b.at)
    (copied : a.image ≡ None → IsCopiedHere a b.at h) (image : IfSome a.image (λ i. IsImageHere (header_at_front a buf) a i.plan b.after_empty b.at h)) where
  here_by : (g : List ℕ) (n : ℕ) → length g ≡ n → IsBegun g s plain_len b → IsAgain (Some g) n buf a → ReadsAsSeen g b.hdu b.start b.after_empty s.header_len s.tile (Ok a) →
      image_to_unpack a.header (header_at_front a buf) b.after_empty ≡ Ok a.image → IsHere g buf a h
  here_by g n long begun again seen found =
      law g s b.hdu b.start b.at b.after_empty buf a h (record { sound = begun.sound; placed = begun.placed; seen = seen; len = n; long = long; again = again; image = found }) read behind place copied image

  -- it is the one that is placed there
  pub told_here : (held : Option (List ℕ)) (n : ℕ) → IfSome held (λ g. length g ≡ n) → IfSome held (λ g. IsBegun g s plain_len b) → IsAgain held n buf a → IfSome held (λ g. ReadsAsSeen g b.hdu b.start b.after_empty s.header_len s.tile (Ok a)) →
      image_to_unpack a.header (header_at_front a buf) b.after_empty ≡ Ok a.image → IfSome a.image (λ i. take (h.data_at - b.at) made ≡ header_bytes (plain_header (cards_of (header_at_front a buf)))) →
      IfSome held (λ g. IsToldHere g made h)
  told_here None n long begun again seen found own = tt
  told_here (Some g) n long begun again seen found own =
      let is = here_by g n long begun again seen found in
      record { here = is.here; made_is = made_by g buf made a h b.at a.image refl place is (λ none. (copied none).data_at) own }

  -- and ends within the plain bytes
  pub never_past : (X : Type 0) (stop : Stop) (held : Option (List ℕ)) (n : ℕ) → IfSome held (λ g. length g ≡ n) → IfSome held (λ g. IsBegun g s plain_len b) → IsAgain held n buf a →
      IfSome held (λ g. ReadsAsSeen g b.hdu b.start b.after_empty s.header_len s.tile (Ok a)) → image_to_unpack a.header (header_at_front a buf) b.after_empty ≡ Ok a.image → plain_len < h.end →
      IfSome held (λ g. IfRefused {X = X} (Err stop) (λ x. ⊥))
  never_past X stop None n long begun again seen found past = tt
  never_past X stop (Some g) n long begun again seen found past =
      let is = here_by g n long begun again seen found in
      absurd (omega (arith, is.last, begun.long, past))

-- ---- a header that is not read

unrefused : (X Y : Type 0) (stop : Stop) → IfRefused {X = X} (Err stop) (λ x. ⊥) → IfRefused {X = Y} (Err stop) (λ x. ⊥)
unrefused X Y (Refused x) is = is
unrefused X Y ReadFault is = tt
unrefused X Y WriteFault is = tt
unrefused X Y (OverLimit live asked limit) is = tt
unrefused X Y NoMemory is = tt

-- it is never refused
pub never_unread : PlacedIsRead → (s : Survey) (plain_len : ℕ) (b : Begin) (stop : Stop) (held : Option (List ℕ)) → IfSome held (λ g. IsBegun g s plain_len b) →
    IfSome held (λ g. ReadsAsSeen g b.hdu b.start b.after_empty s.header_len s.tile (Err stop)) → IfSome held (λ g. IfRefused {X = Here} (Err stop) (λ x. ⊥))
never_unread law s plain_len b stop None begun seen = tt
never_unread law s plain_len b stop (Some g) begun seen = unrefused ReadHdu Here stop (law g s b.hdu b.start b.at b.after_empty (Err stop) begun.sound begun.placed seen)

-- what is read of it is what `unpack` reads
pub header_read : HeaderIsTouched → (s : Survey) (plain_len : ℕ) (b : Begin) (held : Option (List ℕ)) (old new : Option (List (ℕ × ℕ))) → IfSome held (λ g. IsBegun g s plain_len b) →
    IfSome held (λ g. LogsWithin b.start (header_touched b.hdu b.start g) old new) → IfSome held (λ g. LogsIn (touched_by Unpack g) old new)
header_read law s plain_len b None old new begun read = tt
header_read law s plain_len b (Some g) old new begun read = law g s b.hdu b.start b.at b.after_empty old new begun.sound begun.placed read
