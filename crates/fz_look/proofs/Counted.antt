-- The bytes that HDUs stand for, one HDU after another (FITS 4.0, sections 3.1, 3.3.2 and 10.1).
use Rattle.std.proofs.Common.{◌≡◌, ℕ, ◌+◌, ◌-◌, ◌*◌, ◌/◌, ◌≤◌, ◌&&◌, inl, inr, ℤ, pos, unsigned_abs, Bool, true, false, if◌then◌else◌, List, [], ◌∷◌, ◌++◌, length, take, drop, replicate, refl, sym, ap, ◌∙◌, subst, arith}
use Rattle.std.specs.Prelude.{Option, Some, None, IfSome, Ok}
use Rattle.std.specs.List.{flat_map}
use Rattle.std.proofs.lemmas.Grind.{flat_map-append}
use Rattle.std.proofs.lemmas.List.{append-nil, length-append, length-drop, length-replicate, length-take}
use Rattle.fz_base.specs.Source.{HoldsLength}
use Rattle.fz_block.specs.Hdus.{cards_of, hdu_bytes, header_bytes}
use Rattle.fz_block.specs.Header.{next_start_of, whole_blocks_of}
use Rattle.fz_block.specs.Walk.{hdu_of}
use Rattle.fz_block.specs.declared.header.Header.{Header}
use Rattle.fz_grid.specs.Arrays.{product}
use Rattle.fz_grid.specs.Laws.{JoinedIsArray}
use Rattle.fz_grid.specs.Region.{lengths_of}
use Rattle.fz_grid.specs.Whole.{joined}
use Rattle.fz_tile.specs.Laws.{HasPlainLen}
use Rattle.fz_tile.specs.Pixels.{IsBitpix}
use Rattle.fz_tile.specs.Plain.{plain_bytes}
use Rattle.fz_checks.specs.JobChecks.{image_to_unpack}
use Rattle.fz_head.specs.PlainHeader.{plain_header}
use Rattle.fz_checks.specs.declared.job_checks.PackedImage.{PackedImage}
use Rattle.fz_head.specs.declared.plan.Plan.{Plan}
use Rattle.fz_files.specs.FirstFault.{IsFirstRowFault, rows_of}
use Rattle.fz_files.specs.Packed.{pixel_bits, zero_filled}
use Rattle.fz_files.specs.Restored.{header_in, image_bytes, is_image, is_packed_primary, plan_in, standing}
use Rattle.fz_files.specs.RestoredFile.{image_array, restored_hdu}
use Rattle.fz_job.specs.Again.{IsAgain, header_at_front, was_primary_image}
use Rattle.fz_job.specs.declared.again.ReadHdu.{ReadHdu}
use Rattle.fz_look.specs.Looked.{AreLooked, IsHduLooked, IsImageCounted, behind_primary, first_of, the_primary, with_counted}
use Rattle.fz_look.specs.declared.hdus.Counted.{Counted}
use Rattle.fz_look.specs.declared.hdus.Seen.{Seen}
use Rattle.fz_look.specs.declared.looked.First.{First}
use Rattle.fz_look.proofs.Rows.{no_rows, packed_rows, sound_joined}
use Rattle.fz_look.proofs.Said.{header_there, image_said, none_said, primary_is, usable_of}

-- ---- the bytes of an image

bits_of : (bitpix : ℤ) → IsBitpix bitpix → IsBitpix (pos (unsigned_abs bitpix))
bits_of bitpix (inl is) = inl (ap (λ b. pos (unsigned_abs b)) is)
bits_of bitpix (inr (inl is)) = inr (inl (ap (λ b. pos (unsigned_abs b)) is))
bits_of bitpix (inr (inr (inl is))) = inr (inr (inl (ap (λ b. pos (unsigned_abs b)) is)))
bits_of bitpix (inr (inr (inr is))) = inr (inr (inr (ap (λ b. pos (unsigned_abs b)) is)))

joined_lengths : (array tile : List ℕ) (tiles : List (List ℤ)) → (joined array tile tiles).lengths ≡ array
unfolding joined
joined_lengths array tile tiles = refl

-- the fill goes to whole blocks
long_filled : (bytes : List ℕ) → length (zero_filled bytes) ≡ whole_blocks_of (length bytes)
long_filled bytes =
    let all : length (zero_filled bytes) ≡ length bytes + length (replicate {A = ℕ} (whole_blocks_of (length bytes) - length bytes) 0) =
    length-append bytes (replicate (whole_blocks_of (length bytes) - length bytes) 0) in
    omega (arith, all, length-replicate {A = ℕ} (whole_blocks_of (length bytes) - length bytes) 0)

long_pixels : HasPlainLen → JoinedIsArray → (g : List ℕ) (h : Header) → IsBitpix (plan_in g h).bitpix →
    length (plain_bytes (pixel_bits (plan_in g h)) (image_array g h).numbers) ≡ pixel_bits (plan_in g h) / 8 * product (lengths_of (plan_in g h).shape)
long_pixels len array g h size =
    len (pixel_bits (plan_in g h)) (image_array g h).numbers (bits_of (plan_in g h).bitpix size)
    ∙ ap (λ n. pixel_bits (plan_in g h) / 8 * n) (array _ _ _ ∙ ap product (joined_lengths _ _ _))

long_image : HasPlainLen → JoinedIsArray → (g : List ℕ) (h : Header) → IsBitpix (plan_in g h).bitpix → is_image g h ≡ true →
    length (restored_hdu g h) ≡ length (header_bytes (plain_header (cards_of (header_in g h)))) + whole_blocks_of (pixel_bits (plan_in g h) / 8 * product (lengths_of (plan_in g h).shape))
long_image len array g h size packed =
    let header : List ℕ = header_bytes (plain_header (cards_of (header_in g h))) in
    let pixels : List ℕ = plain_bytes (pixel_bits (plan_in g h)) (image_array g h).numbers in
    ap (λ b. length (if b then image_bytes (plan_in g h) (cards_of (header_in g h)) (image_array g h) else hdu_bytes (hdu_of g h))) packed
    ∙ length-append header (zero_filled pixels)
    ∙ ap (λ n. length header + n) (long_filled pixels ∙ ap whole_blocks_of (long_pixels len array g h size))

-- those of an image that was read
image_looked : HasPlainLen → JoinedIsArray → (held : Option (List ℕ)) (n : ℕ) (buf : List ℕ) (a : ReadHdu) → IsAgain held n buf a → (i : PackedImage) → a.image ≡ Some i → (g : List ℕ) → held ≡ Some g → (c : Counted) →
    IsImageCounted (header_at_front a buf) i.plan c → c.all ≡ length (restored_hdu g a.header)
image_looked len array held n buf a w i is g told c counted =
    let both = image_said held n buf a w i g told is in
    let size : IsBitpix (plan_in g a.header).bitpix = subst (λ (p : Plan). IsBitpix p.bitpix) (sym both.1.plan) (usable_of held n buf a w i is).readable.codec.size in
    counted.all
    ∙ (λ j. length (header_bytes (plain_header (cards_of (sym (header_there held n buf a w g told) j)))) + whole_blocks_of (counted.pixels j))
    ∙ ap (λ (p : Plan). length (header_bytes (plain_header (cards_of (header_in g a.header)))) + whole_blocks_of (pixel_bits p / 8 * product (lengths_of p.shape))) (sym both.1.plan)
    ∙ sym (long_image len array g a.header size both.0)

pub packed_looked : HasPlainLen → JoinedIsArray → (held : Option (List ℕ)) (n : ℕ) (buf : List ℕ) (a : ReadHdu) → IsAgain held n buf a → (i : PackedImage) → a.image ≡ Some i → (c : Counted) → IsImageCounted (header_at_front a buf) i.plan c →
    IfSome held (λ g. IsFirstRowFault g (rows_of g a.header) None) → IfSome held (λ g. IsHduLooked g a.header c)
packed_looked len array None n buf a w i is c counted rows = tt
packed_looked len array (Some g) n buf a w i is c counted rows = record {
  sound = packed_rows g a.header None (image_said (Some g) n buf a w i g refl is).0 rows;
  bytes = image_looked len array (Some g) n buf a w i is g refl c counted;
}

-- ---- those of an HDU that is copied

long_parts : (g : List ℕ) (start header rest : ℕ) → start + header + rest ≤ length g → length (take header (drop start g) ++ take rest (drop (start + header) g)) ≡ start + header + rest - start
long_parts g start header rest within =
    omega (arith, length-append (take header (drop start g)) (take rest (drop (start + header) g)), length-take header (drop start g), length-drop start g, length-take rest (drop (start + header) g), length-drop (start + header) g, within)

long_copy : (g : List ℕ) (h : Header) → next_start_of h ≤ length g → is_image g h ≡ false → length (restored_hdu g h) ≡ next_start_of h - h.start
long_copy g h within copied =
    ap (λ b. length (if b then image_bytes (plan_in g h) (cards_of (header_in g h)) (image_array g h) else hdu_bytes (hdu_of g h))) copied
    ∙ long_parts g h.start (2880 * h.blocks) (whole_blocks_of h.data_len) within

pub copied_looked : (held : Option (List ℕ)) (n : ℕ) (buf : List ℕ) (a : ReadHdu) → IsAgain held n buf a → HoldsLength held n → a.image ≡ None → (c : Counted) → c.all ≡ next_start_of a.header - a.header.start →
    IfSome held (λ g. IsHduLooked g a.header c)
copied_looked None n buf a w told is c all = tt
copied_looked (Some g) n buf a w told is c all =
    let copied : is_image g a.header ≡ false = none_said (Some g) n buf a w g refl is in
    record { sound = no_rows g a.header copied; bytes = all ∙ sym (long_copy g a.header (omega (arith, w.inside, told)) copied) }

-- ---- of HDUs, and of one more

module _ (g : List ℕ) where
  snoc_len : (hs : List Header) (h : Header) → length (flat_map (restored_hdu g) (hs ++ h ∷ [])) ≡ length (flat_map (restored_hdu g) hs) + length (restored_hdu g h)
  snoc_len hs h =
      ap length (flat_map-append (restored_hdu g) hs (h ∷ []))
      ∙ length-append (flat_map (restored_hdu g) hs) (restored_hdu g h ++ [])
      ∙ ap (λ l. length (flat_map (restored_hdu g) hs) + length l) (append-nil (restored_hdu g h))

  pair_len : (b : Bool) (k j : Header) (ks : List Header) (h : Header) →
      length (flat_map (restored_hdu g) (if b then j ∷ (ks ++ h ∷ []) else k ∷ j ∷ (ks ++ h ∷ []))) ≡ length (flat_map (restored_hdu g) (if b then j ∷ ks else k ∷ j ∷ ks)) + length (restored_hdu g h)
  pair_len true k j ks h = snoc_len (j ∷ ks) h
  pair_len false k j ks h = snoc_len (k ∷ j ∷ ks) h

  -- a packed primary is alone, after one HDU
  standing_len : (done : List Header) (h : Header) (alone : Bool) → is_packed_primary g h ≡ alone → (alone ≡ true → length done ≡ 1) →
      length (flat_map (restored_hdu g) (standing g (done ++ h ∷ []))) ≡ (if alone then length (restored_hdu g h) else length (flat_map (restored_hdu g) (standing g done)) + length (restored_hdu g h))
  standing_len [] h true is one = absurd (omega (arith, one refl))
  standing_len [] h false is one = snoc_len [] h
  standing_len (k ∷ []) h true is one = ap (λ b. length (flat_map (restored_hdu g) (if b then h ∷ [] else k ∷ h ∷ []))) is ∙ ap length (append-nil (restored_hdu g h))
  standing_len (k ∷ []) h false is one = ap (λ b. length (flat_map (restored_hdu g) (if b then h ∷ [] else k ∷ h ∷ []))) is ∙ snoc_len (k ∷ []) h
  standing_len (k ∷ j ∷ ks) h true is one = absurd (omega (arith, one refl))
  standing_len (k ∷ j ∷ ks) h false is one = pair_len (is_packed_primary g j) k j ks h

  -- then it is the first that stands for something
  abbrev pub IsBehindOne : List Header → First → Type 0
  IsBehindOne done f = (k : Header) × (done ≡ k ∷ []) × (f ≡ behind_primary k)

  one_long : (done : List Header) (f : First) → IsBehindOne done f → length done ≡ 1
  one_long done f behind = ap length behind.1

  first_more : (done : List Header) (h : Header) (alone : Bool) (f : First) → is_packed_primary g h ≡ alone → (alone ≡ true → IsBehindOne done f) → first_of g (done ++ h ∷ []) ≡ (if alone then f else first_of g done)
  first_more [] h true f is one = absurd (omega (arith, one_long [] f (one refl)))
  first_more [] h false f is one = refl
  first_more (k ∷ []) h true f is one =
      let behind = one refl in
      let same : k ≡ behind.0 = cc in
      ap (λ (b : Bool). if b then behind_primary k else the_primary) is ∙ ap behind_primary same ∙ sym behind.2
  first_more (k ∷ []) h false f is one = ap (λ (b : Bool). if b then behind_primary k else the_primary) is
  first_more (k ∷ j ∷ ks) h true f is one = absurd (omega (arith, one_long (k ∷ j ∷ ks) f (one refl)))
  first_more (k ∷ j ∷ ks) h false f is one = refl

  abbrev pub first_with : ReadHdu → Bool → First
  first_with a after_empty = record { hdu = a.header.hdu; start = a.header.start; after_empty = after_empty }

  pub looked_more : (done : List Header) (seen : Seen) (a : ReadHdu) (after_empty : Bool) (c : Counted) → AreLooked g done seen → IsHduLooked g a.header c → is_packed_primary g a.header ≡ (after_empty && was_primary_image a.image) →
      (after_empty ≡ true → IsBehindOne done (first_with a after_empty)) → AreLooked g (done ++ a.header ∷ []) (with_counted seen a after_empty c)
  looked_more done seen a after_empty c were here is one =
      let alone : Bool = after_empty && was_primary_image a.image in
      let behind : alone ≡ true → IsBehindOne done (first_with a after_empty) = λ both. one (left_of after_empty (was_primary_image a.image) both) in
      record {
        sound = sound_joined g done (a.header ∷ []) were.sound here.sound;
        bytes = (λ i. if alone then here.bytes i else were.bytes i + here.bytes i) ∙ sym (standing_len done a.header alone is (λ both. one_long done (first_with a after_empty) (behind both)));
        first = ap (λ (f : First). if alone then first_with a after_empty else f) were.first ∙ sym (first_more done a.header alone (first_with a after_empty) is behind);
      }
    where
      left_of : (b c : Bool) → (b && c) ≡ true → b ≡ true
      left_of true c both = refl
      left_of false c both = absurd cc

-- ---- a packed primary is after an empty one

abbrev pub PrimaryImagesAreBehind : Type 0
PrimaryImagesAreBehind = (h : Header) (header : List ℕ) (after_empty : Bool) (i : PackedImage) → image_to_unpack h header after_empty ≡ Ok (Some i) → i.plan.primary ≡ true → after_empty ≡ true

behind_if : PrimaryImagesAreBehind → (h : Header) (header : List ℕ) (after_empty : Bool) (image : Option PackedImage) → image_to_unpack h header after_empty ≡ Ok image → was_primary_image image ≡ true → after_empty ≡ true
behind_if law h header after_empty None found is = absurd cc
behind_if law h header after_empty (Some i) found is = law h header after_empty i found is

both_by : (b c : Bool) → (c ≡ true → b ≡ true) → c ≡ (b && c)
both_by b false so = sym (none b)
  where
    none : (b : Bool) → (b && false) ≡ false
    none true = refl
    none false = refl
both_by b true so = ap (λ d. d && true) (sym (so refl))

pub alone_as_said : PrimaryImagesAreBehind → (held : Option (List ℕ)) (n : ℕ) (buf : List ℕ) (a : ReadHdu) (after_empty : Bool) → IsAgain held n buf a → image_to_unpack a.header (header_at_front a buf) after_empty ≡ Ok a.image →
    IfSome held (λ g. is_packed_primary g a.header ≡ (after_empty && was_primary_image a.image))
alone_as_said law None n buf a after_empty w found = tt
alone_as_said law (Some g) n buf a after_empty w found =
    sym (primary_is (Some g) n buf a w g refl) ∙ both_by after_empty (was_primary_image a.image) (behind_if law a.header (header_at_front a buf) after_empty a.image found)
