-- Bytes at the front of a buffer are plain bytes, if the source shows its bytes (FITS 4.0, sections 3.1, 3.3.2 and 10.1).
use Rattle.std.proofs.Common.{◌≡◌, ℕ, ◌+◌, ◌-◌, ◌≤◌, List, ◌++◌, length, take, drop, replicate, Option, Some, None, IfSome, refl, sym, ap, ◌∙◌, subst, arith, length-take-le, take_all}
use Rattle.std.specs.Option.{ForSome}
use Rattle.std.proofs.lemmas.List.{drop-drop, drop_at, take-append-le, take-take, take_at}
use Rattle.fz_base.specs.Source.{Reads}
use Rattle.fz_tile.specs.Plain.{plain_bytes}
use Rattle.fz_grid.specs.declared.region.Region.{Region}
use Rattle.fz_checks.specs.declared.job_checks.PackedImage.{PackedImage}
use Rattle.fz_files.specs.Packed.{pixel_bits}
use Rattle.fz_files.specs.Restored.{plan_in}
use Rattle.fz_files.specs.RestoredFile.{image_array, restored}
use Rattle.fz_job.specs.declared.survey.Survey.{Survey}
use Rattle.fz_retile.specs.Holds.{IsKnownView}
use Rattle.fz_look.specs.Laws.{ArePieces, HereHasPieces}
use Rattle.fz_retile.specs.Views.{ReadsFront, restored_from}
use Rattle.fz_look.specs.declared.here.Here.{Here}
use Rattle.fz_look.specs.declared.looked.First.{First}
use Rattle.fz_look.specs.declared.looked.Space.{Space}
use Rattle.fz_retile.proofs.Pieces.{slice_take, split_take}
use Rattle.fz_retile.proofs.Somes.{reads_front}

module _ (law : HereHasPieces) (held : Option (List ℕ)) (plain_len : ℕ) (s : Survey) (first : First) (space : Space) (at_hand : Option Here) (boxed : Option Region) (h : Here) (is : at_hand ≡ Some h)
    (known : ForSome held (λ g. IsKnownView g plain_len s first space at_hand boxed)) where
  shown : (at n : ℕ) (into : List ℕ) → ((g : List ℕ) → held ≡ Some g → ArePieces g h → take n into ≡ take n (drop at (restored g))) → ReadsFront (restored_from held) at n into
  shown at n into has = by_held held refl
    where
      by_held : (l : Option (List ℕ)) → held ≡ l → ReadsFront (restored_from l) at n into
      by_held None told = tt
      by_held (Some g) told =
          let w = known g told in
          let here = w.told h is in
          reads_front (Some g) at n into (has g told (law g s h w.surveyed_is here.here))

  pub copied_shown : (at n : ℕ) (into : List ℕ) → h.read.image ≡ None → h.at ≤ at → at + n ≤ h.end → IfSome held (λ g. take n into ≡ take n (drop (h.read.header.start + (at - h.at)) g)) → ReadsFront (restored_from held) at n into
  copied_shown at n into none low high read =
      shown at n into (λ g told are.
      subst (λ (l : Option (List ℕ)). IfSome l (λ x. take n into ≡ take n (drop (h.read.header.start + (at - h.at)) x))) told read ∙ are.copied at n none low high)

  pub header_shown : (at n : ℕ) (into : List ℕ) → h.at ≤ at → at + n ≤ h.data_at → take n into ≡ take n (drop (at - h.at) (take (h.data_at - h.at) space.translated)) → ReadsFront (restored_from held) at n into
  header_shown at n into low high read =
      shown at n into (λ g told are.
      let w = known g told in
      let here = w.told h is in
      read ∙ ap (λ (l : List ℕ). take n (drop (at - h.at) l)) here.made_is ∙ are.header at n low high)

  pub fill_shown : (i : PackedImage) → h.read.image ≡ Some i → (at n : ℕ) (into : List ℕ) → h.data_end ≤ at → at + n ≤ h.end → take n into ≡ replicate n 0 → ReadsFront (restored_from held) at n into
  fill_shown i some at n into low high read = shown at n into (λ g told are. read ∙ are.fill i at n some low high)

  pub pixels_shown : (i : PackedImage) → h.read.image ≡ Some i → (from n : ℕ) (into : List ℕ) →
      ((g : List ℕ) → held ≡ Some g → (take n into ≡ take n (drop from (plain_bytes (pixel_bits (plan_in g h.read.header)) (image_array g h.read.header).numbers))) × (h.data_at + from + n ≤ h.data_end)) →
      ReadsFront (restored_from held) (h.data_at + from) n into
  pixels_shown i some from n into read =
      let back : h.data_at + from - h.data_at ≡ from = omega arith in
      shown (h.data_at + from) n into (λ g told are.
      let both = read g told in
      both.0
      ∙ ap (λ m. take n (drop m (plain_bytes (pixel_bits (plan_in g h.read.header)) (image_array g h.read.header).numbers))) (sym back)
      ∙ are.pixels i (h.data_at + from) n some (omega arith) both.1)

-- a part of the front of a list, in both forms
pub part_front : (n from end : ℕ) (l : List ℕ) → from + n ≤ end → take n (take (end - from) (drop from l)) ≡ take n (drop from (take end l))
part_front n from end l within =
    take-take n (end - from) (drop from l) (omega (arith, within)) ∙ sym (slice_take n from end l within)

-- a piece after others
pub more_read : (done n at : ℕ) (front piece now u : List ℕ) → length front ≡ done → now ≡ front ++ piece → front ≡ take done (drop at u) → take n piece ≡ take n (drop (at + done) u) → take (done + n) now ≡ take (done + n) (drop at u)
more_read done n at front piece now u long is before one =
    let whole : take (done + n) (front ++ piece) ≡ front ++ take n piece = take_more_parts done n front piece long in
    ap (take (done + n)) is ∙ whole
    ∙ (λ i. before i ++ one i)
    ∙ ap (λ (l : List ℕ). take done (drop at u) ++ take n l) (sym (drop-drop done at u))
    ∙ sym (split_take done n (drop at u))
  where
    take_more_parts : (k m : ℕ) (xs ys : List ℕ) → length xs ≡ k → take (k + m) (xs ++ ys) ≡ xs ++ take m ys
    take_more_parts k m xs ys count =
        split_take k m (xs ++ ys) ∙ (λ i. take_at xs ys k count i ++ take m (drop_at xs ys k count i))

-- more bytes after those that were read
pub front_longer : (plain : Option (List ℕ)) (at n : ℕ) (piece more : List ℕ) → n ≤ length piece → ReadsFront plain at n piece → ReadsFront plain at n (piece ++ more)
front_longer None at n piece more few is = tt
front_longer (Some u) at n piece more few is = take-append-le n piece more few ∙ is

-- all pieces so far, as far as the bytes are shown
pub more_front : (plain : Option (List ℕ)) (done n at : ℕ) (before piece now : List ℕ) → done ≤ length before → now ≡ take done before ++ piece → IfSome plain (λ u. take done before ≡ take done (drop at u)) →
    ReadsFront plain (at + done) n piece → IfSome plain (λ u. take (done + n) now ≡ take (done + n) (drop at u))
more_front None done n at before piece now few is so_far one = tt
more_front (Some u) done n at before piece now few is so_far one = more_read done n at (take done before) piece now u (length-take-le done before few) is so_far one

pub all_read : (plain : Option (List ℕ)) (at done : ℕ) (into : List ℕ) → done ≡ length into → IfSome plain (λ u. take done into ≡ take done (drop at u)) → Reads plain at into
all_read None at done into all read = tt
all_read (Some u) at done into all read = sym (take_all (length into) into (omega arith)) ∙ subst (λ n. take n into ≡ take n (drop at u)) all read
