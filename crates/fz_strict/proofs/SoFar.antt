-- The HDUs that were compared so far, in the order of the file, and one more (FITS 4.0, sections 3.1 and 10.1).
use Rattle.std.specs.Prelude.{is_some}
use Rattle.std.proofs.Common.{◌≡◌, ℕ, suc, ◌+◌, ◌*◌, ◌<◌, ◌≤◌, ◌==◌, ◌↔◌, ◌&&◌, Bool, true, false, true≢false, List, [], ◌∷◌, ◌++◌, length, take, drop, Option, Some, None, IfSome, if◌then◌else◌, refl, sym, subst, ◌∙◌, ap, arith}
use Rattle.std.proofs.Math.Seq.{take-add}
use Rattle.std.proofs.lemmas.Bool.Decides.{nat_tests}
use Rattle.std.specs.List.{AllByRecursion, flat_map}
use Rattle.fz_block.specs.Hdus.{Hdu, IsHeader, cards_of, hdu_bytes}
use Rattle.fz_block.specs.Header.{data_start_of, next_start_of, whole_blocks_of}
use Rattle.fz_block.specs.Walk.{hdu_of}
use Rattle.fz_block.specs.declared.header.Header.{Header}
use Rattle.fz_head.specs.Planned.{AreOptions}
use Rattle.fz_head.specs.PlainHeader.{was_primary}
use Rattle.fz_head.specs.declared.options.PackOptions.{PackOptions}
use Rattle.fz_files.specs.FirstFault.{IsFirstFault}
use Rattle.fz_files.specs.Restored.{header_in, is_image, is_packed_primary, plan_in, standing}
use Rattle.fz_files.specs.StandsFor.{StandsFor}
use Rattle.fz_files.specs.Walks.{headers_for}
use Rattle.fz_files.specs.declared.job.Job.TheVariants.{Unpack}
use Rattle.fz_tile.specs.Plain.{AreBytes}
use Rattle.fz_job.specs.Again.{WereSeen}
use Rattle.fz_laws.specs.RoundTrip.{RestoredAreBytes}
use Rattle.fz_strict.specs.Origins.{no_origin}
use Rattle.fz_strict.specs.SameHdus.{AreSame, HasSameHdus, IsDecided, StandsForOne, front_of}
use Rattle.fz_strict.specs.SameImages.{ComparesFrom, ComparesHdu, front_before, origin_before}
use Rattle.fz_strict.specs.declared.origin.Origin.{Origin}
use Rattle.fz_strict.proofs.Known.{HasArray, PrimariesAreSecond, header_before, primary_second, says_primary}
use Rattle.fz_strict.proofs.Steps.{SoFar, Step, copy_step, image_step, more_step, one_step, same_count}
use Rattle.fz_strict.proofs.Whole.{same_stand}

-- the HDUs that are done are what `pack` makes of some, or are not
abbrev pub IsSoFarAs : PackOptions → List ℕ → List Header → Option Origin → Type 0
IsSoFarAs o file done origin = SoFar o file (front_of file done) (standing file done) origin

pub none_so_far : (o : PackOptions) (file : List ℕ) → IsSoFarAs o file [] (Some no_origin)
none_so_far o file = record { hdus = []; same = tt; count = refl; end = refl }

-- ---- the bytes before a packed primary

pub bytes_to : (file : List ℕ) (g h : Header) → g.start ≡ 0 → h.start ≡ next_start_of g → take h.start file ≡ hdu_bytes (hdu_of file g)
bytes_to file g h begin follows =
    let m : ℕ = 2880 * g.blocks in
    let n : ℕ = whole_blocks_of g.data_len in
    let behind : data_start_of g ≡ m = omega (arith, begin) in
    let size : h.start ≡ m + n = follows ∙ ap (λ k. k + n) behind in
    ap (λ k. take k file) size ∙ take-add m n file ∙ (λ i. take m (drop (sym begin i) file) ++ take n (drop (sym behind i) file))

-- ---- an HDU more

both_of : (a b : Bool) → a ≡ true → b ≡ true → (a && b) ≡ true
both_of a b one two = (λ i. one i && two i)

not_both_of : (a b : Bool) → (a && b) ≡ false → a ≡ true → b ≡ false
not_both_of a b none one = ap (λ c. c && b) (sym one) ∙ none

module _ (o : PackOptions) (file : List ℕ) where
  -- one that was no primary
  later_step : (h : Header) (origin now : Option Origin) → IsDecided o file h → HasArray file h → is_packed_primary file h ≡ false → IfSome origin (λ b. (b.hdus == 0) ≡ (h.hdu == 0)) → ComparesHdu o file h origin now →
      Step o file [] h origin now
  later_step h origin now decided array other first is = by_image (is_image file h) refl
    where
      by_image : (packed : Bool) → is_image file h ≡ packed → Step o file [] h origin now
      by_image true packed =
          let a = array packed in
          let primary : (plan_in file h).primary ≡ false = says_primary (cards_of (header_in file h)) ∙ not_both_of (is_image file h) (was_primary (cards_of (header_in file h))) other packed in
          let before : origin_before origin (plan_in file h) ≡ origin = ap (λ b. if b then Some no_origin else origin) primary in
          let front : front_before file h (plan_in file h) ≡ [] = ap (λ b. if b then take h.start file else []) primary in
          let compared : ComparesFrom o file h a.0 origin now = subst (λ b. ComparesFrom o file h a.0 b now) before (is.image packed a.0 a.1 (λ was. absurd (true≢false (sym was ∙ primary)))) in
          subst (λ l. Step o file l h origin now) front (image_step o file h a.0 origin now decided packed a.1 compared)
      by_image false copied = copy_step o file h origin now decided copied first (is.copy copied)

  -- and one that was
  first_step : (h : Header) (origin now : Option Origin) → IsDecided o file h → HasArray file h → is_packed_primary file h ≡ true → IsHeader (take h.start file) → ComparesHdu o file h origin now → Step o file (take h.start file) h (Some no_origin) now
  first_step h origin now decided array is_first header is = by_image (is_image file h) refl is_first
    where
      by_image : (packed : Bool) → is_image file h ≡ packed → (packed && was_primary (cards_of (header_in file h))) ≡ true → Step o file (take h.start file) h (Some no_origin) now
      by_image true packed was =
          let a = array packed in
          let primary : (plan_in file h).primary ≡ true = says_primary (cards_of (header_in file h)) ∙ was in
          let before : origin_before origin (plan_in file h) ≡ Some no_origin = ap (λ b. if b then Some no_origin else origin) primary in
          let front : front_before file h (plan_in file h) ≡ take h.start file = ap (λ b. if b then take h.start file else []) primary in
          let compared : ComparesFrom o file h a.0 (Some no_origin) now = subst (λ b. ComparesFrom o file h a.0 b now) before (is.image packed a.0 a.1 (λ was. header)) in
          subst (λ l. Step o file l h (Some no_origin) now) front (image_step o file h a.0 (Some no_origin) now decided packed a.1 compared)
      by_image false copied was = absurd cc

  -- what is known of the HDU and of those before it
  pub record IsNext (header_len tile : ℕ) (done more : List Header) (h : Header) : Type 0 where
    pub seen : WereSeen file header_len tile 0 0 ((done ++ h ∷ []) ++ more)
    pub one : AllByRecursion (StandsForOne file) done
    pub decided : IsDecided o file h
    pub array : HasArray file h

  seen_number : (header_len tile k start : ℕ) (done more : List Header) (h : Header) → WereSeen file header_len tile k start ((done ++ h ∷ []) ++ more) → h.hdu ≡ k + length done
  seen_number header_len tile k start [] more h seen = let number = seen.0.number in omega (arith, number)
  seen_number header_len tile k start (g ∷ done) more h seen = let rest = seen_number header_len tile (suc k) (next_start_of g) done more h seen.1 in omega (arith, rest)

  some_count : (front : List ℕ) (g : Header) (hs : List Header) (origin : Option Origin) (m : ℕ) → SoFar o file front (g ∷ hs) origin → 0 < m → IfSome origin (λ b. (b.hdus == 0) ≡ (m == 0))
  some_count front g hs None m so_far some = tt
  some_count front g hs (Some b) m so_far some =
      let count : length so_far.hdus ≡ length (g ∷ hs) = same_count o file (g ∷ hs) front 0 0 so_far.hdus so_far.same in
      let same : length so_far.hdus ≡ b.hdus = so_far.count in
      let one : (b.hdus == 0) ≡ false = grind (arith, nat_tests, count, same) in
      let two : (m == 0) ≡ false = grind (arith, nat_tests, some) in
      one ∙ sym two

  -- behind HDUs of which the first stands for something
  behind : (front : List ℕ) (g : Header) (hs : List Header) (h : Header) (origin now : Option Origin) → AllByRecursion (StandsForOne file) (g ∷ hs) → 0 < h.hdu → IsDecided o file h → HasArray file h → is_packed_primary file h ≡ false →
      SoFar o file front (g ∷ hs) origin → ComparesHdu o file h origin now → SoFar o file front (g ∷ (hs ++ h ∷ [])) now
  behind front g hs h origin now one later decided array other so_far is =
      more_step o file front g hs h origin now one so_far (later_step h origin now decided array other (some_count front g hs origin h.hdu so_far later) is)

  module _ (law : PrimariesAreSecond) (header_len tile : ℕ) where
    -- HDU k was no primary
    no_primary : (k start : ℕ) (h : Header) (more : List Header) → WereSeen file header_len tile k start (h ∷ more) → (k ≡ 1 → ⊥) → is_packed_primary file h ≡ false
    no_primary k start h more seen other = by_test (is_packed_primary file h) refl
      where
        by_test : (first : Bool) → is_packed_primary file h ≡ first → is_packed_primary file h ≡ false
        by_test true is = absurd (other (primary_second law file k start header_len tile h seen.0 is))
        by_test false is = is

    last_seen : (k start : ℕ) (done more : List Header) (h : Header) → WereSeen file header_len tile k start ((done ++ h ∷ []) ++ more) → (at : ℕ) × WereSeen file header_len tile (k + length done) at (h ∷ more)
    last_seen k start [] more h seen = (start, subst (λ n. WereSeen file header_len tile n start (h ∷ more)) (omega arith) seen)
    last_seen k start (g ∷ done) more h seen =
        let rest = last_seen (suc k) (next_start_of g) done more h seen.1 in
        let number : suc k + length done ≡ k + length (g ∷ done) = omega arith in
        (rest.0, subst (λ n. WereSeen file header_len tile n rest.0 (h ∷ more)) number rest.1)

    pub step : (done more : List Header) (h : Header) (origin now : Option Origin) → IsNext header_len tile done more h → IsSoFarAs o file done origin → ComparesHdu o file h origin now → IsSoFarAs o file (done ++ h ∷ []) now
    step [] more h None now next so_far is = absurd (so_far [] tt (omega arith))
    step [] more h (Some b) now next so_far is =
        let hdus : length so_far.hdus ≡ 0 = same_count o file [] [] 0 0 so_far.hdus so_far.same in
        let none : b.hdus ≡ 0 = sym so_far.count ∙ hdus in
        let begin : b.end ≡ 0 = sym so_far.end ∙ no_bytes so_far.hdus hdus in
        let number : h.hdu ≡ 0 = next.seen.0.number in
        let same : (b.hdus == 0) ≡ (h.hdu == 0) = (λ i. none i == 0) ∙ (λ i. sym number i == 0) in
        let other : is_packed_primary file h ≡ false = no_primary 0 0 h more next.seen (λ e. absurd (omega (arith, e))) in
        one_step o file [] h b now none begin (later_step h (Some b) now next.decided next.array other same is)
      where
        no_bytes : (ds : List Hdu) → length ds ≡ 0 → length (flat_map hdu_bytes ds) ≡ 0
        no_bytes [] none = refl
        no_bytes (d ∷ ds) none = absurd (omega (arith, none))
    step (g ∷ []) more h origin now next so_far is = by_test (is_packed_primary file h) refl
      where
        second : WereSeen file header_len tile 1 (next_start_of g) (h ∷ more)
        second = next.seen.1

        by_test : (first : Bool) → is_packed_primary file h ≡ first → SoFar o file (if first then hdu_bytes (hdu_of file g) else []) (if first then h ∷ [] else g ∷ h ∷ []) now
        by_test true first =
            let bytes : take h.start file ≡ hdu_bytes (hdu_of file g) = bytes_to file g h next.seen.0.place second.0.place in
            subst (λ l. SoFar o file l (h ∷ []) now) bytes (one_step o file (take h.start file) h no_origin now refl refl (first_step h origin now next.decided next.array first (header_before law file header_len tile g h next.seen.0 second.0 first) is))
        by_test false other =
            let number : h.hdu ≡ 1 = second.0.number in
            behind [] g [] h origin now next.one (omega (arith, number)) next.decided next.array other so_far is
    step (g ∷ j ∷ done) more h origin now next so_far is = by_test (is_packed_primary file j) so_far
      where
        number : h.hdu ≡ 0 + length (g ∷ j ∷ done)
        number = seen_number header_len tile 0 0 (g ∷ j ∷ done) more h next.seen

        other : is_packed_primary file h ≡ false
        other = let last = last_seen 0 0 (g ∷ j ∷ done) more h next.seen in no_primary (0 + length (g ∷ j ∷ done)) last.0 h more last.1 (λ e. absurd (omega (arith, e)))

        by_test : (first : Bool) → SoFar o file (if first then hdu_bytes (hdu_of file g) else []) (if first then j ∷ done else g ∷ j ∷ done) origin →
            SoFar o file (if first then hdu_bytes (hdu_of file g) else []) (if first then j ∷ (done ++ h ∷ []) else g ∷ (j ∷ (done ++ h ∷ []))) now
        by_test true so_far = behind (hdu_bytes (hdu_of file g)) j done h origin now next.one.1 (omega (arith, number)) next.decided next.array other so_far is
        by_test false so_far = behind [] g (j ∷ done) h origin now next.one (omega (arith, number)) next.decided next.array other so_far is

-- ---- all HDUs

pub all_same : RestoredAreBytes → (o : PackOptions) (file : List ℕ) (hs : List Header) (origin : Option Origin) → AreOptions o → AreBytes file → IsFirstFault Unpack file None → headers_for Unpack file ≡ hs →
    ((w : Origin) → origin ≡ Some w → w.hdus ≤ 65535) → IsSoFarAs o file hs origin → (is_some origin ≡ true) ↔ HasSameHdus o file
all_same law o file hs None options bytes sound are few so_far = (
  λ e. absurd cc,
  λ is. absurd (so_far is.hdus (subst (λ l. AreSame o file (front_of file l) 0 0 (standing file l) is.hdus) are is.same) is.few),
)
all_same law o file hs (Some w) options bytes sound are few so_far = (
  λ e.
      let ds : List Hdu = so_far.hdus in
      let same : AreSame o file (front_of file (headers_for Unpack file)) 0 0 (standing file (headers_for Unpack file)) ds =
      subst (λ l. AreSame o file (front_of file l) 0 0 (standing file l) ds) (sym are) so_far.same in
      let stands : StandsFor file (flat_map hdu_bytes ds) = record { sound = sound; parts = same_stand o file (front_of file (headers_for Unpack file)) 0 0 (standing file (headers_for Unpack file)) ds same } in
      let most : w.hdus ≤ 65535 = few w refl in
      record {
        options = options;
        sound = sound;
        hdus = ds;
        few = omega (arith, so_far.count, most);
        bytes = law file (flat_map hdu_bytes ds) bytes stands;
        same = same;
      },
  λ is. refl,
)
