-- The HDUs of a file, each beside what `pack` makes of what it stands for: those so far, and one more (FITS 4.0, sections 10.1.1 to 10.1.3).
use Rattle.std.proofs.Common.{◌≡◌, ℕ, suc, ◌+◌, ◌^◌, ◌<◌, ◌≤◌, ◌==◌, ◌||◌, nat_lt, Bool, true, false, List, [], ◌∷◌, ◌++◌, length, Option, Some, None, IfSome, if◌then◌else◌, refl, sym, subst, ◌∙◌, ap, arith, append-nil, length-append}
use Rattle.std.proofs.lemmas.Bool.Decides.{nat_tests}
use Rattle.std.specs.List.{AllByRecursion, flat_map}
use Rattle.std.proofs.lemmas.Grind.{flat_map-append}
use Rattle.fz_block.specs.Hdus.{Hdu, hdu_bytes}
use Rattle.fz_block.specs.Walk.{hdu_of}
use Rattle.fz_block.specs.declared.header.Header.{Header}
use Rattle.fz_grid.specs.Arrays.{NumberArray}
use Rattle.fz_head.specs.declared.options.PackOptions.{PackOptions}
use Rattle.fz_files.specs.Restored.{RowsStandFor, is_image, plan_in}
use Rattle.fz_strict.specs.Origins.{with_hdu}
use Rattle.fz_strict.specs.SameHdus.{AreSame, IsDecided, IsSame, StandsForOne, plain_image}
use Rattle.fz_strict.specs.SameImages.{ComparesCopy, ComparesFrom, front_before}
use Rattle.fz_strict.specs.declared.origin.Origin.{Origin}
use Rattle.fz_strict.proofs.Ends.{passes_ends}

-- ---- an HDU more

-- two tests in which neither is so
neither : (a b : Bool) → a ≡ false → b ≡ false → (a || b) ≡ false
neither true b p q = absurd cc
neither false b p q = q

pub with_hdu_some : (b : Origin) (n : ℕ) → b.hdus < 65535 → b.end + n ≤ 2 ^ 62 → with_hdu b n ≡ Some (record { hdus = b.hdus + 1; end = b.end + n })
with_hdu_some b n few near =
    let not_most : (b.hdus == 65535) ≡ false = grind (arith, nat_tests, few) in
    let within : nat_lt (2 ^ 62) (b.end + n) ≡ false = grind (arith, nat_tests, near) in
    ap (λ (t : Bool). if t then None else Some (record { hdus = b.hdus + 1; end = b.end + n })) (neither (b.hdus == 65535) (nat_lt (2 ^ 62) (b.end + n)) not_most within)

-- the counts of what came out
pub record IsOneMore (b w : Origin) (n : ℕ) : Type 0 where
  pub hdus : w.hdus ≡ b.hdus + 1
  pub end : w.end ≡ b.end + n

pub with_hdu_is : (b w : Origin) (n : ℕ) → with_hdu b n ≡ Some w → IsOneMore b w n
with_hdu_is b w n is = by_test ((b.hdus == 65535) || nat_lt (2 ^ 62) (b.end + n)) is
  where
    by_test : (t : Bool) → (if t then None else Some (record { hdus = b.hdus + 1; end = b.end + n })) ≡ Some w → IsOneMore b w n
    by_test true e = absurd cc
    by_test false e =
        let more : Origin = record { hdus = b.hdus + 1; end = b.end + n } in
        let same : more ≡ w = cc in
        record { hdus = sym (ap (λ (x : Origin). x.hdus) same); end = sym (ap (λ (x : Origin). x.end) same) }

module _ (o : PackOptions) (file : List ℕ) where
  -- the HDUs with this one are what `pack` makes of HDU d behind those before
  pub record Goes (front : List ℕ) (h : Header) (b w : Origin) : Type 0 where
    pub hdu : Hdu
    pub same : IsSame o file front b.hdus b.end h hdu
    pub more : IsOneMore b w (length (hdu_bytes hdu))

  -- from the HDUs before it, or none, to those with it, or none
  abbrev pub Step : List ℕ → Header → Option Origin → Option Origin → Type 0
  Step front h None now = now ≡ None
  Step front h (Some b) None = (d : Hdu) → IsSame o file front b.hdus b.end h d → b.hdus < 65535 → ⊥
  Step front h (Some b) (Some w) = Goes front h b w

  pub image_step : (h : Header) (a : NumberArray) (before now : Option Origin) → IsDecided o file h → is_image file h ≡ true → RowsStandFor file h a → ComparesFrom o file h a before now →
      Step (front_before file h (plan_in file h)) h before now
  image_step h a None now decided image rows is = is
  image_step h a (Some b) None decided image rows is = λ d same few.
      let front : List ℕ = front_before file h (plan_in file h) in
      let both = (decided.image front b.hdus b.end d a image rows).0 same in
      let near : b.end + length (hdu_bytes d) ≤ 2 ^ 62 = passes_ends b.hdus b.end (2 ^ 62) d same.passes in
      let more : with_hdu b (length (hdu_bytes d)) ≡ Some (record { hdus = b.hdus + 1; end = b.end + length (hdu_bytes d) }) = with_hdu_some b (length (hdu_bytes d)) few near in
      is (record { hdus = b.hdus + 1; end = b.end + length (hdu_bytes d) }) (record { same = both.1; after = ap (λ (e : Hdu). with_hdu b (length (hdu_bytes e))) (sym both.0) ∙ more })
  image_step h a (Some b) (Some w) decided image rows is = record {
    hdu = plain_image file h a;
    same = (decided.image (front_before file h (plan_in file h)) b.hdus b.end (plain_image file h a) a image rows).1 (refl, is.same);
    more = with_hdu_is b w (length (hdu_bytes (plain_image file h a))) is.after;
  }

  pub copy_step : (h : Header) (origin now : Option Origin) → IsDecided o file h → is_image file h ≡ false → IfSome origin (λ b. (b.hdus == 0) ≡ (h.hdu == 0)) → ComparesCopy o file h origin now →
      Step [] h origin now
  copy_step h None now decided copied first is = is
  copy_step h (Some b) None decided copied first is = λ d same few.
      let both = (decided.copy [] b.hdus b.end d copied first).0 same in
      let near : b.end + length (hdu_bytes d) ≤ 2 ^ 62 = passes_ends b.hdus b.end (2 ^ 62) d same.passes in
      let more : with_hdu b (length (hdu_bytes d)) ≡ Some (record { hdus = b.hdus + 1; end = b.end + length (hdu_bytes d) }) = with_hdu_some b (length (hdu_bytes d)) few near in
      is (record { hdus = b.hdus + 1; end = b.end + length (hdu_bytes d) }) (record { same = both.1; after = ap (λ (e : Hdu). with_hdu b (length (hdu_bytes e))) (sym both.0) ∙ more })
  copy_step h (Some b) (Some w) decided copied first is = record {
    hdu = hdu_of file h;
    same = (decided.copy [] b.hdus b.end (hdu_of file h) copied first).1 (refl, is.same);
    more = with_hdu_is b w (length (hdu_bytes (hdu_of file h))) is.after;
  }

  -- ---- lists of HDUs

  -- the HDUs so far are what `pack` makes of some, or are not
  pub record AreSoFar (front : List ℕ) (hs : List Header) (w : Origin) : Type 0 where
    pub hdus : List Hdu
    pub same : AreSame o file front 0 0 hs hdus
    pub count : length hdus ≡ w.hdus
    pub end : length (flat_map hdu_bytes hdus) ≡ w.end

  abbrev pub SoFar : List ℕ → List Header → Option Origin → Type 0
  SoFar front hs None = (ds : List Hdu) → AreSame o file front 0 0 hs ds → length ds ≤ 65535 → ⊥
  SoFar front hs (Some w) = AreSoFar front hs w

  -- the first
  pub one_step : (front : List ℕ) (h : Header) (b : Origin) (now : Option Origin) → b.hdus ≡ 0 → b.end ≡ 0 → Step front h (Some b) now → SoFar front (h ∷ []) now
  one_step front h b None none begin step = none_of
    where
      none_of : (ds : List Hdu) → AreSame o file front 0 0 (h ∷ []) ds → length ds ≤ 65535 → ⊥
      none_of [] same few = same
      none_of (d ∷ ds) same few = step d (subst (λ n. IsSame o file front b.hdus n h d) (sym begin) (subst (λ n. IsSame o file front n 0 h d) (sym none) same.0)) (omega (arith, none))
  one_step front h b (Some w) none begin step =
      let here : IsSame o file front 0 0 h step.hdu = subst (λ n. IsSame o file front 0 n h step.hdu) begin (subst (λ n. IsSame o file front n b.end h step.hdu) none step.same) in
      record {
        hdus = step.hdu ∷ [];
        same = (here, tt);
        count = omega (arith, step.more.hdus, none);
        end = omega (arith, ap length (append-nil (hdu_bytes step.hdu)), step.more.end, begin);
      }

  -- one more at their end
  snoc : (k start : ℕ) (hs : List Header) (h : Header) (ds : List Hdu) (d : Hdu) → AreSame o file [] k start hs ds → IsSame o file [] (k + length ds) (start + length (flat_map hdu_bytes ds)) h d →
      AreSame o file [] k start (hs ++ h ∷ []) (ds ++ d ∷ [])
  snoc k start [] h [] d same here =
      let number : k + 0 ≡ k = omega arith in
      let place : start + 0 ≡ start = omega arith in
      (subst (λ n. IsSame o file [] k n h d) place (subst (λ n. IsSame o file [] n (start + 0) h d) number here), tt)
  snoc k start [] h (e ∷ ds) d same here = absurd same
  snoc k start (g ∷ hs) h [] d same here = absurd same
  snoc k start (g ∷ hs) h (e ∷ ds) d same here =
      let long : length (flat_map hdu_bytes (e ∷ ds)) ≡ length (hdu_bytes e) + length (flat_map hdu_bytes ds) = length-append (hdu_bytes e) (flat_map hdu_bytes ds) in
      let number : k + length (e ∷ ds) ≡ suc k + length ds = omega arith in
      let place : start + length (flat_map hdu_bytes (e ∷ ds)) ≡ (start + length (hdu_bytes e)) + length (flat_map hdu_bytes ds) = omega (arith, long) in
      (same.0, snoc (suc k) (start + length (hdu_bytes e)) hs h ds d same.1 (subst (λ n. IsSame o file [] (suc k + length ds) n h d) place (subst (λ n. IsSame o file [] n (start + length (flat_map hdu_bytes (e ∷ ds))) h d) number here)))

  -- and without it
  record IsSnoc (k start : ℕ) (hs : List Header) (h : Header) (ds : List Hdu) : Type 0 where
    pub before : List Hdu
    pub last : Hdu
    pub parts : ds ≡ before ++ last ∷ []
    pub same : AreSame o file [] k start hs before
    pub here : IsSame o file [] (k + length before) (start + length (flat_map hdu_bytes before)) h last

  unsnoc : (k start : ℕ) (hs : List Header) (h : Header) (ds : List Hdu) → AreSame o file [] k start (hs ++ h ∷ []) ds → IsSnoc k start hs h ds
  unsnoc k start [] h [] same = absurd same
  unsnoc k start [] h (d ∷ []) same =
      let number : k ≡ k + 0 = omega arith in
      let place : start ≡ start + 0 = omega arith in
      record { before = []; last = d; parts = refl; same = tt; here = subst (λ n. IsSame o file [] (k + 0) n h d) place (subst (λ n. IsSame o file [] n start h d) number same.0) }
  unsnoc k start [] h (d ∷ e ∷ ds) same = absurd same.1
  unsnoc k start (g ∷ hs) h [] same = absurd same
  unsnoc k start (g ∷ hs) h (e ∷ ds) same =
      let w = unsnoc (suc k) (start + length (hdu_bytes e)) hs h ds same.1 in
      let long : length (flat_map hdu_bytes (e ∷ w.before)) ≡ length (hdu_bytes e) + length (flat_map hdu_bytes w.before) = length-append (hdu_bytes e) (flat_map hdu_bytes w.before) in
      let number : suc k + length w.before ≡ k + length (e ∷ w.before) = omega arith in
      let place : (start + length (hdu_bytes e)) + length (flat_map hdu_bytes w.before) ≡ start + length (flat_map hdu_bytes (e ∷ w.before)) = omega (arith, long) in
      record {
        before = e ∷ w.before;
        last = w.last;
        parts = ap (λ l. e ∷ l) w.parts;
        same = (same.0, w.same);
        here = subst (λ n. IsSame o file [] (k + length (e ∷ w.before)) n h w.last) place (subst (λ n. IsSame o file [] n ((start + length (hdu_bytes e)) + length (flat_map hdu_bytes w.before)) h w.last) number w.here);
      }

  -- they stand for the same bytes each time
  same_bytes : (hs : List Header) (front other : List ℕ) (k start j at : ℕ) (ds es : List Hdu) → AllByRecursion (StandsForOne file) hs → AreSame o file front k start hs ds → AreSame o file other j at hs es →
      (length ds ≡ length es) × (length (flat_map hdu_bytes ds) ≡ length (flat_map hdu_bytes es))
  same_bytes [] front other k start j at [] [] one same again = (refl, refl)
  same_bytes [] front other k start j at [] (e ∷ es) one same again = absurd again
  same_bytes [] front other k start j at (d ∷ ds) es one same again = absurd same
  same_bytes (h ∷ hs) front other k start j at [] es one same again = absurd same
  same_bytes (h ∷ hs) front other k start j at (d ∷ ds) [] one same again = absurd again
  same_bytes (h ∷ hs) front other k start j at (d ∷ ds) (e ∷ es) one same again =
      let rest = same_bytes hs [] [] (suc k) (start + length (hdu_bytes d)) (suc j) (at + length (hdu_bytes e)) ds es one.1 same.1 again.1 in
      let here : length (hdu_bytes d) ≡ length (hdu_bytes e) = ap length (one.0.bytes (hdu_bytes d) (hdu_bytes e) same.0.stands again.0.stands) in
      let first : length (flat_map hdu_bytes (d ∷ ds)) ≡ length (hdu_bytes d) + length (flat_map hdu_bytes ds) = length-append (hdu_bytes d) (flat_map hdu_bytes ds) in
      let second : length (flat_map hdu_bytes (e ∷ es)) ≡ length (hdu_bytes e) + length (flat_map hdu_bytes es) = length-append (hdu_bytes e) (flat_map hdu_bytes es) in
      let count : length ds ≡ length es = rest.0 in
      let bytes : length (flat_map hdu_bytes ds) ≡ length (flat_map hdu_bytes es) = rest.1 in
      (omega (arith, count), omega (arith, here, first, second, bytes))

  pub same_count : (hs : List Header) (front : List ℕ) (k start : ℕ) (ds : List Hdu) → AreSame o file front k start hs ds → length ds ≡ length hs
  same_count [] front k start [] same = refl
  same_count [] front k start (d ∷ ds) same = absurd same
  same_count (h ∷ hs) front k start [] same = absurd same
  same_count (h ∷ hs) front k start (d ∷ ds) same = let rest = same_count hs [] (suc k) (start + length (hdu_bytes d)) ds same.1 in omega (arith, rest)

  -- all with one more behind the first
  record IsLater (front : List ℕ) (g : Header) (hs : List Header) (h : Header) (ds : List Hdu) : Type 0 where
    pub before : List Hdu
    pub last : Hdu
    pub count : length ds ≡ length before + 1
    pub same : AreSame o file front 0 0 (g ∷ hs) before
    pub here : IsSame o file [] (length before) (length (flat_map hdu_bytes before)) h last

  later : (front : List ℕ) (g : Header) (hs : List Header) (h : Header) (ds : List Hdu) → AreSame o file front 0 0 (g ∷ (hs ++ h ∷ [])) ds → IsLater front g hs h ds
  later front g hs h [] same = absurd same
  later front g hs h (e ∷ ds) same =
      let w = unsnoc 1 (0 + length (hdu_bytes e)) hs h ds same.1 in
      let long : length (flat_map hdu_bytes (e ∷ w.before)) ≡ length (hdu_bytes e) + length (flat_map hdu_bytes w.before) = length-append (hdu_bytes e) (flat_map hdu_bytes w.before) in
      let number : 1 + length w.before ≡ length (e ∷ w.before) = omega arith in
      let place : (0 + length (hdu_bytes e)) + length (flat_map hdu_bytes w.before) ≡ length (flat_map hdu_bytes (e ∷ w.before)) = omega (arith, long) in
      let split : length ds ≡ length (w.before ++ w.last ∷ []) = ap length w.parts in
      let both : length (w.before ++ w.last ∷ []) ≡ length w.before + 1 = length-append w.before (w.last ∷ []) in
      record {
        before = e ∷ w.before;
        last = w.last;
        count = omega (arith, split, both);
        same = (same.0, w.same);
        here = subst (λ n. IsSame o file [] (length (e ∷ w.before)) n h w.last) place (subst (λ n. IsSame o file [] n ((0 + length (hdu_bytes e)) + length (flat_map hdu_bytes w.before)) h w.last) number w.here);
      }

  joined : (front : List ℕ) (g : Header) (hs : List Header) (h : Header) (ds : List Hdu) (d : Hdu) → AreSame o file front 0 0 (g ∷ hs) ds → IsSame o file [] (length ds) (length (flat_map hdu_bytes ds)) h d →
      AreSame o file front 0 0 (g ∷ (hs ++ h ∷ [])) (ds ++ d ∷ [])
  joined front g hs h [] d same here = absurd same
  joined front g hs h (e ∷ ds) d same here =
      let long : length (flat_map hdu_bytes (e ∷ ds)) ≡ length (hdu_bytes e) + length (flat_map hdu_bytes ds) = length-append (hdu_bytes e) (flat_map hdu_bytes ds) in
      let number : length (e ∷ ds) ≡ 1 + length ds = omega arith in
      let place : length (flat_map hdu_bytes (e ∷ ds)) ≡ (0 + length (hdu_bytes e)) + length (flat_map hdu_bytes ds) = omega (arith, long) in
      (same.0, snoc 1 (0 + length (hdu_bytes e)) hs h ds d same.1 (subst (λ n. IsSame o file [] (1 + length ds) n h d) place (subst (λ n. IsSame o file [] n (length (flat_map hdu_bytes (e ∷ ds))) h d) number here)))

  pub more_step : (front : List ℕ) (g : Header) (hs : List Header) (h : Header) (origin now : Option Origin) → AllByRecursion (StandsForOne file) (g ∷ hs) → SoFar front (g ∷ hs) origin → Step [] h origin now →
      SoFar front (g ∷ (hs ++ h ∷ [])) now
  more_step front g hs h None None one so_far step = λ ds same few.
      let w = later front g hs h ds same in
      so_far w.before w.same (omega (arith, w.count, few))
  more_step front g hs h None (Some w) one so_far step = absurd cc
  more_step front g hs h (Some b) None one so_far step = λ ds same few.
      let w = later front g hs h ds same in
      let both = same_bytes (g ∷ hs) front front 0 0 0 0 w.before so_far.hdus one w.same so_far.same in
      let number : length w.before ≡ b.hdus = both.0 ∙ so_far.count in
      let place : length (flat_map hdu_bytes w.before) ≡ b.end = both.1 ∙ so_far.end in
      step w.last (subst (λ n. IsSame o file [] b.hdus n h w.last) place (subst (λ n. IsSame o file [] n (length (flat_map hdu_bytes w.before)) h w.last) number w.here)) (omega (arith, number, w.count, few))
  more_step front g hs h (Some b) (Some w) one so_far step =
      let ds : List Hdu = so_far.hdus in
      let here : IsSame o file [] (length ds) (length (flat_map hdu_bytes ds)) h step.hdu =
      subst (λ n. IsSame o file [] (length ds) n h step.hdu) (sym so_far.end) (subst (λ n. IsSame o file [] n b.end h step.hdu) (sym so_far.count) step.same) in
      let bytes : flat_map hdu_bytes (ds ++ step.hdu ∷ []) ≡ flat_map hdu_bytes ds ++ hdu_bytes step.hdu =
      flat_map-append hdu_bytes ds (step.hdu ∷ []) ∙ ap (λ l. flat_map hdu_bytes ds ++ l) (append-nil (hdu_bytes step.hdu)) in
      let long : length (flat_map hdu_bytes (ds ++ step.hdu ∷ [])) ≡ length (flat_map hdu_bytes ds) + length (hdu_bytes step.hdu) = ap length bytes ∙ length-append (flat_map hdu_bytes ds) (hdu_bytes step.hdu) in
      let count : length (ds ++ step.hdu ∷ []) ≡ length ds + 1 = length-append ds (step.hdu ∷ []) in
      record {
        hdus = ds ++ step.hdu ∷ [];
        same = joined front g hs h ds step.hdu so_far.same here;
        count = omega (arith, count, so_far.count, step.more.hdus);
        end = omega (arith, long, so_far.end, step.more.end);
      }
