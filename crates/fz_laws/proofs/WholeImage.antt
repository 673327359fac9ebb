-- What a patched file stands for: what it stood for, with the box of the last image replaced.
use Rattle.std.specs.Prelude.{⊤}
use Rattle.std.proofs.Common.{◌≡◌, ◌⊎◌, inl, inr, ℕ, zero, suc, ◌+◌, ◌<◌, ◌≤◌, ◌^◌, ◌==◌, ◌&&◌, cond, min, Bool, true, false, ℤ, List, [], ◌∷◌, ◌++◌, length, map, take, Contains, Option, Some, None, Result, Ok, Err, if◌then◌else◌, refl, sym, ap, ◌∙◌, subst, arith, append-nil, append_assoc, eqb-true, eq-eqb}
use Rattle.std.specs.List.{filter, flat_map, range_with_len}
use Rattle.fz_base.specs.declared.fault.Fault.{Fault}
use Rattle.fz_block.specs.Checks.{walk_of}
use Rattle.fz_block.specs.Hdus.{cards_of, header_bytes}
use Rattle.fz_block.specs.declared.header.Header.{Header}
use Rattle.fz_grid.specs.Arrays.{IsArray, NumberArray}
use Rattle.fz_grid.specs.Division.{AreTileLengths}
use Rattle.fz_grid.specs.Grid.{box_coordinates, tile}
use Rattle.fz_grid.specs.Region.{lengths_of}
use Rattle.fz_tile.specs.Plain.{plain_bytes}
use Rattle.fz_checks.specs.Judges.{unpack_judge}
use Rattle.fz_head.specs.Packable.{is_packed}
use Rattle.fz_head.specs.PackedPlan.{plan_of_cards}
use Rattle.fz_head.specs.PlainHeader.{plain_header, was_primary}
use Rattle.fz_head.specs.declared.plan.Plan.{Plan}
use Rattle.fz_files.specs.FirstFault.{ImageRow, IsFaultBehind, IsFirstFault, IsFirstRowFault, IsRowSound, all_rows, image_row, rows_of}
use Rattle.fz_files.specs.Packed.{pixel_bits, tiles_in, zero_filled}
use Rattle.fz_files.specs.Restored.{HduStandsFor, HdusStandFor, IsImageOf, RowStandsFor, RowsStandFor, StandsForAs, header_in, image_bytes, is_image, is_packed_primary, pixels_of, plan_in, standing}
use Rattle.fz_files.specs.StandsFor.{StandsFor}
use Rattle.fz_files.specs.Walks.{fault_of_walk, found_headers, header_fault, headers_for, job_walk}
use Rattle.fz_files.specs.declared.job.Job.TheVariants.{Unpack}
use Rattle.fz_laws.specs.Given.{Given}
use Rattle.fz_laws.specs.PatchLaws.{IsGivenFor, OthersKeepNumbers, TilesAreReplaced}
use Rattle.fz_laws.specs.NewNumbers.{box_tiles, new_at, new_numbers, replaced}
use Rattle.fz_laws.specs.Patched.{HasNewTiles, IsReplacedIn, StandsForReplaced}
use Rattle.fz_laws.specs.PatchTaken.{PlaceLaws}
use Rattle.fz_laws.proofs.AlikeEnds.{AreEarlier, EndsAlike}
use Rattle.fz_laws.proofs.EarlierRows.{EarlierLaws, hdu_stands, header_new, image_new, plan_new, tile_new}
use Rattle.fz_laws.proofs.NewTiles.{boxes_count}
use Rattle.fz_laws.proofs.Passes.{same_or_more}

-- ---- an array with its box replaced

new_count : (g : Given) (cs : List (List ℕ)) (xs : List ℤ) → length xs ≡ length cs → length (new_at g cs xs) ≡ length xs
new_count g [] [] same = refl
new_count g [] (x ∷ xs) same = absurd (omega arith)
new_count g (c ∷ cs) [] same = refl
new_count g (c ∷ cs) (x ∷ xs) same = ap suc (new_count g cs xs (omega arith))

replaced_whole : PlaceLaws → (g : Given) (a : NumberArray) → IsArray a → IsArray (replaced g a)
replaced_whole places g a whole = new_count g (box_coordinates a.lengths) a.numbers (whole ∙ sym (boxes_count places.order a.lengths)) ∙ whole

in_or_out : (ts : List ℕ) (t : ℕ) → Contains ts t ⊎ (Contains ts t → ⊥)
in_or_out [] t = inr (λ c. let less = c.1 in absurd (omega arith))
in_or_out (u ∷ ts) t = by_test (u == t) refl (in_or_out ts t)
  where
    by_test : (b : Bool) → (u == t) ≡ b → Contains ts t ⊎ (Contains ts t → ⊥) → Contains (u ∷ ts) t ⊎ (Contains (u ∷ ts) t → ⊥)
    by_test true same rest = inl (0, omega arith, eqb-true u t same)
    by_test false differ (inl c) = let less = c.1 in inl (suc c.0, omega arith, c.2)
    by_test false differ (inr none) = inr (λ c. out c)
      where
        out : Contains (u ∷ ts) t → ⊥
        out (zero, less, here) = let same : u ≡ t = here in let test : (u == t) ≡ true = eq-eqb u t same in absurd cc
        out (suc i, less, here) = none (i, omega arith, here)

-- ---- rows without a fault

no_fault_both : (file : List ℕ) (rs ss : List ImageRow) → IsFirstRowFault file (rs ++ ss) None → IsFirstRowFault file rs None × IsFirstRowFault file ss None
no_fault_both file [] ss all = (tt, all)
no_fault_both file (r ∷ rs) ss all = let rest = no_fault_both file rs ss all.1 in ((all.0, rest.0), rest.1)

both_no_fault : (file : List ℕ) (rs ss : List ImageRow) → IsFirstRowFault file rs None → IsFirstRowFault file ss None → IsFirstRowFault file (rs ++ ss) None
both_no_fault file [] ss one two = two
both_no_fault file (r ∷ rs) ss one two = (one.0, both_no_fault file rs ss one.1 two)

each_sound : (file : List ℕ) (e : Header) (a n : ℕ) → IsFirstRowFault file (map (image_row e) (range_with_len a n)) None → (t : ℕ) → a ≤ t → t < a + n → IsRowSound file (image_row e t)
each_sound file e a zero all t low high = absurd (omega arith)
each_sound file e a (suc n) all t low high = by_place (same_or_more a t low) (λ more. each_sound file e (a + 1) n all.1 t more (omega arith))
  where
    by_place : (a ≡ t) ⊎ (a + 1 ≤ t) → (a + 1 ≤ t → IsRowSound file (image_row e t)) → IsRowSound file (image_row e t)
    by_place (inl same) later = subst (λ k. IsRowSound file (image_row e k)) same all.0
    by_place (inr more) later = later more

all_sound : (file : List ℕ) (e : Header) (a n : ℕ) → ((t : ℕ) → a ≤ t → t < a + n → IsRowSound file (image_row e t)) → IsFirstRowFault file (map (image_row e) (range_with_len a n)) None
all_sound file e a zero each = tt
all_sound file e a (suc n) each = (each a (omega arith) (omega arith), all_sound file e (a + 1) n (λ t low high. each t (omega arith) (omega arith)))

rows_if : (file : List ℕ) (e : Header) (l : List Header) (b : Bool) → is_image file e ≡ b → all_rows file (e ∷ l) ≡ (if b then rows_of file e ++ all_rows file l else all_rows file l)
rows_if file e l true is = ap (λ b. flat_map (rows_of file) (cond b (e ∷ filter (is_image file) l) (filter (is_image file) l))) is
rows_if file e l false is = ap (λ b. flat_map (rows_of file) (cond b (e ∷ filter (is_image file) l) (filter (is_image file) l))) is

-- whether an image was a primary is a part of its plan
plan_primary : (cards other : List (List ℕ)) → plan_of_cards other ≡ plan_of_cards cards → was_primary other ≡ was_primary cards
unfolding plan_of_cards
plan_primary cards other same = ap (λ (q : Plan). q.primary) same

-- ---- two files that are alike before their last HDUs

-- What is known of the last HDU of both.
pub record LastAlike (file x : List ℕ) (h now : Header) : Type 0 where
  pub low : h.start ≤ length file
  pub near : h.start ≤ 2 ^ 62
  pub front : take h.start x ≡ take h.start file
  pub packed : is_image file h ≡ true
  pub packed_now : is_image x now ≡ true
  pub plan : plan_in x now ≡ plan_in file h
  pub plain : plain_header (cards_of (header_in x now)) ≡ plain_header (cards_of (header_in file h))

-- what the earlier HDUs stand for, and what the last does
pub record FrontStands (file x : List ℕ) (h now : Header) (front : List Header) (restored : List ℕ) : Type 0 where
  pub earlier : List ℕ
  pub last : List ℕ
  pub was : restored ≡ earlier ++ last
  pub stood : HduStandsFor file h last
  pub gives : (bytes : List ℕ) → HduStandsFor x now bytes → HdusStandFor x (front ++ now ∷ []) (earlier ++ bytes)

-- the HDUs that stand for something
pub record StandingAlike (file x : List ℕ) (h now : Header) (front : List Header) : Type 0 where
  pub rest : List Header
  pub old : standing file (front ++ h ∷ []) ≡ rest ++ h ∷ []
  pub new : standing x (front ++ now ∷ []) ≡ rest ++ now ∷ []
  pub earlier : AreEarlier file (unpack_judge file) h.start rest

module _ (laws : EarlierLaws) (file x : List ℕ) (h now : Header) (alike : LastAlike file x h now) where
  front_stands : (front : List Header) (restored : List ℕ) → AreEarlier file (unpack_judge file) h.start front → HdusStandFor file (front ++ h ∷ []) restored → FrontStands file x h now front restored
  front_stands [] restored all parts = record {
    earlier = [];
    last = parts.0;
    was = parts.2 ∙ (ap (λ l. parts.0 ++ l) parts.4 ∙ append-nil parts.0);
    stood = parts.3;
    gives = λ bytes is. (bytes, [], sym (append-nil bytes), is, refl);
  }
  front_stands (e ∷ es) restored all parts =
      let rest = front_stands es parts.1 all.3 parts.4 in
      record {
        earlier = parts.0 ++ rest.earlier;
        last = rest.last;
        was = parts.2 ∙ (ap (λ l. parts.0 ++ l) rest.was ∙ sym (append_assoc parts.0 rest.earlier rest.last));
        stood = rest.stood;
        gives =
            λ bytes is.
            (parts.0, rest.earlier ++ bytes, append_assoc parts.0 rest.earlier bytes, hdu_stands laws h.start file x alike.low alike.near alike.front e all.0 all.1 all.2 parts.0 parts.3, rest.gives bytes is);
      }

  primary_now : is_packed_primary x now ≡ is_packed_primary file h
  primary_now = λ j. (alike.packed_now ∙ sym alike.packed) j && plan_primary (cards_of (header_in file h)) (cards_of (header_in x now)) alike.plan j

  primary_before : (e : Header) → AreEarlier file (unpack_judge file) h.start (e ∷ []) → is_packed_primary x e ≡ is_packed_primary file e
  primary_before e all =
      λ j.
      image_new laws h.start file x alike.low alike.near alike.front e all.0 all.1 j
      && was_primary (cards_of (header_new laws h.start file x alike.low alike.near alike.front e all.0 all.1 j))

  standing_alike : (front : List Header) → AreEarlier file (unpack_judge file) h.start front → StandingAlike file x h now front
  standing_alike [] all = record { rest = []; old = refl; new = refl; earlier = tt }
  standing_alike (e ∷ []) all = by_test (is_packed_primary file h) refl
    where
      by_test : (b : Bool) → is_packed_primary file h ≡ b → StandingAlike file x h now (e ∷ [])
      by_test true is = record {
        rest = [];
        old = ap (λ b. if b then h ∷ [] else e ∷ h ∷ []) is;
        new = ap (λ b. if b then now ∷ [] else e ∷ now ∷ []) (primary_now ∙ is);
        earlier = tt;
      }
      by_test false is = record {
        rest = e ∷ [];
        old = ap (λ b. if b then h ∷ [] else e ∷ h ∷ []) is;
        new = ap (λ b. if b then now ∷ [] else e ∷ now ∷ []) (primary_now ∙ is);
        earlier = all;
      }
  standing_alike (e ∷ f ∷ fs) all = by_test (is_packed_primary file f) refl
    where
      later : AreEarlier file (unpack_judge file) h.start (f ∷ fs)
      later = all.3

      same : is_packed_primary x f ≡ is_packed_primary file f
      same = primary_before f (later.0, later.1, later.2, tt)

      by_test : (b : Bool) → is_packed_primary file f ≡ b → StandingAlike file x h now (e ∷ f ∷ fs)
      by_test true is = record {
        rest = f ∷ fs;
        old = ap (λ b. if b then f ∷ (fs ++ h ∷ []) else e ∷ f ∷ (fs ++ h ∷ [])) is;
        new = ap (λ b. if b then f ∷ (fs ++ now ∷ []) else e ∷ f ∷ (fs ++ now ∷ [])) (same ∙ is);
        earlier = later;
      }
      by_test false is = record {
        rest = e ∷ f ∷ fs;
        old = ap (λ b. if b then f ∷ (fs ++ h ∷ []) else e ∷ f ∷ (fs ++ h ∷ [])) is;
        new = ap (λ b. if b then f ∷ (fs ++ now ∷ []) else e ∷ f ∷ (fs ++ now ∷ [])) (same ∙ is);
        earlier = all;
      }

  -- no row has a fault, if none of the last HDU has
  rows_sound : (front : List Header) → AreEarlier file (unpack_judge file) h.start front → IsFirstRowFault file (all_rows file (front ++ h ∷ [])) None → IsFirstRowFault x (rows_of x now) None →
      IsFirstRowFault x (all_rows x (front ++ now ∷ [])) None
  rows_sound [] all old new =
      subst (λ rs. IsFirstRowFault x rs None) (sym (rows_if x now [] true alike.packed_now ∙ append-nil (rows_of x now))) new
  rows_sound (e ∷ es) all old new = by_kind (λ sound. rows_sound es all.3 sound new) (is_image file e) refl
    where
      rest_old : List ImageRow
      rest_old = all_rows file (es ++ h ∷ [])

      rest_new : List ImageRow
      rest_new = all_rows x (es ++ now ∷ [])

      own : is_image file e ≡ true → IsFirstRowFault file (rows_of file e) None → IsFirstRowFault x (rows_of x e) None
      own packed sound =
          all_sound x e 0 (tiles_in (plan_in x e))
          (λ t low less.
          let plan : plan_in x e ≡ plan_in file e = plan_new laws h.start file x alike.low alike.near alike.front e all.0 all.1 in
          let within : t < tiles_in (plan_in file e) = subst (λ q. t < tiles_in q) plan (omega arith) in
          let was = each_sound file e 0 (tiles_in (plan_in file e)) sound t (omega arith) (omega arith) in
          (was.0, tile_new laws h.start file x alike.low alike.near alike.front e all.0 all.1 all.2 packed t was.0 within was.1))

      by_kind : (IsFirstRowFault file rest_old None → IsFirstRowFault x rest_new None) → (b : Bool) → is_image file e ≡ b → IsFirstRowFault x (all_rows x (e ∷ (es ++ now ∷ []))) None
      by_kind later true is =
          let here = image_new laws h.start file x alike.low alike.near alike.front e all.0 all.1 ∙ is in
          let both = no_fault_both file (rows_of file e) rest_old (subst (λ rs. IsFirstRowFault file rs None) (rows_if file e (es ++ h ∷ []) true is) old) in
          subst (λ rs. IsFirstRowFault x rs None) (sym (rows_if x e (es ++ now ∷ []) true here))
          (both_no_fault x (rows_of x e) rest_new (own is both.0) (later both.1))
      by_kind later false is =
          let here = image_new laws h.start file x alike.low alike.near alike.front e all.0 all.1 ∙ is in
          subst (λ rs. IsFirstRowFault x rs None) (sym (rows_if x e (es ++ now ∷ []) false here))
          (later (subst (λ rs. IsFirstRowFault file rs None) (rows_if file e (es ++ h ∷ []) false is) old))

-- ---- the image

-- what is taken of the laws of numbers
pub record ReplaceLaws : Type 0 where
  pub places : PlaceLaws
  pub tiles : TilesAreReplaced
  pub others : OthersKeepNumbers

module _ (laws : ReplaceLaws) (file x : List ℕ) (h now : Header) (g : Given) (given : IsGivenFor (plan_in file h) g) (lengths : AreTileLengths (lengths_of (plan_in file h).shape) (lengths_of (plan_in file h).tile))
    (plan : plan_in x now ≡ plan_in file h)
    (inside : (t : ℕ) (xs : List ℤ) → Contains (box_tiles (plan_in file h) g) t → RowStandsFor file h t xs → RowStandsFor x now t (new_numbers (plan_in file h) g t xs))
    (outside : (t : ℕ) (xs : List ℤ) → t < tiles_in (plan_in file h) → ¬ Contains (box_tiles (plan_in file h) g) t → RowStandsFor file h t xs → RowStandsFor x now t xs)
    (a : NumberArray) (rows : RowsStandFor file h a) where
  abbrev p : Plan
  p = plan_in file h

  abbrev old_tile : ℕ → List ℤ
  old_tile t = tile a (lengths_of p.tile) t

  new_tile : (t : ℕ) → t < tiles_in p → RowStandsFor x now t (tile (replaced g a) (lengths_of p.tile) t)
  new_tile t less =
      let array : AreTileLengths a.lengths (lengths_of p.tile) = subst (λ l. AreTileLengths l (lengths_of p.tile)) (sym rows.lengths) lengths in
      let is : tile (replaced g a) (lengths_of p.tile) t ≡ new_numbers p g t (old_tile t) = laws.tiles p g a t array rows.whole rows.lengths less in
      subst (RowStandsFor x now t) (sym is) (by_box (in_or_out (box_tiles p g) t))
    where
      by_box : Contains (box_tiles p g) t ⊎ (Contains (box_tiles p g) t → ⊥) → RowStandsFor x now t (new_numbers p g t (old_tile t))
      by_box (inl c) = inside t (old_tile t) c (rows.tiles t less)
      by_box (inr none) =
          let r : RowStandsFor file h t (old_tile t) = rows.tiles t less in
          subst (RowStandsFor x now t) (sym (laws.others p g t (old_tile t) lengths given.sifts less r.count none)) (outside t (old_tile t) less none r)

  pub rows_replaced : RowsStandFor x now (replaced g a)
  rows_replaced = record {
    lengths = subst (λ q. a.lengths ≡ lengths_of q.shape) (sym plan) rows.lengths;
    whole = replaced_whole laws.places g a rows.whole;
    tiles =
        λ t less.
        subst (λ q. RowStandsFor x now t (tile (replaced g a) (lengths_of q.tile) t)) (sym plan) (new_tile t (subst (λ q. t < tiles_in q) plan less));
  }

-- the headers of both files
record BothHeaders (file x : List ℕ) (h now : Header) : Type 0 where
  front : List Header
  earlier : AreEarlier file (unpack_judge file) h.start front
  olds : headers_for Unpack file ≡ front ++ h ∷ []
  news : headers_for Unpack x ≡ front ++ now ∷ []

-- ---- the files

module _ (laws : EarlierLaws) (replace : ReplaceLaws) (file x : List ℕ) (h now : Header) (g : Given) (given : IsGivenFor (plan_in file h) g)
    (lengths : AreTileLengths (lengths_of (plan_in file h).shape) (lengths_of (plan_in file h).tile)) (alike : LastAlike file x h now)
    (inside : (t : ℕ) (xs : List ℤ) → Contains (box_tiles (plan_in file h) g) t → RowStandsFor file h t xs → RowStandsFor x now t (new_numbers (plan_in file h) g t xs))
    (outside : (t : ℕ) (xs : List ℤ) → t < tiles_in (plan_in file h) → ¬ Contains (box_tiles (plan_in file h) g) t → RowStandsFor file h t xs → RowStandsFor x now t xs)
    (passes : header_fault Unpack file ≡ None → header_fault Unpack x ≡ None)
    (walks : (ks : List Header) → walk_of (unpack_judge file) 65536 file ≡ Ok ks → EndsAlike 65536 0 0 file x h now (unpack_judge file) (unpack_judge x) ks) where
  both_headers : header_fault Unpack file ≡ None → BothHeaders file x h now
  unfolding job_walk
  both_headers none = by_walk (walk_of (unpack_judge file) 65536 file) refl none
    where
      by_walk : (r : Result (List Header) Fault) → walk_of (unpack_judge file) 65536 file ≡ r → fault_of_walk Unpack file r ≡ None → BothHeaders file x h now
      by_walk (Err fault) walk e = absurd cc
      by_walk (Ok ks) walk e =
          let w = walks ks walk in
          record {
            front = w.front;
            earlier = w.earlier;
            olds = ap found_headers walk ∙ w.olds;
            news = ap found_headers w.walk ∙ w.news;
          }

  image_of : (bytes : List ℕ) → HduStandsFor file h bytes → IsImageOf file h bytes
  image_of bytes stands = subst (λ b. StandsForAs b file h bytes) alike.packed stands

  no_header_fault : (found : Option Fault) → header_fault Unpack file ≡ found → IsFirstFault Unpack file None → header_fault Unpack file ≡ None
  no_header_fault None is sound = is
  no_header_fault (Some fault) is sound = let none : None ≡ Some fault = subst (λ o. IsFaultBehind o Unpack file None) is sound in absurd cc

  pub stands_replaced : (restored : List ℕ) → StandsFor file restored → StandsForReplaced file x h g restored
  stands_replaced restored stands =
      let none : header_fault Unpack file ≡ None = no_header_fault (header_fault Unpack file) refl stands.sound in
      let hs = both_headers none in
      let old_rows : IsFirstRowFault file (all_rows file (hs.front ++ h ∷ [])) None =
      subst (λ l. IsFirstRowFault file (all_rows file l) None) hs.olds (subst (λ o. IsFaultBehind o Unpack file None) none stands.sound) in
      let still = standing_alike laws file x h now alike hs.front hs.earlier in
      let parts : HdusStandFor file (still.rest ++ h ∷ []) restored =
      subst (λ l. HdusStandFor file l restored) (ap (standing file) hs.olds ∙ still.old) stands.parts in
      let f = front_stands laws file x h now alike still.rest restored still.earlier parts in
      let i = image_of f.last f.stood in
      let rows : RowsStandFor x now (replaced g i.array) = rows_replaced replace file x h now g given lengths alike.plan inside outside i.array i.rows in
      let bytes : List ℕ = image_bytes (plan_in file h) (cards_of (header_in file h)) (replaced g i.array) in
      let image : IsImageOf x now bytes =
      record { array = replaced g i.array; rows = rows; image = λ j. header_bytes (sym alike.plain j) ++ zero_filled (plain_bytes (pixel_bits (sym alike.plan j)) (replaced g i.array).numbers) } in
      let here : HduStandsFor x now bytes = subst (λ b. StandsForAs b x now bytes) (sym alike.packed_now) image in
      let last_rows : IsFirstRowFault x (rows_of x now) None =
      all_sound x now 0 (tiles_in (plan_in x now)) (λ t low less. (tile (replaced g i.array) (lengths_of (plan_in x now).tile) t, rows.tiles t (omega arith))) in
      let new_rows : IsFirstRowFault x (all_rows x (headers_for Unpack x)) None =
      subst (λ l. IsFirstRowFault x (all_rows x l) None) (sym hs.news) (rows_sound laws file x h now alike hs.front hs.earlier old_rows last_rows) in
      record {
        after = f.earlier ++ bytes;
        stands = record {
          sound = subst (λ o. IsFaultBehind o Unpack x None) (sym (passes none)) new_rows;
          parts = subst (λ l. HdusStandFor x l (f.earlier ++ bytes)) (sym (ap (standing x) hs.news ∙ still.new)) (f.gives bytes here);
        };
        image = record { earlier = f.earlier; array = i.array; rows = i.rows; was = f.was ∙ ap (λ l. f.earlier ++ l) i.image; now = refl };
      }
