-- The image of a packed HDU in what a packed file stands for (FITS 4.0, section 10.1).
use Rattle.std.proofs.Common.{◌≡◌, ℕ, zero, suc, ◌+◌, ◌<◌, ◌&&◌, Bool, true, false, cond, List, [], ◌∷◌, ◌++◌, Contains, codes, refl, sym, ap, ◌∙◌, subst, arith}
use Rattle.std.specs.List.{filter, list_any, range_with_len}
use Rattle.std.specs.Prelude.{⊤, if◌then◌else◌}
use Rattle.std.proofs.lemmas.List.{append_assoc}
use Rattle.fz_block.specs.Checks.{is_set}
use Rattle.fz_block.specs.Facts.{IsHeaderOf, sort_of}
use Rattle.fz_block.specs.Hdus.{cards_of}
use Rattle.fz_block.specs.Walk.{AreHeadersBetween}
use Rattle.fz_block.specs.declared.header.Header.{Header}
use Rattle.fz_block.specs.declared.header.Sort.TheVariants.{Primary}
use Rattle.fz_grid.specs.Overlap.{has_pixel}
use Rattle.fz_grid.specs.Region.{lengths_of}
use Rattle.fz_grid.specs.Sieve.{sieve_hi, sieve_lo, sieve_step, tile_picks}
use Rattle.fz_grid.specs.Arrays.{NumberArray}
use Rattle.fz_grid.specs.declared.sieve.Sieve.{Sieve}
use Rattle.fz_head.specs.Packable.{is_packed, is_table}
use Rattle.fz_head.specs.declared.plan.Plan.{Plan}
use Rattle.fz_files.specs.Cutout.{PickedRowsStandFor}
use Rattle.fz_files.specs.Packed.{tiles_in}
use Rattle.fz_files.specs.Restored.{HduStandsFor, HdusStandFor, IsImageOf, RowsStandFor, StandsForAs, header_in, is_image, is_packed_primary, plan_in, standing}

-- ---- the empty primary that a packed primary is after is no packed image

-- the first HDU is no packed image
abbrev pub BeginsPlain : List ℕ → List Header → Type 0
BeginsPlain file [] = ⊤
BeginsPlain file (h ∷ hs) = is_image file h ≡ false

plain_first : (file : List ℕ) (h : Header) → h.hdu ≡ 0 → IsHeaderOf (header_in file h) h → is_image file h ≡ false
unfolding is_packed
plain_first file h first is =
    let sort_is : h.sort ≡ Primary = ap (λ (x : Header). x.sort) is.facts ∙ ap (λ k. sort_of k (header_in file h)) first in
    ap (λ s. is_table s && list_any (is_set (codes "ZIMAGE")) (cards_of (header_in file h))) sort_is

pub begins_plain : (end : ℕ) (file : List ℕ) (hs : List Header) → AreHeadersBetween 0 0 end file hs → BeginsPlain file hs
begins_plain end file [] are = tt
begins_plain end file (h ∷ hs) are = plain_first file h are.0 are.2

-- an HDU is one of those that stand for something
pub record StandsAmong (file : List ℕ) (hs : List Header) (h : Header) : Type 0 where
  pub earlier : List Header
  pub later : List Header
  pub hdus : standing file hs ≡ earlier ++ h ∷ later

pub stands_among : (file : List ℕ) (before : List Header) (h : Header) (later : List Header) → is_image file h ≡ true → BeginsPlain file (before ++ h ∷ later) → StandsAmong file (before ++ h ∷ later) h
stands_among file [] h later packed plain = absurd cc
stands_among file (j ∷ []) h later packed plain = by_test (is_packed_primary file h) refl
  where
    by_test : (b : Bool) → is_packed_primary file h ≡ b → StandsAmong file (j ∷ h ∷ later) h
    by_test true is = record { earlier = []; later = later; hdus = ap (λ b. if b then h ∷ later else j ∷ h ∷ later) is }
    by_test false is = record { earlier = j ∷ []; later = later; hdus = ap (λ b. if b then h ∷ later else j ∷ h ∷ later) is }
stands_among file (j ∷ (i ∷ before)) h later packed plain = by_test (is_packed_primary file i) refl
  where
    by_test : (b : Bool) → is_packed_primary file i ≡ b → StandsAmong file (j ∷ (i ∷ (before ++ h ∷ later))) h
    by_test true is = record { earlier = i ∷ before; later = later; hdus = ap (λ b. if b then i ∷ (before ++ h ∷ later) else j ∷ (i ∷ (before ++ h ∷ later))) is }
    by_test false is = record { earlier = j ∷ (i ∷ before); later = later; hdus = ap (λ b. if b then i ∷ (before ++ h ∷ later) else j ∷ (i ∷ (before ++ h ∷ later))) is }

-- ---- what it stands for

-- the bytes are what some HDUs stand for, what the next one does, and what the others do
pub record StandsBetween (file : List ℕ) (earlier : List Header) (h : Header) (later : List Header) (bytes : List ℕ) : Type 0 where
  pub before : List ℕ
  pub own : List ℕ
  pub behind : List ℕ
  pub front : HdusStandFor file earlier before
  pub here : HduStandsFor file h own
  pub back : HdusStandFor file later behind
  pub parts : bytes ≡ before ++ (own ++ behind)

pub stands_between : (file : List ℕ) (earlier : List Header) (h : Header) (later : List Header) (bytes : List ℕ) → HdusStandFor file (earlier ++ h ∷ later) bytes → StandsBetween file earlier h later bytes
stands_between file [] h later bytes (own, behind, parts, here, back) = record { before = []; own = own; behind = behind; front = refl; here = here; back = back; parts = parts }
stands_between file (j ∷ js) h later bytes (first, others, parts, of_first, of_others) =
    let rest = stands_between file js h later others of_others in
    record {
      before = first ++ rest.before;
      own = rest.own;
      behind = rest.behind;
      front = (first, rest.before, refl, of_first, rest.front);
      here = rest.here;
      back = rest.back;
      parts = parts ∙ ap (λ (l : List ℕ). first ++ l) rest.parts ∙ sym (append_assoc first rest.before (rest.own ++ rest.behind));
    }

pub is_image_of : (file : List ℕ) (h : Header) (bytes : List ℕ) → is_image file h ≡ true → HduStandsFor file h bytes → IsImageOf file h bytes
is_image_of file h bytes packed stands = subst (λ b. StandsForAs b file h bytes) packed stands

-- ---- its tiles that hold a pick

picked_below : (test : ℕ → Bool) (a n t : ℕ) → Contains (filter test (range_with_len a n)) t → t < a + n
picked_below test a zero t has = absurd (omega (arith, has.1))
picked_below test a (suc n) t has = by_test (λ more. picked_below test (a + 1) n t more) (test a) has
  where
    by_test : (Contains (filter test (range_with_len (a + 1) n)) t → t < a + 1 + n) → (b : Bool) → Contains (cond b (a ∷ filter test (range_with_len (a + 1) n)) (filter test (range_with_len (a + 1) n))) t → t < a + suc n
    by_test later true (zero, near, same) = omega (arith, same)
    by_test later true (suc k, near, same) = let less = later (k, omega (arith, near), same) in omega (arith, less)
    by_test later false more = let less = later more in omega (arith, less)

pub picked_stand : (file : List ℕ) (h : Header) (sieve : Sieve) (a : NumberArray) → RowsStandFor file h a → PickedRowsStandFor file h sieve a
picked_stand file h sieve a rows = record {
  lengths = rows.lengths;
  whole = rows.whole;
  tiles = λ t has.
      let p : Plan = plan_in file h in
      let less : t < 0 + tiles_in p = picked_below (λ u. has_pixel (tile_picks (lengths_of p.shape) (lengths_of p.tile) (sieve_lo sieve) (sieve_hi sieve) (sieve_step sieve) u)) 0 (tiles_in p) t has in
      rows.tiles t (omega (arith, less));
}
