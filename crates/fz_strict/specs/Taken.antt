-- What the laws of strict files take from those of the crates below.
use Rattle.std.specs.Prelude.{ℕ, ◌≡◌, ◌<◌, ◌≤◌, false, List, length, map, Ok}
use Rattle.fz_block.specs.Checks.{Judge, headers_of, walk_of}
use Rattle.fz_block.specs.Hdus.{AreHdusOf, Hdu}
use Rattle.fz_block.specs.Walk.{AreHeadersBetween, PassFrom, RefusesNone, hdu_of, stops}
use Rattle.fz_block.specs.declared.header.Header.{Header}
use Rattle.fz_files.specs.Laws.{HdusArePacked}

-- those of walks over headers, and of packed HDUs
pub record WalkLaws : Type 0 where
  pub headers :
      (judge : Judge) (most : ℕ) (file : List ℕ) (hs : List Header) → walk_of judge most file ≡ Ok hs →
      (0 < length hs) × (length hs ≤ most) × RefusesNone judge hs × ((end : ℕ) × (end ≤ length file) × AreHeadersBetween 0 0 end file hs)
  pub whole : (judge : Judge) (most : ℕ) (file : List ℕ) (hs : List Header) → walk_of judge most file ≡ Ok hs → stops judge hs ≡ false →
      headers_of most file ≡ Ok hs
  pub pass : (judge : Judge) (most : ℕ) (file : List ℕ) (hs : List Header) → walk_of judge most file ≡ Ok hs → PassFrom 0 0 (length file) (map (hdu_of file) hs)
  pub parts : (most : ℕ) (file : List ℕ) (hs : List Header) → headers_of most file ≡ Ok hs → AreHdusOf file (map (hdu_of file) hs)
  pub converse : (most : ℕ) (file : List ℕ) (hs : List Header) (ks : List Hdu) → headers_of most file ≡ Ok hs → AreHdusOf file ks → ks ≡ map (hdu_of file) hs
  pub judged : (judge : Judge) (most : ℕ) (file : List ℕ) (hs : List Header) → headers_of most file ≡ Ok hs → RefusesNone judge hs → stops judge hs ≡ false →
      walk_of judge most file ≡ Ok hs
  pub packed : HdusArePacked
