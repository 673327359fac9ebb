-- The tiles of a round, whose pixels were in the slots, compared with what `pack` writes for them.
use Rattle.std.proofs.Common.{◌≡◌, ℕ, ◌+◌, ◌*◌, ◌^◌, ◌≤◌, ℤ, List, ◌++◌, length, Option, Some, None, IfSome, Result, Ok, Err, sym, ap, ◌∙◌, subst, arith}
use Rattle.std.specs.Prelude.{IfOk}
use Rattle.std.specs.List.{range_with_len}
use Rattle.std.proofs.lemmas.List.{length-append}
use Rattle.fz_fetch.specs.Fetched.{HaveTiles}
use Rattle.fz_pool.specs.Round.{coded_tiles}
use Rattle.fz_pool.specs.Window.{Pool}
use Rattle.fz_tile.specs.TileCode.{TileCode}
use Rattle.fz_image.specs.Laws.{NextTilesFit, TablesAreSmall, TilesJoin}
use Rattle.fz_image.specs.Progress.{AreNext, with_tiles}
use Rattle.fz_image.specs.Tiles.{AreCodesFrom, AreEncodedTiles, AreLoaded, tiles_from}
use Rattle.fz_image.specs.declared.layout.Layout.{Layout}
use Rattle.fz_image.specs.declared.progress.Progress.{Progress}
use Rattle.fz_compare.specs.Compared.{AreReady, ComparesCodes, ComparesRound, IsSoFar}

-- two facts of an answer Ok give a third
pub if_ok_both : {T E : Type 0} {P Q S : T → Type 0} (r : Result T E) → ((x : T) → P x → Q x → S x) → IfOk r P → IfOk r Q → IfOk r S
if_ok_both (Ok x) f p q = f x p q
if_ok_both (Err e) f p q = tt

none_more : (n : ℕ) → 0 + n ≡ n
none_more n = omega arith

-- so many tiles were written
pub tiles_are : (l : Layout) (w : Progress) (so_far : IsSoFar l w) → w.tiles ≡ length so_far.codes
tiles_are l w so_far = ap (λ (q : Progress). q.tiles) so_far.progress ∙ none_more (length so_far.codes)

module _ (l : Layout) (w : Progress) (count : ℕ) (old new : Pool) (ready : AreReady l w count old) (e : AreEncodedTiles l None w.tiles count new) where
  abbrev cs : List TileCode
  cs = ready.so_far.codes

  abbrev es : List TileCode
  es = coded_tiles count new.slots

  each : AreCodesFrom l (length cs) es
  each = subst (λ n. AreCodesFrom l n es) (tiles_are l w ready.so_far) e.each

  few : length cs + count ≤ l.tiles
  few = omega (arith, tiles_are l w ready.so_far, ready.tiles)

  -- they find room behind those that were written
  pub are_next : NextTilesFit → count ≤ 2 * new.workers → AreNext l w.heap count new
  are_next fits near =
      let there = fits l None cs count new ready.layout ready.so_far.each few near (subst (λ n. AreEncodedTiles l None n count new) (tiles_are l w ready.so_far) e) in
      subst (λ (q : Progress). AreNext l q.heap count new) (sym ready.so_far.progress) there

  -- with them more is written
  more : TilesJoin → (q : Progress) → q ≡ with_tiles l w es → IsSoFar l q × (q.tiles ≡ w.tiles + count)
  more joins q is =
      let both = joins l cs es ready.layout ready.so_far.each each in
      let size : length (cs ++ es) ≡ length cs + length es = length-append cs es in (
        record {
          codes = cs ++ es;
          each = both.0;
          some = omega (arith, size, e.number, few);
          progress = is ∙ ap (λ (p : Progress). with_tiles l p es) ready.so_far.progress ∙ both.1;
        },
        ap (λ (p : Progress). p.tiles) is ∙ ap (λ n. w.tiles + n) e.number,
      )

  more_if : TilesJoin → (now : Option Progress) → IfSome now (λ q. q ≡ with_tiles l w es) → IfSome now (λ q. IsSoFar l q × (q.tiles ≡ w.tiles + count))
  more_if joins None is = tt
  more_if joins (Some q) is = more joins q is

  pub round_compared : TilesJoin → (held : Option (List ℕ)) (end : ℕ) (mid : Pool) (now : Option Progress) →
      ((k : Option (List ℕ)) (pixels : List (List ℤ)) → HaveTiles l.plan (range_with_len w.tiles count) old.slots pixels → IfSome k (λ u. pixels ≡ tiles_from l u w.tiles count) → AreLoaded l k w.tiles count mid) →
      ((k : Option (List ℕ)) → AreLoaded l k w.tiles count mid → AreEncodedTiles l k w.tiles count new) →
      IfSome held (λ g. ComparesCodes g end l w es now) → IfSome now (λ q. q ≡ with_tiles l w es) → ComparesRound held end l w count old.slots now
  round_compared joins held end mid now loads encodes compared written = record {
    compared = λ u pixels have told.
        let coded : AreEncodedTiles l (Some u) w.tiles count new = encodes (Some u) (loads (Some u) pixels have told) in
        subst (λ (codes : List TileCode). IfSome held (λ g. ComparesCodes g end l w codes now)) coded.told compared;
    progress = more_if joins now written;
  }

-- a table so far is small
pub small_heap : TablesAreSmall → (l : Layout) (w : Progress) (count : ℕ) (old : Pool) → AreReady l w count old → w.heap ≤ 2 ^ 43
small_heap small l w count old ready = subst (λ (q : Progress). q.heap ≤ 2 ^ 43) (sym ready.so_far.progress) (small l ready.so_far.codes ready.layout ready.so_far.each ready.so_far.some).heap

pub small_sum : TablesAreSmall → (l : Layout) (w : Progress) (count : ℕ) (old : Pool) → AreReady l w count old → w.sum.count ≤ 2 ^ 60
small_sum small l w count old ready = subst (λ (q : Progress). q.sum.count ≤ 2 ^ 60) (sym ready.so_far.progress) (small l ready.so_far.codes ready.layout ready.so_far.each ready.so_far.some).sum
