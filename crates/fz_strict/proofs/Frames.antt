-- All but the rows and the heap of a table is what `pack` writes.
use Rattle.std.proofs.Common.{◌≡◌, ℕ, ◌+◌, ◌==◌, List, length, sym, ap, ◌∙◌, arith}
use Rattle.std.proofs.lemmas.Bool.Decides.{Decides-eqb}
use Rattle.std.specs.Prelude.{Bool, true, false, ◌&&◌, Option, Some, None, IfSome}
use Rattle.fz_block.specs.Hdus.{header_bytes}
use Rattle.fz_block.specs.Header.{next_start_of}
use Rattle.fz_block.specs.declared.header.Header.{Header}
use Rattle.fz_files.specs.Packed.{heap_of, packed_data, table_header, with_sums}
use Rattle.fz_head.specs.EmptyPrimary.{empty_primary}
use Rattle.fz_image.specs.Progress.{no_progress, with_tiles}
use Rattle.fz_image.specs.Tiles.{AreCodesFrom}
use Rattle.fz_image.specs.declared.layout.Layout.{Layout}
use Rattle.fz_image.specs.declared.progress.Progress.{Progress}
use Rattle.fz_tile.specs.TileCode.{TileCode}
use Rattle.fz_compare.specs.Compared.{begins_right, has_bytes, has_fill, has_frame, has_header}
use Rattle.fz_strict.proofs.Pieces.{is_false}
use Rattle.fz_strict.proofs.SumNames.{and_none, and_second, and_third}

-- the table of a primary does not begin behind a primary without data
pub begins_elsewhere : (primary : Bool) (h : Header) (held : Option (List ℕ)) → primary ≡ true → (h.start ≡ 2880 → ⊥) → IfSome held (λ g. false ≡ begins_right primary g h)
begins_elsewhere false h held is never = absurd cc
begins_elsewhere true h None is never = tt
begins_elsewhere true h (Some g) is never =
    and_none (h.start == 2880) (has_bytes g 0 h.start (header_bytes empty_primary)) (is_false (h.start == 2880) (λ there. never ((Decides-eqb h.start 2880).0 there)))

-- it does, and these are its bytes
pub begin_compared : (primary : Bool) (h : Header) (made : List ℕ) (answer : Bool) → primary ≡ true → h.start ≡ 2880 → made ≡ header_bytes empty_primary → (held : Option (List ℕ)) →
    IfSome held (λ g. answer ≡ has_bytes g 0 h.start made) → IfSome held (λ g. answer ≡ begins_right primary g h)
begin_compared false h made answer is there bytes held same = absurd cc
begin_compared true h made answer is there bytes None same = tt
begin_compared true h made answer is there bytes (Some g) same =
    same ∙ ap (has_bytes g 0 h.start) bytes
    ∙ and_second (h.start == 2880) (has_bytes g 0 h.start (header_bytes empty_primary)) (sym ((Decides-eqb h.start 2880).1 there))

-- what is asked of the frame of a table of which this was written
abbrev pub FrameIs : Header → Layout → Bool → List (List ℕ) → Progress → Bool → List ℕ → Type 0
FrameIs h l sums cards w answer g = (codes : List TileCode) → AreCodesFrom l 0 codes → length codes ≡ l.tiles → w ≡ with_tiles l no_progress codes → answer ≡ has_frame g h l sums cards codes

module _ (h : Header) (l : Layout) (sums : Bool) (cards : List (List ℕ)) (w : Progress) where
  heap_is : (codes : List TileCode) → w ≡ with_tiles l no_progress codes → w.heap ≡ length (heap_of codes)
  heap_is codes is = let none : 0 + length (heap_of codes) ≡ length (heap_of codes) = omega arith in ap (λ (q : Progress). q.heap) is ∙ none

  filled : (g : List ℕ) (answer : Bool) (codes : List TileCode) → w ≡ with_tiles l no_progress codes → answer ≡ has_fill g (next_start_of h) l w.heap → answer ≡ has_fill g (next_start_of h) l (length (heap_of codes))
  filled g answer codes is fill = fill ∙ ap (has_fill g (next_start_of h) l) (heap_is codes is)

  abbrev header_of : List ℕ → List TileCode → Bool
  header_of g codes = has_header g h (header_bytes (with_sums sums (table_header l.plan cards codes) (packed_data l.plan codes)))

  pub no_fill : (held : Option (List ℕ)) → IfSome held (λ g. false ≡ has_fill g (next_start_of h) l w.heap) → IfSome held (FrameIs h l sums cards w false)
  no_fill None fill = tt
  no_fill (Some g) fill = λ codes each all is. and_none (has_fill g (next_start_of h) l (length (heap_of codes))) (begins_right l.plan.primary g h && header_of g codes) (filled g false codes is fill)

  pub no_begin : (held : Option (List ℕ)) → IfSome held (λ g. true ≡ has_fill g (next_start_of h) l w.heap) → IfSome held (λ g. false ≡ begins_right l.plan.primary g h) → IfSome held (FrameIs h l sums cards w false)
  no_begin None fill begins = tt
  no_begin (Some g) fill begins = λ codes each all is.
      and_none (begins_right l.plan.primary g h) (header_of g codes) begins
      ∙ and_second (has_fill g (next_start_of h) l (length (heap_of codes))) (begins_right l.plan.primary g h && header_of g codes) (filled g true codes is fill)

  pub frame : (made : List ℕ) (answer : Bool) → ((codes : List TileCode) → AreCodesFrom l 0 codes → length codes ≡ l.tiles → w ≡ with_tiles l no_progress codes → made ≡ header_bytes (with_sums sums (table_header l.plan cards codes) (packed_data l.plan codes))) →
      (held : Option (List ℕ)) → IfSome held (λ g. true ≡ has_fill g (next_start_of h) l w.heap) → IfSome held (λ g. true ≡ begins_right l.plan.primary g h) → IfSome held (λ g. answer ≡ has_header g h made) → IfSome held (FrameIs h l sums cards w answer)
  frame made answer header None fill begins same = tt
  frame made answer header (Some g) fill begins same = λ codes each all is.
      same ∙ ap (has_header g h) (header codes each all is)
      ∙ and_third (has_fill g (next_start_of h) l (length (heap_of codes))) (begins_right l.plan.primary g h) (header_of g codes) (filled g true codes is fill) begins
