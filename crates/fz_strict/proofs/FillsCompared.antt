-- The fill of a table, compared with zeros.
use Rattle.std.proofs.Common.{◌≡◌, ℕ, ◌+◌, ◌-◌, ◌≤◌, ◌==◌, Bool, false, List, take, replicate, Option, Some, None, IfSome, sym, ◌∙◌}
use Rattle.std.proofs.lemmas.Bool.Decides.{Decides-eqb}
use Rattle.std.proofs.lemmas.List.{take-replicate}
use Rattle.fz_block.specs.Header.{whole_blocks_of}
use Rattle.fz_image.specs.Layout.{heap_at_of, rows_len_of}
use Rattle.fz_image.specs.declared.layout.Layout.{Layout}
use Rattle.fz_compare.specs.Compared.{has_bytes, has_fill}
use Rattle.fz_strict.proofs.Pieces.{is_false}
use Rattle.fz_strict.proofs.SumNames.{and_none, and_second}

module _ (end : ℕ) (l : Layout) (heap : ℕ) where
  abbrev n : ℕ
  n = rows_len_of l + heap

  abbrev Z : List ℕ
  Z = replicate (whole_blocks_of n - n) 0

  -- the table does not end there
  pub ends_elsewhere : (held : Option (List ℕ)) → (end ≡ l.rows_at + whole_blocks_of n → ⊥) → IfSome held (λ g. false ≡ has_fill g end l heap)
  ends_elsewhere None never = tt
  ends_elsewhere (Some g) never =
      and_none (end == l.rows_at + whole_blocks_of n) (has_bytes g (heap_at_of l + heap) end Z)
      (is_false (end == l.rows_at + whole_blocks_of n) (λ is. never ((Decides-eqb end (l.rows_at + whole_blocks_of n)).0 is)))

  -- it does, and this is its fill
  pub fill_compared : (fill : List ℕ) (at : ℕ) (answer : Bool) → end ≡ l.rows_at + whole_blocks_of n → fill ≡ Z → at ≡ heap_at_of l + heap → (held : Option (List ℕ)) → IfSome held (λ g. answer ≡ has_bytes g at end fill) →
      IfSome held (λ g. answer ≡ has_fill g end l heap)
  fill_compared fill at answer ends zeros place None same = tt
  fill_compared fill at answer ends zeros place (Some g) same =
      same ∙ (λ i. has_bytes g (place i) end (zeros i))
      ∙ and_second (end == l.rows_at + whole_blocks_of n) (has_bytes g (heap_at_of l + heap) end Z) (sym ((Decides-eqb end (l.rows_at + whole_blocks_of n)).1 ends))

-- so many of the zeros of a block
pub some_zeros : (m most : ℕ) → m ≤ most → take {A = ℕ} m (replicate most 0) ≡ replicate m 0
some_zeros m most few = take-replicate {X = ℕ} m most 0 few
