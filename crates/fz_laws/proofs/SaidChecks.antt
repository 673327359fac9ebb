-- The checks of a packed header that look at its cards by their names: the same refuse.
use Rattle.std.proofs.Common.{◌≡◌, ℕ, ◌^◌, ◌++◌, ◌&&◌, ◌||◌, not, nat_lt, Bool, false, ℤ, pos, negsuc, List, [], ◌∷◌, codes, Option, Some, None, is_none, is_some, unwrap_or, flat_map, position, if◌then◌else◌, refl, ap, ◌∙◌}
use Rattle.std.specs.List.{range_with_len}
use Rattle.fz_base.specs.Refusal.{refusal}
use Rattle.fz_base.specs.declared.fault.Place.TheVariants.{Card}
use Rattle.fz_base.specs.declared.kind.Kind.{Kind}
use Rattle.fz_base.specs.declared.kind.Kind.TheVariants.{BadCard, Limit, UnknownCodec, Quantised, MisplacedPrimary, PlioOffset}
use Rattle.fz_card.specs.Laws.{NumberedNameLaws}
use Rattle.fz_card.specs.Layout.{padded}
use Rattle.fz_card.specs.Made.{numbered_name}
use Rattle.fz_card.specs.Reading.{integer_of, is_text, logical_of, text_of}
use Rattle.fz_grid.specs.Arrays.{product}
use Rattle.fz_grid.specs.Grid.{tile_count}
use Rattle.fz_head.specs.CardLists.{index_of}
use Rattle.fz_head.specs.PackChecks.{is_offset}
use Rattle.fz_block.specs.Checks.{refused_at}
use Rattle.fz_head.specs.PackedChecks.{at_name, axis_checks, axis_count_checks, bitpix_checks, block_checks, bytepix_checks, codec_checks, column_count, grid_check, has_word, is_block, is_bytepix, is_integer, is_integer_size, is_positive, is_scaling, line_list_check, missing, must_be, parameter_checks, scaling_check, shape_checks, sort_checks, tile_check, value_missing}
use Rattle.fz_head.specs.PackedPlan.{is_codec_name, is_plain_name, is_plio_name, is_rice_name, parameter_number, size_of}
use Rattle.fz_laws.proofs.Alike.{AreAlike, ignoring, index_alike, length_alike, position_alike}
use Rattle.fz_laws.proofs.Loose.{by_offset, by_scaling, is_loose}
use Rattle.fz_laws.proofs.SaidPlan.{axes_same, axis_same, codec_same, count_same, number_same, tile_same, tiles_same, value_same, word_same}

module _ (laws : NumberedNameLaws) (cs ds : List (List ℕ)) (are : AreAlike cs ds) (k : ℕ) where
  index_same : (name : List ℕ) → index_of name ds ≡ index_of name cs
  index_same name = index_alike name cs ds are

  at_same : (name : List ℕ) (kind : Kind) → at_name k name ds kind ≡ at_name k name cs kind
  at_same name kind = λ j. refusal k (Card (unwrap_or (index_same name j) 0)) kind

  missing_same : (name : List ℕ) → missing k name ds ≡ missing k name cs
  missing_same name = λ j. (is_none (index_same name j), refusal k (Card (length_alike cs ds are j)) BadCard)

  columns_same : column_count ds ≡ column_count cs
  columns_same = λ j. size_of (word_same laws cs ds are (codes "TFIELDS") refl j)

  scaling_at : position (is_scaling (column_count ds)) ds ≡ position (is_scaling (column_count cs)) cs
  scaling_at =
      (λ j. position (is_scaling (columns_same j)) ds)
      ∙ position_alike (is_scaling (column_count cs)) (ignoring (is_scaling (column_count cs)) (by_scaling laws (column_count cs))) cs ds are

  pub scaling_same : scaling_check k ds ≡ scaling_check k cs
  scaling_same = ap (λ o. refused_at k o Quantised) scaling_at

  pub codecs_same : codec_checks k ds ≡ codec_checks k cs
  codecs_same = λ j.
      missing_same (padded (codes "ZCMPTYPE")) j
      ∷ (is_none (codec_same laws cs ds are j), at_same (padded (codes "ZCMPTYPE")) BadCard j)
      ∷ (not (is_codec_name (codec_same laws cs ds are j)), at_same (padded (codes "ZCMPTYPE")) UnknownCodec j)
      ∷ []

  pub bits_same : bitpix_checks k ds ≡ bitpix_checks k cs
  bits_same = λ j.
      missing_same (padded (codes "ZBITPIX")) j
      ∷ (is_integer (negsuc 31) (integer_of (word_same laws cs ds are (codes "ZBITPIX") refl j)) || is_integer (negsuc 63) (integer_of (word_same laws cs ds are (codes "ZBITPIX") refl j)), at_same (padded (codes "ZBITPIX")) Quantised j)
      ∷ (not (is_integer_size (integer_of (word_same laws cs ds are (codes "ZBITPIX") refl j))), at_same (padded (codes "ZBITPIX")) BadCard j)
      ∷ (is_integer (pos 64) (integer_of (word_same laws cs ds are (codes "ZBITPIX") refl j)) && not (is_plain_name (codec_same laws cs ds are j)), at_same (padded (codes "ZCMPTYPE")) UnknownCodec j)
      ∷ []

  axis_counts_same : axis_count_checks k ds ≡ axis_count_checks k cs
  axis_counts_same = λ j.
      missing_same (padded (codes "ZNAXIS")) j
      ∷ (not (is_positive (integer_of (word_same laws cs ds are (codes "ZNAXIS") refl j))), at_same (padded (codes "ZNAXIS")) BadCard j)
      ∷ (nat_lt 9 (count_same laws cs ds are j), at_same (padded (codes "ZNAXIS")) Limit j)
      ∷ []

  axis_checks_same : (i : ℕ) → axis_checks k ds i ≡ axis_checks k cs i
  axis_checks_same i = λ j.
      missing_same (numbered_name (codes "ZNAXIS") i) j
      ∷ (not (is_positive (integer_of (axis_same laws cs ds are i j))), at_same (numbered_name (codes "ZNAXIS") i) BadCard j)
      ∷ (nat_lt 2147483647 (size_of (axis_same laws cs ds are i j)), at_same (numbered_name (codes "ZNAXIS") i) Limit j)
      ∷ []

  tile_check_same : (i : ℕ) → tile_check k ds i ≡ tile_check k cs i
  tile_check_same i = λ j.
      (is_some (index_same (numbered_name (codes "ZTILE") i) j) && not (is_positive (integer_of (tile_same laws cs ds are i j))), at_same (numbered_name (codes "ZTILE") i) BadCard j)

  grid_same : grid_check k ds ≡ grid_check k cs
  grid_same = λ j. (
    nat_lt (2 ^ 40) (product (axes_same laws cs ds are j))
        || (nat_lt (2 ^ 26) (product (tiles_same laws cs ds are j))
        || nat_lt 2147483647 (tile_count (axes_same laws cs ds are j) (tiles_same laws cs ds are j))),
    at_same (padded (codes "ZNAXIS")) Limit j,
  )

  pub shapes_same : shape_checks k ds ≡ shape_checks k cs
  shapes_same = λ j.
      axis_counts_same j
      ++ (flat_map (λ i. axis_checks_same i j) (range_with_len 1 (count_same laws cs ds are j))
      ++ (flat_map (λ i. tile_check_same i j ∷ []) (range_with_len 1 (count_same laws cs ds are j))
      ++ grid_same j ∷ []))

  value_missing_same : (i : ℕ) → value_missing k ds i ≡ value_missing k cs i
  value_missing_same i = λ j. (is_none (index_same (numbered_name (codes "ZVAL") i) j), at_same (numbered_name (codes "ZNAME") i) BadCard j)

  block_of : (found : Option ℕ) → block_checks k ds found ≡ block_checks k cs found
  block_of None = refl
  block_of (Some i) = λ j.
      value_missing_same i j
      ∷ (not (is_block (integer_of (value_same laws cs ds are i j))), at_same (numbered_name (codes "ZVAL") i) BadCard j)
      ∷ []

  bytepix_of : (found : Option ℕ) → bytepix_checks k ds found ≡ bytepix_checks k cs found
  bytepix_of None = refl
  bytepix_of (Some i) = λ j.
      value_missing_same i j
      ∷ (is_integer (pos 8) (integer_of (value_same laws cs ds are i j)), at_same (numbered_name (codes "ZVAL") i) UnknownCodec j)
      ∷ (not (is_bytepix (integer_of (value_same laws cs ds are i j))), at_same (numbered_name (codes "ZVAL") i) BadCard j)
      ∷ []

  block_same : block_checks k ds (parameter_number (codes "BLOCKSIZE") ds) ≡ block_checks k cs (parameter_number (codes "BLOCKSIZE") cs)
  block_same = ap (block_checks k ds) (number_same laws cs ds are (codes "BLOCKSIZE")) ∙ block_of (parameter_number (codes "BLOCKSIZE") cs)

  bytepix_same : bytepix_checks k ds (parameter_number (codes "BYTEPIX") ds) ≡ bytepix_checks k cs (parameter_number (codes "BYTEPIX") cs)
  bytepix_same = ap (bytepix_checks k ds) (number_same laws cs ds are (codes "BYTEPIX")) ∙ bytepix_of (parameter_number (codes "BYTEPIX") cs)

  pub parameters_same : parameter_checks k ds ≡ parameter_checks k cs
  parameters_same = λ j. if is_rice_name (codec_same laws cs ds are j) then block_same j ++ bytepix_same j else []

  has_same : (word : List ℕ) → has_word word ds ≡ has_word word cs
  has_same word = λ j. is_some (index_same (padded word) j)

  must_same : (word : List ℕ) (v : ℤ) → is_loose (padded word) ≡ false → must_be k ds word v ≡ must_be k cs word v
  must_same word v tight = λ j.
      (not (has_same (codes "ZSIMPLE") j) && (has_same word j && not (is_integer v (integer_of (word_same laws cs ds are word tight j)))), at_same (padded word) BadCard j)

  pub sorts_same : (after_empty : Bool) → sort_checks k ds after_empty ≡ sort_checks k cs after_empty
  sorts_same after_empty = λ j.
      (has_same (codes "ZSIMPLE") j && not (unwrap_or (logical_of (word_same laws cs ds are (codes "ZSIMPLE") refl j)) false), at_same (padded (codes "ZSIMPLE")) BadCard j)
      ∷ (has_same (codes "ZTENSION") j && not (is_text (codes "IMAGE") (text_of (word_same laws cs ds are (codes "ZTENSION") refl j))), at_same (padded (codes "ZTENSION")) BadCard j)
      ∷ (has_same (codes "ZSIMPLE") j && not after_empty, at_same (padded (codes "ZSIMPLE")) MisplacedPrimary j)
      ∷ must_same (codes "ZPCOUNT") (pos 0) refl j
      ∷ must_same (codes "ZGCOUNT") (pos 1) refl j
      ∷ []

  offset_at : position is_offset ds ≡ position is_offset cs
  offset_at = position_alike is_offset (ignoring is_offset by_offset) cs ds are

  pub lines_same : line_list_check k ds ≡ line_list_check k cs
  lines_same = λ j.
      (is_plio_name (codec_same laws cs ds are j) && is_some (offset_at j), refusal k (Card (unwrap_or (offset_at j) 0)) PlioOffset)
