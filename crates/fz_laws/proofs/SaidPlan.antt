-- The plan that cards say stays, and so do the cards of the image.
use Rattle.std.proofs.Common.{◌≡◌, ℕ, ◌++◌, false, pos, min, List, [], map, codes, Option, Some, None, is_some, unwrap_or, option_to_list, flat_map, if◌then◌else◌, refl, ap, ◌∙◌}
use Rattle.std.specs.List.{filter, range_with_len}
use Rattle.fz_card.specs.Laws.{NumberedNameLaws}
use Rattle.fz_card.specs.Layout.{padded}
use Rattle.fz_card.specs.Made.{numbered_name}
use Rattle.fz_card.specs.Reading.{integer_of, text_of}
use Rattle.fz_block.specs.Facts.{nine_axes}
use Rattle.fz_block.specs.Hdus.{size_in}
use Rattle.fz_tile.specs.declared.codec.Codec.TheVariants.{Rice, Plio, Plain}
use Rattle.fz_head.specs.PackedHeader.{number_card, word_card}
use Rattle.fz_head.specs.PackedPlan.{codec_named, default_tile, is_plio_name, is_rice_name, least, numbered_in, parameter, parameter_in, parameter_number, plan_of_cards, said_axes, said_bitpix, said_codec, said_tile, size_of, tile_along, value_of_number, word_in}
use Rattle.fz_head.specs.PlainHeader.{axis_card, axis_count, count_cards, is_kept, leading_card, or_card, other_cards, plain_card, plain_header, restored_word, says_what, size_cards, was_primary}
use Rattle.fz_head.specs.Planned.{is_wide}
use Rattle.fz_laws.proofs.Alike.{AreAlike, card_alike, filter_alike, filter_map_alike, find_alike, index_alike, the_card_alike}
use Rattle.fz_laws.proofs.Loose.{by_kept, by_what, is_loose, no_parameter}

pub tight_axis : (i : ℕ) → is_loose (numbered_name (codes "ZNAXIS") i) ≡ false
unfolding numbered_name
tight_axis i = refl

pub tight_tile : (i : ℕ) → is_loose (numbered_name (codes "ZTILE") i) ≡ false
unfolding numbered_name
tight_tile i = refl

pub tight_value : (i : ℕ) → is_loose (numbered_name (codes "ZVAL") i) ≡ false
unfolding numbered_name
tight_value i = refl

module _ (laws : NumberedNameLaws) (cs ds : List (List ℕ)) (are : AreAlike cs ds) where
  pub word_same : (word : List ℕ) → is_loose (padded word) ≡ false → word_in word ds ≡ word_in word cs
  word_same word tight = the_card_alike (padded word) tight cs ds are

  pub axis_same : (i : ℕ) → numbered_in (codes "ZNAXIS") i ds ≡ numbered_in (codes "ZNAXIS") i cs
  axis_same i = the_card_alike (numbered_name (codes "ZNAXIS") i) (tight_axis i) cs ds are

  pub tile_same : (i : ℕ) → numbered_in (codes "ZTILE") i ds ≡ numbered_in (codes "ZTILE") i cs
  tile_same i = the_card_alike (numbered_name (codes "ZTILE") i) (tight_tile i) cs ds are

  pub value_same : (i : ℕ) → numbered_in (codes "ZVAL") i ds ≡ numbered_in (codes "ZVAL") i cs
  value_same i = the_card_alike (numbered_name (codes "ZVAL") i) (tight_value i) cs ds are

  pub count_same : axis_count ds ≡ axis_count cs
  count_same = λ j. size_in (integer_of (word_same (codes "ZNAXIS") refl j))

  pub axes_same : said_axes ds ≡ said_axes cs
  axes_same = λ j. map (λ i. size_of (axis_same i j)) (range_with_len 1 (count_same j))

  along_same : (i : ℕ) → tile_along ds i ≡ tile_along cs i
  along_same i = λ j.
      if is_some (index_alike (numbered_name (codes "ZTILE") i) cs ds are j) then min (size_of (tile_same i j)) (size_of (axis_same i j))
      else default_tile i (size_of (axis_same i j))

  pub tiles_same : said_tile ds ≡ said_tile cs
  tiles_same = λ j. map (λ i. along_same i j) (range_with_len 1 (count_same j))

  pub codec_same : said_codec ds ≡ said_codec cs
  codec_same = λ j. text_of (word_same (codes "ZCMPTYPE") refl j)

  pub number_same : (text : List ℕ) → parameter_number text ds ≡ parameter_number text cs
  number_same text = ap least (filter_map_alike (parameter_in text) (no_parameter laws text) cs ds are)

  of_number : (other : ℕ) (found : Option ℕ) → value_of_number ds other found ≡ value_of_number cs other found
  of_number other None = refl
  of_number other (Some i) = ap size_of (value_same i)

  parameter_same : (text : List ℕ) (other : ℕ) → parameter text other ds ≡ parameter text other cs
  parameter_same text other = ap (value_of_number ds other) (number_same text) ∙ of_number other (parameter_number text cs)

  named_same : codec_named (said_codec ds) ds ≡ codec_named (said_codec cs) cs
  named_same = λ j.
      if is_rice_name (codec_same j) then Rice (parameter_same (codes "BLOCKSIZE") 32 j) (parameter_same (codes "BYTEPIX") 4 j)
      else (if is_plio_name (codec_same j) then Plio else Plain)

  pub bitpix_same : said_bitpix ds ≡ said_bitpix cs
  bitpix_same = λ j. unwrap_or (integer_of (word_same (codes "ZBITPIX") refl j)) (pos 0)

  pub primary_same : was_primary ds ≡ was_primary cs
  primary_same = λ j. is_some (card_alike (padded (codes "ZSIMPLE")) refl cs ds are j)

  pub plan_same : plan_of_cards ds ≡ plan_of_cards cs
  unfolding plan_of_cards
  plan_same = λ j. record {
    codec = named_same j;
    bitpix = bitpix_same j;
    shape = nine_axes (axes_same j);
    tile = nine_axes (tiles_same j);
    primary = primary_same j;
    wide = is_wide (bitpix_same j) (axes_same j);
  }

  -- ---- the cards of the image

  leading_same : leading_card ds ≡ leading_card cs
  leading_same = λ j. or_card (word_card (codes "XTENSION") (codes "IMAGE")) (map plain_card (option_to_list (find_alike says_what by_what cs ds are j)))

  restored_same : (word : List ℕ) → is_loose (padded word) ≡ false → restored_word word ds ≡ restored_word word cs
  restored_same word tight = λ j. map plain_card (option_to_list (card_alike (padded word) tight cs ds are j))

  sizes_same : size_cards ds ≡ size_cards cs
  sizes_same = λ j. restored_same (codes "ZBITPIX") refl j ++ restored_same (codes "ZNAXIS") refl j

  axis_cards_same : (i : ℕ) → axis_card ds i ≡ axis_card cs i
  axis_cards_same i = λ j. map plain_card (option_to_list (card_alike (numbered_name (codes "ZNAXIS") i) (tight_axis i) cs ds are j))

  counts_same : count_cards ds ≡ count_cards cs
  counts_same = λ j.
      if primary_same j then []
      else or_card (number_card (codes "PCOUNT") 0) (restored_same (codes "ZPCOUNT") refl j)
      ++ or_card (number_card (codes "GCOUNT") 1) (restored_same (codes "ZGCOUNT") refl j)

  others_same : other_cards ds ≡ other_cards cs
  others_same =
      (λ j. map plain_card (filter (is_kept (primary_same j) (count_same j)) ds))
      ∙ ap (map plain_card) (filter_alike (is_kept (was_primary cs) (axis_count cs)) (by_kept (was_primary cs) (axis_count cs)) cs ds are)

  pub plain_same : plain_header ds ≡ plain_header cs
  unfolding plain_header
  plain_same = λ j.
      leading_same j
      ++ (sizes_same j
      ++ (flat_map (λ i. axis_cards_same i j) (range_with_len 1 (count_same j))
      ++ (counts_same j
      ++ others_same j)))
