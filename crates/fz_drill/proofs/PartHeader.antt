-- The header of the part that is cut from the image of `drill`.
use Rattle.std.specs.Fmt.{digits}
use Rattle.std.proofs.Common.{◌≡◌, ℕ, ◌+◌, ◌-◌, ◌/◌, ◌≤◌, [], refl, ap, ◌∙◌, arith}
use Rattle.fz_card.specs.Made.{int_card_bytes, logical_card_bytes, numbered_name, text_card_bytes}
use Rattle.fz_card.specs.Naming.{is_dropped, number_behind, packed_name, plain_name}
use Rattle.fz_card.specs.Reading.{integer_of, text_of}
use Rattle.fz_card.specs.Tables.{own_names, packed_names, renamings}
use Rattle.fz_head.specs.PackedHeader.{packed_with}
use Rattle.fz_head.specs.PlainHeader.{cutout_header}
use Rattle.fz_head.specs.Planned.{pack_plan_of}
use Rattle.fz_head.specs.declared.options.CodecWord.{CodecWord}
use Rattle.fz_head.specs.declared.options.CodecWord.TheVariants as word
use Rattle.fz_head.specs.declared.totals.Totals.{Totals}
use Rattle.fz_files.specs.CutoutBytes.{cutout_cards}
use Rattle.fz_files.specs.Drill.{drill_options, drill_sieve}
use Rattle.fz_drill.specs.Files.{image_cards}
use Rattle.fz_drill.proofs.PlainHeader.{image_facts}

rice_cards : (rows : ℕ) (s : Totals) → cutout_cards (drill_sieve rows) (packed_with (image_cards 256 rows) (pack_plan_of (drill_options word.Rice) (image_facts 256 rows)) s []) ≡ image_cards 32 ((rows - 1 - 0) / 1 + 1)
unfolding cutout_header pack_plan_of is_dropped number_behind packed_name plain_name integer_of text_of own_names packed_names renamings int_card_bytes logical_card_bytes text_card_bytes numbered_name digits
rice_cards rows s = refl

plio_cards : (rows : ℕ) (s : Totals) → cutout_cards (drill_sieve rows) (packed_with (image_cards 256 rows) (pack_plan_of (drill_options word.Plio) (image_facts 256 rows)) s []) ≡ image_cards 32 ((rows - 1 - 0) / 1 + 1)
unfolding cutout_header pack_plan_of is_dropped number_behind packed_name plain_name integer_of text_of own_names packed_names renamings int_card_bytes logical_card_bytes text_card_bytes numbered_name digits
plio_cards rows s = refl

none_cards : (rows : ℕ) (s : Totals) → cutout_cards (drill_sieve rows) (packed_with (image_cards 256 rows) (pack_plan_of (drill_options word.None) (image_facts 256 rows)) s []) ≡ image_cards 32 ((rows - 1 - 0) / 1 + 1)
unfolding cutout_header pack_plan_of is_dropped number_behind packed_name plain_name integer_of text_of own_names packed_names renamings int_card_bytes logical_card_bytes text_card_bytes numbered_name digits
none_cards rows s = refl

pub cut_cards : (codec : CodecWord) (rows : ℕ) (s : Totals) → 1 ≤ rows → cutout_cards (drill_sieve rows) (packed_with (image_cards 256 rows) (pack_plan_of (drill_options codec) (image_facts 256 rows)) s []) ≡ image_cards 32 rows
cut_cards codec rows s some = by_codec codec ∙ ap (image_cards 32) rows_again
  where
    rows_again : (rows - 1 - 0) / 1 + 1 ≡ rows
    rows_again = omega (arith, some)

    by_codec : (w : CodecWord) → cutout_cards (drill_sieve rows) (packed_with (image_cards 256 rows) (pack_plan_of (drill_options w) (image_facts 256 rows)) s []) ≡ image_cards 32 ((rows - 1 - 0) / 1 + 1)
    by_codec word.Rice = rice_cards rows s
    by_codec word.Plio = plio_cards rows s
    by_codec word.None = none_cards rows s
