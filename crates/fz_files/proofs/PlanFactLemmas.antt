-- The plans and the tiles that are written out, by the definitions.
use Rattle.std.proofs.Common.{◌≡◌, true, false, pos, refl}
use Rattle.std.specs.Fmt.{digits}
use Rattle.fz_bits.specs.Bits.{number_bits, bit, bits_value, bytes_of}
use Rattle.fz_card.specs.Made.{numbered_name}
use Rattle.fz_card.specs.Naming.{number_behind}
use Rattle.fz_card.specs.Quoted.{quoted}
use Rattle.fz_card.specs.Reading.{integer_of, text_of}
use Rattle.fz_tile.specs.TileCode.{tile_code}
use Rattle.fz_tile.specs.declared.codec.Codec.TheVariants as codec
use Rattle.fz_head.specs.PackedPlan.{plan_of_cards}
use Rattle.fz_head.specs.Planned.{is_wide}
use Rattle.fz_files.specs.PlanFacts.{far_code, far_pixels, narrow_axis, near_code, near_pixels, parameter_cards, parameter_plan, wide_axis}

pub parameters_are : plan_of_cards parameter_cards ≡ parameter_plan
unfolding plan_of_cards integer_of text_of quoted number_behind numbered_name digits
parameters_are = refl

pub wide_is : is_wide (pos 64) wide_axis ≡ true
wide_is = refl

pub narrow_is : is_wide (pos 64) narrow_axis ≡ false
narrow_is = refl

pub near_is : tile_code (codec.Rice 32 2) 16 near_pixels ≡ near_code
unfolding number_bits bit bits_value bytes_of
near_is = refl

pub far_is : tile_code (codec.Rice 32 2) 16 far_pixels ≡ far_code
unfolding number_bits bit bits_value bytes_of
far_is = refl
