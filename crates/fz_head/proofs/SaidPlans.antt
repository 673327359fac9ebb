-- What the table and the cards of a packed header say of each other, and that tiles of the plan can be read.
use Rattle.std.proofs.Common.{◌≡◌, ℕ, true, List, ap, sym, ◌∙◌, inl, inr}
use Rattle.std.specs.Prelude.{ℤ, pos, Option, Some, None, unwrap_or}
use Rattle.std.specs.Ordering.{int_eq}
use Rattle.std.proofs.lemmas.Bool.{or_cases}
use Rattle.std.proofs.lemmas.Bool.Decides.{Decides-int_eq}
use Rattle.fz_card.specs.Reading.{integer_of}
use Rattle.fz_block.specs.Facts.{nine_axes}
use Rattle.fz_block.specs.Hdus.{cards_of}
use Rattle.fz_grid.specs.Region.{lengths_of}
use Rattle.fz_table.specs.Columns.{first_named, integer_at}
use Rattle.fz_tile.specs.Pixels.{IsBitpix}
use Rattle.fz_head.specs.CardLists.{the_card}
use Rattle.fz_head.specs.PackedChecks.{is_integer_size}
use Rattle.fz_head.specs.declared.plan.Plan.{Plan}
use Rattle.fz_head.specs.PlainHeader.{was_primary}
use Rattle.fz_head.specs.Planned.{is_wide}
use Rattle.fz_head.specs.PackedPlan.{codec_named, plan_of_cards, said_axes, said_bitpix, said_codec, said_tile}
use Rattle.fz_head.proofs.PlannedTiles.{lengths-nine_axes}
use Rattle.fz_head.proofs.SaidCards.{integer-nothing, said-card, said-none}

-- the integer that the first card of a name says
pub said-integer : (header name : List ℕ) (found : Option ℕ) → found ≡ first_named name header → integer_at header found ≡ integer_of (the_card name (cards_of header))
said-integer header name None e = sym (ap integer_of (said-none header name None e) ∙ integer-nothing)
said-integer header name (Some i) e = ap integer_of (sym (said-card header name (Some i) e))

-- the bits of a pixel are those of an integer
pub is-bitpix : (v : Option ℤ) → is_integer_size v ≡ true → IsBitpix (unwrap_or v (pos 0))
is-bitpix None e = cc
is-bitpix (Some v) e = elim (or_cases (int_eq v (pos 8)) _ e) [
  | inl byte ↦ inl ((Decides-int_eq v (pos 8)).0 byte)
  | inr more ↦ elim (or_cases (int_eq v (pos 16)) _ more) [
    | inl short ↦ inr (inl ((Decides-int_eq v (pos 16)).0 short))
    | inr most ↦ elim (or_cases (int_eq v (pos 32)) (int_eq v (pos 64)) most) [
      | inl word ↦ inr (inr (inl ((Decides-int_eq v (pos 32)).0 word)))
      | inr long ↦ inr (inr (inr ((Decides-int_eq v (pos 64)).0 long)))
    ]
  ]
]

-- the plan, part by part
pub same-plan : (cards : List (List ℕ)) (p : Plan) → p.codec ≡ codec_named (said_codec cards) cards → p.bitpix ≡ said_bitpix cards → p.shape ≡ nine_axes (said_axes cards) → p.tile ≡ nine_axes (said_tile cards) →
    p.primary ≡ was_primary cards → p.wide ≡ is_wide p.bitpix (lengths_of p.shape) → p ≡ plan_of_cards cards
unfolding plan_of_cards
same-plan cards p codec bitpix shape tile primary wide =
    let lengths : lengths_of p.shape ≡ said_axes cards = ap lengths_of shape ∙ lengths-nine_axes (said_axes cards) in
    let wider : p.wide ≡ is_wide (said_bitpix cards) (said_axes cards) = wide ∙ (ap (λ b. is_wide b (lengths_of p.shape)) bitpix ∙ ap (is_wide (said_bitpix cards)) lengths) in
    λ i. record { codec = codec i; bitpix = bitpix i; shape = shape i; tile = tile i; primary = primary i; wide = wider i }
