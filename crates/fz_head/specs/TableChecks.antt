-- The checks of the cards of a binary table, which come before all that its columns say (FITS 4.0, sections 4.4, 10.1.1 and 10.3.1).
use Rattle.std.specs.Prelude.{◌&&◌, ℕ, Bool, List, [], ◌∷◌, codes, is_some, unwrap_or}
use Rattle.std.specs.List.{position}
use Rattle.fz_base.specs.Refusal.{refusal}
use Rattle.fz_base.specs.declared.fault.Fault.{Fault}
use Rattle.fz_base.specs.declared.fault.Place.TheVariants.{Card}
use Rattle.fz_base.specs.declared.kind.Kind.TheVariants.{CompressedTable, Duplicate}
use Rattle.fz_block.specs.Checks.{is_set, refused_at}
use Rattle.fz_block.specs.Hdus.{cards_of}
use Rattle.fz_block.specs.declared.header.Header.{Header}
use Rattle.fz_head.specs.Packable.{is_packed}
use Rattle.fz_head.specs.Repeats.{first_repeat, table_names, counted_name}

-- the table is not a compressed one
abbrev pub compressed_table : Header → List ℕ → Bool × Fault
compressed_table h header = refused_at h.hdu (position (is_set (codes "ZTABLE")) (cards_of header)) CompressedTable

-- no name that may occur only once occurs twice in a packed header
abbrev pub repeated_table_names : Header → List ℕ → Bool × Fault
repeated_table_names h header = (
  is_packed header h && is_some (first_repeat table_names counted_name (cards_of header)),
  refusal h.hdu (Card (unwrap_or (first_repeat table_names counted_name (cards_of header)) 0)) Duplicate,
)

-- the checks of the cards of a binary table, in their order
abbrev pub table_card_checks : Header → List ℕ → List (Bool × Fault)
table_card_checks h header = compressed_table h header ∷ repeated_table_names h header ∷ []
