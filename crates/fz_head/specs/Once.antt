-- The two sorts of headers in which some names occur once: for functions inside the crate.
use Rattle.std.specs.Prelude.{ℕ, List}
use Rattle.fz_card.specs.Tables.{Names}
use Rattle.fz_head.specs.declared.repeats.Once.{Once}
use Rattle.fz_head.specs.declared.repeats.Once.TheVariants.{Image, Table}
use Rattle.fz_head.specs.Repeats.{image_names, table_names, itself, counted_name}

-- the names that occur once
abbrev pub once_names : Once → List Names
once_names Image = image_names
once_names Table = table_names

-- the name as which a name counts
abbrev pub name_in : Once → List ℕ → List ℕ
name_in Image = itself
name_in Table = counted_name
