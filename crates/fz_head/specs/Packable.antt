-- Which HDUs are images that can be packed, and which are tables that a packed image is in (FITS 4.0, sections 7.1 and 10.1.1).
use Rattle.std.specs.Prelude.{ℕ, pos, ◌==◌, ◌&&◌, ◌||◌, nat_le, Bool, true, false, ℤ, List, codes}
use Rattle.std.specs.List.{list_all, list_any}
use Rattle.std.specs.Ordering.{int_eq}
use Rattle.fz_block.specs.Checks.{is_set}
use Rattle.fz_block.specs.Hdus.{cards_of}
use Rattle.fz_block.specs.declared.header.Header.{Header}
use Rattle.fz_block.specs.declared.header.Sort.{Sort}
use Rattle.fz_block.specs.declared.header.Sort.TheVariants.{Primary, Image, BinTable, Other}
use Rattle.fz_grid.specs.Region.{lengths_of}

-- the HDU is the primary
abbrev pub is_primary : Sort → Bool
is_primary Primary = true
is_primary Image = false
is_primary BinTable = false
is_primary Other = false

-- the HDU holds an image
abbrev pub is_image : Sort → Bool
is_image Primary = true
is_image Image = true
is_image BinTable = false
is_image Other = false

-- the HDU is a binary table
abbrev pub is_table : Sort → Bool
is_table Primary = false
is_table Image = false
is_table BinTable = true
is_table Other = false

-- pixels are integers of 8, 16, 32 or 64 bits
abbrev pub has_integers : ℤ → Bool
has_integers bitpix = int_eq bitpix (pos 8) || (int_eq bitpix (pos 16) || (int_eq bitpix (pos 32) || int_eq bitpix (pos 64)))

-- An image of integers that has a pixel, with nothing beside its array. A primary has PCOUNT 0 and GCOUNT 1.
unfoldable pub is_packable : Header → Bool
is_packable h =
    is_image h.sort
    && (nat_le 1 h.axes.n
    && (list_all (nat_le 1) (lengths_of h.axes)
    && (has_integers h.bitpix
    && (h.pcount == 0 && h.gcount == 1))))

-- a binary table with these bytes as its header, of which a card says that it holds a packed image
unfoldable pub is_packed : List ℕ → Header → Bool
is_packed header h = is_table h.sort && list_any (is_set (codes "ZIMAGE")) (cards_of header)
