-- The facts of an HDU and of a fault, in numbers.
use Rattle.std.specs.Prelude.{ℕ, ◌*◌, Bool}
use Rattle.fz_base.specs.Kind.{kind_number}
use Rattle.fz_base.specs.declared.fault.Fault.{Fault}
use Rattle.fz_base.specs.declared.fault.Place.{Place}
use Rattle.fz_base.specs.declared.fault.Place.TheVariants.{Byte, Card, Row}
use Rattle.fz_block.specs.Header.{data_start_of, next_start_of}
use Rattle.fz_block.specs.declared.header.Header.{Header}
use Rattle.fz_block.specs.declared.header.Sort.{Sort}
use Rattle.fz_block.specs.declared.header.Sort.TheVariants.{Primary, Image, BinTable, Other}
use Rattle.fz_flat.specs.declared.hdu.FzFault.{FzFault}
use Rattle.fz_flat.specs.declared.hdu.FzHdu.{FzHdu}
use Rattle.fz_flat.specs.Plans.{flag_number}

-- what an HDU is
abbrev pub sort_number : Sort → ℕ
sort_number Primary = 0
sort_number Image = 1
sort_number BinTable = 2
sort_number Other = 3

-- the facts of an HDU; the table of a packed image is one that a card says to be that
abbrev pub flat_hdu : Header → Bool → FzHdu
flat_hdu h packed = record {
  data_at = data_start_of h;
  data_len = h.data_len;
  next_at = next_start_of h;
  header_len = 2880 * h.blocks;
  sort = sort_number h.sort;
  packed = flag_number packed;
  bitpix = h.bitpix;
  axes = h.axes.n;
  lengths = h.axes.len;
}

-- where a fault is: a byte of the file, a card of the header or a row of the table
abbrev pub place_sort : Place → ℕ
place_sort (Byte byte) = 0
place_sort (Card card) = 1
place_sort (Row row) = 2

abbrev pub place_number : Place → ℕ
place_number (Byte byte) = byte
place_number (Card card) = card
place_number (Row row) = row

abbrev pub flat_fault : Fault → FzFault
flat_fault x = record { at = place_number x.at; at_sort = place_sort x.at; hdu = x.hdu; kind = kind_number x.kind }
