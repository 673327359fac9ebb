-- The plan of a packed image in numbers, there and back (FITS 4.0, sections 7.3.5 and 10.1).
use Rattle.std.specs.Prelude.{ℕ, ◌==◌, Bool, true, false, take, Option, Some, None, if◌then◌else◌}
use Rattle.fz_table.specs.declared.column.Column.{Column}
use Rattle.fz_tile.specs.declared.codec.Codec.{Codec}
use Rattle.fz_tile.specs.declared.codec.Codec.TheVariants.{Rice, Plio, Plain}
use Rattle.fz_head.specs.Planned.{is_wide}
use Rattle.fz_checks.specs.declared.job_checks.PackedImage.{PackedImage}
use Rattle.fz_flat.specs.declared.plan.FzArrays.{FzArrays}
use Rattle.fz_flat.specs.declared.plan.FzPlan.{FzPlan}

-- ---- the numbers of a codec, a flag and a column

abbrev pub codec_number : Codec → ℕ
codec_number (Rice block bytepix) = 1
codec_number Plio = 2
codec_number Plain = 0

abbrev pub codec_block : Codec → ℕ
codec_block (Rice block bytepix) = block
codec_block Plio = 0
codec_block Plain = 0

abbrev pub codec_bytepix : Codec → ℕ
codec_bytepix (Rice block bytepix) = bytepix
codec_bytepix Plio = 0
codec_bytepix Plain = 0

abbrev pub flag_number : Bool → ℕ
flag_number true = 1
flag_number false = 0

abbrev pub flat_column : Option Column → FzArrays
flat_column None = record { at = 0; wide = 0; unit = 0 }
flat_column (Some c) = record { at = c.at; wide = flag_number c.wide; unit = c.unit }

-- the plan of a packed image
abbrev pub flat_plan : PackedImage → FzPlan
flat_plan image = record {
  rows_at = image.table.rows_at;
  heap_at = image.table.heap_at;
  heap_len = image.table.heap_len;
  row_bytes = image.table.row_bytes;
  rows = image.table.rows;
  coded = flat_column image.table.coded;
  stored = flat_column image.table.stored;
  gzip = flat_column image.table.gzip;
  codec = codec_number image.plan.codec;
  block = codec_block image.plan.codec;
  bytepix = codec_bytepix image.plan.codec;
  bitpix = image.plan.bitpix;
  axes = image.plan.shape.n;
  lengths = image.plan.shape.len;
  tile = image.plan.tile.len;
  primary = flag_number image.plan.primary;
}

-- ---- and what they say

-- the codec of these numbers; one that has no codec is PLIO_1's
abbrev pub numbered_codec : ℕ → ℕ → ℕ → Codec
numbered_codec number block bytepix = if number == 0 then Plain else (if number == 1 then Rice block bytepix else Plio)

abbrev pub column_there : FzArrays → Option Column
column_there c = if c.unit == 0 then None else Some (record { at = c.at; wide = c.wide == 1; unit = c.unit })

-- the image that has a plan of these numbers, if there is one
abbrev pub image_there : FzPlan → PackedImage
image_there p = record {
  plan = record {
    codec = numbered_codec p.codec p.block p.bytepix;
    bitpix = p.bitpix;
    shape = record { n = p.axes; len = p.lengths };
    tile = record { n = p.axes; len = p.tile };
    primary = p.primary == 1;
    wide = is_wide p.bitpix (take p.axes p.lengths);
  };
  table = record {
    row_bytes = p.row_bytes;
    rows = p.rows;
    rows_at = p.rows_at;
    heap_at = p.heap_at;
    heap_len = p.heap_len;
    coded = column_there p.coded;
    stored = column_there p.stored;
    gzip = column_there p.gzip;
  };
}
