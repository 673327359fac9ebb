-- What a slot is given of a tile that it is to decode (FITS 4.0, section 10.1.3).
use Rattle.std.specs.Prelude.{ℕ}
use Rattle.fz_table.specs.declared.record.Record.{Record}
use Rattle.fz_head.specs.declared.plan.Plan.{Plan}
use Rattle.fz_files.specs.Restored.{pixels_of, place_in}
use Rattle.fz_pool.specs.declared.slot.Job.{Job}

-- the job of a slot that has the record of tile t
abbrev pub decoding_job : Plan → ℕ → Record → Job
decoding_job p t found = record {
  tile = t;
  pixels = pixels_of p t;
  codec = p.codec;
  bitpix = p.bitpix;
  place = place_in found.column;
  len = found.read;
  total = found.total;
}
