-- HDU by HDU, and tile by tile.
use Rattle.fz_job.proofs.Hdus.{data_read, header_read, known_touched, tiles_read, unpack_data, unpack_rows, verify_data, verify_rows}
use Rattle.fz_job.proofs.again_laws.hdus_law.Goals as goal

pub returns : goal.returns
returns c = record {
  header = λ job file before after h old new reads. header_read c.ranges_law.ensures.within job file before after h old new reads;
  payload = λ job file before after h old new reads. data_read job file before after h old new reads;
  tiles = λ file h image tiles old new said are reads. tiles_read file h image tiles old new said are reads;
  unpacked = record {
    rows = λ file h old new is reads. unpack_rows file h old new is reads;
    rest = λ file h old new is reads. unpack_data c.ranges_law.ensures.within file h old new is reads;
  };
  verified = record {
    rows = λ file h old new is reads. verify_rows file h old new is reads;
    rest = λ file h old new reads. verify_data c.ranges_law.ensures.within file h old new reads;
  };
  known = λ job checks file s known. known_touched job (c.headers_law.ensures.seen job checks) file s known;
}
