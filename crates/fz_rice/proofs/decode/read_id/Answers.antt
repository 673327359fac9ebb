use Rattle.std.proofs.Common.{◌≡◌, ℕ, ◌^◌, ◌<◌, ◌++◌, subst, arith}
use Rattle.fz_bits.specs.Bits.{number_bits}
use Rattle.fz_bits.specs.Reader.{left, place}
use Rattle.fz_rice.specs.Code.{row}
use Rattle.fz_rice.proofs.BlockReaders.{raw_fits}
use Rattle.fz_rice.proofs.LeafLemmas.{count_kept, id_read, id_high}
use Rattle.fz_rice.proofs.decode.read_id.Goals as goal

pub returns-in-Ok-clause-id : goal.returns-in-Ok-clause-id
returns-in-Ok-clause-id g c =
    let n = (row g.row.W).id_len in
    let bits = left c.args.reader.now in
    let rest = left c.get.new.self in
    id_read c.number_law.ensures n (row g.row.W).raw_id c.in-Ok.id bits rest (subst (λ (k : ℕ). bits ≡ number_bits k c.in-Ok.id ++ rest) c.id_len.ensures c.in-Ok.ensures.bits) (raw_fits g.row.W c.requires.width) (omega (arith, c.raw_id.ensures, c.if-id-raw_id.true))

pub returns-in-Ok-clause-count : goal.returns-in-Ok-clause-count
returns-in-Ok-clause-count g c =
    count_kept (place c.get.new.self) (place c.args.reader.now) c.id_len.result (number_bits c.id_len.result c.in-Ok.id) (left c.args.reader.now) (left c.get.new.self) c.in-Ok.ensures.bits (c.number_law.ensures.many c.id_len.result c.in-Ok.id) c.in-Ok.ensures.place

pub returns-in-Ok-2-clause-id : goal.returns-in-Ok-2-clause-id
returns-in-Ok-2-clause-id g c =
    let n = (row g.row.W).id_len in
    let bits = left c.args.reader.now in
    let rest = left c.get.new.self in
    let id = c.in-Ok.id in
    id_high c.number_law.ensures n (row g.row.W).raw_id id bits rest (subst (λ (k : ℕ). bits ≡ number_bits k id ++ rest) c.id_len.ensures c.in-Ok.ensures.bits) (subst (λ (k : ℕ). id < 2 ^ k) c.id_len.ensures c.in-Ok.ensures.fits) (omega (arith, c.raw_id.ensures, c.if-id-raw_id.false))
