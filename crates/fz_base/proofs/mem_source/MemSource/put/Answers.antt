use Rattle.std.proofs.Common.{ℕ, ◌≡◌, ◌^◌, ◌≤◌, ◌<◌, All, length, vec_len, subst, sym, ap, arith, rules}
use Rattle.std.proofs.lemmas.List.Elements.{All-from_get_or}
use Rattle.fz_base.specs.Sink.{overwrite}
use Rattle.fz_base.proofs.Amending.{write_below, write_octets}
use Rattle.fz_base.proofs.mem_source.MemSource.put.Goals as goal

pub invariant_of-self-2-clause-short : goal.invariant_of-self-2-clause-short
invariant_of-self-2-clause-short c =
    let n : ℕ = c.requires.within.0 in
    let whole : n ≡ length c.args.self.now.bytes.items = c.args.self.now.whole n c.requires.within.1 in
    let near : n ≤ 2 ^ 62 = c.args.self.now.near n c.requires.within.1 in
    let below : length (overwrite c.args.at c.args.bytes.now c.args.self.now.bytes.items) ≤ 2 ^ 62 = write_below c.args.at (2 ^ 62) c.args.bytes.now c.args.self.now.bytes.items (omega (arith, whole, near)) c.requires.near in
    let count : vec_len c.put.new.contents ≡ length c.put.new.contents.items = search rules in
    let is : length c.put.new.contents.items ≡ length (overwrite c.args.at c.args.bytes.now c.args.self.now.bytes.items) = ap length c.in_ok-put.ensures.ok in
    omega (arith, below, count, is)

pub invariant_of-self-2-clause-octets : goal.invariant_of-self-2-clause-octets
invariant_of-self-2-clause-octets c =
    let bytes : All (λ byte. byte < 256) c.args.bytes.now = All-from_get_or (λ byte. byte < 256) c.args.bytes.now 0 (λ i low. omega (arith, c.type_inv.bytes i)) in
    let is : c.put.new.contents.items ≡ overwrite c.args.at c.args.bytes.now c.args.self.now.bytes.items = c.in_ok-put.ensures.ok in
    subst (All (λ byte. byte < 256)) (sym is) (write_octets c.args.at c.args.bytes.now c.args.self.now.bytes.items bytes c.args.self.now.octets)
