use Rattle.std.proofs.Common.{◌≡◌, ℕ, ◌-◌, ◌*◌, ◌^◌, ◌<◌, ◌≤◌, Bool, List, [], ◌++◌, length, sym, subst, arith}
use Rattle.std.proofs.lemmas.Nat.{shl_whole}
use Rattle.std.proofs.lemmas.List.{nil_from_length}
use Rattle.fz_bits.specs.Bits.{number_bits, bits_value}
use Rattle.fz_bits.specs.Reader.{left}
use Rattle.fz_rice.specs.Code.{row}
use Rattle.fz_rice.proofs.BlockReaders.{id_at-cut, id_at-cut_high, id_len_le}
use Rattle.fz_rice.proofs.LeafLemmas.{cut_value}
use Rattle.fz_rice.proofs.decode.cut_id.Goals as goal

pub returns-then-front-missing : goal.returns-then-front-missing
returns-then-front-missing g c =
    let bits = left c.args.reader.now in
    let rest = left c.get.new.self in
    let n = (row g.row.W).id_len in
    let raw = (row g.row.W).raw_id in
    let missing = c.loop-missing.missing in
    let front = c.in-Ok.front in
    let size : c.id_len.result ≡ n = c.id_len.ensures in
    let few = id_len_le g.row.W c.requires.width in
    let fits : front < 2 ^ (n - missing) = subst (λ (k : ℕ). front < 2 ^ (k - missing)) size c.in-Ok.ensures.fits in
    let is = cut_value c.number_law.ensures n missing front bits rest c.loop-missing.invariant (subst (λ (k : ℕ). bits ≡ number_bits (k - missing) front ++ rest) size c.in-Ok.ensures.bits) fits in
    let whole = shl_whole front (n - missing) missing 32 fits (omega arith) in
    let gone : n - length bits ≡ missing = omega (arith, is.0, c.loop-missing.invariant) in
    let high : raw < front * 2 ^ missing = omega (arith, whole, c.raw_id.ensures, c.if-front-missing.true) in
    id_at-cut_high n raw bits (omega (arith, c.loop-missing.invariant)) (subst (λ (k : ℕ). raw < bits_value bits * 2 ^ k) (sym gone) (subst (λ (k : ℕ). raw < k * 2 ^ missing) (sym is.1) high))

pub returns-in-Ok : goal.returns-in-Ok
returns-in-Ok g c =
    let bits = left c.args.reader.now in
    let rest = left c.get.new.self in
    let n = (row g.row.W).id_len in
    let raw = (row g.row.W).raw_id in
    let missing = c.loop-missing.missing in
    let front = c.in-Ok.front in
    let size : c.id_len.result ≡ n = c.id_len.ensures in
    let few = id_len_le g.row.W c.requires.width in
    let fits : front < 2 ^ (n - missing) = subst (λ (k : ℕ). front < 2 ^ (k - missing)) size c.in-Ok.ensures.fits in
    let is = cut_value c.number_law.ensures n missing front bits rest c.loop-missing.invariant (subst (λ (k : ℕ). bits ≡ number_bits (k - missing) front ++ rest) size c.in-Ok.ensures.bits) fits in
    let whole = shl_whole front (n - missing) missing 32 fits (omega arith) in
    let gone : n - length bits ≡ missing = omega (arith, is.0, c.loop-missing.invariant) in
    let low : front * 2 ^ missing ≤ raw = omega (arith, whole, c.raw_id.ensures, c.if-front-missing.false) in
    id_at-cut n raw bits (omega (arith, c.loop-missing.invariant)) (subst (λ (k : ℕ). bits_value bits * 2 ^ k ≤ raw) (sym gone) (subst (λ (k : ℕ). k * 2 ^ missing ≤ raw) (sym is.1) low))

pub returns : goal.returns
unfolding bits_value
returns g c =
    let bits = left c.args.reader.now in
    let n = (row g.row.W).id_len in
    let none : bits ≡ [] = nil_from_length bits (omega (arith, c.loop-missing.invariant, c.id_len-missing-end.ensures)) in
    id_at-cut n (row g.row.W).raw_id bits c.requires.cut (subst (λ (x : List Bool). bits_value x * 2 ^ (n - length x) ≤ (row g.row.W).raw_id) (sym none) (omega arith))
