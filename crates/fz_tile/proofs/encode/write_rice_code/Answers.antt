-- The bytes written are those of the code.
use Rattle.std.proofs.Common.{ℕ, ◌<◌, length, subst, sym, refl, arith}
use Rattle.fz_tile.proofs.CodeLemmas.{rice_written, rice_full}
use Rattle.fz_tile.proofs.encode.write_rice_code.Goals as goal

pub returns-in-Ok : goal.returns-in-Ok
returns-in-Ok g c =
    rice_written _ c.in-Ok.len c.encode.new.out c.in-Ok.ensures.within c.in-Ok.ensures.code

pub returns-in-Err : goal.returns-in-Err
returns-in-Err g c = λ bytes is.
    subst (λ (n : ℕ). n < length bytes) (sym c.encode.auto.out)
    (rice_full _ bytes (length c.args.out.now) (c.in-Err.ensures.full.0 refl) is)
