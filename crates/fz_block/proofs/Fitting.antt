-- A header that a buffer has room for: what is said of it, and that it takes nothing.
use Rattle.std.proofs.Common.{◌≡◌, ℕ, ◌+◌, ◌*◌, ◌≤◌, max, List, ◌++◌, length, take, drop, Option, Some, None, IfSome, Result, Ok, sym, ◌∙◌, ap, arith}
use Rattle.std.proofs.lemmas.List.{length-take-le, take-append-le, take_all}
use Rattle.fz_base.specs.Source.{HoldsLength}
use Rattle.fz_base.specs.Takings.{highest}
use Rattle.fz_base.specs.declared.fault.Fault.{Fault}
use Rattle.fz_block.specs.Again.{HasBlocks}
use Rattle.fz_block.specs.Checks.{header_blocks_of, header_of, hdu_at}
use Rattle.fz_block.specs.Takings.{header_taking}
use Rattle.fz_block.specs.declared.header.Header.{Header}
use Rattle.fz_block.proofs.Nexts.{at_header}

-- a buffer that was lent whole comes back as it was written
pub given_back : (old new : List ℕ) → length new ≡ length old → take (length old) (new ++ drop (length new) old) ≡ new
given_back old new long = take-append-le (length old) new (drop (length new) old) (omega (arith, long)) ∙ take_all (length old) new (omega (arith, long))

-- the header whose blocks were kept is that of the file
pub kept_is : (held : Option (List ℕ)) (len k start n : ℕ) (buf : List ℕ) (answer : Result Header Fault) → HoldsLength held len → IfSome held (λ g. header_blocks_of k start g ≡ Ok n) →
    2880 * n ≤ length buf → HasBlocks held start n buf → answer ≡ header_of k start len (take (2880 * n) buf) → IfSome held (λ g. hdu_at k start g ≡ answer)
kept_is None len k start n buf answer told blocks fits kept is = tt
kept_is (Some g) len k start n buf answer told blocks fits kept is =
    at_header g (take (2880 * n) buf) len k start n answer told blocks (length-take-le (2880 * n) buf fits) (kept fits) (sym is)

-- its taking would not pass what was live already
pub peak_kept : (held : Option (List ℕ)) (peak live k start n : ℕ) → IfSome held (λ g. header_blocks_of k start g ≡ Ok n) → live + 2880 * n ≤ peak →
    IfSome held (λ g. peak ≡ max peak (highest (header_taking live (header_blocks_of k start g))))
peak_kept None peak live k start n blocks low = tt
peak_kept (Some g) peak live k start n blocks low =
    let most : highest (header_taking live (header_blocks_of k start g)) ≡ max (live + 2880 * n) 0 = ap (λ b. highest (header_taking live b)) blocks in
    omega (arith, most, low)
