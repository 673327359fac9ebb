-- How many bytes are live at most while the header of PATCH is read.
use Rattle.std.specs.Prelude.{IfSome}
use Rattle.std.proofs.Common.{◌≡◌, ℕ, ◌+◌, ◌*◌, ◌/◌, Bool, List, length, max, Option, Some, None, Result, Ok, sym, ap, ◌∙◌, subst, arith}
use Rattle.fz_base.specs.Refusal.{first_refusal}
use Rattle.fz_base.specs.Takings.{highest}
use Rattle.fz_base.specs.declared.fault.Fault.{Fault}
use Rattle.fz_block.specs.Checks.{hdu_at, header_blocks_of}
use Rattle.fz_block.specs.Facts.{IsHeaderOf}
use Rattle.fz_block.specs.Takings.{header_taking}
use Rattle.fz_block.specs.declared.header.Header.{Header}
use Rattle.fz_target.specs.Targets.{given_taking}
use Rattle.fz_target.proofs.Found.{one_taking}

-- as many blocks are found as the header has
abbrev pub FindsBlocks : Type 0
FindsBlocks = (k start : ℕ) (file : List ℕ) (h : Header) → hdu_at k start file ≡ Ok h → header_blocks_of k start file ≡ Ok h.blocks

header_long : (header : List ℕ) (h : Header) → IsHeaderOf header h → length header ≡ 2880 * h.blocks
header_long header h is =
    let whole = is.whole.blocks in
    let same : h.blocks ≡ length header / 2880 = ap (λ (x : Header). x.blocks) is.facts in
    omega (arith, whole, same)

-- the header was read, into a buffer of its length
pub reached_given : FindsBlocks → (held : Option (List ℕ)) (live old new : ℕ) (header : List ℕ) (h : Header) → IsHeaderOf header h → IfSome held (λ p. hdu_at 0 0 p ≡ Ok h) → new ≡ max old (live + length header) →
    IfSome held (λ p. new ≡ max old (highest (header_taking live (header_blocks_of 0 0 p))))
reached_given blocks None live old new header h is found peak = tt
reached_given blocks (Some p) live old new header h is found peak =
    let high : highest (header_taking live (header_blocks_of 0 0 p)) ≡ max (live + 2880 * h.blocks) 0 = ap (λ r. highest (header_taking live r)) (blocks 0 0 p h found) in
    omega (arith, high, peak, header_long header h is)

-- no check before PATCH refuses
pub reached_after : (held : Option (List ℕ)) (live old new : ℕ) (checks : List (Bool × Fault)) → first_refusal checks ≡ None → IfSome held (λ p. new ≡ max old (highest (header_taking live (header_blocks_of 0 0 p)))) →
    IfSome held (λ p. new ≡ max old (highest (given_taking live p (first_refusal checks))))
reached_after None live old new checks passes told = tt
reached_after (Some p) live old new checks passes told = subst (λ ts. new ≡ max old (highest ts)) (sym (one_taking live p checks passes)) told
