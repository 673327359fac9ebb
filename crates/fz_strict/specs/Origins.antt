-- The file that a packed file stands for, as far as it was compared (FITS 4.0, sections 3.1, 4.4.1 and 10.1.2).
use Rattle.std.specs.Prelude.{ℕ, ◌≡◌, ◌+◌, ◌*◌, ◌^◌, ◌≤◌, ◌==◌, ◌||◌, nat_lt, Bool, true, codes}
use Rattle.std.specs.Prelude.{List, length, Option, Some, None, Result, Ok, Err, if◌then◌else◌}
use Rattle.fz_base.specs.declared.fault.Fault.{Fault}
use Rattle.fz_block.specs.Cards.{card_at}
use Rattle.fz_block.specs.Checks.{header_of, is_set}
use Rattle.fz_block.specs.Hdus.{header_bytes}
use Rattle.fz_block.specs.declared.header.Header.{Header}
use Rattle.fz_checks.specs.JobChecks.{plan_to_pack}
use Rattle.fz_head.specs.PlainHeader.{plain_header}
use Rattle.fz_head.specs.declared.options.PackOptions.{PackOptions}
use Rattle.fz_head.specs.declared.plan.Plan.{Plan}
use Rattle.fz_strict.specs.declared.origin.Origin.{Origin}

-- no HDU
abbrev pub no_origin : Origin
no_origin = record { hdus = 0; end = 0 }

-- with one HDU more of so many bytes, if a file that is packed can have it: it has at most 65,535 HDUs, and ends at byte 2^62 at most
abbrev pub with_hdu : Origin → ℕ → Option Origin
with_hdu o n = if (o.hdus == 65535) || nat_lt (2 ^ 62) (o.end + n) then None else Some (record { hdus = o.hdus + 1; end = o.end + n })

-- `pack` copies an HDU: no check refuses it, and it is no image that can be packed
abbrev pub if_copied : Result (Option Plan) Fault → Option Origin → Option Origin
if_copied (Ok None) o = o
if_copied (Ok (Some p)) o = None
if_copied (Err x) o = None

-- with an HDU more that is copied, whose header is this
abbrev pub with_copied : PackOptions → Origin → Header → List ℕ → ℕ → Option Origin
with_copied options o h header n = if_copied (plan_to_pack options h header) (with_hdu o n)

-- the bytes of the header of the image that a packed header with these cards stands for
abbrev pub restored_bytes : List (List ℕ) → List ℕ
restored_bytes cards = header_bytes (plain_header cards)

-- The facts of that header as the next one, if an image with it can follow and `pack` packs it by this plan
pub record IsRestored (options : PackOptions) (o : Origin) (cards : List (List ℕ)) (p : Plan) (h : Header) : Type 0 where
  pub within : o.end + length (restored_bytes cards) ≤ 2 ^ 62
  pub found : header_of o.hdus o.end (2 ^ 62) (restored_bytes cards) ≡ Ok h
  pub plan : plan_to_pack options h (restored_bytes cards) ≡ Ok (Some p)
  pub simple : o.hdus ≡ 0 → is_set (codes "SIMPLE") (card_at (restored_bytes cards) 0) ≡ true

-- as many HDUs as a file that is packed can have
pub record IsOrigin (o : Origin) : Type 0 where
  pub hdus : o.hdus ≤ 65535
  pub end : o.end ≤ 2 ^ 62
