-- What the front of an HDU says: its bytes from the first one on, as many as a reader has. The file may go on after them (FITS 4.0,
-- sections 3.1, 3.3.1 and 10.1).
use Rattle.std.specs.Prelude.{ℕ, ◌≡◌, ◌⊎◌, ◌==◌, ◌+◌, ◌-◌, ◌*◌, ◌/◌, ◌^◌, ◌<◌, ◌≤◌, ◌&&◌, ◌||◌, not, min, nat_le, nat_lt}
use Rattle.std.specs.Prelude.{Bool, List, length, take, Result, Ok, Err, ⊤, if◌then◌else◌}
use Rattle.std.specs.Result.{result_map_both}
use Rattle.fz_base.specs.Kind.{kind_number}
use Rattle.fz_base.specs.declared.fault.Fault.{Fault}
use Rattle.fz_base.specs.declared.fault.Place.{Place}
use Rattle.fz_base.specs.declared.fault.Place.TheVariants.{Byte, Card, Row}
use Rattle.fz_block.specs.Checks.{header_blocks_of, header_of}
use Rattle.fz_block.specs.declared.header.Header.{Header}
use Rattle.fz_checks.specs.JobChecks.{image_to_amend}
use Rattle.fz_checks.specs.declared.job_checks.PackedImage.{PackedImage}
use Rattle.fz_head.specs.Packable.{is_packed}
use Rattle.fz_flat.specs.Hdus.{flat_hdu}
use Rattle.fz_flat.specs.declared.fronts.Unread.{Unread}
use Rattle.fz_flat.specs.declared.fronts.Unread.TheVariants.{NoPlace, GoesOn, Refused}
use Rattle.fz_flat.specs.declared.hdu.FzHdu.{FzHdu}
use Rattle.fz_flat.specs.declared.place.FzAt.{FzAt}

-- how many bytes the file has from the HDU on
abbrev pub rest_of : FzAt → ℕ
rest_of at = at.length - at.start

-- HDU 0 is at the first byte, and no other; and only HDU 1 can come after a primary with NAXIS 0
abbrev pub is_numbered : FzAt → Bool
is_numbered at = (if at.hdu == 0 then at.start == 0 else nat_lt 0 at.start) && (at.after_empty == 0 || (at.after_empty == 1 && at.hdu == 1))

-- an HDU may begin there, and the file has so many bytes from there on
unfoldable pub is_place : FzAt → ℕ → Bool
is_place at there =
    nat_le at.length (2 ^ 62) && (nat_le at.start at.length && (nat_le there (rest_of at) && (is_numbered at
    && (nat_lt at.start at.length || at.start == 0))))

pub record IsPlace (at : FzAt) (there : ℕ) : Type 0 where
  pub near : at.length ≤ 2 ^ 62
  pub within : (at.start < at.length) ⊎ ((at.hdu ≡ 0) × (at.start ≡ 0))
  pub front : at.start + there ≤ at.length

-- a fault of the bytes from a byte of the file on, as one of the file
abbrev pub place_from : ℕ → Place → Place
place_from start (Byte byte) = Byte (start + byte)
place_from start (Card card) = Card card
place_from start (Row row) = Row row

abbrev pub fault_from : ℕ → Fault → Fault
fault_from start x = record x { at = place_from start x.at }

-- a byte that it names is within so many
abbrev pub IsByteWithin : ℕ → Place → Type 0
IsByteWithin most (Byte byte) = byte ≤ most
IsByteWithin most (Card card) = ⊤
IsByteWithin most (Row row) = ⊤

-- the bytes end too early, but the file does not end there
abbrev pub ends_early : FzAt → ℕ → Fault → Bool
ends_early at there x = kind_number x.kind == 2 && nat_lt there (rest_of at)

abbrev pub unread_for : FzAt → ℕ → Fault → Unread
unread_for at there x = if ends_early at there x then GoesOn else Refused (fault_from at.start x)

-- how many blocks the header has: its bytes are looked at as a file of their own, once its first block is there, or all of the file
unfoldable pub blocks_there : FzAt → List ℕ → Result ℕ Unread
blocks_there at front =
    if not (is_place at (length front)) then Err NoPlace
    else (if nat_lt (length front) (min (rest_of at) 2880) then Err GoesOn
    else result_map_both (λ n. n) (unread_for at (length front)) (header_blocks_of at.hdu 0 front))

-- the facts of the header, once it is whole, with the checks that every job makes
abbrev pub facts_there : FzAt → List ℕ → ℕ → Result Header Unread
facts_there at front blocks = result_map_both (λ h. h) Refused (header_of at.hdu at.start at.length (take (2880 * blocks) front))

abbrev pub hdu_by_facts : FzAt → List ℕ → ℕ → Header → FzHdu
hdu_by_facts at front blocks h = flat_hdu h (is_packed (take (2880 * blocks) front) h)

abbrev pub hdu_by : FzAt → List ℕ → Result ℕ Unread → Result FzHdu Unread
hdu_by at front (Ok blocks) = result_map_both (hdu_by_facts at front blocks) (λ why. why) (facts_there at front blocks)
hdu_by at front (Err why) = Err why

-- what the HDU is, and where the next one begins
unfoldable pub hdu_there : FzAt → List ℕ → Result FzHdu Unread
hdu_there at front = hdu_by at front (blocks_there at front)

-- the packed image of the HDU, with the checks that `cut` makes of it before its box
abbrev pub image_by_facts : FzAt → List ℕ → ℕ → Result Header Unread → Result PackedImage Unread
image_by_facts at front blocks (Ok h) = result_map_both (λ i. i) Refused (image_to_amend h (take (2880 * blocks) front) (at.after_empty == 1))
image_by_facts at front blocks (Err why) = Err why

abbrev pub image_by : FzAt → List ℕ → Result ℕ Unread → Result PackedImage Unread
image_by at front (Ok blocks) = image_by_facts at front blocks (facts_there at front blocks)
image_by at front (Err why) = Err why

unfoldable pub image_there_of : FzAt → List ℕ → Result PackedImage Unread
image_there_of at front = image_by at front (blocks_there at front)

-- the length of bytes that end with the next block, or with the file
abbrev pub with_next_block : FzAt → ℕ → ℕ
with_next_block at there = min (rest_of at) ((there / 2880 + 1) * 2880)

-- how many bytes more are wanted: none if the header is whole or refused, and otherwise those up to the end of the next block
abbrev pub more_by : FzAt → ℕ → Result ℕ Unread → Result ℕ Unread
more_by at there (Ok blocks) = Ok 0
more_by at there (Err NoPlace) = Err NoPlace
more_by at there (Err GoesOn) = Ok (with_next_block at there - there)
more_by at there (Err (Refused x)) = Err (Refused x)

unfoldable pub more_wanted : FzAt → List ℕ → Result ℕ Unread
more_wanted at front = more_by at (length front) (blocks_there at front)
