-- A box whose pixels have room in the band (FITS 4.0, sections 3.3.2 and 10.1).
use Rattle.std.proofs.Common.{◌≡◌, ℕ, ◌*◌, ◌/◌, ◌≤◌, List, Option, Some, None, IfSome, refl, sym, ap, ◌∙◌, arith, mul_comm}
use Rattle.std.specs.Option.{ForSome}
use Rattle.std.proofs.lemmas.Nat.{le-div}
use Rattle.fz_grid.specs.declared.region.Region.{Region}
use Rattle.fz_job.specs.declared.survey.Survey.{Survey}
use Rattle.fz_look.specs.Boxes.{HasBox, sieve_in}
use Rattle.fz_retile.specs.Holds.{IsKnownView}
use Rattle.fz_look.specs.declared.here.Here.{Here}
use Rattle.fz_look.specs.declared.looked.First.{First}
use Rattle.fz_look.specs.declared.looked.Space.{Space}
use Rattle.fz_retile.proofs.BoxParts.{fits_room}

-- ---- how many pixels have room

-- at least one
pub one_fits : (n one : ℕ) → 8 ≤ n → 1 ≤ one → one ≤ 8 → 1 ≤ n / one
one_fits n one room some few = le-div 1 n one some (omega (arith, room, few))

-- and the bytes of as many
pub all_fit : (n one width count : ℕ) → one ≡ width → count ≤ n / one → width * count ≤ n
all_fit n one width count is few =
    let fits : count * one ≤ n = fits_room count one n few in
    let turned : width * count ≡ count * one = mul_comm width count ∙ ap (λ w. count * w) (sym is) in
    omega (arith, fits, turned)

-- ---- the box of before

-- the bytes in the band are those of its pixels
pub boxed_shown : (plain_len : ℕ) (s : Survey) (first : First) (space : Space) (here : Option Here) (boxed : Option Region) (h : Here) (r : Region) → here ≡ Some h → boxed ≡ Some r → (held : Option (List ℕ)) →
    ForSome held (λ g. IsKnownView g plain_len s first space here boxed) → IfSome held (λ g. HasBox g h.read.header (sieve_in r) space.band)
boxed_shown plain_len s first space here boxed h r at box None known = tt
boxed_shown plain_len s first space here boxed h r at box (Some g) known = let w = known g refl in w.boxed_is h at r box
