-- The product of the lengths so far, stopped at the greatest number.
use Rattle.std.proofs.Common.{◌≡◌, ◌-◌, ◌^◌, take, min}
use Rattle.fz_block.specs.Hdus.{places as places_of}
use Rattle.fz_block.proofs.read.places.Given as goal

abbrev pub invariant-loop-i : goal.invariant-loop-i
invariant-loop-i l = l.product ≡ min (places_of (take l.i l.axes.len)) (2 ^ 64 - 1)
