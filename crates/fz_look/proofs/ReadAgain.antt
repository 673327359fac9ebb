-- What is known of an HDU whose header was read again (FITS 4.0, sections 3.1 and 10.1).
use Rattle.std.proofs.Common.{◌≡◌, ◌+◌, ◌-◌, List, ◌++◌, length, take, drop}
use Rattle.std.proofs.lemmas.List.{take_at}

-- a buffer that was lent and filled
pub given_back : {A : Type 0} (old new : List A) → length new ≡ length old → take (length old) (new ++ drop (length new) old) ≡ new
given_back old new long = take_at new (drop (length new) old) (length old) long
