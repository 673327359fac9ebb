-- The places hold the two pixels.
use Rattle.std.proofs.Common.{pos, negsuc, [], ◌∷◌, refl, arith, ◌≡◌}
use Rattle.std.proofs.lemmas.List.Elements.{All-nil, All-cons}
use Rattle.fz_bits.specs.Numbers.{IsNumber}
use Rattle.fz_cases_codes.proofs.tile.tile_of_64_bits.Goals as goal

pub encode_tile-coded-requires-clause-pixels : goal.encode_tile-coded-requires-clause-pixels
encode_tile-coded-requires-clause-pixels g c = (
  pos 1099511627776 ∷ negsuc 0 ∷ [],
  record {
    pixels = All-cons (IsNumber 64) (pos 1099511627776) (negsuc 0 ∷ []) (omega arith) (All-cons (IsNumber 64) (negsuc 0) [] (λ (e : 64 ≡ 8). omega (arith, e), omega arith) (All-nil (IsNumber 64)));
    are = refl;
  },
)
