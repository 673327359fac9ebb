-- Each HDU of a packed file stands for one HDU only.
use Rattle.std.specs.Prelude.{unsigned_abs}
use Rattle.std.proofs.Common.{inl, inr, ℤ, pos, sym, subst}
use Rattle.fz_tile.specs.Codecs.{CanRead}
use Rattle.fz_tile.specs.Pixels.{IsBitpix}
use Rattle.fz_tile.specs.declared.codec.Codec.{Codec}

pub bits_are : (codec : Codec) (bitpix : ℤ) → CanRead codec bitpix → CanRead codec (pos (unsigned_abs bitpix))
bits_are codec bitpix can = by_size can.size
  where
    by_size : IsBitpix bitpix → CanRead codec (pos (unsigned_abs bitpix))
    by_size (inl e) = subst (λ b. CanRead codec (pos (unsigned_abs b))) (sym e) (subst (CanRead codec) e can)
    by_size (inr (inl e)) = subst (λ b. CanRead codec (pos (unsigned_abs b))) (sym e) (subst (CanRead codec) e can)
    by_size (inr (inr (inl e))) = subst (λ b. CanRead codec (pos (unsigned_abs b))) (sym e) (subst (CanRead codec) e can)
    by_size (inr (inr (inr e))) = subst (λ b. CanRead codec (pos (unsigned_abs b))) (sym e) (subst (CanRead codec) e can)
