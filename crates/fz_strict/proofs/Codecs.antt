-- The codec of the images of a packed file: that of the first that has not 64 bits a pixel is the codec that was asked for.
use Rattle.std.proofs.Common.{◌≡◌, ◌⊎◌, inl, inr, Bool, true, false, true≢false, ℤ, pos, List, [], ◌∷◌, map, if◌then◌else◌, refl, sym, ◌∙◌, ap}
use Rattle.std.specs.Ordering.{int_eq}
use Rattle.fz_block.specs.declared.header.Header.{Header}
use Rattle.fz_tile.specs.declared.codec.Codec.{Codec}
use Rattle.fz_tile.specs.declared.codec.Codec.TheVariants.{Plain}
use Rattle.fz_head.specs.Planned.{asked_codec, pack_plan_of}
use Rattle.fz_head.specs.declared.options.CodecWord.{CodecWord}
use Rattle.fz_head.specs.declared.options.CodecWord.TheVariants as word
use Rattle.fz_head.specs.declared.options.PackOptions.{PackOptions}
use Rattle.fz_strict.specs.FoundOptions.{block_of, codec_found, word_of}
use Rattle.fz_strict.proofs.TilesFound.{Among}

-- the codec is what the options ask for some pixels
abbrev pub IsAsked : PackOptions → Codec → Type 0
IsAsked o c = (bitpix : ℤ) × (c ≡ asked_codec o.codec o.block bitpix)

pub found_codec : (o : PackOptions) (h : Header) (hs : List Header) → Among h hs → int_eq h.bitpix (pos 64) ≡ false →
    IsAsked o (codec_found (map (pack_plan_of o) hs))
unfolding pack_plan_of
found_codec o h [] among narrow = absurd among
found_codec o h (g ∷ gs) among narrow = by_width (int_eq g.bitpix (pos 64)) refl among (λ rest. found_codec o h gs rest narrow)
  where
    by_width : (long : Bool) → int_eq g.bitpix (pos 64) ≡ long → (h ≡ g) ⊎ Among h gs → (Among h gs → IsAsked o (codec_found (map (pack_plan_of o) gs))) →
        IsAsked o (if long then codec_found (map (pack_plan_of o) gs) else (if long then Plain else asked_codec o.codec o.block g.bitpix))
    by_width true is (inl same) later = absurd (true≢false (sym is ∙ (ap (λ (x : Header). int_eq x.bitpix (pos 64)) (sym same) ∙ narrow)))
    by_width true is (inr rest) later = later rest
    by_width false is among later = (g.bitpix, refl)

-- its word and its block ask for the same codec, whatever the pixels
pub asked_again : (o : PackOptions) (c : Codec) (bitpix : ℤ) → IsAsked o c → asked_codec (word_of c) (block_of c) bitpix ≡ asked_codec o.codec o.block bitpix
asked_again o c bitpix (some, is) = ap (λ c. asked_codec (word_of c) (block_of c) bitpix) is ∙ by_word o.codec
  where
    by_word : (w : CodecWord) → asked_codec (word_of (asked_codec w o.block some)) (block_of (asked_codec w o.block some)) bitpix ≡ asked_codec w o.block bitpix
    by_word word.Rice = refl
    by_word word.Plio = refl
    by_word word.None = refl
