-- What the cards that a packed header has of itself say.
use Rattle.std.proofs.Common.{◌≡◌, ℕ, ◌-◌, ◌<◌, ◌≤◌, ◌^◌, Bool, true, List, length, refl, arith, rules}
use Rattle.std.specs.Prelude.{pos, ◌≢◌, Some, codes, slice_index}
use Rattle.fz_card.specs.Laws.{CardLaws}
use Rattle.fz_card.specs.Made.{IsCardText, int_card_bytes, is_unquoted, logical_card_bytes, text_card_bytes}
use Rattle.fz_card.specs.Reading.{integer_of, logical_of, text_of}
use Rattle.fz_tile.specs.declared.codec.Codec.{Codec}
use Rattle.fz_tile.specs.declared.codec.Codec.TheVariants.{Rice, Plio, Plain}
use Rattle.fz_head.specs.PackedHeader.{codec_name}

-- texts that stand in made cards
is-text : (text : List ℕ) → length text ≤ 68 → is_unquoted text ≡ true → slice_index text (length text - 1) ≢ 32 → IsCardText text
is-text text fits unquoted trimmed = record { fits = fits; unquoted = search (rules, unquoted); trimmed = trimmed }

pub bintable-text : IsCardText (codes "BINTABLE")
bintable-text = is-text (codes "BINTABLE") (omega arith) refl (λ e. absurd (omega (arith, e)))

pub coded-text : IsCardText (codes "COMPRESSED_DATA")
coded-text = is-text (codes "COMPRESSED_DATA") (omega arith) refl (λ e. absurd (omega (arith, e)))

pub stored-text : IsCardText (codes "UNCOMPRESSED_DATA")
stored-text = is-text (codes "UNCOMPRESSED_DATA") (omega arith) refl (λ e. absurd (omega (arith, e)))

pub block-text : IsCardText (codes "BLOCKSIZE")
block-text = is-text (codes "BLOCKSIZE") (omega arith) refl (λ e. absurd (omega (arith, e)))

pub bytepix-text : IsCardText (codes "BYTEPIX")
bytepix-text = is-text (codes "BYTEPIX") (omega arith) refl (λ e. absurd (omega (arith, e)))

pub codec-text : (c : Codec) → IsCardText (codec_name c)
codec-text (Rice block bytepix) = is-text (codes "RICE_1") (omega arith) refl (λ e. absurd (omega (arith, e)))
codec-text Plio = is-text (codes "PLIO_1") (omega arith) refl (λ e. absurd (omega (arith, e)))
codec-text Plain = is-text (codes "NOCOMPRESS") (omega arith) refl (λ e. absurd (omega (arith, e)))

-- by the laws of cards
module _ (laws : CardLaws) where
  pub number-says : (name : List ℕ) (v : ℕ) → length name ≡ 8 → v < 10 ^ 18 → integer_of (int_card_bytes name (pos v)) ≡ Some (pos v)
  number-says name v eight short = (laws.values.integer (int_card_bytes name (pos v)) (pos v)).0 (laws.made.integer_value name (pos v) eight short)

  pub flag-says : (name : List ℕ) (b : Bool) → length name ≡ 8 → logical_of (logical_card_bytes name b) ≡ Some b
  flag-says name b eight = (laws.values.logical (logical_card_bytes name b) b).0 (laws.made.logical_value name b eight)

  pub text-says : (name text : List ℕ) → length name ≡ 8 → IsCardText text → text_of (text_card_bytes name text) ≡ Some text
  text-says name text eight is = (laws.values.text (text_card_bytes name text) text).0 (laws.made.text_value name text eight is)
