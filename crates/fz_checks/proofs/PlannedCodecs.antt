-- The plan of an image that passes its checks has a codec that can write its pixels.
use Rattle.std.proofs.Common.{◌≡◌, ℕ, ◌≤◌, Bool, true, false, cond, List, refl, ap, subst}
use Rattle.std.specs.Prelude.{ℤ, pos, Some, Ok, unsigned_abs}
use Rattle.std.specs.Ordering.{int_eq}
use Rattle.std.proofs.lemmas.Bool.{and_parts}
use Rattle.fz_base.specs.Refusal.{first_refusal}
use Rattle.fz_block.specs.declared.header.Header.{Header}
use Rattle.fz_tile.specs.Codecs.{CanWrite, WritesCodes}
use Rattle.fz_tile.specs.Pixels.{IsBitpix}
use Rattle.fz_tile.specs.declared.codec.Codec.TheVariants.{Plain}
use Rattle.fz_head.specs.declared.options.CodecWord.{CodecWord}
use Rattle.fz_head.specs.declared.options.CodecWord.TheVariants as word
use Rattle.fz_head.specs.declared.options.PackOptions.{PackOptions}
use Rattle.fz_head.specs.declared.plan.Plan.{Plan}
use Rattle.fz_head.specs.Packable.{has_integers, is_image, is_packable}
use Rattle.fz_head.specs.PackChecks.{pack_answer, pack_checks}
use Rattle.fz_head.specs.Planned.{AreOptions, asked_codec, codec_for, pack_plan_of}
use Rattle.fz_checks.proofs.PlannedTiles.{unless-ok}
use Rattle.fz_checks.proofs.SaidPlans.{is-bitpix}

asked-writes : (w : CodecWord) (block : ℕ) (bitpix : ℤ) → 1 ≤ block → block ≤ 32767 → WritesCodes (asked_codec w block bitpix) (unsigned_abs bitpix)
asked-writes word.Rice block bitpix low high = ((low, high), refl)
asked-writes word.Plio block bitpix low high = tt
asked-writes word.None block bitpix low high = tt

writes : (o : PackOptions) (bitpix : ℤ) → AreOptions o → WritesCodes (codec_for o bitpix) (unsigned_abs bitpix)
writes o bitpix options = by_test (int_eq bitpix (pos 64))
  where
    by_test : (long : Bool) → WritesCodes (cond long Plain (asked_codec o.codec o.block bitpix)) (unsigned_abs bitpix)
    by_test true = tt
    by_test false = asked-writes o.codec o.block bitpix options.low options.high

integers : (h : Header) → is_packable h ≡ true → IsBitpix h.bitpix
unfolding is_packable
integers h e =
    let one = and_parts (is_image h.sort) _ e in
    let two = and_parts _ _ one.1 in
    let three = and_parts _ _ two.1 in
    is-bitpix (Some h.bitpix) (and_parts (has_integers h.bitpix) _ three.1).0

pub planned-writable : (o : PackOptions) (header : List ℕ) (h : Header) (p : Plan) → AreOptions o → is_packable h ≡ true → pack_answer o h header ≡ Ok p → CanWrite p.codec p.bitpix
unfolding pack_answer pack_plan_of
planned-writable o header h p options packable answer =
    let ok = unless-ok (pack_plan_of o h) p (first_refusal (pack_checks o h header)) answer in
    let can : CanWrite (codec_for o h.bitpix) h.bitpix = record { size = integers h packable; plain = λ long. ap (codec_for o) long; codes = writes o h.bitpix options } in
    subst (λ (q : Plan). CanWrite q.codec q.bitpix) ok.1 can
