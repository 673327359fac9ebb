use Rattle.std.proofs.Common.{◌≡◌, ◌+◌, true, false, ◌∷◌, ◌++◌, drop, replicate, refl, sym, ap, subst, ◌∙◌, arith}
use Rattle.std.specs.Int.Count.{count_leading_zeros}
use Rattle.fz_bits.specs.Reader.{left, HasZeros, IsZeros}
use Rattle.fz_bits.proofs.ReaderLemmas.{left_near, behind_one, HasZeros-long, not_HasZeros-one, not_IsZeros-one}
use Rattle.fz_bits.proofs.reader.BitReader.zeros.Goals as goal

pub returns-then-zeros-max-clause-too_many : goal.returns-then-zeros-max-clause-too_many
returns-then-zeros-max-clause-too_many c =
    let r = c.load_one.new.self in
    let lead = count_leading_zeros 64 r.pending in
    let is = sym c.load_one.ensures.left ∙ left_near r (omega arith) c.if-zeros-self.false in
    (λ _. subst (HasZeros c.args.max) (sym is) (HasZeros-long c.args.max lead (true ∷ drop (lead + 1) (left r)) c.if-zeros-max.true), λ _. refl)

pub returns-then-zeros-max-clause-ended : goal.returns-then-zeros-max-clause-ended
returns-then-zeros-max-clause-ended c =
    let r = c.load_one.new.self in
    let lead = count_leading_zeros 64 r.pending in
    let is = sym c.load_one.ensures.left ∙ left_near r (omega arith) c.if-zeros-self.false in
    (λ e. cc, λ z. absurd (not_IsZeros-one c.args.max lead (drop (lead + 1) (left r)) (subst (IsZeros c.args.max) is z)))

pub returns-clause-bits : goal.returns-clause-bits
returns-clause-bits c =
    let r = c.load_one.new.self in
    let lead = count_leading_zeros 64 r.pending in
    let is = sym c.load_one.ensures.left ∙ left_near r (omega arith) c.if-zeros-self.false in
    let gone : drop (lead + 1) (left r) ≡ left c.skip-2.new.self = behind_one (left r) lead (left c.skip.new.self) (left c.skip-2.new.self) c.skip.ensures.left c.skip-2.ensures.left in
    is ∙ ap (λ l. replicate lead false ++ true ∷ l) gone

pub returns-clause-too_many : goal.returns-clause-too_many
returns-clause-too_many c =
    let r = c.load_one.new.self in
    let lead = count_leading_zeros 64 r.pending in
    let is = sym c.load_one.ensures.left ∙ left_near r (omega arith) c.if-zeros-self.false in
    (λ e. cc, λ h. absurd (not_HasZeros-one c.args.max lead (drop (lead + 1) (left r)) c.if-zeros-max.false (subst (HasZeros c.args.max) is h)))

pub returns-clause-ended : goal.returns-clause-ended
returns-clause-ended c =
    let r = c.load_one.new.self in
    let lead = count_leading_zeros 64 r.pending in
    let is = sym c.load_one.ensures.left ∙ left_near r (omega arith) c.if-zeros-self.false in
    (λ e. cc, λ z. absurd (not_IsZeros-one c.args.max lead (drop (lead + 1) (left r)) (subst (IsZeros c.args.max) is z)))
