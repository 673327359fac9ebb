use Rattle.std.proofs.Common.{◌≡◌, ◌+◌, ◌-◌, ◌*◌, ◌%◌, ◌^◌, ◌<◌, ◌≤◌, true, false, ◌∷◌, ◌++◌, length, take, drop, get_or, replicate, inl, inr, Err, refl, sym, ap, subst, ◌∙◌, arith, length-take, length-drop}
use Rattle.std.specs.Int.Count.{count_leading_zeros}
use Rattle.std.proofs.lemmas.Bool.{cases_lt}
use Rattle.std.proofs.lemmas.Nat.{leading_top}
use Rattle.std.proofs.lemmas.List.{length-replicate, drop-drop}
use Rattle.fz_bits.specs.Bits.{number_bits, bits_of}
use Rattle.fz_bits.specs.Reader.{left, HasZeros, IsZeros}
use Rattle.fz_bits.proofs.BitsLemmas.{number_bits-zero}
use Rattle.fz_bits.proofs.ReaderLemmas.{ahead_loaded, behind_one, byte_pending, rest_is, left_zeros, left_ahead, HasZeros-long, HasZeros-all, not_HasZeros-all, not_HasZeros-one, IsZeros-all, not_IsZeros-one}
use Rattle.fz_bits.proofs.reader.BitReader.zeros_ahead.Goals as goal

pub returns-in_default-clause-too_many : goal.returns-in_default-clause-too_many
returns-in_default-clause-too_many c =
    let r = c.args.self.now in
    let max = c.args.max in
    let n = r.count + 8 * length (take (length r.code.now - r.at) (drop r.at r.code.now)) in
    let is : left r ≡ replicate n false = left_zeros r (omega arith) c.requires c.in_default.ensures in
    let ends = c.stop_in_zeros.ensures.too_many in (
      λ e.
          let more = ends.0 cc in
          subst (HasZeros max) (sym is) (HasZeros-all max n (omega (arith, more, c.from.ensures))),
      λ h. elim (cases_lt max n) [
        | inl lt ↦ ap Err (ends.1 (omega (arith, c.from.ensures)))
        | inr ge ↦ absurd (not_HasZeros-all max n ge (subst (HasZeros max) is h))
      ],
    )

pub returns-in_default-clause-ended : goal.returns-in_default-clause-ended
returns-in_default-clause-ended c =
    let r = c.args.self.now in
    let max = c.args.max in
    let n = r.count + 8 * length (take (length r.code.now - r.at) (drop r.at r.code.now)) in
    let is : left r ≡ replicate n false = left_zeros r (omega arith) c.requires c.in_default.ensures in
    let ends = c.stop_in_zeros.ensures.ended in (
      λ e.
          let few = ends.0 cc in
          subst (IsZeros max) (sym is) (IsZeros-all max n (omega (arith, few, c.from.ensures))),
      λ z. ap Err (ends.1 (omega (arith, c.from.ensures, z.1, ap length is, length-replicate n false))),
    )

pub returns-then-zeros-from-clause-too_many : goal.returns-then-zeros-from-clause-too_many
returns-then-zeros-from-clause-too_many c =
    let r = c.args.self.now in
    let i = c.in-Some.zero_bytes in
    let b = get_or (take (length r.code.now - r.at) (drop r.at r.code.now)) i 0 in
    let lead = count_leading_zeros 8 b in
    let rest = 7 - lead in
    let is = left_ahead r i b (omega arith) c.requires c.in-Some.ensures.0 c.in-Some.ensures.1 refl (omega (arith, c.in-Some.ensures.2)) (omega arith) in
    let more : c.args.max < r.count + 8 * i + lead = omega (arith, c.from-3.ensures) in
    (λ _. subst (HasZeros c.args.max) (sym is) (HasZeros-long c.args.max (r.count + 8 * i + lead) (true ∷ (number_bits rest (b % 2 ^ rest) ++ bits_of (drop (r.at + i + 1) r.code.now))) more), λ _. refl)

pub returns-then-zeros-from-clause-ended : goal.returns-then-zeros-from-clause-ended
returns-then-zeros-from-clause-ended c =
    let r = c.args.self.now in
    let i = c.in-Some.zero_bytes in
    let b = get_or (take (length r.code.now - r.at) (drop r.at r.code.now)) i 0 in
    let lead = count_leading_zeros 8 b in
    let rest = 7 - lead in
    let is = left_ahead r i b (omega arith) c.requires c.in-Some.ensures.0 c.in-Some.ensures.1 refl (omega (arith, c.in-Some.ensures.2)) (omega arith) in
    (λ e. cc, λ z. absurd (not_IsZeros-one c.args.max (r.count + 8 * i + lead) (number_bits rest (b % 2 ^ rest) ++ bits_of (drop (r.at + i + 1) r.code.now)) (subst (IsZeros c.args.max) is z)))

pub invariant_of-self : goal.invariant_of-self
invariant_of-self c =
    record {
      small = c.args.self.now.small;
      within = omega (arith, c.in-Some.ensures.0, length-take (length c.args.self.now.code.now - c.args.self.now.at) (drop c.args.self.now.at c.args.self.now.code.now), length-drop c.args.self.now.at c.args.self.now.code.now);
      loaded = omega arith;
      few = omega arith;
      ahead = ∣ ahead_loaded 0 0 0 _ (omega arith) (omega arith) (number_bits-zero 64) ∣₁;
    }

pub skip-requires : goal.skip-requires
skip-requires c =
    let r = c.args.self.now in
    let i = c.in-Some.zero_bytes in
    let b = get_or (take (length r.code.now - r.at) (drop r.at r.code.now)) i 0 in
    let within : r.at + i < length r.code.now = omega (arith, c.in-Some.ensures.0, length-take (length r.code.now - r.at) (drop r.at r.code.now), length-drop r.at r.code.now) in
    let top = leading_top 8 b (omega (arith, c.in-Some.ensures.2)) (omega arith) in
    let few = byte_pending _ c.refill.new.self c.refill.ensures.unmoved.left refl within c.refill.ensures.end in
    omega (arith, top.1, few)

pub skip-requires-2 : goal.skip-requires-2
skip-requires-2 c =
    let r = c.args.self.now in
    let i = c.in-Some.zero_bytes in
    let b = get_or (take (length r.code.now - r.at) (drop r.at r.code.now)) i 0 in
    let within : r.at + i < length r.code.now = omega (arith, c.in-Some.ensures.0, length-take (length r.code.now - r.at) (drop r.at r.code.now), length-drop r.at r.code.now) in
    let top = leading_top 8 b (omega (arith, c.in-Some.ensures.2)) (omega arith) in
    let few = byte_pending _ c.refill.new.self c.refill.ensures.unmoved.left refl within c.refill.ensures.end in
    omega (arith, top.1, few, c.skip.ensures.ready)

pub returns-clause-bits : goal.returns-clause-bits
unfolding left
returns-clause-bits c =
    let r = c.args.self.now in
    let i = c.in-Some.zero_bytes in
    let b = get_or (take (length r.code.now - r.at) (drop r.at r.code.now)) i 0 in
    let lead = count_leading_zeros 8 b in
    let n = r.count + 8 * i + lead in
    let is = left_ahead r i b (omega arith) c.requires c.in-Some.ensures.0 c.in-Some.ensures.1 refl (omega (arith, c.in-Some.ensures.2)) (omega arith) in
    let place : 8 * (r.at + i) - 0 ≡ 8 * r.at - r.count + (r.count + 8 * i) = omega (arith, r.loaded) in
    let moved : drop (8 * (r.at + i) - 0) (bits_of r.code.now) ≡ drop (r.count + 8 * i) (left r) = ap (λ k. drop k (bits_of r.code.now)) place ∙ sym (drop-drop (r.count + 8 * i) (8 * r.at - r.count) (bits_of r.code.now)) in
    let one = behind_one (left c.refill.new.self) lead (left c.skip.new.self) (left c.skip-2.new.self) c.skip.ensures.left c.skip-2.ensures.left in
    let e : r.count + 8 * i + (lead + 1) ≡ n + 1 = omega arith in
    let gone : left c.skip-2.new.self ≡ drop (n + 1) (left r) = sym one ∙ ap (drop (lead + 1)) (c.refill.ensures.unmoved.left ∙ moved) ∙ drop-drop (lead + 1) (r.count + 8 * i) (left r) ∙ ap (λ k. drop k (left r)) e in
    let rest = rest_is (left r) n (number_bits (7 - lead) (b % 2 ^ (7 - lead)) ++ bits_of (drop (r.at + i + 1) r.code.now)) is in
    let zeros : n ≡ c.from-2.result + 8 * i + c.from-3.result = omega (arith, c.from-2.ensures, c.from-3.ensures) in
    is ∙ ap (λ l. replicate n false ++ true ∷ l) (sym rest ∙ sym gone) ∙ ap (λ k. replicate k false ++ true ∷ left c.skip-2.new.self) zeros

pub returns-clause-too_many : goal.returns-clause-too_many
returns-clause-too_many c =
    let r = c.args.self.now in
    let i = c.in-Some.zero_bytes in
    let b = get_or (take (length r.code.now - r.at) (drop r.at r.code.now)) i 0 in
    let lead = count_leading_zeros 8 b in
    let rest = 7 - lead in
    let is = left_ahead r i b (omega arith) c.requires c.in-Some.ensures.0 c.in-Some.ensures.1 refl (omega (arith, c.in-Some.ensures.2)) (omega arith) in
    let few : r.count + 8 * i + lead ≤ c.args.max = omega (arith, c.from-3.ensures) in
    (λ e. cc, λ h. absurd (not_HasZeros-one c.args.max (r.count + 8 * i + lead) (number_bits rest (b % 2 ^ rest) ++ bits_of (drop (r.at + i + 1) r.code.now)) few (subst (HasZeros c.args.max) is h)))

pub returns-clause-ended : goal.returns-clause-ended
returns-clause-ended c =
    let r = c.args.self.now in
    let i = c.in-Some.zero_bytes in
    let b = get_or (take (length r.code.now - r.at) (drop r.at r.code.now)) i 0 in
    let lead = count_leading_zeros 8 b in
    let rest = 7 - lead in
    let is = left_ahead r i b (omega arith) c.requires c.in-Some.ensures.0 c.in-Some.ensures.1 refl (omega (arith, c.in-Some.ensures.2)) (omega arith) in
    (λ e. cc, λ z. absurd (not_IsZeros-one c.args.max (r.count + 8 * i + lead) (number_bits rest (b % 2 ^ rest) ++ bits_of (drop (r.at + i + 1) r.code.now)) (subst (IsZeros c.args.max) is z)))
