-- The words of the header are those that the code reads.
use Rattle.std.proofs.Common.{◌≡◌, ◌+◌, ◌-◌, ◌*◌, ap, ◌∙◌, inl, inr, arith, take, drop}
use Rattle.fz_plio.specs.Words.{words}
use Rattle.fz_plio.specs.Instructions.{instructions}
use Rattle.fz_plio.specs.Meaning.{list_len, too_short, too_long}
use Rattle.fz_plio.proofs.WordLemmas.{length-words}
use Rattle.fz_plio.proofs.DecodingLemmas.{instructions_of-bytes}
use Rattle.fz_plio.proofs.decoder.instruction_bytes.Goals as goal
use Rattle.fz_plio.proofs.decoder.instruction_bytes.Goals.{then-len-lt-HEADER_WORDS-via-then-len-lt-HEADER_WORDS, then-len-lt-HEADER_WORDS-via-else-len-lt-HEADER_WORDS+then-len-code}
use Rattle.fz_plio.proofs.decoder.instruction_bytes.Goals.{else-version-gt0-via-then-version-gt0+else-version-lt-PART_END, else-version-gt0-via-else-version-gt0}

pub returns-then-len-lt-HEADER_WORDS-clause-fault : goal.returns-then-len-lt-HEADER_WORDS-clause-fault
returns-then-len-lt-HEADER_WORDS-clause-fault c = λ n.
    elim c.then-len-lt-HEADER_WORDS.branch [
      | then-len-lt-HEADER_WORDS-via-then-len-lt-HEADER_WORDS w ↦ too_short (omega (arith, w.if-len-lt-HEADER_WORDS.true))
      | then-len-lt-HEADER_WORDS-via-else-len-lt-HEADER_WORDS+then-len-code w ↦ too_long (omega (arith, w.if-len-code.true, length-words c.args.code.now))
    ]

pub returns-clause-header : goal.returns-clause-header
returns-clause-header c =
    record {
      even = omega arith;
      long = omega arith;
      header_length = omega arith;
      new_header = elim c.else-version-gt0.branch [
        | else-version-gt0-via-then-version-gt0+else-version-lt-PART_END w ↦ inr (omega arith)
        | else-version-gt0-via-else-version-gt0 w ↦ inl (omega arith)
      ];
      length_low = omega arith;
      length_high = omega arith;
      after_header = omega arith;
      within = omega (arith, length-words c.args.code.now);
    }

pub returns-clause-instructions : goal.returns-clause-instructions
returns-clause-instructions c =
    let code = c.args.code.now in
    let len : (c.from-2.result + 32768 * c.from-3.result) * 2 - 14 ≡ 2 * (list_len code - 7) = omega arith in
    ap (λ n. instructions (words (take n (drop 14 code)))) len ∙ ap instructions (instructions_of-bytes code)
