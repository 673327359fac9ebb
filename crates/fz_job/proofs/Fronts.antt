-- A header at the front of a longer buffer.
use Rattle.std.proofs.Common.{◌≡◌, ℕ, ◌+◌, ◌*◌, List, ◌++◌, Option, IfSome, Ok, sym, subst, arith}
use Rattle.std.proofs.lemmas.List.{length-append, take-append-le}
use Rattle.fz_base.specs.Source.{Reads}
use Rattle.fz_block.specs.Facts.{IsHeaderOf}
use Rattle.fz_checks.specs.JobChecks.{image_to_unpack}
use Rattle.fz_job.specs.Again.{IsAgain, IsUsable, header_at_front}
use Rattle.fz_job.specs.declared.again.ReadHdu.{ReadHdu}

pub wider_again : (held : Option (List ℕ)) (n : ℕ) (buf more : List ℕ) (a : ReadHdu) → IsAgain held n buf a → IsAgain held n (buf ++ more) a
wider_again held n buf more a w =
    let same : header_at_front a buf ≡ header_at_front a (buf ++ more) = sym (take-append-le (2880 * a.header.blocks) buf more w.room) in
    record {
      room = let room = w.room in omega (arith, length-append buf more, room);
      header = subst (λ l. IsHeaderOf l a.header) same w.header;
      inside = w.inside;
      near = w.near;
      read = subst (Reads held a.header.start) same w.read;
      after_empty = w.after_empty;
      found = subst (λ l. image_to_unpack a.header l w.after_empty ≡ Ok a.image) same w.found;
      usable = subst (λ l. IfSome a.image (IsUsable l a.header n)) same w.usable;
    }
