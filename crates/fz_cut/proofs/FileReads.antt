-- What is read after the first look: the header once more, and the rows of the tiles that hold a pick (FITS 4.0, sections 3.1 and 10.1).
use Rattle.std.proofs.Common.{◌≡◌, ℕ, inl, inr, List, length, drop, Option, Some, None, IfSome, Ok, sym, ap, subst, ◌∙◌, arith}
use Rattle.std.proofs.lemmas.List.{take_at}
use Rattle.std.specs.Prelude.{Result, Err}
use Rattle.fz_base.specs.Buffer.{refilled}
use Rattle.fz_base.specs.Ranges.{LogsIn, LogsJoinLaw, LogsWithinLaw}
use Rattle.fz_base.specs.Source.{LogsWithin}
use Rattle.fz_base.specs.Stop.{IfRefused}
use Rattle.fz_base.specs.declared.failure.Stop.{Stop}
use Rattle.fz_base.specs.declared.failure.Stop.TheVariants.{Refused, ReadFault, WriteFault, OverLimit, NoMemory}
use Rattle.fz_block.specs.Checks.{header_touched}
use Rattle.fz_block.specs.declared.header.Header.{Header}
use Rattle.fz_grid.specs.declared.region.Region.{Region}
use Rattle.fz_grid.specs.declared.sieve.Sieve.{Sieve}
use Rattle.fz_files.specs.Walks.{box_of}
use Rattle.fz_cut.specs.Again.{IsAgain, ReadsAsSeen, WasSeen}
use Rattle.fz_cut.specs.declared.again.Again.{Again}
use Rattle.fz_cut.specs.Part.{IsPickFault}
use Rattle.fz_cut.specs.Picks.{picked_ranges}
use Rattle.fz_cut.specs.Written.{FinishesSeen, work_ranges}
use Rattle.fz_cut.proofs.Logs.{nothing, wider}

-- ---- the header was read of the box of the sieve, into a buffer of the workspace

pub seen_of : (held : Option (List ℕ)) (sieve : Sieve) (region : Region) (buf space : List ℕ) (tile : ℕ) (from : Header) (r : Result Again Stop) → region ≡ box_of sieve → buf ≡ space →
    IfSome held (λ g. ReadsAsSeen g region (length buf) tile from r) → IfSome held (λ g. ReadsAsSeen g (box_of sieve) (length space) tile from r)
seen_of held sieve region buf space tile from r is same seen =
    subst (λ (l : List ℕ). IfSome held (λ g. ReadsAsSeen g (box_of sieve) (length l) tile from r)) same
    (subst (λ (b : Region). IfSome held (λ g. ReadsAsSeen g b (length buf) tile from r)) is seen)

pub again_of : (held held' : Option (List ℕ)) (n : ℕ) (sieve : Sieve) (region : Region) (space buf left : List ℕ) (a : Again) → held' ≡ held → region ≡ box_of sieve → buf ≡ space → length left ≡ length buf →
    IsAgain held n region left a → IsAgain held' n (box_of sieve) (refilled space left) a
again_of held held' n sieve region space buf left a stays is same long again =
    let whole : refilled space left ≡ left = take_at left (drop (length left) space) (length space) (long ∙ ap length same) in
    subst (λ (l : List ℕ). IsAgain held' n (box_of sieve) l a) (sym whole)
    (subst (λ (h : Option (List ℕ)). IsAgain h n (box_of sieve) left a) (sym stays)
    (subst (λ (b : Region). IsAgain held n b left a) is again))

-- ---- the ranges

-- nothing was read of a file
pub none_read : (held : Option (List ℕ)) (ranges : List ℕ → List (ℕ × ℕ)) (old new : Option (List (ℕ × ℕ))) → new ≡ old → IfSome held (λ g. LogsIn (ranges g) old new)
none_read None ranges old new same = tt
none_read (Some g) ranges old new same = subst (λ (l : Option (List (ℕ × ℕ))). LogsIn (ranges g) old l) (sym same) (nothing (ranges g) old)

module _ (sieve : Sieve) (most tile : ℕ) (from : Header) where
  abbrev Seen : List ℕ → Type 0
  Seen g = WasSeen g (box_of sieve) most tile from

  -- the header lies in the first of the ranges
  pub header_reads : LogsWithinLaw → (g : List ℕ) (old new : Option (List (ℕ × ℕ))) → LogsWithin from.start (header_touched from.hdu from.start g) old new → LogsIn (work_ranges g sieve from) old new
  header_reads within g old new reads =
      within from.start (header_touched from.hdu from.start g) (work_ranges g sieve from) old new (λ byte at to. inl (at, omega (arith, at, to))) reads

  pub only_header : LogsWithinLaw → (held : Option (List ℕ)) (old new : Option (List (ℕ × ℕ))) → IfSome held (λ g. LogsWithin from.start (header_touched from.hdu from.start g) old new) →
      IfSome held (λ g. Seen g → LogsIn (work_ranges g sieve from) old new)
  only_header within None old new reads = tt
  only_header within (Some g) old new reads = λ seen. header_reads within g old new reads

  -- and the rows in the others
  pub with_rows : LogsWithinLaw → LogsJoinLaw → (held : Option (List ℕ)) (a : Again) (old mid new : Option (List (ℕ × ℕ))) → IfSome held (λ g. ReadsAsSeen g (box_of sieve) most tile from (Ok a)) →
      IfSome held (λ g. LogsWithin from.start (header_touched from.hdu from.start g) old mid) → IfSome held (λ g. LogsIn (picked_ranges g a.header sieve) mid new) →
      IfSome held (λ g. Seen g → LogsIn (work_ranges g sieve from) old new)
  with_rows within join None a old mid new as_seen reads rows = tt
  with_rows within join (Some g) a old mid new as_seen reads rows = λ seen.
      let mine : LogsIn (picked_ranges g from sieve) mid new = subst (λ (h : Header). LogsIn (picked_ranges g h sieve) mid new) (as_seen seen).1 rows in
      join (work_ranges g sieve from) old mid new (header_reads within g old mid reads)
      (wider (picked_ranges g from sieve) (work_ranges g sieve from) mid new (λ byte is. inr is) mine)

  -- ---- a file that was not finished

  -- a header that was seen is not refused
  pub header_refused : (X : Type 0) (held : Option (List ℕ)) (now : Option (List ℕ)) (stop : Stop) → IfSome held (λ g. ReadsAsSeen g (box_of sieve) most tile from (Err stop)) → IfSome held (λ g. FinishesSeen {X = X} g sieve most tile from now (Err stop))
  header_refused X None now stop as_seen = tt
  header_refused X (Some g) now (Refused x) as_seen = record { part = λ seen. tt; sound = λ seen. tt; first_fault = λ seen. absurd (as_seen seen).0 }
  header_refused X (Some g) now ReadFault as_seen = record { part = λ seen. tt; sound = λ seen. tt; first_fault = λ seen. tt }
  header_refused X (Some g) now WriteFault as_seen = record { part = λ seen. tt; sound = λ seen. tt; first_fault = λ seen. tt }
  header_refused X (Some g) now (OverLimit live asked limit) as_seen = record { part = λ seen. tt; sound = λ seen. tt; first_fault = λ seen. tt }
  header_refused X (Some g) now NoMemory as_seen = record { part = λ seen. tt; sound = λ seen. tt; first_fault = λ seen. tt }

  -- the first faulty row is
  pub row_refused : (X Y : Type 0) (held : Option (List ℕ)) (now : Option (List ℕ)) (a : Again) (stop : Stop) → IfSome held (λ g. ReadsAsSeen g (box_of sieve) most tile from (Ok a)) →
      IfRefused {X = Y} (Err stop) (λ x. IfSome held (λ g. IsPickFault g a.header sieve x)) → IfSome held (λ g. FinishesSeen {X = X} g sieve most tile from now (Err stop))
  row_refused X Y None now a stop as_seen fault = tt
  row_refused X Y (Some g) now a (Refused x) as_seen fault = record {
    part = λ seen. tt;
    sound = λ seen. tt;
    first_fault = λ seen. subst (λ (h : Header). IsPickFault g h sieve x) (as_seen seen).1 fault;
  }
  row_refused X Y (Some g) now a ReadFault as_seen fault = record { part = λ seen. tt; sound = λ seen. tt; first_fault = λ seen. tt }
  row_refused X Y (Some g) now a WriteFault as_seen fault = record { part = λ seen. tt; sound = λ seen. tt; first_fault = λ seen. tt }
  row_refused X Y (Some g) now a (OverLimit live asked limit) as_seen fault = record { part = λ seen. tt; sound = λ seen. tt; first_fault = λ seen. tt }
  row_refused X Y (Some g) now a NoMemory as_seen fault = record { part = λ seen. tt; sound = λ seen. tt; first_fault = λ seen. tt }
