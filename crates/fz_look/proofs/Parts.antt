-- The HDUs so far, and one more (FITS 4.0, section 3.1).
use Rattle.std.proofs.Common.{◌≡◌, ℕ, suc, ◌+◌, ◌<◌, ◌≤◌, not, Bool, true, false, List, [], ◌∷◌, ◌++◌, length, refl, sym, ap, ◌∙◌, add-one, subst, arith}
use Rattle.std.specs.Prelude.{Ok, Err}
use Rattle.std.proofs.lemmas.List.{append-nil, append_assoc, length-append}
use Rattle.std.proofs.Math.Bool.{beq}
use Rattle.std.proofs.Math.Dec.{eqb}
use Rattle.fz_base.specs.Stop.{IfRefused}
use Rattle.fz_base.specs.declared.failure.Stop.{Stop}
use Rattle.fz_block.specs.Checks.{hdu_at}
use Rattle.fz_block.specs.Header.{next_start_of}
use Rattle.fz_block.specs.declared.header.Header.{Header}
use Rattle.fz_job.specs.declared.survey.Survey.{Survey}
use Rattle.fz_job.specs.Again.{ReadsAsSeen, WasSeen, WereSeen, is_empty_primary}
use Rattle.fz_job.specs.Known.{IsList}
use Rattle.fz_job.specs.declared.again.ReadHdu.{ReadHdu}
use Rattle.fz_look.proofs.Ends.{none_there, tests_agree, tests_differ}
use Rattle.fz_look.proofs.Flags.{SaysBehind, first_flag, next_flag}

-- Of a file with these headers those before number k are done, and those from number k on begin at this byte.
pub record IsPart (file : List ℕ) (s : Survey) (hs done : List Header) (k start : ℕ) (after_empty : Bool) : Type 0 where
  pub rest : List Header
  pub parts : hs ≡ done ++ rest
  pub count : length done ≡ k
  pub seen : WereSeen file s.header_len s.tile k start rest
  pub flag : SaysBehind file after_empty rest
  pub first : k ≡ 0 → start ≡ 0

pub next_in : (done rest : List Header) (k : ℕ) → length done ≡ k → k < length (done ++ rest) → (h : Header) × ((more : List Header) × (rest ≡ h ∷ more))
next_in done [] k count few = absurd (omega (arith, count, few, length-append done []))
next_in done (h ∷ more) k count few = (h, (more, refl))

module _ (file : List ℕ) (s : Survey) (hs : List Header) where
  -- none is done before the first
  pub none_done : IsList file s hs → IsPart file s hs [] 0 0 false
  none_done list = record {
    rest = hs;
    parts = refl;
    count = refl;
    seen = list.seen;
    flag = first_flag file s.header_len s.tile hs list.seen;
    first = λ e. refl;
  }

  -- an HDU that was seen ends the file exactly if it is the last
  ends_if_last : (done rest : List Header) (k start : ℕ) → hs ≡ done ++ rest → length done ≡ k → length hs ≡ s.hdus → WereSeen file s.header_len s.tile k start rest → eqb start (length file) ≡ eqb k s.hdus
  ends_if_last done [] k start parts count all seen =
      let sum : length hs ≡ length done + 0 = ap length parts ∙ length-append done [] in
      tests_agree start (length file) k s.hdus (λ e. omega (arith, sum, count, all)) (λ e. seen)
  ends_if_last done (h ∷ rest) k start parts count all seen =
      let sum : length hs ≡ length done + length (h ∷ rest) = ap length parts ∙ length-append done (h ∷ rest) in
      tests_agree start (length file) k s.hdus (λ e. absurd (none_there k file h (subst (λ n. hdu_at k n file ≡ Ok h) e seen.0.found))) (λ e. absurd (omega (arith, sum, count, all, e)))

  -- so a file of which it is not so was not seen
  pub never_changed : IsList file s hs → (done : List Header) (len k start : ℕ) (flag : Bool) → IsPart file s hs done k start flag → length file ≡ len → not (beq (eqb start len) (eqb k s.hdus)) ≡ true → ⊥
  never_changed list done len k start flag p told differ =
      tests_differ (eqb start len) (eqb k s.hdus) differ (ap (eqb start) (sym told) ∙ ends_if_last done p.rest k start p.parts p.count list.count p.seen)

  -- all are done where there are no more
  none_left : (rest : List Header) (n k : ℕ) → n ≡ k + length rest → n ≤ k → rest ≡ []
  none_left [] n k count all = refl
  none_left (h ∷ rest) n k count all = absurd (omega (arith, count, all))

  pub all_by_count : (done : List Header) (k start : ℕ) (flag : Bool) → IsPart file s hs done k start flag → length hs ≤ k → hs ≡ done
  all_by_count done k start flag p all =
      let long : length hs ≡ k + length p.rest = ap length p.parts ∙ length-append done p.rest ∙ ap (λ n. n + length p.rest) p.count in
      p.parts ∙ ap (λ l. done ++ l) (none_left p.rest (length hs) k long all) ∙ append-nil done

  -- one more
  module _ (done : List Header) (k start : ℕ) (flag : Bool) (p : IsPart file s hs done k start flag) (few : k < length hs) where
    abbrev pub next : (h : Header) × ((more : List Header) × (p.rest ≡ h ∷ more))
    next = next_in done p.rest k p.count (subst (λ l. k < length l) p.parts few)

    next_seen : WereSeen file s.header_len s.tile k start (next.0 ∷ next.1.0)
    next_seen = subst (λ l. WereSeen file s.header_len s.tile k start l) next.1.1 p.seen

    behind : SaysBehind file flag (next.0 ∷ next.1.0)
    behind = subst (λ l. SaysBehind file flag l) next.1.1 p.flag

    pub was_seen : WasSeen file k start s.header_len s.tile next.0
    was_seen = next_seen.0

    pub never_refused : (stop : Stop) → ReadsAsSeen file k start flag s.header_len s.tile (Err stop) → IfRefused {X = ReadHdu} (Err stop) (λ x. ⊥)
    never_refused stop again = (again next.0 next_seen.0 behind).0

    pub read_same : (a : ReadHdu) → ReadsAsSeen file k start flag s.header_len s.tile (Ok a) → a.header ≡ next.0
    read_same a again = (again next.0 next_seen.0 behind).1

    pub parts_more : hs ≡ (done ++ next.0 ∷ []) ++ next.1.0
    parts_more = p.parts ∙ ap (λ l. done ++ l) next.1.1 ∙ sym (append_assoc done (next.0 ∷ []) next.1.0)

    pub one_done : (a : ReadHdu) (flag' : Bool) → ReadsAsSeen file k start flag s.header_len s.tile (Ok a) → flag' ≡ is_empty_primary a.header → IsPart file s hs (done ++ a.header ∷ []) (k + 1) (next_start_of a.header) flag'
    one_done a flag' again says =
        let same : a.header ≡ next.0 = read_same a again in
        let after : WereSeen file s.header_len s.tile (suc k) (next_start_of a.header) next.1.0 = subst (λ (j : Header). WereSeen file s.header_len s.tile (suc k) (next_start_of j) next.1.0) (sym same) next_seen.1 in
        record {
          rest = next.1.0;
          parts = parts_more ∙ ap (λ (j : Header). (done ++ j ∷ []) ++ next.1.0) (sym same);
          count = omega (arith, length-append done (a.header ∷ []), p.count);
          seen = subst (λ n. WereSeen file s.header_len s.tile n (next_start_of a.header) next.1.0) (sym (add-one k)) after;
          flag = subst (λ b. SaysBehind file b next.1.0) (sym (says ∙ ap is_empty_primary same)) (next_flag file s.header_len s.tile k start next.0 next.1.0 (next_start_of a.header) next_seen.0 p.first after);
          first = λ e. absurd (omega (arith, e));
        }
