-- The HDUs so far, and one more (FITS 4.0, section 3.1).
use Rattle.std.proofs.Common.{◌≡◌, ℕ, suc, ◌+◌, ◌<◌, ◌≤◌, Bool, true, false, List, [], ◌∷◌, ◌++◌, length, refl, sym, ap, ◌∙◌, add-one, subst, arith}
use Rattle.std.specs.Prelude.{◌&&◌, not, nat_le, nat_lt, bytes_eq, codes, take, drop, Option, Some, Result, Ok, Err, ⊤}
use Rattle.std.proofs.lemmas.Bool.Decides.{nat_tests}
use Rattle.std.proofs.lemmas.List.{append-nil, append_assoc, length-append}
use Rattle.fz_base.specs.Refusal.{first_refusal, refusal}
use Rattle.fz_base.specs.Stop.{IfRefused}
use Rattle.fz_base.specs.declared.failure.Stop.{Stop}
use Rattle.fz_base.specs.declared.fault.Fault.{Fault}
use Rattle.fz_base.specs.declared.fault.Place.TheVariants.{Byte}
use Rattle.fz_base.specs.declared.kind.Kind.TheVariants.{Limit, TrailingBytes, Truncated}
use Rattle.fz_block.specs.Cards.{end_of}
use Rattle.fz_block.specs.Checks.{block_checks, blocks_to_end, header_room, hdu_at, header_blocks_of, header_in, unless_refused}
use Rattle.fz_block.specs.Header.{next_start_of}
use Rattle.fz_block.specs.declared.header.Header.{Header}
use Rattle.fz_checks.specs.JobChecks.{is_after_empty}
use Rattle.fz_job.specs.declared.survey.Survey.{Survey}
use Rattle.fz_job.specs.Again.{ReadsAsSeen, WasSeen, WereSeen, is_empty_primary}
use Rattle.fz_job.specs.Known.{IsList}
use Rattle.fz_job.specs.declared.again.ReadHdu.{ReadHdu}
use Rattle.fz_strict.proofs.Flags.{SaysBehind, first_flag, next_flag}

-- ---- no HDU begins where the file ends

-- a check behind two others refuses
third : (a b c : Bool) (x y z : Fault) (checks : List (Bool × Fault)) → c ≡ true → (f : Fault) × (first_refusal ((a, x) ∷ (b, y) ∷ (c, z) ∷ checks) ≡ Some f)
third true b c x y z checks is = (x, refl)
third false true c x y z checks is = (y, refl)
third false false true x y z checks is = (z, refl)
third false false false x y z checks is = absurd cc

never_read : (k start blocks : ℕ) (file : List ℕ) (checks : List (Bool × Fault)) (h : Header) → (f : Fault) × (first_refusal checks ≡ Some f) →
    header_in k start file (unless_refused blocks (first_refusal checks)) ≡ Ok h → ⊥
never_read k start blocks file checks h refused found =
    let never : ◌≡◌ {A = Result Header Fault} (Err refused.0) (Ok h) = sym (ap (λ (r : Option Fault). header_in k start file (unless_refused blocks r)) refused.1) ∙ found in
    cc

none_there : (k : ℕ) (file : List ℕ) (h : Header) → hdu_at k (length file) file ≡ Ok h → ⊥
unfolding hdu_at header_blocks_of
none_there k file h found =
    let past : nat_lt (length file) (length file + 2880) ≡ true = grind (arith, nat_tests) in
    never_read k (length file) (blocks_to_end (end_of (header_room (length file) file))) file (block_checks k (length file) file) h (third (nat_le 65536 k) (nat_lt 0 k && not (bytes_eq (take 8 (drop (length file) file)) (codes "XTENSION"))) (nat_lt (length file) (length file + 2880))
    (refusal k (Byte (length file)) Limit) (refusal k (Byte (length file)) TrailingBytes) (refusal k (Byte (length file)) Truncated) (drop 3 (block_checks k (length file) file)) past) found

-- ---- the HDUs so far

-- Of a file with these headers those before number k are done, and those from number k on begin at this byte.
pub record IsPart (file : List ℕ) (s : Survey) (hs done : List Header) (k start : ℕ) (after_empty : Bool) : Type 0 where
  pub rest : List Header
  pub parts : hs ≡ done ++ rest
  pub count : length done ≡ k
  pub seen : WereSeen file s.header_len s.tile k start rest
  pub flag : SaysBehind file after_empty rest
  pub first : k ≡ 0 → start ≡ 0

pub next_in : (done rest : List Header) (k : ℕ) → length done ≡ k → k < length (done ++ rest) → (h : Header) × ((more : List Header) × (rest ≡ h ∷ more))
next_in done [] k count few = absurd (omega (arith, count, few, length-append done []))
next_in done (h ∷ more) k count few = (h, (more, refl))

module _ (file : List ℕ) (s : Survey) (hs : List Header) where
  -- none is done before the first
  pub none_done : IsList file s hs → IsPart file s hs [] 0 0 false
  none_done list = record {
    rest = hs;
    parts = refl;
    count = refl;
    seen = list.seen;
    flag = first_flag file s.header_len s.tile hs list.seen;
    first = λ e. refl;
  }

  -- all are done where there are no more
  none_left : (rest : List Header) (n k : ℕ) → n ≡ k + length rest → n ≤ k → rest ≡ []
  none_left [] n k count all = refl
  none_left (h ∷ rest) n k count all = absurd (omega (arith, count, all))

  pub all_by_count : (done : List Header) (k start : ℕ) (flag : Bool) → IsPart file s hs done k start flag → length hs ≤ k → hs ≡ done
  all_by_count done k start flag p all =
      let long : length hs ≡ k + length p.rest = ap length p.parts ∙ length-append done p.rest ∙ ap (λ n. n + length p.rest) p.count in
      p.parts ∙ ap (λ l. done ++ l) (none_left p.rest (length hs) k long all) ∙ append-nil done

  -- and where the file ends
  end_of_all : (k start : ℕ) (rest : List Header) → start ≡ length file → WereSeen file s.header_len s.tile k start rest → rest ≡ []
  end_of_all k start [] ends seen = refl
  end_of_all k start (h ∷ rest) ends seen = absurd (none_there k file h (subst (λ n. hdu_at k n file ≡ Ok h) ends seen.0.found))

  pub all_by_end : (done : List Header) (k start : ℕ) (flag : Bool) → IsPart file s hs done k start flag → start ≡ length file → hs ≡ done
  all_by_end done k start flag p ends = p.parts ∙ ap (λ l. done ++ l) (end_of_all k start p.rest ends p.seen) ∙ append-nil done

  -- one more
  module _ (done : List Header) (k start : ℕ) (flag : Bool) (p : IsPart file s hs done k start flag) (few : k < length hs) where
    abbrev pub next : (h : Header) × ((more : List Header) × (p.rest ≡ h ∷ more))
    next = next_in done p.rest k p.count (subst (λ l. k < length l) p.parts few)

    pub next_seen : WereSeen file s.header_len s.tile k start (next.0 ∷ next.1.0)
    next_seen = subst (λ l. WereSeen file s.header_len s.tile k start l) next.1.1 p.seen

    behind : SaysBehind file flag (next.0 ∷ next.1.0)
    behind = subst (λ l. SaysBehind file flag l) next.1.1 p.flag

    pub never_refused : (stop : Stop) → ReadsAsSeen file k start flag s.header_len s.tile (Err stop) → IfRefused {X = ReadHdu} (Err stop) (λ x. ⊥)
    never_refused stop again = (again next.0 next_seen.0 behind).0

    pub read_same : (a : ReadHdu) → ReadsAsSeen file k start flag s.header_len s.tile (Ok a) → a.header ≡ next.0
    read_same a again = (again next.0 next_seen.0 behind).1

    pub was_seen : (a : ReadHdu) → ReadsAsSeen file k start flag s.header_len s.tile (Ok a) → WasSeen file k start s.header_len s.tile a.header
    was_seen a again = subst (λ (h : Header). WasSeen file k start s.header_len s.tile h) (sym (read_same a again)) next_seen.0

    parts_more : hs ≡ (done ++ next.0 ∷ []) ++ next.1.0
    parts_more = p.parts ∙ ap (λ l. done ++ l) next.1.1 ∙ sym (append_assoc done (next.0 ∷ []) next.1.0)

    pub one_done : (a : ReadHdu) (flag' : Bool) → ReadsAsSeen file k start flag s.header_len s.tile (Ok a) → flag' ≡ is_empty_primary a.header → IsPart file s hs (done ++ a.header ∷ []) (k + 1) (next_start_of a.header) flag'
    one_done a flag' again says =
        let same : a.header ≡ next.0 = read_same a again in
        let after : WereSeen file s.header_len s.tile (suc k) (next_start_of a.header) next.1.0 = subst (λ (j : Header). WereSeen file s.header_len s.tile (suc k) (next_start_of j) next.1.0) (sym same) next_seen.1 in
        record {
          rest = next.1.0;
          parts = parts_more ∙ ap (λ (j : Header). (done ++ j ∷ []) ++ next.1.0) (sym same);
          count = omega (arith, length-append done (a.header ∷ []), p.count);
          seen = subst (λ n. WereSeen file s.header_len s.tile n (next_start_of a.header) next.1.0) (sym (add-one k)) after;
          flag = subst (λ b. SaysBehind file b next.1.0) (sym (says ∙ ap is_empty_primary same)) (next_flag file s.header_len s.tile k start next.0 next.1.0 (next_start_of a.header) next_seen.0 p.first after);
          first = λ e. absurd (omega (arith, e));
        }
