-- A header that was met before is read as it was, or the file gives other bytes.
use Rattle.std.proofs.Common.{◌≡◌, ℕ, ◌+◌, ◌≤◌, ◌^◌, ◌&&◌, not, nat_le, nat_lt, Bool, true, false, List, ◌∷◌, length, take, drop, Option, Some, None, Result, Ok, Err, refl, sym, ap, ◌∙◌, subst, arith}
use Rattle.std.specs.Prelude.{IfOk, IfSome, bytes_eq, codes}
use Rattle.std.proofs.lemmas.Bool.Decides.{nat_tests}
use Rattle.fz_base.specs.Refusal.{first_refusal, refusal}
use Rattle.fz_base.specs.Source.{HoldsLength}
use Rattle.fz_base.specs.declared.fault.Place.TheVariants.{Byte}
use Rattle.fz_base.specs.declared.kind.Kind.TheVariants.{Limit, TrailingBytes, Truncated}
use Rattle.fz_block.specs.Cards.{end_of}
use Rattle.fz_base.specs.Counts.{Tally}
use Rattle.fz_base.specs.Source.{Reads}
use Rattle.fz_base.specs.Stop.{IsDefined, IsRefused, ReadsAndTakes, StoppedTaking}
use Rattle.fz_base.specs.Takings.{TellsFirstPast, first_past}
use Rattle.fz_base.specs.declared.fault.Fault.{Fault}
use Rattle.fz_base.specs.declared.failure.Stop.{Stop}
use Rattle.fz_base.specs.declared.failure.Stop.TheVariants.{Refused}
use Rattle.fz_block.specs.Checks.{block_checks, blocks_to_end, hdu_at, header_blocks_of, header_room, unless_refused}
use Rattle.fz_block.specs.Facts.{IsHeaderOf}
use Rattle.fz_block.specs.Header.{next_start_of}
use Rattle.fz_block.specs.Takings.{facts_in, header_taking}
use Rattle.fz_block.specs.declared.header.Header.{Header}
use Rattle.fz_block.specs.declared.next.ReadHeader.{ReadHeader}
use Rattle.fz_patch.specs.Jobs.{IsReadAgain}

-- ---- it begins after the end of the file

-- the third of some checks refuses, if none before it does
third_refuses : (a b c : Bool) (x y z : Fault) (more : List (Bool × Fault)) → c ≡ true → (f : Fault) × (first_refusal ((a, x) ∷ (b, y) ∷ (c, z) ∷ more) ≡ Some f)
third_refuses true b c x y z more e = (x, refl)
third_refuses false true c x y z more e = (y, refl)
third_refuses false false true x y z more e = (z, refl)
third_refuses false false false x y z more e = absurd cc

is_short : (len start : ℕ) → len ≤ start → nat_lt len (start + 2880) ≡ true
is_short len start after = grind (arith, nat_tests)

none_there : (k start : ℕ) (g : List ℕ) → length g ≤ start → (f : Fault) × (header_blocks_of k start g ≡ Err f)
unfolding header_blocks_of
none_there k start g after =
    let found : (f : Fault) × (first_refusal (block_checks k start g) ≡ Some f) =
    third_refuses (nat_le 65536 k) (nat_lt 0 k && not (bytes_eq (take 8 (drop start g)) (codes "XTENSION"))) (nat_lt (length g) (start + 2880)) (refusal k (Byte start) Limit) (refusal k (Byte start) TrailingBytes)
    (refusal k (Byte (length g)) Truncated) (drop 3 (block_checks k start g)) (is_short (length g) start after) in
    (found.0, ap (unless_refused (blocks_to_end (end_of (header_room start g)))) found.1)

-- what the law of found HDUs says of their blocks
abbrev HaveBlocks : Type 0
HaveBlocks = (k start : ℕ) (file : List ℕ) (h : Header) → hdu_at k start file ≡ Ok h → header_blocks_of k start file ≡ Ok h.blocks

-- it is not the one that was found
pub not_found : HaveBlocks → (held : Option (List ℕ)) (len : ℕ) (h : Header) (r : Result ReadHeader Stop) → HoldsLength held len → len ≤ h.start →
    IfSome held (λ g. hdu_at h.hdu h.start g ≡ Ok h → (¬ IsRefused r) × IfOk r (λ q. q.facts ≡ h))
not_found blocks None len h r long after = tt
not_found blocks (Some g) len h r long after = λ found.
    let none = none_there h.hdu h.start g (omega (arith, long, after)) in
    let some : header_blocks_of h.hdu h.start g ≡ Ok h.blocks = blocks h.hdu h.start g h found in
    absurd (let same : Err none.0 ≡ Ok h.blocks = sym none.1 ∙ some in cc)

-- and nothing is taken for it
pub not_taken : (held : Option (List ℕ)) (len live limit : ℕ) (h : Header) (x : Fault) → HoldsLength held len → len ≤ h.start →
    IfSome held (λ g. TellsFirstPast {X = ReadHeader} limit (header_taking live (header_blocks_of h.hdu h.start g)) (Err (Refused x)))
not_taken None len live limit h x long after = tt
not_taken (Some g) len live limit h x long after =
    ap (λ r. first_past limit (header_taking live r)) (none_there h.hdu h.start g (omega (arith, long, after))).1

-- ---- it was refused

err_not_ok : (x : Fault) (h : Header) → Err x ≡ Ok h → ⊥
err_not_ok x h e = absurd cc

is_refused : (g : List ℕ) (h : Header) (stop : Stop) (x : Fault) → stop ≡ Refused x → IsDefined (hdu_at h.hdu h.start g) (facts_in (Err stop)) → hdu_at h.hdu h.start g ≡ Err x
is_refused g h stop x is defined = subst (λ (s : Stop). IsDefined (hdu_at h.hdu h.start g) (facts_in (Err s))) is defined

pub never_refused : (held : Option (List ℕ)) (h : Header) (stop : Stop) (x : Fault) (r : Result ReadHeader Stop) → stop ≡ Refused x → IfSome held (λ g. IsDefined (hdu_at h.hdu h.start g) (facts_in (Err stop))) →
    IfSome held (λ g. hdu_at h.hdu h.start g ≡ Ok h → (¬ IsRefused r) × IfOk r (λ q. q.facts ≡ h))
never_refused None h stop x r is defined = tt
never_refused (Some g) h stop x r is defined = λ found. absurd (err_not_ok x h (sym (is_refused g h stop x is defined) ∙ found))

pub refused_past : (X Y : Type 0) (held : Option (List ℕ)) (limit : ℕ) (takings : List ℕ → List (ℕ × ℕ)) (stop : Stop) (x y : Fault) → stop ≡ Refused x → IfSome held (λ g. TellsFirstPast {X = X} limit (takings g) (Err stop)) →
    IfSome held (λ g. TellsFirstPast {X = Y} limit (takings g) (Err (Refused y)))
refused_past X Y None limit takings stop x y is tells = tt
refused_past X Y (Some g) limit takings stop x y is tells = subst (λ (s : Stop). TellsFirstPast {X = X} limit (takings g) (Err s)) is tells

pub refused_takes : {X Y : Type 0} (s s' : Tally) (limit : ℕ) (stop : Stop) (x y : Fault) → stop ≡ Refused x → ReadsAndTakes {X = X} s s' limit (Err stop) → ReadsAndTakes {X = Y} s s' limit (Err (Refused y))
refused_takes s s' limit stop x y is a = record {
  kept = a.kept;
  ok = tt;
  stop = subst (λ (q : Stop). StoppedTaking s s' limit q) is a.stop;
}

-- ---- it was read, or not

same_facts : (h : Header) (q : ReadHeader) → ◌≡◌ {A = Result Header Fault} (Ok q.facts) (Ok h) → q.facts ≡ h
same_facts h q e = ap or_h e
  where
    or_h : Result Header Fault → Header
    or_h (Ok f) = f
    or_h (Err x) = h

ok_unrefused : (q : ReadHeader) → IsRefused {X = ReadHeader} (Ok q) → ⊥
ok_unrefused q refused = absurd (let is : Ok q ≡ Err (Refused refused.0) = refused.1 in cc)

other_unrefused : (stop : Stop) → ((x : Fault) → stop ≡ Refused x → ⊥) → IsRefused {X = ReadHeader} (Err stop) → ⊥
other_unrefused stop none refused = none refused.0 (let is : Err stop ≡ Err (Refused refused.0) = refused.1 in cc)

by_answer : (g : List ℕ) (h : Header) (r : Result ReadHeader Stop) → IsDefined (hdu_at h.hdu h.start g) (facts_in r) → hdu_at h.hdu h.start g ≡ Ok h → (¬ IsRefused r) × IfOk r (λ q. q.facts ≡ h)
by_answer g h (Ok q) defined found = (ok_unrefused q, same_facts h q (sym defined ∙ found))
by_answer g h (Err stop) defined found = (other_unrefused stop (λ x is. err_not_ok x h (sym (is_refused g h stop x is defined) ∙ found)), tt)

pub read_same : (held : Option (List ℕ)) (h : Header) (r : Result ReadHeader Stop) → IfSome held (λ g. IsDefined (hdu_at h.hdu h.start g) (facts_in r)) →
    IfSome held (λ g. hdu_at h.hdu h.start g ≡ Ok h → (¬ IsRefused r) × IfOk r (λ q. q.facts ≡ h))
read_same None h r defined = tt
read_same (Some g) h r defined = by_answer g h r defined

pub again_of : (held : Option (List ℕ)) (len : ℕ) (h : Header) (r : Result ReadHeader Stop) → IfOk r (λ q. Reads held h.start q.bytes) → IfOk r (λ q. IsHeaderOf q.bytes q.facts × (q.facts.hdu ≡ h.hdu) × (q.facts.start ≡ h.start)) →
    IfOk r (λ q. (next_start_of q.facts ≤ len) × (next_start_of q.facts ≤ 2 ^ 62)) → IfOk r (IsReadAgain held len h)
again_of held len h (Ok q) bytes facts within = record {
  is_header = facts.0;
  hdu = facts.1;
  start = facts.2;
  bytes = bytes;
  within = within.0;
  near = within.1;
  short = facts.0.short;
}
again_of held len h (Err stop) bytes facts within = tt
