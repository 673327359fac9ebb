-- A header that was read into a longer buffer, which was taken after the first was handed back.
use Rattle.std.proofs.Common.{◌≡◌, ℕ, ◌+◌, ◌-◌, ◌*◌, ◌<◌, ◌≤◌, max, List, Option, Some, None, IfOk, IfSome, OnOk, OnErr, Result, Ok, Err, length, take, drop, ◌++◌, sym, subst, ◌∙◌, ap, arith}
use Rattle.std.proofs.lemmas.List.{take_all}
use Rattle.fz_base.specs.Meter.{Gauge, handed_back, taken}
use Rattle.fz_base.specs.Source.{Reads}
use Rattle.fz_base.specs.Takings.{highest}
use Rattle.fz_base.specs.declared.failure.Stop.{Stop}
use Rattle.fz_block.specs.Checks.{header_blocks_of}
use Rattle.fz_block.specs.Facts.{IsHeaderOf}
use Rattle.fz_block.specs.Takings.{header_taking}
use Rattle.fz_block.specs.declared.header.Header.{Header}
use Rattle.fz_block.specs.declared.next.ReadHeader.{ReadHeader}
use Rattle.fz_block.proofs.Fitting.{given_back}
use Rattle.fz_block.proofs.HduLemmas.{blocks_of}

-- what is said of a header that was read
abbrev pub SaysFacts : ℕ → ℕ → ReadHeader → Type 0
SaysFacts k start r = IsHeaderOf r.bytes r.facts × (r.facts.hdu ≡ k) × (r.facts.start ≡ start)

all_blocks : (k start : ℕ) (r : ReadHeader) → SaysFacts k start r → r.bytes ≡ take (2880 * r.facts.blocks) r.bytes
all_blocks k start r says = sym (take_all (2880 * r.facts.blocks) r.bytes (omega (arith, blocks_of r.bytes r.facts says.0)))

pub longer_bytes : (held mid : Option (List ℕ)) (k start : ℕ) (r : Result ReadHeader Stop) → mid ≡ held → IfOk r (SaysFacts k start) → IfOk r (λ r. Reads mid start r.bytes) →
    IfOk r (λ r. Reads held start (take (2880 * r.facts.blocks) r.bytes))
longer_bytes held mid k start (Err stop) same says read = tt
longer_bytes held mid k start (Ok r) same says read = subst (λ b. Reads held start b) (all_blocks k start r says) (subst (λ h. Reads h start r.bytes) same read)

pub longer_facts : (k start : ℕ) (r : Result ReadHeader Stop) → IfOk r (SaysFacts k start) → IfOk r (λ r. IsHeaderOf (take (2880 * r.facts.blocks) r.bytes) r.facts × (r.facts.hdu ≡ k) × (r.facts.start ≡ start))
longer_facts k start (Err stop) says = tt
longer_facts k start (Ok r) says = (subst (λ b. IsHeaderOf b r.facts) (all_blocks k start r says) says.0, says.1, says.2)

pub longer_room : (k start room n : ℕ) (r : Result ReadHeader Stop) → room < 2880 * n → IfOk r (SaysFacts k start) → IfOk r (λ r. length r.bytes ≡ 2880 * n) →
    IfOk r (λ r. length r.bytes ≡ max room (2880 * r.facts.blocks))
longer_room k start room n (Err stop) more says long = tt
longer_room k start room n (Ok r) more says long = omega (arith, blocks_of r.bytes r.facts says.0, more, long)

-- what the meter had, before the longer buffer was taken and after
abbrev pub TakesLonger : ℕ → Gauge → Gauge → ReadHeader → Type 0
TakesLonger n mid new r = (mid.live + 2880 * n ≤ mid.limit) × (new ≡ taken mid (2880 * n))

pub longer_live : (old mid new : Gauge) (room n : ℕ) (r : Result ReadHeader Stop) → mid ≡ handed_back old room → IfOk r (TakesLonger n mid new) → IfOk r (λ r. length r.bytes ≡ 2880 * n) →
    IfOk r (λ r. (length r.bytes ≤ new.live) × (new.live - length r.bytes ≡ old.live - room))
longer_live old mid new room n (Err stop) back took long = tt
longer_live old mid new room n (Ok r) back took long =
    let live : mid.live ≡ old.live - room = ap (λ (g : Gauge). g.live) back in
    let more : new.live ≡ mid.live + 2880 * n = ap (λ (g : Gauge). g.live) took.1 in
    (omega (arith, more, long), omega (arith, live, more, long))

pub longer_reached : (old mid new : Gauge) (room n : ℕ) (r : Result ReadHeader Stop) → mid ≡ handed_back old room → IfOk r (TakesLonger n mid new) → OnOk r (new.peak ≡ max old.peak new.live)
longer_reached old mid new room n (Err stop) back took = tt
longer_reached old mid new room n (Ok r) back took =
    let peak : mid.peak ≡ old.peak = ap (λ (g : Gauge). g.peak) back in
    let more : new.live ≡ mid.live + 2880 * n = ap (λ (g : Gauge). g.live) took.1 in
    let high : new.peak ≡ max mid.peak (mid.live + 2880 * n) = ap (λ (g : Gauge). g.peak) took.1 in
    omega (arith, peak, more, high)

pub longer_given : (old mid new : Gauge) (room : ℕ) (r : Result ReadHeader Stop) → mid ≡ handed_back old room → OnErr r ((new.live ≡ mid.live) × (new.limit ≡ mid.limit)) → OnErr r (new.live ≡ old.live - room)
longer_given old mid new room (Ok r) back given = tt
longer_given old mid new room (Err stop) back given = given.0 ∙ ap (λ (g : Gauge). g.live) back

pub longer_limit : (old mid new : Gauge) (room n : ℕ) (r : Result ReadHeader Stop) → mid ≡ handed_back old room → IfOk r (TakesLonger n mid new) → OnErr r ((new.live ≡ mid.live) × (new.limit ≡ mid.limit)) → new.limit ≡ old.limit
longer_limit old mid new room n (Ok r) back took given = ap (λ (g : Gauge). g.limit) took.1 ∙ ap (λ (g : Gauge). g.limit) back
longer_limit old mid new room n (Err stop) back took given = given.1 ∙ ap (λ (g : Gauge). g.limit) back

pub longer_peak : (held : Option (List ℕ)) (old mid new : Gauge) (room n k start : ℕ) (r : Result ReadHeader Stop) → mid ≡ handed_back old room → IfSome held (λ g. header_blocks_of k start g ≡ Ok n) → IfOk r (TakesLonger n mid new) →
    OnOk r (IfSome held (λ g. new.peak ≡ max old.peak (highest (header_taking (old.live - room) (header_blocks_of k start g)))))
longer_peak held old mid new room n k start (Err stop) back blocks took = tt
longer_peak None old mid new room n k start (Ok r) back blocks took = tt
longer_peak (Some f) old mid new room n k start (Ok r) back blocks took =
    let most : highest (header_taking (old.live - room) (header_blocks_of k start f)) ≡ max (old.live - room + 2880 * n) 0 = ap (λ b. highest (header_taking (old.live - room) b)) blocks in
    let live : mid.live ≡ old.live - room = ap (λ (g : Gauge). g.live) back in
    let peak : mid.peak ≡ old.peak = ap (λ (g : Gauge). g.peak) back in
    let high : new.peak ≡ max mid.peak (mid.live + 2880 * n) = ap (λ (g : Gauge). g.peak) took.1 in
    omega (arith, most, live, peak, high)

-- a buffer that was lent whole and given back
pub given_bytes : (held : Option (List ℕ)) (start : ℕ) (old new : List ℕ) → length new ≡ length old → Reads held start new → Reads held start (take (length old) (new ++ drop (length new) old))
given_bytes held start old new long read = subst (λ b. Reads held start b) (sym (given_back old new long)) read

pub given_facts : (k start : ℕ) (old new : List ℕ) (h : Header) → length new ≡ length old → IsHeaderOf new h × (h.hdu ≡ k) × (h.start ≡ start) →
    IsHeaderOf (take (length old) (new ++ drop (length new) old)) h × (h.hdu ≡ k) × (h.start ≡ start)
given_facts k start old new h long is = subst (λ b. IsHeaderOf b h × (h.hdu ≡ k) × (h.start ≡ start)) (sym (given_back old new long)) is
