-- A header that was restored into the front of a buffer.
use Rattle.std.specs.Prelude.{codes as letters}
use Rattle.std.proofs.Common.{◌≡◌, ℕ, ◌+◌, ◌*◌, ◌/◌, ◌^◌, ◌≤◌, true, List, length, take, Option, Some, None, IfSome, Ok, sym, ap, ◌∙◌, subst, arith}
use Rattle.std.proofs.lemmas.List.{length-take-le}
use Rattle.fz_block.specs.Cards.{card_at}
use Rattle.fz_block.specs.Checks.{header_of, is_set}
use Rattle.fz_block.specs.Facts.{IsHeaderOf}
use Rattle.fz_block.specs.declared.header.Header.{Header}
use Rattle.fz_checks.specs.JobChecks.{plan_to_pack}
use Rattle.fz_head.specs.declared.options.PackOptions.{PackOptions}
use Rattle.fz_head.specs.declared.plan.Plan.{Plan}
use Rattle.fz_strict.specs.Origins.{IsRestored, restored_bytes}
use Rattle.fz_strict.specs.declared.origin.Origin.{Origin}

pub whole_len : (header : List ℕ) (h : Header) → IsHeaderOf header h → 2880 * h.blocks ≡ length header
whole_len header h is =
    let blocks : h.blocks ≡ length header / 2880 = ap (λ (x : Header). x.blocks) is.facts in
    omega (arith, blocks, is.whole.blocks)

-- what is said of so many bytes is said of those of its blocks
pub moved : (P : List ℕ → Header → Type 0) (len : ℕ) (plain : List ℕ) (r : Option Header) → len ≤ length plain → IfSome r (IsHeaderOf (take len plain)) → IfSome r (P (take len plain)) → IfSome r (λ h. P (take (2880 * h.blocks) plain) h)
moved P len plain None room is p = tt
moved P len plain (Some h) room is p =
    let same : 2880 * h.blocks ≡ len = whole_len (take len plain) h is ∙ length-take-le len plain room in
    subst (λ n. P (take n plain) h) (sym same) p

pub within : (len : ℕ) (plain : List ℕ) (r : Option Header) → len ≤ length plain → IfSome r (IsHeaderOf (take len plain)) → IfSome r (λ h. 2880 * h.blocks ≤ length plain)
within len plain None room is = tt
within len plain (Some h) room is = omega (arith, whole_len (take len plain) h is, length-take-le len plain room, room)

pub fits : (len most : ℕ) (plain : List ℕ) (r : Option Header) → len ≤ length plain → len ≤ most → IfSome r (IsHeaderOf (take len plain)) → IfSome r (λ h. 2880 * h.blocks ≤ most)
fits len most plain None room few is = tt
fits len most plain (Some h) room few is = omega (arith, whole_len (take len plain) h is, length-take-le len plain room, few)

pub always : (P : Header → Type 0) (r : Option Header) → ((h : Header) → P h) → IfSome r P
always P None is = tt
always P (Some h) is = is h

-- ---- an image with this header follows HDUs, and is packed by this plan

module _ (o : PackOptions) (origin : Origin) (cards : List (List ℕ)) (p : Plan) (bytes : List ℕ) (same : bytes ≡ restored_bytes cards) where
  abbrev IsSimple : List ℕ → Type 0
  IsSimple l = origin.hdus ≡ 0 → is_set (letters "SIMPLE") (card_at l 0) ≡ true

  pub is_restored : (r : Option Header) → IfSome r (λ h. origin.end + length bytes ≤ 2 ^ 62) → IfSome r (λ h. header_of origin.hdus origin.end (2 ^ 62) bytes ≡ Ok h) → IfSome r (λ h. plan_to_pack o h bytes ≡ Ok (Some p)) →
      IfSome r (λ h. origin.hdus ≡ 0 → is_set (letters "SIMPLE") (card_at bytes 0) ≡ true) → IfSome r (IsRestored o origin cards p)
  is_restored None room found planned simple = tt
  is_restored (Some h) room found planned simple = record {
    within = subst (λ l. origin.end + length l ≤ 2 ^ 62) same room;
    found = subst (λ l. header_of origin.hdus origin.end (2 ^ 62) l ≡ Ok h) same found;
    plan = subst (λ l. plan_to_pack o h l ≡ Ok (Some p)) same planned;
    simple = subst IsSimple same simple;
  }

  pub none_restored :
      (origin.end + length bytes ≤ 2 ^ 62 → (origin.hdus ≡ 0 → is_set (letters "SIMPLE") (card_at bytes 0) ≡ true) → (h : Header) → header_of origin.hdus origin.end (2 ^ 62) bytes ≡ Ok h → ¬ (plan_to_pack o h bytes ≡ Ok (Some p))) →
      (h : Header) → ¬ IsRestored o origin cards p h
  none_restored never h is =
      let back : restored_bytes cards ≡ bytes = sym same in
      never (subst (λ l. origin.end + length l ≤ 2 ^ 62) back is.within) (subst IsSimple back is.simple) h
      (subst (λ l. header_of origin.hdus origin.end (2 ^ 62) l ≡ Ok h) back is.found) (subst (λ l. plan_to_pack o h l ≡ Ok (Some p)) back is.plan)
