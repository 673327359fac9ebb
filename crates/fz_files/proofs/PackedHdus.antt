-- What an HDU becomes in a packed file, by the facts at its own place.
use Rattle.std.proofs.Common.{◌≡◌, ℕ, zero, suc, ◌==◌, Bool, false, List, [], ◌++◌, if◌then◌else◌, refl, sym, ap, ◌∙◌, arith}
use Rattle.std.proofs.lemmas.Bool.Decides.{nat_tests}
use Rattle.fz_block.specs.Facts.{IsHeaderOf, begun_at, facts_of}
use Rattle.fz_block.specs.Hdus.{hdu_bytes, header_bytes}
use Rattle.fz_block.specs.declared.header.Header.{Header}
use Rattle.fz_head.specs.EmptyPrimary.{empty_primary}
use Rattle.fz_head.specs.Packable.{is_packable, is_primary}
use Rattle.fz_head.specs.Planned.{pack_plan_of}
use Rattle.fz_head.specs.declared.options.PackOptions.{PackOptions}
use Rattle.fz_files.specs.Laws.{HdusArePacked, PrimariesStandFirst, TablesAreHdus}
use Rattle.fz_files.specs.Packed.{before_table, packed_image, packed_table}

-- the facts and the plan are the same where the header begins at byte 0
pub hdus_are_packed : ((start : ℕ) (h : Header) → is_packable (begun_at start h) ≡ is_packable h) → ((o : PackOptions) (start : ℕ) (h : Header) → pack_plan_of o (begun_at start h) ≡ pack_plan_of o h) → HdusArePacked
hdus_are_packed packable_begun plan_begun o d h is =
    let facts : facts_of h.hdu 0 d.header ≡ begun_at 0 h = sym (ap (begun_at 0) is.facts) in
    let packable : is_packable (facts_of h.hdu 0 d.header) ≡ is_packable h = ap is_packable facts ∙ packable_begun 0 h in
    let plan : pack_plan_of o (facts_of h.hdu 0 d.header) ≡ pack_plan_of o h = ap (pack_plan_of o) facts ∙ plan_begun o 0 h in
    λ i. if packable i then before_table h.hdu ++ packed_image o.sums (plan i) d else hdu_bytes d

-- only HDU 0 is a primary
before_number : (k : ℕ) → before_table k ≡ (if k == 0 then header_bytes empty_primary else [])
before_number zero = refl
before_number (suc k) =
    let other : (suc k == 0) ≡ false = grind (arith, nat_tests) in
    sym (ap (λ (b : Bool). if b then header_bytes empty_primary else []) other)

pub primaries_stand_first : ((header : List ℕ) (h : Header) → IsHeaderOf header h → is_primary h.sort ≡ (h.hdu == 0)) → ((o : PackOptions) (h : Header) → (pack_plan_of o h).primary ≡ is_primary h.sort) → PrimariesStandFirst
primaries_stand_first first planned o header h is =
    before_number h.hdu ∙ sym (ap (λ (b : Bool). if b then header_bytes empty_primary else []) (planned o h ∙ first header h is))

pub tables_are_hdus : TablesAreHdus
unfolding packed_table
tables_are_hdus o file h = refl
