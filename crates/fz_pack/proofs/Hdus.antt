-- What an HDU becomes, from its parts (FITS 4.0, section 10.1).
use Rattle.std.proofs.Common.{◌≡◌, ℕ, zero, suc, ◌+◌, ◌*◌, ◌<◌, ◌≤◌, Bool, true, false, if◌then◌else◌, List, [], ◌∷◌, ◌++◌, length, take, drop, codes, bytes_eq, Option, Some, None, IfSome, Ok, refl, sym, ap, subst, ◌∙◌, arith}
use Rattle.std.proofs.lemmas.List.{length-append, length-take}
use Rattle.fz_base.specs.Refusal.{first_refusal}
use Rattle.fz_base.specs.Sink.{written}
use Rattle.fz_base.specs.Source.{Reads}
use Rattle.fz_base.specs.declared.fault.Fault.{Fault}
use Rattle.fz_card.specs.Reading.{text_of}
use Rattle.fz_block.specs.Cards.{card_at}
use Rattle.fz_block.specs.Checks.{unless_refused}
use Rattle.fz_block.specs.Facts.{begun_at, facts_of, sort_named, sort_of}
use Rattle.fz_block.specs.Hdus.{hdu_bytes}
use Rattle.fz_block.specs.Walk.{hdu_of}
use Rattle.fz_block.specs.declared.header.Header.{Header}
use Rattle.fz_block.specs.declared.header.Sort.TheVariants.{BinTable, Image, Other}
use Rattle.fz_checks.specs.JobChecks.{pack_header_checks, plan_to_pack}
use Rattle.fz_head.specs.Packable.{is_packable, is_primary}
use Rattle.fz_head.specs.Planned.{pack_plan_of}
use Rattle.fz_head.specs.declared.options.PackOptions.{PackOptions}
use Rattle.fz_head.specs.declared.plan.Plan.{Plan}
use Rattle.fz_files.specs.Packed.{before_table, packed_hdu, packed_image}
use Rattle.fz_image.specs.Image.{HoldsTable}
use Rattle.fz_pack.specs.Again.{IsAgain, header_in}
use Rattle.fz_job.specs.Behind.{HoldsBytes, HoldsCopy, written_behind}
use Rattle.fz_pack.specs.Behind.{HoldsHdu, before_image}
use Rattle.fz_pack.specs.declared.again.Again.{Again}

-- ---- what is written

-- nothing more was written
pub none_behind : (at : ℕ) (contents : Option (List ℕ)) → contents ≡ written_behind at [] contents
none_behind zero None = refl
none_behind zero (Some c) = refl
none_behind (suc at) None = refl
none_behind (suc at) (Some c) = refl

-- after byte 0 all bytes are written
pub behind_some : (at : ℕ) (bytes : List ℕ) (contents : Option (List ℕ)) → 0 < at → written_behind at bytes contents ≡ written at bytes contents
behind_some zero bytes contents some = absurd (omega (arith, some))
behind_some (suc at) bytes contents some = refl

-- two writes one after another are one
abbrev pub AreOneWrite : Type 0
AreOneWrite = (at : ℕ) (front back : List ℕ) (contents : Option (List ℕ)) → written (at + length front) back (written at front contents) ≡ written at (front ++ back) contents

pub both_behind : AreOneWrite → (at : ℕ) (front back : List ℕ) (contents : Option (List ℕ)) → 0 < at + length front →
    written_behind (at + length front) back (written_behind at front contents) ≡ written_behind at (front ++ back) contents
both_behind next zero [] back contents some = absurd (omega (arith, some))
both_behind next zero (b ∷ front) back contents some =
    let place : 0 + length (b ∷ front) ≡ 1 + length front = omega arith in
    behind_some (0 + length (b ∷ front)) back (written 1 front contents) some
    ∙ ap (λ n. written n back (written 1 front contents)) place ∙ next 1 front back contents
both_behind next (suc at) front back contents some =
    behind_some (suc at + length front) back (written (suc at) front contents) some ∙ next (suc at) front back contents

-- bytes, and after them others, are one write of both
pub one_behind : AreOneWrite → (front back whole : List ℕ) (at mid end : ℕ) (before between now : Option (List ℕ)) → 0 < mid → whole ≡ front ++ back →
    HoldsBytes front at mid before between → now ≡ written mid back between → end ≡ mid + length back → HoldsBytes whole at end before now
one_behind next front back whole at mid end before between now some parts first put ends =
    let more : 0 < at + length front = omega (arith, some, first.behind) in
    record {
      contents = put
          ∙ ap (λ m. written m back between) first.behind
          ∙ ap (written (at + length front) back) first.contents
          ∙ sym (behind_some (at + length front) back (written_behind at front before) more)
          ∙ both_behind next at front back before more
          ∙ ap (λ l. written_behind at l before) (sym parts);
      behind = omega (arith, ends, first.behind, length-append front back, ap length parts);
    }

-- ---- what the plan says

-- what the checks answer
packed_by : (b : Bool) (q p : Plan) (r : Option Fault) → unless_refused (if b then Some q else None) r ≡ Ok (Some p) → (b ≡ true) × (p ≡ q)
packed_by true q p None is = (refl, (let e : p ≡ q = cc in e))
packed_by false q p None is = absurd cc
packed_by b q p (Some x) is = absurd cc

copied_by : (b : Bool) (q : Plan) (r : Option Fault) → unless_refused (if b then Some q else None) r ≡ Ok None → b ≡ false
copied_by true q None is = absurd cc
copied_by false q None is = refl
copied_by b q (Some x) is = absurd cc

packed_if : (o : PackOptions) (h : Header) (header : List ℕ) (p : Plan) → plan_to_pack o h header ≡ Ok (Some p) → (is_packable h ≡ true) × (p ≡ pack_plan_of o h)
unfolding plan_to_pack
packed_if o h header p is = packed_by (is_packable h) (pack_plan_of o h) p (first_refusal (pack_header_checks o h header)) is

copied_if : (o : PackOptions) (h : Header) (header : List ℕ) → plan_to_pack o h header ≡ Ok None → is_packable h ≡ false
unfolding plan_to_pack
copied_if o h header is = copied_by (is_packable h) (pack_plan_of o h) (first_refusal (pack_header_checks o h header)) is

-- it says whether the image is the primary
primary_planned : (o : PackOptions) (h : Header) → (pack_plan_of o h).primary ≡ is_primary h.sort
unfolding pack_plan_of
primary_planned o h = refl

-- ---- the primary

-- an extension is none
no_primary : (b c : Bool) → is_primary (if b then Image else (if c then BinTable else Other)) ≡ false
no_primary true c = refl
no_primary false true = refl
no_primary false false = refl

named_no_primary : (text : Option (List ℕ)) → is_primary (sort_named text) ≡ false
named_no_primary None = refl
named_no_primary (Some text) = no_primary (bytes_eq text (codes "IMAGE")) (bytes_eq text (codes "BINTABLE"))

-- what stands before a table is that of HDU 0, or nothing
before_is : (k : ℕ) (header : List ℕ) → before_table k ≡ before_image (is_primary (sort_of k header))
before_is zero header = refl
before_is (suc k) header = ap before_image (sym (named_no_primary (text_of (card_at header 0))))

-- HDU 0 is the primary, and no other
is_first : (k : ℕ) (header : List ℕ) → is_primary (sort_of k header) ≡ true → k ≡ 0
is_first zero header is = refl
is_first (suc k) header is = let no = named_no_primary (text_of (card_at header 0)) in absurd cc

is_later : (k : ℕ) (header : List ℕ) → is_primary (sort_of k header) ≡ false → 0 < k
is_later zero header is = absurd cc
is_later (suc k) header is = omega arith

-- the table of an image is after byte 0
pub behind_first : (primary : Bool) (k at mid : ℕ) → (primary ≡ true → mid ≡ 2880) → (primary ≡ false → 0 < k) → (0 < k → 0 < at) → at ≤ mid → 0 < mid
behind_first true k at mid first later behind near = omega (arith, first refl)
behind_first false k at mid first later behind near = omega (arith, behind (later refl), near)

-- ---- the facts at byte 0

packable_begun : (h : Header) → is_packable (begun_at 0 h) ≡ is_packable h
unfolding is_packable
packable_begun h = refl

plan_begun : (o : PackOptions) (h : Header) → pack_plan_of o (begun_at 0 h) ≡ pack_plan_of o h
unfolding pack_plan_of
plan_begun o h = refl

-- ---- what an HDU becomes, whose header was read once more

module _ (o : PackOptions) (held : Option (List ℕ)) (n : ℕ) (buf : List ℕ) (a : Again) (w : IsAgain o held n buf a) where
  -- its header in the file is the one that was read
  header_there : (g : List ℕ) → held ≡ Some g → (hdu_of g a.header).header ≡ header_in a buf
  header_there g told =
      let long : length (header_in a buf) ≡ 2880 * a.header.blocks = omega (arith, w.room, length-take (2880 * a.header.blocks) buf) in
      let read : header_in a buf ≡ take (length (header_in a buf)) (drop a.header.start g) = subst (λ (l : Option (List ℕ)). Reads l a.header.start (header_in a buf)) told w.read in
      sym (read ∙ ap (λ m. take m (drop a.header.start g)) long)

  -- what it becomes, by its facts
  becomes : (g : List ℕ) → held ≡ Some g →
      packed_hdu o a.header.hdu (hdu_of g a.header) ≡ (if is_packable a.header then before_table a.header.hdu ++ packed_image o.sums (pack_plan_of o a.header) (hdu_of g a.header) else hdu_bytes (hdu_of g a.header))
  becomes g told =
      let h = a.header in
      let facts : facts_of h.hdu 0 (hdu_of g h).header ≡ begun_at 0 h = ap (facts_of h.hdu 0) (header_there g told) ∙ sym (ap (begun_at 0) w.header.facts) in
      let packable : is_packable (facts_of h.hdu 0 (hdu_of g h).header) ≡ is_packable h = ap is_packable facts ∙ packable_begun h in
      let plan : pack_plan_of o (facts_of h.hdu 0 (hdu_of g h).header) ≡ pack_plan_of o h = ap (pack_plan_of o) facts ∙ plan_begun o h in
      λ i. if packable i then before_table h.hdu ++ packed_image o.sums (plan i) (hdu_of g h) else hdu_bytes (hdu_of g h)

  -- an HDU without a plan stays as it is
  stays : (g : List ℕ) → held ≡ Some g → a.plan ≡ None → packed_hdu o a.header.hdu (hdu_of g a.header) ≡ hdu_bytes (hdu_of g a.header)
  stays g told is =
      let no : is_packable a.header ≡ false = copied_if o a.header (header_in a buf) (w.planned ∙ ap Ok is) in
      becomes g told ∙ ap (λ (b : Bool). if b then before_table a.header.hdu ++ packed_image o.sums (pack_plan_of o a.header) (hdu_of g a.header) else hdu_bytes (hdu_of g a.header)) no

  pub holds_copy : a.plan ≡ None → (at end : ℕ) (before now : Option (List ℕ)) → IfSome held (λ g. HoldsCopy a.header g at end before now) → IfSome held (λ g. HoldsHdu o a.header g at end before now)
  holds_copy is at end before now = by_held held refl
    where
      by_held : (l : Option (List ℕ)) → held ≡ l → IfSome l (λ g. HoldsCopy a.header g at end before now) → IfSome l (λ g. HoldsHdu o a.header g at end before now)
      by_held None told put = tt
      by_held (Some g) told put = subst (λ (l : List ℕ). HoldsBytes l at end before now) (sym (stays g told is)) put

  module _ (p : Plan) (is : a.plan ≡ Some p) where
    planned : (is_packable a.header ≡ true) × (p ≡ pack_plan_of o a.header)
    planned = packed_if o a.header (header_in a buf) p (w.planned ∙ ap Ok is)

    sort_is : p.primary ≡ is_primary (sort_of a.header.hdu (header_in a buf))
    sort_is = ap (λ (q : Plan). q.primary) planned.1 ∙ primary_planned o a.header ∙ ap (λ (h : Header). is_primary h.sort) w.header.facts

    -- the primary is HDU 0
    pub primary_first : p.primary ≡ true → a.header.hdu ≡ 0
    primary_first primary = is_first a.header.hdu (header_in a buf) (sym sort_is ∙ primary)

    pub primary_only : p.primary ≡ false → 0 < a.header.hdu
    primary_only primary = is_later a.header.hdu (header_in a buf) (sym sort_is ∙ primary)

    -- an HDU with a plan becomes its table
    table_is : (g : List ℕ) → held ≡ Some g → packed_hdu o a.header.hdu (hdu_of g a.header) ≡ before_image p.primary ++ packed_image o.sums p (hdu_of g a.header)
    table_is g told =
        let before : before_table a.header.hdu ≡ before_image p.primary = before_is a.header.hdu (header_in a buf) ∙ ap before_image (sym sort_is) in
        becomes g told
        ∙ ap (λ (b : Bool). if b then before_table a.header.hdu ++ packed_image o.sums (pack_plan_of o a.header) (hdu_of g a.header) else hdu_bytes (hdu_of g a.header)) planned.0
        ∙ ap (λ (l : List ℕ). l ++ packed_image o.sums (pack_plan_of o a.header) (hdu_of g a.header)) before
        ∙ ap (λ (q : Plan). before_image p.primary ++ packed_image o.sums q (hdu_of g a.header)) (sym planned.1)

    -- the plan was read with the header
    pub with_plan : IsAgain o held n buf (record { header = a.header; plan = Some p })
    with_plan = subst (λ (q : Option Plan). IsAgain o held n buf (record { header = a.header; plan = q })) is w

    pub holds_table : AreOneWrite → (at mid end : ℕ) (before between now : Option (List ℕ)) → 0 < mid → HoldsBytes (before_image p.primary) at mid before between →
        IfSome held (λ g. HoldsTable o.sums p a.header g mid end between now) → IfSome held (λ g. HoldsHdu o a.header g at end before now)
    holds_table next at mid end before between now some first = by_held held refl
      where
        by_held : (l : Option (List ℕ)) → held ≡ l → IfSome l (λ g. HoldsTable o.sums p a.header g mid end between now) → IfSome l (λ g. HoldsHdu o a.header g at end before now)
        by_held None told put = tt
        by_held (Some g) told put =
            one_behind next (before_image p.primary) (packed_image o.sums p (hdu_of g a.header)) (packed_hdu o a.header.hdu (hdu_of g a.header)) at mid end before between now some (table_is g told) first put.contents put.behind
