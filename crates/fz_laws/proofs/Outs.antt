-- The HDUs of a packed file, one after another.
use Rattle.std.proofs.Common.{◌≡◌, ℕ, suc, Bool, true, false, List, [], ◌∷◌, ◌++◌, map, if◌then◌else◌, append-nil, refl, sym, ◌∙◌, ap}
use Rattle.std.proofs.lemmas.Grind.{flat_map-append}
use Rattle.std.specs.List.{flat_map}
use Rattle.fz_block.specs.Facts.{IsHeaderOf, begun_at, facts_of}
use Rattle.fz_block.specs.Hdus.{Hdu, hdu_bytes, header_bytes}
use Rattle.fz_block.specs.Walk.{hdu_of}
use Rattle.fz_block.specs.declared.header.Header.{Header}
use Rattle.fz_head.specs.EmptyPrimary.{empty_primary}
use Rattle.fz_head.specs.Packable.{is_packable}
use Rattle.fz_head.specs.Planned.{pack_plan_of}
use Rattle.fz_head.specs.declared.options.PackOptions.{PackOptions}
use Rattle.fz_files.specs.Laws.{table_hdu}
use Rattle.fz_files.specs.Packed.{before_table, packed_from, packed_hdu, packed_image, packed_table}
use Rattle.fz_laws.proofs.Sources.{AreSources, IsSource}

abbrev pub empty_hdu : Hdu
empty_hdu = record { header = header_bytes empty_primary; payload = [] }

-- what an HDU after the first becomes
abbrev pub out_of : PackOptions → List ℕ → Header → Hdu
out_of o file h = if is_packable h then table_hdu o file h else hdu_of file h

-- what the first becomes
abbrev pub first_outs : PackOptions → List ℕ → Header → List Hdu
first_outs o file h = if is_packable h then empty_hdu ∷ table_hdu o file h ∷ [] else hdu_of file h ∷ []

abbrev pub outs : PackOptions → List ℕ → Header → List Header → List Hdu
outs o file h hs = first_outs o file h ++ map (out_of o file) hs

-- the facts and the plan are the same where the header begins at byte 0
facts_same : (header : List ℕ) (h : Header) → IsHeaderOf header h → facts_of h.hdu 0 header ≡ begun_at 0 h
facts_same header h is = sym (ap (begun_at 0) is.facts)

packable_begun : (h : Header) → is_packable (begun_at 0 h) ≡ is_packable h
unfolding is_packable
packable_begun h = refl

plan_begun : (o : PackOptions) (h : Header) → pack_plan_of o (begun_at 0 h) ≡ pack_plan_of o h
unfolding pack_plan_of
plan_begun o h = refl

-- the bytes of the table
table_bytes : (o : PackOptions) (file : List ℕ) (h : Header) → packed_image o.sums (pack_plan_of o h) (hdu_of file h) ≡ hdu_bytes (table_hdu o file h)
unfolding packed_table
table_bytes o file h = refl

packed_is : (o : PackOptions) (file : List ℕ) (k : ℕ) (h : Header) → IsSource o file k h →
    packed_hdu o k (hdu_of file h) ≡ (if is_packable h then before_table k ++ hdu_bytes (table_hdu o file h) else hdu_bytes (hdu_of file h))
packed_is o file k h s =
    let header : List ℕ = (hdu_of file h).header in
    let facts : facts_of k 0 header ≡ begun_at 0 h = ap (λ n. facts_of n 0 header) (sym s.number) ∙ facts_same header h s.is_header in
    let packable : is_packable (facts_of k 0 header) ≡ is_packable h = ap is_packable facts ∙ packable_begun h in
    let plan : pack_plan_of o (facts_of k 0 header) ≡ pack_plan_of o h = ap (pack_plan_of o) facts ∙ plan_begun o h in
    (λ i. if packable i then before_table k ++ packed_image o.sums (plan i) (hdu_of file h) else hdu_bytes (hdu_of file h))
    ∙ ap (λ l. if is_packable h then before_table k ++ l else hdu_bytes (hdu_of file h)) (table_bytes o file h)

later_is : (o : PackOptions) (file : List ℕ) (k : ℕ) (h : Header) → IsSource o file (suc k) h → packed_hdu o (suc k) (hdu_of file h) ≡ hdu_bytes (out_of o file h)
later_is o file k h s = packed_is o file (suc k) h s ∙ by_test (is_packable h)
  where
    by_test : (packable : Bool) → (if packable then hdu_bytes (table_hdu o file h) else hdu_bytes (hdu_of file h)) ≡ hdu_bytes (if packable then table_hdu o file h else hdu_of file h)
    by_test true = refl
    by_test false = refl

later_are : (o : PackOptions) (file : List ℕ) (k : ℕ) (hs : List Header) → AreSources o file (suc k) hs → packed_from o (suc k) (map (hdu_of file) hs) ≡ flat_map hdu_bytes (map (out_of o file) hs)
unfolding packed_from
later_are o file k [] are = refl
later_are o file k (h ∷ hs) are = λ i. later_is o file k h are.0 i ++ later_are o file (suc k) hs are.1 i

first_is : (o : PackOptions) (file : List ℕ) (h : Header) → IsSource o file 0 h → packed_hdu o 0 (hdu_of file h) ≡ flat_map hdu_bytes (first_outs o file h)
first_is o file h s = packed_is o file 0 h s ∙ by_test (is_packable h)
  where
    by_test : (packable : Bool) → (if packable then before_table 0 ++ hdu_bytes (table_hdu o file h) else hdu_bytes (hdu_of file h)) ≡
        flat_map hdu_bytes (if packable then empty_hdu ∷ table_hdu o file h ∷ [] else hdu_of file h ∷ [])
    by_test true = λ i. sym (append-nil (header_bytes empty_primary)) i ++ sym (append-nil (hdu_bytes (table_hdu o file h))) i
    by_test false = sym (append-nil (hdu_bytes (hdu_of file h)))

-- the packed file is the bytes of these HDUs
pub outs_are : (o : PackOptions) (file : List ℕ) (h : Header) (hs : List Header) → AreSources o file 0 (h ∷ hs) → packed_from o 0 (map (hdu_of file) (h ∷ hs)) ≡ flat_map hdu_bytes (outs o file h hs)
unfolding packed_from
outs_are o file h hs are =
    (λ i. first_is o file h are.0 i ++ later_are o file 0 hs are.1 i) ∙ sym (flat_map-append hdu_bytes (first_outs o file h) (map (out_of o file) hs))
