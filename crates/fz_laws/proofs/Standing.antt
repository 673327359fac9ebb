-- What the HDUs of a packed file stand for.
use Rattle.std.proofs.Common.{◌≡◌, ℕ, zero, suc, ◌+◌, ◌<◌, ◌≤◌, ◌==◌, ◌&&◌, ◌||◌, Bool, true, false, true≢false, cond, ℤ, List, [], ◌∷◌, ◌++◌, length, map, Option, Some, None, IsOk, bytes_eq, codes, if◌then◌else◌, refl, sym, subst, ◌∙◌, ap, arith}
use Rattle.std.specs.Fmt.{digits}
use Rattle.std.specs.List.{filter, flat_map, list_any, range_with_len}
use Rattle.fz_base.specs.Refusal.{first_refusal}
use Rattle.fz_base.specs.declared.fault.Fault.{Fault}
use Rattle.fz_card.specs.Made.{int_card_bytes, logical_card_bytes}
use Rattle.fz_card.specs.Reading.{integer_of, text_of}
use Rattle.fz_block.specs.Cards.{card_at}
use Rattle.fz_block.specs.Checks.{is_set, unless_refused}
use Rattle.fz_block.specs.Facts.{facts_of, sort_named, sort_of}
use Rattle.fz_block.specs.Hdus.{Hdu, cards_of, hdu_bytes, header_bytes, size_at}
use Rattle.fz_block.specs.Walk.{RefusesNone, facts_from, hdu_of, is_stop, stops}
use Rattle.fz_block.specs.declared.header.Header.{Header}
use Rattle.fz_block.specs.declared.header.Sort.TheVariants.{Primary, Image, BinTable, Other}
use Rattle.fz_grid.specs.Grid.{tile}
use Rattle.fz_grid.specs.Region.{lengths_of}
use Rattle.fz_tile.specs.Plain.{AreBytes}
use Rattle.fz_head.specs.EmptyPrimary.{empty_primary}
use Rattle.fz_checks.specs.JobChecks.{is_after_empty, says_packed, unpack_checks, unpack_hdu_checks}
use Rattle.fz_checks.specs.Judges.{unpack_judge}
use Rattle.fz_head.specs.Packable.{is_packable, is_packed, is_primary, is_table}
use Rattle.fz_head.specs.PlainHeader.{was_primary}
use Rattle.fz_head.specs.Planned.{AreOptions, pack_plan_of}
use Rattle.fz_head.specs.declared.options.PackOptions.{PackOptions}
use Rattle.fz_files.specs.FirstFault.{ImageRow, IsFirstRowFault, all_rows, image_row, rows_of}
use Rattle.fz_files.specs.Laws.{IsTableOf, IsTaken, table_hdu, totals_from}
use Rattle.fz_files.specs.Packed.{tiles_in}
use Rattle.fz_files.specs.Restored.{HduStandsFor, HdusStandFor, RowStandsFor, StandsForAs, header_in, is_image, is_packed_primary, plan_in, standing}
use Rattle.fz_laws.specs.RoundTripTaken.{TableLaws}
use Rattle.fz_laws.proofs.Outs.{empty_hdu, out_of, outs}
use Rattle.fz_laws.proofs.Passing.{accepted_none, copied_none, copied_packed, copied_says}
use Rattle.fz_laws.proofs.Sources.{AreSources, IsSource, taken}

-- ---- one HDU after the first

-- its facts in the packed file, in which it stands
pub record IsOut (bytes : List ℕ) (j start : ℕ) (d : Hdu) (f : Header) : Type 0 where
  pub facts : f ≡ facts_of (suc j) start d.header
  pub here : hdu_of bytes f ≡ d

-- an extension is no primary
named_no_primary : (text : Option (List ℕ)) → is_primary (sort_named text) ≡ false
named_no_primary None = refl
named_no_primary (Some text) = by_tests (bytes_eq text (codes "IMAGE")) (bytes_eq text (codes "BINTABLE"))
  where
    by_tests : (a b : Bool) → is_primary (if a then Image else (if b then BinTable else Other)) ≡ false
    by_tests true b = refl
    by_tests false true = refl
    by_tests false false = refl

pub sort_is : (o : PackOptions) (file : List ℕ) (k : ℕ) (h : Header) → IsSource o file k h → h.sort ≡ sort_of k (hdu_of file h).header
sort_is o file k h s = ap (λ (f : Header). f.sort) s.is_header.facts ∙ ap (λ n. sort_of n (hdu_of file h).header) s.number

later_no_primary : (o : PackOptions) (file : List ℕ) (k : ℕ) (h : Header) → IsSource o file (suc k) h → is_primary h.sort ≡ false
later_no_primary o file k h s = ap is_primary (sort_is o file (suc k) h s) ∙ named_no_primary (text_of (card_at (hdu_of file h).header 0))

plan_primary : (o : PackOptions) (h : Header) → (pack_plan_of o h).primary ≡ is_primary h.sort
unfolding pack_plan_of
plan_primary o h = refl

-- no card of one that is copied says that it is packed
pub copied_facts : (o : PackOptions) (file bytes : List ℕ) (k j start : ℕ) (h f : Header) → IsSource o file (suc k) h → IsOut bytes j start (hdu_of file h) f →
    (is_table f.sort && list_any says_packed (cards_of (hdu_of bytes f).header)) ≡ false
copied_facts o file bytes k j start h f s out =
    let sort : f.sort ≡ h.sort = ap (λ (g : Header). g.sort) out.facts ∙ sym (sort_is o file (suc k) h s) in
    (λ i. is_table (sort i) && list_any says_packed (cards_of (out.here i).header)) ∙ copied_says o file (suc k) h s

ok_none : (found : Option Fault) → found ≡ None → IsOk (unless_refused false found)
ok_none None none = refl
ok_none (Some fault) none = absurd cc

table_judge : TableLaws → (o : PackOptions) (file bytes : List ℕ) (j start : ℕ) (h f : Header) → IsTaken o file h → IsOut bytes j start (table_hdu o file h) f →
    ((pack_plan_of o h).primary ≡ true → is_after_empty bytes f ≡ true) → IsOk (unpack_judge bytes f)
table_judge l o file bytes j start h f is out behind =
    let d : Hdu = table_hdu o file h in
    let none : first_refusal (unpack_checks (facts_of (suc j) start d.header) d.header (is_after_empty bytes f)) ≡ None =
    accepted_none (pack_plan_of o h) (totals_from o file h) d.header (facts_of (suc j) start d.header) (is_after_empty bytes f) (l.accepted o file h j start is) behind in
    ok_none (first_refusal (unpack_hdu_checks bytes f)) ((λ i. first_refusal (unpack_checks (out.facts i) (out.here i).header (is_after_empty bytes f))) ∙ none)

later_judge : TableLaws → (o : PackOptions) (file bytes : List ℕ) (k j start : ℕ) (h f : Header) → AreOptions o → AreBytes file → IsSource o file (suc k) h → IsOut bytes j start (out_of o file h) f →
    IsOk (unpack_judge bytes f)
later_judge l o file bytes k j start h f options all s out = by_test (is_packable h) refl out
  where
    by_test : (packable : Bool) → is_packable h ≡ packable → IsOut bytes j start (if packable then table_hdu o file h else hdu_of file h) f → IsOk (unpack_judge bytes f)
    by_test true is out =
        table_judge l o file bytes j start h f (taken o file (suc k) h options all s is) out
        (λ primary. absurd (true≢false (sym primary ∙ (plan_primary o h ∙ later_no_primary o file k h s))))
    by_test false is out = ok_none (first_refusal (unpack_hdu_checks bytes f)) (copied_none (hdu_of bytes f).header f (is_after_empty bytes f) (copied_facts o file bytes k j start h f s out))

-- what it stands for
pub table_of_image : (o : PackOptions) (file bytes : List ℕ) (j start : ℕ) (h f : Header) → IsTaken o file h → IsOut bytes j start (table_hdu o file h) f → IsTableOf o file h bytes f
table_of_image o file bytes j start h f is out =
    let number : f.hdu ≡ suc j = ap (λ (g : Header). g.hdu) out.facts in
    let first : f.start ≡ start = ap (λ (g : Header). g.start) out.facts in
    record {
      taken = is;
      behind = omega (arith, number);
      facts = out.facts ∙ (λ i. facts_of (sym number i) (sym first i) (sym out.here i).header);
      table = out.here;
    }

later_stands : TableLaws → (o : PackOptions) (file bytes : List ℕ) (k j start : ℕ) (h f : Header) → AreOptions o → AreBytes file → IsSource o file (suc k) h → IsOut bytes j start (out_of o file h) f →
    HduStandsFor bytes f (hdu_bytes (hdu_of file h))
later_stands l o file bytes k j start h f options all s out = by_test (is_packable h) refl out
  where
    by_test : (packable : Bool) → is_packable h ≡ packable → IsOut bytes j start (if packable then table_hdu o file h else hdu_of file h) f → HduStandsFor bytes f (hdu_bytes (hdu_of file h))
    by_test true is out = l.stands o file h bytes f (table_of_image o file bytes j start h f (taken o file (suc k) h options all s is) out)
    by_test false is out =
        subst (λ b. StandsForAs b bytes f (hdu_bytes (hdu_of file h))) (sym (copied_packed (hdu_of bytes f).header f (copied_facts o file bytes k j start h f s out))) (ap hdu_bytes (sym out.here))

-- it is no packed primary
pub later_primary : TableLaws → (o : PackOptions) (file bytes : List ℕ) (k j start : ℕ) (h f : Header) → AreOptions o → AreBytes file → IsSource o file (suc k) h → IsOut bytes j start (out_of o file h) f →
    is_packed_primary bytes f ≡ false
later_primary l o file bytes k j start h f options all s out = by_test (is_packable h) refl out
  where
    by_test : (packable : Bool) → is_packable h ≡ packable → IsOut bytes j start (if packable then table_hdu o file h else hdu_of file h) f → is_packed_primary bytes f ≡ false
    by_test true is out = l.primary o file h bytes f (table_of_image o file bytes j start h f (taken o file (suc k) h options all s is) out) ∙ later_no_primary o file k h s
    by_test false is out = ap (λ b. b && was_primary (cards_of (header_in bytes f))) (copied_packed (hdu_of bytes f).header f (copied_facts o file bytes k j start h f s out))

-- ---- those after the first

pub head_same : (x y : Hdu) (xs ys : List Hdu) → x ∷ xs ≡ y ∷ ys → x ≡ y
head_same x y xs ys e = cc

pub tail_same : (x y : Hdu) (xs ys : List Hdu) → x ∷ xs ≡ y ∷ ys → xs ≡ ys
tail_same x y xs ys e = cc

pub out_here : (bytes : List ℕ) (j start : ℕ) (d : Hdu) (xs ys : List Hdu) → hdu_of bytes (facts_of (suc j) start d.header) ∷ xs ≡ d ∷ ys → IsOut bytes j start d (facts_of (suc j) start d.header)
out_here bytes j start d xs ys e = record { facts = refl; here = head_same (hdu_of bytes (facts_of (suc j) start d.header)) d xs ys e }

later_judged : TableLaws → (o : PackOptions) (file bytes : List ℕ) (k j start : ℕ) (hs : List Header) → AreOptions o → AreBytes file → AreSources o file (suc k) hs →
    map (hdu_of bytes) (facts_from (suc j) start (map (out_of o file) hs)) ≡ map (out_of o file) hs → RefusesNone (unpack_judge bytes) (facts_from (suc j) start (map (out_of o file) hs))
later_judged l o file bytes k j start [] options all are here = tt
later_judged l o file bytes k j start (h ∷ hs) options all are here =
    let d : Hdu = out_of o file h in
    let rest : List Hdu = map (hdu_of bytes) (facts_from (suc (suc j)) (start + length (hdu_bytes d)) (map (out_of o file) hs)) in (
      later_judge l o file bytes k j start h (facts_of (suc j) start d.header) options all are.0 (out_here bytes j start d rest (map (out_of o file) hs) here),
      later_judged l o file bytes (suc k) (suc j) (start + length (hdu_bytes d)) hs options all are.1 (tail_same (hdu_of bytes (facts_of (suc j) start d.header)) d rest (map (out_of o file) hs) here),
    )

later_stand : TableLaws → (o : PackOptions) (file bytes : List ℕ) (k j start : ℕ) (hs : List Header) → AreOptions o → AreBytes file → AreSources o file (suc k) hs →
    map (hdu_of bytes) (facts_from (suc j) start (map (out_of o file) hs)) ≡ map (out_of o file) hs →
    HdusStandFor bytes (facts_from (suc j) start (map (out_of o file) hs)) (flat_map hdu_bytes (map (hdu_of file) hs))
later_stand l o file bytes k j start [] options all are here = refl
later_stand l o file bytes k j start (h ∷ hs) options all are here =
    let d : Hdu = out_of o file h in
    let rest : List Hdu = map (hdu_of bytes) (facts_from (suc (suc j)) (start + length (hdu_bytes d)) (map (out_of o file) hs)) in (
      hdu_bytes (hdu_of file h),
      flat_map hdu_bytes (map (hdu_of file) hs),
      refl,
      later_stands l o file bytes k j start h (facts_of (suc j) start d.header) options all are.0 (out_here bytes j start d rest (map (out_of o file) hs) here),
      later_stand l o file bytes (suc k) (suc j) (start + length (hdu_bytes d)) hs options all are.1 (tail_same (hdu_of bytes (facts_of (suc j) start d.header)) d rest (map (out_of o file) hs) here),
    )

-- ---- no row is refused

sound_append : (bytes : List ℕ) (rs more : List ImageRow) → IsFirstRowFault bytes rs None → IsFirstRowFault bytes more None → IsFirstRowFault bytes (rs ++ more) None
sound_append bytes [] more a b = b
sound_append bytes (r ∷ rs) more a b = (a.0, sound_append bytes rs more a.1 b)

sound_map : (bytes : List ℕ) (f : Header) (a n : ℕ) → ((t : ℕ) → a ≤ t → t < a + n → (xs : List ℤ) × RowStandsFor bytes f t xs) → IsFirstRowFault bytes (map (image_row f) (range_with_len a n)) None
sound_map bytes f a zero each = tt
sound_map bytes f a (suc n) each = (each a (omega arith) (omega arith), sound_map bytes f (a + 1) n (λ t low high. each t (omega (arith, low)) (omega (arith, high))))

sound_rows : (bytes : List ℕ) (fs : List Header) (x : List ℕ) → HdusStandFor bytes fs x → IsFirstRowFault bytes (all_rows bytes fs) None
sound_rows bytes [] x is = tt
sound_rows bytes (f ∷ fs) x (front, back, parts, here, rest) = by_packed (is_image bytes f) here (sound_rows bytes fs back rest)
  where
    by_packed : (packed : Bool) → StandsForAs packed bytes f front → IsFirstRowFault bytes (all_rows bytes fs) None →
        IsFirstRowFault bytes (flat_map (rows_of bytes) (cond packed (f ∷ filter (is_image bytes) fs) (filter (is_image bytes) fs))) None
    by_packed true image later =
        sound_append bytes (rows_of bytes f) (all_rows bytes fs)
        (sound_map bytes f 0 (tiles_in (plan_in bytes f)) (λ t low high. (tile image.array (lengths_of (plan_in bytes f).tile) t, image.rows.tiles t (omega (arith, high))))) later
    by_packed false copied later = later

-- ---- the file

-- a primary is no packed image
pub primary_image : (bytes : List ℕ) (f : Header) → f.sort ≡ Primary → is_image bytes f ≡ false
unfolding is_packed
primary_image bytes f is = ap (λ s. is_table s && list_any (is_set (codes "ZIMAGE")) (cards_of (header_in bytes f))) is

primary_judge : (bytes : List ℕ) (f : Header) → f.sort ≡ Primary → IsOk (unpack_judge bytes f)
primary_judge bytes f is =
    ok_none (first_refusal (unpack_hdu_checks bytes f))
    (copied_none (hdu_of bytes f).header f (is_after_empty bytes f) (ap (λ s. is_table s && list_any says_packed (cards_of (hdu_of bytes f).header)) is))

pub unpack_never_stops : (bytes : List ℕ) (fs : List Header) → stops (unpack_judge bytes) fs ≡ false
unpack_never_stops bytes [] = refl
unpack_never_stops bytes (f ∷ fs) = by_none (first_refusal (unpack_hdu_checks bytes f)) (unpack_never_stops bytes fs)
  where
    by_none : (found : Option Fault) → stops (unpack_judge bytes) fs ≡ false → (is_stop (unless_refused false found) || stops (unpack_judge bytes) fs) ≡ false
    by_none None rest = rest
    by_none (Some fault) rest = rest

-- the parts of what is to be shown of the headers of the packed file
pub record Stands (bytes file : List ℕ) (fs : List Header) : Type 0 where
  pub none : RefusesNone (unpack_judge bytes) fs
  pub parts : HdusStandFor bytes (standing bytes fs) file
  pub rows : IsFirstRowFault bytes (all_rows bytes fs) None

-- the first HDU is copied
copied_first : TableLaws → (o : PackOptions) (file bytes : List ℕ) (h : Header) (hs : List Header) → AreOptions o → AreBytes file → AreSources o file 0 (h ∷ hs) → is_packable h ≡ false →
    map (hdu_of bytes) (facts_from 0 0 (hdu_of file h ∷ map (out_of o file) hs)) ≡ hdu_of file h ∷ map (out_of o file) hs →
    Stands bytes (flat_map hdu_bytes (map (hdu_of file) (h ∷ hs))) (facts_from 0 0 (hdu_of file h ∷ map (out_of o file) hs))
copied_first l o file bytes h hs options all are packable here =
    let d : Hdu = hdu_of file h in
    let f : Header = facts_of 0 0 d.header in
    let fs : List Header = facts_from 1 (0 + length (hdu_bytes d)) (map (out_of o file) hs) in
    let rest : map (hdu_of bytes) fs ≡ map (out_of o file) hs = tail_same (hdu_of bytes f) d (map (hdu_of bytes) fs) (map (out_of o file) hs) here in
    let same : hdu_of bytes f ≡ d = head_same (hdu_of bytes f) d (map (hdu_of bytes) fs) (map (out_of o file) hs) here in
    let whole : HdusStandFor bytes (f ∷ fs) (flat_map hdu_bytes (map (hdu_of file) (h ∷ hs))) = (
      hdu_bytes d,
      flat_map hdu_bytes (map (hdu_of file) hs),
      refl,
      subst (λ b. StandsForAs b bytes f (hdu_bytes d)) (sym (primary_image bytes f refl)) (ap hdu_bytes (sym same)),
      later_stand l o file bytes 0 0 (0 + length (hdu_bytes d)) hs options all are.1 rest,
    ) in
    record {
      none = (primary_judge bytes f refl, later_judged l o file bytes 0 0 (0 + length (hdu_bytes d)) hs options all are.1 rest);
      parts = subst (λ s. HdusStandFor bytes s (flat_map hdu_bytes (map (hdu_of file) (h ∷ hs)))) (sym (all_stand hs are.1 rest)) whole;
      rows = sound_rows bytes (f ∷ fs) (flat_map hdu_bytes (map (hdu_of file) (h ∷ hs))) whole;
    }
  where
    all_stand : (hs : List Header) → AreSources o file 1 hs →
        map (hdu_of bytes) (facts_from 1 (0 + length (hdu_bytes (hdu_of file h))) (map (out_of o file) hs)) ≡ map (out_of o file) hs →
        standing bytes (facts_of 0 0 (hdu_of file h).header ∷ facts_from 1 (0 + length (hdu_bytes (hdu_of file h))) (map (out_of o file) hs))
        ≡ facts_of 0 0 (hdu_of file h).header ∷ facts_from 1 (0 + length (hdu_bytes (hdu_of file h))) (map (out_of o file) hs)
    all_stand [] are here = refl
    all_stand (g ∷ gs) are here =
        let start : ℕ = 0 + length (hdu_bytes (hdu_of file h)) in
        let d : Hdu = out_of o file g in
        let f : Header = facts_of 1 start d.header in
        let fs : List Header = facts_from 2 (start + length (hdu_bytes d)) (map (out_of o file) gs) in
        ap (λ b. if b then f ∷ fs else facts_of 0 0 (hdu_of file h).header ∷ f ∷ fs)
        (later_primary l o file bytes 0 0 start g f options all are.0 (out_here bytes 0 start d (map (hdu_of bytes) fs) (map (out_of o file) gs) here))

-- the first HDU is an image that is packed
behind_empty : (rest : List ℕ) → size_at ((header_bytes empty_primary ++ []) ++ rest) 2 ≡ 0
unfolding integer_of int_card_bytes logical_card_bytes digits
behind_empty rest = refl

packed_first : TableLaws → (o : PackOptions) (file bytes : List ℕ) (h : Header) (hs : List Header) → AreOptions o → AreBytes file → AreSources o file 0 (h ∷ hs) → is_packable h ≡ true →
    bytes ≡ flat_map hdu_bytes (empty_hdu ∷ table_hdu o file h ∷ map (out_of o file) hs) →
    map (hdu_of bytes) (facts_from 0 0 (empty_hdu ∷ table_hdu o file h ∷ map (out_of o file) hs)) ≡ empty_hdu ∷ table_hdu o file h ∷ map (out_of o file) hs →
    Stands bytes (flat_map hdu_bytes (map (hdu_of file) (h ∷ hs))) (facts_from 0 0 (empty_hdu ∷ table_hdu o file h ∷ map (out_of o file) hs))
packed_first l o file bytes h hs options all are packable made here =
    let d : Hdu = table_hdu o file h in
    let e : Header = facts_of 0 0 empty_hdu.header in
    let start : ℕ = 0 + length (hdu_bytes empty_hdu) in
    let f : Header = facts_of 1 start d.header in
    let fs : List Header = facts_from 2 (start + length (hdu_bytes d)) (map (out_of o file) hs) in
    let behind : map (hdu_of bytes) (f ∷ fs) ≡ d ∷ map (out_of o file) hs =
    tail_same (hdu_of bytes e) empty_hdu (map (hdu_of bytes) (f ∷ fs)) (d ∷ map (out_of o file) hs) here in
    let rest : map (hdu_of bytes) fs ≡ map (out_of o file) hs = tail_same (hdu_of bytes f) d (map (hdu_of bytes) fs) (map (out_of o file) hs) behind in
    let out : IsOut bytes 0 start d f = out_here bytes 0 start d (map (hdu_of bytes) fs) (map (out_of o file) hs) behind in
    let is : IsTaken o file h = taken o file 0 h options all are.0 packable in
    let none : size_at bytes 2 ≡ 0 = ap (λ b. size_at b 2) made ∙ behind_empty (flat_map hdu_bytes (d ∷ map (out_of o file) hs)) in
    let after : is_after_empty bytes f ≡ true = ap (λ n. n == 0) none in
    let primary : is_packed_primary bytes f ≡ true =
    l.primary o file h bytes f (table_of_image o file bytes 0 start h f is out) ∙ ap is_primary (sort_is o file 0 h are.0) in
    let whole : HdusStandFor bytes (f ∷ fs) (flat_map hdu_bytes (map (hdu_of file) (h ∷ hs))) = (
      hdu_bytes (hdu_of file h),
      flat_map hdu_bytes (map (hdu_of file) hs),
      refl,
      l.stands o file h bytes f (table_of_image o file bytes 0 start h f is out),
      later_stand l o file bytes 0 1 (start + length (hdu_bytes d)) hs options all are.1 rest,
    ) in
    record {
      none = (primary_judge bytes e refl, (table_judge l o file bytes 0 start h f is out (λ was. after), later_judged l o file bytes 0 1 (start + length (hdu_bytes d)) hs options all are.1 rest));
      parts = subst (λ s. HdusStandFor bytes s (flat_map hdu_bytes (map (hdu_of file) (h ∷ hs)))) (sym (ap (λ b. if b then f ∷ fs else e ∷ f ∷ fs) primary)) whole;
      rows =
          subst (λ b. IsFirstRowFault bytes (flat_map (rows_of bytes) (cond b (e ∷ filter (is_image bytes) (f ∷ fs)) (filter (is_image bytes) (f ∷ fs)))) None) (sym (primary_image bytes e refl))
          (sound_rows bytes (f ∷ fs) (flat_map hdu_bytes (map (hdu_of file) (h ∷ hs))) whole);
    }

pub outs_stand : TableLaws → (o : PackOptions) (file bytes : List ℕ) (h : Header) (hs : List Header) → AreOptions o → AreBytes file → AreSources o file 0 (h ∷ hs) →
    bytes ≡ flat_map hdu_bytes (outs o file h hs) → map (hdu_of bytes) (facts_from 0 0 (outs o file h hs)) ≡ outs o file h hs →
    Stands bytes (flat_map hdu_bytes (map (hdu_of file) (h ∷ hs))) (facts_from 0 0 (outs o file h hs))
outs_stand l o file bytes h hs options all are made here = by_test (is_packable h) refl made here
  where
    first : Bool → List Hdu
    first packable = if packable then empty_hdu ∷ table_hdu o file h ∷ [] else hdu_of file h ∷ []

    by_test : (packable : Bool) → is_packable h ≡ packable → bytes ≡ flat_map hdu_bytes (first packable ++ map (out_of o file) hs) →
        map (hdu_of bytes) (facts_from 0 0 (first packable ++ map (out_of o file) hs)) ≡ first packable ++ map (out_of o file) hs →
        Stands bytes (flat_map hdu_bytes (map (hdu_of file) (h ∷ hs))) (facts_from 0 0 (first packable ++ map (out_of o file) hs))
    by_test true is made here = packed_first l o file bytes h hs options all are is made here
    by_test false is made here = copied_first l o file bytes h hs options all are is here
