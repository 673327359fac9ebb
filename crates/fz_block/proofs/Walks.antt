-- The checks of all headers, one after another, find the HDUs of the file.
use Rattle.std.proofs.Common.{◌≡◌, ℕ, zero, suc, ◌+◌, ◌*◌, ◌<◌, ◌≤◌, ◌==◌, ◌||◌, IsOk, Bool, true, false, List, [], ◌∷◌, ◌++◌, length, take, drop, map, Result, Ok, Err, if◌then◌else◌, refl, sym, subst, ◌∙◌, ap, arith}
use Rattle.std.specs.List.{flat_map}
use Rattle.std.proofs.lemmas.Bool.Decides.{nat_tests}
use Rattle.std.proofs.lemmas.List.{append_assoc, append-nil, take-append-drop, drop-drop, length-take, length-drop}
use Rattle.fz_base.specs.declared.fault.Fault.{Fault}
use Rattle.fz_block.specs.Checks.{header_blocks_of, header_of, header_in, hdu_at, Judge, followed_by, by_judgement, judged, walk_from}
use Rattle.fz_block.specs.Facts.{IsHeaderOf}
use Rattle.fz_block.specs.Hdus.{hdu_bytes, AreHdus, IsHdu}
use Rattle.fz_block.specs.Header.{whole_blocks_of, next_start_of}
use Rattle.fz_block.specs.Walk.{hdu_of, AreHeadersBetween, is_stop, stops, RefusesNone}
use Rattle.fz_block.specs.declared.header.Header.{Header}
use Rattle.fz_block.proofs.HduLemmas.{blocks_inside, is_answered, blocks_of, StandsIn, its_header, its_hdu}

-- an HDU that passes the checks, as it stands in the file
pub record IsFound (k start : ℕ) (file : List ℕ) (h : Header) : Type 0 where
  pub number : h.hdu ≡ k
  pub place : h.start ≡ start
  pub stands : StandsIn file (take (2880 * h.blocks) (drop start file)) h

from_blocks : (k start n : ℕ) (file : List ℕ) (h : Header) → start ≤ length file → header_blocks_of k start file ≡ Ok n →
    header_of k start (length file) (take (2880 * n) (drop start file)) ≡ Ok h → IsFound k start file h
from_blocks k start n file h before blocks is =
    let inside = blocks_inside k start n file blocks before in
    let header = take (2880 * n) (drop start file) in
    let long : length header ≡ 2880 * n = omega (arith, length-take (2880 * n) (drop start file), length-drop start file, inside.0) in
    let answered = is_answered k start (length file) header h (omega (arith, long, inside.1)) is in
    let many : 2880 * h.blocks ≡ 2880 * n = sym (blocks_of header h answered.facts) ∙ long in
    let same : header ≡ take (2880 * h.blocks) (drop start file) = ap (λ m. take m (drop start file)) (sym many) in
    let stands : StandsIn file header h = record {
      facts = answered.facts;
      place = ap (λ m. take m (drop h.start file)) long ∙ ap (λ s. take (2880 * n) (drop s file)) answered.place;
      within = omega (arith, answered.within, answered.place, long, many);
    } in
    record { number = answered.number; place = answered.place; stands = subst (λ l. StandsIn file l h) same stands }

pub is_found : (k start : ℕ) (file : List ℕ) (h : Header) → start ≤ length file → hdu_at k start file ≡ Ok h → IsFound k start file h
unfolding hdu_at
is_found k start file h before is = by_blocks (header_blocks_of k start file) refl is
  where
    by_blocks : (blocks : Result ℕ Fault) → header_blocks_of k start file ≡ blocks → header_in k start file blocks ≡ Ok h → IsFound k start file h
    by_blocks (Ok n) blocks is = from_blocks k start n file h before blocks is
    by_blocks (Err fault) blocks is = absurd cc

pub first_false : (a b : Bool) → (a || b) ≡ false → a ≡ false
first_false true b e = e
first_false false b e = refl

pub second_false : (a b : Bool) → (a || b) ≡ false → b ≡ false
second_false true b e = absurd cc
second_false false b e = e

pub true-not-false : true ≡ false → ⊥
true-not-false e = cc

-- The headers from HDU k on that a walk passes, and the HDUs that they head: they end at a byte of the file, and with the file
-- where the walk does not stop.
pub record Walked (judge : Judge) (k start most : ℕ) (file : List ℕ) (hs : List Header) : Type 0 where
  pub end : ℕ
  pub within : end ≤ length file
  pub last : stops judge hs ≡ false → end ≡ length file
  pub parts : flat_map hdu_bytes (map (hdu_of file) hs) ++ drop end file ≡ drop start file
  pub each : AreHdus k (map (hdu_of file) hs)
  pub headers : AreHeadersBetween k start end file hs
  pub passed : RefusesNone judge hs
  pub some : 0 < length hs
  pub few : length hs ≤ most

-- the bytes of an HDU, and those after it
bytes_apart : (start a w : ℕ) (file : List ℕ) → (take a (drop start file) ++ take w (drop (start + a) file)) ++ drop (start + a + w) file ≡ drop start file
bytes_apart start a w file =
    let one : take w (drop (start + a) file) ++ drop (start + a + w) file ≡ drop (start + a) file =
    ap (λ l. take w (drop (start + a) file) ++ l) (sym (drop-drop w (start + a) file)) ∙ take-append-drop w (drop (start + a) file) in
    let two : take a (drop start file) ++ drop (start + a) file ≡ drop start file =
    ap (λ l. take a (drop start file) ++ l) (sym (drop-drop a start file)) ∙ take-append-drop a (drop start file) in
    append_assoc (take a (drop start file)) (take w (drop (start + a) file)) (drop (start + a + w) file)
    ∙ (ap (λ l. take a (drop start file) ++ l) one ∙ two)

hdu_apart : (start : ℕ) (file : List ℕ) (h : Header) → h.start ≡ start → hdu_bytes (hdu_of file h) ++ drop (next_start_of h) file ≡ drop start file
hdu_apart start file h place = bytes_apart h.start (2880 * h.blocks) (whole_blocks_of h.data_len) file ∙ ap (λ s. drop s file) place

-- the last HDU
walk_ends : (judge : Judge) (k start most : ℕ) (file : List ℕ) (h : Header) → IsFound k start file h → IsOk (judge h) → (is_stop (judge h) ≡ false → next_start_of h ≡ length file) → Walked judge k start (suc most) file (h ∷ [])
walk_ends judge k start most file h found pass last =
    let its = its_header file (take (2880 * h.blocks) (drop start file)) h found.stands in
    record {
      end = next_start_of h;
      within = found.stands.within;
      last = λ never. last (first_false (is_stop (judge h)) false never);
      parts = ap (λ l. l ++ drop (next_start_of h) file) (append-nil (hdu_bytes (hdu_of file h))) ∙ hdu_apart start file h found.place;
      each = (subst (λ n. IsHdu n (hdu_of file h)) found.number (its_hdu file (take (2880 * h.blocks) (drop start file)) h found.stands), tt);
      headers = (found.number, found.place, subst (λ l. IsHeaderOf l h) (sym its) found.stands.facts, refl);
      passed = (pass, tt);
      some = omega arith;
      few = omega arith;
    }

-- one HDU before others
walk_on : (judge : Judge) (k start most : ℕ) (file : List ℕ) (h : Header) (hs : List Header) → IsFound k start file h → IsOk (judge h) → Walked judge (suc k) (next_start_of h) most file hs → Walked judge k start (suc most) file (h ∷ hs)
walk_on judge k start most file h hs found pass rest =
    let its = its_header file (take (2880 * h.blocks) (drop start file)) h found.stands in
    let others : List ℕ = flat_map hdu_bytes (map (hdu_of file) hs) in
    record {
      end = rest.end;
      within = rest.within;
      last = λ never. rest.last (second_false (is_stop (judge h)) (stops judge hs) never);
      parts = append_assoc (hdu_bytes (hdu_of file h)) others (drop rest.end file)
          ∙ (ap (λ l. hdu_bytes (hdu_of file h) ++ l) rest.parts ∙ hdu_apart start file h found.place);
      each = (subst (λ n. IsHdu n (hdu_of file h)) found.number (its_hdu file (take (2880 * h.blocks) (drop start file)) h found.stands), rest.each);
      headers = (found.number, found.place, subst (λ l. IsHeaderOf l h) (sym its) found.stands.facts, rest.headers);
      passed = (pass, rest.passed);
      some = omega arith;
      few = omega (arith, rest.few);
    }

is_ok_of : (r : Result Bool Fault) (b : Bool) → r ≡ Ok b → IsOk r
is_ok_of r b e = subst IsOk (sym e) refl

pub walked : (judge : Judge) (most k start : ℕ) (file : List ℕ) (hs : List Header) → start ≤ length file → walk_from judge most k start file ≡ Ok hs → Walked judge k start most file hs
unfolding walk_from
walked judge zero k start file hs before is = absurd cc
walked judge (suc more) k start file hs before is =
    by_here (λ h ks within rest. walked judge more (suc k) (next_start_of h) file ks within rest) (hdu_at k start file) refl is
  where
    by_rest : (h : Header) (rest : Result (List Header) Fault) → IsFound k start file h → IsOk (judge h) →
        ((ks : List Header) → rest ≡ Ok ks → Walked judge (suc k) (next_start_of h) more file ks) → followed_by h rest ≡ Ok hs → Walked judge k start (suc more) file hs
    by_rest h (Err fault) found pass later is = absurd cc
    by_rest h (Ok ks) found pass later is =
        let same : h ∷ ks ≡ hs = cc in
        subst (λ l. Walked judge k start (suc more) file l) same (walk_on judge k start more file h ks found pass (later ks refl))

    by_last : (h : Header) (last : Bool) → IsFound k start file h → IsOk (judge h) → (next_start_of h == length file) ≡ last →
        ((ks : List Header) → walk_from judge more (suc k) (next_start_of h) file ≡ Ok ks → Walked judge (suc k) (next_start_of h) more file ks) →
        (if last then Ok (h ∷ []) else followed_by h (walk_from judge more (suc k) (next_start_of h) file)) ≡ Ok hs → Walked judge k start (suc more) file hs
    by_last h true found pass last later is =
        let same : h ∷ [] ≡ hs = cc in
        let end : next_start_of h ≡ length file = grind (arith, nat_tests, last) in
        subst (λ l. Walked judge k start (suc more) file l) same (walk_ends judge k start more file h found pass (λ never. end))
    by_last h false found pass last later is = by_rest h (walk_from judge more (suc k) (next_start_of h) file) found pass later is

    by_judge : (h : Header) (says : Result Bool Fault) → judge h ≡ says → IsFound k start file h →
        ((ks : List Header) → walk_from judge more (suc k) (next_start_of h) file ≡ Ok ks → Walked judge (suc k) (next_start_of h) more file ks) →
        by_judgement file h (walk_from judge more (suc k) (next_start_of h) file) says ≡ Ok hs → Walked judge k start (suc more) file hs
    by_judge h (Err fault) says found later is = absurd cc
    by_judge h (Ok true) says found later is =
        let same : h ∷ [] ≡ hs = cc in
        subst (λ l. Walked judge k start (suc more) file l) same
        (walk_ends judge k start more file h found (is_ok_of (judge h) true says) (λ never. absurd (true-not-false (sym (ap is_stop says) ∙ never))))
    by_judge h (Ok false) says found later is = by_last h (next_start_of h == length file) found (is_ok_of (judge h) false says) refl later is

    by_here : ((h : Header) (ks : List Header) → next_start_of h ≤ length file → walk_from judge more (suc k) (next_start_of h) file ≡ Ok ks → Walked judge (suc k) (next_start_of h) more file ks) →
        (here : Result Header Fault) → hdu_at k start file ≡ here → judged file judge (λ h. walk_from judge more (suc k) (next_start_of h) file) here ≡ Ok hs → Walked judge k start (suc more) file hs
    by_here later (Err fault) at is = absurd cc
    by_here later (Ok h) at is =
        let found = is_found k start file h before at in
        by_judge h (judge h) refl found (λ ks rest. later h ks found.stands.within rest) is
