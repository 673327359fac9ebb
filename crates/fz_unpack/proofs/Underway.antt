-- What the HDUs so far stand for is written, where the source tells its bytes, and what one more makes of it (FITS 4.0, section 3.1).
use Rattle.std.proofs.Common.{◌≡◌, ℕ, suc, ◌+◌, ◌<◌, ◌≤◌, Bool, true, false, List, [], ◌∷◌, ◌++◌, length, Option, Some, None, IfSome, Result, Ok, Err, refl, sym, ap, subst, ◌∙◌, add-one, arith}
use Rattle.std.proofs.lemmas.List.{append-nil, append_assoc, length-append}
use Rattle.std.proofs.lemmas.Bool.Decides.{nat_tests}
use Rattle.std.specs.Prelude.{◌&&◌, not, nat_le, nat_lt, bytes_eq, codes, take, drop}
use Rattle.fz_base.specs.Refusal.{first_refusal, refusal}
use Rattle.fz_base.specs.Stop.{IfRefused}
use Rattle.fz_base.specs.declared.fault.Fault.{Fault}
use Rattle.fz_base.specs.declared.fault.Place.TheVariants.{Byte}
use Rattle.fz_base.specs.declared.kind.Kind.TheVariants.{Limit, TrailingBytes, Truncated}
use Rattle.fz_base.specs.declared.failure.Stop.{Stop}
use Rattle.fz_base.specs.declared.failure.Stop.TheVariants.{Refused, ReadFault, WriteFault, OverLimit, NoMemory}
use Rattle.fz_block.specs.Cards.{end_of}
use Rattle.fz_block.specs.Checks.{block_checks, blocks_to_end, header_room, hdu_at, header_blocks_of, header_in, unless_refused}
use Rattle.fz_block.specs.Header.{next_start_of}
use Rattle.fz_block.specs.declared.header.Header.{Header}
use Rattle.fz_files.specs.FirstFault.{IsFirstRowFault, all_rows}
use Rattle.fz_files.specs.Restored.{HduStandsFor, HdusStandFor, standing}
use Rattle.fz_job.specs.declared.survey.Survey.{Survey}
use Rattle.fz_job.specs.Again.{ReadsAsSeen, WereSeen, is_empty_primary}
use Rattle.fz_job.specs.Known.{IsList}
use Rattle.fz_job.specs.Behind.{written_behind}
use Rattle.fz_unpack.specs.Behind.{AreWritten, HoldsHdu, HoldsHdus, IsHduFault, IsUnderway, RestoresSeen, SaysBehind}
use Rattle.fz_unpack.specs.First.{first_at}
use Rattle.fz_unpack.specs.Laws.{PrimariesAreBehind}
use Rattle.fz_job.specs.declared.again.ReadHdu.{ReadHdu}
use Rattle.fz_unpack.specs.declared.first.First.{First}
use Rattle.fz_unpack.proofs.Begun.{Begins, begins_with, next_flag}
use Rattle.fz_unpack.proofs.Hdus.{AreOneWrite, both_behind, none_behind}
use Rattle.fz_unpack.proofs.Rows.{fault_among}
use Rattle.fz_unpack.proofs.Standing.{first_is}

-- ---- one more HDU that stands for something

pub stand_more : (file : List ℕ) (hs : List Header) (h : Header) (front back : List ℕ) → HdusStandFor file hs front → HduStandsFor file h back → HdusStandFor file (hs ++ h ∷ []) (front ++ back)
stand_more file [] h front back were is = (back, [], ap (λ l. l ++ back) were ∙ sym (append-nil back), is, refl)
stand_more file (j ∷ hs) h front back were is =
    (were.0, were.1 ++ back, ap (λ l. l ++ back) were.2 ∙ append_assoc were.0 were.1 back, were.3, stand_more file hs h were.1 back were.4 is)

-- a write after all that was written before
joined : AreOneWrite → (front back : List ℕ) (contents : Option (List ℕ)) → written_behind (length front) back (written_behind 0 front contents) ≡ written_behind 0 (front ++ back) contents
joined next [] back contents = ap (written_behind 0 back) (sym (none_behind 0 contents))
joined next (b ∷ front) back contents =
    let place : length (b ∷ front) ≡ 0 + length (b ∷ front) = omega arith in
    ap (λ n. written_behind n back (written_behind 0 (b ∷ front) contents)) place
    ∙ both_behind next 0 (b ∷ front) back contents (omega arith)

-- ---- where the file ends

-- a check after two others refuses
third : (a b c : Bool) (x y z : Fault) (checks : List (Bool × Fault)) → c ≡ true → (f : Fault) × (first_refusal ((a, x) ∷ (b, y) ∷ (c, z) ∷ checks) ≡ Some f)
third true b c x y z checks is = (x, refl)
third false true c x y z checks is = (y, refl)
third false false true x y z checks is = (z, refl)
third false false false x y z checks is = absurd cc

never_read : (k start blocks : ℕ) (file : List ℕ) (checks : List (Bool × Fault)) (h : Header) → (f : Fault) × (first_refusal checks ≡ Some f) →
    header_in k start file (unless_refused blocks (first_refusal checks)) ≡ Ok h → ⊥
never_read k start blocks file checks h refused found =
    let never : ◌≡◌ {A = Result Header Fault} (Err refused.0) (Ok h) = sym (ap (λ (r : Option Fault). header_in k start file (unless_refused blocks r)) refused.1) ∙ found in
    cc

-- no HDU begins there
pub none_there : (k : ℕ) (file : List ℕ) (h : Header) → hdu_at k (length file) file ≡ Ok h → ⊥
unfolding hdu_at header_blocks_of
none_there k file h found =
    let past : nat_lt (length file) (length file + 2880) ≡ true = grind (arith, nat_tests) in
    never_read k (length file) (blocks_to_end (end_of (header_room (length file) file))) file (block_checks k (length file) file) h (third (nat_le 65536 k) (nat_lt 0 k && not (bytes_eq (take 8 (drop (length file) file)) (codes "XTENSION"))) (nat_lt (length file) (length file + 2880))
    (refusal k (Byte (length file)) Limit) (refusal k (Byte (length file)) TrailingBytes) (refusal k (Byte (length file)) Truncated) (drop 3 (block_checks k (length file) file)) past) found

all_done : (hs done rest : List Header) → hs ≡ done ++ rest → rest ≡ [] → hs ≡ done
all_done hs done rest parts none = parts ∙ ap (λ l. done ++ l) none ∙ append-nil done

pub none_left : (n k : ℕ) (rest : List Header) → n ≡ k + length rest → n ≤ k → rest ≡ []
none_left n k [] count all = refl
none_left n k (h ∷ rest) count all = absurd (omega (arith, count, all))

-- a stop that refuses nothing does so for each call
pub not_refused : (X Y : Type 0) (stop : Stop) → IfRefused {X = X} (Err stop) (λ x. ⊥) → (P : Fault → Type 0) → IfRefused {X = Y} (Err stop) P
not_refused X Y (Refused x) never P = absurd never
not_refused X Y ReadFault never P = tt
not_refused X Y WriteFault never P = tt
not_refused X Y (OverLimit live asked limit) never P = tt
not_refused X Y NoMemory never P = tt

-- ---- the loop over the HDUs

module _ (s : Survey) (before : Option (List ℕ)) where
  -- nothing is written before the first HDU that stands for something
  pub none_written : PrimariesAreBehind → (held : Option (List ℕ)) (f : First) → f ≡ first_at s.packed_primary → IfSome held (IsUnderway s f.hdu f.start 0 f.after_empty before before)
  none_written law None f is = tt
  none_written law (Some g) f is = λ hs list.
      let b : Begins g s.header_len s.tile hs f = begins_with g s.header_len s.tile hs f list.seen (is ∙ first_is law g s hs list) in
      record {
        done = [];
        rest = standing g hs;
        parts = refl;
        count = b.count;
        seen = b.seen;
        flag = b.flag;
        bytes = [];
        stand = refl;
        contents = none_behind 0 before;
        place = refl;
        first = b.first;
      }

  one_more : AreOneWrite → (g : List ℕ) (hs : List Header) (k start at end : ℕ) (flag flag' : Bool) (mid now : Option (List ℕ)) (a : ReadHdu) (w : AreWritten g s.header_len s.tile hs k start at flag before mid) → (rest : List Header) → w.rest ≡ rest → k < length hs →
      ReadsAsSeen g k start flag s.header_len s.tile (Ok a) → HoldsHdu a.header g at end mid now → flag' ≡ is_empty_primary a.header →
      AreWritten g s.header_len s.tile hs (k + 1) (next_start_of a.header) end flag' before now
  one_more next g hs k start at end flag flag' mid now a w [] is few again holds says = absurd (omega (arith, w.count, ap length is, few))
  one_more next g hs k start at end flag flag' mid now a w (h ∷ rest) is few again holds says =
      let seen : WereSeen g s.header_len s.tile k start (h ∷ rest) = subst (λ l. WereSeen g s.header_len s.tile k start l) is w.seen in
      let behind : SaysBehind g flag (h ∷ rest) = subst (λ l. SaysBehind g flag l) is w.flag in
      let same : a.header ≡ h = (again h seen.0 behind).1 in
      let stands : HduStandsFor g h holds.bytes = subst (λ (j : Header). HduStandsFor g j holds.bytes) same holds.stands in
      let later : WereSeen g s.header_len s.tile (suc k) (next_start_of a.header) rest = subst (λ (j : Header). WereSeen g s.header_len s.tile (suc k) (next_start_of j) rest) (sym same) seen.1 in
      let long : length (w.bytes ++ holds.bytes) ≡ length w.bytes + length holds.bytes = length-append w.bytes holds.bytes in
      record {
        done = w.done ++ h ∷ [];
        rest = rest;
        parts = w.parts ∙ ap (λ l. w.done ++ l) is ∙ sym (append_assoc w.done (h ∷ []) rest);
        count = omega (arith, w.count, ap length is);
        seen = subst (λ n. WereSeen g s.header_len s.tile n (next_start_of a.header) rest) (sym (add-one k)) later;
        flag = subst (λ b. SaysBehind g b rest) (sym (says ∙ ap is_empty_primary same)) (next_flag g s.header_len s.tile k start h rest (next_start_of a.header) seen.0 w.first later);
        bytes = w.bytes ++ holds.bytes;
        stand = stand_more g w.done h w.bytes holds.bytes w.stand stands;
        contents = holds.holds.contents ∙ ap (λ n. written_behind n holds.bytes mid) w.place
            ∙ ap (written_behind (length w.bytes) holds.bytes) w.contents ∙ joined next w.bytes holds.bytes before;
        place = omega (arith, holds.holds.behind, w.place, long);
        first = λ e. absurd (omega (arith, e));
      }

  pub more_written : AreOneWrite → (held : Option (List ℕ)) (k start at end : ℕ) (flag flag' : Bool) (mid now : Option (List ℕ)) (a : ReadHdu) → k < s.hdus →
      IfSome held (IsUnderway s k start at flag before mid) → IfSome held (λ g. ReadsAsSeen g k start flag s.header_len s.tile (Ok a)) →
      IfSome held (λ g. HoldsHdu a.header g at end mid now) → flag' ≡ is_empty_primary a.header → IfSome held (IsUnderway s (k + 1) (next_start_of a.header) end flag' before now)
  more_written next None k start at end flag flag' mid now a few was again holds says = tt
  more_written next (Some g) k start at end flag flag' mid now a few was again holds says = λ hs list.
      let w = was hs list in
      one_more next g hs k start at end flag flag' mid now a w w.rest refl (omega (arith, few, list.count)) again holds says

  -- all are written
  whole_file : {X : Type 0} (x : X) (g : List ℕ) (now : Option (List ℕ)) →
      ((hs : List Header) → IsList g s hs → HoldsHdus g hs before now) → RestoresSeen g s before now (Ok x)
  whole_file x g now all = record { restored = all; first_fault = λ hs list. tt }

  written_all : (g : List ℕ) (hs : List Header) (k start at : ℕ) (flag : Bool) (now : Option (List ℕ)) (w : AreWritten g s.header_len s.tile hs k start at flag before now) → w.rest ≡ [] → HoldsHdus g hs before now
  written_all g hs k start at flag now w none = record {
    bytes = w.bytes;
    stand = subst (λ (l : List Header). HdusStandFor g l w.bytes) (sym (all_done (standing g hs) w.done w.rest w.parts none)) w.stand;
    contents = w.contents;
  }

  pub no_more : (g : List ℕ) (k : ℕ) (rest : List Header) → WereSeen g s.header_len s.tile k (length g) rest → rest ≡ []
  no_more g k [] seen = refl
  no_more g k (h ∷ rest) seen = absurd (none_there k g h seen.0.found)

  pub ends_with_last : {X : Type 0} (x : X) (held : Option (List ℕ)) (k start at : ℕ) (flag : Bool) (now : Option (List ℕ)) → s.hdus ≤ k →
      IfSome held (IsUnderway s k start at flag before now) → IfSome held (λ g. RestoresSeen g s before now (Ok x))
  ends_with_last x None k start at flag now last was = tt
  ends_with_last x (Some g) k start at flag now last was =
      let all : (hs : List Header) → IsList g s hs → HoldsHdus g hs before now = λ hs list.
      let w = was hs list in
      written_all g hs k start at flag now w (none_left (length hs) k w.rest w.count (omega (arith, list.count, last))) in
      whole_file x g now all

  -- the next was refused only if it was not seen
  next_seen : (g : List ℕ) (hs : List Header) (k start at : ℕ) (flag : Bool) (mid : Option (List ℕ)) (stop : Stop) (w : AreWritten g s.header_len s.tile hs k start at flag before mid) (rest : List Header) → w.rest ≡ rest → k < length hs →
      ReadsAsSeen g k start flag s.header_len s.tile (Err stop) → IfRefused {X = ReadHdu} (Err stop) (λ x. ⊥)
  next_seen g hs k start at flag mid stop w [] is few again = absurd (omega (arith, w.count, ap length is, few))
  next_seen g hs k start at flag mid stop w (h ∷ rest) is few again =
      let seen : WereSeen g s.header_len s.tile k start (h ∷ rest) = subst (λ l. WereSeen g s.header_len s.tile k start l) is w.seen in
      (again h seen.0 (subst (λ l. SaysBehind g flag l) is w.flag)).0

  pub stops_reading : (X : Type 0) (held : Option (List ℕ)) (stop : Stop) (k start at : ℕ) (flag : Bool) (mid now : Option (List ℕ)) → k < s.hdus →
      IfSome held (IsUnderway s k start at flag before mid) → IfSome held (λ g. ReadsAsSeen g k start flag s.header_len s.tile (Err stop)) →
      IfSome held (λ g. RestoresSeen {X = X} g s before now (Err stop))
  stops_reading X None stop k start at flag mid now few was again = tt
  stops_reading X (Some g) stop k start at flag mid now few was again = record {
    restored = λ hs list. tt;
    first_fault = λ hs list.
        let w = was hs list in
        not_refused ReadHdu X stop (next_seen g hs k start at flag mid stop w w.rest refl (omega (arith, few, list.count)) again) (λ x. IsFirstRowFault g (all_rows g hs) (Some x));
  }

  -- the first faulty row is refused
  faulty_row : (g : List ℕ) (hs : List Header) (k start at : ℕ) (flag : Bool) (mid : Option (List ℕ)) (a : ReadHdu) (x : Fault) → WereSeen g s.header_len s.tile 0 0 hs → (w : AreWritten g s.header_len s.tile hs k start at flag before mid) (rest : List Header) → w.rest ≡ rest → k < length hs →
      ReadsAsSeen g k start flag s.header_len s.tile (Ok a) → IsHduFault g a.header x → IsFirstRowFault g (all_rows g hs) (Some x)
  faulty_row g hs k start at flag mid a x were w [] is few again fault = absurd (omega (arith, w.count, ap length is, few))
  faulty_row g hs k start at flag mid a x were w (h ∷ rest) is few again fault =
      let seen : WereSeen g s.header_len s.tile k start (h ∷ rest) = subst (λ l. WereSeen g s.header_len s.tile k start l) is w.seen in
      let same : a.header ≡ h = (again h seen.0 (subst (λ l. SaysBehind g flag l) is w.flag)).1 in
      fault_among g s.header_len s.tile hs w.done rest h w.bytes x were (w.parts ∙ ap (λ l. w.done ++ l) is) w.stand (subst (λ (j : Header). IsHduFault g j x) same fault)

  pub stops_writing : (X : Type 0) (held : Option (List ℕ)) (stop : Stop) (k start at : ℕ) (flag : Bool) (mid now : Option (List ℕ)) (a : ReadHdu) → k < s.hdus →
      IfSome held (IsUnderway s k start at flag before mid) → IfSome held (λ g. ReadsAsSeen g k start flag s.header_len s.tile (Ok a)) →
      IfRefused {X = ℕ} (Err stop) (λ x. IfSome held (λ g. IsHduFault g a.header x)) → IfSome held (λ g. RestoresSeen {X = X} g s before now (Err stop))
  stops_writing X None stop k start at flag mid now a few was again fault = tt
  stops_writing X (Some g) (Refused x) k start at flag mid now a few was again fault = record {
    restored = λ hs list. tt;
    first_fault = λ hs list.
        let w = was hs list in
        faulty_row g hs k start at flag mid a x list.seen w w.rest refl (omega (arith, few, list.count)) again fault;
  }
  stops_writing X (Some g) ReadFault k start at flag mid now a few was again fault = record { restored = λ hs list. tt; first_fault = λ hs list. tt }
  stops_writing X (Some g) WriteFault k start at flag mid now a few was again fault = record { restored = λ hs list. tt; first_fault = λ hs list. tt }
  stops_writing X (Some g) (OverLimit live asked limit) k start at flag mid now a few was again fault = record { restored = λ hs list. tt; first_fault = λ hs list. tt }
  stops_writing X (Some g) NoMemory k start at flag mid now a few was again fault = record { restored = λ hs list. tt; first_fault = λ hs list. tt }
