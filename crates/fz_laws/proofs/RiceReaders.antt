-- What it means to read a code from the front of a list of bits, and how readers are put together.
use Rattle.std.proofs.Common.{◌≡◌, Bool, List, [], ◌∷◌, ◌++◌, Ok, Err, ◌⊎◌, inl, inr, refl, sym, ap, ◌∙◌, append_assoc}
use Rattle.fz_rice.specs.Reading.{Reading, and_then, reading_map}
use Rattle.fz_rice.specs.declared.coder.CodeFault.{CodeFault}
use Rattle.fz_rice.specs.declared.coder.CodeFault.TheVariants.{Ended, Unlawful}

-- `read` reads what `Codes` says: values from codes, `Ended` at the beginning of a code, `Unlawful` where no code begins so
pub record IsReader {A : Type 0} (Codes : A → List Bool → Type 0) (read : List Bool → Reading A) : Type 0 where
  pub some : A
  pub some_code : List Bool
  pub is_some : Codes some some_code
  pub complete : (a : A) (code rest : List Bool) → Codes a code → read (code ++ rest) ≡ Ok (a, rest)
  pub sound : (bits : List Bool) (a : A) (rest : List Bool) → read bits ≡ Ok (a, rest) → (code : List Bool) × Codes a code × (bits ≡ code ++ rest)
  pub ended : (bits : List Bool) → read bits ≡ Err Ended → (a : A) × (tail : List Bool) × (tail ≡ [] → ⊥) × Codes a (bits ++ tail)
  pub unlawful : (bits tail : List Bool) → read bits ≡ Err Unlawful → read (bits ++ tail) ≡ Err Unlawful

-- a value with a code in front of the one that hangs on it
abbrev pub SeqCodes : {A B : Type 0} → (A → List Bool → Type 0) → (A → B → List Bool → Type 0) → B → List Bool → Type 0
SeqCodes {A} Codes Next b code = (a : A) × (front : List Bool) × (back : List Bool) × Codes a front × Next a b back × (code ≡ front ++ back)

-- a value seen by h has the codes of the value
abbrev pub MapCodes : {A B : Type 0} → (A → B) → (A → List Bool → Type 0) → B → List Bool → Type 0
MapCodes {A} h Codes b code = (a : A) × Codes a code × (h a ≡ b)

pub ok_parts : {A : Type 0} (a b : A) (x y : List Bool) → ◌≡◌ {A = Reading A} (Ok (a, x)) (Ok (b, y)) → (a ≡ b) × (x ≡ y)
ok_parts {A} a b x y e =
    let value : Reading A → A = λ r. elim r [ Ok p ↦ p.0 | Err _ ↦ a ] in
    let rest : Reading A → List Bool = λ r. elim r [ Ok p ↦ p.1 | Err _ ↦ x ] in
    (ap value e, ap rest e)

not_nil_append : (x y : List Bool) → (x ≡ [] → ⊥) → x ++ y ≡ [] → ⊥
not_nil_append [] y some e = some refl
not_nil_append (b ∷ x) y some e = cc

-- a value read after another
pub and_then-ok : {A B : Type 0} (r : Reading A) (next : A → List Bool → Reading B) (b : B) (rest : List Bool) → and_then r next ≡ Ok (b, rest) → (a : A) × (more : List Bool) × (r ≡ Ok (a, more)) × (next a more ≡ Ok (b, rest))
and_then-ok (Ok p) next b rest e = (p.0, p.1, refl, e)
and_then-ok (Err f) next b rest e = cc

pub and_then-err : {A B : Type 0} (r : Reading A) (next : A → List Bool → Reading B) (f : CodeFault) → and_then r next ≡ Err f → (r ≡ Err f) ⊎ ((a : A) × (more : List Bool) × (r ≡ Ok (a, more)) × (next a more ≡ Err f))
and_then-err (Ok p) next f e = inr (p.0, p.1, refl, e)
and_then-err (Err g) next f e = inl (let h : g ≡ f = cc in ap Err h)

pub reading_map-ok : {A B : Type 0} (h : A → B) (r : Reading A) (b : B) (rest : List Bool) → reading_map h r ≡ Ok (b, rest) → (a : A) × (r ≡ Ok (a, rest)) × (h a ≡ b)
reading_map-ok h (Ok p) b rest e =
    let parts = ok_parts (h p.0) b p.1 rest e in
    (p.0, ap (λ x. Ok (p.0, x)) parts.1, parts.0)
reading_map-ok h (Err f) b rest e = cc

pub reading_map-err : {A B : Type 0} (h : A → B) (r : Reading A) (f : CodeFault) → reading_map h r ≡ Err f → r ≡ Err f
reading_map-err h (Ok p) f e = cc
reading_map-err h (Err g) f e = let k : g ≡ f = cc in ap Err k

-- one reader after another, which hangs on the value of the first
pub seq_reader : {A B : Type 0} (Codes : A → List Bool → Type 0) (Next : A → B → List Bool → Type 0) (read : List Bool → Reading A) (next : A → List Bool → Reading B) → IsReader Codes read → ((a : A) (code : List Bool) → Codes a code → IsReader (Next a) (next a)) → IsReader (SeqCodes Codes Next) (λ bits. and_then (read bits) next)
seq_reader {A} {B} Codes Next read next first then_next = record {
  some = (then_next first.some first.some_code first.is_some).some;
  some_code = first.some_code ++ (then_next first.some first.some_code first.is_some).some_code;
  is_some = (first.some, first.some_code, (then_next first.some first.some_code first.is_some).some_code, first.is_some, (then_next first.some first.some_code first.is_some).is_some, refl);
  complete = λ b code rest is.
      let second = then_next is.0 is.1 is.3 in
      ap (λ bits. and_then (read bits) next) (ap (λ bits. bits ++ rest) is.5 ∙ append_assoc is.1 is.2 rest) ∙ ap (λ r. and_then r next) (first.complete is.0 is.1 (is.2 ++ rest) is.3) ∙ second.complete b is.2 rest is.4;
  sound = λ bits b rest e.
      let p = and_then-ok (read bits) next b rest e in
      let front = first.sound bits p.0 p.1 p.2 in
      let second = then_next p.0 front.0 front.1 in
      let back = second.sound p.1 b rest p.3 in
      (front.0 ++ back.0, (p.0, front.0, back.0, front.1, back.1, refl), front.2 ∙ ap (λ bits'. front.0 ++ bits') back.2 ∙ sym (append_assoc front.0 back.0 rest));
  ended = λ bits e. elim (and_then-err (read bits) next Ended e) [
    | inl h ↦
        let front = first.ended bits h in
        let second = then_next front.0 (bits ++ front.1) front.3 in
        (second.some, front.1 ++ second.some_code, not_nil_append front.1 second.some_code front.2, (front.0, bits ++ front.1, second.some_code, front.3, second.is_some, sym (append_assoc bits front.1 second.some_code)))
    | inr p ↦
        let front = first.sound bits p.0 p.1 p.2 in
        let second = then_next p.0 front.0 front.1 in
        let back = second.ended p.1 p.3 in
        (back.0, back.1, back.2, (p.0, front.0, p.1 ++ back.1, front.1, back.3, ap (λ bits'. bits' ++ back.1) front.2 ∙ append_assoc front.0 p.1 back.1))
  ];
  unlawful = λ bits tail e. elim (and_then-err (read bits) next Unlawful e) [
    | inl h ↦ ap (λ r. and_then r next) (first.unlawful bits tail h)
    | inr p ↦
        let front = first.sound bits p.0 p.1 p.2 in
        let second = then_next p.0 front.0 front.1 in
        ap (λ bits'. and_then (read bits') next) (ap (λ bits'. bits' ++ tail) front.2 ∙ append_assoc front.0 p.1 tail) ∙ ap (λ r. and_then r next) (first.complete p.0 front.0 (p.1 ++ tail) front.1) ∙ second.unlawful p.1 tail p.3
  ];
}

-- a reader of values seen by h
pub map_reader : {A B : Type 0} (h : A → B) (Codes : A → List Bool → Type 0) (read : List Bool → Reading A) → IsReader Codes read → IsReader (MapCodes h Codes) (λ bits. reading_map h (read bits))
map_reader h Codes read reader = record {
  some = h reader.some;
  some_code = reader.some_code;
  is_some = (reader.some, reader.is_some, refl);
  complete = λ b code rest is. ap (reading_map h) (reader.complete is.0 code rest is.1) ∙ ap (λ x. Ok (x, rest)) is.2;
  sound = λ bits b rest e.
      let p = reading_map-ok h (read bits) b rest e in
      let front = reader.sound bits p.0 rest p.1 in
      (front.0, (p.0, front.1, p.2), front.2);
  ended = λ bits e.
      let front = reader.ended bits (reading_map-err h (read bits) Ended e) in
      (h front.0, front.1, front.2, (front.0, front.3, refl));
  unlawful = λ bits tail e. ap (reading_map h) (reader.unlawful bits tail (reading_map-err h (read bits) Unlawful e));
}

-- a reader of codes that are said in another way
pub same_reader : {A : Type 0} (Codes Other : A → List Bool → Type 0) (read : List Bool → Reading A) → ((a : A) (code : List Bool) → Codes a code → Other a code) → ((a : A) (code : List Bool) → Other a code → Codes a code) → IsReader Codes read → IsReader Other read
same_reader Codes Other read to from reader = record {
  some = reader.some;
  some_code = reader.some_code;
  is_some = to reader.some reader.some_code reader.is_some;
  complete = λ a code rest is. reader.complete a code rest (from a code is);
  sound = λ bits a rest e.
      let front = reader.sound bits a rest e in
      (front.0, to a front.0 front.1, front.2);
  ended = λ bits e.
      let front = reader.ended bits e in
      (front.0, front.1, front.2, to front.0 (bits ++ front.1) front.3);
  unlawful = reader.unlawful;
}

-- a reader that reads the same
pub same_read : {A : Type 0} (Codes : A → List Bool → Type 0) (read other : List Bool → Reading A) → ((bits : List Bool) → read bits ≡ other bits) → IsReader Codes read → IsReader Codes other
same_read Codes read other same reader = record {
  some = reader.some;
  some_code = reader.some_code;
  is_some = reader.is_some;
  complete = λ a code rest is. sym (same (code ++ rest)) ∙ reader.complete a code rest is;
  sound = λ bits a rest e. reader.sound bits a rest (same bits ∙ e);
  ended = λ bits e. reader.ended bits (same bits ∙ e);
  unlawful = λ bits tail e. sym (same (bits ++ tail)) ∙ reader.unlawful bits tail (same bits ∙ e);
}
