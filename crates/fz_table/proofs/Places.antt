-- Where the columns stand in a row.
use Rattle.std.proofs.Common.{◌≡◌, ℕ, zero, suc, ◌+◌, ◌-◌, ◌<◌, ◌≤◌, ◌==◌, ◌⊎◌, inl, inr, Bool, true, false, ◌&&◌, if◌then◌else◌, List, [], ◌∷◌, length, drop, codes, nat_lt, nat_le, ◌||◌, Option, Some, None, IfSome, refl, ap, sym, subst, ◌∙◌, arith}
use Rattle.std.specs.List.{list_any, list_all}
use Rattle.std.specs.Option.{option_and_then}
use Rattle.std.specs.Str.{byte}
use Rattle.std.proofs.lemmas.Bool.Decides.{nat_tests}
use Rattle.fz_table.specs.Forms.{is_any, elements_len, first_digits, repeat_in, may_repeat, form_of_len, lettered, form_in}
use Rattle.fz_table.specs.Columns.{text_at, tform_card, form_of, title_of, is_called, width_of, columns_len, is_element, describes, unit_of, column_of, column_called}
use Rattle.fz_table.specs.Rows.{descriptor_len}
use Rattle.fz_table.specs.Found.{IsFound, AreFound, HaveBytes}
use Rattle.fz_table.specs.Tables.{coded_name, stored_name, gzip_name, tile_letters, gzip_letters}
use Rattle.fz_table.specs.declared.column.Column.{Column}
use Rattle.fz_table.specs.declared.form.Form.{Form}

-- no columns
pub columns_len-none : (header : List ℕ) → columns_len header 0 ≡ 0
unfolding columns_len
columns_len-none header = refl

-- one column more
columns_len-suc : (header : List ℕ) (i : ℕ) → columns_len header (suc i) ≡ columns_len header i + width_of (form_of header (suc i))
unfolding columns_len
columns_len-suc header i = refl

pub columns_len-more : (header : List ℕ) (i j : ℕ) → i + 1 ≡ j → columns_len header j ≡ columns_len header i + width_of (form_of header j)
columns_len-more header i zero e = absurd (omega arith)
columns_len-more header i (suc k) e = let same : i ≡ k = omega arith in rw same (columns_len-suc header k)

-- more columns take no fewer bytes
up_to : (i j : ℕ) → i ≤ suc j → (i ≤ j) ⊎ (i ≡ suc j)
up_to i j h = grind arith

pub columns_len-le : (header : List ℕ) (i j : ℕ) → i ≤ j → columns_len header i ≤ columns_len header j
columns_len-le header i zero h = let none : i ≡ 0 = omega arith in rw none (omega arith)
columns_len-le header i (suc j) h =
    elim (up_to i j h) as (λ _. columns_len header i ≤ columns_len header (suc j)) [
      | inl below ↦ omega (arith, columns_len-le header i j below, columns_len-suc header j)
      | inr same ↦ let P : ℕ → Type 0 = λ n. columns_len header i ≤ columns_len header n in subst P same (omega arith)
    ]

-- the bytes of a form are those of so many elements
some_of : (b : Bool) (f form : Form) → (if b then Some f else None) ≡ Some form → f ≡ form
some_of true f form e = cc
some_of false f form e = absurd cc

len_is : (repeat letter : ℕ) (behind : List ℕ) (len : Option ℕ) (form : Form) → elements_len letter repeat ≡ len → form_of_len repeat letter behind len ≡ Some form → elements_len form.letter form.repeat ≡ Some form.len
len_is repeat letter behind None form same e = absurd cc
len_is repeat letter behind (Some n) form same e = let is = some_of (may_repeat letter repeat) _ form e in cc

lettered_len : (repeat : ℕ) (text : List ℕ) (form : Form) → lettered repeat text ≡ Some form → elements_len form.letter form.repeat ≡ Some form.len
lettered_len repeat [] form e = absurd cc
lettered_len repeat (letter ∷ behind) form e = len_is repeat letter behind (elements_len letter repeat) form refl e

read_len : (b : Bool) (repeat : ℕ) (text : List ℕ) (form : Form) → (if b then None else lettered repeat text) ≡ Some form → elements_len form.letter form.repeat ≡ Some form.len
read_len true repeat text form e = absurd cc
read_len false repeat text form e = lettered_len repeat text form e

form_len : (text : List ℕ) (form : Form) → form_in text ≡ Some form → elements_len form.letter form.repeat ≡ Some form.len
unfolding form_in
form_len text form e = read_len (nat_lt 9 (length (first_digits text))) (repeat_in (first_digits text)) (drop (length (first_digits text)) text) form e

text_len : (text : Option (List ℕ)) (form : Form) → option_and_then form_in text ≡ Some form → elements_len form.letter form.repeat ≡ Some form.len
text_len None form e = absurd cc
text_len (Some text) form e = form_len text form e

-- a column of array descriptors takes the bytes of one
two_letters : (letter : ℕ) → is_any (codes "PQ") letter ≡ true → (letter ≡ 80) ⊎ (letter ≡ 81)
two_letters letter is = grind (arith, nat_tests)

one_len : (letter len : ℕ) → (letter ≡ 80) ⊎ (letter ≡ 81) → elements_len letter 1 ≡ Some len → descriptor_len (letter == byte "Q") ≡ len
unfolding elements_len
one_len letter len (inl p) e = let P : ℕ → Type 0 = λ l. elements_len l 1 ≡ Some len → descriptor_len (l == byte "Q") ≡ len in subst P (sym p) (λ (k : Some 8 ≡ Some len). cc) e
one_len letter len (inr q) e = let P : ℕ → Type 0 = λ l. elements_len l 1 ≡ Some len → descriptor_len (l == byte "Q") ≡ len in subst P (sym q) (λ (k : Some 16 ≡ Some len). cc) e

both : (a b : Bool) → (a && b) ≡ true → (a ≡ true) × (b ≡ true)
both true true e = (refl, refl)
both true false e = absurd cc
both false b e = absurd cc

descriptor_width : (header letters : List ℕ) (i : ℕ) (form : Form) → form_of header i ≡ Some form → describes letters (Some form) ≡ true → descriptor_len (form.letter == byte "Q") ≡ width_of (form_of header i)
descriptor_width header letters i form at is =
    let parts = both (is_any (codes "PQ") form.letter && form.repeat == 1) (is_element letters form.element) is in
    let front = both (is_any (codes "PQ") form.letter) (form.repeat == 1) parts.0 in
    let once : form.repeat ≡ 1 = grind (arith, nat_tests) in
    let len = text_len (text_at header (tform_card header i)) form at in
    let one : elements_len form.letter 1 ≡ Some form.len = rw once at len in
    one_len form.letter form.len (two_letters form.letter front.0) one ∙ ap width_of (sym at)

-- an element of one of the letters has bytes
element_bytes : (letters : List ℕ) (element : Option ℕ) → HaveBytes letters → is_element letters element ≡ true → 1 ≤ unit_of element
element_bytes letters None bytes is = absurd cc
element_bytes letters (Some letter) bytes is = bytes letter is

-- a letter among some that all pass a test
one_passes : (x letter : ℕ) (xs : List ℕ) (test : ℕ → Bool) (b : Bool) → (x == letter) ≡ b → (test x && list_all test xs) ≡ true → (b || list_any (λ y. y == letter) xs) ≡ true →
    (list_all test xs ≡ true → list_any (λ y. y == letter) xs ≡ true → test letter ≡ true) → test letter ≡ true
one_passes x letter xs test true same all some more =
    let here : x ≡ letter = grind (arith, nat_tests) in
    ap test (sym here) ∙ (both (test x) (list_all test xs) all).0
one_passes x letter xs test false same all some more = more (both (test x) (list_all test xs) all).1 some

any_passes : (letters : List ℕ) (letter : ℕ) (test : ℕ → Bool) → list_all test letters ≡ true → is_any letters letter ≡ true → test letter ≡ true
any_passes [] letter test all some = absurd cc
any_passes (x ∷ xs) letter test all some = one_passes x letter xs test (x == letter) refl all some (any_passes xs letter test)

have_bytes : (letters : List ℕ) → list_all (λ letter. nat_le 1 (unit_of (Some letter))) letters ≡ true → HaveBytes letters
have_bytes letters all letter is =
    let test : nat_le 1 (unit_of (Some letter)) ≡ true = any_passes letters letter (λ l. nat_le 1 (unit_of (Some l))) all is in
    grind (arith, nat_tests)

pub tile_bytes : HaveBytes tile_letters
unfolding elements_len
tile_bytes = have_bytes tile_letters refl

pub gzip_bytes : HaveBytes gzip_letters
unfolding elements_len
gzip_bytes = have_bytes gzip_letters refl

-- the next column has another name
wider : (found : Option Column) (m n : ℕ) → m ≤ n → IfSome found (λ c. (c.at + descriptor_len c.wide ≤ m) × (1 ≤ c.unit)) → IfSome found (λ c. (c.at + descriptor_len c.wide ≤ n) × (1 ≤ c.unit))
wider None m n h is = is
wider (Some c) m n h is = (omega (arith, is.0), is.1)

skipped : (name header : List ℕ) (k : ℕ) → is_called name (title_of header (suc k)) ≡ false → column_called name header (suc k) ≡ column_called name header k
unfolding column_called
skipped name header k other = rw other refl

pub other_name : (name header : List ℕ) (i : ℕ) (before : Option Column) → 0 < i → is_called name (title_of header i) ≡ false → IsFound name header (i - 1) before → IsFound name header i before
other_name name header zero before some other is = absurd (omega arith)
other_name name header (suc k) before some other is =
    let e : suc k - 1 ≡ k = omega arith in
    let P : ℕ → Type 0 = λ n. IsFound name header n before in
    let was = subst P e is in
    record {
      called = was.called ∙ sym (skipped name header k other);
      within = wider before (columns_len header k) (columns_len header (suc k)) (columns_len-le header k (suc k) (omega arith)) was.within;
    }

-- the next column has the name
taken : (name header : List ℕ) (k : ℕ) → is_called name (title_of header (suc k)) ≡ true → column_called name header (suc k) ≡ Some (column_of (columns_len header k) (form_of header (suc k)))
unfolding column_called
taken name header k named = rw named refl

pub this_name : (name letters header : List ℕ) (i at : ℕ) (form : Form) (c : Column) → HaveBytes letters → 0 < i → is_called name (title_of header i) ≡ true → at ≡ columns_len header (i - 1) →
    form_of header i ≡ Some form → describes letters (Some form) ≡ true → c ≡ column_of at (Some form) → IsFound name header i (Some c)
this_name name letters header zero at form c bytes some named place formed is same = absurd (omega arith)
this_name name letters header (suc k) at form c bytes some named place formed is same =
    let e : suc k - 1 ≡ k = omega arith in
    let here : at ≡ columns_len header k = place ∙ ap (columns_len header) e in
    let column : c ≡ column_of (columns_len header k) (form_of header (suc k)) = same ∙ (ap (λ n. column_of n (Some form)) here ∙ ap (column_of (columns_len header k)) (sym formed)) in
    let start : c.at ≡ columns_len header k = ap (λ (d : Column). d.at) same ∙ here in
    let size : descriptor_len c.wide ≡ width_of (form_of header (suc k)) = ap (λ (d : Column). descriptor_len d.wide) same ∙ descriptor_width header letters (suc k) form formed is in
    let described = both (is_any (codes "PQ") form.letter && form.repeat == 1) (is_element letters form.element) is in
    let unit : c.unit ≡ unit_of form.element = ap (λ (d : Column). d.unit) same in
    let bytes_in : 1 ≤ unit_of form.element = element_bytes letters form.element bytes described.1 in
    let there : c.at + descriptor_len c.wide ≤ columns_len header (suc k) = omega (arith, columns_len-suc header k) in
    record {
      called = ap Some column ∙ sym (taken name header k named);
      within = (there, omega (arith, unit, bytes_in));
    }

-- among no columns there is none
none_called : (name header : List ℕ) → column_called name header 0 ≡ None
unfolding column_called
none_called name header = refl

none_found : (name header : List ℕ) → IsFound name header 0 None
none_found name header = record { called = sym (none_called name header); within = tt }

pub none_are : (header : List ℕ) → AreFound header 0 (record { coded = None; stored = None; gzip = None })
none_are header = record { coded = none_found coded_name header; stored = none_found stored_name header; gzip = none_found gzip_name header }
