-- The list that is written means the numbers of its line.
use Rattle.std.proofs.Common.{◌≡◌, ℕ, ◌+◌, ◌-◌, ◌*◌, ◌/◌, ◌%◌, ◌^◌, ◌≤◌, inr, List, [], ◌∷◌, ℤ, pos, nat_abs, Some, Ok, length, map, take, drop, slice_index, length-append, refl, sym, ap, ◌∙◌, arith}
use Rattle.std.specs.Prelude.{All}
use Rattle.std.specs.List.{AllByRecursion}
use Rattle.std.proofs.lemmas.List.{length-map, take_all}
use Rattle.std.proofs.lemmas.List.Elements.{recursion_from_All}
use Rattle.fz_plio.specs.Words.{words}
use Rattle.fz_plio.specs.Instructions.{instructions}
use Rattle.fz_plio.specs.Meaning.{IsLineList, list_len, instructions_of}
use Rattle.fz_plio.specs.Producer.{InRange, line_instructions, body_words, header, with_header, line_list}
use Rattle.fz_plio.specs.Reading.{line_from, HasHeader}
use Rattle.fz_plio.specs.Writing.{magnitudes}
use Rattle.fz_plio.proofs.NumberLemmas.{pos-nat_abs, nat_abs-lt}
use Rattle.fz_plio.proofs.DecodingLemmas.{decided}
use Rattle.fz_plio.proofs.LengthLemmas.{body_words_few, length-line_list}
use Rattle.fz_plio.proofs.FilledLemmas.{AreSmall, line_from-line}
use Rattle.fz_plio.proofs.WritableLemmas.{words-word_bytes, instructions-words_of, writable-line, numbered-writable}

-- the words of a list are its header and its body
words-line_list : (numbers : List ℤ) → words (line_list numbers) ≡ with_header (body_words 1 (magnitudes numbers))
unfolding line_list
words-line_list numbers = words-word_bytes (with_header (body_words 1 (magnitudes numbers)))

-- the length in the header
list_len-line_list : (numbers : List ℤ) → list_len (line_list numbers) ≡ 7 + length (body_words 1 (magnitudes numbers))
list_len-line_list numbers =
    let len = 7 + length (body_words 1 (magnitudes numbers)) in
    let parts : len % 32768 + 32768 * (len / 32768) ≡ len = omega arith in
    ap (λ (ws : List ℕ). slice_index ws 3 + 32768 * slice_index ws 4) (words-line_list numbers) ∙ parts

has_header : (numbers : List ℤ) → length numbers ≤ 2 ^ 26 → HasHeader (line_list numbers)
has_header numbers few =
    let ws = words-line_list numbers in
    let body = body_words 1 (magnitudes numbers) in
    let size = body_words_few 1 (magnitudes numbers) in
    let all : length (words (line_list numbers)) ≡ 7 + length body = ap length ws ∙ length-append (header (7 + length body)) body in
    let word_1 : slice_index (words (line_list numbers)) 1 ≡ 7 = ap (λ (l : List ℕ). slice_index l 1) ws in
    let word_2 : slice_index (words (line_list numbers)) 2 ≡ 65436 = ap (λ (l : List ℕ). slice_index l 2) ws in
    let word_3 : slice_index (words (line_list numbers)) 3 ≡ (7 + length body) % 32768 = ap (λ (l : List ℕ). slice_index l 3) ws in
    let word_4 : slice_index (words (line_list numbers)) 4 ≡ (7 + length body) / 32768 = ap (λ (l : List ℕ). slice_index l 4) ws in
    record {
      even = omega (arith, length-line_list numbers);
      long = omega (arith, length-line_list numbers);
      header_length = word_1;
      new_header = inr (omega (arith, word_2));
      length_low = omega (arith, word_3);
      length_high = omega (arith, word_4, size, length-map numbers nat_abs);
      after_header = omega (arith, list_len-line_list numbers);
      within = omega (arith, list_len-line_list numbers, all);
    }

instructions_of-line_list : (numbers : List ℤ) → line_instructions 1 (magnitudes numbers) ≡ instructions_of (line_list numbers)
unfolding body_words
instructions_of-line_list numbers =
    let body = body_words 1 (magnitudes numbers) in
    let count : list_len (line_list numbers) - 7 ≡ length body = omega (arith, list_len-line_list numbers) in
    let behind : drop 7 (words (line_list numbers)) ≡ body = ap (drop 7) (words-line_list numbers) in
    sym (instructions-words_of (line_instructions 1 (magnitudes numbers)) (writable-line 1 (magnitudes numbers)))
    ∙ ap instructions (sym ((λ i. take (count i) (behind i)) ∙ take_all (length body) body (omega arith)))

small-magnitudes : (numbers : List ℤ) → AllByRecursion InRange numbers → AreSmall (magnitudes numbers)
small-magnitudes [] fits = tt
small-magnitudes (z ∷ numbers) fits = (nat_abs-lt z fits.0, small-magnitudes numbers fits.1)

pos-magnitudes : (numbers : List ℤ) → AllByRecursion InRange numbers → map pos (magnitudes numbers) ≡ numbers
pos-magnitudes [] fits = refl
pos-magnitudes (z ∷ numbers) fits = λ i. pos-nat_abs z fits.0 i ∷ pos-magnitudes numbers fits.1 i

-- the list that is written means the numbers
pub line_list-means : (numbers : List ℤ) → length numbers ≤ 2 ^ 26 → All InRange numbers → IsLineList (length numbers) (line_list numbers) numbers
line_list-means numbers few fits =
    let ns = magnitudes numbers in
    let each = recursion_from_All InRange numbers fits in
    let room : length ns ≡ length numbers = length-map numbers nat_abs in
    let line : line_from (length numbers) 1 (line_instructions 1 ns) ≡ Some numbers =
    ap (λ n. line_from n 1 (line_instructions 1 ns)) (sym room) ∙ line_from-line ns (small-magnitudes numbers each) ∙ ap (λ (xs : List ℤ). Some xs) (pos-magnitudes numbers each) in
    (decided {A = Unit {0}} {E = Unit {0}} (Ok tt) (length numbers) (line_list numbers) (line_instructions 1 ns) numbers (has_header numbers few) (instructions_of-line_list numbers) (numbered-writable _ (writable-line 1 ns)) line).1
