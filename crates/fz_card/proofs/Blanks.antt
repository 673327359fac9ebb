-- Lists that are filled with blanks, and lines that are written over blanks.
use Rattle.std.proofs.Common.{◌≡◌, ℕ, ◌+◌, ◌-◌, ◌≤◌, List, ◌++◌, length, take, drop, sym, ap, ◌∙◌, arith}
use Rattle.std.proofs.lemmas.List.{take-append-drop, length-take-le, drop-drop, drop-replicate, take-replicate, length-replicate, length-append}
use Rattle.std.proofs.Math.Seq.{take-add}
use Rattle.fz_card.specs.Layout.{blanks, filled, padded}

pub length-blanks : (count : ℕ) → length (blanks count) ≡ count
length-blanks count = length-replicate count 32

-- a text that fits is filled up to the length
pub length-filled : (len : ℕ) (text : List ℕ) → length text ≤ len → length (filled len text) ≡ len
length-filled len text fits = omega (arith, length-append text (blanks (len - length text)), length-blanks (len - length text))

pub length-padded : (name : List ℕ) → length name ≤ 8 → length (padded name) ≡ 8
length-padded name fits = length-filled 8 name fits

-- how long the front of a line is
pub length-front : (n len : ℕ) (bytes text : List ℕ) → take len bytes ≡ text → length bytes ≡ n → len ≤ n → length text ≡ len
length-front n len bytes text front size within = sym (ap length front) ∙ length-take-le len bytes (omega arith)

-- a line whose bytes are blank after a text is that text, filled
pub line-filled : (n len : ℕ) (bytes text : List ℕ) → take len bytes ≡ text → length bytes ≡ n → len ≤ n → drop len bytes ≡ blanks (n - len) → bytes ≡ filled n text
line-filled n len bytes text front size within rest =
    let long : length text ≡ len = length-front n len bytes text front size within in
    rw (long, ← rest, ← front) (sym (take-append-drop len bytes))

-- the blanks after a line's first bytes, some bytes further on
pub drop-blanks : (n len more : ℕ) (bytes : List ℕ) → drop len bytes ≡ blanks (n - len) → drop (len + more) bytes ≡ blanks (n - (len + more))
drop-blanks n len more bytes rest =
    let gap : n - len - more ≡ n - (len + more) = omega arith in
    let moved : drop more (blanks (n - len)) ≡ blanks (n - (len + more)) = rw (drop-replicate {X = ℕ} more (n - len) 32, gap) in
    rw (← drop-drop more len bytes, rest) moved

-- the next bytes of a line that has blanks there
pub take-blanks : (n len more : ℕ) (bytes text : List ℕ) → take len bytes ≡ text → len + more ≤ n → drop len bytes ≡ blanks (n - len) → take (len + more) bytes ≡ text ++ blanks more
take-blanks n len more bytes text front within rest =
    let fits : more ≤ n - len = omega arith in
    let next : take more (drop len bytes) ≡ blanks more = ap (take more) rest ∙ take-replicate more (n - len) 32 fits in
    rw (take-add len more bytes, front, next)
