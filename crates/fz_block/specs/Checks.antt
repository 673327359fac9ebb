-- The checks that every job makes of every HDU, each a condition on the bytes of the file, in their order (FITS 4.0, sections
-- 3.1, 3.3, 3.4.1 and 4.4.1).
use Rattle.std.specs.Prelude.{ℕ, zero, suc, ◌≡◌, ◌⊎◌, ◌==◌, ◌+◌, ◌*◌, ◌-◌, ◌/◌, ◌^◌, ◌&&◌, not, nat_lt, nat_le}
use Rattle.std.specs.Prelude.{min, Bool, true, false, List, [], ◌∷◌, ◌++◌, length, take, drop, codes, bytes_eq}
use Rattle.std.specs.Prelude.{Option, Some, None, is_none, is_some, unwrap_or, Result, Ok, Err, if◌then◌else◌}
use Rattle.fz_base.specs.Refusal.{refusal, first_refusal}
use Rattle.fz_base.specs.declared.fault.Fault.{Fault}
use Rattle.fz_base.specs.declared.fault.Place.TheVariants.{Byte, Card}
use Rattle.fz_base.specs.declared.kind.Kind.{Kind}
use Rattle.fz_base.specs.declared.kind.Kind.TheVariants.{NotFits, Truncated, LongHeader, BadCard, TrailingBytes, Limit, Groups}
use Rattle.fz_card.specs.Reading.{logical_of}
use Rattle.fz_block.specs.Cards.{is_named, end_of, first_card}
use Rattle.fz_block.specs.Hdus.{size_at, naxis_of, data_len_of}
use Rattle.fz_block.specs.Header.{whole_blocks_of, next_start_of}
use Rattle.fz_block.specs.Facts.{facts_of}
use Rattle.fz_block.specs.Mandatory.{mandatory_checks}
use Rattle.fz_block.specs.declared.header.Header.{Header}

-- the answer if no check refuses, or the fault of the first that does
abbrev pub unless_refused : {A : Type 0} → A → Option Fault → Result A Fault
unless_refused answer None = Ok answer
unless_refused answer (Some fault) = Err fault

-- the same fault of HDU k
abbrev pub fault_as : ℕ → Fault → Fault
fault_as k fault = record fault { hdu = k }

-- a card has this name and the logical value T
abbrev pub is_set : List ℕ → List ℕ → Bool
is_set name card = is_named name card && unwrap_or (logical_of card) false

-- the whole blocks of the file from a byte on, of which a header has at most 256
abbrev pub header_room : ℕ → List ℕ → List ℕ
header_room start file = take (2880 * min 256 ((length file - start) / 2880)) (drop start file)

-- The checks of the first block of the header of HDU k: an extension begins with XTENSION, the file with SIMPLE = T.
abbrev pub begin_checks : ℕ → ℕ → List ℕ → List (Bool × Fault)
begin_checks k start file =
    (nat_le 65536 k, refusal k (Byte start) Limit)
    ∷ (nat_lt 0 k && not (bytes_eq (take 8 (drop start file)) (codes "XTENSION")), refusal k (Byte start) TrailingBytes)
    ∷ (nat_lt (length file) (start + 2880), refusal k (Byte (length file)) Truncated)
    ∷ (k == 0 && not (is_set (codes "SIMPLE") (take 80 (drop start file))), refusal k (Card 0) NotFits)
    ∷ []

-- the checks that find the blocks of the header: one of at most 256 blocks has END
abbrev pub block_checks : ℕ → ℕ → List ℕ → List (Bool × Fault)
block_checks k start file =
    begin_checks k start file
    ++ ((is_none (end_of (header_room start file)) && nat_le (start + 737280) (length file), refusal k (Byte start) LongHeader)
    ∷ (is_none (end_of (header_room start file)), refusal k (Byte (length file)) Truncated)
    ∷ [])

-- the kinds that these checks refuse with
abbrev pub IsBlockRefusal : Kind → Type 0
IsBlockRefusal kind = (kind ≡ Limit) ⊎ ((kind ≡ TrailingBytes) ⊎ ((kind ≡ Truncated) ⊎ ((kind ≡ NotFits) ⊎ (kind ≡ LongHeader))))

-- the number of blocks up to the one with END, 36 cards in each
abbrev pub blocks_to_end : Option ℕ → ℕ
blocks_to_end end = unwrap_or end 0 / 36 + 1

-- the number of blocks of the header of HDU k, or why the file is refused
unfoldable pub header_blocks_of : ℕ → ℕ → List ℕ → Result ℕ Fault
header_blocks_of k start file = unless_refused (blocks_to_end (end_of (header_room start file))) (first_refusal (block_checks k start file))

-- How many blocks are looked at: the first if a check of it refuses, otherwise those up to the one with END, or all that a header
-- may have if none has it.
abbrev pub blocks_looked_at : Option Fault → Option ℕ → ℕ
blocks_looked_at (Some fault) end = 1
blocks_looked_at None None = 256
blocks_looked_at None (Some i) = i / 36 + 1

-- the end of the bytes that are looked at to find the blocks of the header of HDU k, within the file
unfoldable pub header_touched : ℕ → ℕ → List ℕ → ℕ
header_touched k start file =
    min (length file) (start + 2880 * blocks_looked_at (first_refusal (begin_checks k start file)) (end_of (header_room start file)))

-- END is in the last block
abbrev pub ends_in_last_block : List ℕ → Bool
ends_in_last_block header = is_some (end_of header) && (2880 * blocks_to_end (end_of header) == length header)

-- the first card before END that says that a primary has random groups
abbrev pub groups_card : List ℕ → Option ℕ
groups_card header = first_card (is_set (codes "GROUPS")) header

-- a primary whose first axis has length 0 is one of random groups, if a card says so
abbrev pub group_checks : ℕ → List ℕ → List (Bool × Fault)
group_checks zero header =
    (nat_lt 0 (naxis_of header) && (size_at header 3 == 0 && is_some (groups_card header)), refusal 0 (Card (unwrap_or (groups_card header) 0)) Groups) ∷ []
group_checks (suc k) header = []

-- the byte after the data and their fill, by the header that begins at this byte
abbrev pub hdu_end : ℕ → ℕ → List ℕ → ℕ
hdu_end k start header = start + length header + whole_blocks_of (data_len_of k header)

-- an HDU ends at byte 2^62 at most, and within the file
abbrev pub end_checks : ℕ → ℕ → ℕ → List (Bool × Fault)
end_checks k len end =
    (nat_lt (2 ^ 62) end, refusal k (Card 2) Limit)
    ∷ (nat_lt len end, refusal k (Byte len) Truncated)
    ∷ []

-- The checks of the header of HDU k, whose blocks are known, in a file of so many bytes. If END is not in its last block, the
-- source gave other bytes than before.
abbrev pub header_checks : ℕ → ℕ → ℕ → List ℕ → List (Bool × Fault)
header_checks k start len header =
    (not (ends_in_last_block header), refusal k (Card 0) BadCard)
    ∷ (mandatory_checks k header
    ++ (group_checks k header
    ++ end_checks k len (hdu_end k start header)))

-- the facts of the header of HDU k, or why the file is refused
unfoldable pub header_of : ℕ → ℕ → ℕ → List ℕ → Result Header Fault
header_of k start len header = unless_refused (facts_of k start header) (first_refusal (header_checks k start len header))

-- the same if the header is taken from the file
abbrev pub header_in : ℕ → ℕ → List ℕ → Result ℕ Fault → Result Header Fault
header_in k start file (Ok blocks) = header_of k start (length file) (take (2880 * blocks) (drop start file))
header_in k start file (Err fault) = Err fault

unfoldable pub hdu_at : ℕ → ℕ → List ℕ → Result Header Fault
hdu_at k start file = header_in k start file (header_blocks_of k start file)

-- a header and those that follow it
abbrev pub followed_by : Header → Result (List Header) Fault → Result (List Header) Fault
followed_by h (Ok hs) = Ok (h ∷ hs)
followed_by h (Err fault) = Err fault

-- What a job says of an HDU that passed the checks of every job: its own fault, or whether the HDU is the last that it looks at.
abbrev pub Judge : Type 0
Judge = Header → Result Bool Fault

-- no checks of its own, and no stop
abbrev pub unjudged : Judge
unjudged h = Ok false

-- the headers from one HDU on: it is the last if the job stops or the file ends, otherwise those of the next one follow
abbrev pub by_judgement : List ℕ → Header → Result (List Header) Fault → Result Bool Fault → Result (List Header) Fault
by_judgement file h rest (Err fault) = Err fault
by_judgement file h rest (Ok true) = Ok (h ∷ [])
by_judgement file h rest (Ok false) = if next_start_of h == length file then Ok (h ∷ []) else followed_by h rest

abbrev pub judged : List ℕ → Judge → (Header → Result (List Header) Fault) → Result Header Fault → Result (List Header) Fault
judged file judge rest (Err fault) = Err fault
judged file judge rest (Ok h) = by_judgement file h (rest h) (judge h)

-- The headers of the HDUs from number k on, of which there may be so many, or the first fault: first the checks of every job for
-- HDU k, then the job's own for HDU k, and then the next HDU.
unfoldable pub walk_from : Judge → ℕ → ℕ → ℕ → List ℕ → Result (List Header) Fault
walk_from judge zero k start file = Err (refusal k (Byte start) Limit)
walk_from judge (suc more) k start file = judged file judge (λ h. walk_from judge more (suc k) (next_start_of h) file) (hdu_at k start file)

-- the headers of the HDUs of a file that a job looks at, of which there may be so many, or its first fault
abbrev pub walk_of : Judge → ℕ → List ℕ → Result (List Header) Fault
walk_of judge most file = walk_from judge most 0 0 file

-- the same of all HDUs, by only the checks of every job
abbrev pub headers_of : ℕ → List ℕ → Result (List Header) Fault
headers_of most file = walk_of unjudged most file

-- if there is a card of this property, the header is refused at it
abbrev pub refused_at : ℕ → Option ℕ → Kind → Bool × Fault
refused_at k found kind = (is_some found, refusal k (Card (unwrap_or found 0)) kind)
