-- What is read of one HDU that is compared lies in what `verify` reads of the file (FITS 4.0, sections 3.1, 7.3.5 and 10.1).
use Rattle.std.proofs.Common.{◌≡◌, ℕ, ◌+◌, ◌-◌, ◌≤◌, List, [], ◌++◌, append-nil, inl, inr, refl, sym, ap, arith}
use Rattle.std.specs.Prelude.{Option, Some, None, IfSome}
use Rattle.std.specs.Option.{option_map}
use Rattle.fz_base.specs.Ranges.{LiesIn, LogsIn, LogsJoinLaw, LogsWithinLaw}
use Rattle.fz_base.specs.Source.{LogsWithin}
use Rattle.fz_block.specs.Header.{next_start_of}
use Rattle.fz_block.specs.declared.header.Header.{Header}
use Rattle.fz_files.specs.Touched.{image_ranges}
use Rattle.fz_compare.specs.Reads.{table_ranges}

-- ---- between two places

abbrev pub JoinsReads : Type 0
JoinsReads = (from to : ℕ) (old mid new : Option (List (ℕ × ℕ))) → LogsWithin from to old mid → LogsWithin from to mid new → LogsWithin from to old new

abbrev pub WidensReads : Type 0
WidensReads = (from to from' to' : ℕ) (old new : Option (List (ℕ × ℕ))) → from' ≤ from → to ≤ to' → LogsWithin from to old new → LogsWithin from' to' old new

-- what is read before a byte, and then from a place up to it
pub then_read : JoinsReads → WidensReads → (at end to : ℕ) (old mid new : Option (List (ℕ × ℕ))) → end ≤ to → LogsWithin 0 to old mid → LogsWithin at end mid new → LogsWithin 0 to old new
then_read both wider at end to old mid new within first later = both 0 to old mid new first (wider at end 0 to mid new (omega arith) within later)

-- ---- in some ranges

-- nothing was read
same_ranges : (old : Option (List (ℕ × ℕ))) → old ≡ option_map (λ rs. rs ++ []) old
same_ranges None = refl
same_ranges (Some rs) = ap Some (sym (append-nil rs))

pub nothing : (ranges : List (ℕ × ℕ)) (old : Option (List (ℕ × ℕ))) → LogsIn ranges old old
nothing ranges old = ([], (λ k d few. absurd (omega (arith, few))), same_ranges old)

pub unread : (held : Option (List ℕ)) (ranges : List ℕ → List (ℕ × ℕ)) (old : Option (List (ℕ × ℕ))) → IfSome held (λ g. LogsIn (ranges g) old old)
unread None ranges old = tt
unread (Some g) ranges old = nothing (ranges g) old

-- what is read one after another, where the source tells its bytes
pub join_told : LogsJoinLaw → (held : Option (List ℕ)) (ranges : List ℕ → List (ℕ × ℕ)) (old mid new : Option (List (ℕ × ℕ))) → IfSome held (λ g. LogsIn (ranges g) old mid) → IfSome held (λ g. LogsIn (ranges g) mid new) →
    IfSome held (λ g. LogsIn (ranges g) old new)
join_told join None ranges old mid new first later = tt
join_told join (Some g) ranges old mid new first later = join (ranges g) old mid new first later

pub wider : (ranges more : List (ℕ × ℕ)) (old new : Option (List (ℕ × ℕ))) → ((byte : ℕ) → LiesIn ranges byte → LiesIn more byte) → LogsIn ranges old new → LogsIn more old new
wider ranges more old new inside reads = (reads.0, (λ k d few byte from to. inside byte (reads.1 k d few byte from to)), reads.2)

-- ---- a packed image

pub rows_read : (held : Option (List ℕ)) (h : Header) (old new : Option (List (ℕ × ℕ))) → IfSome held (λ g. LogsIn (image_ranges g h) old new) → IfSome held (λ g. LogsIn (table_ranges g h) old new)
rows_read None h old new reads = tt
rows_read (Some g) h old new reads = wider (image_ranges g h) (table_ranges g h) old new (λ byte is. inr is) reads

-- bytes of the file up to its end
pub bytes_read : LogsWithinLaw → (held : Option (List ℕ)) (h : Header) (end : ℕ) (old new : Option (List (ℕ × ℕ))) → end ≡ next_start_of h → LogsWithin 0 end old new → IfSome held (λ g. LogsIn (table_ranges g h) old new)
bytes_read within None h end old new is reads = tt
bytes_read within (Some g) h end old new is reads = within 0 end (table_ranges g h) old new (λ byte from to. inl (from, omega (arith, to, is))) reads
