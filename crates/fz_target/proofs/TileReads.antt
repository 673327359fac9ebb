-- What the work on one tile after another reads of the file.
use Rattle.std.proofs.Common.{◌≡◌, inl, inr, ℕ, List, [], ◌∷◌, ◌++◌, map, Option, Some, None, IfSome, sym, subst, append-nil, ap, refl, arith, ◌<◌}
use Rattle.std.specs.List.{flat_map}
use Rattle.std.specs.Option.{option_map}
use Rattle.fz_base.specs.Ranges.{LiesIn, LogsIn, LogsJoinLaw}
use Rattle.fz_block.specs.declared.header.Header.{Header}
use Rattle.fz_files.specs.Cutout.{ranges_of_row}
use Rattle.fz_files.specs.FirstFault.{image_row}
use Rattle.fz_job.specs.Images.{fetched_ranges}

lies_left : (xs ys : List (ℕ × ℕ)) (byte : ℕ) → LiesIn xs byte → LiesIn (xs ++ ys) byte
lies_left [] ys byte lies = absurd lies
lies_left (x ∷ xs) ys byte (inl here) = inl here
lies_left (x ∷ xs) ys byte (inr later) = inr (lies_left xs ys byte later)

lies_right : (xs ys : List (ℕ × ℕ)) (byte : ℕ) → LiesIn ys byte → LiesIn (xs ++ ys) byte
lies_right [] ys byte lies = lies
lies_right (x ∷ xs) ys byte lies = inr (lies_right xs ys byte lies)

-- the ranges of a tile are among those of all
one_of_all : (file : List ℕ) (h : Header) (front : List ℕ) (tile : ℕ) (after : List ℕ) (byte : ℕ) → LiesIn (fetched_ranges file h (tile ∷ [])) byte → LiesIn (fetched_ranges file h (front ++ tile ∷ after)) byte
one_of_all file h [] tile after byte lies =
    lies_left (ranges_of_row file (image_row h tile)) (fetched_ranges file h after) byte
    (subst (λ (rs : List (ℕ × ℕ)). LiesIn rs byte) (append-nil (ranges_of_row file (image_row h tile))) lies)
one_of_all file h (t ∷ front) tile after byte lies =
    lies_right (ranges_of_row file (image_row h t)) (fetched_ranges file h (front ++ tile ∷ after)) byte (one_of_all file h front tile after byte lies)

wider : (ranges more : List (ℕ × ℕ)) (old new : Option (List (ℕ × ℕ))) → ((byte : ℕ) → LiesIn ranges byte → LiesIn more byte) → LogsIn ranges old new → LogsIn more old new
wider ranges more old new lie logs = (logs.0, (λ k d near byte from to. lie byte (logs.1 k d near byte from to)), logs.2)

same_ranges : (old : Option (List (ℕ × ℕ))) → old ≡ option_map (λ rs. rs ++ []) old
same_ranges None = refl
same_ranges (Some rs) = ap Some (sym (append-nil rs))

-- nothing was read
pub none_fetched : (held : Option (List ℕ)) (h : Header) (tiles : List ℕ) (old : Option (List (ℕ × ℕ))) → IfSome held (λ f. LogsIn (fetched_ranges f h tiles) old old)
none_fetched None h tiles old = tt
none_fetched (Some f) h tiles old = ([], (λ k d few. absurd (omega (arith, few))), same_ranges old)

-- one tile more
pub one_fetched : LogsJoinLaw → (held held' : Option (List ℕ)) (h : Header) (tiles front : List ℕ) (tile : ℕ) (after : List ℕ) (old mid new : Option (List (ℕ × ℕ))) → tiles ≡ front ++ tile ∷ after → held' ≡ held →
    IfSome held (λ f. LogsIn (fetched_ranges f h tiles) old mid) → IfSome held' (λ f. LogsIn (fetched_ranges f h (tile ∷ [])) mid new) → IfSome held (λ f. LogsIn (fetched_ranges f h tiles) old new)
one_fetched join None held' h tiles front tile after old mid new parts same first next = tt
one_fetched join (Some f) held' h tiles front tile after old mid new parts same first next =
    let one : LogsIn (fetched_ranges f h (tile ∷ [])) mid new = subst (λ (o : Option (List ℕ)). IfSome o (λ x. LogsIn (fetched_ranges x h (tile ∷ [])) mid new)) same next in
    join (fetched_ranges f h tiles) old mid new first
    (wider (fetched_ranges f h (tile ∷ [])) (fetched_ranges f h tiles) mid new
    (λ byte lies. subst (λ (ts : List ℕ). LiesIn (fetched_ranges f h ts) byte) (sym parts) (one_of_all f h front tile after byte lies)) one)
