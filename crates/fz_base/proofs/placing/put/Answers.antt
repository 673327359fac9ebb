-- The vector, of which a slice was lent, holds the slice, and that is the write of the definition.
use Rattle.std.proofs.Common.{◌≡◌, ◌+◌, ◌<◌, ◌≤◌, ◌++◌, List, ℕ, length, take, drop, [], ◌∙◌, arith, rules}
use Rattle.std.proofs.lemmas.List.{take_all, drop_all, append-nil}
use Rattle.fz_base.specs.Sink.{overwrite}
use Rattle.fz_base.proofs.Overwriting.{grown, placed-grown}
use Rattle.fz_base.proofs.placing.put.Goals as goal

-- a vector whose whole slice was lent ends as that slice
refilled_whole : (n : ℕ) (slice items : List ℕ) → length slice ≡ length items → length items ≤ n → take n (slice ++ drop (length slice) items) ≡ slice
refilled_whole n slice items same fits =
    let none : drop (length slice) items ≡ [] = drop_all (length slice) items (omega arith) in
    rw (none, append-nil) (take_all n slice (omega arith))

pub returns-clause-ok : goal.returns-clause-ok
unfolding grown
returns-clause-ok c =
    let before : List ℕ = c.args.contents.now.items in
    let bytes : List ℕ = c.args.bytes.now in
    let end : c.in_ok-end.end ≡ c.args.at + length bytes = search rules in
    let longer : c.extend.new.contents.items ≡ grown before (c.args.at + length bytes) =
    rw (← end) c.in_ok-extend.ensures.ok in
    let some : 0 < length bytes = search rules in
    let is_write : c.place.new.contents ≡ overwrite c.args.at bytes before =
    let lent : c.deref_mut.result.now ≡ grown before (c.args.at + length bytes) = cc in
    rw lent at c.place.ensures ∙ placed-grown before bytes c.args.at some in
    let same : length c.place.new.contents ≡ length c.extend.new.contents.items = search rules in
    let fits : length c.extend.new.contents.items ≤ c.extend.new.contents.len = search rules in
    refilled_whole c.extend.new.contents.len c.place.new.contents c.extend.new.contents.items same fits ∙ is_write
