-- Zeros fill the data behind the heap, what stands before is right, and the header is compared last.
use Rattle.std.proofs.Common.{◌≡◌, ℕ, ◌*◌, ◌≤◌, ◌^◌, List, Option, IfSome, None, take, true, false, refl, sym, ◌∙◌, subst, arith, rules}
use Rattle.std.proofs.lemmas.List.{length-take}
use Rattle.fz_base.specs.Source.{LogsWithin}
use Rattle.fz_block.specs.Header.{next_start_of}
use Rattle.fz_block.specs.Hdus.{cards_of}
use Rattle.fz_image.specs.declared.progress.Progress.{Progress}
use Rattle.fz_strict.specs.Backs.{bytes_back}
use Rattle.fz_compare.specs.Compared.{begins_right, has_fill, has_header}
use Rattle.fz_strict.proofs.BackImages.{some_rest}
use Rattle.fz_strict.proofs.Frames.{frame, no_begin, no_fill}
use Rattle.fz_strict.proofs.image.compare_frame.Goals as goal

pub has_fill-requires-clause-heap : goal.has_fill-requires-clause-heap
has_fill-requires-clause-heap g c =
    let so_far = c.requires.progress.0 in
    subst (λ (q : Progress). q.heap ≤ 2 ^ 43) (sym so_far.progress) (c.table_law.ensures.small c.args.restored.now.layout so_far.codes c.requires.restored.2.layout so_far.each so_far.some).heap

pub make_header-len-requires-clause-room : goal.make_header-len-requires-clause-room
make_header-len-requires-clause-room g c =
    omega (arith, length-take (2880 * c.args.restored.now.header.blocks) c.args.frame.plain.now, c.in_ok-begins.ensures.stays.1, c.requires.made)

pub returns-then-not-fills-clause-compared : goal.returns-then-not-fills-clause-compared
returns-then-not-fills-clause-compared g c =
    let held : Option (List ℕ) = g.S.Source.held c.args.source.now in
    let f = c.args.frame in
    let x = c.args.restored.now in
    let other : IfSome held (λ file. false ≡ has_fill file (next_start_of f.header.now) x.layout c.args.progress.heap) = search rules in
    some_rest held f.header.now f.sums f.plain.now x c.args.progress false None refl (no_fill f.header.now x.layout f.sums (cards_of (bytes_back x f.plain.now)) c.args.progress held other)

pub returns-then-not-begins-clause-compared : goal.returns-then-not-begins-clause-compared
returns-then-not-begins-clause-compared g c =
    let held : Option (List ℕ) = g.S.Source.held c.args.source.now in
    let f = c.args.frame in
    let h = f.header.now in
    let x = c.args.restored.now in
    let l = x.layout in
    let first : g.S.Source.held c.has_fill.new.source ≡ held = c.in_ok-fills.ensures.stays.0.held_is in
    let fill : IfSome held (λ file. true ≡ has_fill file (next_start_of h) l c.args.progress.heap) = search rules in
    let there : IfSome (g.S.Source.held c.has_fill.new.source) (λ file. false ≡ begins_right l.plan.primary file h) = search rules in
    some_rest held h f.sums f.plain.now x c.args.progress false None refl
    (no_begin h l f.sums (cards_of (bytes_back x f.plain.now)) c.args.progress held fill (subst (λ (k : Option (List ℕ)). IfSome k (λ file. false ≡ begins_right l.plan.primary file h)) first there))

pub returns-clause-compared : goal.returns-clause-compared
returns-clause-compared g c =
    let held : Option (List ℕ) = g.S.Source.held c.args.source.now in
    let f = c.args.frame in
    let h = f.header.now in
    let x = c.args.restored.now in
    let l = x.layout in
    let w = c.args.progress in
    let made : List ℕ = take c.make_header-len.result c.make_header-len.new.made in
    let first : g.S.Source.held c.has_fill.new.source ≡ held = c.in_ok-fills.ensures.stays.0.held_is in
    let second : g.S.Source.held c.begins_right.new.source ≡ held = c.in_ok-begins.ensures.stays.0.held_is ∙ first in
    let fill : IfSome held (λ file. true ≡ has_fill file (next_start_of h) l w.heap) = search rules in
    let there : IfSome (g.S.Source.held c.has_fill.new.source) (λ file. true ≡ begins_right l.plan.primary file h) = search rules in
    let begins : IfSome held (λ file. true ≡ begins_right l.plan.primary file h) = subst (λ (k : Option (List ℕ)). IfSome k (λ file. true ≡ begins_right l.plan.primary file h)) first there in
    let same : IfSome held (λ file. c.in_ok-same.same ≡ has_header file h made) = subst (λ (k : Option (List ℕ)). IfSome k (λ file. c.in_ok-same.same ≡ has_header file h made)) second c.in_ok-same.ensures.same in
    some_rest held h f.sums f.plain.now x w c.in_ok-same.same c.with_image.result c.with_image.ensures.with
    (frame h l f.sums (cards_of (bytes_back x f.plain.now)) w made c.in_ok-same.same (λ codes each all is. c.make_header-len.ensures.header l codes c.requires.restored.2.layout refl each all is) held fill begins same)

pub returns-in_err-fills-clause-read : goal.returns-in_err-fills-clause-read
returns-in_err-fills-clause-read g c =
    c.log_law.ensures.wider 0 c.next_start.result 0 (next_start_of c.args.frame.header.now) (g.S.Source.ranges c.args.source.now) (g.S.Source.ranges c.has_fill.new.source) (omega arith) (omega (arith, c.next_start.ensures)) c.in_err-fills.ensures.read

pub returns-then-not-fills-clause-read : goal.returns-then-not-fills-clause-read
returns-then-not-fills-clause-read g c =
    c.log_law.ensures.wider 0 c.next_start.result 0 (next_start_of c.args.frame.header.now) (g.S.Source.ranges c.args.source.now) (g.S.Source.ranges c.has_fill.new.source) (omega arith) (omega (arith, c.next_start.ensures)) c.in_ok-fills.ensures.read

pub returns-in_err-begins-clause-read : goal.returns-in_err-begins-clause-read
returns-in_err-begins-clause-read g c =
    let h = c.args.frame.header.now in
    let old : Option (List (ℕ × ℕ)) = g.S.Source.ranges c.args.source.now in
    let one : Option (List (ℕ × ℕ)) = g.S.Source.ranges c.has_fill.new.source in
    let fill : LogsWithin 0 (next_start_of h) old one = c.log_law.ensures.wider 0 c.next_start.result 0 (next_start_of h) old one (omega arith) (omega (arith, c.next_start.ensures)) c.in_ok-fills.ensures.read in
    c.log_law.ensures.both 0 (next_start_of h) old one (g.S.Source.ranges c.begins_right.new.source) fill c.in_err-begins.ensures.read

pub returns-then-not-begins-clause-read : goal.returns-then-not-begins-clause-read
returns-then-not-begins-clause-read g c =
    let h = c.args.frame.header.now in
    let old : Option (List (ℕ × ℕ)) = g.S.Source.ranges c.args.source.now in
    let one : Option (List (ℕ × ℕ)) = g.S.Source.ranges c.has_fill.new.source in
    let fill : LogsWithin 0 (next_start_of h) old one = c.log_law.ensures.wider 0 c.next_start.result 0 (next_start_of h) old one (omega arith) (omega (arith, c.next_start.ensures)) c.in_ok-fills.ensures.read in
    c.log_law.ensures.both 0 (next_start_of h) old one (g.S.Source.ranges c.begins_right.new.source) fill c.in_ok-begins.ensures.read

pub returns-in_err-same-clause-read : goal.returns-in_err-same-clause-read
returns-in_err-same-clause-read g c =
    let h = c.args.frame.header.now in
    let old : Option (List (ℕ × ℕ)) = g.S.Source.ranges c.args.source.now in
    let one : Option (List (ℕ × ℕ)) = g.S.Source.ranges c.has_fill.new.source in
    let two : Option (List (ℕ × ℕ)) = g.S.Source.ranges c.begins_right.new.source in
    let fill : LogsWithin 0 (next_start_of h) old one = c.log_law.ensures.wider 0 c.next_start.result 0 (next_start_of h) old one (omega arith) (omega (arith, c.next_start.ensures)) c.in_ok-fills.ensures.read in
    let begin : LogsWithin 0 (next_start_of h) old two = c.log_law.ensures.both 0 (next_start_of h) old one two fill c.in_ok-begins.ensures.read in
    c.log_law.ensures.both 0 (next_start_of h) old two (g.S.Source.ranges c.has_header.new.source) begin c.in_err-same.ensures.read

pub returns-clause-read : goal.returns-clause-read
returns-clause-read g c =
    let h = c.args.frame.header.now in
    let old : Option (List (ℕ × ℕ)) = g.S.Source.ranges c.args.source.now in
    let one : Option (List (ℕ × ℕ)) = g.S.Source.ranges c.has_fill.new.source in
    let two : Option (List (ℕ × ℕ)) = g.S.Source.ranges c.begins_right.new.source in
    let fill : LogsWithin 0 (next_start_of h) old one = c.log_law.ensures.wider 0 c.next_start.result 0 (next_start_of h) old one (omega arith) (omega (arith, c.next_start.ensures)) c.in_ok-fills.ensures.read in
    let begin : LogsWithin 0 (next_start_of h) old two = c.log_law.ensures.both 0 (next_start_of h) old one two fill c.in_ok-begins.ensures.read in
    c.log_law.ensures.both 0 (next_start_of h) old two (g.S.Source.ranges c.has_header.new.source) begin c.in_ok-same.ensures.read
