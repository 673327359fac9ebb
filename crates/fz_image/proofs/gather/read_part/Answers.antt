-- One read more is told where the reads before it were.
use Rattle.std.proofs.Common.{◌≡◌, ℕ, ◌+◌, ◌<◌, ◌≤◌, arith, List, [], ◌∷◌, ◌++◌, inl, inr, Option, IsSome, Result, Ok, Err, OnOk, OnErr, sym, subst, rules}
use Rattle.std.specs.Option.{option_map}
use Rattle.std.proofs.lemmas.List.{length-drop, length-take}
use Rattle.fz_base.specs.Source.{logged, MayLog}
use Rattle.fz_base.specs.Told.{StaysTold}
use Rattle.fz_image.proofs.gather.read_part.Goals as goal

read_told : {T E : Type 0} → ((more : List (ℕ × ℕ)) (old new : Option (List (ℕ × ℕ))) → new ≡ option_map (λ rs. rs ++ more) old → StaysTold old new) → (result : Result T E) (at count : ℕ) (old new : Option (List (ℕ × ℕ)))
    → OnOk result (new ≡ logged at count old) → OnErr result (MayLog at count old new) → StaysTold old new
read_told law (Ok x) at count old new ok err = law ((at, count) ∷ []) old new ok
read_told law (Err e) at count old new ok (inl same) = λ told. subst IsSome (sym same) told
read_told law (Err e) at count old new ok (inr more) = law ((at, count) ∷ []) old new more

pub returns-clause-stays : goal.returns-clause-stays
returns-clause-stays g c = (
  record {
    held_is = search rules;
    attached_is = search rules;
    told =
        read_told c.log_law.ensures.told c.read_at.result c.args.part.from _ (g.S.Source.ranges c.args.source.now) (g.S.Source.ranges c.read_at.new.self) c.read_at.ensures.logged c.read_at.ensures.log_err;
  },
  search rules,
)

-- what one read logs, whatever it answers
read_logs : {T E : Type 0} (result : Result T E) (at count : ℕ) (old new : Option (List (ℕ × ℕ))) → OnOk result (new ≡ logged at count old) → OnErr result (MayLog at count old new) → MayLog at count old new
read_logs (Ok x) at count old new ok err = inr ok
read_logs (Err e) at count old new ok err = err

pub returns-clause-log : goal.returns-clause-log
returns-clause-log g c =
    let may = read_logs c.read_at.result _ _ (g.S.Source.ranges c.args.source.now) (g.S.Source.ranges c.read_at.new.self) c.read_at.ensures.logged c.read_at.ensures.log_err in
    c.log_law.ensures.one c.args.part.from (c.args.part.from + c.args.part.count) _ _ (g.S.Source.ranges c.args.source.now) (g.S.Source.ranges c.read_at.new.self)
    (omega (arith, c.requires.some, c.requires.room, length-take {A = ℕ}, length-drop {A = ℕ})) (omega arith) (omega (arith, c.requires.room, length-take {A = ℕ}, length-drop {A = ℕ})) may
