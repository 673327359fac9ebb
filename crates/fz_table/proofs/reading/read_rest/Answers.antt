-- What is left of a record after its first bytes begins as many bytes later in the file.
use Rattle.std.proofs.Common.{◌≡◌, ℕ, ◌+◌, ◌-◌, ◌<◌, List, take, drop, Option, Some, None, IfSome, Result, Ok, Err, OnOk, sym, ap, ◌∙◌, drop-drop, arith}
use Rattle.std.proofs.lemmas.List.{drop-take}
use Rattle.fz_table.proofs.reading.read_rest.Goals as goal

rest_of : (start read skipped : ℕ) (file : List ℕ) → skipped < read → take (read - skipped) (drop (start + skipped) file) ≡ drop skipped (take read (drop start file))
rest_of start read skipped file less =
    let all : read ≡ skipped + (read - skipped) = omega (arith, less) in
    sym (ap (λ n. drop skipped (take n (drop start file))) all
    ∙ drop-take skipped (read - skipped) (drop start file)
    ∙ ap (take (read - skipped)) (drop-drop skipped start file))

rest_told : (held : Option (List ℕ)) (start read skipped : ℕ) (bytes : List ℕ) → skipped < read → IfSome held (λ file. bytes ≡ take (read - skipped) (drop (start + skipped) file))
    → IfSome held (λ file. bytes ≡ drop skipped (take read (drop start file)))
rest_told None start read skipped bytes less is = tt
rest_told (Some file) start read skipped bytes less is = is ∙ rest_of start read skipped file less

rest_read : {X E : Type 0} (result : Result X E) (held : Option (List ℕ)) (start read skipped : ℕ) (bytes : List ℕ) → skipped < read
    → OnOk result (IfSome held (λ file. bytes ≡ take (read - skipped) (drop (start + skipped) file))) → OnOk result (IfSome held (λ file. bytes ≡ drop skipped (take read (drop start file))))
rest_read (Ok x) held start read skipped bytes less is = rest_told held start read skipped bytes less is
rest_read (Err e) held start read skipped bytes less is = tt

pub returns-clause-bytes : goal.returns-clause-bytes
returns-clause-bytes g c =
    let chosen = c.args.chosen.now in
    let skipped : ℕ = c.args.skipped in
    rest_read c.read_record.result (g.S.Source.held c.args.source.now) chosen.start chosen.read skipped (take (chosen.read - skipped) c.read_record.new.into) c.requires.some c.read_record.ensures.bytes
