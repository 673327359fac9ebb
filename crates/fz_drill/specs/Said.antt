-- What `drill` says of its outcomes.
use Rattle.std.specs.Prelude.{ℕ, Bool, List, ◌++◌, codes, decimal, if◌then◌else◌}
use Rattle.fz_drill.specs.declared.outcome.Outcome.{Outcome}
use Rattle.fz_drill.specs.declared.outcome.Outcomes.{Outcomes}

-- whether the bytes are the same
abbrev pub same_word : Bool → List ℕ
same_word same = if same then codes "same" else codes "other"

-- the line of a codec of this name
abbrev pub outcome_text : List ℕ → Outcome → List ℕ
outcome_text name outcome =
    name ++ codes " packed " ++ decimal outcome.packed
    ++ codes " unpack " ++ same_word outcome.unpacked ++ codes " cut " ++ same_word outcome.cut ++ codes "\n"

-- the line of the file, and those of the codecs
abbrev pub outcomes_text : ℕ → Outcomes → List ℕ
outcomes_text rows all =
    codes "drill " ++ decimal rows ++ codes " plain " ++ decimal all.plain ++ codes "\n"
    ++ (outcome_text (codes "rice") all.rice ++ (outcome_text (codes "plio") all.plio ++ outcome_text (codes "none") all.none))
