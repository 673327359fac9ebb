-- What the types of this crate hold, in the words of the definitions.
use Rattle.std.specs.Prelude.{◌++◌, ℕ, List, [], String, Option, Some, None, Result, Ok, Err}
use Rattle.std.specs.Borrow.{Bor}
use Rattle.std.specs.Option.{option_map}
use Rattle.fz_words.specs.Jobs.{Asked, LineIs, Names}
use Rattle.fz_words.specs.PatchJobs.{PatchAsked}
use Rattle.fz_words.specs.Parts.{PartIs, operands_in, parts_behind, texts_of}
use Rattle.fz_words.specs.Parts.PartIs.{Given as IsGiven, Awaiting as IsAwaiting, Operand as IsOperand, Outside as IsOutside}
use Rattle.fz_words.specs.Values.{Range as RangeIs}
use Rattle.fz_words.specs.declared.line.Line.{Line}
use Rattle.fz_words.specs.declared.lists.Range.{Range}
use Rattle.fz_words.specs.declared.part.Part.{Part}
use Rattle.fz_words.specs.declared.part.Part.TheVariants.{Given, Awaiting, Operand, Outside}
use Rattle.fz_words.specs.declared.patch_request.PatchRequest.{PatchRequest}
use Rattle.fz_words.specs.declared.request.Request.{Request}
use Rattle.fz_words.specs.declared.request.Usage.{Usage}

abbrev pub seen_part : Part → PartIs
seen_part (Given option value) = IsGiven option value.now
seen_part (Awaiting option) = IsAwaiting option
seen_part (Operand word) = IsOperand word.now
seen_part Outside = IsOutside

-- the words after a command: the parts before the first `--`, and the operands
abbrev pub seen_line : Line → LineIs
seen_line line =
    let parts = parts_behind line.command [] (texts_of line.words.now) in
    record { parts = parts; operands = operands_in parts ++ texts_of line.others.now }

-- the bytes of a text that was read, or none if the answer is Usage
abbrev pub seen_text : Result (Bor (List ℕ)) Usage → Option (List ℕ)
seen_text (Ok text) = Some text.now
seen_text (Err usage) = None

abbrev pub seen_value : Result (Option (Bor (List ℕ))) Usage → Option (Option (List ℕ))
seen_value (Ok value) = Some (option_map (λ text. text.now) value)
seen_value (Err usage) = None

abbrev pub seen_names : Result (Bor (List ℕ) × Bor (List ℕ)) Usage → Option Names
seen_names (Ok names) = Some (record { input = names.0.now; output = names.1.now })
seen_names (Err usage) = None

abbrev pub seen_range : Range → RangeIs
seen_range r = record { lo = r.lo; hi = r.hi; step = r.step }

-- what a request asks for
abbrev pub asked_of : Request → Asked
asked_of r = record { job = r.job; workers = r.workers; strict = r.strict; memory = r.memory; input = r.input.now; output = r.output.now }

-- what an answer asks for: nothing, if it is Usage
abbrev pub asked_in : Result Request Usage → Option Asked
asked_in (Ok r) = Some (asked_of r)
asked_in (Err usage) = None

-- the same of the words of `patch`
abbrev pub patch_asked_of : PatchRequest → PatchAsked
patch_asked_of r = record { hdu = r.hdu; at = r.at; memory = r.memory; patch = r.patch.now; file = r.file.now }

abbrev pub patch_asked_in : Result PatchRequest Usage → Option PatchAsked
patch_asked_in (Ok r) = Some (patch_asked_of r)
patch_asked_in (Err usage) = None
