-- One HDU that was verified, and its line, where the source tells its bytes (FITS 4.0, sections 4.4.2.7 and 10.1).
use Rattle.std.proofs.Common.{◌≡◌, ℕ, Bool, true, false, cond, inl, inr, List, [], ◌∷◌, refl, sym, ap, ◌∙◌, subst}
use Rattle.std.specs.Prelude.{Option, Some, None, IfSome, Ok, Err, not, ◌||◌}
use Rattle.std.specs.List.{flat_map}
use Rattle.std.proofs.lemmas.List.{append-nil}
use Rattle.fz_base.specs.Counts.{Tally}
use Rattle.fz_base.specs.Sink.{MayAppend, appended}
use Rattle.fz_base.specs.Stop.{IfRefused, StoppedByRead, StoppedByWrite}
use Rattle.fz_base.specs.declared.fault.Fault.{Fault}
use Rattle.fz_base.specs.declared.failure.Stop.{Stop}
use Rattle.fz_base.specs.declared.failure.Stop.TheVariants.{Refused, ReadFault, WriteFault, OverLimit, NoMemory}
use Rattle.fz_block.specs.declared.header.Header.{Header}
use Rattle.fz_checks.specs.declared.job_checks.PackedImage.{PackedImage}
use Rattle.fz_job.specs.Images.{IsSaid}
use Rattle.fz_files.specs.FirstFault.{IsFirstRowFault, rows_of}
use Rattle.fz_files.specs.Lines.{has_wrong_sum, is_wrong, verify_line}
use Rattle.fz_files.specs.Restored.{is_image}
use Rattle.fz_job.specs.Again.{IsAgain}
use Rattle.fz_verify.specs.Lines.{verdicts_text}
use Rattle.fz_verify.specs.Printed.{ChecksHdu}
use Rattle.fz_verify.specs.Rows.{IsHduFault, IsHduSound}
use Rattle.fz_verify.specs.Sums.{AreVerdictsOn, are_right}
use Rattle.fz_job.specs.declared.again.ReadHdu.{ReadHdu}
use Rattle.fz_verify.specs.declared.sums.Verdicts.{Verdicts}
use Rattle.fz_verify.proofs.Said.{image_said, none_said, verify_text}

module _ (held : Option (List ℕ)) (n : ℕ) (buf : List ℕ) (a : ReadHdu) (w : IsAgain held n buf a) where
  -- ---- its rows

  those_of : (g : List ℕ) (b : Bool) (fault : Option Fault) → is_image g a.header ≡ b → IsFirstRowFault g (flat_map (rows_of g) (cond b (a.header ∷ []) [])) fault → IsFirstRowFault g (flat_map (rows_of g) (cond (is_image g a.header) (a.header ∷ []) [])) fault
  those_of g b fault is rows = subst (λ c. IsFirstRowFault g (flat_map (rows_of g) (cond c (a.header ∷ []) [])) fault) (sym is) rows

  all_of : (g : List ℕ) (fault : Option Fault) → is_image g a.header ≡ true → IsFirstRowFault g (rows_of g a.header) fault → IsFirstRowFault g (flat_map (rows_of g) (cond (is_image g a.header) (a.header ∷ []) [])) fault
  all_of g fault is rows = those_of g true fault is (subst (λ l. IsFirstRowFault g l fault) (sym (append-nil (rows_of g a.header))) rows)

-- the image is the one that the header says
pub said_there : (held : Option (List ℕ)) (n : ℕ) (buf : List ℕ) (a : ReadHdu) → IsAgain held n buf a → (i : PackedImage) → a.image ≡ Some i → IfSome held (λ g. IsSaid g a.header i)
said_there None n buf a w i is = tt
said_there (Some g) n buf a w i is = (image_said (Some g) n buf a w i g refl is).1

pub rows_sound : (held : Option (List ℕ)) (n : ℕ) (buf : List ℕ) (a : ReadHdu) → IsAgain held n buf a → (i : PackedImage) → a.image ≡ Some i → IfSome held (λ g. IsFirstRowFault g (rows_of g a.header) None) → IfSome held (λ g. IsHduSound g a.header)
rows_sound None n buf a w i is rows = tt
rows_sound (Some g) n buf a w i is rows = all_of (Some g) n buf a w g None (image_said (Some g) n buf a w i g refl is).0 rows

pub rows_faulty : (held : Option (List ℕ)) (n : ℕ) (buf : List ℕ) (a : ReadHdu) → IsAgain held n buf a → (i : PackedImage) → a.image ≡ Some i → (x : Fault) → IfSome held (λ g. IsFirstRowFault g (rows_of g a.header) (Some x)) → IfSome held (λ g. IsHduFault g a.header x)
rows_faulty None n buf a w i is x rows = tt
rows_faulty (Some g) n buf a w i is x rows = all_of (Some g) n buf a w g (Some x) (image_said (Some g) n buf a w i g refl is).0 rows

pub rows_none : (held : Option (List ℕ)) (n : ℕ) (buf : List ℕ) (a : ReadHdu) → IsAgain held n buf a → a.image ≡ None → IfSome held (λ g. IsHduSound g a.header)
rows_none None n buf a w is = tt
rows_none (Some g) n buf a w is = those_of (Some g) n buf a w g false None (none_said (Some g) n buf a w g refl is) tt

-- ---- both

pub both_told : (held : Option (List ℕ)) (P Q : List ℕ → Type 0) → IfSome held P → IfSome held Q → IfSome held (λ g. P g × Q g)
both_told None P Q p q = tt
both_told (Some g) P Q p q = (p, q)

-- a read refuses nothing
pub read_refuses_none : (X : Type 0) (P : Fault → Type 0) (before now : Tally) (stop : Stop) → StoppedByRead before now stop → IfRefused {X = X} (Err stop) P
read_refuses_none X P before now (Refused x) why = absurd why
read_refuses_none X P before now ReadFault why = tt
read_refuses_none X P before now WriteFault why = tt
read_refuses_none X P before now (OverLimit live asked limit) why = tt
read_refuses_none X P before now NoMemory why = tt

-- ---- its line

right_is : (g : List ℕ) (h : Header) (v : Verdicts) → AreVerdictsOn g h v → are_right v ≡ not (has_wrong_sum g h)
right_is g h v are = λ i. not (is_wrong (are.datasum i) || is_wrong (are.checksum i))

-- it was printed
pub checked_line : (held : Option (List ℕ)) (n : ℕ) (buf : List ℕ) (a : ReadHdu) → IsAgain held n buf a → (v : Verdicts) (right : Bool) (old new : Option (List ℕ)) → right ≡ are_right v → IfSome held (λ g. AreVerdictsOn g a.header v × IsHduSound g a.header) →
    new ≡ appended (verdicts_text a.header.hdu a.image v) old → IfSome held (λ g. ChecksHdu g a.header old new (Ok right))
checked_line None n buf a w v right old new says are got = tt
checked_line (Some g) n buf a w v right old new says are got =
    (are.1, says ∙ right_is g a.header v are.0, got ∙ ap (λ l. appended l old) (verify_text (Some g) n buf a w v g refl are.0))

-- a front of it was
front_by : (g : List ℕ) (h : Header) (old new : Option (List ℕ)) (before now : Tally) (stop : Stop) → IsHduSound g h → MayAppend (verify_line g h) old new → StoppedByWrite before now stop → ChecksHdu g h old new (Err stop)
front_by g h old new before now (Refused x) sound front why = absurd why
front_by g h old new before now ReadFault sound front why = inl (sound, front)
front_by g h old new before now WriteFault sound front why = inl (sound, front)
front_by g h old new before now (OverLimit live asked limit) sound front why = inl (sound, front)
front_by g h old new before now NoMemory sound front why = inl (sound, front)

pub checked_front : (held : Option (List ℕ)) (n : ℕ) (buf : List ℕ) (a : ReadHdu) → IsAgain held n buf a → (v : Verdicts) (old new : Option (List ℕ)) (before now : Tally) (stop : Stop) → IfSome held (λ g. AreVerdictsOn g a.header v × IsHduSound g a.header) →
    MayAppend (verdicts_text a.header.hdu a.image v) old new → StoppedByWrite before now stop → IfSome held (λ g. ChecksHdu g a.header old new (Err stop))
checked_front None n buf a w v old new before now stop are front why = tt
checked_front (Some g) n buf a w v old new before now stop are front why =
    front_by g a.header old new before now stop are.1 (subst (λ l. MayAppend l old new) (verify_text (Some g) n buf a w v g refl are.0) front) why

-- nothing was printed
pub unchecked : (held : Option (List ℕ)) (h : Header) (old : Option (List ℕ)) (stop : Stop) → IfRefused {X = Verdicts} (Err stop) (λ x. IfSome held (λ g. IsHduFault g h x)) → IfSome held (λ g. ChecksHdu g h old old (Err stop))
unchecked None h old stop fault = tt
unchecked (Some g) h old (Refused x) fault = (fault, refl)
unchecked (Some g) h old ReadFault fault = inr refl
unchecked (Some g) h old WriteFault fault = inr refl
unchecked (Some g) h old (OverLimit live asked limit) fault = inr refl
unchecked (Some g) h old NoMemory fault = inr refl
