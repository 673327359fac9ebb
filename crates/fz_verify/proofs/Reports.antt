-- The lines that were printed are those of the HDUs that were reported, one after another.
use Rattle.std.proofs.Common.{◌≡◌, ℕ, ◌+◌, ◌&&◌, Bool, true, false, List, [], ◌∷◌, ◌++◌, length, refl, sym, ap, ◌∙◌, subst, arith}
use Rattle.std.specs.Prelude.{Option, Some, None}
use Rattle.std.specs.List.{flat_map, list_all}
use Rattle.std.proofs.lemmas.Grind.{flat_map-append}
use Rattle.std.proofs.lemmas.List.{append-nil, length-append}
use Rattle.fz_base.specs.Sink.{MayAppend, appended}
use Rattle.fz_checks.specs.declared.job_checks.PackedImage.{PackedImage}
use Rattle.fz_files.specs.Packed.{tiles_in}
use Rattle.fz_verify.specs.Lines.{verdicts_text}
use Rattle.fz_verify.specs.Reported.{AreNumbered, Grew, Reported, Reports, ReportsFrom, is_right, reported_line}
use Rattle.fz_verify.specs.Sums.{are_right}
use Rattle.fz_verify.specs.declared.sums.Verdicts.{Verdicts}
use Rattle.fz_verify.proofs.Texts.{appended_none, got_both}

-- ---- a text that grew

pub grew_not : (old : Option (List ℕ)) → Grew old old
grew_not old = ([], appended_none old)

pub grew_front : (line : List ℕ) (old new : Option (List ℕ)) → MayAppend line old new → Grew old new
grew_front line old new (n, is) = (_, is)

pub grew_line : (line : List ℕ) (old new : Option (List ℕ)) → new ≡ appended line old → Grew old new
grew_line line old new is = (line, is)

pub grew_both : (old mid new : Option (List ℕ)) → Grew old mid → Grew mid new → Grew old new
grew_both old mid new (a, first) (b, next) = (a ++ b, got_both a b old mid new first next)

pub grew_by : (first count : ℕ) (old new : Option (List ℕ)) (right : Bool) → ReportsFrom first count old new right → Grew old new
grew_by first count old new right r = (flat_map reported_line r.0, r.1)

-- ---- what was reported

abbrev tiles_of : Option PackedImage → Option ℕ
tiles_of None = None
tiles_of (Some i) = Some (tiles_in i.plan)

abbrev reported_as : ℕ → Option PackedImage → Verdicts → Reported
reported_as k image v = record { hdu = k; datasum = v.datasum; checksum = v.checksum; tiles = tiles_of image }

line_is : (k : ℕ) (image : Option PackedImage) (v : Verdicts) → verdicts_text k image v ≡ reported_line (reported_as k image v)
line_is k None v = refl
line_is k (Some i) v = refl

and_true : (a : Bool) → a ≡ (a && true)
and_true true = refl
and_true false = refl

pub one_reported : (k : ℕ) (image : Option PackedImage) (v : Verdicts) (right : Bool) (old new : Option (List ℕ)) → right ≡ are_right v →
    new ≡ appended (verdicts_text k image v) old → ReportsFrom k 1 old new right
one_reported k image v right old new says is =
    let r = reported_as k image v in
    (r ∷ [], is ∙ ap (λ l. appended l old) (line_is k image v ∙ sym (append-nil (reported_line r))), says ∙ and_true (are_right v), (refl, tt), refl)

pub none_reported : (old : Option (List ℕ)) → ReportsFrom 0 0 old old true
none_reported old = ([], appended_none old, refl, tt, refl)

and_assoc : (a b c : Bool) → (a && (b && c)) ≡ ((a && b) && c)
and_assoc true b c = refl
and_assoc false b c = refl

all_both : (xs ys : List Reported) → (list_all is_right xs && list_all is_right ys) ≡ list_all is_right (xs ++ ys)
all_both [] ys = refl
all_both (x ∷ xs) ys = sym (and_assoc (is_right x) (list_all is_right xs) (list_all is_right ys)) ∙ ap (λ b. is_right x && b) (all_both xs ys)

-- one list of HDUs after another
numbered_both : (k n : ℕ) (xs ys : List Reported) → AreNumbered k xs → n ≡ k + length xs → AreNumbered n ys → AreNumbered k (xs ++ ys)
numbered_both k n [] ys one at two = let same : n ≡ k = omega arith in subst (λ m. AreNumbered m ys) same two
numbered_both k n (x ∷ xs) ys one at two = (one.0, numbered_both (k + 1) n xs ys one.1 (omega arith) two)

-- the next HDU after so many
pub both_reported : (count : ℕ) (old mid new : Option (List ℕ)) (first next : Bool) → ReportsFrom 0 count old mid first → ReportsFrom count 1 mid new next →
    ReportsFrom 0 (count + 1) old new (first && next)
both_reported count old mid new first next (xs, is, says, numbered, long) (ys, are, say, follow, one) = (
  xs ++ ys,
  got_both (flat_map reported_line xs) (flat_map reported_line ys) old mid new is are ∙ ap (λ l. appended l old) (sym (flat_map-append reported_line xs ys)),
  (λ i. says i && say i) ∙ all_both xs ys,
  numbered_both 0 count xs ys numbered (omega (arith, long)) follow,
  length-append xs ys ∙ (λ i. long i + one i),
)

-- all that was reported
pub all_reported : (count : ℕ) (old new : Option (List ℕ)) (right : Bool) → ReportsFrom 0 count old new right → Reports old new right
all_reported count old new right r = (r.0, r.1, r.2, r.3)
