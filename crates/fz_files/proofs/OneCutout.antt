-- At most one file is cut from a packed image by a sieve.
use Rattle.std.proofs.Common.{◌≡◌, ℕ, ℤ, List, [], ◌∷◌, Contains, Option, None, sym, subst, ◌∙◌}
use Rattle.fz_block.specs.Hdus.{cards_of}
use Rattle.fz_block.specs.declared.header.Header.{Header}
use Rattle.fz_grid.specs.Division.{AreTileLengths}
use Rattle.fz_grid.specs.Grid.{tile}
use Rattle.fz_grid.specs.Region.{lengths_of}
use Rattle.fz_grid.specs.Sieve.{picked_tiles, sieve_hi, sieve_lo, sieve_step}
use Rattle.fz_grid.specs.declared.sieve.Sieve.{Sieve}
use Rattle.fz_grid.specs.Cutout.{Sifts}
use Rattle.fz_grid.specs.CutoutLaws.{PickedTilesMakeOneCutout}
use Rattle.fz_head.specs.declared.plan.Plan.{Plan}
use Rattle.fz_files.specs.declared.job.Job.TheVariants.{Cut}
use Rattle.fz_files.specs.Cutout.{AreCutFrom}
use Rattle.fz_files.specs.CutoutBytes.{IsCutout, cutout_bytes}
use Rattle.fz_files.specs.FirstFault.{picked_tiles_of}
use Rattle.fz_files.specs.Restored.{header_in, plan_in}
use Rattle.fz_files.specs.Walks.{header_fault, headers_for, last_of}
use Rattle.fz_files.proofs.ImageLemmas.{CutFindsImage, EachIs, IsReadable}
use Rattle.fz_files.proofs.FaultLemmas.{WalkFindsHeaders, cut_header}
use Rattle.fz_files.proofs.RestoredLemmas.{StandsForOneList, cards_divide, no_header_fault, one_row}

one_part : StandsForOneList → PickedTilesMakeOneCutout → (file : List ℕ) (h : Header) (sieve : Sieve) (xs ys : List ℤ) → IsReadable file h → Sifts (lengths_of (plan_in file h).shape) sieve →
    AreCutFrom file h sieve xs → AreCutFrom file h sieve ys → xs ≡ ys
one_part one make file h sieve xs ys is sifts a b =
    let p : Plan = plan_in file h in
    let lengths : a.array.lengths ≡ lengths_of p.shape = a.rows.lengths in
    a.picked
    ∙ (make a.array b.array (lengths_of p.tile) sieve
    (subst (λ l. AreTileLengths l (lengths_of p.tile)) (sym lengths) (cards_divide (cards_of (header_in file h)) is.divided))
    (subst (λ l. Sifts l sieve) (sym lengths) sifts) (lengths ∙ sym b.rows.lengths)
    (λ t here.
    let inside : Contains (picked_tiles_of p sieve) t = subst (λ l. Contains (picked_tiles l (lengths_of p.tile) (sieve_lo sieve) (sieve_hi sieve) (sieve_step sieve)) t) lengths here in
    sym (one_row one file h t (tile a.array (lengths_of p.tile) t) (tile b.array (lengths_of p.tile) t) is (a.rows.tiles t inside) (b.rows.tiles t inside)))
    ∙ sym b.picked)

same_header : (h k : Header) (hs : List Header) → hs ≡ h ∷ [] → hs ≡ k ∷ [] → k ≡ h
same_header h k hs one two = cc

pub one_cutout : StandsForOneList → PickedTilesMakeOneCutout → WalkFindsHeaders → CutFindsImage → (wanted : Option ℕ) (sieve : Sieve) (file part other : List ℕ) (h : Header) →
    last_of (headers_for (Cut wanted sieve) file) ≡ h ∷ [] → Sifts (lengths_of (plan_in file h).shape) sieve → IsCutout wanted sieve file part → IsCutout wanted sieve file other → part ≡ other
one_cutout one make finds law wanted sieve file part other h last sifts a b =
    let here : a.header ≡ h = same_header h a.header (last_of (headers_for (Cut wanted sieve) file)) last a.last in
    let there : b.header ≡ h = same_header h b.header (last_of (headers_for (Cut wanted sieve) file)) last b.last in
    let none : header_fault (Cut wanted sieve) file ≡ None = no_header_fault (header_fault (Cut wanted sieve) file) (Cut wanted sieve) file a.sound in
    let each : EachIs (IsReadable file) (h ∷ []) = subst (EachIs (IsReadable file)) last (cut_header finds law wanted sieve file none) in
    let numbers : a.numbers ≡ b.numbers =
    one_part one make file h sieve a.numbers b.numbers each.0 sifts (subst (λ g. AreCutFrom file g sieve a.numbers) here a.cut) (subst (λ g. AreCutFrom file g sieve b.numbers) there b.cut) in
    let same : a.header ≡ b.header = here ∙ sym there in
    a.made ∙ ((λ i. cutout_bytes (plan_in file (same i)) (cards_of (header_in file (same i))) sieve (numbers i)) ∙ sym b.made)
