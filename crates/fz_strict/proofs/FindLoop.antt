-- The options gathered so far from the headers of a file, where the source tells its bytes, and one header more.
use Rattle.std.proofs.Common.{◌≡◌, ℕ, ◌+◌, ◌<◌, ◌≤◌, Bool, false, List, [], ◌∷◌, ◌++◌, Option, Some, None, IfSome, Ok, Err, refl, sym, ap, ◌∙◌, arith}
use Rattle.std.specs.List.{filter}
use Rattle.fz_base.specs.Source.{HoldsLength}
use Rattle.fz_base.specs.Stop.{IfRefused}
use Rattle.fz_base.specs.declared.failure.Stop.{Stop}
use Rattle.fz_base.specs.declared.failure.Stop.TheVariants.{Refused, ReadFault, WriteFault, OverLimit, NoMemory}
use Rattle.fz_block.specs.Header.{next_start_of}
use Rattle.fz_block.specs.Hdus.{cards_of}
use Rattle.fz_block.specs.declared.header.Header.{Header}
use Rattle.fz_files.specs.Restored.{is_image}
use Rattle.fz_head.specs.Planned.{IsTile}
use Rattle.fz_head.specs.declared.options.PackOptions.{PackOptions}
use Rattle.fz_job.specs.declared.survey.Survey.{Survey}
use Rattle.fz_job.specs.Again.{IsAgain, ReadsAsSeen, header_at_front, is_empty_primary}
use Rattle.fz_job.specs.Known.{IsList}
use Rattle.fz_job.specs.declared.again.ReadHdu.{ReadHdu}
use Rattle.fz_strict.specs.FoundOptions.{options_of}
use Rattle.fz_strict.specs.Gathered.{AreOptionsOf, FindsOptions, IsFound, nothing_found, options_found, with_cards}
use Rattle.fz_strict.specs.declared.options.Found.{Found}
use Rattle.fz_strict.proofs.Gathering.{cards_more, gathered, gathered_found}
use Rattle.fz_strict.proofs.Parts.{IsPart, all_by_count, all_by_end, never_refused, none_done, one_done}
use Rattle.fz_strict.proofs.Said.{header_there, image_read}

-- the options of those that are done were gathered
pub record AreGathered (file : List ℕ) (s : Survey) (hs : List Header) (k start : ℕ) (after_empty : Bool) (f : Found) : Type 0 where
  pub done : List Header
  pub part : IsPart file s hs done k start after_empty
  pub found : f ≡ gathered file (filter (is_image file) done)

abbrev pub IsGathering : Survey → ℕ → ℕ → Bool → Found → List ℕ → Type 0
IsGathering s k start after_empty f file = (hs : List Header) → IsList file s hs → AreGathered file s hs k start after_empty f

module _ (s : Survey) where
  pub none_gathered : (held : Option (List ℕ)) → IfSome held (IsGathering s 0 0 false nothing_found)
  none_gathered None = tt
  none_gathered (Some g) = λ hs list. record { done = []; part = none_done g s hs list; found = refl }

  -- with the cards of one header more
  pub more_gathered : (held : Option (List ℕ)) (n : ℕ) (buf : List ℕ) (k start : ℕ) (flag flag' : Bool) (f f' : Found) (a : ReadHdu) → k < s.hdus → IfSome held (IsGathering s k start flag f) →
      IfSome held (λ g. ReadsAsSeen g k start flag s.header_len s.tile (Ok a)) → IsAgain held n buf a → IsFound f → IfSome a.image (λ i. IsTile (Some i.plan.tile)) →
      f' ≡ with_cards f (cards_of (header_at_front a buf)) a.image → flag' ≡ is_empty_primary a.header → IfSome held (IsGathering s (k + 1) (next_start_of a.header) flag' f')
  more_gathered None n buf k start flag flag' f f' a few was again read found tile more says = tt
  more_gathered (Some g) n buf k start flag flag' f f' a few was again read found tile more says = λ hs list.
      let w = was hs list in
      record {
        done = w.done ++ a.header ∷ [];
        part = one_done g s hs w.done k start flag w.part (omega (arith, few, list.count)) a flag' again says;
        found =
            more ∙ ap (λ l. with_cards f (cards_of l) a.image) (sym (header_there (Some g) n buf a read g refl))
            ∙ cards_more g w.done a.header f a.image w.found found (image_read (Some g) n buf a read g refl) tile;
      }

  -- all were
  all_gathered : (g : List ℕ) (hs : List Header) (k start : ℕ) (flag : Bool) (f : Found) (o : PackOptions) (w : AreGathered g s hs k start flag f) → hs ≡ w.done → o ≡ options_found f → o ≡ options_of g (filter (is_image g) hs)
  all_gathered g hs k start flag f o w all is =
      is ∙ ap options_found w.found ∙ gathered_found g (filter (is_image g) w.done) ∙ ap (λ l. options_of g (filter (is_image g) l)) (sym all)

  pub ends_with_last : (held : Option (List ℕ)) (k start : ℕ) (flag : Bool) (f : Found) (o : PackOptions) → s.hdus ≤ k → IfSome held (IsGathering s k start flag f) → o ≡ options_found f →
      IfSome held (λ g. FindsOptions g s (Ok o))
  ends_with_last None k start flag f o last was is = tt
  ends_with_last (Some g) k start flag f o last was is = λ hs list.
      let w = was hs list in
      all_gathered g hs k start flag f o w (all_by_count g s hs w.done k start flag w.part (omega (arith, last, list.count))) is

  pub ends_with_file : (held : Option (List ℕ)) (len k start : ℕ) (flag : Bool) (f : Found) (o : PackOptions) → HoldsLength held len → start ≡ len → IfSome held (IsGathering s k start flag f) → o ≡ options_found f →
      IfSome held (λ g. FindsOptions g s (Ok o))
  ends_with_file None len k start flag f o told ends was is = tt
  ends_with_file (Some g) len k start flag f o told ends was is = λ hs list.
      let w = was hs list in
      all_gathered g hs k start flag f o w (all_by_end g s hs w.done k start flag w.part (ends ∙ sym told)) is

  -- a header was not read
  stops_by : (X : Type 0) (g : List ℕ) (hs : List Header) (stop : Stop) → IfRefused {X = X} (Err stop) (λ x. ⊥) → AreOptionsOf g hs (Err stop)
  stops_by X g hs (Refused x) never = never
  stops_by X g hs ReadFault never = tt
  stops_by X g hs WriteFault never = tt
  stops_by X g hs (OverLimit live asked limit) never = tt
  stops_by X g hs NoMemory never = tt

  pub stops_finding : (held : Option (List ℕ)) (stop : Stop) (k start : ℕ) (flag : Bool) (f : Found) → k < s.hdus → IfSome held (IsGathering s k start flag f) →
      IfSome held (λ g. ReadsAsSeen g k start flag s.header_len s.tile (Err stop)) → IfSome held (λ g. FindsOptions g s (Err stop))
  stops_finding None stop k start flag f few was again = tt
  stops_finding (Some g) stop k start flag f few was again = λ hs list.
      let w = was hs list in
      stops_by ReadHdu g hs stop (never_refused g s hs w.done k start flag w.part (omega (arith, few, list.count)) stop again)
