-- The buffers of a view, and what was learnt beside them.
use Rattle.std.proofs.Common.{◌≡◌, ℕ, ◌+◌, ◌*◌, ◌^◌, ◌<◌, ◌≤◌, List, replicate, sym, ap, ◌∙◌, subst, arith}
use Rattle.std.specs.Prelude.{Option, IfSome, IfOk, Result, Ok, Err}
use Rattle.fz_base.specs.declared.failure.Stop.{Stop}
use Rattle.fz_pool.specs.Laws.{AreFresh, AsksAlike, AsksForFresh}
use Rattle.fz_pool.specs.Window.{asked_for, fresh_bytes, fresh_slot, slot_sizes}
use Rattle.fz_pool.specs.declared.slot.Slot.{Slot}
use Rattle.fz_job.specs.declared.survey.Survey.{Survey}
use Rattle.fz_look.specs.Found.{HasFoundRoom, IsSoundFound}
use Rattle.fz_look.specs.Looked.{IsSeen}
use Rattle.fz_look.specs.declared.hdus.Seen.{Seen}
use Rattle.fz_look.specs.declared.whole_look.Found.{Found}

module _ (s : Survey) (seen : Seen) where
  -- what was found after a look that learnt this
  abbrev pub IsFoundAs : Found → Type 0
  IsFoundAs f = (f.survey ≡ s) × (f.seen ≡ seen) × HasFoundRoom s.header_len s.tile f

  pub seen_with : (held : Option (List ℕ)) (r : Result Found Stop) → IfSome held (λ g. IsSeen g s seen) → IfOk r IsFoundAs → IfOk r (λ f. IfSome held (λ g. IsSeen g s f.seen))
  seen_with held (Ok f) is found = subst (λ (w : Seen). IfSome held (λ g. IsSeen g s w)) (sym found.1) is
  seen_with held (Err stop) is found = tt

  module _ (length_is : ℕ) (long : 2880 ≤ s.header_len) (some : 0 < s.hdus) (few : s.hdus ≤ 65536) (short : seen.plain_len ≤ 2 ^ 62)
      (zero : seen.first.hdu ≡ 0 → seen.first.start ≡ 0) (place : 0 < seen.first.hdu → seen.first.start < length_is) (first : seen.first.hdu < 2) where
    sound_by : (f : Found) → IsFoundAs f → IsSoundFound length_is f
    sound_by f found = λ block whole.
        let same : f.survey ≡ s = found.0 in
        let learnt : f.seen ≡ seen = found.1 in
        let room = found.2 in
        record {
          room = record {
            block = whole;
            long = subst (λ (t : Survey). 2880 ≤ t.header_len) (sym same) long;
            header = room.header ∙ ap (λ (t : Survey). t.header_len) (sym same);
            translated = room.translated ∙ ap (λ (t : Survey). t.header_len + 2880) (sym same);
            numbers = room.numbers ∙ ap (λ (t : Survey). 2 * t.tile) (sym same);
            code = room.code ∙ ap (λ (t : Survey). 8 * t.tile + 64) (sym same);
            band = room.band;
          };
          some = subst (λ (t : Survey). 0 < t.hdus) (sym same) some;
          few = subst (λ (t : Survey). t.hdus ≤ 65536) (sym same) few;
          short = subst (λ (w : Seen). w.plain_len ≤ 2 ^ 62) (sym learnt) short;
          zero = subst (λ (w : Seen). w.first.hdu ≡ 0 → w.first.start ≡ 0) (sym learnt) zero;
          place = subst (λ (w : Seen). 0 < w.first.hdu → w.first.start < length_is) (sym learnt) place;
          first = subst (λ (w : Seen). w.first.hdu < 2) (sym learnt) first;
        }

    pub sound_with : (r : Result Found Stop) → IfOk r IsFoundAs → IfOk r (λ f. (f.survey ≡ s) × IsSoundFound length_is f)
    sound_with (Ok f) found = (found.0, sound_by f found)
    sound_with (Err stop) found = tt

-- ---- what is handed back before

-- what was asked for slots for tiles of n pixels
pub asked_for_tiles : AreFresh → AsksForFresh → AsksAlike → (slots : List Slot) (W n : ℕ) → slot_sizes slots ≡ replicate (2 * W) (2 * n, 8 * n + 64) → asked_for slots ≡ 2 * W * (16 * n + 64)
asked_for_tiles fresh asked alike slots W n sizes =
    let one : fresh_bytes n ≡ 16 * n + 64 = omega arith in
    alike (replicate (2 * W) (fresh_slot n)) slots (sizes ∙ sym (fresh (2 * W) n)) ∙ asked (2 * W) n ∙ ap (λ m. 2 * W * m) one
