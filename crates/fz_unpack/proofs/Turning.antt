-- The halves of the window between two turns.
use Rattle.std.proofs.Common.{◌≡◌, ℕ, ◌+◌, ◌*◌, ◌≤◌, List, [], ◌++◌, length, map, Option, Some, None, IfSome, refl, sym, ap, ◌∙◌, subst, arith}
use Rattle.std.specs.List.{range_with_len}
use Rattle.std.proofs.lemmas.List.{length-map, length-replicate, map-append}
use Rattle.fz_base.specs.declared.fault.Fault.{Fault}
use Rattle.fz_block.specs.declared.header.Header.{Header}
use Rattle.fz_checks.specs.declared.job_checks.PackedImage.{PackedImage}
use Rattle.fz_head.specs.declared.plan.Plan.{Plan}
use Rattle.fz_files.specs.FirstFault.{IsFirstRowFault, image_row, rows_of}
use Rattle.fz_files.specs.Packed.{tiles_in}
use Rattle.fz_pool.specs.Laws.{HalvesAlike}
use Rattle.fz_pool.specs.Window.{AreHalves, IsFilled, Pool, slot_size}
use Rattle.fz_fetch.specs.Fetched.{RowsGive}
use Rattle.fz_job.specs.Images.{HaveRoom, IsSaid}
use Rattle.fz_unpack.specs.Images.{AreWrittenTiles}
use Rattle.fz_unpack.specs.Turns.{AreAlike, HaveRooms, StandFetched}
use Rattle.fz_unpack.proofs.Rows.{fault_behind}
use Rattle.fz_unpack.proofs.Tiles.{given_sound, range_more, refused_in_round}

-- no tile stands fetched at first
pub none_fetched : (held : Option (List ℕ)) (h : Header) (p : Plan) (tiles : ℕ) (w : Pool) → StandFetched held h p 0 0 tiles w
none_fetched held h p tiles w = record {
  within = omega arith;
  few = omega arith;
  fetched = record {
    pixels = [];
    have = record { count = refl; each = λ i d e low. absurd (omega (arith, low)) };
    told = none held;
  };
}
  where
    none : (l : Option (List ℕ)) → IfSome l (λ file. RowsGive file h (range_with_len 0 0) [])
    none None = tt
    none (Some file) = λ i e low. absurd (omega (arith, low))

-- where the slots are still alike, they have room as before
pub still_rooms : (image : PackedImage) (first second first' second' : Pool) → HaveRooms image first second → ((size : ℕ × ℕ) → AreAlike size first → AreAlike size second → AreAlike size first' × AreAlike size second') → HaveRooms image first' second'
still_rooms image first second first' second' rooms alike =
    let n : ℕ = rooms.0 in
    let both = alike (2 * n, 8 * n + 64) rooms.1 rooms.2 in
    (n, both.0, both.1, rooms.3)

-- windows with slots that are alike are filled
still_filled : (size : ℕ × ℕ) (w : Pool) → AreAlike size w → IsFilled w
still_filled size w alike = sym (length-map w.slots slot_size) ∙ (ap length alike ∙ length-replicate (2 * w.workers) size)

-- what is left of the halves has room in the window again
pub rooms_again : (image : PackedImage) (whole first second first' second' : Pool) → HaveRoom image whole → HalvesAlike → AreHalves whole first second →
    ((size : ℕ × ℕ) → AreAlike size first → AreAlike size second → AreAlike size first' × AreAlike size second') → first'.workers + second'.workers ≡ first.workers + second.workers →
    length first'.slots + length second'.slots ≤ 2 * whole.workers
rooms_again image whole first second first' second' room law halves alike workers =
    let n : ℕ = room.0 in
    let before = law whole first second (2 * n, 8 * n + 64) halves room.1 in
    let after = alike (2 * n, 8 * n + 64) before.0 before.1 in
    let one : length first'.slots ≡ 2 * first'.workers = still_filled (2 * n, 8 * n + 64) first' after.0 in
    let other : length second'.slots ≡ 2 * second'.workers = still_filled (2 * n, 8 * n + 64) second' after.1 in
    let sum : first.workers + second.workers ≡ whole.workers = halves.workers in
    omega (arith, one, other, sum, workers)

-- the first fault of some rows after those that are written is that of the image
pub refused_in_turn : (held : Option (List ℕ)) (h : Header) (image : PackedImage) (at first tiles : ℕ) (before mid : Option (List ℕ)) (x : Fault) → IfSome held (λ file. IsSaid file h image) → tiles ≡ tiles_in image.plan →
    IfSome held (λ file. AreWrittenTiles file h image.plan at (range_with_len 0 first) before mid) →
    IfSome held (λ file. (more : ℕ) × (first + more ≤ tiles) × IsFirstRowFault file (map (image_row h) (range_with_len first more)) (Some x)) → IfSome held (λ file. IsFirstRowFault file (rows_of file h) (Some x))
refused_in_turn None h image at first tiles before mid x said all done fault = tt
refused_in_turn (Some file) h image at first tiles before mid x said all done fault =
    refused_in_round (Some file) h image at first fault.0 before mid x said (omega (arith, fault.1, all)) done fault.2

-- the first fault of the rows of a turn is after those that stand fetched
pub fault_in_turn : (held : Option (List ℕ)) (h : Header) (p : Plan) (written decoded count tiles : ℕ) (w : Pool) (x : Fault) → StandFetched held h p written decoded tiles w → written + decoded + count ≤ tiles →
    IfSome held (λ file. IsFirstRowFault file (map (image_row h) (range_with_len (written + decoded) count)) (Some x)) →
    IfSome held (λ file. (more : ℕ) × (written + more ≤ tiles) × IsFirstRowFault file (map (image_row h) (range_with_len written more)) (Some x))
fault_in_turn None h p written decoded count tiles w x stand few fault = tt
fault_in_turn (Some file) h p written decoded count tiles w x stand few fault =
    let sound : IsFirstRowFault file (map (image_row h) (range_with_len written decoded)) None = given_sound file h (range_with_len written decoded) stand.fetched.pixels stand.fetched.told in
    let parts : map (image_row h) (range_with_len written (decoded + count)) ≡ map (image_row h) (range_with_len written decoded) ++ map (image_row h) (range_with_len (written + decoded) count) =
    ap (map (image_row h)) (range_more written decoded count) ∙ map-append (image_row h) (range_with_len written decoded) (range_with_len (written + decoded) count) in (
      decoded + count,
      omega (arith, few),
      subst (λ l. IsFirstRowFault file l (Some x)) (sym parts)
          (fault_behind file (map (image_row h) (range_with_len written decoded)) (map (image_row h) (range_with_len (written + decoded) count)) x sound fault),
    )

-- the halves of a window have room for the tiles that it has room for
pub half_rooms : (image : PackedImage) (whole first second : Pool) → HalvesAlike → AreHalves whole first second → HaveRoom image whole → HaveRooms image first second
half_rooms image whole first second law are room =
    let both = law whole first second (2 * room.0, 8 * room.0 + 64) are room.1 in
    (room.0, both.0, both.1, room.2)
