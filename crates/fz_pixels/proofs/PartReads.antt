-- Which bytes are read for a part of a tile.
use Rattle.std.proofs.Common.{◌≡◌, ℕ, ◌+◌, ◌-◌, ◌≤◌, List, [], ◌∷◌, length, take, drop, inl, inr, Option, Some, None, IfSome, sym, ap, ◌∙◌, subst, arith, length-take}
use Rattle.std.proofs.lemmas.List.{drop_all}
use Rattle.fz_base.specs.Ranges.{LiesIn}
use Rattle.fz_table.specs.Records.{record_bytes}
use Rattle.fz_table.specs.declared.record.Record.{Record}
use Rattle.fz_table.specs.declared.record.TileColumn.TheVariants.{Coded, Stored}
use Rattle.fz_tile.specs.Record.{read_len}
use Rattle.fz_checks.specs.declared.job_checks.PackedImage.{PackedImage}
use Rattle.fz_files.specs.Restored.{pixels_of}
use Rattle.fz_fetch.specs.Loaded.{IsRecordIn}
use Rattle.fz_pixels.specs.Parts.{IsRestRead, IsStoredIn, bytes_before}
use Rattle.fz_pixels.specs.declared.marks.TileMark.{TileMark}

-- the bytes of a record without its first ones are bytes of it
pub rest_lies : (start read skipped byte : ℕ) → skipped ≤ read → LiesIn ((start + skipped, read - skipped) ∷ []) byte → LiesIn ((start, read) ∷ []) byte
rest_lies start read skipped byte fits (inl here) = inl (omega (arith, here.0), omega (arith, here.1, fits))
rest_lies start read skipped byte fits (inr none) = elim none [ ]

-- a record all of whose bytes are skipped has no more
pub nothing_left : (held : Option (List ℕ)) (found : Record) (skipped : ℕ) (code : List ℕ) → skipped ≡ found.read
    → IfSome held (λ file. take (found.read - skipped) code ≡ drop skipped (record_bytes file found))
nothing_left None found skipped code all = tt
nothing_left (Some file) found skipped code all =
    let none : found.read - skipped ≡ 0 = omega (arith, all) in
    let few : length (record_bytes file found) ≤ skipped = omega (arith, all, length-take found.read (drop found.start file)) in
    ap (λ n. take n code) none ∙ sym (drop_all skipped (record_bytes file found) few)

-- what is known of a code that was read
pub code_read : (held : Option (List ℕ)) (hdu : ℕ) (image : PackedImage) (t : ℕ) (from : Option TileMark) (found : Record) (code : List ℕ) (skipped : ℕ) → found.column ≡ Coded
    → found.read ≡ read_len (pixels_of image.plan t) found.total → skipped ≡ bytes_before from found.read → IfSome held (λ file. IsRecordIn file hdu image t found)
    → IfSome held (λ file. take (found.read - skipped) code ≡ drop skipped (record_bytes file found)) → IsRestRead held hdu image t from found code
code_read held hdu image t from found code skipped coded len count is bytes = record {
  column = coded;
  len = len;
  told = subst (λ k. IfSome held (λ file. IsRecordIn file hdu image t found × (take (found.read - k) code ≡ drop k (record_bytes file found)))) count (both held is bytes);
}
  where
    both : (held : Option (List ℕ)) → IfSome held (λ file. IsRecordIn file hdu image t found) → IfSome held (λ file. take (found.read - skipped) code ≡ drop skipped (record_bytes file found))
        → IfSome held (λ file. IsRecordIn file hdu image t found × (take (found.read - skipped) code ≡ drop skipped (record_bytes file found)))
    both None is bytes = tt
    both (Some file) is bytes = (is, bytes)

-- and of a tile that is stored
pub stored_in : (held : Option (List ℕ)) (hdu : ℕ) (image : PackedImage) (t : ℕ) (found : Record) → found.column ≡ Stored → IfSome held (λ file. IsRecordIn file hdu image t found)
    → IfSome held (λ file. IsStoredIn file hdu image t)
stored_in None hdu image t found stored is = tt
stored_in (Some file) hdu image t found stored is = (found, is, stored)
