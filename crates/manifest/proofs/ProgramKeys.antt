-- A program by the keys of its table.
use Rattle.std.proofs.Common.{◌≡◌, ◌*◌, ◌-◌, ◌++◌, ℕ, List, length, replicate, Result, Ok, Err, refl}
use Rattle.cloak_model.specs.Bundle.{key_numbers}
use Rattle.cloak_model.specs.declared.image.Program.{Program}
use Rattle.cloak_base.specs.declared.names.Start.{Start}
use Rattle.toml.specs.Data.{Data}
use Rattle.manifest.specs.declared.key.ManifestTable.{ManifestTable}
use Rattle.manifest.specs.declared.key.Key.TheVariants.{Bytes, KeyNumber}
use Rattle.manifest.specs.declared.fault.FaultyKey.{FaultyKey}
use Rattle.manifest.specs.Fields.{number_or_at}
use Rattle.manifest.specs.Parts.{pages_at, frame_at, start_at, program_at}

pub wrong_pages : (at : ManifestTable) (from : Data) (frames : ℕ) (bytes : List ℕ) (e : FaultyKey) →
    Err e ≡ pages_at at from Bytes (length bytes) → Err e ≡ program_at at from frames bytes
unfolding program_at
wrong_pages at from frames bytes e h = rw (← h) refl

pub wrong_frame : (at : ManifestTable) (from : Data) (frames : ℕ) (bytes : List ℕ) (e : FaultyKey) (pages : ℕ) →
    Ok pages ≡ pages_at at from Bytes (length bytes) → Err e ≡ frame_at at from frames pages →
    Err e ≡ program_at at from frames bytes
unfolding program_at
wrong_frame at from frames bytes e pages h1 h = rw (← h1, ← h) refl

pub wrong_start : (at : ManifestTable) (from : Data) (frames : ℕ) (bytes : List ℕ) (e : FaultyKey) (pages frame : ℕ) →
    Ok pages ≡ pages_at at from Bytes (length bytes) → Ok frame ≡ frame_at at from frames pages →
    Err e ≡ start_at at from pages → Err e ≡ program_at at from frames bytes
unfolding program_at
wrong_start at from frames bytes e pages frame h1 h2 h = rw (← h1, ← h2, ← h) refl

pub wrong_key : (at : ManifestTable) (from : Data) (frames : ℕ) (bytes : List ℕ) (e : FaultyKey) (pages frame : ℕ) (start : Start) →
    Ok pages ≡ pages_at at from Bytes (length bytes) → Ok frame ≡ frame_at at from frames pages →
    Ok start ≡ start_at at from pages → Err e ≡ number_or_at at from KeyNumber key_numbers 0 →
    Err e ≡ program_at at from frames bytes
unfolding program_at
wrong_key at from frames bytes e pages frame start h1 h2 h3 h = rw (← h1, ← h2, ← h3, ← h) refl

pub whole_program : (at : ManifestTable) (from : Data) (frames : ℕ) (bytes : List ℕ) (pages frame : ℕ) (start : Start) (key : ℕ) →
    Ok pages ≡ pages_at at from Bytes (length bytes) → Ok frame ≡ frame_at at from frames pages →
    Ok start ≡ start_at at from pages → Ok key ≡ number_or_at at from KeyNumber key_numbers 0 →
    Ok (record {
      place = frame;
      start = start;
      key = key;
      bytes = bytes ++ replicate (4096 * pages - length bytes) 0;
    }) ≡ program_at at from frames bytes
unfolding program_at
whole_program at from frames bytes pages frame start key h1 h2 h3 h4 = rw (← h1, ← h2, ← h3, ← h4) refl
