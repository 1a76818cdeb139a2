-- A program of an ELF file, by the keys of its table.
use Rattle.std.proofs.Common.{◌≡◌, ◌*◌, ◌-◌, ℕ, replicate, Result, Ok, Err, refl}
use Rattle.cloak_model.specs.Bundle.{key_numbers}
use Rattle.cloak_model.specs.declared.image.Program.{Program}
use Rattle.cloak_base.specs.declared.names.Start.{Start}
use Rattle.elf_image.specs.Image.{Image}
use Rattle.toml.specs.Data.{Data}
use Rattle.manifest.specs.declared.key.ManifestTable.{ManifestTable}
use Rattle.manifest.specs.declared.key.Key.TheVariants.{Elf, KeyNumber}
use Rattle.manifest.specs.declared.fault.FaultyKey.{FaultyKey}
use Rattle.manifest.specs.Fields.{◌>>=◌, number_or_at}
use Rattle.manifest.specs.Faults.{at_key, by_keys}
use Rattle.manifest.specs.Parts.{pages_at, frame_at}
use Rattle.manifest.specs.Loading.{base_of, highest, elf_start_at, image_program_at, with_loaded}

module _ (at : ManifestTable) (from : Data) (frames : ℕ) (image : Image) where
  pub elf_pages : (e : FaultyKey) → Err e ≡ pages_at at from Elf (highest image.parts - base_of image.parts) →
      Err e ≡ image_program_at at from frames image
  unfolding image_program_at
  elf_pages e h = rw (← h) refl

  module _ (pages : ℕ) (h1 : Ok pages ≡ pages_at at from Elf (highest image.parts - base_of image.parts)) where
    pub elf_frame : (e : FaultyKey) → Err e ≡ frame_at at from frames pages → Err e ≡ image_program_at at from frames image
    unfolding image_program_at
    elf_frame e h = rw (← h1, ← h) refl

    module _ (frame : ℕ) (h2 : Ok frame ≡ frame_at at from frames pages) where
      pub elf_starts : (e : FaultyKey) → Err e ≡ elf_start_at at from image pages → Err e ≡ image_program_at at from frames image
      unfolding image_program_at
      elf_starts e h = rw (← h1, ← h2, ← h) refl

      module _ (start : Start) (h3 : Ok start ≡ elf_start_at at from image pages) where
        pub elf_key : (e : FaultyKey) → Err e ≡ number_or_at at from KeyNumber key_numbers 0 → Err e ≡ image_program_at at from frames image
        unfolding image_program_at
        elf_key e h = rw (← h1, ← h2, ← h3, ← h) refl

        pub elf_whole : (key : ℕ) → Ok key ≡ number_or_at at from KeyNumber key_numbers 0 →
            Ok (record {
              place = frame;
              start = start;
              key = key;
              bytes = with_loaded (base_of image.parts) (replicate (4096 * pages) 0) image.parts;
            }) ≡ image_program_at at from frames image
        unfolding image_program_at
        elf_whole key h = rw (← h1, ← h2, ← h3, ← h) refl

-- one, and then another

pub then_wrong : {A B : Type 0} (first : Result A FaultyKey) (rest : A → Result B FaultyKey) (e : FaultyKey) →
    first ≡ Err e → Err (at_key e) ≡ by_keys (first >>= rest)
then_wrong first rest e h = rw h refl

pub then_right : {A B : Type 0} (first : Result A FaultyKey) (rest : A → Result B FaultyKey) (x : A) →
    first ≡ Ok x → by_keys (rest x) ≡ by_keys (first >>= rest)
then_right first rest x h = rw h refl
