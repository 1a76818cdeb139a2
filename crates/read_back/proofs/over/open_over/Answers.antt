use Rattle.std.proofs.Common.{◌≡◌, ◌∙◌, ◌<◌, ℕ, Bool, List, Option, Some, Err, length, refl, sym, subst}
use Rattle.std.proofs.lemmas.Option.{slice_get_read}
use Rattle.std.specs.Prelude.{slice_get}
use Rattle.cloak_model.specs.declared.image.Program.{Program}
use Rattle.cloak_model.specs.DomainAlone.{started_part}
use Rattle.command_words.specs.Request.{old_of}
use Rattle.command_parts.specs.Storing.{IsOld}
use Rattle.alone_files.specs.Found.{IsFound}
use Rattle.alone_files.specs.Giving.{Gives, LacksRoom}
use Rattle.alone_files.specs.declared.giving.FilesFault.{FilesFault}
use Rattle.alone_files.specs.declared.giving.FilesFault.TheVariants.{NoRoom}
use Rattle.old_files.specs.Reading.{keys_of}
use Rattle.read_back.specs.Over.{LacksRoomOver, OpensOver, program_key}
use Rattle.read_back.proofs.ProgramReads.{files_loads, no_loads}
use Rattle.read_back.proofs.over.open_over.Goals as goal

pub returns-in-Ok-give_files-clause-opens : goal.returns-in-Ok-give_files-clause-opens
returns-in-Ok-give_files-clause-opens g c = λ p there.
    let s = c.in-Ok.ensures in
    let o = c.in_default-read_old.ensures in
    let d = c.args.number in
    let b = c.args.bundle.now in
    let q = c.index-as_slice-number.result in
    let gives = c.in-Ok-give_files.ensures in
    let low : d < length c.as_slice.result.now =
    subst (λ (l : List Program). d < length l) (sym c.as_slice.ensures) c.requires.number in
    let here : slice_get b.programs d ≡ Some q =
    rw (sym c.as_slice.ensures) (slice_get_read c.as_slice.result.now _ d q refl low c.index-as_slice-number.is) in
    let both : Some q ≡ Some p = sym here ∙ there in
    let same : q ≡ p = cc in (
      o.old.0 ∙ s.secret.0,
      subst (λ (x : Program). OpensOver (g.S.Shelf.held c.args.shelf.now) (old_of c.args.old.now) b d x
          (record { program = c.give_files.new.program; whole = c.in-Ok-give_files.whole })) same (record {
            read = record {
              secret = keys_of c.in-Ok.secret;
              table = c.read_old.new.table;
              files = gives.0;
              whole = c.in-Ok-give_files.whole;
            };
            is = record {
              secret = s.secret.1;
              table = subst (λ (t : Option (List ℕ)). IsOld t c.in-Ok.secret.mac c.args.old.now.counter c.read_old.new.table)
                  (s.files _) o.old.1;
              found = subst (λ (key : List ℕ). IsFound d key b.kernel.disk c.read_old.new.table gives.0 c.in-Ok-give_files.whole)
                  c.key_of-key.ensures
                  (subst (λ (disk : List ℕ). IsFound d c.key_of-key.result disk c.read_old.new.table gives.0
                  c.in-Ok-give_files.whole) c.as_slice-disk.ensures gives.1.0);
            };
            whole = refl;
            begins = record {
              stands = gives.1.1 b.kernel.schedule (started_part d q) c.in-Ok-open-2.ensures;
              no_loads = files_loads d gives.0 (started_part d q) ∙ no_loads d q;
            };
          }),
    )

pub returns-in-Err-NoRoom-clause-opens : goal.returns-in-Err-NoRoom-clause-opens
returns-in-Err-NoRoom-clause-opens g c = λ p there.
    let s = c.in-Ok.ensures in
    let o = c.in_default-read_old.ensures in
    let d = c.args.number in
    let b = c.args.bundle.now in
    let q = c.index-as_slice-number.result in
    let low : d < length c.as_slice.result.now =
    subst (λ (l : List Program). d < length l) (sym c.as_slice.ensures) c.requires.number in
    let here : slice_get b.programs d ≡ Some q =
    rw (sym c.as_slice.ensures) (slice_get_read c.as_slice.result.now _ d q refl low c.index-as_slice-number.is) in
    let both : Some q ≡ Some p = sym here ∙ there in
    let same : q ≡ p = cc in
    let lacks = subst (λ (fault : FilesFault). Gives d c.key_of-key.result c.as_slice-disk.result.now
    c.read_old.new.table c.in-Ok-open-2.alone c.give_files.new.program (Err fault)) c.in-Err-NoRoom.field-0-is
    c.in-Err-NoRoom.ensures in
    let room = lacks b.kernel.schedule (started_part d q) c.in-Ok-open-2.ensures in (
      o.old.0 ∙ s.secret.0,
      (
        refl,
        subst (λ (x : Program). LacksRoomOver (g.S.Shelf.held c.args.shelf.now) (old_of c.args.old.now) b d x) same (record {
          secret = keys_of c.in-Ok.secret;
          is_secret = s.secret.1;
          table = c.read_old.new.table;
          is_table = subst (λ (t : Option (List ℕ)). IsOld t c.in-Ok.secret.mac c.args.old.now.counter
              c.read_old.new.table) (s.files _) o.old.1;
          lacks = subst (λ (key : List ℕ). LacksRoom d key b.kernel.disk c.read_old.new.table (started_part d q))
              c.key_of-key.ensures
              (subst (λ (disk : List ℕ). LacksRoom d c.key_of-key.result disk c.read_old.new.table (started_part d q))
              c.as_slice-disk.ensures room);
        }),
      ),
    )
