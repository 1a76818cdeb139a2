use Rattle.std.proofs.Common.{refl}
use Rattle.system_io.proofs.Held.{sound-written, held-moved}
use Rattle.system_io.proofs.file_shelf.FileShelf.write_out.Goals.{in-Some, in_default}
use Rattle.system_io.proofs.file_shelf.FileShelf.write_out.Goals as goal

pub invariant_of-self : goal.invariant_of-self
invariant_of-self g c = elim c.match-self.branch [
  | in-Some w ↦
      rw w.self-inside-is
      (sound-written _ _ _ _ w.in-Some.file w.write_front-n.new.file _ c.self.inside.gathered _ w.write_front-n.result _
      (rw w.in-Some.is at c.self.invariant) (rw w.rest.ensures at w.write_front-n.ensures.count) w.forget.ensures
      w.write_front-n.ensures.name (rw w.rest.ensures at w.write_front-n.ensures.told))
  | in_default w ↦ rw w.self-inside-is c.self.invariant
]

pub returns-clause-files : goal.returns-clause-files
returns-clause-files g c = elim c.match-self.branch [
  | in-Some w ↦
      let sound = rw w.in-Some.is at c.self.invariant in
      let told = rw w.rest.ensures at w.write_front-n.ensures.told in
      rw (w.self-inside-is, ← c.self.view_is)
      (held-moved g.D.FileSystem.told _ _ w.write_front-n.result
      (told c.self.inside.writing.name sound.named) refl w.forget.ensures)
  | in_default w ↦ rw (w.self-inside-is, ← c.self.view_is) (λ _. refl)
]
