use Rattle.std.proofs.Common.{◌≡◌, ℕ, ◌≤◌, List, [], ◌∷◌, ◌++◌, length, map, subst, ap}
use Rattle.cloak_model.specs.declared.image.Program.{Program}
use Rattle.guest_bundle.specs.declared.parts.ProgramPlace.{ProgramPlace}
use Rattle.guest_bundle.specs.Places.{program_of, AreProgramPlaces}
use Rattle.guest_bundle.proofs.Places.{lie_less, AreMoved, is_moved, moves_on}
use Rattle.guest_bundle.proofs.moving.move_programs.Goals as goal

abbrev from_of : ProgramPlace → ℕ
from_of p = p.from

abbrev to_of : ProgramPlace → ℕ
to_of p = p.to

last : (low : ℕ) (ps others : List ProgramPlace) (p : ProgramPlace) (high : ℕ) → ps ≡ others ++ p ∷ [] →
    AreProgramPlaces low ps high → AreProgramPlaces low others p.from × (p.from ≤ p.to) × (p.to ≤ high)
last low ps others p high e h =
    lie_less from_of to_of low others p high (subst (λ x. AreProgramPlaces low x high) e h)

pub move_middle-requires-clause-order : goal.move_middle-requires-clause-order
move_middle-requires-clause-order c =
    (last c.args.low c.loop-p.places.items c.pop.new.self.items c.in-Some.p (length c.loop-p.file.items)
    c.in-Some.ensures.items c.loop-p.invariant.lie).1

pub move_middle-requires-clause-inside : goal.move_middle-requires-clause-inside
move_middle-requires-clause-inside c =
    (last c.args.low c.loop-p.places.items c.pop.new.self.items c.in-Some.p (length c.loop-p.file.items)
    c.in-Some.ensures.items c.loop-p.invariant.lie).2

pub loop-p-preserved : goal.loop-p-preserved
loop-p-preserved c =
    let file0 = c.args.file.now.items in
    let f : ProgramPlace → Program = program_of file0 in
    let total = map f c.args.places.items in
    let part : List ℕ → Program = λ b. record {
      place = c.in-Some.p.place;
      start = c.in-Some.p.start;
      key = c.in-Some.p.key;
      bytes = b;
    } in
    let ends = last c.args.low c.loop-p.places.items c.pop.new.self.items c.in-Some.p (length c.loop-p.file.items)
    c.in-Some.ensures.items c.loop-p.invariant.lie in
    let bytes = is_moved file0 c.loop-p.file.items c.in-Some.p.from c.in-Some.p.to c.in_ok-bytes.bytes
    c.loop-p.invariant.rest ends.1 ends.2
    c.in_ok-bytes.ensures.bytes in
    let was : AreMoved from_of to_of f file0 c.args.low total c.loop-p.file.items c.loop-p.places.items
    c.loop-p.programs.items = record {
      rest = c.loop-p.invariant.rest;
      lie = c.loop-p.invariant.lie;
      so_far = c.loop-p.invariant.so_far;
    } in
    let is = moves_on from_of to_of f file0 c.args.low total c.loop-p.file.items c.loop-p.places.items
    c.loop-p.programs.items c.move_middle.new.file.items c.pop.new.self.items c.in-Some.p c.push.new.self.items
    (part c.in_ok-bytes.bytes) was c.in-Some.ensures.items (ap part bytes) c.in_ok-bytes.ensures.rest
    c.in_ok-push.ensures.items in
    record { rest = is.rest; lie = is.lie; so_far = is.so_far }
