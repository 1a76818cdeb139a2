use Rattle.std.proofs.Common.{◌≡◌, ℕ, ◌≤◌, List, [], ◌∷◌, ◌++◌, length, map, subst, ap}
use Rattle.cloak_model.specs.declared.image.Segment.{Segment}
use Rattle.guest_bundle.specs.declared.parts.SegmentPlace.{SegmentPlace}
use Rattle.guest_bundle.specs.Places.{segment_of, AreSegmentPlaces}
use Rattle.guest_bundle.proofs.Places.{lie_less, AreMoved, is_moved, moves_on}
use Rattle.guest_bundle.proofs.moving.move_segments.Goals as goal

abbrev from_of : SegmentPlace → ℕ
from_of p = p.from

abbrev to_of : SegmentPlace → ℕ
to_of p = p.to

last : (low : ℕ) (ps others : List SegmentPlace) (p : SegmentPlace) (high : ℕ) → ps ≡ others ++ p ∷ [] →
    AreSegmentPlaces low ps high → AreSegmentPlaces low others p.from × (p.from ≤ p.to) × (p.to ≤ high)
last low ps others p high e h =
    lie_less from_of to_of low others p high (subst (λ x. AreSegmentPlaces low x high) e h)

pub move_middle-requires-clause-order : goal.move_middle-requires-clause-order
move_middle-requires-clause-order c =
    (last 0 c.loop-p.places.items c.pop.new.self.items c.in-Some.p (length c.loop-p.file.items)
    c.in-Some.ensures.items c.loop-p.invariant.lie).1

pub move_middle-requires-clause-inside : goal.move_middle-requires-clause-inside
move_middle-requires-clause-inside c =
    (last 0 c.loop-p.places.items c.pop.new.self.items c.in-Some.p (length c.loop-p.file.items)
    c.in-Some.ensures.items c.loop-p.invariant.lie).2

pub loop-p-preserved : goal.loop-p-preserved
loop-p-preserved c =
    let file0 = c.args.file.now.items in
    let f : SegmentPlace → Segment = segment_of file0 in
    let total = map f c.args.places.items in
    let part : List ℕ → Segment = λ b. record { address = c.in-Some.p.address; bytes = b } in
    let ends = last 0 c.loop-p.places.items c.pop.new.self.items c.in-Some.p (length c.loop-p.file.items)
    c.in-Some.ensures.items c.loop-p.invariant.lie in
    let bytes = is_moved file0 c.loop-p.file.items c.in-Some.p.from c.in-Some.p.to c.in_ok-bytes.bytes
    c.loop-p.invariant.rest ends.1 ends.2
    c.in_ok-bytes.ensures.bytes in
    let was : AreMoved from_of to_of f file0 0 total c.loop-p.file.items c.loop-p.places.items
    c.loop-p.segments.items = record {
      rest = c.loop-p.invariant.rest;
      lie = c.loop-p.invariant.lie;
      so_far = c.loop-p.invariant.so_far;
    } in
    let is = moves_on from_of to_of f file0 0 total c.loop-p.file.items c.loop-p.places.items
    c.loop-p.segments.items c.move_middle.new.file.items c.pop.new.self.items c.in-Some.p c.push.new.self.items
    (part c.in_ok-bytes.bytes) was c.in-Some.ensures.items (ap part bytes) c.in_ok-bytes.ensures.rest
    c.in_ok-push.ensures.items in
    record { rest = is.rest; lie = is.lie; so_far = is.so_far }
