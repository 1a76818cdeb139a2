use Rattle.std.proofs.Common.{◌≡◌, ℕ, ◌+◌, ◌-◌, ◌∷◌, [], ◌++◌, arith, map, subst}
use Rattle.std.proofs.lemmas.List.{map-append}
use Rattle.std.proofs.lemmas.Result.{err_from_is_err_and}
use Rattle.guest_bundle.specs.Reading.{program_at, program_size, parts_at}
use Rattle.guest_bundle.specs.Places.{program_of}
use Rattle.guest_bundle.specs.declared.parts.ProgramPlace.{ProgramPlace}
use Rattle.guest_bundle.proofs.Loop.{with_front, goes_on, ends, is_done}
use Rattle.guest_bundle.proofs.Places.{program_end, lie_more}
use Rattle.guest_bundle.proofs.parts.programs.Goals as goal

pub returns-in_err-place-clause-fields : goal.returns-in_err-place-clause-fields
returns-in_err-place-clause-fields c =
    let p = err_from_is_err_and c.from_residual.result c.from_residual.ensures.1 in
    let part_at = program_at c.args.keys c.args.frames c.args.file.now in
    let size = program_size c.args.keys in
    rw (p.1, p.2) (ends c.in_err-place.field-0.0 part_at size (map (program_of c.args.file.now) c.loop.places.items)
    c.args.n c.loop.counter c.loop.at (parts_at part_at size c.args.n c.args.from) c.loop-test.true
    c.in_err-place.ensures.field c.loop.invariant.so_far)

pub loop-preserved : goal.loop-preserved
loop-preserved c =
    let part_at = program_at c.args.keys c.args.frames c.args.file.now in
    let size = program_size c.args.keys in
    let part = program_of c.args.file.now c.in_ok-place.place in
    let next = program_end c.args.keys c.args.file.now c.loop.at c.in_ok-place.place c.in_ok-place.ensures.whole in
    let front = map (program_of c.args.file.now) c.loop.places.items in
    let left = c.args.n - (c.loop.counter + 1) in
    let total = parts_at part_at size c.args.n c.args.from in
    let more : with_front (front ++ part ∷ []) (parts_at part_at size left c.in_ok-place.place.to) ≡ total =
    subst (λ (e : ℕ). with_front (front ++ part ∷ []) (parts_at part_at size left e) ≡ total) next
    (goes_on part_at size front c.args.n c.loop.counter c.loop.at part total c.loop-test.true
    c.in_ok-place.ensures.field c.loop.invariant.so_far) in
    let pushed = map-append (program_of c.args.file.now) c.loop.places.items (c.in_ok-place.place ∷ []) in
    record {
      so_far = rw (c.in_ok-push.ensures.items, pushed) more;
      within = omega (arith, c.in_ok-place.ensures.whole.within);
      lie = rw c.in_ok-push.ensures.items (lie_more (λ (p : ProgramPlace). p.from) (λ (p : ProgramPlace). p.to)
          c.args.from c.loop.places.items c.loop.at c.in_ok-place.place c.loop.invariant.lie
          (omega (arith, c.in_ok-place.ensures.whole.from)) c.in_ok-place.ensures.whole.order);
    }

pub returns-clause-fields : goal.returns-clause-fields
returns-clause-fields c =
    let part_at = program_at c.args.keys c.args.frames c.args.file.now in
    let size = program_size c.args.keys in
    is_done part_at size (map (program_of c.args.file.now) c.loop.places.items) c.args.n c.loop.counter c.loop.at
    (parts_at part_at size c.args.n c.args.from) c.loop-test.false c.loop.invariant.so_far
