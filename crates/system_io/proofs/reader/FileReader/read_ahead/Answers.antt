use Rattle.std.proofs.Common.{◌≡◌, ◌+◌, ◌-◌, ℕ, List, length, take, drop, refl, ap, ◌∙◌, arith}
use Rattle.std.specs.Vec.{with_items}
use Rattle.std.proofs.lemmas.List.{length-take-le, with_items_is}
use Rattle.system_io.proofs.Windows.{reads_filled, ends_filled, kept_before}
use Rattle.system_io.proofs.reader.FileReader.read_ahead.Goals as goal

pub returns-clause-end : goal.returns-clause-end
returns-clause-end g c =
    let window = with_items c.self.inside.window c.keep_front-kept.new.window in
    let filled : (with_items window c.fill.new.window).items ≡ c.fill.new.window =
    with_items_is window c.fill.new.window (c.fill.ensures.window ∙ c.as_mut_slice-2.ensures.len) in
    let ahead = rw c.in-Some.is at (rw (← c.self.view_is) at c.requires.reads) in
    let before = kept_before c.keep_front-kept.result c.self.inside.filled c.self.inside.start c.self.inside.position
    c.keep_front-kept.ensures.fits c.keep_front-kept.ensures.follows in
    rw (← c.self.view_is, filled)
    (ends_filled _ _ _ _ c.in-Some.file c.keep_front-kept.result c.in_ok-n.n c.as_mut_slice-2.result.now
    c.fill.new.window ahead c.in_ok-n.ensures.filled
    before (let count = c.in_ok-n.ensures.count in let long = c.fill.ensures.window in omega (arith, count, long)))

pub returns-clause-reads : goal.returns-clause-reads
returns-clause-reads g c =
    let window = with_items c.self.inside.window c.keep_front-kept.new.window in
    let moved : window.items ≡ c.keep_front-kept.new.window =
    with_items_is c.self.inside.window c.keep_front-kept.new.window
    (c.keep_front-kept.ensures.window ∙ c.as_mut_slice.ensures.len) in
    let filled : (with_items window c.fill.new.window).items ≡ c.fill.new.window =
    with_items_is window c.fill.new.window (c.fill.ensures.window ∙ c.as_mut_slice-2.ensures.len) in
    let ahead = rw c.in-Some.is at (rw (← c.self.view_is) at c.requires.reads) in
    let few = c.keep_front-kept.ensures.few in
    let len = c.as_mut_slice-2.ensures.len in
    let size = c.self.invariant.1 in
    let count = c.in_ok-n.ensures.count in
    let long = c.fill.ensures.window in
    let inside = c.self.invariant.0 in
    let room = c.self.inside.window.ok.0 in
    reads_filled _ _ _ _ c.in-Some.file c.fill.new.file c.self.inside.filled c.keep_front-kept.result c.in_ok-n.n
    c.as_mut_slice-2.result.now c.fill.new.window ahead c.fill.ensures.name c.in_ok-n.ensures.moved
    c.in_ok-n.ensures.filled (omega (arith, few, len, size)) (omega (arith, count, long))
    (length-take-le c.self.inside.filled c.self.inside.window.items (omega (arith, inside, room)))
    c.keep_front-kept.ensures.fits c.keep_front-kept.ensures.follows
    (λ some.
    ap (λ (l : List ℕ). take c.keep_front-kept.result l) (c.as_mut_slice-2.ensures.value ∙ moved)
    ∙ c.keep_front-kept.ensures.moved some
    ∙ ap (λ (l : List ℕ). drop (c.self.inside.filled - c.keep_front-kept.result) (take c.self.inside.filled l))
    c.as_mut_slice.ensures.value)
    _ refl refl (ap (λ (l : List ℕ). take (c.keep_front-kept.result + c.in_ok-n.n) l) filled) refl
