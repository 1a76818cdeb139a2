use Rattle.std.proofs.Common.{◌≡◌, ◌∙◌, ◌≤◌, ◌<◌, ◌+◌, ◌-◌, ℕ, List, length, ap, sym, subst, arith, lit<}
use Rattle.std.specs.List.{insert}
use Rattle.hypercalls.specs.Standing.{control_of}
use Rattle.joint_machine.specs.Storing.{place_before}
use Rattle.joint_machine.specs.declared.storing.FilePlace.{FilePlace}
use Rattle.joint_machine.proofs.Sorting.{AreFiles, PlacesFrom, are_files, before_inside, places_none, places_past, places_some}
use Rattle.joint_machine.proofs.storing.files_of.Goals as goal
use Rattle.joint_machine.proofs.storing.files_of.Goals.{in-Some, in_default}

pub loop-k-init : goal.loop-k-init
loop-k-init c = record {
  value = λ sound. c.new-files.ensures ∙ sym (places_past (control_of c.args.domain.now).resources 16 (let n = sound.numbers in omega (arith, n)));
  sound = λ none. absurd (omega (arith, none));
  count = (let e = ap (λ (l : List FilePlace). length l) c.new-files.ensures in omega (arith, e));
}

pub insert-requires : goal.insert-requires
insert-requires c =
    let place : c.place_among-place.result ≤ length c.loop-k.files.items =
    subst (λ (l : List FilePlace). c.place_among-place.result ≤ length l) c.as_slice.ensures.value
    (subst (λ (n : ℕ). n ≤ length c.as_slice.result.now) (sym c.place_among-place.ensures)
    (before_inside c.in-Some.number c.as_slice.result.now)) in
    (lit< tt, (place, omega (arith, c.loop-k.invariant.count, c.loop-k-test.true)))

pub loop-k-preserved : goal.loop-k-preserved
loop-k-preserved c =
    let r = (control_of c.args.domain.now).resources in
    let k = c.loop-k.k in
    let items = c.loop-k.files.items in
    let sound = c.file.ensures.sound in
    let low : k < 16 = omega (arith, c.loop-k-test.true) in
    let inside : 15 - k < length r.held = (let n = sound.numbers in omega (arith, n, low)) in
    let was : items ≡ PlacesFrom r (15 - k + 1) =
    subst (λ (n : ℕ). items ≡ PlacesFrom r n) (let e : 16 - k ≡ 15 - k + 1 = omega (arith, low) in e)
    (c.loop-k.invariant.value sound) in
    let same : 15 - k ≡ 16 - (k + 1) = omega (arith, low) in
    elim c.match-file.branch [
      | in-Some w ↦ record {
        value = λ s.
            ap (λ (x : _). x.items) w.files-is
            ∙ (w.insert.ensures.items
            ∙ (ap (λ (n : ℕ). insert items n (record { resource = 15 - k; number = w.in-Some.number; pages = w.in-Some.pages }))
            (w.place_among-place.ensures ∙ ap (place_before w.in-Some.number) w.as_slice.ensures.value)
            ∙ (places_some r (15 - k) w.in-Some.number w.in-Some.pages items inside (sym c.file.ensures.value ∙ w.in-Some.is) was
            ∙ ap (PlacesFrom r) same)));
        sound = λ some. sound;
        count = (let e = ap (λ (x : _). length x.items) w.files-is in
            omega (arith, e, w.insert.ensures.len, c.loop-k.invariant.count));
      }
      | in_default w ↦ record {
        value = λ s.
            ap (λ (x : _). x.items) w.files-is
            ∙ (places_none r (15 - k) items inside (sym c.file.ensures.value ∙ w.in_default.is) was ∙ ap (PlacesFrom r) same);
        sound = λ some. sound;
        count = (let e = ap (λ (x : _). length x.items) w.files-is in omega (arith, e, c.loop-k.invariant.count));
      }
    ]

pub returns-clause-value : goal.returns-clause-value
returns-clause-value c =
    c.loop-k.invariant.value (c.loop-k.invariant.sound (omega (arith, c.loop-k-test.false)))
    ∙ ap (PlacesFrom (control_of c.args.domain.now).resources) (let e : 16 - c.loop-k.k ≡ 0 = omega (arith, c.loop-k-test.false) in e)

pub returns-clause-rise : goal.returns-clause-rise
returns-clause-rise c =
    let sound = c.loop-k.invariant.sound (omega (arith, c.loop-k-test.false)) in
    let all = subst AreFiles
    (sym (c.loop-k.invariant.value sound
    ∙ ap (PlacesFrom (control_of c.args.domain.now).resources) (let e : 16 - c.loop-k.k ≡ 0 = omega (arith, c.loop-k-test.false) in e)))
    (are_files (control_of c.args.domain.now).resources sound) in
    λ i j d less low. all.rise i j d less low

pub returns-clause-some_pages : goal.returns-clause-some_pages
returns-clause-some_pages c =
    let sound = c.loop-k.invariant.sound (omega (arith, c.loop-k-test.false)) in
    let all = subst AreFiles
    (sym (c.loop-k.invariant.value sound
    ∙ ap (PlacesFrom (control_of c.args.domain.now).resources) (let e : 16 - c.loop-k.k ≡ 0 = omega (arith, c.loop-k-test.false) in e)))
    (are_files (control_of c.args.domain.now).resources sound) in
    λ i d low. (all.each i d low).some

pub returns-clause-inside : goal.returns-clause-inside
returns-clause-inside c =
    let sound = c.loop-k.invariant.sound (omega (arith, c.loop-k-test.false)) in
    let all = subst AreFiles
    (sym (c.loop-k.invariant.value sound
    ∙ ap (PlacesFrom (control_of c.args.domain.now).resources) (let e : 16 - c.loop-k.k ≡ 0 = omega (arith, c.loop-k-test.false) in e)))
    (are_files (control_of c.args.domain.now).resources sound) in
    λ i d low. (all.each i d low).inside

pub returns-clause-few_pages : goal.returns-clause-few_pages
returns-clause-few_pages c =
    let sound = c.loop-k.invariant.sound (omega (arith, c.loop-k-test.false)) in
    let all = subst AreFiles
    (sym (c.loop-k.invariant.value sound
    ∙ ap (PlacesFrom (control_of c.args.domain.now).resources) (let e : 16 - c.loop-k.k ≡ 0 = omega (arith, c.loop-k-test.false) in e)))
    (are_files (control_of c.args.domain.now).resources sound) in
    all.few
