use Rattle.std.proofs.Common.{◌≡◌, ◌∙◌, ◌-◌, List, ℕ, length, take, drop, ap, sym, subst, arith, length-drop}
use Rattle.std.proofs.lemmas.List.{length-take}
use Rattle.cloak_model.specs.StoredFiles.{IsTable}
use Rattle.store_command.specs.Writing.{with_bytes_at}
use Rattle.store_command.proofs.Lengths.{part_back}
use Rattle.store_command.proofs.run.finish.Goals as goal

-- it cannot be: the place has the size of the machine's disk
pub returns-then-disk-disk_length-clause-ends : goal.returns-then-disk-disk_length-clause-ends
returns-then-disk-disk_length-clause-ends g c = λ m stands sized.
    let from = c.args.left.now.disk_from in
    let count = c.args.left.now.disk_end - from in
    let front = length-take count (drop from c.deref_mut.result.now) in
    let back = length-drop from c.deref_mut.result.now in
    let whole = ap length c.deref_mut.ensures.value in
    let place = c.requires.left.place in
    let within = c.requires.left.within in
    let disk = ap length stands.joint.disk in
    let told = c.disk_length.ensures in
    let same : length (take count (drop from c.deref_mut.result.now)) ≡ c.disk_length.result =
    omega (arith, front, back, whole, place, within, disk, told, sized) in
    absurd (c.if-disk-disk_length.true same)

pub returns-clause-ends : goal.returns-clause-ends
returns-clause-ends g c = λ m stands sized.
    let done = c.finish_stored.ensures in
    let left = c.args.left.now in
    let count = left.disk_end - left.disk_from in
    let place = c.requires.left.place in
    let within = c.requires.left.within in
    let long : length c.finish_stored.new.disk ≡ count =
    let kept = c.finish_stored.auto.disk in
    let front = length-take count (drop left.disk_from c.deref_mut.result.now) in
    let back = length-drop left.disk_from c.deref_mut.result.now in
    let whole = ap length c.deref_mut.ensures.value in
    omega (arith, kept, front, back, whole, place, within) in
    record {
      finishes = done.ends m stands;
      table = λ drawn. (done.stores drawn m stands).tells;
      fit = λ drawn. let files = done.stores drawn m stands in
          record { table = subst IsTable files.tells done.table; sealed = files.sealed };
      next = part_back left.next.items c.deref_mut.result.now c.finish_stored.new.disk left.next.len left.disk_from count
          c.deref_mut.ensures.value (sym left.next.ok.0) (omega (arith, place, within)) long
          ∙ ap (λ (disk : List ℕ). with_bytes_at left.disk_from disk left.next.items) (done.disk m stands);
    }
