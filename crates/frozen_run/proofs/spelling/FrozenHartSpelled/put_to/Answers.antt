use Rattle.std.proofs.Common.{drop, arith, length-drop}
use Rattle.std.proofs.lemmas.List.{take_all}
use Rattle.frozen_run.proofs.WritingFacts.{gives_then}
use Rattle.frozen_run.proofs.spelling.FrozenHartSpelled.put_to.Goals as goal

pub returns-clause-gives : goal.returns-clause-gives
returns-clause-gives g c =
    let mode = rw c.mode_byte.ensures at c.put.ensures.gives in
    let regs = rw c.words.ensures.value at c.put_each.ensures.gives in
    let after_first = take_all 31 (drop 1 c.args.self.now.regs) (let long = c.words.ensures.count in
    omega (arith, long, length-drop 1 c.args.self.now.regs)) in
    let whole = rw after_first at regs in
    gives_then mode (gives_then c.put_to.ensures.gives (gives_then c.put_to-2.ensures.gives
    (gives_then c.put_to-3.ensures.gives (gives_then whole (gives_then c.put_each-2.ensures.gives c.put_to-4.ensures.gives)))))
