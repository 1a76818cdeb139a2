use Rattle.frozen_state.specs.FrozenState.{body_bytes}
use Rattle.frozen_run.proofs.WritingFacts.{gives_then}
use Rattle.frozen_run.proofs.writing.put_body.Goals as goal

pub returns-clause-gives : goal.returns-clause-gives
unfolding body_bytes
returns-clause-gives g c =
    let draws = rw c.to_le_bytes.ensures at c.put-2.ensures.gives in
    let refused = rw c.to_le_bytes-2.ensures at c.put-4.ensures.gives in
    let domains = rw c.as_slice.ensures at c.put_each.ensures.gives in
    let harts = rw c.as_slice-2.ensures at c.put_each-2.ensures.gives in
    let disk = rw c.as_slice-3.ensures at c.put-5.ensures.gives in
    let frames = rw c.as_slice-4.ensures at c.put_each-3.ensures.gives in
    let count = rw c.as_slice-recorded.ensures at c.put_to-2.ensures.gives in
    let recorded = rw c.as_slice-recorded.ensures at c.put_each-4.ensures.gives in
    gives_then c.put.ensures.gives (gives_then c.put_to.ensures.gives (gives_then draws
    (gives_then c.put-3.ensures.gives (gives_then refused (gives_then domains (gives_then harts (gives_then disk
    (gives_then frames (gives_then count recorded)))))))))
