use Rattle.std.proofs.Common.{◌≡◌, ◌∙◌, ℕ, List, sym, ap}
use Rattle.std.specs.Prelude.{bytes_eq}
use Rattle.manifest.proofs.Among.{among_next, among_here, among_none}
use Rattle.manifest.proofs.fields.is_among.Goals as goal

pub loop-key-preserved : goal.loop-key-preserved
loop-key-preserved c =
    let name = c.args.name.now in
    let other = ap (λ (w : List ℕ). bytes_eq w name) (sym c.name.ensures) ∙ sym c.eq.ensures ∙ c.if-eq.false in
    sym (among_next c.args.keys.now c.loop-key.key-index name _ c.loop-key-test.true other) ∙ c.loop-key.invariant

pub returns-then-eq : goal.returns-then-eq
returns-then-eq c =
    let name = c.args.name.now in
    let same = ap (λ (w : List ℕ). bytes_eq w name) (sym c.name.ensures) ∙ sym c.eq.ensures ∙ c.if-eq.true in
    sym (among_here c.args.keys.now c.loop-key.key-index name _ c.loop-key-test.true same) ∙ c.loop-key.invariant

pub returns : goal.returns
returns c =
    sym (among_none c.args.keys.now c.loop-key.key-index c.args.name.now c.loop-key-test.false) ∙ c.loop-key.invariant
