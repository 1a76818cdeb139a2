use Rattle.std.proofs.Common.{◌≡◌, ◌∙◌, ℕ, List, ap, length, reverse, subst, sym, All, arith}
use Rattle.std.proofs.lemmas.List.{reverse-reverse}
use Rattle.shadow_fold.specs.Table.{Table}
use Rattle.cloak_model.specs.Bundle.{IsSegmentIn}
use Rattle.cloak_model.specs.Ledger.{Keys}
use Rattle.cloak_model.specs.Sealing.{Chained}
use Rattle.joint_machine.proofs.Loaded.{loads_none, loads_next, back_fits, loads_outside, loads_ready, loaded, loaded_holds}
use Rattle.joint_machine.proofs.loading.load.Goals as goal

abbrev keys_given : List (List ℕ) → List ℕ → Keys
keys_given numbered group = record { numbered = numbered; group = group; seal = Chained }

pub loop-segment-init : goal.loop-segment-init
loop-segment-init c =
    let segments = c.args.k.segments in
    let same : reverse c.reverse.new.self.items ≡ segments =
    ap reverse (c.reverse.ensures.items ∙ ap reverse c.into_vec-segments.ensures) ∙ reverse-reverse segments in
    record {
      fits = subst (All (IsSegmentIn c.args.k.frames)) (sym same) c.requires.kernel.segments;
      loads =
          loads_none c.args.k.frames c.args.domains (keys_given c.args.keys c.args.group) c.in_ok-pager.pager (reverse c.reverse.new.self.items) segments
          c.in_ok-pager.ensures.state same;
    }

pub store_segment-requires-clause-segment : goal.store_segment-requires-clause-segment
store_segment-requires-clause-segment c =
    back_fits c.args.k.frames c.args.domains (keys_given c.args.keys c.args.group) c.in_ok-pager.pager c.loop-segment.pager
    c.loop-segment.segments.items c.pop.new.self.items c.args.k.segments c.in-Some.segment c.in_ok-pager.ensures.state
    c.loop-segment.invariant c.in-Some.ensures.items

pub store_segment-requires-clause-outside : goal.store_segment-requires-clause-outside
store_segment-requires-clause-outside c =
    loads_outside c.args.k.frames c.args.domains (keys_given c.args.keys c.args.group) c.in_ok-pager.pager c.loop-segment.pager
    (reverse c.loop-segment.segments.items) c.args.k.segments c.in_ok-pager.ensures.state c.loop-segment.invariant.loads

pub loop-segment-preserved : goal.loop-segment-preserved
loop-segment-preserved c =
    loads_next c.args.k.frames c.args.domains (keys_given c.args.keys c.args.group) c.in_ok-pager.pager c.loop-segment.pager c.store_segment.new.pager
    c.loop-segment.segments.items c.pop.new.self.items c.args.k.segments c.in-Some.segment c.in_ok-pager.ensures.state
    c.loop-segment.invariant c.in-Some.ensures.items c.store_segment.ensures

pub returns-clause-holds : goal.returns-clause-holds
returns-clause-holds c =
    let none : length c.loop-segment.segments.items ≡ 0 =
    omega (arith, c.in_default.ensures.cases.0, c.loop-segment.segments.ok) in
    loaded_holds c.in_ok-pager.pager c.loop-segment.pager c.args.k c.args.domains (keys_given c.args.keys c.args.group) c.args.stream _ _
    (loaded c.in_ok-pager.pager c.loop-segment.pager c.args.k c.args.domains (keys_given c.args.keys c.args.group) c.loop-segment.segments.items
    c.in_ok-pager.ensures.state c.in_ok-pager.ensures.model c.loop-segment.invariant none c.whole.ensures)
    c.in_ok-shadows.ensures c.none.ensures

pub returns-clause-ready : goal.returns-clause-ready
returns-clause-ready c =
    loads_ready c.args.k.frames c.args.domains (keys_given c.args.keys c.args.group) c.in_ok-pager.pager c.loop-segment.pager
    (reverse c.loop-segment.segments.items) c.args.k.segments c.in_ok-pager.ensures.state c.loop-segment.invariant.loads

pub returns-clause-empty : goal.returns-clause-empty
returns-clause-empty c = ap (λ (t : Table). t.live) c.in_ok-shadows.ensures
