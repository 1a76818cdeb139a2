use Rattle.std.proofs.Common.{◌≡◌, ◌∙◌, ◌+◌, ap, refl, sym, subst, length, reverse, arith, All, List}
use Rattle.std.proofs.lemmas.List.{reverse-reverse, length-reverse, length_push}
use Rattle.cloak_model.specs.declared.image.Program.{Program}
use Rattle.cloak_model.specs.Bundle.{IsProgramIn}
use Rattle.cloaked_side.specs.Holding.{frames_of}
use Rattle.joint_machine.proofs.Backwards.{back_next, next_of_all, others_of_all}
use Rattle.joint_machine.proofs.Placed.{PlacesFrom, programs_none, programs_next, programs_missed, programs_all, unplaced_none, unplaced_then}
use Rattle.joint_machine.proofs.placing.place_programs.Goals as goal

pub loop-p-init : goal.loop-p-init
loop-p-init c =
    let memory = c.args.memory.now in
    let programs = c.args.programs in
    let turned = c.reverse.ensures.items ∙ ap reverse c.into_vec-programs.ensures in
    let same : reverse c.reverse.new.self.items ≡ programs = ap reverse turned ∙ reverse-reverse programs in
    record {
      size = record { frames = refl; domains = refl };
      ready = c.requires.ready;
      others = unplaced_none memory.pager;
      empty = λ none. none;
      count =
          (let long : length c.reverse.new.self.items ≡ length programs =
          ap (λ (ps : List Program). length ps) turned ∙ length-reverse programs in
          omega (arith, long, c.requires.domains));
      fits = subst (All (IsProgramIn (frames_of memory))) (sym same) c.requires.programs;
      places = λ m holds. programs_none memory (reverse c.reverse.new.self.items) programs m same holds;
    }

pub place_pages-requires-clause-domain : goal.place_pages-requires-clause-domain
place_pages-requires-clause-domain c =
    let others = c.pop.new.self.items in
    let long : length c.loop-p.programs.items ≡ length others + 1 =
    ap (λ (ps : List Program). length ps) c.in-Some.ensures.items ∙ length_push others c.in-Some.p in
    omega (arith, long, c.loop-p.invariant.count, c.loop-p.invariant.size.domains)

pub place_pages-requires-clause-program : goal.place_pages-requires-clause-program
place_pages-requires-clause-program c =
    subst (λ n. IsProgramIn n c.in-Some.p) (sym c.loop-p.invariant.size.frames)
    (next_of_all (IsProgramIn (frames_of c.args.memory.now)) c.loop-p.programs.items c.pop.new.self.items c.in-Some.p
    c.in-Some.ensures.items c.loop-p.invariant.fits)

pub returns-then-not-place_pages-clause-places : goal.returns-then-not-place_pages-clause-places
returns-then-not-place_pages-clause-places c m holds =
    let others = c.pop.new.self.items in
    programs_missed c.loop-p.memory c.place_pages.new.memory c.loop-p.domain c.in-Some.p (reverse others) c.args.programs
    m (subst (λ (ps : List Program). PlacesFrom c.loop-p.memory c.loop-p.domain ps c.args.programs m)
    (back_next c.loop-p.programs.items others c.in-Some.p c.in-Some.ensures.items) (c.loop-p.invariant.places m holds))
    (λ x held. c.if-not-place_pages.ensures.places x held)

pub returns-then-not-place_pages-clause-others : goal.returns-then-not-place_pages-clause-others
returns-then-not-place_pages-clause-others c =
    unplaced_then c.args.memory.now.pager c.loop-p.memory.pager c.place_pages.new.memory.pager c.loop-p.invariant.others c.place_pages.ensures.others

pub loop-p-preserved : goal.loop-p-preserved
loop-p-preserved c =
    let back = c.loop-p.programs.items in
    let others = c.pop.new.self.items in
    let p = c.in-Some.p in
    record {
      size = record {
        frames = c.place_pages.ensures.size.frames ∙ c.loop-p.invariant.size.frames;
        domains = c.place_pages.ensures.size.domains ∙ c.loop-p.invariant.size.domains;
      };
      ready = c.place_pages.ensures.ready;
      others = unplaced_then c.args.memory.now.pager c.loop-p.memory.pager c.place_pages.new.memory.pager c.loop-p.invariant.others c.place_pages.ensures.others;
      empty = λ none. c.place_pages.ensures.empty (c.loop-p.invariant.empty none);
      count =
          (let long : length back ≡ length others + 1 =
          ap (λ (ps : List Program). length ps) c.in-Some.ensures.items ∙ length_push others p in
          omega (arith, long, c.loop-p.invariant.count));
      fits =
          others_of_all (IsProgramIn (frames_of c.args.memory.now)) back others p c.in-Some.ensures.items
          c.loop-p.invariant.fits;
      places = λ m holds.
          programs_next c.loop-p.memory c.place_pages.new.memory c.loop-p.domain p (reverse others) c.args.programs m
          (subst (λ (ps : List Program). PlacesFrom c.loop-p.memory c.loop-p.domain ps c.args.programs m)
          (back_next back others p c.in-Some.ensures.items) (c.loop-p.invariant.places m holds))
          (λ x held. c.if-not-place_pages.ensures.places x held);
    }

pub returns-clause-places : goal.returns-clause-places
returns-clause-places c m holds =
    let back = c.loop-p.programs.items in
    let none : length (reverse back) ≡ 0 =
    omega (arith, length-reverse back, c.in_default.ensures.cases.0, c.loop-p.programs.ok) in
    programs_all c.loop-p.memory c.loop-p.domain (reverse back) c.args.programs m (c.loop-p.invariant.places m holds)
    none
