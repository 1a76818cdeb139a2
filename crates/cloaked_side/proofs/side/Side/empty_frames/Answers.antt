use Rattle.std.proofs.Common.{◌∙◌, ◌≤◌, arith, length, rules, subst, sym}
use Rattle.cloak_base.specs.Pages.{is_of}
use Rattle.cloak_pager.specs.State.{held_in}
use Rattle.shadow_fold.specs.Fold.{Fold}
use Rattle.cloaked_side.specs.Tracking.{Tracks}
use Rattle.cloaked_side.proofs.Tracking.{above, emptied_all, emptied_below, emptied_next, emptied_none}
use Rattle.cloaked_side.proofs.Cleared.{none_owed_still, none_past, away_next}
use Rattle.cloaked_side.proofs.Sided.{within_of}
use Rattle.cloaked_side.proofs.side.Side.empty_frames.Goals as goal

pub empty_frame-requires-clause-cleared : goal.empty_frame-requires-clause-cleared
empty_frame-requires-clause-cleared g c =
    none_owed_still c.args.self.now.memory.now.pager c.loop-i.self.memory.now.pager c.args.domain c.args.resource
    (within_of g.E.Emit.gave c.args.self.now c.loop-i.self c.loop-i.invariant.keeps).no_more c.requires.cleared

pub loop-i-init : goal.loop-i-init
loop-i-init g c = record {
  shows = λ first w seen. seen;
  tracks = λ s keeps. subst (λ (u : Fold). Tracks c.args.self.now.memory.now u)
      (emptied_none (is_of c.args.domain c.args.resource) s) keeps;
  keeps = λ first stays. stays;
  same_count = sym c.count-count.ensures.value;
  away = λ k low q e. absurd (omega (arith, low));
}

pub loop-i-preserved : goal.loop-i-preserved
loop-i-preserved g c =
    let less = (within_of g.E.Emit.gave c.loop-i.self c.empty_frame.new.self c.empty_frame.ensures.keeps).no_more in
    record {
      shows = λ first w seen. c.empty_frame.ensures.shows first w (c.loop-i.invariant.shows first w seen);
      tracks = λ s keeps.
          let passes = is_of c.args.domain c.args.resource in
          let s' = emptied_below passes c.loop-i.i s in
          subst (λ (u : Fold). Tracks c.empty_frame.new.self.memory.now u) (emptied_next passes c.loop-i.i s)
          (c.empty_frame.ensures.tracks s' (c.loop-i.invariant.tracks s keeps));
      keeps = λ first stays. c.empty_frame.ensures.keeps first (c.loop-i.invariant.keeps first stays);
      same_count = c.empty_frame.ensures.same_count ∙ c.loop-i.invariant.same_count;
      away = away_next c.args.domain c.args.resource c.loop-i.i c.loop-i.self.memory.now.pager
          c.empty_frame.new.self.memory.now.pager less c.loop-i.invariant.away c.empty_frame.ensures.away;
    }

pub returns-clause-tracks : goal.returns-clause-tracks
returns-clause-tracks g c s keeps =
    let passes = is_of c.args.domain c.args.resource in
    let p = c.loop-i.self.memory.now.pager in
    let after = c.loop-i.invariant.tracks s keeps in
    let all : length p.frames ≤ c.loop-i.i = search rules in
    emptied_all passes s c.loop-i.self.memory.now.counting c.loop-i.self.memory.now.shadows (held_in p) c.loop-i.i
    (λ k high. sym (above passes s c.loop-i.i k high) ∙ sym (after.pages k)
    ∙ none_past p c.whole.ensures k (omega (arith, all, high))) after
