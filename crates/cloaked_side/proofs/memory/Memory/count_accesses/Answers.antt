use Rattle.std.proofs.Common.{refl, ap, sym, subst, ◌∙◌}
use Rattle.std.proofs.lemmas.List.Elements.{All-nil}
use Rattle.cloak_pager.specs.State.{held_in}
use Rattle.shadow_fold.specs.Following.{FollowsTable}
use Rattle.shadow_fold.specs.Keeping.{Agrees}
use Rattle.shadow_fold.specs.Table.{Table, empty_table}
use Rattle.shadow_law.specs.Agreeing.{present}
use Rattle.cloaked_side.proofs.memory.Memory.count_accesses.Goals as goal

pub returns-clause-tracks : goal.returns-clause-tracks
returns-clause-tracks c none frames = record {
  pages = none;
  entries = λ counts. subst (λ (t : Table). FollowsTable t (empty_table frames)) (sym c.restart.ensures)
      (record { live = λ passes. refl; counts = refl });
}

pub returns-clause-holds : goal.returns-clause-holds
returns-clause-holds c m h = record {
  wiped = h.wiped;
  pager = h.pager;
  whole = h.whole;
  stream = h.stream;
  draws = h.draws;
  missed = h.missed;
  agrees = subst (λ (t : Table). Agrees (present (held_in c.args.self.now.pager) m) t) (sym c.restart.ensures) (All-nil _);
  room = ap (λ (t : Table). t.frames) c.restart.ensures ∙ h.room;
  marks = h.marks;
}
