use Rattle.std.proofs.Common.{refl}
use Rattle.cloak_pager.proofs.Opening.{new_rights, opened_kept, opened_stands}
use Rattle.cloak_pager.proofs.pager.Pager.open.Goals as goal

pub returns-clause-state : goal.returns-clause-state
returns-clause-state c =
    let rights = new_rights c.args.frames _ _ c.in_ok-store.ensures.count c.in_ok-store.ensures.rights
    c.in_ok-rights.ensures in
    record {
      zeros = c.in_ok-store.ensures.store;
      count = rights.count;
      outside = rights.outside;
      no_metas = c.in_ok-table.ensures.empty;
      domains_are = c.in_ok-table.ensures.domains;
      keys_are = c.new.ensures;
      no_reads = refl;
    }

pub invariant_of-result : goal.invariant_of-result
invariant_of-result c =
    opened_kept c.args.frames c.args.domains _ _ c.in_ok-homes.homes
    (returns-clause-state c) c.requires.most c.in_ok-homes.ensures.domains

pub returns-clause-model : goal.returns-clause-model
returns-clause-model c =
    opened_stands c.args.frames c.args.domains _ _ (returns-clause-state c) c.requires.most refl
