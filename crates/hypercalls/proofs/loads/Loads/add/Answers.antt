use Rattle.std.proofs.Common.{arith, [], ◌∷◌, ◌++◌, refl, length-append}
use Rattle.hypercalls.proofs.Gathered.{gathered_more, taken_all}
use Rattle.hypercalls.proofs.loads.Loads.add.Goals as goal

pub returns-then-self-lt7 : goal.returns-then-self-lt7
returns-then-self-lt7 c loads are = record {
  taken = are.taken;
  digest = are.digest;
  gathered = gathered_more are.taken _ _ c.args.self.now.place loads _ c.gather.ensures.stored are.gathered _ refl;
  count = omega (arith, c.saturating_add-self.ensures, are.count, length-append loads ((c.args.address, c.args.value) ∷ []));
}

pub returns-else-self-lt7 : goal.returns-else-self-lt7
returns-else-self-lt7 c loads are = record {
  taken = are.taken ++ c.gather.new.into;
  digest = c.update.ensures are.taken are.digest;
  gathered = taken_all are.taken _ _ c.args.self.now.place loads _ c.gather.ensures.stored are.gathered c.gather.ensures.whole (omega (arith, c.if-self-lt7.false, c.args.self.now.inside));
  count = omega (arith, c.saturating_add-self.ensures, are.count, length-append loads ((c.args.address, c.args.value) ∷ []));
}
