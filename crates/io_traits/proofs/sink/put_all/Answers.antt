use Rattle.std.proofs.Common.{◌≡◌, length, refl, arith}
use Rattle.std.proofs.lemmas.Bool.Decides.{nat_tests}
use Rattle.io_traits.proofs.Pieces.{PutsFront-none, PutsFront-more, PutsFront-nothing, rest_after}
use Rattle.io_traits.proofs.sink.put_all.Goals as goal

pub loop-rest-init : goal.loop-rest-init
loop-rest-init g c = record { puts = PutsFront-none _ _ _; untouched = λ _. refl }

pub loop-rest-preserved : goal.loop-rest-preserved
loop-rest-preserved g c =
    let put = c.in_ok-n.ensures in
    record {
      puts =
          PutsFront-more _ _ _ _ _ _ _ _ _ c.in_ok-n.n c.loop-rest.invariant.puts put.count
          (rest_after c.loop-rest.rest.now c.in_ok-n.n) put.ok put.faults;
      untouched = λ none.
          let empty : length c.loop-rest.rest.now ≡ 0 =
          PutsFront-nothing _ _ _ _ _ _ c.loop-rest.invariant.puts none in
          absurd (grind (arith, nat_tests));
    }
