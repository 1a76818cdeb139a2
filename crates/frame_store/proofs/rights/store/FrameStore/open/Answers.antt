use Rattle.std.proofs.Common.{◌≡◌, ◌≤◌, ◌∷◌, ◌++◌, ◌∙◌, ℕ, [], ◌+◌, replicate, vec_capacity, ap, arith}
use Rattle.cloak_base.specs.Pages.{zero_page}
use Rattle.frame_store.proofs.Slots.{begun}
use Rattle.cloak_base.specs.declared.names.Frame.{Frame}
use Rattle.frame_store.proofs.Lists.{named_pushed}
use Rattle.frame_store.proofs.rights.store.FrameStore.open.Goals as goal

pub loop-i-preserved : goal.loop-i-preserved
loop-i-preserved c =
    let name : ℕ → Frame = λ k. record { 0 = k } in
    record {
      count = grind (arith);
      named = named_pushed _ _ name _ c.loop-i.invariant.count c.in_ok-push.ensures.items c.loop-i.invariant.named;
    }

pub invariant_of-result : goal.invariant_of-result
unfolding zero_page
invariant_of-result c =
    let zeros : c.push_reserved.new.self.items ≡ zero_page ∷ [] =
    c.push_reserved.ensures.items ∙ ap (λ l. l ++ zero_page ∷ []) c.in_ok-frames.ensures.items in
    let slots : c.in_ok-slots.slots.items ≡ replicate c.args.n 0 = grind (arith) in
    let enough : c.args.n + 1 ≤ vec_capacity c.push_reserved.new.self = grind (arith) in
    (begun _ _ c.args.n _ c.requires.most enough zeros slots).0

pub returns-clause-store : goal.returns-clause-store
unfolding zero_page
returns-clause-store c =
    let zeros : c.push_reserved.new.self.items ≡ zero_page ∷ [] =
    c.push_reserved.ensures.items ∙ ap (λ l. l ++ zero_page ∷ []) c.in_ok-frames.ensures.items in
    let slots : c.in_ok-slots.slots.items ≡ replicate c.args.n 0 = grind (arith) in
    let enough : c.args.n + 1 ≤ vec_capacity c.push_reserved.new.self = grind (arith) in
    (begun _ _ c.args.n _ c.requires.most enough zeros slots).1
