use Rattle.std.proofs.Common.{◌∙◌, ◌+◌, ◌-◌, ◌*◌, ◌≡◌, ℕ, List, [], get_or, ap, arith}
use Rattle.plain_pages.proofs.Resources.{changed_more, not_yet}
use Rattle.plain_pages.proofs.pages.PlainPages.copy.Goals as goal

pub loop-page-preserved : goal.loop-page-preserved
loop-page-preserved c =
    let so_far = c.loop-page.invariant in
    let was = c.args.self.now in
    let n = c.loop-page.page in
    let from = c.args.from in
    let to = c.args.to in
    let page : ℕ → List ℕ = λ k. get_or was (from * 1024 + (k - to * 1024)) [] in
    let place : from * 1024 + n ≡ from * 1024 + (to * 1024 + n - to * 1024) = omega arith in
    let more = changed_more was c.loop-page.self c.copy_page.new.self (to * 1024) n page _
    (record { inside = so_far.inside; below = so_far.below; above = so_far.above; as_many = so_far.count })
    c.copy_page.ensures.pages (omega (arith, c.copy_page.ensures.all, c.requires.to))
    (not_yet was c.loop-page.self from to n page (record { inside = so_far.inside; below = so_far.below; above = so_far.above; as_many = so_far.count })
    (omega arith) ∙ ap (λ k. get_or was k []) place) in
    record { inside = more.inside; below = more.below; above = more.above; count = more.as_many }
