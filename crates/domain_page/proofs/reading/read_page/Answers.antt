use Rattle.std.proofs.Common.{◌∙◌, sym}
use Rattle.std.proofs.lemmas.Bool.{false≢true}
use Rattle.cloak_model.specs.Contexts.{context_at}
use Rattle.domain_page.proofs.Again.{found_by, is_read, no_program, no_spelling, on_hart}
use Rattle.domain_page.proofs.reading.read_page.Goals.{else-keep_limits-via-then-keep_limits+else-have_page, else-keep_limits-via-else-keep_limits}
use Rattle.domain_page.proofs.reading.read_page.Goals as goal

pub have_page-requires : goal.have_page-requires
have_page-requires c = λ slot.
    on_hart c.in_ok-resources.resources (context_at c.of-contexts.result slot)
    (((c.keep_limits.ensures 0).0 c.if-keep_limits.true).limits.contexts slot)

pub returns-then-have_page : goal.returns-then-have_page
returns-then-have_page c =
    is_read c.args.b.now c.of-contexts.result c.in_ok-resources.resources
    (found_by c.args.b.now c.of-contexts.result c.in_ok-resources.resources c.parts_of-parts.result c.parts_of-parts.ensures c.in_ok-resources.ensures c.of-contexts.ensures)
    (λ number. (c.keep_limits.ensures number).0 c.if-keep_limits.true)
    (λ d a b. (c.have_page.ensures d a b).0 c.if-have_page.true)

pub returns-else-keep_limits : goal.returns-else-keep_limits
returns-else-keep_limits c = λ number d is.
    let found = found_by c.args.b.now c.of-contexts.result c.in_ok-resources.resources c.parts_of-parts.result c.parts_of-parts.ensures c.in_ok-resources.ensures c.of-contexts.ensures in
    elim c.else-keep_limits.branch [
      | else-keep_limits-via-then-keep_limits+else-have_page w ↦
          no_spelling c.args.b.now c.of-contexts.result c.in_ok-resources.resources found
          (λ d a b e. false≢true (sym w.if-have_page.false ∙ (w.have_page.ensures d a b).1 e)) number d is
      | else-keep_limits-via-else-keep_limits w ↦
          no_program c.args.b.now c.of-contexts.result c.in_ok-resources.resources found
          (λ number p. false≢true (sym w.if-keep_limits.false ∙ (c.keep_limits.ensures number).1 p)) number d is
    ]
