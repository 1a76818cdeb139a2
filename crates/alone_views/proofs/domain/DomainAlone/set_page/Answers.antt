use Rattle.std.proofs.Common.{◌∙◌, ℕ, refl, ap, slice_set}
use Rattle.alone_views.proofs.DomainFiles.{begins_so, has_bytes}
use Rattle.alone_views.proofs.domain.DomainAlone.set_page.Goals as goal

pub returns : goal.returns
returns c = λ d schedule p begins.
    let was = (begins.state.while_fit refl).part in
    begins_so begins refl refl refl refl refl (record {
      domain = was.domain;
      pages = has_bytes c.args.self.now.side.pages c.set.new.self p.plain c.args.resource c.args.page c.args.bytes.now
          c.requires.resource c.requires.page c.set.ensures.all
          (c.set.ensures.pages
          ∙ ap (λ (at : ℕ). slice_set c.args.self.now.side.pages at c.args.bytes.now) c.page_place.ensures.value)
          was.pages;
      slots = was.slots;
    })
