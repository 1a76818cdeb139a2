use Rattle.std.proofs.Common.{◌∙◌, ◌++◌, [], ◌∷◌, sym, ap}
use Rattle.cloak_model.specs.Items.{Item, item_of}
use Rattle.cloak_model.specs.KernelAlone.{kernel_alone}
use Rattle.alone_views.specs.declared.asked.AskedAccess.{AskedAccess}
use Rattle.replayed_run.specs.Leading.{presented_by}
use Rattle.replayed_run.specs.PagesTold.{PagesTold, after_cipher, after_grant, pages_after, pages_of}
use Rattle.replayed_run.specs.declared.notes.Notes.{Notes}
use Rattle.replayed_run.proofs.watch.Watch.note_page.Goals as goal

pub returns-in-Cipher-clause-pages : goal.returns-in-Cipher-clause-pages
returns-in-Cipher-clause-pages c = λ b items next.
    let now = items ++ item_of c.args.item.now ∷ [] in
    let p = pages_of c.args.self.now.pages in
    let paged : Item → PagesTold = λ i. pages_after b items now p i in
    c.note_cipher.ensures.pages
    ∙ (ap (λ (n : Notes). after_cipher p n.step c.in-Cipher.frame c.in-Cipher.bytes.now) next.notes
    ∙ sym (ap paged (ap item_of c.in-Cipher.is)))

pub returns-in-Ok-clause-pages : goal.returns-in-Ok-clause-pages
returns-in-Ok-clause-pages c = λ b items next.
    let now = items ++ item_of c.args.item.now ∷ [] in
    let p = pages_of c.args.self.now.pages in
    let paged : Item → PagesTold = λ i. pages_after b items now p i in
    c.note_grant.ensures.pages b now next.machines
    ∙ (ap (λ (a : AskedAccess). after_grant (presented_by (kernel_alone b.kernel now) a) p) next.question
    ∙ sym (ap paged (ap item_of c.in-Ok.is)))

pub returns-in-Leave-clause-pages : goal.returns-in-Leave-clause-pages
returns-in-Leave-clause-pages c = λ b items next.
    let now = items ++ item_of c.args.item.now ∷ [] in
    let p = pages_of c.args.self.now.pages in
    let paged : Item → PagesTold = λ i. pages_after b items now p i in
    c.note_end_of_pages.ensures.pages b now next.machines ∙ sym (ap paged (ap item_of c.in-Leave.is))
