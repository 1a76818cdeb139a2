-- The pages of a program as it starts, by their places.
use Rattle.std.proofs.Common.{◌≡◌, ◌∙◌, ◌<◌, ◌≤◌, ◌+◌, ◌*◌, ◌&&◌, ℕ, zero, suc, Bool, false, cond, eqb, ltb, List, [], slice_index_or, refl, ap, sym, arith, le-ltb, ne_eqb}
use Rattle.cloak_base.specs.Pages.{zero_page}
use Rattle.cloak_model.specs.declared.image.Program.{Program}
use Rattle.cloak_model.specs.Opening.{program_page}
use Rattle.cloak_model.specs.DomainAlone.{started_page}
use Rattle.plain_pages.specs.Places.{page_at_start}
use Rattle.alone_views.specs.DomainPages.{HasPlain}

no_page : (b : Bool) (own zeros : List ℕ) → b ≡ false → cond b own zeros ≡ zeros
no_page b own zeros is = rw is refl

-- a place is that of a page of a resource
pub placed_as : (p : Program) (resource page : ℕ) → p.start.pages ≤ 1024 → page < 1024 → page_at_start p (resource * 1024 + page) ≡ started_page p resource page
placed_as p zero page few low = let here : 0 * 1024 + page ≡ page = omega arith in ap (λ (k : ℕ). page_at_start p k) here
placed_as p (suc r) page few low =
    let over : ltb (suc r * 1024 + page) p.start.pages ≡ false = le-ltb (suc r * 1024 + page) p.start.pages (omega arith) in
    let other : eqb (suc r) 0 ≡ false = ne_eqb (suc r) 0 (λ same. omega (arith, same)) in
    no_page _ (program_page p.bytes (suc r * 1024 + page)) zero_page over
    ∙ sym (ap (λ (b : Bool). cond (b && ltb page p.start.pages) (program_page p.bytes page) zero_page) other)

pub starts_plain : (pages : List (List ℕ)) (p : Program) → p.start.pages ≤ 1024 →
    ((k : ℕ) → k < 16384 → slice_index_or pages k [] ≡ page_at_start p k) → HasPlain pages (started_page p)
starts_plain pages p few all = λ resource page low inside. all (resource * 1024 + page) (omega (arith, low, inside)) ∙ placed_as p resource page few inside
