use Rattle.std.proofs.Common.{◌≡◌, ◌∙◌, ℕ, ◌-◌, List, ◌++◌, length, replicate, Option, ap, sym, arith}
use Rattle.cloak_model.specs.Contexts.{Context}
use Rattle.cloak_model.specs.Resources.{Resources}
use Rattle.frozen_state.specs.DomainPage.{domain_page}
use Rattle.domain_page.specs.Writing.{state_of}
use Rattle.domain_page.proofs.writing.write_page.Goals as goal

-- the state and zeros
abbrev page_with : List (Option Context) → Resources → List ℕ
page_with contexts r = state_of contexts r ++ replicate (4096 - length (state_of contexts r)) 0

pub returns : goal.returns
unfolding domain_page
returns c = λ d contexts resources.
    let w = c.put_state-end.ensures.written in
    let s = state_of c.args.contexts.now c.args.resources.now in
    let end : c.put_state-end.result ≡ length s = omega (arith, w.end_is) in
    c.clear_from.ensures
    ∙ (ap (λ (l : List ℕ). l ++ replicate (4096 - c.put_state-end.result) 0) w.bytes_are
    ∙ (ap (λ (n : ℕ). s ++ replicate (4096 - n) 0) end
    ∙ sym (ap (λ (slots : List (Option Context)). page_with slots d.resources) contexts ∙ ap (page_with c.args.contexts.now) resources)))
