use Rattle.std.proofs.Common.{rules, ◌≡◌, ◌∙◌, ap, ap₂, codes}
use Rattle.clap.specs.Words.{App, app_of, new_app, with_rule, with_subcommand}
use Rattle.tool_words.specs.ToolForms.{disasm_form}
use Rattle.tool_words.proofs.form.disasm_form.Goals as goal

pub returns : goal.returns
returns c =
    let first = c.position-file.ensures in
    let second = c.named_option-base.ensures in
    let third = c.number_option-segment.ensures in
    let fourth = c.number_option-program.ensures in
    let bare : app_of c.about.result ≡ new_app (codes "disasm") = search rules in
    let own : app_of c.in_ok-disasm.disasm ≡ disasm_form =
    c.in_ok-disasm.ensures.shape fourth.local
    ∙ ap₂ with_rule (c.in_ok-arg-3.ensures.shape third.local
    ∙ ap₂ with_rule (c.in_ok-arg-2.ensures.shape second.local
    ∙ ap₂ with_rule (c.in_ok-arg.ensures.shape first.local
    ∙ ap₂ with_rule bare first.rule) second.rule) third.rule) fourth.rule in
    record {
      own = own;
      added = λ above more adds. adds.shape (search rules)
          ∙ ap (λ (f : App). with_subcommand (app_of above) f.top) own;
    }
