use Rattle.std.proofs.Common.{rules, ◌≡◌, ◌∙◌, ap, ap₂, codes}
use Rattle.clap.specs.Words.{App, app_of, new_app, with_rule, with_subcommand}
use Rattle.tool_words.specs.ToolForms.{trace_form}
use Rattle.tool_words.proofs.form.trace_form.Goals as goal

pub returns : goal.returns
returns c =
    let bundle = c.position-bundle.ensures in
    let name = c.position-record.ensures in
    let program = c.program_option-program.ensures in
    let from = c.number_option-from.ensures in
    let to = c.number_option-to.ensures in
    let hart = c.number_option-hart.ensures in
    let files = c.named_option-files.ensures in
    let secret = c.named_option-secret.ensures in
    let counter = c.number_option-counter.ensures in
    let bare : app_of c.about.result ≡ new_app (codes "trace") = search (c.about.ensures, c.new.ensures) in
    let own : app_of c.in_ok-trace.trace ≡ trace_form =
    c.in_ok-trace.ensures.shape counter.local
    ∙ ap₂ with_rule (c.in_ok-arg-8.ensures.shape secret.local
    ∙ ap₂ with_rule (c.in_ok-arg-7.ensures.shape files.local
    ∙ ap₂ with_rule (c.in_ok-arg-6.ensures.shape hart.local
    ∙ ap₂ with_rule (c.in_ok-arg-5.ensures.shape to.local
    ∙ ap₂ with_rule (c.in_ok-arg-4.ensures.shape from.local
    ∙ ap₂ with_rule (c.in_ok-arg-3.ensures.shape program.local
    ∙ ap₂ with_rule (c.in_ok-arg-2.ensures.shape name.local
    ∙ ap₂ with_rule (c.in_ok-arg.ensures.shape bundle.local
    ∙ ap₂ with_rule bare bundle.rule) name.rule) program.rule) from.rule) to.rule) hart.rule) files.rule)
    secret.rule) counter.rule in
    record {
      own = own;
      added = λ above more adds. adds.shape (search rules)
          ∙ ap (λ (f : App). with_subcommand (app_of above) f.top) own;
    }
