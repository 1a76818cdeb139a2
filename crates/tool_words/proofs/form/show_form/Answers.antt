use Rattle.std.proofs.Common.{rules, ◌≡◌, ◌∙◌, ap, ap₂, codes}
use Rattle.clap.specs.Words.{App, app_of, new_app, with_rule, with_subcommand}
use Rattle.tool_words.specs.ToolForms.{show_form}
use Rattle.tool_words.proofs.form.show_form.Goals as goal

pub returns : goal.returns
returns c =
    let name = c.position-record.ensures in
    let from = c.number_option-from.ensures in
    let to = c.number_option-to.ensures in
    let only = c.kinds_option-only.ensures in
    let counts = c.flag-counts.ensures in
    let json = c.flag-json.ensures in
    let follow = c.number_option-follow.ensures in
    let bare : app_of c.about.result ≡ new_app (codes "show") = search rules in
    let own : app_of c.in_ok-show.show ≡ show_form =
    c.in_ok-show.ensures.shape follow.local
    ∙ ap₂ with_rule (c.in_ok-arg-6.ensures.shape json.local
    ∙ ap₂ with_rule (c.in_ok-arg-5.ensures.shape counts.local
    ∙ ap₂ with_rule (c.in_ok-arg-4.ensures.shape only.local
    ∙ ap₂ with_rule (c.in_ok-arg-3.ensures.shape to.local
    ∙ ap₂ with_rule (c.in_ok-arg-2.ensures.shape from.local
    ∙ ap₂ with_rule (c.in_ok-arg.ensures.shape name.local
    ∙ ap₂ with_rule bare name.rule) from.rule) to.rule) only.rule) counts.rule) json.rule) follow.rule in
    record {
      own = own;
      added = λ above more adds. adds.shape (search rules)
          ∙ ap (λ (f : App). with_subcommand (app_of above) f.top) own;
    }
