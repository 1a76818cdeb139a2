use Rattle.std.proofs.Common.{rules, ◌≡◌, ◌∙◌, ap, ap₂, codes}
use Rattle.clap.specs.Words.{App, app_of, new_app, with_rule, with_subcommand}
use Rattle.tool_words.specs.ToolForms.{draw_form}
use Rattle.tool_words.proofs.form.draw_form.Goals as goal

pub returns : goal.returns
returns c =
    let bundle = c.position-bundle.ensures in
    let name = c.position-record.ensures in
    let picture = c.position-out.ensures in
    let bare : app_of c.about.result ≡ new_app (codes "draw") = search rules in
    let own : app_of c.in_ok-draw.draw ≡ draw_form =
    c.in_ok-draw.ensures.shape picture.local
    ∙ ap₂ with_rule (c.in_ok-arg-2.ensures.shape name.local
    ∙ ap₂ with_rule (c.in_ok-arg.ensures.shape bundle.local
    ∙ ap₂ with_rule bare bundle.rule) name.rule) picture.rule in
    record {
      own = own;
      added = λ above more adds. adds.shape (search rules)
          ∙ ap (λ (f : App). with_subcommand (app_of above) f.top) own;
    }
