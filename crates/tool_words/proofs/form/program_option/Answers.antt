use Rattle.std.proofs.Common.{◌≡◌, ◌∙◌, ap, Some}
use Rattle.std.specs.Prelude.{Option, pos}
use Rattle.clap.specs.Words.{Rule, rule_of}
use Rattle.clap.specs.declared.builder.arg.Arg.{Arg}
use Rattle.clap.specs.declared.builder.value_parser.ValueParser.{ValueParser}
use Rattle.clap.specs.declared.builder.value_parser.ValueParser.TheVariants.{Signed}
use Rattle.tool_words.specs.ToolForms.{named_option}
use Rattle.tool_words.proofs.form.program_option.Goals as goal

pub returns-clause-rule : goal.returns-clause-rule
returns-clause-rule c =
    let given = c.value_parser.ensures.given in
    let parser : c.value_parser.result.value_parser ≡ Some (Signed (pos 0) (pos 3)) =
    given.1 ∙ ap (λ (p : ValueParser). Some p) given.2 in
    let with_parser : Option ValueParser → Rule → Rule = λ p r. record r { parser = p } in
    ap (λ (a : Arg). rule_of a) c.value_parser.ensures.others
    ∙ ap (with_parser c.value_parser.result.value_parser) c.named_option.ensures.rule
    ∙ ap (λ (p : Option ValueParser). with_parser p (named_option c.args.name.now)) parser
