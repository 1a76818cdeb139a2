use Rattle.std.proofs.Common.{◌≡◌, ◌∙◌, [], inr, refl, subst, sym, map, string_bytes}
use Rattle.std.proofs.lemmas.Result.{IfOk-weaker}
use Rattle.clap.specs.Words.{App, HasKind, app_of, fault_of}
use Rattle.tool_words.specs.ToolForms.{tools_form}
use Rattle.tool_words.proofs.ToolFacts.{asks_found, asks_none, both_found, none_found, not_taken, tools_simple, tools_simple_and_free}
use Rattle.tool_words.proofs.reading.read_tool_words.Goals as goal

pub returns-in-Err : goal.returns-in-Err
returns-in-Err c =
    let words = map string_bytes c.args.words.now in
    let form = app_of c.in_ok-tools_form.field-0 in
    let is : form ≡ tools_form = c.in_ok-tools_form.ensures in
    let has = subst (λ (f : App). HasKind (fault_of f words) c.in-Err.error) is
    (c.in-Err.ensures.kinds (tools_simple_and_free form is)) in
    IfOk-weaker c.not_taken.result _ _ (λ read says. not_taken words c.in-Err.error read has says) c.not_taken.ensures

pub returns-in-Some : goal.returns-in-Some
returns-in-Some c =
    let words = map string_bytes c.args.words.now in
    let form = app_of c.in_ok-tools_form.field-0 in
    let is : form ≡ tools_form = c.in_ok-tools_form.ensures in
    let taken = c.in-Ok.ensures.kinds (tools_simple_and_free form is) in
    let matched = (c.in-Ok.ensures.matches (tools_simple form is)).1 in
    let both = both_found _ _ _ _ _ c.in-Some.ensures.name c.in-Some.ensures.rows in
    record {
      taken = subst (λ (f : App). fault_of f words ≡ []) is taken;
      asks = asks_found form words _ _ _ is (sym matched ∙ both) c.in_ok-asked_with-in-Some.ensures;
    }

pub returns : goal.returns
returns c =
    let words = map string_bytes c.args.words.now in
    let form = app_of c.in_ok-tools_form.field-0 in
    let is : form ≡ tools_form = c.in_ok-tools_form.ensures in
    let matched = (c.in-Ok.ensures.matches (tools_simple form is)).1 in
    let none = none_found _ _ c.in-None.ensures.name in
    inr (asks_none form words is (sym matched ∙ rw none refl))
