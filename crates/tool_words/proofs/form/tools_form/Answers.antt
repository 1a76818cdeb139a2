use Rattle.std.proofs.Common.{◌≡◌, ◌∙◌, ap}
use Rattle.std.proofs.lemmas.Result.{IfOk-weaker}
use Rattle.clap.specs.Words.{App, Shape, with_subcommand}
use Rattle.tool_words.specs.ToolForms.{asm_form, disasm_form, draw_form, explain_form, pack_form, show_form, trace_form}
use Rattle.tool_words.proofs.form.tools_form.Goals as goal

behind : (sub : Shape) {a b : App} → a ≡ b → with_subcommand a sub ≡ with_subcommand b sub
behind sub same = ap (λ (a : App). with_subcommand a sub) same

pub returns : goal.returns
returns c =
    let asm = c.in_ok-asm.ensures asm_form c.in_ok-asm_form.ensures.added ∙ behind asm_form.top c.top.ensures in
    let disasm = c.in_ok-disasm.ensures disasm_form c.in_ok-disasm_form.ensures.added ∙ behind disasm_form.top asm in
    let pack = c.in_ok-pack.ensures pack_form c.in_ok-pack_form.ensures.added ∙ behind pack_form.top disasm in
    let show = c.in_ok-show.ensures show_form c.in_ok-show_form.ensures.added ∙ behind show_form.top pack in
    let trace = c.in_ok-trace.ensures trace_form c.in_ok-trace_form.ensures.added ∙ behind trace_form.top show in
    let draw = c.in_ok-draw.ensures draw_form c.in_ok-draw_form.ensures.added ∙ behind draw_form.top trace in
    IfOk-weaker c.with_command-7.result _ _
    (λ tools adds. adds explain_form c.in_ok-explain_form.ensures.added ∙ behind explain_form.top draw)
    c.with_command-7.ensures
