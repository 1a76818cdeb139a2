use Rattle.std.proofs.Common.{◌∙◌}
use Rattle.guest_kernel.proofs.Puts.{then, handed, text_is, number_is, line_is}
use Rattle.guest_kernel.proofs.Puts.{failed_number, failed_harts, failed_programs, failed_frames, failed_bytes}
use Rattle.guest_kernel.proofs.summary.put_summary.Goals as goal

pub returns-in_err-put_named : goal.returns-in_err-put_named
returns-in_err-put_named g c =
    (handed c.from_residual.result _ c.from_residual.ensures.1 (failed_number c.args.n c.in_err-put_named.ensures)).puts

pub returns-in_err-put_named-2 : goal.returns-in_err-put_named-2
returns-in_err-put_named-2 g c =
    (handed c.from_residual-in_err-put_named-2.result _ c.from_residual-in_err-put_named-2.ensures.1
    (failed_harts c.args.n
    (then c.in_ok-put_named.ensures
    (number_is _ _ c.in_err-put_named-2.ensures (c.from.ensures ∙ c.harts.ensures))))).puts

pub returns-in_err-put_named-3 : goal.returns-in_err-put_named-3
returns-in_err-put_named-3 g c =
    (handed c.from_residual-in_err-put_named-3.result _ c.from_residual-in_err-put_named-3.ensures.1
    (failed_programs c.args.n
    (then
    (then c.in_ok-put_named.ensures (number_is _ _ c.in_ok-put_named-2.ensures (c.from.ensures ∙ c.harts.ensures)))
    (number_is _ _ c.in_err-put_named-3.ensures (c.from-2.ensures ∙ c.programs.ensures))))).puts

pub returns-in_err-put_named-4 : goal.returns-in_err-put_named-4
returns-in_err-put_named-4 g c =
    (handed c.from_residual-in_err-put_named-4.result _ c.from_residual-in_err-put_named-4.ensures.1
    (failed_frames c.args.n
    (then
    (then
    (then c.in_ok-put_named.ensures (number_is _ _ c.in_ok-put_named-2.ensures (c.from.ensures ∙ c.harts.ensures)))
    (number_is _ _ c.in_ok-put_named-3.ensures (c.from-2.ensures ∙ c.programs.ensures)))
    c.in_err-put_named-4.ensures))).puts

pub returns-in_err-put_named-5 : goal.returns-in_err-put_named-5
returns-in_err-put_named-5 g c =
    (handed c.from_residual-in_err-put_named-5.result _ c.from_residual-in_err-put_named-5.ensures.1
    (failed_bytes c.args.n
    (then
    (then
    (then
    (then c.in_ok-put_named.ensures (number_is _ _ c.in_ok-put_named-2.ensures (c.from.ensures ∙ c.harts.ensures)))
    (number_is _ _ c.in_ok-put_named-3.ensures (c.from-2.ensures ∙ c.programs.ensures)))
    c.in_ok-put_named-4.ensures)
    (number_is _ _ c.in_err-put_named-5.ensures c.file_length.ensures)))).puts

pub returns : goal.returns
returns g c =
    (text_is
    (then
    (then
    (then
    (then
    (then c.in_ok-put_named.ensures (number_is _ _ c.in_ok-put_named-2.ensures (c.from.ensures ∙ c.harts.ensures)))
    (number_is _ _ c.in_ok-put_named-3.ensures (c.from-2.ensures ∙ c.programs.ensures)))
    c.in_ok-put_named-4.ensures)
    (number_is _ _ c.in_ok-put_named-5.ensures c.file_length.ensures))
    c.put_text.ensures)
    (line_is c.args.n)).puts
