use Rattle.std.proofs.Common.{arith}
use Rattle.manifest.proofs.Spans.{base_below, in_order}
use Rattle.manifest.proofs.loading.span.Goals as goal

pub overflow_sub-result : goal.overflow_sub-result
overflow_sub-result c =
    let parts = c.args.parts.now in
    omega (arith, c.requires.base, c.highest.ensures, c.from.ensures, base_below parts, in_order parts c.requires.some)
