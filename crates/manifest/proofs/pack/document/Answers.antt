use Rattle.std.proofs.Common.{◌∙◌, refl, inl, inr, string_bytes}
use Rattle.manifest.specs.Images.{DocumentReads}
use Rattle.manifest.proofs.pack.document.Goals as goal

pub returns-in_default-clause-read : goal.returns-in_default-clause-read
unfolding DocumentReads
returns-in_default-clause-read c = inl (c.in_default.ensures.cases.0, refl)

pub returns-in-Ok-table_from_str-clause-read : goal.returns-in-Ok-table_from_str-clause-read
unfolding DocumentReads
returns-in-Ok-table_from_str-clause-read c = rw c.in-Ok.ensures.cases.0 at c.in-Ok-table_from_str.ensures.ok

pub returns-in_ok-to_string-in-Err-2-clause-read : goal.returns-in_ok-to_string-in-Err-2-clause-read
unfolding DocumentReads
returns-in_ok-to_string-in-Err-2-clause-read c =
    inr (
      c.in-Ok.ensures.cases.1,
      rw c.in-Ok.ensures.cases.0 at (c.in-Err.ensures.refused (λ memory. (cc (c.is_memory.ensures.1 memory)))),
      (string_bytes c.in_ok-to_string-in-Err-2.field-0, refl),
    )
