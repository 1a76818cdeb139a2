-- What is told of contexts, and of the page tables of spaces.
use Rattle.std.specs.Prelude.{ℕ, Bool, List, slice_index_or, slice_set, replicate, Option, Some, None, is_none, if◌then◌else◌}
use Rattle.replayed_run.specs.declared.contexts.FirstTable.{FirstTable}
use Rattle.replayed_run.specs.declared.contexts.ToldContext.{ToldContext}
use Rattle.replayed_run.specs.declared.contexts.ToldContexts.{ToldContexts}

abbrev pub no_contexts : ToldContexts
no_contexts = record { told = replicate 32 None; tables = replicate 32 None }

abbrev pub told_of : ToldContexts → ℕ → Option ToldContext
told_of c ctx = slice_index_or c.told ctx None

abbrev pub table_of : ToldContexts → ℕ → Option FirstTable
table_of c space = slice_index_or c.tables space None

-- the first page table of a space
abbrev pub first_set : List (Option FirstTable) → ℕ → FirstTable → List (Option FirstTable)
first_set tables space first =
    if is_none (slice_index_or tables space None) then slice_set tables space (Some first) else tables

-- a context of a space was resumed in this step, under this page table
abbrev pub resumed_at : ToldContexts → ℕ → ℕ → ℕ → ℕ → ToldContexts
resumed_at c ctx space satp step = record {
  told = slice_set c.told ctx (Some (record { resumed = step; ended = None; space = space }));
  tables = first_set c.tables space (record { satp = satp; step = step });
}

-- a context ended in this step, and its space with it if no other is in it
abbrev pub ended_at : ToldContexts → ℕ → ToldContext → ℕ → Bool → ToldContexts
ended_at c ctx was step alone = record {
  told = slice_set c.told ctx (Some (record was { ended = Some step }));
  tables = if alone then slice_set c.tables was.space None else c.tables;
}
