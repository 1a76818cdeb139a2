-- The field says only that the record is the last file in some way. An entailment is a proposition, so the way may be
-- opened in front of the walk that Rattle made.
use Rattle.std.proofs.Common.{◌≡◌, false, refl}
use seplogic.Bi.Basic.{Entails-prop}
use mathlib.Core.Logic.{∥∥₁_elim}
use base.Logic.{via, mono_r}
use denote.Triple.Entry.{on_entry}
use borrow.Fn.Kinds.{sig_of}
use contract.Monad.{fact_mono}
use Rattle.run_command.proofs.pen.RecordPen.has_failed.Statement.{statement}
use Rattle.run_command.proofs.pen.RecordPen.has_failed.Lts as lts
use Rattle.run_command.proofs.pen.RecordPen.has_failed.Reads as reads
use Rattle.run_command.proofs.pen.RecordPen.has_failed.Tie as tie

pub has_failed_spec : {M : Type 1} → statement M
has_failed_spec {M} =
    tie.close (λ S L g d w met 𝓤 𝓛 𝓣 y.
    let self = y.0.3.0 in
    let entry = on_entry 𝓛 (sig_of 4 (lts.ps S L g d) (lts.r S L g d)) y.0.0 y.0.1 y.0.3 y.0.4 in
    ∥∥₁_elim self.now.last (Entails-prop 𝓤.op _ _) (λ last.
    via 𝓤 _
    (mono_r 𝓤 entry
    (fact_mono 𝓤 _ (self.now.failed ≡ false → g.is_last self.now.shelf.now self.now.name.now) (λ _. last)))
    (lts.spec S L g d (λ κs a. a.0.now.failed ≡ false → g.is_last a.0.now.shelf.now a.0.now.name.now)
    (reads.Post S L g d) (λ c. (refl, c.requires)) 𝓤 𝓛 𝓣 y)))
