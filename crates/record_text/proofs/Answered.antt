-- What a record that was shown is answered.
use Rattle.std.proofs.Common.{◌≡◌, ℕ, List, Option, Some, Result, Ok, Err, Bool, inl, inr, refl, sym, subst}
use Rattle.cloak_base.specs.declared.causes.Failed.{Failed}
use Rattle.cloak_model.specs.Items.{Item}
use Rattle.kernel_report.specs.Putting.{PutsMore}
use Rattle.kernel_report.proofs.PutFacts.{put_behind}
use Rattle.io_traits.specs.Told.{Puts}
use Rattle.command_parts.specs.Outside.{Outside}
use Rattle.command_parts.specs.declared.status.Status.{Status}
use Rattle.command_parts.specs.declared.status.Status.TheVariants as status
use Rattle.read_back.specs.Reading.{IsReadTo, ShowsRecord, never_unfit}
use Rattle.read_back.specs.declared.ending.Ending.{Ending}
use Rattle.record_text.specs.declared.selection.Selection.{Selection}
use Rattle.record_text.specs.Reading.{record_text, status_shown, text_by}

-- a text that was put when nothing had failed before
pub puts_behind : (a b : Option (List ℕ)) (m n : ℕ) (u : Unit) (s : Result Unit Failed) (text : List ℕ) →
    Puts a b m n text s →
    PutsMore (record { taken = a; faults = m; so_far = Ok u }) (record { taken = b; faults = n; so_far = s }) text
puts_behind a b m n u (Ok v) text puts = put_behind refl puts.0 tt puts.1
puts_behind a b m n u (Err e) text puts = put_behind refl tt puts.0 puts.1

-- reading ended so
pub answers : {S O : Type 0} (text : List Item → Option Ending → List ℕ) (name : List ℕ) (before after : Outside S O)
    (items : List Item) (ended : Ending) (so_far : Result Unit Failed) (answer : Status) →
    IsReadTo never_unfit (before.files.held name) before.files.reading after.files.reading items (Some ended) →
    Puts before.output.taken after.output.taken before.output.faults after.output.faults (text items (Some ended)) so_far →
    answer ≡ status_shown ended so_far → ShowsRecord never_unfit text name answer before after
answers {S} {O} text name before after items ended (Ok u) answer read puts is =
    inl (record { items = items; ended = ended; status = is; read = read; shown = puts.0; faults = puts.1 })
answers {S} {O} text name before after items ended (Err failed) answer read puts is =
    inr (is, record { items = items; ended = Some ended; read = read; shown = puts.0; faults = puts.1 })

-- the output failed as items were shown
pub breaks : {S O : Type 0} (text : List Item → Option Ending → List ℕ) (name : List ℕ) (before after : Outside S O)
    (items : List Item) (ended : Option Ending) (failed : Failed) →
    IsReadTo never_unfit (before.files.held name) before.files.reading after.files.reading items ended →
    Puts before.output.taken after.output.taken before.output.faults after.output.faults (text items ended) (Err failed) →
    ShowsRecord never_unfit text name status.WriteFault before after
breaks {S} {O} text name before after items ended failed read puts =
    inr (refl, record { items = items; ended = ended; read = read; shown = puts.0; faults = puts.1 })

-- the text by whether counts are asked for
pub as_asked : {S O : Type 0} (s : Selection) (b : Bool) (name : List ℕ) (answer : Status) (before after : Outside S O) →
    s.counts ≡ b → ShowsRecord never_unfit (text_by b s) name answer before after →
    ShowsRecord never_unfit (record_text s) name answer before after
as_asked {S} {O} s b name answer before after is shows =
    subst (λ (x : Bool). ShowsRecord never_unfit (text_by x s) name answer before after) (sym is) shows
