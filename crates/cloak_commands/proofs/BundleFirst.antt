-- The bundle is judged before any other file is read.
use Rattle.std.proofs.Common.{◌≡◌, ◌∙◌, ℕ, List, Option, Some, None, refl, sym, ap, subst, inl, inr}
use Rattle.std.specs.Prelude.{IfSome}
use Rattle.io_traits.specs.Told.{Tells}
use Rattle.cloak_model.specs.declared.fault.BundleFault.{BundleFault}
use Rattle.cloak_model.specs.declared.image.Bundle.{Bundle}
use Rattle.cloak_model.specs.Bundle.{IsBundle}
use Rattle.cloak_model.specs.BundleFault.{bundle_fault}
use Rattle.command_words.specs.Command as spec
use Rattle.command_parts.specs.declared.refusal.Refusal.{Refusal}
use Rattle.command_parts.specs.declared.refusal.Refusal.TheVariants as refusal
use Rattle.command_parts.specs.declared.status.Status.{Status}
use Rattle.command_parts.specs.declared.status.Status.TheVariants as status
use Rattle.command_parts.specs.Bundles.{IsInFile}
use Rattle.command_parts.specs.NoRun.{AsksFile, HasCause, IsReadFault, IsRefused, OnlyRefuses}
use Rattle.command_parts.specs.Order.{FromBundleOn, IsNextToRead}
use Rattle.command_parts.specs.Outside.{FilesOutside, Outside}
use Rattle.command_parts.specs.Refusal.{status_of_refusal}
use Rattle.read_back.specs.AnsweringOver.{HasCauseOver}
use Rattle.cloak_commands.specs.Answering.{Answers}
use Rattle.cloak_commands.specs.BundleFirst.{JudgesBundleFirst}
use Rattle.guest_bundle.proofs.Faultless.{no_fault}

-- a file with a fault is no bundle
is_none : (held : List ℕ → Option (List ℕ)) (asked name bytes : List ℕ) (fault : BundleFault) (b : Bundle) →
    asked ≡ name → held name ≡ Some bytes → bundle_fault bytes ≡ Some fault → IsInFile (held asked) b → ⊥
is_none held asked name bytes fault b same told faulty file =
    let here : held asked ≡ Some bytes = ap held same ∙ told in
    no_fault bytes b fault (subst (λ (t : Option (List ℕ)). IfSome t (λ x. IsBundle x b)) here file.is) faulty

-- so it is the first that is read
is_first : {After : Type 0} (held : List ℕ → Option (List ℕ)) (asked name bytes file : List ℕ) (fault : BundleFault) →
    asked ≡ name → held name ≡ Some bytes → bundle_fault bytes ≡ Some fault → FromBundleOn held asked After file →
    file ≡ name
is_first {After} held asked name bytes file fault same told faulty (inl is) = is ∙ same
is_first {After} held asked name bytes file fault same told faulty (inr later) =
    absurd (is_none held asked name bytes fault later.0.0 same told faulty later.0.1)

next_is : (asked : spec.Asked) (held : List ℕ → Option (List ℕ)) (name bytes file : List ℕ) (fault : BundleFault) →
    AsksFile asked name → held name ≡ Some bytes → bundle_fault bytes ≡ Some fault → IsNextToRead asked held file →
    file ≡ name
next_is (spec.Faulty usage) held name bytes file fault asks told faulty next = absurd next
next_is (spec.Run bundle record_name steps randomness) held name bytes file fault asks told faulty next =
    is_first held bundle name bytes file fault (let named : Some bundle ≡ Some name = asks in cc) told faulty next
next_is (spec.View bundle record_name) held name bytes file fault asks told faulty next =
    next ∙ (let named : Some bundle ≡ Some name = asks in cc)
next_is (spec.Solo domain bundle record_name) held name bytes file fault asks told faulty next =
    next ∙ (let named : Some bundle ≡ Some name = asks in cc)
next_is (spec.SoloOver domain bundle record_name old) held name bytes file fault asks told faulty next =
    is_first held bundle name bytes file fault (let named : Some bundle ≡ Some name = asks in cc) told faulty next
next_is (spec.Gen number bundle_name) held name bytes file fault asks told faulty next = absurd next
next_is (spec.Demo number steps) held name bytes file fault asks told faulty next = absurd next
next_is (spec.Stats bundle steps randomness) held name bytes file fault asks told faulty next =
    is_first held bundle name bytes file fault (let named : Some bundle ≡ Some name = asks in cc) told faulty next
next_is (spec.Upgrade old_name new_name) held name bytes file fault asks told faulty next =
    next ∙ (let named : Some old_name ≡ Some name = asks in cc)
next_is (spec.Store names counter steps randomness) held name bytes file fault asks told faulty next =
    is_first held names.bundle name bytes file fault (let named : Some names.bundle ≡ Some name = asks in cc) told faulty
    next
next_is (spec.Freeze names steps randomness) held name bytes file fault asks told faulty next =
    is_first held names.bundle name bytes file fault (let named : Some names.bundle ≡ Some name = asks in cc) told faulty
    next
next_is (spec.Thaw names steps randomness) held name bytes file fault asks told faulty next =
    is_first held names.bundle name bytes file fault (let named : Some names.bundle ≡ Some name = asks in cc) told faulty
    next

-- the reason of the status for a fault of reading
read_fault : {S : Type 0} (asked : spec.Asked) (r : Refusal) (before after : FilesOutside S) →
    status.ReadFault ≡ status_of_refusal r → HasCause asked r before after → IsReadFault asked before after
read_fault {S} asked refusal.ReadFault before after is cause = cause
read_fault {S} asked (refusal.Usage fault) before after is cause = absurd (let no : status.ReadFault ≡ status.Usage = is in cc)
read_fault {S} asked (refusal.BadBundle fault) before after is cause =
    absurd (let no : status.ReadFault ≡ status.BadBundle = is in cc)
read_fault {S} asked refusal.NoMemory before after is cause = absurd (let no : status.ReadFault ≡ status.NoMemory = is in cc)
read_fault {S} asked refusal.NoKey before after is cause = absurd (let no : status.ReadFault ≡ status.NoRandom = is in cc)
read_fault {S} asked refusal.NoPageDraw before after is cause =
    absurd (let no : status.ReadFault ≡ status.NoRandom = is in cc)
read_fault {S} asked refusal.NoSuchDomain before after is cause = absurd (let no : status.ReadFault ≡ status.Usage = is in cc)
read_fault {S} asked refusal.ShortSecret before after is cause =
    absurd (let no : status.ReadFault ≡ status.BadStore = is in cc)
read_fault {S} asked (refusal.BadStore fault) before after is cause =
    absurd (let no : status.ReadFault ≡ status.BadStore = is in cc)
read_fault {S} asked (refusal.NoRoom domain) before after is cause =
    absurd (let no : status.ReadFault ≡ status.BadStore = is in cc)
read_fault {S} asked (refusal.BadState fault) before after is cause =
    absurd (let no : status.ReadFault ≡ status.BadState = is in cc)
read_fault {S} asked (refusal.ChangedDomain domain) before after is cause =
    absurd (let no : status.ReadFault ≡ status.BadState = is in cc)
read_fault {S} asked (refusal.ChangedFrame frame) before after is cause =
    absurd (let no : status.ReadFault ≡ status.BadState = is in cc)

-- The words were refused with that status, of a bundle with a fault.
of_refused : {S O : Type 0} (asked : spec.Asked) (before after : Outside S O) (name bytes : List ℕ) (fault : BundleFault) →
    AsksFile asked name → before.files.held name ≡ Some bytes → bundle_fault bytes ≡ Some fault →
    IsRefused asked status.ReadFault before after → Tells after.files.unread name
of_refused {S} {O} asked before after name bytes fault asks told faulty given =
    let cause = read_fault asked given.refused before.files after.files given.status given.no_run.cause in
    subst (λ (n : List ℕ). Tells after.files.unread n)
    (next_is asked before.files.held name bytes cause.name fault asks told faulty cause.next) cause.unread

-- With that status the bundle was read before the files of the earlier run, so it has no fault.
no_over : {S : Type 0} (d : ℕ) (n r : List ℕ) (old : spec.OldFiles) (name bytes : List ℕ) (fault : BundleFault)
    (refused : Refusal) (before after : FilesOutside S) → AsksFile (spec.SoloOver d n r old) name →
    before.held name ≡ Some bytes → bundle_fault bytes ≡ Some fault → status.ReadFault ≡ status_of_refusal refused →
    HasCauseOver (spec.SoloOver d n r old) refused before after → ⊥
no_over {S} d n r old name bytes fault refusal.NoSuchDomain before after asks told faulty is cause =
    let no : status.ReadFault ≡ status.Usage = is in cc
no_over {S} d n r old name bytes fault refusal.ReadFault before after asks told faulty is cause =
    let named : Some n ≡ Some name = asks in
    let soloed : spec.SoloOver d n r old ≡ spec.SoloOver cause.d cause.asks.bundle_name cause.record_name cause.old =
    cause.asks.solo in
    is_none before.held cause.asks.bundle_name name bytes fault cause.bundle (cc) told faulty cause.asks.file
no_over {S} d n r old name bytes fault refusal.NoMemory before after asks told faulty is cause =
    let no : status.ReadFault ≡ status.NoMemory = is in cc
no_over {S} d n r old name bytes fault refusal.ShortSecret before after asks told faulty is cause =
    let no : status.ReadFault ≡ status.BadStore = is in cc
no_over {S} d n r old name bytes fault (refusal.BadStore other) before after asks told faulty is cause =
    let no : status.ReadFault ≡ status.BadStore = is in cc
no_over {S} d n r old name bytes fault (refusal.NoRoom domain) before after asks told faulty is cause =
    let no : status.ReadFault ≡ status.BadStore = is in cc
no_over {S} d n r old name bytes fault (refusal.Usage other) before after asks told faulty is cause = cause.lacks
no_over {S} d n r old name bytes fault (refusal.BadBundle other) before after asks told faulty is cause = cause.lacks
no_over {S} d n r old name bytes fault refusal.NoKey before after asks told faulty is cause = cause.lacks
no_over {S} d n r old name bytes fault refusal.NoPageDraw before after asks told faulty is cause = cause.lacks
no_over {S} d n r old name bytes fault (refusal.BadState other) before after asks told faulty is cause = cause.lacks
no_over {S} d n r old name bytes fault (refusal.ChangedDomain domain) before after asks told faulty is cause = cause.lacks
no_over {S} d n r old name bytes fault (refusal.ChangedFrame frame) before after asks told faulty is cause = cause.lacks

of_read : {S O : Type 0} (asked : spec.Asked) (before after : Outside S O) → Answers asked before after status.ReadFault →
    (name bytes : List ℕ) (fault : BundleFault) → AsksFile asked name → before.files.held name ≡ Some bytes →
    bundle_fault bytes ≡ Some fault → Tells after.files.unread name
of_read {S} {O} (spec.Faulty usage) before after given name bytes fault asks told faulty =
    absurd (let no : None ≡ Some name = asks in cc)
of_read {S} {O} (spec.Run bundle record_name steps randomness) before after given name bytes fault asks told faulty =
    of_refused (spec.Run bundle record_name steps randomness) before after name bytes fault asks told faulty given
of_read {S} {O} (spec.View bundle record_name) before after (inl given) name bytes fault asks told faulty =
    of_refused (spec.View bundle record_name) before after name bytes fault asks told faulty given
of_read {S} {O} (spec.View bundle record_name) before after (inr given) name bytes fault asks told faulty =
    let named : Some bundle ≡ Some name = asks in
    let viewed : spec.View bundle record_name ≡ spec.View given.asks.bundle_name given.record_name = given.asks.view in
    absurd (is_none before.files.held given.asks.bundle_name name bytes fault given.bundle (cc) told faulty given.asks.file)
of_read {S} {O} (spec.Solo domain bundle record_name) before after (inl given) name bytes fault asks told faulty =
    of_refused (spec.Solo domain bundle record_name) before after name bytes fault asks told faulty given
of_read {S} {O} (spec.Solo domain bundle record_name) before after (inr given) name bytes fault asks told faulty =
    let named : Some bundle ≡ Some name = asks in
    let soloed : spec.Solo domain bundle record_name ≡ spec.Solo given.d given.asks.bundle_name given.record_name =
    given.asks.solo in
    absurd (is_none before.files.held given.asks.bundle_name name bytes fault given.bundle (cc) told faulty given.asks.file)
of_read {S} {O} (spec.SoloOver domain bundle record_name old) before after (inl given) name bytes fault asks told faulty =
    of_refused (spec.SoloOver domain bundle record_name old) before after name bytes fault asks told faulty given
of_read {S} {O} (spec.SoloOver domain bundle record_name old) before after (inr (inl given)) name bytes fault asks told
    faulty =
    absurd (no_over domain bundle record_name old name bytes fault given.refused before.files after.files asks told faulty
    given.status given.cause)
of_read {S} {O} (spec.SoloOver domain bundle record_name old) before after (inr (inr given)) name bytes fault asks told
    faulty =
    let named : Some bundle ≡ Some name = asks in
    let soloed : spec.SoloOver domain bundle record_name old
    ≡ spec.SoloOver given.d given.asks.bundle_name given.record_name given.old = given.asks.solo in
    absurd (is_none before.files.held given.asks.bundle_name name bytes fault given.bundle (cc) told faulty given.asks.file)
of_read {S} {O} (spec.Gen number bundle_name) before after given name bytes fault asks told faulty = absurd given
of_read {S} {O} (spec.Demo number steps) before after given name bytes fault asks told faulty =
    absurd (let no : None ≡ Some name = asks in cc)
of_read {S} {O} (spec.Stats bundle steps randomness) before after given name bytes fault asks told faulty =
    of_refused (spec.Stats bundle steps randomness) before after name bytes fault asks told faulty given
of_read {S} {O} (spec.Upgrade old_name new_name) before after given name bytes fault asks told faulty =
    of_refused (spec.Upgrade old_name new_name) before after name bytes fault asks told faulty given
of_read {S} {O} (spec.Store names counter steps randomness) before after given name bytes fault asks told faulty =
    of_refused (spec.Store names counter steps randomness) before after name bytes fault asks told faulty given
of_read {S} {O} (spec.Freeze names steps randomness) before after given name bytes fault asks told faulty =
    of_refused (spec.Freeze names steps randomness) before after name bytes fault asks told faulty given
of_read {S} {O} (spec.Thaw names steps randomness) before after given name bytes fault asks told faulty =
    of_refused (spec.Thaw names steps randomness) before after name bytes fault asks told faulty given

pub judges_bundle_first : {S O : Type 0} (asked : spec.Asked) (answer : Status) (before after : Outside S O) →
    Answers asked before after answer → JudgesBundleFirst asked answer before after
judges_bundle_first {S} {O} asked answer before after given = λ name bytes fault asks told faulty is.
    of_read asked before after (subst (λ (x : Status). Answers asked before after x) is given) name bytes fault asks told
    faulty
