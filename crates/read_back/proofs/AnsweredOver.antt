-- The answers of `solo` over cloaked files.
use Rattle.std.proofs.Common.{◌≡◌, ◌∙◌, ◌<◌, ◌-◌, ◌^◌, ◌++◌, ℕ, Bool, List, [], Option, Some, None, Result, Ok, Err, refl, sym, ap, subst, inl, inr, arith}
use Rattle.std.proofs.lemmas.Option.{slice_get_cases}
use Rattle.std.specs.Prelude.{IfSome, length, slice_get}
use Rattle.io_traits.specs.Told.{Grows, GrowsByFront, Rose, SameFiles}
use Rattle.io_traits.specs.declared.shelf.Shelf as shelves
use Rattle.io_traits.specs.declared.sink.Sink as sinks
use Rattle.io_traits.specs.Sinks.{PutsTo}
use Rattle.io_traits.proofs.ToldFacts.{Grows-append, GrowsByFront-append, GrowsByFront-first, Rose-after}
use Rattle.cloak_base.specs.declared.causes.Failed.{Failed}
use Rattle.cloak_model.specs.declared.image.Bundle.{Bundle}
use Rattle.cloak_model.specs.declared.image.KernelImage.{KernelImage}
use Rattle.cloak_model.specs.declared.image.Program.{Program}
use Rattle.cloak_model.specs.DomainAlone.{domain_taken}
use Rattle.cloak_model.specs.Items.{Item}
use Rattle.cloak_model.specs.Parts.{DomainPart}
use Rattle.cloak_model.specs.StoreFault.{store_fault}
use Rattle.command_words.specs.Command as spec
use Rattle.command_parts.specs.declared.refusal.Refusal.{Refusal}
use Rattle.command_parts.specs.declared.refusal.Refusal.TheVariants as refusal
use Rattle.command_parts.specs.declared.status.Status.{Status}
use Rattle.command_parts.specs.declared.status.Status.TheVariants as status
use Rattle.command_parts.specs.NoRun.{NoRun, IsRefused}
use Rattle.command_parts.specs.Order.{FromOldFilesOn}
use Rattle.command_parts.specs.Outside.{Outside, Output, Raised, outside}
use Rattle.command_parts.specs.Refusal.{status_of_refusal}
use Rattle.command_parts.specs.Refusing.{Refuses}
use Rattle.command_parts.specs.Storing.{IsOld, IsSecret, Secret, secret_length}
use Rattle.command_parts.proofs.FaultFacts.{raised}
use Rattle.command_parts.proofs.Refused.{IsUnread}
use Rattle.read_back.specs.Answering.{OnlyShows, program_unfit}
use Rattle.read_back.specs.AnsweringOver.{AsksSoloOver, HasCauseOver, HasSoloOver, IsRefusedOver, SoloOverAnswers, over_text}
use Rattle.read_back.specs.Over.{IsOldRead, LacksOver, OldRead, part_over}
use Rattle.read_back.specs.Reading.{BreaksOff, IsReadTo, ReadsRecord, ShowsRecord, status_of_ending}
use Rattle.read_back.specs.declared.ending.Ending.{Ending}
use Rattle.read_back.specs.declared.ending.Ending.TheVariants as ending
use Rattle.read_back.proofs.Answered.{breaks_since, reads_since}

-- Why nothing is read.

over_refused : {S O : Type 0} (asked : spec.Asked) (r : Refusal) (before after : Outside S O) → IsUnread r →
    IsRefused asked (status_of_refusal r) before after → SoloOverAnswers asked before after (status_of_refusal r)
over_refused asked (refusal.BadBundle fault) before after is refused = refused
over_refused asked refusal.ReadFault before after is refused = inl refused
over_refused asked refusal.NoMemory before after is refused = inl refused
over_refused asked _ before after is refused = absurd is

pub over_refuses : {S O : Type 0} {asked : spec.Asked} {r : Refusal} {before after : Outside S O} {given : Status} →
    IsUnread r → NoRun asked r before.files after.files → before.output.faults < 2 ^ 64 - 1 →
    Refuses before.output after.output r given → SoloOverAnswers asked before after given
over_refuses {S} {O} {asked} {r} {before} {after} {given} is none low (inl shows) =
    subst (λ (x : Status). SoloOverAnswers asked before after x) (sym shows.answer)
    (over_refused asked r before after is
    (record { refused = r; status = refl; no_run = none; line = shows.line_shown; faults = shows.faults }))
over_refuses {S} {O} {asked} {r} {before} {after} {given} is none low (inr front) =
    subst (λ (x : Status). SoloOverAnswers asked before after x) (sym front.answer)
    (inl (record { refused = r; no_run = none; line = front.front_shown; faults = raised front.faults low }))

by_cause : {S O : Type 0} (asked : spec.Asked) (r : Refusal) (before after : Outside S O) →
    HasCauseOver asked r before.files after.files → IsRefusedOver asked (status_of_refusal r) before after →
    SoloOverAnswers asked before after (status_of_refusal r)
by_cause asked refusal.NoSuchDomain before after cause refused = refused
by_cause asked refusal.ReadFault before after cause refused = inr (inl refused)
by_cause asked refusal.NoMemory before after cause refused = inr refused
by_cause asked refusal.ShortSecret before after cause refused = refused
by_cause asked (refusal.BadStore fault) before after cause refused = refused
by_cause asked (refusal.NoRoom domain) before after cause refused = refused
by_cause asked (refusal.Usage fault) before after cause refused = absurd cause.lacks
by_cause asked (refusal.BadBundle fault) before after cause refused = absurd cause.lacks
by_cause asked refusal.NoKey before after cause refused = absurd cause.lacks
by_cause asked refusal.NoPageDraw before after cause refused = absurd cause.lacks
by_cause asked (refusal.BadState fault) before after cause refused = absurd cause.lacks
by_cause asked (refusal.ChangedDomain domain) before after cause refused = absurd cause.lacks
by_cause asked (refusal.ChangedFrame frame) before after cause refused = absurd cause.lacks

pub over_lacks : {S O : Type 0} (asked : spec.Asked) (r : Refusal) (before after : Outside S O) {given : Status} →
    HasCauseOver asked r before.files after.files → OnlyShows before after → before.output.faults < 2 ^ 64 - 1 →
    Refuses before.output after.output r given → SoloOverAnswers asked before after given
over_lacks {S} {O} asked r before after {given} cause only low (inl shows) =
    subst (λ (x : Status). SoloOverAnswers asked before after x) (sym shows.answer)
    (by_cause asked r before after cause (record {
      refused = r;
      status = refl;
      cause = cause;
      only = only;
      line = shows.line_shown;
      faults = shows.faults;
    }))
over_lacks {S} {O} asked r before after {given} cause only low (inr front) =
    subst (λ (x : Status). SoloOverAnswers asked before after x) (sym front.answer)
    (inr (inl (record {
      refused = r;
      cause = cause;
      only = only;
      line = front.front_shown;
      faults = raised front.faults low;
    })))

-- Seen from before the bundle was read.

secret_before : {held now : List ℕ → Option (List ℕ)} {name : List ℕ} {s : Secret} → SameFiles held now →
    IsSecret (now name) s → IsSecret (held name) s
secret_before {held} {now} {name} {s} same is = subst (λ (t : Option (List ℕ)). IsSecret t s) (same name) is

from_before : {held now : List ℕ → Option (List ℕ)} (old : spec.OldFiles) (name : List ℕ) → SameFiles held now →
    FromOldFilesOn now old name → FromOldFilesOn held old name
from_before {held} {now} old name same (inl is) = inl is
from_before {held} {now} old name same (inr later) = inr (later.0, secret_before same later.1, later.2)

pub lacks_before : {held now : List ℕ → Option (List ℕ)} (old : spec.OldFiles) (b : Bundle) (d : ℕ) (p : Program)
    {m n : ℕ} (k : ℕ) (unread : Option (List ℕ)) (r : Refusal) → SameFiles held now → n ≡ m →
    LacksOver now old b d p n k unread r → LacksOver held old b d p m k unread r
lacks_before {held} {now} old b d p {m} {n} k unread refusal.ReadFault same is lacks = (
  subst (λ (x : ℕ). Rose x k) is lacks.0,
  (lacks.1.0, (lacks.1.1.0, from_before old lacks.1.0 same lacks.1.1.1)),
)
lacks_before {held} {now} old b d p {m} {n} k unread refusal.NoMemory same is lacks = lacks ∙ is
lacks_before {held} {now} old b d p {m} {n} k unread refusal.ShortSecret same is lacks = (
  lacks.0 ∙ is,
  subst (λ (t : Option (List ℕ)). IfSome t (λ bytes. length bytes < secret_length)) (same old.secret_name) lacks.1,
)
lacks_before {held} {now} old b d p {m} {n} k unread (refusal.BadStore fault) same is lacks = (
  lacks.0 ∙ is,
  (
    lacks.1.0,
    (
      lacks.1.1.0,
      (
        secret_before same lacks.1.1.1.0,
        subst (λ (t : Option (List ℕ)). IfSome t (λ bytes. store_fault lacks.1.1.0.mac old.counter bytes ≡ Some fault))
            (same old.old_name) lacks.1.1.1.1,
      ),
    ),
  ),
)
lacks_before {held} {now} old b d p {m} {n} k unread (refusal.NoRoom domain) same is lacks = (
  lacks.0 ∙ is,
  (
    lacks.1.0,
    record {
      secret = lacks.1.1.secret;
      is_secret = secret_before same lacks.1.1.is_secret;
      table = lacks.1.1.table;
      is_table = subst (λ (t : Option (List ℕ)). IsOld t lacks.1.1.secret.mac old.counter lacks.1.1.table)
          (same old.old_name) lacks.1.1.is_table;
      lacks = lacks.1.1.lacks;
    },
  ),
)
lacks_before {held} {now} old b d p {m} {n} k unread (refusal.Usage fault) same is lacks = absurd lacks
lacks_before {held} {now} old b d p {m} {n} k unread (refusal.BadBundle fault) same is lacks = absurd lacks
lacks_before {held} {now} old b d p {m} {n} k unread refusal.NoKey same is lacks = absurd lacks
lacks_before {held} {now} old b d p {m} {n} k unread refusal.NoPageDraw same is lacks = absurd lacks
lacks_before {held} {now} old b d p {m} {n} k unread refusal.NoSuchDomain same is lacks = absurd lacks
lacks_before {held} {now} old b d p {m} {n} k unread (refusal.BadState fault) same is lacks = absurd lacks
lacks_before {held} {now} old b d p {m} {n} k unread (refusal.ChangedDomain domain) same is lacks =
    absurd lacks
lacks_before {held} {now} old b d p {m} {n} k unread (refusal.ChangedFrame frame) same is lacks =
    absurd lacks

-- a refusal of files is none for want of a program, and so a cause
pub is_cause : {S O : Type 0} {asked : spec.Asked} (before after : Outside S O) {name : List ℕ} {b : Bundle}
    {old : spec.OldFiles} {d : ℕ} {p : Program} (r : Refusal) → AsksSoloOver asked before.files.held name b old d p →
    LacksOver before.files.held old b d p before.files.reading after.files.reading after.files.unread r →
    HasCauseOver asked r before.files after.files
is_cause {S} {O} {asked} before after {name} {b} {old} {d} {p} refusal.NoSuchDomain asks lacks = absurd lacks
is_cause {S} {O} {asked} before after {name} {b} {old} {d} {p} refusal.ReadFault asks lacks =
    record { record_name = name; bundle = b; old = old; d = d; p = p; asks = asks; lacks = lacks }
is_cause {S} {O} {asked} before after {name} {b} {old} {d} {p} refusal.NoMemory asks lacks =
    record { record_name = name; bundle = b; old = old; d = d; p = p; asks = asks; lacks = lacks }
is_cause {S} {O} {asked} before after {name} {b} {old} {d} {p} refusal.ShortSecret asks lacks =
    record { record_name = name; bundle = b; old = old; d = d; p = p; asks = asks; lacks = lacks }
is_cause {S} {O} {asked} before after {name} {b} {old} {d} {p} (refusal.BadStore fault) asks lacks =
    record { record_name = name; bundle = b; old = old; d = d; p = p; asks = asks; lacks = lacks }
is_cause {S} {O} {asked} before after {name} {b} {old} {d} {p} (refusal.NoRoom domain) asks lacks =
    record { record_name = name; bundle = b; old = old; d = d; p = p; asks = asks; lacks = lacks }
is_cause {S} {O} {asked} before after {name} {b} {old} {d} {p} (refusal.Usage fault) asks lacks = absurd lacks
is_cause {S} {O} {asked} before after {name} {b} {old} {d} {p} (refusal.BadBundle fault) asks lacks = absurd lacks
is_cause {S} {O} {asked} before after {name} {b} {old} {d} {p} refusal.NoKey asks lacks = absurd lacks
is_cause {S} {O} {asked} before after {name} {b} {old} {d} {p} refusal.NoPageDraw asks lacks = absurd lacks
is_cause {S} {O} {asked} before after {name} {b} {old} {d} {p} (refusal.BadState fault) asks lacks = absurd lacks
is_cause {S} {O} {asked} before after {name} {b} {old} {d} {p} (refusal.ChangedDomain domain) asks lacks =
    absurd lacks
is_cause {S} {O} {asked} before after {name} {b} {old} {d} {p} (refusal.ChangedFrame frame) asks lacks =
    absurd lacks

pub old_before : {held now : List ℕ → Option (List ℕ)} {old : spec.OldFiles} {b : Bundle} {d : ℕ} {p : Program}
    {read : OldRead} → SameFiles held now → IsOldRead now old b d p read → IsOldRead held old b d p read
old_before {held} {now} {old} {b} {d} {p} {read} same is = record {
  secret = secret_before same is.secret;
  table = subst (λ (t : Option (List ℕ)). IsOld t read.secret.mac old.counter read.table) (same old.old_name) is.table;
  found = is.found;
}

-- a program that is there
pub not_past : (programs : List Program) (d : ℕ) → d < length programs → (p : Program) × (slice_get programs d ≡ Some p)
not_past programs d low = elim (slice_get_cases programs d).1 [
  | inl has ↦ (has.0, has.2)
  | inr past ↦ (let few = past.0 in absurd (omega (arith, low, few)))
]

-- A record that was read.

over_has : {S O : Type 0} (asked : spec.Asked) (before after : Outside S O) (e : Ending) →
    HasSoloOver asked (status_of_ending e) before after → SoloOverAnswers asked before after (status_of_ending e)
over_has asked before after ending.Unread has = inr (inr has)
over_has asked before after _ has = has

pub over_answers : {S O : Type 0} {asked : spec.Asked} {name : List ℕ} {b : Bundle} {old : spec.OldFiles} {d : ℕ}
    {p : Program} {read : OldRead} {before mid after : Outside S O} {given : Status} →
    AsksSoloOver asked before.files.held name b old d p → IsOldRead before.files.held old b d p read →
    SameFiles before.files.held mid.files.held → mid.files.reading ≡ before.files.reading →
    mid.output ≡ before.output → OnlyShows before after → before.output.faults < 2 ^ 64 - 1 →
    ShowsRecord (program_unfit d b.kernel (part_over d p read)) (over_text read.whole d b.kernel (part_over d p read)) name
    given mid after → SoloOverAnswers asked before after given
over_answers {S} {O} {asked} {name} {b} {old} {d} {p} {read} {before} {mid} {after} {given} asks is held reading output only
    low (inl reads) =
    let r = reads_since before mid after held reading output reads in
    subst (λ (x : Status). SoloOverAnswers asked before after x) (sym r.status)
    (over_has asked before after r.ended (record {
      record_name = name;
      bundle = b;
      old = old;
      d = d;
      p = p;
      asks = asks;
      read = read;
      is = is;
      reads = subst (λ (x : Status). ReadsRecord (program_unfit d b.kernel (part_over d p read))
          (over_text read.whole d b.kernel (part_over d p read)) name x before after) r.status r;
      only = only;
    }))
over_answers {S} {O} {asked} {name} {b} {old} {d} {p} {read} {before} {mid} {after} {given} asks is held reading output only
    low (inr breaks) =
    subst (λ (x : Status). SoloOverAnswers asked before after x) (sym breaks.0)
    (inr (inr (record {
      record_name = name;
      bundle = b;
      old = old;
      d = d;
      p = p;
      asks = asks;
      read = read;
      is = is;
      breaks = breaks_since before mid after held reading output low breaks.1;
      only = only;
    })))

-- A line before what is shown of a record.

pub line_then : {S O : Type 0} (shelf : shelves.Ghosts S) (sink : sinks.Ghosts O)
    {unfit : List Item → Option ℕ} {text : List Item → Option Ending → List ℕ} {name : List ℕ} (line : List ℕ) {s s' : S} {u : Unit}
    {given : Status} (o mid o' : O) → PutsTo sink o mid line (Ok u) →
    ShowsRecord unfit text name given (outside shelf sink s mid) (outside shelf sink s' o') →
    ShowsRecord unfit (λ items ended. line ++ text items ended) name given (outside shelf sink s o) (outside shelf sink s' o')
line_then {S} {O} shelf sink {unfit} {text} {name} line {s} {s'} {u} {given} o mid o' puts (inl r) = inl (record {
  items = r.items;
  ended = r.ended;
  status = r.status;
  read = r.read;
  shown = Grows-append (sink.taken o) (sink.taken mid) (sink.taken o') line (text r.items (Some r.ended)) puts.0 r.shown;
  faults = r.faults ∙ puts.1;
})
line_then {S} {O} shelf sink {unfit} {text} {name} line {s} {s'} {u} {given} o mid o' puts (inr breaks) = inr (
  breaks.0,
  record {
    items = breaks.1.items;
    ended = breaks.1.ended;
    read = breaks.1.read;
    shown = GrowsByFront-append (sink.taken o) (sink.taken mid) (sink.taken o') line (text breaks.1.items breaks.1.ended)
        puts.0 breaks.1.shown;
    faults = Rose-after (sink.faults o) (sink.faults mid) (sink.faults o') puts.1 breaks.1.faults;
  },
)

none_read : (told : Option (List ℕ)) (d : ℕ) (k : KernelImage) (p : DomainPart) (m : ℕ) →
    IsReadTo (program_unfit d k p) told m m [] None
unfolding domain_taken
none_read None d k p m = record { fits = refl; file = tt; counts = refl }
none_read (Some bytes) d k p m = record { fits = refl; file = inl refl; counts = refl }

-- or a front of it
pub line_cut : {S O : Type 0} (shelf : shelves.Ghosts S) (sink : sinks.Ghosts O) (d : ℕ) (k : KernelImage) (p : DomainPart)
    (text : List Item → Option Ending → List ℕ) {name : List ℕ} (line : List ℕ) {s : S} {e : Failed} (o o' : O) →
    PutsTo sink o o' line (Err e) →
    ShowsRecord (program_unfit d k p) (λ items ended. line ++ text items ended) name status.WriteFault
    (outside shelf sink s o) (outside shelf sink s o')
line_cut {S} {O} shelf sink d k p text {name} line {s} {e} o o' puts = inr (
  refl,
  record {
    items = [];
    ended = None;
    read = none_read (shelf.held s name) d k p (shelf.reading_faults s);
    shown = GrowsByFront-first (sink.taken o) (sink.taken o') line (text [] None) puts.0;
    faults = puts.1;
  },
)
