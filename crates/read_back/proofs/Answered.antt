-- The answers of `view` and `solo`.
use Rattle.std.proofs.Common.{◌≡◌, ◌<◌, ◌-◌, ◌^◌, ℕ, List, Option, Some, refl, sym, ap, subst, ◌∙◌, inl, inr}
use Rattle.io_traits.specs.Told.{SameFiles, Grows, GrowsByFront, Rose}
use Rattle.cloak_model.specs.declared.image.Bundle.{Bundle}
use Rattle.cloak_model.specs.declared.image.Program.{Program}
use Rattle.cloak_model.specs.Items.{Item}
use Rattle.cloak_model.specs.DomainAlone.{started_part}
use Rattle.command_words.specs.Command as spec
use Rattle.command_parts.specs.declared.refusal.Refusal.{Refusal}
use Rattle.command_parts.specs.declared.refusal.Refusal.TheVariants as refusal
use Rattle.command_parts.specs.declared.status.Status.{Status}
use Rattle.command_parts.specs.NoRun.{NoRun, IsRefused}
use Rattle.command_parts.specs.Outside.{Outside, Output, Raised}
use Rattle.command_parts.specs.Refusal.{status_of_refusal}
use Rattle.command_parts.specs.Refusing.{Refuses}
use Rattle.command_parts.proofs.FaultFacts.{raised}
use Rattle.command_parts.proofs.Refused.{IsUnread}
use Rattle.read_back.specs.Answering.{AsksView, AsksSolo, OnlyShows, HasView, HasSolo, ViewAnswers, SoloAnswers, viewed_unfit, viewed_text, program_unfit, program_text}
use Rattle.read_back.specs.Reading.{IsReadTo, ReadsRecord, BreaksOff, ShowsRecord, status_of_ending}
use Rattle.read_back.specs.declared.ending.Ending.{Ending}
use Rattle.read_back.specs.declared.ending.Ending.TheVariants as ending

-- Why nothing is read.

view_refused : {S O : Type 0} (asked : spec.Asked) (r : Refusal) (before after : Outside S O) → IsUnread r →
    IsRefused asked (status_of_refusal r) before after → ViewAnswers asked before after (status_of_refusal r)
view_refused asked (refusal.BadBundle fault) before after is refused = refused
view_refused asked refusal.ReadFault before after is refused = inl refused
view_refused asked refusal.NoMemory before after is refused = refused
view_refused asked _ before after is refused = absurd is

pub view_refuses : {S O : Type 0} {asked : spec.Asked} {r : Refusal} {before after : Outside S O} {given : Status} →
    IsUnread r → NoRun asked r before.files after.files → before.output.faults < 2 ^ 64 - 1 →
    Refuses before.output after.output r given → ViewAnswers asked before after given
view_refuses {S} {O} {asked} {r} {before} {after} {given} is none low (inl shows) =
    subst (λ (x : Status). ViewAnswers asked before after x) (sym shows.answer)
    (view_refused asked r before after is
    (record { refused = r; status = refl; no_run = none; line = shows.line_shown; faults = shows.faults }))
view_refuses {S} {O} {asked} {r} {before} {after} {given} is none low (inr front) =
    subst (λ (x : Status). ViewAnswers asked before after x) (sym front.answer)
    (inl (record { refused = r; no_run = none; line = front.front_shown; faults = raised front.faults low }))

-- or the program that is asked for is not there
abbrev pub IsUnreadOrNone : Refusal → Type 0
IsUnreadOrNone (refusal.BadBundle fault) = Unit {0}
IsUnreadOrNone refusal.ReadFault = Unit {0}
IsUnreadOrNone refusal.NoMemory = Unit {0}
IsUnreadOrNone refusal.NoSuchDomain = Unit {0}
IsUnreadOrNone _ = ⊥

pub unread_or_none : (r : Refusal) → IsUnread r → IsUnreadOrNone r
unread_or_none (refusal.BadBundle fault) is = tt
unread_or_none refusal.ReadFault is = tt
unread_or_none refusal.NoMemory is = tt
unread_or_none _ is = absurd is

solo_refused : {S O : Type 0} (asked : spec.Asked) (r : Refusal) (before after : Outside S O) → IsUnreadOrNone r →
    IsRefused asked (status_of_refusal r) before after → SoloAnswers asked before after (status_of_refusal r)
solo_refused asked (refusal.BadBundle fault) before after is refused = refused
solo_refused asked refusal.ReadFault before after is refused = inl refused
solo_refused asked refusal.NoMemory before after is refused = refused
solo_refused asked refusal.NoSuchDomain before after is refused = refused
solo_refused asked _ before after is refused = absurd is

pub solo_refuses : {S O : Type 0} {asked : spec.Asked} {r : Refusal} {before after : Outside S O} {given : Status} →
    IsUnreadOrNone r → NoRun asked r before.files after.files → before.output.faults < 2 ^ 64 - 1 →
    Refuses before.output after.output r given → SoloAnswers asked before after given
solo_refuses {S} {O} {asked} {r} {before} {after} {given} is none low (inl shows) =
    subst (λ (x : Status). SoloAnswers asked before after x) (sym shows.answer)
    (solo_refused asked r before after is
    (record { refused = r; status = refl; no_run = none; line = shows.line_shown; faults = shows.faults }))
solo_refuses {S} {O} {asked} {r} {before} {after} {given} is none low (inr front) =
    subst (λ (x : Status). SoloAnswers asked before after x) (sym front.answer)
    (inl (record { refused = r; no_run = none; line = front.front_shown; faults = raised front.faults low }))

-- A record that was read, seen from before the bundle was read.

pub read_since : (unfit : List Item → Option ℕ) (told was : Option (List ℕ)) (m n k : ℕ) (items : List Item)
    (ended : Option Ending) → told ≡ was → m ≡ n → IsReadTo unfit told m k items ended → IsReadTo unfit was n k items ended
read_since unfit told was m n k items ended same_told same_count read =
    subst (λ (t : Option (List ℕ)). IsReadTo unfit t n k items ended) same_told
    (subst (λ (c : ℕ). IsReadTo unfit told c k items ended) same_count read)

pub reads_since : {S O : Type 0} {unfit : List Item → Option ℕ} {text : List Item → Option Ending → List ℕ}
    {name : List ℕ} {given : Status} (before mid after : Outside S O) → SameFiles before.files.held mid.files.held →
    mid.files.reading ≡ before.files.reading → mid.output ≡ before.output →
    ReadsRecord unfit text name given mid after → ReadsRecord unfit text name given before after
reads_since {S} {O} {unfit} {text} {name} {given} before mid after held reading output r = record {
  items = r.items;
  ended = r.ended;
  status = r.status;
  read = read_since unfit (mid.files.held name) (before.files.held name) mid.files.reading before.files.reading
      after.files.reading r.items (Some r.ended) (held name) reading r.read;
  shown = subst (λ (o : Output O). Grows o.taken after.output.taken (text r.items (Some r.ended))) output r.shown;
  faults = r.faults ∙ ap (λ (o : Output O). o.faults) output;
}

pub breaks_since : {S O : Type 0} {unfit : List Item → Option ℕ} {text : List Item → Option Ending → List ℕ}
    {name : List ℕ} (before mid after : Outside S O) → SameFiles before.files.held mid.files.held →
    mid.files.reading ≡ before.files.reading → mid.output ≡ before.output → before.output.faults < 2 ^ 64 - 1 →
    BreaksOff Rose unfit text name mid after → BreaksOff Raised unfit text name before after
breaks_since {S} {O} {unfit} {text} {name} before mid after held reading output low r = record {
  items = r.items;
  ended = r.ended;
  read = read_since unfit (mid.files.held name) (before.files.held name) mid.files.reading before.files.reading
      after.files.reading r.items r.ended (held name) reading r.read;
  shown = subst (λ (o : Output O). GrowsByFront o.taken after.output.taken (text r.items r.ended)) output r.shown;
  faults = raised (subst (λ (o : Output O). Rose o.faults after.output.faults) output r.faults) low;
}

-- the status of an ending says which

view_has : {S O : Type 0} (asked : spec.Asked) (before after : Outside S O) (e : Ending) →
    HasView asked (status_of_ending e) before after → ViewAnswers asked before after (status_of_ending e)
view_has asked before after ending.Unread has = inr has
view_has asked before after _ has = has

solo_has : {S O : Type 0} (asked : spec.Asked) (before after : Outside S O) (e : Ending) →
    HasSolo asked (status_of_ending e) before after → SoloAnswers asked before after (status_of_ending e)
solo_has asked before after ending.Unread has = inr has
solo_has asked before after _ has = has

pub view_answers : {S O : Type 0} {asked : spec.Asked} {name : List ℕ} {bundle : Bundle} {before mid after : Outside S O}
    {given : Status} → AsksView asked before.files.held name bundle → SameFiles before.files.held mid.files.held →
    mid.files.reading ≡ before.files.reading → mid.output ≡ before.output → OnlyShows before after →
    before.output.faults < 2 ^ 64 - 1 →
    ShowsRecord (viewed_unfit bundle.kernel) (viewed_text bundle.kernel) name given mid after →
    ViewAnswers asked before after given
view_answers {S} {O} {asked} {name} {bundle} {before} {mid} {after} {given} asks held reading output only low
    (inl reads) =
    let r = reads_since before mid after held reading output reads in
    subst (λ (x : Status). ViewAnswers asked before after x) (sym r.status)
    (view_has asked before after r.ended (record {
      record_name = name;
      bundle = bundle;
      asks = asks;
      reads = subst (λ (x : Status). ReadsRecord (viewed_unfit bundle.kernel) (viewed_text bundle.kernel) name x before after)
          r.status r;
      only = only;
    }))
view_answers {S} {O} {asked} {name} {bundle} {before} {mid} {after} {given} asks held reading output only low
    (inr breaks) =
    subst (λ (x : Status). ViewAnswers asked before after x) (sym breaks.0)
    (inr (record {
      record_name = name;
      bundle = bundle;
      asks = asks;
      breaks = breaks_since before mid after held reading output low breaks.1;
      only = only;
    }))

pub solo_answers : {S O : Type 0} {asked : spec.Asked} {name : List ℕ} {bundle : Bundle} {d : ℕ} {p : Program}
    {before mid after : Outside S O} {given : Status} → AsksSolo asked before.files.held name bundle d p →
    SameFiles before.files.held mid.files.held → mid.files.reading ≡ before.files.reading →
    mid.output ≡ before.output → OnlyShows before after → before.output.faults < 2 ^ 64 - 1 →
    ShowsRecord (program_unfit d bundle.kernel (started_part d p)) (program_text d bundle.kernel (started_part d p)) name
    given mid after → SoloAnswers asked before after given
solo_answers {S} {O} {asked} {name} {bundle} {d} {p} {before} {mid} {after} {given} asks held reading output only low
    (inl reads) =
    let r = reads_since before mid after held reading output reads in
    subst (λ (x : Status). SoloAnswers asked before after x) (sym r.status)
    (solo_has asked before after r.ended (record {
      record_name = name;
      bundle = bundle;
      d = d;
      p = p;
      asks = asks;
      reads = subst (λ (x : Status). ReadsRecord (program_unfit d bundle.kernel (started_part d p))
          (program_text d bundle.kernel (started_part d p)) name x before after) r.status r;
      only = only;
    }))
solo_answers {S} {O} {asked} {name} {bundle} {d} {p} {before} {mid} {after} {given} asks held reading output only low
    (inr breaks) =
    subst (λ (x : Status). SoloAnswers asked before after x) (sym breaks.0)
    (inr (record {
      record_name = name;
      bundle = bundle;
      d = d;
      p = p;
      asks = asks;
      breaks = breaks_since before mid after held reading output low breaks.1;
      only = only;
    }))
