-- What a script of a program's step is: it asks of its own pages, its ends are of one kind, and nothing is asked after
-- a change. What holds of each question holds of a script of which these hold.
use Rattle.std.proofs.Common.{◌≡◌, ℕ}
use Rattle.cloak_base.specs.declared.names.PageId.{PageId}
use Rattle.cloak_model.specs.declared.answer.Answer.{Answer}
use Rattle.cloak_model.specs.declared.answer.Answer.TheVariants.{Stopped}
use Rattle.cloak_model.specs.Script.{Question, Reach, Get, Put, Clear, Change, Write, Copy, Forget, Script, Gives, Asks, Reads, Changes, ◌>>=◌}
use Rattle.script_fold.proofs.Aligned.{IsAligned}

-- A question of domain d: what it stores elsewhere is at a multiple of its width.
abbrev pub IsOf : ℕ → Question → Type 0
IsOf d (Reach q va kind) = q.domain ≡ d
IsOf d (Get va width) = Unit {0}
IsOf d (Put va width value) = IsAligned va width
IsOf d (Clear domain marked) = domain ≡ d

-- a change of domain d
abbrev pub Alters : ℕ → Change → Type 0
Alters d (Write q at width value) = q.domain ≡ d
Alters d (Copy domain from to) = domain ≡ d
Alters d (Forget domain resource) = domain ≡ d

-- all that a script asks, reads and changes is of domain d
unfoldable pub IsOwn : {A : Type 0} → ℕ → Script A → Type 0
IsOwn d (Gives a) = Unit {0}
IsOwn d (Asks question more) = IsOf d question × ((answer : Answer) → IsOwn d (more answer))
IsOwn d (Reads q at width more) = (q.domain ≡ d) × ((value : ℕ) → IsOwn d (more value))
IsOwn d (Changes change more) = Alters d change × IsOwn d more

pub own_then : {A B : Type 0} (d : ℕ) (s : Script A) (next : A → Script B) → IsOwn d s → ((a : A) → IsOwn d (next a)) →
    IsOwn d (s >>= next)
unfolding IsOwn
own_then d (Gives a) next own second = second a
own_then d (Asks question more) next own second = (own.0, λ answer. own_then d (more answer) next (own.1 answer) second)
own_then d (Reads q at width more) next own second = (own.0, λ value. own_then d (more value) next (own.1 value) second)
own_then d (Changes change more) next own second = (own.0, own_then d more next own.1 second)

-- What holds of each end of a script, of one that was stopped, and of one after a change.
pub record EndClaims (A : Type 0) : Type 1 where
  pub each : A → Type 0
  pub stopped : A → Type 0
  pub changed : A → Type 0

-- the script is at its end, and was stopped
unfoldable pub IsStop : {A : Type 0} → EndClaims A → Script A → Type 0
IsStop e (Gives a) = e.stopped a
IsStop e (Asks question more) = ⊥
IsStop e (Reads q at width more) = ⊥
IsStop e (Changes change more) = ⊥

-- each end is of this kind, and an answer that stops is the last
unfoldable pub EndsSo : {A : Type 0} → EndClaims A → Script A → Type 0
EndsSo e (Gives a) = e.each a
EndsSo e (Asks question more) = ((answer : Answer) → EndsSo e (more answer)) × IsStop e (more Stopped)
EndsSo e (Reads q at width more) = (value : ℕ) → EndsSo e (more value)
EndsSo e (Changes change more) = EndsSo e more

pub stop_then : {A B : Type 0} (e : EndClaims A) (f : EndClaims B) (s : Script A) (next : A → Script B) →
    IsStop e s → ((a : A) → e.stopped a → IsStop f (next a)) → IsStop f (s >>= next)
unfolding IsStop
stop_then e f (Gives a) next is stops = stops a is
stop_then e f (Asks question more) next is stops = absurd is
stop_then e f (Reads q at width more) next is stops = absurd is
stop_then e f (Changes change more) next is stops = absurd is

pub ends_then : {A B : Type 0} (e : EndClaims A) (f : EndClaims B) (s : Script A) (next : A → Script B) →
    EndsSo e s → ((a : A) → e.each a → EndsSo f (next a)) → ((a : A) → e.stopped a → IsStop f (next a)) →
    EndsSo f (s >>= next)
unfolding EndsSo
ends_then e f (Gives a) next ends second stops = second a ends
ends_then e f (Asks question more) next ends second stops = (
  (λ answer. ends_then e f (more answer) next (ends.0 answer) second stops),
  stop_then e f (more Stopped) next ends.1 stops,
)
ends_then e f (Reads q at width more) next ends second stops =
    λ value. ends_then e f (more value) next (ends value) second stops
ends_then e f (Changes change more) next ends second stops = ends_then e f more next ends second stops

-- only changes are left, and the end is one after a change
unfoldable pub ChangesOnly : {A : Type 0} → (A → Type 0) → Script A → Type 0
ChangesOnly C (Gives a) = C a
ChangesOnly C (Asks question more) = ⊥
ChangesOnly C (Reads q at width more) = ⊥
ChangesOnly C (Changes change more) = ChangesOnly C more

-- nothing is asked after a change
unfoldable pub ChangesLast : {A : Type 0} → (A → Type 0) → Script A → Type 0
ChangesLast C (Gives a) = Unit {0}
ChangesLast C (Asks question more) = (answer : Answer) → ChangesLast C (more answer)
ChangesLast C (Reads q at width more) = (value : ℕ) → ChangesLast C (more value)
ChangesLast C (Changes change more) = ChangesOnly C more

pub only_then : {A B : Type 0} (C : A → Type 0) (E : B → Type 0) (s : Script A) (next : A → Script B) →
    ChangesOnly C s → ((a : A) → C a → ChangesOnly E (next a)) → ChangesOnly E (s >>= next)
unfolding ChangesOnly
only_then C E (Gives a) next only second = second a only
only_then C E (Asks question more) next only second = absurd only
only_then C E (Reads q at width more) next only second = absurd only
only_then C E (Changes change more) next only second = only_then C E more next only second

pub last_then : {A B : Type 0} (C : A → Type 0) (E : B → Type 0) (s : Script A) (next : A → Script B) →
    ChangesLast C s → ((a : A) → ChangesLast E (next a)) → ((a : A) → C a → ChangesOnly E (next a)) →
    ChangesLast E (s >>= next)
unfolding ChangesLast
last_then C E (Gives a) next last each second = each a
last_then C E (Asks question more) next last each second =
    λ answer. last_then C E (more answer) next (last answer) each second
last_then C E (Reads q at width more) next last each second =
    λ value. last_then C E (more value) next (last value) each second
last_then C E (Changes change more) next last each second = only_then C E more next last second

-- a script of domain d with such ends
pub record Scripted (d : ℕ) {A : Type 0} (e : EndClaims A) (s : Script A) : Type 0 where
  pub own : IsOwn d s
  pub ends : EndsSo e s
  pub last : ChangesLast e.changed s

-- and it only makes changes
pub record OnlyChanges (d : ℕ) {A : Type 0} (e : EndClaims A) (s : Script A) : Type 0 where
  pub whole : Scripted d e s
  pub only : ChangesOnly e.changed s

-- the same under a premise
abbrev pub provided : {B : Type 0} → Type 0 → EndClaims B → EndClaims B
provided P e = record { each = λ b. P → e.each b; stopped = e.stopped; changed = e.changed }

stop_given : {B : Type 0} (P : Type 0) (e : EndClaims B) (s : Script B) → IsStop (provided P e) s → IsStop e s
unfolding IsStop
stop_given P e (Gives b) is = is
stop_given P e (Asks question more) is = is
stop_given P e (Reads q at width more) is = is
stop_given P e (Changes change more) is = is

ends_given : {B : Type 0} (P : Type 0) (e : EndClaims B) (s : Script B) → P → EndsSo (provided P e) s → EndsSo e s
unfolding EndsSo
ends_given P e (Gives b) holds ends = ends holds
ends_given P e (Asks question more) holds ends =
    ((λ answer. ends_given P e (more answer) holds (ends.0 answer)), stop_given P e (more Stopped) ends.1)
ends_given P e (Reads q at width more) holds ends = λ value. ends_given P e (more value) holds (ends value)
ends_given P e (Changes change more) holds ends = ends_given P e more holds ends

stop_under : {B : Type 0} (P Q : Type 0) (e : EndClaims B) (s : Script B) → IsStop (provided P e) s →
    IsStop (provided Q e) s
unfolding IsStop
stop_under P Q e (Gives b) is = is
stop_under P Q e (Asks question more) is = is
stop_under P Q e (Reads q at width more) is = is
stop_under P Q e (Changes change more) is = is

-- under a premise that implies it
pub ends_under : {B : Type 0} (P Q : Type 0) (e : EndClaims B) (s : Script B) → (Q → P) → EndsSo (provided P e) s →
    EndsSo (provided Q e) s
unfolding EndsSo
ends_under P Q e (Gives b) implies ends = λ holds. ends (implies holds)
ends_under P Q e (Asks question more) implies ends =
    ((λ answer. ends_under P Q e (more answer) implies (ends.0 answer)), stop_under P Q e (more Stopped) ends.1)
ends_under P Q e (Reads q at width more) implies ends = λ value. ends_under P Q e (more value) implies (ends value)
ends_under P Q e (Changes change more) implies ends = ends_under P Q e more implies ends

abbrev pub scripted_under : (d : ℕ) {A : Type 0} (P Q : Type 0) (e : EndClaims A) (s : Script A) → (Q → P) →
    Scripted d (provided P e) s → Scripted d (provided Q e) s
scripted_under d P Q e s implies is =
    record { own = is.own; ends = ends_under P Q e s implies is.ends; last = is.last }

-- An end.
pub scripted_gives : (d : ℕ) {A : Type 0} (e : EndClaims A) (a : A) → e.each a → Scripted d e (Gives a)
unfolding IsOwn EndsSo ChangesLast
scripted_gives d e a is = record { own = tt; ends = is; last = tt }

-- A question, and then what its answer leads to.
pub scripted_asks : (d : ℕ) {A : Type 0} (e : EndClaims A) (question : Question) → IsOf d question →
    (next : Answer → Script A) → ((a : Answer) → Scripted d e (next a)) → IsStop e (next Stopped) →
    Scripted d e (Asks question next)
unfolding IsOwn EndsSo ChangesLast
scripted_asks d e question own next second stops = record {
  own = (own, λ a. (second a).own);
  ends = ((λ a. (second a).ends), stops);
  last = λ a. (second a).last;
}

pub scripted_reads : (d : ℕ) {A : Type 0} (e : EndClaims A) (q : PageId) → q.domain ≡ d → (at width : ℕ)
    (next : ℕ → Script A) → ((value : ℕ) → Scripted d e (next value)) → Scripted d e (Reads q at width next)
unfolding IsOwn EndsSo ChangesLast
scripted_reads d e q own at width next second = record {
  own = (own, λ value. (second value).own);
  ends = λ value. (second value).ends;
  last = λ value. (second value).last;
}

-- A change, and then more of them, up to an answer.
pub changes_then : (d : ℕ) {A : Type 0} (e : EndClaims A) (change : Change) → Alters d change → (next : Script A) →
    OnlyChanges d e next → OnlyChanges d e (Changes change next)
unfolding IsOwn EndsSo ChangesOnly ChangesLast
changes_then d e change own next second = record {
  whole = record { own = (own, second.whole.own); ends = second.whole.ends; last = second.only };
  only = second.only;
}

pub changes_end : (d : ℕ) {A : Type 0} (e : EndClaims A) (a : A) → e.each a → e.changed a → OnlyChanges d e (Gives a)
unfolding ChangesOnly
changes_end d e a is goes = record { whole = scripted_gives d e a is; only = goes }

-- one change, and then an answer
pub scripted_changes : (d : ℕ) {A : Type 0} (e : EndClaims A) (change : Change) → Alters d change → (a : A) → e.each a →
    e.changed a → Scripted d e (Changes change (Gives a))
scripted_changes d e change own a is goes =
    (changes_then d e change own (Gives a) (changes_end d e a is goes)).whole

-- A part of a step, and then the rest.
pub scripted_then : (d : ℕ) {A B : Type 0} (e : EndClaims A) (f : EndClaims B) (s : Script A) (next : A → Script B) →
    Scripted d e s → ((a : A) → Scripted d (provided (e.each a) f) (next a)) →
    ((a : A) → e.stopped a → IsStop f (next a)) → ((a : A) → e.changed a → ChangesOnly f.changed (next a)) →
    Scripted d f (s >>= next)
scripted_then d e f s next first second stops only = record {
  own = own_then d s next first.own (λ a. (second a).own);
  ends = ends_then e f s next first.ends (λ a is. ends_given (e.each a) f (next a) is (second a).ends) stops;
  last = last_then e.changed f.changed s next first.last (λ a. (second a).last) only;
}
