-- A script over the joint machine, and over the program alone that is handed its answers.
use Rattle.std.proofs.Common.{◌≡◌, ◌≢◌, ◌∙◌, true, false, ℕ, Bool, List, [], ◌∷◌, ◌++◌, refl, ap, sym, subst, map, append_assoc, append-nil}
use Rattle.std.specs.Prelude.{◌||◌, Option, Some, None, is_some}
use Rattle.cloak_base.specs.declared.causes.Violation.{Violation}
use Rattle.std.specs.List.{list_any}
use Rattle.std.proofs.lemmas.Bool.{false≢true, or_right}
use Rattle.std.proofs.lemmas.List.Elements.{filter-append}
use Rattle.cloak_model.specs.declared.answer.Answer.{Answer}
use Rattle.cloak_model.specs.declared.answer.Answer.TheVariants as told
use Rattle.cloak_model.specs.Items.{Item}
use Rattle.cloak_model.specs.Halves.{is_inward, inward_half}
use Rattle.cloak_model.specs.Parts.{domain_pages}
use Rattle.cloak_model.specs.World.{World, plain_of, items_of, violation_of}
use Rattle.cloak_model.specs.Asking.{Told}
use Rattle.cloak_model.specs.AskPages.{answer_item, ask_read}
use Rattle.cloak_model.specs.DomainAlone.{is_stopped}
use Rattle.cloak_model.specs.Script.{Question, Change, Script, Gives, Asks, Reads, Changes, asked, changed, played}
use Rattle.script_fold.proofs.Scripts.{Alters, IsOwn, EndClaims, IsStop, EndsSo}
use Rattle.domain_isolation.proofs.Steady.{is_cloaked, is_halted}
use Rattle.domain_isolation.proofs.Answers.{alone_with, IsServing, question_answered, IsStuck, question_missing, question_stuck, change_stuck, read_same, change_same, change_leaves}

-- the answers that a script is given in a world
abbrev pub answers_of : {A : Type 0} → Script A → World → List Answer
answers_of (Gives a) w = []
answers_of (Asks question more) w =
    (asked question w).answer ∷ answers_of (more (asked question w).answer) (asked question w).world
answers_of (Reads q at width more) w =
    answers_of (more (ask_read q at width w).answer) (ask_read q at width w).world
answers_of (Changes change more) w = answers_of more (changed change w).world

-- the items of answers to a domain
abbrev pub answer_items : ℕ → List Answer → List Item
answer_items d answers = map (answer_item d) answers

-- What it is over the joint machine in a step of this domain.

asked_form : (question : Question) (w : World) → is_cloaked w ≡ true → is_cloaked (asked question w).world ≡ true
asked_form question w form = (question_answered 0 question w form).replied.form ∙ form

asked_serving : (d : ℕ) (question : Question) (w : World) → IsServing d w → IsServing d (asked question w).world
asked_serving d question w s =
    let r = (question_answered d question w s.form).replied in
    record { form = r.form ∙ s.form; regime = ap (λ (regime : _). regime.domain) r.regime ∙ s.regime }

changed_serving : (d : ℕ) (change : Change) → Alters d change → (w : World) → IsServing d w →
    IsServing d (changed change w).world
changed_serving d change own w s =
    let r = change_leaves d change own w s.form in
    record { form = r.form ∙ s.form; regime = ap (λ (regime : _). regime.domain) r.regime ∙ s.regime }

pub played_serving : (d : ℕ) {A : Type 0} (s : Script A) → IsOwn d s → (w : World) → IsServing d w →
    IsServing d (played s w).world
unfolding IsOwn ask_read
played_serving d (Gives a) own w serving = serving
played_serving d (Asks question more) own w serving =
    let t = asked question w in
    played_serving d (more t.answer) (own.1 t.answer) t.world (asked_serving d question w serving)
played_serving d (Reads q at width more) own w serving =
    let value = (ask_read q at width w).answer in played_serving d (more value) (own.1 value) w serving
played_serving d (Changes change more) own w serving =
    played_serving d more own.1 (changed change w).world (changed_serving d change own.0 w serving)

-- each program is told these answers, or nothing
pub played_items : (d : ℕ) {A : Type 0} (s : Script A) → IsOwn d s → (w : World) → IsServing d w → (e : ℕ) →
    inward_half e (items_of (played s w).world) ≡ inward_half e (items_of w) ++ inward_half e
    (answer_items d (answers_of s w))
unfolding IsOwn ask_read
played_items d (Gives a) own w serving e = sym (append-nil (inward_half e (items_of w)))
played_items d (Asks question more) own w serving e =
    let t = asked question w in
    let r = (question_answered d question w serving.form).replied in
    let rest = answer_items d (answers_of (more t.answer) t.world) in
    played_items d (more t.answer) (own.1 t.answer) t.world (asked_serving d question w serving) e
    ∙ ap (λ (l : List Item). l ++ inward_half e rest)
    (r.items e ∙ ap (λ (n : ℕ). inward_half e (items_of w) ++ inward_half e (answer_item n t.answer ∷ [])) serving.regime)
    ∙ append_assoc (inward_half e (items_of w)) (inward_half e (answer_item d t.answer ∷ [])) (inward_half e rest)
    ∙ ap (λ (l : List Item). inward_half e (items_of w) ++ l)
    (sym (filter-append (is_inward e) (answer_item d t.answer ∷ []) rest))
played_items d (Reads q at width more) own w serving e =
    played_items d (more (ask_read q at width w).answer) (own.1 (ask_read q at width w).answer) w serving e
played_items d (Changes change more) own w serving e =
    played_items d more own.1 (changed change w).world (changed_serving d change own.0 w serving) e
    ∙ ap (λ (items : List Item). inward_half e items ++ inward_half e
    (answer_items d (answers_of more (changed change w).world))) (change_leaves d change own.0 w serving.form).items

-- the pages of every other program stay
pub played_others : (d : ℕ) {A : Type 0} (s : Script A) → IsOwn d s → (w : World) → IsServing d w → (e : ℕ) →
    e ≢ d → domain_pages e (plain_of (played s w).world) ≡ domain_pages e (plain_of w)
unfolding IsOwn ask_read
played_others d (Gives a) own w serving e other = refl
played_others d (Asks question more) own w serving e other =
    let t = asked question w in
    played_others d (more t.answer) (own.1 t.answer) t.world (asked_serving d question w serving) e other
    ∙ ap (domain_pages e) (question_answered d question w serving.form).replied.plain
played_others d (Reads q at width more) own w serving e other =
    let value = (ask_read q at width w).answer in played_others d (more value) (own.1 value) w serving e other
played_others d (Changes change more) own w serving e other =
    played_others d more own.1 (changed change w).world (changed_serving d change own.0 w serving) e other
    ∙ (change_leaves d change own.0 w serving.form).others e other

-- it ends so
pub played_ends : {A : Type 0} (e : EndClaims A) (s : Script A) (w : World) → EndsSo e s →
    e.each (played s w).answer
unfolding EndsSo
played_ends e (Gives a) w ends = ends
played_ends e (Asks question more) w ends =
    played_ends e (more (asked question w).answer) (asked question w).world (ends.0 (asked question w).answer)
played_ends e (Reads q at width more) w ends =
    played_ends e (more (ask_read q at width w).answer) (ask_read q at width w).world
    (ends (ask_read q at width w).answer)
played_ends e (Changes change more) w ends = played_ends e more (changed change w).world ends

-- A stop.
pub record Halts {A : Type 0} (e : EndClaims A) (t : Told A) : Type 0 where
  pub stopped : e.stopped t.answer
  pub halted : is_halted t.world ≡ true

stop_halts : {A : Type 0} (e : EndClaims A) (s : Script A) (w : World) → IsStop e s → is_halted w ≡ true →
    Halts e (played s w)
unfolding IsStop
stop_halts e (Gives a) w is halted = record { stopped = is; halted = halted }
stop_halts e _ w is halted = absurd is

is_stop : (a : Answer) → is_stopped a ≡ true → a ≡ told.Stopped
is_stop told.Stopped is = refl
is_stop a is = absurd cc

stopped_by : {A : Type 0} (e : EndClaims A) (question : Question) (more : Answer → Script A) (w : World) →
    is_cloaked w ≡ true → IsStop e (more told.Stopped) →
    let t = asked question w in
    (b : Bool) → is_stopped t.answer ≡ b → (later : Bool) →
    (later ≡ true → Halts e (played (more t.answer) t.world)) → (b || later) ≡ true →
    Halts e (played (more t.answer) t.world)
stopped_by e question more w form stops true is later next any =
    let t = asked question w in
    let stop = is_stop t.answer is in
    stop_halts e (more t.answer) t.world (subst (λ (a : Answer). IsStop e (more a)) (sym stop) stops)
    ((question_answered 0 question w form).replied.stops stop)
stopped_by e question more w form stops false is later next any = next any

-- with an answer that stops, the script was stopped, and the run must stop
pub played_stopped : (d : ℕ) {A : Type 0} (e : EndClaims A) (s : Script A) → IsOwn d s → (w : World) → EndsSo e s →
    is_cloaked w ≡ true → list_any is_stopped (answers_of s w) ≡ true → Halts e (played s w)
unfolding IsOwn EndsSo ask_read
played_stopped d e (Gives a) own w ends form any = absurd (false≢true any)
played_stopped d e (Asks question more) own w ends form any =
    let t = asked question w in
    stopped_by e question more w form ends.1 (is_stopped t.answer) refl _
    (λ later. played_stopped d e (more t.answer) (own.1 t.answer) t.world (ends.0 t.answer) (asked_form question w form)
    later) any
played_stopped d e (Reads q at width more) own w ends form any =
    let value = (ask_read q at width w).answer in played_stopped d e (more value) (own.1 value) w (ends value) form any
played_stopped d e (Changes change more) own w ends form any =
    played_stopped d e more own.1 (changed change w).world ends ((change_leaves d change own.0 w form).form ∙ form) any

-- A violation was met by the last question.

-- the last answer stops
abbrev pub last_stopped : List Answer → Bool
last_stopped [] = false
last_stopped (a ∷ []) = is_stopped a
last_stopped (a ∷ b ∷ answers) = last_stopped (b ∷ answers)

last_cons : (a : Answer) (answers : List Answer) → last_stopped answers ≡ true → last_stopped (a ∷ answers) ≡ true
last_cons a [] last = absurd (false≢true last)
last_cons a (b ∷ answers) last = last

pub last_any : (answers : List Answer) → last_stopped answers ≡ true → list_any is_stopped answers ≡ true
last_any [] last = last
last_any (a ∷ []) last = ap (λ (b : Bool). b || false) last
last_any (a ∷ b ∷ answers) last = or_right (is_stopped a) _ (last_any (b ∷ answers) last)

stop_answers : {A : Type 0} (e : EndClaims A) (s : Script A) (w : World) → IsStop e s → answers_of s w ≡ []
unfolding IsStop
stop_answers e (Gives a) w is = refl
stop_answers e _ w is = absurd is

met_by : {A : Type 0} (e : EndClaims A) (question : Question) (more : Answer → Script A) (w : World) →
    is_cloaked w ≡ true → violation_of w ≡ None → IsStop e (more told.Stopped) →
    let t = asked question w in
    (o : Option Violation) → violation_of t.world ≡ o →
    (o ≡ None → last_stopped (answers_of (more t.answer) t.world) ≡ true) →
    last_stopped (t.answer ∷ answers_of (more t.answer) t.world) ≡ true
met_by e question more w form none stops None is later =
    let t = asked question w in last_cons t.answer (answers_of (more t.answer) t.world) (later refl)
met_by e question more w form none stops (Some v) is later =
    let t = asked question w in
    let stop = (question_answered 0 question w form).replied.meets none (ap is_some is) in
    let over = stop_answers e (more t.answer) t.world (subst (λ (a : Answer). IsStop e (more a)) (sym stop) stops) in
    ap (λ (l : List Answer). last_stopped (t.answer ∷ l)) over ∙ ap is_stopped stop

met_last : (d : ℕ) {A : Type 0} (e : EndClaims A) (s : Script A) → IsOwn d s → (w : World) → EndsSo e s →
    is_cloaked w ≡ true → violation_of w ≡ None → is_some (violation_of (played s w).world) ≡ true →
    last_stopped (answers_of s w) ≡ true
unfolding IsOwn EndsSo ask_read
met_last d e (Gives a) own w ends form none some = absurd (false≢true (sym (ap is_some none) ∙ some))
met_last d e (Asks question more) own w ends form none some =
    let t = asked question w in
    met_by e question more w form none ends.1 (violation_of t.world) refl
    (λ still. met_last d e (more t.answer) (own.1 t.answer) t.world (ends.0 t.answer) (asked_form question w form) still
    some)
met_last d e (Reads q at width more) own w ends form none some =
    let value = (ask_read q at width w).answer in met_last d e (more value) (own.1 value) w (ends value) form none some
met_last d e (Changes change more) own w ends form none some =
    let left = change_leaves d change own.0 w form in
    met_last d e more own.1 (changed change w).world ends (left.form ∙ form) (left.violation ∙ none) some

pub played_met : (d : ℕ) {A : Type 0} (e : EndClaims A) (s : Script A) → IsOwn d s → (w : World) → EndsSo e s →
    IsServing d w → violation_of w ≡ None → is_some (violation_of (played s w).world) ≡ true →
    last_stopped (answers_of s w) ≡ true
played_met d e s own w ends serving none some = met_last d e s own w ends serving.form none some

-- so it was stopped
pub met_stops : (d : ℕ) {A : Type 0} (e : EndClaims A) (s : Script A) → IsOwn d s → (w : World) → EndsSo e s →
    is_cloaked w ≡ true → violation_of w ≡ None → is_some (violation_of (played s w).world) ≡ true →
    Halts e (played s w)
met_stops d e s own w ends form none some =
    played_stopped d e s own w ends form (last_any (answers_of s w) (met_last d e s own w ends form none some))

-- What it is over the program alone.

-- with all its answers, and some that are left over
pub played_alone : (d : ℕ) {A : Type 0} (s : Script A) → IsOwn d s → (w : World) → IsServing d w →
    (rest : List Answer) →
    played s (alone_with d (plain_of w) (answers_of s w ++ rest))
    ≡ record { answer = (played s w).answer; world = alone_with d (plain_of (played s w).world) rest }
unfolding IsOwn ask_read
played_alone d (Gives a) own w serving rest = refl
played_alone d (Asks question more) own w serving rest =
    let t = asked question w in
    ap (λ (u : Told Answer). played (more u.answer) u.world)
    ((question_answered d question w serving.form).same (answers_of (more t.answer) t.world ++ rest))
    ∙ played_alone d (more t.answer) (own.1 t.answer) t.world (asked_serving d question w serving) rest
played_alone d (Reads q at width more) own w serving rest =
    let value = (ask_read q at width w).answer in
    ap (λ (u : Told ℕ). played (more u.answer) u.world)
    (read_same d q at width w (answers_of (more value) w ++ rest) own.0)
    ∙ played_alone d (more value) (own.1 value) w serving rest
played_alone d (Changes change more) own w serving rest =
    ap (λ (u : Told (Unit {0})). played more u.world)
    (change_same d change own.0 w (answers_of more (changed change w).world ++ rest) serving.form)
    ∙ played_alone d more own.1 (changed change w).world (changed_serving d change own.0 w serving) rest

-- from a world in which no answer was left
played_stuck : {A : Type 0} (s : Script A) (w : World) → IsStuck w → IsStuck (played s w).world
unfolding ask_read
played_stuck (Gives a) w stuck = stuck
played_stuck (Asks question more) w stuck =
    played_stuck (more (asked question w).answer) (asked question w).world
    (subst (λ (v : World). IsStuck (asked question v).world) (sym stuck.1) (question_stuck question stuck.0))
played_stuck (Reads q at width more) w stuck = played_stuck (more (ask_read q at width w).answer) w stuck
played_stuck (Changes change more) w stuck =
    played_stuck more (changed change w).world (subst (λ (v : World). IsStuck (changed change v).world)
    (sym stuck.1) (change_stuck change stuck.0))

tail_of : List Answer → List Answer
tail_of [] = []
tail_of (a ∷ answers) = answers

-- with a front of its answers, but not all
pub played_short : (d : ℕ) {A : Type 0} (s : Script A) → IsOwn d s → (w : World) → IsServing d w →
    (front : List Answer) (a : Answer) (more : List Answer) →
    front ++ a ∷ more ≡ answers_of s w → IsStuck (played s (alone_with d (plain_of w) front)).world
unfolding IsOwn ask_read tail_of
played_short d (Gives x) own w serving [] a more is = absurd cc
played_short d (Gives x) own w serving (b ∷ front) a more is = absurd cc
played_short d (Asks question next) own w serving [] a more is =
    played_stuck (next (asked question (alone_with d (plain_of w) [])).answer)
    (asked question (alone_with d (plain_of w) [])).world (question_missing d question (plain_of w))
played_short d (Asks question next) own w serving (b ∷ front) a more is =
    let t = asked question w in
    let head : b ≡ t.answer = cc in
    let rest : front ++ a ∷ more ≡ answers_of (next t.answer) t.world = ap tail_of is in
    subst (λ (x : Answer). IsStuck (played (Asks question next) (alone_with d (plain_of w) (x ∷ front))).world)
    (sym head)
    (subst (λ (u : Told Answer). IsStuck (played (next u.answer) u.world).world)
    (sym ((question_answered d question w serving.form).same front))
    (played_short d (next t.answer) (own.1 t.answer) t.world (asked_serving d question w serving) front a more rest))
played_short d (Reads q at width next) own w serving front a more is =
    let value = (ask_read q at width w).answer in
    subst (λ (u : Told ℕ). IsStuck (played (next u.answer) u.world).world)
    (sym (read_same d q at width w front own.0))
    (played_short d (next value) (own.1 value) w serving front a more is)
played_short d (Changes change next) own w serving front a more is =
    subst (λ (u : Told (Unit {0})). IsStuck (played next u.world).world)
    (sym (change_same d change own.0 w front serving.form))
    (played_short d next own.1 (changed change w).world (changed_serving d change own.0 w serving) front a more is)
