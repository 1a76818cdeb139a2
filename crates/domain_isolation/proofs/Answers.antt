-- Each question of a program, over the joint machine and over the program alone.
use Rattle.std.proofs.Common.{◌≡◌, ◌≢◌, ◌∙◌, ◌+◌, ◌*◌, ◌%◌, ◌^◌, true, false, cond, zero, suc, ℕ, Bool, List, [], ◌∷◌, Ok, Err, refl, ap, sym, subst, ne_eqb}
use mathlib.Core.Path.{fun_ext}
use Rattle.std.specs.Prelude.{nat_eq, ◌&&◌, if◌then◌else◌}
use Rattle.std.proofs.Math.Nat.{mod-mod}
use Rattle.std.proofs.lemmas.Bool.{false≢true, cond-false}
use Rattle.cloak_base.specs.declared.names.Kind.{Kind}
use Rattle.cloak_base.specs.declared.names.Kind.TheVariants.{Load, Store}
use Rattle.cloak_base.specs.declared.names.PageId.{PageId}
use Rattle.cloak_base.specs.Pages.{zero_page, same_page, is_of, page_in}
use Rattle.cloak_model.specs.declared.access.Walked.{Walked}
use Rattle.cloak_model.specs.declared.answer.Answer.{Answer}
use Rattle.cloak_model.specs.declared.answer.Answer.TheVariants as told
use Rattle.cloak_model.specs.Memory.{with_value_in}
use Rattle.cloak_model.specs.PageMoves.{copy_pages, drop_pages}
use Rattle.cloak_model.specs.Parts.{domain_pages}
use Rattle.cloak_model.specs.World.{World, Flat, Cloaked, Alone, Handed, plain_of, regime_of, items_of, violation_of, is_missed}
use Rattle.cloak_model.specs.Asking.{Told, Asking}
use Rattle.cloak_model.specs.AskPages.{inside_access, replies, if_drawn, ask_led_inside, offered_by, ask_offer, reached, reach_by_table, get_at, got, get_by_table, put_at, stored_inside, put_by_table, clear_from, is_for_access, is_for_value, is_for_clearing, of_width, next_answer, ask_reach, ask_read, ask_write, ask_get, ask_put, ask_clear, ask_copy, ask_forget}
use Rattle.cloak_model.specs.Walk.{Walk}
use Rattle.cloak_model.specs.Ask.{opened}
use Rattle.cloak_model.specs.Script.{Question, Reach, Get, Put, Clear, Change, Write, Copy, Forget, asked, changed}
use Rattle.script_fold.proofs.Scripts.{Alters}
use Rattle.domain_isolation.proofs.Steady.{is_cloaked, Replied, replied_reach, replied_get, replied_put, replied_clear}

-- a program that runs alone, with the pages of this domain and these answers
abbrev pub alone_with : ℕ → (PageId → List ℕ) → List Answer → World
alone_with d plain answers = Alone (record { plain = domain_pages d plain; answers = answers; unfit = false })

-- the joint machine's memory in a step of this domain
pub record IsServing (d : ℕ) (w : World) : Type 0 where
  pub form : is_cloaked w ≡ true
  pub regime : (regime_of w).domain ≡ d

-- Each answer is of the kind that its question takes.

told_either : (P : Answer → Type 0) (b : Bool) (m n : Told Answer) → P m.answer → P n.answer → P (cond b m n).answer
told_either P true m n p q = p
told_either P false m n p q = q

drawn_has : (P : Answer → Type 0) (ask : Asking Answer) (w : World) → P told.Stopped → P (ask w).answer →
    P (if_drawn ask w).answer
unfolding if_drawn replies
drawn_has P ask w stopped there = told_either P (is_missed w) _ _ stopped there

abbrev ForAccess : Answer → Type 0
ForAccess a = is_for_access a ≡ true

abbrev ForClearing : Answer → Type 0
ForClearing a = is_for_clearing a ≡ true

-- a value of this width, or why there is none
record ForValue (width : ℕ) (a : Answer) : Type 0 where
  pub kind : is_for_value a ≡ true
  pub narrow : of_width width a ≡ a

offered_has : (q : PageId) (va : ℕ) (kind : Kind) (walked : Walked) (granted : Bool) (w : World) →
    ForAccess (offered_by q va kind walked granted w).answer
unfolding offered_by replies
offered_has q va kind walked true w = refl
offered_has q va kind walked false (Flat ram) = refl
offered_has q va kind walked false (Cloaked c) = refl
offered_has q va kind walked false (Alone h) = refl

offer_has : (q : PageId) (va : ℕ) (kind : Kind) (walked : Walked) (w : World) →
    ForAccess (ask_offer q va kind walked w).answer
unfolding ask_offer
offer_has q va kind walked (Cloaked c) = drawn_has ForAccess _ (Cloaked _) refl (offered_has q va kind walked _ _)
offer_has q va kind walked _ = refl

reached_has : (q : PageId) (va : ℕ) (kind : Kind) (to : Walk) (w : World) → ForAccess (reached q va kind to w).answer
unfolding reached replies
reached_has q va kind (Err cause) w = refl
reached_has q va kind (Ok walked) w = offer_has q va kind walked w

reach_has : (q : PageId) (va : ℕ) (kind : Kind) (w : World) → ForAccess (reach_by_table q va kind w).answer
unfolding reach_by_table
reach_has q va kind w =
    let to = ask_led_inside va kind w in
    drawn_has ForAccess (reached q va kind to.answer) to.world refl (reached_has q va kind to.answer to.world)

put_at_has : (pa width value : ℕ) (w : World) → ForAccess (put_at pa width value w).answer
unfolding put_at replies
put_at_has pa width value w = refl

stored_has : (va width value : ℕ) (to : Walk) (w : World) → ForAccess (stored_inside va width value to w).answer
unfolding stored_inside replies
stored_has va width value (Err cause) w = refl
stored_has va width value (Ok walked) w =
    drawn_has ForAccess (put_at walked.pa width value) (opened (regime_of w).satp (inside_access w va Store) walked w) refl
    (put_at_has walked.pa width value _)

put_has : (va width value : ℕ) (w : World) → ForAccess (put_by_table va width value w).answer
unfolding put_by_table
put_has va width value w =
    let to = ask_led_inside va _ w in
    drawn_has ForAccess (stored_inside va width value to.answer) to.world refl
    (stored_has va width value to.answer to.world)

word_has : (width value : ℕ) (w : World) → ForValue width (replies (told.Word (value % 2 ^ (8 * width))) w).answer
unfolding replies
word_has width value w = record { kind = refl; narrow = ap (λ (n : ℕ). told.Word n) (mod-mod value (2 ^ (8 * width))) }

get_at_has : (pa width : ℕ) (w : World) → ForValue width (get_at pa width w).answer
unfolding get_at
get_at_has pa width w = word_has width _ _

got_has : (va width : ℕ) (to : Walk) (w : World) → ForValue width (got va width to w).answer
unfolding got replies
got_has va width (Err cause) w = record { kind = refl; narrow = refl }
got_has va width (Ok walked) w =
    drawn_has (ForValue width) (get_at walked.pa width) (opened (regime_of w).satp (inside_access w va Load) walked w)
    (record { kind = refl; narrow = refl }) (get_at_has walked.pa width _)

get_has : (va width : ℕ) (w : World) → ForValue width (get_by_table va width w).answer
unfolding get_by_table
get_has va width w =
    let to = ask_led_inside va _ w in
    drawn_has (ForValue width) (got va width to.answer) to.world (record { kind = refl; narrow = refl })
    (got_has va width to.answer to.world)

clear_has : (domain : ℕ) (marked : List Bool) (f n : ℕ) (w : World) →
    ForClearing (clear_from domain marked f n w).answer
unfolding clear_from replies
clear_has domain marked f zero w = refl
clear_has domain marked f (suc n) w =
    drawn_has ForClearing (clear_from domain marked (f + 1) n) _ refl (clear_has domain marked (f + 1) n _)

-- A program that runs alone takes it.

next_fit : (is_fit : Answer → Bool) (a : Answer) (rest : List Answer) (h : Handed) → is_fit a ≡ true →
    next_answer is_fit (a ∷ rest) h ≡ record { answer = a; world = Alone (record h { answers = rest }) }
unfolding next_answer
next_fit is_fit a rest h fits = rw fits refl

-- A question answered by the joint machine is answered so to the program alone.
pub record Answered (d : ℕ) (question : Question) (w : World) : Type 0 where
  pub replied : Replied w (asked question w)
  pub same : (rest : List Answer) →
      asked question (alone_with d (plain_of w) ((asked question w).answer ∷ rest))
      ≡ record { answer = (asked question w).answer; world = alone_with d (plain_of (asked question w).world) rest }

taken : (d : ℕ) (is_fit : Answer → Bool) (t : Told Answer) (w : World) (rest : List Answer) →
    is_fit t.answer ≡ true → plain_of t.world ≡ plain_of w →
    next_answer is_fit (t.answer ∷ rest)
    (record { plain = domain_pages d (plain_of w); answers = t.answer ∷ rest; unfit = false })
    ≡ record { answer = t.answer; world = alone_with d (plain_of t.world) rest }
taken d is_fit t w rest fits plain =
    next_fit is_fit t.answer rest _ fits
    ∙ ap (λ (pages : PageId → List ℕ). let u : Told Answer =
    record { answer = t.answer; world = alone_with d pages rest } in u) (sym plain)

pub question_answered : (d : ℕ) (question : Question) (w : World) → is_cloaked w ≡ true → Answered d question w
unfolding ask_reach ask_get ask_put ask_clear
question_answered d question (Flat ram) cloaked = absurd (false≢true cloaked)
question_answered d question (Alone h) cloaked = absurd (false≢true cloaked)
question_answered d (Reach q va kind) (Cloaked c) cloaked =
    let t = reach_by_table q va kind (Cloaked c) in
    let r = replied_reach q va kind (Cloaked c) refl in
    record {
      replied = r;
      same = λ rest. taken d is_for_access t (Cloaked c) rest
          (reach_has q va kind (Cloaked c)) r.plain;
    }
question_answered d (Get va width) (Cloaked c) cloaked =
    let t = get_by_table va width (Cloaked c) in
    let r = replied_get va width (Cloaked c) refl in
    let has = get_has va width (Cloaked c) in
    record {
      replied = r;
      same = λ rest.
          ap (λ (u : Told Answer). let x : Told Answer =
          record { answer = of_width width u.answer; world = u.world } in x)
          (taken d is_for_value t (Cloaked c) rest has.kind r.plain)
          ∙ ap (λ (a : Answer). let x : Told Answer = record {
            answer = a;
            world = alone_with d
                (plain_of t.world) rest;
          } in x) has.narrow;
    }
question_answered d (Put va width value) (Cloaked c) cloaked =
    let t = put_by_table va width value (Cloaked c) in
    let r = replied_put va width value (Cloaked c) refl in
    record {
      replied = r;
      same = λ rest. taken d is_for_access t (Cloaked c) rest
          (put_has va width value (Cloaked c)) r.plain;
    }
question_answered d (Clear domain marked) (Cloaked c) cloaked =
    let t = clear_from domain marked 0 _ (Cloaked c) in
    let r = replied_clear domain marked 0 _ (Cloaked c) refl in
    record {
      replied = r;
      same = λ rest. taken d is_for_clearing t (Cloaked c) rest
          (clear_has domain marked 0 _ (Cloaked c)) r.plain;
    }

-- A program alone that found no answer is stuck.
abbrev pub stuck_with : (ℕ → ℕ → List ℕ) → World
stuck_with plain = Alone (record { plain = plain; answers = []; unfit = true })

abbrev pub IsStuck : World → Type 0
IsStuck w = (plain : ℕ → ℕ → List ℕ) × (w ≡ stuck_with plain)

pub question_missing : (d : ℕ) (question : Question) (plain : PageId → List ℕ) →
    IsStuck (asked question (alone_with d plain [])).world
unfolding ask_reach ask_get ask_put ask_clear next_answer
question_missing d (Reach q va kind) plain = (domain_pages d plain, refl)
question_missing d _ plain = (domain_pages d plain, refl)

pub question_stuck : (question : Question) (plain : ℕ → ℕ → List ℕ) →
    IsStuck (asked question (stuck_with plain)).world
unfolding ask_reach ask_get ask_put ask_clear next_answer
question_stuck (Reach q va kind) plain = (plain, refl)
question_stuck _ plain = (plain, refl)

pub change_stuck : (change : Change) (plain : ℕ → ℕ → List ℕ) →
    IsStuck (changed change (stuck_with plain)).world
unfolding ask_write ask_copy ask_forget
change_stuck (Write q at width value) plain = (_, refl)
change_stuck _ plain = (_, refl)

-- A read, and a change, of the program's own pages.

pub read_same : (d : ℕ) (q : PageId) (at width : ℕ) (w : World) (answers : List Answer) → q.domain ≡ d →
    ask_read q at width (alone_with d (plain_of w) answers) ≡
    record { answer = (ask_read q at width w).answer; world = alone_with d (plain_of w) answers }
unfolding ask_read
read_same d q at width w answers own =
    subst (λ (n : ℕ). ask_read q at width (alone_with n (plain_of w) answers) ≡
    record { answer = (ask_read q at width w).answer; world = alone_with n (plain_of w) answers }) own refl

pub change_same : (d : ℕ) (change : Change) → Alters d change → (w : World) (answers : List Answer) →
    is_cloaked w ≡ true →
    changed change (alone_with d (plain_of w) answers) ≡
    record { answer = tt; world = alone_with d (plain_of (changed change w).world) answers }
unfolding ask_write ask_copy ask_forget copy_pages drop_pages
change_same d change own (Flat ram) answers cloaked = absurd (false≢true cloaked)
change_same d change own (Alone h) answers cloaked = absurd (false≢true cloaked)
change_same d (Write q at width value) own (Cloaked c) answers cloaked =
    subst (λ (n : ℕ). ask_write q at width value (alone_with n (plain_of (Cloaked c)) answers) ≡
    record {
      answer = tt;
      world = alone_with n (plain_of
          (ask_write q at width value (Cloaked c)).world) answers;
    }) own refl
change_same d (Copy domain from to) own (Cloaked c) answers cloaked =
    subst (λ (n : ℕ). ask_copy domain from to (alone_with n (plain_of (Cloaked c)) answers) ≡
    record { answer = tt; world = alone_with n (plain_of (ask_copy domain from to (Cloaked c)).world) answers }) own
    refl
change_same d (Forget domain resource) own (Cloaked c) answers cloaked =
    subst (λ (n : ℕ). ask_forget domain resource (alone_with n (plain_of (Cloaked c)) answers) ≡
    record { answer = tt; world = alone_with n (plain_of (ask_forget domain resource (Cloaked c)).world) answers }) own
    refl

-- What a change leaves: all but the pages of its domain.
pub record LeavesOthers (d : ℕ) (w v : World) : Type 0 where
  pub regime : regime_of v ≡ regime_of w
  pub form : is_cloaked v ≡ is_cloaked w
  pub items : items_of v ≡ items_of w
  pub violation : violation_of v ≡ violation_of w
  pub others : (e : ℕ) → e ≢ d → domain_pages e (plain_of v) ≡ domain_pages e (plain_of w)

-- a map of pages that is changed where a test passes, which is at no page of a domain
other_pages : (e : ℕ) (plain new : PageId → List ℕ) (test : PageId → Bool) →
    ((resource page : ℕ) → test (record { domain = e; resource = resource; page = page }) ≡ false) →
    domain_pages e (λ p. if test p then new p else plain p) ≡ domain_pages e plain
other_pages e plain new test never =
    fun_ext (λ resource. fun_ext (λ page. cond-false
    (test (record { domain = e; resource = resource; page = page })) _ _ (never resource page)))

other_and : (e d : ℕ) (b : Bool) → e ≢ d → (nat_eq e d && b) ≡ false
other_and e d b other = ap (λ (same : Bool). same && b) (ne_eqb e d other)

never_same_page : (d e : ℕ) (q : PageId) → q.domain ≡ d → e ≢ d → (resource page : ℕ) →
    same_page (record { domain = e; resource = resource; page = page }) q ≡ false
unfolding same_page
never_same_page d e q own other resource page = other_and e q.domain _ (λ same. other (same ∙ own))

never_of : (d e n : ℕ) → e ≢ d → (resource page : ℕ) →
    is_of d n (record { domain = e; resource = resource; page = page }) ≡ false
unfolding is_of
never_of d e n other resource page = other_and e d _ other

pub change_leaves : (d : ℕ) (change : Change) → Alters d change → (w : World) → is_cloaked w ≡ true →
    LeavesOthers d w (changed change w).world
unfolding ask_write ask_copy ask_forget copy_pages drop_pages
change_leaves d change own (Flat ram) cloaked = absurd (false≢true cloaked)
change_leaves d change own (Alone h) cloaked = absurd (false≢true cloaked)
change_leaves d (Write q at width value) own (Cloaked c) cloaked = record {
  regime = refl;
  form = refl;
  items = refl;
  violation = refl;
  others = λ e other. other_pages e c.memory.plain (λ p. with_value_in (c.memory.plain q) at width value)
      (λ p. same_page p q) (never_same_page d e q own other);
}
change_leaves d (Copy domain from to) own (Cloaked c) cloaked = record {
  regime = refl;
  form = refl;
  items = refl;
  violation = refl;
  others = λ e other. other_pages e c.memory.plain (λ p. c.memory.plain (page_in from p)) (is_of domain to)
      (never_of domain e to (λ same. other (same ∙ own)));
}
change_leaves d (Forget domain resource) own (Cloaked c) cloaked = record {
  regime = refl;
  form = refl;
  items = refl;
  violation = refl;
  others = λ e other. other_pages e c.memory.plain (λ p. zero_page) (is_of domain resource)
      (never_of domain e resource (λ same. other (same ∙ own)));
}
