-- The registers that a hypercall leaves to its context: it answers in x10.
use Rattle.std.proofs.Common.{◌≡◌, ◌∙◌, ℕ, zero, suc, ◌%◌, Bool, true, false, cond, List, [], ◌∷◌, map, slice_set, Option, Some, None, unwrap_or, Result, Ok, Err, refl, sym, ap, subst}
use Rattle.std.specs.Prelude.{◌==◌}
use Rattle.std.specs.List.{list_any}
use Rattle.cloak_base.proofs.Choices.{either}
use Rattle.cloak_base.specs.Registers.{register, with_register}
use Rattle.cloak_base.specs.declared.names.PageId.{PageId}
use Rattle.cloak_model.specs.declared.answer.Answer.{Answer}
use Rattle.cloak_model.specs.declared.answer.Answer.TheVariants as told
use Rattle.cloak_model.specs.declared.context.PageWord.{PageWord}
use Rattle.cloak_model.specs.declared.inside.Begun.{Begun}
use Rattle.cloak_model.specs.declared.inside.Begun.TheVariants.{Copying, Leave}
use Rattle.cloak_model.specs.declared.resource.MapFault.{MapFault}
use Rattle.cloak_model.specs.declared.resource.MapFault.TheVariants as fault
use Rattle.cloak_model.specs.Items.{Item}
use Rattle.cloak_model.specs.Items as item
use Rattle.cloak_model.specs.Asking.{Told, answered, then_ask}
use Rattle.cloak_model.specs.AskPages.{answer_item, ask_copy}
use Rattle.cloak_model.specs.Calls.{call_number, takes_bytes, is_good, BeginsCall, waiting, begin_copy, begin_call}
use Rattle.cloak_model.specs.Contexts.{Context, context_at, context_number, set_word, moved_on, suspended, new_context, has_buffer, is_reserved, unless_reserved, end_at}
use Rattle.cloak_model.specs.DomainState.{Control}
use Rattle.cloak_model.specs.Fork.{Fork, End, forked, forget_each, marked, copies, has_room, fork_fits, fork, is_of_space, end_context, copy_each, private_numbers}
use Rattle.cloak_model.specs.Halves.{inward_half}
use Rattle.cloak_model.specs.Hypercalls as hyper
use Rattle.cloak_model.specs.Hypercalls.{Stepped, with_slot, fault_word, number_word, with_answer, answers_word, bad_call, stopped, remapped, new_call, map_call, unmap_call, file_call, thread_at, thread_call, with_spaces, fork_told, fork_call, end_told, exit_call, call_begun, kernel_call, Hypercall, New, Map, Unmap, Thread, ForkSpace, Exit, Call, Unknown, hypercall}
use Rattle.cloak_model.specs.PageMoves.{copy_pages}
use Rattle.cloak_model.specs.Resources.{first_free}
use Rattle.cloak_model.specs.Script.{Clear, played}
use Rattle.cloak_model.specs.World.{World, Flat, Cloaked, Alone, items_of}
use Rattle.cloak_model.proofs.ForkParts.{fork_cleared, fork_if, end_cleared, end_if}
use Rattle.cloak_model.proofs.Playing.{played_then, plays_both}
use Rattle.domain_isolation.proofs.Steady.{is_cloaked}
use Rattle.hypercall_kinds.specs.Kinds.{cleared, CallKind, Stops, Forks, EndsSpace, after}
use Rattle.hypercall_kinds.proofs.ByKinds.{by_kinds}
use Rattle.latest_store.specs.Deeds.{first_granted, both_granted}
use Rattle.latest_store.proofs.HypercallDeeds.{drops_made}
use Rattle.latest_store.proofs.Heard.{Heard, heard_asked}
use Rattle.context_law.specs.Registers.{with_some, done_word, thread_word, fork_word, call_word, hypercall_word}

-- a context of a slot, if it is there, has these registers
abbrev pub Has : List ℕ → Option Context → Type 0
Has regs o = (k : Context) → o ≡ Some k → k.regs ≡ regs

pub has_same : (regs regs' : List ℕ) (o : Option Context) → regs ≡ regs' → Has regs o → Has regs' o
has_same regs regs' o same has k is = has k is ∙ same

pub set_has : (contexts : List (Option Context)) (slot : ℕ) (k : Context) →
    Has k.regs (context_at (slice_set contexts slot (Some k)) slot)
set_has [] slot k x is = absurd cc
set_has (o ∷ contexts) zero k x is = let same : k ≡ x = cc in ap (λ (y : Context). y.regs) (sym same)
set_has (o ∷ contexts) (suc slot) k x is = set_has contexts slot k x is

pub free_has : (contexts : List (Option Context)) (slot : ℕ) (regs : List ℕ) →
    Has regs (context_at (slice_set contexts slot None) slot)
free_has [] slot regs x is = absurd cc
free_has (o ∷ contexts) zero regs x is = absurd cc
free_has (o ∷ contexts) (suc slot) regs x is = free_has contexts slot regs x is

pub there_has : (contexts : List (Option Context)) (slot : ℕ) (c : Context) → context_at contexts slot ≡ Some c →
    Has c.regs (context_at contexts slot)
there_has contexts slot c there x is =
    let some : Some c ≡ Some x = sym there ∙ is in
    let same : c ≡ x = cc in
    ap (λ (y : Context). y.regs) (sym same)

-- a reservation is no register

cond_has : (b : Bool) (c : Context) (regs : List ℕ) → c.regs ≡ regs →
    Has regs (Some (cond b (record c { mark = None }) c))
cond_has true c regs same x is =
    let here : record c { mark = None } ≡ x = cc in ap (λ (y : Context). y.regs) (sym here) ∙ same
cond_has false c regs same x is = let here : c ≡ x = cc in ap (λ (y : Context). y.regs) (sym here) ∙ same

one_has : (place : PageWord) (o : Option Context) (regs : List ℕ) → Has regs o → Has regs (unless_reserved place o)
one_has place None regs has x is = absurd cc
one_has place (Some c) regs has x is = cond_has (is_reserved place c.mark) c regs (has c refl) x is

pub written_has : (place : PageWord) (contexts : List (Option Context)) (slot : ℕ) (regs : List ℕ) →
    Has regs (context_at contexts slot) → Has regs (context_at (map (unless_reserved place) contexts) slot)
written_has place [] slot regs has x is = absurd cc
written_has place (o ∷ contexts) zero regs has x is = one_has place o regs has x is
written_has place (o ∷ contexts) (suc slot) regs has x is = written_has place contexts slot regs has x is

-- what copies say to a program: nothing
copies_told : (n : ℕ) (list : List (ℕ × ℕ)) (w : World) → is_cloaked w ≡ true →
    items_of (played (copy_each n list) w).world ≡ items_of w
unfolding copy_each ask_copy copy_pages
copies_told n [] w form = refl
copies_told n (copy ∷ list) (Flat seen) form = absurd cc
copies_told n (copy ∷ list) (Cloaked c) form = copies_told n list (ask_copy n copy.0 copy.1 (Cloaked c)).world refl
copies_told n (copy ∷ list) (Alone h) form = absurd cc

module _ (slot : ℕ) (c : Context) (d : Control) (plain : PageId → List ℕ) (w : World)
    (there : context_at d.contexts slot ≡ Some c) (heard : Heard d.number plain (item.Ok d.number ∷ []) w)
  where
    -- as a hypercall answered with this word, if it answered
    abbrev Answered : Option ℕ → Stepped → Type 0
    Answered word t = Has (with_some c.regs 10 word) (context_at t.control.contexts slot)

    abbrev Leaves : Hypercall → Told Stepped → Type 0
    Leaves h t = Answered (hypercall_word h d c (inward_half d.number (items_of t.world))) t.answer

    word_answered : (value : ℕ) (d' : Control) → Answered (Some value) (answers_word slot c value d')
    word_answered value d' k is = set_has d'.contexts slot (with_answer c value) k is

    remapped_answered : (answer : Result (Unit {0}) MapFault) (d' : Control) →
        Answered (Some (done_word answer)) (remapped slot c answer d')
    unfolding remapped
    remapped_answered (Ok done) d' = word_answered 0 d'
    remapped_answered (Err f) d' = word_answered (fault_word f) d'

    thread_answered : (place : Option ℕ) → Answered (Some (thread_word d.number place)) (thread_at slot c place d)
    unfolding thread_at
    thread_answered None = word_answered _ d
    thread_answered (Some free) =
        let k = new_context c.space (register c.regs 10) (register c.regs 11) (register c.regs 12) in
        word_answered (context_number d.number free) (with_slot free k d)

    thread_if : (aligned : Bool) →
        Answered (cond aligned (Some (thread_word d.number (first_free d.contexts))) (Some (fault_word fault.BadArg)))
        (cond aligned (thread_at slot c (first_free d.contexts) d) (answers_word slot c (fault_word fault.BadArg) d))
    thread_if true = thread_answered (first_free d.contexts)
    thread_if false = word_answered _ d

    stays_so : Answered None (stopped d)
    stays_so = there_has d.contexts slot c there

    -- FORK

    abbrev Forked : Result (Unit {0}) MapFault → Told Stepped → Type 0
    Forked fits t = Answered (fork_word d fits (inward_half d.number (items_of t.world))) t.answer

    abbrev told_of : Told Fork → Told Stepped
    told_of t = answered (fork_told slot c d t.answer.answer (with_spaces t.answer.spaces d)) t.world

    heard_two : Heard d.number plain (item.Ok d.number ∷ answer_item d.number (cleared c d w).answer ∷ [])
        (cleared c d w).world
    heard_two =
        heard_asked d.number plain (item.Ok d.number ∷ []) (Clear d.number (marked c.space d.resources)) w heard

    not_both : (a : Answer) → (a ≡ told.Ok → ⊥) →
        both_granted (item.Ok d.number ∷ answer_item d.number a ∷ []) ≡ false
    not_both told.Ok other = absurd (other refl)
    not_both _ other = refl

    fork_word_if : (granted : Bool) (t : Stepped) →
        both_granted (inward_half d.number (items_of (cleared c d w).world)) ≡ granted →
        Answered (cond granted (Some (context_number d.number (unwrap_or (first_free d.contexts) 0))) None) t →
        Answered (fork_word d (Ok tt) (inward_half d.number (items_of (cleared c d w).world))) t
    fork_word_if granted t is has =
        subst (λ (b : Bool).
        Answered (cond b (Some (context_number d.number (unwrap_or (first_free d.contexts) 0))) None) t) (sym is) has

    fork_stops : (a : Answer) → (cleared c d w).answer ≡ a → (a ≡ told.Ok → ⊥) →
        Forked (Ok tt) (answered (stopped d) (cleared c d w).world)
    fork_stops a is other =
        fork_word_if false (stopped d)
        (ap both_granted heard_two.told ∙ ap (λ (x : Answer). both_granted
        (item.Ok d.number ∷ answer_item d.number x ∷ [])) is ∙ not_both a other) stays_so

    fork_cleared_leaves : (a : Answer) → (cleared c d w).answer ≡ a →
        Forked (Ok tt) (then_ask (played (fork_cleared d.number c (unwrap_or (first_free d.contexts) 0)
        (unwrap_or (first_free d.resources.spaces) 0) d.resources d.contexts a))
        (λ made. answered (fork_told slot c d made.answer (with_spaces made.spaces d))) (cleared c d w).world)
    unfolding fork_told
    fork_cleared_leaves told.Ok is =
        let n = d.number in
        let list = copies c.space d.resources in
        let v : World = (cleared c d w).world in
        let free = unwrap_or (first_free d.contexts) 0 in
        let d' : Control =
        with_spaces (forked c free (unwrap_or (first_free d.resources.spaces) 0) d.resources d.contexts) d in
        let told : inward_half n (items_of (played (copy_each n list) v).world) ≡ item.Ok n ∷ item.Ok n ∷ [] =
        ap (inward_half n) (copies_told n list v heard_two.form) ∙ heard_two.told
        ∙ ap (λ (x : Answer). item.Ok n ∷ answer_item n x ∷ []) is in
        subst (λ (t : Told Fork). Forked (Ok tt) (told_of t)) (sym (played_then (copy_each n list) _ v))
        (subst (λ (b : Bool).
        Answered (cond b (Some (context_number n free)) None) (answers_word slot c (context_number n free) d'))
        (sym (ap both_granted told)) (word_answered (context_number n free) d'))
    fork_cleared_leaves (told.Absent cause) is = fork_stops _ is (λ ok. cc)
    fork_cleared_leaves (told.Word value) is = fork_stops _ is (λ ok. cc)
    fork_cleared_leaves told.Stopped is = fork_stops _ is (λ ok. cc)

    fork_if_leaves : (fits : Bool) →
        Forked (cond fits (Ok tt) (Err fault.Full))
        (then_ask (played (fork_if (cond fits (Ok tt) (Err fault.Full)) d.number c d.resources d.contexts))
        (λ made. answered (fork_told slot c d made.answer (with_spaces made.spaces d))) w)
    unfolding fork_told
    fork_if_leaves true = fork_cleared_leaves (cleared c d w).answer refl
    fork_if_leaves false = word_answered _ d

    -- EXIT

    end_cleared_leaves : (a : Answer) →
        Answered None (then_ask (played (end_cleared d.number slot c.space d.resources d.contexts a))
        (λ made. answered (end_told slot c d made.ending (with_spaces made.spaces d))) (cleared c d w).world).answer
    unfolding end_told
    end_cleared_leaves told.Ok =
        subst (λ (t : Told End). Answered None (end_told slot c d t.answer.ending (with_spaces t.answer.spaces d)))
        (sym (played_then (forget_each d.number (private_numbers c.space d.resources)) _ (cleared c d w).world)) (free_has d.contexts slot c.regs)
    end_cleared_leaves (told.Absent cause) = stays_so
    end_cleared_leaves (told.Word value) = stays_so
    end_cleared_leaves told.Stopped = stays_so

    end_if_leaves : (others : Bool) →
        Answered None (then_ask (played (end_if others d.number slot c.space d.resources d.contexts))
        (λ made. answered (end_told slot c d made.ending (with_spaces made.spaces d))) w).answer
    unfolding end_told
    end_if_leaves true = free_has d.contexts slot c.regs
    end_if_leaves false = end_cleared_leaves (cleared c d w).answer

    -- CALL

    begun_by : (k : Context) (answer : Result Begun MapFault) → k.regs ≡ c.regs →
        Answered (call_word answer) (call_begun slot k answer d)
    unfolding call_begun
    begun_by k (Err f) same =
        has_same _ _ _ (ap (λ (regs : List ℕ). with_register regs 10 (fault_word f)) same)
        (set_has d.contexts slot (set_word k 10 (fault_word f)))
    begun_by k (Ok Copying) same = has_same _ _ _ same (set_has d.contexts slot k)
    begun_by k (Ok Leave) same = has_same _ _ _ same (set_has d.contexts slot (suspended k))

    begins_same : (begin_call d.resources (moved_on c)).context.regs ≡ c.regs
    unfolding begin_call
    begins_same =
        let k = moved_on c in
        let P : BeginsCall → Type 0 = λ b. b.context.regs ≡ c.regs in
        either P (has_buffer (call_number k)) (begin_copy d.resources k) (waiting k)
        (either P (is_good d.resources k) _ _ (either P (takes_bytes (call_number k)) _ (waiting k) refl refl) refl) refl

    pub hypercall_leaves : (h : Hypercall) → Leaves h (played (hypercall h slot c d) w)
    unfolding
        hypercall hypercall_word new_call map_call unmap_call file_call thread_call fork_call fork fork_fits exit_call
        end_context kernel_call
    hypercall_leaves New = word_answered _ d
    hypercall_leaves Map = remapped_answered _ _
    hypercall_leaves Unmap = remapped_answered _ _
    hypercall_leaves hyper.File = word_answered _ d
    hypercall_leaves Thread = thread_if (register c.regs 10 % 4 == 0)
    hypercall_leaves ForkSpace =
        plays_both (Forked (cond (has_room c.space d.resources d.contexts) (Ok tt) (Err fault.Full)))
        (fork d.number c d.resources d.contexts) _ w
        (fork_if_leaves (has_room c.space d.resources d.contexts))
    hypercall_leaves Exit =
        plays_both (λ t. Answered None t.answer) (end_context d.number slot c.space d.resources d.contexts) _ w
        (end_if_leaves (list_any (is_of_space c.space) (end_at slot d.contexts)))
    hypercall_leaves Call =
        let begins = begin_call d.resources (moved_on c) in begun_by begins.context begins.answer begins_same
    hypercall_leaves Unknown = word_answered _ d

    -- it was fetched
    pub hypercall_first : (h : Hypercall) →
        first_granted (inward_half d.number (items_of (played (hypercall h slot c d) w).world)) ≡ true
    hypercall_first h = by_kinds (λ t. first_granted (inward_half d.number (items_of t.world)) ≡ true) h slot c d w by
      where
        by : (k : CallKind h slot c d w) →
            first_granted (inward_half d.number (items_of (after h slot c d w k).world)) ≡ true
        by (Stops other) = ap first_granted heard_two.told
        by (Forks free new is room slots spaces ok) =
            ap (λ (items : List Item). first_granted (inward_half d.number items))
            (copies_told d.number (copies c.space d.resources) (cleared c d w).world heard_two.form)
            ∙ ap first_granted heard_two.told
        by (EndsSpace is none ok) =
            ap (λ (items : List Item). first_granted (inward_half d.number items))
            (drops_made d.number (private_numbers c.space d.resources) (cleared c d w).world heard_two.form).items
            ∙ ap first_granted heard_two.told
        by _ = ap first_granted heard.told
