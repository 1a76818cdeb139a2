-- One walk of a program's step, for what is kept by its questions where each page is reached at its address, and by a
-- store in a page that was just reached for it. What is kept may count: a step reaches two pages at most, or one, and
-- other memory once.
use Rattle.std.proofs.Common.{◌≡◌, ◌≤◌, ℕ, ◌+◌, ◌%◌, Bool, true, false, cond, nat_le, Option, Some, None, refl, subst, sym, arith, if◌then◌else◌}
use Rattle.std.specs.Prelude.{◌==◌}
use Rattle.cloak_base.specs.Registers.{register}
use Rattle.cloak_base.specs.declared.names.Kind.{Kind}
use Rattle.cloak_base.specs.declared.names.Kind.TheVariants.{Fetch, Load, Store}
use Rattle.cloak_base.specs.declared.names.PageId.{PageId}
use Rattle.rv_isa.specs.declared.instr.Instr.{Instr}
use Rattle.rv_isa.specs.declared.instr.Instr.TheVariants as instr
use Rattle.rv_atomic.specs.Table.{atomic_instruction}
use Rattle.rv_atomic.specs.declared.atomic.Atomic.{Atomic}
use Rattle.rv_atomic.specs.declared.atomic.AtomicOp.{AtomicOp}
use Rattle.rv_atomic.specs.declared.atomic.AtomicOp.TheVariants.{Lr, Sc}
use Rattle.cloak_model.specs.declared.answer.Answer.{Answer}
use Rattle.cloak_model.specs.declared.answer.Answer.TheVariants as told
use Rattle.cloak_model.specs.declared.context.Phase.{Phase}
use Rattle.cloak_model.specs.declared.context.Phase.TheVariants.{Plain, CopyIn, Waiting, CopyOut}
use Rattle.cloak_model.specs.declared.inside.Ran.{Ran}
use Rattle.cloak_model.specs.declared.inside.Ran.TheVariants as ran
use Rattle.cloak_model.specs.declared.outcome.Effect.{Effect}
use Rattle.cloak_model.specs.declared.outcome.Effect.TheVariants as does
use Rattle.cloak_model.specs.Asking.{Told}
use Rattle.cloak_model.proofs.Playing.{plays_both, plain_played, copy_in_played, copy_out_played}
use Rattle.cloak_model.specs.AskPages.{is_store, ask_reach, ask_read, ask_write, ask_get, ask_put}
use Rattle.cloak_model.specs.Calls as calls
use Rattle.cloak_model.specs.Calls.{buffer, area, byte_address, copy_in_step, copy_out_step}
use Rattle.cloak_model.specs.Contexts.{Context, word_of_page, is_reserved, context_at}
use Rattle.cloak_model.specs.DomainState.{Domain}
use Rattle.cloak_model.specs.DomainStep.{DomainStepped, domain_script, instruction_ended, phase_step, step_if, domain_step}
use Rattle.cloak_model.specs.Effect.{effect}
use Rattle.cloak_model.specs.Hypercalls.{Hypercall, hypercall, hypercall_of}
use Rattle.cloak_model.specs.InsideStep.{AfterInstruction, if_reached, if_got, load_inside, store_inside, atomic_granted, atomic_placed, atomic_inside, system_inside, done_inside, decoded_inside, fetch, instruction_inside}
use Rattle.cloak_model.proofs.InsideParts.{conditional_inside}
use Rattle.cloak_model.specs.KernelStep.{atomic_kind}
use Rattle.cloak_model.specs.Resources.{Resources, page_at}
use Rattle.cloak_model.specs.World.{World}
use Rattle.cloak_model.specs.Script.{Script, played}

-- the page that a place names is of this kind there
abbrev pub IsIf : (PageId → ℕ → Type 0) → Option PageId → ℕ → Type 0
IsIf P place va = (q : PageId) → place ≡ Some q → P q va

-- the pages of a space of a domain are of this kind, each at its addresses
abbrev pub AreOf : (PageId → ℕ → Type 0) → ℕ → Resources → ℕ → Type 0
AreOf P domain r space = (va : ℕ) → IsIf P (page_at domain r space va) va

-- What is kept, with its count: a reach counts once, and what is asked of other memory at most once.
pub record Walked (P : PageId → ℕ → Type 0) (g : ℕ) (R : ℕ → World → World → Type 0) : Type 0 where
  pub same : (w : World) → R 0 w w
  pub chained : (a b : ℕ) (u v w : World) → R a u v → R b v w → R (a + b) u w
  pub wider : (a b : ℕ) (w v : World) → a ≤ b → R a w v → R b w v
  pub few : g ≤ 1
  pub reach : (q : PageId) (va : ℕ) → P q va → (kind : Kind) (w : World) → R 1 w (ask_reach q va kind w).world
  pub get : (va width : ℕ) (w : World) → R g w (ask_get va width w).world
  pub put : (va width value : ℕ) (w : World) → R g w (ask_put va width value w).world
  -- a page is stored in that was just reached for a store
  pub store : (q : PageId) (va : ℕ) → P q va → (kind : Kind) (at width value : ℕ) (w : World) → is_store kind ≡ true →
      (ask_reach q va kind w).answer ≡ told.Ok → R 1 w (ask_write q at width value (ask_reach q va kind w).world).world

module _ (P : PageId → ℕ → Type 0) (g : ℕ) (R : ℕ → World → World → Type 0) (k : Walked P g R) where
  still : (n : ℕ) (w : World) → R n w w
  still n w = k.wider 0 n w w (omega arith) (k.same w)

  two : (w v : World) → R 1 w v → R 2 w v
  two w v here = k.wider 1 2 w v (omega arith) here

  got : (va width : ℕ) (w : World) → R 1 w (ask_get va width w).world
  got va width w = k.wider g 1 _ _ k.few (k.get va width w)

  stored : (va width value : ℕ) (w : World) → R 1 w (ask_put va width value w).world
  stored va width value w = k.wider g 1 _ _ k.few (k.put va width value w)

  -- what follows an answer

  if_reached_walks : (n : ℕ) (c : Context) (va : ℕ) (a : Answer) (next : Script AfterInstruction) (w v : World) →
      R n w v → (a ≡ told.Ok → R n w (played next v).world) → R n w (played (if_reached c va a next) v).world
  if_reached_walks n c va told.Ok next w v here more = more refl
  if_reached_walks n c va _ next w v here more = here

  if_got_walks : (n : ℕ) (c : Context) (va : ℕ) (a : Answer) (next : ℕ → Script AfterInstruction) (w v : World) →
      R n w v → ((value : ℕ) → R n w (played (next value) v).world) → R n w (played (if_got c va a next) v).world
  if_got_walks n c va (told.Word value) next w v here more = more value
  if_got_walks n c va _ next w v here more = here

  load_walks : (c : Context) (rd va width : ℕ) (signed : Bool) (place : Option PageId) (w : World) → IsIf P place va →
      R 1 w (played (load_inside c rd va width signed place) w).world
  unfolding load_inside ask_read
  load_walks c rd va width signed None w is =
      if_got_walks 1 c va (ask_get va width w).answer _ w _ (got va width w) (λ value. got va width w)
  load_walks c rd va width signed (Some q) w is =
      if_reached_walks 1 c va (ask_reach q va Load w).answer _ w _ (k.reach q va (is q refl) Load w)
      (λ ok. k.reach q va (is q refl) Load w)

  store_walks : (c : Context) (va width value : ℕ) (place : Option PageId) (w : World) → IsIf P place va →
      R 1 w (played (store_inside c va width value place) w).world
  unfolding store_inside
  store_walks c va width value None w is =
      if_reached_walks 1 c va (ask_put va width value w).answer _ w _ (stored va width value w)
      (λ ok. stored va width value w)
  store_walks c va width value (Some q) w is =
      if_reached_walks 1 c va (ask_reach q va Store w).answer _ w _ (k.reach q va (is q refl) Store w)
      (λ ok. k.store q va (is q refl) Store (va % 4096) width value w refl ok)

  conditional_walks : (reserved : Bool) (c : Context) (rd : ℕ) (q : PageId) (va operand : ℕ) (w v : World) → R 1 w v →
      ((at width value : ℕ) → R 1 w (ask_write q at width value v).world) →
      R 1 w (played (conditional_inside reserved c rd q va operand) v).world
  conditional_walks true c rd q va operand w v here writes = writes (va % 4096) 4 operand
  conditional_walks false c rd q va operand w v here writes = here

  granted_walks : (c : Context) (rd : ℕ) (op : AtomicOp) (q : PageId) (va operand : ℕ) (w v : World) → R 1 w v →
      (is_store (atomic_kind op) ≡ true → (at width value : ℕ) → R 1 w (ask_write q at width value v).world) →
      R 1 w (played (atomic_granted c rd op q va operand) v).world
  unfolding atomic_granted ask_read
  granted_walks c rd Lr q va operand w v here writes = here
  granted_walks c rd Sc q va operand w v here writes =
      conditional_walks (is_reserved (word_of_page q va) c.mark) c rd q va operand w v here (writes refl)
  granted_walks c rd op q va operand w v here writes = writes refl (va % 4096) 4 _

  placed_walks : (c : Context) (rd : ℕ) (op : AtomicOp) (va operand : ℕ) (place : Option PageId) (w : World) →
      IsIf P place va → R 1 w (played (atomic_placed c rd op va operand place) w).world
  unfolding atomic_placed
  placed_walks c rd op va operand None w is = still 1 w
  placed_walks c rd op va operand (Some q) w is =
      let kind : Kind = atomic_kind op in
      if_reached_walks 1 c va (ask_reach q va kind w).answer _ w _ (k.reach q va (is q refl) kind w)
      (λ ok. granted_walks c rd op q va operand w _ (k.reach q va (is q refl) kind w)
      (λ stores at width value. k.store q va (is q refl) kind at width value w stores ok))

  either_walks : {A : Type 0} (test : Bool) (w : World) (t u : Script A) → R 1 w (played t w).world →
      R 1 w (played u w).world → R 1 w (played (cond test t u) w).world
  either_walks true w t u first second = first
  either_walks false w t u first second = second

  atomic_walks : (domain : ℕ) (r : Resources) (c : Context) (a : Option Atomic) (w : World) → AreOf P domain r c.space →
      R 1 w (played (atomic_inside domain r c a) w).world
  unfolding atomic_inside
  atomic_walks domain r c None w are = still 1 w
  atomic_walks domain r c (Some a) w are =
      let va = register c.regs a.rs1 in
      either_walks (va % 4 == 0) w _ _ (placed_walks c a.rd a.op va _ (page_at domain r c.space va) w (are va)) (still 1 w)

  system_walks : (c : Context) (i : Instr) (w : World) → R 1 w (played (system_inside c i) w).world
  unfolding system_inside
  system_walks c instr.Ecall w = still 1 w
  system_walks c _ w = still 1 w

  done_walks : (domain : ℕ) (r : Resources) (c : Context) (i : Instr) (e : Effect) (w : World) →
      AreOf P domain r c.space → R 1 w (played (done_inside domain r c i e) w).world
  unfolding done_inside
  done_walks domain r c i (does.Load rd va width signed) w are =
      load_walks c rd va width signed (page_at domain r c.space va) w (are va)
  done_walks domain r c i (does.Store va width value) w are =
      store_walks c va width value (page_at domain r c.space va) w (are va)
  done_walks domain r c i does.System w are = system_walks c i w
  done_walks domain r c i _ w are = still 1 w

  decoded_walks : (domain : ℕ) (r : Resources) (c : Context) (word : ℕ) (i : Option Instr) (w : World) →
      AreOf P domain r c.space → R 1 w (played (decoded_inside domain r c word i) w).world
  unfolding decoded_inside
  decoded_walks domain r c word None w are = atomic_walks domain r c (atomic_instruction word) w are
  decoded_walks domain r c word (Some i) w are = done_walks domain r c i (effect i c.regs c.pc) w are

  fetch_walks : (domain : ℕ) (r : Resources) (c : Context) (place : Option PageId) (w : World) → IsIf P place c.pc →
      AreOf P domain r c.space → R 2 w (played (fetch domain r c place) w).world
  unfolding fetch ask_read
  fetch_walks domain r c None w is are = still 2 w
  fetch_walks domain r c (Some q) w is are =
      k.chained 1 1 _ _ _ (k.reach q c.pc (is q refl) Fetch w)
      (if_reached_walks 1 c c.pc (ask_reach q c.pc Fetch w).answer _ _ _ (still 1 _)
      (λ ok. decoded_walks domain r c _ _ _ are))

  pub instruction_walks : (domain : ℕ) (r : Resources) (c : Context) (w : World) → AreOf P domain r c.space →
      R 2 w (played (instruction_inside domain r c) w).world
  unfolding instruction_inside
  instruction_walks domain r c w are = fetch_walks domain r c (page_at domain r c.space c.pc) w (are c.pc) are

  -- Copying.

  if_put_walks : (n : ℕ) (c : Context) (va : ℕ) (a : Answer) (next : Script calls.Copy) (w v : World) →
      R n w v → (a ≡ told.Ok → R n w (played next v).world) → R n w (played (calls.if_reached c va a next) v).world
  if_put_walks n c va told.Ok next w v here more = more refl
  if_put_walks n c va _ next w v here more = here

  if_byte_walks : (n : ℕ) (c : Context) (va : ℕ) (a : Answer) (next : ℕ → Script calls.Copy) (w v : World) →
      R n w v → ((byte : ℕ) → R n w (played (next byte) v).world) → R n w (played (calls.if_got c va a next) v).world
  if_byte_walks n c va (told.Word byte) next w v here more = more byte
  if_byte_walks n c va _ next w v here more = here

  if_apart_walks : (n : ℕ) (c : Context) (place : Option PageId) (cloaked : Bool) (next : PageId → Script calls.Copy)
      (w : World) → ((q : PageId) → place ≡ Some q → R n w (played (next q) w).world) →
      R n w (played (calls.if_apart c place cloaked next) w).world
  if_apart_walks n c (Some q) false next w more = more q refl
  if_apart_walks n c _ _ next w more = still n w

  unless_over : (n : ℕ) (over : Bool) (end next : Script calls.Copy) (w : World) → R n w (played end w).world →
      R n w (played next w).world → R n w (played (if over then end else next) w).world
  unless_over n true end next w first second = first
  unless_over n false end next w first second = second

  pub copy_in_walks : (domain : ℕ) (r : Resources) (c : Context) (done : ℕ) (w : World) → AreOf P domain r c.space →
      R (1 + g) w (played (copy_in_step domain r c done) w).world
  unfolding copy_in_step ask_read
  copy_in_walks domain r c done w are =
      let from : ℕ = byte_address (buffer c) done in
      let to : ℕ = byte_address (area c) done in
      unless_over (1 + g) (nat_le (calls.call_length c) done) _ _ w (still _ w)
      (if_apart_walks (1 + g) c (page_at domain r c.space from) (calls.is_cloaked r c to) _ w (λ q is.
      let v : World = (ask_reach q from Load w).world in
      let byte : ℕ = (ask_read q (from % 4096) 1 v).answer in
      let put : R g v (ask_put to 1 byte v).world = k.put to 1 byte v in
      k.chained 1 g w v _ (k.reach q from (are from q is) Load w)
      (if_put_walks g c from (ask_reach q from Load w).answer _ v v (still g v)
      (λ ok. if_put_walks g c to (ask_put to 1 byte v).answer _ v _ put (λ ok. put)))))

  pub copy_out_walks : (domain : ℕ) (r : Resources) (c : Context) (done total : ℕ) (w : World) →
      AreOf P domain r c.space → R (g + 1) w (played (copy_out_step domain r c done total) w).world
  unfolding copy_out_step
  copy_out_walks domain r c done total w are =
      let from : ℕ = byte_address (area c) done in
      let to : ℕ = byte_address (buffer c) done in
      unless_over (g + 1) (nat_le total done) _ _ w (still _ w)
      (if_apart_walks (g + 1) c (page_at domain r c.space to) (calls.is_cloaked r c from) _ w (λ q is.
      let v : World = (ask_get from 1 w).world in
      k.chained g 1 w v _ (k.get from 1 w) (if_byte_walks 1 c from (ask_get from 1 w).answer _ v v (still 1 v) (λ byte.
      if_put_walks 1 c to (ask_reach q to Store v).answer _ v _ (k.reach q to (are to q is) Store v)
      (λ ok. k.store q to (are to q is) Store (to % 4096) 1 byte v refl ok)))))

  -- The step, if its hypercalls keep it without a count.

  module _ (d : Domain)
      (asks : (h : Hypercall) (slot : ℕ) (c : Context) (w : World) → R 0 w (played (hypercall h slot c d.control) w).world) where
    ended_walks : (slot : ℕ) (c : Context) (e : Ran) (w : World) → R 0 w (played (instruction_ended slot d c e) w).world
    unfolding instruction_ended
    ended_walks slot c ran.Ecall w =
        plays_both (λ t. R 0 w t.world) (hypercall (hypercall_of c) slot c d.control) _ w (asks (hypercall_of c) slot c w)
    ended_walks slot c _ w = k.same w

    abbrev Owns : Context → Type 0
    Owns c = AreOf P d.control.number d.control.resources c.space

    phase_walks : (phase : Phase) (slot : ℕ) (c : Context) (w : World) → Owns c → R 2 w (played (phase_step phase slot c d) w).world
    unfolding phase_step
    phase_walks Plain slot c w are =
        subst (λ (t : Told DomainStepped). R 2 w t.world) (sym (plain_played slot c d w)) (k.chained 2 0 _ _ _ (instruction_walks d.control.number d.control.resources c w are) (ended_walks slot _ _ _))
    phase_walks (CopyIn done) slot c w are =
        let few = k.few in
        subst (λ (t : Told DomainStepped). R 2 w t.world) (sym (copy_in_played done slot c d w))
        (k.wider (1 + g) 2 _ _ (omega (arith, few)) (copy_in_walks d.control.number d.control.resources c done w are))
    phase_walks Waiting slot c w are = still 2 w
    phase_walks (CopyOut done total) slot c w are =
        let few = k.few in
        subst (λ (t : Told DomainStepped). R 2 w t.world) (sym (copy_out_played done total slot c d w))
        (k.wider (g + 1) 2 _ _ (omega (arith, few)) (copy_out_walks d.control.number d.control.resources c done total w are))

    step_if_walks : (o : Option Context) (slot : ℕ) (w : World) → ((c : Context) → o ≡ Some c → Owns c) →
        R 2 w (played (step_if o slot d) w).world
    unfolding step_if
    step_if_walks None slot w own = still 2 w
    step_if_walks (Some c) slot w own = phase_walks c.phase slot c w (own c refl)

    pub step_walks : (slot : ℕ) (w : World) → ((c : Context) → context_at d.control.contexts slot ≡ Some c → Owns c) →
        R 2 w (domain_step slot d w).world
    unfolding domain_step domain_script
    step_walks slot w own = step_if_walks (context_at d.control.contexts slot) slot w own
