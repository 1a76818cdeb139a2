-- A step of a hart inside is the kernel alone's if RAM is what its items say.
use Rattle.std.proofs.Common.{◌≡◌, ℕ, suc, ◌<◌, Bool, true, false, cond, eqb, List, [], ◌∷◌, ◌++◌, length, Option, Some, None, refl, sym, ap, subst, ◌∙◌}
use Rattle.std.proofs.lemmas.Bool.{eq-eqb}
use Rattle.std.proofs.lemmas.List.{get_or-set_same, set-set}
use Rattle.cloak_base.specs.declared.causes.Shown.{Shown}
use Rattle.cloak_model.specs.Items.{Item}
use Rattle.cloak_model.specs.Items as item
use Rattle.cloak_model.specs.Hart.{Hart, started}
use Rattle.cloak_model.specs.KernelAlone.{KernelAlone, Between, Inside, Left, kernel_unfit, kernel_hart, with_kernel_hart, kernel_step_ended, kernel_step_begun, take_kernel_step, take_leave, kernel_takes, take_kernel_item, kernel_taken, kernel_seen, with_kernel_seen}
use Rattle.cloak_model.specs.KernelStep.{ticked}
use Rattle.cloak_model.specs.Leaving.{leave}
use Rattle.cloak_model.specs.Parts.{KernelPart}
use Rattle.kernel_isolation.proofs.Ignoring.{kernel_append, taken_fit}
use Rattle.kernel_isolation.proofs.Between.{KernelGoesOn, KernelStepIsAlone, hart_behind, ended_between}
use Rattle.kernel_isolation.proofs.Shown.{with_ram, fits}
use Rattle.kernel_isolation.proofs.Items.{AreWithin, with_items, items_taken}
use Rattle.cloak_model.specs.Memory.{with_mark}

-- the kernel's part after such a step, whose hart is now this
abbrev pub after_inside : ℕ → Hart → List Item → KernelPart → KernelPart
after_inside hart h items k = with_kernel_seen (with_items items (kernel_seen k)) (with_kernel_hart hart h k)

-- one that has left has no reservation
abbrev pub left_inside : ℕ → Hart → List Item → KernelPart → KernelPart
left_inside hart h items k =
    let k' = after_inside hart h items k in record k' { marks = with_mark hart None k'.marks }

-- the hart of a part, its timer counted
abbrev pub ticked_hart : ℕ → KernelPart → Hart
ticked_hart hart k = ticked (kernel_hart k hart)

-- a step of a hart inside begins
abbrev begun_inside : ℕ → ℕ → ℕ → KernelAlone → KernelAlone
begun_inside hart ctx n s =
    record s {
      kernel = with_kernel_hart hart (ticked_hart hart s.kernel) s.kernel;
      steps = suc n;
      stage =
          Inside hart ctx;
    }

begins : (schedule : List ℕ) (n ctx : ℕ) (s : KernelAlone) (inside : Option ℕ) (halted : Bool) → halted ≡ false →
    inside ≡ Some ctx →
    cond halted (kernel_unfit s) (kernel_step_begun (hart_behind schedule n) inside (record s { steps = suc n }))
    ≡ begun_inside (hart_behind schedule n) ctx n s
unfolding kernel_step_begun
begins schedule n ctx s None false h i = absurd cc
begins schedule n ctx s (Some c) false h i =
    (let same : c ≡ ctx = cc in ap (λ x. begun_inside (hart_behind schedule n) x n s) same)
begins schedule n ctx s inside true h i = absurd cc

step_taken : (schedule : List ℕ) (n ctx : ℕ) (s : KernelAlone) → s.unfit ≡ None → s.stage ≡ Between → s.halted ≡ false →
    (kernel_hart s.kernel (hart_behind schedule n)).inside ≡ Some ctx →
    take_kernel_item schedule s (item.Step (suc n)) ≡ begun_inside (hart_behind schedule n) ctx n s
unfolding kernel_takes take_kernel_step
step_taken schedule n ctx s none stage halted inside =
    taken_fit schedule s (item.Step (suc n)) none
    ∙ ap (take_kernel_step schedule (suc n)) (ended_between s.stage s stage)
    ∙ begins schedule n ctx s (kernel_hart s.kernel (hart_behind schedule n)).inside s.halted halted inside

-- the state after the items of a step inside
abbrev behind_items : ℕ → ℕ → ℕ → List Item → KernelAlone → KernelAlone
behind_items hart ctx n items s = with_ram (with_items items (kernel_seen s.kernel)) (begun_inside hart ctx n s)

inside_taken : (schedule : List ℕ) (n ctx : ℕ) (s : KernelAlone) (items : List Item) → s.unfit ≡ None →
    s.stage ≡ Between → s.halted ≡ false → (kernel_hart s.kernel (hart_behind schedule n)).inside ≡ Some ctx →
    AreWithin s.kernel.ram items →
    kernel_taken schedule s (item.Step (suc n) ∷ items) ≡ behind_items (hart_behind schedule n) ctx n items s
unfolding kernel_taken
inside_taken schedule n ctx s items none stage halted inside all =
    ap (λ t. kernel_taken schedule t items) (step_taken schedule n ctx s none stage halted inside)
    ∙ items_taken schedule (hart_behind schedule n) ctx items
    (begun_inside (hart_behind schedule n) ctx n s) none refl all

-- A step that stays.

staying_ends : (hart n ctx : ℕ) (s : KernelAlone) (items : List Item) (stops : Bool) → s.unfit ≡ None →
    s.halted ≡ false →
    let t = behind_items hart ctx n items s in
    KernelGoesOn (kernel_step_ended t.stage t) (suc n)
    (after_inside hart (ticked_hart hart s.kernel) items s.kernel) stops
unfolding kernel_step_ended
staying_ends hart n ctx s items stops none halted =
    record { rests = record { same = refl; steps = refl; stage = refl; fits = none }; halted = λ e. halted }

pub staying_step_is_alone : (schedule : List ℕ) (n ctx : ℕ) (k : KernelPart) (items : List Item) (stops : Bool) →
    let hart = hart_behind schedule n in (kernel_hart k hart).inside ≡ Some ctx → AreWithin k.ram items →
    KernelStepIsAlone schedule n k items (after_inside hart (ticked_hart hart k) items k) stops
staying_step_is_alone schedule n ctx k items stops inside all s on =
    let hart : ℕ = hart_behind schedule n in
    let r = on.rests in
    let inside' = subst (λ (p : KernelPart). (kernel_hart p hart).inside ≡ Some ctx) (sym r.same) inside in
    let all' = subst (λ (p : KernelPart). AreWithin p.ram items) (sym r.same) all in
    let taken = inside_taken schedule n ctx s items r.fits r.stage (on.halted refl) inside' all' in
    let after = λ (p : KernelPart). after_inside hart (ticked_hart hart p) items p in
    let s' = kernel_taken schedule s (item.Step (suc n) ∷ items) in
    subst (λ (p : KernelPart). KernelGoesOn (kernel_step_ended s'.stage s') (suc n) (after p) stops) r.same
    (subst (λ (t : KernelAlone). KernelGoesOn (kernel_step_ended t.stage t) (suc n) (after s.kernel) stops) (sym taken)
    (staying_ends hart n ctx s items stops r.fits (on.halted refl)))

-- A step that leaves.

-- a part whose hart has left
abbrev left_hart : ℕ → Hart → KernelPart → KernelPart
left_hart hart h k = with_kernel_hart hart h (record k { marks = with_mark hart None k.marks })

leave_taken : (schedule : List ℕ) (hart ctx : ℕ) (shown : Shown) (s : KernelAlone) → s.unfit ≡ None →
    s.stage ≡ Inside hart ctx → shown.ctx ≡ ctx →
    kernel_taken schedule s (item.Leave shown ∷ [])
    ≡ record s { kernel = left_hart hart (leave (kernel_hart s.kernel hart) shown) s.kernel; stage = Left }
unfolding kernel_taken kernel_takes take_leave
leave_taken schedule hart ctx shown s none stage same =
    taken_fit schedule s (item.Leave shown) none
    ∙ ap (λ p. take_leave p shown s) stage
    ∙ fits (eqb shown.ctx ctx) s _ (eq-eqb _ _ same)

-- the state after a step that left
abbrev behind_leave : ℕ → Shown → ℕ → List Item → KernelAlone → KernelAlone
behind_leave hart shown n items s = record s {
  kernel = left_inside hart (leave (ticked_hart hart s.kernel) shown) items s.kernel;
  steps = suc n;
  stage = Left;
}

hart_same : (hart : ℕ) (h : Hart) (k : KernelPart) → hart < length k.harts →
    kernel_hart (with_kernel_hart hart h k) hart ≡ h
hart_same hart h k lt = get_or-set_same k.harts hart h (started 0 0) lt

twice : (hart : ℕ) (a b : Hart) (items : List Item) (k : KernelPart) →
    left_hart hart b (with_kernel_seen (with_items items (kernel_seen k)) (with_kernel_hart hart a k))
    ≡ left_inside hart b items k
twice hart a b items k =
    let now = with_items items (kernel_seen k) in
    ap (λ (l : List Hart). let p : KernelPart =
    record {
      harts = l;
      ram = now.ram;
      disk = k.disk;
      console = k.console;
      marks = with_mark hart None now.marks;
    } in p)
    (set-set k.harts hart a b)

leaving_taken : (schedule : List ℕ) (n : ℕ) (s : KernelAlone) (items : List Item) (shown : Shown) → s.unfit ≡ None →
    s.stage ≡ Between → s.halted ≡ false → hart_behind schedule n < length s.kernel.harts →
    (kernel_hart s.kernel (hart_behind schedule n)).inside ≡ Some shown.ctx → AreWithin s.kernel.ram items →
    kernel_taken schedule s (item.Step (suc n) ∷ (items ++ item.Leave shown ∷ []))
    ≡ behind_leave (hart_behind schedule n) shown n items s
leaving_taken schedule n s items shown none stage halted lt inside all =
    let hart : ℕ = hart_behind schedule n in
    let h = ticked_hart hart s.kernel in
    let t = behind_items hart shown.ctx n items s in
    let now : kernel_hart t.kernel hart ≡ h = hart_same hart h s.kernel lt in
    kernel_append schedule s (item.Step (suc n) ∷ items) (item.Leave shown ∷ [])
    ∙ ap (λ x. kernel_taken schedule x (item.Leave shown ∷ []))
    (inside_taken schedule n shown.ctx s items none stage halted inside all)
    ∙ leave_taken schedule hart shown.ctx shown t none refl refl
    ∙ ap (λ x. let r : KernelAlone =
    record t { kernel = left_hart hart (leave x shown) t.kernel; stage = Left } in r) now
    ∙ ap (λ (p : KernelPart). let r : KernelAlone = record t { kernel = p; stage = Left } in r)
    (twice hart h (leave h shown) items s.kernel)

leaving_ends : (hart n : ℕ) (s : KernelAlone) (items : List Item) (shown : Shown) (stops : Bool) → s.unfit ≡ None →
    s.halted ≡ false → let t = behind_leave hart shown n items s in
    KernelGoesOn (kernel_step_ended t.stage t) (suc n)
    (left_inside hart (leave (ticked_hart hart s.kernel) shown) items s.kernel) stops
unfolding kernel_step_ended
leaving_ends hart n s items shown stops none halted =
    record { rests = record { same = refl; steps = refl; stage = refl; fits = none }; halted = λ e. halted }

pub leaving_step_is_alone : (schedule : List ℕ) (n : ℕ) (k : KernelPart) (items : List Item) (shown : Shown)
    (stops : Bool) →
    let hart = hart_behind schedule n in hart < length k.harts → (kernel_hart k hart).inside ≡ Some shown.ctx →
    AreWithin k.ram items →
    KernelStepIsAlone schedule n k (items ++ item.Leave shown ∷ [])
    (left_inside hart (leave (ticked_hart hart k) shown) items k) stops
leaving_step_is_alone schedule n k items shown stops lt inside all s on =
    let hart : ℕ = hart_behind schedule n in
    let r = on.rests in
    let lt' = subst (λ (p : KernelPart). hart < length p.harts) (sym r.same) lt in
    let inside' = subst (λ (p : KernelPart). (kernel_hart p hart).inside ≡ Some shown.ctx) (sym r.same) inside in
    let all' = subst (λ (p : KernelPart). AreWithin p.ram items) (sym r.same) all in
    let taken = leaving_taken schedule n s items shown r.fits r.stage (on.halted refl) lt' inside' all' in
    let after = λ (p : KernelPart). left_inside hart (leave (ticked_hart hart p) shown) items p in
    let s' = kernel_taken schedule s (item.Step (suc n) ∷ (items ++ item.Leave shown ∷ [])) in
    subst (λ (p : KernelPart). KernelGoesOn (kernel_step_ended s'.stage s') (suc n) (after p) stops) r.same
    (subst (λ (t : KernelAlone). KernelGoesOn (kernel_step_ended t.stage t) (suc n) (after s.kernel) stops) (sym taken)
    (leaving_ends hart n s items shown stops r.fits (on.halted refl)))
