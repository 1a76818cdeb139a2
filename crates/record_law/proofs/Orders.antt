-- The order of an exchange, item by item.
use Rattle.std.proofs.Common.{◌≡◌, ℕ, suc, ◌+◌, true, List, [], ◌∷◌, ◌++◌, length, refl, sym, ap, subst, append_assoc, arith}
use Rattle.std.specs.List.{AllByRecursion}
use Rattle.std.proofs.lemmas.Bool.{eq-eqb, eqb-true}
use Rattle.cloak_model.specs.Items.{Item}
use Rattle.cloak_model.specs.Items as item
use Rattle.cloak_model.specs.Record.{IsCipher, IsOfStep, IsExchange}
use Rattle.cloak_model.specs.Exchange.{steps_items}
use Rattle.cloak_model.specs.declared.record.Stage.{Stage}
use Rattle.cloak_model.specs.declared.record.Stage.TheVariants.{Opening, Steps, Closing, Over}
use Rattle.cloak_model.specs.declared.record.Tag.TheVariants as tag
use Rattle.cloak_model.specs.Fields.{number}
use Rattle.cloak_model.specs.RecordFault.{may_stand, last_step, stage_after, stage_behind}
use Rattle.record_law.specs.Items.{is_numbered}
use Rattle.record_law.proofs.Spelling.{tag_at}
use Rattle.record_law.proofs.Following.{number_of, Succeeds}

-- each item may stand where it stands
abbrev pub Stands : Stage → List Item → Type 0
Stands s [] = Unit {0}
Stands s (i ∷ items) = Succeeds s i × Stands (stage_after s i) items

-- and the last one is End
abbrev pub Ends : Stage → List Item → Type 0
Ends s items = Stands s items × (stage_behind s items ≡ Over)

follows : (s : Stage) (i : Item) → may_stand s (tag_at i) ≡ true → is_numbered s (tag_at i) (number_of i) ≡ true → Succeeds s i
follows s i may numbered = record { may = may; numbered = numbered }

-- one item more in front
more : (s : Stage) (i : Item) (items : List Item) → Succeeds s i → Ends (stage_after s i) items → Ends s (i ∷ items)
unfolding stage_behind
more s i items f e = ((f, e.0), e.1)

pub Stands-front : (s : Stage) (front items : List Item) → Stands s (front ++ items) → Stands s front
Stands-front s [] items e = tt
Stands-front s (i ∷ front) items e = (e.0, Stands-front (stage_after s i) front items e.1)

pub Stands-append : (s : Stage) (front items : List Item) → Stands s front → Stands (stage_behind s front) items → Stands s (front ++ items)
unfolding stage_behind
Stands-append s [] items f e = e
Stands-append s (i ∷ front) items f e = (f.0, Stands-append (stage_after s i) front items f.1 e)

pub stage_behind-append : (s : Stage) (front items : List Item) → stage_behind s (front ++ items) ≡ stage_behind (stage_behind s front) items
unfolding stage_behind
stage_behind-append s [] items = refl
stage_behind-append s (i ∷ front) items = stage_behind-append (stage_after s i) front items

-- ---- an exchange stands so

opening_ends : (ciphers items : List Item) → AllByRecursion IsCipher ciphers → Ends Opening items → Ends Opening (ciphers ++ items)
opening_ends [] items all e = e
opening_ends (item.Cipher frame bytes ∷ ciphers) items all e = more Opening _ _ (follows _ (item.Cipher frame bytes) refl refl) (opening_ends ciphers items all.1 e)
opening_ends (i ∷ ciphers) items all e = absurd (let c = all.0 in cc)

closing_ends : (ciphers items : List Item) → AllByRecursion IsCipher ciphers → Ends Closing items → Ends Closing (ciphers ++ items)
closing_ends [] items all e = e
closing_ends (item.Cipher frame bytes ∷ ciphers) items all e = more Closing _ _ (follows _ (item.Cipher frame bytes) refl refl) (closing_ends ciphers items all.1 e)
closing_ends (i ∷ ciphers) items all e = absurd (let c = all.0 in cc)

of_step_follows : (n : ℕ) (i : Item) → IsOfStep i → Succeeds (Steps n) i × (stage_after (Steps n) i ≡ Steps n)
of_step_follows n (item.Cipher frame bytes) is = (follows _ (item.Cipher frame bytes) refl refl, refl)
of_step_follows n (item.Put address width value) is = (follows _ (item.Put address width value) refl refl, refl)
of_step_follows n (item.Leave x) is = (follows _ (item.Leave x) refl refl, refl)
of_step_follows n (item.Ok domain) is = (follows _ (item.Ok domain) refl refl, refl)
of_step_follows n (item.Absent domain cause) is = (follows _ (item.Absent domain cause) refl refl, refl)
of_step_follows n (item.Word domain value) is = (follows _ (item.Word domain value) refl refl, refl)
of_step_follows n (item.Timer domain) is = (follows _ (item.Timer domain) refl refl, refl)
of_step_follows n (item.Resume domain ctx answer) is = (follows _ (item.Resume domain ctx answer) refl refl, refl)
of_step_follows n (item.Stopped domain) is = (follows _ (item.Stopped domain) refl refl, refl)
of_step_follows n (item.Ended domain) is = (follows _ (item.Ended domain) refl refl, refl)
of_step_follows n _ is = absurd cc

step_ends : (n : ℕ) (step items : List Item) → AllByRecursion IsOfStep step → Ends (Steps n) items → Ends (Steps n) (step ++ items)
step_ends n [] items all e = e
step_ends n (i ∷ step) items all e =
    let f = of_step_follows n i all.0 in
    more (Steps n) i (step ++ items) f.0 (subst (λ s. Ends s (step ++ items)) (sym f.1) (step_ends n step items all.1 e))

-- a step or Close may come next, after n steps
record IsBehind (s : Stage) (n : ℕ) : Type 0 where
  step : may_stand s tag.Step ≡ true
  close : may_stand s tag.Close ≡ true
  last : last_step s ≡ n

steps_end : (s : Stage) (n last : ℕ) (steps : List (List Item)) (items : List Item) → IsBehind s n → last ≡ n + length steps → AllByRecursion (AllByRecursion IsOfStep) steps → Ends Closing items
    → Ends s (steps_items (suc n) steps ++ (item.Close last ∷ items))
unfolding steps_items
steps_end s n last [] items b is all e =
    more s (item.Close last) items (follows s (item.Close last) b.close (eq-eqb last (last_step s) (let l = b.last in omega arith))) e
steps_end s n last (step ∷ steps) items b is all e =
    let first = follows s (item.Step (suc n)) b.step (eq-eqb (suc n) (last_step s + 1) (let l = b.last in omega arith)) in
    let here : IsBehind (Steps (suc n)) (suc n) = record { step = refl; close = refl; last = refl } in
    let others = steps_end (Steps (suc n)) (suc n) last steps items here (omega arith) all.1 e in
    more s (item.Step (suc n)) _ first (subst (λ (l : List Item). Ends (Steps (suc n)) l) (sym (append_assoc step (steps_items (suc (suc n)) steps) (item.Close last ∷ items))) (step_ends (suc n) step _ all.0 others))

pub exchange_ends : (items : List Item) → IsExchange items → Ends Opening items
unfolding stage_behind
exchange_ends items x =
    let end : Ends Closing (item.End ∷ []) = ((follows Closing item.End refl refl, tt), refl) in
    let start : IsBehind Opening 0 = record { step = refl; close = refl; last = refl } in
    let steps = steps_end Opening 0 (length x.steps) x.steps (x.closing ++ item.End ∷ []) start (omega arith) x.of_steps (closing_ends x.closing (item.End ∷ []) x.closing_ciphers end) in
    subst (λ (l : List Item). Ends Opening l) (sym x.order) (opening_ends x.opening _ x.opening_ciphers steps)

-- ---- what stands so is an exchange

record ClosingRest (items : List Item) : Type 0 where
  closing : List Item
  order : items ≡ closing ++ item.End ∷ []
  ciphers : AllByRecursion IsCipher closing

over_none : (items : List Item) → Stands Over items → items ≡ []
over_none [] e = refl
over_none (i ∷ items) e = absurd (let m = e.0.may in cc)

closing_rest : (items : List Item) → Ends Closing items → ClosingRest items
unfolding stage_behind
closing_rest [] e = absurd (let x = e.1 in cc)
closing_rest (item.Cipher frame bytes ∷ items) e =
    let r = closing_rest items (e.0.1, e.1) in
    record { closing = item.Cipher frame bytes ∷ r.closing; order = ap (λ (l : List Item). item.Cipher frame bytes ∷ l) r.order; ciphers = (refl, r.ciphers) }
closing_rest (item.End ∷ items) e = record { closing = []; order = ap (λ (l : List Item). item.End ∷ l) (over_none items e.0.1); ciphers = tt }
closing_rest (i ∷ items) e = absurd (let m = e.0.0.may in cc)

record StepsRest (n : ℕ) (items : List Item) : Type 0 where
  step : List Item
  steps : List (List Item)
  closing : List Item
  order : items ≡ step ++ (steps_items (suc n) steps ++ (item.Close (n + length steps) ∷ (closing ++ item.End ∷ [])))
  of_step : AllByRecursion IsOfStep step
  of_steps : AllByRecursion (AllByRecursion IsOfStep) steps
  ciphers : AllByRecursion IsCipher closing

one_of_step : (n : ℕ) (i : Item) (items : List Item) → IsOfStep i → StepsRest n items → StepsRest n (i ∷ items)
one_of_step n i items is r = record {
  step = i ∷ r.step;
  steps = r.steps;
  closing = r.closing;
  order = ap (λ (l : List Item). i ∷ l) r.order;
  of_step = (is, r.of_step);
  of_steps = r.of_steps;
  ciphers = r.ciphers;
}

step_order : (number n last last' : ℕ) (step : List Item) (steps : List (List Item)) (tail items : List Item) → number ≡ suc n → last ≡ last' → items ≡ step ++ (steps_items (suc number) steps ++ (item.Close last ∷ tail))
    → item.Step number ∷ items ≡ item.Step (suc n) ∷ ((step ++ steps_items (suc (suc n)) steps) ++ (item.Close last' ∷ tail))
step_order number n last last' step steps tail items is same e =
    rw (e, is, same) (ap (λ (l : List Item). item.Step (suc n) ∷ l) (sym (append_assoc step (steps_items (suc (suc n)) steps) (item.Close last' ∷ tail))))

close_order : (a b : ℕ) (items tail : List Item) → a ≡ b → items ≡ tail → item.Close a ∷ items ≡ item.Close b ∷ tail
close_order a b items tail is e = rw (is, e) refl

steps_rest : (n : ℕ) (items : List Item) → Ends (Steps n) items → StepsRest n items
unfolding stage_behind steps_items
steps_rest n [] e = absurd (let x = e.1 in cc)
steps_rest n (item.Step number ∷ items) e =
    let is : number ≡ n + 1 = eqb-true number (n + 1) e.0.0.numbered in
    let r = steps_rest number items (e.0.1, e.1) in
    let suc_is : number ≡ suc n = omega arith in
    record {
      step = [];
      steps = r.step ∷ r.steps;
      closing = r.closing;
      order = step_order number n _ _ r.step r.steps (r.closing ++ item.End ∷ []) items suc_is (omega arith) r.order;
      of_step = tt;
      of_steps = (r.of_step, r.of_steps);
      ciphers = r.ciphers;
    }
steps_rest n (item.Close steps ∷ items) e =
    let is : steps ≡ n = eqb-true steps n e.0.0.numbered in
    let r = closing_rest items (e.0.1, e.1) in
    record { step = []; steps = []; closing = r.closing; order = close_order _ _ items _ (omega arith) r.order; of_step = tt; of_steps = tt; ciphers = r.ciphers }
steps_rest n (item.End ∷ items) e = absurd (let m = e.0.0.may in cc)
steps_rest n (item.Cipher frame bytes ∷ items) e = one_of_step n _ items refl (steps_rest n items (e.0.1, e.1))
steps_rest n (item.Put address width value ∷ items) e = one_of_step n _ items refl (steps_rest n items (e.0.1, e.1))
steps_rest n (item.Leave x ∷ items) e = one_of_step n _ items refl (steps_rest n items (e.0.1, e.1))
steps_rest n (item.Ok domain ∷ items) e = one_of_step n _ items refl (steps_rest n items (e.0.1, e.1))
steps_rest n (item.Absent domain cause ∷ items) e = one_of_step n _ items refl (steps_rest n items (e.0.1, e.1))
steps_rest n (item.Word domain value ∷ items) e = one_of_step n _ items refl (steps_rest n items (e.0.1, e.1))
steps_rest n (item.Timer domain ∷ items) e = one_of_step n _ items refl (steps_rest n items (e.0.1, e.1))
steps_rest n (item.Resume domain ctx answer ∷ items) e = one_of_step n _ items refl (steps_rest n items (e.0.1, e.1))
steps_rest n (item.Stopped domain ∷ items) e = one_of_step n _ items refl (steps_rest n items (e.0.1, e.1))
steps_rest n (item.Ended domain ∷ items) e = one_of_step n _ items refl (steps_rest n items (e.0.1, e.1))

pub ends_exchange : (items : List Item) → Ends Opening items → IsExchange items
unfolding stage_behind steps_items
ends_exchange [] e = absurd (let x = e.1 in cc)
ends_exchange (item.Cipher frame bytes ∷ items) e =
    let x = ends_exchange items (e.0.1, e.1) in
    record {
      opening = item.Cipher frame bytes ∷ x.opening;
      steps = x.steps;
      closing = x.closing;
      order = ap (λ (l : List Item). item.Cipher frame bytes ∷ l) x.order;
      opening_ciphers = (refl, x.opening_ciphers);
      of_steps = x.of_steps;
      closing_ciphers = x.closing_ciphers;
    }
ends_exchange (item.Step number ∷ items) e =
    let is : number ≡ 0 + 1 = eqb-true number (0 + 1) e.0.0.numbered in
    let r = steps_rest number items (e.0.1, e.1) in
    record {
      opening = [];
      steps = r.step ∷ r.steps;
      closing = r.closing;
      order = step_order number 0 _ _ r.step r.steps (r.closing ++ item.End ∷ []) items (omega arith) (omega arith) r.order;
      opening_ciphers = tt;
      of_steps = (r.of_step, r.of_steps);
      closing_ciphers = r.ciphers;
    }
ends_exchange (item.Close steps ∷ items) e =
    let is : steps ≡ 0 = eqb-true steps 0 e.0.0.numbered in
    let r = closing_rest items (e.0.1, e.1) in
    record { opening = []; steps = []; closing = r.closing; order = close_order _ _ items _ is r.order; opening_ciphers = tt; of_steps = tt; closing_ciphers = r.ciphers }
ends_exchange (i ∷ items) e = absurd (let m = e.0.0.may in cc)
