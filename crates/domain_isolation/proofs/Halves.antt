-- Runs with one schedule, one program and one inward half for it agree in the program after every step.
use Rattle.std.proofs.Common.{◌≡◌, ◌∙◌, ◌≤◌, suc, ℕ, List, [], ◌∷◌, ◌++◌, Option, Some, refl, ap, sym, subst, arith, length, map, take, append_assoc, append-nil}
use Rattle.std.specs.List.{AllByRecursion}
use Rattle.std.proofs.lemmas.List.{length-map, take-map}
use Rattle.std.proofs.lemmas.List.Elements.{filter-append}
use Rattle.cloak_model.specs.declared.image.Bundle.{Bundle}
use Rattle.cloak_model.specs.declared.image.Program.{Program}
use Rattle.cloak_model.specs.Items.{Item}
use Rattle.cloak_model.specs.Items as item
use Rattle.cloak_model.specs.Beginning.{Beginning}
use Rattle.cloak_model.specs.Exchange.{steps_items}
use Rattle.cloak_model.specs.Halves.{is_inward, inward_half}
use Rattle.cloak_model.specs.Record.{IsOfStep}
use Rattle.cloak_model.specs.Parts.{DomainPart, domain_part}
use Rattle.cloak_model.specs.Joint.{Turn}
use Rattle.cloak_model.specs.Run.{Run, turns_from, first_moment, joint_after, closing, run_of, exchange, run_inward_half}
use Rattle.cloak_model.specs.DomainAlone.{DomainAlone, domain_alone_from, part_from}
use Rattle.domain_isolation.specs.Isolation.{Hosts, HasDomain, DomainDependsOnHalf}
use Rattle.kernel_isolation.specs.Isolation.{items_until}
use Rattle.domain_isolation.proofs.Ignoring.{inward_half_suffices}
use Rattle.domain_isolation.proofs.Opened.{opened_half}
use Rattle.domain_isolation.proofs.Isolated.{told_by, hosted, run_after, all_taken, domain_is_alone, domain_ends_alone}

-- What the steps told, from the half alone.

-- what stands before the first marker, and what each step told
record Parsed : Type 0 where
  pub front : List Item
  pub steps : List (List Item)

abbrev parsed_before : Item → Parsed → Parsed
parsed_before (item.Step number) rest = record { front = []; steps = rest.front ∷ rest.steps }
parsed_before (item.Close steps) rest = record { front = []; steps = [] }
parsed_before i rest = record { front = i ∷ rest.front; steps = rest.steps }

parsed : List Item → Parsed
parsed [] = record { front = []; steps = [] }
parsed (i ∷ items) = parsed_before i (parsed items)

parsed_one : (i : Item) (rest : Parsed) → IsOfStep i →
    parsed_before i rest ≡ record { front = i ∷ rest.front; steps = rest.steps }
parsed_one (item.Step number) rest is = absurd cc
parsed_one (item.Close steps) rest is = absurd cc
parsed_one _ rest is = refl

parsed_step : (told items : List Item) → AllByRecursion IsOfStep told →
    parsed (told ++ items) ≡ record { front = told ++ (parsed items).front; steps = (parsed items).steps }
unfolding parsed
parsed_step [] items all = refl
parsed_step (i ∷ told) items all =
    ap (parsed_before i) (parsed_step told items all.1)
    ∙ parsed_one i (record { front = told ++ (parsed items).front; steps = (parsed items).steps }) all.0

parsed_steps : (k closing : ℕ) (steps : List (List Item)) (rest : List Item) →
    AllByRecursion (AllByRecursion IsOfStep) steps →
    parsed (steps_items k steps ++ item.Close closing ∷ rest) ≡ record { front = []; steps = steps }
unfolding parsed steps_items
parsed_steps k closing [] rest all = refl
parsed_steps k closing (told ∷ steps) rest all =
    let later = steps_items (suc k) steps ++ item.Close closing ∷ rest in
    ap (λ (items : List Item). parsed_before (item.Step k) (parsed items))
    (append_assoc told (steps_items (suc k) steps) (item.Close closing ∷ rest))
    ∙ ap (parsed_before (item.Step k)) (parsed_step told later all.0)
    ∙ ap (λ (p : Parsed). let q : Parsed = record { front = []; steps = (told ++ p.front) ∷ p.steps } in q)
    (parsed_steps (suc k) closing steps rest all.1)
    ∙ ap (λ (items : List Item). let q : Parsed = record { front = []; steps = items ∷ steps } in q) (append-nil told)

-- The half of an exchange.

half_steps : (d k : ℕ) (turns : List Turn) →
    inward_half d (steps_items k (map (λ (t : Turn). t.items) turns)) ≡ steps_items k (told_by d turns)
unfolding steps_items
half_steps d k [] = refl
half_steps d k (t ∷ turns) =
    ap (λ (items : List Item). item.Step k ∷ items)
    (filter-append (is_inward d) t.items (steps_items (suc k) (map (λ (t : Turn). t.items) turns))
    ∙ ap (λ (items : List Item). inward_half d t.items ++ items) (half_steps d (suc k) turns))

-- of items that begin with none for the program, and its steps
half_of : (d k : ℕ) (opening rest : List Item) (turns : List Turn) → inward_half d opening ≡ [] →
    inward_half d (opening ++ (steps_items 1 (map (λ (t : Turn). t.items) turns) ++ item.Close k ∷ rest))
    ≡ steps_items 1 (told_by d turns) ++ item.Close k ∷ inward_half d rest
half_of d k opening rest turns none =
    let steps = steps_items 1 (map (λ (t : Turn). t.items) turns) in
    filter-append (is_inward d) opening (steps ++ item.Close k ∷ rest)
    ∙ ap (λ (items : List Item). items ++ inward_half d (steps ++ item.Close k ∷ rest)) none
    ∙ filter-append (is_inward d) steps (item.Close k ∷ rest)
    ∙ ap (λ (items : List Item). items ++ item.Close k ∷ inward_half d rest) (half_steps d 1 turns)

-- What a run told a program.
record Tells (d : ℕ) (r : Run) : Type 0 where
  pub steps : (parsed (run_inward_half d r)).steps ≡ told_by d r.turns
  pub until : (n : ℕ) → inward_half d (items_until n r) ≡ steps_items 1
      (take n (told_by d r.turns)) ++ item.Close n ∷ []

tells : (b : Bundle) (d : ℕ) (p : Program) (from : Beginning) (r : Run) → Hosts b d p from r → Tells d r
unfolding run_of
tells b d p from r h =
    let runs = hosted b d p from r h in
    let o = runs.opened in
    let turns = turns_from h.budget (first_moment b o.joint) in
    let none = opened_half b from o d runs.is_opened in
    let front = run_after b d p from h.budget o h.in_grammar runs.is_opened h.program (length turns) (omega arith) in
    let told : AllByRecursion (AllByRecursion IsOfStep) (told_by d turns) =
    subst (λ (l : List Turn). AllByRecursion (AllByRecursion IsOfStep) (told_by d l)) (all_taken turns) front.told in
    let count = length (map (λ (t : Turn). t.items) turns) in
    let last = (closing (joint_after o.joint turns)).items ++ item.End ∷ [] in
    subst (Tells d) runs.is
    (record {
      steps =
          ap (λ (items : List Item). (parsed items).steps) (half_of d count o.items last turns none)
          ∙ ap (λ (x : Parsed). x.steps) (parsed_steps 1 count (told_by d turns) (inward_half d last) told);
      until = λ n.
          half_of d n o.items [] (take n turns) none
          ∙ ap (λ (steps : List (List Item)). steps_items 1 steps ++ item.Close n ∷ [])
          (sym (take-map (λ (t : Turn). inward_half d t.items) n turns));
    })

-- Two runs.

same_domain : (d : ℕ) (schedule schedule' : List ℕ) (p p' : DomainPart) (items items' : List Item)
    (part part' : Option DomainPart) → schedule' ≡ schedule → p' ≡ p → items' ≡ items →
    HasDomain (domain_alone_from d schedule p items) part → HasDomain (domain_alone_from d schedule' p' items') part' →
    part' ≡ part
same_domain d schedule schedule' p p' items items' part part' same begun half has has' =
    sym has'.same
    ∙ ap (λ (s : List ℕ). Some (domain_alone_from d s p' items').part) same
    ∙ ap (λ (x : DomainPart). Some (domain_alone_from d schedule x items').part) begun
    ∙ ap (λ (l : List Item). Some (domain_alone_from d schedule p l).part) half
    ∙ has.same

pub domain_depends_on_half : DomainDependsOnHalf
domain_depends_on_half b b' d p from from' r r' h h' schedule begun half =
    let part : DomainPart = part_from d from p in
    let part' : DomainPart = part_from d from' p in
    let t = tells b d p from r h in
    let t' = tells b' d p from' r' h' in
    let told : told_by d r'.turns ≡ told_by d r.turns = sym t'.steps
    ∙ ap (λ (items : List Item). (parsed items).steps) half ∙ t.steps in
    let steps : length r'.turns ≡ length r.turns =
    sym (length-map r'.turns (λ (t : Turn). inward_half d t.items)) ∙ ap (λ (l : List (List Item)). length l) told
    ∙ length-map r.turns (λ (t : Turn). inward_half d t.items) in
    let ends = domain_ends_alone b d p from r h in
    let ends' = domain_ends_alone b' d p from' r' h' in
    record {
      steps = steps;
      after = λ n le.
          let le' : n ≤ length r'.turns = subst (λ (x : ℕ). n ≤ x) (sym steps) le in
          same_domain d b.kernel.schedule b'.kernel.schedule part part' _ _ _ _ schedule begun
          (t'.until n ∙ ap (λ (l : List (List Item)). steps_items 1 (take n l) ++ item.Close n ∷ []) told
          ∙ sym (t.until n))
          (domain_is_alone b d p from r h n le) (domain_is_alone b' d p from' r' h' n le');
      closed = same_domain d b.kernel.schedule b'.kernel.schedule part part' (run_inward_half d r)
          (run_inward_half d r') _ _ schedule begun half
          (subst (λ (s : DomainAlone). HasDomain s (domain_part r.closed.joint d))
          (sym (inward_half_suffices d b.kernel.schedule part (exchange r))) ends)
          (subst (λ (s : DomainAlone). HasDomain s (domain_part r'.closed.joint d))
          (sym (inward_half_suffices d b'.kernel.schedule part' (exchange r'))) ends');
    }
