-- A hypercall writes in no word of its program whose resource is in use before it and after it: what it makes was free,
-- and what it drops is free then.
use Rattle.std.proofs.Common.{◌≡◌, ◌≢◌, ◌∙◌, ℕ, ◌<◌, Bool, true, false, cond, List, [], ◌∷◌, length, map, Option, Some, None, Result, Ok, Err, refl, sym, ap, All, is_some, zero-add}
use Rattle.std.specs.Prelude.{position}
use Rattle.std.proofs.lemmas.Bool.{false≢true}
use Rattle.std.proofs.lemmas.List.Elements.{All-head, All-tail}
use Rattle.cloak_base.specs.Registers.{register}
use Rattle.cloak_base.proofs.Pages.{is_of-other}
use Rattle.cloak_base.specs.declared.names.PageId.{PageId}
use Rattle.cloak_model.specs.declared.answer.Answer.{Answer}
use Rattle.cloak_model.specs.declared.answer.Answer.TheVariants as told
use Rattle.cloak_model.specs.declared.context.PageWord.{PageWord}
use Rattle.cloak_model.specs.declared.resource.MapFault.{MapFault}
use Rattle.cloak_model.specs.declared.resource.Owner.TheVariants.{Space, File}
use Rattle.cloak_model.specs.declared.resource.Resource.{Resource}
use Rattle.cloak_model.specs.Items.{Item}
use Rattle.cloak_model.specs.Items as item
use Rattle.cloak_model.specs.Asking.{Told}
use Rattle.cloak_model.specs.AskPages.{answer_item}
use Rattle.cloak_model.specs.Contexts.{Context}
use Rattle.cloak_model.specs.DomainState.{Control}
use Rattle.cloak_model.specs.Files.{holds_file}
use Rattle.cloak_model.specs.Fork.{marked, private_numbers, free_numbers, copies}
use Rattle.cloak_model.specs.Halves.{inward_half}
use Rattle.cloak_model.specs.Hypercalls as hyper
use Rattle.cloak_model.specs.Hypercalls.{Stepped, Hypercall, New, ForkSpace, Exit, hypercall}
use Rattle.cloak_model.specs.Resources.{Resources, resource_at, is_private_to, without_space, drop_space}
use Rattle.cloak_model.specs.Script.{Clear, played}
use Rattle.cloak_model.specs.World.{World, items_of}
use Rattle.hypercall_kinds.specs.Kinds.{cleared, CallKind, Stops, Forks, EndsSpace, after}
use Rattle.hypercall_kinds.proofs.ByKinds.{by_kinds}
use Rattle.resource_map.proofs.Lists.{get_or-map_all}
use Rattle.resource_map.proofs.Places.{All-places}
use Rattle.resource_map.proofs.Copies.{All-zip, free_all}
use Rattle.latest_store.specs.Moves.{Copies, Drops}
use Rattle.latest_store.specs.Deeds.{both_granted, made_moves, file_moves, hypercall_moves}
use Rattle.latest_store.proofs.Heard.{Heard, heard_asked}
use Rattle.latest_store.proofs.Numbers.{made_free}
use Rattle.context_law.specs.Inside.{page_of}
use Rattle.context_law.proofs.Stores.{or_none, both_none}
use Rattle.context_law.proofs.Others.{Misses, misses_if}

-- a number is in use
abbrev pub IsUsed : Resources → ℕ → Type 0
IsUsed r n = is_some (resource_at r n) ≡ true

-- a free number is another one
other_used : (r : Resources) (n k : ℕ) → IsUsed r n → resource_at r k ≡ None → n ≢ k
other_used r n k used free same =
    false≢true (ap is_some (sym free) ∙ ap (λ (m : ℕ). is_some (resource_at r m)) (sym same) ∙ used)

module _ (n : ℕ) (word : PageWord) where
  made_spares : (r : Resources) (made : Result ℕ MapFault) → ((k : ℕ) → made ≡ Ok k → resource_at r k ≡ None) →
      IsUsed r word.resource → Misses n word (made_moves n made)
  made_spares r (Ok k) free used =
      or_none _ (is_of-other n k (page_of n word) (λ is. other_used r word.resource k used (free k refl) is.1))
  made_spares r (Err fault) free used = refl

  copies_spare : (list : List (ℕ × ℕ)) → All (λ (copy : ℕ × ℕ). word.resource ≢ copy.1) list →
      Misses n word (map (λ (copy : ℕ × ℕ). Copies n copy.0 copy.1) list)
  copies_spare [] other = refl
  copies_spare (copy ∷ list) other =
      both_none _ _
      (is_of-other n copy.1 (page_of n word) (λ is. All-head (λ (c : ℕ × ℕ). word.resource ≢ c.1) copy list other is.1))
      (copies_spare list (All-tail (λ (c : ℕ × ℕ). word.resource ≢ c.1) copy list other))

  drops_spare : (list : List ℕ) → All (λ (k : ℕ). word.resource ≢ k) list →
      Misses n word (map (λ (k : ℕ). Drops n k) list)
  drops_spare [] other = refl
  drops_spare (k ∷ list) other =
      both_none _ _
      (is_of-other n k (page_of n word) (λ is. All-head (λ (m : ℕ). word.resource ≢ m) k list other is.1))
      (drops_spare list (All-tail (λ (m : ℕ). word.resource ≢ m) k list other))

-- the numbers of copies were free
pub copies_free : (space : ℕ) (r : Resources) (n : ℕ) → IsUsed r n → All (λ (copy : ℕ × ℕ). n ≢ copy.1) (copies space r)
copies_free space r n used =
    let each = All-zip (λ (a : ℕ). Unit {0}) (λ k. (k < length r.held) × (resource_at r k ≡ None))
    (private_numbers space r) (free_numbers r) (λ k d l. tt) (free_all r) in
    λ k d l. other_used r n _ used (each k d l).1.1

-- the numbers of what is dropped are free then

pub dropped_at : (space : ℕ) (r : Resources) (n : ℕ) →
    resource_at (drop_space space r) n ≡ without_space space (resource_at r n)
unfolding drop_space
dropped_at space r n = get_or-map_all (without_space space) None None r.held n refl

private_gone : (space : ℕ) (o : Option Resource) → is_private_to space o ≡ true → is_some (without_space space o) ≡ false
private_gone space None is = absurd (false≢true is)
private_gone space (Some held) is = ap (λ (b : Bool). is_some (cond b None (Some held))) is

dropped_gone : (space : ℕ) (r : Resources) (n : ℕ) → IsUsed (drop_space space r) n →
    All (λ (k : ℕ). n ≢ k) (private_numbers space r)
dropped_gone space r n used =
    All-places (is_private_to space) (λ k. n ≢ k) None 0 r.held (λ i lt private same.
    let at : n ≡ i = same ∙ zero-add i in
    false≢true (sym (private_gone space (resource_at r i) private)
    ∙ ap is_some (sym (dropped_at space r i)) ∙ ap (λ (m : ℕ). is_some (resource_at (drop_space space r) m)) (sym at)
    ∙ used))

-- By what the program was told: an end of a context whose space stays asks nothing.

module _ (slot : ℕ) (c : Context) (d : Control) (plain : PageId → List ℕ) (w : World)
    (heard : Heard d.number plain (item.Ok d.number ∷ []) w)
  where
    abbrev Spares : Hypercall → Told Stepped → Type 0
    Spares h t =
        (word : PageWord) → IsUsed d.resources word.resource → IsUsed t.answer.control.resources word.resource →
        Misses d.number word (hypercall_moves h d c (inward_half d.number (items_of t.world)))

    not_both : (a : Answer) → a ≢ told.Ok → both_granted (item.Ok d.number ∷ answer_item d.number a ∷ []) ≡ false
    not_both told.Ok other = absurd (other refl)
    not_both _ other = refl

    drops_if : (word : PageWord) (granted : Bool) → granted ≡ false →
        Misses d.number word (cond granted (map (λ (k : ℕ). Drops d.number k) (private_numbers c.space d.resources)) [])
    drops_if word true is = absurd (false≢true (sym is))
    drops_if word false is = refl

    exit_kind : (k : CallKind Exit slot c d w) → Spares Exit (after Exit slot c d w k)
    unfolding hypercall_moves
    exit_kind (Stops other) word before later =
        let two = heard_asked d.number plain (item.Ok d.number ∷ [])
        (Clear d.number (marked c.space d.resources)) w heard in
        drops_if word _ (ap both_granted two.told ∙ not_both (cleared c d w).answer other)
    exit_kind (Forks free new is room slots spaces ok) word before later = absurd cc
    exit_kind (EndsSpace is none ok) word before later =
        misses_if d.number word (both_granted (inward_half d.number (items_of (after Exit slot c d w (EndsSpace is none ok)).world)))
        (map (λ (k : ℕ). Drops d.number k) (private_numbers c.space d.resources))
        (drops_spare d.number word (private_numbers c.space d.resources)
        (dropped_gone c.space d.resources word.resource later))
    exit_kind _ word before later = drops_if word _ (ap both_granted heard.told)

    file_spares : (word : PageWord) (place : Option ℕ) → IsUsed d.resources word.resource →
        Misses d.number word (file_moves d c place)
    file_spares word None before =
        made_spares d.number word d.resources _
        (λ k is. made_free (File (register c.regs 10)) (register c.regs 11) d.resources k is) before
    file_spares word (Some n) before = refl

    pub hypercall_spares : (h : Hypercall) → Spares h (played (hypercall h slot c d) w)
    unfolding hypercall_moves
    hypercall_spares New word before later =
        made_spares d.number word d.resources _
        (λ k is. made_free (Space c.space) (register c.regs 10) d.resources k is) before
    hypercall_spares hyper.File word before later =
        file_spares word (position (holds_file (register c.regs 10)) d.resources.held) before
    hypercall_spares ForkSpace word before later =
        misses_if d.number word
        (both_granted (inward_half d.number (items_of (played (hypercall ForkSpace slot c d) w).world)))
        (map (λ (copy : ℕ × ℕ). Copies d.number copy.0 copy.1) (copies c.space d.resources))
        (copies_spare d.number word (copies c.space d.resources)
        (copies_free c.space d.resources word.resource before))
    hypercall_spares Exit word before later =
        by_kinds (Spares Exit) Exit slot c d w exit_kind word before later
    hypercall_spares _ word before later = refl
