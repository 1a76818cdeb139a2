-- A machine that runs a program alone ignores the items that are not in the program's half.
use Rattle.std.proofs.Common.{◌≡◌, ℕ, Bool, true, false, cond, List, [], ◌∷◌, ◌++◌, None, refl, sym, ap, ◌∙◌}
use Rattle.std.specs.Option.{is_some}
use Rattle.cloak_model.specs.Items.{Item}
use Rattle.cloak_model.specs.Items as item
use Rattle.cloak_model.specs.Halves.{is_inward, inward_half}
use Rattle.cloak_model.specs.DomainAlone.{DomainAlone, domain_takes, take_domain_item, domain_taken, opened_with_part}
use Rattle.domain_isolation.specs.Isolation.{InwardHalfSuffices}
use Rattle.kernel_isolation.proofs.Ignoring.{either_same}
use Rattle.std.proofs.lemmas.Bool.{cond-false}

takes_others : (d : ℕ) (schedule : List ℕ) (s : DomainAlone) (i : Item) → is_inward d i ≡ false →
    domain_takes d schedule i s ≡ s
unfolding domain_takes
takes_others d schedule s (item.Cipher frame bytes) is = refl
takes_others d schedule s (item.Put address width value) is = refl
takes_others d schedule s (item.Leave x) is = refl
takes_others d schedule s (item.Step number) is = absurd cc
takes_others d schedule s (item.Close steps) is = absurd cc
takes_others d schedule s item.End is = refl
takes_others d schedule s _ is = cond-false _ _ _ is

item_ignored : (d : ℕ) (schedule : List ℕ) (s : DomainAlone) (i : Item) → is_inward d i ≡ false →
    take_domain_item d schedule s i ≡ s
unfolding take_domain_item
item_ignored d schedule s i is =
    either_same (is_some s.unfit) s (domain_takes d schedule i s) (takes_others d schedule s i is)

half_one : (d : ℕ) (schedule : List ℕ) (s : DomainAlone) (i : Item) (items half : List Item) (test : Bool) →
    is_inward d i ≡ test →
    ((t : DomainAlone) → domain_taken d schedule t half ≡ domain_taken d schedule t items) →
    domain_taken d schedule s (cond test (i ∷ half) half) ≡ domain_taken d schedule s (i ∷ items)
unfolding domain_taken
half_one d schedule s i items half true is others = others (take_domain_item d schedule s i)
half_one d schedule s i items half false is others =
    others s ∙ ap (λ (t : DomainAlone). domain_taken d schedule t items) (sym (item_ignored d schedule s i is))

-- the half suffices, from every state on
pub half_taken : (d : ℕ) (schedule : List ℕ) (s : DomainAlone) (items : List Item) →
    domain_taken d schedule s (inward_half d items) ≡ domain_taken d schedule s items
half_taken d schedule s [] = refl
half_taken d schedule s (i ∷ items) =
    half_one d schedule s i items (inward_half d items) (is_inward d i) refl (λ t. half_taken d schedule t items)

pub inward_half_suffices : InwardHalfSuffices
inward_half_suffices d schedule p items = half_taken d schedule (opened_with_part p) items

-- what is taken one after another
pub taken_append : (d : ℕ) (schedule : List ℕ) (s : DomainAlone) (a b : List Item) →
    domain_taken d schedule s (a ++ b) ≡ domain_taken d schedule (domain_taken d schedule s a) b
unfolding domain_taken
taken_append d schedule s [] b = refl
taken_append d schedule s (i ∷ a) b = taken_append d schedule (take_domain_item d schedule s i) a b

-- items with one half have one effect
pub taken_half : (d : ℕ) (schedule : List ℕ) (s : DomainAlone) (items half : List Item) →
    inward_half d items ≡ half → domain_taken d schedule s items ≡ domain_taken d schedule s half
taken_half d schedule s items half is = sym (half_taken d schedule s items) ∙ ap (domain_taken d schedule s) is

-- an item that is taken when none was unfit
pub item_taken : (d : ℕ) (schedule : List ℕ) (s : DomainAlone) (i : Item) → s.unfit ≡ None →
    take_domain_item d schedule s i ≡ domain_takes d schedule i s
unfolding take_domain_item
item_taken d schedule s i fits = rw fits refl

pub none_taken : (d : ℕ) (schedule : List ℕ) (s : DomainAlone) → domain_taken d schedule s [] ≡ s
unfolding domain_taken
none_taken d schedule s = refl
