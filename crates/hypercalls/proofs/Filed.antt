-- What a file that was added leaves as it was.
use Rattle.std.proofs.Common.{◌≡◌, ◌<◌, ℕ, Bool, true, false, cond, length, Option, Some, None, Result, refl, subst, sym}
use Rattle.std.specs.Prelude.{◌==◌, ◌||◌, ◌+◌, nat_lt, is_none, position, IfErr, IfOk, IfSome}
use Rattle.cloak_model.specs.declared.resource.MapFault.{MapFault}
use Rattle.cloak_model.specs.declared.resource.MapFault.TheVariants.{Full, BadArg}
use Rattle.cloak_model.specs.declared.resource.Owner.{Owner}
use Rattle.cloak_model.specs.declared.resource.Owner.TheVariants.{File}
use Rattle.cloak_model.specs.DomainState as model
use Rattle.cloak_model.specs.Resources.{Resources, Mapped, resource_at, pages_of, all_pages, first_free, refused, made_at, new_resource}
use Rattle.cloak_model.specs.Files.{holds_file, file_found, file_resource}
use Rattle.hypercalls.specs.declared.domain.Domain.{Domain}
use Rattle.hypercalls.proofs.Freed.{free_file}
use Rattle.cloak_base.proofs.Lists.{place_below}

-- what was true of resources is true of those after a refusal
abbrev HoldsIfRefused : (Resources → Type 0) → Mapped ℕ → Type 0
HoldsIfRefused P m = IfErr m.answer (λ fault. P m.resources)

either_refused : (P : Resources → Type 0) (b : Bool) (m n : Mapped ℕ) → HoldsIfRefused P m → HoldsIfRefused P n →
    HoldsIfRefused P (cond b m n)
either_refused P true m n holds other = holds
either_refused P false m n holds other = other

made_refused : (P : Resources → Type 0) (owner : Owner) (pages : ℕ) (place : Option ℕ) (r : Resources) → P r →
    HoldsIfRefused P (made_at owner pages place r)
unfolding made_at
made_refused P owner pages None r holds = holds
made_refused P owner pages (Some n) r holds = tt

new_refused : (P : Resources → Type 0) (owner : Owner) (pages : ℕ) (r : Resources) → P r →
    HoldsIfRefused P (new_resource owner pages r)
unfolding new_resource
new_refused P owner pages r holds =
    let made : Mapped ℕ = made_at owner pages (first_free r.held) r in
    let full : Bool = nat_lt 1024 (all_pages r + pages) in
    either_refused P ((pages == 0) || nat_lt 1024 pages) (refused BadArg r) (cond full (refused Full r) made) holds
    (either_refused P full (refused Full r) made holds (made_refused P owner pages (first_free r.held) r holds))

found_refused : (P : Resources → Type 0) (number pages : ℕ) (place : Option ℕ) (r : Resources) → P r →
    HoldsIfRefused P (file_found number pages place r)
unfolding file_found
found_refused P number pages None r holds = new_refused P (File number) pages r holds
found_refused P number pages (Some n) r holds =
    either_refused P (pages_of (resource_at r n) == pages) _ (refused BadArg r) tt holds

file_refused : (P : Resources → Type 0) (number pages : ℕ) (r : Resources) → P r →
    HoldsIfRefused P (file_resource number pages r)
unfolding file_resource
file_refused P number pages r holds = found_refused P number pages (position (holds_file number) r.held) r holds

-- the domain is as it was after a refusal
pub refused_stays : (old : Domain) (new : model.Control) (number pages : ℕ) (given : Result ℕ MapFault) →
    record { answer = given; resources = new.resources } ≡ file_resource number pages old.control.resources →
    new ≡ record old.control { resources = new.resources } → IfErr given (λ fault. record old { control = new } ≡ old)
refused_stays old new number pages given value rest =
    let P : Resources → Type 0 = λ r. record old { control = record old.control { resources = r } } ≡ old in
    let told = file_refused P number pages old.control.resources refl in
    subst (λ (x : model.Control). IfErr given (λ fault. record old { control = x } ≡ old)) (sym rest)
    (subst (λ (m : Mapped ℕ). HoldsIfRefused P m) (sym value) told)

-- a number that is free was free before
pub added_free : (old new : Resources) (number pages : ℕ) (given : Result ℕ MapFault) →
    record { answer = given; resources = new } ≡ file_resource number pages old → (n : ℕ) →
    resource_at new n ≡ None → resource_at old n ≡ None
added_free old new number pages given value n =
    subst (λ (m : Mapped ℕ). resource_at m.resources n ≡ None → resource_at old n ≡ None) (sym value)
    (free_file number pages old n)

-- What is told of a file.

-- an answer is the number of a resource
abbrev IsBelow : ℕ → Result ℕ MapFault → Type 0
IsBelow n answer = IfOk answer (λ k. k < n)

either_below : (n : ℕ) (b : Bool) (m o : Mapped ℕ) → IsBelow n m.answer → IsBelow n o.answer → IsBelow n (cond b m o).answer
either_below n true m o first second = first
either_below n false m o first second = second

made_below : (owner : Owner) (pages : ℕ) (place : Option ℕ) (r : Resources) → IfSome place (λ k. k < length r.held) →
    IsBelow (length r.held) (made_at owner pages place r).answer
unfolding made_at
made_below owner pages None r below = tt
made_below owner pages (Some k) r below = below

new_below : (owner : Owner) (pages : ℕ) (r : Resources) → IsBelow (length r.held) (new_resource owner pages r).answer
unfolding new_resource
new_below owner pages r =
    let made : Mapped ℕ = made_at owner pages (first_free r.held) r in
    let full : Bool = nat_lt 1024 (all_pages r + pages) in
    either_below (length r.held) ((pages == 0) || nat_lt 1024 pages) (refused BadArg r) (cond full (refused Full r) made) tt
    (either_below (length r.held) full (refused Full r) made tt
    (made_below owner pages (first_free r.held) r (place_below is_none r.held)))

found_below : (number pages : ℕ) (place : Option ℕ) (r : Resources) → IfSome place (λ k. k < length r.held) →
    IsBelow (length r.held) (file_found number pages place r).answer
unfolding file_found
found_below number pages None r below = new_below (File number) pages r
found_below number pages (Some n) r below =
    either_below (length r.held) (pages_of (resource_at r n) == pages) _ (refused BadArg r) below tt

pub file_below : (number pages : ℕ) (r : Resources) (n : ℕ) → length r.held ≡ n →
    IfOk (file_resource number pages r).answer (λ k. k < n)
unfolding file_resource
file_below number pages r n count =
    subst (λ (m : ℕ). IsBelow m (file_resource number pages r).answer) count
    (found_below number pages _ r (place_below (holds_file number) r.held))
