-- A state of a machine that can go on passes every test: keys and draws are there, each page has its digest, and each
-- domain has a program.
use Rattle.std.proofs.Common.{◌≡◌, ◌<◌, ◌∙◌, ℕ, List, [], length, slice_get, slice_index_or, Option, Some, None, All, refl, sym, subst, arith}
use Rattle.std.specs.Prelude.{IsSomeAnd, option_and_then, option_map}
use Rattle.cloak_base.specs.Random.{Random}
use Rattle.cloak_base.specs.declared.names.PageId.{PageId}
use Rattle.cloak_model.specs.Cloaking.{CloakedMemory, owed_in}
use Rattle.cloak_model.specs.DomainState as program
use Rattle.cloak_model.specs.Ledger.{Keys}
use Rattle.cloak_model.specs.Opening.{drawn_keys, key_count, keys_for}
use Rattle.cloak_model.specs.Parts.{Joint}
use Rattle.cloak_model.specs.declared.image.Bundle.{Bundle}
use Rattle.frozen_state.specs.declared.frozen.Frozen.{Frozen}
use Rattle.frozen_state.specs.declared.frozen.FrozenDomain.{FrozenDomain}
use Rattle.frozen_state.specs.declared.frozen.FrozenFrame.{FrozenFrame}
use Rattle.frozen_state.specs.FrozenState.{domain_under, owed_under}
use Rattle.frozen_state.specs.Refusing.{HasChangedDomain, HasChangedFrame, HasWrongPage, IsFirstChanged, IsFirstWrong, IsWholeDomain, IsWholeFrame, LacksDraws, LacksKeys, UnderKeys}
use Rattle.frozen_state.specs.Thawing.{CanGoOn, keys_and_rest}
use Rattle.joint_machine.proofs.GoesOn.{program_of}
use Rattle.joint_machine.proofs.Shown.{DrewOne, IsFrameShown, ShowsAll, domain_seen, frame_seen, shows_all}
use Rattle.joint_machine.proofs.Thaws.{get_there, some_there}
use Rattle.io_traits.specs.Skipping.{skipped}
use Rattle.std.proofs.lemmas.Option.{slice_get_within}
use Rattle.resource_map.proofs.Lists.{All-slice_get}

pub not_none : {A : Type 0} {o : Option A} (x : A) → o ≡ Some x → o ≡ None → ⊥
not_none x is none = (let clash : None ≡ Some x = sym none ∙ is in cc)

-- Keys and draws.

found_none : (b : Bundle) (draws : ℕ) (drawn : Option (List (List ℕ) × Random)) (found : Keys × Random) → drawn ≡ None →
    option_and_then (λ (d : List (List ℕ) × Random).
    option_map (λ (rest : Random). (keys_for b.programs d.0, rest)) (skipped draws d.1)) drawn ≡ Some found → ⊥
found_none b draws None found none is = not_none found is refl
found_none b draws (Some d) found none is = not_none d refl none

pub has_keys : {b : Bundle} {stream : Random} {f : Frozen} {j : Joint} → CanGoOn b stream f j → LacksKeys b stream → ⊥
unfolding keys_and_rest
has_keys {b} {stream} {f} {j} on lacks =
    found_none b f.draws (drawn_keys (key_count b.programs) stream) (j.memory.ledger.keys, j.memory.ledger.stream) lacks
    on.keys

pub has_draws : {b : Bundle} {stream : Random} {f : Frozen} {j : Joint} → CanGoOn b stream f j →
    LacksDraws b stream f → ⊥
has_draws {b} {stream} {f} {j} on lacks =
    not_none (j.memory.ledger.keys, j.memory.ledger.stream) on.keys lacks.1

-- what is true under the keys of the stream is true under those of the machine
under_its_keys : {b : Bundle} {stream : Random} {f : Frozen} {j : Joint} (P : Keys → Type 0) → CanGoOn b stream f j →
    UnderKeys b stream f P → P j.memory.ledger.keys
under_its_keys P on under =
    subst (λ (o : Option (Keys × Random)). IsSomeAnd o (λ drawn. P drawn.0)) on.keys under

-- Pages.

whole_domain : (j : Joint) (k : ℕ) (domain : program.Domain) (x : FrozenDomain) → DrewOne (domain_under j k domain) x →
    IsWholeDomain x
unfolding domain_under
whole_domain j k domain x drew = subst IsWholeDomain (sym drew.is) refl

-- domain k of the machine, if the state shows one of that number
domain_there : {j : Joint} {f : Frozen} → ShowsAll j f → (k : ℕ) → k < length f.domains →
    (domain : program.Domain) × (slice_get j.domains k ≡ Some domain)
domain_there {j} {f} shows k low =
    some_there j.domains k (let count = shows.domains.count in omega (arith, low, count))

whole_domains : {j : Joint} {f : Frozen} → ShowsAll j f → All IsWholeDomain f.domains
whole_domains {j} {f} shows k none low =
    let x = slice_index_or f.domains k none in
    let domain = domain_there shows k low in
    whole_domain j k domain.0 x (domain_seen j f shows k x domain.0 (get_there f.domains k none low) domain.1)

whole_frame : (m : CloakedMemory) (bytes : List ℕ) (owed : Option PageId) (x : FrozenFrame) →
    IsFrameShown m bytes owed x → IsWholeFrame x
unfolding owed_under
whole_frame m bytes None x shown = subst IsWholeFrame (sym shown) tt
whole_frame m bytes (Some q) x shown = subst IsWholeFrame (sym shown.is) refl

whole_frames : {j : Joint} {f : Frozen} → ShowsAll j f → All IsWholeFrame f.frames
whole_frames {j} {f} shows k none low =
    let x = slice_index_or f.frames k none in
    whole_frame j.memory (slice_index_or j.memory.ram k []) (owed_in j.memory k) x
    (frame_seen j f shows k x (get_there f.frames k none low))

none_changed : {A : Type 0} (IsWhole : A → Type 0) (xs : List A) (n : ℕ) → All IsWhole xs →
    IsFirstChanged IsWhole xs n → ⊥
none_changed IsWhole xs n whole first = first.changed (All-slice_get IsWhole xs n first.x whole first.there)

none_wrong : {b : Bundle} {stream : Random} {f : Frozen} {j : Joint} {at : ℕ} → CanGoOn b stream f j →
    IsFirstWrong j.memory.ledger.keys f at → ⊥
none_wrong {b} {stream} {f} {j} {at} on first =
    let shows = shows_all j f f.steps on.ivs on.state in
    let domain = domain_there shows first.d (slice_get_within f.domains first.d first.shown first.there) in
    first.wrong domain.0.control
    (program_of b stream f j j.memory.ledger.keys first.d domain.0 first.shown on shows refl domain.1 first.there)

pub no_domain_changed : {b : Bundle} {stream : Random} {f : Frozen} {j : Joint} (d : ℕ) → CanGoOn b stream f j →
    HasChangedDomain b stream f d → ⊥
no_domain_changed {b} {stream} {f} {j} d on changed =
    none_changed IsWholeDomain f.domains d (whole_domains (shows_all j f f.steps on.ivs on.state))
    (under_its_keys (λ keys. IsFirstChanged IsWholeDomain f.domains d) on changed)

pub no_frame_changed : {b : Bundle} {stream : Random} {f : Frozen} {j : Joint} (n : ℕ) → CanGoOn b stream f j →
    HasChangedFrame b stream f n → ⊥
no_frame_changed {b} {stream} {f} {j} n on changed =
    let both = under_its_keys (λ keys. All IsWholeDomain f.domains × IsFirstChanged IsWholeFrame f.frames n) on
    changed in
    none_changed IsWholeFrame f.frames n (whole_frames (shows_all j f f.steps on.ivs on.state)) both.1

pub no_page_wrong : {b : Bundle} {stream : Random} {f : Frozen} {j : Joint} (at : ℕ) → CanGoOn b stream f j →
    HasWrongPage b stream f at → ⊥
no_page_wrong {b} {stream} {f} {j} at on wrong =
    let all = under_its_keys
    (λ keys. All IsWholeDomain f.domains × (All IsWholeFrame f.frames × IsFirstWrong keys f at)) on wrong in
    none_wrong on all.1.1
