-- If the words of `thaw` name a state that was saved, its image and its stream, they are refused for no other reason
-- than that a file cannot be read, or that there is not enough memory.
use Rattle.std.proofs.Common.{◌≡◌, ◌<◌, ◌≤◌, ◌∙◌, ◌+◌, ◌⊎◌, ℕ, List, length, Option, Some, None, sym, ap, subst, arith, inl, inr}
use Rattle.std.specs.Prelude.{IfSome}
use Rattle.sha2.proofs.Facts256.{length-sha256}
use Rattle.sha2.specs.Sha256.{sha256}
use Rattle.cloak_base.specs.Random.{Random}
use Rattle.cloak_model.specs.declared.fault.BundleFault.{BundleFault}
use Rattle.cloak_model.specs.declared.fault.StoreFault.{StoreFault}
use Rattle.cloak_model.specs.declared.image.Bundle.{Bundle}
use Rattle.cloak_model.specs.Bundle.{IsBundleIn}
use Rattle.cloak_model.specs.BundleFault.{bundle_fault}
use Rattle.cloak_model.specs.Opening.{Lack}
use Rattle.cloak_model.specs.Parts.{Joint}
use Rattle.cloak_model.specs.Run.{most_steps}
use Rattle.command_words.specs.Command as spec
use Rattle.command_words.specs.declared.usage_fault.UsageFault.{UsageFault}
use Rattle.frozen_run.specs.Shapes.{HasShape}
use Rattle.frozen_state.specs.declared.fault.FrozenFault.{FrozenFault}
use Rattle.frozen_state.specs.declared.fault.FrozenFault.TheVariants.{Form}
use Rattle.frozen_state.specs.declared.frozen.Frozen.{Frozen}
use Rattle.frozen_state.specs.Ranges.{IsFrozen}
use Rattle.frozen_state.specs.Refusing.{HasChangedDomain, HasChangedFrame, HasWrongPage, LacksDraws, LacksKeys}
use Rattle.frozen_state.specs.Thawing.{CanGoOn}
use Rattle.command_parts.specs.declared.refusal.Refusal.{Refusal}
use Rattle.command_parts.specs.declared.refusal.Refusal.TheVariants as refusal
use Rattle.command_parts.specs.Bundles.{IsInFileAs}
use Rattle.command_parts.specs.Freezing.{IsFreezeLack}
use Rattle.command_parts.specs.NoRun.{HasBadState, HasCause, IsBadBundle, IsLack, IsNoSuchDomain, IsUsage, LacksKey, LacksPageDraw}
use Rattle.command_parts.specs.Outside.{FilesOutside}
use Rattle.command_parts.specs.Storing.{IsBadStore, IsShortSecret, IsStoredLack}
use Rattle.command_parts.specs.Streams.{IsToldStream}
use Rattle.command_parts.specs.Thawing.{AsksThawed, IsBadState, IsTooLong, IsUnthawed, SpellsState, ThawSources, state_fault}
use Rattle.command_parts.proofs.StreamFacts.{same_stream}
use Rattle.frozen_promise.specs.Accepted.{IsFromOutside}
use Rattle.frozen_promise.proofs.NoFault.{saved_without_fault}
use Rattle.frozen_promise.proofs.Sources.{one_image}
use Rattle.frozen_promise.proofs.Whole.{has_draws, has_keys, no_domain_changed, no_frame_changed, no_page_wrong, not_none}
use Rattle.frozen_commands.proofs.SameWords.{as_thaw}
use Rattle.guest_bundle.proofs.Faultless.{no_fault}

-- Words of `thaw` that name an image, a stream, and the file of a state of this image. The state is one of a machine
-- that can go on, and the steps that are asked for are left.
pub record Named (held : List ℕ → Option (List ℕ)) : Type 0 where
  pub names : spec.ThawNames
  pub steps : ℕ
  pub randomness : spec.Randomness
  pub version : ℕ
  pub image : List ℕ
  pub bundle : Bundle
  pub is_image : IsBundleIn version image bundle
  pub image_told : held names.bundle ≡ Some image
  pub stream : Random
  pub stream_told : IsToldStream held randomness stream
  pub file : List ℕ
  pub file_told : held names.state_name ≡ Some file
  pub state : Frozen
  pub is : IsFrozen bundle.kernel (length bundle.programs) (sha256 image) file state
  pub shape : HasShape state
  pub few_recorded : length state.recorded ≤ 65536
  pub joint : Joint
  pub can_go_on : CanGoOn bundle stream state joint
  pub few_steps : state.steps + steps ≤ most_steps

abbrev pub thaw_of : {held : List ℕ → Option (List ℕ)} → Named held → spec.Asked
thaw_of n = spec.Thaw n.names n.steps n.randomness

-- The sources of a thaw are what is named.

record AreNamed {held : List ℕ → Option (List ℕ)} (n : Named held) (s : ThawSources) : Type 0 where
  bundle : s.bundle ≡ n.bundle
  stream : s.stream ≡ n.stream
  state : s.state ≡ n.state

are_named : {held : List ℕ → Option (List ℕ)} (n : Named held) (s : ThawSources) →
    AsksThawed n.names n.randomness held s → AreNamed n s
are_named {held} n s asks =
    let image = one_image n.image_told n.is_image asks.bundle in
    let spells : SpellsState s.bundle (sha256 s.bytes) s.state n.file =
    subst (λ (told : Option (List ℕ)). IfSome told (SpellsState s.bundle (sha256 s.bytes) s.state)) n.file_told
    asks.state in
    let is : IsFrozen s.bundle.kernel (length s.bundle.programs) (sha256 s.bytes) n.file n.state =
    subst (λ (b : Bundle). IsFrozen b.kernel (length b.programs) (sha256 s.bytes) n.file n.state) (sym image.1)
    (subst (λ (bytes : List ℕ). IsFrozen n.bundle.kernel (length n.bundle.programs) (sha256 bytes) n.file n.state)
    (sym image.0) n.is) in
    record {
      bundle = image.1;
      stream = same_stream held n.randomness n.stream s.stream n.stream_told asks.stream;
      state = spells.only n.state n.shape is;
    }

-- The words.

not_usage : {S : Type 0} {before after : FilesOutside S} {fault : UsageFault} (n : Named before.held) →
    IsUsage (thaw_of n) fault before after → ⊥
not_usage {S} {before} {after} {fault} n why = (let clash : thaw_of n ≡ spec.Faulty fault = why.faulty in cc)

not_too_long : {S : Type 0} {before after : FilesOutside S} {fault : UsageFault} (n : Named before.held) →
    IsTooLong (thaw_of n) fault before after → ⊥
not_too_long {S} {before} {after} {fault} n why =
    let both = as_thaw (λ names steps from. AsksThawed names from before.held why.sources
    × (most_steps < why.sources.state.steps + steps)) n.names why.names n.steps why.steps n.randomness why.randomness
    why.thaw (why.asks, why.too_long) in
    let are = are_named n why.sources both.0 in
    let long : most_steps < n.state.steps + n.steps =
    subst (λ (f : Frozen). most_steps < f.steps + n.steps) are.state both.1 in
    let few = n.few_steps in omega (arith, long, few)

-- The files.

not_bad_bundle : {S : Type 0} {before after : FilesOutside S} {fault : BundleFault} (n : Named before.held) →
    IsBadBundle (thaw_of n) fault before after → ⊥
not_bad_bundle {S} {before} {after} {fault} n why =
    let asks : Some n.names.bundle ≡ Some why.bundle_name = why.asks in
    let name : why.bundle_name ≡ n.names.bundle = cc in
    no_fault n.image n.bundle fault (n.version, n.is_image)
    (subst (λ (told : Option (List ℕ)). IfSome told (λ bytes. bundle_fault bytes ≡ Some fault))
    (ap before.held name ∙ n.image_told) why.first_fault)

not_bad_state : {S : Type 0} {before after : FilesOutside S} {fault : FrozenFault} (n : Named before.held) →
    IsBadState (thaw_of n) fault before after → ⊥
not_bad_state {S} {before} {after} {fault} n why =
    let both = as_thaw (λ names steps from. IsInFileAs why.version (before.held names.bundle) why.bytes why.bundle
    × IfSome (before.held names.state_name) (λ file. state_fault why.bundle (sha256 why.bytes) file ≡ Some fault))
    n.names why.names n.steps why.steps n.randomness why.randomness why.thaw (why.file, why.first_fault) in
    let image = one_image n.image_told n.is_image both.0 in
    let faulty : state_fault why.bundle (sha256 why.bytes) n.file ≡ Some fault =
    subst
    (λ (told : Option (List ℕ)). IfSome told (λ file. state_fault why.bundle (sha256 why.bytes) file ≡ Some fault))
    n.file_told both.1 in
    let same : state_fault why.bundle (sha256 why.bytes) n.file ≡ state_fault n.bundle (sha256 n.image) n.file =
    λ i. state_fault (image.1 i) (sha256 (image.0 i)) n.file in
    not_none fault (sym same ∙ faulty)
    (saved_without_fault n.bundle n.state (sha256 n.image) n.file n.is_image.in_grammar n.shape n.few_recorded
    (length-sha256 n.image) n.is)

-- The tests after that of the file.

unthawed : {S : Type 0} {before after : FilesOutside S} (n : Named before.held)
    (Cause : Bundle → Random → Frozen → Type 0) → (Cause n.bundle n.stream n.state → ⊥) →
    IsUnthawed (thaw_of n) Cause before after → ⊥
unthawed {S} {before} {after} n Cause none why =
    let asks = as_thaw (λ names steps from. AsksThawed names from before.held why.sources) n.names why.names n.steps
    why.steps n.randomness why.randomness why.thaw why.asks in
    let are = are_named n why.sources asks in
    none
    (subst (λ (b : Bundle). Cause b n.stream n.state) are.bundle
    (subst (λ (stream : Random). Cause why.sources.bundle stream n.state) are.stream
    (subst (λ (f : Frozen). Cause why.sources.bundle why.sources.stream f) are.state why.cause)))

-- Causes of other commands.

not_lack : {S : Type 0} {before after : FilesOutside S} {lack : Lack} (n : Named before.held) →
    IsLack (thaw_of n) lack before after → ⊥
not_lack {S} {before} {after} {lack} n why =
    other why.record_name why.asks.bundle_name why.steps why.asks.randomness why.asks.run
  where
    other : (record_name : Option (List ℕ)) (bundle_name : List ℕ) (steps : ℕ) (from : spec.Randomness) →
        thaw_of n ≡ spec.asked_run bundle_name record_name steps from → ⊥
    other None bundle_name steps from run = (let clash : thaw_of n ≡ spec.Stats bundle_name steps from = run in cc)
    other (Some name) bundle_name steps from run =
        (let clash : thaw_of n ≡ spec.Run bundle_name name steps from = run in cc)

not_freeze_lack : {S : Type 0} {before after : FilesOutside S} {lack : Lack} (n : Named before.held) →
    IsFreezeLack (thaw_of n) lack before after → ⊥
not_freeze_lack {S} {before} {after} {lack} n why =
    (let clash : thaw_of n ≡ spec.Freeze why.names why.steps why.randomness = why.freeze in cc)

not_stored_lack : {S : Type 0} {before after : FilesOutside S} {lack : Lack} (n : Named before.held) →
    IsStoredLack (thaw_of n) lack before after → ⊥
not_stored_lack {S} {before} {after} {lack} n why =
    (let clash : thaw_of n ≡ spec.Store why.names why.counter why.steps why.randomness = why.store in cc)

not_short_secret : {S : Type 0} {before after : FilesOutside S} (n : Named before.held) →
    IsShortSecret (thaw_of n) before after → ⊥
not_short_secret {S} {before} {after} n why =
    (let clash : thaw_of n ≡ spec.Store why.names why.counter why.steps why.randomness = why.store in cc)

not_bad_store : {S : Type 0} {before after : FilesOutside S} {fault : StoreFault} (n : Named before.held) →
    IsBadStore (thaw_of n) fault before after → ⊥
not_bad_store {S} {before} {after} {fault} n why =
    (let clash : thaw_of n ≡ spec.Store why.names why.counter why.steps why.randomness = why.store in cc)

not_solo : {S : Type 0} {before after : FilesOutside S} (n : Named before.held) →
    IsNoSuchDomain (thaw_of n) before after → ⊥
not_solo {S} {before} {after} n why =
    (let clash : thaw_of n ≡ spec.Solo why.domain why.bundle_name why.record_name = why.solo in cc)

-- The reasons with more than one cause.

not_faulty : {S : Type 0} {before after : FilesOutside S} {fault : UsageFault} (n : Named before.held) →
    IsUsage (thaw_of n) fault before after ⊎ IsTooLong (thaw_of n) fault before after → ⊥
not_faulty n (inl why) = not_usage n why
not_faulty n (inr why) = not_too_long n why

not_without_key : {S : Type 0} {before after : FilesOutside S} (n : Named before.held) →
    LacksKey (thaw_of n) before after → ⊥
not_without_key n (inl why) = not_lack n why
not_without_key n (inr (inl why)) = not_freeze_lack n why
not_without_key n (inr (inr why)) = unthawed n (λ b stream f. LacksKeys b stream) (has_keys n.can_go_on) why

not_without_draw : {S : Type 0} {before after : FilesOutside S} (n : Named before.held) →
    LacksPageDraw (thaw_of n) before after → ⊥
not_without_draw n (inl why) = not_lack n why
not_without_draw n (inr (inl why)) = not_stored_lack n why
not_without_draw n (inr (inr (inl why))) = not_freeze_lack n why
not_without_draw n (inr (inr (inr why))) = unthawed n LacksDraws (has_draws n.can_go_on) why

no_bad_state : {S : Type 0} {before after : FilesOutside S} {fault : FrozenFault} (n : Named before.held) →
    HasBadState (thaw_of n) fault before after → ⊥
no_bad_state {S} {before} {after} {fault} n (inl why) = not_bad_state n why
no_bad_state {S} {before} {after} {fault} n (inr why) =
    unthawed n (λ b stream f. (at : ℕ) × (fault ≡ Form at) × HasWrongPage b stream f at)
    (λ wrong. no_page_wrong wrong.0 n.can_go_on wrong.2) why

-- All reasons.
pub refused_outside : {S : Type 0} (before after : FilesOutside S) (n : Named before.held) (r : Refusal) →
    HasCause (thaw_of n) r before after → IsFromOutside r
refused_outside before after n (refusal.Usage fault) why = not_faulty n why
refused_outside before after n (refusal.BadBundle fault) why = not_bad_bundle n why
refused_outside before after n refusal.ReadFault why = tt
refused_outside before after n refusal.NoMemory why = tt
refused_outside before after n refusal.NoKey why = not_without_key n why
refused_outside before after n refusal.NoPageDraw why = not_without_draw n why
refused_outside before after n refusal.NoSuchDomain why = not_solo n why
refused_outside before after n refusal.ShortSecret why = not_short_secret n why
refused_outside before after n (refusal.BadStore fault) why = not_bad_store n why
refused_outside before after n (refusal.NoRoom d) why = not_stored_lack n why
refused_outside before after n (refusal.BadState fault) why = no_bad_state n why
refused_outside before after n (refusal.ChangedDomain d) why =
    unthawed n (λ b stream f. HasChangedDomain b stream f d) (no_domain_changed d n.can_go_on) why
refused_outside before after n (refusal.ChangedFrame frame) why =
    unthawed n (λ b stream f. HasChangedFrame b stream f frame) (no_frame_changed frame n.can_go_on) why
