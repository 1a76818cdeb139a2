-- Why there is no run, with the status and the line that say so.
use Rattle.std.specs.Prelude.{ℕ, List, [], ◌++◌, codes, decimal}
use Rattle.cloak_model.specs.declared.fault.BundleFault.{BundleFault}
use Rattle.cloak_model.specs.declared.fault.BundleFault.TheVariants as fault
use Rattle.cloak_model.specs.declared.fault.StoreFault.{StoreFault}
use Rattle.cloak_model.specs.declared.fault.StoreFault.TheVariants as store
use Rattle.command_words.specs.Command.{usage_line}
use Rattle.frozen_state.specs.declared.fault.FrozenFault.{FrozenFault}
use Rattle.frozen_state.specs.declared.fault.FrozenFault.TheVariants as state
use Rattle.command_parts.specs.declared.refusal.Refusal.{Refusal}
use Rattle.command_parts.specs.declared.refusal.Refusal.TheVariants as refusal
use Rattle.command_parts.specs.declared.status.Status.{Status}
use Rattle.command_parts.specs.declared.status.Status.TheVariants as status

abbrev pub status_of_refusal : Refusal → Status
status_of_refusal (refusal.Usage fault) = status.Usage
status_of_refusal (refusal.BadBundle fault) = status.BadBundle
status_of_refusal refusal.ReadFault = status.ReadFault
status_of_refusal refusal.NoMemory = status.NoMemory
status_of_refusal refusal.NoKey = status.NoRandom
status_of_refusal refusal.NoPageDraw = status.NoRandom
status_of_refusal refusal.NoSuchDomain = status.Usage
status_of_refusal refusal.ShortSecret = status.BadStore
status_of_refusal (refusal.BadStore fault) = status.BadStore
status_of_refusal (refusal.NoRoom domain) = status.BadStore
status_of_refusal (refusal.BadState fault) = status.BadState
status_of_refusal (refusal.ChangedDomain domain) = status.BadState
status_of_refusal (refusal.ChangedFrame frame) = status.BadState

-- a line that ends with a number
abbrev pub numbered_line : List ℕ → ℕ → List ℕ
numbered_line text n = text ++ decimal n ++ codes "\n"

-- the line of a file's first fault (want of memory is no fault of a file)
abbrev pub bundle_line : BundleFault → List ℕ
bundle_line (fault.Short at) = numbered_line (codes "bundle: short at ") at
bundle_line fault.BadMagic = codes "bundle: magic\n"
bundle_line (fault.BadVersion version) = numbered_line (codes "bundle: version ") version
bundle_line (fault.BadCount at) = numbered_line (codes "bundle: count at ") at
bundle_line (fault.TooLarge at) = numbered_line (codes "bundle: too large at ") at
bundle_line (fault.BadRange at) = numbered_line (codes "bundle: range at ") at
bundle_line (fault.Extra at) = numbered_line (codes "bundle: extra at ") at
bundle_line fault.NoMemory = codes "no memory\n"

abbrev pub store_line : StoreFault → List ℕ
store_line (store.Short n) = numbered_line (codes "store: short at ") n
store_line store.BadMagic = codes "store: magic\n"
store_line store.Seal = codes "store: seal\n"
store_line (store.Counter counter) = numbered_line (codes "store: counter ") counter
store_line (store.Form at) = numbered_line (codes "store: form at ") at

abbrev pub state_line : FrozenFault → List ℕ
state_line (state.Short n) = numbered_line (codes "state: short at ") n
state_line state.BadMagic = codes "state: magic\n"
state_line state.Digest = codes "state: digest\n"
state_line state.OtherBundle = codes "state: bundle\n"
state_line (state.Form at) = numbered_line (codes "state: form at ") at
state_line state.NoMemory = codes "no memory\n"

unfoldable pub refusal_line : Refusal → List ℕ
refusal_line (refusal.Usage fault) = usage_line fault
refusal_line (refusal.BadBundle fault) = bundle_line fault
refusal_line refusal.ReadFault = codes "read fault\n"
refusal_line refusal.NoMemory = codes "no memory\n"
refusal_line refusal.NoKey = codes "random: no key\n"
refusal_line refusal.NoPageDraw = codes "random: opening\n"
refusal_line refusal.NoSuchDomain = codes "usage: no such domain\n"
refusal_line refusal.ShortSecret = codes "secret: short\n"
refusal_line (refusal.BadStore fault) = store_line fault
refusal_line (refusal.NoRoom domain) = numbered_line (codes "store: no room ") domain
refusal_line (refusal.BadState fault) = state_line fault
refusal_line (refusal.ChangedDomain domain) = numbered_line (codes "state: changed domain ") domain
refusal_line (refusal.ChangedFrame frame) = numbered_line (codes "state: changed frame ") frame
