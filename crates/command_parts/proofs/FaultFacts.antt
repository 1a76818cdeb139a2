-- What a call that succeeded or failed did to the counts of faults.
use Rattle.std.proofs.Common.{◌≡◌, ◌<◌, ◌-◌, ◌^◌, ℕ, Bool, true, false, sym, Result, Ok, Err, OnOk, OnErr, is_err}
use Rattle.cloak_base.specs.declared.causes.Failed.{Failed}
use Rattle.io_traits.specs.Told.{Rose, Counts}
use Rattle.io_traits.proofs.ToldFacts.{Rose-below}
use Rattle.command_parts.specs.Outside.{Raised}

pub succeeded : (r : Result Unit Failed) (P : Type 0) → is_err r ≡ false → OnOk r P → P
succeeded (Ok u) P well fact = fact
succeeded (Err e) P well fact = absurd (let clash : true ≡ false = well in cc)

pub failed : (r : Result Unit Failed) (P : Type 0) → is_err r ≡ true → OnErr r P → P
failed (Ok u) P ill fact = absurd (let clash : true ≡ false = sym ill in cc)
failed (Err e) P ill fact = fact

pub counted : (before now : ℕ) (r : Result Unit Failed) → is_err r ≡ false → Counts before now r → now ≡ before
counted before now (Ok u) well counts = counts
counted before now (Err e) well counts = absurd (let clash : true ≡ false = well in cc)

pub risen : (before now : ℕ) (r : Result Unit Failed) → is_err r ≡ true → Counts before now r → Rose before now
risen before now (Ok u) ill counts = absurd (let clash : true ≡ false = sym ill in cc)
risen before now (Err e) ill counts = counts

-- a count that rose below its last value is greater
pub raised : {before now : ℕ} → Rose before now → before < 2 ^ 64 - 1 → Raised before now
raised {before} {now} rose low = record { greater = Rose-below before now rose low; by_call = rose }
