-- What holds of the programs of a joint machine at every moment.
use Rattle.std.specs.Prelude.{ℕ, ◌≡◌, ◌<◌, List, slice_get, None}
use Rattle.std.specs.Option.{ForSome}
use Rattle.cloak_model.specs.Resources.{resource_at}
use Rattle.cloak_pager.specs.State.{PagerState, IsNoneHeld}
use Rattle.hypercalls.specs.declared.domain.Domain.{Domain}
use Rattle.hypercalls.specs.Standing.{control_of, number_of}

-- each has its place for its number
abbrev pub AreNumbered : List Domain → Type 0
AreNumbered domains = (d : ℕ) → ForSome (slice_get domains d) (λ domain. number_of domain ≡ d)

-- no frame holds a page of a resource whose number is free
abbrev pub AreFreeUnused : List Domain → PagerState → Type 0
AreFreeUnused domains pager = (d n : ℕ) → n < 16 →
    ForSome (slice_get domains d) (λ domain. resource_at (control_of domain).resources n ≡ None → IsNoneHeld pager d n)
