-- The page of zeros, cloaked pages, and maps from them.
use Rattle.std.specs.Prelude.{ℕ, Bool, ◌&&◌, nat_eq, List, replicate, if◌then◌else◌}
use Rattle.cloak_base.specs.declared.names.PageId.{PageId}

-- a page of zeros: 4096 bytes
unfoldable pub zero_page : List ℕ
zero_page = replicate 4096 0

-- two names are of one page
unfoldable pub same_page : PageId → PageId → Bool
same_page p q = nat_eq p.domain q.domain && (nat_eq p.resource q.resource && nat_eq p.page q.page)

-- a map with another value at page q
abbrev pub with_page : {A : Type 0} → (PageId → A) → PageId → A → PageId → A
with_page m q v p = if same_page p q then v else m p

-- the page is one of this resource of this domain
unfoldable pub is_of : ℕ → ℕ → PageId → Bool
is_of domain resource p = nat_eq p.domain domain && nat_eq p.resource resource

-- the same page of another resource
abbrev pub page_in : ℕ → PageId → PageId
page_in resource p = record p { resource = resource }

-- a map with another value at each page of this resource of this domain
abbrev pub with_resource : {A : Type 0} → (PageId → A) → ℕ → ℕ → A → PageId → A
with_resource m domain resource v p = if is_of domain resource p then v else m p

-- a map in which each page of resource `to` of this domain has the value of the page of `from`
abbrev pub with_copied : {A : Type 0} → (PageId → A) → ℕ → ℕ → ℕ → PageId → A
with_copied m domain from to p = if is_of domain to p then m (page_in from p) else m p
