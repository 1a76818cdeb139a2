-- The entry of a miss agrees: it is of the page's start.
use Rattle.std.proofs.Common.{◌≡◌, ◌∙◌, ℕ, ◌+◌, ◌*◌, ◌/◌, ◌%◌, ◌≤◌, true, List, Option, Ok, Err, refl, sym, ap, arith, nat_le}
use Rattle.std.proofs.lemmas.Bool.{leb-true, and_parts}
use Rattle.cloak_base.specs.declared.names.Kind.{Kind}
use Rattle.cloak_base.specs.declared.names.PageId.{PageId}
use Rattle.cloak_model.specs.declared.access.Walked.{Walked}
use Rattle.cloak_base.specs.Constants.{frame_of}
use Rattle.cloak_model.specs.Memory.{is_in_ram}
use Rattle.cloak_model.specs.Walk.{Walk, walk}
use Rattle.shadow_fold.specs.declared.entry.Regime.{Regime}
use Rattle.shadow_fold.specs.declared.entry.Regime.TheVariants.{Outside, Inside}
use Rattle.shadow_fold.specs.Agreement.{Present, EntryAgrees, TargetAgrees, satp_in, access_in, start_of}
use Rattle.shadow_fold.specs.Fold.{entry_of}
use Rattle.shadow_law.specs.Walks.{moved, page_access}
use Rattle.shadow_law.specs.Agreeing.{AreOutside}
use Rattle.shadow_law.proofs.Walks.{walk_of_page}
use Rattle.cloak_model.proofs.InPage.{keeps_walk}

-- The walk of the page's start.

-- what leads so much further, comes from here
record Before (k : ℕ) (walk : Walk) (w : Walked) : Type 0 where
  pub from : Walked
  pub leads : walk ≡ Ok from
  pub further : from.pa + k ≡ w.pa
  pub pt1 : from.pt1 ≡ w.pt1
  pub pt0 : from.pt0 ≡ w.pt0

before : (k : ℕ) (x : Walk) (w : Walked) → moved k x ≡ Ok w → Before k x w
before k (Ok v) w is =
    let same : (let u : Walked = record v { pa = v.pa + k } in u) ≡ w = cc in
    record { from = v; leads = refl; further = ap (λ (u : Walked). u.pa) same; pt1 = ap (λ (u : Walked). u.pt1) same; pt0 = ap (λ (u : Walked). u.pt0) same }
before k (Err cause) w is = absurd cc

pub page_of_access : (regime : Regime) (va : ℕ) (kind : Kind) → page_access (access_in regime va kind) ≡ access_in regime (4096 * (va / 4096)) kind
page_of_access (Outside satp mode sum mxr) va kind = refl
page_of_access (Inside satp sum mxr space) va kind = refl

pub va_of_access : (regime : Regime) (va : ℕ) (kind : Kind) → (access_in regime va kind).va ≡ va
va_of_access (Outside satp mode sum mxr) va kind = refl
va_of_access (Inside satp sum mxr space) va kind = refl

in_ram_from : (ram : List (List ℕ)) (pa : ℕ) → is_in_ram ram pa ≡ true → 0x80000000 ≤ pa
in_ram_from ram pa is = leb-true 0x80000000 pa (and_parts (nat_le 0x80000000 pa) _ is).0

start_place : (from pa va : ℕ) → from + va % 4096 ≡ pa → from % 4096 ≡ 4096 * (va / 4096) % 4096 → 0x80000000 ≤ pa → from ≡ start_of (frame_of pa)
start_place from pa va further even low = omega (arith, further, even, low)

pub born_agrees : (p : Present) (regime : Regime) (va : ℕ) (kind : Kind) (w : Walked) (cloaked : Option PageId)
    → walk p.ram (satp_in regime) (access_in regime va kind) ≡ Ok w → is_in_ram p.ram w.pa ≡ true → AreOutside p.held w
    → TargetAgrees p (entry_of regime (va / 4096) kind w cloaked) cloaked → EntryAgrees p (entry_of regime (va / 4096) kind w cloaked)
born_agrees p regime va kind w cloaked leads inside out target =
    let a = access_in regime va kind in
    let to_page : walk p.ram (satp_in regime) a ≡ moved (va % 4096) (walk p.ram (satp_in regime) (access_in regime (4096 * (va / 4096)) kind)) =
    walk_of_page p.ram (satp_in regime) a
    ∙ (λ i. moved (va_of_access regime va kind i % 4096) (walk p.ram (satp_in regime) (page_of_access regime va kind i))) in
    let b = before (va % 4096) (walk p.ram (satp_in regime) (access_in regime (4096 * (va / 4096)) kind)) w (sym to_page ∙ leads) in
    let even : b.from.pa % 4096 ≡ 4096 * (va / 4096) % 4096 =
    (keeps_walk p.ram (satp_in regime) (access_in regime (4096 * (va / 4096)) kind)).kept b.from b.leads
    ∙ ap (λ n. n % 4096) (va_of_access regime (4096 * (va / 4096)) kind) in
    let start : b.from.pa ≡ start_of (frame_of w.pa) = start_place b.from.pa w.pa va b.further even (in_ram_from p.ram w.pa inside) in
    record {
      walks = b.leads ∙ (λ i. Ok (record { pa = start i; pt1 = b.pt1 i; pt0 = b.pt0 i }));
      first = out.first;
      second = out.second;
      target = target;
    }
