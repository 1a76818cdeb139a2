-- What the types of a frozen state say of its values: numbers of 32 bits, and lists of a fixed length.
use Rattle.std.specs.Prelude.{◌≡◌, length, slice_index, All, IfSome}
use Rattle.cloak_base.specs.declared.causes.Violation.{Violation}
use Rattle.cloak_base.specs.declared.causes.Violation.TheVariants as violation
use Rattle.cloak_base.specs.declared.names.Meta.{Meta}
use Rattle.cloak_base.specs.declared.names.PageId.{PageId}
use Rattle.cloak_model.specs.Record.{IsWord}
use Rattle.frozen_state.specs.declared.frozen.Frozen.{Frozen}
use Rattle.frozen_state.specs.declared.frozen.FrozenDomain.{FrozenDomain}
use Rattle.frozen_state.specs.declared.frozen.FrozenFrame.{FrozenFrame}
use Rattle.frozen_state.specs.declared.frozen.FrozenHart.{FrozenHart}
use Rattle.frozen_state.specs.declared.frozen.FrozenPage.{FrozenPage}

pub record HasMetaShape (m : Meta) : Type 0 where
  pub iv : length m.iv ≡ 16
  pub digest : length m.digest ≡ 32

pub record HasPageShape (q : PageId) : Type 0 where
  pub domain : IsWord q.domain
  pub resource : IsWord q.resource
  pub page : IsWord q.page

abbrev pub HasViolationShape : Violation → Type 0
HasViolationShape (violation.Page page frame) = HasPageShape page × IsWord frame.0
HasViolationShape (violation.Context ctx) = IsWord ctx
HasViolationShape (violation.Mapping ctx root) = IsWord ctx × IsWord root

pub record HasDomainShape (d : FrozenDomain) : Type 0 where
  pub violation : IfSome d.violation HasViolationShape
  pub eight : length d.roots ≡ 8
  pub roots : All (λ root. IfSome root IsWord) d.roots
  pub meta : HasMetaShape d.meta
  pub page : length d.page ≡ 4096

pub record HasHartShape (h : FrozenHart) : Type 0 where
  pub pc : IsWord h.pc
  pub timer : IsWord h.timer
  pub inside : IfSome h.inside IsWord
  pub registers : length h.regs ≡ 32
  pub zero_register : slice_index h.regs 0 ≡ 0
  pub register_words : All IsWord h.regs
  pub nine : length h.csrs ≡ 9
  pub csr_words : All IsWord h.csrs
  pub mark : IfSome h.mark IsWord

pub record HasFrameShape (f : FrozenFrame) : Type 0 where
  pub bytes : length f.bytes ≡ 4096
  pub owed : IfSome f.owed (λ owed. HasPageShape owed.0 × HasMetaShape owed.1)

pub record HasRecordedShape (p : FrozenPage) : Type 0 where
  pub page : HasPageShape p.page
  pub meta : HasMetaShape p.meta

-- The count of recorded pages is a number of 32 bits, too.
pub record HasShape (f : Frozen) : Type 0 where
  pub steps : IsWord f.steps
  pub domains : All HasDomainShape f.domains
  pub harts : All HasHartShape f.harts
  pub frames : All HasFrameShape f.frames
  pub recorded : All HasRecordedShape f.recorded
  pub count : IsWord (length f.recorded)
