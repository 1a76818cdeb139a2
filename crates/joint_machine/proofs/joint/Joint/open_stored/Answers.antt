use Rattle.std.proofs.Common.{◌∙◌, ◌≡◌, All, List, Ok, ap, drop, length, subst, sym, arith}
use Rattle.std.proofs.lemmas.List.{take_at}
use Rattle.cloak_model.specs.declared.image.Bundle.{Bundle}
use Rattle.cloak_model.specs.declared.image.Program.{Program}
use Rattle.cloak_model.specs.Beginning.{files_added}
use Rattle.cloak_model.specs.Bundle.{IsInGrammar}
use Rattle.cloak_model.specs.Ledger.{Keys}
use Rattle.cloak_model.specs.Opening.{started_domains}
use Rattle.cloak_model.specs.DomainState as model
use Rattle.cloak_model.specs.StoredFiles.{HasSealedPages}
use Rattle.cloaked_side.specs.declared.memory.Memory.{Memory}
use Rattle.hypercalls.specs.declared.domain.Domain.{Domain}
use Rattle.joint_machine.specs.Filing.{AddsTo}
use Rattle.joint_machine.specs.Programs.{AreNumbered}
use Rattle.joint_machine.specs.Standing.{AreDomains}
use Rattle.joint_machine.specs.Starting.{StartsParts}
use Rattle.joint_machine.proofs.OpensOver.{all_new, no_draw, no_room, opens_over, unshown_yet}
use Rattle.joint_machine.proofs.joint.Joint.open_stored.Goals as goal
use Rattle.cloak_model.proofs.Opening.{length-started_harts}

pub start_parts-requires : goal.start_parts-requires
start_parts-requires c =
    subst (λ (ps : List Program). IsInGrammar (record { kernel = c.args.kernel; programs = ps })) (sym c.as_slice.ensures)
    c.requires.image

pub add_files-requires-clause-none_there : goal.add_files-requires-clause-none_there
add_files-requires-clause-none_there c =
    let starts = subst (λ (ps : List Program). StartsParts (record { kernel = c.args.kernel; programs = ps }) c.args.keys c.args.s c.in_ok-parts.parts)
    c.as_slice.ensures c.in_ok-parts.ensures in
    let are = subst (λ (xs : List Domain). AreDomains xs (started_domains 0 c.args.programs)) (sym c.deref_mut.ensures.value)
    starts.domains in
    all_new c.deref_mut.result.now c.args.programs are

pub add_files-requires-clause-unshown : goal.add_files-requires-clause-unshown
add_files-requires-clause-unshown c =
    let starts = subst (λ (ps : List Program). StartsParts (record { kernel = c.args.kernel; programs = ps }) c.args.keys c.args.s c.in_ok-parts.parts)
    c.as_slice.ensures c.in_ok-parts.ensures in
    let are = subst (λ (xs : List Domain). AreDomains xs (started_domains 0 c.args.programs)) (sym c.deref_mut.ensures.value)
    starts.domains in
    unshown_yet c.deref_mut.result.now c.args.programs c.in_ok-parts.parts.memory.pager c.place_programs-placed.new.memory.pager are starts.ready
    c.place_programs-placed.ensures.others

pub returns-in-Err-clause-opens : goal.returns-in-Err-clause-opens
returns-in-Err-clause-opens c contents stands =
    let b : Bundle = record { kernel = c.args.kernel; programs = c.args.programs } in
    let starts = subst (λ (ps : List Program). StartsParts (record { kernel = c.args.kernel; programs = ps }) c.args.keys c.args.s c.in_ok-parts.parts)
    c.as_slice.ensures c.in_ok-parts.ensures in
    let are = subst (λ (xs : List Domain). AreDomains xs (started_domains 0 c.args.programs)) (sym c.deref_mut.ensures.value)
    starts.domains in
    no_room b c.args.keys c.args.s contents c.in-Err.domain
    (λ j keys domains.
    c.in-Err.ensures.adds contents j stands.tells
    (subst (λ (k : Keys). All (HasSealedPages k) contents) (sym keys) stands.sealed)
    (subst (λ (ds : List model.Domain). AreDomains c.deref_mut.result.now ds) (sym domains) are))

pub returns-then-not-placed-clause-opens : goal.returns-then-not-placed-clause-opens
returns-then-not-placed-clause-opens c contents stands =
    let b : Bundle = record { kernel = c.args.kernel; programs = c.args.programs } in
    let starts = subst (λ (ps : List Program). StartsParts (record { kernel = c.args.kernel; programs = ps }) c.args.keys c.args.s c.in_ok-parts.parts)
    c.as_slice.ensures c.in_ok-parts.ensures in
    let are = subst (λ (xs : List Domain). AreDomains xs (started_domains 0 c.args.programs)) (sym c.deref_mut.ensures.value)
    starts.domains in
    no_draw b c.args.keys c.args.s contents c.place_programs-placed.new.memory c.add_files.new.memory c.add_files.new.domains
    (c.if-not-placed.ensures.places _ starts.memory)
    (λ j keys domains.
    c.in-Ok.ensures.adds contents j stands.tells
    (subst (λ (k : Keys). All (HasSealedPages k) contents) (sym keys) stands.sealed)
    (subst (λ (ds : List model.Domain). AreDomains c.deref_mut.result.now ds) (sym domains) are))

pub joint_of-requires-clause-few_harts : goal.joint_of-requires-clause-few_harts
joint_of-requires-clause-few_harts c =
    let e : length c.in_ok-parts.parts.harts.items ≡ c.args.kernel.harts =
    ap length c.in_ok-parts.ensures.harts ∙ length-started_harts c.args.kernel.entry c.args.kernel.harts in
    rw e c.requires.image.kernel.few_harts

pub joint_of-requires-clause-numbered : goal.joint_of-requires-clause-numbered
joint_of-requires-clause-numbered c =
    subst AreNumbered
    (sym (take_at c.add_files.new.domains (drop (length c.add_files.new.domains) c.in_ok-parts.parts.domains.items) c.in_ok-parts.parts.domains.len (omega (arith, c.add_files.auto.domains, c.deref_mut.ensures.len))))
    (c.add_files.ensures.numbered (subst AreNumbered (sym c.deref_mut.ensures.value) c.in_ok-parts.ensures.numbered))

pub returns-clause-opens : goal.returns-clause-opens
returns-clause-opens c contents stands =
    let b : Bundle = record { kernel = c.args.kernel; programs = c.args.programs } in
    let starts = subst (λ (ps : List Program). StartsParts (record { kernel = c.args.kernel; programs = ps }) c.args.keys c.args.s c.in_ok-parts.parts)
    c.as_slice.ensures c.in_ok-parts.ensures in
    let are = subst (λ (xs : List Domain). AreDomains xs (started_domains 0 c.args.programs)) (sym c.deref_mut.ensures.value)
    starts.domains in
    let is = c.joint_of.ensures.parts in
    let domains_are : c.joint_of.result.domains.items ≡ c.add_files.new.domains =
    ap (λ (x : _). x.items) is.domains
    ∙ take_at c.add_files.new.domains (drop (length c.add_files.new.domains) c.in_ok-parts.parts.domains.items) c.in_ok-parts.parts.domains.len (omega (arith, c.add_files.auto.domains, c.deref_mut.ensures.len)) in
    opens_over c.joint_of.result b c.args.keys c.args.s contents c.place_programs-placed.new.memory (record {
      harts = ap (λ (x : _). x.items) is.harts ∙ starts.harts;
      disk = is.disk ∙ starts.disk;
      roots = c.joint_of.ensures.roots;
      ended = is.ended ∙ starts.ended;
      refused = is.refused ∙ starts.refused;
      places = c.if-not-placed.ensures.places _ starts.memory;
      adds = λ j keys domains.
          subst (λ (m : Memory). AddsTo c.place_programs-placed.new.memory m c.joint_of.result.domains.items j (Ok tt) (files_added contents j))
          (sym is.memory)
          (subst (λ (xs : List Domain). AddsTo c.place_programs-placed.new.memory c.add_files.new.memory xs j (Ok tt) (files_added contents j))
          (sym domains_are)
          (c.in-Ok.ensures.adds contents j stands.tells
          (subst (λ (k : Keys). All (HasSealedPages k) contents) (sym keys) stands.sealed)
          (subst (λ (ds : List model.Domain). AreDomains c.deref_mut.result.now ds) (sym domains) are)));
    })

pub returns-clause-harts : goal.returns-clause-harts
returns-clause-harts c =
    ap (λ (x : _). length x.items) c.joint_of.ensures.parts.harts
    ∙ (ap length c.in_ok-parts.ensures.harts ∙ length-started_harts c.args.kernel.entry c.args.kernel.harts)
