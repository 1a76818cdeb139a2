use Rattle.std.proofs.Common.{◌∙◌, None, Some, refl, sym}
use Rattle.cloak_model.specs.DomainAlone.{with_given_pages}
use Rattle.cloak_model.specs.HostCalls.{block_at}
use Rattle.alone_files.proofs.Blocks.{met, missed}
use Rattle.alone_files.proofs.giving.give_page.Goals as goal

pub returns-in_default : goal.returns-in_default
unfolding with_given_pages
returns-in_default c = record {
  content = None;
  found = missed c.requires.digests c.in_default.ensures;
  answer = refl;
  becomes = λ d schedule p begins. begins;
}

pub returns : goal.returns
unfolding with_given_pages
returns c = record {
  content = Some (record {
    plain = c.opened-bytes.result;
    iv = c.args.known.now.iv;
    cipher = block_at c.args.kept.disk.now c.in-Some.block;
  });
  found = (
    met c.in-Some.block c.requires.digests c.in-Some.ensures,
    (
      refl,
      record {
        plain = c.opened-bytes.ensures.whole;
        cipher = sym c.block_of.ensures ∙ sym c.opened-bytes.ensures.sealed;
      },
    ),
  );
  answer = refl;
  becomes = λ d schedule p begins. c.set_page.ensures d schedule p begins;
}
