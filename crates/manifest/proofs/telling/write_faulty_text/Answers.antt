use Rattle.manifest.proofs.telling.write_faulty_text.Goals as goal

pub returns : goal.returns
returns g c = c.write.ensures.writes
