use Rattle.cloak_model.proofs.SealStays.{seal_stays}
use Rattle.cloak_model.proofs.BlindEnds.{blind_steps_agree}
use Rattle.cloak_model.proofs.BlindRuns.{turns_agree}
use Rattle.cloak_model.proofs.BlindClosing.{blind_closings_agree}
use Rattle.cloak_model.proofs.blind.law_of_blind_steps.Goals as goal

pub returns-clause-seal : goal.returns-clause-seal
returns-clause-seal c = seal_stays

pub returns-clause-steps : goal.returns-clause-steps
returns-clause-steps c = blind_steps_agree

pub returns-clause-turns : goal.returns-clause-turns
returns-clause-turns c = turns_agree

pub returns-clause-closings : goal.returns-clause-closings
returns-clause-closings c = blind_closings_agree
