use Rattle.ndn_log.proofs.Sharing.{all_told, face_is_limited, second_is_limited}
use Rattle.ndn_log.proofs.limits.shown_lines_are_limited.Goals as goal

pub returns-clause-face : goal.returns-clause-face
returns-clause-face c = face_is_limited

pub returns-clause-all : goal.returns-clause-all
returns-clause-all c = second_is_limited

pub returns-clause-told : goal.returns-clause-told
returns-clause-told c came p = all_told p came
