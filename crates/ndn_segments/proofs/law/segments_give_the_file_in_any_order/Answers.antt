use Rattle.ndn_segments.specs.Assembling.{start}
use Rattle.ndn_segments.proofs.Runs.{stands}
use Rattle.ndn_segments.proofs.Assembled.{whole, accepted_came}
use Rattle.ndn_segments.proofs.Complete.{all_give_the_file}
use Rattle.ndn_segments.proofs.law.segments_give_the_file_in_any_order.Goals as goal

pub returns-clause-whole : goal.returns-clause-whole
returns-clause-whole c = λ stem limit window size file received pos of_file finished.
    whole size file _ _ _ pos (λ s has. of_file s (accepted_came (start stem limit window) received s has)) (stands stem limit window received) finished

pub returns-clause-all : goal.returns-clause-all
returns-clause-all c = all_give_the_file
