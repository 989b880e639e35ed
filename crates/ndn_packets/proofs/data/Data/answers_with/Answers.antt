use Rattle.std.proofs.Common.{sym, ◌∙◌}
use Rattle.std.specs.Prelude.{◌↔◌, IsTrue}
use Rattle.std.proofs.lemmas.Slice.Eq.{bytes_eq-Decides}
use Rattle.ndn_names.specs.View.{components}
use Rattle.ndn_packets.specs.Answers.{Answers}
use Rattle.ndn_packets.proofs.Answering.{answers_by_digest, answers_by_name, is_answers}
use Rattle.ndn_packets.proofs.data.Data.answers_with.Goals as goal
use Rattle.ndn_packets.proofs.data.Data.answers_with.Goals.{After-eq, After-answers_by_name}

by_digest : (c : After-eq) → IsTrue c.eq.result ↔ Answers (components c.args.self.now.name) c.args.digest.now (components c.args.asked) c.args.can_be_prefix
by_digest c =
    let same = bytes_eq-Decides c.in-Some.wanted.now c.as_slice.result.now in
    answers_by_digest (components c.args.self.now.name) (components c.args.asked) c.args.digest.now c.in-Some.wanted.now c.args.can_be_prefix c.eq.result c.in-Some.ensures
    (λ t. same.0 (sym c.eq.ensures ∙ t) ∙ c.as_slice.ensures, λ e. c.eq.ensures ∙ same.1 (e ∙ sym c.as_slice.ensures))

by_name : (c : After-answers_by_name) → IsTrue c.answers_by_name.result ↔ Answers (components c.args.self.now.name) c.args.digest.now (components c.args.asked) c.args.can_be_prefix
by_name c = answers_by_name (components c.args.self.now.name) (components c.args.asked) c.args.digest.now c.args.can_be_prefix c.answers_by_name.result c.in-None.ensures c.answers_by_name.ensures

pub returns-in-Some-clause-exact : goal.returns-in-Some-clause-exact
returns-in-Some-clause-exact c = by_digest c

pub returns-in-Some-clause-test : goal.returns-in-Some-clause-test
returns-in-Some-clause-test c = is_answers _ _ _ _ _ (by_digest c)

pub returns-in-None-clause-exact : goal.returns-in-None-clause-exact
returns-in-None-clause-exact c = by_name c

pub returns-in-None-clause-test : goal.returns-in-None-clause-test
returns-in-None-clause-test c = is_answers _ _ _ _ _ (by_name c)
