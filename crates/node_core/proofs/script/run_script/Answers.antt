use Rattle.std.proofs.Common.{◌≡◌, sym, subst, ◌∙◌}
use Rattle.std.specs.Prelude.{IfErr, OnOk}
use Rattle.forwarder.specs.Node.{NodeState}
use Rattle.forwarder.specs.Parts.{first_node, parts_fault}
use Rattle.node_core.specs.Script.Ending.{Ends, Stops}
use Rattle.node_core.specs.Script.Play.{IsNew}
use Rattle.node_core.proofs.Finishing.{first_is_new, made_of_good_parts}
use Rattle.node_core.proofs.script.run_script.Goals as goal

pub run-requires : goal.run-requires
run-requires g c =
    let p = c.args.parts in
    let same : c.new-player.result.node ≡ first_node p.rules p.keys p.repo p.cache = c.new-player.ensures.node ∙ c.in-Ok.ensures.ok in
    record { node = subst IsNew (sym same) (first_is_new p.rules p.keys p.repo p.cache); lines = c.new-player.ensures.lines; events = c.new-player.ensures.events }

pub returns-clause-done : goal.returns-clause-done
returns-clause-done g c =
    let p = c.args.parts in
    let same : c.new-player.result.node ≡ first_node p.rules p.keys p.repo p.cache = c.new-player.ensures.node ∙ c.in-Ok.ensures.ok in
    subst
    (λ (node : NodeState). OnOk c.run.result
    (Ends node (g.R.Read.remaining c.args.reader.now) (g.R.Read.remaining c.run.new.reader) (g.W.Write.contents c.args.writer.now) (g.W.Write.contents c.run.new.writer)))
    same c.run.ensures.done

pub returns-clause-parts : goal.returns-clause-parts
returns-clause-parts g c =
    made_of_good_parts _ _ (parts_fault c.args.parts.repo c.args.parts.cache) c.new.result c.in-Ok.node c.in-Ok.is c.new.ensures.fault c.run.ensures.parts

pub returns-clause-stopped : goal.returns-clause-stopped
returns-clause-stopped g c =
    let p = c.args.parts in
    let same : c.new-player.result.node ≡ first_node p.rules p.keys p.repo p.cache = c.new-player.ensures.node ∙ c.in-Ok.ensures.ok in
    subst
    (λ (node : NodeState). IfErr c.run.result
    (λ fault. Stops node fault (g.R.Read.remaining c.args.reader.now) (g.R.Read.remaining c.run.new.reader) (g.W.Write.contents c.args.writer.now)
    (g.W.Write.contents c.run.new.writer)))
    same c.run.ensures.stopped
