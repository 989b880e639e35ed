use Rattle.std.proofs.Common.{ap, ◌∙◌, ◌++◌, codes}
use Rattle.std.specs.Fmt.{decimal}
use Rattle.scenarios.proofs.Reports.{then}
use Rattle.scenarios.proofs.play.put_bad_line.Goals as goal

pub returns : goal.returns
returns c =
    let old = c.args.text.now.items in
    let front = c.extend_from_slice.new.self.items in
    let number = c.extend_from_slice-2.new.self.items in
    then old (codes "! script:" ++ decimal c.args.number) (codes ": bad line\n") number _
    (then old (codes "! script:") (decimal c.args.number) front number c.in_ok-extend_from_slice.ensures.items
    (c.in_ok-extend_from_slice-2.ensures.items ∙ ap (λ m. front ++ m) (c.as_bytes.ensures.value ∙ c.format.ensures.text)))
    c.in_ok-extend_from_slice-3.ensures.items
