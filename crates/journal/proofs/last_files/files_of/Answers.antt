use Rattle.std.proofs.Common.{ap, sym, ◌∙◌, ◌++◌, ◌∷◌, List, ℕ}
use Rattle.journal.proofs.LastFiles.{differ, no_files, other_kind, same_kind}
use Rattle.journal.proofs.last_files.files_of.Goals as goal

pub returns-then-ne-clause-none : goal.returns-then-ne-clause-none
returns-then-ne-clause-none c =
    let f = c.in_ok-kind.ensures.found in
    let kind = c.in_ok-kind.kind.now in
    other_kind c.args.line.now kind c.in_ok-kind.rest.now f.0 f.1 (λ e. differ kind c.as_slice.result.now c.ne.result c.ne.ensures c.if-ne.true (e ∙ sym c.as_slice.ensures))

pub returns-in_err-files-clause-none : goal.returns-in_err-files-clause-none
returns-in_err-files-clause-none c =
    let f = c.in_ok-kind.ensures.found in
    let rest = c.in_ok-kind.rest.now in
    let kind = same_kind c.in_ok-kind.kind.now c.as_slice.result.now c.ne.result c.ne.ensures c.if-ne.false ∙ c.as_slice.ensures in
    rw c.from_residual-in_err-files.ensures
    (no_files c.args.line.now rest (f.0 ∙ ap (λ (word : List ℕ). word ++ (32 ∷ rest)) kind) c.in_err-files.ensures.none)
