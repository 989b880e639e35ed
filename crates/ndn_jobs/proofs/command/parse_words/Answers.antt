use Rattle.std.proofs.Common.{◌≡◌, ℕ, ◌++◌, List, map, drop, sym, ap, subst, ◌∙◌}
use Rattle.std.proofs.lemmas.List.Folds.{flat_map-map}
use Rattle.clap.specs.Words.{subcommand_rows_of}
use Rattle.ndn_jobs.specs.Value.{ReadsInMemory}
use Rattle.ndn_jobs.specs.Nonce.{spaced, words_of, seed_of}
use Rattle.ndn_jobs.specs.Command.{IsJob}
use Rattle.ndn_jobs.proofs.Lines.{from_matches, from_error}
use Rattle.ndn_jobs.proofs.command.parse_words.Goals as goal

pub returns-in-Ok : goal.returns-in-Ok
returns-in-Ok g c =
    let words = sym (flat_map-map spaced g.S.AsStr.text c.after_program.result.now) ∙ ap words_of c.after_program.ensures in
    let seed : c.deref.result.now ≡ seed_of c.args.random.now (drop 1 (map g.S.AsStr.text c.args.arguments.now)) = c.deref.ensures.value ∙ (c.in_ok-seed.ensures ∙ ap (λ (t : List ℕ). t ++ c.args.random.now) words) in
    let read = subst (λ (t : List ℕ). ReadsInMemory (IsJob c.args.now t (subcommand_rows_of c.in-Ok.matches)) c.job_of.result) seed c.job_of.ensures in
    from_matches _ _ _ _ c.in_ok-command.ensures.0 c.in-Ok.matches c.job_of.result c.in-Ok.ensures.ok.2 c.in-Ok.ensures.kinds read

pub returns : goal.returns
returns g c = rw c.answer_to.ensures (from_error _ _ _ _ c.in_ok-command.ensures.0 c.in-Err.error c.in-Err.ensures.kinds)
