-- How the verb and the options of a short form determine its command.
use Rattle.std.proofs.Common.{◌≡◌, ℕ, List, Option, None, Some, Result, Ok, Err, sym, ap, subst, ◌∙◌}
use Rattle.clap.specs.Walk.{Row}
use Rattle.ndn_jobs.specs.declared.job.CommandJob.{CommandJob}
use Rattle.mgmt_core.specs.declared.action.Action.{Action}
use Rattle.ndn_jobs.specs.declared.fault.ToolFault.{ToolFault}
use Rattle.ndn_jobs.specs.Value.{ReadsInMemory}
use Rattle.ndn_jobs.specs.Options.{Has}
use Rattle.ndn_jobs.specs.ShortForm.{IsVerb, IsFormJob, action_of}
use Rattle.ndn_jobs.proofs.Spelling.{refused_part}

-- a verb of a subcommand names at most one action
same_form : (subcommand : List ℕ) (said : Option (List ℕ)) (f g : Action) → Has said (IsVerb subcommand) f → Has said (IsVerb subcommand) g → g ≡ f
same_form subcommand said f g a b =
    let words : Some a.0 ≡ Some b.0 = sym a.1 ∙ b.1 in
    let word : a.0 ≡ b.0 = cc in
    let both : Some g ≡ Some f = sym b.2 ∙ (ap (action_of subcommand) (sym word) ∙ a.2) in
    cc

pub short_read : (now : ℕ) (words subcommand : List ℕ) (rows : List Row) (said : Option (List ℕ)) (form : Action) → Has said (IsVerb subcommand) form
    → (r : Result CommandJob ToolFault) → ReadsInMemory (IsFormJob form now words rows) r
    → ReadsInMemory (λ job. (f : Action) × Has said (IsVerb subcommand) f × IsFormJob f now words rows job) r
short_read now words subcommand rows said form has (Ok job) h = (form, has, h)
short_read now words subcommand rows said form has (Err why) h =
    refused_part (IsFormJob form now words rows) (λ job. (f : Action) × Has said (IsVerb subcommand) f × IsFormJob f now words rows job)
    (λ job s. (job, subst (λ (f : Action). IsFormJob f now words rows job) (same_form subcommand said form s.0 has s.1) s.2)) why h

-- if the verb that is given names no action, then the options spell no action
pub no_verb : (subcommand : List ℕ) (said : Option (List ℕ)) (verb : List ℕ) → said ≡ Some verb → action_of subcommand verb ≡ None → (form : Action) → Has said (IsVerb subcommand) form → ⊥
no_verb subcommand said verb is none form h =
    let words : Some h.0 ≡ Some verb = sym h.1 ∙ is in
    let word : h.0 ≡ verb = cc in
    let both : Some form ≡ None = sym h.2 ∙ (ap (action_of subcommand) word ∙ none) in
    absurd cc
