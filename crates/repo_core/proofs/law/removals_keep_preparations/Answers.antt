use Rattle.std.proofs.Common.{ap, ◌≡◌, ◌∙◌, sym, Bool, true, false, ℕ, List}
use Rattle.std.specs.Prelude.{nat_lt, ◌==◌, if◌then◌else◌}
use Rattle.std.specs.List.{list_any}
use Rattle.std.specs.FinMap as map
use Rattle.std.specs.FinMap.{entries}
use Rattle.ndn_tlv.specs.Element.{Field}
use Rattle.ndn_packets.specs.Answers.{answers}
use Rattle.repo_core.specs.Objects.{without_answering}
use Rattle.repo_core.specs.Reading.{RepoCommand}
use Rattle.repo_core.specs.Repo.{Held, repo_status_of, want_key}
use Rattle.repo_core.specs.Wants.{is_wanted, want_cmp, want_cmp-antisymmetric, want_cmp-total}
use Rattle.repo_core.specs.declared.types.TheConstants.{OK}
use Rattle.repo_core.proofs.Kept.{entries-kept}
use Rattle.repo_core.proofs.Removed.{any_before_removal}
use Rattle.repo_core.proofs.Spares.{any_of_part}
use Rattle.repo_core.proofs.law.removals_keep_preparations.Goals as goal

pub returns-clause-expiry : goal.returns-clause-expiry
returns-clause-expiry c = λ now name digest wants some.
    any_of_part (λ w. answers name digest w.0.0 w.0.1) (λ w. nat_lt now w.1) (entries wants)
    (sym (ap (list_any (λ w. answers name digest w.0.0 w.0.1)) (entries-kept want_cmp (λ w. nat_lt now w.1) wants)) ∙ some)

pub returns-clause-delete : goal.returns-clause-delete
returns-clause-delete c = λ command name digest s some. by command name digest s (repo_status_of s command == OK) some
  where
    by : (command : RepoCommand) (name : List Field) (digest : List ℕ) (s : Held) (b : Bool)
        → is_wanted name digest (if b then record {
          objects = without_answering command.name command.can_be_prefix s.objects;
          wants = map.remove s.wants (want_key command);
        } else s).wants ≡ true → is_wanted name digest s.wants ≡ true
    by command name digest s true some =
        any_before_removal want_cmp-total want_cmp-antisymmetric (λ w. answers name digest w.0.0 w.0.1) s.wants (want_key command) some
    by command name digest s false some = some
