use Rattle.ndn_names.specs.Key.{name_cmp-antisymmetric}
use Rattle.repo_core.specs.Wants.{want_cmp-antisymmetric}
use Rattle.repo_core.proofs.Kept.{get-kept}
use Rattle.repo_core.proofs.law.kept_entries_by_key.Goals as goal

pub returns : goal.returns
returns c = record {
  objects = λ test objects name. get-kept name_cmp-antisymmetric test name objects;
  wants = λ test wants key. get-kept want_cmp-antisymmetric test key wants;
}
