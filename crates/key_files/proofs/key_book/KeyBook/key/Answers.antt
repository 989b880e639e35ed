use Rattle.std.proofs.Common.{List, ap, subst, ◌∙◌}
use Rattle.std.specs.Prelude.{MatchOption}
use Rattle.ndn_names.specs.View.{components}
use Rattle.key_files.specs.declared.key.Key.{Key}
use Rattle.key_files.specs.KeyFile.{IsAmong, NamedKey}
use Rattle.key_files.specs.Shown.{named_keys}
use Rattle.key_files.proofs.key_book.KeyBook.key.Goals as goal

pub returns : goal.returns
returns c =
    subst
    (λ (keys : List NamedKey). MatchOption c.key_named.result ((key : Key) → IsAmong (components c.args.name, key) keys → ⊥) (λ key. IsAmong (components c.args.name, key.now) keys))
    (ap named_keys c.deref.ensures.value ∙ c.self.view_is) c.key_named.ensures
