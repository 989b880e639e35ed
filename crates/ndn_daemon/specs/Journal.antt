-- A node that is restored from a journal.
use Rattle.std.specs.Prelude.{◌≡◌, ◌↔◌, ℕ, Bool, IsTrue, List, take, Option, None, Some, IfSome, ⊤}
use Rattle.forwarder.specs.Node.{NodeState}
use Rattle.journal.specs.LastFiles.{HasLastFiles, files_text}
use Rattle.journal.specs.Replay.{Replays, RestoresRuns}
use Rattle.journal.specs.declared.replaying.Replayed.{Replayed}
use Rattle.node_ports.specs.Renewal.{RenewalValue}

-- If the journal's octets are known, then `told` is true exactly if the last whole `rules` line in
-- the journal has the octets of the rule file and of the key file in `renewal`.
abbrev pub TellsLastRules : Option (List ℕ) → RenewalValue → Bool → Type 0
TellsLastRules None renewal told = ⊤
TellsLastRules (Some text) renewal told =
    IsTrue told ↔ HasLastFiles text (files_text renewal.rule_octets renewal.key_octets)

-- If the journal's octets `text` before the replay are known, then the node is restored as
-- `RestoresRuns` states, and the octets `kept` after the replay are the whole lines of `text`. If
-- they are not known, those after the replay are not known either.
abbrev pub RestoresFrom : Option (List ℕ) → Option (List ℕ) → NodeState → NodeState → Replayed
    → Type 0
RestoresFrom None kept old new done = kept ≡ None
RestoresFrom (Some text) kept old new done =
    RestoresRuns old new text done × (kept ≡ Some (take done.whole text))

-- A journal was replayed. `unread` is the journal's text before the replay, and `kept` is the
-- journal's text after the replay. `read` is the text that the journal's reader still had to read
-- before the replay. `left` is the text that the journal's reader still had to read after the
-- replay. Each of `unread`, `kept`, `read` and `left` is None if that text is not known.
pub record ReplaysJournal (unread kept : Option (List ℕ)) (old new : NodeState) (done : Replayed)
    : Type 0 where
  pub read : Option (List ℕ)
  pub left : Option (List ℕ)
  pub replays : Replays old new read left done
  pub known : IfSome unread (λ text. read ≡ Some text)
  pub restores : RestoresFrom unread kept old new done
