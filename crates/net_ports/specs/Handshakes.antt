-- Opening handshakes for WebSocket.
use Rattle.std.specs.Prelude.{ℕ, List, ⊤}
use Rattle.websocket_requests.specs.Head.{IsAllowed}
use Rattle.net_ports.specs.declared.handshakes.Stage.{Stage}
use Rattle.net_ports.specs.declared.handshakes.Stage.TheVariants.{Request, Answer, Done, Over}

-- a handshake whose request had these octets is answered only if they are an allowed request
abbrev pub AnswersAllowed : List (List ℕ) → List ℕ → Stage → Type 0
AnswersAllowed listed octets (Request socket head len) = ⊤
AnswersAllowed listed octets (Answer answering) = IsAllowed listed octets
AnswersAllowed listed octets (Done socket) = ⊥
AnswersAllowed listed octets Over = ⊤
