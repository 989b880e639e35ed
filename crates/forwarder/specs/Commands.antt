-- How commands are answered, and what they change (NFD Management, "Control Command"). An allowed
-- command is answered and recorded in one step, whatever its status. A command that is not allowed
-- is answered, but not recorded. A command without a SignatureTime is never allowed.
use Rattle.std.specs.Prelude.{◌≡◌, ℕ, List, [], ◌∷◌, ◌++◌, length, Bool, Option, None, Some, unwrap_or, slice_get, codes, nat_lt, ◌||◌, Result, Ok, Err, if◌then◌else◌}
use Rattle.std.specs.Option.{option_map}
use Rattle.std.specs.FinMap as map
use Rattle.ndn_tlv.specs.Element.{element}
use Rattle.ndn_tlv.specs.Number.{shortest_nni}
use Rattle.ndn_names.specs.Name.{octets_of}
use Rattle.ndn_packets.specs.Packet.{PlainInterest, PlainFrame, AnInterest, AData, ANack, Idle}
use Rattle.ndn_packets.specs.declared.types.TheConstants.{CAN_BE_PREFIX, INTEREST, INTEREST_LIFETIME, NAME, NONCE}
use Rattle.ndn_tlv.specs.Writing.{octets, flag}
use Rattle.ndn_packets.specs.Writing.{is_bad_name, reply_text}
use Rattle.info_rules.specs.Names.{reason_name}
use Rattle.info_rules.specs.Rule.{PlainRule}
use Rattle.info_rules.specs.declared.decision.Reason.{Reason}
use Rattle.info_rules.specs.declared.decision.Decision.{Decision}
use Rattle.info_rules.specs.declared.decision.Decision.TheVariants as decided
use Rattle.info_rules.specs.declared.rule.Kind.TheVariants as kinds
use Rattle.replay_guard.specs.Guard.{with_recorded}
use Rattle.replay_guard.specs.Freshness.{Recorded}
use Rattle.strategies.specs.declared.strategy.Choice.{Choice}
use Rattle.strategies.specs.declared.strategy.Choice.TheVariants as choices
use Rattle.mgmt_core.specs.Commands.{text_of}
use Rattle.mgmt_core.specs.Reading.{PlainCommand, command_at}
use Rattle.mgmt_core.specs.Tables.{choices_after, if_done, routes_after, status_of}
use Rattle.mgmt_core.specs.Writing.{body_after, response}
use Rattle.repo_core.specs.declared.reply.RepoReply.{RepoReply}
use Rattle.repo_core.specs.declared.reply.Want.{Want}
use Rattle.repo_core.specs.Commands.{repo_text_of}
use Rattle.repo_core.specs.Reading.{repo_command_at}
use Rattle.repo_core.specs.Repo.{after_command, reply_to}
use Rattle.repo_core.specs.Writing.{repo_response}
use Rattle.forwarder.specs.Event.{Send, Token, sent_back, to_each}
use Rattle.forwarder.specs.Policy.{Policy, open_faces, with_next_version}
use Rattle.forwarder.specs.Request.{Request, Refused, ForList, ForTables, ForRepository, ForData, request_of}
use Rattle.forwarder.specs.Deciding.{recorded_of}
use Rattle.forwarder.specs.NextHops.{choice_for, ask_for}
use Rattle.forwarder.specs.Verdict.{Answer, Allowed, Denied, NoRule}

-- the status in the reply to a command that is not allowed
abbrev pub NOT_AUTHORIZED : ℕ
NOT_AUTHORIZED = 403

-- ---- commands on routes, strategies and the cache

-- the status in the reply to an allowed Interest under /localhost/nfd that came on this face; if
-- the Interest's name encodes no command, the status is that in `Err`
abbrev pub tables_status : Policy → ℕ → Result PlainCommand ℕ → ℕ
tables_status p face (Err status) = status
tables_status p face (Ok c) = status_of c face (open_faces p) p.routes p.choices

abbrev pub tables_body : Policy → ℕ → Result PlainCommand ℕ → List ℕ
tables_body p face (Err status) = []
tables_body p face (Ok c) = body_after c face (tables_status p face (Ok c))

abbrev pub tables_reply : Policy → ℕ → Result PlainCommand ℕ → List ℕ
tables_reply p face c =
    let status = tables_status p face c in
    response status (unwrap_or (text_of status) []) (tables_body p face c)

-- The policy after an allowed command under /localhost/nfd. The lists of routes and strategies get
-- their next version. If the status is 200, the command has its effect on the routes and
-- strategies; otherwise they are unchanged.
abbrev pub after_tables : Policy → ℕ → Result PlainCommand ℕ → Policy
after_tables p face (Err status) = with_next_version p
after_tables p face (Ok c) =
    let status = tables_status p face (Ok c) in
    with_next_version (record p {
      routes = if_done status (routes_after c face p.now p.routes) p.routes;
      choices = if_done status (choices_after c p.choices) p.choices;
    })

-- ---- commands to the repository

abbrev pub repository_reply : Policy → PlainInterest → RepoReply
repository_reply p i = reply_to p.held (repo_command_at p.repo i.name)

abbrev pub repository_content : RepoReply → List ℕ
repository_content r = repo_response r.status (unwrap_or (repo_text_of r.status) []) r.count

abbrev pub after_repository : Policy → PlainInterest → Policy
after_repository p i = record p { held = after_command p.repo i.name p.now p.held }

-- the octets of the Interest that the node sends to fetch the Data for `want`; the Interest has the
-- Nonce `nonce`
abbrev pub fetch_text : Want → List ℕ → List ℕ
fetch_text want nonce =
    element (
      INTEREST,
      octets ((NAME, octets_of want.name) ∷ (flag CAN_BE_PREFIX want.can_be_prefix
          ++ (NONCE, nonce) ∷ (INTEREST_LIFETIME, shortest_nni want.lifetime) ∷ [])),
    )

-- Whether the node's Interest for this want cannot be encoded. The Interest cannot be encoded if
-- the want's name is empty or has a parameters digest, or if the Interest has more than 8,800
-- octets.
abbrev pub is_unwritable : Want → List ℕ → Bool
is_unwritable want nonce =
    is_bad_name want.name || nat_lt 8800 (length (fetch_text want nonce))

abbrev pub to_chosen : Choice → List ℕ → List Send
to_chosen choices.NoRoute text = []
to_chosen (choices.Send faces) text = to_each faces text

-- How the node's Interest for a want is sent: once to each face that the strategy chooses. There
-- are no sends if there is no want, if the Interest cannot be encoded, or if the strategy finds no
-- route. The input of the strategy states that the Interest came from no face and was not sent
-- before.
abbrev pub fetch_sends : Policy → List ℕ → Option Want → List Send
fetch_sends p nonce None = []
fetch_sends p nonce (Some want) =
    if is_unwritable want nonce then [] else
    to_chosen (choice_for p want.name map.empty (ask_for p want.name)) (fetch_text want nonce)

-- ---- all commands

-- the reply to a command, and the Interests that the node sends to fetch Data for the command
pub record Reply : Type 0 where
  pub status : ℕ
  pub content : List ℕ
  pub fetches : List Send

-- the reply to an allowed command; for a request that is not a command, the reply is empty and
-- has the status 0
abbrev pub allowed_reply : Policy → ℕ → PlainInterest → Request → Reply
allowed_reply p face i (Refused reason) = record { status = 0; content = []; fetches = [] }
allowed_reply p face i (ForList asked) = record { status = 0; content = []; fetches = [] }
allowed_reply p face i ForTables =
    let c = command_at i.name in
    record { status = tables_status p face c; content = tables_reply p face c; fetches = [] }
allowed_reply p face i ForRepository =
    let r = repository_reply p i in
    record {
      status = r.status;
      content = repository_content r;
      fetches = fetch_sends p i.nonce r.fetch;
    }
allowed_reply p face i ForData = record { status = 0; content = []; fetches = [] }

-- the Content of a reply with status 403 and this text, or no octets if the request is not a
-- command
abbrev pub refused_content : Request → List ℕ → List ℕ
refused_content (Refused reason) text = []
refused_content (ForList asked) text = []
refused_content ForTables text = response NOT_AUTHORIZED text []
refused_content ForRepository text = repo_response NOT_AUTHORIZED text 0
refused_content ForData text = []

-- the id of the rule at this index, or no octets if there is no such rule
abbrev pub id_of : List PlainRule → ℕ → List ℕ
id_of rules rule = unwrap_or (option_map (λ r. r.id) (slice_get rules rule)) []

abbrev pub denial_text : Policy → ℕ → Reason → List ℕ
denial_text p rule reason = reason_name reason ++ (codes " by " ++ id_of p.rules rule)

-- the send of the reply to the face `face`, from which the command came, with this token, if there
-- is one; the reply is a Data with the command's name and this Content
abbrev pub replied : ℕ → Token → PlainInterest → List ℕ → Send
replied face token i content = sent_back face token (reply_text i.name content)

-- the Content of the reply to a command that came on this face, given the decision on the command
abbrev pub reply_content : Policy → ℕ → PlainInterest → Decision → List ℕ
reply_content p face i (decided.Allowed rule) =
    (allowed_reply p face i (request_of p face i)).content
reply_content p face i (decided.Denied rule reason) =
    refused_content (request_of p face i) (denial_text p rule.0 reason)
reply_content p face i decided.NoRule = refused_content (request_of p face i) (codes "no rule")

-- the answer to a command that came on this face with this token, given the decision on the
-- command: the reply and, if the command is allowed, the Interests that the node sends
abbrev pub command_answer : Policy → ℕ → Token → PlainInterest → Decision → Answer
command_answer p face token i (decided.Allowed rule) =
    let reply = allowed_reply p face i (request_of p face i) in
    record {
      verdict = Allowed rule.0 reply.status;
      sends = replied face token i (reply_content p face i (decided.Allowed rule)) ∷ reply.fetches;
    }
command_answer p face token i (decided.Denied rule reason) = record {
  verdict = Denied kinds.Interest rule.0 reason;
  sends = replied face token i (reply_content p face i (decided.Denied rule reason)) ∷ [];
}
command_answer p face token i decided.NoRule = record {
  verdict = NoRule kinds.Interest;
  sends = replied face token i (reply_content p face i decided.NoRule) ∷ [];
}

-- How a packet that is denied, or to which no rule applies, is answered. A command gets a reply
-- with status 403, which gives the reason and the rule, or says that no rule applies. For a Data,
-- nothing is sent. No packet of another kind is denied.
abbrev pub IsDenial : Policy → ℕ → Token → PlainFrame → Decision → Answer → Type 0
IsDenial p face token (AnInterest whole i) (decided.Allowed rule) answer = ⊥
IsDenial p face token (AnInterest whole i) (decided.Denied rule reason) answer =
    answer ≡ command_answer p face token i (decided.Denied rule reason)
IsDenial p face token (AnInterest whole i) decided.NoRule answer =
    answer ≡ command_answer p face token i decided.NoRule
IsDenial p face token (AData whole d) (decided.Allowed rule) answer = ⊥
IsDenial p face token (AData whole d) (decided.Denied rule reason) answer =
    answer ≡ record { verdict = Denied kinds.Data rule.0 reason; sends = [] }
IsDenial p face token (AData whole d) decided.NoRule answer =
    answer ≡ record { verdict = NoRule kinds.Data; sends = [] }
IsDenial p face token (ANack reason whole i) decision answer = ⊥
IsDenial p face token Idle decision answer = ⊥

-- The policy `p` after the signer, the SignatureTime and the SignatureSeqNum of an allowed command
-- are recorded in the guard of `p`. With None, nothing is recorded, and the result is `p`.
abbrev pub with_record : Policy → Option Recorded → Policy
with_record p None = p
with_record p (Some r) = record p { guard = with_recorded p.guard r }

-- The policy after the effect of an allowed command, before the command is recorded in the guard. A
-- request that is not a command has no effect.
abbrev pub after_request : Policy → ℕ → PlainInterest → Request → Policy
after_request p face i (Refused reason) = p
after_request p face i (ForList asked) = p
after_request p face i ForTables = after_tables p face (command_at i.name)
after_request p face i ForRepository = after_repository p i
after_request p face i ForData = p

abbrev pub after_allowed : Policy → ℕ → PlainInterest → Policy
after_allowed p face i =
    with_record (after_request p face i (request_of p face i)) (recorded_of i)
