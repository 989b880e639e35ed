-- How a command is answered once time has advanced to the command's moment: the command is carried
-- out or denied.
use Rattle.std.proofs.Common.{◌≡◌, ℕ, Bool, true, List, [], ◌∷◌, ◌++◌, refl, sym, ap, subst, ◌∙◌}
use Rattle.std.specs.Prelude.{codes, max}
use Rattle.ndn_packets.specs.Packet.{PlainInterest, AnInterest}
use Rattle.info_rules.specs.declared.decision.Decision.{Decision}
use Rattle.info_rules.specs.declared.decision.Decision.TheVariants as decided
use Rattle.info_rules.specs.declared.decision.Reason.{Reason}
use Rattle.info_rules.specs.declared.rule.Kind.TheVariants as kinds
use Rattle.info_rules.specs.declared.rules.RuleNo.{RuleNo}
use Rattle.replay_guard.specs.Guard.{Table}
use Rattle.pit_fib.specs.Cause.{Cause}
use Rattle.pit_fib.specs.Records.{HoldsTheLiving, Pending, records_at}
use Rattle.forwarder.specs.declared.request.NamedRequest.{NamedRequest}
use Rattle.forwarder.specs.declared.request.NamedRequest.TheVariants as named
use Rattle.forwarder.specs.declared.state.State.{State}
use Rattle.forwarder.specs.declared.verdict.Verdict.TheVariants as code
use Rattle.forwarder.specs.Event.{Send, Token}
use Rattle.forwarder.specs.Verdict.{Allowed, Answer, Denied, NoRule}
use Rattle.forwarder.specs.Policy.{Policy}
use Rattle.forwarder.specs.Request.{Request, Refused, ForList, ForTables, ForRepository, ForData, is_command, request_named, request_of}
use Rattle.forwarder.specs.Deciding.{IsDecidedAs, recorded_of}
use Rattle.forwarder.specs.Commands.{after_request, allowed_reply, command_answer, denial_text, refused_content, replied, with_record}
use Rattle.mgmt_core.specs.Reading.{command_at}
use Rattle.forwarder.specs.CommandStep.{IsCarriedOut, IsCommanded, request_use}
use Rattle.forwarder.specs.Cache.{CacheAfter, CacheUse, command_use}
use Rattle.forwarder.specs.Effects.{after_decision}
use Rattle.forwarder.specs.Replies.{RepliesToCommand, RepliesToRequest}
use Rattle.forwarder.specs.Handling.{IsAnswered, IsHandled, IsPacketEffect, packet_causes, packet_use, seen_by}
use Rattle.forwarder.specs.Node.{FollowAll, NodeState}
use Rattle.forwarder.specs.State.{IsLater, policy_of, state_of}
use Rattle.forwarder.proofs.Uses.{commanded_use}

-- Let a policy have the rules, the keys and the guard of `old`, and let its time be the greater of
-- `now` and the time of `old`. Then the decision of this policy on the command is `said`.
abbrev pub SaysAt : Policy → ℕ → List ℕ → PlainInterest → Decision → Type 0
SaysAt old now whole i said =
    (p : Policy) → p.rules ≡ old.rules → p.keys ≡ old.keys → p.guard ≡ old.guard → p.now ≡ max old.now now → IsDecidedAs p (AnInterest whole i) said

pub said_as : (old : Policy) (now moment : ℕ) (whole : List ℕ) (i : PlainInterest) (given said : Decision) → moment ≡ max old.now now → given ≡ said
    → ((p : Policy) → p.rules ≡ old.rules → p.keys ≡ old.keys → p.guard ≡ old.guard → p.now ≡ moment → IsDecidedAs p (AnInterest whole i) given)
    → SaysAt old now whole i said
said_as old now moment whole i given said at is says =
    λ p rules keys guard then. subst (λ (d : Decision). IsDecidedAs p (AnInterest whole i) d) is (says p rules keys guard (then ∙ sym at))

-- if `SaysAt` is true of `said`, then the decision on the command is `said` once time has advanced
-- to the command's moment
said_then : (old was : NodeState) (now : ℕ) (whole : List ℕ) (i : PlainInterest) (said : Decision) → IsLater old now was
    → SaysAt old.policy now whole i said → IsDecidedAs was.policy (AnInterest whole i) said
said_then old was now whole i said later says =
    says was.policy (ap (λ (p : Policy). p.rules) later.policy) (ap (λ (p : Policy). p.keys) later.policy)
    (ap (λ (p : Policy). p.guard) later.policy) (ap (λ (p : Policy). p.now) later.policy)

-- a command that is not on the tables is a command to the repository
pub other_command : (r : NamedRequest) → (r ≡ named.ForTables → ⊥) → is_command (request_named r) ≡ true → request_named r ≡ ForRepository
other_command (named.ForList asked) other e = absurd cc
other_command named.ForTables other e = absurd (other refl)
other_command named.ForRepository other e = refl
other_command named.ForData other e = absurd cc

-- replacing the guard of a node by an equal one gives the same node
pub with_guard : (n : NodeState) (guard : Table) → guard ≡ n.policy.guard → record n { policy = record n.policy { guard = guard } } ≡ n
with_guard n guard g = λ j. record n { policy = record n.policy { guard = g j } }

-- the request of an Interest is still the same once time has advanced to the Interest's moment
request_then : (old was : NodeState) (now face : ℕ) (i : PlainInterest) (request : Request) → IsLater old now was
    → request_of old.policy face i ≡ request → request_of was.policy face i ≡ request
request_then old was now face i request later is = ap (λ (p : Policy). request_of p face i) later.policy ∙ is

module _ (was new : NodeState) (face : ℕ) (token : Token) (whole : List ℕ) (i : PlainInterest) (request : Request) (is : request_of was.policy face i ≡ request)
    (command : is_command request ≡ true) (living : HoldsTheLiving was.pending) where
  replies_by : (answer : Answer) → RepliesToCommand (seen_by was) face token whole i answer → (r : Request) → is_command r ≡ true
      → RepliesToRequest (seen_by was) face token whole i answer r
  replies_by answer h (Refused reason) e = absurd cc
  replies_by answer h (ForList asked) e = absurd cc
  replies_by answer h ForTables e = h
  replies_by answer h ForRepository e = h
  replies_by answer h ForData e = absurd cc

  no_causes : (said : Decision) (now : ℕ) → packet_causes now face token (AnInterest whole i) (command_answer was.policy face token i said) ≡ []
  no_causes (decided.Allowed rule) now = refl
  no_causes (decided.Denied rule reason) now = refl
  no_causes decided.NoRule now = refl

  -- If the decision on a command is `said`, and the answer and the new node are those for this
  -- decision, then the command was answered.
  command_answered : (said : Decision) (answer : Answer) → command_answer was.policy face token i said ≡ answer → IsDecidedAs was.policy (AnInterest whole i) said
      → new.policy ≡ after_decision was.policy face (AnInterest whole i) said → new.pending ≡ was.pending
      → CacheAfter was.policy.now was.pending (packet_use was.policy.now face (AnInterest whole i) answer.verdict) was.cache new.cache → IsAnswered was face token (AnInterest whole i) answer new
  command_answered said answer given says policy pending cache = record {
    replies = subst (λ (r : Request). RepliesToRequest (seen_by was) face token whole i answer r) (sym is) (replies_by answer (said, says, sym given) request command);
    policy = subst (λ (b : Bool). IsPacketEffect was.policy face (AnInterest whole i) new.policy b) (sym (ap is_command is ∙ command)) (said, says, policy);
    pending = subst (λ (causes : List Cause). FollowAll causes was.pending new.pending)
        (sym (no_causes said was.policy.now) ∙ ap (λ (a : Answer). packet_causes was.policy.now face token (AnInterest whole i) a) given)
        (λ key. ap (λ (p : Pending). records_at p key) pending);
    alive = subst HoldsTheLiving (sym pending) living;
    cache = cache;
  }

  allowed_answered : (rule : RuleNo) (status : ℕ) (sends : List Send) → IsDecidedAs was.policy (AnInterest whole i) (decided.Allowed rule)
      → IsCommanded was face token i request status sends new
      → IsAnswered was face token (AnInterest whole i) (record { verdict = Allowed rule.0 status; sends = sends }) new
  allowed_answered rule status sends says done =
      let answered = ap (λ (r : Request). (allowed_reply was.policy face i r).status) is ∙ sym done.answered in
      let used : request_use i status request ≡ command_use (command_at i.name) status =
      ap (λ (r : Request). request_use i status r) (sym is) ∙ commanded_use was.policy face status i (ap is_command is ∙ command) in
      let sent = ap (λ (r : Request). replied face token i (allowed_reply was.policy face i r).content ∷ (allowed_reply was.policy face i r).fetches) is ∙ sym done.sent in
      command_answered (decided.Allowed rule) (record { verdict = Allowed rule.0 status; sends = sends })
      (λ j. record { verdict = Allowed rule.0 (answered j); sends = sent j }) says
      (done.policy ∙ ap (λ (r : Request). with_record (after_request was.policy face i r) (recorded_of i)) (sym is))
      done.pending (subst (λ (used : CacheUse). CacheAfter was.policy.now was.pending used was.cache new.cache) used done.cache)

-- ---- the answer to a command that is denied

module _ (was : NodeState) (face : ℕ) (token : Token) (whole : List ℕ) (i : PlainInterest) (request : Request) (is : request_of was.policy face i ≡ request)
    (command : is_command request ≡ true) (living : HoldsTheLiving was.pending) where
  command_denied : (rule : RuleNo) (reason : Reason) (text : List ℕ) → text ≡ denial_text was.policy rule.0 reason
      → IsDecidedAs was.policy (AnInterest whole i) (decided.Denied rule reason)
      → IsAnswered was face token (AnInterest whole i) (record { verdict = Denied kinds.Interest rule.0 reason; sends = replied face token i (refused_content request text) ∷ [] }) was
  command_denied rule reason text written says =
      let same = ap (λ (r : Request). refused_content r (denial_text was.policy rule.0 reason)) is ∙ ap (refused_content request) (sym written) in
      command_answered was was face token whole i request is command living (decided.Denied rule reason) _
      (λ j. record { verdict = Denied kinds.Interest rule.0 reason; sends = replied face token i (same j) ∷ [] }) says refl refl refl

  command_by_no_rule : IsDecidedAs was.policy (AnInterest whole i) decided.NoRule
      → IsAnswered was face token (AnInterest whole i) (record { verdict = NoRule kinds.Interest; sends = replied face token i (refused_content request (codes "no rule")) ∷ [] }) was
  command_by_no_rule says =
      let same = ap (λ (r : Request). refused_content r (codes "no rule")) is in
      command_answered was was face token whole i request is command living decided.NoRule _
      (λ j. record { verdict = NoRule kinds.Interest; sends = replied face token i (same j) ∷ [] }) says refl refl refl

-- ---- what a handler of commands does

module _ (old : State) (before after : List Send) (face : ℕ) (token : Token) (now : ℕ) (whole : List ℕ) (i : PlainInterest) (request : Request)
    (is : request_of (policy_of old) face i ≡ request) (command : is_command request ≡ true) where
  -- a command that is carried out is handled, if the preparation for the command changed nothing
  pub carried_handled : (prepared new : State) (rule : RuleNo) (status : ℕ) → state_of prepared ≡ state_of old → SaysAt (policy_of old) now whole i (decided.Allowed rule)
      → IsCarriedOut prepared new before after face token now i request status → IsHandled old new before after face token now (AnInterest whole i) (code.Allowed rule status)
  carried_handled prepared new rule status same says (was, sends, sent, then, done) =
      let later = subst (λ (n : NodeState). IsLater n now was) same then in (
        was,
        sends,
        sent,
        later,
        allowed_answered was (state_of new) face token whole i request (request_then (state_of old) was now face i request later is) command later.living rule status sends
            (said_then (state_of old) was now whole i (decided.Allowed rule) later says) done,
      )

  module _ (new : State) (later : IsLater (state_of old) now (state_of new)) where
    abbrev was : NodeState
    was = state_of new

    is_then : request_of was.policy face i ≡ request
    is_then = request_then (state_of old) was now face i request later is

    pub denied_handled : (rule : RuleNo) (reason : Reason) (text : List ℕ) → ((p : Policy) → p.rules ≡ old.rules → text ≡ denial_text p rule.0 reason)
        → SaysAt (policy_of old) now whole i (decided.Denied rule reason) → after ≡ before ++ replied face token i (refused_content request text) ∷ []
        → IsHandled old new before after face token now (AnInterest whole i) (code.Denied kinds.Interest rule reason)
    denied_handled rule reason text written says sent = (
      was,
      _,
      sent,
      later,
      command_denied was face token whole i request is_then command later.living rule reason text (written was.policy (ap (λ (p : Policy). p.rules) later.policy))
          (said_then (state_of old) was now whole i (decided.Denied rule reason) later says),
    )

    pub no_rule_handled : SaysAt (policy_of old) now whole i decided.NoRule → after ≡ before ++ replied face token i (refused_content request (codes "no rule")) ∷ []
        → IsHandled old new before after face token now (AnInterest whole i) (code.NoRule kinds.Interest)
    no_rule_handled says sent = (
      was,
      _,
      sent,
      later,
      command_by_no_rule was face token whole i request is_then command later.living (said_then (state_of old) was now whole i decided.NoRule later says),
    )
